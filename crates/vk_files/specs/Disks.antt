-- Disks: what they hold, and what their calls tell.
use Rattle.std.specs.Prelude.{◌≡◌, ℕ, ◌≤◌, Bool, true, false, List, [], drop, slice_index_or, slice_set, Option, Some, None, Result, OnOk, is_ok}
use Rattle.vk_io.specs.Causes.{Rose}
use Rattle.vk_io.specs.declared.ends.Failed.{Failed}
use Rattle.vk_files.specs.declared.disk.Telling.{Telling}
use Rattle.vk_files.specs.declared.disk.Telling.TheVariants.{Done, Lost, Landed}

-- The bytes of the blocks of a disk, its count of faults, and what its calls to come will tell, in order, where the disk tells this
-- beforehand. Those behind the last of the list are done.
pub record DiskState : Type 0 where
  pub blocks : List (List ℕ)
  pub faults : ℕ
  pub coming : Option (List Telling)

abbrev pub is_done : Telling → Bool
is_done Done = true
is_done Lost = false
is_done Landed = false

-- the bytes of a block
abbrev pub block_at : List (List ℕ) → ℕ → List ℕ
block_at blocks block = slice_index_or blocks block []

-- the bytes that a read gives, where it is done
abbrev pub fetched : Telling → List (List ℕ) → ℕ → Option (List ℕ)
fetched Done blocks block = Some (block_at blocks block)
fetched Lost blocks block = None
fetched Landed blocks block = None

-- the blocks after a write
abbrev pub written : Telling → List (List ℕ) → ℕ → List ℕ → List (List ℕ)
written Done blocks block bytes = slice_set blocks block bytes
written Lost blocks block bytes = blocks
written Landed blocks block bytes = slice_set blocks block bytes

-- the count of faults rises where a call fails, and at nothing else
abbrev pub Counts : Telling → ℕ → ℕ → Type 0
Counts Done before now = now ≡ before
Counts Lost before now = (before ≤ now) × Rose before now
Counts Landed before now = (before ≤ now) × Rose before now

-- what is foretold of a call behind so many
abbrev pub told_at : List Telling → ℕ → Telling
told_at coming n = slice_index_or coming n Done

-- the call that was foretold first has come
abbrev pub IsForetold : Telling → Option (List Telling) → Option (List Telling) → Type 0
IsForetold t None now = Unit {0}
IsForetold t (Some coming) now = (t ≡ told_at coming 0) × (now ≡ Some (drop 1 coming))

-- one call was made, and told this
pub record IsCalled (t : Telling) (old new : DiskState) : Type 0 where
  pub counted : Counts t old.faults new.faults
  pub foretold : IsForetold t old.coming new.coming

-- A block was read: the bytes are those that stand there, unless the call failed. No block changed.
pub record IsBlockRead (block : ℕ) (old new : DiskState) (result : Result (Unit {0}) Failed) (into : List ℕ) : Type 0 where
  pub told : Telling
  pub called : IsCalled told old new
  pub answer : is_ok result ≡ is_done told
  pub bytes : OnOk result (into ≡ block_at old.blocks block)
  pub blocks : new.blocks ≡ old.blocks

-- A block was written. Where the call failed, it has its old bytes or the new ones. No other block changed.
pub record IsBlockWritten (block : ℕ) (bytes : List ℕ) (old new : DiskState) (result : Result (Unit {0}) Failed) : Type 0 where
  pub told : Telling
  pub called : IsCalled told old new
  pub answer : is_ok result ≡ is_done told
  pub blocks : new.blocks ≡ written told old.blocks block bytes

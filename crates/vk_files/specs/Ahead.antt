-- Which calls of the disk a file server makes: a block that was read ahead is not fetched again.
use Rattle.std.specs.Prelude.{◌≡◌, ℕ, Bool, true, false, ◌==◌, not, List, Option, Some, None, if◌then◌else◌}
use Rattle.vk_files.specs.Disks.{DiskState, IsCalled, fetched, is_done}
use Rattle.vk_files.specs.Servers.{DiskWork, Rests, Fetches, Writes, FetchesAhead, blocks_after}
use Rattle.vk_files.specs.declared.disk.Telling.{Telling}
use Rattle.vk_files.specs.declared.disk.Telling.TheVariants.{Done, Lost, Landed}

-- a disk, and the number of the block that was read ahead of it
pub record DiskAhead : Type 0 where
  pub disk : DiskState
  pub ahead : Option ℕ

-- this block was read ahead
abbrev pub is_ahead : Option ℕ → ℕ → Bool
is_ahead None block = false
is_ahead (Some b) block = b == block

-- whether the disk itself is called
abbrev pub calls_disk : Option ℕ → DiskWork → Bool
calls_disk ahead Rests = false
calls_disk ahead (Fetches block) = not (is_ahead ahead block)
calls_disk ahead (Writes block bytes) = true
calls_disk ahead (FetchesAhead block) = true

-- the block that is there ahead then: one that is written is forgotten, whatever the disk tells
abbrev pub ahead_after : Option ℕ → DiskWork → Telling → Option ℕ
ahead_after ahead (Writes block bytes) t = if is_ahead ahead block then None else ahead
ahead_after ahead (FetchesAhead block) Done = Some block
ahead_after ahead (FetchesAhead block) Lost = None
ahead_after ahead (FetchesAhead block) Landed = None
ahead_after ahead Rests t = ahead
ahead_after ahead (Fetches block) t = ahead

-- the disk was called once and told this, or was not called, and then all is done
abbrev pub IsCalledIf : Bool → Telling → DiskState → DiskState → Type 0
IsCalledIf true t old new = IsCalled t old new
IsCalledIf false t old new = (t ≡ Done) × (new ≡ old)

-- this was asked of the disk, which told this
pub record Works (w : DiskWork) (t : Telling) (old new : DiskAhead) : Type 0 where
  pub called : IsCalledIf (calls_disk old.ahead w) t old.disk new.disk
  pub blocks : new.disk.blocks ≡ blocks_after w t old.disk.blocks
  pub ahead : new.ahead ≡ ahead_after old.ahead w t

-- a block was fetched, unless the disk failed
pub record IsFetched (block : ℕ) (old new : DiskAhead) (result : Option (List ℕ)) : Type 0 where
  pub told : Telling
  pub works : Works (Fetches block) told old new
  pub bytes : result ≡ fetched told old.disk.blocks block

-- a block was written, or the disk failed
pub record IsPut (block : ℕ) (bytes : List ℕ) (old new : DiskAhead) (result : Bool) : Type 0 where
  pub told : Telling
  pub works : Works (Writes block bytes) told old new
  pub answer : result ≡ is_done told

-- a block was fetched ahead, or the disk failed
pub record IsFetchedAhead (block : ℕ) (old new : DiskAhead) : Type 0 where
  pub told : Telling
  pub works : Works (FetchesAhead block) told old new

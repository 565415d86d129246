-- Disks in memory, as a plain value, and what they are as disks.
use Rattle.std.specs.Prelude.{ℕ, nat_lt, List, [], ◌∷◌, ◌++◌, drop, length, Some, if◌then◌else◌}
use Rattle.vk_io.specs.Causes.{next_count}
use Rattle.vk_files.specs.Disks.{DiskState, told_at, written}
use Rattle.vk_files.specs.declared.disk.Telling.{Telling}
use Rattle.vk_files.specs.declared.disk.Telling.TheVariants.{Done, Lost, Landed}
use Rattle.vk_files.specs.declared.memory.DiskCall.{DiskCall}
use Rattle.vk_files.specs.declared.memory.DiskCall.TheVariants as disk_calls

-- one that never fails, by its blocks
abbrev pub sure_state : List (List ℕ) → DiskState
sure_state blocks = record { blocks = blocks; faults = 0; coming = Some [] }

-- One some of whose calls fail: its blocks, what its calls to come tell, how many failed, the first of those that were made, and how many
-- of these it keeps.
pub record MemoryState : Type 0 where
  pub blocks : List (List ℕ)
  pub coming : List Telling
  pub faults : ℕ
  pub calls : List DiskCall
  pub room : ℕ

-- before its first call
abbrev pub new_memory : List (List ℕ) → List Telling → ℕ → MemoryState
new_memory blocks plan room = record { blocks = blocks; coming = plan; faults = 0; calls = []; room = room }

abbrev pub memory_state : MemoryState → DiskState
memory_state s = record { blocks = s.blocks; faults = s.faults; coming = Some s.coming }

-- one fault more, where the call failed
abbrev pub faults_after : Telling → ℕ → ℕ
faults_after Done faults = faults
faults_after Lost faults = next_count faults
faults_after Landed faults = next_count faults

-- after one call more, which wrote nothing
abbrev pub begun : MemoryState → DiskCall → MemoryState
begun s call = record {
  blocks = s.blocks;
  coming = drop 1 s.coming;
  faults = faults_after (told_at s.coming 0) s.faults;
  calls = if nat_lt (length s.calls) s.room then s.calls ++ call ∷ [] else s.calls;
  room = s.room;
}

-- after a write
abbrev pub after_write : MemoryState → ℕ → List ℕ → MemoryState
after_write s block bytes = record (begun s (disk_calls.Write block)) { blocks = written (told_at s.coming 0) s.blocks block bytes }

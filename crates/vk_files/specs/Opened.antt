-- File servers that were made, and disks that cannot be served.
use Rattle.std.specs.Prelude.{◌≡◌, ℕ, ◌<◌, ◌^◌, List, length, Some, None}
use Rattle.vk_io.specs.Causes.{Rose}
use Rattle.vk_files.specs.Ahead.{DiskAhead}
use Rattle.vk_files.specs.Disks.{DiskState, IsCalled}
use Rattle.vk_files.specs.Placed.{IsPlaced}
use Rattle.vk_files.specs.Servers.{between}
use Rattle.vk_files.specs.Tasks.{FileState}
use Rattle.vk_files.specs.Volumes.{files_of, first_bad}
use Rattle.vk_files.specs.declared.disk.Telling.TheVariants.{Done}
use Rattle.vk_files.specs.declared.entry.Entry.{Entry}
use Rattle.vk_files.specs.declared.serving.FileServing.{FileServing}
use Rattle.vk_files.specs.declared.volume.VolumeFault.{VolumeFault}
use Rattle.vk_files.specs.declared.volume.VolumeFault.TheVariants as faults

-- what a server keeps to, which was made over this disk: the directory is its first block and lawful, and what it does lies on the disk
pub record IsServing (first : DiskState) (entries : List Entry) (doing : FileServing) (reading : DiskAhead) : Type 0 where
  pub few : length first.blocks < 2 ^ 32
  pub files : entries ≡ files_of first.blocks
  pub lawful : first_bad (length first.blocks) (files_of first.blocks) ≡ None
  pub size : length reading.disk.blocks ≡ length first.blocks
  pub stage : IsPlaced (length first.blocks) doing

-- it was made over this disk, whose directory is lawful, has read it with one call, and done nothing else
pub record IsServerOpened (disk : DiskState) (asked : ℕ) (s : FileState) : Type 0 where
  pub lawful : first_bad (length disk.blocks) (files_of disk.blocks) ≡ None
  pub first : s.first ≡ disk
  pub requests : s.requests ≡ asked
  pub replies : s.replies ≡ 0
  pub stage : s.stage ≡ between asked 0
  pub ahead : s.reading.ahead ≡ None
  pub blocks : s.reading.disk.blocks ≡ disk.blocks
  pub called : IsCalled Done disk s.reading.disk

-- why it was not made: the count of the disk's faults rose, or this is the first entry at fault
abbrev pub IsCause : VolumeFault → DiskState → DiskState → Type 0
IsCause faults.Failed disk now = Rose disk.faults now.faults
IsCause (faults.BadVolume entry) disk now =
    (first_bad (length disk.blocks) (files_of disk.blocks) ≡ Some entry) × (now.faults ≡ disk.faults)
IsCause faults.NoMemory disk now = now.faults ≡ disk.faults

-- the disk comes back with the same blocks
pub record IsVolumeRefused (disk now : DiskState) (why : VolumeFault) : Type 0 where
  pub cause : IsCause why disk now
  pub blocks : now.blocks ≡ disk.blocks

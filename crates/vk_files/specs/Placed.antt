-- Where the blocks lie that a file server asks for: on its disk.
use Rattle.std.specs.Prelude.{◌≡◌, ℕ, ◌+◌, ◌<◌, ◌≤◌, List, Some}
use Rattle.vk_files.specs.Volumes.{file_at}
use Rattle.vk_files.specs.declared.entry.Entry.{Entry}
use Rattle.vk_files.specs.declared.entry.File.{File}
use Rattle.vk_files.specs.declared.serving.FileServing.{FileServing}
use Rattle.vk_files.specs.declared.serving.FileServing.TheVariants as stages
use Rattle.vk_files.specs.declared.serving.Turn.{Turn}
use Rattle.vk_files.specs.declared.serving.Turn.TheVariants as turns

-- a file has few blocks, and all of them are among so many
pub record IsOnDisk (count : ℕ) (f : File) : Type 0 where
  pub few : f.blocks ≤ 128
  pub there : (page : ℕ) → page < f.blocks → f.start + page < count

-- each file of a directory does
abbrev pub AreOnDisk : ℕ → List Entry → Type 0
AreOnDisk count files = (number : ℕ) (f : File) → file_at files number ≡ Some f → IsOnDisk count f

-- a page of such a file
pub record IsPageOn (count : ℕ) (f : File) (page : ℕ) : Type 0 where
  pub file : IsOnDisk count f
  pub within : page < f.blocks

-- what a server does speaks of such pages
abbrev pub IsPlaced : ℕ → FileServing → Type 0
IsPlaced count stages.Receive = Unit {0}
IsPlaced count (stages.Load from f page) = IsPageOn count f page
IsPlaced count (stages.Store from f page dest bytes) = IsPageOn count f page
IsPlaced count (stages.ReplyPage from f page dest) = IsPageOn count f page
IsPlaced count (stages.Gather from f at dest bytes) = IsPageOn count f at
IsPlaced count (stages.Move from f dest) = Unit {0}
IsPlaced count (stages.Reply from code file number) = Unit {0}
IsPlaced count stages.Exit = Unit {0}
IsPlaced count stages.Ended = Unit {0}

-- and so does what it asks of the disk
abbrev pub IsInReach : ℕ → Turn → Type 0
IsInReach count (turns.Goes next) = IsPlaced count next
IsInReach count (turns.GoesAhead f page next) = IsPageOn count f page × IsPlaced count next
IsInReach count (turns.FetchPage from f page dest) = IsPageOn count f page
IsInReach count (turns.FetchPart from f at dest) = IsPageOn count f at
IsInReach count (turns.WritePage from f page bytes) = IsPageOn count f page

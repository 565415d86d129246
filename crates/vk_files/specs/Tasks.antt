-- The task of a file server, and when the server may have been given these answers.
use Rattle.std.specs.Prelude.{◌≡◌, ℕ, ◌+◌, true, List, [], ◌∷◌, ◌++◌, drop, Option, Some, None, if◌then◌else◌}
use Rattle.vk_types.specs.Types.{Answer, Call}
use Rattle.vk_io.specs.Causes.{Rose}
use Rattle.vk_files.specs.Ahead.{DiskAhead, Works, ahead_after, calls_disk}
use Rattle.vk_files.specs.Disks.{DiskState, told_at}
use Rattle.vk_files.specs.Servers.{FetchesAhead, Server, DiskWork, answered, is_failure, new_server, stage_after, stage_call, turn_at, work_of}
use Rattle.vk_files.specs.Volumes.{files_of}
use Rattle.vk_files.specs.declared.disk.Telling.{Telling}
use Rattle.vk_files.specs.declared.disk.Telling.TheVariants.{Done}
use Rattle.vk_files.specs.declared.entry.Entry.{Entry}
use Rattle.vk_files.specs.declared.serving.FileServing.{FileServing}
use Rattle.vk_files.specs.declared.serving.Turn.{Turn}

-- after these answers, behind others, where behind each list of answers the disk tells this
abbrev pub answered_all : List Entry → ℕ → (List Answer → Telling) → Server → List Answer → List Answer → Server
answered_all files requests telling s behind [] = s
answered_all files requests telling s behind (a ∷ rest) =
    answered_all files requests telling (answered files requests s (telling (behind ++ a ∷ [])) a) (behind ++ a ∷ []) rest

-- a server of a disk with these blocks, and so many requests, after these answers, where the disk tells this
abbrev pub server_after : List (List ℕ) → ℕ → (List Answer → Telling) → List Answer → Server
server_after blocks requests telling given = answered_all (files_of blocks) requests telling (new_server blocks requests) [] given

-- and what it calls
abbrev pub file_call : List (List ℕ) → ℕ → (List Answer → Telling) → List Answer → Option Call
file_call blocks requests telling given = stage_call (server_after blocks requests telling given).stage

-- What the disk tells behind each list of answers, where it is foretold what its calls to come will tell.

-- a server, the block that was read ahead, how many calls of the disk were made, and what the last answer brought
pub record Course : Type 0 where
  pub server : Server
  pub ahead : Option ℕ
  pub made : ℕ
  pub told : Telling

-- what comes of one answer that asks this of the disk
abbrev pub told_by_disk : List Telling → Course → DiskWork → Telling
told_by_disk coming c w = if calls_disk c.ahead w then told_at coming c.made else Done

abbrev pub stepped : List Entry → ℕ → List Telling → Course → Answer → Course
stepped files requests coming c a =
    let w = work_of (turn_at files requests c.server.replies c.server.stage a) in
    record {
      server = answered files requests c.server (told_by_disk coming c w) a;
      ahead = ahead_after c.ahead w (told_by_disk coming c w);
      made = if calls_disk c.ahead w then c.made + 1 else c.made;
      told = told_by_disk coming c w;
    }

abbrev pub stepped_all : List Entry → ℕ → List Telling → Course → List Answer → Course
stepped_all files requests coming c [] = c
stepped_all files requests coming c (a ∷ rest) = stepped_all files requests coming (stepped files requests coming c a) rest

-- before its first call, behind the one that read the directory
abbrev pub new_course : List (List ℕ) → ℕ → Course
new_course blocks requests = record { server = new_server blocks requests; ahead = None; made = 1; told = Done }

abbrev pub course_of : List (List ℕ) → ℕ → List Telling → List Answer → Course
course_of blocks requests coming given = stepped_all (files_of blocks) requests coming (new_course blocks requests) given

-- a disk that tells nothing beforehand is taken for one that never fails
abbrev pub telling_of : List (List ℕ) → ℕ → Option (List Telling) → List Answer → Telling
telling_of blocks requests None given = Done
telling_of blocks requests (Some coming) given = (course_of blocks requests coming given).told

-- the task of a server that was made over this disk
abbrev pub file_task : DiskState → ℕ → List Answer → Option Call
file_task disk requests = file_call disk.blocks requests (telling_of disk.blocks requests disk.coming)

-- a file server: the disk that it was made over, as it was then, how many replies it is to make and has made, what it does, and its disk
pub record FileState : Type 0 where
  pub first : DiskState
  pub requests : ℕ
  pub replies : ℕ
  pub stage : FileServing
  pub reading : DiskAhead

abbrev pub server_of : FileState → Server
server_of s = record { blocks = s.reading.disk.blocks; replies = s.replies; stage = s.stage }

-- It may have been given these answers, and no others, and it is foretold what the disk will tell: nothing of this is known of a disk that
-- tells nothing beforehand.
pub record IsAfter (s : FileState) (given : List Answer) : Type 0 where
  pub coming : List Telling
  pub foretold : s.first.coming ≡ Some coming
  pub left : s.reading.disk.coming ≡ Some (drop (course_of s.first.blocks s.requests coming given).made coming)
  pub server : (course_of s.first.blocks s.requests coming given).server ≡ server_of s
  pub ahead : (course_of s.first.blocks s.requests coming given).ahead ≡ s.reading.ahead

-- this turn was taken with the disk, and this is next
pub record IsActed (turn : Turn) (old new : DiskAhead) (stage : FileServing) : Type 0 where
  pub told : Telling
  pub works : Works (work_of turn) told old new
  pub next : stage ≡ stage_after turn told old.disk.blocks

-- what it asks of its disk where its last call is answered so
abbrev pub asked_of_disk : FileState → Answer → DiskWork
asked_of_disk s a = work_of (turn_at (files_of s.first.blocks) s.requests s.replies s.stage a)

-- One step, whatever the disk foretells: what is asked of the disk, what it told, and the server by that.
pub record IsServerStep (a : Answer) (old new : FileState) : Type 0 where
  pub told : Telling
  pub works : Works (asked_of_disk old a) told old.reading new.reading
  pub server : server_of new ≡ answered (files_of old.first.blocks) old.requests (server_of old) told a
  -- a reply that the disk failed comes only where its count of faults rose now, and where no block was fetched ahead now
  pub failed : is_failure new.stage ≡ true → Rose old.reading.disk.faults new.reading.disk.faults
  pub none_ahead : is_failure new.stage ≡ true → (block : ℕ) → asked_of_disk old a ≡ FetchesAhead block → ⊥
  pub first : new.first ≡ old.first
  pub requests : new.requests ≡ old.requests

-- and before the first answer nothing changes
abbrev pub IsStepBy : Option Answer → FileState → FileState → Type 0
IsStepBy None old new = new ≡ old
IsStepBy (Some a) old new = IsServerStep a old new

-- What the clients of a file server get that load a file, in the runs of the one-machine kernel.
use Rattle.std.specs.Prelude.{ℕ, ◌≡◌, ◌<◌, ◌≤◌, List, slice_get, Some}
use Rattle.vk_types.specs.Types.{Answer, Message, Pid, Process, ProcessSpec, Step}
use Rattle.vk_base.specs.declared.answer.Answer.TheVariants as answers
use Rattle.vk_base.specs.declared.call.Call.TheVariants as calls
use Rattle.vk_base.specs.declared.step.Step.TheVariants as steps
use Rattle.vk_base.specs.Kernel.{initial_kernel, name_of}
use Rattle.vk_base.specs.Messages.{segment_of}
use Rattle.vk_base.specs.Ranges.{range_of, bytes_in}
use Rattle.vk_base.specs.Steps.{Run, run}
use Rattle.vk_files.specs.Messages.{code_of, file_of, reply_of}
use Rattle.vk_files.specs.Tasks.{file_call}
use Rattle.vk_files.specs.Volumes.{file_at, files_of}
use Rattle.vk_files.specs.declared.disk.Telling.{Telling}
use Rattle.vk_files.specs.declared.entry.File.{File}
use Rattle.vk_files.specs.declared.limits.TheConstants.{FILE_BYTES}
use Rattle.v_laws.specs.Places.{process_at, seen_at, taken_at}
use Rattle.v_laws.specs.Reached.{saw}
use Rattle.v_laws.specs.Sizes.{size_in}
use Rattle.v_pages.specs.Followed.{FollowsTask}
use Rattle.v_pages.specs.Requests.{Request, request_at}
use Rattle.v_pages.specs.Served.{RepliesToLast}
use Rattle.v_files.specs.Volumes.{IsVolume, disk_before, file_bytes}

-- The process has memory for the longest file, and follows the task of a file server over a disk that can be served, which had these
-- blocks when the server was made, and tells this behind each list of answers.
pub record IsFileServer (specs : List ProcessSpec) (ss : List Step) (r : Pid) (blocks : List (List ℕ)) (requests : ℕ)
    (telling : List Answer → Telling) : Type 0 where
  pub room : FILE_BYTES ≤ size_in specs r
  pub volume : IsVolume blocks
  pub follows : FollowsTask (file_call blocks requests telling) specs ss r

-- The memory has the file that this message asks for, from the start of the segment that it grants on, as it stood on the disk from one
-- place to another, between which no block of the disk changed. So these are the bytes that were fetched there.
pub record HasFile (specs : List ProcessSpec) (ss : List Step) (r : Pid) (blocks : List (List ℕ)) (requests : ℕ)
    (telling : List Answer → Telling) (from to : ℕ) (message reply : Message) (memory : List ℕ) : Type 0 where
  pub file : File
  pub asked : file_at (files_of blocks) (file_of message) ≡ Some file
  pub told : reply ≡ reply_of 0 file.number file.length
  pub fetched : (l : ℕ) → from < l → l ≤ to →
      disk_before blocks requests telling specs ss r l ≡ disk_before blocks requests telling specs ss r to
  pub bytes : bytes_in (range_of (segment_of message).start file.length) memory ≡
      file_bytes (disk_before blocks requests telling specs ss r to) file

-- The last Send of s was taken by the server r at one place, and at no other, and the reply that r gave at the later place j is
-- collected at the later place i. Where the message that r was shown asks for a load, and the reply has code 0, the memory of s has the
-- file at its collect.
pub record IsFileLoaded (specs : List ProcessSpec) (ss : List Step) (i j : ℕ) (s r : Pid) (blocks : List (List ℕ)) (requests : ℕ)
    (telling : List Answer → Telling) (reply : Message) : Type 0 where
  pub sender : Process
  pub now : process_at specs ss i s ≡ Some sender
  -- r takes the Send
  pub place : ℕ
  pub request : Request
  pub takes : request_at specs ss r place ≡ Some request
  pub name : request.name ≡ name_of s sender.sends
  pub once : (l : ℕ) (q : Request) → request_at specs ss r l ≡ Some q → q.name ≡ request.name → l ≡ place
  -- r replies to it
  pub behind : place < j
  -- s collects the reply
  pub collected : j < i
  pub file : code_of request.message ≡ 6 → code_of reply ≡ 0 →
      HasFile specs ss r blocks requests telling place j request.message reply sender.memory

-- Where s sent to r itself, no process but r takes the Send, and what r is shown is what s sent.
pub record IsLoadedAlone (specs : List ProcessSpec) (ss : List Step) (i : ℕ) (s r : Pid) (blocks : List (List ℕ)) (requests : ℕ)
    (telling : List Answer → Telling) (message reply : Message) : Type 0 where
  pub reply_place : ℕ
  pub loaded : IsFileLoaded specs ss i reply_place s r blocks requests telling reply
  pub asked : loaded.request.message ≡ message
  pub alone : (l : ℕ) → taken_at specs ss l ≡ Some loaded.request.name → l ≡ loaded.place

-- In each run in which r is a file server, each sender that collects a reply of r, to whomever of r's station it sent, is served so.
abbrev pub LoadsAreWhole : Type 0
LoadsAreWhole = (specs : List ProcessSpec) (ss : List Step) (whole : Run) (r : Pid) (blocks : List (List ℕ)) (requests : ℕ)
    (telling : List Answer → Telling) (i j : ℕ) (s target : Pid) (message reply : Message) →
    run (initial_kernel specs) ss ≡ Some whole → IsFileServer specs ss r blocks requests telling →
    slice_get ss i ≡ Some (steps.Collect s) → seen_at specs ss i ≡ saw s (calls.Send target message) (answers.Replied reply) →
    RepliesToLast specs ss i j s r → IsFileLoaded specs ss i j s r blocks requests telling reply

-- Who sent to r, and collects a reply, was served by r alone.
abbrev pub SendersAreLoaded : Type 0
SendersAreLoaded = (specs : List ProcessSpec) (ss : List Step) (whole : Run) (r : Pid) (blocks : List (List ℕ)) (requests : ℕ)
    (telling : List Answer → Telling) (i : ℕ) (s : Pid) (message reply : Message) →
    run (initial_kernel specs) ss ≡ Some whole → IsFileServer specs ss r blocks requests telling →
    slice_get ss i ≡ Some (steps.Collect s) → seen_at specs ss i ≡ saw s (calls.Send r message) (answers.Replied reply) →
    IsLoadedAlone specs ss i s r blocks requests telling message reply

-- What `join` answers and writes: the input is texts of stations, and the schedule that their logs say is written.
use Rattle.std.specs.Prelude.{ℕ, ◌≡◌, ◌<◌, ◌≤◌, nat_lt, List, [], ◌∷◌, fold, length, Option, Some, None, Result, Ok, Err, if◌then◌else◌}
use Rattle.std.specs.Io.KnownBytes.{Appends}
use Rattle.vk_base.specs.declared.limits.TheConstants.{INPUT_BYTES}
use Rattle.vk_cluster.specs.declared.frames.TheConstants.{MOST_BYTES}
use Rattle.vk_schedule.specs.declared.schedule.Schedule.{Schedule}
use Rattle.vk_schedule.specs.declared.schedule.TextRefusal.{TextRefusal}
use Rattle.vk_schedule.specs.Schedule.{schedule_of}
use Rattle.vk_schedule.specs.Spelling.{schedule_text}
use Rattle.vk_join.specs.declared.log.JoinRefusal.{JoinRefusal}
use Rattle.vk_join.specs.declared.log.JoinRefusal.TheVariants as refusals
use Rattle.vk_schedule.specs.declared.log.StationLog.{StationLog}
use Rattle.vk_join.specs.Joined.{IsJoined}
use Rattle.vk_join.specs.Logs.{byte_count}
use Rattle.vk_join.specs.Stray.{join_refusal}
use Rattle.vk_event.specs.Nodes.{nodes_of}
use Rattle.vk_event.specs.declared.node.NodeTexts.{NodeTexts}
use Rattle.vk_top.specs.declared.status.Status.{Status}
use Rattle.vk_top.specs.declared.status.Status.TheVariants as status
use Rattle.vk_top.specs.Statuses.{refused}

-- The logs that the texts tell, by rising hosts: each is put in front of the first of a greater host.
abbrev pub put_log : List StationLog → StationLog → List StationLog
put_log [] l = l ∷ []
put_log (m ∷ ms) l = if nat_lt l.host m.host then l ∷ m ∷ ms else m ∷ put_log ms l

abbrev pub in_order : List StationLog → List StationLog
in_order logs = fold put_log [] logs

-- why these logs are not joined, where they are not
abbrev pub nodes_refusal : NodeTexts → Option JoinRefusal
nodes_refusal n = join_refusal n.config (in_order n.logs)

-- The input is texts of stations, and the schedule says what their logs say, in one order: nothing is missing in its history, which rises,
-- and each station has there exactly the events of its log, with exactly the bytes that it took. Its steps are a run of the one-machine
-- kernel, with exactly the observations of the processes. The text of the schedule reads as it again.
pub record HasJoined (input : List ℕ) (schedule : Schedule) : Type 0 where
  pub nodes : NodeTexts
  pub text : nodes_of input ≡ Ok nodes
  pub none : nodes_refusal nodes ≡ None
  pub joined : IsJoined nodes.config (in_order nodes.logs) schedule
  pub read : schedule_of (schedule_text schedule) ≡ Ok schedule

-- and this is its text
pub record IsJoinOutput (input output : List ℕ) : Type 0 where
  pub schedule : Schedule
  pub joined : HasJoined input schedule
  pub lines : output ≡ schedule_text schedule

-- and its text is written
pub record IsJoinWritten (input : List ℕ) (old new : Option (List ℕ)) : Type 0 where
  pub small : length input ≤ INPUT_BYTES
  pub schedule : Schedule
  pub joined : HasJoined input schedule
  pub output : Appends old new (schedule_text schedule)

-- The input is texts of stations, and of the deliveries in their logs, by host and event, this is the first that is stray: no station
-- emitted the bytes for this one.
pub record HasStray (input : List ℕ) (host event : ℕ) : Type 0 where
  pub small : length input ≤ INPUT_BYTES
  pub nodes : NodeTexts
  pub text : nodes_of input ≡ Ok nodes
  pub taken : List ℕ
  pub emitted : Option (List ℕ)
  pub stray : nodes_refusal nodes ≡ Some (refusals.Stray host event taken emitted)

-- The input is texts of stations. The entries of these stations, each of which has the events of its text, emit too many bytes.
pub record EmitsTooMuch (input : List ℕ) : Type 0 where
  pub nodes : NodeTexts
  pub text : nodes_of input ≡ Ok nodes
  pub over : MOST_BYTES < byte_count nodes.config (in_order nodes.logs)

-- the answer where logs are not joined; only code can want memory
abbrev pub refused_join : JoinRefusal → Status
refused_join (refusals.Stray host event taken emitted) = status.Stray host event
refused_join refusals.Limit = status.Limit
refused_join refusals.NoMemory = status.NoMemory

abbrev pub nodes_status : Option JoinRefusal → Status
nodes_status None = status.Done
nodes_status (Some e) = refused_join e

-- what texts of stations ask for
abbrev pub join_status : Result NodeTexts TextRefusal → Status
join_status (Ok n) = nodes_status (nodes_refusal n)
join_status (Err e) = refused e

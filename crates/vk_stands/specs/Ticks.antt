-- What a tick makes of a station: each process whose work is due, in order, and then the aliens that are over.
use Rattle.std.specs.Prelude.{ℕ, ◌≡◌, ◌+◌, Bool, false, List, [], ◌∷◌, ◌++◌, map, flat_map, option_to_list, if◌then◌else◌}
use Rattle.std.specs.Option.{option_map_or}
use Rattle.vk_types.specs.Types.{Activity, MoveName, Outcome, Step, Times, Waiting}
use Rattle.vk_base.specs.declared.activity.Activity.TheVariants as activities
use Rattle.vk_base.specs.declared.activity.Outcome.TheVariants as outcomes
use Rattle.vk_base.specs.declared.activity.Waiting.TheVariants as waitings
use Rattle.vk_base.specs.declared.answer.Refusal.TheVariants as refusals
use Rattle.vk_base.specs.Activities.{call_of}
use Rattle.vk_base.specs.Packets.{Packet, Send, AskPid}
use Rattle.vk_base.specs.Settings.{Settings}
use Rattle.vk_pool.specs.Aliens.{kept}
use Rattle.vk_procs.specs.declared.seat.Seat.{Seat}
use Rattle.vk_procs.specs.Seats.{finished}
use Rattle.vk_rules.specs.CallOutcomes.{work_failure}
use Rattle.vk_rules.specs.Entries.{Ticked}
use Rattle.vk_rules.specs.Readings.{Reading}
use Rattle.vk_rules.specs.Right.{own_pids, right_entry}
use Rattle.vk_rules.specs.Rounds.{data_packets, request_packet}
use Rattle.vk_stands.specs.Fit.{AreFit}
use Rattle.vk_stands.specs.Rules.{Doing, Makes, posted}
use Rattle.vk_stands.specs.Stands.{Stands}
use Rattle.vk_stands.specs.Tables.{Tables, is_work}
use Rattle.vk_timer.specs.declared.work.Due.{Due}
use Rattle.vk_timer.specs.declared.work.Due.TheVariants as dues
use Rattle.vk_timer.specs.Works.{due_at, sent_again}

-- The round of a work: the Send with its part, the data or the request of a move from where it is, or the question of a lookup.
abbrev pub work_round : Seat → Waiting → List Packet
work_round s (waitings.Send target m) = Send s.pid target s.note.sends m s.part.bytes ∷ []
work_round s (waitings.MoveTo partner dest src count) =
    option_map_or (data_packets s.pid partner s.memory dest src count s.note.offset) s.note.moving []
work_round s (waitings.MoveFrom partner dest src count) =
    option_map_or (λ (m : MoveName). request_packet s.pid partner src count s.note.offset m ∷ []) s.note.moving []
work_round s (waitings.GetPid logical scope) = AskPid s.pid s.note.lookups logical ∷ []
work_round s w = []

-- it goes out once more; for a move no bytes came since
abbrev pub fresh_then : Waiting → Bool → Bool
fresh_then (waitings.MoveTo partner dest src count) fresh = false
fresh_then (waitings.MoveFrom partner dest src count) fresh = false
fresh_then w fresh = fresh

abbrev pub tried_again : Times → ℕ → Waiting → Seat → Seat
tried_again times now w s = record s {
  note = record s.note { work = sent_again times now s.note.work; fresh = fresh_then w s.note.fresh };
}

-- how a work ends that nobody answers
abbrev pub unanswered : Waiting → Outcome
unanswered (waitings.GetPid logical scope) = outcomes.Refused refusals.NotFound
unanswered w = outcomes.Refused refusals.TimedOut

-- What a tick makes of one process.
pub record Ticking : Type 0 where
  pub seat : Seat
  pub steps : List Step
  pub packets : List Packet

abbrev pub at_rest : Seat → Ticking
at_rest s = record { seat = s; steps = []; packets = [] }

abbrev pub ticking_by : Times → ℕ → Seat → Waiting → Due → Ticking
ticking_by times now s w dues.NotDue = at_rest s
ticking_by times now s w dues.Resend = record { seat = tried_again times now w s; steps = []; packets = work_round s w }
ticking_by times now s w dues.GiveUp =
    record { seat = finished (unanswered w) s; steps = option_to_list (work_failure s.pid (call_of w)); packets = [] }

abbrev pub ticking_in : Times → ℕ → Seat → Activity → Ticking
ticking_in times now s (activities.Blocked w) =
    if is_work s.pid w then ticking_by times now s w (due_at times now s.note.work) else at_rest s
ticking_in times now s d = at_rest s

abbrev pub ticking : Times → ℕ → Seat → Ticking
ticking times now s = ticking_in times now s s.doing

-- Of the whole station, in order.
abbrev pub ticked_seat : Times → ℕ → Seat → Seat
ticked_seat times now s = (ticking times now s).seat

abbrev pub tick_tables : Times → ℕ → Tables → Tables
tick_tables times now t = record t { seats = map (ticked_seat times now) t.seats; slots = map (kept times now) t.slots }

abbrev pub tick_steps : Times → ℕ → List Seat → List Step
tick_steps times now seats = flat_map (λ s. (ticking times now s).steps) seats

abbrev pub tick_packets : Times → ℕ → List Seat → List Packet
tick_packets times now seats = flat_map (λ s. (ticking times now s).packets) seats

abbrev pub after_tick : Times → ℕ → Doing → Doing
after_tick times now d = record {
  tables = tick_tables times now d.tables;
  steps = d.steps ++ tick_steps times now d.tables.seats;
  out = posted d.out (tick_packets times now d.tables.seats);
}

-- Of all processes of a station it is the right entry; and the tables fit then.
abbrev pub TicksAreRight : Type 0
TicksAreRight = (c : Settings) (host : ℕ) (r : Reading) (d : Doing) →
    map (λ (s : Seat). s.pid) d.tables.seats ≡ own_pids c host → AreFit host d.tables → Stands c.times host d.tables r →
    Makes c host r (right_entry c host r Ticked) d (after_tick c.times (r.now + 1) d)

abbrev pub TicksKeepFit : Type 0
TicksKeepFit = (times : Times) (host now : ℕ) (t : Tables) → AreFit host t → AreFit host (tick_tables times now t)

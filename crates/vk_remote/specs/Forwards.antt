-- What a Forward of a process of another station comes to, by the tables.
use Rattle.std.specs.Prelude.{ℕ, ◌+◌, not, List, [], ◌∷◌, Option, Some, None, if◌then◌else◌}
use Rattle.std.specs.List.{position}
use Rattle.vk_types.specs.Types.{Message, Outcome, Pid, Refusal, Step}
use Rattle.vk_base.specs.declared.answer.Refusal.TheVariants as refusals
use Rattle.vk_base.specs.declared.call.Call.TheVariants as calls
use Rattle.vk_base.specs.declared.limits.TheConstants.{STATION_PROCESSES}
use Rattle.vk_base.specs.declared.step.Step.TheVariants as steps
use Rattle.vk_pool.specs.declared.alien.Alien.{Alien}
use Rattle.vk_pool.specs.Aliens as pool
use Rattle.vk_pool.specs.Aliens.{changed_at, is_alien_from}
use Rattle.vk_procs.specs.declared.seat.Seat.{Seat}
use Rattle.vk_procs.specs.Seats.{is_live_in, is_seat, seat_in}
use Rattle.vk_local.specs.Calls.{done_by, steps_of, unless}
use Rattle.vk_local.specs.Done.{LeavesTables}
use Rattle.vk_local.specs.Takes.{served}
use Rattle.vk_remote.specs.Played.{lined_up}
use Rattle.vk_remote.specs.Replies.{is_holding}
use Rattle.vk_stands.specs.Tables.{Tables}

abbrev pub forward_refusal : List Seat → List (Option Alien) → Pid → Pid → Pid → Option Refusal
forward_refusal seats slots pid from to =
    if not (is_holding slots pid from) then Some refusals.NotAwaiting
    else if not (is_live_in (seat_in seats to)) then Some refusals.NoProcess
    else None

-- The message of the alien in this slot waits anew, at another process, behind all others.
abbrev pub moved_on : Tables → Message → Pid → Option ℕ → Tables
moved_on t m to None = t
moved_on t m to (Some slot) = record t {
  lists = lined_up t.lists (position (is_seat to) t.seats) (STATION_PROCESSES + slot);
  slots = changed_at slot (pool.forwarded m to) t.slots;
}

abbrev pub forwarded : Tables → Pid → Message → Pid → Tables
forwarded t from m to = moved_on t m to (position (is_alien_from from) t.slots)

-- It is taken if that process waits for one.
abbrev pub handed_over : Tables → Pid → Message → Pid → Tables
handed_over t from m to = served (forwarded t from m to) to

abbrev pub after_forward : Tables → Pid → Pid → Message → Pid → Tables
after_forward t pid from m to = unless (forward_refusal t.seats t.slots pid from to) (handed_over t from m to) t

abbrev pub forward_steps : Tables → Pid → Pid → Message → Pid → List Step
forward_steps t pid from m to = steps.Call pid (calls.Forward m from to)
    ∷ unless (forward_refusal t.seats t.slots pid from to) (steps_of (forwarded t from m to) to) []

abbrev pub IsFarForward : Pid → Pid → Message → Pid → Option Outcome → (old new : Tables) → (before after : List Step) → Type 0
IsFarForward pid from m to answer old new before after =
    LeavesTables (done_by (forward_refusal old.seats old.slots pid from to)) (after_forward old pid from m to)
    (forward_steps old pid from m to) answer new before after

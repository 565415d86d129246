-- What calls within the station come to, by the tables.
use Rattle.std.specs.Prelude.{ℕ, true, false, not, List, [], ◌∷◌, ◌++◌, map, slice_set, Option, Some, None, is_none}
use Rattle.std.specs.List.{position}
use Rattle.vk_types.specs.Types.{Call, Direction, Message, Outcome, Pid, Refusal, Step, Waiting}
use Rattle.vk_base.specs.declared.activity.Activity.TheVariants as activities
use Rattle.vk_base.specs.declared.activity.Outcome.TheVariants as outcomes
use Rattle.vk_base.specs.declared.activity.Waiting.TheVariants as waitings
use Rattle.vk_base.specs.declared.answer.Refusal.TheVariants as refusals
use Rattle.vk_base.specs.declared.call.Call.TheVariants as calls
use Rattle.vk_base.specs.declared.kernel.Direction.TheVariants as directions
use Rattle.vk_base.specs.declared.limits.TheConstants.{MOVE_BYTES, SEGMENT_BYTES}
use Rattle.vk_base.specs.declared.step.Step.TheVariants as steps
use Rattle.vk_base.specs.Activities.{call_of}
use Rattle.vk_base.specs.Calls.{first_that_holds}
use Rattle.vk_base.specs.Firsts.{change_first}
use Rattle.vk_base.specs.Messages.{segment_of}
use Rattle.vk_pool.specs.declared.alien.Alien.{Alien}
use Rattle.vk_procs.specs.declared.seat.Seat.{Seat}
use Rattle.vk_procs.specs.declared.seat.Passed.TheVariants as gifts
use Rattle.vk_procs.specs.Seats.{begun_send, doing_now, finished, handed_on, is_live_in, is_seat, passed, seat_in}
use Rattle.vk_queue.specs.Lists.{queue_at, without}
use Rattle.vk_local.specs.declared.access.Access.{Access}
use Rattle.vk_local.specs.declared.access.Segment.{Segment}
use Rattle.vk_local.specs.Access.{access_refusal, not_awaiting, own_range}
use Rattle.vk_local.specs.Takes.{front_of, served, served_steps}
use Rattle.vk_stands.specs.Held.{local_holding}
use Rattle.vk_stands.specs.Tables.{Tables}

-- what a call is answered that is done at once where it is not refused, and one that is begun
abbrev pub done_by : Option Refusal → Option Outcome
done_by None = Some outcomes.Ok
done_by (Some why) = Some (outcomes.Refused why)

abbrev pub begun_by : Option Refusal → Option Outcome
begun_by None = None
begun_by (Some why) = Some (outcomes.Refused why)

-- what is changed where a call is not refused
abbrev pub unless : {A : Type 0} → Option Refusal → A → A → A
unless None changed same = changed
unless (Some why) changed same = same

abbrev pub tables_of : List Seat → List (List ℕ) → List (Option Alien) → Tables
tables_of seats lists slots = record { seats = seats; lists = lists; slots = slots; names = [] }

-- the first message that waits is taken behind the call
abbrev pub steps_of : Tables → Pid → List Step
steps_of t pid = served_steps pid (front_of t.seats t.lists pid)

-- Send.
abbrev pub send_refusal : List Seat → Pid → Pid → Message → Option Refusal
send_refusal seats pid target m = first_that_holds (
    (not (own_range seats pid (segment_of m).start (segment_of m).len), refusals.BadSegment)
    ∷ (not (is_live_in (seat_in seats target)), refusals.NoProcess)
    ∷ [])

abbrev pub sent_seats : List Seat → Pid → Pid → Message → List Seat
sent_seats seats pid target m = change_first (is_seat pid) (begun_send target m) seats

-- a slot at the end of a list, and nowhere else
abbrev pub put_last : List (List ℕ) → ℕ → ℕ → List (List ℕ)
put_last lists list slot = slice_set (map (without slot) lists) list (queue_at (map (without slot) lists) list ++ slot ∷ [])

abbrev pub queued_by : List (List ℕ) → Option ℕ → Option ℕ → List (List ℕ)
queued_by lists None slot = lists
queued_by lists (Some list) None = lists
queued_by lists (Some list) (Some slot) = put_last lists list slot

-- the message waits at its target behind all others
abbrev pub queued : List Seat → List (List ℕ) → Pid → Pid → List (List ℕ)
queued seats lists pid target = queued_by lists (position (is_seat target) seats) (position (is_seat pid) seats)

abbrev pub sent : Tables → Pid → Pid → Message → Tables
sent t pid target m =
    record t { seats = sent_seats t.seats pid target m; lists = queued (sent_seats t.seats pid target m) t.lists pid target }

-- and is taken if the target waits for one
abbrev pub begun : Tables → Pid → Pid → Message → Tables
begun t pid target m = served (sent t pid target m) target

abbrev pub after_send : Tables → Pid → Pid → Message → Tables
after_send t pid target m = unless (send_refusal t.seats pid target m) (begun t pid target m) t

abbrev pub send_steps : Tables → Pid → Pid → Message → List Step
send_steps t pid target m =
    steps.Call pid (calls.Send target m) ∷ unless (send_refusal t.seats pid target m) (steps_of (sent t pid target m) target) []

-- Receive.
abbrev pub receive_refusal : List Seat → Pid → Waiting → Option Refusal
receive_refusal seats pid (waitings.ReceiveSegment start count) =
    first_that_holds ((not (own_range seats pid start count), refusals.BadRange) ∷ [])
receive_refusal seats pid w = None

abbrev pub waiting_seats : List Seat → Pid → Waiting → List Seat
waiting_seats seats pid w = change_first (is_seat pid) (doing_now (activities.Blocked w)) seats

abbrev pub received : Tables → Pid → Waiting → Tables
received t pid w = record t { seats = waiting_seats t.seats pid w }

abbrev pub awaited : Tables → Pid → Waiting → Tables
awaited t pid w = served (received t pid w) pid

abbrev pub after_receive : Tables → Pid → Waiting → Tables
after_receive t pid w = unless (receive_refusal t.seats pid w) (awaited t pid w) t

abbrev pub receive_steps : Tables → Pid → Waiting → List Step
receive_steps t pid w = steps.Call pid (call_of w) ∷ unless (receive_refusal t.seats pid w) (steps_of (received t pid w) pid) []

-- Reply: it reaches its sender, with its bytes.
abbrev pub replied_seats : List Seat → Pid → Message → List Seat
replied_seats seats to m = change_first (is_seat to) (finished (outcomes.Replied m)) seats

abbrev pub bytes_passed : List Seat → Pid → Pid → Segment → List Seat
bytes_passed seats from to s = passed from to (gifts.Bytes s.src s.count s.dest) seats

abbrev pub finish_steps : Option Refusal → Pid → List Step
finish_steps None to = steps.Finish to ∷ []
finish_steps (Some why) to = []

abbrev pub after_reply : List Seat → Pid → Pid → Message → List Seat
after_reply seats pid to m = unless (not_awaiting seats pid to) (replied_seats seats to m) seats

abbrev pub reply_steps : List Seat → Pid → Pid → Message → List Step
reply_steps seats pid to m = steps.Call pid (calls.Reply m to) ∷ finish_steps (not_awaiting seats pid to) to

abbrev pub reply_access : Segment → Access
reply_access s = record { limit = SEGMENT_BYTES; count = s.count; write = true; granted = s.dest; own = s.src }

abbrev pub after_reply_segment : List Seat → Pid → Pid → Message → Segment → List Seat
after_reply_segment seats pid to m s =
    unless (access_refusal seats pid to (reply_access s)) (replied_seats (bytes_passed seats pid to s) to m) seats

abbrev pub reply_segment_steps : List Seat → Pid → Pid → Message → Segment → List Step
reply_segment_steps seats pid to m s =
    steps.Call pid (calls.ReplySegment m to s.dest s.src s.count) ∷ finish_steps (access_refusal seats pid to (reply_access s)) to

-- Forward: the message waits anew, at another process of the station, behind all others, and is taken if that one waits for one.
abbrev pub forward_refusal : List Seat → Pid → Pid → Pid → Option Refusal
forward_refusal seats pid from to = first_that_holds (
    (is_none (local_holding seats pid from), refusals.NotAwaiting)
    ∷ (not (is_live_in (seat_in seats to)), refusals.NoProcess)
    ∷ [])

abbrev pub forwarded_seats : List Seat → Pid → Message → Pid → List Seat
forwarded_seats seats from m to = change_first (is_seat from) (handed_on m to) seats

abbrev pub forwarded : Tables → Pid → Message → Pid → Tables
forwarded t from m to =
    record t { seats = forwarded_seats t.seats from m to; lists = queued (forwarded_seats t.seats from m to) t.lists from to }

abbrev pub handed_over : Tables → Pid → Message → Pid → Tables
handed_over t from m to = served (forwarded t from m to) to

abbrev pub after_forward : Tables → Pid → Pid → Message → Pid → Tables
after_forward t pid from m to = unless (forward_refusal t.seats pid from to) (handed_over t from m to) t

abbrev pub forward_steps : Tables → Pid → Pid → Message → Pid → List Step
forward_steps t pid from m to =
    steps.Call pid (calls.Forward m from to) ∷ unless (forward_refusal t.seats pid from to) (steps_of (forwarded t from m to) to) []

-- Moves, in either direction.
abbrev pub move_call : Direction → Pid → Segment → Call
move_call directions.To partner s = calls.MoveTo partner s.dest s.src s.count
move_call directions.From partner s = calls.MoveFrom partner s.dest s.src s.count

abbrev pub move_access : Direction → Segment → Access
move_access directions.To s = record { limit = MOVE_BYTES; count = s.count; write = true; granted = s.dest; own = s.src }
move_access directions.From s = record { limit = MOVE_BYTES; count = s.count; write = false; granted = s.src; own = s.dest }

abbrev pub moved_seats : Direction → List Seat → Pid → Pid → Segment → List Seat
moved_seats directions.To seats pid partner s = bytes_passed seats pid partner s
moved_seats directions.From seats pid partner s = bytes_passed seats partner pid s

abbrev pub after_move : Direction → List Seat → Pid → Pid → Segment → List Seat
after_move way seats pid partner s =
    unless (access_refusal seats pid partner (move_access way s)) (moved_seats way seats pid partner s) seats

-- The rules keep whose processes a station has, in their order.
use Rattle.std.proofs.Common.{◌≡◌, ℕ, ◌-◌, List, map, Option, Some, None, refl, ◌∙◌}
use Rattle.std.specs.List.{slice_get}
use Rattle.std.specs.Prelude.{nat_lt}
use Rattle.vk_types.specs.Types.{Direction, Message, Pid, Refusal, Waiting}
use Rattle.vk_base.specs.declared.activity.Activity.TheVariants as activities
use Rattle.vk_base.specs.declared.activity.Outcome.TheVariants as outcomes
use Rattle.vk_base.specs.declared.kernel.Direction.TheVariants as directions
use Rattle.vk_base.specs.declared.limits.TheConstants.{STATION_PROCESSES}
use Rattle.vk_base.specs.Firsts.{change_first}
use Rattle.vk_pool.specs.declared.alien.Alien.{Alien}
use Rattle.vk_pool.specs.Aliens.{alien_at}
use Rattle.vk_procs.specs.declared.seat.Passed.TheVariants as gifts
use Rattle.vk_procs.specs.declared.seat.Seat.{Seat}
use Rattle.vk_procs.specs.Seats.{begun_send, bereft, doing_now, finished, handed_on, is_seat, killed, marked_taken, pids, reached}
use Rattle.vk_procs.proofs.PidsStay.{bereft_pid, pids_changed, pids_if, pids_mapped, pids_passed, reached_pid}
use Rattle.vk_stands.specs.Tables.{Tables}
use Rattle.vk_local.specs.declared.access.Segment.{Segment}
use Rattle.vk_local.specs.Access.{access_refusal, not_awaiting}
use Rattle.vk_local.specs.Calls.{after_forward, after_move, after_receive, after_reply, after_reply_segment, after_send, awaited, begun, bytes_passed, forward_refusal, forwarded, handed_over, move_access, moved_seats, receive_refusal, received, replied_seats, reply_access, send_refusal, sent, unless}
use Rattle.vk_local.specs.Exits.{exited_seats}
use Rattle.vk_local.specs.Takes.{alien_taken, front_of, local_taken, seats_at, served_seats}

pids_unless : (o : Option Refusal) (changed seats : List Seat) → pids changed ≡ pids seats → pids (unless o changed seats) ≡ pids seats
pids_unless None changed seats same = same
pids_unless (Some why) changed seats same = refl

tables_unless : (o : Option Refusal) (u t : Tables) → pids u.seats ≡ pids t.seats → pids (unless o u t).seats ≡ pids t.seats
tables_unless None u t same = same
tables_unless (Some why) u t same = refl

-- Replies and moves.
pub pids_replied : (seats : List Seat) (pid to : Pid) (m : Message) → pids (after_reply seats pid to m) ≡ pids seats
pids_replied seats pid to m = pids_unless (not_awaiting seats pid to) (replied_seats seats to m) seats
    (pids_changed (finished (outcomes.Replied m)) (λ x. refl) (is_seat to) seats)

pub pids_replied_segment : (seats : List Seat) (pid to : Pid) (m : Message) (s : Segment) →
    pids (after_reply_segment seats pid to m s) ≡ pids seats
pids_replied_segment seats pid to m s =
    pids_unless (access_refusal seats pid to (reply_access s)) (replied_seats (bytes_passed seats pid to s) to m) seats
    (pids_changed (finished (outcomes.Replied m)) (λ x. refl) (is_seat to) (bytes_passed seats pid to s)
    ∙ pids_passed pid to (gifts.Bytes s.src s.count s.dest) seats)

pids_copied : (way : Direction) (seats : List Seat) (pid partner : Pid) (s : Segment) →
    pids (moved_seats way seats pid partner s) ≡ pids seats
pids_copied directions.To seats pid partner s = pids_passed pid partner (gifts.Bytes s.src s.count s.dest) seats
pids_copied directions.From seats pid partner s = pids_passed partner pid (gifts.Bytes s.src s.count s.dest) seats

pub pids_moved : (way : Direction) (seats : List Seat) (pid partner : Pid) (s : Segment) →
    pids (after_move way seats pid partner s) ≡ pids seats
pids_moved way seats pid partner s =
    pids_unless (access_refusal seats pid partner (move_access way s)) (moved_seats way seats pid partner s) seats
    (pids_copied way seats pid partner s)

-- A Take.
pids_local_taken : (seats : List Seat) (pid : Pid) (s : Option Seat) → pids (local_taken seats pid s) ≡ pids seats
pids_local_taken seats pid None = refl
pids_local_taken seats pid (Some s) =
    pids_passed s.pid pid (gifts.Message s.shown) (change_first (is_seat s.pid) marked_taken seats)
    ∙ pids_changed marked_taken (λ x. refl) (is_seat s.pid) seats

pids_alien_taken : (seats : List Seat) (pid : Pid) (a : Option Alien) → pids (alien_taken seats pid a) ≡ pids seats
pids_alien_taken seats pid None = refl
pids_alien_taken seats pid (Some a) =
    pids_changed (reached a.sender a.shown a.part) (reached_pid a.sender a.shown a.part) (is_seat pid) seats

pub pids_at : (seats : List Seat) (slots : List (Option Alien)) (pid : Pid) (slot : ℕ) → pids (seats_at seats slots pid slot) ≡ pids seats
pids_at seats slots pid slot =
    pids_if (nat_lt slot STATION_PROCESSES) (local_taken seats pid (slice_get seats slot))
    (alien_taken seats pid (alien_at slots (slot - STATION_PROCESSES))) seats
    (pids_local_taken seats pid (slice_get seats slot)) (pids_alien_taken seats pid (alien_at slots (slot - STATION_PROCESSES)))

pub pids_served : (seats : List Seat) (slots : List (Option Alien)) (pid : Pid) (front : Option ℕ) →
    pids (served_seats seats slots pid front) ≡ pids seats
pids_served seats slots pid None = refl
pids_served seats slots pid (Some slot) = pids_at seats slots pid slot

-- Sends, receives and Forwards, each with the Take behind it.
pub pids_sent : (t : Tables) (pid target : Pid) (m : Message) → pids (after_send t pid target m).seats ≡ pids t.seats
pids_sent t pid target m =
    let u : Tables = sent t pid target m in
    tables_unless (send_refusal t.seats pid target m) (begun t pid target m) t
    (pids_served u.seats u.slots target (front_of u.seats u.lists target)
    ∙ pids_changed (begun_send target m) (λ x. refl) (is_seat pid) t.seats)

pub pids_received : (t : Tables) (pid : Pid) (w : Waiting) → pids (after_receive t pid w).seats ≡ pids t.seats
pids_received t pid w =
    let u : Tables = received t pid w in
    tables_unless (receive_refusal t.seats pid w) (awaited t pid w) t
    (pids_served u.seats u.slots pid (front_of u.seats u.lists pid)
    ∙ pids_changed (doing_now (activities.Blocked w)) (λ x. refl) (is_seat pid) t.seats)

pub pids_forwarded : (t : Tables) (pid from : Pid) (m : Message) (to : Pid) → pids (after_forward t pid from m to).seats ≡ pids t.seats
pids_forwarded t pid from m to =
    let u : Tables = forwarded t from m to in
    tables_unless (forward_refusal t.seats pid from to) (handed_over t from m to) t
    (pids_served u.seats u.slots to (front_of u.seats u.lists to)
    ∙ pids_changed (handed_on m to) (λ x. refl) (is_seat from) t.seats)

-- An exit.
pub pids_exited : (seats : List Seat) (pid : Pid) → pids (exited_seats seats pid) ≡ pids seats
pids_exited seats pid =
    pids_changed killed (λ x. refl) (is_seat pid) (map (bereft pid) seats) ∙ pids_mapped (bereft pid) (bereft_pid pid) seats

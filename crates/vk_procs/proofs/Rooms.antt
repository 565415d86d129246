-- Changes of processes leave room for the part of each.
use Rattle.std.proofs.Common.{◌≡◌, ◌≤◌, ◌+◌, ◌++◌, ℕ, zero, suc, Bool, true, false, cond, List, [], ◌∷◌, drop, take, filter, get_or, length, map, min, set, Option, Some, None, refl, sym, ap, subst, ◌∙◌, arith}
use Rattle.std.specs.List.{All, position}
use Rattle.std.proofs.lemmas.Bool.{leb-true}
use Rattle.std.proofs.lemmas.List.{length-append, length-drop, length-replicate, length-take-le}
use Rattle.std.proofs.lemmas.List.Elements.{All-cons, All-get_or, All-head, All-map, All-nil, All-tail}
use Rattle.std.proofs.lemmas.List.Quantifiers.{position-Some}
use Rattle.vk_types.specs.Types.{Message, Pid, ProcessSpec, Waiting}
use Rattle.vk_base.specs.declared.activity.Outcome.TheVariants as outcomes
use Rattle.vk_base.specs.declared.activity.Waiting.TheVariants as waitings
use Rattle.vk_base.specs.declared.answer.Refusal.TheVariants as refusals
use Rattle.vk_base.specs.declared.limits.TheConstants.{SEGMENT_BYTES}
use Rattle.vk_base.specs.Activities.{receive_in}
use Rattle.vk_base.specs.Firsts.{change_first}
use Rattle.vk_base.specs.Ranges.{range_of, lies_in, with_bytes}
use Rattle.vk_base.specs.Settings.{is_on}
use Rattle.vk_procs.specs.declared.seat.Passed.{Passed}
use Rattle.vk_procs.specs.declared.seat.Passed.TheVariants as gifts
use Rattle.vk_procs.specs.declared.seat.Seat.{Seat}
use Rattle.vk_procs.specs.Kept.{HasRoom}
use Rattle.vk_procs.specs.Seats.{bereft, finished, got, initial_seat, initial_seats, is_seat, overwritten, passed_by, reached, reached_by, waits_at, written}

-- bytes written change no size
length_by : (b : Bool) (memory : List ℕ) (at : ℕ) (bytes : List ℕ) → lies_in (range_of at (length bytes)) (length memory) ≡ b →
    length (cond b (with_bytes memory at bytes) memory) ≡ length memory
length_by true memory at bytes t =
    let fits : at + length bytes ≤ length memory = leb-true (at + length bytes) (length memory) t in
    let whole = length-append (take at memory ++ bytes) (drop (at + length bytes) memory) in
    let front = length-append (take at memory) bytes in
    let first = length-take-le at memory (omega arith) in
    let rest = length-drop (at + length bytes) memory in
    omega arith
length_by false memory at bytes f = refl

pub length_overwritten : (memory : List ℕ) (at : ℕ) (bytes : List ℕ) → length (overwritten at bytes memory) ≡ length memory
length_overwritten memory at bytes = length_by (lies_in (range_of at (length bytes)) (length memory)) memory at bytes refl

-- one process
pub room_written : (at : ℕ) (bytes : List ℕ) (s : Seat) → HasRoom s → HasRoom (written at bytes s)
room_written at bytes s room = subst (λ n. min n SEGMENT_BYTES ≤ s.part.room) (sym (length_overwritten s.memory at bytes)) room

reached_room : (o : Option Waiting) (from : Pid) (m : Message) (part : List ℕ) (s : Seat) → HasRoom s → HasRoom (reached_by o from m part s)
reached_room None from m part s room = room
reached_room (Some (waitings.Send target sent)) from m part s room = room
reached_room (Some waitings.Receive) from m part s room = room
reached_room (Some (waitings.ReceiveSegment start count)) from m part s room = room_written start (take count part) s room
reached_room (Some (waitings.MoveTo partner dest src count)) from m part s room = room
reached_room (Some (waitings.MoveFrom partner dest src count)) from m part s room = room
reached_room (Some (waitings.GetPid logical scope)) from m part s room = room

pub room_reached : (from : Pid) (m : Message) (part : List ℕ) (s : Seat) → HasRoom s → HasRoom (reached from m part s)
room_reached from m part s room = reached_room (receive_in s.doing) from m part s room

room_got : (what : Passed) (giver s : Seat) → HasRoom s → HasRoom (got what giver s)
room_got (gifts.Message m) giver s room = room_reached giver.pid m giver.part.bytes s room
room_got (gifts.Bytes src count dest) giver s room = room_written dest _ s room

bereft_room : (s : Seat) (b : Bool) → HasRoom s → HasRoom (cond b (finished (outcomes.Refused refusals.NoProcess) s) s)
bereft_room s true room = room
bereft_room s false room = room

pub room_bereft : (target : Pid) (s : Seat) → HasRoom s → HasRoom (bereft target s)
room_bereft target s room = bereft_room s (waits_at target s) room

-- all of a station: at first, where one changes as the code of a method writes it, and where all may
pub initial_rooms : (host : ℕ) (specs : List ProcessSpec) → All HasRoom (initial_seats host specs)
initial_rooms host specs = All-map HasRoom initial_seat (filter (is_on host) specs) (λ k d low.
    let s : ProcessSpec = get_or (filter (is_on host) specs) k d in
    let long = length-replicate s.size 0 in
    subst (λ n. min n SEGMENT_BYTES ≤ min s.size SEGMENT_BYTES) (sym long) (omega arith))

pub rooms_set : (seats : List Seat) (i : ℕ) (d v : Seat) → d ≡ get_or seats i d → (HasRoom d → HasRoom v) → All HasRoom seats →
    All HasRoom (set seats i v)
rooms_set [] i d v is keep rooms = rooms
rooms_set (x ∷ xs) zero d v is keep rooms =
    All-cons HasRoom v xs (keep (subst HasRoom (sym is) (All-head HasRoom x xs rooms))) (All-tail HasRoom x xs rooms)
rooms_set (x ∷ xs) (suc i) d v is keep rooms =
    All-cons HasRoom x (set xs i v) (All-head HasRoom x xs rooms) (rooms_set xs i d v is keep (All-tail HasRoom x xs rooms))

module _ (f : Seat → Seat) (keep : (s : Seat) → HasRoom s → HasRoom (f s)) where
  pub rooms_mapped : (seats : List Seat) → All HasRoom seats → All HasRoom (map f seats)
  rooms_mapped [] rooms = All-nil HasRoom
  rooms_mapped (x ∷ xs) rooms =
      All-cons HasRoom (f x) (map f xs) (keep x (All-head HasRoom x xs rooms)) (rooms_mapped xs (All-tail HasRoom x xs rooms))

  first_by : (x : Seat) (xs ys : List Seat) (b : Bool) → HasRoom x → All HasRoom xs → All HasRoom ys →
      All HasRoom (cond b (f x ∷ xs) (x ∷ ys))
  first_by x xs ys true room rooms rest = All-cons HasRoom (f x) xs (keep x room) rooms
  first_by x xs ys false room rooms rest = All-cons HasRoom x ys room rest

  rooms_changed : (p : Seat → Bool) (seats : List Seat) → All HasRoom seats → All HasRoom (change_first p f seats)
  rooms_changed p [] rooms = rooms
  rooms_changed p (x ∷ xs) rooms =
      let rest : All HasRoom xs = All-tail HasRoom x xs rooms in
      first_by x xs (change_first p f xs) (p x) (All-head HasRoom x xs rooms) rest (rooms_changed p xs rest)

pub rooms_given : (giver : Option Seat) (pid : Pid) (what : Passed) (seats : List Seat) → All HasRoom seats →
    All HasRoom (passed_by giver pid what seats)
rooms_given None pid what seats rooms = rooms
rooms_given (Some giver) pid what seats rooms = rooms_changed (got what giver) (room_got what giver) (is_seat pid) seats rooms

-- the one that the code of a method finds
pub room_at : (inside old : List Seat) (pid : Pid) (i : ℕ) (d : Seat) → Some i ≡ position (is_seat pid) old → inside ≡ old →
    d ≡ get_or inside i d → All HasRoom inside → HasRoom d
room_at inside old pid i d at view is rooms =
    subst HasRoom (sym is)
    (All-get_or HasRoom inside i d (position-Some (is_seat pid) inside i d (ap (position (is_seat pid)) view ∙ sym at)).0 rooms)

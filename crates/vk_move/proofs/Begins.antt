-- The first round of a move may go out.
use Rattle.std.proofs.Common.{◌≡◌, ℕ, ◌+◌, ◌<◌, ◌≤◌, ◌^◌, Bool, true, false, cond, ◌==◌, not, List, length, refl, ap, sym, ◌∙◌, Option, Some, None, ltb, arith, subst}
use Rattle.std.specs.List.{position}
use Rattle.std.specs.Option.{option_map, option_map_or}
use Rattle.std.specs.Cmp.Derive.{both_true}
use Rattle.std.proofs.lemmas.Bool.{and_parts, lt-ltb}
use Rattle.std.proofs.lemmas.Option.{same_Some, none-some}
use Rattle.vk_types.specs.Types.{Direction, Message, MoveName, Pid, Refusal, Times, Waiting}
use Rattle.vk_base.specs.declared.activity.Activity.TheVariants as activities
use Rattle.vk_base.specs.declared.answer.Refusal.TheVariants as refusals
use Rattle.vk_base.specs.Firsts.{change_first}
use Rattle.vk_base.specs.declared.kernel.Direction.TheVariants as directions
use Rattle.vk_base.specs.Kernel.{name_of}
use Rattle.vk_base.specs.Messages.{segment_of}
use Rattle.vk_base.specs.Ranges.{range_of, lies_in, lies_within}
use Rattle.vk_base.proofs.BoolLemmas.{not_zero}
use Rattle.vk_base.proofs.OptionLemmas.{mapped_is}
use Rattle.vk_packet.specs.Rules.{is_number, is_place}
use Rattle.vk_pool.specs.declared.alien.Alien.{Alien}
use Rattle.vk_pool.specs.Aliens.{alien_at, alien_from, is_alien_from, moves_at}
use Rattle.vk_procs.specs.declared.seat.Seat.{Seat}
use Rattle.vk_procs.specs.Seats.{doing_now, is_seat, seat_in}
use Rattle.vk_stands.proofs.Placed.{IsAlienAt, alien_is_at}
use Rattle.vk_stands.proofs.Seats.{find-changed}
use Rattle.vk_move.specs.declared.begun.Verdict.{Verdict}
use Rattle.vk_move.specs.declared.begun.Verdict.TheVariants as verdicts
use Rattle.vk_move.specs.Begun.{CanBegin, HasFewMoves, HasFitAliens, begun_note, grants_access, has_ranges, message_held, moves_of, next_name, own_of, size_of, theirs_of, verdict_by, verdict_in, verdict_on, waiting_in, waiting_seats}
use Rattle.vk_move.specs.Moved.{CanGoOn, going, renoted}
use Rattle.vk_move.proofs.Pieces.{is_at}

-- the aliens have few moves
few_by : (slots : List (Option Alien)) → HasFewMoves slots → (slot : ℕ) (o : Option Alien) → alien_at slots slot ≡ o →
    option_map_or (λ (a : Alien). a.moves) o 0 < 2 ^ 48
few_by slots few slot None is = omega arith
few_by slots few slot (Some a) is = few slot a is

few_at : (slots : List (Option Alien)) → HasFewMoves slots → (o : Option ℕ) → option_map_or (moves_at slots) o 0 < 2 ^ 48
few_at slots few None = omega arith
few_at slots few (Some slot) = few_by slots few slot (alien_at slots slot) refl

pub few_moves : (slots : List (Option Alien)) → HasFewMoves slots → (partner : Pid) → moves_of slots partner < 2 ^ 48
few_moves slots few partner = few_at slots few (position (is_alien_from partner) slots)

-- the numbers of the next move
pub record HasNumbers (m : MoveName) : Type 0 where
  pub send : is_number m.exchange.number ≡ true
  pub move : is_number m.number ≡ true

number_by : (slots : List (Option Alien)) (fit : HasFitAliens slots) (few : HasFewMoves slots) (partner : Pid) (slot : ℕ) (m : MoveName)
    (o : Option Alien) → alien_at slots slot ≡ o →
    option_map (λ (a : Alien). record { exchange = name_of partner a.number; number = moves_at slots slot + 1 }) o ≡ Some m → HasNumbers m
number_by slots fit few partner slot m None at is = absurd (none-some m is)
number_by slots fit few partner slot m (Some a) at is =
    let same = same_Some (record { exchange = name_of partner a.number; number = moves_at slots slot + 1 }) m is in
    let moves : moves_at slots slot ≡ a.moves = ap (λ o. option_map_or (λ (a : Alien). a.moves) o 0) at in
    let low = few slot a at in
    let some : 0 < moves_at slots slot + 1 = omega arith in
    let high : moves_at slots slot + 1 < 2 ^ 63 = omega arith in
    record {
      send = ap (λ (x : MoveName). is_number x.exchange.number) (sym same) ∙ (fit.1 slot a at).number;
      move = ap (λ (x : MoveName). is_number x.number) (sym same)
          ∙ both_true (lt-ltb 0 (moves_at slots slot + 1) some) (lt-ltb (moves_at slots slot + 1) (2 ^ 63) high);
    }

pub numbers_at : (slots : List (Option Alien)) (fit : HasFitAliens slots) (few : HasFewMoves slots) (partner : Pid) (m : MoveName)
    (o : Option ℕ) →
    next_name slots partner o ≡ Some m → HasNumbers m
numbers_at slots fit few partner m None is = absurd (none-some m is)
numbers_at slots fit few partner m (Some slot) is = number_by slots fit few partner slot m (alien_at slots slot) refl is

-- what is known of a move that begins
pub record MayBegin (size own count : ℕ) : Type 0 where
  pub place : is_place count 0 ≡ true
  pub lies : lies_in (range_of own count) size ≡ true

on_by : (a b c : Bool) → cond (not a) (verdicts.Refused refusals.NoAccess)
    (cond (not b) (verdicts.Refused refusals.BadRange) (cond c verdicts.Made verdicts.Begins)) ≡ verdicts.Begins → (b ≡ true) × (c ≡ false)
on_by true true true is = cc
on_by true true false is = (refl, refl)
on_by true false c is = cc
on_by false b c is = cc

few_of : (count : ℕ) → ltb 65536 count ≡ false → count ≤ 65536
few_of count f = grind arith

begins_by : (way : Direction) (size theirs own count : ℕ) (o : Option Message) → verdict_by way size theirs own count o ≡ verdicts.Begins →
    MayBegin size own count
begins_by way size theirs own count o is = with_test (ltb 65536 count) o refl is
  where
    with_some : (m : Message) → ltb 65536 count ≡ false → verdict_on way size theirs own count m ≡ verdicts.Begins → MayBegin size own count
    with_some m f is =
        let x = on_by (grants_access way m) (has_ranges m size theirs own count) (count == 0) is in
        let parts = and_parts (lies_within (range_of theirs count) (segment_of m)) (lies_in (range_of own count) size) x.0 in
        let some = not_zero count x.1 in
        record {
          place = is_at count 0 (record { some = some; few = few_of count f; multiple = refl; inside = some });
          lies = parts.1;
        }

    with_test : (b : Bool) (o : Option Message) → ltb 65536 count ≡ b → verdict_by way size theirs own count o ≡ verdicts.Begins →
        MayBegin size own count
    with_test true None t is = let e : verdicts.Refused refusals.TooLong ≡ verdicts.Begins = sym
        (ap (λ b. cond b (verdicts.Refused refusals.TooLong) (verdicts.Refused refusals.NotAwaiting)) t) ∙ is in cc
    with_test true (Some m) t is = let e : verdicts.Refused refusals.TooLong ≡ verdicts.Begins = sym
        (ap (λ b. cond b (verdicts.Refused refusals.TooLong) (verdict_on way size theirs own count m)) t) ∙ is in cc
    with_test false None f is = let e : verdicts.Refused refusals.NotAwaiting ≡ verdicts.Begins = sym
        (ap (λ b. cond b (verdicts.Refused refusals.TooLong) (verdicts.Refused refusals.NotAwaiting)) f) ∙ is in cc
    with_test false (Some m) f is = with_some m f
        (sym (ap (λ b. cond b (verdicts.Refused refusals.TooLong) (verdict_on way size theirs own count m)) f) ∙ is)

size_is : (seats : List Seat) (pid : Pid) (s : Seat) → seat_in seats pid ≡ Some s → size_of (seat_in seats pid) ≡ length s.memory
size_is seats pid s found = ap size_of found

-- a move that is not refused: of a message that is held, so of an alien; and it has no bytes where it is made at once
never_without : (long : Bool) (v : Verdict) → cond long (verdicts.Refused refusals.TooLong) (verdicts.Refused refusals.NotAwaiting) ≡ v →
    (why : Refusal) × (v ≡ verdicts.Refused why)
never_without true v is = (refusals.TooLong, sym is)
never_without false v is = (refusals.NotAwaiting, sym is)

held_alien : (pid : Pid) (o : Option Alien) (m : Message) → message_held pid o ≡ Some m → (a : Alien) × (o ≡ Some a)
held_alien pid None m is = absurd (none-some m is)
held_alien pid (Some a) m is = (a, refl)

begins_some : (way : Direction) (size theirs own count : ℕ) (o : Option Message) →
    verdict_by way size theirs own count o ≡ verdicts.Begins → (m : Message) × (o ≡ Some m)
begins_some way size theirs own count None is = let never = never_without (ltb 65536 count) verdicts.Begins is in absurd
    (never_refused never.0 never.1)
  where
    never_refused : (why : Refusal) → verdicts.Begins ≡ verdicts.Refused why → ⊥
    never_refused why is = cc
begins_some way size theirs own count (Some m) is = (m, refl)

pub begins_held : (seats : List Seat) (slots : List (Option Alien)) (pid partner : Pid) (way : Direction) (dest src count : ℕ) →
    verdict_in seats slots pid partner way dest src count ≡ verdicts.Begins → (a : Alien) × IsAlienAt slots partner a
begins_held seats slots pid partner way dest src count is =
    let m = begins_some way (size_of (seat_in seats pid)) (theirs_of way dest src) (own_of way dest src) count
    (message_held pid (alien_from slots partner)) is in
    let a = held_alien pid (alien_from slots partner) m.0 m.1 in
    (a.0, alien_is_at slots partner a.0 a.1)

empty_by : (long lets ranges empty : Bool) → cond long (verdicts.Refused refusals.TooLong)
    (cond (not lets) (verdicts.Refused refusals.NoAccess)
    (cond (not ranges) (verdicts.Refused refusals.BadRange) (cond empty verdicts.Made verdicts.Begins))) ≡ verdicts.Made → empty ≡ true
empty_by true lets ranges empty is = cc
empty_by false false ranges empty is = cc
empty_by false true false empty is = cc
empty_by false true true true is = refl
empty_by false true true false is = cc

made_by : (way : Direction) (size theirs own count : ℕ) (o : Option Message) → verdict_by way size theirs own count o ≡ verdicts.Made →
    (count == 0) ≡ true
made_by way size theirs own count None is = let never = never_without (ltb 65536 count) verdicts.Made is in absurd
    (never_refused never.0 never.1)
  where
    never_refused : (why : Refusal) → verdicts.Made ≡ verdicts.Refused why → ⊥
    never_refused why is = cc
made_by way size theirs own count (Some m) is =
    empty_by (ltb 65536 count) (grants_access way m) (has_ranges m size theirs own count) (count == 0) is

pub made_empty : (seats : List Seat) (slots : List (Option Alien)) (pid partner : Pid) (way : Direction) (dest src count : ℕ) →
    verdict_in seats slots pid partner way dest src count ≡ verdicts.Made → (count == 0) ≡ true
made_empty seats slots pid partner way dest src count is =
    made_by way (size_of (seat_in seats pid)) (theirs_of way dest src) (own_of way dest src) count
    (message_held pid (alien_from slots partner)) is

-- a round that goes out first
first_goes : (way : Direction) (size : ℕ) (m : MoveName) (partner : Pid) (dest src count : ℕ) → HasNumbers m → is_place count 0 ≡ true →
    lies_in (range_of (own_of way dest src) count) size ≡ true →
    going size 0 (Some m) (activities.Blocked (waiting_in way partner dest src count)) ≡ true
first_goes directions.To size m partner dest src count n place lies = both_true (both_true (both_true n.send n.move) place) lies
first_goes directions.From size m partner dest src count n place lies = both_true (both_true n.send n.move) place

pub may_begin : (seats : List Seat) (slots : List (Option Alien)) (pid partner : Pid) (way : Direction) (dest src count : ℕ) →
    verdict_in seats slots pid partner way dest src count ≡ verdicts.Begins →
    MayBegin (size_of (seat_in seats pid)) (own_of way dest src) count
may_begin seats slots pid partner way dest src count is =
    begins_by way (size_of (seat_in seats pid)) (theirs_of way dest src) (own_of way dest src) count
    (message_held pid (alien_from slots partner)) is

pub begins : (seats : List Seat) (slots : List (Option Alien)) → HasFitAliens slots → HasFewMoves slots → (pid partner : Pid)
    (way : Direction) (dest src count : ℕ) → verdict_in seats slots pid partner way dest src count ≡ verdicts.Begins →
    CanBegin seats slots pid partner (waiting_in way partner dest src count)
begins seats slots fit few pid partner way dest src count is s m found next =
    let b = may_begin seats slots pid partner way dest src count is in
    first_goes way (length s.memory) m partner dest src count
    (numbers_at slots fit few partner m (position (is_alien_from partner) slots) next) b.place
    (ap (lies_in (range_of (own_of way dest src) count)) (sym (size_is seats pid s found)) ∙ b.lies)

-- the process that waits in it
pub begun_goes : (seats : List Seat) (slots : List (Option Alien)) (pid partner : Pid) (w : Waiting) (m : MoveName) (t : Times) (now : ℕ) →
    CanBegin seats slots pid partner w → next_name slots partner (position (is_alien_from partner) slots) ≡ Some m →
    CanGoOn (waiting_seats t now pid w m seats) pid 0
begun_goes seats slots pid partner w m t now goes next s found =
    let waits = find-changed pid (doing_now (activities.Blocked w)) (λ x. refl) seats in
    let noted = find-changed pid (renoted (begun_note t now m)) (λ x. refl)
    (change_first (is_seat pid) (doing_now (activities.Blocked w)) seats) in
    let y = mapped_is (renoted (begun_note t now m)) (seat_in (change_first (is_seat pid) (doing_now (activities.Blocked w)) seats) pid) s
    (sym noted ∙ found) in
    let x = mapped_is (doing_now (activities.Blocked w)) (seat_in seats pid) y.0 (sym waits ∙ y.1) in
    let is : renoted (begun_note t now m) (doing_now (activities.Blocked w) x.0) ≡ s = ap (renoted (begun_note t now m)) x.2 ∙ y.2 in
    subst (λ (z : Seat). going (length z.memory) 0 z.note.moving z.doing ≡ true) is (goes x.0 m x.1 next)

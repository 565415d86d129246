-- Tables still fit where a move has begun.
use Rattle.std.proofs.Common.{◌≡◌, ℕ, ◌+◌, true, false, ◌==◌, not, length, refl, ap, sym, ◌∙◌, subst, Some, None, arith}
use Rattle.std.specs.Cmp.Derive.{both_true}
use Rattle.std.specs.List.{position}
use Rattle.std.specs.Option.{option_map}
use Rattle.std.proofs.lemmas.Bool.{eqb-true, false_from_ne_true, le-leb, lt-ltb}
use Rattle.std.proofs.lemmas.Option.{same_Some}
use Rattle.vk_types.specs.Types.{Direction, Message, MoveName, Pid, Scope, Times, Waiting}
use Rattle.vk_base.specs.declared.activity.Activity.TheVariants as activities
use Rattle.vk_base.specs.declared.activity.Waiting.TheVariants as waitings
use Rattle.vk_base.specs.declared.kernel.Direction.TheVariants as directions
use Rattle.vk_base.specs.Kernel.{name_of}
use Rattle.vk_base.specs.Pids.{same_host}
use Rattle.vk_base.specs.Ranges.{range_of, lies_in}
use Rattle.vk_base.proofs.PidLemmas.{same_pid_self}
use Rattle.vk_pool.specs.declared.alien.Alien.{Alien}
use Rattle.vk_pool.specs.Aliens.{alien_at, is_alien_from, moves_at, with_moves}
use Rattle.vk_procs.specs.declared.seat.ProcNote.{ProcNote}
use Rattle.vk_procs.specs.declared.seat.Seat.{Seat}
use Rattle.vk_procs.specs.Seats.{doing_now, is_seat, seat_in}
use Rattle.vk_stands.specs.Fit.{AreFit, IsFitSeat, is_remote_move, is_under_way, may_go_on, may_wait}
use Rattle.vk_stands.specs.Tables.{Tables, alien_name}
use Rattle.vk_stands.proofs.Fits.{fit_seated}
use Rattle.vk_stands.proofs.Found.{seat_found}
use Rattle.vk_stands.proofs.MoverLeft.{same_wait}
use Rattle.vk_stands.proofs.OneAlien.{slotted}
use Rattle.vk_stands.proofs.OneSeat.{seated}
use Rattle.vk_stands.proofs.Seats.{change_twice}
use Rattle.vk_move.specs.declared.begun.Verdict.TheVariants as verdicts
use Rattle.vk_move.specs.Begun.{Begun, HasFewMoves, begun_by, begun_note, begun_packets, begun_seats, next_name, one_more, own_of, size_of, verdict_in, waiting_in, begun_by_fields}
use Rattle.vk_move.specs.Moved.{renoted, round_from}
use Rattle.vk_move.proofs.Begins.{HasNumbers, MayBegin, may_begin, numbers_at}
use Rattle.vk_move.proofs.BegunAlien.{fit_moves}
use Rattle.vk_move.proofs.Pieces.{place_is}

-- what it waits in is no Send and no lookup
no_send : (way : Direction) (partner : Pid) (dest src count : ℕ) (target : Pid) (m : Message) →
    activities.Blocked (waiting_in way partner dest src count) ≡ activities.Blocked (waitings.Send target m) → ⊥
no_send directions.To partner dest src count target m is = cc
no_send directions.From partner dest src count target m is = cc

no_lookup : (way : Direction) (partner : Pid) (dest src count : ℕ) (logical : ℕ) (scope : Scope) →
    activities.Blocked (waiting_in way partner dest src count) ≡ activities.Blocked (waitings.GetPid logical scope) → ⊥
no_lookup directions.To partner dest src count logical scope is = cc
no_lookup directions.From partner dest src count logical scope is = cc

waits_by : (way : Direction) (pid partner : Pid) (dest src count size : ℕ) → is_remote_move pid partner count ≡ true →
    lies_in (range_of (own_of way dest src) count) size ≡ true → may_wait pid size (waiting_in way partner dest src count) ≡ true
waits_by directions.To pid partner dest src count size remote lies = both_true remote lies
waits_by directions.From pid partner dest src count size remote lies = both_true remote lies

goes_by : (way : Direction) (partner : Pid) (dest src count : ℕ) (note : ProcNote) → is_under_way partner count note ≡ true →
    may_go_on note (waiting_in way partner dest src count) ≡ true
goes_by directions.To partner dest src count note goes = goes
goes_by directions.From partner dest src count note goes = goes

module _ (host : ℕ) (t : Tables) (fit : AreFit host t) (few : HasFewMoves t.slots) (times : Times) (now : ℕ) (pid : Pid)
    (own : pid.host ≡ host) (s : Seat) (found : seat_in t.seats pid ≡ Some s) (i : ℕ) (a : Alien) (here : alien_at t.slots i ≡ Some a)
    (way : Direction) (dest src count : ℕ)
    (is : verdict_in t.seats t.slots pid a.sender way dest src count ≡ verdicts.Begins) where
  -- the number of the move, and its name
  abbrev pub number : ℕ
  number = moves_at t.slots i + 1

  abbrev pub named : MoveName
  named = record { exchange = alien_name a; number = number }

  abbrev pub waiting : Waiting
  waiting = waiting_in way a.sender dest src count

  -- what becomes of the process
  abbrev pub begun_seat : Seat → Seat
  begun_seat x = renoted (begun_note times now named) (doing_now (activities.Blocked waiting) x)

  may : MayBegin (size_of (seat_in t.seats pid)) (own_of way dest src) count
  may = may_begin t.seats t.slots pid a.sender way dest src count is

  next_at : next_name t.slots a.sender (Some i) ≡ Some named
  next_at = ap (option_map (λ (x : Alien). record { exchange = name_of a.sender x.number; number = number })) here

  next_is : next_name t.slots a.sender (position (is_alien_from a.sender) t.slots) ≡ Some named
  next_is = ap (next_name t.slots a.sender) (fit.apart i a here) ∙ next_at

  numbers : HasNumbers named
  numbers = numbers_at t.slots (host, fit.aliens) few a.sender named (position (is_alien_from a.sender) t.slots) next_is

  pub away_is : same_host pid a.sender ≡ false
  away_is = false_from_ne_true (same_host pid a.sender)
      (λ near. (fit.aliens i a here).foreign (sym (eqb-true pid.host a.sender.host near) ∙ own))

  pub some_is : (count == 0) ≡ false
  some_is = false_from_ne_true (count == 0)
      (λ none. let p = place_is count 0 may.place in let zero : count ≡ 0 = eqb-true count 0 none in absurd (omega (arith, p.some, zero)))

  remote : is_remote_move s.pid a.sender count ≡ true
  remote =
      let p = place_is count 0 may.place in
      both_true (both_true (ap (λ q. not (same_host q a.sender)) (seat_found t.seats pid s found).named ∙ ap not away_is)
      (lt-ltb 0 count p.some)) (le-leb count 65536 p.few)

  under_way : is_under_way a.sender count (begun_note times now named s.note) ≡ true
  under_way = both_true (both_true (both_true (same_pid_self a.sender) numbers.send) numbers.move) may.place

  pub fits_begun : IsFitSeat host s → IsFitSeat host (begun_seat s)
  fits_begun f = record {
    own = f.own;
    waits = λ v at. subst (λ x. may_wait s.pid (length s.memory) x ≡ true) (same_wait waiting v at)
        (waits_by way s.pid a.sender dest src count (length s.memory) remote
        (ap (λ o. lies_in (range_of (own_of way dest src) count) (size_of o)) (sym found) ∙ may.lies));
    moves = λ v at. subst (λ x. may_go_on (begun_note times now named s.note) x ≡ true) (same_wait waiting v at)
        (goes_by way a.sender dest src count (begun_note times now named s.note) under_way);
    done = f.done;
    part = λ target m at. absurd (no_send way a.sender dest src count target m at);
    few = f.few;
    away = λ target m at other. absurd (no_send way a.sender dest src count target m at);
    begun = λ target m at. absurd (no_send way a.sender dest src count target m at);
    asked = λ logical scope at. absurd (no_lookup way a.sender dest src count logical scope at);
  }

  -- the tables then
  abbrev pub begun_tables : Tables
  begun_tables = seated (slotted t i (with_moves number)) pid begun_seat

  pub fit_begun : AreFit host begun_tables
  fit_begun = fit_seated host (slotted t i (with_moves number)) (fit_moves host t fit i number) pid begun_seat (λ x. refl)
      (λ x at f. subst (λ z. IsFitSeat host (begun_seat z)) (same_Some s x (sym found ∙ at))
      (fits_begun (subst (IsFitSeat host) (sym (same_Some s x (sym found ∙ at))) f)))

  -- and so the rule has them
  abbrev pub begun_as : Begun
  begun_as = record {
    answer = None;
    seats = begun_tables.seats;
    slots = begun_tables.slots;
    packets = round_from pid 0 (seat_in begun_tables.seats pid);
  }

  pub begun_is : begun_by_fields times now pid way a.sender dest src count t.seats t.slots ≡ begun_as
  begun_is =
      ap (λ v. begun_by times now pid waiting (position (is_alien_from a.sender) t.slots) a.sender v t.seats t.slots) is
      ∙ ap (λ o. begun_by times now pid waiting o a.sender verdicts.Begins t.seats t.slots) (fit.apart i a here)
      ∙ (λ j. record {
        answer = None;
        seats = begun_seats times now pid waiting (next_at j) t.seats;
        slots = one_more t.slots i (here j);
        packets = begun_packets pid (next_at j) (begun_seats times now pid waiting (next_at j) t.seats);
      })
      ∙ ap (λ xs. record { answer = None; seats = xs; slots = begun_tables.slots; packets = round_from pid 0 (seat_in xs pid) })
      (change_twice (is_seat pid) (doing_now (activities.Blocked waiting)) (renoted (begun_note times now named)) (λ x. refl) t.seats)

-- Tables of which each process or each alien has changed still fit; and those of an exit do.
use Rattle.std.proofs.Common.{◌≡◌, ℕ, zero, suc, ◌≤◌, Bool, true, false, List, [], ◌∷◌, map, slice_set, Option, Some, None, refl, sym, ap, subst, ◌∙◌, arith, if◌then◌else◌}
use Rattle.std.specs.List.{position, slice_get}
use Rattle.std.specs.Option.{option_map}
use Rattle.std.proofs.lemmas.List.{length-map, length-set}
use Rattle.std.proofs.lemmas.Option.{slice_get-map}
use Rattle.vk_types.specs.Types.{Name, Pid, Registration}
use Rattle.vk_base.specs.declared.limits.TheConstants.{POOL, STATION_PROCESSES}
use Rattle.vk_base.specs.Pids.{same_pid}
use Rattle.vk_base.proofs.OptionLemmas.{mapped_is}
use Rattle.vk_pool.specs.declared.alien.Alien.{Alien}
use Rattle.vk_pool.specs.Aliens.{alien_at, is_alien_from, refused}
use Rattle.vk_pool.proofs.Shown.{position-mapped}
use Rattle.vk_procs.specs.declared.seat.Seat.{Seat}
use Rattle.vk_procs.specs.Seats.{bereft, finished, is_seat, killed, waits_at}
use Rattle.vk_stands.specs.Fit.{AreFit, IsFitAlien, IsFitSeat}
use Rattle.vk_stands.specs.Tables.{Tables}
use Rattle.vk_stands.proofs.Exited.{bereft_name, gone, is_left, turned_away, turned_same}
use Rattle.vk_stands.proofs.ExitView.{exit_seats, exit_slots}
use Rattle.vk_stands.proofs.FitSeats.{fit_finished}
use Rattle.vk_stands.proofs.Fits.{fit_seated}

-- each process changes
module _ (host : ℕ) (t : Tables) (fit : AreFit host t) (f : Seat → Seat) (keeps : (s : Seat) → (f s).pid ≡ s.pid)
    (fits : (s : Seat) → IsFitSeat host s → IsFitSeat host (f s)) where
  pub place_mapped : (q : Pid) → position (is_seat q) (map f t.seats) ≡ position (is_seat q) t.seats
  place_mapped q = sym (position-mapped (is_seat q) (is_seat q) f (λ s. ap (λ p. same_pid p q) (sym (keeps s))) t.seats)

  pub fit_seats : AreFit host (record t { seats = map f t.seats })
  fit_seats = record {
    few = subst (λ n. n ≤ STATION_PROCESSES) (sym (length-map t.seats f)) fit.few;
    lists = fit.lists;
    pool = fit.pool;
    places = λ i y at.
        let x = mapped_is f (slice_get t.seats i) y (sym (slice_get-map f t.seats i) ∙ at) in
        ap (λ (z : Seat). position (is_seat z.pid) (map f t.seats)) (sym x.2)
        ∙ place_mapped (f x.0).pid ∙ ap (λ p. position (is_seat p) t.seats) (keeps x.0) ∙ fit.places i x.0 x.1;
    seats = λ i y at.
        let x = mapped_is f (slice_get t.seats i) y (sym (slice_get-map f t.seats i) ∙ at) in
        subst (IsFitSeat host) x.2 (fits x.0 (fit.seats i x.0 x.1));
    apart = fit.apart;
    aliens = fit.aliens;
  }

-- each alien changes
pub alien_at_map : (f : Alien → Alien) (slots : List (Option Alien)) (i : ℕ) →
    alien_at (map (option_map f) slots) i ≡ option_map f (alien_at slots i)
alien_at_map f [] i = refl
alien_at_map f (slot ∷ slots) zero = refl
alien_at_map f (slot ∷ slots) (suc i) = alien_at_map f slots i

of_mapped : (f : Alien → Alien) (q : Pid) (slot : Option Alien) → ((a : Alien) → (f a).sender ≡ a.sender) →
    is_alien_from q slot ≡ is_alien_from q (option_map f slot)
of_mapped f q None keeps = refl
of_mapped f q (Some a) keeps = ap (λ p. same_pid p q) (sym (keeps a))

module _ (host : ℕ) (t : Tables) (fit : AreFit host t) (f : Alien → Alien) (keeps : (a : Alien) → (f a).sender ≡ a.sender)
    (fits : (a : Alien) → IsFitAlien host a → IsFitAlien host (f a)) where
  pub fit_slots : AreFit host (record t { slots = map (option_map f) t.slots })
  fit_slots = record {
    few = fit.few;
    lists = fit.lists;
    pool = subst (λ n. n ≤ POOL) (sym (length-map t.slots (option_map f))) fit.pool;
    places = fit.places;
    seats = fit.seats;
    apart = λ i b at.
        let a = mapped_is f (alien_at t.slots i) b (sym (alien_at_map f t.slots i) ∙ at) in
        ap (λ (z : Alien). position (is_alien_from z.sender) (map (option_map f) t.slots)) (sym a.2)
        ∙ ap (λ p. position (is_alien_from p) (map (option_map f) t.slots)) (keeps a.0)
        ∙ sym (position-mapped (is_alien_from a.0.sender) (is_alien_from a.0.sender) (option_map f)
        (λ slot. of_mapped f a.0.sender slot keeps) t.slots)
        ∙ fit.apart i a.0 a.1;
    aliens = λ i b at.
        let a = mapped_is f (alien_at t.slots i) b (sym (alien_at_map f t.slots i) ∙ at) in
        subst (IsFitAlien host) a.2 (fits a.0 (fit.aliens i a.0 a.1));
  }

-- An exit.
bereft_fits : (host : ℕ) (b : Bool) (s : Seat) → IsFitSeat host s → IsFitSeat host (if b then finished gone s else s)
bereft_fits host true s fit = fit_finished host s gone fit
bereft_fits host false s fit = fit

pub fit_killed : (host : ℕ) (s : Seat) → IsFitSeat host s → IsFitSeat host (killed s)
fit_killed host s fit = record {
  own = fit.own;
  waits = fit.waits;
  moves = fit.moves;
  done = fit.done;
  part = fit.part;
  few = fit.few;
  away = fit.away;
  begun = fit.begun;
  asked = fit.asked;
}

turned_fits : (host now : ℕ) (b : Bool) (a : Alien) → IsFitAlien host a → IsFitAlien host (if b then refused now a else a)
turned_fits host now true a fit = record {
  foreign = fit.foreign;
  here = fit.here;
  number = fit.number;
  told = grind (arith, fit.number);
  part = fit.part;
}
turned_fits host now false a fit = fit

pub exit_fit : (host : ℕ) (t : Tables) (pid : Pid) (now at : ℕ) (names : List Registration) → AreFit host t →
    AreFit host (record {
      seats = exit_seats t.seats pid;
      lists = slice_set t.lists at [];
      slots = exit_slots t.slots pid now;
      names =
          names;
    })
exit_fit host t pid now at names fit =
    let first = fit_seats host t fit (bereft pid) (λ s. ap (λ (n : Name). n.sender) (bereft_name pid s))
    (λ s. bereft_fits host (waits_at pid s) s) in
    let second = fit_seated host (record t { seats = map (bereft pid) t.seats }) first pid killed (λ s. refl) (λ s is. fit_killed host s) in
    let third = fit_slots host (record t { seats = exit_seats t.seats pid }) second (turned_away pid now)
    (λ a. (turned_same pid now a).sender) (λ a. turned_fits host now (is_left pid a) a) in
    record {
      few = third.few;
      lists = length-set t.lists at [] ∙ fit.lists;
      pool = third.pool;
      places = third.places;
      seats = third.seats;
      apart = third.apart;
      aliens = third.aliens;
    }

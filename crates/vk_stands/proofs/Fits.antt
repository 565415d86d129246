-- Tables of which one process has changed still fit, and have the same names in their lists.
use Rattle.std.proofs.Common.{◌≡◌, ◌⊎◌, ◌≤◌, ℕ, zero, suc, ◌-◌, nat_lt, Bool, true, false, cond, List, [], ◌∷◌, get_or, map, Some, refl, sym, ap, subst, ◌∙◌, inl, inr}
use Rattle.std.specs.List.{position, slice_get}
use Rattle.std.specs.Option.{option_map}
use Rattle.std.proofs.lemmas.Option.{same_Some, none-some, get_or_from_slice_get}
use Rattle.vk_types.specs.Types.{Name, Pid}
use Rattle.vk_base.specs.declared.limits.TheConstants.{STATION_PROCESSES}
use Rattle.vk_base.specs.Firsts.{change_first}
use Rattle.vk_base.specs.Kernel.{Kernel, queue_of}
use Rattle.vk_base.specs.Pids.{same_pid}
use Rattle.v_laws.proofs.Tables.{same_pid_is}
use Rattle.vk_pool.specs.Aliens.{alien_at}
use Rattle.vk_procs.specs.declared.seat.Seat.{Seat}
use Rattle.vk_procs.specs.Seats.{is_seat, seat_in}
use Rattle.vk_queue.specs.Lists.{queue_at}
use Rattle.vk_stands.specs.Fit.{AreFit, IsFitSeat}
use Rattle.vk_stands.specs.Tables.{Tables, alien_name, names_at, seat_name, slot_name}
use Rattle.vk_stands.proofs.Found.{seat_found}
use Rattle.vk_stands.proofs.Lists.{find-position}
use Rattle.vk_stands.proofs.OneSeat.{seated}
use Rattle.vk_stands.proofs.Parts.{AreQueues}
use Rattle.vk_stands.proofs.Seats.{get-changed, length-changed, position-changed}

-- what stands at a place then
pub record IsChanged {X : Type 0} (p : X → Bool) (f : X → X) (xs : List X) (i : ℕ) (y : X) : Type 0 where
  pub old : X
  pub was : slice_get xs i ≡ Some old
  pub how : (y ≡ old) ⊎ ((p old ≡ true) × (y ≡ f old))

module _ {X : Type 0} (p : X → Bool) (f : X → X) where
  changed_by : (x : X) (xs : List X) (b : Bool) (i : ℕ) (y : X) → p x ≡ b →
      ((j : ℕ) → slice_get (change_first p f xs) j ≡ Some y → IsChanged p f xs j y) →
      slice_get (cond b (f x ∷ xs) (x ∷ change_first p f xs)) i ≡ Some y → IsChanged p f (x ∷ xs) i y
  changed_by x xs true zero y t again is = record { old = x; was = refl; how = inr (t, sym (same_Some (f x) y is)) }
  changed_by x xs true (suc i) y t again is = record { old = y; was = is; how = inl refl }
  changed_by x xs false zero y t again is = record { old = x; was = refl; how = inl (sym (same_Some x y is)) }
  changed_by x xs false (suc i) y t again is =
      let before = again i is in record { old = before.old; was = before.was; how = before.how }

  pub get_changed_is : (xs : List X) (i : ℕ) (y : X) → slice_get (change_first p f xs) i ≡ Some y → IsChanged p f xs i y
  get_changed_is [] i y is = absurd (none-some y is)
  get_changed_is (x ∷ xs) i y is = changed_by x xs (p x) i y refl (λ j. get_changed_is xs j y) is

-- the process at its place is the one that is found
pub seat_at_place : (t : List Seat) (i : ℕ) (x : Seat) → slice_get t i ≡ Some x → position (is_seat x.pid) t ≡ Some i →
    seat_in t x.pid ≡ Some x
seat_at_place t i x at place = find-position (is_seat x.pid) t i x place ∙ ap Some (get_or_from_slice_get t i x x at)

-- a process that has a place is of the station
pub placed_here : (host : ℕ) (t : Tables) → AreFit host t → (q : Pid) (i : ℕ) (d : Seat) → position (is_seat q) t.seats ≡ Some i →
    q.host ≡ host
placed_here host t fit q i d place =
    let s = seat_found t.seats q (get_or t.seats i d) (find-position (is_seat q) t.seats i d place) in
    sym (ap (λ (p : Pid). p.host) s.named) ∙ (fit.seats s.at (get_or t.seats i d) s.here).own

module _ (host : ℕ) (t : Tables) (fit : AreFit host t) (pid : Pid) (f : Seat → Seat) (keeps : (x : Seat) → (f x).pid ≡ x.pid)
    (fits : (s : Seat) → seat_in t.seats pid ≡ Some s → IsFitSeat host s → IsFitSeat host (f s)) where
  same_place : (q : Pid) → position (is_seat q) (seated t pid f).seats ≡ position (is_seat q) t.seats
  same_place q = position-changed (is_seat pid) f (is_seat q) (λ x. ap (λ p. same_pid p q) (keeps x)) t.seats

  fits_by : (i : ℕ) (y : Seat) (old : Seat) → slice_get t.seats i ≡ Some old → (y ≡ old) ⊎ ((is_seat pid old ≡ true) × (y ≡ f old)) →
      (position (is_seat y.pid) t.seats ≡ Some i) × IsFitSeat host y
  fits_by i y old was (inl is) =
      (ap (λ (z : Seat). position (is_seat z.pid) t.seats) is ∙ fit.places i old was, subst (IsFitSeat host) (sym is) (fit.seats i old was))
  fits_by i y old was (inr is) =
      let found : seat_in t.seats pid ≡ Some old =
      ap (seat_in t.seats) (sym (same_pid_is old.pid pid is.0)) ∙ seat_at_place t.seats i old was (fit.places i old was) in (
        ap (λ (z : Seat). position (is_seat z.pid) t.seats) is.1 ∙ ap (λ p. position (is_seat p) t.seats) (keeps old)
            ∙ fit.places i old was,
        subst (IsFitSeat host) (sym is.1) (fits old found (fit.seats i old was)),
      )

  pub fit_seated : AreFit host (seated t pid f)
  fit_seated = record {
    few = subst (λ n. n ≤ STATION_PROCESSES) (sym (length-changed (is_seat pid) f t.seats)) fit.few;
    lists = fit.lists;
    pool = fit.pool;
    places = λ i y at. let c = get_changed_is (is_seat pid) f t.seats i y at in same_place y.pid ∙ (fits_by i y c.old c.was c.how).0;
    seats = λ i y at. let c = get_changed_is (is_seat pid) f t.seats i y at in (fits_by i y c.old c.was c.how).1;
    apart = fit.apart;
    aliens = fit.aliens;
  }

-- names that slots have
pub map_all : {A B : Type 0} (f g : A → B) (xs : List A) → ((x : A) → f x ≡ g x) → map f xs ≡ map g xs
map_all f g [] same = refl
map_all f g (x ∷ xs) same = ap (λ y. y ∷ map f xs) (same x) ∙ ap (λ ys. g x ∷ ys) (map_all f g xs same)

module _ (t : Tables) (pid : Pid) (f : Seat → Seat) (keeps : (x : Seat) → seat_name (f x) ≡ seat_name x) where
  pub slot_kept : (slot : ℕ) → slot_name (seated t pid f).seats t.slots slot ≡ slot_name t.seats t.slots slot
  slot_kept slot = ap (λ o. cond (nat_lt slot STATION_PROCESSES) o (option_map alien_name (alien_at t.slots (slot - STATION_PROCESSES))))
      (get-changed (is_seat pid) f seat_name t.seats slot keeps)

  pub names_kept : (at : ℕ) → names_at (seated t pid f) at ≡ names_at t at
  names_kept at = map_all (slot_name (seated t pid f).seats t.slots) (slot_name t.seats t.slots) (queue_at t.lists at) slot_kept

  -- where the queues of the station's processes are the same in the kernels
  pub queues_seated : (k l : Kernel) →
      ((q : Pid) (at : ℕ) → position (is_seat q) t.seats ≡ Some at → queue_of l q ≡ queue_of k q) →
      AreQueues t k → AreQueues (seated t pid f) l
  queues_seated k l same queues q at place =
      let there : position (is_seat q) t.seats ≡ Some at = sym (position-changed (is_seat pid) f (is_seat q)
      (λ x. ap (λ (n : Name). same_pid n.sender q) (keeps x)) t.seats) ∙ place in
      ap (map Some) (same q at there) ∙ queues q at there
      ∙ sym (names_kept at)

-- The Take of a process, by the tables and in the view.
use Rattle.std.proofs.Common.{◌≡◌, ℕ, ◌-◌, true, false, nat_lt, List, [], ◌∷◌, map, Option, Some, None, refl, sym, ap, subst, ◌∙◌, inl, inr}
use Rattle.std.specs.List.{fold, position, slice_get}
use Rattle.std.specs.Option.{is_some, option_map}
use Rattle.std.proofs.lemmas.Bool.{cases_Bool, cond-true, cond-false, false_from_ne_true}
use Rattle.std.proofs.lemmas.Option.{none-some, same_Some}
use Rattle.vk_types.specs.Types.{Message, Pid, Step, Waiting}
use Rattle.vk_base.specs.declared.activity.Activity.TheVariants as activities
use Rattle.vk_base.specs.declared.activity.Waiting.TheVariants as waitings
use Rattle.vk_base.specs.declared.limits.TheConstants.{STATION_PROCESSES}
use Rattle.vk_base.specs.declared.step.Step.TheVariants as steps
use Rattle.vk_base.specs.Activities.{receive_in}
use Rattle.vk_base.specs.Calls.{unseen}
use Rattle.vk_base.specs.Firsts.{change_first}
use Rattle.vk_base.specs.Kernel.{◌>>=◌, Kernel}
use Rattle.vk_base.specs.Pids.{same_pid}
use Rattle.vk_base.specs.Steps.{Taking, after_effect, next, taken, taking}
use Rattle.vk_base.proofs.OptionLemmas.{mapped_is}
use Rattle.v_laws.proofs.Tables.{same_pid_is}
use Rattle.vk_pool.specs.declared.alien.Alien.{Alien}
use Rattle.vk_pool.specs.Aliens as pool
use Rattle.vk_pool.specs.Aliens.{alien_at}
use Rattle.vk_procs.specs.declared.seat.Passed.TheVariants as gifts
use Rattle.vk_procs.specs.declared.seat.Seat.{Seat}
use Rattle.vk_procs.specs.Seats.{is_seat, marked_taken, passed_by, seat_in}
use Rattle.vk_queue.specs.Lists.{queue_at}
use Rattle.vk_rules.specs.CallOutcomes.{take_where}
use Rattle.vk_rules.specs.Rounds.{list_if}
use Rattle.vk_stands.specs.Tables.{Tables, alien_name, read_alien, seat_name, slot_name}
use Rattle.vk_stands.proofs.Fits.{seat_at_place}
use Rattle.vk_stands.proofs.Parts.{Carries, Part, same_more}
use Rattle.vk_stands.proofs.Seats.{find-changed, placed}
use Rattle.vk_stands.proofs.Served.{alien_served, alien_served_carries, alien_served_read, local_served, local_served_carries, part_alien_served, part_local_served, taken_local, taking_first, taking_idle, taking_none}
use Rattle.vk_stands.proofs.Takings.{TakenFrom, front_name}
use Rattle.vk_stands.proofs.Whole.{same_work}
use Rattle.vk_local.specs.Takes.{alien_taken, front_at, front_by, front_of, local_taken, served, served_by, served_steps, without_first}

-- The tables and the steps after a Take, where there is one.
pub record IsServed (host : ℕ) (t : Tables) (k : Kernel) (pid : Pid) (u : Tables) (ss : List Step) : Type 0 where
  pub part : Part host u (fold next k ss)
  pub carries : Carries 0 t u
  pub read : map (option_map read_alien) u.slots ≡ map (option_map read_alien) t.slots
  pub listed : take_where k pid ≡ ss

abbrev listed_by : Kernel → Pid → Option Taking → List Step
listed_by k pid o = list_if (is_some (o >>= λ tk. Some (unseen (taken k pid tk)))) (steps.Take pid ∷ [])

pub same_carries : (t : Tables) → Carries 0 t t
same_carries t = record {
  seats = λ pid s at. record {
    old = s;
    was = at;
    sends = same_more 0 s.note.sends;
    lookups = same_more 0 s.note.lookups;
    work = λ w blocked work. (blocked, same_work s);
  };
  aliens = λ sender a at. (a, at, refl);
}

none_served : (host : ℕ) (t : Tables) (k : Kernel) (pid : Pid) → Part host t k → taking k pid ≡ None → IsServed host t k pid t []
none_served host t k pid part none = record {
  part = part;
  carries = same_carries t;
  read = refl;
  listed = ap (listed_by k pid) none;
}

some_served : (host : ℕ) (t u : Tables) (k : Kernel) (pid : Pid) (tk : Taking) → taking k pid ≡ Some tk → Part host u (taken k pid tk) →
    Carries 0 t u → map (option_map read_alien) u.slots ≡ map (option_map read_alien) t.slots →
    IsServed host t k pid u (steps.Take pid ∷ [])
some_served host t u k pid tk is part carries read = record {
  part = subst (Part host u) (sym (ap (λ (o : Option Taking). after_effect k (o >>= λ x. Some (unseen (taken k pid x)))) is)) part;
  carries = carries;
  read = read;
  listed = ap (listed_by k pid) is;
}

module _ (host : ℕ) (t : Tables) (k : Kernel) (part : Part host t k) (pid : Pid) (own : pid.host ≡ host) (s : Seat)
    (found : seat_in t.seats pid ≡ Some s) where
  module _ (w : Waiting) (waits : receive_in s.doing ≡ Some w) (at : ℕ) (place : position (is_seat pid) t.seats ≡ Some at) (slot : ℕ)
      (front : slice_get (queue_at t.lists at) 0 ≡ Some slot) (tk : Taking) (is : taking k pid ≡ Some tk) where
    named : slot_name t.seats t.slots slot ≡ Some tk.name
    named = front_name t k pid tk at slot (part.queues pid at place) is front

    apart : (x : Seat) (target : Pid) (m : Message) → seat_in t.seats x.pid ≡ Some x →
        x.doing ≡ activities.Blocked (waitings.Send target m) → same_pid x.pid pid ≡ false
    apart x target m here sends = false_from_ne_true (same_pid x.pid pid) (λ same.
        let one : x ≡ s = same_Some x s (sym here ∙ ap (seat_in t.seats) (same_pid_is x.pid pid same) ∙ found) in
        none-some w (sym (ap receive_in (ap (λ (z : Seat). z.doing) (sym one) ∙ sends)) ∙ waits))

    local_by : nat_lt slot STATION_PROCESSES ≡ true → (x : Seat) → slice_get t.seats slot ≡ Some x →
        IsServed host t k pid (served_by t pid (Some slot)) (steps.Take pid ∷ [])
    local_by low x here =
        let from : TakenFrom k t pid tk x = taken_local host t k part pid own s found w waits at place slot front tk is low x here in
        let there : seat_in t.seats x.pid ≡ Some x = seat_at_place t.seats slot x here (part.fit.places slot x here) in
        let marked : List Seat = change_first (is_seat x.pid) marked_taken t.seats in
        let seats = cond-true (nat_lt slot STATION_PROCESSES) (local_taken t.seats pid (slice_get t.seats slot))
        (alien_taken t.seats pid (alien_at t.slots (slot - STATION_PROCESSES))) low
        ∙ ap (local_taken t.seats pid) here
        ∙ cond-false (same_pid x.pid pid) marked (passed_by (seat_in marked x.pid) pid (gifts.Message x.shown) marked)
        (apart x tk.exchange.target tk.exchange.message there from.waits)
        ∙ ap (λ o. passed_by o pid (gifts.Message x.shown) marked)
        (find-changed x.pid marked_taken (λ z. refl) t.seats ∙ ap (option_map marked_taken) there) in
        let same : served_by t pid (Some slot) ≡ local_served host t k part pid own s found w waits at place x =
        (λ i. record t {
          seats = seats i;
          lists = without_first t.lists (place i);
          slots = cond-true (nat_lt slot STATION_PROCESSES) t.slots (pool.changed_at (slot - STATION_PROCESSES) pool.taken t.slots) low i;
        }) in
        subst (λ u. IsServed host t k pid u (steps.Take pid ∷ [])) (sym same)
        (some_served host t (local_served host t k part pid own s found w waits at place x) k pid tk is
        (part_local_served host t k part pid own s found w waits at place slot front tk is low x here)
        (local_served_carries host t k part pid own s found w waits at place slot front tk is low x here) refl)

    alien_by : nat_lt slot STATION_PROCESSES ≡ false → (a : Alien) → alien_at t.slots (slot - STATION_PROCESSES) ≡ Some a →
        IsServed host t k pid (served_by t pid (Some slot)) (steps.Take pid ∷ [])
    alien_by high a here =
        let i : ℕ = slot - STATION_PROCESSES in
        let same : served_by t pid (Some slot) ≡ alien_served host t k part pid own s found w waits at place i a =
        (λ j. record t {
          seats = (cond-false (nat_lt slot STATION_PROCESSES) (local_taken t.seats pid (slice_get t.seats slot))
              (alien_taken t.seats pid (alien_at t.slots i)) high ∙ ap (alien_taken t.seats pid) here) j;
          lists = without_first t.lists (place j);
          slots = cond-false (nat_lt slot STATION_PROCESSES) t.slots (pool.changed_at i pool.taken t.slots) high j;
        }) in
        subst (λ u. IsServed host t k pid u (steps.Take pid ∷ [])) (sym same)
        (some_served host t (alien_served host t k part pid own s found w waits at place i a) k pid tk is
        (part_alien_served host t k part pid own s found w waits at place slot front tk is high a here)
        (alien_served_carries host t k part pid own s found w waits at place slot front tk is high a here)
        (alien_served_read host t k part pid own s found w waits at place slot front tk is high a here))

    by_slot : IsServed host t k pid (served_by t pid (Some slot)) (steps.Take pid ∷ [])
    by_slot = elim (cases_Bool (nat_lt slot STATION_PROCESSES)) [
      | inl low ↦
          let x = mapped_is seat_name (slice_get t.seats slot) tk.name
          (sym (cond-true (nat_lt slot STATION_PROCESSES) (option_map seat_name (slice_get t.seats slot)) _ low) ∙ named) in
          local_by low x.0 x.1
      | inr high ↦
          let a = mapped_is alien_name (alien_at t.slots (slot - STATION_PROCESSES)) tk.name
          (sym (cond-false (nat_lt slot STATION_PROCESSES) _ (option_map alien_name (alien_at t.slots
          (slot - STATION_PROCESSES))) high) ∙ named) in
          alien_by high a.0 a.1
    ]

  by_front : (w : Waiting) → receive_in s.doing ≡ Some w → (at : ℕ) → position (is_seat pid) t.seats ≡ Some at → (o : Option ℕ) →
      slice_get (queue_at t.lists at) 0 ≡ o → IsServed host t k pid (served_by t pid o) (served_steps pid o)
  by_front w waits at place None front = none_served host t k pid part (taking_none host t k part pid own s found w waits at place front)
  by_front w waits at place (Some slot) front =
      let tk = taking_first host t k part pid own s found w waits at place slot front in
      by_slot w waits at place slot front tk.0 tk.1

  by_receive : (o : Option Waiting) → receive_in s.doing ≡ o →
      IsServed host t k pid (served_by t pid (front_by t.seats t.lists pid o)) (served_steps pid (front_by t.seats t.lists pid o))
  by_receive None idle = none_served host t k pid part (taking_idle host t k part pid own s found idle)
  by_receive (Some w) waits =
      let p = placed pid t.seats s found in
      subst (λ o. IsServed host t k pid (served_by t pid (front_at t.lists o)) (served_steps pid (front_at t.lists o))) (sym p.1)
      (by_front w waits p.0 p.1 (slice_get (queue_at t.lists p.0) 0) refl)

  pub is_served : IsServed host t k pid (served t pid) (served_steps pid (front_of t.seats t.lists pid))
  is_served = subst (λ o. IsServed host t k pid (served_by t pid (front_by t.seats t.lists pid o))
      (served_steps pid (front_by t.seats t.lists pid o)))
      (sym (ap (λ (o : Option Seat). o >>= λ x. receive_in x.doing) found)) (by_receive (receive_in s.doing) refl)

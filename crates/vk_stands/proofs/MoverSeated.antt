-- One process changes what it notes of its work, or begins one; aliens may change beside it: the whole relation from the part of it.
use Rattle.std.proofs.Common.{◌≡◌, ◌≤◌, ℕ, ◌+◌, Bool, true, false, List, map, refl, sym, ap, ◌∙◌, subst, Option, Some, arith}
use Rattle.std.specs.Option.{option_map}
use Rattle.std.proofs.lemmas.Option.{same_Some}
use Rattle.vk_types.specs.Types.{Pid, Times, Waiting}
use Rattle.vk_base.specs.declared.activity.Activity.TheVariants as activities
use Rattle.vk_base.specs.Pids.{same_pid}
use Rattle.v_laws.specs.Sound.{IsSoundAt}
use Rattle.v_laws.proofs.Tables.{same_pid_is}
use Rattle.vk_pool.specs.declared.alien.Alien.{Alien}
use Rattle.vk_pool.specs.Aliens.{alien_from}
use Rattle.vk_procs.specs.declared.seat.Seat.{Seat}
use Rattle.vk_procs.specs.Seats.{seat_in}
use Rattle.vk_rules.specs.Readings.{Reading}
use Rattle.vk_stands.specs.Stands.{HasOwnNames, IsWorking, Stands}
use Rattle.vk_stands.specs.Tables.{Tables, is_work, read_alien}
use Rattle.vk_stands.proofs.OneSeat.{seated, seated_here, seated_other}
use Rattle.vk_stands.proofs.Parts.{AreQueues, Part, same_more}
use Rattle.vk_stands.proofs.Views.{StandsView}
use Rattle.vk_stands.proofs.Whole.{IsLater, same_work, stands_then, working_kept}

-- The process s is y now, with its work; the other processes and their works are as they were.
pub record ChangesWork (times : Times) (t u : Tables) (r q : Reading) (pid : Pid) (s y : Seat) : Type 0 where
  pub was : seat_in t.seats pid ≡ Some s
  pub is : seat_in u.seats pid ≡ Some y
  pub others : (p : Pid) → same_pid p pid ≡ false → seat_in u.seats p ≡ seat_in t.seats p
  pub sends : y.note.sends ≤ s.note.sends + 1
  pub lookups : y.note.lookups ≤ s.note.lookups + 1
  pub slots : q.slots ≡ map (option_map read_alien) u.slots
  pub moved : (sender : Pid) (a : Alien) → alien_from u.slots sender ≡ Some a → a.moves ≤ r.events + 1
  pub events : q.events ≡ r.events + 1
  pub rest : (p : Pid) → same_pid p pid ≡ false → q.work p ≡ r.work p
  pub works : (w : Waiting) → y.doing ≡ activities.Blocked w → is_work pid w ≡ true → IsWorking times y (q.work pid) w

module _ (times : Times) (host : ℕ) (t u : Tables) (r q : Reading) (h : Stands times host t r) (pid : Pid) (s y : Seat)
    (g : ChangesWork times t u r q pid s y) where
  is_it : (p : Pid) (x : Seat) → same_pid p pid ≡ true → seat_in u.seats p ≡ Some x → y ≡ x
  is_it p x same at = same_Some y x (sym g.is ∙ ap (seat_in u.seats) (sym (same_pid_is p pid same)) ∙ at)

  later : (p : Pid) (x : Seat) (b : Bool) → same_pid p pid ≡ b → seat_in u.seats p ≡ Some x → IsLater t p x
  later p x true same at = subst (IsLater t p) (is_it p x same at)
      (record { old = s; was = ap (seat_in t.seats) (same_pid_is p pid same) ∙ g.was; sends = g.sends; lookups = g.lookups })
  later p x false other at = record {
    old = x;
    was = sym (g.others p other) ∙ at;
    sends = same_more 1 x.note.sends;
    lookups = same_more 1 x.note.lookups;
  }

  works_by : (p : Pid) (x : Seat) (w : Waiting) (b : Bool) → same_pid p pid ≡ b → seat_in u.seats p ≡ Some x →
      x.doing ≡ activities.Blocked w → is_work p w ≡ true → IsWorking times x (q.work p) w
  works_by p x w true same at blocked is =
      let one : y ≡ x = is_it p x same at in
      let it : p ≡ pid = same_pid_is p pid same in
      subst (λ n. IsWorking times x (q.work n) w) (sym it) (subst (λ z. IsWorking times z (q.work pid) w) one
      (g.works w (ap (λ (z : Seat). z.doing) one ∙ blocked) (ap (λ n. is_work n w) (sym it) ∙ is)))
  works_by p x w false other at blocked is =
      working_kept times x x (r.work p) (q.work p) w (same_work x) (g.rest p other)
      (h.works p x w (sym (g.others p other) ∙ at) blocked is)

  pub stands_worked_on : StandsView host u q.view → IsSoundAt (λ g. false) q.view → q.view.names host ≡ u.names →
      HasOwnNames host q.view → AreQueues u q.view → Stands times host u q
  stands_worked_on view sound names unknown queues = stands_then times host t u r q h view (record {
    sound = sound;
    names = names;
    unknown = unknown;
    slots = g.slots;
    queues = queues;
    events = g.events;
    seats = λ p x at. later p x (same_pid p pid) refl at;
    aliens = λ sender a at. subst (λ n. a.moves ≤ n) (sym g.events) (g.moved sender a at);
  }) (λ p x w at blocked is. works_by p x w (same_pid p pid) refl at blocked is)

  pub stands_by_part : Part host u q.view → Stands times host u q
  stands_by_part part = stands_worked_on part.view part.sound part.names part.unknown part.queues

pub low_count : (n m : ℕ) → n ≡ m → n ≤ m + 1
low_count n m same = omega arith

module _ (times : Times) (host : ℕ) (t : Tables) (r : Reading) (h : Stands times host t r) (pid : Pid) (s : Seat)
    (found : seat_in t.seats pid ≡ Some s) (f : Seat → Seat) (keeps : (x : Seat) → (f x).pid ≡ x.pid)
    (sends : (x : Seat) → (f x).note.sends ≡ x.note.sends) (lookups : (x : Seat) → (f x).note.lookups ≡ x.note.lookups)
    (aliens : List (Option Alien)) (q : Reading) (part : Part host (record (seated t pid f) { slots = aliens }) q.view)
    (slots_are : q.slots ≡ map (option_map read_alien) aliens) (events : q.events ≡ r.events + 1)
    (few : (sender : Pid) (x : Alien) → alien_from aliens sender ≡ Some x → x.moves ≤ r.events + 1)
    (work_other : (p : Pid) → same_pid p pid ≡ false → q.work p ≡ r.work p)
    (work_here : (w : Waiting) → (f s).doing ≡ activities.Blocked w → is_work pid w ≡ true → IsWorking times (f s) (q.work pid) w) where
  pub stands_slotted : Stands times host (record (seated t pid f) { slots = aliens }) q
  stands_slotted = stands_by_part times host t (record (seated t pid f) { slots = aliens }) r q h pid s (f s) (record {
    was = found;
    is = seated_here t pid f keeps s found;
    others = seated_other t pid f keeps;
    sends = low_count (f s).note.sends s.note.sends (sends s);
    lookups = low_count (f s).note.lookups s.note.lookups (lookups s);
    slots = slots_are;
    moved = few;
    events = events;
    rest = work_other;
    works = work_here;
  }) part

-- The aliens are as they were.
pub rises : (n m : ℕ) → n ≤ m → n ≤ m + 1
rises n m low = omega arith

module _ (times : Times) (host : ℕ) (t : Tables) (r : Reading) (h : Stands times host t r) (pid : Pid) (s : Seat)
    (found : seat_in t.seats pid ≡ Some s) (f : Seat → Seat) (keeps : (x : Seat) → (f x).pid ≡ x.pid)
    (sends : (x : Seat) → (f x).note.sends ≡ x.note.sends) (lookups : (x : Seat) → (f x).note.lookups ≡ x.note.lookups) (q : Reading)
    (part : Part host (seated t pid f) q.view) (slots_same : q.slots ≡ r.slots) (events : q.events ≡ r.events + 1)
    (work_other : (p : Pid) → same_pid p pid ≡ false → q.work p ≡ r.work p)
    (work_here : (w : Waiting) → (f s).doing ≡ activities.Blocked w → is_work pid w ≡ true → IsWorking times (f s) (q.work pid) w) where
  pub stands_seated : Stands times host (seated t pid f) q
  stands_seated = stands_slotted times host t r h pid s found f keeps sends lookups t.slots q part (slots_same ∙ h.slots) events
      (λ sender x at. rises x.moves r.events (h.moved sender x at)) work_other work_here

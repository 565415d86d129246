-- A part of the relation that is kept step by step within an entry: that the tables fit and stand for a sound kernel, with its queues and
-- names; and what tables keep of earlier ones.
use Rattle.std.proofs.Common.{◌≡◌, ◌≤◌, ℕ, ◌+◌, Bool, true, false, map, Some, refl, sym, ap, subst, ◌∙◌, arith}
use Rattle.std.specs.List.{position}
use Rattle.std.specs.Option.{option_map}
use Rattle.std.proofs.lemmas.Option.{same_Some}
use Rattle.vk_types.specs.Types.{Pid, Times, Waiting}
use Rattle.vk_base.specs.declared.activity.Activity.TheVariants as activities
use Rattle.vk_base.specs.Kernel.{Kernel, queue_of}
use Rattle.vk_base.specs.Pids.{same_pid}
use Rattle.vk_base.proofs.OptionLemmas.{mapped_is}
use Rattle.v_laws.specs.Sound.{IsSoundAt}
use Rattle.v_laws.proofs.Tables.{same_pid_is}
use Rattle.vk_pool.specs.declared.alien.Alien.{Alien}
use Rattle.vk_pool.specs.Aliens.{alien_from}
use Rattle.vk_procs.specs.declared.seat.Seat.{Seat}
use Rattle.vk_procs.specs.Seats.{is_seat, seat_in}
use Rattle.vk_rules.specs.Readings.{Reading}
use Rattle.vk_stands.specs.Fit.{AreFit}
use Rattle.vk_stands.specs.Stands.{HasOwnNames, Stands}
use Rattle.vk_stands.specs.Tables.{Tables, is_work, names_at, read_alien}
use Rattle.vk_stands.proofs.Found.{seat_found}
use Rattle.vk_stands.proofs.OneSeat.{seated}
use Rattle.vk_stands.proofs.Views.{StandsView, view_in}
use Rattle.vk_stands.proofs.Waits.{only, only_here, only_other, seats_changed}
use Rattle.vk_stands.proofs.Whole.{IsSameWork, same_work, stands_then, working_kept}

abbrev pub AreQueues : Tables → Kernel → Type 0
AreQueues t k = (pid : Pid) (at : ℕ) → position (is_seat pid) t.seats ≡ Some at → map Some (queue_of k pid) ≡ names_at t at

pub record Part (host : ℕ) (t : Tables) (k : Kernel) : Type 0 where
  pub fit : AreFit host t
  pub view : StandsView host t k
  pub sound : IsSoundAt (λ g. false) k
  pub names : k.names host ≡ t.names
  pub unknown : HasOwnNames host k
  pub queues : AreQueues t k

pub part_of : (times : Times) (host : ℕ) (t : Tables) (r : Reading) → AreFit host t → Stands times host t r → Part host t r.view
part_of times host t r fit h =
    record { fit = fit; view = view_in times host t r h; sound = h.sound; names = h.names; unknown = h.unknown; queues = h.queues }

-- A process has counted at most so many more than in earlier tables, and a work in which it waits is one in which it waited there.
pub record IsCarried (more : ℕ) (t : Tables) (pid : Pid) (s : Seat) : Type 0 where
  pub old : Seat
  pub was : seat_in t.seats pid ≡ Some old
  pub sends : s.note.sends ≤ old.note.sends + more
  pub lookups : s.note.lookups ≤ old.note.lookups + more
  pub work : (w : Waiting) → s.doing ≡ activities.Blocked w → is_work pid w ≡ true → (old.doing ≡ activities.Blocked w) × IsSameWork s old

pub record Carries (more : ℕ) (t u : Tables) : Type 0 where
  pub seats : (pid : Pid) (s : Seat) → seat_in u.seats pid ≡ Some s → IsCarried more t pid s
  pub aliens : (sender : Pid) (a : Alien) → alien_from u.slots sender ≡ Some a →
      (x : Alien) × (alien_from t.slots sender ≡ Some x) × (a.moves ≡ x.moves)

then_same : (s y z : Seat) → IsSameWork y s → IsSameWork z y → IsSameWork z s
then_same s y z a b = record {
  work = b.work ∙ a.work;
  offset = b.offset ∙ a.offset;
  fresh = b.fresh ∙ a.fresh;
}

more_then : (a b c n m : ℕ) → b ≤ a + n → c ≤ b + m → c ≤ a + (n + m)
more_then a b c n m x y = omega arith

pub carries_then : (n m : ℕ) (t u v : Tables) → Carries n t u → Carries m u v → Carries (n + m) t v
carries_then n m t u v a b = record {
  seats = λ pid s at.
      let y = b.seats pid s at in
      let x = a.seats pid y.old y.was in
      record {
        old = x.old;
        was = x.was;
        sends = more_then x.old.note.sends y.old.note.sends s.note.sends n m x.sends y.sends;
        lookups = more_then x.old.note.lookups y.old.note.lookups s.note.lookups n m x.lookups y.lookups;
        work = λ w blocked is.
            let f = y.work w blocked is in
            let g = x.work w f.0 is in
            (g.0, then_same x.old y.old s g.1 f.1);
      };
  aliens = λ sender z at.
      let y = b.aliens sender z at in
      let x = a.aliens sender y.0 y.1 in
      (x.0, x.1, y.2 ∙ x.2);
}

less_more : (a b : ℕ) → a ≤ b + 0 → a ≤ b + 1
less_more a b low = omega arith

pub carries_more : {t u : Tables} → Carries 0 t u → Carries 1 t u
carries_more g = record {
  seats = λ pid s at. let x = g.seats pid s at in record {
    old = x.old;
    was = x.was;
    sends = less_more s.note.sends x.old.note.sends x.sends;
    lookups = less_more s.note.lookups x.old.note.lookups x.lookups;
    work = x.work;
  };
  aliens = g.aliens;
}

-- The relation after an entry within which the tables stand for each kernel, and of which the reading's works are these.
pub record IsReadingAfter (t u : Tables) (r q : Reading) : Type 0 where
  pub slots : q.slots ≡ map (option_map read_alien) u.slots
  pub events : q.events ≡ r.events + 1
  -- a process that waits in a work has it as before
  pub works : (pid : Pid) (s : Seat) (w : Waiting) → seat_in u.seats pid ≡ Some s → s.doing ≡ activities.Blocked w → is_work pid w ≡ true →
      q.work pid ≡ r.work pid

pub one_event : (a x n m : ℕ) → a ≡ x → x ≤ n → m ≡ n + 1 → a ≤ m
one_event a x n m is low more = omega arith

pub stands_part : (times : Times) (host : ℕ) (t u : Tables) (r q : Reading) → Stands times host t r → Part host u q.view → Carries 1 t u →
    IsReadingAfter t u r q → Stands times host u q
stands_part times host t u r q h part carries after =
    stands_then times host t u r q h part.view (record {
      sound = part.sound;
      names = part.names;
      unknown = part.unknown;
      slots = after.slots;
      queues = part.queues;
      events = after.events;
      seats = λ pid s at. let c = carries.seats pid s at in record { old = c.old; was = c.was; sends = c.sends; lookups = c.lookups };
      aliens = λ sender a at. let x = carries.aliens sender a at in
          one_event a.moves x.0.moves r.events q.events x.2 (h.moved sender x.0 x.1) after.events;
    })
    (λ pid s w at blocked is.
    let c = carries.seats pid s at in
    let g = c.work w blocked is in
    working_kept times s c.old (r.work pid) (q.work pid) w g.1 (after.works pid s w at blocked is) (h.works pid c.old w c.was g.0 is))

-- One process has changed: what it carries.
pub same_more : (more n : ℕ) → n ≤ n + more
same_more more n = omega arith

module _ (more : ℕ) (t : Tables) (pid : Pid) (s : Seat) (found : seat_in t.seats pid ≡ Some s) (f : Seat → Seat)
    (keeps : (x : Seat) → (f x).pid ≡ x.pid) (sends : (f s).note.sends ≤ s.note.sends + more)
    (lookups : (f s).note.lookups ≤ s.note.lookups + more)
    (work : (w : Waiting) → (f s).doing ≡ activities.Blocked w → is_work pid w ≡ true →
    (s.doing ≡ activities.Blocked w) × IsSameWork (f s) s) where
  by_pid : (q : Pid) (x : Seat) (b : Bool) → same_pid q pid ≡ b → seat_in t.seats q ≡ Some x → IsCarried more t q (only pid f x)
  by_pid q x true same at =
      let one : s ≡ x = same_Some s x (sym found ∙ ap (seat_in t.seats) (sym (same_pid_is q pid same)) ∙ at) in
      let here : only pid f s ≡ f s = only_here pid f s (seat_found t.seats pid s found).named in
      subst (λ p. IsCarried more t p (only pid f x)) (sym (same_pid_is q pid same))
      (subst (λ z. IsCarried more t pid (only pid f z)) one (subst (IsCarried more t pid) (sym here)
      (record { old = s; was = found; sends = sends; lookups = lookups; work = work })))
  by_pid q x false other at =
      subst (IsCarried more t q) (sym (only_other pid f x (ap (λ p. same_pid p pid) (seat_found t.seats q x at).named ∙ other))) (record {
        old = x;
        was = at;
        sends = same_more more x.note.sends;
        lookups = same_more more x.note.lookups;
        work = λ w blocked is. (blocked, same_work x);
      })

  pub carries_seated : Carries more t (seated t pid f)
  carries_seated = record {
    seats = λ q y at.
        let x = mapped_is (only pid f) (seat_in t.seats q) y (sym (seats_changed pid f keeps t.seats q) ∙ at) in
        subst (IsCarried more t q) x.2 (by_pid q x.0 (same_pid q pid) refl x.1);
    aliens = λ sender a at. (a, at, refl);
  }

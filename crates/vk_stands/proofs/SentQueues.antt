-- The message of a local Send waits at its target behind all others.
use Rattle.std.proofs.Common.{◌≡◌, ◌≢◌, ℕ, zero, suc, ◌+◌, ◌-◌, ◌<◌, ◌≤◌, ◌==◌, ◌||◌, nat_lt, Bool, true, false, cond, not, List, [], ◌∷◌, ◌++◌, length, map, slice_set, Option, Some, None, refl, sym, ap, subst, ◌∙◌, inl, inr, le_refl}
use Rattle.std.specs.List.{position, slice_get}
use Rattle.std.specs.Option.{option_map}
use Rattle.std.proofs.lemmas.Bool.{and_parts, and_right, both_ways, cases_Bool, cond-true, eq-eqb, eqb-true, false_from_ne_true, lt-ltb}
use Rattle.std.proofs.lemmas.List.{get_or-set_other, get_or-set_same, length-map, length-set}
use Rattle.std.proofs.lemmas.List.Quantifiers.{position-Some}
use Rattle.std.proofs.lemmas.Option.{same_Some, none-some}
use Rattle.vk_types.specs.Types.{Exchange, Message, Name, Pid}
use Rattle.vk_base.specs.declared.activity.Activity.TheVariants as activities
use Rattle.vk_base.specs.declared.activity.Waiting.TheVariants as waitings
use Rattle.vk_base.specs.declared.call.Call.TheVariants as calls
use Rattle.vk_base.specs.declared.limits.TheConstants.{STATION_PROCESSES}
use Rattle.vk_base.specs.declared.step.Step.TheVariants as steps
unfoldable use Rattle.vk_base.specs.Calls.{sent}
use Rattle.vk_base.specs.Calls.{unseen}
use Rattle.vk_base.specs.Kernel.{Kernel, holds_of, is_queued, is_queued_at, name_of, queue_of}
use Rattle.vk_base.specs.Pids.{same_host, same_pid}
use Rattle.vk_base.specs.Steps.{effect}
use Rattle.vk_base.proofs.PidLemmas.{same_pid_self}
use Rattle.vk_base.proofs.ListLemmas.{map_end}
use Rattle.v_laws.proofs.Changes.{queued_is_at_target}
use Rattle.v_laws.proofs.Queues.{queue-sent_elsewhere, queue-sent_here}
use Rattle.v_laws.proofs.SoundLemmas.{sound_step}
use Rattle.v_laws.proofs.Tables.{same_pid_is}
use Rattle.vk_pool.specs.Aliens.{alien_at}
use Rattle.vk_procs.specs.declared.seat.Seat.{Seat}
use Rattle.vk_procs.specs.Seats.{begun_send, is_seat, process_of, seat_in}
use Rattle.vk_queue.specs.Lists.{holds, queue_at, without}
use Rattle.vk_queue.proofs.Cleared.{whole}
use Rattle.vk_stands.specs.Fit.{AreFit}
use Rattle.vk_stands.specs.Stands.{IsHome}
use Rattle.vk_stands.specs.Tables.{Tables, alien_name, is_work, names_at, seat_name, slot_name}
use Rattle.vk_stands.proofs.Fits.{get_changed_is, placed_here}
use Rattle.vk_stands.proofs.Found.{alien_found}
use Rattle.vk_stands.proofs.Listed.{low_place, not_in_list, place_name, placed_at, places_apart}
use Rattle.vk_stands.proofs.OneSeat.{seated}
use Rattle.vk_stands.proofs.Parts.{AreQueues, Carries, Part, carries_seated, same_more}
use Rattle.vk_stands.proofs.Seats.{get-changed, length-changed, position-changed}
use Rattle.vk_stands.proofs.Sent.{CanSend, begun_fit, ready_waits, same_send, seat_here, view_sent}

-- a process that is ready has no Send that is queued
pub ready_unqueued : (host : ℕ) (t : Tables) (k : Kernel) (part : Part host t k) (pid : Pid) (own : pid.host ≡ host) (s : Seat)
    (found : seat_in t.seats pid ≡ Some s) (ready : s.doing ≡ activities.Ready) (q : Pid) (here : q.host ≡ host) (number : ℕ) →
    holds_of (is_queued_at q) (k.exchanges (name_of pid number)) ≡ false
ready_unqueued host t k part pid own s found ready q here number = by_exchange (k.exchanges (name_of pid number)) refl
  where
    never : (e : Exchange) → IsHome host t (name_of pid number) e → ⊥
    never e (inl m) =
        let one : s ≡ m.1.0 = same_Some s m.1.0 (sym found ∙ m.1.1) in
        ready_waits s (waitings.Send e.target e.message) ready (ap (λ (z : Seat). z.doing) one ∙ m.1.2.waits)
    never e (inr a) =
        let place = alien_found t.slots pid a.0 a.1 in
        (part.fit.aliens place.at a.0 place.here).foreign (ap (λ (p : Pid). p.host) place.from ∙ own)

    queued_home : (e : Exchange) → k.exchanges (name_of pid number) ≡ Some e → is_queued_at q e ≡ true → ⊥
    queued_home e at is =
        let parts = and_parts (same_pid e.at q) (is_queued e.stage) is in
        never e (part.view.home (name_of pid number) e at (eqb-true e.target.host e.at.host (part.sound.near (name_of pid number) e at)
        ∙ ap (λ (p : Pid). p.host) (same_pid_is e.at q parts.0) ∙ here)
        (queued_is_at_target e.stage parts.1))

    by_exchange : (o : Option Exchange) → k.exchanges (name_of pid number) ≡ o →
        holds_of (is_queued_at q) (k.exchanges (name_of pid number)) ≡ false
    by_exchange None none = ap (holds_of (is_queued_at q)) none
    by_exchange (Some e) some = false_from_ne_true (holds_of (is_queued_at q) (k.exchanges (name_of pid number)))
        (λ is. queued_home e some (sym (ap (holds_of (is_queued_at q)) some) ∙ is))

-- a slot at the end of one list, and nowhere else
abbrev pub last_in : List (List ℕ) → ℕ → ℕ → List (List ℕ)
last_in lists at slot = slice_set (map (without slot) lists) at (queue_at (map (without slot) lists) at ++ slot ∷ [])

pub without_at : (slot : ℕ) (lists : List (List ℕ)) (i : ℕ) → queue_at (map (without slot) lists) i ≡ without slot (queue_at lists i)
without_at slot [] i = refl
without_at slot (q ∷ qs) zero = refl
without_at slot (q ∷ qs) (suc i) = without_at slot qs i

-- names of slots that are not this one
names_but : (f g : ℕ → Option Name) (slot : ℕ) → ((j : ℕ) → (slot == j) ≡ false → f j ≡ g j) → (q : List ℕ) → holds slot q ≡ false →
    map f q ≡ map g q
names_but f g slot same [] none = refl
names_but f g slot same (j ∷ q) none =
    let parts = neither (slot == j) (holds slot q) none in
    ap (λ x. x ∷ map f q) (same j parts.0) ∙ ap (λ xs. g j ∷ xs) (names_but f g slot same q parts.1)
  where
    neither : (a b : Bool) → (a || b) ≡ false → (a ≡ false) × (b ≡ false)
    neither true b e = absurd (cc)
    neither false b e = (refl, e)

-- A process that is ready changes, and its last Send may be another one: its slot stands in no list, and the others are of the Sends that
-- they were of.
module _ (host : ℕ) (t : Tables) (k : Kernel) (part : Part host t k) (pid : Pid) (own : pid.host ≡ host) (s : Seat)
    (found : seat_in t.seats pid ≡ Some s) (ready : s.doing ≡ activities.Ready) (slot : ℕ)
    (here : position (is_seat pid) t.seats ≡ Some slot) where
  pub unlisted : (q : Pid) (i : ℕ) → position (is_seat q) t.seats ≡ Some i → holds slot (queue_at t.lists i) ≡ false
  unlisted q i place =
      not_in_list t k part.queues q i slot (seat_name s) place (place_name host t part.fit pid s slot here found)
      (ap (λ p. holds_of (is_queued_at q) (k.exchanges (name_of p s.note.sends)))
      (same_pid_is s.pid pid (placed_at t pid s slot here found).named)
      ∙ ready_unqueued host t k part pid own s found ready q (placed_here host t part.fit q i s place) s.note.sends)

  module _ (f : Seat → Seat) (keeps : (x : Seat) → (f x).pid ≡ x.pid) where
    other_by : (j : ℕ) → (slot == j) ≡ false → (o : Option Seat) → slice_get (seated t pid f).seats j ≡ o →
        option_map seat_name (slice_get (seated t pid f).seats j) ≡ option_map seat_name (slice_get t.seats j)
    other_by j other None none =
        ap (option_map seat_name) none ∙ sym (ap (option_map seat_name) (gone (slice_get t.seats j) refl))
      where
        gone : (o : Option Seat) → slice_get t.seats j ≡ o → slice_get t.seats j ≡ None
        gone None is = is
        gone (Some x) is =
            let same = get-changed (is_seat pid) f (λ (z : Seat). z.pid) t.seats j keeps in
            absurd (none-some x.pid (sym (ap (option_map (λ (z : Seat). z.pid)) none) ∙ same
            ∙ ap (option_map (λ (z : Seat). z.pid)) is))
    other_by j other (Some y) some =
        let c = get_changed_is (is_seat pid) f t.seats j y some in
        ap (option_map seat_name) some ∙ ap (λ z. Some (seat_name z)) (elim c.how [
          | inl same ↦ same
          | inr is ↦
              let one : slot ≡ j = same_Some slot j (sym here ∙ ap (λ p. position (is_seat p) t.seats)
              (sym (same_pid_is c.old.pid pid is.0))
              ∙ part.fit.places j c.old c.was) in
              absurd (both_ways (slot == j) other (eq-eqb slot j one))
        ]) ∙ sym (ap (option_map seat_name) c.was)

    pub other_kept : (j : ℕ) → (slot == j) ≡ false → slot_name (seated t pid f).seats t.slots j ≡ slot_name t.seats t.slots j
    other_kept j other = ap (λ o. cond (nat_lt j STATION_PROCESSES) o (option_map alien_name (alien_at t.slots (j - STATION_PROCESSES))))
        (other_by j other (slice_get (seated t pid f).seats j) refl)

    pub names_still : (q : Pid) (i : ℕ) → position (is_seat q) t.seats ≡ Some i → names_at (seated t pid f) i ≡ names_at t i
    names_still q i place = names_but (slot_name (seated t pid f).seats t.slots) (slot_name t.seats t.slots) slot other_kept
        (queue_at t.lists i) (unlisted q i place)

module _ (host : ℕ) (t : Tables) (k : Kernel) (part : Part host t k) (pid : Pid) (own : pid.host ≡ host) (s : Seat)
    (found : seat_in t.seats pid ≡ Some s) (target : Pid) (m : Message) (g : CanSend s m) (local : same_host pid target ≡ true)
    (at slot : ℕ)
    (there : position (is_seat target) t.seats ≡ Some at) (here : position (is_seat pid) t.seats ≡ Some slot) where
  abbrev pub sent_tables : Tables
  sent_tables = record (seated t pid (begun_send target m)) { lists = last_in t.lists at slot }

  abbrev name : Name
  name = name_of pid (s.note.sends + 1)

  abbrev now : ℕ → Option Name
  now = slot_name sent_tables.seats t.slots

  abbrev before : ℕ → Option Name
  before = slot_name t.seats t.slots

  same_place : (q : Pid) → position (is_seat q) sent_tables.seats ≡ position (is_seat q) t.seats
  same_place q = position-changed (is_seat pid) (begun_send target m) (is_seat q) (λ x. refl) t.seats

  -- its slot is of the new Send, and stood in no list
  slot_now : now slot ≡ Some name
  slot_now =
      place_name_in sent_tables (same_place pid ∙ here) (seat_here host t k part pid own s found target m g) few
      ∙ (λ i. Some (name_of (same_pid_is s.pid pid (placed_at t pid s slot here found).named i) (g.more i)))
    where
      few : length sent_tables.seats ≤ STATION_PROCESSES
      few = subst (λ n. n ≤ STATION_PROCESSES) (sym (length-changed (is_seat pid) (begun_send target m) t.seats)) part.fit.few

      place_name_in : (u : Tables) → position (is_seat pid) u.seats ≡ Some slot →
          seat_in u.seats pid ≡ Some (begun_send target m s) → length u.seats ≤ STATION_PROCESSES →
          slot_name u.seats t.slots slot ≡ Some (seat_name (begun_send target m s))
      place_name_in u place seat low =
          let is = placed_at u pid (begun_send target m s) slot place seat in
          cond-true (nat_lt slot STATION_PROCESSES) _ _
          (lt-ltb slot STATION_PROCESSES (low_place slot (length u.seats) STATION_PROCESSES is.low low))
          ∙ ap (option_map seat_name) is.here

  in_none : (q : Pid) (i : ℕ) → position (is_seat q) t.seats ≡ Some i → holds slot (queue_at t.lists i) ≡ false
  in_none q i place = unlisted host t k part pid own s found g.ready slot here q i place

  other_slot : (j : ℕ) → (slot == j) ≡ false → now j ≡ before j
  other_slot j other = other_kept host t k part pid own s found g.ready slot here (begun_send target m) (λ x. refl) j other

  kept_names : (q : Pid) (i : ℕ) → position (is_seat q) t.seats ≡ Some i →
      map now (without slot (queue_at t.lists i)) ≡ map before (queue_at t.lists i)
  kept_names q i place =
      ap (map now) (whole slot (queue_at t.lists i) (in_none q i place))
      ∙ names_but now before slot other_slot (queue_at t.lists i) (in_none q i place)

  low_list : (i : ℕ) (q : Pid) → position (is_seat q) t.seats ≡ Some i → i < length (map (without slot) t.lists)
  low_list i q place =
      let facts = position-Some (is_seat q) t.seats i s place in
      subst (λ n. i < n) (sym (length-map t.lists (without slot) ∙ part.fit.lists))
      (low_place i (length t.seats) STATION_PROCESSES facts.0 part.fit.few)

  queue_here : map Some (queue_of (sent k pid (process_of s) target m) target) ≡ names_at sent_tables at
  queue_here =
      ap (map Some) (queue-sent_here k pid (process_of s) target m target part.sound (part.view.procs pid own
      ∙ ap (option_map process_of) found)
      local (same_pid_self target))
      ∙ map_end Some (queue_of k target) name ∙ ap (λ ns. ns ++ Some name ∷ []) (part.queues target at there)
      ∙ sym (ap (map now) (get_or-set_same (map (without slot) t.lists) at (queue_at (map (without slot) t.lists) at ++ slot ∷ []) []
      (low_list at target there) ∙ ap (λ q. q ++ slot ∷ []) (without_at slot t.lists at))
      ∙ map_end now (without slot (queue_at t.lists at)) slot
      ∙ ap (λ ns. ns ++ now slot ∷ []) (kept_names target at there)
      ∙ ap (λ n. names_at t at ++ n ∷ []) slot_now)

  queue_elsewhere : (q : Pid) (i : ℕ) → position (is_seat q) t.seats ≡ Some i → same_pid target q ≡ false →
      map Some (queue_of (sent k pid (process_of s) target m) q) ≡ names_at sent_tables i
  queue_elsewhere q i place other =
      let apart : i ≢ at = λ same. places_apart t.seats s target q at i there place other same in
      ap (map Some) (queue-sent_elsewhere k pid (process_of s) target m q part.sound
      (part.view.procs pid own ∙ ap (option_map process_of) found) (and_right (same_host pid target) (same_pid target q) other))
      ∙ part.queues q i place
      ∙ sym (ap (map now) (get_or-set_other (map (without slot) t.lists) at i
      (queue_at (map (without slot) t.lists) at ++ slot ∷ []) [] apart
      ∙ without_at slot t.lists i) ∙ kept_names q i place)

  queues_sent : AreQueues sent_tables (sent k pid (process_of s) target m)
  queues_sent q i place = elim (cases_Bool (same_pid target q)) [
    | inl same ↦
        let one : target ≡ q = same_pid_is target q same in
        let mine : i ≡ at = same_Some i at (sym (sym (same_place q) ∙ place) ∙ ap (λ p. position (is_seat p) t.seats) (sym one) ∙ there) in
        subst (λ p. map Some (queue_of (sent k pid (process_of s) target m) p) ≡ names_at sent_tables i) one
        (queue_here ∙ ap (names_at sent_tables) (sym mine))
    | inr other ↦ queue_elsewhere q i (sym (same_place q) ∙ place) other
  ]

  lists_length : length (last_in t.lists at slot) ≡ length t.lists
  lists_length = length-set (map (without slot) t.lists) at _ ∙ length-map t.lists (without slot)

  pub sent_fit : AreFit host sent_tables
  sent_fit =
      let fit : AreFit host (seated t pid (begun_send target m)) = begun_fit host t k part pid own s found target m g in
      record {
        few = fit.few;
        lists = lists_length ∙ part.fit.lists;
        pool = fit.pool;
        places = fit.places;
        seats = fit.seats;
        apart = fit.apart;
        aliens = fit.aliens;
      }

  -- a local Send is begun
  pub part_sent : effect k (steps.Call pid (calls.Send target m)) ≡ Some (unseen (sent k pid (process_of s) target m)) →
      Part host sent_tables (sent k pid (process_of s) target m)
  unfolding sent
  part_sent does = record {
    fit = sent_fit;
    view = view_sent host t k part pid own s found target m g (last_in t.lists at slot);
    sound = sound_step k (steps.Call pid (calls.Send target m)) (unseen (sent k pid (process_of s) target m)) part.sound does;
    names = part.names;
    unknown = part.unknown;
    queues = queues_sent;
  }

  pub sent_carries : Carries 1 t sent_tables
  sent_carries =
      let c : Carries 1 t (seated t pid (begun_send target m)) = carries_seated 1 t pid s found (begun_send target m) (λ x. refl)
      (subst (λ n. n ≤ s.note.sends + 1) (sym g.more) (le_refl (s.note.sends + 1))) (same_more 1 s.note.lookups)
      (λ w is work. let both : not (same_host pid target) ≡ true = ap (is_work pid) (same_send target m w is) ∙ work in
      absurd (cc_local both)) in
      record { seats = c.seats; aliens = c.aliens }
    where
      cc_local : not (same_host pid target) ≡ true → ⊥
      cc_local both = let bad : not true ≡ true = sym (ap not local) ∙ both in absurd (cc)

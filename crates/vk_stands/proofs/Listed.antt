-- What stands in the list of a process: the slot of a Send that is queued there, and of no other.
use Rattle.std.proofs.Common.{◌≡◌, ℕ, ◌<◌, ◌≤◌, ◌==◌, ◌||◌, nat_lt, Bool, true, false, List, [], ◌∷◌, length, map, get_or, Option, Some, refl, sym, ap, ◌∙◌, arith}
use Rattle.std.specs.List.{list_any, position, slice_get}
use Rattle.std.specs.Option.{option_map}
use Rattle.std.proofs.lemmas.Bool.{both_ways, cond-true, eqb-true, false_from_ne_true, lt-ltb}
use Rattle.std.proofs.lemmas.List.Quantifiers.{position-Some}
use Rattle.std.proofs.lemmas.Option.{same_Some, slice_get-get_or}
use Rattle.vk_types.specs.Types.{Name, Pid}
use Rattle.vk_base.specs.declared.limits.TheConstants.{STATION_PROCESSES}
use Rattle.vk_base.specs.Kernel.{Kernel, holds_of, is_queued_at, same_name}
unfoldable use Rattle.vk_base.specs.Kernel.{queue_of}
use Rattle.vk_base.specs.Pids.{same_pid}
use Rattle.vk_base.proofs.PidLemmas.{same_pid_self}
use Rattle.v_laws.proofs.FilterLemmas.{none_kept}
use Rattle.v_laws.proofs.Tables.{same_name_is, same_name_self, same_pid_is}
use Rattle.vk_procs.specs.declared.seat.Seat.{Seat}
use Rattle.vk_procs.specs.Seats.{is_seat, seat_in}
use Rattle.vk_queue.specs.Lists.{holds, queue_at}
use Rattle.vk_stands.specs.Fit.{AreFit}
use Rattle.vk_stands.specs.Tables.{Tables, seat_name, slot_name}
use Rattle.vk_stands.proofs.Lists.{find-position}
use Rattle.vk_stands.proofs.Parts.{AreQueues}

-- a slot that stands in a list of which the names are these has its name among them
listed_by : (f : ℕ → Option Name) (slot s : ℕ) (q : List ℕ) (n m : Name) (ns : List Name) (b : Bool) → (slot == s) ≡ b → f slot ≡ Some n →
    f s ≡ Some m →
    (b || holds slot q) ≡ true → (holds slot q ≡ true → list_any (same_name n) ns ≡ true) →
    (same_name n m || list_any (same_name n) ns) ≡ true
listed_by f slot s q n m ns true same named has t again =
    let one : n ≡ m = same_Some n m (sym named ∙ ap f (eqb-true slot s same) ∙ has) in
    ap (λ b. b || list_any (same_name n) ns) (ap (same_name n) (sym one) ∙ same_name_self n)
listed_by f slot s q n m ns false same named has t again = by_name (same_name n m) (again t)
  where
    by_name : (b : Bool) → list_any (same_name n) ns ≡ true → (b || list_any (same_name n) ns) ≡ true
    by_name true is = refl
    by_name false is = is

pub listed : (f : ℕ → Option Name) (slot : ℕ) (n : Name) → f slot ≡ Some n → (q : List ℕ) (ns : List Name) → map Some ns ≡ map f q →
    holds slot q ≡ true → list_any (same_name n) ns ≡ true
listed f slot n named [] ns same t = absurd (cc)
listed f slot n named (s ∷ q) [] same t = absurd (cc)
listed f slot n named (s ∷ q) (m ∷ ns) same t =
    let first : f s ≡ Some m = cc in
    let rest : map Some ns ≡ map f q = cc in
    listed_by f slot s q n m ns (slot == s) refl named first t (listed f slot n named q ns rest)

-- a name that is not queued at a process is not in its queue
queued_one : (k : Kernel) (q : Pid) (n x : Name) → holds_of (is_queued_at q) (k.exchanges n) ≡ false →
    holds_of (is_queued_at q) (k.exchanges x) ≡ true → same_name n x ≡ false
queued_one k q n x away is = false_from_ne_true (same_name n x) (λ same.
    both_ways (holds_of (is_queued_at q) (k.exchanges n)) away (ap (λ z. holds_of (is_queued_at q) (k.exchanges z)) (same_name_is n x same)
    ∙ is))

pub not_queued : (k : Kernel) (q : Pid) (n : Name) → holds_of (is_queued_at q) (k.exchanges n) ≡ false →
    list_any (same_name n) (queue_of k q) ≡ false
unfolding queue_of
not_queued k q n away = none_kept (same_name n) (λ x. holds_of (is_queued_at q) (k.exchanges x)) k.arrived
    (λ x is. queued_one k q n x away is)

pub not_in_list : (t : Tables) (k : Kernel) (queues : AreQueues t k) (q : Pid) (at slot : ℕ) (n : Name) →
    position (is_seat q) t.seats ≡ Some at →
    slot_name t.seats t.slots slot ≡ Some n → holds_of (is_queued_at q) (k.exchanges n) ≡ false → holds slot (queue_at t.lists at) ≡ false
not_in_list t k queues q at slot n place named away = false_from_ne_true (holds slot (queue_at t.lists at)) (λ is.
    both_ways (list_any (same_name n) (queue_of k q)) (not_queued k q n away)
    (listed (slot_name t.seats t.slots) slot n named (queue_at t.lists at) (queue_of k q) (queues q at place) is))

-- The place of a process.
pub record IsSeatAt (t : Tables) (pid : Pid) (s : Seat) (at : ℕ) : Type 0 where
  pub here : slice_get t.seats at ≡ Some s
  pub low : at < length t.seats
  pub named : is_seat pid s ≡ true

pub placed_at : (t : Tables) (pid : Pid) (s : Seat) (at : ℕ) → position (is_seat pid) t.seats ≡ Some at → seat_in t.seats pid ≡ Some s →
    IsSeatAt t pid s at
placed_at t pid s at place found =
    let facts = position-Some (is_seat pid) t.seats at s place in
    let is : get_or t.seats at s ≡ s = same_Some (get_or t.seats at s) s (sym (find-position (is_seat pid) t.seats at s place) ∙ found) in
    record {
      here = slice_get-get_or t.seats at s facts.0 ∙ ap Some is;
      low = facts.0;
      named = ap (is_seat pid) (sym is) ∙ facts.1;
    }

pub low_place : (at n most : ℕ) → at < n → n ≤ most → at < most
low_place at n most a b = omega arith

pub place_name : (host : ℕ) (t : Tables) (fit : AreFit host t) (pid : Pid) (s : Seat) (at : ℕ) → position (is_seat pid) t.seats ≡ Some at →
    seat_in t.seats pid ≡ Some s → slot_name t.seats t.slots at ≡ Some (seat_name s)
place_name host t fit pid s at place found =
    let is = placed_at t pid s at place found in
    cond-true (nat_lt at STATION_PROCESSES) _ _ (lt-ltb at STATION_PROCESSES
    (low_place at (length t.seats) STATION_PROCESSES is.low fit.few))
    ∙ ap (option_map seat_name) is.here

-- two processes have two places
pub places_apart : (seats : List Seat) (d : Seat) (p q : Pid) (at i : ℕ) → position (is_seat p) seats ≡ Some at →
    position (is_seat q) seats ≡ Some i → same_pid p q ≡ false → i ≡ at → ⊥
places_apart seats d p q at i mine theirs other same =
    let a = position-Some (is_seat q) seats i d theirs in
    let b = position-Some (is_seat p) seats at d mine in
    let one : p ≡ q =
    sym (same_pid_is (get_or seats at d).pid p b.1) ∙ ap (λ n. (get_or seats n d).pid) (sym same)
    ∙ same_pid_is (get_or seats i d).pid q a.1 in
    both_ways (same_pid p q) other (ap (same_pid p) (sym one) ∙ same_pid_self p)

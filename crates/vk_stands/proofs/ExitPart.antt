-- A process exits: the tables stand for the kernel after it.
use Rattle.std.proofs.Common.{◌≡◌, ℕ, ◌+◌, ◌-◌, ◌<◌, ◌≤◌, ◌&&◌, nat_lt, Bool, true, false, cond, not, List, [], ◌∷◌, filter, length, map, slice_set, Option, Some, None, refl, sym, ap, subst, ◌∙◌, inl, inr, if◌then◌else◌}
use Rattle.std.specs.List.{position, slice_get}
use Rattle.std.specs.Option.{option_map}
use Rattle.std.proofs.lemmas.Bool.{and_from, and_parts, and_right, both_ways, cases_Bool, cond-false, false_from_ne_true}
use Rattle.std.proofs.lemmas.List.{get_or-set_other, get_or-set_same}
use Rattle.std.proofs.lemmas.List.Elements.{filter_agree}
use Rattle.std.proofs.lemmas.List.Quantifiers.{position-Some}
use Rattle.std.proofs.lemmas.Option.{same_Some, slice_get-map}
use Rattle.vk_types.specs.Types.{Exchange, Name, Pid, Registration, Waiting}
use Rattle.vk_base.specs.declared.activity.Activity.TheVariants as activities
use Rattle.vk_base.specs.declared.answer.Answer.TheVariants as answers
use Rattle.vk_base.specs.declared.call.Call.TheVariants as calls
use Rattle.vk_base.specs.declared.kernel.Stage.TheVariants as stages
use Rattle.vk_base.specs.declared.limits.TheConstants.{STATION_PROCESSES}
use Rattle.vk_base.specs.declared.step.Step.TheVariants as steps
use Rattle.vk_base.specs.Calls.{answered, dropped_at, is_message_at}
unfoldable use Rattle.vk_base.specs.Calls.{exited}
use Rattle.vk_base.specs.Kernel.{Kernel, holds_of, is_queued, is_queued_at}
unfoldable use Rattle.vk_base.specs.Kernel.{queue_of}
use Rattle.vk_base.specs.Pids.{same_pid}
use Rattle.vk_base.specs.Steps.{effect}
use Rattle.vk_base.proofs.OptionLemmas.{mapped_is}
use Rattle.v_laws.proofs.Changes.{queued_is_at_target}
use Rattle.v_laws.proofs.SoundLemmas.{sound_step}
use Rattle.v_laws.proofs.Tables.{same_pid_is}
use Rattle.vk_pool.specs.declared.alien.Alien.{Alien}
use Rattle.vk_pool.specs.Aliens.{alien_at, alien_from}
use Rattle.vk_pool.proofs.Shown.{position-mapped}
use Rattle.vk_procs.specs.declared.seat.Seat.{Seat}
use Rattle.vk_procs.specs.Seats.{bereft, finished, is_seat, killed, process_of, seat_in, waits_at}
use Rattle.vk_queue.specs.Lists.{queue_at}
use Rattle.vk_stands.specs.Tables.{Tables, alien_name, seat_name, slot_name}
use Rattle.vk_stands.proofs.Exited.{bereft_name, gone, left_behind, turned_away, turned_same}
use Rattle.vk_stands.proofs.ExitFits.{alien_at_map, exit_fit}
use Rattle.vk_stands.proofs.ExitView.{exit_alien_of, exit_seat_in, exit_seats, exit_slots, kept_doing, over, view_exited}
use Rattle.vk_stands.proofs.Fits.{map_all}
use Rattle.vk_stands.proofs.Listed.{low_place, places_apart}
use Rattle.vk_stands.proofs.Parts.{AreQueues, Carries, IsCarried, Part, same_more}
use Rattle.vk_stands.proofs.Seats.{get-changed, position-changed}
use Rattle.vk_stands.proofs.Waits.{only}
use Rattle.vk_stands.proofs.Whole.{IsSameWork, same_work}

-- Queues: the process's own is empty, the others are as they were.
none_left : {A : Type 0} (test : A → Bool) (xs : List A) → ((x : A) → test x ≡ false) → filter test xs ≡ []
none_left test [] none = refl
none_left test (x ∷ xs) none = ap (λ b. cond b (x ∷ filter test xs) (filter test xs)) (none x) ∙ none_left test xs none

own_by : (pid : Pid) (e : Exchange) (b : Bool) → is_message_at pid e ≡ b →
    is_queued_at pid (if b then record e { stage = stages.Dropped } else e) ≡ false
own_by pid e true message = and_right (same_pid e.at pid) false refl
own_by pid e false other = false_from_ne_true (is_queued_at pid e) (λ queued.
    let parts = and_parts (same_pid e.at pid) (is_queued e.stage) queued in
    both_ways (is_message_at pid e) other (and_from (same_pid e.at pid) _ parts.0 (queued_is_at_target e.stage parts.1)))

own_none : (pid : Pid) (o : Option Exchange) → holds_of (is_queued_at pid) (option_map (dropped_at pid) o) ≡ false
own_none pid None = refl
own_none pid (Some e) = own_by pid e (is_message_at pid e) refl

other_by : (pid q : Pid) (e : Exchange) (b : Bool) → same_pid pid q ≡ false → is_message_at pid e ≡ b →
    is_queued_at q (if b then record e { stage = stages.Dropped } else e) ≡ is_queued_at q e
other_by pid q e true apart message =
    let parts = and_parts (same_pid e.at pid) _ message in
    let away : same_pid e.at q ≡ false = ap (λ p. same_pid p q) (same_pid_is e.at pid parts.0) ∙ apart in
    and_right (same_pid e.at q) false refl ∙ sym (ap (λ b. b && is_queued e.stage) away)
other_by pid q e false apart other = refl

other_same : (pid q : Pid) (o : Option Exchange) → same_pid pid q ≡ false →
    holds_of (is_queued_at q) (option_map (dropped_at pid) o) ≡ holds_of (is_queued_at q) o
other_same pid q None apart = refl
other_same pid q (Some e) apart = other_by pid q e (is_message_at pid e) apart refl

queue_own : (k : Kernel) (pid : Pid) (s : Seat) → queue_of (exited k pid (process_of s)) pid ≡ []
unfolding queue_of exited
queue_own k pid s = none_left (λ n. holds_of (is_queued_at pid) (option_map (dropped_at pid) (k.exchanges n))) k.arrived
    (λ n. own_none pid (k.exchanges n))

queue_other : (k : Kernel) (pid q : Pid) (s : Seat) → same_pid pid q ≡ false → queue_of (exited k pid (process_of s)) q ≡ queue_of k q
unfolding queue_of exited
queue_other k pid q s apart =
    filter_agree (λ n. holds_of (is_queued_at q) (option_map (dropped_at pid) (k.exchanges n)))
    (λ n. holds_of (is_queued_at q) (k.exchanges n))
    (λ n. other_same pid q (k.exchanges n) apart) k.arrived

-- Names that slots have.
seat_names : (seats : List Seat) (pid : Pid) (j : ℕ) →
    option_map seat_name (slice_get (exit_seats seats pid) j) ≡ option_map seat_name (slice_get seats j)
seat_names seats pid j =
    get-changed (is_seat pid) killed seat_name (map (bereft pid) seats) j (λ s. refl)
    ∙ ap (option_map seat_name) (slice_get-map (bereft pid) seats j) ∙ by_seat (slice_get seats j)
  where
    by_seat : (o : Option Seat) → option_map seat_name (option_map (bereft pid) o) ≡ option_map seat_name o
    by_seat None = refl
    by_seat (Some s) = ap Some (bereft_name pid s)

alien_names : (slots : List (Option Alien)) (pid : Pid) (now j : ℕ) →
    option_map alien_name (alien_at (exit_slots slots pid now) j) ≡ option_map alien_name (alien_at slots j)
alien_names slots pid now j = ap (option_map alien_name) (alien_at_map (turned_away pid now) slots j) ∙ by_alien (alien_at slots j)
  where
    by_alien : (o : Option Alien) → option_map alien_name (option_map (turned_away pid now) o) ≡ option_map alien_name o
    by_alien None = refl
    by_alien (Some a) = λ i. Some (record { sender = (turned_same pid now a).sender i; number = (turned_same pid now a).number i })

module _ (host : ℕ) (t : Tables) (k : Kernel) (part : Part host t k) (pid : Pid) (own : pid.host ≡ host) (s : Seat)
    (found : seat_in t.seats pid ≡ Some s) (ready : s.doing ≡ activities.Ready) (now at : ℕ) (place : position (is_seat pid) t.seats
    ≡ Some at) where
  abbrev l : Kernel
  l = exited k pid (process_of s)

  -- its list is empty, and its names are gone
  abbrev pub after_exit : Tables
  after_exit = record {
    seats = exit_seats t.seats pid;
    lists = slice_set t.lists at [];
    slots = exit_slots t.slots pid now;
    names = filter (λ (r : Registration). not (same_pid r.pid pid)) t.names;
  }

  place_of : (q : Pid) → position (is_seat q) after_exit.seats ≡ position (is_seat q) t.seats
  place_of q = position-changed (is_seat pid) killed (is_seat q) (λ x. refl) (map (bereft pid) t.seats)
      ∙ bereft_place q
    where
      bereft_place : (q : Pid) → position (is_seat q) (map (bereft pid) t.seats) ≡ position (is_seat q) t.seats
      bereft_place q = sym (position-mapped (is_seat q) (is_seat q) (bereft pid)
          (λ x. ap (λ (n : Name). same_pid n.sender q) (sym (bereft_name pid x))) t.seats)

  slots_same : (q : List ℕ) → map (slot_name after_exit.seats after_exit.slots) q ≡ map (slot_name t.seats t.slots) q
  slots_same q = map_all (slot_name after_exit.seats after_exit.slots) (slot_name t.seats t.slots) q
      (λ slot. λ i. cond (nat_lt slot STATION_PROCESSES) (seat_names t.seats pid slot i)
      (alien_names t.slots pid now (slot - STATION_PROCESSES) i))

  low : at < length t.lists
  low =
      let here = position-Some (is_seat pid) t.seats at s place in
      subst (λ n. at < n) (sym part.fit.lists) (low_place at (length t.seats) STATION_PROCESSES here.0 part.fit.few)

  queues_exited : AreQueues after_exit l
  queues_exited q i there = elim (cases_Bool (same_pid pid q)) [
    | inl same ↦
        let one : pid ≡ q = same_pid_is pid q same in
        let mine : i ≡ at = same_Some i at (sym (sym (place_of q) ∙ there) ∙ ap (λ p. position (is_seat p) t.seats) (sym one) ∙ place) in
        ap (λ p. map Some (queue_of l p)) (sym one) ∙ ap (map Some) (queue_own k pid s)
        ∙ sym (ap (map (slot_name after_exit.seats after_exit.slots)) (ap (queue_at after_exit.lists) mine
        ∙ get_or-set_same t.lists at [] [] low))
    | inr other ↦
        ap (map Some) (queue_other k pid q s other) ∙ part.queues q i (sym (place_of q) ∙ there)
        ∙ sym (ap (map (slot_name after_exit.seats after_exit.slots))
        (get_or-set_other t.lists at i [] [] (places_apart t.seats s pid q at i place (sym (place_of q) ∙ there) other))
        ∙ slots_same (queue_at t.lists i))
  ]

  pub part_exited : effect k (steps.Call pid calls.Exit) ≡ Some (answered l pid calls.Exit answers.Ok) → Part host after_exit l
  unfolding exited
  part_exited does = record {
    fit = exit_fit host t pid now at after_exit.names part.fit;
    view = view_exited host t k part pid own s found ready now after_exit.lists after_exit.names;
    sound = sound_step k (steps.Call pid calls.Exit) (answered l pid calls.Exit answers.Ok) part.sound does;
    names = ap (filter (λ (r : Registration). not (same_pid r.pid pid))) part.names;
    unknown = λ g away. ap (filter (λ (r : Registration). not (same_pid r.pid pid))) (part.unknown g away);
    queues = queues_exited;
  }

  work_same : (b : Bool) (x : Seat) → IsSameWork (if b then killed x else x) x
  work_same true x = record { work = refl; offset = refl; fresh = refl }
  work_same false x = same_work x

  counts_by : (q : Pid) (x : Seat) (b : Bool) → waits_at pid x ≡ b → seat_in t.seats q ≡ Some x →
      IsCarried 0 t q (left_behind pid x)
  counts_by q x b sent there = record {
    old = x;
    was = there;
    sends = subst (λ n. n ≤ x.note.sends + 0) (sym (same_note (waits_at pid x) (same_pid (bereft pid x).pid pid)).0)
        (same_more 0 x.note.sends);
    lookups = subst (λ n. n ≤ x.note.lookups + 0) (sym (same_note (waits_at pid x) (same_pid (bereft pid x).pid pid)).1)
        (same_more 0 x.note.lookups);
    work = λ w blocked is. by_sent w b sent blocked;
  }
    where
      same_note : (c d : Bool) → ((if d then killed (if c then finished gone x else x) else (if c then finished gone x else x)).note.sends
          ≡ x.note.sends)
          × ((if d then killed (if c then finished gone x else x) else (if c then finished gone x else x)).note.lookups ≡ x.note.lookups)
      same_note true true = (refl, refl)
      same_note true false = (refl, refl)
      same_note false true = (refl, refl)
      same_note false false = (refl, refl)

      by_sent : (w : Waiting) (c : Bool) → waits_at pid x ≡ c → (left_behind pid x).doing ≡ activities.Blocked w →
          (x.doing ≡ activities.Blocked w) × IsSameWork (left_behind pid x) x
      by_sent w true is blocked = absurd (over host t k part pid own s found ready now after_exit.lists after_exit.names x w is blocked)
      by_sent w false is blocked = (
        sym (kept_doing host t k part pid own s found ready now after_exit.lists after_exit.names x is) ∙ blocked,
        subst (λ z. IsSameWork (only pid killed z) x) (sym (cond-false (waits_at pid x) (finished gone x) x is))
            (work_same (same_pid x.pid pid) x),
      )

  pub exit_carries : Carries 0 t after_exit
  exit_carries = record {
    seats = λ q y there.
        let x = mapped_is (left_behind pid) (seat_in t.seats q) y (sym (exit_seat_in t.seats pid q) ∙ there) in
        subst (IsCarried 0 t q) x.2 (counts_by q x.0 (waits_at pid x.0) refl x.1);
    aliens = λ q b there.
        let a = mapped_is (turned_away pid now) (alien_from t.slots q) b (sym (exit_alien_of t.slots pid now q) ∙ there) in
        (a.0, a.1, ap (λ (z : Alien). z.moves) (sym a.2) ∙ (turned_same pid now a.0).moves);
  }

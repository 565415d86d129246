-- A message that a process has taken is handed on: it waits anew at another process of the station, behind all others.
use Rattle.std.proofs.Common.{◌≡◌, ◌≢◌, ℕ, ◌<◌, ◌&&◌, Bool, true, false, cond, not, List, [], ◌∷◌, ◌++◌, filter, length, map, Some, refl, sym, ap, subst, ◌∙◌, inl, inr}
use Rattle.std.specs.List.{position}
use Rattle.std.proofs.lemmas.Bool.{and_right, cases_Bool}
use Rattle.std.proofs.lemmas.List.{append-nil, get_or-set_other, get_or-set_same, length-map, length-set}
use Rattle.std.proofs.lemmas.List.Elements.{filter-append}
use Rattle.std.proofs.lemmas.List.Quantifiers.{position-Some}
use Rattle.std.proofs.lemmas.Option.{same_Some}
use Rattle.vk_types.specs.Types.{Exchange, Message, Name, Pid}
use Rattle.vk_base.specs.declared.kernel.Stage.TheVariants as stages
use Rattle.vk_base.specs.declared.limits.TheConstants.{STATION_PROCESSES}
unfoldable use Rattle.vk_base.specs.Calls.{forwarded}
unfoldable use Rattle.vk_base.specs.Kernel.{queue_of}
use Rattle.vk_base.specs.Kernel.{Kernel, holds_of, is_queued, is_queued_at, is_taken, put_exchange, same_name, without}
use Rattle.vk_base.specs.Pids.{same_pid}
use Rattle.vk_base.proofs.PidLemmas.{same_pid_self}
use Rattle.vk_base.proofs.ListLemmas.{map_end}
use Rattle.v_laws.proofs.Changes.{taken_is_at_target}
use Rattle.v_laws.proofs.Tables.{put_exchange_at, put_exchange_other, same_name_is, same_name_self, same_pid_is}
use Rattle.vk_procs.specs.declared.seat.Seat.{Seat}
use Rattle.vk_procs.specs.Seats.{is_seat}
use Rattle.vk_queue.specs.Lists as slot_lists
use Rattle.vk_queue.proofs.Cleared.{whole}
use Rattle.vk_stands.specs.Fit.{AreFit}
use Rattle.vk_stands.specs.Tables.{Tables, names_at, slot_name}
use Rattle.vk_stands.proofs.Fits.{map_all}
use Rattle.vk_stands.proofs.Listed.{low_place, not_in_list, places_apart}
use Rattle.vk_stands.proofs.LocalReply.{taken_unqueued}
use Rattle.vk_stands.proofs.OneSend.{put_back, put_forth}
use Rattle.vk_stands.proofs.Parts.{AreQueues, Part}
use Rattle.vk_stands.proofs.SentQueues.{last_in, without_at}
use Rattle.vk_stands.proofs.Views.{Goes}

module _ (k : Kernel) (name : Name) (e : Exchange) (at : k.exchanges name ≡ Some e) (taken : is_taken e.stage ≡ true) (m : Message)
    (to : Pid) where
  abbrev pub handed : Exchange
  handed = record e { at = to; shown = m; stage = stages.Queued }

  abbrev pub after : Kernel
  after = forwarded k name e m to

  -- its exchange, and the others
  pub handed_goes : Goes e handed
  handed_goes = record {
    target = refl;
    message = refl;
    part = refl;
    moves = refl;
    opened = refl;
    done = refl;
    near = λ t. taken_is_at_target e.stage taken;
  }

  pub handed_here : (n : Name) → same_name n name ≡ true → after.exchanges n ≡ Some handed
  unfolding forwarded
  handed_here n same = put_exchange_at k.exchanges name handed n same

  pub handed_others : (n : Name) → same_name n name ≡ false → after.exchanges n ≡ k.exchanges n
  unfolding forwarded
  handed_others n other = put_exchange_other k.exchanges name handed n other

  pub handed_forth : (n : Name) (z : Exchange) → k.exchanges n ≡ Some z → (v : Exchange) × (after.exchanges n ≡ Some v) × Goes z v
  unfolding forwarded
  handed_forth n z there = put_forth k.exchanges name e handed at handed_goes n z there

  pub handed_back : (n : Name) (v : Exchange) → after.exchanges n ≡ Some v → (z : Exchange) × (k.exchanges n ≡ Some z) × Goes z v
  unfolding forwarded
  handed_back n v there = put_back k.exchanges name e handed at handed_goes n v there

  pub handed_is : (v : Exchange) → after.exchanges name ≡ Some v → v ≡ handed
  handed_is v there = same_Some v handed (sym there ∙ handed_here name (same_name_self name))

  -- nothing else changes but what came
  pub handed_procs : (q : Pid) → after.procs q ≡ k.procs q
  unfolding forwarded
  handed_procs q = refl

  pub handed_lookups : (asker : Pid) (number : ℕ) → after.lookups asker number ≡ k.lookups asker number
  unfolding forwarded
  handed_lookups asker number = refl

  pub handed_names : (host : ℕ) → after.names host ≡ k.names host
  unfolding forwarded
  handed_names host = refl

  -- Queues: its name is the last of its new queue, and in no other.
  abbrev before_test : Pid → Name → Bool
  before_test q n = holds_of (is_queued_at q) (k.exchanges n)

  abbrev test : Pid → Name → Bool
  test q n = holds_of (is_queued_at q) (put_exchange k.exchanges name handed n)

  pub unqueued : (q : Pid) (n : Name) → same_name n name ≡ true → before_test q n ≡ false
  unqueued q n same =
      ap (holds_of (is_queued_at q)) (ap k.exchanges (same_name_is n name same) ∙ at)
      ∙ and_right (same_pid e.at q) (is_queued e.stage) (sym (taken_unqueued e.stage taken))

  filtered_by : (q : Pid) (n : Name) (ns : List Name) (b : Bool) → same_name n name ≡ b →
      filter (test q) (without name ns) ≡ filter (before_test q) ns →
      filter (test q) (cond (not b) (n ∷ without name ns) (without name ns))
      ≡ cond (before_test q n) (n ∷ filter (before_test q) ns) (filter (before_test q) ns)
  filtered_by q n ns true same again =
      again ∙ sym (ap (λ b. cond b (n ∷ filter (before_test q) ns) (filter (before_test q) ns)) (unqueued q n same))
  filtered_by q n ns false other again =
      ap (λ b. cond b (n ∷ filter (test q) (without name ns)) (filter (test q) (without name ns)))
      (ap (holds_of (is_queued_at q)) (put_exchange_other k.exchanges name handed n other))
      ∙ ap (λ xs. cond (before_test q n) (n ∷ xs) xs) again

  filtered : (q : Pid) (ns : List Name) → filter (test q) (without name ns) ≡ filter (before_test q) ns
  filtered q [] = refl
  filtered q (n ∷ ns) = filtered_by q n ns (same_name n name) refl (filtered q ns)

  and_true : (b : Bool) → (b && true) ≡ b
  and_true true = refl
  and_true false = refl

  last : (q : Pid) → filter (test q) (name ∷ []) ≡ cond (same_pid to q) (name ∷ []) []
  last q = ap (λ b. cond b (name ∷ []) [])
      (ap (holds_of (is_queued_at q)) (put_exchange_at k.exchanges name handed name (same_name_self name)) ∙ and_true (same_pid to q))

  queue_is : (q : Pid) → queue_of after q ≡ queue_of k q ++ cond (same_pid to q) (name ∷ []) []
  unfolding queue_of forwarded
  queue_is q =
      filter-append (test q) (without name k.arrived) (name ∷ [])
      ∙ ap (λ ns. ns ++ filter (test q) (name ∷ [])) (filtered q k.arrived)
      ∙ ap (λ ns. filter (before_test q) k.arrived ++ ns) (last q)

  pub queue_there : queue_of after to ≡ queue_of k to ++ name ∷ []
  queue_there = queue_is to ∙ ap (λ b. queue_of k to ++ cond b (name ∷ []) []) (same_pid_self to)

  pub queue_other : (q : Pid) → same_pid to q ≡ false → queue_of after q ≡ queue_of k q
  queue_other q other = queue_is q ∙ ap (λ b. queue_of k q ++ cond b (name ∷ []) []) other ∙ append-nil (queue_of k q)

-- The slot of the message stands last in the list of that process. The tables v may have other notes.
module _ (host : ℕ) (t : Tables) (k : Kernel) (part : Part host t k) (name : Name) (e : Exchange) (at : k.exchanges name ≡ Some e)
    (taken : is_taken e.stage ≡ true) (m : Message) (to : Pid) (d : Seat) (slot place : ℕ)
    (named : slot_name t.seats t.slots slot ≡ Some name) (there : position (is_seat to) t.seats ≡ Some place) (v : Tables)
    (places : (q : Pid) → position (is_seat q) v.seats ≡ position (is_seat q) t.seats)
    (names : (j : ℕ) → slot_name v.seats v.slots j ≡ slot_name t.seats t.slots j) where
  abbrev l : Kernel
  l = forwarded k name e m to

  abbrev u : Tables
  u = record v { lists = last_in t.lists place slot }

  in_none : (q : Pid) (i : ℕ) → position (is_seat q) t.seats ≡ Some i → slot_lists.holds slot (slot_lists.queue_at t.lists i) ≡ false
  in_none q i seated = not_in_list t k part.queues q i slot name seated named (unqueued k name e at taken m to q name (same_name_self name))

  kept_names : (q : Pid) (i : ℕ) → position (is_seat q) t.seats ≡ Some i →
      map (slot_name v.seats v.slots) (slot_lists.without slot (slot_lists.queue_at t.lists i)) ≡ names_at t i
  kept_names q i seated =
      ap (map (slot_name v.seats v.slots)) (whole slot (slot_lists.queue_at t.lists i) (in_none q i seated))
      ∙ map_all (slot_name v.seats v.slots) (slot_name t.seats t.slots) (slot_lists.queue_at t.lists i) names

  low_list : place < length (map (slot_lists.without slot) t.lists)
  low_list =
      let facts = position-Some (is_seat to) t.seats place d there in
      subst (λ n. place < n) (sym (length-map t.lists (slot_lists.without slot) ∙ part.fit.lists))
      (low_place place (length t.seats) STATION_PROCESSES facts.0 part.fit.few)

  queue_here : map Some (queue_of l to) ≡ names_at u place
  queue_here =
      ap (map Some) (queue_there k name e at taken m to)
      ∙ map_end Some (queue_of k to) name ∙ ap (λ ns. ns ++ Some name ∷ []) (part.queues to place there)
      ∙ sym (ap (map (slot_name v.seats v.slots)) (get_or-set_same (map (slot_lists.without slot) t.lists) place
      (slot_lists.queue_at (map (slot_lists.without slot) t.lists) place ++ slot ∷ []) [] low_list
      ∙ ap (λ q. q ++ slot ∷ []) (without_at slot t.lists place))
      ∙ map_end (slot_name v.seats v.slots) (slot_lists.without slot (slot_lists.queue_at t.lists place)) slot
      ∙ ap (λ ns. ns ++ slot_name v.seats v.slots slot ∷ []) (kept_names to place there)
      ∙ ap (λ n. names_at t place ++ n ∷ []) (names slot ∙ named))

  queue_elsewhere : (q : Pid) (i : ℕ) → position (is_seat q) t.seats ≡ Some i → same_pid to q ≡ false →
      map Some (queue_of l q) ≡ names_at u i
  queue_elsewhere q i seated other =
      let apart : i ≢ place = λ same. places_apart t.seats d to q place i there seated other same in
      ap (map Some) (queue_other k name e at taken m to q other)
      ∙ part.queues q i seated
      ∙ sym (ap (map (slot_name v.seats v.slots)) (get_or-set_other (map (slot_lists.without slot) t.lists) place i
      (slot_lists.queue_at (map (slot_lists.without slot) t.lists) place ++ slot ∷ []) [] apart
      ∙ without_at slot t.lists i) ∙ kept_names q i seated)

  pub queues_handed : AreQueues u l
  queues_handed q i seated = elim (cases_Bool (same_pid to q)) [
    | inl same ↦
        let one : to ≡ q = same_pid_is to q same in
        let mine : i ≡ place = same_Some i place (sym (sym (places q) ∙ seated) ∙ ap (λ p. position (is_seat p) t.seats) (sym one)
        ∙ there) in
        subst (λ p. map Some (queue_of l p) ≡ names_at u i) one (queue_here ∙ ap (names_at u) (sym mine))
    | inr other ↦ queue_elsewhere q i (sym (places q) ∙ seated) other
  ]

  pub fit_handed : AreFit host v → AreFit host u
  fit_handed fit = record {
    few = fit.few;
    lists = length-set (map (slot_lists.without slot) t.lists) place _ ∙ length-map t.lists (slot_lists.without slot) ∙ part.fit.lists;
    pool = fit.pool;
    places = fit.places;
    seats = fit.seats;
    apart = fit.apart;
    aliens = fit.aliens;
  }

-- The indexes where a message comes to a queue.
use Rattle.std.proofs.Common.{◌≡◌, ℕ, ◌≤◌, Bool, true, false, cond, not, ◌==◌, ◌&&◌, ◌||◌, List, [], ◌∷◌, ◌++◌, length, get_or, set, length-set, filter, Option, Some, None, IsSome, refl, sym, ap, subst, ◌∙◌, inl, inr, ◌⊎◌, arith, if◌then◌else◌}
use Rattle.std.proofs.lemmas.Bool.{cases_Bool, both_ways, eq-eqb, and_parts, and_from, and_left, or_right, cond-false, false_from_ne_true}
use Rattle.std.proofs.lemmas.List.{append-nil}
use Rattle.std.proofs.lemmas.List.Elements.{filter-append}
use Rattle.std.proofs.lemmas.List.Folds.{list_any-append}
use Rattle.std.proofs.lemmas.Option.{same_Some}
use Rattle.std.specs.List.{list_any}
use Rattle.vk_types.specs.Types.{Exchange, Name, Pid, Stage}
use Rattle.vk_base.specs.declared.kernel.Stage.TheVariants as stages
use Rattle.vk_base.specs.Kernel.{name_of, same_name, without, holds_of, is_queued_at, is_queued, is_at_target, is_posted}
use Rattle.vk_base.specs.Pids.{same_pid}
use Rattle.vk_base.proofs.PidLemmas.{same_pid_self}
use Rattle.v_laws.proofs.FilterLemmas.{filter_on}
use Rattle.v_laws.proofs.Tables.{same_pid_is, same_name_is, same_name_self}
use Rattle.v_laws.proofs.Without.{without_gone, anew_there}
use Rattle.v_machine.specs.declared.tables.latest.Latest.{Latest}
use Rattle.v_machine.specs.declared.tables.Store.{Store}
use Rattle.v_machine.specs.Kept.{IsIndexed, IsAt, IsWaiting, IsLatest, IsNoNearer, queued_at, latest_by}
use Rattle.v_machine.specs.Latest.{latest_in}
use Rattle.v_machine.specs.Places.{place_in, list_at}
use Rattle.v_machine.specs.Tables.{exchanges_by}
use Rattle.v_machine.proofs.Indexes.{filter_narrower, alike_narrower, waiting_same, list_at-set_same, list_at-set_other, list_at_is}

-- an exchange of another name that is no nearer than before
abbrev pub Others : (Name → Option Exchange) → (Name → Option Exchange) → Name → Type 0
Others before after name = (n : Name) (y : Exchange) → same_name n name ≡ false → after n ≡ Some y →
    (x : Exchange) × (before n ≡ Some x) × (y.target ≡ x.target) × IsNoNearer x.stage y.stage × (y.at ≡ x.at)

-- what has not come is not kept for a queue
pub not_waiting : (before : Name → Option Exchange) (arrived : List Name) (name : Name) (r : Pid) (names : List Name) →
    list_any (same_name name) arrived ≡ false → IsWaiting before arrived r names → list_any (same_name name) names ≡ false
not_waiting before arrived name r names new was =
    false_from_ne_true (list_any (same_name name) names) (λ t. both_ways (list_any (same_name name) arrived) new (was.came name t))

queued_not_posted : (s : Stage) → is_queued s ≡ true → is_posted s ≡ true → ⊥
queued_not_posted stages.Queued q p = both_ways false refl p
queued_not_posted s q p = both_ways false refl q

module _ (before after : Name → Option Exchange) (arrived : List Name) (name : Name) (x : Exchange) (at : after name ≡ Some x)
    (queued : is_queued x.stage ≡ true) (others : Others before after name) where
  -- queued at r, and another name
  other_at : Pid → Name → Bool
  other_at r n = queued_at after r n && not (same_name n name)

  was_queued : (r : Pid) (n : Name) (o : Option Exchange) → after n ≡ o → same_name n name ≡ false → holds_of (is_queued_at r) o ≡ true →
      queued_at before r n ≡ true
  was_queued r n None is other t = absurd (both_ways false refl t)
  was_queued r n (Some y) is other t =
      let old = others n y other is in
      let parts = and_parts (same_pid y.at r) (is_queued y.stage) t in
      ap (holds_of (is_queued_at r)) old.1 ∙ and_from (same_pid old.0.at r) (is_queued old.0.stage)
      (subst (λ z. same_pid z r ≡ true) old.4 parts.0) (old.3.queued parts.1)

  not_name : (b : Bool) → not b ≡ true → b ≡ false
  not_name true t = absurd (both_ways false refl t)
  not_name false t = refl

  narrower : (r : Pid) (n : Name) → other_at r n ≡ true → queued_at before r n ≡ true
  unfolding other_at
  narrower r n t =
      let parts = and_parts (queued_at after r n) (not (same_name n name)) t in
      was_queued r n (after n) refl (not_name (same_name n name) parts.1) parts.0

  not_this : (r : Pid) (n : Name) → other_at r n ≡ true → not (same_name n name) ≡ true
  unfolding other_at
  not_this r n t = (and_parts (queued_at after r n) (not (same_name n name)) t).1

  and-not : (a b : Bool) → b ≡ false → (a && not b) ≡ a
  and-not true b f = ap not f
  and-not false b f = refl

  -- where the name is not among these
  apart : (r : Pid) (ns : List Name) → list_any (same_name name) ns ≡ false → filter (queued_at after r) ns ≡ filter (other_at r) ns
  unfolding other_at
  apart r ns none = filter_on same_name same_name_self (queued_at after r) (other_at r) ns
      (λ n among. elim (cases_Bool (same_name n name)) [
        | inl t ↦ absurd
            (both_ways (list_any (same_name name) ns) none (subst (λ z. list_any (same_name z) ns ≡ true) (same_name_is n name t) among))
        | inr f ↦ sym (and-not (queued_at after r n) (same_name n name) f)
      ])

  -- where the name is not queued
  apart_there : (r : Pid) (ns : List Name) → queued_at after r name ≡ false → filter (queued_at after r) ns ≡ filter (other_at r) ns
  unfolding other_at
  apart_there r ns none = filter_on same_name same_name_self (queued_at after r) (other_at r) ns
      (λ n among. elim (cases_Bool (same_name n name)) [
        | inl t ↦
            let not_here : queued_at after r n ≡ false = ap (queued_at after r) (same_name_is n name t) ∙ none in
            not_here ∙ sym (and_left (queued_at after r n) (not (same_name n name)) not_here)
        | inr f ↦ sym (and-not (queued_at after r n) (same_name n name) f)
      ])

  alike : (r : Pid) (names : List Name) → IsWaiting before arrived r names →
      filter (other_at r) names ≡ filter (other_at r) (without name arrived)
  alike r names was =
      alike_narrower (queued_at before r) (other_at r) (narrower r) names arrived was.queue
      ∙ sym (filter_narrower (λ n. not (same_name n name)) (other_at r) (not_this r) arrived)

  pub waiting_here : (names : List Name) → list_any (same_name name) names ≡ false → IsWaiting before arrived x.at names →
      IsWaiting after (without name arrived ++ name ∷ []) x.at (names ++ name ∷ [])
  waiting_here names absent was = record {
    queue =
        filter-append (queued_at after x.at) names (name ∷ [])
        ∙ ap (λ ns. ns ++ filter (queued_at after x.at) (name ∷ [])) (apart x.at names absent ∙ alike x.at names was
        ∙ sym (apart x.at (without name arrived) (without_gone name arrived)))
        ∙ sym (filter-append (queued_at after x.at) (without name arrived) (name ∷ []));
    came =
        λ n t. by_part n names was (cases_Bool (list_any (same_name n) names)) (sym (list_any-append (same_name n) names (name ∷ [])) ∙ t);
  }
    where
      by_part : (n : Name) (names : List Name) → IsWaiting before arrived x.at names →
          (list_any (same_name n) names ≡ true) ⊎ (list_any (same_name n) names ≡ false) →
          (list_any (same_name n) names || list_any (same_name n) (name ∷ [])) ≡ true →
          list_any (same_name n) (without name arrived ++ name ∷ []) ≡ true
      by_part n names was (inl u) t = anew_there n name arrived (was.came n u)
      by_part n names was (inr f) t =
          list_any-append (same_name n) (without name arrived) (name ∷ [])
          ∙ or_right (list_any (same_name n) (without name arrived)) (list_any (same_name n) (name ∷ []))
          (subst (λ b. (b || list_any (same_name n) (name ∷ [])) ≡ true) f t)

  pub waiting_there : (r : Pid) (names : List Name) → same_pid x.at r ≡ false → IsWaiting before arrived r names →
      IsWaiting after (without name arrived ++ name ∷ []) r names
  waiting_there r names elsewhere was =
      let not_here : queued_at after r name ≡ false = ap (holds_of (is_queued_at r)) at
      ∙ and_left (same_pid x.at r) (is_queued x.stage) elsewhere in
      let left = without name arrived in
      record {
        queue =
            apart_there r names not_here
            ∙ alike r names was
            ∙ sym (apart_there r left not_here)
            ∙ sym (append-nil (filter (queued_at after r) left))
            ∙ ap (λ ns. filter (queued_at after r) left ++ ns) (sym (cond-false (queued_at after r name) (name ∷ []) [] not_here))
            ∙ sym (filter-append (queued_at after r) left (name ∷ []));
        came = λ n t. anew_there n name arrived (was.came n t);
      }

  -- the latest of the sender to the target's host is this one
  pub latest_arrived : (latest later : Pid → ℕ → ℕ) →
      ((q : Pid) (h : ℕ) → later q h ≡ (if same_pid q name.sender && (h == x.target.host) then name.number else latest q h)) →
      ((n : Name) (y : Exchange) → same_name n name ≡ false → after n ≡ Some y → same_pid n.sender name.sender ≡ true →
      (y.target.host == x.target.host) ≡ true →
      (is_at_target y.stage ≡ true → ⊥) × (is_posted y.stage ≡ true → name.number ≤ n.number)) →
      ((n : Name) (e : Exchange) → before n ≡ Some e → IsLatest (latest n.sender e.target.host) n e) →
      (n : Name) (y : Exchange) → after n ≡ Some y → IsLatest (later n.sender y.target.host) n y
  latest_arrived latest later put rest was n y is = by_name (cases_Bool (same_name n name))
    where
      number_at : (b : Bool) → (same_pid n.sender name.sender && (y.target.host == x.target.host)) ≡ b →
          later n.sender y.target.host ≡ cond b name.number (latest n.sender y.target.host)
      number_at b e = put n.sender y.target.host ∙ ap (λ c. cond c name.number (latest n.sender y.target.host)) e

      this : same_name n name ≡ true → IsLatest (later n.sender y.target.host) n y
      this t =
          let one = same_name_is n name t in
          let same : x ≡ y = same_Some x y (sym at ∙ ap after (sym one) ∙ is) in
          let here = and_from (same_pid n.sender name.sender) (y.target.host == x.target.host)
          (and_parts (same_pid n.sender name.sender) (n.number == name.number) t).0
          (ap (λ (z : Exchange). z.target.host == x.target.host) (sym same) ∙ eq-eqb x.target.host x.target.host refl) in
          let number = number_at true here in
          record {
            live = λ u. ap (λ (m : Name). m.number) one ∙ sym number;
            posted = λ u. absurd (queued_not_posted x.stage queued (subst (λ (z : Exchange). is_posted z.stage ≡ true) (sym same) u));
          }

      other : same_name n name ≡ false → (b : Bool) → (same_pid n.sender name.sender && (y.target.host == x.target.host)) ≡ b →
          IsLatest (later n.sender y.target.host) n y
      other f true e =
          let parts = and_parts (same_pid n.sender name.sender) (y.target.host == x.target.host) e in
          let r = rest n y f is parts.0 parts.1 in
          let number = number_at true e in
          record {
            live = λ u. absurd (r.0 u);
            posted = λ u. let low = r.1 u in omega arith;
          }
      other f false e =
          let old = others n y f is in
          let w = was n old.0 old.1 in
          let number = number_at false e ∙ ap (λ (p : Pid). latest n.sender p.host) old.2 in
          record {
            live = λ u. w.live (old.3.live u) ∙ sym number;
            posted = λ u. let low = w.posted (old.3.posted u) in omega arith;
          }

      by_name : (same_name n name ≡ true) ⊎ (same_name n name ≡ false) → IsLatest (later n.sender y.target.host) n y
      by_name (inl t) = this t
      by_name (inr f) = other f (same_pid n.sender name.sender && (y.target.host == x.target.host)) refl

cond_low : (b : Bool) (m n c : ℕ) → m ≤ c → n ≤ c → cond b m n ≤ c
cond_low true m n c low other = low
cond_low false m n c low other = other

-- the indexes after a message of a sender came to the queue of its target
module _ (s t : Store) (sender : Pid) (at to number : ℕ) (x : Exchange) (after : Name → Option Exchange) (here : IsAt s sender at)
    (there : IsAt s x.at to) (old : IsIndexed s) (at_name : after (name_of sender number) ≡ Some x) (queued : is_queued x.stage ≡ true)
    (others : Others (exchanges_by s.places s.sends.items) after (name_of sender number))
    (rest : (n : Name) (y : Exchange) → same_name n (name_of sender number) ≡ false → after n ≡ Some y → same_pid n.sender sender ≡ true →
    (y.target.host == x.target.host) ≡ true → (is_at_target y.stage ≡ true → ⊥) × (is_posted y.stage ≡ true → number ≤ n.number)) where
  pub indexed_arrived : (s' : List Exchange) (names : List Name) (l0 l2 : List Latest) → t.places ≡ s.places →
      length t.procs.items ≡ length s.procs.items → length t.asked.items ≡ length s.asked.items →
      t.sends.items ≡ set s.sends.items at s' → number ≤ length s' → length (list_at s.places s.sends.items sender) ≤ length s' →
      exchanges_by s.places (set s.sends.items at s') ≡ after →
      t.arrived ≡ without (name_of sender number) s.arrived ++ name_of sender number ∷ [] →
      list_any (same_name (name_of sender number)) names ≡ false → names ≡ get_or s.queues.items to names →
      t.queues.items ≡ set s.queues.items to (names ++ name_of sender number ∷ []) →
      l0 ≡ get_or s.latest.items at l0 → t.latest.items ≡ set s.latest.items at l2 →
      ((h : ℕ) → latest_in l2 h ≡ (if h == x.target.host then number else latest_in l0 h)) →
      IsIndexed t
  indexed_arrived s' names l0 l2 places procs asked sends grown longer exchanges arrived absent waits queues old_number latest put =
      record {
        procs = procs ∙ old.procs ∙ sym (ap length places);
        sends = ap length sends ∙ length-set s.sends.items at s' ∙ old.sends ∙ sym (ap length places);
        asked = asked ∙ old.asked ∙ sym (ap length places);
        queues = ap length queues ∙ length-set s.queues.items to (names ++ name_of sender number ∷ []) ∙ old.queues
            ∙ sym (ap length places);
        latest = ap length latest ∙ length-set s.latest.items at l2 ∙ old.latest ∙ sym (ap length places);
        waiting = λ r in_config.
            waiting_same _ _ _ _ r _ _ all arrived (λ i. list_at (places i) (queues i) r)
            (waits_at r (subst (λ ps. IsSome (place_in ps r)) places in_config) (cases_Bool (same_pid r x.at)));
        low = λ q host. subst (λ n. n ≤ length (list_at t.places t.sends.items q)) (sym (λ i. latest_by (places i) (latest i) q host))
            (subst (λ (ss : List Exchange). latest_by s.places (set s.latest.items at l2) q host ≤ length ss)
            (sym (λ i. list_at (places i) (sends i) q)) (low_at q host (cases_Bool (same_pid q sender))));
        open_last = λ n y is.
            subst (λ m. IsLatest m n y) (sym (λ i. latest_by (places i) (latest i) n.sender y.target.host))
            (latest_arrived (exchanges_by s.places s.sends.items) after s.arrived (name_of sender number) x at_name queued others
            (latest_by s.places s.latest.items) (latest_by s.places (set s.latest.items at l2)) number_by rest old.open_last n y
            (sym (ap (λ f. f n) all) ∙ is));
      }
    where
      all : exchanges_by t.places t.sends.items ≡ after
      all = (λ i. exchanges_by (places i) (sends i)) ∙ exchanges

      waits_at : (r : Pid) → IsSome (place_in s.places r) → (same_pid r x.at ≡ true) ⊎ (same_pid r x.at ≡ false) →
          IsWaiting after (without (name_of sender number) s.arrived ++ name_of sender number ∷ []) r
          (list_at s.places (set s.queues.items to (names ++ name_of sender number ∷ [])) r)
      waits_at r in_config (inl u) =
          let same = same_pid_is r x.at u in
          let was = old.waiting x.at (subst (λ q. IsSome (place_in s.places q)) same in_config) in
          let mine = list_at_is s.places s.queues.items x.at to names there.place there.queues waits in
          subst (λ q. IsWaiting after (without (name_of sender number) s.arrived ++ name_of sender number ∷ []) q
          (list_at s.places (set s.queues.items to (names ++ name_of sender number ∷ [])) q)) (sym same)
          (subst (IsWaiting after (without (name_of sender number) s.arrived ++ name_of sender number ∷ []) x.at)
          (sym (list_at-set_same s.places s.queues.items x.at to (names ++ name_of sender number ∷ []) there.place there.queues))
          (waiting_here (exchanges_by s.places s.sends.items) after s.arrived (name_of sender number) x at_name queued others
          names absent (subst (IsWaiting (exchanges_by s.places s.sends.items) s.arrived x.at) mine was)))
      waits_at r in_config (inr f) =
          let was = old.waiting r in_config in
          subst (IsWaiting after (without (name_of sender number) s.arrived ++ name_of sender number ∷ []) r)
          (sym (list_at-set_other s.places s.queues.items x.at r to (names ++ name_of sender number ∷ []) there.place f))
          (waiting_there (exchanges_by s.places s.sends.items) after s.arrived (name_of sender number) x at_name queued others r
          (list_at s.places s.queues.items r) (apart r f) was)
        where
          apart : (r : Pid) → same_pid r x.at ≡ false → same_pid x.at r ≡ false
          apart r f = false_from_ne_true (same_pid x.at r)
              (λ u. both_ways (same_pid r x.at) f (subst (λ z. same_pid r z ≡ true) (sym (same_pid_is x.at r u)) (same_pid_self r)))

      number_by : (q : Pid) (h : ℕ) → latest_by s.places (set s.latest.items at l2) q
          h ≡ (if same_pid q sender && (h == x.target.host) then number else latest_by s.places s.latest.items q h)
      number_by q h = by_sender (cases_Bool (same_pid q sender))
        where
          by_sender : (same_pid q sender ≡ true) ⊎ (same_pid q sender ≡ false) →
              latest_by s.places (set s.latest.items at l2) q
              h ≡ (if same_pid q sender && (h == x.target.host) then number else latest_by s.places s.latest.items q h)
          by_sender (inl u) =
              let one = same_pid_is q sender u in
              ap (λ z. latest_by s.places (set s.latest.items at l2) z h) one
              ∙ ap (λ ls. latest_in ls h) (list_at-set_same s.places s.latest.items sender at l2 here.place here.latest)
              ∙ put h
              ∙ ap (λ m. if h == x.target.host then number else m)
              (ap (λ ls. latest_in ls h) (sym (list_at_is s.places s.latest.items sender at l0 here.place here.latest old_number))
              ∙ ap (λ z. latest_by s.places s.latest.items z h) (sym one))
              ∙ ap (λ b. if b && (h == x.target.host) then number else latest_by s.places s.latest.items q h) (sym u)
          by_sender (inr f) =
              ap (λ ls. latest_in ls h) (list_at-set_other s.places s.latest.items sender q at l2 here.place f)
              ∙ ap (λ b. if b && (h == x.target.host) then number else latest_by s.places s.latest.items q h) (sym f)

      low_at : (q : Pid) (h : ℕ) → (same_pid q sender ≡ true) ⊎ (same_pid q sender ≡ false) →
          latest_by s.places (set s.latest.items at l2) q h ≤ length (list_at s.places (set s.sends.items at s') q)
      low_at q h (inl u) =
          let one = same_pid_is q sender u in
          subst (λ z. latest_by s.places (set s.latest.items at l2) z h ≤ length (list_at s.places (set s.sends.items at s') z)) (sym one)
          (let count : length (list_at s.places (set s.sends.items at s') sender) ≡ length s' =
          ap length (list_at-set_same s.places s.sends.items sender at s' here.place here.sends) in
          let was = old.low sender h in
          let now : latest_by s.places (set s.latest.items at l2) sender
          h ≡ (if h == x.target.host then number else latest_by s.places s.latest.items sender h) =
          ap (λ ls. latest_in ls h) (list_at-set_same s.places s.latest.items sender at l2 here.place here.latest) ∙ put h
          ∙ ap (λ m. if h == x.target.host then number else m)
          (ap (λ ls. latest_in ls h) (sym (list_at_is s.places s.latest.items sender at l0 here.place here.latest old_number))) in
          let short : latest_by s.places s.latest.items sender h ≤ length s' = omega arith in
          subst (λ n. n ≤ length (list_at s.places (set s.sends.items at s') sender)) (sym now)
          (subst (λ n. (if h == x.target.host then number else latest_by s.places s.latest.items sender h) ≤ n) (sym count)
          (cond_low (h == x.target.host) number (latest_by s.places s.latest.items sender h) (length s') grown short)))
      low_at q h (inr f) =
          let now = ap (λ ls. latest_in ls h) (list_at-set_other s.places s.latest.items sender q at l2 here.place f) in
          let count = ap (λ (ss : List Exchange). length ss) (list_at-set_other s.places s.sends.items sender q at s' here.place f) in
          let was = old.low q h in
          omega arith

-- Arrive: what the machine drops is what the kernel drops.
use Rattle.std.proofs.Common.{◌≡◌, ℕ, ◌<◌, ◌≤◌, Bool, true, false, cond, ◌==◌, ◌&&◌, ◌||◌, nat_le, nat_lt, List, length, get_or, set, Option, Some, None, option_map, refl, sym, ap, subst, ◌∙◌, inl, inr, ◌⊎◌, arith}
use Rattle.std.proofs.lemmas.Bool.{cases_Bool, both_ways, and_from, and_left, and_right, or_parts, eqb-true, eq-eqb, ltb-false, leb-false, cond-true, cond-false}
use Rattle.std.proofs.lemmas.Option.{same_Some, none-some, slice_get-get_or}
use Rattle.std.specs.List.{list_any}
use Rattle.vk_types.specs.Types.{Exchange, Name, Pid, Stage}
use Rattle.vk_base.specs.declared.kernel.Stage.TheVariants as stages
use Rattle.vk_base.specs.Calls.{unseen}
use Rattle.vk_base.specs.Kernel.{Kernel, name_of, same_name, is_at_target, is_posted, is_live}
use Rattle.vk_base.specs.Pids.{same_pid, same_host}
use Rattle.vk_base.specs.Steps.{after_arrival, is_older, arriving, with_arrival, arrive_step, only_if}
use Rattle.vk_base.proofs.OptionLemmas.{mapped_is}
use Rattle.vk_base.proofs.PidLemmas.{same_pid_self}
use Rattle.v_laws.proofs.Tables.{same_pid_is, same_name_self}
use Rattle.v_laws.proofs.MoveSteps.{arrival_place}
use Rattle.v_machine.specs.declared.tables.Store.{Store}
use Rattle.v_machine.specs.Kept.{IsKept, IsAt, IsLatest, IsNoNearer, kernel_in, latest_by}
use Rattle.v_machine.specs.Places.{place_in, numbered}
use Rattle.v_machine.specs.Rules.{IsPostedTo, posted_to}
use Rattle.v_machine.specs.Sends.{dropped_between, come_at}
use Rattle.v_machine.specs.Tables.{exchanges_by}
use Rattle.v_machine.proofs.Arrivals.{Others}
use Rattle.v_machine.proofs.Indexes.{same_stage}
use Rattle.v_machine.proofs.PlaceLemmas.{at_place_same, at_place_other, at_place_is}
use Rattle.v_machine.proofs.StepLemmas.{found}
use Rattle.v_machine.proofs.TableLemmas.{exchanges_is, exchanges_same}

live_cases : (s : Stage) → (is_posted s || is_at_target s) ≡ true → (is_posted s ≡ true) ⊎ (is_at_target s ≡ true)
live_cases stages.Posted t = inl refl
live_cases stages.Queued t = inr refl
live_cases stages.Taken t = inr refl
live_cases (stages.Replied m dest bytes) t = absurd (both_ways false refl t)
live_cases stages.Dropped t = absurd (both_ways false refl t)

-- the same is dropped, where what is not looked at is not dropped
by_tests : (seen before host live : Bool) (x y : Exchange) → (seen ≡ false → before ≡ true → host ≡ true → live ≡ true → ⊥) →
    cond (seen && before) (cond (host && live) y x) x ≡ cond ((before && host) && live) y x
by_tests true true true true x y none = refl
by_tests true true true false x y none = refl
by_tests true true false live x y none = refl
by_tests true false host live x y none = refl
by_tests false true true true x y none = absurd (none refl refl refl refl)
by_tests false true true false x y none = refl
by_tests false true false live x y none = refl
by_tests false false host live x y none = refl

module _ (sender : Pid) (number latest : ℕ) (e : Exchange) where
  -- of the sender itself
  pub come_is_arrival : (m : ℕ) (x : Exchange) → (same_host x.target e.target ≡ true → IsLatest latest (name_of sender m) x) →
      come_at latest number e.target.host m x ≡ after_arrival (name_of sender number) e (name_of sender m) x
  come_is_arrival m x is_latest = by_name (m == number) refl
    where
      by_name : (b : Bool) → (m == number) ≡ b →
          come_at latest number e.target.host m x ≡ after_arrival (name_of sender number) e (name_of sender m) x
      by_name true t =
          cond-true (m == number) (record x { stage = stages.Queued }) (dropped_between latest number e.target.host m x) t
          ∙ sym (cond-true (same_name (name_of sender m) (name_of sender number)) (record x { stage = stages.Queued }) _
          (and_from (same_pid sender sender) (m == number) (same_pid_self sender) t))
      by_name false f =
          cond-false (m == number) (record x { stage = stages.Queued }) (dropped_between latest number e.target.host m x) f
          ∙ by_tests (nat_le latest m) (nat_lt m number) (x.target.host == e.target.host) (is_posted x.stage || is_at_target x.stage) x
          (record x { stage = stages.Dropped }) none
          ∙ ap (λ b. cond (((b && nat_lt m number) && (x.target.host == e.target.host)) && (is_posted x.stage || is_at_target x.stage))
          (record x { stage = stages.Dropped }) x) (sym (same_pid_self sender))
          ∙ sym (cond-false (same_name (name_of sender m) (name_of sender number)) (record x { stage = stages.Queued }) _
          (and_right (same_pid sender sender) (m == number) f))
        where
          none : nat_le latest m ≡ false → nat_lt m number ≡ true → (x.target.host == e.target.host) ≡ true →
              (is_posted x.stage || is_at_target x.stage) ≡ true → ⊥
          none unseen before host live =
              let low : m < latest = leb-false latest m unseen in
              let is = is_latest host in
              elim (live_cases x.stage live) [
                | inl p ↦ let over = is.posted p in omega arith
                | inr o ↦ let same = is.live o in omega arith
              ]

  -- of another sender nothing changes
  pub arrival_elsewhere : (n : Name) (x : Exchange) → same_pid n.sender sender ≡ false → after_arrival (name_of sender number) e n x ≡ x
  arrival_elsewhere n x f =
      cond-false (same_name n (name_of sender number)) (record x { stage = stages.Queued }) _
      (and_left (same_pid n.sender sender) (n.number == number) f)
      ∙ cond-false (is_older (name_of sender number) e n x) (record x { stage = stages.Dropped }) x
      (and_left ((same_pid n.sender sender && nat_lt n.number number) && same_host x.target e.target)
      (is_posted x.stage || is_at_target x.stage) (and_left (same_pid n.sender sender && nat_lt n.number number)
      (same_host x.target e.target) (and_left (same_pid n.sender sender) (nat_lt n.number number) f)))

  arrived_at : (n : Name) → same_pid n.sender sender ≡ false → (o : Option Exchange) →
      o ≡ option_map (after_arrival (name_of sender number) e n) o
  arrived_at n f None = refl
  arrived_at n f (Some x) = ap Some (sym (arrival_elsewhere n x f))

  came_at : (m : ℕ) (o : Option Exchange) →
      ((x : Exchange) → o ≡ Some x → same_host x.target e.target ≡ true → IsLatest latest (name_of sender m) x) →
      option_map (come_at latest number e.target.host m) o ≡ option_map (after_arrival (name_of sender number) e (name_of sender m)) o
  came_at m None is_latest = refl
  came_at m (Some x) is_latest = ap Some (come_is_arrival m x (is_latest x refl))

  pub exchanges-come : (pids : List Pid) (sends : List (List Exchange)) (at : ℕ) (s s' : List Exchange) → place_in pids sender ≡ Some at →
      at < length sends → s ≡ get_or sends at s →
      ((m : ℕ) → numbered s' m ≡ option_map (come_at latest number e.target.host m) (numbered s m)) →
      ((n : Name) (x : Exchange) → exchanges_by pids sends n ≡ Some x → same_pid n.sender sender ≡ true →
      same_host x.target e.target ≡ true → IsLatest latest n x) →
      exchanges_by pids (set sends at s') ≡ (λ n. option_map (after_arrival (name_of sender number) e n) (exchanges_by pids sends n))
  exchanges-come pids sends at s s' place low there come is_latest = λ i n.
      (elim (cases_Bool (same_pid n.sender sender)) as (λ _. exchanges_by pids (set sends at s') n ≡ option_map
      (after_arrival (name_of sender number) e n) (exchanges_by pids sends n)) [
        | inl t ↦ mine n t
        | inr f ↦ exchanges_same pids (set sends at s') sends n (at_place_other pids sends sender n.sender at s' place f)
            ∙ arrived_at n f (exchanges_by pids sends n)
      ]) i
    where
      before : (m : ℕ) → exchanges_by pids sends (name_of sender m) ≡ numbered s m
      before m = exchanges_is pids sends (name_of sender m) s
          (at_place_is pids sends sender at s place (slice_get-get_or sends at s low ∙ ap Some (sym there)))

      of_sender : (m : ℕ) → exchanges_by pids (set sends at s') (name_of sender m) ≡ option_map
          (after_arrival (name_of sender number) e (name_of sender m)) (exchanges_by pids sends (name_of sender m))
      of_sender m =
          exchanges_is pids (set sends at s') (name_of sender m) s' (at_place_same pids sends sender at s' place low)
          ∙ come m
          ∙ came_at m (numbered s m) (λ x is near. is_latest (name_of sender m) x (before m ∙ is) (same_pid_self sender) near)
          ∙ ap (option_map (after_arrival (name_of sender number) e (name_of sender m))) (sym (before m))

      mine : (n : Name) → same_pid n.sender sender ≡ true →
          exchanges_by pids (set sends at s') n ≡ option_map (after_arrival (name_of sender number) e n) (exchanges_by pids sends n)
      mine n t = subst (λ q. exchanges_by pids (set sends at s') (name_of q n.number) ≡ option_map
          (after_arrival (name_of sender number) e (name_of q n.number)) (exchanges_by pids sends (name_of q n.number)))
          (sym (same_pid_is n.sender sender t)) (of_sender n.number)

-- What an arrival does where it is allowed.
pub arrive_allowed : (k : Kernel) (name : Name) (e : Exchange) → k.exchanges name ≡ Some e → is_posted e.stage ≡ true →
    is_live (k.procs e.target) ≡ true → arrive_step k name ≡ Some (unseen (with_arrival k name e))
unfolding arriving
arrive_allowed k name e at posted live =
    let o : arriving k name ≡ Some e = found (k.exchanges name) e _ _ at
    (ap (λ b. only_if b (Some e)) (and_from (is_posted e.stage) (is_live (k.procs e.target)) posted live)) in
    found (arriving k name) e _ _ o refl

target_after : (name : Name) (e : Exchange) (n : Name) (x : Exchange) → (after_arrival name e n x).target ≡ x.target
target_after name e n x = by_both (same_name n name) (is_older name e n x)
  where
    by_both : (a b : Bool) →
        (cond a (record x { stage = stages.Queued }) (cond b (record x { stage = stages.Dropped }) x)).target ≡ x.target
    by_both true b = refl
    by_both false true = refl
    by_both false false = refl

dropped_is_nearer : (s : Stage) → IsNoNearer s stages.Dropped
dropped_is_nearer s = record {
  queued = λ t. absurd (both_ways false refl t);
  live = λ t. absurd (both_ways false refl t);
  posted = λ t. absurd (both_ways false refl t);
}

nearer_after : (name : Name) (e : Exchange) (n : Name) (x : Exchange) → same_name n name ≡ false →
    IsNoNearer x.stage (after_arrival name e n x).stage
nearer_after name e n x f = subst (λ (y : Exchange). IsNoNearer x.stage y.stage)
    (sym (cond-false (same_name n name) (record x { stage = stages.Queued }) _ f)) (by_older (is_older name e n x))
  where
    by_older : (b : Bool) → IsNoNearer x.stage (cond b (record x { stage = stages.Dropped }) x).stage
    by_older true = dropped_is_nearer x.stage
    by_older false = same_stage x.stage

module _ (s : Store) (name : Name) (at to : ℕ) (e : Exchange) (kept : IsKept s) (here : IsAt s name.sender at) (there : IsAt s e.target to)
    (at_name : (kernel_in s).exchanges name ≡ Some e) (posted : is_posted e.stage ≡ true) where
  pub latest_is_before : latest_by s.places s.latest.items name.sender e.target.host ≤ name.number
  latest_is_before = (kept.indexed.open_last name e at_name).posted posted

  pub arrive_others : Others (exchanges_by s.places s.sends.items)
      (λ n. option_map (after_arrival name e n) (exchanges_by s.places s.sends.items n)) name
  arrive_others n y f is =
      let x = mapped_is (after_arrival name e n) (exchanges_by s.places s.sends.items n) y is in (
        x.0,
        x.1,
        ap (λ (z : Exchange). z.target) (sym x.2) ∙ target_after name e n x.0,
        subst (λ (z : Exchange). IsNoNearer x.0.stage z.stage) x.2 (nearer_after name e n x.0 f),
        ap (λ (z : Exchange). z.at) (sym x.2) ∙ arrival_place name e n x.0,
      )

  pub arrive_new : list_any (same_name name) s.arrived ≡ false
  arrive_new = (kept.sound.posted name e at_name posted).away

  pub arrive_at : option_map (after_arrival name e name) (exchanges_by s.places s.sends.items name) ≡ Some
      (record e { stage = stages.Queued })
  arrive_at = ap (option_map (after_arrival name e name)) at_name
      ∙ ap Some (cond-true (same_name name name) (record e { stage = stages.Queued }) _ (same_name_self name))

  -- what is older was dropped, and what is later has not come
  pub arrive_rest : (n : Name) (y : Exchange) → same_name n name ≡ false →
      option_map (after_arrival name e n) (exchanges_by s.places s.sends.items n) ≡ Some y → same_pid n.sender name.sender ≡ true →
      (y.target.host == e.target.host) ≡ true →
      (is_at_target y.stage ≡ true → ⊥) × (is_posted y.stage ≡ true → name.number ≤ n.number)
  arrive_rest n y f is mine near =
      let x = mapped_is (after_arrival name e n) (exchanges_by s.places s.sends.items n) y is in
      let host : (x.0.target.host == e.target.host) ≡ true =
      ap (λ (p : Pid). p.host == e.target.host) (sym (target_after name e n x.0) ∙ ap (λ (z : Exchange). z.target) x.2) ∙ near in
      by_number x.0 x.1 x.2 host (cases_Bool (nat_lt n.number name.number))
    where
      by_number : (x : Exchange) → exchanges_by s.places s.sends.items n ≡ Some x → after_arrival name e n x ≡ y →
          (x.target.host == e.target.host) ≡ true → (nat_lt n.number name.number ≡ true) ⊎ (nat_lt n.number name.number ≡ false) →
          (is_at_target y.stage ≡ true → ⊥) × (is_posted y.stage ≡ true → name.number ≤ n.number)
      by_number x was changed host (inl before) =
          by_live (is_posted x.stage || is_at_target x.stage) refl
        where
          by_live : (b : Bool) → (is_posted x.stage || is_at_target x.stage) ≡ b →
              (is_at_target y.stage ≡ true → ⊥) × (is_posted y.stage ≡ true → name.number ≤ n.number)
          by_live true live =
              let older : is_older name e n x ≡ true = and_from
              ((same_pid n.sender name.sender && nat_lt n.number name.number) && same_host x.target e.target)
              (is_posted x.stage || is_at_target x.stage)
              (and_from (same_pid n.sender name.sender && nat_lt n.number name.number) (same_host x.target e.target)
              (and_from (same_pid n.sender name.sender) (nat_lt n.number name.number) mine before) host) live in
              let dropped : record x { stage = stages.Dropped } ≡ y = sym
              (cond-true (is_older name e n x) (record x { stage = stages.Dropped }) x older)
              ∙ sym (cond-false (same_name n name) (record x { stage = stages.Queued }) _ f) ∙ changed in (
                λ u. both_ways (is_at_target y.stage) (ap (λ (z : Exchange). is_at_target z.stage) (sym dropped)) u,
                λ u. absurd (both_ways (is_posted y.stage) (ap (λ (z : Exchange). is_posted z.stage) (sym dropped)) u),
              )
          by_live false over =
              let older : is_older name e n x ≡ false = and_right
              ((same_pid n.sender name.sender && nat_lt n.number name.number) && same_host x.target e.target)
              (is_posted x.stage || is_at_target x.stage) over in
              let same : x ≡ y = sym (cond-false (is_older name e n x) (record x { stage = stages.Dropped }) x older)
              ∙ sym (cond-false (same_name n name) (record x { stage = stages.Queued }) _ f) ∙ changed in
              let parts = or_parts (is_posted x.stage) (is_at_target x.stage) over in (
                λ u. both_ways (is_at_target y.stage) (ap (λ (z : Exchange). is_at_target z.stage) (sym same) ∙ parts.1) u,
                λ u. absurd (both_ways (is_posted y.stage) (ap (λ (z : Exchange). is_posted z.stage) (sym same) ∙ parts.0) u),
              )
      by_number x was changed host (inr later) =
          let older : is_older name e n x ≡ false = and_left
          ((same_pid n.sender name.sender && nat_lt n.number name.number) && same_host x.target e.target)
          (is_posted x.stage || is_at_target x.stage) (and_left (same_pid n.sender name.sender && nat_lt n.number name.number)
          (same_host x.target e.target) (and_right (same_pid n.sender name.sender) (nat_lt n.number name.number) later)) in
          let same : x ≡ y = sym (cond-false (is_older name e n x) (record x { stage = stages.Dropped }) x older)
          ∙ sym (cond-false (same_name n name) (record x { stage = stages.Queued }) _ f) ∙ changed in
          let high : name.number ≤ n.number = ltb-false n.number name.number later in (
            λ u.
                let number = (kept.indexed.open_last n x was).live (ap (λ (z : Exchange). is_at_target z.stage) same ∙ u) in
                let before = latest_is_before in
                let one : latest_by s.places s.latest.items n.sender x.target.host ≡ latest_by s.places s.latest.items name.sender
                e.target.host = λ i. latest_by s.places s.latest.items (same_pid_is n.sender name.sender mine i)
                (eqb-true x.target.host e.target.host host i) in
                let equal : n.number ≡ name.number = omega arith in
                both_ways (same_name n name) f
                (and_from (same_pid n.sender name.sender) (n.number == name.number) mine (eq-eqb n.number name.number equal)),
            λ u. high,
          )

  pub arrive_latest : (n : Name) (x : Exchange) → exchanges_by s.places s.sends.items n ≡ Some x → same_pid n.sender name.sender ≡ true →
      same_host x.target e.target ≡ true → IsLatest (latest_by s.places s.latest.items name.sender e.target.host) n x
  arrive_latest n x is mine near =
      subst (λ m. IsLatest m n x) (λ i. latest_by s.places s.latest.items (same_pid_is n.sender name.sender mine i)
      (eqb-true x.target.host e.target.host near i)) (kept.indexed.open_last n x is)

-- what is posted to this target
pub posted_to_is : (k : Kernel) (name : Name) (target : Pid) (o : Option Exchange) → k.exchanges name ≡ o → posted_to o ≡ Some target →
    IsPostedTo k name target
posted_to_is k name target None is to = absurd (none-some target to)
posted_to_is k name target (Some e) is to = by_stage (is_posted e.stage) refl
  where
    by_stage : (b : Bool) → is_posted e.stage ≡ b → IsPostedTo k name target
    by_stage true t = record {
      exchange = e;
      is = is;
      same_target = same_Some e.target target (sym (cond-true (is_posted e.stage) (Some e.target) None t) ∙ to);
      posted = t;
    }
    by_stage false f = absurd (none-some target (sym (cond-false (is_posted e.stage) (Some e.target) None f) ∙ to))

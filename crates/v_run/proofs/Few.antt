-- No Lamport number of a schedule's entries is above the count of its events.
use Rattle.std.proofs.Common.{◌≡◌, ◌≢◌, ℕ, suc, ◌+◌, ◌-◌, ◌^◌, ◌<◌, ◌≤◌, ◌==◌, eqb-true, eq-eqb, Bool, true, false, Option, Some, None, List, [], ◌∷◌, find, length, cond, refl, sym, ap, ◌∙◌, subst, arith, ◌⊎◌, inl, inr}
use Rattle.vk_base.specs.declared.limits.TheConstants.{LAST_NUMBER}
use Rattle.std.proofs.lemmas.Bool.{cases_Bool}
use Rattle.vk_base.specs.Settings.{Settings}
use Rattle.vk_cluster.proofs.Logs.{with_other}
use Rattle.vk_cluster.specs.Standing.{logs_of}
use Rattle.vk_schedule.specs.declared.event.Event.{Event}
use Rattle.vk_schedule.specs.declared.event.Event.TheVariants as scheduled
use Rattle.vk_join.proofs.Numbers.{NoneAbove, few_later, few_next, number_came}
use Rattle.vk_rules.specs.Each.{Each}
use Rattle.vk_rules.specs.Entries.{Called, Collected, Delivered, Entry, Input, Ticked}
use Rattle.vk_rules.specs.Frames.{Frame, Framed}
use Rattle.vk_rules.specs.Histories.{Logs, delivered, emitted, handed_over, is_output, logs_after, no_entries}
unfoldable use Rattle.vk_rules.specs.Histories.{happened, logs_from, with_entry}
use Rattle.vk_rules.specs.Laws.{AllRise, last_number}
use Rattle.vk_rules.specs.Right.{entry_of}
use Rattle.vk_rules.proofs.OwnEvents.{own_log}
use Rattle.v_run.proofs.Sound.{IsLow}

abbrev AllFew : ℕ → Logs → Type 0
AllFew n logs = (h : ℕ) → NoneAbove n (logs h)

few_with : (c : Settings) (n : ℕ) (logs : Logs) (host : ℕ) (i : Input) → AllFew n logs → number_came i ≤ n
    → AllFew (n + 1) (with_entry logs host (entry_of c host (logs host) i))
few_with c n logs host i few came q =
    let e : Entry = entry_of c host (logs host) i in
    elim (cases_Bool (q == host)) [
      | inl t ↦
          let same : q ≡ host = eqb-true q host t in
          let here : with_entry logs host e q ≡ e ∷ logs host = ap (with_entry logs host e) same ∙ own_log logs host e in
          subst (NoneAbove (n + 1)) (sym here) (few_next c host (logs host) i n (few host) came)
      | inr f ↦
          let other : q ≢ host = λ same. cc (f, eq-eqb q host same) in
          subst (NoneAbove (n + 1)) (sym (with_other logs host e q other)) (few_later n (n + 1) (logs q) (omega arith) (few q))
    ]

find_holds : (P : Frame → Type 0) (test : Frame → Bool) (fs : List Frame) (f : Frame) → Each P fs → find test fs ≡ Some f → P f
find_holds P test [] f each found = absurd (cc found)
find_holds P test (g ∷ gs) f each found = by (test g) found (find_holds P test gs f each.1)
  where
    by : (b : Bool) → cond b (Some g) (find test gs) ≡ Some f → (find test gs ≡ Some f → P f) → P f
    by true is rest = subst (λ (o : Option Frame). OfSome o) is each.0
      where
        OfSome : Option Frame → Type 0
        OfSome None = ⊥
        OfSome (Some x) = P x
    by false is rest = rest is

few_delivered : (c : Settings) (n : ℕ) (logs : Logs) (to : ℕ) (o : Option Frame) → AllFew n logs
    → ((f : Frame) → o ≡ Some f → f.header.number ≤ n) → AllFew (n + 1) (logs_after logs (delivered c logs to o))
few_delivered c n logs to None few low = λ q. few_later n (n + 1) (logs q) (omega arith) (few q)
few_delivered c n logs to (Some f) few low = few_with c n logs to (Delivered (Framed f.header f.packet)) few (low f refl)

few_step : (c : Settings) (n : ℕ) (logs : Logs) (e : Event) → AllFew n logs → AllFew (n + 1) (logs_after logs (happened c logs e))
unfolding happened
few_step c n logs (scheduled.Call pid call) few = few_with c n logs pid.host (Called pid call) few (omega arith)
few_step c n logs (scheduled.Collect pid) few = few_with c n logs pid.host (Collected pid) few (omega arith)
few_step c n logs (scheduled.Tick host) few = few_with c n logs host Ticked few (omega arith)
few_step c n logs (scheduled.Deliver to from event output) few =
    few_delivered c n logs to (handed_over logs to from event output) few
    (λ f found. find_holds (λ (g : Frame). g.header.number ≤ n) (is_output to event output) (emitted (logs from)) f (few from).frames found)

few_from : (c : Settings) (n : ℕ) (logs : Logs) (es : List Event) → AllFew n logs → AllFew (n + length es) (logs_from c logs es)
unfolding logs_from
few_from c n logs [] few = λ q. few_later n (n + 0) (logs q) (omega arith) (few q)
few_from c n logs (e ∷ es) few =
    let rest = few_from c (n + 1) (logs_after logs (happened c logs e)) es (few_step c n logs e few) in
    λ q. few_later ((n + 1) + length es) (n + suc (length es)) (logs_from c (logs_after logs (happened c logs e)) es q) (omega arith)
    (rest q)

pub schedule_few : (c : Settings) (es : List Event) (h : ℕ) → NoneAbove (length es) (logs_of c es h)
schedule_few c es h =
    few_later (0 + length es) (length es) (logs_of c es h) (omega arith)
    (few_from c 0 no_entries es (λ q. record { last = omega arith; frames = tt }) h)

-- where the last number is low, all are
pub all_low : (host : ℕ) (es : List Entry) (n : ℕ) → AllRise host es → last_number es ≤ n → n < LAST_NUMBER → Each IsLow es
all_low host [] n rises low few = tt
all_low host (e ∷ es) n rises low few = (omega arith, all_low host es n rises.1 (by rises.0.number) few)
  where
    by : (last_number es < e.number) ⊎ (e.number ≡ 2 ^ 63 - 1) → last_number es ≤ n
    by (inl less) = omega arith
    by (inr top) = absurd (omega arith)

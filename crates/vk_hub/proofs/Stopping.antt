-- After a stop there is a halt in what was seen, and what is stopped stays stopped.
use Rattle.std.proofs.Common.{◌≡◌, ℕ, ◌+◌, ◌||◌, nat_le, not, Bool, true, false, List, [], ◌∷◌, ◌++◌, refl, sym, ap, ◌∙◌, append_assoc, arith, ◌⊎◌, inl, inr}
use Rattle.std.proofs.lemmas.Bool.Decides.{nat_tests}
use Rattle.std.proofs.lemmas.Bool.{not-false}
use mathlib.Core.List.{IsPrefix}
use Rattle.turn_cell.specs.Seats.{HasEntered, HasLooked, Sitting}
use Rattle.turn_cell.specs.declared.cell.Ready.{Ready}
use Rattle.turn_cell.specs.declared.cell.Ready.TheVariants.{Done, NotYet}
use Rattle.vk_hub.specs.Hubs.{HubLog, Traffic, changed, first_traffic, has_halt, is_halt, is_stopped, traffic_after, traffic_of}
use Rattle.vk_schedule.specs.declared.plan.LinkPlan.{LinkPlan}
use Rattle.vk_hub.specs.declared.event.HubEvent.{HubEvent}
use Rattle.vk_hub.specs.declared.event.HubEvent.TheVariants.{Post, Fetch, Finished, Halt}
use Rattle.vk_hub.specs.Stops.{StoppedStays}
use Rattle.vk_hub.proofs.Entries.{halts_more, or_false, or_true}

halted_step : (plan : LinkPlan) (n : ℕ) (e : HubEvent) (t : Traffic) → (changed plan n t e).halted ≡ t.halted || is_halt e
halted_step plan n (Post f) t = sym (or_false t.halted)
halted_step plan n (Fetch h) t = sym (or_false t.halted)
halted_step plan n Finished t = sym (or_false t.halted)
halted_step plan n Halt t = sym (or_true t.halted)

or_assoc : (a b c : Bool) → (a || b) || c ≡ a || (b || c)
or_assoc true b c = refl
or_assoc false b c = refl

-- the hub is halted exactly where its history has a halt
halted_after : (plan : LinkPlan) (n : ℕ) (t : Traffic) (xs : List (ℕ × HubEvent))
    → (traffic_after plan n t xs).halted ≡ t.halted || has_halt xs
halted_after plan n t [] = sym (or_false t.halted)
halted_after plan n t (x ∷ xs) =
    halted_after plan n (changed plan n t x.1) xs
    ∙ (ap (λ b. b || has_halt xs) (halted_step plan n x.1 t) ∙ or_assoc t.halted (is_halt x.1) (has_halt xs))

pub stopped : (o : HubLog) (G : List (ℕ × HubEvent) → Type 0) (old new : Sitting HubLog HubEvent) (Out : Type 0) (r : Ready)
    → (r ≡ Done → HasEntered G old new Halt) → (r ≡ NotYet → HasLooked old new × Out × (not (traffic_of o new.seen).halted ≡ false))
    → IsPrefix old.seen new.seen × (has_halt new.seen ≡ true)
stopped o G old new Out Done done not_yet =
    let t = done refl in
    let own : List (ℕ × HubEvent) = (old.number, Halt) ∷ [] in (
      (t.later.0 ++ own, sym (append_assoc old.seen t.later.0 own) ∙ (ap (λ l. l ++ own) t.later.1 ∙ sym t.seen)),
      ap has_halt t.seen ∙ (halts_more old.number Halt t.before ∙ or_true (has_halt t.before)),
    )
stopped o G old new Out NotYet done not_yet =
    let t = not_yet refl in
    (t.0.0, sym (halted_after o.plan o.programs (first_traffic o.plan o.stations) new.seen) ∙ not-false (traffic_of o new.seen).halted t.2)

-- a halt was entered where there was none, else nothing
pub stopped_once : (G : List (ℕ × HubEvent) → Type 0) (old new : Sitting HubLog HubEvent) (Out Unready : Type 0) (r : Ready)
    → (r ≡ Done → HasEntered G old new Halt) → (r ≡ NotYet → HasLooked old new × Out × Unready)
    → ((before : List (ℕ × HubEvent)) → G before → has_halt before ≡ false)
    → HasEntered (λ before. has_halt before ≡ false) old new Halt ⊎ HasLooked old new
stopped_once G old new Out Unready Done done not_yet none =
    let t = done refl in
    inl record { before = t.before; later = t.later; seen = t.seen; mine = t.mine; gives = none t.before t.gives }
stopped_once G old new Out Unready NotYet done not_yet none = inr (not_yet refl).0

enough : (programs finished : ℕ) → nat_le programs finished ≡ true → nat_le programs (finished + 1) ≡ true
enough programs finished is = grind (arith, nat_tests)

one_more : (programs finished : ℕ) (halted : Bool) → halted || nat_le programs finished ≡ true → halted || nat_le programs (finished + 1) ≡ true
one_more programs finished true is = refl
one_more programs finished false is = enough programs finished is

stays_by : (plan : LinkPlan) (programs : ℕ) (e : HubEvent) (t : Traffic) → is_stopped programs t ≡ true
    → is_stopped programs (changed plan programs t e) ≡ true
stays_by plan programs (Post f) t is = is
stays_by plan programs (Fetch h) t is = is
stays_by plan programs Finished t is = one_more programs t.finished t.halted is
stays_by plan programs Halt t is = refl

pub stopped_stays : StoppedStays
stopped_stays plan programs t [] is = is
stopped_stays plan programs t (x ∷ xs) is = stopped_stays plan programs (changed plan programs t x.1) xs (stays_by plan programs x.1 t is)

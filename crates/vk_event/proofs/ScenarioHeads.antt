-- The opening of a scenario.
use Rattle.std.proofs.Common.{◌≡◌, ℕ, ◌<◌, List, [], ◌∷◌, length, map, Result, Ok, Err, IfOk, IfErr, ◌⊎◌, inl, inr, refl, ap, sym, subst, ◌∙◌, arith}
use Rattle.vk_types.specs.Types.{ProcessSpec}
use Rattle.vk_base.specs.Settings.{Settings}
use Rattle.vk_text.specs.Lines.{lines_of}
use Rattle.vk_text.specs.Openings.{HasProcesses, line_number}
use Rattle.vk_text.specs.declared.opening.OpeningRefusal.{OpeningRefusal}
use Rattle.vk_text.specs.declared.opening.OpeningRefusal.TheVariants as openings
use Rattle.vk_event.specs.declared.scenario.Scenario.{Scenario}
use Rattle.vk_schedule.specs.declared.schedule.TextRefusal.{TextRefusal}
use Rattle.vk_schedule.specs.declared.schedule.TextRefusal.TheVariants as refusals
use Rattle.vk_schedule.specs.Schedule.{as_text}
use Rattle.vk_event.specs.Scenario.{HasScenarioProcess, idle, opened, scenario_from, scenario_by, scenario_of, scenario_on}

-- why there is no opening
abbrev IsCause : List ℕ → OpeningRefusal → Type 0
IsCause text e =
    ((e ≡ openings.NoMemory) × HasProcesses (opened (lines_of text)))
    ⊎ ((line : ℕ) × (e ≡ openings.Bad line) × (opened (lines_of text) ≡ Err line))

pub refused_as : (text : List ℕ) (e : OpeningRefusal) (r : TextRefusal) → r ≡ as_text e → IsCause text e →
    ((r ≡ refusals.NoMemory) × HasScenarioProcess text) ⊎ (scenario_of text ≡ Err r)
unfolding scenario_by
refused_as text e r is (inl h) = inl (is ∙ ap as_text h.0, h.1)
refused_as text e r is (inr h) = inr (ap (scenario_by (lines_of text)) h.2 ∙ ap Err (sym (is ∙ ap as_text h.1)))

on_none : (n : ℕ) (c : Settings) (specs : List ProcessSpec) (body : List (List ℕ)) → length specs ≡ 0 →
    scenario_on n c specs body ≡ Err (refusals.BadInput n)
unfolding scenario_on
on_none n c [] body none = refl
on_none n c (s ∷ ss) body none = absurd (omega (arith, none))

pub on_some : (n : ℕ) (c : Settings) (specs : List ProcessSpec) (body : List (List ℕ)) → 0 < length specs →
    scenario_on n c specs body ≡ scenario_from c (map idle specs) n body
unfolding scenario_on
on_some n c [] body some = absurd (omega arith)
on_some n c (s ∷ ss) body some = refl

module _ (text : List ℕ) (c : Settings) (n : ℕ) (body : List (List ℕ)) (found : opened (lines_of text) ≡ Ok (c, body)) where
  by_opening : n ≡ line_number (lines_of text) body → scenario_of text ≡ scenario_on n c c.specs body
  unfolding scenario_by
  by_opening at = ap (scenario_by (lines_of text)) found ∙ ap (λ k. scenario_on k c c.specs body) (sym at)

  pub no_process : n ≡ line_number (lines_of text) body → length c.specs ≡ 0 → scenario_of text ≡ Err (refusals.BadInput n)
  no_process at none = by_opening at ∙ on_none n c c.specs body none

  pub with_body : n ≡ line_number (lines_of text) body → 0 < length c.specs → scenario_of text ≡ scenario_from c (map idle c.specs) n body
  with_body at some = by_opening at ∙ on_some n c c.specs body some

  pub has_process : 0 < length c.specs → HasScenarioProcess text
  has_process some = subst HasProcesses (sym found) some

pub ok_of : (all body : Result Scenario TextRefusal) (r : Result Scenario TextRefusal) → all ≡ body → IfOk r (λ s. body ≡ Ok s)
    → IfOk r (λ s. all ≡ Ok s)
ok_of all body (Ok s) same h = same ∙ h
ok_of all body (Err e) same h = tt

pub err_of : (P : Type 0) (all body : Result Scenario TextRefusal) (r : Result Scenario TextRefusal) → P → all ≡ body
    → IfErr r (λ e. (e ≡ refusals.NoMemory) ⊎ (body ≡ Err e)) → IfErr r (λ e. ((e ≡ refusals.NoMemory) × P) ⊎ (all ≡ Err e))
err_of P all body (Ok s) p same h = tt
err_of P all body (Err e) p same (inl h) = inl (h, p)
err_of P all body (Err e) p same (inr h) = inr (same ∙ h)

-- A text that is no scenario has a bad line, and is not refused for anything else.
use Rattle.std.proofs.Common.{◌≡◌, ℕ, ◌+◌, List, [], ◌∷◌, length, map, Option, Some, None, Result, Ok, Err, ◌⊎◌, inl, inr, ap, sym, subst, ◌∙◌}
use Rattle.std.specs.Option.{option_map_or}
use Rattle.vk_types.specs.Types.{ProcessSpec}
use Rattle.vk_base.specs.Settings.{Settings}
use Rattle.vk_text.specs.Lines.{lines_of}
use Rattle.vk_text.specs.Openings.{line_number}
use Rattle.vk_event.specs.declared.scenario.Scenario.{Scenario}
use Rattle.vk_schedule.specs.declared.schedule.TextRefusal.{TextRefusal}
use Rattle.vk_schedule.specs.declared.schedule.TextRefusal.TheVariants as refusals
use Rattle.vk_event.specs.declared.task.Task.{Task}
use Rattle.vk_event.specs.Endings.{ending_from}
use Rattle.vk_event.specs.Ports.{ports_from}
use Rattle.vk_event.specs.Scenario.{HasScenarioProcess, idle, most_rounds, opened, scenario_by, scenario_end, scenario_from, scenario_of, scenario_on, scenario_with}
use Rattle.vk_event.specs.Tasks.{with_task_line}

abbrev IsBadText : Result Scenario TextRefusal → Type 0
IsBadText (Ok scenario) = Unit {0}
IsBadText (Err (refusals.BadInput line)) = Unit {0}
IsBadText (Err refusals.Limit) = ⊥
IsBadText (Err refusals.NoMemory) = ⊥

bad_either : {A B : Type 0} (f : Result A B → Result Scenario TextRefusal) → ((a : A) → IsBadText (f (Ok a))) →
    ((b : B) → IsBadText (f (Err b))) → (r : Result A B) → IsBadText (f r)
bad_either f ok err (Ok a) = ok a
bad_either f ok err (Err b) = err b

bad_behind : (o : Option (List Task)) (rest : List Task → Result Scenario TextRefusal) (otherwise : Result Scenario TextRefusal) →
    ((tasks : List Task) → IsBadText (rest tasks)) → IsBadText otherwise → IsBadText (option_map_or rest o otherwise)
bad_behind None rest otherwise some none = none
bad_behind (Some tasks) rest otherwise some none = some tasks

bad_from : (c : Settings) (tasks : List Task) (n : ℕ) (lines : List (List ℕ)) → IsBadText (scenario_from c tasks n lines)
unfolding scenario_from
bad_from c tasks n [] = tt
bad_from c tasks n (l ∷ ls) =
    bad_behind (with_task_line c.specs tasks l) (λ more. scenario_from c more (n + 1) ls)
    (scenario_end c tasks n (l ∷ ls)) (λ more. bad_from c more (n + 1) ls)
    (let found = ports_from c.specs 0 (l ∷ ls) in
    bad_either (scenario_with c tasks found.0) (λ e. tt) (λ m. tt) (ending_from (most_rounds c.specs) (n + length found.0) found.1))

bad_on : (n : ℕ) (c : Settings) (specs : List ProcessSpec) (body : List (List ℕ)) → IsBadText (scenario_on n c specs body)
unfolding scenario_on
bad_on n c [] body = tt
bad_on n c (s ∷ ss) body = bad_from c (map idle (s ∷ ss)) n body

bad_by : (lines : List (List ℕ)) (r : Result (Settings × List (List ℕ)) ℕ) → IsBadText (scenario_by lines r)
unfolding scenario_by
bad_by lines (Ok found) = bad_on (line_number lines found.1) found.0 found.0.specs found.1
bad_by lines (Err n) = tt

bad_text : (text : List ℕ) → IsBadText (scenario_of text)
bad_text text = bad_by (lines_of text) (opened (lines_of text))

pub no_limit : (text : List ℕ) → scenario_of text ≡ Err refusals.Limit → ⊥
no_limit text is = subst IsBadText is (bad_text text)

pub no_want : (text : List ℕ) → scenario_of text ≡ Err refusals.NoMemory → ⊥
no_want text is = subst IsBadText is (bad_text text)

-- so no reader answers Limit

pub never_limit : (text : List ℕ) (e : TextRefusal) → ((e ≡ refusals.NoMemory) × HasScenarioProcess text) ⊎ (scenario_of text ≡ Err e)
    → e ≡ refusals.Limit → ⊥
never_limit text e (inl wanted) is = let clash : refusals.NoMemory ≡ refusals.Limit = sym wanted.0 ∙ is in cc
never_limit text e (inr bad) is = no_limit text (bad ∙ ap Err is)

-- The answer to a scenario.
use Rattle.std.proofs.Common.{◌≡◌, ℕ, ◌<◌, ◌≤◌, List, [], ◌∷◌, length, Ok, Err, ◌⊎◌, inl, inr, ap, sym, ◌∙◌, arith, refl}
use Rattle.vk_event.specs.declared.scenario.Scenario.{Scenario}
use Rattle.vk_schedule.specs.declared.schedule.TextRefusal.{TextRefusal}
use Rattle.vk_schedule.specs.declared.schedule.TextRefusal.TheVariants as texts
use Rattle.vk_event.proofs.ScenarioRefusals.{no_limit, no_want}
use Rattle.vk_event.specs.Scenario.{HasScenarioProcess, scenario_by, scenario_of}
use Rattle.vk_text.specs.Lines.{lines_of}
use Rattle.vk_text.specs.Openings.{opening_of}
use Rattle.v_run.specs.declared.run_end.RunEnd.TheVariants as ends
use Rattle.vk_top.specs.Runs.{IsRunFailure, jobs_of, run_asked}
use Rattle.vk_top.specs.Statuses.{refused, refused_run}
use Rattle.vk_top.specs.Threaded.{IsTextRefusal, IsThreadedRefusal, counted, scenario_status}
use Rattle.vk_top.specs.declared.status.Status.TheVariants as status
use Rattle.vk_edge.proofs.Answers.{tells_none}
use Rattle.vk_edge.specs.Answers.{TellsFaults}
use Rattle.vk_threads.specs.Assigned.{LeavesJobs, TellsRunFault}
use Rattle.vk_threads.specs.declared.record.RunRefusal.{RunRefusal}
use Rattle.vk_threads.specs.declared.record.RunRefusal.TheVariants as runs

-- The empty text is bad in its first line.

empty_bad : scenario_of [] ≡ Err (texts.BadInput 1)
unfolding lines_of opening_of scenario_by
empty_bad = refl

pub some_scenario : (text : List ℕ) (scenario : Scenario) → scenario_of text ≡ Ok scenario → 0 < length text
some_scenario [] scenario is = let clash : Err (texts.BadInput 1) ≡ Ok scenario = sym empty_bad ∙ is in absurd (cc)
some_scenario (b ∷ bs) scenario is = omega arith

pub some_process : (text : List ℕ) → HasScenarioProcess text → 0 < length text
unfolding lines_of opening_of
some_process [] some = absurd some
some_process (b ∷ bs) some = omega arith

pub refused_text : (text : List ℕ) (e : TextRefusal) → ((e ≡ texts.NoMemory) × HasScenarioProcess text) ⊎ (scenario_of text ≡ Err e) →
    IsTextRefusal run_asked text (refused e)
refused_text text (texts.BadInput line) (inl wanted) = absurd (grind (arith, wanted))
refused_text text (texts.BadInput line) (inr bad) = ap (scenario_status ends.Done) bad
refused_text text texts.Limit (inl wanted) = absurd (grind (arith, wanted))
refused_text text texts.Limit (inr bad) = absurd (no_limit text bad)
refused_text text texts.NoMemory (inl wanted) = some_process text wanted.1
refused_text text texts.NoMemory (inr bad) = absurd (no_want text bad)

-- Where the run of a scenario came to no end.

pub run_tells : (before now : ℕ) (e : RunRefusal) → TellsRunFault {T = Unit {0}} before now (Err e) →
    TellsFaults status.CrewFault (refused_run e) before now
run_tells before now runs.CrewFault rose = record { answered = λ is. rose; told = λ more. refl }
run_tells before now runs.NoMemory same = tells_none status.CrewFault status.NoMemory before now (λ is. grind (arith, is)) same

module _ (text : List ℕ) (s : Scenario) (before now : ℕ) (small : length text ≤ 16777216) (is : scenario_of text ≡ Ok s) where
  pub run_grown : now ≡ counted before (jobs_of s) → IsRunFailure before now status.NoMemory text
  run_grown grown = inr (jobs_of s, record { small = small; scenario = s; text = is; count = refl }, grown)

  run_left : (e : RunRefusal) → LeavesJobs before (counted before (jobs_of s)) now e → IsRunFailure before now (refused_run e) text
  run_left runs.CrewFault left = (jobs_of s, record { small = small; scenario = s; text = is; count = refl }, left)
  run_left runs.NoMemory (inl left) = inl left
  run_left runs.NoMemory (inr grown) = run_grown grown

  pub run_failed : (Unasked : Type 0) (e : RunRefusal) → LeavesJobs before (counted before (jobs_of s)) now e →
      IsThreadedRefusal run_asked (IsRunFailure before now) Unasked text (refused_run e)
  run_failed Unasked runs.CrewFault left = run_left runs.CrewFault left
  run_failed Unasked runs.NoMemory left = (some_scenario text s is, run_left runs.NoMemory left)

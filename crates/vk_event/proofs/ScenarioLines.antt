-- The lines of a scenario, one after another.
use Rattle.std.proofs.Common.{◌≡◌, ℕ, ◌+◌, List, [], ◌∷◌, length, Option, Some, None, Result, Ok, Err, IfOk, IfErr, ◌⊎◌, inl, inr, ap, sym, ◌∙◌}
use Rattle.std.specs.Option.{option_map_or}
use Rattle.vk_base.specs.Settings.{Settings}
use Rattle.vk_event.specs.declared.port.StationPort.{StationPort}
use Rattle.vk_event.specs.declared.scenario.Scenario.{Scenario}
use Rattle.vk_schedule.specs.declared.schedule.TextRefusal.{TextRefusal}
use Rattle.vk_schedule.specs.declared.schedule.TextRefusal.TheVariants as refusals
use Rattle.vk_event.specs.declared.task.Task.{Task}
use Rattle.vk_event.specs.Endings.{ending_from}
use Rattle.vk_event.specs.Ports.{ports_from}
use Rattle.vk_event.specs.Scenario.{most_rounds, scenario_by_ports, scenario_end, scenario_with, scenario_from}
use Rattle.vk_event.specs.Tasks.{with_task_line}

next : (c : Settings) (tasks : List Task) (n : ℕ) (l : List ℕ) (left ls : List (List ℕ)) (o : Option (List Task)) → left
    ≡ l ∷ ls
    → with_task_line c.specs tasks l ≡ o → scenario_from c tasks n left ≡
    option_map_or (λ more. scenario_from c more (n + 1) ls) o (scenario_end c tasks n (l ∷ ls))
unfolding scenario_from
next c tasks n l left ls o here line =
    let rest = scenario_end c tasks n (l ∷ ls) in
    ap (scenario_from c tasks n) here ∙ ap (λ x. option_map_or (λ more. scenario_from c more (n + 1) ls) x rest) line

pub line_given : (all : Result Scenario TextRefusal) (c : Settings) (tasks more : List Task) (n : ℕ) (l : List ℕ)
    (left ls : List (List ℕ)) → all ≡ scenario_from c tasks n left → left ≡ l ∷ ls → with_task_line c.specs tasks l ≡ Some more
    → all ≡ scenario_from c more (n + 1) ls
line_given all c tasks more n l left ls so here line = so ∙ next c tasks n l left ls (Some more) here line

-- the tasks are as they were, and the line is none of a task
pub line_ends : (all : Result Scenario TextRefusal) (c : Settings) (tasks items : List Task) (n : ℕ) (l : List ℕ)
    (left ls : List (List ℕ)) → all ≡ scenario_from c tasks n left → left ≡ l ∷ ls → with_task_line c.specs tasks l ≡ None
    → items ≡ tasks → all ≡ scenario_end c items n left
line_ends all c tasks items n l left ls so here line same =
    so ∙ next c tasks n l left ls None here line ∙ ap (λ (k : List (List ℕ)). scenario_end c tasks n k) (sym here)
    ∙ ap (λ (ts : List Task). scenario_end c ts n left) (sym same)

pub text_ends : (all : Result Scenario TextRefusal) (c : Settings) (tasks : List Task) (n : ℕ) (left : List (List ℕ))
    → all ≡ scenario_from c tasks n left → left ≡ [] → all ≡ Err (refusals.BadInput n)
unfolding scenario_from
text_ends all c tasks n left so here = so ∙ ap (scenario_from c tasks n) here

-- as the code writes it

pub told_ok : (r all body : Result Scenario TextRefusal) → all ≡ body → IfOk r (λ s. body ≡ Ok s) → IfOk r (λ s. all ≡ Ok s)
told_ok (Ok s) all body so h = so ∙ h
told_ok (Err e) all body so h = tt

pub told_err : (r all body : Result Scenario TextRefusal) → all ≡ body → IfErr r (λ e. (e ≡ refusals.NoMemory) ⊎ (body ≡ Err e))
    → IfErr r (λ e. (e ≡ refusals.NoMemory) ⊎ (all ≡ Err e))
told_err (Ok s) all body so h = tt
told_err (Err e) all body so (inl h) = inl h
told_err (Err e) all body so (inr h) = inr (so ∙ h)

pub ports_read : (r : Result Scenario TextRefusal) (c : Settings) (tasks : List Task) (n k : ℕ) (lines left : List (List ℕ))
    (ports : List StationPort) → ports_from c.specs 0 lines ≡ (ports, left) → k ≡ n + length ports
    → r ≡ scenario_with c tasks ports (ending_from (most_rounds c.specs) k left) → scenario_end c tasks n lines ≡ r
ports_read r c tasks n k lines left ports read at is =
    ap (scenario_by_ports c tasks n) read
    ∙ ap (λ (m : ℕ). scenario_with c tasks ports (ending_from (most_rounds c.specs) m left)) (sym at) ∙ sym is

pub as_ok : (r all : Result Scenario TextRefusal) → all ≡ r → IfOk r (λ s. all ≡ Ok s)
as_ok (Ok s) all h = h
as_ok (Err e) all h = tt

pub as_err : (r all : Result Scenario TextRefusal) → all ≡ r → IfErr r (λ e. (e ≡ refusals.NoMemory) ⊎ (all ≡ Err e))
as_err (Ok s) all h = tt
as_err (Err e) all h = inr h

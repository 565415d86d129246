-- Traces as texts.
use Rattle.std.proofs.Common.{◌≡◌, ℕ, cond, List, [], ◌∷◌, ◌++◌, map, codes, Option, Some, None, Result, Ok, Err, refl, ap, sym, ◌∙◌, subst, append_assoc, append-nil}
use Rattle.std.specs.List.{AllByRecursion}
use Rattle.std.specs.Option.{option_map_or}
use Rattle.std.proofs.lemmas.Option.{cond_some}
use Rattle.vk_types.specs.Types.{ProcessSpec, Step}
use Rattle.vk_text.specs.Heads.{settings_of, head_of, process_text, HasNoFeed, BeginsWithNoProcess}
use Rattle.vk_text.specs.Lines.{lines_of, words_from}
use Rattle.vk_text.proofs.Bodies.{body_text, body_read, one_line_more, lines_text, text_spelled, title_plain}
use Rattle.vk_text.proofs.HeadReading.{Parts}
use Rattle.vk_text.proofs.HeadTexts.{head_spelled, heads_back}
use Rattle.v_trace.specs.Laws.{IsLawfulStep, TracesReadBack, TracesAreSpelledOnce}
use Rattle.v_trace.specs.Steps.{step_of}
use Rattle.v_trace.specs.Texts.{step_text}
use Rattle.v_trace.specs.Traces.{has_actor, line_behind, with_step, with_lines, behind_head, trace_text}
use Rattle.v_trace.specs.declared.trace.Trace.{Trace}
use Rattle.v_trace.specs.declared.trace.TraceRefusal.{TraceRefusal}
use Rattle.v_trace.specs.declared.trace.TraceRefusal.TheVariants as refusals
use Rattle.v_trace.proofs.StepTexts.{step_no_feed, step_line, step_back, no_process}

abbrev steps_text : List Step → List ℕ
steps_text steps = body_text step_text steps

no_feed_in : (specs : List ProcessSpec) (steps : List Step) → AllByRecursion (IsLawfulStep specs) steps
    → AllByRecursion (λ s. HasNoFeed (step_text s)) steps
no_feed_in specs [] h = tt
no_feed_in specs (s ∷ ss) h = (step_no_feed s h.0.0, no_feed_in specs ss h.1)

steps_lines : (specs : List ProcessSpec) (steps : List Step) → AllByRecursion (IsLawfulStep specs) steps
    → lines_of (steps_text steps) ≡ map step_text steps
steps_lines specs steps h = body_read step_text steps (no_feed_in specs steps h)

added : (t : Trace) (s : Step) → IsLawfulStep t.config.specs s
    → with_step t (step_of (words_from (step_text s) 0)) ≡ Some (record t { steps = t.steps ++ s ∷ [] })
unfolding with_step
added t s h = ap (with_step t) (step_back s h.0) ∙ ap (λ b. cond b (Some (record t { steps = t.steps ++ s ∷ [] })) None) h.1

-- lines of steps are added one after another
steps_read : (t : Trace) (steps : List Step) → AllByRecursion (IsLawfulStep t.config.specs) steps
    → with_lines t (map step_text steps) ≡ Ok (record t { steps = t.steps ++ steps })
unfolding with_lines
steps_read t [] h = ap (λ (l : List Step). Ok (record t { steps = l })) (sym (append-nil t.steps))
steps_read t (s ∷ ss) h =
    ap (λ o. option_map_or (λ more. with_lines more (map step_text ss)) o (Err (refusals.BadInput (line_behind t)))) (added t s h.0)
    ∙ steps_read (record t { steps = t.steps ++ s ∷ [] }) ss h.1
    ∙ ap (λ (l : List Step). Ok (record t { steps = l })) (append_assoc t.steps (s ∷ []) ss)

first_is_step : (specs : List ProcessSpec) (steps : List Step) → AllByRecursion (IsLawfulStep specs) steps
    → BeginsWithNoProcess (map step_text steps)
first_is_step specs [] h = tt
first_is_step specs (s ∷ ss) h = no_process s h.0.0

pub traces_back : TracesReadBack
unfolding behind_head
traces_back specs steps fits fine lawful =
    let lines = steps_lines specs steps lawful in
    let begins = subst BeginsWithNoProcess (sym lines) (first_is_step specs steps lawful) in
    ap behind_head (heads_back (codes "vkernel trace 1") specs (steps_text steps)
    (title_plain (codes "vkernel trace 1") refl) fits fine begins)
    ∙ ap (with_lines (record { config = settings_of specs; steps = [] })) lines
    ∙ steps_read (record { config = settings_of specs; steps = [] }) steps lawful

-- the lines of a trace's text
abbrev trace_lines : Trace → List (List ℕ)
trace_lines t = codes "vkernel trace 1" ∷ (map process_text t.config.specs ++ map step_text t.steps)

step_is : (t more : Trace) (o : Option Step) → with_step t o ≡ Some more
    → (s : Step) × (o ≡ Some s) × (record t { steps = t.steps ++ s ∷ [] } ≡ more)
unfolding with_step
step_is t more None h = cc
step_is t more (Some s) h = (s, refl, (cond_some (has_actor t.config.specs s) (record t { steps = t.steps ++ s ∷ [] }) more h).1)

one_more : (t : Trace) (s : Step) (l : List ℕ) (ls : List (List ℕ)) → l ≡ step_text s
    → trace_lines t ++ l ∷ ls ≡ trace_lines (record t { steps = t.steps ++ s ∷ [] }) ++ ls
one_more t s l ls is = one_line_more (codes "vkernel trace 1" ∷ map process_text t.config.specs) step_text t.steps s l ls is

same_trace : (t u : Trace) → ◌≡◌ {A = Result Trace TraceRefusal} (Ok t) (Ok u) → t ≡ u
same_trace t u h = cc

by_line : (t u : Trace) (l : List ℕ) (ls : List (List ℕ)) (o : Option Trace) → with_step t (step_of (words_from l 0)) ≡ o
    → ((more : Trace) → with_lines more ls ≡ Ok u → trace_lines more ++ ls ≡ trace_lines u)
    → option_map_or (λ more. with_lines more ls) o (Err (refusals.BadInput (line_behind t))) ≡ Ok u
    → trace_lines t ++ l ∷ ls ≡ trace_lines u
by_line t u l ls None is rest h = cc
by_line t u l ls (Some more) is rest h =
    let step = step_is t more (step_of (words_from l 0)) is in
    one_more t step.0 l ls (step_line l step.0 step.1) ∙ ap (λ (m : Trace). trace_lines m ++ ls) step.2 ∙ rest more h

lines_spelled : (t u : Trace) (lines : List (List ℕ)) → with_lines t lines ≡ Ok u → trace_lines t ++ lines ≡ trace_lines u
unfolding with_lines
lines_spelled t u [] h = append-nil (trace_lines t) ∙ ap trace_lines (same_trace t u h)
lines_spelled t u (l ∷ ls) h = by_line t u l ls (with_step t (step_of (words_from l 0))) refl (λ more e. lines_spelled more u ls e) h

by_head : (t : Trace) (lines : List (List ℕ)) (o : Option Parts) → head_of (codes "vkernel trace 1") lines ≡ o → behind_head o ≡ Ok t
    → lines ≡ trace_lines t
unfolding behind_head
by_head t lines None is h = cc
by_head t lines (Some head) is h =
    head_spelled (codes "vkernel trace 1") lines head is
    ∙ ap (λ l. codes "vkernel trace 1" ∷ (l ++ head.1)) (sym (append-nil (map process_text head.0)))
    ∙ lines_spelled (record { config = settings_of head.0; steps = [] }) t head.1 h

pub traces_once : TracesAreSpelledOnce
traces_once text t h =
    let lines = by_head t (lines_of text) (head_of (codes "vkernel trace 1") (lines_of text)) refl h in
    text_spelled text (trace_text t.config.specs t.steps) (trace_lines
    t) lines (lines_text (codes "vkernel trace 1") step_text t.config.specs t.steps)

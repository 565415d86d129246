-- The lines of a trace, one after another.
use Rattle.std.proofs.Common.{◌≡◌, ℕ, ◌+◌, ◌-◌, ◌<◌, ◌≤◌, Bool, true, false, cond, List, [], ◌∷◌, ◌++◌, length, Option, Some, None, Err, drop, codes, refl, ap, sym, ◌∙◌, ◌⊎◌, inl, inr, arith, length-append}
use Rattle.std.specs.Option.{option_map_or}
use Rattle.std.specs.Prelude.{IsSomeAnd}
use Rattle.vk_types.specs.Types.{Step}
use Rattle.vk_base.specs.Settings.{Settings}
use Rattle.vk_text.specs.Heads.{HasProcess, settings_of, head_of}
use Rattle.vk_text.proofs.HeadReading.{Parts}
use Rattle.vk_text.specs.Lines.{lines_of, words_from}
use Rattle.vk_text.specs.declared.heads.HeadRefusal.{HeadRefusal}
use Rattle.vk_text.specs.declared.heads.HeadRefusal.TheVariants as heads
use Rattle.v_trace.specs.Steps.{step_of}
use Rattle.v_trace.specs.Traces.{KeepsLines, kept_lines, has_actor, line_behind, with_step, with_lines, behind_head, trace_of}
use Rattle.v_trace.specs.declared.trace.Trace.{Trace}
use Rattle.v_trace.specs.declared.trace.TraceRefusal.TheVariants as refusals

pub behind_title : (text : List ℕ) (s : Settings) (at : ℕ)
    → head_of (codes "vkernel trace 1") (lines_of text) ≡ Some (s.specs, lines_of (drop at text)) → s ≡ settings_of s.specs
    → trace_of text ≡ with_lines (record { config = s; steps = [] }) (lines_of (drop at text))
unfolding behind_head
behind_title text s at head config =
    ap behind_head head ∙ ap (λ (x : Settings). with_lines (record { config = x; steps = [] }) (lines_of (drop at text))) (sym config)

pub no_title : (text : List ℕ) (e : HeadRefusal) → e ≡ heads.NoTitle
    → ((e ≡ heads.NoMemory) × HasProcess (codes "vkernel trace 1") text)
    ⊎ ((e ≡ heads.NoTitle) × (head_of (codes "vkernel trace 1") (lines_of text) ≡ None))
    → trace_of text ≡ Err (refusals.BadInput 1)
unfolding behind_head
no_title text e is (inl (other, wanted)) = absurd (let clash : heads.NoTitle ≡ heads.NoMemory = sym is ∙ other in cc)
no_title text e is (inr h) = ap behind_head h.1

-- the lines that were kept are those before a bad one

one_step : (t more : Trace) (s : Step) (b : Bool) → cond b (Some (record t { steps = t.steps ++ s ∷ [] })) None ≡ Some more
    → line_behind more ≡ line_behind t + 1
one_step t more s true h =
    let same : (let longer : Trace = record t { steps = t.steps ++ s ∷ [] } in longer) ≡ more = cc in
    ap line_behind (sym same) ∙ omega (arith, length-append t.steps (s ∷ []))
one_step t more s false h = cc

line_more : (t more : Trace) (o : Option Step) → with_step t o ≡ Some more → line_behind more ≡ line_behind t + 1
unfolding with_step
line_more t more None h = cc
line_more t more (Some s) h = one_step t more s (has_actor t.config.specs s) h

kept_by : (t : Trace) (ls : List (List ℕ)) (o : Option Trace)
    → ((more : Trace) → o ≡ Some more → line_behind t ≤ kept_lines (with_lines more ls) + 2)
    → line_behind t ≤ kept_lines (option_map_or (λ more. with_lines more ls) o (Err (refusals.BadInput (line_behind t)))) + 2
kept_by t ls None rest = omega arith
kept_by t ls (Some more) rest = rest more refl

all_kept : (t : Trace) (lines : List (List ℕ)) → line_behind t ≤ kept_lines (with_lines t lines) + 2
unfolding with_lines
all_kept t [] = omega arith
all_kept t (l ∷ ls) = kept_by t ls (with_step t (step_of (words_from l 0)))
    (λ more is. omega (arith, all_kept more ls, line_more t more (step_of (words_from l 0)) is))

wanted_by : (o : Option Parts) → IsSomeAnd o (λ h. 0 < length h.0) → 0 < kept_lines (behind_head o)
unfolding behind_head
wanted_by None some = absurd some
wanted_by (Some head) some = omega (arith, some, all_kept (record { config = settings_of head.0; steps = [] }) head.1)

pub wanted_head : (text : List ℕ) (e : HeadRefusal) → e ≡ heads.NoMemory
    → ((e ≡ heads.NoMemory) × HasProcess (codes "vkernel trace 1") text)
    ⊎ ((e ≡ heads.NoTitle) × (head_of (codes "vkernel trace 1") (lines_of text) ≡ None))
    → HasProcess (codes "vkernel trace 1") text
wanted_head text e is (inl h) = h.1
wanted_head text e is (inr h) = absurd (let clash : heads.NoTitle ≡ heads.NoMemory = sym h.0 ∙ is in cc)

-- where it is wanted for a process
pub head_wanted : (text : List ℕ) → HasProcess (codes "vkernel trace 1") text → KeepsLines text
head_wanted text some = wanted_by (head_of (codes "vkernel trace 1") (lines_of text)) some

-- where a line is kept, a bad one stands behind the second
pub bad_behind : (text : List ℕ) (line : ℕ) → KeepsLines text → trace_of text ≡ Err (refusals.BadInput line) → 2 < line
bad_behind text line keeps bad =
    let kept : kept_lines (trace_of text) ≡ line - 2 = ap kept_lines bad in
    omega (arith, kept, keeps)

-- What is left of the steps.
use Rattle.std.proofs.Common.{◌≡◌, ℕ, suc, ◌+◌, ◌<◌, ◌≤◌, ◌==◌, Bool, true, false, cond, List, [], ◌∷◌, ◌++◌, length, codes, drop, Option, Some, None, IfSome, IfErr, Result, Ok, Err, refl, sym, ap, ◌∙◌, ◌⊎◌, inl, inr, subst, arith, append-nil, append_assoc, length-append}
use Rattle.std.specs.List.{onto_first}
use Rattle.std.specs.Option.{option_map_or}
use Rattle.std.proofs.lemmas.List.{length-drop}
use Rattle.std.specs.Prelude.{option_map}
use Rattle.std.proofs.lemmas.Option.{cond_some}
use Rattle.vk_types.specs.Types.{ProcessSpec, Step}
use Rattle.vk_base.specs.Settings.{Settings}
use Rattle.vk_text.specs.Heads.{settings_of, head_of}
use Rattle.vk_text.specs.Lines.{lines_of, words_from}
use Rattle.v_trace.specs.Remaining.{Remaining, whole, behind, acting, end_of, left_by, steps_left}
use Rattle.v_trace.specs.Steps.{step_of}
use Rattle.v_trace.specs.Traces.{KeepsLines, kept_lines, has_actor, line_behind, with_step, with_lines, trace_of}
use Rattle.v_trace.specs.declared.trace.Trace.{Trace}
use Rattle.v_trace.specs.declared.trace.TraceRefusal.{TraceRefusal}
use Rattle.v_trace.specs.declared.trace.TraceRefusal.TheVariants as refusals
use Rattle.v_trace.proofs.TraceLines.{behind_title}

abbrev more : Trace → Step → Trace
more t s = record t { steps = t.steps ++ s ∷ [] }

abbrev with_steps : Remaining → List Step → Remaining
with_steps r ss = record r { steps = ss }

pub behind_both : (xs ys : List Step) (r : Remaining) → behind (xs ++ ys) r ≡ behind xs (behind ys r)
behind_both xs ys r = ap (with_steps r) (append_assoc xs ys r.steps)

-- what is behind all steps
ending : (r : Remaining) (ss : List Step) → r.steps ≡ [] → behind ss r ≡ with_steps r ss
ending r ss none = ap (λ (l : List Step). with_steps r (ss ++ l)) none ∙ ap (with_steps r) (append-nil ss)

with_acting : (t : Trace) (o : Option Step) → with_step t o ≡ option_map (more t) (acting t.config.specs o)
unfolding with_step
with_acting t None = refl
with_acting t (Some s) = by_test t s (has_actor t.config.specs s) where
  by_test : (t : Trace) (s : Step) (b : Bool) → cond b (Some (more t s)) None ≡ option_map (more t) (cond b (Some s) None)
  by_test t s true = refl
  by_test t s false = refl

by_step : (t : Trace) (ls : List (List ℕ)) (o : Option Step) (left : Remaining)
    → ((s : Step) → with_lines (more t s) ls ≡ whole (behind (t.steps ++ s ∷ []) left))
    → option_map_or (λ u. with_lines u ls) (option_map (more t) o) (Err (refusals.BadInput (line_behind t)))
    ≡ whole (behind t.steps (left_by t.config (length t.steps) o left))
by_step t ls None left after = refl
by_step t ls (Some s) left after = after s ∙ ap whole (behind_both t.steps (s ∷ []) left)

-- what is left stands behind what was taken
pub from_left : (t : Trace) (lines : List (List ℕ))
    → with_lines t lines ≡ whole (behind t.steps (steps_left t.config (length t.steps) lines))
unfolding with_lines steps_left
from_left t [] = ap whole (sym (ending (end_of t.config None) t.steps refl))
from_left t (l ∷ ls) =
    ap (λ (o : Option Trace). option_map_or (λ u. with_lines u ls) o (Err (refusals.BadInput (line_behind t))))
    (with_acting t (step_of (words_from l 0)))
    ∙ by_step t ls (acting t.config.specs (step_of (words_from l 0))) (steps_left t.config (length t.steps + 1) ls)
    (λ s. from_left (more t s) ls
    ∙ ap (λ n. whole (behind (t.steps ++ s ∷ []) (steps_left t.config n ls))) (length-append t.steps (s ∷ [])))

-- all is left behind the head
pub all_left : (text : List ℕ) (c : Settings) (at : ℕ)
    → head_of (codes "vkernel trace 1") (lines_of text) ≡ Some (c.specs, lines_of (drop at text)) → c ≡ settings_of c.specs
    → trace_of text ≡ whole (steps_left c 0 (lines_of (drop at text)))
all_left text c at head config =
    behind_title text c at head config ∙ from_left (record { config = c; steps = [] }) (lines_of (drop at text))

-- the processes stay

config_by : (c : Settings) (given : ℕ) (o : Option Step) (rest : Remaining) → rest.config ≡ c → (left_by c given o rest).config ≡ c
config_by c given None rest after = refl
config_by c given (Some s) rest after = after

pub config_left : (c : Settings) (given : ℕ) (lines : List (List ℕ)) → (steps_left c given lines).config ≡ c
unfolding steps_left
config_left c given [] = refl
config_left c given (l ∷ ls) =
    config_by c given (acting c.specs (step_of (words_from l 0))) (steps_left c (given + 1) ls) (config_left c (given + 1) ls)

-- a bad line stands behind all steps

abbrev IsLast : ℕ → Remaining → Type 0
IsLast n r = IfSome r.bad (λ line. line ≡ n + length r.steps + 2)

one_before : (n : ℕ) (s : Step) (ss : List Step) (o : Option ℕ) → IfSome o (λ line. line ≡ n + 1 + length ss + 2)
    → IfSome o (λ line. line ≡ n + length (s ∷ ss) + 2)
one_before n s ss None h = tt
one_before n s ss (Some line) h = omega (arith, h)

last_by : (c : Settings) (given : ℕ) (o : Option Step) (rest : Remaining) → IsLast (length c.specs + given + 1) rest
    → IsLast (length c.specs + given) (left_by c given o rest)
last_by c given None rest after = omega arith
last_by c given (Some s) rest after = one_before (length c.specs + given) s rest.steps rest.bad after

last_left : (c : Settings) (given : ℕ) (lines : List (List ℕ)) → IsLast (length c.specs + given) (steps_left c given lines)
unfolding steps_left
last_left c given [] = tt
last_left c given (l ∷ ls) =
    let rest = steps_left c (given + 1) ls in
    let same : length c.specs + (given + 1) ≡ length c.specs + given + 1 = omega arith in
    last_by c given (acting c.specs (step_of (words_from l 0))) rest (subst (λ n. IsLast n rest) same (last_left c (given + 1) ls))

pub bad_behind_all : (c : Settings) (lines : List (List ℕ)) → let r = steps_left c 0 lines in
    IfSome r.bad (λ line. line ≡ length r.config.specs + length r.steps + 2)
bad_behind_all c lines =
    let r = steps_left c 0 lines in
    let same : length c.specs + 0 ≡ length c.specs = omega arith in
    subst (λ (d : Settings). IfSome r.bad (λ line. line ≡ length d.specs + length r.steps + 2)) (sym (config_left c 0 lines))
    (subst (λ n. IsLast n r) same (last_left c 0 lines))

-- each step has a line of its own, and each line a byte

more_lines : (b : ℕ) (ls : List (List ℕ)) (n : ℕ) → length ls ≤ n → length (onto_first b ls) ≤ suc n
more_lines b [] n few = omega arith
more_lines b (l ∷ ls) n few = omega (arith, few)

lines_by : (end : Bool) (b : ℕ) (ls : List (List ℕ)) (n : ℕ) → length ls ≤ n → length (cond end ([] ∷ ls) (onto_first b ls)) ≤ suc n
lines_by true b ls n few = omega (arith, few)
lines_by false b ls n few = more_lines b ls n few

pub few_lines : (text : List ℕ) → length (lines_of text) ≤ length text
unfolding lines_of
few_lines [] = omega arith
few_lines (b ∷ bs) = lines_by (b == 10) b (lines_of bs) (length bs) (few_lines bs)

few_by : (c : Settings) (given : ℕ) (o : Option Step) (rest : Remaining) (n : ℕ) → length rest.steps ≤ n
    → length (left_by c given o rest).steps ≤ suc n
few_by c given None rest n few = omega arith
few_by c given (Some s) rest n few = omega (arith, few)

pub few_steps : (c : Settings) (given : ℕ) (lines : List (List ℕ)) → length (steps_left c given lines).steps ≤ length lines
unfolding steps_left
few_steps c given [] = omega arith
few_steps c given (l ∷ ls) =
    few_by c given (acting c.specs (step_of (words_from l 0))) (steps_left c (given + 1) ls) (length ls) (few_steps c (given + 1) ls)

pub few_left : (text : List ℕ) (at : ℕ) (c : Settings) → length (steps_left c 0 (lines_of (drop at text))).steps ≤ length text
few_left text at c =
    omega (arith, few_steps c 0 (lines_of (drop at text)), few_lines (drop at text), length-drop at text)

-- the next line

pub nothing_left : (c : Settings) (given : ℕ) (lines : List (List ℕ)) → lines ≡ [] → steps_left c given lines ≡ end_of c None
unfolding steps_left
nothing_left c given lines none = ap (steps_left c given) none

pub line_left : (c : Settings) (given : ℕ) (lines ls : List (List ℕ)) (l : List ℕ) (o : Option Step) → lines ≡ l ∷ ls
    → o ≡ acting c.specs (step_of (words_from l 0)) → steps_left c given lines ≡ left_by c given o (steps_left c (given + 1) ls)
unfolding steps_left
line_left c given lines ls l o here is =
    ap (steps_left c given) here ∙ ap (λ (x : Option Step). left_by c given x (steps_left c (given + 1) ls)) (sym is)

bad_by : (c : Settings) (given : ℕ) (o : Option Step) (rest : Remaining) → (left_by c given o rest).steps ≡ []
    → (left_by c given o rest).bad ≡ Some (length c.specs + given + 2)
bad_by c given None rest none = refl
bad_by c given (Some s) rest none = cc

-- the line is bad where no step is left
pub bad_next : (c : Settings) (given : ℕ) (lines ls : List (List ℕ)) (l : List ℕ) → lines ≡ l ∷ ls → (steps_left c given lines).steps ≡ []
    → (steps_left c given lines).bad ≡ Some (length c.specs + given + 2)
bad_next c given lines ls l here none =
    let o = acting c.specs (step_of (words_from l 0)) in
    let left = line_left c given lines ls l o here refl in
    ap (λ (r : Remaining). r.bad) left
    ∙ bad_by c given o (steps_left c (given + 1) ls) (sym (ap (λ (r : Remaining). r.steps) left) ∙ none)

-- what is known of a step that is given

acts : (specs : List ProcessSpec) (o : Option Step) (s : Step) → Some s ≡ acting specs o → has_actor specs s ≡ true
acts specs None s h = cc
acts specs (Some x) s h =
    let is = cond_some (has_actor specs x) x s (sym h) in
    sym (ap (has_actor specs) is.1) ∙ is.0

pub given_acts : (r : Remaining) (c : Settings) (given : ℕ) (lines : List (List ℕ)) (o : Option Step) (s : Step)
    → steps_left c given lines ≡ r → Some s ≡ acting c.specs o → has_actor r.config.specs s ≡ true
given_acts r c given lines o s left is =
    let same : c ≡ r.config = sym (config_left c given lines) ∙ ap (λ (x : Remaining). x.config) left in
    subst (λ (d : Settings). has_actor d.specs s ≡ true) same (acts c.specs o s is)

-- a loop over what is left

kept_by : (c : Settings) (ss : List Step) (o : Option ℕ) → IfSome o (λ line. line ≡ length c.specs + length ss + 2) → 0 < length ss
    → 0 < kept_lines (whole (record { config = c; steps = ss; bad = o }))
kept_by c ss None last some = omega (arith, some)
kept_by c ss (Some line) last some = omega (arith, last, some)

-- memory is wanted for a step, so for a line that is kept
pub step_wanted : (text : List ℕ) (r : Remaining) → trace_of text ≡ whole r
    → IfSome r.bad (λ line. line ≡ length r.config.specs + length r.steps + 2) → 0 < length r.steps → KeepsLines text
step_wanted text r so last some =
    subst (λ (t : Result Trace TraceRefusal). 0 < kept_lines t) (sym so) (kept_by r.config r.steps r.bad last some)

refused_by : (text : List ℕ) (r : Remaining) (e : TraceRefusal) → trace_of text ≡ whole r
    → IfSome r.bad (λ line. line ≡ length r.config.specs + length r.steps + 2)
    → ((e ≡ refusals.NoMemory) × (0 < length r.steps)) ⊎ (whole r ≡ Err e)
    → ((e ≡ refusals.NoMemory) × KeepsLines text) ⊎ (trace_of text ≡ Err e)
refused_by text r e so last (inl h) = inl (h.0, step_wanted text r so last h.1)
refused_by text r e so last (inr h) = inr (so ∙ h)

pub refused_whole : (text : List ℕ) (r : Remaining) (result : Result Trace TraceRefusal) → trace_of text ≡ whole r
    → IfSome r.bad (λ line. line ≡ length r.config.specs + length r.steps + 2)
    → IfErr result (λ e. ((e ≡ refusals.NoMemory) × (0 < length r.steps)) ⊎ (whole r ≡ Err e))
    → IfErr result (λ e. ((e ≡ refusals.NoMemory) × KeepsLines text) ⊎ (trace_of text ≡ Err e))
refused_whole text r (Ok t) so last h = tt
refused_whole text r (Err e) so last h = refused_by text r e so last h

-- The text of a trace, or of one with answers, where behind a step may stand what was seen of it. What it says, and what holds of it.
use Rattle.std.specs.Prelude.{ℕ, ◌≡◌, ◌+◌, ◌<◌, ⊤, Bool, true, false, ◌&&◌, List, [], ◌∷◌, ◌++◌, length, map, take, drop, codes, nat_eq, is_none, flat_map, option_to_list, Option, Some, None, option_map, Result, Ok, Err, if◌then◌else◌}
use Rattle.std.specs.List.{starts_with}
use Rattle.std.specs.Option.{option_map_or}
use Rattle.vk_types.specs.Types.{Observation, ProcessSpec, Step}
use Rattle.vk_base.specs.declared.step.Step.TheVariants as steps
use Rattle.vk_base.specs.Calls.{Effect}
use Rattle.vk_base.specs.Kernel.{Kernel}
use Rattle.vk_base.specs.Steps.{Run, effect, run}
use Rattle.vk_text.specs.Heads.{head_of}
use Rattle.vk_text.specs.Lines.{lines_of, words_from}
use Rattle.v_trace.specs.Steps.{step_of}
use Rattle.v_trace.specs.Texts.{answer_text}
use Rattle.v_trace.specs.Traces.{has_actor}
use Rattle.v_trace.specs.declared.trace.TraceRefusal.{TraceRefusal}
use Rattle.v_trace.specs.declared.trace.TraceRefusal.TheVariants as refusals

-- a step, and the answer that is told behind it, as it is spelled, where one is
pub record Sight : Type 0 where
  pub step : Step
  pub saw : Option (List ℕ)

abbrev pub steps_of : List Sight → List Step
steps_of ws = map (λ (w : Sight). w.step) ws

-- a process sees answers of calls, at once or at its collect, and of nothing else
abbrev pub may_see : Step → Bool
may_see (steps.Call pid c) = true
may_see (steps.Collect pid) = true
may_see s = false

-- The text.

-- the answer is told of the last step, where it may have one and has none yet
abbrev pub with_answer : List ℕ → List Sight → Option (List Sight)
with_answer a [] = None
with_answer a (w ∷ []) = if may_see w.step && is_none w.saw then Some (record w { saw = Some a } ∷ []) else None
with_answer a (w ∷ v ∷ vs) = option_map (λ more. w ∷ more) (with_answer a (v ∷ vs))

-- one step more, which a trace of these processes may have
abbrev pub with_step : List ProcessSpec → List Sight → Option Step → Option (List Sight)
with_step specs ws None = None
with_step specs ws (Some s) = if has_actor specs s then Some (ws ++ record { step = s; saw = None } ∷ []) else None

-- the answer that a line tells, as it is spelled: what stands behind `saw `, where the text tells answers
abbrev pub told_in : Bool → List ℕ → Option (List ℕ)
told_in tells line = if tells && starts_with nat_eq line (codes "saw ") then Some (drop 4 line) else None

-- the line tells this answer; where it tells none it is a step as in a trace
abbrev pub with_told : List ProcessSpec → List Sight → List ℕ → Option (List ℕ) → Option (List Sight)
with_told specs ws line (Some a) = with_answer a ws
with_told specs ws line None = with_step specs ws (step_of (words_from line 0))

abbrev pub with_line : Bool → List ProcessSpec → List Sight → List ℕ → Option (List Sight)
with_line tells specs ws line = with_told specs ws line (told_in tells line)

-- what these lines tell, of which the first has this number; the first that tells nothing is the bad one
unfoldable pub with_lines : Bool → List ProcessSpec → List Sight → ℕ → List (List ℕ) → Result (List Sight) TraceRefusal
with_lines tells specs ws number [] = Ok ws
with_lines tells specs ws number (l ∷ ls) =
    option_map_or (λ more. with_lines tells specs more (number + 1) ls) (with_line tells specs ws l) (Err (refusals.BadInput number))

abbrev pub with_specs : List ProcessSpec → Result (List Sight) TraceRefusal → Result (List ProcessSpec × List Sight) TraceRefusal
with_specs specs (Ok ws) = Ok (specs, ws)
with_specs specs (Err why) = Err why

abbrev pub behind_head : Bool → List ProcessSpec → List (List ℕ) → Result (List ProcessSpec × List Sight) TraceRefusal
behind_head tells specs lines = with_specs specs (with_lines tells specs [] (length specs + 2) lines)

-- behind the head of a trace, which tells no answers, or else that of a text that tells them
abbrev pub behind_heads : (trace observed : Option (List ProcessSpec × List (List ℕ))) → Result (List ProcessSpec × List Sight) TraceRefusal
behind_heads (Some (specs, lines)) observed = behind_head false specs lines
behind_heads None (Some (specs, lines)) = behind_head true specs lines
behind_heads None None = Err (refusals.BadInput 1)

-- the processes, and the steps with their answers, that these lines spell, or the first bad line
abbrev pub sights_in : List (List ℕ) → Result (List ProcessSpec × List Sight) TraceRefusal
sights_in lines = behind_heads (head_of (codes "vkernel trace 1") lines) (head_of (codes "vkernel observed 1") lines)

abbrev pub sights_of : List ℕ → Result (List ProcessSpec × List Sight) TraceRefusal
sights_of text = sights_in (lines_of text)

-- What holds of it.

-- an answer that is told is spelled as the one that the kernel gives; where none is told, nothing is asked
abbrev pub Agrees : Option (List ℕ) → Option Observation → Type 0
Agrees None seen = ⊤
Agrees (Some a) seen = (o : Observation) × (seen ≡ Some o) × (answer_text o.answer ≡ a)

-- each step is allowed, and what is told of it is so
abbrev pub IsSeen : Kernel → List Sight → Type 0
IsSeen k [] = ⊤
IsSeen k (w ∷ ws) = (e : Effect) × (effect k w.step ≡ Some e) × Agrees w.saw e.seen × IsSeen e.after ws

-- all before this place is seen so, and with the step there it is not
pub record IsFirstDifference (k : Kernel) (ws : List Sight) (at : ℕ) : Type 0 where
  pub inside : at < length ws
  pub before : IsSeen k (take at ws)
  pub not_with : IsSeen k (take (at + 1) ws) → ⊥

-- The same, where all that is seen is told.
abbrev pub spelled : Observation → List ℕ
spelled o = answer_text o.answer

abbrev pub answers_of : List Sight → List (List ℕ)
answers_of ws = flat_map (λ (w : Sight). option_to_list w.saw) ws

abbrev pub IsAllSeen : Kernel → List Sight → Type 0
IsAllSeen k [] = ⊤
IsAllSeen k (w ∷ ws) = (e : Effect) × (effect k w.step ≡ Some e) × (w.saw ≡ option_map spelled e.seen) × IsAllSeen e.after ws

-- the steps are a run, and the answers are those of it
pub record IsRunWith (k : Kernel) (ws : List Sight) : Type 0 where
  pub of : Run
  pub run : run k (steps_of ws) ≡ Some of
  pub answers : map spelled of.seen ≡ answers_of ws

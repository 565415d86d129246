-- The text of a run with its answers.
use Rattle.std.specs.Prelude.{ℕ, List, [], ◌∷◌, ◌++◌, codes, Option, Some, None}
use Rattle.std.specs.Option.{option_map_or}
use Rattle.vk_types.specs.Types.{Observation, ProcessSpec, Step}
use Rattle.vk_base.specs.Kernel.{Kernel, initial_kernel}
use Rattle.vk_base.specs.Steps.{effect}
use Rattle.vk_text.specs.Heads.{head_text, line_text}
use Rattle.v_trace.specs.Texts.{answer_text, step_text}
use Rattle.vk_explain.specs.declared.words.Asked.{Asked}
use Rattle.vk_explain.specs.declared.words.Asked.TheVariants as asks

-- the line that tells what is seen, where anything is
abbrev pub saw_line : Option Observation → List ℕ
saw_line None = []
saw_line (Some seen) = line_text (codes "saw " ++ answer_text seen.answer)

-- the lines of a step, at which this is seen
abbrev pub seen_lines : Step → Option Observation → List ℕ
seen_lines s seen = line_text (step_text s) ++ saw_line seen

-- and none where they are not asked for
abbrev pub asked_lines : Asked → Step → Option Observation → List ℕ
asked_lines asks.Verdict s seen = []
asked_lines asks.Answers s seen = seen_lines s seen

-- those of these steps from this kernel on, each with what the kernel gives to see at it
abbrev pub observed_from : Kernel → List Step → List ℕ
observed_from k [] = []
observed_from k (s ∷ ss) = option_map_or (λ e. seen_lines s e.seen ++ observed_from e.after ss) (effect k s) []

-- the title, the processes, and the steps with their answers
abbrev pub observed_text : List ProcessSpec → List Step → List ℕ
observed_text specs ss = head_text (codes "vkernel observed 1") specs ++ observed_from (initial_kernel specs) ss

-- and nothing where it is not asked for
abbrev pub observed_by : Asked → List ProcessSpec → List Step → List ℕ
observed_by asks.Verdict specs ss = []
observed_by asks.Answers specs ss = observed_text specs ss

-- How far the reading of a text has come, and what is wrong in one of its lines.
use Rattle.std.specs.Prelude.{ℕ, ◌≡◌, ◌+◌, ◌<◌, ◌≤◌, ◌^◌, ◌⊎◌, ⊤, Bool, true, List, [], ◌∷◌, ◌++◌, length, Option, Some, None, IsSome, if◌then◌else◌}
use Rattle.std.specs.Option.{option_map_or}
use Rattle.vk_types.specs.Types.{Observation, ProcessSpec, Step}
use Rattle.vk_base.specs.Calls.{Effect}
use Rattle.vk_base.specs.Kernel.{Kernel, initial_kernel}
use Rattle.vk_base.specs.Steps.{effect}
use Rattle.v_machine.specs.Apply.{most, notes}
use Rattle.v_machine.specs.Follows.{StandsFor}
use Rattle.v_machine.specs.Spent.{lean_kernel}
use Rattle.v_obstacle.specs.declared.obstacle.Obstacle.{Obstacle}
use Rattle.v_obstacle.specs.Obstacles.{obstacle}
use Rattle.v_obstacle.specs.Sights.{Agrees, Sight, answers_of, may_see, steps_of, told_in, with_answer, with_line, with_lines}
use Rattle.vk_explain.specs.Observed.{observed_by}
use Rattle.vk_explain.specs.declared.fault.Fault.{Fault}
use Rattle.vk_explain.specs.declared.fault.Fault.TheVariants as faults
use Rattle.vk_explain.specs.declared.fault.Stop.{Stop}
use Rattle.vk_explain.specs.declared.fault.Stop.TheVariants as stops
use Rattle.vk_explain.specs.declared.reading.Last.{Last}
use Rattle.vk_explain.specs.declared.reading.Last.TheVariants as lasts
use Rattle.vk_explain.specs.declared.reading.Reading.{Reading}
use Rattle.vk_explain.specs.Told.{fault_text}

-- each of these steps is allowed, what is told of it is so, and this is the kernel behind them
abbrev pub IsSeenTo : Kernel → List Sight → Kernel → Type 0
IsSeenTo k [] l = k ≡ l
IsSeenTo k (w ∷ ws) l = (e : Effect) × (effect k w.step ≡ Some e) × Agrees w.saw e.seen × IsSeenTo e.after ws l

-- the bytes that these steps note for remote moves, as far as they are allowed
abbrev pub noted_from : Kernel → List Sight → ℕ
noted_from k [] = 0
noted_from k (w ∷ ws) = option_map_or (λ e. notes k w.step + noted_from e.after ws) (effect k w.step) 0

-- a step of which nothing is told
abbrev pub untold : Step → Sight
untold s = record { step = s; saw = None }

abbrev pub told_of : Step → List ℕ → Sight
told_of s a = record { step = s; saw = Some a }

-- of the last of these steps nothing is told yet, its process may see an answer at it, and sees this
pub record IsSeenLast (specs : List ProcessSpec) (ws : List Sight) (after : Kernel) (seen : Option Observation) : Type 0 where
  pub before : List Sight
  pub step : Step
  pub kernel : Kernel
  pub are : ws ≡ before ++ untold step ∷ []
  pub may : may_see step ≡ true
  pub come : IsSeenTo (initial_kernel specs) before kernel
  pub does : effect kernel step ≡ Some (record { after = after; seen = seen })

abbrev pub IsLast : List ProcessSpec → List Sight → Kernel → Last → Type 0
IsLast specs ws k lasts.Over = (a : List ℕ) → with_answer a ws ≡ None
IsLast specs ws k (lasts.Seen seen) = IsSeenLast specs ws k seen

-- these steps were read, and all was right
pub record HasRead (specs : List ProcessSpec) (ws : List Sight) (r : Reading) : Type 0 where
  pub config : r.config.specs ≡ specs
  pub kernel : Kernel
  pub come : IsSeenTo (initial_kernel specs) ws kernel
  pub stands : StandsFor r.machine kernel
  pub last : IsLast specs ws kernel r.last
  pub steps : r.steps ≡ length ws
  pub answers : r.answers ≡ length (answers_of ws)
  pub noted : r.machine.noted ≡ noted_from (initial_kernel specs) ws
  pub observed : r.observed.items ≡ observed_by r.asked specs (steps_of ws)

-- what may be told of a step, at which this is seen
abbrev pub last_of : Step → Option Observation → Last
last_of s seen = if may_see s then lasts.Seen seen else lasts.Over

-- the line was read behind these steps
pub record Goes (tells : Bool) (specs : List ProcessSpec) (ws : List Sight) (line : List ℕ) (new : Reading) : Type 0 where
  pub sights : List Sight
  pub reads : with_line tells specs ws line ≡ Some sights
  pub read : HasRead specs sights new

-- the line is a step that is not allowed behind these, and this is why, where nothing is known of exchanges that are over
pub record IsRefusedAt (tells : Bool) (specs : List ProcessSpec) (ws : List Sight) (line : List ℕ) (number : ℕ) (why : Obstacle) : Type 0 where
  pub kernel : Kernel
  pub step : Step
  pub come : IsSeenTo (initial_kernel specs) ws kernel
  pub reads : with_line tells specs ws line ≡ Some (ws ++ untold step ∷ [])
  pub refused : effect kernel step ≡ None
  pub since : obstacle (lean_kernel kernel) step ≡ Some why
  pub counts : number ≡ length ws + 1

-- the line tells of the last of these steps another answer than what is seen of it
pub record IsOtherAt (tells : Bool) (specs : List ProcessSpec) (ws : List Sight) (line : List ℕ) (number : ℕ) (given : Option Observation) : Type 0 where
  pub told : List ℕ
  pub last : Kernel
  pub seen : IsSeenLast specs ws last given
  pub line_tells : told_in tells line ≡ Some told
  pub differs : Agrees (Some told) given → ⊥
  pub counts : number ≡ length ws

-- the line is a step that is allowed behind these, and with it too many bytes are noted
pub record IsOverAt (tells : Bool) (specs : List ProcessSpec) (ws : List Sight) (line : List ℕ) : Type 0 where
  pub kernel : Kernel
  pub step : Step
  pub come : IsSeenTo (initial_kernel specs) ws kernel
  pub reads : with_line tells specs ws line ≡ Some (ws ++ untold step ∷ [])
  pub allowed : IsSome (effect kernel step)
  pub over : most < noted_from (initial_kernel specs) ws + notes kernel step

-- the line's number, or that of the steps or answers behind it, is more than 64 bits count
abbrev pub IsUncounted : List Sight → ℕ → Type 0
IsUncounted ws number = (2 ^ 64 ≤ number + 1) ⊎ (2 ^ 64 ≤ length ws + 1) ⊎ (2 ^ 64 ≤ length (answers_of ws) + 1)

-- what is wrong in a line of this number behind these steps
abbrev pub IsFault : Bool → List ProcessSpec → List Sight → ℕ → List ℕ → Fault → Type 0
IsFault tells specs ws number line (faults.BadLine n) = (n ≡ number) × (with_line tells specs ws line ≡ None)
IsFault tells specs ws number line (faults.Refused step why) = IsRefusedAt tells specs ws line step why
IsFault tells specs ws number line (faults.OtherAnswer step given) = IsOtherAt tells specs ws line step given
IsFault tells specs ws number line faults.Limit = IsOverAt tells specs ws line ⊎ IsUncounted ws number
IsFault tells specs ws number line faults.NoMemory = ⊤

-- behind these lines, of which the first has the first number, and which tell the first steps on to the second, the next has the second number
abbrev pub IsReadOn : Bool → List ProcessSpec → List Sight → ℕ → List (List ℕ) → List Sight → ℕ → Type 0
IsReadOn tells specs ws number ls us next =
    (ms : List (List ℕ)) → with_lines tells specs ws number (ls ++ ms) ≡ with_lines tells specs us next ms

-- One of these lines is the first in which something is wrong, and it is told so.
pub record IsWrongIn (tells : Bool) (specs : List ProcessSpec) (ws : List Sight) (number : ℕ) (ls : List (List ℕ)) (text : List ℕ) : Type 0 where
  pub before : List (List ℕ)
  pub line : List ℕ
  pub behind : List (List ℕ)
  pub are : ls ≡ before ++ line ∷ behind
  pub sights : List Sight
  pub at : ℕ
  pub read : IsReadOn tells specs ws number before sights at
  pub fault : Fault
  pub is : IsFault tells specs sights at line fault
  pub told : fault_text fault line ≡ Some text

-- All of these lines before one were read, and with that one a limit is met.
pub record IsOverIn (tells : Bool) (specs : List ProcessSpec) (ws : List Sight) (number : ℕ) (ls : List (List ℕ)) : Type 0 where
  pub before : List (List ℕ)
  pub line : List ℕ
  pub behind : List (List ℕ)
  pub are : ls ≡ before ++ line ∷ behind
  pub sights : List Sight
  pub at : ℕ
  pub read : IsReadOn tells specs ws number before sights at
  pub is : IsFault tells specs sights at line faults.Limit

-- all of these lines were read
pub record AreRead (specs : List ProcessSpec) (ws : List Sight) (ls : List (List ℕ)) (old new : Reading) : Type 0 where
  pub sights : List Sight
  pub on : IsReadOn old.tells specs ws old.line ls sights new.line
  pub read : HasRead specs sights new
  pub same : new.tells ≡ old.tells
  pub asked : new.asked ≡ old.asked

-- where the reading ends since something is wrong, this holds of what is told, and that where a limit was met
abbrev pub Stops : (List ℕ → Type 0) → Type 0 → Stop → Type 0
Stops Holds Over (stops.Wrong text) = Holds text.items
Stops Holds Over stops.Limit = Over
Stops Holds Over stops.NoMemory = ⊤

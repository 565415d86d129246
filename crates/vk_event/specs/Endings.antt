-- The last two lines of a scenario.
use Rattle.std.specs.Prelude.{ℕ, ◌+◌, List, [], ◌∷◌, codes, bytes_eq, Option, None, Result, Ok, Err, if◌then◌else◌}
use Rattle.std.specs.Option.{option_map_or}
use Rattle.vk_base.specs.Options.{◌>>=◌}
use Rattle.vk_text.specs.Calls.{first_as, ended}
use Rattle.vk_text.specs.Lines.{words_from}
use Rattle.vk_text.specs.Words.{number_of}
use Rattle.vk_event.specs.declared.scenario.Ending.{Ending}
use Rattle.vk_schedule.specs.declared.plan.LinkPlan.{LinkPlan}

-- `LOSE DOUBLE HOLD SEED`: three numbers of 8 bits, and one of 64
unfoldable pub plan_fields_of : List (List ℕ) → Option LinkPlan
plan_fields_of ws =
    first_as (number_of 255) ws >>= λ (lose, ws). first_as (number_of 255) ws >>= λ (double, ws).
    first_as (number_of 255) ws >>= λ (hold, ws). first_as (number_of 18446744073709551615) ws >>= λ (seed, ws).
    ended ws (record { lose = lose; double = double; hold = hold; seed = seed })

-- `link LOSE DOUBLE HOLD SEED`
unfoldable pub plan_of : List (List ℕ) → Option LinkPlan
plan_of [] = None
plan_of (w ∷ ws) = if bytes_eq w (codes "link") then plan_fields_of ws else None

-- `ROUNDS`
unfoldable pub round_count_of : ℕ → List (List ℕ) → Option ℕ
round_count_of most ws = first_as (number_of most) ws >>= λ (rounds, ws). ended ws rounds

-- `ticks ROUNDS`, of at most so many rounds
unfoldable pub rounds_of : ℕ → List (List ℕ) → Option ℕ
rounds_of most [] = None
rounds_of most (w ∷ ws) = if bytes_eq w (codes "ticks") then round_count_of most ws else None

-- no line stands behind, else the first of them, which has this number, is bad
abbrev pub at_last : {A : Type 0} → ℕ → A → List (List ℕ) → Result A ℕ
at_last n value [] = Ok value
at_last n value (l ∷ ls) = Err n

-- the plan and the rounds, which the last line tells, from line n on; or the number of the bad line
unfoldable pub rounds_from : ℕ → ℕ → LinkPlan → List (List ℕ) → Result Ending ℕ
rounds_from most n plan [] = Err n
rounds_from most n plan (l ∷ ls) =
    option_map_or (λ rounds. at_last (n + 1) (record { plan = plan; rounds = rounds }) ls) (rounds_of most (words_from l 0)) (Err n)

-- the plan and the rounds that the last two lines tell, from line n on; or the number of the bad line
unfoldable pub ending_from : ℕ → ℕ → List (List ℕ) → Result Ending ℕ
ending_from most n [] = Err n
ending_from most n (l ∷ ls) = option_map_or (λ plan. rounds_from most (n + 1) plan ls) (plan_of (words_from l 0)) (Err n)

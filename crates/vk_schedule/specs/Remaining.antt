-- What is left of a front when its first events were read.
use Rattle.std.specs.Prelude.{◌≡◌, ℕ, ◌+◌, ◌≤◌, nat_lt, List, [], ◌∷◌, ◌++◌, length, Option, Some, None, if◌then◌else◌}
use Rattle.vk_base.specs.Settings.{Settings}
use Rattle.vk_base.specs.declared.limits.TheConstants.{EVENTS, PROCESSES, STATIONS}
use Rattle.vk_text.specs.Lines.{lines_of, words_from}
use Rattle.vk_schedule.specs.declared.event.Event.{Event}
use Rattle.vk_schedule.specs.declared.schedule.Front.{Front}
use Rattle.vk_schedule.specs.declared.schedule.TextRefusal.{TextRefusal}
use Rattle.vk_schedule.specs.declared.schedule.TextRefusal.TheVariants as refusals
use Rattle.vk_schedule.specs.Schedule.{acting, event_of, front_of}

-- the front with these events before its own
abbrev pub behind : List Event → Front → Front
behind es f = record f { schedule = record f.schedule { events = es ++ f.schedule.events } }

-- the next event is the first of those that were left, and the others are left now; or none is left, and nothing changes
abbrev pub IsNextEvent : Front → Front → Option Event → Type 0
IsNextEvent old new None = (old.schedule.events ≡ []) × (new ≡ old)
IsNextEvent old new (Some e) = old ≡ behind (e ∷ []) new

-- Of the code alone from here on: no law rests on it.

-- no event is left
abbrev pub end_of : Settings → Option TextRefusal → Option Event → Front
end_of c refused beyond = record { schedule = record { config = c; events = [] }; refused = refused; beyond = beyond }

-- there are not too many events, and few lines stand before the first
pub record HasFewLines (given line : ℕ) : Type 0 where
  pub events : given ≤ EVENTS
  pub lines : line ≤ given + (PROCESSES + STATIONS + 3)

-- what is left behind so many events, where the next line, which has this number, has this event or none
abbrev pub left_by : Settings → ℕ → ℕ → Option Event → Front → Front
left_by c given n None rest = end_of c (Some (refusals.BadInput n)) None
left_by c given n (Some e) rest = if nat_lt given EVENTS then behind (e ∷ []) rest else end_of c (Some refusals.Limit) (Some e)

-- what is left behind so many events, where these lines are left, of which the first has this number
unfoldable pub front_left : Settings → ℕ → ℕ → List (List ℕ) → Front
front_left c given n [] = end_of c None None
front_left c given n (l ∷ ls) = left_by c given n (acting c.specs (event_of (words_from l 0))) (front_left c (given + 1) (n + 1) ls)

-- These bytes begin the text of a schedule with this configuration and these events, whose next line has this number: whatever stands
-- behind them is read as events behind these.
abbrev pub IsReadTo : List ℕ → Settings → List Event → ℕ → Type 0
IsReadTo text c es line = (more : List ℕ) → front_of (text ++ more) ≡ behind es (front_left c (length es) line (lines_of more))

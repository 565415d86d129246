-- Of the code alone, no law rests on it: playing a schedule whose text is read piece by piece.
use Rattle.std.specs.Prelude.{◌≡◌, ℕ, ◌+◌, ◌≤◌, ◌⊎◌, true, List, ◌++◌, length, Option, Ok, None, Some}
use Rattle.vk_base.specs.declared.limits.TheConstants.{EVENTS}
use Rattle.vk_base.specs.Settings.{Settings}
use Rattle.vk_cluster.specs.Values.{ClusterValue}
use Rattle.vk_schedule.specs.declared.event.Event.{Event}
use Rattle.vk_schedule.specs.declared.schedule.Front.{Front}
use Rattle.vk_schedule.specs.declared.schedule.Schedule.{Schedule}
use Rattle.vk_schedule.specs.declared.schedule.TextRefusal.{TextRefusal}
use Rattle.vk_schedule.specs.declared.schedule.TextRefusal.TheVariants as refusals
use Rattle.vk_schedule.specs.Remaining.{HasFewLines, IsReadTo}
use Rattle.vk_schedule.specs.Schedule.{schedule_of}
use Rattle.vk_report.specs.declared.entry.Counts.{Counts}
use Rattle.vk_report.specs.declared.entry.Form.{Form}
use Rattle.vk_text.specs.declared.text.Text.{Text}
use Rattle.vk_text.specs.Texts.{shown}
use Rattle.vk_top.specs.declared.playing.Played.{Played}
use Rattle.vk_top.specs.declared.playing.Playing.{Playing}
use Rattle.vk_top.specs.declared.playing.Way.{Way}
use Rattle.vk_top.specs.declared.playing.Way.TheVariants as ways
use Rattle.vk_top.specs.Playing.{HasPlayed}
use Rattle.vk_top.specs.Report.{is_cut, written_text}

abbrev pub schedule_with : Settings → List Event → Schedule
schedule_with c es = record { config = c; events = es }

-- the front with these events behind its own
abbrev pub followed : Front → List Event → Front
followed f later = record f { schedule = record f.schedule { events = f.schedule.events ++ later } }

-- how the first so many events of a schedule were played: all were had; or one of the schedule's is refused, and its text is there; or
-- memory was wanting
abbrev pub IsWay : Form → Way → Schedule → ℕ → ClusterValue → Counts → Text → Type 0
IsWay form ways.On s n now counts text = HasPlayed form s n now counts (shown text)
IsWay form ways.Cut s n now counts text = (is_cut s ≡ true) × (shown text ≡ written_text form s)
IsWay form ways.WantsMemory s n now counts text = Unit {0}

-- these events were played so, whatever comes behind them
abbrev pub GoesWay : Form → Way → Settings → List Event → Played → Type 0
GoesWay form way c es p =
    (later : List Event) → length (es ++ later) ≤ EVENTS →
    IsWay form way (schedule_with c (es ++ later)) (length es) p.cluster p.counts p.text

-- these events were read, and so they were played
pub record ArePlayed (form : Form) (way : Way) (c : Settings) (es : List Event) (p : Played) : Type 0 where
  pub count : p.read ≡ length es
  pub goes : GoesWay form way c es p

-- the text begins that of a schedule whose events so far were played
pub record HasCome (form : Form) (text : List ℕ) (p : Playing) : Type 0 where
  pub events : List Event
  pub reads : IsReadTo text p.config events p.line
  pub few : HasFewLines p.played.read p.line
  pub played : ArePlayed form p.way p.config events p.played

-- the text is that of a schedule whose events were played
pub record HasPlayedAll (form : Form) (text : List ℕ) (p : Playing) : Type 0 where
  pub events : List Event
  pub spells : schedule_of text ≡ Ok (schedule_with p.config events)
  pub few : length events ≤ EVENTS
  pub played : ArePlayed form p.way p.config events p.played

-- no line of those that this front is read of is refused, and its events are played behind those that were played this way before them,
-- where the first of these lines has this number
pub record IsPiecePlayed (form : Form) (left : Front) (way : Way) (number : ℕ) (before : Played) (p : Playing) : Type 0 where
  pub fine : left.refused ≡ None
  pub config : p.config ≡ left.schedule.config
  pub line : p.line ≡ number + length left.schedule.events
  pub played : (es : List Event) → ArePlayed form way left.schedule.config es before →
      ArePlayed form p.way left.schedule.config (es ++ left.schedule.events) p.played

-- why nothing is written where memory is wanting: a line is refused so, or memory is
abbrev pub IsUnwritten : Option TextRefusal → TextRefusal → Type 0
IsUnwritten line e = (line ≡ Some e) ⊎ ((line ≡ None) × (e ≡ refusals.NoMemory))

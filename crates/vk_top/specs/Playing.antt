-- Of the code alone, no law rests on it: playing a schedule on its stations, one event after another.
use Rattle.std.specs.Prelude.{◌≡◌, ℕ, ◌+◌, ◌*◌, ◌≤◌, ◌<◌, List, [], ◌∷◌, ◌++◌, drop, length, map, take, vec_len, vec_capacity, Some, Ok}
use Rattle.vk_base.specs.declared.limits.TheConstants.{EVENTS, STEPS, TICK_PACKETS}
use Rattle.vk_base.specs.Settings.{Settings}
use Rattle.vk_cluster.specs.Standing.{StandsFor, emitted_bytes, logs_of}
use Rattle.vk_cluster.specs.Values.{ClusterValue}
use Rattle.vk_schedule.specs.declared.event.Event.{Event}
use Rattle.vk_schedule.specs.declared.event.Event.TheVariants as events
use Rattle.vk_schedule.specs.Spelling.{event_text}
use Rattle.vk_schedule.specs.declared.schedule.Front.{Front}
use Rattle.vk_schedule.specs.declared.schedule.Schedule.{Schedule}
use Rattle.vk_schedule.specs.Schedule.{schedule_of}
use Rattle.vk_report.specs.declared.entry.Counts.{Counts}
use Rattle.vk_report.specs.declared.entry.Form.{Form}
use Rattle.vk_report.specs.declared.entry.EventPlace.{EventPlace}
use Rattle.vk_report.specs.Histories.{Told, told_lines}
use Rattle.vk_rules.specs.Entries.{Entry}
use Rattle.vk_rules.specs.Histories.{Happened, happened, history}
use Rattle.vk_rules.specs.Observed.{steps_in}
use Rattle.vk_top.specs.Report.{counts_of, emitted_of, frame_count, front_text, history_before, is_cut, taken_from, taken_of, told_of, written_text}
use Rattle.vk_text.specs.declared.text.Text.{Text}
use Rattle.vk_top.specs.declared.replay.Written.{Written}

-- what is told of an entry at this place
abbrev pub told_entry : EventPlace → Entry → Told
told_entry place e = record { place = place; answer = Some e.answer; steps = e.steps; frames = map emitted_of e.frames }

-- before one event more
pub record AreFew (c : Counts) : Type 0 where
  pub events : c.events < EVENTS
  pub steps : c.steps ≤ STEPS * c.events
  pub frames : c.frames ≤ TICK_PACKETS * c.events

-- there is room for what stands in the draft
abbrev pub CanEnd : Text → Type 0
CanEnd t = vec_len t.bytes + length t.draft ≤ vec_capacity t.bytes

-- the counts with what happened at one event more
abbrev pub counts_after : Counts → Happened → Counts
counts_after c h = record { events = c.events + 1; steps = c.steps + length (steps_in h); frames = c.frames + frame_count h }

-- the event is a call or a collect, and spelled as this line
abbrev pub IsOwnLine : List ℕ → Event → Type 0
IsOwnLine line (events.Call pid call) = line ≡ event_text (events.Call pid call)
IsOwnLine line (events.Collect pid) = line ≡ event_text (events.Collect pid)
IsOwnLine line e = ⊥

-- this happened: its lines were appended, and it is counted
pub record IsReported (form : Form) (before after : Counts) (front text : List ℕ) (h : Happened) : Type 0 where
  pub lines : text ≡ front ++ told_lines form (told_of (before.events + 1) h)
  pub counts : after ≡ counts_after before h
  pub steps : length (steps_in h) ≤ STEPS
  pub frames : frame_count h ≤ TICK_PACKETS

-- the cluster had this event behind these
pub record IsHad (form : Form) (c : Settings) (es : List Event) (e : Event) (before after : Counts) (front text : List ℕ)
    (now : ClusterValue) : Type 0 where
  pub told : IsReported form before after front text (happened c (logs_of c es) e)
  pub stands : StandsFor c (es ++ e ∷ []) now

-- The first so many events of a schedule were had, none of them was refused, and their lines stand behind the opening lines.
pub record HasPlayed (form : Form) (s : Schedule) (n : ℕ) (now : ClusterValue) (counts : Counts) (text : List ℕ) : Type 0 where
  pub stands : StandsFor s.config (take n s.events) now
  pub lines : text ≡ front_text form n s
  pub counted : counts ≡ counts_of (history_before n s)
  pub steps : counts.steps ≤ STEPS * n
  pub frames : counts.frames ≤ TICK_PACKETS * n
  pub taken : taken_of s ≡ n
      + taken_from (emitted_bytes (history_before n s)) (history s.config (logs_of s.config (take n s.events)) (drop n s.events))

-- how the reading ends, when no event is left
abbrev pub without_events : Front → Front
without_events f = record f { schedule = record f.schedule { events = [] } }

-- the events of a front but those that are left were had
pub record IsUnderWay (form : Form) (all left : Front) (now : ClusterValue) (counts : Counts) (text : List ℕ) : Type 0 where
  pub played : HasPlayed form all.schedule counts.events now counts text
  pub rest : left.schedule.events ≡ drop counts.events all.schedule.events
  pub same : without_events left ≡ without_events all

-- the text is that of this schedule, and so it is written
pub record IsWrittenOf (form : Form) (text : List ℕ) (w : Written) : Type 0 where
  pub schedule : Schedule
  pub spells : schedule_of text ≡ Ok schedule
  pub lines : w.text.items ≡ written_text form schedule
  pub cut : w.is_cut ≡ is_cut schedule

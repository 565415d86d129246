-- Why a text is refused that does not open.
use Rattle.std.proofs.Common.{◌≡◌, ℕ, List, Err, ◌⊎◌, inl, inr, sym, ap, ◌∙◌}
use Rattle.vk_schedule.specs.declared.schedule.Front.{Front}
use Rattle.vk_schedule.specs.declared.schedule.TextRefusal.{TextRefusal}
use Rattle.vk_schedule.specs.declared.schedule.TextRefusal.TheVariants as schedules
use Rattle.vk_schedule.specs.Schedule as schedule
use Rattle.vk_schedule.specs.Schedule.{HasProcess, front_of, schedule_of, unopened}
use Rattle.v_trace.specs.declared.trace.TraceRefusal.{TraceRefusal}
use Rattle.v_trace.specs.declared.trace.TraceRefusal.TheVariants as traces
use Rattle.v_trace.specs.Traces as trace_lines
use Rattle.v_trace.specs.Traces.{trace_of}
use Rattle.vk_report.specs.declared.entry.Form.{Form}
use Rattle.vk_top.proofs.Told.{process_wanted, trace_wanted}
use Rattle.vk_top.specs.Work.{KeepsLines}
use Rattle.vk_top.specs.declared.words.TextCommand.TheVariants as asked

pub untitled_schedule : (form : Form) (text : List ℕ) (e : TextRefusal)
    → ((e ≡ schedules.NoMemory) × HasProcess text) ⊎ ((line : ℕ) × (e ≡ schedules.BadInput line) × (front_of text ≡ unopened line))
    → ((e ≡ schedules.NoMemory) × KeepsLines (asked.Replay form) text) ⊎ (schedule_of text ≡ Err e)
untitled_schedule form text e (inl h) = inl (h.0, process_wanted form text h.1)
untitled_schedule form text e (inr h) = inr (ap (λ (f : Front). schedule.whole f.schedule f.refused) h.2 ∙ ap Err (sym h.1))

pub untitled_trace : (text : List ℕ) (e : TraceRefusal)
    → ((e ≡ traces.NoMemory) × trace_lines.KeepsLines text) ⊎ (trace_of text ≡ Err e)
    → ((e ≡ traces.NoMemory) × KeepsLines asked.Check text) ⊎ (trace_of text ≡ Err e)
untitled_trace text e (inl h) = inl (h.0, trace_wanted text h.1)
untitled_trace text e (inr h) = inr h

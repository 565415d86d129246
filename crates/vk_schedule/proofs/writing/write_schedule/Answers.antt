use Rattle.std.proofs.Common.{ap, ◌∙◌, ◌++◌, List, ℕ}
use Rattle.std.proofs.lemmas.Result.{IfOk-weaker}
use Rattle.std.specs.Prelude.{flat_map}
use Rattle.vk_text.specs.Heads.{line_text}
use Rattle.vk_text.specs.Openings.{opening_text}
use Rattle.vk_schedule.specs.declared.event.Event.{Event}
use Rattle.vk_schedule.specs.Schedule.{plain_title, schedule_of, timed_title}
use Rattle.vk_schedule.specs.Spelling.{event_text}
use Rattle.vk_schedule.proofs.ReadAgain.{written_back}
use Rattle.vk_schedule.proofs.writing.write_schedule.Goals as goal

pub returns-clause-read : goal.returns-clause-read
returns-clause-read c =
    let opening : List ℕ = opening_text plain_title timed_title c.args.schedule.now.config in
    let text =
    c.in_ok-write_events.ensures
    ∙ ap (λ (l : List ℕ). l ++ flat_map (λ e. line_text (event_text e)) c.as_slice.result.now) c.in_ok-writer.ensures
    ∙ ap (λ (es : List Event). opening ++ flat_map (λ e. line_text (event_text e)) es) c.as_slice.ensures in
    IfOk-weaker c.into_bytes.result _ _ (λ v h. ap schedule_of (h ∙ text) ∙ written_back c.args.schedule.now c.requires) c.into_bytes.ensures

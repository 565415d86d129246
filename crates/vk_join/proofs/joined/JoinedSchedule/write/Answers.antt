use Rattle.std.proofs.Common.{◌≡◌, List, ℕ, ◌++◌, map, take, sym, ap, ◌∙◌, arith}
use Rattle.std.specs.Prelude.{flat_map, slice_get}
use Rattle.std.proofs.lemmas.List.{flat_map_more, take_all}
use Rattle.std.proofs.lemmas.Result.{IfOk-weaker}
use Rattle.vk_text.specs.Heads.{line_text}
use Rattle.vk_text.specs.Openings.{opening_text}
use Rattle.vk_schedule.specs.declared.event.Event.{Event}
use Rattle.vk_schedule.specs.Schedule.{plain_title, schedule_of, timed_title}
use Rattle.vk_schedule.specs.Spelling.{event_text, schedule_text}
use Rattle.vk_schedule.proofs.ReadAgain.{written_back}
use Rattle.vk_join.specs.Merges.{event_of, events_of}
use Rattle.vk_join.specs.Replays.{event_for, host_for, turn_for}
use Rattle.vk_join.proofs.Keyed.{events_next}
use Rattle.vk_join.proofs.joined.JoinedSchedule.write.Goals as goal

pub loop-at-preserved : goal.loop-at-preserved
loop-at-preserved c =
    let logs = c.self.inside.logs.items in
    let keys = c.self.inside.keys.items in
    let at = c.loop-at.at in
    let k = c.key_at.result in
    let line : Event → List ℕ = λ e. line_text (event_text e) in
    let opening : List ℕ = opening_text plain_title timed_title c.self.inside.config in
    let before = events_of (map (turn_for logs) (take at keys)) in
    let found = ap (λ ks. slice_get ks at) (sym c.deref-in-loop-at.ensures.value) ∙ c.key_at.ensures in
    c.in_ok-write_event.ensures
    ∙ ap (λ ls. c.loop-at.writer ++ line (event_of (host_for ls k) (event_for ls k))) c.deref.ensures.value
    ∙ ap (λ l. l ++ line (event_of (host_for logs k) (event_for logs k))) c.loop-at.invariant
    ∙ flat_map_more line opening before (event_of (host_for logs k) (event_for logs k))
    ∙ ap (λ es. opening ++ flat_map line es) (sym (events_next logs keys at k found))

pub returns-clause-text : goal.returns-clause-text
returns-clause-text c =
    let opening : List ℕ = opening_text plain_title timed_title c.self.inside.config in
    let whole : c.loop-at.writer ≡ schedule_text c.args.self.now =
    c.loop-at.invariant
    ∙ ap (λ ks. opening ++ flat_map (λ e. line_text (event_text e)) (events_of (map (turn_for c.self.inside.logs.items) ks)))
    (take_all c.loop-at.at c.self.inside.keys.items (omega arith))
    ∙ ap schedule_text c.self.view_is in
    IfOk-weaker c.into_bytes.result _ _ (λ v h. h ∙ whole) c.into_bytes.ensures

pub returns-clause-read : goal.returns-clause-read
returns-clause-read c =
    IfOk-weaker c.into_bytes.result _ _ (λ v h. ap schedule_of h ∙ written_back c.args.self.now c.requires) (returns-clause-text c)

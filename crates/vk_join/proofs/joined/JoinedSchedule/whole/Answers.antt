use Rattle.std.proofs.Common.{◌+◌, [], ◌∷◌, ◌++◌, map, sym, ap, ◌∙◌, arith}
use Rattle.std.specs.Prelude.{slice_get}
use Rattle.std.proofs.lemmas.List.{take_all}
use Rattle.vk_join.specs.Merges.{event_of, events_of}
use Rattle.vk_join.specs.Replays.{event_for, host_for, turn_for}
use Rattle.vk_join.proofs.Keyed.{events_next}
use Rattle.vk_join.proofs.joined.JoinedSchedule.whole.Goals as goal

pub loop-at-preserved : goal.loop-at-preserved
loop-at-preserved c =
    let logs = c.self.inside.logs.items in
    let at = c.loop-at.at in
    let k = c.key_at.result in
    let before = c.loop-at.invariant in
    let found = ap (λ ks. slice_get ks at) (sym c.deref-in-loop-at.ensures.value) ∙ c.key_at.ensures in
    record {
      items =
          c.push_event.ensures.items
          ∙ ap (λ ls. c.loop-at.events.items ++ event_of (host_for ls k) (event_for ls k) ∷ []) c.deref.ensures.value
          ∙ ap (λ es. es ++ event_of (host_for logs k) (event_for logs k) ∷ []) before.items
          ∙ sym (events_next logs c.self.inside.keys.items at k found);
      count = c.push_event.ensures.len ∙ ap (λ m. m + 1) before.count;
      room = omega (arith, before.room, c.push_event.ensures.capacity);
    }

pub returns : goal.returns
returns c =
    let keys = c.self.inside.keys.items in
    let events =
    c.new.ensures
    ∙ c.loop-at.invariant.items
    ∙ ap (λ l. events_of (map (turn_for c.self.inside.logs.items) l)) (take_all c.loop-at.at keys (omega arith)) in
    (λ k. record { config = c.in_ok-copy.ensures k; events = events k }) ∙ c.self.view_is

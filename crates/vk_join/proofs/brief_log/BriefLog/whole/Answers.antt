use Rattle.std.proofs.Common.{◌+◌, [], ◌∷◌, ◌++◌, get_or, sym, ap, ◌∙◌, arith}
use Rattle.std.proofs.lemmas.List.{take_all}
use Rattle.std.proofs.lemmas.Option.{slice_get-get_or}
use Rattle.vk_base.specs.declared.event.StationEvent.TheVariants as events
use Rattle.vk_cluster.proofs.Loops.{take_get}
use Rattle.vk_join.proofs.brief_log.BriefLog.whole.Goals as goal

pub loop-at-preserved : goal.loop-at-preserved
loop-at-preserved c =
    let all = c.self.inside.events.items in
    let at = c.loop-at.at in
    let e = get_or all at events.Tick in
    let found = slice_get-get_or all at events.Tick (omega arith) in
    let before = c.loop-at.invariant in
    record {
      items = c.push_whole.ensures.items e found ∙ ap (λ es. es ++ e ∷ []) before.items ∙ sym (take_get all at e found);
      count = c.push_whole.ensures.len ∙ ap (λ m. m + 1) before.count;
      room = omega (arith, before.room, c.push_whole.ensures.capacity);
    }

pub returns : goal.returns
returns c =
    let events = c.new.ensures ∙ c.loop-at.invariant.items ∙ take_all c.loop-at.at c.self.inside.events.items (omega arith) in
    (λ k. record { host = c.self.inside.host; events = events k }) ∙ c.self.view_is

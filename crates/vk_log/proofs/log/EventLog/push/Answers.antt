use Rattle.std.proofs.Common.{arith, length, ◌≡◌, ℕ, List, ◌∷◌, ◌++◌, [], map, sym, ap, ◌∙◌}
use Rattle.std.proofs.lemmas.List.{length-append}
use Rattle.vk_types.specs.Types.{StationEvent}
use Rattle.vk_base.specs.declared.event.StationEvent.TheVariants as events
use Rattle.vk_brief.specs.Brief.{call_with}
use Rattle.vk_log.specs.declared.entry.Entry.{Entry}
use Rattle.vk_log.specs.declared.entry.Entry.TheVariants as entries
use Rattle.vk_log.specs.Logs.{EventList, event_in}
use Rattle.vk_log.proofs.Parts.{part_new, pushed, pushed_within}
use Rattle.vk_log.proofs.log.EventLog.push.Goals as goal

pub invariant_of-self : goal.invariant_of-self
invariant_of-self c =
    let long = ap length c.put-part.ensures.items in
    let more = length-append c.self.inside.bytes.items c.of-call.result.1.now in
    let start = c.put-part.ensures.from in
    let count = c.put-part.ensures.count in
    let few = c.of-call.ensures.few in
    pushed_within (length c.self.inside.bytes.items) (length c.put-part.new.into.items) c.self.inside.entries.items
    c.push_reserved.new.self.items _ c.push_reserved.ensures.items
    (omega arith) c.self.invariant (omega arith, omega arith)

pub invariant_of-self-in-Collect : goal.invariant_of-self-in-Collect
invariant_of-self-in-Collect c =
    let size : ℕ = length c.self.inside.bytes.items in
    pushed_within size size c.self.inside.entries.items c.push_reserved-in-Collect.new.self.items _
    c.push_reserved-in-Collect.ensures.items (omega arith) c.self.invariant tt

pub invariant_of-self-in-Tick : goal.invariant_of-self-in-Tick
invariant_of-self-in-Tick c =
    let size : ℕ = length c.self.inside.bytes.items in
    pushed_within size size c.self.inside.entries.items c.push_reserved-in-Tick.new.self.items _
    c.push_reserved-in-Tick.ensures.items (omega arith) c.self.invariant tt

pub invariant_of-self-in-Deliver : goal.invariant_of-self-in-Deliver
invariant_of-self-in-Deliver c =
    let part = c.put-part-in-Deliver in
    let long = ap length part.ensures.items in
    let more = length-append c.self.inside.bytes.items c.as_slice.result.now in
    let start = part.ensures.from in
    let count = part.ensures.count in
    let few = c.as_slice.ensures.fits in
    pushed_within (length c.self.inside.bytes.items) (length part.new.into.items) c.self.inside.entries.items
    c.push_reserved-in-Deliver.new.self.items _ c.push_reserved-in-Deliver.ensures.items
    (omega arith) c.self.invariant (omega arith, omega arith)

pub returns-in-Call : goal.returns-in-Call
returns-in-Call c =
    let bytes : List ℕ = c.self.inside.bytes.items in
    let more : List ℕ = c.of-call.result.1.now in
    let event : StationEvent = c.args.event.now in
    let entry : Entry = entries.Call c.in-Call.pid c.put-part.result c.of-call.result.0 in
    let new : event_in (bytes ++ more) entry ≡ event =
    ap (λ b. events.Call c.in-Call.pid (call_with b c.of-call.result.0))
    (part_new bytes more c.put-part.result c.put-part.ensures.from c.put-part.ensures.count)
    ∙ ap (events.Call c.in-Call.pid) (sym c.of-call.ensures.call)
    ∙ sym c.in-Call.is in
    ap (λ l. map (event_in l) c.push_reserved.new.self.items) c.put-part.ensures.items
    ∙ ap (map (event_in (bytes ++ more))) c.push_reserved.ensures.items
    ∙ pushed bytes more c.self.inside.entries.items entry event c.self.invariant new
    ∙ ap (λ (v : EventList). v.items ++ event ∷ []) c.self.view_is

pub returns-in-Deliver : goal.returns-in-Deliver
returns-in-Deliver c =
    let bytes : List ℕ = c.self.inside.bytes.items in
    let more : List ℕ = c.as_slice.result.now in
    let event : StationEvent = c.args.event.now in
    let part = c.put-part-in-Deliver in
    let entry : Entry = entries.Deliver part.result in
    let new : event_in (bytes ++ more) entry ≡ event =
    ap (λ b. events.Deliver b) (part_new bytes more part.result part.ensures.from part.ensures.count ∙ c.as_slice.ensures.value)
    ∙ sym c.in-Deliver.is in
    ap (λ l. map (event_in l) c.push_reserved-in-Deliver.new.self.items) part.ensures.items
    ∙ ap (map (event_in (bytes ++ more))) c.push_reserved-in-Deliver.ensures.items
    ∙ pushed bytes more c.self.inside.entries.items entry event c.self.invariant new
    ∙ ap (λ (v : EventList). v.items ++ event ∷ []) c.self.view_is

use Rattle.std.proofs.Common.{◌≡◌, ◌+◌, ◌++◌, length, refl, ap, ◌∙◌}
use Rattle.std.proofs.lemmas.Option.{IfSome_then, slice_get_within}
use Rattle.std.proofs.lemmas.Result.{on_ok_weaker}
use Rattle.vk_text.specs.Texts.{shown}
use Rattle.vk_cluster.specs.Standing.{advanced}
use Rattle.vk_cluster.proofs.Told.{station_told}
use Rattle.vk_report.specs.declared.entry.Counts.{Counts}
use Rattle.vk_report.specs.declared.entry.EventPlace.{EventPlace}
use Rattle.vk_report.specs.Histories.{told_lines}
use Rattle.vk_top.specs.Playing.{told_entry}
use Rattle.vk_top.proofs.Events.{last_advanced, missing_told, shown_first, told_advanced}
use Rattle.vk_top.proofs.replay.put_report.Goals as goal

pub station-station-requires : goal.station-station-requires
station-station-requires c =
    let advance = advanced c.args.told.host c.args.told.response.now c.args.told.place in
    let is = ap (advanced c.args.told.host c.args.told.response.now) c.in-Some.is in
    let had = c.requires.advanced.3 in
    let now = c.args.cluster.now in
    let s = station_told now advance c.in-Some.place c.args.told.response.now had.report is had.told in
    slice_get_within now.hosts c.in-Some.place s.0 s.1

pub put_told-requires-clause-last : goal.put_told-requires-clause-last
put_told-requires-clause-last c =
    let advance = advanced c.args.told.host c.args.told.response.now c.args.told.place in
    let is = ap (advanced c.args.told.host c.args.told.response.now) c.in-Some.is in
    let r = c.requires.advanced in
    last_advanced r.0 r.1 c.args.cluster.now r.2 advance r.3 c.in-Some.place c.args.told.response.now is
    c.station-station.result.now c.station-station.ensures

pub put_told-requires-clause-first : goal.put_told-requires-clause-first
put_told-requires-clause-first c =
    let advance = advanced c.args.told.host c.args.told.response.now c.args.told.place in
    let is = ap (advanced c.args.told.host c.args.told.response.now) c.in-Some.is in
    let r = c.requires.advanced in
    IfSome_then c.args.manner.line r.4
    (λ line own. shown_first r.0 r.1 c.args.cluster.now r.2 advance r.3 c.in-Some.place c.args.told.response.now is
    c.station-station.result.now c.station-station.ensures line.now own)

pub returns-in-None : goal.returns-in-None
returns-in-None c =
    let advance = advanced c.args.told.host c.args.told.response.now c.args.told.place in
    let is = ap (advanced c.args.told.host c.args.told.response.now) c.in-None.is in
    let before = c.args.counts.now in
    let after : Counts = record { events = before.events + 1; steps = before.steps; frames = before.frames } in
    on_ok_weaker c.put_missing.result
    (λ lines s es e had. missing_told s es c.args.cluster.now e advance c.args.told.host had is c.args.manner.form
    before after (shown c.args.text.now) _ lines refl) c.put_missing.ensures.ok

pub returns-in-Some : goal.returns-in-Some
returns-in-Some c =
    let advance = advanced c.args.told.host c.args.told.response.now c.args.told.place in
    let is = ap (advanced c.args.told.host c.args.told.response.now) c.in-Some.is in
    let before = c.args.counts.now in
    let steps = c.len.ensures.len ∙ ap length c.steps.ensures in
    let frames = c.from.ensures ∙ c.frame_count.ensures in
    let own : EventPlace = record { number = before.events + 1; host = c.host.result; own = c.events.result } in
    let told : EventPlace = record {
      number = before.events + 1;
      host = c.station-station.result.now.host;
      own = c.station-station.result.now.events;
    } in
    let placed : own ≡ told = λ i. record { number = before.events + 1; host = c.host.ensures i; own = c.events.ensures i } in
    on_ok_weaker c.put_told.result
    (λ lines s es e had. told_advanced s es c.args.cluster.now e advance had c.in-Some.place c.args.told.response.now
    is c.station-station.result.now c.station-station.ensures c.args.manner.form before _ (shown c.args.text.now) _
    (λ entry last. lines entry last
    ∙ (λ i. (shown c.args.text.now) ++ told_lines c.args.manner.form (told_entry (placed i) entry))) (λ i. record { events = before.events + 1; steps = before.steps + steps i; frames = before.frames + frames i }))
    c.put_told.ensures

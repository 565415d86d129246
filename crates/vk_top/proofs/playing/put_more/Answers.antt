use Rattle.std.proofs.Common.{Err, [], ◌++◌, length, take, refl, sym, ap, ◌∙◌, arith}
use Rattle.vk_schedule.specs.declared.schedule.Front.{Front}
use Rattle.vk_text.specs.Texts.{shown}
use Rattle.vk_top.proofs.Played.{all_had, few_now, few_with, is_cut_here, one_more, stand_actors, under_way}
use Rattle.vk_top.specs.declared.playing.Way.TheVariants as ways
use Rattle.vk_top.specs.Playing.{without_events}
use Rattle.vk_top.proofs.playing.put_more.Goals as goal

pub loop-line-init : goal.loop-line-init
loop-line-init c = record {
  way = λ es later goes fits. under_way c.args.form c.args.reader.now es later fits c.args.played.now goes;
  count = refl;
  ending = refl;
}

pub put_event-requires-clause-few : goal.put_event-requires-clause-few
put_event-requires-clause-few c =
    let r = c.args.reader.now in
    let es = c.requires.way.0 in
    let fits = few_with c.args.form ways.On r es c.args.played.now c.requires.way.1 c.requires.few in
    few_now c.args.form r es [] fits c.loop-line.reader c.loop-line.played.cluster c.loop-line.played.counts (shown c.loop-line.played.text)
    (c.loop-line.invariant.way es [] c.requires.way.1.goes fits) c.next_with_line.new.self c.next_with_line.new.event c.in-Some.ensures.next

pub put_event-requires-clause-somewhere : goal.put_event-requires-clause-somewhere
put_event-requires-clause-somewhere c =
    let r = c.args.reader.now in
    let es = c.requires.way.0 in
    let fits = few_with c.args.form ways.On r es c.args.played.now c.requires.way.1 c.requires.few in (
      r.schedule.config,
      take c.loop-line.played.counts.events ((es ++ r.schedule.events) ++ []),
      (c.loop-line.invariant.way es [] c.requires.way.1.goes fits).played.stands,
    )

pub put_event-requires-clause-actors : goal.put_event-requires-clause-actors
put_event-requires-clause-actors c =
    let r = c.args.reader.now in
    let es = c.requires.way.0 in
    let fits = few_with c.args.form ways.On r es c.args.played.now c.requires.way.1 c.requires.few in
    stand_actors c.args.form r es [] fits c.loop-line.reader c.loop-line.played.cluster c.loop-line.played.counts (shown c.loop-line.played.text)
    (c.loop-line.invariant.way es [] c.requires.way.1.goes fits) c.next_with_line.new.self c.next_with_line.new.event c.in-Some.ensures.next
    c.in-Some.ensures.lawful.1

pub loop-line-preserved : goal.loop-line-preserved
loop-line-preserved c =
    let r = c.args.reader.now in
    record {
      way = λ es later goes fits.
          let way = c.loop-line.invariant.way es later goes fits in
          one_more c.args.form r es later fits c.loop-line.reader c.loop-line.played.cluster c.loop-line.played.counts
          (shown c.loop-line.played.text) way c.next_with_line.new.self c.next_with_line.new.event c.in-Some.ensures.next
          c.put_event.new.cluster c.put_event.new.counts (shown c.put_event.new.text) c.in-Ok.ensures.room
          (c.in-Ok.ensures.had r.schedule.config (take c.loop-line.played.counts.events ((es ++ r.schedule.events) ++ later)) way.played.stands);
      count = omega (arith, c.loop-line.invariant.count, ap (λ (f : Front). length f.schedule.events) c.in-Some.ensures.next);
      ending = ap without_events (sym c.in-Some.ensures.next) ∙ c.loop-line.invariant.ending;
    }

pub returns-in-Err-Limit-clause-way : goal.returns-in-Err-Limit-clause-way
returns-in-Err-Limit-clause-way c es goes later fits =
    let r = c.args.reader.now in
    let refused = c.in-Err-Limit.ensures.refused (ap Err c.in-Err-Limit.field-0-is) in
    let way = c.loop-line.invariant.way es later goes fits in
    let cut = is_cut_here c.args.form r es later fits c.loop-line.reader c.loop-line.played.cluster c.loop-line.played.counts
    (shown c.loop-line.played.text) way c.next_with_line.new.self c.next_with_line.new.event c.in-Some.ensures.next refused.0 in
    (cut.0, ap shown refused.1 ∙ cut.1)

pub returns-clause-way : goal.returns-clause-way
returns-clause-way c es goes later fits =
    all_had c.args.form c.args.reader.now es later fits c.loop-line.reader c.loop-line.played.cluster c.loop-line.played.counts
    (shown c.loop-line.played.text) (c.loop-line.invariant.way es later goes fits) c.in_default.ensures.next.0

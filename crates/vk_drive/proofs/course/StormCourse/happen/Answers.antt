use Rattle.std.proofs.Common.{sym, arith, ◌∙◌}
use Rattle.std.proofs.lemmas.Bool.{ltb-false}
use Rattle.std.proofs.lemmas.Option.{slice_get_within}
use Rattle.vk_cluster.specs.declared.emitted.TheConstants.{LAST_BYTES}
use Rattle.vk_rules.specs.Histories.{history_of}
use Rattle.vk_rules.proofs.OneHistory.{histories_have_all}
use Rattle.vk_drive.specs.Tasks.{settings}
use Rattle.vk_drive.proofs.Behind.{low}
use Rattle.vk_drive.proofs.Counted.{counted, few_bytes, few_frames, many_bytes}
use Rattle.vk_drive.proofs.course.StormCourse.happen.Goals as goal

pub play-place-requires-clause-may : goal.play-place-requires-clause-may
play-place-requires-clause-may c = (c.requires.0, c.requires.2)

pub play-place-requires-clause-low : goal.play-place-requires-clause-low
play-place-requires-clause-low c =
    ltb-false LAST_BYTES c.args.self.now.stations.recent.size (sym c.is_full.ensures ∙ c.if-is_full.false)

pub station-requires : goal.station-requires
station-requires c =
    let played = c.play-place.ensures c.requires.0 c.requires.2 in
    slice_get_within c.play-place.new.self.hosts.items c.play-place.result played.station played.found

pub count-requires-clause-frames : goal.count-requires-clause-frames
count-requires-clause-frames c =
    let few = c.requires.2.few in few_frames c.requires.0 c.args.self.now c.requires.1 (omega (arith, few))

pub count-requires-clause-low : goal.count-requires-clause-low
count-requires-clause-low c =
    let es = c.requires.0 in
    let all = histories_have_all settings es in
    let few = c.requires.2.few in
    low (history_of settings es) c.args.self.now.counts c.requires.1.counts_are (omega (arith, all, few))

pub returns-then-is_full-clause-limit : goal.returns-then-is_full-clause-limit
returns-then-is_full-clause-limit c es is =
    many_bytes es c.args.self.now.stations is.stations (sym c.is_full.ensures ∙ c.if-is_full.true)

pub returns-clause-happened : goal.returns-clause-happened
returns-clause-happened c es is may =
    let played = c.play-place.ensures es may in
    let station = c.station.result.now in
    record {
      course = record {
        stations = played.stations;
        counts_are =
            counted es c.play-place.new.self c.args.next.now c.play-place.new.response c.play-place.result played station c.station.ensures
            c.args.self.now.counts c.count.new.self c.frame_count-frames.result c.frame_count-frames.ensures is.counts_are
            (c.count.ensures station.doing.tables.seats);
      };
      played = played;
      below = few_bytes es c.args.self.now.stations is.stations (sym c.is_full.ensures ∙ c.if-is_full.false);
    }

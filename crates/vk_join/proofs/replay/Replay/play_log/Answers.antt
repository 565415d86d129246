use Rattle.std.proofs.Common.{length, take, sym, ap, ◌∙◌, arith}
use Rattle.std.specs.Prelude.{slice_get}
use Rattle.vk_join.proofs.Fronts.{all_below_at}
use Rattle.vk_join.proofs.Playing.{played_start, played_whole}
use Rattle.vk_join.proofs.Takes.{found_from}
use Rattle.vk_join.proofs.replay.Replay.play_log.Goals as goal

pub loop-at-init : goal.loop-at-init
loop-at-init c =
    let logs = c.args.logs.now in
    let found = found_from logs c.args.log c.index-logs-log.result c.requires.log c.index-logs-log.is in
    played_start c.args.config.now logs (take c.args.log logs) c.index-logs-log.result c.args.self.now
    (all_below_at logs c.args.log c.index-logs-log.result c.requires.given.asked.rise found) c.requires.played

pub play-requires : goal.play-requires
play-requires c =
    let logs = c.args.logs.now in
    let events = c.as_slice-events.result.now in
    record {
      given = c.requires.given;
      few = c.requires.few;
      found = found_from logs c.args.log c.index-logs-log.result c.requires.log c.index-logs-log.is;
      there =
          ap (λ es. slice_get es c.loop-at.at) (sym c.as_slice-events.ensures)
          ∙ found_from events c.loop-at.at c.index-events-at.result (omega arith) c.index-events-at.is;
      station = c.place_of-place.ensures;
      played = c.loop-at.invariant;
    }

pub returns-clause-played : goal.returns-clause-played
returns-clause-played c =
    let logs = c.args.logs.now in
    let found = found_from logs c.args.log c.index-logs-log.result c.requires.log c.index-logs-log.is in
    let same = ap length c.as_slice-events.ensures in
    played_whole c.args.config.now logs c.args.log c.loop-at.at c.index-logs-log.result c.loop-at.self found (omega arith) c.loop-at.invariant

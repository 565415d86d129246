use Rattle.std.proofs.Common.{◌+◌, sym, subst, arith}
use Rattle.vk_log.specs.Logs.{event_of as event_seen}
use Rattle.vk_join.proofs.Keyed.{AreCounted, counted_next, counted_start, counted_whole}
use Rattle.vk_join.proofs.Takes.{found_from}
use Rattle.vk_join.proofs.number.push_keys.Goals as goal

pub loop-at-init : goal.loop-at-init
loop-at-init c = counted_start c.args.logs.now c.args.log c.index-logs-log.result c.args.keys.now.items c.requires.before

pub loop-at-preserved : goal.loop-at-preserved
loop-at-preserved c =
    let logs = c.args.logs.now in
    let log = c.args.log in
    let entry = c.index-logs-log.result in
    let at = c.loop-at.at in
    let found = found_from logs log entry c.requires.log c.index-logs-log.is in
    let counted = counted_next logs log entry at c.loop-at.number c.loop-at.keys.items (event_seen c.get.result) found c.get.ensures.event
    c.loop-at.invariant c.number_behind-number.result c.number_behind-number.ensures in
    subst (AreCounted logs log entry (at + 1) c.number_behind-number.result) (sym c.in_ok-push_key.ensures) counted

pub returns : goal.returns
returns c =
    counted_whole c.args.logs.now c.args.log c.index-logs-log.result c.loop-at.at c.loop-at.number c.loop-at.keys.items
    (found_from c.args.logs.now c.args.log c.index-logs-log.result c.requires.log c.index-logs-log.is) (omega arith) c.loop-at.invariant

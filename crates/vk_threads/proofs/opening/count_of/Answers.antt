use Rattle.std.proofs.Common.{arith, eq-eqb, get_or, false, true}
use Rattle.std.proofs.lemmas.Bool.{ne_eqb}
use Rattle.vk_threads.proofs.Dealing.{count_more}
use Rattle.vk_threads.proofs.opening.count_of.Goals as goal
use Rattle.vk_threads.proofs.opening.count_of.Goals.{then-h-host, else-h-host}

pub overflow_add-count : goal.overflow_add-count
overflow_add-count c = let few = c.loop-h.invariant.few in let low = c.loop-h-test.true in let all = c.requires in omega arith

pub loop-h-preserved : goal.loop-h-preserved
loop-h-preserved c =
    let hosts = c.args.hosts.now in
    let i = c.loop-h.h-index in
    let low = c.loop-h-test.true in
    let few = c.loop-h.invariant.few in
    elim c.if-h-host.branch [
      | then-h-host w ↦ record {
        count = count_more hosts i c.args.host c.loop-h.count c.if-h-host.count true low c.loop-h.invariant.count
            (eq-eqb (get_or hosts i 0) c.args.host w.if-h-host.true) w.count-is;
        few = let is = w.count-is in omega arith;
      }
      | else-h-host w ↦ record {
        count = let is = w.count-is in count_more hosts i c.args.host c.loop-h.count c.if-h-host.count false low c.loop-h.invariant.count
            (ne_eqb (get_or hosts i 0) c.args.host w.if-h-host.false) (omega arith);
        few = let is = w.count-is in omega arith;
      }
    ]

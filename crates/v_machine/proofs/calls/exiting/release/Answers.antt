use Rattle.std.proofs.Common.{◌<◌, [], get_or, length, length-set, sym, ap, ◌∙◌, arith, unwrap_or}
use Rattle.std.proofs.lemmas.Option.{slice_get-get_or}
use Rattle.v_machine.specs.Leaving.{Leaves, left}
use Rattle.v_machine.specs.Tables.{process_of}
use Rattle.v_machine.proofs.Each.{each_next, each_all}
use Rattle.v_machine.proofs.calls.exiting.release.Goals as goal

pub loop-at-preserved : goal.loop-at-preserved
loop-at-preserved c =
    let at = c.loop-at.at in
    let low : at < length c.loop-at.procs = omega arith in
    let there : at < length c.args.sends.now = omega arith in
    let pid = c.unwrap_or-pid.ensures ∙ ap (λ o. unwrap_or o c.args.gone) c.pid.ensures in
    let sends = ap (λ o. unwrap_or o []) (slice_get-get_or c.args.sends.now at c.index-sends-at.result there) ∙ sym c.index-sends-at.is in
    record {
      each = each_next (Leaves c.args.gone c.args.places.now c.args.sends.now) c.args.procs.now c.loop-at.procs at c.index-procs-at.result
          c.leave.new.proc c.loop-at.invariant.each low
          (λ s l. c.leave.ensures s l
          ∙ (λ i. left c.args.gone (pid i) (sym sends i) (process_of (get_or c.loop-at.procs at c.index-procs-at.result) s l)));
      count = length-set c.loop-at.procs at c.leave.new.proc ∙ c.loop-at.invariant.count;
    }

pub returns-clause-each : goal.returns-clause-each
returns-clause-each c = each_all (Leaves c.args.gone c.args.places.now c.args.sends.now) c.args.procs.now c.loop-at.procs c.loop-at.at
    (omega arith) c.loop-at.invariant.each

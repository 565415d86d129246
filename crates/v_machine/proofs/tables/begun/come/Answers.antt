use Rattle.std.proofs.Common.{◌≡◌, length, ap, ◌∙◌, arith, option_map}
use Rattle.vk_base.specs.declared.kernel.Stage.TheVariants as stages
use Rattle.v_machine.specs.Places.{numbered}
use Rattle.v_machine.specs.Sends.{at_stage, dropped_to, dropped_between}
use Rattle.v_machine.proofs.Behind.{posted_stays}
use Rattle.v_machine.proofs.Coming.{dropped_more, come_is}
use Rattle.v_machine.proofs.TableLemmas.{length-change}
use Rattle.v_machine.proofs.tables.begun.come.Goals as goal

pub loop-earlier-preserved : goal.loop-earlier-preserved
loop-earlier-preserved c = record {
  value = dropped_more c.args.latest c.loop-earlier.earlier c.args.host c.args.sends.now c.loop-earlier.sends c.drop_to.new.sends
      (omega arith) c.drop_to.ensures c.loop-earlier.invariant.value;
  count = ap length c.drop_to.ensures ∙ length-change (dropped_to c.args.host) c.loop-earlier.earlier c.loop-earlier.sends
      ∙ c.loop-earlier.invariant.count;
}

pub returns-clause-value : goal.returns-clause-value
returns-clause-value c =
    let last : c.loop-earlier.earlier ≡ c.args.number = omega arith in
    come_is c.args.latest c.args.number c.args.host c.args.sends.now c.loop-earlier.sends c.queue.new.sends c.queue.ensures
    (λ n. c.loop-earlier.invariant.value n
    ∙ ap (λ high. option_map (dropped_between c.args.latest high c.args.host n) (numbered c.args.sends.now n)) last)

pub returns-clause-count : goal.returns-clause-count
returns-clause-count c = ap length c.queue.ensures ∙ length-change (at_stage stages.Queued) c.args.number c.loop-earlier.sends
    ∙ c.loop-earlier.invariant.count

pub queue-requires : goal.queue-requires
queue-requires c =
    let last : c.loop-earlier.earlier ≡ c.args.number = omega arith in
    posted_stays c.args.latest c.loop-earlier.earlier c.args.number c.args.host c.args.sends.now c.loop-earlier.sends
    (c.loop-earlier.invariant.value c.args.number) last c.requires.live

use Rattle.std.proofs.Common.{◌<◌, [], get_or, length, length-set, sym, ap, ◌∙◌, arith, unwrap_or}
use Rattle.std.proofs.lemmas.Option.{slice_get-get_or}
use Rattle.vk_base.specs.Calls.{dropped_at}
use Rattle.v_machine.specs.Latest.{latest_in}
use Rattle.v_machine.specs.Leaving.{Drops}
use Rattle.v_machine.specs.Lists.{change_numbered}
use Rattle.v_machine.proofs.Each.{each_next, each_all}
use Rattle.v_machine.proofs.calls.exiting.drop_at_target.Goals as goal

pub loop-at-preserved : goal.loop-at-preserved
loop-at-preserved c =
    let at = c.loop-at.at in
    let low : at < length c.loop-at.sends = omega arith in
    let there : at < length c.args.latest.now = omega arith in
    let number = c.get-number.ensures ∙ ap (λ ls. latest_in ls c.args.gone.host)
    (c.index-latest-at.is ∙ sym (ap (λ o. unwrap_or o []) (slice_get-get_or c.args.latest.now at c.index-latest-at.result there))) in
    record {
      each = each_next (Drops c.args.gone c.args.latest.now) c.args.sends.now c.loop-at.sends at c.index-sends-at.result c.drop_at.new.sends
          c.loop-at.invariant.each low
          (c.drop_at.ensures
          ∙ ap (λ n. change_numbered n (dropped_at c.args.gone) (get_or c.loop-at.sends at c.index-sends-at.result)) number);
      count = length-set c.loop-at.sends at c.drop_at.new.sends ∙ c.loop-at.invariant.count;
    }

pub returns-clause-each : goal.returns-clause-each
returns-clause-each c =
    each_all (Drops c.args.gone c.args.latest.now) c.args.sends.now c.loop-at.sends c.loop-at.at (omega arith) c.loop-at.invariant.each

use Rattle.std.proofs.Common.{refl}
use Rattle.v_machine.proofs.LatestLemmas.{latest-put}
use Rattle.v_machine.proofs.tables.latest.put_number.Goals as goal

pub returns-then-at-items : goal.returns-then-at-items
returns-then-at-items c = λ host h place. latest-put c.args.items.now c.args.at _ _ host h place refl

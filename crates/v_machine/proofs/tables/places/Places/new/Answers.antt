use Rattle.std.proofs.Common.{◌≡◌, ◌++◌, ◌∷◌, [], length, sym, subst, arith}
use Rattle.std.proofs.lemmas.Grind.{common_steps}
use Rattle.v_machine.specs.Places.{AreGrouped}
use Rattle.v_machine.proofs.Grouping.{count_none, grouped_none}
use Rattle.v_machine.proofs.tables.places.Places.new.Goals as goal

pub loop-spec-init : goal.loop-spec-init
loop-spec-init c =
    let groups = c.in_ok-groups.groups.items in
    record {
      pids = c.new-pids.ensures.items;
      count = count_none groups 1024 c.in_ok-groups.ensures;
      grouped = subst (λ pids. AreGrouped pids groups) (sym c.new-pids.ensures.items)
          (subst (AreGrouped []) (sym c.in_ok-groups.ensures) (grouped_none 1024));
    }

pub loop-spec-preserved : goal.loop-spec-preserved
loop-spec-preserved c =
    let count : length c.loop-spec.pids.items ≡ c.len.result = let there = c.len.ensures in omega (arith, c.loop-spec.pids.ok.0, there) in
    let pushed : c.push.new.self.items ≡ c.loop-spec.pids.items ++ c.spec-item.result.pid ∷ [] = grind (arith, common_steps) in
    record {
      pids = grind (arith, common_steps);
      count = c.add.ensures.count;
      grouped = subst (λ pids. AreGrouped pids c.add.new.groups.items) (sym pushed)
          (c.in_ok-add.ensures.grouped c.loop-spec.pids.items count c.loop-spec.invariant.grouped);
    }

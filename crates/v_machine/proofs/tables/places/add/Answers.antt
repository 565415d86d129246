use Rattle.std.proofs.Common.{◌≡◌, ◌<◌, ◌++◌, ◌∷◌, [], List, length, set, arith}
use Rattle.std.proofs.lemmas.Result.{on_ok_weaker}
use Rattle.vk_types.specs.Types.{Pid}
use Rattle.v_machine.specs.Places.{AreGrouped}
use Rattle.v_machine.proofs.Grouping.{grouped_put}
use Rattle.v_machine.proofs.tables.places.add.Goals as goal

pub returns-clause-grouped : goal.returns-clause-grouped
returns-clause-grouped c =
    let groups = c.args.groups.now.items in
    let place = c.group_of.result in
    let group = c.index_mut.result.now in
    let more = c.push.new.self in
    let low : place < length groups = let small = c.group_of.ensures.low in let count = c.requires in omega (arith, small, count) in
    let put : more ≡ group ++ record { pid = c.args.pid; at = c.args.at } ∷ [] → (pids : List Pid) → length pids ≡ c.args.at →
    AreGrouped pids groups → AreGrouped (pids ++ c.args.pid ∷ []) (set groups place more) =
    λ pushed pids count grouped. grouped_put pids groups c.args.pid group more place c.args.at c.group_of.ensures.value count pushed
    c.index_mut.ensures.value low grouped in
    on_ok_weaker c.push.result put c.push.ensures

use Rattle.std.proofs.Common.{◌<◌, [], length, sym, ap, ◌∙◌, arith, Some, unwrap_or}
use Rattle.std.proofs.lemmas.Option.{slice_get-get_or}
use Rattle.std.specs.List.{slice_get}
use Rattle.v_machine.specs.Places.{place_in, found_in}
use Rattle.v_machine.proofs.tables.places.Places.find.Goals as goal

pub returns : goal.returns
returns c =
    let groups = c.self.inside.groups.items in
    let low : c.group_of.result < length groups = let small = c.group_of.ensures.low in let count = c.self.invariant.0 in
    omega (arith, small, count) in
    let group = ap (slice_get groups) (sym c.group_of.ensures.value) ∙ slice_get-get_or groups c.group_of.result c.index.result.now low
    ∙ ap Some (sym c.index.ensures) in
    c.find.ensures ∙ sym (ap (λ o. found_in (unwrap_or o []) c.args.pid) group) ∙ c.self.invariant.1 c.args.pid
    ∙ ap (λ pids. place_in pids c.args.pid) c.self.view_is

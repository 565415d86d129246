use Rattle.std.proofs.Common.{◌≡◌, ◌++◌, ◌≤◌, ◌*◌, drop}
use Rattle.vk_picture.specs.Places.{columns_of}
use Rattle.vk_picture.proofs.columns.columns_of.Given as goal

abbrev pub invariant-loop-spec : goal.invariant-loop-spec
invariant-loop-spec l = record {
  few : l.place ≤ 2 * l.spec-index;
  columns : l.columns ++ columns_of l.last l.place (drop l.spec-index l.specs) ≡ columns_of 0 0 l.specs;
}

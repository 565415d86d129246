-- The codes of replies.
use Rattle.std.specs.Prelude.{ℕ}
use Rattle.vk_group.specs.declared.code.Code.{Code}
use Rattle.vk_group.specs.declared.code.Code.TheVariants as codes

-- byte 1 of a reply
abbrev pub number_of : Code → ℕ
number_of codes.Done = 0
number_of codes.End = 1
number_of codes.Bad = 2
number_of codes.Busy = 5
number_of codes.Nobody = 8
number_of codes.NoMore = 9

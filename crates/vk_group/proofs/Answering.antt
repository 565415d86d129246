-- A group after one answer more.
use Rattle.std.proofs.Common.{◌≡◌, List, [], ◌∷◌, ◌++◌, refl}
use Rattle.vk_types.specs.Types.{Answer}
use Rattle.vk_group.specs.declared.group.Group.{Group}
use Rattle.vk_group.specs.Groups.{answered, answered_all}

pub one_answer_more : (g : Group) (given : List Answer) (a : Answer) → answered_all g (given ++ a ∷ []) ≡ answered (answered_all g given) a
one_answer_more g [] a = refl
one_answer_more g (b ∷ rest) a = one_answer_more (answered g b) rest a

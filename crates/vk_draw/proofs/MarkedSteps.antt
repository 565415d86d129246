-- What is drawn of steps.
use Rattle.std.proofs.Common.{◌≡◌, ℕ, ◌+◌, List, [], ◌∷◌, ◌++◌, Some, map, take, slice_get, ap, ◌∙◌}
use Rattle.std.proofs.lemmas.List.{map-append, take_more}
use Rattle.std.proofs.lemmas.Option.{slice_get_within, get_or_from_slice_get}
use Rattle.vk_types.specs.Types.{Step}
use Rattle.vk_draw.specs.Rows.{step_mark}

-- the marks of one step more
pub one_more_marked : (s : Step) (steps : List Step) (at : ℕ) → slice_get steps at ≡ Some s
    → map step_mark (take (at + 1) steps) ≡ map step_mark (take at steps) ++ step_mark s ∷ []
one_more_marked s steps at is =
    ap (map step_mark)
    (take_more steps at s (slice_get_within steps at s is) ∙ ap (λ (t : Step). take at steps ++ t ∷ []) (get_or_from_slice_get steps at s s is))
    ∙ map-append step_mark (take at steps) (s ∷ [])

-- A list of vectors, of which one is changed.
use Rattle.std.proofs.Common.{◌≡◌, ℕ, ◌+◌, ◌<◌, List, [], ◌∷◌, ◌++◌, length, map, get_or, set, replicate, sym, ap, ◌∙◌}
use Rattle.std.specs.Global.{Vec}
use Rattle.std.proofs.Math.Seq.{map-set_same}
use Rattle.std.proofs.lemmas.List.{get_or-map, map-set, map_push, replicate_more}
use Rattle.vk_cluster.specs.declared.emitted.Span.{Span}
use Rattle.vk_cluster.specs.Piles.{event_added, items_of}

-- one more that is empty
pub more_none : (vs : List (Vec Span)) (n : ℕ) (v : Vec Span) → map items_of vs ≡ replicate n [] → v.items ≡ [] →
    map items_of (vs ++ v ∷ []) ≡ replicate (n + 1) []
more_none vs n v before none =
    map_push items_of vs v ∙ ap (λ l. l ++ v.items ∷ []) before ∙ ap (λ x. replicate n [] ++ x ∷ []) none ∙ replicate_more n []

-- one that has more room
pub same_items : (vs : List (Vec Span)) (i : ℕ) (old new : Vec Span) → old ≡ get_or vs i old → new.items ≡ old.items →
    map items_of (set vs i new) ≡ map items_of vs
same_items vs i old new is same = map-set_same items_of vs i new old (same ∙ ap items_of is)

-- one that has an element more
pub pushed_items : (vs : List (Vec Span)) (i : ℕ) (old new : Vec Span) (one : Span) → old ≡ get_or vs i old → i < length vs →
    new.items ≡ old.items ++ one ∷ [] → map items_of (set vs i new) ≡ event_added (map items_of vs) i one
pushed_items vs i old new one is low more =
    map-set items_of vs i new
    ∙ ap (set (map items_of vs) i)
    (more ∙ ap (λ l. l ++ one ∷ []) (ap items_of is ∙ sym (get_or-map items_of vs i old [] low)))

-- What is drawn of frames, one after another.
use Rattle.std.proofs.Common.{◌≡◌, ℕ, ◌+◌, List, [], ◌∷◌, ◌++◌, drop, Some, sym, ap, ◌∙◌, append_assoc}
use Rattle.std.specs.Prelude.{slice_get}
use Rattle.std.proofs.lemmas.List.{drop_more}
use Rattle.std.proofs.lemmas.Option.{get_or_from_slice_get, slice_get_within}
use Rattle.vk_picture.specs.declared.picture.FrameMark.{FrameMark}

-- one frame more
pub marks_more : (all : List FrameMark) (at : ℕ) (marks more whole : List FrameMark) (mark : FrameMark) → slice_get all at ≡ Some mark →
    more ≡ marks ++ mark ∷ [] → marks ++ drop at all ≡ whole → more ++ drop (at + 1) all ≡ whole
marks_more all at marks more whole mark found added so_far =
    ap (λ l. l ++ drop (at + 1) all) added
    ∙ append_assoc marks (mark ∷ []) (drop (at + 1) all)
    ∙ ap (λ l. marks ++ l)
    (ap (λ m. m ∷ drop (at + 1) all) (sym (get_or_from_slice_get all at mark mark found))
    ∙ sym (drop_more all at mark (slice_get_within all at mark found)))
    ∙ so_far

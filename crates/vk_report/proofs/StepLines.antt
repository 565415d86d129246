-- The lines of steps, one after another.
use Rattle.std.proofs.Common.{◌≡◌, ℕ, ◌+◌, List, ◌∷◌, ◌++◌, Some, drop, slice_get, ap, sym, ◌∙◌, append_assoc}
use Rattle.std.proofs.lemmas.List.{drop_more}
use Rattle.std.proofs.lemmas.Option.{slice_get_within, get_or_from_slice_get}
use Rattle.vk_types.specs.Types.{Step}
use Rattle.vk_report.specs.Report.{step_line, step_lines}

-- the text behind one line more, and the lines that are left
pub behind_line : (whole word text now : List ℕ) (s : Step) (steps : List Step) (at : ℕ) → text ++ step_lines word (drop at steps) ≡ whole
    → slice_get steps at ≡ Some s → now ≡ text ++ step_line word s → now ++ step_lines word (drop (at + 1) steps) ≡ whole
behind_line whole word text now s steps at so is line =
    let rest = step_lines word (drop (at + 1) steps) in
    ap (λ (l : List ℕ). l ++ rest) line ∙ append_assoc text (step_line word s) rest
    ∙ ap (λ l. text ++ step_lines word l)
    (ap (λ x. x ∷ drop (at + 1) steps) (sym (get_or_from_slice_get steps at s s is))
    ∙ sym (drop_more steps at s (slice_get_within steps at s is)))
    ∙ so

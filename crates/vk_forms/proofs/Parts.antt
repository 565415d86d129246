-- The four parts of the forms of a text.
use Rattle.std.proofs.Common.{◌≡◌, ℕ, List, ap, ◌∙◌}
use Rattle.vk_forms.specs.Forms.{Form, behind}

-- what is written in the table are the rows behind their front
pub of_front : {A : Type 0} (f : List Form → A) (front was : List ℕ) (rows rows_were : List (List ℕ)) (a : A) → a ≡ f (behind front rows)
    → front ≡ was → rows ≡ rows_were → a ≡ f (behind was rows_were)
of_front f front was rows rows_were a e g h = e ∙ (ap (λ x. f (behind x rows)) g ∙ ap (λ x. f (behind was x)) h)

pub same_front : (front was : List ℕ) (rows rows_were : List (List ℕ)) → front ≡ was → rows ≡ rows_were → behind front rows ≡ behind was rows_were
same_front front was rows rows_were g h = ap (λ x. behind x rows) g ∙ ap (λ x. behind was x) h

-- What could stand there is told form by form.
use Rattle.std.proofs.Common.{◌≡◌, ℕ, ◌+◌, ◌≤◌, ◌==◌, Bool, true, false, inl, inr, List, [], ◌∷◌, ◌++◌, length, bytes_eq, codes, refl, sym, ap, ◌∙◌, arith, append_assoc, if◌then◌else◌}
use Rattle.std.proofs.lemmas.Bool.{cases_Bool, eqb-true}
use Rattle.std.proofs.lemmas.List.{append-nil}
use Rattle.vk_types.specs.Types.{ProcessSpec}
use Rattle.vk_text.specs.Lines.{words_from}
use Rattle.vk_forms.specs.Faults.{IsTold, kind_text, slot_text, told_text, whole_fault, word_fault}
use Rattle.vk_forms.specs.Follow.{follows, goes_on, stop, stop_at, unread}
use Rattle.vk_forms.specs.Forms.{Form, behind, forms_of}
use Rattle.vk_forms.specs.declared.table.TextKind.{TextKind}
use Rattle.vk_forms.specs.Slots.{kind_of}
use Rattle.vk_forms.proofs.Farthest.{goes_on_append}
use Rattle.vk_forms.proofs.Following.{some_byte}

pub end_text : (specs : List ProcessSpec) (slot : List ℕ) → (length slot == 0) ≡ true → slot_text specs slot ≡ codes "the end of the line"
unfolding slot_text
end_text specs [] h = refl
end_text specs (b ∷ bs) h = absurd (some_byte b bs h)

pub named_text : (specs : List ProcessSpec) (slot : List ℕ) → (length slot == 0) ≡ false → slot_text specs slot ≡ kind_text specs (kind_of slot) slot
unfolding slot_text
named_text specs [] h = cc
named_text specs (b ∷ bs) h = refl

pub first_told : (specs : List ProcessSpec) (some : Bool) (last s : List ℕ) (more : List (List ℕ)) (old new : List ℕ) → some ≡ false
    → new ≡ old ++ slot_text specs s → new ++ told_text specs true s more ≡ old ++ told_text specs some last (s ∷ more)
unfolding told_text
first_told specs some last s more old new n e = rw (n, e) (append_assoc old (slot_text specs s) (told_text specs true s more))

pub again_told : (specs : List ProcessSpec) (some : Bool) (last s : List ℕ) (more : List (List ℕ)) (old : List ℕ) → some ≡ true → bytes_eq last s ≡ true
    → old ++ told_text specs some last more ≡ old ++ told_text specs some last (s ∷ more)
unfolding told_text
again_told specs some last s more old t e = rw (t, e) refl

pub next_told : (specs : List ProcessSpec) (some : Bool) (last s : List ℕ) (more : List (List ℕ)) (old new : List ℕ) → some ≡ true
    → bytes_eq last s ≡ false → new ≡ old ++ (codes " | " ++ slot_text specs s)
    → new ++ told_text specs true s more ≡ old ++ told_text specs some last (s ∷ more)
unfolding told_text
next_told specs some last s more old new t e n = rw (t, e, n) (simp append_assoc)

-- a form that reads as far is told, and another is not
pub told_on : (specs : List ProcessSpec) (ws : List (List ℕ)) (left : ℕ) (front : List ℕ) (rows : List (List ℕ)) (row : List ℕ)
    (more : List (List ℕ)) (slot : List ℕ) (hs : List (List ℕ))
    → rows ≡ row ∷ more → slot ≡ (stop specs (words_from front 0) ws).slot → hs ≡ (stop specs (words_from front 0) ws).left
    → (length (stop_at specs row slot hs).left == left) ≡ true
    → goes_on specs ws left (behind front rows) ≡ (stop_at specs row slot hs).slot ∷ goes_on specs ws left (behind front more)
unfolding goes_on
told_on specs ws left front rows row more slot hs e s l t = rw (e, ← s, ← l, t) refl

pub told_past : (specs : List ProcessSpec) (ws : List (List ℕ)) (left : ℕ) (front : List ℕ) (rows : List (List ℕ)) (row : List ℕ)
    (more : List (List ℕ)) (slot : List ℕ) (hs : List (List ℕ))
    → rows ≡ row ∷ more → slot ≡ (stop specs (words_from front 0) ws).slot → hs ≡ (stop specs (words_from front 0) ws).left
    → (length (stop_at specs row slot hs).left == left) ≡ false
    → goes_on specs ws left (behind front rows) ≡ goes_on specs ws left (behind front more)
unfolding goes_on
told_past specs ws left front rows row more slot hs e s l t = rw (e, ← s, ← l, t) refl

-- as many words were read exactly where as many are left
pub as_far : (a b n v w : ℕ) → a + v ≡ n → b + w ≡ n → a ≡ b → (v == w) ≡ true
as_far a b n v w h k e = grind arith

pub not_as_far : (a b n v w : ℕ) → a + v ≡ n → b + w ≡ n → (a == b) ≡ false → (v == w) ≡ false
not_as_far a b n v w h k e = grind arith

-- one row more
pub row_told : (specs : List ProcessSpec) (ws : List (List ℕ)) (left : ℕ) (front : List ℕ) (rows : List (List ℕ)) (row : List ℕ)
    (rest : List (List ℕ)) (slot : List ℕ) (hs : List (List ℕ)) (now : List ℕ) (vs : List (List ℕ)) (a b n : ℕ) (more : List (List ℕ))
    → rows ≡ row ∷ rest → slot ≡ (stop specs (words_from front 0) ws).slot → hs ≡ (stop specs (words_from front 0) ws).left
    → now ≡ (stop_at specs row slot hs).slot → vs ≡ (stop_at specs row slot hs).left → a + length vs ≡ n → b + left ≡ n
    → (if a == b then now ∷ (goes_on specs ws left (behind front rest) ++ more) else goes_on specs ws left (behind front rest) ++ more)
    ≡ goes_on specs ws left (behind front rows) ++ more
row_told specs ws left front rows row rest slot hs now vs a b n more e s l o v h k = elim (cases_Bool (a == b)) [
  | inl same ↦
      let far = ap (λ x. length x == left) (sym v) ∙ as_far a b n (length vs) left h k (eqb-true a b same) in
      rw same (sym (ap (λ x. x ++ more) (told_on specs ws left front rows row rest slot hs e s l far)
      ∙ ap (λ (x : List ℕ). x ∷ (goes_on specs ws left (behind front rest) ++ more)) (sym o)))
  | inr other ↦
      let near = ap (λ x. length x == left) (sym v) ∙ not_as_far a b n (length vs) left h k other in
      rw other (sym (ap (λ x. x ++ more) (told_past specs ws left front rows row rest slot hs e s l near)))
]

pub no_row_told : (specs : List ProcessSpec) (ws : List (List ℕ)) (left : ℕ) (front : List ℕ) (rows more : List (List ℕ)) → rows ≡ []
    → goes_on specs ws left (behind front rows) ++ more ≡ more
unfolding goes_on
no_row_told specs ws left front rows more e = rw e refl

pub told_parts : (specs : List ProcessSpec) (ws : List (List ℕ)) (left : ℕ) (fs gs hs ks : List Form) (i₀ i₁ i₂ i₃ i₄ : List ℕ)
    (s₁ s₂ s₃ s₄ : Bool) (l₁ l₂ l₃ l₄ : List ℕ)
    → ((more : List (List ℕ)) → i₁ ++ told_text specs s₁ l₁ more ≡ i₀ ++ told_text specs false [] (goes_on specs ws left fs ++ more))
    → ((more : List (List ℕ)) → i₂ ++ told_text specs s₂ l₂ more ≡ i₁ ++ told_text specs s₁ l₁ (goes_on specs ws left gs ++ more))
    → ((more : List (List ℕ)) → i₃ ++ told_text specs s₃ l₃ more ≡ i₂ ++ told_text specs s₂ l₂ (goes_on specs ws left hs ++ more))
    → ((more : List (List ℕ)) → i₄ ++ told_text specs s₄ l₄ more ≡ i₃ ++ told_text specs s₃ l₃ (goes_on specs ws left ks ++ more))
    → i₄ ≡ i₀ ++ told_text specs false [] (goes_on specs ws left (((fs ++ gs) ++ hs) ++ ks))
unfolding told_text
told_parts specs ws left fs gs hs ks i₀ i₁ i₂ i₃ i₄ s₁ s₂ s₃ s₄ l₁ l₂ l₃ l₄ e₁ e₂ e₃ e₄ =
    let g = goes_on specs ws left in
    let last = g ks ++ [] in
    let all : i₄ ++ [] ≡ i₀ ++ told_text specs false [] (g fs ++ (g gs ++ (g hs ++ last))) =
    e₄ [] ∙ (e₃ last ∙ (e₂ (g hs ++ last) ∙ e₁ (g gs ++ (g hs ++ last)))) in
    let parts : goes_on specs ws left (((fs ++ gs) ++ hs) ++ ks) ≡ g fs ++ (g gs ++ (g hs ++ last)) =
    simp (goes_on_append specs ws left, append_assoc, append-nil) in
    sym (append-nil i₄) ∙ (all ∙ ap (λ x. i₀ ++ told_text specs false [] x) (sym parts))

pub whole_told : (specs : List ProcessSpec) (text : TextKind) (line none told : List ℕ) → follows specs (words_from line 0) (forms_of text) ≡ true
    → none ≡ [] → told ≡ none ++ whole_fault line → IsTold specs text line told
whole_told specs text line none told h e t = inl (h, rw e at t)

pub word_told : (specs : List ProcessSpec) (text : TextKind) (line none told : List ℕ) (at : ℕ) → follows specs (words_from line 0) (forms_of text) ≡ false
    → at ≤ length line + 1 → words_from line at ≡ unread specs (forms_of text) (words_from line 0)
    → none ≡ [] → told ≡ none ++ word_fault specs text line at → IsTold specs text line told
word_told specs text line none told at h w u e t = inr (at, w, h, u, rw e at t)

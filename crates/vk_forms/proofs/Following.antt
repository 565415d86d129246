-- A line follows a form word by word.
use Rattle.std.proofs.Common.{◌≡◌, ℕ, ◌==◌, true, false, List, [], ◌∷◌, length, ◌+◌, refl, ap, ◌∙◌, arith}
use Rattle.std.proofs.lemmas.Bool.{eqb-true}
use Rattle.std.proofs.lemmas.Grind.{common_steps}
use Rattle.vk_types.specs.Types.{ProcessSpec}
use Rattle.vk_text.specs.Lines.{StartsNoWord, words_from}
use Rattle.vk_forms.specs.Follow.{Stop, stop}
use Rattle.vk_forms.specs.Slots.{fits, fits_kind, kind_of}

pub some_byte : (b : ℕ) (bs : List ℕ) → (length (b ∷ bs) == 0) ≡ true → ⊥
some_byte b bs h = let e : length (b ∷ bs) ≡ 0 = eqb-true (length (b ∷ bs)) 0 h in grind (arith, common_steps)

-- a word that is not empty
pub fits_is : (specs : List ProcessSpec) (slot word : List ℕ) → (length word == 0) ≡ false → fits specs slot word ≡ fits_kind specs (kind_of slot) slot word
unfolding fits
fits_is specs slot [] h = cc
fits_is specs slot (b ∷ bs) h = refl

pub no_fit : (specs : List ProcessSpec) (slot word : List ℕ) → (length word == 0) ≡ true → fits specs slot word ≡ false
unfolding fits
no_fit specs slot [] h = refl
no_fit specs slot (b ∷ bs) h = absurd (some_byte b bs h)

-- no word may stand where a form has an empty one
no_slot_fits : (specs : List ProcessSpec) (word : List ℕ) → fits specs [] word ≡ false
unfolding fits kind_of
no_slot_fits specs [] = refl
no_slot_fits specs (b ∷ bs) = refl

pub went_on : (specs : List ProcessSpec) (x : Stop) (ss : List (List ℕ)) (s : List ℕ) (ts ws : List (List ℕ)) (w : List ℕ) (vs : List (List ℕ))
    → x ≡ stop specs ss ws → ss ≡ s ∷ ts → ws ≡ w ∷ vs → fits specs s w ≡ true → x ≡ stop specs ts vs
unfolding stop
went_on specs x ss s ts ws w vs h e f t = rw (h, e, f, t) refl

pub stuck_at : (specs : List ProcessSpec) (x : Stop) (ss : List (List ℕ)) (s : List ℕ) (ts ws : List (List ℕ)) (w : List ℕ) (vs : List (List ℕ))
    → x ≡ stop specs ss ws → ss ≡ s ∷ ts → ws ≡ w ∷ vs → fits specs s w ≡ false → x ≡ record { slot = s; left = ws }
unfolding stop
stuck_at specs x ss s ts ws w vs h e f t = rw (h, e, f, t) refl

line_ends : (specs : List ProcessSpec) (s : List ℕ) (ts ws : List (List ℕ)) → StartsNoWord ws → stop specs (s ∷ ts) ws ≡ record { slot = s; left = ws }
unfolding stop fits
line_ends specs s ts [] h = refl
line_ends specs s ts ([] ∷ ws) h = refl
line_ends specs s ts ((b ∷ bs) ∷ ws) h = absurd h

pub line_ended : (specs : List ProcessSpec) (x : Stop) (ss : List (List ℕ)) (s : List ℕ) (ts ws : List (List ℕ))
    → x ≡ stop specs ss ws → ss ≡ s ∷ ts → StartsNoWord ws → x ≡ record { slot = s; left = ws }
line_ended specs x ss s ts ws h e n = h ∙ (ap (λ l. stop specs l ws) e ∙ line_ends specs s ts ws n)

pub form_ends : (specs : List ProcessSpec) (ss ws : List (List ℕ)) → StartsNoWord ss → stop specs ss ws ≡ record { slot = []; left = ws }
unfolding stop
form_ends specs [] ws h = refl
form_ends specs ([] ∷ ss) [] h = refl
form_ends specs ([] ∷ ss) (w ∷ ws) h = rw (no_slot_fits specs w) refl
form_ends specs ((b ∷ bs) ∷ ss) ws h = absurd h

pub form_ended : (specs : List ProcessSpec) (x : Stop) (ss ws : List (List ℕ)) → x ≡ stop specs ss ws → StartsNoWord ss → x ≡ record { slot = []; left = ws }
form_ended specs x ss ws h n = h ∙ form_ends specs ss ws n

-- one word fewer is left
pub one_read : (ws : List (List ℕ)) (w : List ℕ) (vs : List (List ℕ)) (a n : ℕ) → ws ≡ w ∷ vs → a + length ws ≡ n → (a + 1) + length vs ≡ n
one_read ws w vs a n e h = let k : a + length (w ∷ vs) ≡ n = rw e at h in grind (arith, common_steps)

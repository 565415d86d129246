-- Words of which the first four bytes are compared as one number.
use Rattle.std.proofs.Common.{◌≡◌, ◌≢◌, ℕ, ◌<◌, ◌≤◌, true, false, List, ◌++◌, length, take, drop, get_or, nat_eq, w32, refl, arith, ap, sym, ◌∙◌, inl, inr, length-append}
use Rattle.std.specs.Int.{from_le_bytes}
use Rattle.std.specs.List.{starts_with}
use Rattle.std.proofs.lemmas.Bool.{cases_Bool}
use Rattle.std.proofs.lemmas.Bool.Decides.{Decides-eqb}
use Rattle.std.proofs.lemmas.List.{take-append-drop}
use Rattle.std.proofs.Math.ListN.{get_or-append}
use Rattle.std.proofs.lemmas.Slice.Eq.{starts_is}

starts : (bs ws : List ℕ) → (starts_with nat_eq bs ws ≡ true → bs ≡ ws ++ drop (length ws) bs)
    × ((rest : List ℕ) → bs ≡ ws ++ rest → starts_with nat_eq bs ws ≡ true)
starts bs ws = starts_is Decides-eqb bs ws (starts_with nat_eq bs ws) refl

never : (bs ws : List ℕ) → ((rest : List ℕ) → bs ≡ ws ++ rest → ⊥) → false ≡ starts_with nat_eq bs ws
never bs ws refuted = elim (cases_Bool (starts_with nat_eq bs ws)) [
  | inl same ↦ absurd (refuted (drop (length ws) bs) ((starts bs ws).0 same))
  | inr fails ↦ sym fails
]

-- fewer bytes do not begin with the word
pub too_few : (bs ws : List ℕ) → length bs < length ws → false ≡ starts_with nat_eq bs ws
too_few bs ws few = never bs ws (λ rest is. omega (arith, ap length is, length-append ws rest))

-- nor do those with another number
pub other_front : (bs ws : List ℕ) → 4 ≤ length ws → from_le_bytes w32 bs ≢ from_le_bytes w32 ws → false ≡ starts_with nat_eq bs ws
other_front bs ws least other = never bs ws (λ rest is. other (ap (from_le_bytes w32) is ∙ front ws rest least))
  where
    front : (ws rest : List ℕ) → 4 ≤ length ws → from_le_bytes w32 (ws ++ rest) ≡ from_le_bytes w32 ws
    front ws rest least =
        omega (
          arith,
          get_or-append ws rest 0 0 (omega arith),
          get_or-append ws rest 0 1 (omega arith),
          get_or-append ws rest 0 2 (omega arith),
          get_or-append ws rest 0 3 (omega arith),
        )

-- nor do those with another byte
pub other_byte : (bs ws : List ℕ) (at : ℕ) → at < length ws → get_or bs at 0 ≢ get_or ws at 0 → false ≡ starts_with nat_eq bs ws
other_byte bs ws at within other = never bs ws (λ rest is. other (ap (λ l. get_or l at 0) is ∙ get_or-append ws rest 0 at within))

-- those with the same front do
pub same_front : (bs ws : List ℕ) → take (length ws) bs ≡ ws → true ≡ starts_with nat_eq bs ws
same_front bs ws same =
    sym ((starts bs ws).1 (drop (length ws) bs) (sym (take-append-drop (length ws) bs) ∙ ap (λ l. l ++ drop (length ws) bs) same))

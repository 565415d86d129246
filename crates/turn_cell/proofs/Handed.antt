-- What is known of the seats that are handed in, once their accounts are those of one place.
use Rattle.std.proofs.Common.{◌≡◌, ℕ, suc, ◌+◌, ◌<◌, List, [], ◌∷◌, ◌++◌, length, refl, sym, ap, ◌∙◌, subst, arith, eqb, ⊎_elim, inl, inr, map, All}
use Rattle.std.specs.List.{IsDistinct, AllByRecursion, range_with_len}
use Rattle.std.specs.List.Sorted.{IsPermutation}
use Rattle.std.proofs.lemmas.List.Elements.{All-from_recursion}
use Rattle.turn_cell.specs.declared.rule.Account.{Account}
use Rattle.turn_cell.specs.declared.rule.Standing.{Standing}
use Rattle.turn_cell.specs.Accounts.{AreAccountsOf, AreDifferent, IsAccountOf, IsNumberOf}
use Rattle.turn_cell.specs.Held.{account_of}
use Rattle.turn_cell.specs.Seats.{Sitting, numbers_of}
use Rattle.turn_cell.specs.Standings.{accounts_in}
use Rattle.turn_cell.proofs.Histories.{accounts_both, different_both, number_of_both}
use Rattle.turn_cell.proofs.Numbers.{all_below, distinct, numbers}
use Rattle.turn_cell.proofs.Whole.{all_in_some_order}

length_in : {E : Type 0} (ended : List (Account E)) (a : Account E) → length (ended ++ a ∷ []) ≡ length ended + 1
length_in [] a = refl
length_in (b ∷ ended) a = let rest = length_in ended a in omega arith

module _ {S E : Type 0} where
  are_right : (log : List (ℕ × E)) (seats : List (Sitting S E)) → AreAccountsOf log (map account_of seats)
      → AllByRecursion (λ s. IsAccountOf log (account_of s)) seats
  are_right log [] are = tt
  are_right log (s ∷ seats) are = (are.0, are_right log seats are.1)

  are_below : (n : ℕ) (seats : List (Sitting S E)) → ((k : ℕ) → IsNumberOf k (map account_of seats) → k < n)
      → AllByRecursion (λ s. s.number < n) seats
  are_below n [] low = tt
  are_below n (s ∷ seats) low = (low s.number (inl refl), are_below n seats (λ k among. low k (inr among)))

  same_numbers : (seats : List (Sitting S E)) → numbers (map account_of seats) ≡ numbers_of seats
  same_numbers [] = refl
  same_numbers (s ∷ seats) = ap (λ l. s.number ∷ l) (same_numbers seats)

  count_of : (seats : List (Sitting S E)) → length (map account_of seats) ≡ length seats
  count_of [] = refl
  count_of (s ∷ seats) = ap suc (count_of seats)

  module _ (v : Standing S E) (seats : List (Sitting S E)) (same : accounts_in v ≡ map account_of seats) where
    pub ended_count : length v.ended + 1 ≡ length seats
    ended_count = sym (length_in v.ended v.account) ∙ (ap length same ∙ count_of seats)

    pub each_right : (log : List (ℕ × E)) → IsAccountOf log v.account → AreAccountsOf log v.ended
        → All (λ s. IsAccountOf log (account_of s)) seats
    each_right log own ended =
        let all = accounts_both log v.ended (v.account ∷ []) ended (own, tt) in
        All-from_recursion (λ s. IsAccountOf log (account_of s)) seats (are_right log seats (subst (AreAccountsOf log) same all))

    module _ (n : ℕ) (low : (k : ℕ) → IsNumberOf k (v.account ∷ v.ended) → k < n) (different : AreDifferent (v.account ∷ v.ended)) where
      low_in : (k : ℕ) → IsNumberOf k (accounts_in v) → k < n
      low_in k among = ⊎_elim (λ there. low k (inr there)) (λ own. ⊎_elim (λ is. low k (inl is)) (λ never. absurd never) own)
          (number_of_both k v.ended (v.account ∷ []) among)

      low_of : (k : ℕ) → IsNumberOf k (map account_of seats) → k < n
      low_of = subst (λ l. (k : ℕ) → IsNumberOf k l → k < n) same low_in

      different_in : AreDifferent (accounts_in v)
      different_in = different_both v.ended (v.account ∷ []) different.1 ((λ never. never), tt)
          (λ k there own. ⊎_elim (λ is. different.0 (subst (λ (j : ℕ). IsNumberOf j v.ended) (sym is) there)) (λ never. never) own)

      pub each_below : All (λ s. s.number < n) seats
      each_below = All-from_recursion (λ s. s.number < n) seats (are_below n seats low_of)

      pub each_once : IsDistinct eqb (numbers_of seats)
      each_once = subst (IsDistinct eqb) (ap numbers same ∙ same_numbers seats) (distinct (accounts_in v) different_in)

      pub all_once : length seats ≡ n → IsPermutation (numbers_of seats) (range_with_len 0 n)
      all_once count =
          let low = subst (AllByRecursion (λ k. k < n)) (ap numbers same ∙ same_numbers seats) (all_below n (accounts_in v) low_in) in
          all_in_some_order n (numbers_of seats) each_once low (length_of seats ∙ count)
        where
          length_of : (xs : List (Sitting S E)) → length (numbers_of xs) ≡ length xs
          length_of [] = refl
          length_of (s ∷ xs) = ap suc (length_of xs)

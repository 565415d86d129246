-- Seats that are made one by one, and joined one by one.
use Rattle.std.proofs.Common.{◌≡◌, ℕ, zero, suc, ◌+◌, ◌<◌, List, [], ◌∷◌, ◌++◌, length, Some, slice_get, refl, sym, ap, ◌∙◌, subst, arith, append_assoc, map}
use mathlib.Core.Logic.{dite}
use native.Mathlib.Decide.{ℕ_discrete}
use Rattle.std.proofs.lemmas.List.{map-append}
use Rattle.atomic_table.specs.Table.{Me}
use Rattle.atomic_table.specs.Seated.{TableId}
use Rattle.turn_cell.specs.declared.rule.Account.{Account}
use Rattle.turn_cell.specs.declared.rule.Standing.{Standing}
use Rattle.turn_cell.specs.Held.{account_of, sitting}
use Rattle.turn_cell.specs.Seats.{Sitting}
use Rattle.turn_cell.specs.Standings.{accounts_in, joined}

module _ {A : Type 0} where
  get_last : (xs : List A) (x : A) → slice_get (xs ++ x ∷ []) (length xs) ≡ Some x
  get_last [] x = refl
  get_last (y ∷ xs) x = get_last xs x

  get_before : (xs ys : List A) (k : ℕ) → k < length xs → slice_get (xs ++ ys) k ≡ slice_get xs k
  get_before [] ys k under = absurd (omega arith)
  get_before (x ∷ xs) ys zero under = refl
  get_before (x ∷ xs) ys (suc k) under = get_before xs ys k (omega arith)

  -- one more element
  pub each_more : (f : ℕ → A) (xs : List A) (x : A) (n : ℕ) → length xs ≡ n → ((k : ℕ) → k < n → slice_get xs k ≡ Some (f k))
      → x ≡ f n → (k : ℕ) → k < n + 1 → slice_get (xs ++ x ∷ []) k ≡ Some (f k)
  each_more f xs x n count each is k under = dite (ℕ_discrete k n)
      (λ same.
      let last = get_last xs x ∙ ap Some (is ∙ ap f (sym same)) in
      subst (λ (j : ℕ). slice_get (xs ++ x ∷ []) j ≡ Some (f k)) (count ∙ sym same) last)
      (λ differ. get_before xs (x ∷ []) k (omega arith) ∙ each k (omega arith))

module _ {S E : Type 0} where
  -- the accounts of a seat's place are those of the seat
  pub account_is : (seat : Sitting S E) (table : TableId) (number : ℕ) (m : Me S (Standing S E)) → seat ≡ sitting table number m
      → m.0.account.number ≡ number → m.0.account ≡ account_of seat
  account_is seat table number m same is =
      (λ i. record { number = is i; seen = m.0.account.seen; mine = m.0.account.mine; turns = m.0.account.turns })
      ∙ ap account_of (sym same)

  -- the first place has the account of the last seat
  pub accounts_first : (whole rest : List (Sitting S E)) (seat : Sitting S E) (v : Standing S E) → whole ≡ rest ++ seat ∷ [] → v.ended ≡ []
      → v.account ≡ account_of seat → map account_of rest ++ accounts_in v ≡ map account_of whole
  accounts_first whole rest seat v split alone is =
      (λ i. map account_of rest ++ (alone i ++ is i ∷ [])) ∙ (sym (map-append account_of rest (seat ∷ [])) ∙ ap (map account_of) (sym split))

  -- the last of the seats that are left ends in the place
  pub accounts_step : (whole : List (Account E)) (before rest : List (Sitting S E)) (seat : Sitting S E) (v w n : Standing S E)
      → before ≡ rest ++ seat ∷ [] → w.ended ≡ [] → w.account ≡ account_of seat → n ≡ joined v w
      → map account_of before ++ accounts_in v ≡ whole → map account_of rest ++ accounts_in n ≡ whole
  accounts_step whole before rest seat v w n split alone is both all =
      ap (λ d. map account_of rest ++ accounts_in d) both
      ∙ ((λ i. map account_of rest ++ (is i ∷ ((alone i ++ v.ended) ++ v.account ∷ [])))
      ∙ (sym (append_assoc (map account_of rest) (account_of seat ∷ []) (accounts_in v))
      ∙ (ap (λ l. l ++ accounts_in v) (sym (map-append account_of rest (seat ∷ [])) ∙ ap (map account_of) (sym split)) ∙ all)))

  pub accounts_all : (whole : List (Account E)) (rest : List (Sitting S E)) (v : Standing S E) → length rest ≡ 0
      → map account_of rest ++ accounts_in v ≡ whole → accounts_in v ≡ whole
  accounts_all whole [] v none all = all
  accounts_all whole (s ∷ rest) v none all = absurd (omega arith)

-- The events of one number in a history, and beginnings of histories.
use Rattle.std.proofs.Common.{◌≡◌, ◌≢◌, ℕ, ◌==◌, Bool, true, false, cond, eq-eqb, ne_eqb, List, [], ◌∷◌, ◌++◌, refl, sym, ap, ◌∙◌, append_assoc, ◌⊎◌, ⊎_elim, inl, inr}
use mathlib.Core.List.{IsPrefix}
use Rattle.std.proofs.lemmas.List.{append-nil}
use Rattle.turn_cell.specs.declared.rule.Account.{Account}
use Rattle.turn_cell.specs.History.{events_of}
use Rattle.turn_cell.specs.Accounts.{AreAccountsOf, AreDifferent, IsNumberOf}

module _ {E : Type 0} where
  own_more : (n : ℕ) (e : E) (x : ℕ × E) (xs : List (ℕ × E)) → events_of n (xs ++ (n, e) ∷ []) ≡ events_of n xs ++ e ∷ [] → (b : Bool)
      → cond b (x.1 ∷ events_of n (xs ++ (n, e) ∷ [])) (events_of n (xs ++ (n, e) ∷ []))
      ≡ cond b (x.1 ∷ events_of n xs) (events_of n xs) ++ e ∷ []
  own_more n e x xs h true = ap (λ l. x.1 ∷ l) h
  own_more n e x xs h false = h

  -- one more event of the number
  pub events_own : (n : ℕ) (e : E) (log : List (ℕ × E)) → events_of n (log ++ (n, e) ∷ []) ≡ events_of n log ++ e ∷ []
  events_own n e [] = ap (λ b. cond b (e ∷ []) []) (eq-eqb n n refl)
  events_own n e (x ∷ xs) = own_more n e x xs (events_own n e xs) (x.0 == n)

  -- one more event of another number
  pub events_other : (k n : ℕ) (e : E) (log : List (ℕ × E)) → k ≢ n → events_of k (log ++ (n, e) ∷ []) ≡ events_of k log
  events_other k n e [] apart = ap (λ b. cond b (e ∷ []) []) (ne_eqb n k (λ is. apart (sym is)))
  events_other k n e (x ∷ xs) apart = ap (λ l. cond (x.0 == k) (x.1 ∷ l) l) (events_other k n e xs apart)

  pub prefix_self : (log : List (ℕ × E)) → IsPrefix log log
  prefix_self log = ([], append-nil log)

  pub prefix_more : (front log more : List (ℕ × E)) → IsPrefix front log → IsPrefix front (log ++ more)
  prefix_more front log more p = (p.0 ++ more, sym (append_assoc front p.0 more) ∙ ap (λ l. l ++ more) p.1)

  -- accounts of other numbers stay right
  pub accounts_more : (n : ℕ) (e : E) (log : List (ℕ × E)) (ended : List (Account E)) → ((k : ℕ) → IsNumberOf k ended → k ≢ n)
      → AreAccountsOf log ended → AreAccountsOf (log ++ (n, e) ∷ []) ended
  accounts_more n e log [] apart are = tt
  accounts_more n e log (a ∷ others) apart are = (
    (prefix_more a.seen log ((n, e) ∷ []) are.0.0, events_other a.number n e log (apart a.number (inl refl)) ∙ are.0.1),
    accounts_more n e log others (λ k among. apart k (inr among)) are.1,
  )

  pub accounts_both : (log : List (ℕ × E)) (xs ys : List (Account E)) → AreAccountsOf log xs → AreAccountsOf log ys
      → AreAccountsOf log (xs ++ ys)
  accounts_both log [] ys p q = q
  accounts_both log (x ∷ xs) ys p q = (p.0, accounts_both log xs ys p.1 q)

  pub number_of_both : (k : ℕ) (xs ys : List (Account E)) → IsNumberOf k (xs ++ ys) → IsNumberOf k xs ⊎ IsNumberOf k ys
  number_of_both k [] ys h = inr h
  number_of_both k (x ∷ xs) ys h = ⊎_elim (λ is. inl (inl is))
      (λ rest. ⊎_elim (λ a. inl (inr a)) (λ b. inr b) (number_of_both k xs ys rest)) h

  pub different_both : (xs ys : List (Account E)) → AreDifferent xs → AreDifferent ys → ((k : ℕ) → IsNumberOf k xs → ¬ IsNumberOf k ys)
      → AreDifferent (xs ++ ys)
  different_both [] ys p q apart = q
  different_both (x ∷ xs) ys p q apart = (
    (λ among. ⊎_elim p.0 (λ there. apart x.number (inl refl) there) (number_of_both x.number xs ys among)),
    different_both xs ys p.1 q (λ k here. apart k (inr here)),
  )

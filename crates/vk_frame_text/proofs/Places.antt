-- The place of a frame, `H:E.O`, is read again.
use Rattle.std.proofs.Common.{◌≡◌, ℕ, suc, ◌+◌, ◌-◌, ◌^◌, ◌<◌, ◌==◌, true, false, List, [], ◌∷◌, ◌++◌, length, get_or, take, drop, decimal, codes, Some, refl, arith, ap, subst, ◌∙◌, append_assoc}
use Rattle.std.specs.Char.{is_ascii_digit}
use Rattle.std.specs.List.{list_all, position, position_or_len}
use Rattle.std.proofs.lemmas.Bool.{lt-ltb}
use Rattle.std.proofs.lemmas.Grind.{common_steps}
use Rattle.std.proofs.lemmas.List.Sums.{AllPass-from_list_all, position_or_len_is}
use Rattle.vk_text.proofs.Spelled.{decimal_digits, number_read}
use Rattle.vk_frame_text.specs.Reading.{long_of, place_of}

pub long_read : (n : ℕ) → n < 2 ^ 64 → long_of (decimal n) ≡ Some n
long_read n small = number_read (2 ^ 64 - 1) n (omega arith) (omega arith)

-- the first byte behind digits, which is none
behind_digits : (mark : ℕ) (ds more : List ℕ) → ((b : ℕ) → is_ascii_digit b ≡ true → (b == mark) ≡ false)
    → (mark == mark) ≡ true → list_all is_ascii_digit ds ≡ true → position (λ b. b == mark) (ds ++ mark ∷ more) ≡ Some (length ds)
behind_digits mark ds more other same h =
    let len : length (ds ++ mark ∷ more) ≡ length ds + (length more + 1) = grind (arith, common_steps) in
    let digits = AllPass-from_list_all is_ascii_digit ds h in
    let place : position_or_len (λ b. b == mark) (ds ++ mark ∷ more) ≡ length ds =
    position_or_len_is (λ b. b == mark) (ds ++ mark ∷ more) (length ds) 0 (omega arith)
    (λ k l. let here : get_or (ds ++ mark ∷ more) k 0 ≡ get_or ds k 0 = grind (arith, common_steps) in ap (λ n. n == mark) here ∙ other
    (get_or ds k 0) (digits k 0 l))
    (λ l. let here : get_or (ds ++ mark ∷ more) (length ds) 0 ≡ mark = grind (arith, common_steps) in ap (λ n. n == mark) here ∙ same) in
    rw (place, lt-ltb (length ds) (length (ds ++ mark ∷ more)) (omega arith)) refl

no_colon : (b : ℕ) → is_ascii_digit b ≡ true → (b == 58) ≡ false
no_colon b h = grind arith

no_point : (b : ℕ) → is_ascii_digit b ≡ true → (b == 46) ≡ false
no_point b h = grind arith

before_mark : (ds more : List ℕ) (mark : ℕ) → take (length ds) (ds ++ mark ∷ more) ≡ ds
before_mark ds more mark = grind (arith, common_steps)

behind_mark : (ds more : List ℕ) (mark : ℕ) → drop (length ds + 1) (ds ++ mark ∷ more) ≡ more
behind_mark [] more mark = refl
behind_mark (d ∷ ds) more mark =
    let more_digits : suc (length ds + 1) ≡ length (d ∷ ds) + 1 = omega arith in
    subst (λ n. drop n (d ∷ (ds ++ mark ∷ more)) ≡ more) more_digits (behind_mark ds more mark)

-- with the marks between them
marked : (hs es os : List ℕ) → hs ++ codes ":" ++ es ++ codes "." ++ os ≡ hs ++ 58 ∷ (es ++ 46 ∷ os)
marked hs es os =
    append_assoc (hs ++ codes ":" ++ es) (46 ∷ []) os
    ∙ ap (λ (l : List ℕ). l ++ 46 ∷ os) (append_assoc hs (58 ∷ []) es)
    ∙ append_assoc hs (58 ∷ es) (46 ∷ os)

pub place_read : (host event output : ℕ) → host < 2 ^ 64 → event < 2 ^ 64 → output < 2 ^ 64
    → place_of (decimal host ++ codes ":" ++ decimal event ++ codes "." ++ decimal output) ≡ Some (host, event, output)
unfolding place_of
place_read host event output hosts events outputs =
    let hs = decimal host in
    let es = decimal event in
    let os = decimal output in
    let rest : List ℕ = es ++ 46 ∷ os in
    rw (
      marked hs es os,
      behind_digits 58 hs rest no_colon refl (decimal_digits host hosts),
      before_mark hs rest 58,
      long_read host hosts,
      behind_mark hs rest 58,
      behind_digits 46 es os no_point refl (decimal_digits event events),
      before_mark es os 46,
      long_read event events,
      behind_mark es os 46,
      long_read output outputs,
    ) refl

-- A number's bytes are the only ones that read as it.
use Rattle.std.proofs.Common.{◌≡◌, ℕ, zero, suc, ◌+◌, ◌*◌, ◌^◌, ◌<◌, ◌≤◌, List, [], ◌∷◌, length, take, drop, refl, sym, ap, ◌∙◌, arith, inl, inr}
use Rattle.std.proofs.lemmas.Bool.{cases_lt}
use Rattle.std.proofs.lemmas.List.{append-nil, length-take-le, get_or-drop}
use Rattle.std.proofs.Math.Nat.{mod-eq_of_lt, mul-le-mul_right}
use Rattle.std.specs.Int.{byte_at, bytes_high_first}
use Rattle.byteorder.specs.Endian.{big_from, big_number, big_bytes}
use Rattle.byteorder.specs.Numbers.{big_from-cons, big_from-bytes, big_from-lt, big_from-take, length-bytes_high_first}
use Rattle.vk_wire.specs.Fields.{IsBytes}

-- two numbers of a digit and a rest below its place are equal only where both are
same_digit : (a b p x y : ℕ) → x < p → y < p → a * p + x ≡ b * p + y → a ≡ b
same_digit a b p x y hx hy e = elim (cases_lt a b) [
  | inl less ↦ let step : suc a * p ≤ b * p = mul-le-mul_right p (omega arith) in absurd (omega (arith, step, e, hx, hy))
  | inr more ↦ elim (cases_lt b a) [
    | inl less ↦ let step : suc b * p ≤ a * p = mul-le-mul_right p (omega arith) in absurd (omega (arith, step, e, hx, hy))
    | inr same ↦ omega (arith, more, same)
  ]
]

tail_bytes : (b : ℕ) (bs : List ℕ) → IsBytes (b ∷ bs) → IsBytes bs
tail_bytes b bs h i = h (suc i)

pub take_bytes : (n : ℕ) (bytes : List ℕ) → IsBytes bytes → IsBytes (take n bytes)
take_bytes zero bytes h i = omega arith
take_bytes (suc n) [] h i = omega arith
take_bytes (suc n) (b ∷ bs) h zero = h zero
take_bytes (suc n) (b ∷ bs) h (suc i) = take_bytes n bs (tail_bytes b bs h) i

pub drop_bytes : (n : ℕ) (bytes : List ℕ) → IsBytes bytes → IsBytes (drop n bytes)
drop_bytes n bytes h i = let e = get_or-drop n bytes i 0 in let b = h (n + i) in omega (arith, e, b)

number_lt : (n : ℕ) (xs : List ℕ) → IsBytes xs → big_from 0 n xs < 256 ^ n
number_lt n xs h = big_from-lt 0 n xs h

-- of two lists of n bytes that read as one number, each is the other
same_bytes : (n : ℕ) (xs ys : List ℕ) → length xs ≡ n → length ys ≡ n → IsBytes xs → IsBytes ys → big_from 0 n xs ≡ big_from 0 n ys →
    xs ≡ ys
same_bytes zero [] [] hx hy bx by e = refl
same_bytes zero (x ∷ xs) ys hx hy bx by e = absurd (omega (arith, hx))
same_bytes zero [] (y ∷ ys) hx hy bx by e = absurd (omega (arith, hy))
same_bytes (suc n) [] ys hx hy bx by e = absurd (omega (arith, hx))
same_bytes (suc n) (x ∷ xs) [] hx hy bx by e = absurd (omega (arith, hy))
same_bytes (suc n) (x ∷ xs) (y ∷ ys) hx hy bx by e =
    let ex = big_from-cons 0 n x xs in
    let ey = big_from-cons 0 n y ys in
    let lx = number_lt n xs (tail_bytes x xs bx) in
    let ly = number_lt n ys (tail_bytes y ys by) in
    let whole : x * 256 ^ n + big_from 0 n xs ≡ y * 256 ^ n + big_from 0 n ys = omega (arith, ex, ey, e) in
    let head : x ≡ y = same_digit x y (256 ^ n) (big_from 0 n xs) (big_from 0 n ys) lx ly whole in
    let places : x * 256 ^ n ≡ y * 256 ^ n = ap (λ (a : ℕ). a * 256 ^ n) head in
    let rest : xs ≡ ys = same_bytes n xs ys (omega (arith, hx)) (omega (arith, hy)) (tail_bytes x xs bx) (tail_bytes y ys by)
    (omega (arith, whole, places)) in
    ap (λ (a : ℕ). a ∷ xs) head ∙ ap (λ (r : List ℕ). y ∷ r) rest

byte_lt : (k x : ℕ) → byte_at k x < 256
byte_lt zero x = omega arith
byte_lt (suc k) x = omega arith

bytes_of-bytes : (n x : ℕ) → IsBytes (bytes_high_first n x)
bytes_of-bytes zero x zero = omega arith
bytes_of-bytes zero x (suc i) = omega arith
bytes_of-bytes (suc n) x zero = byte_lt n x
bytes_of-bytes (suc n) x (suc i) = bytes_of-bytes n x i

-- the first n bytes are those of the number that they read as
pub first_bytes : (n : ℕ) (bytes : List ℕ) → IsBytes bytes → n ≤ length bytes → take n bytes ≡ big_bytes n (big_number n bytes)
first_bytes n bytes h long =
    let x = big_number n bytes in
    let read : big_from 0 n (bytes_high_first n x) ≡ x =
    ap (big_from 0 n) (sym (append-nil (bytes_high_first n x))) ∙ big_from-bytes n x [] ∙ mod-eq_of_lt (number_lt n bytes h) in
    same_bytes n (take n bytes) (bytes_high_first n x) (length-take-le n bytes long) (length-bytes_high_first n x) (take_bytes n bytes h)
    (bytes_of-bytes n x) (big_from-take 0 n n bytes (omega arith) ∙ sym read)

-- Numbers of few digits that are the first word, of which no `0` leads.
use Rattle.std.proofs.Common.{◌≡◌, ℕ, zero, suc, ◌+◌, ◌-◌, ◌*◌, ◌^◌, ◌<◌, ◌≤◌, ◌==◌, ◌&&◌, ◌||◌, not, true, false, List, length, get_or, slice_index, take, Some, refl, arith, ap, sym, subst, ◌∙◌}
use Rattle.std.specs.Char.{is_ascii_digit}
use Rattle.std.specs.List.{list_all}
use Rattle.std.specs.Str.Parse.{digits_value}
use Rattle.std.proofs.lemmas.Bool.{and_from}
use Rattle.std.proofs.lemmas.Grind.{pow_more}
use Rattle.std.proofs.lemmas.List.{get_or-take, length-take-le}
use Rattle.std.proofs.lemmas.List.Folds.{list_all_more}
use Rattle.vk_text.proofs.FirstWords.{first_word, word_is_number}
use Rattle.vk_text.proofs.Numerals.{one_more_digit}
use Rattle.vk_text.proofs.PidWords.{ends_at, number_is}
use Rattle.vk_text.specs.Words.{number_of}

space_is_no_digit : (c : ℕ) → c ≡ 32 → is_ascii_digit c ≡ false
space_is_no_digit c h = grind arith

starts_as : (w : List ℕ) → 0 < length w → (slice_index w 0 == 48) ≡ false
    → true ≡ (not (length w == 0) && (length w == 1 || not (slice_index w 0 == 48)))
starts_as w some other = grind arith

-- digits with a space or the end behind them
pub led_number : (most : ℕ) (bs : List ℕ) (i v : ℕ) → 0 < i → i ≤ length bs → list_all is_ascii_digit (take i bs) ≡ true
    → (get_or bs 0 0 == 48) ≡ false → (i < length bs → get_or bs i 0 ≡ 32) → v ≡ digits_value 10 (take i bs) → v ≤ most
    → (i ≡ length (first_word bs)) × (number_of most (first_word bs) ≡ Some v)
led_number most bs i v some within all other ends value small =
    let place = ends_at bs i within all (λ less. space_is_no_digit (get_or bs i 0) (ends less)) in
    let long = length-take-le i bs within in
    let starts = starts_as (take i bs) (omega (arith, long, some)) (ap (λ c. c == 48) (get_or-take i bs 0 0 some) ∙ other) in
    word_is_number most bs i v place ends (number_is most (take i bs) v all starts value small)

pub one_digit : (bs : List ℕ) → 0 < length bs → is_ascii_digit (get_or bs 0 0) ≡ true
    → (list_all is_ascii_digit (take 1 bs) ≡ true) × (digits_value 10 (take 1 bs) ≡ get_or bs 0 0 - 48)
one_digit bs some digit =
    (list_all_more is_ascii_digit bs 0 0 some ∙ and_from _ _ refl digit, omega (arith, one_more_digit bs 0 some digit))

pub more_digits : (bs : List ℕ) (i : ℕ) → i < length bs → list_all is_ascii_digit (take i bs) ≡ true → is_ascii_digit (get_or bs i 0) ≡ true
    → list_all is_ascii_digit (take (i + 1) bs) ≡ true
more_digits bs i within all digit = list_all_more is_ascii_digit bs i 0 within ∙ and_from _ _ all digit

grows : (k j : ℕ) → 10 ^ k ≤ 10 ^ (k + j)
grows k zero = let e : k + 0 ≡ k = omega arith in rw e (omega arith)
grows k (suc j) =
    let rest = grows k j in
    let more = pow_more 10 (k + j) in
    let e : k + suc j ≡ (k + j) + 1 = omega arith in
    rw e (omega (arith, rest, more))

-- a value of at most eight digits
pub eight_digits : (k v : ℕ) → k ≤ 8 → v < 10 ^ k → v < 100000000
eight_digits k v few small =
    let e : k + (8 - k) ≡ 8 = omega arith in
    let most : 10 ^ k ≤ 10 ^ 8 = subst (λ n. 10 ^ k ≤ 10 ^ n) e (grows k (8 - k)) in
    omega (arith, most, small)

-- and of one digit more
pub digit_fits : (k v d : ℕ) → v < 10 ^ k → d ≤ 9 → v * 10 + d < 10 ^ (k + 1)
digit_fits k v d small digit = omega (arith, pow_more 10 k, small, digit)

pub digit_most : (c : ℕ) → is_ascii_digit c ≡ true → (48 ≤ c) × (c ≤ 57)
digit_most c h = (grind arith, grind arith)

pub leads_parts : (c : ℕ) → true ≡ (is_ascii_digit c && not (c == 48)) → (is_ascii_digit c ≡ true) × ((c == 48) ≡ false)
leads_parts c h = (grind arith, grind arith)

-- one digit, and two
pub one_is : (most : ℕ) (bs : List ℕ) (v : ℕ) → 0 < length bs → true ≡ (is_ascii_digit (get_or bs 0 0) && not (get_or bs 0 0 == 48))
    → (1 < length bs → get_or bs 1 0 ≡ 32) → v ≡ get_or bs 0 0 - 48 → v ≤ most
    → (1 ≡ length (first_word bs)) × (number_of most (first_word bs) ≡ Some v)
one_is most bs v some leads ends value small =
    let lead = leads_parts (get_or bs 0 0) leads in
    let one = one_digit bs some lead.0 in
    led_number most bs 1 v (omega arith) (omega arith) one.0 lead.1 ends (value ∙ sym one.1) small

pub two_is : (most : ℕ) (bs : List ℕ) (v : ℕ) → 1 < length bs → true ≡ (is_ascii_digit (get_or bs 0 0) && not (get_or bs 0 0 == 48))
    → is_ascii_digit (get_or bs 1 0) ≡ true → (2 < length bs → get_or bs 2 0 ≡ 32)
    → v ≡ (get_or bs 0 0 - 48) * 10 + (get_or bs 1 0 - 48) → v ≤ most
    → (2 ≡ length (first_word bs)) × (number_of most (first_word bs) ≡ Some v)
two_is most bs v more leads second ends value small =
    let lead = leads_parts (get_or bs 0 0) leads in
    let one = one_digit bs (omega arith) lead.0 in
    let all = more_digits bs 1 more one.0 second in
    let worth = one_more_digit bs 1 more second in
    led_number most bs 2 v (omega arith) (omega arith) all lead.1 ends (omega (arith, worth, one.1, value)) small

pub point_is_no_digit : (c : ℕ) → c ≡ 46 → is_ascii_digit c ≡ false
point_is_no_digit c h = grind arith

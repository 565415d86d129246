-- What is kept under a key, after requests.
use Rattle.std.proofs.Common.{◌≡◌, ℕ, ◌<◌, Bool, true, false, cond, not, ◌==◌, ◌&&◌, ◌||◌, nat_lt, is_some, List, [], ◌∷◌, ◌++◌, length, get_or, Option, Some, None, option_map, refl, sym, ap, subst, ◌∙◌}
use Rattle.std.proofs.lemmas.Bool.{and_parts, both_ways, cond-false, cond-true, eqb-true, eq-eqb, ltb-false, ltb-true, not-true}
use Rattle.std.proofs.lemmas.List.Folds.{find-append, find-set, find_at, find_past}
use Rattle.std.proofs.lemmas.List.Quantifiers.{position-Some}
use Rattle.std.proofs.lemmas.Option.{slice_get_past}
use Rattle.std.specs.List.{find, position, position_or_len}
use Rattle.std.specs.Option.{option_or}
use Rattle.vk_types.specs.Types.{Message}
use Rattle.vk_values.specs.declared.entry.Entry.{Entry}
use Rattle.vk_values.specs.declared.limits.TheConstants.{DONE, GET, PUT, UNKNOWN}
use Rattle.vk_values.specs.Laws.{leave, puts_under}
use Rattle.vk_values.specs.Requests.{code_of, kept, kept_after, key_of, message_of, replied_to, reply_got, value_in}
use Rattle.vk_values.specs.Tables.{has_room, is_under, put_at, value_of, with_value}

none_found : (p : Entry → Bool) (es : List Entry) → nat_lt (position_or_len p es) (length es) ≡ false → find p es ≡ None
none_found p es past = find_at p es ∙ slice_get_past es (position_or_len p es) (ltb-false (position_or_len p es) (length es) past)

-- an entry that is put is found under its key
module _ (es : List Entry) (e : Entry) where
  abbrev test : Entry → Bool
  test = is_under e.key

  passes : test e ≡ true
  passes = eq-eqb e.key e.key refl

  found_in_place : (b : Bool) → nat_lt (position_or_len test es) (length es) ≡ b →
      (is_some (cond b (Some (position_or_len test es)) None) || nat_lt (length es) 64) ≡ true →
      find test (put_at (cond b (Some (position_or_len test es)) None) es e) ≡ Some e
  found_in_place true is room = find-set test es (position_or_len test es) e refl (ltb-true (position_or_len test es) (length es) is) passes
  found_in_place false is room =
      ap (find test) (cond-true (nat_lt (length es) 64) (es ++ e ∷ []) es room)
      ∙ find-append test es (e ∷ [])
      ∙ ap (λ (o : Option Entry). option_or o (find test (e ∷ []))) (none_found test es is)
      ∙ cond-true (test e) (Some e) None passes

  put_is_found : has_room es e.key ≡ true → find test (put_at (position test es) es e) ≡ Some e
  put_is_found room = found_in_place (nat_lt (position_or_len test es) (length es)) refl room

  -- and under any other key what was found before
  module _ (key : ℕ) (apart : (e.key == key) ≡ false) where
    abbrev other : Entry → Bool
    other = is_under key

    same_behind : (b : Bool) → find other (cond b (es ++ e ∷ []) es) ≡ find other es
    same_behind false = refl
    same_behind true = find-append other es (e ∷ []) ∙ ap (option_or (find other es)) (cond-false (other e) (Some e) None apart) ∙ or_none (find other es)
      where
        or_none : (o : Option Entry) → option_or o None ≡ o
        or_none None = refl
        or_none (Some x) = refl

    same_in_place : (o : Option ℕ) → position test es ≡ o → find other (put_at o es e) ≡ find other es
    same_in_place None is = same_behind (nat_lt (length es) 64)
    same_in_place (Some i) is =
        find_past other es i e e
        (ap (λ (n : ℕ). n == key) (eqb-true (get_or es i e).key e.key (position-Some test es i e is).1) ∙ apart) apart

    others_are_found : find other (put_at (position test es) es e) ≡ find other es
    others_are_found = same_in_place (position test es) refl

abbrev shown : Option Entry → Option ℕ
shown o = option_map (λ (e : Entry). e.value) o

-- a request that puts nothing under the key leaves its value
module _ (es : List Entry) (m : Message) (key : ℕ) where
  left_by : (put same : Bool) → (key_of m == key) ≡ same → (put && same) ≡ false →
      value_of (cond put (with_value es (key_of m) (value_in m)) es) key ≡ value_of es key
  left_by false same is none = refl
  left_by true true is none = absurd (both_ways true none refl)
  left_by true false is none = ap shown (others_are_found es (record { key = key_of m; value = value_in m }) key is)

  left_by_request : not (puts_under key m) ≡ true → value_of (kept_after es m) key ≡ value_of es key
  left_by_request is = left_by (code_of m == PUT) (key_of m == key) refl (not-true (puts_under key m) is)

left_by_all : (ms : List Message) (es : List Entry) (key : ℕ) → leave key ms ≡ true → value_of (kept es ms) key ≡ value_of es key
left_by_all [] es key is = refl
left_by_all (m ∷ rest) es key is =
    let parts = and_parts (not (puts_under key m)) (leave key rest) is in
    left_by_all rest (kept_after es m) key parts.1 ∙ left_by_request es m key parts.0

kept_by_parts : (front behind : List Message) (es : List Entry) → kept es (front ++ behind) ≡ kept (kept es front) behind
kept_by_parts [] behind es = refl
kept_by_parts (m ∷ front) behind es = kept_by_parts front behind (kept_after es m)

after_put : (es : List Entry) (m : Message) → code_of m ≡ PUT → has_room es (key_of m) ≡ true →
    value_of (kept_after es m) (key_of m) ≡ Some (value_in m)
after_put es m is room =
    ap (λ (l : List Entry). value_of l (key_of m)) (cond-true (code_of m == PUT) (with_value es (key_of m) (value_in m)) es (eq-eqb (code_of m) PUT is))
    ∙ ap shown (put_is_found es (record { key = key_of m; value = value_in m }) room)

replied_to_get : (es : List Entry) (m : Message) → code_of m ≡ GET → replied_to es m ≡ reply_got (value_of es (key_of m)) (key_of m)
replied_to_get es m is = rw is

pub last_is_given : (before behind : List Message) (put get : Message) → code_of put ≡ PUT → has_room (kept [] before) (key_of put) ≡ true →
    leave (key_of put) behind ≡ true → code_of get ≡ GET → key_of get ≡ key_of put →
    replied_to (kept [] (before ++ put ∷ behind)) get ≡ message_of DONE (key_of put) (value_in put)
last_is_given before behind put get is room left asks same =
    let es = kept [] before in
    let found : value_of (kept [] (before ++ put ∷ behind)) (key_of put) ≡ Some (value_in put) =
    ap (λ (l : List Entry). value_of l (key_of put)) (kept_by_parts before (put ∷ behind) [])
    ∙ left_by_all behind (kept_after es put) (key_of put) left ∙ after_put es put is room in
    replied_to_get (kept [] (before ++ put ∷ behind)) get asks
    ∙ ap (λ (key : ℕ). reply_got (value_of (kept [] (before ++ put ∷ behind)) key) key) same
    ∙ ap (λ (o : Option ℕ). reply_got o (key_of put)) found

pub unknown_is_refused : (requests : List Message) (get : Message) → leave (key_of get) requests ≡ true → code_of get ≡ GET →
    replied_to (kept [] requests) get ≡ message_of UNKNOWN (key_of get) 0
unknown_is_refused requests get left asks =
    replied_to_get (kept [] requests) get asks
    ∙ ap (λ (o : Option ℕ). reply_got o (key_of get)) (left_by_all requests [] (key_of get) left)

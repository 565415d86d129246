-- Sends that stand behind some that are forgotten.
use Rattle.std.proofs.Common.{◌≡◌, ℕ, zero, suc, ◌+◌, ◌-◌, ◌<◌, ◌≤◌, ◌==◌, nat_le, nat_lt, ◌&&◌, ◌||◌, option_map, true, false, not, List, [], ◌∷◌, ◌++◌, drop, get_or, length, replicate, position, Option, Some, None, Result, Ok, Err, OnOk, OnErr, refl, sym, ap, subst, ◌∙◌, inl, inr, arith}
use Rattle.std.specs.List.{slice_get}
use Rattle.std.proofs.lemmas.Bool.{and_parts, and_right, both_ways, cases_lt, cond-false, le-ltb, not-false, or_cases}
use Rattle.std.proofs.lemmas.Option.{none-some, same_Some, slice_get_cases, slice_get-get_or}
use Rattle.std.proofs.lemmas.List.Quantifiers.{position-Some}
use Rattle.std.proofs.lemmas.List.{length-append, length-drop, length-replicate}
use Rattle.vk_types.specs.Types.{Exchange, Pid}
use Rattle.vk_base.specs.declared.kernel.Stage.TheVariants as stages
use Rattle.vk_base.specs.Calls.{dropped_at, is_message_at}
use Rattle.vk_base.specs.Kernel.{holds_of, is_at_target, is_posted}
use Rattle.vk_base.specs.Pids.{same_pid}
use Rattle.v_laws.specs.Sound.{is_settled}
use Rattle.v_machine.specs.declared.tables.remote.Moving.{Moving}
use Rattle.v_machine.specs.Begun.{AreEnded, Forgets, HaveEnded, behind}
use Rattle.v_machine.specs.Lists.{change_at, change_numbered}
use Rattle.v_machine.specs.Places.{numbered}
use Rattle.v_machine.specs.Sends.{dropped_between, dropped_to, emptied_between, emptied_moving, given_back, moving_of, noted_in, opened_moving, where_moves, with_moves, with_opened, with_written, written_moving}
use Rattle.v_machine.specs.Spent.{has_ended, has_none}
use Rattle.v_machine.proofs.Shifting.{get_drop}
use Rattle.v_machine.proofs.Current.{fails, posted_open, target_open}
use Rattle.v_machine.proofs.CurrentSteps.{no_moves}

-- What stands at a place.
row_get : (count at : ℕ) (e : Exchange) (es : List Exchange) →
    slice_get (replicate count e ++ e ∷ es) at ≡ slice_get (e ∷ es) (at - count)
row_get zero at e es = let same : at ≡ at - 0 = omega arith in ap (slice_get (e ∷ es)) same
row_get (suc count) zero e es = let same : 0 ≡ 0 - suc count = omega arith in ap (slice_get (e ∷ es)) same
row_get (suc count) (suc at) e es =
    let same : at - count ≡ suc at - suc count = omega arith in row_get count at e es ∙ ap (slice_get (e ∷ es)) same

pub get_behind : (count at : ℕ) (es : List Exchange) → slice_get (behind count es) at ≡ slice_get es (at - count)
get_behind count at [] = refl
get_behind count at (e ∷ es) = row_get count at e es

pub length_behind : (count : ℕ) (es : List Exchange) → HaveEnded count es → count + length es ≡ length (behind count es)
length_behind zero [] ended = refl
length_behind (suc count) [] ended = absurd (both_ways false refl (ended (omega arith)))
length_behind count (e ∷ es) ended =
    let both = length-append (replicate count e) (e ∷ es) in
    let front = length-replicate count e in
    omega arith

-- A Send is changed, of those that have ended none.
module _ (f : Exchange → Exchange) where
  row_change : (count at k : ℕ) (e : Exchange) (es : List Exchange) → at ≡ count + k →
      change_at at f (replicate count e ++ es) ≡ replicate count e ++ change_at k f es
  row_change zero at k e es is = let same : at ≡ k = omega arith in ap (λ i. change_at i f es) same
  row_change (suc count) zero k e es is = absurd (omega arith)
  row_change (suc count) (suc at) k e es is = ap (λ ys. e ∷ ys) (row_change count at k e es (omega arith))

  change_none : (number : ℕ) → change_numbered number f [] ≡ []
  change_none zero = refl
  change_none (suc n) = refl

  change_same : (xs : List Exchange) (at : ℕ) (e : Exchange) → slice_get xs at ≡ Some e → f e ≡ e → change_at at f xs ≡ xs
  change_same [] at e is same = refl
  change_same (x ∷ xs) zero e is same =
      let here = same_Some x e is in ap (λ z. z ∷ xs) (ap f here ∙ same ∙ sym here)
  change_same (x ∷ xs) (suc at) e is same = ap (λ ys. x ∷ ys) (change_same xs at e is same)

  abbrev pub Fixes : List Exchange → ℕ → Type 0
  Fixes es number = (e : Exchange) → numbered es number ≡ Some e → has_ended e ≡ true → f e ≡ e

  alone : (es : List Exchange) → behind 0 es ≡ es
  alone [] = refl
  alone (e ∷ es) = refl

  -- behind others, the first of which has ended
  some_change : (count n : ℕ) (e : Exchange) (es : List Exchange) → has_ended e ≡ true → Fixes (behind (suc count) (e ∷ es)) (suc n) →
      behind (suc count) (change_numbered (suc n - suc count) f (e ∷ es)) ≡ change_numbered (suc n) f (behind (suc count) (e ∷ es))
  some_change count n e es over fixes = elim (cases_lt (suc count) n) [
    | inl later ↦
        let m = n - (2 + count) in
        let place : suc n - suc count ≡ suc (suc m) = omega arith in
        let at : n ≡ suc count + suc m = omega arith in
        ap (λ i. behind (suc count) (change_numbered i f (e ∷ es))) place ∙ sym (row_change (suc count) n (suc m) e (e ∷ es) at)
    | inr early ↦
        let first : 0 ≡ n - suc count = omega arith in
        let here : slice_get (behind (suc count) (e ∷ es)) n ≡ Some e = row_get (suc count) n e es ∙ sym (ap (slice_get (e ∷ es)) first) in
        let same = fixes e here over in
        kept (suc n - suc count) (omega arith) same ∙ sym (change_same (behind (suc count) (e ∷ es)) n e here same)
  ]
    where
      kept : (i : ℕ) → i ≤ 1 → f e ≡ e → behind (suc count) (change_numbered i f (e ∷ es)) ≡ behind (suc count) (e ∷ es)
      kept zero low same = refl
      kept (suc zero) low same = ap (λ x. behind (suc count) (x ∷ es)) same
      kept (suc (suc i)) low same = absurd (omega arith)

  pub change_behind : (count number : ℕ) (es : List Exchange) → HaveEnded count es → Fixes (behind count es) number →
      behind count (change_numbered (number - count) f es) ≡ change_numbered number f (behind count es)
  change_behind count number [] ended fixes = ap (behind count) (change_none (number - count)) ∙ sym (change_none number)
  change_behind count zero (e ∷ es) ended fixes =
      let same : 0 - count ≡ 0 = omega arith in ap (λ i. behind count (change_numbered i f (e ∷ es))) same
  change_behind zero (suc n) (e ∷ es) ended fixes =
      let same : suc n - 0 ≡ suc n = omega arith in
      ap (λ i. behind 0 (change_numbered i f (e ∷ es))) same ∙ alone (change_numbered (suc n) f (e ∷ es))
  change_behind (suc count) (suc n) (e ∷ es) ended fixes = some_change count n e es (ended (omega arith)) fixes

  pub ended_change : (count number : ℕ) (es : List Exchange) → HaveEnded count es → Fixes (behind count es) number →
      HaveEnded count (change_numbered (number - count) f es)
  ended_change count number [] ended fixes some = absurd (both_ways false refl (ended some))
  ended_change count number (e ∷ es) ended fixes some = by_place (number - count) refl
    where
      at_first : number - count ≡ 1 → slice_get (behind count (e ∷ es)) count ≡ Some e
      at_first is = let first : count - count ≡ 0 = omega arith in row_get count count e es ∙ ap (slice_get (e ∷ es)) first

      by_place : (i : ℕ) → number - count ≡ i → holds_of has_ended (slice_get (change_numbered i f (e ∷ es)) 0) ≡ true
      by_place zero is = ended some
      by_place (suc zero) is =
          let place : suc count ≡ number = omega arith in
          ap has_ended (fixes e (ap (numbered (behind count (e ∷ es))) (sym place) ∙ at_first is) (ended some)) ∙ ended some
      by_place (suc (suc i)) is = ended some

  -- what has not ended
  pub live_fixes : (es : List Exchange) (number : ℕ) → holds_of has_ended (numbered es number) ≡ false → Fixes es number
  live_fixes es number live e at over = absurd (both_ways (has_ended e) (sym (ap (holds_of has_ended) at) ∙ live) over)

-- Some more are forgotten.
module _ (count m : ℕ) (es : List Exchange) (old : HaveEnded count es) (are : AreEnded m es) where
  new_get : (at : ℕ) → slice_get (behind (count + m) (drop m es)) at ≡ slice_get es (m + (at - (count + m)))
  new_get at = get_behind (count + m) at (drop m es) ∙ get_drop m (at - (count + m)) es

  there : (e : Exchange) → slice_get es m ≡ Some e → holds_of has_ended (slice_get (drop m es) 0) ≡ true
  there e at =
      let same : m + 0 ≡ m = omega arith in
      ap (holds_of has_ended) (get_drop m 0 es ∙ ap (slice_get es) same ∙ at) ∙ are.ended m e (omega arith) at

  pub still_ended : HaveEnded (count + m) (drop m es)
  still_ended some = elim ((slice_get_cases es m).1) [
    | inl w ↦ there w.0 w.2
    | inr w ↦ let before = are.before in let past = w.0 in absurd (omega arith)
  ]

  ended_low : (n : ℕ) (e : Exchange) → n ≤ count + m + 1 → numbered (behind count es) n ≡ Some e → has_ended e ≡ true
  ended_low zero e low at = absurd (none-some e at)
  ended_low (suc i) e low at = are.ended (i - count) e (omega arith) (sym (get_behind count i es) ∙ at)

  last_low : numbered (behind count es) (count + m + 1) ≡ slice_get es m
  last_low =
      let place : count + m + 1 ≡ suc (count + m) = omega arith in
      let same : count + m - count ≡ m = omega arith in
      ap (numbered (behind count es)) place ∙ get_behind count (count + m) es ∙ ap (slice_get es) same

  forgotten_low : (n : ℕ) → 0 < n → n ≤ count + m + 1 → numbered (behind (count + m) (drop m es)) n ≡ slice_get es m
  forgotten_low zero some low = absurd (omega arith)
  forgotten_low (suc i) some low = let same : m + (i - (count + m)) ≡ m = omega arith in new_get i ∙ ap (slice_get es) same

  kept_high : (n : ℕ) → count + m + 1 < n → numbered (behind (count + m) (drop m es)) n ≡ numbered (behind count es) n
  kept_high zero high = absurd (omega arith)
  kept_high (suc i) high =
      let a : m + (i - (count + m)) ≡ i - count = omega arith in
      new_get i ∙ ap (slice_get es) a ∙ sym (get_behind count i es)

  pub forgets : Forgets (behind count es) (behind (count + m) (drop m es))
  forgets =
      let before = are.before in
      let counted = length_behind count es old in
      let recounted = length_behind (count + m) (drop m es) still_ended in
      let dropped = length-drop m es in
      elim ((slice_get_cases es m).1) [
        | inl w ↦ inr (
          count + m + 1,
          record {
            count = omega arith;
            before = omega arith;
            ended = ended_low;
            last = w.0;
            is_last = last_low ∙ w.2;
            forgotten = λ n some low. forgotten_low n some low ∙ w.2;
            kept = kept_high;
          },
        )
        | inr w ↦ let past = w.0 in absurd (omega arith)
      ]

-- the first of these that has not ended stands at this place
below : (es : List Exchange) (at : ℕ) → position (λ e. not (has_ended e)) es ≡ Some at → at < length es
below [] at is = absurd (none-some at is)
below (e ∷ es) at is = (position-Some (λ e. not (has_ended e)) (e ∷ es) at e is).0

pub are_ended : (es : List Exchange) (at : ℕ) → position (λ e. not (has_ended e)) es ≡ Some at → 0 < at → AreEnded (at - 1) es
are_ended es at is some = record {
  before = let within = below es at is in omega arith;
  ended = λ i e low there.
      let found = position-Some (λ e. not (has_ended e)) es at e is in
      let within = found.0 in
      not-false (has_ended e) (ap (λ x. not (has_ended x)) (same_Some e (get_or es i e) (sym there ∙ slice_get-get_or es i e (omega arith)))
      ∙ found.2 i (omega arith));
}

-- What a changed list of those that are kept stands for.
module _ (f : Exchange → Exchange) (count number place : ℕ) (es new view : List Exchange) (ended : HaveEnded count es)
    (is : place ≡ number - count) (stands : behind count es ≡ view) (fixes : Fixes f view number) where
  before : Fixes f (behind count es) number
  before = subst (λ v. Fixes f v number) (sym stands) fixes

  pub changed : new ≡ change_numbered place f es → behind count new ≡ change_numbered number f view
  changed change = ap (behind count) (change ∙ ap (λ i. change_numbered i f es) is) ∙ change_behind f count number es ended before
      ∙ ap (change_numbered number f) stands

  pub changed_ended : new ≡ change_numbered place f es → HaveEnded count new
  changed_ended change = subst (HaveEnded count) (sym (change ∙ ap (λ i. change_numbered i f es) is))
      (ended_change f count number es ended before)

  pub ended_either : {T E : Type 0} (r : Result T E) → OnOk r (new ≡ change_numbered place f es) → OnErr r (new ≡ es) → HaveEnded count new
  ended_either (Ok x) ok err = changed_ended ok
  ended_either (Err e) ok err = subst (HaveEnded count) (sym err) ended

-- Changes that none sees of an exchange that has ended.
pub dropped_to_fixes : (host : ℕ) (es : List Exchange) (number : ℕ) → Fixes (dropped_to host) es number
dropped_to_fixes host es number e at over =
    cond-false (e.target.host == host && (is_posted e.stage || is_at_target e.stage)) (record e { stage = stages.Dropped }) e
    (and_right (e.target.host == host) (is_posted e.stage || is_at_target e.stage)
    (fails (is_posted e.stage || is_at_target e.stage) e
    (λ t. elim (or_cases (is_posted e.stage) (is_at_target e.stage) t) [
      | inl posted ↦ posted_open e posted
      | inr there ↦ target_open e there
    ]) over))

pub dropped_at_fixes : (gone : Pid) (es : List Exchange) (number : ℕ) → Fixes (dropped_at gone) es number
dropped_at_fixes gone es number e at over =
    cond-false (is_message_at gone e) (record e { stage = stages.Dropped }) e
    (fails (is_message_at gone e) e (λ t. target_open e (and_parts (same_pid e.at gone) (is_at_target e.stage) t).1) over)

moves_fixed : (f : Moving → Moving) → ((g : Moving) → g.moves ≡ [] → f g ≡ g) → (es : List Exchange) (number : ℕ) → Fixes (with_moves f)
    es number
moves_fixed f fixed es number e at over =
    ap (λ (g : Moving). record e { moves = g.moves; opened = g.opened; done = g.done })
    (fixed (moving_of e) (no_moves e.moves (and_parts (is_settled e.stage) (has_none e.moves) over).1))

pub opened_fixes : (moving : ℕ) (noted : Option (List ℕ)) (es : List Exchange) (number : ℕ) → Fixes (with_opened moving noted) es number
opened_fixes moving noted = moves_fixed (opened_moving moving noted) (λ g none.
    ap (λ ms. where_moves ms (record { moves = noted_in moving noted g.moves; opened = moving; done = 0 }) g) none)

pub written_fixes : (done : ℕ) (es : List Exchange) (number : ℕ) → Fixes (with_written done) es number
written_fixes done = moves_fixed (written_moving done) (λ g none. ap (λ ms. where_moves ms (record g { done = done }) g) none)

pub given_fixes : (from to : ℕ) (es : List Exchange) (number : ℕ) → Fixes (given_back from to) es number
given_fixes from to = moves_fixed (emptied_moving from to) (λ g none.
    ap (λ ms. record g { moves = emptied_between g.opened g.done from (to + 1) 1 ms }) none
    ∙ ap (λ ms. record g { moves = ms }) (sym none))

-- A Send that is posted still is, where those before it are dropped.
pub posted_stays : (low high number host : ℕ) (old new : List Exchange) →
    numbered new number ≡ option_map (dropped_between low high host number) (numbered old number) → high ≡ number →
    holds_of (λ (e : Exchange). is_posted e.stage) (numbered old number) ≡ true → holds_of has_ended (numbered new number) ≡ false
posted_stays low high number host old new is last posted = ap (holds_of has_ended) is ∙ by_option (numbered old number) posted
  where
    by_option : (o : Option Exchange) → holds_of (λ (e : Exchange). is_posted e.stage) o ≡ true →
        holds_of has_ended (option_map (dropped_between low high host number) o) ≡ false
    by_option None t = absurd (both_ways false refl t)
    by_option (Some e) t =
        ap has_ended (cond-false (nat_le low number && nat_lt number high) (dropped_to host e) e
        (and_right (nat_le low number) (nat_lt number high) (le-ltb number high (omega arith))))
        ∙ posted_open e t

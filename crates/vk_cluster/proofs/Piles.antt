-- What is kept stands for what was added to it.
use Rattle.std.proofs.Common.{◌≡◌, ℕ, zero, suc, ◌+◌, ◌-◌, ◌<◌, ◌≤◌, List, [], ◌∷◌, ◌++◌, length, map, get_or, set, refl, sym, ap, subst, ◌∙◌, append_assoc, arith}
use Rattle.std.specs.Prelude.{sum_by}
use Rattle.std.proofs.lemmas.List.{append-nil, length-append, map-set, map_push, get_or-map}
use Rattle.std.specs.List.{concat}
use Rattle.std.proofs.lemmas.List.Concat.{concat_is, length-flat_map}
use Rattle.std.proofs.lemmas.List.Folds.{concat-append}
use Rattle.std.proofs.lemmas.List.Sums.{sum_by-append}
use Rattle.vk_rules.specs.Each.{Each}
use Rattle.vk_rules.proofs.Lists.{each_append}
use Rattle.vk_cluster.specs.declared.emitted.Span.{Span}
use Rattle.vk_cluster.specs.Piles.{IsAdded, IsAdding, IsPileKept, IsSpanWithin, Pile, end_event, event_added, frames_by_event, put_frame, spanned}
use Rattle.vk_cluster.proofs.Pieces.{all_pieces_more, all_within_more, last_piece}

-- The bytes of all frames.
pub concat_length : (fs : List (List ℕ)) → length (concat fs) ≡ sum_by length fs
concat_length fs = ap length (concat_is fs) ∙ length-flat_map (λ f. f) fs

pub concat_push : (fs : List (List ℕ)) (f : List ℕ) → concat (fs ++ f ∷ []) ≡ concat fs ++ f
concat_push fs f = concat-append fs (f ∷ []) ∙ ap (λ l. concat fs ++ l) (append-nil f)

-- Frames that are added.
pub adding_none : (p : Pile) → IsPileKept p → IsAdding p p []
adding_none p kept = record {
  kept = kept;
  frames = sym (append-nil p.frames);
  shown = refl;
  events = refl;
  bytes = omega arith;
}

put_kept : (p : Pile) (f : List ℕ) → IsPileKept p → IsPileKept (put_frame p f)
put_kept p f kept =
    let more : length p.frames ≤ length (p.frames ++ f ∷ []) = omega (arith, length-append p.frames (f ∷ [])) in
    all_within_more (length p.frames) (length (p.frames ++ f ∷ [])) p.events more kept

pub adding_one : (before now : Pile) (fs : List (List ℕ)) (f : List ℕ) → IsAdding before now fs →
    IsAdding before (put_frame now f) (fs ++ f ∷ [])
adding_one before now fs f is =
    let size : sum_by length (fs ++ f ∷ []) ≡ sum_by length fs + sum_by length (f ∷ []) = sum_by-append length fs (f ∷ []) in
    let bytes = is.bytes in
    record {
      kept = put_kept now f is.kept;
      frames = ap (λ l. l ++ f ∷ []) is.frames ∙ append_assoc before.frames fs (f ∷ []);
      shown = all_pieces_more now.frames (f ∷ []) now.events is.kept ∙ is.shown;
      events = is.events;
      bytes = omega (arith, length-append now.bytes f);
    }

pub adding_more : (before now next : Pile) (fs : List (List ℕ)) (f : List ℕ) → IsAdding before now fs → next ≡ put_frame now f →
    IsAdding before next (fs ++ f ∷ [])
adding_more before now next fs f is next_is =
    let P : Pile → Type 0 = λ p. IsAdding before p (fs ++ f ∷ []) in subst P (sym next_is) (adding_one before now fs f is)

-- The event that they are of.
each_set : {A : Type 0} (P : A → Type 0) (xs : List A) (i : ℕ) (x : A) → Each P xs → P x → Each P (set xs i x)
each_set P [] i x h one = tt
each_set P (y ∷ ys) zero x h one = (one, h.1)
each_set P (y ∷ ys) (suc i) x h one = (h.0, each_set P ys i x h.1 one)

each_get : {A : Type 0} (P : A → Type 0) (xs : List A) (i : ℕ) (d : A) → Each P xs → P d → P (get_or xs i d)
each_get P [] i d h none = none
each_get P (y ∷ ys) zero d h none = h.0
each_get P (y ∷ ys) (suc i) d h none = each_get P ys i d h.1 none

ended_kept : (p : Pile) (place first : ℕ) → first ≤ length p.frames → IsPileKept p → IsPileKept (end_event p place first)
ended_kept p place first low kept =
    let one : Span = record { from = first; count = length p.frames - first } in
    let fits : IsSpanWithin (length p.frames) one = omega arith in
    each_set (Each (IsSpanWithin (length p.frames))) p.events place (get_or p.events place [] ++ one ∷ []) kept
    (each_append (IsSpanWithin (length p.frames)) (get_or p.events place []) (one ∷ [])
    (each_get (Each (IsSpanWithin (length p.frames))) p.events place [] kept tt) (fits, tt))

event_shown : (frames : List (List ℕ)) (events : List (List Span)) (place : ℕ) (one : Span) → place < length events →
    map (map (spanned frames)) (event_added events place one) ≡ event_added (map (map (spanned frames)) events) place (spanned frames one)
event_shown frames events place one low =
    let f : List Span → List (List (List ℕ)) = map (spanned frames) in
    let old = get_or events place [] in
    map-set f events place (old ++ one ∷ [])
    ∙ ap (set (map f events) place) (map_push (spanned frames) old one
    ∙ ap (λ l. l ++ spanned frames one ∷ []) (sym (get_or-map f events place [] [] low)))

added_one : (before now : Pile) (fs : List (List ℕ)) (place first : ℕ) → place < length before.events → first ≡ length before.frames →
    IsAdding before now fs →
    IsAdded before (end_event now place first) place fs
added_one before now fs place first low at is =
    let count : length now.frames ≡ length before.frames + length fs = ap length is.frames ∙ length-append before.frames fs in
    let one : Span = record { from = first; count = length now.frames - first } in
    let size : length now.frames - first ≡ length fs = omega arith in
    let below : place < length now.events = subst (λ (l : List (List Span)). place < length l) (sym is.events) low in
    record {
      kept = ended_kept now place first (omega arith) is.kept;
      shown =
          event_shown now.frames now.events place one below
          ∙ ap (λ l. event_added l place (spanned now.frames one)) is.shown
          ∙ ap (λ l. event_added (frames_by_event before) place (spanned l one)) is.frames
          ∙ ap (event_added (frames_by_event before) place) (last_piece before.frames fs one at size);
      bytes = is.bytes;
    }

pub added : (before now next : Pile) (fs : List (List ℕ)) (place first : ℕ) → place < length before.events →
    first ≡ length before.frames →
    IsAdding before now fs → next ≡ end_event now place first → IsAdded before next place fs
added before now next fs place first low at is next_is =
    let P : Pile → Type 0 = λ p. IsAdded before p place fs in subst P (sym next_is) (added_one before now fs place first low at is)

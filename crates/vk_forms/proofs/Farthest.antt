-- The form that a line follows farthest.
use Rattle.std.proofs.Common.{◌≡◌, ℕ, ◌+◌, ◌==◌, ◌≤◌, ◌||◌, nat_lt, Bool, true, false, inl, inr, if◌then◌else◌, List, [], ◌∷◌, ◌++◌, length, refl, sym, ap, ◌∙◌, arith}
use Rattle.std.proofs.lemmas.Bool.{cases_Bool}
use Rattle.vk_types.specs.Types.{ProcessSpec}
use Rattle.vk_text.specs.Lines.{words_from}
use Rattle.vk_forms.specs.Follow.{Stop, farthest, fewer, follows, goes_on, is_whole, stop, stop_at, stop_of, unread}
use Rattle.vk_forms.specs.declared.follow.Mark.{Mark}
use Rattle.vk_forms.specs.Forms.{Form, behind}

-- Forms one behind the other.

pub farthest_append : (specs : List ProcessSpec) (ws : List (List ℕ)) (fs : List Form) (best : List (List ℕ)) (gs : List Form)
    → farthest specs ws best (fs ++ gs) ≡ farthest specs ws (farthest specs ws best fs) gs
unfolding farthest
farthest_append specs ws [] best gs = refl
farthest_append specs ws (f ∷ fs) best gs = farthest_append specs ws fs (fewer best (stop_of specs f ws).left) gs

or_assoc : (a b c : Bool) → (a || (b || c)) ≡ ((a || b) || c)
or_assoc true b c = refl
or_assoc false b c = refl

pub follows_append : (specs : List ProcessSpec) (ws : List (List ℕ)) (fs gs : List Form)
    → follows specs ws (fs ++ gs) ≡ (follows specs ws fs || follows specs ws gs)
unfolding follows
follows_append specs ws [] gs = refl
follows_append specs ws (f ∷ fs) gs =
    ap (λ b. is_whole (stop_of specs f ws) || b) (follows_append specs ws fs gs)
    ∙ or_assoc (is_whole (stop_of specs f ws)) (follows specs ws fs) (follows specs ws gs)

pub goes_on_append : (specs : List ProcessSpec) (ws : List (List ℕ)) (left : ℕ) (fs gs : List Form)
    → goes_on specs ws left (fs ++ gs) ≡ goes_on specs ws left fs ++ goes_on specs ws left gs
unfolding goes_on
goes_on_append specs ws left [] gs = refl
goes_on_append specs ws left (f ∷ fs) gs = elim (cases_Bool (length (stop_of specs f ws).left == left)) [
  | inl same ↦ rw same (ap (λ l. (stop_of specs f ws).slot ∷ l) (goes_on_append specs ws left fs gs))
  | inr other ↦ rw other (goes_on_append specs ws left fs gs)
]

-- One row more, where the line follows the words in front of it up to this slot and these words.

pub farther_on : (specs : List ProcessSpec) (x : List (List ℕ)) (ws best : List (List ℕ)) (front : List ℕ) (rows : List (List ℕ)) (row : List ℕ)
    (more : List (List ℕ)) (slot : List ℕ) (left now : List (List ℕ))
    → x ≡ farthest specs ws best (behind front rows) → rows ≡ row ∷ more
    → slot ≡ (stop specs (words_from front 0) ws).slot → left ≡ (stop specs (words_from front 0) ws).left
    → now ≡ fewer best (stop_at specs row slot left).left → x ≡ farthest specs ws now (behind front more)
unfolding farthest
farther_on specs x ws best front rows row more slot left now h e s l n = rw (h, e, n, s, l) refl

pub farthest_done : (specs : List ProcessSpec) (x : List (List ℕ)) (ws best : List (List ℕ)) (front : List ℕ) (rows : List (List ℕ))
    → x ≡ farthest specs ws best (behind front rows) → rows ≡ [] → best ≡ x
unfolding farthest
farthest_done specs x ws best front rows h e = sym (rw e at h)

less_by : (a b n v w : ℕ) → a + v ≡ n → b + w ≡ n → nat_lt a b ≡ nat_lt w v
less_by a b n v w h k = grind arith

-- the one behind which more words were read leaves the fewer
pub leaves_fewer : (a b n : ℕ) (vs ws : List (List ℕ)) → a + length vs ≡ n → b + length ws ≡ n
    → (if nat_lt a b then ws else vs) ≡ fewer vs ws
leaves_fewer a b n vs ws h k = ap (λ c. if c then ws else vs) (less_by a b n (length vs) (length ws) h k)

pub whole_row : (specs : List ProcessSpec) (x : Bool) (ws : List (List ℕ)) (front : List ℕ) (rows : List (List ℕ)) (row : List ℕ)
    (more : List (List ℕ)) (slot : List ℕ) (left : List (List ℕ)) (whole : Bool)
    → x ≡ follows specs ws (behind front rows) → rows ≡ row ∷ more
    → slot ≡ (stop specs (words_from front 0) ws).slot → left ≡ (stop specs (words_from front 0) ws).left
    → whole ≡ is_whole (stop_at specs row slot left) → x ≡ (whole || follows specs ws (behind front more))
unfolding follows
whole_row specs x ws front rows row more slot left whole h e s l w = rw (h, e, w, s, l) refl

pub none_whole : (specs : List ProcessSpec) (x : Bool) (ws : List (List ℕ)) (front : List ℕ) (rows : List (List ℕ))
    → x ≡ follows specs ws (behind front rows) → rows ≡ [] → x ≡ false
unfolding follows
none_whole specs x ws front rows h e = rw e at h

-- Of two marks the farther one.

pub mark_left : (line : List ℕ) (best other now : Mark) (n : ℕ) → now ≡ (if nat_lt best.words other.words then other else best)
    → best.words + length (words_from line best.at) ≡ n → other.words + length (words_from line other.at) ≡ n
    → words_from line now.at ≡ fewer (words_from line best.at) (words_from line other.at)
mark_left line best other now n e h k =
    let fewest = leaves_fewer best.words other.words n (words_from line best.at) (words_from line other.at) h k in
    elim (cases_Bool (nat_lt best.words other.words)) [
      | inl less ↦ ap (λ (m : Mark). words_from line m.at) (rw less at e) ∙ rw less at fewest
      | inr more ↦ ap (λ (m : Mark). words_from line m.at) (rw more at e) ∙ rw more at fewest
    ]

pub mark_words : (line : List ℕ) (best other now : Mark) (n : ℕ) → now ≡ (if nat_lt best.words other.words then other else best)
    → best.words + length (words_from line best.at) ≡ n → other.words + length (words_from line other.at) ≡ n
    → now.words + length (words_from line now.at) ≡ n
mark_words line best other now n e h k = elim (cases_Bool (nat_lt best.words other.words)) [
  | inl less ↦ rw (rw less at e) k
  | inr more ↦ rw (rw more at e) h
]

pub mark_within : (best other now : Mark) (n : ℕ) → now ≡ (if nat_lt best.words other.words then other else best)
    → best.at ≤ n → other.at ≤ n → now.at ≤ n
mark_within best other now n e h k = elim (cases_Bool (nat_lt best.words other.words)) [
  | inl less ↦ rw (rw less at e) k
  | inr more ↦ rw (rw more at e) h
]

pub whole_same : (s : Stop) (slot : List ℕ) (left : List (List ℕ)) (b : Bool) → slot ≡ s.slot → left ≡ s.left
    → b ≡ is_whole (record { slot = slot; left = left }) → b ≡ is_whole s
whole_same s slot left b e f h = rw (e, f) at h

-- All forms of a text.

pub farthest_parts : (specs : List ProcessSpec) (ws : List (List ℕ)) (fs gs hs ks : List Form) (a b c d : List (List ℕ))
    → a ≡ farthest specs ws ws fs → b ≡ farthest specs ws a gs → c ≡ farthest specs ws b hs → d ≡ farthest specs ws c ks
    → d ≡ unread specs (((fs ++ gs) ++ hs) ++ ks) ws
farthest_parts specs ws fs gs hs ks a b c d e f g h =
    let last = farthest_append specs ws ((fs ++ gs) ++ hs) ws ks in
    let third = farthest_append specs ws (fs ++ gs) ws hs in
    let second = farthest_append specs ws fs ws gs in
    cc

pub follows_parts : (specs : List ProcessSpec) (ws : List (List ℕ)) (fs gs hs ks : List Form) (a b c d : Bool)
    → a ≡ follows specs ws fs → b ≡ follows specs ws gs → c ≡ follows specs ws hs → d ≡ follows specs ws ks
    → (((a || b) || c) || d) ≡ follows specs ws (((fs ++ gs) ++ hs) ++ ks)
follows_parts specs ws fs gs hs ks a b c d e f g h =
    rw (follows_append specs ws ((fs ++ gs) ++ hs) ks, follows_append specs ws (fs ++ gs) hs, follows_append specs ws fs gs)
    (rw (e, f, g, h) refl)

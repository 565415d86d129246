-- Openings of texts of stations, which are those of format 2.
use Rattle.std.proofs.Common.{◌≡◌, ℕ, ◌≤◌, ◌⊎◌, ◌&&◌, ◌==◌, Bool, true, false, cond, List, [], ◌∷◌, ◌++◌, length, map, codes, bytes_eq, not, append-nil, Ok, Err, refl, arith, ap, sym, subst, ◌∙◌, inl, inr}
use Rattle.std.specs.List.{flat_map, list_all}
use Rattle.std.proofs.lemmas.List.{length-append}
use Rattle.std.proofs.lemmas.Bool.{and_parts, cond-false, eqb-true, not-true, not-false}
use Rattle.std.proofs.lemmas.Fmt.{decimal_digit}
use Rattle.std.proofs.lemmas.Slice.Eq.{bytes_eq-Decides}
use Rattle.vk_types.specs.Types.{Times}
use Rattle.vk_base.specs.Settings.{Settings, pool_of, stations_of}
use Rattle.vk_text.specs.Heads.{line_text, process_text, usual_times}
use Rattle.vk_text.specs.Lines.{lines_of}
use Rattle.vk_text.specs.Openings.{HasProcesses, IsOpening, IsTellable, has_usual_pool, is_usual, pool_text, line_number, opening_of, opening_text, pool_lines, same_times, timed_lines, timed_opening, times_text}
use Rattle.vk_text.specs.declared.opening.OpeningRefusal.{OpeningRefusal}
use Rattle.vk_text.specs.declared.opening.OpeningRefusal.TheVariants as openings
use Rattle.vk_text.proofs.OpeningLaws.{openings_spelled}
use Rattle.vk_text.proofs.Spelled.{either_word}
use Rattle.vk_schedule.specs.declared.schedule.TextRefusal.TheVariants as refusals
use Rattle.vk_event.specs.NodeLaws.{IsNodeOpening}
use Rattle.vk_event.specs.Nodes.{HasNodeProcess, node_opening, node_title, nodes_by, nodes_of}

-- a title of format 1 that no text of stations has
abbrev pub other : List ℕ
other = codes "vkernel 1"

-- What is read.

by_title : (l : List ℕ) (ls : List (List ℕ)) → l ≡ node_title → node_opening (l ∷ ls) ≡ opening_of other node_title (l ∷ ls)
unfolding node_opening opening_of
by_title l ls is = subst (λ t. node_opening (t ∷ ls) ≡ opening_of other node_title (t ∷ ls)) (sym is) refl

pub titled : (lines : List (List ℕ)) (l : List ℕ) (ls : List (List ℕ)) → lines ≡ l ∷ ls → bytes_eq l node_title ≡ true →
    node_opening lines ≡ opening_of other node_title lines
titled lines l ls is same =
    subst (λ t. node_opening t ≡ opening_of other node_title t) (sym is) (by_title l ls ((bytes_eq-Decides l node_title).0 same))

no_lines : (lines : List (List ℕ)) → lines ≡ [] → node_opening lines ≡ Err 1
unfolding node_opening
no_lines lines is = ap node_opening is

untitled : (lines : List (List ℕ)) (l : List ℕ) (ls : List (List ℕ)) → lines ≡ l ∷ ls → bytes_eq l node_title ≡ false →
    node_opening lines ≡ Err 1
unfolding node_opening
untitled lines l ls is differs = ap node_opening is ∙ cond-false _ _ _ differs

refused_of : (text : List ℕ) (n : ℕ) → node_opening (lines_of text) ≡ Err n → nodes_of text ≡ Err (refusals.BadInput n)
refused_of text n h = ap (nodes_by (lines_of text)) h

-- no line is there, or the first is not the title
pub nothing : (text : List ℕ) → lines_of text ≡ [] → nodes_of text ≡ Err (refusals.BadInput 1)
nothing text none = refused_of text 1 (no_lines (lines_of text) none)

pub other_title : (text l : List ℕ) (ls : List (List ℕ)) → lines_of text ≡ l ∷ ls → bytes_eq l node_title ≡ false →
    nodes_of text ≡ Err (refusals.BadInput 1)
other_title text l ls is differs = refused_of text 1 (untitled (lines_of text) l ls is differs)

-- behind the title an opening in format 2 is read
pub opened : (text l : List ℕ) (ls rest : List (List ℕ)) (c : Settings) → lines_of text ≡ l ∷ ls → bytes_eq l node_title ≡ true →
    opening_of other node_title (lines_of text) ≡ Ok (c, rest) → node_opening (lines_of text) ≡ Ok (c, rest)
opened text l ls rest c is same h = titled (lines_of text) l ls is same ∙ h

-- why there is none
pub not_opened : (text l : List ℕ) (ls : List (List ℕ)) (e : OpeningRefusal) (n : ℕ) → lines_of text ≡ l ∷ ls →
    bytes_eq l node_title ≡ true → e ≡ openings.Bad n →
    ((e ≡ openings.NoMemory) × HasProcesses (opening_of other node_title (lines_of text)))
    ⊎ ((line : ℕ) × (e ≡ openings.Bad line) × (opening_of other node_title (lines_of text) ≡ Err line)) →
    nodes_of text ≡ Err (refusals.BadInput n)
not_opened text l ls e n is same bad (inl h) = cc
not_opened text l ls e n is same bad (inr h) =
    let number : h.0 ≡ n = cc in
    refused_of text n (titled (lines_of text) l ls is same ∙ h.2 ∙ ap Err number)

pub wanting : (text l : List ℕ) (ls : List (List ℕ)) (e : OpeningRefusal) → lines_of text ≡ l ∷ ls → bytes_eq l node_title ≡ true →
    e ≡ openings.NoMemory →
    ((e ≡ openings.NoMemory) × HasProcesses (opening_of other node_title (lines_of text)))
    ⊎ ((line : ℕ) × (e ≡ openings.Bad line) × (opening_of other node_title (lines_of text) ≡ Err line)) →
    HasNodeProcess text
wanting text l ls e is same none (inl h) = subst HasProcesses (sym (titled (lines_of text) l ls is same)) h.1
wanting text l ls e is same none (inr h) = cc

-- an opening has a title and a line at least
pub some_lines : (lines rest : List (List ℕ)) (c : Settings) (n : ℕ) → opening_of other node_title lines ≡ Ok (c, rest) →
    n ≡ line_number lines rest → 2 ≤ n
some_lines lines rest c n h number =
    let front = openings_spelled other node_title lines rest c h in
    by_front front.1.1 front.1.2
  where
    by_front : {fs : List (List ℕ)} → IsOpening other node_title c fs → lines ≡ fs ++ rest → 2 ≤ n
    by_front {fs} (inl is) whole =
        omega (arith, number, ap length whole, length-append fs rest, ap length is.1)
    by_front {fs} (inr is) whole =
        omega (arith, number, ap length whole, length-append fs rest, ap length is.2)

-- what stands first is an opening in format 2, and the rest behind it
pub record IsNodeFront (lines rest : List (List ℕ)) (c : Settings) : Type 0 where
  pub told : IsTellable c
  pub opening : List (List ℕ)
  pub is : IsNodeOpening c opening
  pub whole : lines ≡ opening ++ rest

same_first : (x y : List ℕ) (xs ys : List (List ℕ)) → x ∷ xs ≡ y ∷ ys → x ≡ y
same_first x y xs ys h = cc

by_kind : (ls rest opening : List (List ℕ)) (c : Settings) → IsTellable c → IsOpening other node_title c opening →
    node_title ∷ ls ≡ opening ++ rest → IsNodeFront (node_title ∷ ls) rest c
by_kind ls rest opening c told (inl is) whole =
    let title : node_title ≡ other = same_first node_title other ls _ (whole ∙ ap (λ x. x ++ rest) is.1) in
    absurd (omega (arith, ap length title))
by_kind ls rest opening c told (inr is) whole = record { told = told; opening = opening; is = is; whole = whole }

timed_front : (ls rest : List (List ℕ)) (c : Settings) → timed_opening ls ≡ Ok (c, rest) → IsNodeFront (node_title ∷ ls) rest c
unfolding opening_of
timed_front ls rest c h =
    let front = openings_spelled other node_title (node_title ∷ ls) rest c h in
    by_kind ls rest front.1.0 c front.0 front.1.1 front.1.2

pub front : (lines rest : List (List ℕ)) (c : Settings) → node_opening lines ≡ Ok (c, rest) → IsNodeFront lines rest c
unfolding node_opening
front [] rest c h = cc
front (l ∷ ls) rest c h =
    either_word (IsNodeFront (l ∷ ls) rest c) l node_title (timed_opening ls) (Err 1) (Ok (c, rest))
    (λ title read. subst (λ t. IsNodeFront (t ∷ ls) rest c) (sym title) (timed_front ls rest c read)) (λ none. cc) h

pub told : (lines rest : List (List ℕ)) (c : Settings) → node_opening lines ≡ Ok (c, rest) → IsTellable c
told lines rest c h = (front lines rest c h).told

-- a test of the title in code

pub is_titled : (l word : List ℕ) → false ≡ not (bytes_eq l word) → word ≡ node_title → bytes_eq l node_title ≡ true
is_titled l word h is = ap (bytes_eq l) (sym is) ∙ not-false (bytes_eq l word) (sym h)

pub is_untitled : (l word : List ℕ) → true ≡ not (bytes_eq l word) → word ≡ node_title → bytes_eq l node_title ≡ false
is_untitled l word h is = ap (bytes_eq l) (sym is) ∙ not-true (bytes_eq l word) (sym h)

-- What is written.

no_pools : (c : Settings) (hosts : List ℕ) → list_all (has_usual_pool c) hosts ≡ true → flat_map (pool_lines c) hosts ≡ []
no_pools c [] h = refl
no_pools c (k ∷ ks) h =
    let both = and_parts (has_usual_pool c k) (list_all (has_usual_pool c) ks) h in
    ap (λ b. cond b [] (pool_text k (pool_of c k) ∷ []) ++ flat_map (pool_lines c) ks) both.0 ∙ no_pools c ks both.1

usual_times_by : (t : Times) → same_times t usual_times ≡ true → times_text t ≡ times_text usual_times
usual_times_by t h =
    let a = and_parts (t.tries == 5 && t.interval == 4) (t.life == 8) h in
    let b = and_parts (t.tries == 5) (t.interval == 4) a.0 in
    rw (eqb-true t.tries 5 b.0, eqb-true t.interval 4 b.1, eqb-true t.life 8 a.1) refl

-- a title of format 1 that tells the usual times, too
abbrev pub both_lines : List ℕ
both_lines = codes "vkernel node 1\ntimes 5 4 8"

usual_text : times_text usual_times ≡ codes "times 5 4 8"
usual_text =
    rw (decimal_digit 5 (omega arith), decimal_digit 4 (omega arith), decimal_digit 8 (omega arith)) refl

usual_lines : (c : Settings) → is_usual c ≡ true →
    flat_map line_text (both_lines ∷ map process_text c.specs) ≡ flat_map line_text (timed_lines node_title c)
usual_lines c h =
    let parts = and_parts (same_times c.times usual_times) (list_all (has_usual_pool c) (stations_of c.specs)) h in
    let times = usual_times_by c.times parts.0 ∙ usual_text in
    let pools = no_pools c (stations_of c.specs) parts.1 in
    let processes : List (List ℕ) = map process_text c.specs in
    sym (ap (λ l. flat_map line_text (node_title ∷ l ∷ (processes ++ flat_map (pool_lines c) (stations_of c.specs)))) times
    ∙ ap (λ l. flat_map line_text (node_title ∷ codes "times 5 4 8" ∷ (processes ++ l))) pools
    ∙ ap (λ l. flat_map line_text (node_title ∷ codes "times 5 4 8" ∷ l)) (append-nil processes))

by_usual : (c : Settings) (b : Bool) → is_usual c ≡ b →
    flat_map line_text (cond b (both_lines ∷ map process_text c.specs) (timed_lines node_title c))
    ≡ flat_map line_text (timed_lines node_title c)
by_usual c true h = usual_lines c h
by_usual c false h = refl

pub always_timed : (c : Settings) → opening_text both_lines node_title c ≡ flat_map line_text (timed_lines node_title c)
always_timed c = by_usual c (is_usual c) refl

-- Texts of stations, line by line.
use Rattle.std.proofs.Common.{◌≡◌, ℕ, zero, suc, ◌+◌, ◌-◌, ◌<◌, ◌⊎◌, List, [], ◌∷◌, length, take, drop, Result, Ok, Err, refl, ap, sym, subst, ◌∙◌, inl, inr, arith}
use Rattle.vk_base.specs.Settings.{Settings}
use Rattle.vk_text.specs.Lines.{lines_of}
use Rattle.vk_text.specs.Openings.{HasProcesses, line_number}
use Rattle.vk_schedule.specs.declared.schedule.TextRefusal.{TextRefusal}
use Rattle.vk_schedule.specs.declared.schedule.TextRefusal.TheVariants as refusals
use Rattle.vk_schedule.specs.declared.log.StationLog.{StationLog}
use Rattle.vk_event.specs.declared.node_place.Due.{Due}
use Rattle.vk_event.specs.NodePlaces.{AreLogs, IsEnd, IsOfStation, lines_at, reading_by}
use Rattle.vk_event.specs.Nodes.{HasNodeProcess, Reading, all_read, behind_title, line_read, node_opening, nodes_by, nodes_from, nodes_of, then_read}

module _ (c : Settings) (opening : List (List ℕ)) where
  -- one line after the other
  pub line_more : (n : ℕ) (r s : Reading) (l : List ℕ) (ls lines : List (List ℕ)) → lines ≡ l ∷ ls → line_read c opening n r l ≡ Ok s →
      nodes_from c opening n r lines ≡ nodes_from c opening (n + 1) s ls
  unfolding nodes_from
  line_more n r s l ls lines is read =
      ap (nodes_from c opening n r) is ∙ ap (λ x. then_read x (λ s. nodes_from c opening (n + 1) s ls)) read

  pub line_bad : (n : ℕ) (r : Reading) (e : TextRefusal) (l : List ℕ) (ls lines : List (List ℕ)) → lines ≡ l ∷ ls →
      line_read c opening n r l ≡ Err e → nodes_from c opening n r lines ≡ Err e
  unfolding nodes_from
  line_bad n r e l ls lines is read =
      ap (nodes_from c opening n r) is ∙ ap (λ x. then_read x (λ s. nodes_from c opening (n + 1) s ls)) read

  pub no_more : (n : ℕ) (r : Reading) (lines : List (List ℕ)) → lines ≡ [] → nodes_from c opening n r lines ≡ all_read c n r
  unfolding nodes_from
  no_more n r lines is = ap (nodes_from c opening n r) is

  -- in code

  -- why the reading stops at a line
  pub stops : (n m : ℕ) (r before : Reading) (e : TextRefusal) (l : List ℕ) (ls lines start : List (List ℕ)) →
      nodes_from c opening n r start ≡ nodes_from c opening m before lines → lines ≡ l ∷ ls →
      ((e ≡ refusals.NoMemory) × (0 < length c.specs)) ⊎ (line_read c opening m before l ≡ Err e) →
      ((e ≡ refusals.NoMemory) × (0 < length c.specs)) ⊎ (nodes_from c opening n r start ≡ Err e)
  stops n m r before e l ls lines start same here (inl none) = inl none
  stops n m r before e l ls lines start same here (inr bad) = inr (same ∙ line_bad m before e l ls lines here bad)

  pub ends : (n m : ℕ) (start lines : List (List ℕ)) (text : List ℕ) (logs : List StationLog) (due : Due)
      (result : Result (List StationLog) TextRefusal) →
      nodes_from c opening n (Reading.Opening [] []) start ≡ nodes_from c opening m (reading_by text logs due) lines →
      lines ≡ [] → IsOfStation c due → IsEnd m logs due result → AreLogs c opening n start result
  ends n m start lines text logs due (Ok whole) same none on end = same ∙ no_more m (reading_by text logs due) lines none ∙ end c text
  ends n m start lines text logs due (Err e) same none on end = elim (end c text on) [
    | inl wanting ↦ inl wanting
    | inr bad ↦ inr (same ∙ no_more m (reading_by text logs due) lines none ∙ bad)
  ]

-- The opening of the first text.

one_less : (k : ℕ) (lines : List (List ℕ)) → drop 1 (take k lines) ≡ take (k - 1) (drop 1 lines)
one_less zero lines = refl
one_less (suc k) [] = sym (no_lines (suc k - 1))
  where
    no_lines : (n : ℕ) → take n (drop {A = List ℕ} 1 []) ≡ []
    no_lines zero = refl
    no_lines (suc n) = refl
one_less (suc k) (l ∷ ls) = let same : k ≡ suc k - 1 = omega arith in ap (λ n. take n ls) same

-- where the first text opens, its texts are read from behind the opening on
pub behind_opening : (text : List ℕ) (c : Settings) (at second line count : ℕ) →
    node_opening (lines_of text) ≡ Ok (c, lines_of (drop at text)) → line ≡ line_number (lines_of text) (lines_of (drop at text)) →
    lines_of (drop second text) ≡ drop 1 (lines_of text) → count ≡ line - 2 →
    nodes_from c (lines_at text second count) line (Reading.Opening [] []) (lines_of (drop at text)) ≡ nodes_of text
behind_opening text c at second line count found number lines few =
    let all : ℕ = length (lines_of text) in
    let left : ℕ = length (lines_of (drop at text)) in
    let same : line - 2 ≡ all - left - 1 = omega (arith, number) in
    let opening : lines_at text second count ≡ behind_title (lines_of text) (lines_of (drop at text)) =
    ap (take count) lines ∙ ap (λ n. take n (drop 1 (lines_of text))) (few ∙ same) ∙ sym (one_less (all - left) (lines_of text)) in
    ap (λ o. nodes_from c o line (Reading.Opening [] []) (lines_of (drop at text))) opening
    ∙ ap (λ n. nodes_from c (behind_title (lines_of text) (lines_of (drop at text))) n (Reading.Opening [] []) (lines_of (drop at text))) number
    ∙ sym (ap (nodes_by (lines_of text)) found)

-- memory is wanted where a process stands
pub some_process : (text : List ℕ) (c : Settings) (rest : List (List ℕ)) → node_opening (lines_of text) ≡ Ok (c, rest) →
    0 < length c.specs → HasNodeProcess text
some_process text c rest found some = subst HasProcesses (sym found) some

pub refused_behind : (text : List ℕ) (c : Settings) (e : TextRefusal) (opening rest : List (List ℕ)) (n : ℕ) →
    node_opening (lines_of text) ≡ Ok (c, rest) →
    nodes_from c opening n (Reading.Opening [] []) rest ≡ nodes_of text → AreLogs c opening n rest (Err e) →
    ((e ≡ refusals.NoMemory) × HasNodeProcess text) ⊎ (nodes_of text ≡ Err e)
refused_behind text c e opening rest n found same (inl none) = inl (none.0, some_process text c rest found none.1)
refused_behind text c e opening rest n found same (inr bad) = inr (sym same ∙ bad)

-- What a text and a draft behind it are together.
use Rattle.std.proofs.Common.{◌≡◌, ℕ, List, ◌++◌, length, take, drop, ap, sym, ◌∙◌, append_assoc}
use Rattle.std.proofs.Math.Seq.{take-append_seam}
use Rattle.std.proofs.lemmas.List.{take-append-drop}
use Rattle.vk_text.specs.Spelling.{StartsWith}
use Rattle.vk_text.proofs.Fronts.{front_before}

-- what is written into the draft stands behind the whole
written : (text draft more longer whole : List ℕ) → text ++ draft ≡ whole → longer ≡ draft ++ more → text ++ longer ≡ whole ++ more
written text draft more longer whole so e =
    ap (λ l. text ++ l) e ∙ sym (append_assoc text draft more) ∙ ap (λ (l : List ℕ). l ++ more) so

-- a line of three parts, of which the second may have been appended with the draft
pub line_written : (whole text draft begun later left done first second third : List ℕ) → text ++ draft ≡ whole → begun ≡ draft ++ first
    → later ++ left ≡ text ++ begun ++ second → done ≡ left ++ third → later ++ done ≡ whole ++ (first ++ second ++ third)
line_written whole text draft begun later left done first second third so begins goes ends =
    written later left third done (whole ++ first ++ second)
    (goes ∙ ap (λ (l : List ℕ). l ++ second) (written text draft first begun whole so begins)) ends
    ∙ ap (λ (l : List ℕ). l ++ third) (append_assoc whole first second)
    ∙ append_assoc whole (first ++ second) third

-- what begins with more than the whole begins with the whole
pub front_kept : (whole text draft begun later first : List ℕ) → text ++ draft ≡ whole → begun ≡ draft ++ first → StartsWith (text ++ begun) later
    → StartsWith whole later
front_kept whole text draft begun later first so begins h =
    front_before whole first (text ++ begun) later (written text draft first begun whole so begins) h

-- so does what stands behind it
pub front_behind : (whole later more : List ℕ) → later ≡ whole ++ more → StartsWith whole later
front_behind whole later more is = ap (take (length whole)) is ∙ take-append_seam whole more

-- a front of a front
pub front_on : (a b c : List ℕ) → StartsWith a b → StartsWith b c → StartsWith a c
front_on a b c h k =
    front_before a (drop (length a) b) b c (sym (take-append-drop (length a) b) ∙ ap (λ l. l ++ drop (length a) b) h) k

-- How a directory is gone through.
use Rattle.std.proofs.Common.{◌≡◌, ℕ, zero, suc, ◌+◌, ◌*◌, ◌<◌, ◌≤◌, ◌==◌, ◌&&◌, Bool, true, false, cond, List, [], ◌∷◌, ◌++◌, length, drop, get_or, refl, ap, sym, ◌∙◌, add-one, drop-cons, length-append, le_of_eq, ne_eqb}
use Rattle.std.proofs.Math.Seq.{drop-length}
use Rattle.vk_files.specs.Volumes.{are_zeros, ends_in_zeros, entries_in, entry_from}
use Rattle.vk_files.specs.declared.entry.Entry.{Entry}
use Rattle.vk_files.specs.declared.limits.TheConstants.{ENTRY_BYTES, FILES}

pub entries_more : (block : List ℕ) (n : ℕ) → entries_in block n ++ entry_from block (ENTRY_BYTES * n) ∷ [] ≡ entries_in block (n + 1)
unfolding entries_in
entries_more block n = ap (λ (k : ℕ). entries_in block k) (sym (add-one n))

pub no_entries : (block : List ℕ) → entries_in block 0 ≡ []
unfolding entries_in
no_entries block = refl

entries_count : (block : List ℕ) (n : ℕ) → length (entries_in block n) ≡ n
unfolding entries_in
entries_count block zero = refl
entries_count block (suc n) =
    length-append (entries_in block n) (entry_from block (ENTRY_BYTES * n) ∷ []) ∙ ap (λ (k : ℕ). k + 1) (entries_count block n) ∙ add-one n

-- a directory has no more entries than a server looks at
pub few_entries : (files : List Entry) (block : List ℕ) → files ≡ entries_in block FILES → length files ≤ FILES
few_entries files block is = le_of_eq (ap (λ (l : List Entry). length l) is ∙ entries_count block FILES)

-- What is left to be told of a name's bytes, where a zero was met or not.
abbrev pub rest_ends : Bool → List ℕ → Bool
rest_ends ended bytes = cond ended (are_zeros bytes) (ends_in_zeros bytes)

step_zero : (ended : Bool) (rest : List ℕ) → rest_ends ended (0 ∷ rest) ≡ are_zeros rest
step_zero true rest = refl
step_zero false rest = refl

step_other : (b : ℕ) (rest : List ℕ) → (b == 0) ≡ false → rest_ends false (b ∷ rest) ≡ ends_in_zeros rest
step_other b rest is = ap (λ (t : Bool). cond t (are_zeros rest) (ends_in_zeros rest)) is

stop_other : (b : ℕ) (rest : List ℕ) → (b == 0) ≡ false → rest_ends true (b ∷ rest) ≡ false
stop_other b rest is = ap (λ (t : Bool). t && are_zeros rest) is

-- the first byte that is left
left_at : (ended : Bool) (bytes : List ℕ) (i : ℕ) → i < length bytes
    → rest_ends ended (drop i bytes) ≡ rest_ends ended (get_or bytes i 0 ∷ drop (i + 1) bytes)
left_at ended bytes i h = ap (rest_ends ended) (drop-cons bytes i 0 h ∙ ap (λ (k : ℕ). get_or bytes i 0 ∷ drop k bytes) (sym (add-one i)))

pub met_zero : (ended : Bool) (bytes : List ℕ) (i : ℕ) (x : Bool) → i < length bytes → get_or bytes i 0 ≡ 0
    → rest_ends ended (drop i bytes) ≡ x → rest_ends true (drop (i + 1) bytes) ≡ x
met_zero ended bytes i x h is kept =
    sym (step_zero ended (drop (i + 1) bytes)) ∙ ap (λ (b : ℕ). rest_ends ended (b ∷ drop (i + 1) bytes)) (sym is)
    ∙ sym (left_at ended bytes i h) ∙ kept

pub met_other : (ended : Bool) (bytes : List ℕ) (i : ℕ) (x : Bool) → i < length bytes → (get_or bytes i 0 ≡ 0 → ⊥)
    → ended ≡ false → rest_ends ended (drop i bytes) ≡ x → rest_ends ended (drop (i + 1) bytes) ≡ x
met_other true bytes i x h is shut kept = absurd (cc)
met_other false bytes i x h is shut kept =
    sym (step_other (get_or bytes i 0) (drop (i + 1) bytes) (ne_eqb (get_or bytes i 0) 0 is)) ∙ sym (left_at false bytes i h) ∙ kept

pub met_other_late : (ended : Bool) (bytes : List ℕ) (i : ℕ) (x : Bool) → i < length bytes → (get_or bytes i 0 ≡ 0 → ⊥)
    → ended ≡ true → rest_ends ended (drop i bytes) ≡ x → false ≡ x
met_other_late false bytes i x h is late kept = absurd (cc)
met_other_late true bytes i x h is late kept =
    sym (stop_other (get_or bytes i 0) (drop (i + 1) bytes) (ne_eqb (get_or bytes i 0) 0 is)) ∙ sym (left_at true bytes i h) ∙ kept

pub met_end : (ended : Bool) (bytes : List ℕ) (i : ℕ) (x : Bool) → i ≡ length bytes → rest_ends ended (drop i bytes) ≡ x → true ≡ x
met_end true bytes i x all kept = rw (all, drop-length) at kept
met_end false bytes i x all kept = rw (all, drop-length) at kept

-- From the text that was read to the input.
use Rattle.std.proofs.Common.{◌≡◌, ℕ, ◌<◌, List, [], length, Option, Some, None, refl, ap, subst, sym, ◌∙◌, arith, append-nil, length-append}
use Rattle.std.specs.Prelude.{IfSome}
use Rattle.std.specs.Io.KnownBytes.{Consumes}
use Rattle.vk_base.specs.declared.limits.TheConstants.{INPUT_BYTES}
use Rattle.vk_edge.specs.Inputs.{IsReadOver, IsReadPartly, IsReadWhole, IsText, OfInput}

told_input : (left rest : Option (List ℕ)) (text : List ℕ) → IfSome left (λ i. (text ≡ i) × (rest ≡ Some []))
    → IfSome left (λ bytes. bytes ≡ text)
told_input None rest text all = tt
told_input (Some i) rest text all = sym all.0

all_taken : (left rest : Option (List ℕ)) (text : List ℕ) → IfSome left (λ i. (text ≡ i) × (rest ≡ Some [])) → Consumes left rest text
all_taken None rest text all = tt
all_taken (Some i) rest text all = subst (λ r. Consumes (Some i) r text) (sym all.1) (sym all.0 ∙ sym (append-nil text))

whole_by : (left rest : Option (List ℕ)) (text : List ℕ) → IfSome left (λ i. (text ≡ i) × (rest ≡ Some [])) → IsReadWhole left rest
whole_by None rest text all = tt
whole_by (Some i) rest text all = all.1

-- the text is all of the input
pub is_all : (left rest : Option (List ℕ)) (text : List ℕ) → IsText left rest text → IfSome left (λ bytes. bytes ≡ text)
is_all left rest text read = told_input left rest text read.all

-- which was read to its end
pub read_whole : (left rest : Option (List ℕ)) (text : List ℕ) → IsText left rest text → IsReadWhole left rest
read_whole left rest text read = whole_by left rest text read.all

-- what holds of the text holds of the input
pub of_text : (left rest : Option (List ℕ)) (text : List ℕ) (Holds : List ℕ → Type 0) → IsText left rest text → Holds text → OfInput left Holds
of_text left rest text Holds read holds = record { input = text; all = is_all left rest text read; holds = holds }

-- a text that is not empty was read in part, and no byte too many
pub partly : (left rest : Option (List ℕ)) (text : List ℕ) → IsText left rest text → 0 < length text → IsReadPartly left rest
partly left rest text read some = record { bytes = text; front = all_taken left rest text read.all; count = (some, read.small) }

-- of which more bytes were read than there may be, it has more
pub too_many : (left rest : Option (List ℕ)) → IsReadOver left rest → OfInput left (λ i. INPUT_BYTES < length i)
too_many None rest lost = record { input = lost.bytes; all = tt; holds = lost.count }
too_many (Some i) None lost = absurd lost.front
too_many (Some i) (Some ys) lost =
    record { input = i; all = refl; holds = omega (arith, lost.count, ap length lost.front, length-append lost.bytes ys) }

-- whatever the input is
pub some_input : (told : Option (List ℕ)) (Holds : List ℕ → Type 0) → ((i : List ℕ) → Holds i) → OfInput told Holds
some_input None Holds holds = record { input = []; all = tt; holds = holds [] }
some_input (Some i) Holds holds = record { input = i; all = refl; holds = holds i }

pub weaker : (told : Option (List ℕ)) (P Q : List ℕ → Type 0) → ((i : List ℕ) → P i → Q i) → OfInput told P → OfInput told Q
weaker told P Q follows given = record { input = given.input; all = given.all; holds = follows given.input given.holds }

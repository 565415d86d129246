-- Texts that are read piece by piece: what the pieces are of the text, and why no more is read.
use Rattle.std.proofs.Common.{◌≡◌, ℕ, ◌+◌, ◌≤◌, List, [], ◌++◌, length, Option, Some, None, ap, ◌∙◌, sym, arith, append-nil, length-append}
use Rattle.std.specs.Prelude.{IfSome}
use Rattle.std.specs.Io.KnownBytes.{Consumes, IsAtEnd}
use Rattle.std.proofs.KnownBytes.{Consumes-trans}
use Rattle.vk_base.specs.declared.limits.TheConstants.{INPUT_BYTES}
use Rattle.vk_io.specs.Causes.{LosesFront}
use Rattle.vk_io.specs.declared.whole.ReadRefusal.{ReadRefusal}
use Rattle.vk_io.specs.declared.whole.ReadRefusal.TheVariants as refusals
use Rattle.vk_edge.specs.Inputs.{IsText, IsUnread}
use Rattle.vk_edge.specs.Pieces.{IsUnreadBehind}

all_read : (left rest : Option (List ℕ)) (text : List ℕ) → Consumes left rest text → IsAtEnd rest
    → IfSome left (λ i. (text ≡ i) × (rest ≡ Some []))
all_read None rest text taken end = tt
all_read (Some i) None text taken end = absurd taken
all_read (Some i) (Some ys) text taken end = (sym (taken ∙ ap (λ l. text ++ l) end ∙ append-nil text), ap Some end)

-- what was read to the end is the text
pub is_text : (left rest : Option (List ℕ)) (text : List ℕ) → Consumes left rest text → IsAtEnd rest → length text ≤ INPUT_BYTES
    → IsText left rest text
is_text left rest text taken end few = record { small = few; all = all_read left rest text taken end }

-- a front more is lost
lost_more : (left mid rest : Option (List ℕ)) (seen : List ℕ) (P Q : ℕ → Type 0) → Consumes left mid seen
    → ((n : ℕ) → P n → Q (length seen + n)) → LosesFront mid rest P → LosesFront left rest Q
lost_more left mid rest seen P Q taken follows lost = record {
  bytes = seen ++ lost.bytes;
  front = Consumes-trans left mid rest seen lost.bytes taken lost.front;
  count = rw (length-append seen lost.bytes) (follows (length lost.bytes) lost.count);
}

-- why no more is read behind what was read since is why it is not behind what was read before
pub unread_since : (left mid rest : Option (List ℕ)) (seen : List ℕ) (before now : ℕ) (e : ReadRefusal) → Consumes left mid seen
    → now ≡ before + length seen → IsUnreadBehind now mid rest e → IsUnreadBehind before left rest e
unread_since left mid rest seen before now refusals.Failed taken is unread =
    lost_more left mid rest seen _ _ taken (λ n few. omega (arith, is, few)) unread
unread_since left mid rest seen before now refusals.TooLong taken is unread =
    lost_more left mid rest seen _ _ taken (λ n many. omega (arith, is, many)) unread
unread_since left mid rest seen before now refusals.NoMemory taken is unread =
    lost_more left mid rest seen _ _ taken (λ n some. (omega (arith, is, some.0), omega (arith, is, some.1))) unread

-- why no more is read behind what was seen is why the input was not read whole
pub unread_all : (left mid rest : Option (List ℕ)) (seen : List ℕ) (e : ReadRefusal) → Consumes left mid seen
    → IsUnreadBehind (length seen) mid rest e → IsUnread left rest e
unread_all left mid rest seen refusals.Failed taken unread =
    lost_more left mid rest seen _ _ taken (λ n few. few) unread
unread_all left mid rest seen refusals.TooLong taken unread =
    lost_more left mid rest seen _ _ taken (λ n many. many) unread
unread_all left mid rest seen refusals.NoMemory taken unread =
    lost_more left mid rest seen _ _ taken (λ n some. some) unread

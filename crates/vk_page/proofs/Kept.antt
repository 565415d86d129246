-- Plain bytes are kept.
use Rattle.std.proofs.Common.{◌≡◌, ℕ, true, arith}
use Rattle.std.proofs.lemmas.List.Sums.{AllPass-from_list_all}
use Rattle.vk_page.specs.Page.{IsKept, PlainTextsAreKept, is_plain_byte}

one_kept : (b : ℕ) → is_plain_byte b ≡ true → IsKept b
one_kept b plain = record {
  no_tag = λ is. grind (arith, plain, is);
  no_reference = λ is. grind (arith, plain, is);
  no_zero = λ is. grind (arith, plain, is);
  no_return = λ is. grind (arith, plain, is);
}

pub all_kept : PlainTextsAreKept
all_kept text plain = λ k d l. one_kept _ (AllPass-from_list_all is_plain_byte text plain k d l)

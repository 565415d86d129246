use Rattle.std.proofs.Common.{◌≡◌, ℕ, ◌+◌, true, min, List, [], length, sym, ap, subst, ◌∙◌, arith, IfOk}
use Rattle.std.proofs.lemmas.Bool.{leb-true, le-leb, not-false, cond-true}
use Rattle.vk_types.specs.Types.{Grants, Range}
use Rattle.vk_base.specs.Calls.{first_part}
use Rattle.vk_base.specs.Messages.{segment_of, grants_read}
use Rattle.vk_base.specs.Ranges.{range_of, lies_in, bytes_in}
use Rattle.v_machine.proofs.calls.sending.first_part.Goals as goal

part_lies : (segment : Range) (size : ℕ) → lies_in segment size ≡ true → lies_in (range_of segment.start (min segment.len 512)) size ≡ true
part_lies segment size fits = let low = leb-true (segment.start + segment.len) size fits in
    le-leb (segment.start + min segment.len 512) size (omega arith)

pub returns : goal.returns
returns c = λ pid p is there fits.
    let segment = segment_of c.args.message.now in
    let grants = c.grants-grants.ensures in
    let read : grants_read c.args.message.now ≡ true = sym (ap (λ (g : Grants). g.read) grants)
    ∙ not-false c.grants-grants.result.read c.if-not-grants.false in
    let range : range_of c.grants-grants.result.range.start c.min.result ≡ range_of segment.start (min segment.len 512) =
    ap (range_of c.grants-grants.result.range.start) c.min.ensures
    ∙ ap (λ (g : Grants). range_of g.range.start (min g.range.len 512)) grants in
    let lies = subst (λ r. lies_in r (length p.memory) ≡ true) (sym range) (part_lies segment (length p.memory) fits) in
    let part : bytes_in (range_of c.grants-grants.result.range.start c.min.result) p.memory ≡ first_part c.args.message.now p.memory =
    ap (λ r. bytes_in r p.memory) range
    ∙ sym (cond-true (grants_read c.args.message.now) (bytes_in (range_of segment.start (min segment.len 512)) p.memory) [] read) in
    subst (λ (b : List ℕ). IfOk c.own_bytes.result (λ l. l ≡ b)) part (c.own_bytes.ensures pid p is there lies)

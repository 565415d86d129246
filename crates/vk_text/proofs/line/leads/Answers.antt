use Rattle.std.proofs.Common.{◌≡◌, length, take, sym, arith, ap, ◌∙◌}
use Rattle.std.proofs.Math.Seq.{take-length}
use Rattle.vk_text.proofs.Fours.{other_byte, other_front, same_front, too_few}
use Rattle.vk_text.proofs.line.leads.Goals.{then-bytes-word-via-then-bytes-word, then-bytes-word-via-else-bytes-word+then-four}
use Rattle.vk_text.proofs.line.leads.Goals as goal

pub returns-then-bytes-word : goal.returns-then-bytes-word
returns-then-bytes-word c = elim c.then-bytes-word.branch [
  | then-bytes-word-via-then-bytes-word w ↦ too_few c.args.bytes.now c.args.word.now w.if-bytes-word.true
  | then-bytes-word-via-else-bytes-word+then-four w ↦
      other_front c.args.bytes.now c.args.word.now c.requires.least (λ same. w.if-four.true (w.four.ensures ∙ same ∙ sym w.four-else-bytes-word.ensures))
]

pub returns-then-bytes-at : goal.returns-then-bytes-at
returns-then-bytes-at c = other_byte c.args.bytes.now c.args.word.now c.loop-at.at (omega arith) c.if-bytes-at.true

pub returns : goal.returns
returns c =
    let end : c.loop-at.at ≡ length c.args.word.now = omega (arith, c.loop-at.auto, c.requires.least) in
    same_front c.args.bytes.now c.args.word.now
    (ap (λ n. take n c.args.bytes.now) (sym end) ∙ c.loop-at.invariant ∙ ap (λ n. take n c.args.word.now) end ∙ take-length c.args.word.now)

use Rattle.std.proofs.Common.{ℕ, List, ◌++◌, length, ap, arith, sym, ◌∙◌}
use Rattle.vk_pipe.proofs.Copying.{take_past}
use Rattle.vk_pipe.proofs.bytes.copy_front.Goals as goal

pub returns-else-len-first : goal.returns-else-len-first
returns-else-len-first c =
    let rest : ℕ = length c.split_at_mut-front.result.1.now in
    ap (λ (l : List ℕ). l ++ c.copy_from_slice-else-len-first-2.new.self) c.copy_from_slice-else-len-first.ensures.after
    ∙ ap (λ (l : List ℕ). c.args.first.now ++ l) c.copy_from_slice-else-len-first-2.ensures.after
    ∙ sym (take_past c.args.first.now c.args.second.now rest (length c.args.room.now)
    (omega (arith, c.split_at_mut-front.ensures.back_len, c.if-len-first.false)))

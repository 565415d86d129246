use Rattle.std.proofs.Common.{List, ℕ, ◌++◌, drop, take, length, ap, ◌∙◌, arith}
use Rattle.vk_packet.proofs.Written.{over, over_size, within}
use Rattle.vk_packet.proofs.draft.FrameDraft.put_first.Goals as goal

pub invariant_of-self : goal.invariant_of-self
invariant_of-self c =
    let s = c.self.inside in (
      c.self.invariant.0,
      ap (λ (f : List ℕ). length (f ++ drop 32 s.bytes)) c.copy_from_slice.ensures.after
          ∙ over_size 32 1152 c.args.front.now s.bytes c.told-front c.self.invariant.1 (omega arith),
    )

pub returns : goal.returns
returns c =
    let s = c.self.inside in
    let low = within 32 s.len s.bytes c.args.self.now c.requires c.self.view_is in
    ap (λ (f : List ℕ). take s.len (f ++ drop 32 s.bytes)) c.copy_from_slice.ensures.after
    ∙ over 32 s.len c.args.front.now s.bytes c.told-front low
    ∙ ap (λ (l : List ℕ). c.args.front.now ++ drop 32 l) c.self.view_is

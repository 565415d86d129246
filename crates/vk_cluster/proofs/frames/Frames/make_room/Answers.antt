use Rattle.std.proofs.Common.{◌≡◌, ℕ, ◌≤◌, List, [], ◌∷◌, ◌++◌, length, map, sym, ap, subst, ◌∙◌, arith}
use Rattle.vk_cluster.specs.declared.frames.FramePlace.{FramePlace}
use Rattle.vk_cluster.specs.declared.frames.TheConstants.{HALF_BYTES}
use Rattle.vk_cluster.specs.Blocks.{AreKept, FrameList, block_bytes, placed_bytes}
use Rattle.vk_cluster.proofs.Blocks.{left_frames, left_kept}
use Rattle.vk_cluster.proofs.frames.Frames.make_room.Goals as goal

pub invariant_of-self-in-Continue-branch-2 : goal.invariant_of-self-in-Continue-branch-2
invariant_of-self-in-Continue-branch-2 c =
    let full : List (List ℕ) = map block_bytes c.self.inside.full.items in
    let last : List ℕ = c.self.inside.last.items in
    let ps = c.room_for_places.new.places.items in
    let size = c.self.inside.size in
    let few = c.if-len-bytes.true in
    let half : HALF_BYTES ≤ length last = omega (arith, c.self.inside.last.ok.0) in
    let kept : AreKept (full ++ last ∷ []) [] c.self.inside.places.items size =
    left_kept full last c.self.inside.places.items size c.self.invariant.0 half in
    let P : List FramePlace → Type 0 = λ l. AreKept (full ++ last ∷ []) [] l size in
    let Q : List ℕ → Type 0 = λ l. AreKept (full ++ last ∷ []) l ps size in
    let R : List (List ℕ) → Type 0 = λ l. AreKept l c.next_block.new.last.items ps size in
    let empty : length c.next_block.new.last.items ≡ 0 = ap length c.in_ok-next_block.ensures.last in
    let room = c.in_ok-next_block.ensures.room in (
      subst R (sym c.in_ok-next_block.ensures.full)
          (subst Q (sym c.in_ok-next_block.ensures.last) (subst P (sym c.room_for_places.ensures.same) kept)),
      omega arith,
      omega arith,
    )

pub returns-in_ok-next_block-clause-items : goal.returns-in_ok-next_block-clause-items
returns-in_ok-next_block-clause-items c =
    let full : List (List ℕ) = map block_bytes c.self.inside.full.items in
    let last : List ℕ = c.self.inside.last.items in
    ap (λ l. map (placed_bytes l c.next_block.new.last.items) c.room_for_places.new.places.items) c.in_ok-next_block.ensures.full
    ∙ ap (λ l. map (placed_bytes (full ++ last ∷ []) l) c.room_for_places.new.places.items) c.in_ok-next_block.ensures.last
    ∙ ap (map (placed_bytes (full ++ last ∷ []) [])) c.room_for_places.ensures.same
    ∙ left_frames full last c.self.inside.places.items c.self.invariant.0.within
    ∙ ap (λ (v : FrameList). v.items) c.self.view_is

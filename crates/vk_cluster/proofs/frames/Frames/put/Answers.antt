use Rattle.std.proofs.Common.{◌≡◌, ℕ, ◌+◌, ◌*◌, ◌<◌, List, ◌∷◌, ◌++◌, [], length, map, sym, ap, subst, ◌∙◌, arith}
use Rattle.std.specs.Prelude.{sum_by}
use Rattle.std.proofs.lemmas.List.{length-append, length-map}
use Rattle.vk_cluster.specs.declared.frames.FramePlace.{FramePlace}
use Rattle.vk_cluster.specs.declared.frames.TheConstants.{BLOCK_BYTES}
use Rattle.vk_cluster.specs.Blocks.{AreKept, FrameList, block_bytes, placed_bytes}
use Rattle.vk_cluster.proofs.Blocks.{IsNewPlace, put_frames, put_kept}
use Rattle.vk_cluster.proofs.frames.Frames.put.Goals as goal

pub invariant_of-self : goal.invariant_of-self
invariant_of-self c =
    let full : List (List ℕ) = map block_bytes c.self.inside.full.items in
    let last : List ℕ = c.self.inside.last.items in
    let f : List ℕ = c.args.frame.now in
    let place : FramePlace = record { from = c.len.result * BLOCK_BYTES + c.len-2.result; count = length f; to = c.args.to } in
    let free = ap (λ (v : FrameList). v.bytes) c.self.view_is in
    let before : c.len.result ≡ length full =
    omega (arith, c.len.ensures, c.self.inside.full.ok.0, length-map c.self.inside.full.items block_bytes) in
    let at : c.len-2.result ≡ length last = omega (arith, c.len-2.ensures, c.self.inside.last.ok.0) in
    let low : length last < BLOCK_BYTES = omega (arith, free, c.requires.bytes, c.requires.some) in
    let is : IsNewPlace full last f place = record {
      from = omega (arith, at, low);
      count = λ k. length f;
      block = omega (arith, before, at, low);
      to = c.requires.to;
    } in
    let kept = c.self.invariant.0 in
    let all : c.self.inside.size ≡ sum_by length c.args.self.now.items =
    kept.frames ∙ ap (λ (v : FrameList). sum_by length v.items) c.self.view_is in
    let most = c.requires.most in
    let put =
    put_kept full last f c.self.inside.places.items c.self.inside.size place kept is c.requires.some (omega arith) in
    let P : List ℕ → Type 0 = λ l. AreKept full l (c.self.inside.places.items ++ place ∷ []) (c.self.inside.size + length f) in
    let Q : List FramePlace → Type 0 = λ ps. AreKept full c.push_bytes.new.bytes.items ps (c.self.inside.size + length f) in
    let longer : length c.push_bytes.new.bytes.items ≡ length (last ++ f) = ap length c.push_bytes.ensures.items in
    let within = c.self.invariant.1 in
    let capacity = c.self.invariant.2 in
    let room = c.requires.bytes in
    let more = c.push_bytes.ensures.capacity in (
      subst Q (sym c.push_reserved.ensures.items) (subst P (sym c.push_bytes.ensures.items) put),
      omega (arith, length-append last f),
      omega arith,
    )

pub returns-clause-items : goal.returns-clause-items
returns-clause-items c =
    let full : List (List ℕ) = map block_bytes c.self.inside.full.items in
    let last : List ℕ = c.self.inside.last.items in
    let f : List ℕ = c.args.frame.now in
    let place : FramePlace = record { from = c.len.result * BLOCK_BYTES + c.len-2.result; count = length f; to = c.args.to } in
    let free = ap (λ (v : FrameList). v.bytes) c.self.view_is in
    let before : c.len.result ≡ length full =
    omega (arith, c.len.ensures, c.self.inside.full.ok.0, length-map c.self.inside.full.items block_bytes) in
    let at : c.len-2.result ≡ length last = omega (arith, c.len-2.ensures, c.self.inside.last.ok.0) in
    let low : length last < BLOCK_BYTES = omega (arith, free, c.requires.bytes, c.requires.some) in
    let is : IsNewPlace full last f place = record {
      from = omega (arith, at, low);
      count = λ k. length f;
      block = omega (arith, before, at, low);
      to = c.requires.to;
    } in
    ap (λ l. map (placed_bytes full l) c.push_reserved.new.self.items) c.push_bytes.ensures.items
    ∙ ap (map (placed_bytes full (last ++ f))) c.push_reserved.ensures.items
    ∙ put_frames full last f c.self.inside.places.items place c.self.invariant.0.within is
    ∙ ap (λ (v : FrameList). v.items ++ f ∷ []) c.self.view_is

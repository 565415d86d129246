-- The frames in blocks, as one is put, and as a block is left behind.
use Rattle.std.proofs.Common.{◌≡◌, ℕ, zero, suc, ◌+◌, ◌<◌, ◌≤◌, List, [], ◌∷◌, ◌++◌, length, map, take, drop, get_or, refl, ap, ◌∙◌, arith}
use Rattle.std.specs.Prelude.{sum_by}
use Rattle.std.proofs.Math.ListN.{get_or-eq_default}
use Rattle.std.proofs.lemmas.List.{length-append, map_push}
use Rattle.std.proofs.lemmas.List.Sums.{sum_by-append}
use Rattle.vk_frame.specs.Reading.{frame_of}
use Rattle.vk_rules.specs.Each.{Each}
use Rattle.vk_rules.proofs.Lists.{each_append, each_weaker}
use Rattle.vk_cluster.specs.declared.emitted.Span.{Span}
use Rattle.vk_cluster.specs.declared.frames.FramePlace.{FramePlace}
use Rattle.vk_cluster.specs.declared.frames.TheConstants.{HALF_BYTES, MOST_BYTES}
use Rattle.vk_cluster.specs.Blocks.{AreKept, IsInBlock, block_of, named_by, placed_bytes, start_of}
use Rattle.vk_cluster.specs.Piles.{IsSpanWithin, spanned}
use Rattle.vk_cluster.proofs.Pieces.{last_piece, piece_more}

-- The block with a number, where the last one grows, and where it becomes a full one.
grown_piece : (full : List (List ℕ)) (last f : List ℕ) (n : ℕ) (p : Span) → IsSpanWithin (length (get_or full n last)) p →
    spanned (get_or full n (last ++ f)) p ≡ spanned (get_or full n last) p
grown_piece [] last f n p within = piece_more last f p within
grown_piece (b ∷ bs) last f zero p within = refl
grown_piece (b ∷ bs) last f (suc n) p within = grown_piece bs last f n p within

grown_length : (full : List (List ℕ)) (last f : List ℕ) (n : ℕ) → length (get_or full n last) ≤ length (get_or full n (last ++ f))
grown_length [] last f n = omega (arith, length-append last f)
grown_length (b ∷ bs) last f zero = omega arith
grown_length (b ∷ bs) last f (suc n) = grown_length bs last f n

left_block : (full : List (List ℕ)) (last : List ℕ) (n : ℕ) → n ≤ length full → get_or (full ++ last ∷ []) n [] ≡ get_or full n last
left_block [] last zero low = refl
left_block [] last (suc n) low = absurd (omega arith)
left_block (b ∷ bs) last zero low = refl
left_block (b ∷ bs) last (suc n) low = left_block bs last n (omega arith)

-- The frames, where the last block grows.
grown_in : (full : List (List ℕ)) (last f : List ℕ) (p : FramePlace) → IsInBlock full last p → IsInBlock full (last ++ f) p
grown_in full last f p within =
    let more = grown_length full last f (block_of p) in
    let same = grown_piece full last f (block_of p) (record { from = start_of p; count = p.count }) within.1 in
    (within.0, omega arith, ap (λ b. named_by (frame_of b)) same ∙ within.2)

grown_frames : (full : List (List ℕ)) (last f : List ℕ) (ps : List FramePlace) → Each (IsInBlock full last) ps →
    map (placed_bytes full (last ++ f)) ps ≡ map (placed_bytes full last) ps
grown_frames full last f [] h = refl
grown_frames full last f (p ∷ ps) h =
    ap (λ x. x ∷ map (placed_bytes full (last ++ f)) ps)
    (grown_piece full last f (block_of p) (record { from = start_of p; count = p.count }) h.0.1)
    ∙ ap (λ l. placed_bytes full last p ∷ l) (grown_frames full last f ps h.1)

-- One frame more: its bytes are the last of the last block.
pub record IsNewPlace (full : List (List ℕ)) (last f : List ℕ) (p : FramePlace) : Type 0 where
  pub from : start_of p ≡ length last
  pub count : p.count ≡ length f
  pub block : block_of p ≡ length full
  pub to : named_by (frame_of f) ≡ p.to

new_block : (full : List (List ℕ)) (last f : List ℕ) (p : FramePlace) → IsNewPlace full last f p →
    get_or full (block_of p) (last ++ f) ≡ last ++ f
new_block full last f p is = let low : length full ≤ block_of p = let at = is.block in omega arith in get_or-eq_default full (last ++ f) low

new_frame : (full : List (List ℕ)) (last f : List ℕ) (p : FramePlace) → IsNewPlace full last f p → placed_bytes full (last ++ f) p ≡ f
new_frame full last f p is =
    ap (λ b. take p.count (drop (start_of p) b)) (new_block full last f p is)
    ∙ last_piece last f (record { from = start_of p; count = p.count }) is.from is.count

new_in : (full : List (List ℕ)) (last f : List ℕ) (p : FramePlace) → IsNewPlace full last f p → IsInBlock full (last ++ f) p
new_in full last f p is =
    let long : length (get_or full (block_of p) (last ++ f)) ≡ length (last ++ f) = ap length (new_block full last f p is) in
    let from = is.from in
    let count = is.count in
    let block = is.block in
    (omega arith, omega (arith, length-append last f), ap (λ b. named_by (frame_of b)) (new_frame full last f p is) ∙ is.to)

pub put_frames : (full : List (List ℕ)) (last f : List ℕ) (ps : List FramePlace) (p : FramePlace) → Each (IsInBlock full last) ps →
    IsNewPlace full last f p → map (placed_bytes full (last ++ f)) (ps ++ p ∷ []) ≡ map (placed_bytes full last) ps ++ f ∷ []
put_frames full last f ps p within is =
    map_push (placed_bytes full (last ++ f)) ps p
    ∙ ap (λ l. l ++ placed_bytes full (last ++ f) p ∷ []) (grown_frames full last f ps within)
    ∙ ap (λ x. map (placed_bytes full last) ps ++ x ∷ []) (new_frame full last f p is)

pub put_kept : (full : List (List ℕ)) (last f : List ℕ) (ps : List FramePlace) (size : ℕ) (p : FramePlace) → AreKept full last ps size →
    IsNewPlace full last f p → 0 < length f → size + length f ≤ MOST_BYTES →
    AreKept full (last ++ f) (ps ++ p ∷ []) (size + length f)
put_kept full last f ps size p kept is some most =
    let blocks = kept.blocks in
    let frames = kept.frames in
    let few = kept.few in
    let one : sum_by length (map (placed_bytes full last) ps ++ f ∷ [])
    ≡ sum_by length (map (placed_bytes full last) ps) + sum_by length (f ∷ []) =
    sum_by-append length (map (placed_bytes full last) ps) (f ∷ []) in
    let all : sum_by length (map (placed_bytes full (last ++ f)) (ps ++ p ∷ []))
    ≡ sum_by length (map (placed_bytes full last) ps ++ f ∷ []) =
    ap (sum_by length) (put_frames full last f ps p kept.within is) in
    record {
      within = each_append (IsInBlock full (last ++ f)) ps (p ∷ [])
          (each_weaker (IsInBlock full last) (IsInBlock full (last ++ f)) ps kept.within (λ q within. grown_in full last f q within))
          (new_in full last f p is, tt);
      blocks = omega (arith, length-append last f);
      frames = omega arith;
      few = omega (arith, length-append ps (p ∷ []));
      most = most;
      used = kept.used;
    }

-- The last block becomes a full one, and an empty one is the last.
left_in : (full : List (List ℕ)) (last : List ℕ) (p : FramePlace) → IsInBlock full last p → IsInBlock (full ++ last ∷ []) [] p
left_in full last p within =
    let long : length (get_or (full ++ last ∷ []) (block_of p) []) ≡ length (get_or full (block_of p) last) =
    ap length (left_block full last (block_of p) within.0) in
    let low = within.0 in
    let same : placed_bytes (full ++ last ∷ []) [] p ≡ placed_bytes full last p =
    ap (λ b. take p.count (drop (start_of p) b)) (left_block full last (block_of p) within.0) in
    (omega (arith, length-append full (last ∷ [])), omega arith, ap (λ b. named_by (frame_of b)) same ∙ within.2)

pub left_frames : (full : List (List ℕ)) (last : List ℕ) (ps : List FramePlace) → Each (IsInBlock full last) ps →
    map (placed_bytes (full ++ last ∷ []) []) ps ≡ map (placed_bytes full last) ps
left_frames full last [] h = refl
left_frames full last (p ∷ ps) h =
    ap (λ b. take p.count (drop (start_of p) b) ∷ map (placed_bytes (full ++ last ∷ []) []) ps) (left_block full last (block_of p) h.0.0)
    ∙ ap (λ l. placed_bytes full last p ∷ l) (left_frames full last ps h.1)

pub left_kept : (full : List (List ℕ)) (last : List ℕ) (ps : List FramePlace) (size : ℕ) → AreKept full last ps size →
    HALF_BYTES ≤ length last →
    AreKept (full ++ last ∷ []) [] ps size
left_kept full last ps size kept half =
    let blocks = kept.blocks in
    let frames = kept.frames in
    let used = kept.used in
    let one : sum_by length (full ++ last ∷ []) ≡ sum_by length full + sum_by length (last ∷ []) = sum_by-append length full (last ∷ []) in
    let all : sum_by length (map (placed_bytes (full ++ last ∷ []) []) ps) ≡ sum_by length (map (placed_bytes full last) ps) =
    ap (sum_by length) (left_frames full last ps kept.within) in
    record {
      within =
          each_weaker (IsInBlock full last) (IsInBlock (full ++ last ∷ []) []) ps kept.within (λ q within. left_in full last q within);
      blocks = omega arith;
      frames = omega arith;
      few = kept.few;
      most = kept.most;
      used = omega (arith, length-append full (last ∷ []));
    }

-- The packets of a move: each is lawful, and one more of them.
use Rattle.std.proofs.Common.{◌≡◌, ℕ, ◌+◌, ◌*◌, ◌%◌, ◌<◌, ◌≤◌, true, List, [], ◌∷◌, ◌++◌, map, length, sym, ap, ◌∙◌, arith, append_assoc}
use Rattle.std.specs.List.{range_with_len}
use Rattle.std.proofs.lemmas.Bool.{and_parts, ltb-true, leb-true, eqb-true, eq-eqb, lt-ltb, le-leb}
use Rattle.std.specs.Cmp.Derive.{both_true}
use Rattle.std.proofs.lemmas.List.{append-nil, length-append, length-map, map-append}
use Rattle.std.proofs.lemmas.List.FromFn.{length-range_with_len, map-range_with_len_more}
use Rattle.vk_packet.specs.Posts.{Posts}
use Rattle.vk_packet.specs.Rules.{is_place}
use Rattle.vk_stands.specs.Rules.{posted}

-- where a packet of a move may start
pub record IsPacketStart (total offset : ℕ) : Type 0 where
  pub some : 0 < total
  pub few : total ≤ 65536
  pub multiple : offset % 1024 ≡ 0
  pub inside : offset < total

pub place_is : (total offset : ℕ) → is_place total offset ≡ true → IsPacketStart total offset
place_is total offset t =
    let a = and_parts _ _ t in
    let b = and_parts _ _ a.0 in
    let c = and_parts _ _ b.0 in
    record { some = ltb-true _ _ c.0; few = leb-true _ _ c.1; multiple = eqb-true _ _ b.1; inside = ltb-true _ _ a.1 }

pub is_at : (total offset : ℕ) → IsPacketStart total offset → is_place total offset ≡ true
is_at total offset h =
    both_true (both_true (both_true (lt-ltb 0 total h.some) (le-leb total 65536 h.few)) (eq-eqb (offset % 1024) 0 h.multiple))
    (lt-ltb offset total h.inside)

-- one more of them
pub one_more : {A B : Type 0} (post : A → B) (packet : ℕ → A) (from i : ℕ) (posts : List B) →
    (posts ++ map post (map packet (map (λ k. from + 1024 * k) (range_with_len 0 i)))) ++ post (packet (from + 1024 * i)) ∷ []
    ≡ posts ++ map post (map packet (map (λ k. from + 1024 * k) (range_with_len 0 (i + 1))))
one_more post packet from i posts =
    append_assoc posts _ _
    ∙ ap (λ xs. posts ++ xs) (
    sym (map-append post (map packet (map (λ k. from + 1024 * k) (range_with_len 0 i))) (packet (from + 1024 * i) ∷ []))
    ∙ ap (map post) (sym (map-append packet (map (λ k. from + 1024 * k) (range_with_len 0 i)) ((from + 1024 * i) ∷ []))
    ∙ ap (map packet) (sym (map-range_with_len_more (λ k. from + 1024 * k) 0 i i (omega arith)))))

-- how many there are then
pub how_many : {A B : Type 0} (post : A → B) (packet : ℕ → A) (from i : ℕ) (posts : List B) →
    length (posts ++ map post (map packet (map (λ k. from + 1024 * k) (range_with_len 0 i)))) ≡ length posts + i
how_many post packet from i posts =
    length-append posts _
    ∙ ap (λ n. length posts + n) (length-map _ post ∙ length-map _ packet ∙ length-map _ (λ k. from + 1024 * k) ∙ length-range_with_len 0 i)

-- no packets more
pub none_posted : (out : Posts) → out ≡ posted out []
none_posted out = λ i. record out { posts = sym (append-nil out.posts) i }

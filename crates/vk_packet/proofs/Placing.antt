-- Packets behind their fronts: in one slot, and in all.
use Rattle.std.proofs.Common.{◌≡◌, ◌≢◌, ◌≤◌, ◌<◌, ℕ, zero, suc, ◌+◌, ◌-◌, List, [], ◌∷◌, ◌++◌, length, map, replicate, take, drop, Some, refl, sym, ap, subst, ◌∙◌, append_assoc, inl, inr, arith}
use Rattle.std.specs.List.{take-map}
use Rattle.std.specs.Prelude.{slice_get, slice_set, slice_index_or}
use Rattle.std.proofs.Math.ListN.{length-set}
use Rattle.std.proofs.Math.Seq.{drop-append_seam, map-set_same, take-append_seam}
use Rattle.std.proofs.lemmas.Bool.{cases_eq}
use Rattle.std.proofs.lemmas.List.{get_or-set_same, length-append, length-drop, length-map, length-replicate, length-take-le, map-append, map-set, map_push, replicate-append-replicate, set-append_left, take-append-le, take_more_set}
use Rattle.std.proofs.lemmas.Option.{same_Some, slice_get-get_or}
use Rattle.vk_base.specs.declared.limits.TheConstants.{HEADER_BYTES}
use Rattle.vk_packet.specs.Posts.{Posts, behind, framed}
use Rattle.vk_packet.specs.Slots.{AreSome, SlotValue, empty_slot, front_of, fronts_of, post_of, posts_of}

-- a slot, as its bytes have it
abbrev pub slot_of : ℕ → List ℕ → SlotValue
slot_of to bytes = record { to = to; front = take HEADER_BYTES bytes; packet = drop HEADER_BYTES bytes }

placed : (to : ℕ) (front packet : List ℕ) → length front ≡ HEADER_BYTES →
    slot_of to (front ++ packet) ≡ record { to = to; front = front; packet = packet }
placed to front packet size =
    let first : take HEADER_BYTES (front ++ packet) ≡ front =
    ap (λ n. take n (front ++ packet)) (sym size) ∙ take-append_seam front packet in
    let rest : drop HEADER_BYTES (front ++ packet) ≡ packet =
    ap (λ n. drop n (front ++ packet)) (sym size) ∙ drop-append_seam front packet in
    λ i. record { to = to; front = first i; packet = rest i }

pub front_put : (to : ℕ) (old written front : List ℕ) (now : SlotValue) → length front ≡ HEADER_BYTES →
    written ≡ front ++ drop HEADER_BYTES old → slot_of to old ≡ now → slot_of to written ≡ record now { front = front }
front_put to old written front now size is was =
    ap (slot_of to) is ∙ placed to front (drop HEADER_BYTES old) size ∙ ap (λ (s : SlotValue). record s { front = front }) was

pub filled : (to next : ℕ) (old cut new packet : List ℕ) (now : SlotValue) → HEADER_BYTES ≤ length old → cut ≡ take HEADER_BYTES old →
    new ≡ cut ++ packet → slot_of to old ≡ now → slot_of next new ≡ record now { to = next; packet = packet }
filled to next old cut new packet now low is more was =
    ap (slot_of next) (more ∙ ap (λ l. l ++ packet) is)
    ∙ placed next (take HEADER_BYTES old) packet (length-take-le HEADER_BYTES old low)
    ∙ ap (λ (s : SlotValue). record s { to = next; packet = packet }) was

pub kept_size : (old cut : List ℕ) → HEADER_BYTES ≤ length old → cut ≡ take HEADER_BYTES old → length cut ≤ HEADER_BYTES
kept_size old cut low is =
    let size : length cut ≡ HEADER_BYTES = ap length is ∙ length-take-le HEADER_BYTES old low in
    omega arith

pub filled_size : (old cut new : List ℕ) → HEADER_BYTES ≤ length old → cut ≡ take HEADER_BYTES old → length cut < length new →
    HEADER_BYTES ≤ length new
filled_size old cut new low is more =
    let size : length cut ≡ HEADER_BYTES = ap length is ∙ length-take-le HEADER_BYTES old low in
    omega arith

pub filled_some : (old cut new : List ℕ) → HEADER_BYTES ≤ length old → cut ≡ take HEADER_BYTES old → length cut < length new →
    0 < length (drop HEADER_BYTES new)
filled_some old cut new low is more =
    let size : length cut ≡ HEADER_BYTES = ap length is ∙ length-take-le HEADER_BYTES old low in
    omega (arith, length-drop HEADER_BYTES new)

-- the slots that were made, as an outbox with so much room shows them
abbrev pub posts_in : ℕ → ℕ → List SlotValue → Posts
posts_in room used slots = record { room = room; fronts = fronts_of room slots; posts = posts_of used slots }

pub new_posts : (n : ℕ) (slots : List SlotValue) → slots ≡ [] →
    posts_in n 0 slots ≡ record { room = n; fronts = replicate n empty_slot.front; posts = [] }
new_posts n slots is =
    let all : n - 0 ≡ n = omega arith in
    ap (posts_in n 0) is ∙ ap (λ k. record { room = n; fronts = replicate k empty_slot.front; posts = [] }) all

-- Slots that are made show nothing.
empty_fronts : (n : ℕ) → map front_of (replicate n empty_slot) ≡ replicate n empty_slot.front
empty_fronts zero = refl
empty_fronts (suc n) = ap (λ fs. empty_slot.front ∷ fs) (empty_fronts n)

made_fronts : (room k : ℕ) (slots : List SlotValue) → length slots + k ≤ room →
    fronts_of room (slots ++ replicate k empty_slot) ≡ fronts_of room slots
made_fronts room k slots fits =
    let zeros : List ℕ = empty_slot.front in
    let left : room - length (slots ++ replicate k empty_slot) ≡ room - (length slots + k) =
    ap (λ n. room - n) (length-append slots (replicate k empty_slot) ∙ ap (λ n. length slots + n) (length-replicate k empty_slot)) in
    let sum : k + (room - (length slots + k)) ≡ room - length slots = omega arith in
    ap (λ n. map front_of (slots ++ replicate k empty_slot) ++ replicate n zeros) left
    ∙ ap (λ l. l ++ replicate (room - (length slots + k)) zeros)
    (map-append front_of slots (replicate k empty_slot) ∙ ap (λ l. map front_of slots ++ l) (empty_fronts k))
    ∙ append_assoc (map front_of slots) (replicate k zeros) (replicate (room - (length slots + k)) zeros)
    ∙ ap (λ l. map front_of slots ++ l) (replicate-append-replicate k (room - (length slots + k)) zeros
    ∙ ap (λ n. replicate n zeros) sum)

pub made_posts : (room used k : ℕ) (slots made : List SlotValue) (now : Posts) → made ≡ slots ++ replicate k empty_slot → used ≤ length slots →
    length slots + k ≤ room → posts_in room used slots ≡ now → posts_in room used made ≡ now
made_posts room used k slots made now is low fits was =
    let posts : posts_of used (slots ++ replicate k empty_slot) ≡ posts_of used slots =
    ap (map post_of) (take-append-le used slots (replicate k empty_slot) low) in
    ap (posts_in room used) is
    ∙ (λ i. record { room = room; fronts = made_fronts room k slots fits i; posts = posts i })
    ∙ was

pub made_length : (k : ℕ) (slots made : List SlotValue) → made ≡ slots ++ replicate k empty_slot → length made ≡ length slots + k
made_length k slots made is =
    ap length is ∙ length-append slots (replicate k empty_slot) ∙ ap (λ n. length slots + n) (length-replicate k empty_slot)

got_append : (xs ys : List SlotValue) (k : ℕ) → k < length xs → slice_get (xs ++ ys) k ≡ slice_get xs k
got_append [] ys k low = absurd (omega arith)
got_append (x ∷ xs) ys zero low = refl
got_append (x ∷ xs) ys (suc k) low = got_append xs ys k (omega arith)

pub made_some : (used k : ℕ) (slots made : List SlotValue) → made ≡ slots ++ replicate k empty_slot → used ≤ length slots → AreSome used slots →
    AreSome used made
made_some used k slots made is low some i s here found =
    some i s here (sym (got_append slots (replicate k empty_slot) i (omega arith)) ∙ ap (λ l. slice_get l i) (sym is) ∙ found)

-- One slot that is written.
set_fronts : (room at : ℕ) (slots : List SlotValue) (new : SlotValue) (fronts : List (List ℕ)) → map front_of (slice_set slots at new) ≡ fronts →
    fronts_of room (slice_set slots at new) ≡ fronts ++ replicate (room - length slots) empty_slot.front
set_fronts room at slots new fronts is =
    ap (λ n. map front_of (slice_set slots at new) ++ replicate (room - n) empty_slot.front) (length-set slots at new)
    ∙ ap (λ l. l ++ replicate (room - length slots) empty_slot.front) is

-- another front
pub fronts_put : (room : ℕ) (slots : List SlotValue) (used at : ℕ) (old new : SlotValue) (front : List ℕ) (now : Posts) → at < length slots →
    old ≡ slice_index_or slots at old → new ≡ record old { front = front } → posts_in room used slots ≡ now →
    posts_in room used (slice_set slots at new) ≡ record now { fronts = slice_set now.fronts at front }
fronts_put room slots used at old new front now low here is was =
    let fronts : map front_of (slice_set slots at new) ≡ slice_set (map front_of slots) at front =
    map-set front_of slots at new ∙ ap (λ (s : SlotValue). slice_set (map front_of slots) at s.front) is in
    let within : at < length (map front_of slots) = omega (arith, length-map slots front_of) in
    let all : fronts_of room (slice_set slots at new) ≡ slice_set (fronts_of room slots) at front =
    set_fronts room at slots new (slice_set (map front_of slots) at front) fronts
    ∙ sym (set-append_left (map front_of slots) (replicate (room - length slots) empty_slot.front) at front within) in
    let posts : posts_of used (slice_set slots at new) ≡ posts_of used slots =
    sym (take-map post_of used (slice_set slots at new))
    ∙ ap (take used) (map-set_same post_of slots at new old (ap post_of is ∙ ap post_of here)) ∙ take-map post_of used slots in
    (λ i. record { room = room; fronts = all i; posts = posts i })
    ∙ ap (λ (o : Posts). record o { fronts = slice_set o.fronts at front }) was

-- another packet
posts_count : (slots : List SlotValue) (used : ℕ) → used ≤ length slots → length (posts_of used slots) ≡ used
posts_count slots used low = length-map (take used slots) post_of ∙ length-take-le used slots low

pub used_count : (room used : ℕ) (slots : List SlotValue) (now : Posts) → used ≤ length slots → posts_in room used slots ≡ now →
    length now.posts ≡ used
used_count room used slots now low was = ap (λ (o : Posts). length o.posts) (sym was) ∙ posts_count slots used low

pub posts_more : (room : ℕ) (slots : List SlotValue) (used : ℕ) (old new : SlotValue) (to : ℕ) (packet : List ℕ) (now : Posts) →
    used < length slots → old ≡ slice_index_or slots used old → new ≡ record old { to = to; packet = packet } → posts_in room used slots ≡ now →
    posts_in room (used + 1) (slice_set slots used new) ≡ record now { posts = now.posts ++ (to, packet) ∷ [] }
posts_more room slots used old new to packet now low here is was =
    let fronts : map front_of (slice_set slots used new) ≡ map front_of slots =
    map-set_same front_of slots used new old (ap front_of is ∙ ap front_of here) in
    let all : fronts_of room (slice_set slots used new) ≡ fronts_of room slots = set_fronts room used slots new (map front_of slots) fronts in
    let posts : posts_of (used + 1) (slice_set slots used new) ≡ posts_of used slots ++ (to, packet) ∷ [] =
    ap (map post_of) (take_more_set slots used new low) ∙ map_push post_of (take used slots) new
    ∙ ap (λ (s : SlotValue). posts_of used slots ++ post_of s ∷ []) is in
    (λ i. record { room = room; fronts = all i; posts = posts i })
    ∙ ap (λ (o : Posts). record o { posts = o.posts ++ (to, packet) ∷ [] }) was

set_other : (xs : List SlotValue) (i j : ℕ) (x : SlotValue) → j ≢ i → slice_get (slice_set xs i x) j ≡ slice_get xs j
set_other [] i j x apart = refl
set_other (z ∷ zs) zero zero x apart = absurd (apart refl)
set_other (z ∷ zs) zero (suc j) x apart = refl
set_other (z ∷ zs) (suc i) zero x apart = refl
set_other (z ∷ zs) (suc i) (suc j) x apart = set_other zs i j x (λ e. apart (ap suc e))

pub some_more : (slots : List SlotValue) (used : ℕ) (new : SlotValue) → used < length slots → 0 < length new.packet → AreSome used slots →
    AreSome (used + 1) (slice_set slots used new)
some_more slots used new low one some k s below found = elim (cases_eq k used) [
  | inl same ↦
      let is : new ≡ s =
      same_Some new s (sym (slice_get-get_or (slice_set slots used new) used new (omega (arith, length-set slots used new))
      ∙ ap (λ x. Some x) (get_or-set_same slots used new new low)) ∙ ap (slice_get (slice_set slots used new)) (sym same) ∙ found) in
      let P : SlotValue → Type 0 = λ t. 0 < length t.packet in subst P is one
  | inr other ↦
      some k s (omega arith) (sym (set_other slots used k new other) ∙ found)
]

pub some_same : (slots : List SlotValue) (used at : ℕ) (old new : SlotValue) → at < length slots → old ≡ slice_index_or slots at old →
    new.packet ≡ old.packet → AreSome used slots → AreSome used (slice_set slots at new)
some_same slots used at old new low here same some k s below found = elim (cases_eq k at) [
  | inl is ↦
      let was : slice_get slots k ≡ Some old =
      ap (slice_get slots) is ∙ slice_get-get_or slots at old low ∙ ap (λ x. Some x) (sym here) in
      let now : new ≡ s =
      same_Some new s (sym (slice_get-get_or (slice_set slots at new) at new (omega (arith, length-set slots at new))
      ∙ ap (λ x. Some x) (get_or-set_same slots at new new low)) ∙ ap (slice_get (slice_set slots at new)) (sym is) ∙ found) in
      let P : List ℕ → Type 0 = λ l. 0 < length l in
      subst P (sym same ∙ ap (λ (t : SlotValue). t.packet) now) (some k old below was)
  | inr other ↦ some k s below (sym (set_other slots at k new other) ∙ found)
]

-- what is framed
pub behind_none : (fs : List (List ℕ)) → behind fs [] ≡ []
behind_none [] = refl
behind_none (f ∷ fs) = refl

counted : (more : List (List ℕ)) (slots : List SlotValue) (used : ℕ) → used ≤ length slots →
    length (behind (map front_of slots ++ more) (posts_of used slots)) ≡ used
counted more slots zero low = ap length (behind_none (map front_of slots ++ more))
counted more [] (suc used) low = absurd (omega arith)
counted more (x ∷ xs) (suc used) low = ap suc (counted more xs used (omega arith))

pub framed_count : (room : ℕ) (slots : List SlotValue) (used : ℕ) (now : Posts) → used ≤ length slots → posts_in room used slots ≡ now →
    length (framed now) ≡ used
framed_count room slots used now low was =
    ap (λ (o : Posts). length (framed o)) (sym was) ∙ counted (replicate (room - length slots) empty_slot.front) slots used low

pub framed_all : (room : ℕ) (slots : List SlotValue) (used : ℕ) (now : Posts) → used ≤ length slots → posts_in room used slots ≡ now →
    length (framed now) ≡ length now.posts
framed_all room slots used now low was = framed_count room slots used now low was ∙ sym (used_count room used slots now low was)

behind_at : (more : List (List ℕ)) (slots : List SlotValue) (used at : ℕ) (s : SlotValue) → slice_get slots at ≡ Some s → at < used →
    slice_get (behind (map front_of slots ++ more) (posts_of used slots)) at ≡ Some (s.front ++ s.packet)
behind_at more [] used at s found low = absurd (cc found)
behind_at more (x ∷ xs) zero at s found low = absurd (omega arith)
behind_at more (x ∷ xs) (suc used) zero s found low = ap (λ (y : SlotValue). Some (y.front ++ y.packet)) (same_Some x s found)
behind_at more (x ∷ xs) (suc used) (suc at) s found low = behind_at more xs used at s found (omega arith)

pub framed_at : (room : ℕ) (slots : List SlotValue) (used at : ℕ) (s : SlotValue) (bytes : List ℕ) (now : Posts) → slice_get slots at ≡ Some s →
    at < used → bytes ≡ s.front ++ s.packet → posts_in room used slots ≡ now → slice_get (framed now) at ≡ Some bytes
framed_at room slots used at s bytes now found low is was =
    ap (λ (o : Posts). slice_get (framed o) at) (sym was)
    ∙ behind_at (replicate (room - length slots) empty_slot.front) slots used at s found low ∙ ap (λ b. Some b) (sym is)

-- How many frames that pass a test wait for a station, and that a post adds at most as many as it makes copies.
use Rattle.std.proofs.Common.{◌≡◌, ℕ, zero, suc, ◌+◌, ◌*◌, ◌-◌, ◌≤◌, ◌==◌, eqb-true, ◌&&◌, Bool, true, false, Option, Some, None, List, [], ◌∷◌, ◌++◌, length, drop, nat_lt, cond, refl, sym, ap, ◌∙◌, subst, arith, le_refl, mul-le-mul_right}
use Rattle.std.proofs.lemmas.Bool.Decides.{nat_tests}
use Rattle.vk_frame.specs.declared.header.Header.{Header}
use Rattle.vk_hub.specs.Links.{Frame, Waiting, drawn_byte, holding, into_ring, is_addressed, once, posted, posted_all, third_next, twice, with_held}
use Rattle.vk_generator.specs.Numbers.{next}
use Rattle.vk_hub.specs.Counting.{copies}
use Rattle.vk_schedule.specs.declared.plan.LinkPlan.{LinkPlan}

module _ (test : Frame → Bool) where
  abbrev pub hit : Frame → ℕ
  hit f = cond (test f) 1 0

  unfoldable pub in_ring : List Frame → ℕ
  in_ring [] = 0
  in_ring (f ∷ fs) = hit f + in_ring fs

  unfoldable pub in_held : Option Frame → ℕ
  in_held None = 0
  in_held (Some f) = hit f

  abbrev pub inside : Waiting → ℕ
  inside w = in_ring w.ring + in_held w.held

  -- what waits for the station, which is what stands first for it
  unfoldable pub waiting_for : ℕ → List Waiting → ℕ
  waiting_for host [] = 0
  waiting_for host (w ∷ ws) = cond (w.station == host) (inside w) (waiting_for host ws)

  pub waiting_here : (host : ℕ) (w : Waiting) (ws : List Waiting) → (w.station == host) ≡ true → waiting_for host (w ∷ ws) ≡ inside w
  unfolding waiting_for
  waiting_here host w ws is = ap (λ (b : Bool). cond {A = ℕ} b (inside w) (waiting_for host ws)) is

  pub waiting_past : (host : ℕ) (w : Waiting) (ws : List Waiting) → (w.station == host) ≡ false
      → waiting_for host (w ∷ ws) ≡ waiting_for host ws
  unfolding waiting_for
  waiting_past host w ws is = ap (λ (b : Bool). cond {A = ℕ} b (inside w) (waiting_for host ws)) is

  ring_drop : (k : ℕ) (fs : List Frame) → in_ring (drop k fs) ≤ in_ring fs
  unfolding in_ring
  ring_drop zero fs = le_refl (in_ring fs)
  ring_drop (suc k) [] = le_refl 0
  ring_drop (suc k) (f ∷ fs) = let rest = ring_drop k fs in omega arith

  ring_more : (fs : List Frame) (f : Frame) → in_ring (fs ++ f ∷ []) ≡ in_ring fs + hit f
  unfolding in_ring
  ring_more [] f = omega arith
  ring_more (g ∷ fs) f = let rest = ring_more fs f in omega arith

  ring_pushed : (ring : List Frame) (f : Frame) → in_ring (into_ring ring f) ≤ in_ring ring + hit f
  ring_pushed ring f =
      let all : List Frame = ring ++ f ∷ [] in
      let kept = ring_drop (length all - 128) all in
      let more = ring_more ring f in
      omega arith

  held_pushed : (ring : List Frame) (held : Option Frame) → in_ring (with_held ring held) ≤ in_ring ring + in_held held
  unfolding in_held
  held_pushed ring None = omega arith
  held_pushed ring (Some f) = ring_pushed ring f

  -- a post, by what the three draws say
  post_by : (w : Waiting) (f : Frame) (most : ℕ) (lost back doubled : Bool) → 1 ≤ most → (doubled ≡ true → 2 ≤ most)
      → inside (cond lost w (cond back (holding w f) (cond doubled (twice w f) (once w f)))) ≤ inside w + most * hit f
  unfolding in_held
  post_by w f most true back doubled some_copy two = omega arith
  post_by w f most false true doubled some_copy two =
      let h : ℕ = hit f in
      let one : 1 * h ≤ most * h = mul-le-mul_right h some_copy in
      let pushed = held_pushed w.ring w.held in
      omega arith
  post_by w f most false false true some_copy two =
      let h : ℕ = hit f in
      let twofold : 2 ≤ most = two refl in
      let both : 2 * h ≤ most * h = mul-le-mul_right h twofold in
      let first = ring_pushed w.ring f in
      let second = ring_pushed (into_ring w.ring f) f in
      omega arith
  post_by w f most false false false some_copy two =
      let h : ℕ = hit f in
      let one : 1 * h ≤ most * h = mul-le-mul_right h some_copy in
      let pushed = ring_pushed w.ring f in
      omega arith

  one_or_two : (b : Bool) → 1 ≤ cond b 1 2
  one_or_two true = omega arith
  one_or_two false = omega arith

  two_of : (double r : ℕ) (b : Bool) → nat_lt r double ≡ true → (double == 0) ≡ b → 2 ≤ cond b 1 2
  two_of double r true e is = let none : double ≡ 0 = eqb-true double 0 is in absurd (grind (arith, nat_tests))
  two_of double r false e is = omega arith

  post_inside : (plan : LinkPlan) (x : ℕ) (w : Waiting) (f : Frame) → inside (posted plan x w f) ≤ inside w + copies plan * hit f
  post_inside plan x w f =
      post_by w f (copies plan) (nat_lt (drawn_byte (next x)) plan.lose) (nat_lt (drawn_byte (third_next x)) plan.hold)
      (nat_lt (drawn_byte (next (next x))) plan.double) (one_or_two (plan.double == 0))
      (λ e. two_of plan.double (drawn_byte (next (next x))) (plan.double == 0) e refl)

  station_by : (w a b c : Waiting) (lost back doubled : Bool) → a.station ≡ w.station → b.station ≡ w.station → c.station ≡ w.station
      → (cond lost w (cond back a (cond doubled b c))).station ≡ w.station
  station_by w a b c true back doubled p q r = refl
  station_by w a b c false true doubled p q r = p
  station_by w a b c false false true p q r = q
  station_by w a b c false false false p q r = r

  post_station : (plan : LinkPlan) (x : ℕ) (w : Waiting) (f : Frame) → (posted plan x w f).station ≡ w.station
  post_station plan x w f =
      station_by w (holding w f) (twice w f) (once w f) (nat_lt (drawn_byte (next x)) plan.lose) (nat_lt (drawn_byte (third_next x)) plan.hold)
      (nat_lt (drawn_byte (next (next x))) plan.double) refl refl refl

  -- one station's part of a post to all; `most` copies of a frame that passes the test
  module _ (host most : ℕ) (header : Option Header) (f : Frame) where
    abbrev Most : ℕ → ℕ
    Most station = most * cond (test f && is_addressed header station) 1 0

    part_of : (w v : Waiting) (rest after : List Waiting) (here : Bool) → (w.station == host) ≡ here → v.station ≡ w.station
        → inside v ≤ inside w + Most w.station → waiting_for host after ≤ waiting_for host rest + Most host
        → waiting_for host (v ∷ after) ≤ waiting_for host (w ∷ rest) + Most host
    part_of w v rest after true is station mine others =
        let new = waiting_here host v after (ap (λ k. k == host) station ∙ is) in
        let old = waiting_here host w rest is in
        let it : inside v ≤ inside w + Most host = subst (λ k. inside v ≤ inside w + Most k) (eqb-true w.station host is) mine in
        omega arith
    part_of w v rest after false is station mine others =
        let new = waiting_past host v after (ap (λ k. k == host) station ∙ is) in
        let old = waiting_past host w rest is in
        omega arith

  and_true : (a b : Bool) → b ≡ true → ◌≡◌ {A = ℕ} (cond (a && b) 1 0) (cond a 1 0)
  and_true true b is = ap (λ (c : Bool). cond {A = ℕ} c 1 0) is
  and_true false b is = refl

  module _ (plan : LinkPlan) (host : ℕ) (header : Option Header) (f : Frame) where
    abbrev AtMost : List Waiting → List Waiting → Type 0
    AtMost before after = waiting_for host after ≤ waiting_for host before + copies plan * cond (test f && is_addressed header host) 1 0

    posts_by : (x : ℕ) (w : Waiting) (ws : List Waiting) (T U : ℕ × List Waiting) (b : Bool) → is_addressed header w.station ≡ b
        → AtMost ws T.1 → AtMost ws U.1 → AtMost (w ∷ ws) (cond {A = ℕ × List Waiting} b (T.0, posted plan x w f ∷ T.1) (U.0, w ∷ U.1)).1
    posts_by x w ws T U true is t u =
        let one = sym (and_true (test f) (is_addressed header w.station) is) in
        let mine = subst (λ (k : ℕ). inside (posted plan x w f) ≤ inside w + copies plan * k) one (post_inside plan x w f) in
        part_of host (copies plan) header f w (posted plan x w f) ws T.1 (w.station == host) refl (post_station plan x w f) mine t
    posts_by x w ws T U false is t u =
        part_of host (copies plan) header f w w ws U.1 (w.station == host) refl refl (omega arith) u

    pub posts_at_most : (x : ℕ) (ws : List Waiting) → AtMost ws (posted_all plan x ws header f).1
    posts_at_most x [] = omega arith
    posts_at_most x (w ∷ ws) =
        posts_by x w ws (posted_all plan (third_next x) ws header f) (posted_all plan x ws header f) (is_addressed header w.station) refl
        (posts_at_most (third_next x) ws) (posts_at_most x ws)

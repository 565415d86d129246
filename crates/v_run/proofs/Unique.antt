-- An output has one place among all entries of all stations, and its frame has its header.
use Rattle.std.proofs.Common.{◌≡◌, ℕ, suc, ◌+◌, ◌*◌, ◌≤◌, ◌==◌, ◌&&◌, nat_le, eqb-true, eq-eqb, Bool, true, false, Option, Some, List, [], ◌∷◌, length, map, cond, refl, sym, ap, ◌∙◌, arith}
use Rattle.std.proofs.lemmas.Bool.Decides.{nat_tests}
use Rattle.vk_types.specs.Types.{StationEvent}
use Rattle.vk_base.specs.Kernel.{holds_of}
use Rattle.vk_base.specs.Settings.{Settings, has_station, stations_of}
use Rattle.vk_frame.specs.declared.header.Header.{Header}
use Rattle.vk_hub.specs.declared.event.HubEvent.{HubEvent}
use Rattle.vk_hub.specs.Counting.{copies}
use Rattle.vk_hub.specs.Hubs.{HubLog}
use Rattle.vk_hub.specs.Links.{Frame, header_of, is_addressed}
use Rattle.vk_host.specs.Sealed.{sealed}
use Rattle.vk_port.specs.Stations.{entries_at, frames_at}
use Rattle.vk_rules.specs.Each.{Each}
use Rattle.vk_rules.specs.Entries.{Entry}
use Rattle.vk_rules.specs.Frames as rules
use Rattle.vk_rules.specs.Laws.{AllRise, HaveHeaders}
use Rattle.v_run.specs.Closed.{AreClosed}
use Rattle.v_run.specs.Outcomes.{has_numbers, times_taken}
use Rattle.v_run.proofs.Sound.{AreOpen}
use Rattle.v_run.specs.Passages.{Passage, fresh_station}
use Rattle.v_run.proofs.Totals.{added, total, added_map}
use Rattle.v_run.proofs.Sums.{added_most_each}
use Rattle.v_run.proofs.Counts.{delivers}
use Rattle.v_run.proofs.Entries.{by_entries, is_named, times_are}
use Rattle.v_run.proofs.Once.{stands_at_most_once}
use Rattle.v_run.proofs.Seldom.{each_station, taken_was_made, times_most}

module _ (from event output : ℕ) (to : ℕ) where
  abbrev meant : Frame → ℕ
  meant f = cond (is_named from event output f && is_addressed (header_of f) to) 1 0

  and_few : (a b : Bool) → cond {A = ℕ} (a && b) 1 0 ≤ cond a 1 0
  and_few true true = omega arith
  and_few true false = omega arith
  and_few false b = omega arith

  -- whether it is this output of this event of this station
  abbrev at : ℕ → ℕ → ℕ → ℕ
  at host e o = cond (host == from && e == event && o == output) 1 0

  one_few : (f : rules.Frame) (host stamp number e o : ℕ) → header_of (sealed f) ≡ Some f.header
      → f.header ≡ record {
        source = host;
        destination = rules.destination_of f.packet;
        stamp = stamp;
        number = number;
        event =
            e;
        output = o;
      }
      → meant (sealed f) ≤ at host e o
  one_few f host stamp number e o opens is =
      let few = and_few (is_named from event output (sealed f)) (is_addressed (header_of (sealed f)) to) in
      let same : ◌≡◌ {A = ℕ} (cond (is_named from event output (sealed f)) 1 0) (cond (host == from && e == event && o == output) 1 0) =
      ap (λ (h : Option Header). cond {A = ℕ} (holds_of (has_numbers from event output) h) 1 0) (opens ∙ ap Some is) in
      omega arith

  -- of outputs from this one on
  abbrev past : ℕ → ℕ → ℕ → ℕ
  past host e o = cond (host == from && e == event && nat_le o output) 1 0

  past_step : (a b : Bool) (o : ℕ) → cond {A = ℕ} (a && b && o == output) 1 0 + cond (a && b && nat_le (o + 1) output) 1 0
      ≤ cond (a && b && nat_le o output) 1 0
  past_step true true o = by (o == output) (nat_le (o + 1) output) (nat_le o output) refl refl refl
    where
      by : (x y z : Bool) → (o == output) ≡ x → nat_le (o + 1) output ≡ y → nat_le o output ≡ z
          → cond {A = ℕ} x 1 0 + cond y 1 0 ≤ cond z 1 0
      by true true z is more all = absurd (grind (arith, nat_tests, is, more))
      by true false true is more all = omega arith
      by true false false is more all = absurd (grind (arith, nat_tests, is, all))
      by false true true is more all = omega arith
      by false true false is more all = absurd (grind (arith, nat_tests, more, all))
      by false false true is more all = omega arith
      by false false false is more all = omega arith
  past_step true false o = omega arith
  past_step false b o = omega arith

  frames_few : (host stamp number e o : ℕ) (fs : List rules.Frame) → HaveHeaders host stamp number e o fs
      → Each (λ (f : rules.Frame). header_of (sealed f) ≡ Some f.header) fs → added (λ f. meant (sealed f)) fs ≤ past host e o
  frames_few host stamp number e o [] have opens = omega arith
  frames_few host stamp number e o (f ∷ fs) have opens =
      let one = one_few f host stamp number e o opens.0 have.0 in
      let rest = frames_few host stamp number e (o + 1) fs have.1 opens.1 in
      let step = past_step (host == from) (e == event) o in
      omega arith

  -- of this station, if the event is one of its first so many
  abbrev among : ℕ → ℕ → ℕ
  among host n = cond (host == from && nat_le event n) 1 0

  among_step : (a : Bool) (n : ℕ) → cond {A = ℕ} (a && (n + 1) == event && nat_le 1 output) 1 0 + cond (a && nat_le event n) 1 0
      ≤ cond (a && nat_le event (n + 1)) 1 0
  among_step true n = by ((n + 1) == event) (nat_le 1 output) (nat_le event n) (nat_le event (n + 1)) refl refl refl
    where
      by : (x w y z : Bool) → ((n + 1) == event) ≡ x → nat_le event n ≡ y → nat_le event (n + 1) ≡ z
          → cond {A = ℕ} (x && w) 1 0 + cond y 1 0 ≤ cond z 1 0
      by true w true z is low all = absurd (grind (arith, nat_tests, is, low))
      by true w false false is low all = absurd (grind (arith, nat_tests, is, all))
      by true true false true is low all = omega arith
      by true false false true is low all = omega arith
      by false w true true is low all = omega arith
      by false w true false is low all = absurd (grind (arith, nat_tests, low, all))
      by false w false true is low all = omega arith
      by false w false false is low all = omega arith
  among_step false n = omega arith

  one_more : (n : ℕ) → suc n ≡ n + 1
  one_more n = omega arith

  entries_few : (host : ℕ) (es : List Entry) → AllRise host es → AreOpen es
      → added (λ (e : Entry). added meant (map sealed e.frames)) es ≤ among host (length es)
  entries_few host [] rise opens = omega arith
  entries_few host (e ∷ es) rise opens =
      let same = added_map meant sealed e.frames in
      let one = frames_few host e.tick e.number (length es + 1) 1 e.frames rise.0.frames opens.0 in
      let rest = entries_few host es rise.1 opens.1 in
      let step = among_step (host == from) (length es) in
      let size : among host (length (e ∷ es)) ≡ cond (host == from && nat_le event (length es + 1)) 1 0 =
      ap (λ n. cond {A = ℕ} (host == from && nat_le event n) 1 0) (one_more (length es)) in
      omega arith

  among_few : (host n : ℕ) (a : Bool) → (host == from) ≡ a → (b : Bool) → (from == host) ≡ b
      → cond {A = ℕ} (a && nat_le event n) 1 0 ≤ cond b 1 0
  among_few host n true is true so = at_most_one (nat_le event n)
    where
      at_most_one : (b : Bool) → cond {A = ℕ} b 1 0 ≤ 1
      at_most_one true = omega arith
      at_most_one false = omega arith
  among_few host n true is false so = absurd (cc (so, eq-eqb from host (sym (eqb-true host from is))))
  among_few host n false is b so = omega arith

  module _ (c : Settings) (o : HubLog) (histories : ℕ → List (ℕ × StationEvent)) (heard : List (ℕ × HubEvent)) (gs : List Passage)
      (k : AreClosed c o histories heard gs)
      (rises : (q : ℕ) → has_station c.specs q ≡ true → AllRise q (entries_at (fresh_station c q) (histories q)))
      (opens : (q : ℕ) → has_station c.specs q ≡ true → AreOpen (entries_at (fresh_station c q) (histories q))) where
    made_at : (q : ℕ) → has_station c.specs q ≡ true
        → total (λ before e. added meant (frames_at (fresh_station c q) before e)) [] (histories q) ≤ cond (from == q) 1 0
    made_at q there =
        let es = entries_at (fresh_station c q) (histories q) in
        let sum = by_entries c q (histories q) (λ (e : Entry). added meant (map sealed e.frames)) in
        let few = entries_few q es (rises q there) (opens q there) in
        let one = among_few q (length es) (q == from) refl (from == q) refl in
        omega arith

    pub seldom : has_station c.specs to ≡ true → times_taken from event output (entries_at (fresh_station c to) (histories to))
        ≤ copies o.plan
    seldom there =
        let taken = taken_was_made c o histories heard gs k (is_named from event output) to there in
        let each = added_most_each (λ q. has_station c.specs q ≡ true)
        (λ q. total (λ before e. added meant (frames_at (fresh_station c q) before e)) [] (histories q)) (λ q. cond (from == q) 1 0)
        (stations_of c.specs) made_at (each_station (λ q. has_station c.specs q ≡ true) c (λ q is. is)) in
        let once = stands_at_most_once c.specs from 1 in
        let times = times_are c to (histories to) from event output in
        let all = times_most (o.plan.double == 0)
        (added (λ q. total (λ before e. added meant (frames_at (fresh_station c q) before e)) [] (histories q)) (stations_of c.specs)) 1
        (total (λ before e. delivers (is_named from event output) e) [] (histories to)) (omega arith) taken in
        single (copies o.plan) (times_taken from event output (entries_at (fresh_station c to) (histories to))) (omega arith)
      where
        single : (n m : ℕ) → m ≤ n * 1 → m ≤ n
        single n m few = omega arith

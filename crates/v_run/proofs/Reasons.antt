-- Why a run was limited.
use Rattle.std.proofs.Common.{◌≡◌, ℕ, suc, ◌+◌, ◌-◌, ◌*◌, ◌/◌, ◌<◌, ◌≤◌, ◌&&◌, nat_le, nat_lt, Bool, true, false, Option, Some, None, List, [], ◌∷◌, ◌++◌, length, map, cond, refl, sym, ap, ◌∙◌, subst, arith, append_assoc, append-nil, length-append, ◌⊎◌, inl, inr}
use mathlib.Core.List.{IsPrefix}
use Rattle.std.proofs.lemmas.Bool.Decides.{nat_tests}
use Rattle.std.proofs.lemmas.Option.{same_Some}
use Rattle.std.proofs.lemmas.List.Sums.{sum_by-cons}
use Rattle.std.proofs.lemmas.Bool.{or_cases, or_left, or_right}
use Rattle.vk_types.specs.Types.{StationEvent}
use Rattle.vk_base.specs.declared.event.StationEvent.TheVariants as events
use Rattle.vk_base.specs.Settings.{Settings, has_station, stations_of}
use Rattle.vk_base.specs.declared.limits.TheConstants.{EVENTS, LAST_NUMBER}
use Rattle.vk_frame.specs.declared.header.Header.{Header}
use Rattle.vk_frame.specs.Reading.{frame_of}
use Rattle.vk_packet.specs.Reading.{packet_of}
use Rattle.vk_base.specs.Packets.{Packet}
use Rattle.std.specs.Option.{option_map}
use Rattle.vk_hub.specs.declared.event.HubEvent.{HubEvent}
use Rattle.vk_hub.specs.Counting.{all_gets, all_posts, copies, gets}
use Rattle.vk_hub.specs.Hubs.{HubLog, traffic_of}
use Rattle.vk_hub.specs.Links.{Frame, header_of, is_addressed}
use Rattle.vk_hub.proofs.Counts.{counted}
use Rattle.vk_host.specs.Sealed.{sealed}
use Rattle.vk_port.specs.Ports.{Action, Enters, Delivers, Drops, Hears, Berth, IsLog, Stand, entered_at, fetched_at}
use Rattle.vk_port.specs.Stations.{StationHistory, brings_last_number, bytes_of, emitted_bytes, entries_at, entry_at, frames_at, is_used_up, is_used_up_by}
use Rattle.vk_port.specs.declared.station.TheConstants.{EMITTED_BYTES, EVENT_BYTES}
use Rattle.vk_port.proofs.Histories.{entries_more}
use Rattle.vk_rules.specs.Each.{Each}
use Rattle.vk_rules.specs.Entries.{Entry}
use Rattle.vk_rules.specs.Frames as rules
use Rattle.vk_rules.specs.Laws.{AllRise, HaveHeaders}
use Rattle.v_run.specs.Closed.{AreClosed}
use Rattle.v_run.specs.Jobs.{IsJobEnd, JobEnd, MetFull}
use Rattle.v_run.specs.Outcomes.{AreBusy, HasUsedUp}
use Rattle.v_run.proofs.Sound.{AreOpen}
use Rattle.v_run.specs.Passages.{HasDropped, Passage, fresh_station, host_of, lost_count, nowhere}
use Rattle.v_run.specs.Runs.{passages_of}
use Rattle.v_run.proofs.Totals.{added, added_none, total, weight, added_map}
use Rattle.v_run.proofs.Logs.{fetched_places}
use Rattle.v_run.proofs.Sums.{IsDone, added_same_each, all_done, fetches_at_hub}
use Rattle.v_run.proofs.Counts.{gets_are, gets_of_fetches, got}
use Rattle.v_run.proofs.Entries.{by_entries}
use Rattle.v_run.proofs.Ended.{Among, of_each}
use Rattle.v_run.proofs.Limits.{few_lasts, few_losses, others_most, others_prefix}
use Rattle.v_run.proofs.Seldom.{each_station, posted_most}

-- A history that is used up stays so.
bytes_grow : (o : StationHistory) (xs ys : List (ℕ × StationEvent))
    → emitted_bytes (entries_at o xs) ≤ emitted_bytes (entries_at o (xs ++ ys))
bytes_grow o xs [] = subst (λ l. emitted_bytes (entries_at o xs) ≤ emitted_bytes (entries_at o l)) (sym (append-nil xs)) (omega arith)
bytes_grow o xs (y ∷ ys) =
    let more = xs ++ y ∷ [] in
    let rest = bytes_grow o more ys in
    let one : emitted_bytes (entries_at o more) ≡ bytes_of (entry_at o xs y.1) + emitted_bytes (entries_at o xs) =
    ap emitted_bytes (entries_more o xs y) ∙ sum_by-cons bytes_of (entry_at o xs y.1) (entries_at o xs) in
    subst (λ l. emitted_bytes (entries_at o xs) ≤ emitted_bytes (entries_at o l)) (append_assoc xs (y ∷ []) ys) (omega arith)

le_more : (m a b : ℕ) → a ≤ b → nat_le m a ≡ true → nat_le m b ≡ true
le_more m a b low is = grind (arith, nat_tests)

lt_more : (m a b : ℕ) → a ≤ b → nat_lt m a ≡ true → nat_lt m b ≡ true
lt_more m a b low is = grind (arith, nat_tests)

used_more_by : (entries bytes more_entries more_bytes stations : ℕ) → entries ≤ more_entries → bytes ≤ more_bytes
    → is_used_up_by entries bytes stations ≡ true → is_used_up_by more_entries more_bytes stations ≡ true
used_more_by entries bytes more_entries more_bytes stations le less used = by (or_cases _ _ used)
  where
    by : (nat_le (EVENTS / stations) entries ≡ true) ⊎ (nat_lt (EMITTED_BYTES / stations - EVENT_BYTES) bytes ≡ true)
        → is_used_up_by more_entries more_bytes stations ≡ true
    by (inl is) = or_left _ _ (le_more (EVENTS / stations) entries more_entries le is)
    by (inr is) = or_right _ _ (lt_more (EMITTED_BYTES / stations - EVENT_BYTES) bytes more_bytes less is)

entries_size : (o : StationHistory) (acc xs : List (ℕ × StationEvent))
    → length (entries_at o (acc ++ xs)) ≡ length (entries_at o acc) + length xs
entries_size o acc [] = ap (λ l. length (entries_at o l)) (append-nil acc) ∙ plus (length (entries_at o acc))
  where
    plus : (n : ℕ) → n ≡ n + 0
    plus n = omega arith
entries_size o acc (x ∷ xs) =
    let more = acc ++ x ∷ [] in
    let rest = entries_size o more xs in
    let one : length (entries_at o more) ≡ suc (length (entries_at o acc)) = ap length (entries_more o acc x) in
    let whole : length (entries_at o (more ++ xs)) ≡ length (entries_at o (acc ++ (x ∷ xs))) =
    ap (λ l. length (entries_at o l)) (append_assoc acc (x ∷ []) xs) in
    omega arith

pub used_more : (o : StationHistory) (xs history : List (ℕ × StationEvent)) → IsPrefix xs history → is_used_up o xs ≡ true
    → is_used_up_by (length (entries_at o history)) (emitted_bytes (entries_at o history)) (length (stations_of o.config.specs)) ≡ true
used_more o xs history pre used =
    let size = entries_size o [] history in
    let whole : length (xs ++ pre.0) ≡ length history = ap length pre.1 in
    let bytes : emitted_bytes (entries_at o xs) ≤ emitted_bytes (entries_at o history) =
    subst (λ l. emitted_bytes (entries_at o xs) ≤ emitted_bytes (entries_at o l)) pre.1 (bytes_grow o xs pre.0) in
    used_more_by (length xs) (emitted_bytes (entries_at o xs)) (length (entries_at o history)) (emitted_bytes (entries_at o history))
    (length (stations_of o.config.specs)) (let n = length-append xs pre.0 in omega arith) bytes used

-- No frame with the last Lamport number is fetched, where no entry has that number.
abbrev last_number : Frame → Bool
last_number f = brings_last_number (events.Deliver f)

behind_number : (h : Header) (p : Option Packet) → rules.number_in (rules.unsealed_behind h p) ≡ h.number
behind_number h None = refl
behind_number h (Some p) = refl

opened_number : (o : Option (Header × List ℕ)) (h : Header) → option_map (λ (x : Header × List ℕ). x.0) o ≡ Some h
    → rules.number_in (rules.unsealed_by o) ≡ h.number
opened_number None h is = absurd (cc is)
opened_number (Some x) h is =
    behind_number x.0 (packet_of x.1) ∙ ap (λ (y : Header). y.number) (same_Some x.0 h is)

not_last : (f : rules.Frame) (n : ℕ) → header_of (sealed f) ≡ Some f.header → f.header.number ≡ n → n < LAST_NUMBER
    → last_number (sealed f) ≡ false
not_last f n opens is low =
    let same : rules.number_in (rules.unsealed_of (sealed f)) ≡ n = opened_number (frame_of (sealed f)) f.header opens ∙ is in
    grind (arith, nat_tests, same, low)

meant_none : (b a : Bool) → b ≡ false → cond {A = ℕ} (b && a) 1 0 ≡ 0
meant_none true a is = absurd (cc is)
meant_none false a is = refl

module _ (to : ℕ) where
  abbrev meant : Frame → ℕ
  meant f = cond (last_number f && is_addressed (header_of f) to) 1 0

  frames_none : (host stamp number event output : ℕ) (fs : List rules.Frame) → HaveHeaders host stamp number event output fs
      → Each (λ (f : rules.Frame). header_of (sealed f) ≡ Some f.header) fs → number < LAST_NUMBER → added (λ f. meant (sealed f)) fs ≡ 0
  frames_none host stamp number event output [] have opens low = refl
  frames_none host stamp number event output (f ∷ fs) have opens low =
      let one = meant_none (last_number (sealed f)) (is_addressed (header_of (sealed f)) to)
      (not_last f number opens.0 (ap (λ (h : Header). h.number) have.0) low) in
      let rest = frames_none host stamp number event (output + 1) fs have.1 opens.1 low in
      omega arith

  entries_none : (host : ℕ) (es : List Entry) → AllRise host es → AreOpen es → Each (λ (e : Entry). e.number < LAST_NUMBER) es
      → added (λ (e : Entry). added meant (map sealed e.frames)) es ≡ 0
  entries_none host [] rise opens low = refl
  entries_none host (e ∷ es) rise opens low =
      let same = added_map meant sealed e.frames in
      let one = frames_none host e.tick e.number (length es + 1) 1 e.frames rise.0.frames opens.0 low.0 in
      let rest = entries_none host es rise.1 opens.1 low.1 in
      omega arith

-- what was refused was fetched
pub dropped_weight : (test : Frame → Bool) (f : Frame) → test f ≡ true → (b : Berth) (acts : List Action) (s t : Stand) → IsLog b s acts t
    → HasDropped f acts
    → 1 ≤ weight (λ before e. gets test b.host b.hub.programs (traffic_of b.hub before) e) (fetched_places b.host acts)
dropped_weight test f is b [] s t log has = absurd has
dropped_weight test f is b (Enters before e posted ∷ acts) s t log has =
    dropped_weight test f is b acts (entered_at b s before e posted) t log.1 has
dropped_weight test f is b (Delivers heard frame before posted ∷ acts) s t log has =
    let rest = dropped_weight test f is b acts (entered_at b (fetched_at b s heard) before (events.Deliver frame) posted) t log.1 has in
    omega arith
dropped_weight test f is b (Drops heard frame ∷ acts) s t log (inl same) =
    let one = got test b heard _ log.0.answered in
    let hit : ◌≡◌ {A = ℕ} (cond (test frame) 1 0) 1 =
    ap (λ (x : Frame). cond {A = ℕ} (test x) 1 0) same ∙ ap (λ (x : Bool). cond {A = ℕ} x 1 0) is in
    omega arith
dropped_weight test f is b (Drops heard frame ∷ acts) s t log (inr has) =
    let rest = dropped_weight test f is b acts (fetched_at b s heard) t log.1 has in omega arith
dropped_weight test f is b (Hears heard ∷ acts) s t log has =
    let rest = dropped_weight test f is b acts (fetched_at b s heard) t log.1 has in omega arith

pub at_least : {A : Type 0} (f : A → ℕ) (xs : List A) (x : A) → Among x xs → f x ≤ added f xs
at_least f [] x among = absurd among
at_least f (y ∷ ys) x (inl is) = let one = ap f is in omega arith
at_least f (y ∷ ys) x (inr among) = let rest = at_least f ys x among in omega arith

module _ (c : Settings) (o : HubLog) (histories : ℕ → List (ℕ × StationEvent)) (heard : List (ℕ × HubEvent)) (gs : List Passage)
    (k : AreClosed c o histories heard gs)
    (rises : (q : ℕ) → has_station c.specs q ≡ true → AllRise q (entries_at (fresh_station c q) (histories q)))
    (opens : (q : ℕ) → has_station c.specs q ≡ true → AreOpen (entries_at (fresh_station c q) (histories q)))
    (low : (q : ℕ) → has_station c.specs q ≡ true
    → Each (λ (e : Entry). e.number < LAST_NUMBER) (entries_at (fresh_station c q) (histories q))) where
  abbrev logs : ℕ → List Entry
  logs q = entries_at (fresh_station c q) (histories q)

  no_last_posts : (to : ℕ) → all_posts last_number to heard ≡ 0
  no_last_posts to =
      let few = posted_most c o histories heard gs k last_number to in
      let each : added (λ q. total (λ before e. added (meant to) (frames_at (fresh_station c q) before e)) [] (histories q))
      (stations_of c.specs)
      ≡ added (λ q. 0) (stations_of c.specs) =
      added_same_each (λ q. has_station c.specs q ≡ true)
      (λ q. total (λ before e. added (meant to) (frames_at (fresh_station c q) before e)) [] (histories q)) (λ q. 0) (stations_of
      c.specs)
      (λ q there. by_entries c q (histories q) (λ (e : Entry). added (meant to) (map sealed e.frames))
      ∙ entries_none to q (logs q) (rises q there) (opens q there) (low q there))
      (each_station (λ q. has_station c.specs q ≡ true) c (λ q is. is)) in
      let none = added_none (λ (q : ℕ). 0) (stations_of c.specs) (λ q. refl) in
      omega arith

  no_last_gets : (to : ℕ) → all_gets last_number to o.plan o.programs (traffic_of o []) heard ≡ 0
  no_last_gets to =
      let law = counted o heard last_number to in
      let none = no_last_posts to in
      let gone : copies o.plan * all_posts last_number to heard ≡ copies o.plan * 0 = ap (λ n. copies o.plan * n) none in
      omega arith

  not_dropped : (g : Passage) → Among g gs → (f : Frame) → HasDropped f g.actions → last_number f ≡ true → ⊥
  not_dropped g among f has is =
      let d = of_each (IsDone c o histories heard) gs g (all_done c o histories heard gs k) among in
      let w : List (ℕ × HubEvent) → HubEvent → ℕ = λ before e. gets last_number (host_of g) o.programs (traffic_of o before) e in
      let P : HubLog → Type 0 =
      λ x. 1 ≤ weight (λ before e. gets last_number (host_of g) x.programs (traffic_of x before) e) (fetched_places (host_of g)
      g.actions) in
      let one : 1 ≤ weight w (fetched_places (host_of g) g.actions) =
      subst P d.0.hub (dropped_weight last_number f is g.berth g.actions nowhere g.left d.0.log has) in
      let all = at_least (λ (x : Passage). weight w (fetched_places (host_of x) x.actions)) gs g among in
      let sum = fetches_at_hub c o histories heard gs k w (gets_of_fetches o last_number (host_of g)) in
      let are = gets_are o last_number (host_of g) [] heard in
      let none = no_last_gets (host_of g) in
      omega arith

  -- what a passage met is the reason
  pub reason : (js : List JobEnd) → gs ≡ passages_of js → Each (IsJobEnd c) js → 3 * length js ≤ 2000 → (g : Passage) → Among g gs
      → MetFull c g
      → HasUsedUp c logs ⊎ AreBusy c logs
  reason js whole ends few g among (inl used) =
      let d = of_each (IsDone c o histories heard) gs g (all_done c o histories heard gs k) among in
      inl (
        host_of g,
        of_each _ gs g k.stations among,
        used_more (fresh_station c (host_of g)) g.left.seen (histories (host_of g))
            d.1.seen used,
      )
  reason js whole ends few g among (inr (inl dropped)) = absurd (not_dropped g among dropped.0 dropped.1 dropped.2)
  reason js whole ends few g among (inr (inr full)) =
      let d = of_each (IsDone c o histories heard) gs g (all_done c o histories heard gs k) among in
      let more = others_prefix g.left.heard heard d.1.heard in
      let most = others_most c o histories heard gs k in
      let lost : added (λ (x : Passage). lost_count x.actions) gs ≡ added (λ (x : Passage). lost_count x.actions) (passages_of js) =
      ap (added (λ (x : Passage). lost_count x.actions)) whole in
      let lasts : added (λ (x : Passage). length x.last) gs ≡ added (λ (x : Passage). length x.last) (passages_of js) =
      ap (added (λ (x : Passage). length x.last)) whole in
      let losses = few_losses c js ends in
      let last = few_lasts c js ends in
      inr (omega arith)

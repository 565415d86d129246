-- A station plays one event more of its log.
use Rattle.std.proofs.Common.{◌≡◌, ℕ, zero, suc, ◌+◌, ◌^◌, ◌<◌, ◌≤◌, true, List, [], ◌∷◌, ◌++◌, get_or, length, map, set, take, Some, refl, sym, ap, subst, ◌∙◌, inl, inr, arith}
use Rattle.std.specs.Prelude.{slice_get, sum_by}
use Rattle.std.proofs.lemmas.List.{length-set, map_push}
use Rattle.std.proofs.lemmas.Option.{same_Some, slice_get_within}
use Rattle.vk_types.specs.Types.{EventAnswer, StationEvent}
use Rattle.vk_base.specs.declared.event.StationEvent.TheVariants as events
use Rattle.vk_base.specs.Settings.{Settings, stations_of}
use Rattle.vk_frame.specs.Law.{FramesAreSpelledOnce}
use Rattle.vk_packet.specs.Laws.{NothingElseIsRead}
use Rattle.vk_rules.specs.Each.{Each}
use Rattle.vk_rules.specs.Entries.{Entry}
use Rattle.vk_rules.specs.Histories.{Logs, with_entry}
use Rattle.vk_rules.specs.Right.{entry_of}
use Rattle.vk_rules.proofs.Rising.{events_are}
use Rattle.vk_rules.proofs.Lists.{each_at}
use Rattle.v_lawful.specs.Sending.{IsFaultless, IsInput}
use Rattle.v_lawful.proofs.Faultless.{configs_are_faultless}
use Rattle.vk_host.specs.Sealed.{sealed}
use Rattle.vk_host.specs.Standing.{StandsAt, IsEvent}
use Rattle.vk_host.specs.Values.{StationValue, input_of, is_own, most_before}
use Rattle.vk_cluster.specs.declared.emitted.TheConstants.{EVENT_BYTES}
use Rattle.vk_cluster.specs.declared.frames.TheConstants.{MOST_BYTES}
use Rattle.vk_cluster.specs.Piles.{AreFrames, IsAdded, pile_of}
use Rattle.vk_cluster.specs.Standing.{AreAt}
use Rattle.vk_cluster.proofs.Arms.{found_at}
use Rattle.vk_cluster.proofs.Logs.{get_set_same}
use Rattle.vk_cluster.proofs.Loops.{take_get}
use Rattle.vk_cluster.proofs.Stations.{has_own}
use Rattle.vk_cluster.proofs.Steps.{acted, as_many, as_many_events, few_bytes, few_frames, frames_are, host_at}
use Rattle.vk_join.specs.declared.log.JoinRefusal.{JoinRefusal}
use Rattle.vk_schedule.specs.declared.log.StationLog.{StationLog}
use Rattle.vk_join.specs.declared.replay.Position.{Position}
use Rattle.vk_join.specs.declared.replay.Replay.{Replay}
use Rattle.vk_join.specs.Laws.{AreGiven}
use Rattle.vk_join.specs.Logs.{IsOfStation, IsReadableEvent, byte_count, entries_at, entries_for}
use Rattle.vk_join.specs.Merges.{Turn}
use Rattle.vk_join.specs.Replays.{HasReplayed, IsNextPlayed, IsOverLimit, front_of, turn_for, turns_of}
use Rattle.vk_join.proofs.Keyed.{turn_is}
use Rattle.vk_join.proofs.Fronts.{all_below_at, bytes_next, bytes_start, bytes_within, entries_next, entries_own, entries_start, few_in, front_whole, turns_next, turns_start, AreBelow}
use Rattle.vk_join.proofs.Given.{behind_length, input_is, map_count}

-- before the first event of a log, and after its last
pub played_start : (c : Settings) (all before : List StationLog) (l : StationLog) (r : Replay) → AreBelow before l.host →
    HasReplayed c all before r → HasReplayed c all (front_of before l 0) r
played_start c all before l r below played =
    let bytes = bytes_start c before l in
    let most = played.most in
    record {
      at = subst (λ (ls : Logs). AreAt c ls r.hosts.items (pile_of r.emitted)) (sym (entries_start c before l below)) played.at;
      turns = played.turns ∙ sym (turns_start c before l);
      bytes = played.bytes ∙ sym bytes;
      most = omega arith;
    }

pub played_whole : (c : Settings) (all : List StationLog) (n at : ℕ) (l : StationLog) (r : Replay) → slice_get all n ≡ Some l →
    length l.events ≤ at → HasReplayed c all (front_of (take n all) l at) r → HasReplayed c all (take (n + 1) all) r
played_whole c all n at l r found whole played =
    subst (λ ls. HasReplayed c all ls r) (front_whole (take n all) l at whole ∙ sym (take_get all n l found)) played

-- more bytes are over the limit too
pub over_more : (m n : ℕ) (e : JoinRefusal) → m ≤ n → IsOverLimit m e → IsOverLimit n e
over_more m n e up (inl is) = inl is
over_more m n e up (inr is) = let over = is.1 in inr (is.0, omega arith)

-- the entries of all stations before the event
abbrev pub before_event : Settings → List StationLog → ℕ → StationLog → ℕ → Logs
before_event c all n l at = entries_at c (front_of (take n all) l at)

-- an event of a log is of a process of its station, with fields in their ranges
event_own : (c : Settings) (all : List StationLog) (n at : ℕ) (l : StationLog) (e : StationEvent) → AreGiven c all →
    slice_get all n ≡ Some l → slice_get l.events at ≡ Some e → IsOfStation c.specs l.host e
event_own c all n at l e given found there =
    each_at (IsOfStation c.specs l.host) l.events at e
    (each_at (λ (m : StationLog). Each (IsOfStation c.specs m.host) m.events) all n l given.asked.own found) there

event_readable : (c : Settings) (all : List StationLog) (n at : ℕ) (l : StationLog) (e : StationEvent) → AreGiven c all →
    slice_get all n ≡ Some l → slice_get l.events at ≡ Some e → IsReadableEvent e
event_readable c all n at l e given found there =
    each_at IsReadableEvent l.events at e
    (each_at (λ (m : StationLog). Each IsReadableEvent m.events) all n l given.readable found) there

own_event : (c : Settings) (s : StationValue) (host : ℕ) (es : List Entry) (e : StationEvent) → s.host ≡ host → StandsAt c es s →
    IsOfStation c.specs host e → is_own s e ≡ true
own_event c s host es (events.Call pid call) same at own = has_own c s pid at.order (own.0 ∙ sym same) own.1
own_event c s host es (events.Collect pid) same at own = has_own c s pid at.order (own.0 ∙ sym same) own.1
own_event c s host es events.Tick same at own = refl
own_event c s host es (events.Deliver frame) same at own = refl

take_short : {A : Type 0} (n : ℕ) (xs : List A) → length (take n xs) ≤ length xs
take_short zero xs = omega arith
take_short (suc n) [] = omega arith
take_short (suc n) (x ∷ xs) = let rest = take_short n xs in omega arith

-- few events are few before any
few_before : (e : StationEvent) (n : ℕ) → n + 1 < 2 ^ 48 → n < most_before e
few_before (events.Call pid call) n few = omega arith
few_before (events.Collect pid) n few = omega arith
few_before events.Tick n few = omega arith
few_before (events.Deliver frame) n few = omega arith

-- What is known where an event of a log is played.
pub record IsPlaying (c : Settings) (all : List StationLog) (position : Position) (l : StationLog) (e : StationEvent) (r : Replay) : Type 0 where
  pub frames : FramesAreSpelledOnce
  pub packets : NothingElseIsRead
  pub next : IsNextPlayed c all position l e r

module _ {c : Settings} {all : List StationLog} {position : Position} {l : StationLog} {e : StationEvent} {r : Replay}
    (p : IsPlaying c all position l e r) where
  abbrev n : ℕ
  n = position.log

  abbrev at : ℕ
  at = position.at

  abbrev place : ℕ
  place = position.place

  pub place_low : place < length r.hosts.items
  place_low =
      let low = slice_get_within (stations_of c.specs) place l.host p.next.station in
      let same = as_many c (before_event c all n l at) r.hosts.items (pile_of r.emitted) p.next.played.at in
      omega arith

  pub events_low : place < length (pile_of r.emitted).events
  events_low =
      let low = slice_get_within (stations_of c.specs) place l.host p.next.station in
      let same = as_many_events c (before_event c all n l at) r.hosts.items (pile_of r.emitted) p.next.played.at in
      omega arith

  pub found_here : (s : StationValue) → s ≡ get_or r.hosts.items place s → slice_get r.hosts.items place ≡ Some s
  found_here s is = found_at r.hosts.items place s place_low is

  -- the station that was put back is the one that is found at its place again
  pub put_there : (s t u : StationValue) → slice_get r.hosts.items place ≡ Some s → u ≡ get_or (set r.hosts.items place t) place u → u ≡ t
  put_there s t u here is =
      sym (same_Some t u (sym (get_set_same r.hosts.items place t s here)
      ∙ found_at (set r.hosts.items place t) place u (omega (arith, place_low, length-set r.hosts.items place t)) is))

  host_is : (s : StationValue) → slice_get r.hosts.items place ≡ Some s → s.host ≡ l.host
  host_is s here = host_at c (before_event c all n l at) r.hosts.items (pile_of r.emitted) place l.host s p.next.played.at here p.next.station

  -- the station has fewer entries than its log has events
  short_at : length (before_event c all n l at l.host) ≤ 100000
  short_at =
      let own : length (before_event c all n l at l.host) ≡ length (entries_for c l.host (take at l.events)) =
      ap length (entries_own c (take n all) l at (all_below_at all n l p.next.given.asked.rise p.next.found)) in
      let size = behind_length c l.host [] (map input_of (take at l.events)) in
      let count : length (map input_of (take at l.events)) ≡ length (take at l.events) = map_count (take at l.events) in
      let part : length (take at l.events) ≤ length l.events = take_short at l.events in
      let most = few_in all n l p.next.found in
      let limit = p.next.few in
      omega arith

  short : (s : StationValue) → slice_get r.hosts.items place ≡ Some s → length (before_event c all n l at s.host) ≤ 100000
  short s here = subst (λ h. length (before_event c all n l at h) ≤ 100000) (sym (host_is s here)) short_at

  pub few_at : (s : StationValue) → slice_get r.hosts.items place ≡ Some s → s.events < most_before e
  few_at s here =
      let count : s.events ≡ length (before_event c all n l at s.host) =
      (p.next.played.at.at place s here).events ∙ events_are c s.host (before_event c all n l at s.host) in
      let low = short s here in
      few_before e s.events (omega arith)

  pub own_at : (s : StationValue) → slice_get r.hosts.items place ≡ Some s → is_own s e ≡ true
  own_at s here =
      own_event c s l.host (before_event c all n l at s.host) e (host_is s here) (p.next.played.at.at place s here)
      (event_own c all n at l e p.next.given p.next.found p.next.there)

  input_at : (s : StationValue) → slice_get r.hosts.items place ≡ Some s → IsInput s.host (input_of e)
  input_at s here =
      subst (λ h. IsInput h (input_of e)) (sym (host_is s here))
      (input_is p.frames p.packets c.specs l.host e (event_own c all n at l e p.next.given p.next.found p.next.there)
      (event_readable c all n at l e p.next.given p.next.found p.next.there))

  fine : (host : ℕ) → IsFaultless c host
  fine host = configs_are_faultless c p.next.given.lawful p.next.given.pids host

  short_next : (s : StationValue) → slice_get r.hosts.items place ≡ Some s → length (before_event c all n l at s.host) + 1 < 2 ^ 63
  short_next s here = let low = short s here in omega arith

  -- what the event leaves
  pub frames_at : (s t : StationValue) (answer : EventAnswer) → slice_get r.hosts.items place ≡ Some s → IsEvent s t (input_of e) answer →
      AreFrames t.frames
  frames_at s t answer here event =
      few_frames c (before_event c all n l at) r.hosts.items (pile_of r.emitted) place s t (input_of e) answer (fine s.host) (input_at s here)
      (short_next s here) p.next.played.at here event

  pub bytes_at : (s t : StationValue) (answer : EventAnswer) → slice_get r.hosts.items place ≡ Some s → IsEvent s t (input_of e) answer →
      sum_by length t.frames ≤ EVENT_BYTES
  bytes_at s t answer here event =
      few_bytes c (before_event c all n l at) r.hosts.items (pile_of r.emitted) place s t (input_of e) answer (fine s.host) (input_at s here)
      (short_next s here) p.next.played.at here event

  sent_are : (s t : StationValue) (answer : EventAnswer) → slice_get r.hosts.items place ≡ Some s → IsEvent s t (input_of e) answer →
      t.frames ≡ map sealed (entry_of c l.host (before_event c all n l at l.host) (input_of e)).frames
  sent_are s t answer here event =
      frames_are c (before_event c all n l at) r.hosts.items (pile_of r.emitted) place s t (input_of e) answer (fine s.host) (input_at s here)
      (short_next s here) p.next.played.at here event
      ∙ ap (λ h. map sealed (entry_of c h (before_event c all n l at h) (input_of e)).frames) (host_is s here)

  -- all frames have as many bytes as those of the logs with the event
  pub bytes_are : (s t : StationValue) (answer : EventAnswer) → slice_get r.hosts.items place ≡ Some s → IsEvent s t (input_of e) answer →
      length (pile_of r.emitted).bytes + sum_by length t.frames ≡ byte_count c (front_of (take n all) l (at + 1))
  bytes_are s t answer here event =
      ap (λ b. b + sum_by length t.frames) p.next.played.bytes
      ∙ ap (λ fs. byte_count c (front_of (take n all) l at) + sum_by length fs) (sent_are s t answer here event)
      ∙ sym (bytes_next c (take n all) l at e (all_below_at all n l p.next.given.asked.rise p.next.found) p.next.there)

  pub over_at : (s t u : StationValue) (answer : EventAnswer) {refused : JoinRefusal} → slice_get r.hosts.items place ≡ Some s →
      IsEvent s t (input_of e) answer → u ≡ t → IsOverLimit (length (pile_of r.emitted).bytes + sum_by length u.frames) refused →
      IsOverLimit (byte_count c all) refused
  over_at s t u answer {refused} here event same over =
      let sum = bytes_are s t answer here event in
      let part = bytes_within c all n (at + 1) l p.next.found in
      let frames_same : sum_by length u.frames ≡ sum_by length t.frames = ap (λ (v : StationValue). sum_by length v.frames) same in
      over_more (length (pile_of r.emitted).bytes + sum_by length u.frames) (byte_count c all) refused (omega arith) over

  pub played_next : (s t : StationValue) (answer : EventAnswer) (q : Replay) (number : ℕ) → slice_get r.hosts.items place ≡ Some s →
      IsEvent s t (input_of e) answer → IsAdded (pile_of r.emitted) (pile_of q.emitted) place t.frames →
      q.hosts.items ≡ set r.hosts.items place t → number ≡ t.number →
      q.keys.items ≡ r.keys.items ++ record { number = number; log = n; at = at } ∷ [] →
      length (pile_of r.emitted).bytes + sum_by length t.frames ≤ MOST_BYTES → HasReplayed c all (front_of (take n all) l (at + 1)) q
  played_next s t answer q number here event added hosts number_is keys most =
      let logs : Logs = before_event c all n l at in
      let below = all_below_at all n l p.next.given.asked.rise p.next.found in
      let entry : Entry = entry_of c l.host (logs l.host) (input_of e) in
      let same = host_is s here in
      let after : AreAt c (with_entry logs s.host (entry_of c s.host (logs s.host) (input_of e))) (set r.hosts.items place t)
      (pile_of q.emitted) =
      acted c logs r.hosts.items (pile_of r.emitted) place s t (input_of e) answer (fine s.host) (input_at s here)
      (short_next s here) p.next.played.at
      here event (pile_of q.emitted) added in
      let logs_are : with_entry logs s.host (entry_of c s.host (logs s.host) (input_of e)) ≡ entries_at c (front_of (take n all) l (at + 1)) =
      ap (λ h. with_entry logs h (entry_of c h (logs h) (input_of e))) same ∙ entries_next c (take n all) l at e below p.next.there in
      let shown = (event.shows c (logs s.host) (p.next.played.at.at place s here)).number in
      let numbers : number ≡ entry.number =
      number_is ∙ shown ∙ ap (λ h. (entry_of c h (logs h) (input_of e)).number) same in
      let sum = bytes_are s t answer here event in
      record {
        at =
            subst (λ hs. AreAt c (entries_at c (front_of (take n all) l (at + 1))) hs (pile_of q.emitted)) (sym hosts)
            (subst (λ (ls : Logs). AreAt c ls (set r.hosts.items place t) (pile_of q.emitted)) logs_are after);
        turns =
            ap (map (turn_for all)) keys
            ∙ map_push (turn_for all) r.keys.items (record { number = number; log = n; at = at })
            ∙ ap (λ ts. ts ++ turn_for all (record { number = number; log = n; at = at }) ∷ []) p.next.played.turns
            ∙ ap (λ (t : Turn). turns_of c (front_of (take n all) l at) ++ t ∷ [])
            (turn_is all n at number l e p.next.found p.next.there ∙ ap (λ m. record { host = l.host; number = m; event = e }) numbers)
            ∙ sym (turns_next c (take n all) l at e below p.next.there);
        bytes = added.bytes ∙ sum;
        most = omega arith;
      }

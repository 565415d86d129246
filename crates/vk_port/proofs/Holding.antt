-- A station keeps what it keeps: at the beginning, and with one more entry.
use Rattle.std.proofs.Common.{◌≡◌, ℕ, ◌+◌, ◌-◌, ◌*◌, ◌/◌, ◌^◌, ◌<◌, ◌≤◌, Bool, true, false, ◌&&◌, ◌==◌, nat_le, nat_lt, List, [], ◌∷◌, ◌++◌, length, map, refl, sym, ap, subst, ◌∙◌, inl, inr, arith}
use Rattle.std.specs.Prelude.{sum_by}
use Rattle.std.specs.List.{list_any}
use Rattle.std.proofs.Math.Nat.{div-le_self}
use Rattle.std.proofs.lemmas.Bool.{and_parts, leb-false, ltb-false, or_parts}
use Rattle.std.proofs.lemmas.List.{length-append}
use Rattle.std.proofs.lemmas.List.Sums.{sum_by-cons}
use Rattle.std.proofs.lemmas.Nat.{le-div}
use Rattle.vk_types.specs.Types.{EventAnswer, Pid, ProcessSpec, StationEvent}
use Rattle.vk_base.specs.declared.event.StationEvent.TheVariants as events
use Rattle.vk_base.specs.declared.limits.TheConstants.{EVENTS, STATIONS}
use Rattle.vk_base.specs.declared.step.Step.TheVariants as steps
use Rattle.vk_base.specs.Pids.{IsPid}
use Rattle.vk_base.specs.Steps.{is_allowed}
use Rattle.vk_base.specs.Settings.{AreLawful, Settings, has_process, has_station, stations_of}
use Rattle.vk_base.proofs.SettingsLemmas.{among_stations}
use Rattle.vk_rules.specs.Each.{Each}
use Rattle.vk_rules.specs.Entries.{Entry}
use Rattle.vk_rules.specs.Frames.{Frame}
use Rattle.vk_rules.specs.Readings.{reading}
use Rattle.vk_rules.proofs.Lengths.{frames_fit}
use Rattle.vk_rules.proofs.Lists.{each_append}
use Rattle.vk_rules.proofs.Rising.{events_are}
use Rattle.v_lawful.specs.Fitting.{IsFitting}
use Rattle.v_lawful.specs.Sending.{IsFaultless, IsInput, IsSendable, IsSentEntry}
use Rattle.v_lawful.proofs.Entries.{IsSentLog, none_sent, one_more}
use Rattle.v_lawful.proofs.Faultless.{configs_are_faultless}
use Rattle.v_lawful.proofs.Schedules.{most_is}
use Rattle.vk_host.specs.Sealed.{sealed}
use Rattle.vk_host.specs.Standing.{StandsAt, IsEvent, Shows}
use Rattle.vk_host.specs.Values.{StationValue, has, input_of, most_before}
use Rattle.vk_host.specs.Values as values
use Rattle.vk_port.specs.declared.station.TheConstants.{EMITTED_BYTES, EVENT_BYTES}
use Rattle.vk_port.specs.Kept.{IsFrameShort, IsHeldEvent, IsStationKept, first_history}
use Rattle.vk_port.specs.Stations.{StationHistory, brings_last_number, bytes_of, emitted_bytes, entries_at, entry_at, is_full, is_own, is_process_of, is_ready, is_used_up_by, most_frames}
use Rattle.vk_port.proofs.Fronts.{grown}
use Rattle.vk_port.proofs.Histories.{emitted_more, entries_more, entries_size}
use Rattle.vk_port.proofs.Owners.{has_is, own_is}

-- A configuration with a station has one at least; and who acts in it has a number of a station.
none_among : (hosts : List ℕ) (h : ℕ) → list_any (λ q. q == h) hosts ≡ true → 1 ≤ length hosts
none_among [] h e = absurd (cc e)
none_among (q ∷ hosts) h e = omega arith

pub some_station : (c : Settings) (host : ℕ) → has_station c.specs host ≡ true → 1 ≤ length (stations_of c.specs)
some_station c host has = none_among (stations_of c.specs) host (among_stations c.specs host ∙ has)

-- The shares.
share_high : (n : ℕ) → 1 ≤ n → n ≤ 16 → EVENT_BYTES ≤ EMITTED_BYTES / n
share_high n some few = le-div EVENT_BYTES EMITTED_BYTES n (omega arith) (omega arith)

pub entries_low : (n : ℕ) → EVENTS / n ≤ EVENTS
entries_low n = div-le_self EVENTS n

-- What bytes the frames of an entry have.
sealed_short : (fs : List Frame) → Each (λ (f : Frame). IsSendable f.packet) fs → Each IsFrameShort (map sealed fs)
sealed_short [] h = tt
sealed_short (f ∷ fs) h = (frames_fit f.header f.packet h.0.packet h.0.lawful, sealed_short fs h.1)

short_bytes : (bs : List (List ℕ)) → Each IsFrameShort bs → sum_by length bs ≤ 1152 * length bs
short_bytes [] h = omega arith
short_bytes (b ∷ bs) h =
    let one : length b ≤ 1152 = h.0 in
    let rest = short_bytes bs h.1 in
    omega (arith, sum_by-cons length b bs)

-- Events of the station are inputs of it.
event_input : (c : Settings) (host : ℕ) (e : StationEvent) → IsHeldEvent e → is_own (first_history c host) e ≡ true →
    IsInput host (input_of e)
event_input c host (events.Call pid call) held own =
    ((and_parts (has_process c.specs pid) (pid.host == host) own).1, held.0, held.1)
event_input c host (events.Collect pid) held own = tt
event_input c host events.Tick held own = tt
event_input c host (events.Deliver frame) held own = held

-- Before the first event.
none_there : (before rest : List (ℕ × StationEvent)) (x : ℕ × StationEvent) → [] ≡ before ++ x ∷ rest → ⊥
none_there [] rest x e = cc
none_there (b ∷ before) rest x e = cc

pub kept_first : (c : Settings) (s : StationValue) (host stations : ℕ) → s.host ≡ host → AreLawful c →
    Each (λ (p : ProcessSpec). IsPid p.pid) c.specs → has_station c.specs host ≡ true → stations ≡ length (stations_of c.specs) →
    stations ≤ STATIONS → StandsAt c [] s → (items : List (ℕ × StationEvent)) → items ≡ [] → IsStationKept c s.host items s stations 0
kept_first c s host stations same lawful pids has count few at items none =
    let there : has_station c.specs s.host ≡ true = subst (λ h. has_station c.specs h ≡ true) (sym same) has in
    subst (λ l. IsStationKept c s.host l s stations 0) (sym none) (record {
      same = refl;
      lawful = lawful;
      pids = pids;
      station = there;
      count = count;
      few_stations = few;
      some_station = let some = some_station c s.host there in omega arith;
      stands = at;
      sent = tt;
      fitting = (none_sent c s.host).fitting;
      emitted = refl;
      low = omega arith;
      few = omega arith;
      own = tt;
      had_room = λ before rest x is. absurd (none_there before rest x is);
    })

-- A host takes one more event where there were few.
low_before : (n : ℕ) (e : StationEvent) → n + 1 < 2 ^ 48 → n < most_before e
low_before n (events.Call pid call) low = omega arith
low_before n (events.Collect pid) low = omega arith
low_before n events.Tick low = omega arith
low_before n (events.Deliver frame) low = omega arith

-- One more event.
module _ (c : Settings) (items : List (ℕ × StationEvent)) (s : StationValue) (stations bytes : ℕ)
    (kept : IsStationKept c s.host items s stations bytes) where
  abbrev pub o : StationHistory
  o = first_history c s.host

  abbrev pub es : List Entry
  es = entries_at o items

  size : length es ≡ length items
  size = entries_size o items

  few_items : length items ≤ EVENTS
  few_items = let low = entries_low stations in let few = kept.few in omega arith

  -- what the event asks of the host
  pub few_events : (e : StationEvent) → s.events < most_before e
  few_events e =
      let count : s.events ≡ length es = kept.stands.events ∙ events_are c s.host es in
      let few : length items ≤ 100000 = few_items in
      low_before s.events e (omega (arith, size))

  pub own_process : (e : StationEvent) → is_own o e ≡ true → values.is_own s e ≡ true
  own_process e own = own_is c es s e kept.stands ∙ own

  -- whether a process has an answer to collect
  pub ready_done : (pid : Pid) (done : Bool) → has s pid ≡ true →
      ((d : Settings) (l : List Entry) → StandsAt d l s → done ≡ is_allowed (reading d s.host l).view (steps.Collect pid)) →
      done ≡ is_ready o items (events.Collect pid)
  ready_done pid done here is =
      let own : is_process_of o pid ≡ true = sym (has_is c es s pid kept.stands) ∙ here in
      is c es kept.stands ∙ sym (ap (λ b. b && is_allowed (reading c s.host es).view (steps.Collect pid)) own)

  pub ready_other : (pid : Pid) → has s pid ≡ false → false ≡ is_ready o items (events.Collect pid)
  ready_other pid absent =
      let other : is_process_of o pid ≡ false = sym (has_is c es s pid kept.stands) ∙ absent in
      sym (ap (λ b. b && is_allowed (reading c s.host es).view (steps.Collect pid)) other)

  -- what it gives
  module _ (t : StationValue) (k : ℕ) (e : StationEvent) (given : EventAnswer) (held : IsHeldEvent e) (own : is_own o e ≡ true)
      (event : IsEvent s t (input_of e) given) (frames : length t.frames ≤ most_frames e) where
    abbrev pub entry : Entry
    entry = entry_at o items e

    fine : IsFaultless c s.host
    fine = configs_are_faultless c kept.lawful kept.pids s.host

    log : IsSentLog c s.host (entry ∷ es)
    log =
        one_more c s.host es (input_of e) fine (let few : length items ≤ 100000 = few_items in omega (arith, size))
        (event_input c s.host e held own) (record { entries = kept.sent; fitting = kept.fitting })

    shows : Shows t given entry
    shows = event.shows c es kept.stands

    pub short : Each IsFrameShort t.frames
    short = subst (Each IsFrameShort) (sym shows.frames) (sealed_short entry.frames log.entries.0.packets)

    pub few_bytes : sum_by length t.frames ≤ EVENT_BYTES
    few_bytes =
        let most : most_frames e ≤ 2048 = most_is (input_of e) in
        let bytes = short_bytes t.frames short in
        omega arith

    module _ (room : is_full o items e ≡ false) where
      under : is_used_up_by (length items) (emitted_bytes es) (length (stations_of c.specs)) ≡ false
      under = (or_parts (is_used_up_by (length items) (emitted_bytes es) (length (stations_of c.specs))) (brings_last_number e) room).0

      parts : (nat_le (EVENTS / stations) (length items) ≡ false) × (nat_lt (EMITTED_BYTES / stations - EVENT_BYTES) bytes ≡ false)
      parts =
          or_parts (nat_le (EVENTS / stations) (length items)) (nat_lt (EMITTED_BYTES / stations - EVENT_BYTES) bytes)
          ((λ i. is_used_up_by (length items) (kept.emitted i) (kept.count i)) ∙ under)

      bytes_are : sum_by length t.frames ≡ bytes_of entry
      bytes_are = ap (sum_by length) shows.frames

      pub bytes_low : bytes + sum_by length t.frames ≤ EMITTED_BYTES / stations
      bytes_low =
          let low = ltb-false (EMITTED_BYTES / stations - EVENT_BYTES) bytes parts.1 in
          let high = share_high stations kept.some_station kept.few_stations in
          let some = few_bytes in
          omega arith

      pub bytes_fit : bytes + sum_by length t.frames < 2 ^ 64
      bytes_fit =
          let low = bytes_low in
          let most = div-le_self EMITTED_BYTES stations in
          let few : EMITTED_BYTES ≤ 268435456 = omega arith in
          omega arith

      -- what it keeps then
      with_one : IsStationKept c s.host (items ++ (k, e) ∷ []) t stations (bytes + sum_by length t.frames)
      with_one =
          let entries : entries_at o (items ++ (k, e) ∷ []) ≡ entry ∷ es = entries_more o items (k, e) in
          record {
            same = event.host;
            lawful = kept.lawful;
            pids = kept.pids;
            station = kept.station;
            count = kept.count;
            few_stations = kept.few_stations;
            some_station = kept.some_station;
            stands = subst (λ l. StandsAt c l t) (sym entries) (event.stands c es kept.stands);
            sent = subst (Each IsSentEntry) (sym entries) log.entries;
            fitting = subst (λ l. IsFitting c s.host (reading c s.host l)) (sym entries) log.fitting;
            emitted = (let was = kept.emitted in omega (arith, bytes_are, emitted_more o items (k, e)));
            low = bytes_low;
            few =
                let under = leb-false (EVENTS / stations) (length items) parts.0 in
                omega (arith, length-append items ((k, e) ∷ []));
            own = each_append (λ (x : ℕ × StationEvent). is_own o x.1 ≡ true) items ((k, e) ∷ []) kept.own (own, tt);
            had_room = λ before rest x is. elim (grown items before rest (k, e) x is) [
              | inl there ↦ kept.had_room before there.0 x there.1
              | inr last ↦ (λ i. is_full o (last.0 i) (last.1 i).1) ∙ room
            ];
          }

      pub kept_more : (new : List (ℕ × StationEvent)) → new ≡ items ++ (k, e) ∷ [] → (b : ℕ) → b ≡ bytes + sum_by length t.frames →
          IsStationKept c t.host new t stations b
      kept_more new is b sum =
          subst (λ h. IsStationKept c h new t stations b) (sym event.host)
          (subst (λ l. IsStationKept c s.host l t stations b) (sym is)
          (subst (λ n. IsStationKept c s.host (items ++ (k, e) ∷ []) t stations n) (sym sum) with_one))

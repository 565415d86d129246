-- A cluster whose station had an event stands for one event more.
use Rattle.std.proofs.Common.{◌≡◌, ◌≢◌, ℕ, ◌+◌, ◌*◌, ◌^◌, ◌<◌, ◌≤◌, List, [], ◌∷◌, ◌++◌, length, map, get_or, set, Option, Some, option_map, sym, ap, subst, ◌∙◌, inl, inr, arith}
use Rattle.std.specs.Prelude.{slice_get, sum_by}
use Rattle.std.proofs.Math.Seq.{map-set_same}
use Rattle.std.proofs.lemmas.Bool.{cases_eq}
use Rattle.std.proofs.lemmas.List.{length-map, length_push, map_push}
use Rattle.std.proofs.lemmas.Option.{get_or_from_slice_get, same_Some, slice_get-map}
use Rattle.vk_types.specs.Types.{EventAnswer}
use Rattle.vk_base.specs.declared.limits.TheConstants.{EVENTS, TICK_PACKETS}
use Rattle.vk_base.specs.Settings.{Settings, stations_of}
use Rattle.vk_schedule.specs.declared.event.Event.{Event}
use Rattle.vk_rules.specs.Each.{Each}
use Rattle.vk_rules.specs.Entries.{Entry, Input}
use Rattle.vk_rules.specs.Histories.{At, Happened, Logs, happened, happens_at, logs_after, with_entry}
use Rattle.vk_rules.specs.Right.{entry_of}
use Rattle.vk_rules.proofs.OwnEvents.{own_log}
use Rattle.v_lawful.specs.Sending.{IsFaultless, IsInput, most_packets}
use Rattle.v_lawful.proofs.Entries.{IsSentLog, one_more}
use Rattle.v_lawful.proofs.Schedules.{most_is}
use Rattle.v_whole.specs.Schedules.{IsOfProcess}
use Rattle.vk_host.specs.Sealed.{sealed}
use Rattle.vk_host.specs.Standing.{StandsAt, IsEvent, Shows}
use Rattle.vk_host.specs.Values.{StationValue}
use Rattle.vk_cluster.specs.declared.emitted.TheConstants.{EVENT_BYTES}
use Rattle.vk_cluster.specs.declared.report.ClusterAnswer.TheVariants as answers
use Rattle.vk_cluster.specs.Found.{events_in, sealed_events}
use Rattle.vk_cluster.specs.Blocks.{IsFrameSized}
use Rattle.vk_cluster.specs.Piles.{AreFrames, IsAdded, Pile, event_added, frames_by_event, spanned}
use Rattle.vk_cluster.specs.Standing.{AreAt, ShowsLast, ShowsNewest, StandsFor, event_bytes, logs_of, step_report}
use Rattle.vk_cluster.specs.Values.{ClusterValue}
use Rattle.vk_cluster.proofs.Handed.{sealed_frames, sealed_size}
use Rattle.vk_cluster.proofs.Logs.{bytes_next, get_set_other, get_set_same, logs_next, processes_more, with_other}
use Rattle.vk_cluster.proofs.Stations.{same_place, set_map, stations_apart}

-- The station at a place has the number of the configuration's station there.
pub place_host : (c : Settings) (logs : Logs) (hosts : List StationValue) (pile : Pile) (place : ℕ) (s : StationValue) →
    AreAt c logs hosts pile →
    slice_get hosts place ≡ Some s → slice_get (stations_of c.specs) place ≡ Some s.host
place_host c logs hosts pile place s at found =
    ap (λ hs. slice_get hs place) (sym at.order) ∙ slice_get-map (λ (t : StationValue). t.host) hosts place
    ∙ ap (λ (o : Option StationValue). option_map (λ (t : StationValue). t.host) o) found

pub host_at : (c : Settings) (logs : Logs) (hosts : List StationValue) (pile : Pile) (place host : ℕ) (s : StationValue) →
    AreAt c logs hosts pile →
    slice_get hosts place ≡ Some s → slice_get (stations_of c.specs) place ≡ Some host → s.host ≡ host
host_at c logs hosts pile place host s at found there =
    same_Some s.host host (sym (place_host c logs hosts pile place s at found) ∙ there)

-- as many stations as in the configuration
pub as_many : (c : Settings) (logs : Logs) (hosts : List StationValue) (pile : Pile) → AreAt c logs hosts pile →
    length hosts ≡ length (stations_of c.specs)
as_many c logs hosts pile at = sym (length-map hosts (λ (t : StationValue). t.host)) ∙ ap length at.order

-- and as many lists of events
pub as_many_events : (c : Settings) (logs : Logs) (hosts : List StationValue) (pile : Pile) → AreAt c logs hosts pile →
    length pile.events ≡ length (stations_of c.specs)
as_many_events c logs hosts pile at =
    sym (length-map pile.events (map (spanned pile.frames)))
    ∙ ap length at.emitted
    ∙ length-map (stations_of c.specs) (λ host. sealed_events (logs host))

-- The frames of all stations with one entry more.
emitted_more : (c : Settings) (logs : Logs) (before : List (List (List (List ℕ)))) (place host : ℕ) (e : Entry) (fs : List (List ℕ)) →
    slice_get (stations_of c.specs) place ≡ Some host → before ≡ map (λ q. sealed_events (logs q)) (stations_of c.specs) →
    fs ≡ map sealed e.frames →
    event_added before place fs ≡ map (λ q. sealed_events (with_entry logs host e q)) (stations_of c.specs)
emitted_more c logs before place host e fs there is frames =
    let f : ℕ → List (List (List ℕ)) = λ q. sealed_events (logs q) in
    let g : ℕ → List (List (List ℕ)) = λ q. sealed_events (with_entry logs host e q) in
    let hs = stations_of c.specs in
    let old : get_or (map f hs) place [] ≡ f host =
    get_or_from_slice_get (map f hs) place (f host) [] (slice_get-map f hs place
    ∙ ap (λ (o : Option ℕ). option_map f o) there) in
    let more : g host ≡ f host ++ map sealed e.frames ∷ [] =
    ap sealed_events (own_log logs host e) ∙ map_push (map sealed) (events_in (logs host)) e.frames in
    ap (λ l. event_added l place fs) is
    ∙ ap (event_added (map f hs) place) frames
    ∙ ap (λ l. set (map f hs) place (l ++ map sealed e.frames ∷ [])) old
    ∙ ap (set (map f hs) place) (sym more)
    ∙ set_map f g hs place host (stations_apart c.specs) there (λ q apart. ap sealed_events (with_other logs host e q apart))

-- One station has an event.
module _ (c : Settings) (logs : Logs) (hosts : List StationValue) (before : Pile) (place : ℕ) (s t : StationValue) (i : Input)
    (given : EventAnswer) (fine : IsFaultless c s.host) (input : IsInput s.host i) (short : length (logs s.host) + 1 < 2 ^ 63)
    (all : AreAt c logs hosts before) (found : slice_get hosts place ≡ Some s) (event : IsEvent s t i given) where
  here : StandsAt c (logs s.host) s
  here = all.at place s found

  log : IsSentLog c s.host (entry_of c s.host (logs s.host) i ∷ logs s.host)
  log =
      one_more c s.host (logs s.host) i fine short input (record { entries = all.sent s.host; fitting = all.fitting s.host })

  pub frames_are : t.frames ≡ map sealed (entry_of c s.host (logs s.host) i).frames
  frames_are = (event.shows c (logs s.host) here).frames

  -- not too many frames, and not too many bytes
  frame_count : length t.frames ≤ TICK_PACKETS
  frame_count =
      let few = log.entries.0.few in
      let most : most_packets (entry_of c s.host (logs s.host) i).input ≤ 2048 =
      most_is (entry_of c s.host (logs s.host) i).input in
      let size : length t.frames ≡ length (entry_of c s.host (logs s.host) i).frames =
      ap length frames_are ∙ length-map (entry_of c s.host (logs s.host) i).frames sealed in
      omega arith

  pub few_frames : AreFrames t.frames
  few_frames = record {
    few = frame_count;
    each =
        subst (Each IsFrameSized) (sym frames_are)
        (sealed_frames (entry_of c s.host (logs s.host) i).frames log.entries.0.packets);
  }

  pub few_bytes : sum_by length t.frames ≤ EVENT_BYTES
  few_bytes =
      let size : length t.frames ≡ length (entry_of c s.host (logs s.host) i).frames =
      ap length frames_are ∙ length-map (entry_of c s.host (logs s.host) i).frames sealed in
      let few : length t.frames ≤ 2048 = frame_count in
      let sum : sum_by length (map sealed (entry_of c s.host (logs s.host) i).frames) ≤ 1152 * length (entry_of c s.host (logs s.host) i).frames =
      sealed_size (entry_of c s.host (logs s.host) i).frames log.entries.0.packets in
      let same : sum_by length t.frames ≡ sum_by length (map sealed (entry_of c s.host (logs s.host) i).frames) =
      ap (sum_by length) frames_are in
      omega arith

  new_at : (q : ℕ) (u : StationValue) → slice_get (set hosts place t) q ≡ Some u →
      StandsAt c (with_entry logs s.host (entry_of c s.host (logs s.host) i) u.host) u
  new_at q u there = elim (cases_eq q place) [
    | inl same ↦
        let is : t ≡ u =
        same_Some t u (sym (get_set_same hosts place t s found) ∙ ap (slice_get (set hosts place t)) (sym same) ∙ there) in
        let log_is : with_entry logs s.host (entry_of c s.host (logs s.host) i) t.host ≡ entry_of c s.host (logs s.host) i ∷ logs s.host =
        ap (with_entry logs s.host (entry_of c s.host (logs s.host) i)) event.host
        ∙ own_log logs s.host (entry_of c s.host (logs s.host) i) in
        let P : StationValue → Type 0 = λ v. StandsAt c (with_entry logs s.host (entry_of c s.host (logs s.host) i) v.host) v in
        subst P is (subst (λ l. StandsAt c l t) (sym log_is) (event.stands c (logs s.host) here))
    | inr other ↦
        let was : slice_get hosts q ≡ Some u = sym (get_set_other hosts place q t other) ∙ there in
        let apart : u.host ≢ s.host =
        λ e. other (same_place (stations_of c.specs) q place s.host (stations_apart c.specs)
        (place_host c logs hosts before q u all was ∙ ap Some e) (place_host c logs hosts before place s all found)) in
        subst (λ l. StandsAt c l u) (sym (with_other logs s.host (entry_of c s.host (logs s.host) i) u.host apart)) (all.at q u was)
  ]

  -- it shows the new entry, and each other station its newest one
  new_shown : (q : ℕ) (u : StationValue) → slice_get (set hosts place t) q ≡ Some u →
      ShowsNewest (with_entry logs s.host (entry_of c s.host (logs s.host) i) u.host) u
  new_shown q u there = elim (cases_eq q place) [
    | inl same ↦
        let is : t ≡ u =
        same_Some t u (sym (get_set_same hosts place t s found) ∙ ap (slice_get (set hosts place t)) (sym same) ∙ there) in
        let e = entry_of c s.host (logs s.host) i in
        let log_is : with_entry logs s.host e t.host ≡ e ∷ logs s.host = ap (with_entry logs s.host e) event.host ∙ own_log logs s.host e in
        let shown = event.shows c (logs s.host) here in
        let P : StationValue → Type 0 = λ v. ShowsNewest (with_entry logs s.host e v.host) v in
        subst P is (subst (λ l. ShowsNewest l t) (sym log_is) (subst (λ a. Shows t a e) shown.answer shown))
    | inr other ↦
        let was : slice_get hosts q ≡ Some u = sym (get_set_other hosts place q t other) ∙ there in
        let apart : u.host ≢ s.host =
        λ e. other (same_place (stations_of c.specs) q place s.host (stations_apart c.specs)
        (place_host c logs hosts before q u all was ∙ ap Some e) (place_host c logs hosts before place s all found)) in
        subst (λ l. ShowsNewest l u) (sym (with_other logs s.host (entry_of c s.host (logs s.host) i) u.host apart)) (all.newest q u was)
  ]

  new_log : (host : ℕ) → IsSentLog c host (with_entry logs s.host (entry_of c s.host (logs s.host) i) host)
  new_log host = elim (cases_eq host s.host) [
    | inl same ↦
        let P : ℕ → Type 0 = λ h. IsSentLog c h (with_entry logs s.host (entry_of c s.host (logs s.host) i) h) in
        subst P (sym same)
        (subst (IsSentLog c s.host) (sym (own_log logs s.host (entry_of c s.host (logs s.host) i))) log)
    | inr other ↦
        subst (IsSentLog c host) (sym (with_other logs s.host (entry_of c s.host (logs s.host) i) host other))
        (record { entries = all.sent host; fitting = all.fitting host })
  ]

  pub acted : (after : Pile) → IsAdded before after place t.frames →
      AreAt c (logs_after logs (happens_at c logs s.host i)) (set hosts place t) after
  acted after added = record {
    order =
        map-set_same (λ (v : StationValue). v.host) hosts place t s
        (event.host ∙ ap (λ (v : StationValue). v.host) (sym (get_or_from_slice_get hosts place s s found)))
        ∙ all.order;
    at = new_at;
    newest = new_shown;
    kept = added.kept;
    emitted =
        added.shown
        ∙ emitted_more c logs (frames_by_event before) place s.host (entry_of c s.host (logs s.host) i) t.frames
        (place_host c logs hosts before place s all found) all.emitted frames_are;
    sent = λ host. (new_log host).entries;
    fitting = λ host. (new_log host).fitting;
  }

-- A cluster with one event more.
pub next_stands : (c : Settings) (es : List Event) (old new : ClusterValue) (e : Event) (h : Happened) → StandsFor c es old →
    happened c (logs_of c es) e ≡ h → AreAt c (logs_after (logs_of c es) h) new.hosts new.pile →
    length new.pile.bytes ≡ length old.pile.bytes + event_bytes h → new.events ≡ old.events + 1 → new.config ≡ old.config → old.events < EVENTS →
    IsOfProcess c.specs e →
    StandsFor c (es ++ e ∷ []) new
next_stands c es old new e h st is all bytes events config few process =
    let count : length (es ++ e ∷ []) ≡ length es + 1 = length_push es e in
    let before = st.events in
    let size = st.bytes in
    let grown = bytes_next c es e in
    let more : event_bytes (happened c (logs_of c es) e) ≡ event_bytes h = ap event_bytes is in
    record {
      config = config ∙ st.config;
      lawful = st.lawful;
      pids = st.pids;
      stands = subst (λ (l : Logs). AreAt c l new.hosts new.pile) (sym (logs_next c es e ∙ ap (logs_after (logs_of c es)) is)) all;
      bytes = omega arith;
      events = omega arith;
      few = omega arith;
      processes = processes_more c.specs es e st.processes process;
    }

-- what the station shows, where it stands at its place
pub shows_last : (c : Settings) (logs : Logs) (hosts : List StationValue) (before : Pile) (place : ℕ) (s t : StationValue) (i : Input)
    (given : EventAnswer) → AreAt c logs hosts before → slice_get hosts place ≡ Some s → IsEvent s t i given →
    ShowsLast (set hosts place t) (happens_at c logs s.host i)
shows_last c logs hosts before place s t i given all found event q u there at = elim (cases_eq q place) [
  | inl same ↦
      let is : t ≡ u =
      same_Some t u (sym (get_set_same hosts place t s found) ∙ ap (slice_get (set hosts place t)) (sym same) ∙ there) in
      let e = entry_of c s.host (logs s.host) i in
      let shown = event.shows c (logs s.host) (all.at place s found) in
      let P : StationValue → Type 0 = λ v. Shows v e.answer e in
      subst P is (subst (λ a. Shows t a e) shown.answer shown)
  | inr other ↦
      let was : slice_get hosts q ≡ Some u = sym (get_set_other hosts place q t other) ∙ there in
      absurd (other (same_place (stations_of c.specs) q place s.host (stations_apart c.specs)
      (place_host c logs hosts before q u all was ∙ ap Some at) (place_host c logs hosts before place s all found)))
]

pub report_is : (t : StationValue) (given : EventAnswer) (host event : ℕ) (e : Entry) → t.host ≡ host → t.events ≡ event → given ≡ e.answer →
    record { host = t.host; event = t.events; answer = answers.Event given } ≡ step_report (At host event e)
report_is t given host event e a b x =
    λ k. record { host = a k; event = b k; answer = answers.Event (x k) }

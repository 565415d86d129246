-- What an event of a cluster asks of it, and that it is a step.
use Rattle.std.proofs.Common.{◌≡◌, ℕ, suc, ◌+◌, ◌^◌, ◌<◌, ◌≤◌, true, List, [], ◌∷◌, length, map, get_or, set, Option, Some, None, option_map, refl, sym, ap, subst, ◌∙◌, inl, inr, arith}
use Rattle.std.specs.Prelude.{slice_get, sum_by}
use Rattle.std.proofs.lemmas.Bool.{cases_eq, eq-eqb}
use Rattle.std.proofs.lemmas.Option.{none-some, same_Some, slice_get-map, slice_get_read, slice_get_within}
use Rattle.vk_types.specs.Types.{Call, EventAnswer, Pid, ProcessSpec}
use Rattle.vk_base.specs.declared.limits.TheConstants.{EVENTS}
use Rattle.vk_base.specs.Pids.{IsPid}
use Rattle.vk_base.specs.Settings.{Settings, has_process, stations_of}
use Rattle.vk_schedule.specs.declared.event.Event.{Event}
use Rattle.vk_schedule.specs.declared.event.Event.TheVariants as scheduled
use Rattle.vk_schedule.specs.Lawful.{has_actors}
use Rattle.vk_packet.specs.Rules.{IsPacket}
use Rattle.vk_rules.specs.Each.{Each}
use Rattle.vk_rules.specs.Entries.{Called, Collected, Delivered, Entry, Input, Ticked}
use Rattle.vk_rules.specs.Frames.{Frame, Framed, unsealed_of}
use Rattle.vk_rules.specs.Histories.{At, Happened, Logs, Missing, delivered, emitted, handed_over, happens_at, is_output, logs_after, no_entries, with_entry}
unfoldable use Rattle.vk_rules.specs.Histories.{happened, logs_from}
use Rattle.vk_rules.specs.Laws.{FramesUnsealAgain, station_of}
use Rattle.vk_rules.specs.Right.{entry_of}
use Rattle.vk_rules.proofs.Headers.{headers_are_lawful}
use Rattle.vk_rules.proofs.Lists.{each_append, each_find}
use Rattle.vk_rules.proofs.Rising.{entries_rise, events_are}
use Rattle.vk_rules.proofs.OwnEvents.{own_log}
use Rattle.vk_text.specs.Laws.{IsReadable}
use Rattle.v_lawful.specs.Sending.{IsInput, IsLawfulEntry, IsLawfulFrame, IsUnsealed}
use Rattle.v_lawful.proofs.Faultless.{configs_are_faultless}
use Rattle.v_lawful.proofs.Schedules.{lawful_log}
use Rattle.v_whole.specs.Schedules.{IsOfProcess}
use Rattle.vk_host.specs.declared.response.Response.{Response}
use Rattle.vk_host.specs.Responses.{answer_of}
use Rattle.vk_host.specs.Sealed.{sealed}
use Rattle.vk_host.specs.Standing.{IsEvent}
use Rattle.vk_host.specs.Values.{StationValue, has}
use Rattle.vk_cluster.specs.declared.emitted.TheConstants.{EVENT_BYTES}
use Rattle.vk_cluster.specs.declared.report.Advance.{Advance}
use Rattle.vk_cluster.specs.declared.report.Advance.TheVariants as advances
use Rattle.vk_cluster.specs.Events.{ComesWith, FindsNone, input_with, is_own}
use Rattle.vk_cluster.specs.Found.{bytes_for, sealed_events}
use Rattle.vk_cluster.specs.Piles.{AreFrames, frames_by_event}
use Rattle.vk_cluster.specs.Standing.{AreAt, IsAdvance, IsEventFinished, IsNextReported, IsStep, ShowsLast, StandsFor, StandsSomewhere, TellsReport, event_bytes, logs_of, report_by, step_report}
use Rattle.vk_cluster.specs.Values.{ClusterValue}
use Rattle.vk_cluster.proofs.Handed.{found_bytes, opens_again}
use Rattle.vk_cluster.proofs.Logs.{get_set_same, with_other}
use Rattle.vk_cluster.proofs.Stations.{has_own, station_bounds}
use Rattle.vk_cluster.proofs.Steps.{acted, as_many, as_many_events, few_bytes, few_frames, frames_are, host_at, next_stands, report_is, shows_last}

-- No station has more entries than there were events.
after_short : (logs : Logs) (h : Happened) (n : ℕ) → ((g : ℕ) → length (logs g) ≤ n) → (g : ℕ) → length (logs_after logs h g) ≤ n + 1
after_short logs (At host event e) n short g = elim (cases_eq g host) [
  | inl same ↦
      let is : with_entry logs host e g ≡ e ∷ logs host = ap (with_entry logs host e) same ∙ own_log logs host e in
      let size : length (with_entry logs host e g) ≡ suc (length (logs host)) = ap length is in
      let low = short host in
      omega arith
  | inr other ↦
      let size : length (with_entry logs host e g) ≡ length (logs g) = ap length (with_other logs host e g other) in
      let low = short g in
      omega arith
]
after_short logs (Missing host) n short g = let low = short g in omega arith

all_short : (c : Settings) (es : List Event) (logs : Logs) (n : ℕ) → ((g : ℕ) → length (logs g) ≤ n) → (g : ℕ) →
    length (logs_from c logs es g) ≤ n + length es
unfolding logs_from
all_short c [] logs n short g = let low = short g in omega arith
all_short c (e ∷ es) logs n short g =
    let rest = all_short c es (logs_after logs (happened c logs e)) (n + 1) (after_short logs (happened c logs e) n short) g in
    omega arith

pub log_short : (c : Settings) (es : List Event) (g : ℕ) → length (logs_of c es g) ≤ length es
log_short c es g = let low = all_short c es no_entries 0 (λ h. omega arith) g in omega arith

-- the station that an index gives
pub found_at : (hosts : List StationValue) (place : ℕ) (s : StationValue) → place < length hosts → s ≡ get_or hosts place s →
    slice_get hosts place ≡ Some s
found_at hosts place s low is = slice_get_read hosts (length hosts) place s refl low is

-- what holds of the station that was put back holds of the one at its place
put_back : (P : StationValue → Type 0) (hosts : List StationValue) (place : ℕ) (s t : StationValue) → slice_get hosts place ≡ Some s → P t →
    (u : StationValue) → slice_get (set hosts place t) place ≡ Some u → P u
put_back P hosts place s t found h u there = subst P (same_Some t u (sym (get_set_same hosts place t s found) ∙ there)) h

-- the station at a place has neither too many frames nor too many bytes in them
pub record IsFitAt (hosts : List StationValue) (place : ℕ) : Type 0 where
  pub few : (s : StationValue) → slice_get hosts place ≡ Some s → AreFrames s.frames
  pub bytes : (s : StationValue) → slice_get hosts place ≡ Some s → sum_by length s.frames ≤ EVENT_BYTES

-- What is found at a place of a cluster that stands for some events.
module _ (v : ClusterValue) (some : StandsSomewhere v) (place host : ℕ) (there : slice_get (stations_of v.config.specs) place ≡ Some host)
  where
    at_place : slice_get (stations_of some.0.specs) place ≡ Some host
    at_place = ap (λ (c : Settings). slice_get (stations_of c.specs) place) (sym some.2.config) ∙ there

    pub place_low : place < length v.hosts
    place_low =
        let low = slice_get_within (stations_of some.0.specs) place host at_place in
        let same = as_many some.0 (logs_of some.0 some.1) v.hosts v.pile some.2.stands in
        omega arith

    pub found_here : (s : StationValue) → s ≡ get_or v.hosts place s → slice_get v.hosts place ≡ Some s
    found_here s is = found_at v.hosts place s place_low is

    pub events_low : place < length v.pile.events
    events_low =
        let low = slice_get_within (stations_of some.0.specs) place host at_place in
        let same = as_many_events some.0 (logs_of some.0 some.1) v.hosts v.pile some.2.stands in
        omega arith

    pub host_is : (s : StationValue) → slice_get v.hosts place ≡ Some s → s.host ≡ host
    host_is s found = host_at some.0 (logs_of some.0 some.1) v.hosts v.pile place host s some.2.stands found at_place

    pub few_at : (s : StationValue) → slice_get v.hosts place ≡ Some s → s.events + 1 < 2 ^ 48
    few_at s found =
        let at = some.2.stands.at place s found in
        let events : s.events ≡ length (logs_of some.0 some.1 s.host) =
        at.events ∙ events_are some.0 s.host (logs_of some.0 some.1 s.host) in
        let short = log_short some.0 some.1 s.host in
        let few : length some.1 ≤ 100000 = some.2.few in
        omega arith

    own_at : (s : StationValue) (pid : Pid) → slice_get v.hosts place ≡ Some s → pid.host ≡ host → has_process v.config.specs pid ≡ true →
        has s pid ≡ true
    own_at s pid found at process =
        has_own some.0 s pid (some.2.stands.at place s found).order (at ∙ sym (host_is s found))
        (ap (λ (c : Settings). has_process c.specs pid) (sym some.2.config) ∙ process)

    short_log : (s : StationValue) → length (logs_of some.0 some.1 s.host) + 1 < 2 ^ 63
    short_log s =
        let short = log_short some.0 some.1 s.host in
        let few : length some.1 ≤ 100000 = some.2.few in
        omega arith

    frames_at : (s t : StationValue) (i : Input) (given : EventAnswer) → slice_get v.hosts place ≡ Some s → IsInput s.host i → IsEvent s t i given →
        AreFrames t.frames
    frames_at s t i given found input event =
        few_frames some.0 (logs_of some.0 some.1) v.hosts v.pile place s t i given
        (configs_are_faultless some.0 some.2.lawful some.2.pids s.host) input (short_log s) some.2.stands found event

    bytes_at : (s t : StationValue) (i : Input) (given : EventAnswer) → slice_get v.hosts place ≡ Some s → IsInput s.host i → IsEvent s t i given →
        sum_by length t.frames ≤ EVENT_BYTES
    bytes_at s t i given found input event =
        few_bytes some.0 (logs_of some.0 some.1) v.hosts v.pile place s t i given
        (configs_are_faultless some.0 some.2.lawful some.2.pids s.host) input (short_log s) some.2.stands found event

    pub fit_at : (s t : StationValue) (i : Input) (given : EventAnswer) → slice_get v.hosts place ≡ Some s → IsInput s.host i → IsEvent s t i given →
        IsFitAt (set v.hosts place t) place
    fit_at s t i given found input event = record {
      few =
          put_back (λ (u : StationValue). AreFrames u.frames) v.hosts place s t found
          (frames_at s t i given found input event);
      bytes =
          put_back (λ (u : StationValue). sum_by length u.frames ≤ EVENT_BYTES) v.hosts place s t found
          (bytes_at s t i given found input event);
    }

-- A station's event is a step.
stepped : (old new : ClusterValue) (place : ℕ) (s t : StationValue) (i : Input) (given : Response) (e : Event) →
    slice_get old.hosts place ≡ Some s → IsEvent s t i (answer_of t given) → IsInput s.host i → old.events < EVENTS →
    IsOfProcess old.config.specs e →
    ((c : Settings) (es : List Event) → StandsFor c es old → happened c (logs_of c es) e ≡ happens_at c (logs_of c es) s.host i) →
    IsEventFinished (record old { hosts = set old.hosts place t }) new place t → IsStep old new e (report_by t given)
stepped old new place s t i response e found event input few process happens done c es st =
    let given : EventAnswer = answer_of t response in
    let logs : Logs = logs_of c es in
    let entry : Entry = entry_of c s.host (logs s.host) i in
    let here = st.stands.at place s found in
    let fine = configs_are_faultless c st.lawful st.pids s.host in
    let low = log_short c es s.host in
    let most : length es ≤ 100000 = st.few in
    let short : length (logs s.host) + 1 < 2 ^ 63 = omega arith in
    let is = happens c es st in
    let all : AreAt c (logs_after logs (happens_at c logs s.host i)) new.hosts new.pile =
    subst (λ hs. AreAt c (logs_after logs (happens_at c logs s.host i)) hs new.pile) (sym done.hosts)
    (acted c logs old.hosts old.pile place s t i given fine input short st.stands found event new.pile done.pile) in
    let frames : t.frames ≡ map sealed entry.frames =
    frames_are c logs old.hosts old.pile place s t i given fine input short st.stands found event in
    let bytes : length new.pile.bytes ≡ length old.pile.bytes + event_bytes (happens_at c logs s.host i) =
    done.pile.bytes ∙ ap (λ fs. length old.pile.bytes + sum_by length fs) frames in
    let own : IsOfProcess c.specs e = subst (λ (d : Settings). IsOfProcess d.specs e) st.config process in
    let shown = event.shows c (logs s.host) here in
    record {
      report =
          report_is t given s.host (length (logs s.host) + 1) entry event.host
          (event.events ∙ ap (λ n. n + 1) (here.events ∙ events_are c s.host (logs s.host))) shown.answer
          ∙ ap step_report (sym is);
      shows =
          subst (ShowsLast new.hosts) (sym is)
          (subst (λ hs. ShowsLast hs (happens_at c logs s.host i)) (sym done.hosts)
          (shows_last c logs old.hosts old.pile place s t i given st.stands found event));
      stands = next_stands c es old new e (happens_at c logs s.host i) st is all bytes done.events done.config few own;
    }

pub station_step : (old new : ClusterValue) (place : ℕ) (s t : StationValue) (i : Input) (given : Response) (e : Event) →
    slice_get old.hosts place ≡ Some s → IsEvent s t i (answer_of t given) → IsInput s.host i → old.events < EVENTS →
    IsOfProcess old.config.specs e →
    ((c : Settings) (es : List Event) → StandsFor c es old → happened c (logs_of c es) e ≡ happens_at c (logs_of c es) s.host i) →
    IsEventFinished (record old { hosts = set old.hosts place t }) new place t → IsAdvance old new e (advances.Event place given)
station_step old new place s t i given e found event input few process happens done =
    let there : slice_get new.hosts place ≡ Some t =
    ap (λ hs. slice_get hs place) done.hosts ∙ get_set_same old.hosts place t s found in
    record {
      report = report_by t given;
      told = (t, there, refl);
      step = stepped old new place s t i given e found event input few process happens done;
    }

-- A missing delivery is one.
missed_step : (old new : ClusterValue) (to : ℕ) (e : Event) → old.events < EVENTS → IsOfProcess old.config.specs e →
    ((c : Settings) (es : List Event) → StandsFor c es old → happened c (logs_of c es) e ≡ Missing to) →
    new ≡ record old { events = old.events + 1 } → IsStep old new e (step_report (Missing to))
missed_step old new to e few process happens is c es st =
    let next : ClusterValue = record old { events = old.events + 1 } in
    let missed = happens c es st in
    let own : IsOfProcess c.specs e = subst (λ (d : Settings). IsOfProcess d.specs e) st.config process in
    let same : length old.pile.bytes ≡ length old.pile.bytes + 0 = omega arith in
    subst (λ k. IsNextReported c es k e (step_report (Missing to))) (sym is) (record {
      report = ap step_report (sym missed);
      shows = subst (ShowsLast next.hosts) (sym missed) tt;
      stands = next_stands c es old next e (Missing to) st missed st.stands same refl refl few own;
    })

pub missing_step : (old new : ClusterValue) (e : Event) → old.events < EVENTS → IsOfProcess old.config.specs e →
    ((c : Settings) (es : List Event) → StandsFor c es old → happened c (logs_of c es) e ≡ Missing (station_of e)) →
    new ≡ record old { events = old.events + 1 } → IsAdvance old new e (advances.Missing (station_of e))
missing_step old new e few process happens is = record {
  report = step_report (Missing (station_of e));
  told = refl;
  step = missed_step old new (station_of e) e few process happens is;
}

-- What happens at a station with this number.
call_happens : (c : Settings) (es : List Event) (host : ℕ) (pid : Pid) (call : Call) → host ≡ pid.host →
    happened c (logs_of c es) (scheduled.Call pid call) ≡ happens_at c (logs_of c es) host (Called pid call)
unfolding happened
call_happens c es host pid call same = ap (λ h. happens_at c (logs_of c es) h (Called pid call)) (sym same)

collect_happens : (c : Settings) (es : List Event) (host : ℕ) (pid : Pid) → host ≡ pid.host →
    happened c (logs_of c es) (scheduled.Collect pid) ≡ happens_at c (logs_of c es) host (Collected pid)
unfolding happened
collect_happens c es host pid same = ap (λ h. happens_at c (logs_of c es) h (Collected pid)) (sym same)

tick_happens : (c : Settings) (es : List Event) (host at : ℕ) → host ≡ at →
    happened c (logs_of c es) (scheduled.Tick at) ≡ happens_at c (logs_of c es) host Ticked
unfolding happened
tick_happens c es host at same = ap (λ h. happens_at c (logs_of c es) h Ticked) (sym same)

call_input : (host : ℕ) (pid : Pid) (call : Call) → host ≡ pid.host → IsPid pid → IsReadable call → IsInput host (Called pid call)
call_input host pid call same is readable = (eq-eqb pid.host host (sym same), is, readable)

-- What a delivery finds.
pub each_emitted : (es : List Entry) → Each IsLawfulEntry es → Each IsLawfulFrame (emitted es)
each_emitted [] h = tt
each_emitted (e ∷ es) h = each_append IsLawfulFrame e.frames (emitted es) h.0.frames (each_emitted es h.1)

lawful_of : (c : Settings) (es : List Event) (v : ClusterValue) (source from : ℕ) → StandsFor c es v →
    slice_get (stations_of v.config.specs) source ≡ Some from → Each IsLawfulEntry (logs_of c es from)
lawful_of c es v source from st there =
    let bounds : (0 < from) × (from < 65535) =
    station_bounds c.specs source from (ap (λ (d : Settings). slice_get (stations_of d.specs) source) (sym st.config) ∙ there) in
    let few : length es ≤ 100000 = st.few in
    lawful_log from (logs_of c es from) (entries_rise c es from)
    (headers_are_lawful c es from bounds.0 bounds.1 (omega arith)) (st.stands.sent from)

handed_bytes : FramesUnsealAgain → (c : Settings) (es : List Event) (v : ClusterValue) (source to from event output : ℕ) → StandsFor c es v →
    slice_get (stations_of v.config.specs) source ≡ Some from →
    bytes_for to (frames_by_event v.pile) source event output ≡ option_map sealed (handed_over (logs_of c es) to from event output)
handed_bytes unseal c es v source to from event output st there =
    let f : ℕ → List (List (List ℕ)) = λ q. sealed_events (logs_of c es q) in
    let station : slice_get (stations_of c.specs) source ≡ Some from =
    ap (λ (d : Settings). slice_get (stations_of d.specs) source) (sym st.config) ∙ there in
    let at : slice_get (frames_by_event v.pile) source ≡ Some (sealed_events (logs_of c es from)) =
    ap (λ l. slice_get l source) st.stands.emitted ∙ slice_get-map f (stations_of c.specs) source
    ∙ ap (λ (o : Option ℕ). option_map f o) station in
    found_bytes unseal (frames_by_event v.pile) source from to event output (logs_of c es from) at (entries_rise c es from)
    (lawful_of c es v source from st there)

-- these bytes are of a lawful frame that is handed over
pub record IsHandedOver (logs : Logs) (to from event output : ℕ) (bytes : List ℕ) : Type 0 where
  pub frame : Frame
  pub found : handed_over logs to from event output ≡ Some frame
  pub opens : unsealed_of bytes ≡ Framed frame.header frame.packet
  pub packet : IsPacket frame.packet

handed_by : FramesUnsealAgain → (logs : Logs) (to from event output : ℕ) (bytes : List ℕ) (o : Option Frame) →
    handed_over logs to from event output ≡ o → option_map sealed o ≡ Some bytes → Each IsLawfulEntry (logs from) →
    IsHandedOver logs to from event output bytes
handed_by unseal logs to from event output bytes None is b lawful = absurd (none-some bytes b)
handed_by unseal logs to from event output bytes (Some f) is b lawful =
    let one : IsLawfulFrame f =
    each_find IsLawfulFrame (is_output to event output) (emitted (logs from)) f is (each_emitted (logs from) lawful) in
    record {
      frame = f;
      found = is;
      opens = ap unsealed_of (sym (same_Some (sealed f) bytes b)) ∙ opens_again unseal f one;
      packet = one.packet.packet;
    }

handed : FramesUnsealAgain → (c : Settings) (es : List Event) (v : ClusterValue) (source to from event output : ℕ) (bytes : List ℕ) →
    StandsFor c es v → slice_get (stations_of v.config.specs) source ≡ Some from → bytes_for to (frames_by_event v.pile) source event output ≡ Some bytes →
    IsHandedOver (logs_of c es) to from event output bytes
handed unseal c es v source to from event output bytes st there found =
    handed_by unseal (logs_of c es) to from event output bytes (handed_over (logs_of c es) to from event output) refl
    (sym (handed_bytes unseal c es v source to from event output st there) ∙ found) (lawful_of c es v source from st there)

delivered_happens : FramesUnsealAgain → (c : Settings) (es : List Event) (v : ClusterValue) (source host to from event output : ℕ)
    (bytes : List ℕ) → StandsFor c es v → slice_get (stations_of v.config.specs) source ≡ Some from →
    bytes_for to (frames_by_event v.pile) source event output ≡ Some bytes → host ≡ to →
    happened c (logs_of c es) (scheduled.Deliver to from event output) ≡ happens_at c (logs_of c es) host (Delivered (unsealed_of bytes))
unfolding happened
delivered_happens unseal c es v source host to from event output bytes st there found same =
    let h = handed unseal c es v source to from event output bytes st there found in
    ap (delivered c (logs_of c es) to) h.found
    ∙ ap (λ u. happens_at c (logs_of c es) to (Delivered u)) (sym h.opens)
    ∙ ap (λ n. happens_at c (logs_of c es) n (Delivered (unsealed_of bytes))) (sym same)

delivered_input : FramesUnsealAgain → (v : ClusterValue) (source to from event output host : ℕ) (bytes : List ℕ) → StandsSomewhere v →
    slice_get (stations_of v.config.specs) source ≡ Some from → bytes_for to (frames_by_event v.pile) source event output ≡ Some bytes →
    IsInput host (Delivered (unsealed_of bytes))
delivered_input unseal v source to from event output host bytes some there found =
    let h = handed unseal some.0 some.1 v source to from event output bytes some.2 there found in
    subst IsUnsealed (sym h.opens) h.packet

none_handed : (o : Option Frame) → option_map sealed o ≡ None → o ≡ None
none_handed None e = refl
none_handed (Some f) e = absurd (none-some (sealed f) (sym e))

missing_happens : FramesUnsealAgain → (c : Settings) (es : List Event) (v : ClusterValue) (source to from event output : ℕ) → StandsFor c es v →
    slice_get (stations_of v.config.specs) source ≡ Some from → bytes_for to (frames_by_event v.pile) source event output ≡ None →
    happened c (logs_of c es) (scheduled.Deliver to from event output) ≡ Missing to
unfolding happened
missing_happens unseal c es v source to from event output st there none =
    ap (delivered c (logs_of c es) to)
    (none_handed (handed_over (logs_of c es) to from event output)
    (sym (handed_bytes unseal c es v source to from event output st there) ∙ none))

-- What an event is at its station, whatever kind it is of.
pub event_happens : FramesUnsealAgain → (v : ClusterValue) (e : Event) (frame : List ℕ) →
    ComesWith v.config.specs (frames_by_event v.pile) e frame →
    (host : ℕ) → host ≡ station_of e → (c : Settings) (es : List Event) → StandsFor c es v →
    happened c (logs_of c es) e ≡ happens_at c (logs_of c es) host (input_with frame e)
event_happens unseal v (scheduled.Call pid call) frame comes host same c es st = call_happens c es host pid call same
event_happens unseal v (scheduled.Collect pid) frame comes host same c es st = collect_happens c es host pid same
event_happens unseal v (scheduled.Tick at) frame comes host same c es st = tick_happens c es host at same
event_happens unseal v (scheduled.Deliver to from event output) frame comes host same c es st =
    delivered_happens unseal c es v comes.0 host to from event output frame st comes.1 comes.2 same

pub event_input : FramesUnsealAgain → (v : ClusterValue) → StandsSomewhere v → (e : Event) (frame : List ℕ) →
    ComesWith v.config.specs (frames_by_event v.pile) e frame → (host : ℕ) → host ≡ station_of e → IsInput host (input_with frame e)
event_input unseal v some (scheduled.Call pid call) frame comes host same = call_input host pid call same comes.0 comes.1
event_input unseal v some (scheduled.Collect pid) frame comes host same = tt
event_input unseal v some (scheduled.Tick at) frame comes host same = tt
event_input unseal v some (scheduled.Deliver to from event output) frame comes host same =
    delivered_input unseal v comes.0 to from event output host frame some comes.1 comes.2

pub none_happens : FramesUnsealAgain → (v : ClusterValue) (e : Event) → FindsNone v.config.specs (frames_by_event v.pile) e → (c : Settings)
    (es : List Event) → StandsFor c es v → happened c (logs_of c es) e ≡ Missing (station_of e)
none_happens unseal v (scheduled.Call pid call) none c es st = absurd none
none_happens unseal v (scheduled.Collect pid) none c es st = absurd none
none_happens unseal v (scheduled.Tick at) none c es st = absurd none
none_happens unseal v (scheduled.Deliver to from event output) none c es st =
    missing_happens unseal c es v none.0 to from event output st none.1 none.2

-- who acts is of the station and of the configuration
pub own_event : (v : ClusterValue) → StandsSomewhere v → (place : ℕ) (e : Event) →
    slice_get (stations_of v.config.specs) place ≡ Some (station_of e) → (s : StationValue) →
    slice_get v.hosts place ≡ Some s → has_actors v.config.specs e ≡ true → is_own s e ≡ true
own_event v some place (scheduled.Call pid call) there s found has = own_at v some place pid.host there s pid found refl has
own_event v some place (scheduled.Collect pid) there s found has = own_at v some place pid.host there s pid found refl has
own_event v some place (scheduled.Tick at) there s found has = refl
own_event v some place (scheduled.Deliver to from event output) there s found has = refl

pub of_process : (specs : List ProcessSpec) (e : Event) → has_actors specs e ≡ true → IsOfProcess specs e
of_process specs (scheduled.Call pid call) has = has
of_process specs (scheduled.Collect pid) has = tt
of_process specs (scheduled.Tick at) has = tt
of_process specs (scheduled.Deliver to from event output) has = tt

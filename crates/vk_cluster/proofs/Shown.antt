-- What a cluster shows of the event that it had last: the station that acted, and its frames.
use Rattle.std.proofs.Common.{◌≡◌, ℕ, zero, suc, ◌+◌, ◌<◌, ◌≤◌, true, List, [], ◌∷◌, ◌++◌, length, map, get_or, Option, Some, None, refl, sym, ap, subst, ◌∙◌, arith}
use Rattle.std.specs.Prelude.{slice_get}
use Rattle.vk_base.specs.declared.limits.TheConstants.{TICK_PACKETS}
use Rattle.std.proofs.lemmas.Option.{none-some, same_Some, slice_get-get_or}
use Rattle.vk_types.specs.Types.{EventAnswer}
use Rattle.vk_base.specs.Packets.{Packet, Send, Reply, Pending, Negative, MoveData, MoveAck, MoveRequest, MoveBytes, MoveNegative, AskPid, TellPid}
use Rattle.vk_base.specs.Settings.{Settings, has_station}
use Rattle.vk_cluster.specs.declared.report.ClusterAnswer.TheVariants as answers
use Rattle.vk_cluster.specs.declared.report.StepReport.{StepReport}
use Rattle.vk_cluster.specs.Standing.{ShowsLast, logs_of, step_report}
use Rattle.vk_cluster.specs.Values.{ClusterValue}
use Rattle.vk_cluster.proofs.Logs.{logs_next}
use Rattle.vk_cluster.proofs.Taking.{actor_station}
use Rattle.vk_schedule.specs.declared.event.Event.{Event}
use Rattle.vk_schedule.specs.declared.event.Event.TheVariants as scheduled
use Rattle.vk_frame.specs.declared.header.Header.{Header}
use Rattle.vk_frame.specs.Reading.{frame_of}
use Rattle.vk_frame.proofs.Opening.{again}
use Rattle.vk_host.specs.Sealed.{OpensAs, sealed}
use Rattle.vk_host.specs.Standing.{Shows}
use Rattle.vk_host.specs.Values.{StationValue}
use Rattle.vk_packet.specs.Spelling.{packet_bytes}
use Rattle.vk_rules.specs.Each.{Each}
use Rattle.vk_rules.specs.Entries.{Entry}
use Rattle.vk_rules.specs.Frames.{Frame}
use Rattle.vk_rules.specs.Histories.{At, Happened, Logs, Missing, delivered, handed_over, logs_after}
unfoldable use Rattle.vk_rules.specs.Histories.{happened}
use Rattle.vk_rules.specs.Laws.{AllRise, HaveHeaders, station_of}
use Rattle.vk_rules.proofs.Headers.{headers_are_lawful}
use Rattle.vk_rules.proofs.OwnEvents.{own_log}
use Rattle.vk_rules.proofs.Rising.{entries_rise, events_are}
use Rattle.v_lawful.specs.Sending.{IsLawfulEntry, IsLawfulFrame}
use Rattle.v_lawful.proofs.Schedules.{lawful_log, most_is}
use Rattle.vk_cluster.specs.Shown.{HasReported, IsLastEvent, Sends}

-- The frames of an event, one after another.

pub record IsSentFrame (fs : List Frame) (at : ℕ) (bytes : List ℕ) : Type 0 where
  pub frame : Frame
  pub found : slice_get fs at ≡ Some frame
  pub lawful : IsLawfulFrame frame
  pub bytes_are : bytes ≡ sealed frame

sent_at : (fs : List Frame) (at : ℕ) (bytes : List ℕ) → Each IsLawfulFrame fs → slice_get (map sealed fs) at ≡ Some bytes →
    IsSentFrame fs at bytes
sent_at [] at bytes lawful found = absurd (none-some bytes found)
sent_at (f ∷ fs) zero bytes lawful found =
    record { frame = f; found = refl; lawful = lawful.0; bytes_are = sym (same_Some (sealed f) bytes found) }
sent_at (f ∷ fs) (suc at) bytes lawful found =
    let rest = sent_at fs at bytes lawful.1 found in
    record { frame = rest.frame; found = rest.found; lawful = rest.lawful; bytes_are = rest.bytes_are }

pub sent : (s : StationValue) (fs : List Frame) (at : ℕ) (bytes : List ℕ) → Sends s fs → slice_get s.frames at ≡ Some bytes →
    IsSentFrame fs at bytes
sent s fs at bytes sends found =
    sent_at fs at bytes sends.lawful (ap (λ l. slice_get l at) (sym sends.frames) ∙ found)

some_bytes : (p : Packet) → 1 ≤ length (packet_bytes p)
some_bytes (Send from to number message part) = omega arith
some_bytes (Reply from to number message dest bytes) = omega arith
some_bytes (Pending from to number) = omega arith
some_bytes (Negative from to number) = omega arith
some_bytes (MoveData from to number moving dest total offset bytes) = omega arith
some_bytes (MoveAck from to number moving received) = omega arith
some_bytes (MoveRequest from to number moving src total offset) = omega arith
some_bytes (MoveBytes from to number moving total offset bytes) = omega arith
some_bytes (MoveNegative from to number moving) = omega arith
some_bytes (AskPid asker lookup logical) = omega arith
some_bytes (TellPid found asker lookup) = omega arith

-- What the station tells of a frame, without its bytes.
pub record IsFrameTold (fs : List Frame) (at to : ℕ) (packet : List ℕ) : Type 0 where
  pub frame : Frame
  pub found : slice_get fs at ≡ Some frame
  pub destination : to ≡ frame.header.destination
  pub output : at + 1 ≡ frame.header.output
  pub packet_is : packet ≡ packet_bytes frame.packet

pub told : (s : StationValue) (fs : List Frame) (at to : ℕ) (packet : List ℕ) → Sends s fs → at < length s.frames →
    ((bytes : List ℕ) → slice_get s.frames at ≡ Some bytes → OpensAs bytes to (at + 1) packet) → IsFrameTold fs at to packet
told s fs at to packet sends low opens =
    let bytes : List ℕ = get_or s.frames at [] in
    let there : slice_get s.frames at ≡ Some bytes = slice_get-get_or s.frames at [] low in
    let one = sent s fs at bytes sends there in
    let f : Frame = one.frame in
    let o = opens bytes there in
    let pair : (o.header, packet) ≡ (f.header, packet_bytes f.packet) =
    same_Some (o.header, packet) (f.header, packet_bytes f.packet)
    (sym o.opens ∙ ap frame_of one.bytes_are ∙ again f.header (packet_bytes f.packet) one.lawful.header (some_bytes f.packet)) in
    record {
      frame = f;
      found = one.found;
      destination = sym o.named ∙ ap (λ (x : Header × List ℕ). x.0.destination) pair;
      output = sym o.numbered ∙ ap (λ (x : Header × List ℕ). x.0.output) pair;
      packet_is = ap (λ (x : Header × List ℕ). x.1) pair;
    }

-- What is reported.

pub record IsReportedEntry (r : StepReport) (answer : EventAnswer) (h : Happened) : Type 0 where
  pub entry : Entry
  pub is : h ≡ At r.host r.event entry
  pub answered : answer ≡ entry.answer

pub reported_entry : (r : StepReport) (answer : EventAnswer) (h : Happened) → r ≡ step_report h → r.answer ≡ answers.Event answer →
    IsReportedEntry r answer h
reported_entry r answer (At host event e) is given =
    let at : At host event e ≡ At r.host r.event e = λ i. At (sym is i).host (sym is i).event e in
    let same : answers.Event answer ≡ answers.Event e.answer = sym given ∙ ap (λ (x : StepReport). x.answer) is in
    record { entry = e; is = at; answered = cc }
reported_entry r answer (Missing host) is given =
    let none : answers.Event answer ≡ answers.Missing = sym given ∙ ap (λ (x : StepReport). x.answer) is in absurd (cc)

pub reported_missing : (r : StepReport) (h : Happened) → r ≡ step_report h → r.answer ≡ answers.Missing → h ≡ Missing r.host
reported_missing r (At host event e) is given =
    let none : answers.Missing ≡ answers.Event e.answer = sym given ∙ ap (λ (x : StepReport). x.answer) is in absurd (cc)
reported_missing r (Missing host) is given = ap (λ (x : StepReport). Missing x.host) (sym is)

delivered_host : (c : Settings) (logs : Logs) (to : ℕ) (o : Option Frame) → (step_report (delivered c logs to o)).host ≡ to
delivered_host c logs to None = refl
delivered_host c logs to (Some f) = refl

happened_host : (c : Settings) (logs : Logs) (e : Event) → (step_report (happened c logs e)).host ≡ station_of e
unfolding happened
happened_host c logs (scheduled.Call pid call) = refl
happened_host c logs (scheduled.Collect pid) = refl
happened_host c logs (scheduled.Tick host) = refl
happened_host c logs (scheduled.Deliver to from event output) = delivered_host c logs to (handed_over logs to from event output)

module _ (c : Settings) (es : List Event) (now : ClusterValue) (e : Event) (r : StepReport) (reported : HasReported c es now e r) where
  pub is_station : has_station now.config.specs r.host ≡ true
  is_station =
      ap (λ (d : Settings). has_station d.specs r.host) reported.next.stands.config
      ∙ ap (has_station c.specs) (ap (λ (x : StepReport). x.host) reported.next.report ∙ happened_host c (logs_of c es) e)
      ∙ actor_station c.specs e reported.actors

  -- the station that acted
  module _ (entry : Entry) (is : happened c (logs_of c es) e ≡ At r.host r.event entry) (place : ℕ) (s : StationValue)
      (found : slice_get now.hosts place ≡ Some s) (here : s.host ≡ r.host) where
    log_is : logs_of c (es ++ e ∷ []) r.host ≡ entry ∷ logs_of c es r.host
    log_is =
        ap (λ (l : Logs). l r.host) (logs_next c es e)
        ∙ ap (λ h. logs_after (logs_of c es) h r.host) is
        ∙ own_log (logs_of c es) r.host entry

    some_host : 0 < r.host
    some_host = subst (λ h. 0 < h) here (reported.next.stands.stands.at place s found).some_host

    one_host : r.host < 65535
    one_host = subst (λ h. h < 65535) here (reported.next.stands.stands.at place s found).one_host

    pub lawful_entry : IsLawfulEntry entry
    lawful_entry =
        let few : length (es ++ e ∷ []) ≤ 100000 = reported.next.stands.few in
        let all : Each IsLawfulEntry (logs_of c (es ++ e ∷ []) r.host) =
        lawful_log r.host (logs_of c (es ++ e ∷ []) r.host) (entries_rise c (es ++ e ∷ []) r.host)
        (headers_are_lawful c (es ++ e ∷ []) r.host some_host one_host (omega (arith, few))) (reported.next.stands.stands.sent r.host) in
        (subst (Each IsLawfulEntry) log_is all).0

    pub few_frames : length entry.frames ≤ TICK_PACKETS
    few_frames = omega (arith, lawful_entry.few, most_is entry.input)

    pub shown : Shows s entry.answer entry
    shown = (subst (ShowsLast now.hosts) is reported.next.shows) place s found here

    pub sends : Sends s entry.frames
    sends = record { frames = shown.frames; lawful = lawful_entry.frames; few = few_frames }

    -- the headers of its frames say what the station shows
    pub headed : HaveHeaders r.host s.now s.number s.events 1 entry.frames
    headed =
        let before = logs_of c es r.host in
        let rises = subst (AllRise r.host) log_is (entries_rise c (es ++ e ∷ []) r.host) in
        let log : logs_of c (es ++ e ∷ []) s.host ≡ entry ∷ before = ap (logs_of c (es ++ e ∷ [])) here ∙ log_is in
        let events = (reported.next.stands.stands.at place s found).events in
        let read = events_are c s.host (logs_of c (es ++ e ∷ []) s.host) in
        let count : s.events ≡ length before + 1 = let long = ap length log in omega (arith, events, read, long) in
        subst (λ n. HaveHeaders r.host s.now s.number n 1 entry.frames) (sym count)
        (subst (λ n. HaveHeaders r.host s.now n (length before + 1) 1 entry.frames) (sym shown.number)
        (subst (λ n. HaveHeaders r.host n entry.number (length before + 1) 1 entry.frames) (sym shown.tick) rises.0.frames))

    pub last_is : (answer : EventAnswer) → answer ≡ entry.answer → IsLastEvent s answer entry
    last_is answer given = record {
      shows = record {
        answer = given;
        tick = shown.tick;
        number = shown.number;
        steps = shown.steps;
        packets = shown.packets;
        frames = shown.frames;
      };
      sends = sends;
    }

-- The history of a storm so far: the entries of its stations, and the headers of the frames that they emitted.
use Rattle.std.proofs.Common.{◌≡◌, ℕ, ◌+◌, ◌-◌, ◌^◌, ◌<◌, ◌≤◌, ◌==◌, ◌&&◌, Bool, true, false, List, [], ◌∷◌, ◌++◌, length, Option, Some, None, IsTrue, refl, sym, ap, subst, ◌∙◌, arith, inl, inr}
use Rattle.std.proofs.lemmas.Bool.{and_parts, and_from, cases_Bool, cond-true, cond-false, eqb-true, eq-eqb, leb-true}
use Rattle.std.proofs.lemmas.Grind.{common_steps}
use Rattle.std.specs.Int.{is_in_range}
use Rattle.vk_types.specs.Types.{Pid}
use Rattle.vk_base.specs.Packets.{Packet, Send, Reply, Pending, Negative}
unfoldable use Rattle.vk_base.specs.Settings.{fault_of}
use Rattle.vk_base.specs.Settings.{AreLawful, has_station}
use Rattle.vk_cluster.specs.Standing.{logs_of, step_report}
use Rattle.vk_cluster.proofs.Logs.{logs_next}
use Rattle.vk_drive.specs.Tasks.{settings, specs}
use Rattle.vk_drive.specs.Told.{emitted_in, headers}
use Rattle.vk_frame.specs.declared.header.Header.{Header}
use Rattle.vk_frame.specs.Rules.{is_lawful}
use Rattle.vk_rules.specs.Each.{Each}
use Rattle.vk_rules.specs.Entries.{Called, Collected, Delivered, Entry, Input, Ticked}
use Rattle.vk_rules.specs.Frames.{Frame, Framed, destination_of}
use Rattle.vk_rules.specs.Histories.{At, Happened, Logs, Missing, delivered, emitted, handed_over, happens_at, is_output, logs_after}
unfoldable use Rattle.vk_rules.specs.Histories.{happened, with_entry}
use Rattle.vk_rules.specs.Laws.{HaveHeaders, AllRise}
use Rattle.vk_rules.specs.Right.{entry_of}
use Rattle.vk_rules.proofs.Lists.{each_find, each_front}
use Rattle.vk_rules.proofs.Rising.{entries_rise}
use Rattle.vk_rules.proofs.OwnEvents.{own_log}
use Rattle.vk_schedule.specs.declared.event.Event.{Event}
use Rattle.vk_schedule.specs.declared.event.Event.TheVariants as events
use Rattle.vk_schedule.specs.Lawful.{IsOutputNumber, IsReadableEvent, IsStation, has_actors}
use Rattle.vk_text.specs.Laws.{IsOrdinal}
use Rattle.v_lawful.specs.Sending.{IsFaultless, IsInput, IsLawfulEntry, IsLawfulFrame, IsSendable}
use Rattle.v_lawful.proofs.Faultless.{configs_are_faultless}
use Rattle.v_lawful.proofs.Schedules.{schedules_are_lawful, each_emitted}
use Rattle.v_storm.proofs.Views.{IsOurs, IsPlain, IsPlainPacket}
use Rattle.v_storm.proofs.Entries.{IsPlainInput, IsPlainLog, log_more}
use Rattle.v_storm.proofs.Ours.{our_station}
use Rattle.std.specs.Prelude.{nat_le, nat_lt}

-- The configuration has no fault.
pub settings_lawful : AreLawful settings
unfolding fault_of
settings_lawful = record { times = refl; one_each = refl; pools = refl; processes = refl }

pub fine : (host : ℕ) → IsFaultless settings host
fine host =
    configs_are_faultless settings settings_lawful
    (omega arith, (omega arith, (omega arith, (omega arith, tt)))) host

-- The entries, none more than so many.
pub record AreLogs (most : ℕ) (logs : Logs) : Type 0 where
  pub each : (host : ℕ) → IsPlainLog host (logs host)
  pub short : (host : ℕ) → length (logs host) ≤ most

put_log : (most : ℕ) (logs : Logs) (host : ℕ) (i : Input) → AreLogs most logs → most < 100000 → IsInput host i → IsPlainInput i →
    AreLogs (most + 1) (logs_after logs (happens_at settings logs host i))
unfolding with_entry
put_log most logs host i are few input plain =
    let e = entry_of settings host (logs host) i in
    let short = are.short host in
    record {
      each = λ g. elim (cases_Bool (g == host)) [
        | inl t ↦
            subst (IsPlainLog g) (sym (cond-true (g == host) (e ∷ logs host) (logs g) t))
            (subst (λ z. IsPlainLog z (e ∷ logs host)) (sym (eqb-true g host t))
            (log_more host (logs host) i (fine host) (omega (arith, short, few)) input plain (are.each host)))
        | inr f ↦ subst (IsPlainLog g) (sym (cond-false (g == host) (e ∷ logs host) (logs g) f)) (are.each g)
      ];
      short = λ g. elim (cases_Bool (g == host)) [
        | inl t ↦ subst (λ l. length l ≤ most + 1) (sym (cond-true (g == host) (e ∷ logs host) (logs g) t)) (omega (arith, short))
        | inr f ↦
            let other = are.short g in
            subst (λ l. length l ≤ most + 1) (sym (cond-false (g == host) (e ∷ logs host) (logs g) f)) (omega (arith, other))
      ];
    }

delivered_log : (most : ℕ) (logs : Logs) (to : ℕ) (o : Option Frame) → AreLogs most logs → most < 100000 →
    ((f : Frame) → o ≡ Some f → IsSendable f.packet × IsPlainPacket f.packet) →
    AreLogs (most + 1) (logs_after logs (delivered settings logs to o))
delivered_log most logs to None are few sent =
    record { each = are.each; short = λ g. let short = are.short g in omega (arith, short) }
delivered_log most logs to (Some f) are few sent =
    let s = sent f refl in put_log most logs to (Delivered (Framed f.header f.packet)) are few s.0.packet s.1

-- the calls are plain
abbrev pub IsPlainEvent : Event → Type 0
IsPlainEvent (events.Call pid call) = IsOurs pid × IsPlain call
IsPlainEvent e = Unit {0}

pub event_log : (most : ℕ) (logs : Logs) (e : Event) → AreLogs most logs → most < 100000 → IsReadableEvent e → IsPlainEvent e →
    AreLogs (most + 1) (logs_after logs (happened settings logs e))
unfolding happened
event_log most logs (events.Call pid call) are few is plain =
    put_log most logs pid.host (Called pid call) are few (eq-eqb pid.host pid.host refl, is.0, is.1) plain
event_log most logs (events.Collect pid) are few is plain = put_log most logs pid.host (Collected pid) are few tt tt
event_log most logs (events.Tick host) are few is plain = put_log most logs host Ticked are few tt tt
event_log most logs (events.Deliver to from event output) are few is plain =
    delivered_log most logs to (handed_over logs to from event output) are few
    (λ f there. (
      each_find (λ (g : Frame). IsSendable g.packet) (is_output to event output) (emitted (logs from)) f there
          (each_emitted (logs from) (are.each from).sent.entries),
      each_find (λ (g : Frame). IsPlainPacket g.packet) (is_output to event output) (emitted (logs from)) f there (are.each from).frames,
    ))

-- Headers.
pub record IsGoodHeader (h : Header) : Type 0 where
  pub to : IsStation h.destination
  pub from : IsStation h.source
  pub event : IsOrdinal h.event
  pub output : IsOutputNumber h.output
  pub acts : has_actors specs (events.Deliver h.destination h.source h.event h.output) ≡ true

-- a plain packet is for one of the four processes
receiver_ours : (p : Packet) → IsPlainPacket p → (pid : Pid) × IsOurs pid × (destination_of p ≡ pid.host)
receiver_ours (Send from to number m part) plain = (to, plain.1, refl)
receiver_ours (Reply from to number m dest bytes) plain = (to, plain, refl)
receiver_ours (Pending from to number) plain = (to, plain, refl)
receiver_ours (Negative from to number) plain = (to, plain, refl)
receiver_ours p plain = absurd plain

is_true : (b : Bool) → IsTrue b → b ≡ true
is_true true t = refl
is_true false t = absurd (grind (arith, common_steps))

in_range : (lo hi n : ℕ) → is_in_range lo hi n ≡ true → (lo ≤ n) × (n ≤ hi)
in_range lo hi n t =
    let parts = and_parts (nat_le lo n) (nat_le n hi) t in
    (leb-true lo n parts.0, leb-true n hi parts.1)

record HasRanges (h : Header) : Type 0 where
  source : (1 ≤ h.source) × (h.source ≤ 65534)
  event : (1 ≤ h.event) × (h.event ≤ 2 ^ 63 - 1)
  output : (1 ≤ h.output) × (h.output ≤ 65535)

ranges_of : (h : Header) → IsTrue (is_lawful h) → HasRanges h
ranges_of h t =
    let a = is_in_range 1 65534 h.source in
    let b = is_in_range 1 65535 h.destination in
    let c = nat_lt h.stamp (2 ^ 63) in
    let d = nat_lt h.number (2 ^ 63) in
    let e = is_in_range 1 (2 ^ 63 - 1) h.event in
    let f = is_in_range 1 65535 h.output in
    let all = and_parts (a && b && c && d && e) f (is_true (is_lawful h) t) in
    let five = and_parts (a && b && c && d) e all.0 in
    let four = and_parts (a && b && c) d five.0 in
    let three = and_parts (a && b) c four.0 in
    let two = and_parts a b three.0 in
    record {
      source = in_range 1 65534 h.source two.0;
      event = in_range 1 (2 ^ 63 - 1) h.event five.1;
      output = in_range 1 65535 h.output all.1;
    }

good_header : (host stamp number event output : ℕ) (f : Frame) → f.header ≡ record {
  source = host;
  destination = destination_of f.packet;
  stamp = stamp;
  number = number;
  event = event;
  output = output;
} → IsLawfulFrame f → IsPlainPacket f.packet → has_station specs host ≡ true → IsGoodHeader f.header
good_header host stamp number event output f is lawful plain acts =
    let r = ranges_of f.header lawful.header in
    let to = receiver_ours f.packet plain in
    let there : f.header.destination ≡ to.0.host = ap (λ (h : Header). h.destination) is ∙ to.2 in
    let source : f.header.source ≡ host = ap (λ (h : Header). h.source) is in
    record {
      to = subst IsStation (sym there) (to.0.some_host, to.0.one_host);
      from = let s = r.source in (omega (arith, s.0), omega (arith, s.1));
      event = let s = r.event in (omega (arith, s.0), omega (arith, s.1));
      output = let s = r.output in (omega (arith, s.0), omega (arith, s.1));
      acts = and_from (has_station specs f.header.destination) (has_station specs f.header.source)
          (ap (has_station specs) there ∙ our_station to.0 to.1) (ap (has_station specs) source ∙ acts);
    }

good_headers : (host stamp number event output : ℕ) (fs : List Frame) → HaveHeaders host stamp number event output fs →
    Each IsLawfulFrame fs → Each (λ (f : Frame). IsPlainPacket f.packet) fs → has_station specs host ≡ true →
    Each IsGoodHeader (headers fs)
good_headers host stamp number event output [] have lawful plain acts = tt
good_headers host stamp number event output (f ∷ fs) have lawful plain acts = (
  good_header host stamp number event output f have.0 lawful.0 plain.0 acts,
  good_headers host stamp number event (output + 1) fs have.1 lawful.1 plain.1 acts,
)

newest_headers : (es : List Event) (host : ℕ) (e : Entry) (log : List Entry) → Each IsReadableEvent es → length es ≤ 100000 →
    has_station specs host ≡ true → IsStation host → logs_of settings es host ≡ e ∷ log → IsPlainLog host (e ∷ log) →
    Each IsGoodHeader (headers e.frames)
newest_headers es host e log readable few acts station is plain =
    let rise = subst (AllRise host) is (entries_rise settings es host) in
    let lawful = subst (Each IsLawfulEntry) is (schedules_are_lawful settings es fine readable (omega (arith, few)) host station.0 station.1).0 in
    good_headers host e.tick e.number (length log + 1) 1 e.frames rise.0.frames lawful.0.frames
    (each_front (λ (f : Frame). IsPlainPacket f.packet) e.frames (emitted log) plain.frames) acts

-- who acts is a station of the storm
station_acts : (logs : Logs) (e : Event) → has_actors specs e ≡ true →
    has_station specs (step_report (happened settings logs e)).host ≡ true
unfolding happened
station_acts logs (events.Call pid call) t = our_station pid t
station_acts logs (events.Collect pid) t = our_station pid t
station_acts logs (events.Tick host) t = t
station_acts logs (events.Deliver to from event output) t = by (handed_over logs to from event output)
  where
    to_acts : has_station specs to ≡ true
    to_acts = (and_parts (has_station specs to) (has_station specs from) t).0

    by : (o : Option Frame) → has_station specs (step_report (delivered settings logs to o)).host ≡ true
    by None = to_acts
    by (Some f) = to_acts

station_is : (logs : Logs) (e : Event) → IsReadableEvent e → IsStation (step_report (happened settings logs e)).host
unfolding happened
station_is logs (events.Call pid call) is = (pid.some_host, pid.one_host)
station_is logs (events.Collect pid) is = (pid.some_host, pid.one_host)
station_is logs (events.Tick host) is = is
station_is logs (events.Deliver to from event output) is = by (handed_over logs to from event output)
  where
    by : (o : Option Frame) → IsStation (step_report (delivered settings logs to o)).host
    by None = is.0
    by (Some f) = is.0

headers_by : (es : List Event) (logs : Logs) (h : Happened) → Each IsReadableEvent es → length es ≤ 100000 →
    has_station specs (step_report h).host ≡ true → IsStation (step_report h).host → logs_of settings es ≡ logs_after logs h →
    AreLogs (length es) (logs_of settings es) → Each IsGoodHeader (emitted_in h)
headers_by es logs (Missing host) readable few acts station is are = tt
headers_by es logs (At host event e) readable few acts station is are =
    let here : logs_of settings es host ≡ e ∷ logs host =
    ap (λ (l : Logs). l host) is ∙ own_log logs host e in
    newest_headers es host e (logs host) readable few acts station here (subst (IsPlainLog host) here (are.each host))

pub event_headers : (es : List Event) (e : Event) → Each IsReadableEvent (es ++ e ∷ []) → length (es ++ e ∷ []) ≤ 100000 →
    IsReadableEvent e → has_actors specs e ≡ true → AreLogs (length (es ++ e ∷ [])) (logs_of settings (es ++ e ∷ [])) →
    Each IsGoodHeader (emitted_in (happened settings (logs_of settings es) e))
event_headers es e readable few is acts are =
    let logs = logs_of settings es in
    headers_by (es ++ e ∷ []) logs (happened settings logs e) readable few (station_acts logs e acts) (station_is logs e is)
    (logs_next settings es e) are

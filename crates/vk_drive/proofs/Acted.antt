-- A station of a storm had an event: the stations stand for one event more.
use Rattle.std.proofs.Common.{◌≡◌, ℕ, ◌+◌, ◌^◌, ◌<◌, ◌≤◌, true, List, [], ◌∷◌, ◌++◌, length, map, get_or, set, Some, refl, sym, ap, subst, ◌∙◌, length-append, arith}
use Rattle.std.specs.Prelude.{slice_get, sum_by}
use Rattle.std.specs.List.{concat}
use Rattle.vk_base.specs.Settings.{Settings, stations_of}
use Rattle.vk_cluster.specs.declared.emitted.TheConstants.{EVENT_BYTES}
use Rattle.vk_cluster.specs.declared.report.Advance.TheVariants as advances
use Rattle.vk_cluster.specs.Events.{ComesWith, input_with, is_own}
use Rattle.vk_cluster.specs.Piles.{AreFrames, IsAdded, IsSpanWithin, Pile, end_event, frames_by_event}
use Rattle.vk_cluster.specs.Shown.{HasReported}
use Rattle.vk_cluster.specs.Standing.{IsAdvance, StandsFor, StandsSomewhere, logs_of, report_by}
use Rattle.vk_cluster.specs.Values.{ClusterValue}
use Rattle.vk_cluster.proofs.Arms.{IsFitAt, event_happens, event_input, events_low, few_at, fit_at, found_here, host_is, of_process, own_event, station_step}
use Rattle.vk_cluster.proofs.Logs.{get_set_same, logs_next}
use Rattle.vk_cluster.proofs.Pieces.{all_pieces_more, all_within_more}
use Rattle.vk_cluster.proofs.Piles.{added, concat_length}
use Rattle.vk_cluster.proofs.Shown.{IsReportedEntry, headed, reported_entry, sends}
use Rattle.vk_cluster.proofs.Taking.{finished}
use Rattle.vk_cluster.proofs.Told.{report_told}
use Rattle.vk_schedule.specs.declared.event.Event.{Event}
use Rattle.vk_schedule.specs.Lawful.{has_actors}
use Rattle.vk_host.specs.declared.response.Response.{Response}
use Rattle.vk_host.specs.Responses.{answer_of}
use Rattle.vk_host.specs.Sealed.{sealed}
use Rattle.vk_host.specs.Standing.{IsEvent}
use Rattle.vk_host.specs.Values.{StationValue}
use Rattle.vk_rules.specs.Each.{Each}
use Rattle.vk_rules.specs.Frames.{Frame}
use Rattle.vk_rules.specs.Histories.{At, Logs, happened, history_of, logs_after, with_entry}
use Rattle.vk_rules.specs.Laws.{AllRise, FramesUnsealAgain, station_of}
use Rattle.vk_rules.proofs.OwnEvents.{own_log}
use Rattle.vk_rules.proofs.Rising.{entries_rise}
use Rattle.v_lawful.specs.Sending.{IsInput}
use Rattle.vk_drive.specs.declared.stations.StormStations.{StormStations}
use Rattle.vk_drive.specs.Driving.{HasPlayed, IsEmitted, KeepsRecent, MayHappen, ShowsHeaders, all_frames, frames_in}
use Rattle.vk_drive.specs.Tasks.{settings, specs}
use Rattle.vk_drive.proofs.Behind.{history_with}
use Rattle.vk_drive.proofs.Emitted.{emitted_all, frames_more}

-- All frames, with those of one event more. No code has them.
abbrev pub with_frames : Pile → List (List ℕ) → Pile
with_frames p fs = record { bytes = p.bytes ++ concat fs; frames = p.frames ++ fs; events = p.events }

abbrev pub pile_after : Pile → ℕ → List (List ℕ) → Pile
pile_after p place fs = end_event (with_frames p fs) place (length p.frames)

pile_added : (p : Pile) (place : ℕ) (fs : List (List ℕ)) → Each (Each (IsSpanWithin (length p.frames))) p.events → place < length p.events →
    IsAdded p (pile_after p place fs) place fs
pile_added p place fs kept low =
    let more : length p.frames ≤ length (p.frames ++ fs) = omega (arith, length-append p.frames fs) in
    added p (with_frames p fs) (pile_after p place fs) fs place (length p.frames) low refl (record {
      kept = all_within_more (length p.frames) (length (p.frames ++ fs)) p.events more kept;
      frames = refl;
      shown = all_pieces_more p.frames fs p.events kept;
      events = refl;
      bytes = length-append p.bytes (concat fs) ∙ ap (λ n. length p.bytes + n) (concat_length fs);
    }) refl

module _ (es : List Event) (old : StormStations) (e : Event) (frame : ℕ) (may : MayHappen es old e frame) (place : ℕ)
    (there : slice_get (stations_of specs) place ≡ Some (station_of e)) where
  abbrev pub k : ClusterValue
  k = may.stations.cluster

  st : StandsFor settings es k
  st = may.stations.stands

  some : StandsSomewhere k
  some = (settings, es, st)

  at_place : slice_get (stations_of k.config.specs) place ≡ Some (station_of e)
  at_place = ap (λ (d : Settings). slice_get (stations_of d.specs) place) st.config ∙ there

  acts : has_actors k.config.specs e ≡ true
  acts = ap (λ (d : Settings). has_actors d.specs e) st.config ∙ may.actors

  -- the station that acts
  module _ (s : StationValue) (is : s ≡ get_or old.hosts.items place s) where
    found : slice_get k.hosts place ≡ Some s
    found = found_here k some place (station_of e) at_place s (is ∙ ap (λ l. get_or l place s) may.stations.hosts)

    host : s.host ≡ station_of e
    host = host_is k some place (station_of e) at_place s found

    pub few_events : s.events + 1 < 2 ^ 48
    few_events = few_at k some place (station_of e) at_place s found

    pub own : is_own s e ≡ true
    own = own_event k some place e at_place s found acts

    -- once it has had the event
    module _ (unseal : FramesUnsealAgain) (bytes : List ℕ) (comes : ComesWith specs (frames_by_event may.stations.cluster.pile) e bytes)
        (t : StationValue) (given : Response) (event : IsEvent s t (input_with bytes e) (answer_of t given)) where
      brings : ComesWith k.config.specs (frames_by_event k.pile) e bytes
      brings = subst (λ (d : Settings). ComesWith d.specs (frames_by_event k.pile) e bytes) (sym st.config) comes

      input : IsInput s.host (input_with bytes e)
      input = event_input unseal k some e bytes brings s.host host

      fit : IsFitAt (set k.hosts place t) place
      fit = fit_at k some place (station_of e) at_place s t (input_with bytes e) (answer_of t given) found input event

      now_there : slice_get (set k.hosts place t) place ≡ Some t
      now_there = get_set_same k.hosts place t s found

      pub few_frames : AreFrames t.frames
      few_frames = fit.few t now_there

      pub few_bytes : sum_by length t.frames ≤ EVENT_BYTES
      few_bytes = fit.bytes t now_there

      -- the cluster that they are then
      abbrev pub mid : ClusterValue
      mid = record k { hosts = set k.hosts place t }

      abbrev pub pile : Pile
      pile = pile_after k.pile place t.frames

      adds : IsAdded k.pile pile place t.frames
      adds = pile_added k.pile place t.frames st.stands.kept (events_low k some place (station_of e) at_place)

      abbrev pub now : ClusterValue
      now = record mid { pile = pile; events = k.events + 1 }

      step : IsAdvance k now e (advances.Event place given)
      step =
          let few = may.few in
          let count = st.events in
          station_step k now place s t (input_with bytes e) given e found event input (omega (arith, few, count))
          (of_process k.config.specs e acts) (event_happens unseal k e bytes brings s.host host) (finished mid pile place t adds)

      reported : HasReported settings es now e (report_by t given)
      reported =
          subst (HasReported settings es now e)
          (report_told now (advances.Event place given) place given step.report refl step.told t now_there)
          (record { actors = may.actors; next = step.step settings es st })

      pub one : IsReportedEntry (report_by t given) (answer_of t given) (happened settings (logs_of settings es) e)
      one =
          reported_entry (report_by t given) (answer_of t given) (happened settings (logs_of settings es) e) reported.next.report refl

      pub shown : ShowsHeaders t one.entry.frames
      shown = record {
        sends = sends settings es now e (report_by t given) reported one.entry one.is place t now_there refl;
        have = headed settings es now e (report_by t given) reported one.entry one.is place t now_there refl;
      }

      all_after : all_frames (history_of settings (es ++ e ∷ [])) ≡ all_frames (history_of settings es) ++ one.entry.frames
      all_after =
          ap all_frames (history_with es e (At t.host t.events one.entry) one.is)
          ∙ frames_more (history_of settings es) (At t.host t.events one.entry)

      logs_are : logs_of settings (es ++ e ∷ []) ≡ with_entry (logs_of settings es) t.host one.entry
      logs_are = logs_next settings es e ∙ ap (logs_after (logs_of settings es)) one.is

      emitted : Each (IsEmitted (logs_of settings (es ++ e ∷ []))) (all_frames (history_of settings (es ++ e ∷ [])))
      emitted =
          let logs : Logs = logs_of settings es in
          let entry = one.entry in
          let log = ap (λ (l : Logs). l t.host) logs_are ∙ own_log logs t.host entry in
          let rises = subst (AllRise t.host) log (entries_rise settings (es ++ e ∷ []) t.host) in
          subst (λ (l : Logs). Each (IsEmitted l) (all_frames (history_of settings (es ++ e ∷ [])))) (sym logs_are)
          (subst (Each (IsEmitted (with_entry logs t.host entry))) (sym all_after)
          (emitted_all logs t.host entry entry.tick entry.number (all_frames (history_of settings es)) rises.0.frames shown.sends.lawful
          may.stations.emitted))

      -- with its frames in their places
      pub played : (new : StormStations) → new.hosts.items ≡ set old.hosts.items place t →
          ((all fs : List Frame) → ShowsHeaders t fs → KeepsRecent all old.recent → KeepsRecent (all ++ fs) new.recent) →
          new.recent.count ≡ old.recent.count + length t.frames → new.recent.size ≡ old.recent.size + sum_by length t.frames →
          HasPlayed es new e given place
      played new hosts kept count size =
          let same : new.hosts.items ≡ set k.hosts place t = hosts ∙ ap (λ l. set l place t) may.stations.hosts in
          record {
            stations = record {
              cluster = now;
              stands = reported.next.stands;
              hosts = same;
              size =
                  let before = may.stations.size in let more = adds.bytes in omega (arith, before, more, size);
              recent =
                  subst (λ l. KeepsRecent l new.recent) (sym all_after)
                  (kept (all_frames (history_of settings es)) one.entry.frames shown may.stations.recent);
              emitted = emitted;
              few =
                  let before = may.stations.few in
                  let few : length t.frames ≤ 2048 = few_frames.few in
                  let long = length-append es (e ∷ []) in
                  omega (arith, before, few, count, long);
            };
            station = t;
            found = ap (λ l. slice_get l place) same ∙ now_there;
            told = reported.next.report;
            frames = shown.sends.frames ∙ ap (λ h. map sealed (frames_in h)) (sym one.is);
          }

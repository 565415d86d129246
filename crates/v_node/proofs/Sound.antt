-- What is true of the entries of a node's closed history: they rise, their frames are lawful and open again, and none is for the node
-- itself.
use Rattle.std.proofs.Common.{◌≡◌, ℕ, ◌^◌, ◌<◌, ◌≤◌, ◌==◌, eq-eqb, List, [], ◌∷◌, length, map, refl, sym, ap, ◌∙◌, subst, arith}
use Rattle.std.proofs.Math.Nat.{div-le_self}
use Rattle.std.proofs.lemmas.Bool.{cond-true}
use Rattle.std.proofs.lemmas.List.{length-map}
use Rattle.vk_types.specs.Types.{StationEvent}
use Rattle.vk_base.specs.declared.limits.TheConstants.{EVENTS}
use Rattle.vk_base.specs.Settings.{Settings, stations_of}
use Rattle.vk_frame.specs.Law.{FramesAreSpelledOnce}
use Rattle.vk_join.proofs.Given.{IsSound, bounds, sound_at}
use Rattle.vk_schedule.specs.declared.log.StationLog.{StationLog}
use Rattle.vk_join.specs.Laws.{AreGiven}
use Rattle.vk_join.specs.Logs.{entries_for, event_count}
use Rattle.vk_join.specs.Logs as joined
use Rattle.vk_packet.specs.Laws.{NothingElseIsRead}
use Rattle.vk_port.specs.Stations.{IsLawfulHistory, entries_at, event_of}
use Rattle.vk_rules.specs.Each.{Each}
use Rattle.vk_rules.specs.Entries.{Entry}
use Rattle.vk_rules.specs.Laws.{FramesUnsealAgain}
use Rattle.v_run.specs.Laws.{closed_station}
use Rattle.v_run.specs.Passages.{fresh_station}
use Rattle.v_run.proofs.Framed.{behind_are, inputs_behind, own_behind}
use Rattle.v_run.proofs.Logged.{all_of_station, behind_is}
use Rattle.v_run.proofs.Outputs.{are_open}
use Rattle.v_run.proofs.Sound.{AreOpen}
use Rattle.v_node.specs.Laws.{FramesGoToOthers, IsForOthers, IsHeld}

module _ (frames : FramesAreSpelledOnce) (packets : NothingElseIsRead) (unseal : FramesUnsealAgain) (go : FramesGoToOthers) (c : Settings)
    (host : ℕ) (history : List (ℕ × StationEvent)) (lawful : IsLawfulHistory (closed_station c host history))
    (held : IsHeld c (map event_of history)) where
  abbrev pub es : List Entry
  es = entries_at (fresh_station c host) history

  abbrev log : StationLog
  log = record { host = host; events = map event_of history }

  given : AreGiven c (log ∷ [])
  given = record {
    lawful = held.lawful;
    pids = held.pids;
    asked = record {
      rise = (tt, tt);
      stations = (lawful.station, tt);
      own = (all_of_station (closed_station c host history) history lawful.own, tt);
    };
    readable = (held.readable, tt);
  }

  few : length history ≤ EVENTS
  few = let share = div-le_self EVENTS (length (stations_of c.specs)) in let own = lawful.entries in omega arith

  pub sound : IsSound host es
  sound =
      let count : length (map event_of history) ≡ length history = length-map history event_of in
      let some : event_count (log ∷ []) < 2 ^ 63 = let f = few in omega arith in
      let at : joined.entries_at c (log ∷ []) host ≡ es =
      ap (entries_for c host) (cond-true (host == host) (map event_of history) [] (eq-eqb host host refl))
      ∙ behind_is c host [] (map event_of history) in
      subst (IsSound host) at (sound_at frames packets c (log ∷ []) host given some)

  pub opens : AreOpen es
  opens = are_open unseal es sound.lawful

  pub for_others : Each (λ (e : Entry). Each (IsForOthers host) e.frames) es
  for_others =
      let is = inputs_behind [] (map event_of history) in
      subst (Each (λ (e : Entry). Each (IsForOthers host) e.frames)) (sym (behind_are c host [] (map event_of history)))
      (go c host is (bounds c.specs host lawful.station).1 (own_behind (fresh_station c host) [] history tt lawful.own))

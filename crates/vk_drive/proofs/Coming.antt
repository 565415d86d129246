-- The bytes that are kept of a frame are those that its delivery comes with.
use Rattle.std.proofs.Common.{◌≡◌, ℕ, ◌-◌, true, List, Some, sym, ap, subst, ◌∙◌}
use Rattle.std.specs.Prelude.{slice_get}
use Rattle.std.proofs.lemmas.Bool.{and_parts}
use Rattle.std.proofs.lemmas.Option.{same_Some}
use Rattle.vk_base.specs.Settings.{has_station}
use Rattle.vk_schedule.specs.declared.event.Event.{Event}
use Rattle.vk_schedule.specs.Lawful.{has_actors}
use Rattle.vk_frame.specs.declared.header.Header.{Header}
use Rattle.vk_cluster.specs.Events.{ComesWith}
use Rattle.vk_cluster.specs.Piles.{frames_by_event}
use Rattle.vk_cluster.specs.Standing.{logs_of}
use Rattle.vk_rules.specs.Histories.{history_of}
use Rattle.vk_rules.specs.Laws.{FramesUnsealAgain}
use Rattle.vk_rules.proofs.Lists.{each_at}
use Rattle.vk_drive.specs.declared.recent.RecentFrame.{RecentFrame}
use Rattle.vk_drive.specs.declared.recent.RecentFrames.{RecentFrames}
use Rattle.vk_drive.specs.declared.stations.StormStations.{StormStations}
use Rattle.vk_drive.specs.Driving.{IsEmitted, MayHappen, all_frames, is_delivery}
use Rattle.vk_drive.specs.Tasks.{settings, specs}
use Rattle.vk_drive.proofs.Emitted.{found_again, station_place}

pub comes_with : FramesUnsealAgain → (es : List Event) (s : StormStations) (e : Event) (place : ℕ) (may : MayHappen es s e place) →
    is_delivery e ≡ true → (recent : RecentFrames) → s.recent ≡ recent → (kept : RecentFrame) →
    slice_get recent.frames.items place ≡ Some kept → (bytes : List ℕ) → bytes ≡ kept.bytes →
    ComesWith specs (frames_by_event may.stations.cluster.pile) e bytes
comes_with unseal es s e place may delivery recent same kept there bytes are =
    let one = may.comes delivery in
    let h : Header = one.frame.header in
    let logs = frames_by_event may.stations.cluster.pile in
    let acts = ap (has_actors specs) (sym one.event) ∙ may.actors in
    let source : has_station specs h.source ≡ true = (and_parts (has_station specs h.destination) (has_station specs h.source) acts).1 in
    let emitted =
    each_at (IsEmitted (logs_of settings es)) (all_frames (history_of settings es)) one.number one.frame may.stations.emitted
    one.found in
    let is = same_Some kept _ (sym there ∙ ap (λ (r : RecentFrames). slice_get r.frames.items place) (sym same) ∙ one.here) in
    let found = found_again unseal es may.stations.cluster one.frame may.stations.stands emitted source in
    subst (λ x. ComesWith specs logs x bytes) (sym one.event) (
      h.source - 1,
      station_place h.source source,
      found ∙ ap Some (sym (are ∙ ap (λ (r : RecentFrame). r.bytes) is)),
    )

-- An event that happened is counted.
use Rattle.std.proofs.Common.{◌≡◌, ℕ, ◌^◌, ◌<◌, ◌≤◌, nat_lt, false, true, List, [], ◌∷◌, ◌++◌, length, Some, refl, sym, ap, ◌∙◌, arith}
use Rattle.std.specs.Prelude.{slice_get}
use Rattle.std.proofs.lemmas.Bool.{ltb-false, ltb-true}
use Rattle.std.proofs.lemmas.List.{length-map}
use Rattle.std.proofs.lemmas.Option.{same_Some}
use Rattle.vk_cluster.specs.declared.emitted.TheConstants.{LAST_BYTES}
use Rattle.vk_cluster.specs.Standing.{logs_of, report_by}
use Rattle.vk_cluster.proofs.Shown.{IsReportedEntry, reported_entry}
use Rattle.vk_schedule.specs.declared.event.Event.{Event}
use Rattle.vk_host.specs.declared.response.Response.{Response}
use Rattle.vk_host.specs.Responses.{answer_of}
use Rattle.vk_host.specs.Sealed.{sealed}
use Rattle.vk_host.specs.Values.{StationValue}
use Rattle.vk_rules.specs.Frames.{Frame}
use Rattle.vk_rules.specs.Histories.{At, happened, history_of}
use Rattle.vk_drive.specs.declared.counts.StormCounts.{StormCounts}
use Rattle.vk_drive.specs.declared.course.StormCourse.{StormCourse}
use Rattle.vk_drive.specs.declared.stations.StormStations.{StormStations}
use Rattle.vk_drive.specs.Driving.{AreStations, EmitsFewBytes, EmitsManyBytes, HasPlayed, IsCourse, all_frames, counts_of, counts_with, frames_in}
use Rattle.vk_drive.specs.Tasks.{settings}
use Rattle.vk_drive.specs.Told.{all_emitted}
use Rattle.vk_drive.proofs.Behind.{counts_at, history_with}
use Rattle.vk_drive.proofs.Emitted.{headers_are}

-- whether there is room for one more
pub few_bytes : (es : List Event) (s : StormStations) → AreStations es s → nat_lt LAST_BYTES s.recent.size ≡ false → EmitsFewBytes es
few_bytes es s are low =
    let few = ltb-false LAST_BYTES s.recent.size low in
    let size = are.size in
    let bytes = are.stands.bytes in
    omega (arith, few, size, bytes)

pub many_bytes : (es : List Event) (s : StormStations) → AreStations es s → nat_lt LAST_BYTES s.recent.size ≡ true → EmitsManyBytes es
many_bytes es s are over =
    let many = ltb-true LAST_BYTES s.recent.size over in
    let size = are.size in
    let bytes = are.stands.bytes in
    omega (arith, many, size, bytes)

-- how many frames there were
pub few_frames : (es : List Event) (c : StormCourse) → IsCourse es c → length es ≤ 100000 → c.counts.frames < 2 ^ 63
few_frames es c is low =
    let hs = history_of settings es in
    let frames : c.counts.frames ≡ length (all_emitted hs) = ap (λ (n : StormCounts). n.frames) is.counts_are in
    let all : length (all_emitted hs) ≡ length (all_frames hs) =
    ap length (headers_are hs) ∙ length-map (all_frames hs) (λ (f : Frame). f.header) in
    let count = is.stations.recent.count in
    let few = is.stations.few in
    omega (arith, frames, all, count, few, low)

-- what is counted of the station that had it
pub counted : (es : List Event) (new : StormStations) (e : Event) (given : Response) (place : ℕ) → HasPlayed es new e given place →
    (s : StationValue) → slice_get new.hosts.items place ≡ Some s → (before after : StormCounts) (frames : ℕ) → frames ≡ length s.frames →
    before ≡ counts_of (history_of settings es) → after ≡ counts_with before frames (answer_of s given) →
    after ≡ counts_of (history_of settings (es ++ e ∷ []))
counted es new e given place played s found before after frames many before_is is =
    let t = played.station in
    let same : s ≡ t = same_Some s t (sym found ∙ played.found) in
    let h = happened settings (logs_of settings es) e in
    let one : IsReportedEntry (report_by t given) (answer_of t given) h =
    reported_entry (report_by t given) (answer_of t given) h played.told refl in
    let all : frames ≡ length one.entry.frames =
    many ∙ ap (λ (u : StationValue). length u.frames) same ∙ ap length played.frames ∙ length-map (frames_in h) sealed
    ∙ ap (λ x. length (frames_in x)) one.is in
    is
    ∙ (λ i. counts_with (before_is i) (all i) ((ap (λ u. answer_of u given) same ∙ one.answered) i))
    ∙ sym (counts_at (history_of settings es) t.host t.events one.entry)
    ∙ ap counts_of (sym (history_with es e (At t.host t.events one.entry) one.is))

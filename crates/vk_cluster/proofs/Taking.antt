-- What a step asks before the station acts, and what is left to do once it has.
use Rattle.std.proofs.Common.{◌≡◌, ℕ, ◌+◌, ◌<◌, ◌≤◌, Bool, true, false, cond, nat_le, nat_lt, ◌==◌, ◌||◌, List, [], ◌∷◌, map, Option, Some, None, refl, ap, ◌∙◌, subst, inl, inr, arith}
use Rattle.std.specs.Prelude.{slice_get}
use Rattle.std.specs.List.{concat}
use Rattle.std.proofs.lemmas.Bool.{and_parts, leb-false, ltb-false, or_cases, or_left, or_parts, or_right}
use Rattle.vk_types.specs.Types.{Pid, ProcessSpec}
use Rattle.vk_base.specs.declared.limits.TheConstants.{EVENTS, TICK_PACKETS}
use Rattle.vk_base.specs.Options.{◌>>=◌}
use Rattle.vk_base.specs.Settings.{Settings, has_process, has_station, is_on, is_process}
use Rattle.vk_schedule.specs.declared.event.Event.{Event}
use Rattle.vk_schedule.specs.declared.event.Event.TheVariants as events
use Rattle.vk_schedule.specs.Lawful.{has_actors}
use Rattle.vk_frame.specs.Reading.{frame_of}
use Rattle.vk_rules.specs.Laws.{station_of}
use Rattle.vk_host.specs.Standing.{StandsAt}
use Rattle.vk_host.specs.Values.{StationValue}
use Rattle.vk_cluster.specs.declared.cluster.ClusterParts.{ClusterParts}
use Rattle.vk_cluster.specs.declared.emitted.EmittedFrames.{EmittedFrames}
use Rattle.vk_cluster.specs.declared.emitted.TheConstants.{EVENT_BYTES, LAST_BYTES}
use Rattle.vk_cluster.specs.Clusters.{cluster_of}
use Rattle.vk_cluster.specs.Found.{if_for, opens_for}
use Rattle.vk_cluster.specs.Piles.{HasFrameRoom, IsAdded, Pile, items_of, pile_of}
use Rattle.vk_cluster.specs.Standing.{IsEventFinished, ShowsNewest, StandsFor, logs_of}
use Rattle.vk_cluster.specs.Values.{ClusterValue}

-- who acts has a station in the configuration
process_station : (pid : Pid) (specs : List ProcessSpec) → has_process specs pid ≡ true → has_station specs pid.host ≡ true
process_station pid [] has = cc
process_station pid (s ∷ ss) has = elim (or_cases (is_process pid s) (has_process ss pid) has) [
  | inl this ↦
      or_left (is_on pid.host s) (has_station ss pid.host)
      (and_parts (s.pid.host == pid.host) (s.pid.local == pid.local) this).0
  | inr rest ↦ or_right (is_on pid.host s) (has_station ss pid.host) (process_station pid ss rest)
]

pub actor_station : (specs : List ProcessSpec) (e : Event) → has_actors specs e ≡ true → has_station specs (station_of e) ≡ true
actor_station specs (events.Call pid call) has = process_station pid specs has
actor_station specs (events.Collect pid) has = process_station pid specs has
actor_station specs (events.Tick host) has = has
actor_station specs (events.Deliver to from event output) has = (and_parts (has_station specs to) (has_station specs from) has).0

-- where not too many events were
pub few_events : (events : ℕ) (over : Bool) → (nat_le EVENTS events || over) ≡ false → events < EVENTS
few_events events over h = leb-false 100000 events (or_parts (nat_le EVENTS events) over h).0

pub few_bytes : (over : Bool) (bytes : ℕ) → (over || nat_lt LAST_BYTES bytes) ≡ false → bytes ≤ LAST_BYTES
few_bytes over bytes h = ltb-false LAST_BYTES bytes (or_parts over (nat_lt LAST_BYTES bytes) h).1

-- room alone changes nothing that is kept
pub same_pile : (old new : EmittedFrames) → new.frames.items ≡ old.frames.items →
    map items_of new.events.items ≡ map items_of old.events.items → pile_of new ≡ pile_of old
same_pile old new frames events = λ k. record { bytes = concat (frames k); frames = frames k; events = events k }

pub same_value : (k : ClusterParts) (e : EmittedFrames) → pile_of e ≡ pile_of k.emitted →
    cluster_of (record k { emitted = e }) ≡ cluster_of k
same_value k e same = ap (λ p. record (cluster_of k) { pile = p }) same

-- the station at a place stands for its entries
pub station_at : (c : Settings) (es : List Event) (v : ClusterValue) (place host : ℕ) (s : StationValue) → StandsFor c es v →
    slice_get v.hosts place ≡ Some s → s.host ≡ host → StandsAt c (logs_of c es host) s
station_at c es v place host s st found same = subst (λ h. StandsAt c (logs_of c es h) s) same (st.stands.at place s found)

-- and shows the newest one
pub newest_at : (c : Settings) (es : List Event) (v : ClusterValue) (place host : ℕ) (s : StationValue) → StandsFor c es v →
    slice_get v.hosts place ≡ Some s → s.host ≡ host → ShowsNewest (logs_of c es host) s
newest_at c es v place host s st found same = subst (λ h. ShowsNewest (logs_of c es h) s) same (st.stands.newest place s found)

-- what is left to do once the station at a place has had its event
pub finished : (mid : ClusterValue) (pile : Pile) (place : ℕ) (t : StationValue) → IsAdded mid.pile pile place t.frames →
    IsEventFinished mid (record mid { pile = pile; events = mid.events + 1 }) place t
finished mid pile place t added = record { config = refl; hosts = refl; pile = added; events = refl }

-- the bytes that are found are handed over where they are for this station
pub handed_if : (to : ℕ) (bytes : List ℕ) (o : Option (List ℕ)) → o ≡ Some bytes → opens_for to (frame_of bytes) ≡ true →
    (o >>= if_for to) ≡ Some bytes
handed_if to bytes o found is = ap (λ p. p >>= if_for to) found ∙ ap (λ b. cond b (Some bytes) None) is

pub refused_if : (to : ℕ) (bytes : List ℕ) (o : Option (List ℕ)) → o ≡ Some bytes → opens_for to (frame_of bytes) ≡ false →
    (o >>= if_for to) ≡ None
refused_if to bytes o found is = ap (λ p. p >>= if_for to) found ∙ ap (λ b. cond b (Some bytes) None) is

-- room for more is room for less
pub room_for : (e : EmittedFrames) (place bytes frames : ℕ) → bytes ≤ EVENT_BYTES → frames ≤ TICK_PACKETS →
    HasFrameRoom e place EVENT_BYTES TICK_PACKETS → HasFrameRoom e place bytes frames
room_for e place bytes frames low few room =
    let for_bytes = room.for_bytes in
    let for_frames = room.for_frames in
    let for_all = room.for_all in
    record { for_bytes = omega arith; for_frames = omega arith; for_all = omega arith; for_event = room.for_event }

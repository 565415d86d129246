-- What the jobs of a node come to: those that run its programs, its clock and its link. The hub has one program more than the node, so that
-- only a halt ends it.
use Rattle.std.specs.Prelude.{ℕ, ◌≡◌, ◌≢◌, ◌≤◌, ◌+◌, ◌⊎◌, Bool, true, false, Option, Some, None, List, [], ◌∷◌, ◌++◌, filter, length}
use mathlib.Core.List.{IsPrefix}
use Rattle.turn_cell.specs.declared.replay.Room.{Room}
use Rattle.turn_cell.specs.declared.replay.Room.TheVariants as rooms
use Rattle.vk_base.specs.declared.limits.TheConstants.{PROCESSES}
use Rattle.vk_base.specs.Settings.{Settings, has_station}
use Rattle.vk_hub.specs.declared.event.HubEvent.{HubEvent}
use Rattle.vk_hub.specs.declared.event.HubEvent.TheVariants as hub_events
use Rattle.vk_hub.specs.Hubs.{HubLog, others}
use Rattle.vk_hub.specs.Links.{Frame}
use Rattle.vk_port.specs.Ports.{Action, Berth, Stand}
use Rattle.vk_port.specs.Stations.{is_used_up}
use Rattle.vk_rules.specs.Each.{Each}
use Rattle.v_run.specs.Jobs.{IsJobEnd, JobEnd, MetFull, OneOf}
use Rattle.v_run.specs.Passages.{HasHeard, Passage, Pumps, Role, Runs, Ticks, answers_by, calls_by, fresh_station, host_of, lost_count, tick_count}
use Rattle.v_run.specs.Runs.{AreApart, passages_of}
use Rattle.v_node.specs.Links.{Errand, HubStand, brought_by, is_kept, stop_count}

-- A PROGRAM'S JOB is one of a run, with one passage: the job of a process with its task. Where it met no Room, its process finished, or its
-- last call was begun and is not answered.
abbrev pub RunsProcess : Role → Type 0
RunsProcess (Runs r task) = Unit {0}
RunsProcess Pumps = ⊥
RunsProcess Ticks = ⊥

abbrev pub FinishesOrWaits : Settings → Passage → Type 0
FinishesOrWaits c g =
    (g.last ≡ hub_events.Finished ∷ [])
    ⊎ (length (calls_by g.actions) ≡ length (answers_by (fresh_station c (host_of g)) g.actions) + 1)

pub record IsProgramEnd (c : Settings) (j : JobEnd) : Type 0 where
  pub job : IsJobEnd c j
  pub one : length j.passages ≡ 1
  pub runs : Each (λ (g : Passage). RunsProcess g.role) j.passages
  pub waits : j.met ≡ None → Each (FinishesOrWaits c) j.passages

-- THE CLOCK has one passage. It ticks at most `rounds` times; where it met no Room just so often, or it heard that the hub had ended. At
-- its end it may halt the hub in any case.
pub record ClockEnd : Type 0 where
  pub passage : Passage
  pub met : Option Room

pub record IsClockEnd (c : Settings) (rounds : ℕ) (k : ClockEnd) : Type 0 where
  pub role : k.passage.role ≡ Ticks
  pub few : tick_count k.passage.actions ≤ rounds
  pub all : k.met ≡ None → (tick_count k.passage.actions ≡ rounds) ⊎ HasHeard k.passage.actions
  pub losses : lost_count k.passage.actions ≤ 1
  pub last : k.passage.last ≢ hub_events.Finished ∷ []
  pub full : k.met ≡ Some rooms.Full → MetFull c k.passage

-- THE LINK: where its port lay, what it did, how its two seats stood at its end, and what its hub seat entered behind that; its carrier's
-- number at the hub, the errands, how that seat stood then, and what it entered behind; the Room that the job met, whether a receive
-- failed, and the datagrams that it was handed, in order.
pub record LinkEnd : Type 0 where
  pub berth : Berth
  pub actions : List Action
  pub left : Stand
  pub last : List HubEvent
  pub carrier : ℕ
  pub errands : List Errand
  pub reached : HubStand
  pub rest : List HubEvent
  pub met : Option Room
  pub failed : Bool
  pub handed : List Frame

-- nothing, or a halt
abbrev pub HaltsAtMost : List HubEvent → Type 0
HaltsAtMost last = (last ≡ []) ⊎ (last ≡ hub_events.Halt ∷ [])

-- What the port or the carrier has seen has no room: the history of the station is used up, or that of the hub is at its limit.
abbrev pub LinkMetFull : Settings → ℕ → LinkEnd → Type 0
LinkMetFull c host l =
    (is_used_up (fresh_station c host) l.left.seen ≡ true) ⊎ (200000 ≤ others l.left.heard) ⊎ (200000 ≤ others l.reached.heard)

pub record IsLinkEnd (c : Settings) (host : ℕ) (l : LinkEnd) : Type 0 where
  -- it fetches for stations of the configuration, and not again where it heard that the hub had ended
  pub stations : Each (λ (e : Errand). has_station c.specs e.host ≡ true) l.errands
  pub stops : stop_count l.errands ≤ 1
  -- it halts the hub only where it met a Room or a receive failed
  pub last : HaltsAtMost l.last
  pub rest : HaltsAtMost l.rest
  pub halts : l.met ≡ None → l.failed ≡ false → (l.last ≡ []) × (l.rest ≡ [])
  -- it delivers what it was handed and does not drop, in order; all of it, where it met no Room
  pub brought : IsPrefix (brought_by l.actions) (filter (is_kept host) l.handed)
  pub whole : l.met ≡ None → brought_by l.actions ≡ filter (is_kept host) l.handed
  pub full : l.met ≡ Some rooms.Full → LinkMetFull c host l

-- ALL JOBS OF A NODE
pub record NodeEnd : Type 0 where
  pub programs : List JobEnd
  pub clock : ClockEnd
  pub link : LinkEnd

-- the passages of its programs and of its clock
abbrev pub passages_in : NodeEnd → List Passage
passages_in n = passages_of n.programs ++ n.clock.passage ∷ []

-- They ended so. No process is run twice, there are no more than a configuration may have processes, and the hub waits for one more to
-- finish.
pub record AreNodeJobs (c : Settings) (host : ℕ) (o : HubLog) (rounds : ℕ) (n : NodeEnd) : Type 0 where
  pub programs : Each (IsProgramEnd c) n.programs
  pub clock : IsClockEnd c rounds n.clock
  pub link : IsLinkEnd c host n.link
  pub apart : AreApart (passages_of n.programs)
  pub few : length n.programs ≤ PROCESSES
  pub one_more : o.programs ≡ length n.programs + 1

-- no job met a Room; some job met a full one
abbrev pub NoneMet : NodeEnd → Type 0
NoneMet n = Each (λ (j : JobEnd). j.met ≡ None) n.programs × (n.clock.met ≡ None) × (n.link.met ≡ None)

abbrev pub SomeMetFull : NodeEnd → Type 0
SomeMetFull n =
    OneOf (λ (j : JobEnd). j.met ≡ Some rooms.Full) n.programs ⊎ (n.clock.met ≡ Some rooms.Full) ⊎ (n.link.met ≡ Some rooms.Full)

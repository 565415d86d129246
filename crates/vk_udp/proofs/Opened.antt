-- The seats that a node opens with, and its record from all its parts.
use Rattle.std.proofs.Common.{◌≡◌, ◌<◌, ◌==◌, ◌+◌, ℕ, suc, eq-eqb, true, Some, List, [], ◌∷◌, ◌++◌, length, sym, ap, ◌∙◌, subst, arith}
use Rattle.std.specs.Prelude.{Err, IfOk, Ok, Option, Result, slice_get}
use Rattle.std.proofs.lemmas.Bool.{and_from}
use Rattle.std.proofs.lemmas.List.{length-append}
use Rattle.std.proofs.lemmas.Option.{same_Some}
use Rattle.turn_cell.specs.Seats.{Cell, Sitting, fresh}
use Rattle.vk_base.specs.Settings.{Settings, has_process, stations_of}
use Rattle.vk_event.specs.declared.port.StationPort.{StationPort}
use Rattle.vk_hub.specs.declared.event.HubEvent.{HubEvent}
use Rattle.vk_hub.specs.Hubs.{HubLog}
use Rattle.vk_hub.specs.Links.{Frame}
use Rattle.vk_port.specs.Stations.{StationHistory, is_process_of}
use Rattle.vk_program.specs.declared.assigned.Assigned.{Assigned}
use Rattle.vk_rules.specs.Each.{Each}
use Rattle.vk_rules.proofs.Lists.{each_front}
use Rattle.vk_schedule.specs.declared.plan.LinkPlan.{LinkPlan}
use Rattle.v_run.specs.Outcomes.{Assignment}
use Rattle.v_run.specs.Passages.{fresh_station}
use Rattle.vk_udp.specs.Dealt.{IsNewAt}
use Rattle.vk_udp.specs.Ended.{HasNodeEnds}
use Rattle.vk_udp.specs.Node.{HasSent, IsNodeRecord, IsProcessAt, TellsCrew, TellsLink, TellsNodeFault}
use Rattle.vk_udp.specs.Wires.{Datagram, HasNothing, IsNewLink}
use Rattle.vk_udp.specs.declared.record.NodeRecord.{NodeRecord}
use Rattle.vk_udp.specs.declared.record.NodeRefusal.{NodeRefusal}
use Rattle.vk_udp.specs.declared.record.NodeRefusal.TheVariants as refusals
use Rattle.vk_udp.specs.declared.work.NodeEnd.{NodeEnd}
use Rattle.vk_udp.proofs.Dealing.{taken_seat}

-- All seats of a cell that was just made are new.
new_from : {S E : Type 0} (cell : Cell S) (seats : List (Sitting S E)) (from : ℕ)
    → ((k : ℕ) → k < length seats → slice_get seats k ≡ Some (fresh cell (from + k))) → Each (IsNewAt cell) seats
new_from cell [] from each = tt
new_from {S = S} {E = E} cell (s ∷ ss) from each = (
  (from + 0, same_Some s (fresh cell (from + 0)) (each 0 (omega arith))),
  new_from cell ss (suc from) (λ k low. let next : from + suc k ≡ suc from + k = omega arith in
      subst (λ (n : ℕ). slice_get ss k ≡ Some (fresh {S = S} {E = E} cell n)) next (each (suc k) (omega arith))),
)

pub all_new : {S E : Type 0} (cell : Cell S) (count : ℕ) (seats : List (Sitting S E)) → length seats ≡ count
    → ((k : ℕ) → k < count → slice_get seats k ≡ Some (fresh cell k)) → Each (IsNewAt cell) seats
all_new {S = S} {E = E} cell count seats all each =
    new_from cell seats 0 (λ k low. let same : k ≡ 0 + k = omega arith in
    subst (λ (n : ℕ). slice_get seats k ≡ Some (fresh {S = S} {E = E} cell n)) same (each k (omega (arith, all))))

-- Two seats of the hub were taken out, and so many are left.
pub record AreTaken (hub : Cell HubLog) (n : ℕ) (halt fetches : Sitting HubLog HubEvent) (left : List (Sitting HubLog HubEvent)) : Type 0 where
  pub halt_new : IsNewAt hub halt
  pub fetches_new : IsNewAt hub fetches
  pub left_new : Each (IsNewAt hub) left
  pub left_count : length left ≡ n

pub two_taken : (hub : Cell HubLog) (count n : ℕ) (all one left : List (Sitting HubLog HubEvent)) (halt fetches : Sitting HubLog HubEvent)
    → count ≡ n + 2 → length all ≡ count → ((k : ℕ) → k < count → slice_get all k ≡ Some (fresh hub k)) → all ≡ one ++ halt ∷ []
    → one ≡ left ++ fetches ∷ [] → AreTaken hub n halt fetches left
two_taken hub count n all one left halt fetches two so_many each first second =
    let every = all_new hub count all so_many each in
    let others = each_front (IsNewAt hub) one (halt ∷ []) (subst (Each (IsNewAt hub)) first every) in
    let sizes = ap length first ∙ length-append one (halt ∷ []) in
    let less = ap length second ∙ length-append left (fetches ∷ []) in
    record {
      halt_new = taken_seat hub all one halt first every;
      fetches_new = taken_seat hub one left fetches second others;
      left_new = each_front (IsNewAt hub) left (fetches ∷ []) (subst (Each (IsNewAt hub)) second others);
      left_count = omega (arith, two, so_many, sizes, less);
    }

-- The processes of the station are those of its cell.
pub own_processes : {G : Type 0} (c : Settings) (host : ℕ) (o : StationHistory) (programs : List (Assigned G)) → o ≡ fresh_station c host
    → Each (IsProcessAt c.specs host) programs → Each (λ (a : Assigned G). is_process_of o a.pid ≡ true) programs
own_processes c host o [] is each = tt
own_processes c host o (a ∷ others) is each = (
  subst (λ (x : StationHistory). is_process_of x a.pid ≡ true) (sym is)
      (and_from (has_process c.specs a.pid) (a.pid.host == host) each.0.0 (eq-eqb a.pid.host host each.0.1)),
  own_processes c host o others is each.1,
)

-- THE RECORD, from what its parts tell.
pub ran_as : {L : Type 0} (handed : L → Option (List Frame)) (given : L → Option (List Datagram)) (faults : L → ℕ) (c : Settings) (host : ℕ)
    (cell : Cell StationHistory) (hub : Cell HubLog) (rounds : ℕ) (ports : List StationPort) (tasks : List Assignment) (start : L) (all : List (NodeEnd L)) (halt : Sitting HubLog HubEvent)
    (before mid now : Option (List Frame)) (result : Result NodeRecord NodeRefusal) → mid ≡ before → IsNewLink mid (handed start) (faults start)
    → HasNodeEnds handed given faults c host cell hub rounds ports tasks start all halt
    → IfOk result (λ r. (rounds : ℕ) (ports : List StationPort) (tasks : List Assignment) (start : L) → IsNewLink mid (handed start) (faults start)
    → HasNodeEnds handed given faults c host cell hub rounds ports tasks start all halt → IsNodeRecord c host rounds tasks mid now r.limited r.log)
    → IfOk result (λ r. IsNodeRecord c host rounds tasks before now r.limited r.log)
ran_as handed given faults c host cell hub rounds ports tasks start all halt before mid now (Ok r) same new it ran =
    subst (λ (told : Option (List Frame)). IsNodeRecord c host rounds tasks told now r.limited r.log) same (ran rounds ports tasks start new it)
ran_as handed given faults c host cell hub rounds ports tasks start all halt before mid now (Err why) same new it ran = tt

-- and what it sent
pub sent_as : {L : Type 0} (handed : L → Option (List Frame)) (given : L → Option (List Datagram)) (faults : L → ℕ) (c : Settings) (host : ℕ)
    (cell : Cell StationHistory) (hub : Cell HubLog) (rounds : ℕ) (ports : List StationPort) (tasks : List Assignment) (start : L)
    (all : List (NodeEnd L)) (halt : Sitting HubLog HubEvent) (plan : LinkPlan) (before mid now : Option (List Datagram)) (result : Result NodeRecord NodeRefusal)
    → mid ≡ before → HasNothing mid (given start) → HasNodeEnds handed given faults c host cell hub rounds ports tasks start all halt
    → hub.origin.stations ≡ stations_of c.specs → hub.origin.plan ≡ plan
    → IfOk result (λ r. (rounds : ℕ) (ports : List StationPort) (tasks : List Assignment) (start : L) → HasNothing mid (given start)
    → HasNodeEnds handed given faults c host cell hub rounds ports tasks start all halt → hub.origin.stations ≡ stations_of c.specs
    → HasSent c host hub.origin.plan ports r.log.events mid now)
    → IfOk result (λ r. HasSent c host plan ports r.log.events before now)
sent_as handed given faults c host cell hub rounds ports tasks start all halt plan before mid now (Ok r) same new it stations plan_is sent =
    subst (λ (p : LinkPlan). HasSent c host p ports r.log.events before now) plan_is
    (subst (λ (told : Option (List Datagram)). HasSent c host hub.origin.plan ports r.log.events told now) same (sent rounds ports tasks start new it stations))
sent_as handed given faults c host cell hub rounds ports tasks start all halt plan before mid now (Err why) same new it stations plan_is sent = tt

pub fault_as : {T : Type 0} (wire mid now crew crew_now : ℕ) (result : Result T NodeRefusal) → mid ≡ wire → crew_now ≡ crew
    → TellsLink mid now result → TellsNodeFault wire now crew crew_now result
fault_as wire mid now crew crew_now (Ok r) same kept tells = (tells ∙ same, kept)
fault_as {T = T} wire mid now crew crew_now (Err refusals.LinkFault) same kept tells =
    (subst (λ (n : ℕ). TellsLink {T = T} n now (Err refusals.LinkFault)) same tells, kept)
fault_as wire mid now crew crew_now (Err refusals.CrewFault) same kept tells = absurd tells
fault_as wire mid now crew crew_now (Err refusals.NoMemory) same kept tells = (tells ∙ same, kept)

pub crew_refused : (S T : Type 0) (wire mid crew crew_now before grown now : ℕ) (why : NodeRefusal) → mid ≡ wire
    → TellsCrew {T = S} crew crew_now before grown now (Err why) → TellsNodeFault {T = T} wire mid crew crew_now (Err why)
crew_refused S T wire mid crew crew_now before grown now refusals.LinkFault same tells = absurd tells
crew_refused S T wire mid crew crew_now before grown now refusals.CrewFault same tells = (same, tells.0)
crew_refused S T wire mid crew crew_now before grown now refusals.NoMemory same tells = (same, tells.0)

-- The link that came back with the last end, and what the wire tells of it.
use Rattle.std.proofs.Common.{◌≡◌, ℕ, zero, suc, Bool, true, false, Option, Some, None, List, [], ◌∷◌, ◌++◌, map, refl, sym, ap, ◌∙◌, subst, arith}
use Rattle.std.specs.Prelude.{option_map}
use Rattle.vk_types.specs.Types.{StationEvent}
use Rattle.turn_cell.specs.Seats.{Cell, Sitting}
use Rattle.vk_base.specs.Settings.{Settings, stations_of}
use Rattle.vk_event.specs.declared.port.StationPort.{StationPort}
use Rattle.vk_hub.specs.declared.event.HubEvent.{HubEvent}
use Rattle.vk_hub.specs.Hubs.{HubLog}
use Rattle.vk_hub.specs.Links.{Frame}
use Rattle.vk_io.specs.Causes.{Rose}
use Rattle.vk_port.specs.Stations.{StationHistory, entries_after}
use Rattle.v_node.specs.Links.{Errand}
use Rattle.v_node.specs.Sent.{AreOwnFrames}
use Rattle.vk_schedule.specs.declared.log.StationLog.{StationLog}
use Rattle.v_run.specs.Outcomes.{Assignment}
use Rattle.vk_threads.specs.declared.end.End.{End}
use Rattle.vk_udp.specs.Asked.{sent_for}
use Rattle.vk_udp.specs.Ended.{HasNodeEnds, HaveNodeEnded}
use Rattle.vk_udp.specs.Gathered.{own_end}
use Rattle.vk_udp.specs.Node.{HandedOut, HasSent, IsNodeRecord, IsRecordOf}
use Rattle.vk_udp.specs.Wires.{CountsLink, Datagram, HasNothing, IsClosed, IsMore, IsNewLink}
use Rattle.vk_udp.specs.declared.work.Carried.{Carried}
use Rattle.vk_udp.specs.declared.work.NodeEnd.{NodeEnd}
use Rattle.vk_udp.specs.declared.work.NodeEnd.TheVariants as ends

-- The last of a list is one, and so is what is in front of it.
same_front : {A : Type 0} (xs ys : List A) (x y : A) → xs ++ x ∷ [] ≡ ys ++ y ∷ [] → (xs ≡ ys) × (x ≡ y)
same_front [] [] x y same = (refl, cc same)
same_front [] (b ∷ []) x y same = absurd (cc same)
same_front [] (b ∷ d ∷ ys) x y same = absurd (cc same)
same_front (a ∷ []) [] x y same = absurd (cc same)
same_front (a ∷ d ∷ xs) [] x y same = absurd (cc same)
same_front (a ∷ xs) (b ∷ ys) x y same =
    let first : a ≡ b = cc same in
    let rest : xs ++ x ∷ [] ≡ ys ++ y ∷ [] = cc same in
    let it = same_front xs ys x y rest in
    (ap (λ z. z ∷ xs) first ∙ ap (λ l. b ∷ l) it.0, it.1)

-- What a wire tells now is what it told before, and behind it what the link handed out, if it tells.
handed_out : (before start link now : Option (List Frame)) (faults : ℕ) (own : List Frame) → IsNewLink before start faults
    → link ≡ option_map (λ all. all ++ own) start → IsClosed before link now → HandedOut before now own
handed_out None start link None faults own new told closed = tt
handed_out None start link (Some now) faults own new told closed = tt
handed_out (Some all) start link None faults own new told closed = tt
handed_out (Some all) start link (Some now) faults own new told closed =
    let is : link ≡ Some own = told ∙ ap (option_map (λ l. l ++ own)) new.1 in
    subst (λ (l : Option (List Frame)). IsClosed (Some all) l (Some now)) is closed

-- and the same of what the link was given to send
sent_between : (before start link now : Option (List Datagram)) (own : List Datagram) → HasNothing before start → IsMore start link own
    → IsClosed before link now → HandedOut before now own
sent_between None start link None own new told closed = tt
sent_between None start link (Some now) own new told closed = tt
sent_between (Some all) start link None own new told closed = tt
sent_between (Some all) start None (Some now) own new told closed = absurd closed
sent_between (Some all) start (Some link) (Some now) own new told closed =
    let is : link ≡ own = subst (λ x. IsMore x (Some link) own) new told in closed ∙ ap (λ l. all ++ l) is

-- A link without a fault is no fault of its wire.
pub counts_nothing : (link before now : ℕ) → link ≡ 0 → CountsLink link before now → now ≡ before
counts_nothing zero before now none same = same
counts_nothing (suc n) before now none next = absurd (omega (arith, none))

-- A link without a fault has not failed.
not_failed : (failed : Bool) (before now : ℕ) → before ≡ 0 → now ≡ 0 → (failed ≡ true → Rose before now) → failed ≡ false
not_failed false before now none sound rose = refl
not_failed true before now none sound rose =
    let up : Rose 0 0 = subst (λ (n : ℕ). Rose n 0) none (subst (Rose before) sound (rose refl)) in
    absurd (omega (arith, up))

module _ {L : Type 0} (handed : L → Option (List Frame)) (given : L → Option (List Datagram)) (faults : L → ℕ) (c : Settings) (host : ℕ)
    (cell : Cell StationHistory) (hub : Cell HubLog) (rounds : ℕ) (ports : List StationPort) (tasks : List Assignment) (start : L) (all : List (NodeEnd L)) (halt : Sitting HubLog HubEvent)
    (it : HasNodeEnds handed given faults c host cell hub rounds ports tasks start all halt) (rest : List (NodeEnd L)) (x : Carried L)
    (are : all ≡ rest ++ ends.Carried x ∷ []) where
  parts : (it.front ≡ rest) × (ends.Carried it.last ≡ ends.Carried x)
  parts = same_front it.front rest (ends.Carried it.last) (ends.Carried x) (sym it.are ∙ are)

  last_is : it.last ≡ x
  last_is = let same = parts.1 in cc same

  pub ended : (own : List End) → own ≡ map own_end rest ++ x.end ∷ [] → HaveNodeEnded c host cell hub rounds tasks it.n own x.hub_seat halt
  ended own is =
      subst (λ (l : List End). HaveNodeEnded c host cell hub rounds tasks it.n l x.hub_seat halt) (sym is)
      (subst (λ (l : List (NodeEnd L)). HaveNodeEnded c host cell hub rounds tasks it.n (map own_end l ++ x.end ∷ []) x.hub_seat halt) parts.0
      (subst (λ (y : Carried L). HaveNodeEnded c host cell hub rounds tasks it.n (map own_end it.front ++ y.end ∷ []) y.hub_seat halt) last_is it.ended))

  module _ (before now : Option (List Frame)) (new : IsNewLink before (handed start) (faults start)) (sound : faults x.link ≡ 0)
      (closed : IsClosed before (handed x.link) now) where
    pub sound_link : it.n.link.failed ≡ false
    sound_link = not_failed it.n.link.failed (faults start) (faults x.link) new.0 sound
        (λ is. subst (λ (y : Carried L). Rose (faults start) (faults y.link)) last_is (it.failed is))

    pub node_record : (limited : Bool) (log : StationLog) → IsRecordOf c host rounds tasks it.n.link.handed limited log
        → IsNodeRecord c host rounds tasks before now limited log
    node_record limited log is = record {
      handed = it.n.link.handed;
      told = handed_out before (handed start) (handed x.link) now (faults start) it.n.link.handed new
          (ap (λ (y : Carried L). handed y.link) (sym last_is) ∙ it.told) closed;
      is = is;
    }

  pub node_sent : (before now : Option (List Datagram)) (events : List StationEvent) → HasNothing before (given start)
      → IsClosed before (given x.link) now → hub.origin.stations ≡ stations_of c.specs
      → AreOwnFrames hub.origin.plan host it.n.link.errands (entries_after c host events)
      → HasSent c host hub.origin.plan ports events before now
  node_sent before now events new closed stations own =
      let asks = it.carried.around.asked.asks in
      record {
        hub = hub.origin;
        plan_is = refl;
        stations = stations;
        carrier = it.n.link.carrier;
        reached = it.n.link.reached;
        around = it.carried.around;
        told = sent_between before (given start) (given x.link) now (sent_for asks) new
            (subst (λ (y : Carried L). IsMore (given start) (given y.link) (sent_for asks)) last_is it.carried.sent) closed;
        own = subst (λ (es : List Errand). AreOwnFrames hub.origin.plan host es (entries_after c host events)) it.carried.errands_are own;
      }

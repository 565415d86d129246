-- What who carries frames asks of the hub, and what it sends for the answers.
use Rattle.std.specs.Prelude.{ℕ, zero, suc, ◌≡◌, ◌++◌, Option, List, [], ◌∷◌, map}
use mathlib.Core.List.{IsPrefix}
use Rattle.turn_cell.specs.History.{events_of}
use Rattle.vk_event.specs.declared.port.StationPort.{StationPort}
use Rattle.vk_hub.specs.declared.event.Fetched.{Fetched}
use Rattle.vk_hub.specs.declared.event.Fetched.TheVariants as fetched
use Rattle.vk_hub.specs.declared.event.HubEvent.{HubEvent}
use Rattle.vk_hub.specs.declared.event.HubEvent.TheVariants as hub_events
use Rattle.vk_hub.specs.Hubs.{HubLog, fetched_from, traffic_of}
use Rattle.vk_hub.specs.Posts.{IsFromPost}
use Rattle.v_node.specs.Links.{Errand, HubStand}
use Rattle.vk_udp.specs.Wires.{Datagram, IsMore}

-- One fetch for the station of a port: behind which history of the hub, and what it was answered.
pub record Ask : Type 0 where
  pub there : StationPort
  pub before : List (ℕ × HubEvent)
  pub answer : Fetched

-- What the seat has seen then, and its own events: a fetch that found nothing is not entered.
abbrev pub seen_behind : ℕ → ℕ → List (ℕ × HubEvent) → Fetched → List (ℕ × HubEvent)
seen_behind number host before fetched.Nothing = before
seen_behind number host before f = before ++ (number, hub_events.Fetch host) ∷ []

abbrev pub own_behind : List HubEvent → ℕ → Fetched → List HubEvent
own_behind own host fetched.Nothing = own
own_behind own host f = own ++ hub_events.Fetch host ∷ []

abbrev pub after_ask : ℕ → HubStand → Ask → HubStand
after_ask number s a =
    record { heard = seen_behind number a.there.host a.before a.answer; sent = own_behind s.sent a.there.host a.answer }

-- It asks behind this history, which begins with what the seat has seen, and in which the seat's own events are just those so far. This is
-- the answer; a frame that it gives was posted for the station. `number` is the seat's, `o` the hub's origin.
pub record IsAsk (number : ℕ) (o : HubLog) (s : HubStand) (a : Ask) : Type 0 where
  pub later : IsPrefix s.heard a.before
  pub mine : events_of number a.before ≡ s.sent
  pub answered : fetched_from o.programs (traffic_of o a.before) a.there.host ≡ a.answer
  pub posted : IsFromPost a.answer a.there.host (seen_behind number a.there.host a.before a.answer)

-- each of these is right behind those before it, and the seat has entered nothing else
abbrev pub AreAsks : ℕ → HubLog → HubStand → List Ask → HubStand → Type 0
AreAsks number o s [] t = IsPrefix s.heard t.heard × (t.sent ≡ s.sent)
AreAsks number o s (a ∷ all) t = IsAsk number o s a × AreAsks number o (after_ask number s a) all t

-- those that were entered
abbrev pub entered : StationPort → List (ℕ × HubEvent) → Fetched → List Errand
entered p before fetched.Nothing = []
entered p before f = record { host = p.host; before = before; answer = f } ∷ []

abbrev pub errands_in : List Ask → List Errand
errands_in [] = []
errands_in (a ∷ all) = entered a.there a.before a.answer ++ errands_in all

-- A frame that was fetched goes to the port of its station, and nothing else is sent.
abbrev pub sending : StationPort → Fetched → List Datagram
sending p (fetched.Frame frame) = (p.port, frame) ∷ []
sending p f = []

abbrev pub sent_for : List Ask → List Datagram
sent_for [] = []
sent_for (a ∷ all) = sending a.there a.answer ++ sent_for all

-- It asked so for the stations of these ports, in order.
pub record HasAsked (number : ℕ) (o : HubLog) (s : HubStand) (ports : List StationPort) (t : HubStand) : Type 0 where
  pub asks : List Ask
  pub are : AreAsks number o s asks t
  pub there : map (λ (a : Ask). a.there) asks ≡ ports

-- so many rounds of these ports
abbrev pub rounds_of : ℕ → List StationPort → List StationPort
rounds_of zero ports = []
rounds_of (suc n) ports = rounds_of n ports ++ ports

-- It asked round after round for the stations of all these ports, and may have left off within the last round.
pub record HasAskedAround (number : ℕ) (o : HubLog) (s : HubStand) (ports : List StationPort) (t : HubStand) : Type 0 where
  pub rounds : ℕ
  pub last : List StationPort
  pub front : IsPrefix last ports
  pub asked : HasAsked number o s (rounds_of rounds ports ++ last) t

-- WHAT WAS CARRIED: round after round it asked for the stations of these ports, and had these errands. Each frame that it was answered was
-- sent to its station's port, in order, and nothing else was sent, if that is told.
pub record HasCarried (number : ℕ) (o : HubLog) (s : HubStand) (ports : List StationPort) (t : HubStand) (errands : List Errand)
    (before now : Option (List Datagram)) : Type 0 where
  pub around : HasAskedAround number o s ports t
  pub errands_are : errands ≡ errands_in around.asked.asks
  pub sent : IsMore before now (sent_for around.asked.asks)

-- From what jobs did to their ends.
use Rattle.std.proofs.Common.{◌≡◌, ◌≢◌, ℕ, ◌⊎◌, inl, inr, true, false, Option, None, List, [], ◌∷◌, ◌++◌, refl, sym, ap, ◌∙◌, subst, append-nil, arith, ◌≤◌}
use mathlib.Core.List.{IsPrefix}
use Rattle.turn_cell.proofs.Histories.{prefix_self}
use Rattle.turn_cell.specs.declared.replay.Room.{Room}
use Rattle.turn_cell.specs.declared.replay.Room.TheVariants as rooms
use Rattle.turn_cell.specs.Seats.{IsSameSeat, Sitting}
use Rattle.vk_base.specs.Settings.{Settings, has_station}
use Rattle.vk_hub.specs.declared.event.HubEvent.{HubEvent}
use Rattle.vk_hub.specs.declared.event.HubEvent.TheVariants as hub_events
use Rattle.vk_hub.specs.Hubs.{HubLog, has_halt}
use Rattle.vk_hub.specs.Links.{Frame}
use Rattle.vk_port.specs.Ports.{PortValue, berth_of, stand_of}
use Rattle.vk_port.specs.Stations.{is_used_up}
use Rattle.v_run.specs.Passages.{IsLast, Ticks}
use Rattle.v_node.specs.Jobs.{HaltsAtMost, LinkEnd, LinkMetFull}
use Rattle.v_node.specs.Links.{stop_count}
use Rattle.v_node.specs.Seats.{IsLinkThrough, hub_stand_of}
use Rattle.vk_threads.specs.declared.end.Seats.{Seats}
use Rattle.vk_threads.specs.Ends.{IsOf}
use Rattle.vk_threads.proofs.Ending.{Behind, halt_finished, halted_behind, is_through, last_halt, last_none, met_full, none_finished, passage_of}
use Rattle.vk_rules.specs.Each.{Each}
use Rattle.vk_udp.specs.Asked.{Ask, errands_in}
use Rattle.vk_udp.specs.Carried.{HasBrought, HasGoneAround, HasHaltedBy, IsHubFull, IsPortFull, IsStationPort, TellsStop, is_failed, met_by, stops_of}
use Rattle.vk_udp.specs.Clocked.{HasClocked, HasStopped}
use Rattle.vk_udp.specs.Docked.{HasLeftOff, HasLeftOffSince}
use Rattle.vk_io.specs.Causes.{Rose}
use Rattle.vk_udp.specs.Jobs.{EndsCarried, EndsCarrier, EndsClock}
use Rattle.vk_udp.specs.Values.{CarrierDuty}
use Rattle.vk_udp.specs.Wires.{Datagram}
use Rattle.vk_udp.specs.declared.work.Carried.{Carried}
use Rattle.vk_udp.specs.declared.carrier.Stop.{Stop}
use Rattle.vk_udp.specs.declared.carrier.Stop.TheVariants as stops
use Rattle.vk_udp.proofs.Asking.{asks_are_errands, asks_of, each_around}
use Rattle.vk_udp.proofs.Fetching.{same_seat}

-- THE CLOCK
clock_by : (p q : PortValue) (s : Seats) (rounds : ℕ) (met : Option Room) (last : List HubEvent) → HasClocked p q rounds met → s.host ≡ p.host
    → IsLast last → last ≢ hub_events.Finished ∷ [] → Behind q s last q.hub_seat.seen → has_halt s.hub_seat.seen ≡ true
    → EndsClock p rounds (s ∷ []) met
clock_by p q s rounds met last it host ends never behind halted = record {
  end = record { passage = passage_of p q it.acts Ticks last q.hub_seat.seen; met = met };
  seat = s;
  seats = refl;
  through = is_through p q it.acts Ticks s last q.hub_seat.seen it.does behind host it.only ends;
  met = refl;
  job = λ c of. record {
    role = refl;
    few = it.few;
    all = it.all;
    losses = it.losses;
    last = never;
    full = λ is. met_full c p q it.acts Ticks last of it.does (it.full is);
  };
  halted = halted;
}

pub clock_ended : (p q : PortValue) (s : Seats) (rounds : ℕ) (met : Option Room) → HasClocked p q rounds met → s.host ≡ p.host
    → HasStopped q s.seat s.hub_seat → EndsClock p rounds (s ∷ []) met
clock_ended p q s rounds met it host stopped =
    either_way (halted_behind q s q.hub_seat.seen stopped.seat stopped.same (prefix_self q.hub_seat.seen) stopped.heard stopped.sent)
  where
    either_way : (Behind q s [] q.hub_seat.seen) ⊎ (Behind q s (hub_events.Halt ∷ []) q.hub_seat.seen) → EndsClock p rounds (s ∷ []) met
    either_way (inl behind) = clock_by p q s rounds met [] it host last_none none_finished behind stopped.halted
    either_way (inr behind) = clock_by p q s rounds met (hub_events.Halt ∷ []) it host last_halt halt_finished behind stopped.halted

-- WHAT CARRIES FRAMES
abbrev HubSeat : Type 0
HubSeat = Sitting HubLog HubEvent

-- what its seat at the hub entered behind its last fetch
pub record IsRest (mid back : HubSeat) (stop : Stop) (rest : List HubEvent) : Type 0 where
  pub same : IsSameSeat mid back
  pub later : IsPrefix mid.seen back.seen
  pub mine : back.mine ≡ mid.mine ++ rest
  pub halts : HaltsAtMost rest
  pub none : met_by stop ≡ None → is_failed stop ≡ false → rest ≡ []
  pub ended : ((met_by stop ≡ None) × (is_failed stop ≡ false) × (stops_of stop ≡ 1)) ⊎ (has_halt back.seen ≡ true)

halted_rest : (mid back : HubSeat) (stop : Stop) → (met_by stop ≡ None → is_failed stop ≡ false → ⊥)
    → IsSameSeat mid back × IsPrefix mid.seen back.seen × ((back.mine ≡ mid.mine) ⊎ (back.mine ≡ mid.mine ++ hub_events.Halt ∷ []))
    × (has_halt back.seen ≡ true)
    → (rest : List HubEvent) × IsRest mid back stop rest
halted_rest mid back stop never (same, later, inl mine, halted) = (
  [],
  record {
    same = same;
    later = later;
    mine = mine ∙ sym (append-nil mid.mine);
    halts = inl refl;
    none = λ a b. refl;
    ended = inr halted;
  },
)
halted_rest mid back stop never (same, later, inr mine, halted) = (
  hub_events.Halt ∷ [],
  record {
    same = same;
    later = later;
    mine = mine;
    halts = inr refl;
    none = λ a b. absurd (never a b);
    ended = inr halted;
  },
)

pub rest_of : (mid back : HubSeat) (stop : Stop) → HasHaltedBy mid back stop → (rest : List HubEvent) × IsRest mid back stop rest
rest_of mid back stops.Ended is = (
  [],
  record {
    same = subst (IsSameSeat mid) (sym is) (refl, refl, refl);
    later = subst (λ (s : HubSeat). IsPrefix mid.seen s.seen) (sym is) (prefix_self mid.seen);
    mine = ap (λ (s : HubSeat). s.mine) is ∙ sym (append-nil mid.mine);
    halts = inl refl;
    none = λ a b. refl;
    ended = inl (refl, refl, refl);
  },
)
rest_of mid back stops.Failed is = halted_rest mid back stops.Failed (λ a b. absurd (cc b)) is
rest_of mid back (stops.Met why) is = halted_rest mid back (stops.Met why) (λ a b. absurd (cc a)) is

stops_few : (stop : Stop) → stops_of stop ≤ 1
stops_few stops.Ended = omega arith
stops_few stops.Failed = omega arith
stops_few (stops.Met why) = omega arith

sound_stop : (before now : ℕ) (stop : Stop) → TellsStop before now stop → is_failed stop ≡ false → now ≡ before
sound_stop before now stops.Ended tells is = tells
sound_stop before now stops.Failed tells is = absurd (cc is)
sound_stop before now (stops.Met why) tells is = tells

failed_stop : (before now : ℕ) (stop : Stop) → TellsStop before now stop → is_failed stop ≡ true → Rose before now
failed_stop before now stops.Ended tells is = absurd (cc is)
failed_stop before now stops.Failed tells is = tells
failed_stop before now (stops.Met why) tells is = absurd (cc is)

module _ {L : Type 0} (handed : L → Option (List Frame)) (given : L → Option (List Datagram)) (faults : L → ℕ) (d : CarrierDuty) (e : Carried L) (q : PortValue) (s : Seats)
    (stop : Stop) (left : HasLeftOff handed given faults d q e.hub_seat e.link stop) where
  abbrev mid : HubSeat
  mid = left.before

  abbrev b : HasBrought d.port.host d.port q d.handed (handed e.link) (met_by stop)
  b = left.brought

  abbrev f : HasGoneAround d.port.hub.origin d.ports d.carrier mid d.sent (given e.link) (stops_of stop)
  f = left.fetched

  abbrev r : (rest : List HubEvent) × IsRest mid e.hub_seat stop rest
  r = rest_of mid e.hub_seat stop left.halted

  abbrev asks : List Ask
  asks = f.fetched.asked.asks

  abbrev linked : LinkEnd
  linked = record {
    berth = berth_of d.port;
    actions = b.acts;
    left = stand_of q;
    last = [];
    carrier = d.carrier.number;
    errands = errands_in asks;
    reached = hub_stand_of mid;
    rest = r.0;
    met = met_by stop;
    failed = is_failed stop;
    handed = b.got;
  }

  link_full : (c : Settings) → IsOf c d.port → IsPortFull d.port q ⊎ IsHubFull mid → LinkMetFull c d.port.host linked
  link_full c of (inl (inl used)) = inl (subst (λ o. is_used_up o q.seat.seen ≡ true) of used)
  link_full c of (inl (inr full)) = inr (inl full)
  link_full c of (inr full) = inr (inr full)

  few_stops : stop_count (errands_in asks) ≤ 1
  few_stops = let at_most = stops_few stop in let is = f.fetched.stopped in omega arith

  link_ended : ((met_by stop ≡ None) × (is_failed stop ≡ false) × (stops_of stop ≡ 1)) ⊎ (has_halt e.hub_seat.seen ≡ true)
      → ((met_by stop ≡ None) × (is_failed stop ≡ false) × (stop_count (errands_in asks) ≡ 1)) ⊎ (has_halt e.hub_seat.seen ≡ true)
  link_ended (inl (none, sound, one)) = inl (none, sound, f.fetched.stopped ∙ one)
  link_ended (inr halted) = inr halted

  link_through : s.seat ≡ q.seat → s.hub_seat ≡ q.hub_seat → IsLinkThrough d.port d.carrier s.seat s.hub_seat e.hub_seat linked
  link_through seat hub_seat = record {
    berth = refl;
    log = b.does.log;
    brings = b.brings;
    seat = subst (λ x. IsSameSeat d.port.seat x) (sym seat) b.does.same.seat;
    seen = ap (λ x. x.seen) seat;
    mine = ap (λ x. x.mine) seat;
    hub_seat = subst (λ x. IsSameSeat d.port.hub_seat x) (sym hub_seat) b.does.same.hub_seat;
    heard = subst (λ (x : HubSeat). IsPrefix q.hub_seat.seen x.seen) (sym hub_seat) (prefix_self q.hub_seat.seen);
    sent = ap (λ (x : HubSeat). x.mine) hub_seat ∙ sym (append-nil q.hub_seat.mine);
    carrier = refl;
    errands = asks_are_errands d.carrier.number d.port.hub.origin (hub_stand_of d.carrier) asks (hub_stand_of mid) f.fetched.asked.are;
    back = same_seat d.carrier mid e.hub_seat f.fetched.same r.1.same;
    reached = r.1.later;
    carried = r.1.mine;
  }

  pub carried : e.end.met ≡ met_by stop → e.end.seats.items ≡ s ∷ [] → s.host ≡ d.port.host → s.seat ≡ q.seat → s.hub_seat ≡ q.hub_seat
      → EndsCarrier handed given faults d e
  carried met seats host seat hub_seat = record {
    end = linked;
    seat = s;
    seats = seats;
    host = host;
    through = link_through seat hub_seat;
    met = sym met;
    told = b.told;
    carried = record {
      around = record { rounds = f.rounds; last = f.last; front = f.front; asked = f.fetched.asked };
      errands_are = refl;
      sent = f.fetched.told;
    };
    sound = sound_stop d.faults (faults e.link) stop left.tells;
    failed = failed_stop d.faults (faults e.link) stop left.tells;
    job = λ c of ports. record {
      stations = asks_of (λ h. has_station c.specs h ≡ true) asks
          (subst (Each (IsStationPort c)) (sym f.fetched.asked.there) (each_around (IsStationPort c) f.rounds d.ports f.last f.front ports));
      stops = few_stops;
      last = inl refl;
      rest = r.1.halts;
      halts = λ none sound. (refl, r.1.none none sound);
      brought = b.brought;
      whole = b.whole;
      full = λ is. link_full c of (left.full is);
    };
    ended = link_ended r.1.ended;
  }

-- the same, where the duty is known by a type alone
pub carried_since : {L : Type 0} (handed : L → Option (List Frame)) (given : L → Option (List Datagram)) (faults : L → ℕ)
    (start : Option CarrierDuty) (e : Carried L) (q : PortValue) (s : Seats) (stop : Stop)
    → HasLeftOffSince handed given faults start s.host q e.hub_seat e.link stop → e.end.met ≡ met_by stop → e.end.seats.items ≡ s ∷ []
    → s.seat ≡ q.seat → s.hub_seat ≡ q.hub_seat → EndsCarried handed given faults start e
carried_since handed given faults start e q s stop left met seats seat hub_seat =
    subst (λ d. EndsCarried handed given faults d e) (sym left.is)
    (carried handed given faults left.duty e q s stop left.left met seats (sym left.at) seat hub_seat)

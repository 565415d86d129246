-- A link that threads carry over in turns: one turn more.
use Rattle.std.proofs.Common.{◌≡◌, ℕ, inl, inr, true, false, Option, Some, None, Ok, Err, List, refl, sym, ◌∙◌, subst}
use Rattle.turn_cell.specs.declared.replay.Room.{Room}
use Rattle.turn_cell.specs.declared.replay.Room.TheVariants as rooms
use Rattle.turn_cell.specs.Seats.{Cell, Sitting}
use Rattle.vk_event.specs.declared.port.StationPort.{StationPort}
use Rattle.vk_hub.specs.declared.event.HubEvent.{HubEvent}
use Rattle.vk_hub.specs.Hubs.{HubLog}
use Rattle.vk_hub.specs.Links.{Frame}
use Rattle.vk_io.specs.Causes.{Rose}
use Rattle.vk_port.specs.Ports.{PortValue}
use Rattle.vk_port.specs.Stations.{StationHistory, is_used_up}
use Rattle.vk_udp.specs.Carried.{HasBrought, HasGoneRound, HasHaltedBy, IsHubFull, IsPortFull}
use Rattle.vk_udp.specs.Docked.{HasCarriedOn, HasCarriedSince, HasLeftOff, IsCargo, duty_of}
use Rattle.vk_udp.specs.Values.{CarrierDuty}
use Rattle.vk_udp.specs.Wires.{Datagram}
use Rattle.vk_udp.specs.declared.carrier.Sent.{Sent}
use Rattle.vk_udp.specs.declared.carrier.Stop.{Stop}
use Rattle.vk_udp.specs.declared.carrier.Stop.TheVariants as stops
use Rattle.vk_udp.proofs.Asking.{more_none}
use Rattle.vk_udp.proofs.Bringing.{brought_more, brought_none}
use Rattle.vk_udp.proofs.Fetching.{around_cut, around_whole, fetched_none, going_on, gone, rounds_on, rounds_still, seat_of}

abbrev HubSeat : Type 0
HubSeat = Sitting HubLog HubEvent

-- a port that is full is so for those that it was before
full_since : (d p q : PortValue) → p.station ≡ d.station → IsPortFull p q → IsPortFull d q
full_since d p q same (inl used) =
    inl (subst (λ (s : Cell StationHistory). is_used_up s.origin q.seat.seen ≡ true) same used)
full_since d p q same (inr full) = inr full

-- What met no Room is a part of what met one.
before_met : (host : ℕ) (p q : PortValue) (l m : Option (List Frame)) (met : Option Room) → HasBrought host p q l m None
    → HasBrought host p q l m met
before_met host p q l m met b = record {
  acts = b.acts;
  got = b.got;
  does = b.does;
  brings = b.brings;
  brought = b.brought;
  whole = λ none. b.whole refl;
  told = b.told;
}

module _ {L : Type 0} (handed : L → Option (List Frame)) (sent : L → Option (List Datagram)) (faults : L → ℕ) where
  module _ (d : CarrierDuty) where
    abbrev On : PortValue → HubSeat → L → Type 0
    On = HasCarriedOn handed sent faults d

    abbrev Off : PortValue → HubSeat → L → Stop → Type 0
    Off = HasLeftOff handed sent faults d

    -- frames were sent, and the link handed out nothing
    brought_still : (p : PortValue) (s : HubSeat) (l m : L) → On p s l → handed m ≡ handed l
        → HasBrought d.port.host d.port p d.handed (handed m) None
    brought_still p s l m was same =
        brought_more d.port.host d.port p p d.handed (handed l) (handed m) None was.brought
        (brought_none d.port.host p (handed l) (handed m) same)

    round_on : (p : PortValue) (s t : HubSeat) (l m : L) (answer : Sent) → On p s l
        → HasGoneRound d.port.hub.origin d.ports s t (sent l) (sent m) (Ok answer) → answer.ended ≡ false → handed m ≡ handed l
        → faults m ≡ faults l → On p t m
    round_on p s t l m answer was round is same sound = record {
      brought = brought_still p s l m was same;
      fetched = rounds_on d.port.hub.origin d.ports d.carrier s t d.sent (sent l) (sent m) (Ok answer) was.fetched round
          (going_on answer.ended is) refl;
      sound = sound ∙ was.sound;
    }

    round_last : (p : PortValue) (s t : HubSeat) (l m : L) (answer : Sent) → On p s l
        → HasGoneRound d.port.hub.origin d.ports s t (sent l) (sent m) (Ok answer) → answer.ended ≡ true → handed m ≡ handed l
        → faults m ≡ faults l → Off p t m stops.Ended
    round_last p s t l m answer was round is same sound = record {
      before = t;
      brought = brought_still p s l m was same;
      fetched = around_cut d.port.hub.origin d.ports d.carrier s t d.sent (sent l) (sent m) (Ok answer) 1 was.fetched round (gone answer.ended is);
      full = λ full. absurd (cc full);
      tells = sound ∙ was.sound;
      halted = refl;
    }

    round_cut : (p : PortValue) (s t u : HubSeat) (l m : L) (why : Room) → On p s l
        → HasGoneRound d.port.hub.origin d.ports s t (sent l) (sent m) (Err why) → (Some why ≡ Some rooms.Full → IsHubFull t)
        → handed m ≡ handed l → faults m ≡ faults l → HasHaltedBy t u (stops.Met why) → Off p u m (stops.Met why)
    round_cut p s t u l m why was round full same sound halted = record {
      before = t;
      brought = before_met d.port.host d.port p d.handed (handed m) (Some why) (brought_still p s l m was same);
      fetched = around_cut d.port.hub.origin d.ports d.carrier s t d.sent (sent l) (sent m) (Err why) 0 was.fetched round refl;
      full = λ is. inr (full is);
      tells = sound ∙ was.sound;
      halted = halted;
    }

    -- one receive more
    brought_on : (p q : PortValue) (s : HubSeat) (l m : L) (met : Option Room) → On p s l
        → HasBrought d.port.host p q (handed l) (handed m) met → HasBrought d.port.host d.port q d.handed (handed m) met
    brought_on p q s l m met was more = brought_more d.port.host d.port p q d.handed (handed l) (handed m) met was.brought more

    heard_more : (p q : PortValue) (s : HubSeat) (l m : L) → On p s l → HasBrought d.port.host p q (handed l) (handed m) None
        → sent m ≡ sent l → faults m ≡ faults l → On q s m
    heard_more p q s l m was more same sound = record {
      brought = brought_on p q s l m None was more;
      fetched = rounds_still d.port.hub.origin d.ports d.carrier s d.sent (sent l) (sent m) was.fetched same;
      sound = sound ∙ was.sound;
    }

    hears_no_more : (p q : PortValue) (s t : HubSeat) (l m : L) → On p s l → HasBrought d.port.host p q (handed l) (handed m) None
        → sent m ≡ sent l → Rose (faults l) (faults m) → HasHaltedBy s t stops.Failed → Off q t m stops.Failed
    hears_no_more p q s t l m was more same rose halted = record {
      before = s;
      brought = brought_on p q s l m None was more;
      fetched = around_whole d.port.hub.origin d.ports d.carrier s d.sent (sent m)
          (rounds_still d.port.hub.origin d.ports d.carrier s d.sent (sent l) (sent m) was.fetched same);
      full = λ full. absurd (cc full);
      tells = subst (λ (n : ℕ). Rose n (faults m)) was.sound rose;
      halted = halted;
    }

    heard_cut : (p q : PortValue) (s t : HubSeat) (l m : L) (why : Room) → On p s l
        → HasBrought d.port.host p q (handed l) (handed m) (Some why) → (Some why ≡ Some rooms.Full → IsPortFull p q) → sent m ≡ sent l
        → faults m ≡ faults l → HasHaltedBy s t (stops.Met why) → Off q t m (stops.Met why)
    heard_cut p q s t l m why was more full same sound halted = record {
      before = s;
      brought = brought_on p q s l m (Some why) was more;
      fetched = around_whole d.port.hub.origin d.ports d.carrier s d.sent (sent m)
          (rounds_still d.port.hub.origin d.ports d.carrier s d.sent (sent l) (sent m) was.fetched same);
      full = λ is. inl (full_since d.port p q was.brought.does.same.station (full is));
      tells = sound ∙ was.sound;
      halted = halted;
    }

  -- WHAT THE LOCK KEEPS
  module _ (start : Option CarrierDuty) (hub : Cell HubLog) (host : ℕ) (ports : List StationPort) where
    abbrev Since : PortValue → HubSeat → L → Option Stop → Type 0
    Since = HasCarriedSince handed sent faults start hub host ports

    pub begun : (p : PortValue) (s : HubSeat) (l : L) → IsCargo host hub p s
        → start ≡ Some (duty_of handed sent faults p s ports l) → Since p s l None
    begun p s l cargo is = record {
      duty = duty_of handed sent faults p s ports l;
      is = is;
      at = cargo.0;
      at_hub = cargo.1;
      to = refl;
      of = cargo.2;
      carried = record {
        brought = brought_none p.host p (handed l) (handed l) refl;
        fetched = (0, fetched_none p.hub.origin s (sent l) (more_none (sent l)));
        sound = refl;
      };
    }

    -- what was asked of this hub and these stations was asked of the duty's
    of_duty : (P : HubLog → List StationPort → Type 0) (p : PortValue) (s : HubSeat) (l : L) (now : Option Stop) (was : Since p s l now)
        → P hub.origin ports → P was.duty.port.hub.origin was.duty.ports
    of_duty P p s l now was it =
        subst (λ (h : Cell HubLog). P h.origin was.duty.ports) (sym was.at_hub) (subst (P hub.origin) (sym was.to) it)

    of_station : (P : ℕ → Type 0) (p : PortValue) (s : HubSeat) (l : L) (now : Option Stop) (was : Since p s l now) → P host
        → P was.duty.port.host
    of_station P p s l now was it = subst P (sym was.at) it

    -- where nothing stopped it yet
    pub going : (p : PortValue) (s : HubSeat) (l : L) (now : Option Stop) → now ≡ None → Since p s l now → Since p s l None
    going p s l now none was = subst (Since p s l) none was

    pub as_stopped : (p : PortValue) (s : HubSeat) (l : L) (now : Option Stop) → now ≡ None → Since p s l None → Since p s l now
    as_stopped p s l now none is = subst (Since p s l) (sym none) is

    pub sent_on : (p : PortValue) (s t : HubSeat) (l m : L) (answer : Sent) → Since p s l None
        → HasGoneRound hub.origin ports s t (sent l) (sent m) (Ok answer) → answer.ended ≡ false → handed m ≡ handed l → faults m ≡ faults l
        → Since p t m None
    sent_on p s t l m answer was round is same sound = record {
      duty = was.duty;
      is = was.is;
      at = was.at;
      at_hub = was.at_hub;
      to = was.to;
      of = seat_of hub s t was.of round.fetched.same;
      carried = round_on was.duty p s t l m answer was.carried
          (of_duty (λ o ps. HasGoneRound o ps s t (sent l) (sent m) (Ok answer)) p s l None was round) is same sound;
    }

    pub sent_last : (p : PortValue) (s t : HubSeat) (l m : L) (answer : Sent) → Since p s l None
        → HasGoneRound hub.origin ports s t (sent l) (sent m) (Ok answer) → answer.ended ≡ true → handed m ≡ handed l → faults m ≡ faults l
        → Since p t m (Some stops.Ended)
    sent_last p s t l m answer was round is same sound = record {
      duty = was.duty;
      is = was.is;
      at = was.at;
      at_hub = was.at_hub;
      to = was.to;
      of = seat_of hub s t was.of round.fetched.same;
      carried = round_last was.duty p s t l m answer was.carried
          (of_duty (λ o ps. HasGoneRound o ps s t (sent l) (sent m) (Ok answer)) p s l None was round) is same sound;
    }

    pub sent_cut : (p : PortValue) (s t u : HubSeat) (l m : L) (why : Room) → Since p s l None
        → HasGoneRound hub.origin ports s t (sent l) (sent m) (Err why) → (Some why ≡ Some rooms.Full → IsHubFull t) → handed m ≡ handed l
        → faults m ≡ faults l → HasHaltedBy t u (stops.Met why) → Since p u m (Some (stops.Met why))
    sent_cut p s t u l m why was round full same sound halted = record {
      duty = was.duty;
      is = was.is;
      at = was.at;
      at_hub = was.at_hub;
      to = was.to;
      of = seat_of hub t u (seat_of hub s t was.of round.fetched.same) halted.0;
      carried = round_cut was.duty p s t u l m why was.carried
          (of_duty (λ o ps. HasGoneRound o ps s t (sent l) (sent m) (Err why)) p s l None was round) full same sound halted;
    }

    pub heard_on : (p q : PortValue) (s : HubSeat) (l m : L) → Since p s l None → HasBrought host p q (handed l) (handed m) None
        → sent m ≡ sent l → faults m ≡ faults l → Since q s m None
    heard_on p q s l m was more same sound = record {
      duty = was.duty;
      is = was.is;
      at = was.at;
      at_hub = was.at_hub;
      to = was.to;
      of = was.of;
      carried = heard_more was.duty p q s l m was.carried
          (of_station (λ h. HasBrought h p q (handed l) (handed m) None) p s l None was more) same sound;
    }

    pub heard_last : (p q : PortValue) (s t : HubSeat) (l m : L) → Since p s l None → HasBrought host p q (handed l) (handed m) None
        → sent m ≡ sent l → Rose (faults l) (faults m) → HasHaltedBy s t stops.Failed → Since q t m (Some stops.Failed)
    heard_last p q s t l m was more same rose halted = record {
      duty = was.duty;
      is = was.is;
      at = was.at;
      at_hub = was.at_hub;
      to = was.to;
      of = seat_of hub s t was.of halted.0;
      carried = hears_no_more was.duty p q s t l m was.carried
          (of_station (λ h. HasBrought h p q (handed l) (handed m) None) p s l None was more) same rose halted;
    }

    pub heard_but : (p q : PortValue) (s t : HubSeat) (l m : L) (why : Room) → Since p s l None
        → HasBrought host p q (handed l) (handed m) (Some why) → (Some why ≡ Some rooms.Full → IsPortFull p q) → sent m ≡ sent l
        → faults m ≡ faults l → HasHaltedBy s t (stops.Met why) → Since q t m (Some (stops.Met why))
    heard_but p q s t l m why was more full same sound halted = record {
      duty = was.duty;
      is = was.is;
      at = was.at;
      at_hub = was.at_hub;
      to = was.to;
      of = seat_of hub s t was.of halted.0;
      carried = heard_cut was.duty p q s t l m why was.carried
          (of_station (λ h. HasBrought h p q (handed l) (handed m) (Some why)) p s l None was more) full same sound halted;
    }

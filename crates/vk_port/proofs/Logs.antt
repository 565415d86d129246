-- The log of a port: none, one behind another, and what its seats have entered.
use Rattle.std.proofs.Common.{◌≡◌, ℕ, List, [], ◌∷◌, ◌++◌, refl, ap, subst, ◌∙◌}
use mathlib.Core.List.{IsPrefix}
use Rattle.vk_types.specs.Types.{StationEvent}
use Rattle.turn_cell.proofs.Histories.{prefix_self}
use Rattle.vk_base.specs.declared.event.StationEvent.TheVariants as events
use Rattle.vk_hub.specs.declared.event.Fetched.{Fetched}
use Rattle.vk_hub.specs.declared.event.HubEvent.{HubEvent}
use Rattle.vk_hub.specs.declared.event.HubEvent.TheVariants as hub_events
use Rattle.vk_port.specs.Ports.{Action, Berth, Delivers, Does, Drops, Enters, EntersAt, FetchesAt, Hears, IsLog, IsRightAction, IsSamePort, PortValue, Stand, after, berth_of, entered_at, fetched_at, posts, stand_of}
use Rattle.vk_port.proofs.Fronts.{prefix_over}

-- the second has seen as much or more, and entered the same
pub record IsLater (s t : Stand) : Type 0 where
  pub seen : IsPrefix s.seen t.seen
  pub heard : IsPrefix s.heard t.heard
  pub mine : t.mine ≡ s.mine
  pub sent : t.sent ≡ s.sent

module _ (b : Berth) where
  enters_before : (s t : Stand) (before : List (ℕ × StationEvent)) (e : StationEvent) (posted : ℕ) → IsLater s t → EntersAt b t before e posted →
      EntersAt b s before e posted
  enters_before s t before e posted later at = record {
    later = prefix_over s.seen t.seen before later.seen at.later;
    mine = at.mine ∙ later.mine;
    own = at.own;
    ready = at.ready;
    room = at.room;
    posted_few = at.posted_few;
  }

  fetches_before : (s t : Stand) (heard : List (ℕ × HubEvent)) (f : Fetched) → IsLater s t → FetchesAt b t heard f → FetchesAt b s heard f
  fetches_before s t heard f later at = record {
    later = prefix_over s.heard t.heard heard later.heard at.later;
    mine = at.mine ∙ later.sent;
    room = at.room;
    answered = at.answered;
  }

  entered_later : (s t : Stand) (before : List (ℕ × StationEvent)) (e : StationEvent) (posted : ℕ) → IsLater s t →
      IsLater (entered_at b s before e posted) (entered_at b t before e posted)
  entered_later s t before e posted later = record {
    seen = prefix_self (before ++ (b.number, e) ∷ []);
    heard = later.heard;
    mine = ap (λ l. l ++ e ∷ []) later.mine;
    sent = ap (λ l. l ++ posts b.station before e posted) later.sent;
  }

  fetched_later : (s t : Stand) (heard : List (ℕ × HubEvent)) → IsLater s t → IsLater (fetched_at b s heard) (fetched_at b t heard)
  fetched_later s t heard later = record {
    seen = later.seen;
    heard = prefix_self (heard ++ (b.hub_number, hub_events.Fetch b.host) ∷ []);
    mine = later.mine;
    sent = ap (λ l. l ++ hub_events.Fetch b.host ∷ []) later.sent;
  }

  after_later : (s t : Stand) (a : Action) → IsLater s t → IsLater (after b s a) (after b t a)
  after_later s t (Enters before e posted) later = entered_later s t before e posted later
  after_later s t (Delivers heard frame before posted) later =
      entered_later (fetched_at b s heard) (fetched_at b t heard) before (events.Deliver frame) posted (fetched_later s t heard later)
  after_later s t (Drops heard frame) later = fetched_later s t heard later
  after_later s t (Hears heard) later = fetched_later s t heard later

  right_before : (s t : Stand) (a : Action) → IsLater s t → IsRightAction b t a → IsRightAction b s a
  right_before s t (Enters before e posted) later at = enters_before s t before e posted later at
  right_before s t (Delivers heard frame before posted) later at = (
    fetches_before s t heard _ later at.0,
    enters_before (fetched_at b s heard) (fetched_at b t heard) before (events.Deliver frame) posted (fetched_later s t heard later) at.1,
  )
  right_before s t (Drops heard frame) later at = fetches_before s t heard _ later at
  right_before s t (Hears heard) later at = fetches_before s t heard _ later at

  -- what is right of a seat that has seen more is so of one that had seen less
  pub log_before : (s t u : Stand) (acts : List Action) → IsLater s t → IsLog b t acts u → IsLog b s acts u
  log_before s t u [] later log = (
    prefix_over s.seen t.seen u.seen later.seen log.0,
    prefix_over s.heard t.heard u.heard later.heard log.1,
    log.2 ∙ later.mine,
    log.3 ∙ later.sent,
  )
  log_before s t u (a ∷ acts) later log =
      (right_before s t a later log.0, log_before (after b s a) (after b t a) u acts (after_later s t a later) log.1)

  -- one behind another
  pub log_append : (s t u : Stand) (acts cs : List Action) → IsLog b s acts t → IsLog b t cs u → IsLog b s (acts ++ cs) u
  log_append s t u [] cs log more =
      log_before s t u cs (record { seen = log.0; heard = log.1; mine = log.2; sent = log.3 }) more
  log_append s t u (a ∷ acts) cs log more = (log.0, log_append (after b s a) t u acts cs log.1 more)

-- Ports.
pub same_port : (p : PortValue) → IsSamePort p p
same_port p = record {
  host = refl;
  station = refl;
  hub = refl;
  ticks = refl;
  seat = (refl, refl, refl);
  hub_seat = (refl, refl, refl);
}

pub same_over : (p q r : PortValue) → IsSamePort p q → IsSamePort q r → IsSamePort p r
same_over p q r a c = record {
  host = c.host ∙ a.host;
  station = c.station ∙ a.station;
  hub = c.hub ∙ a.hub;
  ticks = c.ticks ∙ a.ticks;
  seat = (c.seat.0 ∙ a.seat.0, c.seat.1 ∙ a.seat.1, c.seat.2 ∙ a.seat.2);
  hub_seat = (c.hub_seat.0 ∙ a.hub_seat.0, c.hub_seat.1 ∙ a.hub_seat.1, c.hub_seat.2 ∙ a.hub_seat.2);
}

pub berth_same : (p q : PortValue) → IsSamePort p q → berth_of q ≡ berth_of p
berth_same p q same = λ i. record {
  host = same.host i;
  station = (same.station i).origin;
  hub = (same.hub i).origin;
  number = same.seat.2 i;
  hub_number = same.hub_seat.2 i;
}

pub does_nothing : (p : PortValue) → Does p p []
does_nothing p = record {
  same = same_port p;
  log = (prefix_self p.seat.seen, prefix_self p.hub_seat.seen, refl, refl);
}

pub does_more : (p q r : PortValue) (acts cs : List Action) → Does p q acts → Does q r cs → Does p r (acts ++ cs)
does_more p q r acts cs first second = record {
  same = same_over p q r first.same second.same;
  log =
      log_append (berth_of p) (stand_of p) (stand_of q) (stand_of r) acts cs first.log
      (subst (λ b. IsLog b (stand_of q) cs (stand_of r)) (berth_same p q first.same) second.log);
}

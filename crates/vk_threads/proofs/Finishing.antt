-- Behind the end of a program.
use Rattle.std.proofs.Common.{◌≡◌, ℕ, ◌≤◌, true, List, [], ◌∷◌, ◌++◌, ◌⊎◌, Some, None, ap, ◌∙◌, sym, subst, arith, append_assoc, nat_le}
use Rattle.std.proofs.lemmas.Bool.Decides.{nat_tests}
use mathlib.Core.List.{IsPrefix}
use Rattle.vk_types.specs.Types.{StationEvent}
use Rattle.turn_cell.specs.declared.replay.Room.{Room}
use Rattle.turn_cell.specs.Rooms.{is_full}
use Rattle.turn_cell.specs.Seats.{HasEntered, HasLooked, IsSameSeat, Sitting}
use Rattle.vk_hub.specs.declared.event.HubEvent.{HubEvent}
use Rattle.vk_hub.specs.declared.event.HubEvent.TheVariants as hub_events
use Rattle.vk_hub.specs.Hubs.{HubLog, has_halt, is_at_limit, others}
use Rattle.vk_port.specs.Ports.{PortValue}
use Rattle.vk_port.specs.Stations.{StationHistory}
use Rattle.vk_threads.specs.Works.{HasEnded}

pub at_limit : (n : ℕ) → nat_le 200000 n ≡ true → 200000 ≤ n
at_limit n is = grind (arith, nat_tests)

abbrev HubSeat : Type 0
HubSeat = Sitting HubLog HubEvent

pub has_finished : (p : PortValue) (seat : Sitting StationHistory StationEvent) (before now : HubSeat) (Gives : List (ℕ × HubEvent) → Type 0)
    → seat ≡ p.seat → before ≡ p.hub_seat → IsSameSeat before now → HasEntered Gives before now hub_events.Finished → HasEnded p seat now None
has_finished p seat before now Gives is was same entered = record {
  seat = is;
  same = subst (λ s. IsSameSeat s now) was same;
  finished = (
    entered.mine ∙ ap (λ (s : HubSeat). s.mine ++ hub_events.Finished ∷ []) was,
    subst (λ (s : HubSeat). IsPrefix s.seen now.seen) was (
      entered.later.0 ++ (before.number, hub_events.Finished) ∷ [],
      whole before.seen entered.later.0 entered.before ((before.number, hub_events.Finished) ∷ []) entered.later.1 ∙ sym entered.seen,
    ),
  );
}
  where
    whole : (xs more ys zs : List (ℕ × HubEvent)) → xs ++ more ≡ ys → xs ++ (more ++ zs) ≡ ys ++ zs
    whole xs more ys zs is = sym (append_assoc xs more zs) ∙ ap (λ l. l ++ zs) is

pub has_failed : (p : PortValue) (seat : Sitting StationHistory StationEvent) (before mid now : HubSeat) (why : Room)
    → seat ≡ p.seat → before ≡ p.hub_seat → IsSameSeat before mid → HasLooked before mid → is_at_limit mid.seen hub_events.Finished ≡ is_full why
    → IsSameSeat mid now → IsPrefix mid.seen now.seen → (now.mine ≡ mid.mine) ⊎ (now.mine ≡ mid.mine ++ hub_events.Halt ∷ [])
    → has_halt now.seen ≡ true → HasEnded p seat now (Some why)
has_failed p seat before mid now why is was same looked full same2 later mine halted = record {
  seat = is;
  same = subst (λ s. IsSameSeat s now) was (same2.0 ∙ same.0, same2.1 ∙ same.1, same2.2 ∙ same.2);
  finished = (
    mid.seen,
    subst (λ (s : HubSeat). IsPrefix s.seen mid.seen) was looked.0,
    later,
    subst (λ l. (now.mine ≡ l) ⊎ (now.mine ≡ l ++ hub_events.Halt ∷ [])) (looked.1 ∙ ap (λ (s : HubSeat). s.mine) was) mine,
    (λ e. at_limit (others mid.seen) (full ∙ ap is_full e)),
    halted,
  );
}

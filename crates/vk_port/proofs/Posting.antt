-- Frames that are posted one after the other.
use Rattle.std.proofs.Common.{◌≡◌, ℕ, ◌+◌, List, [], ◌∷◌, ◌++◌, map, take, Some, refl, sym, ap, subst, ◌∙◌, append_assoc}
use mathlib.Core.List.{IsPrefix}
use Rattle.std.specs.Prelude.{slice_get}
use Rattle.std.proofs.lemmas.List.{map-append, take_more}
use Rattle.std.proofs.lemmas.Option.{get_or_from_slice_get, slice_get_within}
use Rattle.turn_cell.specs.Seats.{HasEntered, IsSameSeat, Sitting}
use Rattle.vk_hub.specs.declared.event.HubEvent.{HubEvent}
use Rattle.vk_hub.specs.declared.event.HubEvent.TheVariants as hub_events
use Rattle.vk_hub.specs.Hubs.{HubLog}
use Rattle.vk_hub.specs.Links.{Frame}
use Rattle.vk_port.specs.Turns.{HasPosted}
use Rattle.vk_port.proofs.Fronts.{prefix_over}

module _ (f g h : Sitting HubLog HubEvent) (frames : List Frame) (at : ℕ) (posted : HasPosted f g (take at frames)) where
  seats : IsSameSeat g h → IsSameSeat f h
  seats same = (same.0 ∙ posted.same.0, same.1 ∙ posted.same.1, same.2 ∙ posted.same.2)

  taken : (frame : Frame) → slice_get frames at ≡ Some frame → take (at + 1) frames ≡ take at frames ++ frame ∷ []
  taken frame there =
      take_more frames at [] (slice_get_within frames at frame there)
      ∙ ap (λ x. take at frames ++ x ∷ []) (get_or_from_slice_get frames at frame [] there)

  pub posted_more : (Gives : List (ℕ × HubEvent) → Type 0) (frame : Frame) → slice_get frames at ≡ Some frame → IsSameSeat g h →
      HasEntered Gives g h (hub_events.Post frame) → HasPosted f h (take (at + 1) frames)
  posted_more Gives frame there same turn = record {
    same = seats same;
    seen =
        prefix_over f.seen g.seen h.seen posted.seen
        (subst (IsPrefix g.seen) (sym turn.seen)
        (prefix_over g.seen turn.before (turn.before ++ (g.number, hub_events.Post frame) ∷ []) turn.later
        ((g.number, hub_events.Post frame) ∷ [], refl)));
    mine =
        turn.mine
        ∙ ap (λ l. l ++ hub_events.Post frame ∷ []) posted.mine
        ∙ append_assoc f.mine (map hub_events.Post (take at frames)) (hub_events.Post frame ∷ [])
        ∙ ap (λ l. f.mine ++ l)
        (sym (ap (map hub_events.Post) (taken frame there) ∙ map-append hub_events.Post (take at frames) (frame ∷ [])));
  }

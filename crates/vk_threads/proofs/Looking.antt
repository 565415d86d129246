-- What a look at closed states tells.
use Rattle.std.proofs.Common.{◌≡◌, ℕ, ◌+◌, ◌<◌, List, [], ◌∷◌, ◌++◌, length, take, get_or, sym, ap, ◌∙◌, subst}
use Rattle.std.proofs.lemmas.List.{take_more}
use Rattle.vk_types.specs.Types.{ProcessSpec}
use Rattle.vk_hub.specs.declared.event.HubEvent.{HubEvent}
use Rattle.vk_hub.specs.Hubs.{HubLog, first_traffic, origin_of, traffic_after, traffic_of}
use Rattle.vk_rules.specs.Each.{Each}
use Rattle.vk_rules.proofs.Lists.{each_append}

-- one process more
pub process_more : (P : ProcessSpec → Type 0) (specs : List ProcessSpec) (n : ℕ) (s : ProcessSpec) → n < length specs
    → s ≡ get_or specs n s → P s → Each P (take n specs) → Each P (take (n + 1) specs)
process_more P specs n s low is one before =
    subst (Each P) (sym (take_more specs n s low ∙ ap (λ t. take n specs ++ t ∷ []) (sym is)))
    (each_append P (take n specs) (s ∷ []) before (one, tt))

-- the traffic of a hub that began as another one did
pub same_traffic : (a o : HubLog) (heard : List (ℕ × HubEvent)) → a.plan ≡ o.plan → a.stations ≡ o.stations → a.programs ≡ o.programs
    → traffic_of (origin_of a) heard ≡ traffic_of o heard
same_traffic a o heard plan stations programs =
    λ i. traffic_after (plan i) (programs i) (first_traffic (plan i) (stations i)) heard

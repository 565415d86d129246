-- Where no process of the configuration may collect at a station, none of the station's has an answer to collect.
use Rattle.std.proofs.Common.{◌≡◌, ◌==◌, ◌&&◌, ◌||◌, eq-eqb, ℕ, Bool, true, false, List, [], ◌∷◌, ◌++◌, append_assoc, subst, ap, ◌∙◌, refl}
use Rattle.vk_types.specs.Types.{ProcessSpec, StationEvent}
use Rattle.vk_base.specs.declared.event.StationEvent.TheVariants as events
use Rattle.vk_base.specs.declared.step.Step.TheVariants as steps
use Rattle.vk_base.specs.Settings.{has_process, is_process}
use Rattle.vk_base.specs.Steps.{is_allowed}
use Rattle.vk_base.proofs.BoolLemmas.{or_true}
use Rattle.vk_base.proofs.PidLemmas.{same_pid_self}
use Rattle.vk_port.specs.Stations.{StationHistory, entries_at, is_ready}
use Rattle.vk_rules.specs.Each.{Each}
use Rattle.vk_rules.specs.Readings.{reading}

has_self : (front : List ProcessSpec) (p : ProcessSpec) (rest : List ProcessSpec) → has_process (front ++ p ∷ rest) p.pid ≡ true
has_self [] p rest = ap (λ b. b || has_process rest p.pid) (same_pid_self p.pid)
has_self (q ∷ front) p rest = ap (λ b. is_process p.pid q || b) (has_self front p rest) ∙ or_true (is_process p.pid q)

last_false : (a b d : Bool) → a ≡ true → b ≡ true → ((a && b) && d) ≡ false → d ≡ false
last_false a b d one two is = cc (one, two, is)

collects_by : (o : StationHistory) (history : List (ℕ × StationEvent)) (front specs : List ProcessSpec) → front ++ specs ≡ o.config.specs
    → Each (λ (p : ProcessSpec). is_ready o history (events.Collect p.pid) ≡ false) specs
    → Each (λ (p : ProcessSpec). p.pid.host ≡ o.host
    → is_allowed (reading o.config o.host (entries_at o history)).view (steps.Collect p.pid) ≡ false) specs
collects_by o history front [] are none = tt
collects_by o history front (p ∷ specs) are none = (
  λ here. last_false (has_process o.config.specs p.pid) (p.pid.host == o.host)
      (is_allowed (reading o.config o.host (entries_at o history)).view (steps.Collect p.pid))
      (subst (λ l. has_process l p.pid ≡ true) are (has_self front p specs)) (eq-eqb p.pid.host o.host here) none.0,
  collects_by o history (front ++ p ∷ []) specs (append_assoc front (p ∷ []) specs ∙ are) none.1,
)

pub none_collects : (o : StationHistory) (history : List (ℕ × StationEvent))
    → Each (λ (p : ProcessSpec). is_ready o history (events.Collect p.pid) ≡ false) o.config.specs
    → Each (λ (p : ProcessSpec). p.pid.host ≡ o.host
    → is_allowed (reading o.config o.host (entries_at o history)).view (steps.Collect p.pid) ≡ false) o.config.specs
none_collects o history none = collects_by o history [] o.config.specs refl none

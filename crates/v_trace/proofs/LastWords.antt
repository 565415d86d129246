-- Nothing is read where no word stands.
use Rattle.std.proofs.Common.{◌≡◌, ℕ, List, Option, None, refl, ap}
use Rattle.vk_base.specs.Options.{◌>>=◌}
use Rattle.vk_text.specs.Calls.{first_as, ended}
use Rattle.vk_text.specs.Lines.{StartsNoWord}
use Rattle.vk_text.proofs.Firsts.{no_first}
use Rattle.v_trace.specs.Steps.{failure_of, ending_of, last_as}

no_last : {A : Type 0} (spelled : List ℕ → Option A) (ws : List (List ℕ)) → first_as spelled ws ≡ None → last_as spelled ws ≡ None
no_last spelled ws h = ap (λ o. o >>= λ (a, ws). ended ws a) h

pub no_failure : (ws : List (List ℕ)) → StartsNoWord ws → last_as failure_of ws ≡ None
no_failure ws h = no_last failure_of ws (no_first failure_of refl ws h)

pub no_ending : (ws : List (List ℕ)) → StartsNoWord ws → last_as ending_of ws ≡ None
no_ending ws h = no_last ending_of ws (no_first ending_of refl ws h)

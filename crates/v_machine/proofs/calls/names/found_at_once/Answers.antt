use Rattle.std.proofs.Common.{◌≡◌, ℕ, List, option_map, refl, sym, ap, ◌∙◌}
use Rattle.std.specs.List.{find}
use Rattle.vk_types.specs.Types.{Pid, Registration, Scope}
use Rattle.vk_base.specs.declared.call.Scope.TheVariants as scopes
use Rattle.vk_base.specs.Calls.{found_at_once}
use Rattle.vk_base.specs.Kernel.{Kernel, found_here}
use Rattle.v_machine.specs.Kept.{kernel_in}
use Rattle.v_machine.specs.Names.{answers_here}
use Rattle.v_machine.proofs.Naming.{found_here_is}
use Rattle.v_machine.proofs.calls.names.found_at_once.Goals as goal

-- where the lookup looks at the asker's own station
looks_here : (k : Kernel) (pid : Pid) (logical : ℕ) (scope : Scope) → (scope ≡ scopes.Remote → ⊥) →
    found_at_once k pid logical scope ≡ found_here (k.names pid.host) logical
looks_here k pid logical scopes.Local other = refl
looks_here k pid logical scopes.Remote other = absurd (other refl)
looks_here k pid logical scopes.Both other = refl

pub returns-in_default : goal.returns-in_default
returns-in_default c =
    c.found_here.ensures
    ∙ ap (λ (ns : List Registration). option_map (λ (r : Registration). r.pid) (find (answers_here c.args.pid.host c.args.logical) ns))
    c.deref.ensures.value
    ∙ sym (found_here_is c.args.store.now.names.items c.args.pid.host c.args.logical)
    ∙ sym (looks_here (kernel_in c.args.store.now) c.args.pid c.args.logical c.args.scope c.in_default.not-Remote)

-- What is found where a machine is looked at.
use Rattle.std.proofs.Common.{◌≡◌, Bool, true, false, cond, ◌&&◌, Option, Some, None, ap, ◌∙◌}
use Rattle.vk_types.specs.Types.{Exchange, Name}
use Rattle.vk_base.specs.Kernel.{◌>>=◌, Kernel}
use Rattle.v_machine.specs.Spent.{current_kernel, has_ended, is_past, unless_over}

-- nothing was begun under the name
pub nothing_now : (k : Kernel) (n : Name) → k.exchanges n ≡ None → (current_kernel k).exchanges n ≡ None
unfolding current_kernel
nothing_now k n none = ap (λ o. o >>= unless_over (k.procs n.sender) n.number) none

-- what was begun is there, unless it is over
pub there_now : (k : Kernel) (n : Name) (e : Exchange) (b : Bool) → k.exchanges n ≡ Some e
    → (is_past n.number (k.procs n.sender) && has_ended e) ≡ b → (current_kernel k).exchanges n ≡ cond b None (Some e)
unfolding current_kernel
there_now k n e b there is =
    ap (λ o. o >>= unless_over (k.procs n.sender) n.number) there ∙ ap (λ b. cond b None (Some e)) is

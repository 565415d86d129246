-- A step that the kernel does not allow, in a kernel without what no step reads.
use Rattle.std.proofs.Common.{◌≡◌, true, false, Option, Some, None, Result, Ok, Err, is_none, is_some, refl, sym, ap, ◌∙◌}
use Rattle.std.proofs.lemmas.Bool.{both_ways}
use Rattle.std.specs.Result.{IsErr, result_err}
use Rattle.vk_types.specs.Types.{Step}
use Rattle.vk_base.specs.Kernel.{Kernel}
use Rattle.vk_base.specs.Steps.{effect, is_allowed}
use Rattle.v_machine.specs.Spent.{current_kernel, emptied_kernel}
use Rattle.v_machine.proofs.Current.{current_again}
use Rattle.v_machine.proofs.Standing.{none_alike}
use Rattle.v_obstacle.specs.declared.obstacle.Obstacle.{Obstacle}
use Rattle.v_obstacle.specs.Obstacles.{obstacle}

some_of : {A : Type 0} (o : Option A) → is_none o ≡ false → is_some o ≡ true
some_of None e = sym e
some_of (Some x) e = refl

pub in_the_way : (k : Kernel) (s : Step) → is_none (obstacle (current_kernel k) s) ≡ is_allowed (current_kernel k) s → effect k s ≡ None →
    is_some (obstacle (current_kernel k) s) ≡ true
in_the_way k s exact none =
    let still : effect (current_kernel k) s ≡ None = none_alike (current_kernel k) k s (ap emptied_kernel (current_again k)) none in
    some_of (obstacle (current_kernel k) s) (exact ∙ ap is_some still)

pub err_of : {A : Type 0} (o : Option Obstacle) (r : Result A Obstacle) → is_some o ≡ true → o ≡ result_err r → IsErr r
err_of o (Ok x) some is = absurd (both_ways (is_some o) (ap is_some is) some)
err_of o (Err why) some is = refl

pub the_err : {A : Type 0} (o : Option Obstacle) (r : Result A Obstacle) (why : Obstacle) → o ≡ result_err r → r ≡ Err why → o ≡ Some why
the_err o r why is err = is ∙ ap result_err err

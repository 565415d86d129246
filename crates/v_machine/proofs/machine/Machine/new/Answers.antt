use Rattle.std.proofs.Common.{lit≤, sym, ap, subst, ◌∙◌}
use Rattle.vk_base.specs.Kernel.{initial_kernel}
use Rattle.v_laws.specs.Sizes.{IsSized, size_in}
use Rattle.v_laws.specs.Sound.{IsSound}
use Rattle.v_laws.proofs.SizeLemmas.{sized_initial}
use Rattle.v_laws.proofs.SoundLemmas.{sound_initial}
use Rattle.v_machine.proofs.machine.Machine.new.Goals as goal

pub invariant_of-result : goal.invariant_of-result
invariant_of-result c =
    let specs = c.args.config.now.specs in
    let is = c.in_ok-initial_store.ensures.kernel ∙ ap initial_kernel c.specs.ensures.specs in (
      record {
        indexed = c.in_ok-initial_store.ensures.indexed;
        sound = subst IsSound (sym is) (sound_initial specs);
        size = size_in specs;
        sized = subst (IsSized (size_in specs)) (sym is) (sized_initial specs);
      },
      lit≤ tt,
    )

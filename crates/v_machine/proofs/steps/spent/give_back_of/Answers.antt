use Rattle.std.proofs.Common.{◌≡◌, Some, sym, ap, subst, ◌∙◌}
use Rattle.std.proofs.lemmas.Option.{same_Some}
use Rattle.v_laws.specs.Sizes.{IsSized}
use Rattle.v_laws.specs.Sound.{IsSound}
use Rattle.v_machine.specs.Kept.{kernel_in}
use Rattle.v_machine.specs.Lean.{IsAlike}
use Rattle.v_machine.specs.Moves.{with_exchange}
use Rattle.v_machine.specs.Sends.{given_back}
use Rattle.v_machine.proofs.Emptying.{sound_given_back, sized_given_back, alike_given_back}
use Rattle.v_machine.proofs.steps.spent.give_back_of.Goals as goal

pub returns : goal.returns
returns c =
    let k = kernel_in c.args.store.now in
    let name = c.args.name in
    let place = c.in-Some.ensures.here.place in
    let e = c.in-Some-sent_of._sent.now in
    let at : k.exchanges name ≡ Some e = c.in-Some-sent_of.ensures name.sender place in
    let put = c.put_emptied.ensures name.sender e place at in
    record {
      alike = subst (IsAlike k) (sym put.0) (alike_given_back k name e c.args.from c.args.to at);
      kept = record {
        indexed = put.1 c.requires.kept.indexed;
        sound = subst IsSound (sym put.0) (sound_given_back k name e c.args.from c.args.to at c.requires.kept.sound);
        size = c.requires.kept.size;
        sized = subst (IsSized c.requires.kept.size) (sym put.0)
            (sized_given_back k name e c.args.from c.args.to at c.requires.kept.size c.requires.kept.sized);
      };
      gives = λ x is. put.0 ∙ ap (λ y. with_exchange k name (given_back c.args.from c.args.to y)) (same_Some e x (sym at ∙ is));
    }

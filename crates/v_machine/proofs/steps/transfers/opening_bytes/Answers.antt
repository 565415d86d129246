use Rattle.std.proofs.Common.{sym, ap, ◌∙◌}
use Rattle.vk_base.specs.Kernel.{◌>>=◌, move_of}
use Rattle.v_machine.specs.Apply.{noted_at_opening}
use Rattle.v_machine.proofs.PlaceLemmas.{nowhere}
use Rattle.v_machine.proofs.TableLemmas.{exchanges_nowhere}
use Rattle.v_machine.proofs.steps.transfers.opening_bytes.Goals as goal

pub returns-in_default : goal.returns-in_default
returns-in_default c =
    let s = c.args.store.now in
    let none = exchanges_nowhere s.places s.sends.items c.args.name
    (nowhere s.places s.sends.items c.args.name.sender (sym c.find.ensures.place ∙ c.in_default.is)) in
    sym (ap (λ o. noted_at_opening (o >>= λ e. move_of e c.args.moving)) none)

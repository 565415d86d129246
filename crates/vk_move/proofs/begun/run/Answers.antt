use Rattle.std.proofs.Common.{ap, subst, sym, ◌∙◌}
use Rattle.vk_move.specs.Begun.{waiting_in, waiting_seats}
use Rattle.vk_move.specs.Moved.{CanGoOn}
use Rattle.vk_move.proofs.Begins.{begun_goes}
use Rattle.vk_move.proofs.begun.run.Goals as goal

pub post_round-requires-clause-goes : goal.post_round-requires-clause-goes
post_round-requires-clause-goes c =
    let x = c.args.transfer in
    subst (λ xs. CanGoOn xs c.args.pid 0)
    (sym (c.wait.ensures ∙ ap (λ w. waiting_seats c.args.tick.times c.args.tick.at c.args.pid w c.in-Some.name c.args.procs.now)
    c.waiting_in.ensures))
    (begun_goes c.args.procs.now c.args.aliens.now c.args.pid x.partner (waiting_in x.way x.partner x.dest x.src x.count) c.in-Some.name
    c.args.tick.times c.args.tick.at c.requires.goes (sym c.in-Some.ensures.name))

use Rattle.std.proofs.Common.{◌∙◌}
use Rattle.v_machine.proofs.Replaced.{without_found, without_none}
use Rattle.v_machine.proofs.calls.names.take_out.Goals as goal

pub returns-in-Some-clause-items : goal.returns-in-Some-clause-items
returns-in-Some-clause-items c =
    c.remove-older.ensures.by_index.2
    ∙ without_found c.args.host c.args.logical c.args.names.now.items c.in-Some.at c.args.older c.requires.older c.in-Some.is c.requires.once

pub returns-in_default-clause-items : goal.returns-in_default-clause-items
returns-in_default-clause-items c =
    without_none c.args.host c.args.logical c.args.names.now.items c.args.older c.requires.older c.in_default.not-Some c.requires.once

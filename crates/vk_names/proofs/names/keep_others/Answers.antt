use Rattle.std.proofs.Common.{sym, ◌∙◌}
use Rattle.vk_names.proofs.Replaced.{without_found, without_none}
use Rattle.vk_names.proofs.names.keep_others.Goals as goal

pub returns-in-Some-clause-items : goal.returns-in-Some-clause-items
returns-in-Some-clause-items c =
    c.remove-older.ensures.by_index.2
    ∙ sym (without_found c.args.logical c.args.names.now.items c.in-Some.at c.args.older c.requires.older c.in-Some.is c.requires.once)

pub returns-in_default-clause-items : goal.returns-in_default-clause-items
returns-in_default-clause-items c =
    sym (without_none c.args.logical c.args.names.now.items c.args.older c.requires.older c.in_default.not-Some c.requires.once)

use Rattle.std.proofs.Common.{sym, ap, ◌∙◌}
use Rattle.std.specs.List.{list_any}
use Rattle.v_machine.specs.Names.{tells_of}
use Rattle.v_machine.proofs.Naming.{told_is}
use Rattle.v_machine.proofs.look.is_told_there.Goals as goal

pub returns : goal.returns
returns c =
    c.is_told.ensures ∙ ap (list_any (tells_of c.args.logical c.args.pid)) c.deref.ensures.value
    ∙ sym (told_is c.args.store.now.names.items c.args.logical c.args.pid)

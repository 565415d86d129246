use Rattle.std.proofs.Common.{sym, ap, ◌∙◌}
use Rattle.vk_base.specs.Kernel.{found_there, holds_of}
use Rattle.vk_base.specs.Pids.{same_pid}
use Rattle.vk_names.proofs.Entries.{told_is}
use Rattle.vk_names.proofs.names.Names.find_remote.Goals as goal

pub returns-clause-told : goal.returns-clause-told
returns-clause-told c = λ pid.
    let names = c.self.inside.entries.items in
    rw (← c.self.view_is) (told_is c.args.logical pid names c.self.invariant.1
    ∙ ap (holds_of (λ found. same_pid found pid))
    (sym (c.found_there.ensures ∙ ap (λ ns. found_there ns c.args.logical) c.deref.ensures.value)))

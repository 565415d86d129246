use Rattle.vk_base.specs.declared.call.Call.TheVariants as calls
use Rattle.vk_local.specs.Calls.{tables_of}
use Rattle.vk_host.proofs.Entries.{tables_played}
use Rattle.vk_host.proofs.away.forward.Goals as goal

pub returns-clause-played : goal.returns-clause-played
returns-clause-played c =
    let d = c.args.desk.now in
    let n = c.forward.new in
    tables_played c.args.pid (calls.Forward c.args.message.now c.args.from c.args.to) c.forward.result _ (c.give.ensures n.procs)
    d.times d.now
    (tables_of d.procs d.queues.lists d.aliens) (tables_of n.procs n.queues.lists n.aliens) d.steps n.steps d.names d.out
    c.requires.can.fit c.forward.ensures.rule

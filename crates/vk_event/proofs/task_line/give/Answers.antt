use Rattle.std.proofs.Common.{ap, sym, ◌∙◌}
use Rattle.std.specs.List.{position}
use Rattle.vk_base.specs.Pids.{same_pid}
use Rattle.vk_event.specs.declared.task.Task.{Task}
use Rattle.vk_event.proofs.TaskPlaces.{given_shown, given-none}
use Rattle.vk_event.proofs.task_line.give.Goals as goal

pub returns-in-Some-clause-given : goal.returns-in-Some-clause-given
returns-in-Some-clause-given c =
    given_shown c.give.result c.args.pid c.args.given c.deref.result.now c.args.tasks.now.items c.in-Some.at c.index_mut.result.now
    c.give.new.self c.in-Some.ensures c.deref.ensures.value c.index_mut.ensures.value c.give.ensures.kind c.give.ensures.pid

pub returns-in-None-clause-given : goal.returns-in-None-clause-given
returns-in-None-clause-given c =
    given-none c.args.pid c.args.given c.args.tasks.now.items
    (ap (position (λ (t : Task). same_pid t.pid c.args.pid)) (sym c.deref.ensures.value) ∙ sym c.in-None.ensures)

use Rattle.std.proofs.Common.{◌∙◌, ◌+◌, ap, ne_eqb, refl, subst, sym, take}
use Rattle.std.specs.Prelude.{Vec}
use Rattle.std.specs.declared.alloc.Global.{Global}
use Rattle.vk_top.specs.Programs.{AreTopPrograms, tasks_at}
use Rattle.vk_program.specs.declared.assigned.Assigned.{Assigned}
use Rattle.vk_top.specs.declared.program.TopProgram.{TopProgram}
use Rattle.vk_top.proofs.Stations.{station_on, station_passed}
use Rattle.vk_top.proofs.program.programs_at.Goals as goal
use Rattle.vk_top.proofs.program.programs_at.Goals.{then-task-host+in_ok-program+in_ok-push, else-task-host}

pub loop-task-preserved : goal.loop-task-preserved
loop-task-preserved c = elim c.if-task-host.branch [
  | then-task-host+in_ok-program+in_ok-push w ↦
      station_on c.args.tasks.now c.loop-task.task-index c.args.host c.task-item.result
      (record { pid = c.task-item.result.pid; program = w.in_ok-program.program }) c.loop-task.programs.items c.if-task-host.programs.items
      c.loop-task-test.true c.task-item.is w.if-task-host.true c.loop-task.invariant refl w.in_ok-program.ensures.task
      w.in_ok-program.ensures.after (ap (λ (v : Vec (Assigned TopProgram) Global). v.items) w.programs-is ∙ w.in_ok-push.ensures.items)
  | else-task-host w ↦
      subst (λ (v : Vec (Assigned TopProgram) Global). AreTopPrograms (tasks_at c.args.host (take
      (c.loop-task.task-index + 1) c.args.tasks.now)) v.items)
      (sym w.programs-is)
      (station_passed c.args.tasks.now c.loop-task.task-index c.args.host c.task-item.result c.loop-task.programs.items c.loop-task-test.true
      c.task-item.is (ne_eqb c.task-item.result.pid.host c.args.host w.if-task-host.false) c.loop-task.invariant)
]

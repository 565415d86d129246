use Rattle.std.proofs.Common.{Some, sym, ap, ◌∙◌}
use Rattle.std.specs.Result.{result_err}
use Rattle.vk_types.specs.Types.{Pid}
use Rattle.vk_base.specs.Pids.{same_host}
use Rattle.v_obstacle.specs.declared.obstacle.Obstacle.TheVariants as obstacles
use Rattle.v_obstacle.specs.Obstacles.{told}
use Rattle.vk_why.specs.Kept.{kept_kernel}
use Rattle.vk_why.proofs.Waiting.{fail_rest, rest_far, rest_here}
use Rattle.v_machine.proofs.Stores.{is_error}
use Rattle.vk_why.proofs.messages.fail_check.Goals as goal

pub returns-in_err-name : goal.returns-in_err-name
returns-in_err-name c =
    ap told (c.in_err-name.ensures.err (fail_rest (kept_kernel c.args.machine.now) c.args.pid c.args.why)) ∙ ap result_err (sym (is_error c.from_residual.result _ c.from_residual.ensures.1))

pub returns-then-live_together : goal.returns-then-live_together
returns-then-live_together c =
    ap told (c.in_ok-name.ensures.ok (fail_rest (kept_kernel c.args.machine.now) c.args.pid c.args.why))
    ∙ rest_here (kept_kernel c.args.machine.now) c.args.pid c.args.why c.in_ok-name.name c.in_ok-name.sent.now
    (ap (same_host c.args.pid) (sym c.target-other.ensures) ∙ sym c.live_together.ensures ∙ c.if-live_together.true)
    ∙ ap (λ (p : Pid). Some (obstacles.OneStation c.args.pid p)) (sym c.target-other.ensures)

pub returns : goal.returns
returns c =
    ap told (c.in_ok-name.ensures.ok (fail_rest (kept_kernel c.args.machine.now) c.args.pid c.args.why))
    ∙ rest_far (kept_kernel c.args.machine.now) c.args.pid c.args.why c.in_ok-name.name c.in_ok-name.sent.now
    (ap (same_host c.args.pid) (sym c.target-other.ensures) ∙ sym c.live_together.ensures ∙ c.if-live_together.false)
    ∙ c.failure_check.ensures

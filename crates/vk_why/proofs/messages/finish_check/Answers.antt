use Rattle.std.proofs.Common.{Some, sym, ap, ◌∙◌}
use Rattle.std.specs.Result.{result_err}
use Rattle.vk_types.specs.Types.{Pid}
use Rattle.v_obstacle.specs.declared.obstacle.Obstacle.TheVariants as obstacles
use Rattle.v_obstacle.specs.declared.obstacle.Standing.{Standing}
use Rattle.v_obstacle.specs.Obstacles.{standing_of, told}
use Rattle.vk_why.proofs.Waiting.{finish_rest, rest_none, rest_some}
use Rattle.v_machine.proofs.Stores.{is_error}
use Rattle.vk_why.proofs.messages.finish_check.Goals as goal

pub returns-in_err-name : goal.returns-in_err-name
returns-in_err-name c = ap told (c.in_err-name.ensures.err finish_rest) ∙ ap result_err (sym (is_error c.from_residual.result _ c.from_residual.ensures.1))

pub returns-in-Some : goal.returns-in-Some
returns-in-Some c = ap told (c.in_ok-name.ensures.ok finish_rest) ∙ rest_some c.in_ok-name.name c.in_ok-name.sent.now _ c.in-Some.ensures.some

pub returns-in-None : goal.returns-in-None
returns-in-None c = ap told (c.in_ok-name.ensures.ok finish_rest) ∙ rest_none c.in_ok-name.name c.in_ok-name.sent.now c.in-None.ensures.none
    ∙ ap (λ (a : Pid). Some (obstacles.NotReplied c.in_ok-name.name a (standing_of c.in_ok-name.sent.now.stage))) (sym c.at.ensures)
    ∙ ap (λ (s : Standing). Some (obstacles.NotReplied c.in_ok-name.name c.at.result s)) (sym c.standing_of.ensures)

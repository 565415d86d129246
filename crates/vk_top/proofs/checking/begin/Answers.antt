use Rattle.std.proofs.Common.{List, ℕ, length, ap, arith, length-drop}
use Rattle.std.proofs.lemmas.Result.{IfOk-weaker}
use Rattle.v_trace.specs.Remaining.{Remaining}
use Rattle.v_trace.proofs.Pieces.{steps_few}
use Rattle.vk_top.proofs.Checked.{begun, some_begun}
use Rattle.vk_top.proofs.checking.begin.Goals as goal

pub check_left-requires : goal.check_left-requires
check_left-requires c =
    let left = ap (λ (r : Remaining). length r.steps) c.resume-reader.ensures in
    let rest = ap (λ (bytes : List ℕ). length bytes) c.behind.ensures in
    let few = steps_few c.in-Ok.head.config 0 c.behind.result.now in
    omega (arith, c.requires, left, rest, few, length-drop c.in-Ok.head.at c.args.piece.now)

pub returns : goal.returns
returns c =
    let head = c.in-Ok.ensures in
    let started = c.in-Ok-new.ensures in
    some_begun _ _ _ c.ok.ensures.value (IfOk-weaker c.check_left.result _ _
    (λ s checked front ends. begun c.args.piece.now front _ c.in-Ok.head.config c.in-Ok.head.at c.in-Ok-new.machine s _
    c.resume-reader.ensures c.behind.ensures c.if-piece-head.false head.head head.config started.0 started.1 checked ends)
    c.check_left.ensures.checked)

use Rattle.std.proofs.Common.{Some, sym, ap, ◌∙◌}
use Rattle.std.proofs.lemmas.Option.{same_Some}
use Rattle.vk_base.specs.Steps.{only_if, is_in_move}
use Rattle.v_machine.specs.Kept.{kernel_in}
use Rattle.v_machine.specs.Places.{count_at}
use Rattle.v_machine.specs.Tables.{process_of}
use Rattle.v_machine.proofs.StepLemmas.{found}
use Rattle.v_machine.proofs.steps.transfers.moving_at.Goals as goal

pub returns-then-not-is_in_move-clause-none : goal.returns-then-not-is_in_move-clause-none
returns-then-not-is_in_move-clause-none c =
    let s = c.args.store.now in
    let p = process_of c.proc.result.now (count_at s.sends.items c.in_ok-at.at) (count_at s.asked.items c.in_ok-at.at) in
    found ((kernel_in s).procs c.args.pid) p _ _ (c.proc.ensures c.args.pid c.in_ok-at.ensures.here.place)
    (ap (λ b. only_if b (Some (c.args.pid, p))) (sym
    (c.is_in_move.ensures (count_at s.sends.items c.in_ok-at.at) (count_at s.asked.items c.in_ok-at.at)) ∙ c.if-not-is_in_move.true))

pub returns-clause-there : goal.returns-clause-there
returns-clause-there c = λ p there.
    let s = c.args.store.now in
    let same = same_Some _ p (sym (c.proc.ensures c.args.pid c.in_ok-at.ensures.here.place) ∙ there) in
    ap (is_in_move c.args.name c.args.moving) (sym same)
    ∙ sym (c.is_in_move.ensures (count_at s.sends.items c.in_ok-at.at) (count_at s.asked.items c.in_ok-at.at))
    ∙ c.if-not-is_in_move.false

use Rattle.std.proofs.Common.{inr, refl, subst, sym}
use Rattle.vk_explain.specs.Explained.{IsOver}
use Rattle.vk_explain.specs.Top.{IsEarly, IsTold}
use Rattle.vk_explain.proofs.Answered.{answer_other, quiet_kinds, quiet_limit, said, said_kinds, said_late, told_other}
use Rattle.vk_explain.proofs.top.answer.Goals as goal

pub write_text-requires : goal.write_text-requires
write_text-requires g c = told_other c.args.asked c.args.text.now c.in-Ok.told.text.items c.in-Ok.told.status c.in-Ok.ensures.told

pub returns-in-Ok-clause-written : goal.returns-in-Ok-clause-written
returns-in-Ok-clause-written g c =
    said c.args.asked c.args.text.now _ _ _ _ _ (subst (λ b. IsTold c.args.asked c.args.text.now b c.in-Ok.told.status) (sym c.deref.ensures.value) c.in-Ok.ensures.told)
    c.write_text.ensures.written

pub returns-in-Ok-clause-kinds : goal.returns-in-Ok-clause-kinds
returns-in-Ok-clause-kinds g c =
    said_kinds c.args.asked c.args.text.now _ _ _ _ _ (subst (λ b. IsTold c.args.asked c.args.text.now b c.in-Ok.told.status) (sym c.deref.ensures.value) c.in-Ok.ensures.told)
    c.write_text.ensures.written

pub returns-in-Ok-clause-front : goal.returns-in-Ok-clause-front
returns-in-Ok-clause-front g c = λ fault. record {
  told = c.deref.result.now;
  status_is = c.in-Ok.told.status;
  is = subst (λ b. IsTold c.args.asked c.args.text.now b c.in-Ok.told.status) (sym c.deref.ensures.value) c.in-Ok.ensures.told;
  count = c.write_text.ensures.front.0;
  output = c.write_text.ensures.front.1;
}

pub returns-in-Ok-clause-flushed : goal.returns-in-Ok-clause-flushed
returns-in-Ok-clause-flushed g c = λ is. c.write_text.ensures.flushed (answer_other _ is)

pub returns-in-Err-clause-written : goal.returns-in-Err-clause-written
returns-in-Err-clause-written g c = λ is. absurd ((quiet_kinds c.in-Err.status (IsOver c.args.text.now) c.in-Err.ensures.refused).3 is)

pub returns-in-Err-clause-front : goal.returns-in-Err-clause-front
returns-in-Err-clause-front g c = λ is. absurd ((quiet_kinds c.in-Err.status (IsOver c.args.text.now) c.in-Err.ensures.refused).2 is)

pub returns-in-Err-clause-flushed : goal.returns-in-Err-clause-flushed
returns-in-Err-clause-flushed g c = λ is. absurd ((quiet_kinds c.in-Err.status (IsOver c.args.text.now) c.in-Err.ensures.refused).3 is)

pub returns-in-Err-clause-kinds : goal.returns-in-Err-clause-kinds
returns-in-Err-clause-kinds g c = let k = quiet_kinds c.in-Err.status (IsOver c.args.text.now) c.in-Err.ensures.refused in (k.0, k.1)

pub returns-in-Err-clause-count : goal.returns-in-Err-clause-count
returns-in-Err-clause-count g c = inr ((quiet_kinds c.in-Err.status (IsOver c.args.text.now) c.in-Err.ensures.refused).2, refl)

pub returns-in-Ok-clause-nothing : goal.returns-in-Ok-clause-nothing
returns-in-Ok-clause-nothing g c =
    λ early. absurd (said_late c.args.asked c.args.text.now _ _ _ _ _
    (subst (λ b. IsTold c.args.asked c.args.text.now b c.in-Ok.told.status) (sym c.deref.ensures.value) c.in-Ok.ensures.told)
    c.write_text.ensures.written early)

pub returns-in-Err-clause-nothing : goal.returns-in-Err-clause-nothing
returns-in-Err-clause-nothing g c = λ early. refl

pub returns-in-Ok-clause-limit : goal.returns-in-Ok-clause-limit
returns-in-Ok-clause-limit g c =
    λ is. absurd (said_late c.args.asked c.args.text.now _ _ _ _ _
    (subst (λ b. IsTold c.args.asked c.args.text.now b c.in-Ok.told.status) (sym c.deref.ensures.value) c.in-Ok.ensures.told)
    c.write_text.ensures.written (subst IsEarly (sym is) tt))

pub returns-in-Err-clause-limit : goal.returns-in-Err-clause-limit
returns-in-Err-clause-limit g c = λ is. quiet_limit c.in-Err.status (IsOver c.args.text.now) c.in-Err.ensures.refused is

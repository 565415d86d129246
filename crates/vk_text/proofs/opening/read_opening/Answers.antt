use Rattle.std.proofs.Common.{Ok, ap, inl, inr, refl, sym, subst, ◌∙◌}
use Rattle.vk_text.specs.Openings.{HasProcesses}
use Rattle.vk_text.proofs.OpeningReading.{no_line, not_opened, opened, plain_is, timed_is, untitled_is}
use Rattle.vk_text.proofs.opening.read_opening.Goals as goal

pub returns-in_default-clause-refused : goal.returns-in_default-clause-refused
returns-in_default-clause-refused c = inr (1, refl, no_line c.args.plain.now c.args.timed.now _ c.in_default.ensures.line)

pub returns-in-Ok-clause-opening : goal.returns-in-Ok-clause-opening
returns-in-Ok-clause-opening c =
    plain_is c.args.plain.now c.args.timed.now _ _ _ c.in-Some.ensures.line (sym c.eq.ensures ∙ c.if-eq.true) ∙ ap Ok c.in-Ok.ensures.opening

pub returns-in-Err-clause-refused : goal.returns-in-Err-clause-refused
returns-in-Err-clause-refused c =
    inl (
      refl,
      subst HasProcesses (sym (plain_is c.args.plain.now c.args.timed.now _ _ _ c.in-Some.ensures.line (sym c.eq.ensures ∙ c.if-eq.true)))
          c.in-Err.ensures.memory,
    )

pub returns-then-eq-2-clause-opening : goal.returns-then-eq-2-clause-opening
returns-then-eq-2-clause-opening c =
    opened _ _
    (timed_is c.args.plain.now c.args.timed.now _ _ _ c.in-Some.ensures.line (sym c.eq.ensures ∙ c.if-eq.false)
    (sym c.eq-else-eq.ensures ∙ c.if-eq-2.true))
    c.args.text.now c.read_timed.result c.read_timed.ensures.opening

pub returns-then-eq-2-clause-refused : goal.returns-then-eq-2-clause-refused
returns-then-eq-2-clause-refused c =
    not_opened _ _
    (timed_is c.args.plain.now c.args.timed.now _ _ _ c.in-Some.ensures.line (sym c.eq.ensures ∙ c.if-eq.false)
    (sym c.eq-else-eq.ensures ∙ c.if-eq-2.true))
    c.args.text.now c.read_timed.result c.read_timed.ensures.refused

pub returns-else-eq-2-clause-refused : goal.returns-else-eq-2-clause-refused
returns-else-eq-2-clause-refused c =
    inr (
      1,
      refl,
      untitled_is c.args.plain.now c.args.timed.now _ _ _ c.in-Some.ensures.line (sym c.eq.ensures ∙ c.if-eq.false)
          (sym c.eq-else-eq.ensures ∙ c.if-eq-2.false),
    )

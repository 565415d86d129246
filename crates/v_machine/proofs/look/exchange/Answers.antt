use Rattle.std.proofs.Common.{◌≡◌, true, false, option_copied, sym, ap, ◌∙◌}
use Rattle.v_machine.specs.Kept.{kernel_in}
use Rattle.v_machine.specs.Tables.{exchanges_by}
use Rattle.v_machine.proofs.Looking.{nothing_now, there_now}
use Rattle.v_machine.proofs.look.exchange.Goals as goal

pub returns-in_default : goal.returns-in_default
returns-in_default c =
    let s = c.args.store.now in
    let same : exchanges_by s.places c.deref.result.now c.args.name ≡ exchanges_by s.places s.sends.items c.args.name =
    ap (λ l. exchanges_by s.places l c.args.name) c.deref.ensures.value in
    nothing_now (kernel_in s) c.args.name (sym same ∙ c.named.ensures ∙ ap option_copied c.in_default.is)

pub returns-then-is_over : goal.returns-then-is_over
returns-then-is_over c =
    let s = c.args.store.now in
    let same : exchanges_by s.places c.deref.result.now c.args.name ≡ exchanges_by s.places s.sends.items c.args.name =
    ap (λ l. exchanges_by s.places l c.args.name) c.deref.ensures.value in
    there_now (kernel_in s) c.args.name c.in-Some.sent.now true (sym same ∙ c.named.ensures ∙ ap option_copied c.in-Some.is)
    (sym c.is_over.ensures ∙ c.if-is_over.true)

pub returns : goal.returns
returns c =
    let s = c.args.store.now in
    let same : exchanges_by s.places c.deref.result.now c.args.name ≡ exchanges_by s.places s.sends.items c.args.name =
    ap (λ l. exchanges_by s.places l c.args.name) c.deref.ensures.value in
    there_now (kernel_in s) c.args.name c.in-Some.sent.now false (sym same ∙ c.named.ensures ∙ ap option_copied c.in-Some.is)
    (sym c.is_over.ensures ∙ c.if-is_over.false)

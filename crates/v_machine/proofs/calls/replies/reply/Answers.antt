use Rattle.std.proofs.Common.{◌≡◌, ℕ, [], ◌∷◌, Option, Some, is_none, sym, ap, ◌∙◌, lit≤}
use Rattle.vk_base.specs.declared.answer.Refusal.TheVariants as refusals
use Rattle.vk_base.specs.declared.call.Call.TheVariants as calls
use Rattle.vk_base.specs.Calls.{called, first_that_holds}
use Rattle.vk_base.specs.Kernel.{held}
use Rattle.v_laws.proofs.Held.{holding_is}
use Rattle.v_machine.specs.Kept.{kernel_in}
use Rattle.v_machine.proofs.StepLemmas.{reply_allowed, replied_is_nearer}
use Rattle.v_machine.proofs.Live.{live_held}
use Rattle.v_machine.proofs.calls.replies.reply.Goals as goal

pub returns : goal.returns
returns c = λ p there ready.
    let k = kernel_in c.args.store.now in
    let here = c.in-Some.ensures.here in
    let holds : held k c.args.pid c.args.to ≡ Some c.in-Some.holding.number = sym c.in-Some.ensures.number in
    let x = holding_is k c.args.pid c.args.to c.in-Some.holding.number holds in (
      record {
        effect =
            ap (λ (o : Option ℕ). called k c.args.pid p (calls.Reply c.args.message c.args.to)
            (first_that_holds ((is_none o, refusals.NotAwaiting) ∷ []))) holds
            ∙ reply_allowed k _ c.args.pid c.args.to (calls.Reply c.args.message c.args.to) c.args.message 0 c.in-Some.holding.number []
            x.exchange holds x.is
            (c.put_answer.ensures.kernel c.args.to x.exchange here.place x.is);
        indexed =
            c.put_answer.ensures.indexed c.args.to x.exchange here.place x.is (replied_is_nearer x.exchange.stage _ _ _) c.requires.indexed;
      },
      lit≤ tt,
    )

pub put_answer-requires-clause-live : goal.put_answer-requires-clause-live
put_answer-requires-clause-live c = live_held c.args.store.now c.args.pid c.args.to c.in-Some.holding.number c.in-Some.holding.at
    (sym c.in-Some.ensures.number) c.in-Some.ensures.here.place

use Rattle.std.proofs.Common.{append-nil, append_assoc, ◌≡◌, ◌∙◌, ◌++◌, ◌∷◌, [], ap, arith, Bool, true, false, subst, sym}
use Rattle.vk_threads.specs.Gathered.{AreReady, AreShut, HasShut}
use Rattle.vk_threads.proofs.Sitting.{empty, shut_more}
use Rattle.vk_threads.proofs.gather.close_all.Goals as goal

unlike : {b : Bool} → b ≡ true → b ≡ false → ⊥
unlike one two = cc (one, two)

pub loop-site-preserved-then-all_still : goal.loop-site-preserved-then-all_still
loop-site-preserved-then-all_still c =
    let was = c.loop-site.invariant in
    let steps = c.in-Some.ensures.steps in
    let s = c.in-Some.site in
    let left = c.loop-site.left.items in
    let log = c.shut-log.result.0 in
    record {
      ready = subst (AreReady c.next.new.self.rest.items) (sym c.in_ok-own.ensures.others) (subst (λ l. AreReady l left) steps.0 was.ready).2;
      shut = λ still ls so rest.
          let shut = AreShut c.args.specs.now c.args.rounds still in
          let one = subst (λ l. HasShut c.args.specs.now c.args.rounds still s l log) c.in_ok-own.ensures.own
          (shut_more c.args.specs.now c.args.rounds c.shut-log.result.1 still s c.in_ok-own.own.items log so c.shut-log.ensures) in
          let others = subst (λ l. shut c.next.new.self.rest.items l ls) c.in_ok-own.ensures.others rest in
          let all = was.shut still (log ∷ ls) (λ is. c.if-all_still.true) (subst (λ l. shut l left (log ∷ ls)) (sym steps.0) (one, others)) in
          subst (shut c.args.sites.items c.args.seats.items)
          (sym (ap (λ l. l ++ ls) c.in_ok-push.ensures.items ∙ append_assoc c.loop-site.logs.items (log ∷ []) ls)) all;
    }

pub loop-site-preserved : goal.loop-site-preserved
loop-site-preserved c =
    let was = c.loop-site.invariant in
    let steps = c.in-Some.ensures.steps in
    let s = c.in-Some.site in
    let left = c.loop-site.left.items in
    let log = c.shut-log.result.0 in
    record {
      ready = subst (AreReady c.next.new.self.rest.items) (sym c.in_ok-own.ensures.others) (subst (λ l. AreReady l left) steps.0 was.ready).2;
      shut = λ still ls so rest.
          let shut = AreShut c.args.specs.now c.args.rounds still in
          let one = subst (λ l. HasShut c.args.specs.now c.args.rounds still s l log) c.in_ok-own.ensures.own
          (shut_more c.args.specs.now c.args.rounds c.shut-log.result.1 still s c.in_ok-own.own.items log
          (λ is. absurd (unlike (so is) c.if-all_still.false)) c.shut-log.ensures) in
          let others = subst (λ l. shut c.next.new.self.rest.items l ls) c.in_ok-own.ensures.others rest in
          let all = was.shut still (log ∷ ls) so (subst (λ l. shut l left (log ∷ ls)) (sym steps.0) (one, others)) in
          subst (shut c.args.sites.items c.args.seats.items)
          (sym (ap (λ l. l ++ ls) c.in_ok-push.ensures.items ∙ append_assoc c.loop-site.logs.items (log ∷ []) ls)) all;
    }

pub returns : goal.returns
returns c =
    let done : c.loop-site.site-iterator.rest.items ≡ [] = empty c.loop-site.site-iterator.rest.items (omega (arith, c.in-None.ensures.steps, c.loop-site.site-iterator.rest.ok)) in
    let still = c.loop-site.all_still in
    let shut = AreShut c.args.specs.now c.args.rounds still in
    subst (shut c.args.sites.items c.args.seats.items) (append-nil c.loop-site.logs.items)
    (c.loop-site.invariant.shut still [] (λ is. is) (subst (λ l. shut l c.loop-site.left.items []) (sym done) tt))

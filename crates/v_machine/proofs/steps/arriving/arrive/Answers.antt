use Rattle.std.proofs.Common.{refl, sym, ap, subst, ◌∙◌}
use Rattle.vk_base.specs.Kernel.{Kernel, name_of, is_live}
use Rattle.vk_base.specs.Steps.{arrive_step}
use Rattle.v_machine.specs.Kept.{kernel_in}
use Rattle.v_machine.specs.Rules.{Answers, IsPostedTo, quiet}
use Rattle.v_machine.specs.Tables.{kernel_of}
use Rattle.v_machine.proofs.Arrive.{posted_to_is}
use Rattle.v_machine.proofs.SendLemmas.{kept_stays, at_stays, answers_on}
use Rattle.v_machine.proofs.steps.arriving.arrive.Goals as goal

pub come-requires-clause-kept : goal.come-requires-clause-kept
come-requires-clause-kept c = kept_stays c.args.store.now c.make_room.new.store c.make_room.ensures.stays c.requires

pub come-requires-clause-here : goal.come-requires-clause-here
come-requires-clause-here c =
    at_stays c.args.store.now c.make_room.new.store c.args.sender c.in-Some.at c.make_room.ensures.stays c.in-Some.ensures.here

pub come-requires-clause-there : goal.come-requires-clause-there
come-requires-clause-there c = at_stays c.args.store.now c.make_room.new.store c.in-Some-posted_target.target c.in-Some-find_live.to
    c.make_room.ensures.stays c.in-Some-find_live.ensures.here

pub come-requires-clause-live : goal.come-requires-clause-live
come-requires-clause-live c = ap (λ (k : Kernel). is_live (k.procs c.in-Some-posted_target.target))
    (ap kernel_of (c.make_room.ensures.stays.tables 0)) ∙ sym c.in-Some-find_live.ensures.live

pub come-requires-clause-posted : goal.come-requires-clause-posted
come-requires-clause-posted c =
    let k = kernel_in c.args.store.now in
    let same = ap kernel_of (c.make_room.ensures.stays.tables 0) in
    subst (λ z. IsPostedTo z (name_of c.args.sender c.args.number) c.in-Some-posted_target.target) (sym same)
    (posted_to_is k (name_of c.args.sender c.args.number) c.in-Some-posted_target.target (k.exchanges (name_of c.args.sender c.args.number))
    refl
    (c.in-Some-posted_target.ensures c.args.sender c.in-Some.ensures.here.place))

pub returns : goal.returns
returns c =
    let same = ap kernel_of (c.make_room.ensures.stays.tables 0) in
    answers_on (arrive_step (kernel_in c.args.store.now) (name_of c.args.sender c.args.number)) 0 0 c.args.store.now c.make_room.new.store
    c.come.new.store (quiet c.come.result) c.make_room.ensures.stays
    (subst (λ z. Answers (arrive_step z (name_of c.args.sender c.args.number)) 0 0 c.make_room.new.store c.come.new.store
    (quiet c.come.result)) same c.come.ensures)

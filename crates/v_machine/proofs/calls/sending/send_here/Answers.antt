use Rattle.std.proofs.Common.{sym, ap, ◌∙◌}
use Rattle.vk_base.specs.Kernel.{Kernel, is_live}
use Rattle.v_machine.specs.Tables.{kernel_of}
use Rattle.v_machine.proofs.SendLemmas.{kept_stays, at_stays, judges_on}
use Rattle.v_machine.proofs.calls.sending.send_here.Goals as goal

pub send_with_room-requires-clause-kept : goal.send_with_room-requires-clause-kept
send_with_room-requires-clause-kept c = kept_stays c.args.store.now c.make_room.new.store c.make_room.ensures.stays c.requires.kept

pub send_with_room-requires-clause-here : goal.send_with_room-requires-clause-here
send_with_room-requires-clause-here c =
    at_stays c.args.store.now c.make_room.new.store c.args.caller.pid c.args.caller.at c.make_room.ensures.stays c.requires.here

pub send_with_room-requires-clause-there : goal.send_with_room-requires-clause-there
send_with_room-requires-clause-there c =
    at_stays c.args.store.now c.make_room.new.store c.args.target c.in-Some.to c.make_room.ensures.stays c.in-Some.ensures.here

pub send_with_room-requires-clause-live : goal.send_with_room-requires-clause-live
send_with_room-requires-clause-live c =
    ap (λ (k : Kernel). is_live (k.procs c.args.target)) (ap kernel_of (c.make_room.ensures.stays.tables 0)) ∙ sym c.in-Some.ensures.live

pub returns : goal.returns
returns c = λ fits. judges_on c.args.caller.pid _ c.args.store.now c.make_room.new.store c.send_with_room.new.store c.send_with_room.result
    c.make_room.ensures.stays
    (c.send_with_room.ensures
    (λ p there. fits p (ap (λ (k : Kernel). k.procs c.args.caller.pid) (sym (ap kernel_of (c.make_room.ensures.stays.tables 0))) ∙ there)))

use Rattle.std.proofs.Common.{ap, sym, ◌∙◌}
use Rattle.vk_packet.specs.declared.packet.PacketView.{PacketView}
use Rattle.vk_packet.specs.Views.{value_of}
use Rattle.vk_move.specs.declared.moves.Subject.{Subject}
use Rattle.vk_move.specs.Sender.{data_taken, request_taken}
use Rattle.vk_move.specs.Taken.{mover_taken, packet_taken}
use Rattle.vk_move.proofs.Taking.{is_taken, to_mover}
use Rattle.vk_move.proofs.take.take_packet.Goals as goal

pub returns-in-MoveData : goal.returns-in-MoveData
returns-in-MoveData c =
    let x = c.in-MoveData in
    is_taken c.args.times.now c.args.now (value_of c.args.packet.now) c.args.procs.now c.take_data.new.procs c.args.steps.now
    c.take_data.new.steps c.args.out.now c.take_data.new.out c.requires.fit c.requires.lawful
    (data_taken c.subject_by-subject.result x.dest x.total x.offset x.bytes.now c.args.procs.now)
    (ap (λ (m : Subject). data_taken m x.dest x.total x.offset x.bytes.now c.args.procs.now) c.subject_by-subject.ensures
    ∙ sym (ap (λ (v : PacketView). packet_taken c.args.times.now c.args.now (value_of v) c.args.procs.now) x.is))
    c.take_data.ensures.seats c.take_data.ensures.steps c.take_data.ensures.packets

pub returns-in-MoveRequest : goal.returns-in-MoveRequest
returns-in-MoveRequest c =
    let x = c.in-MoveRequest in
    is_taken c.args.times.now c.args.now (value_of c.args.packet.now) c.args.procs.now c.take_request.new.procs c.args.steps.now
    c.take_request.new.steps c.args.out.now c.take_request.new.out c.requires.fit c.requires.lawful
    (request_taken c.subject_by-subject-in-MoveRequest.result x.src x.total x.offset c.args.procs.now)
    (ap (λ (m : Subject). request_taken m x.src x.total x.offset c.args.procs.now) c.subject_by-subject-in-MoveRequest.ensures
    ∙ sym (ap (λ (v : PacketView). packet_taken c.args.times.now c.args.now (value_of v) c.args.procs.now) x.is))
    c.take_request.ensures.seats c.take_request.ensures.steps c.take_request.ensures.packets

pub returns-in_default : goal.returns-in_default
returns-in_default c =
    is_taken c.args.times.now c.args.now (value_of c.args.packet.now) c.args.procs.now c.take_to_mover.new.procs c.args.steps.now
    c.take_to_mover.new.steps c.args.out.now c.take_to_mover.new.out c.requires.fit c.requires.lawful
    (mover_taken c.args.times.now c.args.now (value_of c.args.packet.now) c.args.procs.now)
    (to_mover c.args.times.now c.args.now c.args.packet.now c.args.procs.now c.in_default.not-MoveData c.in_default.not-MoveRequest)
    c.take_to_mover.ensures.seats c.take_to_mover.ensures.steps c.take_to_mover.ensures.packets

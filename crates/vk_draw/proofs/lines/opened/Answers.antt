use Rattle.std.proofs.Common.{◌≡◌, Some, option_map, sym, ap, ◌∙◌}
use Rattle.std.proofs.lemmas.Option.{none-some, same_Some}
use Rattle.vk_packet.specs.Reading.{packet_of}
use Rattle.vk_packet.specs.Views.{value_of}
use Rattle.vk_draw.proofs.Opened.{header_is, opens}
use Rattle.vk_draw.proofs.lines.opened.Goals as goal

pub unreachable-requires : goal.unreachable-requires
unreachable-requires c =
    let f = c.requires.0 in
    let lawful = c.requires.1 in
    let same = header_is f c.args.bytes.now c.in-Some.rest.now c.in-Some.header lawful c.requires.2 c.in-Some.ensures.exact in
    let read : packet_of c.in-Some.rest.now ≡ Some f.packet =
    ap packet_of same.1 ∙ c.packets_are_spelled_once.ensures.written f.packet lawful.packet.packet lawful.packet.lawful in
    none-some f.packet (sym (ap (option_map value_of) c.in-None-decode.is) ∙ c.decode.ensures.packet ∙ read)

pub unreachable-requires-in-None : goal.unreachable-requires-in-None
unreachable-requires-in-None c =
    none-some _ (sym c.in-None.ensures.exact ∙ opens c.requires.0 c.args.bytes.now c.requires.1 c.requires.2)

pub returns : goal.returns
returns c = λ f lawful is.
    let same = header_is f c.args.bytes.now c.in-Some.rest.now c.in-Some.header lawful is c.in-Some.ensures.exact in
    let read : packet_of c.in-Some.rest.now ≡ Some f.packet =
    ap packet_of same.1 ∙ c.packets_are_spelled_once.ensures.written f.packet lawful.packet.packet lawful.packet.lawful in
    let found : Some (value_of c.in-Some-decode.packet) ≡ Some f.packet =
    sym (ap (option_map value_of) c.in-Some-decode.is) ∙ c.decode.ensures.packet ∙ read in
    (same.0, same_Some (value_of c.in-Some-decode.packet) f.packet found)

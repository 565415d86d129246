use Rattle.std.proofs.Common.{◌≡◌, ◌+◌, ap, sym, ◌∙◌, option_map, Some, slice_index}
use Rattle.std.proofs.lemmas.Option.{slice_get-map}
use Rattle.vk_cluster.proofs.Shown.{told}
use Rattle.vk_draw.specs.Rows.{frame_mark}
use Rattle.vk_draw.proofs.frames.frame_mark.Goals as goal

pub kind_of-requires : goal.kind_of-requires
kind_of-requires c =
    let one = told c.args.station.now c.requires.sends.0 c.args.at c.packet.result.0 c.packet.result.1.now c.requires.sends.1
    c.requires.at c.packet.ensures.opens in
    (one.frame.packet, ap (λ l. slice_index l 0) one.packet_is)

pub returns : goal.returns
returns c = λ fs sends.
    let one = told c.args.station.now fs c.args.at c.packet.result.0 c.packet.result.1.now sends c.requires.at c.packet.ensures.opens in
    let kind = c.kind_of.ensures one.frame.packet (ap (λ l. slice_index l 0) one.packet_is) in
    let is : frame_mark one.frame ≡ record { kind = c.kind_of.result; output = c.args.at + 1 } =
    (λ i. record { kind = sym kind i; output = sym one.output i }) in
    slice_get-map frame_mark fs c.args.at ∙ ap (option_map frame_mark) one.found ∙ ap Some is

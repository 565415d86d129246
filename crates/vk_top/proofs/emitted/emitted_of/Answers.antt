use Rattle.std.proofs.Common.{◌≡◌, ◌≤◌, sym, ap, subst, ◌∙◌, length, option_map, Some, slice_index, arith}
use Rattle.std.proofs.lemmas.Option.{same_Some, slice_get-map}
use Rattle.vk_base.specs.declared.limits.TheConstants.{FRAME_BYTES}
use Rattle.vk_host.specs.Sealed.{sealed}
use Rattle.vk_rules.proofs.Lengths.{frames_fit}
use Rattle.vk_cluster.proofs.Shown.{sent, told}
use Rattle.vk_top.specs.Report.{emitted_of}
use Rattle.vk_top.proofs.emitted.emitted_of.Goals as goal

pub kind_of-requires : goal.kind_of-requires
kind_of-requires c =
    let one = told c.args.station.now c.requires.sends.0 c.args.at c.packet-destination.result.0 c.packet-destination.result.1.now
    c.requires.sends.1 c.requires.at c.packet-destination.ensures.opens in
    (one.frame.packet, ap (λ l. slice_index l 0) one.packet_is)

pub overflow_cast-result : goal.overflow_cast-result
overflow_cast-result c =
    let at = sent c.args.station.now c.requires.sends.0 c.args.at c.frame.result.now c.requires.sends.1 c.frame.ensures in
    let few : length c.frame.result.now ≤ FRAME_BYTES =
    subst (λ b. length b ≤ FRAME_BYTES) (sym at.bytes_are)
    (frames_fit at.frame.header at.frame.packet at.lawful.packet.packet at.lawful.packet.lawful) in
    omega (arith, few)

pub returns : goal.returns
returns c = λ fs sends.
    let bytes = c.frame.result.now in
    let one = told c.args.station.now fs c.args.at c.packet-destination.result.0 c.packet-destination.result.1.now sends c.requires.at
    c.packet-destination.ensures.opens in
    let at = sent c.args.station.now fs c.args.at bytes sends c.frame.ensures in
    let same : at.frame ≡ one.frame = same_Some at.frame one.frame (sym at.found ∙ one.found) in
    let size : length bytes ≡ length (sealed one.frame) = ap length (at.bytes_are ∙ ap sealed same) in
    let kind = c.kind_of.ensures one.frame.packet (ap (λ l. slice_index l 0) one.packet_is) in
    let is : emitted_of one.frame ≡ record { destination = c.packet-destination.result.0; kind = c.kind_of.result; length = length bytes } =
    (λ i. record { destination = sym one.destination i; kind = sym kind i; length = sym size i }) in
    slice_get-map emitted_of fs c.args.at ∙ ap (option_map emitted_of) one.found ∙ ap Some is

use Rattle.std.proofs.Common.{◌≡◌, ◌+◌, sym, ap, ◌∙◌, option_map, Some, arith}
use Rattle.std.proofs.lemmas.Option.{slice_get-map}
use Rattle.vk_rules.specs.Frames.{Frame}
use Rattle.vk_cluster.proofs.Shown.{told}
use Rattle.vk_drive.proofs.Kept.{header_at}
use Rattle.vk_drive.proofs.recent.header_of.Goals as goal

pub returns : goal.returns
returns c fs shows =
    let s = c.args.station.now in
    let at = c.args.at in
    let to = c.packet-destination.result.0 in
    let one = told s fs at to c.packet-destination.result.1.now shows.sends c.requires.at c.packet-destination.ensures.opens in
    let is : one.frame.header ≡ record {
      source = c.host.result;
      destination = to;
      stamp = c.now.result;
      number = c.number.result;
      event = c.events.result;
      output = at + 1;
    } =
    header_at s.host s.now s.number s.events 1 (at + 1) fs at one.frame shows.have one.found (omega arith)
    ∙ (λ i. record {
      source = sym c.host.ensures i;
      destination = sym one.destination i;
      stamp = sym c.now.ensures i;
      number = sym c.number.ensures i;
      event = sym c.events.ensures i;
      output = at + 1;
    }) in
    slice_get-map (λ (f : Frame). f.header) fs at ∙ ap (option_map (λ (f : Frame). f.header)) one.found ∙ ap Some is

use Rattle.std.proofs.Common.{◌<◌, ◌∙◌, ap, length, subst, sym}
use Rattle.std.specs.Prelude.{slice_get}
use Rattle.vk_host.specs.Values.{StationValue}
use Rattle.vk_host.proofs.Sealing.{fewer_frames}
use Rattle.vk_host.proofs.host.Host.packet.Goals as goal

pub packet-requires : goal.packet-requires
packet-requires c =
    let o = c.self.inside.desk.out in
    fewer_frames o.fronts o.posts c.args.at (subst (λ (s : StationValue). c.args.at < length s.frames) (sym c.self.view_is) c.requires)

pub returns-clause-opens : goal.returns-clause-opens
returns-clause-opens c = λ bytes found.
    c.self.invariant.2.opens c.args.at c.packet.result.0 c.packet.result.1.now bytes c.packet.ensures.post
    (ap (λ (s : StationValue). slice_get s.frames c.args.at) c.self.view_is ∙ found)

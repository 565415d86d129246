use Rattle.std.proofs.Common.{◌<◌, length, refl, arith}
use Rattle.std.proofs.lemmas.Option.{slice_get_read}
use Rattle.vk_packet.proofs.Placing.{framed_at, framed_count}
use Rattle.vk_packet.proofs.outbox.Outbox.framed.Goals as goal

pub index-requires : goal.index-requires
index-requires c =
    let s = c.self.inside in
    omega (arith, c.requires, framed_count s.room s.slots.items s.used c.args.self.now c.self.invariant.0 c.self.view_is, s.slots.ok.0, c.self.invariant.0)

pub returns : goal.returns
returns c =
    let s = c.self.inside in
    let low : c.args.at < s.used =
    omega (arith, c.requires, framed_count s.room s.slots.items s.used c.args.self.now c.self.invariant.0 c.self.view_is) in
    let within : c.args.at < length s.slots.items = omega (arith, c.self.invariant.0) in
    framed_at s.room s.slots.items s.used c.args.at c.index.result.now c.framed.result.now c.args.self.now
    (slice_get_read s.slots.items (length s.slots.items) c.args.at c.index.result.now refl within c.index.ensures) low c.framed.ensures c.self.view_is

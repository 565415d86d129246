use Rattle.std.proofs.Common.{◌∷◌, ◌++◌, refl}
use Rattle.byteorder.specs.Endian.{big_bytes}
use Rattle.vk_wire.specs.Fields.{pid_bytes}
use Rattle.vk_packet.proofs.Appended.{appended}
use Rattle.vk_packet.specs.Spelling.{exchange_bytes}
use Rattle.vk_packet.proofs.writing.put_exchange.Goals as goal

pub returns-clause-bytes : goal.returns-clause-bytes
unfolding exchange_bytes
returns-clause-bytes c =
    let pids = appended c.args.into.now (c.args.kind ∷ pid_bytes c.args.of.from) _ (c.args.kind ∷ pid_bytes c.args.of.from)
    (pid_bytes c.args.of.to) _ _ c.put_kind.ensures.bytes c.put.ensures refl c.bytes_of_pid.ensures in
    appended c.args.into.now _ _ (c.args.kind ∷ pid_bytes c.args.of.from ++ pid_bytes c.args.of.to) (big_bytes 8 c.args.of.number) _ _ pids
    c.put-2.ensures refl c.bytes_of_u64.ensures

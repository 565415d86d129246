use Rattle.std.proofs.Common.{◌∷◌, ◌++◌, refl}
use Rattle.byteorder.specs.Endian.{big_bytes}
use Rattle.vk_wire.specs.Fields.{pid_bytes}
use Rattle.vk_packet.proofs.Appended.{appended}
use Rattle.vk_packet.proofs.writing.put_ask_pid.Goals as goal

pub returns-clause-bytes : goal.returns-clause-bytes
returns-clause-bytes c =
    let lookup = appended c.args.into.now (10 ∷ pid_bytes c.args.asker) _ (10 ∷ pid_bytes c.args.asker) (big_bytes 8 c.args.lookup) _
    _ c.put_kind.ensures.bytes c.put.ensures refl c.bytes_of_u64.ensures in
    appended c.args.into.now _ _ (10 ∷ pid_bytes c.args.asker ++ big_bytes 8 c.args.lookup) (big_bytes 4 c.args.logical) _ _ lookup
    c.put-2.ensures refl c.bytes_of_u32.ensures

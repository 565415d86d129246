use Rattle.std.proofs.Common.{◌≡◌, ◌+◌, ◌≤◌, ap, ◌∙◌, arith, length, length-take, drop}
use Rattle.vk_base.specs.Ranges.{with_bytes, bytes_in}
use Rattle.v_machine.proofs.Stores.{no_error}
use Rattle.v_machine.proofs.tables.moving.copy_part.Goals as goal

pub returns : goal.returns
returns c = λ fits.
    let m = c.args.opened.now in
    let bytes : c.part_of-bytes.result.now ≡ bytes_in c.args.part m.bytes = c.part_of-bytes.ensures
    ∙ ap (bytes_in c.args.part) c.as_slice.ensures in
    let short : length c.part_of-bytes.result.now ≤ c.args.part.len =
    (let taken = length-take c.args.part.len (drop c.args.part.start m.bytes) in let same = ap length bytes in
    omega (arith, taken, same)) in
    (no_error c.write-fits.result _ _ c.write-fits.ensures.ok c.write-fits.ensures.err
    (λ bad. let far = bad.0 in omega (arith, far, short, fits))).1
    ∙ ap (with_bytes c.args.memory.now (m.dest + c.args.part.start)) bytes

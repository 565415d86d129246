use Rattle.std.proofs.Common.{◌≡◌, ◌+◌, ◌≤◌, true, length, drop, sym, ap, ◌∙◌, arith, length-take}
use Rattle.std.proofs.lemmas.Bool.{le-leb, OnTrue_at}
use Rattle.vk_base.specs.Kernel.{with_memory}
use Rattle.vk_base.specs.Ranges.{with_bytes, bytes_in}
use Rattle.v_machine.specs.Kept.{kernel_in}
use Rattle.v_machine.proofs.calls.moves.copy_now.Goals as goal

pub returns-clause-ok : goal.returns-clause-ok
returns-clause-ok c = λ one two p q from to at_one at_two lies fits.
    let source = c.args.source in
    let bytes : c.as_slice.result.now ≡ bytes_in source p.memory = c.as_slice.ensures ∙ c.in_ok-bytes.ensures one p from at_one lies in
    let short : length c.as_slice.result.now ≤ source.len =
    (let taken = length-take source.len (drop source.start p.memory) in let same = ap length bytes in omega (arith, taken, same)) in
    let done : c.put_bytes-fits.result ≡ true = sym (c.put_bytes-fits.ensures.fits two q to at_two)
    ∙ le-leb (c.args.dest + length c.as_slice.result.now) (length q.memory) (omega (arith, short, fits)) in
    OnTrue_at done c.put_bytes-fits.ensures.kernel two q to at_two
    ∙ ap (λ b. with_memory (kernel_in c.args.store.now) two q (with_bytes q.memory c.args.dest b)) bytes

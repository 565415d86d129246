use Rattle.std.proofs.Common.{◌≡◌, ◌+◌, ◌≤◌, length, Some, refl, sym, ap, ◌∙◌, arith}
use Rattle.vk_base.specs.Kernel.{Kernel, move_of, with_memory}
use Rattle.vk_base.specs.Ranges.{with_bytes, bytes_in}
use Rattle.vk_base.specs.Steps.{copied}
use Rattle.v_machine.specs.Kept.{kernel_in}
use Rattle.v_machine.specs.Moves.{into_of, with_exchange}
use Rattle.v_machine.specs.Sends.{with_written}
use Rattle.v_machine.specs.Places.{place_in}
use Rattle.v_machine.proofs.Fits.{written_room}
use Rattle.v_machine.proofs.MoveSteps.{copy_allowed, next_is, written_is}
use Rattle.v_machine.proofs.steps.transfers.copy.Goals as goal

pub returns : goal.returns
unfolding copied
returns c =
    let s = c.args.store.now in
    let k = kernel_in s in
    let name = c.args.name in
    let part = c.args.part in
    let place = c.in_ok-from.ensures.here.place in
    let e = c.in_ok-sent.sent.now in
    let m = c.in_ok-opened.opened.now in
    let w = c.in_ok-to.ensures.there in
    let who = into_of name.sender m.direction m.mover in
    let at : k.exchanges name ≡ Some e = c.in_ok-sent.ensures name.sender place in
    let opened : move_of e c.args.moving ≡ Some m = sym c.in_ok-opened.ensures in
    let next = c.in_ok-done.ensures.next m refl in
    let parts = next_is e c.args.moving m part.start part.len next in
    let fits = written_room c.requires.size k name w.process e c.args.moving m c.requires.sized w.there at opened in
    let low = parts.1 in
    let room : m.dest + (part.start + part.len) ≤ length w.process.memory = omega (arith, fits, low) in
    let first = c.write_part.ensures.kernel name.sender who w.process e m place w.here.place w.there at opened room in
    let second = c.put_done.ensures name.sender e (ap (λ ps. place_in ps name.sender) c.write_part.ensures.places ∙ place)
    (ap (λ (x : Kernel). x.exchanges name) first ∙ at) in
    let done : c.in_ok-done.done ≡ e.done + part.len = c.in_ok-done.ensures.done ∙ ap (λ n. n + part.len) (sym parts.0) in
    let between = with_memory k who w.process (with_bytes w.process.memory (m.dest + part.start) (bytes_in part m.bytes)) in
    record {
      effect = copy_allowed k _ name c.args.moving part.start part.len e m who w.process at opened next w.is
          (second.0 ∙ ap (λ x. with_exchange x name (with_written c.in_ok-done.done e)) first
          ∙ ap (λ d. with_exchange between name (with_written d e)) done
          ∙ ap (with_exchange between name) (written_is c.args.moving (e.done + part.len) e m opened));
      indexed = second.1 (c.write_part.ensures.indexed c.requires.indexed);
    }

use Rattle.std.proofs.Common.{◌+◌, length, ap, ◌∙◌}
use Rattle.vk_types.specs.Types.{Name}
use Rattle.vk_base.specs.Calls.{move_begun}
use Rattle.vk_base.specs.Kernel.{Kernel, name_of}
use Rattle.vk_base.specs.Activities.{call_of}
use Rattle.v_machine.specs.Kept.{kernel_in}
use Rattle.v_machine.specs.Moves.{with_exchange, with_moving}
use Rattle.v_machine.specs.Sends.{with_begun}
use Rattle.v_machine.specs.Places.{place_in}
use Rattle.v_machine.proofs.calls.moves.begin.Goals as goal

pub returns-clause-ok : goal.returns-clause-ok
unfolding move_begun
returns-clause-ok c = λ p e there at.
    let k = kernel_in c.args.store.now in
    let pid = c.args.begun.mover in
    let name : Name = name_of c.args.partner c.args.holding.number in
    let call = call_of c.waiting_for-waiting.result in
    let put = c.in_ok-push_move.ensures.ok c.args.partner e c.requires.there.place at in
    let number = c.next_move-number.ensures c.args.partner e c.requires.there.place at in
    let blocked = c.put_moving.ensures.kernel pid p (ap (λ ps. place_in ps pid) c.push_move.ensures.places ∙ c.requires.here.place)
    (ap (λ (x : Kernel). x.procs pid) put.0 ∙ there) in (
      blocked
          ∙ ap (λ x. with_moving x pid p call (record { exchange = name; number = c.next_move-number.result })) put.0
          ∙ ap (λ n. with_moving (with_exchange k name (with_begun c.args.begun e)) pid p call (record { exchange = name; number = n }))
          number
          ∙ ap (λ z. with_moving (with_exchange k name (with_begun c.args.begun e)) pid p z
          (record { exchange = name; number = length e.moves + 1 })) c.waiting_for-waiting.ensures,
      c.put_moving.ensures.indexed (put.1 c.requires.indexed),
    )

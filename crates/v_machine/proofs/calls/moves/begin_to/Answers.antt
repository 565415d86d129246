use Rattle.std.proofs.Common.{◌≡◌, refl, ap, subst, ◌∙◌, arith}
use Rattle.vk_types.specs.Types.{Move}
use Rattle.vk_base.specs.declared.kernel.Direction.TheVariants as directions
use Rattle.vk_base.specs.Calls.{new_move}
use Rattle.vk_base.specs.Ranges.{range_of, bytes_in}
use Rattle.v_machine.specs.Moves.{Begins, call_moving}
use Rattle.v_machine.proofs.calls.moves.begin_to.Goals as goal

pub returns : goal.returns
returns c = λ p there lies.
    let a = c.args.asked in
    let bytes : c.in_ok-bytes.bytes ≡ bytes_in (range_of a.src a.count) p.memory =
    c.in_ok-bytes.ensures c.args.caller.pid p c.requires.here.place there lies in
    let move = c.new_move-begun.ensures ∙ ap (new_move c.args.caller.pid directions.To a.dest a.src a.count) bytes in (
      refl,
      omega arith,
      subst (λ (m : Move). Begins m.mover (call_moving a.partner m) a.partner c.args.holding.number m c.args.store.now
          c.begin.new.store) move
          c.in_ok-begin.ensures.ok,
    )

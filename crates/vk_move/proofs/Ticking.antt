-- What comes of a tick, once its processes, steps and packets are known.
use Rattle.std.proofs.Common.{◌≡◌, ℕ, List, ◌++◌, ap, subst, sym, ◌∙◌}
use Rattle.vk_types.specs.Types.{Pid, Step, Times}
use Rattle.vk_packet.specs.Posts.{Posts}
use Rattle.vk_procs.specs.declared.seat.Seat.{Seat}
use Rattle.vk_procs.specs.Seats.{seat_in}
use Rattle.vk_stands.specs.Rules.{posted}
use Rattle.vk_move.specs.declared.tick.Ticked.{Ticked}
use Rattle.vk_move.specs.Due.{IsDue, due_moved, tick_moved, ticked_in}
use Rattle.vk_move.specs.Fitting.{KeepsFit}
use Rattle.vk_move.specs.Moved.{HasFitSeats, Moved}
use Rattle.vk_move.proofs.Dues.{due_rule}
use Rattle.vk_move.proofs.Keeping.{tick_keeps}

pub is_due : (times : Times) (now : ℕ) (pid : Pid) (old new : List Seat) (before after : List Step) (sent out : Posts) →
    HasFitSeats old → (x : Ticked) → x ≡ ticked_in times now (seat_in old pid) → new ≡ (tick_moved times now pid x old).seats →
    after ≡ before ++ (tick_moved times now pid x old).steps → out ≡ posted sent (tick_moved times now pid x old).packets →
    IsDue times now pid old new before after sent out
is_due times now pid old new before after sent out fit x is seats made posts =
    let moved = ap (λ (y : Ticked). tick_moved times now pid y old) is in
    let seated : new ≡ (due_moved times now pid old).seats = seats ∙ ap (λ (m : Moved). m.seats) moved in
    record {
      seats = seated;
      steps = made ∙ ap (λ (m : Moved). before ++ m.steps) moved;
      packets = posts ∙ ap (λ (m : Moved). posted sent m.packets) moved;
      fit = subst (KeepsFit old) (sym seated) (tick_keeps times now pid old fit);
      right = due_rule times now pid old;
    }

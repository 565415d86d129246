-- What comes of a packet, once its processes, steps and packets are known.
use Rattle.std.proofs.Common.{◌≡◌, ℕ, List, ◌++◌, true, ap, refl, subst, sym, ◌∙◌, Bor}
use Rattle.vk_types.specs.Types.{Pid, Step, Times}
use Rattle.vk_base.specs.Packets.{Packet}
use Rattle.vk_packet.specs.declared.packet.PacketView.{PacketView}
use Rattle.vk_packet.specs.declared.packet.PacketView.TheVariants as views
use Rattle.vk_packet.specs.Posts.{Posts}
use Rattle.vk_packet.specs.Rules.{is_lawful}
use Rattle.vk_packet.specs.Views.{value_of}
use Rattle.vk_procs.specs.declared.seat.Seat.{Seat}
use Rattle.vk_stands.specs.Rules.{posted}
use Rattle.vk_move.specs.Fitting.{KeepsFit}
use Rattle.vk_move.specs.Moved.{HasFitSeats, Moved}
use Rattle.vk_move.specs.Right.{IsPacketTaken}
use Rattle.vk_move.specs.Taken.{mover_taken, packet_taken}
use Rattle.vk_move.proofs.Keeping.{packet_keeps}
use Rattle.vk_move.proofs.MoverRules.{mover_rule}
use Rattle.vk_move.proofs.SenderRules.{sender_rule}

pub is_taken : (times : Times) (now : ℕ) (p : Packet) (old new : List Seat) (before after : List Step) (sent out : Posts) →
    HasFitSeats old → is_lawful p ≡ true → (m : Moved) → m ≡ packet_taken times now p old → new ≡ m.seats →
    after ≡ before ++ m.steps → out ≡ posted sent m.packets → IsPacketTaken times now p old new before after sent out
is_taken times now p old new before after sent out fit lawful m is seats made posts =
    let seated : new ≡ (packet_taken times now p old).seats = seats ∙ ap (λ (x : Moved). x.seats) is in
    record {
      seats = seated;
      steps = made ∙ ap (λ (x : Moved). before ++ x.steps) is;
      packets = posts ∙ ap (λ (x : Moved). posted sent x.packets) is;
      fit = subst (KeepsFit old) (sym seated) (packet_keeps times now p old fit lawful);
      mover = mover_rule times now p old;
      sender = sender_rule times now p old;
    }

-- a packet that no mover sends is one to a mover, or of no move
pub to_mover : (times : Times) (now : ℕ) (v : PacketView) (seats : List Seat) →
    ((from : Pid) (number : ℕ) (to : Pid) (moving dest total offset : ℕ) (bytes : Bor (List ℕ)) →
    v ≡ views.MoveData from number to moving dest total offset bytes → ⊥) →
    ((from : Pid) (number : ℕ) (to : Pid) (moving src total offset : ℕ) → v ≡ views.MoveRequest from number to moving src total offset → ⊥) →
    mover_taken times now (value_of v) seats ≡ packet_taken times now (value_of v) seats
to_mover times now (views.MoveData from number to moving dest total offset bytes) seats no_data no_request =
    absurd (no_data from number to moving dest total offset bytes refl)
to_mover times now (views.MoveRequest from number to moving src total offset) seats no_data no_request =
    absurd (no_request from number to moving src total offset refl)
to_mover times now v seats no_data no_request = refl

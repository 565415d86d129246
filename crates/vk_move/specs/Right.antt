-- What it means that a rule of moves is right: for every reading that the tables stand for it makes the steps and the packets of the right
-- entry, and the tables then stand for the reading after it.
use Rattle.std.specs.Prelude.{ℕ, ◌≡◌, ◌++◌, List}
use Rattle.vk_types.specs.Types.{Step, Times}
use Rattle.vk_base.specs.declared.event.EventAnswer.TheVariants as events_answered
use Rattle.vk_base.specs.Packets.{Packet, MoveData, MoveAck, MoveBytes, MoveRequest, MoveNegative}
use Rattle.vk_base.specs.Settings.{Settings}
use Rattle.vk_frame.specs.declared.header.Header.{Header}
use Rattle.vk_packet.specs.Posts.{Posts}
use Rattle.vk_procs.specs.declared.seat.Seat.{Seat}
use Rattle.vk_rules.specs.Entries.{Delivered, Entry}
use Rattle.vk_rules.specs.Frames.{Framed}
use Rattle.vk_rules.specs.Readings.{Reading, reading_after}
use Rattle.vk_rules.specs.Right.{answer_to, right_entry}
use Rattle.vk_stands.specs.Fit.{AreFit}
use Rattle.vk_stands.specs.Rules.{packets_in, posted}
use Rattle.vk_stands.specs.Stands.{Stands}
use Rattle.vk_stands.specs.Tables.{Tables}
use Rattle.vk_move.specs.Fitting.{KeepsFit}
use Rattle.vk_move.specs.Moved.{Moved}
use Rattle.vk_move.specs.Taken.{packet_taken}

pub record IsMoveRight (c : Settings) (host : ℕ) (t : Tables) (r : Reading) (e : Entry) (m : Moved) : Type 0 where
  pub steps : m.steps ≡ e.steps
  pub packets : m.packets ≡ packets_in e
  pub stands : Stands c.times host (record t { seats = m.seats }) (reading_after c.times r e)

abbrev pub IsMoveRule : Times → ℕ → Packet → List Seat → Moved → Type 0
IsMoveRule times now p seats m =
    (c : Settings) (host : ℕ) (t : Tables) (r : Reading) (h : Header) → c.times ≡ times → r.now ≡ now →
    AreFit host (record t { seats = seats }) →
    Stands times host (record t { seats = seats }) r → answer_to c host r (Delivered (Framed h p)) ≡ events_answered.Taken →
    IsMoveRight c host (record t { seats = seats }) r (right_entry c host r (Delivered (Framed h p))) m

-- of the packets to a mover: an acknowledgement, bytes, and that its partner no longer waits
abbrev pub IsMoverRule : Times → ℕ → Packet → List Seat → Type 0
IsMoverRule times now (MoveAck from to number moving got) seats =
    IsMoveRule times now (MoveAck from to number moving got) seats (packet_taken times now (MoveAck from to number moving got) seats)
IsMoverRule times now (MoveBytes from to number moving total offset bytes) seats =
    IsMoveRule times now (MoveBytes from to number moving total offset bytes) seats
    (packet_taken times now (MoveBytes from to number moving total offset bytes) seats)
IsMoverRule times now (MoveNegative from to number moving) seats =
    IsMoveRule times now (MoveNegative from to number moving) seats (packet_taken times now (MoveNegative from to number moving) seats)
IsMoverRule times now p seats = Unit {0}

-- of the packets of a mover to its partner, a sender whose memory is moved: data, and a request for bytes
abbrev pub IsSenderRule : Times → ℕ → Packet → List Seat → Type 0
IsSenderRule times now (MoveData from to number moving dest total offset bytes) seats =
    IsMoveRule times now (MoveData from to number moving dest total offset bytes) seats
    (packet_taken times now (MoveData from to number moving dest total offset bytes) seats)
IsSenderRule times now (MoveRequest from to number moving src total offset) seats =
    IsMoveRule times now (MoveRequest from to number moving src total offset) seats
    (packet_taken times now (MoveRequest from to number moving src total offset) seats)
IsSenderRule times now p seats = Unit {0}

-- What comes of a packet: the processes, steps and packets that its rule makes, which fit as before, and that it is right.
pub record IsPacketTaken (times : Times) (now : ℕ) (p : Packet) (old new : List Seat) (before after : List Step)
    (sent out : Posts) : Type 0 where
  pub seats : new ≡ (packet_taken times now p old).seats
  pub steps : after ≡ before ++ (packet_taken times now p old).steps
  pub packets : out ≡ posted sent (packet_taken times now p old).packets
  pub fit : KeepsFit old new
  pub mover : IsMoverRule times now p old
  pub sender : IsSenderRule times now p old

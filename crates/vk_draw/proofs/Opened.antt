-- Frames that a station emitted, opened again.
use Rattle.std.proofs.Common.{◌≡◌, ℕ, ◌+◌, ◌<◌, ◌≤◌, List, [], ◌∷◌, ◌++◌, flat_map, get_or, length, drop, Some, sym, ap, ◌∙◌, append_assoc, arith}
use Rattle.std.specs.Prelude.{slice_get}
use Rattle.std.proofs.lemmas.List.{drop_more}
use Rattle.std.proofs.lemmas.Option.{get_or_from_slice_get, same_Some, slice_get-get_or, slice_get_within}
use Rattle.vk_base.specs.Packets.{Packet, Send, Reply, Pending, Negative, MoveData, MoveAck, MoveRequest, MoveBytes, MoveNegative, AskPid, TellPid}
use Rattle.vk_frame.specs.declared.header.Header.{Header}
use Rattle.vk_frame.specs.Reading.{frame_of}
use Rattle.vk_frame.proofs.Opening.{again}
use Rattle.vk_cluster.specs.Shown.{Sends}
use Rattle.vk_cluster.proofs.Shown.{sent}
use Rattle.vk_host.specs.Sealed.{sealed}
use Rattle.vk_host.specs.Values.{StationValue}
use Rattle.vk_packet.specs.Spelling.{packet_bytes}
use Rattle.vk_rules.specs.Frames.{Frame}
use Rattle.v_lawful.specs.Sending.{IsLawfulFrame}
use Rattle.vk_draw.specs.Frames.{line_of}

some_bytes : (p : Packet) → 1 ≤ length (packet_bytes p)
some_bytes (Send from to number message part) = omega arith
some_bytes (Reply from to number message dest bytes) = omega arith
some_bytes (Pending from to number) = omega arith
some_bytes (Negative from to number) = omega arith
some_bytes (MoveData from to number moving dest total offset bytes) = omega arith
some_bytes (MoveAck from to number moving received) = omega arith
some_bytes (MoveRequest from to number moving src total offset) = omega arith
some_bytes (MoveBytes from to number moving total offset bytes) = omega arith
some_bytes (MoveNegative from to number moving) = omega arith
some_bytes (AskPid asker lookup logical) = omega arith
some_bytes (TellPid found asker lookup) = omega arith

pub opens : (f : Frame) (bytes : List ℕ) → IsLawfulFrame f → bytes ≡ sealed f → frame_of bytes ≡ Some (f.header, packet_bytes f.packet)
opens f bytes lawful is = ap frame_of is ∙ again f.header (packet_bytes f.packet) lawful.header (some_bytes f.packet)

-- what is read of the bytes is the header and the packet
pub header_is : (f : Frame) (bytes rest : List ℕ) (h : Header) → IsLawfulFrame f → bytes ≡ sealed f → frame_of bytes ≡ Some (h, rest) →
    (h ≡ f.header) × (rest ≡ packet_bytes f.packet)
header_is f bytes rest h lawful is found =
    let pair = same_Some (h, rest) (f.header, packet_bytes f.packet) (sym found ∙ opens f bytes lawful is) in
    (ap (λ (x : Header × List ℕ). x.0) pair, ap (λ (x : Header × List ℕ). x.1) pair)

-- the lines of one frame more
pub lines_more : (fs : List Frame) (at : ℕ) (f : Frame) (text more whole : List ℕ) → slice_get fs at ≡ Some f → more ≡ text ++ line_of f →
    text ++ flat_map line_of (drop at fs) ≡ whole → more ++ flat_map line_of (drop (at + 1) fs) ≡ whole
lines_more fs at f text more whole found added so_far =
    ap (λ (l : List ℕ). l ++ flat_map line_of (drop (at + 1) fs)) added
    ∙ append_assoc text (line_of f) (flat_map line_of (drop (at + 1) fs))
    ∙ ap (λ l. text ++ flat_map line_of l)
    (ap (λ g. g ∷ drop (at + 1) fs) (sym (get_or_from_slice_get fs at f f found))
    ∙ sym (drop_more fs at f (slice_get_within fs at f found)))
    ∙ so_far

-- each of the station's frames is one of these
pub there : (s : StationValue) (fs : List Frame) (at : ℕ) → Sends s fs → at < length s.frames → (f : Frame) × (slice_get fs at ≡ Some f)
there s fs at sends low =
    let one = sent s fs at (get_or s.frames at []) sends (slice_get-get_or s.frames at [] low) in (one.frame, one.found)

-- What is handed over, as the bytes that are kept of it.
use Rattle.std.proofs.Common.{◌≡◌, ℕ, ◌*◌, ◌<◌, ◌≤◌, Bool, true, false, cond, ◌==◌, ◌&&◌, ◌||◌, not, List, [], ◌∷◌, ◌++◌, length, map, find, Option, Some, None, option_map, refl, sym, ap, ◌∙◌, arith}
use Rattle.std.specs.Prelude.{slice_get, sum_by}
use Rattle.std.proofs.lemmas.Bool.{both_ways}
use Rattle.std.proofs.lemmas.List.{length-append}
use Rattle.std.proofs.lemmas.List.Sums.{sum_by-cons}
use Rattle.byteorder.specs.Endian.{big_bytes}
use Rattle.byteorder.specs.Numbers.{length-bytes_high_first}
use Rattle.vk_base.specs.declared.limits.TheConstants.{FRAME_BYTES}
use Rattle.vk_base.specs.Options.{◌>>=◌}
use Rattle.vk_base.specs.Packets.{Packet}
use Rattle.vk_frame.specs.declared.header.Header.{Header}
use Rattle.vk_frame.specs.Reading.{frame_of}
use Rattle.vk_frame.specs.Spelling.{mark}
unfoldable use Rattle.vk_frame.specs.Spelling.{header_bytes}
use Rattle.vk_packet.specs.Reading.{packet_of}
use Rattle.vk_packet.specs.Spelling.{packet_bytes}
use Rattle.vk_rules.specs.Each.{Each}
use Rattle.vk_rules.specs.Entries.{Entry}
use Rattle.vk_rules.specs.Frames.{Frame, Framed, every_station, unsealed_behind, unsealed_by, unsealed_of}
use Rattle.vk_rules.specs.Histories.{is_output, emitted}
use Rattle.vk_rules.specs.Laws.{AllRise, FramesUnsealAgain}
use Rattle.vk_rules.proofs.Lengths.{frames_fit}
use Rattle.vk_rules.proofs.Lists.{each_append, each_weaker}
use Rattle.v_lawful.specs.Sending.{IsLawfulEntry, IsLawfulFrame, IsSendable}
use Rattle.vk_host.specs.Sealed.{OpensAs, sealed}
use Rattle.vk_cluster.specs.Blocks.{IsFrameSized, named_by}
use Rattle.vk_cluster.specs.Found.{bytes_for, events_in, if_addressed, if_for, is_addressed, opens_for, sealed_events}
use Rattle.vk_cluster.specs.Piles.{from_one}
use Rattle.vk_cluster.proofs.Found.{found_by_position}
use Rattle.vk_cluster.proofs.Pieces.{each_one, from_one-map}

-- The station that bytes name.

-- what a station tells of a frame that it sent is what the frame's bytes name
pub named_again : (bytes : List ℕ) (to output : ℕ) (packet : List ℕ) → OpensAs bytes to output packet → named_by (frame_of bytes) ≡ to
named_again bytes to output packet opens = ap named_by opens.opens ∙ opens.named

or_false : (a b : Bool) → b ≡ false → (a || b) ≡ a
or_false true b is = refl
or_false false b is = is

-- where it is one station, the frame is for no other
pub named_for : (to destination : ℕ) (o : Option (Header × List ℕ)) → named_by o ≡ destination → (destination == every_station) ≡ false →
    (destination == to) ≡ opens_for to o
named_for to destination None named one = absurd (both_ways (every_station == every_station) (ap (λ d. d == every_station) named ∙ one) refl)
named_for to destination (Some x) named one =
    ap (λ d. d == to) (sym named)
    ∙ sym (or_false (x.0.destination == to) (x.0.destination == every_station && not (x.0.source == to))
    (ap (λ d. d == every_station && not (x.0.source == to)) named ∙ ap (λ b. b && not (x.0.source == to)) one))

-- The bytes of a lawful frame open as it.
pub opens_again : FramesUnsealAgain → (f : Frame) → IsLawfulFrame f → unsealed_of (sealed f) ≡ Framed f.header f.packet
opens_again unseal f lawful = unseal f.header f.packet lawful.header lawful.packet.packet lawful.packet.lawful

pub behind : (g : Header) (o : Option Packet) (h : Header) (p : Packet) → unsealed_behind g o ≡ Framed h p → g ≡ h
behind g None h p e = cc
behind g (Some q) h p e = cc

opened : (to : ℕ) (o : Option (Header × List ℕ)) (h : Header) (p : Packet) → unsealed_by o ≡ Framed h p →
    opens_for to o ≡ is_addressed to h
opened to None h p e = cc
opened to (Some x) h p e = ap (is_addressed to) (behind x.0 (packet_of x.1) h p e)

kept_if : (b : Bool) (f : Frame) → cond b (Some (sealed f)) None ≡ option_map sealed (cond b (Some f) None)
kept_if true f = refl
kept_if false f = refl

for_station : FramesUnsealAgain → (to : ℕ) (f : Frame) → IsLawfulFrame f → if_for to (sealed f) ≡ option_map sealed (if_addressed to f)
for_station unseal to f lawful =
    ap (λ b. cond b (Some (sealed f)) None) (opened to (frame_of (sealed f)) f.header f.packet (opens_again unseal f lawful))
    ∙ kept_if (is_addressed to f.header) f

in_output : FramesUnsealAgain → (to : ℕ) (o : Option Frame) → ((f : Frame) → o ≡ Some f → IsLawfulFrame f) →
    (option_map sealed o >>= if_for to) ≡ option_map sealed (o >>= if_addressed to)
in_output unseal to None lawful = refl
in_output unseal to (Some f) lawful = for_station unseal to f (lawful f refl)

in_log : FramesUnsealAgain → (to output : ℕ) (o : Option (List Frame)) → ((fs : List Frame) → o ≡ Some fs → Each IsLawfulFrame fs) →
    ((option_map (map sealed) o >>= λ fs. from_one fs output) >>= if_for to)
    ≡ option_map sealed (o >>= λ fs. from_one fs output >>= if_addressed to)
in_log unseal to output None lawful = refl
in_log unseal to output (Some fs) lawful =
    ap (λ o. o >>= if_for to) (from_one-map sealed fs output)
    ∙ in_output unseal to (from_one fs output) (λ f found. each_one IsLawfulFrame fs output f (lawful fs refl) found)

each_event : (P : Frame → Type 0) (es : List Entry) → Each (λ (e : Entry). Each P e.frames) es → Each (Each P) (events_in es)
each_event P [] h = tt
each_event P (e ∷ es) h = each_append (Each P) (events_in es) (e.frames ∷ []) (each_event P es h.1) (h.0, tt)

-- The bytes that are found by position are those of the frame that is found among all.
pub found_bytes : FramesUnsealAgain → (logs : List (List (List (List ℕ)))) (place host to event output : ℕ) (es : List Entry) →
    slice_get logs place ≡ Some (sealed_events es) →
    AllRise host es → Each IsLawfulEntry es →
    bytes_for to logs place event output ≡ option_map sealed (find (is_output to event output) (emitted es))
found_bytes unseal logs place host to event output es at rise lawful =
    let each : Each (Each IsLawfulFrame) (events_in es) =
    each_event IsLawfulFrame es
    (each_weaker IsLawfulEntry (λ (e : Entry). Each IsLawfulFrame e.frames) es lawful (λ e is. is.frames)) in
    ap (λ (o : Option (List (List (List ℕ)))). (o >>= λ s. from_one s event >>= λ fs. from_one fs output) >>= if_for to) at
    ∙ ap (λ (o : Option (List (List ℕ))). (o >>= λ fs. from_one fs output) >>= if_for to) (from_one-map (map sealed) (events_in es) event)
    ∙ in_log unseal to output (from_one (events_in es) event)
    (λ fs found. each_one (Each IsLawfulFrame) (events_in es) event fs each found)
    ∙ ap (option_map sealed) (sym (found_by_position host to event output es rise))

-- How long they are.
sealed_length : (f : Frame) → IsSendable f.packet → length (sealed f) ≤ FRAME_BYTES
sealed_length f sendable = frames_fit f.header f.packet sendable.packet sendable.lawful

pub sealed_size : (fs : List Frame) → Each (λ (f : Frame). IsSendable f.packet) fs → sum_by length (map sealed fs) ≤ 1152 * length fs
sealed_size [] h = omega arith
sealed_size (f ∷ fs) h =
    let one : length (sealed f) ≤ 1152 = sealed_length f h.0 in
    let rest = sealed_size fs h.1 in
    omega (arith, sum_by-cons length (sealed f) (map sealed fs))

-- None is empty, since each begins with a header.
header_some : (h : Header) → 0 < length (header_bytes h)
unfolding header_bytes
header_some h =
    let front : List ℕ =
    big_bytes 2 mark ++ big_bytes 2 h.source ++ big_bytes 2 h.destination ++ big_bytes 8 h.stamp ++ big_bytes 8 h.number ++ big_bytes 8 h.event in
    omega (arith, length-append front (big_bytes 2 h.output), length-bytes_high_first 2 h.output)

sealed_frame : (f : Frame) → IsSendable f.packet → IsFrameSized (sealed f)
sealed_frame f sendable = record {
  some = let some = header_some f.header in omega (arith, length-append (header_bytes f.header) (packet_bytes f.packet));
  few = sealed_length f sendable;
}

pub sealed_frames : (fs : List Frame) → Each (λ (f : Frame). IsSendable f.packet) fs → Each IsFrameSized (map sealed fs)
sealed_frames [] h = tt
sealed_frames (f ∷ fs) h = (sealed_frame f h.0, sealed_frames fs h.1)

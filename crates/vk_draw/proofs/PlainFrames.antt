-- The text of the frames of a schedule's history is plain.
use Rattle.std.proofs.Common.{◌≡◌, ℕ, ◌-◌, ◌%◌, ◌^◌, ◌<◌, ◌≤◌, ◌==◌, ◌&&◌, nat_lt, nat_le, Bool, true, List, [], ◌∷◌, ◌++◌, length, decimal, codes, Option, Some, None, refl, sym, ap, subst, ◌∙◌, arith, append_assoc}
use Rattle.std.specs.Int.{is_in_range}
use Rattle.std.specs.List.{AllByRecursion, flat_map, list_all}
use Rattle.std.proofs.lemmas.Bool.{and_parts, leb-true, ltb-true}
use Rattle.std.proofs.lemmas.List.Elements.{All-nil}
use Rattle.std.proofs.lemmas.List.Sums.{list_all-from_AllPass}
use Rattle.vk_types.specs.Types.{ProcessSpec}
use Rattle.vk_base.specs.Packets.{Packet, Send, Reply, Pending, Negative, MoveData, MoveAck, MoveRequest, MoveBytes, MoveNegative, AskPid, TellPid}
use Rattle.vk_base.specs.Pids.{IsPid}
use Rattle.vk_base.specs.Settings.{Settings}
use Rattle.vk_base.specs.declared.limits.TheConstants.{DATA_BYTES, EVERY_STATION, LAST_NUMBER, MOVE_BYTES, SEGMENT_BYTES, SHORT_NUMBER}
use Rattle.vk_cluster.specs.Standing.{logs_of}
use Rattle.vk_cluster.proofs.Logs.{logs_next}
use Rattle.vk_frame.specs.declared.header.Header.{Header}
use Rattle.vk_frame.specs.Rules as headers
use Rattle.vk_packet.specs.Rules.{IsPacket, is_lawful, is_number, is_place, piece_len}
use Rattle.vk_rules.specs.Each.{Each}
use Rattle.vk_rules.specs.Frames.{Frame}
use Rattle.vk_rules.specs.Histories.{At, Happened, Logs, Missing, delivered, handed_over, logs_after}
unfoldable use Rattle.vk_rules.specs.Histories.{happened, history, logs_from}
use Rattle.vk_rules.proofs.OwnEvents.{own_log}
use Rattle.vk_schedule.specs.declared.event.Event.{Event}
use Rattle.vk_schedule.specs.declared.event.Event.TheVariants as events
use Rattle.vk_schedule.specs.declared.schedule.Schedule.{Schedule}
use Rattle.vk_schedule.specs.Lawful.{IsLawful, IsReadableEvent, IsStation}
use Rattle.vk_schedule.proofs.Lawfulness.{only_lawful}
use Rattle.vk_frame_text.specs.Frames.{frame_text, frame_words, packet_words, place_text, title_line}
use Rattle.v_lawful.specs.Sending.{IsFaultless, IsLawfulEntry, IsLawfulFrame}
use Rattle.v_lawful.proofs.Faultless.{configs_are_faultless}
use Rattle.v_lawful.proofs.Schedules.{schedules_are_lawful}
use Rattle.vk_page.specs.Page.{is_plain_byte}
use Rattle.vk_draw.specs.Frames.{ScheduleAndFramesArePlain, frames_text, happened_lines, line_of, lines_of_history}
use Rattle.vk_draw.proofs.PlainSchedules.{schedule_plain}
use Rattle.vk_draw.proofs.PlainTexts.{IsPlain, IsPlainByte, both_plain, count_plain, joined_plain, letters, line_plain, message_plain, number_plain, pid_plain}

-- The ranges of what a packet has.

number_small : (n : ℕ) → is_number n ≡ true → n < 2 ^ 64
number_small n h = let low = ltb-true n (2 ^ 63) (and_parts (nat_lt 0 n) (nat_lt n (2 ^ 63)) h).1 in omega (arith, low)

first_small : (n : ℕ) (ns : List ℕ) (b : Bool) → (list_all is_number (n ∷ ns) && b) ≡ true → n < 2 ^ 64
first_small n ns b h =
    number_small n (and_parts (is_number n) (list_all is_number ns) (and_parts (list_all is_number (n ∷ ns)) b h).0).0

second_small : (n m : ℕ) (ns : List ℕ) (b : Bool) → (list_all is_number (n ∷ m ∷ ns) && b) ≡ true → m < 2 ^ 64
second_small n m ns b h =
    let rest = (and_parts (is_number n) (list_all is_number (m ∷ ns)) (and_parts (list_all is_number (n ∷ m ∷ ns)) b h).0).1 in
    number_small m (and_parts (is_number m) (list_all is_number ns) rest).0

place_small : (total offset : ℕ) → is_place total offset ≡ true → (total < 2 ^ 32) × (offset < 2 ^ 32)
place_small total offset h =
    let all = and_parts (nat_lt 0 total && nat_le total MOVE_BYTES && (offset % DATA_BYTES == 0)) (nat_lt offset total) h in
    let front = and_parts (nat_lt 0 total && nat_le total MOVE_BYTES) (offset % DATA_BYTES == 0) all.0 in
    let most = leb-true total MOVE_BYTES (and_parts (nat_lt 0 total) (nat_le total MOVE_BYTES) front.0).1 in
    let low = ltb-true offset total all.1 in
    (omega (arith, most), omega (arith, most, low))

packet_plain : (p : Packet) → IsPacket p → is_lawful p ≡ true → AllByRecursion IsPlain (packet_words p)
unfolding packet_words
packet_plain (Send from to number message part) h lawful = (
  letters (codes "send") refl,
  (pid_plain from h.0, (pid_plain to h.1, (number_plain number (first_small number [] _ lawful), (message_plain message h.2, tt)))),
)
packet_plain (Reply from to number message dest bytes) h lawful =
    let few = leb-true (length bytes) SEGMENT_BYTES (and_parts (list_all is_number (number ∷ [])) _ lawful).1 in (
      letters (codes "reply") refl,
      (
        pid_plain from h.0,
        (
          pid_plain to h.1,
          (
            number_plain number (first_small number [] _ lawful),
            (message_plain message h.2, (count_plain dest h.3, (number_plain (length bytes) (omega (arith, few)), tt))),
          ),
        ),
      ),
    )
packet_plain (Pending from to number) h lawful =
    (letters (codes "pending") refl, (pid_plain from h.0, (pid_plain to h.1, (number_plain number (first_small number [] _ lawful), tt))))
packet_plain (Negative from to number) h lawful =
    (letters (codes "negative") refl, (pid_plain from h.0, (pid_plain to h.1, (number_plain number (first_small number [] _ lawful), tt))))
packet_plain (MoveData from to number moving dest total offset bytes) h lawful =
    let placed = (and_parts (is_place total offset) (length bytes == piece_len total offset)
    (and_parts (list_all is_number (number ∷ moving ∷ [])) _ lawful).1).0 in
    let small = place_small total offset placed in (
      letters (codes "movedata") refl,
      (
        pid_plain from h.0,
        (
          pid_plain to h.1,
          (
            number_plain number (first_small number (moving ∷ []) _ lawful),
            (
              number_plain moving (second_small number moving [] _ lawful),
              (count_plain dest h.2, (count_plain total small.0, (count_plain offset small.1, tt))),
            ),
          ),
        ),
      ),
    )
packet_plain (MoveAck from to number moving received) h lawful =
    let few = leb-true received MOVE_BYTES (and_parts (list_all is_number (number ∷ moving ∷ [])) _ lawful).1 in (
      letters (codes "moveack") refl,
      (
        pid_plain from h.0,
        (
          pid_plain to h.1,
          (
            number_plain number (first_small number (moving ∷ []) _ lawful),
            (number_plain moving (second_small number moving [] _ lawful), (number_plain received (omega (arith, few)), tt)),
          ),
        ),
      ),
    )
packet_plain (MoveRequest from to number moving src total offset) h lawful =
    let small = place_small total offset (and_parts (list_all is_number (number ∷ moving ∷ [])) _ lawful).1 in (
      letters (codes "moverequest") refl,
      (
        pid_plain from h.0,
        (
          pid_plain to h.1,
          (
            number_plain number (first_small number (moving ∷ []) _ lawful),
            (
              number_plain moving (second_small number moving [] _ lawful),
              (count_plain src h.2, (count_plain total small.0, (count_plain offset small.1, tt))),
            ),
          ),
        ),
      ),
    )
packet_plain (MoveBytes from to number moving total offset bytes) h lawful =
    let placed = (and_parts (is_place total offset) (length bytes == piece_len total offset)
    (and_parts (list_all is_number (number ∷ moving ∷ [])) _ lawful).1).0 in
    let small = place_small total offset placed in (
      letters (codes "movebytes") refl,
      (
        pid_plain from h.0,
        (
          pid_plain to h.1,
          (
            number_plain number (first_small number (moving ∷ []) _ lawful),
            (number_plain moving (second_small number moving [] _ lawful), (count_plain total small.0, (count_plain offset small.1, tt))),
          ),
        ),
      ),
    )
packet_plain (MoveNegative from to number moving) h lawful = (
  letters (codes "movenegative") refl,
  (
    pid_plain from h.0,
    (
      pid_plain to h.1,
      (
        number_plain number (first_small number (moving ∷ []) _ lawful),
        (number_plain moving (second_small number moving [] _ lawful), tt),
      ),
    ),
  ),
)
packet_plain (AskPid asker lookup logical) h lawful = (
  letters (codes "askpid") refl,
  (pid_plain asker h.0, (number_plain lookup (first_small lookup [] _ lawful), (count_plain logical h.1, tt))),
)
packet_plain (TellPid found asker lookup) h lawful = (
  letters (codes "tellpid") refl,
  (pid_plain found h.0, (pid_plain asker h.1, (number_plain lookup (first_small lookup [] _ lawful), tt))),
)

-- The ranges of what a header has.

record AreSmall (h : Header) : Type 0 where
  source : h.source < 2 ^ 64
  stamp : h.stamp < 2 ^ 64
  number : h.number < 2 ^ 64
  event : h.event < 2 ^ 64
  output : h.output < 2 ^ 64

up_to : (least most n : ℕ) → is_in_range least most n ≡ true → n ≤ most
up_to least most n h = leb-true n most (and_parts (nat_le least n) (nat_le n most) h).1

are_small : (h : Header) → headers.is_lawful h ≡ true → AreSmall h
are_small h lawful =
    let one = is_in_range 1 (EVERY_STATION - 1) h.source in
    let two = is_in_range 1 EVERY_STATION h.destination in
    let three = nat_lt h.stamp (2 ^ 63) in
    let four = nat_lt h.number (2 ^ 63) in
    let five = is_in_range 1 LAST_NUMBER h.event in
    let six = is_in_range 1 SHORT_NUMBER h.output in
    let last = and_parts (one && two && three && four && five) six lawful in
    let fifth = and_parts (one && two && three && four) five last.0 in
    let fourth = and_parts (one && two && three) four fifth.0 in
    let third = and_parts (one && two) three fourth.0 in
    let first = and_parts one two third.0 in
    let source = up_to 1 (EVERY_STATION - 1) h.source first.0 in
    let stamp = ltb-true h.stamp (2 ^ 63) third.1 in
    let number = ltb-true h.number (2 ^ 63) fourth.1 in
    let event = up_to 1 LAST_NUMBER h.event fifth.1 in
    let output = up_to 1 SHORT_NUMBER h.output last.1 in
    record {
      source = omega (arith, source);
      stamp = omega (arith, stamp);
      number = omega (arith, number);
      event = omega (arith, event);
      output = omega (arith, output);
    }

place_plain : (h : Header) → AreSmall h → IsPlain (place_text h)
place_plain h small =
    let front = decimal h.source ++ codes ":" in
    let event = front ++ decimal h.event in
    both_plain (event ++ codes ".") (decimal h.output)
    (both_plain event (codes ".")
    (both_plain front (decimal h.event)
    (both_plain (decimal h.source) (codes ":") (number_plain h.source small.source) (letters (codes ":") refl))
    (number_plain h.event small.event)) (letters (codes ".") refl)) (number_plain h.output small.output)

-- Lines of frames.

line_of_plain : (f : Frame) → IsLawfulFrame f → IsPlain (line_of f)
unfolding frame_text
line_of_plain f is =
    let small = are_small f.header is.header in
    line_plain (frame_text f.header f.packet) (joined_plain (frame_words f.header f.packet) (
      place_plain f.header small,
      (
        number_plain f.header.stamp small.stamp,
        (number_plain f.header.number small.number, packet_plain f.packet is.packet.packet is.packet.lawful),
      ),
    ))

frames_plain : (fs : List Frame) → Each IsLawfulFrame fs → IsPlain (flat_map line_of fs)
frames_plain [] h = All-nil IsPlainByte
frames_plain (f ∷ fs) h = both_plain (line_of f) (flat_map line_of fs) (line_of_plain f h.0) (frames_plain fs h.1)

-- Histories.

-- what happened, happened at a station
abbrev IsSomewhere : Happened → Type 0
IsSomewhere (At host event e) = IsStation host
IsSomewhere (Missing host) = Unit {0}

somewhere_by : (logs : Logs) (c : Settings) (to : ℕ) (o : Option Frame) → IsStation to → IsSomewhere (delivered c logs to o)
somewhere_by logs c to None is = tt
somewhere_by logs c to (Some f) is = is

somewhere : (c : Settings) (logs : Logs) (e : Event) → IsReadableEvent e → IsSomewhere (happened c logs e)
unfolding happened
somewhere c logs (events.Call pid call) is = (pid.some_host, pid.one_host)
somewhere c logs (events.Collect pid) is = (pid.some_host, pid.one_host)
somewhere c logs (events.Tick host) is = is
somewhere c logs (events.Deliver to from event output) is = somewhere_by logs c to (handed_over logs to from event output) is.0

-- the frames of an event that leaves lawful logs
happened_plain : (logs after : Logs) (h : Happened) → IsSomewhere h → after ≡ logs_after logs h →
    ((host : ℕ) → IsStation host → Each IsLawfulEntry (after host)) → IsPlain (happened_lines h)
happened_plain logs after (Missing host) station is lawful = All-nil IsPlainByte
happened_plain logs after (At host event e) station is lawful =
    let here : after host ≡ e ∷ logs host = ap (λ (l : Logs). l host) is ∙ own_log logs host e in
    frames_plain e.frames (subst (Each IsLawfulEntry) here (lawful host station)).0.frames

each_readable : (es : List Event) → AllByRecursion IsReadableEvent es → Each IsReadableEvent es
each_readable [] h = tt
each_readable (e ∷ es) h = (h.0, each_readable es h.1)

each_spec : (ss : List ProcessSpec) → AllByRecursion (λ (s : ProcessSpec). IsPid s.pid) ss → Each (λ (s : ProcessSpec). IsPid s.pid) ss
each_spec [] h = tt
each_spec (s ∷ ss) h = (h.0, each_spec ss h.1)

each_front : (before es : List Event) → Each IsReadableEvent (before ++ es) → Each IsReadableEvent before
each_front [] es h = tt
each_front (b ∷ bs) es h = (h.0, each_front bs es h.1)

each_rest : (before es : List Event) → Each IsReadableEvent (before ++ es) → Each IsReadableEvent es
each_rest [] es h = h
each_rest (b ∷ bs) es h = each_rest bs es h.1

fewer : (before es : List Event) → length before ≤ length (before ++ es)
fewer [] es = omega arith
fewer (b ∷ bs) es = let less = fewer bs es in omega (arith, less)

module _ (c : Settings) (fine : (host : ℕ) → IsFaultless c host) where
  -- the frames of the events behind these
  history_plain : (before es : List Event) → Each IsReadableEvent (before ++ es) → length (before ++ es) < 2 ^ 63 →
      IsPlain (lines_of_history (history c (logs_of c before) es))
  unfolding history
  history_plain before [] are few = All-nil IsPlainByte
  history_plain before (e ∷ es) are few =
      let logs = logs_of c before in
      let h = happened c logs e in
      let next = logs_next c before e in
      let same : before ++ e ∷ [] ++ es ≡ before ++ e ∷ es = append_assoc before (e ∷ []) es in
      let are_next = subst (Each IsReadableEvent) (sym same) are in
      let few_next = subst (λ (l : List Event). length l < 2 ^ 63) (sym same) few in
      let now = each_front (before ++ e ∷ []) es are_next in
      let less = fewer (before ++ e ∷ []) es in
      both_plain (happened_lines h) (lines_of_history (history c (logs_after logs h) es))
      (happened_plain logs (logs_of c (before ++ e ∷ [])) h (somewhere c logs e (each_rest before (e ∷ es) are).0) next
      (λ host station. (schedules_are_lawful c (before ++ e ∷ []) fine now (omega (arith, less, few_next)) host station.0 station.1).0))
      (subst (λ (l : Logs). IsPlain (lines_of_history (history c l es))) next (history_plain (before ++ e ∷ []) es are_next few_next))

schedule_frames_plain : (s : Schedule) → IsLawful s → IsPlain (frames_text s)
unfolding logs_from
schedule_frames_plain s lawful =
    let fine = configs_are_faultless s.config lawful.told.lawful (each_spec s.config.specs lawful.told.pids) in
    let few = lawful.few in
    both_plain title_line _ (letters title_line refl)
    (history_plain s.config fine [] s.events (each_readable s.events lawful.ranges) (omega (arith, few)))

pub are_plain : ScheduleAndFramesArePlain
are_plain text s is = (
  list_all-from_AllPass is_plain_byte text (schedule_plain text s is),
  list_all-from_AllPass is_plain_byte (frames_text s) (schedule_frames_plain s (only_lawful text s is)),
)

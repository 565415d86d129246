-- What is written of a lawful schedule is read again.
use Rattle.std.proofs.Common.{◌≡◌, ℕ, ◌+◌, ◌<◌, ◌≤◌, true, cond, List, [], ◌∷◌, ◌++◌, length, map, decimal, codes, Some, None, Ok, Err, refl, arith, ap, sym, ◌∙◌, append_assoc, append-nil}
use Rattle.std.specs.List.{AllByRecursion, flat_map, list_all}
use Rattle.std.proofs.lemmas.Bool.{and_parts, lt-ltb}
use Rattle.std.proofs.lemmas.Grind.{common_steps}
use Rattle.std.proofs.lemmas.List.{map-id}
use Rattle.std.proofs.lemmas.List.Concat.{flat_map-append}
use Rattle.std.proofs.lemmas.List.Folds.{flat_map-map}
use Rattle.vk_text.specs.Heads.{process_of, HasNoFeed, line_text}
use Rattle.vk_text.specs.Lines.{lines_of, words_from}
use Rattle.vk_text.specs.Openings.{BeginsNoHead, line_number, opening_lines, pool_line_of}
use Rattle.vk_text.proofs.Bodies.{body_read, title_plain}
use Rattle.vk_text.proofs.CallWords.{call_read}
use Rattle.vk_text.proofs.OpeningLaws.{openings_back, openings_no_feed, openings_written, both_plain}
use Rattle.vk_text.proofs.PlainWords.{IsPlain, letters, number_plain, ordinal_plain, pid_plain, call_plain, no_spaces, no_feeds, joined_no_feed}
use Rattle.vk_text.proofs.ReadBack.{joined_words}
use Rattle.vk_text.specs.Words.{positive_of}
use Rattle.vk_text.proofs.Spelled.{positive_read, station_read, pid_read}
use Rattle.vk_schedule.specs.declared.event.Event.{Event}
use Rattle.vk_schedule.specs.declared.event.Event.TheVariants as events
use Rattle.vk_schedule.specs.declared.schedule.Front.{Front}
use Rattle.vk_schedule.specs.declared.schedule.Schedule.{Schedule}
use Rattle.vk_schedule.specs.declared.schedule.TextRefusal.TheVariants as refusals
use Rattle.vk_schedule.specs.Lawful.{has_actors, IsLawful, IsStation, IsOutputNumber, IsReadableEvent}
use Rattle.vk_schedule.specs.Laws.{SchedulesReadBack}
use Rattle.vk_schedule.specs.Schedule.{call_event_of, collect_event_of, tick_event_of, deliver_event_of, event_of, acting, more, with_event, or_end, next_event, front_from, without_events, front_by, opened, plain_title, schedule_of, timed_title, whole}
use Rattle.vk_schedule.specs.Spelling.{IsScheduleFront, event_words, event_text, schedule_lines, schedule_text, text_of}

station_plain : (host : ℕ) → IsStation host → IsPlain (decimal host)
station_plain host h = let most = h.1 in number_plain host (omega (arith, most))

output_plain : (output : ℕ) → IsOutputNumber output → IsPlain (decimal output)
output_plain output h = let most = h.1 in number_plain output (omega (arith, most))

event_plain : (e : Event) → IsReadableEvent e → AllByRecursion IsPlain (event_words e)
event_plain (events.Call pid call) h = (letters (codes "call") refl, (pid_plain pid h.0, call_plain call h.1))
event_plain (events.Collect pid) h = (letters (codes "collect") refl, (pid_plain pid h, tt))
event_plain (events.Tick host) h = (letters (codes "tick") refl, (station_plain host h, tt))
event_plain (events.Deliver to from event output) h = (
  letters (codes "deliver") refl,
  (station_plain to h.0, (station_plain from h.1, (ordinal_plain event h.2.1, (output_plain output h.3, tt)))),
)

event_no_feed : (e : Event) → IsReadableEvent e → HasNoFeed (event_text e)
event_no_feed e h = joined_no_feed (event_words e) (no_feeds (event_words e) (event_plain e h))

some_words : (e : Event) → 0 < length (event_words e)
some_words (events.Call pid call) = omega arith
some_words (events.Collect pid) = omega arith
some_words (events.Tick host) = omega arith
some_words (events.Deliver to from event output) = omega arith

event_parts : (e : Event) → IsReadableEvent e → words_from (event_text e) 0 ≡ event_words e
event_parts e h = joined_words (event_words e) (some_words e) (no_spaces (event_words e) (event_plain e h))

host_read : (host : ℕ) → IsStation host → positive_of 65534 (decimal host) ≡ Some host
host_read host h = station_read host h.0 h.1

-- the words of an event read as it
event_read : (e : Event) → IsReadableEvent e → event_of (event_words e) ≡ Some e
unfolding event_of call_event_of collect_event_of tick_event_of deliver_event_of
event_read (events.Call pid call) h = rw (pid_read pid h.0, call_read call h.1) refl
event_read (events.Collect pid) h = rw (pid_read pid h) refl
event_read (events.Tick host) h = rw (host_read host h) refl
event_read (events.Deliver to from event output) h =
    let late = h.2.1 in
    let last = h.3.1 in
    let number = positive_read 9223372036854775807 event (omega arith) h.2.0 (omega (arith, late)) in
    let frame = positive_read 65535 output (omega arith) h.3.0 (omega (arith, last)) in
    rw (host_read to h.0, host_read from h.1, number, frame) refl

-- what is written of an event is read again
event_back : (e : Event) → IsReadableEvent e → event_of (words_from (event_text e) 0) ≡ Some e
event_back e h = ap event_of (event_parts e h) ∙ event_read e h

other_word : (e : Event) → process_of (event_words e) ≡ None
unfolding process_of
other_word (events.Call pid call) = refl
other_word (events.Collect pid) = refl
other_word (events.Tick host) = refl
other_word (events.Deliver to from event output) = refl

no_pool_word : (e : Event) → pool_line_of (event_words e) ≡ None
unfolding pool_line_of
no_pool_word (events.Call pid call) = refl
no_pool_word (events.Collect pid) = refl
no_pool_word (events.Tick host) = refl
no_pool_word (events.Deliver to from event output) = refl

-- the line of an event tells of no process and of no pool
first_is_event : (es : List Event) → AllByRecursion IsReadableEvent es → BeginsNoHead (map event_text es)
first_is_event [] h = tt
first_is_event (e ∷ es) h =
    (ap process_of (event_parts e h.0) ∙ other_word e, ap pool_line_of (event_parts e h.0) ∙ no_pool_word e)

no_feed_in : (es : List Event) → AllByRecursion IsReadableEvent es → AllByRecursion HasNoFeed (map event_text es)
no_feed_in [] h = tt
no_feed_in (e ∷ es) h = (event_no_feed e h.0, no_feed_in es h.1)

taken : (n : ℕ) (s : Schedule) (e : Event) → IsReadableEvent e → has_actors s.config.specs e ≡ true → length s.events < 100000
    → with_event n s (next_event s (event_text e)) ≡ Ok (more s e)
taken n s e h acts room =
    ap (λ o. with_event n s (acting s.config.specs o)) (event_back e h)
    ∙ ap (λ b. with_event n s (cond b (Some e) None)) acts
    ∙ ap (λ b. cond b (Ok (more s e)) (Err refusals.Limit)) (lt-ltb (length s.events) 100000 room)

-- the schedule with these events behind its own
then_all : Schedule → List Event → Front
then_all s es = record { schedule = record s { events = es }; refused = None; beyond = None }

still_few : (s : Schedule) (e : Event) (n : ℕ) → length s.events + (n + 1) ≤ 100000 → length (more s e).events + n ≤ 100000
still_few s e n h = grind (arith, common_steps)

-- lines of events are taken one after another
events_read : (n : ℕ) (s : Schedule) (es : List Event) → AllByRecursion IsReadableEvent es
    → list_all (has_actors s.config.specs) es ≡ true → length s.events + length es ≤ 100000
    → front_from n s (map event_text es) ≡ then_all s (s.events ++ es)
unfolding front_from then_all
events_read n s [] h acts few = ap (then_all s) (sym (append-nil s.events))
events_read n s (e ∷ es) h acts few =
    let both = and_parts (has_actors s.config.specs e) (list_all (has_actors s.config.specs) es) acts in
    ap (λ r. or_end s (next_event s (event_text e)) r (λ t. front_from (n + 1) t (map event_text es)))
    (taken n s e h.0 both.0 (omega (arith, few)))
    ∙ events_read (n + 1) (more s e) es h.1 both.1 (still_few s e (length es) (omega (arith, few)))
    ∙ ap (then_all s) (append_assoc s.events (e ∷ []) es)

-- lines without line feeds are those of their text
pub lines_back : (lines : List (List ℕ)) → AllByRecursion HasNoFeed lines → lines_of (flat_map line_text lines) ≡ lines
lines_back lines h = body_read (λ l. l) lines h ∙ map-id lines

back_by : (s : Schedule) (opening : List (List ℕ)) → IsLawful s → IsScheduleFront s.config opening → schedule_of (text_of (schedule_lines opening s)) ≡ Ok s
unfolding then_all
back_by s opening is front =
    let few = is.few in
    let body : List (List ℕ) = map event_text s.events in
    let feeds = both_plain opening body
    (openings_no_feed plain_title timed_title s.config opening (title_plain plain_title refl) (title_plain timed_title refl) is.told front)
    (no_feed_in s.events is.ranges) in
    let lines : lines_of (text_of (opening ++ body)) ≡ opening ++ body = lines_back (opening ++ body) feeds in
    let found = openings_back plain_title timed_title s.config opening body refl is.told front (first_is_event s.events is.ranges) in
    let read = events_read (line_number (opening ++ body) body) (without_events s.config) s.events is.ranges is.events (omega (arith, few)) in
    ap (λ ls. whole (front_by ls (opened ls)).schedule (front_by ls (opened ls)).refused) lines
    ∙ ap (λ o. whole (front_by (opening ++ body) o).schedule (front_by (opening ++ body) o).refused) found
    ∙ ap (λ (f : Front). whole f.schedule f.refused) read

pub schedules_back : SchedulesReadBack
schedules_back = back_by

-- what is written is read again
pub written_back : (s : Schedule) → IsLawful s → schedule_of (schedule_text s) ≡ Ok s
written_back s is =
    let opening : List (List ℕ) = opening_lines plain_title timed_title s.config in
    ap schedule_of
    (ap (λ l. flat_map line_text opening ++ l) (sym (flat_map-map line_text event_text s.events))
    ∙ sym (flat_map-append line_text opening (map event_text s.events)))
    ∙ back_by s opening is (openings_written plain_title timed_title s.config is.told.lawful)

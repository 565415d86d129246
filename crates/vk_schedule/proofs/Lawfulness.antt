-- What a text spells is lawful.
use Rattle.std.proofs.Common.{◌≡◌, ◌<◌, ℕ, ◌+◌, ◌&&◌, ◌++◌, nat_lt, Bool, true, false, List, [], ◌∷◌, length, codes, bytes_eq, cond, Option, Some, None, Result, Ok, Err, refl, sym, subst, ◌∙◌, arith, lit≤}
use Rattle.std.specs.List.{list_all, AllByRecursion}
use Rattle.std.proofs.lemmas.Bool.{and_from, ltb-true}
use Rattle.std.proofs.lemmas.Grind.{common_steps}
use Rattle.std.proofs.lemmas.List.Folds.{list_all-append}
use Rattle.std.proofs.lemmas.Option.{cond_some}
use Rattle.vk_base.specs.Pids.{IsPid}
use Rattle.vk_base.specs.Settings.{Settings}
use Rattle.vk_base.proofs.Pools.{uniform_lawful}
use Rattle.vk_base.proofs.OptionLemmas.{bind_is}
use Rattle.vk_text.specs.Calls.{call_of}
use Rattle.vk_text.specs.Heads.{settings_of, usual_pool, usual_times}
use Rattle.vk_text.specs.Laws.{IsOrdinal}
use Rattle.vk_text.specs.Lines.{lines_of, words_from}
use Rattle.vk_text.specs.Openings.{IsTellable, line_number}
use Rattle.vk_text.specs.Words.{positive_of, station_of, pid_of}
use Rattle.vk_text.proofs.Firsts.{first_holds, ended_is}
use Rattle.vk_text.proofs.OpeningLaws.{openings_spelled}
use Rattle.vk_text.proofs.Ranges.{pid_fits, call_fits}
use Rattle.vk_text.proofs.Spelled.{either_word, positive_spelled, station_spelled}
use Rattle.vk_schedule.specs.declared.event.Event.{Event}
use Rattle.vk_schedule.specs.declared.event.Event.TheVariants as events
use Rattle.vk_schedule.specs.declared.schedule.Front.{Front}
use Rattle.vk_schedule.specs.declared.schedule.Schedule.{Schedule}
use Rattle.vk_schedule.specs.declared.schedule.TextRefusal.{TextRefusal}
use Rattle.vk_schedule.specs.declared.schedule.TextRefusal.TheVariants as refusals
use Rattle.vk_schedule.specs.Lawful.{has_actors, IsStation, IsOutputNumber, IsReadableEvent, IsLawful}
use Rattle.vk_schedule.specs.Laws.{OnlyLawfulAreRead}
use Rattle.vk_schedule.specs.Schedule.{call_event_of, collect_event_of, tick_event_of, deliver_event_of, event_of, acting, more, with_event, or_end, front_from, without_events, front_by, front_of, opened, plain_title, timed_title, whole}

pub station_fits : (host : ℕ) (word : List ℕ) → station_of word ≡ Some host → IsStation host
station_fits host word h = let read = station_spelled host word h in (read.1, read.2)

ordinal_fits : (n : ℕ) (word : List ℕ) → positive_of 9223372036854775807 word ≡ Some n → IsOrdinal n
ordinal_fits n word h =
    let read = positive_spelled 9223372036854775807 n word (omega arith) h in
    let most = read.2 in
    (read.1, omega (arith, most))

output_fits : (n : ℕ) (word : List ℕ) → positive_of 65535 word ≡ Some n → IsOutputNumber n
output_fits n word h =
    let read = positive_spelled 65535 n word (omega arith) h in
    let most = read.2 in
    (read.1, omega (arith, most))

call_event_fits : (ws : List (List ℕ)) (e : Event) → call_event_of ws ≡ Some e → IsReadableEvent e
unfolding call_event_of
call_event_fits ws e h =
    let pid = first_holds pid_of IsPid pid_fits _ e ws h in
    let call = bind_is (call_of pid.1) _ e pid.3 in
    subst IsReadableEvent (cond_some true (events.Call pid.0 call.0) e call.2).1 (pid.2, call_fits pid.1 call.0 call.1)

collect_fits : (ws : List (List ℕ)) (e : Event) → collect_event_of ws ≡ Some e → IsReadableEvent e
unfolding collect_event_of
collect_fits ws e h =
    let pid = first_holds pid_of IsPid pid_fits _ e ws h in
    subst IsReadableEvent (ended_is pid.1 (events.Collect pid.0) e pid.3).1 pid.2

tick_fits : (ws : List (List ℕ)) (e : Event) → tick_event_of ws ≡ Some e → IsReadableEvent e
unfolding tick_event_of
tick_fits ws e h =
    let host = first_holds station_of IsStation station_fits _ e ws h in
    subst IsReadableEvent (ended_is host.1 (events.Tick host.0) e host.3).1 host.2

deliver_fits : (ws : List (List ℕ)) (e : Event) → deliver_event_of ws ≡ Some e → IsReadableEvent e
unfolding deliver_event_of
deliver_fits ws e h =
    let to = first_holds station_of IsStation station_fits _ e ws h in
    let from = first_holds station_of IsStation station_fits _ e to.1 to.3 in
    let event = first_holds (positive_of 9223372036854775807) IsOrdinal ordinal_fits _ e from.1 from.3 in
    let output = first_holds (positive_of 65535) IsOutputNumber output_fits _ e event.1 event.3 in
    subst IsReadableEvent (ended_is output.1 (events.Deliver to.0 from.0 event.0 output.0) e output.3).1 (to.2, from.2, event.2, output.2)

-- the event is that of this word, or of another
named : (w word : List ℕ) (e : Event) (x y : Option Event) → (x ≡ Some e → IsReadableEvent e) → (y ≡ Some e → IsReadableEvent e)
    → cond (bytes_eq w word) x y ≡ Some e → IsReadableEvent e
named w word e x y is other h = either_word (IsReadableEvent e) w word x y (Some e) (λ same f. is f) other h

pub event_fits : (ws : List (List ℕ)) (e : Event) → event_of ws ≡ Some e → IsReadableEvent e
unfolding event_of
event_fits [] e h = cc
event_fits (w ∷ ws) e h =
    named w (codes "call") e _ _ (call_event_fits ws e)
    (named w (codes "collect") e _ _ (collect_fits ws e)
    (named w (codes "tick") e _ _ (tick_fits ws e)
    (named w (codes "deliver") e _ _ (deliver_fits ws e) (λ none. cc)))) h

all_more : {A : Type 0} (p : A → Bool) (xs : List A) (x : A) → list_all p xs ≡ true → p x ≡ true → list_all p (xs ++ x ∷ []) ≡ true
all_more p xs x h e = list_all-append p xs (x ∷ []) ∙ and_from (list_all p xs) (p x && true) h (and_from (p x) true e refl)

ranges_more : (es : List Event) (e : Event) → AllByRecursion IsReadableEvent es → IsReadableEvent e
    → AllByRecursion IsReadableEvent (es ++ e ∷ [])
ranges_more [] e h one = (one, tt)
ranges_more (x ∷ xs) e h one = (h.0, ranges_more xs e h.1 one)

more_lawful : (s : Schedule) (e : Event) → IsLawful s → IsReadableEvent e → has_actors s.config.specs e ≡ true → length s.events < 100000
    → IsLawful (more s e)
more_lawful s e is fits acts room = record {
  told = is.told;
  ranges = ranges_more s.events e is.ranges fits;
  events = all_more (has_actors s.config.specs) s.events e is.events acts;
  few = grind (arith, common_steps);
}

-- what is left is lawful, where this says whether there is room for the event
abbrev IsLawfulBy : Schedule → Event → (Schedule → Front) → Bool → Type 0
IsLawfulBy s e rest room = IsLawful (or_end s (Some e) (cond room (Ok (more s e)) (Err refusals.Limit)) rest).schedule

by_room : (n : ℕ) (s : Schedule) (e : Event) (b : Bool) (rest : Schedule → Front) → nat_lt (length s.events) 100000 ≡ b
    → ((t : Schedule) → IsLawful t → IsLawful (rest t).schedule) → IsLawful s → IsReadableEvent e → has_actors s.config.specs e ≡ true
    → IsLawful (or_end s (Some e) (with_event n s (Some e)) rest).schedule
by_room n s e true rest room after is fits acts =
    let longer = more_lawful s e is fits acts (ltb-true (length s.events) 100000 room) in
    subst (IsLawfulBy s e rest) (sym room) (after (more s e) longer)
by_room n s e false rest room after is fits acts = subst (IsLawfulBy s e rest) (sym room) is

by_actors : (n : ℕ) (s : Schedule) (e : Event) (b : Bool) (rest : Schedule → Front) → has_actors s.config.specs e ≡ b
    → ((t : Schedule) → IsLawful t → IsLawful (rest t).schedule) → IsLawful s → IsReadableEvent e
    → IsLawful (or_end s (cond b (Some e) None) (with_event n s (cond b (Some e) None)) rest).schedule
by_actors n s e true rest acts after is fits = by_room n s e (nat_lt (length s.events) 100000) rest refl after is fits acts
by_actors n s e false rest acts after is fits = is

by_event : (n : ℕ) (s : Schedule) (o : Option Event) (rest : Schedule → Front) → ((e : Event) → o ≡ Some e → IsReadableEvent e)
    → ((t : Schedule) → IsLawful t → IsLawful (rest t).schedule) → IsLawful s
    → IsLawful (or_end s (acting s.config.specs o) (with_event n s (acting s.config.specs o)) rest).schedule
by_event n s None rest fits after is = is
by_event n s (Some e) rest fits after is = by_actors n s e (has_actors s.config.specs e) rest refl after is (fits e refl)

from_lawful : (n : ℕ) (s : Schedule) (lines : List (List ℕ)) → IsLawful s → IsLawful (front_from n s lines).schedule
unfolding front_from
from_lawful n s [] is = is
from_lawful n s (l ∷ ls) is =
    by_event n s (event_of (words_from l 0)) (λ t. front_from (n + 1) t ls) (event_fits (words_from l 0))
    (λ t lawful. from_lawful (n + 1) t ls lawful) is

without_events_lawful : (c : Settings) → IsTellable c → IsLawful (without_events c)
without_events_lawful c told = record { told = told; ranges = tt; events = refl; few = lit≤ tt }

by_opening : (lines : List (List ℕ)) (o : Result (Settings × List (List ℕ)) ℕ) → opened lines ≡ o → IsLawful (front_by lines o).schedule
by_opening lines (Err n) h =
    without_events_lawful (settings_of []) (record { lawful = uniform_lawful usual_times usual_pool [] refl; pids = tt })
by_opening lines (Ok found) h =
    let front = openings_spelled plain_title timed_title lines found.1 found.0 h in
    from_lawful (line_number lines found.1) (without_events found.0) found.1 (without_events_lawful found.0 front.0)

pub front_is_lawful : (text : List ℕ) → IsLawful (front_of text).schedule
front_is_lawful text = by_opening (lines_of text) (opened (lines_of text)) refl

pub whole_is : (s t : Schedule) (o : Option TextRefusal) → whole s o ≡ Ok t → (s ≡ t) × (o ≡ None)
whole_is s t None h = (cc, refl)
whole_is s t (Some e) h = cc

pub only_lawful : OnlyLawfulAreRead
only_lawful text s h = subst IsLawful (whole_is (front_of text).schedule s (front_of text).refused h).0 (front_is_lawful text)

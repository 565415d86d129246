-- A text that is read as a schedule is plain.
use Rattle.std.proofs.Common.{◌≡◌, ℕ, suc, ◌^◌, ◌-◌, ◌<◌, ◌≤◌, ◌&&◌, not, nat_le, nat_lt, inl, inr, Bool, true, false, cond, List, [], ◌∷◌, ◌++◌, length, map, codes, Some, None, Ok, refl, sym, subst, arith}
use Rattle.std.specs.List.{AllByRecursion, slice_get}
use Rattle.std.specs.Prelude.{◌⊎◌}
use Rattle.std.proofs.lemmas.Bool.{and_parts, leb-true, ltb-false}
use Rattle.std.proofs.lemmas.List.Elements.{All-cons}
use Rattle.vk_types.specs.Types.{ConfigRefusal, ProcessSpec, Times}
use Rattle.vk_base.specs.Pids.{IsPid}
use Rattle.vk_base.specs.Settings.{Settings, fault_of, first_fault, is_too_many, rises, stations_of, times_are_lawful}
use Rattle.vk_base.proofs.OptionLemmas.{or_none}
use Rattle.vk_schedule.specs.declared.event.Event.{Event}
use Rattle.vk_schedule.specs.declared.event.Event.TheVariants as events
use Rattle.vk_schedule.specs.declared.schedule.Schedule.{Schedule}
use Rattle.vk_schedule.specs.Lawful.{IsReadableEvent}
use Rattle.vk_schedule.specs.Schedule.{plain_title, schedule_of, timed_title}
use Rattle.vk_schedule.specs.Spelling.{IsScheduleFront, event_text, event_words, schedule_lines, text_of}
use Rattle.vk_schedule.proofs.FrontLines.{spelled}
use Rattle.vk_schedule.proofs.Lawfulness.{only_lawful}
use Rattle.vk_text.specs.Heads.{process_text, process_words}
use Rattle.vk_text.specs.Openings.{IsTellable, TellPools, pool_text, pool_words, times_text, times_words}
use Rattle.vk_text.proofs.OpeningPools.{pools_within, stations_numbers}
use Rattle.vk_text.proofs.OpeningWords.{IsPool, IsStation}
use Rattle.vk_draw.proofs.PlainTexts.{IsPlain, IsPlainByte, call_plain, joined_plain, letters, lines_plain, more_lines, number_plain, pid_plain}

-- Openings.

process_plain : (s : ProcessSpec) → IsPid s.pid → s.size < 2 ^ 64 → IsPlain (process_text s)
process_plain s fits small =
    joined_plain (process_words s) (letters (codes "process") refl, (pid_plain s.pid fits, (number_plain s.size small, tt)))

small_by : (a b c : Bool) (x y z : ConfigRefusal) → cond a (Some x) (cond b (Some y) (cond c (Some z) None)) ≡ None → b ≡ false
small_by true b c x y z h = cc
small_by false true c x y z h = cc
small_by false false c x y z h = refl

size_fits : (before : List ProcessSpec) (s : ProcessSpec) → fault_of before s ≡ None → s.size ≤ 131072
unfolding fault_of
size_fits before s h = ltb-false 131072 s.size
    (small_by (not (rises (slice_get before (length before - 1)) s.pid)) (nat_lt 131072 s.size) (is_too_many before s.pid.host) _ _ _ h)

plain_behind : (before specs : List ProcessSpec) → AllByRecursion (λ s. IsPid s.pid) specs → first_fault before specs ≡ None →
    AllByRecursion IsPlain (map process_text specs)
plain_behind before [] fits fine = tt
plain_behind before (s ∷ ss) fits fine =
    let faults = or_none (fault_of before s) (first_fault (before ++ s ∷ []) ss) fine in
    let size = size_fits before s faults.0 in
    (process_plain s fits.0 (omega arith), plain_behind (before ++ s ∷ []) ss fits.1 faults.1)

times_plain : (t : Times) → times_are_lawful t ≡ true → IsPlain (times_text t)
times_plain t h =
    let a = and_parts (nat_le 1 t.tries && nat_le t.tries 16 && nat_le 1 t.interval && nat_le t.interval 64) (nat_le t.life 1024) h in
    let b = and_parts (nat_le 1 t.tries && nat_le t.tries 16 && nat_le 1 t.interval) (nat_le t.interval 64) a.0 in
    let d = and_parts (nat_le 1 t.tries && nat_le t.tries 16) (nat_le 1 t.interval) b.0 in
    let e = and_parts (nat_le 1 t.tries) (nat_le t.tries 16) d.0 in
    let tries = leb-true t.tries 16 e.1 in
    let interval = leb-true t.interval 64 b.1 in
    let life = leb-true t.life 1024 a.1 in
    joined_plain (times_words t) (
      letters (codes "times") refl,
      (
        number_plain t.tries (omega arith),
        (number_plain t.interval (omega arith), (number_plain t.life (omega arith), tt)),
      ),
    )

pool_plain : (host pool : ℕ) → IsStation host → IsPool pool → IsPlain (pool_text host pool)
pool_plain host pool h k =
    let high = h.1 in
    let few = k.1 in
    joined_plain (pool_words host pool) (
      letters (codes "pool") refl,
      (number_plain host (omega arith), (number_plain pool (omega arith), tt)),
    )

pools_plain : (hosts pools : List ℕ) (told : List (List ℕ)) → AllByRecursion IsStation hosts → AllByRecursion IsPool pools →
    TellPools hosts pools told → AllByRecursion IsPlain told
pools_plain [] [] told numbers fits tell = subst (AllByRecursion IsPlain) (sym tell.2) tt
pools_plain [] (k ∷ ks) told numbers fits tell = let not_so : k ∷ ks ≡ [] = tell.1 in cc
pools_plain (h ∷ hs) [] told numbers fits tell = let not_so : h ∷ hs ≡ [] = tell.0 in cc
pools_plain (h ∷ hs) (k ∷ ks) told numbers fits (inl tell) = pools_plain hs ks told numbers.1 fits.1 tell.1
pools_plain (h ∷ hs) (k ∷ ks) told numbers fits (inr tell) =
    subst (AllByRecursion IsPlain) (sym tell.1) (pool_plain h k numbers.0 fits.0, pools_plain hs ks tell.0 numbers.1 fits.1 tell.2)

opening_plain : (c : Settings) (ls : List (List ℕ)) → IsTellable c → IsScheduleFront c ls → AllByRecursion IsPlain ls
opening_plain c ls told (inl is) =
    subst (AllByRecursion IsPlain) (sym is.1) (letters plain_title refl, plain_behind [] c.specs told.pids told.lawful.processes)
opening_plain c ls told (inr is) =
    let pools = pools_plain (stations_of c.specs) c.pools is.0 (stations_numbers c.specs) (pools_within c.pools told.lawful.pools) is.1 in
    subst (AllByRecursion IsPlain) (sym is.2) (
      letters timed_title refl,
      (
        times_plain c.times told.lawful.times,
        more_lines (map process_text c.specs) is.0 (plain_behind [] c.specs told.pids told.lawful.processes) pools,
      ),
    )

-- Events.

event_plain : (e : Event) → IsReadableEvent e → AllByRecursion IsPlain (event_words e)
event_plain (events.Call pid call) h = (letters (codes "call") refl, (pid_plain pid h.0, call_plain call h.1))
event_plain (events.Collect pid) h = (letters (codes "collect") refl, (pid_plain pid h, tt))
event_plain (events.Tick host) h = let most = h.1 in (letters (codes "tick") refl, (number_plain host (omega (arith, most)), tt))
event_plain (events.Deliver to from event output) h =
    let most = h.0.1 in
    let also = h.1.1 in
    let late = h.2.1 in
    let last = h.3.1 in (
      letters (codes "deliver") refl,
      (
        number_plain to (omega (arith, most)),
        (
          number_plain from (omega (arith, also)),
          (number_plain event (omega (arith, late)), (number_plain output (omega (arith, last)), tt)),
        ),
      ),
    )

events_plain : (es : List Event) → AllByRecursion IsReadableEvent es → AllByRecursion IsPlain (map event_text es)
events_plain [] h = tt
events_plain (e ∷ es) h = (joined_plain (event_words e) (event_plain e h.0), events_plain es h.1)

-- The text, of which the last line feed may lack.

front_plain : (a b : List ℕ) → IsPlain (a ++ b) → IsPlain a
front_plain [] b h = λ k d l. absurd (omega (arith, l))
front_plain (x ∷ xs) b h = All-cons IsPlainByte x xs (h 0 x (omega arith)) (front_plain xs b (λ k d l. h (suc k) d (omega (arith, l))))

text_by : (text all : List ℕ) → IsPlain all → (text ≡ all) ⊎ (text ++ codes "\n" ≡ all) → IsPlain text
text_by text all plain (inl is) = subst IsPlain (sym is) plain
text_by text all plain (inr is) = front_plain text (codes "\n") (subst IsPlain (sym is) plain)

pub schedule_plain : (text : List ℕ) (s : Schedule) → schedule_of text ≡ Ok s → IsPlain text
schedule_plain text s is =
    let told = spelled text s is in
    let lawful = only_lawful text s is in
    text_by text (text_of (schedule_lines told.0 s))
    (lines_plain (schedule_lines told.0 s)
    (more_lines told.0 (map event_text s.events) (opening_plain s.config told.0 lawful.told told.1) (events_plain s.events lawful.ranges)))
    told.2

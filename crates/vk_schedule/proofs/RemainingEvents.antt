-- What is left of a front.
use Rattle.std.proofs.Common.{◌≡◌, ℕ, ◌+◌, ◌<◌, ◌≤◌, nat_lt, Bool, true, false, cond, List, [], ◌∷◌, ◌++◌, length, drop, Option, Some, None, Result, Ok, Err, IfOk, refl, sym, ap, subst, ◌∙◌, arith, append-nil, append_assoc, length-append}
use Rattle.std.proofs.lemmas.Bool.{le-ltb, lt-ltb}
use Rattle.std.proofs.lemmas.Option.{cond_some}
use Rattle.vk_types.specs.Types.{NoMemory, ProcessSpec}
use Rattle.vk_base.specs.Settings.{Settings}
use Rattle.vk_text.specs.Lines.{lines_of, words_from}
use Rattle.vk_text.specs.Openings.{line_number}
use Rattle.vk_schedule.specs.declared.event.Event.{Event}
use Rattle.vk_schedule.specs.declared.schedule.Front.{Front}
use Rattle.vk_schedule.specs.declared.schedule.Schedule.{Schedule}
use Rattle.vk_schedule.specs.declared.schedule.TextRefusal.TheVariants as refusals
use Rattle.vk_schedule.specs.Lawful.{IsLawful, IsReadableEvent, has_actors}
use Rattle.vk_schedule.specs.Remaining.{IsNextEvent, behind, end_of, left_by, front_left}
use Rattle.vk_schedule.specs.Schedule.{acting, event_of, more, or_end, with_event, next_event, front_from, without_events, front_by, front_of, opened}
use Rattle.vk_text.specs.Spelling.{joined}
use Rattle.vk_text.proofs.ReadBack.{line_joined}
use Rattle.vk_schedule.specs.Spelling.{event_text}
use Rattle.vk_schedule.proofs.Events.{event_spelled}
use Rattle.vk_schedule.proofs.Lawfulness.{event_fits}
use Rattle.vk_schedule.proofs.Wanted.{some_actor}

pub behind_both : (xs ys : List Event) (f : Front) → behind (xs ++ ys) f ≡ behind xs (behind ys f)
behind_both xs ys f =
    ap (λ (es : List Event). let g : Front = record f { schedule = record f.schedule { events = es } } in g)
    (append_assoc xs ys f.schedule.events)

-- what a front has behind all of its events
ending : (f : Front) (es : List Event) → f.schedule.events ≡ [] → behind es f ≡ record f { schedule = record f.schedule { events = es } }
ending f es none =
    ap (λ (l : List Event). let g : Front = record f { schedule = record f.schedule { events = l } } in g)
    (ap (λ (l : List Event). es ++ l) none ∙ append-nil es)

from_room : (s : Schedule) (e : Event) (b : Bool) (rest : Schedule → Front) (left : Front) → rest (more s e) ≡ behind (s.events ++ e ∷ []) left
    → or_end s (Some e) (cond b (Ok (more s e)) (Err refusals.Limit)) rest
    ≡ behind s.events (cond b (behind (e ∷ []) left) (end_of s.config (Some refusals.Limit) (Some e)))
from_room s e true rest left after = after ∙ behind_both s.events (e ∷ []) left
from_room s e false rest left after = sym (ending (end_of s.config (Some refusals.Limit) (Some e)) s.events refl)

from_event : (n : ℕ) (s : Schedule) (o : Option Event) (rest : Schedule → Front) (left : Front)
    → ((e : Event) → rest (more s e) ≡ behind (s.events ++ e ∷ []) left)
    → or_end s o (with_event n s o) rest ≡ behind s.events (left_by s.config (length s.events) n o left)
from_event n s None rest left after = sym (ending (end_of s.config (Some (refusals.BadInput n)) None) s.events refl)
from_event n s (Some e) rest left after = from_room s e (nat_lt (length s.events) 100000) rest left (after e)

-- what is left stands behind what was taken
pub from_left : (n : ℕ) (s : Schedule) (lines : List (List ℕ)) → front_from n s lines ≡ behind s.events (front_left s.config (length s.events) n lines)
unfolding front_from front_left
from_left n s [] = sym (ending (end_of s.config None None) s.events refl)
from_left n s (l ∷ ls) =
    from_event n s (next_event s l) (λ t. front_from (n + 1) t ls) (front_left s.config (length s.events + 1) (n + 1) ls)
    (λ e. from_left (n + 1) (more s e) ls
    ∙ ap (λ k. behind (s.events ++ e ∷ []) (front_left s.config k (n + 1) ls)) (length-append s.events (e ∷ [])))

-- all is left behind the opening
pub all_left : (text : List ℕ) (c : Settings) (at line : ℕ) → opened (lines_of text) ≡ Ok (c, lines_of (drop at text))
    → line ≡ line_number (lines_of text) (lines_of (drop at text)) → front_left c 0 line (lines_of (drop at text)) ≡ front_of text
all_left text c at line found number =
    ap (λ n. front_left c 0 n (lines_of (drop at text))) number
    ∙ sym (ap (front_by (lines_of text)) found
    ∙ from_left (line_number (lines_of text) (lines_of (drop at text))) (without_events c) (lines_of (drop at text)))

-- the configuration is that of the reader

config_by_room : (c : Settings) (e : Event) (b : Bool) (rest : Front) → rest.schedule.config ≡ c
    → (cond b (behind (e ∷ []) rest) (end_of c (Some refusals.Limit) (Some e))).schedule.config ≡ c
config_by_room c e true rest after = after
config_by_room c e false rest after = refl

config_by : (c : Settings) (given n : ℕ) (o : Option Event) (rest : Front) → rest.schedule.config ≡ c
    → (left_by c given n o rest).schedule.config ≡ c
config_by c given n None rest after = refl
config_by c given n (Some e) rest after = config_by_room c e (nat_lt given 100000) rest after

pub config_left : (c : Settings) (given n : ℕ) (lines : List (List ℕ)) → (front_left c given n lines).schedule.config ≡ c
unfolding front_left
config_left c given n [] = refl
config_left c given n (l ∷ ls) =
    config_by c given n (acting c.specs (event_of (words_from l 0))) (front_left c (given + 1) (n + 1) ls)
    (config_left c (given + 1) (n + 1) ls)

-- the next line

pub nothing_left : (c : Settings) (given n : ℕ) (lines : List (List ℕ)) → lines ≡ [] → front_left c given n lines ≡ end_of c None None
unfolding front_left
nothing_left c given n lines none = ap (front_left c given n) none

pub line_left : (c : Settings) (given n : ℕ) (lines ls : List (List ℕ)) (l : List ℕ) (o : Option Event) → lines ≡ l ∷ ls
    → o ≡ acting c.specs (event_of (words_from l 0)) → front_left c given n lines ≡ left_by c given n o (front_left c (given + 1) (n + 1) ls)
unfolding front_left
line_left c given n lines ls l o here is =
    ap (front_left c given n) here ∙ ap (λ (x : Option Event). left_by c given n x (front_left c (given + 1) (n + 1) ls)) (sym is)

-- an event that there is room for is the next
pub event_next : (c : Settings) (given n : ℕ) (lines ls : List (List ℕ)) (l : List ℕ) (e : Event) → lines ≡ l ∷ ls
    → Some e ≡ acting c.specs (event_of (words_from l 0)) → given < 100000
    → front_left c given n lines ≡ behind (e ∷ []) (front_left c (given + 1) (n + 1) ls)
event_next c given n lines ls l e here is room =
    let rest : Front = front_left c (given + 1) (n + 1) ls in
    line_left c given n lines ls l (Some e) here is
    ∙ ap (λ b. cond b (behind (e ∷ []) rest) (end_of c (Some refusals.Limit) (Some e))) (lt-ltb given 100000 room)

-- none is left where no event stands in the line, or none has room
none_full : (c : Settings) (given n : ℕ) (o : Option Event) (rest : Front) → nat_lt given 100000 ≡ false
    → (left_by c given n o rest).schedule.events ≡ []
none_full c given n None rest full = refl
none_full c given n (Some e) rest full =
    ap (λ b. (cond b (behind (e ∷ []) rest) (end_of c (Some refusals.Limit) (Some e))).schedule.events) full

pub none_at_limit : (c : Settings) (given n : ℕ) (lines ls : List (List ℕ)) (l : List ℕ) → lines ≡ l ∷ ls → 100000 ≤ given
    → (front_left c given n lines).schedule.events ≡ []
none_at_limit c given n lines ls l here full =
    ap (λ (f : Front). f.schedule.events)
    (line_left c given n lines ls l (acting c.specs (event_of (words_from l 0))) here refl)
    ∙ none_full c given n (acting c.specs (event_of (words_from l 0))) (front_left c (given + 1) (n + 1) ls) (le-ltb given 100000 full)

-- the end, where an event stands in the line

full_by : (c : Settings) (e : Event) (b : Bool) (rest : Front)
    → (cond b (behind (e ∷ []) rest) (end_of c (Some refusals.Limit) (Some e))).schedule.events ≡ []
    → cond b (behind (e ∷ []) rest) (end_of c (Some refusals.Limit) (Some e)) ≡ end_of c (Some refusals.Limit) (Some e)
full_by c e true rest none = cc
full_by c e false rest none = refl

pub one_too_many : (c : Settings) (given n : ℕ) (lines ls : List (List ℕ)) (l : List ℕ) (e : Event) → lines ≡ l ∷ ls
    → Some e ≡ acting c.specs (event_of (words_from l 0)) → (front_left c given n lines).schedule.events ≡ []
    → front_left c given n lines ≡ end_of c (Some refusals.Limit) (Some e)
one_too_many c given n lines ls l e here is none =
    let rest : Front = front_left c (given + 1) (n + 1) ls in
    let left = line_left c given n lines ls l (Some e) here is in
    left ∙ full_by c e (nat_lt given 100000) rest (sym (ap (λ (f : Front). f.schedule.events) left) ∙ none)

-- what is known of an event that is given

acting_some : (specs : List ProcessSpec) (o : Option Event) (e : Event) → acting specs o ≡ Some e
    → (o ≡ Some e) × (has_actors specs e ≡ true)
acting_some specs None e h = cc
acting_some specs (Some x) e h =
    let is = cond_some (has_actors specs x) x e h in
    (ap Some is.1, sym (ap (has_actors specs) is.1) ∙ is.0)

fits : (specs : List ProcessSpec) (l : List ℕ) (e : Event) → Some e ≡ acting specs (event_of (words_from l 0))
    → IsReadableEvent e × (has_actors specs e ≡ true)
fits specs l e is =
    let got = acting_some specs (event_of (words_from l 0)) e (sym is) in
    (event_fits (words_from l 0) e got.0, got.1)

pub given_fits : (f : Front) (c : Settings) (given n : ℕ) (lines : List (List ℕ)) (l : List ℕ) (e : Event)
    → front_left c given n lines ≡ f → Some e ≡ acting c.specs (event_of (words_from l 0))
    → IsReadableEvent e × (has_actors f.schedule.config.specs e ≡ true)
given_fits f c given n lines l e left is =
    let same : c ≡ f.schedule.config = sym (config_left c given n lines) ∙ ap (λ (x : Front). x.schedule.config) left in
    subst (λ (d : Settings). IsReadableEvent e × (has_actors d.specs e ≡ true)) same (fits c.specs l e is)

-- its line is spelled as it is
pub line_spelled : (specs : List ProcessSpec) (l : List ℕ) (e : Event) → Some e ≡ acting specs (event_of (words_from l 0)) → l ≡ event_text e
line_spelled specs l e is =
    sym (line_joined l) ∙ ap joined (event_spelled (words_from l 0) e (acting_some specs (event_of (words_from l 0)) e (sym is)).0)

-- a loop over what is left

pub is_next : (old new : Front) (b : Bool) (e : Event) → b ≡ true → IsNextEvent old new (cond b (Some e) None) → old ≡ behind (e ∷ []) new
is_next old new true e is next = next
is_next old new false e is next = cc

pub is_end : (old new : Front) (b : Bool) (e : Event) → b ≡ false → IsNextEvent old new (cond b (Some e) None)
    → (old.schedule.events ≡ []) × (new ≡ old)
is_end old new true e is next = cc
is_end old new false e is next = next

-- fewer are left
pub fewer : (old new : Front) (e : Event) → old ≡ behind (e ∷ []) new → length new.schedule.events < length old.schedule.events
fewer old new e step =
    let count : length old.schedule.events ≡ length (e ∷ new.schedule.events) = ap (λ (f : Front). length f.schedule.events) step in
    omega (arith, count)

-- memory is wanted for an event, which a process has
pub wanted : (all old : Front) (es : List Event) (e : Event) → all ≡ behind es old → has_actors old.schedule.config.specs e ≡ true
    → 0 < length all.schedule.config.specs
wanted all old es e so acts =
    let same : length all.schedule.config.specs ≡ length old.schedule.config.specs = ap (λ (f : Front). length f.schedule.config.specs) so in
    omega (arith, same, some_actor old.schedule.config.specs e acts)

pub one_more : (all old new : Front) (es : List Event) (e : Event) → all ≡ behind es old → old ≡ behind (e ∷ []) new
    → all ≡ behind (es ++ e ∷ []) new
one_more all old new es e so step = so ∙ ap (behind es) step ∙ sym (behind_both es (e ∷ []) new)

pub all_given : (all left : Front) (es : List Event) → all ≡ behind es left → left.schedule.events ≡ []
    → all ≡ record left { schedule = record left.schedule { events = es } }
all_given all left es so none = so ∙ ending left es none

-- what a collected front is

pub lawful_result : (r : Result Front NoMemory) (f : Front) → IfOk r (λ g. g ≡ f) → IsLawful f.schedule → IfOk r (λ g. IsLawful g.schedule)
lawful_result (Ok g) f is lawful = subst (λ (x : Front). IsLawful x.schedule) (sym is) lawful
lawful_result (Err e) f is lawful = tt

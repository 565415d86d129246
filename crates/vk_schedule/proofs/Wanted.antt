-- Memory is wanted only for lines that are taken.
use Rattle.std.proofs.Common.{◌≡◌, ℕ, ◌+◌, ◌<◌, ◌≤◌, nat_lt, Bool, true, false, cond, List, [], ◌∷◌, ◌++◌, length, map, Option, Some, None, Result, Ok, Err, refl, ap, ◌∙◌, ◌⊎◌, inl, inr, arith}
use Rattle.std.proofs.lemmas.List.{length-append, length-map}
use Rattle.vk_types.specs.Types.{ProcessSpec}
use Rattle.vk_base.specs.Settings.{Settings}
use Rattle.vk_text.specs.Heads.{process_text}
use Rattle.vk_text.specs.Lines.{lines_of}
use Rattle.vk_text.specs.Openings.{HasProcesses, line_number}
use Rattle.vk_text.specs.declared.opening.OpeningRefusal.{OpeningRefusal}
use Rattle.vk_text.specs.declared.opening.OpeningRefusal.TheVariants as opening_refusals
use Rattle.vk_text.proofs.OpeningLaws.{openings_spelled}
use Rattle.vk_schedule.specs.declared.event.Event.{Event}
use Rattle.vk_schedule.specs.declared.event.Event.TheVariants as events
use Rattle.vk_schedule.specs.declared.schedule.Front.{Front}
use Rattle.vk_schedule.specs.declared.schedule.Schedule.{Schedule}
use Rattle.vk_schedule.specs.declared.schedule.TextRefusal.{TextRefusal}
use Rattle.vk_schedule.specs.declared.schedule.TextRefusal.TheVariants as refusals
use Rattle.vk_schedule.specs.Lawful.{has_actors}
use Rattle.vk_schedule.specs.Schedule.{HasProcess, as_text, front_by, front_from, front_of, more, next_event, opened, plain_title, timed_title, unopened, without_events, or_end, with_event}
use Rattle.vk_schedule.specs.Spelling.{IsScheduleFront}

-- the processes of a front are those of its head

kept_by_room : (s : Schedule) (e : Event) (b : Bool) (rest : Schedule → Front)
    → ((t : Schedule) → (rest t).schedule.config.specs ≡ t.config.specs)
    → (or_end s (Some e) (cond b (Ok (more s e)) (Err refusals.Limit)) rest).schedule.config.specs ≡ s.config.specs
kept_by_room s e true rest after = after (more s e)
kept_by_room s e false rest after = refl

kept_by : (n : ℕ) (s : Schedule) (o : Option Event) (rest : Schedule → Front)
    → ((t : Schedule) → (rest t).schedule.config.specs ≡ t.config.specs)
    → (or_end s o (with_event n s o) rest).schedule.config.specs ≡ s.config.specs
kept_by n s None rest after = refl
kept_by n s (Some e) rest after = kept_by_room s e (nat_lt (length s.events) 100000) rest after

specs_kept : (n : ℕ) (s : Schedule) (lines : List (List ℕ)) → (front_from n s lines).schedule.config.specs ≡ s.config.specs
unfolding front_from
specs_kept n s [] = refl
specs_kept n s (l ∷ ls) = kept_by n s (next_event s l) (λ t. front_from (n + 1) t ls) (λ t. specs_kept (n + 1) t ls)

-- a bad line stands behind the opening

bad_by_room : (least : ℕ) (s : Schedule) (e : Event) (b : Bool) (rest : Schedule → Front) (n : ℕ)
    → ((t : Schedule) → (rest t).refused ≡ Some (refusals.BadInput n) → least ≤ n)
    → (or_end s (Some e) (cond b (Ok (more s e)) (Err refusals.Limit)) rest).refused ≡ Some (refusals.BadInput n) → least ≤ n
bad_by_room least s e true rest n after h = after (more s e) h
bad_by_room least s e false rest n after h = cc

bad_by : (least : ℕ) (s : Schedule) (o : Option Event) (rest : Schedule → Front) (n : ℕ)
    → ((t : Schedule) → (rest t).refused ≡ Some (refusals.BadInput n) → least ≤ n)
    → (or_end s o (with_event least s o) rest).refused ≡ Some (refusals.BadInput n) → least ≤ n
bad_by least s None rest n after h = let same : least ≡ n = cc in omega (arith, same)
bad_by least s (Some e) rest n after h = bad_by_room least s e (nat_lt (length s.events) 100000) rest n after h

bad_behind : (least : ℕ) (s : Schedule) (lines : List (List ℕ)) (n : ℕ) → (front_from least s lines).refused ≡ Some (refusals.BadInput n)
    → least ≤ n
unfolding front_from
bad_behind least s [] n h = cc
bad_behind least s (l ∷ ls) n h =
    bad_by least s (next_event s l) (λ t. front_from (least + 1) t ls) n (λ t e. omega (arith, bad_behind (least + 1) t ls n e)) h

opening_length : (c : Settings) (ls : List (List ℕ)) → IsScheduleFront c ls → length c.specs + 1 ≤ length ls
opening_length c ls (inl is) = omega (arith, ap length is.1, length-map c.specs process_text)
opening_length c ls (inr is) =
    omega (arith, ap length is.2, length-append (map process_text c.specs) is.0, length-map c.specs process_text)

number_behind : (lines front body : List (List ℕ)) (n : ℕ) → lines ≡ front ++ body → n ≤ length front → n + 1 ≤ line_number lines body
number_behind lines front body n is long = omega (arith, ap length is, length-append front body, long)

bad_in : (lines : List (List ℕ)) (o : Result (Settings × List (List ℕ)) ℕ) (n : ℕ) → opened lines ≡ o
    → 0 < length (front_by lines o).schedule.config.specs → (front_by lines o).refused ≡ Some (refusals.BadInput n) → 2 < n
bad_in lines (Err m) n is some h = absurd (omega (arith, some))
bad_in lines (Ok found) n is some h =
    let front = openings_spelled plain_title timed_title lines found.1 found.0 is in
    let least = number_behind lines front.1.0 found.1 (length found.0.specs + 1) front.1.2 (opening_length found.0 front.1.0 front.1.1) in
    let number = line_number lines found.1 in
    omega (
      arith,
      some,
      ap length (specs_kept number (without_events found.0) found.1),
      bad_behind number (without_events found.0) found.1 n h,
      least,
    )

-- where the text opens with a process, no line before the third is bad
pub bad_line : (text : List ℕ) (n : ℕ) → HasProcess text → (front_of text).refused ≡ Some (refusals.BadInput n) → 2 < n
bad_line text n some h = bad_in (lines_of text) (opened (lines_of text)) n refl some h

-- why there is no opening
abbrev pub IsCause : List ℕ → OpeningRefusal → Type 0
IsCause text e =
    ((e ≡ opening_refusals.NoMemory) × HasProcesses (opened (lines_of text)))
    ⊎ ((line : ℕ) × (e ≡ opening_refusals.Bad line) × (opened (lines_of text) ≡ Err line))

-- memory was wanted for a process

wanted_in : (lines : List (List ℕ)) (o : Result (Settings × List (List ℕ)) ℕ) → HasProcesses o
    → 0 < length (front_by lines o).schedule.config.specs
wanted_in lines (Err n) some = absurd some
wanted_in lines (Ok found) some =
    omega (arith, some, ap length (specs_kept (line_number lines found.1) (without_events found.0) found.1))

pub refused_as : (text : List ℕ) (e : OpeningRefusal) (r : TextRefusal) → r ≡ as_text e → IsCause text e
    → ((r ≡ refusals.NoMemory) × HasProcess text) ⊎ ((line : ℕ) × (r ≡ refusals.BadInput line) × (front_of text ≡ unopened line))
refused_as text e r is (inl h) = inl (is ∙ ap as_text h.0, wanted_in (lines_of text) (opened (lines_of text)) h.1)
refused_as text e r is (inr h) = inr (h.0, is ∙ ap as_text h.1, ap (front_by (lines_of text)) h.2)

-- memory is wanted for an event, which a process has

pub some_actor : (specs : List ProcessSpec) (e : Event) → has_actors specs e ≡ true → 0 < length specs
some_actor [] (events.Call pid call) h = cc
some_actor [] (events.Collect pid) h = cc
some_actor [] (events.Tick host) h = cc
some_actor [] (events.Deliver to from event output) h = cc
some_actor (s ∷ ss) e h = omega arith

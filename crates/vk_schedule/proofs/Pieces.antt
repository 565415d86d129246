-- A schedule's text that is read piece by piece.
use Rattle.std.proofs.Common.{◌≡◌, ℕ, ◌+◌, ◌<◌, ◌≤◌, nat_lt, Bool, true, false, cond, suc, List, [], ◌∷◌, ◌++◌, length, drop, Option, Some, None, Result, Ok, Err, refl, sym, subst, ap, ◌∙◌, arith, append_assoc}
use Rattle.std.proofs.lemmas.Bool.{ltb-true}
use Rattle.std.proofs.lemmas.List.{length-append}
use Rattle.vk_base.specs.Settings.{Settings}
use Rattle.vk_base.specs.declared.limits.TheConstants.{EVENTS}
use Rattle.vk_text.specs.Lines.{lines_of, words_from}
use Rattle.vk_text.specs.Openings.{line_number}
use Rattle.vk_text.proofs.Appended.{Leaves, found_more, opening_more, piece_append}
use Rattle.vk_schedule.specs.declared.event.Event.{Event}
use Rattle.vk_schedule.specs.declared.schedule.Front.{Front}
use Rattle.vk_schedule.specs.declared.schedule.Schedule.{Schedule}
use Rattle.vk_schedule.specs.declared.schedule.TextRefusal.{TextRefusal}
use Rattle.vk_schedule.specs.declared.schedule.TextRefusal.TheVariants as refusals
use Rattle.vk_schedule.specs.Remaining.{IsReadTo, behind, end_of, left_by, front_left}
use Rattle.vk_schedule.specs.Schedule.{acting, event_of, front_by, front_of, opened, plain_title, schedule_of, timed_title, whole, without_events}
use Rattle.vk_schedule.proofs.RemainingEvents.{behind_both, config_left, from_left}

-- An opening that leaves a line.

pub opened_more : (ls ms left : List (List ℕ)) (c : Settings) → opened ls ≡ Ok (c, left) → 0 < length left
    → opened (ls ++ ms) ≡ Ok (c, left ++ ms)
opened_more ls ms left c is some =
    opening_more plain_title timed_title ls ms (subst Leaves (sym is) some)
    ∙ ap (λ (o : Result (Settings × List (List ℕ)) ℕ). found_more o ms) is

-- Events.

-- what is read of more lines behind those of which this was read
abbrev read_on : Settings → ℕ → ℕ → Front → List (List ℕ) → Front
read_on c given n r ms =
    behind r.schedule.events (front_left c (given + length r.schedule.events) (n + length r.schedule.events) ms)

on_by_room : (c : Settings) (given n : ℕ) (e : Event) (b : Bool) (rest all : Front) (ms : List (List ℕ))
    → (rest.refused ≡ None → all ≡ read_on c (given + 1) (n + 1) rest ms)
    → (let r = cond b (behind (e ∷ []) rest) (end_of c (Some refusals.Limit) (Some e)) in
    r.refused ≡ None → cond b (behind (e ∷ []) all) (end_of c (Some refusals.Limit) (Some e)) ≡ read_on c given n r ms)
on_by_room c given n e true rest all ms after fine =
    let count = length rest.schedule.events in
    let many : given + 1 + count ≡ given + suc count = omega arith in
    let number : n + 1 + count ≡ n + suc count = omega arith in
    ap (behind (e ∷ [])) (after fine)
    ∙ ap (λ g. behind (e ∷ rest.schedule.events) (front_left c g (n + 1 + count) ms)) many
    ∙ ap (λ k. behind (e ∷ rest.schedule.events) (front_left c (given + suc count) k ms)) number
on_by_room c given n e false rest all ms after fine = cc

on_by : (c : Settings) (given n : ℕ) (o : Option Event) (rest all : Front) (ms : List (List ℕ))
    → (rest.refused ≡ None → all ≡ read_on c (given + 1) (n + 1) rest ms)
    → (left_by c given n o rest).refused ≡ None → left_by c given n o all ≡ read_on c given n (left_by c given n o rest) ms
on_by c given n None rest all ms after fine = cc
on_by c given n (Some e) rest all ms after fine = on_by_room c given n e (nat_lt given 100000) rest all ms after fine

-- where no line is refused, more lines are read as events behind theirs
pub left_append : (c : Settings) (given n : ℕ) (ls ms : List (List ℕ)) → (let r = front_left c given n ls in
    r.refused ≡ None → front_left c given n (ls ++ ms)
    ≡ behind r.schedule.events (front_left c (given + length r.schedule.events) (n + length r.schedule.events) ms))
unfolding front_left
left_append c given n [] ms fine =
    let many : given ≡ given + 0 = omega arith in
    let number : n ≡ n + 0 = omega arith in
    ap (λ g. front_left c g n ms) many ∙ ap (λ k. front_left c (given + 0) k ms) number
left_append c given n (l ∷ ls) ms fine =
    on_by c given n (acting c.specs (event_of (words_from l 0))) (front_left c (given + 1) (n + 1) ls)
    (front_left c (given + 1) (n + 1) (ls ++ ms)) ms (left_append c (given + 1) (n + 1) ls ms) fine

ended_by_room : (c : Settings) (e : Event) (why : TextRefusal) (b : Bool) (rest all : Front)
    → (rest.refused ≡ Some why → all ≡ rest)
    → (let r = cond b (behind (e ∷ []) rest) (end_of c (Some refusals.Limit) (Some e)) in
    r.refused ≡ Some why → cond b (behind (e ∷ []) all) (end_of c (Some refusals.Limit) (Some e)) ≡ r)
ended_by_room c e why true rest all after refused = ap (behind (e ∷ [])) (after refused)
ended_by_room c e why false rest all after refused = refl

ended_by : (c : Settings) (given n : ℕ) (why : TextRefusal) (o : Option Event) (rest all : Front)
    → (rest.refused ≡ Some why → all ≡ rest)
    → (left_by c given n o rest).refused ≡ Some why → left_by c given n o all ≡ left_by c given n o rest
ended_by c given n why None rest all after refused = refl
ended_by c given n why (Some e) rest all after refused = ended_by_room c e why (nat_lt given 100000) rest all after refused

-- where a line is refused, no line behind it is read
pub left_ends : (c : Settings) (given n : ℕ) (ls ms : List (List ℕ)) (why : TextRefusal) → (front_left c given n ls).refused ≡ Some why
    → front_left c given n (ls ++ ms) ≡ front_left c given n ls
unfolding front_left
left_ends c given n [] ms why refused = cc
left_ends c given n (l ∷ ls) ms why refused =
    ended_by c given n why (acting c.specs (event_of (words_from l 0))) (front_left c (given + 1) (n + 1) ls)
    (front_left c (given + 1) (n + 1) (ls ++ ms)) (left_ends c (given + 1) (n + 1) ls ms why) refused

-- Pieces.

-- the first piece has the opening, and a line behind it
pub begins : (piece front : List ℕ) (c : Settings) (at line : ℕ) → piece ≡ front ++ 10 ∷ [] → 0 < length (lines_of (drop at piece))
    → opened (lines_of piece) ≡ Ok (c, lines_of (drop at piece)) → line ≡ line_number (lines_of piece) (lines_of (drop at piece))
    → (let r = front_left c 0 line (lines_of (drop at piece)) in
    r.refused ≡ None → IsReadTo piece c r.schedule.events (line + length r.schedule.events))
begins piece front c at line ends some is number fine more =
    let left : List (List ℕ) = lines_of (drop at piece) in
    let ms : List (List ℕ) = lines_of more in
    let r : Front = front_left c 0 line left in
    let none_before : 0 + length r.schedule.events ≡ length r.schedule.events = omega arith in
    let all = piece_append piece front more ends in
    let same : line_number (lines_of piece ++ ms) (left ++ ms) ≡ line =
    omega (arith, number, length-append (lines_of piece) ms, length-append left ms) in
    ap (λ (ls : List (List ℕ)). front_by ls (opened ls)) all
    ∙ ap (front_by (lines_of piece ++ ms)) (opened_more (lines_of piece) ms left c is some)
    ∙ from_left (line_number (lines_of piece ++ ms) (left ++ ms)) (without_events c) (left ++ ms)
    ∙ ap (λ n. front_left c 0 n (left ++ ms)) same
    ∙ left_append c 0 line left ms fine
    ∙ ap (λ k. behind r.schedule.events (front_left c k (line + length r.schedule.events) ms)) none_before

-- a piece more, whose lines are those of events
pub goes_on : (text piece front : List ℕ) (c : Settings) (es : List Event) (line : ℕ) → IsReadTo text c es line → piece ≡ front ++ 10 ∷ []
    → (let r = front_left c (length es) line (lines_of piece) in
    r.refused ≡ None → IsReadTo (text ++ piece) c (es ++ r.schedule.events) (line + length r.schedule.events))
goes_on text piece front c es line read ends fine more =
    let r : Front = front_left c (length es) line (lines_of piece) in
    let next : ℕ = line + length r.schedule.events in
    ap front_of (append_assoc text piece more) ∙ read (piece ++ more)
    ∙ ap (λ (ls : List (List ℕ)). behind es (front_left c (length es) line ls)) (piece_append piece front more ends)
    ∙ ap (behind es) (left_append c (length es) line (lines_of piece) (lines_of more) fine)
    ∙ sym (behind_both es r.schedule.events (front_left c (length es + length r.schedule.events) next (lines_of more)))
    ∙ ap (λ k. behind (es ++ r.schedule.events) (front_left c k next (lines_of more))) (sym (length-append es r.schedule.events))

-- the last piece

refused_as_left : (text piece : List ℕ) (c : Settings) (es : List Event) (line : ℕ) (o : Option TextRefusal) → IsReadTo text c es line
    → (front_left c (length es) line (lines_of piece)).refused ≡ o
    → schedule_of (text ++ piece) ≡ whole (behind es (front_left c (length es) line (lines_of piece))).schedule o
refused_as_left text piece c es line o read is =
    let r : Front = behind es (front_left c (length es) line (lines_of piece)) in
    ap (λ (f : Front). whole f.schedule f.refused) (read piece) ∙ ap (whole r.schedule) is

pub reads_all : (text piece : List ℕ) (c : Settings) (es : List Event) (line : ℕ) → IsReadTo text c es line
    → (let r = front_left c (length es) line (lines_of piece) in
    r.refused ≡ None → schedule_of (text ++ piece) ≡ Ok (record { config = c; events = es ++ r.schedule.events }))
reads_all text piece c es line read fine =
    let r : Front = front_left c (length es) line (lines_of piece) in
    refused_as_left text piece c es line None read fine
    ∙ ap (λ (d : Settings). let s : Schedule = record { config = d; events = es ++ r.schedule.events } in
    let t : Result Schedule TextRefusal = Ok s in t) (config_left c (length es) line (lines_of piece))

pub is_refused : (text piece : List ℕ) (c : Settings) (es : List Event) (line : ℕ) (why : TextRefusal) → IsReadTo text c es line
    → (front_left c (length es) line (lines_of piece)).refused ≡ Some why → schedule_of (text ++ piece) ≡ Err why
is_refused text piece c es line why read refused = refused_as_left text piece c es line (Some why) read refused

-- whatever stands behind a piece that is refused is not read
pub front_ends : (text piece front : List ℕ) (c : Settings) (es : List Event) (line : ℕ) (why : TextRefusal) (more : List ℕ)
    → IsReadTo text c es line → piece ≡ front ++ 10 ∷ [] → (front_left c (length es) line (lines_of piece)).refused ≡ Some why
    → front_of (text ++ (piece ++ more)) ≡ behind es (front_left c (length es) line (lines_of piece))
front_ends text piece front c es line why more read ends refused =
    read (piece ++ more)
    ∙ ap (λ (ls : List (List ℕ)). behind es (front_left c (length es) line ls)) (piece_append piece front more ends)
    ∙ ap (behind es) (left_ends c (length es) line (lines_of piece) (lines_of more) why refused)

pub stays_refused : (text piece front : List ℕ) (c : Settings) (es : List Event) (line : ℕ) (why : TextRefusal) (more : List ℕ)
    → IsReadTo text c es line → piece ≡ front ++ 10 ∷ [] → (front_left c (length es) line (lines_of piece)).refused ≡ Some why
    → schedule_of (text ++ (piece ++ more)) ≡ Err why
stays_refused text piece front c es line why more read ends refused =
    let r : Front = behind es (front_left c (length es) line (lines_of piece)) in
    ap (λ (f : Front). whole f.schedule f.refused) (front_ends text piece front c es line why more read ends refused)
    ∙ ap (whole r.schedule) refused

-- Counts.

few_by_room : (c : Settings) (given : ℕ) (e : Event) (b : Bool) (rest : Front) → nat_lt given 100000 ≡ b → given ≤ 100000
    → (given + 1 ≤ 100000 → given + 1 + length rest.schedule.events ≤ 100000)
    → given + length (cond b (behind (e ∷ []) rest) (end_of c (Some refusals.Limit) (Some e))).schedule.events ≤ 100000
few_by_room c given e true rest room few after =
    let less = ltb-true given 100000 room in
    omega (arith, after (omega (arith, less)))
few_by_room c given e false rest room few after = omega (arith, few)

few_by : (c : Settings) (given n : ℕ) (o : Option Event) (rest : Front) → given ≤ 100000
    → (given + 1 ≤ 100000 → given + 1 + length rest.schedule.events ≤ 100000)
    → given + length (left_by c given n o rest).schedule.events ≤ 100000
few_by c given n None rest few after = omega (arith, few)
few_by c given n (Some e) rest few after = few_by_room c given e (nat_lt given 100000) rest refl few after

-- there are never too many events
pub events_few : (c : Settings) (given n : ℕ) (lines : List (List ℕ)) → given ≤ EVENTS
    → given + length (front_left c given n lines).schedule.events ≤ EVENTS
unfolding front_left
events_few c given n [] few = omega (arith, few)
events_few c given n (l ∷ ls) few =
    few_by c given n (acting c.specs (event_of (words_from l 0))) (front_left c (given + 1) (n + 1) ls) few
    (events_few c (given + 1) (n + 1) ls)

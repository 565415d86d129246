-- The logs of node texts in order, and the answer to node texts.
use Rattle.std.proofs.Common.{◌≡◌, ℕ, suc, ◌+◌, ◌<◌, ◌≤◌, Bool, true, false, cond, not, nat_lt, List, [], ◌∷◌, ◌++◌, drop, fold, length, Option, Some, None, Ok, Err, ◌⊎◌, inl, inr, refl, ap, subst, sym, ◌∙◌, arith}
use Rattle.std.specs.List.{AllByRecursion, insert, list_all, position, position_or_len}
use Rattle.std.specs.Bool.{◌==◌}
use Rattle.std.specs.Prelude.{◌||◌}
use Rattle.std.proofs.lemmas.Bool.{and_parts, cases_Bool, cond-false, eqb-true, le-ltb, ltb-false, ltb-true, or_parts, both_ways, cases_lt, eq-eqb}
use Rattle.std.proofs.lemmas.List.{drop_all, take_all}
use Rattle.std.proofs.lemmas.List.Sums.{prefix_len-le-length, sum_by-cons}
use Rattle.vk_types.specs.Types.{ProcessSpec, StationEvent}
use Rattle.vk_base.specs.declared.event.StationEvent.TheVariants as events
use Rattle.vk_base.specs.Settings.{Settings, has_station, or_else}
use Rattle.vk_schedule.specs.declared.schedule.TextRefusal.{TextRefusal}
use Rattle.vk_schedule.specs.declared.schedule.TextRefusal.TheVariants as texts
use Rattle.vk_join.specs.declared.log.JoinRefusal.{JoinRefusal}
use Rattle.vk_join.specs.declared.log.JoinRefusal.TheVariants as joins
use Rattle.vk_schedule.specs.declared.log.StationLog.{StationLog}
use Rattle.vk_join.specs.Logs.{AreLogs, HostsRise, IsOfStation, byte_count, entries_at, event_count}
use Rattle.vk_join.specs.Stray.{first_stray, is_over_limit, is_stray, join_refusal, stray_at, stray_behind}
use Rattle.vk_event.specs.declared.node.NodeTexts.{NodeTexts}
use Rattle.vk_event.specs.NodeLaws.{HostsDiffer, IsLawfulLog, IsLawfulNodes}
use Rattle.vk_event.specs.Nodes as nodes
use Rattle.vk_event.specs.Nodes.{HasNodeProcess, has_log, is_own, node_opening, nodes_of}
use Rattle.vk_rules.specs.Each.{Each}
use Rattle.vk_rules.specs.Histories.{Logs}
use Rattle.vk_text.specs.Lines.{lines_of}
use Rattle.vk_top.proofs.Told.{empty_bad, join_bad}
use Rattle.vk_top.specs.declared.status.Status.{Status}
use Rattle.vk_top.specs.declared.status.Status.TheVariants as status
use Rattle.vk_top.specs.declared.top.TextOutput.{TextOutput}
use Rattle.vk_top.specs.declared.words.TextCommand.TheVariants as asked
use Rattle.vk_top.specs.Joins.{IsJoinOutput, in_order, join_status, nodes_refusal, nodes_status, put_log, refused_join}
use Rattle.vk_top.specs.Statuses.{refused}
use Rattle.vk_top.specs.Top.{text_status}
use Rattle.vk_top.specs.Work.{IsLate, IsRefusal, IsWork}

-- A log is put in its place.

put_by : (b : Bool) (n : ℕ) (l m : StationLog) (ms : List StationLog) →
    insert (m ∷ ms) (cond (not b) (1 + n) 0) l ≡ cond b (l ∷ m ∷ ms) (m ∷ insert ms n l)
put_by true n l m ms = refl
put_by false n l m ms = let more : 1 + n ≡ suc n = omega arith in ap (λ k. insert (m ∷ ms) k l) more

pub put_is : (l : StationLog) (ms : List StationLog) →
    insert ms (position_or_len (λ (m : StationLog). nat_lt l.host m.host) ms) l ≡ put_log ms l
put_is l [] = refl
put_is l (m ∷ ms) =
    put_by (nat_lt l.host m.host) (position_or_len (λ (k : StationLog). nat_lt l.host k.host) ms) l m ms
    ∙ ap (λ rest. cond (nat_lt l.host m.host) (l ∷ m ∷ ms) (m ∷ rest)) (put_is l ms)

at_some : (b : Bool) (n at : ℕ) → cond b (Some n) None ≡ Some at → n ≡ at
at_some true n at h = cc
at_some false n at h = absurd (cc)

at_none : (n m : ℕ) → n ≤ m → cond (nat_lt n m) (Some n) None ≡ None → m ≡ n
at_none n m low h = elim (cases_Bool (nat_lt n m)) [
  | inl before ↦ let found : Some n ≡ None = ap (λ b. cond b (Some n) None) (sym before) ∙ h in absurd (cc)
  | inr behind ↦ let least = ltb-false n m behind in omega (arith, low, least)
]

pub put_found : (l : StationLog) (ms seen : List StationLog) (at : ℕ) → seen ≡ ms →
    position (λ (m : StationLog). nat_lt l.host m.host) seen ≡ Some at → insert ms at l ≡ put_log ms l
put_found l ms seen at same found =
    let p : StationLog → Bool = λ m. nat_lt l.host m.host in
    let here : position p ms ≡ Some at = subst (λ xs. position p xs ≡ Some at) same found in
    ap (λ k. insert ms k l) (sym (at_some (nat_lt (position_or_len p ms) (length ms)) (position_or_len p ms) at here)) ∙ put_is l ms

insert_last : (ms : List StationLog) (l : StationLog) → insert ms (length ms) l ≡ ms ++ l ∷ []
insert_last ms l =
    ap (λ xs. xs ++ l ∷ drop (length ms) ms) (take_all (length ms) ms (omega arith))
    ∙ ap (λ xs. ms ++ l ∷ xs) (drop_all (length ms) ms (omega arith))

pub put_last : (l : StationLog) (ms seen : List StationLog) → seen ≡ ms →
    position (λ (m : StationLog). nat_lt l.host m.host) seen ≡ None → ms ++ l ∷ [] ≡ put_log ms l
put_last l ms seen same none =
    let p : StationLog → Bool = λ m. nat_lt l.host m.host in
    let here : position p ms ≡ None = subst (λ xs. position p xs ≡ None) same none in
    let last : length ms ≡ position_or_len p ms = at_none (position_or_len p ms) (length ms) (prefix_len-le-length (λ m. not (p m)) ms) here in
    sym (insert_last ms l) ∙ ap (λ k. insert ms k l) last ∙ put_is l ms

-- What holds of each log still does.

each_cond : {A : Type 0} (P : A → Type 0) (b : Bool) (xs ys : List A) → Each P xs → Each P ys → Each P (cond b xs ys)
each_cond P true xs ys one other = one
each_cond P false xs ys one other = other

each_put : (P : StationLog → Type 0) (l : StationLog) (ms : List StationLog) → P l → Each P ms → Each P (put_log ms l)
each_put P l [] one all = (one, tt)
each_put P l (m ∷ ms) one all =
    each_cond P (nat_lt l.host m.host) (l ∷ m ∷ ms) (m ∷ put_log ms l) (one, all) (all.0, each_put P l ms one all.1)

each_sorted : (P : StationLog → Type 0) (sorted : List StationLog) (logs : List StationLog) → Each P sorted →
    AllByRecursion (λ (l : StationLog). P l) logs → Each P (fold put_log sorted logs)
each_sorted P sorted [] each all = each
each_sorted P sorted (l ∷ ls) each all = each_sorted P (put_log sorted l) ls (each_put P l sorted all.0 each) all.1

-- Their hosts rise.

each_more : {A : Type 0} (P Q : A → Type 0) (xs : List A) → ((x : A) → P x → Q x) → Each P xs → Each Q xs
each_more P Q [] follows each = tt
each_more P Q (x ∷ xs) follows each = (follows x each.0, each_more P Q xs follows each.1)

abbrev IsElsewhere : ℕ → StationLog → Type 0
IsElsewhere host m = ¬ (m.host ≡ host)

rise_by : (l m : StationLog) (ms : List StationLog) (b : Bool) → nat_lt l.host m.host ≡ b → ¬ (m.host ≡ l.host) →
    Each (λ (k : StationLog). m.host < k.host) ms → HostsRise ms → HostsRise (put_log ms l) →
    HostsRise (cond b (l ∷ m ∷ ms) (m ∷ put_log ms l))
rise_by l m ms true below apart first rise rest =
    let low = ltb-true l.host m.host below in (
      (low, each_more (λ (k : StationLog). m.host < k.host) (λ (k : StationLog). l.host < k.host) ms (λ k more. omega (arith, low, more)) first),
      (first, rise),
    )
rise_by l m ms false behind apart first rise rest =
    let least = ltb-false l.host m.host behind in
    (each_put (λ (k : StationLog). m.host < k.host) l ms (strictly m.host l.host least apart) first, rest)
  where
    strictly : (m n : ℕ) → m ≤ n → ¬ (m ≡ n) → m < n
    strictly m n low apart = elim (cases_lt m n) [
      | inl less ↦ less
      | inr other ↦ absurd (apart (omega (arith, low, other)))
    ]

rise_put : (l : StationLog) (ms : List StationLog) → Each (IsElsewhere l.host) ms → HostsRise ms → HostsRise (put_log ms l)
rise_put l [] apart rise = (tt, tt)
rise_put l (m ∷ ms) apart rise =
    rise_by l m ms (nat_lt l.host m.host) refl apart.0 rise.0 rise.1 (rise_put l ms apart.1 rise.1)

abbrev HasNone : List StationLog → StationLog → Type 0
HasNone logs m = has_log logs m.host ≡ false

elsewhere : (l : StationLog) (ls : List StationLog) (m : StationLog) → HasNone (l ∷ ls) m → IsElsewhere l.host m
elsewhere l ls m none same = absurd (both_ways (l.host == m.host) (or_parts _ _ none).0 (eq-eqb l.host m.host (sym same)))

rise_sorted : (sorted : List StationLog) (logs : List StationLog) → Each (HasNone logs) sorted → HostsDiffer logs → HostsRise sorted →
    HostsRise (fold put_log sorted logs)
rise_sorted sorted [] none differ rise = rise
rise_sorted sorted (l ∷ ls) none differ rise =
    rise_sorted (put_log sorted l) ls
    (each_put (HasNone ls) l sorted differ.0 (each_more (HasNone (l ∷ ls)) (HasNone ls) sorted (λ m h. (or_parts _ _ h).1) none))
    differ.1 (rise_put l sorted (each_more (HasNone (l ∷ ls)) (IsElsewhere l.host) sorted (elsewhere l ls) none) rise)

-- What is asked of them.

own_is : (specs : List ProcessSpec) (host : ℕ) (e : StationEvent) → is_own specs host e ≡ true → IsOfStation specs host e
own_is specs host (events.Call pid call) own = let parts = and_parts _ _ own in (eqb-true _ _ parts.0, parts.1)
own_is specs host (events.Collect pid) own = let parts = and_parts _ _ own in (eqb-true _ _ parts.0, parts.1)
own_is specs host events.Tick own = tt
own_is specs host (events.Deliver frame) own = tt

all_own : (specs : List ProcessSpec) (host : ℕ) (es : List StationEvent) → list_all (is_own specs host) es ≡ true →
    Each (IsOfStation specs host) es
all_own specs host [] own = tt
all_own specs host (e ∷ es) own = let parts = and_parts _ _ own in (own_is specs host e parts.0, all_own specs host es parts.1)

all_stations : (c : Settings) (logs : List StationLog) → AllByRecursion (IsLawfulLog c) logs →
    AllByRecursion (λ (l : StationLog). has_station c.specs l.host ≡ true) logs
all_stations c [] lawful = tt
all_stations c (l ∷ ls) lawful = (lawful.0.station, all_stations c ls lawful.1)

all_logs : (c : Settings) (logs : List StationLog) → AllByRecursion (IsLawfulLog c) logs →
    AllByRecursion (λ (l : StationLog). Each (IsOfStation c.specs l.host) l.events) logs
all_logs c [] lawful = tt
all_logs c (l ∷ ls) lawful = (all_own c.specs l.host l.events lawful.0.own, all_logs c ls lawful.1)

pub are_logs : (n : NodeTexts) → IsLawfulNodes n → AreLogs n.config (in_order n.logs)
are_logs n lawful = record {
  rise = rise_sorted [] n.logs tt lawful.differ tt;
  stations = each_sorted (λ (l : StationLog). has_station n.config.specs l.host ≡ true) [] n.logs tt (all_stations n.config n.logs lawful.logs);
  own = each_sorted (λ (l : StationLog). Each (IsOfStation n.config.specs l.host) l.events) [] n.logs tt
      (all_logs n.config n.logs lawful.logs);
}

-- They hold as many events.

abbrev count_in : StationLog → ℕ
count_in l = length l.events

count_cond : (b : Bool) (xs ys : List StationLog) (n : ℕ) → event_count xs ≡ n → event_count ys ≡ n → event_count (cond b xs ys) ≡ n
count_cond true xs ys n one other = one
count_cond false xs ys n one other = other

count_put : (l : StationLog) (ms : List StationLog) → event_count (put_log ms l) ≡ event_count ms + length l.events
count_put l [] = let all = sum_by-cons count_in l [] in omega (arith, all)
count_put l (m ∷ ms) =
    count_cond (nat_lt l.host m.host) (l ∷ m ∷ ms) (m ∷ put_log ms l) (event_count (m ∷ ms) + length l.events)
    (let all = sum_by-cons count_in l (m ∷ ms) in omega (arith, all))
    (let all = sum_by-cons count_in m (put_log ms l) in let before = sum_by-cons count_in m ms in
    omega (arith, all, before, count_put l ms))

count_sorted : (sorted : List StationLog) (logs : List StationLog) →
    event_count (fold put_log sorted logs) ≡ event_count sorted + nodes.event_count logs
count_sorted sorted [] = omega arith
count_sorted sorted (l ∷ ls) =
    let more = sum_by-cons (λ (k : StationLog). length k.events) l ls in
    omega (arith, count_sorted (put_log sorted l) ls, count_put l sorted, more)

pub few_in_order : (n : NodeTexts) → IsLawfulNodes n → event_count (in_order n.logs) ≤ 100000
few_in_order n lawful = omega (arith, count_sorted [] n.logs, lawful.few)

-- A joined schedule is lawful.

-- Why they are not joined.

abbrev TellsStray : Option JoinRefusal → Type 0
TellsStray None = Unit {0}
TellsStray (Some (joins.Stray host event taken emitted)) = Unit {0}
TellsStray (Some joins.Limit) = ⊥
TellsStray (Some joins.NoMemory) = ⊥

tells_either : (o other : Option JoinRefusal) → TellsStray o → TellsStray other → TellsStray (or_else o other)
tells_either None other one rest = rest
tells_either (Some e) other one rest = one

tells_cond : (b : Bool) (host event : ℕ) (taken : List ℕ) (emitted : Option (List ℕ)) →
    TellsStray (cond b (Some (joins.Stray host event taken emitted)) None)
tells_cond true host event taken emitted = tt
tells_cond false host event taken emitted = tt

tells_at : (entries : Logs) (host event : ℕ) (e : StationEvent) → TellsStray (stray_at entries host event e)
tells_at entries host event (events.Deliver frame) = tells_cond (is_stray entries host frame) host event frame _
tells_at entries host event (events.Call pid call) = tt
tells_at entries host event (events.Collect pid) = tt
tells_at entries host event events.Tick = tt

tells_behind : (entries : Logs) (host event : ℕ) (es : List StationEvent) → TellsStray (stray_behind entries host event es)
tells_behind entries host event [] = tt
tells_behind entries host event (e ∷ es) =
    tells_either (stray_at entries host event e) (stray_behind entries host (event + 1) es) (tells_at entries host event e)
    (tells_behind entries host (event + 1) es)

tells_first : (entries : Logs) (logs : List StationLog) → TellsStray (first_stray entries logs)
tells_first entries [] = tt
tells_first entries (l ∷ ls) =
    tells_either (stray_behind entries l.host 1 l.events) (first_stray entries ls) (tells_behind entries l.host 1 l.events)
    (tells_first entries ls)

over_bytes : (few : Bool) (bytes : ℕ) → few ≡ false → (few || nat_lt 268435456 bytes) ≡ true → 268435456 < bytes
over_bytes few bytes none over = ltb-true 268435456 bytes (subst (λ b. (b || nat_lt 268435456 bytes) ≡ true) none over)

too_much : (c : Settings) (logs : List StationLog) → event_count logs ≤ 100000 → join_refusal c logs ≡ Some joins.Limit →
    268435456 < byte_count c logs
too_much c logs few limit = elim (cases_Bool (is_over_limit c logs)) [
  | inl over ↦ over_bytes (nat_lt 100000 (event_count logs)) (byte_count c logs) (le-ltb 100000 (event_count logs) few) over
  | inr within ↦
      let stray : first_stray (entries_at c logs) logs ≡ Some joins.Limit =
      sym (cond-false (is_over_limit c logs) (Some joins.Limit) (first_stray (entries_at c logs) logs) within) ∙ limit in
      absurd (subst TellsStray stray (tells_first (entries_at c logs) logs))
]

-- The answers.

some_nodes : (text : List ℕ) (e : Status) → text_status asked.Join text ≡ e → ¬ (e ≡ status.BadInput 1) → 0 < length text
some_nodes [] e is other = absurd (other (sym is ∙ empty_bad asked.Join))
some_nodes (b ∷ bs) e is other = omega arith

some_read : (text : List ℕ) (n : NodeTexts) → nodes_of text ≡ Ok n → 0 < length text
some_read [] n is = let none : nodes_of [] ≡ Err (texts.BadInput 1) = join_bad (nodes_of []) 1 (empty_bad asked.Join) in absurd (cc)
some_read (b ∷ bs) n is = omega arith

some_process : (text : List ℕ) → HasNodeProcess text → 0 < length text
unfolding lines_of node_opening
some_process [] some = absurd some
some_process (b ∷ bs) some = omega arith

pub unread_nodes : (text : List ℕ) (e : TextRefusal) → ((e ≡ texts.NoMemory) × HasNodeProcess text) ⊎ (nodes_of text ≡ Err e) →
    IsRefusal asked.Join text (refused e)
unread_nodes text (texts.BadInput line) (inl wanted) = absurd (grind (arith, wanted))
unread_nodes text (texts.BadInput line) (inr is) = ap join_status is
unread_nodes text texts.Limit (inl wanted) = absurd (grind (arith, wanted))
unread_nodes text texts.Limit (inr is) = (ap join_status is, inr (inl is))
unread_nodes text texts.NoMemory (inl wanted) = some_process text wanted.1
unread_nodes text texts.NoMemory (inr is) = some_nodes text status.NoMemory (ap join_status is) (λ e. grind (arith, e))

pub unjoined_nodes : (text : List ℕ) (n : NodeTexts) (e : JoinRefusal) → nodes_of text ≡ Ok n → IsLawfulNodes n →
    (e ≡ joins.NoMemory) ⊎ (nodes_refusal n ≡ Some e) → IsRefusal asked.Join text (refused_join e)
unjoined_nodes text n (joins.Stray host event taken emitted) is lawful (inl wanted) = absurd (grind (arith, wanted))
unjoined_nodes text n (joins.Stray host event taken emitted) is lawful (inr stray) = ap join_status is ∙ ap nodes_status stray
unjoined_nodes text n joins.Limit is lawful (inl wanted) = absurd (grind (arith, wanted))
unjoined_nodes text n joins.Limit is lawful (inr limit) = (
  ap join_status is ∙ ap nodes_status limit,
  inr (inr (record { nodes = n; text = is; over = too_much n.config (in_order n.logs) (few_in_order n lawful) limit })),
)
unjoined_nodes text n joins.NoMemory is lawful why = some_read text n is

pub unwritten_nodes : (text : List ℕ) (n : NodeTexts) → nodes_of text ≡ Ok n → IsRefusal asked.Join text status.NoMemory
unwritten_nodes text n is = some_read text n is

pub join_work : (text : List ℕ) (w : TextOutput) → IsJoinOutput text w.text.items → w.status ≡ status.Done → IsWork asked.Join text w
join_work text w output done = record {
  late = subst IsLate (sym done) tt;
  limit = λ limit. let clash : status.Done ≡ status.Limit = sym done ∙ limit in absurd (grind (arith, clash));
  output = output;
  status = done ∙ sym (ap join_status output.joined.text ∙ ap nodes_status output.joined.none);
}

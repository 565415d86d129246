-- What texts of stations tell is lawful.
use Rattle.std.proofs.Common.{◌≡◌, ℕ, ◌+◌, ◌<◌, ◌≤◌, ◌==◌, ◌&&◌, ◌||◌, not, nat_lt, Bool, true, false, cond, List, [], ◌∷◌, ◌++◌, length, codes, bytes_eq, Option, Some, None, Result, Ok, Err, refl, ap, sym, subst, ◌∙◌, arith, lit≤, length-append}
use Rattle.std.specs.List.{list_all, AllByRecursion}
use Rattle.std.proofs.lemmas.Bool.{and_from, and_parts, ltb-true, not-true, or_from, or_parts}
use Rattle.std.proofs.lemmas.List.Folds.{list_all-append, list_any-append}
use Rattle.std.proofs.lemmas.List.Sums.{sum_by-append, sum_by-cons}
use Rattle.std.proofs.lemmas.Option.{cond_some}
use Rattle.vk_types.specs.Types.{ProcessSpec, StationEvent}
use Rattle.vk_base.specs.declared.event.StationEvent.TheVariants as events
use Rattle.vk_base.specs.Pids.{IsPid}
use Rattle.vk_base.specs.Settings.{Settings, has_station}
use Rattle.vk_base.proofs.OptionLemmas.{bind_is}
use Rattle.vk_base.proofs.BoolLemmas.{eqb_turned}
use Rattle.vk_text.specs.Calls.{call_of}
use Rattle.vk_text.specs.Lines.{lines_of, words_from}
use Rattle.vk_text.specs.Openings.{IsTellable, line_number}
use Rattle.vk_text.specs.Words.{is_lower_hex, pid_of}
use Rattle.vk_text.proofs.Firsts.{ended_is, first_holds}
use Rattle.vk_text.proofs.Ranges.{call_fits, pid_fits, by_lower}
use Rattle.vk_text.proofs.Spelled.{either_word}
use Rattle.vk_schedule.specs.declared.schedule.TextRefusal.{TextRefusal}
use Rattle.vk_schedule.specs.declared.schedule.TextRefusal.TheVariants as refusals
use Rattle.vk_event.specs.declared.node.NodeTexts.{NodeTexts}
use Rattle.vk_schedule.specs.declared.log.StationLog.{StationLog}
use Rattle.vk_event.specs.NodeLaws.{HostsDiffer, IsFrame, IsLawfulLog, IsLawfulNodes, IsReadableOwn, OnlyLawfulNodesAreRead}
use Rattle.vk_event.specs.Nodes.{Reading, all_read, behind_title, delivery_of, event_count, event_read, frame_of, has_log, host_of, is_own, line_read, node_opening, node_title, nodes_by, nodes_from, own_call_of, own_collect_of, own_event, station_event_of, station_read, then_read, where_new, where_own, with_own, without_own}
use Rattle.vk_event.proofs.NodeFrames.{frame_parts}
use Rattle.vk_event.proofs.NodeOpenings.{told}

-- Fields are in their range.

frame_fits : (frame word : List ℕ) → frame_of word ≡ Some frame → IsFrame frame
frame_fits frame word h =
    let read = frame_parts word frame h in
    record { more = read.1; most = read.2; bytes = by_lower (list_all is_lower_hex word) word frame read.0 }

own_call_fits : (ws : List (List ℕ)) (e : StationEvent) → own_call_of ws ≡ Some e → IsReadableOwn e
unfolding own_call_of
own_call_fits ws e h =
    let pid = first_holds pid_of IsPid pid_fits _ e ws h in
    let call = bind_is (call_of pid.1) _ e pid.3 in
    subst IsReadableOwn (cond_some true (events.Call pid.0 call.0) e call.2).1 (pid.2, call_fits pid.1 call.0 call.1)

own_collect_fits : (ws : List (List ℕ)) (e : StationEvent) → own_collect_of ws ≡ Some e → IsReadableOwn e
unfolding own_collect_of
own_collect_fits ws e h =
    let pid = first_holds pid_of IsPid pid_fits _ e ws h in
    subst IsReadableOwn (ended_is pid.1 (events.Collect pid.0) e pid.3).1 pid.2

delivery_fits : (ws : List (List ℕ)) (e : StationEvent) → delivery_of ws ≡ Some e → IsReadableOwn e
unfolding delivery_of
delivery_fits ws e h =
    let frame = first_holds frame_of IsFrame frame_fits _ e ws h in
    subst IsReadableOwn (ended_is frame.1 (events.Deliver frame.0) e frame.3).1 frame.2

-- the event is that of this word, or of another
named : (w word : List ℕ) (e : StationEvent) (x y : Option StationEvent) → (x ≡ Some e → IsReadableOwn e) → (y ≡ Some e → IsReadableOwn e) →
    cond (bytes_eq w word) x y ≡ Some e → IsReadableOwn e
named w word e x y is other h = either_word (IsReadableOwn e) w word x y (Some e) (λ same f. is f) other h

event_fits : (ws : List (List ℕ)) (e : StationEvent) → station_event_of ws ≡ Some e → IsReadableOwn e
unfolding station_event_of
event_fits [] e h = cc
event_fits (w ∷ ws) e h =
    named w (codes "call") e _ _ (own_call_fits ws e)
    (named w (codes "collect") e _ _ (own_collect_fits ws e)
    (named w (codes "tick") e _ _ (λ t. subst IsReadableOwn (ended_is ws events.Tick e t).1 tt)
    (named w (codes "frame") e _ _ (delivery_fits ws e) (λ none. cc)))) h

-- What is known of each reading.

pub record AreLawfulLogs (c : Settings) (logs : List StationLog) : Type 0 where
  pub each : AllByRecursion (IsLawfulLog c) logs
  pub differ : HostsDiffer logs
  pub few : event_count logs ≤ 100000

pub record MayEnd (c : Settings) (logs : List StationLog) (log : StationLog) : Type 0 where
  pub ended : AreLawfulLogs c logs
  pub last : IsLawfulLog c log
  pub new : has_log logs log.host ≡ false
  pub few : event_count logs + length log.events ≤ 100000

abbrev pub IsLawfulReading : Settings → Reading → Type 0
IsLawfulReading c (Reading.Opening logs left) = AreLawfulLogs c logs
IsLawfulReading c (Reading.Events logs log) = MayEnd c logs log

-- one log more

each_more : (c : Settings) (logs : List StationLog) (log : StationLog) → AllByRecursion (IsLawfulLog c) logs → IsLawfulLog c log →
    AllByRecursion (IsLawfulLog c) (logs ++ log ∷ [])
each_more c [] log h one = (one, tt)
each_more c (l ∷ ls) log h one = (h.0, each_more c ls log h.1 one)

other_host : (ls : List StationLog) (log : StationLog) (host : ℕ) → has_log ls host ≡ false → (log.host == host) ≡ false →
    has_log (ls ++ log ∷ []) host ≡ false
other_host ls log host h other =
    list_any-append (λ (l : StationLog). l.host == host) ls (log ∷ [])
    ∙ or_from (has_log ls host) (log.host == host || false) h (or_from (log.host == host) false other refl)

differ_more : (logs : List StationLog) (log : StationLog) → HostsDiffer logs → has_log logs log.host ≡ false → HostsDiffer (logs ++ log ∷ [])
differ_more [] log h new = (refl, tt)
differ_more (l ∷ ls) log h new =
    let both = or_parts (l.host == log.host) (has_log ls log.host) new in
    (other_host ls log l.host h.0 (eqb_turned l.host log.host both.0), differ_more ls log h.1 both.1)

pub count_more : (logs : List StationLog) (log : StationLog) → event_count (logs ++ log ∷ []) ≡ event_count logs + length log.events
count_more logs log =
    let f : StationLog → ℕ = λ m. length m.events in
    omega (arith, sum_by-append f logs (log ∷ []), sum_by-cons f log [])

log_ends : (c : Settings) (logs : List StationLog) (log : StationLog) → MayEnd c logs log → AreLawfulLogs c (logs ++ log ∷ [])
log_ends c logs log may = record {
  each = each_more c logs log may.ended.each may.last;
  differ = differ_more logs log may.ended.differ may.new;
  few = omega (arith, may.few, count_more logs log);
}

-- the next line

pub whole : {A : Type 0} (a b : A) (e : TextRefusal) → ◌≡◌ {A = Result A TextRefusal} (Ok a) (Ok b) → a ≡ b
whole a b e h = cc

pub station_is_told : (specs : List ProcessSpec) (logs : List StationLog) (o : Option ℕ) (host : ℕ) → where_new specs logs o ≡ Some host →
    o ≡ Some host
station_is_told specs logs None host h = cc
station_is_told specs logs (Some x) host h = ap Some (cond_some (has_station specs x && not (has_log logs x)) x host h).1

station_is : (specs : List ProcessSpec) (logs : List StationLog) (o : Option ℕ) (host : ℕ) → where_new specs logs o ≡ Some host →
    (has_station specs host ≡ true) × (has_log logs host ≡ false)
station_is specs logs None host h = cc
station_is specs logs (Some x) host h =
    let got = cond_some (has_station specs x && not (has_log logs x)) x host h in
    let both = and_parts (has_station specs x) (not (has_log logs x)) got.0 in
    (subst (λ y. has_station specs y ≡ true) got.1 both.0, subst (λ y. has_log logs y ≡ false) got.1 (not-true (has_log logs x) both.1))

begins : (c : Settings) (logs : List StationLog) (host : ℕ) → AreLawfulLogs c logs → has_station c.specs host ≡ true → has_log logs host ≡ false →
    MayEnd c logs (without_own host)
begins c logs host is station new = record {
  ended = is;
  last = record { station = station; ranges = tt; own = refl };
  new = new;
  few = omega (arith, is.few);
}

by_station : (c : Settings) (n : ℕ) (logs : List StationLog) (o : Option ℕ) (s : Reading) → AreLawfulLogs c logs →
    ((host : ℕ) → o ≡ Some host → (has_station c.specs host ≡ true) × (has_log logs host ≡ false)) → station_read n logs o ≡ Ok s →
    IsLawfulReading c s
by_station c n logs None s is found h = cc
by_station c n logs (Some host) s is found h =
    let known = found host refl in
    subst (IsLawfulReading c) (whole (Reading.Events logs (without_own host)) s refusals.Limit h) (begins c logs host is known.0 known.1)

by_same : (c : Settings) (n : ℕ) (logs : List StationLog) (left : List (List ℕ)) (b : Bool) (s : Reading) → AreLawfulLogs c logs →
    ◌≡◌ {A = Result Reading TextRefusal} (cond b (Ok (Reading.Opening logs left)) (Err (refusals.BadInput n))) (Ok s) → IsLawfulReading c s
by_same c n logs left true s is h = subst (IsLawfulReading c) (whole (Reading.Opening logs left) s refusals.Limit h) is
by_same c n logs left false s is h = cc

pub own_is : (specs : List ProcessSpec) (host : ℕ) (o : Option StationEvent) (e : StationEvent) → where_own specs host o ≡ Some e →
    (o ≡ Some e) × (is_own specs host e ≡ true)
own_is specs host None e h = cc
own_is specs host (Some x) e h =
    let is = cond_some (is_own specs host x) x e h in
    (ap Some is.1, sym (ap (is_own specs host) is.1) ∙ is.0)

ranges_more : (es : List StationEvent) (e : StationEvent) → AllByRecursion IsReadableOwn es → IsReadableOwn e →
    AllByRecursion IsReadableOwn (es ++ e ∷ [])
ranges_more [] e h one = (one, tt)
ranges_more (x ∷ xs) e h one = (h.0, ranges_more xs e h.1 one)

own_more : (p : StationEvent → Bool) (es : List StationEvent) (e : StationEvent) → list_all p es ≡ true → p e ≡ true →
    list_all p (es ++ e ∷ []) ≡ true
own_more p es e h one = list_all-append p es (e ∷ []) ∙ and_from (list_all p es) (p e && true) h (and_from (p e) true one refl)

noted : (c : Settings) (logs : List StationLog) (log : StationLog) (e : StationEvent) → MayEnd c logs log → IsReadableOwn e →
    is_own c.specs log.host e ≡ true → event_count logs + length log.events < 100000 → MayEnd c logs (with_own log e)
noted c logs log e may fits own room = record {
  ended = may.ended;
  last = record {
    station = may.last.station;
    ranges = ranges_more log.events e may.last.ranges fits;
    own = own_more (is_own c.specs log.host) log.events e may.last.own own;
  };
  new = may.new;
  few = omega (arith, room, length-append log.events (e ∷ []));
}

by_room : (c : Settings) (logs : List StationLog) (log : StationLog) (e : StationEvent) (b : Bool) (s : Reading) →
    nat_lt (event_count logs + length log.events) 100000 ≡ b → MayEnd c logs log → IsReadableOwn e → is_own c.specs log.host e ≡ true →
    ◌≡◌ {A = Result Reading TextRefusal} (cond b (Ok (Reading.Events logs (with_own log e))) (Err refusals.Limit)) (Ok s) → IsLawfulReading c s
by_room c logs log e true s room may fits own h =
    subst (IsLawfulReading c) (whole (Reading.Events logs (with_own log e)) s refusals.Limit h)
    (noted c logs log e may fits own (ltb-true (event_count logs + length log.events) 100000 room))
by_room c logs log e false s room may fits own h = cc

by_event : (c : Settings) (opening : List (List ℕ)) (n : ℕ) (logs : List StationLog) (log : StationLog) (line : List ℕ)
    (o : Option StationEvent) (s : Reading) → MayEnd c logs log →
    ((e : StationEvent) → o ≡ Some e → IsReadableOwn e × (is_own c.specs log.host e ≡ true)) →
    event_read opening n logs log line o ≡ Ok s → IsLawfulReading c s
by_event c opening n logs log line (Some e) s may found h =
    let known = found e refl in
    by_room c logs log e (nat_lt (event_count logs + length log.events) 100000) s refl may known.0 known.1 h
by_event c opening n logs log line None s may found h =
    by_same c n (logs ++ log ∷ []) opening (bytes_eq line node_title) s (log_ends c logs log may) h

pub line_lawful : (c : Settings) (opening : List (List ℕ)) (n : ℕ) (r s : Reading) (line : List ℕ) → IsLawfulReading c r →
    line_read c opening n r line ≡ Ok s → IsLawfulReading c s
line_lawful c opening n (Reading.Opening logs []) s line is h =
    by_station c n logs (where_new c.specs logs (host_of (words_from line 0))) s is
    (λ host. station_is c.specs logs (host_of (words_from line 0)) host) h
line_lawful c opening n (Reading.Opening logs (due ∷ left)) s line is h = by_same c n logs left (bytes_eq line due) s is h
line_lawful c opening n (Reading.Events logs log) s line is h =
    by_event c opening n logs log line (own_event c.specs log.host line) s is
    (λ e f. let own = own_is c.specs log.host (station_event_of (words_from line 0)) e f in (event_fits (words_from line 0) e own.0, own.1)) h

-- All lines.

at_end : (c : Settings) (n : ℕ) (r : Reading) (m : NodeTexts) → IsTellable c → IsLawfulReading c r → all_read c n r ≡ Ok m → IsLawfulNodes m
at_end c n (Reading.Opening logs left) m is may h = cc
at_end c n (Reading.Events logs log) m is may h =
    let ended = log_ends c logs log may in
    subst IsLawfulNodes (whole (record { config = c; logs = logs ++ log ∷ [] }) m refusals.Limit h) (record {
      told = is;
      some = omega (arith, length-append logs (log ∷ []));
      logs = ended.each;
      differ = ended.differ;
      few = ended.few;
    })

by_line : (c : Settings) (r : Result Reading TextRefusal) (rest : Reading → Result NodeTexts TextRefusal) (m : NodeTexts) →
    ((s : Reading) → r ≡ Ok s → IsLawfulReading c s) → ((s : Reading) → IsLawfulReading c s → rest s ≡ Ok m → IsLawfulNodes m) →
    then_read r rest ≡ Ok m → IsLawfulNodes m
by_line c (Ok s) rest m is after h = after s (is s refl) h
by_line c (Err e) rest m is after h = cc

from_lawful : (c : Settings) (opening : List (List ℕ)) (n : ℕ) (r : Reading) (lines : List (List ℕ)) (m : NodeTexts) → IsTellable c →
    IsLawfulReading c r → nodes_from c opening n r lines ≡ Ok m → IsLawfulNodes m
unfolding nodes_from
from_lawful c opening n r [] m is may h = at_end c n r m is may h
from_lawful c opening n r (l ∷ ls) m is may h =
    by_line c (line_read c opening n r l) (λ s. nodes_from c opening (n + 1) s ls) m (λ s. line_lawful c opening n r s l may)
    (λ s lawful. from_lawful c opening (n + 1) s ls m is lawful) h

by_opening : (lines : List (List ℕ)) (o : Result (Settings × List (List ℕ)) ℕ) (m : NodeTexts) → node_opening lines ≡ o →
    nodes_by lines o ≡ Ok m → IsLawfulNodes m
by_opening lines (Err n) m is h = cc
by_opening lines (Ok found) m is h =
    from_lawful found.0 (behind_title lines found.1) (line_number lines found.1) (Reading.Opening [] []) found.1 m
    (told lines found.1 found.0 is) (record { each = tt; differ = tt; few = lit≤ tt }) h

pub only_lawful : OnlyLawfulNodesAreRead
only_lawful text m h = by_opening (lines_of text) (node_opening (lines_of text)) m refl h

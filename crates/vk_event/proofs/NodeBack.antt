-- Texts of lawful logs are read as them.
use Rattle.std.proofs.Common.{◌≡◌, ℕ, ◌+◌, ◌-◌, ◌<◌, ◌≤◌, ◌==◌, not, nat_lt, nat_le, true, false, cond, List, [], ◌∷◌, ◌++◌, length, map, take, drop, decimal, codes, bytes_eq, Option, Some, None, Ok, Err, refl, arith, ap, sym, subst, ◌∙◌, inl, inr, append_assoc, append-nil, length-append}
use Rattle.std.specs.List.{AllByRecursion, flat_map, list_all}
use Rattle.std.proofs.Math.Seq.{take-append_seam}
use Rattle.std.proofs.lemmas.Bool.{and_from, and_parts, eqb-true, le-leb, lt-ltb, not_from_false, or_cases, or_from, or_parts}
use Rattle.std.proofs.lemmas.List.Folds.{list_any-append}
use Rattle.std.proofs.lemmas.List.Sums.{AllPass-from_list_all, sum_by-append, sum_by-cons}
use Rattle.std.proofs.lemmas.Slice.Eq.{bytes_eq-Decides}
use Rattle.hex.specs.Hex.{encode_lower}
use Rattle.vk_types.specs.Types.{ProcessSpec, StationEvent}
use Rattle.vk_base.specs.declared.event.StationEvent.TheVariants as events
use Rattle.vk_base.specs.Options.{◌>>=◌}
use Rattle.vk_base.specs.Settings.{Settings, has_station, stations_of}
use Rattle.vk_base.proofs.BoolLemmas.{eqb_turned}
use Rattle.vk_text.specs.Heads.{HasNoFeed, line_text, process_of}
use Rattle.vk_text.specs.Lines.{lines_of, words_from}
use Rattle.vk_text.specs.Openings.{BeginsNoHead, line_number, pool_line_of, timed_lines}
use Rattle.vk_text.specs.Words.{is_lower_hex, positive_of}
use Rattle.vk_text.proofs.Bodies.{title_plain}
use Rattle.vk_text.proofs.CallWords.{call_read}
use Rattle.vk_text.proofs.HexDigits.{all_lower, read_back}
use Rattle.vk_text.proofs.OpeningLaws.{openings_back, openings_no_feed, both_plain}
use Rattle.vk_text.proofs.OpeningPools.{pools_written, stations_apart}
use Rattle.vk_text.proofs.PlainWords.{IsPlain, call_plain, joined_no_feed, letters, no_feeds, no_spaces, number_plain, pid_plain, hex_visible}
use Rattle.vk_text.proofs.ReadBack.{joined_words}
use Rattle.vk_text.proofs.Spelled.{pid_read, station_read as number_read}
use Rattle.vk_schedule.specs.declared.schedule.TextRefusal.TheVariants as refusals
use Rattle.vk_schedule.proofs.ReadAgain.{lines_back}
use Rattle.vk_event.specs.declared.node.NodeTexts.{NodeTexts}
use Rattle.vk_schedule.specs.declared.log.StationLog.{StationLog}
use Rattle.vk_event.specs.NodeLaws.{HostsDiffer, IsFrame, IsLawfulLog, IsLawfulNodes, IsNodeOpening, IsReadableOwn, NodesReadBack, log_lines, node_text, nodes_text, one_log, own_text, own_words, station_text}
use Rattle.vk_event.specs.Nodes.{Reading, delivery_of, event_count, event_read, frame_of, has_log, host_of, is_own, line_read, named_of, node_opening, node_title, nodes_by, nodes_from, nodes_of, own_call_of, own_collect_of, own_event, station_event_of, station_read, where_new, where_own, with_own, without_own}
use Rattle.vk_event.proofs.NodeFrames.{as_frame, frame_is}
use Rattle.vk_event.proofs.NodeOpenings.{other, titled}
use Rattle.vk_event.proofs.NodeReading.{line_more, no_more}

-- Words.

digits_plain : (frame : List ℕ) → IsFrame frame → IsPlain (encode_lower frame)
digits_plain frame fits = λ k d l. hex_visible _ (AllPass-from_list_all is_lower_hex (encode_lower frame) (all_lower frame fits.bytes) k d l)

own_plain : (e : StationEvent) → IsReadableOwn e → AllByRecursion IsPlain (own_words e)
own_plain (events.Call pid call) h = (letters (codes "call") refl, (pid_plain pid h.0, call_plain call h.1))
own_plain (events.Collect pid) h = (letters (codes "collect") refl, (pid_plain pid h, tt))
own_plain events.Tick h = (letters (codes "tick") refl, tt)
own_plain (events.Deliver frame) h = (letters (codes "frame") refl, (digits_plain frame h, tt))

some_words : (e : StationEvent) → 0 < length (own_words e)
some_words (events.Call pid call) = omega arith
some_words (events.Collect pid) = omega arith
some_words events.Tick = omega arith
some_words (events.Deliver frame) = omega arith

own_parts : (e : StationEvent) → IsReadableOwn e → words_from (own_text e) 0 ≡ own_words e
own_parts e h = joined_words (own_words e) (some_words e) (no_spaces (own_words e) (own_plain e h))

counted : (frame : List ℕ) → IsFrame frame → as_frame frame ≡ Some frame
unfolding as_frame
counted frame fits =
    let more = lt-ltb 32 (length frame) fits.more in
    let most = le-leb (length frame) 1152 fits.most in
    ap (λ b. cond b (Some frame) None) (and_from (nat_lt 32 (length frame)) (nat_le (length frame) 1152) more most)

frame_read : (frame : List ℕ) → IsFrame frame → frame_of (encode_lower frame) ≡ Some frame
frame_read frame fits =
    frame_is (encode_lower frame) ∙ ap (λ (o : Option (List ℕ)). o >>= as_frame) (read_back frame fits.bytes) ∙ counted frame fits

own_read : (e : StationEvent) → IsReadableOwn e → station_event_of (own_words e) ≡ Some e
unfolding station_event_of own_call_of own_collect_of delivery_of
own_read (events.Call pid call) h = rw (pid_read pid h.0, call_read call h.1) refl
own_read (events.Collect pid) h = rw (pid_read pid h) refl
own_read events.Tick h = refl
own_read (events.Deliver frame) h = rw (frame_read frame h) refl

-- the line of a lawful event is read as it
own_back : (specs : List ProcessSpec) (host : ℕ) (e : StationEvent) → IsReadableOwn e → is_own specs host e ≡ true →
    own_event specs host (own_text e) ≡ Some e
own_back specs host e h own =
    ap (where_own specs host) (ap station_event_of (own_parts e h) ∙ own_read e h) ∙ ap (λ b. cond b (Some e) None) own

-- Stations.

abbrev IsHost : ℕ → Type 0
IsHost host = (0 < host) × (host < 65535)

own_host : (s : ProcessSpec) (host : ℕ) → s.pid.host ≡ host → IsHost host
own_host s host is = let low = s.pid.some_host in let high = s.pid.one_host in (omega (arith, is, low), omega (arith, is, high))

host_fits : (specs : List ProcessSpec) (host : ℕ) → has_station specs host ≡ true → IsHost host
host_fits [] host h = cc
host_fits (s ∷ ss) host h = elim (or_cases (s.pid.host == host) (has_station ss host) h) [
  | inl here ↦ own_host s host (eqb-true s.pid.host host here)
  | inr later ↦ host_fits ss host later
]

station_words : ℕ → List (List ℕ)
station_words host = codes "station" ∷ decimal host ∷ []

station_plain : (host : ℕ) → IsHost host → AllByRecursion IsPlain (station_words host)
unfolding station_words
station_plain host fits = let most = fits.1 in (letters (codes "station") refl, (number_plain host (omega (arith, most)), tt))

station_parts : (host : ℕ) → IsHost host → words_from (station_text host) 0 ≡ station_words host
unfolding station_words
station_parts host fits = joined_words (station_words host) (omega arith) (no_spaces (station_words host) (station_plain host fits))

host_number : (host : ℕ) → IsHost host → positive_of 65534 (decimal host) ≡ Some host
host_number host fits = number_read host fits.0 fits.1

named_back : (host : ℕ) → IsHost host → host_of (station_words host) ≡ Some host
unfolding station_words host_of named_of
named_back host fits = rw (host_number host fits) refl

host_read : (host : ℕ) → IsHost host → host_of (words_from (station_text host) 0) ≡ Some host
host_read host fits = ap host_of (station_parts host fits) ∙ named_back host fits

no_head : (host : ℕ) (ls : List (List ℕ)) → IsHost host → BeginsNoHead (station_text host ∷ ls)
unfolding station_words process_of pool_line_of
no_head host ls fits = (ap process_of (station_parts host fits), ap pool_line_of (station_parts host fits))

begun : (c : Settings) (logs : List StationLog) (host : ℕ) → has_station c.specs host ≡ true → has_log logs host ≡ false →
    (n : ℕ) (opening : List (List ℕ)) →
    line_read c opening n (Reading.Opening logs []) (station_text host) ≡ Ok (Reading.Events logs (without_own host))
begun c logs host station new n opening =
    ap (λ o. station_read n logs (where_new c.specs logs o)) (host_read host (host_fits c.specs host station))
    ∙ ap (λ b. station_read n logs (cond b (Some host) None))
    (and_from (has_station c.specs host) (not (has_log logs host)) station (not_from_false (has_log logs host) new))

-- Lines.

-- these logs are told from these lines on, whatever number the first has
abbrev Gives : Settings → List (List ℕ) → NodeTexts → Reading → List (List ℕ) → Type 0
Gives c tail m r lines = (n : ℕ) → nodes_from c tail n r lines ≡ Ok m

abbrev with_all : StationLog → List StationEvent → StationLog
with_all log es = record log { events = log.events ++ es }

module _ (c : Settings) (tail : List (List ℕ)) (m : NodeTexts) where
  by_line : (r s : Reading) (l : List ℕ) (ls : List (List ℕ)) → ((n : ℕ) → line_read c tail n r l ≡ Ok s) → Gives c tail m s ls → Gives c tail m r (l ∷ ls)
  by_line r s l ls read after n = line_more c tail n r s l ls (l ∷ ls) refl (read n) ∙ after (n + 1)

  one_noted : (logs : List StationLog) (log : StationLog) (e : StationEvent) → IsReadableOwn e → is_own c.specs log.host e ≡ true →
      event_count logs + length log.events < 100000 → (n : ℕ) →
      line_read c tail n (Reading.Events logs log) (own_text e) ≡ Ok (Reading.Events logs (with_own log e))
  one_noted logs log e fits own room n =
      ap (event_read tail n logs log (own_text e)) (own_back c.specs log.host e fits own)
      ∙ ap (λ b. cond b (Ok (Reading.Events logs (with_own log e))) (Err refusals.Limit))
      (lt-ltb (event_count logs + length log.events) 100000 room)

  -- lines of events are taken one after another
  events_read : (logs : List StationLog) (log : StationLog) (es : List StationEvent) (rest : List (List ℕ)) → AllByRecursion IsReadableOwn es →
      list_all (is_own c.specs log.host) es ≡ true → event_count logs + length log.events + length es ≤ 100000 →
      Gives c tail m (Reading.Events logs (with_all log es)) rest → Gives c tail m (Reading.Events logs log) (map own_text es ++ rest)
  events_read logs log [] rest fits own few after =
      subst (λ (es : List StationEvent). Gives c tail m (Reading.Events logs (record log { events = es })) rest) (append-nil log.events) after
  events_read logs log (e ∷ es) rest fits own few after =
      let both = and_parts (is_own c.specs log.host e) (list_all (is_own c.specs log.host) es) own in
      by_line (Reading.Events logs log) (Reading.Events logs (with_own log e)) (own_text e) (map own_text es ++ rest)
      (one_noted logs log e fits.0 both.0 (omega (arith, few)))
      (events_read logs (with_own log e) es rest fits.1 both.1 (omega (arith, few, length-append log.events (e ∷ [])))
      (subst (λ (all : List StationEvent). Gives c tail m (Reading.Events logs (record log { events = all })) rest)
      (sym (append_assoc log.events (e ∷ []) es)) after))

  -- the lines of an opening are those of the first text
  opening_back : (logs : List StationLog) (left rest : List (List ℕ)) → Gives c tail m (Reading.Opening logs []) rest →
      Gives c tail m (Reading.Opening logs left) (left ++ rest)
  opening_back logs [] rest after = after
  opening_back logs (l ∷ ls) rest after =
      by_line (Reading.Opening logs (l ∷ ls)) (Reading.Opening logs ls) l (ls ++ rest)
      (λ n. ap (λ b. cond b (Ok (Reading.Opening logs ls)) (Err (refusals.BadInput n))) ((bytes_eq-Decides l l).1 refl))
      (opening_back logs ls rest after)

  no_event : (host : ℕ) → own_event c.specs host node_title ≡ None
  unfolding words_from station_event_of
  no_event host = refl

  -- the title of the next text
  next_text : (logs : List StationLog) (log : StationLog) (rest : List (List ℕ)) → Gives c tail m (Reading.Opening (logs ++ log ∷ []) []) rest →
      Gives c tail m (Reading.Events logs log) (node_title ∷ (tail ++ rest))
  next_text logs log rest after =
      by_line (Reading.Events logs log) (Reading.Opening (logs ++ log ∷ []) tail) node_title (tail ++ rest)
      (λ n. ap (event_read tail n logs log node_title) (no_event log.host)) (opening_back (logs ++ log ∷ []) tail rest after)

apart : (logs : List StationLog) (l : StationLog) (ls : List StationLog) → HostsDiffer (logs ++ l ∷ ls) → has_log logs l.host ≡ false
apart [] l ls h = refl
apart (d ∷ ds) l ls h =
    let later = or_parts (has_log ds d.host) (has_log (l ∷ ls) d.host)
    (sym (list_any-append (λ (x : StationLog). x.host == d.host) ds (l ∷ ls)) ∙ h.0) in
    let here = or_parts (l.host == d.host) (has_log ls d.host) later.1 in
    or_from (d.host == l.host) (has_log ds l.host) (eqb_turned l.host d.host here.0) (apart ds l ls h.1)

count_parts : (logs : List StationLog) (l : StationLog) (ls : List StationLog) →
    event_count (logs ++ l ∷ ls) ≡ event_count logs + (length l.events + event_count ls)
count_parts logs l ls =
    let f : StationLog → ℕ = λ x. length x.events in
    omega (arith, sum_by-append f logs (l ∷ ls), sum_by-cons f l ls)

-- the lines of one station behind the opening
abbrev own_lines : StationLog → List (List ℕ)
own_lines l = station_text l.host ∷ map own_text l.events

module _ (c : Settings) (tail : List (List ℕ)) where
  abbrev opening : List (List ℕ)
  opening = node_title ∷ tail

  abbrev told_by : List StationLog → NodeTexts
  told_by logs = record { config = c; logs = logs }

  one_log_read : (logs : List StationLog) (l : StationLog) (rest : List (List ℕ)) (m : NodeTexts) → IsLawfulLog c l →
      has_log logs l.host ≡ false → event_count logs + length l.events ≤ 100000 → Gives c tail m (Reading.Events logs l) rest →
      Gives c tail m (Reading.Opening logs []) (own_lines l ++ rest)
  one_log_read logs l rest m is new few after =
      by_line c tail m (Reading.Opening logs []) (Reading.Events logs (without_own l.host)) (station_text l.host) (map own_text l.events ++ rest)
      (λ n. begun c logs l.host is.station new n tail)
      (events_read c tail m logs (without_own l.host) l.events rest is.ranges is.own (omega (arith, few)) after)

  logs_read : (logs : List StationLog) (l : StationLog) (ls : List StationLog) → AllByRecursion (IsLawfulLog c) (l ∷ ls) →
      HostsDiffer (logs ++ l ∷ ls) → event_count (logs ++ l ∷ ls) ≤ 100000 →
      Gives c tail (told_by (logs ++ l ∷ ls)) (Reading.Opening logs []) (own_lines l ++ flat_map (log_lines opening) ls)
  logs_read logs l [] each differ few =
      one_log_read logs l [] (told_by (logs ++ l ∷ [])) each.0 (apart logs l [] differ) (omega (arith, few, count_parts logs l []))
      (λ n. no_more c tail n (Reading.Events logs l) [] refl)
  logs_read logs l (k ∷ ks) each differ few =
      let more : List (List ℕ) = flat_map (log_lines opening) ks in
      let same : (logs ++ l ∷ []) ++ k ∷ ks ≡ logs ++ l ∷ k ∷ ks = append_assoc logs (l ∷ []) (k ∷ ks) in
      let later = logs_read (logs ++ l ∷ []) k ks each.1 (subst HostsDiffer (sym same) differ)
      (subst (λ (x : List StationLog). event_count x ≤ 100000) (sym same) few) in
      let next = next_text c tail (told_by ((logs ++ l ∷ []) ++ k ∷ ks)) logs l (own_lines k ++ more) later in
      one_log_read logs l (opening ++ own_lines k ++ more) (told_by (logs ++ l ∷ k ∷ ks)) each.0 (apart logs l (k ∷ ks) differ)
      (omega (arith, few, count_parts logs l (k ∷ ks)))
      (subst (λ (x : List StationLog). Gives c tail (told_by x) (Reading.Events logs l) (opening ++ own_lines k ++ more)) same
      (subst (λ (x : List (List ℕ)). Gives c tail (told_by ((logs ++ l ∷ []) ++ k ∷ ks)) (Reading.Events logs l) (node_title ∷ x))
      (sym (append_assoc tail (own_lines k) more)) next))

-- Line feeds.

own_no_feed : (es : List StationEvent) → AllByRecursion IsReadableOwn es → AllByRecursion HasNoFeed (map own_text es)
own_no_feed [] h = tt
own_no_feed (e ∷ es) h = (joined_no_feed (own_words e) (no_feeds (own_words e) (own_plain e h.0)), own_no_feed es h.1)

station_no_feed : (host : ℕ) → IsHost host → HasNoFeed (station_text host)
unfolding station_words
station_no_feed host fits = joined_no_feed (station_words host) (no_feeds (station_words host) (station_plain host fits))

logs_no_feed : (c : Settings) (front : List (List ℕ)) (logs : List StationLog) → AllByRecursion HasNoFeed front →
    AllByRecursion (IsLawfulLog c) logs → AllByRecursion HasNoFeed (flat_map (log_lines front) logs)
logs_no_feed c front [] h each = tt
logs_no_feed c front (l ∷ ls) h each =
    both_plain (log_lines front l) (flat_map (log_lines front) ls)
    (both_plain front (own_lines l) h (station_no_feed l.host (host_fits c.specs l.host each.0.station), own_no_feed l.events each.0.ranges))
    (logs_no_feed c front ls h each.1)

-- All of it.

pub heading : (front body : List (List ℕ)) → take (length (front ++ body) - length body) (front ++ body) ≡ front
heading front body =
    let count : length (front ++ body) - length body ≡ length front = omega (arith, length-append front body) in
    ap (λ n. take n (front ++ body)) count ∙ take-append_seam front body

title_is : bytes_eq node_title node_title ≡ true
title_is = (bytes_eq-Decides node_title node_title).1 refl

text_back : (c : Settings) (tail : List (List ℕ)) (l : StationLog) (ls : List StationLog) → IsLawfulNodes (record { config = c; logs = l ∷ ls }) →
    IsNodeOpening c (node_title ∷ tail) → nodes_of (nodes_text (node_title ∷ tail) (l ∷ ls)) ≡ Ok (record { config = c; logs = l ∷ ls })
text_back c tail l ls is front =
    let opening : List (List ℕ) = node_title ∷ tail in
    let body : List (List ℕ) = own_lines l ++ flat_map (log_lines opening) ls in
    let feeds = openings_no_feed other node_title c opening (title_plain other refl) (title_plain node_title refl) is.told (inr front) in
    let lines : lines_of (nodes_text opening (l ∷ ls)) ≡ opening ++ body =
    lines_back (flat_map (log_lines opening) (l ∷ ls)) (logs_no_feed c opening (l ∷ ls) feeds is.logs)
    ∙ append_assoc opening (own_lines l) (flat_map (log_lines opening) ls) in
    let none = no_head l.host (map own_text l.events ++ flat_map (log_lines opening) ls) (host_fits c.specs l.host is.logs.0.station) in
    let found : node_opening (opening ++ body) ≡ Ok (c, body) =
    titled (opening ++ body) node_title (tail ++ body) refl title_is
    ∙ openings_back other node_title c opening body refl is.told (inr front) none in
    ap (λ x. nodes_by x (node_opening x)) lines ∙ ap (nodes_by (opening ++ body)) found
    ∙ ap (λ x. nodes_from c (drop 1 x) (line_number (opening ++ body) body) (Reading.Opening [] []) body) (heading opening body)
    ∙ logs_read c tail [] l ls is.logs is.differ is.few (line_number (opening ++ body) body)

by_logs : (c : Settings) (logs : List StationLog) (tail : List (List ℕ)) → IsLawfulNodes (record { config = c; logs = logs }) →
    IsNodeOpening c (node_title ∷ tail) → nodes_of (nodes_text (node_title ∷ tail) logs) ≡ Ok (record { config = c; logs = logs })
by_logs c [] tail is front = absurd (omega (arith, is.some))
by_logs c (l ∷ ls) tail is front = text_back c tail l ls is front

pub nodes_back : NodesReadBack
nodes_back n lines is front =
    subst (λ o. nodes_of (nodes_text o n.logs) ≡ Ok n) (sym front.2) (by_logs n.config n.logs _ is (front.0, front.1, refl))

-- what is written is read again
pub written_back : (c : Settings) (host : ℕ) (es : List StationEvent) → IsLawfulNodes (one_log c host es) →
    nodes_of (node_text c host es) ≡ Ok (one_log c host es)
written_back c host es is =
    let opening : List (List ℕ) = timed_lines node_title c in
    let pools = pools_written (stations_of c.specs) c.pools (stations_apart c.specs) is.told.lawful.one_each in
    ap (λ ls. nodes_of (flat_map line_text ls)) (sym (append-nil (opening ++ station_text host ∷ map own_text es)))
    ∙ nodes_back (one_log c host es) opening is (_, pools, refl)

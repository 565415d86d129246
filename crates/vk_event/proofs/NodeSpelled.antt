-- What reads as logs is texts of them.
use Rattle.std.proofs.Common.{◌≡◌, ℕ, ◌+◌, ◌-◌, nat_lt, Bool, true, false, cond, List, [], ◌∷◌, ◌++◌, length, map, take, drop, decimal, codes, bytes_eq, Option, Some, None, Result, Ok, Err, refl, ap, sym, subst, ◌∙◌, ◌⊎◌, append_assoc, append-nil}
use Rattle.std.specs.List.{flat_map}
use Rattle.std.proofs.lemmas.List.{map-append}
use Rattle.std.proofs.lemmas.List.Concat.{flat_map-append}
use Rattle.std.proofs.lemmas.Option.{cond_some}
use Rattle.hex.specs.Hex.{encode_lower}
use Rattle.vk_types.specs.Types.{StationEvent}
use Rattle.vk_base.specs.declared.event.StationEvent.TheVariants as events
use Rattle.vk_base.specs.Settings.{Settings}
use Rattle.vk_base.proofs.OptionLemmas.{bind_is}
use Rattle.vk_text.specs.Calls.{call_of, ended}
use Rattle.vk_text.specs.Lines.{lines_of, words_from}
use Rattle.vk_text.specs.Openings.{line_number}
use Rattle.vk_text.specs.Spelling.{joined, pid_text}
use Rattle.vk_text.specs.Words.{pid_of, station_of}
use Rattle.vk_text.proofs.Bodies.{text_spelled}
use Rattle.vk_text.proofs.CallWords.{call_spelled}
use Rattle.vk_text.proofs.Firsts.{ended_is, first_spelled}
use Rattle.vk_text.proofs.HexDigits.{written}
use Rattle.vk_text.proofs.ReadBack.{line_joined}
use Rattle.vk_text.proofs.Spelled.{either_word, pid_spelled, station_spelled}
use Rattle.vk_schedule.specs.declared.schedule.TextRefusal.{TextRefusal}
use Rattle.vk_schedule.specs.declared.schedule.TextRefusal.TheVariants as refusals
use Rattle.vk_event.specs.declared.node.NodeTexts.{NodeTexts}
use Rattle.vk_schedule.specs.declared.log.StationLog.{StationLog}
use Rattle.vk_event.specs.NodeLaws.{IsNodeOpening, NodesAreSpelled, log_lines, nodes_text, own_text, own_words, station_text}
use Rattle.vk_event.specs.Nodes.{Reading, all_read, behind_title, delivery_of, event_count, event_read, frame_of, host_of, line_read, named_of, node_opening, node_title, nodes_by, nodes_from, own_call_of, own_collect_of, own_event, station_event_of, station_read, then_read, where_new, with_own, without_own}
use Rattle.vk_event.proofs.NodeBack.{heading}
use Rattle.vk_event.proofs.NodeFrames.{frame_parts}
use Rattle.vk_event.proofs.NodeLawful.{own_is, station_is_told, whole}
use Rattle.vk_event.proofs.NodeOpenings.{front}

-- Lines.

frame_spelled : (frame word : List ℕ) → frame_of word ≡ Some frame → word ≡ encode_lower frame
frame_spelled frame word h = sym (written word frame (frame_parts word frame h).0)

own_call_spelled : (ws : List (List ℕ)) (e : StationEvent) → own_call_of ws ≡ Some e → codes "call" ∷ ws ≡ own_words e
unfolding own_call_of
own_call_spelled ws e h =
    let pid = first_spelled pid_of pid_text pid_spelled _ e ws h in
    let call = bind_is (call_of pid.1) _ e pid.3 in
    let end = (cond_some true (events.Call pid.0 call.0) e call.2).1 in
    ap (λ l. codes "call" ∷ l) (pid.2 ∙ ap (λ l. pid_text pid.0 ∷ l) (call_spelled pid.1 call.0 call.1)) ∙ ap own_words end

own_collect_spelled : (ws : List (List ℕ)) (e : StationEvent) → own_collect_of ws ≡ Some e → codes "collect" ∷ ws ≡ own_words e
unfolding own_collect_of
own_collect_spelled ws e h =
    let pid = first_spelled pid_of pid_text pid_spelled _ e ws h in
    let end = ended_is pid.1 (events.Collect pid.0) e pid.3 in
    ap (λ l. codes "collect" ∷ l) (pid.2 ∙ ap (λ l. pid_text pid.0 ∷ l) end.0) ∙ ap own_words end.1

own_tick_spelled : (ws : List (List ℕ)) (e : StationEvent) → ended ws events.Tick ≡ Some e → codes "tick" ∷ ws ≡ own_words e
own_tick_spelled ws e h = let end = ended_is ws events.Tick e h in ap (λ l. codes "tick" ∷ l) end.0 ∙ ap own_words end.1

delivery_spelled : (ws : List (List ℕ)) (e : StationEvent) → delivery_of ws ≡ Some e → codes "frame" ∷ ws ≡ own_words e
unfolding delivery_of
delivery_spelled ws e h =
    let frame = first_spelled frame_of encode_lower frame_spelled _ e ws h in
    let end = ended_is frame.1 (events.Deliver frame.0) e frame.3 in
    ap (λ l. codes "frame" ∷ l) (frame.2 ∙ ap (λ l. encode_lower frame.0 ∷ l) end.0) ∙ ap own_words end.1

-- the first word is this one, or the event is another
named : (w word : List ℕ) (ws : List (List ℕ)) (e : StationEvent) (x y : Option StationEvent) → (x ≡ Some e → word ∷ ws ≡ own_words e) →
    (y ≡ Some e → w ∷ ws ≡ own_words e) → cond (bytes_eq w word) x y ≡ Some e → w ∷ ws ≡ own_words e
named w word ws e x y is other h = either_word (w ∷ ws ≡ own_words e) w word x y (Some e) (λ f g. ap (λ l. l ∷ ws) f ∙ is g) other h

event_spelled : (ws : List (List ℕ)) (e : StationEvent) → station_event_of ws ≡ Some e → ws ≡ own_words e
unfolding station_event_of
event_spelled [] e h = cc
event_spelled (w ∷ ws) e h =
    named w (codes "call") ws e _ _ (own_call_spelled ws e)
    (named w (codes "collect") ws e _ _ (own_collect_spelled ws e)
    (named w (codes "tick") ws e _ _ (own_tick_spelled ws e)
    (named w (codes "frame") ws e _ _ (delivery_spelled ws e) (λ none. cc)))) h

line_is : (line : List ℕ) (e : StationEvent) → station_event_of (words_from line 0) ≡ Some e → line ≡ own_text e
line_is line e h = sym (line_joined line) ∙ ap joined (event_spelled (words_from line 0) e h)

named_spelled : (ws : List (List ℕ)) (host : ℕ) → named_of ws ≡ Some host → ws ≡ decimal host ∷ []
unfolding named_of
named_spelled ws host h =
    let number = first_spelled station_of decimal (λ n w f. (station_spelled n w f).0) _ host ws h in
    let end = ended_is number.1 number.0 host number.3 in
    number.2 ∙ ap (λ l. decimal number.0 ∷ l) end.0 ∙ ap (λ n. decimal n ∷ []) end.1

host_spelled : (ws : List (List ℕ)) (host : ℕ) → host_of ws ≡ Some host → ws ≡ codes "station" ∷ decimal host ∷ []
unfolding host_of
host_spelled [] host h = cc
host_spelled (w ∷ ws) host h =
    either_word (w ∷ ws ≡ codes "station" ∷ decimal host ∷ []) w (codes "station") (named_of ws) None (Some host)
    (λ same f. ap (λ l. l ∷ ws) same ∙ ap (λ l. codes "station" ∷ l) (named_spelled ws host f)) (λ none. cc) h

station_line : (line : List ℕ) (host : ℕ) → host_of (words_from line 0) ≡ Some host → line ≡ station_text host
station_line line host h = sym (line_joined line) ∙ ap joined (host_spelled (words_from line 0) host h)

-- What was read.

module _ (tail : List (List ℕ)) where
  abbrev opening : List (List ℕ)
  opening = node_title ∷ tail

  abbrev all_lines : List StationLog → List (List ℕ)
  all_lines logs = flat_map (log_lines opening) logs

  -- these are the lines so far
  abbrev IsSoFar : List (List ℕ) → Reading → Type 0
  IsSoFar lines (Reading.Opening logs left) =
      (first : List (List ℕ)) × (opening ≡ first ++ left) × (lines ≡ all_lines logs ++ first)
  IsSoFar lines (Reading.Events logs log) = lines ≡ all_lines (logs ++ log ∷ [])

  one_more : (logs : List StationLog) (log : StationLog) → all_lines (logs ++ log ∷ []) ≡ all_lines logs ++ log_lines opening log
  one_more logs log =
      flat_map-append (log_lines opening) logs (log ∷ []) ∙ ap (λ l. all_lines logs ++ l) (append-nil (log_lines opening log))

  by_station : (c : Settings) (n : ℕ) (logs : List StationLog) (lines : List (List ℕ)) (line : List ℕ) (o : Option ℕ) (s : Reading) →
      IsSoFar lines (Reading.Opening logs []) → ((host : ℕ) → o ≡ Some host → line ≡ station_text host) → station_read n logs o ≡ Ok s →
      IsSoFar (lines ++ line ∷ []) s
  by_station c n logs lines line None s is found h = cc
  by_station c n logs lines line (Some host) s is found h =
      let first : opening ≡ is.0 = is.1 ∙ append-nil is.0 in
      subst (IsSoFar (lines ++ line ∷ [])) (whole (Reading.Events logs (without_own host)) s refusals.Limit h)
      (ap (λ l. lines ++ l ∷ []) (found host refl) ∙ ap (λ l. l ++ station_text host ∷ []) (is.2 ∙ ap (λ l. all_lines logs ++ l) (sym first))
      ∙ append_assoc (all_lines logs) opening (station_text host ∷ []) ∙ sym (one_more logs (without_own host)))

  by_same : (n : ℕ) (logs : List StationLog) (lines left : List (List ℕ)) (line due : List ℕ) (s : Reading) →
      IsSoFar lines (Reading.Opening logs (due ∷ left)) →
      ◌≡◌ {A = Result Reading TextRefusal} (cond (bytes_eq line due) (Ok (Reading.Opening logs left)) (Err (refusals.BadInput n))) (Ok s) →
      IsSoFar (lines ++ line ∷ []) s
  by_same n logs lines left line due s is h =
      either_word (IsSoFar (lines ++ line ∷ []) s) line due (Ok (Reading.Opening logs left)) (Err (refusals.BadInput n)) (Ok s)
      (λ same read. subst (IsSoFar (lines ++ line ∷ [])) (whole (Reading.Opening logs left) s refusals.Limit read) (
        is.0 ++ line ∷ [],
        is.1 ∙ ap (λ l. is.0 ++ l ∷ left) (sym same) ∙ sym (append_assoc is.0 (line ∷ []) left),
        ap (λ l. l ++ line ∷ []) is.2 ∙ append_assoc (all_lines logs) is.0 (line ∷ []),
      )) (λ none. cc) h

  noted : (logs : List StationLog) (log : StationLog) (e : StationEvent) →
      all_lines (logs ++ log ∷ []) ++ own_text e ∷ [] ≡ all_lines (logs ++ with_own log e ∷ [])
  noted logs log e =
      let station : List (List ℕ) = opening ++ station_text log.host ∷ [] in
      ap (λ l. l ++ own_text e ∷ []) (one_more logs log)
      ∙ append_assoc (all_lines logs) (log_lines opening log) (own_text e ∷ [])
      ∙ ap (λ l. all_lines logs ++ l) (append_assoc opening (station_text log.host ∷ map own_text log.events) (own_text e ∷ [])
      ∙ ap (λ l. opening ++ station_text log.host ∷ l) (sym (map-append own_text log.events (e ∷ []))))
      ∙ sym (one_more logs (with_own log e))

  by_room : (logs : List StationLog) (log : StationLog) (lines : List (List ℕ)) (line : List ℕ) (e : StationEvent) (b : Bool) (s : Reading) →
      IsSoFar lines (Reading.Events logs log) → line ≡ own_text e →
      ◌≡◌ {A = Result Reading TextRefusal} (cond b (Ok (Reading.Events logs (with_own log e))) (Err refusals.Limit)) (Ok s) →
      IsSoFar (lines ++ line ∷ []) s
  by_room logs log lines line e true s is same h =
      subst (IsSoFar (lines ++ line ∷ [])) (whole (Reading.Events logs (with_own log e)) s refusals.Limit h)
      (ap (λ l. lines ++ l ∷ []) same ∙ ap (λ l. l ++ own_text e ∷ []) is ∙ noted logs log e)
  by_room logs log lines line e false s is same h = cc

  by_event : (n : ℕ) (logs : List StationLog) (log : StationLog) (lines : List (List ℕ)) (line : List ℕ) (o : Option StationEvent)
      (s : Reading) → IsSoFar lines (Reading.Events logs log) → ((e : StationEvent) → o ≡ Some e → line ≡ own_text e) →
      event_read tail n logs log line o ≡ Ok s → IsSoFar (lines ++ line ∷ []) s
  by_event n logs log lines line (Some e) s is found h =
      by_room logs log lines line e (nat_lt (event_count logs + length log.events) 100000) s is (found e refl) h
  by_event n logs log lines line None s is found h =
      either_word (IsSoFar (lines ++ line ∷ []) s) line node_title (Ok (Reading.Opening (logs ++ log ∷ []) tail)) (Err (refusals.BadInput n)) (Ok s)
      (λ same read. subst (IsSoFar (lines ++ line ∷ [])) (whole (Reading.Opening (logs ++ log ∷ []) tail) s refusals.Limit read)
      (node_title ∷ [], refl, ap (λ l. lines ++ l ∷ []) same ∙ ap (λ l. l ++ node_title ∷ []) is)) (λ none. cc) h

  line_so_far : (c : Settings) (n : ℕ) (lines : List (List ℕ)) (r s : Reading) (line : List ℕ) → IsSoFar lines r →
      line_read c tail n r line ≡ Ok s → IsSoFar (lines ++ line ∷ []) s
  line_so_far c n lines (Reading.Opening logs []) s line is h =
      by_station c n logs lines line (where_new c.specs logs (host_of (words_from line 0))) s is
      (λ host f. station_line line host (station_is_told c.specs logs (host_of (words_from line 0)) host f)) h
  line_so_far c n lines (Reading.Opening logs (due ∷ left)) s line is h = by_same n logs lines left line due s is h
  line_so_far c n lines (Reading.Events logs log) s line is h =
      by_event n logs log lines line (own_event c.specs log.host line) s is
      (λ e f. line_is line e (own_is c.specs log.host (station_event_of (words_from line 0)) e f).0) h

  abbrev IsAll : Settings → List (List ℕ) → NodeTexts → Type 0
  IsAll c lines m = (lines ≡ all_lines m.logs) × (c ≡ m.config)

  at_end : (c : Settings) (n : ℕ) (lines : List (List ℕ)) (r : Reading) (m : NodeTexts) → IsSoFar lines r → all_read c n r ≡ Ok m →
      IsAll c (lines ++ []) m
  at_end c n lines (Reading.Opening logs left) m is h = cc
  at_end c n lines (Reading.Events logs log) m is h =
      subst (IsAll c (lines ++ [])) (whole (record { config = c; logs = logs ++ log ∷ [] }) m refusals.Limit h) (append-nil lines ∙ is, refl)

  by_line : (c : Settings) (lines ls : List (List ℕ)) (l : List ℕ) (r : Result Reading TextRefusal)
      (rest : Reading → Result NodeTexts TextRefusal) (m : NodeTexts) → ((s : Reading) → r ≡ Ok s → IsSoFar (lines ++ l ∷ []) s) →
      ((s : Reading) → IsSoFar (lines ++ l ∷ []) s → rest s ≡ Ok m → IsAll c ((lines ++ l ∷ []) ++ ls) m) → then_read r rest ≡ Ok m →
      IsAll c (lines ++ l ∷ ls) m
  by_line c lines ls l (Ok s) rest m is after h =
      subst (λ x. IsAll c x m) (append_assoc lines (l ∷ []) ls) (after s (is s refl) h)
  by_line c lines ls l (Err e) rest m is after h = cc

  all_so_far : (c : Settings) (n : ℕ) (lines ls : List (List ℕ)) (r : Reading) (m : NodeTexts) → IsSoFar lines r →
      nodes_from c tail n r ls ≡ Ok m → IsAll c (lines ++ ls) m
  unfolding nodes_from
  all_so_far c n lines [] r m is h = at_end c n lines r m is h
  all_so_far c n lines (l ∷ ls) r m is h =
      by_line c lines ls l (line_read c tail n r l) (λ s. nodes_from c tail (n + 1) s ls) m (λ s. line_so_far c n lines r s l is)
      (λ s so. all_so_far c (n + 1) (lines ++ l ∷ []) ls s m so) h

-- All of it.

behind_front : (lines rest opening tail : List (List ℕ)) → lines ≡ opening ++ rest → opening ≡ node_title ∷ tail →
    behind_title lines rest ≡ tail
behind_front lines rest opening tail parts is =
    ap (λ x. drop 1 (take (length x - length rest) x)) parts ∙ ap (drop 1) (heading opening rest) ∙ ap (drop 1) is

by_front : (text : List ℕ) (m : NodeTexts) (c : Settings) (rest tail : List (List ℕ)) → lines_of text ≡ (node_title ∷ tail) ++ rest →
    IsNodeOpening c (node_title ∷ tail) → (n : ℕ) → nodes_from c tail n (Reading.Opening [] []) rest ≡ Ok m →
    (opening : List (List ℕ)) × IsNodeOpening m.config opening
    × ((text ≡ nodes_text opening m.logs) ⊎ (text ++ codes "\n" ≡ nodes_text opening m.logs))
by_front text m c rest tail parts is n h =
    let opening : List (List ℕ) = node_title ∷ tail in
    let all = all_so_far tail c n opening rest (Reading.Opening [] []) m (opening, sym (append-nil opening), refl) h in (
      opening,
      subst (λ (x : Settings). IsNodeOpening x opening) all.1 is,
      text_spelled text (nodes_text opening m.logs) (flat_map (log_lines opening) m.logs) (parts ∙ all.0) refl,
    )

by_opening : (text : List ℕ) (m : NodeTexts) (o : Result (Settings × List (List ℕ)) ℕ) → node_opening (lines_of text) ≡ o →
    nodes_by (lines_of text) o ≡ Ok m →
    (opening : List (List ℕ)) × IsNodeOpening m.config opening
    × ((text ≡ nodes_text opening m.logs) ⊎ (text ++ codes "\n" ≡ nodes_text opening m.logs))
by_opening text m (Err n) is h = cc
by_opening text m (Ok found) is h =
    let first = front (lines_of text) found.1 found.0 is in
    let same = first.is.2 in
    by_front text m found.0 found.1 _ (first.whole ∙ ap (λ x. x ++ found.1) same) (first.is.0, first.is.1, refl)
    (line_number (lines_of text) found.1)
    (ap (λ x. nodes_from found.0 x (line_number (lines_of text) found.1) (Reading.Opening [] []) found.1)
    (sym (behind_front (lines_of text) found.1 first.opening _ first.whole same)) ∙ h)

pub nodes_spelled : NodesAreSpelled
nodes_spelled text m h = by_opening text m (node_opening (lines_of text)) refl h

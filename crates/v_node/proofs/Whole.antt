-- What a node comes to: the parts put together.
use Rattle.std.proofs.Common.{◌≡◌, ℕ, ◌≤◌, Bool, true, false, Some, List, [], ◌∷◌, cond, filter, length, map, refl, sym, ap, ◌∙◌, subst, arith, ◌⊎◌, inl, inr}
use mathlib.Core.List.{IsPrefix}
use Rattle.vk_types.specs.Types.{StationEvent}
use Rattle.turn_cell.specs.declared.replay.Room.TheVariants as rooms
use Rattle.vk_base.specs.Settings.{Settings, stations_of}
use Rattle.vk_frame.specs.Law.{FramesAreSpelledOnce}
use Rattle.vk_hub.specs.declared.event.HubEvent.{HubEvent}
use Rattle.vk_hub.specs.Hubs.{HubLog, others}
use Rattle.vk_hub.specs.Links.{Frame}
use Rattle.vk_join.proofs.Given.{IsSound}
use Rattle.vk_packet.specs.Laws.{NothingElseIsRead}
use Rattle.vk_port.specs.Stations.{IsLawfulHistory, StationHistory, emitted_bytes, entries_at, event_of, is_own, is_used_up_by}
use Rattle.vk_rules.specs.Each.{Each}
use Rattle.vk_rules.specs.Entries.{Entry}
use Rattle.vk_rules.specs.Laws.{FramesUnsealAgain}
use Rattle.vk_rules.proofs.Lists.{each_weaker, each_front}
use Rattle.v_ended.specs.Answered.{ComeInTime}
use Rattle.v_run.specs.Jobs.{JobEnd, MetFull}
use Rattle.v_run.specs.Laws.{closed_station}
use Rattle.v_run.specs.Outcomes.{ticks_in}
use Rattle.v_run.specs.Passages.{HasHeard, Passage, fresh_station, host_of, nowhere, tick_count}
use Rattle.v_run.specs.Ran.{HandsOut}
use Rattle.v_run.specs.Runs.{passages_of}
use Rattle.v_run.proofs.Ended.{Among, of_each}
use Rattle.v_run.proofs.Framed.{behind_are, inputs_behind}
use Rattle.v_run.proofs.Limits.{others_prefix}
use Rattle.v_run.proofs.Logs.{entered_places}
use Rattle.v_run.proofs.Ready.{IsLight, early, early_none, in_time_all, light_log}
use Rattle.v_run.proofs.Reasons.{used_more}
use Rattle.v_run.proofs.Sound.{AreOpen}
use Rattle.v_run.proofs.Sums.{added_same_each}
use Rattle.v_run.proofs.Totals.{added_none, weight}
use Rattle.v_run.proofs.Whole.{among_jobs, among_left, among_right, one_among}
use Rattle.v_node.specs.Closed.{IsNodeClosed}
use Rattle.v_node.specs.Jobs.{AreNodeJobs, IsProgramEnd, LinkMetFull, NodeEnd, NoneMet, SomeMetFull, passages_in}
use Rattle.v_node.specs.Laws.{ClosedNodesAreRuns, FramesGoToOthers, IsForOthers, IsHeld}
use Rattle.v_node.specs.Links.{brought_by, delivered_in, is_kept, is_welcome}
use Rattle.v_node.specs.Outcomes.{IsExhausted}
use Rattle.v_node.specs.Sent.{NodesSendTheirOwn}
use Rattle.v_node.proofs.Answered.{all_out}
use Rattle.v_node.proofs.Brought.{delivered_is}
use Rattle.v_node.proofs.Crowded.{others_few}
use Rattle.v_node.proofs.Ending.{goes_on}
use Rattle.v_node.proofs.Following.{ended, follows, idle}
use Rattle.v_node.proofs.Long.{opened_long}
use Rattle.v_node.proofs.Own.{no_drops}
use Rattle.v_node.proofs.Sending.{own_frames}
use Rattle.v_node.proofs.Sound.{for_others, opens, sound}
use Rattle.v_node.proofs.Sums.{DHere, all_here, at_station}
use Rattle.v_node.proofs.Ticking.{ticks}

each_kept_by : {A : Type 0} (f : A → Bool) (x : A) (xs : List A) (b : Bool) → f x ≡ b → Each (λ y. f y ≡ true) xs
    → Each (λ y. f y ≡ true) (cond b (x ∷ xs) xs)
each_kept_by f x xs true is rest = (is, rest)
each_kept_by f x xs false is rest = rest

each_kept : {A : Type 0} (f : A → Bool) (xs : List A) → Each (λ y. f y ≡ true) (filter f xs)
each_kept f [] = tt
each_kept f (x ∷ xs) = each_kept_by f x (filter f xs) (f x) refl (each_kept f xs)

each_event : (P : StationEvent → Type 0) (xs : List (ℕ × StationEvent)) → Each (λ (x : ℕ × StationEvent). P x.1) xs
    → Each P (map event_of xs)
each_event P [] all = tt
each_event P (x ∷ xs) all = (all.0, each_event P xs all.1)

module _ (unseal : FramesUnsealAgain) (frames : FramesAreSpelledOnce) (packets : NothingElseIsRead) (go : FramesGoToOthers) (c : Settings)
    (host : ℕ) (o : HubLog) (rounds : ℕ) (history : List (ℕ × StationEvent)) (heard : List (ℕ × HubEvent)) (n : NodeEnd)
    (k : IsNodeClosed c host o history heard n) (jobs : AreNodeJobs c host o rounds n)
    (lawful : IsLawfulHistory (closed_station c host history)) (held : IsHeld c (map event_of history)) where
  abbrev O : StationHistory
  O = fresh_station c host

  abbrev es : List Entry
  es = entries_at O history

  abbrev G : List Passage
  G = passages_in n

  abbrev H : Passage → Type 0
  H = DHere c host o history heard n k

  here : Each H G
  here = all_here c host o history heard n k

  is_sound : IsSound host es
  is_sound = sound frames packets unseal go c host history lawful held

  are_open : AreOpen es
  are_open = opens frames packets unseal go c host history lawful held

  go_away : Each (λ (e : Entry). Each (IsForOthers host) e.frames) es
  go_away = for_others frames packets unseal go c host history lawful held

  -- each collect came in time
  early_by : (g : Passage) → H g → weight (early O) (entered_places g.actions) ≡ 0
  early_by g d =
      let at : g.berth.station ≡ O = d.0.0.station ∙ ap (fresh_station c) d.1 in
      light_log (early O) g.berth (subst (IsLight (early O)) (sym at) (early_none O)) g.actions nowhere g.left d.0.0.log

  in_time : ComeInTime c host es
  in_time =
      let all = at_station c host o history heard n k (early O) in
      let ports = added_same_each H (λ (g : Passage). weight (early O) (entered_places g.actions)) (λ (g : Passage). 0) G early_by here in
      let none = added_none (λ (g : Passage). 0) G (λ g. refl) in
      let l = n.link in
      let link = light_log (early O) l.berth (subst (IsLight (early O)) (sym k.link.station) (early_none O)) l.actions nowhere l.left
      k.link.log in
      in_time_all O [] history (omega arith) tt

  -- and hands out an answer
  hands_out : Each (λ (e : Entry). HandsOut e.input e.answer) es
  hands_out =
      let same = behind_are c host [] (map event_of history) in
      subst (Each (λ (e : Entry). HandsOut e.input e.answer)) (sym same)
      (all_out c host (inputs_behind [] (map event_of history)) (subst (ComeInTime c host) same in_time))

  -- why it was limited
  crowded : (xs : List (ℕ × HubEvent)) → IsPrefix xs heard → 200000 ≤ others xs → IsExhausted c es
  crowded xs pre full =
      let more = others_prefix xs heard pre in
      let few = others_few c host o rounds history heard n k jobs is_sound.rise are_open go_away held.lawful lawful.station in
      inr (omega arith)

  met_full : (g : Passage) → Among g G → MetFull c g → IsExhausted c es
  met_full g among (inl used) =
      let d = of_each H G g here among in
      inl (subst (λ h.
      is_used_up_by (length (entries_at (fresh_station c h) history)) (emitted_bytes (entries_at (fresh_station c h) history))
      (length (stations_of c.specs)) ≡ true) d.1 (used_more (fresh_station c (host_of g)) g.left.seen history d.0.1.seen used))
  met_full g among (inr (inl dropped)) =
      absurd (no_drops c host o history heard n k jobs.link is_sound.rise are_open go_away g among dropped.0 dropped.1)
  met_full g among (inr (inr full)) =
      let d = of_each H G g here among in crowded g.left.heard d.0.1.heard full

  exhausted : SomeMetFull n → IsExhausted c es
  exhausted (inl one) =
      let job = one_among (λ (j : JobEnd). j.met ≡ Some rooms.Full) n.programs one in
      let end = of_each (IsProgramEnd c) n.programs job.0 jobs.programs job.1 in
      let met = one_among (MetFull c) job.0.passages (end.job.full job.2) in
      met_full met.0
      (among_left met.0 (passages_of n.programs) (n.clock.passage ∷ []) (among_jobs met.0 job.0 n.programs job.1 met.1)) met.2
  exhausted (inr (inl clock)) =
      met_full n.clock.passage
      (among_right n.clock.passage (passages_of n.programs) (n.clock.passage ∷ []) (inl refl)) (jobs.clock.full clock)
  exhausted (inr (inr link)) = by (jobs.link.full link)
    where
      by : LinkMetFull c host n.link → IsExhausted c es
      by (inl used) = inl (used_more O n.link.left.seen history k.link_closed.seen used)
      by (inr (inl full)) = crowded n.link.left.heard k.link_closed.heard full
      by (inr (inr full)) = crowded n.link.reached.heard k.link_closed.reached full

  -- its ticks
  all_ticks : NoneMet n → n.link.failed ≡ false → ticks_in es ≡ rounds
  all_ticks none fine = ticks c host o rounds history heard n k jobs ∙ by (jobs.clock.all none.1)
    where
      by : (tick_count n.clock.passage.actions ≡ rounds) ⊎ HasHeard n.clock.passage.actions → tick_count n.clock.passage.actions ≡ rounds
      by (inl is) = is
      by (inr has) = absurd (goes_on c host o rounds history heard n k jobs none fine has)

  -- what it delivered
  delivers_is : delivered_in (map event_of history) ≡ brought_by n.link.actions
  delivers_is = delivered_is c host o history heard n k jobs.link is_sound.rise are_open go_away

  brought : IsPrefix (delivered_in (map event_of history)) (filter (is_kept host) n.link.handed)
  brought = subst (λ l. IsPrefix l (filter (is_kept host) n.link.handed)) (sym delivers_is) jobs.link.brought

  kept : Each (λ (frame : Frame). is_kept host frame ≡ true) (delivered_in (map event_of history))
  kept =
      each_front (λ (frame : Frame). is_kept host frame ≡ true) (delivered_in (map event_of history)) brought.0
      (subst (Each (λ (frame : Frame). is_kept host frame ≡ true)) (sym brought.1) (each_kept (is_kept host) n.link.handed))

  long : Each (λ (frame : Frame). 33 ≤ length frame) (delivered_in (map event_of history))
  long =
      each_weaker (λ (frame : Frame). is_kept host frame ≡ true) (λ (frame : Frame). 33 ≤ length frame)
      (delivered_in (map event_of history)) kept
      (λ frame is. opened_long frame (is_welcome host) is)

pub closed_nodes_are_runs : FramesUnsealAgain → FramesAreSpelledOnce → NothingElseIsRead → FramesGoToOthers → ClosedNodesAreRuns
closed_nodes_are_runs unseal frames packets go c host o rounds history heard n limited k jobs lawful held fine none some = record {
  collected = in_time unseal frames packets go c host o rounds history heard n k jobs lawful held;
  answered = hands_out unseal frames packets go c host o rounds history heard n k jobs lawful held;
  follows = follows c host o rounds history heard n k jobs;
  ended = λ is. ended c host o rounds history heard n k jobs (none is).0;
  idle = idle c host o rounds history heard n k jobs;
  few_ticks = let same = ticks c host o rounds history heard n k jobs in let few = jobs.clock.few in omega arith;
  all_ticks = λ is. all_ticks unseal frames packets go c host o rounds history heard n k jobs lawful held (none is) fine;
  brought = brought unseal frames packets go c host o rounds history heard n k jobs lawful held;
  all_brought = λ is.
      delivers_is unseal frames packets go c host o rounds history heard n k jobs lawful held ∙ jobs.link.whole (none is).2;
  kept = kept unseal frames packets go c host o rounds history heard n k jobs lawful held;
  long = long unseal frames packets go c host o rounds history heard n k jobs lawful held;
  limited = λ is. exhausted unseal frames packets go c host o rounds history heard n k jobs lawful held (some is);
  own = each_event (λ e. is_own (fresh_station c host) e ≡ true) history lawful.own;
}

pub nodes_send_their_own : FramesUnsealAgain → FramesAreSpelledOnce → NothingElseIsRead → FramesGoToOthers → NodesSendTheirOwn
nodes_send_their_own unseal frames packets go c host o rounds history heard n k jobs lawful held =
    own_frames c host o history heard n k jobs.link (is_sound unseal frames packets go c host o rounds history heard n k jobs lawful held).rise
    (are_open unseal frames packets go c host o rounds history heard n k jobs lawful held)
    (go_away unseal frames packets go c host o rounds history heard n k jobs lawful held)

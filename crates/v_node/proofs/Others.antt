-- No packet that a station sends is for one of its own processes, whatever its processes call and whatever frames come.
use Rattle.std.proofs.Common.{◌≡◌, ◌≢◌, if◌then◌else◌, ℕ, zero, suc, ◌+◌, ◌<◌, Bool, true, false, ◌==◌, ◌&&◌, not, List, [], ◌∷◌, filter, flat_map, map, Option, Some, None, is_none, refl, sym, subst, ◌∙◌, arith}
use Rattle.std.proofs.lemmas.Bool.{both_ways, eqb-true, eq-eqb, not-true}
use Rattle.std.proofs.lemmas.Option.{same_Some, none-some}
use Rattle.std.specs.Option.{option_map_or}
use Rattle.std.specs.Prelude.{option_map}
use Rattle.vk_host.proofs.FewFrames.{is_taken}
use Rattle.vk_types.specs.Types.{Call, EventAnswer, Exchange, Message, Name, Pid, Process, ProcessSpec, Stage, State, Times}
use Rattle.vk_base.specs.declared.call.Call.TheVariants as calls
use Rattle.vk_base.specs.declared.event.EventAnswer.TheVariants as events_answered
use Rattle.vk_base.specs.declared.kernel.Stage.TheVariants as stages
use Rattle.vk_base.specs.declared.kernel.State.TheVariants as states
use Rattle.vk_base.specs.declared.step.Step.TheVariants as steps
use Rattle.vk_base.specs.Kernel.{Kernel, blocked_in, held, holds_of, is_live, name_of}
use Rattle.vk_base.specs.Packets.{Packet, Send, Reply, Pending, Negative, MoveData, MoveAck, MoveRequest, MoveBytes, MoveNegative, AskPid, TellPid}
use Rattle.vk_base.specs.Pids.{same_host}
use Rattle.vk_base.specs.Settings.{Settings, is_on}
use Rattle.vk_base.specs.Steps.{next}
use Rattle.vk_rules.specs.Aliens.{Alien, alien_of, place_for}
unfoldable use Rattle.vk_rules.specs.CallOutcomes.{call_outcome, collect_outcome, tick_outcome}
use Rattle.vk_rules.specs.CallOutcomes.{is_ok, negative_for, packets_of, reply_packets, sent_again}
use Rattle.vk_rules.specs.Each.{Each}
use Rattle.vk_rules.specs.Entries.{Called, Collected, Delivered, Entry, Input, Ticked, is_begun, is_frame_taken}
use Rattle.vk_rules.specs.Frames.{Frame, Framed, Headed, Noise, destination_of, frames_of}
unfoldable use Rattle.vk_rules.specs.PacketOutcomes.{packet_outcome}
use Rattle.vk_rules.specs.PacketOutcomes.{FarSender, ack_outcome, bytes_outcome, data_outcome, far_partner, found_there, has_made, is_later, is_opened, is_same, may_be_read, may_be_written, no_sender, request_outcome, restarts_at, running_from, running_to, send_outcome, told_asker}
use Rattle.vk_rules.specs.Readings.{Reading, reading}
unfoldable use Rattle.vk_rules.specs.Right.{right_entry}
use Rattle.vk_rules.specs.Right.{answer_to, entries_of, own_pids}
unfoldable use Rattle.vk_rules.specs.Rounds.{round}
use Rattle.vk_rules.specs.Rounds.{Outcome, nothing, offsets, only_steps, round_of_call, send_packets, told_by_stage, told_sender}
use Rattle.vk_rules.specs.Works.{Work, is_due, is_last, is_unanswered, move_count, no_work, shows_gap}
use Rattle.vk_rules.proofs.Lists.{each_append, each_if, each_map, each_or}
use Rattle.vk_stands.proofs.Received.{IsFor, received}
use Rattle.v_ages.specs.Apart.{in_slot}
use Rattle.v_ages.proofs.Lists.{each_frame, each_option}
use Rattle.v_ages.proofs.Outcomes.{each_told, outcome_if, outcome_or}
use Rattle.v_whole.specs.EveryFrame.{AreOwnInputs, EveryFrameHolds, IsOwnInput}
use Rattle.v_node.specs.Laws.{FramesGoToOthers, IsForOthers}
use Rattle.v_node.proofs.States.{AreProper, IsFarCall, IsProperState, proper_next, proper_view}

each_of_flat : {A B : Type 0} (Q : A → Type 0) (P : B → Type 0) (f : A → List B) (xs : List A) → Each Q xs → ((x : A) → Q x → Each P (f x))
    → Each P (flat_map f xs)
each_of_flat Q P f [] each all = tt
each_of_flat Q P f (x ∷ xs) each all = each_append P (f x) (flat_map f xs) (all x each.0) (each_of_flat Q P f xs each.1 all)

is_other : (a b : ℕ) → (a == b) ≡ false → a ≢ b
is_other a b no_test same = both_ways (a == b) no_test (eq-eqb a b same)

module _ (h : ℕ) (low : h < 65535) where
  -- the packet is for another station, or for all
  abbrev Goes : Packet → Type 0
  Goes p = destination_of p ≢ h

  to_all : 65535 ≢ h
  to_all same = let l = low in let s : 65535 ≡ h = same in absurd (omega arith)

  far_from : (pid q : Pid) → pid.host ≡ h → same_host pid q ≡ false → q.host ≢ h
  far_from pid q own far here = is_other pid.host q.host far (own ∙ sym here)

  -- What a sender is told.
  told_stage : (name : Name) (target : Pid) (live : Bool) (x : Stage) → name.sender.host ≢ h → Each Goes (told_by_stage name target live x)
  told_stage name target live stages.Posted far = each_if Goes (not live) _ (λ t. (far, tt))
  told_stage name target live stages.Queued far = (far, tt)
  told_stage name target live stages.Taken far = (far, tt)
  told_stage name target live (stages.Replied m dest bytes) far = (far, tt)
  told_stage name target live stages.Dropped far = each_if Goes (not live) _ (λ t. (far, tt))

  told : (k : Kernel) (name : Name) → name.sender.host ≢ h → Each Goes (told_sender k name)
  told k name far = each_told Goes k name (λ x is. told_stage name x.target (is_live (k.procs x.at)) x.stage far)

  -- Rounds.
  sent_packets : (k : Kernel) (pid : Pid) (p : Process) (target : Pid) (m : Message) → target.host ≢ h
      → Each Goes (send_packets k pid p target m)
  sent_packets k pid p target m far =
      each_option Goes _ (λ x e. by (k.exchanges (name_of pid p.sends)) x e)
    where
      by : (o : Option Exchange) (x : Packet) → option_map (λ (e : Exchange). Send pid target p.sends m e.part) o ≡ Some x → Goes x
      by None x e = absurd (none-some _ e)
      by (Some y) x e = subst Goes (same_Some (Send pid target p.sends m y.part) x e) far

  call_round : (k : Kernel) (w : Work) (pid : Pid) (p : Process) (c : Call) → pid.host ≡ h → IsFarCall pid c
      → Each Goes (round_of_call k w pid p c)
  call_round k w pid p (calls.Send to m) own far =
      each_if Goes (not (same_host pid to)) _ (λ away. sent_packets k pid p to m (far_from pid to own (not-true (same_host pid to) away)))
  call_round k w pid p (calls.MoveTo partner dest src count) own far =
      each_or Goes _ p.moving (λ m e. each_map Goes _ (offsets w.acknowledged count) (λ at. far_from pid partner own far))
  call_round k w pid p (calls.MoveFrom partner dest src count) own far =
      each_or Goes _ p.moving (λ m e. (far_from pid partner own far, tt))
  call_round k w pid p (calls.GetPid logical scope) own far = (to_all, tt)
  call_round k w pid p calls.Receive own far = tt
  call_round k w pid p (calls.ReceiveSegment start count) own far = tt
  call_round k w pid p (calls.Reply m to) own far = tt
  call_round k w pid p (calls.ReplySegment m to dest src count) own far = tt
  call_round k w pid p (calls.Forward m from to) own far = tt
  call_round k w pid p (calls.SetPid logical q scope) own far = tt
  call_round k w pid p (calls.Load start count) own far = tt
  call_round k w pid p (calls.Store start bytes) own far = tt
  call_round k w pid p calls.Exit own far = tt

  blocked_far : (pid : Pid) (s : State) (c : Call) → blocked_in s ≡ Some c → IsProperState pid s → IsFarCall pid c
  blocked_far pid states.Ready c is far = absurd (none-some _ is)
  blocked_far pid (states.Blocked x) c is far = subst (IsFarCall pid) (same_Some x c is) far
  blocked_far pid (states.Done x a) c is far = absurd (none-some _ is)

  rounds : (k : Kernel) (w : Work) (pid : Pid) → pid.host ≡ h → AreProper k → Each Goes (round k w pid)
  unfolding round
  rounds k w pid own proper =
      each_or Goes _ (k.procs pid) (λ p is. each_or Goes (round_of_call k w pid p) (blocked_in p.state) (λ c b.
      call_round k w pid p c own (blocked_far pid p.state c b (proper.each pid p is))))

  -- Calls.
  abbrev IsFarSlot : Option Alien → Type 0
  IsFarSlot None = Unit {0}
  IsFarSlot (Some a) = a.name.sender.host ≢ h

  replies : (before after : Kernel) (pid to : Pid) → pid.host ≡ h → Each Goes (reply_packets before after pid to)
  replies before after pid to own =
      each_if Goes (not (same_host pid to)) _ (λ away. each_or Goes _ (held before pid to) (λ number e.
      told after (name_of to number) (far_from pid to own (not-true (same_host pid to) away))))

  negatives : (before after : Kernel) (pid : Pid) (slot : Option Alien) → IsFarSlot slot
      → Each Goes (option_map_or (negative_for before after pid) slot [])
  negatives before after pid None far = tt
  negatives before after pid (Some a) far = each_if Goes _ _ (λ t. told after a.name far)

  call_goes : (before after : Kernel) (slots : List (Option Alien)) (pid : Pid) (c : Call) (a : EventAnswer) → pid.host ≡ h
      → Each IsFarSlot slots → AreProper after → Each Goes (packets_of before after slots pid c a)
  call_goes before after slots pid (calls.Reply m to) a own aliens proper = each_if Goes (is_ok a) _ (λ t. replies before after pid to own)
  call_goes before after slots pid (calls.ReplySegment m to dest src count) a own aliens proper =
      each_if Goes (is_ok a) _ (λ t. replies before after pid to own)
  call_goes before after slots pid calls.Exit a own aliens proper =
      each_if Goes (is_ok a) _ (λ t.
      each_of_flat IsFarSlot Goes (λ slot. option_map_or (negative_for before after pid) slot []) slots aliens
      (λ slot is. negatives before after pid slot is))
  call_goes before after slots pid (calls.Send target m) a own aliens proper =
      each_if Goes (is_begun a) _ (λ t. rounds after no_work pid own proper)
  call_goes before after slots pid calls.Receive a own aliens proper = each_if Goes (is_begun a) _ (λ t. rounds after no_work pid own proper)
  call_goes before after slots pid (calls.ReceiveSegment start count) a own aliens proper =
      each_if Goes (is_begun a) _ (λ t. rounds after no_work pid own proper)
  call_goes before after slots pid (calls.Forward m from to) a own aliens proper =
      each_if Goes (is_begun a) _ (λ t. rounds after no_work pid own proper)
  call_goes before after slots pid (calls.MoveTo partner dest src count) a own aliens proper =
      each_if Goes (is_begun a) _ (λ t. rounds after no_work pid own proper)
  call_goes before after slots pid (calls.MoveFrom partner dest src count) a own aliens proper =
      each_if Goes (is_begun a) _ (λ t. rounds after no_work pid own proper)
  call_goes before after slots pid (calls.SetPid logical q scope) a own aliens proper =
      each_if Goes (is_begun a) _ (λ t. rounds after no_work pid own proper)
  call_goes before after slots pid (calls.GetPid logical scope) a own aliens proper =
      each_if Goes (is_begun a) _ (λ t. rounds after no_work pid own proper)
  call_goes before after slots pid (calls.Load start count) a own aliens proper =
      each_if Goes (is_begun a) _ (λ t. rounds after no_work pid own proper)
  call_goes before after slots pid (calls.Store start bytes) a own aliens proper =
      each_if Goes (is_begun a) _ (λ t. rounds after no_work pid own proper)

  -- Ticks.
  own_by : (s : ProcessSpec) (ss : List ProcessSpec) (b : Bool) → is_on h s ≡ b
      → Each (λ (x : Pid). x.host ≡ h) (map (λ (x : ProcessSpec). x.pid) ss)
      → Each (λ (x : Pid). x.host ≡ h) (map (λ (x : ProcessSpec). x.pid) (if b then s ∷ ss else ss))
  own_by s ss true is rest = (eqb-true s.pid.host h is, rest)
  own_by s ss false is rest = rest

  are_own : (specs : List ProcessSpec) → Each (λ (x : Pid). x.host ≡ h) (map (λ (x : ProcessSpec). x.pid) (filter (is_on h) specs))
  are_own [] = tt
  are_own (s ∷ ss) = own_by s (filter (is_on h) ss) (is_on h s) refl (are_own ss)

  tick_goes : (t : Times) (now : ℕ) (r : Reading) (pids : List Pid) → Each (λ (x : Pid). x.host ≡ h) pids → AreProper r.view
      → Each Goes (flat_map (sent_again t now r) pids)
  tick_goes t now r pids own proper =
      each_of_flat (λ (x : Pid). x.host ≡ h) Goes (sent_again t now r) pids own
      (λ pid is. each_if Goes (is_due t now (r.work pid) && not (is_unanswered t (r.work pid))) _
      (λ u. rounds r.view (r.work pid) pid is proper))

  -- Packets that come.
  abbrev GoesAll : Outcome → Type 0
  GoesAll o = Each Goes o.packets

  send_goes : (r : Reading) (p : Packet) (name : Name) (to : Pid) → name.sender.host ≢ h → GoesAll (send_outcome r p name to)
  send_goes r p name to far =
      outcome_if GoesAll (holds_of (is_later name.number) (alien_of r.slots name.sender)) _ _ (λ t. tt) (λ t.
      outcome_if GoesAll (holds_of (is_same name.number) (alien_of r.slots name.sender)) _ _ (λ t. told r.view name far) (λ t.
      outcome_if GoesAll (not (is_live (r.view.procs to))) _ _ (λ t. (far, tt)) (λ t.
      outcome_if GoesAll (is_none (place_for r.slots name.sender)) _ _ (λ t. (far, tt)) (λ t. tt))))

  no_sender_goes : (k : Kernel) (name : Name) (mover : Pid) (moving : ℕ) → mover.host ≢ h → GoesAll (no_sender k name mover moving)
  no_sender_goes k name mover moving far = each_if Goes (has_made k name) _ (λ t. (far, tt))

  packet_goes : (r : Reading) (p : Packet) → IsFor h p → AreProper r.view → GoesAll (packet_outcome h r p)
  unfolding packet_outcome
  packet_goes r (Send from to number m part) taken proper =
      send_goes r (Send from to number m part) (name_of from number) to (taken.away)
  packet_goes r (Reply from to number m dest bytes) taken proper = tt
  packet_goes r (Pending from to number) taken proper = tt
  packet_goes r (Negative from to number) taken proper = tt
  packet_goes r (MoveData from to number moving dest total offset bytes) taken proper =
      outcome_or GoesAll (λ (w : FarSender).
      if may_be_written dest total w then data_outcome (name_of to number) from moving total offset bytes w.exchange else nothing)
      (far_partner r.view (name_of to number) from) (no_sender r.view (name_of to number) from moving)
      (λ w e. outcome_if GoesAll (may_be_written dest total w) (data_outcome (name_of to number) from moving total offset bytes w.exchange)
      nothing (λ t. each_if Goes (is_opened w.exchange moving && is_last total offset bytes) _ (λ u. (taken.away, tt)))
      (λ t. tt))
      (no_sender_goes r.view (name_of to number) from moving (taken.away))
  packet_goes r (MoveAck from to number moving got) taken proper =
      outcome_or GoesAll (ack_outcome r.view (r.work to) to got) (running_to r.view to (name_of from number) moving) nothing
      (λ q e. outcome_if GoesAll (got == move_count q) (only_steps _) _ (λ t. tt)
      (λ t. each_if Goes (restarts_at (r.work to) got (move_count q))
      _ (λ u. rounds r.view _ to (taken.own to refl) proper))) tt
  packet_goes r (MoveRequest from to number moving src total offset) taken proper =
      outcome_or GoesAll (λ (w : FarSender).
      if may_be_read src total w then request_outcome (name_of to number) from moving src total offset w else nothing)
      (far_partner r.view (name_of to number) from) (no_sender r.view (name_of to number) from moving)
      (λ w e. outcome_if GoesAll (may_be_read src total w) (request_outcome (name_of to number) from moving src total offset w) nothing
      (λ t. each_if Goes (is_opened w.exchange moving) _ (λ u. each_map Goes _ (offsets offset total) (λ at. taken.away)))
      (λ t. tt))
      (no_sender_goes r.view (name_of to number) from moving (taken.away))
  packet_goes r (MoveBytes from to number moving total offset bytes) taken proper =
      outcome_or GoesAll (λ (q : Process). bytes_outcome r.view (r.work to) to (name_of from number) moving total offset bytes)
      (running_from r.view to (name_of from number) moving total) nothing
      (λ q e. outcome_if GoesAll (offset == (r.work to).received) (only_steps _) _ (λ t. tt)
      (λ t. each_if Goes (shows_gap (r.work to).received total offset bytes && (r.work to).fresh) _
      (λ u. rounds r.view (r.work to) to (taken.own to refl) proper))) tt
  packet_goes r (MoveNegative from to number moving) taken proper = tt
  packet_goes r (AskPid asker lookup logical) taken proper =
      outcome_or GoesAll (told_asker asker lookup) (found_there (r.view.names h) logical) nothing
      (λ pid e. (taken.away, tt)) tt
  packet_goes r (TellPid found asker lookup) taken proper = tt

  -- One entry.
  frames_go : (stamp number event : ℕ) (ps : List Packet) → Each Goes ps → Each (IsForOthers h) (frames_of h stamp number event 1 ps)
  frames_go stamp number event ps each = each_frame (λ p n. Goes p) h stamp number event 1 ps each

  no_frame : (r : Reading) (b : Bool) → (let o : Option Frame = if b then None else None in
      GoesAll (option_map_or (λ (f : Frame). packet_outcome h r f.packet) o nothing))
  no_frame r true = tt
  no_frame r false = tt

  taken_goes : (r : Reading) (f : Frame) (b : Bool) → (b ≡ true → IsFor h f.packet) → AreProper r.view
      → (let o : Option Frame = if b then Some f else None in
      GoesAll (option_map_or (λ (f : Frame). packet_outcome h r f.packet) o nothing))
  taken_goes r f true taken proper = packet_goes r f.packet (taken refl) proper
  taken_goes r f false taken proper = tt

  entry_goes : (c : Settings) (r : Reading) (i : Input) → IsOwnInput h i → Each IsFarSlot r.slots → AreProper r.view
      → Each (IsForOthers h) (right_entry c h r i).frames
  unfolding right_entry call_outcome collect_outcome tick_outcome
  entry_goes c r (Called pid call) own aliens proper =
      frames_go _ _ _ _
      (call_goes r.view (next r.view (steps.Call pid call)) r.slots pid call (answer_to c h r (Called pid call)) own aliens
      (proper_next r.view (steps.Call pid call) proper))
  entry_goes c r (Collected pid) own aliens proper = tt
  entry_goes c r Ticked own aliens proper = frames_go _ _ _ _ (tick_goes c.times (r.now + 1) r (own_pids c h) (are_own c.specs) proper)
  entry_goes c r (Delivered Noise) own aliens proper = tt
  entry_goes c r (Delivered (Headed hd)) own aliens proper =
      frames_go _ _ _ _ (no_frame r (is_frame_taken (answer_to c h r (Delivered (Headed hd)))))
  entry_goes c r (Delivered (Framed hd p)) own aliens proper =
      frames_go _ _ _ _ (taken_goes r (record { header = hd; packet = p }) (is_frame_taken (answer_to c h r (Delivered (Framed hd p))))
      (λ t. received c h r hd p (is_taken (answer_to c h r (Delivered (Framed hd p))) t)) proper)

  far_slots : (slots : List (Option Alien)) → ((i : ℕ) (a : Alien) → in_slot slots i ≡ Some a → (a.name.sender.host == h) ≡ false)
      → Each IsFarSlot slots
  far_slots [] remote = tt
  far_slots (None ∷ slots) remote = (tt, far_slots slots (λ i a is. remote (suc i) a is))
  far_slots (Some x ∷ slots) remote =
      (is_other x.name.sender.host h (remote zero x refl), far_slots slots (λ i a is. remote (suc i) a is))

  go_to_others : EveryFrameHolds → (c : Settings) (is : List Input) → AreOwnInputs h is
      → Each (λ (e : Entry). Each (IsForOthers h) e.frames) (entries_of c h is)
  go_to_others every c [] own = tt
  go_to_others every c (i ∷ is) own = (
    entry_goes c (reading c h (entries_of c h is)) i own.0
        (far_slots (reading c h (entries_of c h is)).slots (every c h is own.1).aliens.remote) (proper_view c h is),
    go_to_others every c is own.1,
  )

pub frames_go_to_others : EveryFrameHolds → FramesGoToOthers
frames_go_to_others every c h is low own = go_to_others h low every c is own

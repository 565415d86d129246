-- What a reading says after the entry of a call or of a collect.
use Rattle.std.proofs.Common.{◌≡◌, ℕ, Bool, true, false, ◌&&◌, ◌||◌, not, List, [], ◌∷◌, ◌++◌, map, refl, ap, ◌∙◌, Option, Some, None, option_map}
use Rattle.std.specs.List.{list_any, filter_map}
use Rattle.std.specs.Option.{option_map_or, option_to_list}
use Rattle.vk_types.specs.Types.{Call, EventAnswer, Exchange, Message, MoveName, Name, Pid, Process, Stage}
use Rattle.vk_base.specs.declared.call.Call.TheVariants as calls
use Rattle.vk_base.specs.declared.event.EventAnswer.TheVariants as events_answered
use Rattle.vk_base.specs.declared.kernel.Stage.TheVariants as stages
use Rattle.vk_base.specs.declared.step.Step.TheVariants as steps
use Rattle.vk_base.specs.Kernel.{Kernel, name_of, blocked_in, held}
use Rattle.vk_base.specs.Packets.{Packet, Send, Negative, MoveData, MoveRequest, AskPid}
use Rattle.vk_base.specs.Pids.{same_pid, same_host}
use Rattle.vk_base.specs.Steps.{is_allowed}
use Rattle.vk_rules.specs.Aliens.{Alien, as_arrival, is_closing}
use Rattle.vk_rules.specs.CallOutcomes.{exit_packets, is_ok, negative_for, packets_of, reply_packets, steps_behind, take_where}
unfoldable use Rattle.vk_rules.specs.CallOutcomes.{call_outcome, collect_outcome}
use Rattle.vk_rules.specs.Entries.{is_begun}
unfoldable use Rattle.vk_rules.specs.Readings.{reading_after}
unfoldable use Rattle.vk_rules.specs.Right.{right_entry}
use Rattle.vk_rules.specs.Rounds.{data_packet, data_packets, list_if, offsets, request_packet, round_of, round_of_call, send_packets, told_by_stage, told_of}
unfoldable use Rattle.vk_rules.specs.Rounds.{round, told_sender}
use Rattle.vk_rules.specs.Works.{Work, is_of_round, no_work}

-- Packets that a test passes over.
pub none_if : (test : Packet → Bool) (b : Bool) (ps : List Packet) → list_any test ps ≡ false → list_any test (list_if b ps) ≡ false
none_if test true ps none = none
none_if test false ps none = refl

pub none_mapped : {A : Type 0} (test : Packet → Bool) (f : A → Packet) (xs : List A) → ((x : A) → test (f x) ≡ false) →
    list_any test (map f xs) ≡ false
none_mapped test f [] none = refl
none_mapped test f (x ∷ xs) none = ap (λ b. b || list_any test (map f xs)) (none x) ∙ none_mapped test f xs none

none_or : {A : Type 0} (test : Packet → Bool) (f : A → List Packet) (o : Option A) → ((x : A) → list_any test (f x) ≡ false) →
    list_any test (option_map_or f o []) ≡ false
none_or test f None none = refl
none_or test f (Some x) none = none x

-- the test passes over the rounds of this process
pub record SkipsRounds (test : Packet → Bool) (pid : Pid) : Type 0 where
  pub send : (to : Pid) (number : ℕ) (m : Message) (part : List ℕ) → test (Send pid to number m part) ≡ false
  pub move : (to : Pid) (number moving dest total offset : ℕ) (bytes : List ℕ) →
      test (MoveData pid to number moving dest total offset bytes) ≡ false
  pub request : (to : Pid) (number moving src total offset : ℕ) → test (MoveRequest pid to number moving src total offset) ≡ false
  pub ask : (lookup logical : ℕ) → test (AskPid pid lookup logical) ≡ false

none_sent : (test : Packet → Bool) (pid target : Pid) (number : ℕ) (m : Message) (o : Option Exchange) → SkipsRounds test pid →
    list_any test (option_to_list (option_map (λ (e : Exchange). Send pid target number m e.part) o)) ≡ false
none_sent test pid target number m None skips = refl
none_sent test pid target number m (Some e) skips = ap (λ b. b || false) (skips.send target number m e.part)

none_in_round : (test : Packet → Bool) (k : Kernel) (w : Work) (pid : Pid) (p : Process) (call : Call) → SkipsRounds test pid →
    list_any test (round_of_call k w pid p call) ≡ false
none_in_round test k w pid p (calls.Send target m) skips =
    none_if test (not (same_host pid target)) (send_packets k pid p target m)
    (none_sent test pid target p.sends m (k.exchanges (name_of pid p.sends)) skips)
none_in_round test k w pid p (calls.MoveTo partner dest src count) skips =
    none_or test (data_packets pid partner p.memory dest src count w.acknowledged) p.moving
    (λ m. none_mapped test (data_packet pid partner p.memory dest src count m) (offsets w.acknowledged count)
    (λ offset. skips.move partner _ _ dest count offset _))
none_in_round test k w pid p (calls.MoveFrom partner dest src count) skips =
    none_or test (λ (m : MoveName). request_packet pid partner src count w.received m ∷ []) p.moving
    (λ m. ap (λ b. b || false) (skips.request partner _ _ src count w.received))
none_in_round test k w pid p (calls.GetPid logical scope) skips = ap (λ b. b || false) (skips.ask p.lookups logical)
none_in_round test k w pid p c skips = refl

pub none_of_round : (test : Packet → Bool) (k : Kernel) (w : Work) (pid : Pid) → SkipsRounds test pid →
    list_any test (round k w pid) ≡ false
unfolding round
none_of_round test k w pid skips =
    none_or test (round_of k w pid) (k.procs pid)
    (λ p. none_or test (round_of_call k w pid p) (blocked_in p.state) (λ c. none_in_round test k w pid p c skips))

pub skips_closing : (name : Name) (pid : Pid) → SkipsRounds (is_closing name) pid
skips_closing name pid = record {
  send = λ to number m part. refl;
  move = λ to number moving dest total offset bytes. refl;
  request = λ to number moving src total offset. refl;
  ask = λ lookup logical. refl;
}

pub skips_others : (q pid : Pid) → same_pid pid q ≡ false → SkipsRounds (is_of_round q) pid
skips_others q pid other = record {
  send = λ to number m part. other;
  move = λ to number moving dest total offset bytes. other;
  request = λ to number moving src total offset. other;
  ask = λ lookup logical. other;
}

-- what the sender of a Send is told is of no round
none_by_stage : (q : Pid) (name : Name) (target : Pid) (live : Bool) (s : Stage) →
    list_any (is_of_round q) (told_by_stage name target live s) ≡ false
none_by_stage q name target live stages.Queued = refl
none_by_stage q name target live stages.Taken = refl
none_by_stage q name target live (stages.Replied m dest bytes) = refl
none_by_stage q name target live stages.Posted = none_if (is_of_round q) (not live) (Negative target name.sender name.number ∷ []) refl
none_by_stage q name target live stages.Dropped = none_if (is_of_round q) (not live) (Negative target name.sender name.number ∷ []) refl

pub none_told : (q : Pid) (k : Kernel) (name : Name) → list_any (is_of_round q) (told_sender k name) ≡ false
unfolding told_sender
none_told q k name = none_or (is_of_round q) (told_of k name) (k.exchanges name) (λ e. none_by_stage q name e.target _ e.stage)

none_replied : (q : Pid) (before after : Kernel) (pid to : Pid) → list_any (is_of_round q) (reply_packets before after pid to) ≡ false
none_replied q before after pid to =
    none_if (is_of_round q) (not (same_host pid to)) _
    (none_or (is_of_round q) (λ number. told_sender after (name_of to number)) (held before pid to)
    (λ number. none_told q after (name_of to number)))

behind_by : (b : Bool) (ps qs : List Packet) (test : Packet → Bool) → (b || list_any test ps) ≡ false →
    (list_any test ps ≡ false → list_any test (ps ++ qs) ≡ false) → (b || list_any test (ps ++ qs)) ≡ false
behind_by true ps qs test none again = none
behind_by false ps qs test none again = again none

any_behind : (test : Packet → Bool) (ps qs : List Packet) → list_any test ps ≡ false → list_any test qs ≡ false →
    list_any test (ps ++ qs) ≡ false
any_behind test [] qs none rest = rest
any_behind test (p ∷ ps) qs none rest = behind_by (test p) ps qs test none (λ h. any_behind test ps qs h rest)

none_exited : (q : Pid) (before after : Kernel) (slots : List (Option Alien)) (pid : Pid) →
    list_any (is_of_round q) (exit_packets before after slots pid) ≡ false
none_exited q before after [] pid = refl
none_exited q before after (slot ∷ slots) pid = any_behind (is_of_round q) (option_map_or (negative_for before after pid) slot [])
    (exit_packets before after slots pid)
    (none_or (is_of_round q) (negative_for before after pid) slot
    (λ a. none_if (is_of_round q) _ (told_sender after a.name) (none_told q after a.name)))
    (none_exited q before after slots pid)

-- The packets of a call are rounds of its caller alone, and only where it is begun; then they close nothing.
pub rounds_of_others : (q : Pid) (before after : Kernel) (slots : List (Option Alien)) (pid : Pid) (call : Call) (a : EventAnswer) →
    same_pid pid q ≡ false → list_any (is_of_round q) (packets_of before after slots pid call a) ≡ false
rounds_of_others q before after slots pid (calls.Reply m to) a other =
    none_if (is_of_round q) (is_ok a) _ (none_replied q before after pid to)
rounds_of_others q before after slots pid (calls.ReplySegment m to dest src count) a other =
    none_if (is_of_round q) (is_ok a) _ (none_replied q before after pid to)
rounds_of_others q before after slots pid calls.Exit a other = none_if (is_of_round q) (is_ok a) _ (none_exited q before after slots pid)
rounds_of_others q before after slots pid c a other =
    none_if (is_of_round q) (is_begun a) (round after no_work pid)
    (none_of_round (is_of_round q) after no_work pid (skips_others q pid other))

pub rounds_unbegun : (q : Pid) (before after : Kernel) (slots : List (Option Alien)) (pid : Pid) (call : Call) (a : EventAnswer) →
    is_begun a ≡ false → list_any (is_of_round q) (packets_of before after slots pid call a) ≡ false
rounds_unbegun q before after slots pid (calls.Reply m to) a unbegun =
    none_if (is_of_round q) (is_ok a) _ (none_replied q before after pid to)
rounds_unbegun q before after slots pid (calls.ReplySegment m to dest src count) a unbegun =
    none_if (is_of_round q) (is_ok a) _ (none_replied q before after pid to)
rounds_unbegun q before after slots pid calls.Exit a unbegun = none_if (is_of_round q) (is_ok a) _ (none_exited q before after slots pid)
rounds_unbegun q before after slots pid c a unbegun = ap (λ b. list_any (is_of_round q) (list_if b (round after no_work pid))) unbegun

pub begun_closes_none : (name : Name) (before after : Kernel) (slots : List (Option Alien)) (pid : Pid) (call : Call) →
    list_any (is_closing name) (packets_of before after slots pid call events_answered.Begun) ≡ false
begun_closes_none name before after slots pid (calls.Reply m to) = refl
begun_closes_none name before after slots pid (calls.ReplySegment m to dest src count) = refl
begun_closes_none name before after slots pid calls.Exit = refl
begun_closes_none name before after slots pid c = none_of_round (is_closing name) after no_work pid (skips_closing name pid)

-- neither begun nor ok: no packets
pub quiet_packets : (before after : Kernel) (slots : List (Option Alien)) (pid : Pid) (call : Call) (a : EventAnswer) → is_begun a ≡ false →
    is_ok a ≡ false → packets_of before after slots pid call a ≡ []
quiet_packets before after slots pid (calls.Reply m to) a unbegun bad = ap (λ b. list_if b (reply_packets before after pid to)) bad
quiet_packets before after slots pid (calls.ReplySegment m to dest src count) a unbegun bad =
    ap (λ b. list_if b (reply_packets before after pid to)) bad
quiet_packets before after slots pid calls.Exit a unbegun bad = ap (λ b. list_if b (exit_packets before after slots pid)) bad
quiet_packets before after slots pid c a unbegun bad = ap (λ b. list_if b (round after no_work pid)) unbegun

-- The steps of a call let nothing arrive.
none_where : (b : Bool) (k : Kernel) (pid : Pid) → filter_map as_arrival (list_if b (take_where k pid)) ≡ []
none_where false k pid = refl
none_where true k pid = by_take (is_allowed k (steps.Take pid))
  where
    by_take : (b : Bool) → filter_map as_arrival (list_if b (steps.Take pid ∷ [])) ≡ []
    by_take true = refl
    by_take false = refl

no_finish : (b : Bool) (to : Pid) → filter_map as_arrival (list_if b (steps.Finish to ∷ [])) ≡ []
no_finish true to = refl
no_finish false to = refl

pub none_arrive : (k : Kernel) (pid : Pid) (call : Call) (a : EventAnswer) → filter_map as_arrival (steps_behind k pid call a) ≡ []
none_arrive k pid (calls.Send target m) a = none_where (is_begun a && same_host pid target) k target
none_arrive k pid calls.Receive a = none_where (is_begun a) k pid
none_arrive k pid (calls.ReceiveSegment start count) a = none_where (is_begun a) k pid
none_arrive k pid (calls.Reply m to) a = no_finish (is_ok a && same_host pid to) to
none_arrive k pid (calls.ReplySegment m to dest src count) a = no_finish (is_ok a && same_host pid to) to
none_arrive k pid (calls.Forward m from to) a = none_where (is_ok a) k to
none_arrive k pid c a = refl

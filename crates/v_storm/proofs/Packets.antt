-- Stations whose views are plain send plain packets.
use Rattle.std.proofs.Common.{ℕ, Bool, ◌&&◌, not, List, [], ◌∷◌, flat_map, map, filter, Option, Some, None, is_none, option_map, option_to_list, refl}
use Rattle.std.specs.Option.{option_map_or}
use Rattle.vk_types.specs.Types.{Call, EventAnswer, Exchange, Message, Name, Pid, Process, ProcessSpec, Stage, State, Times}
use Rattle.vk_base.specs.declared.call.Call.TheVariants as calls
use Rattle.vk_base.specs.declared.kernel.Stage.TheVariants as stages
use Rattle.vk_base.specs.declared.kernel.State.TheVariants as states
use Rattle.vk_base.specs.Kernel.{Kernel, blocked_in, held, holds_of, is_live, name_of}
use Rattle.vk_base.specs.Packets.{Packet, Send, Reply, Pending, Negative}
use Rattle.vk_base.specs.Pids.{same_host}
use Rattle.vk_base.specs.Settings.{is_on}
use Rattle.vk_rules.specs.Aliens.{Alien, alien_of, place_for}
use Rattle.vk_rules.specs.CallOutcomes.{is_ok, packets_of, reply_packets, sent_again}
use Rattle.vk_rules.specs.Each.{Each}
use Rattle.vk_rules.specs.Entries.{is_begun}
use Rattle.vk_rules.specs.PacketOutcomes.{arrival, is_later, is_same, packet_outcome}
use Rattle.vk_rules.specs.Readings.{Reading}
use Rattle.vk_rules.specs.Rounds.{Outcome, nothing, only_packets, round, round_of, round_of_call, send_packets, told_by_stage, told_sender}
use Rattle.vk_rules.specs.Right.{own_pids}
use Rattle.vk_rules.specs.Works.{Work, is_due, is_unanswered, no_work}
use Rattle.vk_rules.proofs.Lists.{each_append, each_filter, each_if, each_or}
use Rattle.v_ages.proofs.Outcomes.{each_told, outcome_if}
use Rattle.vk_drive.specs.Tasks.{settings, specs}
use Rattle.v_storm.proofs.Views.{IsOurs, IsPlain, IsPlainPacket, IsPlainState, IsPlainView, IsWaited}
use Rattle.vk_base.specs.Messages.{IsMessage}

-- What a sender is told.
told_plain : (name : Name) (target : Pid) (live : Bool) (s : Stage) → IsOurs name.sender → Each IsPlainPacket (told_by_stage name target live s)
told_plain name target live stages.Posted ours = each_if IsPlainPacket (not live) _ (λ t. (ours, tt))
told_plain name target live stages.Queued ours = (ours, tt)
told_plain name target live stages.Taken ours = (ours, tt)
told_plain name target live (stages.Replied m dest bytes) ours = (ours, tt)
told_plain name target live stages.Dropped ours = each_if IsPlainPacket (not live) _ (λ t. (ours, tt))

sender_told : (host : ℕ) (k : Kernel) (name : Name) → IsPlainView host k → Each IsPlainPacket (told_sender k name)
sender_told host k name v =
    each_told IsPlainPacket k name (λ e at. told_plain name e.target (is_live (k.procs e.at)) e.stage (v.exchanges name e at).sender)

-- A round.
one_plain : (pid target : Pid) (number : ℕ) (m : Message) (o : Option Exchange) → IsOurs pid → IsOurs target →
    IsMessage m →
    Each IsPlainPacket (option_to_list (option_map (λ (e : Exchange). Send pid target number m e.part) o))
one_plain pid target number m None own to message = tt
one_plain pid target number m (Some e) own to message = ((own, to, message), tt)

waited_round : (k : Kernel) (w : Work) (pid : Pid) (p : Process) (c : Call) → IsOurs pid → IsWaited c →
    Each IsPlainPacket (round_of_call k w pid p c)
waited_round k w pid p (calls.Send target m) own waited =
    each_if IsPlainPacket (not (same_host pid target)) (send_packets k pid p target m)
    (λ t. one_plain pid target p.sends m (k.exchanges (name_of pid p.sends)) own waited.0 waited.1)
waited_round k w pid p (calls.ReceiveSegment start count) own waited = tt
waited_round k w pid p c own waited = absurd waited

state_round : (k : Kernel) (w : Work) (pid : Pid) (p : Process) (s : State) → IsOurs pid → IsPlainState s →
    Each IsPlainPacket (option_map_or (round_of_call k w pid p) (blocked_in s) [])
state_round k w pid p states.Ready own plain = tt
state_round k w pid p (states.Done c a) own plain = tt
state_round k w pid p (states.Blocked c) own plain = waited_round k w pid p c own plain

pub round_plain : (host : ℕ) (k : Kernel) (w : Work) (pid : Pid) → IsOurs pid → IsPlainView host k → Each IsPlainPacket (round k w pid)
unfolding round
round_plain host k w pid own v =
    each_or IsPlainPacket (round_of k w pid) (k.procs pid) (λ p at. state_round k w pid p p.state own (v.states pid p at))

-- Calls.
replies_plain : (host : ℕ) (before after : Kernel) (pid to : Pid) → IsPlainView host after →
    Each IsPlainPacket (reply_packets before after pid to)
replies_plain host before after pid to v =
    each_if IsPlainPacket (not (same_host pid to)) _
    (λ t. each_or IsPlainPacket (λ number. told_sender after (name_of to number)) (held before pid to)
    (λ number e. sender_told host after (name_of to number) v))

pub call_packets_plain : (host : ℕ) (before after : Kernel) (slots : List (Option Alien)) (pid : Pid) (c : Call) (a : EventAnswer) →
    IsOurs pid → IsPlain c → IsPlainView host after → Each IsPlainPacket (packets_of before after slots pid c a)
call_packets_plain host before after slots pid (calls.Reply m to) a own plain v =
    each_if IsPlainPacket (is_ok a) _ (λ t. replies_plain host before after pid to v)
call_packets_plain host before after slots pid (calls.ReplySegment m to dest src count) a own plain v =
    each_if IsPlainPacket (is_ok a) _ (λ t. replies_plain host before after pid to v)
call_packets_plain host before after slots pid (calls.Send target m) a own plain v =
    each_if IsPlainPacket (is_begun a) _ (λ t. round_plain host after no_work pid own v)
call_packets_plain host before after slots pid (calls.ReceiveSegment start count) a own plain v =
    each_if IsPlainPacket (is_begun a) _ (λ t. round_plain host after no_work pid own v)
call_packets_plain host before after slots pid (calls.Load start count) a own plain v =
    each_if IsPlainPacket (is_begun a) _ (λ t. round_plain host after no_work pid own v)
call_packets_plain host before after slots pid (calls.Store start bytes) a own plain v =
    each_if IsPlainPacket (is_begun a) _ (λ t. round_plain host after no_work pid own v)
call_packets_plain host before after slots pid c a own plain v = absurd plain

-- Ticks.
each_again : (host : ℕ) (t : Times) (now : ℕ) (r : Reading) (pids : List Pid) → Each IsOurs pids → IsPlainView host r.view →
    Each IsPlainPacket (flat_map (sent_again t now r) pids)
each_again host t now r [] own v = tt
each_again host t now r (pid ∷ pids) own v =
    each_append IsPlainPacket (sent_again t now r pid) (flat_map (sent_again t now r) pids)
    (each_if IsPlainPacket (is_due t now (r.work pid) && not (is_unanswered t (r.work pid))) (round r.view (r.work pid) pid)
    (λ h. round_plain host r.view (r.work pid) pid own.0 v))
    (each_again host t now r pids own.1 v)

each_ours : (ss : List ProcessSpec) → Each (λ (s : ProcessSpec). IsOurs s.pid) ss → Each IsOurs (map (λ (s : ProcessSpec). s.pid) ss)
each_ours [] own = tt
each_ours (s ∷ ss) own = (own.0, each_ours ss own.1)

own_ours : (host : ℕ) → Each IsOurs (own_pids settings host)
own_ours host =
    each_ours (filter (is_on host) specs)
    (each_filter (λ (s : ProcessSpec). IsOurs s.pid) (is_on host) specs (refl, (refl, (refl, (refl, tt)))))

pub tick_packets_plain : (host : ℕ) (t : Times) (now : ℕ) (r : Reading) → IsPlainView host r.view →
    Each IsPlainPacket (flat_map (sent_again t now r) (own_pids settings host))
tick_packets_plain host t now r v = each_again host t now r (own_pids settings host) (own_ours host) v

-- Packets that come.
abbrev IsPlainOutcome : Outcome → Type 0
IsPlainOutcome o = Each IsPlainPacket o.packets

pub outcome_packets_plain : (host : ℕ) (r : Reading) (p : Packet) → IsPlainPacket p → IsPlainView host r.view →
    Each IsPlainPacket (packet_outcome host r p).packets
unfolding packet_outcome
outcome_packets_plain host r (Send from to number m part) plain v =
    let p : Packet = Send from to number m part in
    let name : Name = name_of from number in
    outcome_if IsPlainOutcome (holds_of (is_later number) (alien_of r.slots from)) nothing _ (λ t. tt)
    (λ f. outcome_if IsPlainOutcome (holds_of (is_same number) (alien_of r.slots from))
    (only_packets (told_sender r.view name)) _
    (λ t. sender_told host r.view name v)
    (λ g. outcome_if IsPlainOutcome (not (is_live (r.view.procs to)))
    (only_packets (Negative to from number ∷ [])) _ (λ t. (plain.0, tt))
    (λ h. outcome_if IsPlainOutcome (is_none (place_for r.slots from))
    (only_packets (Pending to from number ∷ [])) (arrival r.view p name to) (λ t. (plain.0, tt)) (λ i. tt))))
outcome_packets_plain host r (Reply from to number m dest bytes) plain v = tt
outcome_packets_plain host r (Pending from to number) plain v = tt
outcome_packets_plain host r (Negative from to number) plain v = tt
outcome_packets_plain host r p plain v = absurd plain

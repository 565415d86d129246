-- With which refusal a packet ends what a process is blocked in: a Negative of its Send, and a MoveNegative of its move.
use Rattle.std.proofs.Common.{◌≡◌, ℕ, Bool, true, false, ◌==◌, not, nat_lt, List, [], ◌∷◌, is_none, is_some, refl, sym, subst}
use Rattle.std.proofs.lemmas.Bool.{both_ways}
use Rattle.vk_types.specs.Types.{Exchange, Name, Pid, Process, Refusal, Step}
use Rattle.vk_base.specs.declared.answer.Ending.TheVariants as endings
use Rattle.vk_base.specs.declared.answer.Refusal.TheVariants as refusals
use Rattle.vk_base.specs.declared.step.Step.TheVariants as steps
use Rattle.vk_base.specs.Kernel.{Kernel, name_of, holds_of, is_live}
use Rattle.vk_base.specs.Packets.{Packet, Send, Reply, Pending, Negative, MoveData, MoveAck, MoveRequest, MoveBytes, MoveNegative, AskPid, TellPid}
use Rattle.vk_base.specs.Pids.{same_pid}
use Rattle.vk_base.specs.Steps.{is_in_move}
use Rattle.v_laws.proofs.Tables.{same_pid_is}
use Rattle.vk_rules.specs.Aliens.{alien_of, place_for}
use Rattle.vk_rules.specs.Each.{Each}
use Rattle.vk_rules.specs.PacketOutcomes.{packet_outcome, send_outcome, is_later, is_same, far_partner, far_sender, takes_reply, may_be_written, may_be_read, data_outcome, opens_move, is_next_piece, ack_outcome, bytes_outcome, running_to, running_from, told_asker, found_there, asks, copies_bytes}
use Rattle.vk_rules.specs.Readings.{Reading}
use Rattle.vk_rules.specs.Rounds.{Outcome, list_if}
use Rattle.vk_rules.specs.Works.{Work, is_last, move_count}
use Rattle.vk_rules.proofs.Lists.{each_append, each_if}
use Rattle.v_ages.proofs.Outcomes.{outcome_if, outcome_or}
use Rattle.v_due.proofs.Refused.{refuses}

-- the packet is a Negative of the Send of the process, or a MoveNegative of its move
abbrev pub IsNegativeOf : Kernel → Pid → Packet → Type 0
IsNegativeOf k s (Negative from to number) = (to ≡ s) × (is_some (far_sender k (name_of to number) from) ≡ true)
IsNegativeOf k s p = ⊥

abbrev pub IsMoveNegativeOf : Kernel → Pid → Packet → Type 0
IsMoveNegativeOf k s (MoveNegative from to number moving) =
    (to ≡ s) × (holds_of (is_in_move (name_of from number) moving) (k.procs to) ≡ true)
IsMoveNegativeOf k s p = ⊥

abbrev pub RefusedBy : Kernel → Pid → Packet → Refusal → Type 0
RefusedBy k s p refusals.NoProcess = IsNegativeOf k s p
RefusedBy k s p refusals.Gone = IsMoveNegativeOf k s p
RefusedBy k s p why = ⊥

-- a step that refuses does so by the packet
abbrev pub ByPacket : Kernel → Pid → Packet → Step → Type 0
ByPacket k s p st = (why : Refusal) → refuses s st why ≡ true → RefusedBy k s p why

fails_as : (s q : Pid) (why : Refusal) → refuses s (steps.Fail q endings.NoProcess) why ≡ true →
    (refusals.NoProcess ≡ why) × (same_pid s q ≡ true)
fails_as s q refusals.NoProcess t = (refl, t)
fails_as s q why t = absurd (both_ways false refl t)

ends_as : (s q : Pid) (why : Refusal) → refuses s (steps.End q endings.Gone) why ≡ true →
    (refusals.Gone ≡ why) × (same_pid s q ≡ true)
ends_as s q refusals.Gone t = (refl, t)
ends_as s q why t = absurd (both_ways false refl t)

-- one that does not refuse
never : (k : Kernel) (s : Pid) (p : Packet) (st : Step) → ((why : Refusal) → refuses s st why ≡ false) → ByPacket k s p st
never k s p st none = λ why t. absurd (both_ways (refuses s st why) (none why) t)

abbrev Refuses : Kernel → Pid → Packet → Outcome → Type 0
Refuses k s p o = Each (ByPacket k s p) o.steps

where_one : (k : Kernel) (s : Pid) (p : Packet) (b : Bool) (st : Step) → (b ≡ true → ByPacket k s p st) →
    Each (ByPacket k s p) (list_if b (st ∷ []))
where_one k s p b st by = each_if (ByPacket k s p) b (st ∷ []) (λ t. (by t, tt))

send_refuses : (r : Reading) (s : Pid) (p : Packet) (name : Name) (to : Pid) → Refuses r.view s p (send_outcome r p name to)
send_refuses r s p name to =
    outcome_if (Refuses r.view s p) (holds_of (is_later name.number) (alien_of r.slots name.sender)) _ _ (λ t. tt) (λ t.
    outcome_if (Refuses r.view s p) (holds_of (is_same name.number) (alien_of r.slots name.sender)) _ _ (λ t. tt) (λ t.
    outcome_if (Refuses r.view s p) (not (is_live (r.view.procs to))) _ _ (λ t. tt) (λ t.
    outcome_if (Refuses r.view s p) (is_none (place_for r.slots name.sender)) _ _ (λ t. tt) (λ t. (
      never r.view s p (steps.Arrive name.sender name.number) (λ why. refl),
      where_one r.view s p _ (steps.Take to) (λ t. never r.view s p (steps.Take to) (λ why. refl)),
    )))))

data_refuses : (k : Kernel) (s : Pid) (p : Packet) (name : Name) (mover : Pid) (moving total offset : ℕ) (bytes : List ℕ) (e : Exchange) →
    Refuses k s p (data_outcome name mover moving total offset bytes e)
data_refuses k s p name mover moving total offset bytes e =
    each_append (ByPacket k s p) (opens_move e name moving) _
    (where_one k s p (nat_lt e.opened moving) _ (λ t. never k s p (steps.OpenMove name.sender name.number moving) (λ why. refl)))
    (where_one k s p (is_next_piece e moving offset) _ (λ t. never k s p (copies_bytes name moving offset bytes) (λ why. refl)))

ack_refuses : (k : Kernel) (s : Pid) (p : Packet) (w : Work) (to : Pid) (got : ℕ) (q : Process) → Refuses k s p (ack_outcome k w to got q)
ack_refuses k s p w to got q = outcome_if (Refuses k s p) (got == move_count q) _ _
    (λ t. (never k s p (steps.End to endings.Ok) (λ why. refl), tt)) (λ t. tt)

bytes_refuses : (k : Kernel) (s : Pid) (p : Packet) (w : Work) (to : Pid) (name : Name) (moving total offset : ℕ) (bytes : List ℕ) →
    Refuses k s p (bytes_outcome k w to name moving total offset bytes)
bytes_refuses k s p w to name moving total offset bytes =
    outcome_if (Refuses k s p) (offset == w.received) _ _
    (λ t. (
      never k s p (copies_bytes name moving offset bytes) (λ why. refl),
      where_one k s p (is_last total offset bytes) _ (λ t. never k s p (steps.End to endings.Ok) (λ why. refl)),
    )) (λ t. tt)

pub packet_refuses : (host : ℕ) (r : Reading) (s : Pid) (p : Packet) → Refuses r.view s p (packet_outcome host r p)
unfolding packet_outcome
packet_refuses host r s (Send from to number message part) =
    send_refuses r s (Send from to number message part) (name_of from number) to
packet_refuses host r s (Reply from to number message dest bytes) =
    where_one r.view s (Reply from to number message dest bytes)
    (holds_of (takes_reply dest bytes) (far_sender r.view (name_of to number) from)) (steps.Finish to)
    (λ t. never r.view s (Reply from to number message dest bytes) (steps.Finish to) (λ why. refl))
packet_refuses host r s (Pending from to number) = tt
packet_refuses host r s (Negative from to number) =
    where_one r.view s (Negative from to number) (is_some (far_sender r.view (name_of to number) from)) (steps.Fail to endings.NoProcess)
    (λ waits why t. let is = fails_as s to why t in
    subst (RefusedBy r.view s (Negative from to number)) is.0 (sym (same_pid_is s to is.1), waits))
packet_refuses host r s (MoveData from to number moving dest total offset bytes) =
    let p : Packet = MoveData from to number moving dest total offset bytes in
    outcome_or (Refuses r.view s p) _ (far_partner r.view (name_of to number) from) _ (λ w is.
    outcome_if (Refuses r.view s p) (may_be_written dest total w) _ _
    (λ t. data_refuses r.view s p (name_of to number) from moving total offset bytes w.exchange) (λ t. tt)) tt
packet_refuses host r s (MoveAck from to number moving got) =
    let p : Packet = MoveAck from to number moving got in
    outcome_or (Refuses r.view s p) _ (running_to r.view to (name_of from number) moving) _
    (λ q is. ack_refuses r.view s p (r.work to) to got q) tt
packet_refuses host r s (MoveRequest from to number moving src total offset) =
    let p : Packet = MoveRequest from to number moving src total offset in
    outcome_or (Refuses r.view s p) _ (far_partner r.view (name_of to number) from) _ (λ w is.
    outcome_if (Refuses r.view s p) (may_be_read src total w) _ _
    (λ t. where_one r.view s p (nat_lt w.exchange.opened moving) _ (λ t. never r.view s p (steps.OpenMove to number moving) (λ why. refl)))
    (λ t. tt)) tt
packet_refuses host r s (MoveBytes from to number moving total offset bytes) =
    let p : Packet = MoveBytes from to number moving total offset bytes in
    outcome_or (Refuses r.view s p) _ (running_from r.view to (name_of from number) moving total) _
    (λ q is. bytes_refuses r.view s p (r.work to) to (name_of from number) moving total offset bytes) tt
packet_refuses host r s (MoveNegative from to number moving) =
    where_one r.view s (MoveNegative from to number moving) (holds_of (is_in_move (name_of from number) moving) (r.view.procs to))
    (steps.End to endings.Gone)
    (λ waits why t. let is = ends_as s to why t in
    subst (RefusedBy r.view s (MoveNegative from to number moving)) is.0 (sym (same_pid_is s to is.1), waits))
packet_refuses host r s (AskPid asker lookup logical) =
    let p : Packet = AskPid asker lookup logical in
    outcome_or (Refuses r.view s p) (told_asker asker lookup) (found_there (r.view.names host) logical) _
    (λ pid is. (never r.view s p (steps.Hear asker lookup pid) (λ why. refl), tt)) tt
packet_refuses host r s (TellPid found asker lookup) =
    where_one r.view s (TellPid found asker lookup) (holds_of (asks lookup) (r.view.procs asker)) (steps.Found asker found)
    (λ t. never r.view s (TellPid found asker lookup) (steps.Found asker found) (λ why. refl))

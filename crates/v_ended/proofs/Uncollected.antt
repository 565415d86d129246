-- What a packet lists is no collect.
use Rattle.std.proofs.Common.{◌≡◌, ℕ, Bool, true, false, ◌==◌, not, nat_lt, List, [], ◌∷◌, is_none, is_some, refl}
use Rattle.vk_types.specs.Types.{Exchange, Name, Pid, Process, Step}
use Rattle.vk_base.specs.declared.answer.Ending.TheVariants as endings
use Rattle.vk_base.specs.declared.step.Step.TheVariants as steps
use Rattle.vk_base.specs.Kernel.{Kernel, name_of, holds_of, is_live}
use Rattle.vk_base.specs.Packets.{Packet, Send, Reply, Pending, Negative, MoveData, MoveAck, MoveRequest, MoveBytes, MoveNegative, AskPid, TellPid}
use Rattle.vk_base.specs.Steps.{is_in_move}
use Rattle.vk_rules.specs.Aliens.{alien_of, place_for}
use Rattle.vk_rules.specs.Each.{Each}
use Rattle.vk_rules.specs.PacketOutcomes.{packet_outcome, send_outcome, is_later, is_same, far_partner, far_sender, takes_reply, may_be_written, may_be_read, data_outcome, opens_move, is_next_piece, ack_outcome, bytes_outcome, running_to, running_from, told_asker, found_there, asks}
use Rattle.vk_rules.specs.Readings.{Reading}
use Rattle.vk_rules.specs.Rounds.{Outcome, list_if}
use Rattle.vk_rules.specs.Works.{Work, is_last, move_count}
use Rattle.vk_rules.proofs.Lists.{each_append, each_if}
use Rattle.v_ages.proofs.Outcomes.{outcome_if, outcome_or}

abbrev pub is_collect : Step → Bool
is_collect (steps.Collect pid) = true
is_collect s = false

abbrev pub NoCollect : Step → Type 0
NoCollect s = is_collect s ≡ false

abbrev NoneCollects : Outcome → Type 0
NoneCollects o = Each NoCollect o.steps

-- one step, where the test holds
where_none : (b : Bool) (s : Step) → NoCollect s → Each NoCollect (list_if b (s ∷ []))
where_none b s none = each_if NoCollect b (s ∷ []) (λ t. (none, tt))

sends_none : (r : Reading) (p : Packet) (name : Name) (to : Pid) → NoneCollects (send_outcome r p name to)
sends_none r p name to =
    outcome_if NoneCollects (holds_of (is_later name.number) (alien_of r.slots name.sender)) _ _ (λ t. tt) (λ t.
    outcome_if NoneCollects (holds_of (is_same name.number) (alien_of r.slots name.sender)) _ _ (λ t. tt) (λ t.
    outcome_if NoneCollects (not (is_live (r.view.procs to))) _ _ (λ t. tt) (λ t.
    outcome_if NoneCollects (is_none (place_for r.slots name.sender)) _ _ (λ t. tt) (λ t. (refl, where_none _ (steps.Take to) refl)))))

data_none : (name : Name) (mover : Pid) (moving total offset : ℕ) (bytes : List ℕ) (e : Exchange) →
    NoneCollects (data_outcome name mover moving total offset bytes e)
data_none name mover moving total offset bytes e =
    each_append NoCollect (opens_move e name moving) _ (where_none (nat_lt e.opened moving) _ refl)
    (where_none (is_next_piece e moving offset) _ refl)

acks_none : (k : Kernel) (w : Work) (to : Pid) (got : ℕ) (p : Process) → NoneCollects (ack_outcome k w to got p)
acks_none k w to got p = outcome_if NoneCollects (got == move_count p) _ _ (λ t. (refl, tt)) (λ t. tt)

bytes_none : (k : Kernel) (w : Work) (to : Pid) (name : Name) (moving total offset : ℕ) (bytes : List ℕ) →
    NoneCollects (bytes_outcome k w to name moving total offset bytes)
bytes_none k w to name moving total offset bytes =
    outcome_if NoneCollects (offset == w.received) _ _ (λ t. (refl, where_none (is_last total offset bytes) _ refl)) (λ t. tt)

pub packets_collect_none : (host : ℕ) (r : Reading) (p : Packet) → NoneCollects (packet_outcome host r p)
unfolding packet_outcome
packets_collect_none host r (Send from to number message part) =
    sends_none r (Send from to number message part) (name_of from number) to
packets_collect_none host r (Reply from to number message dest bytes) =
    where_none (holds_of (takes_reply dest bytes) (far_sender r.view (name_of to number) from)) (steps.Finish to) refl
packets_collect_none host r (Pending from to number) = tt
packets_collect_none host r (Negative from to number) =
    where_none (is_some (far_sender r.view (name_of to number) from)) (steps.Fail to endings.NoProcess) refl
packets_collect_none host r (MoveData from to number moving dest total offset bytes) =
    outcome_or NoneCollects _ (far_partner r.view (name_of to number) from) _ (λ w is.
    outcome_if NoneCollects (may_be_written dest total w) _ _
    (λ t. data_none (name_of to number) from moving total offset bytes w.exchange) (λ t. tt)) tt
packets_collect_none host r (MoveAck from to number moving got) =
    outcome_or NoneCollects _ (running_to r.view to (name_of from number) moving) _
    (λ p is. acks_none r.view (r.work to) to got p) tt
packets_collect_none host r (MoveRequest from to number moving src total offset) =
    outcome_or NoneCollects _ (far_partner r.view (name_of to number) from) _ (λ w is.
    outcome_if NoneCollects (may_be_read src total w) _ _ (λ t. where_none (nat_lt w.exchange.opened moving) _ refl) (λ t. tt)) tt
packets_collect_none host r (MoveBytes from to number moving total offset bytes) =
    outcome_or NoneCollects _ (running_from r.view to (name_of from number) moving total) _
    (λ p is. bytes_none r.view (r.work to) to (name_of from number) moving total offset bytes) tt
packets_collect_none host r (MoveNegative from to number moving) =
    where_none (holds_of (is_in_move (name_of from number) moving) (r.view.procs to)) (steps.End to endings.Gone) refl
packets_collect_none host r (AskPid asker lookup logical) =
    outcome_or NoneCollects (told_asker asker lookup) (found_there (r.view.names host) logical) _ (λ pid is. (refl, tt)) tt
packets_collect_none host r (TellPid found asker lookup) =
    where_none (holds_of (asks lookup) (r.view.procs asker)) (steps.Found asker found) refl

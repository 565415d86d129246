-- An event that is no tick sends at most 64 frames: by what the station's entries say, and by its tables.
use Rattle.std.proofs.Common.{◌≡◌, ◌≤◌, ℕ, Bool, true, false, cond, ◌==◌, ◌&&◌, not, is_none, nat_le, nat_lt, List, [], ◌∷◌, drop, length, map, Option, Some, None, option_to_list, option_map, refl, sym, ap, subst, ◌∙◌, arith}
use Rattle.std.proofs.lemmas.Bool.{and_parts, both_ways, cond_both, leb-true, ltb-false}
use Rattle.std.proofs.lemmas.List.{length-append, length-map}
use Rattle.std.proofs.lemmas.Option.{none-some, same_Some}
use Rattle.std.specs.Option.{option_map_or}
use Rattle.vk_types.specs.Types.{Activity, Answer, Call, EventAnswer, Exchange, Message, Move, MoveName, Name, Pid, Process, Refusal, Scope, Times, Waiting}
use Rattle.vk_base.specs.declared.activity.Activity.TheVariants as activities
use Rattle.vk_base.specs.declared.activity.Waiting.TheVariants as waitings
use Rattle.vk_base.specs.declared.answer.Ending.TheVariants as endings
use Rattle.vk_base.specs.declared.answer.Refusal.TheVariants as refusals
use Rattle.vk_base.specs.declared.call.Call.TheVariants as calls
use Rattle.vk_base.specs.declared.answer.Answer.TheVariants as answers
use Rattle.vk_base.specs.declared.event.EventAnswer.TheVariants as events_answered
use Rattle.vk_base.specs.declared.kernel.Direction.TheVariants as directions
use Rattle.vk_base.specs.declared.kernel.State.TheVariants as states
use Rattle.vk_base.specs.declared.step.Step.TheVariants as steps
use Rattle.vk_base.specs.Activities.{call_of, state_of}
unfoldable use Rattle.vk_base.specs.Calls.{copied_at_once, lookup_begun, move_begun, sent}
use Rattle.vk_base.specs.Calls.{Effect, accepted, answered, begin_move, call_refusal, called, forward, found_at_once, get_pid, is_at_once, is_message_at, new_move, replied, tests_of, unseen}
use Rattle.vk_base.specs.Kernel.{◌>>=◌, Kernel, blocked_in, held, holds_of, is_live, name_of, put_process, with_state}
use Rattle.vk_base.specs.Packets.{MoveAck, MoveBytes, MoveData, MoveNegative, MoveRequest, Negative, Packet, Pending, Reply, Send, AskPid, TellPid}
use Rattle.vk_base.specs.Pids.{same_host}
use Rattle.vk_base.specs.Ranges.{bytes_in, lies_in, range_of}
use Rattle.vk_base.specs.Settings.{Settings}
use Rattle.vk_base.specs.Steps.{after_effect, effect, next}
use Rattle.vk_base.proofs.OptionLemmas.{bind_is, mapped_is}
use Rattle.v_laws.proofs.Options.{of_either}
use Rattle.v_laws.proofs.StepLemmas.{IsFit, fit_is, passes_first}
use Rattle.v_laws.proofs.Tables.{put_process_here}
use Rattle.vk_frame.specs.declared.header.Header.{Header}
use Rattle.vk_packet.specs.Rules.{is_lawful}
use Rattle.vk_procs.specs.Seats.{process_of, seat_in}
use Rattle.vk_rules.specs.Aliens.{Alien, alien_of, place_for}
use Rattle.vk_rules.specs.CallOutcomes.{effect_answer, exit_packets, is_ok, negative_for, packets_of, reply_packets, seen_answer}
unfoldable use Rattle.vk_rules.specs.CallOutcomes.{call_outcome, collect_outcome}
use Rattle.vk_rules.specs.Entries.{Called, Collected, Delivered, Entry, Input, Ticked, frame_in, is_begun, is_frame_taken, is_tick}
use Rattle.vk_rules.specs.Frames.{Frame, Framed, Headed, Noise, Unsealed, receiver_of}
unfoldable use Rattle.vk_rules.specs.PacketOutcomes.{packet_outcome}
use Rattle.vk_rules.specs.Readings.{Reading, reading}
use Rattle.vk_rules.specs.Right.{answer_to, entry_of, outcome_of}
unfoldable use Rattle.vk_rules.specs.Rounds.{round}
use Rattle.vk_rules.specs.Rounds.{Outcome, data_packet, data_packets, list_if, nothing, offsets, only_packets, only_steps, request_packet, round_of, round_of_call, send_packets, told_sender}
use Rattle.vk_rules.specs.Works.{Work, is_last, move_count, no_work, shows_gap}
use Rattle.vk_stands.specs.Fit.{AreFit, is_remote_move, may_wait}
use Rattle.vk_stands.specs.Stands.{Stands}
use Rattle.vk_stands.specs.Tables.{Tables, read_alien}
use Rattle.vk_stands.proofs.After.{packets_are}
use Rattle.vk_stands.proofs.Found.{seat_found}
use Rattle.vk_stands.proofs.Received.{IsFor, received}
use Rattle.vk_host.specs.Sealed.{sealed}
use Rattle.vk_host.specs.Standing.{IsEvent, StandsSomewhere}
use Rattle.vk_host.specs.Values.{StationValue}
use Rattle.v_lawful.proofs.Sendable.{few_if, few_offsets, few_or, told_few}
use Rattle.v_lawful.proofs.Brought.{place_is}
use Rattle.vk_rules.proofs.Lengths.{fits_is}
use Rattle.vk_rules.specs.PacketOutcomes.{FarSender, ack_outcome, arrival, bytes_outcome, bytes_packet, copies_bytes, data_outcome, done_behind, far_partner, found_there, has_made, is_later, is_opened, is_same, may_be_read, may_be_written, no_sender, request_outcome, restarts_at, running_from, running_to, send_outcome, told_asker}

-- Rounds. One that is few where the process waits in no move of more than 65,536 bytes.
abbrev IsShort : Call → Type 0
IsShort (calls.MoveTo partner dest src count) = count ≤ 65536
IsShort c = Unit {0}

abbrev WaitsShort : Kernel → Pid → Type 0
WaitsShort k pid = (p : Process) (c : Call) → k.procs pid ≡ Some p → blocked_in p.state ≡ Some c → IsShort c

few_option : {A : Type 0} (o : Option A) → length (option_to_list o) ≤ 64
few_option None = omega arith
few_option (Some x) = omega arith

call_few : (k : Kernel) (w : Work) (pid : Pid) (p : Process) (c : Call) → IsShort c → length (round_of_call k w pid p c) ≤ 64
call_few k w pid p (calls.Send target m) short =
    few_if (not (same_host pid target)) (send_packets k pid p target m) 64
    (few_option (option_map (λ (e : Exchange). Send pid target p.sends m e.part) (k.exchanges (name_of pid p.sends))))
call_few k w pid p (calls.MoveTo partner dest src count) short =
    few_or (data_packets pid partner p.memory dest src count w.acknowledged) p.moving 64
    (λ m is. let size = length-map (offsets w.acknowledged count) (data_packet pid partner p.memory dest src count m) in
    let few = few_offsets w.acknowledged count short in
    omega arith)
call_few k w pid p (calls.MoveFrom partner dest src count) short =
    few_or (λ (m : MoveName). request_packet pid partner src count w.received m ∷ []) p.moving 64 (λ m is. omega arith)
call_few k w pid p (calls.GetPid logical scope) short = omega arith
call_few k w pid p calls.Receive short = omega arith
call_few k w pid p (calls.ReceiveSegment start count) short = omega arith
call_few k w pid p (calls.Reply m to) short = omega arith
call_few k w pid p (calls.ReplySegment m to dest src count) short = omega arith
call_few k w pid p (calls.Forward m from to) short = omega arith
call_few k w pid p (calls.SetPid logical q scope) short = omega arith
call_few k w pid p (calls.Load start count) short = omega arith
call_few k w pid p (calls.Store start bytes) short = omega arith
call_few k w pid p calls.Exit short = omega arith

round_few : (k : Kernel) (w : Work) (pid : Pid) → WaitsShort k pid → length (round k w pid) ≤ 64
unfolding round
round_few k w pid short =
    few_or (round_of k w pid) (k.procs pid) 64
    (λ p at. few_or (round_of_call k w pid p) (blocked_in p.state) 64 (λ c is. call_few k w pid p c (short p c at is)))

-- What waits in tables that fit is short.
short_wait : (pid : Pid) (size : ℕ) (w : Waiting) → may_wait pid size w ≡ true → IsShort (call_of w)
short_wait pid size (waitings.MoveTo partner dest src count) may =
    let remote = (and_parts (is_remote_move pid partner count) (lies_in (range_of src count) size) may).0 in
    leb-true count 65536 (and_parts (not (same_host pid partner) && nat_lt 0 count) (nat_le count 65536) remote).1
short_wait pid size (waitings.Send target m) may = tt
short_wait pid size waitings.Receive may = tt
short_wait pid size (waitings.ReceiveSegment start count) may = tt
short_wait pid size (waitings.MoveFrom partner dest src count) may = tt
short_wait pid size (waitings.GetPid logical scope) may = tt

short_doing : (pid : Pid) (size : ℕ) (d : Activity) (c : Call) → ((w : Waiting) → d ≡ activities.Blocked w → may_wait pid size w ≡ true) →
    blocked_in (state_of d) ≡ Some c → IsShort c
short_doing pid size activities.Ready c may is = absurd (none-some c is)
short_doing pid size (activities.Done w o) c may is = absurd (none-some c is)
short_doing pid size (activities.Blocked w) c may is = subst IsShort (same_Some (call_of w) c is) (short_wait pid size w (may w refl))

short_here : (t : Times) (host : ℕ) (tables : Tables) (r : Reading) → Stands t host tables r → AreFit host tables → (pid : Pid) →
    pid.host ≡ host → WaitsShort r.view pid
short_here t host tables r stands fit pid own p c at is =
    let s = mapped_is process_of (seat_in tables.seats pid) p (sym (stands.procs pid own) ∙ at) in
    let found = seat_found tables.seats pid s.0 s.1 in
    short_doing s.0.pid (length s.0.memory) s.0.doing c (fit.seats found.at s.0 found.here).waits
    (ap (λ (q : Process). blocked_in q.state) s.2 ∙ is)

-- A call that is begun leaves its process waiting in it, and it is short.
put_short : (procs : Pid → Option Process) (k : Kernel) (pid : Pid) (after : Process) (c : Call) → k.procs ≡ put_process procs pid after →
    after.state ≡ states.Blocked c → IsShort c → WaitsShort k pid
put_short procs k pid after c put state short p d at is =
    let here : after ≡ p = same_Some after p (sym (ap (λ f. f pid) put ∙ put_process_here procs pid after) ∙ at) in
    subst IsShort (same_Some c d (ap blocked_in (sym state) ∙ ap (λ (q : Process). blocked_in q.state) here ∙ is)) short

abbrev BeginsShort : Pid → Effect → Type 0
BeginsShort pid e = is_begun (seen_answer e.seen) ≡ true → WaitsShort e.after pid

answered_short : (k : Kernel) (pid : Pid) (c : Call) (a : Answer) (e : Effect) → Some (answered k pid c a) ≡ Some e → BeginsShort pid e
answered_short k pid c a e is begun =
    absurd (both_ways (is_begun (seen_answer e.seen))
    (ap (λ (x : Effect). is_begun (seen_answer x.seen)) (sym (same_Some (answered k pid c a) e is))) begun)

unseen_short : (k : Kernel) (pid : Pid) (e : Effect) → Some (unseen k) ≡ Some e → WaitsShort k pid → BeginsShort pid e
unseen_short k pid e is short begun = subst (λ (x : Effect). WaitsShort x.after pid) (same_Some (unseen k) e is) short

replied_short : (k : Kernel) (pid : Pid) (c : Call) (to : Pid) (m : Message) (dest : ℕ) (bytes : List ℕ) (e : Effect) →
    replied k pid c to m dest bytes ≡ Some e → BeginsShort pid e
replied_short k pid c to m dest bytes e is =
    let number = bind_is (held k pid to) _ e is in
    let x = bind_is (k.exchanges (name_of to number.0)) _ e number.2 in
    answered_short _ pid c answers.Ok e x.2

forward_short : (k : Kernel) (pid : Pid) (m : Message) (from to : Pid) (e : Effect) →
    forward k pid (calls.Forward m from to) m from to ≡ Some e → BeginsShort pid e
forward_short k pid m from to e is =
    let number = bind_is (held k pid from) _ e is in
    let x = bind_is (k.exchanges (name_of from number.0)) _ e number.2 in
    answered_short _ pid (calls.Forward m from to) answers.Ok e x.2

copied_short : (k : Kernel) (pid : Pid) (c : Call) (into : Pid) (dest : ℕ) (bytes : List ℕ) (e : Effect) →
    copied_at_once k pid c into dest bytes ≡ Some e → BeginsShort pid e
unfolding copied_at_once
copied_short k pid c into dest bytes e is =
    let q = bind_is (k.procs into) _ e is in answered_short _ pid c answers.Ok e q.2

moving_short : (k : Kernel) (pid : Pid) (p : Process) (c : Call) (partner : Pid) (m : Move) (e : Effect) → IsShort c →
    begin_move k pid p c partner m ≡ Some e → BeginsShort pid e
unfolding move_begun
moving_short k pid p c partner m e short is =
    let number = bind_is (held k pid partner) _ e is in
    let x = bind_is (k.exchanges (name_of partner number.0)) _ e number.2 in
    let after : Kernel = move_begun k pid p c (name_of partner number.0) x.0 m in
    unseen_short after pid e x.2 (put_short k.procs after pid _ c refl refl short)

received_short : (k : Kernel) (pid : Pid) (p : Process) (c : Call) (e : Effect) → IsShort c →
    Some (unseen (with_state k pid p (states.Blocked c))) ≡ Some e → BeginsShort pid e
received_short k pid p c e short is =
    let after : Kernel = with_state k pid p (states.Blocked c) in
    unseen_short after pid e is (put_short k.procs after pid _ c refl refl short)

asked_short : (k : Kernel) (pid : Pid) (p : Process) (logical : ℕ) (scope : Scope) (o : Option Pid) (e : Effect) →
    Some (get_pid k pid p (calls.GetPid logical scope) logical o) ≡ Some e → BeginsShort pid e
unfolding lookup_begun
asked_short k pid p logical scope None e is =
    let c : Call = calls.GetPid logical scope in
    let after : Kernel = lookup_begun k pid p c logical in
    unseen_short after pid e is (put_short k.procs after pid _ c refl refl tt)
asked_short k pid p logical scope (Some q) e is = answered_short k pid (calls.GetPid logical scope) (answers.Found q) e is

accepted_short : (k : Kernel) (pid : Pid) (p : Process) (c : Call) (e : Effect) → IsFit k pid p c → accepted k pid p c ≡ Some e →
    BeginsShort pid e
unfolding sent
accepted_short k pid p (calls.Send target m) e fit is =
    let after : Kernel = sent k pid p target m in
    unseen_short after pid e is (put_short k.procs after pid _ (calls.Send target m) refl refl tt)
accepted_short k pid p calls.Receive e fit is = received_short k pid p calls.Receive e tt is
accepted_short k pid p (calls.ReceiveSegment start count) e fit is = received_short k pid p (calls.ReceiveSegment start count) e tt is
accepted_short k pid p (calls.Reply m to) e fit is = replied_short k pid (calls.Reply m to) to m 0 [] e is
accepted_short k pid p (calls.ReplySegment m to dest src count) e fit is =
    replied_short k pid (calls.ReplySegment m to dest src count) to m dest (bytes_in (range_of src count) p.memory) e is
accepted_short k pid p (calls.Forward m from to) e fit is = forward_short k pid m from to e is
accepted_short k pid p (calls.MoveTo partner dest src count) e fit is =
    let c : Call = calls.MoveTo partner dest src count in
    let bytes = bytes_in (range_of src count) p.memory in
    let rest : List (Bool × Refusal) = drop 1 (tests_of k pid p c) in
    let first = passes_first (nat_lt 65536 count) refusals.TooLong rest fit.rest in
    of_either (BeginsShort pid) (is_at_once pid partner count) (copied_at_once k pid c partner dest bytes)
    (begin_move k pid p c partner (new_move pid directions.To dest src count bytes)) e
    (λ once h. copied_short k pid c partner dest bytes e h)
    (λ later h. moving_short k pid p c partner (new_move pid directions.To dest src count bytes) e (ltb-false 65536 count first.0) h) is
accepted_short k pid p (calls.MoveFrom partner dest src count) e fit is =
    let c : Call = calls.MoveFrom partner dest src count in
    of_either (BeginsShort pid) (is_at_once pid partner count)
    (k.procs partner >>= λ q. copied_at_once k pid c pid dest (bytes_in (range_of src count) q.memory))
    (begin_move k pid p c partner (new_move pid directions.From dest src count [])) e
    (λ once h. let q = bind_is (k.procs partner) _ e h in
    copied_short k pid c pid dest (bytes_in (range_of src count) q.0.memory) e q.2)
    (λ later h. moving_short k pid p c partner (new_move pid directions.From dest src count []) e tt h) is
accepted_short k pid p (calls.SetPid logical q scope) e fit is = answered_short _ pid (calls.SetPid logical q scope) answers.Ok e is
accepted_short k pid p (calls.GetPid logical scope) e fit is =
    asked_short k pid p logical scope (found_at_once k pid logical scope) e is
accepted_short k pid p (calls.Load start count) e fit is =
    answered_short k pid (calls.Load start count) (answers.Loaded (bytes_in (range_of start count) p.memory)) e is
accepted_short k pid p (calls.Store start bytes) e fit is = answered_short _ pid (calls.Store start bytes) answers.Ok e is
accepted_short k pid p calls.Exit e fit is = answered_short _ pid calls.Exit answers.Ok e is

called_short : (k : Kernel) (pid : Pid) (p : Process) (c : Call) (why : Option Refusal) (e : Effect) → call_refusal k pid p c ≡ why →
    called k pid p c why ≡ Some e → BeginsShort pid e
called_short k pid p c None e fine is = accepted_short k pid p c e (fit_is k pid p c fine) is
called_short k pid p c (Some why) e fine is = answered_short k pid c (answers.Refused why) e is

begun_short : (k : Kernel) (pid : Pid) (c : Call) (o : Option Effect) → effect k (steps.Call pid c) ≡ o →
    is_begun (effect_answer o) ≡ true → WaitsShort (after_effect k o) pid
begun_short k pid c None is begun = absurd (both_ways false refl begun)
begun_short k pid c (Some e) is begun =
    let p = bind_is (k.procs pid) _ e is in called_short k pid p.0 c (call_refusal k pid p.0 c) e refl p.2 begun

-- Calls.
few_where : {A : Type 0} (b : Bool) (xs : List A) → (b ≡ true → length xs ≤ 64) → length (list_if b xs) ≤ 64
few_where true xs h = h refl
few_where false xs h = omega arith

reply_few : (before after : Kernel) (pid to : Pid) → length (reply_packets before after pid to) ≤ 64
reply_few before after pid to =
    few_if (not (same_host pid to)) (option_map_or (λ number. told_sender after (name_of to number)) (held before pid to) []) 64
    (few_or (λ number. told_sender after (name_of to number)) (held before pid to) 64
    (λ number is. let one = told_few after (name_of to number) in omega arith))

exit_few : (before after : Kernel) (slots : List (Option Alien)) (pid : Pid) → length (exit_packets before after slots pid) ≤ length slots
exit_few before after [] pid = omega arith
exit_few before after (slot ∷ slots) pid =
    let one = few_or (negative_for before after pid) slot 1
    (λ a is. few_if (holds_of (is_message_at pid) (before.exchanges a.name)) (told_sender after a.name) 1 (told_few after a.name)) in
    let rest = exit_few before after slots pid in
    let both = length-append (option_map_or (negative_for before after pid) slot []) (exit_packets before after slots pid) in
    omega arith

packets_few : (before after : Kernel) (slots : List (Option Alien)) (pid : Pid) (c : Call) (a : EventAnswer) → length slots ≤ 64 →
    (is_begun a ≡ true → length (round after no_work pid) ≤ 64) → length (packets_of before after slots pid c a) ≤ 64
packets_few before after slots pid (calls.Reply m to) a small begun = few_where (is_ok a) _ (λ t. reply_few before after pid to)
packets_few before after slots pid (calls.ReplySegment m to dest src count) a small begun =
    few_where (is_ok a) _ (λ t. reply_few before after pid to)
packets_few before after slots pid calls.Exit a small begun =
    few_where (is_ok a) _ (λ t. let few = exit_few before after slots pid in omega arith)
packets_few before after slots pid c a small begun = few_where (is_begun a) (round after no_work pid) begun

call_sends_few : (r : Reading) (pid : Pid) (c : Call) → length r.slots ≤ 64 →
    length (call_outcome r pid c (effect_answer (effect r.view (steps.Call pid c)))).packets ≤ 64
unfolding call_outcome
call_sends_few r pid c small =
    packets_few r.view (next r.view (steps.Call pid c)) r.slots pid c (effect_answer (effect r.view (steps.Call pid c))) small
    (λ begun. round_few (next r.view (steps.Call pid c)) no_work pid
    (begun_short r.view pid c (effect r.view (steps.Call pid c)) refl begun))

-- Packets that come.
abbrev SendsFew : Outcome → Type 0
SendsFew o = length o.packets ≤ 64

few_by : {A : Type 0} (f : A → Outcome) (o : Option A) (d : Outcome) → ((x : A) → SendsFew (f x)) → SendsFew d →
    SendsFew (option_map_or f o d)
few_by f None d h k = k
few_by f (Some x) d h k = h x

send_few : (r : Reading) (p : Packet) (name : Name) (to : Pid) → SendsFew (send_outcome r p name to)
send_few r p name to =
    cond_both (holds_of (is_later name.number) (alien_of r.slots name.sender)) nothing _ SendsFew (λ h. omega arith)
    (λ h1. cond_both (holds_of (is_same name.number) (alien_of r.slots name.sender)) (only_packets (told_sender r.view name)) _ SendsFew
    (λ h. let one = told_few r.view name in omega arith)
    (λ h2. cond_both (not (is_live (r.view.procs to))) (only_packets (Negative to name.sender name.number ∷ [])) _ SendsFew
    (λ h. omega arith)
    (λ h3. cond_both (is_none (place_for r.slots name.sender)) (only_packets (Pending to name.sender name.number ∷ []))
    (arrival r.view p name to) SendsFew (λ h. omega arith) (λ h4. omega arith))))

no_sender_few : (k : Kernel) (name : Name) (mover : Pid) (moving : ℕ) → SendsFew (no_sender k name mover moving)
no_sender_few k name mover moving =
    few_if (has_made k name) (MoveNegative name.sender mover name.number moving ∷ []) 64 (omega arith)

data_few : (name : Name) (mover : Pid) (moving total offset : ℕ) (bytes : List ℕ) (e : Exchange) →
    SendsFew (data_outcome name mover moving total offset bytes e)
data_few name mover moving total offset bytes e =
    few_if (is_opened e moving && is_last total offset bytes)
    (MoveAck name.sender mover name.number moving (done_behind e moving offset bytes) ∷ []) 64 (omega arith)

request_few : (name : Name) (mover : Pid) (moving src total offset : ℕ) (w : FarSender) → total ≤ 65536 →
    SendsFew (request_outcome name mover moving src total offset w)
request_few name mover moving src total offset w most =
    let send = bytes_packet name mover moving src total w.process.memory in
    let size = length-map (offsets offset total) send in
    let few = few_offsets offset total most in
    few_if (is_opened w.exchange moving) (map send (offsets offset total)) 64 (omega arith)

abbrev AreShortTo : Kernel → Packet → Type 0
AreShortTo k p = (to : Pid) → receiver_of p ≡ Some to → WaitsShort k to

packet_few : (host : ℕ) (r : Reading) (p : Packet) → is_lawful p ≡ true → AreShortTo r.view p → SendsFew (packet_outcome host r p)
unfolding packet_outcome
packet_few host r (Send from to number m part) lawful short = send_few r (Send from to number m part) (name_of from number) to
packet_few host r (Reply from to number m dest bytes) lawful short = omega arith
packet_few host r (Pending from to number) lawful short = omega arith
packet_few host r (Negative from to number) lawful short = omega arith
packet_few host r (MoveData from to number moving dest total offset bytes) lawful short =
    few_by _ (far_partner r.view (name_of to number) from) _
    (λ w. cond_both (may_be_written dest total w) (data_outcome (name_of to number) from moving total offset bytes w.exchange) nothing SendsFew
    (λ h. data_few (name_of to number) from moving total offset bytes w.exchange) (λ h. omega arith))
    (no_sender_few r.view (name_of to number) from moving)
packet_few host r (MoveAck from to number moving received) lawful short =
    let w : Work = record (r.work to) { acknowledged = received } in
    few_by (ack_outcome r.view (r.work to) to received) (running_to r.view to (name_of from number) moving) nothing
    (λ p. cond_both (received == move_count p) (only_steps (steps.End to endings.Ok ∷ []))
    (only_packets (list_if (restarts_at (r.work to) received (move_count p)) (round r.view w to))) SendsFew
    (λ h. omega arith)
    (λ h. few_if (restarts_at (r.work to) received (move_count p)) (round r.view w to) 64 (round_few r.view w to (short to refl))))
    (omega arith)
packet_few host r (MoveRequest from to number moving src total offset) lawful short =
    let most = (place_is total offset (fits_is (MoveRequest from to number moving src total offset) lawful)).most in
    few_by _ (far_partner r.view (name_of to number) from) _
    (λ w. cond_both (may_be_read src total w) (request_outcome (name_of to number) from moving src total offset w) nothing SendsFew
    (λ h. request_few (name_of to number) from moving src total offset w most) (λ h. omega arith))
    (no_sender_few r.view (name_of to number) from moving)
packet_few host r (MoveBytes from to number moving total offset bytes) lawful short =
    let w : Work = r.work to in
    let again = shows_gap w.received total offset bytes && w.fresh in
    few_by (λ (p : Process). bytes_outcome r.view w to (name_of from number) moving total offset bytes)
    (running_from r.view to (name_of from number) moving total) nothing
    (λ p. cond_both (offset == w.received)
    (only_steps (copies_bytes (name_of from number) moving offset bytes ∷ list_if (is_last total offset bytes) (steps.End to endings.Ok ∷ [])))
    (only_packets (list_if again (round r.view w to))) SendsFew (λ h. omega arith)
    (λ h. few_if again (round r.view w to) 64 (round_few r.view w to (short to refl))))
    (omega arith)
packet_few host r (MoveNegative from to number moving) lawful short = omega arith
packet_few host r (AskPid asker lookup logical) lawful short =
    few_by (told_asker asker lookup) (found_there (r.view.names host) logical) nothing (λ pid. omega arith) (omega arith)
packet_few host r (TellPid found asker lookup) lawful short = omega arith

delivered_few : (host : ℕ) (r : Reading) (o : Unsealed) (b : Bool) →
    ((h : Header) (p : Packet) → o ≡ Framed h p → b ≡ true → SendsFew (packet_outcome host r p)) →
    SendsFew (option_map_or (λ (f : Frame). packet_outcome host r f.packet) (cond b (frame_in o) None) nothing)
delivered_few host r o false few = omega arith
delivered_few host r Noise true few = omega arith
delivered_few host r (Headed h) true few = omega arith
delivered_few host r (Framed h p) true few = few h p refl refl

pub is_taken : (a : EventAnswer) → is_frame_taken a ≡ true → a ≡ events_answered.Taken
is_taken events_answered.Begun is = cc
is_taken (events_answered.Answered a) is = cc
is_taken (events_answered.Ticked now) is = cc
is_taken events_answered.Taken is = refl
is_taken events_answered.Old is = cc
is_taken events_answered.Bad is = cc

-- Each event that is no tick, by tables that stand and fit.
few_in : (c : Settings) (host : ℕ) (t : Tables) (r : Reading) (i : Input) → Stands c.times host t r → AreFit host t → is_tick i ≡ false →
    SendsFew (outcome_of c host r i (answer_to c host r i))
unfolding collect_outcome
few_in c host t r (Called pid call) stands fit still =
    let pool = fit.pool in
    let slots = ap length stands.slots ∙ length-map t.slots (option_map read_alien) in
    call_sends_few r pid call (omega arith)
few_in c host t r (Collected pid) stands fit still = omega arith
few_in c host t r Ticked stands fit still = absurd (both_ways true still refl)
few_in c host t r (Delivered o) stands fit still =
    delivered_few host r o (is_frame_taken (answer_to c host r (Delivered o)))
    (λ h p is taken. let for : IsFor host p =
    received c host r h p (ap (λ x. answer_to c host r (Delivered x)) (sym is) ∙ is_taken (answer_to c host r (Delivered o)) taken) in
    packet_few host r p for.lawful (λ to there. short_here c.times host t r stands fit to (for.own to there)))

-- As a station has it.
pub few_frames : (old new : StationValue) (i : Input) (given : EventAnswer) → IsEvent old new i given → StandsSomewhere old →
    is_tick i ≡ false → length new.frames ≤ 64
few_frames old new i given event somewhere still =
    let c = somewhere.0 in
    let at = somewhere.2 in
    let r : Reading = reading c old.host somewhere.1 in
    let e : Entry = entry_of c old.host somewhere.1 i in
    let few = few_in c old.host old.doing.tables r i at.stands at.fit still in
    let size = ap length (event.shows c somewhere.1 at).frames ∙ length-map e.frames sealed in
    let packets = sym (length-map e.frames (λ (f : Frame). f.packet)) ∙ ap length (packets_are c old.host r i) in
    omega arith

-- How a pipe server stands before each step: the bytes that it replies with stand in its memory.
use Rattle.std.proofs.Common.{◌≡◌, ℕ, suc, ◌+◌, ◌≤◌, ◌==◌, Bool, true, false, List, [], ◌∷◌, ◌++◌, length, Option, Some, None, option_to_list, refl, sym, ap, subst, ◌∙◌, append-nil, arith}
use Rattle.std.proofs.lemmas.Bool.{both_ways, le-leb}
use Rattle.std.proofs.lemmas.List.{length-take-le}
use Rattle.std.proofs.lemmas.Option.{same_Some, none-some}
use Rattle.vk_types.specs.Types.{Answer, Call, Message, Pid, Process, Refusal, State}
use Rattle.vk_base.specs.declared.answer.Answer.TheVariants as answers
use Rattle.vk_base.specs.declared.call.Call.TheVariants as calls
use Rattle.vk_base.specs.declared.kernel.State.TheVariants as states
use Rattle.vk_base.specs.declared.limits.TheConstants.{SEGMENT_BYTES}
use Rattle.vk_base.specs.Calls.{Effect, unseen, answered as seen_answered, exited}
use Rattle.vk_base.specs.Kernel.{Kernel, is_ready, with_memory, with_state}
use Rattle.vk_base.specs.Ranges.{range_of, bytes_in, with_bytes}
use Rattle.v_laws.proofs.Tables.{put_process_here}
use Rattle.v_pages.proofs.Calling.{CallOutcome, IsCalling, exited_ready, give_outcome, never_refused, one_given, own_told, reply_outcome, same_process, told}
use Rattle.v_pages.proofs.Lists.{read_back}
use Rattle.vk_pipe.specs.declared.news.News.{News}
use Rattle.vk_pipe.specs.declared.news.News.TheVariants as brings
use Rattle.vk_pipe.specs.declared.serving.PipeServing.{PipeServing}
use Rattle.vk_pipe.specs.declared.serving.PipeServing.TheVariants as stages
use Rattle.vk_pipe.specs.declared.waiting.Read.{Read}
use Rattle.vk_pipe.specs.Pipes.{Pipe, Rule, Server, after_news, answered, at, by_rule, delivered, loaded, new_server, piece_len, piece_of, received, server_after, settled, stage_call, with_news}
use Rattle.vk_pipe.specs.Requests.{message_for, read_of, reply_of}
use Rattle.v_pipe.proofs.Entries.{brings_of}
use Rattle.vk_pipe.proofs.Hearing.{one_more_answer}
use Rattle.vk_pipe.proofs.Rules.{either_way, judged_goes, settled_goes}

-- the bytes of a read that is replied to stand at the beginning of its memory, where they have room
abbrev pub Gives : Server → Process → Type 0
Gives s p = (x : Read) → s.stage ≡ stages.ReplyBytes x → p.alive ≡ true → piece_len s.pipe x ≤ length p.memory →
    bytes_in (range_of 0 (piece_len s.pipe x)) p.memory ≡ piece_of s.pipe x

-- in each state of its process, where it has made so many calls and got so many answers
abbrev pub Doing : Server → Process → (made given : ℕ) → State → Type 0
Doing s p made given states.Ready = (made ≡ given) × Gives s p
Doing s p made given (states.Blocked c) =
    (made ≡ given + 1) × (s.stage ≡ stages.Receive) × (c ≡ calls.ReceiveSegment 0 SEGMENT_BYTES)
Doing s p made given (states.Done c a) = (made ≡ given + 1) × (s.stage ≡ stages.Receive)

abbrev pub PipeAt : ℕ → ℕ → List Answer → Process → Type 0
PipeAt requests made given p = Doing (server_after requests given) p made (length given) p.state

-- What it does next is no reply with bytes, unless it stored them.
abbrev pub gives_bytes : PipeServing → Bool
gives_bytes (stages.ReplyBytes x) = true
gives_bytes stage = false

abbrev pub stores_bytes : PipeServing → Bool
stores_bytes (stages.Store x) = true
stores_bytes stage = false

abbrev pub NoBytes : Pipe → News → Type 0
NoBytes q n = gives_bytes (after_news q n).stage ≡ false

pub settled_none : (q : Pipe) → gives_bytes (by_rule q (settled q)).stage ≡ false
settled_none q =
    settled_goes (λ (rule : Rule). gives_bytes (by_rule q rule).stage ≡ false) q refl (λ rest. refl) (λ w first room. refl)
    (λ x first some. refl) (λ x first over. refl)

received_none : (q : Pipe) (a : Answer) → NoBytes q (received q a)
received_none q (answers.ReceivedSegment from m count) =
    judged_goes (NoBytes q) q from m count refl (λ e. refl) refl (λ full. refl) (λ few. refl)
    (λ few. settled_none (with_news q (brings.ReadWaits (read_of from m))))
received_none q a = refl

loaded_none : (q : Pipe) (from : Pid) (count : ℕ) (a : Answer) → NoBytes q (loaded from count a)
loaded_none q from count (answers.Loaded bytes) =
    either_way (NoBytes q) (length bytes == count) _ _
    (λ e. settled_none (with_news q (brings.WriteWaits (record { from = from; bytes = bytes })))) (λ e. refl)
loaded_none q from count a = refl

delivered_none : (q : Pipe) (x : Read) (a : Answer) → NoBytes q (delivered x a)
delivered_none q x answers.Ok = settled_none (with_news q (brings.Delivered x))
delivered_none q x a = settled_none (with_news q brings.Replied)

none_next : (q : Pipe) (stage : PipeServing) (a : Answer) → stores_bytes stage ≡ false → gives_bytes (answered (at q stage) a).stage ≡ false
none_next q stages.Receive a no_store = received_none q a
none_next q (stages.Load from count) a no_store = loaded_none q from count a
none_next q (stages.Store x) a no_store = absurd (both_ways true no_store refl)
none_next q (stages.ReplyBytes x) a no_store = delivered_none q x a
none_next q (stages.Reply to verdict) a no_store = settled_none (with_news q brings.Replied)
none_next q stages.Exit a no_store = refl
none_next q stages.Ended a no_store = refl

pub gives_nothing : (s : Server) (y : Process) → gives_bytes s.stage ≡ false → Gives s y
gives_nothing s y none x is alive room = absurd (both_ways (gives_bytes s.stage) none (ap gives_bytes is))

-- An answer.
abbrev pub Stands : ℕ → List Answer → Pipe → PipeServing → Type 0
Stands requests given q stage = server_after requests given ≡ at q stage

answer_more : (requests made : ℕ) (given : List Answer) (q : Pipe) (stage : PipeServing) (a : Answer) (o : Option Answer) (y : Process) →
    Stands requests given q stage → o ≡ Some a → made ≡ length given → y.state ≡ states.Ready → Gives (answered (at q stage) a) y →
    PipeAt requests (suc made) (given ++ option_to_list o) y
answer_more requests made given q stage a o y is some count ready gives =
    subst (λ o. PipeAt requests (suc made) (given ++ option_to_list o) y) (sym some)
    (subst (Doing (server_after requests (given ++ a ∷ [])) y (suc made) (length (given ++ a ∷ []))) (sym ready) (
      omega (arith, one_given given a, count),
      subst (λ (s : Server). Gives s y)
          (sym (one_more_answer (new_server requests) given a ∙ ap (λ (s : Server). answered s a) is)) gives,
    ))

record IsAnswered (r : Pid) (e : Effect) (y : Process) : Type 0 where
  answer : Answer
  tells : told r e ≡ Some answer
  ready : y.state ≡ states.Ready

-- a call that is answered at once, and that stores no bytes
quiet_on : (requests made : ℕ) (given : List Answer) (q : Pipe) (stage : PipeServing) (r : Pid) (e : Effect) (y : Process) →
    Stands requests given q stage → made ≡ length given → stores_bytes stage ≡ false → IsAnswered r e y →
    PipeAt requests (suc made) (given ++ option_to_list (told r e)) y
quiet_on requests made given q stage r e y is count no_store a =
    answer_more requests made given q stage a.answer (told r e) y is a.tells count a.ready
    (gives_nothing (answered (at q stage) a.answer) y (none_next q stage a.answer no_store))

-- it left the process as it was
tells_same : (k : Kernel) (r : Pid) (c : Call) (a : Answer) (e : Effect) → seen_answered k r c a ≡ e → told r e ≡ Some a
tells_same k r c a e same = own_told r c a e (ap (λ (x : Effect). x.seen) (sym same))

ready_same : (k : Kernel) (r : Pid) (c : Call) (a : Answer) (e : Effect) (p y : Process) → IsCalling k r e p y →
    seen_answered k r c a ≡ e → y.state ≡ states.Ready
ready_same k r c a e p y call same =
    ap (λ (z : Process). z.state) (sym (same_process k r e p y call (ap (λ (x : Effect). x.after.procs r) (sym same)))) ∙ call.ready

answered_same : (k : Kernel) (r : Pid) (c : Call) (a : Answer) (e : Effect) (p y : Process) → IsCalling k r e p y →
    seen_answered k r c a ≡ e → IsAnswered r e y
answered_same k r c a e p y call same = record {
  answer = a;
  tells = tells_same k r c a e same;
  ready = ready_same k r c a e p y call same;
}

-- It waits for a request.
receive_on : (requests made : ℕ) (given : List Answer) (q : Pipe) (k : Kernel) (r : Pid) (e : Effect) (p y : Process) →
    Stands requests given q stages.Receive → IsCalling k r e p y → made ≡ length given →
    CallOutcome k r p (calls.ReceiveSegment 0 SEGMENT_BYTES) e →
    PipeAt requests (suc made) (given ++ option_to_list (told r e)) y
receive_on requests made given q k r e p y is call count (CallOutcome.refused why bars same) =
    quiet_on requests made given q stages.Receive r e y is count refl
    (answered_same k r (calls.ReceiveSegment 0 SEGMENT_BYTES) (answers.Refused why) e p y call same)
receive_on requests made given q k r e p y is call count (CallOutcome.allowed fit g) =
    let c : Call = calls.ReceiveSegment 0 SEGMENT_BYTES in
    let same = same_Some (unseen (with_state k r p (states.Blocked c))) e g in
    let after : record p { state = states.Blocked c } ≡ y =
    same_Some (record p { state = states.Blocked c }) y
    (sym (put_process_here k.procs r (record p { state = states.Blocked c })) ∙ ap (λ (x : Effect). x.after.procs r) same ∙ call.later) in
    subst (λ (x : Effect). PipeAt requests (suc made) (given ++ option_to_list (told r x)) y) same
    (subst (λ (gs : List Answer). PipeAt requests (suc made) gs y) (sym (append-nil given))
    (subst (λ (z : Process). PipeAt requests (suc made) given z) after
    (omega (arith, count), ap (λ (s : Server). s.stage) is, refl)))

-- It loads the bytes of a write.
load_is : (k : Kernel) (r : Pid) (e : Effect) (p y : Process) (count : ℕ) → IsCalling k r e p y →
    CallOutcome k r p (calls.Load 0 count) e → IsAnswered r e y
load_is k r e p y count call (CallOutcome.refused why bars same) =
    answered_same k r (calls.Load 0 count) (answers.Refused why) e p y call same
load_is k r e p y count call (CallOutcome.allowed fit g) =
    let bytes = bytes_in (range_of 0 count) p.memory in
    answered_same k r (calls.Load 0 count) (answers.Loaded bytes) e p y call
    (same_Some (seen_answered k r (calls.Load 0 count) (answers.Loaded bytes)) e g)

-- It stores the bytes of a read.
pub piece_size : (q : Pipe) (x : Read) → length (piece_of q x) ≡ piece_len q x
piece_size q x = length-take-le (piece_len q x) q.bytes (omega arith)

read_same : (x z : Read) → stages.ReplyBytes x ≡ stages.ReplyBytes z → x ≡ z
read_same x z e = cc

stored_gives : (q : Pipe) (x : Read) (y : Process) → (y.alive ≡ true → piece_len q x ≤ length y.memory →
    bytes_in (range_of 0 (piece_len q x)) y.memory ≡ piece_of q x) → Gives (at q (stages.ReplyBytes x)) y
stored_gives q x y has z is = subst (λ (z : Read). y.alive ≡ true → piece_len q z ≤ length y.memory →
    bytes_in (range_of 0 (piece_len q z)) y.memory ≡ piece_of q z) (read_same x z is) has

store_on : (requests made : ℕ) (given : List Answer) (q : Pipe) (x : Read) (k : Kernel) (r : Pid) (e : Effect) (p y : Process) →
    Stands requests given q (stages.Store x) → IsCalling k r e p y → made ≡ length given →
    CallOutcome k r p (calls.Store 0 (piece_of q x)) e → PipeAt requests (suc made) (given ++ option_to_list (told r e)) y
store_on requests made given q x k r e p y is call count (CallOutcome.refused why bars same) =
    let bytes = piece_of q x in
    let c : Call = calls.Store 0 bytes in
    let stays = same_process k r e p y call (ap (λ (x : Effect). x.after.procs r) (sym same)) in
    answer_more requests made given q (stages.Store x) (answers.Refused why) (told r e) y is
    (tells_same k r c (answers.Refused why) e same) count (ready_same k r c (answers.Refused why) e p y call same)
    (stored_gives q x y (subst (λ (z : Process). z.alive ≡ true → piece_len q x ≤ length z.memory →
    bytes_in (range_of 0 (piece_len q x)) z.memory ≡ bytes) stays
    (λ alive room. absurd (never_refused k r p 0 bytes why alive (ap is_ready call.ready)
    (le-leb (0 + length bytes) (length p.memory) (omega (arith, room, piece_size q x))) bars))))
store_on requests made given q x k r e p y is call count (CallOutcome.allowed fit g) =
    let bytes = piece_of q x in
    let c : Call = calls.Store 0 bytes in
    let memory = with_bytes p.memory 0 bytes in
    let same = same_Some (seen_answered (with_memory k r p memory) r c answers.Ok) e g in
    let after : record p { memory = memory } ≡ y =
    same_Some (record p { memory = memory }) y
    (sym (put_process_here k.procs r (record p { memory = memory })) ∙ ap (λ (x : Effect). x.after.procs r) same ∙ call.later) in
    answer_more requests made given q (stages.Store x) answers.Ok (told r e) y is
    (own_told r c answers.Ok e (ap (λ (x : Effect). x.seen) (sym same))) count
    (ap (λ (z : Process). z.state) (sym after) ∙ call.ready)
    (stored_gives q x y (subst (λ (z : Process). z.alive ≡ true → piece_len q x ≤ length z.memory →
    bytes_in (range_of 0 (piece_len q x)) z.memory ≡ bytes) after
    (λ alive room. ap (λ n. bytes_in (range_of 0 n) memory) (sym (piece_size q x)) ∙ read_back p.memory 0 bytes (omega arith))))

-- It replies.
reply_is : (k : Kernel) (r : Pid) (e : Effect) (p y : Process) (m : Message) (to : Pid) → IsCalling k r e p y →
    CallOutcome k r p (calls.Reply m to) e → IsAnswered r e y
reply_is k r e p y m to call out =
    let x = reply_outcome k r p m to e out in
    record {
      answer = x.answer;
      tells = own_told r (calls.Reply m to) x.answer e x.seen;
      ready = ap (λ (z : Process). z.state) (sym (same_process k r e p y call x.same)) ∙ call.ready;
    }

give_is : (k : Kernel) (r : Pid) (e : Effect) (p y : Process) (m : Message) (to : Pid) (dest src count : ℕ) → IsCalling k r e p y →
    CallOutcome k r p (calls.ReplySegment m to dest src count) e → IsAnswered r e y
give_is k r e p y m to dest src count call out =
    let x = give_outcome k r p m to dest src count e out in
    record {
      answer = x.answer;
      tells = own_told r (calls.ReplySegment m to dest src count) x.answer e x.seen;
      ready = ap (λ (z : Process). z.state) (sym (same_process k r e p y call x.same)) ∙ call.ready;
    }

-- It exits.
exit_is : (k : Kernel) (r : Pid) (e : Effect) (p y : Process) → IsCalling k r e p y → CallOutcome k r p calls.Exit e → IsAnswered r e y
exit_is k r e p y call (CallOutcome.refused why bars same) = answered_same k r calls.Exit (answers.Refused why) e p y call same
exit_is k r e p y call (CallOutcome.allowed fit g) =
    let same = same_Some (seen_answered (exited k r p) r calls.Exit answers.Ok) e g in
    record {
      answer = answers.Ok;
      tells = own_told r calls.Exit answers.Ok e (ap (λ (x : Effect). x.seen) (sym same));
      ready = exited_ready k r p y (ap (λ (x : Effect). x.after.procs r) same ∙ call.later) ∙ call.ready;
    }

-- Each of its calls.
pub call_on : (requests made : ℕ) (given : List Answer) (q : Pipe) (stage : PipeServing) (k : Kernel) (r : Pid) (c : Call) (e : Effect)
    (p y : Process) → Stands requests given q stage → IsCalling k r e p y → made ≡ length given → stage_call q stage ≡ Some c →
    CallOutcome k r p c e → PipeAt requests (suc made) (given ++ option_to_list (told r e)) y
call_on requests made given q stages.Receive k r c e p y is call count next out =
    receive_on requests made given q k r e p y is call count
    (subst (λ c. CallOutcome k r p c e) (sym (same_Some (calls.ReceiveSegment 0 SEGMENT_BYTES) c next)) out)
call_on requests made given q (stages.Load from n) k r c e p y is call count next out =
    quiet_on requests made given q (stages.Load from n) r e y is count refl
    (load_is k r e p y n call (subst (λ c. CallOutcome k r p c e) (sym (same_Some (calls.Load 0 n) c next)) out))
call_on requests made given q (stages.Store x) k r c e p y is call count next out =
    store_on requests made given q x k r e p y is call count
    (subst (λ c. CallOutcome k r p c e) (sym (same_Some (calls.Store 0 (piece_of q x)) c next)) out)
call_on requests made given q (stages.ReplyBytes x) k r c e p y is call count next out =
    let m = reply_of 0 (piece_len q x) in
    quiet_on requests made given q (stages.ReplyBytes x) r e y is count refl
    (give_is k r e p y m x.from x.start 0 (piece_len q x) call
    (subst (λ c. CallOutcome k r p c e) (sym (same_Some (calls.ReplySegment m x.from x.start 0 (piece_len q x)) c next)) out))
call_on requests made given q (stages.Reply to verdict) k r c e p y is call count next out =
    quiet_on requests made given q (stages.Reply to verdict) r e y is count refl
    (reply_is k r e p y (message_for verdict) to call
    (subst (λ c. CallOutcome k r p c e) (sym (same_Some (calls.Reply (message_for verdict) to) c next)) out))
call_on requests made given q stages.Exit k r c e p y is call count next out =
    quiet_on requests made given q stages.Exit r e y is count refl
    (exit_is k r e p y call (subst (λ c. CallOutcome k r p c e) (sym (same_Some calls.Exit c next)) out))
call_on requests made given q stages.Ended k r c e p y is call count next out = absurd (none-some c next)

-- A request that it collects.
pub collected_on : (requests made : ℕ) (given : List Answer) (q : Pipe) (a : Answer) (o : Option Answer) (y : Process) →
    Stands requests given q stages.Receive → o ≡ Some a → made ≡ length given + 1 → y.state ≡ states.Ready →
    PipeAt requests made (given ++ option_to_list o) y
collected_on requests made given q a o y is some count ready =
    let more : suc (length given) ≡ made = omega (arith, count) in
    subst (λ n. PipeAt requests n (given ++ option_to_list o) y) more
    (answer_more requests (length given) given q stages.Receive a o y is some refl ready
    (gives_nothing (answered (at q stages.Receive) a) y (none_next q stages.Receive a refl)))

-- What comes of each call, for who follows one request.

-- a receive that is refused brings no request, and a load brings the bytes that stand in its memory
abbrev pub Tells : Process → PipeServing → Answer → Type 0
Tells p stages.Receive a = (s : Pid) → brings_of s a ≡ false
Tells p (stages.Load from n) a = (x : List ℕ) → a ≡ answers.Loaded x → x ≡ bytes_in (range_of 0 n) p.memory
Tells p stage a = Unit {0}

pub data CallDone (stage : PipeServing) (r : Pid) (e : Effect) (p y : Process) : Type 0 where
  answered_by : (a : Answer) → told r e ≡ Some a → y.state ≡ states.Ready → Tells p stage a → CallDone stage r e p y
  blocks : told r e ≡ None → stage ≡ stages.Receive → y.state ≡ states.Blocked (calls.ReceiveSegment 0 SEGMENT_BYTES) →
      CallDone stage r e p y

receive_done : (k : Kernel) (r : Pid) (e : Effect) (p y : Process) → IsCalling k r e p y →
    CallOutcome k r p (calls.ReceiveSegment 0 SEGMENT_BYTES) e → CallDone stages.Receive r e p y
receive_done k r e p y call (CallOutcome.refused why bars same) =
    let c : Call = calls.ReceiveSegment 0 SEGMENT_BYTES in
    let a : Answer = answers.Refused why in
    CallDone.answered_by a (tells_same k r c a e same) (ready_same k r c a e p y call same) (λ s. refl)
receive_done k r e p y call (CallOutcome.allowed fit g) =
    let c : Call = calls.ReceiveSegment 0 SEGMENT_BYTES in
    let same = same_Some (unseen (with_state k r p (states.Blocked c))) e g in
    CallDone.blocks (ap (told r) (sym same)) refl
    (ap (λ (z : Process). z.state)
    (sym (same_Some (record p { state = states.Blocked c }) y
    (sym (put_process_here k.procs r (record p { state = states.Blocked c })) ∙ ap (λ (x : Effect). x.after.procs r) same ∙ call.later))))

loaded_same : (x z : List ℕ) → answers.Loaded x ≡ answers.Loaded z → x ≡ z
loaded_same x z e = cc

refused_loaded : (why : Refusal) (x : List ℕ) → answers.Refused why ≡ answers.Loaded x → ⊥
refused_loaded why x e = cc

load_done : (k : Kernel) (r : Pid) (e : Effect) (p y : Process) (from : Pid) (n : ℕ) → IsCalling k r e p y →
    CallOutcome k r p (calls.Load 0 n) e → CallDone (stages.Load from n) r e p y
load_done k r e p y from n call (CallOutcome.refused why bars same) =
    let a : Answer = answers.Refused why in
    CallDone.answered_by a (tells_same k r (calls.Load 0 n) a e same) (ready_same k r (calls.Load 0 n) a e p y call same)
    (λ x is. absurd (refused_loaded why x is))
load_done k r e p y from n call (CallOutcome.allowed fit g) =
    let bytes = bytes_in (range_of 0 n) p.memory in
    let a : Answer = answers.Loaded bytes in
    let same = same_Some (seen_answered k r (calls.Load 0 n) a) e g in
    CallDone.answered_by a (tells_same k r (calls.Load 0 n) a e same) (ready_same k r (calls.Load 0 n) a e p y call same)
    (λ x is. sym (loaded_same bytes x is))

store_is : (k : Kernel) (r : Pid) (e : Effect) (p y : Process) (bytes : List ℕ) → IsCalling k r e p y →
    CallOutcome k r p (calls.Store 0 bytes) e → IsAnswered r e y
store_is k r e p y bytes call (CallOutcome.refused why bars same) =
    answered_same k r (calls.Store 0 bytes) (answers.Refused why) e p y call same
store_is k r e p y bytes call (CallOutcome.allowed fit g) =
    let memory = with_bytes p.memory 0 bytes in
    let same = same_Some (seen_answered (with_memory k r p memory) r (calls.Store 0 bytes) answers.Ok) e g in
    record {
      answer = answers.Ok;
      tells = own_told r (calls.Store 0 bytes) answers.Ok e (ap (λ (x : Effect). x.seen) (sym same));
      ready = ap (λ (z : Process). z.state)
          (sym (same_Some (record p { memory = memory }) y
          (sym (put_process_here k.procs r (record p { memory = memory })) ∙ ap (λ (x : Effect). x.after.procs r) same ∙ call.later)))
          ∙ call.ready;
    }

pub call_done : (q : Pipe) (stage : PipeServing) (k : Kernel) (r : Pid) (c : Call) (e : Effect) (p y : Process) → IsCalling k r e p y →
    stage_call q stage ≡ Some c → CallOutcome k r p c e → CallDone stage r e p y
call_done q stages.Receive k r c e p y call next out =
    receive_done k r e p y call (subst (λ c. CallOutcome k r p c e) (sym (same_Some (calls.ReceiveSegment 0 SEGMENT_BYTES) c next)) out)
call_done q (stages.Load from n) k r c e p y call next out =
    load_done k r e p y from n call (subst (λ c. CallOutcome k r p c e) (sym (same_Some (calls.Load 0 n) c next)) out)
call_done q (stages.Store x) k r c e p y call next out =
    let a = store_is k r e p y (piece_of q x) call
    (subst (λ c. CallOutcome k r p c e) (sym (same_Some (calls.Store 0 (piece_of q x)) c next)) out) in
    CallDone.answered_by a.answer a.tells a.ready tt
call_done q (stages.ReplyBytes x) k r c e p y call next out =
    let m = reply_of 0 (piece_len q x) in
    let a = give_is k r e p y m x.from x.start 0 (piece_len q x) call
    (subst (λ c. CallOutcome k r p c e) (sym (same_Some (calls.ReplySegment m x.from x.start 0 (piece_len q x)) c next)) out) in
    CallDone.answered_by a.answer a.tells a.ready tt
call_done q (stages.Reply to verdict) k r c e p y call next out =
    let a = reply_is k r e p y (message_for verdict) to call
    (subst (λ c. CallOutcome k r p c e) (sym (same_Some (calls.Reply (message_for verdict) to) c next)) out) in
    CallDone.answered_by a.answer a.tells a.ready tt
call_done q stages.Exit k r c e p y call next out =
    let a = exit_is k r e p y call (subst (λ c. CallOutcome k r p c e) (sym (same_Some calls.Exit c next)) out) in
    CallDone.answered_by a.answer a.tells a.ready tt
call_done q stages.Ended k r c e p y call next out = absurd (none-some c next)

-- A file server after a call of its own.
use Rattle.std.proofs.Common.{◌≡◌, ℕ, suc, ◌+◌, ◌*◌, ◌<◌, ◌≤◌, true, ◌==◌, not, nat_lt, nat_le, List, [], ◌∷◌, ◌++◌, length, take, drop, slice_get, is_none, Option, Some, None, option_to_list, refl, sym, ap, subst, ◌∙◌, inl, inr, arith}
use Rattle.std.proofs.lemmas.Bool.{and_parts, both_ways, cases_Bool, eq-eqb, eqb-true, leb-true, le-leb, or_cases}
use Rattle.std.proofs.lemmas.List.{append-nil, length-take-le}
use Rattle.std.proofs.lemmas.Option.{same_Some, none-some}
use Rattle.v_whole.proofs.Calls.{pushed_last}
use Rattle.vk_types.specs.Types.{Answer, Call, Exchange, Move, Name, Pid, Process, ProcessSpec, Refusal}
use Rattle.vk_base.specs.declared.answer.Answer.TheVariants as answers
use Rattle.vk_base.specs.declared.answer.Refusal.TheVariants as refusals
use Rattle.vk_base.specs.declared.call.Call.TheVariants as calls
use Rattle.vk_base.specs.declared.kernel.Direction.TheVariants as directions
use Rattle.vk_base.specs.declared.kernel.State.TheVariants as states
use Rattle.vk_base.specs.declared.step.Step.TheVariants as steps
use Rattle.vk_base.specs.Calls.{Effect, unseen, answered as seen_answered, begin_move, copied_at_once, exited, is_at_once, is_granted, is_own, may_write, move_begun, new_move}
use Rattle.vk_base.specs.Kernel.{◌>>=◌, Kernel, held, held_exchange, holds_of, is_ready, is_taken, move_of, name_of, with_memory, with_state}
use Rattle.vk_base.specs.Messages.{segment_of}
use Rattle.vk_base.specs.Pids.{same_host, same_pid}
use Rattle.vk_base.specs.Ranges.{range_of, bytes_in, lies_within, with_bytes}
use Rattle.vk_base.specs.Steps.{effect}
use Rattle.vk_base.proofs.OptionLemmas.{bind_is}
use Rattle.vk_files.proofs.Choices.{either}
use Rattle.vk_files.specs.Messages.{reply_of}
use Rattle.vk_files.specs.Servers.{Server, answered, between, loaded, one_more, page_in, stage_call, turn_at}
use Rattle.vk_files.specs.Tasks.{server_after}
use Rattle.vk_files.specs.Volumes.{files_of}
use Rattle.vk_files.specs.declared.disk.Telling.{Telling}
use Rattle.vk_files.specs.declared.disk.Telling.TheVariants.{Done, Lost, Landed}
use Rattle.vk_files.specs.declared.entry.Entry.{Entry}
use Rattle.vk_files.specs.declared.entry.File.{File}
use Rattle.vk_files.specs.declared.limits.TheConstants.{BLOCK_BYTES, FILE_BYTES}
use Rattle.vk_files.specs.declared.serving.FileServing.{FileServing}
use Rattle.vk_files.specs.declared.serving.FileServing.TheVariants as stages
use Rattle.vk_files.specs.declared.serving.Turn.TheVariants as turns
use Rattle.v_laws.specs.Reached.{IsReached}
use Rattle.v_laws.specs.Sizes.{IsSized, size_in}
use Rattle.v_laws.specs.Sound.{IsSound}
use Rattle.v_laws.proofs.Changes.{taken_is_at_target}
use Rattle.v_laws.proofs.Held.{holding_is}
use Rattle.v_laws.proofs.MoveKept.{AreMoves, AreMovesWritten, move_named}
use Rattle.v_laws.proofs.MoveLists.{no_move}
use Rattle.v_laws.proofs.MoveSteps.{pushed}
use Rattle.v_laws.proofs.OnceLemmas.{one_open}
use Rattle.v_laws.proofs.Options.{of_either, some_not_none}
use Rattle.v_laws.proofs.StepLemmas.{four_tests, waiting_is}
use Rattle.v_laws.proofs.Tables.{put_exchange_here, put_process_at, put_process_here, put_process_other, same_pid_is}
use Rattle.v_pages.specs.Requests.{Request}
use Rattle.v_pages.proofs.Calling.{CallOutcome, IsCalling, IsReplied, exited_ready, give_outcome, never_refused, one_given, own_told, reply_outcome, same_process, told}
use Rattle.v_pages.proofs.Lists.{read_back}
use Rattle.v_pages.proofs.Touched.{near_target}
use Rattle.v_files.specs.Volumes.{blocks_from, file_bytes}
use Rattle.v_files.proofs.Asked.{answers_other, answers_otherwise, few_bytes, gathered_after, not_zero}
use Rattle.v_files.proofs.Disks.{IsServerFit, blocks_more, front_more, server_more}
use Rattle.v_files.proofs.Moved.{HoldsOnly, IsExchangeClosed, IsMoved, only_step}
use Rattle.v_files.proofs.Standing.{After, Doing, HasGathered, IsGathering, IsOther, ServerAt, Standing}

-- What is known of every kernel that a run reaches.
pub record IsKernelKnown (specs : List ProcessSpec) (k : Kernel) : Type 0 where
  pub sound : IsSound k
  pub written : AreMovesWritten k
  pub sized : IsSized (size_in specs) k
  pub reached : IsReached k

abbrev pub at_stage : List (List ℕ) → ℕ → FileServing → Server
at_stage kept replies stage = record { blocks = kept; replies = replies; stage = stage }

-- A server that was answered.
pub answered_with : (blocks : List (List ℕ)) (requests : ℕ) (telling : List Answer → Telling) (r : Pid) (made : ℕ) (given : List Answer)
    (all : List Request) (replies : ℕ) (kept : List (List ℕ)) (stage : FileServing) (a : Answer) (o : Option Answer) (k : Kernel)
    (y : Process) → server_after blocks requests telling given ≡ at_stage kept replies stage → made ≡ length (given ++ a ∷ []) →
    o ≡ Some a → y.state ≡ states.Ready →
    After (length blocks) (files_of blocks) r (telling (given ++ a ∷ [])) kept all k y (turn_at (files_of blocks) requests replies stage a) →
    ServerAt blocks requests telling r made (given ++ option_to_list o) all k y
answered_with blocks requests telling r made given all replies kept stage a o k y server count some ready after =
    subst (λ o. ServerAt blocks requests telling r made (given ++ option_to_list o) all k y) (sym some)
    (subst (Doing (length blocks) (files_of blocks) r (server_after blocks requests telling (given ++ a ∷ [])) made (length (given ++ a ∷ []))
    all k y) (sym ready)
    (count, subst (λ (s : Server). Standing (length blocks) (files_of blocks) r s.blocks all k y s.stage) (sym whole) after))
  where
    whole : server_after blocks requests telling (given ++ a ∷ []) ≡
        answered (files_of blocks) requests (at_stage kept replies stage) (telling (given ++ a ∷ [])) a
    whole = server_more blocks requests telling given a
        ∙ ap (λ (s : Server). answered (files_of blocks) requests s (telling (given ++ a ∷ [])) a) server

-- A server that calls.
pub record IsAtCall (specs : List ProcessSpec) (blocks : List (List ℕ)) (requests : ℕ) (telling : List Answer → Telling) (r : Pid)
    (made : ℕ) (given : List Answer) (replies : ℕ) (kept : List (List ℕ)) (stage : FileServing) (k : Kernel) (e : Effect) (p y : Process) :
    Type 0 where
  pub server : server_after blocks requests telling given ≡ at_stage kept replies stage
  pub count : made ≡ length given
  pub known : IsKernelKnown specs k
  pub room : FILE_BYTES ≤ length p.memory
  pub fit : IsServerFit (length blocks) (at_stage kept replies stage)
  pub call : IsCalling k r e p y

-- and is answered at once
record IsTold (r : Pid) (e : Effect) (y : Process) : Type 0 where
  answer : Answer
  seen : told r e ≡ Some answer
  ready : y.state ≡ states.Ready

told_more : (specs : List ProcessSpec) (blocks : List (List ℕ)) (requests : ℕ) (telling : List Answer → Telling) (r : Pid) (made : ℕ)
    (given : List Answer) (all : List Request) (replies : ℕ) (kept : List (List ℕ)) (stage : FileServing) (k : Kernel) (e : Effect)
    (p y : Process) → IsAtCall specs blocks requests telling r made given replies kept stage k e p y → (t : IsTold r e y) →
    After (length blocks) (files_of blocks) r (telling (given ++ t.answer ∷ [])) kept all e.after y
    (turn_at (files_of blocks) requests replies stage t.answer) →
    ServerAt blocks requests telling r (suc made) (given ++ option_to_list (told r e)) all e.after y
told_more specs blocks requests telling r made given all replies kept stage k e p y c t after =
    let count = c.count in
    answered_with blocks requests telling r (suc made) given all replies kept stage t.answer (told r e) e.after y c.server
    (omega (arith, one_given given t.answer)) t.seen t.ready after

told_refused : (k : Kernel) (r : Pid) (c : Call) (e : Effect) (p y : Process) (why : Refusal) → IsCalling k r e p y →
    seen_answered k r c (answers.Refused why) ≡ e → (told r e ≡ Some (answers.Refused why)) × (y.state ≡ states.Ready)
told_refused k r c e p y why call same = (
  own_told r c (answers.Refused why) e (ap (λ (x : Effect). x.seen) (sym same)),
  ap (λ (z : Process). z.state) (sym (same_process k r e p y call (ap (λ (x : Effect). x.after.procs r) (sym same)))) ∙ call.ready,
)

told_replied : (k : Kernel) (r : Pid) (c : Call) (e : Effect) (p y : Process) → IsCalling k r e p y → IsReplied k r c e → IsTold r e y
told_replied k r c e p y call out = record {
  answer = out.answer;
  seen = own_told r c out.answer e out.seen;
  ready = ap (λ (z : Process). z.state) (sym (same_process k r e p y call out.same)) ∙ call.ready;
}

told_load : (k : Kernel) (r : Pid) (start count : ℕ) (e : Effect) (p y : Process) → IsCalling k r e p y →
    CallOutcome k r p (calls.Load start count) e → IsTold r e y
told_load k r start count e p y call (CallOutcome.refused why bars same) =
    let x = told_refused k r (calls.Load start count) e p y why call same in
    record { answer = answers.Refused why; seen = x.0; ready = x.1 }
told_load k r start count e p y call (CallOutcome.allowed fit g) =
    let c : Call = calls.Load start count in
    let a : Answer = answers.Loaded (bytes_in (range_of start count) p.memory) in
    let same = same_Some (seen_answered k r c a) e g in
    record {
      answer = a;
      seen = own_told r c a e (ap (λ (x : Effect). x.seen) (sym same));
      ready = ap (λ (z : Process). z.state) (sym (same_process k r e p y call (ap (λ (x : Effect). x.after.procs r) (sym same)))) ∙ call.ready;
    }

-- what a store leaves of it
store_leaves : (k : Kernel) (r : Pid) (start : ℕ) (bytes : List ℕ) (e : Effect) (p y : Process) → IsCalling k r e p y →
    seen_answered (with_memory k r p (with_bytes p.memory start bytes)) r (calls.Store start bytes) answers.Ok ≡ e →
    record p { memory = with_bytes p.memory start bytes } ≡ y
store_leaves k r start bytes e p y call same =
    let memory = with_bytes p.memory start bytes in
    same_Some (record p { memory = memory }) y
    (sym (put_process_here k.procs r (record p { memory = memory })) ∙ ap (λ (x : Effect). x.after.procs r) same ∙ call.later)

told_store : (k : Kernel) (r : Pid) (start : ℕ) (bytes : List ℕ) (e : Effect) (p y : Process) → IsCalling k r e p y →
    CallOutcome k r p (calls.Store start bytes) e → IsTold r e y
told_store k r start bytes e p y call (CallOutcome.refused why bars same) =
    let x = told_refused k r (calls.Store start bytes) e p y why call same in
    record { answer = answers.Refused why; seen = x.0; ready = x.1 }
told_store k r start bytes e p y call (CallOutcome.allowed fit g) =
    let c : Call = calls.Store start bytes in
    let same = same_Some (seen_answered (with_memory k r p (with_bytes p.memory start bytes)) r c answers.Ok) e g in
    record {
      answer = answers.Ok;
      seen = own_told r c answers.Ok e (ap (λ (x : Effect). x.seen) (sym same));
      ready = ap (λ (z : Process). z.state) (sym (store_leaves k r start bytes e p y call same)) ∙ call.ready;
    }

told_exit : (k : Kernel) (r : Pid) (e : Effect) (p y : Process) → IsCalling k r e p y → CallOutcome k r p calls.Exit e → IsTold r e y
told_exit k r e p y call (CallOutcome.refused why bars same) =
    let x = told_refused k r calls.Exit e p y why call same in
    record { answer = answers.Refused why; seen = x.0; ready = x.1 }
told_exit k r e p y call (CallOutcome.allowed fit g) =
    let same = same_Some (seen_answered (exited k r p) r calls.Exit answers.Ok) e g in
    record {
      answer = answers.Ok;
      seen = own_told r calls.Exit answers.Ok e (ap (λ (x : Effect). x.seen) (sym same));
      ready = exited_ready k r p y (ap (λ (x : Effect). x.after.procs r) same ∙ call.later) ∙ call.ready;
    }

-- What it does then, whatever the answer, where it serves no load.
between_after : (count : ℕ) (files : List Entry) (r : Pid) (blocks : List (List ℕ)) (all : List Request) (k : Kernel) (y : Process)
    (requests replies : ℕ) → Standing count files r blocks all k y (between requests replies)
between_after count files r blocks all k y requests replies =
    either (Standing count files r blocks all k y) (replies == requests) stages.Exit stages.Receive (λ _. tt) (λ _. tt)

pub loaded_after : (count : ℕ) (files : List Entry) (r : Pid) (t : Telling) (blocks : List (List ℕ)) (all : List Request) (k : Kernel)
    (y : Process) (from : Pid) (f : File) (page : ℕ) (o : Option (List ℕ)) → IsOther all from →
    After count files r t blocks all k y (loaded from f page o)
loaded_after count files r t blocks all k y from f page None other = tt
loaded_after count files r t blocks all k y from f page (Some bytes) other = by_telling t
  where
    by_telling : (t : Telling) → After count files r t blocks all k y (turns.WritePage from f page bytes)
    by_telling Done = answers_other files _ all k r from 0 f.number page other
    by_telling Lost = answers_other files _ all k r from 3 0 0 other
    by_telling Landed = answers_other files _ all k r from 3 0 0 other

page_after : (count : ℕ) (files : List Entry) (r : Pid) (t : Telling) (blocks : List (List ℕ)) (all : List Request) (k : Kernel)
    (y : Process) (requests replies : ℕ) (from : Pid) (f : File) (page dest : ℕ) (a : Answer) →
    After count files r t blocks all k y (turn_at files requests replies (stages.ReplyPage from f page dest) a)
page_after count files r t blocks all k y requests replies from f page dest a =
    let next = between requests (one_more requests replies) in
    either (After count files r t blocks all k y) (nat_lt (page + 1) f.blocks) (turns.GoesAhead f (page + 1) next) (turns.Goes next)
    (λ _. between_after count files r blocks all k y requests (one_more requests replies))
    (λ _. between_after count files r blocks all k y requests (one_more requests replies))

-- It puts a block of a file where it belongs.
gather_call : (specs : List ProcessSpec) (blocks : List (List ℕ)) (requests : ℕ) (telling : List Answer → Telling) (r : Pid) (made : ℕ)
    (given : List Answer) (all : List Request) (replies : ℕ) (kept : List (List ℕ)) (from : Pid) (f : File) (at dest : ℕ)
    (bytes : List ℕ) (k : Kernel) (e : Effect) (p y : Process) →
    IsAtCall specs blocks requests telling r made given replies kept (stages.Gather from f at dest bytes) k e p y →
    IsGathering (length blocks) (files_of blocks) kept all p from f at dest bytes →
    CallOutcome k r p (calls.Store (BLOCK_BYTES * at) bytes) e →
    ServerAt blocks requests telling r (suc made) (given ++ option_to_list (told r e)) all e.after y
gather_call specs blocks requests telling r made given all replies kept from f at dest bytes k e p y c g out = by_outcome out
  where
    size : length bytes ≡ BLOCK_BYTES
    size = ap length g.next
        ∙ c.fit.whole (f.start + at) (subst (λ n. f.start + at < n) (sym c.fit.size) (g.load.there.on.there at g.within))

    room : (BLOCK_BYTES * at) + length bytes ≤ length p.memory
    room = let few = g.load.there.on.few in
        let within = g.within in
        let enough = c.room in
        omega (arith, size)

    front : bytes_in (range_of 0 (BLOCK_BYTES * (at + 1))) (with_bytes p.memory (BLOCK_BYTES * at) bytes) ≡ blocks_from kept f.start (at + 1)
    front = let all : BLOCK_BYTES * (at + 1) ≡ (BLOCK_BYTES * at) + length bytes = omega (arith, size) in
        ap (λ n. bytes_in (range_of 0 n) (with_bytes p.memory (BLOCK_BYTES * at) bytes)) all
        ∙ front_more p.memory bytes (BLOCK_BYTES * at) (omega (arith, room))
        ∙ (λ i. g.front i ++ g.next i) ∙ sym (blocks_more kept f.start at)

    by_outcome : CallOutcome k r p (calls.Store (BLOCK_BYTES * at) bytes) e →
        ServerAt blocks requests telling r (suc made) (given ++ option_to_list (told r e)) all e.after y
    by_outcome (CallOutcome.refused why bars same) =
        absurd (never_refused k r p (BLOCK_BYTES * at) bytes why g.alive (ap is_ready c.call.ready)
        (le-leb ((BLOCK_BYTES * at) + length bytes) (length p.memory) room) bars)
    by_outcome (CallOutcome.allowed fit does) =
        let d : Call = calls.Store (BLOCK_BYTES * at) bytes in
        let same = same_Some (seen_answered (with_memory k r p (with_bytes p.memory (BLOCK_BYTES * at) bytes)) r d answers.Ok) e does in
        let after = store_leaves k r (BLOCK_BYTES * at) bytes e p y c.call same in
        told_more specs blocks requests telling r made given all replies kept (stages.Gather from f at dest bytes) k e p y c
        (record {
          answer = answers.Ok;
          seen = own_told r d answers.Ok e (ap (λ (x : Effect). x.seen) (sym same));
          ready = ap (λ (z : Process). z.state) (sym after) ∙ c.call.ready;
        })
        (gathered_after (length blocks) (files_of blocks) r (telling (given ++ answers.Ok ∷ [])) kept all e.after y from f (at + 1) dest g.load
        (ap (λ (z : Process). z.alive) (sym after) ∙ g.alive) (let within = g.within in omega arith)
        (ap (λ (z : Process). bytes_in (range_of 0 (BLOCK_BYTES * (at + 1))) z.memory) (sym after) ∙ front))

-- It moves the file.
holds_only : (k : Kernel) (r from : Pid) (number : ℕ) → IsSound k → IsReached k → held k r from ≡ Some number → HoldsOnly k r from number
holds_only k r from number sound reached holds m y at held_y =
    let h = holding_is k r from number holds in
    let parts = and_parts (same_pid y.at r) (is_taken y.stage) held_y in
    one_open k from m number y h.exchange reached at h.is (taken_is_at_target y.stage parts.1)
    (taken_is_at_target h.exchange.stage h.taken)
    (one_host y h.exchange (same_pid_is y.at r parts.0 ∙ sym (same_pid_is h.exchange.at r h.at)) (sound.near (name_of from m) y at)
    (sound.near (name_of from number) h.exchange h.is))
  where
    one_host : (x y : Exchange) → x.at ≡ y.at → same_host x.target x.at ≡ true → same_host y.target y.at ≡ true →
        same_host x.target y.target ≡ true
    one_host x y same first second = eq-eqb x.target.host y.target.host
        (eqb-true x.target.host x.at.host first ∙ ap (λ (p : Pid). p.host) same ∙ sym (eqb-true y.target.host y.at.host second))

-- an exchange of one station has no move
local_closed : (n : Name) (x : Exchange) → AreMoves n x → same_host n.sender x.target ≡ true →
    IsExchangeClosed x
local_closed n x are near = by_moves x.moves refl
  where
    by_moves : (ms : List Move) → x.moves ≡ ms → IsExchangeClosed x
    by_moves [] none = record {
      last = let size = ap length none in omega arith;
      done = λ m is. absurd (none-some m (sym (no_move x x.opened none) ∙ is));
    }
    by_moves (m ∷ ms) some =
        absurd (both_ways (same_host n.sender x.target) (are.each 1 m (ap (λ l. slice_get l 0) some)).remote near)

granted_room : (specs : List ProcessSpec) (k : Kernel) (r from : Pid) (number dest count : ℕ) (q : Process) → IsKernelKnown specs k →
    held k r from ≡ Some number → is_granted (held_exchange k r from) dest count ≡ true → k.procs from ≡ Some q →
    dest ≤ length q.memory
granted_room specs k r from number dest count q known holds granted at =
    let h = holding_is k r from number holds in
    let there : held_exchange k r from ≡ Some h.exchange = ap (λ o. o >>= λ n. k.exchanges (name_of from n)) holds ∙ h.is in
    let seg = segment_of h.exchange.message in
    let lies : lies_within (range_of dest count) seg ≡ true =
    sym (ap (λ o. holds_of (λ (e : Exchange). lies_within (range_of dest count) (segment_of e.message)) o) there) ∙ granted in
    let parts = and_parts (nat_le seg.start dest) (nat_le (dest + count) (seg.start + seg.len)) lies in
    let ends = leb-true (dest + count) (seg.start + seg.len) parts.1 in
    let whole = leb-true (seg.start + seg.len) (size_in specs from)
    (known.sized.exchanges (name_of from number) h.exchange h.is).segment in
    let size = known.sized.memory from q at in
    omega arith

local_moved : (specs : List ProcessSpec) (k : Kernel) (r from : Pid) (number dest : ℕ) (bytes : List ℕ) (q : Process) → IsKernelKnown specs k →
    held k r from ≡ Some number → same_host r from ≡ true → k.procs from ≡ Some q → dest ≤ length q.memory →
    IsMoved (with_memory k from q (with_bytes q.memory dest bytes)) r from dest bytes
local_moved specs k r from number dest bytes q known holds near at room =
    let h = holding_is k r from number holds in
    let n = name_of from number in
    let new : Process = record q { memory = with_bytes q.memory dest bytes } in
    let l = with_memory k from q (with_bytes q.memory dest bytes) in
    IsMoved.something number (holds_only k r from number known.sound known.reached holds)
    (record {
      exchange = h.exchange;
      is = h.is;
      closed = local_closed n h.exchange (known.written.exchanges n h.exchange h.is) (near_target k from r number h known.sound near);
      there = λ p waits.
          let same : new ≡ p = same_Some new p (sym (put_process_here k.procs from new) ∙ (waiting_is l n p waits).process) in
          ap (λ (z : Process). bytes_in (range_of dest (length bytes)) z.memory) (sym same) ∙ read_back q.memory dest bytes room;
    })
    (same_pid_is h.exchange.at r h.at)

last_pushed : (x : Exchange) (m : Move) → move_of (pushed x m) (length x.moves + 1) ≡ Some m
last_pushed x m = let one : length x.moves + 1 ≡ suc (length x.moves) = omega arith in
    ap (move_of (pushed x m)) one ∙ pushed_last x.moves m

-- what is left of it after a move that was made at once
ready_left : (k : Kernel) (r from : Pid) (p q y : Process) (memory : List ℕ) → k.procs r ≡ Some p → p.state ≡ states.Ready →
    k.procs from ≡ Some q → (with_memory k from q memory).procs r ≡ Some y → y.state ≡ states.Ready
ready_left k r from p q y memory at ready there later = elim (cases_Bool (same_pid r from)) [
  | inl t ↦
      let new : Process = record q { memory = memory } in
      let same : q ≡ p = same_Some q p (sym there ∙ ap k.procs (sym (same_pid_is r from t)) ∙ at) in
      ap (λ (z : Process). z.state) (sym (same_Some new y (sym (put_process_at k.procs from new r t) ∙ later)))
      ∙ ap (λ (z : Process). z.state) same ∙ ready
  | inr f ↦
      let new : Process = record q { memory = memory } in
      ap (λ (z : Process). z.state) (sym (same_Some p y (sym at ∙ sym (put_process_other k.procs from new r f) ∙ later))) ∙ ready
]

no_take : (r : Pid) (c : Call) → steps.Call r c ≡ steps.Take r → ⊥
no_take r c e = cc

-- the file that it has gathered, as a move
pub gathered_size : (count : ℕ) (files : List Entry) (blocks : List (List ℕ)) (all : List Request) (p : Process) (from : Pid) (f : File)
    (dest : ℕ) → HasGathered count files blocks all p from f dest → FILE_BYTES ≤ length p.memory →
    length (file_bytes blocks f) ≡ f.length
gathered_size count files blocks all p from f dest g room =
    let few = few_bytes f.length f.blocks g.load.there.blocks g.load.there.on.few in
    ap length (sym g.front) ∙ length-take-le f.length p.memory (omega arith)

move_call : (specs : List ProcessSpec) (blocks : List (List ℕ)) (requests : ℕ) (telling : List Answer → Telling) (r : Pid) (made : ℕ)
    (given : List Answer) (all : List Request) (replies : ℕ) (kept : List (List ℕ)) (from : Pid) (f : File) (dest : ℕ) (k : Kernel)
    (e : Effect) (p y : Process) → IsAtCall specs blocks requests telling r made given replies kept (stages.Move from f dest) k e p y →
    effect k (steps.Call r (calls.MoveTo from dest 0 f.length)) ≡ Some e →
    HasGathered (length blocks) (files_of blocks) kept all p from f dest → CallOutcome k r p (calls.MoveTo from dest 0 f.length) e →
    ServerAt blocks requests telling r (suc made) (given ++ option_to_list (told r e)) all e.after y
unfolding copied_at_once move_begun
move_call specs blocks requests telling r made given all replies kept from f dest k e p y c does g (CallOutcome.refused why bars same) =
    let x = told_refused k r (calls.MoveTo from dest 0 f.length) e p y why c.call same in
    told_more specs blocks requests telling r made given all replies kept (stages.Move from f dest) k e p y c
    (record { answer = answers.Refused why; seen = x.0; ready = x.1 })
    (answers_otherwise (files_of blocks) kept all e.after r from 4 0 0 g.load.serving (not_zero 3))
move_call specs blocks requests telling r made given all replies kept from f dest k e p y c does g (CallOutcome.allowed fit accepts) =
    let d : Call = calls.MoveTo from dest 0 f.length in
    let bytes = bytes_in (range_of 0 f.length) p.memory in
    let tests = four_tests (nat_lt 65536 f.length) (is_none (held k r from)) (not (may_write (held_exchange k r from)))
    (is_granted (held_exchange k r from) dest f.length) (is_own p 0 f.length) refusals.TooLong refusals.NotAwaiting refusals.NoAccess
    refusals.BadRange fit.rest in
    let number = some_not_none (held k r from) tests.0 in
    let only = holds_only k r from number.0 c.known.sound c.known.reached number.1 in
    of_either (λ (x : Effect). effect k (steps.Call r d) ≡ Some x → x.after.procs r ≡ Some y →
    ServerAt blocks requests telling r (suc made) (given ++ option_to_list (told r x)) all x.after y)
    (is_at_once r from f.length) (copied_at_once k r d from dest bytes)
    (begin_move k r p d from (new_move r directions.To dest 0 f.length bytes)) e
    (λ once h does later.
    let q = bind_is (k.procs from) _ e h in
    let memory = with_bytes q.0.memory dest bytes in
    let same = same_Some (seen_answered (with_memory k from q.0 memory) r d answers.Ok) e q.2 in
    let ready = ready_left k r from p q.0 y memory c.call.at c.call.ready q.1 (ap (λ (x : Effect). x.after.procs r) same ∙ later) in
    let moved : IsMoved e.after r from dest bytes = subst (λ (x : Effect). IsMoved x.after r from dest bytes) same
    (at_once_moved once number.0 number.1 tests.1 q.0 q.1) in
    told_more specs blocks requests telling r made given all replies kept (stages.Move from f dest) k e p y c
    (record { answer = answers.Ok; seen = own_told r d answers.Ok e (ap (λ (x : Effect). x.seen) (sym same)); ready = ready })
    (record {
      serving = g.load.serving;
      loaded = λ load done. record {
        file = f;
        asked = g.load.asked;
        number_is = refl;
        long_is = refl;
        size = gathered_size (length blocks) (files_of blocks) kept all p from f dest g c.room;
        moved = subst (λ n. IsMoved e.after r from n (file_bytes kept f)) (sym g.load.place)
            (subst (IsMoved e.after r from dest) g.front moved);
      };
    }))
    (λ later h does after.
    let n = bind_is (held k r from) _ e h in
    let x = bind_is (k.exchanges (name_of from n.0)) _ e n.2 in
    let move = new_move r directions.To dest 0 f.length bytes in
    let name = name_of from n.0 in
    let new : Process = record p { state = states.Blocked d; moving = Some (move_named name (length x.0.moves + 1)) } in
    let same = same_Some (unseen (move_begun k r p d name x.0 move)) e x.2 in
    let left : new ≡ y =
    same_Some new y (sym (put_process_here k.procs r new) ∙ ap (λ (z : Effect). z.after.procs r) same ∙ after) in
    let held_n : HoldsOnly k r from n.0 = holds_only k r from n.0 c.known.sound c.known.reached n.1 in
    subst (λ (z : Effect). ServerAt blocks requests telling r (suc made) (given ++ option_to_list (told r z)) all e.after y) same
    (subst (λ gs. ServerAt blocks requests telling r (suc made) gs all e.after y) (sym (append-nil given))
    (subst (λ (z : Process). ServerAt blocks requests telling r (suc made) given all e.after z) left
    (subst (λ (s : Server). Doing (length blocks) (files_of blocks) r s (suc made) (length given) all e.after new new.state) (sym c.server) (
      (let count = c.count in omega arith),
      record {
        call = refl;
        load = g.load;
        size = gathered_size (length blocks) (files_of blocks) kept all p from f dest g c.room;
        moving = record {
          number = n.0;
          only = only_step k (steps.Call r d) e r from n.0 c.known.sound does (no_take r d) held_n;
          turn = length x.0.moves + 1;
          named = refl;
          move = record {
            exchange = pushed x.0 move;
            is = ap (λ (z : Effect). z.after.exchanges name) (sym same) ∙ put_exchange_here k.exchanges name (pushed x.0 move);
            move = move;
            at = last_pushed x.0 move;
            to = refl;
            place = refl;
            whole = g.front;
          };
        };
      },
    )))))
    accepts does c.call.later
  where
    at_once_moved : is_at_once r from f.length ≡ true → (number : ℕ) → held k r from ≡ Some number →
        is_granted (held_exchange k r from) dest f.length ≡ true → (q : Process) → k.procs from ≡ Some q →
        IsMoved (with_memory k from q (with_bytes q.memory dest (bytes_in (range_of 0 f.length) p.memory))) r from dest
        (bytes_in (range_of 0 f.length) p.memory)
    at_once_moved once number holds granted q at = elim (or_cases (same_host r from) (f.length == 0) once) [
      | inl near ↦ local_moved specs k r from number dest (bytes_in (range_of 0 f.length) p.memory) q c.known holds near at
          (granted_room specs k r from number dest f.length q c.known holds granted at)
      | inr none ↦ IsMoved.nothing (ap (λ n. take n (drop 0 p.memory)) (eqb-true f.length 0 none))
    ]

-- It waits for a request.
receive_call : (specs : List ProcessSpec) (blocks : List (List ℕ)) (requests : ℕ) (telling : List Answer → Telling) (r : Pid) (made : ℕ)
    (given : List Answer) (all : List Request) (replies : ℕ) (kept : List (List ℕ)) (k : Kernel) (e : Effect) (p y : Process) →
    IsAtCall specs blocks requests telling r made given replies kept stages.Receive k e p y →
    CallOutcome k r p (calls.ReceiveSegment 0 BLOCK_BYTES) e →
    ServerAt blocks requests telling r (suc made) (given ++ option_to_list (told r e)) all e.after y
receive_call specs blocks requests telling r made given all replies kept k e p y c (CallOutcome.refused why bars same) =
    let x = told_refused k r (calls.ReceiveSegment 0 BLOCK_BYTES) e p y why c.call same in
    told_more specs blocks requests telling r made given all replies kept stages.Receive k e p y c
    (record { answer = answers.Refused why; seen = x.0; ready = x.1 }) tt
receive_call specs blocks requests telling r made given all replies kept k e p y c (CallOutcome.allowed fit g) =
    let d : Call = calls.ReceiveSegment 0 BLOCK_BYTES in
    let new : Process = record p { state = states.Blocked d } in
    let same = same_Some (unseen (with_state k r p (states.Blocked d))) e g in
    let left : new ≡ y =
    same_Some new y (sym (put_process_here k.procs r new) ∙ ap (λ (x : Effect). x.after.procs r) same ∙ c.call.later) in
    subst (λ (z : Effect). ServerAt blocks requests telling r (suc made) (given ++ option_to_list (told r z)) all e.after y) same
    (subst (λ gs. ServerAt blocks requests telling r (suc made) gs all e.after y) (sym (append-nil given))
    (subst (λ (z : Process). ServerAt blocks requests telling r (suc made) given all e.after z) left
    (subst (λ (s : Server). Doing (length blocks) (files_of blocks) r s (suc made) (length given) all e.after new new.state) (sym c.server)
    ((let count = c.count in omega arith), refl))))

-- Each of its calls.
pub call_on : (specs : List ProcessSpec) (blocks : List (List ℕ)) (requests : ℕ) (telling : List Answer → Telling) (r : Pid) (made : ℕ)
    (given : List Answer) (all : List Request) (replies : ℕ) (kept : List (List ℕ)) (stage : FileServing) (k : Kernel) (c : Call) (e : Effect)
    (p y : Process) → IsAtCall specs blocks requests telling r made given replies kept stage k e p y →
    effect k (steps.Call r c) ≡ Some e → Standing (length blocks) (files_of blocks) r kept all k p stage → stage_call stage ≡ Some c →
    CallOutcome k r p c e → ServerAt blocks requests telling r (suc made) (given ++ option_to_list (told r e)) all e.after y
call_on specs blocks requests telling r made given all replies kept stages.Receive k c e p y is does standing next out =
    receive_call specs blocks requests telling r made given all replies kept k e p y is
    (subst (λ c. CallOutcome k r p c e) (sym (same_Some (calls.ReceiveSegment 0 BLOCK_BYTES) c next)) out)
call_on specs blocks requests telling r made given all replies kept (stages.Load from f page) k c e p y is does standing next out =
    let t = told_load k r 0 BLOCK_BYTES e p y is.call
    (subst (λ c. CallOutcome k r p c e) (sym (same_Some (calls.Load 0 BLOCK_BYTES) c next)) out) in
    told_more specs blocks requests telling r made given all replies kept (stages.Load from f page) k e p y is t
    (loaded_after (length blocks) (files_of blocks) r (telling (given ++ t.answer ∷ [])) kept all e.after y from f page (page_in t.answer)
    standing)
call_on specs blocks requests telling r made given all replies kept (stages.Store from f page dest bytes) k c e p y is does standing next
    out =
    let t = told_store k r 0 bytes e p y is.call (subst (λ c. CallOutcome k r p c e) (sym (same_Some (calls.Store 0 bytes) c next)) out) in
    told_more specs blocks requests telling r made given all replies kept (stages.Store from f page dest bytes) k e p y is t standing
call_on specs blocks requests telling r made given all replies kept (stages.ReplyPage from f page dest) k c e p y is does standing next
    out =
    let d : Call = calls.ReplySegment (reply_of 0 f.number page) from dest 0 BLOCK_BYTES in
    let t = told_replied k r d e p y is.call (give_outcome k r p (reply_of 0 f.number page) from dest 0 BLOCK_BYTES e
    (subst (λ c. CallOutcome k r p c e) (sym (same_Some d c next)) out)) in
    told_more specs blocks requests telling r made given all replies kept (stages.ReplyPage from f page dest) k e p y is t
    (page_after (length blocks) (files_of blocks) r (telling (given ++ t.answer ∷ [])) kept all e.after y requests replies from f page dest
    t.answer)
call_on specs blocks requests telling r made given all replies kept (stages.Gather from f at dest bytes) k c e p y is does standing next
    out =
    gather_call specs blocks requests telling r made given all replies kept from f at dest bytes k e p y is standing
    (subst (λ c. CallOutcome k r p c e) (sym (same_Some (calls.Store (BLOCK_BYTES * at) bytes) c next)) out)
call_on specs blocks requests telling r made given all replies kept (stages.Move from f dest) k c e p y is does standing next out =
    let d : Call = calls.MoveTo from dest 0 f.length in
    let same : c ≡ d = sym (same_Some d c next) in
    move_call specs blocks requests telling r made given all replies kept from f dest k e p y is
    (ap (λ z. effect k (steps.Call r z)) (sym same) ∙ does) standing (subst (λ c. CallOutcome k r p c e) same out)
call_on specs blocks requests telling r made given all replies kept (stages.Reply from code file number) k c e p y is does standing next
    out =
    let d : Call = calls.Reply (reply_of code file number) from in
    let t = told_replied k r d e p y is.call (reply_outcome k r p (reply_of code file number) from e
    (subst (λ c. CallOutcome k r p c e) (sym (same_Some d c next)) out)) in
    told_more specs blocks requests telling r made given all replies kept (stages.Reply from code file number) k e p y is t
    (between_after (length blocks) (files_of blocks) r kept all e.after y requests (one_more requests replies))
call_on specs blocks requests telling r made given all replies kept stages.Exit k c e p y is does standing next out =
    let t = told_exit k r e p y is.call (subst (λ c. CallOutcome k r p c e) (sym (same_Some calls.Exit c next)) out) in
    told_more specs blocks requests telling r made given all replies kept stages.Exit k e p y is t tt
call_on specs blocks requests telling r made given all replies kept stages.Ended k c e p y is does standing next out =
    absurd (none-some c next)

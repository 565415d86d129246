-- A page server after a call of its own.
use Rattle.std.proofs.Common.{◌≡◌, ℕ, suc, ◌+◌, ◌<◌, ◌≤◌, true, false, ◌==◌, ◌&&◌, not, nat_lt, nat_le, List, [], ◌∷◌, ◌++◌, length, Option, Some, None, option_map, option_to_list, refl, sym, ap, subst, ◌∙◌, arith}
use Rattle.std.proofs.lemmas.Bool.{and_parts, cond-true, cond-false, cond_both, eq-eqb, leb-true, le-leb, ltb-true, not-false}
use Rattle.std.proofs.lemmas.List.{length-append}
use Rattle.std.proofs.lemmas.Option.{same_Some, none-some}
use Rattle.vk_types.specs.Types.{Answer, Call, Message, Pid, Process, Refusal}
use Rattle.vk_base.specs.declared.answer.Answer.TheVariants as answers
use Rattle.vk_base.specs.declared.answer.Refusal.TheVariants as refusals
use Rattle.vk_base.specs.declared.call.Call.TheVariants as calls
use Rattle.vk_base.specs.declared.kernel.State.TheVariants as states
use Rattle.vk_base.specs.declared.step.Step.TheVariants as steps
use Rattle.vk_base.specs.Calls.{Effect, unseen, answered as seen_answered, accepted, called, call_refusal, replied as kernel_replied, exited, is_own, released}
use Rattle.vk_base.specs.Kernel.{◌>>=◌, Kernel, name_of, held, is_ready, with_state, with_memory}
use Rattle.vk_base.specs.Pids.{same_pid}
use Rattle.vk_base.specs.Ranges.{range_of, bytes_in, with_bytes}
use Rattle.vk_base.specs.Steps.{effect}
use Rattle.vk_base.proofs.OptionLemmas.{bind_is}
use Rattle.vk_base.proofs.PidLemmas.{same_pid_self}
use Rattle.vk_event.specs.declared.task.TheConstants.{PAGE_BYTES}
use Rattle.vk_base.specs.Messages.{grants_write, segment_of}
use Rattle.vk_pages.specs.Messages.{code_of, page_of, reply_of}
use Rattle.vk_pages.specs.Pages.{with_page}
use Rattle.vk_pages.specs.Servers.{IsServerAfter, answered, between, loaded, one_more, seen, stage_call}
use Rattle.vk_pages.specs.declared.serving.PageServing.{PageServing}
use Rattle.vk_pages.specs.declared.serving.PageServing.TheVariants as stages
use Rattle.vk_pages.proofs.Answering.{after_answer, after_none}
use Rattle.v_laws.specs.Reached.{saw}
use Rattle.v_laws.proofs.MoveLists.{all_bytes}
use Rattle.v_laws.proofs.Sizes.{length-with_bytes}
use Rattle.v_laws.proofs.StepLemmas.{IsFit, fit_is, passes_first}
use Rattle.v_laws.proofs.Tables.{put_process_here}
use Rattle.v_pages.specs.Followed.{answer_in}
use Rattle.v_pages.specs.PageMap.{is_lawful_read, map_after}
use Rattle.v_pages.specs.Requests.{Request}
use Rattle.v_pages.proofs.Asked.{write_done}
use Rattle.v_pages.proofs.Lists.{read_back}
use Rattle.v_pages.proofs.Standing.{Doing, IsGiving, IsLoading, IsReplying, IsServing, IsStoring, Keeps, ServerAt, Standing, keeps_written}

-- What a call may come to.
pub data CallOutcome (k : Kernel) (r : Pid) (p : Process) (c : Call) (e : Effect) : Type 0 where
  refused : (why : Refusal) → call_refusal k r p c ≡ Some why → seen_answered k r c (answers.Refused why) ≡ e → CallOutcome k r p c e
  allowed : IsFit k r p c → accepted k r p c ≡ Some e → CallOutcome k r p c e

outcome_by : (k : Kernel) (r : Pid) (p : Process) (c : Call) (e : Effect) (o : Option Refusal) → call_refusal k r p c ≡ o →
    called k r p c o ≡ Some e → CallOutcome k r p c e
outcome_by k r p c e None fine g = CallOutcome.allowed (fit_is k r p c fine) g
outcome_by k r p c e (Some why) fine g = CallOutcome.refused why fine (same_Some _ e g)

pub outcome_of : (k : Kernel) (r : Pid) (p : Process) (c : Call) (e : Effect) → k.procs r ≡ Some p → effect k (steps.Call r c) ≡ Some e →
    CallOutcome k r p c e
outcome_of k r p c e at g =
    let q = bind_is (k.procs r) _ e g in
    let same : q.0 ≡ p = same_Some q.0 p (sym q.1 ∙ at) in
    outcome_by k r p c e (call_refusal k r p c) refl
    (subst (λ (x : Process). called k r x c (call_refusal k r x c) ≡ Some e) same q.2)

-- A ready process calls.
pub record IsCalling (k : Kernel) (r : Pid) (e : Effect) (p y : Process) : Type 0 where
  pub at : k.procs r ≡ Some p
  pub ready : p.state ≡ states.Ready
  pub later : e.after.procs r ≡ Some y

-- what it sees of the call
abbrev pub told : Pid → Effect → Option Answer
told r e = e.seen >>= answer_in r

pub own_told : (r : Pid) (c : Call) (a : Answer) (e : Effect) → e.seen ≡ saw r c a → told r e ≡ Some a
own_told r c a e is = ap (λ o. o >>= answer_in r) is ∙ cond-true (same_pid r r) (Some a) None (same_pid_self r)

pub same_process : (k : Kernel) (r : Pid) (e : Effect) (p y : Process) → IsCalling k r e p y → e.after.procs r ≡ k.procs r → p ≡ y
same_process k r e p y call same = same_Some p y (sym call.at ∙ sym same ∙ call.later)

pub one_given : (given : List Answer) (a : Answer) → length (given ++ a ∷ []) ≡ length given + 1
one_given given a = length-append given (a ∷ [])

-- a call that is answered at once
pub answer_more : (pages requests made replies more : ℕ) (kept now : List (List ℕ)) (stage next : PageServing) (given : List Answer)
    (a : Answer)
    (o : Option Answer) (all : List Request) (y : Process) → o ≡ Some a → made ≡ length given →
    IsServerAfter kept pages requests replies stage given →
    (length kept ≡ pages → seen now more next ≡ answered requests (seen kept replies stage) a) → y.state ≡ states.Ready →
    Standing pages now all y next → ServerAt pages requests (suc made) (given ++ option_to_list o) all y
answer_more pages requests made replies more kept now stage next given a o all y some count is step ready standing =
    subst (λ o. ServerAt pages requests (suc made) (given ++ option_to_list o) all y) (sym some)
    (record {
      kept = now;
      replies = more;
      stage = next;
      is = after_answer kept now pages requests replies more stage next a step given is;
      doing = subst (Doing pages now all y next (suc made) (length (given ++ a ∷ []))) (sym ready)
          (omega (arith, one_given given a), standing);
    })

-- It waits for a request.
receive_call : (pages requests made replies : ℕ) (kept : List (List ℕ)) (given : List Answer) (all : List Request) (k : Kernel) (r : Pid)
    (e : Effect) (p y : Process) → IsCalling k r e p y → made ≡ length given →
    IsServerAfter kept pages requests replies stages.Receive given → Keeps pages kept (map_after pages all) →
    CallOutcome k r p (calls.ReceiveSegment 0 PAGE_BYTES) e → ServerAt pages requests (suc made) (given ++ option_to_list (told r e)) all y
receive_call pages requests made replies kept given all k r e p y call count is keeps (CallOutcome.refused why bars same) =
    let c : Call = calls.ReceiveSegment 0 PAGE_BYTES in
    let stays = same_process k r e p y call (ap (λ (x : Effect). x.after.procs r) (sym same)) in
    answer_more pages requests made replies replies kept kept stages.Receive stages.Ended given (answers.Refused why) (told r e) all y
    (own_told r c (answers.Refused why) e (ap (λ (x : Effect). x.seen) (sym same))) count is (λ size. refl)
    (ap (λ (z : Process). z.state) (sym stays) ∙ call.ready) tt
receive_call pages requests made replies kept given all k r e p y call count is keeps (CallOutcome.allowed fit g) =
    let c : Call = calls.ReceiveSegment 0 PAGE_BYTES in
    let same = same_Some (unseen (with_state k r p (states.Blocked c))) e g in
    let after : record p { state = states.Blocked c } ≡ y =
    same_Some (record p { state = states.Blocked c }) y
    (sym (put_process_here k.procs r (record p { state = states.Blocked c })) ∙ ap (λ (x : Effect). x.after.procs r) same ∙ call.later) in
    let own : is_own p 0 PAGE_BYTES ≡ true = not-false (is_own p 0 PAGE_BYTES)
    (passes_first (not (is_own p 0 PAGE_BYTES)) refusals.BadRange [] fit.rest).0 in
    let room : PAGE_BYTES ≤ length p.memory = let fits = leb-true (0 + PAGE_BYTES) (length p.memory) own in omega arith in
    subst (λ (x : Effect). ServerAt pages requests (suc made) (given ++ option_to_list (told r x)) all y) same
    (record {
      kept = kept;
      replies = replies;
      stage = stages.Receive;
      is = after_none kept pages requests replies stages.Receive given is;
      doing = subst (λ (z : Process). Doing pages kept all z stages.Receive (suc made) (length (given ++ [])) z.state) after (
        let none = length-append given [] in omega arith,
        record {
          call = refl;
          receives = refl;
          keeps = keeps;
          alive = fit.alive;
          room = room;
        },
      );
    })

-- It loads the bytes of a page.
load_call : (pages requests made replies : ℕ) (kept : List (List ℕ)) (given : List Answer) (all : List Request) (k : Kernel) (r : Pid)
    (e : Effect) (p y : Process) (from : Pid) (page : ℕ) → IsCalling k r e p y → made ≡ length given →
    IsServerAfter kept pages requests replies (stages.Load from page) given → IsLoading pages kept all p from page →
    CallOutcome k r p (calls.Load 0 PAGE_BYTES) e → ServerAt pages requests (suc made) (given ++ option_to_list (told r e)) all y
load_call pages requests made replies kept given all k r e p y from page call count is doing (CallOutcome.refused why bars same) =
    let c : Call = calls.Load 0 PAGE_BYTES in
    let stays = same_process k r e p y call (ap (λ (x : Effect). x.after.procs r) (sym same)) in
    answer_more pages requests made replies replies kept kept (stages.Load from page) stages.Ended given (answers.Refused why) (told r e)
    all y (own_told r c (answers.Refused why) e (ap (λ (x : Effect). x.seen) (sym same))) count is (λ size. refl)
    (ap (λ (z : Process). z.state) (sym stays) ∙ call.ready) tt
load_call pages requests made replies kept given all k r e p y from page call count is doing (CallOutcome.allowed fit g) =
    let c : Call = calls.Load 0 PAGE_BYTES in
    let bytes = bytes_in (range_of 0 PAGE_BYTES) p.memory in
    let same = same_Some (seen_answered k r c (answers.Loaded bytes)) e g in
    let stays = same_process k r e p y call (ap (λ (x : Effect). x.after.procs r) (sym same)) in
    let serving = doing.serving in
    let room = serving.room in
    let size : length bytes ≡ PAGE_BYTES = all_bytes 0 PAGE_BYTES p.memory (le-leb (0 + PAGE_BYTES) (length p.memory) (omega arith)) in
    let done = write_done pages serving.request.message doing.lawful in
    answer_more pages requests made replies replies kept (with_page kept page bytes) (stages.Load from page) (stages.Reply from page 0)
    given (answers.Loaded bytes) (told r e) all y (own_told r c (answers.Loaded bytes) e (ap (λ (x : Effect). x.seen) (sym same)))
    count is
    (λ whole. ap (loaded (seen kept replies (stages.Load from page)) from page)
    (sym (cond-true (length bytes == PAGE_BYTES) (Some bytes) None (eq-eqb (length bytes) PAGE_BYTES size))))
    (ap (λ (z : Process). z.state) (sym stays) ∙ call.ready)
    (subst (λ (z : Process). IsReplying pages (with_page kept page bytes) all z from page 0) stays
    (record {
      serving = serving;
      no_read = done.1;
      told = done.0;
      keeps = subst (λ (x : ℕ × List ℕ). Keeps pages (with_page kept x.0 x.1) (map_after pages all))
          (λ i. (serving.asked i, sym doing.bytes i))
          (keeps_written pages kept all serving.earlier serving.request serving.last doing.lawful
          (ap length (sym doing.bytes) ∙ size) doing.keeps);
    }))

-- It stores the bytes of a page.
abbrev stored_on : (all : List Request) (p : Process) (from : Pid) (page : ℕ) (memory : List ℕ) → length memory ≡ length p.memory →
    IsServing all p from page → IsServing all (record p { memory = memory }) from page
stored_on all p from page memory same s = record {
  earlier = s.earlier;
  request = s.request;
  last = s.last;
  sender = s.sender;
  asked = s.asked;
  alive = s.alive;
  room = subst (λ n. PAGE_BYTES ≤ n) (sym same) s.room;
}

pub never_refused : (k : Kernel) (r : Pid) (p : Process) (start : ℕ) (bytes : List ℕ) (why : Refusal) → p.alive ≡ true →
    is_ready p.state ≡ true → is_own p start (length bytes) ≡ true → call_refusal k r p (calls.Store start bytes) ≡ Some why → ⊥
unfolding call_refusal
never_refused k r p start bytes why alive ready own bars = none-some why (sym (
    cond-false (not p.alive) (Some refusals.Dead) _ (ap not alive)
    ∙ cond-false (not (is_ready p.state)) (Some refusals.Busy) _ (ap not ready)
    ∙ cond-false (not (is_own p start (length bytes))) (Some refusals.BadRange) None (ap not own)) ∙ bars)

store_call : (pages requests made replies : ℕ) (kept : List (List ℕ)) (given : List Answer) (all : List Request) (k : Kernel) (r : Pid)
    (e : Effect) (p y : Process) (from : Pid) (page dest : ℕ) → IsCalling k r e p y → made ≡ length given →
    IsServerAfter kept pages requests replies (stages.Store from page dest) given → (doing : IsStoring pages kept all p from page dest) →
    length (map_after pages doing.serving.earlier page) ≡ PAGE_BYTES →
    CallOutcome k r p (calls.Store 0 (map_after pages doing.serving.earlier page)) e →
    ServerAt pages requests (suc made) (given ++ option_to_list (told r e)) all y
store_call pages requests made replies kept given all k r e p y from page dest call count is doing size
    (CallOutcome.refused why bars same) =
    let bytes = map_after pages doing.serving.earlier page in
    let room = doing.serving.room in
    absurd (never_refused k r p 0 bytes why doing.serving.alive (ap is_ready call.ready)
    (le-leb (0 + length bytes) (length p.memory) (omega arith)) bars)
store_call pages requests made replies kept given all k r e p y from page dest call count is doing size (CallOutcome.allowed fit g) =
    let bytes = map_after pages doing.serving.earlier page in
    let c : Call = calls.Store 0 bytes in
    let memory = with_bytes p.memory 0 bytes in
    let same = same_Some (seen_answered (with_memory k r p memory) r c answers.Ok) e g in
    let after : record p { memory = memory } ≡ y =
    same_Some (record p { memory = memory }) y
    (sym (put_process_here k.procs r (record p { memory = memory })) ∙ ap (λ (x : Effect). x.after.procs r) same ∙ call.later) in
    let room = doing.serving.room in
    let whole : length memory ≡ length p.memory = length-with_bytes p.memory 0 bytes (omega arith) in
    answer_more pages requests made replies replies kept kept (stages.Store from page dest) (stages.ReplyPage from page dest) given
    answers.Ok (told r e) all y (own_told r c answers.Ok e (ap (λ (x : Effect). x.seen) (sym same))) count is (λ size. refl)
    (ap (λ (z : Process). z.state) (sym after) ∙ call.ready)
    (subst (λ (z : Process). IsGiving pages kept all z from page dest) after
    (record {
      storing = record {
        serving = stored_on all p from page memory whole doing.serving;
        lawful = doing.lawful;
        place = doing.place;
        before = doing.before;
        keeps = doing.keeps;
      };
      bytes = ap (λ n. bytes_in (range_of 0 n) memory) (sym size) ∙ read_back p.memory 0 bytes (omega arith);
    }))

-- It replies.
pub replied_same : (k : Kernel) (r : Pid) (c : Call) (to : Pid) (m : Message) (dest : ℕ) (bytes : List ℕ) (e : Effect) →
    kernel_replied k r c to m dest bytes ≡ Some e → (e.after.procs r ≡ k.procs r) × (e.seen ≡ saw r c answers.Ok)
replied_same k r c to m dest bytes e g =
    let number = bind_is (held k r to) _ e g in
    let x = bind_is (k.exchanges (name_of to number.0)) _ e number.2 in
    let same = same_Some _ e x.2 in
    (ap (λ (y : Effect). y.after.procs r) (sym same), ap (λ (y : Effect). y.seen) (sym same))

pub record IsReplied (k : Kernel) (r : Pid) (c : Call) (e : Effect) : Type 0 where
  pub answer : Answer
  pub seen : e.seen ≡ saw r c answer
  pub same : e.after.procs r ≡ k.procs r

pub reply_outcome : (k : Kernel) (r : Pid) (p : Process) (m : Message) (to : Pid) (e : Effect) → CallOutcome k r p (calls.Reply m to) e →
    IsReplied k r (calls.Reply m to) e
reply_outcome k r p m to e (CallOutcome.refused why bars same) = record {
  answer = answers.Refused why;
  seen = ap (λ (x : Effect). x.seen) (sym same);
  same = ap (λ (x : Effect). x.after.procs r) (sym same);
}
reply_outcome k r p m to e (CallOutcome.allowed fit g) =
    let x = replied_same k r (calls.Reply m to) to m 0 [] e g in
    record { answer = answers.Ok; seen = x.1; same = x.0 }

pub give_outcome : (k : Kernel) (r : Pid) (p : Process) (m : Message) (to : Pid) (dest src count : ℕ) (e : Effect) →
    CallOutcome k r p (calls.ReplySegment m to dest src count) e → IsReplied k r (calls.ReplySegment m to dest src count) e
give_outcome k r p m to dest src count e (CallOutcome.refused why bars same) = record {
  answer = answers.Refused why;
  seen = ap (λ (x : Effect). x.seen) (sym same);
  same = ap (λ (x : Effect). x.after.procs r) (sym same);
}
give_outcome k r p m to dest src count e (CallOutcome.allowed fit g) =
    let x = replied_same k r (calls.ReplySegment m to dest src count) to m dest (bytes_in (range_of src count) p.memory) e g in
    record { answer = answers.Ok; seen = x.1; same = x.0 }

-- then it receives again, or ends
replies_on : (pages requests made replies : ℕ) (kept : List (List ℕ)) (stage : PageServing) (given : List Answer) (all : List Request)
    (k : Kernel) (r : Pid) (c : Call) (e : Effect) (p y : Process) → IsCalling k r e p y → made ≡ length given →
    IsServerAfter kept pages requests replies stage given → Keeps pages kept (map_after pages all) → IsReplied k r c e →
    ((a : Answer) → seen kept (one_more requests replies) (between requests (one_more requests replies)) ≡ answered requests
    (seen kept replies stage) a) → ServerAt pages requests (suc made) (given ++ option_to_list (told r e)) all y
replies_on pages requests made replies kept stage given all k r c e p y call count is keeps out step =
    let more = one_more requests replies in
    answer_more pages requests made replies more kept kept stage (between requests more) given out.answer (told r e) all y
    (own_told r c out.answer e out.seen) count is (λ size. step out.answer)
    (ap (λ (z : Process). z.state) (sym (same_process k r e p y call out.same)) ∙ call.ready)
    (cond_both (more == requests) stages.Exit stages.Receive (Standing pages kept all y) (λ t. tt) (λ f. keeps))

-- It exits.
pub exited_ready : (k : Kernel) (r : Pid) (p y : Process) → (exited k r p).procs r ≡ Some y → y.state ≡ p.state
unfolding exited
exited_ready k r p y at = ap (λ (z : Process). z.state)
    (same_Some y (record p { alive = false })
    (sym at ∙ cond-true (same_pid r r) (Some (record p { alive = false })) (option_map (released k r r) (k.procs r)) (same_pid_self r)))

exit_call : (pages requests made replies : ℕ) (kept : List (List ℕ)) (given : List Answer) (all : List Request) (k : Kernel) (r : Pid)
    (e : Effect) (p y : Process) → IsCalling k r e p y → made ≡ length given →
    IsServerAfter kept pages requests replies stages.Exit given → CallOutcome k r p calls.Exit e →
    ServerAt pages requests (suc made) (given ++ option_to_list (told r e)) all y
exit_call pages requests made replies kept given all k r e p y call count is (CallOutcome.refused why bars same) =
    let stays = same_process k r e p y call (ap (λ (x : Effect). x.after.procs r) (sym same)) in
    answer_more pages requests made replies replies kept kept stages.Exit stages.Ended given (answers.Refused why) (told r e) all y
    (own_told r calls.Exit (answers.Refused why) e (ap (λ (x : Effect). x.seen) (sym same))) count is (λ size. refl)
    (ap (λ (z : Process). z.state) (sym stays) ∙ call.ready) tt
exit_call pages requests made replies kept given all k r e p y call count is (CallOutcome.allowed fit g) =
    let same = same_Some (seen_answered (exited k r p) r calls.Exit answers.Ok) e g in
    answer_more pages requests made replies replies kept kept stages.Exit stages.Ended given answers.Ok (told r e) all y
    (own_told r calls.Exit answers.Ok e (ap (λ (x : Effect). x.seen) (sym same))) count is (λ size. refl)
    (exited_ready k r p y (ap (λ (x : Effect). x.after.procs r) same ∙ call.later) ∙ call.ready) tt

-- Each of its calls.
there_of : (pages : ℕ) (m : Message) (page : ℕ) → is_lawful_read pages m ≡ true → page_of m ≡ page → page < pages
there_of pages m page lawful same =
    let all = and_parts (code_of m == 1 && nat_lt (page_of m) pages && grants_write m) (nat_le PAGE_BYTES (segment_of m).len) lawful in
    let three = and_parts (code_of m == 1 && nat_lt (page_of m) pages) (grants_write m) all.0 in
    let two = and_parts (code_of m == 1) (nat_lt (page_of m) pages) three.0 in
    subst (λ n. n < pages) same (ltb-true (page_of m) pages two.1)

pub call_on : (pages requests made replies : ℕ) (kept : List (List ℕ)) (stage : PageServing) (given : List Answer) (all : List Request)
    (k : Kernel) (r : Pid) (c : Call) (e : Effect) (p y : Process) → IsCalling k r e p y → made ≡ length given →
    IsServerAfter kept pages requests replies stage given → Standing pages kept all p stage → stage_call kept stage ≡ Some c →
    CallOutcome k r p c e → ServerAt pages requests (suc made) (given ++ option_to_list (told r e)) all y
call_on pages requests made replies kept stages.Receive given all k r c e p y call count is standing next out =
    receive_call pages requests made replies kept given all k r e p y call count is standing
    (subst (λ c. CallOutcome k r p c e) (sym (same_Some (calls.ReceiveSegment 0 PAGE_BYTES) c next)) out)
call_on pages requests made replies kept (stages.Load from page) given all k r c e p y call count is standing next out =
    load_call pages requests made replies kept given all k r e p y from page call count is standing
    (subst (λ c. CallOutcome k r p c e) (sym (same_Some (calls.Load 0 PAGE_BYTES) c next)) out)
call_on pages requests made replies kept (stages.Store from page dest) given all k r c e p y call count is standing next out =
    let serving = standing.serving in
    let there = there_of pages serving.request.message page standing.lawful serving.asked in
    let bytes = map_after pages serving.earlier page in
    let same : calls.Store 0 bytes ≡ c =
    same_Some (calls.Store 0 bytes) c
    (sym (ap (option_map (λ bytes. calls.Store 0 bytes)) (standing.before.each page there)) ∙ next) in
    store_call pages requests made replies kept given all k r e p y from page dest call count is standing
    (standing.before.whole page there) (subst (λ c. CallOutcome k r p c e) (sym same) out)
call_on pages requests made replies kept (stages.ReplyPage from page dest) given all k r c e p y call count is standing next out =
    let d : Call = calls.ReplySegment (reply_of 0 page) from dest 0 PAGE_BYTES in
    replies_on pages requests made replies kept (stages.ReplyPage from page dest) given all k r d e p y call count is
    standing.storing.keeps
    (give_outcome k r p (reply_of 0 page) from dest 0 PAGE_BYTES e
    (subst (λ c. CallOutcome k r p c e) (sym (same_Some d c next)) out)) (λ a. refl)
call_on pages requests made replies kept (stages.Reply from page code) given all k r c e p y call count is standing next out =
    let d : Call = calls.Reply (reply_of code page) from in
    replies_on pages requests made replies kept (stages.Reply from page code) given all k r d e p y call count is standing.keeps
    (reply_outcome k r p (reply_of code page) from e (subst (λ c. CallOutcome k r p c e) (sym (same_Some d c next)) out)) (λ a. refl)
call_on pages requests made replies kept stages.Exit given all k r c e p y call count is standing next out =
    exit_call pages requests made replies kept given all k r e p y call count is
    (subst (λ c. CallOutcome k r p c e) (sym (same_Some calls.Exit c next)) out)
call_on pages requests made replies kept stages.Ended given all k r c e p y call count is standing next out = absurd (none-some c next)

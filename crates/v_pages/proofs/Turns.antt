-- A page server after any step.
use Rattle.std.proofs.Common.{◌≡◌, ℕ, suc, ◌+◌, ◌≤◌, true, false, min, take, List, [], ◌∷◌, ◌++◌, length, Option, Some, None, option_to_list, refl, sym, ap, subst, ◌∙◌, arith}
use Rattle.std.proofs.lemmas.Bool.{both_ways, cond-true}
use Rattle.std.proofs.lemmas.List.{append-nil, length-append}
use Rattle.std.proofs.lemmas.Option.{same_Some, none-some}
use Rattle.vk_types.specs.Types.{Answer, Call, Pid, Process, State, Step}
use Rattle.vk_base.specs.declared.answer.Answer.TheVariants as answers
use Rattle.vk_base.specs.declared.call.Call.TheVariants as calls
use Rattle.vk_base.specs.declared.kernel.State.TheVariants as states
use Rattle.vk_base.specs.declared.step.Step.TheVariants as steps
use Rattle.vk_base.specs.Calls.{Effect, unseen, answered as seen_answered}
use Rattle.vk_base.specs.Kernel.{◌>>=◌, Kernel, as_receive, receiving, finished_call, with_state}
use Rattle.vk_base.specs.Pids.{same_pid}
use Rattle.vk_base.specs.Ranges.{range_of, bytes_in, with_bytes}
use Rattle.vk_base.specs.Steps.{Taking, effect, taking, taken as kernel_taken, received, with_part, finishing, collecting}
use Rattle.vk_base.proofs.OptionLemmas.{bind_is}
use Rattle.vk_base.proofs.PidLemmas.{same_pid_self}
use Rattle.vk_event.specs.declared.task.TheConstants.{PAGE_BYTES}
use Rattle.vk_pages.specs.Servers.{IsServerAfter, seen, server_call, taken}
use Rattle.vk_pages.specs.declared.serving.PageServing.{PageServing}
use Rattle.vk_pages.specs.declared.serving.PageServing.TheVariants as stages
use Rattle.vk_pages.proofs.Answering.{called_after}
use Rattle.v_laws.specs.Sound.{IsSound}
use Rattle.v_laws.proofs.Sizes.{length-with_bytes, taken_most}
use Rattle.v_laws.proofs.StepLemmas.{finishing_is, taking_is, collecting_is}
use Rattle.v_laws.proofs.Tables.{put_process_here}
use Rattle.v_pages.specs.Followed.{call_by}
use Rattle.v_pages.specs.Requests.{Request, taking_by}
use Rattle.v_pages.proofs.Asked.{asked}
use Rattle.v_pages.proofs.Calling.{answer_more, call_on, outcome_of, own_told, told}
use Rattle.v_pages.proofs.Own.{OwnStep, other_call, other_take, other_told, own_step, which_step}
use Rattle.v_pages.proofs.Standing.{Doing, HasReceived, IsReceiving, ServerAt, Standing}
use Rattle.v_pages.proofs.Touched.{Touched, is_waiting, sending_waits, touched}

-- the request that it takes by a step
abbrev pub request_by : Pid → Kernel → Step → Effect → Option Request
request_by r k s e = do
  t ← taking_by r k s
  p ← e.after.procs r
  Some (record { name = t.name; message = t.exchange.shown; bytes = bytes_in (range_of 0 PAGE_BYTES) p.memory })

-- after so many calls more, these answers and these requests
abbrev pub ServerNext : ℕ → ℕ → ℕ → List Answer → List Request → Option Call → Option Answer → Option Request → Process → Type 0
ServerNext pages requests made given all c a q y =
    ServerAt pages requests (made + length (option_to_list c)) (given ++ option_to_list a) (all ++ option_to_list q) y

next_by : (pages requests made : ℕ) (given : List Answer) (all : List Request) (c d : Option Call) (a b : Option Answer)
    (q w : Option Request)
    (y : Process) → c ≡ d → a ≡ b → q ≡ w → ServerNext pages requests made given all d b w y →
    ServerNext pages requests made given all c a q y
next_by pages requests made given all c d a b q w y cd ab qw next =
    subst (λ z. ServerNext pages requests made given all z a q y) (sym cd)
    (subst (λ z. ServerNext pages requests made given all d z q y) (sym ab)
    (subst (λ z. ServerNext pages requests made given all d b z y) (sym qw) next))

-- Its own call.
pub ready_when : (pages : ℕ) (kept : List (List ℕ)) (all : List Request) (p : Process) (stage : PageServing) (made given : ℕ) (t : State) →
    Doing pages kept all p stage made given t → given ≡ made → t ≡ states.Ready
ready_when pages kept all p stage made given states.Ready doing same = refl
ready_when pages kept all p stage made given (states.Blocked c) doing same = let more = doing.0 in absurd (omega arith)
ready_when pages kept all p stage made given (states.Done c a) doing same = let more = doing.0 in absurd (omega arith)

call_next : (pages requests made : ℕ) (given : List Answer) (all : List Request) (k : Kernel) (r : Pid) (c : Call) (e : Effect)
    (p y : Process) → ServerAt pages requests made given all p → length given ≡ made → server_call pages requests given ≡ Some c →
    k.procs r ≡ Some p → e.after.procs r ≡ Some y → effect k (steps.Call r c) ≡ Some e →
    ServerNext pages requests made given all (Some c) (told r e) None y
call_next pages requests made given all k r c e p y at count next there later does =
    let ready = ready_when pages at.kept all p at.stage made (length given) p.state at.doing count in
    let standing = (subst (Doing pages at.kept all p at.stage made (length given)) ready at.doing).1 in
    let more : suc made ≡ made + 1 = omega arith in
    subst (λ n. ServerAt pages requests n (given ++ option_to_list (told r e)) (all ++ []) y) more
    (subst (λ qs. ServerAt pages requests (suc made) (given ++ option_to_list (told r e)) qs y) (sym (append-nil all))
    (call_on pages requests made at.replies at.kept at.stage given all k r c e p y
    (record { at = there; ready = ready; later = later }) (sym count) at.is standing
    (called_after at.kept pages requests at.replies at.stage given at.is ∙ next) (outcome_of k r p c e there does)))

-- It takes a request.
pub record IsTakingNext (pages : ℕ) (kept : List (List ℕ)) (all : List Request) (p : Process) (stage : PageServing) (made given : ℕ) (c : Call) :
    Type 0 where
  pub more : made ≡ given + 1
  pub call : c ≡ calls.ReceiveSegment 0 PAGE_BYTES
  pub is : IsReceiving pages kept all p stage c

pub waiting_when : (pages : ℕ) (kept : List (List ℕ)) (all : List Request) (p : Process) (stage : PageServing) (made given : ℕ) (t : State)
    (c : Call) → Doing pages kept all p stage made given t → receiving t ≡ Some c → IsTakingNext pages kept all p stage made given c
waiting_when pages kept all p stage made given states.Ready c doing is = absurd (none-some c is)
waiting_when pages kept all p stage made given (states.Blocked d) c doing is =
    let same : calls.ReceiveSegment 0 PAGE_BYTES ≡ c =
    same_Some (calls.ReceiveSegment 0 PAGE_BYTES) c (ap as_receive (sym doing.1.call) ∙ is) in
    let rest = doing.1 in
    record {
      more = doing.0;
      call = sym same;
      is = record { call = sym same; receives = rest.receives; keeps = rest.keeps; alive = rest.alive; room = rest.room };
    }
waiting_when pages kept all p stage made given (states.Done d a) c doing is = absurd (none-some c is)

-- what a Take leaves of the server
pub after_take : (k : Kernel) (r : Pid) (t : Taking) (y : Process) → (kernel_taken k r t).procs r ≡ Some y →
    record t.process {
      memory = with_part t.call t.exchange t.process.memory;
      state = states.Done t.call (received t.call t.name.sender t.exchange);
    } ≡ y
unfolding kernel_taken
after_take k r t y at = same_Some _ y (sym (put_process_here k.procs r (record t.process {
  memory = with_part t.call t.exchange t.process.memory;
  state = states.Done t.call (received t.call t.name.sender t.exchange);
})) ∙ at)

-- What a process takes by a Take of its own.
pub record IsTakeBy (k : Kernel) (r : Pid) (e : Effect) (p y : Process) : Type 0 where
  pub take : Taking
  pub takes : taking k r ≡ Some take
  pub own : take.process ≡ p
  pub now : record take.process {
    memory = with_part take.call take.exchange take.process.memory;
    state = states.Done take.call (received take.call take.name.sender take.exchange);
  } ≡ y
  pub asks : request_by r k (steps.Take r) e ≡
      Some (record { name = take.name; message = take.exchange.shown; bytes = bytes_in (range_of 0 PAGE_BYTES) y.memory })
  pub sees_none : told r e ≡ None

pub take_by : (k : Kernel) (r : Pid) (e : Effect) (p y : Process) → k.procs r ≡ Some p → e.after.procs r ≡ Some y →
    effect k (steps.Take r) ≡ Some e → IsTakeBy k r e p y
take_by k r e p y there later does =
    let found = bind_is (taking k r) (λ t. Some (unseen (kernel_taken k r t))) e does in
    record {
      take = found.0;
      takes = found.1;
      own = same_Some found.0.process p (sym (taking_is k r found.0 found.1).process ∙ there);
      now = after_take k r found.0 y (ap (λ (x : Effect). x.after.procs r) (same_Some _ e found.2) ∙ later);
      asks = ap (λ o. o >>= λ (t : Taking). e.after.procs r >>= λ (p : Process).
          Some (record { name = t.name; message = t.exchange.shown; bytes = bytes_in (range_of 0 PAGE_BYTES) p.memory }))
          (cond-true (same_pid r r) (taking k r) None (same_pid_self r) ∙ found.1)
          ∙ ap (λ o. o >>= λ (p : Process).
          Some (record {
            name = found.0.name;
            message = found.0.exchange.shown;
            bytes = bytes_in (range_of 0 PAGE_BYTES) p.memory;
          })) later;
      sees_none = ap (told r) (sym (same_Some _ e found.2));
    }

-- What it collects by a Collect.
pub record IsCollectBy (k : Kernel) (r : Pid) (e : Effect) (p y : Process) : Type 0 where
  pub call : Call
  pub answer : Answer
  pub done : finished_call p.state ≡ Some (call, answer)
  pub after : record p { state = states.Ready } ≡ y
  pub sees : told r e ≡ Some answer

pub collect_by : (k : Kernel) (r : Pid) (e : Effect) (p y : Process) → k.procs r ≡ Some p → e.after.procs r ≡ Some y →
    effect k (steps.Collect r) ≡ Some e → IsCollectBy k r e p y
collect_by k r e p y there later does =
    let d = bind_is (collecting k r) _ e does in
    let is = collecting_is k r d.0 d.1 in
    let own : d.0.process ≡ p = same_Some d.0.process p (sym is.process ∙ there) in
    let same = same_Some (seen_answered (with_state k r d.0.process states.Ready) r d.0.call d.0.answer) e d.2 in
    record {
      call = d.0.call;
      answer = d.0.answer;
      done = ap (λ (z : Process). finished_call z.state) (sym own) ∙ is.done;
      after = ap (λ (z : Process). record z { state = states.Ready }) (sym own)
          ∙ same_Some (record d.0.process { state = states.Ready }) y
          (sym (put_process_here k.procs r (record d.0.process { state = states.Ready })) ∙ ap (λ (x : Effect). x.after.procs r) same
          ∙ later);
      sees = own_told r d.0.call d.0.answer e (ap (λ (x : Effect). x.seen) (sym same));
    }

part_size : (memory part : List ℕ) → PAGE_BYTES ≤ length memory →
    length (with_bytes memory 0 (take PAGE_BYTES part)) ≡ length memory
part_size memory part room = let most = taken_most PAGE_BYTES part in
    length-with_bytes memory 0 (take PAGE_BYTES part) (omega arith)

take_next : (pages requests made : ℕ) (given : List Answer) (all : List Request) (k : Kernel) (r : Pid) (e : Effect) (p y : Process) →
    ServerAt pages requests made given all p → k.procs r ≡ Some p → e.after.procs r ≡ Some y → effect k (steps.Take r) ≡ Some e →
    ServerNext pages requests made given all None (told r e) (request_by r k (steps.Take r) e) y
take_next pages requests made given all k r e p y at there later does =
    next_by pages requests made given all None None (told r e) None (request_by r k (steps.Take r) e) (Some q) y refl b.sees_none b.asks
    (record {
      kept = at.kept;
      replies = at.replies;
      stage = at.stage;
      is = subst (IsServerAfter at.kept pages requests at.replies at.stage) (sym (append-nil given)) at.is;
      doing = subst (Doing pages at.kept (all ++ q ∷ []) y at.stage (made + 0) (length (given ++ []))) (sym state) (
        let none = length-append given [] in
            let more = waits.more in
            omega arith,
        record {
          receives = waits.is.receives;
          earlier = all;
          request = q;
          last = refl;
          count = min PAGE_BYTES (length t.exchange.part);
          answer = refl;
          keeps = waits.is.keeps;
          bytes = refl;
          alive = ap (λ (z : Process). z.alive) (sym after) ∙ waits.is.alive;
          room = subst (λ n. PAGE_BYTES ≤ n)
              (sym (ap (λ (z : Process). length z.memory) (sym after) ∙ part_size p.memory t.exchange.part waits.is.room))
              waits.is.room;
        },
      );
    })
  where
    b : IsTakeBy k r e p y
    b = take_by k r e p y there later does

    t : Taking
    t = b.take

    waits : IsTakingNext pages at.kept all p at.stage made (length given) t.call
    waits = waiting_when pages at.kept all p at.stage made (length given) p.state t.call at.doing
        (ap (λ (z : Process). receiving z.state) (sym b.own) ∙ (taking_is k r t b.takes).call)

    after : record p {
      memory = with_bytes p.memory 0 (take PAGE_BYTES t.exchange.part);
      state =
          states.Done (calls.ReceiveSegment 0 PAGE_BYTES)
          (answers.ReceivedSegment t.name.sender t.exchange.shown (min PAGE_BYTES (length t.exchange.part)));
    } ≡ y
    after = (λ i. record (sym b.own i) {
      memory = with_part (sym waits.call i) t.exchange (sym b.own i).memory;
      state = states.Done (sym waits.call i) (received (sym waits.call i) t.name.sender t.exchange);
    }) ∙ b.now

    state : y.state ≡ states.Done (calls.ReceiveSegment 0 PAGE_BYTES)
        (answers.ReceivedSegment t.name.sender t.exchange.shown (min PAGE_BYTES (length t.exchange.part)))
    state = ap (λ (z : Process). z.state) (sym after)

    q : Request
    q = record { name = t.name; message = t.exchange.shown; bytes = bytes_in (range_of 0 PAGE_BYTES) y.memory }

-- It collects a request.
record IsCollected (pages : ℕ) (kept : List (List ℕ)) (all : List Request) (p : Process) (stage : PageServing) (made given : ℕ) (a : Answer) :
    Type 0 where
  more : made ≡ given + 1
  is : HasReceived pages kept all p stage a

collected_when : (pages : ℕ) (kept : List (List ℕ)) (all : List Request) (p : Process) (stage : PageServing) (made given : ℕ) (t : State)
    (d : Call × Answer) → Doing pages kept all p stage made given t → finished_call t ≡ Some d →
    IsCollected pages kept all p stage made given d.1
collected_when pages kept all p stage made given states.Ready d doing is = absurd (none-some d is)
collected_when pages kept all p stage made given (states.Blocked c) d doing is = absurd (none-some d is)
collected_when pages kept all p stage made given (states.Done c a) d doing is = record {
  more = doing.0;
  is = subst (HasReceived pages kept all p stage) (ap (λ (z : Call × Answer). z.1) (same_Some (c, a) d is)) doing.1;
}

-- what it does with it
collected_on : (pages requests made replies : ℕ) (kept : List (List ℕ)) (given : List Answer) (all : List Request) (p y : Process)
    (stage : PageServing) (a : Answer) (o : Option Answer) → o ≡ Some a → IsServerAfter kept pages requests replies stage given →
    IsCollected pages kept all p stage made (length given) a → record p { state = states.Ready } ≡ y →
    ServerAt pages requests made (given ++ option_to_list o) all y
collected_on pages requests made replies kept given all p y stage a o some is got after =
    let h = got.is in
    let m = h.request.message in
    let from = h.request.name.sender in
    let more : suc (length given) ≡ made = let one = got.more in omega arith in
    subst (λ n. ServerAt pages requests n (given ++ option_to_list o) all y) more
    (answer_more pages requests (length given) replies replies kept kept stages.Receive (taken pages from m) given
    (answers.ReceivedSegment from m h.count) o all y (some ∙ ap (λ z. Some z) h.answer) refl
    (subst (λ s. IsServerAfter kept pages requests replies s given) h.receives is)
    (λ size. ap (λ n. seen kept replies (taken n from m)) (sym size))
    (ap (λ (z : Process). z.state) (sym after))
    (subst (λ (z : Process). Standing pages kept all z (taken pages from m)) after
    (asked pages kept all (record p { state = states.Ready }) h.earlier h.request h.last h.alive h.room h.bytes h.keeps)))

collect_next : (pages requests made : ℕ) (given : List Answer) (all : List Request) (k : Kernel) (r : Pid) (e : Effect) (p y : Process) →
    ServerAt pages requests made given all p → k.procs r ≡ Some p → e.after.procs r ≡ Some y → effect k (steps.Collect r) ≡ Some e →
    ServerNext pages requests made given all None (told r e) None y
collect_next pages requests made given all k r e p y at there later does =
    let b = collect_by k r e p y there later does in
    let got = collected_when pages at.kept all p at.stage made (length given) p.state (b.call, b.answer) at.doing b.done in
    let none : made ≡ made + 0 = omega arith in
    subst (λ n. ServerAt pages requests n (given ++ option_to_list (told r e)) (all ++ []) y) none
    (subst (λ qs. ServerAt pages requests made (given ++ option_to_list (told r e)) qs y) (sym (append-nil all))
    (collected_on pages requests made at.replies at.kept given all p y at.stage b.answer (told r e) b.sees at.is got b.after))

-- Others leave it alone.
not_waiting : (pages : ℕ) (kept : List (List ℕ)) (all : List Request) (p : Process) (stage : PageServing) (made given : ℕ) (t : State) →
    Doing pages kept all p stage made given t → is_waiting t ≡ false
not_waiting pages kept all p stage made given states.Ready doing = refl
not_waiting pages kept all p stage made given (states.Blocked c) doing = ap (λ c. is_waiting (states.Blocked c)) doing.1.call
not_waiting pages kept all p stage made given (states.Done c a) doing = refl

pub own_self : (r : Pid) (s t : Step) → s ≡ t → own_step r t ≡ same_pid r r → own_step r s ≡ true
own_self r s t same own = ap (own_step r) same ∙ own ∙ same_pid_self r

pub finishing_waits : (k : Kernel) (r : Pid) (e : Effect) (p : Process) → k.procs r ≡ Some p → effect k (steps.Finish r) ≡ Some e →
    is_waiting p.state ≡ true
finishing_waits k r e p there does =
    let f = bind_is (finishing k r) _ e does in
    let is = finishing_is k r f.0 f.1 in
    ap (λ (z : Process). is_waiting z.state) (same_Some p f.0.process (sym there ∙ is.process))
    ∙ sending_waits f.0.process.state (f.0.target, f.0.message) is.send

pub left_alone : (k : Kernel) (r : Pid) (s : Step) (e : Effect) (p y : Process) → own_step r s ≡ false → is_waiting p.state ≡ false →
    k.procs r ≡ Some p → effect k s ≡ Some e → Touched k s r p y → p ≡ y
left_alone k r s e p y other idle there does (Touched.rests same) = sym same
left_alone k r s e p y other idle there does (Touched.makes c step still none) =
    absurd (both_ways (own_step r s) other (own_self r s (steps.Call r c) step refl))
left_alone k r s e p y other idle there does (Touched.takes step still none) =
    absurd (both_ways (own_step r s) other (own_self r s (steps.Take r) step refl))
left_alone k r s e p y other idle there does (Touched.collects step still none) =
    absurd (both_ways (own_step r s) other (own_self r s (steps.Collect r) step refl))
left_alone k r s e p y other idle there does (Touched.finishes step over) =
    absurd (both_ways (is_waiting p.state) idle (finishing_waits k r e p there (ap (effect k) (sym step) ∙ does)))
left_alone k r s e p y other idle there does (Touched.waits w none kept on stays) = absurd (both_ways (is_waiting p.state) idle w)

others_next : (pages requests made : ℕ) (given : List Answer) (all : List Request) (p y : Process) →
    ServerAt pages requests made given all p →
    p ≡ y → ServerNext pages requests made given all None None None y
others_next pages requests made given all p y at same =
    let none : made ≡ made + 0 = omega arith in
    subst (λ n. ServerAt pages requests n (given ++ []) (all ++ []) y) none
    (subst (λ gs. ServerAt pages requests made gs (all ++ []) y) (sym (append-nil given))
    (subst (λ qs. ServerAt pages requests made given qs y) (sym (append-nil all))
    (subst (ServerAt pages requests made given all) same at)))

-- After any step.
abbrev pub MayCall : (List Answer → Option Call) → ℕ → List Answer → Option Call → Type 0
MayCall task made given o = (c : Call) → o ≡ Some c → (length given ≡ made) × (task given ≡ Some c)

next_step : (pages requests made : ℕ) (given : List Answer) (all : List Request) (k : Kernel) (r : Pid) (s : Step) (e : Effect)
    (p y : Process) → OwnStep r s → IsSound k → ServerAt pages requests made given all p → k.procs r ≡ Some p →
    e.after.procs r ≡ Some y → effect k s ≡ Some e → MayCall (server_call pages requests) made given (call_by r s) →
    ServerNext pages requests made given all (call_by r s) (told r e) (request_by r k s e) y
next_step pages requests made given all k r s e p y (OwnStep.makes c step) sound at there later does may =
    let calls : call_by r s ≡ Some c = ap (call_by r) step ∙ cond-true (same_pid r r) (Some c) None (same_pid_self r) in
    let called = may c calls in
    next_by pages requests made given all (call_by r s) (Some c) (told r e) (told r e) (request_by r k s e) None y calls refl
    (ap (λ z. request_by r k z e) step)
    (call_next pages requests made given all k r c e p y at called.0 called.1 there later (ap (effect k) (sym step) ∙ does))
next_step pages requests made given all k r s e p y (OwnStep.takes step) sound at there later does may =
    next_by pages requests made given all (call_by r s) None (told r e) (told r e) (request_by r k s e) (request_by r k (steps.Take r) e) y
    (ap (call_by r) step) refl (ap (λ z. request_by r k z e) step)
    (take_next pages requests made given all k r e p y at there later (ap (effect k) (sym step) ∙ does))
next_step pages requests made given all k r s e p y (OwnStep.collects step) sound at there later does may =
    next_by pages requests made given all (call_by r s) None (told r e) (told r e) (request_by r k s e) None y
    (ap (call_by r) step) refl (ap (λ z. request_by r k z e) step)
    (collect_next pages requests made given all k r e p y at there later (ap (effect k) (sym step) ∙ does))
next_step pages requests made given all k r s e p y (OwnStep.others other) sound at there later does may =
    let idle = not_waiting pages at.kept all p at.stage made (length given) p.state at.doing in
    next_by pages requests made given all (call_by r s) None (told r e) None (request_by r k s e) None y
    (other_call r s other) (other_told r k s e other does)
    (ap (λ o. o >>= λ (t : Taking). e.after.procs r >>= λ (p : Process).
    Some (record { name = t.name; message = t.exchange.shown; bytes = bytes_in (range_of 0 PAGE_BYTES) p.memory }))
    (other_take r k s other))
    (others_next pages requests made given all p y at
    (left_alone k r s e p y other idle there does (touched k s e sound does r p y there later)))

pub server_next : (pages requests made : ℕ) (given : List Answer) (all : List Request) (k : Kernel) (r : Pid) (s : Step) (e : Effect)
    (p y : Process) → IsSound k → ServerAt pages requests made given all p → k.procs r ≡ Some p → e.after.procs r ≡ Some y →
    effect k s ≡ Some e → MayCall (server_call pages requests) made given (call_by r s) →
    ServerNext pages requests made given all (call_by r s) (told r e) (request_by r k s e) y
server_next pages requests made given all k r s e p y sound at there later does may =
    next_step pages requests made given all k r s e p y (which_step r s) sound at there later does may

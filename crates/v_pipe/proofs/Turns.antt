-- A pipe server after any step, and at each place of a run.
use Rattle.std.proofs.Common.{◌≡◌, ℕ, suc, ◌+◌, false, List, [], ◌++◌, length, slice_get, Option, Some, None, option_map, option_to_list, refl, sym, ap, subst, ◌∙◌, append-nil, arith}
use Rattle.std.specs.Prelude.{find}
use Rattle.std.proofs.lemmas.Bool.{cond-true}
use Rattle.std.proofs.lemmas.List.{length-append}
use Rattle.std.proofs.lemmas.Option.{same_Some, none-some}
use Rattle.vk_types.specs.Types.{Answer, Call, Pid, Process, ProcessSpec, State, Step}
use Rattle.vk_base.specs.declared.call.Call.TheVariants as calls
use Rattle.vk_base.specs.declared.kernel.State.TheVariants as states
use Rattle.vk_base.specs.declared.limits.TheConstants.{SEGMENT_BYTES}
use Rattle.vk_base.specs.declared.step.Step.TheVariants as steps
use Rattle.vk_base.specs.Calls.{Effect, unseen, answered as seen_answered}
use Rattle.vk_base.specs.Kernel.{◌>>=◌, Kernel, as_receive, finished_call, initial_kernel, receiving, with_state}
use Rattle.vk_base.specs.Pids.{same_pid}
use Rattle.vk_base.specs.Settings.{is_process}
use Rattle.vk_base.specs.Steps.{Run, collecting, effect, taken as kernel_taken, taking}
use Rattle.vk_base.proofs.OptionLemmas.{bind_is}
use Rattle.vk_base.proofs.PidLemmas.{same_pid_self}
use Rattle.v_laws.specs.Places.{before}
use Rattle.v_laws.specs.Sound.{IsSound}
use Rattle.v_laws.proofs.PlaceLemmas.{along}
use Rattle.v_laws.proofs.RunLemmas.{run_nothing}
use Rattle.v_laws.proofs.SoundLemmas.{initial_ready}
use Rattle.v_laws.proofs.StepLemmas.{collecting_is, taking_is}
use Rattle.v_laws.proofs.Tables.{put_process_here}
use Rattle.v_pages.specs.Followed.{FollowsTask, answer_at, answers_before, call_at, call_by, calls_before, up_to}
use Rattle.v_pages.proofs.Calling.{outcome_of, own_told, told}
use Rattle.v_pages.proofs.Collected.{was_there}
use Rattle.v_pages.proofs.Lists.{up_to_none}
use Rattle.v_pages.proofs.Own.{OwnStep, other_call, other_told, which_step}
use Rattle.v_pages.proofs.Places.{answer_here}
use Rattle.v_pages.proofs.Seen.{answer_none}
use Rattle.v_pages.proofs.Touched.{is_waiting, touched}
use Rattle.v_pages.proofs.Turns.{after_take, left_alone}
use Rattle.vk_pipe.specs.declared.serving.PipeServing.TheVariants as stages
use Rattle.vk_pipe.specs.Pipes.{Server, empty_pipe, new_server, pipe_call, server_after}
use Rattle.v_pipe.proofs.Standing.{Doing, Gives, PipeAt, call_on, collected_on, gives_nothing, settled_none}

-- after so many calls more, and these answers
abbrev pub PipeNext : ℕ → ℕ → List Answer → Option Call → Option Answer → Process → Type 0
PipeNext requests made given c a y = PipeAt requests (made + length (option_to_list c)) (given ++ option_to_list a) y

next_by : (requests made : ℕ) (given : List Answer) (c d : Option Call) (a b : Option Answer) (y : Process) → c ≡ d → a ≡ b →
    PipeNext requests made given d b y → PipeNext requests made given c a y
next_by requests made given c d a b y cd ab next =
    subst (λ z. PipeNext requests made given z a y) (sym cd) (subst (λ z. PipeNext requests made given d z y) (sym ab) next)

-- Its own call.
pub ready_when : (s : Server) (p : Process) (made given : ℕ) (t : State) → Doing s p made given t → given ≡ made → t ≡ states.Ready
ready_when s p made given states.Ready doing same = refl
ready_when s p made given (states.Blocked c) doing same = absurd (omega (arith, doing.0, same))
ready_when s p made given (states.Done c a) doing same = absurd (omega (arith, doing.0, same))

call_next : (requests made : ℕ) (given : List Answer) (k : Kernel) (r : Pid) (c : Call) (e : Effect) (p y : Process) →
    PipeAt requests made given p → length given ≡ made → pipe_call requests given ≡ Some c → k.procs r ≡ Some p →
    e.after.procs r ≡ Some y → effect k (steps.Call r c) ≡ Some e → PipeNext requests made given (Some c) (told r e) y
call_next requests made given k r c e p y doing count next there later does =
    let s = server_after requests given in
    let ready = ready_when s p made (length given) p.state doing count in
    let more : suc made ≡ made + 1 = omega arith in
    subst (λ n. PipeAt requests n (given ++ option_to_list (told r e)) y) more
    (call_on requests made given s.pipe s.stage k r c e p y refl (record { at = there; ready = ready; later = later }) (sym count) next
    (outcome_of k r p c e there does))

-- It takes a request.
pub record IsReceiving (s : Server) (made given : ℕ) (c : Call) : Type 0 where
  pub more : made ≡ given + 1
  pub receives : s.stage ≡ stages.Receive
  pub call : c ≡ calls.ReceiveSegment 0 SEGMENT_BYTES

pub receiving_when : (s : Server) (p : Process) (made given : ℕ) (t : State) (c : Call) → Doing s p made given t → receiving t ≡ Some c →
    IsReceiving s made given c
receiving_when s p made given states.Ready c doing is = absurd (none-some c is)
receiving_when s p made given (states.Blocked d) c doing is = record {
  more = doing.0;
  receives = doing.1;
  call = sym (same_Some (calls.ReceiveSegment 0 SEGMENT_BYTES) c (ap as_receive (sym doing.2) ∙ is));
}
receiving_when s p made given (states.Done d a) c doing is = absurd (none-some c is)

take_next : (requests made : ℕ) (given : List Answer) (k : Kernel) (r : Pid) (e : Effect) (p y : Process) → PipeAt requests made given p →
    k.procs r ≡ Some p → e.after.procs r ≡ Some y → effect k (steps.Take r) ≡ Some e → PipeNext requests made given None (told r e) y
take_next requests made given k r e p y doing there later does =
    let s = server_after requests given in
    let f = bind_is (taking k r) (λ t. Some (unseen (kernel_taken k r t))) e does in
    let t = f.0 in
    let is = taking_is k r t f.1 in
    let own : t.process ≡ p = same_Some t.process p (sym is.process ∙ there) in
    let waits = receiving_when s p made (length given) p.state t.call doing (ap (λ (z : Process). receiving z.state) (sym own) ∙ is.call) in
    let after = after_take k r t y (ap (λ (x : Effect). x.after.procs r) (same_Some _ e f.2) ∙ later) in
    next_by requests made given None None (told r e) None y refl (ap (told r) (sym (same_Some _ e f.2)))
    (subst (λ (gs : List Answer). PipeAt requests (made + 0) gs y) (sym (append-nil given))
    (subst (λ (z : Process). PipeAt requests (made + 0) given z) after
    (omega (arith, waits.more), waits.receives)))

-- It collects a request.
pub record HasReceived (s : Server) (made given : ℕ) : Type 0 where
  pub more : made ≡ given + 1
  pub receives : s.stage ≡ stages.Receive

pub received_when : (s : Server) (p : Process) (made given : ℕ) (t : State) (d : Call × Answer) → Doing s p made given t →
    finished_call t ≡ Some d → HasReceived s made given
received_when s p made given states.Ready d doing is = absurd (none-some d is)
received_when s p made given (states.Blocked c) d doing is = absurd (none-some d is)
received_when s p made given (states.Done c a) d doing is = record { more = doing.0; receives = doing.1 }

-- what a Collect leaves of a process, and tells it
pub record IsCollected (k : Kernel) (r : Pid) (e : Effect) (p y : Process) : Type 0 where
  pub call : Call
  pub answer : Answer
  pub done : finished_call p.state ≡ Some (call, answer)
  pub tells : told r e ≡ Some answer
  pub after : record p { state = states.Ready } ≡ y

pub collected_is : (k : Kernel) (r : Pid) (e : Effect) (p y : Process) → k.procs r ≡ Some p → e.after.procs r ≡ Some y →
    effect k (steps.Collect r) ≡ Some e → IsCollected k r e p y
collected_is k r e p y there later does =
    let d = bind_is (collecting k r) _ e does in
    let is = collecting_is k r d.0 d.1 in
    let own : d.0.process ≡ p = same_Some d.0.process p (sym is.process ∙ there) in
    let same = same_Some (seen_answered (with_state k r d.0.process states.Ready) r d.0.call d.0.answer) e d.2 in
    record {
      call = d.0.call;
      answer = d.0.answer;
      done = ap (λ (z : Process). finished_call z.state) (sym own) ∙ is.done;
      tells = own_told r d.0.call d.0.answer e (ap (λ (x : Effect). x.seen) (sym same));
      after = ap (λ (z : Process). record z { state = states.Ready }) (sym own)
          ∙ same_Some (record d.0.process { state = states.Ready }) y
          (sym (put_process_here k.procs r (record d.0.process { state = states.Ready }))
          ∙ ap (λ (x : Effect). x.after.procs r) same ∙ later);
    }

collect_next : (requests made : ℕ) (given : List Answer) (k : Kernel) (r : Pid) (e : Effect) (p y : Process) →
    PipeAt requests made given p → k.procs r ≡ Some p → e.after.procs r ≡ Some y → effect k (steps.Collect r) ≡ Some e →
    PipeNext requests made given None (told r e) y
collect_next requests made given k r e p y doing there later does =
    let s = server_after requests given in
    let c = collected_is k r e p y there later does in
    let got = received_when s p made (length given) p.state (c.call, c.answer) doing c.done in
    let none : made ≡ made + 0 = omega arith in
    subst (λ n. PipeAt requests n (given ++ option_to_list (told r e)) y) none
    (collected_on requests made given s.pipe c.answer (told r e) y (λ i. record { pipe = s.pipe; stage = got.receives i }) c.tells got.more
    (ap (λ (z : Process). z.state) (sym c.after)))

-- Others leave it alone.
pub not_waiting : (s : Server) (p : Process) (made given : ℕ) (t : State) → Doing s p made given t → is_waiting t ≡ false
not_waiting s p made given states.Ready doing = refl
not_waiting s p made given (states.Blocked c) doing = ap (λ c. is_waiting (states.Blocked c)) doing.2
not_waiting s p made given (states.Done c a) doing = refl

others_next : (requests made : ℕ) (given : List Answer) (p y : Process) → PipeAt requests made given p → p ≡ y →
    PipeNext requests made given None None y
others_next requests made given p y at same =
    let none : made ≡ made + 0 = omega arith in
    subst (λ n. PipeAt requests n (given ++ []) y) none
    (subst (λ gs. PipeAt requests made gs y) (sym (append-nil given)) (subst (PipeAt requests made given) same at))

-- After any step.
abbrev pub MayCall : ℕ → ℕ → List Answer → Option Call → Type 0
MayCall requests made given o = (c : Call) → o ≡ Some c → (length given ≡ made) × (pipe_call requests given ≡ Some c)

pipe_next : (requests made : ℕ) (given : List Answer) (k : Kernel) (r : Pid) (s : Step) (e : Effect) (p y : Process) → OwnStep r s →
    IsSound k → PipeAt requests made given p → k.procs r ≡ Some p → e.after.procs r ≡ Some y → effect k s ≡ Some e →
    MayCall requests made given (call_by r s) → PipeNext requests made given (call_by r s) (told r e) y
pipe_next requests made given k r s e p y (OwnStep.makes c step) sound at there later does may =
    let calls : call_by r s ≡ Some c = ap (call_by r) step ∙ cond-true (same_pid r r) (Some c) None (same_pid_self r) in
    let called = may c calls in
    next_by requests made given (call_by r s) (Some c) (told r e) (told r e) y calls refl
    (call_next requests made given k r c e p y at called.0 called.1 there later (ap (effect k) (sym step) ∙ does))
pipe_next requests made given k r s e p y (OwnStep.takes step) sound at there later does may =
    next_by requests made given (call_by r s) None (told r e) (told r e) y (ap (call_by r) step) refl
    (take_next requests made given k r e p y at there later (ap (effect k) (sym step) ∙ does))
pipe_next requests made given k r s e p y (OwnStep.collects step) sound at there later does may =
    next_by requests made given (call_by r s) None (told r e) (told r e) y (ap (call_by r) step) refl
    (collect_next requests made given k r e p y at there later (ap (effect k) (sym step) ∙ does))
pipe_next requests made given k r s e p y (OwnStep.others other) sound at there later does may =
    let idle = not_waiting (server_after requests given) p made (length given) p.state at in
    next_by requests made given (call_by r s) None (told r e) None y (other_call r s other) (other_told r k s e other does)
    (others_next requests made given p y at (left_alone k r s e p y other idle there does (touched k s e sound does r p y there later)))

-- At each place.
abbrev pub PipeBefore : ℕ → List ProcessSpec → List Step → Pid → ℕ → Process → Type 0
PipeBefore requests specs ss r i p = PipeAt requests (length (calls_before ss r i)) (answers_before specs ss r i) p

joined : (requests : ℕ) (specs : List ProcessSpec) (ss : List Step) (r : Pid) (i : ℕ) (c : Option Call) (a : Option Answer) (y : Process) →
    call_at ss r i ≡ c → answer_at specs ss r i ≡ a →
    PipeNext requests (length (calls_before ss r i)) (answers_before specs ss r i) c a y → PipeBefore requests specs ss r (suc i) y
unfolding up_to
joined requests specs ss r i c a y is_c is_a next =
    subst (λ n. PipeAt requests n (answers_before specs ss r (suc i)) y)
    (sym (length-append (calls_before ss r i) (option_to_list (call_at ss r i))))
    (subst (λ z. PipeAt requests (length (calls_before ss r i) + length (option_to_list z)) (answers_before specs ss r (suc i)) y)
    (sym is_c)
    (subst (λ z. PipeAt requests (length (calls_before ss r i) + length (option_to_list c))
    (answers_before specs ss r i ++ option_to_list z) y) (sym is_a) next))

-- nothing stands there
none_there : (requests : ℕ) (specs : List ProcessSpec) (ss : List Step) (r : Pid) (i : ℕ) (p : Process) →
    slice_get ss i ≡ None → PipeBefore requests specs ss r i p → PipeBefore requests specs ss r (suc i) p
none_there requests specs ss r i p none is =
    subst (λ cs. PipeAt requests (length cs) (answers_before specs ss r (suc i)) p)
    (sym (up_to_none (call_at ss r) i (ap (λ o. o >>= call_by r) none)))
    (subst (λ gs. PipeAt requests (length (calls_before ss r i)) gs p)
    (sym (up_to_none (answer_at specs ss r) i (answer_none specs ss r i none))) is)

step_there : (requests : ℕ) (specs : List ProcessSpec) (ss : List Step) (r : Pid) (i : ℕ) (k : Kernel) (s : Step) (e : Effect)
    (p y : Process) → FollowsTask (pipe_call requests) specs ss r → before specs ss i ≡ Some k → slice_get ss i ≡ Some s → IsSound k →
    effect k s ≡ Some e → k.procs r ≡ Some p → e.after.procs r ≡ Some y → PipeBefore requests specs ss r i p →
    PipeBefore requests specs ss r (suc i) y
step_there requests specs ss r i k s e p y follows at is sound does there later so_far =
    let call = ap (λ o. o >>= call_by r) is in
    joined requests specs ss r i (call_by r s) (told r e) y call (answer_here specs ss r i k s e at is does)
    (pipe_next requests (length (calls_before ss r i)) (answers_before specs ss r i) k r s e p y (which_step r s) sound so_far there later
    does (λ c makes. let n = follows i c (call ∙ makes) in (n.answered, n.told)))

pipe_first : (requests : ℕ) (specs : List ProcessSpec) (ss : List Step) (r : Pid) (p : Process) → p.state ≡ states.Ready →
    PipeBefore requests specs ss r 0 p
unfolding up_to
pipe_first requests specs ss r p ready =
    subst (Doing (new_server requests) p 0 0) (sym ready) (refl, fresh)
  where
    fresh : Gives (new_server requests) p
    fresh = gives_nothing (new_server requests) p (settled_none (empty_pipe requests))

abbrev AllBefore : ℕ → List ProcessSpec → List Step → Pid → ℕ → Kernel → Type 0
AllBefore requests specs ss r i k = (p : Process) → k.procs r ≡ Some p → PipeBefore requests specs ss r i p

pub pipe_before : (requests : ℕ) (specs : List ProcessSpec) (ss : List Step) (r : Pid) → FollowsTask (pipe_call requests) specs ss r →
    (i : ℕ) (k : Kernel) (p : Process) → before specs ss i ≡ Some k → k.procs r ≡ Some p → PipeBefore requests specs ss r i p
pipe_before requests specs ss r follows i k p at there =
    along specs ss (λ a l. AllBefore requests specs ss r a l) 0 (initial_kernel specs)
    (ap (option_map (λ (x : Run). x.after)) (run_nothing (initial_kernel specs)))
    (λ x is. pipe_first requests specs ss r x (initial_ready (find (is_process r) specs) x is))
    (λ a l s e low at_a is sound does so_far y later.
    let x = was_there l s e r y sound does later in
    step_there requests specs ss r a l s e x.0 y follows at_a is sound does x.1 later (so_far x.0 x.1))
    (λ a l low none so_far y later. none_there requests specs ss r a y none (so_far y later)) i (omega arith) k at p there

-- One request at a pipe server, from its Take to its reply, where nothing of its sender waited.
use Rattle.std.proofs.Common.{◌≡◌, ℕ, true, false, List, [], ◌∷◌, ◌++◌, length, take, min, Option, Some, None, option_to_list, refl, sym, ap, subst, ◌∙◌, append-nil, arith}
use Rattle.std.proofs.lemmas.Bool.{both_ways, cond-true}
use Rattle.std.proofs.lemmas.List.{length-take}
use Rattle.std.proofs.lemmas.Option.{same_Some, none-some}
use Rattle.vk_types.specs.Types.{Answer, Call, Message, Pid, Process, State, Step}
use Rattle.vk_base.specs.declared.answer.Answer.TheVariants as answers
use Rattle.vk_base.specs.declared.call.Call.TheVariants as calls
use Rattle.vk_base.specs.declared.kernel.State.TheVariants as states
use Rattle.vk_base.specs.declared.limits.TheConstants.{SEGMENT_BYTES}
use Rattle.vk_base.specs.declared.step.Step.TheVariants as steps
use Rattle.vk_base.specs.Calls.{Effect, unseen}
use Rattle.vk_base.specs.Kernel.{Kernel, finished_call, receiving}
use Rattle.vk_base.specs.Pids.{same_pid}
use Rattle.vk_base.specs.Ranges.{range_of, bytes_in, with_bytes}
use Rattle.vk_base.specs.Steps.{Taking, effect, received, taken as kernel_taken, taking, with_part}
use Rattle.vk_base.proofs.OptionLemmas.{bind_is}
use Rattle.vk_base.proofs.PidLemmas.{same_pid_self}
use Rattle.v_laws.specs.Places.{before}
use Rattle.v_laws.specs.Sound.{IsSound}
use Rattle.v_laws.proofs.StepLemmas.{taking_is}
use Rattle.v_pages.specs.Followed.{call_by}
use Rattle.v_pages.proofs.Calling.{outcome_of, told}
use Rattle.v_pages.proofs.Lists.{read_back}
use Rattle.v_pages.proofs.Own.{OwnStep, other_told}
use Rattle.v_pages.proofs.Touched.{touched}
use Rattle.v_pages.proofs.Turns.{after_take, left_alone}
use Rattle.vk_pipe.specs.declared.serving.PipeServing.{PipeServing}
use Rattle.vk_pipe.specs.declared.serving.PipeServing.TheVariants as stages
use Rattle.vk_pipe.specs.declared.waiting.Write.{Write}
use Rattle.vk_pipe.specs.Kept.{pipe_after}
use Rattle.vk_pipe.specs.Pipes.{Pipe, Server, answered, at, new_server, news_of, server_after}
use Rattle.vk_pipe.specs.Told.{put_by, rule_at, writes_put}
use Rattle.vk_pipe.proofs.Hearing.{one_more_answer}
use Rattle.v_pipe.specs.Waits.{NoneWaits}
use Rattle.v_pipe.proofs.Entries.{Has, HasNews, LoadsOnly, NotAgain, brings_of, has_next, judged_loads, loads_next, loads_of, own_judged}
use Rattle.v_pipe.proofs.Pieces.{along_append}
use Rattle.v_pipe.proofs.Standing.{CallDone, PipeAt, Stands, Tells, call_done}
use Rattle.v_pipe.proofs.Turns.{HasReceived, MayCall, IsCollected, collected_is, not_waiting, ready_when, received_when, receiving_when}

-- where it loads the bytes of a write of s, they stand in its memory
abbrev pub LoadsStand : Pid → List ℕ → PipeServing → Process → Type 0
LoadsStand s b (stages.Load from count) p = same_pid from s ≡ true → bytes_in (range_of 0 count) p.memory ≡ b
LoadsStand s b stage p = Unit {0}

-- what it is about to collect is no request of s
abbrev pub Others : Pid → State → Type 0
Others s (states.Done c a) = brings_of s a ≡ false
Others s t = Unit {0}

-- the server is about to collect the request of s, or keeps it, and nothing else of s
pub data Tracked (s : Pid) (m : Message) (b : List ℕ) (t : Server) (put : List Write) (p : Process) : Type 0 where
  comes : (count : ℕ) → p.state ≡ states.Done (calls.ReceiveSegment 0 SEGMENT_BYTES) (answers.ReceivedSegment s m count) →
      NoneWaits s t.pipe → bytes_in (range_of 0 count) p.memory ≡ b → Tracked s m b t put p
  kept : Has s m b put t.pipe t.stage → LoadsStand s b t.stage p → Others s p.state → Tracked s m b t put p

abbrev pub TrackedBy : ℕ → Pid → Message → List ℕ → List Answer → Process → Type 0
TrackedBy requests s m b given p = Tracked s m b (server_after requests given) (writes_put requests given) p

-- One answer more.
pub put_more : (requests : ℕ) (given : List Answer) (a : Answer) →
    writes_put requests (given ++ a ∷ []) ≡ writes_put requests given ++ put_by (rule_at (server_after requests given) a)
put_more requests given a =
    along_append (λ t a. put_by (rule_at t a)) (new_server requests) given (a ∷ [])
    ∙ ap (λ (l : List Write). writes_put requests given ++ l) (append-nil (put_by (rule_at (server_after requests given) a)))

tracked_more : (requests : ℕ) (s : Pid) (m : Message) (b : List ℕ) (given : List Answer) (q : Pipe) (stage : PipeServing) (a : Answer)
    (o : Option Answer) (y : Process) → Stands requests given q stage → o ≡ Some a →
    HasNews s m b (writes_put requests given) q (news_of q stage a) →
    LoadsStand s b (answered (at q stage) a).stage y → y.state ≡ states.Ready → TrackedBy requests s m b (given ++ option_to_list o) y
tracked_more requests s m b given q stage a o y is some has loads ready =
    let server : answered (at q stage) a ≡ server_after requests (given ++ a ∷ []) =
    sym (one_more_answer (new_server requests) given a ∙ ap (λ (t : Server). answered t a) is) in
    let put : writes_put requests given ++ put_by (rule_at (at q stage) a) ≡ writes_put requests (given ++ a ∷ []) =
    ap (λ (t : Server). writes_put requests given ++ put_by (rule_at t a)) (sym is) ∙ sym (put_more requests given a) in
    subst (λ o. TrackedBy requests s m b (given ++ option_to_list o) y) (sym some)
    (subst (λ (l : List Write). Tracked s m b (server_after requests (given ++ a ∷ [])) l y) put
    (subst (λ (t : Server). Tracked s m b t (writes_put requests given ++ put_by (rule_at (at q stage) a)) y) server
    (Tracked.kept has loads (subst (Others s) (sym ready) tt))))

-- no answer
tracked_none : (requests : ℕ) (s : Pid) (m : Message) (b : List ℕ) (given : List Answer) (o : Option Answer) (y : Process) → o ≡ None →
    TrackedBy requests s m b given y → TrackedBy requests s m b (given ++ option_to_list o) y
tracked_none requests s m b given o y none is =
    subst (λ o. TrackedBy requests s m b (given ++ option_to_list o) y) (sym none)
    (subst (λ (gs : List Answer). TrackedBy requests s m b gs y) (sym (append-nil given)) is)

-- A call of its own.
not_again : (s : Pid) (b : List ℕ) (p : Process) (stage : PipeServing) (a : Answer) → LoadsStand s b stage p → Tells p stage a →
    NotAgain s b stage a
not_again s b p stages.Receive a loads tells = tells s
not_again s b p (stages.Load from count) a loads tells = λ mine x is. tells x is ∙ loads mine
not_again s b p (stages.Store x) a loads tells = tt
not_again s b p (stages.ReplyBytes x) a loads tells = tt
not_again s b p (stages.Reply to verdict) a loads tells = tt
not_again s b p stages.Exit a loads tells = tt
not_again s b p stages.Ended a loads tells = tt

loads_nothing : (s : Pid) (b : List ℕ) (stage : PipeServing) (p : Process) → loads_of s stage ≡ false → LoadsStand s b stage p
loads_nothing s b stages.Receive p none = tt
loads_nothing s b (stages.Load from count) p none = λ mine. absurd (both_ways (same_pid from s) none mine)
loads_nothing s b (stages.Store x) p none = tt
loads_nothing s b (stages.ReplyBytes x) p none = tt
loads_nothing s b (stages.Reply to verdict) p none = tt
loads_nothing s b stages.Exit p none = tt
loads_nothing s b stages.Ended p none = tt

loads_own : (s : Pid) (b : List ℕ) (stage : PipeServing) (p : Process) (count : ℕ) → LoadsOnly count stage →
    bytes_in (range_of 0 count) p.memory ≡ b → LoadsStand s b stage p
loads_own s b stages.Receive p count only stands = tt
loads_own s b (stages.Load from n) p count only stands = λ mine. ap (λ n. bytes_in (range_of 0 n) p.memory) only ∙ stands
loads_own s b (stages.Store x) p count only stands = tt
loads_own s b (stages.ReplyBytes x) p count only stands = tt
loads_own s b (stages.Reply to verdict) p count only stands = tt
loads_own s b stages.Exit p count only stands = tt
loads_own s b stages.Ended p count only stands = tt

kept_on : (requests : ℕ) (s : Pid) (m : Message) (b : List ℕ) (given : List Answer) (q : Pipe) (stage : PipeServing) (a : Answer)
    (o : Option Answer) (y : Process) → Stands requests given q stage → o ≡ Some a → Has s m b (writes_put requests given) q stage →
    NotAgain s b stage a → y.state ≡ states.Ready → TrackedBy requests s m b (given ++ option_to_list o) y
kept_on requests s m b given q stage a o y is some has again ready =
    tracked_more requests s m b given q stage a o y is some (has_next s m b (writes_put requests given) q stage a has again)
    (loads_nothing s b (answered (at q stage) a).stage y (loads_next s b q stage a again)) ready

not_done : (t : State) (c : Call) (a : Answer) → t ≡ states.Ready → t ≡ states.Done c a → ⊥
not_done t c a ready done = cc

call_tracked : (requests : ℕ) (s : Pid) (m : Message) (b : List ℕ) (given : List Answer) (r : Pid) (e : Effect) (p y : Process) →
    p.state ≡ states.Ready → CallDone (server_after requests given).stage r e p y → TrackedBy requests s m b given p →
    TrackedBy requests s m b (given ++ option_to_list (told r e)) y
call_tracked requests s m b given r e p y ready done (Tracked.comes count state none stands) =
    absurd (not_done p.state (calls.ReceiveSegment 0 SEGMENT_BYTES) (answers.ReceivedSegment s m count) ready state)
call_tracked requests s m b given r e p y ready (CallDone.answered_by a tells after fact) (Tracked.kept has loads others) =
    let t = server_after requests given in
    kept_on requests s m b given t.pipe t.stage a (told r e) y refl tells has (not_again s b p t.stage a loads fact) after
call_tracked requests s m b given r e p y ready (CallDone.blocks none receives after) (Tracked.kept has loads others) =
    let t = server_after requests given in
    tracked_none requests s m b given (told r e) y none
    (Tracked.kept has (subst (λ (stage : PipeServing). LoadsStand s b stage y) (sym receives) tt) (subst (Others s) (sym after) tt))

-- It takes a request of another process.
not_receiving : (t : State) (c d : Call) (a : Answer) → receiving t ≡ Some c → t ≡ states.Done d a → ⊥
not_receiving t c d a is done = none-some c (sym (ap receiving done) ∙ is)

take_tracked : (requests made : ℕ) (s : Pid) (m : Message) (b : List ℕ) (given : List Answer) (k : Kernel) (r : Pid) (e : Effect)
    (p y : Process) → PipeAt requests made given p → k.procs r ≡ Some p → e.after.procs r ≡ Some y → effect k (steps.Take r) ≡ Some e →
    ((x : Taking) → taking k r ≡ Some x → same_pid x.name.sender s ≡ false) → TrackedBy requests s m b given p →
    TrackedBy requests s m b (given ++ option_to_list (told r e)) y
take_tracked requests made s m b given k r e p y doing there later does other tracked =
    let t = server_after requests given in
    let f = bind_is (taking k r) (λ x. Some (unseen (kernel_taken k r x))) e does in
    let x = f.0 in
    let is = taking_is k r x f.1 in
    let own : x.process ≡ p = same_Some x.process p (sym is.process ∙ there) in
    let receives = ap (λ (z : Process). receiving z.state) (sym own) ∙ is.call in
    let waits = receiving_when t p made (length given) p.state x.call doing receives in
    let after = after_take k r x y (ap (λ (z : Effect). z.after.procs r) (same_Some _ e f.2) ∙ later) in
    let state : y.state ≡ states.Done x.call (received x.call x.name.sender x.exchange) = ap (λ (z : Process). z.state) (sym after) in
    tracked_none requests s m b given (told r e) y (ap (told r) (sym (same_Some _ e f.2)))
    (by_track receives waits.receives
    (subst (Others s) (sym (state ∙ ap (λ c. states.Done c (received c x.name.sender x.exchange)) waits.call)) (other x f.1)) tracked)
  where
    by_track : {c : Call} → receiving p.state ≡ Some c → (server_after requests given).stage ≡ stages.Receive → Others s y.state →
        TrackedBy requests s m b given p → TrackedBy requests s m b given y
    by_track {c} receives at others (Tracked.comes count state none stands) =
        absurd (not_receiving p.state c (calls.ReceiveSegment 0 SEGMENT_BYTES) (answers.ReceivedSegment s m count) receives state)
    by_track {c} receives at others (Tracked.kept has loads before) =
        Tracked.kept has (subst (λ (stage : PipeServing). LoadsStand s b stage y) (sym at) tt) others

-- It collects a request.
collect_tracked : (requests made : ℕ) (s : Pid) (m : Message) (b : List ℕ) (given : List Answer) (k : Kernel) (r : Pid) (e : Effect)
    (p y : Process) → PipeAt requests made given p → k.procs r ≡ Some p → e.after.procs r ≡ Some y →
    effect k (steps.Collect r) ≡ Some e → TrackedBy requests s m b given p →
    TrackedBy requests s m b (given ++ option_to_list (told r e)) y
collect_tracked requests made s m b given k r e p y doing there later does tracked = by_track tracked
  where
    t : Server
    t = server_after requests given

    c : IsCollected k r e p y
    c = collected_is k r e p y there later does

    got : HasReceived t made (length given)
    got = received_when t p made (length given) p.state (c.call, c.answer) doing c.done

    stands : Stands requests given t.pipe stages.Receive
    stands = λ i. record { pipe = t.pipe; stage = got.receives i }

    ready : y.state ≡ states.Ready
    ready = ap (λ (z : Process). z.state) (sym c.after)

    same_answer : (d : Call) (a : Answer) → p.state ≡ states.Done d a → a ≡ c.answer
    same_answer d a state = ap (λ (z : Call × Answer). z.1) (same_Some (d, a) (c.call, c.answer) (sym (ap finished_call state) ∙ c.done))

    other : (u : State) → finished_call u ≡ Some (c.call, c.answer) → Others s u → brings_of s c.answer ≡ false
    other states.Ready is others = absurd (none-some (c.call, c.answer) is)
    other (states.Blocked d) is others = absurd (none-some (c.call, c.answer) is)
    other (states.Done d a) is others =
        ap (brings_of s) (sym (ap (λ (z : Call × Answer). z.1) (same_Some (d, a) (c.call, c.answer) is))) ∙ others

    by_track : TrackedBy requests s m b given p → TrackedBy requests s m b (given ++ option_to_list (told r e)) y
    by_track (Tracked.comes count state none bytes) =
        tracked_more requests s m b given t.pipe stages.Receive (answers.ReceivedSegment s m count) (told r e) y stands
        (c.tells ∙ ap (λ a. Some a) (sym (same_answer _ _ state)))
        (own_judged s m b (writes_put requests given) t.pipe count none)
        (loads_own s b (answered (at t.pipe stages.Receive) (answers.ReceivedSegment s m count)).stage y count
        (judged_loads t.pipe s m count)
        (ap (λ (z : Process). bytes_in (range_of 0 count) z.memory) (sym c.after) ∙ bytes)) ready
    by_track (Tracked.kept has loads others) =
        kept_on requests s m b given t.pipe stages.Receive c.answer (told r e) y stands c.tells
        (subst (Has s m b (writes_put requests given) t.pipe) got.receives has) (other p.state c.done others) ready

-- After any step.
pub tracked_next : (requests made : ℕ) (s : Pid) (m : Message) (b : List ℕ) (given : List Answer) (k : Kernel) (r : Pid) (u : Step)
    (e : Effect) (p y : Process) → OwnStep r u → IsSound k → PipeAt requests made given p → k.procs r ≡ Some p →
    e.after.procs r ≡ Some y → effect k u ≡ Some e → MayCall requests made given (call_by r u) →
    (u ≡ steps.Take r → (x : Taking) → taking k r ≡ Some x → same_pid x.name.sender s ≡ false) → TrackedBy requests s m b given p →
    TrackedBy requests s m b (given ++ option_to_list (told r e)) y
tracked_next requests made s m b given k r u e p y (OwnStep.makes c step) sound at there later does may other tracked =
    let t = server_after requests given in
    let called = may c (ap (call_by r) step ∙ cond-true (same_pid r r) (Some c) None (same_pid_self r)) in
    let ready = ready_when t p made (length given) p.state at called.0 in
    call_tracked requests s m b given r e p y ready
    (call_done t.pipe t.stage k r c e p y (record { at = there; ready = ready; later = later }) called.1
    (outcome_of k r p c e there (ap (effect k) (sym step) ∙ does))) tracked
tracked_next requests made s m b given k r u e p y (OwnStep.takes step) sound at there later does may other tracked =
    take_tracked requests made s m b given k r e p y at there later (ap (effect k) (sym step) ∙ does) (other step) tracked
tracked_next requests made s m b given k r u e p y (OwnStep.collects step) sound at there later does may other tracked =
    collect_tracked requests made s m b given k r e p y at there later (ap (effect k) (sym step) ∙ does) tracked
tracked_next requests made s m b given k r u e p y (OwnStep.others apart) sound at there later does may other tracked =
    let idle = not_waiting (server_after requests given) p made (length given) p.state at in
    tracked_none requests s m b given (told r e) y (other_told r k u e apart does)
    (subst (TrackedBy requests s m b given) (left_alone k r u e p y apart idle there does (touched k u e sound does r p y there later))
    tracked)

-- From its Take on.
first_bytes : (memory part : List ℕ) →
    bytes_in (range_of 0 (min SEGMENT_BYTES (length part))) (with_bytes memory 0 (take SEGMENT_BYTES part)) ≡ take SEGMENT_BYTES part
first_bytes memory part =
    ap (λ n. bytes_in (range_of 0 n) (with_bytes memory 0 (take SEGMENT_BYTES part))) (sym (length-take SEGMENT_BYTES part))
    ∙ read_back memory 0 (take SEGMENT_BYTES part) (omega arith)

pub take_first : (requests made : ℕ) (given : List Answer) (k : Kernel) (r : Pid) (x : Taking) (e : Effect) (p y : Process) →
    PipeAt requests made given p → k.procs r ≡ Some p → e.after.procs r ≡ Some y → taking k r ≡ Some x →
    unseen (kernel_taken k r x) ≡ e → NoneWaits x.name.sender (pipe_after requests given) →
    TrackedBy requests x.name.sender x.exchange.shown (take SEGMENT_BYTES x.exchange.part) (given ++ option_to_list (told r e)) y
take_first requests made given k r x e p y doing there later takes same none =
    let t = server_after requests given in
    let s = x.name.sender in
    let m = x.exchange.shown in
    let part = x.exchange.part in
    let is = taking_is k r x takes in
    let own : x.process ≡ p = same_Some x.process p (sym is.process ∙ there) in
    let waits = receiving_when t p made (length given) p.state x.call doing
    (ap (λ (z : Process). receiving z.state) (sym own) ∙ is.call) in
    let after = after_take k r x y (ap (λ (z : Effect). z.after.procs r) same ∙ later) in
    tracked_none requests s m (take SEGMENT_BYTES part) given (told r e) y (ap (told r) (sym same))
    (Tracked.comes (min SEGMENT_BYTES (length part))
    (ap (λ (z : Process). z.state) (sym after) ∙ ap (λ c. states.Done c (received c s x.exchange)) waits.call) none
    (ap (λ (z : Process). bytes_in (range_of 0 (min SEGMENT_BYTES (length part))) z.memory) (sym after)
    ∙ ap (λ c. bytes_in (range_of 0 (min SEGMENT_BYTES (length part))) (with_part c x.exchange x.process.memory)) waits.call
    ∙ first_bytes x.process.memory part))

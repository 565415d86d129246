-- Each step that is no call leaves a plain view plain.
use Rattle.std.proofs.Common.{◌≡◌, ℕ, true, false, cond, List, [], ◌∷◌, ◌++◌, fold, Option, Some, None, option_map, refl, sym, ap, subst, ◌∙◌}
use Rattle.std.proofs.lemmas.Bool.{both_ways, cond_both}
use Rattle.std.proofs.lemmas.Option.{none-some, same_Some}
use Rattle.v_lawful.proofs.Calls.{no_move as no_moves}
use Rattle.vk_types.specs.Types.{Answer, Call, Ending, Exchange, Message, Name, Pid, Process, Refusal, State, Step}
use Rattle.vk_base.specs.declared.answer.Answer.TheVariants as answers
use Rattle.vk_base.specs.declared.answer.Ending.TheVariants as endings
use Rattle.vk_base.specs.declared.answer.Refusal.TheVariants as refusals
use Rattle.vk_base.specs.declared.call.Call.TheVariants as calls
use Rattle.vk_base.specs.declared.kernel.Stage.TheVariants as stages
use Rattle.vk_base.specs.declared.kernel.State.TheVariants as states
use Rattle.vk_base.specs.declared.step.Step.TheVariants as steps
use Rattle.vk_base.specs.Calls.{Effect}
use Rattle.vk_base.specs.Kernel.{◌>>=◌, Kernel, name_of, same_name, ended, is_asking, is_moving, receiving, sending, put_exchange, with_state}
use Rattle.vk_base.specs.Steps.{Collecting, Finishing, Taking, after_arrival, after_effect, arriving, asking, collecting, copying, effect, ending, failing, failure, finding, finished, finishing, hearing, is_older, next, only_if, opening_move, received, taken, taking, with_arrival, with_part}
use Rattle.vk_base.specs.Ranges.{with_bytes}
use Rattle.vk_base.proofs.OptionLemmas.{bind_is}
use Rattle.v_laws.proofs.StepLemmas.{IsNoCall, asking_is, collecting_is, copying_is, ending_is, failing_is, finding_is, finishing_is, hearing_is, only_if_is, opening_is, taking_is}
use Rattle.vk_rules.specs.Each.{Each}
use Rattle.vk_rules.specs.Observed.{is_not_yet}
use Rattle.v_storm.proofs.Views.{IsOurs, IsPlainExchange, IsPlainState, IsPlainView}
use Rattle.v_storm.proofs.Changes.{plain_exchanges, plain_map, plain_on, plain_put, plain_stage}
use Rattle.vk_base.specs.Messages.{IsMessage}

-- What a state says that is none of a plain view.
no_move : (s : State) → IsPlainState s → is_moving s ≡ true → ⊥
no_move states.Ready plain t = both_ways false refl t
no_move (states.Done c a) plain t = both_ways false refl t
no_move (states.Blocked (calls.Send target m)) plain t = both_ways false refl t
no_move (states.Blocked (calls.ReceiveSegment start count)) plain t = both_ways false refl t
no_move (states.Blocked c) plain t = absurd plain

no_lookup : (s : State) → IsPlainState s → is_asking s ≡ true → ⊥
no_lookup states.Ready plain t = both_ways false refl t
no_lookup (states.Done c a) plain t = both_ways false refl t
no_lookup (states.Blocked (calls.Send target m)) plain t = both_ways false refl t
no_lookup (states.Blocked (calls.ReceiveSegment start count)) plain t = both_ways false refl t
no_lookup (states.Blocked c) plain t = absurd plain

-- Arrive.
arrival_plain : (name : Name) (e : Exchange) (n : Name) (x : Exchange) → IsPlainExchange n x → IsPlainExchange n (after_arrival name e n x)
arrival_plain name e n x plain =
    cond_both (same_name n name) (record x { stage = stages.Queued }) (cond (is_older name e n x) (record x { stage = stages.Dropped }) x)
    (IsPlainExchange n) (λ t. plain_stage n x stages.Queued plain)
    (λ f. cond_both (is_older name e n x) (record x { stage = stages.Dropped }) x (IsPlainExchange n)
    (λ t. plain_stage n x stages.Dropped plain) (λ h. plain))

arrived_on : (host : ℕ) (k : Kernel) (name : Name) (e : Exchange) → IsPlainView host k → IsPlainView host (with_arrival k name e)
unfolding with_arrival
arrived_on host k name e v =
    plain_exchanges host k (λ n. option_map (after_arrival name e n) (k.exchanges n)) (k.arrived ++ name ∷ []) v
    (plain_map k.exchanges (after_arrival name e) v.exchanges (arrival_plain name e))

-- Take: a receive with a segment.
taken_state : (s : State) (c : Call) (sender : Pid) (e : Exchange) → IsPlainState s → receiving s ≡ Some c → IsOurs sender →
    IsMessage e.shown → IsPlainState (states.Done c (received c sender e))
taken_state states.Ready c sender e plain is from shown = absurd (none-some c is)
taken_state (states.Done d a) c sender e plain is from shown = absurd (none-some c is)
taken_state (states.Blocked (calls.Send target m)) c sender e plain is from shown = absurd (none-some c is)
taken_state (states.Blocked (calls.ReceiveSegment start count)) c sender e plain is from shown =
    subst (λ z. IsPlainState (states.Done z (received z sender e))) (same_Some (calls.ReceiveSegment start count) c is) (tt, (from, shown))
taken_state (states.Blocked d) c sender e plain is from shown = absurd plain

taken_on : (host : ℕ) (k : Kernel) (r : Pid) (t : Taking) → IsPlainView host k → taking k r ≡ Some t → IsPlainView host (taken k r t)
unfolding taken
taken_on host k r t v g =
    let is = taking_is k r t g in
    let x = v.exchanges t.name t.exchange is.exchange in
    plain_on host k r t.process
    (record t.process {
      memory = with_part t.call t.exchange t.process.memory;
      state = states.Done t.call (received t.call t.name.sender t.exchange);
    })
    (put_exchange k.exchanges t.name (record t.exchange { stage = stages.Taken })) k.arrived v is.process refl
    (taken_state t.process.state t.call t.name.sender t.exchange (v.states r t.process is.process) is.call x.sender x.shown)
    (plain_put k.exchanges t.name (record t.exchange { stage = stages.Taken }) v.exchanges (plain_stage t.name t.exchange stages.Taken x))

-- Finish and Fail: a Send.
sent_plain : (s : State) (target : Pid) (m : Message) → IsPlainState s → sending s ≡ Some (target, m) → IsOurs target × IsMessage m
sent_plain states.Ready target m plain is = absurd (none-some (target, m) is)
sent_plain (states.Done d a) target m plain is = absurd (none-some (target, m) is)
sent_plain (states.Blocked (calls.Send q x)) target m plain is =
    subst (λ (z : Pid × Message). IsOurs z.0 × IsMessage z.1) (same_Some (q, x) (target, m) is) plain
sent_plain (states.Blocked (calls.ReceiveSegment start count)) target m plain is = absurd (none-some (target, m) is)
sent_plain (states.Blocked d) target m plain is = absurd plain

finished_on : (host : ℕ) (k : Kernel) (s : Pid) (f : Finishing) → IsPlainView host k → finishing k s ≡ Some f →
    IsPlainView host (finished k s f)
finished_on host k s f v g =
    let is = finishing_is k s f g in
    plain_on host k s f.process
    (record f.process {
      memory = with_bytes f.process.memory f.dest f.bytes;
      state = states.Done (calls.Send f.target f.message) (answers.Replied f.reply);
    }) k.exchanges k.arrived v is.process refl
    (sent_plain f.process.state f.target f.message (v.states s f.process is.process) is.send, refl) v.exchanges

failure_is : (k : Kernel) (e : Exchange) (why : Ending) (r : Refusal) → failure k e why ≡ Some r → is_not_yet (answers.Refused r) ≡ false
failure_is k e endings.Ok r g = absurd (none-some r g)
failure_is k e endings.Gone r g = absurd (none-some r g)
failure_is k e endings.TimedOut r g = ap (λ x. is_not_yet (answers.Refused x)) (sym (same_Some refusals.TimedOut r g))
failure_is k e endings.NoProcess r g =
    let test = only_if_is _ (Some refusals.NoProcess) r g in
    ap (λ x. is_not_yet (answers.Refused x)) (sym (same_Some refusals.NoProcess r test.1))

failed_state : (s : State) (send : Pid × Message) (a : Answer) → IsPlainState s → sending s ≡ Some send → is_not_yet a ≡ false →
    IsPlainState (ended s a)
failed_state states.Ready send a plain is told = absurd (none-some send is)
failed_state (states.Done d b) send a plain is told = absurd (none-some send is)
failed_state (states.Blocked (calls.Send q x)) send a plain is told = (plain, told)
failed_state (states.Blocked (calls.ReceiveSegment start count)) send a plain is told = absurd (none-some send is)
failed_state (states.Blocked d) send a plain is told = absurd plain

failing_told : (k : Kernel) (s : Pid) (why : Ending) (f : Process × Refusal) → failing k s why ≡ Some f →
    is_not_yet (answers.Refused f.1) ≡ false
unfolding failing
failing_told k s why f g =
    let p = bind_is (k.procs s) _ f g in
    let e = bind_is (sending p.0.state >>= λ send. k.exchanges (name_of s p.0.sends)) _ f p.2 in
    let r = bind_is (only_if _ (failure k e.0 why)) _ f e.2 in
    let test = only_if_is _ (failure k e.0 why) r.0 r.1 in
    subst (λ (z : Process × Refusal). is_not_yet (answers.Refused z.1) ≡ false) (same_Some (p.0, r.0) f r.2)
    (failure_is k e.0 why r.0 test.1)

failed_on : (host : ℕ) (k : Kernel) (s : Pid) (why : Ending) (f : Process × Refusal) → IsPlainView host k → failing k s why ≡ Some f →
    IsPlainView host (with_state k s f.0 (ended f.0.state (answers.Refused f.1)))
failed_on host k s why f v g =
    let is = failing_is k s why f g in
    plain_on host k s f.0 (record f.0 { state = ended f.0.state (answers.Refused f.1) }) k.exchanges k.arrived v is.process refl
    (failed_state f.0.state is.send (answers.Refused f.1) (v.states s f.0 is.process) is.sends (failing_told k s why f g)) v.exchanges

-- Collect.
collected_on : (host : ℕ) (k : Kernel) (pid : Pid) (d : Collecting) → IsPlainView host k → collecting k pid ≡ Some d →
    IsPlainView host (with_state k pid d.process states.Ready)
collected_on host k pid d v g =
    plain_on host k pid d.process (record d.process { state = states.Ready }) k.exchanges k.arrived v (collecting_is k pid d g).process refl
    tt v.exchanges

-- Each step but a call.
pub as_plain : (host : ℕ) (x e : Effect) → Some x ≡ Some e → IsPlainView host x.after → IsPlainView host e.after
as_plain host x e g v = subst (λ (z : Effect). IsPlainView host z.after) (same_Some x e g) v

-- steps that no plain view allows
abbrev pub IsRare : Step → Type 0
IsRare (steps.OpenMove sender number moving) = Unit {0}
IsRare (steps.Copy sender number moving offset count) = Unit {0}
IsRare (steps.End r why) = Unit {0}
IsRare (steps.Hear asker number pid) = Unit {0}
IsRare (steps.Found asker pid) = Unit {0}
IsRare (steps.Lost asker) = Unit {0}
IsRare s = ⊥

pub rare_never : (host : ℕ) (k : Kernel) (s : Step) (e : Effect) → IsRare s → IsPlainView host k → effect k s ≡ Some e → ⊥
rare_never host k (steps.OpenMove sender number moving) e rare v g =
    let o = bind_is (opening_move k (name_of sender number) moving) _ e g in
    let is = opening_is k (name_of sender number) moving o.0 o.1 in
    (no_moves o.0.exchange moving o.0.move (v.exchanges _ o.0.exchange is.exchange).none is.move)
rare_never host k (steps.Copy sender number moving offset count) e rare v g =
    let c = bind_is (copying k (name_of sender number) moving offset count) _ e g in
    let is = copying_is k (name_of sender number) moving offset count c.0 c.1 in
    (no_moves c.0.exchange moving c.0.move (v.exchanges _ c.0.exchange is.exchange).none is.move)
rare_never host k (steps.End r why) e rare v g =
    let x = bind_is (ending k r why) _ e g in
    let is = ending_is k r why x.0 x.1 in
    (no_move x.0.0.state (v.states r x.0.0 is.process) is.moves)
rare_never host k (steps.Hear asker number pid) e rare v g =
    let l = bind_is (hearing k asker number pid) _ e g in
    (none-some l.0 (sym (v.lookups asker number) ∙ (hearing_is k asker number pid l.0 l.1).lookup))
rare_never host k (steps.Found asker pid) e rare v g =
    let p = bind_is (finding k asker pid) _ e g in
    let is = finding_is k asker pid p.0 p.1 in
    (no_lookup p.0.state (v.states asker p.0 is.asks.process) is.asks.asks)
rare_never host k (steps.Lost asker) e rare v g =
    let p = bind_is (asking k asker) _ e g in
    let is = asking_is k asker p.0 p.1 in
    (no_lookup p.0.state (v.states asker p.0 is.process) is.asks)
rare_never host k s e rare v g = rare

pub step_plain : (host : ℕ) (k : Kernel) (s : Step) (e : Effect) → IsNoCall s → IsPlainView host k → effect k s ≡ Some e →
    IsPlainView host e.after
step_plain host k (steps.Call pid c) e quiet v g = absurd quiet
step_plain host k (steps.Arrive sender number) e quiet v g =
    let x = bind_is (arriving k (name_of sender number)) _ e g in as_plain host _ e x.2 (arrived_on host k (name_of sender number) x.0 v)
step_plain host k (steps.Take r) e quiet v g =
    let t = bind_is (taking k r) _ e g in as_plain host _ e t.2 (taken_on host k r t.0 v t.1)
step_plain host k (steps.Finish s) e quiet v g =
    let f = bind_is (finishing k s) _ e g in as_plain host _ e f.2 (finished_on host k s f.0 v f.1)
step_plain host k (steps.Fail s why) e quiet v g =
    let f = bind_is (failing k s why) _ e g in as_plain host _ e f.2 (failed_on host k s why f.0 v f.1)
step_plain host k (steps.OpenMove sender number moving) e quiet v g =
    absurd (rare_never host k (steps.OpenMove sender number moving) e tt v g)
step_plain host k (steps.Copy sender number moving offset count) e quiet v g =
    absurd (rare_never host k (steps.Copy sender number moving offset count) e tt v g)
step_plain host k (steps.End r why) e quiet v g = absurd (rare_never host k (steps.End r why) e tt v g)
step_plain host k (steps.Hear asker number pid) e quiet v g = absurd (rare_never host k (steps.Hear asker number pid) e tt v g)
step_plain host k (steps.Found asker pid) e quiet v g = absurd (rare_never host k (steps.Found asker pid) e tt v g)
step_plain host k (steps.Lost asker) e quiet v g = absurd (rare_never host k (steps.Lost asker) e tt v g)
step_plain host k (steps.Collect pid) e quiet v g =
    let d = bind_is (collecting k pid) _ e g in as_plain host _ e d.2 (collected_on host k pid d.0 v d.1)

next_by : (host : ℕ) (k : Kernel) (s : Step) (o : Option Effect) → effect k s ≡ o → IsNoCall s → IsPlainView host k →
    IsPlainView host (after_effect k o)
next_by host k s None is quiet v = v
next_by host k s (Some e) is quiet v = step_plain host k s e quiet v is

pub steps_plain : (host : ℕ) (k : Kernel) (ss : List Step) → Each IsNoCall ss → IsPlainView host k → IsPlainView host (fold next k ss)
steps_plain host k [] quiet v = v
steps_plain host k (s ∷ ss) quiet v = steps_plain host (next k s) ss quiet.1 (next_by host k s (effect k s) refl quiet.0 v)

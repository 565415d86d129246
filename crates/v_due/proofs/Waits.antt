-- Who is blocked in a call behind an entry was so before it, or began the call in it. A move that is begun has bytes.
use Rattle.std.proofs.Common.{◌≡◌, ℕ, zero, suc, ◌<◌, Bool, true, false, cond, ◌==◌, ◌||◌, List, [], ◌∷◌, fold, option_map, Option, Some, None, refl, sym, ap, subst, ◌∙◌, arith}
use Rattle.std.proofs.lemmas.Bool.{both_ways, cond_both}
use Rattle.std.proofs.lemmas.Option.{same_Some, none-some}
use Rattle.vk_types.specs.Types.{Answer, Call, Message, Move, Pid, Process, Refusal, State, Step}
use Rattle.vk_base.specs.declared.call.Call.TheVariants as calls
use Rattle.vk_base.specs.declared.kernel.Direction.TheVariants as directions
use Rattle.vk_base.specs.declared.kernel.State.TheVariants as states
use Rattle.vk_base.specs.declared.step.Step.TheVariants as steps
use Rattle.vk_base.specs.Calls.{Effect, accepted, begin_move, call_refusal, call_step, called, copied_at_once, exited, forwarded, found_at_once, get_pid, is_at_once, is_bereft, lookup_begun, move_begun, new_move, released, replied, sent}
use Rattle.vk_base.specs.Kernel.{◌>>=◌, Kernel, blocked_in, ended, held, name_of, put_process, with_memory}
use Rattle.vk_base.specs.Pids.{same_pid, same_host}
use Rattle.vk_base.specs.Ranges.{range_of, bytes_in, with_bytes}
use Rattle.vk_base.specs.Steps.{effect, next, after_effect, with_arrival, arriving, taking, taken, finishing, failing, opening_move, move_opened, copying, copied, ending, hearing, asking, finding, collecting}
use Rattle.vk_base.proofs.OptionLemmas.{bind_is}
use Rattle.vk_base.proofs.PidLemmas.{same_pid_self}
use Rattle.v_laws.proofs.Options.{of_either}
use Rattle.v_laws.proofs.StepLemmas.{asking_is, collecting_is, copying_is, ending_is, failing_is, finding_is, finishing_is, taking_is}
use Rattle.v_laws.proofs.Tables.{same_pid_is}
use Rattle.vk_rules.specs.CallOutcomes.{effect_answer, seen_answer}
use Rattle.vk_rules.specs.Each.{Each}
use Rattle.vk_rules.specs.Entries.{is_begun}
use Rattle.v_ages.proofs.Quiet.{NoCall}
use Rattle.v_ended.proofs.Spared.{doing, state_of}

-- A step after which a process is blocked only where it was before, in the same call.
abbrev pub IsCalm : Kernel → Kernel → Pid → Type 0
IsCalm k l r = (c : Call) → doing l r ≡ Some (states.Blocked c) → doing k r ≡ Some (states.Blocked c)

abbrev StateCalm : State → State → Type 0
StateCalm x y = (c : Call) → y ≡ states.Blocked c → x ≡ states.Blocked c

done_calm : (x : State) (d : Call) (a : Answer) → StateCalm x (states.Done d a)
done_calm x d a = λ c e. absurd (none-some c (ap blocked_in e))

ready_calm : (x : State) → StateCalm x states.Ready
ready_calm x = λ c e. absurd (none-some c (ap blocked_in e))

ended_calm : (x : State) (a : Answer) → StateCalm x (ended x a)
ended_calm states.Ready a = λ c e. e
ended_calm (states.Blocked d) a = done_calm (states.Blocked d) d a
ended_calm (states.Done d b) a = λ c e. e

-- a process that is put
put_calm : (procs : Pid → Option Process) (q : Pid) (p after : Process) (r : Pid) → procs q ≡ Some p → StateCalm p.state after.state →
    (c : Call) → state_of (put_process procs q after r) ≡ Some (states.Blocked c) → state_of (procs r) ≡ Some (states.Blocked c)
unfolding put_process
put_calm procs q p after r is calm c =
    cond_both (same_pid r q) (Some after) (procs r) (λ o. state_of o ≡ Some (states.Blocked c) → state_of (procs r) ≡ Some (states.Blocked c))
    (λ t e. ap (λ z. state_of (procs z)) (same_pid_is r q t) ∙ ap state_of is ∙ ap Some (calm c (same_Some after.state (states.Blocked c) e)))
    (λ f e. e)

by_effect : (k : Kernel) (r : Pid) (f e : Effect) → Some f ≡ Some e → IsCalm k f.after r → IsCalm k e.after r
by_effect k r f e g calm = subst (λ (x : Effect). IsCalm k x.after r) (same_Some f e g) calm

step_calm : (k : Kernel) (r : Pid) (s : Step) (e : Effect) → NoCall s → effect k s ≡ Some e → IsCalm k e.after r
unfolding with_arrival taken move_opened copied
step_calm k r (steps.Call pid c) e none g = absurd (both_ways true none refl)
step_calm k r (steps.Arrive sender number) e none g =
    let f = bind_is (arriving k (name_of sender number)) _ e g in by_effect k r _ e f.2 (λ c at. at)
step_calm k r (steps.Take q) e none g =
    let f = bind_is (taking k q) _ e g in
    let i = taking_is k q f.0 f.1 in
    by_effect k r _ e f.2 (put_calm k.procs q f.0.process _ r i.process (done_calm f.0.process.state _ _))
step_calm k r (steps.Finish q) e none g =
    let f = bind_is (finishing k q) _ e g in
    let i = finishing_is k q f.0 f.1 in
    by_effect k r _ e f.2 (put_calm k.procs q f.0.process _ r i.process (done_calm f.0.process.state _ _))
step_calm k r (steps.Fail q why) e none g =
    let f = bind_is (failing k q why) _ e g in
    let i = failing_is k q why f.0 f.1 in
    by_effect k r _ e f.2 (put_calm k.procs q f.0.0 _ r i.process (ended_calm f.0.0.state _))
step_calm k r (steps.OpenMove sender number moving) e none g =
    let f = bind_is (opening_move k (name_of sender number) moving) _ e g in by_effect k r _ e f.2 (λ c at. at)
step_calm k r (steps.Copy sender number moving offset count) e none g =
    let f = bind_is (copying k (name_of sender number) moving offset count) _ e g in
    let i = copying_is k (name_of sender number) moving offset count f.0 f.1 in
    by_effect k r _ e f.2 (put_calm k.procs f.0.pid f.0.process _ r i.process (λ c at. at))
step_calm k r (steps.End q why) e none g =
    let f = bind_is (ending k q why) _ e g in
    let i = ending_is k q why f.0 f.1 in
    by_effect k r _ e f.2 (put_calm k.procs q f.0.0 _ r i.process (ended_calm f.0.0.state f.0.1))
step_calm k r (steps.Hear asker number pid) e none g =
    let f = bind_is (hearing k asker number pid) _ e g in by_effect k r _ e f.2 (λ c at. at)
step_calm k r (steps.Found q pid) e none g =
    let f = bind_is (finding k q pid) _ e g in
    let i = finding_is k q pid f.0 f.1 in
    let asks = i.asks in
    by_effect k r _ e f.2 (put_calm k.procs q f.0 _ r asks.process (ended_calm f.0.state _))
step_calm k r (steps.Lost q) e none g =
    let f = bind_is (asking k q) _ e g in
    let i = asking_is k q f.0 f.1 in
    by_effect k r _ e f.2 (put_calm k.procs q f.0 _ r i.process (ended_calm f.0.state _))
step_calm k r (steps.Collect q) e none g =
    let f = bind_is (collecting k q) _ e g in
    let i = collecting_is k q f.0 f.1 in
    by_effect k r _ e f.2 (put_calm k.procs q f.0.process _ r i.process (ready_calm f.0.process.state))

by_step : (k : Kernel) (r : Pid) (s : Step) (o : Option Effect) → NoCall s → effect k s ≡ o → IsCalm k (after_effect k o) r
by_step k r s None none g = λ c at. at
by_step k r s (Some e) none g = step_calm k r s e none g

pub steps_calm : (k : Kernel) (r : Pid) (ss : List Step) → Each NoCall ss → IsCalm k (fold next k ss) r
steps_calm k r [] none = λ c at. at
steps_calm k r (s ∷ ss) none = λ c at. by_step k r s (effect k s) none.0 refl c (steps_calm (next k s) r ss none.1 c at)

-- Calls.

-- of a move to a partner that has acknowledged so many bytes there are more
abbrev pub HasMore : ℕ → Call → Type 0
HasMore acknowledged (calls.MoveTo partner dest src count) = acknowledged < count
HasMore acknowledged call = Unit {0}

-- one that is begun has bytes
abbrev pub HasBytes : Call → Type 0
HasBytes call = HasMore 0 call

pub some_bytes : (acknowledged : ℕ) (call : Call) → HasMore acknowledged call → HasBytes call
some_bytes acknowledged (calls.MoveTo partner dest src count) more = omega arith
some_bytes acknowledged call more = tt

-- what is blocked after a call was so before, or has begun it
pub data Blocked (k : Kernel) (q : Pid) (d : Call) (begun : Bool) (r : Pid) (c : Call) : Type 0 where
  Before : doing k r ≡ Some (states.Blocked c) → Blocked k q d begun r c
  Begun : same_pid q r ≡ true → d ≡ c → begun ≡ true → HasBytes c → Blocked k q d begun r c

abbrev Starts : Kernel → Pid → Call → Effect → Pid → Type 0
Starts k q d e r = (c : Call) → doing e.after r ≡ Some (states.Blocked c) → Blocked k q d (is_begun (seen_answer e.seen)) r c

by_start : (k : Kernel) (q : Pid) (d : Call) (f e : Effect) (r : Pid) → Some f ≡ Some e → Starts k q d f r → Starts k q d e r
by_start k q d f e r g starts = subst (λ (x : Effect). Starts k q d x r) (same_Some f e g) starts

-- a process is blocked in its call
put_start : (k : Kernel) (q : Pid) (d : Call) (begun : Bool) (after : Process) (r : Pid) → after.state ≡ states.Blocked d → begun ≡ true →
    HasBytes d → (c : Call) → state_of (put_process k.procs q after r) ≡ Some (states.Blocked c) → Blocked k q d begun r c
unfolding put_process
put_start k q d begun after r state t bytes c =
    cond_both (same_pid r q) (Some after) (k.procs r) (λ o. state_of o ≡ Some (states.Blocked c) → Blocked k q d begun r c)
    (λ same e. let call : d ≡ c = same_Some d c (ap blocked_in (sym state ∙ same_Some after.state (states.Blocked c) e)) in
    Begun (ap (same_pid q) (same_pid_is r q same) ∙ same_pid_self q) call t (subst HasBytes call bytes))
    (λ other e. Before e)

exit_calm : (k : Kernel) (q : Pid) (p : Process) (r : Pid) → k.procs q ≡ Some p → IsCalm k (exited k q p) r
unfolding exited
exit_calm k q p r is c =
    cond_both (same_pid r q) (Some (record p { alive = false })) (option_map (released k q r) (k.procs r))
    (λ o. state_of o ≡ Some (states.Blocked c) → state_of (k.procs r) ≡ Some (states.Blocked c))
    (λ t e. ap (λ z. state_of (k.procs z)) (same_pid_is r q t) ∙ ap state_of is ∙ e)
    (λ f e. rest (k.procs r) e)
  where
    rest : (o : Option Process) → state_of (option_map (released k q r) o) ≡ Some (states.Blocked c) → state_of o ≡ Some (states.Blocked c)
    rest None e = e
    rest (Some x) e =
        ap Some (cond_both (is_bereft k q r x) (record x { state = ended x.state _ }) x
        (λ (y : Process). y.state ≡ states.Blocked c → x.state ≡ states.Blocked c)
        (λ t. ended_calm x.state _ c) (λ f at. at) (same_Some _ (states.Blocked c) e))

memory_calm : (k : Kernel) (into : Pid) (x : Process) (memory : List ℕ) (r : Pid) → k.procs into ≡ Some x →
    IsCalm k (with_memory k into x memory) r
memory_calm k into x memory r is = put_calm k.procs into x (record x { memory = memory }) r is (λ c at. at)

once_start : (k : Kernel) (q : Pid) (d : Call) (into : Pid) (dest : ℕ) (bytes : List ℕ) (e : Effect) (r : Pid) →
    copied_at_once k q d into dest bytes ≡ Some e → Starts k q d e r
unfolding copied_at_once
once_start k q d into dest bytes e r g =
    let x = bind_is (k.procs into) _ e g in
    by_start k q d _ e r x.2 (λ c at. Before (memory_calm k into x.0 (with_bytes x.0.memory dest bytes) r x.1 c at))

begin_start : (k : Kernel) (q : Pid) (p : Process) (d : Call) (partner : Pid) (m : Move) (e : Effect) (r : Pid) → HasBytes d →
    begin_move k q p d partner m ≡ Some e → Starts k q d e r
unfolding move_begun
begin_start k q p d partner m e r bytes g =
    let number = bind_is (held k q partner) _ e g in
    let x = bind_is (k.exchanges (name_of partner number.0)) _ e number.2 in
    by_start k q d _ e r x.2 (put_start k q d true _ r refl refl bytes)

got_start : (k : Kernel) (q : Pid) (p : Process) (logical : ℕ) (d : Call) (o : Option Pid) (r : Pid) → HasBytes d →
    Starts k q d (get_pid k q p d logical o) r
unfolding lookup_begun
got_start k q p logical d None r bytes = put_start k q d true _ r refl refl bytes
got_start k q p logical d (Some x) r bytes = λ c at. Before at

reply_start : (k : Kernel) (q : Pid) (d : Call) (to : Pid) (m : Message) (dest : ℕ) (bytes : List ℕ) (e : Effect) (r : Pid) →
    replied k q d to m dest bytes ≡ Some e → Starts k q d e r
reply_start k q d to m dest bytes e r g =
    let number = bind_is (held k q to) _ e g in
    let x = bind_is (k.exchanges (name_of to number.0)) _ e number.2 in
    by_start k q d _ e r x.2 (λ c at. Before at)

later_has : (pid partner : Pid) (count : ℕ) → is_at_once pid partner count ≡ false → 0 < count
later_has pid partner count f = positive count (or_false (same_host pid partner) (count == 0) f)
  where
    or_false : (a b : Bool) → (a || b) ≡ false → b ≡ false
    or_false true b e = absurd (both_ways true e refl)
    or_false false b e = e

    positive : (n : ℕ) → (n == 0) ≡ false → 0 < n
    positive zero e = absurd (both_ways true e refl)
    positive (suc n) e = omega arith

accepted_start : (k : Kernel) (q : Pid) (p : Process) (d : Call) (e : Effect) (r : Pid) → k.procs q ≡ Some p →
    accepted k q p d ≡ Some e → Starts k q d e r
unfolding sent forwarded
accepted_start k q p (calls.Send target m) e r is g =
    by_start k q (calls.Send target m) _ e r g (put_start k q (calls.Send target m) true _ r refl refl tt)
accepted_start k q p calls.Receive e r is g = by_start k q calls.Receive _ e r g (put_start k q calls.Receive true _ r refl refl tt)
accepted_start k q p (calls.ReceiveSegment start count) e r is g =
    by_start k q (calls.ReceiveSegment start count) _ e r g (put_start k q (calls.ReceiveSegment start count) true _ r refl refl tt)
accepted_start k q p (calls.Reply m to) e r is g = reply_start k q (calls.Reply m to) to m 0 [] e r g
accepted_start k q p (calls.ReplySegment m to dest src count) e r is g =
    reply_start k q (calls.ReplySegment m to dest src count) to m dest (bytes_in (range_of src count) p.memory) e r g
accepted_start k q p (calls.Forward m from to) e r is g =
    let number = bind_is (held k q from) _ e g in
    let x = bind_is (k.exchanges (name_of from number.0)) _ e number.2 in
    by_start k q (calls.Forward m from to) _ e r x.2 (λ c at. Before at)
accepted_start k q p (calls.MoveTo partner dest src count) e r is g =
    let d : Call = calls.MoveTo partner dest src count in
    let bytes = bytes_in (range_of src count) p.memory in
    either_start (is_at_once q partner count) refl g
  where
    either_start : (b : Bool) → is_at_once q partner count ≡ b →
        (let d : Call = calls.MoveTo partner dest src count in let bytes = bytes_in (range_of src count) p.memory in
        cond b (copied_at_once k q d partner dest bytes) (begin_move k q p d partner (new_move q directions.To dest src count bytes)) ≡ Some e →
        Starts k q d e r)
    either_start true t g =
        once_start k q (calls.MoveTo partner dest src count) partner dest (bytes_in (range_of src count) p.memory) e r g
    either_start false t g =
        begin_start k q p (calls.MoveTo partner dest src count) partner
        (new_move q directions.To dest src count (bytes_in (range_of src count) p.memory)) e r (later_has q partner count t) g
accepted_start k q p (calls.MoveFrom partner dest src count) e r is g =
    let d : Call = calls.MoveFrom partner dest src count in
    of_either (λ (x : Effect). Starts k q d x r) (is_at_once q partner count)
    (k.procs partner >>= λ x. copied_at_once k q d q dest (bytes_in (range_of src count) x.memory))
    (begin_move k q p d partner (new_move q directions.From dest src count [])) e
    (λ once h. let x = bind_is (k.procs partner) _ e h in once_start k q d q dest (bytes_in (range_of src count) x.0.memory) e r x.2)
    (λ later. begin_start k q p d partner (new_move q directions.From dest src count []) e r tt) g
accepted_start k q p (calls.SetPid logical x scope) e r is g = by_start k q (calls.SetPid logical x scope) _ e r g (λ c at. Before at)
accepted_start k q p (calls.GetPid logical scope) e r is g =
    by_start k q (calls.GetPid logical scope) _ e r g
    (got_start k q p logical (calls.GetPid logical scope) (found_at_once k q logical scope) r tt)
accepted_start k q p (calls.Load start count) e r is g = by_start k q (calls.Load start count) _ e r g (λ c at. Before at)
accepted_start k q p (calls.Store start bytes) e r is g =
    by_start k q (calls.Store start bytes) _ e r g
    (λ c at. Before (memory_calm k q p (with_bytes p.memory start bytes) r is c at))
accepted_start k q p calls.Exit e r is g = by_start k q calls.Exit _ e r g (λ c at. Before (exit_calm k q p r is c at))

called_start : (k : Kernel) (q : Pid) (p : Process) (d : Call) (o : Option Refusal) (e : Effect) (r : Pid) → k.procs q ≡ Some p →
    called k q p d o ≡ Some e → Starts k q d e r
called_start k q p d None e r is g = accepted_start k q p d e r is g
called_start k q p d (Some why) e r is g = by_start k q d _ e r g (λ c at. Before at)

-- a call, as it is answered
pub call_starts : (k : Kernel) (q : Pid) (d : Call) (o : Option Effect) (r : Pid) (c : Call) → call_step k q d ≡ o →
    doing (after_effect k o) r ≡ Some (states.Blocked c) → Blocked k q d (is_begun (effect_answer o)) r c
call_starts k q d None r c g at = Before at
call_starts k q d (Some e) r c g at =
    let p = bind_is (k.procs q) _ e g in called_start k q p.0 d (call_refusal k q p.0 d) e r p.1 p.2 c at

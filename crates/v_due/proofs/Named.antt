-- Who is blocked in a remote move has a name of it, behind whatever entries.
use Rattle.std.proofs.Common.{◌≡◌, ℕ, true, false, List, [], ◌∷◌, fold, option_map, Option, Some, None, is_some, refl, sym, subst, find}
use Rattle.std.proofs.lemmas.Bool.{both_ways, cond_both}
use Rattle.std.proofs.lemmas.Option.{same_Some}
use Rattle.vk_types.specs.Types.{Answer, Call, Move, Pid, Process, ProcessSpec, Refusal, State, Step}
use Rattle.vk_base.specs.declared.call.Call.TheVariants as calls
use Rattle.vk_base.specs.declared.kernel.Direction.TheVariants as directions
use Rattle.vk_base.specs.declared.kernel.State.TheVariants as states
use Rattle.vk_base.specs.declared.step.Step.TheVariants as steps
use Rattle.vk_base.specs.Brought.{brought, sender_heard, found_dead}
use Rattle.vk_base.specs.Calls.{Effect, accepted, begin_move, call_refusal, called, copied_at_once, exited, forwarded, found_at_once, get_pid, is_at_once, is_bereft, lookup_begun, move_begun, new_move, released, replied, sent}
use Rattle.vk_base.specs.Changes.{change_process}
use Rattle.vk_base.specs.Kernel.{◌>>=◌, Kernel, name_of, ended, held, initial_kernel, initial_process, is_moving, put_process}
use Rattle.vk_base.specs.Packets.{Packet, Send, Reply, Pending, Negative, MoveData, MoveAck, MoveRequest, MoveBytes, MoveNegative, AskPid, TellPid}
use Rattle.vk_base.specs.Pids.{same_pid}
use Rattle.vk_base.specs.Ranges.{range_of, bytes_in}
use Rattle.vk_base.specs.Settings.{Settings, is_process}
use Rattle.vk_base.specs.Steps.{effect, next, after_effect, with_arrival, arriving, taking, taken, finishing, failing, opening_move, move_opened, copying, copied, ending, hearing, asking, finding, collecting}
use Rattle.vk_base.proofs.OptionLemmas.{bind_is, mapped_is}
use Rattle.v_laws.proofs.Options.{of_either}
use Rattle.v_laws.proofs.StepLemmas.{copying_is}
use Rattle.vk_rules.specs.Entries.{Input, taken_packet}
use Rattle.vk_rules.specs.Readings.{reading, reading_after}
use Rattle.vk_rules.specs.Right.{entries_of, entry_of}
use Rattle.vk_rules.specs.View.{after_steps}
use Rattle.v_ages.proofs.Taken.{settled_procs}

abbrev pub IsNamed : Process → Type 0
IsNamed p = is_moving p.state ≡ true → is_some p.moving ≡ true

abbrev pub AreNamed : (Pid → Option Process) → Type 0
AreNamed procs = (q : Pid) (p : Process) → procs q ≡ Some p → IsNamed p

-- who is in no move
still_named : (p : Process) → is_moving p.state ≡ false → IsNamed p
still_named p rests t = absurd (both_ways (is_moving p.state) rests t)

ended_rests : (x : State) (a : Answer) → is_moving (ended x a) ≡ false
ended_rests states.Ready a = refl
ended_rests (states.Blocked c) a = refl
ended_rests (states.Done c b) a = refl

-- a process that is put
put_named : (procs : Pid → Option Process) (pid : Pid) (after : Process) → AreNamed procs → IsNamed after →
    AreNamed (put_process procs pid after)
unfolding put_process
put_named procs pid after all named q p = cond_both (same_pid q pid) (Some after) (procs q) (λ o. o ≡ Some p → IsNamed p)
    (λ t is. subst IsNamed (same_Some after p is) named) (λ f is. all q p is)

by_effect : (f e : Effect) → Some f ≡ Some e → AreNamed f.after.procs → AreNamed e.after.procs
by_effect f e g all = subst (λ (x : Effect). AreNamed x.after.procs) (same_Some f e g) all

-- Calls.
released_named : (k : Kernel) (pid q : Pid) (x : Process) → IsNamed x → IsNamed (released k pid q x)
released_named k pid q x named =
    cond_both (is_bereft k pid q x) (record x { state = ended x.state _ }) x (λ p. IsNamed p)
    (λ t. still_named (record x { state = ended x.state _ }) (ended_rests x.state _)) (λ f. named)

exit_named : (k : Kernel) (pid : Pid) (p : Process) → AreNamed k.procs → IsNamed p → AreNamed (exited k pid p).procs
unfolding exited
exit_named k pid p all named q y =
    cond_both (same_pid q pid) (Some (record p { alive = false })) (option_map (released k pid q) (k.procs q)) (λ o. o ≡ Some y → IsNamed y)
    (λ t is. subst IsNamed (same_Some (record p { alive = false }) y is) named)
    (λ f is. let x = mapped_is (released k pid q) (k.procs q) y is in
    subst IsNamed x.2 (released_named k pid q x.0 (all q x.0 x.1)))

once_named : (k : Kernel) (pid : Pid) (c : Call) (into : Pid) (dest : ℕ) (bytes : List ℕ) (e : Effect) → AreNamed k.procs →
    copied_at_once k pid c into dest bytes ≡ Some e → AreNamed e.after.procs
unfolding copied_at_once
once_named k pid c into dest bytes e all g =
    let q = bind_is (k.procs into) _ e g in
    by_effect _ e q.2 (put_named k.procs into _ all (all into q.0 q.1))

begin_named : (k : Kernel) (pid : Pid) (p : Process) (c : Call) (partner : Pid) (m : Move) (e : Effect) → AreNamed k.procs →
    begin_move k pid p c partner m ≡ Some e → AreNamed e.after.procs
unfolding move_begun
begin_named k pid p c partner m e all g =
    let number = bind_is (held k pid partner) _ e g in
    let x = bind_is (k.exchanges (name_of partner number.0)) _ e number.2 in
    by_effect _ e x.2 (put_named k.procs pid _ all (λ t. refl))

got_named : (k : Kernel) (pid : Pid) (p : Process) (logical : ℕ) (c : Call) (o : Option Pid) → is_moving (states.Blocked c) ≡ false →
    AreNamed k.procs → AreNamed (get_pid k pid p c logical o).after.procs
unfolding lookup_begun
got_named k pid p logical c None rests all = put_named k.procs pid _ all (λ t. absurd (both_ways (is_moving (states.Blocked c)) rests t))
got_named k pid p logical c (Some q) rests all = all

replied_named : (k : Kernel) (pid : Pid) (c : Call) (to : Pid) (dest : ℕ) (bytes : List ℕ) (m : _) (e : Effect) → AreNamed k.procs →
    replied k pid c to m dest bytes ≡ Some e → AreNamed e.after.procs
replied_named k pid c to dest bytes m e all g =
    let number = bind_is (held k pid to) _ e g in
    let x = bind_is (k.exchanges (name_of to number.0)) _ e number.2 in
    by_effect _ e x.2 all

accepted_named : (k : Kernel) (pid : Pid) (p : Process) (c : Call) (e : Effect) → AreNamed k.procs → k.procs pid ≡ Some p →
    accepted k pid p c ≡ Some e → AreNamed e.after.procs
unfolding sent forwarded
accepted_named k pid p (calls.Send target m) e all is g = by_effect _ e g (put_named k.procs pid _ all (λ t. absurd (both_ways false refl t)))
accepted_named k pid p calls.Receive e all is g = by_effect _ e g (put_named k.procs pid _ all (λ t. absurd (both_ways false refl t)))
accepted_named k pid p (calls.ReceiveSegment start count) e all is g =
    by_effect _ e g (put_named k.procs pid _ all (λ t. absurd (both_ways false refl t)))
accepted_named k pid p (calls.Reply m to) e all is g = replied_named k pid (calls.Reply m to) to 0 [] m e all g
accepted_named k pid p (calls.ReplySegment m to dest src count) e all is g =
    replied_named k pid (calls.ReplySegment m to dest src count) to dest (bytes_in (range_of src count) p.memory) m e all g
accepted_named k pid p (calls.Forward m from to) e all is g =
    let number = bind_is (held k pid from) _ e g in
    let x = bind_is (k.exchanges (name_of from number.0)) _ e number.2 in
    by_effect _ e x.2 all
accepted_named k pid p (calls.MoveTo partner dest src count) e all is g =
    let c : Call = calls.MoveTo partner dest src count in
    let bytes = bytes_in (range_of src count) p.memory in
    of_either (λ (x : Effect). AreNamed x.after.procs) (is_at_once pid partner count) (copied_at_once k pid c partner dest bytes)
    (begin_move k pid p c partner (new_move pid directions.To dest src count bytes)) e
    (λ once. once_named k pid c partner dest bytes e all)
    (λ later. begin_named k pid p c partner (new_move pid directions.To dest src count bytes) e all) g
accepted_named k pid p (calls.MoveFrom partner dest src count) e all is g =
    let c : Call = calls.MoveFrom partner dest src count in
    of_either (λ (x : Effect). AreNamed x.after.procs) (is_at_once pid partner count)
    (k.procs partner >>= λ q. copied_at_once k pid c pid dest (bytes_in (range_of src count) q.memory))
    (begin_move k pid p c partner (new_move pid directions.From dest src count [])) e
    (λ once h. let q = bind_is (k.procs partner) _ e h in once_named k pid c pid dest (bytes_in (range_of src count) q.0.memory) e all q.2)
    (λ later. begin_named k pid p c partner (new_move pid directions.From dest src count []) e all) g
accepted_named k pid p (calls.SetPid logical q scope) e all is g = by_effect _ e g all
accepted_named k pid p (calls.GetPid logical scope) e all is g =
    by_effect _ e g (got_named k pid p logical (calls.GetPid logical scope) (found_at_once k pid logical scope) refl all)
accepted_named k pid p (calls.Load start count) e all is g = by_effect _ e g all
accepted_named k pid p (calls.Store start bytes) e all is g = by_effect _ e g (put_named k.procs pid _ all (all pid p is))
accepted_named k pid p calls.Exit e all is g = by_effect _ e g (exit_named k pid p all (all pid p is))

called_named : (k : Kernel) (pid : Pid) (p : Process) (c : Call) (o : Option Refusal) (e : Effect) → AreNamed k.procs → k.procs pid ≡ Some p →
    called k pid p c o ≡ Some e → AreNamed e.after.procs
called_named k pid p c None e all is g = accepted_named k pid p c e all is g
called_named k pid p c (Some why) e all is g = by_effect _ e g all

-- Steps.
over_named : (k : Kernel) (q : Pid) (p : Process) (a : Answer) → AreNamed k.procs →
    AreNamed (put_process k.procs q (record p { state = ended p.state a }))
over_named k q p a all =
    put_named k.procs q (record p { state = ended p.state a }) all (still_named (record p { state = ended p.state a }) (ended_rests p.state a))

step_named : (k : Kernel) (s : Step) (e : Effect) → AreNamed k.procs → effect k s ≡ Some e → AreNamed e.after.procs
unfolding with_arrival taken move_opened copied
step_named k (steps.Call pid c) e all g =
    let p = bind_is (k.procs pid) _ e g in called_named k pid p.0 c (call_refusal k pid p.0 c) e all p.1 p.2
step_named k (steps.Arrive sender number) e all g =
    let f = bind_is (arriving k (name_of sender number)) _ e g in by_effect _ e f.2 all
step_named k (steps.Take q) e all g =
    let f = bind_is (taking k q) _ e g in by_effect _ e f.2 (put_named k.procs q _ all (λ t. absurd (both_ways false refl t)))
step_named k (steps.Finish q) e all g =
    let f = bind_is (finishing k q) _ e g in by_effect _ e f.2 (put_named k.procs q _ all (λ t. absurd (both_ways false refl t)))
step_named k (steps.Fail q why) e all g =
    let f = bind_is (failing k q why) _ e g in by_effect _ e f.2 (over_named k q f.0.0 _ all)
step_named k (steps.OpenMove sender number moving) e all g =
    let f = bind_is (opening_move k (name_of sender number) moving) _ e g in by_effect _ e f.2 all
step_named k (steps.Copy sender number moving offset count) e all g =
    let f = bind_is (copying k (name_of sender number) moving offset count) _ e g in
    let i = copying_is k (name_of sender number) moving offset count f.0 f.1 in
    by_effect _ e f.2 (put_named k.procs f.0.pid _ all (all f.0.pid f.0.process i.process))
step_named k (steps.End q why) e all g =
    let f = bind_is (ending k q why) _ e g in by_effect _ e f.2 (over_named k q f.0.0 f.0.1 all)
step_named k (steps.Hear asker number pid) e all g =
    let f = bind_is (hearing k asker number pid) _ e g in by_effect _ e f.2 all
step_named k (steps.Found q pid) e all g =
    let f = bind_is (finding k q pid) _ e g in by_effect _ e f.2 (over_named k q f.0 _ all)
step_named k (steps.Lost q) e all g =
    let f = bind_is (asking k q) _ e g in by_effect _ e f.2 (over_named k q f.0 _ all)
step_named k (steps.Collect q) e all g =
    let f = bind_is (collecting k q) _ e g in by_effect _ e f.2 (put_named k.procs q _ all (λ t. absurd (both_ways false refl t)))

by_step : (k : Kernel) (s : Step) (o : Option Effect) → effect k s ≡ o → AreNamed k.procs → AreNamed (after_effect k o).procs
by_step k s None g all = all
by_step k s (Some e) g all = step_named k s e all g

fold_named : (k : Kernel) (ss : List Step) → AreNamed k.procs → AreNamed (fold next k ss).procs
fold_named k [] all = all
fold_named k (s ∷ ss) all = fold_named (next k s) ss (by_step k s (effect k s) refl all)

-- Packets.
heard_named : (number : ℕ) (o : Option Process) → ((p : Process) → o ≡ Some p → IsNamed p) → IsNamed (sender_heard number o)
heard_named number None all = λ t. absurd (both_ways false refl t)
heard_named number (Some p) all = all p refl

dead_named : (procs : Pid → Option Process) (pid : Pid) → AreNamed procs → AreNamed (change_process procs pid found_dead)
unfolding change_process
dead_named procs pid all q p =
    cond_both (same_pid q pid) (option_map found_dead (procs q)) (procs q) (λ o. o ≡ Some p → IsNamed p)
    (λ t is. let x = mapped_is found_dead (procs q) p is in subst IsNamed x.2 (all q x.0 x.1)) (λ f is. all q p is)

brought_named : (k : Kernel) (p : Packet) → AreNamed k.procs → AreNamed (brought k p).procs
brought_named k (Send from to number m part) all = put_named k.procs from _ all (heard_named number (k.procs from) (λ p is. all from p is))
brought_named k (Reply from to number m dest bytes) all = all
brought_named k (Pending from to number) all = all
brought_named k (Negative from to number) all = dead_named k.procs from all
brought_named k (MoveData from to number moving dest total offset bytes) all = all
brought_named k (MoveAck from to number moving received) all = all
brought_named k (MoveRequest from to number moving src total offset) all = all
brought_named k (MoveBytes from to number moving total offset bytes) all = all
brought_named k (MoveNegative from to number moving) all = all
brought_named k (AskPid asker lookup logical) all = all
brought_named k (TellPid found asker lookup) all = all

after_named : (k : Kernel) (o : Option Packet) (ss : List Step) → AreNamed k.procs → AreNamed (after_steps k o ss).procs
after_named k None ss all = fold_named k ss all
after_named k (Some p) [] all = all
after_named k (Some p) (s ∷ ss) all =
    subst AreNamed (sym (settled_procs k (fold next (brought k p) (s ∷ ss)) p)) (fold_named (brought k p) (s ∷ ss) (brought_named k p all))

first_named : (specs : List ProcessSpec) → AreNamed (initial_kernel specs).procs
first_named specs q p is =
    let x = mapped_is initial_process (find (is_process q) specs) p is in
    subst IsNamed x.2 (λ t. absurd (both_ways false refl t))

pub named_behind : (c : Settings) (host : ℕ) (is : List Input) → AreNamed (reading c host (entries_of c host is)).view.procs
unfolding reading reading_after
named_behind c host [] = first_named c.specs
named_behind c host (i ∷ is) =
    let e = entry_of c host (entries_of c host is) i in
    after_named (reading c host (entries_of c host is)).view (taken_packet e) e.steps (named_behind c host is)

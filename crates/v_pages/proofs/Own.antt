-- Steps of one process and of others: its calls, what it takes, and what it sees.
use Rattle.std.proofs.Common.{◌≡◌, ◌⊎◌, ℕ, Bool, false, List, [], Option, Some, None, refl, sym, ap, subst, ◌∙◌, inl, inr}
use Rattle.std.proofs.lemmas.Bool.{cases_Bool, cond-false}
use Rattle.std.proofs.lemmas.Option.{same_Some}
use Rattle.vk_types.specs.Types.{Answer, Call, Message, Move, Pid, Process, Refusal, Step}
use Rattle.vk_base.specs.declared.answer.Answer.TheVariants as answers
use Rattle.vk_base.specs.declared.call.Call.TheVariants as calls
use Rattle.vk_base.specs.declared.kernel.Direction.TheVariants as directions
use Rattle.vk_base.specs.declared.step.Step.TheVariants as steps
use Rattle.vk_base.specs.Calls.{Effect, accepted, called, call_refusal, replied, forward, copied_at_once, begin_move, new_move, is_at_once, get_pid, found_at_once}
use Rattle.vk_base.specs.Kernel.{◌>>=◌, Kernel, name_of, held}
use Rattle.vk_base.specs.Pids.{same_pid}
use Rattle.vk_base.specs.Ranges.{range_of, bytes_in}
use Rattle.vk_base.specs.Steps.{effect, arriving, taking, finishing, failing, opening_move, copying, ending, hearing, finding, asking, collecting}
use Rattle.vk_base.proofs.OptionLemmas.{bind_is}
use Rattle.v_laws.specs.Reached.{saw}
use Rattle.v_laws.proofs.Options.{of_either}
use Rattle.v_laws.proofs.Tables.{same_pid_is}
use Rattle.v_pages.specs.Followed.{answer_in, call_by}
use Rattle.v_pages.specs.Requests.{taking_by}
use Rattle.v_pages.proofs.Calling.{told}

-- What is seen of a call is seen by its caller.
abbrev pub SeenBy : Pid → Call → Effect → Type 0
SeenBy pid c e = (e.seen ≡ None) ⊎ ((a : Answer) × (e.seen ≡ saw pid c a))

by_effect : (pid : Pid) (c : Call) (f e : Effect) → Some f ≡ Some e → SeenBy pid c f → SeenBy pid c e
by_effect pid c f e g seen = subst (SeenBy pid c) (same_Some f e g) seen

replied_seen : (k : Kernel) (pid : Pid) (c : Call) (to : Pid) (m : Message) (dest : ℕ) (bytes : List ℕ) (e : Effect) →
    replied k pid c to m dest bytes ≡ Some e → SeenBy pid c e
replied_seen k pid c to m dest bytes e g =
    let number = bind_is (held k pid to) _ e g in
    let x = bind_is (k.exchanges (name_of to number.0)) _ e number.2 in
    by_effect pid c _ e x.2 (inr (answers.Ok, refl))

forwarded_seen : (k : Kernel) (pid : Pid) (c : Call) (m : Message) (from to : Pid) (e : Effect) → forward k pid c m from to ≡ Some e →
    SeenBy pid c e
forwarded_seen k pid c m from to e g =
    let number = bind_is (held k pid from) _ e g in
    let x = bind_is (k.exchanges (name_of from number.0)) _ e number.2 in
    by_effect pid c _ e x.2 (inr (answers.Ok, refl))

at_once_seen : (k : Kernel) (pid : Pid) (c : Call) (into : Pid) (dest : ℕ) (bytes : List ℕ) (e : Effect) →
    copied_at_once k pid c into dest bytes ≡ Some e → SeenBy pid c e
unfolding copied_at_once
at_once_seen k pid c into dest bytes e g = let q = bind_is (k.procs into) _ e g in by_effect pid c _ e q.2 (inr (answers.Ok, refl))

begin_seen : (k : Kernel) (pid : Pid) (p : Process) (c : Call) (partner : Pid) (m : Move) (e : Effect) →
    begin_move k pid p c partner m ≡ Some e → SeenBy pid c e
begin_seen k pid p c partner m e g =
    let number = bind_is (held k pid partner) _ e g in
    let x = bind_is (k.exchanges (name_of partner number.0)) _ e number.2 in
    by_effect pid c _ e x.2 (inl refl)

got_seen : (k : Kernel) (pid : Pid) (p : Process) (c : Call) (logical : ℕ) (o : Option Pid) → SeenBy pid c (get_pid k pid p c logical o)
got_seen k pid p c logical None = inl refl
got_seen k pid p c logical (Some q) = inr (answers.Found q, refl)

accepted_seen : (k : Kernel) (pid : Pid) (p : Process) (c : Call) (e : Effect) → accepted k pid p c ≡ Some e → SeenBy pid c e
accepted_seen k pid p (calls.Send target m) e g = by_effect pid (calls.Send target m) _ e g (inl refl)
accepted_seen k pid p calls.Receive e g = by_effect pid calls.Receive _ e g (inl refl)
accepted_seen k pid p (calls.ReceiveSegment start count) e g = by_effect pid (calls.ReceiveSegment start count) _ e g (inl refl)
accepted_seen k pid p (calls.Reply m to) e g = replied_seen k pid (calls.Reply m to) to m 0 [] e g
accepted_seen k pid p (calls.ReplySegment m to dest src count) e g =
    replied_seen k pid (calls.ReplySegment m to dest src count) to m dest (bytes_in (range_of src count) p.memory) e g
accepted_seen k pid p (calls.Forward m from to) e g = forwarded_seen k pid (calls.Forward m from to) m from to e g
accepted_seen k pid p (calls.MoveTo partner dest src count) e g =
    let c : Call = calls.MoveTo partner dest src count in
    let bytes = bytes_in (range_of src count) p.memory in
    of_either (SeenBy pid c) (is_at_once pid partner count) (copied_at_once k pid c partner dest bytes)
    (begin_move k pid p c partner (new_move pid directions.To dest src count bytes)) e
    (λ once. at_once_seen k pid c partner dest bytes e)
    (λ later. begin_seen k pid p c partner (new_move pid directions.To dest src count bytes) e) g
accepted_seen k pid p (calls.MoveFrom partner dest src count) e g =
    let c : Call = calls.MoveFrom partner dest src count in
    of_either (SeenBy pid c) (is_at_once pid partner count)
    (k.procs partner >>= λ q. copied_at_once k pid c pid dest (bytes_in (range_of src count) q.memory))
    (begin_move k pid p c partner (new_move pid directions.From dest src count [])) e
    (λ once h. let q = bind_is (k.procs partner) _ e h in at_once_seen k pid c pid dest (bytes_in (range_of src count) q.0.memory) e q.2)
    (λ later. begin_seen k pid p c partner (new_move pid directions.From dest src count []) e) g
accepted_seen k pid p (calls.SetPid logical q scope) e g =
    by_effect pid (calls.SetPid logical q scope) _ e g (inr (answers.Ok, refl))
accepted_seen k pid p (calls.GetPid logical scope) e g = by_effect pid (calls.GetPid logical scope) _ e g
    (got_seen k pid p (calls.GetPid logical scope) logical (found_at_once k pid logical scope))
accepted_seen k pid p (calls.Load start count) e g =
    by_effect pid (calls.Load start count) _ e g (inr (answers.Loaded (bytes_in (range_of start count) p.memory), refl))
accepted_seen k pid p (calls.Store start bytes) e g = by_effect pid (calls.Store start bytes) _ e g (inr (answers.Ok, refl))
accepted_seen k pid p calls.Exit e g = by_effect pid calls.Exit _ e g (inr (answers.Ok, refl))

called_seen : (k : Kernel) (pid : Pid) (p : Process) (c : Call) (o : Option Refusal) (e : Effect) → called k pid p c o ≡ Some e →
    SeenBy pid c e
called_seen k pid p c None e g = accepted_seen k pid p c e g
called_seen k pid p c (Some why) e g = by_effect pid c _ e g (inr (answers.Refused why, refl))

pub call_seen : (k : Kernel) (pid : Pid) (c : Call) (e : Effect) → effect k (steps.Call pid c) ≡ Some e → SeenBy pid c e
call_seen k pid c e g = let p = bind_is (k.procs pid) _ e g in called_seen k pid p.0 c (call_refusal k pid p.0 c) e p.2

-- Steps of others.
abbrev pub own_step : Pid → Step → Bool
own_step r (steps.Call pid c) = same_pid pid r
own_step r (steps.Take q) = same_pid q r
own_step r (steps.Collect q) = same_pid q r
own_step r s = false

pub other_call : (r : Pid) (s : Step) → own_step r s ≡ false → call_by r s ≡ None
other_call r (steps.Call pid c) f = cond-false (same_pid pid r) (Some c) None f
other_call r s f = refl

pub other_take : (r : Pid) (k : Kernel) (s : Step) → own_step r s ≡ false → taking_by r k s ≡ None
other_take r k (steps.Take q) f = cond-false (same_pid q r) (taking k q) None f
other_take r k s f = refl

seen_by_other : (r pid : Pid) (c : Call) (a : Answer) (e : Effect) → same_pid pid r ≡ false → e.seen ≡ saw pid c a → told r e ≡ None
seen_by_other r pid c a e f is = ap (λ o. o >>= answer_in r) is ∙ cond-false (same_pid pid r) (Some a) None f

call_by_other : (r pid : Pid) (c : Call) (e : Effect) → same_pid pid r ≡ false → SeenBy pid c e → told r e ≡ None
call_by_other r pid c e f (inl none) = ap (λ o. o >>= answer_in r) none
call_by_other r pid c e f (inr some) = seen_by_other r pid c some.0 e f some.1

by_unseen : (r : Pid) (f e : Effect) → Some f ≡ Some e → told r f ≡ None → told r e ≡ None
by_unseen r f e g none = ap (told r) (sym (same_Some f e g)) ∙ none

pub other_told : (r : Pid) (k : Kernel) (s : Step) (e : Effect) → own_step r s ≡ false → effect k s ≡ Some e → told r e ≡ None
other_told r k (steps.Call pid c) e f g = call_by_other r pid c e f (call_seen k pid c e g)
other_told r k (steps.Arrive sender number) e f g = let x = bind_is (arriving k (name_of sender number)) _ e g in by_unseen r _ e x.2 refl
other_told r k (steps.Take q) e f g = let x = bind_is (taking k q) _ e g in by_unseen r _ e x.2 refl
other_told r k (steps.Finish s) e f g = let x = bind_is (finishing k s) _ e g in by_unseen r _ e x.2 refl
other_told r k (steps.Fail s why) e f g = let x = bind_is (failing k s why) _ e g in by_unseen r _ e x.2 refl
other_told r k (steps.OpenMove sender number moving) e f g = let x = bind_is (opening_move k (name_of sender number) moving) _ e g in
    by_unseen r _ e x.2 refl
other_told r k (steps.Copy sender number moving offset count) e f g =
    let x = bind_is (copying k (name_of sender number) moving offset count) _ e g in by_unseen r _ e x.2 refl
other_told r k (steps.End q why) e f g = let x = bind_is (ending k q why) _ e g in by_unseen r _ e x.2 refl
other_told r k (steps.Hear asker number pid) e f g = let x = bind_is (hearing k asker number pid) _ e g in by_unseen r _ e x.2 refl
other_told r k (steps.Found asker pid) e f g = let x = bind_is (finding k asker pid) _ e g in by_unseen r _ e x.2 refl
other_told r k (steps.Lost asker) e f g = let x = bind_is (asking k asker) _ e g in by_unseen r _ e x.2 refl
other_told r k (steps.Collect pid) e f g =
    let d = bind_is (collecting k pid) _ e g in
    by_unseen r _ e d.2 (cond-false (same_pid pid r) (Some d.0.answer) None f)

-- Its own steps.
pub data OwnStep (r : Pid) (s : Step) : Type 0 where
  makes : (c : Call) → s ≡ steps.Call r c → OwnStep r s
  takes : s ≡ steps.Take r → OwnStep r s
  collects : s ≡ steps.Collect r → OwnStep r s
  others : own_step r s ≡ false → OwnStep r s

pub which_step : (r : Pid) (s : Step) → OwnStep r s
which_step r (steps.Call pid c) = elim (cases_Bool (same_pid pid r)) [
  | inl t ↦ OwnStep.makes c (ap (λ q. steps.Call q c) (same_pid_is pid r t))
  | inr f ↦ OwnStep.others f
]
which_step r (steps.Take q) = elim (cases_Bool (same_pid q r)) [
  | inl t ↦ OwnStep.takes (ap (λ z. steps.Take z) (same_pid_is q r t))
  | inr f ↦ OwnStep.others f
]
which_step r (steps.Collect q) = elim (cases_Bool (same_pid q r)) [
  | inl t ↦ OwnStep.collects (ap (λ z. steps.Collect z) (same_pid_is q r t))
  | inr f ↦ OwnStep.others f
]
which_step r s = OwnStep.others refl

-- Each call of a program of pages leaves a plain view plain.
use Rattle.std.proofs.Common.{◌≡◌, ℕ, ◌+◌, cond, ◌++◌, ◌∷◌, [], Option, Some, None, refl}
use Rattle.vk_types.specs.Types.{Call, Message, Pid, Process, Refusal}
use Rattle.vk_base.specs.declared.call.Call.TheVariants as calls
use Rattle.vk_base.specs.declared.kernel.Stage.TheVariants as stages
use Rattle.vk_base.specs.declared.kernel.State.TheVariants as states
use Rattle.vk_base.specs.declared.step.Step.TheVariants as steps
use Rattle.vk_base.specs.Calls.{Effect, accepted, call_refusal, called, replied, sent, sent_exchange}
use Rattle.vk_base.specs.Kernel.{Kernel, held, name_of, put_exchange}
use Rattle.vk_base.specs.Messages.{IsMessage}
use Rattle.vk_base.specs.Pids.{same_host}
use Rattle.vk_base.specs.Ranges.{bytes_in, range_of, with_bytes}
use Rattle.vk_base.specs.Steps.{after_effect, effect}
use Rattle.vk_base.proofs.OptionLemmas.{bind_is}
use Rattle.v_storm.proofs.Views.{IsOurs, IsPlain, IsPlainView}
use Rattle.v_storm.proofs.Changes.{plain_exchanges, plain_on, plain_put, plain_stage}
use Rattle.v_storm.proofs.Steps.{as_plain}
use Rattle.std.specs.Prelude.{List}

sent_on : (host : ℕ) (k : Kernel) (pid : Pid) (p : Process) (target : Pid) (m : Message) → IsPlainView host k → k.procs pid ≡ Some p →
    IsOurs pid → IsOurs target → IsMessage m → IsPlainView host (sent k pid p target m)
unfolding sent
sent_on host k pid p target m v at own to message =
    plain_on host k pid p (record p { state = states.Blocked (calls.Send target m); sends = p.sends + 1 })
    (put_exchange k.exchanges (name_of pid (p.sends + 1)) (sent_exchange pid p target m))
    (cond (same_host pid target) (k.arrived ++ name_of pid (p.sends + 1) ∷ []) k.arrived) v at refl (to, message)
    (plain_put k.exchanges (name_of pid (p.sends + 1)) (sent_exchange pid p target m) v.exchanges
    (record { sender = own; target = to; shown = message; none = refl }))

replied_on : (host : ℕ) (k : Kernel) (pid : Pid) (c : Call) (to : Pid) (m : Message) (dest : ℕ) (bytes : List ℕ) (e : Effect) →
    IsPlainView host k → replied k pid c to m dest bytes ≡ Some e → IsPlainView host e.after
replied_on host k pid c to m dest bytes e v g =
    let number = bind_is (held k pid to) _ e g in
    let x = bind_is (k.exchanges (name_of to number.0)) _ e number.2 in
    as_plain host _ e x.2
    (plain_exchanges host k (put_exchange k.exchanges (name_of to number.0) (record x.0 { stage = stages.Replied m dest bytes })) k.arrived v
    (plain_put k.exchanges (name_of to number.0) (record x.0 { stage = stages.Replied m dest bytes }) v.exchanges
    (plain_stage (name_of to number.0) x.0 (stages.Replied m dest bytes) (v.exchanges (name_of to number.0) x.0 x.1))))

accepted_on : (host : ℕ) (k : Kernel) (pid : Pid) (p : Process) (c : Call) (e : Effect) → IsPlainView host k → k.procs pid ≡ Some p →
    IsOurs pid → IsPlain c → accepted k pid p c ≡ Some e → IsPlainView host e.after
accepted_on host k pid p (calls.Send target m) e v at own plain g =
    as_plain host _ e g (sent_on host k pid p target m v at own plain.0 plain.1)
accepted_on host k pid p (calls.ReceiveSegment start count) e v at own plain g =
    as_plain host _ e g
    (plain_on host k pid p (record p { state = states.Blocked (calls.ReceiveSegment start count) }) k.exchanges k.arrived v at refl tt
    v.exchanges)
accepted_on host k pid p (calls.Reply m to) e v at own plain g = replied_on host k pid (calls.Reply m to) to m 0 [] e v g
accepted_on host k pid p (calls.ReplySegment m to dest src count) e v at own plain g =
    replied_on host k pid (calls.ReplySegment m to dest src count) to m dest (bytes_in (range_of src count) p.memory) e v g
accepted_on host k pid p (calls.Load start count) e v at own plain g = as_plain host _ e g v
accepted_on host k pid p (calls.Store start bytes) e v at own plain g =
    as_plain host _ e g
    (plain_on host k pid p (record p { memory = with_bytes p.memory start bytes }) k.exchanges k.arrived v at refl (v.states pid p at)
    v.exchanges)
accepted_on host k pid p c e v at own plain g = absurd plain

called_on : (host : ℕ) (k : Kernel) (pid : Pid) (p : Process) (c : Call) (why : Option Refusal) (e : Effect) → IsPlainView host k →
    k.procs pid ≡ Some p → IsOurs pid → IsPlain c → called k pid p c why ≡ Some e → IsPlainView host e.after
called_on host k pid p c None e v at own plain g = accepted_on host k pid p c e v at own plain g
called_on host k pid p c (Some why) e v at own plain g = as_plain host _ e g v

pub call_plain : (host : ℕ) (k : Kernel) (pid : Pid) (c : Call) (o : Option Effect) → effect k (steps.Call pid c) ≡ o → IsOurs pid →
    IsPlain c → IsPlainView host k → IsPlainView host (after_effect k o)
call_plain host k pid c None g own plain v = v
call_plain host k pid c (Some e) g own plain v =
    let p = bind_is (k.procs pid) _ e g in called_on host k pid p.0 c (call_refusal k pid p.0 c) e v p.1 own plain p.2

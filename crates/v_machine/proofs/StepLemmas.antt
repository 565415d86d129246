-- What a step does where it is allowed, from what was found.
use Rattle.std.proofs.Common.{◌≡◌, ℕ, Bool, true, false, ◌&&◌, not, List, [], ◌∷◌, Option, Some, None, is_none, nat_lt, refl, sym, ap, ◌∙◌}
use Rattle.std.proofs.lemmas.Bool.{both_ways}
use Rattle.std.proofs.lemmas.Option.{same_Some, none-some}
use Rattle.vk_types.specs.Types.{Answer, Call, Ending, Exchange, Message, Pid, Process, Refusal, Stage}
use Rattle.vk_base.specs.declared.answer.Answer.TheVariants as answers
use Rattle.vk_base.specs.declared.answer.Refusal.TheVariants as refusals
use Rattle.vk_base.specs.declared.call.Call.TheVariants as calls
use Rattle.vk_base.specs.declared.kernel.Stage.TheVariants as stages
use Rattle.vk_base.specs.declared.kernel.State.TheVariants as states
use Rattle.vk_base.specs.Calls.{answered, unseen, called, first_that_holds, replied, forwarded}
use Rattle.vk_base.specs.Kernel.{◌>>=◌, Kernel, is_live, held, held_exchange, with_stage, name_of, with_state, put_process, sending, reply_of, finished_call, ended}
use Rattle.vk_base.specs.Pids.{same_host}
use Rattle.vk_base.specs.Ranges.{with_bytes}
use Rattle.vk_base.specs.Steps.{collecting, collect_step, failing, failure, fail_step, finishing, finish_step, finished, only_if}
use Rattle.v_machine.specs.Kept.{IsNoNearer}
use Rattle.v_machine.specs.Rules.{judged}

-- one more thing that was found
pub found : {A B : Type 0} (o : Option A) (a : A) (f : A → Option B) (r : Option B) → o ≡ Some a → f a ≡ r → (o >>= f) ≡ r
found o a f r is e = ap (λ o. o >>= f) is ∙ e

pub collect_allowed : (k after : Kernel) (pid : Pid) (p : Process) (c : Call) (a : Answer) → k.procs pid ≡ Some p →
    finished_call p.state ≡ Some (c, a) → after ≡ with_state k pid p states.Ready → collect_step k pid ≡ Some (answered after pid c a)
unfolding collecting
collect_allowed k after pid p c a there done is =
    let o : collecting k pid ≡ Some (record { process = p; call = c; answer = a }) =
    found (k.procs pid) p _ _ there (found (finished_call p.state) (c, a) _ _ done refl) in
    found (collecting k pid) _ _ _ o (ap (λ z. Some (answered z pid c a)) (sym is))

pub fail_allowed : (k after : Kernel) (pid : Pid) (p : Process) (send : Pid × Message) (e : Exchange) (why : Ending) (refusal : Refusal) →
    k.procs pid ≡ Some p → sending p.state ≡ Some send → k.exchanges (name_of pid p.sends) ≡ Some e →
    same_host pid e.target ≡ false → failure k e why ≡ Some refusal → after ≡ with_state k pid p (ended p.state (answers.Refused refusal)) →
    fail_step k pid why ≡ Some (unseen after)
unfolding failing
fail_allowed k after pid p send e why refusal there blocked at far fails is =
    let o : failing k pid why ≡ Some (p, refusal) =
    found (k.procs pid) p _ _ there
    (found (sending p.state >>= λ s. k.exchanges (name_of pid p.sends)) e _ _ (found (sending p.state) send _ _ blocked at)
    (found (only_if (not (same_host pid e.target)) (failure k e why)) refusal _ _ (ap (λ b. only_if (not b) (failure k e why)) far ∙ fails)
    refl)) in
    found (failing k pid why) _ _ _ o (ap (λ z. Some (unseen z)) (sym is))

pub finish_allowed : (k after : Kernel) (pid : Pid) (p : Process) (send : Pid × Message) (e : Exchange) (m : Message) (dest : ℕ)
    (bytes : List ℕ) → k.procs pid ≡ Some p → sending p.state ≡ Some send → k.exchanges (name_of pid p.sends) ≡ Some e →
    reply_of e.stage ≡ Some (m, dest, bytes) →
    after ≡ record k {
      procs = put_process k.procs pid
          (record p { memory = with_bytes p.memory dest bytes; state = states.Done (calls.Send send.0 send.1) (answers.Replied m) });
    } →
    finish_step k pid ≡ Some (unseen after)
unfolding finishing
finish_allowed k after pid p send e m dest bytes there blocked at replied is =
    let o : finishing k pid ≡ Some (record { process = p; target = send.0; message = send.1; reply = m; dest = dest; bytes = bytes }) =
    found (k.procs pid) p _ _ there (found (sending p.state) send _ _ blocked
    (found (k.exchanges (name_of pid p.sends)) e _ _ at (found (reply_of e.stage) (m, dest, bytes) _ _ replied refl))) in
    found (finishing k pid) _ _ _ o (ap (λ z. Some (unseen z)) (sym is))

pub finish_not : (k : Kernel) (pid : Pid) (p : Process) (send : Pid × Message) (e : Exchange) → k.procs pid ≡ Some p →
    sending p.state ≡ Some send → k.exchanges (name_of pid p.sends) ≡ Some e → reply_of e.stage ≡ None → finish_step k pid ≡ None
unfolding finishing
finish_not k pid p send e there blocked at none =
    let o : finishing k pid ≡ None =
    found (k.procs pid) p _ _ there (found (sending p.state) send _ _ blocked
    (found (k.exchanges (name_of pid p.sends)) e _ _ at
    (ap (λ r. r >>= λ reply.
    Some (record { process = p; target = send.0; message = send.1; reply = reply.0; dest = reply.1; bytes = reply.2 })) none))) in
    ap (λ f. f >>= λ f. Some (unseen (finished k pid f))) o

-- a stage that has a reply
pub replied_is : (s : Stage) (m : Message) (dest : ℕ) (bytes : List ℕ) → reply_of s ≡ Some (m, dest, bytes) →
    s ≡ stages.Replied m dest bytes
replied_is stages.Posted m dest bytes is = absurd (none-some _ is)
replied_is stages.Queued m dest bytes is = absurd (none-some _ is)
replied_is stages.Taken m dest bytes is = absurd (none-some _ is)
replied_is (stages.Replied m0 dest0 bytes0) m dest bytes is =
    ap (λ (r : Message × ℕ × List ℕ). stages.Replied r.0 r.1 r.2) (same_Some (m0, dest0, bytes0) (m, dest, bytes) is)
replied_is stages.Dropped m dest bytes is = absurd (none-some _ is)

-- Replies.
pub reply_allowed : (k after : Kernel) (pid to : Pid) (c : Call) (m : Message) (dest number : ℕ) (bytes : List ℕ) (e : Exchange) →
    held k pid to ≡ Some number → k.exchanges (name_of to number) ≡ Some e →
    after ≡ with_stage k (name_of to number) e (stages.Replied m dest bytes) →
    replied k pid c to m dest bytes ≡ Some (answered after pid c answers.Ok)
reply_allowed k after pid to c m dest number bytes e holds at is =
    found (held k pid to) number _ _ holds
    (found (k.exchanges (name_of to number)) e _ _ at (ap (λ z. Some (answered z pid c answers.Ok)) (sym is)))

-- Forward, of a process that is alive and ready.
pub forward_allowed : (k after : Kernel) (pid : Pid) (p : Process) (m : Message) (from to : Pid) (number : ℕ) (e : Exchange) →
    held k pid from ≡ Some number → (same_host pid to && is_live (k.procs to)) ≡ true → k.exchanges (name_of from number) ≡ Some e →
    after ≡ forwarded k (name_of from number) e m to →
    judged k pid p (calls.Forward m from to) ≡ Some (answered after pid (calls.Forward m from to) answers.Ok)
forward_allowed k after pid p m from to number e holds near at is =
    let c : Call = calls.Forward m from to in
    (λ i. called k pid p c (first_that_holds ((is_none (holds i), refusals.NotAwaiting) ∷ (not (near i), refusals.NoProcess) ∷ [])))
    ∙ found (held k pid from) number _ _ holds
    (found (k.exchanges (name_of from number)) e _ _ at (ap (λ z. Some (answered z pid c answers.Ok)) (sym is)))

pub forward_nowhere : (k : Kernel) (pid : Pid) (p : Process) (m : Message) (from to : Pid) (number : ℕ) →
    held k pid from ≡ Some number → (same_host pid to && is_live (k.procs to)) ≡ false →
    judged k pid p (calls.Forward m from to) ≡ Some (answered k pid (calls.Forward m from to) (answers.Refused refusals.NoProcess))
forward_nowhere k pid p m from to number holds far =
    let c : Call = calls.Forward m from to in
    λ i. called k pid p c (first_that_holds ((is_none (holds i), refusals.NotAwaiting) ∷ (not (far i), refusals.NoProcess) ∷ []))

-- what replaces a stage with a reply is no nearer
pub replied_is_nearer : (s : Stage) (m : Message) (dest : ℕ) (bytes : List ℕ) → IsNoNearer s (stages.Replied m dest bytes)
replied_is_nearer s m dest bytes = record {
  queued = λ t. absurd (both_ways false refl t);
  live = λ t. absurd (both_ways false refl t);
  posted = λ t. absurd (both_ways false refl t);
}

-- The tests of an access to a sender that is held.
pub tests_held : (k : Kernel) (pid to : Pid) (limit count number : ℕ) (e : Exchange) (may within : Option Exchange → Bool) →
    nat_lt limit count ≡ false → held k pid to ≡ Some number → k.exchanges (name_of to number) ≡ Some e →
    first_that_holds ((nat_lt limit count, refusals.TooLong) ∷ (is_none (held k pid to), refusals.NotAwaiting)
    ∷ (not (may (held_exchange k pid to)), refusals.NoAccess) ∷ (not (within (held_exchange k pid to)), refusals.BadRange) ∷ [])
    ≡ first_that_holds ((not (may (Some e)), refusals.NoAccess) ∷ (not (within (Some e)), refusals.BadRange) ∷ [])
tests_held k pid to limit count number e may within short holds at =
    let exchange : held_exchange k pid to ≡ Some e = found (held k pid to) number _ _ holds at in
    λ i. first_that_holds ((short i, refusals.TooLong) ∷ (is_none (holds i), refusals.NotAwaiting)
    ∷ (not (may (exchange i)), refusals.NoAccess) ∷ (not (within (exchange i)), refusals.BadRange) ∷ [])

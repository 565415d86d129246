-- The laws of works that fail.
use Rattle.std.proofs.Common.{◌≡◌, ℕ, ◌+◌, Bool, true, false, cond, List, [], ◌∷◌, map, filter, Option, Some, None, refl, sym, ap, subst, ◌∙◌}
use Rattle.std.proofs.lemmas.Bool.{eqb-true, not-true}
use Rattle.std.proofs.lemmas.Option.{same_Some, none-some}
use Rattle.std.specs.List.{list_any}
use Rattle.vk_types.specs.Types.{Answer, Call, Pid, Process, ProcessSpec, Refusal, State}
use Rattle.vk_base.specs.declared.answer.Answer.TheVariants as answers
use Rattle.vk_base.specs.declared.call.Call.TheVariants as calls
use Rattle.vk_base.specs.declared.kernel.State.TheVariants as states
use Rattle.vk_base.specs.Kernel.{◌>>=◌, finished_call, sending}
use Rattle.vk_base.specs.Packets.{Packet}
use Rattle.vk_base.specs.Pids.{same_pid, same_host}
use Rattle.vk_base.specs.Settings.{Settings, is_on}
use Rattle.v_laws.proofs.Tables.{same_pid_is}
use Rattle.vk_rules.specs.CallOutcomes.{tick_outcome}
use Rattle.vk_rules.specs.Each.{Each}
use Rattle.vk_rules.specs.Entries.{Input, Ticked}
use Rattle.vk_rules.specs.Readings.{Reading, reading, reading_after}
use Rattle.vk_rules.specs.Right.{entries_of, own_pids, right_entry}
use Rattle.v_ages.proofs.Taken.{any_each}
use Rattle.v_whole.specs.Delays.{IsGivenUp}
use Rattle.v_whole.proofs.AnyEntries.{view_entries}
use Rattle.v_ended.specs.Ends.{is_work}
use Rattle.v_ended.proofs.Calling.{IsSoundView}
use Rattle.v_ended.proofs.Spared as spared
use Rattle.v_due.specs.Failures.{FailuresComeWhenDue, IsAtWork, IsBlocked, UnansweredWorksFail, failure_of, reading_behind}
use Rattle.v_due.proofs.Named.{named_behind}
use Rattle.v_due.proofs.Packets.{RefusedBy}
use Rattle.v_due.proofs.Ticks.{StandsAtWork, all_failed}
use Rattle.v_due.proofs.Told.{Cause, Frame, Tick, refused_by, view_after}

-- the processes of the station are on it
kept_here : (host : ℕ) (b : Bool) (x : ProcessSpec) (xs : List ProcessSpec) → is_on host x ≡ b →
    Each (λ (q : Pid). q.host ≡ host) (map (λ (s : ProcessSpec). s.pid) xs) →
    Each (λ (q : Pid). q.host ≡ host) (map (λ (s : ProcessSpec). s.pid) (cond b (x ∷ xs) xs))
kept_here host true x xs t rest = (eqb-true x.pid.host host t, rest)
kept_here host false x xs t rest = rest

each_here : (host : ℕ) (specs : List ProcessSpec) →
    Each (λ (q : Pid). q.host ≡ host) (map (λ (s : ProcessSpec). s.pid) (filter (is_on host) specs))
each_here host [] = tt
each_here host (x ∷ xs) = kept_here host (is_on host x) x (filter (is_on host) xs) refl (each_here host xs)

pub own_here : (c : Settings) (host : ℕ) (s : Pid) → list_any (same_pid s) (own_pids c host) ≡ true → s.host ≡ host
own_here c host s there =
    any_each (s.host ≡ host) (same_pid s) (own_pids c host) there (same_hosts (own_pids c host) (each_here host c.specs))
  where
    same_hosts : (qs : List Pid) → Each (λ (q : Pid). q.host ≡ host) qs → Each (λ q. same_pid s q ≡ true → s.host ≡ host) qs
    same_hosts [] each = tt
    same_hosts (q ∷ qs) each = (λ t. ap (λ (z : Pid). z.host) (same_pid_is s q t) ∙ each.0, same_hosts qs each.1)

-- a call that is over, by what the process does
pub over_doing : (o : Option Process) (c : Call) (a : Answer) → (o >>= λ p. finished_call p.state) ≡ Some (c, a) →
    spared.state_of o ≡ Some (states.Done c a)
over_doing None c a is = absurd (none-some (c, a) is)
over_doing (Some p) c a is = ap Some (by_state p.state is)
  where
    by_state : (x : State) → finished_call x ≡ Some (c, a) → x ≡ states.Done c a
    by_state states.Ready is = absurd (none-some (c, a) is)
    by_state (states.Blocked d) is = absurd (none-some (c, a) is)
    by_state (states.Done d b) is = let same = same_Some (d, b) (c, a) is in ap (λ (z : Call × Answer). states.Done z.0 z.1) same

-- A process that is blocked behind these inputs.
pub doing_behind : (c : Settings) (host : ℕ) (is : List Input) (s : Pid) (call : Call) → IsBlocked c host is s call →
    spared.doing (reading_behind c host is).view s ≡ Some (states.Blocked call)
doing_behind c host is s call waits = spared.blocked_doing ((reading_behind c host is).view.procs s) call waits.blocked

pub at_work : (c : Settings) (host : ℕ) (is : List Input) (s : Pid) (call : Call) → IsAtWork c host is s call →
    spared.IsAtWork (reading_behind c host is).view s
at_work c host is s call at = record { call = call; is = doing_behind c host is s call at.waits; work = at.work }

-- what a refusal came by
pub cause_of : (c : Settings) (host : ℕ) (is : List Input) (i : Input) (s : Pid) (call : Call) (why : Refusal) → IsAtWork c host is s call →
    ((reading c host (entries_of c host (i ∷ is))).view.procs s >>= λ p. finished_call p.state) ≡ Some (call, answers.Refused why) →
    Cause c host (reading_behind c host is) i s why
unfolding reading
cause_of c host is i s call why at refused =
    let rd = reading_behind c host is in
    refused_by c host rd i s why (view_entries c host is at.waits.own).sound (own_here c host s at.waits.here)
    (at_work c host is s call at) call (over_doing ((view_after c host rd i).procs s) call (answers.Refused why) refused)

-- no packet brings a failure
no_packet : (c : Settings) (host : ℕ) (rd : Reading) (i : Input) (s : Pid) (why : Refusal) → Cause c host rd i s why →
    ((p : Packet) → RefusedBy rd.view s p why → ⊥) → IsGivenUp c.times rd i s
no_packet c host rd i s why (Tick given_up late) none = given_up
no_packet c host rd i s why (Frame p taken by) none = absurd (none p by)

unfailed : (rd : Reading) (s : Pid) (call : Call) (p : Packet) → RefusedBy rd.view s p (failure_of call) → ⊥
unfailed rd s (calls.GetPid logical scope) p by = by
unfailed rd s call p by = by

pub failures_come_when_due : FailuresComeWhenDue
failures_come_when_due c host is i s call at refused =
    no_packet c host (reading_behind c host is) i s (failure_of call) (cause_of c host is i s call (failure_of call) at refused)
    (λ p. unfailed (reading_behind c host is) s call p)

-- What a process at work has.
pub stands_behind : (c : Settings) (host : ℕ) (is : List Input) (s : Pid) (call : Call) (o : Option Process) → IsAtWork c host is s call →
    (reading_behind c host is).view.procs s ≡ o → StandsAtWork (reading_behind c host is).view s call
stands_behind c host is s call None at there =
    absurd (none-some _ (sym (ap spared.state_of there) ∙ doing_behind c host is s call at.waits))
stands_behind c host is s call (Some p) at there =
    let k = (reading_behind c host is).view in
    let sound : IsSoundView k = (view_entries c host is at.waits.own).sound in
    let state = same_Some p.state (states.Blocked call) (sym (ap spared.state_of there) ∙ doing_behind c host is s call at.waits) in
    record {
      process = p;
      is = there;
      state = state;
      sent = λ target m same. let x = sound.sent s p target m there (ap sending state ∙ ap (λ z. sending (states.Blocked z)) same) in
          (x.exchange, x.is, ap (same_host s) x.target ∙ not-true (same_host s target) (sym (ap (is_work s) same) ∙ at.work));
      named = named_behind c host is s p there;
    }

pub unanswered_works_fail : UnansweredWorksFail
unfolding reading reading_after right_entry tick_outcome
unanswered_works_fail c host is i s call at given_up =
    let rd = reading_behind c host is in
    let over = all_failed c.times (rd.now + 1) rd s call (own_pids c host) rd.view at.work (doing_behind c host is s call at.waits)
    given_up.due given_up.unanswered at.waits.here (stands_behind c host is s call (rd.view.procs s) at refl) in
    subst (λ x. ((view_after c host rd x).procs s >>= λ p. finished_call p.state) ≡ Some (call, answers.Refused (failure_of call)))
    (sym given_up.tick)
    (spared.doing_over ((view_after c host rd Ticked).procs s) call (answers.Refused (failure_of call)) over)

-- Calls and collects that change nothing.
use Rattle.std.proofs.Common.{◌≡◌, ℕ, false, ◌&&◌, [], ◌∷◌, fold, Option, Some, None, refl, ap, ◌∙◌}
use Rattle.std.specs.Option.{is_some}
use Rattle.vk_types.specs.Types.{Answer, Call, EventAnswer, Pid, Process, Refusal}
use Rattle.vk_base.specs.declared.answer.Answer.TheVariants as answers
use Rattle.vk_base.specs.declared.call.Call.TheVariants as calls
use Rattle.vk_base.specs.declared.event.EventAnswer.TheVariants as events_answered
use Rattle.vk_base.specs.declared.step.Step.TheVariants as steps
use Rattle.vk_base.specs.Calls.{Effect, answered, call_refusal, called}
use Rattle.vk_base.specs.Kernel.{◌>>=◌, Kernel}
use Rattle.vk_base.specs.Pids.{same_host}
use Rattle.vk_base.specs.Settings.{Settings}
use Rattle.vk_base.specs.Steps.{after_effect, effect, next}
use Rattle.vk_rules.specs.CallOutcomes.{effect_answer, is_ok, steps_behind, take_where}
unfoldable use Rattle.vk_rules.specs.CallOutcomes.{call_outcome, collect_outcome}
use Rattle.vk_rules.specs.Entries.{Called, Collected, is_begun}
use Rattle.vk_rules.specs.Readings.{Reading}
unfoldable use Rattle.vk_rules.specs.Readings.{reading_after}
use Rattle.vk_rules.specs.Right.{answer_to}
unfoldable use Rattle.vk_rules.specs.Right.{right_entry}
use Rattle.vk_rules.specs.Rounds.{list_if}
use Rattle.vk_stands.specs.Rules.{packets_in}
use Rattle.vk_stands.specs.Stands.{Stands}
use Rattle.vk_stands.specs.Tables.{Tables}
use Rattle.vk_stands.proofs.After.{entry_for, events_are, packets_are, reading_for}
use Rattle.vk_stands.proofs.AfterCalls.{quiet_packets}
use Rattle.vk_stands.proofs.AfterEntries.{answered_works, called_steps, called_view, collected_slots, collected_view, collected_works, refused_slots}
use Rattle.vk_stands.proofs.Whole.{stands_same}

-- behind a call that is neither begun nor answered ok nothing happens
pub none_behind : (k : Kernel) (pid : Pid) (call : Call) (a : EventAnswer) → is_begun a ≡ false → is_ok a ≡ false →
    steps_behind k pid call a ≡ []
none_behind k pid (calls.Send target m) a unbegun bad = ap (λ b. list_if (b && same_host pid target) (take_where k target)) unbegun
none_behind k pid calls.Receive a unbegun bad = ap (λ b. list_if b (take_where k pid)) unbegun
none_behind k pid (calls.ReceiveSegment start count) a unbegun bad = ap (λ b. list_if b (take_where k pid)) unbegun
none_behind k pid (calls.Reply m to) a unbegun bad = ap (λ b. list_if (b && same_host pid to) (steps.Finish to ∷ [])) bad
none_behind k pid (calls.ReplySegment m to dest src count) a unbegun bad =
    ap (λ b. list_if (b && same_host pid to) (steps.Finish to ∷ [])) bad
none_behind k pid (calls.Forward m from to) a unbegun bad = ap (λ b. list_if b (take_where k to)) bad
none_behind k pid c a unbegun bad = refl

-- What an entry is that says so much: one step, no packets, and the tables stand for the reading after it.
pub record IsQuiet (c : Settings) (host : ℕ) (t : Tables) (r : Reading) (pid : Pid) (call : Call) : Type 0 where
  pub steps : (entry_for c host r (Called pid call)).steps ≡ steps.Call pid call ∷ []
  pub packets : packets_in (entry_for c host r (Called pid call)) ≡ []
  pub stands : Stands c.times host t (reading_for c host r (Called pid call))

-- the call changes nothing, and is answered neither ok nor later
pub call_quiet : (c : Settings) (host : ℕ) (t : Tables) (r : Reading) (pid : Pid) (call : Call) → Stands c.times host t r →
    next r.view (steps.Call pid call) ≡ r.view → is_begun (answer_to c host r (Called pid call)) ≡ false →
    is_ok (answer_to c host r (Called pid call)) ≡ false → IsQuiet c host t r pid call
unfolding call_outcome
call_quiet c host t r pid call h same unbegun bad =
    let k : Kernel = next r.view (steps.Call pid call) in
    let a : EventAnswer = answer_to c host r (Called pid call) in
    let none : steps_behind k pid call a ≡ [] = none_behind k pid call a unbegun bad in
    record {
      steps = called_steps c host r pid call ∙ ap (λ ss. steps.Call pid call ∷ ss) none;
      packets = packets_are c host r (Called pid call) ∙ quiet_packets r.view k r.slots pid call a unbegun bad;
      stands = stands_same c.times host t r (reading_for c host r (Called pid call)) h
          (called_view c host r pid call ∙ ap (fold next k) none ∙ same)
          (refused_slots c host r pid call unbegun bad)
          (events_are c host r (Called pid call))
          (answered_works c host r pid call unbegun);
    }

-- A call that the kernel refuses.
pub refused_effect : (k : Kernel) (pid : Pid) (call : Call) (p : Process) (why : Refusal) → k.procs pid ≡ Some p →
    call_refusal k pid p call ≡ Some why → effect k (steps.Call pid call) ≡ Some (answered k pid call (answers.Refused why))
refused_effect k pid call p why at is =
    ap (λ (o : Option Process). o >>= λ p. called k pid p call (call_refusal k pid p call)) at ∙ ap (called k pid p call) is

pub call_refused : (c : Settings) (host : ℕ) (t : Tables) (r : Reading) (pid : Pid) (call : Call) (p : Process) (why : Refusal) →
    Stands c.times host t r → r.view.procs pid ≡ Some p → call_refusal r.view pid p call ≡ Some why → IsQuiet c host t r pid call
call_refused c host t r pid call p why h at is =
    let does = refused_effect r.view pid call p why at is in
    call_quiet c host t r pid call h (ap (after_effect r.view) does) (ap (λ o. is_begun (effect_answer o)) does)
    (ap (λ o. is_ok (effect_answer o)) does)

pub refused_answer : (c : Settings) (host : ℕ) (r : Reading) (pid : Pid) (call : Call) (p : Process) (why : Refusal) →
    r.view.procs pid ≡ Some p → call_refusal r.view pid p call ≡ Some why →
    answer_to c host r (Called pid call) ≡ events_answered.Answered (answers.Refused why)
refused_answer c host r pid call p why at is = ap effect_answer (refused_effect r.view pid call p why at is)

-- A call that is answered at once with a value, and changes nothing.
pub call_answered : (c : Settings) (host : ℕ) (t : Tables) (r : Reading) (pid : Pid) (call : Call) (a : Answer) → Stands c.times host t r →
    effect r.view (steps.Call pid call) ≡ Some (answered r.view pid call a) → is_ok (events_answered.Answered a) ≡ false →
    IsQuiet c host t r pid call
call_answered c host t r pid call a h does bad =
    call_quiet c host t r pid call h (ap (after_effect r.view) does) (ap (λ o. is_begun (effect_answer o)) does)
    (ap (λ o. is_ok (effect_answer o)) does ∙ bad)

-- A collect that comes too early.
pub collect_early : (c : Settings) (host : ℕ) (t : Tables) (r : Reading) (pid : Pid) → Stands c.times host t r →
    effect r.view (steps.Collect pid) ≡ None → Stands c.times host t (reading_for c host r (Collected pid))
collect_early c host t r pid h none =
    stands_same c.times host t r (reading_for c host r (Collected pid)) h
    (collected_view c host r pid ∙ ap (λ (o : Option Effect). fold next r.view (list_if (is_some o) (steps.Collect pid ∷ []))) none)
    (collected_slots c host r pid)
    (events_are c host r (Collected pid))
    (collected_works c host r pid)

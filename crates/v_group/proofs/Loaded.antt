-- What a coordinator loads behind a receive.
use Rattle.std.proofs.Common.{◌≡◌, ℕ, List, Some, sym, ap, ◌∙◌}
use Rattle.std.proofs.lemmas.Option.{same_Some}
use Rattle.vk_types.specs.Types.{Answer, Message, Pid, Process, ProcessSpec, Step}
use Rattle.vk_base.specs.declared.answer.Answer.TheVariants as answers
use Rattle.vk_base.specs.declared.call.Call.TheVariants as calls
use Rattle.vk_base.specs.declared.kernel.State.TheVariants as states
use Rattle.vk_base.specs.declared.limits.TheConstants.{MESSAGE_BYTES, SEGMENT_BYTES}
use Rattle.vk_base.specs.declared.step.Step.TheVariants as steps
use Rattle.vk_base.specs.Calls.{Effect}
use Rattle.vk_base.specs.Kernel.{◌>>=◌, initial_kernel}
use Rattle.vk_base.specs.Ranges.{range_of, bytes_in}
use Rattle.vk_base.specs.Steps.{Run, effect, run}
use Rattle.vk_base.proofs.OptionLemmas.{bind_is}
use Rattle.v_laws.proofs.PlaceLemmas.{IsStepAt, at_place, step_at}
use Rattle.vk_event.specs.declared.pair.HelperPair.{HelperPair}
use Rattle.vk_group.specs.Accounts.{Deed}
use Rattle.vk_group.specs.Deeds.{IsLoaded}
use Rattle.vk_group.specs.Groups.{coordinator_call}
use Rattle.v_pages.specs.Followed.{FollowsTask, answers_before}
use Rattle.v_pages.proofs.Calling.{outcome_of, own_told, told}
use Rattle.v_group.specs.Grouped.{IsDoneAt}
use Rattle.v_group.proofs.Coordinating.{coordinator_plain}
use Rattle.v_group.proofs.Hearing.{IsHeard, heard_from}
use Rattle.v_group.proofs.Helped.{message_is}
use Rattle.v_group.proofs.Helping.{loaded_bytes}
use Rattle.v_group.proofs.Timeline.{ready_at}

-- At place i the coordinator r calls and is ready; it received before, and this message is at the beginning of its memory.
pub record IsLoadedAt (specs : List ProcessSpec) (ss : List Step) (r : Pid) (i : ℕ) (from : Pid) (asks : Message) (count : ℕ)
    (m : Message) : Type 0 where
  pub process : Process
  pub heard : IsHeard specs ss r i process from asks count 0 SEGMENT_BYTES
  pub bytes : m.0 ≡ bytes_in (range_of 0 MESSAGE_BYTES) process.memory

pub loaded_at : (specs : List ProcessSpec) (ss : List Step) (whole : Run) (r : Pid) (pairs : List HelperPair) (replies : ℕ) →
    run (initial_kernel specs) ss ≡ Some whole → FollowsTask (coordinator_call pairs replies) specs ss r → (i : ℕ) (d : Deed)
    (done : IsDoneAt specs ss r pairs replies i d) (from : Pid) (asks : Message) (count : ℕ) (m : Message) →
    IsLoaded pairs replies (answers_before specs ss r i) done.answer from asks count m → IsLoadedAt specs ss r i from asks count m
loaded_at specs ss whole r pairs replies g follows i d done from asks count m loads = record {
  process = p.0;
  heard = heard_from (coordinator_call pairs replies) specs ss r (coordinator_plain pairs replies) follows i st.kernel p.0
      loads.received.before from asks count 0 SEGMENT_BYTES st.at p.1 ready.0 loads.received.split loads.received.called;
  bytes = loaded_bytes st.kernel r p.0 MESSAGE_BYTES m.0 st.did got
      (outcome_of st.kernel r p.0 (calls.Load 0 MESSAGE_BYTES) st.did p.1
      (ap (λ c. effect st.kernel (steps.Call r c)) (sym load) ∙ st.does));
}
  where
    given : List Answer
    given = answers_before specs ss r i

    st : IsStepAt specs ss i (steps.Call r done.call)
    st = step_at specs ss whole i (steps.Call r done.call) g done.is

    p : (y : Process) × (st.kernel.procs r ≡ Some y)
    p = let b = bind_is (st.kernel.procs r) _ st.did st.does in (b.0, b.1)

    ready : (p.0.state ≡ states.Ready) × (coordinator_call pairs replies given ≡ Some done.call)
    ready = ready_at (coordinator_call pairs replies) specs ss r (coordinator_plain pairs replies) follows i st.kernel p.0 done.call st.at
        p.1 done.is

    load : done.call ≡ calls.Load 0 MESSAGE_BYTES
    load = same_Some done.call (calls.Load 0 MESSAGE_BYTES) (sym ready.1 ∙ loads.loads)

    got : told r st.did ≡ Some (answers.Loaded m.0)
    got = own_told r done.call done.answer st.did
        (sym (ap (λ z. z >>= λ (y : Effect). y.seen) (at_place effect specs ss i st.kernel (steps.Call r done.call) st.at done.is ∙ st.does))
        ∙ done.seen)
        ∙ ap (λ z. Some z) (message_is done.answer m loads.loaded).0

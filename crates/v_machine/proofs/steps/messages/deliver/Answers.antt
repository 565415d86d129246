use Rattle.std.proofs.Common.{◌≡◌, refl, sym, ap, ◌∙◌, length-set, subst, arith}
use Rattle.std.proofs.lemmas.Grind.{common_steps}
use Rattle.vk_types.specs.Types.{Process}
use Rattle.vk_base.specs.declared.kernel.Stage.TheVariants as stages
use Rattle.vk_base.specs.declared.kernel.State.TheVariants as states
use Rattle.vk_base.specs.Kernel.{Kernel, put_exchange}
use Rattle.vk_base.specs.Steps.{taken, received, with_part}
use Rattle.vk_base.specs.Activities.{call_of, answer_of}
use Rattle.v_machine.specs.Places.{count_at}
use Rattle.v_machine.specs.Rules.{HasRoom}
use Rattle.v_machine.specs.Sends.{at_stage}
use Rattle.v_machine.specs.Tables.{exchanges_by, process_of}
use Rattle.v_machine.proofs.Indexes.{put_no_nearer}
use Rattle.v_machine.proofs.KernelLemmas.{kernel-exchange, kernel-process, exchanges-change, sends_even, sent_there, proc_is}
use Rattle.v_machine.proofs.Popping.{indexed_popped, taken_nowhere}
use Rattle.v_machine.proofs.Taking.{taken_is_nearer}
use Rattle.v_machine.proofs.Live.{live_there}
use Rattle.v_machine.proofs.steps.messages.deliver.Goals as goal

pub returns-in_err-sent : goal.returns-in_err-sent
returns-in_err-sent c = rw c.from_residual.ensures (
  λ is.
      let s = c.args.store.now in
      let there = sent_there s.places s.procs.items s.sends.items s.asked.items c.args.name.sender c.args.from c.index.result.now
      c.args.name.number is c.requires.from c.index.ensures in
      grind (arith, common_steps, there),
  refl,
)

pub returns : goal.returns
unfolding taken
returns c = λ pid p e place sender there at_name room queued indexed.
    let s = c.args.store.now in
    let x = c.index_mut-proc.result.now in
    let w = call_of c.args.waiting in
    let named = sent_there s.places s.procs.items s.sends.items s.asked.items c.args.name.sender c.args.from c.index.result.now
    c.args.name.number sender c.requires.from c.index.ensures in
    let sent : c.in_ok-sent.sent.now ≡ e = grind (arith, common_steps, named, at_name) in
    let is_p = proc_is s.places s.procs.items s.sends.items s.asked.items pid c.args.at x p place c.requires.at
    c.index_mut-proc.ensures.value there in
    let into : Process →
    Process = λ q. record q { memory = with_part w e q.memory; state = states.Done w (received w c.args.name.sender e) } in
    let memory : c.receive_into-outcome.new.memory ≡ with_part w e x.memory =
    c.receive_into-outcome.ensures.memory (subst (λ (q : Process). HasRoom w q.memory) (sym is_p) room)
    ∙ ap (λ y. with_part w y x.memory) sent in
    let answer : answer_of c.receive_into-outcome.result ≡ received w c.args.name.sender e = c.receive_into-outcome.ensures.answer
    ∙ ap (received w c.args.name.sender) sent in
    let processes = kernel-process s.places s.procs.items s.sends.items s.asked.items s.names.items s.arrived into pid c.args.at x _ p
    place c.requires.at c.index_mut-proc.ensures.value there
    (λ i. record (process_of x (count_at s.sends.items c.args.at) (count_at s.asked.items c.args.at))
    { memory = memory i; state = states.Done w (answer i) }) in
    let exchanges = kernel-exchange s.places _ s.sends.items s.asked.items s.names.items s.arrived (at_stage stages.Taken)
    c.args.name.sender c.args.from c.args.name.number c.index_mut.result.now c.take.new.sends e sender c.requires.from
    c.index_mut.ensures.value at_name c.take.ensures in
    let later = exchanges-change s.places s.procs.items s.sends.items s.asked.items (at_stage stages.Taken) c.args.name.sender c.args.from
    c.args.name.number c.index_mut.result.now c.take.new.sends e sender c.requires.from c.index_mut.ensures.value at_name
    c.take.ensures in (
      exchanges ∙ ap (λ (k : Kernel).
          record k { exchanges = put_exchange (exchanges_by s.places s.sends.items) c.args.name (at_stage stages.Taken e) }) processes,
      indexed_popped s _ pid c.args.at c.index_mut-2.result.now c.pop.new.self c.args.name place c.index_mut-2.ensures.value
          (c.requires.first c.index_mut-2.result.now c.index_mut-2.ensures.value) c.pop.ensures refl (length-set s.procs.items c.args.at _)
          (length-set s.sends.items c.args.from c.take.new.sends) refl refl refl refl
          (sends_even s.places s.procs.items s.sends.items s.asked.items (at_stage stages.Taken) c.args.from c.args.name.number
          c.index_mut.result.now c.take.new.sends c.requires.from c.index_mut.ensures.value c.take.ensures)
          (put_no_nearer _ _ _ e _ at_name later refl refl (taken_is_nearer e.stage queued))
          (taken_nowhere _ _ _ e pid later) indexed,
    )

pub take-requires : goal.take-requires
take-requires c = live_there c.args.store.now c.args.from c.args.name.number c.index_mut.result.now c.requires.from
    c.index_mut.ensures.value c.requires.live

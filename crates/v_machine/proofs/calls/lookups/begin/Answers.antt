use Rattle.std.proofs.Common.{◌≡◌, List, [], ◌∷◌, ◌++◌, refl, ap, ◌∙◌}
use Rattle.vk_types.specs.Types.{Pid}
use Rattle.vk_base.specs.declared.call.Call.TheVariants as calls
use Rattle.v_machine.proofs.Asking.{kernel-asked}
use Rattle.v_machine.proofs.calls.lookups.begin.Goals as goal

pub returns-clause-ok : goal.returns-clause-ok
returns-clause-ok c = λ pid p is there.
    let s = c.args.store.now in
    let pushed : c.push.new.self ≡ c.index_mut.result.now ++ record { logical = c.args.logical; candidates = [] } ∷ [] =
    c.in_ok-push.ensures.ok ∙ ap (λ (pids : List Pid). c.index_mut.result.now ++ record { logical = c.args.logical; candidates = pids }
    ∷ []) c.empty-candidates.ensures in
    kernel-asked s.places s.procs.items s.sends.items s.asked.items s.names.items s.arrived pid c.args.at c.args.logical
    (calls.GetPid c.args.logical c.args.scope) p c.index_mut-2.result.now _ c.index_mut.result.now c.push.new.self
    is c.requires.procs c.requires.asked c.index_mut-2.ensures.value c.index_mut.ensures.value there pushed (λ sends lookups. refl)

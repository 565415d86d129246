use Rattle.std.proofs.Common.{ap, subst, sym}
use Rattle.vk_procs.specs.declared.seat.Seat.{Seat}
use Rattle.vk_procs.specs.Kept.{HasRoom}
use Rattle.vk_procs.proofs.Changes.{changed}
use Rattle.vk_procs.proofs.Once.{kept_set}
use Rattle.vk_procs.proofs.procs.Procs.forward.Goals as goal

pub invariant_of-self : goal.invariant_of-self
invariant_of-self c =
    kept_set _ _ _ _ c.index_mut.result.now _ c.index_mut.ensures.value
    (ap (λ (s : Seat). s.pid) c.forward.ensures)
    (ap (λ (s : Seat). s.note.work.deadline) c.forward.ensures) (subst HasRoom (sym c.forward.ensures)) c.self.invariant

pub returns-in-Some : goal.returns-in-Some
returns-in-Some c =
    changed _ _ _ _ _ c.index_mut.result.now _ c.in-Some.ensures.place c.self.view_is c.index_mut.ensures.value c.forward.ensures

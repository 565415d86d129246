use Rattle.std.proofs.Common.{◌≡◌, ◌++◌, length, take, drop, lit≤, refl, sym, ap, subst, ◌∙◌}
use Rattle.std.proofs.lemmas.List.{take_at}
use Rattle.v_machine.specs.Leaving.{Leaves, Drops}
use Rattle.v_machine.specs.Lists.{Each}
use Rattle.v_machine.proofs.Each.{each_between}
use Rattle.v_machine.proofs.Leaving.{exit_goes}
use Rattle.v_machine.proofs.calls.exiting.exit.Goals as goal

pub returns : goal.returns
returns c = λ p there ready.
    let s = c.args.store.now in
    let procs = take s.procs.len (c.release.new.procs ++ drop (length c.release.new.procs) s.procs.items) in
    let sends = take s.sends.len (c.drop_at_target.new.sends ++ drop (length c.drop_at_target.new.sends) s.sends.items) in
    let new_procs : procs ≡ c.release.new.procs =
    take_at c.release.new.procs _ s.procs.len (c.release.ensures.count ∙ c.deref_mut.ensures.len) in
    let new_sends : sends ≡ c.drop_at_target.new.sends =
    take_at c.drop_at_target.new.sends _ s.sends.len (c.drop_at_target.ensures.count ∙ c.deref_mut-2.ensures.len) in
    let released : Each (Leaves c.args.pid s.places s.sends.items) s.procs.items procs =
    subst (λ ss. Each (Leaves c.args.pid s.places ss) s.procs.items procs) c.deref.ensures.value
    (each_between (Leaves c.args.pid s.places c.deref.result.now) _ _ _ _ c.deref_mut.ensures.value (sym new_procs)
    c.release.ensures.each) in
    let dropped : Each (Drops c.args.pid s.latest.items) s.sends.items sends =
    subst (λ ls. Each (Drops c.args.pid ls) s.sends.items sends) c.deref-2.ensures.value
    (each_between (Drops c.args.pid c.deref-2.result.now) _ _ _ _ c.deref_mut-2.ensures.value (sym new_sends)
    c.drop_at_target.ensures.each) in (
      exit_goes s _ c.args.pid c.args.at p procs c.index_mut.result.now c.requires.kept c.requires.here there ready released
          (ap length new_procs ∙ c.release.ensures.count ∙ ap length c.deref_mut.ensures.value)
          dropped (ap length new_sends ∙ c.drop_at_target.ensures.count ∙ ap length c.deref_mut-2.ensures.value) c.index_mut.ensures.value
          refl c.forget.ensures refl refl refl refl refl,
      lit≤ tt,
    )

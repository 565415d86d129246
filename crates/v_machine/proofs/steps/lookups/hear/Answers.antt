use Rattle.std.proofs.Common.{◌≡◌, true, false, ◌&&◌, not, Some, is_some, option_copied, refl, sym, ap, ◌∙◌, lit≤, length-set}
use Rattle.vk_base.specs.Kernel.{is_told}
use Rattle.vk_base.specs.Pids.{same_host}
use Rattle.v_machine.specs.Kept.{kernel_in}
use Rattle.v_machine.specs.Lists.{change_numbered}
use Rattle.v_machine.specs.Tables.{lookups_by, names_by, with_candidate}
use Rattle.v_machine.proofs.Asking.{lookups_nowhere, kernel-lookup, hear_allowed, hear_not, hear_nowhere, hears_is, asked_stay}
use Rattle.v_machine.proofs.Indexes.{indexed_same}
use Rattle.v_machine.proofs.PlaceLemmas.{nowhere}
use Rattle.v_machine.proofs.Stores.{stays, is_error}
use Rattle.v_machine.proofs.steps.lookups.hear.Goals as goal

pub returns-in_default : goal.returns-in_default
returns-in_default c =
    let s = c.args.store.now in (
      hear_nowhere (kernel_in s) c.args.asker c.args.number c.args.pid
          (lookups_nowhere s.places s.asked.items c.args.asker c.args.number
          (nowhere s.places s.asked.items c.args.asker (sym c.find.ensures.place ∙ c.in_default.is))),
      stays s c.requires.indexed,
    )

pub returns-in_default-lookup_of : goal.returns-in_default-lookup_of
returns-in_default-lookup_of c =
    let s = c.args.store.now in (
      hear_nowhere (kernel_in s) c.args.asker c.args.number c.args.pid
          (c.lookup_of.ensures c.args.asker c.in-Some.ensures.here.place ∙ ap option_copied c.in_default-lookup_of.is),
      stays s c.requires.indexed,
    )

pub returns-then-not-hears : goal.returns-then-not-hears
returns-then-not-hears c =
    let s = c.args.store.now in
    let l = c.in-Some-lookup_of.lookup.now in
    let at : lookups_by s.places s.asked.items c.args.asker c.args.number ≡ Some l =
    c.lookup_of.ensures c.args.asker c.in-Some.ensures.here.place ∙ ap option_copied c.in-Some-lookup_of.is in
    let not_told : (not (same_host c.args.asker c.args.pid)
    && is_told (names_by s.names.items c.args.pid.host) l.logical c.args.pid) ≡ false =
    sym (hears_is s.names.items c.deref.result.now c.args.asker l.logical c.args.pid c.deref.ensures.value) ∙ sym c.hears.ensures
    ∙ c.if-not-hears.true in
    (hear_not (kernel_in s) c.args.asker c.args.number c.args.pid l at not_told, stays s c.requires.indexed)

pub returns-in_err-tell : goal.returns-in_err-tell
returns-in_err-tell c =
    let s = c.args.store.now in
    let l = c.in-Some-lookup_of.lookup.now in
    let at : lookups_by s.places s.asked.items c.args.asker c.args.number ≡ Some l =
    c.lookup_of.ensures c.args.asker c.in-Some.ensures.here.place ∙ ap option_copied c.in-Some-lookup_of.is in
    let told : (not (same_host c.args.asker c.args.pid) && is_told (names_by s.names.items c.args.pid.host) l.logical c.args.pid) ≡ true =
    sym (hears_is s.names.items c.deref.result.now c.args.asker l.logical c.args.pid c.deref.ensures.value) ∙ sym c.hears.ensures
    ∙ c.if-not-hears.false in
    let same : c.tell.new.lookups ≡ c.index_mut.result.now = c.in_err-tell.ensures.err in
    rw (is_error c.from_residual.result _ c.from_residual.ensures.1) (
      ap is_some (hear_allowed (kernel_in s) _ c.args.asker c.args.number c.args.pid l at told refl),
      lit≤ tt,
      asked_stay s _ c.in-Some.at c.index_mut.result.now c.tell.new.lookups c.index_mut.ensures.value same refl refl refl refl refl refl
          refl refl c.requires.indexed,
    )

pub returns : goal.returns
returns c =
    let s = c.args.store.now in
    let l = c.in-Some-lookup_of.lookup.now in
    let here = c.in-Some.ensures.here in
    let at : lookups_by s.places s.asked.items c.args.asker c.args.number ≡ Some l = c.lookup_of.ensures c.args.asker here.place
    ∙ ap option_copied c.in-Some-lookup_of.is in
    let told : (not (same_host c.args.asker c.args.pid) && is_told (names_by s.names.items c.args.pid.host) l.logical c.args.pid) ≡ true =
    sym (hears_is s.names.items c.deref.result.now c.args.asker l.logical c.args.pid c.deref.ensures.value) ∙ sym c.hears.ensures
    ∙ c.if-not-hears.false in
    let changed : c.tell.new.lookups ≡ change_numbered c.args.number (with_candidate c.args.pid) c.index_mut.result.now =
    c.in_ok-tell.ensures.ok in (
      record {
        effect = hear_allowed (kernel_in s) _ c.args.asker c.args.number c.args.pid l at told
            (kernel-lookup s.places s.procs.items s.sends.items s.asked.items c.args.asker c.in-Some.at c.args.number c.index_mut.result.now
            here.place here.asked c.index_mut.ensures.value s.names.items s.arrived (with_candidate c.args.pid) c.tell.new.lookups
            l at changed);
        indexed =
            indexed_same s _ refl refl refl (length-set s.asked.items c.in-Some.at c.tell.new.lookups) refl refl refl c.requires.indexed;
      },
      lit≤ tt,
    )

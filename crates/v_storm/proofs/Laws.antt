-- The laws, of what holds of each storm so far.
use Rattle.std.proofs.Common.{ℕ, ◌≤◌, List, [], ◌∷◌, sym, ap, subst, inl, inr, arith, cond}
use Rattle.std.proofs.lemmas.Bool.{and_parts, cases_Bool, leb-true, leb-false}
use Rattle.std.proofs.lemmas.List.{take_all}
use Rattle.std.specs.List.{AllByRecursion}
use Rattle.vk_base.specs.Settings.{has_station}
use Rattle.vk_drive.specs.Storms.{call_event, storm_schedule_of}
unfoldable use Rattle.vk_drive.specs.Storms.{storm_after}
use Rattle.vk_drive.specs.Tasks.{settings, specs, task_at}
use Rattle.vk_drive.specs.Told.{is_waiting}
use Rattle.vk_drive.proofs.Fronts.{front_of, storm_count}
use Rattle.vk_rules.specs.Each.{Each}
use Rattle.vk_rules.proofs.Lists.{each_weaker}
use Rattle.vk_schedule.specs.declared.event.Event.{Event}
use Rattle.vk_schedule.specs.declared.event.Event.TheVariants as events
use Rattle.vk_schedule.specs.Lawful.{IsLawful, IsReadableEvent}
use Rattle.v_storm.specs.Law.{FramesAreForStations, FrontsAreLawful, IsForStation, ProgramsGoOn, StormsAreLawful}
use Rattle.v_storm.proofs.Course.{delivery_is, heard_at, next_call, so_far}
use Rattle.v_storm.proofs.Histories.{IsGoodHeader, settings_lawful}
use Rattle.std.specs.Prelude.{nat_le}

by_recursion : (es : List Event) → Each IsReadableEvent es → AllByRecursion IsReadableEvent es
by_recursion [] each = tt
by_recursion (e ∷ es) each = (each.0, by_recursion es each.1)

lawful_front : (seed count : ℕ) → count ≤ 100000 → IsLawful (record { config = settings; events = (storm_after seed count).events })
lawful_front seed count few =
    let so = so_far seed count few in
    let long = storm_count seed count in
    record {
      told = record { lawful = settings_lawful; pids = (omega arith, (omega arith, (omega arith, (omega arith, tt)))) };
      ranges = by_recursion (storm_after seed count).events so.readable;
      events = so.acts;
      few = omega (arith, long, few);
    }

pub storms_are_lawful : StormsAreLawful
storms_are_lawful n few = lawful_front n n few

pub fronts_are_lawful : FrontsAreLawful
fronts_are_lawful n count few = elim (cases_Bool (nat_le count n)) [
  | inl t ↦
      let low = leb-true count n t in
      subst (λ es. IsLawful (record { config = settings; events = es })) (sym (front_of n count low))
      (lawful_front n count (omega (arith, low, few)))
  | inr f ↦
      let high = leb-false count n f in
      subst (λ es. IsLawful (record { config = settings; events = es }))
      (sym (take_all count (storm_schedule_of n).events (omega (arith, high, storm_count n n)))) (lawful_front n n few)
]

pub programs_go_on : ProgramsGoOn
programs_go_on seed count place few low =
    let es = (storm_after seed count).events in
    let t = task_at place in
    let heard = heard_at es place in
    let long = storm_count seed count in
    let g = next_call es place low (so_far seed count few) (omega (arith, long, few)) in
    record {
      call = g.call;
      is = g.is;
      event = ap (λ o. cond (is_waiting heard) (events.Collect t.pid) (call_event t.pid o)) g.is;
    }

pub frames_are_for_stations : FramesAreForStations
frames_are_for_stations seed count few =
    each_weaker IsGoodHeader IsForStation _ (so_far seed count few).headers
    (λ h good. let parts = and_parts (has_station specs h.destination) (has_station specs h.source) good.acts in
    record { to = parts.0; from = parts.1; comes = delivery_is h good })

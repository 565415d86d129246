-- A tick of a whole station: it is the right entry, and the tables then stand for the reading after it.
use Rattle.std.proofs.Common.{◌≡◌, ◌≤◌, ℕ, ◌+◌, ◌-◌, nat_lt, Bool, true, false, cond, not, List, [], ◌∷◌, ◌++◌, fold, map, flat_map, refl, ap, sym, ◌∙◌, subst, Option, Some, None, arith}
use Rattle.std.specs.List.{filter_map, list_any, slice_get}
use Rattle.std.specs.Option.{option_map, option_to_list}
use Rattle.std.proofs.lemmas.List.Concat.{flat_map-cons}
use Rattle.std.proofs.lemmas.List.Elements.{filter_map-append}
use Rattle.vk_types.specs.Types.{Activity, Name, Pid, Times, Waiting}
use Rattle.vk_base.specs.declared.activity.Activity.TheVariants as activities
use Rattle.vk_base.specs.declared.activity.Waiting.TheVariants as waitings
use Rattle.vk_base.specs.declared.answer.Ending.TheVariants as endings
use Rattle.vk_base.specs.declared.limits.TheConstants.{STATION_PROCESSES}
use Rattle.vk_base.specs.declared.step.Step.TheVariants as steps
use Rattle.vk_base.specs.Activities.{call_of}
use Rattle.vk_base.specs.Kernel.{Kernel, name_of}
unfoldable use Rattle.vk_base.specs.Kernel.{queue_of}
use Rattle.vk_base.specs.Pids.{same_host}
use Rattle.vk_base.specs.Settings.{Settings}
use Rattle.vk_base.specs.Steps.{first_of, next, only_if}
use Rattle.vk_base.proofs.OptionLemmas.{mapped_is}
use Rattle.v_laws.specs.Sound.{IsSoundAt}
use Rattle.vk_pool.specs.Aliens.{alien_at, kept}
use Rattle.vk_procs.specs.declared.seat.Seat.{Seat}
use Rattle.vk_procs.specs.Seats.{seat_in}
use Rattle.vk_queue.specs.Lists.{queue_at}
use Rattle.vk_rules.specs.Aliens.{arrival_in, as_arrival, closes, is_closing, slots_after}
use Rattle.vk_rules.specs.CallOutcomes.{failed, sent_again, work_failure}
unfoldable use Rattle.vk_rules.specs.CallOutcomes.{tick_outcome}
use Rattle.vk_rules.specs.Entries.{Entry, Ticked, is_tick, taken_frame}
use Rattle.vk_rules.specs.Readings.{Reading}
unfoldable use Rattle.vk_rules.specs.Readings.{reading_after}
use Rattle.vk_rules.specs.Right.{own_pids}
unfoldable use Rattle.vk_rules.specs.Right.{right_entry}
use Rattle.vk_rules.specs.Works.{is_of_round, work_after}
use Rattle.vk_stands.specs.Fit.{AreFit}
use Rattle.vk_stands.specs.Rules.{packets_in, posted}
use Rattle.vk_stands.specs.Stands.{HasOwnNames, IsWorking, Stands}
use Rattle.vk_stands.specs.Tables.{Tables, alien_name, is_work, read_alien, seat_name, slot_name}
use Rattle.vk_stands.specs.Ticks.{TicksAreRight, TicksKeepFit, at_rest, tick_packets, tick_steps, tick_tables, ticked_seat, ticking, ticking_by, ticking_in}
use Rattle.vk_stands.proofs.After.{IsEntryDone, closes_is, entry_for, events_are, has_round_is, outcome_for, packets_are, reading_for, view_is}
use Rattle.vk_stands.proofs.AfterEntries.{answers_none, copies_none, unheard, view_then}
use Rattle.vk_stands.proofs.Fits.{map_all}
use Rattle.vk_stands.proofs.Found.{seat_found}
use Rattle.vk_stands.proofs.Parts.{AreQueues}
use Rattle.vk_stands.proofs.TicksAll.{fit_apart, next_all, seat_ticked, ticked_procs, ticked_seats}
use Rattle.vk_stands.proofs.TicksFreed.{fit_freed, freed_was, queues_freed, slots_freed, view_freed}
use Rattle.vk_stands.proofs.TicksSeat.{IsSeatRead, told_at}
use Rattle.vk_stands.proofs.TicksSeats.{fit_all, get_mapped, position_ticked, view_ticked, waited}
use Rattle.vk_stands.proofs.TicksView.{peopled}
use Rattle.vk_stands.proofs.TicksWorks.{all_sent, all_steps, none_closed, own_rounds, work_ticked}
use Rattle.vk_stands.proofs.Views.{StandsView, view_in}
use Rattle.vk_stands.proofs.Whole.{sound_after, stands_then}
use Rattle.vk_stands.proofs.MoverSeated.{low_count}
use Rattle.vk_timer.specs.declared.work.Due.{Due}
use Rattle.vk_timer.specs.declared.work.Due.TheVariants as dues
use Rattle.vk_timer.specs.Works.{due_at}

-- The steps of a tick let nothing arrive.
fails_only : (pid : Pid) (b : Bool) → filter_map as_arrival (option_to_list (only_if b (Some (steps.Fail pid endings.TimedOut)))) ≡ []
fails_only pid true = refl
fails_only pid false = refl

none_fails : (pid : Pid) (w : Waiting) → filter_map as_arrival (option_to_list (work_failure pid (call_of w))) ≡ []
none_fails pid (waitings.Send target m) = by_test (same_host pid target)
  where
    by_test : (b : Bool) → filter_map as_arrival (option_to_list (only_if (not b) (Some (steps.Fail pid endings.TimedOut)))) ≡ []
    by_test b = fails_only pid (not b)
none_fails pid waitings.Receive = refl
none_fails pid (waitings.ReceiveSegment start count) = refl
none_fails pid (waitings.MoveTo partner dest src count) = refl
none_fails pid (waitings.MoveFrom partner dest src count) = refl
none_fails pid (waitings.GetPid logical scope) = refl

none_by_due : (times : Times) (now : ℕ) (s : Seat) (w : Waiting) (d : Due) → filter_map as_arrival (ticking_by times now s w d).steps ≡ []
none_by_due times now s w dues.NotDue = refl
none_by_due times now s w dues.Resend = refl
none_by_due times now s w dues.GiveUp = none_fails s.pid w

none_by_work : (times : Times) (now : ℕ) (s : Seat) (w : Waiting) (b : Bool) →
    filter_map as_arrival (cond b (ticking_by times now s w (due_at times now s.note.work)) (at_rest s)).steps ≡ []
none_by_work times now s w true = none_by_due times now s w (due_at times now s.note.work)
none_by_work times now s w false = refl

none_by_doing : (times : Times) (now : ℕ) (s : Seat) (d : Activity) → filter_map as_arrival (ticking_in times now s d).steps ≡ []
none_by_doing times now s activities.Ready = refl
none_by_doing times now s (activities.Done w o) = refl
none_by_doing times now s (activities.Blocked w) = none_by_work times now s w (is_work s.pid w)

none_arrives : (times : Times) (now : ℕ) (seats : List Seat) → filter_map as_arrival (tick_steps times now seats) ≡ []
none_arrives times now [] = refl
none_arrives times now (x ∷ xs) =
    ap (filter_map as_arrival) (flat_map-cons (λ s. (ticking times now s).steps) x xs)
    ∙ filter_map-append as_arrival (ticking times now x).steps (tick_steps times now xs)
    ∙ ap (λ ns. ns ++ filter_map as_arrival (tick_steps times now xs)) (none_by_doing times now x x.doing)
    ∙ none_arrives times now xs

-- The queues have the same names: a process that has ticked is known by the same Send.
same_name_by : (times : Times) (now : ℕ) (o : Option Seat) → option_map seat_name (option_map
    (ticked_seat times now) o) ≡ option_map seat_name o
same_name_by times now None = refl
same_name_by times now (Some s) = let is = seat_ticked times now s in ap Some (λ i. name_of (is.pid i) (is.sends i))

slot_ticked : (times : Times) (now : ℕ) (t : Tables) (slot : ℕ) →
    slot_name (map (ticked_seat times now) t.seats) t.slots slot ≡ slot_name t.seats t.slots slot
slot_ticked times now t slot =
    ap (λ o. cond (nat_lt slot STATION_PROCESSES) o (option_map alien_name (alien_at t.slots (slot - STATION_PROCESSES))))
    (ap (option_map seat_name) (get_mapped (ticked_seat times now) t.seats slot) ∙ same_name_by times now (slice_get t.seats slot))

one_event : (a n m : ℕ) → a ≤ n → m ≡ n + 1 → a ≤ m
one_event a n m low more = omega (arith, low, more)

module _ (c : Settings) (host : ℕ) (r : Reading) (t : Tables) (own : map (λ (s : Seat). s.pid) t.seats ≡ own_pids c host)
    (fit : AreFit host t) (h : Stands c.times host t r) where
  abbrev now : ℕ
  now = r.now + 1

  abbrev e : Entry
  e = entry_for c host r Ticked

  abbrev q : Reading
  q = reading_for c host r Ticked

  abbrev view : Kernel
  view = peopled r.view (ticked_procs c.times now t.seats r.view.procs)

  abbrev mid : Tables
  mid = record t { seats = map (ticked_seat c.times now) t.seats }

  abbrev u : Tables
  u = tick_tables c.times now t

  told : (i : ℕ) (s : Seat) → slice_get t.seats i ≡ Some s → IsSeatRead c.times host r s
  told i s at = told_at c.times host t r fit h i s at

  pub steps_are : e.steps ≡ tick_steps c.times now t.seats
  unfolding right_entry tick_outcome
  steps_are = ap (filter_map (failed c.times now r)) (sym own) ∙ all_steps c.times now host r t.seats told

  sent_are : (outcome_for c host r Ticked).packets ≡ tick_packets c.times now t.seats
  unfolding tick_outcome
  sent_are = ap (flat_map (sent_again c.times now r)) (sym own) ∙ all_sent c.times now host r t.seats told

  pub ticked_packets : packets_in e ≡ tick_packets c.times now t.seats
  ticked_packets = packets_are c host r Ticked ∙ sent_are

  no_frame : taken_frame e ≡ None
  unfolding right_entry
  no_frame = refl

  tick_is : e.tick ≡ now
  unfolding right_entry
  tick_is = refl

  is_ticked : is_tick e.input ≡ true
  unfolding right_entry
  is_ticked = refl

  view_then_is : q.view ≡ view
  view_then_is =
      view_is c host r Ticked ∙ view_then r e no_frame ∙ ap (fold next r.view) steps_are
      ∙ next_all c.times now r.view t.seats r.view.procs (fit_apart host t fit) (λ i s at. (told i s at).here) (λ i s at.
      (told i s at).waiting)

  fit_mid : AreFit host mid
  fit_mid = fit_all c.times now host t fit

  view_mid : StandsView host mid view
  view_mid = view_ticked c.times now host t fit r.view (view_in c.times host t r h)

  view_end : StandsView host u view
  view_end = view_freed c.times now host mid fit_mid view view_mid

  queues_mid : AreQueues mid view
  unfolding queue_of
  queues_mid pid at place =
      h.queues pid at (sym (position_ticked c.times now host t fit pid) ∙ place)
      ∙ sym (map_all (slot_name mid.seats mid.slots) (slot_name t.seats t.slots) (queue_at t.lists at) (slot_ticked c.times now t))

  queues_end : AreQueues u view
  queues_end = queues_freed c.times now host mid fit_mid view view_mid queues_mid

  nothing_arrives : arrival_in e ≡ None
  nothing_arrives = ap (λ ss. first_of (filter_map as_arrival ss)) steps_are ∙ ap first_of (none_arrives c.times now t.seats)

  closes_none : (name : Name) → closes e name ≡ false
  closes_none name =
      closes_is c host r Ticked name ∙ ap (list_any (is_closing name)) sent_are ∙ none_closed c.times now host r name t.seats told

  slots_end : q.slots ≡ map (option_map read_alien) u.slots
  unfolding reading_after
  slots_end =
      ap (slots_after c.times e) h.slots
      ∙ slots_freed c.times e is_ticked closes_none (λ name. unheard e name no_frame) t.slots nothing_arrives
      ∙ ap (λ n. map (option_map read_alien) (map (kept c.times n) t.slots)) tick_is

  module _ (pid : Pid) (s : Seat) (found : seat_in t.seats pid ≡ Some s) where
    does : (sent : Bool) → list_any (is_of_round s.pid) (ticking c.times e.tick s).packets ≡ sent →
        IsEntryDone r.view s.pid e (r.work s.pid) false false sent false 0
    unfolding right_entry
    does sent is =
        let place = seat_found t.seats pid s found in
        record {
          begun_is = refl;
          answered_is = answers_none r.view s.pid e (r.work s.pid) no_frame;
          sent_is = has_round_is c host r Ticked s.pid ∙ ap (list_any (is_of_round s.pid)) sent_are
              ∙ own_rounds c.times now host r t.seats told (fit_apart host t fit) place.at s place.here ∙ is;
          restarted_is = refl;
          copied_is = copies_none s.pid e no_frame;
        }

    works_at : (w : Waiting) → (ticked_seat c.times now s).doing ≡ activities.Blocked w → is_work pid w ≡ true →
        IsWorking c.times (ticked_seat c.times now s) (q.work pid) w
    unfolding reading_after
    works_at w blocked work =
        let place = seat_found t.seats pid s found in
        let is : s.doing ≡ activities.Blocked w = waited s (ticked_seat c.times now s) w (seat_ticked c.times now s).doing blocked in
        let far : is_work s.pid w ≡ true = ap (λ p. is_work p w) place.named ∙ work in
        let facts = told place.at s place.here in
        subst (λ p. IsWorking c.times (ticked_seat c.times now s) (work_after r.view p e (r.work p)) w) place.named
        (subst (λ n. IsWorking c.times (ticked_seat c.times n s) (work_after r.view s.pid e (r.work s.pid)) w) tick_is
        (work_ticked c.times r.view e s (r.work s.pid) w is far (facts.fits.moves w is) (facts.works w is far) does
        (ap (λ n. (ticked_seat c.times n s).doing) tick_is ∙ blocked)))

  works_end : (pid : Pid) (y : Seat) (w : Waiting) → seat_in u.seats pid ≡ Some y → y.doing ≡ activities.Blocked w →
      is_work pid w ≡ true →
      IsWorking c.times y (q.work pid) w
  works_end pid y w at blocked work =
      let s = mapped_is (ticked_seat c.times now) (seat_in t.seats pid) y (sym (ticked_seats c.times now t.seats pid) ∙ at) in
      subst (λ z. IsWorking c.times z (q.work pid) w) s.2 (works_at pid s.0 s.1 w (ap (λ (z : Seat). z.doing) s.2 ∙ blocked) work)

  pub stands_ticked : Stands c.times host u q
  stands_ticked = stands_then c.times host t u r q h (subst (StandsView host u) (sym view_then_is) view_end) (record {
    sound = subst (IsSoundAt (λ g. false)) (sym (view_is c host r Ticked ∙ view_then r e no_frame)) (sound_after r.view e.steps h.sound);
    names = ap (λ (k : Kernel). k.names host) view_then_is ∙ h.names;
    unknown = subst (HasOwnNames host) (sym view_then_is) h.unknown;
    slots = slots_end;
    queues = subst (AreQueues u) (sym view_then_is) queues_end;
    events = events_are c host r Ticked;
    seats = λ pid y at.
        let s = mapped_is (ticked_seat c.times now) (seat_in t.seats pid) y (sym (ticked_seats c.times now t.seats pid) ∙ at) in
        let is = seat_ticked c.times now s.0 in
        record {
          old = s.0;
          was = s.1;
          sends = low_count y.note.sends s.0.note.sends (ap (λ (z : Seat). z.note.sends) (sym s.2) ∙ is.sends);
          lookups = low_count y.note.lookups s.0.note.lookups (ap (λ (z : Seat). z.note.lookups) (sym s.2) ∙ is.lookups);
        };
    aliens = λ sender a at.
        one_event a.moves r.events q.events (h.moved sender a (freed_was c.times now host mid fit_mid view view_mid sender a at))
        (events_are c host r Ticked);
  }) works_end

pub ticks_are_right : TicksAreRight
ticks_are_right c host r d own fit h = record {
  steps = ap (λ ss. d.steps ++ ss) (sym (steps_are c host r d.tables own fit h));
  packets = ap (posted d.out) (sym (ticked_packets c host r d.tables own fit h));
  stands = stands_ticked c host r d.tables own fit h;
}

pub ticks_keep_fit : TicksKeepFit
ticks_keep_fit times host now t fit = fit_freed times now host (record t { seats = map (ticked_seat times now) t.seats })
    (fit_all times now host t fit)

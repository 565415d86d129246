-- One event of a storm.
use Rattle.std.proofs.Common.{◌≡◌, ℕ, ◌%◌, ◌<◌, ◌≤◌, nat_lt, cond, List, [], ◌∷◌, ◌++◌, length, Option, refl, sym, ap, subst, ◌∙◌}
use Rattle.std.proofs.lemmas.Bool.{cond-true, cond-false, le-ltb, lt-ltb}
use Rattle.vk_base.specs.declared.limits.TheConstants.{EVENTS}
use Rattle.vk_cluster.specs.Standing.{logs_of}
use Rattle.vk_schedule.specs.declared.event.Event.{Event}
use Rattle.vk_generator.specs.Numbers.{drawn, next}
use Rattle.vk_rules.specs.Histories.{Happened, happened, history_of}
use Rattle.vk_drive.specs.declared.course.StormCourse.{StormCourse}
use Rattle.vk_drive.specs.declared.driver.Driver.{Driver}
use Rattle.vk_drive.specs.Driving.{AreActors, AreStations, HasHappened, IsChosen, IsDriver, IsPlayed, MayHappen}
use Rattle.vk_drive.specs.Storms.{Choice, choice, choice_by, delivery_choice, process_choice, tick_choice}
use Rattle.vk_drive.specs.Tasks.{settings}
use Rattle.vk_drive.specs.Told.{all_emitted}
use Rattle.vk_drive.proofs.Behind.{history_with}
use Rattle.vk_drive.proofs.Chosen.{next_acts}

-- what was chosen may happen
pub may_happen : (es : List Event) (old mid : Driver) (place : Option ℕ) → IsDriver es old → IsChosen es old mid place →
    length es < EVENTS → MayHappen es mid.course.stations mid.next mid.frame
may_happen es old mid place is its few = record {
  stations = subst (λ (c : StormCourse). AreStations es c.stations) (sym its.course) is.course.stations;
  few = few;
  actors = next_acts place mid.actors.items (history_of settings es) mid.next its.next;
  comes = its.comes;
}

-- the event of this choice happened, and the processes heard of it
pub played : (es : List Event) (old new : Driver) (c : Choice) (e : Event) (place : ℕ) → IsDriver es old →
    new.config ≡ old.config → HasHappened es new.course e place → new.generator ≡ c.state → new.next ≡ e → e ≡ c.event →
    AreActors new.actors.items (history_of settings es ++ happened settings (logs_of settings es) e ∷ []) → IsPlayed es new c
played es old new c e place is config happens state next event actors = record {
  driver =
      subst (λ x. IsDriver (es ++ x ∷ []) new) event
      (record {
        config = config ∙ is.config;
        course = happens.course;
        actors = subst (AreActors new.actors.items) (sym (history_with es e _ refl)) actors;
      });
  state = state;
  event = next ∙ event;
  below = happens.below;
}

-- what the first draw says
module _ (x kind state : ℕ) (hs : List Happened) (is : state ≡ next x) (drawn_is : kind ≡ drawn state) where
  by_kind : choice x hs ≡ choice_by (kind % 8) state hs
  by_kind =
      let same : kind ≡ drawn (next x) = drawn_is ∙ ap drawn is in
      (λ i. choice_by (sym same i % 8) (sym is i) hs)

  not_process : 3 ≤ kind % 8 →
      choice x hs ≡ cond (nat_lt (kind % 8) 6) (delivery_choice state (all_emitted hs)) (tick_choice state)
  not_process some = by_kind ∙ cond-false (nat_lt (kind % 8) 3) (process_choice state hs) _ (le-ltb (kind % 8) 3 some)

  pub choice_process : kind % 8 < 3 → choice x hs ≡ process_choice state hs
  choice_process low = by_kind ∙ cond-true (nat_lt (kind % 8) 3) (process_choice state hs) _ (lt-ltb (kind % 8) 3 low)

  pub choice_delivery : 3 ≤ kind % 8 → kind % 8 < 6 → choice x hs ≡ delivery_choice state (all_emitted hs)
  choice_delivery some low =
      not_process some
      ∙ cond-true (nat_lt (kind % 8) 6) (delivery_choice state (all_emitted hs)) (tick_choice state) (lt-ltb (kind % 8) 6 low)

  pub choice_tick : 3 ≤ kind % 8 → 6 ≤ kind % 8 → choice x hs ≡ tick_choice state
  choice_tick some more =
      not_process some
      ∙ cond-false (nat_lt (kind % 8) 6) (delivery_choice state (all_emitted hs)) (tick_choice state) (le-ltb (kind % 8) 6 more)

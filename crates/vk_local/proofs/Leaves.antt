-- What a call leaves: where it is refused what there was, else what it makes of it.
use Rattle.std.proofs.Common.{◌≡◌, ℕ, List, [], ◌∷◌, ◌++◌, Option, Some, None, refl, sym, ap, subst, ◌∙◌, append_assoc}
use Rattle.vk_types.specs.Types.{Outcome, Pid, Refusal, Step}
use Rattle.vk_pool.specs.declared.alien.Alien.{Alien}
use Rattle.vk_procs.specs.declared.seat.Seat.{Seat}
use Rattle.vk_stands.specs.Tables.{Tables}
use Rattle.vk_local.specs.Calls.{finish_steps, steps_of, unless}
use Rattle.vk_local.specs.Done.{LeavesSeats, LeavesTables}
use Rattle.vk_local.specs.Takes.{front_of, served, served_lists, served_seats, served_slots, served_steps}

module _ (due : Option Refusal → Option Outcome) (r : Option Refusal) (call : Step) (before after : List Step) where
  pub refused_tables : (left t : Tables) (more : List Step) (why : Refusal) → r ≡ Some why → after ≡ before ++ call ∷ [] →
      LeavesTables (due r) (unless r left t) (call ∷ unless r more []) (due (Some why)) t before after
  refused_tables left t more why is listed =
      subst (λ x. LeavesTables (due x) (unless x left t) (call ∷ unless x more []) (due (Some why)) t before after) (sym is)
      (record { outcome = refl; seats = refl; lists = refl; slots = refl; steps = listed })

  -- behind the call a process takes the first message that waits at it
  pub left_served : (u t new : Tables) (pid : Pid) (seats : List Seat) (lists : List (List ℕ)) (slots : List (Option Alien))
      (called : List Step) → r ≡ None → seats ≡ u.seats → lists ≡ u.lists → slots ≡ u.slots →
      new.seats ≡ served_seats seats slots pid (front_of seats lists pid) →
      new.lists ≡ served_lists seats lists pid (front_of seats lists pid) →
      new.slots ≡ served_slots slots (front_of seats lists pid) → called ≡ before ++ call ∷ [] →
      after ≡ called ++ served_steps pid (front_of seats lists pid) →
      LeavesTables (due r) (unless r (served u pid) t) (call ∷ unless r (steps_of u pid) []) (due None) new before after
  left_served u t new pid seats lists slots called is a b d seated listed slotted first taken =
      subst (λ x. LeavesTables (due x) (unless x (served u pid) t) (call ∷ unless x (steps_of u pid) []) (due None) new before after)
      (sym is) (record {
        outcome = refl;
        seats = seated ∙ (λ i. served_seats (a i) (d i) pid (front_of (a i) (b i) pid));
        lists = listed ∙ (λ i. served_lists (a i) (b i) pid (front_of (a i) (b i) pid));
        slots = slotted ∙ (λ i. served_slots (d i) (front_of (a i) (b i) pid));
        steps = taken ∙ (λ i. first i ++ served_steps pid (front_of (a i) (b i) pid))
            ∙ append_assoc before (call ∷ []) (steps_of u pid);
      })

  pub refused_seats : (left seats : List Seat) (to : Pid) (why : Refusal) → r ≡ Some why → after ≡ before ++ call ∷ [] →
      LeavesSeats (due r) (unless r left seats) (call ∷ finish_steps r to) (due (Some why)) seats before after
  refused_seats left seats to why is listed =
      subst (λ x. LeavesSeats (due x) (unless x left seats) (call ∷ finish_steps x to) (due (Some why)) seats before after) (sym is)
      (record { outcome = refl; seats = refl; steps = listed })

  pub left_seats : (left seats new : List Seat) (to : Pid) (called : List Step) → r ≡ None → new ≡ left →
      called ≡ before ++ call ∷ [] → after ≡ called ++ finish_steps None to →
      LeavesSeats (due r) (unless r left seats) (call ∷ finish_steps r to) (due None) new before after
  left_seats left seats new to called is same first listed =
      subst (λ x. LeavesSeats (due x) (unless x left seats) (call ∷ finish_steps x to) (due None) new before after) (sym is) (record {
        outcome = refl;
        seats = same;
        steps = listed ∙ ap (λ ss. ss ++ finish_steps None to) first ∙ append_assoc before (call ∷ []) (finish_steps None to);
      })

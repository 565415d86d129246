-- The relation after the entry of a call or a collect within the station, from what is kept step by step within it.
use Rattle.std.proofs.Common.{◌≡◌, ℕ, Bool, true, false, [], ◌∷◌, fold, map, Option, Some, refl, sym, ap, subst, ◌∙◌, inl, inr}
use Rattle.std.specs.List.{list_any}
use Rattle.std.specs.Option.{option_map, is_some}
use Rattle.std.proofs.lemmas.Bool.{cases_Bool}
use Rattle.vk_types.specs.Types.{Call, Name, Pid, Waiting}
use Rattle.vk_base.specs.declared.activity.Activity.TheVariants as activities
use Rattle.vk_base.specs.declared.step.Step.TheVariants as steps
use Rattle.vk_base.specs.Calls.{Effect}
use Rattle.vk_base.specs.Kernel.{Kernel}
use Rattle.vk_base.specs.Pids.{same_pid}
use Rattle.vk_base.specs.Settings.{Settings}
use Rattle.vk_base.specs.Steps.{after_effect, effect, next}
use Rattle.v_laws.proofs.Tables.{same_pid_is}
use Rattle.vk_procs.specs.declared.seat.Seat.{Seat}
use Rattle.vk_procs.specs.Seats.{seat_in}
use Rattle.vk_rules.specs.Aliens.{is_closing}
use Rattle.vk_rules.specs.CallOutcomes.{packets_of, steps_behind}
use Rattle.vk_rules.specs.Entries.{Called, Collected, is_begun}
use Rattle.vk_rules.specs.Readings.{Reading}
use Rattle.vk_rules.specs.Right.{answer_to}
use Rattle.vk_rules.specs.Rounds.{list_if}
use Rattle.vk_stands.specs.Stands.{Stands}
use Rattle.vk_stands.specs.Tables.{Tables, is_work, read_alien}
use Rattle.vk_stands.proofs.After.{events_are, reading_for}
use Rattle.vk_stands.proofs.AfterEntries.{answered_works, called_others, called_slots, called_view, collected_slots, collected_view, collected_works}
use Rattle.vk_stands.proofs.Parts.{Carries, Part, stands_part}

module _ (c : Settings) (host : ℕ) (t u : Tables) (r : Reading) (h : Stands c.times host t r) (carries : Carries 1 t u)
    (read : map (option_map read_alien) u.slots ≡ map (option_map read_alien) t.slots) where
  -- A call that closes nothing, and begins no work of its caller.
  module _ (pid : Pid) (call : Call) where
    abbrev kernel : Kernel
    kernel = next r.view (steps.Call pid call)

    pub call_stands : Part host u (fold next kernel (steps_behind kernel pid call (answer_to c host r (Called pid call)))) →
        ((name : Name) → list_any (is_closing name) (packets_of r.view kernel r.slots pid call (answer_to c host r (Called pid call)))
        ≡ false) →
        ((s : Seat) (w : Waiting) → is_begun (answer_to c host r (Called pid call)) ≡ true → seat_in u.seats pid ≡ Some s →
        s.doing ≡ activities.Blocked w → is_work pid w ≡ true → ⊥) →
        Stands c.times host u (reading_for c host r (Called pid call))
    call_stands part closes idle =
        stands_part c.times host t u r (reading_for c host r (Called pid call)) h
        (subst (Part host u) (sym (called_view c host r pid call)) part) carries (record {
          slots = called_slots c host r pid call closes ∙ h.slots ∙ sym read;
          events = events_are c host r (Called pid call);
          works = works;
        })
      where
        caller : (q : Pid) (s : Seat) (w : Waiting) (b : Bool) → is_begun (answer_to c host r (Called pid call)) ≡ b → pid ≡ q →
            seat_in u.seats q ≡ Some s → s.doing ≡ activities.Blocked w → is_work q w ≡ true →
            (reading_for c host r (Called pid call)).work q ≡ r.work q
        caller q s w true begun same at blocked work =
            absurd (idle s w begun (ap (seat_in u.seats) same ∙ at) blocked (ap (λ p. is_work p w) same ∙ work))
        caller q s w false unbegun same at blocked work = answered_works c host r pid call unbegun q

        works : (q : Pid) (s : Seat) (w : Waiting) → seat_in u.seats q ≡ Some s → s.doing ≡ activities.Blocked w → is_work q w ≡ true →
            (reading_for c host r (Called pid call)).work q ≡ r.work q
        works q s w at blocked work = elim (cases_Bool (same_pid pid q)) [
          | inl same ↦ caller q s w (is_begun (answer_to c host r (Called pid call))) refl (same_pid_is pid q same) at blocked work
          | inr other ↦ called_others c host r pid call q other
        ]

  -- A collect.
  pub collect_stands : (pid : Pid) (e : Effect) → effect r.view (steps.Collect pid) ≡ Some e → Part host u e.after →
      Stands c.times host u (reading_for c host r (Collected pid))
  collect_stands pid e does part =
      stands_part c.times host t u r (reading_for c host r (Collected pid)) h
      (subst (Part host u) (sym (collected_view c host r pid
      ∙ ap (λ (o : Option Effect). fold next r.view (list_if (is_some o) (steps.Collect pid ∷ []))) does
      ∙ ap (after_effect r.view) does)) part) carries (record {
        slots = collected_slots c host r pid ∙ h.slots ∙ sym read;
        events = events_are c host r (Collected pid);
        works = λ q s w at blocked work. collected_works c host r pid q;
      })

-- The relation after a call that begins a work of its caller, whose first round goes out.
use Rattle.std.proofs.Common.{◌≡◌, ◌≤◌, ℕ, ◌+◌, true, false, map, Some, sym, ap, subst, ◌∙◌}
use Rattle.std.specs.List.{list_any}
use Rattle.std.specs.Option.{option_map}
use Rattle.vk_types.specs.Types.{Call, Pid, Waiting}
use Rattle.vk_base.specs.declared.activity.Activity.TheVariants as activities
use Rattle.vk_base.specs.declared.event.EventAnswer.TheVariants as events_answered
use Rattle.vk_base.specs.declared.step.Step.TheVariants as steps
use Rattle.vk_base.specs.Pids.{same_pid}
use Rattle.vk_base.specs.Settings.{Settings}
use Rattle.vk_base.specs.Steps.{next}
use Rattle.v_laws.proofs.Tables.{same_pid_laws}
use Rattle.vk_pool.specs.declared.alien.Alien.{Alien}
use Rattle.vk_pool.specs.Aliens.{alien_from}
use Rattle.vk_procs.specs.declared.seat.Seat.{Seat}
use Rattle.vk_procs.specs.Seats.{seat_in}
use Rattle.vk_rules.specs.CallOutcomes.{packets_of}
use Rattle.vk_rules.specs.Entries.{Called, is_begun}
use Rattle.vk_rules.specs.Readings.{Reading}
use Rattle.vk_rules.specs.Right.{answer_to}
use Rattle.vk_rules.specs.Works.{Work, is_of_round}
use Rattle.vk_stands.specs.Stands.{IsWorking, Stands}
use Rattle.vk_stands.specs.Tables.{Tables, read_alien}
use Rattle.vk_stands.proofs.After.{events_are, reading_for}
use Rattle.vk_stands.proofs.AfterEntries.{begun_slots, begun_work, called_others}
use Rattle.vk_stands.proofs.MoverSeated.{stands_by_part}
use Rattle.vk_stands.proofs.Parts.{Part}

-- the work then: it is of this tick, and one round has gone out
abbrev pub first_work : ℕ → Work
first_work now = record { since = now; rounds = 1; acknowledged = 0; received = 0; fresh = false }

-- The caller was s and is y; the other processes are as they were.
module _ (c : Settings) (host : ℕ) (t u : Tables) (r : Reading) (h : Stands c.times host t r) (pid : Pid) (s y : Seat)
    (found : seat_in t.seats pid ≡ Some s) (there : seat_in u.seats pid ≡ Some y) (call : Call)
    (others : (q : Pid) → same_pid q pid ≡ false → seat_in u.seats q ≡ seat_in t.seats q)
    (sends : y.note.sends ≤ s.note.sends + 1) (lookups : y.note.lookups ≤ s.note.lookups + 1)
    (moved : (sender : Pid) (a : Alien) → alien_from u.slots sender ≡ Some a → a.moves ≤ r.events + 1)
    (read : map (option_map read_alien) u.slots ≡ map (option_map read_alien) t.slots) where
  abbrev after : Reading
  after = reading_for c host r (Called pid call)

  module _ (begun : answer_to c host r (Called pid call) ≡ events_answered.Begun)
      (sent : list_any (is_of_round pid) (packets_of r.view (next r.view (steps.Call pid call)) r.slots pid call
      (answer_to c host r (Called pid call))) ≡ true)
      (works : (w : Waiting) → y.doing ≡ activities.Blocked w → IsWorking c.times y (first_work r.now) w) where
    work_here : after.work pid ≡ first_work r.now
    work_here = begun_work c host r pid call (ap is_begun begun) sent

    pub stands_begun : Part host u after.view → Stands c.times host u after
    stands_begun part = stands_by_part c.times host t u r after h pid s y (record {
      was = found;
      is = there;
      others = others;
      sends = sends;
      lookups = lookups;
      slots = begun_slots c host r pid call begun ∙ h.slots ∙ sym read;
      moved = moved;
      events = events_are c host r (Called pid call);
      rest = λ q other. called_others c host r pid call q (same_pid_laws.symm pid q ∙ other);
      works = λ w blocked is. subst (λ v. IsWorking c.times y v w) (sym work_here) (works w blocked);
    }) part

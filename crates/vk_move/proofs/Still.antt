-- A packet to a mover that makes no step: the view and the slots stay, and the work of the mover alone may change.
use Rattle.std.proofs.Common.{◌≡◌, ℕ, ◌+◌, Bool, false, cond, List, [], ap, sym, ◌∙◌, subst, Option, Some, inl, inr}
use Rattle.std.specs.List.{list_any, filter_map, sum_by}
use Rattle.std.proofs.lemmas.Bool.{cases_Bool}
use Rattle.vk_types.specs.Types.{Name, Pid, Process, Waiting}
use Rattle.vk_base.specs.declared.activity.Activity.TheVariants as activities
use Rattle.vk_base.specs.declared.event.EventAnswer.TheVariants as events_answered
use Rattle.vk_base.specs.Kernel.{holds_of}
use Rattle.vk_base.specs.Packets.{Packet}
use Rattle.vk_base.specs.Pids.{same_pid}
use Rattle.vk_base.specs.Settings.{Settings}
use Rattle.vk_base.specs.Steps.{first_of}
use Rattle.vk_base.proofs.BoolLemmas.{cond_same}
use Rattle.v_laws.proofs.Tables.{same_pid_is, same_pid_laws}
use Rattle.vk_frame.specs.declared.header.Header.{Header}
use Rattle.vk_procs.specs.declared.seat.ProcNote.{ProcNote}
use Rattle.vk_procs.specs.declared.seat.Seat.{Seat}
use Rattle.vk_procs.specs.Seats.{is_seat, seat_in}
use Rattle.vk_rules.specs.Aliens.{as_arrival, is_closing, is_copy}
use Rattle.vk_rules.specs.Entries.{Delivered}
use Rattle.vk_rules.specs.Frames.{Framed}
use Rattle.vk_rules.specs.PacketOutcomes.{packet_outcome}
use Rattle.vk_rules.specs.Readings.{Reading}
use Rattle.vk_rules.specs.Right.{answer_to}
use Rattle.vk_rules.specs.Rounds.{Outcome, only_packets}
use Rattle.vk_rules.specs.View.{after_steps}
use Rattle.vk_rules.specs.Works.{Work, acknowledged_by, count_in, is_answer, is_of_round, is_packet_to}
use Rattle.vk_stands.specs.Fit.{AreFit}
use Rattle.vk_stands.specs.Rules.{packets_in}
use Rattle.vk_stands.specs.Stands.{IsWorking, Stands}
use Rattle.vk_stands.specs.Tables.{Tables}
use Rattle.vk_stands.proofs.After.{entry_for, events_are, packets_are, reading_for, work_by}
use Rattle.vk_stands.proofs.AfterFrames.{came_outcome, came_slots_still, came_steps, came_view, came_work, came_work_still}
use Rattle.vk_stands.proofs.Seats.{change_agree}
use Rattle.vk_stands.proofs.MovesNoted.{stands_worked, worked}
use Rattle.vk_stands.proofs.Whole.{stands_same}
use Rattle.vk_stands.proofs.MoverLeft.{same_wait}
use Rattle.vk_move.specs.Moved.{change_note, renoted}

-- a packet to a mover: it answers no work of others, and is no copy of a Send
pub record IsToMover (to : Pid) (p : Packet) : Type 0 where
  pub answers : (q : Pid) (w : Work) (o : Option Process) → same_pid to q ≡ false → holds_of (is_answer q w p) o ≡ false
  pub copies : (n : Name) → is_copy n p ≡ false

module _ (c : Settings) (host : ℕ) (r : Reading) (h : Header) (packet : Packet)
    (taken : answer_to c host r (Delivered (Framed h packet)) ≡ events_answered.Taken)
    (t : Tables) (stands : Stands c.times host t r) (to : Pid) (is : IsToMover to packet) (ps : List Packet)
    (out : packet_outcome host r packet ≡ only_packets ps)
    (closes : (n : Name) → list_any (is_closing n) ps ≡ false)
    (others : (q : Pid) → same_pid to q ≡ false → list_any (is_of_round q) ps ≡ false) where
  abbrev after : Reading
  after = reading_for c host r (Delivered (Framed h packet))

  abbrev w : Work
  w = r.work to

  view_same : after.view ≡ r.view
  view_same = came_view c host r h packet taken ∙ ap (λ (o : Outcome). after_steps r.view (Some packet) o.steps) out

  slots_same : after.slots ≡ r.slots
  slots_same = came_slots_still c host r h packet taken (ap (λ (o : Outcome). first_of (filter_map as_arrival o.steps)) out)
      (λ i a at. (is.copies a.name, ap (λ (o : Outcome). list_any (is_closing a.name) o.packets) out ∙ closes a.name))

  copied : (q : Pid) → cond (is_packet_to q packet) (sum_by count_in (packet_outcome host r packet).steps) 0 ≡ 0
  copied q = ap (λ (o : Outcome). cond (is_packet_to q packet) (sum_by count_in o.steps) 0) out ∙ cond_same (is_packet_to q packet) 0

  work_other : (q : Pid) → same_pid q to ≡ false → after.work q ≡ r.work q
  work_other q apart =
      let other : same_pid to q ≡ false = same_pid_laws.symm to q ∙ apart in
      came_work_still c host r h packet taken q (is.answers q (r.work q) (r.view.procs q) other)
      (ap (λ (o : Outcome). list_any (is_of_round q) o.packets) out ∙ others q other) (copied q)

  pub work_here : (a b : Bool) → holds_of (is_answer to w packet) (r.view.procs to) ≡ a → list_any (is_of_round to) ps ≡ b →
      after.work to ≡ work_by r.now false a b b (acknowledged_by (Some packet)) 0 w
  work_here a b answered sent =
      let rounds = ap (λ (o : Outcome). list_any (is_of_round to) o.packets) out ∙ sent in
      came_work c host r h packet taken to
      ∙ (λ i. work_by r.now false (answered i) (rounds i) (rounds i) (acknowledged_by (Some packet)) (copied to i) w)

  pub quiet : holds_of (is_answer to w packet) (r.view.procs to) ≡ false → list_any (is_of_round to) ps ≡ false →
      Stands c.times host t after
  quiet unanswered unsent =
      stands_same c.times host t r after stands view_same slots_same (events_are c host r (Delivered (Framed h packet)))
      (λ q. elim (cases_Bool (same_pid q to)) [
        | inl same ↦ subst (λ p. after.work p ≡ r.work p) (sym (same_pid_is q to same))
            (came_work_still c host r h packet taken to unanswered
            (ap (λ (o : Outcome). list_any (is_of_round to) o.packets) out ∙ unsent) (copied to))
        | inr other ↦ work_other q other
      ])

  pub right_steps : [] ≡ (entry_for c host r (Delivered (Framed h packet))).steps
  right_steps = sym (came_steps c host r h packet taken ∙ ap (λ (o : Outcome). o.steps) out)

  pub right_packets : ps ≡ packets_in (entry_for c host r (Delivered (Framed h packet)))
  right_packets = sym (packets_are c host r (Delivered (Framed h packet))
      ∙ ap (λ (o : Outcome). o.packets) (came_outcome c host r h packet taken)
      ∙ ap (λ (o : Outcome). o.packets) out)

  -- what the mover notes of its work changes, where the work changes so
  pub noted_stands : (fit : AreFit host t) → to.host ≡ host → (s : Seat) (found : seat_in t.seats to ≡ Some s) (waiting : Waiting) →
      s.doing ≡ activities.Blocked waiting → (tries offset : ℕ) (fresh : Bool) →
      IsWorking c.times (worked tries (r.now + c.times.interval) offset fresh s) (after.work to) waiting → (g : ProcNote → ProcNote) →
      renoted g s ≡ worked tries (r.now + c.times.interval) offset fresh s →
      Stands c.times host (record t { seats = change_note to g t.seats }) after
  noted_stands fit own s found waiting state tries offset fresh working g same =
      subst (λ xs. Stands c.times host (record t { seats = xs }) after)
      (sym (change_agree (is_seat to) (renoted g) (worked tries (r.now + c.times.interval) offset fresh) t.seats s found same))
      (stands_worked c.times host t r stands fit to own s found tries (r.now + c.times.interval) offset fresh after
      view_same slots_same (events_are c host r (Delivered (Framed h packet))) work_other
      (λ v at work. subst (IsWorking c.times (worked tries (r.now + c.times.interval) offset fresh s) (after.work to))
      (same_wait waiting v (sym state ∙ at)) working))

-- That a partner no longer waits, by the tables and by the rules.
use Rattle.std.proofs.Common.{◌≡◌, ℕ, Bool, true, false, cond, ◌==◌, List, [], ◌∷◌, fold, refl, ap, sym, ◌∙◌, subst, Option, Some, None}
use Rattle.std.specs.List.{list_any, filter_map, sum_by}
use Rattle.std.specs.Option.{option_map}
use Rattle.std.proofs.lemmas.Bool.{and_parts}
use Rattle.vk_types.specs.Types.{Activity, MoveName, Name, Pid, Process, Times}
use Rattle.vk_base.specs.declared.activity.Activity.TheVariants as activities
use Rattle.vk_base.specs.declared.activity.Outcome.TheVariants as outcomes
use Rattle.vk_base.specs.declared.answer.Ending.TheVariants as endings
use Rattle.vk_base.specs.declared.answer.Refusal.TheVariants as refusals
use Rattle.vk_base.specs.declared.event.EventAnswer.TheVariants as events_answered
use Rattle.vk_base.specs.declared.step.Step.TheVariants as steps
use Rattle.vk_base.specs.Activities.{state_of}
use Rattle.vk_base.specs.Kernel.{Kernel, holds_of, is_moving, name_of, same_name}
use Rattle.vk_base.specs.Packets.{Packet, MoveNegative}
use Rattle.vk_base.specs.Pids.{same_pid}
use Rattle.vk_base.specs.Settings.{Settings}
use Rattle.vk_base.specs.Steps.{first_of, is_in_move, next, same_move}
use Rattle.v_laws.specs.Sound.{IsSoundAt}
use Rattle.v_laws.proofs.Tables.{same_pid_is}
use Rattle.vk_frame.specs.declared.header.Header.{Header}
use Rattle.vk_procs.specs.declared.seat.Seat.{Seat}
use Rattle.vk_procs.specs.Seats.{process_of, seat_in}
use Rattle.vk_rules.specs.Aliens.{as_arrival, is_closing}
use Rattle.vk_rules.specs.Entries.{Delivered}
use Rattle.vk_rules.specs.Frames.{Framed}
unfoldable use Rattle.vk_rules.specs.PacketOutcomes.{packet_outcome}
use Rattle.vk_rules.specs.Readings.{Reading}
use Rattle.vk_rules.specs.Right.{answer_to}
use Rattle.vk_rules.specs.Rounds.{Outcome, list_if, step_where}
use Rattle.vk_rules.specs.View.{after_steps}
use Rattle.vk_rules.specs.Works.{Work, count_in, is_answer, is_of_round, is_packet_to}
use Rattle.vk_stands.specs.Fit.{AreFit}
use Rattle.vk_stands.specs.Stands.{Stands}
use Rattle.vk_stands.specs.Tables.{Tables}
use Rattle.vk_stands.proofs.After.{entry_for, events_are, packets_are, reading_for}
use Rattle.vk_stands.proofs.AfterFrames.{came_outcome, came_slots_still, came_steps, came_view, came_work_still}
use Rattle.vk_stands.proofs.MovesEnded.{IsSeatInMove, gone_ends, next_ended, stands_ended}
use Rattle.vk_stands.proofs.Received.{received}
use Rattle.vk_stands.proofs.Whole.{sound_next, stands_same}
use Rattle.vk_move.specs.Moved.{subject_by, still}
use Rattle.vk_move.specs.Mover.{ended, gone_taken, is_mover}
use Rattle.vk_move.specs.Right.{IsMoveRule, IsMoveRight}

none_answered : (q : Pid) (w : Work) (from to : Pid) (number moving : ℕ) (o : Option Process) →
    holds_of (is_answer q w (MoveNegative from to number moving)) o ≡ false
none_answered q w from to number moving None = refl
none_answered q w from to number moving (Some p) = refl

none_copied : (b d : Bool) (to : Pid) → cond b (sum_by count_in (list_if d (steps.End to endings.Gone ∷ []))) 0 ≡ 0
none_copied true true to = refl
none_copied true false to = refl
none_copied false d to = refl

no_arrival : (d : Bool) (to : Pid) → first_of (filter_map as_arrival (list_if d (steps.End to endings.Gone ∷ []))) ≡ None
no_arrival true to = refl
no_arrival false to = refl

view_by : (k : Kernel) (from to : Pid) (number moving : ℕ) (d : Bool) →
    after_steps k (Some (MoveNegative from to number moving)) (list_if d (steps.End to endings.Gone ∷ [])) ≡ fold next k
    (list_if d (steps.End to endings.Gone ∷ []))
view_by k from to number moving true = refl
view_by k from to number moving false = refl

test_by : (name : Name) (moving : ℕ) (o : Option Seat) →
    holds_of (is_in_move name moving) (option_map process_of o) ≡ holds_of (is_mover name moving) o
test_by name moving None = refl
test_by name moving (Some s) = refl

-- a process that waits in this move
pub record IsMover (name : Name) (moving : ℕ) (s : Seat) : Type 0 where
  pub move : IsSeatInMove s
  pub noted : MoveName
  pub is : s.note.moving ≡ Some noted
  pub same : same_move noted name moving ≡ true

noted_by : (o : Option MoveName) (name : Name) (moving : ℕ) → holds_of (λ m. same_move m name moving) o ≡ true →
    (m : MoveName) × (o ≡ Some m) × (same_move m name moving ≡ true)
noted_by None name moving t = cc
noted_by (Some m) name moving t = (m, refl, t)

in_move : (s : Seat) (d : Activity) → s.doing ≡ d → is_moving (state_of d) ≡ true → IsSeatInMove s
in_move s activities.Ready is t = cc
in_move s (activities.Done w o) is t = cc
in_move s (activities.Blocked w) is t = record { waiting = w; state = is; moves = t }

pub mover_is : (name : Name) (moving : ℕ) (s : Seat) → is_mover name moving s ≡ true → IsMover name moving s
mover_is name moving s t =
    let a = and_parts (is_moving (state_of s.doing)) (holds_of (λ m. same_move m name moving) s.note.moving) t in
    let n = noted_by s.note.moving name moving a.1 in
    record { move = in_move s s.doing refl a.0; noted = n.0; is = n.1; same = n.2 }

module _ (c : Settings) (host : ℕ) (r : Reading) (h : Header) (from to : Pid) (number moving : ℕ)
    (taken : answer_to c host r (Delivered (Framed h (MoveNegative from to number moving))) ≡ events_answered.Taken)
    (t : Tables) (fit : AreFit host t) (stands : Stands c.times host t r) where
  abbrev packet : Packet
  packet = MoveNegative from to number moving

  abbrev name : Name
  name = name_of from number

  abbrev after : Reading
  after = reading_for c host r (Delivered (Framed h packet))

  abbrev gone : Bool
  gone = holds_of (is_mover name moving) (seat_in t.seats to)

  own : to.host ≡ host
  own = (received c host r h packet taken).own to refl

  outcome_is : packet_outcome host r packet ≡ step_where gone (steps.End to endings.Gone)
  unfolding packet_outcome
  outcome_is = ap (λ b. step_where b (steps.End to endings.Gone))
      (ap (holds_of (is_in_move name moving)) (stands.procs to own) ∙ test_by name moving (seat_in t.seats to))

  steps_are : (packet_outcome host r packet).steps ≡ list_if gone (steps.End to endings.Gone ∷ [])
  steps_are = ap (λ (o : Outcome). o.steps) outcome_is

  view_is : after.view ≡ fold next r.view (list_if gone (steps.End to endings.Gone ∷ []))
  view_is = came_view c host r h packet taken ∙ ap (after_steps r.view (Some packet)) steps_are ∙ view_by r.view from to number moving gone

  slots_same : after.slots ≡ r.slots
  slots_same = came_slots_still c host r h packet taken (ap (λ ss. first_of (filter_map as_arrival ss)) steps_are ∙ no_arrival gone to)
      (λ i a is. (refl, ap (λ (o : Outcome). list_any (is_closing a.name) o.packets) outcome_is))

  work_same : (q : Pid) → after.work q ≡ r.work q
  work_same q = came_work_still c host r h packet taken q (none_answered q (r.work q) from to number moving (r.view.procs q))
      (ap (λ (o : Outcome). list_any (is_of_round q) o.packets) outcome_is)
      (ap (λ ss. cond (is_packet_to q packet) (sum_by count_in ss) 0) steps_are ∙ none_copied (is_packet_to q packet) gone to)

  idle : gone ≡ false → Stands c.times host t after
  idle f = stands_same c.times host t r after stands
      (view_is ∙ ap (λ b. fold next r.view (list_if b (steps.End to endings.Gone ∷ []))) f) slots_same
      (events_are c host r (Delivered (Framed h packet))) work_same

  busy : (s : Seat) → seat_in t.seats to ≡ Some s → is_mover name moving s ≡ true → gone ≡ true →
      Stands c.times host (record t { seats = (ended to endings.Gone t.seats).seats }) after
  busy s found mover yes_here =
      let m = mover_is name moving s mover in
      let parts = and_parts (same_name m.noted.exchange name) (m.noted.number == moving) m.same in
      let sender : same_pid m.noted.exchange.sender from ≡ true =
      (and_parts (same_pid m.noted.exchange.sender from) (m.noted.exchange.number == number) parts.0).0 in
      let away : m.noted.exchange.sender.host ≡ host → ⊥ =
      λ e. (received c host r h packet taken).away (sym (ap (λ (p : Pid). p.host) (same_pid_is m.noted.exchange.sender from sender)) ∙ e) in
      let o = outcomes.Refused refusals.Gone in
      let ends = gone_ends c.times host t r stands fit to own s found m.move m.noted away in
      let next_is = next_ended c.times host t r stands fit to own s found m.move endings.Gone m.noted o m.is ends in
      stands_ended c.times host t r stands fit to own s found m.move o after
      (subst (IsSoundAt (λ g. false)) next_is (sound_next r.view (steps.End to endings.Gone) stands.sound))
      (view_is ∙ ap (λ b. fold next r.view (list_if b (steps.End to endings.Gone ∷ []))) yes_here ∙ next_is) slots_same
      (events_are c host r (Delivered (Framed h packet))) (λ p other. work_same p)

  by_seat : (o : Option Seat) → seat_in t.seats to ≡ o → holds_of (is_mover name moving) o ≡ true →
      (s : Seat) × (seat_in t.seats to ≡ Some s) × (is_mover name moving s ≡ true)
  by_seat None is t1 = cc
  by_seat (Some s) is t1 = (s, is, t1)

  by_gone : (b : Bool) → gone ≡ b →
      Stands c.times host (record t { seats = (cond b (ended to endings.Gone t.seats) (still t.seats)).seats }) after
  by_gone true is = let x = by_seat (seat_in t.seats to) refl is in busy x.0 x.1 x.2 is
  by_gone false is = idle is

  steps_by : (b : Bool) → (cond b (ended to endings.Gone t.seats) (still t.seats)).steps ≡ list_if b (steps.End to endings.Gone ∷ [])
  steps_by true = refl
  steps_by false = refl

  packets_by : (b : Bool) → (cond b (ended to endings.Gone t.seats) (still t.seats)).packets ≡ []
  packets_by true = refl
  packets_by false = refl

  gone_right : IsMoveRight c host t r (entry_for c host r (Delivered (Framed h packet))) (gone_taken (subject_by to from number moving) t.seats)
  gone_right = record {
    steps = steps_by gone ∙ sym steps_are ∙ sym (came_steps c host r h packet taken);
    packets = packets_by gone ∙ sym (ap (λ (o : Outcome). o.packets) outcome_is)
        ∙ sym (ap (λ (o : Outcome). o.packets) (came_outcome c host r h packet taken))
        ∙ sym (packets_are c host r (Delivered (Framed h packet)));
    stands = by_gone gone refl;
  }

pub gone_rule : (times : Times) (now : ℕ) (from to : Pid) (number moving : ℕ) (seats : List Seat) →
    IsMoveRule times now (MoveNegative from to number moving) seats (gone_taken (subject_by to from number moving) seats)
gone_rule times now from to number moving seats c host t r h same at fit stands taken =
    gone_right c host r h from to number moving taken (record t { seats = seats }) fit
    (subst (λ x. Stands x host (record t { seats = seats }) r) (sym same) stands)

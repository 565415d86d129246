-- The relation after a packet of a mover came to the station of its partner, which waits in its Send: the packet is no answer to any work
-- and sends no round.
use Rattle.std.proofs.Common.{◌≡◌, ℕ, ◌+◌, Bool, true, false, cond, [], map, refl, sym, ap, subst, ◌∙◌, Option, Some, None, arith}
use Rattle.std.specs.List.{filter_map, list_any, sum_by}
use Rattle.std.specs.Option.{option_map}
use Rattle.std.proofs.lemmas.Option.{same_Some}
use Rattle.vk_types.specs.Types.{Message, Name, Pid, Process, Times, Waiting}
use Rattle.vk_base.specs.declared.activity.Activity.TheVariants as activities
use Rattle.vk_base.specs.declared.activity.Waiting.TheVariants as waitings
use Rattle.vk_base.specs.declared.event.EventAnswer.TheVariants as events_answered
use Rattle.vk_base.specs.Kernel.{holds_of}
use Rattle.vk_base.specs.Packets.{Packet}
use Rattle.vk_base.specs.Pids.{same_pid}
use Rattle.vk_base.specs.Settings.{Settings}
use Rattle.vk_base.specs.Steps.{first_of}
use Rattle.vk_base.proofs.BoolLemmas.{cond_same}
use Rattle.v_laws.proofs.Tables.{same_pid_is}
use Rattle.vk_frame.specs.declared.header.Header.{Header}
use Rattle.vk_procs.specs.declared.seat.Seat.{Seat}
use Rattle.vk_procs.specs.Seats.{seat_in}
use Rattle.vk_rules.specs.Aliens.{as_arrival, is_closing, is_copy}
use Rattle.vk_rules.specs.Entries.{Delivered}
use Rattle.vk_rules.specs.Frames.{Framed}
use Rattle.vk_rules.specs.PacketOutcomes.{packet_outcome}
use Rattle.vk_rules.specs.Readings.{Reading}
use Rattle.vk_rules.specs.Right.{answer_to}
use Rattle.vk_rules.specs.Rounds.{Outcome}
use Rattle.vk_rules.specs.View.{after_steps}
use Rattle.vk_rules.specs.Works.{Work, acknowledged_by, count_in, is_answer, is_of_round, is_packet_to}
use Rattle.vk_stands.specs.Rules.{packets_in}
use Rattle.vk_stands.specs.Stands.{IsFar, IsWorking, Stands}
use Rattle.vk_stands.specs.Tables.{Tables, is_work, read_alien}
use Rattle.vk_stands.proofs.After.{entry_for, events_are, packets_are, reading_for, work_by}
use Rattle.vk_stands.proofs.AfterFrames.{came_outcome, came_slots_still, came_steps, came_view, came_work, came_work_still}
use Rattle.vk_stands.proofs.Parts.{Carries, Part, one_event}
use Rattle.vk_stands.proofs.Whole.{stands_same, stands_then, working_kept}

-- The relation from its part: a process that waits in a Send, of whose work the bytes alone that were received have changed, and the
-- others as they were.
module _ (times : Times) (host : ℕ) (t : Tables) (r : Reading) (h : Stands times host t r) (pid : Pid) (s : Seat)
    (found : seat_in t.seats pid ≡ Some s) (target : Pid) (m : Message) (state : s.doing ≡ activities.Blocked (waitings.Send target m))
    (u : Tables) (q : Reading) (part : Part host u q.view) (carries : Carries 1 t u) (slots : q.slots ≡ map (option_map read_alien) u.slots)
    (events : q.events ≡ r.events + 1) (others : (p : Pid) → same_pid p pid ≡ false → q.work p ≡ r.work p)
    (rounds : (q.work pid).rounds ≡ (r.work pid).rounds) (since : (q.work pid).since ≡ (r.work pid).since) where
  no_place : (y : Seat) (v : Work) (w : Waiting) → waitings.Send target m ≡ w → IsFar y v w
  no_place y v w is = subst (IsFar y v) is tt

  same_waiting : (w : Waiting) → activities.Blocked (waitings.Send target m) ≡ activities.Blocked w → waitings.Send target m ≡ w
  same_waiting w is = cc

  works_by : (p : Pid) (y : Seat) (w : Waiting) (b : Bool) → same_pid p pid ≡ b → seat_in u.seats p ≡ Some y →
      y.doing ≡ activities.Blocked w → is_work p w ≡ true → IsWorking times y (q.work p) w
  works_by p y w true same at blocked is =
      let one : p ≡ pid = same_pid_is p pid same in
      let c = carries.seats p y at in
      let g = c.work w blocked is in
      let old : c.old ≡ s = same_Some c.old s (sym c.was ∙ ap (seat_in t.seats) one ∙ found) in
      let k = h.works p c.old w c.was g.0 is in
      record {
        tries = (λ i. (g.1.work i).tries) ∙ k.tries ∙ ap (λ n. (r.work n).rounds) one ∙ sym rounds ∙ ap (λ n. (q.work n).rounds) (sym one);
        deadline = (λ i. (g.1.work i).deadline) ∙ k.deadline
            ∙ ap (λ n. n + times.interval) (ap (λ n. (r.work n).since) one ∙ sym since ∙ ap (λ n. (q.work n).since) (sym one));
        far = no_place y (q.work p) w (same_waiting w (sym state ∙ ap (λ (z : Seat). z.doing) (sym old) ∙ g.0));
      }
  works_by p y w false apart at blocked is =
      let c = carries.seats p y at in
      let g = c.work w blocked is in
      working_kept times y c.old (r.work p) (q.work p) w g.1 (others p apart) (h.works p c.old w c.was g.0 is)

  pub stands_sent : Stands times host u q
  stands_sent = stands_then times host t u r q h part.view (record {
    sound = part.sound;
    names = part.names;
    unknown = part.unknown;
    slots = slots;
    queues = part.queues;
    events = events;
    seats = λ p y at. let c = carries.seats p y at in record { old = c.old; was = c.was; sends = c.sends; lookups = c.lookups };
    aliens = λ sender a at. let x = carries.aliens sender a at in
        one_event a.moves x.0.moves r.events q.events x.2 (h.moved sender x.0 x.1) events;
  }) (λ p y w at blocked is. works_by p y w (same_pid p pid) refl at blocked is)

-- What the packet amounts to.
pub record IsCalm (o : Outcome) : Type 0 where
  pub arrival : first_of (filter_map as_arrival o.steps) ≡ None
  pub closes : (n : Name) → list_any (is_closing n) o.packets ≡ false
  pub rounds : (q : Pid) → list_any (is_of_round q) o.packets ≡ false

pub record IsPlain (to : Pid) (p : Packet) : Type 0 where
  pub copy : (n : Name) → is_copy n p ≡ false
  pub answer : (q : Pid) (w : Work) (x : Option Process) → holds_of (is_answer q w p) x ≡ false
  pub receiver : (q : Pid) → is_packet_to q p ≡ same_pid q to

module _ (c : Settings) (host : ℕ) (r : Reading) (h : Header) (p : Packet) (taken : answer_to c host r (Delivered (Framed h p))
    ≡ events_answered.Taken) (to : Pid) (plain : IsPlain to p) (o : Outcome) (out : packet_outcome host r p ≡ o) (calm : IsCalm o)
    (t : Tables) (stands : Stands c.times host t r) where
  abbrev after : Reading
  after = reading_for c host r (Delivered (Framed h p))

  slots_same : after.slots ≡ r.slots
  slots_same = came_slots_still c host r h p taken (ap (λ (o : Outcome). first_of (filter_map as_arrival o.steps)) out ∙ calm.arrival)
      (λ i a is. (plain.copy a.name, ap (λ (o : Outcome). list_any (is_closing a.name) o.packets) out ∙ calm.closes a.name))

  unsent : (q : Pid) → list_any (is_of_round q) (packet_outcome host r p).packets ≡ false
  unsent q = ap (λ (o : Outcome). list_any (is_of_round q) o.packets) out ∙ calm.rounds q

  work_by_copied : (q : Pid) → cond (is_packet_to q p) (sum_by count_in (packet_outcome host r p).steps) 0 ≡ 0 → after.work q ≡ r.work q
  work_by_copied q none = came_work_still c host r h p taken q (plain.answer q (r.work q) (r.view.procs q)) (unsent q) none

  work_other : (q : Pid) → same_pid q to ≡ false → after.work q ≡ r.work q
  work_other q apart = work_by_copied q
      (ap (λ b. cond b (sum_by count_in (packet_outcome host r p).steps) 0) (plain.receiver q ∙ apart))

  abbrev copied : ℕ
  copied = cond (is_packet_to to p) (sum_by count_in (packet_outcome host r p).steps) 0

  work_here : after.work to ≡ work_by r.now false false false false (acknowledged_by (Some p)) copied (r.work to)
  work_here = came_work c host r h p taken to
      ∙ (λ i. work_by r.now false (plain.answer to (r.work to) (r.view.procs to) i) (unsent to i) (unsent to i)
      (acknowledged_by (Some p)) copied
      (r.work to))

  plus_zero : (n : ℕ) → n + 0 ≡ n
  plus_zero n = omega arith

  -- it makes no step
  pub stands_quiet : o.steps ≡ [] → Stands c.times host t after
  stands_quiet none = stands_same c.times host t r after stands
      (came_view c host r h p taken ∙ ap (after_steps r.view (Some p)) (ap (λ (o : Outcome). o.steps) out ∙ none)) slots_same
      (events_are c host r (Delivered (Framed h p)))
      (λ q. work_by_copied q (ap (λ ss. cond (is_packet_to q p) (sum_by count_in ss) 0) (ap (λ (o : Outcome). o.steps) out ∙ none)
      ∙ cond_same (is_packet_to q p) 0))

  -- it makes some
  pub stands_moved : (s : Seat) → seat_in t.seats to ≡ Some s → (target : Pid) (m : Message) →
      s.doing ≡ activities.Blocked (waitings.Send target m) → (u : Tables) → Part host u (after_steps r.view (Some p) o.steps) →
      Carries 1 t u → u.slots ≡ t.slots → Stands c.times host u after
  stands_moved s found target m state u part carries slots = stands_sent c.times host t r stands to s found target m state u after
      (subst (Part host u) (sym (came_view c host r h p taken
      ∙ ap (λ (o : Outcome). after_steps r.view (Some p) o.steps) out)) part) carries
      (slots_same ∙ stands.slots ∙ ap (map (option_map read_alien)) (sym slots)) (events_are c host r (Delivered (Framed h p))) work_other
      (ap (λ (w : Work). w.rounds) work_here ∙ plus_zero (r.work to).rounds) (ap (λ (w : Work). w.since) work_here)

  pub steps_are : (entry_for c host r (Delivered (Framed h p))).steps ≡ o.steps
  steps_are = came_steps c host r h p taken ∙ ap (λ (o : Outcome). o.steps) out

  pub sends_are : packets_in (entry_for c host r (Delivered (Framed h p))) ≡ o.packets
  sends_are = packets_are c host r (Delivered (Framed h p)) ∙ ap (λ (o : Outcome). o.packets) (came_outcome c host r h p taken)
      ∙ ap (λ (o : Outcome). o.packets) out

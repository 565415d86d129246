-- A move of a process of the station is over.
use Rattle.std.proofs.Common.{◌≡◌, ℕ, ◌+◌, Bool, true, false, cond, ◌==◌, refl, ap, sym, ◌∙◌, subst, Option, Some, None}
use Rattle.std.specs.Option.{option_map, is_none}
use Rattle.vk_types.specs.Types.{Activity, Answer, Ending, Message, MoveName, Name, Outcome, Pid, Process, Times, Waiting}
use Rattle.vk_base.specs.declared.activity.Activity.TheVariants as activities
use Rattle.vk_base.specs.declared.activity.Waiting.TheVariants as waitings
use Rattle.vk_base.specs.declared.answer.Answer.TheVariants as answers
use Rattle.vk_base.specs.declared.answer.Ending.TheVariants as endings
use Rattle.vk_base.specs.declared.answer.Refusal.TheVariants as refusals
use Rattle.vk_base.specs.declared.step.Step.TheVariants as steps
use Rattle.vk_base.specs.Activities.{answer_of, done_with, state_of}
use Rattle.vk_base.specs.Calls.{unseen}
use Rattle.vk_base.specs.Firsts.{change_first}
use Rattle.vk_base.specs.Kernel.{◌>>=◌, Kernel, ended, is_moving, sending, with_state}
unfoldable use Rattle.vk_base.specs.Kernel.{waiting_on}
use Rattle.vk_base.specs.Pids.{same_pid}
use Rattle.vk_base.specs.Steps.{after_effect, move_ending, next, only_if}
unfoldable use Rattle.vk_base.specs.Steps.{ending}
use Rattle.vk_base.proofs.OptionLemmas.{mapped_is}
use Rattle.v_laws.specs.Sound.{IsSoundAt}
use Rattle.v_laws.proofs.Tables.{same_pid_is}
use Rattle.vk_procs.specs.declared.seat.Seat.{Seat}
use Rattle.vk_procs.specs.Seats.{doing_now, finished, is_seat, process_of, seat_in}
use Rattle.vk_rules.specs.Readings.{Reading}
use Rattle.vk_stands.specs.Fit.{AreFit}
use Rattle.vk_stands.specs.Stands.{Stands}
use Rattle.vk_stands.specs.Tables.{Tables}
use Rattle.vk_stands.proofs.Doing.{idle_part}
use Rattle.vk_stands.proofs.OneSeat.{seated}
use Rattle.vk_stands.proofs.Parts.{Part, carries_seated, part_of, same_more, stands_part}
use Rattle.vk_stands.proofs.Seats.{change_agree, find-changed}

-- A process that waits in a move.
pub record IsSeatInMove (s : Seat) : Type 0 where
  pub waiting : Waiting
  pub state : s.doing ≡ activities.Blocked waiting
  pub moves : is_moving (state_of (activities.Blocked waiting)) ≡ true

no_send : (s : Seat) (m : IsSeatInMove s) (target : Pid) (msg : Message) → s.doing ≡ activities.Blocked (waitings.Send target msg) → ⊥
no_send s m target msg is =
    let e : is_moving (state_of (activities.Blocked (waitings.Send target msg))) ≡ true = ap (λ d. is_moving (state_of d))
    (sym is ∙ m.state) ∙ m.moves in
    cc

-- The end of its move in a kernel.
module _ (k : Kernel) (pid : Pid) (s : Seat) (here : k.procs pid ≡ Some (process_of s)) (m : IsSeatInMove s) where
  ends : (why : Ending) (name : MoveName) (a : Answer) → s.note.moving ≡ Some name → move_ending k name why ≡ Some a →
      ending k pid why ≡ Some (process_of s, a)
  unfolding ending
  ends why name a noted is =
      let p : Process = process_of s in
      ap (λ o. o >>= λ p. only_if (is_moving p.state) p.moving >>= λ m. move_ending k m why >>= λ a. Some (p, a)) here
      ∙ ap (λ d. only_if (is_moving (state_of d)) s.note.moving >>= λ m. move_ending k m why >>= λ a. Some (p, a)) m.state
      ∙ ap (λ b. only_if b s.note.moving >>= λ m. move_ending k m why >>= λ a. Some (p, a)) m.moves
      ∙ ap (λ o. o >>= λ m. move_ending k m why >>= λ a. Some (p, a)) noted
      ∙ ap (λ o. o >>= λ a. Some (p, a)) is

  pub next_ending : (why : Ending) (name : MoveName) (o : Outcome) → s.note.moving ≡ Some name →
      move_ending k name why ≡ Some (answer_of o) →
      next k (steps.End pid why) ≡ with_state k pid (process_of s) (state_of (activities.Done m.waiting o))
  next_ending why name o noted is =
      ap (λ (x : Option (Process × Answer)). after_effect k (x >>= λ e. Some (unseen (with_state k pid e.0 (ended e.0.state e.1)))))
      (ends why name (answer_of o) noted is)
      ∙ ap (λ d. with_state k pid (process_of s) (ended (state_of d) (answer_of o))) m.state

module _ (times : Times) (host : ℕ) (t : Tables) (r : Reading) (h : Stands times host t r) (fit : AreFit host t) (pid : Pid)
    (own : pid.host ≡ host)
    (s : Seat) (found : seat_in t.seats pid ≡ Some s) (m : IsSeatInMove s) where
  here : r.view.procs pid ≡ Some (process_of s)
  here = h.procs pid own ∙ ap (option_map process_of) found

  abbrev over : Outcome → Kernel
  over o = with_state r.view pid (process_of s) (state_of (activities.Done m.waiting o))

  pub next_ended : (why : Ending) (name : MoveName) (o : Outcome) → s.note.moving ≡ Some name →
      move_ending r.view name why ≡ Some (answer_of o) →
      next r.view (steps.End pid why) ≡ over o
  next_ended why name o noted is = next_ending r.view pid s here m why name o noted is

  -- a partner of another station waits in nothing that the view knows of
  pub nobody_waits : (n : Name) → (n.sender.host ≡ host → ⊥) → waiting_on r.view n ≡ None
  unfolding waiting_on
  nobody_waits n away = by_process (r.view.procs n.sender) refl
    where
      by_process : (o : Option Process) → r.view.procs n.sender ≡ o →
          (o >>= λ p. sending p.state >>= λ x. cond (p.sends == n.number) (Some p) None) ≡ None
      by_process None is = refl
      by_process (Some p) is =
          ap (λ st. sending st >>= λ x. cond (p.sends == n.number) (Some p) None) (h.elsewhere n.sender p away is)

  pub gone_ends : (name : MoveName) → (name.exchange.sender.host ≡ host → ⊥) →
      move_ending r.view name endings.Gone ≡ Some (answers.Refused refusals.Gone)
  gone_ends name away = ap (λ o. only_if (is_none o) (Some (answers.Refused refusals.Gone))) (nobody_waits name.exchange away)

  -- The tables stand for a reading with that view.
  abbrev done : Outcome → Seat → Seat
  done o = doing_now (activities.Done m.waiting o)

  other : (o : Outcome) (p : Pid) (x : Seat) (w : Waiting) → seat_in (seated t pid (done o)).seats p ≡ Some x →
      x.doing ≡ activities.Blocked w → same_pid p pid ≡ false
  other o p x w at blocked = by_pid (same_pid p pid) refl
    where
      by_pid : (b : Bool) → same_pid p pid ≡ b → b ≡ false
      by_pid true same =
          let y = mapped_is (done o) (seat_in t.seats pid) x
          (sym (find-changed pid (done o) (λ z. refl) t.seats) ∙ ap (seat_in (seated t pid (done o)).seats) (sym (same_pid_is p pid same))
          ∙ at) in
          let e : activities.Done m.waiting o ≡ activities.Blocked w = ap (λ (z : Seat). z.doing) y.2 ∙ blocked in
          cc
      by_pid false same = refl

  -- of a kernel that they stand for, before the process is over its move there
  module _ (k : Kernel) (part : Part host t k) (o : Outcome)
      (sound : IsSoundAt (λ g. false) (with_state k pid (process_of s) (state_of (activities.Done m.waiting o)))) where
    pub stands_over : (q : Reading) → q.view ≡ with_state k pid (process_of s) (state_of (activities.Done m.waiting o)) →
        q.slots ≡ r.slots → q.events ≡ r.events + 1 →
        ((p : Pid) → same_pid p pid ≡ false → q.work p ≡ r.work p) → Stands times host (seated t pid (finished o)) q
    stands_over q view slots events works =
        let d : Activity = activities.Done m.waiting o in
        let u : Tables = seated t pid (done o) in
        let ended = idle_part host t k part pid own s found d tt (no_send s m) sound in
        let never : (w : Waiting) → d ≡ activities.Blocked w → ⊥ = λ w is. cc in
        let same : change_first (is_seat pid) (finished o) t.seats ≡ change_first (is_seat pid) (done o) t.seats =
        change_agree (is_seat pid) (finished o) (done o) t.seats s found (ap (λ x. record s { doing = done_with x o }) m.state) in
        subst (λ xs. Stands times host (record t { seats = xs }) q) (sym same)
        (stands_part times host t u r q h (subst (Part host u) (sym view) ended)
        (carries_seated 1 t pid s found (done o) (λ x. refl) (same_more 1 s.note.sends) (same_more 1 s.note.lookups)
        (λ w is work. absurd (never w is)))
        (record { slots = slots ∙ h.slots; events = events; works = λ p x w at blocked is. works p (other o p x w at blocked) }))

  pub stands_ended : (o : Outcome) (q : Reading) → IsSoundAt (λ g. false) (over o) → q.view ≡ over o → q.slots ≡ r.slots →
      q.events ≡ r.events + 1 →
      ((p : Pid) → same_pid p pid ≡ false → q.work p ≡ r.work p) → Stands times host (seated t pid (finished o)) q
  stands_ended o q sound = stands_over r.view (part_of times host t r fit h) o sound q

-- At the station of a sender that waits for its mover: of the moves of its Send another is open, and so far, and its memory has other
-- bytes.
use Rattle.std.proofs.Common.{◌≡◌, ◌≤◌, ℕ, Bool, true, false, ◌&&◌, ◌==◌, List, length, refl, sym, ap, ◌∙◌, subst, Some}
use Rattle.std.specs.Option.{option_map}
use Rattle.std.proofs.lemmas.Bool.{both_ways, cond-true, eqb-true}
use Rattle.std.proofs.lemmas.List.Elements.{filter_agree}
use Rattle.std.proofs.lemmas.Option.{same_Some}
use Rattle.vk_types.specs.Types.{Exchange, Message, Name, Pid, Waiting}
use Rattle.vk_base.specs.declared.activity.Activity.TheVariants as activities
use Rattle.vk_base.specs.declared.activity.Waiting.TheVariants as waitings
use Rattle.vk_base.specs.declared.limits.TheConstants.{MOVE_BYTES}
use Rattle.vk_base.specs.declared.step.Step.TheVariants as steps
use Rattle.vk_base.specs.Activities.{state_of}
use Rattle.vk_base.specs.Firsts.{change_first}
use Rattle.vk_base.specs.Kernel.{Kernel, holds_of, is_at_target, is_queued, is_queued_at, is_ready, put_exchange, same_name, with_memory}
unfoldable use Rattle.vk_base.specs.Kernel.{queue_of}
use Rattle.vk_base.specs.Pids.{same_pid}
use Rattle.vk_base.specs.Ranges.{lies_in, range_of, with_bytes}
use Rattle.v_laws.specs.Sound.{IsSoundAt}
use Rattle.v_laws.proofs.Changes.{StageOn, sound_onward}
use Rattle.v_laws.proofs.SoundChanges.{goes_exchange, one_exchange_changes}
use Rattle.v_laws.proofs.SoundMoves.{goes_memory}
use Rattle.v_laws.proofs.Tables.{put_exchange_at, put_exchange_other, same_name_is, same_name_self}
use Rattle.vk_procs.specs.declared.seat.Seat.{Seat}
use Rattle.vk_procs.specs.Seats.{is_seat, process_of, seat_in, written}
use Rattle.vk_stands.specs.Fit.{IsFitSeat, may_go_on}
use Rattle.vk_stands.specs.Stands.{IsSender, IsSending, IsWaiting}
use Rattle.vk_stands.specs.Tables.{Spot, Tables, seat_name, spot_of}
use Rattle.vk_stands.proofs.Doing.{memory_part, overwritten_length, remembering}
use Rattle.vk_stands.proofs.Fits.{fit_seated, queues_seated}
use Rattle.vk_stands.proofs.Found.{seat_found}
use Rattle.vk_stands.proofs.OneSeat.{ChangesSeat, own_sender, same_put, seated, view_changed}
use Rattle.vk_stands.proofs.Parts.{Part}
use Rattle.vk_stands.proofs.Seats.{change_agree}

-- a Send with other moves, and none fewer
pub record HasMoreMoves (e y : Exchange) : Type 0 where
  pub target : y.target ≡ e.target
  pub message : y.message ≡ e.message
  pub part : y.part ≡ e.part
  pub spot : spot_of y ≡ spot_of e
  pub stage : y.stage ≡ e.stage
  pub moves : length e.moves ≤ length y.moves

-- what the process notes of it
abbrev pub moved_on : ℕ → ℕ → Seat → Seat
moved_on opened done s = record s { note = record s.note { opened = opened; done = done } }

abbrev pub with_send : Kernel → Name → Exchange → Kernel
with_send k name y = record k { exchanges = put_exchange k.exchanges name y }

module _ (host : ℕ) (t : Tables) (k : Kernel) (part : Part host t k) (pid : Pid) (own : pid.host ≡ host) (s : Seat)
    (found : seat_in t.seats pid ≡ Some s) (target : Pid) (m : Message) (state : s.doing ≡ activities.Blocked (waitings.Send target m))
    (away : target.host ≡ host → ⊥) (e : Exchange) (is : k.exchanges (seat_name s) ≡ Some e) (y : Exchange) (same : HasMoreMoves e y)
    (low : y.done ≤ MOVE_BYTES) where
  abbrev f : Seat → Seat
  f = moved_on y.opened y.done

  abbrev u : Tables
  u = seated t pid f

  abbrev l : Kernel
  l = with_send k (seat_name s) y

  named : s.pid ≡ pid
  named = (seat_found t.seats pid s found).named

  -- exchanges
  other : (n : Name) → same_pid n.sender pid ≡ false → l.exchanges n ≡ k.exchanges n
  other n apart = put_exchange_other k.exchanges (seat_name s) y n
      (ap (λ b. b && n.number == s.note.sends) (ap (same_pid n.sender) named ∙ apart))

  -- what it waits in
  waiting : IsSending k s target m
  waiting = part.view.waiting pid s (waitings.Send target m) found state

  one : waiting.exchange ≡ e
  one = same_Some waiting.exchange e (sym waiting.is ∙ is)

  target_is : y.target ≡ target
  target_is = same.target ∙ sym (ap (λ (z : Exchange). z.target) one) ∙ waiting.target_is

  still_sent : IsSending l (f s) target m
  still_sent = record {
    exchange = y;
    is = put_exchange_at k.exchanges (seat_name s) y (seat_name s) (same_name_self (seat_name s));
    target_is = target_is;
    message_is = same.message ∙ sym (ap (λ (z : Exchange). z.message) one) ∙ waiting.message_is;
    part_is = same.part ∙ sym (ap (λ (z : Exchange). z.part) one) ∙ waiting.part_is;
    spot_is = same.spot ∙ sym (ap spot_of one) ∙ waiting.spot_is;
    stage_is = λ local.
        absurd (away (sym (eqb-true s.pid.host target.host local) ∙ ap (λ (p : Pid). p.host) named ∙ own));
    opened = refl;
    done = refl;
  }

  mine : (w : Waiting) → activities.Blocked (waitings.Send target m) ≡ activities.Blocked w → waitings.Send target m ≡ w
  mine w both = cc

  home_by : (n : Name) (z : Exchange) (b : Bool) → same_name n (seat_name s) ≡ b → same_pid n.sender pid ≡ true →
      l.exchanges n ≡ Some z → z.target.host ≡ host → is_at_target z.stage ≡ true → IsSender n z (f s)
  home_by n z true t1 its at here near =
      let is_y : y ≡ z = same_Some y z (sym (put_exchange_at k.exchanges (seat_name s) y n t1) ∙ at) in
      absurd (away (ap (λ (p : Pid). p.host) (sym target_is ∙ ap (λ (v : Exchange). v.target) is_y) ∙ here))
  home_by n z false f1 its at here near =
      let sender = own_sender host t k part.fit part.view pid own s found n z its
      (sym (put_exchange_other k.exchanges (seat_name s) y n f1) ∙ at) here near in
      record { waits = sender.waits; last = sender.last }

  changes : ChangesSeat k l pid s (f s)
  changes = record {
    procs = λ q. same_put k.procs pid (process_of s) q (part.view.procs pid own ∙ ap (option_map process_of) found);
    sends = other;
    lookups = λ asker number apart. refl;
    dead = λ dead. dead;
    waits = λ w blocked. subst (IsWaiting l (f s)) (mine w (sym state ∙ blocked)) still_sent;
    home = λ n z its at there near. home_by n z (same_name n (seat_name s)) refl its at (there ∙ own) near;
  }

  -- queues
  queued_by : (q : Pid) (n : Name) (b : Bool) → same_name n (seat_name s) ≡ b →
      holds_of (is_queued_at q) (l.exchanges n) ≡ holds_of (is_queued_at q) (k.exchanges n)
  queued_by q n true t1 =
      ap (holds_of (is_queued_at q)) (put_exchange_at k.exchanges (seat_name s) y n t1)
      ∙ (λ i. same_pid (same.spot i).at q && is_queued (same.stage i))
      ∙ sym (ap (holds_of (is_queued_at q)) (ap k.exchanges (same_name_is n (seat_name s) t1) ∙ is))
  queued_by q n false f1 = ap (holds_of (is_queued_at q)) (put_exchange_other k.exchanges (seat_name s) y n f1)

  queue_same : (q : Pid) → queue_of l q ≡ queue_of k q
  unfolding queue_of
  queue_same q = filter_agree (λ n. holds_of (is_queued_at q) (l.exchanges n)) (λ n. holds_of (is_queued_at q) (k.exchanges n))
      (λ n. queued_by q n (same_name n (seat_name s)) refl) k.arrived

  fits : IsFitSeat host s → IsFitSeat host (f s)
  fits h = record {
    own = h.own;
    waits = h.waits;
    moves = λ w blocked. subst (λ v. may_go_on (f s).note v ≡ true) (mine w (sym state ∙ blocked)) refl;
    done = low;
    part = h.part;
    few = h.few;
    away = h.away;
    begun = h.begun;
    asked = h.asked;
  }

  sound : IsSoundAt (λ g. false) l
  sound = sound_onward (steps.Take pid) k l part.sound (goes_exchange (steps.Take pid) k
      (put_exchange k.exchanges (seat_name s) y) k.lookups
      part.sound (one_exchange_changes (steps.Take pid) k (seat_name s) e y is (record {
        target = same.target;
        message = same.message;
        part = same.part;
        at = ap (λ (z : Spot). z.at) same.spot;
        shown = ap (λ (z : Spot). z.shown) same.spot;
        moves = same.moves;
        stage = StageOn.same same.stage;
      })))

  pub part_moved_on : Part host u l
  part_moved_on = record {
    fit = fit_seated host t part.fit pid f (λ x. refl)
        (λ x at. subst (λ z. IsFitSeat host z → IsFitSeat host (f z)) (same_Some s x (sym found ∙ at)) fits);
    view = view_changed host t k l part.fit part.view pid own s found f (λ x. refl) changes;
    sound = sound;
    names = part.names;
    unknown = part.unknown;
    queues = queues_seated t pid f (λ x. refl) k l (λ q at place. queue_same q) part.queues;
  }

-- Its memory has other bytes.
module _ (host : ℕ) (t : Tables) (k : Kernel) (part : Part host t k) (pid : Pid) (own : pid.host ≡ host) (s : Seat)
    (found : seat_in t.seats pid ≡ Some s) (w : Waiting) (state : s.doing ≡ activities.Blocked w) (at : ℕ) (bytes : List ℕ)
    (lies : lies_in (range_of at (length bytes)) (length s.memory) ≡ true) where
  abbrev memory : List ℕ
  memory = with_bytes s.memory at bytes

  long : length memory ≡ length s.memory
  long = overwritten_length at bytes s.memory lies

  same_seats : change_first (is_seat pid) (written at bytes) t.seats
      ≡ change_first (is_seat pid) (remembering host t k part pid own s found memory long) t.seats
  same_seats = change_agree (is_seat pid) (written at bytes) (remembering host t k part pid own s found memory long) t.seats s found
      (λ i. record s { memory = cond-true (lies_in (range_of at (length bytes)) (length s.memory)) memory s.memory lies i })

  here : k.procs pid ≡ Some (process_of s)
  here = part.view.procs pid own ∙ ap (option_map process_of) found

  busy : is_ready (state_of s.doing) ≡ false
  busy = ap (λ d. is_ready (state_of d)) state

  sound_written : IsSoundAt (λ g. false) (with_memory k pid (process_of s) memory)
  sound_written = sound_onward (steps.Take pid) k (with_memory k pid (process_of s) memory) part.sound
      (goes_memory (steps.Take pid) k pid (process_of s) memory part.sound here
      (λ dead. absurd (both_ways (is_ready (state_of s.doing)) busy (part.sound.resting pid (process_of s) here dead))))

  pub part_written : Part host (seated t pid (written at bytes)) (with_memory k pid (process_of s) memory)
  part_written = subst (λ xs. Part host (record t { seats = xs }) (with_memory k pid (process_of s) memory)) (sym same_seats)
      (memory_part host t k part pid own s found memory long sound_written)

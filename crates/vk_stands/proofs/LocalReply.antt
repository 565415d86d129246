-- A reply reaches a sender of the station.
use Rattle.std.proofs.Common.{◌≡◌, ◌⊎◌, ℕ, Bool, true, false, cond, List, [], length, Option, Some, refl, sym, ap, subst, ◌∙◌, inl, inr}
use Rattle.std.specs.Option.{option_map}
use Rattle.std.proofs.lemmas.Bool.{cond-true, false_from_ne_true}
use Rattle.std.proofs.lemmas.Option.{same_Some}
use Rattle.vk_types.specs.Types.{Exchange, Message, Name, Pid, Process, Stage}
use Rattle.vk_base.specs.declared.activity.Activity.TheVariants as activities
use Rattle.vk_base.specs.declared.activity.Outcome.TheVariants as outcomes
use Rattle.vk_base.specs.declared.activity.Waiting.TheVariants as waitings
use Rattle.vk_base.specs.declared.answer.Answer.TheVariants as answers
use Rattle.vk_base.specs.declared.call.Call.TheVariants as calls
use Rattle.vk_base.specs.declared.kernel.Stage.TheVariants as stages
use Rattle.vk_base.specs.declared.kernel.State.TheVariants as states
use Rattle.vk_base.specs.declared.step.Step.TheVariants as steps
use Rattle.vk_base.specs.Activities.{done_with, state_of}
use Rattle.vk_base.specs.Kernel.{◌>>=◌, Kernel, is_at_target, is_queued, is_taken, name_of, put_process, queue_of, reply_of, same_name, sending, with_stage}
use Rattle.vk_base.specs.Pids.{same_pid}
use Rattle.vk_base.specs.Ranges.{lies_in, range_of, with_bytes}
use Rattle.vk_base.specs.Calls.{unseen}
use Rattle.vk_base.specs.Steps.{Finishing, after_effect, finished, next}
unfoldable use Rattle.vk_base.specs.Steps.{finishing}
use Rattle.v_laws.specs.Sound.{IsSoundAt}
use Rattle.v_laws.proofs.Queues.{queue-stage, queue-stage_elsewhere}
use Rattle.v_laws.proofs.Tables.{put_exchange_at, put_exchange_other, same_name_self, same_pid_is}
use Rattle.vk_procs.specs.declared.seat.Seat.{Seat}
use Rattle.vk_procs.specs.Seats as procs
use Rattle.vk_procs.specs.Seats.{overwritten, process_of, seat_in, written}
use Rattle.vk_stands.specs.Fit.{IsFitSeat}
use Rattle.vk_stands.specs.Tables.{Tables, seat_name, spot_of}
use Rattle.vk_stands.proofs.FitSeats.{fit_idle}
use Rattle.vk_stands.proofs.Fits.{fit_seated, placed_here, queues_seated}
use Rattle.vk_stands.proofs.Found.{seat_found}
use Rattle.vk_stands.proofs.OneSeat.{ChangesOne, seated, view_seated}
use Rattle.vk_stands.proofs.OneSend.{put_back, put_forth}
use Rattle.vk_stands.proofs.Parts.{Carries, Part, carries_seated, same_more}
use Rattle.vk_stands.proofs.Views.{Goes}

-- the process gets these bytes, and is done with this reply
abbrev pub answered_with : Message → ℕ → List ℕ → Seat → Seat
answered_with m dest bytes s = procs.finished (outcomes.Replied m) (written dest bytes s)

-- the kernel in which the reply has reached its sender
abbrev pub reached_by_reply : Kernel → Pid → Seat → Exchange → Pid → Message → Message → ℕ → List ℕ → Kernel
reached_by_reply k to s e target message m dest bytes = record (with_stage k (seat_name s) e (stages.Replied m dest bytes)) {
  procs = put_process k.procs to (record (process_of s) {
    memory = with_bytes s.memory dest bytes;
    state = states.Done (calls.Send target message) (answers.Replied m);
  });
}

-- bytes that lie in a memory are written into it
pub landed : (dest : ℕ) (bytes memory : List ℕ) → lies_in (range_of dest (length bytes)) (length memory) ≡ true →
    overwritten dest bytes memory ≡ with_bytes memory dest bytes
landed dest bytes memory lies =
    cond-true (lies_in (range_of dest (length bytes)) (length memory)) (with_bytes memory dest bytes) memory lies

-- the message of the Send waits at no process of the station: it was taken, or is at another one
abbrev pub IsOutOfQueues : ℕ → Exchange → Type 0
IsOutOfQueues host e = (is_taken e.stage ≡ true) ⊎ (e.at.host ≡ host → ⊥)

pub taken_unqueued : (s : Stage) → is_taken s ≡ true → false ≡ is_queued s
taken_unqueued stages.Posted t = refl
taken_unqueued stages.Queued t = absurd (cc)
taken_unqueued stages.Taken t = refl
taken_unqueued (stages.Replied m dest bytes) t = refl
taken_unqueued stages.Dropped t = refl

module _ (host : ℕ) (t : Tables) (k : Kernel) (part : Part host t k) (to : Pid) (own : to.host ≡ host) (s : Seat)
    (found : seat_in t.seats to ≡ Some s) (target : Pid) (message : Message) (waits : s.doing
    ≡ activities.Blocked (waitings.Send target message))
    (e : Exchange) (at : k.exchanges (seat_name s) ≡ Some e) (out : IsOutOfQueues host e) (m : Message) (dest : ℕ) (bytes : List ℕ)
    (lands : overwritten dest bytes s.memory ≡ with_bytes s.memory dest bytes) where
  abbrev f : Seat → Seat
  f = answered_with m dest bytes

  abbrev x : Exchange
  x = record e { stage = stages.Replied m dest bytes }

  abbrev l : Kernel
  l = reached_by_reply k to s e target message m dest bytes

  abbrev y : Seat
  y = record s {
    doing = activities.Done (waitings.Send target message) (outcomes.Replied m);
    memory = with_bytes s.memory dest bytes;
  }

  is_y : f s ≡ y
  is_y = λ i. record s {
    doing = ap (λ d. done_with d (outcomes.Replied m)) waits i;
    memory = lands i;
  }

  goes : Goes e x
  goes = record { target = refl; message = refl; part = refl; moves = refl; opened = refl; done = refl; near = λ t. absurd (cc) }

  others : (n : Name) → same_name n (seat_name s) ≡ false → l.exchanges n ≡ k.exchanges n
  others n other = put_exchange_other k.exchanges (seat_name s) x n other

  changes : ChangesOne k l to s y
  changes = record {
    procs = λ q. refl;
    others = others;
    forth = put_forth k.exchanges (seat_name s) e x at goes;
    back = put_back k.exchanges (seat_name s) e x at goes;
    lookups = λ asker number. refl;
    same = record { pid = refl; part = refl; sends = refl; lookups = refl; moving = refl; opened = refl; done = refl };
    stage = λ to z v is there local doing stage.
        let both : activities.Done (waitings.Send target message) (outcomes.Replied m) ≡ activities.Blocked (waitings.Send target message) =
        doing ∙ waits in absurd (cc);
    spot = λ z v is there spot. ap spot_of (same_Some v x (sym there ∙ put_exchange_at k.exchanges (seat_name s) x (seat_name s)
        (same_name_self (seat_name s))))
        ∙ ap spot_of (same_Some e z (sym at ∙ is)) ∙ spot;
    dead = λ dead. dead;
    waits = λ w blocked. absurd (cc);
    sends = λ z there here near blocked.
        let is : z ≡ x = same_Some z x (sym there ∙ put_exchange_at k.exchanges (seat_name s) x (seat_name s)
        (same_name_self (seat_name s))) in
        let bad : false ≡ true = sym (ap (λ (a : Exchange). is_at_target a.stage) is) ∙ near in
        absurd (cc);
  }

  queue_same : (q : Pid) → q.host ≡ host → IsOutOfQueues host e → queue_of l q ≡ queue_of k q
  unfolding queue_of
  queue_same q here (inl taken) =
      queue-stage k (seat_name s) e (stages.Replied m dest bytes) q at (taken_unqueued e.stage taken)
  queue_same q here (inr away) = queue-stage_elsewhere k (seat_name s) e (stages.Replied m dest bytes) q at
      (false_from_ne_true (same_pid e.at q) (λ same. away (ap (λ (p : Pid). p.host) (same_pid_is e.at q same) ∙ here)))

  pub part_replied : IsSoundAt (λ g. false) l → Part host (seated t to f) l
  unfolding queue_of
  part_replied sound = record {
    fit = fit_seated host t part.fit to f (λ z. refl)
        (λ z there. subst (λ a. IsFitSeat host a → IsFitSeat host (f a)) (same_Some s z (sym found ∙ there))
        (subst (λ a. IsFitSeat host s → IsFitSeat host a) (sym is_y) (fit_idle host s y refl refl refl (λ w is. cc))));
    view = view_seated host t k l part.fit part.view to own s found f (λ z. refl) (subst (ChangesOne k l to s) (sym is_y) changes);
    sound = sound;
    names = part.names;
    unknown = part.unknown;
    queues = queues_seated t to f (λ z. refl) k l (λ q i place. queue_same q (placed_here host t part.fit q i s place) out) part.queues;
  }

  pub replied_carries : Carries 0 t (seated t to f)
  replied_carries = carries_seated 0 t to s found f (λ z. refl) (same_more 0 s.note.sends) (same_more 0 s.note.lookups)
      (λ w blocked work. let done : y.doing ≡ activities.Blocked w = ap (λ (z : Seat). z.doing) (sym is_y) ∙ blocked in absurd (cc))

  -- The two steps: the reply is kept in the exchange, and the sender finishes.
  abbrev reply_kept : Kernel
  reply_kept = with_stage k (seat_name s) e (stages.Replied m dest bytes)

  abbrev finishing_by : Process → Option Finishing
  finishing_by p = sending p.state >>= λ send. reply_kept.exchanges (name_of to p.sends) >>= λ z. reply_of z.stage >>= λ reply.
      Some (record { process = p; target = send.0; message = send.1; reply = reply.0; dest = reply.1; bytes = reply.2 })

  pub finishing_is : finishing reply_kept to ≡ Some (record {
    process = process_of s;
    target = target;
    message = message;
    reply = m;
    dest = dest;
    bytes = bytes;
  })
  unfolding finishing
  finishing_is =
      ap (λ (o : Option Process). o >>= finishing_by) (part.view.procs to own ∙ ap (option_map process_of) found)
      ∙ ap (λ d. sending (state_of d) >>= λ send. reply_kept.exchanges (name_of to s.note.sends) >>= λ z. reply_of z.stage >>= λ reply.
      Some (record { process = process_of s; target = send.0; message = send.1; reply = reply.0; dest = reply.1; bytes = reply.2 })) waits
      ∙ ap (λ (o : Option Exchange). o >>= λ z. reply_of z.stage >>= λ reply. Some (record {
        process = process_of s;
        target = target;
        message = message;
        reply = reply.0;
        dest = reply.1;
        bytes = reply.2;
      })) (put_exchange_at k.exchanges (seat_name s) x (name_of to s.note.sends)
      (ap (λ p. same_name (name_of p s.note.sends) (seat_name s)) (sym (seat_found t.seats to s found).named)
      ∙ same_name_self (seat_name s)))

  pub finish_next : next reply_kept (steps.Finish to) ≡ l
  finish_next = ap (λ (o : Option Finishing). after_effect reply_kept (o >>= λ g. Some (unseen (finished reply_kept to g)))) finishing_is

-- a reply without bytes writes none
either_same : (b : Bool) (memory : List ℕ) → cond b memory memory ≡ memory
either_same true memory = refl
either_same false memory = refl

pub written_none : (s : Seat) → written 0 [] s ≡ s
written_none s = λ i. record s { memory = either_same (lies_in (range_of 0 0) (length s.memory)) s.memory i }

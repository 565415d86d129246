-- The Reply to a remote Send of the station reaches its sender.
use Rattle.std.proofs.Common.{◌≡◌, ◌⊎◌, ℕ, Bool, true, false, cond, List, Option, Some, None, refl, sym, ap, subst, ◌∙◌, inl, inr}
use Rattle.std.specs.Option.{is_some, option_map}
use Rattle.std.proofs.lemmas.Bool.{both_ways, cases_Bool, eq-eqb}
use Rattle.std.proofs.lemmas.Option.{same_Some}
use Rattle.vk_types.specs.Types.{Exchange, Message, Name, Pid}
use Rattle.vk_base.specs.declared.activity.Activity.TheVariants as activities
use Rattle.vk_base.specs.declared.activity.Waiting.TheVariants as waitings
use Rattle.vk_base.specs.declared.call.Call.TheVariants as calls
use Rattle.vk_base.specs.declared.kernel.Stage.TheVariants as stages
use Rattle.vk_base.specs.declared.kernel.State.TheVariants as states
use Rattle.vk_base.specs.declared.step.Step.TheVariants as steps
use Rattle.vk_base.specs.Brought.{answered_by, brought}
unfoldable use Rattle.vk_base.specs.Changes.{change_exchange}
use Rattle.vk_base.specs.Kernel.{Kernel, is_at_target, is_posted, name_of, same_name, with_stage}
unfoldable use Rattle.vk_base.specs.Kernel.{put_exchange}
use Rattle.vk_base.specs.Packets.{Packet, Reply}
use Rattle.vk_base.specs.Pids.{same_host}
use Rattle.vk_base.specs.Ranges.{with_bytes}
use Rattle.vk_base.specs.Steps.{next}
use Rattle.v_laws.specs.Sound.{IsSoundAt}
use Rattle.v_laws.proofs.SoundChanges.{orderly_where}
use Rattle.v_laws.proofs.Tables.{put_exchange_at, put_exchange_other, same_name_is}
use Rattle.vk_procs.specs.declared.seat.Seat.{Seat}
use Rattle.vk_procs.specs.Seats.{overwritten, seat_in}
use Rattle.vk_stands.specs.Stands.{IsSending}
use Rattle.vk_stands.specs.Tables.{Spot, Tables, seat_name, spot_of}
use Rattle.vk_stands.proofs.Endings.{ComesToTables}
use Rattle.vk_stands.proofs.Found.{seat_found}
use Rattle.vk_stands.proofs.LocalReply.{IsOutOfQueues, answered_with, finish_next, part_replied, reached_by_reply, replied_carries}
use Rattle.vk_stands.proofs.OneSeat.{seated}
use Rattle.vk_stands.proofs.Parts.{Part}
use Rattle.vk_stands.proofs.Whole.{sound_next}

-- A view in which a Send is answered, however far it was, is sound.
module _ (k : Kernel) (sound : IsSoundAt (λ g. false) k) (name : Name) (e : Exchange) (at : k.exchanges name ≡ Some e) (m : Message)
    (dest : ℕ) (bytes : List ℕ) where
  abbrev l : Kernel
  l = with_stage k name e (stages.Replied m dest bytes)

  abbrev x : Exchange
  x = record e { stage = stages.Replied m dest bytes }

  record Told (y z : Exchange) : Type 0 where
    pub target : z.target ≡ y.target
    pub message : z.message ≡ y.message
    pub spot : spot_of z ≡ spot_of y
    pub stage : (z.stage ≡ y.stage) ⊎ (z.stage ≡ stages.Replied m dest bytes)

  told : Told e x
  told = record { target = refl; message = refl; spot = refl; stage = inr refl }

  told_self : (y : Exchange) → Told y y
  told_self y = record { target = refl; message = refl; spot = refl; stage = inl refl }

  back : (n : Name) (z : Exchange) → l.exchanges n ≡ Some z → (y : Exchange) × (k.exchanges n ≡ Some y) × Told y z
  back n z is = elim (cases_Bool (same_name n name)) [
    | inl same ↦ (
      e,
      ap k.exchanges (same_name_is n name same) ∙ at,
      subst (Told e) (same_Some x z (sym (put_exchange_at k.exchanges name x n same) ∙ is)) told,
    )
    | inr other ↦ (z, sym (put_exchange_other k.exchanges name x n other) ∙ is, told_self z)
  ]

  forth : (n : Name) (y : Exchange) → k.exchanges n ≡ Some y → (z : Exchange) × (l.exchanges n ≡ Some z) × Told y z
  forth n y is = elim (cases_Bool (same_name n name)) [
    | inl same ↦ (
      x,
      put_exchange_at k.exchanges name x n same,
      subst (λ a. Told a x) (same_Some e y (sym at ∙ ap k.exchanges (sym (same_name_is n name same)) ∙ is)) told,
    )
    | inr other ↦ (y, put_exchange_other k.exchanges name x n other ∙ is, told_self y)
  ]

  near_was : (y z : Exchange) → (z.stage ≡ y.stage) ⊎ (z.stage ≡ stages.Replied m dest bytes) → is_at_target z.stage ≡ true →
      is_at_target y.stage ≡ true
  near_was y z (inl same) near = ap is_at_target (sym same) ∙ near
  near_was y z (inr is) near = let bad : false ≡ true = sym (ap is_at_target is) ∙ near in absurd (cc)

  posted_was : (y z : Exchange) → (z.stage ≡ y.stage) ⊎ (z.stage ≡ stages.Replied m dest bytes) → is_posted z.stage ≡ true →
      is_posted y.stage ≡ true
  posted_was y z (inl same) posted = ap is_posted (sym same) ∙ posted
  posted_was y z (inr is) posted = let bad : false ≡ true = sym (ap is_posted is) ∙ posted in absurd (cc)

  known_by : (n : Name) (o : Option Exchange) → k.exchanges n ≡ o → is_some o ≡ true → is_some (l.exchanges n) ≡ true
  known_by n None is t = cc
  known_by n (Some y) is t = ap is_some (forth n y is).1

  pub sound_told : IsSoundAt (λ g. false) l
  sound_told = record {
    begun = λ n z is. let y = back n z is in let b = sound.begun n y.0 y.1 in
        record { process = b.process; is = b.is; first = b.first; last = b.last };
    awaited = λ n z is local near.
        let y = back n z is in
        let a = sound.awaited n y.0 y.1 (ap (same_host n.sender) (sym y.2.target) ∙ local) (near_was y.0 z y.2.stage near) in
        record {
          process = a.process;
          is = a.is;
          alive = a.alive;
          blocked = a.blocked ∙ (λ i. states.Blocked (calls.Send (sym y.2.target i) (sym y.2.message i)));
          last = a.last;
        };
    near = λ n z is. let y = back n z is in (λ i. same_host (y.2.target i) (y.2.spot i).at) ∙ sound.near n y.0 y.1;
    known = λ n came. known_by n (k.exchanges n) refl (sound.known n came);
    once = sound.once;
    posted = λ n z is posted.
        let y = back n z is in
        let u = sound.posted n y.0 y.1 (posted_was y.0 z y.2.stage posted) in
        record {
          remote = ap (same_host n.sender) y.2.target ∙ u.remote;
          away = u.away;
          at = ap (λ (p : Spot). p.at) y.2.spot ∙ u.at ∙ sym y.2.target;
          shown = ap (λ (p : Spot). p.shown) y.2.spot ∙ u.shown ∙ sym y.2.message;
        };
    came = λ n z is near. let y = back n z is in sound.came n y.0 y.1 (near_was y.0 z y.2.stage near);
    settled = λ sender i j y z at_y at_z less local sees posted. cc;
    resting = sound.resting;
    sent = λ pid p target msg is sends.
        let v = sound.sent pid p target msg is sends in
        let z = forth (name_of pid p.sends) v.exchange v.is in
        record { exchange = z.0; is = z.1; target = z.2.target ∙ v.target; message = z.2.message ∙ v.message };
    registered = λ g. (orderly_where k l g sound refl (λ q. refl)).registered;
    distinct = λ g. (orderly_where k l g sound refl (λ q. refl)).distinct;
  }

-- a change of an exchange that is there puts it
pub changed_is_put : (xs : Name → Option Exchange) (name : Name) (f : Exchange → Exchange) (e : Exchange) → xs name ≡ Some e →
    change_exchange xs name f ≡ put_exchange xs name (f e)
unfolding change_exchange put_exchange
changed_is_put xs name f e at = λ i n. by_name n (same_name n name) refl i
  where
    by_name : (n : Name) (b : Bool) → same_name n name ≡ b → cond b (option_map f (xs n)) (xs n) ≡ cond b (Some (f e)) (xs n)
    by_name n true same = ap (option_map f) (ap xs (same_name_is n name same) ∙ at)
    by_name n false other = refl

-- The sender waits in this Send to a process of another station.
module _ (host : ℕ) (t : Tables) (k : Kernel) (part : Part host t k) (to : Pid) (own : to.host ≡ host) (s : Seat)
    (found : seat_in t.seats to ≡ Some s) (target : Pid) (message : Message)
    (waits : s.doing ≡ activities.Blocked (waitings.Send target message)) (far : same_host to target ≡ false) (number : ℕ)
    (last : s.note.sends ≡ number) where
  pub sent_far : IsSending k s target message
  sent_far = part.view.waiting to s (waitings.Send target message) found waits

  pub far_name : name_of to number ≡ seat_name s
  far_name = λ i. name_of (sym (seat_found t.seats to s found).named i) (sym last i)

  -- for all that the view tells its message is at its target
  pub at_target : sent_far.exchange.at ≡ target
  at_target =
      let p = seat_found t.seats to s found in
      ap (λ (z : Spot). z.at) sent_far.spot_is
      ∙ (part.fit.seats p.at s p.here).away target message waits (ap (λ q. same_host q target) p.named ∙ far)

  pub message_away : sent_far.exchange.at.host ≡ host → ⊥
  message_away here = both_ways (same_host to target) far
      (eq-eqb to.host target.host (own ∙ sym here ∙ ap (λ (p : Pid). p.host) at_target))

  module _ (m : Message) (dest : ℕ) (bytes : List ℕ) (lands : overwritten dest bytes s.memory ≡ with_bytes s.memory dest bytes) where
    abbrev packet : Packet
    packet = Reply target to number m dest bytes

    abbrev e : Exchange
    e = sent_far.exchange

    abbrev kept : Kernel
    kept = with_stage k (seat_name s) e (stages.Replied m dest bytes)

    abbrev after : Kernel
    after = reached_by_reply k to s e target message m dest bytes

    out : IsOutOfQueues host e
    out = inr message_away

    brought_is : brought k packet ≡ kept
    brought_is =
        ap (λ n. record k { exchanges = change_exchange k.exchanges n (answered_by m dest bytes) }) far_name
        ∙ ap (λ xs. record k { exchanges = xs }) (changed_is_put k.exchanges (seat_name s) (answered_by m dest bytes) e sent_far.is)

    finishes : next kept (steps.Finish to) ≡ after
    finishes = finish_next host t k part to own s found target message waits e sent_far.is out m dest bytes lands

    next_is : next (brought k packet) (steps.Finish to) ≡ after
    next_is = ap (λ l. next l (steps.Finish to)) brought_is ∙ finishes

    sound : IsSoundAt (λ g. false) after
    sound = subst (IsSoundAt (λ g. false)) finishes
        (sound_next kept (steps.Finish to) (sound_told k part.sound (seat_name s) e sent_far.is m dest bytes))

    pub reply_comes : ComesToTables host t (seated t to (answered_with m dest bytes)) (next (brought k packet) (steps.Finish to))
    reply_comes = record {
      part = subst (Part host (seated t to (answered_with m dest bytes))) (sym next_is)
          (part_replied host t k part to own s found target message waits e sent_far.is out m dest bytes lands sound);
      carries = replied_carries host t k part to own s found target message waits e sent_far.is out m dest bytes lands;
      read = refl;
    }

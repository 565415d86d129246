-- A Negative ends a remote Send of the station.
use Rattle.std.proofs.Common.{◌≡◌, ℕ, ◌≤◌, Bool, true, false, not, ◌==◌, Option, Some, None, All, refl, sym, ap, subst, ◌∙◌, inl, inr, arith}
use Rattle.std.specs.Option.{option_map}
use Rattle.std.proofs.lemmas.Bool.{both_ways, cases_Bool, cond-false, cond-true, eq-eqb, eqb-true, false_from_ne_true}
use Rattle.std.proofs.lemmas.List.Elements.{All-weaker}
use Rattle.std.proofs.lemmas.Option.{none-some, same_Some}
use Rattle.vk_types.specs.Types.{Exchange, Message, Name, Pid, Process, Refusal, Waiting}
use Rattle.v_laws.proofs.Tables.{same_pid_is}
use Rattle.v_laws.specs.Sound.{IsAwaited, IsRegistered, IsSoundAt}
use Rattle.vk_base.specs.declared.activity.Activity.TheVariants as activities
use Rattle.vk_base.specs.declared.activity.Outcome.TheVariants as outcomes
use Rattle.vk_base.specs.declared.activity.Waiting.TheVariants as waitings
use Rattle.vk_base.specs.declared.answer.Answer.TheVariants as answers
use Rattle.vk_base.specs.declared.answer.Ending.TheVariants as endings
use Rattle.vk_base.specs.declared.answer.Refusal.TheVariants as refusals
use Rattle.vk_base.specs.declared.kernel.State.TheVariants as states
use Rattle.vk_base.specs.declared.step.Step.TheVariants as steps
use Rattle.vk_base.specs.Activities.{done_with, state_of}
use Rattle.vk_base.specs.Brought.{brought, found_dead}
unfoldable use Rattle.vk_base.specs.Changes.{change_process}
use Rattle.vk_base.specs.Calls.{unseen}
use Rattle.vk_base.specs.Counts.{sends_of}
use Rattle.vk_base.specs.Kernel.{◌>>=◌, Kernel, ended, is_live, is_ready, name_of, queue_of, sending, with_state}
use Rattle.vk_base.specs.Packets.{Negative}
use Rattle.vk_base.specs.Pids.{same_host, same_pid}
use Rattle.vk_base.specs.Steps.{after_effect, failure, next, only_if}
unfoldable use Rattle.vk_base.specs.Steps.{failing}
use Rattle.vk_base.proofs.OptionLemmas.{mapped_is}
use Rattle.vk_base.proofs.PidLemmas.{same_pid_self}
use Rattle.vk_pool.specs.declared.alien.Alien.{Alien}
use Rattle.vk_procs.specs.declared.seat.Seat.{Seat}
use Rattle.vk_procs.specs.Seats.{finished, process_of, seat_in}
use Rattle.vk_stands.specs.Fit.{IsFitSeat}
use Rattle.vk_stands.specs.Stands.{IsAlienKept}
use Rattle.vk_stands.specs.Tables.{Spot, Tables, alien_name, spot_of}
use Rattle.vk_stands.proofs.FitSeats.{fit_idle}
use Rattle.vk_stands.proofs.Endings.{ComesToTables}
use Rattle.vk_stands.proofs.Found.{alien_found, seat_found}
use Rattle.vk_stands.proofs.OneSeat.{seated}
use Rattle.vk_stands.proofs.Parts.{Part, carries_seated, same_more}
use Rattle.vk_stands.proofs.Process.{part_process}
use Rattle.vk_stands.proofs.RemoteReply.{at_target, sent_far}
use Rattle.vk_stands.proofs.Views.{StandsView, goes_self}
use Rattle.vk_stands.proofs.Waits.{same_seat, waiting_kept}
use Rattle.vk_stands.proofs.Whole.{sound_next}

ready_no_send : (p : Process) (x : Pid × Message) → p.state ≡ states.Ready → sending p.state ≡ Some x → ⊥
ready_no_send p x ready sends = none-some x (sym (ap sending ready) ∙ sends)

-- That a process of another station is dead.
module _ (host : ℕ) (t : Tables) (k : Kernel) (part : Part host t k) (from : Pid) (away : from.host ≡ host → ⊥) where
  abbrev pub without_life : Kernel
  without_life = record k { procs = change_process k.procs from found_dead }

  abbrev l : Kernel
  l = without_life

  pub at_dead : (q : Pid) → same_pid q from ≡ true → l.procs q ≡ option_map found_dead (k.procs q)
  unfolding change_process
  at_dead q same = cond-true (same_pid q from) (option_map found_dead (k.procs q)) (k.procs q) same

  pub at_others : (q : Pid) → same_pid q from ≡ false → l.procs q ≡ k.procs q
  unfolding change_process
  at_others q other = cond-false (same_pid q from) (option_map found_dead (k.procs q)) (k.procs q) other

  pub at_own : (q : Pid) → q.host ≡ host → l.procs q ≡ k.procs q
  at_own q own = at_others q (false_from_ne_true (same_pid q from)
      (λ same. away (sym (ap (λ (p : Pid). p.host) (same_pid_is q from same)) ∙ own)))

  -- a process of the view then is one of the view before, and alike but for its life
  record IsLike (x y : Process) : Type 0 where
    pub state : y.state ≡ x.state
    pub sends : y.sends ≡ x.sends

  was : (q : Pid) (y : Process) → l.procs q ≡ Some y → (x : Process) × (k.procs q ≡ Some x) × IsLike x y
  was q y is = elim (cases_Bool (same_pid q from)) [
    | inl same ↦
        let x = mapped_is found_dead (k.procs q) y (sym (at_dead q same) ∙ is) in
        (x.0, x.1, subst (IsLike x.0) x.2 (record { state = refl; sends = refl }))
    | inr other ↦ (y, sym (at_others q other) ∙ is, record { state = refl; sends = refl })
  ]

  becomes : (q : Pid) (x : Process) → k.procs q ≡ Some x → (y : Process) × (l.procs q ≡ Some y) × IsLike x y
  becomes q x is = elim (cases_Bool (same_pid q from)) [
    | inl same ↦ (found_dead x, at_dead q same ∙ ap (option_map found_dead) is, record { state = refl; sends = refl })
    | inr other ↦ (x, at_others q other ∙ is, record { state = refl; sends = refl })
  ]

  -- who waits is of the station
  awaited_still : (n : Name) (e : Exchange) → IsAwaited k n e → IsAwaited l n e
  awaited_still n e a = elim (cases_Bool (same_pid n.sender from)) [
    | inl same ↦
        let there : n.sender.host ≡ host → ⊥ = λ own. away (sym (ap (λ (p : Pid). p.host) (same_pid_is n.sender from same)) ∙ own) in
        absurd (ready_no_send a.process (e.target, e.message) (part.view.elsewhere n.sender a.process there a.is) (ap sending a.blocked))
    | inr other ↦ record {
      process = a.process;
      is = at_others n.sender other ∙ a.is;
      alive = a.alive;
      blocked = a.blocked;
      last = a.last;
    }
  ]

  registered_by : (g : ℕ) (b : Bool) → (g == host) ≡ b → All (IsRegistered l g) (k.names g)
  registered_by g true is =
      let here : g ≡ host = eqb-true g host is in
      All-weaker (IsRegistered k g) (IsRegistered l g)
      (λ r x. record { here = x.here; live = ap is_live (at_own r.pid (x.here ∙ here)) ∙ x.live }) (k.names g) (part.sound.registered g)
  registered_by g false is =
      subst (All (IsRegistered l g)) (sym (part.unknown g (λ here. both_ways (g == host) is (eq-eqb g host here))))
      (λ i d low. absurd (omega (arith, low)))

  resting_by : (pid : Pid) (y : Process) → l.procs pid ≡ Some y → y.alive ≡ false → (b : Bool) → same_pid pid from ≡ b →
      is_ready y.state ≡ true
  resting_by pid y is dead true same =
      let x = was pid y is in
      let there : pid.host ≡ host → ⊥ = λ own. away (sym (ap (λ (p : Pid). p.host) (same_pid_is pid from same)) ∙ own) in
      ap is_ready (x.2.state ∙ part.view.elsewhere pid x.0 there x.1)
  resting_by pid y is dead false other = part.sound.resting pid y (sym (at_others pid other) ∙ is) dead

  sound_dead : IsSoundAt (λ g. false) l
  sound_dead = record {
    begun = λ n e is.
        let b = part.sound.begun n e is in
        let y = becomes n.sender b.process b.is in
        record { process = y.0; is = y.1; first = b.first; last = subst (λ i. n.number ≤ i) (sym y.2.sends) b.last };
    awaited = λ n e is local near. awaited_still n e (part.sound.awaited n e is local near);
    near = part.sound.near;
    known = part.sound.known;
    once = part.sound.once;
    posted = λ n e is posted. let u = part.sound.posted n e is posted in record { remote = u.remote; away = u.away; at = u.at; shown = u.shown };
    came = part.sound.came;
    settled = λ sender i j y z at_y at_z less local sees posted. cc;
    resting = λ pid y is dead. resting_by pid y is dead (same_pid pid from) refl;
    sent = λ pid y target m is sends.
        let x = was pid y is in
        let v = part.sound.sent pid x.0 target m x.1 (ap sending (sym x.2.state) ∙ sends) in
        record {
          exchange = v.exchange;
          is = ap (λ n. k.exchanges (name_of pid n)) x.2.sends ∙ v.is;
          target = v.target;
          message = v.message;
        };
    registered = λ g. registered_by g (g == host) refl;
    distinct = part.sound.distinct;
  }

  sends_same : (q : Pid) (n : ℕ) (b : Bool) → same_pid q from ≡ b → n ≤ sends_of (k.procs q) → n ≤ sends_of (l.procs q)
  sends_same q n true same low = subst (λ o. n ≤ sends_of o) (sym (at_dead q same)) (by_process (k.procs q) low)
    where
      by_process : (o : Option Process) → n ≤ sends_of o → n ≤ sends_of (option_map found_dead o)
      by_process None low = low
      by_process (Some p) low = low
  sends_same q n false other low = subst (λ o. n ≤ sends_of o) (sym (at_others q other)) low

  kept_dead : (sender : Pid) (a : Alien) → IsAlienKept k a → a.at.host ≡ host → IsAlienKept l a
  kept_dead sender a v own = record {
    exchange = v.exchange;
    is = v.is;
    target = v.target;
    message = v.message;
    part = v.part;
    spot = v.spot;
    stage = v.stage;
    moves = v.moves;
    made = sends_same a.sender a.number (same_pid a.sender from) refl v.made;
    refused = λ closed is. ap is_live (at_own a.at own) ∙ v.refused closed is;
  }

  view_dead : StandsView host t l
  view_dead = record {
    procs = λ pid own. at_own pid own ∙ part.view.procs pid own;
    elsewhere = λ pid y there is. let x = was pid y is in x.2.state ∙ part.view.elsewhere pid x.0 there x.1;
    kept = λ sender a at.
        let v = part.view.kept sender a at in
        let place = alien_found t.slots sender a at in
        kept_dead sender a v (ap (λ (p : Spot). p.at.host) (sym v.spot)
        ∙ sym (eqb-true v.exchange.target.host v.exchange.at.host (part.sound.near (alien_name a) v.exchange v.is))
        ∙ ap (λ (p : Pid). p.host) v.target ∙ (part.fit.aliens place.at a place.here).here);
    waiting = λ pid s w at blocked. waiting_kept k l (λ n e is. (e, is, goes_self e)) (λ asker number. refl) s s (same_seat s)
        (λ target e x is there local stage. ap (λ (z : Exchange). z.stage) (same_Some x e (sym there ∙ is)) ∙ stage)
        (λ e x is there spot. ap spot_of (same_Some x e (sym there ∙ is)) ∙ spot) w
        (part.view.waiting pid s w at blocked);
    home = part.view.home;
  }

  pub part_dead : Part host t l
  unfolding queue_of
  part_dead = record {
    fit = part.fit;
    view = view_dead;
    sound = sound_dead;
    names = part.names;
    unknown = part.unknown;
    queues = part.queues;
  }

-- The sender waits in this Send to it.
module _ (host : ℕ) (t : Tables) (k : Kernel) (part : Part host t k) (to : Pid) (own : to.host ≡ host) (s : Seat)
    (found : seat_in t.seats to ≡ Some s) (from : Pid) (message : Message)
    (waits : s.doing ≡ activities.Blocked (waitings.Send from message)) (far : same_host to from ≡ false) (number : ℕ)
    (last : s.note.sends ≡ number) where
  target_far : from.host ≡ host → ⊥
  target_far here = both_ways (same_host to from) far (eq-eqb to.host from.host (own ∙ sym here))

  abbrev b : Kernel
  b = without_life host t k part from target_far

  abbrev part_b : Part host t b
  part_b = part_dead host t k part from target_far

  abbrev e : Exchange
  e = (sent_far host t k part to own s found from message waits far number last).exchange

  dead_target : (o : Option Process) → is_live (option_map found_dead o) ≡ false
  dead_target None = refl
  dead_target (Some p) = refl

  target_is : e.target ≡ from
  target_is = (sent_far host t k part to own s found from message waits far number last).target_is

  abbrev by_sent : Process → Option Exchange → Option (Process × Refusal)
  by_sent p o = do
    z ← o
    refusal ← only_if (not (same_host to z.target)) (failure b z endings.NoProcess)
    Some (p, refusal)

  fails : failing b to endings.NoProcess ≡ Some (process_of s, refusals.NoProcess)
  unfolding failing
  fails =
      ap (λ o. o >>= λ p. by_sent p (sending p.state >>= λ send. b.exchanges (name_of to p.sends)))
      (part_b.view.procs to own ∙ ap (option_map process_of) found)
      ∙ ap (λ d. by_sent (process_of s) (sending (state_of d) >>= λ send. b.exchanges (name_of to s.note.sends))) waits
      ∙ ap (by_sent (process_of s)) (ap (λ p. b.exchanges (name_of p s.note.sends)) (sym (seat_found t.seats to s found).named)
      ∙ (sent_far host t k part to own s found from message waits far number last).is)
      ∙ ap (λ x. only_if x (failure b e endings.NoProcess) >>= λ refusal. Some (process_of s, refusal))
      (ap (λ p. not (same_host to p)) target_is ∙ ap not far)
      ∙ ap (λ x. only_if (not x) (Some refusals.NoProcess) >>= λ refusal. Some (process_of s, refusal))
      (ap (λ p. is_live (b.procs p)) (at_target host t k part to own s found from message waits far number last) ∙ ap is_live (at_dead host t k part from target_far from (same_pid_self from))
      ∙ dead_target (k.procs from))

  abbrev pub refused : Seat → Seat
  refused = finished (outcomes.Refused refusals.NoProcess)

  abbrev y : Seat
  y = record s { doing = activities.Done (waitings.Send from message) (outcomes.Refused refusals.NoProcess) }

  is_y : refused s ≡ y
  is_y = λ i. record s { doing = done_with (waits i) (outcomes.Refused refusals.NoProcess) }

  next_is : next b (steps.Fail to endings.NoProcess) ≡ with_state b to (process_of s) (state_of (refused s).doing)
  next_is =
      ap (λ (o : Option (Process × Refusal)). after_effect b
      (o >>= λ f. Some (unseen (with_state b to f.0 (ended f.0.state (answers.Refused f.1)))))) fails
      ∙ ap (λ d. with_state b to (process_of s) (ended (state_of d) (answers.Refused refusals.NoProcess))) waits
      ∙ ap (λ (z : Seat). with_state b to (process_of s) (state_of z.doing)) (sym is_y)

  over : (w : Waiting) → (refused s).doing ≡ activities.Blocked w → ⊥
  over w blocked = let done : y.doing ≡ activities.Blocked w = ap (λ (z : Seat). z.doing) (sym is_y) ∙ blocked in cc

  -- it waits in no Send within the station
  no_local : (z : Exchange) → same_host s.pid z.target ≡ true → s.doing ≡ activities.Blocked (waitings.Send z.target z.message) → ⊥
  no_local z local blocked =
      let both : activities.Blocked (waitings.Send from message) ≡ activities.Blocked (waitings.Send z.target z.message) =
      sym waits ∙ blocked in
      let same : from ≡ z.target = cc in
      both_ways (same_host to from) far
      ((λ i. same_host (sym (seat_found t.seats to s found).named i) (same i)) ∙ local)

  part_refused : IsSoundAt (λ g. false) (with_state b to (process_of s) (state_of (refused s).doing)) →
      Part host (seated t to refused) (with_state b to (process_of s) (state_of (refused s).doing))
  part_refused = part_process host t b part_b to own s found refused (λ x. refl) (record {
    same = record { pid = refl; part = refl; sends = refl; lookups = refl; moving = refl; opened = refl; done = refl };
    taken = refl;
    spot = refl;
    alive = refl;
    waits = λ w blocked. absurd (over w blocked);
    sends = λ z at local near blocked. absurd (no_local z local blocked);
    fits = λ fit. subst (IsFitSeat host) (sym is_y) (fit_idle host s y refl refl refl (λ w is. cc) fit);
  })

  pub refusal_comes : ComesToTables host t (seated t to refused) (next (brought k (Negative from to number)) (steps.Fail to endings.NoProcess))
  refusal_comes = record {
    part = subst (Part host (seated t to refused)) (sym next_is)
        (part_refused (subst (IsSoundAt (λ g. false)) next_is (sound_next b (steps.Fail to endings.NoProcess) part_b.sound)));
    carries = carries_seated 0 t to s found refused (λ x. refl) (same_more 0 s.note.sends) (same_more 0 s.note.lookups)
        (λ w blocked work. absurd (over w blocked));
    read = refl;
  }

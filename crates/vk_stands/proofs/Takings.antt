-- The Send whose message a process takes is noted as taken: of a process of the station, or of an alien.
use Rattle.std.proofs.Common.{◌≡◌, ℕ, ◌-◌, nat_lt, true, false, List, [], ◌∷◌, map, Option, Some, None, refl, sym, ap, subst, ◌∙◌, inl, inr, Bool}
use Rattle.std.specs.List.{slice_get}
use Rattle.std.specs.Option.{option_map}
use Rattle.std.proofs.lemmas.Bool.{cond-true, cond-false, eqb-true, false_from_ne_true}
use Rattle.std.proofs.lemmas.Option.{same_Some, none-some}
use Rattle.vk_types.specs.Types.{Exchange, Name, Pid, Waiting}
use Rattle.vk_base.specs.declared.activity.Activity.TheVariants as activities
use Rattle.vk_base.specs.declared.activity.Waiting.TheVariants as waitings
use Rattle.vk_base.specs.declared.kernel.Stage.TheVariants as stages
use Rattle.vk_base.specs.declared.limits.TheConstants.{STATION_PROCESSES}
use Rattle.vk_base.specs.Activities.{receive_in}
use Rattle.vk_base.specs.Kernel.{Kernel, is_queued, queue_of, same_name}
use Rattle.vk_base.specs.Pids.{same_pid}
use Rattle.vk_base.specs.Steps.{Taking, first_of, taking}
use Rattle.v_laws.proofs.Changes.{queued_is_at_target}
use Rattle.v_laws.proofs.Queues.{taken_was_queued}
use Rattle.v_laws.proofs.StepLemmas.{taking_is}
use Rattle.v_laws.proofs.Tables.{put_exchange_at, put_exchange_other, same_name_is, same_name_self, same_pid_is}
use Rattle.vk_pool.specs.declared.alien.Alien.{Alien}
use Rattle.vk_pool.specs.declared.alien.AlienStage.{AlienStage}
use Rattle.vk_pool.specs.declared.alien.AlienStage.TheVariants as alien_stages
use Rattle.vk_pool.specs.Aliens.{alien_at, closed_in}
use Rattle.vk_pool.specs.Aliens as pool
use Rattle.vk_procs.specs.declared.seat.Seat.{Seat}
use Rattle.vk_procs.specs.Seats.{is_seat, marked_taken, process_of, seat_in}
use Rattle.vk_queue.specs.Lists.{queue_at}
use Rattle.vk_stands.specs.Stands.{IsHome, IsAlienKept, IsSender, IsSending}
use Rattle.vk_stands.specs.Tables.{Spot, Tables, alien_name, names_at, read_alien, seat_name, slot_name, spot_of, stage_by}
use Rattle.vk_stands.proofs.Aliens.{of_at}
use Rattle.vk_stands.proofs.FitSeats.{fit_note}
use Rattle.vk_stands.proofs.FitSlots.{fit_taken}
use Rattle.vk_stands.proofs.Fits.{fit_seated, seat_at_place, slot_kept}
use Rattle.vk_stands.proofs.Found.{alien_found, seat_found}
use Rattle.vk_stands.proofs.OneAlien.{ChangesAlien, slot_slotted, slots_read, slotted, slotted_carries, view_slotted}
use Rattle.vk_stands.proofs.OneSeat.{ChangesOne, same_put, seated, view_seated}
use Rattle.vk_stands.proofs.Parts.{Carries, Part, carries_seated, same_more}
use Rattle.vk_stands.proofs.Seats.{position-changed}
use Rattle.vk_stands.proofs.Took.{receive_is}
use Rattle.vk_stands.proofs.TookPart.{Noted, send_taken}
use Rattle.vk_stands.proofs.OneSend.{put_back, put_forth}
use Rattle.vk_stands.proofs.Views.{Goes}
use Rattle.vk_stands.proofs.Waits.{only_other, seats_changed}

-- the first slot of a list is of the first name
front_by : (f : ℕ → Option Name) (q : List ℕ) (ns : List Name) (slot : ℕ) (n : Name) → map Some ns ≡ map f q → first_of ns ≡ Some n →
    slice_get q 0 ≡ Some slot → f slot ≡ Some n
front_by f [] ns slot n same first is = absurd (none-some slot is)
front_by f (s ∷ q) [] slot n same first is = absurd (none-some n first)
front_by f (s ∷ q) (m ∷ ns) slot n same first is =
    let a : Some m ≡ f s = cc in
    ap f (sym (same_Some s slot is)) ∙ sym a ∙ first

pub front_name : (t : Tables) (k : Kernel) (pid : Pid) (tk : Taking) (at slot : ℕ) → map Some (queue_of k pid) ≡ names_at t at →
    taking k pid ≡ Some tk → slice_get (queue_at t.lists at) 0 ≡ Some slot → slot_name t.seats t.slots slot ≡ Some tk.name
front_name t k pid tk at slot queue is front =
    front_by (slot_name t.seats t.slots) (queue_at t.lists at) (queue_of k pid) slot tk.name queue (taking_is k pid tk is).first front

-- The Send that is taken goes on as taken.
module _ (k : Kernel) (pid : Pid) (tk : Taking) (is : taking k pid ≡ Some tk) where
  abbrev x : Exchange
  x = record tk.exchange { stage = stages.Taken }

  goes : Goes tk.exchange x
  goes = record {
    target = refl;
    message = refl;
    part = refl;
    moves = refl;
    opened = refl;
    done = refl;
    near = λ t. queued_is_at_target tk.exchange.stage (taken_was_queued k pid tk is).1;
  }

  pub taken_others : (n : Name) → same_name n tk.name ≡ false → (send_taken k tk).exchanges n ≡ k.exchanges n
  taken_others n other = put_exchange_other k.exchanges tk.name x n other

  pub taken_here : (n : Name) (y : Exchange) → n ≡ tk.name → (send_taken k tk).exchanges n ≡ Some y → y.stage ≡ stages.Taken
  taken_here n y named at = ap (λ (e : Exchange). e.stage)
      (same_Some y x (sym at ∙ put_exchange_at k.exchanges tk.name x n (ap (λ m. same_name m tk.name) named ∙ same_name_self tk.name)))

  pub taken_forth : (n : Name) (e : Exchange) → k.exchanges n ≡ Some e →
      (y : Exchange) × ((send_taken k tk).exchanges n ≡ Some y) × Goes e y
  taken_forth = put_forth k.exchanges tk.name tk.exchange x (taking_is k pid tk is).exchange goes

  pub taken_back : (n : Name) (y : Exchange) → (send_taken k tk).exchanges n ≡ Some y → (e : Exchange) × (k.exchanges n ≡ Some e) × Goes e y
  taken_back = put_back k.exchanges tk.name tk.exchange x (taking_is k pid tk is).exchange goes

  spot_by : (n : Name) (e y : Exchange) (b : Bool) → same_name n tk.name ≡ b → k.exchanges n ≡ Some e →
      (send_taken k tk).exchanges n ≡ Some y → spot_of y ≡ spot_of e
  spot_by n e y true same at there =
      ap spot_of (same_Some y x (sym there ∙ put_exchange_at k.exchanges tk.name x n same))
      ∙ ap spot_of (same_Some tk.exchange e (sym (taking_is k pid tk is).exchange ∙ ap k.exchanges (sym (same_name_is n tk.name same)) ∙ at))
  spot_by n e y false other at there = ap spot_of (same_Some y e (sym there ∙ taken_others n other ∙ at))

  pub taken_spot : (n : Name) (e y : Exchange) → k.exchanges n ≡ Some e → (send_taken k tk).exchanges n ≡ Some y →
      spot_of y ≡ spot_of e
  taken_spot n e y at there = spot_by n e y (same_name n tk.name) refl at there

-- A local Send: the sender is in its place.
pub record TakenFrom (k : Kernel) (t : Tables) (pid : Pid) (tk : Taking) (x : Seat) : Type 0 where
  pub sender : tk.name.sender ≡ x.pid
  pub waits : x.doing ≡ activities.Blocked (waitings.Send tk.exchange.target tk.exchange.message)
  pub part : tk.exchange.part ≡ x.part.bytes
  pub shown : tk.exchange.shown ≡ x.shown

module _ (host : ℕ) (t : Tables) (k : Kernel) (part : Part host t k) (pid : Pid) (own : pid.host ≡ host) (s : Seat)
    (found : seat_in t.seats pid ≡ Some s) (w : Waiting) (waits : receive_in s.doing ≡ Some w) (tk : Taking) (is : taking k pid ≡ Some tk)
    (slot : ℕ) (name_is : slot_name t.seats t.slots slot ≡ Some tk.name) where
  -- its target is of the station
  target_here : tk.exchange.target.host ≡ host
  target_here =
      eqb-true tk.exchange.target.host tk.exchange.at.host (part.sound.near tk.name tk.exchange (taking_is k pid tk is).exchange)
      ∙ ap (λ (p : Pid). p.host) (same_pid_is tk.exchange.at pid (taken_was_queued k pid tk is).0) ∙ own

  home : IsHome host t tk.name tk.exchange
  home = part.view.home tk.name tk.exchange (taking_is k pid tk is).exchange target_here
      (queued_is_at_target tk.exchange.stage (taken_was_queued k pid tk is).1)

  module _ (low : nat_lt slot STATION_PROCESSES ≡ true) (x : Seat) (here : slice_get t.seats slot ≡ Some x) where
    named : seat_name x ≡ tk.name
    named = same_Some (seat_name x) tk.name (sym (cond-true (nat_lt slot STATION_PROCESSES)
        (option_map seat_name (slice_get t.seats slot)) _ low
        ∙ ap (option_map seat_name) here) ∙ name_is)

    found_x : seat_in t.seats x.pid ≡ Some x
    found_x = seat_at_place t.seats slot x here (part.fit.places slot x here)

    own_x : x.pid.host ≡ host
    own_x = (part.fit.seats slot x here).own

    by_home : IsHome host t tk.name tk.exchange → IsSender tk.name tk.exchange x
    by_home (inl m) = subst (IsSender tk.name tk.exchange)
        (same_Some m.1.0 x (sym m.1.1 ∙ ap (λ (n : Name). seat_in t.seats n.sender) (sym named) ∙ found_x)) m.1.2
    by_home (inr a) =
        let place = alien_found t.slots tk.name.sender a.0 a.1 in
        absurd ((part.fit.aliens place.at a.0 place.here).foreign
        (ap (λ (p : Pid). p.host) place.from ∙ ap (λ (n : Name). n.sender.host) (sym named) ∙ own_x))

    waits_x : x.doing ≡ activities.Blocked (waitings.Send tk.exchange.target tk.exchange.message)
    waits_x = (by_home home).waits

    sent_x : IsSending k x tk.exchange.target tk.exchange.message
    sent_x = part.view.waiting x.pid x (waitings.Send tk.exchange.target tk.exchange.message) found_x waits_x

    one : tk.exchange ≡ sent_x.exchange
    one = same_Some tk.exchange sent_x.exchange (sym (taking_is k pid tk is).exchange ∙ ap k.exchanges (sym named) ∙ sent_x.is)

    pub taken_from : TakenFrom k t pid tk x
    taken_from = record {
      sender = ap (λ (n : Name). n.sender) (sym named);
      waits = waits_x;
      part = ap (λ (e : Exchange). e.part) one ∙ sent_x.part_is;
      shown = ap (λ (e : Exchange). e.shown) one ∙ ap (λ (p : Spot). p.shown) sent_x.spot_is;
    }

    apart : same_pid s.pid x.pid ≡ false
    apart = false_from_ne_true (same_pid s.pid x.pid) (λ same.
        let one : s ≡ x = same_Some s x (sym found ∙ ap (seat_in t.seats) (sym (seat_found t.seats pid s found).named
        ∙ same_pid_is s.pid x.pid same) ∙ found_x) in
        (receive_is s.doing w waits).no_send tk.exchange.target tk.exchange.message
        (same_waiting w (waitings.Send tk.exchange.target tk.exchange.message)
        (sym (receive_is s.doing w waits).blocked ∙ ap (λ (z : Seat). z.doing) one ∙ waits_x)))
      where
        same_waiting : (v w : Waiting) → activities.Blocked v ≡ activities.Blocked w → v ≡ w
        same_waiting v w e = cc

    changes : ChangesOne k (send_taken k tk) x.pid x (marked_taken x)
    changes = record {
      procs = λ q. same_put k.procs x.pid (process_of x) q (part.view.procs x.pid own_x ∙ ap (option_map process_of) found_x);
      others = λ n other. taken_others k pid tk is n (ap (same_name n) (sym named) ∙ other);
      forth = taken_forth k pid tk is;
      back = taken_back k pid tk is;
      lookups = λ asker number. refl;
      same = record { pid = refl; part = refl; sends = refl; lookups = refl; moving = refl; opened = refl; done = refl };
      stage = λ target e z at there local doing stage. taken_here k pid tk is (seat_name x) z named there;
      spot = λ e z at there spot. taken_spot k pid tk is (seat_name x) e z at there ∙ spot;
      dead = λ dead. dead;
      waits = λ v blocked. inl blocked;
      sends = λ e there here near blocked. refl;
    }

    pub noted_local : Noted host t (seated t x.pid marked_taken) (send_taken k tk) pid s
    noted_local = record {
      fit = fit_seated host t part.fit x.pid marked_taken (λ z. refl)
          (λ z there. fit_note host z (marked_taken z).note (record { moving = refl; offset = refl; done = refl; sends = refl; lookups = refl }));
      view = view_seated host t k (send_taken k tk) part.fit part.view x.pid own_x x found_x marked_taken (λ z. refl) changes;
      found = seats_changed x.pid marked_taken (λ z. refl) t.seats pid ∙ ap (option_map _) found
          ∙ ap Some (only_other x.pid marked_taken s apart);
      places = λ q. position-changed (is_seat x.pid) marked_taken (is_seat q) (λ z. refl) t.seats;
      slots = λ j. slot_kept t x.pid marked_taken (λ z. refl) j;
      lists = refl;
      names = refl;
    }

    pub noted_carries : Carries 0 t (seated t x.pid marked_taken)
    noted_carries = carries_seated 0 t x.pid x found_x marked_taken (λ z. refl) (same_more 0 x.note.sends) (same_more 0 x.note.lookups)
        (λ v blocked work. (blocked, record { work = refl; offset = refl; fresh = refl }))

  -- A Send of another station: its alien is in its slot.
  module _ (high : nat_lt slot STATION_PROCESSES ≡ false) (a : Alien) (here : alien_at t.slots (slot - STATION_PROCESSES) ≡ Some a) where
    abbrev i : ℕ
    i = slot - STATION_PROCESSES

    alien_named : alien_name a ≡ tk.name
    alien_named = same_Some (alien_name a) tk.name (sym
        (cond-false (nat_lt slot STATION_PROCESSES) _ (option_map alien_name (alien_at t.slots i)) high
        ∙ ap (option_map alien_name) here) ∙ name_is)

    kept : IsAlienKept k a
    kept = part.view.kept a.sender a (of_at t.slots i a part.fit.apart here)

    exchange_is : tk.exchange ≡ kept.exchange
    exchange_is = same_Some tk.exchange kept.exchange (sym (taking_is k pid tk is).exchange ∙ ap k.exchanges (sym alien_named) ∙ kept.is)

    pub alien_sender_is : tk.name.sender ≡ a.sender
    alien_sender_is = ap (λ (n : Name). n.sender) (sym alien_named)

    pub alien_shown_is : tk.exchange.shown ≡ a.shown
    alien_shown_is = ap (λ (e : Exchange). e.shown) exchange_is ∙ ap (λ (p : Spot). p.shown) kept.spot

    pub alien_part_is : tk.exchange.part ≡ a.part
    alien_part_is = ap (λ (e : Exchange). e.part) exchange_is ∙ kept.part

    alien_changes : ChangesAlien k (send_taken k tk) a (pool.taken a)
    alien_changes = record {
      procs = λ q. refl;
      others = λ n other. taken_others k pid tk is n (ap (same_name n) (sym alien_named) ∙ other);
      forth = taken_forth k pid tk is;
      back = taken_back k pid tk is;
      lookups = λ asker number. refl;
      same = record { sender = refl; number = refl; target = refl; message = refl; part = refl; moves = refl };
      stage = λ e z at there stage. taken_here k pid tk is (alien_name a) z alien_named there;
      spot = λ e z at there spot. taken_spot k pid tk is (alien_name a) e z at there ∙ spot;
      refused = λ closed stage. absurd (cc);
    }

    pub noted_alien : Noted host t (slotted t i pool.taken) (send_taken k tk) pid s
    noted_alien = record {
      fit = fit_taken host t part.fit i;
      view = view_slotted host t k (send_taken k tk) part.fit part.view i a here pool.taken alien_changes;
      found = found;
      places = λ q. refl;
      slots = slot_slotted host t k (send_taken k tk) part.fit part.view i a here pool.taken alien_changes;
      lists = refl;
      names = refl;
    }

    pub alien_carries : Carries 0 t (slotted t i pool.taken)
    alien_carries = slotted_carries host t k (send_taken k tk) part.fit part.view i a here pool.taken alien_changes (λ z. refl)

    -- it was queued, so that entries say the same of it
    unclosed : (stage : AlienStage) (bytes : List ℕ) → is_queued (stage_by stage bytes) ≡ true → closed_in stage ≡ None
    unclosed alien_stages.Queued bytes t = refl
    unclosed alien_stages.Taken bytes t = absurd (cc)
    unclosed (alien_stages.Replied m dest closed) bytes t = absurd (cc)
    unclosed (alien_stages.Refused closed) bytes t = absurd (cc)

    pub alien_read : map (option_map read_alien) (slotted t i pool.taken).slots ≡ map (option_map read_alien) t.slots
    alien_read = slots_read host t k (send_taken k tk) part.fit part.view i a here pool.taken alien_changes
        (λ j. record (read_alien a) {
          closed = sym (unclosed a.stage a.bytes (ap is_queued (sym kept.stage ∙ ap (λ (e : Exchange). e.stage) (sym exchange_is))
              ∙ (taken_was_queued k pid tk is).1)) j;
        })

-- A process takes the first message that waits at it: when it does, and the tables then.
use Rattle.std.proofs.Common.{◌≡◌, ℕ, ◌-◌, nat_lt, true, false, List, [], ◌∷◌, map, Option, Some, None, refl, sym, ap, subst, ◌∙◌}
use Rattle.std.specs.List.{position, slice_get}
use Rattle.std.specs.Option.{option_map}
use Rattle.std.proofs.lemmas.Option.{none-some}
use Rattle.vk_types.specs.Types.{Activity, Call, Exchange, Name, Pid, Process, Waiting}
use Rattle.vk_base.specs.declared.activity.Activity.TheVariants as activities
use Rattle.vk_base.specs.declared.activity.Waiting.TheVariants as waitings
use Rattle.vk_base.specs.declared.limits.TheConstants.{STATION_PROCESSES}
use Rattle.vk_base.specs.Activities.{as_receive, call_of, receive_in, state_of}
use Rattle.vk_base.specs.Firsts.{change_first}
use Rattle.vk_base.specs.Kernel.{◌>>=◌, Kernel, holds_of, is_queued_at, receiving}
unfoldable use Rattle.vk_base.specs.Kernel.{queue_of}
use Rattle.vk_base.specs.Steps.{Taking, first_of, taken}
unfoldable use Rattle.vk_base.specs.Steps.{taking}
use Rattle.v_laws.proofs.FilterLemmas.{first_passes}
use Rattle.v_laws.proofs.Options.{some_that_holds}
use Rattle.vk_pool.specs.declared.alien.Alien.{Alien}
use Rattle.vk_pool.specs.Aliens.{alien_at, changed_at}
use Rattle.vk_pool.specs.Aliens as pool
use Rattle.vk_procs.specs.declared.seat.Seat.{Seat}
use Rattle.vk_procs.specs.Seats.{is_seat, marked_taken, process_of, reached, seat_in}
use Rattle.vk_queue.specs.Lists.{queue_at}
use Rattle.vk_stands.specs.Tables.{Tables, read_alien, slot_name}
use Rattle.vk_stands.proofs.OneAlien.{slotted}
use Rattle.vk_stands.proofs.OneSeat.{seated}
use Rattle.vk_stands.proofs.Parts.{Carries, Part, carries_then}
use Rattle.vk_stands.proofs.Takings.{TakenFrom, alien_carries, alien_part_is, alien_read, alien_sender_is, alien_shown_is, front_name, noted_alien, noted_carries, noted_local, taken_from}
use Rattle.vk_stands.proofs.TookPart.{first_out, part_took, took_carries}

-- The receive in which a process waits, as the kernel has it.
received_by : (w : Waiting) → receiving (state_of (activities.Blocked w)) ≡ option_map call_of (as_receive w)
received_by waitings.Receive = refl
received_by (waitings.ReceiveSegment start count) = refl
received_by (waitings.Send target m) = refl
received_by (waitings.MoveTo partner dest src count) = refl
received_by (waitings.MoveFrom partner dest src count) = refl
received_by (waitings.GetPid logical scope) = refl

pub receiving_is : (d : Activity) → receiving (state_of d) ≡ option_map call_of (receive_in d)
receiving_is activities.Ready = refl
receiving_is (activities.Blocked w) = received_by w
receiving_is (activities.Done w o) = refl

-- When a process takes.
abbrev taken_with : Kernel → Process → Call → Name → Option Exchange → Option Taking
taken_with k p c name o = o >>= λ e. Some (record { process = p; call = c; name = name; exchange = e })

abbrev taken_first : Kernel → Process → Call → Option Name → Option Taking
taken_first k p c o = o >>= λ name. taken_with k p c name (k.exchanges name)

abbrev taken_in : Kernel → Pid → Process → Option Call → Option Taking
taken_in k pid p o = o >>= λ c. taken_first k p c (first_of (queue_of k pid))

module _ (host : ℕ) (t : Tables) (k : Kernel) (part : Part host t k) (pid : Pid) (own : pid.host ≡ host) (s : Seat)
    (found : seat_in t.seats pid ≡ Some s) where
  is_there : taking k pid ≡ taken_in k pid (process_of s) (option_map call_of (receive_in s.doing))
  unfolding taking
  is_there =
      ap (λ (o : Option Process). o >>= λ p. taken_in k pid p (receiving p.state)) (part.view.procs pid own
      ∙ ap (option_map process_of) found)
      ∙ ap (taken_in k pid (process_of s)) (receiving_is s.doing)

  -- none where it waits for no message
  pub taking_idle : receive_in s.doing ≡ None → taking k pid ≡ None
  taking_idle none = is_there ∙ ap (λ o. taken_in k pid (process_of s) (option_map call_of o)) none

  module _ (w : Waiting) (waits : receive_in s.doing ≡ Some w) (at : ℕ) (place : position (is_seat pid) t.seats ≡ Some at) where
    abbrev names : List Name
    names = queue_of k pid

    is_first : taking k pid ≡ taken_first k (process_of s) (call_of w) (first_of names)
    is_first = is_there ∙ ap (λ o. taken_in k pid (process_of s) (option_map call_of o)) waits

    empty_by : (q : List ℕ) (ns : List Name) → map Some ns ≡ map (slot_name t.seats t.slots) q → slice_get q 0 ≡ None → first_of ns ≡ None
    empty_by [] [] same none = refl
    empty_by [] (n ∷ ns) same none = absurd (cc)
    empty_by (slot ∷ q) ns same none = absurd (none-some slot (sym none))

    -- none where its list is empty
    pub taking_none : slice_get (queue_at t.lists at) 0 ≡ None → taking k pid ≡ None
    taking_none none = is_first
        ∙ ap (taken_first k (process_of s) (call_of w)) (empty_by (queue_at t.lists at) names (part.queues pid at place) none)

    there_by : (q : List ℕ) (ns : List Name) (slot : ℕ) → map Some ns ≡ map (slot_name t.seats t.slots) q → slice_get q 0 ≡ Some slot →
        (n : Name) × (rest : List Name) × (ns ≡ n ∷ rest)
    there_by [] ns slot same is = absurd (none-some slot is)
    there_by (j ∷ q) [] slot same is = absurd (cc)
    there_by (j ∷ q) (n ∷ ns) slot same is = (n, ns, refl)

    -- else the first of its list
    pub taking_first : (slot : ℕ) → slice_get (queue_at t.lists at) 0 ≡ Some slot → (tk : Taking) × (taking k pid ≡ Some tk)
    unfolding queue_of
    taking_first slot front =
        let n = there_by (queue_at t.lists at) names slot (part.queues pid at place) front in
        let passes = first_passes (λ x. holds_of (is_queued_at pid) (k.exchanges x)) k.arrived n.0 n.1 n.2 in
        let e = some_that_holds (is_queued_at pid) (k.exchanges n.0) passes in (
          record { process = process_of s; call = call_of w; name = n.0; exchange = e.0 },
          is_first ∙ ap (λ ns. taken_first k (process_of s) (call_of w) (first_of ns)) n.2
              ∙ ap (taken_with k (process_of s) (call_of w) n.0) e.1,
        )

    -- The tables then. The message is of a process of the station, which is noted to be taken.
    abbrev pub local_served : Seat → Tables
    local_served x = record t {
      seats = change_first (is_seat pid) (reached x.pid x.shown x.part.bytes) (change_first (is_seat x.pid) marked_taken t.seats);
      lists = first_out t.lists at;
    }

    -- or of an alien, which is
    abbrev pub alien_served : ℕ → Alien → Tables
    alien_served i a = record t {
      seats = change_first (is_seat pid) (reached a.sender a.shown a.part) t.seats;
      lists = first_out t.lists at;
      slots = changed_at i pool.taken t.slots;
    }

    module _ (slot : ℕ) (front : slice_get (queue_at t.lists at) 0 ≡ Some slot) (tk : Taking) (is : taking k pid ≡ Some tk) where
      name_is : slot_name t.seats t.slots slot ≡ Some tk.name
      name_is = front_name t k pid tk at slot (part.queues pid at place) is front

      pub taken_local : nat_lt slot STATION_PROCESSES ≡ true → (x : Seat) → slice_get t.seats slot ≡ Some x → TakenFrom k t pid tk x
      taken_local low x here = taken_from host t k part pid own s found w waits tk is slot name_is low x here

      served_by : (P : Tables → Type 0) (x : Seat) → TakenFrom k t pid tk x →
          P (record t {
            seats = change_first (is_seat pid) (reached tk.name.sender tk.exchange.shown tk.exchange.part)
                (change_first (is_seat x.pid) marked_taken t.seats);
            lists = first_out t.lists at;
          }) → P (local_served x)
      served_by P x g h = subst P (λ i. record t {
        seats = change_first (is_seat pid) (reached (g.sender i) (g.shown i) (g.part i))
            (change_first (is_seat x.pid) marked_taken t.seats);
        lists = first_out t.lists at;
      }) h

      module _ (low : nat_lt slot STATION_PROCESSES ≡ true) (x : Seat) (here : slice_get t.seats slot ≡ Some x) where
        pub part_local_served : Part host (local_served x) (taken k pid tk)
        part_local_served = served_by (λ u. Part host u (taken k pid tk)) x (taken_local low x here)
            (part_took host t k part pid own s found w waits tk is at place (seated t x.pid marked_taken)
            (noted_local host t k part pid own s found w waits tk is slot name_is low x here))

        pub local_served_carries : Carries 0 t (local_served x)
        local_served_carries = served_by (λ u. Carries 0 t u) x (taken_local low x here)
            (carries_then 0 0 t (seated t x.pid marked_taken) _
            (noted_carries host t k part pid own s found w waits tk is slot name_is low x here)
            (took_carries host t k part pid own s found w waits tk is at place (seated t x.pid marked_taken)
            (noted_local host t k part pid own s found w waits tk is slot name_is low x here)))

      module _ (high : nat_lt slot STATION_PROCESSES ≡ false) (a : Alien) (here : alien_at t.slots (slot - STATION_PROCESSES)
          ≡ Some a) where
        abbrev i : ℕ
        i = slot - STATION_PROCESSES

        alien_by : (P : Tables → Type 0) → P (record (slotted t i pool.taken) {
          seats = change_first (is_seat pid) (reached tk.name.sender tk.exchange.shown tk.exchange.part) t.seats;
          lists = first_out t.lists at;
        }) → P (alien_served i a)
        alien_by P h = subst P (λ j. record (slotted t i pool.taken) {
          seats = change_first (is_seat pid) (reached
              (alien_sender_is host t k part pid own s found w waits tk is slot name_is high a here j)
              (alien_shown_is host t k part pid own s found w waits tk is slot name_is high a here j)
              (alien_part_is host t k part pid own s found w waits tk is slot name_is high a here j)) t.seats;
          lists = first_out t.lists at;
        }) h

        pub part_alien_served : Part host (alien_served i a) (taken k pid tk)
        part_alien_served = alien_by (λ u. Part host u (taken k pid tk))
            (part_took host t k part pid own s found w waits tk is at place (slotted t i pool.taken)
            (noted_alien host t k part pid own s found w waits tk is slot name_is high a here))

        pub alien_served_carries : Carries 0 t (alien_served i a)
        alien_served_carries = alien_by (λ u. Carries 0 t u)
            (carries_then 0 0 t (slotted t i pool.taken) _
            (alien_carries host t k part pid own s found w waits tk is slot name_is high a here)
            (took_carries host t k part pid own s found w waits tk is at place (slotted t i pool.taken)
            (noted_alien host t k part pid own s found w waits tk is slot name_is high a here)))

        pub alien_served_read : map (option_map read_alien) (alien_served i a).slots ≡ map (option_map read_alien) t.slots
        alien_served_read = alien_read host t k part pid own s found w waits tk is slot name_is high a here

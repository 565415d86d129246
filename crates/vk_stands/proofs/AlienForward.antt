-- The message of a process of another station is handed on to another one of this station.
use Rattle.std.proofs.Common.{◌≡◌, ℕ, map, Some, refl, sym, ap, ◌∙◌, true}
use Rattle.std.specs.List.{position}
use Rattle.std.specs.Option.{option_map}
use Rattle.vk_types.specs.Types.{Exchange, Message, Pid}
use Rattle.vk_base.specs.declared.answer.Answer.TheVariants as answers
use Rattle.vk_base.specs.declared.call.Call.TheVariants as calls
use Rattle.vk_base.specs.declared.step.Step.TheVariants as steps
use Rattle.vk_base.specs.Calls.{answered}
use Rattle.vk_base.specs.Calls as calls_made
use Rattle.vk_base.specs.Kernel.{Kernel, is_taken}
use Rattle.vk_base.specs.Steps.{effect}
use Rattle.v_laws.proofs.SoundLemmas.{sound_step}
use Rattle.vk_pool.specs.declared.alien.Alien.{Alien}
use Rattle.vk_pool.specs.Aliens.{alien_at, forwarded}
use Rattle.vk_procs.specs.declared.seat.Seat.{Seat}
use Rattle.vk_procs.specs.Seats.{is_seat}
use Rattle.vk_stands.specs.Stands.{IsAlienKept}
use Rattle.vk_stands.specs.Tables.{Tables, alien_name, read_alien, slot_name, spot_of, stage_of}
use Rattle.vk_stands.proofs.Aliens.{of_at}
use Rattle.vk_stands.proofs.AlienClosed.{open_by}
use Rattle.vk_stands.proofs.FitSlots.{fit_forwarded}
use Rattle.vk_stands.proofs.HandedOn.{fit_handed, handed_back, handed_forth, handed_is, handed_lookups, handed_names, handed_others, handed_procs, queues_handed}
use Rattle.vk_stands.proofs.OneAlien.{ChangesAlien, slot_slotted, slots_read, slotted, slotted_carries, view_slotted}
use Rattle.vk_stands.proofs.Parts.{Carries, Part}
use Rattle.vk_stands.proofs.SentQueues.{last_in}
use Rattle.vk_stands.proofs.Views.{StandsView}

module _ (host : ℕ) (t : Tables) (k : Kernel) (part : Part host t k) (i : ℕ) (a : Alien) (here : alien_at t.slots i ≡ Some a)
    (taken : is_taken (stage_of a) ≡ true) (m : Message) (to : Pid) (d : Seat) (slot place : ℕ)
    (named : slot_name t.seats t.slots slot ≡ Some (alien_name a)) (there : position (is_seat to) t.seats ≡ Some place) where
  pub kept_alien : IsAlienKept k a
  kept_alien = part.view.kept a.sender a (of_at t.slots i a part.fit.apart here)

  abbrev e : Exchange
  e = kept_alien.exchange

  e_taken : is_taken e.stage ≡ true
  e_taken = ap is_taken kept_alien.stage ∙ taken

  abbrev f : Alien → Alien
  f = forwarded m to

  abbrev pub handed_kernel : Kernel
  handed_kernel = calls_made.forwarded k (alien_name a) e m to

  abbrev l : Kernel
  l = handed_kernel

  abbrev pub handed_tables : Tables
  handed_tables = record (slotted t i f) { lists = last_in t.lists place slot }

  change : ChangesAlien k l a (f a)
  change = record {
    procs = handed_procs k (alien_name a) e kept_alien.is e_taken m to;
    others = handed_others k (alien_name a) e kept_alien.is e_taken m to;
    forth = handed_forth k (alien_name a) e kept_alien.is e_taken m to;
    back = handed_back k (alien_name a) e kept_alien.is e_taken m to;
    lookups = handed_lookups k (alien_name a) e kept_alien.is e_taken m to;
    same = record { sender = refl; number = refl; target = refl; message = refl; part = refl; moves = refl };
    stage = λ x y at now stage. ap (λ (z : Exchange). z.stage) (handed_is k (alien_name a) e kept_alien.is e_taken m to y now);
    spot = λ x y at now spot. ap spot_of (handed_is k (alien_name a) e kept_alien.is e_taken m to y now);
    refused = λ closed is. absurd (cc);
  }

  view : StandsView host (slotted t i f) l
  view = view_slotted host t k l part.fit part.view i a here f change

  names_same : (j : ℕ) → slot_name t.seats (slotted t i f).slots j ≡ slot_name t.seats t.slots j
  names_same = slot_slotted host t k l part.fit part.view i a here f change

  pub part_handed : (pid from : Pid) → effect k (steps.Call pid (calls.Forward m from to))
      ≡ Some (answered l pid (calls.Forward m from to) answers.Ok) → Part host handed_tables l
  part_handed pid from does = record {
    fit = fit_handed host t k part (alien_name a) e kept_alien.is e_taken m to d slot place named there (slotted t i f) (λ q. refl)
        names_same (fit_forwarded host t part.fit i m to);
    view = record { procs = view.procs; elsewhere = view.elsewhere; kept = view.kept; waiting = view.waiting; home = view.home };
    sound = sound_step k (steps.Call pid (calls.Forward m from to)) (answered l pid (calls.Forward m from to) answers.Ok) part.sound does;
    names = handed_names k (alien_name a) e kept_alien.is e_taken m to host ∙ part.names;
    unknown = λ g away. handed_names k (alien_name a) e kept_alien.is e_taken m to g ∙ part.unknown g away;
    queues = queues_handed host t k part (alien_name a) e kept_alien.is e_taken m to d slot place named there (slotted t i f) (λ q. refl)
        names_same;
  }

  pub handed_carries : Carries 0 t handed_tables
  handed_carries =
      let c : Carries 0 t (slotted t i f) = slotted_carries host t k l part.fit part.view i a here f change (λ y. refl) in
      record { seats = c.seats; aliens = c.aliens }

  -- entries say the same of it
  pub handed_read : map (option_map read_alien) handed_tables.slots ≡ map (option_map read_alien) t.slots
  handed_read = slots_read host t k l part.fit part.view i a here f change
      (λ j. record (read_alien a) { closed = sym (open_by a.stage a.bytes taken) j })

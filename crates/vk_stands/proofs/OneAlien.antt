-- One alien changes, and with it its Send.
use Rattle.std.proofs.Common.{◌≡◌, ℕ, ◌<◌, ◌-◌, length, nat_lt, nat_eq, Bool, true, false, ◌&&◌, ◌==◌, cond, map, set, Option, Some, None, refl, sym, ap, subst, ◌∙◌, inl, if◌then◌else◌}
use Rattle.std.specs.List.{slice_get}
use Rattle.std.specs.Option.{option_map}
use Rattle.std.proofs.lemmas.Bool.{both_ways, cond-true, cond-false, eq-eqb, eqb-true, false_from_ne_true}
use Rattle.std.proofs.lemmas.List.{get_or-set_same, get_or-set_other, map-set, set-get_or}
use Rattle.std.proofs.lemmas.Option.{same_Some}
use Rattle.vk_types.specs.Types.{Exchange, Name, Pid}
use Rattle.vk_base.specs.declared.limits.TheConstants.{STATION_PROCESSES}
use Rattle.vk_base.specs.Kernel.{Kernel, is_live, name_of, same_name}
use Rattle.vk_base.specs.Pids.{same_pid}
use Rattle.vk_base.proofs.OptionLemmas.{mapped_is}
use Rattle.vk_base.proofs.PidLemmas.{same_pid_self}
use Rattle.v_laws.proofs.Tables.{same_pid_is}
use Rattle.vk_pool.specs.declared.alien.Alien.{Alien}
use Rattle.vk_pool.specs.declared.alien.AlienStage.TheVariants as alien_stages
use Rattle.vk_pool.specs.Aliens.{alien_at, alien_from, changed_at}
use Rattle.vk_procs.specs.Seats.{seat_in}
use Rattle.vk_queue.specs.Lists.{queue_at}
use Rattle.vk_stands.specs.Fit.{AreFit}
use Rattle.vk_stands.specs.Tables.{Tables, alien_name, alien_spot, names_at, read_alien, seat_name, slot_name, spot_of, stage_of}
use Rattle.vk_stands.proofs.Aliens.{of_at}
use Rattle.vk_stands.proofs.Fits.{map_all}
use Rattle.vk_stands.proofs.Found.{alien_found, seat_found}
use Rattle.vk_stands.proofs.OneSeat.{same_map}
use Rattle.vk_stands.proofs.Parts.{Carries, same_more}
use Rattle.vk_stands.proofs.Placed.{IsPlace, place_at, put_of}
use Rattle.vk_stands.proofs.Views.{Goes, IsSameAlien, StandsView, same_alien, view_turned}
use Rattle.vk_stands.proofs.Waits.{same_seat, waiting_kept}
use Rattle.vk_stands.proofs.Whole.{same_work}

-- Slots are of the Sends that they were of, where an alien becomes another one of its Send.
module _ (t : Tables) (i : ℕ) (a b : Alien) (here : alien_at t.slots i ≡ Some a) (low : i < length t.slots)
    (same : alien_name b ≡ alien_name a) where
  name_at : (j : ℕ) (c : Bool) → nat_eq j i ≡ c →
      option_map alien_name (alien_at (set t.slots i (Some b)) j) ≡ option_map alien_name (alien_at t.slots j)
  name_at j true is =
      let one : j ≡ i = eqb-true j i is in
      ap (λ n. option_map alien_name (alien_at (set t.slots i (Some b)) n)) one
      ∙ ap (option_map alien_name) (get_or-set_same t.slots i (Some b) None low)
      ∙ ap Some same
      ∙ sym (ap (option_map alien_name) (ap (alien_at t.slots) one ∙ here))
  name_at j false other =
      ap (option_map alien_name) (get_or-set_other t.slots i j (Some b) None (λ e. both_ways (nat_eq j i) other (eq-eqb j i e)))

  pub slot_put : (slot : ℕ) → slot_name t.seats (set t.slots i (Some b)) slot ≡ slot_name t.seats t.slots slot
  slot_put slot = ap (λ o. cond (nat_lt slot STATION_PROCESSES) (option_map seat_name (slice_get t.seats slot)) o)
      (name_at (slot - STATION_PROCESSES) (nat_eq (slot - STATION_PROCESSES) i) refl)

module _ (t : Tables) (i : ℕ) (a b : Alien) (here : alien_at t.slots i ≡ Some a) where
  -- where entries say the same of it
  pub slots_put : read_alien b ≡ read_alien a → map (option_map read_alien) (set t.slots i (Some b)) ≡ map (option_map read_alien) t.slots
  slots_put read =
      map-set (option_map read_alien) t.slots i (Some b)
      ∙ ap (λ x. set (map (option_map read_alien) t.slots) i (Some x)) read
      ∙ ap (λ o. set (map (option_map read_alien) t.slots) i (option_map read_alien o)) (sym here)
      ∙ sym (map-set (option_map read_alien) t.slots i (alien_at t.slots i))
      ∙ ap (map (option_map read_alien)) (set-get_or t.slots i None)

-- the change of the alien of this sender
abbrev pub only_alien : Pid → (Alien → Alien) → Alien → Alien
only_alien sender f a = if same_pid sender a.sender then f a else a

abbrev pub slotted : Tables → ℕ → (Alien → Alien) → Tables
slotted t i f = record t { slots = changed_at i f t.slots }

-- The alien becomes another one of the same Send, and the kernel has that Send so far.
pub record ChangesAlien (k l : Kernel) (a b : Alien) : Type 0 where
  pub procs : (q : Pid) → l.procs q ≡ k.procs q
  pub others : (n : Name) → same_name n (alien_name a) ≡ false → l.exchanges n ≡ k.exchanges n
  pub forth : (n : Name) (e : Exchange) → k.exchanges n ≡ Some e → (x : Exchange) × (l.exchanges n ≡ Some x) × Goes e x
  pub back : (n : Name) (x : Exchange) → l.exchanges n ≡ Some x → (e : Exchange) × (k.exchanges n ≡ Some e) × Goes e x
  pub lookups : (asker : Pid) (number : ℕ) → l.lookups asker number ≡ k.lookups asker number
  pub same : IsSameAlien a b
  pub stage : (e x : Exchange) → k.exchanges (alien_name a) ≡ Some e → l.exchanges (alien_name a) ≡ Some x → e.stage ≡ stage_of a →
      x.stage ≡ stage_of b
  pub spot : (e x : Exchange) → k.exchanges (alien_name a) ≡ Some e → l.exchanges (alien_name a) ≡ Some x → spot_of e ≡ alien_spot a →
      spot_of x ≡ alien_spot b
  pub refused : (closed : ℕ) → b.stage ≡ alien_stages.Refused closed → is_live (k.procs b.at) ≡ false

module _ (host : ℕ) (t : Tables) (k l : Kernel) (fit : AreFit host t) (h : StandsView host t k) (i : ℕ) (a : Alien)
    (here : alien_at t.slots i ≡ Some a) (f : Alien → Alien) (g : ChangesAlien k l a (f a)) where
  place : IsPlace t.slots (f a).sender i
  place = subst (λ s. IsPlace t.slots s i) (sym g.same.sender) (place_at t.slots a.sender i (fit.apart i a here))

  is_set : changed_at i f t.slots ≡ set t.slots i (Some (f a))
  is_set = ap (λ o. set t.slots i (option_map f o)) here

  found : alien_from t.slots a.sender ≡ Some a
  found = of_at t.slots i a fit.apart here

  foreign : a.sender.host ≡ host → ⊥
  foreign = (fit.aliens i a here).foreign

  only_by : (q : Pid) (b : Bool) → same_pid a.sender q ≡ b → (o : Option Alien) → alien_from t.slots q ≡ o →
      cond b (Some (f a)) o ≡ option_map (only_alien a.sender f) o
  only_by q true same o is =
      let mine : o ≡ Some a = sym is ∙ ap (alien_from t.slots) (sym (same_pid_is a.sender q same)) ∙ found in
      sym (ap (option_map (only_alien a.sender f)) mine ∙ ap Some (cond-true (same_pid a.sender a.sender) (f a) a (same_pid_self a.sender)))
  only_by q false other None is = refl
  only_by q false other (Some x) is =
      let away : same_pid a.sender x.sender ≡ false = ap (same_pid a.sender) (alien_found t.slots q x is).from ∙ other in
      ap Some (sym (cond-false (same_pid a.sender x.sender) (f x) x away))

  aliens : (q : Pid) → alien_from (slotted t i f).slots q ≡ option_map (only_alien a.sender f) (alien_from t.slots q)
  aliens q =
      ap (λ slots. alien_from slots q) is_set ∙ put_of t.slots i (f a) place q
      ∙ ap (λ s. cond (same_pid s q) (Some (f a)) (alien_from t.slots q)) g.same.sender
      ∙ only_by q (same_pid a.sender q) refl (alien_from t.slots q) refl

  apart_name : (q : Pid) (number : ℕ) → same_pid q a.sender ≡ false → same_name (name_of q number) (alien_name a) ≡ false
  apart_name q number other = ap (λ b. b && number == a.number) other

  own_apart : (q : Pid) → q.host ≡ host → same_pid q a.sender ≡ false
  own_apart q own = false_from_ne_true (same_pid q a.sender)
      (λ same. foreign (sym (ap (λ (p : Pid). p.host) (same_pid_is q a.sender same)) ∙ own))

  same_by : (x : Alien) (b : Bool) → same_pid a.sender x.sender ≡ b → alien_from t.slots x.sender ≡ Some x →
      IsSameAlien x (only_alien a.sender f x)
  same_by x true same is =
      let one : a ≡ x = same_Some a x (sym found ∙ ap (alien_from t.slots) (same_pid_is a.sender x.sender same) ∙ is) in
      subst (λ z. IsSameAlien z (only_alien a.sender f z)) one
      (subst (IsSameAlien a) (sym (cond-true (same_pid a.sender a.sender) (f a) a (same_pid_self a.sender))) g.same)
  same_by x false other is = subst (IsSameAlien x) (sym (cond-false (same_pid a.sender x.sender) (f x) x other)) (same_alien x)

  -- what its exchange and it have in common, as how far it is
  told_by : {X : Type 0} (p : Exchange → X) (q : Alien → X) → ((e x : Exchange) → k.exchanges (alien_name a) ≡ Some e →
      l.exchanges (alien_name a) ≡ Some x → p e ≡ q a → p x ≡ q (f a)) →
      (x : Alien) (e y : Exchange) (b : Bool) → same_pid a.sender x.sender ≡ b → alien_from t.slots x.sender ≡ Some x →
      k.exchanges (alien_name x) ≡ Some e → l.exchanges (alien_name x) ≡ Some y → p e ≡ q x →
      p y ≡ q (only_alien a.sender f x)
  told_by p q then_is x e y true same is at there told =
      let one : x ≡ a = sym (same_Some a x (sym found ∙ ap (alien_from t.slots) (same_pid_is a.sender x.sender same) ∙ is)) in
      then_is e y (ap (λ z. k.exchanges (alien_name z)) (sym one) ∙ at) (ap (λ z. l.exchanges (alien_name z)) (sym one) ∙ there)
      (told ∙ ap q one)
      ∙ sym (ap (λ z. q (only_alien a.sender f z)) one
      ∙ ap q (cond-true (same_pid a.sender a.sender) (f a) a (same_pid_self a.sender)))
  told_by p q then_is x e y false other is at there told =
      let away : same_pid x.sender a.sender ≡ false =
      false_from_ne_true (same_pid x.sender a.sender) (λ same. both_ways (same_pid a.sender x.sender) other
      (ap (same_pid a.sender) (same_pid_is x.sender a.sender same) ∙ same_pid_self a.sender)) in
      ap p (same_Some y e (sym there ∙ g.others (alien_name x) (apart_name x.sender x.number away) ∙ at))
      ∙ told ∙ ap q (sym (cond-false (same_pid a.sender x.sender) (f x) x other))

  refused_by : (x : Alien) (closed : ℕ) (b : Bool) → same_pid a.sender x.sender ≡ b → alien_from t.slots x.sender ≡ Some x →
      (only_alien a.sender f x).stage ≡ alien_stages.Refused closed → is_live (l.procs (only_alien a.sender f x).at) ≡ false
  refused_by x closed true same is stage =
      let one : x ≡ a = sym (same_Some a x (sym found ∙ ap (alien_from t.slots) (same_pid_is a.sender x.sender same) ∙ is)) in
      let now : only_alien a.sender f x ≡ f a = ap (only_alien a.sender f) one
      ∙ cond-true (same_pid a.sender a.sender) (f a) a (same_pid_self a.sender) in
      ap (λ (z : Alien). is_live (l.procs z.at)) now ∙ ap is_live (g.procs (f a).at)
      ∙ g.refused closed (sym (ap (λ (z : Alien). z.stage) now) ∙ stage)
  refused_by x closed false other is stage =
      let now : only_alien a.sender f x ≡ x = cond-false (same_pid a.sender x.sender) (f x) x other in
      ap (λ (z : Alien). is_live (l.procs z.at)) now ∙ ap is_live (g.procs x.at)
      ∙ (h.kept x.sender x is).refused closed (sym (ap (λ (z : Alien). z.stage) now) ∙ stage)

  self_found : (q : Pid) (x : Alien) → alien_from t.slots q ≡ Some x → alien_from t.slots x.sender ≡ Some x
  self_found q x is = ap (alien_from t.slots) (alien_found t.slots q x is).from ∙ is

  pub view_slotted : StandsView host (slotted t i f) l
  view_slotted = view_turned host t (slotted t i f) k l (λ s. s) (only_alien a.sender f) fit h (record {
    seats = λ q. same_map (seat_in t.seats q);
    aliens = aliens;
    procs = λ q own. g.procs q ∙ h.procs q own;
    far = λ q away. g.procs q;
    forth = g.forth;
    back = λ n y at. inl (g.back n y at);
    waits = λ q s w at blocked. waiting_kept k l g.forth g.lookups s s (same_seat s)
        (λ target e z is there local stage.
        let own : s.pid.host ≡ host = let p = seat_found t.seats q s at in (fit.seats p.at s p.here).own in
        ap (λ (y : Exchange). y.stage) (same_Some z e (sym there
        ∙ g.others (seat_name s) (apart_name s.pid s.note.sends (own_apart s.pid own)) ∙ is))
        ∙ stage)
        (λ e z is there spot.
        let own : s.pid.host ≡ host = let p = seat_found t.seats q s at in (fit.seats p.at s p.here).own in
        ap spot_of (same_Some z e (sym there ∙ g.others (seat_name s) (apart_name s.pid s.note.sends (own_apart s.pid own)) ∙ is)) ∙ spot)
        w (h.waiting q s w at blocked);
    still = λ n s y at there here near sender. sender;
    same = λ q x is. same_by x (same_pid a.sender x.sender) refl (self_found q x is);
    stages = λ q x e y is at there stage. told_by (λ (z : Exchange). z.stage) stage_of g.stage x e y (same_pid a.sender x.sender) refl
        (self_found q x is) at there stage;
    spots = λ q x e y is at there spot. told_by spot_of alien_spot g.spot x e y (same_pid a.sender x.sender) refl (self_found q x is) at
        there spot;
    refused = λ q x closed is stage. refused_by x closed (same_pid a.sender x.sender) refl (self_found q x is) stage;
  })

  -- slots are of the Sends that they were of
  pub slot_slotted : (slot : ℕ) → slot_name t.seats (slotted t i f).slots slot ≡ slot_name t.seats t.slots slot
  slot_slotted slot = ap (λ slots. slot_name t.seats slots slot) is_set
      ∙ slot_put t i a (f a) here place.lt (λ n. name_of (g.same.sender n) (g.same.number n)) slot

  pub names_slotted : (at : ℕ) → names_at (slotted t i f) at ≡ names_at t at
  names_slotted at = map_all (slot_name t.seats (slotted t i f).slots) (slot_name t.seats t.slots) (queue_at t.lists at) slot_slotted

  pub slotted_carries : ((x : Alien) → (f x).moves ≡ x.moves) → Carries 0 t (slotted t i f)
  slotted_carries moves = record {
    seats = λ q s at. record {
      old = s;
      was = at;
      sends = same_more 0 s.note.sends;
      lookups = same_more 0 s.note.lookups;
      work = λ w blocked is. (blocked, same_work s);
    };
    aliens = λ q b at.
        let x = mapped_is (only_alien a.sender f) (alien_from t.slots q) b (sym (aliens q) ∙ at) in
        (x.0, x.1, ap (λ (z : Alien). z.moves) (sym x.2) ∙ only_moves x.0 (same_pid a.sender x.0.sender));
  }
    where
      only_moves : (x : Alien) (b : Bool) → (if b then f x else x).moves ≡ x.moves
      only_moves x true = moves x
      only_moves x false = refl

  -- where entries say the same of it
  pub slots_read : read_alien (f a) ≡ read_alien a → map (option_map read_alien) (slotted t i f).slots ≡ map (option_map read_alien) t.slots
  slots_read same = ap (map (option_map read_alien)) is_set ∙ slots_put t i a (f a) here same

-- A Send of another station's process has one move more, which its alien counts: the tables stand for it.
use Rattle.std.proofs.Common.{◌≡◌, ℕ, Bool, true, false, cond, ◌&&◌, ◌==◌, [], ◌∷◌, ◌++◌, length, set, refl, sym, ap, subst, ◌∙◌, Some, inl, inr}
use Rattle.std.specs.Option.{option_map}
use Rattle.std.proofs.lemmas.Option.{same_Some}
use Rattle.vk_types.specs.Types.{Exchange, Move, Name, Pid, Waiting}
use Rattle.vk_base.specs.declared.activity.Activity.TheVariants as activities
use Rattle.vk_base.specs.Kernel.{Kernel}
use Rattle.vk_base.specs.Pids.{same_pid}
use Rattle.v_laws.proofs.Tables.{put_exchange_here, put_exchange_other, same_pid_is, same_pid_laws}
use Rattle.vk_pool.specs.declared.alien.Alien.{Alien}
use Rattle.vk_pool.specs.declared.alien.AlienStage.{AlienStage}
use Rattle.vk_pool.specs.declared.alien.AlienStage.TheVariants as alien_stages
use Rattle.vk_pool.specs.Aliens.{alien_at, alien_from, with_moves}
use Rattle.vk_packet.specs.Rules.{is_lawful}
use Rattle.vk_procs.specs.declared.seat.Seat.{Seat}
use Rattle.vk_procs.specs.Seats.{seat_in}
use Rattle.vk_queue.specs.Lists.{queue_at}
use Rattle.vk_stands.specs.Fit.{AreFit, IsFitAlien}
use Rattle.vk_stands.specs.Stands.{IsHome, IsAlienKept}
use Rattle.vk_stands.specs.Tables.{Tables, alien_name, names_at, slot_name, told_by, spot_of}
use Rattle.vk_stands.proofs.Aliens.{of_at}
use Rattle.vk_stands.proofs.FitSlots.{fit_changed_at}
use Rattle.vk_stands.proofs.Fits.{map_all}
use Rattle.vk_stands.proofs.Found.{alien_found}
use Rattle.vk_stands.proofs.MovesExchange.{HasSameMessage, Owns, home_moved, queues_moved, sound_moved, waits_moved}
use Rattle.vk_stands.proofs.OneAlien.{slot_put, slotted}
use Rattle.vk_stands.proofs.Parts.{Part}
use Rattle.vk_stands.proofs.Placed.{IsPlace, place_at, put_of}
use Rattle.vk_stands.proofs.SentMoves.{with_send}

-- what its sender is told
same_told : (n : ℕ) (a : Alien) (s : AlienStage) → told_by a s ≡ told_by (with_moves n a) s
same_told n a alien_stages.Queued = refl
same_told n a alien_stages.Taken = refl
same_told n a (alien_stages.Replied m dest closed) = refl
same_told n a (alien_stages.Refused closed) = refl

fit_more : (host n : ℕ) (a : Alien) → IsFitAlien host a → IsFitAlien host (with_moves n a)
fit_more host n a f = record {
  foreign = f.foreign;
  here = f.here;
  number = f.number;
  told = ap is_lawful (sym (same_told n a a.stage)) ∙ f.told;
  part = f.part;
}

pub fit_moves : (host : ℕ) (t : Tables) → AreFit host t → (i n : ℕ) → AreFit host (slotted t i (with_moves n))
fit_moves host t fit i n = fit_changed_at host t fit (with_moves n) (λ a. refl) (λ a f. fit_more host n a f) i

module _ (t : Tables) (i n : ℕ) (a : Alien) (here : alien_at t.slots i ≡ Some a) (place : IsPlace t.slots a.sender i) where
  abbrev b : Alien
  b = with_moves n a

  is_set : (slotted t i (with_moves n)).slots ≡ set t.slots i (Some b)
  is_set = ap (λ o. set t.slots i (option_map (with_moves n) o)) here

  -- the aliens of all senders then
  pub aliens_then : (q : Pid) → alien_from (slotted t i (with_moves n)).slots q ≡ cond (same_pid a.sender q) (Some b) (alien_from t.slots q)
  aliens_then q = ap (λ slots. alien_from slots q) is_set ∙ put_of t.slots i b place q

  names_then : (at : ℕ) → names_at (slotted t i (with_moves n)) at ≡ names_at t at
  names_then at = map_all (slot_name t.seats (slotted t i (with_moves n)).slots) (slot_name t.seats t.slots) (queue_at t.lists at)
      (λ slot. ap (λ slots. slot_name t.seats slots slot) is_set ∙ slot_put t i a b here place.lt refl slot)

module _ (host : ℕ) (t : Tables) (k : Kernel) (part : Part host t k) (i : ℕ) (a : Alien) (here : alien_at t.slots i ≡ Some a) (e : Exchange)
    (is : k.exchanges (alien_name a) ≡ Some e) (m : Move) (n : ℕ) (one_more : length (e.moves ++ m ∷ []) ≡ n)
    (owns : (pid : Pid) (s : Seat) (w : Waiting) → seat_in t.seats pid ≡ Some s → s.doing ≡ activities.Blocked w →
    Owns k (alien_name a) (record e { moves = e.moves ++ m ∷ [] }) s w) where
  abbrev y : Exchange
  y = record e { moves = e.moves ++ m ∷ [] }

  abbrev name : Name
  name = alien_name a

  abbrev l : Kernel
  l = with_send k name y

  abbrev u : Tables
  u = slotted t i (with_moves n)

  same : HasSameMessage e y
  same = record { target = refl; message = refl; part = refl; spot = refl; stage = refl }

  away : name.sender.host ≡ host → ⊥
  away = (part.fit.aliens i a here).foreign

  place : IsPlace t.slots a.sender i
  place = place_at t.slots a.sender i (part.fit.apart i a here)

  found : alien_from t.slots a.sender ≡ Some a
  found = of_at t.slots i a part.fit.apart here

  aliens : (q : Pid) → alien_from u.slots q ≡ cond (same_pid a.sender q) (Some (with_moves n a)) (alien_from t.slots q)
  aliens q = aliens_then t i n a here place q

  kept_here : IsAlienKept l (with_moves n a)
  kept_here =
      let v : IsAlienKept k a = part.view.kept a.sender a found in
      let one : v.exchange ≡ e = same_Some v.exchange e (sym v.is ∙ is) in
      record {
        exchange = y;
        is = put_exchange_here k.exchanges name y;
        target = ap (λ (x : Exchange). x.target) (sym one) ∙ v.target;
        message = ap (λ (x : Exchange). x.message) (sym one) ∙ v.message;
        part = ap (λ (x : Exchange). x.part) (sym one) ∙ v.part;
        spot = ap spot_of (sym one) ∙ v.spot;
        stage = ap (λ (x : Exchange). x.stage) (sym one) ∙ v.stage;
        moves = one_more;
        made = v.made;
        refused = v.refused;
      }

  kept_other : (x : Alien) → same_pid x.sender a.sender ≡ false → IsAlienKept k x → IsAlienKept l x
  kept_other x other v = record {
    exchange = v.exchange;
    is = put_exchange_other k.exchanges name y (alien_name x) (ap (λ c. c && x.number == a.number) other) ∙ v.is;
    target = v.target;
    message = v.message;
    part = v.part;
    spot = v.spot;
    stage = v.stage;
    moves = v.moves;
    made = v.made;
    refused = v.refused;
  }

  kept_by : (q : Pid) (x : Alien) (c : Bool) → same_pid a.sender q ≡ c → cond c (Some (with_moves n a)) (alien_from t.slots q) ≡ Some x →
      IsAlienKept l x
  kept_by q x true near at = subst (IsAlienKept l) (same_Some (with_moves n a) x at) kept_here
  kept_by q x false other at =
      let from : x.sender ≡ q = (alien_found t.slots q x at).from in
      kept_other x (ap (λ p. same_pid p a.sender) from ∙ same_pid_laws.symm q a.sender ∙ other) (part.view.kept q x at)

  kept : (q : Pid) (x : Alien) → alien_from u.slots q ≡ Some x → IsAlienKept l x
  kept q x at = kept_by q x (same_pid a.sender q) refl (sym (aliens q) ∙ at)

  -- who sent what waits here or was taken
  home_by : (p : Name) (z : Exchange) (x : Alien) (c : Bool) → same_pid a.sender p.sender ≡ c → alien_from t.slots p.sender ≡ Some x →
      x.number ≡ p.number →
      (b : Alien) × (cond c (Some (with_moves n a)) (alien_from t.slots p.sender) ≡ Some b) × (b.number ≡ p.number)
  home_by p z x true near at number =
      let one : a ≡ x = same_Some a x (sym found ∙ ap (alien_from t.slots) (same_pid_is a.sender p.sender near) ∙ at) in
      (with_moves n a, refl, ap (λ (c : Alien). c.number) one ∙ number)
  home_by p z x false other at number = (x, at, number)

  home_at : (p : Name) (z : Exchange) → IsHome host t p z → IsHome host u p z
  home_at p z (inl at) = inl at
  home_at p z (inr x) =
      let b = home_by p z x.0 (same_pid a.sender p.sender) refl x.1 x.2 in
      inr (b.0, aliens p.sender ∙ b.1, b.2)

  pub part_more : Part host u l
  part_more = record {
    fit = fit_moves host t part.fit i n;
    view = record {
      procs = part.view.procs;
      elsewhere = part.view.elsewhere;
      kept = kept;
      waiting = waits_moved host t k part name away e y is same owns;
      home = λ p z at near there. home_at p z (home_moved host t k part name away e y is same owns p z at near there);
    };
    sound = sound_moved host t k part name away e y is same owns;
    names = part.names;
    unknown = part.unknown;
    queues = λ q at there. queues_moved host t k part name away e y is same owns q at there
        ∙ sym (names_then t i n a here place at);
  }

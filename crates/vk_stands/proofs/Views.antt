-- The part of the relation that speaks of the view and the tables alone; and that it is kept over any change in which each process and
-- each alien stays in its place, and each Send that was there stays.
use Rattle.std.proofs.Common.{◌≡◌, ◌⊎◌, ◌≤◌, ℕ, true, false, List, length, Some, refl, sym, ap, subst, ◌∙◌, inl, inr}
use Rattle.std.specs.Option.{option_map}
use Rattle.vk_types.specs.Types.{Exchange, Name, Pid, Process, Times, Waiting}
use Rattle.vk_base.specs.declared.activity.Activity.TheVariants as activities
use Rattle.vk_base.specs.declared.activity.Waiting.TheVariants as waitings
use Rattle.vk_base.specs.declared.kernel.State.TheVariants as states
use Rattle.vk_base.specs.Counts.{sends_of}
use Rattle.vk_base.specs.Kernel.{Kernel, is_at_target, is_live}
use Rattle.vk_base.proofs.OptionLemmas.{mapped_is}
use Rattle.vk_pool.specs.declared.alien.Alien.{Alien}
use Rattle.vk_pool.specs.declared.alien.AlienStage.TheVariants as alien_stages
use Rattle.vk_pool.specs.Aliens.{alien_from}
use Rattle.vk_procs.specs.declared.seat.Seat.{Seat}
use Rattle.vk_procs.specs.Seats.{process_of, seat_in}
use Rattle.vk_rules.specs.Readings.{Reading}
use Rattle.vk_stands.specs.Fit.{AreFit}
use Rattle.vk_stands.specs.Stands.{IsHome, IsAlienKept, IsSender, IsWaiting, Stands}
use Rattle.vk_stands.specs.Tables.{Tables, alien_name, alien_spot, spot_of, stage_of}
use Rattle.vk_stands.proofs.Found.{alien_found}

pub record StandsView (host : ℕ) (t : Tables) (k : Kernel) : Type 0 where
  pub procs : (pid : Pid) → pid.host ≡ host → k.procs pid ≡ option_map process_of (seat_in t.seats pid)
  pub elsewhere : (pid : Pid) (p : Process) → (pid.host ≡ host → ⊥) → k.procs pid ≡ Some p → p.state ≡ states.Ready
  pub kept : (sender : Pid) (a : Alien) → alien_from t.slots sender ≡ Some a → IsAlienKept k a
  pub waiting : (pid : Pid) (s : Seat) (w : Waiting) → seat_in t.seats pid ≡ Some s → s.doing ≡ activities.Blocked w → IsWaiting k s w
  pub home : (n : Name) (e : Exchange) → k.exchanges n ≡ Some e → e.target.host ≡ host → is_at_target e.stage ≡ true → IsHome host t n e

pub view_in : (times : Times) (host : ℕ) (t : Tables) (r : Reading) → Stands times host t r → StandsView host t r.view
view_in times host t r h = record { procs = h.procs; elsewhere = h.elsewhere; kept = h.kept; waiting = h.waiting; home = h.home }

-- lists are no part of it
pub view_listed : {host : ℕ} {t : Tables} {k : Kernel} (lists : List (List ℕ)) → StandsView host t k →
    StandsView host (record t { lists = lists }) k
view_listed lists v =
    record { procs = v.procs; elsewhere = v.elsewhere; kept = v.kept; waiting = v.waiting; home = v.home }

-- A Send is as it was, but for how far it is, and where; it is no nearer to a queue.
pub record Goes (e y : Exchange) : Type 0 where
  pub target : y.target ≡ e.target
  pub message : y.message ≡ e.message
  pub part : y.part ≡ e.part
  pub moves : y.moves ≡ e.moves
  pub opened : y.opened ≡ e.opened
  pub done : y.done ≡ e.done
  pub near : is_at_target y.stage ≡ true → is_at_target e.stage ≡ true

pub goes_self : (e : Exchange) → Goes e e
goes_self e =
    record { target = refl; message = refl; part = refl; moves = refl; opened = refl; done = refl; near = λ t. t }

-- an alien is of the same Send
pub record IsSameAlien (x y : Alien) : Type 0 where
  pub sender : y.sender ≡ x.sender
  pub number : y.number ≡ x.number
  pub target : y.target ≡ x.target
  pub message : y.message ≡ x.message
  pub part : y.part ≡ x.part
  pub moves : y.moves ≡ x.moves

pub same_alien : (x : Alien) → IsSameAlien x x
same_alien x = record { sender = refl; number = refl; target = refl; message = refl; part = refl; moves = refl }

-- A change from these tables and this kernel to those: each process becomes what `f` makes of it, each alien what `a` does.
pub record Turns (host : ℕ) (t u : Tables) (k l : Kernel) (f : Seat → Seat) (a : Alien → Alien) : Type 0 where
  pub seats : (pid : Pid) → seat_in u.seats pid ≡ option_map f (seat_in t.seats pid)
  pub aliens : (sender : Pid) → alien_from u.slots sender ≡ option_map a (alien_from t.slots sender)
  pub procs : (pid : Pid) → pid.host ≡ host → l.procs pid ≡ option_map process_of (seat_in u.seats pid)
  pub far : (pid : Pid) → (pid.host ≡ host → ⊥) → l.procs pid ≡ k.procs pid
  -- each Send that was there is there; one that is at its target now was so before, or has a sender in those tables
  pub forth : (n : Name) (e : Exchange) → k.exchanges n ≡ Some e → (y : Exchange) × (l.exchanges n ≡ Some y) × Goes e y
  pub back : (n : Name) (y : Exchange) → l.exchanges n ≡ Some y →
      ((e : Exchange) × (k.exchanges n ≡ Some e) × Goes e y) ⊎ IsHome host u n y
  pub waits : (pid : Pid) (s : Seat) (w : Waiting) → seat_in t.seats pid ≡ Some s → (f s).doing ≡ activities.Blocked w → IsWaiting l (f s) w
  -- a process whose Send is at its target here still waits in it
  pub still : (n : Name) (s : Seat) (y : Exchange) → seat_in t.seats n.sender ≡ Some s → l.exchanges n ≡ Some y →
      y.target.host ≡ host → is_at_target y.stage ≡ true → IsSender n y s → IsSender n y (f s)
  pub same : (sender : Pid) (x : Alien) → alien_from t.slots sender ≡ Some x → IsSameAlien x (a x)
  pub stages : (sender : Pid) (x : Alien) (e y : Exchange) → alien_from t.slots sender ≡ Some x → k.exchanges (alien_name x) ≡ Some e →
      l.exchanges (alien_name x) ≡ Some y → e.stage ≡ stage_of x → y.stage ≡ stage_of (a x)
  pub spots : (sender : Pid) (x : Alien) (e y : Exchange) → alien_from t.slots sender ≡ Some x → k.exchanges (alien_name x) ≡ Some e →
      l.exchanges (alien_name x) ≡ Some y → spot_of e ≡ alien_spot x → spot_of y ≡ alien_spot (a x)
  pub refused : (sender : Pid) (x : Alien) (closed : ℕ) → alien_from t.slots sender ≡ Some x →
      (a x).stage ≡ alien_stages.Refused closed → is_live (l.procs (a x).at) ≡ false

module _ (host : ℕ) (t u : Tables) (k l : Kernel) (f : Seat → Seat) (a : Alien → Alien) (fit : AreFit host t) (h : StandsView host t k)
    (g : Turns host t u k l f a) where
  kept_by : (sender : Pid) (x : Alien) → alien_from t.slots sender ≡ Some x → IsAlienKept k x → IsAlienKept l (a x)
  kept_by sender x here v =
      let y = g.forth (alien_name x) v.exchange v.is in
      let at = alien_found t.slots sender x here in
      let same = g.same sender x here in
      let away : x.sender.host ≡ host → ⊥ = (fit.aliens at.at x at.here).foreign in
      record {
        exchange = y.0;
        is = ap l.exchanges (λ i. record { sender = same.sender i; number = same.number i }) ∙ y.1;
        target = y.2.target ∙ v.target ∙ sym same.target;
        message = y.2.message ∙ v.message ∙ sym same.message;
        part = y.2.part ∙ v.part ∙ sym same.part;
        spot = g.spots sender x v.exchange y.0 here v.is y.1 v.spot;
        stage = g.stages sender x v.exchange y.0 here v.is y.1 v.stage;
        moves = ap length y.2.moves ∙ v.moves ∙ sym same.moves;
        made = subst (λ n. n ≤ sends_of (l.procs (a x).sender)) (sym same.number)
            (subst (λ p. x.number ≤ sends_of (l.procs p)) (sym same.sender)
            (subst (λ p. x.number ≤ sends_of p) (sym (g.far x.sender away)) v.made));
        refused = λ closed is. g.refused sender x closed here is;
      }

  home_by : (n : Name) (e y : Exchange) → Goes e y → l.exchanges n ≡ Some y → y.target.host ≡ host →
      is_at_target y.stage ≡ true → IsHome host t n e → IsHome host u n y
  home_by n e y goes at here near (inl m) =
      let sender : IsSender n y m.1.0 = record {
        waits = m.1.2.waits ∙ (λ i. activities.Blocked (waitings.Send (sym goes.target i) (sym goes.message i)));
        last = m.1.2.last;
      } in
      inl (m.0, (f m.1.0, g.seats n.sender ∙ ap (option_map f) m.1.1, g.still n m.1.0 y m.1.1 at here near sender))
  home_by n e y goes at here near (inr m) = inr (a m.0, g.aliens n.sender ∙ ap (option_map a) m.1, (g.same n.sender m.0 m.1).number ∙ m.2)

  home_at : (n : Name) (y : Exchange) → l.exchanges n ≡ Some y → y.target.host ≡ host → is_at_target y.stage ≡ true →
      ((e : Exchange) × (k.exchanges n ≡ Some e) × Goes e y) ⊎ IsHome host u n y → IsHome host u n y
  home_at n y at here near (inl e) =
      home_by n e.0 y e.2 at here near (h.home n e.0 e.1 (sym (ap (λ (p : Pid). p.host) e.2.target) ∙ here) (e.2.near near))
  home_at n y at here near (inr m) = m

  pub view_turned : StandsView host u l
  view_turned = record {
    procs = g.procs;
    elsewhere = λ pid p away at. h.elsewhere pid p away (sym (g.far pid away) ∙ at);
    kept = λ sender y at.
        let x = mapped_is a (alien_from t.slots sender) y (sym (g.aliens sender) ∙ at) in
        subst (IsAlienKept l) x.2 (kept_by sender x.0 x.1 (h.kept sender x.0 x.1));
    waiting = λ pid y w at blocked.
        let s = mapped_is f (seat_in t.seats pid) y (sym (g.seats pid) ∙ at) in
        subst (λ z. IsWaiting l z w) s.2 (g.waits pid s.0 w s.1 (ap (λ (z : Seat). z.doing) s.2 ∙ blocked));
    home = λ n y at here near. home_at n y at here near (g.back n y at);
  }

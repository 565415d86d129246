-- One process of the station changes, and with it at most its own Sends and lookups.
use Rattle.std.proofs.Common.{◌≡◌, ◌⊎◌, ◌≤◌, ℕ, Bool, true, false, ◌&&◌, ◌==◌, Option, Some, None, refl, sym, ap, subst, ◌∙◌, inl, inr}
use Rattle.std.specs.Option.{option_map}
use Rattle.std.proofs.lemmas.Bool.{cases_Bool, eq-eqb, false_from_ne_true}
use Rattle.std.proofs.lemmas.Option.{same_Some}
use Rattle.vk_types.specs.Types.{Exchange, Name, Pid, Process, Waiting}
use Rattle.vk_base.specs.declared.activity.Activity.TheVariants as activities
use Rattle.vk_base.specs.declared.activity.Waiting.TheVariants as waitings
use Rattle.vk_base.specs.Counts.{sends_of}
use Rattle.vk_base.specs.Firsts.{change_first}
use Rattle.vk_base.specs.Kernel.{Kernel, is_at_target, is_live, name_of, put_process, same_name}
use Rattle.vk_base.specs.Pids.{same_host, same_pid}
use Rattle.v_laws.proofs.Tables.{same_pid_is, put_process_at, put_process_other}
use Rattle.vk_pool.specs.declared.alien.Alien.{Alien}
use Rattle.vk_pool.specs.Aliens.{alien_from}
use Rattle.vk_procs.specs.declared.seat.Seat.{Seat}
use Rattle.vk_procs.specs.Seats.{is_seat, process_of, seat_in}
use Rattle.vk_stands.specs.Fit.{AreFit}
use Rattle.vk_stands.specs.Stands.{IsAsking, IsHome, IsAlienKept, IsSender, IsWaiting}
use Rattle.vk_stands.specs.Tables.{Tables, alien_name, seat_name, seat_spot, spot_of}
use Rattle.vk_stands.proofs.Found.{alien_found, seat_found}
use Rattle.vk_stands.proofs.Seats.{find-changed, find-unchanged}
use Rattle.vk_stands.proofs.Views.{Goes, StandsView}
use Rattle.vk_stands.proofs.Waits.{IsSameSeat, local_stage, waiting_kept, waiting_same}

pub same_map : {A : Type 0} (o : Option A) → o ≡ option_map (λ x. x) o
same_map None = refl
same_map (Some x) = refl

abbrev pub seated : Tables → Pid → (Seat → Seat) → Tables
seated t pid f = record t { seats = change_first (is_seat pid) f t.seats }

module _ (t : Tables) (pid : Pid) (f : Seat → Seat) (keeps : (x : Seat) → (f x).pid ≡ x.pid) where
  pub seated_here : (s : Seat) → seat_in t.seats pid ≡ Some s → seat_in (seated t pid f).seats pid ≡ Some (f s)
  seated_here s found = find-changed pid f keeps t.seats ∙ ap (option_map f) found

  pub seated_other : (q : Pid) → same_pid q pid ≡ false → seat_in (seated t pid f).seats q ≡ seat_in t.seats q
  seated_other q other = find-unchanged pid f keeps q t.seats other

-- the kernel has a process as it was
pub same_put : (procs : Pid → Option Process) (pid : Pid) (p : Process) (q : Pid) → procs pid ≡ Some p → procs q ≡ put_process procs pid p q
same_put procs pid p q at = elim (cases_Bool (same_pid q pid)) [
  | inl same ↦ ap procs (same_pid_is q pid same) ∙ at ∙ sym (put_process_at procs pid p q same)
  | inr other ↦ sym (put_process_other procs pid p q other)
]

-- A process of the station waits in each of its Sends that is at its target here.
module _ (host : ℕ) (t : Tables) (k : Kernel) (fit : AreFit host t) (h : StandsView host t k) (pid : Pid) (own : pid.host ≡ host)
    (s : Seat) (found : seat_in t.seats pid ≡ Some s) where
  sender_by : (n : Name) (e : Exchange) → same_pid n.sender pid ≡ true → IsHome host t n e → IsSender n e s
  sender_by n e same (inl m) = subst (IsSender n e)
      (same_Some m.1.0 s (sym m.1.1 ∙ ap (seat_in t.seats) (same_pid_is n.sender pid same) ∙ found)) m.1.2
  sender_by n e same (inr a) =
      let place = alien_found t.slots n.sender a.0 a.1 in
      absurd ((fit.aliens place.at a.0 place.here).foreign
      (ap (λ (p : Pid). p.host) (place.from ∙ same_pid_is n.sender pid same) ∙ own))

  pub own_sender : (n : Name) (e : Exchange) → same_pid n.sender pid ≡ true → k.exchanges n ≡ Some e → e.target.host ≡ host →
      is_at_target e.stage ≡ true → IsSender n e s
  own_sender n e same at here near = sender_by n e same (h.home n e at here near)

  -- where it is ready there is none
  pub ready_sender : s.doing ≡ activities.Ready → (n : Name) (e : Exchange) → same_pid n.sender pid ≡ true → k.exchanges n ≡ Some e →
      e.target.host ≡ host → is_at_target e.stage ≡ true → ⊥
  ready_sender ready n e same at here near =
      let both : activities.Ready ≡ activities.Blocked (waitings.Send e.target e.message) =
      sym ready ∙ (own_sender n e same at here near).waits in cc

-- The process s becomes y, and the kernel has it so.
pub record ChangesSeat (k l : Kernel) (pid : Pid) (s y : Seat) : Type 0 where
  pub procs : (q : Pid) → l.procs q ≡ put_process k.procs pid (process_of y) q
  -- its own Sends and lookups may be other ones, and new ones; those of others are as they were
  pub sends : (n : Name) → same_pid n.sender pid ≡ false → l.exchanges n ≡ k.exchanges n
  pub lookups : (asker : Pid) (number : ℕ) → same_pid asker pid ≡ false → l.lookups asker number ≡ k.lookups asker number
  pub dead : s.alive ≡ false → y.alive ≡ false
  -- the view has what it waits in
  pub waits : (w : Waiting) → y.doing ≡ activities.Blocked w → IsWaiting l y w
  -- and it waits in each of its Sends that is at its target here
  pub home : (n : Name) (e : Exchange) → same_pid n.sender pid ≡ true → l.exchanges n ≡ Some e → e.target.host ≡ pid.host →
      is_at_target e.stage ≡ true → IsSender n e y

module _ (host : ℕ) (t : Tables) (k l : Kernel) (fit : AreFit host t) (h : StandsView host t k) (pid : Pid) (own : pid.host ≡ host)
    (s : Seat) (found : seat_in t.seats pid ≡ Some s) (f : Seat → Seat) (keeps : (x : Seat) → (f x).pid ≡ x.pid)
    (g : ChangesSeat k l pid s (f s)) where
  abbrev u : Tables
  u = seated t pid f

  here : seat_in u.seats pid ≡ Some (f s)
  here = seated_here t pid f keeps s found

  other : (q : Pid) → same_pid q pid ≡ false → seat_in u.seats q ≡ seat_in t.seats q
  other q apart = seated_other t pid f keeps q apart

  procs_by : (q : Pid) (b : Bool) → same_pid q pid ≡ b → q.host ≡ host → l.procs q ≡ option_map process_of (seat_in u.seats q)
  procs_by q true same near =
      g.procs q ∙ put_process_at k.procs pid (process_of (f s)) q same
      ∙ sym (ap (λ p. option_map process_of (seat_in u.seats p)) (same_pid_is q pid same) ∙ ap (option_map process_of) here)
  procs_by q false apart near =
      g.procs q ∙ put_process_other k.procs pid (process_of (f s)) q apart ∙ h.procs q near
      ∙ sym (ap (option_map process_of) (other q apart))

  apart : (q : Pid) → (q.host ≡ host → ⊥) → same_pid q pid ≡ false
  apart q away = false_from_ne_true (same_pid q pid) (λ same. away (ap (λ (p : Pid). p.host) (same_pid_is q pid same) ∙ own))

  far : (q : Pid) → (q.host ≡ host → ⊥) → l.procs q ≡ k.procs q
  far q away = g.procs q ∙ put_process_other k.procs pid (process_of (f s)) q (apart q away)

  dead_by : (q : Pid) (b : Bool) → same_pid q pid ≡ b → is_live (k.procs q) ≡ false → is_live (l.procs q) ≡ false
  dead_by q true same dead =
      let was : k.procs q ≡ Some (process_of s) =
      ap k.procs (same_pid_is q pid same) ∙ h.procs pid own ∙ ap (option_map process_of) found in
      ap is_live (g.procs q ∙ put_process_at k.procs pid (process_of (f s)) q same) ∙ g.dead (sym (ap is_live was) ∙ dead)
  dead_by q false apart dead = ap is_live (g.procs q ∙ put_process_other k.procs pid (process_of (f s)) q apart) ∙ dead

  kept : (sender : Pid) (a : Alien) → alien_from t.slots sender ≡ Some a → IsAlienKept l a
  kept sender a at =
      let v = h.kept sender a at in
      let place = alien_found t.slots sender a at in
      let away : a.sender.host ≡ host → ⊥ = (fit.aliens place.at a place.here).foreign in
      record {
        exchange = v.exchange;
        is = g.sends (alien_name a) (apart a.sender away) ∙ v.is;
        target = v.target;
        message = v.message;
        part = v.part;
        spot = v.spot;
        stage = v.stage;
        moves = v.moves;
        made = subst (λ o. a.number ≤ sends_of o) (sym (far a.sender away)) v.made;
        refused = λ closed is. dead_by a.at (same_pid a.at pid) refl (v.refused closed is);
      }

  asking : (z : Seat) → same_pid z.pid pid ≡ false → (logical : ℕ) → IsAsking k z logical → IsAsking l z logical
  asking z apart logical v =
      record { lookup = v.lookup; is = g.lookups z.pid z.note.lookups apart ∙ v.is; logical_is = v.logical_is }

  waits_by : (q : Pid) (z : Seat) (w : Waiting) (b : Bool) → same_pid q pid ≡ b → seat_in u.seats q ≡ Some z →
      z.doing ≡ activities.Blocked w → IsWaiting l z w
  waits_by q z w true same at blocked =
      let one : f s ≡ z = same_Some (f s) z (sym here ∙ ap (seat_in u.seats) (sym (same_pid_is q pid same)) ∙ at) in
      subst (λ x. IsWaiting l x w) one (g.waits w (ap (λ (x : Seat). x.doing) one ∙ blocked))
  waits_by q z w false away at blocked =
      let was : seat_in t.seats q ≡ Some z = sym (other q away) ∙ at in
      let place = seat_found t.seats q z was in
      let fits = fit.seats place.at z place.here in
      let not_it : same_pid z.pid pid ≡ false = ap (λ p. same_pid p pid) place.named ∙ away in
      waiting_same k l z (g.sends (seat_name z) not_it) (asking z not_it)
      (λ n far. g.sends n (apart n.sender (λ near. far (near ∙ sym fits.own)))) w (fits.waits w blocked) (h.waiting q z w was blocked)

  home_by : (n : Name) (e : Exchange) (b : Bool) → same_pid n.sender pid ≡ b → l.exchanges n ≡ Some e → e.target.host ≡ host →
      is_at_target e.stage ≡ true → IsHome host u n e
  home_by n e true same at there near = inl (
    ap (λ (p : Pid). p.host) (same_pid_is n.sender pid same) ∙ own,
    (f s, ap (seat_in u.seats) (same_pid_is n.sender pid same) ∙ here, g.home n e same at (there ∙ sym own) near),
  )
  home_by n e false away at there near = still (h.home n e (sym (g.sends n away) ∙ at) there near)
    where
      still : IsHome host t n e → IsHome host u n e
      still (inl m) = inl (m.0, (m.1.0, other n.sender away ∙ m.1.1, m.1.2))
      still (inr a) = inr a

  pub view_changed : StandsView host u l
  view_changed = record {
    procs = λ q near. procs_by q (same_pid q pid) refl near;
    elsewhere = λ q p away at. h.elsewhere q p away (sym (far q away) ∙ at);
    kept = kept;
    waiting = λ q z w at blocked. waits_by q z w (same_pid q pid) refl at blocked;
    home = λ n e at there near. home_by n e (same_pid n.sender pid) refl at there near;
  }

-- No Send of it is new, and it may wait in what it waited in before.
pub record ChangesOne (k l : Kernel) (pid : Pid) (s y : Seat) : Type 0 where
  pub procs : (q : Pid) → l.procs q ≡ put_process k.procs pid (process_of y) q
  pub others : (n : Name) → same_name n (seat_name s) ≡ false → l.exchanges n ≡ k.exchanges n
  pub forth : (n : Name) (e : Exchange) → k.exchanges n ≡ Some e → (x : Exchange) × (l.exchanges n ≡ Some x) × Goes e x
  pub back : (n : Name) (x : Exchange) → l.exchanges n ≡ Some x → (e : Exchange) × (k.exchanges n ≡ Some e) × Goes e x
  pub lookups : (asker : Pid) (number : ℕ) → l.lookups asker number ≡ k.lookups asker number
  pub same : IsSameSeat s y
  -- where it waits in a local Send, its note tells how far that is
  pub stage : (target : Pid) (e x : Exchange) → k.exchanges (seat_name s) ≡ Some e → l.exchanges (seat_name s) ≡ Some x →
      same_host s.pid target ≡ true → y.doing ≡ s.doing → e.stage ≡ local_stage s → x.stage ≡ local_stage y
  -- and where its message is, and what is shown there
  pub spot : (e x : Exchange) → k.exchanges (seat_name s) ≡ Some e → l.exchanges (seat_name s) ≡ Some x → spot_of e ≡ seat_spot s →
      spot_of x ≡ seat_spot y
  pub dead : s.alive ≡ false → y.alive ≡ false
  -- what it waits in it waited in before, or the view has it
  pub waits : (w : Waiting) → y.doing ≡ activities.Blocked w → (s.doing ≡ activities.Blocked w) ⊎ IsWaiting l y w
  -- it still waits in a local Send that is at its target
  pub sends : (e : Exchange) → l.exchanges (seat_name s) ≡ Some e → same_host s.pid e.target ≡ true → is_at_target e.stage ≡ true →
      s.doing ≡ activities.Blocked (waitings.Send e.target e.message) → y.doing ≡ s.doing

module _ (host : ℕ) (t : Tables) (k l : Kernel) (fit : AreFit host t) (h : StandsView host t k) (pid : Pid) (own : pid.host ≡ host)
    (s : Seat) (found : seat_in t.seats pid ≡ Some s) (f : Seat → Seat) (keeps : (x : Seat) → (f x).pid ≡ x.pid)
    (g : ChangesOne k l pid s (f s)) where
  named : s.pid ≡ pid
  named = (seat_found t.seats pid s found).named

  waits_in : (w : Waiting) → (f s).doing ≡ activities.Blocked w → (s.doing ≡ activities.Blocked w) ⊎ IsWaiting l (f s) w →
      IsWaiting l (f s) w
  waits_in w now (inl before) =
      waiting_kept k l g.forth g.lookups s (f s) g.same
      (λ target e x at there local stage. g.stage target e x at there local (now ∙ sym before) stage) g.spot w
      (h.waiting pid s w found before)
  waits_in w now (inr is) = is

  home_of : (n : Name) (x : Exchange) → same_pid n.sender pid ≡ true → l.exchanges n ≡ Some x → x.target.host ≡ host →
      is_at_target x.stage ≡ true → IsSender n x (f s)
  home_of n x same at here near =
      let e = g.back n x at in
      let was = own_sender host t k fit h pid own s found n e.0 same e.1 (ap (λ (p : Pid). p.host) (sym e.2.target) ∙ here)
      (e.2.near near) in
      let waits : s.doing ≡ activities.Blocked (waitings.Send x.target x.message) =
      was.waits ∙ (λ i. activities.Blocked (waitings.Send (sym e.2.target i) (sym e.2.message i))) in
      let name : n ≡ seat_name s = (λ i. name_of (same_pid_is n.sender pid same i) (sym was.last i))
      ∙ (λ i. name_of (sym named i) s.note.sends) in
      record {
        waits = g.sends x (sym (ap l.exchanges name) ∙ at)
            (eq-eqb s.pid.host x.target.host (ap (λ (p : Pid). p.host) named ∙ own ∙ sym here)) near waits ∙ waits;
        last = g.same.sends ∙ was.last;
      }

  pub view_seated : StandsView host (seated t pid f) l
  view_seated = view_changed host t k l fit h pid own s found f keeps (record {
    procs = g.procs;
    sends = λ n other. g.others n (ap (λ b. b && n.number == s.note.sends) (ap (same_pid n.sender) named ∙ other));
    lookups = λ asker number other. g.lookups asker number;
    dead = g.dead;
    waits = λ w now. waits_in w now (g.waits w now);
    home = λ n x same at there near. home_of n x same at (there ∙ own) near;
  })

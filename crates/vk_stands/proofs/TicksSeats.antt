-- The view after a tick of all processes, and that the processes fit.
use Rattle.std.proofs.Common.{◌≡◌, ◌⊎◌, ◌≤◌, ◌<◌, ℕ, zero, suc, Bool, true, false, ◌==◌, not, List, [], ◌∷◌, length, map, refl, ap, sym, ◌∙◌, subst, Option, Some, None, inl, inr}
use Rattle.std.specs.List.{position, slice_get}
use Rattle.std.specs.Option.{option_map, option_or}
use Rattle.std.proofs.lemmas.Bool.{both_ways, eq-eqb, eqb-true}
use Rattle.std.proofs.lemmas.List.{length-map}
use Rattle.std.proofs.lemmas.Option.{none-some, same_Some}
use Rattle.vk_types.specs.Types.{Exchange, Message, Pid, Times, Waiting}
use Rattle.vk_base.specs.declared.activity.Activity.TheVariants as activities
use Rattle.vk_base.specs.declared.activity.Waiting.TheVariants as waitings
use Rattle.vk_base.specs.declared.limits.TheConstants.{MOVE_BYTES, SEGMENT_BYTES}
use Rattle.vk_base.specs.Kernel.{Kernel, is_live}
use Rattle.vk_base.specs.Pids.{same_pid, same_host}
use Rattle.vk_pool.specs.Aliens.{alien_from}
use Rattle.vk_pool.proofs.Shown.{position-mapped}
use Rattle.vk_procs.specs.declared.seat.Seat.{Seat}
use Rattle.vk_procs.specs.Seats.{is_seat, process_of, seat_in}
use Rattle.vk_stands.specs.Fit.{AreFit, IsFitSeat, may_wait}
use Rattle.vk_stands.specs.Stands.{IsSender, IsWaiting}
use Rattle.vk_stands.specs.Tables.{Spot, Tables, is_work, spot_of}
use Rattle.vk_stands.specs.Ticks.{ticked_seat, unanswered}
use Rattle.vk_stands.proofs.FitSeats.{move_note}
use Rattle.vk_stands.proofs.Found.{seat_found}
use Rattle.vk_stands.proofs.OneSeat.{same_map}
use Rattle.vk_stands.proofs.TicksAll.{IsWorkOver, IsSeatTicked, seat_ticked, ticked_procs, ticked_seats}
use Rattle.vk_stands.proofs.TicksView.{peopled}
use Rattle.vk_stands.proofs.Views.{StandsView, Turns, goes_self, same_alien, view_turned}
use Rattle.vk_stands.proofs.Waits.{stage_of_local, waiting_kept}
use Rattle.vk_stands.proofs.MoverLeft.{same_wait}

-- what stands at a place of a mapped list
pub record IsMapped {X Y : Type 0} (f : X → Y) (xs : List X) (i : ℕ) (y : Y) : Type 0 where
  pub old : X
  pub was : slice_get xs i ≡ Some old
  pub is : f old ≡ y

pub got_mapped : {X Y : Type 0} (f : X → Y) (xs : List X) (i : ℕ) (y : Y) → slice_get (map f xs) i ≡ Some y → IsMapped f xs i y
got_mapped f [] i y at = absurd (none-some y at)
got_mapped f (x ∷ xs) zero y at = record { old = x; was = refl; is = same_Some (f x) y at }
got_mapped f (x ∷ xs) (suc i) y at = let m = got_mapped f xs i y at in record { old = m.old; was = m.was; is = m.is }

pub get_mapped : {X Y : Type 0} (f : X → Y) (xs : List X) (i : ℕ) → slice_get (map f xs) i ≡ option_map f (slice_get xs i)
get_mapped f [] i = refl
get_mapped f (x ∷ xs) zero = refl
get_mapped f (x ∷ xs) (suc i) = get_mapped f xs i

-- a process that has ticked and waits in something waited in it before
pub waited : (s y : Seat) (w : Waiting) → (y.doing ≡ s.doing) ⊎ IsWorkOver s y → y.doing ≡ activities.Blocked w →
    s.doing ≡ activities.Blocked w
waited s y w (inl same) is = sym same ∙ is
waited s y w (inr over) is =
    let both : activities.Done over.waiting (unanswered over.waiting) ≡ activities.Blocked w = sym over.now ∙ is in absurd (cc)

local_near : (host : ℕ) (s : Seat) (target : Pid) (m : Message) → s.pid.host ≡ host → target.host ≡ host →
    s.doing ≡ activities.Blocked (waitings.Send target m) → (w : Waiting) → s.doing ≡ activities.Blocked w → is_work s.pid w ≡ false
local_near host s target m own here is w waits =
    ap (is_work s.pid) (sym (same_wait (waitings.Send target m) w (sym is ∙ waits)))
    ∙ ap not (eq-eqb s.pid.host target.host (own ∙ sym here))

-- A process fits then.
pub fit_ticked : (host : ℕ) (s y : Seat) → IsSeatTicked s y → IsFitSeat host s → IsFitSeat host y
fit_ticked host s y is fit = record {
  own = ap (λ (p : Pid). p.host) is.pid ∙ fit.own;
  waits = λ w blocked. (λ i. may_wait (is.pid i) (length (is.memory i)) w) ∙ fit.waits w (waited s y w is.doing blocked);
  moves = λ w blocked. move_note s.note y.note w is.moving is.offset ∙ fit.moves w (waited s y w is.doing blocked);
  done = subst (λ n. n ≤ MOVE_BYTES) (sym is.done) fit.done;
  part = λ target m blocked. ap (λ bytes. length bytes) is.part ∙ fit.part target m (waited s y
      (waitings.Send target m) is.doing blocked);
  few = subst (λ bytes. length bytes ≤ SEGMENT_BYTES) (sym is.part) fit.few;
  away = λ target m blocked far. ap (λ (z : Spot). z.at) is.spot
      ∙ fit.away target m (waited s y (waitings.Send target m) is.doing blocked) (ap (λ p. same_host p target) (sym is.pid) ∙ far);
  begun = λ target m blocked. subst (λ n. 0 < n) (sym is.sends) (fit.begun target m (waited s y
      (waitings.Send target m) is.doing blocked));
  asked = λ logical scope blocked. subst (λ n. 0 < n) (sym is.lookups) (fit.asked logical scope
      (waited s y (waitings.GetPid logical scope) is.doing blocked));
}

module _ (times : Times) (now host : ℕ) (t : Tables) (fit : AreFit host t) where
  abbrev f : Seat → Seat
  f = ticked_seat times now

  abbrev pub all_ticked : Tables
  all_ticked = record t { seats = map f t.seats }

  same_place : (pid : Pid) → position (is_seat pid) (map f t.seats) ≡ position (is_seat pid) t.seats
  same_place pid = sym (position-mapped (is_seat pid) (is_seat pid) f (λ s. ap (λ p. same_pid p pid) (sym
      (seat_ticked times now s).pid)) t.seats)

  pub position_ticked : (pid : Pid) → position (is_seat pid) all_ticked.seats ≡ position (is_seat pid) t.seats
  position_ticked pid = same_place pid

  pub fit_all : AreFit host all_ticked
  fit_all = record {
    few = subst (λ n. n ≤ 32) (sym (length-map t.seats f)) fit.few;
    lists = fit.lists;
    pool = fit.pool;
    places = λ i y at.
        let m = got_mapped f t.seats i y at in
        ap (λ (z : Seat). position (is_seat z.pid) (map f t.seats)) (sym m.is) ∙ same_place (f m.old).pid
        ∙ ap (λ p. position (is_seat p) t.seats) (seat_ticked times now m.old).pid ∙ fit.places i m.old m.was;
    seats = λ i y at.
        let m = got_mapped f t.seats i y at in
        subst (IsFitSeat host) m.is (fit_ticked host m.old (f m.old) (seat_ticked times now m.old) (fit.seats i m.old m.was));
    apart = fit.apart;
    aliens = fit.aliens;
  }

  module _ (k : Kernel) (h : StandsView host t k) where
    abbrev pub ticked_view : Kernel
    ticked_view = peopled k (ticked_procs times now t.seats k.procs)

    procs_by : (pid : Pid) (o : Option Seat) → pid.host ≡ host → seat_in t.seats pid ≡ o →
        ticked_view.procs pid ≡ option_map process_of (seat_in all_ticked.seats pid)
    procs_by pid None own none =
        let gone : seat_in (map f t.seats) pid ≡ None = ticked_seats times now t.seats pid ∙ ap (option_map f) none in
        ap (λ o. option_or (option_map process_of o) (k.procs pid)) gone
        ∙ h.procs pid own ∙ ap (option_map process_of) none ∙ sym (ap (option_map process_of) gone)
    procs_by pid (Some s) own some =
        let there : seat_in (map f t.seats) pid ≡ Some (f s) = ticked_seats times now t.seats pid ∙ ap (option_map f) some in
        ap (λ o. option_or (option_map process_of o) (k.procs pid)) there ∙ sym (ap (option_map process_of) there)

    far_by : (pid : Pid) (o : Option Seat) → (pid.host ≡ host → ⊥) → seat_in t.seats pid ≡ o → ticked_view.procs pid ≡ k.procs pid
    far_by pid None away none =
        ap (λ o. option_or (option_map process_of o) (k.procs pid)) (ticked_seats times now t.seats pid ∙ ap (option_map f) none)
    far_by pid (Some s) away some =
        let at = seat_found t.seats pid s some in
        absurd (away (ap (λ (p : Pid). p.host) (sym at.named) ∙ (fit.seats at.at s at.here).own))

    waits_by : (pid : Pid) (s : Seat) (w : Waiting) → seat_in t.seats pid ≡ Some s → (f s).doing ≡ activities.Blocked w →
        IsWaiting ticked_view (f s) w
    waits_by pid s w found blocked =
        let is = seat_ticked times now s in
        waiting_kept k ticked_view (λ n e at. (e, at, goes_self e)) (λ asker number. refl) s (f s) (record {
          pid = is.pid;
          part = is.part;
          sends = is.sends;
          lookups = is.lookups;
          moving = is.moving;
          opened = is.opened;
          done = is.done;
        }) (λ target e x at there local stage.
        ap (λ (a : Exchange). a.stage) (same_Some x e (sym there ∙ at)) ∙ stage ∙ ap stage_of_local (sym is.taken))
        (λ e x at there spot. ap spot_of (same_Some x e (sym there ∙ at)) ∙ spot ∙ sym is.spot)
        w (h.waiting pid s w found (waited s (f s) w is.doing blocked))

    dead_by : (pid : Pid) (o : Option Seat) → pid.host ≡ host → seat_in t.seats pid ≡ o → is_live (k.procs pid) ≡ false →
        is_live (ticked_view.procs pid) ≡ false
    dead_by pid None own none dead =
        ap is_live (procs_by pid None own none ∙ ap (option_map process_of) (ticked_seats times now t.seats pid ∙ ap (option_map f) none))
    dead_by pid (Some s) own some dead =
        ap is_live (procs_by pid (Some s) own some ∙ ap (option_map process_of) (ticked_seats times now t.seats pid ∙ ap
        (option_map f) some))
        ∙ (seat_ticked times now s).alive ∙ sym (ap is_live (h.procs pid own ∙ ap (option_map process_of) some)) ∙ dead

    dead_any : (pid : Pid) (b : Bool) → (pid.host == host) ≡ b → is_live (k.procs pid) ≡ false → is_live (ticked_view.procs pid) ≡ false
    dead_any pid true own dead = dead_by pid (seat_in t.seats pid) (eqb-true pid.host host own) refl dead
    dead_any pid false away dead =
        ap is_live (far_by pid (seat_in t.seats pid) (λ own. both_ways (pid.host == host) away (eq-eqb pid.host host own)) refl) ∙ dead

    turned : Turns host t all_ticked k ticked_view f (λ x. x)
    turned = record {
      seats = λ pid. ticked_seats times now t.seats pid;
      aliens = λ sender. same_map (alien_from t.slots sender);
      procs = λ pid own. procs_by pid (seat_in t.seats pid) own refl;
      far = λ pid away. far_by pid (seat_in t.seats pid) away refl;
      forth = λ n e at. (e, at, goes_self e);
      back = λ n e at. inl (e, at, goes_self e);
      waits = waits_by;
      still = λ n s y found at here near sender.
          let place = seat_found t.seats n.sender s found in
          let own : s.pid.host ≡ host = (fit.seats place.at s place.here).own in
          subst (IsSender n y) (sym ((seat_ticked times now s).near (local_near host s y.target y.message own here sender.waits))) sender;
      same = λ sender x at. same_alien x;
      stages = λ sender x e y here at there stage. ap (λ (a : Exchange). a.stage) (same_Some y e (sym there ∙ at)) ∙ stage;
      spots = λ sender x e y here at there spot. ap spot_of (same_Some y e (sym there ∙ at)) ∙ spot;
      refused = λ sender x closed at is. dead_any x.at (x.at.host == host) refl ((h.kept sender x at).refused closed is);
    }

    pub view_ticked : StandsView host all_ticked ticked_view
    view_ticked = view_turned host t all_ticked k ticked_view f (λ x. x) fit h turned

-- The message of a process of the station is handed on to another one.
use Rattle.std.proofs.Common.{◌≡◌, ℕ, Some, refl, sym, ap, subst, ◌∙◌, inl, true}
use Rattle.std.specs.List.{position}
use Rattle.std.specs.Option.{option_map}
use Rattle.std.proofs.lemmas.Bool.{both_ways}
use Rattle.std.proofs.lemmas.Option.{same_Some}
use Rattle.vk_types.specs.Types.{Exchange, Message, Pid}
use Rattle.vk_base.specs.declared.activity.Activity.TheVariants as activities
use Rattle.vk_base.specs.declared.activity.Waiting.TheVariants as waitings
use Rattle.vk_base.specs.declared.answer.Answer.TheVariants as answers
use Rattle.vk_base.specs.declared.call.Call.TheVariants as calls
use Rattle.vk_base.specs.declared.step.Step.TheVariants as steps
use Rattle.vk_base.specs.Calls.{answered, forwarded}
use Rattle.vk_base.specs.Kernel.{Kernel, is_taken}
use Rattle.vk_base.specs.Pids.{same_host}
use Rattle.vk_base.specs.Steps.{effect}
use Rattle.v_laws.proofs.SoundLemmas.{sound_step}
use Rattle.vk_procs.specs.declared.seat.Seat.{Seat}
use Rattle.vk_procs.specs.Seats.{handed_on, is_seat, process_of, seat_in}
use Rattle.vk_stands.specs.Fit.{AreFit, IsFitSeat}
use Rattle.vk_stands.specs.Tables.{Tables, seat_name, spot_of}
use Rattle.vk_stands.proofs.FitSeats.{fit_note}
use Rattle.vk_stands.proofs.Fits.{fit_seated, slot_kept}
use Rattle.vk_stands.proofs.HandedOn.{fit_handed, handed_back, handed_forth, handed_is, handed_lookups, handed_names, handed_others, handed_procs, queues_handed}
use Rattle.vk_stands.proofs.Listed.{place_name}
use Rattle.vk_stands.proofs.OneSeat.{ChangesOne, same_put, seated, view_seated}
use Rattle.vk_stands.proofs.Parts.{Carries, Part, carries_seated, same_more}
use Rattle.vk_stands.proofs.Seats.{position-changed}
use Rattle.vk_stands.proofs.SentQueues.{last_in}
use Rattle.vk_stands.proofs.Views.{StandsView, view_listed}

module _ (host : ℕ) (t : Tables) (k : Kernel) (part : Part host t k) (from : Pid) (own : from.host ≡ host) (s : Seat)
    (found : seat_in t.seats from ≡ Some s) (target : Pid) (message : Message)
    (waits : s.doing ≡ activities.Blocked (waitings.Send target message)) (near : same_host s.pid target ≡ true) (e : Exchange)
    (at : k.exchanges (seat_name s) ≡ Some e) (taken : is_taken e.stage ≡ true) (m : Message) (to : Pid) (slot place : ℕ)
    (here : position (is_seat from) t.seats ≡ Some slot) (there : position (is_seat to) t.seats ≡ Some place) where
  abbrev f : Seat → Seat
  f = handed_on m to

  abbrev pub handed_kernel : Kernel
  handed_kernel = forwarded k (seat_name s) e m to

  abbrev l : Kernel
  l = handed_kernel

  abbrev pub handed_tables : Tables
  handed_tables = record (seated t from f) { lists = last_in t.lists place slot }

  changes : ChangesOne k l from s (f s)
  changes = record {
    procs = λ q. handed_procs k (seat_name s) e at taken m to q
        ∙ same_put k.procs from (process_of s) q (part.view.procs from own ∙ ap (option_map process_of) found);
    others = handed_others k (seat_name s) e at taken m to;
    forth = handed_forth k (seat_name s) e at taken m to;
    back = handed_back k (seat_name s) e at taken m to;
    lookups = handed_lookups k (seat_name s) e at taken m to;
    same = record { pid = refl; part = refl; sends = refl; lookups = refl; moving = refl; opened = refl; done = refl };
    stage = λ target x y is now local doing stage. ap (λ (z : Exchange). z.stage) (handed_is k (seat_name s) e at taken m to y now);
    spot = λ x y is now spot. ap spot_of (handed_is k (seat_name s) e at taken m to y now);
    dead = λ dead. dead;
    waits = λ w blocked. inl blocked;
    sends = λ x is local near blocked. refl;
  }

  fits : IsFitSeat host s → IsFitSeat host (f s)
  fits h = record {
    own = h.own;
    waits = h.waits;
    moves = (fit_note host s (f s).note (record { moving = refl; offset = refl; done = refl; sends = refl; lookups = refl }) h).moves;
    done = h.done;
    part = h.part;
    few = h.few;
    away = λ other text is far.
        let both : activities.Blocked (waitings.Send target message) ≡ activities.Blocked (waitings.Send other text) = sym waits ∙ is in
        let same : target ≡ other = cc in
        absurd (both_ways (same_host s.pid target) (ap (same_host s.pid) same ∙ far) near);
    begun = h.begun;
    asked = h.asked;
  }

  fit : AreFit host (seated t from f)
  fit = fit_seated host t part.fit from f (λ z. refl)
      (λ z is. subst (λ a. IsFitSeat host a → IsFitSeat host (f a)) (same_Some s z (sym found ∙ is)) fits)

  view : StandsView host (seated t from f) l
  view = view_seated host t k l part.fit part.view from own s found f (λ z. refl) changes

  pub part_handed : (pid : Pid) → effect k (steps.Call pid (calls.Forward m from to))
      ≡ Some (answered l pid (calls.Forward m from to) answers.Ok) → Part host handed_tables l
  part_handed pid does = record {
    fit = fit_handed host t k part (seat_name s) e at taken m to s slot place (place_name host t part.fit from s slot here found) there
        (seated t from f)
        (λ q. position-changed (is_seat from) f (is_seat q) (λ z. refl) t.seats) (slot_kept t from f (λ z. refl)) fit;
    view = view_listed (last_in t.lists place slot) view;
    sound = sound_step k (steps.Call pid (calls.Forward m from to)) (answered l pid (calls.Forward m from to) answers.Ok) part.sound does;
    names = handed_names k (seat_name s) e at taken m to host ∙ part.names;
    unknown = λ g away. handed_names k (seat_name s) e at taken m to g ∙ part.unknown g away;
    queues = queues_handed host t k part (seat_name s) e at taken m to s slot place (place_name host t part.fit from s slot here found)
        there (seated t from f)
        (λ q. position-changed (is_seat from) f (is_seat q) (λ z. refl) t.seats) (slot_kept t from f (λ z. refl));
  }

  pub handed_carries : Carries 0 t handed_tables
  handed_carries =
      let c : Carries 0 t (seated t from f) = carries_seated 0 t from s found f (λ z. refl) (same_more 0 s.note.sends)
      (same_more 0 s.note.lookups)
      (λ w blocked work. (blocked, record { work = refl; offset = refl; fresh = refl })) in
      record { seats = c.seats; aliens = c.aliens }

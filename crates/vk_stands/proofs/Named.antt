-- A name is registered: only the station's names change.
use Rattle.std.proofs.Common.{◌≡◌, ℕ, ◌==◌, false, List, refl, sym, ap, ◌∙◌, inl}
use Rattle.std.proofs.lemmas.Bool.{cond-false, cond-true, eq-eqb, ne_eqb}
use Rattle.std.proofs.lemmas.Option.{same_Some}
use Rattle.vk_types.specs.Types.{Exchange, Pid, Registration, Scope}
use Rattle.vk_base.specs.Calls.{registered, with_name}
use Rattle.vk_base.specs.Kernel.{Kernel, queue_of}
unfoldable use Rattle.vk_base.specs.Kernel.{put_names}
use Rattle.v_laws.specs.Sound.{IsSoundAt}
use Rattle.vk_pool.specs.Aliens.{alien_from}
use Rattle.vk_procs.specs.Seats.{seat_in}
use Rattle.vk_stands.specs.Stands.{HasOwnNames}
use Rattle.vk_stands.specs.Tables.{Tables, spot_of}
use Rattle.vk_stands.proofs.OneSeat.{same_map}
use Rattle.vk_stands.proofs.Parts.{Carries, Part, same_more}
use Rattle.vk_stands.proofs.Views.{StandsView, goes_self, same_alien, view_turned}
use Rattle.vk_stands.proofs.Waits.{same_seat, waiting_kept}
use Rattle.vk_stands.proofs.Whole.{same_work}

module _ (host : ℕ) (t : Tables) (k : Kernel) (part : Part host t k) (names : List Registration) (all : ℕ → List Registration) where
  abbrev l : Kernel
  l = record k { names = all }

  view_named : StandsView host (record t { names = names }) l
  view_named = view_turned host t (record t { names = names }) k l (λ s. s) (λ a. a) part.fit part.view (record {
    seats = λ q. same_map (seat_in t.seats q);
    aliens = λ q. same_map (alien_from t.slots q);
    procs = part.view.procs;
    far = λ q away. refl;
    forth = λ n e at. (e, at, goes_self e);
    back = λ n y at. inl (y, at, goes_self y);
    waits = λ q s w at blocked. waiting_kept k l (λ n e there. (e, there, goes_self e)) (λ asker number. refl) s s (same_seat s)
        (λ target e z is there local stage. ap (λ (y : Exchange). y.stage) (same_Some z e (sym there ∙ is)) ∙ stage)
        (λ e z is there spot. ap spot_of (same_Some z e (sym there ∙ is)) ∙ spot) w
        (part.view.waiting q s w at blocked);
    still = λ n s y at there here near sender. sender;
    same = λ q x at. same_alien x;
    stages = λ q x e y at is there stage. ap (λ (z : Exchange). z.stage) (same_Some y e (sym there ∙ is)) ∙ stage;
    spots = λ q x e y at is there spot. ap spot_of (same_Some y e (sym there ∙ is)) ∙ spot;
    refused = λ q x closed at is. (part.view.kept q x at).refused closed is;
  })

  pub part_named : all host ≡ names → HasOwnNames host l → IsSoundAt (λ g. false) l → Part host (record t { names = names }) l
  unfolding queue_of
  part_named same unknown sound = record {
    fit = record {
      few = part.fit.few;
      lists = part.fit.lists;
      pool = part.fit.pool;
      places = part.fit.places;
      seats = part.fit.seats;
      apart = part.fit.apart;
      aliens = part.fit.aliens;
    };
    view = view_named;
    sound = sound;
    names = same;
    unknown = unknown;
    queues = part.queues;
  }

  pub named_carries : Carries 0 t (record t { names = names })
  named_carries = record {
    seats = λ q s at. record {
      old = s;
      was = at;
      sends = same_more 0 s.note.sends;
      lookups = same_more 0 s.note.lookups;
      work = λ w blocked is. (blocked, same_work s);
    };
    aliens = λ q a at. (a, at, refl);
  }

pub part_registered : (host : ℕ) (t : Tables) (k : Kernel) → Part host t k → (pid : Pid) → pid.host ≡ host →
    (logical : ℕ) (q : Pid) (scope : Scope) →
    IsSoundAt (λ g. false) (registered k pid logical q scope) →
    Part host (record t { names = with_name t.names (record { logical = logical; pid = q; scope = scope }) })
    (registered k pid logical q scope)
unfolding put_names
part_registered host t k part pid own logical q scope sound =
    let r : Registration = record { logical = logical; pid = q; scope = scope } in
    part_named host t k part (with_name t.names r) (put_names k.names pid.host (with_name (k.names pid.host) r))
    (cond-true (host == pid.host) (with_name (k.names pid.host) r) (k.names host) (eq-eqb host pid.host (sym own))
    ∙ ap (λ ns. with_name ns r) (ap k.names own ∙ part.names))
    (λ g away. cond-false (g == pid.host) (with_name (k.names pid.host) r) (k.names g) (ne_eqb g pid.host (λ is. away (is ∙ own)))
    ∙ part.unknown g away)
    sound

-- Tables still fit where an alien has changed, or a new one has a slot.
use Rattle.std.proofs.Common.{◌≡◌, ◌≢◌, ℕ, ◌≤◌, Bool, true, false, nat_eq, List, length, get_or, set, refl, sym, ap, subst, ◌∙◌, Option, Some, None, arith}
use Rattle.std.specs.List.{position}
use Rattle.std.specs.Option.{option_map, option_map_or}
use Rattle.std.proofs.lemmas.Bool.{both_ways, eqb-true, eq-eqb}
use Rattle.std.proofs.lemmas.List.{get_or-set_same, get_or-set_other, length-set, set-get_or}
use Rattle.std.proofs.lemmas.Option.{same_Some}
use Rattle.vk_types.specs.Types.{Message, Pid}
use Rattle.vk_base.specs.declared.limits.TheConstants.{POOL, SEGMENT_BYTES}
use Rattle.vk_pool.specs.declared.alien.Alien.{Alien}
use Rattle.vk_pool.specs.Aliens.{alien_at, changed_at, forwarded, heard, heard_of, is_alien_from, replied, taken}
use Rattle.vk_stands.specs.Fit.{AreFit, IsFitAlien}
use Rattle.vk_stands.specs.Tables.{Tables}
use Rattle.vk_stands.proofs.Placed.{IsPlace, place_at, put_apart}

module _ (host : ℕ) (t : Tables) (fit : AreFit host t) (i : ℕ) (a : Alien) (place : IsPlace t.slots a.sender i)
    (fits : IsFitAlien host a) where
  alien_by : (j : ℕ) (b : Alien) (same : Bool) → nat_eq j i ≡ same → alien_at (set t.slots i (Some a)) j ≡ Some b → IsFitAlien host b
  alien_by j b true is at =
      let here : alien_at (set t.slots i (Some a)) j ≡ Some a =
      ap (λ n. get_or (set t.slots i (Some a)) n None) (eqb-true j i is) ∙ get_or-set_same t.slots i (Some a) None place.lt in
      subst (IsFitAlien host) (same_Some a b (sym here ∙ at)) fits
  alien_by j b false is at =
      let apart : j ≢ i = λ e. both_ways (nat_eq j i) is (eq-eqb j i e) in
      fit.aliens j b (sym (get_or-set_other t.slots i j (Some a) None apart) ∙ at)

  -- this alien has the slot from now on
  pub fit_put : AreFit host (record t { slots = set t.slots i (Some a) })
  fit_put = record {
    few = fit.few;
    lists = fit.lists;
    pool = subst (λ n. n ≤ POOL) (sym (length-set t.slots i (Some a))) fit.pool;
    places = fit.places;
    seats = fit.seats;
    apart = put_apart t.slots i a place fit.apart;
    aliens = λ j b at. alien_by j b (nat_eq j i) refl at;
  }

module _ (host : ℕ) (t : Tables) (fit : AreFit host t) (f : Alien → Alien) (keeps : (a : Alien) → (f a).sender ≡ a.sender)
    (fits : (a : Alien) → IsFitAlien host a → IsFitAlien host (f a)) where
  changed_by : (i : ℕ) (o : Option Alien) → alien_at t.slots i ≡ o → AreFit host (record t { slots = set t.slots i (option_map f o) })
  changed_by i None none =
      subst (λ slots. AreFit host (record t { slots = slots })) (sym (ap (set t.slots i) (sym none) ∙ set-get_or t.slots i None)) fit
  changed_by i (Some a) some =
      fit_put host t fit i (f a) (subst (λ s. IsPlace t.slots s i) (sym (keeps a)) (place_at t.slots a.sender i (fit.apart i a some)))
      (fits a (fit.aliens i a some))

  pub fit_changed_at : (i : ℕ) → AreFit host (record t { slots = changed_at i f t.slots })
  fit_changed_at i = changed_by i (alien_at t.slots i) refl

  pub fit_changed_where : (o : Option ℕ) → AreFit host (record t { slots = option_map_or (λ slot. changed_at slot f t.slots) o t.slots })
  fit_changed_where None = fit
  fit_changed_where (Some i) = fit_changed_at i

pub fit_heard : (host : ℕ) (t : Tables) → AreFit host t → (sender : Pid) (stamp : ℕ) →
    AreFit host (record t { slots = heard_of sender stamp t.slots })
fit_heard host t fit sender stamp = fit_changed_where host t fit (heard stamp) (λ a. refl) (λ a h. record {
  foreign = h.foreign;
  here = h.here;
  number = h.number;
  told = h.told;
  part = h.part;
}) (position (is_alien_from sender) t.slots)

pub fit_replied : (host : ℕ) (t : Tables) → AreFit host t → (o : Option ℕ) (m : Message) (dest : ℕ) (bytes : List ℕ) (now : ℕ) →
    length bytes ≤ SEGMENT_BYTES →
    AreFit host (record t { slots = option_map_or (λ slot. changed_at slot (replied m dest bytes now) t.slots) o t.slots })
fit_replied host t fit o m dest bytes now few = fit_changed_where host t fit (replied m dest bytes now) (λ a. refl) (λ a h. record {
  foreign = h.foreign;
  here = h.here;
  number = h.number;
  told = grind (arith, h.number, few);
  part = h.part;
}) o

-- an alien that waits or was taken is told that it is pending
pub fit_forwarded : (host : ℕ) (t : Tables) → AreFit host t → (i : ℕ) (m : Message) (to : Pid) →
    AreFit host (record t { slots = changed_at i (forwarded m to) t.slots })
fit_forwarded host t fit i m to = fit_changed_at host t fit (forwarded m to) (λ a. refl) (λ a h. record {
  foreign = h.foreign;
  here = h.here;
  number = h.number;
  told = grind (arith, h.number);
  part = h.part;
}) i

pub fit_taken : (host : ℕ) (t : Tables) → AreFit host t → (i : ℕ) → AreFit host (record t { slots = changed_at i taken t.slots })
fit_taken host t fit i = fit_changed_at host t fit taken (λ a. refl) (λ a h. record {
  foreign = h.foreign;
  here = h.here;
  number = h.number;
  told = grind (arith, h.number);
  part = h.part;
}) i

-- What a search of the tables finds stands in them.
use Rattle.std.proofs.Common.{◌≡◌, ℕ, suc, Bool, true, false, cond, List, [], ◌∷◌, Option, Some, None, refl, sym, ap, ◌∙◌}
use Rattle.std.specs.List.{find, slice_get}
use Rattle.std.specs.Option.{option_flatten}
use Rattle.std.proofs.lemmas.Option.{same_Some, none-some, get_or_from_slice_get}
use Rattle.vk_types.specs.Types.{Pid}
use Rattle.v_laws.proofs.Tables.{same_pid_is}
use Rattle.vk_pool.specs.declared.alien.Alien.{Alien}
use Rattle.vk_pool.specs.Aliens.{alien_at, alien_from, is_alien_from}
use Rattle.vk_procs.specs.declared.seat.Seat.{Seat}
use Rattle.vk_procs.specs.Seats.{is_seat, seat_in}

pub record StandsIn {X : Type 0} (p : X → Bool) (xs : List X) (x : X) : Type 0 where
  pub at : ℕ
  pub here : slice_get xs at ≡ Some x
  pub passes : p x ≡ true

module _ {X : Type 0} (p : X → Bool) where
  later : (x y : X) (xs : List X) → StandsIn p xs y → StandsIn p (x ∷ xs) y
  later x y xs found = record { at = suc found.at; here = found.here; passes = found.passes }

  in_by : (x y : X) (xs : List X) (b : Bool) → p x ≡ b → (find p xs ≡ Some y → StandsIn p xs y) → cond b (Some x) (find p xs) ≡ Some y →
      StandsIn p (x ∷ xs) y
  in_by x y xs true t again is = record { at = 0; here = is; passes = ap p (sym (same_Some x y is)) ∙ t }
  in_by x y xs false f again is = later x y xs (again is)

  pub found_in : (xs : List X) (x : X) → find p xs ≡ Some x → StandsIn p xs x
  found_in [] x is = absurd (none-some x is)
  found_in (y ∷ xs) x is = in_by y x xs (p y) refl (found_in xs x) is

-- a process of the station
pub record IsSeatAt (seats : List Seat) (pid : Pid) (s : Seat) : Type 0 where
  pub at : ℕ
  pub here : slice_get seats at ≡ Some s
  pub named : s.pid ≡ pid

pub seat_found : (seats : List Seat) (pid : Pid) (s : Seat) → seat_in seats pid ≡ Some s → IsSeatAt seats pid s
seat_found seats pid s is =
    let found = found_in (is_seat pid) seats s is in
    record { at = found.at; here = found.here; named = same_pid_is s.pid pid found.passes }

-- an alien
pub record IsAlienAt (slots : List (Option Alien)) (sender : Pid) (a : Alien) : Type 0 where
  pub at : ℕ
  pub here : alien_at slots at ≡ Some a
  pub from : a.sender ≡ sender

alien_in : (slots : List (Option Alien)) (sender : Pid) (a : Alien) (o : Option (Option Alien)) → find (is_alien_from sender) slots ≡ o →
    option_flatten o ≡ Some a → IsAlienAt slots sender a
alien_in slots sender a None none is = absurd (none-some a is)
alien_in slots sender a (Some x) some is =
    let found = found_in (is_alien_from sender) slots (Some a) (some ∙ ap Some is) in
    record {
      at = found.at;
      here = get_or_from_slice_get slots found.at (Some a) None found.here;
      from = same_pid_is a.sender sender found.passes;
    }

pub alien_found : (slots : List (Option Alien)) (sender : Pid) (a : Alien) → alien_from slots sender ≡ Some a → IsAlienAt slots sender a
alien_found slots sender a is = alien_in slots sender a (find (is_alien_from sender) slots) refl is

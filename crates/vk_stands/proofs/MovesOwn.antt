-- The exchange of a mover's partner after an event: as many moves as before, of which those that a process waits in are its own.
use Rattle.std.proofs.Common.{◌≡◌, ◌⊎◌, ◌≤◌, ℕ, zero, suc, Bool, true, false, cond, List, [], ◌∷◌, length, take, sym, ◌∙◌, Some, inl, inr, arith}
use Rattle.std.specs.List.{slice_get}
use Rattle.std.proofs.lemmas.List.{length-take}
use Rattle.std.proofs.lemmas.Option.{same_Some}
use Rattle.vk_types.specs.Types.{Exchange, Move, Pid}
use Rattle.vk_base.specs.Brought.{is_moved_by, put_at, put_move, with_running}
use Rattle.vk_base.specs.Kernel.{holds_of, move_of}

-- what stands in a list with a move put into its place
padding : (j : ℕ) (x : Move) (i : ℕ) (m : Move) → slice_get (put_at [] j x) i ≡ Some m → m ≡ x
padding zero x zero m is = sym (same_Some x m is)
padding zero x (suc i) m is = cc
padding (suc j) x zero m is = sym (same_Some x m is)
padding (suc j) x (suc i) m is = padding j x i m is

pub put_found : (xs : List Move) (j : ℕ) (x : Move) (i : ℕ) (m : Move) → slice_get (put_at xs j x) i ≡ Some m →
    (slice_get xs i ≡ Some m) ⊎ (m ≡ x)
put_found [] zero x zero m is = inr (sym (same_Some x m is))
put_found [] zero x (suc i) m is = cc
put_found [] (suc j) x zero m is = inr (sym (same_Some x m is))
put_found [] (suc j) x (suc i) m is = inr (padding j x i m is)
put_found (y ∷ xs) zero x zero m is = inr (sym (same_Some x m is))
put_found (y ∷ xs) zero x (suc i) m is = inl is
put_found (y ∷ xs) (suc j) x zero m is = inl is
put_found (y ∷ xs) (suc j) x (suc i) m is = put_found xs j x i m is

moved_found : (e : Exchange) (moving : ℕ) (x : Move) (i : ℕ) (m : Move) → slice_get (put_move e.moves moving x) i ≡ Some m →
    (slice_get e.moves i ≡ Some m) ⊎ (m ≡ x)
moved_found e zero x i m is = inl is
moved_found e (suc j) x i m is = put_found e.moves j x i m is

-- no place is lost
put_long : (xs : List Move) (j : ℕ) (x : Move) → length xs ≤ length (put_at xs j x)
put_long [] j x = omega arith
put_long (y ∷ xs) zero x = omega arith
put_long (y ∷ xs) (suc j) x = let again = put_long xs j x in omega arith

pub moved_long : (xs : List Move) (moving : ℕ) (x : Move) → length xs ≤ length (put_move xs moving x)
moved_long xs zero x = omega arith
moved_long xs (suc j) x = put_long xs j x

-- the first of a list
pub take_found : (n : ℕ) (xs : List Move) (i : ℕ) (m : Move) → slice_get (take n xs) i ≡ Some m → slice_get xs i ≡ Some m
take_found zero xs i m is = cc
take_found (suc n) [] i m is = is
take_found (suc n) (x ∷ xs) zero m is = is
take_found (suc n) (x ∷ xs) (suc i) m is = take_found n xs i m is

module _ (e : Exchange) (moving : ℕ) (mover : Pid) (own : Move) where
  pub running_by : (b : Bool) (i : ℕ) (m : Move) → slice_get (cond b e.moves (put_move e.moves moving own)) i ≡ Some m →
      (slice_get e.moves i ≡ Some m) ⊎ (m ≡ own)
  running_by true i m is = inl is
  running_by false i m is = moved_found e moving own i m is

  pub long_by : (b : Bool) → length e.moves ≤ length (cond b e.moves (put_move e.moves moving own))
  long_by true = omega arith
  long_by false = moved_long e.moves moving own

  abbrev pub running : List Move
  running = (with_running moving mover (Some own) e).moves

  -- each move that is left was there, or is the mover's own
  pub left_found : (number : ℕ) (m : Move) → move_of (record e { moves = take (length e.moves) running }) number ≡ Some m →
      (move_of e number ≡ Some m) ⊎ (m ≡ own)
  left_found zero m is = cc
  left_found (suc i) m is =
      running_by (holds_of (is_moved_by mover) (move_of e moving)) i m (take_found (length e.moves) running i m is)

  pub left_long : length (take (length e.moves) running) ≡ length e.moves
  left_long = let long = long_by (holds_of (is_moved_by mover) (move_of e moving)) in length-take (length e.moves) running ∙ (omega arith)

-- What the event of a mover leaves of its partner's exchange: the moves that were there, of which one may have other bytes. What
-- processes wait in are their own moves there too.
use Rattle.std.proofs.Common.{◌≡◌, ◌⊎◌, ℕ, zero, suc, Bool, true, false, cond, List, [], ◌∷◌, length, take, refl, sym, ap, ◌∙◌, subst, Option, Some, None, inl, inr, arith}
use Rattle.std.specs.List.{slice_get}
use Rattle.std.specs.Option.{option_map}
use Rattle.std.proofs.lemmas.List.{length-take}
use Rattle.std.proofs.lemmas.Option.{same_Some}
use Rattle.vk_types.specs.Types.{Direction, Exchange, Move, Name, Pid, Process, State, Waiting}
use Rattle.vk_base.specs.declared.activity.Activity.TheVariants as activities
use Rattle.vk_base.specs.declared.activity.Waiting.TheVariants as waitings
use Rattle.vk_base.specs.declared.kernel.Direction.TheVariants as directions
use Rattle.vk_base.specs.declared.step.Step.TheVariants as steps
use Rattle.vk_base.specs.Brought.{as_many_moves, is_moved_by, put_bytes, set_bytes}
unfoldable use Rattle.vk_base.specs.Changes.{change_exchange}
use Rattle.vk_base.specs.Kernel.{Kernel, holds_of, is_ready, move_of, put_exchange, same_name, sending, with_state}
unfoldable use Rattle.vk_base.specs.Kernel.{put_process}
use Rattle.vk_base.specs.Pids.{same_pid}
use Rattle.v_laws.specs.Sound.{IsSoundAt}
use Rattle.v_laws.proofs.Changes.{sound_onward}
use Rattle.v_laws.proofs.SoundChanges.{goes_process, no_exchange_changes, none_waited_for, process_done}
use Rattle.v_laws.proofs.Tables.{put_exchange_at, put_exchange_other}
use Rattle.vk_procs.specs.declared.seat.Seat.{Seat}
use Rattle.vk_procs.specs.Seats.{seat_in}
use Rattle.vk_stands.specs.Stands.{IsMoving, IsOwnMove}
use Rattle.vk_stands.specs.Tables.{Tables}
use Rattle.vk_stands.proofs.Found.{seat_found}
use Rattle.vk_stands.proofs.MovesExchange.{Owns}
use Rattle.vk_stands.proofs.MovesOwn.{left_found, long_by, running, running_by, take_found}

-- the same move, but for its bytes
pub record IsOfMove (x m : Move) : Type 0 where
  pub mover : m.mover ≡ x.mover
  pub direction : m.direction ≡ x.direction
  pub dest : m.dest ≡ x.dest
  pub count : m.count ≡ x.count

pub of_itself : (x : Move) → IsOfMove x x
of_itself x = record { mover = refl; direction = refl; dest = refl; count = refl }

own_kept : (x m : Move) (direction : Direction) (dest count : ℕ) → IsOfMove x m → IsOwnMove direction dest count x →
    IsOwnMove direction dest count m
own_kept x m direction dest count is own = record {
  direction_is = is.direction ∙ own.direction_is;
  dest_is = is.dest ∙ own.dest_is;
  count_is = is.count ∙ own.count_is;
}

-- the move in which a process waits
abbrev pub IsOwnOf : Waiting → Move → Type 0
IsOwnOf (waitings.MoveTo partner dest src count) m = IsOwnMove directions.To dest count m
IsOwnOf (waitings.MoveFrom partner dest src count) m = IsOwnMove directions.From dest count m
IsOwnOf w m = Unit {0}

pub same_wait : (v w : Waiting) → activities.Blocked v ≡ activities.Blocked w → v ≡ w
same_wait v w is = cc

-- each move of y is one of e, or the mover's own
abbrev pub HasLeft : Exchange → Exchange → Move → Type 0
HasLeft e y mine = (number : ℕ) (m : Move) → move_of y number ≡ Some m →
    (x : Move) × ((move_of e number ≡ Some x) ⊎ (x ≡ mine)) × IsOfMove x m

module _ (t : Tables) (k : Kernel) (pid : Pid) (s : Seat) (found : seat_in t.seats pid ≡ Some s) (w : Waiting)
    (state : s.doing ≡ activities.Blocked w) (name : Name) (e y : Exchange) (is : k.exchanges name ≡ Some e) (mine : Move)
    (mover : mine.mover ≡ pid) (its : IsOwnOf w mine) (left : HasLeft e y mine) where
  module _ (q : Pid) (x : Seat) (at : seat_in t.seats q ≡ Some x) (partner : Pid) (direction : Direction) (dest count : ℕ)
      (v : IsMoving k x partner direction dest count) (named : v.name.exchange ≡ name)
      (same : s ≡ x → IsOwnMove direction dest count mine) where
    by_left : (m z : Move) → (move_of e v.name.number ≡ Some z) ⊎ (z ≡ mine) → IsOfMove z m → m.mover ≡ x.pid →
        IsOwnMove direction dest count m
    by_left m z (inl there) of by =
        let one : e ≡ v.exchange = same_Some e v.exchange (sym is ∙ ap k.exchanges (sym named) ∙ v.is) in
        own_kept z m direction dest count of (v.own z (ap (λ a. move_of a v.name.number) (sym one) ∙ there) (sym of.mover ∙ by))
    by_left m z (inr own) of by =
        let same_pids : pid ≡ q = sym mover ∙ sym (ap (λ (a : Move). a.mover) own) ∙ sym of.mover ∙ by
        ∙ (seat_found t.seats q x at).named in
        let one : s ≡ x = same_Some s x (sym found ∙ ap (seat_in t.seats) same_pids ∙ at) in
        own_kept z m direction dest count of (subst (IsOwnMove direction dest count) (sym own) (same one))

    owned_by : (m : Move) → move_of y v.name.number ≡ Some m → m.mover ≡ x.pid → IsOwnMove direction dest count m
    owned_by m there by = let z = left v.name.number m there in by_left m z.0 z.1 z.2 by

  its_by : (x : Seat) (v : Waiting) → x.doing ≡ activities.Blocked v → s ≡ x → IsOwnOf v mine
  its_by x v blocked one = subst (λ z. IsOwnOf z mine) (same_wait w v (sym state ∙ ap (λ (z : Seat). z.doing) one ∙ blocked)) its

  pub owned : (q : Pid) (x : Seat) (v : Waiting) → seat_in t.seats q ≡ Some x → x.doing ≡ activities.Blocked v → Owns k name y x v
  owned q x (waitings.MoveTo partner dest src count) at blocked =
      λ v named. owned_by q x at partner directions.To dest count v named (its_by x (waitings.MoveTo partner dest src count) blocked)
  owned q x (waitings.MoveFrom partner dest src count) at blocked =
      λ v named. owned_by q x at partner directions.From dest count v named (its_by x (waitings.MoveFrom partner dest src count) blocked)
  owned q x (waitings.Send target m) at blocked = tt
  owned q x waitings.Receive at blocked = tt
  owned q x (waitings.ReceiveSegment start count) at blocked = tt
  owned q x (waitings.GetPid logical scope) at blocked = tt

-- The exchange then, where no bytes came.
abbrev pub acknowledged : Exchange → ℕ → Pid → ℕ → Move → Exchange
acknowledged e moving pid got mine = record e { moves = take (length e.moves) (running e moving pid mine); opened = moving; done = got }

one_of : (e : Exchange) (mine : Move) (number : ℕ) (m : Move) → (move_of e number ≡ Some m) ⊎ (m ≡ mine) →
    (x : Move) × ((move_of e number ≡ Some x) ⊎ (x ≡ mine)) × IsOfMove x m
one_of e mine number m is = (m, is, of_itself m)

pub left_acknowledged : (e : Exchange) (moving : ℕ) (pid : Pid) (got : ℕ) (mine : Move) →
    HasLeft e (acknowledged e moving pid got mine) mine
left_acknowledged e moving pid got mine zero m is = cc
left_acknowledged e moving pid got mine (suc i) m is = one_of e mine (suc i) m (left_found e moving pid mine (suc i) m is)

-- The exchange then, where bytes came that end there.
abbrev pub written_to : Exchange → ℕ → Pid → List ℕ → ℕ → Move → Exchange
written_to e moving pid bytes end mine =
    record e { moves = take (length e.moves) (put_bytes (running e moving pid mine) moving bytes); opened = moving; done = end }

set_found : (xs : List Move) (i : ℕ) (bytes : List ℕ) (j : ℕ) (m : Move) → slice_get (set_bytes xs i bytes) j ≡ Some m →
    (x : Move) × (slice_get xs j ≡ Some x) × IsOfMove x m
set_found [] i bytes j m is = (m, is, of_itself m)
set_found (x ∷ xs) zero bytes zero m is = (
  x,
  refl,
  subst (IsOfMove x) (same_Some (record x { bytes = bytes }) m is)
      (record { mover = refl; direction = refl; dest = refl; count = refl }),
)
set_found (x ∷ xs) zero bytes (suc j) m is = (m, is, of_itself m)
set_found (x ∷ xs) (suc i) bytes zero m is = (m, is, of_itself m)
set_found (x ∷ xs) (suc i) bytes (suc j) m is = set_found xs i bytes j m is

put_found_bytes : (xs : List Move) (moving : ℕ) (bytes : List ℕ) (j : ℕ) (m : Move) → slice_get (put_bytes xs moving bytes) j ≡ Some m →
    (x : Move) × (slice_get xs j ≡ Some x) × IsOfMove x m
put_found_bytes xs zero bytes j m is = (m, is, of_itself m)
put_found_bytes xs (suc i) bytes j m is = set_found xs i bytes j m is

set_long : (xs : List Move) (i : ℕ) (bytes : List ℕ) → length (set_bytes xs i bytes) ≡ length xs
set_long [] i bytes = refl
set_long (x ∷ xs) zero bytes = refl
set_long (x ∷ xs) (suc i) bytes = ap suc (set_long xs i bytes)

bytes_long : (xs : List Move) (moving : ℕ) (bytes : List ℕ) → length (put_bytes xs moving bytes) ≡ length xs
bytes_long xs zero bytes = refl
bytes_long xs (suc i) bytes = set_long xs i bytes

pub written_long : (e : Exchange) (moving : ℕ) (pid : Pid) (bytes : List ℕ) (mine : Move) →
    length (take (length e.moves) (put_bytes (running e moving pid mine) moving bytes)) ≡ length e.moves
written_long e moving pid bytes mine =
    let long = long_by e moving pid mine (holds_of (is_moved_by pid) (move_of e moving)) in
    let same = bytes_long (running e moving pid mine) moving bytes in
    length-take (length e.moves) (put_bytes (running e moving pid mine) moving bytes) ∙ (omega (arith, same))

pub left_written : (e : Exchange) (moving : ℕ) (pid : Pid) (bytes : List ℕ) (end : ℕ) (mine : Move) →
    HasLeft e (written_to e moving pid bytes end mine) mine
left_written e moving pid bytes end mine zero m is = cc
left_written e moving pid bytes end mine (suc i) m is =
    let x = put_found_bytes (running e moving pid mine) moving bytes i m
    (take_found (length e.moves) (put_bytes (running e moving pid mine) moving bytes) i m is) in
    (x.0, running_by e moving pid mine (holds_of (is_moved_by pid) (move_of e moving)) i x.0 x.1, x.2)

-- The view after the event: the exchange alone is another one.
module _ (k : Kernel) (name : Name) (e z y : Exchange) (is : k.exchanges name ≡ Some e) (settles : as_many_moves (Some e) z ≡ y)
    (xs : Name → Option Exchange) (there : (n : Name) → same_name n name ≡ true → xs n ≡ Some z)
    (others : (n : Name) → same_name n name ≡ false → xs n ≡ k.exchanges n) where
  settled_by : (n : Name) (b : Bool) → same_name n name ≡ b →
      cond b (option_map (as_many_moves (k.exchanges name)) (xs n)) (xs n) ≡ put_exchange k.exchanges name y n
  settled_by n true t1 =
      ap (option_map (as_many_moves (k.exchanges name))) (there n t1)
      ∙ ap (λ o. Some (as_many_moves o z)) is ∙ ap (λ x. Some x) settles ∙ sym (put_exchange_at k.exchanges name y n t1)
  settled_by n false f = others n f ∙ sym (put_exchange_other k.exchanges name y n f)

  pub settled_exchanges : (n : Name) → change_exchange xs name (as_many_moves (k.exchanges name)) n ≡ put_exchange k.exchanges name y n
  unfolding change_exchange
  settled_exchanges n = settled_by n (same_name n name) refl

-- A process whose call is over leaves the kernel sound.
pub sound_over : (k : Kernel) (pid : Pid) (p : Process) (t : State) → IsSoundAt (λ g. false) k → k.procs pid ≡ Some p →
    is_ready p.state ≡ false → sending p.state ≡ None → sending t ≡ None → is_ready t ≡ false →
    IsSoundAt (λ g. false) (with_state k pid p t)
sound_over k pid p t sound at busy quiet none still =
    sound_onward (steps.Take pid) k (with_state k pid p t) sound
    (goes_process (steps.Take pid) k pid p (record p { state = t }) k.exchanges k.lookups sound at
    (process_done (steps.Take pid) pid p (record p { state = t }) busy refl refl (omega arith) none still) refl
    (inr (none_waited_for k pid p sound at quiet))
    (no_exchange_changes (steps.Take pid) k))

-- a process that is changed twice
pub put_process_twice : (procs : Pid → Option Process) (pid : Pid) (a b : Process) →
    put_process (put_process procs pid a) pid b ≡ put_process procs pid b
unfolding put_process
put_process_twice procs pid a b = λ i q. put_by (same_pid q pid) (procs q) i
  where
    put_by : (t : Bool) (o : Option Process) → cond t (Some b) (cond t (Some a) o) ≡ cond t (Some b) o
    put_by true o = refl
    put_by false o = refl

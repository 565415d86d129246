-- The move that a process begins is the last of its partner's Send, and its own; those of other processes stay theirs.
use Rattle.std.proofs.Common.{◌≡◌, ◌⊎◌, ℕ, zero, suc, ◌+◌, List, [], ◌∷◌, ◌++◌, length, refl, ap, sym, ◌∙◌, subst, Some, inl, inr, arith}
use Rattle.std.specs.List.{slice_get}
use Rattle.std.proofs.lemmas.Option.{same_Some}
use Rattle.vk_types.specs.Types.{Direction, Exchange, Move, Name, Pid, Waiting}
use Rattle.vk_base.specs.declared.activity.Activity.TheVariants as activities
use Rattle.vk_base.specs.declared.activity.Waiting.TheVariants as waitings
use Rattle.vk_base.specs.declared.kernel.Direction.TheVariants as directions
use Rattle.vk_base.specs.Kernel.{Kernel, move_of}
use Rattle.vk_procs.specs.declared.seat.Seat.{Seat}
use Rattle.vk_procs.specs.Seats.{seat_in}
use Rattle.vk_stands.specs.Stands.{IsMoving, IsOwnMove, IsWaiting}
use Rattle.vk_stands.specs.Tables.{Tables}
use Rattle.vk_stands.proofs.Found.{seat_found}
use Rattle.vk_stands.proofs.MovesExchange.{Owns}
use Rattle.vk_stands.proofs.Sent.{ready_waits}
use Rattle.vk_move.specs.Begun.{waiting_in}

-- an exchange with this move behind the others
abbrev pub with_last : Exchange → Move → Exchange
with_last e m = record e { moves = e.moves ++ m ∷ [] }

found_behind : (xs : List Move) (m : Move) (j : ℕ) (x : Move) → slice_get (xs ++ m ∷ []) j ≡ Some x → (slice_get xs j ≡ Some x) ⊎ (x ≡ m)
found_behind [] m zero x is = inr (sym (same_Some m x is))
found_behind [] m (suc j) x is = cc
found_behind (y ∷ xs) m zero x is = inl is
found_behind (y ∷ xs) m (suc j) x is = found_behind xs m j x is

move_behind : (e : Exchange) (m : Move) (number : ℕ) (x : Move) → move_of (with_last e m) number ≡ Some x →
    (move_of e number ≡ Some x) ⊎ (x ≡ m)
move_behind e m zero x is = cc
move_behind e m (suc j) x is = found_behind e.moves m j x is

last_there : (xs : List Move) (m : Move) → slice_get (xs ++ m ∷ []) (length xs) ≡ Some m
last_there [] m = refl
last_there (x ∷ xs) m = last_there xs m

pub last_is : (e : Exchange) (m : Move) (number : ℕ) → length e.moves + 1 ≡ number → move_of (with_last e m) number ≡ Some m
last_is e m number is =
    let one : suc (length e.moves) ≡ number = omega arith in
    subst (λ n. move_of (with_last e m) n ≡ Some m) one (last_there e.moves m)

-- what a process waits in that waits in this move
pub waits_moving : (way : Direction) (k : Kernel) (s : Seat) (partner : Pid) (dest src count : ℕ) → IsMoving k s partner way dest count →
    IsWaiting k s (waiting_in way partner dest src count)
waits_moving directions.To k s partner dest src count v = v
waits_moving directions.From k s partner dest src count v = v

module _ (t : Tables) (k : Kernel) (pid : Pid) (s : Seat) (found : seat_in t.seats pid ≡ Some s) (ready : s.doing ≡ activities.Ready)
    (name : Name) (e : Exchange) (is : k.exchanges name ≡ Some e) (m : Move) (mover : m.mover ≡ pid) where
  module _ (q : Pid) (x : Seat) (w : Waiting) (at : seat_in t.seats q ≡ Some x) (blocked : x.doing ≡ activities.Blocked w) (partner : Pid)
      (way : Direction) (dest count : ℕ) (v : IsMoving k x partner way dest count) (named : v.name.exchange ≡ name) where
    owns_by : (z : Move) → (move_of e v.name.number ≡ Some z) ⊎ (z ≡ m) → z.mover ≡ x.pid → IsOwnMove way dest count z
    owns_by z (inl there) by =
        let one : e ≡ v.exchange = same_Some e v.exchange (sym is ∙ ap k.exchanges (sym named) ∙ v.is) in
        v.own z (ap (λ a. move_of a v.name.number) (sym one) ∙ there) by
    owns_by z (inr new) by =
        let same : pid ≡ q = sym mover ∙ sym (ap (λ (a : Move). a.mover) new) ∙ by ∙ (seat_found t.seats q x at).named in
        let one : s ≡ x = same_Some s x (sym found ∙ ap (seat_in t.seats) same ∙ at) in
        absurd (ready_waits s w ready (ap (λ (a : Seat). a.doing) one ∙ blocked))

    owns : (z : Move) → move_of (with_last e m) v.name.number ≡ Some z → z.mover ≡ x.pid → IsOwnMove way dest count z
    owns z there by = owns_by z (move_behind e m v.name.number z there) by

  pub still_own : (q : Pid) (x : Seat) (w : Waiting) → seat_in t.seats q ≡ Some x → x.doing ≡ activities.Blocked w →
      Owns k name (with_last e m) x w
  still_own q x (waitings.MoveTo partner dest src count) at blocked =
      λ v named. owns q x (waitings.MoveTo partner dest src count) at blocked partner directions.To dest count v named
  still_own q x (waitings.MoveFrom partner dest src count) at blocked =
      λ v named. owns q x (waitings.MoveFrom partner dest src count) at blocked partner directions.From dest count v named
  still_own q x (waitings.Send target message) at blocked = tt
  still_own q x waitings.Receive at blocked = tt
  still_own q x (waitings.ReceiveSegment start count) at blocked = tt
  still_own q x (waitings.GetPid logical scope) at blocked = tt

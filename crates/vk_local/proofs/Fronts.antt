-- The message that a process takes, found by the process's place.
use Rattle.std.proofs.Common.{◌≡◌, ℕ, true, false, nat_lt, length, List, Option, Some, None, refl, ap, ◌∙◌}
use Rattle.std.specs.List.{position, position_or_len, slice_get}
use Rattle.std.specs.Option.{is_some}
use Rattle.std.proofs.lemmas.List.Folds.{find_at}
use Rattle.std.proofs.lemmas.Option.{cond_some}
use Rattle.vk_types.specs.Types.{Pid, Waiting}
use Rattle.vk_procs.specs.declared.seat.Seat.{Seat}
use Rattle.vk_procs.specs.Seats.{is_seat, receive_of, seat_in}
use Rattle.vk_queue.specs.Lists.{queue_at}
use Rattle.vk_local.specs.Takes.{front_at, front_by, front_of}

module _ (seats : List Seat) (lists : List (List ℕ)) (pid : Pid) (at : ℕ) (here : position (is_seat pid) seats ≡ Some at) where
  seat_here : seat_in seats pid ≡ slice_get seats at
  seat_here =
      let first = position_or_len (is_seat pid) seats in
      find_at (is_seat pid) seats ∙ ap (slice_get seats) (cond_some (nat_lt first (length seats)) first at here).1

  by_place : front_of seats lists pid ≡ front_by seats lists pid (receive_of (slice_get seats at))
  by_place = ap (λ s. front_by seats lists pid (receive_of s)) seat_here

  resting : (w : Option Waiting) → is_some w ≡ false → front_by seats lists pid w ≡ None
  resting None rests = refl
  resting (Some w) rests = cc

  pub none_taken : is_some (receive_of (slice_get seats at)) ≡ false → front_of seats lists pid ≡ None
  none_taken rests = by_place ∙ resting (receive_of (slice_get seats at)) rests

  waiting : (w : Option Waiting) → is_some w ≡ true → front_by seats lists pid w ≡ slice_get (queue_at lists at) 0
  waiting None waits = cc
  waiting (Some w) waits = ap (front_at lists) here

  pub first_taken : is_some (receive_of (slice_get seats at)) ≡ true → front_of seats lists pid ≡ slice_get (queue_at lists at) 0
  first_taken waits = by_place ∙ waiting (receive_of (slice_get seats at)) waits

-- The first round of a move that is begun.
use Rattle.std.proofs.Common.{◌≡◌, ℕ, ◌+◌, ◌-◌, ◌<◌, ◌/◌, true, false, ◌||◌, List, [], refl, ap, sym, ◌∙◌, Option, Some}
use Rattle.std.specs.List.{list_any}
use Rattle.std.specs.Option.{option_map_or}
use Rattle.vk_types.specs.Types.{Direction, EventAnswer, MoveName, Pid}
use Rattle.vk_base.specs.declared.activity.Activity.TheVariants as activities
use Rattle.vk_base.specs.declared.event.EventAnswer.TheVariants as events_answered
use Rattle.vk_base.specs.declared.kernel.Direction.TheVariants as directions
use Rattle.vk_base.specs.Activities.{state_of}
use Rattle.vk_base.specs.Kernel.{Kernel, blocked_in, is_moving}
use Rattle.vk_base.proofs.PidLemmas.{same_pid_self}
use Rattle.vk_procs.specs.declared.seat.Seat.{Seat}
use Rattle.vk_procs.specs.Seats.{process_of, seat_in}
use Rattle.vk_rules.specs.Aliens as readings
use Rattle.vk_rules.specs.CallOutcomes.{packets_of, steps_behind}
unfoldable use Rattle.vk_rules.specs.Rounds.{round}
use Rattle.vk_rules.specs.Entries.{is_begun}
use Rattle.vk_rules.specs.Rounds.{list_if, round_of, round_of_call}
use Rattle.vk_rules.specs.Works.{Work, is_of_round, no_work}
use Rattle.vk_stands.specs.Stands.{IsFar}
use Rattle.vk_move.specs.Begun.{waiting_in}
use Rattle.vk_move.specs.Moved.{round_by, round_from}
use Rattle.vk_move.proofs.Acks.{any_of, some_pieces}
use Rattle.vk_move.proofs.Dues.{round_call}
use Rattle.vk_move.proofs.Verdicts.{call_in}

-- Of the call's entry.
pub nothing_behind : (way : Direction) (k : Kernel) (pid partner : Pid) (dest src count : ℕ) (a : EventAnswer) →
    steps_behind k pid (call_in way partner dest src count) a ≡ []
nothing_behind directions.To k pid partner dest src count a = refl
nothing_behind directions.From k pid partner dest src count a = refl

pub begun_packets_are : (way : Direction) (before after : Kernel) (slots : List (Option readings.Alien)) (pid partner : Pid)
    (dest src count : ℕ) → packets_of before after slots pid (call_in way partner dest src count) events_answered.Begun
    ≡ round after no_work pid
begun_packets_are directions.To before after slots pid partner dest src count = refl
begun_packets_are directions.From before after slots pid partner dest src count = refl

pub no_packets_are : (way : Direction) (before after : Kernel) (slots : List (Option readings.Alien)) (pid partner : Pid)
    (dest src count : ℕ) (answer : EventAnswer) → is_begun answer ≡ false →
    packets_of before after slots pid (call_in way partner dest src count) answer ≡ []
no_packets_are directions.To before after slots pid partner dest src count answer unbegun =
    ap (λ b. list_if b (round after no_work pid)) unbegun
no_packets_are directions.From before after slots pid partner dest src count answer unbegun =
    ap (λ b. list_if b (round after no_work pid)) unbegun

-- Of the tables.
moves_by : (way : Direction) (partner : Pid) (dest src count : ℕ) →
    is_moving (state_of (activities.Blocked (waiting_in way partner dest src count))) ≡ true
moves_by directions.To partner dest src count = refl
moves_by directions.From partner dest src count = refl

pub far_by : (way : Direction) (s : Seat) (w : Work) (partner : Pid) (dest src count : ℕ) → s.note.offset ≡ w.acknowledged →
    s.note.offset ≡ w.received → s.note.fresh ≡ w.fresh → IsFar s w (waiting_in way partner dest src count)
far_by directions.To s w partner dest src count acknowledged received fresh = acknowledged
far_by directions.From s w partner dest src count acknowledged received fresh = (received, fresh)

pub round_sent : (way : Direction) (pid : Pid) (memory : List ℕ) (m : MoveName) (partner : Pid) (dest src count : ℕ) → 0 < count →
    list_any (is_of_round pid) (round_by pid memory 0 (Some m) (activities.Blocked (waiting_in way partner dest src count))) ≡ true
round_sent directions.To pid memory m partner dest src count some =
    any_of pid partner memory dest src count 0 ((count - 0 + 1023) / 1024) m (some_pieces count 0 some)
round_sent directions.From pid memory m partner dest src count some = ap (λ b. b || false) (same_pid_self pid)

-- a process that has begun its move, with its first round
module _ (l : Kernel) (pid : Pid) (seats : List Seat) (s : Seat) (found : seat_in seats pid ≡ Some s)
    (here : l.procs pid ≡ Some (process_of s)) (way : Direction) (partner : Pid) (dest src count : ℕ)
    (state : s.doing ≡ activities.Blocked (waiting_in way partner dest src count)) (m : MoveName) (noted : s.note.moving ≡ Some m)
    (start : s.note.offset ≡ 0) (stale : s.note.fresh ≡ false) where
  pub first_round : round_from pid 0 (seat_in seats pid) ≡ round l no_work pid
  unfolding round
  first_round =
      ap (round_from pid 0) found
      ∙ (λ i. round_by pid s.memory (sym start i) (noted i) (state i))
      ∙ round_call l pid s no_work (waiting_in way partner dest src count) (Some m) noted (moves_by way partner dest src count)
      (far_by way s no_work partner dest src count start start stale)
      ∙ sym (ap (λ d. option_map_or (round_of_call l no_work pid (process_of s)) (blocked_in (state_of d)) []) state)
      ∙ sym (ap (λ o. option_map_or (round_of l no_work pid) o []) here)

  pub first_sent : 0 < count → list_any (is_of_round pid) (round_from pid 0 (seat_in seats pid)) ≡ true
  first_sent some =
      ap (λ o. list_any (is_of_round pid) (round_from pid 0 o)) found
      ∙ (λ i. list_any (is_of_round pid) (round_by pid s.memory 0 (noted i) (state i)))
      ∙ round_sent way pid s.memory m partner dest src count some

-- That a move which its partner has acknowledged in full ends in the view, and that its next bytes are written there: whatever frames
-- were forged, the view has the mover's own move for the event.
use Rattle.std.proofs.Common.{◌≡◌, ◌<◌, ◌≤◌, ℕ, zero, suc, ◌+◌, Bool, true, false, cond, ◌==◌, List, [], length, refl, sym, ap, ◌∙◌, subst, Option, Some}
use Rattle.std.specs.Option.{option_map, option_map_or}
use Rattle.std.proofs.lemmas.Bool.{and_from, eq-eqb, le-leb}
use Rattle.vk_types.specs.Types.{Direction, Exchange, Move, MoveName, Name, Pid}
use Rattle.vk_base.specs.declared.activity.Activity.TheVariants as activities
use Rattle.vk_base.specs.declared.activity.Waiting.TheVariants as waitings
use Rattle.vk_base.specs.declared.answer.Answer.TheVariants as answers
use Rattle.vk_base.specs.declared.answer.Ending.TheVariants as endings
use Rattle.vk_base.specs.declared.kernel.Direction.TheVariants as directions
use Rattle.vk_base.specs.Activities.{state_of}
use Rattle.vk_base.specs.Brought.{brought, bytes_from, is_moved_by, move_of_call, put_bytes, put_move, running_move, with_bytes_of, with_progress, with_running}
unfoldable use Rattle.vk_base.specs.Changes.{change_exchange}
use Rattle.vk_base.specs.Calls.{new_move}
use Rattle.vk_base.specs.Kernel.{◌>>=◌, Kernel, blocked_in, holds_of, move_of, name_of}
use Rattle.vk_base.specs.Packets.{MoveAck, MoveBytes}
use Rattle.vk_base.specs.Ranges.{range_of, bytes_in}
use Rattle.vk_base.specs.Steps.{is_complete, is_in_move, is_next, move_ending, only_if, written_process}
unfoldable use Rattle.vk_base.specs.Steps.{copying}
use Rattle.v_laws.proofs.Options.{some_that_holds}
use Rattle.v_laws.proofs.Tables.{same_name_self, same_pid_is}
use Rattle.v_laws.proofs.MoveLists.{put_move_here, set_bytes_here}
use Rattle.vk_procs.specs.declared.seat.Seat.{Seat}
use Rattle.vk_procs.specs.Seats.{process_of}
use Rattle.vk_stands.specs.Stands.{IsOwnMove}

-- The exchange of the mover's partner has, for the event, the mover's move under its number.
pub record HasOwn (mover : Pid) (direction : Direction) (dest count moving : ℕ) (e : Exchange) : Type 0 where
  pub move : Move
  pub at : move_of e moving ≡ Some move
  pub mine : move.mover ≡ mover
  pub own : IsOwnMove direction dest count move

own_by : (e : Exchange) (moving : ℕ) (mover : Pid) (direction : Direction) (dest count : ℕ) (o : Option Move) (m : Move) (b : Bool) →
    0 < moving →
    holds_of (is_moved_by mover) (move_of e moving) ≡ b → o ≡ Some m → m.mover ≡ mover → IsOwnMove direction dest count m →
    ((x : Move) → move_of e moving ≡ Some x → x.mover ≡ mover → IsOwnMove direction dest count x) →
    HasOwn mover direction dest count moving (record e { moves = cond b e.moves (option_map_or (put_move e.moves moving) o e.moves) })
own_by e moving mover direction dest count o m true some there is mine own before =
    let x = some_that_holds (is_moved_by mover) (move_of e moving) there in
    let same : x.0.mover ≡ mover = same_pid_is x.0.mover mover x.2 in
    record { move = x.0; at = x.1; mine = same; own = before x.0 x.1 same }
own_by e moving mover direction dest count o m false some there is mine own before =
    subst (λ z. HasOwn mover direction dest count moving (record e { moves = option_map_or (put_move e.moves moving) z e.moves })) (sym is)
    (record { move = m; at = put_move_here e moving m some; mine = mine; own = own })

bytes_put : (e : Exchange) (moving : ℕ) (bytes : List ℕ) (m : Move) → move_of e moving ≡ Some m →
    move_of (record e { moves = put_bytes e.moves moving bytes }) moving ≡ Some (record m { bytes = bytes })
bytes_put e zero bytes m is = cc
bytes_put e (suc i) bytes m is = set_bytes_here e.moves i bytes m is

module _ (k : Kernel) (s : Seat) (to : Pid) (moving : ℕ) (some : 0 < moving) (here : k.procs to ≡ Some (process_of s)) (name : Name)
    (e : Exchange)
    (is : k.exchanges name ≡ Some e) where
  -- of a move to its partner
  module _ (partner : Pid) (dest src count : ℕ) (state : s.doing ≡ activities.Blocked (waitings.MoveTo partner dest src count))
      (own : (m : Move) → move_of e moving ≡ Some m → m.mover ≡ to → IsOwnMove directions.To dest count m) where
    abbrev pub mine : Move
    mine = new_move to directions.To dest src count (bytes_in (range_of src count) s.memory)

    pub running_to : running_move k to ≡ Some mine
    running_to =
        ap (λ o. o >>= λ p. blocked_in p.state >>= move_of_call to p.memory) here
        ∙ ap (λ d. blocked_in (state_of d) >>= move_of_call to s.memory) state

    pub has_own_to : HasOwn to directions.To dest count moving (with_running moving to (running_move k to) e)
    has_own_to = own_by e moving to directions.To dest count (running_move k to) mine
        (holds_of (is_moved_by to) (move_of e moving)) some refl running_to refl
        (record { direction_is = refl; dest_is = refl; count_is = refl }) own

    -- all bytes are acknowledged
    pub ends_ok : (from : Pid) (number : ℕ) → name ≡ name_of from number → (m : MoveName) → m.exchange ≡ name → m.number ≡ moving →
        move_ending (brought k (MoveAck from to number moving count)) m endings.Ok ≡ Some answers.Ok
    unfolding change_exchange
    ends_ok from number named m exchange at =
        let b : Exchange = with_progress moving count (with_running moving to (running_move k to) e) in
        let there : (brought k (MoveAck from to number moving count)).exchanges m.exchange ≡ Some b =
        ap (brought k (MoveAck from to number moving count)).exchanges (exchange ∙ named)
        ∙ ap (λ x. cond x (option_map (λ z. with_progress moving count (with_running moving to (running_move k to) z))
        (k.exchanges (name_of from number))) (k.exchanges (name_of from number))) (same_name_self (name_of from number))
        ∙ ap (λ n. option_map (λ z. with_progress moving count (with_running moving to (running_move k to) z)) (k.exchanges n)) (sym named)
        ∙ ap (option_map (λ z. with_progress moving count (with_running moving to (running_move k to) z))) is in
        let done : holds_of (λ (x : Move). b.done == x.count) (move_of b moving) ≡ true =
        ap (holds_of (λ (x : Move). count == x.count)) has_own_to.at ∙ eq-eqb count has_own_to.move.count (sym has_own_to.own.count_is) in
        let complete : is_complete b moving ≡ true = and_from (moving == moving)
        (holds_of (λ (x : Move). b.done == x.count) (move_of b moving)) (eq-eqb moving moving refl) done in
        ap (λ o. only_if (holds_of (λ z. is_complete z m.number) o) (Some answers.Ok)) there
        ∙ ap (λ n. only_if (is_complete b n) (Some answers.Ok)) at
        ∙ ap (λ x. only_if x (Some answers.Ok)) complete

  -- of a move from its partner
  module _ (partner : Pid) (dest src count : ℕ) (state : s.doing ≡ activities.Blocked (waitings.MoveFrom partner dest src count))
      (own : (m : Move) → move_of e moving ≡ Some m → m.mover ≡ to → IsOwnMove directions.From dest count m) where
    abbrev pub asked : Move
    asked = new_move to directions.From dest src count []

    pub running_from : running_move k to ≡ Some asked
    running_from =
        ap (λ o. o >>= λ p. blocked_in p.state >>= move_of_call to p.memory) here
        ∙ ap (λ d. blocked_in (state_of d) >>= move_of_call to s.memory) state

    pub has_own_from : HasOwn to directions.From dest count moving (with_running moving to (running_move k to) e)
    has_own_from = own_by e moving to directions.From dest count (running_move k to) asked
        (holds_of (is_moved_by to) (move_of e moving)) some refl running_from refl
        (record { direction_is = refl; dest_is = refl; count_is = refl }) own

    -- the next bytes of it are written into the mover
    module _ (from : Pid) (number : ℕ) (named : name ≡ name_of from number) (offset : ℕ) (bytes : List ℕ) (any : 1 ≤ length bytes)
        (fits : offset + length bytes ≤ count) (mover : is_in_move name moving (process_of s) ≡ true) where
      abbrev pub l : Kernel
      l = brought k (MoveBytes from to number moving count offset bytes)

      abbrev pub change : Exchange → Exchange
      change z = with_bytes_of moving offset bytes (with_running moving to (running_move k to) z)

      abbrev pub there : Exchange
      there = change e

      abbrev pub written : Move
      written = record has_own_from.move { bytes = bytes_from offset bytes }

      pub there_is : l.exchanges name ≡ Some there
      unfolding change_exchange
      there_is =
          ap l.exchanges named
          ∙ ap (λ x. cond x (option_map change (k.exchanges (name_of from number))) (k.exchanges (name_of from number)))
          (same_name_self (name_of from number))
          ∙ ap (λ n. option_map change (k.exchanges n)) (sym named)
          ∙ ap (option_map change) is

      pub move_is : move_of there moving ≡ Some written
      move_is = bytes_put (with_running moving to (running_move k to) e) moving (bytes_from offset bytes) has_own_from.move has_own_from.at

      next_is : is_next there moving written offset (length bytes) ≡ true
      next_is = and_from _ _ (and_from _ _ (and_from _ _ (eq-eqb moving moving refl) (eq-eqb offset offset refl))
          (le-leb 1 (length bytes) any))
          (le-leb (offset + length bytes) written.count (subst (λ n. offset + length bytes ≤ n) (sym has_own_from.own.count_is) fits))

      process_is : written_process l name moving written.mover written.direction ≡ Some (to, process_of s)
      process_is =
          ap (written_process l name moving written.mover) has_own_from.own.direction_is
          ∙ ap (λ p. l.procs p >>= λ x. only_if (is_in_move name moving x) (Some (p, x))) has_own_from.mine
          ∙ ap (λ o. o >>= λ x. only_if (is_in_move name moving x) (Some (to, x))) here
          ∙ ap (λ b. only_if b (Some (to, process_of s))) mover

      pub copies_next : copying l name moving offset (length bytes) ≡ Some
          (record { exchange = there; move = written; pid = to; process = process_of s })
      unfolding copying
      copies_next =
          ap (λ o. o >>= λ z. move_of z moving >>= λ m. only_if (is_next z moving m offset (length bytes))
          (written_process l name moving m.mover m.direction)
          >>= λ w. Some (record { exchange = z; move = m; pid = w.0; process = w.1 })) there_is
          ∙ ap (λ o. o >>= λ m. only_if (is_next there moving m offset (length bytes)) (written_process l name moving m.mover m.direction)
          >>= λ w. Some (record { exchange = there; move = m; pid = w.0; process = w.1 })) move_is
          ∙ ap (λ b. only_if b (written_process l name moving written.mover written.direction)
          >>= λ w. Some (record { exchange = there; move = written; pid = w.0; process = w.1 })) next_is
          ∙ ap (λ o. o >>= λ w. Some (record { exchange = there; move = written; pid = w.0; process = w.1 })) process_is

-- What is in the way of a step. Beside each step of `Steps.antt`: the same conditions, and what is told of the first that fails.
use Rattle.std.specs.Prelude.{ℕ, ◌≡◌, ◌+◌, Bool, true, false, ⊤, is_some, ◌==◌, not, is_none, nat_le, nat_lt, List, [], ◌∷◌, length, Option, Some, None, Result, Ok, Err, if◌then◌else◌}
use Rattle.std.specs.List.{list_any}
use Rattle.vk_types.specs.Types.{Direction, Ending, Exchange, Lookup, Move, MoveName, Name, Pid, Process, Stage, State, Step}
use Rattle.vk_base.specs.declared.answer.Ending.TheVariants as endings
use Rattle.vk_base.specs.declared.kernel.Direction.TheVariants as directions
use Rattle.vk_base.specs.declared.kernel.Stage.TheVariants as stages
use Rattle.vk_base.specs.declared.step.Step.TheVariants as steps
use Rattle.vk_base.specs.Kernel.{Kernel, name_of, is_live, is_moving, is_asking, is_posted, is_told, receiving, sending, finished_call, reply_of, queue_of, move_of, waiting_on, holds_of}
use Rattle.vk_base.specs.Pids.{same_pid, same_host}
use Rattle.vk_base.specs.Steps.{first_of, same_move}
use Rattle.v_obstacle.specs.declared.obstacle.Obstacle.{Obstacle}
use Rattle.v_obstacle.specs.declared.obstacle.Obstacle.TheVariants as obstacles
use Rattle.v_obstacle.specs.declared.obstacle.Standing.{Standing}
use Rattle.v_obstacle.specs.declared.obstacle.Standing.TheVariants as standings
use Rattle.v_obstacle.specs.declared.obstacle.Wanted.{Wanted}
use Rattle.v_obstacle.specs.declared.obstacle.Wanted.TheVariants as wanted

-- What a step finds, or what is in its way.
abbrev pub Finds : Type 0 → Type 0
Finds A = Result A Obstacle

infixl 10 ◌>>=◌
abbrev pub ◌>>=◌ : {A B : Type 0} → Finds A → (A → Finds B) → Finds B
(Ok x) >>= f = f x
(Err why) >>= f = Err why

-- what is there, or what is told where nothing is
infixl 12 ◌or_tell◌
abbrev pub ◌or_tell◌ : {A : Type 0} → Option A → Obstacle → Finds A
None or_tell why = Err why
(Some x) or_tell why = Ok x

-- this, where all of these tests hold; else what the first that fails tells
abbrev pub where_all : {A : Type 0} → List (Bool × Obstacle) → A → Finds A
where_all [] x = Ok x
where_all (t ∷ ts) x = if t.0 then where_all ts x else Err t.1

abbrev pub told : {A : Type 0} → Finds A → Option Obstacle
told (Ok x) = None
told (Err why) = Some why

-- how far a message is
abbrev pub standing_of : Stage → Standing
standing_of stages.Posted = standings.Posted
standing_of stages.Queued = standings.Queued
standing_of stages.Taken = standings.Taken
standing_of (stages.Replied m dest bytes) = standings.Replied
standing_of stages.Dropped = standings.Dropped

-- What steps look for.
abbrev pub process_at : Kernel → Pid → Finds Process
process_at k pid = k.procs pid or_tell obstacles.NoProcess pid

-- the process does something else
abbrev pub otherwise : Wanted → Pid → Process → Obstacle
otherwise what pid p = obstacles.Otherwise what pid p.alive p.state

-- why there is no exchange of this name
abbrev pub unsent : Name → Option Process → Obstacle
unsent name None = obstacles.NoProcess name.sender
unsent name (Some p) = obstacles.NotSent name p.sends

abbrev pub exchange_at : Kernel → Name → Finds Exchange
exchange_at k name = k.exchanges name or_tell unsent name (k.procs name.sender)

abbrev pub move_at : Name → Exchange → ℕ → Finds Move
move_at name e number = move_of e number or_tell obstacles.NoMove name number (length e.moves)

-- the sender, which waits on this exchange
abbrev pub sender_at : Kernel → Name → Finds Process
sender_at k name = do
  p ← process_at k name.sender
  send ← sending p.state or_tell otherwise wanted.Sending name.sender p
  where_all ((p.sends == name.number, obstacles.OtherSend name p.sends) ∷ []) p

-- the process, which is blocked in a move or a lookup
abbrev pub mover_at : Kernel → Pid → Finds Process
mover_at k r = process_at k r >>= λ p. where_all ((is_moving p.state, otherwise wanted.Moving r p) ∷ []) p

abbrev pub asker_at : Kernel → Pid → Finds Process
asker_at k asker = process_at k asker >>= λ p. where_all ((is_asking p.state, otherwise wanted.Asking asker p) ∷ []) p

-- why there is no lookup of this number
abbrev pub unasked : Pid → ℕ → Option Process → Obstacle
unasked asker number None = obstacles.NoProcess asker
unasked asker number (Some p) = obstacles.NoLookup asker number p.lookups

abbrev pub lookup_at : Kernel → Pid → ℕ → Finds Lookup
lookup_at k asker number = k.lookups asker number or_tell unasked asker number (k.procs asker)

-- Call: each call of a process is allowed; where the kernel refuses it, that is its answer.
abbrev pub call_check : Kernel → Pid → Finds Process
call_check k pid = process_at k pid

-- Arrive.
abbrev pub arrive_check : Kernel → Name → Finds Exchange
arrive_check k name = do
  e ← exchange_at k name
  where_all ((is_posted e.stage, obstacles.NotPosted name e.at (standing_of e.stage))
      ∷ (is_live (k.procs e.target), obstacles.DeadTarget name e.target)
      ∷ []) e

-- Take.
abbrev pub take_check : Kernel → Pid → Finds Name
take_check k r = do
  p ← process_at k r
  c ← receiving p.state or_tell otherwise wanted.Receiving r p
  first_of (queue_of k r) or_tell obstacles.NothingQueued r

-- Finish.
abbrev pub finish_check : Kernel → Pid → Finds Exchange
finish_check k s = do
  p ← process_at k s
  send ← sending p.state or_tell otherwise wanted.Sending s p
  e ← exchange_at k (name_of s p.sends)
  reply ← reply_of e.stage or_tell obstacles.NotReplied (name_of s p.sends) e.at (standing_of e.stage)
  Ok e

-- Fail.
abbrev pub failure_check : Kernel → Name → Exchange → Ending → Finds Exchange
failure_check k name e endings.TimedOut = Ok e
failure_check k name e endings.NoProcess = where_all ((not (is_live (k.procs e.at)), obstacles.Alive name e.at) ∷ []) e
failure_check k name e why = Err (obstacles.NoSuchEnding why)

abbrev pub fail_check : Kernel → Pid → Ending → Finds Exchange
fail_check k s why = do
  p ← process_at k s
  send ← sending p.state or_tell otherwise wanted.Sending s p
  e ← exchange_at k (name_of s p.sends)
  far ← where_all ((not (same_host s e.target), obstacles.OneStation s e.target) ∷ []) e
  failure_check k (name_of s p.sends) e why

-- Open.
abbrev pub open_check : Kernel → Name → ℕ → Finds Move
open_check k name number = do
  p ← sender_at k name
  e ← exchange_at k name
  later ← where_all ((nat_lt e.opened number, obstacles.OpenedBefore name number e.opened) ∷ []) e
  move_at name e number

-- Copy.
abbrev pub written_at : Kernel → Name → ℕ → Pid → Direction → Finds Process
written_at k name number mover directions.To = sender_at k name
written_at k name number mover directions.From = do
  p ← mover_at k mover
  where_all ((holds_of (λ m. same_move m name number) p.moving, obstacles.OtherMove mover p.moving) ∷ []) p

abbrev pub copy_check : Kernel → Name → ℕ → ℕ → ℕ → Finds Process
copy_check k name number offset count = do
  e ← exchange_at k name
  m ← move_at name e number
  next ← where_all ((e.opened == number, obstacles.NotOpen name number e.opened)
      ∷ (e.done == offset, obstacles.OtherOffset name offset e.done)
      ∷ (nat_le 1 count, obstacles.NoBytes)
      ∷ (nat_le (offset + count) m.count, obstacles.TooManyBytes name number offset count m.count)
      ∷ []) e
  written_at k name number m.mover m.direction

-- End.
abbrev pub ending_check : Kernel → MoveName → Ending → Finds MoveName
ending_check k m endings.Ok = do
  e ← exchange_at k m.exchange
  now ← where_all ((e.opened == m.number, obstacles.NotOpen m.exchange m.number e.opened) ∷ []) e
  x ← move_at m.exchange e m.number
  where_all ((e.done == x.count, obstacles.Incomplete m.exchange m.number e.done x.count) ∷ []) m
ending_check k m endings.Gone = where_all ((is_none (waiting_on k m.exchange), obstacles.StillWaits m.exchange) ∷ []) m
ending_check k m endings.TimedOut = Ok m
ending_check k m endings.NoProcess = Err (obstacles.NoSuchEnding endings.NoProcess)

abbrev pub end_check : Kernel → Pid → Ending → Finds MoveName
end_check k r why = do
  p ← mover_at k r
  m ← p.moving or_tell obstacles.OtherMove r None
  ending_check k m why

-- Hear.
abbrev pub hear_check : Kernel → Pid → ℕ → Pid → Finds Lookup
hear_check k asker number pid = do
  l ← lookup_at k asker number
  where_all ((not (same_host asker pid), obstacles.OneStation asker pid)
      ∷ (is_told (k.names pid.host) l.logical pid, obstacles.NotTold l.logical pid)
      ∷ []) l

-- Found and Lost.
abbrev pub found_check : Kernel → Pid → Pid → Finds Process
found_check k asker pid = do
  p ← asker_at k asker
  l ← lookup_at k asker p.lookups
  where_all ((list_any (same_pid pid) l.candidates, obstacles.NotHeard asker p.lookups pid) ∷ []) p

-- Collect.
abbrev pub collect_check : Kernel → Pid → Finds Process
collect_check k pid = do
  p ← process_at k pid
  done ← finished_call p.state or_tell otherwise wanted.Done pid p
  Ok p

-- what is in the way of a step, where it is not allowed
abbrev pub obstacle : Kernel → Step → Option Obstacle
obstacle k (steps.Call pid c) = told (call_check k pid)
obstacle k (steps.Arrive sender number) = told (arrive_check k (name_of sender number))
obstacle k (steps.Take r) = told (take_check k r)
obstacle k (steps.Finish s) = told (finish_check k s)
obstacle k (steps.Fail s why) = told (fail_check k s why)
obstacle k (steps.OpenMove sender number moving) = told (open_check k (name_of sender number) moving)
obstacle k (steps.Copy sender number moving offset count) = told (copy_check k (name_of sender number) moving offset count)
obstacle k (steps.End r why) = told (end_check k r why)
obstacle k (steps.Hear asker number pid) = told (hear_check k asker number pid)
obstacle k (steps.Found asker pid) = told (found_check k asker pid)
obstacle k (steps.Lost asker) = told (asker_at k asker)
obstacle k (steps.Collect pid) = told (collect_check k pid)

-- What an obstacle tells of a kernel is so. Beside each stand the two words or numbers that differ.
abbrev pub does : Wanted → State → Bool
does wanted.Receiving s = is_some (receiving s)
does wanted.Sending s = is_some (sending s)
does wanted.Moving s = is_moving s
does wanted.Asking s = is_asking s
does wanted.Done s = is_some (finished_call s)

-- something is said of the process, of the exchange or of the move that is there
abbrev pub OfProcess : Kernel → Pid → (Process → Type 0) → Type 0
OfProcess k pid P = (p : Process) × (k.procs pid ≡ Some p) × P p

abbrev pub OfExchange : Kernel → Name → (Exchange → Type 0) → Type 0
OfExchange k name P = (e : Exchange) × (k.exchanges name ≡ Some e) × P e

abbrev pub OfMove : Kernel → Name → ℕ → (Exchange → Move → Type 0) → Type 0
OfMove k name number P = OfExchange k name (λ e. (m : Move) × (move_of e number ≡ Some m) × P e m)

abbrev pub IsSo : Kernel → Obstacle → Type 0
IsSo k (obstacles.NoProcess pid) = k.procs pid ≡ None
IsSo k (obstacles.Otherwise what pid alive state) =
    OfProcess k pid (λ p. (p.alive ≡ alive) × (p.state ≡ state) × (does what state ≡ false))
IsSo k (obstacles.NotSent name sends) = (k.exchanges name ≡ None) × OfProcess k name.sender (λ p. p.sends ≡ sends)
IsSo k (obstacles.OtherSend name sends) = OfProcess k name.sender (λ p. (p.sends ≡ sends) × ((sends == name.number) ≡ false))
IsSo k (obstacles.NotPosted name at standing) =
    OfExchange k name (λ e. (e.at ≡ at) × (standing_of e.stage ≡ standing) × (is_posted e.stage ≡ false))
IsSo k (obstacles.NotReplied name at standing) =
    OfExchange k name (λ e. (e.at ≡ at) × (standing_of e.stage ≡ standing) × (reply_of e.stage ≡ None))
IsSo k (obstacles.DeadTarget name target) = OfExchange k name (λ e. (e.target ≡ target) × (is_live (k.procs target) ≡ false))
IsSo k (obstacles.NothingQueued pid) = first_of (queue_of k pid) ≡ None
IsSo k (obstacles.OneStation pid other) = same_host pid other ≡ true
IsSo k (obstacles.Alive name at) = OfExchange k name (λ e. (e.at ≡ at) × (is_live (k.procs at) ≡ true))
IsSo k (obstacles.NoSuchEnding why) = ⊤
IsSo k (obstacles.NoMove name number moves) = OfExchange k name (λ e. (length e.moves ≡ moves) × (move_of e number ≡ None))
IsSo k (obstacles.OpenedBefore name number opened) = OfExchange k name (λ e. (e.opened ≡ opened) × (nat_lt opened number ≡ false))
IsSo k (obstacles.NotOpen name number opened) = OfExchange k name (λ e. (e.opened ≡ opened) × ((opened == number) ≡ false))
IsSo k (obstacles.OtherOffset name offset done) = OfExchange k name (λ e. (e.done ≡ done) × ((done == offset) ≡ false))
IsSo k obstacles.NoBytes = ⊤
IsSo k (obstacles.TooManyBytes name number offset count whole) =
    OfMove k name number (λ e m. (m.count ≡ whole) × (nat_le (offset + count) whole ≡ false))
IsSo k (obstacles.OtherMove pid moving) = OfProcess k pid (λ p. p.moving ≡ moving)
IsSo k (obstacles.Incomplete name number done whole) =
    OfMove k name number (λ e m. (e.done ≡ done) × (m.count ≡ whole) × ((done == whole) ≡ false))
IsSo k (obstacles.StillWaits name) = is_none (waiting_on k name) ≡ false
IsSo k (obstacles.NoLookup asker number lookups) = (k.lookups asker number ≡ None) × OfProcess k asker (λ p. p.lookups ≡ lookups)
IsSo k (obstacles.NotTold logical pid) = is_told (k.names pid.host) logical pid ≡ false
IsSo k (obstacles.NotHeard asker number pid) =
    (l : Lookup) × (k.lookups asker number ≡ Some l) × (list_any (same_pid pid) l.candidates ≡ false)

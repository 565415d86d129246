-- The Send that a process waits in, and what is asked of it.
use Rattle.std.proofs.Common.{◌≡◌, ℕ, ◌==◌, List, Bool, true, false, cond, ◌∷◌, [], Option, Some, None, Result, Ok, Err, is_none, is_some, not, refl, ap}
use Rattle.std.specs.Result.{is_ok, result_err}
use Rattle.vk_types.specs.Types.{Ending, Exchange, Message, Name, Pid, Process}
use Rattle.vk_base.specs.Kernel.{Kernel, sending, reply_of, waiting_on, ◌>>=◌ as ◌>>=o◌}
use Rattle.vk_base.specs.Pids.{same_host}
use Rattle.v_obstacle.specs.declared.obstacle.Obstacle.{Obstacle}
use Rattle.v_obstacle.specs.declared.obstacle.Obstacle.TheVariants as obstacles
use Rattle.v_obstacle.specs.declared.obstacle.Wanted.TheVariants as wanted
use Rattle.v_obstacle.specs.Obstacles.{◌>>=◌, ◌or_tell◌, Finds, failure_check, otherwise, sender_at, standing_of, told, where_all}

-- what Finish and Fail ask of it
abbrev pub finish_rest : Name → Exchange → Finds Exchange
finish_rest name e = (reply_of e.stage or_tell obstacles.NotReplied name e.at (standing_of e.stage)) >>= λ reply. Ok e

abbrev pub fail_rest : Kernel → Pid → Ending → Name → Exchange → Finds Exchange
fail_rest k s why name e =
    where_all ((not (same_host s e.target), obstacles.OneStation s e.target) ∷ []) e >>= λ far. failure_check k name e why

-- whether the sender waits on an exchange
pub waits_or_told : (k : Kernel) (n : Name) → is_none (waiting_on k n) ≡ is_some (told (sender_at k n))
unfolding waiting_on
waits_or_told k n = by_process (k.procs n.sender)
  where
    by_number : (p : Process) (b : Bool) → is_none (cond b (Some p) None)
        ≡ is_some (told (where_all ((b, obstacles.OtherSend n p.sends) ∷ []) p))
    by_number p true = refl
    by_number p false = refl

    by_send : (p : Process) (o : Option (Pid × Message)) → is_none (o >>=o λ s. cond (p.sends == n.number) (Some p) None)
        ≡ is_some (told ((o or_tell otherwise wanted.Sending n.sender p) >>= λ send.
        where_all ((p.sends == n.number, obstacles.OtherSend n p.sends) ∷ []) p))
    by_send p None = refl
    by_send p (Some s) = by_number p (p.sends == n.number)

    by_process : (o : Option Process) →
        is_none (o >>=o λ p. sending p.state >>=o λ s. cond (p.sends == n.number) (Some p) None)
        ≡ is_some (told ((o or_tell obstacles.NoProcess n.sender) >>= λ p.
        (sending p.state or_tell otherwise wanted.Sending n.sender p) >>= λ send.
        where_all ((p.sends == n.number, obstacles.OtherSend n p.sends) ∷ []) p))
    by_process None = refl
    by_process (Some p) = by_send p (sending p.state)

pub some_err : {A : Type 0} (r : Result A Obstacle) → is_some (result_err r) ≡ not (is_ok r)
some_err (Ok x) = refl
some_err (Err why) = refl

pub rest_some : (n : Name) (e : Exchange) (reply : Message × ℕ × List ℕ) → reply_of e.stage ≡ Some reply → told (finish_rest n e) ≡ None
rest_some n e reply is = ap (λ (o : Option (Message × ℕ × List ℕ)). told ((o or_tell obstacles.NotReplied n e.at (standing_of e.stage)) >>= λ r. Ok e)) is

pub rest_none : (n : Name) (e : Exchange) → reply_of e.stage ≡ None → told (finish_rest n e) ≡ Some (obstacles.NotReplied n e.at (standing_of e.stage))
rest_none n e is = ap (λ (o : Option (Message × ℕ × List ℕ)). told ((o or_tell obstacles.NotReplied n e.at (standing_of e.stage)) >>= λ r. Ok e)) is

pub rest_here : (k : Kernel) (s : Pid) (why : Ending) (n : Name) (e : Exchange) → same_host s e.target ≡ true →
    told (fail_rest k s why n e) ≡ Some (obstacles.OneStation s e.target)
rest_here k s why n e is =
    ap (λ b. told (where_all ((not b, obstacles.OneStation s e.target) ∷ []) e >>= λ far. failure_check k n e why)) is

pub rest_far : (k : Kernel) (s : Pid) (why : Ending) (n : Name) (e : Exchange) → same_host s e.target ≡ false →
    told (fail_rest k s why n e) ≡ told (failure_check k n e why)
rest_far k s why n e is =
    ap (λ b. told (where_all ((not b, obstacles.OneStation s e.target) ∷ []) e >>= λ far. failure_check k n e why)) is

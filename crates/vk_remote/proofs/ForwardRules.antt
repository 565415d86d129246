-- The rule of a Forward of a process of another station, as the code has it.
use Rattle.std.proofs.Common.{◌≡◌, ℕ, true, false, List, ◌++◌, Option, Some, None, refl}
use Rattle.std.specs.List.{position}
use Rattle.vk_types.specs.Types.{Message, Outcome, Pid, Step}
use Rattle.vk_base.specs.declared.call.Call.TheVariants as calls
use Rattle.vk_base.specs.Pids.{same_host}
use Rattle.vk_pool.specs.declared.alien.Alien.{Alien}
use Rattle.vk_pool.specs.Aliens.{is_alien_from}
use Rattle.vk_procs.specs.declared.seat.Seat.{Seat}
use Rattle.vk_stands.specs.Tables.{Tables}
use Rattle.vk_local.specs.Calls.{done_by, tables_of}
use Rattle.vk_local.specs.Rules.{IsTablesRule, may_call, named}
use Rattle.vk_local.proofs.Rules.{IsCallPlayed, tables_rule}
use Rattle.vk_remote.specs.Forwards.{IsFarForward, after_forward, forward_refusal, forward_steps, forwarded, moved_on}
use Rattle.vk_remote.proofs.Forwarded.{forward_is, named_over}

stay_by : (t : Tables) (m : Message) (to : Pid) (o : Option ℕ) → t.seats ≡ (moved_on t m to o).seats
stay_by t m to None = refl
stay_by t m to (Some slot) = refl

-- the message alone moves
pub seats_stay : (t : Tables) (from : Pid) (m : Message) (to : Pid) → t.seats ≡ (forwarded t from m to).seats
seats_stay t from m to = stay_by t m to (position (is_alien_from from) t.slots)

pub forward_rule : (pid from : Pid) (m : Message) (to : Pid) (t : Tables) (seats : List Seat) (lists : List (List ℕ))
    (slots : List (Option Alien)) (before after : List Step) (p : Option Outcome) → may_call t.seats pid ≡ true →
    same_host pid from ≡ false → IsFarForward pid from m to p t (tables_of seats lists slots) before after →
    IsTablesRule pid (calls.Forward m from to) p t (tables_of seats lists slots) before after
forward_rule pid from m to t seats lists slots before after p may far is =
    tables_rule pid (calls.Forward m from to) (done_by (forward_refusal t.seats t.slots pid from to)) (after_forward t pid from m to)
    (forward_steps t pid from m to) p t seats lists slots before after may is (λ c r s names out h fit can.
    named_over t names from m to (λ u ss. IsCallPlayed c pid.host r pid (calls.Forward m from to) (named names t) before out
    (done_by (forward_refusal t.seats t.slots pid from to)) u (before ++ ss)) pid
    (forward_is c pid.host (named names t) r h fit pid refl s can from far m to before out))

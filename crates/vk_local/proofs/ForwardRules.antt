-- The rule of a Forward of a process of the station, as the code has it.
use Rattle.std.proofs.Common.{◌≡◌, ℕ, true, List, ◌++◌, Option, refl, sym, subst}
use Rattle.vk_types.specs.Types.{Message, Outcome, Pid, Step}
use Rattle.vk_base.specs.declared.call.Call.TheVariants as calls
use Rattle.vk_base.specs.Pids.{same_host}
use Rattle.vk_pool.specs.declared.alien.Alien.{Alien}
use Rattle.vk_procs.specs.declared.seat.Seat.{Seat}
use Rattle.vk_stands.specs.Tables.{Tables}
use Rattle.vk_local.specs.Calls.{after_forward, done_by, forward_refusal, forward_steps, handed_over, tables_of}
use Rattle.vk_local.specs.Done.{IsForward}
use Rattle.vk_local.specs.Rules.{IsTablesRule, may_call, named}
use Rattle.vk_local.proofs.Forwarded.{forward_is}
use Rattle.vk_local.proofs.Rules.{IsCallPlayed, named_unless, tables_rule}

pub forward_rule : (pid from : Pid) (m : Message) (to : Pid) (t : Tables) (seats : List Seat) (lists : List (List ℕ))
    (slots : List (Option Alien)) (before after : List Step) (p : Option Outcome) → may_call t.seats pid ≡ true →
    same_host pid from ≡ true → IsForward pid from m to p t (tables_of seats lists slots) before after →
    IsTablesRule pid (calls.Forward m from to) p t (tables_of seats lists slots) before after
forward_rule pid from m to t seats lists slots before after p may near is =
    tables_rule pid (calls.Forward m from to) (done_by (forward_refusal t.seats pid from to)) (after_forward t pid from m to)
    (forward_steps t pid from m to) p t seats lists slots before after may is (λ c r s names out h fit can.
    subst (λ u. IsCallPlayed c pid.host r pid (calls.Forward m from to) (named names t) before out
    (done_by (forward_refusal t.seats pid from to)) u (before ++ forward_steps t pid from m to))
    (sym (named_unless names (forward_refusal t.seats pid from to) (handed_over t from m to) t))
    (forward_is c pid.host (named names t) r h fit pid refl s can from near m to before out))

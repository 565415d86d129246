-- The rule of a receive, as the code has it.
use Rattle.std.proofs.Common.{◌≡◌, ℕ, true, List, ◌++◌, Option, Some, refl, sym, subst}
use Rattle.vk_types.specs.Types.{Outcome, Pid, Step, Waiting}
use Rattle.vk_base.specs.Activities.{as_receive, call_of}
use Rattle.vk_pool.specs.declared.alien.Alien.{Alien}
use Rattle.vk_procs.specs.declared.seat.Seat.{Seat}
use Rattle.vk_stands.specs.Tables.{Tables}
use Rattle.vk_local.specs.Calls.{after_receive, awaited, begun_by, receive_refusal, receive_steps, tables_of}
use Rattle.vk_local.specs.Done.{IsReceive}
use Rattle.vk_local.specs.Rules.{IsTablesRule, may_call, named}
use Rattle.vk_local.proofs.Received.{receive_is}
use Rattle.vk_local.proofs.Rules.{IsCallPlayed, named_unless, tables_rule}

pub receive_rule : (pid : Pid) (w : Waiting) (t : Tables) (seats : List Seat) (lists : List (List ℕ)) (slots : List (Option Alien))
    (before after : List Step) (p : Option Outcome) → may_call t.seats pid ≡ true → as_receive w ≡ Some w →
    IsReceive pid w p t (tables_of seats lists slots) before after →
    IsTablesRule pid (call_of w) p t (tables_of seats lists slots) before after
receive_rule pid w t seats lists slots before after p may receive is =
    tables_rule pid (call_of w) (begun_by (receive_refusal t.seats pid w)) (after_receive t pid w) (receive_steps t pid w) p t
    seats lists slots before after may is (λ c r s names out h fit can.
    subst (λ u. IsCallPlayed c pid.host r pid (call_of w) (named names t) before out (begun_by (receive_refusal t.seats pid w)) u
    (before ++ receive_steps t pid w)) (sym (named_unless names (receive_refusal t.seats pid w) (awaited t pid w) t))
    (receive_is c pid.host (named names t) r h fit pid refl s can w receive before out))

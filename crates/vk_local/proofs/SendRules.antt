-- The rule of a local Send, as the code has it.
use Rattle.std.proofs.Common.{◌≡◌, ◌<◌, ℕ, ◌^◌, true, List, ◌++◌, Option, Some, refl, sym, subst}
use Rattle.vk_types.specs.Types.{Message, Outcome, Pid, Step}
use Rattle.vk_base.specs.declared.call.Call.TheVariants as calls
use Rattle.vk_base.specs.Pids.{same_host}
use Rattle.vk_pool.specs.declared.alien.Alien.{Alien}
use Rattle.vk_procs.specs.declared.seat.Seat.{Seat}
use Rattle.vk_procs.specs.Seats.{seat_in}
use Rattle.vk_stands.specs.Tables.{Tables}
use Rattle.vk_local.specs.Calls.{after_send, begun, begun_by, send_refusal, send_steps, tables_of}
use Rattle.vk_local.specs.Done.{IsSendDone}
use Rattle.vk_local.specs.Rules.{IsTablesRule, may_call, named}
use Rattle.vk_local.proofs.Rules.{IsCallPlayed, named_unless, tables_rule}
use Rattle.vk_local.proofs.Sent.{send_is}

pub send_rule : (pid target : Pid) (m : Message) (t : Tables) (seats : List Seat) (lists : List (List ℕ)) (slots : List (Option Alien))
    (before after : List Step) (p : Option Outcome) → may_call t.seats pid ≡ true → same_host pid target ≡ true →
    ((s : Seat) → seat_in t.seats pid ≡ Some s → s.note.sends < 2 ^ 48) →
    IsSendDone pid target m p t (tables_of seats lists slots) before after →
    IsTablesRule pid (calls.Send target m) p t (tables_of seats lists slots) before after
send_rule pid target m t seats lists slots before after p may near few is =
    tables_rule pid (calls.Send target m) (begun_by (send_refusal t.seats pid target m)) (after_send t pid target m)
    (send_steps t pid target m) p t seats lists slots before after may is (λ c r s names out h fit can.
    subst (λ u. IsCallPlayed c pid.host r pid (calls.Send target m) (named names t) before out
    (begun_by (send_refusal t.seats pid target m)) u (before ++ send_steps t pid target m))
    (sym (named_unless names (send_refusal t.seats pid target m) (begun t pid target m) t))
    (send_is c pid.host (named names t) r h fit pid refl s can (few s can.found) target near m before out))

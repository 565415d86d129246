-- Internal: no public contract rests on this file. What an Exit changes at each place of the lists.
use Rattle.std.specs.Prelude.{ℕ, ◌≡◌, Bool, ◌&&◌, List, [], length, slice_get, is_some, unwrap_or, if◌then◌else◌}
use Rattle.vk_types.specs.Types.{Exchange, Pid, Process, State}
use Rattle.vk_base.specs.declared.answer.Answer.TheVariants as answers
use Rattle.vk_base.specs.declared.answer.Refusal.TheVariants as refusals
use Rattle.vk_base.specs.Calls.{is_message_at, dropped_at}
use Rattle.vk_base.specs.Kernel.{holds_of, sending, ended}
use Rattle.vk_base.specs.Pids.{same_host}
use Rattle.v_machine.specs.declared.tables.latest.Latest.{Latest}
use Rattle.v_machine.specs.declared.tables.proc.Proc.{Proc}
use Rattle.v_machine.specs.Latest.{latest_in}
use Rattle.v_machine.specs.Lists.{change_numbered}
use Rattle.v_machine.specs.Places.{numbered}
use Rattle.v_machine.specs.Tables.{process_of}

-- the process of the second pid, which has begun these Sends, waits on the one that is gone
abbrev pub is_left : (gone pid : Pid) → List Exchange → State → Bool
is_left gone pid ss s = same_host pid gone && is_some (sending s) && holds_of (is_message_at gone) ((numbered ss (length ss)))

abbrev pub left : (gone pid : Pid) → List Exchange → Process → Process
left gone pid ss x = if is_left gone pid ss x.state then record x { state = ended x.state (answers.Refused refusals.NoProcess) } else x

-- what becomes of the process of each place
abbrev pub Leaves : Pid → List Pid → List (List Exchange) → ℕ → Proc → Proc → Type 0
Leaves gone pids sends at before after =
    (s l : ℕ) → process_of after s l ≡
    left gone (unwrap_or (slice_get pids at) gone) (unwrap_or (slice_get sends at) []) (process_of before s l)

-- what becomes of the Sends of each place
abbrev pub Drops : Pid → List (List Latest) → ℕ → List Exchange → List Exchange → Type 0
Drops gone latest at before after =
    after ≡ change_numbered (latest_in (unwrap_or (slice_get latest at) []) gone.host) (dropped_at gone) before

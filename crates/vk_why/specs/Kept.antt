-- The kernel in which is looked for what is in the way of a step, and what is found there.
use Rattle.std.specs.Prelude.{ℕ, ◌≡◌, List}
use Rattle.vk_types.specs.Types.{Exchange, Name, Pid, Process}
use Rattle.vk_base.specs.Kernel.{Kernel, name_of, sending}
use Rattle.v_machine.specs.declared.look.ProcessView.{ProcessView}
use Rattle.v_machine.specs.Look.{process_by}
use Rattle.v_machine.specs.Spent.{current_kernel}
use Rattle.v_machine.specs.Tables.{Tables, kernel_of}
use Rattle.v_obstacle.specs.Obstacles.{◌>>=◌, ◌or_tell◌, Finds, exchange_at, otherwise, process_at}
use Rattle.v_obstacle.specs.declared.obstacle.Wanted.TheVariants as wanted
use Rattle.std.specs.Prelude.{Ok}

-- that of the tables of a machine, without the exchanges that are over
abbrev pub kept_kernel : Tables → Kernel
kept_kernel t = current_kernel (kernel_of t)

-- this is found, and of it this is seen
abbrev pub FindsAs : Finds Process → ProcessView → Type 0
FindsAs found v = (m : List ℕ) × (found ≡ Ok (process_by v m))

-- the process, which is blocked in a Send
abbrev pub sending_at : Kernel → Pid → Finds Process
sending_at k pid = do
  p ← process_at k pid
  send ← sending p.state or_tell otherwise wanted.Sending pid p
  Ok p

-- what comes of the Send that the process waits in
abbrev pub with_own_send : Kernel → Pid → (Name → Exchange → Finds Exchange) → Finds Exchange
with_own_send k s f = do
  p ← process_at k s
  send ← sending p.state or_tell otherwise wanted.Sending s p
  e ← exchange_at k (name_of s p.sends)
  f (name_of s p.sends) e

-- Jobs, as callers see them.
use Rattle.std.specs.Prelude.{ℕ, List}
use Rattle.vk_types.specs.Types.{Pid}
use Rattle.vk_port.specs.Ports.{PortValue}

-- a process with its program and its port
pub record ProcessDuty (G : Type 0) : Type 0 where
  pub port : PortValue
  pub pid : Pid
  pub program : G

-- the ports that the clock ticks, and how many rounds
pub record ClockDuty : Type 0 where
  pub ports : List PortValue
  pub rounds : ℕ

-- What a job is, and what its end may be.
use Rattle.std.specs.Prelude.{ℕ, List, [], ◌∷◌, Option}
use Rattle.vk_types.specs.Types.{Answer, Call}
use Rattle.vk_port.specs.Ports.{PortValue}
use Rattle.v_run.specs.Passages.{Pumps, Role, Runs}
use Rattle.vk_threads.specs.declared.end.End.{End}
use Rattle.vk_threads.specs.declared.work.RunJob.{RunJob}
use Rattle.vk_threads.specs.declared.work.RunJob.TheVariants as works
use Rattle.vk_threads.specs.Ends.{MayEnd, ticking}

-- its ports, its role at each, and for how many rounds it is the clock
abbrev pub ports_of : {G P : Type 0} → RunJob G P → List PortValue
ports_of (works.Process w) = w.port ∷ []
ports_of (works.Pump port) = port ∷ []
ports_of (works.Clock w) = w.ports

abbrev pub roles_of : {G P : Type 0} → (G → List Answer → Option Call) → RunJob G P → List Role
roles_of task (works.Process w) = Runs w.pid (task w.program) ∷ []
roles_of task (works.Pump port) = Pumps ∷ []
roles_of task (works.Clock w) = ticking w.ports

abbrev pub rounds_of : {G P : Type 0} → RunJob G P → ℕ
rounds_of (works.Process w) = 0
rounds_of (works.Pump port) = 0
rounds_of (works.Clock w) = w.rounds

abbrev pub ends_as : {G P : Type 0} → (G → List Answer → Option Call) → RunJob G P → End → Type 0
ends_as task w e = MayEnd (ports_of w) (roles_of task w) (rounds_of w) e.seats.items e.met

-- What a machine that gives the bytes of spent moves back, and forgets exchanges that are over, answers to a step.
use Rattle.std.specs.Prelude.{◌≡◌, ◌+◌, ◌≤◌, Option, Some, Result, Ok, Err}
use Rattle.vk_types.specs.Types.{Observation, Step}
use Rattle.vk_base.specs.Kernel.{Kernel}
use Rattle.vk_base.specs.Steps.{effect}
use Rattle.v_machine.specs.declared.refusal.ApplyRefusal.{ApplyRefusal}
use Rattle.v_machine.specs.Apply.{IsRefused, most, notes}
use Rattle.v_machine.specs.Spent.{current_kernel, lean_kernel}
use Rattle.v_machine.specs.Tables.{Tables, kernel_of}

-- It stands for a kernel where its tables, without the exchanges that are over, are those of the kernel without these and without the bytes
-- of spent moves. Which of these exchanges it still has, and how they look there, does not matter.
abbrev pub StandsFor : Tables → Kernel → Type 0
StandsFor t k = current_kernel (kernel_of t) ≡ lean_kernel k

-- the kernel takes the step, this is seen of it, and the machine stands for the kernel after it
pub record Takes (k : Kernel) (s : Step) (old new : Tables) (seen : Option Observation) : Type 0 where
  pub after : Kernel
  pub is : effect k s ≡ Some (record { after = after; seen = seen })
  pub stands : StandsFor new after
  pub noted : new.noted ≡ old.noted + notes k s
  pub few : new.noted ≤ most

-- what applying a step gives, for a kernel that the machine stands for
abbrev pub FollowsOne : Kernel → Step → Tables → Tables → Result (Option Observation) ApplyRefusal → Type 0
FollowsOne k s old new (Ok seen) = Takes k s old new seen
FollowsOne k s old new (Err why) = IsRefused k old.noted s why × (new ≡ old)

-- It stands for the kernel of its own tables, and that is so for each kernel that it stands for.
abbrev pub Follows : Step → Tables → Tables → Result (Option Observation) ApplyRefusal → Type 0
Follows s old new r = StandsFor old (kernel_of old) × ((k : Kernel) → StandsFor old k → FollowsOne k s old new r)

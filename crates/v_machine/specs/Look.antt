-- What is seen of a process where a machine is looked at: all but its memory.
use Rattle.std.specs.Prelude.{ℕ, List}
use Rattle.vk_types.specs.Types.{Process}
use Rattle.vk_base.specs.Activities.{state_of}
use Rattle.v_machine.specs.declared.look.ProcessView.{ProcessView}

-- the process of which this is seen, and which has this memory
abbrev pub process_by : ProcessView → List ℕ → Process
process_by v memory = record {
  alive = v.alive;
  memory = memory;
  state = state_of v.activity;
  sends = v.sends;
  lookups = v.lookups;
  moving = v.moving;
}

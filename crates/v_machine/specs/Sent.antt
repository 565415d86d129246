-- Internal: no public contract rests on this file. What an exchange in few bytes stands for.
use Rattle.std.specs.Prelude.{Bool, true, [], Option, Some}
use Rattle.vk_types.specs.Types.{Exchange, Message, Pid, Stage}
use Rattle.vk_base.specs.declared.kernel.Stage.TheVariants as stages
use Rattle.v_machine.specs.Apart.{only_part}
use Rattle.v_machine.specs.declared.tables.apart.Rare.{Rare}
use Rattle.v_machine.specs.declared.tables.handed.Handing.{Handing}
use Rattle.v_machine.specs.declared.tables.sent.Phase.{Phase}
use Rattle.v_machine.specs.declared.tables.sent.Phase.TheVariants as phases

-- how far an exchange is, with this reply, where there is one
abbrev pub stage_by : Phase → Message → Rare → Stage
stage_by phases.Posted m r = stages.Posted
stage_by phases.Queued m r = stages.Queued
stage_by phases.Taken m r = stages.Taken
stage_by phases.Replied m r = stages.Replied m r.dest r.bytes
stage_by phases.Dropped m r = stages.Dropped

-- where a message is and what is shown there: its target and itself, where it was not handed on
abbrev pub handing_by : Bool → Option Handing → Pid → Message → Handing
handing_by true (Some h) target message = h
handing_by is_handed h target message = record { at = target; shown = message }

abbrev pub exchange_by : Pid → Message → Phase → Message → Bool → Rare → Exchange
exchange_by target message phase reply is_handed r = record {
  target = target;
  message = message;
  part = r.part;
  at = (handing_by is_handed r.handed target message).at;
  shown = (handing_by is_handed r.handed target message).shown;
  stage = stage_by phase reply r;
  moves = r.moving.moves;
  opened = r.moving.opened;
  done = r.moving.done;
}

-- the stage of a Send that begins: queued at its own station, or posted to another one
abbrev pub first_stage : Phase → Message → Stage
first_stage phase m = stage_by phase m (only_part [])

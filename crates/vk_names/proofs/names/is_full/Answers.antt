use Rattle.vk_names.proofs.Replaced.{full_found, full_none}
use Rattle.vk_names.proofs.names.is_full.Goals as goal

pub returns-in-Some : goal.returns-in-Some
returns-in-Some c = full_found c.args.logical c.args.names.now c.in-Some.field-0 c.args.older c.requires.older c.in-Some.is c.requires.once

pub returns-in-None : goal.returns-in-None
returns-in-None c = full_none c.args.logical c.args.names.now c.args.older c.requires.older c.in-None.is c.requires.once

use Rattle.vk_port.proofs.Opening.{opens_none, opens_some}
use Rattle.vk_port.proofs.opened.frame_is.Goals as goal

pub returns-in-Some : goal.returns-in-Some
returns-in-Some c =
    opens_some c.packets_are_spelled_once.ensures.read c.args.bytes.now c.in-Some.rest.now c.in-Some.field-0-0 c.in-Some.ensures.exact c.are_bytes.ensures

pub returns-in-None : goal.returns-in-None
returns-in-None c = opens_none c.args.bytes.now c.in-None.ensures.exact

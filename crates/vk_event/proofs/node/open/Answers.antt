use Rattle.std.proofs.Common.{inl, inr, refl}
use Rattle.vk_event.proofs.NodeOpenings.{is_titled, is_untitled, not_opened, nothing, opened, other_title, some_lines, wanting}
use Rattle.vk_event.proofs.node.open.Goals as goal

pub returns-in_default-clause-refused : goal.returns-in_default-clause-refused
returns-in_default-clause-refused c = inr (nothing c.args.text.now c.in_default.ensures.line)

pub returns-then-ne-clause-refused : goal.returns-then-ne-clause-refused
returns-then-ne-clause-refused c =
    inr (other_title c.args.text.now _ _ c.in-Some.ensures.line (is_untitled _ _ c.if-ne.ensures c.as_slice.ensures))

pub returns-in-Ok-clause-opening : goal.returns-in-Ok-clause-opening
returns-in-Ok-clause-opening c =
    opened c.args.text.now _ _ _ _ c.in-Some.ensures.line (is_titled _ _ c.if-ne.ensures c.as_slice.ensures) c.in-Ok.ensures.opening

pub returns-in-Ok-clause-least : goal.returns-in-Ok-clause-least
returns-in-Ok-clause-least c = some_lines _ _ _ _ c.in-Ok.ensures.opening c.in-Ok.ensures.line

pub returns-in-Err-Bad-clause-refused : goal.returns-in-Err-Bad-clause-refused
returns-in-Err-Bad-clause-refused c =
    inr (not_opened c.args.text.now _ _ _ _ c.in-Some.ensures.line (is_titled _ _ c.if-ne.ensures c.as_slice.ensures) c.in-Err-Bad.field-0-is c.in-Err-Bad.ensures.refused)

pub returns-in-Err-NoMemory-clause-refused : goal.returns-in-Err-NoMemory-clause-refused
returns-in-Err-NoMemory-clause-refused c =
    inl (refl, wanting c.args.text.now _ _ _ c.in-Some.ensures.line (is_titled _ _ c.if-ne.ensures c.as_slice.ensures) c.in-Err-NoMemory.field-0-is c.in-Err-NoMemory.ensures.refused)

use Rattle.vk_text.specs.Texts.{shown}
use Rattle.vk_report.proofs.Drafts.{front_kept, line_written}
use Rattle.vk_report.proofs.entry.write_copy.Goals as goal

pub returns-in_err-copy-clause-whole : goal.returns-in_err-copy-clause-whole
returns-in_err-copy-clause-whole c =
    front_kept (shown c.args.text.now) c.make_room.new.self.bytes.items c.make_room.new.self.draft _ _ _ c.in_ok-make_room.ensures.same
    c.put.ensures c.in_err-copy.ensures.whole

pub returns-clause-ok : goal.returns-clause-ok
returns-clause-ok c =
    line_written (shown c.args.text.now) c.make_room.new.self.bytes.items c.make_room.new.self.draft _ _ _ _ _ _ _ c.in_ok-make_room.ensures.same
    c.put.ensures c.in_ok-copy.ensures.ok c.byte.ensures

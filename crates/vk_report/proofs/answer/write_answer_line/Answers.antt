use Rattle.vk_text.specs.Texts.{shown}
use Rattle.vk_report.proofs.Drafts.{front_behind, front_kept, line_written}
use Rattle.vk_report.proofs.answer.write_answer_line.Goals as goal

pub returns-clause-ok : goal.returns-clause-ok
returns-clause-ok c =
    line_written (shown c.args.text.now) c.make_room.new.self.bytes.items c.make_room.new.self.draft _ _ _ _ _ _ _ c.in_ok-make_room.ensures.same
    c.draft_place.ensures.text c.in_ok-go_on_with_answer.ensures.ok c.byte.ensures

pub returns-in_err-go_on_with_answer-clause-whole : goal.returns-in_err-go_on_with_answer-clause-whole
returns-in_err-go_on_with_answer-clause-whole c =
    front_kept (shown c.args.text.now) c.make_room.new.self.bytes.items c.make_room.new.self.draft _ _ _ c.in_ok-make_room.ensures.same
    c.draft_place.ensures.text c.in_err-go_on_with_answer.ensures.whole

pub returns-clause-whole : goal.returns-clause-whole
returns-clause-whole c = front_behind (shown c.args.text.now) _ _ (returns-clause-ok c)

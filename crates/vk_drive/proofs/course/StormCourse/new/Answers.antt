use Rattle.vk_drive.proofs.Opening.{course_first}
use Rattle.vk_drive.proofs.course.StormCourse.new.Goals as goal

pub returns : goal.returns
returns c = course_first _ c.in_ok-new.ensures c.new-2.ensures

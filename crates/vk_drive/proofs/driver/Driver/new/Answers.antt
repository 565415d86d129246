use Rattle.vk_drive.proofs.Opening.{actors_first}
use Rattle.vk_drive.proofs.driver.Driver.new.Goals as goal

pub returns-clause-driver : goal.returns-clause-driver
returns-clause-driver c = record {
  config = c.in_ok-config.ensures;
  course = c.in_ok-course.ensures;
  actors = actors_first c.in_ok-actors.actors.items c.in_ok-actors.ensures;
}

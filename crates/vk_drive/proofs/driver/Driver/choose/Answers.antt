use Rattle.std.proofs.Common.{refl, sym, ap, ◌∙◌}
use Rattle.std.proofs.lemmas.Bool.{both_ways}
use Rattle.vk_rules.specs.Histories.{history_of}
use Rattle.vk_drive.specs.Driving.{all_frames, is_delivery}
use Rattle.vk_drive.specs.Storms.{Choice, delivery_choice}
use Rattle.vk_drive.specs.Tasks.{settings, task_at}
use Rattle.vk_drive.specs.Told.{answered_to}
use Rattle.vk_drive.proofs.Chosen.{process_comes}
use Rattle.vk_drive.proofs.Emitted.{headers_are}
use Rattle.vk_drive.proofs.Playing.{choice_delivery, choice_process, choice_tick}
use Rattle.vk_drive.proofs.driver.Driver.choose.Goals as goal

pub choose_process-requires : goal.choose_process-requires
choose_process-requires c = c.requires.1.actors.count

pub choose_delivery-self-requires : goal.choose_delivery-self-requires
choose_delivery-self-requires c = (all_frames (history_of settings c.requires.0), c.requires.1.course.stations.recent)

pub returns-then-kind-lt3 : goal.returns-then-kind-lt3
returns-then-kind-lt3 c es is =
    let hs = history_of settings es in
    let next = c.choose_process.ensures.next hs is.actors in
    record {
      config = refl;
      course = refl;
      next = next;
      comes = λ delivery.
          let t = task_at c.choose_process.result in
          absurd (both_ways _ (process_comes t (answered_to t.pid hs) _ next.1.event) delivery);
      choice_is =
          c.choose_process.ensures.chosen hs is.actors
          ∙ sym (choice_process c.args.self.now.generator c.draw-kind.result c.draw-kind.new.self hs c.draw-kind.ensures.state
          c.draw-kind.ensures.drawn c.if-kind-lt3.true);
    }

pub returns-then-kind-lt6 : goal.returns-then-kind-lt6
returns-then-kind-lt6 c es is =
    let hs = history_of settings es in
    let recent = is.course.stations.recent in
    record {
      config = refl;
      course = refl;
      next = (is.actors, c.choose_delivery-self.ensures.station);
      comes = c.choose_delivery-self.ensures.frame (all_frames hs) recent;
      choice_is =
          c.choose_delivery-self.ensures.chosen (all_frames hs) recent
          ∙ ap (delivery_choice c.draw-kind.new.self) (sym (headers_are hs))
          ∙ sym (choice_delivery c.args.self.now.generator c.draw-kind.result c.draw-kind.new.self hs c.draw-kind.ensures.state
          c.draw-kind.ensures.drawn c.if-kind-lt3.false c.if-kind-lt6.true);
    }

pub returns-else-kind-lt6 : goal.returns-else-kind-lt6
returns-else-kind-lt6 c es is =
    let hs = history_of settings es in
    record {
      config = refl;
      course = refl;
      next = (is.actors, c.choose_tick.ensures.station);
      comes = λ delivery. absurd (both_ways _ (ap (λ (x : Choice). is_delivery x.event) c.choose_tick.ensures.chosen) delivery);
      choice_is =
          c.choose_tick.ensures.chosen
          ∙ sym (choice_tick c.args.self.now.generator c.draw-kind.result c.draw-kind.new.self hs c.draw-kind.ensures.state
          c.draw-kind.ensures.drawn c.if-kind-lt3.false c.if-kind-lt6.false);
    }

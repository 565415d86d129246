use Rattle.std.proofs.Common.{sym, ap, ◌∙◌}
use Rattle.vk_schedule.specs.declared.schedule.Front.{Front}
use Rattle.vk_schedule.proofs.RemainingEvents.{config_left}
use Rattle.vk_schedule.proofs.reader.EventReader.config.Goals as goal

pub returns : goal.returns
returns c = sym (config_left _ _ _ _) ∙ ap (λ (f : Front). f.schedule.config) c.self.view_is

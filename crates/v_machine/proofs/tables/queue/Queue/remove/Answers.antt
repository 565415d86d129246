use Rattle.std.proofs.Common.{not, rules, ap, ◌∙◌}
use Rattle.std.proofs.lemmas.Fn.{filter_same}
use Rattle.vk_base.specs.Kernel.{same_name, without}
use Rattle.v_machine.proofs.tables.queue.Queue.remove.Goals as goal

pub returns : goal.returns
returns c = filter_same _ (λ n. not (same_name n c.args.name)) _ (λ x b f' k. search rules) _ _ c.retain.ensures.filtered
    ∙ ap (without c.args.name) c.self.view_is

use Rattle.std.proofs.Common.{option_copied, sym, ◌∙◌}
use Rattle.vk_files.proofs.Stepping.{after_told, called_by_task, failed_by_asking, failed_only, same_task}
use Rattle.vk_files.proofs.server.FileServerProgram.next.Goals as goal

pub returns-clause-task : goal.returns-clause-task
returns-clause-task g c = same_task (option_copied c.args.last) c.args.self.now c.hear.new.self c.hear.ensures

pub returns-clause-after : goal.returns-clause-after
returns-clause-after g c = after_told (option_copied c.args.last) c.args.self.now c.hear.new.self c.hear.ensures

pub returns-clause-call : goal.returns-clause-call
returns-clause-call g c = λ answers is.
    c.call.ensures ∙ called_by_task (option_copied c.args.last) c.args.self.now c.hear.new.self c.hear.ensures answers is

pub returns-clause-failed : goal.returns-clause-failed
returns-clause-failed g c = λ a from given called.
    failed_only (option_copied c.args.last) c.args.self.now c.hear.new.self c.hear.ensures a from given (sym c.call.ensures ∙ called)

pub returns-clause-none_ahead : goal.returns-clause-none_ahead
returns-clause-none_ahead g c = λ a from block given called asked.
    failed_by_asking (option_copied c.args.last) c.args.self.now c.hear.new.self c.hear.ensures a from block given
    (sym c.call.ensures ∙ called) asked

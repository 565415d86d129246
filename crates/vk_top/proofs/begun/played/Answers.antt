use Rattle.vk_top.proofs.begun.played.Goals as goal

pub returns-in-Ok-clause-work : goal.returns-in-Ok-clause-work
returns-in-Ok-clause-work c = λ text all. c.work_of.ensures c.args.form text (c.in-Ok.ensures text all)

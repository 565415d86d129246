use Rattle.std.proofs.Common.{List, drop, ◌++◌}
use Rattle.vk_threads.specs.declared.opening.Site.{Site}
use Rattle.vk_threads.specs.declared.opening.Spare.{Spare}
use Rattle.vk_threads.specs.Opened.{AreOpened}
use Rattle.vk_threads.proofs.opening.open_all.Given as goal

abbrev pub invariant-loop-host : goal.invariant-loop-host
invariant-loop-host l = (ss : List Site) (sp : List Spare) → AreOpened l.config l.hosts (drop l.host-index l.stations) ss sp
    → AreOpened l.config l.hosts l.stations (l.sites.items ++ ss) (l.spares.items ++ sp)

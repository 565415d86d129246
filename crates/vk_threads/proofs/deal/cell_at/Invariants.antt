use Rattle.std.proofs.Common.{◌≡◌, drop}
use Rattle.vk_threads.specs.Ended.{cell_at}
use Rattle.vk_threads.proofs.deal.cell_at.Given as goal

abbrev pub invariant-loop-site : goal.invariant-loop-site
invariant-loop-site l = cell_at l.sites l.host ≡ cell_at (drop l.site-index l.sites) l.host

use Rattle.std.proofs.Common.{◌≡◌, Bool, true, List, ◌++◌}
use Rattle.vk_schedule.specs.declared.log.StationLog.{StationLog}
use Rattle.vk_threads.specs.Gathered.{AreReady, AreShut}
use Rattle.vk_threads.proofs.gather.close_all.Given as goal

abbrev pub invariant-loop-site : goal.invariant-loop-site
invariant-loop-site l = record {
  ready : AreReady l.site-iterator.rest.items l.left.items;
  shut : (still : Bool) (ls : List StationLog) → (still ≡ true → l.all_still ≡ true)
      → AreShut l.fn.specs l.fn.rounds still l.site-iterator.rest.items l.left.items ls
      → AreShut l.fn.specs l.fn.rounds still l.fn.sites.items l.fn.seats.items (l.logs.items ++ ls);
}

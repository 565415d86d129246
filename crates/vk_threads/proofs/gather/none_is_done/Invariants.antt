use Rattle.std.proofs.Common.{take}
use Rattle.v_run.specs.Laws.{NoneIsReady}
use Rattle.vk_port.specs.Stations.{origin_of}
use Rattle.vk_threads.proofs.gather.none_is_done.Given as goal

abbrev pub invariant-loop-spec : goal.invariant-loop-spec
invariant-loop-spec l = NoneIsReady (take l.spec-index l.specs) (origin_of l.station) l.station.history

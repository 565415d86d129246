use Rattle.std.proofs.Common.{◌≡◌, true, length, filter}
use Rattle.std.specs.List.{list_any}
use Rattle.vk_types.specs.Types.{Name}
use Rattle.vk_base.specs.Kernel.{same_name}
use Rattle.v_machine.specs.Kept.{queued_at}
use Rattle.v_machine.specs.Tables.{exchanges_by}
use Rattle.v_machine.proofs.tables.queues.first_queued.Given as goal

abbrev pub invariant-loop-name : goal.invariant-loop-name
invariant-loop-name l = record {
  same : filter (queued_at (exchanges_by l.places l.sends) l.pid) l.queue ≡ filter (queued_at (exchanges_by l.places l.sends) l.pid)
      l.fn.queue;
  among : (n : Name) → list_any (same_name n) l.queue ≡ true → list_any (same_name n) l.fn.queue ≡ true;
}

abbrev pub decreases-loop-name : goal.decreases-loop-name
decreases-loop-name l = length l.queue

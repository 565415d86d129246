use Rattle.std.proofs.Common.{◌≡◌, ◌≤◌, false, nat_lt, None, subst}
use Rattle.vk_base.specs.declared.limits.TheConstants.{EVENTS as MOST_EVENTS}
use Rattle.vk_cluster.specs.declared.frames.TheConstants.{MOST_BYTES}
use Rattle.vk_join.specs.Logs.{byte_count, entries_at, event_count}
use Rattle.vk_join.specs.Stray.{first_stray}
use Rattle.vk_join.proofs.Unrefused.{none_refused}
use Rattle.vk_join.proofs.join.join_stations.Goals as goal

pub returns-clause-possible : goal.returns-clause-possible
returns-clause-possible c =
    let config = c.args.config.now in
    let logs = c.args.logs.items in
    let few : nat_lt MOST_EVENTS (event_count logs) ≡ false = cc in
    let bytes = subst (λ ls. byte_count config ls ≤ MOST_BYTES) c.deref-3.ensures.value c.in_ok-replay.ensures.played.most in
    let none : first_stray (entries_at config logs) logs ≡ None = cc in
    none_refused config logs few bytes none

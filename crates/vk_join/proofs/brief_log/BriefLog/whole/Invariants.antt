use Rattle.std.proofs.Common.{◌≡◌, ◌≤◌, length, take, vec_len, vec_capacity}
use Rattle.vk_join.proofs.brief_log.BriefLog.whole.Given as goal

abbrev pub invariant-loop-at : goal.invariant-loop-at
invariant-loop-at l = record {
  items : l.events.items ≡ take l.at l.self-inside.events.items;
  count : vec_len l.events ≡ l.at;
  room : length l.self-inside.events.items ≤ vec_capacity l.events;
}

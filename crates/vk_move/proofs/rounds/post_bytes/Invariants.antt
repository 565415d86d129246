use Rattle.std.proofs.Common.{◌≡◌, ◌+◌, ◌*◌, map}
use Rattle.std.specs.List.{range_with_len}
use Rattle.vk_rules.specs.PacketOutcomes.{bytes_packet}
use Rattle.vk_stands.specs.Rules.{posted}
use Rattle.vk_move.proofs.rounds.post_bytes.Given as goal

abbrev pub invariant-loop-piece : goal.invariant-loop-piece
invariant-loop-piece l = l.out ≡ posted l.initial.out
    (map (bytes_packet l.subject.name.exchange l.subject.mover l.subject.name.number l.asked.src l.asked.total l.memory)
    (map (λ i. l.asked.offset + 1024 * i) (range_with_len 0 l.piece)))

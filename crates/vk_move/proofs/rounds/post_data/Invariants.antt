use Rattle.std.proofs.Common.{◌≡◌, ◌+◌, ◌*◌, map}
use Rattle.std.specs.List.{range_with_len}
use Rattle.vk_rules.specs.Rounds.{data_packet}
use Rattle.vk_stands.specs.Rules.{posted}
use Rattle.vk_move.proofs.rounds.post_data.Given as goal

abbrev pub invariant-loop-piece : goal.invariant-loop-piece
invariant-loop-piece l = l.out ≡ posted l.initial.out
    (map (data_packet l.subject.mover l.transfer.partner l.memory l.transfer.dest l.transfer.src l.transfer.count l.subject.name)
    (map (λ i. l.from + 1024 * i) (range_with_len 0 l.piece)))

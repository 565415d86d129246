use Rattle.std.proofs.lemmas.Bool.{ne_eqb}
use Rattle.vk_frame.specs.Reading.{frame_of}
use Rattle.vk_rules.specs.Frames.{every_station}
use Rattle.vk_cluster.proofs.Handed.{named_for}
use Rattle.vk_cluster.proofs.cluster.is_for.Goals as goal

pub returns-else-destination-eq-EVERY_STATION : goal.returns-else-destination-eq-EVERY_STATION
returns-else-destination-eq-EVERY_STATION c =
    named_for c.args.to c.args.destination (frame_of c.args.bytes.now) c.requires
    (ne_eqb c.args.destination every_station c.if-destination-eq-EVERY_STATION.false)

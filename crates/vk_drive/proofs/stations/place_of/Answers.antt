use Rattle.vk_drive.proofs.Emitted.{station_place}
use Rattle.vk_drive.proofs.stations.place_of.Goals as goal

pub returns : goal.returns
returns c = station_place c.args.host c.requires

use Rattle.std.proofs.Common.{subst, ◌∙◌, ap}
use Rattle.vk_types.specs.Types.{ProcessSpec}
use Rattle.vk_base.specs.Pids.{IsPid}
use Rattle.vk_base.specs.Settings.{AreLawful, Settings, stations_of}
use Rattle.vk_cluster.specs.Standing.{AreHosts}
use Rattle.vk_rules.specs.Each.{Each}
use Rattle.vk_drive.proofs.Opening.{stations_first}
use Rattle.vk_drive.proofs.stations.StormStations.new.Goals as goal

pub returns : goal.returns
returns c =
    let lawful = subst AreLawful c.requires c.times-lawful.ensures.lawful in
    let pids =
    subst (Each (λ (p : ProcessSpec). IsPid p.pid)) (c.specs.ensures.specs ∙ ap (λ (d : Settings). d.specs) c.requires)
    c.pids_are.ensures in
    let hosts = c.in_ok-new_hosts.field-0 in
    stations_first _ lawful pids
    (subst (λ (d : Settings). AreHosts d hosts.items (stations_of d.specs)) c.requires c.in_ok-new_hosts.ensures)
    c.in_ok-new.ensures.frames c.in_ok-new.ensures.size

use Rattle.std.specs.Prelude.{Some}
use Rattle.vk_udp.specs.Docked.{duty_of}
use Rattle.vk_udp.proofs.node.run_jobs.Given as goal

abbrev pub ghosts-run_docked : goal.ghosts-run_docked
ghosts-run_docked g a = record {
  duty = Some (duty_of g.L.Link.handed g.L.Link.sent g.L.Link.fault_count a.cargo.port a.cargo.hub_seat a.cargo.route.ports.now a.cargo.link);
}

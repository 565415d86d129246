-- Before the first event.
use Rattle.std.proofs.Common.{◌≡◌, List, [], length, replicate, refl, arith}
use Rattle.vk_types.specs.Types.{ProcessSpec}
use Rattle.vk_base.specs.Pids.{IsPid}
use Rattle.vk_base.specs.Settings.{AreLawful, stations_of}
use Rattle.vk_cluster.specs.Standing.{AreHosts}
use Rattle.vk_cluster.proofs.Begins.{begins}
use Rattle.vk_rules.specs.Each.{Each}
unfoldable use Rattle.vk_rules.specs.Histories.{history}
use Rattle.vk_rules.specs.Histories.{history_of}
use Rattle.vk_drive.specs.declared.actor.Actor.{Actor}
use Rattle.vk_drive.specs.declared.course.StormCourse.{StormCourse}
use Rattle.vk_drive.specs.declared.stations.StormStations.{StormStations}
use Rattle.vk_drive.specs.Driving.{AreActors, AreStations, IsCourse, KeepsRecent}
use Rattle.vk_drive.specs.Tasks.{settings, specs}

pub stations_first : (s : StormStations) → AreLawful settings → Each (λ (p : ProcessSpec). IsPid p.pid) specs →
    AreHosts settings s.hosts.items (stations_of specs) → KeepsRecent [] s.recent → s.recent.size ≡ 0 → AreStations [] s
unfolding history
stations_first s lawful pids are recent none = record {
  cluster = _;
  stands =
      begins settings settings s.hosts.items (record { bytes = []; frames = []; events = replicate (length (stations_of specs)) [] })
      (length (stations_of specs)) refl lawful pids are refl refl;
  hosts = refl;
  size = none;
  recent = recent;
  emitted = tt;
  few = let count = recent.count in omega (arith, count);
}

pub course_first : (c : StormCourse) → AreStations [] c.stations →
    c.counts ≡ record { frames = 0; taken = 0; late = 0; answers = 0; timedout = 0 } → IsCourse [] c
unfolding history
course_first c stations counts = record { stations = stations; counts_are = counts }

pub actors_first : (actors : List Actor) → AreActors actors [] → AreActors actors (history_of settings [])
unfolding history
actors_first actors are = are

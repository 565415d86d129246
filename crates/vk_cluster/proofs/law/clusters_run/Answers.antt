use Rattle.vk_cluster.proofs.Runs.{clusters_run}
use Rattle.vk_cluster.proofs.law.clusters_run.Goals as goal

pub returns : goal.returns
returns c = clusters_run

-- What a cluster stands for is a run.
use Rattle.v_whole.proofs.Distinct.{lawful_distinct}
use Rattle.v_whole.proofs.Histories.{schedules_run}
use Rattle.vk_cluster.specs.Law.{ClustersRun}

pub clusters_run : ClustersRun
clusters_run c es k st =
    schedules_run c es (lawful_distinct c.specs st.lawful.processes) st.processes

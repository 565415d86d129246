-- What a report of few bytes tells.
use Rattle.std.proofs.Common.{◌≡◌, ℕ, Some, sym, ap, subst, ◌∙◌}
use Rattle.std.specs.Prelude.{slice_get}
use Rattle.std.proofs.lemmas.Option.{same_Some}
use Rattle.vk_host.specs.declared.response.Response.{Response}
use Rattle.vk_host.specs.Values.{StationValue}
use Rattle.vk_cluster.specs.declared.report.Advance.{Advance}
use Rattle.vk_cluster.specs.declared.report.Advance.TheVariants as advances
use Rattle.vk_cluster.specs.declared.report.StepReport.{StepReport}
use Rattle.vk_cluster.specs.Standing.{TellsReport, report_by}
use Rattle.vk_cluster.specs.Values.{ClusterValue}

module _ (k : ClusterValue) (a : Advance) (place : ℕ) (given : Response) (r : StepReport) (is : a ≡ advances.Event place given) (told : TellsReport k a r)
  where
    -- a station is in the place
    pub station_told : (s : StationValue) × (slice_get k.hosts place ≡ Some s) × (r ≡ report_by s given)
    station_told = subst (λ x. TellsReport k x r) is told

    -- and its report is told
    pub report_told : (s : StationValue) → slice_get k.hosts place ≡ Some s → r ≡ report_by s given
    report_told s found =
        let t = station_told in t.2 ∙ ap (λ u. report_by u given) (same_Some t.0 s (sym t.1 ∙ found))

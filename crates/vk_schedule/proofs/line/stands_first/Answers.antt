use Rattle.std.proofs.Common.{◌∙◌, ◌==◌, ap, arith, sym}
use Rattle.std.proofs.lemmas.List.Folds.{list_any_at}
use Rattle.vk_base.specs.Settings.{stations_of}
use Rattle.vk_base.proofs.SettingsLemmas.{among_stations}
use Rattle.vk_schedule.proofs.line.stands_first.Goals as goal

pub returns-then-place-station_count : goal.returns-then-place-station_count
returns-then-place-station_count c = λ same.
    let stations = stations_of c.args.config.now.specs in
    sym (among_stations c.args.config.now.specs c.args.host)
    ∙ list_any_at (λ h. h == c.args.host) stations _ 0 (omega (arith, c.if-place-station_count.true, c.station_count.ensures.count))
    (ap (λ h. h == c.args.host) (sym c.station.ensures) ∙ same)

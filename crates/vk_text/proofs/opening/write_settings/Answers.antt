use Rattle.std.proofs.Common.{◌++◌, ap, ◌∙◌}
use Rattle.std.specs.List.{flat_map}
use Rattle.vk_base.specs.Settings.{stations_of}
use Rattle.vk_text.specs.Heads.{line_text, process_text}
use Rattle.vk_text.specs.Openings.{pool_lines, times_text}
use Rattle.vk_text.proofs.OpeningReading.{settings_lines, written}
use Rattle.vk_text.proofs.opening.write_settings.Goals as goal

pub returns-clause-ok : goal.returns-clause-ok
returns-clause-ok c =
    let pools = flat_map (pool_lines c.args.config.now) (stations_of c.args.config.now.specs) in
    written c.write_pools.result _ _ _ c.write_pools.ensures.ok
    (ap (λ l. l ++ flat_map line_text pools)
    (c.in_ok-write_processes.ensures.ok ∙ ap (λ l. l ++ flat_map (λ s. line_text (process_text s)) c.specs.result.now) c.in_ok-write_times.ensures.ok)
    ∙ ap (λ ss. ((c.args.into.now.items ++ line_text (times_text c.times.result)) ++ flat_map (λ s. line_text (process_text s)) ss) ++ flat_map line_text pools)
    c.specs.ensures.specs
    ∙ ap (λ t. ((c.args.into.now.items ++ line_text (times_text t)) ++ flat_map (λ s. line_text (process_text s)) c.args.config.now.specs) ++ flat_map line_text pools)
    c.times.ensures.times
    ∙ settings_lines c.args.into.now.items c.args.config.now.times c.args.config.now.specs pools)

use Rattle.std.proofs.Common.{◌≡◌, ◌<◌, ◌%◌, ap, ◌∙◌, arith}
use Rattle.vk_generator.specs.Numbers.{drawn, next}
use Rattle.vk_drive.specs.Storms.{chosen, process_event}
use Rattle.vk_drive.specs.Tasks.{task_at}
use Rattle.vk_drive.specs.Told.{answered_to}
use Rattle.vk_drive.proofs.driver.choose_process.Goals as goal

pub returns-clause-next : goal.returns-clause-next
returns-clause-next c hs are =
    let low : c.draw.result % 4 < 4 = omega arith in
    (low, c.choose.ensures hs are)

pub returns-clause-chosen : goal.returns-clause-chosen
returns-clause-chosen c hs are =
    let x = c.args.generator.now in
    let same : c.draw.result % 4 ≡ drawn (next x) % 4 = ap (λ d. d % 4) (c.draw.ensures.drawn ∙ ap drawn c.draw.ensures.state) in
    (λ i. chosen (c.draw.ensures.state i) ((c.choose.ensures hs are).event i))
    ∙ ap (λ p. chosen (next x) (process_event (task_at p) (answered_to (task_at p).pid hs))) same

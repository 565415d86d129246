-- The report that a replay writes into memory.
use Rattle.std.proofs.Common.{◌≡◌, ℕ, List, [], ◌∷◌, ◌++◌, codes, Option, Some, Ok, sym, ap, subst, ◌∙◌}
use Rattle.clap.proofs.OnLiterals.{clap_on_literals}
use Rattle.clap.specs.Walk.{Text}
use Rattle.vk_edge.specs.Inputs.{OfInput}
use Rattle.vk_report.specs.declared.entry.Form.TheVariants as forms
use Rattle.vk_schedule.specs.declared.schedule.Schedule.{Schedule}
use Rattle.vk_schedule.specs.Schedule.{schedule_of}
use Rattle.vk_top.specs.Jobs.{Asks, IsJobDone}
use Rattle.vk_top.specs.Top.{IsReplayed}
use Rattle.vk_draw.specs.Top.{report_text}

-- the word asks for the report of a schedule
asked : (left old new : Option (List ℕ)) → Asks (codes "replay" ∷ []) left (λ j i. IsJobDone j i old new)
    → OfInput left (λ i. IsReplayed forms.Report i old new)
unfolding clap_on_literals
asked left old new done = done

same_schedule : (text : List ℕ) (s t : Schedule) → schedule_of text ≡ Ok s → schedule_of text ≡ Ok t → s ≡ t
same_schedule text s t here there = cc

pub report_is : (words : List Text) (text left old written : List ℕ) (s : Schedule) → words ≡ codes "replay" ∷ [] → left ≡ text → old ≡ []
    → schedule_of text ≡ Ok s → Asks words (Some left) (λ j i. IsJobDone j i (Some old) (Some written)) → written ≡ report_text s
report_is words text left old written s is lefts olds spells done =
    let of = asked (Some left) (Some old) (Some written)
    (subst (λ (w : List Text). Asks w (Some left) (λ j i. IsJobDone j i (Some old) (Some written))) is done) in
    let told = of.holds in
    let same = same_schedule of.input told.schedule s told.text (ap schedule_of (sym of.all ∙ lefts) ∙ spells) in
    told.output ∙ ap (λ (l : List ℕ). l ++ report_text told.schedule) olds ∙ ap report_text same

use Rattle.std.proofs.Common.{◌≡◌, ◌∙◌, List, ℕ, Option, option_map}
use Rattle.std.specs.Borrow.{Bor}
use Rattle.clap.proofs.WalkLemmas.{first_value-rows}
use Rattle.clap.specs.Words.{found_of, first_of, first_value, rows_of}
use Rattle.vk_top.specs.Words.{job_for, is_set}
use Rattle.vk_top.proofs.words.job_by.Goals as goal

pub returns-clause-job : goal.returns-clause-job
returns-clause-job c =
    let f = found_of c.args.matches.now in
    let value : (id : List ℕ) (o : Option (Bor (List ℕ))) → option_map (λ s. s.now) o ≡ first_value f id →
    option_map (λ s. s.now) o ≡ first_of id (rows_of f) = λ id o is. is ∙ first_value-rows f id in
    let command = value _ _ c.get_str.ensures in
    let trace = value _ _ c.get_str-2.ensures in
    let number = value _ _ c.get_str-3.ensures in
    c.job_for.ensures.job ∙ (λ i. job_for (command i) ((c.is_set.ensures ∙ (λ j. is_set (trace j))) i) (number i))

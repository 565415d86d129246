use Rattle.std.proofs.Common.{◌≡◌, ◌∙◌, List, ℕ, Option, option_map}
use Rattle.std.specs.Borrow.{Bor}
use Rattle.clap.proofs.WalkLemmas.{first_value-rows}
use Rattle.clap.specs.Words.{found_of, first_of, first_value, rows_of}
use Rattle.vk_explain.specs.Words.{asked_for, is_set}
use Rattle.vk_explain.proofs.words.asked_by.Goals as goal

pub returns : goal.returns
returns c =
    let f = found_of c.args.matches.now in
    let value : (id : List ℕ) (o : Option (Bor (List ℕ))) → option_map (λ s. s.now) o ≡ first_value f id →
    option_map (λ s. s.now) o ≡ first_of id (rows_of f) = λ id o is. is ∙ first_value-rows f id in
    let answers = value _ _ c.get_str.ensures in
    let help = value _ _ c.get_str-2.ensures in
    let version = value _ _ c.get_str-3.ensures in
    c.asked_for.ensures ∙ (λ i. asked_for ((c.is_set.ensures ∙ (λ j. is_set (answers j))) i)
    ((c.is_set-2.ensures ∙ (λ j. is_set (help j))) i) ((c.is_set-3.ensures ∙ (λ j. is_set (version j))) i))

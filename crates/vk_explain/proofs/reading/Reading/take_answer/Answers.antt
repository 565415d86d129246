use Rattle.std.proofs.Common.{rules, ◌≡◌, ◌∷◌, ◌++◌, [], Some, refl, sym, ap, subst, ◌∙◌, arith}
use Rattle.std.proofs.lemmas.Slice.Eq.{bytes_eq-Decides}
use Rattle.v_trace.specs.Texts.{answer_text}
use Rattle.vk_explain.specs.declared.reading.Last.TheVariants as lasts
use Rattle.vk_explain.specs.Reading.{IsLast, IsSeenLast, told_of}
use Rattle.vk_explain.proofs.Sighted.{answered, answered_line, line_told}
use Rattle.vk_explain.proofs.reading.Reading.take_answer.Goals as goal

pub returns-in-Ok-true-clause-more : goal.returns-in-Ok-true-clause-more
returns-in-Ok-true-clause-more c =
    let told = c.args.told.now in
    let seen = c.in-Seen-Some.seen in
    let some : c.in-Seen-Some.seen' ≡ Some seen = search rules in
    λ specs ws line had tells.
    let is : IsSeenLast specs ws had.kernel (Some seen) =
    subst (IsLast specs ws had.kernel) (sym c.replace.ensures.value ∙ c.in-Seen-Some.is ∙ ap lasts.Seen some) had.last in
    let spelled : answer_text seen.answer ≡ told =
    (bytes_eq-Decides (answer_text seen.answer) told).0 (sym c.in-Ok-true.ensures ∙ c.in-Ok-true.field-0-test) in
    record {
      sights = is.before ++ told_of is.step told ∷ [];
      reads = line_told c.args.self.now.tells specs ws line told tells ∙ answered_line specs ws told had.kernel (Some seen) is;
      read = answered specs ws c.args.self.now _ told (Some seen) had is (seen, refl, spelled) refl refl refl
          (omega (arith, c.in-Some.ensures)) c.replace.ensures.after refl refl;
    }

use Rattle.std.proofs.Common.{sym, ap, ◌∙◌, arith}
use Rattle.vk_text.specs.Lines.{words_from}
use Rattle.vk_forms.specs.Follow.{Stop}
use Rattle.vk_forms.proofs.Following.{form_ended, line_ended, one_read, stuck_at, went_on}
use Rattle.vk_forms.proofs.follow.follow.Goals as goal

pub loop-slot-preserved : goal.loop-slot-preserved
loop-slot-preserved c = record {
  same = went_on c.args.config.now.specs _ (words_from c.args.form.now c.loop-slot.place) c.in-Some.slot.now
      (words_from c.args.form.now c.in-Some.behind) (words_from c.args.line.now c.loop-slot.at) c.in-Some-next_word.word.now
      (words_from c.args.line.now c.in-Some-next_word.next) c.loop-slot.invariant.same c.in-Some.ensures.word
      c.in-Some-next_word.ensures.word (sym c.fits.ensures ∙ c.if-not-fits.false);
  words = one_read (words_from c.args.line.now c.loop-slot.at) c.in-Some-next_word.word.now (words_from c.args.line.now c.in-Some-next_word.next)
      c.loop-slot.words _ c.in-Some-next_word.ensures.word c.loop-slot.invariant.words;
  within = c.in-Some-next_word.ensures.within;
  few = omega (arith, c.in-Some-next_word.ensures.next);
}

pub returns-in_default-next_word-clause-slot : goal.returns-in_default-next_word-clause-slot
returns-in_default-next_word-clause-slot c =
    sym (ap (λ (x : Stop). x.slot) (line_ended c.args.config.now.specs _ (words_from c.args.form.now c.loop-slot.place) c.in-Some.slot.now
    (words_from c.args.form.now c.in-Some.behind) (words_from c.args.line.now c.loop-slot.at) c.loop-slot.invariant.same
    c.in-Some.ensures.word c.in_default-next_word.ensures.word))

pub returns-in_default-next_word-clause-left : goal.returns-in_default-next_word-clause-left
returns-in_default-next_word-clause-left c =
    sym (ap (λ (x : Stop). x.left) (line_ended c.args.config.now.specs _ (words_from c.args.form.now c.loop-slot.place) c.in-Some.slot.now
    (words_from c.args.form.now c.in-Some.behind) (words_from c.args.line.now c.loop-slot.at) c.loop-slot.invariant.same
    c.in-Some.ensures.word c.in_default-next_word.ensures.word))

pub returns-then-not-fits-clause-slot : goal.returns-then-not-fits-clause-slot
returns-then-not-fits-clause-slot c =
    sym (ap (λ (x : Stop). x.slot) (stuck_at c.args.config.now.specs _ (words_from c.args.form.now c.loop-slot.place) c.in-Some.slot.now
    (words_from c.args.form.now c.in-Some.behind) (words_from c.args.line.now c.loop-slot.at) c.in-Some-next_word.word.now
    (words_from c.args.line.now c.in-Some-next_word.next) c.loop-slot.invariant.same c.in-Some.ensures.word
    c.in-Some-next_word.ensures.word (sym c.fits.ensures ∙ c.if-not-fits.true)))

pub returns-then-not-fits-clause-left : goal.returns-then-not-fits-clause-left
returns-then-not-fits-clause-left c =
    sym (ap (λ (x : Stop). x.left) (stuck_at c.args.config.now.specs _ (words_from c.args.form.now c.loop-slot.place) c.in-Some.slot.now
    (words_from c.args.form.now c.in-Some.behind) (words_from c.args.line.now c.loop-slot.at) c.in-Some-next_word.word.now
    (words_from c.args.line.now c.in-Some-next_word.next) c.loop-slot.invariant.same c.in-Some.ensures.word
    c.in-Some-next_word.ensures.word (sym c.fits.ensures ∙ c.if-not-fits.true)))

pub returns-clause-slot : goal.returns-clause-slot
returns-clause-slot c =
    sym (ap (λ (x : Stop). x.slot) (form_ended c.args.config.now.specs _ (words_from c.args.form.now c.loop-slot.place)
    (words_from c.args.line.now c.loop-slot.at) c.loop-slot.invariant.same c.in_default.ensures.word))

pub returns-clause-left : goal.returns-clause-left
returns-clause-left c =
    sym (ap (λ (x : Stop). x.left) (form_ended c.args.config.now.specs _ (words_from c.args.form.now c.loop-slot.place)
    (words_from c.args.line.now c.loop-slot.at) c.loop-slot.invariant.same c.in_default.ensures.word))

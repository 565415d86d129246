-- The answer to a storm.
use Rattle.std.proofs.Common.{◌≡◌, ℕ, ◌⊎◌, true, false, List, take, Option, refl, sym, subst, ◌∙◌, inl, inr, arith}
use Rattle.std.specs.Io.KnownBytes.{Appends}
use Rattle.std.proofs.lemmas.Bool.{cases_Bool, cond-true, cond-false}
use Rattle.vk_drive.specs.Storms.{IsStormTooMuch, StormFits, storm_schedule_of, summary_of}
use Rattle.vk_drive.proofs.Fronts.{storm_count}
use Rattle.vk_edge.specs.Answers.{IsWritten}
use Rattle.vk_top.proofs.Fronts.{fits_all, full_before, refused_within}
use Rattle.vk_top.proofs.Told.{nothing_more}
use Rattle.vk_top.specs.declared.status.Status.{Status}
use Rattle.vk_top.specs.declared.status.Status.TheVariants as status
use Rattle.vk_top.specs.Jobs.{IsStormAnswered}
use Rattle.vk_top.specs.Report.{is_cut, taken_of}
use Rattle.vk_top.specs.Storm.{storm_output, storm_status, summary_text}

pub not_cut : (n : ℕ) → StormFits n → is_cut (storm_schedule_of n) ≡ false
not_cut n fits = let s = storm_schedule_of n in
    elim (cases_Bool (is_cut s)) [
      | inl cut ↦
          let over = full_before s cut in
          let fit = fits (taken_of s) (omega (arith, refused_within s cut, storm_count n n)) in
          absurd (omega (arith, over, fit))
      | inr whole ↦ whole
    ]

pub cut_is : (n : ℕ) → IsStormTooMuch n → is_cut (storm_schedule_of n) ≡ true
cut_is n much = let s = storm_schedule_of n in
    elim (cases_Bool (is_cut s)) [
      | inl cut ↦ cut
      | inr whole ↦
          let fit = fits_all s whole much.0 (omega (arith, much.1, storm_count n n)) in
          absurd (omega (arith, fit, much.2))
    ]

done_status : (n : ℕ) → StormFits n → status.Done ≡ storm_status n
done_status n fits = sym (cond-false _ _ _ (not_cut n fits))

limit_status : (n : ℕ) → IsStormTooMuch n → status.Limit ≡ storm_status n
limit_status n much = sym (cond-true _ _ _ (cut_is n much))

told_output : (n : ℕ) → StormFits n → summary_text (summary_of n) ≡ storm_output n
told_output n fits = sym (cond-false _ _ _ (not_cut n fits))

-- all was written, or a write failed
pub storm_written : (Unchanged : Type 0) (n : ℕ) (text : List ℕ) (old new : Option (List ℕ)) (s : Status) → StormFits n →
    text ≡ summary_text (summary_of n) → IsWritten status.Done status.WriteFault text old new s → (count : ℕ) × Appends old new (take count text) →
    IsStormAnswered Unchanged n old new s
storm_written Unchanged n text old new s fits is (inl (done, written)) front = subst (IsStormAnswered Unchanged n old new) (sym done) (record {
  done = λ same. record { fits = fits; output = subst (Appends old new) is written };
  limit = λ same. absurd (grind (arith, same));
  writing = λ same. absurd (grind (arith, same));
  complete = done_status n fits;
  kinds = inl refl;
  front = (front.0, subst (λ t. Appends old new (take front.0 t)) (is ∙ told_output n fits) front.1);
})
storm_written Unchanged n text old new s fits is (inr failed) front = subst (IsStormAnswered Unchanged n old new) (sym failed) (record {
  done = λ same. absurd (grind (arith, same));
  limit = λ same. absurd (grind (arith, same));
  writing = λ same. fits;
  complete = tt;
  kinds = inr (inr (inl refl));
  front = (front.0, subst (λ t. Appends old new (take front.0 t)) (is ∙ told_output n fits) front.1);
})

-- nothing was written
pub storm_limit : (Unchanged : Type 0) (n : ℕ) (old : Option (List ℕ)) → Unchanged → IsStormTooMuch n →
    IsStormAnswered Unchanged n old old status.Limit
storm_limit Unchanged n old same much = record {
  done = λ is. absurd (grind (arith, is));
  limit = λ is. (much, same);
  writing = λ is. absurd (grind (arith, is));
  complete = limit_status n much;
  kinds = inr (inl refl);
  front = (0, nothing_more old);
}

pub storm_wanting : (Unchanged : Type 0) (n : ℕ) (old : Option (List ℕ)) → IsStormAnswered Unchanged n old old status.NoMemory
storm_wanting Unchanged n old = record {
  done = λ is. absurd (grind (arith, is));
  limit = λ is. absurd (grind (arith, is));
  writing = λ is. absurd (grind (arith, is));
  complete = tt;
  kinds = inr (inr (inr refl));
  front = (0, nothing_more old);
}

-- and no other answer
pub no_other : {B : Type 0} (s t : Status) → (s ≡ status.Done) ⊎ (s ≡ status.Limit) ⊎ (s ≡ status.WriteFault) ⊎ (s ≡ status.NoMemory) →
    s ≡ t → ¬ (t ≡ status.Done) → ¬ (t ≡ status.Limit) → ¬ (t ≡ status.WriteFault) → ¬ (t ≡ status.NoMemory) → B
no_other s t (inl is) same done limit fault wanting = absurd (done (sym same ∙ is))
no_other s t (inr (inl is)) same done limit fault wanting = absurd (limit (sym same ∙ is))
no_other s t (inr (inr (inl is))) same done limit fault wanting = absurd (fault (sym same ∙ is))
no_other s t (inr (inr (inr is))) same done limit fault wanting = absurd (wanting (sym same ∙ is))

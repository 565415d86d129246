-- The answer where what happened in a run is told in a text.
use Rattle.std.proofs.Common.{◌≡◌, ℕ, ◌<◌, ◌≤◌, List, length, take, Option, Some, None, ◌⊎◌, inl, inr, refl, subst, sym, ◌∙◌, arith}
use Rattle.std.specs.Io.KnownBytes.{Appends}
use Rattle.std.proofs.lemmas.Bool.{cond-false, cond-true, le-ltb, lt-ltb}
use Rattle.vk_edge.proofs.Answers.{other_than, tells_none}
use Rattle.vk_edge.proofs.Inputs.{is_all, of_text, partly, read_whole, some_input, too_many, weaker}
use Rattle.vk_edge.specs.Answers.{IsWritten, TellsFaults}
use Rattle.vk_edge.specs.Inputs.{IsReadOver, IsReadWithin, IsText, IsUnread, IsWanting, OfInput}
use Rattle.vk_io.specs.declared.whole.ReadRefusal.{ReadRefusal}
use Rattle.vk_io.specs.declared.whole.ReadRefusal.TheVariants as reads
use Rattle.vk_top.proofs.Outcomes.{written_late}
use Rattle.v_run.specs.declared.run_end.RunEnd.{RunEnd}
use Rattle.v_run.specs.declared.run_end.RunEnd.TheVariants as ends
use Rattle.vk_top.specs.Statuses.{unread}
use Rattle.vk_top.specs.declared.status.Status.{Status}
use Rattle.vk_top.specs.declared.status.Status.TheVariants as status
use Rattle.vk_top.specs.declared.top.TextOutput.{TextOutput}
use Rattle.vk_top.specs.Threaded.{IsBadScenario, IsFailure, IsRanInPart, IsRunDecided, IsTextRefusal, IsThreadedAnswer, IsThreadedAnswered, IsThreadedRefusal, IsThreadedWork, asked_of, ended}
use Rattle.vk_top.specs.Top.{IsBehindText, IsEarly}
use Rattle.vk_top.specs.Work.{IsLate}

-- The answer behind a write.

ended_late : (end : RunEnd) → IsLate (ended end)
ended_late ends.Done = tt
ended_late ends.Limited = tt
ended_late ends.Waiting = tt

pub work_late : (Tells : RunEnd → List ℕ → List ℕ → Type 0) (asked : RunEnd → List ℕ → Status) (text : List ℕ) (w : TextOutput) →
    IsThreadedWork Tells asked text w → IsLate w.status
work_late Tells asked text w work = subst IsLate (sym work.status) (ended_late work.end)

module _ (Tells : RunEnd → List ℕ → List ℕ → Type 0) (asked : RunEnd → List ℕ → Status) (Fails : Status → List ℕ → Type 0) where
  asked_for : (end : RunEnd) (text : List ℕ) (s : Status) → length text ≤ 16777216 → s ≡ asked end text → s ≡ asked_of asked end text
  asked_for end text s small is =
      is ∙ sym (cond-false _ status.Limit (asked end text) (le-ltb 16777216 (length text) small))

  all_written : (Unwritten Unasked : Type 0) (end : RunEnd) (text : List ℕ) (output : List ℕ) (old new : Option (List ℕ)) →
      length text ≤ 16777216 → Tells end text output → ended end ≡ asked end text → Appends old new output →
      IsThreadedAnswered Tells asked Fails Unwritten Unasked text old new (ended end)
  all_written Unwritten Unasked ends.Done text output old new small tells is written = record {
    done = λ is. record { output = output; tells = tells; written = written };
    limit = λ is. absurd (grind (arith, is));
    waiting = λ is. absurd (grind (arith, is));
    writing = λ is. absurd (grind (arith, is));
    bad = λ line is. absurd (grind (arith, is));
    memory = λ is. absurd (grind (arith, is));
    failed = λ failure. absurd failure;
    kinds = (λ is. grind (arith, is), λ step is. grind (arith, is), λ host event is. grind (arith, is));
    reading = λ is. grind (arith, is);
    nothing = λ early. absurd early;
    complete = inr (inr (inr (inr (ends.Done, asked_for ends.Done text status.Done small is))));
  }
  all_written Unwritten Unasked ends.Limited text output old new small tells is written = record {
    done = λ is. absurd (grind (arith, is));
    limit = λ is. record { output = output; tells = tells; written = written };
    waiting = λ is. absurd (grind (arith, is));
    writing = λ is. absurd (grind (arith, is));
    bad = λ line is. absurd (grind (arith, is));
    memory = λ is. absurd (grind (arith, is));
    failed = λ failure. absurd failure;
    kinds = (λ is. grind (arith, is), λ step is. grind (arith, is), λ host event is. grind (arith, is));
    reading = λ is. grind (arith, is);
    nothing = λ early. absurd early;
    complete = inr (inr (inr (inr (ends.Limited, asked_for ends.Limited text status.Limit small is))));
  }
  all_written Unwritten Unasked ends.Waiting text output old new small tells is written = record {
    done = λ is. absurd (grind (arith, is));
    limit = λ is. absurd (grind (arith, is));
    waiting = λ is. record { output = output; tells = tells; written = written };
    writing = λ is. absurd (grind (arith, is));
    bad = λ line is. absurd (grind (arith, is));
    memory = λ is. absurd (grind (arith, is));
    failed = λ failure. absurd failure;
    kinds = (λ is. grind (arith, is), λ step is. grind (arith, is), λ host event is. grind (arith, is));
    reading = λ is. grind (arith, is);
    nothing = λ early. absurd early;
    complete = inr (inr (inr (inr (ends.Waiting, asked_for ends.Waiting text status.Waiting small is))));
  }

  failed_is : (Unwritten Unasked : Type 0) (text : List ℕ) (old new : Option (List ℕ)) → IsRanInPart Tells text old new →
      IsThreadedAnswered Tells asked Fails Unwritten Unasked text old new status.WriteFault
  failed_is Unwritten Unasked text old new part = record {
    done = λ is. absurd (grind (arith, is));
    limit = λ is. absurd (grind (arith, is));
    waiting = λ is. absurd (grind (arith, is));
    writing = λ is. part;
    bad = λ line is. absurd (grind (arith, is));
    memory = λ is. absurd (grind (arith, is));
    failed = λ failure. absurd failure;
    kinds = (λ is. grind (arith, is), λ step is. grind (arith, is), λ host event is. grind (arith, is));
    reading = λ is. grind (arith, is);
    nothing = λ early. absurd early;
    complete = inr (inl refl);
  }

  pub work_written : (Unwritten Unasked : Type 0) (text : List ℕ) (w : TextOutput) (old new : Option (List ℕ)) (s : Status) →
      length text ≤ 16777216 → IsThreadedWork Tells asked text w → IsWritten w.status status.WriteFault w.text.items old new s →
      (n : ℕ) × Appends old new (take n w.text.items) → IsThreadedAnswered Tells asked Fails Unwritten Unasked text old new s
  work_written Unwritten Unasked text w old new s small work (inl (same, written)) front =
      subst (IsThreadedAnswered Tells asked Fails Unwritten Unasked text old new) (sym (same ∙ work.status))
      (all_written Unwritten Unasked work.end text w.text.items old new small work.tells work.asked_for written)
  work_written Unwritten Unasked text w old new s small work (inr failed) (n, some) =
      subst (IsThreadedAnswered Tells asked Fails Unwritten Unasked text old new) (sym failed)
      (failed_is Unwritten Unasked text old new
      (record { end = work.end; output = w.text.items; tells = work.tells; count = n; written = some }))

  refused_is : (Unwritten Unasked : Type 0) (text : List ℕ) (old : Option (List ℕ)) (s : Status) → Unwritten → ¬ (s ≡ status.Done) →
      ¬ (s ≡ status.Limit) → ¬ (s ≡ status.Waiting) → ¬ (s ≡ status.WriteFault) →
      ((line : ℕ) → s ≡ status.BadInput line → IsBadScenario asked text line × Unasked) →
      (s ≡ status.NoMemory → 0 < length text) → (IsFailure s → Fails s text) → ¬ (s ≡ status.Usage) →
      ((step : ℕ) → ¬ (s ≡ status.NotARun step)) → ((host event : ℕ) → ¬ (s ≡ status.Stray host event)) → ¬ (s ≡ status.ReadFault) →
      (s ≡ status.NoMemory) ⊎ (s ≡ status.WriteFault) ⊎ (s ≡ status.CrewFault) ⊎ (s ≡ status.LinkFault)
      ⊎ ((end : RunEnd) × (s ≡ asked_of asked end text)) → IsThreadedAnswered Tells asked Fails Unwritten Unasked text old old s
  refused_is Unwritten Unasked text old s same done limit waiting fault bad memory failed usage refuted stray reading complete = record {
    done = λ is. absurd (done is);
    limit = λ is. absurd (limit is);
    waiting = λ is. absurd (waiting is);
    writing = λ is. absurd (fault is);
    bad = bad;
    memory = memory;
    failed = failed;
    kinds = (usage, refuted, stray);
    reading = reading;
    nothing = λ early. same;
    complete = complete;
  }

  pub run_refused : (Unwritten Unasked : Type 0) (text : List ℕ) (old : Option (List ℕ)) (s : Status) → Unwritten → length text ≤ 16777216 →
      IsThreadedRefusal asked Fails Unasked text s → IsThreadedAnswered Tells asked Fails Unwritten Unasked text old old s
  run_refused Unwritten Unasked text old (status.BadInput line) same small why =
      refused_is Unwritten Unasked text old (status.BadInput line) same (λ is. grind (arith, is)) (λ is. grind (arith, is))
      (λ is. grind (arith, is)) (λ is. grind (arith, is)) (λ n is. (record { small = small; bad = why.0 ∙ is }, why.1)) (λ is. absurd (grind (arith, is)))
      (λ failure. absurd failure) (λ is. grind (arith, is)) (λ step is. grind (arith, is)) (λ host event is. grind (arith, is))
      (λ is. grind (arith, is)) (inr (inr (inr (inr (ends.Done, asked_for ends.Done text (status.BadInput line) small (sym why.0))))))
  run_refused Unwritten Unasked text old status.NoMemory same small why =
      refused_is Unwritten Unasked text old status.NoMemory same (λ is. grind (arith, is)) (λ is. grind (arith, is)) (λ is. grind (arith, is))
      (λ is. grind (arith, is)) (λ n is. absurd (grind (arith, is))) (λ is. why.0) (λ failure. why.1) (λ is. grind (arith, is)) (λ step is. grind (arith, is))
      (λ host event is. grind (arith, is)) (λ is. grind (arith, is)) (inl refl)
  run_refused Unwritten Unasked text old status.CrewFault same small why =
      refused_is Unwritten Unasked text old status.CrewFault same (λ is. grind (arith, is)) (λ is. grind (arith, is)) (λ is. grind (arith, is))
      (λ is. grind (arith, is)) (λ n is. absurd (grind (arith, is))) (λ is. absurd (grind (arith, is))) (λ failure. why) (λ is. grind (arith, is))
      (λ step is. grind (arith, is)) (λ host event is. grind (arith, is)) (λ is. grind (arith, is)) (inr (inr (inl refl)))
  run_refused Unwritten Unasked text old status.LinkFault same small why =
      refused_is Unwritten Unasked text old status.LinkFault same (λ is. grind (arith, is)) (λ is. grind (arith, is)) (λ is. grind (arith, is))
      (λ is. grind (arith, is)) (λ n is. absurd (grind (arith, is))) (λ is. absurd (grind (arith, is))) (λ failure. why) (λ is. grind (arith, is))
      (λ step is. grind (arith, is)) (λ host event is. grind (arith, is)) (λ is. grind (arith, is)) (inr (inr (inr (inl refl))))
  run_refused Unwritten Unasked text old status.Done same small why = absurd why
  run_refused Unwritten Unasked text old (status.NotARun step) same small why = absurd why
  run_refused Unwritten Unasked text old status.Usage same small why = absurd why
  run_refused Unwritten Unasked text old status.ReadFault same small why = absurd why
  run_refused Unwritten Unasked text old status.WriteFault same small why = absurd why
  run_refused Unwritten Unasked text old status.Limit same small why = absurd why
  run_refused Unwritten Unasked text old (status.Stray host event) same small why = absurd why
  run_refused Unwritten Unasked text old status.Waiting same small why = absurd why

  -- The answer to an input.

  decided : (told : Option (List ℕ)) (s : Status) → OfInput told (λ i. (end : RunEnd) × (s ≡ asked_of asked end i)) →
      IsRunDecided asked told s
  decided told status.Done given = given
  decided told (status.NotARun step) given = given
  decided told status.Usage given = given
  decided told (status.BadInput line) given = given
  decided told status.ReadFault given = tt
  decided told status.WriteFault given = tt
  decided told status.NoMemory given = tt
  decided told status.CrewFault given = tt
  decided told status.LinkFault given = tt
  decided told status.Limit given = given
  decided told (status.Stray host event) given = given
  decided told status.Waiting given = given

  by_text : (left rest : Option (List ℕ)) (text : List ℕ) (s : Status) → IsText left rest text →
      (s ≡ status.NoMemory) ⊎ (s ≡ status.WriteFault) ⊎ (s ≡ status.CrewFault) ⊎ (s ≡ status.LinkFault)
      ⊎ ((end : RunEnd) × (s ≡ asked_of asked end text)) → IsRunDecided asked left s
  by_text left rest text s read (inl is) = subst (IsRunDecided asked left) (sym is) tt
  by_text left rest text s read (inr (inl is)) = subst (IsRunDecided asked left) (sym is) tt
  by_text left rest text s read (inr (inr (inl is))) = subst (IsRunDecided asked left) (sym is) tt
  by_text left rest text s read (inr (inr (inr (inl is)))) = subst (IsRunDecided asked left) (sym is) tt
  by_text left rest text s read (inr (inr (inr (inr is)))) =
      decided left s (of_text left rest text (λ i. (end : RunEnd) × (s ≡ asked_of asked end i)) read is)

  answered_is : (Unread Unwritten Unasked : Type 0) (left rest old new : Option (List ℕ)) (text : List ℕ) (s : Status) →
      IsText left rest text → IsThreadedAnswered Tells asked Fails Unwritten Unasked text old new s →
      IsThreadedAnswer Tells asked Fails Unread Unwritten Unasked left rest old new s
  answered_is Unread Unwritten Unasked left rest old new text s read answered =
      let all = is_all left rest text read in
      let whole = read_whole left rest text read in
      record {
        done = λ is. record { input = text; all = all; holds = answered.done is };
        limit = λ is. inr (whole, record { input = text; all = all; holds = answered.limit is });
        waiting = λ is. record { input = text; all = all; holds = answered.waiting is };
        writing = λ is. record { input = text; all = all; holds = answered.writing is };
        whole = λ behind. whole;
        bad = λ line is. (record { input = text; all = all; holds = (answered.bad line is).0 }, (answered.bad line is).1);
        reading = λ is. absurd (answered.reading is);
        memory = λ is. inr (partly left rest text read (answered.memory is));
        failed = λ failure. record { input = text; all = all; holds = answered.failed failure };
        kinds = answered.kinds;
        nothing = answered.nothing;
        complete = by_text left rest text s read answered.complete;
      }

  -- the text that was read is the one that was answered to
  pub run_served : (Unread Unwritten Unasked : Type 0) (left rest old new : Option (List ℕ)) (text seen : List ℕ) (s : Status) →
      IsText left rest text → seen ≡ text → IsThreadedAnswered Tells asked Fails Unwritten Unasked seen old new s →
      IsThreadedAnswer Tells asked Fails Unread Unwritten Unasked left rest old new s
  run_served Unread Unwritten Unasked left rest old new text seen s read same answered =
      answered_is Unread Unwritten Unasked left rest old new text s read
      (subst (λ t. IsThreadedAnswered Tells asked Fails Unwritten Unasked t old new s) same answered)

  limit_status : (i : List ℕ) → 16777216 < length i → (end : RunEnd) × (status.Limit ≡ asked_of asked end i)
  limit_status i many = (ends.Done, sym (cond-true _ _ _ (lt-ltb 16777216 (length i) many)))

  -- an answer without a run
  nothing_ran : (Unread Unwritten Unasked : Type 0) (left rest old : Option (List ℕ)) (s : Status) → Unwritten → Unasked →
      ¬ (IsBehindText s) → ¬ (s ≡ status.Usage) → (s ≡ status.ReadFault → IsReadWithin left rest) →
      (s ≡ status.Limit → IsReadOver left rest) → (s ≡ status.NoMemory → IsWanting Unread left rest) →
      (IsFailure s → OfInput left (Fails s)) → IsRunDecided asked left s →
      IsThreadedAnswer Tells asked Fails Unread Unwritten Unasked left rest old old s
  nothing_ran Unread Unwritten Unasked left rest old s same idle early usage reading limit memory failed complete = record {
    done = λ is. absurd (early (subst IsBehindText (sym is) tt));
    limit = λ is. inl (limit is, same, idle);
    waiting = λ is. absurd (early (subst IsBehindText (sym is) tt));
    writing = λ is. absurd (early (subst IsBehindText (sym is) tt));
    whole = λ behind. absurd (early behind);
    bad = λ line is. absurd (early (subst IsBehindText (sym is) tt));
    reading = λ is. (reading is, idle);
    memory = memory;
    failed = failed;
    kinds =
        (usage, λ step is. early (subst IsBehindText (sym is) tt), λ host event is. early (subst IsBehindText (sym is) tt));
    nothing = λ early. same;
    complete = complete;
  }

  unread_as : (Unread Unwritten Unasked : Type 0) (left rest old : Option (List ℕ)) (r : ReadRefusal) → Unwritten → Unasked →
      ((i : List ℕ) → Fails status.NoMemory i) → IsUnread left rest r →
      IsThreadedAnswer Tells asked Fails Unread Unwritten Unasked left rest old old (unread r)
  unread_as Unread Unwritten Unasked left rest old reads.Failed same idle wanting why =
      nothing_ran Unread Unwritten Unasked left rest old status.ReadFault same idle (λ behind. behind) (λ is. grind (arith, is)) (λ is. why)
      (λ is. absurd (grind (arith, is))) (λ is. absurd (grind (arith, is))) (λ failure. absurd failure) tt
  unread_as Unread Unwritten Unasked left rest old reads.TooLong same idle wanting why =
      nothing_ran Unread Unwritten Unasked left rest old status.Limit same idle (λ behind. behind) (λ is. grind (arith, is))
      (λ is. absurd (grind (arith, is))) (λ is. why) (λ is. absurd (grind (arith, is))) (λ failure. absurd failure)
      (weaker left _ _ limit_status (too_many left rest why))
  unread_as Unread Unwritten Unasked left rest old reads.NoMemory same idle wanting why =
      nothing_ran Unread Unwritten Unasked left rest old status.NoMemory same idle (λ behind. behind) (λ is. grind (arith, is))
      (λ is. absurd (grind (arith, is))) (λ is. absurd (grind (arith, is))) (λ is. inr why)
      (λ failure. some_input left (Fails status.NoMemory) wanting) tt

  pub run_unread : (Unread Unwritten Unasked : Type 0) (left rest old : Option (List ℕ)) (r : ReadRefusal) (s : Status) → s ≡ unread r →
      Unwritten → Unasked → ((i : List ℕ) → Fails status.NoMemory i) → IsUnread left rest r →
      IsThreadedAnswer Tells asked Fails Unread Unwritten Unasked left rest old old s
  run_unread Unread Unwritten Unasked left rest old r s is same idle wanting why =
      subst (IsThreadedAnswer Tells asked Fails Unread Unwritten Unasked left rest old old) (sym is)
      (unread_as Unread Unwritten Unasked left rest old r same idle wanting why)

  -- Memory was wanting to read the words.
  pub wanting_is : (Unread Unwritten Unasked : Type 0) (left old : Option (List ℕ)) (s : Status) → Unread → Unwritten → Unasked →
      ((i : List ℕ) → Fails status.NoMemory i) → s ≡ status.NoMemory →
      IsThreadedAnswer Tells asked Fails Unread Unwritten Unasked left left old old s
  wanting_is Unread Unwritten Unasked left old s unread unwritten idle wanting is =
      subst (IsThreadedAnswer Tells asked Fails Unread Unwritten Unasked left left old old) (sym is)
      (nothing_ran Unread Unwritten Unasked left left old status.NoMemory unwritten idle (λ behind. behind) (λ e. grind (arith, e))
      (λ e. absurd (grind (arith, e))) (λ e. absurd (grind (arith, e))) (λ e. inl unread)
      (λ failure. some_input left (Fails status.NoMemory) wanting) tt)

  -- What was answered without a run, of which input and output are as they were.
  pub run_wanting : {Input Output : Type 0} (left_of : Input → Option (List ℕ)) (written_of : Output → Option (List ℕ)) (i0 i1 : Input)
      (o0 o1 : Output) (Unasked : Type 0) (r : Option Status) (s : Status) → Unasked → ((i : List ℕ) → Fails status.NoMemory i) → r ≡ Some s →
      ((r ≡ None) ⊎ (r ≡ Some status.NoMemory)) × (i1 ≡ i0) × (o1 ≡ o0) →
      IsThreadedAnswer Tells asked Fails (i1 ≡ i0) (o1 ≡ o0) Unasked (left_of i0) (left_of i1) (written_of o0) (written_of o1) s
  run_wanting left_of written_of i0 i1 o0 o1 Unasked r s idle wanting is (inl none, unread, unwritten) = absurd (cc)
  run_wanting left_of written_of i0 i1 o0 o1 Unasked r s idle wanting is (inr memory, unread, unwritten) =
      let same : s ≡ status.NoMemory = cc in
      subst (λ i. IsThreadedAnswer Tells asked Fails (i1 ≡ i0) (o1 ≡ o0) Unasked (left_of i0) (left_of i) (written_of o0) (written_of o1) s)
      (sym unread)
      (subst (λ o. IsThreadedAnswer Tells asked Fails (i1 ≡ i0) (o1 ≡ o0) Unasked (left_of i0) (left_of i0) (written_of o0) (written_of o) s)
      (sym unwritten)
      (wanting_is (i1 ≡ i0) (o1 ≡ o0) Unasked (left_of i0) (written_of o0) s unread unwritten idle wanting same))

  -- A run begins with input and output as they were before the words were read.
  pub run_begun : {Input Output : Type 0} (left_of : Input → Option (List ℕ)) (written_of : Output → Option (List ℕ)) (i0 i1 i2 : Input)
      (o0 o1 o2 : Output) (Unasked : Type 0) (s : Status) → (i1 ≡ i0) × (o1 ≡ o0) →
      IsThreadedAnswer Tells asked Fails (i2 ≡ i1) (o2 ≡ o1) Unasked (left_of i1) (left_of i2) (written_of o1) (written_of o2) s →
      IsThreadedAnswer Tells asked Fails (i2 ≡ i0) (o2 ≡ o0) Unasked (left_of i0) (left_of i2) (written_of o0) (written_of o2) s
  run_begun left_of written_of i0 i1 i2 o0 o1 o2 Unasked s same answer =
      subst (λ i. IsThreadedAnswer Tells asked Fails (i2 ≡ i) (o2 ≡ o0) Unasked (left_of i) (left_of i2) (written_of o0) (written_of o2) s) same.0
      (subst (λ o. IsThreadedAnswer Tells asked Fails (i2 ≡ i1) (o2 ≡ o) Unasked (left_of i1) (left_of i2) (written_of o)
      (written_of o2) s) same.1 answer)

-- Where a text is not run.

pub not_run : (asked : RunEnd → List ℕ → Status) (Fails : Status → List ℕ → Type 0) (Unasked : Type 0) (text : List ℕ) (s : Status) →
    Unasked → Fails status.NoMemory text → IsTextRefusal asked text s → IsThreadedRefusal asked Fails Unasked text s
not_run asked Fails Unasked text (status.BadInput line) same wanting why = (why, same)
not_run asked Fails Unasked text status.NoMemory same wanting why = (why, wanting)
not_run asked Fails Unasked text status.Done same wanting why = absurd why
not_run asked Fails Unasked text (status.NotARun step) same wanting why = absurd why
not_run asked Fails Unasked text status.Usage same wanting why = absurd why
not_run asked Fails Unasked text status.ReadFault same wanting why = absurd why
not_run asked Fails Unasked text status.WriteFault same wanting why = absurd why
not_run asked Fails Unasked text status.CrewFault same wanting why = absurd why
not_run asked Fails Unasked text status.Limit same wanting why = absurd why
not_run asked Fails Unasked text status.LinkFault same wanting why = absurd why
not_run asked Fails Unasked text (status.Stray host event) same wanting why = absurd why
not_run asked Fails Unasked text status.Waiting same wanting why = absurd why

-- What is told of faults: none where a text is not run, and none was counted.

pub not_run_tells : (asked : RunEnd → List ℕ → Status) (why : Status) (text : List ℕ) (s : Status) (before : ℕ) →
    ¬ (IsTextRefusal asked text why) → IsTextRefusal asked text s → TellsFaults why s before before
not_run_tells asked why text s before none refusal =
    tells_none why s before before (other_than (IsTextRefusal asked text) s why refusal none) refl

-- A fault that is told of nothing is told.

pub written_tells : (why : Status) (text : List ℕ) (told : Status) (old new : Option (List ℕ)) (s : Status) (before now : ℕ) → IsEarly why →
    IsLate told → IsWritten told status.WriteFault text old new s → now ≡ before → TellsFaults why s before now
written_tells why text told old new s before now early late written same =
    tells_none why s before now (λ is. written_late text told old new s late written (subst IsEarly (sym is) early)) same

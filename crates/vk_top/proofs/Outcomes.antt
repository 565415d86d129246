-- From the answer to a text to that to an input.
use Rattle.std.proofs.Common.{◌≡◌, ℕ, ◌<◌, List, length, Option, inl, inr, subst, sym, ◌∙◌, ◌⊎◌, Err, arith}
use Rattle.std.proofs.lemmas.Bool.{cond-true, lt-ltb}
use Rattle.vk_edge.proofs.Inputs.{is_all, of_text, partly, read_whole, some_input, too_many, weaker}
use Rattle.vk_edge.specs.Answers.{CountsFaults, IsWritten}
use Rattle.vk_edge.specs.Inputs.{IsText, IsUnread, OfInput}
use Rattle.vk_io.specs.Causes.{TellsFault}
use Rattle.vk_io.specs.declared.whole.ReadRefusal.{ReadRefusal}
use Rattle.vk_io.specs.declared.whole.ReadRefusal.TheVariants as reads
use Rattle.vk_top.proofs.Told.{nothing_more}
use Rattle.vk_top.specs.Statuses.{unread}
use Rattle.vk_top.specs.Top.{IsBehindText, IsDecided, IsEarly, IsOverLimit, status_of}
use Rattle.vk_top.specs.Work.{IsAnswered, IsLate, IsOutcome}
use Rattle.vk_top.specs.declared.status.Status.{Status}
use Rattle.vk_top.specs.declared.status.Status.TheVariants as status
use Rattle.vk_top.specs.declared.words.TextCommand.{TextCommand}
use Rattle.vk_top.specs.declared.words.TextCommand.TheVariants as asked

-- an answer behind a write tells no fault, and is none at which nothing is written

pub late_told : (s : Status) → IsLate s → ¬ (s ≡ status.WriteFault)
late_told s late is = subst IsLate is late

late_not_early : (s : Status) → IsLate s → IsEarly s → ⊥
late_not_early status.Done late early = early
late_not_early (status.NotARun step) late early = early
late_not_early status.Limit late early = early
late_not_early status.Usage late early = late
late_not_early (status.BadInput line) late early = late
late_not_early status.ReadFault late early = late
late_not_early status.WriteFault late early = late
late_not_early status.NoMemory late early = late
late_not_early status.CrewFault late early = late
late_not_early status.LinkFault late early = late
late_not_early (status.Stray host event) late early = late
late_not_early status.Waiting late early = early

pub written_late : (text : List ℕ) (told : Status) (old new : Option (List ℕ)) (s : Status) → IsLate told →
    IsWritten told status.WriteFault text old new s → IsEarly s → ⊥
written_late text told old new s late (inl (same, written)) early = late_not_early told late (subst IsEarly same early)
written_late text told old new s late (inr failed) early = subst IsEarly failed early

-- at Done it was flushed, if it was wherever no write failed
pub done_flushed : (Flushed : Type 0) (s : Status) → (¬ (s ≡ status.WriteFault) → Flushed) → s ≡ status.Done → Flushed
done_flushed Flushed s flushed is =
    flushed (λ failed. let clash : status.Done ≡ status.WriteFault = sym is ∙ failed in grind (arith, clash))

-- what was flushed, or not written, since a point at which nothing was written is so from the beginning
pub flushed_since : {O : Type 0} (old mid new : O) (Flushed : Type 0) → mid ≡ old → (new ≡ mid) ⊎ Flushed → (new ≡ old) ⊎ Flushed
flushed_since old mid new Flushed none (inl same) = inl (same ∙ none)
flushed_since old mid new Flushed none (inr flushed) = inr flushed

-- an input that was not read

not_behind : (r : ReadRefusal) → IsBehindText (unread r) → ⊥
not_behind reads.Failed behind = behind
not_behind reads.TooLong behind = behind
not_behind reads.NoMemory behind = behind

-- its answer is none that comes behind the end of the input
pub unread_other : (r : ReadRefusal) (s why : Status) → s ≡ unread r → IsBehindText why → ¬ (s ≡ why)
unread_other r s why is behind same = not_behind r (subst IsBehindText (sym same ∙ is) behind)

pub unread_counts : (r : ReadRefusal) (s : Status) (before now : ℕ) → s ≡ unread r → TellsFault before now (Err r) →
    CountsFaults status.ReadFault s before now
unread_counts reads.Failed s before now is rose = inl (is, rose)
unread_counts reads.TooLong s before now is same = inr (λ fault. let clash : status.Limit ≡ status.ReadFault = sym is ∙ fault in grind (arith, clash), same)
unread_counts reads.NoMemory s before now is same = inr (λ fault. let clash : status.NoMemory ≡ status.ReadFault = sym is ∙ fault in grind (arith, clash), same)

-- the answers to an input

decided : (a : TextCommand) (told : Option (List ℕ)) (s : Status) → OfInput told (λ i. s ≡ status_of a i) → IsDecided a told s
decided a told status.Done given = given
decided a told (status.NotARun step) given = given
decided a told status.Usage given = given
decided a told (status.BadInput line) given = given
decided a told status.ReadFault given = tt
decided a told status.WriteFault given = tt
decided a told status.NoMemory given = tt
decided a told status.CrewFault given = given
decided a told status.Limit given = given
decided a told status.LinkFault given = given
decided a told (status.Stray host event) given = given
decided a told status.Waiting given = given

by_text : (a : TextCommand) (left rest : Option (List ℕ)) (text : List ℕ) (s : Status) → IsText left rest text →
    (s ≡ status.NoMemory) ⊎ (s ≡ status.WriteFault) ⊎ (s ≡ status_of a text) → IsDecided a left s
by_text a left rest text s read (inl is) = subst (IsDecided a left) (sym is) tt
by_text a left rest text s read (inr (inl is)) = subst (IsDecided a left) (sym is) tt
by_text a left rest text s read (inr (inr is)) = decided a left s (of_text left rest text (λ i. s ≡ status_of a i) read is)

answered_is : (Unchanged : Type 0) (a : TextCommand) (left rest old new : Option (List ℕ)) (text : List ℕ) (s : Status) → IsText left rest text →
    IsAnswered Unchanged a text old new s → IsOutcome Unchanged a left rest old new s
answered_is Unchanged a left rest old new text s read answered =
    let all = is_all left rest text read in
    record {
      kinds = (answered.kinds.0, answered.kinds.2, answered.kinds.3);
      done = λ is. record { input = text; all = all; holds = answered.done is };
      no = λ step is. record { input = text; all = all; holds = answered.no step is };
      whole = λ behind. read_whole left rest text read;
      bad = λ line is. record { input = text; all = all; holds = answered.bad line is };
      stray = λ host event is. record { input = text; all = all; holds = answered.stray host event is };
      limit = λ is. record { input = text; all = all; holds = answered.limit is };
      limit_whole = λ is. inr (read_whole left rest text read);
      reading = λ is. absurd (answered.kinds.1 is);
      memory = λ is. partly left rest text read (answered.memory is);
      writing = λ is. record { input = text; all = all; holds = answered.writing is };
      complete = by_text a left rest text s read answered.complete;
      front = record { input = text; all = all; holds = answered.front };
    }

-- the text that was read is the one that was answered to
pub served_is : (Unchanged : Type 0) (a : TextCommand) (left rest old new : Option (List ℕ)) (text seen : List ℕ) (s : Status) →
    IsText left rest text → seen ≡ text → IsAnswered Unchanged a seen old new s → IsOutcome Unchanged a left rest old new s
served_is Unchanged a left rest old new text seen s read same answered =
    answered_is Unchanged a left rest old new text s read (subst (λ t. IsAnswered Unchanged a t old new s) same answered)

over_limit : (a : TextCommand) (i : List ℕ) → 16777216 < length i → IsOverLimit a i
over_limit (asked.Replay form) i many = inl many
over_limit asked.Check i many = inl many
over_limit asked.Join i many = inl many

limit_status : (a : TextCommand) (i : List ℕ) → 16777216 < length i → status.Limit ≡ status_of a i
limit_status a i many = sym (cond-true _ _ _ (lt-ltb 16777216 (length i) many))

unread_as : (Unchanged : Type 0) (a : TextCommand) (left rest old : Option (List ℕ)) (r : ReadRefusal) → Unchanged → IsUnread left rest r →
    IsOutcome Unchanged a left rest old old (unread r)
unread_as Unchanged a left rest old reads.Failed same why = record {
  kinds = (λ is. grind (arith, is), λ is. grind (arith, is), λ is. grind (arith, is));
  done = λ is. absurd (grind (arith, is));
  no = λ step is. absurd (grind (arith, is));
  whole = λ behind. absurd behind;
  bad = λ line is. absurd (grind (arith, is));
  stray = λ host event is. absurd (grind (arith, is));
  limit = λ is. absurd (grind (arith, is));
  limit_whole = λ is. absurd (grind (arith, is));
  reading = λ is. why;
  memory = λ is. absurd (grind (arith, is));
  writing = λ is. absurd (grind (arith, is));
  complete = tt;
  front = some_input left _ (λ i. inl (nothing_more old));
}
unread_as Unchanged a left rest old reads.TooLong same why = record {
  kinds = (λ is. grind (arith, is), λ is. grind (arith, is), λ is. grind (arith, is));
  done = λ is. absurd (grind (arith, is));
  no = λ step is. absurd (grind (arith, is));
  whole = λ behind. absurd behind;
  bad = λ line is. absurd (grind (arith, is));
  stray = λ host event is. absurd (grind (arith, is));
  limit = λ is. weaker left _ _ (λ i many. inl (over_limit a i many, same)) (too_many left rest why);
  limit_whole = λ is. inl (why, same);
  reading = λ is. absurd (grind (arith, is));
  memory = λ is. absurd (grind (arith, is));
  writing = λ is. absurd (grind (arith, is));
  complete = weaker left _ _ (limit_status a) (too_many left rest why);
  front = some_input left _ (λ i. inl (nothing_more old));
}
unread_as Unchanged a left rest old reads.NoMemory same why = record {
  kinds = (λ is. grind (arith, is), λ is. grind (arith, is), λ is. grind (arith, is));
  done = λ is. absurd (grind (arith, is));
  no = λ step is. absurd (grind (arith, is));
  whole = λ behind. absurd behind;
  bad = λ line is. absurd (grind (arith, is));
  stray = λ host event is. absurd (grind (arith, is));
  limit = λ is. absurd (grind (arith, is));
  limit_whole = λ is. absurd (grind (arith, is));
  reading = λ is. absurd (grind (arith, is));
  memory = λ is. why;
  writing = λ is. absurd (grind (arith, is));
  complete = tt;
  front = some_input left _ (λ i. inl (nothing_more old));
}

pub unread_is : (Unchanged : Type 0) (a : TextCommand) (left rest old : Option (List ℕ)) (r : ReadRefusal) (s : Status) → s ≡ unread r → Unchanged →
    IsUnread left rest r → IsOutcome Unchanged a left rest old old s
unread_is Unchanged a left rest old r s is same why =
    subst (IsOutcome Unchanged a left rest old old) (sym is) (unread_as Unchanged a left rest old r same why)

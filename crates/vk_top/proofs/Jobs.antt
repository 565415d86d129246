-- From the answer to an input or to a storm to the words.
use Rattle.std.proofs.Common.{◌≡◌, ◌∙◌, ap, ℕ, ◌⊎◌, true, List, [], Option, Some, None, inl, inr, refl, subst, arith}
use Rattle.std.specs.Prelude.{IsSomeAnd}
use Rattle.std.specs.Io.KnownBytes.{Appends}
use Rattle.clap.specs.Walk.{Text}
use Rattle.vk_edge.proofs.Inputs.{some_input}
use Rattle.vk_edge.specs.Inputs.{OfInput}
use Rattle.vk_top.proofs.Storms.{no_other}
use Rattle.vk_top.proofs.Told.{nothing_more}
use Rattle.vk_top.specs.declared.status.Status.{Status}
use Rattle.vk_top.specs.declared.status.Status.TheVariants as status
use Rattle.vk_top.specs.declared.words.TextCommand.{TextCommand}
use Rattle.vk_top.specs.declared.words.Invocation.{Invocation}
use Rattle.vk_top.specs.declared.words.Invocation.TheVariants as jobs
use Rattle.vk_top.specs.Jobs.{Asks, IsAloneAnswer, IsFront, IsJobBadAt, IsJobCutShort, IsJobDecided, IsJobDone, IsJobNotARun, IsJobOverLimit, IsJobPart, IsJobStrayAt, IsJobToWrite, IsStormAnswered}
use Rattle.vk_top.specs.Top.{IsEarly}
use Rattle.vk_top.specs.Work.{IsOutcome}
use Rattle.vk_top.specs.Words.{is_threaded, job_of}

asks : (words : List Text) (j : Invocation) (told : Option (List ℕ)) (Holds : Invocation → List ℕ → Type 0) → Some j ≡ job_of words
    → OfInput told (Holds j) → Asks words told Holds
asks words j told Holds is given = subst (λ (o : Option Invocation). IsSomeAnd o (λ k. OfInput told (Holds k))) is given

-- whatever the input is
asks_anyhow : (words : List Text) (j : Invocation) (told : Option (List ℕ)) (Holds : Invocation → List ℕ → Type 0) → Some j ≡ job_of words
    → ((i : List ℕ) → Holds j i) → Asks words told Holds
asks_anyhow words j told Holds is given = asks words j told Holds is (some_input told (Holds j) given)

front_for : (words : List Text) (j : Invocation) (i : List ℕ) (old new : Option (List ℕ)) → Some j ≡ job_of words
    → Appends old new [] ⊎ IsJobPart j i old new → IsFront words i old new
front_for words j i old new is (inl none) = inl none
front_for words j i old new is (inr part) = inr (subst (λ (o : Option Invocation). IsSomeAnd o (λ k. IsJobPart k i old new)) is part)

front_is : (words : List Text) (j : Invocation) (told old new : Option (List ℕ)) → Some j ≡ job_of words
    → OfInput told (λ i. Appends old new [] ⊎ IsJobPart j i old new) → OfInput told (λ i. IsFront words i old new)
front_is words j told old new is given = record {
  input = given.input;
  all = given.all;
  holds = front_for words j given.input old new is given.holds;
}

nothing_written : (words : List Text) (told old : Option (List ℕ)) → OfInput told (λ i. IsFront words i old old)
nothing_written words told old = some_input told _ (λ i. inl (nothing_more old))

clash : {A B : Type 0} (a : A) (o : Option A) → Some a ≡ o → o ≡ None → B
clash a o is none = cc

-- two jobs of the same words are one
differ : {B : Type 0} (j k : Invocation) (o : Option Invocation) → Some j ≡ o → o ≡ Some k → (j ≡ k → B) → B
differ j k o is same follows = let e : j ≡ k = cc in follows e

decided_for : (j k : Invocation) (o : Option Invocation) (told : Option (List ℕ)) (s : Status) → Some k ≡ o → o ≡ Some j → IsJobDecided k told s
    → IsJobDecided j told s
decided_for j k o told s is same given =
    let P : Invocation → Type 0 = λ x. IsJobDecided x told s in
    let e : k ≡ j = cc in
    subst P e given

-- The answer to a text.
pub text_answer : (Unread Unwritten : Type 0) (words : List Text) (a : TextCommand) (left rest old new : Option (List ℕ)) (s : Status) →
    Some (jobs.OfText a) ≡ job_of words → IsOutcome Unwritten a left rest old new s → (IsEarly s → Unwritten) →
    IsAloneAnswer Unread Unwritten words left rest old new s
text_answer Unread Unwritten words a left rest old new s job outcome nothing = record {
  usage = λ is. absurd (outcome.kinds.0 is);
  useless = λ none. clash (jobs.OfText a) (job_of words) job none;
  done = λ is. asks words (jobs.OfText a) left (λ j i. IsJobDone j i old new) job (outcome.done is);
  not_a_run = λ step is. asks words (jobs.OfText a) left (λ j i. IsJobNotARun j i step old new) job (outcome.no step is);
  whole = λ b same behind. outcome.whole behind;
  alone = λ n same. differ (jobs.OfText a) (jobs.Storm n) (job_of words) job same (λ e. absurd (cc));
  bad = λ line is. asks words (jobs.OfText a) left (λ j i. IsJobBadAt j i line) job (outcome.bad line is);
  stray = λ host event is. asks words (jobs.OfText a) left (λ j i. IsJobStrayAt j i host event) job (outcome.stray host event is);
  limit = λ is.
      asks words (jobs.OfText a) left (λ j i. (IsJobOverLimit j i × Unwritten) ⊎ IsJobCutShort j i old new) job (outcome.limit is);
  limit_whole = λ b same is. outcome.limit_whole is;
  reading = outcome.reading;
  memory = λ is. inr (outcome.memory is);
  complete = λ j same. decided_for j (jobs.OfText a) (job_of words) left s job same outcome.complete;
  writing = λ is. asks words (jobs.OfText a) left IsJobToWrite job (outcome.writing is);
  crew = outcome.kinds.1;
  link = outcome.kinds.2;
  nothing = nothing;
  front = front_is words (jobs.OfText a) left old new job outcome.front;
}

-- The answer to a storm, of which nothing was read.
pub storm_answer : (Unread Unwritten : Type 0) (words : List Text) (n : ℕ) (left old new : Option (List ℕ)) (s : Status) →
    Some (jobs.Storm n) ≡ job_of words → Unread → IsStormAnswered Unwritten n old new s → (IsEarly s → Unwritten) →
    IsAloneAnswer Unread Unwritten words left left old new s
storm_answer Unread Unwritten words n left old new s job unread answered nothing =
    let j : Invocation = jobs.Storm n in
    record {
      usage = λ is. no_other s status.Usage answered.kinds is (λ e. grind (arith, e)) (λ e. grind (arith, e)) (λ e. grind (arith, e)) (λ e. grind (arith, e));
      useless = λ none. clash j (job_of words) job none;
      done = λ is. asks_anyhow words j left (λ k i. IsJobDone k i old new) job (λ i. answered.done is);
      not_a_run = λ step is.
          no_other s (status.NotARun step) answered.kinds is (λ e. grind (arith, e)) (λ e. grind (arith, e)) (λ e. grind (arith, e)) (λ e. grind (arith, e));
      whole = λ a same behind. differ j (jobs.OfText a) (job_of words) job same (λ e. absurd (cc));
      alone = λ m same. unread;
      bad = λ line is.
          no_other s (status.BadInput line) answered.kinds is (λ e. grind (arith, e)) (λ e. grind (arith, e)) (λ e. grind (arith, e)) (λ e. grind (arith, e));
      stray = λ host event is.
          no_other s (status.Stray host event) answered.kinds is (λ e. grind (arith, e)) (λ e. grind (arith, e)) (λ e. grind (arith, e)) (λ e. grind (arith, e));
      limit = λ is. asks_anyhow words j left (λ k i. (IsJobOverLimit k i × Unwritten) ⊎ IsJobCutShort k i old new) job
          (λ i. inl (answered.limit is));
      limit_whole = λ a same is. differ j (jobs.OfText a) (job_of words) job same (λ e. absurd (cc));
      reading = λ is. no_other s status.ReadFault answered.kinds is (λ e. grind (arith, e)) (λ e. grind (arith, e)) (λ e. grind (arith, e)) (λ e. grind (arith, e));
      memory = λ is. inl unread;
      complete = λ k same. decided_for k j (job_of words) left s job same answered.complete;
      writing = λ is. asks_anyhow words j left IsJobToWrite job (λ i. answered.writing is);
      crew = λ is. no_other s status.CrewFault answered.kinds is (λ e. grind (arith, e)) (λ e. grind (arith, e)) (λ e. grind (arith, e)) (λ e. grind (arith, e));
      link = λ is. no_other s status.LinkFault answered.kinds is (λ e. grind (arith, e)) (λ e. grind (arith, e)) (λ e. grind (arith, e)) (λ e. grind (arith, e));
      nothing = nothing;
      front = front_is words j left old new job (some_input left _ (λ i. inr answered.front));
    }

-- The answer to words that ask for nothing that the program does.
pub useless_answer : (Unread Unwritten : Type 0) (words : List Text) (left old : Option (List ℕ)) → job_of words ≡ None → Unread →
    Unwritten → IsAloneAnswer Unread Unwritten words left left old old status.Usage
useless_answer Unread Unwritten words left old none unread unwritten = record {
  usage = λ is. none;
  useless = λ is. (inl refl, unread, unwritten);
  done = λ is. absurd (grind (arith, is));
  not_a_run = λ step is. absurd (grind (arith, is));
  whole = λ a same behind. absurd behind;
  alone = λ n same. unread;
  bad = λ line is. absurd (grind (arith, is));
  stray = λ host event is. absurd (grind (arith, is));
  limit = λ is. absurd (grind (arith, is));
  limit_whole = λ a same is. absurd (grind (arith, is));
  reading = λ is. absurd (grind (arith, is));
  memory = λ is. absurd (grind (arith, is));
  complete = λ j same. absurd (cc);
  writing = λ is. absurd (grind (arith, is));
  crew = λ is. grind (arith, is);
  link = λ is. grind (arith, is);
  nothing = λ early. unwritten;
  front = nothing_written words left old;
}

wanted : (j : Invocation) (told : Option (List ℕ)) → IsJobDecided j told status.NoMemory
wanted (jobs.OfText a) told = tt
wanted jobs.Run told = refl
wanted (jobs.Node host) told = refl
wanted (jobs.Storm n) told = tt

-- The answer where memory is wanting to read the words.
pub wanting_answer : (Unread Unwritten : Type 0) (words : List Text) (left old : Option (List ℕ)) → Unread → Unwritten →
    IsAloneAnswer Unread Unwritten words left left old old status.NoMemory
wanting_answer Unread Unwritten words left old unread unwritten = record {
  usage = λ is. absurd (grind (arith, is));
  useless = λ is. (inr refl, unread, unwritten);
  done = λ is. absurd (grind (arith, is));
  not_a_run = λ step is. absurd (grind (arith, is));
  whole = λ a same behind. absurd behind;
  alone = λ n same. unread;
  bad = λ line is. absurd (grind (arith, is));
  stray = λ host event is. absurd (grind (arith, is));
  limit = λ is. absurd (grind (arith, is));
  limit_whole = λ a same is. absurd (grind (arith, is));
  reading = λ is. absurd (grind (arith, is));
  memory = λ is. inl unread;
  complete = λ j same. wanted j left;
  writing = λ is. absurd (grind (arith, is));
  crew = λ is. grind (arith, is);
  link = λ is. grind (arith, is);
  nothing = λ early. unwritten;
  front = nothing_written words left old;
}

-- No text and no storm is asked for where what is asked for is done in threads.
pub not_threaded : {B : Type 0} (j : Invocation) (o : Option Invocation) → Some j ≡ o → is_threaded o ≡ true → ¬ (is_threaded (Some j) ≡ true) → B
not_threaded j o is threaded other = absurd (other (ap is_threaded is ∙ threaded))

-- From what is told of a text to the answer to an input.
use Rattle.std.proofs.Common.{take, ◌≡◌, ◌<◌, ℕ, length, List, Option, ◌⊎◌, inl, inr, subst, sym, ◌∙◌}
use Rattle.std.specs.Io.KnownBytes.{Appends}
use Rattle.vk_base.specs.declared.limits.TheConstants.{INPUT_BYTES}
use Rattle.vk_edge.proofs.Inputs.{of_text, too_many, weaker}
use Rattle.vk_edge.specs.Answers.{IsWritten}
use Rattle.vk_edge.specs.Inputs.{IsReadOver, IsText, OfInput}
use Rattle.vk_explain.specs.declared.words.Asked.{Asked}
use Rattle.vk_explain.specs.declared.status.Status.{Status}
use Rattle.vk_explain.specs.declared.status.Status.TheVariants as status
use Rattle.vk_explain.specs.Explained.{IsOver}
use Rattle.vk_explain.specs.Top.{IsAnswer, IsEarly, IsFront, IsSaid, IsTold}

-- what is said of a status that tells of a failed write, and of no other
abbrev IsFault : Status → Type 0
IsFault status.WriteFault = Unit {0}
IsFault s = ⊥

abbrev IsWanting : Status → Type 0
IsWanting status.NoMemory = Unit {0}
IsWanting s = ⊥

abbrev IsLimit : Status → Type 0
IsLimit status.Limit = Unit {0}
IsLimit s = ⊥

told_late : (asked : Asked) (text told : List ℕ) (t : Status) → IsTold asked text told t → ¬ (IsEarly t)
told_late asked text told status.Right is early = early
told_late asked text told status.Wrong is early = early
told_late asked text told status.Usage is early = is
told_late asked text told status.ReadFault is early = is
told_late asked text told status.WriteFault is early = is
told_late asked text told status.NoMemory is early = is
told_late asked text told status.Limit is early = is

module _ (asked : Asked) (text told : List ℕ) (t s : Status) (old new : Option (List ℕ)) (is : IsTold asked text told t)
    (written : IsWritten t status.WriteFault told old new s) where
  said_by : IsWritten t status.WriteFault told old new s → IsAnswer s → IsSaid asked text old new s
  said_by (inl (e, output)) answered = record { told = told; is = subst (IsTold asked text told) (sym e) is; output = output }
  said_by (inr e) answered = absurd (subst IsAnswer e answered)

  pub said : IsAnswer s → IsSaid asked text old new s
  said answered = said_by written answered

  kinds_by : IsWritten t status.WriteFault told old new s → (¬ (s ≡ status.Usage)) × (¬ (s ≡ status.ReadFault))
  kinds_by (inl (e, output)) = (
    λ other. subst (IsTold asked text told) (sym e ∙ other) is,
    λ other. subst (IsTold asked text told) (sym e ∙ other) is,
  )
  kinds_by (inr e) = (λ other. subst IsFault (sym e ∙ other) tt, λ other. subst IsFault (sym e ∙ other) tt)

  late_by : IsWritten t status.WriteFault told old new s → ¬ (IsEarly s)
  late_by (inl (e, output)) early = told_late asked text told t is (subst IsEarly e early)
  late_by (inr e) early = subst IsEarly e early

  pub said_late : ¬ (IsEarly s)
  said_late = late_by written

  pub said_kinds : (¬ (s ≡ status.Usage)) × (¬ (s ≡ status.ReadFault))
  said_kinds = kinds_by written

pub told_other : (asked : Asked) (text told : List ℕ) (t : Status) → IsTold asked text told t → ¬ (t ≡ status.WriteFault)
told_other asked text told t is e = subst (IsTold asked text told) e is

pub answer_other : (s : Status) → IsAnswer s → ¬ (s ≡ status.WriteFault)
answer_other s is e = subst IsAnswer e is

-- a page that is told
paged_by : (page : List ℕ) (old new : Option (List ℕ)) (s : Status) → IsWritten status.Right status.WriteFault page old new s → IsAnswer s
    → (s ≡ status.Right) × Appends old new page
paged_by page old new s (inl (e, output)) answered = (e, output)
paged_by page old new s (inr e) answered = absurd (subst IsAnswer e answered)

pub paged : (page text : List ℕ) (old new : Option (List ℕ)) (s : Status) → IsWritten status.Right status.WriteFault text old new s
    → text ≡ page → IsAnswer s → (s ≡ status.Right) × Appends old new page
paged page text old new s written is =
    paged_by page old new s (subst (λ t. IsWritten status.Right status.WriteFault t old new s) is written)

pub paged_front : (page text : List ℕ) (old new : Option (List ℕ)) → text ≡ page → (n : ℕ) × Appends old new (take n text)
    → (n : ℕ) × Appends old new (take n page)
paged_front page text old new is (n, front) = (n, subst (λ t. Appends old new (take n t)) is front)

abbrev IsRightOne : Status → Type 0
IsRightOne status.Right = Unit {0}
IsRightOne s = ⊥

pub paged_kinds : (page : List ℕ) (old new : Option (List ℕ)) (s : Status) → IsWritten status.Right status.WriteFault page old new s
    → (¬ (s ≡ status.Usage)) × (¬ (s ≡ status.ReadFault)) × (¬ (s ≡ status.Limit)) × (¬ (IsEarly s))
paged_kinds page old new s (inl (e, output)) = (
  λ other. subst IsRightOne (sym e ∙ other) tt,
  λ other. subst IsRightOne (sym e ∙ other) tt,
  λ other. subst IsRightOne (sym e ∙ other) tt,
  λ early. subst IsEarly e early,
)
paged_kinds page old new s (inr e) = (
  λ other. subst IsFault (sym e ∙ other) tt,
  λ other. subst IsFault (sym e ∙ other) tt,
  λ other. subst IsFault (sym e ∙ other) tt,
  λ early. subst IsEarly e early,
)

-- the answers that tell why nothing is told
pub quiet_kinds : (s : Status) (Over : Type 0) → (s ≡ status.NoMemory) ⊎ ((s ≡ status.Limit) × Over)
    → (¬ (s ≡ status.Usage)) × (¬ (s ≡ status.ReadFault)) × (¬ (s ≡ status.WriteFault)) × (¬ (IsAnswer s))
quiet_kinds s Over (inl e) = (
  λ other. subst IsWanting (sym e ∙ other) tt,
  λ other. subst IsWanting (sym e ∙ other) tt,
  λ other. subst IsWanting (sym e ∙ other) tt,
  λ answered. subst IsAnswer e answered,
)
quiet_kinds s Over (inr e) = (
  λ other. subst IsLimit (sym e.0 ∙ other) tt,
  λ other. subst IsLimit (sym e.0 ∙ other) tt,
  λ other. subst IsLimit (sym e.0 ∙ other) tt,
  λ answered. subst IsAnswer e.0 answered,
)

pub quiet_limit : (s : Status) (Over : Type 0) → (s ≡ status.NoMemory) ⊎ ((s ≡ status.Limit) × Over) → s ≡ status.Limit → Over
quiet_limit s Over (inl e) is = absurd (subst IsWanting (sym e ∙ is) tt)
quiet_limit s Over (inr e) is = e.1

-- what holds of the text that was read holds of the input
pub of_said : (asked : Asked) (left rest : Option (List ℕ)) (text bytes : List ℕ) (old new : Option (List ℕ)) (s : Status)
    → IsText left rest text → bytes ≡ text → IsSaid asked bytes old new s → OfInput left (λ i. IsSaid asked i old new s)
of_said asked left rest text bytes old new s read same holds =
    of_text left rest text (λ i. IsSaid asked i old new s) read (subst (λ t. IsSaid asked t old new s) same holds)

pub of_front : (asked : Asked) (left rest : Option (List ℕ)) (text bytes : List ℕ) (old new : Option (List ℕ)) → IsText left rest text
    → bytes ≡ text → IsFront asked bytes old new → OfInput left (λ i. IsFront asked i old new)
of_front asked left rest text bytes old new read same holds =
    of_text left rest text (λ i. IsFront asked i old new) read (subst (λ t. IsFront asked t old new) same holds)

pub of_over : (left rest : Option (List ℕ)) (text bytes : List ℕ) → IsText left rest text → bytes ≡ text → IsOver bytes
    → OfInput left (λ i. (INPUT_BYTES < length i) ⊎ IsOver i)
of_over left rest text bytes read same over =
    of_text left rest text (λ i. (INPUT_BYTES < length i) ⊎ IsOver i) read (inr (subst IsOver same over))

pub of_many : (left rest : Option (List ℕ)) → IsReadOver left rest → OfInput left (λ i. (INPUT_BYTES < length i) ⊎ IsOver i)
of_many left rest lost =
    weaker left (λ i. INPUT_BYTES < length i) (λ i. (INPUT_BYTES < length i) ⊎ IsOver i) (λ i many. inl many) (too_many left rest lost)

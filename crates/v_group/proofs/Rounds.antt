-- A helper makes each of its reports in a round of its own.
use Rattle.std.proofs.Common.{◌≡◌, ℕ, suc, ◌+◌, ◌<◌, ◌≤◌, Bool, List, [], ◌∷◌, ◌++◌, length, slice_get, Option, Some, refl, sym, ap, ◌∙◌, inl, inr, arith}
use Rattle.std.proofs.lemmas.Bool.{cases_order}
use Rattle.std.proofs.lemmas.List.{append-nil, length-append}
use Rattle.vk_types.specs.Types.{Answer, Call, Pid, ProcessSpec, Step}
use Rattle.vk_base.specs.declared.step.Step.TheVariants as steps
use Rattle.vk_group.specs.declared.helping.Helping.{Helping}
use Rattle.vk_group.specs.declared.helping.Helping.TheVariants as helpings
use Rattle.vk_group.specs.Helpers.{helped, helped_all}
use Rattle.v_pages.specs.Followed.{FollowsTask, answer_at, answers_before, call_at, calls_before}
use Rattle.v_pages.proofs.Lists.{up_to_later, up_to_some}
use Rattle.v_pages.proofs.Places.{call_here}

-- a process that follows a task is answered between two of its calls
pub record IsAnsweredOn (specs : List ProcessSpec) (ss : List Step) (h : Pid) (i j : ℕ) : Type 0 where
  pub answer : Answer
  pub later : List Answer
  pub is : answers_before specs ss h j ≡ answers_before specs ss h i ++ answer ∷ later

not_none : (xs later : List Answer) (n : ℕ) → n ≡ length xs → n + 1 ≤ length (xs ++ later) →
    (a : Answer) × (rest : List Answer) × (later ≡ a ∷ rest)
not_none xs [] n same more = let size = ap length (append-nil xs) in absurd (omega arith)
not_none xs (a ∷ rest) n same more = (a, rest, refl)

pub answered_on : (task : List Answer → Option Call) (specs : List ProcessSpec) (ss : List Step) (h : Pid) → FollowsTask task specs ss h →
    (i j : ℕ) (c d : Call) → slice_get ss i ≡ Some (steps.Call h c) → slice_get ss j ≡ Some (steps.Call h d) → i < j →
    IsAnsweredOn specs ss h i j
answered_on task specs ss h follows i j c d is_i is_j less =
    let first = (follows i c (call_here ss h i c is_i)).answered in
    let second = (follows j d (call_here ss h j d is_j)).answered in
    let calls = up_to_later (call_at ss h) (suc i) j (omega arith) in
    let one = ap length (up_to_some (call_at ss h) i c (call_here ss h i c is_i)) in
    let push = length-append (calls_before ss h i) (c ∷ []) in
    let count = ap length calls.1 in
    let sum = length-append (calls_before ss h (suc i)) calls.0 in
    let f = up_to_later (answer_at specs ss h) i j (omega arith) in
    let size = ap length f.1 in
    let x = not_none (answers_before specs ss h i) f.0 (length (answers_before specs ss h i)) refl (omega arith) in
    record { answer = x.0; later = x.1; is = f.1 ∙ ap (λ xs. answers_before specs ss h i ++ xs) x.2 }

-- How many reports were over.
abbrev pub over : Helping → ℕ
over (helpings.Report b) = 1
over helpings.Ready = 0
over helpings.Load = 0
over (helpings.Send m) = 0
over (helpings.Store m) = 0
over helpings.Exit = 0
over helpings.Ended = 0

abbrev pub rounds : Helping → List Answer → ℕ
rounds stage [] = 0
rounds stage (a ∷ rest) = over stage + rounds (helped stage a) rest

plus_more : (k a b c : ℕ) → a ≡ b + c → k + a ≡ k + b + c
plus_more k a b c e = omega (arith, e)

rounds_on : (stage : Helping) (given later : List Answer) →
    rounds stage (given ++ later) ≡ rounds stage given + rounds (helped_all stage given) later
rounds_on stage [] later = omega arith
rounds_on stage (a ∷ rest) later =
    plus_more (over stage) (rounds (helped stage a) (rest ++ later)) (rounds (helped stage a) rest)
    (rounds (helped_all (helped stage a) rest) later) (rounds_on (helped stage a) rest later)

-- after one answer more, where it did this
pub rounds_after : (given front : List Answer) (a : Answer) (stage : Helping) → given ≡ front ++ a ∷ [] →
    helped_all helpings.Ready front ≡ stage → over stage ≡ 0 → rounds helpings.Ready front ≡ rounds helpings.Ready given
rounds_after given front a stage split is none =
    let n = rounds helpings.Ready front in
    let e : rounds helpings.Ready given ≡ n + (over (helped_all helpings.Ready front) + 0) =
    ap (rounds helpings.Ready) split ∙ rounds_on helpings.Ready front (a ∷ []) in
    let z : over (helped_all helpings.Ready front) ≡ 0 = ap over is ∙ none in
    by_sum n (over (helped_all helpings.Ready front)) (rounds helpings.Ready given) z e
  where
    by_sum : (n k m : ℕ) → k ≡ 0 → m ≡ n + (k + 0) → n ≡ m
    by_sum n k m z e = omega (arith, z, e)

abbrev pub rounds_at : List ProcessSpec → List Step → Pid → ℕ → ℕ
rounds_at specs ss h i = rounds helpings.Ready (answers_before specs ss h i)

more_sum : (n k m : ℕ) → m ≡ n + k → n ≤ m
more_sum n k m e = omega (arith, e)

pub rounds_up : (specs : List ProcessSpec) (ss : List Step) (h : Pid) (i j : ℕ) → i ≤ j → rounds_at specs ss h i ≤ rounds_at specs ss h j
rounds_up specs ss h i j up =
    let f = up_to_later (answer_at specs ss h) i j up in
    more_sum (rounds_at specs ss h i) (rounds (helped_all helpings.Ready (answers_before specs ss h i)) f.0) (rounds_at specs ss h j)
    (ap (rounds helpings.Ready) f.1 ∙ rounds_on helpings.Ready (answers_before specs ss h i) f.0)

less_sum : (n k m : ℕ) → m ≡ n + (1 + k) → n ≡ m → ⊥
less_sum n k m e same = omega (arith, e, same)

report_again : (specs : List ProcessSpec) (ss : List Step) (h : Pid) (i j : ℕ) (b : Bool) → IsAnsweredOn specs ss h i j →
    helped_all helpings.Ready (answers_before specs ss h i) ≡ helpings.Report b → rounds_at specs ss h i ≡ rounds_at specs ss h j → ⊥
report_again specs ss h i j b x stage same =
    less_sum (rounds_at specs ss h i) (rounds (helped (helpings.Report b) x.answer) x.later) (rounds_at specs ss h j)
    (ap (rounds helpings.Ready) x.is ∙ rounds_on helpings.Ready (answers_before specs ss h i) (x.answer ∷ x.later)
    ∙ ap (λ s. rounds_at specs ss h i + rounds s (x.answer ∷ x.later)) stage) same

-- of one round there is but one report
pub one_report : (task : List Answer → Option Call) (specs : List ProcessSpec) (ss : List Step) (h : Pid) → FollowsTask task specs ss h →
    (i j : ℕ) (c d : Call) (a b : Bool) → slice_get ss i ≡ Some (steps.Call h c) → slice_get ss j ≡ Some (steps.Call h d) →
    helped_all helpings.Ready (answers_before specs ss h i) ≡ helpings.Report a →
    helped_all helpings.Ready (answers_before specs ss h j) ≡ helpings.Report b →
    rounds_at specs ss h i ≡ rounds_at specs ss h j → i ≡ j
one_report task specs ss h follows i j c d a b is_i is_j stage_i stage_j same = elim (cases_order i j) [
  | inl here ↦ here
  | inr apart ↦ elim apart [
    | inl below ↦ absurd (report_again specs ss h i j a (answered_on task specs ss h follows i j c d is_i is_j below) stage_i same)
    | inr above ↦ absurd (report_again specs ss h j i b (answered_on task specs ss h follows j i d c is_j is_i above) stage_j (sym same))
  ]
]

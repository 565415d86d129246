-- What holds where a coordinator chose what to do.
use Rattle.std.proofs.Common.{◌≡◌, ℕ, true, false, not, List, [], ◌∷◌, drop, Option, Some, None, refl, ap, sym, ◌∙◌, cond}
use Rattle.std.specs.Prelude.{IfSome, option_map, slice_get}
use Rattle.std.specs.List.{list_any, list_all, position}
use Rattle.std.specs.Option.{is_some}
use Rattle.std.proofs.lemmas.Bool.{and_parts, cond_both, not-true}
use Rattle.std.proofs.lemmas.List.Quantifiers.{position-Some}
use Rattle.std.proofs.lemmas.Option.{get_or_from_slice_get, none-some, same_Some}
use Rattle.vk_types.specs.Types.{Message}
use Rattle.vk_base.specs.Options.{◌>>=◌}
use Rattle.vk_group.specs.declared.code.Code.{Code}
use Rattle.vk_group.specs.declared.code.Code.TheVariants as codes
use Rattle.vk_group.specs.declared.group.Group.{Group}
use Rattle.vk_group.specs.declared.member.Member.{Member}
use Rattle.vk_group.specs.declared.member.Progress.TheVariants as works
use Rattle.vk_group.specs.declared.member.Progress.{Progress}
use Rattle.vk_group.specs.declared.notes.Note.{Note}
use Rattle.vk_group.specs.declared.stage.HelperJob.{HelperJob}
use Rattle.vk_group.specs.declared.stage.Stage.{Stage}
use Rattle.vk_group.specs.declared.stage.Stage.TheVariants as stages
use Rattle.vk_group.specs.declared.stage.Wait.{Wait}
use Rattle.vk_group.specs.Groups.{all_reported, by_job, by_waiting, helper_due, is_busy, is_ending, job_due, next_stage, settled, told_next, verdict}
use Rattle.vk_group.specs.Members.{has_replied, has_reported, is_due, is_open, was_told}
use Rattle.vk_group.proofs.Works.{work_at, work_in}

-- what a code says of the members and of the replies that were not handed over
abbrev pub IsCodeRight : List Member → List Note → Code → Type 0
IsCodeRight ms notes codes.Busy = list_all has_reported ms ≡ false
IsCodeRight ms notes codes.Nobody = (list_all has_reported ms ≡ true) × (list_any has_replied ms ≡ false)
IsCodeRight ms notes codes.NoMore = (list_all has_reported ms ≡ true) × (notes ≡ []) × (list_any has_replied ms ≡ true)
IsCodeRight ms notes codes.Done = Unit {0}
IsCodeRight ms notes codes.End = Unit {0}
IsCodeRight ms notes codes.Bad = Unit {0}

-- and what a stage rests on
abbrev pub IsStaged : List Member → List Note → Stage → Type 0
IsStaged ms notes (stages.LoadResult number helper replied) = work_at ms number ≡ Some works.Given
IsStaged ms notes (stages.StoreJob j) = work_at ms j.member ≡ Some works.Open
IsStaged ms notes (stages.GiveJob j) = work_at ms j.member ≡ Some works.Open
IsStaged ms notes (stages.StoreReply w n) = notes ≡ n ∷ drop 1 notes
IsStaged ms notes (stages.HandOver w n) = notes ≡ n ∷ drop 1 notes
IsStaged ms notes (stages.Refuse to code counts) = IsCodeRight ms notes code
IsStaged ms notes (stages.EndWait client code) = IsCodeRight ms notes code
IsStaged ms notes stages.Receive = Unit {0}
IsStaged ms notes (stages.LoadSend client dest) = Unit {0}
IsStaged ms notes (stages.Thank helper) = Unit {0}
IsStaged ms notes (stages.Tell number helper) = Unit {0}
IsStaged ms notes stages.Exit = Unit {0}
IsStaged ms notes stages.Ended = Unit {0}

-- a chain of options
pub if_bound : {A B : Type 0} (o : Option A) (f : A → Option B) (P : B → Type 0) → ((a : A) → o ≡ Some a → IfSome (f a) P) →
    IfSome (o >>= f) P
if_bound None f P holds = tt
if_bound (Some a) f P holds = holds a refl

open_is : (w : Progress) → is_open w ≡ true → w ≡ works.Open
open_is works.Open e = refl
open_is works.Given e = cc
open_is works.Replied e = cc
open_is works.Failed e = cc

-- a job that is due was not given
due_is : (ms : List Member) (n : ℕ) (m : Member) → position is_due ms ≡ Some n → slice_get ms n ≡ Some m → work_at ms n ≡ Some works.Open
due_is ms n m at is =
    let passes : is_due m ≡ true =
    ap is_due (sym (get_or_from_slice_get ms n m m is)) ∙ (position-Some is_due ms n m at).1 in
    ap (option_map work_in) is ∙ ap Some (open_is m.work (and_parts (is_some m.ready) (is_open m.work) passes).1)

job_staged : (g : Group) → IfSome (job_due g) (λ (j : HelperJob). work_at g.members j.member ≡ Some works.Open)
job_staged g =
    if_bound g.asked _ _ (λ a asked. if_bound (position is_due g.members) _ _ (λ n at. if_bound (slice_get g.members n) _ _ (λ m is.
    if_bound m.ready _ _ (λ dest ready. due_is g.members n m at is))))

helper_staged : (g : Group) (notes : List Note) → IfSome (helper_due g) (IsStaged g.members notes)
helper_staged g notes =
    if_bound (position _ g.members) _ _ (λ n at. if_bound (slice_get g.members n) _ _ (λ m is. tt))

-- the replies that are left

first_is : (notes : List Note) (n : Note) → slice_get notes 0 ≡ Some n → notes ≡ n ∷ drop 1 notes
first_is [] n is = absurd (none-some n is)
first_is (x ∷ xs) n is = ap (λ y. y ∷ xs) (same_Some x n is)

none_left : (notes : List Note) → slice_get notes 0 ≡ None → notes ≡ []
none_left [] is = refl
none_left (x ∷ xs) is = absurd (none-some x (sym is))

settled_staged : (g : Group) (w : Wait) (o : Option Note) → slice_get g.notes 0 ≡ o → IsStaged g.members g.notes (settled g w o)
settled_staged g w (Some n) is = first_is g.notes n is
settled_staged g w None is =
    cond_both (all_reported g) (stages.EndWait w.client (cond (list_any has_replied g.members) codes.NoMore codes.Nobody))
    (cond (is_ending g) (stages.EndWait w.client codes.Bad) stages.Receive) (IsStaged g.members g.notes)
    (λ all. cond_both (list_any has_replied g.members) codes.NoMore codes.Nobody (IsCodeRight g.members g.notes)
    (λ some. (all, none_left g.notes is, some)) (λ nobody. (all, nobody)))
    (λ busy. cond_both (is_ending g) (stages.EndWait w.client codes.Bad) stages.Receive (IsStaged g.members g.notes) (λ t. tt) (λ f. tt))

told_staged : (g : Group) (o : Option Stage) → IfSome o (IsStaged g.members g.notes) → IsStaged g.members g.notes (told_next g o)
told_staged g (Some s) staged = staged
told_staged g None staged =
    cond_both (list_all was_told g.members) stages.Exit stages.Receive (IsStaged g.members g.notes) (λ t. tt) (λ f. tt)

waiting_staged : (g : Group) (o : Option Wait) → IsStaged g.members g.notes (by_waiting g o)
waiting_staged g (Some w) = settled_staged g w (slice_get g.notes 0) refl
waiting_staged g None =
    cond_both (is_ending g) (told_next g (helper_due g)) stages.Receive (IsStaged g.members g.notes)
    (λ t. told_staged g (helper_due g) (helper_staged g g.notes)) (λ f. tt)

by_job_staged : (g : Group) (o : Option HelperJob) → IfSome o (λ (j : HelperJob). work_at g.members j.member ≡ Some works.Open) →
    IsStaged g.members g.notes (by_job g o)
by_job_staged g (Some j) due = due
by_job_staged g None due = waiting_staged g g.waiting

pub next_staged : (g : Group) → IsStaged g.members g.notes (next_stage g)
next_staged g =
    cond_both (is_ending g) (by_waiting g g.waiting) (by_job g (job_due g)) (IsStaged g.members g.notes)
    (λ t. waiting_staged g g.waiting) (λ f. by_job_staged g (job_due g) (job_staged g))

-- why a group Send is refused
pub verdict_staged : (g : Group) (m : Message) → IfSome (verdict g m) (IsCodeRight g.members g.notes)
verdict_staged g m =
    let P : Option Code → Type 0 = λ o. IfSome o (IsCodeRight g.members g.notes) in
    cond_both _ (Some codes.Bad) (cond (is_busy g) (Some codes.Busy) None) P (λ t. tt)
    (λ f. cond_both (is_busy g) (Some codes.Busy) None P
    (λ busy. not-true (all_reported g) (and_parts (is_some g.asked) (not (all_reported g)) busy).1)
    (λ free. tt))

-- While a helper has a job, no group Send begins, and its member is reported on before it is given another one.
use Rattle.std.proofs.Common.{◌≡◌, ℕ, zero, suc, Bool, true, false, ◌||◌, ◌&&◌, not, List, [], ◌∷◌, Option, Some, None, refl, sym, ap, ◌∙◌, inl, inr, arith, cond}
use Rattle.std.specs.Prelude.{option_map, slice_get}
use Rattle.std.specs.List.{list_all}
use Rattle.std.specs.Option.{is_some}
use Rattle.std.proofs.lemmas.Bool.{and_parts, both_ways, cases_Bool, cases_order, cond_both}
use Rattle.std.proofs.lemmas.Option.{same_Some, none-some}
use Rattle.vk_types.specs.Types.{Answer, Message, Pid}
use Rattle.vk_base.specs.declared.answer.Answer.TheVariants as answers
use Rattle.vk_base.specs.Messages.{grants_read, grants_write}
use Rattle.vk_group.specs.declared.code.Code.{Code}
use Rattle.vk_group.specs.declared.code.Code.TheVariants as codes
use Rattle.vk_group.specs.declared.group.Group.{Group}
use Rattle.vk_group.specs.declared.member.Member.{Member}
use Rattle.vk_group.specs.declared.member.Progress.TheVariants as works
use Rattle.vk_group.specs.declared.member.Progress.{Progress}
use Rattle.vk_group.specs.declared.notes.Note.{Note}
use Rattle.vk_group.specs.declared.request.Request.{Request}
use Rattle.vk_group.specs.declared.request.Request.TheVariants as requests
use Rattle.vk_group.specs.declared.stage.OpenSend.{OpenSend}
use Rattle.vk_group.specs.declared.stage.Stage.{Stage}
use Rattle.vk_group.specs.declared.stage.Stage.TheVariants as stages
use Rattle.vk_group.specs.Accounts.{Began, Deed, Gave, Handed, Heard, Report, began, deed_at, hands, loaded, reply_if, report_of}
use Rattle.vk_group.specs.Groups.{all_reported, answered_at, begun_by, heard, is_busy, is_client, is_ending, loaded_result, loaded_send, number_of, ready_from, refused, refused_as, rest, result_from, taken}
use Rattle.vk_group.specs.Members.{given, has_reported, holds_job, is_done}
use Rattle.vk_group.specs.Messages.{message_in, request_in}
use Rattle.vk_group.proofs.Works.{others_given, others_reported, work_at, work_here, work_made_ready, work_told}

-- the helper of this member has the job of the current group Send
abbrev pub IsGroupAtWork : ℕ → Group → Type 0
IsGroupAtWork n g = (work_at g.members n ≡ Some works.Given) × (is_some g.asked ≡ true)

-- what comes of an answer then: it reports, or has the job still and no group Send began
pub data GroupGoesOn (n : ℕ) (o : Option Deed) (new : Group) : Type 0 where
  tells : (r : Report) → o ≡ Some (Heard r) → r.member ≡ n → GroupGoesOn n o new
  stays : ((asked : OpenSend) → o ≡ Some (Began asked) → ⊥) → IsGroupAtWork n new → GroupGoesOn n o new

none_began : (asked : OpenSend) → (let o : Option Deed = None in o ≡ Some (Began asked)) → ⊥
none_began asked e = none-some (Began asked) e

not_all : (ms : List Member) (n : ℕ) → work_at ms n ≡ Some works.Given → list_all has_reported ms ≡ true → ⊥
not_all [] n is all = none-some works.Given is
not_all (m ∷ ms) zero is all =
    both_ways (is_done m.work) (ap is_done (same_Some m.work works.Given is)) (and_parts (has_reported m) (list_all has_reported ms) all).0
not_all (m ∷ ms) (suc n) is all = not_all ms n is (and_parts (has_reported m) (list_all has_reported ms) all).1

busy_then : (n : ℕ) (g : Group) → IsGroupAtWork n g → is_busy g ≡ false → ⊥
busy_then n g w free = elim (cases_Bool (all_reported g)) [
  | inl all ↦ not_all g.members n w.0 all
  | inr left ↦ both_ways (is_busy g) free (λ i. w.1 i && not (left i))
]

on : (n : ℕ) (new : Group) → IsGroupAtWork n new → GroupGoesOn n None new
on n new w = GroupGoesOn.stays none_began w

-- a request
taken_on : (n : ℕ) (g : Group) (from : Pid) (request : Request) → IsGroupAtWork n g → IsGroupAtWork n (taken g from request)
taken_on n g from (requests.GroupSend dest) w =
    cond_both (is_ending g) (refused g from codes.Bad true) (record g { stage = stages.LoadSend from dest }) (IsGroupAtWork n) (λ t. w) (λ f. w)
taken_on n g from (requests.GetReply dest) w =
    cond_both (is_ending g || not (is_client g.asked from)) (refused g from codes.Bad true)
    (rest (record g { waiting = Some (record { client = from; dest = dest }) })) (IsGroupAtWork n) (λ t. w) (λ f. w)
taken_on n g from (requests.Ready dest) w = ready_on (number_of g from)
  where
    ready_on : (o : Option ℕ) → IsGroupAtWork n (ready_from g from dest o)
    ready_on None = w
    ready_on (Some number) = (work_made_ready g.members number dest n ∙ w.0, w.1)
taken_on n g from (requests.Result replied) w = result_on (number_of g from)
  where
    result_on : (o : Option ℕ) → IsGroupAtWork n (result_from g from replied o)
    result_on None = w
    result_on (Some number) =
        cond_both (holds_job (slice_get g.members number)) (record g { stage = stages.LoadResult number from replied })
        (refused_as g from (Some number)) (IsGroupAtWork n) (λ t. w) (λ f. w)
taken_on n g from requests.Bad w = w

heard_on : (n : ℕ) (g : Group) (a : Answer) → IsGroupAtWork n g → IsGroupAtWork n (heard g a)
heard_on n g (answers.ReceivedSegment from m count) w = taken_on n g from (request_in m count) w
heard_on n g answers.Ok w = w
heard_on n g (answers.Replied m) w = w
heard_on n g (answers.Received from m) w = w
heard_on n g (answers.Found pid) w = w
heard_on n g (answers.Loaded bytes) w = w
heard_on n g (answers.Refused why) w = w

-- what was loaded: no group Send begins
send_on : (n : ℕ) (g : Group) (client : Pid) (dest : ℕ) (o : Option Message) → IsGroupAtWork n g →
    GroupGoesOn n (loaded g client o) (loaded_send g client dest o)
send_on n g client dest None w = on n (loaded_send g client dest None) w
send_on n g client dest (Some m) w =
    let P : Option Code → Type 0 = λ o. GroupGoesOn n (began client m o) (begun_by g client dest m o) in
    cond_both (grants_read m || grants_write m) (Some codes.Bad) (cond (is_busy g) (Some codes.Busy) None) P
    (λ t. GroupGoesOn.stays none_began w)
    (λ f. cond_both (is_busy g) (Some codes.Busy) None P (λ busy. GroupGoesOn.stays none_began w) (λ free. absurd (busy_then n g w free)))

pub heard_not : (r : Report) (asked : OpenSend) → Heard r ≡ Began asked → ⊥
heard_not r asked e = cc

pub gave_not : (n : ℕ) (asked : OpenSend) → Gave n ≡ Began asked → ⊥
gave_not n asked e = cc

pub handed_not : (n : Note) (asked : OpenSend) → Handed n ≡ Began asked → ⊥
handed_not n asked e = cc

report_on : (n : ℕ) (g : Group) (number : ℕ) (helper : Pid) (replied : Bool) (o : Option Message) → IsGroupAtWork n g →
    GroupGoesOn n (option_map (report_of number replied) o) (loaded_result g number helper replied o)
report_on n g number helper replied None w = on n (loaded_result g number helper replied None) w
report_on n g number helper replied (Some m) w =
    let r : Report = record { member = number; reply = reply_if replied m } in
    let others : (n ≡ number → ⊥) → GroupGoesOn n (Some (Heard r)) (loaded_result g number helper replied (Some m)) =
    λ apart. GroupGoesOn.stays (λ asked e. heard_not r asked (same_Some (Heard r) (Began asked) e))
    (others_reported g.members number n replied apart ∙ w.0, w.1) in
    elim (cases_order number n) [
      | inl same ↦ GroupGoesOn.tells r refl same
      | inr apart ↦ elim apart [
        | inl below ↦ others (λ same. omega (arith, same, below))
        | inr above ↦ others (λ same. omega (arith, same, above))
      ]
    ]

hands_not : (x : Note) (a : Answer) (asked : OpenSend) → hands x a ≡ Some (Began asked) → ⊥
hands_not x answers.Ok asked e = handed_not x asked (same_Some (Handed x) (Began asked) e)
hands_not x (answers.Replied m) asked e = none_began asked e
hands_not x (answers.Received from m) asked e = none_began asked e
hands_not x (answers.ReceivedSegment from m count) asked e = none_began asked e
hands_not x (answers.Found pid) asked e = none_began asked e
hands_not x (answers.Loaded bytes) asked e = none_began asked e
hands_not x (answers.Refused why) asked e = none_began asked e

given_on : (n : ℕ) (ms : List Member) (number : ℕ) → work_at ms n ≡ Some works.Given → work_at (given number ms) n ≡ Some works.Given
given_on n ms number is = elim (cases_order number n) [
  | inl same ↦
      ap (work_at (given number ms)) (sym same)
      ∙ work_here (λ m. record m { ready = None; work = works.Given }) (λ w. works.Given) (λ m. refl) ms number
      ∙ ap (λ k. option_map (λ w. works.Given) (work_at ms k)) same ∙ ap (option_map (λ (w : Progress). works.Given)) is
  | inr apart ↦ elim apart [
    | inl below ↦ others_given ms number n (λ same. absurd (omega (arith, same, below))) ∙ is
    | inr above ↦ others_given ms number n (λ same. absurd (omega (arith, same, above))) ∙ is
  ]
]

pub goes_on : (n : ℕ) (stage : Stage) (g : Group) (a : Answer) → IsGroupAtWork n g → GroupGoesOn n (deed_at stage g a) (answered_at stage g a)
goes_on n stages.Receive g a w = on n (heard g a) (heard_on n g a w)
goes_on n (stages.LoadSend client dest) g a w = send_on n g client dest (message_in a) w
goes_on n (stages.LoadResult number helper replied) g a w = report_on n g number helper replied (message_in a) w
goes_on n (stages.Refuse to code counts) g a w = on n (answered_at (stages.Refuse to code counts) g a) w
goes_on n (stages.Thank helper) g a w = on n (answered_at (stages.Thank helper) g a) w
goes_on n (stages.StoreJob j) g a w = on n (answered_at (stages.StoreJob j) g a) w
goes_on n (stages.GiveJob j) g a w =
    GroupGoesOn.stays (λ asked e. gave_not j.member asked (same_Some (Gave j.member) (Began asked) e))
    (given_on n g.members j.member w.0, w.1)
goes_on n (stages.StoreReply x y) g a w = on n (answered_at (stages.StoreReply x y) g a) w
goes_on n (stages.HandOver x y) g a w = GroupGoesOn.stays (λ asked e. hands_not y a asked e) w
goes_on n (stages.EndWait client code) g a w = on n (answered_at (stages.EndWait client code) g a) w
goes_on n (stages.Tell number helper) g a w =
    on n (answered_at (stages.Tell number helper) g a) (work_told g.members number n ∙ w.0, w.1)
goes_on n stages.Exit g a w = on n (answered_at stages.Exit g a) w
goes_on n stages.Ended g a w = on n (answered_at stages.Ended g a) w

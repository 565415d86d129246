-- No answer changes the pairs of a group.
use Rattle.std.proofs.Common.{◌≡◌, ℕ, Bool, true, List, [], ◌∷◌, map, Option, Some, None, refl, ap, ◌∙◌}
use Rattle.std.specs.Prelude.{slice_get}
use Rattle.std.proofs.lemmas.Bool.{cond_both}
use Rattle.vk_types.specs.Types.{Answer, Message, Pid}
use Rattle.vk_base.specs.declared.answer.Answer.TheVariants as answers
use Rattle.vk_group.specs.declared.code.Code.{Code}
use Rattle.vk_group.specs.declared.code.Code.TheVariants as codes
use Rattle.vk_group.specs.declared.group.Group.{Group}
use Rattle.vk_group.specs.declared.member.Member.{Member}
use Rattle.vk_group.specs.declared.member.Progress.TheVariants as works
use Rattle.vk_event.specs.declared.pair.HelperPair.{HelperPair}
use Rattle.vk_group.specs.declared.request.Request.{Request}
use Rattle.vk_group.specs.declared.request.Request.TheVariants as requests
use Rattle.vk_group.specs.declared.stage.Stage.{Stage}
use Rattle.vk_group.specs.declared.stage.Stage.TheVariants as stages
use Rattle.vk_group.specs.Groups.{answered, answered_all, answered_at, begun_by, heard, is_ending, loaded_result, loaded_send, number_of, ready_from, refused, refused_as, rest, result_from, taken, verdict}
use Rattle.vk_group.specs.Members.{given, holds_job, new_member, pairs_of, reported, told, work_of}
use Rattle.vk_group.specs.Messages.{message_in, request_in}
use Rattle.vk_group.proofs.Works.{pairs_changed, pairs_restarted}

-- the pairs are these
abbrev pub HasPairs : List HelperPair → Group → Type 0
HasPairs ps g = pairs_of g.members ≡ ps

pub pairs_given : (ms : List Member) (n : ℕ) → pairs_of (given n ms) ≡ pairs_of ms
pairs_given ms n = pairs_changed (λ m. record m { ready = None; work = works.Given }) (λ m. refl) ms n

pub pairs_told : (ms : List Member) (n : ℕ) → pairs_of (told n ms) ≡ pairs_of ms
pairs_told ms n = pairs_changed (λ m. record m { ready = None; told = true }) (λ m. refl) ms n

pub pairs_reported : (ms : List Member) (n : ℕ) (replied : Bool) → pairs_of (reported n replied ms) ≡ pairs_of ms
pairs_reported ms n replied = pairs_changed (λ m. record m { work = work_of replied }) (λ m. refl) ms n

constant_ready : (g : Group) (from : Pid) (dest : ℕ) (o : Option ℕ) → HasPairs (pairs_of g.members) (ready_from g from dest o)
constant_ready g from dest None = refl
constant_ready g from dest (Some n) = pairs_changed (λ m. record m { ready = Some dest }) (λ m. refl) g.members n

constant_result : (g : Group) (from : Pid) (replied : Bool) (o : Option ℕ) → HasPairs (pairs_of g.members) (result_from g from replied o)
constant_result g from replied None = refl
constant_result g from replied (Some n) =
    cond_both (holds_job (slice_get g.members n)) (record g { stage = stages.LoadResult n from replied }) (refused_as g from (Some n))
    (HasPairs (pairs_of g.members)) (λ e. refl) (λ f. refl)

constant_taken : (g : Group) (from : Pid) (request : Request) → HasPairs (pairs_of g.members) (taken g from request)
constant_taken g from (requests.GroupSend dest) =
    cond_both (is_ending g) (refused g from codes.Bad true) (record g { stage = stages.LoadSend from dest }) (HasPairs (pairs_of g.members))
    (λ t. refl) (λ f. refl)
constant_taken g from (requests.GetReply dest) =
    cond_both _ (refused g from codes.Bad true) (rest (record g { waiting = Some (record { client = from; dest = dest }) }))
    (HasPairs (pairs_of g.members)) (λ t. refl) (λ f. refl)
constant_taken g from (requests.Ready dest) = constant_ready g from dest (number_of g from)
constant_taken g from (requests.Result replied) = constant_result g from replied (number_of g from)
constant_taken g from requests.Bad = refl

pub constant_heard : (g : Group) (a : Answer) → HasPairs (pairs_of g.members) (heard g a)
constant_heard g (answers.ReceivedSegment from m count) = constant_taken g from (request_in m count)
constant_heard g _ = refl

constant_begun : (g : Group) (client : Pid) (dest : ℕ) (m : Message) (o : Option Code) →
    HasPairs (pairs_of g.members) (begun_by g client dest m o)
constant_begun g client dest m None = pairs_restarted g.members
constant_begun g client dest m (Some code) = refl

pub constant_send : (g : Group) (client : Pid) (dest : ℕ) (o : Option Message) → HasPairs (pairs_of g.members) (loaded_send g client dest o)
constant_send g client dest None = refl
constant_send g client dest (Some m) = constant_begun g client dest m (verdict g m)

constant_report : (g : Group) (n : ℕ) (helper : Pid) (replied : Bool) (o : Option Message) →
    HasPairs (pairs_of g.members) (loaded_result g n helper replied o)
constant_report g n helper replied None = refl
constant_report g n helper replied (Some m) = pairs_reported g.members n replied

pub constant_at : (stage : Stage) (g : Group) (a : Answer) → HasPairs (pairs_of g.members) (answered_at stage g a)
constant_at stages.Receive g a = constant_heard g a
constant_at (stages.LoadSend client dest) g a = constant_send g client dest (message_in a)
constant_at (stages.LoadResult number helper replied) g a = constant_report g number helper replied (message_in a)
constant_at (stages.Refuse to code counts) g a = refl
constant_at (stages.Thank helper) g a = refl
constant_at (stages.StoreJob j) g a = refl
constant_at (stages.GiveJob j) g a = pairs_given g.members j.member
constant_at (stages.StoreReply w n) g a = refl
constant_at (stages.HandOver w n) g a = refl
constant_at (stages.EndWait client code) g a = refl
constant_at (stages.Tell number helper) g a = pairs_told g.members number
constant_at stages.Exit g a = refl
constant_at stages.Ended g a = refl

pub constant_all : (g : Group) (given : List Answer) → HasPairs (pairs_of g.members) (answered_all g given)
constant_all g [] = refl
constant_all g (a ∷ rest) = constant_all (answered g a) rest ∙ constant_at g.stage g a

pub pairs_new : (pairs : List HelperPair) → pairs_of (map new_member pairs) ≡ pairs
pairs_new [] = refl
pairs_new (p ∷ ps) = ap (λ qs. p ∷ qs) (pairs_new ps)

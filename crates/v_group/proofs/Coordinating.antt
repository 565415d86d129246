-- What a coordinator was told before it does what it does.
use Rattle.std.proofs.Common.{map, ◌≡◌, ◌⊎◌, ℕ, Bool, true, false, ◌||◌, not, List, [], ◌∷◌, ◌++◌, Option, Some, None, refl, sym, ap, subst, ◌∙◌, inl, inr, arith, cond, append_assoc}
use Rattle.std.specs.Prelude.{IfSome, option_map, slice_get}
use Rattle.std.specs.List.{list_all, list_any, position}
use Rattle.std.proofs.lemmas.Bool.{both_ways, cases_Bool, cond-true, cond_both, or_parts}
use Rattle.std.proofs.lemmas.Option.{same_Some, none-some}
use Rattle.vk_types.specs.Types.{Answer, Call, Message, Pid}
use Rattle.vk_base.specs.declared.answer.Answer.TheVariants as answers
use Rattle.vk_base.specs.declared.call.Call.TheVariants as calls
use Rattle.vk_base.specs.Messages.{grants_read, grants_write}
use Rattle.vk_group.specs.declared.code.Code.{Code}
use Rattle.vk_group.specs.declared.code.Code.TheVariants as codes
use Rattle.vk_group.specs.declared.group.Group.{Group}
use Rattle.vk_group.specs.declared.notes.Note.{Note}
use Rattle.vk_event.specs.declared.pair.HelperPair.{HelperPair}
use Rattle.vk_group.specs.declared.request.Request.{Request}
use Rattle.vk_group.specs.declared.request.Request.TheVariants as requests
use Rattle.vk_group.specs.declared.stage.OpenSend.{OpenSend}
use Rattle.vk_group.specs.declared.stage.HelperJob.{HelperJob}
use Rattle.vk_group.specs.declared.stage.Stage.{Stage}
use Rattle.vk_group.specs.declared.stage.Stage.TheVariants as stages
use Rattle.vk_group.specs.declared.stage.Wait.{Wait}
use Rattle.vk_group.specs.Accounts.{Account, Began, Deed, Gave, Handed, Heard, account_after, account_from, accounted, began, deed_at, deed_of, hands, loaded, nothing_for, report_of}
use Rattle.vk_group.specs.Codes.{number_of}
use Rattle.vk_group.specs.Groups.{all_reported, answered, answered_at, begun_by, by_job, by_waiting, coordinator_call, group_after, heard, helper_due, is_busy, is_client, is_ending, job_due, left_after, loaded_result, loaded_send, new_group, next_stage, notes_after, number_of as number_in, ready_from, refused, refused_as, rest, result_from, settled, stage_call, taken, told_next, verdict, wait_over}
use Rattle.vk_group.specs.Members.{given as given_to, has_replied, holds_job, made_ready, new_member, restarted, told, was_told}
use Rattle.vk_group.specs.Messages.{message_in, request_in}
use Rattle.vk_group.proofs.Answering.{one_answer_more}
use Rattle.vk_group.proofs.Staged.{if_bound}
use Rattle.v_pages.proofs.Staying.{gives_away}
use Rattle.v_group.proofs.Listed.{Ends, ends}
use Rattle.v_group.proofs.Stepping.{IsPlainTask, is_plain}
use Rattle.v_group.proofs.Working.{gave_not, handed_not, heard_not}

-- Its calls.
stage_plain : (stage : Stage) (c : Call) → stage_call stage ≡ Some c → is_plain c ≡ true
stage_plain stages.Receive c e = ap is_plain (sym (same_Some _ c e))
stage_plain (stages.LoadSend client dest) c e = ap is_plain (sym (same_Some _ c e))
stage_plain (stages.LoadResult number helper replied) c e = ap is_plain (sym (same_Some _ c e))
stage_plain (stages.Refuse to code counts) c e = ap is_plain (sym (same_Some _ c e))
stage_plain (stages.Thank helper) c e = ap is_plain (sym (same_Some _ c e))
stage_plain (stages.StoreJob j) c e = ap is_plain (sym (same_Some _ c e))
stage_plain (stages.GiveJob j) c e = ap is_plain (sym (same_Some _ c e))
stage_plain (stages.StoreReply w n) c e = ap is_plain (sym (same_Some _ c e))
stage_plain (stages.HandOver w n) c e = ap is_plain (sym (same_Some _ c e))
stage_plain (stages.EndWait client code) c e = ap is_plain (sym (same_Some _ c e))
stage_plain (stages.Tell number helper) c e = ap is_plain (sym (same_Some _ c e))
stage_plain stages.Exit c e = ap is_plain (sym (same_Some _ c e))
stage_plain stages.Ended c e = absurd (none-some c e)

pub coordinator_plain : (pairs : List HelperPair) (replies : ℕ) → IsPlainTask (coordinator_call pairs replies)
coordinator_plain pairs replies given c e = stage_plain (group_after pairs replies given).stage c e

plain_keeps : (c : Call) → is_plain c ≡ true → gives_away c ≡ false
plain_keeps (calls.Send target m) t = refl
plain_keeps (calls.ReceiveSegment start count) t = refl
plain_keeps (calls.Reply m to) t = refl
plain_keeps (calls.ReplySegment m to dest src count) t = refl
plain_keeps (calls.Load start count) t = refl
plain_keeps (calls.Store start bytes) t = refl
plain_keeps calls.Exit t = refl
plain_keeps c t = absurd (both_ways false refl t)

pub coordinator_keeps : (pairs : List HelperPair) (replies : ℕ) (given : List Answer) (c : Call) →
    coordinator_call pairs replies given ≡ Some c → gives_away c ≡ false
coordinator_keeps pairs replies given c e = plain_keeps c (coordinator_plain pairs replies given c e)

-- What it does next between two requests is no refusal, and no thanks.
abbrev pub IsOpen : Code → Type 0
IsOpen code = number_of code ≡ 0 → ⊥

abbrev Calm : Stage → Type 0
Calm (stages.Refuse to code counts) = ⊥
Calm (stages.Thank helper) = ⊥
Calm (stages.EndWait client code) = IsOpen code
Calm (stages.LoadSend client dest) = Unit {0}
Calm (stages.LoadResult number helper replied) = Unit {0}
Calm stages.Receive = Unit {0}
Calm (stages.StoreJob j) = Unit {0}
Calm (stages.GiveJob j) = Unit {0}
Calm (stages.StoreReply w n) = Unit {0}
Calm (stages.HandOver w n) = Unit {0}
Calm (stages.Tell number helper) = Unit {0}
Calm stages.Exit = Unit {0}
Calm stages.Ended = Unit {0}

settled_calm : (g : Group) (w : Wait) (o : Option Note) → Calm (settled g w o)
settled_calm g w (Some n) = tt
settled_calm g w None =
    cond_both (all_reported g) (stages.EndWait w.client (cond (list_any has_replied g.members) codes.NoMore codes.Nobody))
    (cond (is_ending g) (stages.EndWait w.client codes.Bad) stages.Receive) Calm
    (λ all. cond_both (list_any has_replied g.members) codes.NoMore codes.Nobody IsOpen (λ t e. omega (arith, e)) (λ f e. omega (arith, e)))
    (λ busy. cond_both (is_ending g) (stages.EndWait w.client codes.Bad) stages.Receive Calm (λ t e. omega (arith, e)) (λ f. tt))

helper_calm : (g : Group) → IfSome (helper_due g) Calm
helper_calm g = if_bound (position _ g.members) _ _ (λ n at. if_bound (slice_get g.members n) _ _ (λ m is. tt))

told_calm : (g : Group) (o : Option Stage) → IfSome o Calm → Calm (told_next g o)
told_calm g (Some s) is = is
told_calm g None is = cond_both (list_all was_told g.members) stages.Exit stages.Receive Calm (λ t. tt) (λ f. tt)

waiting_calm : (g : Group) (o : Option Wait) → Calm (by_waiting g o)
waiting_calm g (Some w) = settled_calm g w (slice_get g.notes 0)
waiting_calm g None =
    cond_both (is_ending g) (told_next g (helper_due g)) stages.Receive Calm (λ t. told_calm g (helper_due g) (helper_calm g)) (λ f. tt)

by_job_calm : (g : Group) (o : Option HelperJob) → Calm (by_job g o)
by_job_calm g (Some j) = tt
by_job_calm g None = waiting_calm g g.waiting

next_calm : (g : Group) → Calm (next_stage g)
next_calm g =
    cond_both (is_ending g) (by_waiting g g.waiting) (by_job g (job_due g)) Calm (λ t. waiting_calm g g.waiting)
    (λ f. by_job_calm g (job_due g))

-- What it does, by what it did before: no refusal and no end of a wait has code 0, and it thanks only behind the load of a report.
abbrev pub IsDueAfter : Stage → Stage → Type 0
IsDueAfter before (stages.Refuse to code counts) = IsOpen code
IsDueAfter before (stages.Thank helper) = (number : ℕ) × (replied : Bool) × (before ≡ stages.LoadResult number helper replied)
IsDueAfter before (stages.EndWait client code) = IsOpen code
IsDueAfter before (stages.LoadSend client dest) = Unit {0}
IsDueAfter before (stages.LoadResult number helper replied) = Unit {0}
IsDueAfter before stages.Receive = Unit {0}
IsDueAfter before (stages.StoreJob j) = Unit {0}
IsDueAfter before (stages.GiveJob j) = Unit {0}
IsDueAfter before (stages.StoreReply w n) = Unit {0}
IsDueAfter before (stages.HandOver w n) = Unit {0}
IsDueAfter before (stages.Tell number helper) = Unit {0}
IsDueAfter before stages.Exit = Unit {0}
IsDueAfter before stages.Ended = Unit {0}

calm_due : (before s : Stage) → Calm s → IsDueAfter before s
calm_due before (stages.Refuse to code counts) calm = absurd calm
calm_due before (stages.Thank helper) calm = absurd calm
calm_due before (stages.EndWait client code) calm = calm
calm_due before (stages.LoadSend client dest) calm = tt
calm_due before (stages.LoadResult number helper replied) calm = tt
calm_due before stages.Receive calm = tt
calm_due before (stages.StoreJob j) calm = tt
calm_due before (stages.GiveJob j) calm = tt
calm_due before (stages.StoreReply w n) calm = tt
calm_due before (stages.HandOver w n) calm = tt
calm_due before (stages.Tell number helper) calm = tt
calm_due before stages.Exit calm = tt
calm_due before stages.Ended calm = tt

abbrev DueIn : Stage → Group → Type 0
DueIn before g = IsDueAfter before g.stage

rest_due : (before : Stage) (g : Group) → DueIn before (rest g)
rest_due before g = calm_due before (next_stage g) (next_calm g)

ready_due : (before : Stage) (g : Group) (from : Pid) (dest : ℕ) (o : Option ℕ) → DueIn before (ready_from g from dest o)
ready_due before g from dest None = λ e. omega (arith, e)
ready_due before g from dest (Some n) = rest_due before (record g { members = made_ready n dest g.members })

result_due : (before : Stage) (g : Group) (from : Pid) (replied : Bool) (o : Option ℕ) → DueIn before (result_from g from replied o)
result_due before g from replied None = λ e. omega (arith, e)
result_due before g from replied (Some n) =
    cond_both (holds_job (slice_get g.members n)) (record g { stage = stages.LoadResult n from replied }) (refused_as g from (Some n))
    (DueIn before) (λ t. tt) (λ f e. omega (arith, e))

taken_due : (before : Stage) (g : Group) (from : Pid) (r : Request) → DueIn before (taken g from r)
taken_due before g from (requests.GroupSend dest) =
    cond_both (is_ending g) (refused g from codes.Bad true) (record g { stage = stages.LoadSend from dest }) (DueIn before)
    (λ t e. omega (arith, e)) (λ f. tt)
taken_due before g from (requests.GetReply dest) =
    cond_both (is_ending g || not (is_client g.asked from)) (refused g from codes.Bad true)
    (rest (record g { waiting = Some (record { client = from; dest = dest }) })) (DueIn before) (λ t e. omega (arith, e))
    (λ f. rest_due before (record g { waiting = Some (record { client = from; dest = dest }) }))
taken_due before g from (requests.Ready dest) = ready_due before g from dest (number_in g from)
taken_due before g from (requests.Result replied) = result_due before g from replied (number_in g from)
taken_due before g from requests.Bad = λ e. omega (arith, e)

heard_due : (before : Stage) (g : Group) (a : Answer) → DueIn before (heard g a)
heard_due before g (answers.ReceivedSegment from m count) = taken_due before g from (request_in m count)
heard_due before g answers.Ok = tt
heard_due before g (answers.Replied m) = tt
heard_due before g (answers.Received from m) = tt
heard_due before g (answers.Found pid) = tt
heard_due before g (answers.Loaded bytes) = tt
heard_due before g (answers.Refused why) = tt

verdict_open : (g : Group) (m : Message) → IfSome (verdict g m) IsOpen
verdict_open g m =
    let P : Option Code → Type 0 = λ o. IfSome o IsOpen in
    cond_both (grants_read m || grants_write m) (Some codes.Bad) (cond (is_busy g) (Some codes.Busy) None) P (λ t e. omega (arith, e))
    (λ f. cond_both (is_busy g) (Some codes.Busy) None P (λ busy e. omega (arith, e)) (λ free. tt))

begun_due : (before : Stage) (g : Group) (client : Pid) (dest : ℕ) (m : Message) (o : Option Code) → IfSome o IsOpen →
    DueIn before (begun_by g client dest m o)
begun_due before g client dest m (Some code) closed = closed
begun_due before g client dest m None closed = rest_due before (record g {
  members = restarted g.members;
  asked = Some (record { client = client; message = m });
  notes = [];
  waiting = Some (record { client = client; dest = dest });
})

send_due : (before : Stage) (g : Group) (client : Pid) (dest : ℕ) (o : Option Message) → DueIn before (loaded_send g client dest o)
send_due before g client dest None = tt
send_due before g client dest (Some m) = begun_due before g client dest m (verdict g m) (verdict_open g m)

loaded_due : (g : Group) (number : ℕ) (helper : Pid) (replied : Bool) (o : Option Message) →
    DueIn (stages.LoadResult number helper replied) (loaded_result g number helper replied o)
loaded_due g number helper replied None = tt
loaded_due g number helper replied (Some m) = (number, replied, refl)

answered_due : (stage : Stage) (g : Group) (a : Answer) → DueIn stage (answered_at stage g a)
answered_due stages.Receive g a = heard_due stages.Receive g a
answered_due (stages.LoadSend client dest) g a = send_due (stages.LoadSend client dest) g client dest (message_in a)
answered_due (stages.LoadResult number helper replied) g a = loaded_due g number helper replied (message_in a)
answered_due (stages.Refuse to code counts) g a = rest_due (stages.Refuse to code counts) (record g { left = left_after counts g.left })
answered_due (stages.Thank helper) g a = rest_due (stages.Thank helper) g
answered_due (stages.StoreJob j) g a = tt
answered_due (stages.GiveJob j) g a = rest_due (stages.GiveJob j) (record g { members = given_to j.member g.members })
answered_due (stages.StoreReply w n) g a = tt
answered_due (stages.HandOver w n) g a = rest_due (stages.HandOver w n) (wait_over (record g { notes = notes_after a g.notes }))
answered_due (stages.EndWait client code) g a = rest_due (stages.EndWait client code) (wait_over g)
answered_due (stages.Tell number helper) g a = rest_due (stages.Tell number helper) (record g { members = told number g.members })
answered_due stages.Exit g a = tt
answered_due stages.Ended g a = tt

-- how it came to what it does: at first it does what it does between two requests
pub data IsStageDue (pairs : List HelperPair) (replies : ℕ) (given : List Answer) (next : Stage) : Type 0 where
  first : given ≡ [] → ((before : Stage) → IsDueAfter before next) → IsStageDue pairs replies given next
  after : (front : List Answer) (a : Answer) → given ≡ front ++ a ∷ [] →
      IsDueAfter (group_after pairs replies front).stage next → IsStageDue pairs replies given next

due_by : (pairs : List HelperPair) (replies : ℕ) (given : List Answer) → Ends given →
    IsStageDue pairs replies given (group_after pairs replies given).stage
due_by pairs replies given (Ends.none empty) =
    IsStageDue.first empty (λ before. subst (λ l. IsDueAfter before (group_after pairs replies l).stage) (sym empty) (rest_due before at_first))
  where
    at_first : Group
    at_first = record { members = map new_member pairs; asked = None; notes = []; waiting = None; left = replies; stage = stages.Receive }
due_by pairs replies given (Ends.last front a split) =
    let g = group_after pairs replies front in
    IsStageDue.after front a split (subst (λ (x : Group). IsDueAfter g.stage x.stage)
    (sym (ap (group_after pairs replies) split ∙ one_answer_more (new_group pairs replies) front a)) (answered_due g.stage g a))

pub due : (pairs : List HelperPair) (replies : ℕ) (given : List Answer) → IsStageDue pairs replies given (group_after pairs replies given).stage
due pairs replies given = due_by pairs replies given (ends given)

-- Where the current group Send began.
pub record HasBegun (pairs : List HelperPair) (replies : ℕ) (given : List Answer) (asked : OpenSend) : Type 0 where
  pub front : List Answer
  pub answer : Answer
  pub later : List Answer
  pub split : given ≡ front ++ answer ∷ later
  pub deed : deed_of (group_after pairs replies front) answer ≡ Some (Began asked)

-- the current one is that of before, and none begins, or it begins
pub asked_or : (h : Account) (o : Option Deed) (asked : OpenSend) → (accounted h o).asked ≡ Some asked →
    ((h.asked ≡ Some asked) × ((a : OpenSend) → o ≡ Some (Began a) → ⊥)) ⊎ (o ≡ Some (Began asked))
asked_or h None asked e = inl (e, λ a is. none-some (Began a) is)
asked_or h (Some (Began a)) asked e = inr (ap (λ x. Some (Began x)) (same_Some a asked e))
asked_or h (Some (Gave number)) asked e = inl (e, λ a is. gave_not number a (same_Some (Gave number) (Began a) is))
asked_or h (Some (Heard r)) asked e = inl (e, λ a is. heard_not r a (same_Some (Heard r) (Began a) is))
asked_or h (Some (Handed n)) asked e = inl (e, λ a is. handed_not n a (same_Some (Handed n) (Began a) is))

begun_from : (pairs : List HelperPair) (replies : ℕ) (before : List Answer) (g : Group) (h : Account) (given : List Answer)
    (asked : OpenSend) → group_after pairs replies before ≡ g → (account_from g h given).asked ≡ Some asked →
    (h.asked ≡ Some asked) ⊎ HasBegun pairs replies (before ++ given) asked
begun_from pairs replies before g h [] asked is e = inl e
begun_from pairs replies before g h (a ∷ later) asked is e =
    let now : group_after pairs replies (before ++ a ∷ []) ≡ answered g a =
    one_answer_more (new_group pairs replies) before a ∙ ap (λ (x : Group). answered x a) is in
    elim (begun_from pairs replies (before ++ a ∷ []) (answered g a) (accounted h (deed_of g a)) later asked now e) [
      | inl there ↦ elim (asked_or h (deed_of g a) asked there) [
        | inl old ↦ inl old.0
        | inr new ↦ inr (record {
          front = before;
          answer = a;
          later = later;
          split = refl;
          deed = ap (λ (x : Group). deed_of x a) is ∙ new;
        })
      ]
      | inr b ↦ inr (subst (λ l. HasBegun pairs replies l asked) (append_assoc before (a ∷ []) later) b)
    ]

pub has_begun : (pairs : List HelperPair) (replies : ℕ) (given : List Answer) (asked : OpenSend) →
    (account_after pairs replies given).asked ≡ Some asked → HasBegun pairs replies given asked
has_begun pairs replies given asked e = elim (begun_from pairs replies [] (new_group pairs replies) (nothing_for None) given asked refl e) [
  | inl none ↦ absurd (none-some asked none)
  | inr b ↦ b
]

-- its message grants nothing
pub record IsPlainMessage (m : Message) : Type 0 where
  pub read : grants_read m ≡ false
  pub write : grants_write m ≡ false

verdict_plain : (g : Group) (m : Message) → verdict g m ≡ None → IsPlainMessage m
verdict_plain g m e = elim (cases_Bool (grants_read m || grants_write m)) [
  | inl t ↦ absurd (none-some codes.Bad (sym e
      ∙ cond-true (grants_read m || grants_write m) (Some codes.Bad) (cond (is_busy g) (Some codes.Busy) None) t))
  | inr f ↦ let parts = or_parts (grants_read m) (grants_write m) f in record { read = parts.0; write = parts.1 }
]

deed_asked : (a b : OpenSend) → Began a ≡ Began b → a ≡ b
deed_asked a b e = cc

began_plain : (g : Group) (client : Pid) (m : Message) (asked : OpenSend) (o : Option Code) → verdict g m ≡ o →
    began client m o ≡ Some (Began asked) → IsPlainMessage asked.message
began_plain g client m asked (Some code) is e = absurd (none-some (Began asked) e)
began_plain g client m asked None is e =
    let same = deed_asked (record { client = client; message = m }) asked (same_Some _ (Began asked) e) in
    subst (λ (x : OpenSend). IsPlainMessage x.message) same (verdict_plain g m is)

loaded_plain : (g : Group) (client : Pid) (asked : OpenSend) (o : Option Message) → loaded g client o ≡ Some (Began asked) →
    IsPlainMessage asked.message
loaded_plain g client asked None e = absurd (none-some (Began asked) e)
loaded_plain g client asked (Some m) e = began_plain g client m asked (verdict g m) refl e

abbrev is_heard : Deed → Bool
is_heard (Heard r) = true
is_heard d = false

not_heard : (number : ℕ) (replied : Bool) (o : Option Message) (asked : OpenSend) →
    option_map (report_of number replied) o ≡ Some (Began asked) → ⊥
not_heard number replied None asked e = none-some (Began asked) e
not_heard number replied (Some m) asked e =
    other (report_of number replied m) asked (same_Some (report_of number replied m) (Began asked) e) refl
  where
    other : (d : Deed) (asked : OpenSend) → d ≡ Began asked → is_heard d ≡ true → ⊥
    other (Began b) asked e t = both_ways false refl t
    other (Gave n) asked e t = cc
    other (Heard r) asked e t = cc
    other (Handed n) asked e t = cc

pub begun_plain : (stage : Stage) (g : Group) (a : Answer) (asked : OpenSend) → deed_at stage g a ≡ Some (Began asked) →
    IsPlainMessage asked.message
begun_plain (stages.LoadSend client dest) g a asked e = loaded_plain g client asked (message_in a) e
begun_plain (stages.GiveJob j) g a asked e = absurd (other j.member asked (same_Some (Gave j.member) (Began asked) e))
  where
    other : (n : ℕ) (asked : OpenSend) → Gave n ≡ Began asked → ⊥
    other n asked e = cc
begun_plain (stages.LoadResult number helper replied) g a asked e = absurd (not_heard number replied (message_in a) asked e)
begun_plain (stages.HandOver w n) g a asked e = absurd (not_handed a e)
  where
    other : (n : Note) (asked : OpenSend) → Handed n ≡ Began asked → ⊥
    other n asked e = cc

    not_handed : (a : Answer) → hands n a ≡ Some (Began asked) → ⊥
    not_handed answers.Ok e = other n asked (same_Some (Handed n) (Began asked) e)
    not_handed (answers.Replied m) e = none-some (Began asked) e
    not_handed (answers.Received from m) e = none-some (Began asked) e
    not_handed (answers.ReceivedSegment from m count) e = none-some (Began asked) e
    not_handed (answers.Found pid) e = none-some (Began asked) e
    not_handed (answers.Loaded bytes) e = none-some (Began asked) e
    not_handed (answers.Refused why) e = none-some (Began asked) e
begun_plain stages.Receive g a asked e = absurd (none-some (Began asked) e)
begun_plain (stages.Refuse to code counts) g a asked e = absurd (none-some (Began asked) e)
begun_plain (stages.Thank helper) g a asked e = absurd (none-some (Began asked) e)
begun_plain (stages.StoreJob j) g a asked e = absurd (none-some (Began asked) e)
begun_plain (stages.StoreReply w n) g a asked e = absurd (none-some (Began asked) e)
begun_plain (stages.EndWait client code) g a asked e = absurd (none-some (Began asked) e)
begun_plain (stages.Tell number helper) g a asked e = absurd (none-some (Began asked) e)
begun_plain stages.Exit g a asked e = absurd (none-some (Began asked) e)
begun_plain stages.Ended g a asked e = absurd (none-some (Began asked) e)

-- What a helper was told before it does what it does.
use Rattle.std.proofs.Common.{◌≡◌, Bool, true, false, ◌==◌, List, [], ◌∷◌, ◌++◌, length, slice_index, Option, Some, None, if◌then◌else◌, refl, sym, ap, ◌∙◌, inl, inr}
use Rattle.std.proofs.lemmas.Bool.{both_ways, cases_Bool, cond-true, cond-false, cond_both, eqb-true}
use Rattle.std.proofs.lemmas.Option.{same_Some, none-some}
use Rattle.vk_types.specs.Types.{Answer, Call, Message, Pid}
use Rattle.vk_base.specs.declared.answer.Answer.TheVariants as answers
use Rattle.vk_base.specs.declared.call.Call.TheVariants as calls
use Rattle.vk_base.specs.declared.limits.TheConstants.{MESSAGE_BYTES}
use Rattle.vk_group.specs.declared.helping.Helping.{Helping}
use Rattle.vk_group.specs.declared.helping.Helping.TheVariants as helpings
use Rattle.vk_group.specs.Helpers.{helped, helped_all, helper_call, helping_call, is_job, sending, sent}
use Rattle.vk_group.specs.Messages.{message_in, ready_message, result_message}
use Rattle.vk_group.proofs.Following.{helped_more}
use Rattle.v_group.proofs.Listed.{Ends, ends}
use Rattle.v_group.proofs.Stepping.{IsPlainTask, is_plain}

-- What it does, by what it did before and was answered.
pub record IsAfterAnswer (given : List Answer) (next : Helping) (P : Helping → Answer → Type 0) : Type 0 where
  pub front : List Answer
  pub answer : Answer
  pub split : given ≡ front ++ answer ∷ []
  pub before : P (helped_all helpings.Ready front) answer

after_by : (given : List Answer) (next : Helping) (P : Helping → Answer → Type 0) → helped_all helpings.Ready given ≡ next →
    (helpings.Ready ≡ next → ⊥) → ((stage : Helping) (a : Answer) → helped stage a ≡ next → P stage a) → Ends given → IsAfterAnswer given next P
after_by given next P is not step (Ends.none empty) = absurd (not (ap (helped_all helpings.Ready) (sym empty) ∙ is))
after_by given next P is not step (Ends.last front a split) = record {
  front = front;
  answer = a;
  split = split;
  before = step (helped_all helpings.Ready front) a
      (sym (ap (helped_all helpings.Ready) split ∙ helped_more helpings.Ready front a) ∙ is);
}

-- to report a reply, it stored one
abbrev pub IsStored : Helping → Answer → Type 0
IsStored stage a = (m : Message) × (stage ≡ helpings.Store m)

sent_not : (a : Answer) (b : Bool) → sent a ≡ helpings.Report b → b ≡ true → ⊥
sent_not (answers.Replied m) b e t = cc
sent_not answers.Ok b e t = cc
sent_not (answers.Received from m) b e t = cc
sent_not (answers.ReceivedSegment from m count) b e t = cc
sent_not (answers.Found pid) b e t = cc
sent_not (answers.Loaded bytes) b e t = cc
sent_not (answers.Refused why) b e t = cc

sending_is : (o : Option Message) (m : Message) → sending o ≡ helpings.Send m → o ≡ Some m
sending_is None m e = cc
sending_is (Some n) m e = ap (λ (x : Message). Some x) (send_same n m e)
  where
    send_same : (n m : Message) → helpings.Send n ≡ helpings.Send m → n ≡ m
    send_same n m e = cc

sending_not : (o : Option Message) (next : Helping) → ((m : Message) → helpings.Send m ≡ next → ⊥) → (helpings.Ended ≡ next → ⊥) →
    sending o ≡ next → ⊥
sending_not None next not over e = over e
sending_not (Some m) next not over e = not m e

ready_not : (a : Answer) (next : Helping) → (helpings.Load ≡ next → ⊥) → (helpings.Exit ≡ next → ⊥) →
    (if is_job a then helpings.Load else helpings.Exit) ≡ next → ⊥
ready_not a next load exit =
    cond_both (is_job a) helpings.Load helpings.Exit (λ s. s ≡ next → ⊥) (λ t. load) (λ f. exit)

stored_before : (stage : Helping) (a : Answer) → helped stage a ≡ helpings.Report true → IsStored stage a
stored_before helpings.Ready a e = absurd (ready_not a (helpings.Report true) (λ x. cc) (λ x. cc) e)
stored_before helpings.Load a e = absurd (sending_not (message_in a) (helpings.Report true) (λ m x. cc) (λ x. cc) e)
stored_before (helpings.Send m) a e = absurd (sent_not a true e refl)
stored_before (helpings.Store m) a e = (m, refl)
stored_before (helpings.Report b) a e = cc
stored_before helpings.Exit a e = cc
stored_before helpings.Ended a e = cc

pub reported_after : (given : List Answer) → helped_all helpings.Ready given ≡ helpings.Report true →
    IsAfterAnswer given (helpings.Report true) IsStored
reported_after given is = after_by given (helpings.Report true) IsStored is (λ x. cc) stored_before (ends given)

-- to report that there is none, it sent the job
abbrev pub IsSentAs : Helping → Answer → Type 0
IsSentAs stage a = (job : Message) × (stage ≡ helpings.Send job)

failed_before : (stage : Helping) (a : Answer) → helped stage a ≡ helpings.Report false → IsSentAs stage a
failed_before helpings.Ready a e = absurd (ready_not a (helpings.Report false) (λ x. cc) (λ x. cc) e)
failed_before helpings.Load a e = absurd (sending_not (message_in a) (helpings.Report false) (λ m x. cc) (λ x. cc) e)
failed_before (helpings.Send m) a e = (m, refl)
failed_before (helpings.Store m) a e = absurd (both_ways true (ap told_in e) refl)
  where
    told_in : Helping → Bool
    told_in (helpings.Report b) = b
    told_in s = true
failed_before (helpings.Report b) a e = cc
failed_before helpings.Exit a e = cc
failed_before helpings.Ended a e = cc

pub failed_after : (given : List Answer) → helped_all helpings.Ready given ≡ helpings.Report false →
    IsAfterAnswer given (helpings.Report false) IsSentAs
failed_after given is = after_by given (helpings.Report false) IsSentAs is (λ x. cc) failed_before (ends given)

-- to store a reply, it sent the job and was replied with it
abbrev pub IsRepliedTo : Message → Helping → Answer → Type 0
IsRepliedTo m stage a = (job : Message) × (stage ≡ helpings.Send job) × (a ≡ answers.Replied m)

sent_replied : (a : Answer) (m : Message) → sent a ≡ helpings.Store m → a ≡ answers.Replied m
sent_replied (answers.Replied n) m e = ap answers.Replied (store_same n m e)
  where
    store_same : (n m : Message) → helpings.Store n ≡ helpings.Store m → n ≡ m
    store_same n m e = cc
sent_replied answers.Ok m e = cc
sent_replied (answers.Received from x) m e = cc
sent_replied (answers.ReceivedSegment from x count) m e = cc
sent_replied (answers.Found pid) m e = cc
sent_replied (answers.Loaded bytes) m e = cc
sent_replied (answers.Refused why) m e = cc

replied_before : (m : Message) (stage : Helping) (a : Answer) → helped stage a ≡ helpings.Store m → IsRepliedTo m stage a
replied_before m helpings.Ready a e = absurd (ready_not a (helpings.Store m) (λ x. cc) (λ x. cc) e)
replied_before m helpings.Load a e = absurd (sending_not (message_in a) (helpings.Store m) (λ n x. cc) (λ x. cc) e)
replied_before m (helpings.Send job) a e = (job, refl, sent_replied a m e)
replied_before m (helpings.Store n) a e = cc
replied_before m (helpings.Report b) a e = cc
replied_before m helpings.Exit a e = cc
replied_before m helpings.Ended a e = cc

pub stored_after : (given : List Answer) (m : Message) → helped_all helpings.Ready given ≡ helpings.Store m →
    IsAfterAnswer given (helpings.Store m) (IsRepliedTo m)
stored_after given m is = after_by given (helpings.Store m) (IsRepliedTo m) is (λ x. cc) (replied_before m) (ends given)

-- to send the job, it loaded it
abbrev pub IsLoadedAs : Message → Helping → Answer → Type 0
IsLoadedAs job stage a = (stage ≡ helpings.Load) × (message_in a ≡ Some job)

loaded_before : (job : Message) (stage : Helping) (a : Answer) → helped stage a ≡ helpings.Send job → IsLoadedAs job stage a
loaded_before job helpings.Ready a e = absurd (ready_not a (helpings.Send job) (λ x. cc) (λ x. cc) e)
loaded_before job helpings.Load a e = (refl, sending_is (message_in a) job e)
loaded_before job (helpings.Send m) a e = absurd (sent_other a e)
  where
    sent_other : (a : Answer) → sent a ≡ helpings.Send job → ⊥
    sent_other (answers.Replied m) e = cc
    sent_other answers.Ok e = cc
    sent_other (answers.Received from m) e = cc
    sent_other (answers.ReceivedSegment from m count) e = cc
    sent_other (answers.Found pid) e = cc
    sent_other (answers.Loaded bytes) e = cc
    sent_other (answers.Refused why) e = cc
loaded_before job (helpings.Store n) a e = cc
loaded_before job (helpings.Report b) a e = cc
loaded_before job helpings.Exit a e = cc
loaded_before job helpings.Ended a e = cc

pub sending_after : (given : List Answer) (job : Message) → helped_all helpings.Ready given ≡ helpings.Send job →
    IsAfterAnswer given (helpings.Send job) (IsLoadedAs job)
sending_after given job is = after_by given (helpings.Send job) (IsLoadedAs job) is (λ x. cc) (loaded_before job) (ends given)

-- to load a job, it was told that there is one
abbrev pub IsToldJob : Helping → Answer → Type 0
IsToldJob stage a = (stage ≡ helpings.Ready) × (is_job a ≡ true)

told_before : (stage : Helping) (a : Answer) → helped stage a ≡ helpings.Load → IsToldJob stage a
told_before helpings.Ready a e = elim (cases_Bool (is_job a)) [
  | inl t ↦ (refl, t)
  | inr f ↦ absurd (exit_not (sym (cond-false (is_job a) helpings.Load helpings.Exit f) ∙ e))
]
  where
    exit_not : helpings.Exit ≡ helpings.Load → ⊥
    exit_not e = cc
told_before helpings.Load a e = absurd (sending_not (message_in a) helpings.Load (λ m x. cc) (λ x. cc) e)
told_before (helpings.Send m) a e = absurd (sent_other a e)
  where
    sent_other : (a : Answer) → sent a ≡ helpings.Load → ⊥
    sent_other (answers.Replied m) e = cc
    sent_other answers.Ok e = cc
    sent_other (answers.Received from m) e = cc
    sent_other (answers.ReceivedSegment from m count) e = cc
    sent_other (answers.Found pid) e = cc
    sent_other (answers.Loaded bytes) e = cc
    sent_other (answers.Refused why) e = cc
told_before (helpings.Store n) a e = cc
told_before (helpings.Report b) a e = cc
told_before helpings.Exit a e = cc
told_before helpings.Ended a e = cc

pub loading_after : (given : List Answer) → helped_all helpings.Ready given ≡ helpings.Load → IsAfterAnswer given helpings.Load IsToldJob
loading_after given is = after_by given helpings.Load IsToldJob is (λ x. cc) told_before (ends given)

-- what is an answer by a job
pub job_is : (a : Answer) → is_job a ≡ true → (m : Message) × (a ≡ answers.Replied m) × (slice_index m.0 1 ≡ 0)
job_is (answers.Replied m) t = (m, refl, eqb-true (slice_index m.0 1) 0 t)
job_is answers.Ok t = absurd (both_ways false refl t)
job_is (answers.Received from m) t = absurd (both_ways false refl t)
job_is (answers.ReceivedSegment from m count) t = absurd (both_ways false refl t)
job_is (answers.Found pid) t = absurd (both_ways false refl t)
job_is (answers.Loaded bytes) t = absurd (both_ways false refl t)
job_is (answers.Refused why) t = absurd (both_ways false refl t)

-- what is a message that was loaded
pub message_is : (a : Answer) (m : Message) → message_in a ≡ Some m → (a ≡ answers.Loaded m.0) × (length m.0 ≡ MESSAGE_BYTES)
message_is (answers.Loaded bytes) m e = elim (cases_Bool (length bytes == MESSAGE_BYTES)) [
  | inl t ↦
      let n : Message = record { 0 = bytes } in
      let same : n ≡ m = same_Some n m (sym (cond-true (length bytes == MESSAGE_BYTES) (Some n) None t) ∙ e) in (
        ap (λ (x : Message). answers.Loaded x.0) same,
        ap (λ (x : Message). length x.0) (sym same) ∙ eqb-true (length bytes) MESSAGE_BYTES t,
      )
  | inr f ↦
      let n : Message = record { 0 = bytes } in
      absurd (none-some m (sym (cond-false (length bytes == MESSAGE_BYTES) (Some n) None f) ∙ e))
]
message_is answers.Ok m e = absurd (none-some m e)
message_is (answers.Replied n) m e = absurd (none-some m e)
message_is (answers.Received from n) m e = absurd (none-some m e)
message_is (answers.ReceivedSegment from n count) m e = absurd (none-some m e)
message_is (answers.Found pid) m e = absurd (none-some m e)
message_is (answers.Refused why) m e = absurd (none-some m e)

-- Its calls.
stage_plain : (coordinator member : Pid) (stage : Helping) (c : Call) → helping_call coordinator member stage ≡ Some c → is_plain c ≡ true
stage_plain coordinator member helpings.Ready c e = ap is_plain (sym (same_Some _ c e))
stage_plain coordinator member helpings.Load c e = ap is_plain (sym (same_Some _ c e))
stage_plain coordinator member (helpings.Send m) c e = ap is_plain (sym (same_Some _ c e))
stage_plain coordinator member (helpings.Store m) c e = ap is_plain (sym (same_Some _ c e))
stage_plain coordinator member (helpings.Report b) c e = ap is_plain (sym (same_Some _ c e))
stage_plain coordinator member helpings.Exit c e = ap is_plain (sym (same_Some _ c e))
stage_plain coordinator member helpings.Ended c e = absurd (none-some c e)

pub helper_plain : (coordinator member : Pid) → IsPlainTask (helper_call coordinator member)
helper_plain coordinator member given c e = stage_plain coordinator member (helped_all helpings.Ready given) c e

-- a helper's Send is one of three
pub data HelperSend (coordinator member : Pid) (given : List Answer) (target : Pid) (m : Message) : Type 0 where
  asks : target ≡ coordinator → m ≡ ready_message → HelperSend coordinator member given target m
  works : target ≡ member → helped_all helpings.Ready given ≡ helpings.Send m → HelperSend coordinator member given target m
  tells : (b : Bool) → target ≡ coordinator → m ≡ result_message b → helped_all helpings.Ready given ≡ helpings.Report b →
      HelperSend coordinator member given target m

send_target : (p q : Pid) (m n : Message) → calls.Send p m ≡ calls.Send q n → p ≡ q
send_target p q m n e = cc

send_message : (p q : Pid) (m n : Message) → calls.Send p m ≡ calls.Send q n → m ≡ n
send_message p q m n e = cc

send_by : (coordinator member : Pid) (given : List Answer) (target : Pid) (m : Message) (stage : Helping) →
    helped_all helpings.Ready given ≡ stage → helping_call coordinator member stage ≡ Some (calls.Send target m) →
    HelperSend coordinator member given target m
send_by coordinator member given target m helpings.Ready is e =
    let same = same_Some _ (calls.Send target m) e in
    HelperSend.asks (sym (send_target coordinator target ready_message m same)) (sym (send_message coordinator target ready_message m same))
send_by coordinator member given target m (helpings.Send n) is e =
    let same = same_Some _ (calls.Send target m) e in
    HelperSend.works (sym (send_target member target n m same)) (is ∙ ap helpings.Send (send_message member target n m same))
send_by coordinator member given target m (helpings.Report b) is e =
    let same = same_Some _ (calls.Send target m) e in
    HelperSend.tells b (sym (send_target coordinator target (result_message b) m same))
    (sym (send_message coordinator target (result_message b) m same)) is
send_by coordinator member given target m helpings.Load is e = absurd (other_call (same_Some _ (calls.Send target m) e))
  where
    other_call : calls.Load 0 MESSAGE_BYTES ≡ calls.Send target m → ⊥
    other_call e = cc
send_by coordinator member given target m (helpings.Store n) is e = absurd (other_call (same_Some _ (calls.Send target m) e))
  where
    other_call : calls.Store 0 n.0 ≡ calls.Send target m → ⊥
    other_call e = cc
send_by coordinator member given target m helpings.Exit is e = absurd (other_call (same_Some _ (calls.Send target m) e))
  where
    other_call : calls.Exit ≡ calls.Send target m → ⊥
    other_call e = cc
send_by coordinator member given target m helpings.Ended is e = absurd (none-some (calls.Send target m) e)

pub helper_send : (coordinator member : Pid) (given : List Answer) (target : Pid) (m : Message) →
    helper_call coordinator member given ≡ Some (calls.Send target m) → HelperSend coordinator member given target m
helper_send coordinator member given target m e =
    send_by coordinator member given target m (helped_all helpings.Ready given) refl e

-- What a coordinator has called for and was answered, where it does what it does; and that every answer keeps it.
use Rattle.std.proofs.Common.{◌≡◌, ℕ, Bool, true, false, ◌||◌, not, List, [], ◌∷◌, ◌++◌, map, get_or, Option, Some, None, refl, ap, sym, subst, ◌∙◌, cond, append-nil, append_assoc}
use Rattle.std.specs.Prelude.{IfSome, option_map, slice_get}
use Rattle.std.specs.List.{list_all, list_any, position}
use Rattle.std.proofs.lemmas.Bool.{and_from, cond_both, eq-eqb, not-false, or_parts}
use Rattle.std.proofs.lemmas.List.Quantifiers.{position-Some}
use Rattle.std.proofs.lemmas.Option.{slice_get-get_or, slice_get-map}
use Rattle.vk_types.specs.Types.{Answer, Message, Pid}
use Rattle.vk_base.specs.declared.answer.Answer.TheVariants as answers
use Rattle.vk_base.specs.declared.call.Call.TheVariants as calls
use Rattle.vk_base.specs.declared.limits.TheConstants.{SEGMENT_BYTES}
use Rattle.vk_base.specs.Pids.{same_pid}
use Rattle.vk_group.specs.declared.code.Code.{Code}
use Rattle.vk_group.specs.declared.code.Code.TheVariants as codes
use Rattle.vk_group.specs.declared.group.Group.{Group}
use Rattle.vk_group.specs.declared.member.Member.{Member}
use Rattle.vk_group.specs.declared.notes.Note.{Note}
use Rattle.vk_event.specs.declared.pair.HelperPair.{HelperPair}
use Rattle.vk_group.specs.declared.request.Request.{Request}
use Rattle.vk_group.specs.declared.request.Request.TheVariants as requests
use Rattle.vk_group.specs.declared.stage.OpenSend.{OpenSend}
use Rattle.vk_group.specs.declared.stage.HelperJob.{HelperJob}
use Rattle.vk_group.specs.declared.stage.Stage.{Stage}
use Rattle.vk_group.specs.declared.stage.Stage.TheVariants as stages
use Rattle.vk_group.specs.declared.stage.Wait.{Wait}
use Rattle.vk_group.specs.Accounts.{Account, accounted, account_from, account_after, began, deed_at, deed_of, hands, loaded, nothing_for, report_of}
use Rattle.vk_group.specs.Deeds.{IsAfterCall}
use Rattle.vk_group.specs.Groups.{all_reported, answered, answered_all, answered_at, begun_by, by_job, by_waiting, coordinator_call, group_after, heard, helper_due, is_client, is_ending, job_due, left_after, loaded_result, loaded_send, new_group, notes_after, number_of, ready_from, refused, refused_as, rest, result_from, settled, stage_call, taken, told_next, verdict, wait_over}
use Rattle.vk_group.specs.Members.{given, has_replied, holds_job, is_due, is_helper, made_ready, new_member, pair_of, pairs_of, restarted, told, was_told}
use Rattle.vk_group.specs.Messages.{message_in, request_in}
use Rattle.vk_group.proofs.Constant.{pairs_given, pairs_new, pairs_reported, pairs_told}
use Rattle.vk_group.proofs.Answering.{one_answer_more}
use Rattle.vk_group.proofs.Staged.{if_bound}
use Rattle.vk_group.proofs.Works.{pairs_changed, pairs_restarted}

-- a job is for the helper of its member, with the message of the current group Send
pub record IsJobFor (pairs : List HelperPair) (asked : Option OpenSend) (j : HelperJob) : Type 0 where
  pub current : OpenSend
  pub is : asked ≡ Some current
  pub message : j.message ≡ current.message
  pub pair : HelperPair
  pub its : slice_get pairs j.member ≡ Some pair
  pub helper : j.helper ≡ pair.helper

module _ (pairs : List HelperPair) (replies : ℕ) where
  -- the last answer was a request like this from this process
  pub record IsAskedBy (given : List Answer) (from : Pid) (r : Request) : Type 0 where
    pub asks : Message
    pub count : ℕ
    pub is : request_in asks count ≡ r
    pub received : IsAfterCall pairs replies given (calls.ReceiveSegment 0 SEGMENT_BYTES) (answers.ReceivedSegment from asks count)

  -- the last call put this message into the memory
  pub record IsStored (given : List Answer) (m : Message) : Type 0 where
    pub last : Answer
    pub stored : IsAfterCall pairs replies given (calls.Store 0 m.0) last

  pub record IsReportOf (given : List Answer) (number : ℕ) (helper : Pid) (replied : Bool) : Type 0 where
    pub pair : HelperPair
    pub its : slice_get pairs number ≡ Some pair
    pub same : same_pid pair.helper helper ≡ true
    pub asked : IsAskedBy given helper (requests.Result replied)

  abbrev pub IsDueTo : List Answer → Option OpenSend → Stage → Type 0
  IsDueTo given asked (stages.LoadSend client dest) = IsAskedBy given client (requests.GroupSend dest)
  IsDueTo given asked (stages.LoadResult number helper replied) = IsReportOf given number helper replied
  IsDueTo given asked (stages.StoreJob j) = IsJobFor pairs asked j
  IsDueTo given asked (stages.GiveJob j) = IsJobFor pairs asked j × IsStored given j.message
  IsDueTo given asked (stages.StoreReply w n) = is_client asked w.client ≡ true
  IsDueTo given asked (stages.HandOver w n) = (is_client asked w.client ≡ true) × IsStored given n.message
  IsDueTo given asked stages.Receive = Unit {0}
  IsDueTo given asked (stages.Refuse to code counts) = Unit {0}
  IsDueTo given asked (stages.Thank helper) = Unit {0}
  IsDueTo given asked (stages.EndWait client code) = Unit {0}
  IsDueTo given asked (stages.Tell number helper) = Unit {0}
  IsDueTo given asked stages.Exit = Unit {0}
  IsDueTo given asked stages.Ended = Unit {0}

  -- who waits is the client of the current group Send
  abbrev pub IsWaiting : Option OpenSend → Option Wait → Type 0
  IsWaiting asked None = Unit {0}
  IsWaiting asked (Some w) = is_client asked w.client ≡ true

  pub record IsTracked (given : List Answer) (h : Account) (g : Group) : Type 0 where
    pub asked : h.asked ≡ g.asked
    pub waits : IsWaiting g.asked g.waiting
    pub same : pairs_of g.members ≡ pairs
    pub due : IsDueTo given g.asked g.stage

  -- what is done between two requests

  pair_at : (g : Group) (n : ℕ) (m : Member) → pairs_of g.members ≡ pairs → slice_get g.members n ≡ Some m → slice_get pairs n ≡ Some m.pair
  pair_at g n m same is =
      ap (λ ps. slice_get ps n) (sym same) ∙ slice_get-map pair_of g.members n ∙ ap (option_map pair_of) is

  job_is : (g : Group) → pairs_of g.members ≡ pairs → IfSome (job_due g) (IsJobFor pairs g.asked)
  job_is g same =
      if_bound g.asked _ _ (λ a asked. if_bound (position is_due g.members) _ _ (λ n at. if_bound (slice_get g.members n) _ _ (λ m is.
      if_bound m.ready _ _ (λ dest ready. record {
        current = a;
        is = asked;
        message = refl;
        pair = m.pair;
        its = pair_at g n m same is;
        helper = refl;
      }))))

  module _ (given : List Answer) where
    settled_is : (g : Group) (w : Wait) (o : Option Note) → is_client g.asked w.client ≡ true → IsDueTo given g.asked (settled g w o)
    settled_is g w (Some n) is = is
    settled_is g w None is =
        cond_both (all_reported g) (stages.EndWait w.client (cond (list_any has_replied g.members) codes.NoMore codes.Nobody))
        (cond (is_ending g) (stages.EndWait w.client codes.Bad) stages.Receive) (IsDueTo given g.asked) (λ all. tt)
        (λ busy. cond_both (is_ending g) (stages.EndWait w.client codes.Bad) stages.Receive (IsDueTo given g.asked) (λ t. tt) (λ f. tt))

    helper_is : (g : Group) → IfSome (helper_due g) (IsDueTo given g.asked)
    helper_is g = if_bound (position _ g.members) _ _ (λ n at. if_bound (slice_get g.members n) _ _ (λ m is. tt))

    told_is : (g : Group) (o : Option Stage) → IfSome o (IsDueTo given g.asked) → IsDueTo given g.asked (told_next g o)
    told_is g (Some s) is = is
    told_is g None is =
        cond_both (list_all was_told g.members) stages.Exit stages.Receive (IsDueTo given g.asked) (λ t. tt) (λ f. tt)

    waiting_is : (g : Group) (o : Option Wait) → IsWaiting g.asked o → IsDueTo given g.asked (by_waiting g o)
    waiting_is g (Some w) is = settled_is g w (slice_get g.notes 0) is
    waiting_is g None is =
        cond_both (is_ending g) (told_next g (helper_due g)) stages.Receive (IsDueTo given g.asked)
        (λ t. told_is g (helper_due g) (helper_is g)) (λ f. tt)

    by_job_is : (g : Group) (o : Option HelperJob) → IsWaiting g.asked g.waiting → IfSome o (IsJobFor pairs g.asked) →
        IsDueTo given g.asked (by_job g o)
    by_job_is g (Some j) waits is = is
    by_job_is g None waits is = waiting_is g g.waiting waits

    tracked_rest : (h : Account) (g : Group) → h.asked ≡ g.asked → IsWaiting g.asked g.waiting → pairs_of g.members ≡ pairs →
        IsTracked given h (rest g)
    tracked_rest h g asked waits same = record {
      asked = asked;
      waits = waits;
      same = same;
      due = cond_both (is_ending g) (by_waiting g g.waiting) (by_job g (job_due g)) (IsDueTo given g.asked)
          (λ t. waiting_is g g.waiting waits) (λ f. by_job_is g (job_due g) waits (job_is g same));
    }

  -- one answer more

  module _ (before : List Answer) (h : Account) where
    abbrev after : Answer → List Answer
    after a = before ++ a ∷ []

    -- nothing but what it does next
    staged_as : (a : Answer) (g : Group) (s : Stage) → h.asked ≡ g.asked → IsWaiting g.asked g.waiting → pairs_of g.members ≡ pairs →
        IsDueTo (after a) g.asked s → IsTracked (after a) h (record g { stage = s })
    staged_as a g s asked waits same due = record { asked = asked; waits = waits; same = same; due = due }

    module _ (g : Group) (asked : h.asked ≡ g.asked) (waits : IsWaiting g.asked g.waiting) (same : pairs_of g.members ≡ pairs) where
      tracked_ready : (a : Answer) (from : Pid) (dest : ℕ) (o : Option ℕ) → IsTracked (after a) h (ready_from g from dest o)
      tracked_ready a from dest None = staged_as a g (stages.Refuse from codes.Bad true) asked waits same tt
      tracked_ready a from dest (Some n) =
          tracked_rest (after a) h (record g { members = made_ready n dest g.members }) asked waits
          (pairs_changed (λ m. record m { ready = Some dest }) (λ m. refl) g.members n ∙ same)

      module _ (called : coordinator_call pairs replies before ≡ Some (calls.ReceiveSegment 0 SEGMENT_BYTES)) (from : Pid) (m : Message)
          (count : ℕ) where
        abbrev last : Answer
        last = answers.ReceivedSegment from m count

        asked_by : (r : Request) → request_in m count ≡ r → IsAskedBy (after last) from r
        asked_by r is = record { asks = m; count = count; is = is; received = record { before = before; split = refl; called = called } }

        report_is : (replied : Bool) (n : ℕ) → request_in m count ≡ requests.Result replied → number_of g from ≡ Some n →
            IsReportOf (after last) n from replied
        report_is replied n is at =
            let d : Member = new_member (record { helper = from; member = from }) in
            let found = position-Some (is_helper from) g.members n d at in
            record {
              pair = (get_or g.members n d).pair;
              its = pair_at g n (get_or g.members n d) same (slice_get-get_or g.members n d found.0);
              same = found.1;
              asked = asked_by (requests.Result replied) is;
            }

        tracked_result : (replied : Bool) (o : Option ℕ) → number_of g from ≡ o → request_in m count ≡ requests.Result replied →
            IsTracked (after last) h (result_from g from replied o)
        tracked_result replied None at is = staged_as last g (stages.Refuse from codes.Bad true) asked waits same tt
        tracked_result replied (Some n) at is =
            cond_both (holds_job (slice_get g.members n)) (record g { stage = stages.LoadResult n from replied })
            (refused_as g from (Some n))
            (IsTracked (after last) h)
            (λ t. staged_as last g (stages.LoadResult n from replied) asked waits same (report_is replied n is at))
            (λ f. staged_as last g (stages.Refuse from codes.Bad false) asked waits same tt)

        tracked_taken : (r : Request) → request_in m count ≡ r → IsTracked (after last) h (taken g from r)
        tracked_taken (requests.GroupSend dest) is =
            cond_both (is_ending g) (refused g from codes.Bad true) (record g { stage = stages.LoadSend from dest })
            (IsTracked (after last) h) (λ t. staged_as last g (stages.Refuse from codes.Bad true) asked waits same tt)
            (λ f. staged_as last g (stages.LoadSend from dest) asked waits same (asked_by (requests.GroupSend dest) is))
        tracked_taken (requests.GetReply dest) is =
            cond_both (is_ending g || not (is_client g.asked from)) (refused g from codes.Bad true)
            (rest (record g { waiting = Some (record { client = from; dest = dest }) })) (IsTracked (after last) h)
            (λ t. staged_as last g (stages.Refuse from codes.Bad true) asked waits same tt)
            (λ f. tracked_rest (after last) h (record g { waiting = Some (record { client = from; dest = dest }) }) asked
            (not-false (is_client g.asked from) (or_parts (is_ending g) (not (is_client g.asked from)) f).1) same)
        tracked_taken (requests.Ready dest) is = tracked_ready last from dest (number_of g from)
        tracked_taken (requests.Result replied) is = tracked_result replied (number_of g from) refl is
        tracked_taken requests.Bad is = staged_as last g (stages.Refuse from codes.Bad _) asked waits same tt

      tracked_heard : coordinator_call pairs replies before ≡ Some (calls.ReceiveSegment 0 SEGMENT_BYTES) → (a : Answer) →
          IsTracked (after a) h (heard g a)
      tracked_heard called (answers.ReceivedSegment from m count) = tracked_taken called from m count (request_in m count) refl
      tracked_heard called answers.Ok = staged_as answers.Ok g stages.Ended asked waits same tt
      tracked_heard called (answers.Replied m) = staged_as (answers.Replied m) g stages.Ended asked waits same tt
      tracked_heard called (answers.Received from m) = staged_as (answers.Received from m) g stages.Ended asked waits same tt
      tracked_heard called (answers.Found pid) = staged_as (answers.Found pid) g stages.Ended asked waits same tt
      tracked_heard called (answers.Loaded bytes) = staged_as (answers.Loaded bytes) g stages.Ended asked waits same tt
      tracked_heard called (answers.Refused why) = staged_as (answers.Refused why) g stages.Ended asked waits same tt

      tracked_begun : (a : Answer) (client : Pid) (dest : ℕ) (m : Message) (o : Option Code) →
          IsTracked (after a) (accounted h (began client m o)) (begun_by g client dest m o)
      tracked_begun a client dest m (Some code) = staged_as a g (stages.Refuse client code true) asked waits same tt
      tracked_begun a client dest m None =
          tracked_rest (after a) (nothing_for (Some (record { client = client; message = m }))) (record g {
            members = restarted g.members;
            asked = Some (record { client = client; message = m });
            notes = [];
            waiting = Some (record { client = client; dest = dest });
          }) refl (and_from _ _ (eq-eqb client.host client.host refl) (eq-eqb client.local client.local refl))
          (pairs_restarted g.members ∙ same)

      tracked_send : (a : Answer) (client : Pid) (dest : ℕ) (o : Option Message) →
          IsTracked (after a) (accounted h (loaded g client o)) (loaded_send g client dest o)
      tracked_send a client dest None = staged_as a g stages.Ended asked waits same tt
      tracked_send a client dest (Some m) = tracked_begun a client dest m (verdict g m)

      tracked_report : (a : Answer) (n : ℕ) (helper : Pid) (replied : Bool) (o : Option Message) →
          IsTracked (after a) (accounted h (option_map (report_of n replied) o)) (loaded_result g n helper replied o)
      tracked_report a n helper replied None = staged_as a g stages.Ended asked waits same tt
      tracked_report a n helper replied (Some m) =
          record { asked = asked; waits = waits; same = pairs_reported g.members n replied ∙ same; due = tt }

      tracked_handed : (a : Answer) (n : Note) →
          IsTracked (after a) (accounted h (hands n a)) (rest (wait_over (record g { notes = notes_after a g.notes })))
      tracked_handed answers.Ok n =
          tracked_rest (after answers.Ok) (accounted h (hands n answers.Ok))
          (wait_over (record g { notes = notes_after answers.Ok g.notes })) asked tt same
      tracked_handed (answers.Replied m) n = tracked_rest (after (answers.Replied m)) h (wait_over g) asked tt same
      tracked_handed (answers.Received from m) n = tracked_rest (after (answers.Received from m)) h (wait_over g) asked tt same
      tracked_handed (answers.ReceivedSegment from m count) n =
          tracked_rest (after (answers.ReceivedSegment from m count)) h (wait_over g) asked tt same
      tracked_handed (answers.Found pid) n = tracked_rest (after (answers.Found pid)) h (wait_over g) asked tt same
      tracked_handed (answers.Loaded bytes) n = tracked_rest (after (answers.Loaded bytes)) h (wait_over g) asked tt same
      tracked_handed (answers.Refused why) n = tracked_rest (after (answers.Refused why)) h (wait_over g) asked tt same

      stored_now : (a : Answer) (m : Message) → coordinator_call pairs replies before ≡ Some (calls.Store 0 m.0) → IsStored (after a) m
      stored_now a m called = record { last = a; stored = record { before = before; split = refl; called = called } }

      tracked_at : (stage : Stage) (a : Answer) → coordinator_call pairs replies before ≡ stage_call stage → IsDueTo before g.asked stage →
          IsTracked (after a) (accounted h (deed_at stage g a)) (answered_at stage g a)
      tracked_at stages.Receive a called due = tracked_heard called a
      tracked_at (stages.LoadSend client dest) a called due = tracked_send a client dest (message_in a)
      tracked_at (stages.LoadResult number helper replied) a called due = tracked_report a number helper replied (message_in a)
      tracked_at (stages.Refuse to code counts) a called due =
          tracked_rest (after a) h (record g { left = left_after counts g.left }) asked waits same
      tracked_at (stages.Thank helper) a called due = tracked_rest (after a) h g asked waits same
      tracked_at (stages.StoreJob j) a called due =
          staged_as a g (stages.GiveJob j) asked waits same (due, stored_now a j.message called)
      tracked_at (stages.GiveJob j) a called due =
          tracked_rest (after a) (accounted h (deed_at (stages.GiveJob j) g a)) (record g { members = given j.member g.members })
          asked waits (pairs_given g.members j.member ∙ same)
      tracked_at (stages.StoreReply w n) a called due =
          staged_as a g (stages.HandOver w n) asked waits same (due, stored_now a n.message called)
      tracked_at (stages.HandOver w n) a called due = tracked_handed a n
      tracked_at (stages.EndWait client code) a called due = tracked_rest (after a) h (wait_over g) asked tt same
      tracked_at (stages.Tell number helper) a called due =
          tracked_rest (after a) h (record g { members = told number g.members }) asked waits (pairs_told g.members number ∙ same)
      tracked_at stages.Exit a called due = staged_as a g stages.Ended asked waits same tt
      tracked_at stages.Ended a called due = staged_as a g stages.Ended asked waits same tt

  -- all of them, one after the other

  tracked_from : (before : List Answer) (g : Group) (h : Account) (given : List Answer) → group_after pairs replies before ≡ g →
      IsTracked before h g → IsTracked (before ++ given) (account_from g h given) (answered_all g given)
  tracked_from before g h [] is t = subst (λ l. IsTracked l h g) (sym (append-nil before)) t
  tracked_from before g h (a ∷ rest) is t =
      let next : IsTracked (before ++ a ∷ []) (accounted h (deed_of g a)) (answered g a) =
      tracked_at before h g t.asked t.waits t.same g.stage a (ap (λ (x : Group). stage_call x.stage) is) t.due in
      let now : group_after pairs replies (before ++ a ∷ []) ≡ answered g a =
      one_answer_more (new_group pairs replies) before a ∙ ap (λ (x : Group). answered x a) is in
      subst (λ l. IsTracked l (account_from (answered g a) (accounted h (deed_of g a)) rest) (answered_all (answered g a) rest))
      (append_assoc before (a ∷ []) rest)
      (tracked_from (before ++ a ∷ []) (answered g a) (accounted h (deed_of g a)) rest now next)

  pub tracked : (given : List Answer) → IsTracked given (account_after pairs replies given) (group_after pairs replies given)
  tracked given =
      tracked_from [] (new_group pairs replies) (nothing_for None) given refl
      (tracked_rest [] (nothing_for None) (record {
        members = map new_member pairs;
        asked = None;
        notes = [];
        waiting = None;
        left = replies;
        stage = stages.Receive;
      }) refl tt (pairs_new pairs))

-- Each deed of an account was called for and answered.
use Rattle.std.proofs.Common.{◌≡◌, ℕ, Bool, true, List, Option, Some, None, refl, ap, subst, ◌∙◌}
use Rattle.std.specs.Prelude.{IfSome, option_map}
use Rattle.vk_types.specs.Types.{Answer, Message, Pid}
use Rattle.vk_base.specs.declared.answer.Answer.TheVariants as answers
use Rattle.vk_base.specs.declared.call.Call.TheVariants as calls
use Rattle.vk_base.specs.declared.limits.TheConstants.{MESSAGE_BYTES}
use Rattle.vk_group.specs.declared.code.Code.{Code}
use Rattle.vk_group.specs.declared.code.Code.TheVariants as codes
use Rattle.vk_group.specs.declared.group.Group.{Group}
use Rattle.vk_group.specs.declared.notes.Note.{Note}
use Rattle.vk_event.specs.declared.pair.HelperPair.{HelperPair}
use Rattle.vk_group.specs.declared.request.Request.TheVariants as requests
use Rattle.vk_group.specs.declared.stage.OpenSend.{OpenSend}
use Rattle.vk_group.specs.declared.stage.HelperJob.{HelperJob}
use Rattle.vk_group.specs.declared.stage.Stage.{Stage}
use Rattle.vk_group.specs.declared.stage.Stage.TheVariants as stages
use Rattle.vk_group.specs.declared.stage.Wait.{Wait}
use Rattle.vk_group.specs.Accounts.{Deed, Gave, account_after, began, deed_at, hands, loaded, report_of}
use Rattle.vk_group.specs.Deeds.{DeedsAreDone, IsAfterCall, IsDeedDone}
use Rattle.vk_group.specs.Groups.{coordinator_call, group_after, is_client, stage_call, verdict}
use Rattle.vk_group.specs.Messages.{message_in, reply_of}
use Rattle.vk_group.proofs.Tracked.{IsAskedBy, IsDueTo, IsJobFor, IsReportOf, IsStored, tracked}

module _ (pairs : List HelperPair) (replies : ℕ) (before : List Answer) (a : Answer) where
  abbrev IsTrue : Deed → Type 0
  IsTrue d = IsDeedDone pairs replies before a d

  begun_by_verdict : (client : Pid) (dest : ℕ) (m : Message) (o : Option Code) → message_in a ≡ Some m →
      coordinator_call pairs replies before ≡ Some (calls.Load 0 MESSAGE_BYTES) →
      IsAskedBy pairs replies before client (requests.GroupSend dest) → IfSome (began client m o) IsTrue
  begun_by_verdict client dest m (Some code) is called due = tt
  begun_by_verdict client dest m None is called due = record {
    asks = due.asks;
    count = due.count;
    dest = dest;
    is = due.is;
    from_client = record { received = due.received; loads = called; loaded = is };
  }

  begun_is : (g : Group) (client : Pid) (dest : ℕ) (o : Option Message) → message_in a ≡ o →
      coordinator_call pairs replies before ≡ Some (calls.Load 0 MESSAGE_BYTES) →
      IsAskedBy pairs replies before client (requests.GroupSend dest) → IfSome (loaded g client o) IsTrue
  begun_is g client dest None is called due = tt
  begun_is g client dest (Some m) is called due = begun_by_verdict client dest m (verdict g m) is called due

  reported_is : (number : ℕ) (helper : Pid) (replied : Bool) (o : Option Message) → message_in a ≡ o →
      coordinator_call pairs replies before ≡ Some (calls.Load 0 MESSAGE_BYTES) → IsReportOf pairs replies before number helper replied →
      IfSome (option_map (report_of number replied) o) IsTrue
  reported_is number helper replied None is called due = tt
  reported_is number helper replied (Some m) is called due = record {
    pair = due.pair;
    its = due.its;
    helper = helper;
    same = due.same;
    asks = due.asked.asks;
    count = due.asked.count;
    replied = replied;
    is = due.asked.is;
    message = m;
    from_helper = record { received = due.asked.received; loads = called; loaded = is };
    reply = refl;
  }

  given_is : (asked : Option OpenSend) (j : HelperJob) → (account_after pairs replies before).asked ≡ asked →
      coordinator_call pairs replies before ≡ stage_call (stages.GiveJob j) → IsJobFor pairs asked j →
      IsStored pairs replies before j.message → IsTrue (Gave j.member)
  given_is asked j is called job stored = record {
    asked = job.current;
    current = is ∙ job.is;
    pair = job.pair;
    its = job.its;
    to_helper = record {
      last = stored.last;
      stored = subst (λ (m : Message). IsAfterCall pairs replies before (calls.Store 0 m.0) stored.last) job.message stored.stored;
      dest = j.dest;
      brings = called ∙ ap (λ p. Some (calls.ReplySegment (reply_of codes.Done 0) p j.dest 0 MESSAGE_BYTES)) job.helper;
    };
  }

  handed_is : (asked : Option OpenSend) (w : Wait) (n : Note) (b : Answer) → a ≡ b → (account_after pairs replies before).asked ≡ asked →
      coordinator_call pairs replies before ≡ stage_call (stages.HandOver w n) → is_client asked w.client ≡ true →
      IsStored pairs replies before n.message → IfSome (hands n b) IsTrue
  handed_is asked w n answers.Ok same is called client stored = record {
    client = w.client;
    same = ap (λ o. is_client o w.client) is ∙ client;
    to_client = record { last = stored.last; stored = stored.stored; dest = w.dest; brings = called };
    done = same;
  }
  handed_is asked w n _ same is called client stored = tt

  done_at : (stage : Stage) (g : Group) (asked : Option OpenSend) → (account_after pairs replies before).asked ≡ asked →
      coordinator_call pairs replies before ≡ stage_call stage → IsDueTo pairs replies before asked stage →
      IfSome (deed_at stage g a) IsTrue
  done_at stages.Receive g asked is called due = tt
  done_at (stages.LoadSend client dest) g asked is called due = begun_is g client dest (message_in a) refl called due
  done_at (stages.LoadResult number helper replied) g asked is called due = reported_is number helper replied (message_in a) refl called due
  done_at (stages.Refuse to code counts) g asked is called due = tt
  done_at (stages.Thank helper) g asked is called due = tt
  done_at (stages.StoreJob j) g asked is called due = tt
  done_at (stages.GiveJob j) g asked is called due = given_is asked j is called due.0 due.1
  done_at (stages.StoreReply w n) g asked is called due = tt
  done_at (stages.HandOver w n) g asked is called due = handed_is asked w n a refl is called due.0 due.1
  done_at (stages.EndWait client code) g asked is called due = tt
  done_at (stages.Tell number helper) g asked is called due = tt
  done_at stages.Exit g asked is called due = tt
  done_at stages.Ended g asked is called due = tt

pub deeds_done : DeedsAreDone
deeds_done pairs replies given a =
    let g = group_after pairs replies given in
    let t = tracked pairs replies given in
    done_at pairs replies given a g.stage g g.asked t.asked refl t.due

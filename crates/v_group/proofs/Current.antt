-- The current group Send of a coordinator: where it took it, and where it began.
use Rattle.std.proofs.Common.{◌≡◌, ℕ, List, Some, refl, sym, ap, subst, ◌∙◌}
use Rattle.std.specs.Prelude.{IfSome}
use Rattle.std.proofs.lemmas.Option.{none-some}
use Rattle.vk_types.specs.Types.{Answer, Exchange, Pid, ProcessSpec, Step}
use Rattle.vk_base.specs.declared.call.Call.TheVariants as calls
use Rattle.vk_base.specs.declared.limits.TheConstants.{MESSAGE_BYTES, SEGMENT_BYTES}
use Rattle.vk_base.specs.declared.step.Step.TheVariants as steps
use Rattle.vk_base.specs.Kernel.{initial_kernel, name_of}
use Rattle.vk_base.specs.Ranges.{range_of, bytes_in}
use Rattle.vk_base.specs.Steps.{Run, run}
use Rattle.v_laws.specs.Places.{process_at}
use Rattle.vk_event.specs.declared.pair.HelperPair.{HelperPair}
use Rattle.vk_group.specs.declared.stage.OpenSend.{OpenSend}
use Rattle.vk_group.specs.Accounts.{Account, Began, account_after, deed_of}
use Rattle.vk_group.specs.Deeds.{IsGroupSendBegun, IsDeedDone}
use Rattle.vk_group.specs.Groups.{coordinator_call, group_after}
use Rattle.vk_group.proofs.Done.{deeds_done}
use Rattle.v_pages.specs.Followed.{FollowsTask, answer_at, answers_before}
use Rattle.v_group.specs.Grouped.{IsCurrentAt, IsDoneAt}
use Rattle.v_group.proofs.Coordinating.{asked_or}
use Rattle.v_group.proofs.Hearing.{IsHeard, IsSentBy, name_taken, sent_by}
use Rattle.v_group.proofs.Loaded.{IsLoadedAt, loaded_at}
use Rattle.v_group.proofs.Requests.{send_count}
use Rattle.v_group.proofs.Since.{IsDoneSince, deed_done, done_since}

-- A group Send begins at a place, with what its client brought.
pub record IsBegunAt (specs : List ProcessSpec) (ss : List Step) (r : Pid) (pairs : List HelperPair) (replies i : ℕ) (asked : OpenSend) :
    Type 0 where
  pub since : IsDoneSince specs ss r pairs replies i (Began asked)
  pub begun : IsGroupSendBegun pairs replies (answers_before specs ss r since.place) since.done.answer asked
  pub loaded : IsLoadedAt specs ss r since.place asked.client begun.asks MESSAGE_BYTES asked.message

module _ (specs : List ProcessSpec) (ss : List Step) (whole : Run) (r : Pid) (pairs : List HelperPair) (replies : ℕ)
    (g : run (initial_kernel specs) ss ≡ Some whole) (follows : FollowsTask (coordinator_call pairs replies) specs ss r) where
  begun_there : (i : ℕ) (a : Answer) (asked : OpenSend) →
      deed_of (group_after pairs replies (answers_before specs ss r i)) a ≡ Some (Began asked) →
      IsGroupSendBegun pairs replies (answers_before specs ss r i) a asked
  begun_there i a asked deed = subst (λ o. IfSome o (IsDeedDone pairs replies (answers_before specs ss r i) a)) deed
      (deeds_done pairs replies (answers_before specs ss r i) a)

  pub begun_at : (i : ℕ) (asked : OpenSend) → (account_after pairs replies (answers_before specs ss r i)).asked ≡ Some asked →
      IsBegunAt specs ss r pairs replies i asked
  begun_at i asked e = record {
    since = s;
    begun = b;
    loaded = subst (λ c. IsLoadedAt specs ss r s.place asked.client b.asks c asked.message) (send_count b.asks b.count b.dest b.is)
        (loaded_at specs ss whole r pairs replies g follows s.place (Began asked) s.done asked.client b.asks b.count asked.message
        b.from_client);
  }
    where
      done : (j : ℕ) (a : Answer) → answer_at specs ss r j ≡ Some a →
          deed_of (group_after pairs replies (answers_before specs ss r j)) a ≡ Some (Began asked) →
          IsDoneAt specs ss r pairs replies j (Began asked)
      done j a is deed = deed_done specs ss r pairs replies follows j a (Began asked) (calls.Load 0 MESSAGE_BYTES) is deed
          (begun_there j a asked deed).from_client.loads refl

      s : IsDoneSince specs ss r pairs replies i (Began asked)
      s = done_since specs ss r pairs replies follows (λ (h : Account). h.asked ≡ Some asked) (Began asked) (λ h o. asked_or h o asked) done
          (none-some asked) i e

      b : IsGroupSendBegun pairs replies (answers_before specs ss r s.place) s.done.answer asked
      b = begun_there s.place s.done.answer asked s.done.deed

  -- the group Send that an account shows is the current one
  pub current_at : (i : ℕ) (asked : OpenSend) → (account_after pairs replies (answers_before specs ss r i)).asked ≡ Some asked →
      IsCurrentAt specs ss r pairs replies i asked
  current_at i asked e = record {
    ask = sent.made.place;
    to = x.target;
    asks = x.message;
    called = sent.made.is ∙ ap (λ q. Some (steps.Call q (calls.Send x.target x.message))) sent.sender;
    caller = sent.made.caller;
    at = ap (process_at specs ss sent.made.place) (sym sent.sender) ∙ sent.made.at;
    message = b.loaded.bytes ∙ sent.bytes;
    take = h.place;
    behind = sent.made.earlier;
    receives = h.step.is ∙ ap (λ (z : Step). Some z) h.is;
    takes = name_taken specs ss r b.since.place b.loaded.process asked.client b.begun.asks MESSAGE_BYTES 0 SEGMENT_BYTES h
        ∙ (λ j. Some (name_of (sent.sender j) (sent.made.number j)));
    begun = b.since.place;
    later = h.earlier;
    began = b.since.done;
    earlier = b.since.earlier;
    same = b.since.same;
  }
    where
      b : IsBegunAt specs ss r pairs replies i asked
      b = begun_at i asked e

      h : IsHeard specs ss r b.since.place b.loaded.process asked.client b.begun.asks MESSAGE_BYTES 0 SEGMENT_BYTES
      h = b.loaded.heard

      x : Exchange
      x = h.taken.take.exchange

      sent : IsSentBy specs ss r h.place asked.client (bytes_in (range_of 0 MESSAGE_BYTES) b.loaded.process.memory) h.taken.take.name x
      sent = sent_by specs ss r b.since.place b.loaded.process asked.client b.begun.asks h

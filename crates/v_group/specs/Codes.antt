-- What the codes of a coordinator say, at the places of a run where it calls.
use Rattle.std.specs.Prelude.{ℕ, ◌≡◌, ◌≢◌, ◌<◌, false, List, [], length, slice_get, Some}
use Rattle.vk_types.specs.Types.{Pid, ProcessSpec, Step}
use Rattle.vk_base.specs.declared.call.Call.TheVariants as calls
use Rattle.vk_base.specs.declared.step.Step.TheVariants as steps
use Rattle.vk_group.specs.declared.code.Code.TheVariants as codes
use Rattle.vk_event.specs.declared.pair.HelperPair.{HelperPair}
use Rattle.vk_group.specs.Accounts.{Account, account_after, replies as replies_in, reporters}
use Rattle.vk_group.specs.Groups.{coordinator_call}
use Rattle.vk_group.specs.Laws.{AllReported, IsHandedOverOnce, is_among}
use Rattle.vk_group.specs.Messages.{reply_of}
use Rattle.v_pages.specs.Followed.{FollowsTask, answers_before}

-- the account of a coordinator before this place: the current group Send, and what was done for it
abbrev pub account_at : List ProcessSpec → List Step → Pid → List HelperPair → ℕ → ℕ → Account
account_at specs ss r pairs replies i = account_after pairs replies (answers_before specs ss r i)

-- Where r tells that nobody replied, all members were reported on, and none replied; where it tells that there are no more replies, all
-- were, and every reply was handed over, of which there is one; where it tells that the group is busy, a member was not reported on. The
-- replies that it handed over name different members.
pub record AreTrueCodes (specs : List ProcessSpec) (ss : List Step) (r : Pid) (pairs : List HelperPair) (replies : ℕ) : Type 0 where
  pub nobody : (i : ℕ) (to : Pid) → slice_get ss i ≡ Some (steps.Call r (calls.Reply (reply_of codes.Nobody 0) to)) →
      AllReported (length pairs) (account_at specs ss r pairs replies i) × (replies_in (account_at specs ss r pairs replies i) ≡ [])
  pub no_more : (i : ℕ) (to : Pid) → slice_get ss i ≡ Some (steps.Call r (calls.Reply (reply_of codes.NoMore 0) to)) →
      let h = account_at specs ss r pairs replies i in
      AllReported (length pairs) h × (h.handed_over ≡ replies_in h) × (h.handed_over ≢ [])
  pub busy : (i : ℕ) (to : Pid) → slice_get ss i ≡ Some (steps.Call r (calls.Reply (reply_of codes.Busy 0) to)) →
      (number : ℕ) × (number < length pairs)
      × (is_among (reporters (account_at specs ss r pairs replies i)) number ≡ false)
  pub once : (i : ℕ) → IsHandedOverOnce (account_at specs ss r pairs replies i)

-- in each run in which r follows the task of a coordinator
abbrev pub CodesAreTrue : Type 0
CodesAreTrue = (specs : List ProcessSpec) (ss : List Step) (r : Pid) (pairs : List HelperPair) (replies : ℕ) →
    FollowsTask (coordinator_call pairs replies) specs ss r → AreTrueCodes specs ss r pairs replies

-- What a coordinator keeps to, after all answers so far, whatever they are: of each group Send, what it gives, takes and hands over, and
-- what its codes say. That it was "given" a job, "reported" and "handed over" is told by the account, which knows no flags.
use Rattle.std.specs.Prelude.{◌≡◌, ◌≢◌, ◌<◌, ℕ, Bool, true, false, eqb, ◌++◌, List, [], length, map, Some}
use Rattle.std.specs.List.{IsDistinct, list_any}
use Rattle.vk_types.specs.Types.{Answer, Pid}
use Rattle.vk_base.specs.declared.call.Call.TheVariants as calls
use Rattle.vk_group.specs.declared.code.Code.TheVariants as codes
use Rattle.vk_group.specs.declared.notes.Note.{Note}
use Rattle.vk_event.specs.declared.pair.HelperPair.{HelperPair}
use Rattle.vk_group.specs.Accounts.{Account, account_after, note_member, replies, reporters}
use Rattle.vk_group.specs.Groups.{coordinator_call}
use Rattle.vk_group.specs.Messages.{reply_of}

-- this number is among these
abbrev pub is_among : List ℕ → ℕ → Bool
is_among ns n = list_any (eqb n) ns

-- The replies that were handed over name different members. They are the first that helpers reported, in that order, each with the
-- bytes that were loaded for it.
pub record IsHandedOverOnce (h : Account) : Type 0 where
  pub different : IsDistinct eqb (map note_member h.handed_over)
  pub later : List Note
  pub reported : h.handed_over ++ later ≡ replies h

abbrev pub RepliesAreHandedOverOnce : Type 0
RepliesAreHandedOverOnce =
    (pairs : List HelperPair) (requests : ℕ) (given : List Answer) → IsHandedOverOnce (account_after pairs requests given)

-- The jobs that were given are of different members. Each member is reported on at most once, and only after its helper was given the job.
pub record IsGivenOnce (h : Account) : Type 0 where
  pub different : IsDistinct eqb h.jobs
  pub once : IsDistinct eqb (reporters h)
  pub given : (number : ℕ) → is_among (reporters h) number ≡ true → is_among h.jobs number ≡ true

abbrev pub JobsAreGivenOnce : Type 0
JobsAreGivenOnce =
    (pairs : List HelperPair) (requests : ℕ) (given : List Answer) → IsGivenOnce (account_after pairs requests given)

-- all of so many members were reported on
abbrev pub AllReported : ℕ → Account → Type 0
AllReported members h = (number : ℕ) → number < members → is_among (reporters h) number ≡ true

-- that nobody replied is told only where all members were reported on, and none replied
abbrev pub NobodyIsTrue : Type 0
NobodyIsTrue = (pairs : List HelperPair) (requests : ℕ) (given : List Answer) (to : Pid) →
    coordinator_call pairs requests given ≡ Some (calls.Reply (reply_of codes.Nobody 0) to) →
    AllReported (length pairs) (account_after pairs requests given) × (replies (account_after pairs requests given) ≡ [])

-- that there are no more replies is told only where all members were reported on, and every reply was handed over, of which there is one
abbrev pub NoMoreIsTrue : Type 0
NoMoreIsTrue = (pairs : List HelperPair) (requests : ℕ) (given : List Answer) (to : Pid) →
    coordinator_call pairs requests given ≡ Some (calls.Reply (reply_of codes.NoMore 0) to) →
    let h = account_after pairs requests given in
    AllReported (length pairs) h × (h.handed_over ≡ replies h) × (h.handed_over ≢ [])

-- that the group is busy is told only where a member was not reported on
abbrev pub BusyIsTrue : Type 0
BusyIsTrue = (pairs : List HelperPair) (requests : ℕ) (given : List Answer) (to : Pid) →
    coordinator_call pairs requests given ≡ Some (calls.Reply (reply_of codes.Busy 0) to) →
    (number : ℕ) × (number < length pairs) × (is_among (reporters (account_after pairs requests given)) number ≡ false)

-- The same, said of the history of a schedule.
use Rattle.std.specs.Prelude.{ℕ, ◌≡◌, ◌<◌, List, slice_get, Some}
use Rattle.vk_types.specs.Types.{Message, Pid}
use Rattle.vk_base.specs.Settings.{Settings}
use Rattle.vk_schedule.specs.declared.event.Event.{Event}
use Rattle.vk_group.specs.declared.notes.Note.{Note}
use Rattle.vk_event.specs.declared.pair.HelperPair.{HelperPair}
use Rattle.vk_group.specs.Accounts.{Heard, Report}
use Rattle.vk_group.specs.Groups.{coordinator_call}
use Rattle.vk_group.specs.Helpers.{helper_call}
use Rattle.v_whole.specs.HistoryLaws.{IsSchedule, steps_of}
use Rattle.v_pages.specs.Scheduled.{FollowsIn}
use Rattle.v_group.specs.Codes.{AreTrueCodes, account_at}
use Rattle.v_group.specs.Grouped.{IsDoneAt, IsMemberReply, IsSameSend}

-- By these events the process r follows the task of a coordinator of these pairs, and the helper of each that of a helper.
pub record IsGroupIn (c : Settings) (es : List Event) (r : Pid) (pairs : List HelperPair) (replies : ℕ) : Type 0 where
  pub coordinator : FollowsIn (coordinator_call pairs replies) c es r
  pub helpers : (number : ℕ) (pair : HelperPair) → slice_get pairs number ≡ Some pair
      → FollowsIn (helper_call r pair.member) c es pair.helper

-- In each history in which r and its helpers follow their tasks, each reply that r hears of is a member's, in the steps of that history.
abbrev pub RepliesAreMembersIn : Type 0
RepliesAreMembersIn = (c : Settings) (es : List Event) (r : Pid) (pairs : List HelperPair) (replies i : ℕ) (heard : Report) (m : Message) →
    IsSchedule c es → IsGroupIn c es r pairs replies → IsDoneAt c.specs (steps_of c es) r pairs replies i (Heard heard) →
    heard.reply ≡ Some m → IsMemberReply c.specs (steps_of c es) r pairs replies i (record { member = heard.member; message = m })

-- each reply that it handed over for its current group Send is one of these
abbrev pub HandedOverAreMembersIn : Type 0
HandedOverAreMembersIn = (c : Settings) (es : List Event) (r : Pid) (pairs : List HelperPair) (replies i l : ℕ) (n : Note) →
    IsSchedule c es → IsGroupIn c es r pairs replies →
    slice_get (account_at c.specs (steps_of c es) r pairs replies i).handed_over l ≡ Some n →
    (j : ℕ) × (j < i) × (m : IsMemberReply c.specs (steps_of c es) r pairs replies j n)
    × IsSameSend c.specs (steps_of c es) r pairs replies m.given.current.begun i

-- and the codes of a coordinator are true
abbrev pub CodesAreTrueIn : Type 0
CodesAreTrueIn = (c : Settings) (es : List Event) (r : Pid) (pairs : List HelperPair) (replies : ℕ) → IsSchedule c es →
    FollowsIn (coordinator_call pairs replies) c es r → AreTrueCodes c.specs (steps_of c es) r pairs replies

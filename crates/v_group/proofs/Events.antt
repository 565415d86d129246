-- The same of histories.
use Rattle.std.proofs.Common.{ℕ, List}
use Rattle.vk_types.specs.Types.{Pid}
use Rattle.vk_base.specs.Settings.{Settings}
use Rattle.vk_schedule.specs.declared.event.Event.{Event}
use Rattle.vk_event.specs.declared.pair.HelperPair.{HelperPair}
use Rattle.vk_group.specs.Groups.{coordinator_call}
use Rattle.vk_group.specs.Helpers.{helper_call}
use Rattle.v_whole.specs.HistoryLaws.{IsSchedule, steps_of}
use Rattle.v_whole.proofs.Histories.{schedules_run}
use Rattle.v_pages.proofs.Events.{follows_on}
use Rattle.v_group.specs.Grouped.{IsGroup}
use Rattle.v_group.specs.Scheduled.{CodesAreTrueIn, HandedOverAreMembersIn, IsGroupIn, RepliesAreMembersIn}
use Rattle.v_group.proofs.HandedOver.{handed_over_members}
use Rattle.v_group.proofs.Replies.{replies_members}
use Rattle.v_group.proofs.Told.{codes_true}

group_on : (c : Settings) (es : List Event) (r : Pid) (pairs : List HelperPair) (replies : ℕ) → IsSchedule c es →
    IsGroupIn c es r pairs replies → IsGroup c.specs (steps_of c es) r pairs replies
group_on c es r pairs replies schedule group = record {
  coordinator = follows_on (coordinator_call pairs replies) c es r schedule group.coordinator;
  helpers = λ number pair its. follows_on (helper_call r pair.member) c es pair.helper schedule (group.helpers number pair its);
}

pub replies_members_in : RepliesAreMembersIn
replies_members_in c es r pairs replies i heard m schedule group done replied =
    let whole = schedules_run c es schedule.distinct schedule.callers in
    replies_members c.specs (steps_of c es) _ r pairs replies i heard m whole.run (group_on c es r pairs replies schedule group) done replied

pub handed_over_in : HandedOverAreMembersIn
handed_over_in c es r pairs replies i l n schedule group is =
    let whole = schedules_run c es schedule.distinct schedule.callers in
    handed_over_members c.specs (steps_of c es) _ r pairs replies i l n whole.run (group_on c es r pairs replies schedule group) is

pub codes_true_in : CodesAreTrueIn
codes_true_in c es r pairs replies schedule follows =
    codes_true c.specs (steps_of c es) r pairs replies (follows_on (coordinator_call pairs replies) c es r schedule follows)

-- The members of a group, and what happens to one.
use Rattle.std.specs.Prelude.{ℕ, Bool, true, false, ◌&&◌, List, map, slice_get, slice_set, Option, Some, None}
use Rattle.std.specs.Option.{is_some}
use Rattle.vk_types.specs.Types.{Pid}
use Rattle.vk_base.specs.Pids.{same_pid}
use Rattle.vk_group.specs.declared.member.Member.{Member}
use Rattle.vk_group.specs.declared.member.Progress.TheVariants as works
use Rattle.vk_group.specs.declared.member.Progress.{Progress}
use Rattle.vk_event.specs.declared.pair.HelperPair.{HelperPair}

-- before anything was asked
abbrev pub new_member : HelperPair → Member
new_member p = record { pair = p; ready = None; work = works.Open; told = false }

-- the pair of a member, and those of all
abbrev pub pair_of : Member → HelperPair
pair_of m = m.pair

abbrev pub pairs_of : List Member → List HelperPair
pairs_of ms = map pair_of ms

-- how far a member is with the current group Send

abbrev pub is_open : Progress → Bool
is_open works.Open = true
is_open _ = false

abbrev pub is_given : Progress → Bool
is_given works.Given = true
is_given _ = false

abbrev pub is_replied : Progress → Bool
is_replied works.Replied = true
is_replied _ = false

abbrev pub is_done : Progress → Bool
is_done works.Replied = true
is_done works.Failed = true
is_done _ = false

abbrev pub is_helper : Pid → Member → Bool
is_helper helper m = same_pid m.pair.helper helper

abbrev pub has_job : Member → Bool
has_job m = is_given m.work

abbrev pub holds_job : Option Member → Bool
holds_job None = false
holds_job (Some m) = has_job m

abbrev pub has_replied : Member → Bool
has_replied m = is_replied m.work

abbrev pub has_reported : Member → Bool
has_reported m = is_done m.work

-- its helper waits for a job, which it has not got where the member is due
abbrev pub is_ready : Member → Bool
is_ready m = is_some m.ready

abbrev pub is_due : Member → Bool
is_due m = is_some m.ready && is_open m.work

abbrev pub was_told : Member → Bool
was_told m = m.told

-- the members with one of them changed, where it is there

abbrev pub changed : List Member → ℕ → (Member → Member) → Option Member → List Member
changed ms number f None = ms
changed ms number f (Some m) = slice_set ms number (f m)

abbrev pub change : ℕ → (Member → Member) → List Member → List Member
change number f ms = changed ms number f (slice_get ms number)

-- its helper waits for a job, with this place for the message
abbrev pub made_ready : ℕ → ℕ → List Member → List Member
made_ready number dest ms = change number (λ m. record m { ready = Some dest }) ms

-- its helper got the job
abbrev pub given : ℕ → List Member → List Member
given number ms = change number (λ m. record m { ready = None; work = works.Given }) ms

-- its helper reported
abbrev pub work_of : Bool → Progress
work_of true = works.Replied
work_of false = works.Failed

abbrev pub reported : ℕ → Bool → List Member → List Member
reported number replied ms = change number (λ m. record m { work = work_of replied }) ms

-- its helper was told that there are no jobs any more
abbrev pub told : ℕ → List Member → List Member
told number ms = change number (λ m. record m { ready = None; told = true }) ms

-- a new group Send begins
abbrev pub reopened : Member → Member
reopened m = record m { work = works.Open }

abbrev pub restarted : List Member → List Member
restarted ms = map reopened ms

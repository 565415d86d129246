-- What a coordinator did for its current group Send, told by its answers one after the other.
use Rattle.std.specs.Prelude.{ℕ, Bool, true, false, ◌++◌, List, [], ◌∷◌, map, Option, Some, None, option_map}
use Rattle.std.specs.List.{filter_map}
use Rattle.vk_types.specs.Types.{Answer, Message, Pid}
use Rattle.vk_base.specs.declared.answer.Answer.TheVariants as answers
use Rattle.vk_group.specs.declared.code.Code.{Code}
use Rattle.vk_group.specs.declared.group.Group.{Group}
use Rattle.vk_group.specs.declared.notes.Note.{Note}
use Rattle.vk_event.specs.declared.pair.HelperPair.{HelperPair}
use Rattle.vk_group.specs.declared.stage.OpenSend.{OpenSend}
use Rattle.vk_group.specs.declared.stage.Stage.{Stage}
use Rattle.vk_group.specs.declared.stage.Stage.TheVariants as stages
use Rattle.vk_group.specs.Groups.{answered, new_group, verdict}
use Rattle.vk_group.specs.Messages.{message_in}

-- what the helper of a member reported: its reply, or that there is none
pub record Report : Type 0 where
  pub member : ℕ
  pub reply : Option Message

-- What an answer brought about: a group Send became the current one, the helper of a member was given the job, the helper of a member
-- reported, or the reply of a member was handed over to the client.
pub data Deed : Type 0 where
  Began : OpenSend → Deed
  Gave : ℕ → Deed
  Heard : Report → Deed
  Handed : Note → Deed

-- a group Send that is not refused
abbrev pub began : Pid → Message → Option Code → Option Deed
began client m None = Some (Began (record { client = client; message = m }))
began client m (Some code) = None

abbrev pub loaded : Group → Pid → Option Message → Option Deed
loaded g client None = None
loaded g client (Some m) = began client m (verdict g m)

-- the reply that was loaded, where it is one
abbrev pub reply_if : Bool → Message → Option Message
reply_if true m = Some m
reply_if false m = None

abbrev pub report_of : ℕ → Bool → Message → Deed
report_of number replied m = Heard (record { member = number; reply = reply_if replied m })

abbrev pub hands : Note → Answer → Option Deed
hands n answers.Ok = Some (Handed n)
hands n _ = None

abbrev pub deed_at : Stage → Group → Answer → Option Deed
deed_at (stages.LoadSend client dest) g a = loaded g client (message_in a)
deed_at (stages.GiveJob j) g a = Some (Gave j.member)
deed_at (stages.LoadResult number helper replied) g a = option_map (report_of number replied) (message_in a)
deed_at (stages.HandOver w n) g a = hands n a
deed_at _ g a = None

abbrev pub deed_of : Group → Answer → Option Deed
deed_of g a = deed_at g.stage g a

-- The current group Send, and what was done for it: which members' helpers were given the job, what helpers reported, and which replies
-- were handed over, each in order.
pub record Account : Type 0 where
  pub asked : Option OpenSend
  pub jobs : List ℕ
  pub reports : List Report
  pub handed_over : List Note

-- nothing yet
abbrev pub nothing_for : Option OpenSend → Account
nothing_for asked = record { asked = asked; jobs = []; reports = []; handed_over = [] }

abbrev pub after_deed : Account → Deed → Account
after_deed h (Began a) = nothing_for (Some a)
after_deed h (Gave number) = record h { jobs = h.jobs ++ number ∷ [] }
after_deed h (Heard r) = record h { reports = h.reports ++ r ∷ [] }
after_deed h (Handed n) = record h { handed_over = h.handed_over ++ n ∷ [] }

abbrev pub accounted : Account → Option Deed → Account
accounted h None = h
accounted h (Some d) = after_deed h d

-- after all these answers of a coordinator that stood so, one after the other
abbrev pub account_from : Group → Account → List Answer → Account
account_from g h [] = h
account_from g h (a ∷ rest) = account_from (answered g a) (accounted h (deed_of g a)) rest

abbrev pub account_after : List HelperPair → ℕ → List Answer → Account
account_after pairs requests given = account_from (new_group pairs requests) (nothing_for None) given

-- the members whose helper reported, and the replies among the reports

abbrev pub report_member : Report → ℕ
report_member r = r.member

abbrev pub reporters : Account → List ℕ
reporters h = map report_member h.reports

abbrev pub note_member : Note → ℕ
note_member n = n.member

abbrev pub note_in : Report → Option Note
note_in r = option_map (λ m. record { member = r.member; message = m }) r.reply

abbrev pub replies : Account → List Note
replies h = filter_map note_in h.reports

-- What an account tells is what was called for and answered: of each deed, the calls and the answers that make it.
use Rattle.std.specs.Prelude.{◌≡◌, ℕ, Bool, true, List, [], ◌∷◌, ◌++◌, slice_get, Some, IfSome}
use Rattle.vk_types.specs.Types.{Answer, Call, Message, Pid}
use Rattle.vk_base.specs.declared.answer.Answer.TheVariants as answers
use Rattle.vk_base.specs.declared.call.Call.TheVariants as calls
use Rattle.vk_base.specs.declared.limits.TheConstants.{MESSAGE_BYTES, SEGMENT_BYTES}
use Rattle.vk_base.specs.Pids.{same_pid}
use Rattle.vk_group.specs.declared.code.Code.TheVariants as codes
use Rattle.vk_group.specs.declared.notes.Note.{Note}
use Rattle.vk_event.specs.declared.pair.HelperPair.{HelperPair}
use Rattle.vk_group.specs.declared.request.Request.TheVariants as requests
use Rattle.vk_group.specs.declared.stage.OpenSend.{OpenSend}
use Rattle.vk_group.specs.Accounts.{Deed, Began, Gave, Handed, Heard, Report, account_after, deed_of, reply_if}
use Rattle.vk_group.specs.Groups.{coordinator_call, group_after, is_client}
use Rattle.vk_group.specs.Messages.{message_in, reply_of, request_in}

-- The last of these answers is that to this call.
pub record IsAfterCall (pairs : List HelperPair) (replies : ℕ) (given : List Answer) (c : Call) (last : Answer) : Type 0 where
  pub before : List Answer
  pub split : given ≡ before ++ last ∷ []
  pub called : coordinator_call pairs replies before ≡ Some c

-- The last call put this message at the beginning of the memory, and the next brings it to this process.
pub record IsReplyBrought (pairs : List HelperPair) (replies : ℕ) (given : List Answer) (to : Pid) (member : ℕ) (m : Message) : Type 0 where
  pub last : Answer
  pub stored : IsAfterCall pairs replies given (calls.Store 0 m.0) last
  pub dest : ℕ
  pub brings : coordinator_call pairs replies given ≡ Some (calls.ReplySegment (reply_of codes.Done member) to dest 0 MESSAGE_BYTES)

-- The last call received this message from this process, with so many bytes; the next loads them, and they are this message.
pub record IsLoaded (pairs : List HelperPair) (replies : ℕ) (given : List Answer) (a : Answer) (from : Pid) (asks : Message) (count : ℕ)
    (m : Message) : Type 0 where
  pub received : IsAfterCall pairs replies given (calls.ReceiveSegment 0 SEGMENT_BYTES) (answers.ReceivedSegment from asks count)
  pub loads : coordinator_call pairs replies given ≡ Some (calls.Load 0 MESSAGE_BYTES)
  pub loaded : message_in a ≡ Some m

-- A group Send begins: its client asked for it, and its message was loaded.
pub record IsGroupSendBegun (pairs : List HelperPair) (replies : ℕ) (given : List Answer) (a : Answer) (asked : OpenSend) : Type 0 where
  pub asks : Message
  pub count : ℕ
  pub dest : ℕ
  pub is : request_in asks count ≡ requests.GroupSend dest
  pub from_client : IsLoaded pairs replies given a asked.client asks count asked.message

-- A job is given: the message of the current group Send goes to the helper of the member of this number.
pub record IsGiven (pairs : List HelperPair) (replies : ℕ) (given : List Answer) (number : ℕ) : Type 0 where
  pub asked : OpenSend
  pub current : (account_after pairs replies given).asked ≡ Some asked
  pub pair : HelperPair
  pub its : slice_get pairs number ≡ Some pair
  pub to_helper : IsReplyBrought pairs replies given pair.helper 0 asked.message

-- A report is made: by the helper of its member, with the bytes that were loaded where it says that the member replied.
pub record IsReported (pairs : List HelperPair) (replies : ℕ) (given : List Answer) (a : Answer) (r : Report) : Type 0 where
  pub pair : HelperPair
  pub its : slice_get pairs r.member ≡ Some pair
  pub helper : Pid
  pub same : same_pid pair.helper helper ≡ true
  pub asks : Message
  pub count : ℕ
  pub replied : Bool
  pub is : request_in asks count ≡ requests.Result replied
  pub message : Message
  pub from_helper : IsLoaded pairs replies given a helper asks count message
  pub reply : r.reply ≡ reply_if replied message

-- A reply is handed over: it goes to the client of the current group Send, and that is answered so.
pub record IsHanded (pairs : List HelperPair) (replies : ℕ) (given : List Answer) (a : Answer) (n : Note) : Type 0 where
  pub client : Pid
  pub same : is_client (account_after pairs replies given).asked client ≡ true
  pub to_client : IsReplyBrought pairs replies given client n.member n.message
  pub done : a ≡ answers.Ok

abbrev pub IsDeedDone : List HelperPair → ℕ → List Answer → Answer → Deed → Type 0
IsDeedDone pairs replies given a (Began asked) = IsGroupSendBegun pairs replies given a asked
IsDeedDone pairs replies given a (Gave number) = IsGiven pairs replies given number
IsDeedDone pairs replies given a (Heard r) = IsReported pairs replies given a r
IsDeedDone pairs replies given a (Handed n) = IsHanded pairs replies given a n

-- behind these answers one more does what it is said to do
abbrev pub DeedsAreDone : Type 0
DeedsAreDone = (pairs : List HelperPair) (replies : ℕ) (given : List Answer) (a : Answer) →
    IfSome (deed_of (group_after pairs replies given) a) (IsDeedDone pairs replies given a)

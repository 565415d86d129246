-- The definitions, tried: a coordinator and a helper, answer by answer.
use Rattle.std.proofs.Common.{◌≡◌, ℕ, zero, suc, ◌<◌, true, false, List, [], ◌∷◌, ◌++◌, Option, Some, None, replicate, refl, lit<, arith}
use Rattle.vk_types.specs.Types.{Answer, Call, Message, Pid}
use Rattle.vk_base.specs.declared.answer.Answer.TheVariants as answers
use Rattle.vk_base.specs.declared.answer.Refusal.TheVariants as refusals
use Rattle.vk_base.specs.declared.call.Call.TheVariants as calls
use Rattle.vk_group.specs.declared.code.Code.TheVariants as codes
use Rattle.vk_group.specs.declared.group.Group.{Group}
use Rattle.vk_group.specs.declared.helping.Helping.{Helping}
use Rattle.vk_group.specs.declared.helping.Helping.TheVariants as helpings
use Rattle.vk_event.specs.declared.pair.HelperPair.{HelperPair}
use Rattle.vk_group.specs.Accounts.{account_after}
use Rattle.vk_group.specs.Groups.{answered, new_group, stage_call}
use Rattle.vk_group.specs.Helpers.{helped, helping_call}
use Rattle.vk_group.specs.Messages.{ready_message, reply_of, result_message}
use Rattle.vk_event.specs.Pairs.{are_pairs}

unfoldable first_helper : Pid
first_helper = record { host = 1; local = 2; some_host = lit< tt; one_host = lit< tt; some_local = lit< tt }

unfoldable second_helper : Pid
second_helper = record { host = 1; local = 3; some_host = lit< tt; one_host = lit< tt; some_local = lit< tt }

unfoldable client : Pid
client = record { host = 1; local = 4; some_host = lit< tt; one_host = lit< tt; some_local = lit< tt }

unfoldable first_member : Pid
first_member = record { host = 2; local = 1; some_host = lit< tt; one_host = lit< tt; some_local = lit< tt }

unfoldable second_member : Pid
second_member = record { host = 3; local = 1; some_host = lit< tt; one_host = lit< tt; some_local = lit< tt }

unfoldable pairs : List HelperPair
pairs = record { helper = first_helper; member = first_member } ∷ record { helper = second_helper; member = second_member } ∷ []

-- a message of this first byte, and its bytes
unfoldable bytes : ℕ → List ℕ
bytes b = b ∷ replicate 31 0

unfoldable plain : ℕ → Message
plain b = record { 0 = bytes b }

-- a request of a client, with a segment of 32 bytes at 0
unfoldable asking : ℕ → ℕ → Message
asking grants kind = record { 0 = grants ∷ kind ∷ replicate 29 0 ++ 32 ∷ [] }

-- what is received
unfoldable ready : Pid → Answer
ready helper = answers.ReceivedSegment helper ready_message 0

unfoldable group_send : Answer
group_send = answers.ReceivedSegment client (asking 3 10) 32

unfoldable get_reply : Answer
get_reply = answers.ReceivedSegment client (asking 2 11) 0

-- what is called
unfoldable receives : Option Call
receives = Some (calls.ReceiveSegment 0 512)

unfoldable loads : Option Call
loads = Some (calls.Load 0 32)

unfoldable stores : ℕ → Option Call
stores b = Some (calls.Store 0 (bytes b))

unfoldable brings : Pid → ℕ → Option Call
brings to member = Some (calls.ReplySegment (record { 0 = replicate 7 0 ++ member ∷ replicate 24 0 }) to 0 0 32)

unfoldable says : ℕ → Pid → Option Call
says code to = Some (calls.Reply (record { 0 = 0 ∷ code ∷ replicate 30 0 }) to)

-- the calls before, between and after these answers
calls_from : Group → List Answer → List (Option Call)
calls_from g [] = stage_call g.stage ∷ []
calls_from g (a ∷ rest) = stage_call g.stage ∷ calls_from (answered g a) rest

-- both helpers are ready, the client sends a message, and both get it; then the replies come
unfoldable given_jobs : List Answer
given_jobs =
    ready first_helper
    ∷ ready second_helper
    ∷ group_send
    ∷ answers.Loaded (bytes 12)
    ∷ answers.Ok
    ∷ answers.Ok
    ∷ answers.Ok
    ∷ answers.Ok
    ∷ []

unfoldable reports : Pid → List ℕ → List Answer
reports helper reply = answers.ReceivedSegment helper (result_message true) 32 ∷ answers.Loaded reply ∷ answers.Ok ∷ []

unfoldable fails : Pid → List Answer
fails helper = answers.ReceivedSegment helper (result_message false) 32 ∷ answers.Loaded (bytes 0) ∷ answers.Ok ∷ []

-- Two members reply; the client gets the first reply and fetches the other, and is told that there are no more. Then both helpers are told
-- that there are no jobs any more, and the coordinator ends.
two_replies : calls_from (new_group pairs 3) (
    given_jobs
    ++ reports first_helper (bytes 11)
    ++ answers.Ok ∷ answers.Ok ∷ get_reply ∷ []
    ++ reports second_helper (bytes 13)
    ++ answers.Ok ∷ answers.Ok ∷ get_reply ∷ answers.Ok ∷ ready first_helper ∷ answers.Ok ∷ []
    ++ ready second_helper ∷ answers.Ok ∷ answers.Ok ∷ []
    ) ≡ receives
    ∷ receives
    ∷ receives
    ∷ loads
    ∷ stores 12
    ∷ brings first_helper 0
    ∷ stores 12
    ∷ brings second_helper 0
    ∷ receives
    ∷ loads
    ∷ says 0 first_helper
    ∷ stores 11
    ∷ brings client 0
    ∷ receives
    ∷ receives
    ∷ loads
    ∷ says 0 second_helper
    ∷ stores 13
    ∷ brings client 1
    ∷ receives
    ∷ says 9 client
    ∷ receives
    ∷ says 1 first_helper
    ∷ receives
    ∷ says 1 second_helper
    ∷ Some calls.Exit
    ∷ None
    ∷ []
unfolding calls_from given_jobs reports fails ready group_send get_reply receives loads stores brings says pairs first_helper second_helper
    client first_member second_member bytes plain asking
two_replies = refl

-- What the account tells behind the first reply of two, which was handed over.
told : account_after pairs 3 (given_jobs ++ reports first_helper (bytes 11) ++ answers.Ok ∷ answers.Ok ∷ []) ≡ record {
  asked = Some (record { client = client; message = plain 12 });
  jobs = 0 ∷ 1 ∷ [];
  reports = record { member = 0; reply = Some (plain 11) } ∷ [];
  handed_over = record { member = 0; message = plain 11 } ∷ [];
}
unfolding given_jobs reports ready group_send pairs first_helper second_helper client first_member second_member bytes plain asking
told = refl

-- No member replies: once both were reported on the client is told so.
nobody_replies : calls_from (new_group pairs 1) (given_jobs ++ fails second_helper ++ fails first_helper ++ answers.Ok ∷ []) ≡
    receives
    ∷ receives
    ∷ receives
    ∷ loads
    ∷ stores 12
    ∷ brings first_helper 0
    ∷ stores 12
    ∷ brings second_helper 0
    ∷ receives
    ∷ loads
    ∷ says 0 second_helper
    ∷ receives
    ∷ loads
    ∷ says 0 first_helper
    ∷ says 8 client
    ∷ receives
    ∷ []
unfolding calls_from given_jobs reports fails ready group_send get_reply receives loads stores brings says pairs first_helper second_helper
    client first_member second_member bytes plain asking
nobody_replies = refl

-- A message that grants access is refused once it is loaded; it is the only reply, so that a further group Send is refused without a load.
granting : calls_from (new_group pairs 1) (group_send ∷ answers.Loaded (bytes 1) ∷ answers.Ok ∷ group_send ∷ answers.Ok ∷ []) ≡
    receives ∷ loads ∷ says 2 client ∷ receives ∷ says 2 client ∷ receives ∷ []
unfolding calls_from given_jobs reports fails ready group_send get_reply receives loads stores brings says pairs first_helper second_helper
    client first_member second_member bytes plain asking
granting = refl

-- A second group Send finds the group busy. A Send without bytes makes no report. A reply that is not handed over is kept for the next
-- request, and a helper without a job makes no report.
kept : calls_from (new_group pairs 9) (
    given_jobs
    ++ group_send ∷ answers.Loaded (bytes 12) ∷ answers.Ok ∷ []
    ++ answers.ReceivedSegment first_helper (result_message true) 0 ∷ answers.Ok ∷ []
    ++ reports first_helper (bytes 11)
    ++ answers.Ok ∷ answers.Refused refusals.NotAwaiting ∷ get_reply ∷ answers.Ok ∷ answers.Ok ∷ []
    ++ answers.ReceivedSegment first_helper (result_message true) 32 ∷ answers.Ok ∷ []
    ) ≡ receives
    ∷ receives
    ∷ receives
    ∷ loads
    ∷ stores 12
    ∷ brings first_helper 0
    ∷ stores 12
    ∷ brings second_helper 0
    ∷ receives
    ∷ loads
    ∷ says 5 client
    ∷ receives
    ∷ says 2 first_helper
    ∷ receives
    ∷ loads
    ∷ says 0 first_helper
    ∷ stores 11
    ∷ brings client 0
    ∷ receives
    ∷ stores 11
    ∷ brings client 0
    ∷ receives
    ∷ says 2 first_helper
    ∷ receives
    ∷ []
unfolding calls_from given_jobs reports fails ready group_send get_reply receives loads stores brings says pairs first_helper second_helper
    client first_member second_member bytes plain asking
kept = refl

-- which pairs make a group
made : are_pairs pairs ≡ true
unfolding pairs first_helper second_helper first_member second_member
made = refl

none : are_pairs [] ≡ false
none = refl

same_helper : are_pairs (pairs ++ record { helper = first_helper; member = client } ∷ []) ≡ false
unfolding pairs first_helper second_helper first_member second_member client
same_helper = refl

same_member : are_pairs (pairs ++ record { helper = client; member = second_member } ∷ []) ≡ false
unfolding pairs first_helper second_helper first_member second_member client
same_member = refl

-- so many pairs, in which each process stands once
numbered : ℕ → List HelperPair
numbered zero = []
numbered (suc n) =
    let some : 0 < suc n = omega arith in
    let helper : Pid = record { host = 1; local = suc n; some_host = lit< tt; one_host = lit< tt; some_local = some } in
    let member : Pid = record { host = 2; local = suc n; some_host = lit< tt; one_host = lit< tt; some_local = some } in
    record { helper = helper; member = member } ∷ numbered n

sixteen : are_pairs (numbered 16) ≡ true
unfolding numbered
sixteen = refl

seventeen : are_pairs (numbered 17) ≡ false
unfolding numbered
seventeen = refl

-- A helper: its calls before, between and after these answers.
helper_calls : Helping → List Answer → List (Option Call)
helper_calls stage [] = helping_call client first_member stage ∷ []
helper_calls stage (a ∷ rest) = helping_call client first_member stage ∷ helper_calls (helped stage a) rest

-- it sends its job and reports the reply; it sends a second and reports that there is none; then it is told that there are no jobs
two_jobs : helper_calls helpings.Ready (
    answers.Replied (reply_of codes.Done 0)
    ∷ answers.Loaded (bytes 12)
    ∷ answers.Replied (plain 11)
    ∷ answers.Ok
    ∷ answers.Replied (reply_of codes.Done 0)
    ∷ answers.Replied (reply_of codes.Done 0)
    ∷ answers.Loaded (bytes 13)
    ∷ answers.Refused refusals.NoProcess
    ∷ answers.Replied (reply_of codes.Done 0)
    ∷ answers.Replied (reply_of codes.End 0)
    ∷ answers.Ok
    ∷ []
    ) ≡ Some (calls.Send client (asking 2 12))
    ∷ loads
    ∷ Some (calls.Send first_member (plain 12))
    ∷ stores 11
    ∷ Some (calls.Send client (asking 1 13))
    ∷ Some (calls.Send client (asking 2 12))
    ∷ loads
    ∷ Some (calls.Send first_member (plain 13))
    ∷ Some (calls.Send client (result_message false))
    ∷ Some (calls.Send client (asking 2 12))
    ∷ Some calls.Exit
    ∷ None
    ∷ []
unfolding helper_calls loads stores bytes plain asking client first_member
two_jobs = refl

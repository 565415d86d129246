-- The definitions, tried: what a server calls, answer by answer.
use Rattle.std.proofs.Common.{◌≡◌, ℕ, List, [], ◌∷◌, ◌++◌, Option, Some, replicate, refl, lit<}
use Rattle.std.specs.Int.{w32, to_be_bytes}
use Rattle.vk_types.specs.Types.{Answer, Call, Message, Pid}
use Rattle.vk_base.specs.declared.answer.Answer.TheVariants as answers
use Rattle.vk_base.specs.declared.answer.Refusal.TheVariants as refusals
use Rattle.vk_base.specs.declared.call.Call.TheVariants as calls
use Rattle.vk_pipe.specs.Pipes.{Server, answered, new_server, stage_call}
use Rattle.vk_pipe.specs.Requests.{reply_of}

-- the calls of a server that stands so, before the first of these answers and behind each
unfoldable calls_from : Server → List Answer → List (Option Call)
calls_from s [] = stage_call s.pipe s.stage ∷ []
calls_from s (a ∷ rest) = stage_call s.pipe s.stage ∷ calls_from (answered s a) rest

unfoldable reader : Pid
reader = record { host = 2; local = 1; some_host = lit< tt; one_host = lit< tt; some_local = lit< tt }

unfoldable writer : Pid
writer = record { host = 3; local = 1; some_host = lit< tt; one_host = lit< tt; some_local = lit< tt }

-- a message of these two first bytes, with this segment
unfoldable asked : ℕ → ℕ → ℕ → ℕ → Message
asked grants code start len = record { 0 = grants ∷ code ∷ replicate 22 0 ++ to_be_bytes w32 start ++ to_be_bytes w32 len }

unfoldable reads : ℕ → ℕ → Answer
reads start len = answers.ReceivedSegment reader (asked 2 8 start len) 0

unfoldable writes : ℕ → Answer
writes len = answers.ReceivedSegment writer (asked 1 7 0 len) len

unfoldable closes : Answer
closes = answers.ReceivedSegment writer (asked 0 9 0 0) 0

unfoldable receives : Option Call
receives = Some (calls.ReceiveSegment 0 512)

unfoldable replies : Pid → ℕ → ℕ → Option Call
replies to code count = Some (calls.Reply (reply_of code count) to)

unfoldable gives : ℕ → Option Call
gives count = Some (calls.ReplySegment (reply_of 0 count) reader 0 0 count)

-- a read waits until a write has come, and the write is replied to first
a_read_waits :
    calls_from (new_server 9) (reads 0 512 ∷ writes 3 ∷ answers.Loaded (1 ∷ 2 ∷ 3 ∷ []) ∷ answers.Ok ∷ answers.Ok ∷ [])
    ≡ receives ∷ receives ∷ Some (calls.Load 0 3) ∷ replies writer 0 3 ∷ Some (calls.Store 0 (1 ∷ 2 ∷ 3 ∷ [])) ∷ gives 3 ∷ []
unfolding calls_from reader writer asked reads writes receives replies gives
a_read_waits = refl

-- four writes of 512 bytes go in, and the fifth waits until a read has made room
unfoldable page : ℕ → List ℕ
page byte = replicate 512 byte

unfoldable writing : ℕ → List Answer
writing byte = writes 512 ∷ answers.Loaded (page byte) ∷ answers.Ok ∷ []

unfoldable writing_calls : List (Option Call)
writing_calls = receives ∷ Some (calls.Load 0 512) ∷ replies writer 0 512 ∷ []

a_write_waits :
    calls_from (new_server 9)
    (writing 1 ++ writing 2 ++ writing 3 ++ writing 4
    ++ (writes 512 ∷ answers.Loaded (page 5) ∷ reads 0 512 ∷ answers.Ok ∷ answers.Ok ∷ []))
    ≡ writing_calls ++ writing_calls ++ writing_calls ++ writing_calls
    ++ (receives ∷ Some (calls.Load 0 512) ∷ receives ∷ Some (calls.Store 0 (page 1)) ∷ gives 512 ∷ replies writer 0 512 ∷ [])
unfolding calls_from reader writer asked reads writes receives replies gives page writing writing_calls
a_write_waits = refl

-- what a reader did not get is for the next one; behind the last byte of a closed pipe a read is told the end, and a write that it comes
-- too late
bytes_stay_until_they_are_had :
    calls_from (new_server 9)
    (writes 3 ∷ answers.Loaded (1 ∷ 2 ∷ 3 ∷ []) ∷ answers.Ok
    ∷ reads 0 512 ∷ answers.Ok ∷ answers.Refused refusals.NotAwaiting
    ∷ reads 0 512 ∷ answers.Ok ∷ answers.Ok
    ∷ closes ∷ answers.Ok ∷ reads 0 512 ∷ answers.Ok ∷ writes 3 ∷ [])
    ≡ receives ∷ Some (calls.Load 0 3) ∷ replies writer 0 3
    ∷ receives ∷ Some (calls.Store 0 (1 ∷ 2 ∷ 3 ∷ [])) ∷ gives 3
    ∷ receives ∷ Some (calls.Store 0 (1 ∷ 2 ∷ 3 ∷ [])) ∷ gives 3
    ∷ receives ∷ replies writer 0 0 ∷ receives ∷ replies reader 6 0 ∷ receives ∷ replies writer 7 0 ∷ []
unfolding calls_from reader writer asked reads writes closes receives replies gives
bytes_stay_until_they_are_had = refl

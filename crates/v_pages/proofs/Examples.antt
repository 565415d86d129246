-- The definitions, tried: which code each request gets, a client that writes a page and reads it again, and one whose request is
-- forwarded.
use Rattle.std.proofs.Common.{◌≡◌, ℕ, zero, suc, List, [], ◌∷◌, Some, replicate, refl, lit<}
use Rattle.std.specs.Prelude.{option_map}
use Rattle.std.proofs.lemmas.Option.{none-some}
use Rattle.vk_types.specs.Types.{Pid, Process, ProcessSpec, Step}
use Rattle.vk_base.specs.declared.answer.Answer.TheVariants as answers
use Rattle.vk_base.specs.declared.call.Call.TheVariants as calls
use Rattle.vk_base.specs.declared.step.Step.TheVariants as steps
use Rattle.vk_base.specs.Calls.{call_refusal, forwarded, sent}
use Rattle.vk_base.specs.Kernel.{name_of, put_process, put_exchange, queue_of, held, held_up_to}
use Rattle.vk_base.specs.Ranges.{range_of, bytes_in}
use Rattle.vk_base.specs.Steps.{run, taking, taken, finishing, collecting}
use Rattle.vk_pages.specs.Messages.{request_of, reply_of}
use Rattle.vk_pages.specs.Servers.{server_call}
use Rattle.v_laws.specs.Places.{IsReplyAt, process_at, seen_at}
use Rattle.v_laws.specs.Reached.{saw}
use Rattle.v_pages.specs.Followed.{FollowsTask, up_to}
use Rattle.v_pages.specs.PageMap.{code_for, map_after}
use Rattle.v_pages.specs.Requests.{requests_before}
use Rattle.v_pages.specs.Served.{RepliesToLast}

-- Two pages: a read and a write that are done, and pages that are not there.
reads_done : code_for 2 (request_of 2 1 1 0 512) ≡ 0
reads_done = refl

writes_done : code_for 2 (request_of 1 2 1 0 512) ≡ 0
writes_done = refl

no_such_page : code_for 2 (request_of 2 1 2 0 512) ≡ 1
no_such_page = refl

-- a read that does not let the server write, or not enough; a write that does not let it read, or too much
read_only : code_for 2 (request_of 1 1 1 0 512) ≡ 2
read_only = refl

too_short : code_for 2 (request_of 2 1 1 0 511) ≡ 2
too_short = refl

write_only : code_for 2 (request_of 2 2 1 0 512) ≡ 2
write_only = refl

too_long : code_for 2 (request_of 1 2 1 0 513) ≡ 2
too_long = refl

-- what asks for nothing is bad before its page is looked at, and a page that is not there before the segment
neither : code_for 2 (request_of 2 3 2 0 512) ≡ 2
neither = refl

neither_page : code_for 2 (request_of 1 1 2 0 0) ≡ 1
neither_page = refl

-- A server and a client of one station. The client writes page 1, and reads it again.
unfoldable server : Pid
server = record { host = 1; local = 1; some_host = lit< tt; one_host = lit< tt; some_local = lit< tt }

unfoldable client : Pid
client = record { host = 1; local = 2; some_host = lit< tt; one_host = lit< tt; some_local = lit< tt }

unfoldable processes : List ProcessSpec
processes = record { pid = server; size = 512 } ∷ record { pid = client; size = 1024 } ∷ []

unfoldable nines : List ℕ
nines = replicate 512 9

unfoldable written_and_read : List Step
written_and_read =
    steps.Call server (calls.ReceiveSegment 0 512)
    ∷ steps.Call client (calls.Store 0 nines)
    ∷ steps.Call client (calls.Send server (request_of 1 2 1 0 512))
    ∷ steps.Take server
    ∷ steps.Collect server
    ∷ steps.Call server (calls.Load 0 512)
    ∷ steps.Call server (calls.Reply (reply_of 0 1) client)
    ∷ steps.Finish client
    ∷ steps.Collect client
    ∷ steps.Call server (calls.ReceiveSegment 0 512)
    ∷ steps.Call client (calls.Send server (request_of 2 1 1 512 512))
    ∷ steps.Take server
    ∷ steps.Collect server
    ∷ steps.Call server (calls.Store 0 nines)
    ∷ steps.Call server (calls.ReplySegment (reply_of 0 1) client 512 0 512)
    ∷ steps.Finish client
    ∷ steps.Collect client
    ∷ []

-- the requests that the server takes
requests : requests_before processes written_and_read server 17 ≡
    record { name = name_of client 1; message = request_of 1 2 1 0 512; bytes = nines }
    ∷ record { name = name_of client 2; message = request_of 2 1 1 512 512; bytes = nines }
    ∷ []
unfolding up_to run processes server client nines written_and_read put_process put_exchange queue_of held held_up_to call_refusal sent
    taking taken finishing collecting
requests = refl

-- and what they make of the map
made : map_after 2 (requests_before processes written_and_read server 17) 1 ≡ nines
unfolding up_to run processes server client nines written_and_read put_process put_exchange queue_of held held_up_to call_refusal sent
    taking taken finishing collecting
made = refl

left_zero : map_after 2 (requests_before processes written_and_read server 17) 0 ≡ replicate 512 0
unfolding up_to run processes server client nines written_and_read put_process put_exchange queue_of held held_up_to call_refusal sent
    taking taken finishing collecting
left_zero = refl

-- what the client reads stands in its segment when it collects
read : option_map (λ (p : Process). bytes_in (range_of 512 512) p.memory) (process_at processes written_and_read 16 client) ≡ Some nines
unfolding up_to run processes server client nines written_and_read put_process put_exchange queue_of held held_up_to call_refusal sent
    taking taken finishing collecting
read = refl

-- the server follows its task
follows : FollowsTask (server_call 2 5) processes written_and_read server
unfolding up_to run processes server client nines written_and_read put_process put_exchange queue_of held held_up_to call_refusal sent
    taking taken finishing collecting
follows zero c is = record { answered = refl; told = is }
follows (suc zero) c is = absurd (none-some c is)
follows (suc (suc zero)) c is = absurd (none-some c is)
follows (suc (suc (suc zero))) c is = absurd (none-some c is)
follows (suc (suc (suc (suc zero)))) c is = absurd (none-some c is)
follows (suc (suc (suc (suc (suc zero))))) c is = record { answered = refl; told = is }
follows (suc (suc (suc (suc (suc (suc zero)))))) c is = record { answered = refl; told = is }
follows (suc (suc (suc (suc (suc (suc (suc zero))))))) c is = absurd (none-some c is)
follows (suc (suc (suc (suc (suc (suc (suc (suc zero)))))))) c is = absurd (none-some c is)
follows (suc (suc (suc (suc (suc (suc (suc (suc (suc zero))))))))) c is = record { answered = refl; told = is }
follows (suc (suc (suc (suc (suc (suc (suc (suc (suc (suc zero)))))))))) c is = absurd (none-some c is)
follows (suc (suc (suc (suc (suc (suc (suc (suc (suc (suc (suc zero))))))))))) c is = absurd (none-some c is)
follows (suc (suc (suc (suc (suc (suc (suc (suc (suc (suc (suc (suc zero)))))))))))) c is = absurd (none-some c is)
follows (suc (suc (suc (suc (suc (suc (suc (suc (suc (suc (suc (suc (suc zero))))))))))))) c is = record { answered = refl; told = is }
follows (suc (suc (suc (suc (suc (suc (suc (suc (suc (suc (suc (suc (suc (suc zero)))))))))))))) c is =
    record { answered = refl; told = is }
follows (suc (suc (suc (suc (suc (suc (suc (suc (suc (suc (suc (suc (suc (suc (suc zero))))))))))))))) c is = absurd (none-some c is)
follows (suc (suc (suc (suc (suc (suc (suc (suc (suc (suc (suc (suc (suc (suc (suc (suc zero)))))))))))))))) c is =
    absurd (none-some c is)
follows (suc (suc (suc (suc (suc (suc (suc (suc (suc (suc (suc (suc (suc (suc (suc (suc (suc i))))))))))))))))) c is =
    absurd (none-some c is)

-- A third process, to which the client sends its read, forwards it to the server as one of page 1.
unfoldable front : Pid
front = record { host = 1; local = 3; some_host = lit< tt; one_host = lit< tt; some_local = lit< tt }

unfoldable three : List ProcessSpec
three = record { pid = front; size = 0 } ∷ processes

unfoldable zeros : List ℕ
zeros = replicate 512 0

unfoldable forwarded_read : List Step
forwarded_read =
    steps.Call server (calls.ReceiveSegment 0 512)
    ∷ steps.Call front calls.Receive
    ∷ steps.Call client (calls.Send front (request_of 2 1 0 512 512))
    ∷ steps.Take front
    ∷ steps.Collect front
    ∷ steps.Call front (calls.Forward (request_of 2 1 1 512 512) client server)
    ∷ steps.Take server
    ∷ steps.Collect server
    ∷ steps.Call server (calls.Store 0 zeros)
    ∷ steps.Call server (calls.ReplySegment (reply_of 0 1) client 512 0 512)
    ∷ steps.Finish client
    ∷ steps.Collect client
    ∷ []

-- the server takes what it is shown
shown : requests_before three forwarded_read server 12 ≡
    record { name = name_of client 1; message = request_of 2 1 1 512 512; bytes = zeros } ∷ []
unfolding up_to run processes three server client front zeros forwarded_read put_process put_exchange queue_of held held_up_to
    call_refusal sent forwarded taking taken finishing collecting
shown = refl

-- and replies to the last Send of the client
replies : IsReplyAt three forwarded_read 9 client server 1 (reply_of 0 1) 512 zeros
unfolding up_to run processes three server client front zeros forwarded_read put_process put_exchange queue_of held held_up_to
    call_refusal sent forwarded taking taken finishing collecting
replies = record { holds = refl; call = _; is = refl; answered = refl; caller = _; then = refl; gives = refl }

replies_to_last : RepliesToLast three forwarded_read 11 9 client server
unfolding up_to run processes three server client front zeros forwarded_read put_process put_exchange queue_of held held_up_to
    call_refusal sent forwarded taking taken finishing collecting
replies_to_last = record { sender = _; now = refl; message = _; dest = _; bytes = _; replies = replies }

-- which collects this reply
collected : seen_at three forwarded_read 11 ≡ saw client (calls.Send front (request_of 2 1 0 512 512)) (answers.Replied (reply_of 0 1))
unfolding up_to run processes three server client front zeros forwarded_read put_process put_exchange queue_of held held_up_to
    call_refusal sent forwarded taking taken finishing collecting
collected = refl

-- the server follows its task
follows_forwarded : FollowsTask (server_call 2 1) three forwarded_read server
unfolding up_to run processes three server client front zeros forwarded_read put_process put_exchange queue_of held held_up_to
    call_refusal sent forwarded taking taken finishing collecting
follows_forwarded zero c is = record { answered = refl; told = is }
follows_forwarded (suc zero) c is = absurd (none-some c is)
follows_forwarded (suc (suc zero)) c is = absurd (none-some c is)
follows_forwarded (suc (suc (suc zero))) c is = absurd (none-some c is)
follows_forwarded (suc (suc (suc (suc zero)))) c is = absurd (none-some c is)
follows_forwarded (suc (suc (suc (suc (suc zero))))) c is = absurd (none-some c is)
follows_forwarded (suc (suc (suc (suc (suc (suc zero)))))) c is = absurd (none-some c is)
follows_forwarded (suc (suc (suc (suc (suc (suc (suc zero))))))) c is = absurd (none-some c is)
follows_forwarded (suc (suc (suc (suc (suc (suc (suc (suc zero)))))))) c is = record { answered = refl; told = is }
follows_forwarded (suc (suc (suc (suc (suc (suc (suc (suc (suc zero))))))))) c is = record { answered = refl; told = is }
follows_forwarded (suc (suc (suc (suc (suc (suc (suc (suc (suc (suc zero)))))))))) c is = absurd (none-some c is)
follows_forwarded (suc (suc (suc (suc (suc (suc (suc (suc (suc (suc (suc zero))))))))))) c is = absurd (none-some c is)
follows_forwarded (suc (suc (suc (suc (suc (suc (suc (suc (suc (suc (suc (suc i)))))))))))) c is = absurd (none-some c is)

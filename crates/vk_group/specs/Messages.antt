-- Requests to a coordinator and its replies, as messages.
use Rattle.std.specs.Prelude.{ℕ, Bool, ◌==◌, ◌&&◌, ◌||◌, ◌∷◌, ◌++◌, length, replicate, slice_index, Option, Some, None, if◌then◌else◌}
use Rattle.std.specs.Int.{w32, to_be_bytes}
use Rattle.vk_types.specs.Types.{Answer, Message}
use Rattle.vk_base.specs.declared.answer.Answer.TheVariants as answers
use Rattle.vk_base.specs.declared.limits.TheConstants.{MESSAGE_BYTES}
use Rattle.vk_base.specs.Messages.{grants_of}
use Rattle.vk_group.specs.declared.code.Code.{Code}
use Rattle.vk_group.specs.declared.message.TheConstants.{GET_REPLY, GROUP_SEND, READY, RESULT}
use Rattle.vk_group.specs.declared.request.Request.{Request}
use Rattle.vk_group.specs.declared.request.Request.TheVariants as requests
use Rattle.vk_group.specs.Codes.{number_of}

-- what a message asks for
abbrev pub kind_of : Message → ℕ
kind_of m = slice_index m.0 1

-- how a report tells how it went: 0 where the member replied, 1 where its Send failed
abbrev pub outcome_of : Message → ℕ
outcome_of m = slice_index m.0 3

-- it lets the receiver read, or write, exactly as many bytes as a message has
abbrev pub lends : Message → Bool
lends m = (grants_of m).read && (grants_of m).range.len == MESSAGE_BYTES

abbrev pub takes : Message → Bool
takes m = (grants_of m).write && (grants_of m).range.len == MESSAGE_BYTES

-- where the reply's bytes go
abbrev pub place_of : Message → ℕ
place_of m = (grants_of m).range.start

-- What is asked for by a message with which so many bytes came: a group Send brings its message and takes a reply, a request for a reply
-- takes one, a helper that is ready takes a message, and a report brings a reply. What should bring bytes and did not is bad.
abbrev pub request_in : Message → ℕ → Request
request_in m count =
    if kind_of m == GROUP_SEND && lends m && takes m && count == MESSAGE_BYTES then requests.GroupSend (place_of m)
    else if kind_of m == GET_REPLY && takes m then requests.GetReply (place_of m)
    else if kind_of m == READY && takes m then requests.Ready (place_of m)
    else if kind_of m == RESULT && lends m && (outcome_of m == 0 || outcome_of m == 1) && count == MESSAGE_BYTES then
    requests.Result (outcome_of m == 0)
    else requests.Bad

-- what a helper sends to its coordinator, with the first 32 bytes of its memory as the segment
abbrev pub ready_message : Message
ready_message = record { 0 = 2 ∷ READY ∷ replicate 26 0 ++ to_be_bytes w32 MESSAGE_BYTES }

abbrev pub result_message : Bool → Message
result_message replied =
    record { 0 = 1 ∷ RESULT ∷ 0 ∷ (if replied then 0 else 1) ∷ replicate 24 0 ++ to_be_bytes w32 MESSAGE_BYTES }

-- what a coordinator replies: the code in byte 1, the number of the member in bytes 4 to 7
abbrev pub reply_of : Code → ℕ → Message
reply_of code member = record { 0 = 0 ∷ number_of code ∷ 0 ∷ 0 ∷ to_be_bytes w32 member ++ replicate 24 0 }

-- the message that was loaded, where it is one
abbrev pub message_in : Answer → Option Message
message_in (answers.Loaded bytes) = if length bytes == MESSAGE_BYTES then Some (record { 0 = bytes }) else None
message_in _ = None

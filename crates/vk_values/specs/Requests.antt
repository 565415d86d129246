-- Requests and replies, as messages, and what becomes of a request.
use Rattle.std.specs.Prelude.{ℕ, ◌==◌, List, [], ◌∷◌, ◌++◌, replicate, slice_index, Option, Some, None, if◌then◌else◌}
use Rattle.std.specs.Int.{w32, to_be_bytes}
use Rattle.vk_types.specs.Types.{Message}
use Rattle.vk_base.specs.Messages.{word_at}
use Rattle.vk_values.specs.declared.entry.Entry.{Entry}
use Rattle.vk_values.specs.declared.limits.TheConstants.{BAD, DONE, FULL, GET, PUT, UNKNOWN}
use Rattle.vk_values.specs.Tables.{has_room, value_of, with_value}

-- byte 1 is the code; behind it stand the key, and the value that is put or given
abbrev pub code_of : Message → ℕ
code_of m = slice_index m.0 1

abbrev pub key_of : Message → ℕ
key_of m = word_at m 4

abbrev pub value_in : Message → ℕ
value_in m = word_at m 8

abbrev pub message_of : ℕ → ℕ → ℕ → Message
message_of code key value =
    record { 0 = 0 ∷ code ∷ 0 ∷ 0 ∷ to_be_bytes w32 key ++ to_be_bytes w32 value ++ replicate 20 0 }

-- what is kept after a request
abbrev pub kept_after : List Entry → Message → List Entry
kept_after entries m = if code_of m == PUT then with_value entries (key_of m) (value_in m) else entries

-- the reply to a get, where this is the value of the key
abbrev pub reply_got : Option ℕ → ℕ → Message
reply_got (Some value) key = message_of DONE key value
reply_got None key = message_of UNKNOWN key 0

-- what a request is replied
abbrev pub replied_to : List Entry → Message → Message
replied_to entries m =
    if code_of m == PUT then
    if has_room entries (key_of m) then message_of DONE (key_of m) (value_in m) else message_of FULL (key_of m) 0
    else if code_of m == GET then reply_got (value_of entries (key_of m)) (key_of m)
    else message_of BAD (key_of m) 0

-- what is kept after these requests, one after the other
abbrev pub kept : List Entry → List Message → List Entry
kept entries [] = entries
kept entries (m ∷ rest) = kept (kept_after entries m) rest

-- Page requests and their replies, as messages.
use Rattle.std.specs.Prelude.{ℕ, ◌∷◌, ◌++◌, replicate, slice_index}
use Rattle.std.specs.Int.{w32, to_be_bytes}
use Rattle.vk_types.specs.Types.{Message}
use Rattle.vk_base.specs.Messages.{word_at}

-- what a request asks for: 1 to read, 2 to write
abbrev pub code_of : Message → ℕ
code_of m = slice_index m.0 1

-- the page that it asks for
abbrev pub page_of : Message → ℕ
page_of m = word_at m 4

-- a message of these two first bytes, for this page, with this segment
abbrev pub request_of : ℕ → ℕ → ℕ → ℕ → ℕ → Message
request_of grants code page start len =
    record { 0 = grants ∷ code ∷ 0 ∷ 0 ∷ to_be_bytes w32 page ++ replicate 16 0 ++ to_be_bytes w32 start ++ to_be_bytes w32 len }

-- the reply for a page: byte 1 is 0 where it was done, 1 where there is no such page, 2 where the request was bad
abbrev pub reply_of : ℕ → ℕ → Message
reply_of code page = record { 0 = 0 ∷ code ∷ 0 ∷ 0 ∷ to_be_bytes w32 page ++ replicate 24 0 }

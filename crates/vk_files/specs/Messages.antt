-- File requests and their replies, as messages.
use Rattle.std.specs.Prelude.{ℕ, ◌∷◌, ◌++◌, List, take, drop, replicate, slice_index}
use Rattle.std.specs.Int.{w32, to_be_bytes}
use Rattle.vk_types.specs.Types.{Message}
use Rattle.vk_base.specs.Messages.{word_at}
use Rattle.vk_files.specs.declared.limits.TheConstants.{NAME_BYTES}

-- what a request asks for: 3 to open, 4 to read, 5 to write, 6 to load
abbrev pub code_of : Message → ℕ
code_of m = slice_index m.0 1

-- the name that an open asks for
abbrev pub name_of : Message → List ℕ
name_of m = take NAME_BYTES (drop 4 m.0)

-- the number of the file, and the page, that the others ask for
abbrev pub file_of : Message → ℕ
file_of m = word_at m 4

abbrev pub page_of : Message → ℕ
page_of m = word_at m 8

-- a reply: byte 1 is 0 where it was done, 1 where there is no such file or page, 2 where the request was bad, 3 where the disk failed, 4
-- where the move failed; behind it the file, and its length or the page
abbrev pub reply_of : ℕ → ℕ → ℕ → Message
reply_of code file number = record { 0 = 0 ∷ code ∷ 0 ∷ 0 ∷ to_be_bytes w32 file ++ to_be_bytes w32 number ++ replicate 20 0 }

-- a request to open the file of this name of 20 bytes
abbrev pub open_of : List ℕ → Message
open_of name = record { 0 = 0 ∷ 3 ∷ 0 ∷ 0 ∷ name ++ replicate 8 0 }

-- a request to read or write a page, which grants this access to this segment
abbrev pub page_request : ℕ → ℕ → ℕ → ℕ → ℕ → ℕ → Message
page_request grants code file page start len = record {
  0 = grants ∷ code ∷ 0 ∷ 0 ∷ to_be_bytes w32 file ++ to_be_bytes w32 page ++ replicate 12 0
      ++ to_be_bytes w32 start ++ to_be_bytes w32 len;
}

-- a request to load a file to this segment
abbrev pub load_of : ℕ → ℕ → ℕ → Message
load_of file start len = page_request 2 6 file 0 start len

-- What a message asks of a pipe server, and the replies.
use Rattle.std.specs.Prelude.{ℕ, Bool, ◌==◌, ◌&&◌, ◌||◌, nat_lt, nat_le, ◌∷◌, ◌++◌, replicate, slice_index}
use Rattle.std.specs.Int.{w32, to_be_bytes}
use Rattle.vk_types.specs.Types.{Message, Pid}
use Rattle.vk_base.specs.Messages.{grants_read, grants_write, segment_of}
use Rattle.vk_base.specs.declared.limits.TheConstants.{SEGMENT_BYTES}
use Rattle.vk_pipe.specs.declared.serving.Verdict.{Verdict}
use Rattle.vk_pipe.specs.declared.serving.Verdict.TheVariants as verdicts
use Rattle.vk_pipe.specs.declared.waiting.Read.{Read}

-- what a request asks for: 7 to write, 8 to read, 9 to close; and in a reply what became of it
abbrev pub code_of : Message → ℕ
code_of m = slice_index m.0 1

-- a write grants reading of 1 to 512 bytes
abbrev pub is_write : Message → Bool
is_write m = code_of m == 7 && grants_read m && nat_lt 0 (segment_of m).len && nat_le (segment_of m).len SEGMENT_BYTES

-- a read grants writing of at least one byte
abbrev pub is_read : Message → Bool
is_read m = code_of m == 8 && grants_write m && nat_lt 0 (segment_of m).len

abbrev pub is_close : Message → Bool
is_close m = code_of m == 9

abbrev pub is_request : Message → Bool
is_request m = is_write m || is_read m || is_close m

-- the read that a message of this process asks for
abbrev pub read_of : Pid → Message → Read
read_of from m = record { from = from; start = (segment_of m).start; len = (segment_of m).len }

-- a reply: byte 1 is its code, bytes 4 to 7 are a number of bytes, and all else is 0
abbrev pub reply_of : ℕ → ℕ → Message
reply_of code count = record { 0 = 0 ∷ code ∷ 0 ∷ 0 ∷ to_be_bytes w32 count ++ replicate 24 0 }

abbrev pub code_for : Verdict → ℕ
code_for (verdicts.Written count) = 0
code_for verdicts.Closed = 0
code_for verdicts.Bad = 2
code_for verdicts.Full = 5
code_for verdicts.End = 6
code_for verdicts.Shut = 7

abbrev pub count_for : Verdict → ℕ
count_for (verdicts.Written count) = count
count_for verdict = 0

abbrev pub message_for : Verdict → Message
message_for verdict = reply_of (code_for verdict) (count_for verdict)

-- The page client.
use Rattle.std.specs.Prelude.{◌≡◌, ℕ, ◌==◌, ◌+◌, ◌*◌, ◌/◌, ◌%◌, min, nat_lt, List, length, replicate, Option, Some, None, if◌then◌else◌}
use Rattle.vk_types.specs.Types.{Answer, Call, Pid}
use Rattle.vk_base.specs.declared.call.Call.TheVariants as calls
use Rattle.vk_event.specs.declared.task.TheConstants.{PAGE_BYTES}
use Rattle.vk_pages.specs.Messages.{request_of}

-- the byte that a client on this host writes in a round
abbrev pub fill_of : ℕ → ℕ → ℕ
fill_of host round = (round + host) % 256

-- the calls of a round: the bytes are put at 0, written to a page of the server, read again to 512, and looked at
abbrev pub round_call : ℕ → Pid → ℕ → ℕ → ℕ → Call
round_call host server pages round call =
    if call == 0 then calls.Store 0 (replicate PAGE_BYTES (fill_of host round))
    else if call == 1 then calls.Send server (request_of 1 2 (round % pages) 0 PAGE_BYTES)
    else if call == 2 then calls.Send server (request_of 2 1 (round % pages) PAGE_BYTES PAGE_BYTES)
    else calls.Load PAGE_BYTES PAGE_BYTES

-- four calls a round, whatever the answers are
abbrev pub client_call : ℕ → Pid → ℕ → ℕ → List Answer → Option Call
client_call host server pages rounds answers =
    if nat_lt (length answers) (4 * rounds) then Some (round_call host server pages (length answers / 4) (length answers % 4)) else None

-- so many of its calls were answered, or all, of as many rounds
abbrev pub IsClientAfter : ℕ → ℕ → List Answer → Type 0
IsClientAfter rounds at answers = at ≡ min (length answers) (4 * rounds)

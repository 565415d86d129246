-- Why a reply or a move within the station is refused, by the tables.
use Rattle.std.specs.Prelude.{ℕ, Bool, ◌&&◌, not, nat_lt, List, [], ◌∷◌, is_none, length, Option, if◌then◌else◌}
use Rattle.vk_types.specs.Types.{Message, Pid, Refusal}
use Rattle.vk_base.specs.declared.answer.Refusal.TheVariants as refusals
use Rattle.vk_base.specs.Calls.{first_that_holds}
use Rattle.vk_base.specs.Kernel.{holds_of}
use Rattle.vk_base.specs.Messages.{grants_read, grants_write, segment_of}
use Rattle.vk_base.specs.Ranges.{range_of, lies_in, lies_within}
use Rattle.vk_procs.specs.declared.seat.Seat.{Seat}
use Rattle.vk_procs.specs.Seats.{seat_in}
use Rattle.vk_local.specs.declared.access.Access.{Access}
use Rattle.vk_stands.specs.Held.{Holding, local_holding}

abbrev pub message_of : Holding → Message
message_of h = h.message

-- the held message lets the segment be written, or read
abbrev pub lets : Bool → Message → Bool
lets write m = if write then grants_write m else grants_read m

abbrev pub may_use : Access → Holding → Bool
may_use a h = lets a.write h.message

-- the range lies in the segment that the held message grants
abbrev pub grants : Access → Holding → Bool
grants a h = lies_within (range_of a.granted a.count) (segment_of h.message)

-- the range lies in the memory of the process
abbrev pub has_range : ℕ → ℕ → Seat → Bool
has_range start count s = lies_in (range_of start count) (length s.memory)

abbrev pub own_range : List Seat → Pid → ℕ → ℕ → Bool
own_range seats pid start count = holds_of (has_range start count) (seat_in seats pid)

abbrev pub not_awaiting : List Seat → Pid → Pid → Option Refusal
not_awaiting seats pid to = first_that_holds ((is_none (local_holding seats pid to), refusals.NotAwaiting) ∷ [])

abbrev pub access_refusal : List Seat → Pid → Pid → Access → Option Refusal
access_refusal seats pid to a = first_that_holds (
    (nat_lt a.limit a.count, refusals.TooLong)
    ∷ (is_none (local_holding seats pid to), refusals.NotAwaiting)
    ∷ (not (holds_of (may_use a) (local_holding seats pid to)), refusals.NoAccess)
    ∷ (not (holds_of (grants a) (local_holding seats pid to) && own_range seats pid a.own a.count), refusals.BadRange)
    ∷ [])

-- Which headers there are, and when a frame is young.
use Rattle.std.specs.Prelude.{ℕ, ◌+◌, ◌-◌, ◌^◌, Bool, ◌&&◌, nat_le, nat_lt}
use Rattle.vk_base.specs.declared.limits.TheConstants.{EVERY_STATION, LAST_NUMBER, SHORT_NUMBER}
use Rattle.std.specs.Int.{is_in_range}
use Rattle.vk_frame.specs.declared.header.Header.{Header}

-- a frame comes from a station, and goes to one or, as 65,535, to all; events and outputs are counted from 1
abbrev pub is_lawful : Header → Bool
is_lawful h =
    is_in_range 1 (EVERY_STATION - 1) h.source && is_in_range 1 EVERY_STATION h.destination
    && nat_lt h.stamp (2 ^ 63) && nat_lt h.number (2 ^ 63)
    && is_in_range 1 LAST_NUMBER h.event && is_in_range 1 SHORT_NUMBER h.output

-- no more than `life` ticks have passed since the stamp
abbrev pub is_young : Header → ℕ → ℕ → Bool
is_young h now life = nat_le now (h.stamp + life)

-- How an outbox keeps its packets: in the first slots, in order.
use Rattle.std.specs.Prelude.{◌≡◌, ℕ, ◌-◌, ◌<◌, List, [], ◌++◌, length, map, replicate, take, slice_get, Some}
use Rattle.vk_base.specs.declared.limits.TheConstants.{HEADER_BYTES}

-- a slot: the station that its packet is for, what stands in front of the packet, and its bytes
pub record SlotValue : Type 0 where
  pub to : ℕ
  pub front : List ℕ
  pub packet : List ℕ

abbrev pub empty_slot : SlotValue
empty_slot = record { to = 0; front = replicate HEADER_BYTES 0; packet = [] }

abbrev pub front_of : SlotValue → List ℕ
front_of s = s.front

-- what stands in front of each place: in the slots that were made, and zeros in so many others that all have room
abbrev pub fronts_of : ℕ → List SlotValue → List (List ℕ)
fronts_of room slots = map front_of slots ++ replicate (room - length slots) (replicate HEADER_BYTES 0)

abbrev pub post_of : SlotValue → ℕ × List ℕ
post_of s = (s.to, s.packet)

abbrev pub posts_of : ℕ → List SlotValue → List (ℕ × List ℕ)
posts_of used slots = map post_of (take used slots)

-- no packet that is there is empty
abbrev pub AreSome : ℕ → List SlotValue → Type 0
AreSome used slots = (k : ℕ) (s : SlotValue) → k < used → slice_get slots k ≡ Some s → 0 < length s.packet

-- The definitions of what a link keeps and does, on short ones.
use Rattle.std.specs.Prelude.{◌≡◌, ℕ, true, false, [], ◌∷◌, ◌++◌, filter, replicate}
use Rattle.std.proofs.Common.{refl}
use Rattle.vk_base.specs.declared.event.StationEvent.TheVariants as events
unfoldable use Rattle.vk_frame.specs.Reading.{frame_of}
use Rattle.vk_hub.specs.Links.{Frame}
use Rattle.vk_port.specs.Ports.{Enters}
unfoldable use Rattle.vk_wire.specs.Fields.{number_at}
use Rattle.v_node.specs.Links.{brought_by, delivered_in, is_kept}

-- a datagram of 33 bytes from station 2: its mark, its source, this destination, stamp 0, a Lamport number with this first byte and 255 behind,
-- event 1, output 1, and one byte more
abbrev datagram : (above to number : ℕ) → Frame
datagram above to number =
    86 ∷ 75 ∷ 0 ∷ 2 ∷ above ∷ to ∷ replicate 8 0 ++ number ∷ replicate 7 255 ++ replicate 7 0 ++ 1 ∷ 0 ∷ 1 ∷ 7 ∷ []

for_this : is_kept 1 (datagram 0 1 0) ≡ true
unfolding frame_of number_at
for_this = refl

for_all : is_kept 1 (datagram 255 255 0) ≡ true
unfolding frame_of number_at
for_all = refl

for_another : is_kept 1 (datagram 0 3 0) ≡ false
unfolding frame_of number_at
for_another = refl

with_last_number : is_kept 1 (datagram 0 1 127) ≡ false
unfolding frame_of number_at
with_last_number = refl

opens_not : is_kept 1 (86 ∷ 75 ∷ 0 ∷ []) ≡ false
unfolding frame_of number_at
opens_not = refl

-- two of three are kept, in order
in_order : filter (is_kept 1) (datagram 0 1 0 ∷ datagram 0 3 0 ∷ datagram 255 255 0 ∷ []) ≡ datagram 0 1 0 ∷ datagram 255 255 0 ∷ []
unfolding frame_of number_at
in_order = refl

told : delivered_in (events.Tick ∷ events.Deliver (1 ∷ []) ∷ events.Deliver (2 ∷ []) ∷ []) ≡ (1 ∷ []) ∷ (2 ∷ []) ∷ []
told = refl

brought : brought_by (Enters [] (events.Deliver (1 ∷ [])) 0 ∷ Enters [] (events.Deliver (2 ∷ [])) 0 ∷ []) ≡ (1 ∷ []) ∷ (2 ∷ []) ∷ []
brought = refl

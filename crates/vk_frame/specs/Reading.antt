-- What bytes open as: a header, and the bytes behind it.
use Rattle.std.specs.Prelude.{ℕ, Bool, ◌==◌, ◌&&◌, not, List, length, Option, Some, None, if◌then◌else◌}
use Rattle.vk_base.specs.Options.{◌>>=◌}
use Rattle.vk_frame.specs.Rules.{is_lawful}
use Rattle.vk_frame.specs.Spelling.{mark}
use Rattle.vk_frame.specs.declared.header.Header.{Header}
use Rattle.vk_wire.specs.Fields.{number_at}

-- the mark stands first, each rule of a header holds, and something is behind it
abbrev pub opens : ℕ → Header → List ℕ → Bool
opens first h rest = (first == mark) && is_lawful h && not (length rest == 0)

unfoldable pub frame_of : List ℕ → Option (Header × List ℕ)
frame_of bytes = do
  first ← number_at 2 bytes
  source ← number_at 2 first.1
  destination ← number_at 2 source.1
  stamp ← number_at 8 destination.1
  number ← number_at 8 stamp.1
  event ← number_at 8 number.1
  output ← number_at 2 event.1
  let header : Header =
      record { source = source.0; destination = destination.0; stamp = stamp.0; number = number.0; event = event.0; output = output.0 }
  if opens first.0 header output.1 then Some (header, output.1) else None

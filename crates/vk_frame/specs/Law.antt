-- Opening is the inverse of spelling.
use Rattle.std.specs.Prelude.{◌≡◌, ◌≤◌, IsTrue, List, ℕ, length, Some}
use Rattle.vk_frame.specs.Reading.{frame_of}
use Rattle.vk_frame.specs.Rules.{is_lawful}
use Rattle.vk_frame.specs.Spelling.{frame_bytes}
use Rattle.vk_frame.specs.declared.header.Header.{Header}
use Rattle.vk_wire.specs.Fields.{IsBytes}

-- bytes open as a header and what is behind it exactly where they are the spelling of these
pub record FramesAreSpelledOnce : Type 0 where
  pub read : (bytes rest : List ℕ) (h : Header) → IsBytes bytes → frame_of bytes ≡ Some (h, rest) → (bytes ≡ frame_bytes h rest) ×
      IsTrue (is_lawful h) × (1 ≤ length rest)
  pub written : (h : Header) (rest : List ℕ) → IsTrue (is_lawful h) → 1 ≤ length rest → frame_of (frame_bytes h rest) ≡ Some (h, rest)

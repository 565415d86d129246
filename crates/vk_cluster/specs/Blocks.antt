-- Frames whose bytes stand in blocks.
use Rattle.std.specs.Prelude.{ℕ, ◌≡◌, ◌+◌, ◌*◌, ◌/◌, ◌%◌, ◌<◌, ◌≤◌, List, length, map, take, drop, sum_by, slice_index_or, Option}
use Rattle.std.specs.Global.{Vec}
use Rattle.std.specs.Option.{option_map_or}
use Rattle.vk_base.specs.declared.limits.TheConstants.{FRAME_BYTES}
use Rattle.vk_frame.specs.declared.header.Header.{Header}
use Rattle.vk_frame.specs.Reading.{frame_of}
use Rattle.vk_rules.specs.Each.{Each}
use Rattle.vk_rules.specs.Frames.{every_station}
use Rattle.vk_cluster.specs.declared.frames.FramePlace.{FramePlace}
use Rattle.vk_cluster.specs.declared.frames.TheConstants.{BLOCK_BYTES, HALF_BYTES, MOST_BYTES}

-- what contracts see of them: the frames, and for how many bytes and frames more memory is taken
pub record FrameList : Type 0 where
  pub items : List (List ℕ)
  pub bytes : ℕ
  pub places : ℕ

-- what is put has bytes, and not too many
pub record IsFrameSized (bytes : List ℕ) : Type 0 where
  pub some : 0 < length bytes
  pub few : length bytes ≤ FRAME_BYTES

abbrev pub block_bytes : Vec ℕ → List ℕ
block_bytes v = v.items

-- the block with this number, counted from 0: one of the full ones, or the last behind them
abbrev pub frame_block : List (List ℕ) → List ℕ → ℕ → List ℕ
frame_block full last n = slice_index_or full n last

-- the station that a frame which was opened is for; every station, too, where the bytes open as none
abbrev pub named_by : Option (Header × List ℕ) → ℕ
named_by o = option_map_or (λ (f : Header × List ℕ). f.0.destination) o every_station

-- the block that a place is in, and from which byte of it on
abbrev pub block_of : FramePlace → ℕ
block_of p = p.from / BLOCK_BYTES

abbrev pub start_of : FramePlace → ℕ
start_of p = p.from % BLOCK_BYTES

-- the bytes of a frame that stands there, and that they lie within the block, and are for the station of the place
abbrev pub placed_bytes : List (List ℕ) → List ℕ → FramePlace → List ℕ
placed_bytes full last p = take p.count (drop (start_of p) (frame_block full last (block_of p)))

abbrev pub IsInBlock : List (List ℕ) → List ℕ → FramePlace → Type 0
IsInBlock full last p = (block_of p ≤ length full) × (start_of p + p.count ≤ length (frame_block full last (block_of p)))
    × (named_by (frame_of (placed_bytes full last p)) ≡ p.to)

-- Each frame lies within its block, all bytes are those of frames, none of which is empty, and each full block is half used.
pub record AreKept (full : List (List ℕ)) (last : List ℕ) (places : List FramePlace) (size : ℕ) : Type 0 where
  pub within : Each (IsInBlock full last) places
  pub blocks : size ≡ sum_by length full + length last
  pub frames : size ≡ sum_by length (map (placed_bytes full last) places)
  pub few : length places ≤ size
  pub most : size ≤ MOST_BYTES
  pub used : HALF_BYTES * length full ≤ sum_by length full

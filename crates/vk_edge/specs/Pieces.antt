-- A text that is read piece by piece.
use Rattle.std.specs.Prelude.{ℕ, ◌≡◌, ◌≢◌, ◌<◌, ◌≤◌, ◌+◌, Bool, true, false, List, [], ◌∷◌, ◌++◌, length, take, drop, All, Option}
use Rattle.std.specs.Io.KnownBytes.{Consumes, IsAtEnd}
use Rattle.vk_base.specs.declared.limits.TheConstants.{INPUT_BYTES}
use Rattle.vk_io.specs.Causes.{LosesFront}
use Rattle.vk_io.specs.declared.whole.ReadRefusal.{ReadRefusal}
use Rattle.vk_io.specs.declared.whole.ReadRefusal.TheVariants as refusals

-- what is shown of a text that is read piece by piece: the piece, what was read behind it, how many bytes were read in all, and whether
-- the piece is the last
pub record Pieces : Type 0 where
  pub piece : List ℕ
  pub behind : List ℕ
  pub count : ℕ
  pub is_last : Bool

-- the last byte is a line feed
abbrev pub EndsLine : List ℕ → Type 0
EndsLine piece = (front : List ℕ) × (piece ≡ front ++ 10 ∷ [])

-- no byte is a line feed
abbrev pub EndsNone : List ℕ → Type 0
EndsNone bytes = All (λ byte. byte ≢ 10) bytes

-- these bytes were read on, and not too many in all
pub record IsReadOn (left rest : Option (List ℕ)) (bytes : List ℕ) (before now : ℕ) : Type 0 where
  pub taken : Consumes left rest bytes
  pub count : now ≡ before + length bytes
  pub few : now ≤ INPUT_BYTES

-- A piece more: what was read behind the last one, and these bytes, are the piece and what stands behind it. It ends the last line that
-- ends in them, or nothing is behind it and the source is at its end. One that is not the last brought bytes.
pub record IsNextPiece (left rest : Option (List ℕ)) (before : List ℕ) (count : ℕ) (p : Pieces) : Type 0 where
  pub bytes : List ℕ
  pub read : IsReadOn left rest bytes count p.count
  pub text : before ++ bytes ≡ p.piece ++ p.behind
  pub some : p.is_last ≡ false → 0 < length bytes
  pub ends : p.is_last ≡ false → EndsLine p.piece
  pub behind_ends_none : p.is_last ≡ false → EndsNone p.behind
  pub last : p.is_last ≡ true → (p.behind ≡ []) × IsAtEnd rest

-- why the text is not read on behind so many bytes
abbrev pub IsUnreadBehind : ℕ → Option (List ℕ) → Option (List ℕ) → ReadRefusal → Type 0
IsUnreadBehind count left rest refusals.Failed = LosesFront left rest (λ n. count + n ≤ INPUT_BYTES)
IsUnreadBehind count left rest refusals.TooLong = LosesFront left rest (λ n. INPUT_BYTES < count + n)
IsUnreadBehind count left rest refusals.NoMemory = LosesFront left rest (λ n. (0 < count + n) × (count + n ≤ INPUT_BYTES))

-- some bytes were read on
abbrev pub IsReadSince : (left rest : Option (List ℕ)) → (before now : ℕ) → Type 0
IsReadSince left rest before now = (bytes : List ℕ) × IsReadOn left rest bytes before now

-- the rest was read to its end
abbrev pub IsReadOut : (left rest : Option (List ℕ)) → (before now : ℕ) → Type 0
IsReadOut left rest before now = (bytes : List ℕ) × IsReadOn left rest bytes before now × IsAtEnd rest

-- ---- the buffer

-- the bytes that a buffer keeps, and how many were read in all
pub record Gathered : Type 0 where
  pub bytes : List ℕ
  pub count : ℕ

-- so many bytes of the buffer are filled, and it has room once a byte was read
pub record IsFitBuffer (bytes : List ℕ) (filled count : ℕ) : Type 0 where
  pub within : filled ≤ length bytes
  pub few : count ≤ INPUT_BYTES
  pub room : 0 < count → 0 < length bytes

-- one read of so many bytes, which stand behind those that were filled. They are none only at the end
pub record IsReadBehind (left rest : Option (List ℕ)) (filled : ℕ) (old new : List ℕ) (n : ℕ) : Type 0 where
  pub bytes : List ℕ
  pub taken : Consumes left rest bytes
  pub many : length bytes ≡ n
  pub kept : take (filled + n) new ≡ take filled old ++ bytes
  pub at_end : n ≡ 0 → IsAtEnd rest

-- what was read stands behind what was kept
pub record IsGathered (left rest : Option (List ℕ)) (old new : Gathered) : Type 0 where
  pub bytes : List ℕ
  pub read : IsReadOn left rest bytes old.count new.count
  pub kept : new.bytes ≡ old.bytes ++ bytes

-- one read, of so many bytes, which are none only at the end
pub record IsFilled (left rest : Option (List ℕ)) (old new : Gathered) (n : ℕ) : Type 0 where
  pub more : IsGathered left rest old new
  pub step : new.count ≡ old.count + n
  pub at_end : n ≡ 0 → IsAtEnd rest

-- it was read until a line ended here, or to the end
pub record IsCut (left rest : Option (List ℕ)) (old new : Gathered) (at : ℕ) (is_last : Bool) : Type 0 where
  pub more : IsGathered left rest old new
  pub within : at ≤ length new.bytes
  pub some : is_last ≡ false → old.count < new.count
  pub ends : is_last ≡ false → EndsLine (take at new.bytes)
  pub behind_ends_none : is_last ≡ false → EndsNone (drop at new.bytes)
  pub last : is_last ≡ true → (at ≡ length new.bytes) × IsAtEnd rest

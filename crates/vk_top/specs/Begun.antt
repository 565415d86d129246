-- Of the code alone, no law rests on it: work on a text of which a front was read.
use Rattle.std.specs.Prelude.{ℕ, ◌≡◌, ◌<◌, ◌≤◌, ◌⊎◌, true, false, List, [], ◌++◌, length, Option}
use Rattle.std.specs.Io.KnownBytes.{Consumes, IsAtEnd}
use Rattle.vk_base.specs.declared.limits.TheConstants.{INPUT_BYTES}
use Rattle.vk_edge.specs.Inputs.{IsText, IsUnread}
use Rattle.vk_edge.specs.Pieces.{EndsLine, IsNextPiece, Pieces}
use Rattle.vk_io.specs.declared.whole.ReadRefusal.{ReadRefusal}
use Rattle.vk_top.specs.Checking.{HasChecked, HasCheckedAll}
use Rattle.vk_top.specs.Pieces.{HasCome, HasPlayedAll}
use Rattle.vk_top.specs.Statuses.{unread}
use Rattle.vk_top.specs.Work.{IsRefusal, IsWork}
use Rattle.vk_top.specs.declared.begun.Begun.{Begun}
use Rattle.vk_top.specs.declared.begun.Begun.TheVariants as begun
use Rattle.vk_top.specs.declared.status.Status.{Status}
use Rattle.vk_top.specs.declared.top.TextOutput.{TextOutput}
use Rattle.vk_top.specs.declared.words.TextCommand.{TextCommand}
use Rattle.vk_top.specs.declared.words.TextCommand.TheVariants as asked

-- the work has come to the end of these bytes, whatever stands behind them
abbrev pub HasBegun : TextCommand → List ℕ → Begun → Type 0
HasBegun (asked.Replay form) text (begun.Replay playing) = HasCome form text playing
HasBegun (asked.Replay form) text (begun.Check checking) = ⊥
HasBegun asked.Check text (begun.Replay playing) = ⊥
HasBegun asked.Check text (begun.Check checking) = HasChecked text checking
HasBegun asked.Join text b = ⊥

-- the work has come to the end of this text
abbrev pub HasReadAll : TextCommand → List ℕ → Begun → Type 0
HasReadAll (asked.Replay form) text (begun.Replay playing) = HasPlayedAll form text playing
HasReadAll (asked.Replay form) text (begun.Check checking) = ⊥
HasReadAll asked.Check text (begun.Replay playing) = ⊥
HasReadAll asked.Check text (begun.Check checking) = HasCheckedAll text checking
HasReadAll asked.Join text b = ⊥

-- a text is refused so, and where it ends a line also whatever stands behind it
abbrev pub StaysRefused : TextCommand → List ℕ → List ℕ → Status → Type 0
StaysRefused a text piece s =
    IsRefusal a (text ++ piece) s × (EndsLine piece → (more : List ℕ) → IsRefusal a ((text ++ piece) ++ more) s)

-- so far the work has come, and was so much of the input read: these bytes, and those behind the piece
pub record IsOnWay (a : TextCommand) (left rest : Option (List ℕ)) (p : Pieces) (b : Begun) : Type 0 where
  pub text : List ℕ
  pub taken : Consumes left rest (text ++ p.behind)
  pub count : p.count ≡ length (text ++ p.behind)
  pub few : p.count ≤ INPUT_BYTES
  pub some : 0 < length text
  pub begun : p.is_last ≡ false → HasBegun a text b
  pub all : p.is_last ≡ true → HasReadAll a text b × (p.behind ≡ []) × IsAtEnd rest

-- the text that was read so far is refused so, and where more is to come, also whatever that is
pub record IsRefusedAt (a : TextCommand) (left rest : Option (List ℕ)) (p : Pieces) (s : Status) : Type 0 where
  pub text : List ℕ
  pub taken : Consumes left rest (text ++ p.behind)
  pub count : p.count ≡ length (text ++ p.behind)
  pub few : p.count ≤ INPUT_BYTES
  pub whole : p.is_last ≡ true → IsRefusal a text s × (p.behind ≡ []) × IsAtEnd rest
  pub further : p.is_last ≡ false → (more : List ℕ) → IsRefusal a (text ++ more) s

-- the first piece of an input that had these bytes left
abbrev pub IsFirstPiece : Option (List ℕ) → Option (List ℕ) → Pieces → Type 0
IsFirstPiece left rest p = IsNextPiece left rest [] 0 p

-- what is written of the text that was read
pub record IsWorkOfInput (a : TextCommand) (left rest : Option (List ℕ)) (w : TextOutput) : Type 0 where
  pub text : List ℕ
  pub read : IsText left rest text
  pub work : IsWork a text w

-- why nothing is written of a text that was read
pub record IsTextRefused (a : TextCommand) (left rest : Option (List ℕ)) (s : Status) : Type 0 where
  pub text : List ℕ
  pub read : IsText left rest text
  pub why : IsRefusal a text s

-- why nothing is written of an input: its text is refused, or was not read whole
abbrev pub IsInputRefused : TextCommand → Option (List ℕ) → Option (List ℕ) → Status → Type 0
IsInputRefused a left rest s = IsTextRefused a left rest s ⊎ ((r : ReadRefusal) × (s ≡ unread r) × IsUnread left rest r)

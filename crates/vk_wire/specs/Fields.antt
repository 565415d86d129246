-- Fields: numbers, pids and messages as bytes. Of a number the highest byte comes first, and a pid is its host and its local.
use Rattle.std.specs.Prelude.{◌≡◌, ℕ, ◌^◌, ◌<◌, nat_le, List, ◌++◌, length, take, drop, slice_index, Option, Some, None, if◌then◌else◌}
use Rattle.byteorder.specs.Endian.{big_bytes, big_number}
use Rattle.vk_types.specs.Types.{Message, Pid}
use Rattle.vk_base.specs.Messages.{IsMessage}
pub use Rattle.vk_base.specs.Options.{◌>>=◌}
use Rattle.vk_base.specs.Pids.{IsPid, pid_of_numbers}
use Rattle.vk_base.specs.declared.limits.TheConstants.{MESSAGE_BYTES}

abbrev pub IsBytes : List ℕ → Type 0
IsBytes bytes = (i : ℕ) → slice_index bytes i < 256

-- How a field is spelled; a number has two, four or eight bytes, which `big_bytes` names.
abbrev pub pid_bytes : Pid → List ℕ
pid_bytes p = big_bytes 2 p.host ++ big_bytes 2 p.local

-- What a field that stands first spells, and the bytes behind it, where it is whole.
unfoldable pub number_at : ℕ → List ℕ → Option (ℕ × List ℕ)
number_at n bytes = if nat_le n (length bytes) then Some (big_number n bytes, drop n bytes) else None

unfoldable pub pid_at : List ℕ → Option (Pid × List ℕ)
pid_at bytes = do
  host ← number_at 2 bytes
  local ← number_at 2 host.1
  pid ← pid_of_numbers host.0 local.0
  Some (pid, local.1)

unfoldable pub message_at : List ℕ → Option (Message × List ℕ)
message_at bytes = if nat_le MESSAGE_BYTES (length bytes) then Some (record { 0 = take MESSAGE_BYTES bytes }, drop MESSAGE_BYTES bytes)
    else None

-- A number, a pid or a message stands first exactly where its spelling does.
pub record NumbersAreSpelledOnce (n : ℕ) : Type 0 where
  pub read : (bytes rest : List ℕ) (x : ℕ) → IsBytes bytes → number_at n bytes ≡ Some (x, rest) → (bytes ≡ big_bytes n x ++ rest) ×
      (x < 256 ^ n)
  pub written : (x : ℕ) (rest : List ℕ) → x < 256 ^ n → number_at n (big_bytes n x ++ rest) ≡ Some (x, rest)

pub record PidsAreSpelledOnce : Type 0 where
  pub read : (bytes rest : List ℕ) (p : Pid) → IsBytes bytes → pid_at bytes ≡ Some (p, rest) → (bytes ≡ pid_bytes p ++ rest) × IsPid p
  pub written : (p : Pid) (rest : List ℕ) → IsPid p → pid_at (pid_bytes p ++ rest) ≡ Some (p, rest)

pub record MessagesAreSpelledOnce : Type 0 where
  pub read : (bytes rest : List ℕ) (m : Message) → IsBytes bytes → message_at bytes ≡ Some (m, rest) → (bytes ≡ m.0 ++ rest) × IsMessage m
  pub written : (m : Message) (rest : List ℕ) → IsMessage m → message_at (m.0 ++ rest) ≡ Some (m, rest)

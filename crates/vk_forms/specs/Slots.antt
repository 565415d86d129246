-- What the words of a form stand for.
use Rattle.std.specs.Prelude.{ℕ, ◌%◌, ◌==◌, ◌&&◌, ◌||◌, nat_le, Bool, false, List, [], ◌∷◌, length, codes, bytes_eq, is_some, Option, Some, None, if◌then◌else◌}
use Rattle.std.specs.List.{list_all}
use Rattle.std.specs.Option.{option_map_or}
use Rattle.vk_types.specs.Types.{ProcessSpec}
use Rattle.vk_base.specs.Settings.{has_process, has_station}
use Rattle.vk_text.specs.Words.{bytes_of, is_lower_hex, message_of, number_of, pid_of}
use Rattle.vk_forms.specs.declared.slot.SlotKind.{SlotKind}
use Rattle.vk_forms.specs.declared.slot.SlotKind.TheVariants as kinds

-- The range of the numbers of each kind, both ends with it.
abbrev pub limit_of : List ℕ → Option (ℕ × ℕ)
limit_of slot =
    if bytes_eq slot (codes "TRIES") then Some (1, 16)
    else if bytes_eq slot (codes "INTERVAL") then Some (1, 64)
    else if bytes_eq slot (codes "LIFE") then Some (0, 1024)
    else if bytes_eq slot (codes "POOL") then Some (1, 64)
    else if bytes_eq slot (codes "BYTE") then Some (0, 255)
    else if bytes_eq slot (codes "SEED") then Some (0, 18446744073709551615)
    else if bytes_eq slot (codes "ROUNDS") then Some (0, 50000)
    else None

abbrev pub range_of : List ℕ → Option (ℕ × ℕ)
range_of slot =
    if bytes_eq slot (codes "COUNT") then Some (0, 4294967295)
    else if bytes_eq slot (codes "SIZE") then Some (0, 131072)
    else if bytes_eq slot (codes "NUMBER") then Some (1, 9223372036854775807)
    else if bytes_eq slot (codes "OUTPUT") || bytes_eq slot (codes "PORT") then Some (1, 65535)
    else if bytes_eq slot (codes "STATION") then Some (1, 65534)
    else if bytes_eq slot (codes "PAGES") then Some (1, 4096)
    else if bytes_eq slot (codes "FILES") then Some (1, 16)
    else if bytes_eq slot (codes "FILE") then Some (0, 15)
    else limit_of slot

-- a word of a form stands for itself, unless it is the name of a kind
abbrev pub number_kind : Option (ℕ × ℕ) → SlotKind
number_kind None = kinds.Word
number_kind (Some r) = kinds.Number r.0 r.1

unfoldable pub kind_of : List ℕ → SlotKind
kind_of slot =
    if bytes_eq slot (codes "PID") then kinds.Pid
    else if bytes_eq slot (codes "PROCESS") then kinds.Process
    else if bytes_eq slot (codes "HOST") then kinds.Host
    else if bytes_eq slot (codes "MESSAGE") then kinds.Message
    else if bytes_eq slot (codes "BYTES") then kinds.Bytes
    else if bytes_eq slot (codes "FRAME") then kinds.Frame
    else number_kind (range_of slot)

-- lower-case hexadecimal of more bytes than a header has, and at most 1,152
unfoldable pub is_frame : List ℕ → Bool
is_frame word =
    length word % 2 == 0 && nat_le 66 (length word) && nat_le (length word) 2304 && list_all is_lower_hex word

-- the word is of this kind, where the configuration has these processes
abbrev pub fits_kind : List ProcessSpec → SlotKind → List ℕ → List ℕ → Bool
fits_kind specs kinds.Word slot word = bytes_eq slot word
fits_kind specs kinds.Pid slot word = is_some (pid_of word)
fits_kind specs kinds.Process slot word = option_map_or (has_process specs) (pid_of word) false
fits_kind specs kinds.Host slot word = option_map_or (has_station specs) (number_of 65534 word) false
fits_kind specs kinds.Message slot word = is_some (message_of word)
fits_kind specs kinds.Bytes slot word = is_some (bytes_of word)
fits_kind specs kinds.Frame slot word = is_frame word
fits_kind specs (kinds.Number least most) slot word = option_map_or (nat_le least) (number_of most word) false

-- the word may stand where this word of a form stands; an empty one may stand nowhere
unfoldable pub fits : List ProcessSpec → List ℕ → List ℕ → Bool
fits specs slot [] = false
fits specs slot (b ∷ bs) = fits_kind specs (kind_of slot) slot (b ∷ bs)

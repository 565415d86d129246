-- What is written of a bad line.
use Rattle.std.specs.Prelude.{◌≡◌, ℕ, ◌+◌, ◌≤◌, ◌⊎◌, Bool, true, false, List, [], ◌∷◌, ◌++◌, length, replicate, flat_map, decimal, codes, bytes_eq, if◌then◌else◌}
use Rattle.vk_types.specs.Types.{ProcessSpec}
use Rattle.vk_text.specs.Heads.{line_text}
use Rattle.vk_text.specs.Lines.{words_from}
use Rattle.vk_text.specs.Spelling.{pid_text}
use Rattle.vk_forms.specs.declared.slot.SlotKind.{SlotKind}
use Rattle.vk_forms.specs.declared.slot.SlotKind.TheVariants as kinds
use Rattle.vk_forms.specs.declared.table.TextKind.{TextKind}
use Rattle.vk_forms.specs.Follow.{follows, goes_on, unread}
use Rattle.vk_forms.specs.Forms.{forms_of}
use Rattle.vk_forms.specs.Slots.{kind_of}

abbrev pub process_words : ProcessSpec → List ℕ
process_words s = 32 ∷ pid_text s.pid

-- what a word of this kind is
abbrev pub kind_text : List ProcessSpec → SlotKind → List ℕ → List ℕ
kind_text specs kinds.Word slot = slot
kind_text specs kinds.Pid slot = codes "a pid HOST.LOCAL, each from 1, HOST to 65534 and LOCAL to 65535"
kind_text specs kinds.Process slot = codes "a process, of which there are:" ++ flat_map process_words specs
kind_text specs kinds.Host slot = codes "the station of a process, of which there are:" ++ flat_map process_words specs
kind_text specs kinds.Message slot = codes "a message in lower-case hexadecimal without zero bytes at its end, or -"
kind_text specs kinds.Bytes slot = codes "1 to 1024 bytes in lower-case hexadecimal, or -"
kind_text specs kinds.Frame slot = codes "a frame of 33 to 1152 bytes in lower-case hexadecimal"
kind_text specs (kinds.Number least most) slot = slot ++ codes ", " ++ decimal least ++ codes " to " ++ decimal most

-- what could stand where this word of a form stands, none at its end
unfoldable pub slot_text : List ProcessSpec → List ℕ → List ℕ
slot_text specs [] = codes "the end of the line"
slot_text specs (b ∷ bs) = kind_text specs (kind_of (b ∷ bs)) (b ∷ bs)

-- What could stand there: each of these, with a bar between, unless it is the one that was told last. Whether one was told, and which.
unfoldable pub told_text : List ProcessSpec → Bool → List ℕ → List (List ℕ) → List ℕ
told_text specs some last [] = []
told_text specs false last (s ∷ ss) = slot_text specs s ++ told_text specs true s ss
told_text specs true last (s ∷ ss) =
    if bytes_eq last s then told_text specs true last ss else codes " | " ++ slot_text specs s ++ told_text specs true s ss

-- the line, and a mark under the byte of this place
abbrev pub marked : List ℕ → ℕ → List ℕ
marked line at = line_text line ++ replicate at 32 ++ codes "^\n"

-- with which words the forms go on that a line follows farthest
abbrev pub could_stand : List ProcessSpec → TextKind → List (List ℕ) → List (List ℕ)
could_stand specs text ws = goes_on specs ws (length (unread specs (forms_of text) ws)) (forms_of text)

-- what is written of a line with a mark at this place, where no form goes on
abbrev pub word_fault : List ProcessSpec → TextKind → List ℕ → ℕ → List ℕ
word_fault specs text line at =
    marked line at ++ codes "here could stand: " ++ told_text specs false [] (could_stand specs text (words_from line 0)) ++ codes "\n"

-- what is written of a line that follows a form whole
abbrev pub whole_fault : List ℕ → List ℕ
whole_fault line = line_text line ++ codes "each word is right, but such a line may not stand here\n"

-- This is told of the line: a mark at the first word at which no form goes on, or that it follows a form whole.
abbrev pub IsTold : List ProcessSpec → TextKind → List ℕ → List ℕ → Type 0
IsTold specs text line told =
    ((follows specs (words_from line 0) (forms_of text) ≡ true) × (told ≡ whole_fault line))
    ⊎ ((at : ℕ) × (at ≤ length line + 1) × (follows specs (words_from line 0) (forms_of text) ≡ false)
    × (words_from line at ≡ unread specs (forms_of text) (words_from line 0)) × (told ≡ word_fault specs text line at))

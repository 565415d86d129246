-- Frames as words.
use Rattle.std.proofs.Common.{◌≡◌, ℕ, ◌*◌, ◌/◌, ◌<◌, ◌≤◌, ◌&&◌, nat_lt, nat_le, false, cond, List, length, Option, Some, None, refl, arith, ap, sym, ◌∙◌}
use Rattle.std.proofs.lemmas.Bool.{cond-false, and_parts, ltb-true, leb-true}
use Rattle.std.proofs.lemmas.Option.{cond_some}
use Rattle.hex.specs.Hex.{decode_pairs}
use Rattle.vk_base.specs.Options.{◌>>=◌}
use Rattle.vk_base.proofs.OptionLemmas.{bind_is}
use Rattle.vk_text.specs.Calls.{first_as}
use Rattle.vk_text.specs.Lines.{StartsNoWord}
use Rattle.vk_text.specs.Words.{lower_hex}
use Rattle.vk_text.proofs.Firsts.{no_first}
use Rattle.vk_text.proofs.Hexadecimal.{two_a_byte}
use Rattle.vk_event.specs.Nodes.{frame_of}

-- these bytes, where a frame has as many
unfoldable pub as_frame : List ℕ → Option (List ℕ)
as_frame bytes = cond (nat_lt 32 (length bytes) && nat_le (length bytes) 1152) (Some bytes) None

pub frame_is : (word : List ℕ) → frame_of word ≡ (lower_hex word >>= as_frame)
unfolding frame_of as_frame
frame_is word = refl

none_counted : (word bytes : List ℕ) → length word ≡ 2 * length bytes →
    (nat_lt 32 (length word / 2) && nat_le (length word / 2) 1152) ≡ false → as_frame bytes ≡ None
unfolding as_frame
none_counted word bytes twice few =
    let same : length bytes ≡ length word / 2 = omega arith in
    cond-false _ _ _ (ap (λ n. nat_lt 32 n && nat_le n 1152) same ∙ few)

by_read : (word : List ℕ) (o : Option (List ℕ)) → lower_hex word ≡ o →
    (nat_lt 32 (length word / 2) && nat_le (length word / 2) 1152) ≡ false → (o >>= as_frame) ≡ None
by_read word None h few = refl
by_read word (Some bytes) h few = none_counted word bytes (two_a_byte word bytes h) few

-- no frame has as few digits, nor as many
pub uncounted : (word : List ℕ) → (nat_lt 32 (length word / 2) && nat_le (length word / 2) 1152) ≡ false → None ≡ frame_of word
uncounted word few = sym (frame_is word ∙ by_read word (lower_hex word) refl few)

pub no_frame : (ws : List (List ℕ)) → StartsNoWord ws → first_as frame_of ws ≡ None
unfolding frame_of decode_pairs
no_frame ws h = no_first frame_of refl ws h

-- the bytes that the digits spell, and how many they are
pub frame_parts : (word frame : List ℕ) → frame_of word ≡ Some frame →
    (lower_hex word ≡ Some frame) × (32 < length frame) × (length frame ≤ 1152)
unfolding as_frame
frame_parts word frame h =
    let read = bind_is (lower_hex word) as_frame frame (sym (frame_is word) ∙ h) in
    let got = cond_some (nat_lt 32 (length read.0) && nat_le (length read.0) 1152) read.0 frame read.2 in
    let tests = and_parts (nat_lt 32 (length read.0)) (nat_le (length read.0) 1152) got.0 in
    let more = ltb-true 32 (length read.0) tests.0 in
    let most = leb-true (length read.0) 1152 tests.1 in
    let same = ap length got.1 in
    (read.1 ∙ ap Some got.1, omega (arith, more, same), omega (arith, most, same))

-- The messages of page programs are such that code can hold them.
use Rattle.std.proofs.Common.{ℕ, zero, suc, ◌+◌, ◌^◌, ◌<◌, ◌||◌, List, [], ◌∷◌, ◌++◌, replicate, slice_index, refl, arith}
use Rattle.std.proofs.lemmas.Bool.{cond_both}
use Rattle.std.specs.Int.{byte_at, from_be_bytes, to_be_bytes, w32}
use Rattle.vk_types.specs.Types.{Message, Range}
use Rattle.vk_base.specs.Messages.{IsMessage, grants_read, grants_write, segment_of, word_at}
use Rattle.vk_pages.specs.Messages.{reply_of, request_of}
use Rattle.vk_wire.specs.Fields.{IsBytes}
use Rattle.v_lawful.proofs.Bytes.{append_bytes, no_bytes, zero_bytes}

cons_bytes : (x : ℕ) (xs : List ℕ) → x < 256 → IsBytes xs → IsBytes (x ∷ xs)
cons_bytes x xs low rest zero = low
cons_bytes x xs low rest (suc i) = rest i

word_bytes : (n : ℕ) → IsBytes (to_be_bytes w32 n)
word_bytes n =
    let last : IsBytes (byte_at 0 n ∷ []) = cons_bytes (byte_at 0 n) [] (omega arith) no_bytes in
    let two : IsBytes (byte_at 1 n ∷ byte_at 0 n ∷ []) = cons_bytes (byte_at 1 n) (byte_at 0 n ∷ []) (omega arith) last in
    let three : IsBytes (byte_at 2 n ∷ byte_at 1 n ∷ byte_at 0 n ∷ []) =
    cons_bytes (byte_at 2 n) (byte_at 1 n ∷ byte_at 0 n ∷ []) (omega arith) two in
    cons_bytes (byte_at 3 n) (byte_at 2 n ∷ byte_at 1 n ∷ byte_at 0 n ∷ []) (omega arith) three

-- four bytes in front
four_bytes : (a b : ℕ) (xs : List ℕ) → a < 256 → b < 256 → IsBytes xs → IsBytes (a ∷ b ∷ 0 ∷ 0 ∷ xs)
four_bytes a b xs low few rest =
    cons_bytes a (b ∷ 0 ∷ 0 ∷ xs) low
    (cons_bytes b (0 ∷ 0 ∷ xs) few (cons_bytes 0 (0 ∷ xs) (omega arith) (cons_bytes 0 xs (omega arith) rest)))

pub reply_message : (code page : ℕ) → code < 256 → IsMessage (reply_of code page)
reply_message code page low = (
  refl,
  four_bytes 0 code (to_be_bytes w32 page ++ replicate 24 0) (omega arith) low
      (append_bytes (to_be_bytes w32 page) (replicate 24 0) (word_bytes page) (zero_bytes 24)),
)

pub request_message : (grants code page start len : ℕ) → grants < 256 → code < 256 → IsMessage (request_of grants code page start len)
request_message grants code page start len low few =
    let front : IsBytes (to_be_bytes w32 page ++ replicate 16 0) =
    append_bytes (to_be_bytes w32 page) (replicate 16 0) (word_bytes page) (zero_bytes 16) in
    let more : IsBytes ((to_be_bytes w32 page ++ replicate 16 0) ++ to_be_bytes w32 start) =
    append_bytes (to_be_bytes w32 page ++ replicate 16 0) (to_be_bytes w32 start) front (word_bytes start) in (
      refl,
      four_bytes grants code (((to_be_bytes w32 page ++ replicate 16 0) ++ to_be_bytes w32 start) ++ to_be_bytes w32 len) low few
          (append_bytes ((to_be_bytes w32 page ++ replicate 16 0) ++ to_be_bytes w32 start) (to_be_bytes w32 len) more (word_bytes len)),
    )

-- a word of four bytes has 32 bits
word_below : (a b c d : ℕ) → a < 256 → b < 256 → c < 256 → d < 256 → from_be_bytes w32 (a ∷ b ∷ c ∷ d ∷ []) < 2 ^ 32
word_below a b c d p q r s = omega arith

pub word_small : (m : Message) (at : ℕ) → IsMessage m → word_at m at < 2 ^ 32
word_small m at is =
    word_below (slice_index m.0 at) (slice_index m.0 (at + 1)) (slice_index m.0 (at + 2)) (slice_index m.0 (at + 3))
    (is.1 at) (is.1 (at + 1)) (is.1 (at + 2)) (is.1 (at + 3))

pub start_small : (m : Message) → IsMessage m → (segment_of m).start < 2 ^ 32
start_small m is =
    let some : Range = record { start = word_at m 24; len = word_at m 28 } in
    let none : Range = record { start = 0; len = 0 } in
    cond_both (grants_read m || grants_write m) some none (λ (r : Range). r.start < 2 ^ 32) (λ t. word_small m 24 is) (λ f. omega arith)

pub filled_bytes : (n byte : ℕ) → byte < 256 → IsBytes (replicate n byte)
filled_bytes zero byte low i = omega arith
filled_bytes (suc n) byte low zero = low
filled_bytes (suc n) byte low (suc i) = filled_bytes n byte low i

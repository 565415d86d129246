-- Words, lines and texts of plain bytes.
use Rattle.std.proofs.Common.{◌≡◌, ℕ, ◌<◌, ◌^◌, Bool, true, List, [], ◌∷◌, ◌++◌, slice_index, decimal, codes, refl, arith}
use Rattle.std.specs.Char.{is_ascii_digit}
use Rattle.std.specs.List.{All, AllByRecursion, flat_map, list_all}
use Rattle.std.proofs.lemmas.List.Elements.{All-nil, All-append, All-cons}
use Rattle.std.proofs.lemmas.List.Sums.{AllPass-from_list_all}
use Rattle.vk_types.specs.Types.{Call, Message, Pid, Scope}
use Rattle.vk_base.specs.declared.call.Call.TheVariants as calls
use Rattle.vk_base.specs.declared.call.Scope.TheVariants as scopes
use Rattle.vk_base.specs.Messages.{IsMessage}
use Rattle.vk_base.specs.Pids.{IsPid}
use Rattle.vk_page.specs.Page.{is_plain, is_plain_byte}
use Rattle.vk_text.specs.Heads.{line_text}
use Rattle.vk_text.specs.Laws.{IsReadable}
use Rattle.vk_text.specs.Spelling.{spaced, joined, pid_text, bytes_text, filled, message_text, scope_text, call_words}
use Rattle.vk_text.specs.Words.{is_lower_hex}
use Rattle.vk_text.proofs.HexDigits.{all_lower}
use Rattle.vk_text.proofs.Messages.{filled_fits}
use Rattle.vk_text.proofs.Spelled.{decimal_digits}

abbrev pub IsPlainByte : ℕ → Type 0
IsPlainByte c = is_plain_byte c ≡ true

abbrev pub IsPlain : List ℕ → Type 0
IsPlain text = All IsPlainByte text

plain_by : (p : ℕ → Bool) → ((c : ℕ) → p c ≡ true → IsPlainByte c) → (word : List ℕ) → list_all p word ≡ true → IsPlain word
plain_by p plain word h = λ k d l. plain _ (AllPass-from_list_all p word h k d l)

pub letters : (word : List ℕ) → is_plain word ≡ true → IsPlain word
letters word h = AllPass-from_list_all is_plain_byte word h

digit_plain : (c : ℕ) → is_ascii_digit c ≡ true → IsPlainByte c
digit_plain c h = grind arith

hex_plain : (c : ℕ) → is_lower_hex c ≡ true → IsPlainByte c
hex_plain c h = grind arith

pub both_plain : (a b : List ℕ) → IsPlain a → IsPlain b → IsPlain (a ++ b)
both_plain a b h k = All-append IsPlainByte a b h k

-- Words.

pub number_plain : (n : ℕ) → n < 2 ^ 64 → IsPlain (decimal n)
number_plain n h = plain_by is_ascii_digit digit_plain (decimal n) (decimal_digits n h)

pub count_plain : (n : ℕ) → n < 2 ^ 32 → IsPlain (decimal n)
count_plain n h = number_plain n (omega arith)

pub pid_plain : (p : Pid) → IsPid p → IsPlain (pid_text p)
pid_plain p fits =
    let host = p.one_host in
    both_plain (decimal p.host ++ codes ".") (decimal p.local)
    (both_plain (decimal p.host) (codes ".") (number_plain p.host (omega arith)) (letters (codes ".") refl))
    (number_plain p.local (omega arith))

bytes_plain : (bytes : List ℕ) → ((i : ℕ) → slice_index bytes i < 256) → IsPlain (bytes_text bytes)
bytes_plain [] h = letters (codes "-") refl
bytes_plain (b ∷ bs) h = plain_by is_lower_hex hex_plain (bytes_text (b ∷ bs)) (all_lower (b ∷ bs) h)

pub message_plain : (m : Message) → IsMessage m → IsPlain (message_text m)
unfolding message_text
message_plain m fits = bytes_plain (filled m.0) (filled_fits m.0 fits.1)

scope_plain : (s : Scope) → IsPlain (scope_text s)
scope_plain scopes.Local = letters (codes "local") refl
scope_plain scopes.Remote = letters (codes "remote") refl
scope_plain scopes.Both = letters (codes "both") refl

pub call_plain : (call : Call) → IsReadable call → AllByRecursion IsPlain (call_words call)
unfolding call_words
call_plain (calls.Send target message) h = (letters (codes "send") refl, (pid_plain target h.0, (message_plain message h.1, tt)))
call_plain calls.Receive h = (letters (codes "receive") refl, tt)
call_plain (calls.ReceiveSegment start count) h =
    (letters (codes "receivesegment") refl, (count_plain start h.0, (count_plain count h.1, tt)))
call_plain (calls.Reply message to) h = (letters (codes "reply") refl, (message_plain message h.0, (pid_plain to h.1, tt)))
call_plain (calls.ReplySegment message to dest src count) h = (
  letters (codes "replysegment") refl,
  (
    message_plain message h.0,
    (pid_plain to h.1, (count_plain dest h.2, (count_plain src h.3, (count_plain count h.4, tt)))),
  ),
)
call_plain (calls.Forward message from to) h =
    (letters (codes "forward") refl, (message_plain message h.0, (pid_plain from h.1, (pid_plain to h.2, tt))))
call_plain (calls.MoveTo partner dest src count) h =
    (letters (codes "moveto") refl, (pid_plain partner h.0, (count_plain dest h.1, (count_plain src h.2, (count_plain count h.3, tt)))))
call_plain (calls.MoveFrom partner dest src count) h =
    (letters (codes "movefrom") refl, (pid_plain partner h.0, (count_plain dest h.1, (count_plain src h.2, (count_plain count h.3, tt)))))
call_plain (calls.SetPid logical pid scope) h =
    (letters (codes "setpid") refl, (count_plain logical h.0, (pid_plain pid h.1, (scope_plain scope, tt))))
call_plain (calls.GetPid logical scope) h = (letters (codes "getpid") refl, (count_plain logical h, (scope_plain scope, tt)))
call_plain (calls.Load start count) h = (letters (codes "load") refl, (count_plain start h.0, (count_plain count h.1, tt)))
call_plain (calls.Store start bytes) h = (letters (codes "store") refl, (count_plain start h.0, (bytes_plain bytes h.1.1, tt)))
call_plain calls.Exit h = (letters (codes "exit") refl, tt)

-- Lines and texts.

spaced_plain : (text : List ℕ) (ws : List (List ℕ)) → IsPlain text → AllByRecursion IsPlain ws → IsPlain (spaced text ws)
spaced_plain text [] here h = here
spaced_plain text (w ∷ ws) here h =
    spaced_plain (text ++ 32 ∷ w) ws (both_plain text (32 ∷ w) here (All-cons IsPlainByte 32 w refl h.0)) h.1

pub joined_plain : (ws : List (List ℕ)) → AllByRecursion IsPlain ws → IsPlain (joined ws)
joined_plain [] h = All-nil IsPlainByte
joined_plain (w ∷ ws) h = spaced_plain w ws h.0 h.1

pub line_plain : (line : List ℕ) → IsPlain line → IsPlain (line_text line)
line_plain line h = both_plain line (codes "\n") h (letters (codes "\n") refl)

pub lines_plain : (lines : List (List ℕ)) → AllByRecursion IsPlain lines → IsPlain (flat_map line_text lines)
lines_plain [] h = All-nil IsPlainByte
lines_plain (l ∷ ls) h = both_plain (line_text l) (flat_map line_text ls) (line_plain l h.0) (lines_plain ls h.1)

pub more_lines : (a b : List (List ℕ)) → AllByRecursion IsPlain a → AllByRecursion IsPlain b → AllByRecursion IsPlain (a ++ b)
more_lines [] b h k = k
more_lines (l ∷ ls) b h k = (h.0, more_lines ls b h.1 k)

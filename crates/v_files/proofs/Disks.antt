-- What a file server knows of its disk: the blocks are whole, and what it asks for lies on it.
use Rattle.std.proofs.Common.{◌≡◌, ℕ, zero, suc, ◌+◌, ◌<◌, ◌≤◌, ◌==◌, ◌&&◌, ◌||◌, not, true, cond, nat_le, nat_lt, List, [], ◌∷◌, ◌++◌, length, take, drop, slice_get, slice_set, option_and_then, Option, Some, None, refl, ap, subst, ◌∙◌, arith, eqb-true, length-set, append_assoc}
use Rattle.std.proofs.lemmas.List.{length-append, length-take-le}
use Rattle.std.proofs.lemmas.Option.{none-some}
use Rattle.std.proofs.Math.Seq.{take-append_seam}
use Rattle.vk_types.specs.Types.{Answer, Message, Pid}
use Rattle.vk_base.specs.Messages.{grants_of}
use Rattle.vk_base.specs.declared.answer.Answer.TheVariants as answers
use Rattle.vk_base.specs.Ranges.{range_of, bytes_in, with_bytes}
use Rattle.vk_base.proofs.BoolLemmas.{or_rest}
use Rattle.vk_files.proofs.Choices.{both, either, found_first, found_second}
use Rattle.vk_files.proofs.Placing.{after_placed, files_there, turn_fine}
use Rattle.vk_files.specs.Disks.{block_at}
use Rattle.vk_files.specs.Messages.{code_of, file_of, name_of, page_of}
use Rattle.vk_files.specs.Placed.{AreOnDisk, IsOnDisk, IsPlaced}
use Rattle.vk_files.specs.Servers.{Server, answered, asked_to_load, asked_to_read, asked_to_write, between, blocks_after, gathered, loaded, moved, new_server, one_more, opened, page_in, received, refused, taken, turn_at, work_of}
use Rattle.vk_files.specs.Tasks.{answered_all, server_after}
use Rattle.vk_files.specs.Volumes.{are_zeros, blocks_for, ends_in_zeros, file_at, file_from, file_named, files_of, first_bad_behind, is_free, is_lawful, is_taken, lies_on}
use Rattle.vk_files.specs.declared.disk.Telling.{Telling}
use Rattle.vk_files.specs.declared.disk.Telling.TheVariants.{Done, Lost, Landed}
use Rattle.vk_files.specs.declared.entry.Entry.{Entry}
use Rattle.vk_files.specs.declared.entry.File.{File}
use Rattle.vk_files.specs.declared.limits.TheConstants.{BLOCK_BYTES, FILE_BYTES}
use Rattle.vk_files.specs.declared.serving.FileServing.{FileServing}
use Rattle.vk_files.specs.declared.serving.FileServing.TheVariants as stages
use Rattle.vk_files.specs.declared.serving.Turn.{Turn}
use Rattle.vk_files.specs.declared.serving.Turn.TheVariants as turns
use Rattle.v_files.specs.Volumes.{IsVolume, blocks_from}

-- One answer more.
answered_more : (files : List Entry) (requests : ℕ) (telling : List Answer → Telling) (s : Server) (behind given : List Answer)
    (a : Answer) → answered_all files requests telling s behind (given ++ a ∷ []) ≡
    answered files requests (answered_all files requests telling s behind given) (telling (behind ++ (given ++ a ∷ []))) a
answered_more files requests telling s behind [] a = refl
answered_more files requests telling s behind (b ∷ rest) a =
    let next = answered files requests s (telling (behind ++ b ∷ [])) b in
    let more = behind ++ b ∷ [] in
    answered_more files requests telling next more rest a
    ∙ ap (λ (g : List Answer). answered files requests (answered_all files requests telling next more rest) (telling g) a)
    (append_assoc behind (b ∷ []) (rest ++ a ∷ []))

pub server_more : (blocks : List (List ℕ)) (requests : ℕ) (telling : List Answer → Telling) (given : List Answer) (a : Answer) →
    server_after blocks requests telling (given ++ a ∷ []) ≡
    answered (files_of blocks) requests (server_after blocks requests telling given) (telling (given ++ a ∷ [])) a
server_more blocks requests telling given a =
    answered_more (files_of blocks) requests telling (new_server blocks requests) [] given a

-- Each block is whole.
abbrev pub AreWhole : List (List ℕ) → Type 0
AreWhole blocks = (n : ℕ) → n < length blocks → length (block_at blocks n) ≡ BLOCK_BYTES

whole_set : (blocks : List (List ℕ)) (i n : ℕ) (bytes : List ℕ) → length bytes ≡ BLOCK_BYTES →
    (n < length blocks → length (block_at blocks n) ≡ BLOCK_BYTES) → n < length blocks →
    length (block_at (slice_set blocks i bytes) n) ≡ BLOCK_BYTES
whole_set [] i n bytes size was less = absurd (omega arith)
whole_set (b ∷ bs) zero zero bytes size was less = size
whole_set (b ∷ bs) zero (suc n) bytes size was less = was less
whole_set (b ∷ bs) (suc i) zero bytes size was less = was less
whole_set (b ∷ bs) (suc i) (suc n) bytes size was less = whole_set bs i n bytes size (λ fewer. was (omega arith)) (omega arith)

set_whole : (blocks : List (List ℕ)) (i : ℕ) (bytes : List ℕ) → length bytes ≡ BLOCK_BYTES → AreWhole blocks →
    AreWhole (slice_set blocks i bytes)
set_whole blocks i bytes size whole n less =
    whole_set blocks i n bytes size (whole n) (subst (λ m. n < m) (length-set blocks i bytes) less)

-- what a turn writes, if it writes, is such bytes
abbrev pub IfWrites : (List ℕ → Type 0) → Turn → Type 0
IfWrites P (turns.Goes next) = Unit {0}
IfWrites P (turns.GoesAhead f page next) = Unit {0}
IfWrites P (turns.FetchPage from f page dest) = Unit {0}
IfWrites P (turns.FetchPart from f at dest) = Unit {0}
IfWrites P (turns.WritePage from f page bytes) = P bytes

abbrev WritesWhole : Turn → Type 0
WritesWhole turn = IfWrites (λ bytes. length bytes ≡ BLOCK_BYTES) turn

blocks_whole : (turn : Turn) (t : Telling) (blocks : List (List ℕ)) → WritesWhole turn → AreWhole blocks →
    AreWhole (blocks_after (work_of turn) t blocks)
blocks_whole (turns.Goes next) t blocks writes whole = whole
blocks_whole (turns.GoesAhead f page next) t blocks writes whole = whole
blocks_whole (turns.FetchPage from f page dest) t blocks writes whole = whole
blocks_whole (turns.FetchPart from f at dest) t blocks writes whole = whole
blocks_whole (turns.WritePage from f page bytes) Done blocks writes whole = set_whole blocks (f.start + page) bytes writes whole
blocks_whole (turns.WritePage from f page bytes) Lost blocks writes whole = whole
blocks_whole (turns.WritePage from f page bytes) Landed blocks writes whole = set_whole blocks (f.start + page) bytes writes whole

pub blocks_still : (turn : Turn) (t : Telling) (blocks : List (List ℕ)) → IfWrites (λ bytes. ⊥) turn →
    blocks_after (work_of turn) t blocks ≡ blocks
blocks_still (turns.Goes next) t blocks none = refl
blocks_still (turns.GoesAhead f page next) t blocks none = refl
blocks_still (turns.FetchPage from f page dest) t blocks none = refl
blocks_still (turns.FetchPart from f at dest) t blocks none = refl
blocks_still (turns.WritePage from f page bytes) t blocks none = absurd none

blocks_count : (turn : Turn) (t : Telling) (blocks : List (List ℕ)) → length (blocks_after (work_of turn) t blocks) ≡ length blocks
blocks_count (turns.Goes next) t blocks = refl
blocks_count (turns.GoesAhead f page next) t blocks = refl
blocks_count (turns.FetchPage from f page dest) t blocks = refl
blocks_count (turns.FetchPart from f at dest) t blocks = refl
blocks_count (turns.WritePage from f page bytes) Done blocks = length-set blocks (f.start + page) bytes
blocks_count (turns.WritePage from f page bytes) Lost blocks = refl
blocks_count (turns.WritePage from f page bytes) Landed blocks = length-set blocks (f.start + page) bytes

opened_writes : (P : List ℕ → Type 0) (from : Pid) (o : Option File) → IfWrites P (opened from o)
opened_writes P from None = tt
opened_writes P from (Some f) = tt

read_writes : (P : List ℕ → Type 0) (from : Pid) (m : Message) (o : Option File) → IfWrites P (asked_to_read from m o)
read_writes P from m None = tt
read_writes P from m (Some f) =
    let may = (grants_of m).write && nat_le BLOCK_BYTES (grants_of m).range.len in
    let fetch = turns.FetchPage from f (page_of m) (grants_of m).range.start in
    either (IfWrites P) (nat_le f.blocks (page_of m)) (refused from 1) (cond may fetch (refused from 2)) (λ _. tt)
    (λ _. either (IfWrites P) may fetch (refused from 2) (λ _. tt) (λ _. tt))

write_writes : (P : List ℕ → Type 0) (from : Pid) (m : Message) (o : Option File) → IfWrites P (asked_to_write from m o)
write_writes P from m None = tt
write_writes P from m (Some f) =
    let may = (grants_of m).read && (grants_of m).range.len == BLOCK_BYTES in
    let load = turns.Goes (stages.Load from f (page_of m)) in
    either (IfWrites P) (nat_le f.blocks (page_of m)) (refused from 1) (cond may load (refused from 2)) (λ _. tt)
    (λ _. either (IfWrites P) may load (refused from 2) (λ _. tt) (λ _. tt))

gathered_writes : (P : List ℕ → Type 0) (from : Pid) (f : File) (at dest : ℕ) → IfWrites P (gathered from f at dest)
gathered_writes P from f at dest =
    either (IfWrites P) (nat_lt at f.blocks) (turns.FetchPart from f at dest) (turns.Goes (stages.Move from f dest)) (λ _. tt) (λ _. tt)

load_writes : (P : List ℕ → Type 0) (from : Pid) (m : Message) (o : Option File) → IfWrites P (asked_to_load from m o)
load_writes P from m None = tt
load_writes P from m (Some f) =
    either (IfWrites P) ((grants_of m).write && nat_le f.length (grants_of m).range.len) (gathered from f 0 (grants_of m).range.start)
    (refused from 2) (λ _. gathered_writes P from f 0 (grants_of m).range.start) (λ _. tt)

taken_writes : (P : List ℕ → Type 0) (files : List Entry) (from : Pid) (m : Message) → IfWrites P (taken files from m)
taken_writes P files from m =
    let f = file_at files (file_of m) in
    let bad = refused from 2 in
    let load = cond (code_of m == 6) (asked_to_load from m f) bad in
    let write = cond (code_of m == 5) (asked_to_write from m f) load in
    let read = cond (code_of m == 4) (asked_to_read from m f) write in
    either (IfWrites P) (code_of m == 3) (opened from (file_named files (name_of m))) read
    (λ _. opened_writes P from (file_named files (name_of m)))
    (λ _. either (IfWrites P) (code_of m == 4) (asked_to_read from m f) write (λ _. read_writes P from m f)
    (λ _. either (IfWrites P) (code_of m == 5) (asked_to_write from m f) load (λ _. write_writes P from m f)
    (λ _. either (IfWrites P) (code_of m == 6) (asked_to_load from m f) bad (λ _. load_writes P from m f) (λ _. tt))))

received_writes : (P : List ℕ → Type 0) (files : List Entry) (a : Answer) → IfWrites P (received files a)
received_writes P files (answers.ReceivedSegment from m n) = taken_writes P files from m
received_writes P files _ = tt

loaded_writes : (P : List ℕ → Type 0) (from : Pid) (f : File) (page : ℕ) (a : Answer) →
    ((bytes : List ℕ) → length bytes ≡ BLOCK_BYTES → P bytes) → IfWrites P (loaded from f page (page_in a))
loaded_writes P from f page (answers.Loaded bytes) such =
    either (λ (o : Option (List ℕ)). IfWrites P (loaded from f page o)) (length bytes == BLOCK_BYTES) (Some bytes) None
    (λ t. such bytes (eqb-true (length bytes) BLOCK_BYTES t)) (λ _. tt)
loaded_writes P from f page _ such = tt

moved_writes : (P : List ℕ → Type 0) (from : Pid) (f : File) (a : Answer) → IfWrites P (moved from f a)
moved_writes P from f answers.Ok = tt
moved_writes P from f _ = tt

-- only a page that was loaded is written
pub turn_writes : (P : List ℕ → Type 0) (files : List Entry) (requests replies : ℕ) (stage : FileServing) (a : Answer) →
    ((from : Pid) (f : File) (page : ℕ) (bytes : List ℕ) → stage ≡ stages.Load from f page → length bytes ≡ BLOCK_BYTES → P bytes) →
    IfWrites P (turn_at files requests replies stage a)
turn_writes P files requests replies stages.Receive a such = received_writes P files a
turn_writes P files requests replies (stages.Load from f page) a such =
    loaded_writes P from f page a (λ bytes size. such from f page bytes refl size)
turn_writes P files requests replies (stages.Store from f page dest bytes) a such = tt
turn_writes P files requests replies (stages.ReplyPage from f page dest) a such =
    let next = between requests (one_more requests replies) in
    either (IfWrites P) (nat_lt (page + 1) f.blocks) (turns.GoesAhead f (page + 1) next) (turns.Goes next) (λ _. tt) (λ _. tt)
turn_writes P files requests replies (stages.Gather from f at dest bytes) a such = gathered_writes P from f (at + 1) dest
turn_writes P files requests replies (stages.Move from f dest) a such = moved_writes P from f a
turn_writes P files requests replies (stages.Reply from code file number) a such = tt
turn_writes P files requests replies stages.Exit a such = tt
turn_writes P files requests replies stages.Ended a such = tt

-- What holds of a server after any answers.
pub record IsServerFit (count : ℕ) (s : Server) : Type 0 where
  pub size : length s.blocks ≡ count
  pub whole : AreWhole s.blocks
  pub placed : IsPlaced count s.stage

fit_step : (count : ℕ) (files : List Entry) (requests : ℕ) (s : Server) (t : Telling) (a : Answer) → AreOnDisk count files → IsServerFit count s →
    IsServerFit count (answered files requests s t a)
fit_step count files requests s t a on fit =
    let turn = turn_at files requests s.replies s.stage a in
    record {
      size = blocks_count turn t s.blocks ∙ fit.size;
      whole = blocks_whole turn t s.blocks
          (turn_writes (λ bytes. length bytes ≡ BLOCK_BYTES) files requests s.replies s.stage a (λ from f page bytes is size. size)) fit.whole;
      placed = after_placed count turn t s.blocks (turn_fine count files requests s.replies s.stage a on fit.placed).reach;
    }

fit_all : (count : ℕ) (files : List Entry) (requests : ℕ) (telling : List Answer → Telling) (s : Server) (behind given : List Answer) →
    AreOnDisk count files → IsServerFit count s → IsServerFit count (answered_all files requests telling s behind given)
fit_all count files requests telling s behind [] on fit = fit
fit_all count files requests telling s behind (a ∷ rest) on fit =
    fit_all count files requests telling (answered files requests s (telling (behind ++ a ∷ [])) a) (behind ++ a ∷ []) rest on
    (fit_step count files requests s (telling (behind ++ a ∷ [])) a on fit)

pub server_fit : (blocks : List (List ℕ)) (requests : ℕ) (telling : List Answer → Telling) (given : List Answer) → IsVolume blocks →
    IsServerFit (length blocks) (server_after blocks requests telling given)
server_fit blocks requests telling given volume =
    let count = length blocks in
    let files = files_of blocks in
    fit_all count files requests telling (new_server blocks requests) [] given (files_there count files volume.lawful)
    (record {
      size = refl;
      whole = volume.whole;
      placed = either (IsPlaced count) (0 == requests) stages.Exit stages.Receive (λ _. tt) (λ _. tt);
    })

-- A file of a lawful directory lies on the disk, and has as many blocks as its bytes want.
pub record IsFileOn (count : ℕ) (f : File) : Type 0 where
  pub on : IsOnDisk count f
  pub blocks : f.blocks ≡ blocks_for f.length

lawful_blocks : (count number : ℕ) (before : List Entry) (e : Entry) (f : File) → (is_free e || is_lawful count before e) ≡ true →
    file_from number e ≡ Some f → f.blocks ≡ blocks_for f.length
lawful_blocks count number before e f fine is =
    let made : File = record { number = number; start = e.start; blocks = e.blocks; length = e.length } in
    let parts = found_second (is_free e) made f is in
    let lawful = or_rest (is_free e) (is_lawful count before e) fine parts.0 in
    let long = not (are_zeros e.name) && ends_in_zeros e.name && nat_le 1 e.start && nat_le e.length FILE_BYTES in
    let whole = long && e.blocks == blocks_for e.length in
    let a = both (whole && lies_on count e) (not (is_taken before e)) lawful in
    let c = both long (e.blocks == blocks_for e.length) (both whole (lies_on count e) a.0).0 in
    subst (λ (z : File). z.blocks ≡ blocks_for z.length) parts.1 (eqb-true e.blocks (blocks_for e.length) c.1)

each_blocks : (count : ℕ) (earlier rest : List Entry) → first_bad_behind count earlier rest ≡ None → (n number : ℕ) (f : File) →
    option_and_then (file_from number) (slice_get rest n) ≡ Some f → f.blocks ≡ blocks_for f.length
each_blocks count earlier [] none zero number f is = absurd (none-some f is)
each_blocks count earlier [] none (suc n) number f is = absurd (none-some f is)
each_blocks count earlier (x ∷ rest) none zero number f is =
    let parts = found_first (is_free x || is_lawful count earlier x) (first_bad_behind count (earlier ++ x ∷ []) rest) (length earlier) none
    in
    lawful_blocks count number earlier x f parts.0 is
each_blocks count earlier (x ∷ rest) none (suc n) number f is =
    let parts = found_first (is_free x || is_lawful count earlier x) (first_bad_behind count (earlier ++ x ∷ []) rest) (length earlier) none
    in
    each_blocks count (earlier ++ x ∷ []) rest parts.1 n number f is

pub file_on : (blocks : List (List ℕ)) (number : ℕ) (f : File) → IsVolume blocks → file_at (files_of blocks) number ≡ Some f →
    IsFileOn (length blocks) f
file_on blocks number f volume is = record {
  on = files_there (length blocks) (files_of blocks) volume.lawful number f is;
  blocks = each_blocks (length blocks) [] (files_of blocks) volume.lawful number number f is;
}

-- Blocks that are put one behind the other.
pub blocks_none : (blocks : List (List ℕ)) (start : ℕ) → blocks_from blocks start 0 ≡ []
unfolding blocks_from
blocks_none blocks start = refl

pub blocks_more : (blocks : List (List ℕ)) (start n : ℕ) →
    blocks_from blocks start (n + 1) ≡ blocks_from blocks start n ++ block_at blocks (start + n)
unfolding blocks_from
blocks_more blocks start n = let one : n + 1 ≡ suc n = omega arith in ap (blocks_from blocks start) one

pub front_more : (memory bytes : List ℕ) (at : ℕ) → at ≤ length memory →
    bytes_in (range_of 0 (at + length bytes)) (with_bytes memory at bytes) ≡ bytes_in (range_of 0 at) memory ++ bytes
front_more memory bytes at within =
    let front = length-take-le at memory within in
    let size : at + length bytes ≡ length (take at memory ++ bytes) =
    (let all = length-append (take at memory) bytes in omega arith) in
    ap (λ n. take n (with_bytes memory at bytes)) size
    ∙ take-append_seam (take at memory ++ bytes) (drop (at + length bytes) memory)

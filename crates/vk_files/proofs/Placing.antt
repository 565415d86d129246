-- What a server of a lawful directory asks for lies on its disk; and it replies that the disk failed only where the disk did.
use Rattle.std.proofs.Common.{◌≡◌, ℕ, zero, suc, ◌+◌, ◌<◌, ◌≤◌, ◌==◌, ◌&&◌, ◌||◌, not, Bool, true, false, cond, nat_lt, nat_le, List, [], ◌∷◌, ◌++◌, slice_get, slice_index, option_and_then, Option, Some, None, refl, ap, subst, arith, ltb-true, leb-true, leb-false, eqb-true, ne_eqb}
use Rattle.vk_types.specs.Types.{Answer, Message, Pid}
use Rattle.vk_base.specs.Messages.{grants_of}
use Rattle.vk_base.specs.declared.answer.Answer.TheVariants as answers
use Rattle.vk_base.specs.declared.call.Call.TheVariants as calls
use Rattle.vk_base.proofs.BoolLemmas.{or_rest}
use Rattle.vk_io.specs.Causes.{Rose}
use Rattle.vk_files.proofs.Choices.{either, both, found_first, found_second}
use Rattle.vk_files.specs.Ahead.{IsCalledIf, calls_disk, is_ahead}
use Rattle.vk_files.specs.Disks.{DiskState, is_done}
use Rattle.vk_files.specs.Messages.{code_of, file_of, name_of, page_of, reply_of}
use Rattle.vk_files.specs.Placed.{AreOnDisk, IsInReach, IsOnDisk, IsPageOn, IsPlaced}
use Rattle.vk_files.specs.Servers.{FetchesAhead, asked_to_load, asked_to_read, asked_to_write, between, gathered, is_failure, loaded, moved, one_more, opened, page_in, received, refused, stage_after, stage_call, taken, turn_at, went_on, work_of}
use Rattle.vk_files.specs.Volumes.{are_zeros, blocks_for, ends_in_zeros, file_at, file_from, file_named, first_bad, first_bad_behind, is_free, is_lawful, is_taken, lies_on}
use Rattle.vk_files.specs.declared.disk.Telling.{Telling}
use Rattle.vk_files.specs.declared.disk.Telling.TheVariants.{Done, Lost, Landed}
use Rattle.vk_files.specs.declared.entry.Entry.{Entry}
use Rattle.vk_files.specs.declared.entry.File.{File}
use Rattle.vk_files.specs.declared.limits.TheConstants.{BLOCK_BYTES, FILE_BYTES}
use Rattle.vk_files.specs.declared.serving.FileServing.{FileServing}
use Rattle.vk_files.specs.declared.serving.FileServing.TheVariants as stages
use Rattle.vk_files.specs.declared.serving.Turn.{Turn}
use Rattle.vk_files.specs.declared.serving.Turn.TheVariants as turns

-- no turn says so by itself
abbrev pub IsCalm : Turn → Type 0
IsCalm (turns.Goes next) = is_failure next ≡ false
IsCalm (turns.GoesAhead f page next) = is_failure next ≡ false
IsCalm (turns.FetchPage from f page dest) = Unit {0}
IsCalm (turns.FetchPart from f at dest) = Unit {0}
IsCalm (turns.WritePage from f page bytes) = Unit {0}

pub record IsFine (count : ℕ) (turn : Turn) : Type 0 where
  pub reach : IsInReach count turn
  pub calm : IsCalm turn

-- Each turn is fine, by what the server does.

opened_fine : (count : ℕ) (from : Pid) (o : Option File) → IsFine count (opened from o)
opened_fine count from None = record { reach = tt; calm = refl }
opened_fine count from (Some f) = record { reach = tt; calm = refl }

read_fine : (count : ℕ) (from : Pid) (m : Message) (o : Option File) → ((f : File) → o ≡ Some f → IsOnDisk count f)
    → IsFine count (asked_to_read from m o)
read_fine count from m None on = record { reach = tt; calm = refl }
read_fine count from m (Some f) on =
    either (IsFine count) (nat_le f.blocks (page_of m)) (refused from 1)
    (cond ((grants_of m).write && nat_le BLOCK_BYTES (grants_of m).range.len)
    (turns.FetchPage from f (page_of m) (grants_of m).range.start) (refused from 2))
    (λ _. record { reach = tt; calm = refl })
    (λ within. either (IsFine count) ((grants_of m).write && nat_le BLOCK_BYTES (grants_of m).range.len)
    (turns.FetchPage from f (page_of m) (grants_of m).range.start) (refused from 2)
    (λ _. record { reach = record { file = on f refl; within = leb-false f.blocks (page_of m) within }; calm = tt })
    (λ _. record { reach = tt; calm = refl }))

write_fine : (count : ℕ) (from : Pid) (m : Message) (o : Option File) → ((f : File) → o ≡ Some f → IsOnDisk count f)
    → IsFine count (asked_to_write from m o)
write_fine count from m None on = record { reach = tt; calm = refl }
write_fine count from m (Some f) on =
    either (IsFine count) (nat_le f.blocks (page_of m)) (refused from 1)
    (cond ((grants_of m).read && (grants_of m).range.len == BLOCK_BYTES) (turns.Goes (stages.Load from f (page_of m)))
    (refused from 2))
    (λ _. record { reach = tt; calm = refl })
    (λ within. either (IsFine count) ((grants_of m).read && (grants_of m).range.len == BLOCK_BYTES)
    (turns.Goes (stages.Load from f (page_of m))) (refused from 2)
    (λ _. record { reach = record { file = on f refl; within = leb-false f.blocks (page_of m) within }; calm = refl })
    (λ _. record { reach = tt; calm = refl }))

gathered_fine : (count : ℕ) (from : Pid) (f : File) (at dest : ℕ) → IsOnDisk count f → IsFine count (gathered from f at dest)
gathered_fine count from f at dest on =
    either (IsFine count) (nat_lt at f.blocks) (turns.FetchPart from f at dest) (turns.Goes (stages.Move from f dest))
    (λ within. record { reach = record { file = on; within = ltb-true at f.blocks within }; calm = tt })
    (λ _. record { reach = tt; calm = refl })

load_fine : (count : ℕ) (from : Pid) (m : Message) (o : Option File) → ((f : File) → o ≡ Some f → IsOnDisk count f)
    → IsFine count (asked_to_load from m o)
load_fine count from m None on = record { reach = tt; calm = refl }
load_fine count from m (Some f) on =
    either (IsFine count) ((grants_of m).write && nat_le f.length (grants_of m).range.len)
    (gathered from f 0 (grants_of m).range.start) (refused from 2)
    (λ _. gathered_fine count from f 0 (grants_of m).range.start (on f refl))
    (λ _. record { reach = tt; calm = refl })

taken_fine : (count : ℕ) (files : List Entry) (from : Pid) (m : Message) → AreOnDisk count files → IsFine count (taken files from m)
taken_fine count files from m on =
    let f = file_at files (file_of m) in
    let bad = refused from 2 in
    let load = cond (code_of m == 6) (asked_to_load from m f) bad in
    let write = cond (code_of m == 5) (asked_to_write from m f) load in
    let read = cond (code_of m == 4) (asked_to_read from m f) write in
    either (IsFine count) (code_of m == 3) (opened from (file_named files (name_of m))) read
    (λ _. opened_fine count from (file_named files (name_of m)))
    (λ _. either (IsFine count) (code_of m == 4) (asked_to_read from m f) write
    (λ _. read_fine count from m f (on (file_of m)))
    (λ _. either (IsFine count) (code_of m == 5) (asked_to_write from m f) load
    (λ _. write_fine count from m f (on (file_of m)))
    (λ _. either (IsFine count) (code_of m == 6) (asked_to_load from m f) bad
    (λ _. load_fine count from m f (on (file_of m)))
    (λ _. record { reach = tt; calm = refl }))))

received_fine : (count : ℕ) (files : List Entry) (a : Answer) → AreOnDisk count files → IsFine count (received files a)
received_fine count files (answers.ReceivedSegment from m n) on = taken_fine count files from m on
received_fine count files _ on = record { reach = tt; calm = refl }

loaded_fine : (count : ℕ) (from : Pid) (f : File) (page : ℕ) (o : Option (List ℕ)) → IsPageOn count f page
    → IsFine count (loaded from f page o)
loaded_fine count from f page None on = record { reach = tt; calm = refl }
loaded_fine count from f page (Some bytes) on = record { reach = on; calm = tt }

moved_fine : (count : ℕ) (from : Pid) (f : File) (a : Answer) → IsFine count (moved from f a)
moved_fine count from f answers.Ok = record { reach = tt; calm = refl }
moved_fine count from f _ = record { reach = tt; calm = refl }

-- behind a reply it receives, or ends
pub between_placed : (count requests replies : ℕ) → IsPlaced count (between requests replies)
between_placed count requests replies = either (IsPlaced count) (replies == requests) stages.Exit stages.Receive (λ _. tt) (λ _. tt)

between_calm : (requests replies : ℕ) → is_failure (between requests replies) ≡ false
between_calm requests replies =
    either (λ (s : FileServing). is_failure s ≡ false) (replies == requests) stages.Exit stages.Receive (λ _. refl) (λ _. refl)

went_on_fine : (count : ℕ) (f : File) (page requests replies : ℕ) → IsOnDisk count f
    → IsFine count (went_on f page (between requests replies))
went_on_fine count f page requests replies on =
    let next = between requests replies in
    either (IsFine count) (nat_lt (page + 1) f.blocks) (turns.GoesAhead f (page + 1) next) (turns.Goes next)
    (λ within. record {
      reach = (record { file = on; within = ltb-true (page + 1) f.blocks within }, between_placed count requests replies);
      calm = between_calm requests replies;
    })
    (λ _. record { reach = between_placed count requests replies; calm = between_calm requests replies })

pub turn_fine : (count : ℕ) (files : List Entry) (requests replies : ℕ) (stage : FileServing) (a : Answer) → AreOnDisk count files
    → IsPlaced count stage → IsFine count (turn_at files requests replies stage a)
turn_fine count files requests replies stages.Receive a on placed = received_fine count files a on
turn_fine count files requests replies (stages.Load from f page) a on placed = loaded_fine count from f page (page_in a) placed
turn_fine count files requests replies (stages.Store from f page dest bytes) a on placed = record { reach = placed; calm = refl }
turn_fine count files requests replies (stages.ReplyPage from f page dest) a on placed =
    went_on_fine count f page requests (one_more requests replies) placed.file
turn_fine count files requests replies (stages.Gather from f at dest bytes) a on placed =
    gathered_fine count from f (at + 1) dest placed.file
turn_fine count files requests replies (stages.Move from f dest) a on placed = moved_fine count from f a
turn_fine count files requests replies (stages.Reply from code file number) a on placed =
    record { reach = between_placed count requests (one_more requests replies); calm = between_calm requests (one_more requests replies) }
turn_fine count files requests replies stages.Exit a on placed = record { reach = tt; calm = refl }
turn_fine count files requests replies stages.Ended a on placed = record { reach = tt; calm = refl }

-- and so is what it does then
pub after_placed : (count : ℕ) (turn : Turn) (t : Telling) (blocks : List (List ℕ)) → IsInReach count turn
    → IsPlaced count (stage_after turn t blocks)
after_placed count (turns.Goes next) t blocks on = on
after_placed count (turns.GoesAhead f page next) t blocks on = on.1
after_placed count (turns.FetchPage from f page dest) Done blocks on = on
after_placed count (turns.FetchPage from f page dest) Lost blocks on = tt
after_placed count (turns.FetchPage from f page dest) Landed blocks on = tt
after_placed count (turns.FetchPart from f at dest) Done blocks on = on
after_placed count (turns.FetchPart from f at dest) Lost blocks on = tt
after_placed count (turns.FetchPart from f at dest) Landed blocks on = tt
after_placed count (turns.WritePage from f page bytes) Done blocks on = tt
after_placed count (turns.WritePage from f page bytes) Lost blocks on = tt
after_placed count (turns.WritePage from f page bytes) Landed blocks on = tt

-- A reply that the disk failed: the disk was called, and its count rose.

told_rose : (b : Bool) (t : Telling) (old new : DiskState) → is_done t ≡ false → IsCalledIf b t old new → Rose old.faults new.faults
told_rose b Done old new failed called = absurd (cc)
told_rose true Lost old new failed called = called.counted.1
told_rose true Landed old new failed called = called.counted.1
told_rose false Lost old new failed called = absurd (cc (called.0))
told_rose false Landed old new failed called = absurd (cc (called.0))

pub failure_rose : (turn : Turn) (t : Telling) (blocks : List (List ℕ)) (ahead : Option ℕ) (old new : DiskState) → IsCalm turn
    → IsCalledIf (calls_disk ahead (work_of turn)) t old new → is_failure (stage_after turn t blocks) ≡ true → Rose old.faults new.faults
failure_rose (turns.Goes next) t blocks ahead old new calm called is = absurd (cc)
failure_rose (turns.GoesAhead f page next) t blocks ahead old new calm called is = absurd (cc)
failure_rose (turns.FetchPage from f page dest) Done blocks ahead old new calm called is = absurd (cc)
failure_rose (turns.FetchPage from f page dest) Lost blocks ahead old new calm called is =
    told_rose (not (is_ahead ahead (f.start + page))) Lost old new refl called
failure_rose (turns.FetchPage from f page dest) Landed blocks ahead old new calm called is =
    told_rose (not (is_ahead ahead (f.start + page))) Landed old new refl called
failure_rose (turns.FetchPart from f at dest) Done blocks ahead old new calm called is = absurd (cc)
failure_rose (turns.FetchPart from f at dest) Lost blocks ahead old new calm called is =
    told_rose (not (is_ahead ahead (f.start + at))) Lost old new refl called
failure_rose (turns.FetchPart from f at dest) Landed blocks ahead old new calm called is =
    told_rose (not (is_ahead ahead (f.start + at))) Landed old new refl called
failure_rose (turns.WritePage from f page bytes) Done blocks ahead old new calm called is = absurd (cc)
failure_rose (turns.WritePage from f page bytes) Lost blocks ahead old new calm called is = told_rose true Lost old new refl called
failure_rose (turns.WritePage from f page bytes) Landed blocks ahead old new calm called is = told_rose true Landed old new refl called

-- no turn that fetches a block ahead makes one
pub failure_asked : (turn : Turn) (t : Telling) (blocks : List (List ℕ)) → IsCalm turn → is_failure (stage_after turn t blocks) ≡ true
    → (block : ℕ) → work_of turn ≡ FetchesAhead block → ⊥
failure_asked (turns.Goes next) t blocks calm is block asked = cc
failure_asked (turns.GoesAhead f page next) t blocks calm is block asked = cc
failure_asked (turns.FetchPage from f page dest) t blocks calm is block asked = cc
failure_asked (turns.FetchPart from f at dest) t blocks calm is block asked = cc
failure_asked (turns.WritePage from f page bytes) t blocks calm is block asked = cc

-- the or_rest byte of a reply is its code
code_is : (code file number : ℕ) (from to : Pid)
    → Some (calls.Reply (reply_of code file number) from) ≡ Some (calls.Reply (reply_of 3 0 0) to)
    → code ≡ 3
code_is code file number from to h =
    let same : reply_of code file number ≡ reply_of 3 0 0 = cc in
    ap (λ (m : Message). slice_index m.0 1) same

pub failure_called : (stage : FileServing) (from : Pid) → stage_call stage ≡ Some (calls.Reply (reply_of 3 0 0) from) → is_failure stage ≡ true
failure_called stages.Receive from h = absurd (cc)
failure_called (stages.Load to f page) from h = absurd (cc)
failure_called (stages.Store to f page dest bytes) from h = absurd (cc)
failure_called (stages.ReplyPage to f page dest) from h = absurd (cc)
failure_called (stages.Gather to f at dest bytes) from h = absurd (cc)
failure_called (stages.Move to f dest) from h = absurd (cc)
failure_called (stages.Reply to code file number) from h = ap (λ (n : ℕ). n == 3) (code_is code file number to from h)
failure_called stages.Exit from h = absurd (cc)
failure_called stages.Ended from h = absurd (cc)

-- The files of a directory without a bad entry lie on the disk.

few_blocks : (blocks length : ℕ) → blocks ≡ blocks_for length → length ≤ FILE_BYTES → blocks ≤ 128
few_blocks blocks length h few = omega arith

lies_there : (start blocks count page : ℕ) → (blocks == 0 || nat_le (start + blocks) count) ≡ true → page < blocks → start + page < count
lies_there start blocks count page h within =
    let some : (blocks == 0) ≡ false = ne_eqb blocks 0 (λ none. omega arith) in
    let ends : start + blocks ≤ count = leb-true (start + blocks) count (or_rest (blocks == 0) (nat_le (start + blocks) count) h some) in
    omega arith

-- a lawful entry
entry_there : (count number : ℕ) (before : List Entry) (e : Entry) → is_lawful count before e ≡ true
    → IsOnDisk count (record { number = number; start = e.start; blocks = e.blocks; length = e.length })
entry_there count number before e lawful =
    let named = not (are_zeros e.name) && ends_in_zeros e.name in
    let long = named && nat_le 1 e.start && nat_le e.length FILE_BYTES in
    let whole = long && e.blocks == blocks_for e.length in
    let a = both (whole && lies_on count e) (not (is_taken before e)) lawful in
    let b = both whole (lies_on count e) a.0 in
    let c = both long (e.blocks == blocks_for e.length) b.0 in
    let d = both (named && nat_le 1 e.start) (nat_le e.length FILE_BYTES) c.0 in
    record {
      few = few_blocks e.blocks e.length (eqb-true e.blocks (blocks_for e.length) c.1) (leb-true e.length FILE_BYTES d.1);
      there = λ page within. lies_there e.start e.blocks count page b.1 within;
    }

from_there : (count number : ℕ) (before : List Entry) (e : Entry) (f : File) → (is_free e || is_lawful count before e) ≡ true
    → file_from number e ≡ Some f → IsOnDisk count f
from_there count number before e f fine is =
    let made : File = record { number = number; start = e.start; blocks = e.blocks; length = e.length } in
    let parts = found_second (is_free e) made f is in
    subst (IsOnDisk count) parts.1 (entry_there count number before e (or_rest (is_free e) (is_lawful count before e) fine parts.0))

-- an entry that is free or lawful behind some others
record IsFineEntry (count : ℕ) (e : Entry) : Type 0 where
  before : List Entry
  fine : (is_free e || is_lawful count before e) ≡ true

each_fine : (count : ℕ) (earlier rest : List Entry) → first_bad_behind count earlier rest ≡ None → (n : ℕ) (e : Entry)
    → slice_get rest n ≡ Some e → IsFineEntry count e
each_fine count earlier [] none n e is = absurd (cc)
each_fine count earlier (x ∷ rest) none zero e is =
    let parts = found_first (is_free x || is_lawful count earlier x) (first_bad_behind count (earlier ++ x ∷ []) rest) _ none in
    let same : x ≡ e = cc in
    subst (IsFineEntry count) same (record { before = earlier; fine = parts.0 })
each_fine count earlier (x ∷ rest) none (suc n) e is =
    let parts = found_first (is_free x || is_lawful count earlier x) (first_bad_behind count (earlier ++ x ∷ []) rest) _ none in
    each_fine count (earlier ++ x ∷ []) rest parts.1 n e is

at_there : (count number : ℕ) (o : Option Entry) (f : File) → ((e : Entry) → o ≡ Some e → IsFineEntry count e)
    → option_and_then (file_from number) o ≡ Some f → IsOnDisk count f
at_there count number None f each is = absurd (cc)
at_there count number (Some e) f each is = from_there count number (each e refl).before e f (each e refl).fine is

pub files_there : (count : ℕ) (files : List Entry) → first_bad count files ≡ None → AreOnDisk count files
files_there count files none number f is =
    at_there count number (slice_get files number) f (λ e at. each_fine count [] files none number e at) is

-- What a file server does with a request, and with a block of a file that it loads.
use Rattle.std.proofs.Common.{◌≡◌, ℕ, suc, ◌*◌, ◌<◌, ◌≤◌, ◌==◌, ◌&&◌, Bool, true, false, cond, nat_le, nat_lt, List, [], ◌∷◌, ◌++◌, length, take, Option, Some, None, refl, sym, ap, subst, ◌∙◌, arith}
use Rattle.std.proofs.lemmas.Bool.{both_ways, eqb-true, ltb-false, ltb-true}
use Rattle.std.proofs.lemmas.List.{take-take}
use Rattle.vk_types.specs.Types.{Message, Pid, Process}
use Rattle.vk_base.specs.Kernel.{Kernel}
use Rattle.vk_base.specs.Messages.{grants_of}
use Rattle.vk_base.specs.Ranges.{range_of, bytes_in}
use Rattle.vk_files.proofs.Choices.{either}
use Rattle.vk_files.specs.Messages.{code_of, file_of, name_of, page_of}
use Rattle.vk_files.specs.Servers.{asked_to_load, asked_to_read, asked_to_write, gathered, opened, refused, taken}
use Rattle.vk_files.specs.Volumes.{blocks_for, file_at, file_named}
use Rattle.vk_files.specs.declared.disk.Telling.{Telling}
use Rattle.vk_files.specs.declared.disk.Telling.TheVariants.{Done, Lost, Landed}
use Rattle.vk_files.specs.declared.entry.Entry.{Entry}
use Rattle.vk_files.specs.declared.entry.File.{File}
use Rattle.vk_files.specs.declared.limits.TheConstants.{BLOCK_BYTES}
use Rattle.vk_files.specs.declared.serving.FileServing.TheVariants as stages
use Rattle.vk_files.specs.declared.serving.Turn.{Turn}
use Rattle.vk_files.specs.declared.serving.Turn.TheVariants as turns
use Rattle.v_pages.specs.Requests.{Request}
use Rattle.v_files.specs.Volumes.{blocks_from, file_bytes}
use Rattle.v_files.proofs.Disks.{IsFileOn, blocks_none}
use Rattle.v_files.proofs.Standing.{After, IsAnswering, IsForLoad, IsOther, IsServing}

-- A reply with another code than 0.
pub answers_otherwise : (files : List Entry) (blocks : List (List ℕ)) (all : List Request) (k : Kernel) (r from : Pid)
    (code number long : ℕ) → IsServing all from → (code ≡ 0 → ⊥) → IsAnswering files blocks all k r from code number long
answers_otherwise files blocks all k r from code number long serving other =
    record { serving = serving; loaded = λ load done. absurd (other done) }

-- A reply to a request that is for no load.
pub answers_other : (files : List Entry) (blocks : List (List ℕ)) (all : List Request) (k : Kernel) (r from : Pid)
    (code number long : ℕ) → IsOther all from → IsAnswering files blocks all k r from code number long
answers_other files blocks all k r from code number long o =
    record { serving = o.serving; loaded = λ load done. absurd (both_ways (code_of o.serving.request.message == 6) o.other load) }

pub not_zero : (n : ℕ) → suc n ≡ 0 → ⊥
not_zero n e = omega arith

-- The next block, or the move.
long_enough : (length blocks : ℕ) → blocks ≡ blocks_for length → length ≤ 512 * blocks
long_enough length blocks is = omega arith

pub few_bytes : (length blocks : ℕ) → blocks ≡ blocks_for length → blocks ≤ 128 → length ≤ 65536
few_bytes length blocks is few = omega arith

gathered_whole : (blocks : List (List ℕ)) (f : File) (memory : List ℕ) (at : ℕ) → f.length ≤ BLOCK_BYTES * f.blocks → at ≡ f.blocks →
    bytes_in (range_of 0 (BLOCK_BYTES * at)) memory ≡ blocks_from blocks f.start at →
    bytes_in (range_of 0 f.length) memory ≡ file_bytes blocks f
gathered_whole blocks f memory at long all front =
    sym (take-take f.length (BLOCK_BYTES * f.blocks) memory long)
    ∙ ap (take f.length) (subst (λ n. bytes_in (range_of 0 (BLOCK_BYTES * n)) memory ≡ blocks_from blocks f.start n) all front)

pub gathered_after : (count : ℕ) (files : List Entry) (r : Pid) (t : Telling) (blocks : List (List ℕ)) (all : List Request) (k : Kernel)
    (p : Process) (from : Pid) (f : File) (at dest : ℕ) → IsForLoad count files all from f dest → p.alive ≡ true → at ≤ f.blocks →
    bytes_in (range_of 0 (BLOCK_BYTES * at)) p.memory ≡ blocks_from blocks f.start at →
    After count files r t blocks all k p (gathered from f at dest)
gathered_after count files r t blocks all k p from f at dest load alive most front =
    either (After count files r t blocks all k p) (nat_lt at f.blocks) (turns.FetchPart from f at dest) (turns.Goes (stages.Move from f dest))
    (λ less. by_telling t (ltb-true at f.blocks less))
    (λ more. record {
      load = load;
      front = gathered_whole blocks f p.memory at (long_enough f.length f.blocks load.there.blocks)
          (let low = ltb-false at f.blocks more in omega arith) front;
    })
  where
    by_telling : (t : Telling) → at < f.blocks → After count files r t blocks all k p (turns.FetchPart from f at dest)
    by_telling Done less = record { load = load; within = less; alive = alive; front = front; next = refl }
    by_telling Lost less = answers_otherwise files blocks all k r from 3 0 0 load.serving (not_zero 2)
    by_telling Landed less = answers_otherwise files blocks all k r from 3 0 0 load.serving (not_zero 2)

-- A request.
pub asked : (count : ℕ) (files : List Entry) (r : Pid) (t : Telling) (blocks : List (List ℕ)) (all : List Request) (k : Kernel) (p : Process)
    (earlier : List Request) (q : Request) → all ≡ earlier ++ q ∷ [] → p.alive ≡ true →
    ((number : ℕ) (f : File) → file_at files number ≡ Some f → IsFileOn count f) →
    After count files r t blocks all k p (taken files q.name.sender q.message)
asked count files r t blocks all k p earlier q last alive lies =
    let f = file_at files (file_of m) in
    let bad = refused from 2 in
    let load = cond (code_of m == 6) (asked_to_load from m f) bad in
    let write = cond (code_of m == 5) (asked_to_write from m f) load in
    let read = cond (code_of m == 4) (asked_to_read from m f) write in
    choose (code_of m == 3) (opened from (file_named files (name_of m))) read
    (λ is. opening (other 3 is refl) (file_named files (name_of m)))
    (λ _. choose (code_of m == 4) (asked_to_read from m f) write (λ is. reading (other 4 is refl) f)
    (λ _. choose (code_of m == 5) (asked_to_write from m f) load (λ is. writing (other 5 is refl) f)
    (λ _. choose (code_of m == 6) (asked_to_load from m f) bad (λ _. loading f refl) (λ _. refuses 1))))
  where
    m : Message
    m = q.message

    from : Pid
    from = q.name.sender

    serving : IsServing all from
    serving = record { earlier = earlier; request = q; last = last; sender = refl }

    choose : (b : Bool) (x y : Turn) → (b ≡ true → After count files r t blocks all k p x) →
        (b ≡ false → After count files r t blocks all k p y) → After count files r t blocks all k p (cond b x y)
    choose b x y g h = either (After count files r t blocks all k p) b x y g h

    refuses : (code : ℕ) → After count files r t blocks all k p (refused from (suc code))
    refuses code = answers_otherwise files blocks all k r from (suc code) 0 0 serving (not_zero code)

    other : (code : ℕ) → (code_of m == code) ≡ true → (code == 6) ≡ false → IsOther all from
    other code is no_load =
        record { serving = serving; other = ap (λ n. n == 6) (eqb-true (code_of m) code is) ∙ no_load }

    opening : IsOther all from → (o : Option File) → After count files r t blocks all k p (opened from o)
    opening no_load None = refuses 0
    opening no_load (Some f) = answers_other files blocks all k r from 0 f.number f.length no_load

    fetching : IsOther all from → (f : File) (page dest : ℕ) (t : Telling) →
        After count files r t blocks all k p (turns.FetchPage from f page dest)
    fetching no_load f page dest Done = no_load
    fetching no_load f page dest Lost = answers_otherwise files blocks all k r from 3 0 0 serving (not_zero 2)
    fetching no_load f page dest Landed = answers_otherwise files blocks all k r from 3 0 0 serving (not_zero 2)

    reading : IsOther all from → (o : Option File) → After count files r t blocks all k p (asked_to_read from m o)
    reading no_load None = refuses 0
    reading no_load (Some f) =
        let may = (grants_of m).write && nat_le BLOCK_BYTES (grants_of m).range.len in
        let fetch = turns.FetchPage from f (page_of m) (grants_of m).range.start in
        choose (nat_le f.blocks (page_of m)) (refused from 1) (cond may fetch (refused from 2)) (λ _. refuses 0)
        (λ _. choose may fetch (refused from 2) (λ _. fetching no_load f (page_of m) (grants_of m).range.start t) (λ _. refuses 1))

    writing : IsOther all from → (o : Option File) → After count files r t blocks all k p (asked_to_write from m o)
    writing no_load None = refuses 0
    writing no_load (Some f) =
        let may = (grants_of m).read && (grants_of m).range.len == BLOCK_BYTES in
        let load = turns.Goes (stages.Load from f (page_of m)) in
        choose (nat_le f.blocks (page_of m)) (refused from 1) (cond may load (refused from 2)) (λ _. refuses 0)
        (λ _. choose may load (refused from 2) (λ _. no_load) (λ _. refuses 1))

    loading : (o : Option File) → file_at files (file_of m) ≡ o → After count files r t blocks all k p (asked_to_load from m o)
    loading None at = refuses 0
    loading (Some f) at =
        choose ((grants_of m).write && nat_le f.length (grants_of m).range.len) (gathered from f 0 (grants_of m).range.start)
        (refused from 2)
        (λ _. gathered_after count files r t blocks all k p from f 0 (grants_of m).range.start
        (record { serving = serving; asked = at; place = refl; there = lies (file_of m) f at }) alive (omega arith)
        (sym (blocks_none blocks f.start)))
        (λ _. refuses 1)

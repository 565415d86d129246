-- Bytes behind the end of a memory are not written.
use Rattle.std.proofs.Common.{◌≡◌, ℕ, ◌+◌, Bool, true, false, cond, List, length, refl, sym, Option, Some, None, leb, arith}
use Rattle.std.proofs.lemmas.Bool.{leb-true, le-leb, both_ways}
use Rattle.vk_types.specs.Types.{Pid}
use Rattle.vk_base.specs.Firsts.{change_first}
use Rattle.vk_base.specs.Ranges.{range_of, lies_in, with_bytes}
use Rattle.vk_base.proofs.Pools.{not_found_by}
use Rattle.vk_procs.specs.declared.seat.Seat.{Seat}
use Rattle.vk_procs.specs.Seats.{is_seat, seat_in, written}
use Rattle.vk_stands.proofs.Seats.{change_still}
use Rattle.vk_move.specs.Moved.{place_behind, place_in}
use Rattle.vk_move.proofs.Notes.{with_none}

beyond : (b : Bool) (at len size : ℕ) → leb at size ≡ false → leb (at + len) size ≡ b → b ≡ false
beyond true at len size f t = let h = leb-true (at + len) size t in absurd (both_ways (leb at size) f (le-leb at size (omega arith)))
beyond false at len size f t = refl

none_in : (pid : Pid) (start offset : ℕ) (bytes : List ℕ) (xs : List Seat) (o : Option Seat) → seat_in xs pid ≡ o →
    place_behind o start offset ≡ None → xs ≡ change_first (is_seat pid) (written (place_in start offset) bytes) xs
none_in pid start offset bytes xs None found is = with_none (is_seat pid) (λ n. n) (written (place_in start offset) bytes) xs found
none_in pid start offset bytes xs (Some s) found is =
    let far : leb (start + offset) (length s.memory) ≡ false = not_found_by (leb (start + offset) (length s.memory)) (start + offset) is in
    let out : lies_in (range_of (start + offset) (length bytes)) (length s.memory) ≡ false =
    beyond (leb (start + offset + length bytes) (length s.memory)) (start + offset) (length bytes) (length s.memory) far refl in
    sym (change_still (is_seat pid) (written (place_in start offset) bytes) s xs found
    (λ i. record s { memory = cond (out i) (with_bytes s.memory (start + offset) bytes) s.memory }))

pub none_behind : (pid : Pid) (start offset : ℕ) (bytes : List ℕ) (xs : List Seat) →
    place_behind (seat_in xs pid) start offset ≡ None →
    xs ≡ change_first (is_seat pid) (written (place_in start offset) bytes) xs
none_behind pid start offset bytes xs is = none_in pid start offset bytes xs (seat_in xs pid) refl is

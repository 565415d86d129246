-- Bytes of one process come into the memory of another.
use Rattle.std.proofs.Common.{◌≡◌, ℕ, ◌+◌, true, false, nat_le, List, length, Some, sym, ap, subst, ◌∙◌, arith}
use Rattle.std.proofs.lemmas.Bool.{and_parts, cond-true, cond-false, leb-true, le-leb}
use Rattle.vk_types.specs.Types.{Pid, Range}
use Rattle.vk_base.specs.Firsts.{change_first}
use Rattle.vk_base.specs.Kernel.{Kernel, with_memory}
use Rattle.vk_base.specs.Pids.{same_pid}
use Rattle.vk_base.specs.Ranges.{bytes_in, lies_in, lies_within, range_of, with_bytes}
use Rattle.v_laws.specs.Sound.{IsSoundAt}
use Rattle.v_laws.proofs.MoveLists.{all_bytes}
use Rattle.vk_procs.specs.declared.seat.Seat.{Seat}
use Rattle.vk_procs.specs.declared.seat.Passed.TheVariants as gifts
use Rattle.vk_procs.specs.Seats.{got, is_seat, passed_by, process_of, seat_in, written}
use Rattle.vk_stands.specs.Tables.{Tables}
use Rattle.vk_stands.proofs.Doing.{memory_carries, memory_part, overwritten_length, remembering}
use Rattle.vk_stands.proofs.OneSeat.{seated}
use Rattle.vk_stands.proofs.Parts.{Carries, Part}
use Rattle.vk_stands.proofs.Seats.{change_agree}
use Rattle.vk_local.specs.declared.access.Segment.{Segment}
use Rattle.vk_local.specs.Calls.{bytes_passed}

-- what lies in a segment that lies in a memory
pub within_lies : (start count size : ℕ) (outer : Range) → lies_within (range_of start count) outer ≡ true → lies_in outer size ≡ true →
    lies_in (range_of start count) size ≡ true
within_lies start count size outer within lies =
    let parts = and_parts (nat_le outer.start start) (nat_le (start + count) (outer.start + outer.len)) within in
    le-leb (start + count) size (omega (
      arith,
      leb-true (start + count) (outer.start + outer.len) parts.1,
      leb-true (outer.start + outer.len) size lies,
    ))

module _ (host : ℕ) (t : Tables) (k : Kernel) (part : Part host t k) (from to : Pid) (own : to.host ≡ host) (x s : Seat)
    (giver : seat_in t.seats from ≡ Some x) (found : seat_in t.seats to ≡ Some s) (apart : same_pid from to ≡ false) (g : Segment)
    (source : lies_in (range_of g.src g.count) (length x.memory) ≡ true) (dest : lies_in (range_of g.dest g.count)
    (length s.memory) ≡ true) where
  abbrev bytes : List ℕ
  bytes = bytes_in (range_of g.src g.count) x.memory

  abbrev pub memory : List ℕ
  memory = with_bytes s.memory g.dest bytes

  count_is : length bytes ≡ g.count
  count_is = all_bytes g.src g.count x.memory source

  fits : lies_in (range_of g.dest (length bytes)) (length s.memory) ≡ true
  fits = ap (λ n. lies_in (range_of g.dest n) (length s.memory)) count_is ∙ dest

  long : length memory ≡ length s.memory
  long = overwritten_length g.dest bytes s.memory fits

  written_is : written g.dest bytes s ≡ remembering host t k part to own s found memory long s
  written_is = ap (λ m. record s { memory = m }) (cond-true (lies_in (range_of g.dest (length bytes))
      (length s.memory)) memory s.memory fits)

  seats_are : bytes_passed t.seats from to g ≡ change_first (is_seat to) (remembering host t k part to own s found memory long) t.seats
  seats_are =
      cond-false (same_pid from to) t.seats (passed_by (seat_in t.seats from) to (gifts.Bytes g.src g.count g.dest) t.seats) apart
      ∙ ap (λ o. passed_by o to (gifts.Bytes g.src g.count g.dest) t.seats) giver
      ∙ change_agree (is_seat to) (got (gifts.Bytes g.src g.count g.dest) x)
      (remembering host t k part to own s found memory long) t.seats s found written_is

  abbrev tables : Tables
  tables = record t { seats = bytes_passed t.seats from to g }

  tables_are : tables ≡ seated t to (remembering host t k part to own s found memory long)
  tables_are = ap (λ seats. record t { seats = seats }) seats_are

  pub copied_part : IsSoundAt (λ g. false) (with_memory k to (process_of s) memory) →
      Part host tables (with_memory k to (process_of s) memory)
  copied_part sound = subst (λ u. Part host u (with_memory k to (process_of s) memory)) (sym tables_are)
      (memory_part host t k part to own s found memory long sound)

  pub copied_carries : Carries 0 t tables
  copied_carries = subst (Carries 0 t) (sym tables_are) (memory_carries host t k part to own s found memory long)

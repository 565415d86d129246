-- What is known where a packet of a mover is wanted.
use Rattle.std.proofs.Common.{◌≡◌, ℕ, ◌+◌, ◌≤◌, Bool, true, false, cond, ◌==◌, ◌&&◌, not, List, length, refl, ap, sym, Option, Some, None, ltb, leb, arith}
use Rattle.std.proofs.lemmas.Bool.{and_parts, leb-true}
use Rattle.vk_types.specs.Types.{Activity, Message, Pid}
use Rattle.vk_base.specs.declared.activity.Activity.TheVariants as activities
use Rattle.vk_base.specs.declared.activity.Waiting.TheVariants as waitings
use Rattle.vk_base.specs.Messages.{grants_read, segment_of}
use Rattle.vk_base.specs.Pids.{same_host}
use Rattle.vk_base.specs.Ranges.{range_of, lies_within}
use Rattle.vk_procs.specs.declared.seat.ProcNote.{ProcNote}
use Rattle.vk_procs.specs.declared.seat.Seat.{Seat}
use Rattle.vk_procs.specs.Seats.{seat_in}
use Rattle.vk_move.specs.declared.sender.Demand.{Demand}
use Rattle.vk_move.specs.declared.sender.Demand.TheVariants as demands
use Rattle.vk_move.specs.declared.sender.Sender.{Sender}
use Rattle.vk_move.specs.declared.sender.Sender.TheVariants as senders
use Rattle.vk_move.specs.Moved.{HasFitSeats}
use Rattle.vk_move.specs.Sender.{IsSourceReadable, bytes_wanted, data_wanted, may_read, sender_by, sender_doing}
use Rattle.vk_move.proofs.Going.{found_fits}

-- A process that waits in its Send to a process of the mover's station.
pub record IsSending (note : ProcNote) (d : Activity) (m : Message) (opened done : ℕ) : Type 0 where
  pub to : Pid
  pub state : d ≡ activities.Blocked (waitings.Send to m)
  pub opened_is : note.opened ≡ opened
  pub done_is : note.done ≡ done

never_made : (b : Bool) (m : Message) (opened done : ℕ) → cond b senders.Gone senders.Unknown ≡ senders.Waits m opened done → ⊥
never_made true m opened done is = cc
never_made false m opened done is = cc

by_test : (b a : Bool) (note : ProcNote) (to : Pid) (x m : Message) (opened done : ℕ) →
    cond b (senders.Waits x note.opened note.done) (cond a senders.Gone senders.Unknown) ≡ senders.Waits m opened done →
    IsSending note (activities.Blocked (waitings.Send to x)) m opened done
by_test true a note to x m opened done is =
    let same : x ≡ m = cc in
    let o : note.opened ≡ opened = cc in
    let n : note.done ≡ done = cc in
    record { to = to; state = ap (λ y. activities.Blocked (waitings.Send to y)) same; opened_is = o; done_is = n }
by_test false a note to x m opened done is = absurd (never_made a m opened done is)

pub is_sending : (pid target : Pid) (number : ℕ) (note : ProcNote) (d : Activity) (m : Message) (opened done : ℕ) →
    sender_doing pid target number note d ≡ senders.Waits m opened done → IsSending note d m opened done
is_sending pid target number note activities.Ready m opened done is = absurd (never_made (leb number note.sends) m opened done is)
is_sending pid target number note (activities.Done w o) m opened done is = absurd (never_made (leb number note.sends) m opened done is)
is_sending pid target number note (activities.Blocked (waitings.Send to x)) m opened done is =
    by_test (same_host to target && not (same_host pid target) && note.sends == number) (leb number note.sends) note to x m opened done is
is_sending pid target number note (activities.Blocked waitings.Receive) m opened done is = absurd
    (never_made (leb number note.sends) m opened done is)
is_sending pid target number note (activities.Blocked (waitings.ReceiveSegment start count)) m opened done is = absurd
    (never_made (leb number note.sends) m opened done is)
is_sending pid target number note (activities.Blocked (waitings.MoveTo partner dest src count)) m opened done is = absurd
    (never_made (leb number note.sends) m opened done is)
is_sending pid target number note (activities.Blocked (waitings.MoveFrom partner dest src count)) m opened done is = absurd
    (never_made (leb number note.sends) m opened done is)
is_sending pid target number note (activities.Blocked (waitings.GetPid logical scope)) m opened done is = absurd
    (never_made (leb number note.sends) m opened done is)

-- what is done before is what was, or nothing
before_by : (g a : Bool) (done before : ℕ) (opens : Bool) →
    cond g (demands.Wanted a (cond a 0 done)) demands.Nothing ≡ demands.Wanted opens before → done ≤ 65536 → before ≤ 65536
before_by true true done before opens is low = let e : 0 ≡ before = cc in omega arith
before_by true false done before opens is low = let e : done ≡ before = cc in omega arith
before_by false a done before opens is low = cc

-- so many bytes are done after it
pub done_low : (next : Bool) (end before : ℕ) → end ≤ 65536 → before ≤ 65536 → cond next end before ≤ 65536
done_low true end before low so_far = low
done_low false end before low so_far = so_far

low_by : (x : Sender) (moving dest total : ℕ) (opens : Bool) (before : ℕ) →
    ((m : Message) (opened done : ℕ) → x ≡ senders.Waits m opened done → done ≤ 65536) →
    data_wanted moving dest total x ≡ demands.Wanted opens before → before ≤ 65536
low_by senders.Unknown moving dest total opens before low is = cc
low_by senders.Gone moving dest total opens before low is = cc
low_by (senders.Waits m opened done) moving dest total opens before low is =
    before_by _ (ltb opened moving) done before opens is (low m opened done refl)

granted_by : (g a : Bool) (p : Demand) (opens : Bool) (before : ℕ) → cond (g && a) p demands.Nothing ≡ demands.Wanted opens before → g ≡ true
granted_by true a p opens before is = refl
granted_by false a p opens before is = cc

-- the range lies in the segment, and the segment in the memory
within : (m : Message) (src total size : ℕ) → may_read m src total ≡ true → (segment_of m).start + (segment_of m).len ≤ size →
    src + total ≤ size
within m src total size t low =
    let a = and_parts (grants_read m) (lies_within (range_of src total) (segment_of m)) t in
    let b = and_parts (leb (segment_of m).start src) (leb (src + total) ((segment_of m).start + (segment_of m).len)) a.1 in
    let c = leb-true (src + total) ((segment_of m).start + (segment_of m).len) b.1 in
    omega arith

module _ (seats : List Seat) (fit : HasFitSeats seats) (pid target : Pid) (number : ℕ) where
  low_seat : (o : Option Seat) → seat_in seats pid ≡ o → (m : Message) (opened done : ℕ) →
      sender_by pid target number o ≡ senders.Waits m opened done → done ≤ 65536
  low_seat None found m opened done is = cc
  low_seat (Some s) found m opened done is =
      let x = is_sending pid target number s.note s.doing m opened done is in
      let f = found_fits seats fit pid s found in
      omega (arith, x.done_is, f.done)

  pub low_before : (moving dest total : ℕ) (opens : Bool) (before : ℕ) →
      demands.Wanted opens before ≡ data_wanted moving dest total (sender_by pid target number (seat_in seats pid)) → before ≤ 65536
  low_before moving dest total opens before is =
      low_by (sender_by pid target number (seat_in seats pid)) moving dest total opens before (low_seat (seat_in seats pid) refl) (sym is)

  readable_by : (s : Seat) (x : Sender) (moving src total : ℕ) (opens : Bool) (before : ℕ) → seat_in seats pid ≡ Some s →
      sender_doing pid target number s.note s.doing ≡ x → bytes_wanted moving src total x ≡ demands.Wanted opens before →
      src + total ≤ length s.memory
  readable_by s senders.Unknown moving src total opens before found by is = cc
  readable_by s senders.Gone moving src total opens before found by is = cc
  readable_by s (senders.Waits m opened done) moving src total opens before found by is =
      let x = is_sending pid target number s.note s.doing m opened done by in
      let f = found_fits seats fit pid s found in
      within m src total (length s.memory) (granted_by (may_read m src total) (leb opened moving) _ opens before is)
      (leb-true _ _ (f.waits (waitings.Send x.to m) x.state))

  readable_seat : (o : Option Seat) (moving src total : ℕ) (opens : Bool) (before : ℕ) → seat_in seats pid ≡ o →
      bytes_wanted moving src total (sender_by pid target number o) ≡ demands.Wanted opens before → IsSourceReadable src total o
  readable_seat None moving src total opens before found is = cc
  readable_seat (Some s) moving src total opens before found is =
      readable_by s (sender_doing pid target number s.note s.doing) moving src total opens before found refl is

  pub readable : (moving src total : ℕ) (opens : Bool) (before : ℕ) →
      demands.Wanted opens before ≡ bytes_wanted moving src total (sender_by pid target number (seat_in seats pid)) →
      IsSourceReadable src total (seat_in seats pid)
  readable moving src total opens before is = readable_seat (seat_in seats pid) moving src total opens before refl (sym is)

  asked_by : (x : Sender) (moving src total : ℕ) (opens : Bool) (before : ℕ) →
      ((m : Message) (opened done : ℕ) → x ≡ senders.Waits m opened done → done ≤ 65536) →
      bytes_wanted moving src total x ≡ demands.Wanted opens before → before ≤ 65536
  asked_by senders.Unknown moving src total opens before low is = cc
  asked_by senders.Gone moving src total opens before low is = cc
  asked_by (senders.Waits m opened done) moving src total opens before low is =
      before_by _ (ltb opened moving) done before opens is (low m opened done refl)

  pub low_asked : (moving src total : ℕ) (opens : Bool) (before : ℕ) →
      demands.Wanted opens before ≡ bytes_wanted moving src total (sender_by pid target number (seat_in seats pid)) → before ≤ 65536
  low_asked moving src total opens before is =
      asked_by (sender_by pid target number (seat_in seats pid)) moving src total opens before (low_seat (seat_in seats pid) refl) (sym is)

-- A move within the station is its right entry.
use Rattle.std.proofs.Common.{◌≡◌, ℕ, Bool, true, false, ◌&&◌, ◌==◌, not, nat_lt, List, [], ◌∷◌, length, Option, Some, None, refl, sym, ap, ◌∙◌}
use Rattle.std.specs.Option.{is_none}
use Rattle.std.proofs.lemmas.Bool.{cond-true, false_from_ne_true, or_left}
use Rattle.std.proofs.lemmas.Option.{none-some, same_Some}
use Rattle.vk_types.specs.Types.{Call, Message, Pid, Process}
use Rattle.vk_base.specs.declared.activity.Activity.TheVariants as activities
use Rattle.vk_base.specs.declared.activity.Waiting.TheVariants as waitings
use Rattle.vk_base.specs.declared.answer.Answer.TheVariants as answers
use Rattle.vk_base.specs.declared.answer.Refusal.TheVariants as refusals
use Rattle.vk_base.specs.declared.call.Call.TheVariants as calls
use Rattle.vk_base.specs.declared.kernel.Direction.TheVariants as directions
use Rattle.vk_base.specs.declared.step.Step.TheVariants as steps
use Rattle.vk_base.proofs.OptionLemmas.{bind_is}
use Rattle.vk_base.specs.Calls.{answered, begin_move, call_refusal, called, first_that_holds, is_at_once, new_move}
unfoldable use Rattle.vk_base.specs.Calls.{copied_at_once}
use Rattle.vk_base.specs.Kernel.{◌>>=◌, Kernel, holds_of, with_memory}
use Rattle.vk_base.specs.Messages.{segment_of}
use Rattle.vk_base.specs.Pids.{same_host, same_pid}
use Rattle.vk_base.specs.Ranges.{bytes_in, lies_in, range_of, with_bytes}
use Rattle.vk_base.specs.Steps.{effect}
use Rattle.v_laws.proofs.Tables.{same_pid_is}
use Rattle.vk_procs.specs.declared.seat.Seat.{Seat}
use Rattle.vk_procs.specs.Seats.{seat_in}
use Rattle.vk_stands.specs.Fit.{AreFit}
use Rattle.vk_stands.specs.Held.{Holding, local_holding, seat_holding}
use Rattle.vk_stands.specs.Tables.{Tables}
use Rattle.vk_stands.proofs.Found.{seat_found}
use Rattle.vk_stands.proofs.Held.{IsHeldSeat, held_seat}
use Rattle.vk_local.specs.declared.access.Access.{Access}
use Rattle.vk_local.specs.Access.{access_refusal, grants, has_range, may_use, own_range}
use Rattle.vk_local.proofs.Copied.{within_lies}
use Rattle.vk_local.proofs.Decided.{MayCall}

-- What is known where an access is not refused.
record AreFree (none lets granted own : Bool) : Type 0 where
  some : none ≡ false
  lets_is : lets ≡ true
  granted_is : granted ≡ true
  own_is : own ≡ true

free_of : (long none lets granted own : Bool) →
    first_that_holds ((long, refusals.TooLong) ∷ (none, refusals.NotAwaiting) ∷ (not lets, refusals.NoAccess)
    ∷ (not (granted && own), refusals.BadRange) ∷ []) ≡ None → AreFree none lets granted own
free_of true none lets granted own is = absurd (none-some refusals.TooLong (sym is))
free_of false true lets granted own is = absurd (none-some refusals.NotAwaiting (sym is))
free_of false false false granted own is = absurd (none-some refusals.NoAccess (sym is))
free_of false false true false own is = absurd (none-some refusals.BadRange (sym is))
free_of false false true true false is = absurd (none-some refusals.BadRange (sym is))
free_of false false true true true is = record { some = refl; lets_is = refl; granted_is = refl; own_is = refl }

-- The partner of an access that is not refused: it waits in a Send whose message the caller has taken, and the range lies in its memory.
pub record IsPartner (seats : List Seat) (pid to : Pid) (a : Access) : Type 0 where
  pub seat : Seat
  pub found : seat_in seats to ≡ Some seat
  pub target : Pid
  pub message : Message
  pub waits : seat.doing ≡ activities.Blocked (waitings.Send target message)
  pub taken : seat.note.taken ≡ true
  pub granted : lies_in (range_of a.granted a.count) (length seat.memory) ≡ true

pub seat_of : (seats : List Seat) (holder sender : Pid) (g : Holding) → local_holding seats holder sender ≡ Some g →
    (s : Seat) × (seat_in seats sender ≡ Some s) × IsHeldSeat holder s g
seat_of seats holder sender g is =
    let x = bind_is (seat_in seats sender) (seat_holding holder) g is in (x.0, x.1, held_seat holder x.0 g x.2)

module _ (host : ℕ) (t : Tables) (fit : AreFit host t) (pid : Pid) (s : Seat) (may : MayCall t.seats pid s) (to : Pid) (a : Access)
    (free : access_refusal t.seats pid to a ≡ None) where
  all : AreFree (is_none (local_holding t.seats pid to)) (holds_of (may_use a) (local_holding t.seats pid to))
      (holds_of (grants a) (local_holding t.seats pid to)) (own_range t.seats pid a.own a.count)
  all = free_of (nat_lt a.limit a.count) (is_none (local_holding t.seats pid to)) (holds_of (may_use a) (local_holding t.seats pid to))
      (holds_of (grants a) (local_holding t.seats pid to)) (own_range t.seats pid a.own a.count) free

  by_holding : (o : Option Holding) → local_holding t.seats pid to ≡ o → is_none o ≡ false → holds_of (grants a) o ≡ true →
      IsPartner t.seats pid to a
  by_holding None is some granted = cc
  by_holding (Some g) is some granted =
      let x = seat_of t.seats pid to g is in
      let at = seat_found t.seats to x.0 x.1 in
      record {
        seat = x.0;
        found = x.1;
        target = x.2.target;
        message = g.message;
        waits = x.2.waits;
        taken = x.2.taken;
        granted = within_lies a.granted a.count (length x.0.memory) (segment_of g.message) granted
            ((fit.seats at.at x.0 at.here).waits (waitings.Send x.2.target g.message) x.2.waits);
      }

  pub partner_is : IsPartner t.seats pid to a
  partner_is = by_holding (local_holding t.seats pid to) refl all.some all.granted_is

  pub is_held : is_none (local_holding t.seats pid to) ≡ false
  is_held = all.some

  pub mine_is : lies_in (range_of a.own a.count) (length s.memory) ≡ true
  mine_is = sym (ap (holds_of (has_range a.own a.count)) may.found) ∙ all.own_is

-- a process that is ready is none that waits
pub partner_apart : (seats : List Seat) (pid to : Pid) (s x : Seat) (target : Pid) (m : Message) → MayCall seats pid s →
    seat_in seats to ≡ Some x → x.doing ≡ activities.Blocked (waitings.Send target m) → same_pid pid to ≡ false
partner_apart seats pid to s x target m may found waits = false_from_ne_true (same_pid pid to) (λ t.
    let one : s ≡ x = same_Some s x (sym may.found ∙ ap (seat_in seats) (same_pid_is pid to t) ∙ found) in
    let both : activities.Ready ≡ activities.Blocked (waitings.Send target m) =
    sym may.ready ∙ ap (λ (z : Seat). z.doing) one ∙ waits in
    absurd (cc))

-- What the kernel does.
module _ (k : Kernel) (pid to : Pid) (p q : Process) (here : k.procs pid ≡ Some p) (there : k.procs to ≡ Some q)
    (near : same_host pid to ≡ true)
    (dest src count : ℕ) where
  pub moved_to : call_refusal k pid p (calls.MoveTo to dest src count) ≡ None →
      effect k (steps.Call pid (calls.MoveTo to dest src count))
      ≡ Some (answered (with_memory k to q (with_bytes q.memory dest (bytes_in (range_of src count) p.memory))) pid
      (calls.MoveTo to dest src count) answers.Ok)
  unfolding copied_at_once
  moved_to free =
      let c : Call = calls.MoveTo to dest src count in
      ap (λ (o : Option Process). o >>= λ p. called k pid p c (call_refusal k pid p c)) here
      ∙ ap (called k pid p c) free
      ∙ cond-true (is_at_once pid to count) (copied_at_once k pid c to dest (bytes_in (range_of src count) p.memory))
      (begin_move k pid p c to (new_move pid directions.To dest src count (bytes_in (range_of src count) p.memory)))
      (or_left (same_host pid to) (count == 0) near)
      ∙ ap (λ (o : Option Process). o >>= λ q. Some (answered (with_memory k to q
      (with_bytes q.memory dest (bytes_in (range_of src count) p.memory))) pid c answers.Ok)) there

  pub moved_from : call_refusal k pid p (calls.MoveFrom to dest src count) ≡ None →
      effect k (steps.Call pid (calls.MoveFrom to dest src count))
      ≡ Some (answered (with_memory k pid p (with_bytes p.memory dest (bytes_in (range_of src count) q.memory))) pid
      (calls.MoveFrom to dest src count) answers.Ok)
  unfolding copied_at_once
  moved_from free =
      let c : Call = calls.MoveFrom to dest src count in
      ap (λ (o : Option Process). o >>= λ p. called k pid p c (call_refusal k pid p c)) here
      ∙ ap (called k pid p c) free
      ∙ cond-true (is_at_once pid to count) (k.procs to >>= λ q. copied_at_once k pid c pid dest (bytes_in (range_of src count) q.memory))
      (begin_move k pid p c to (new_move pid directions.From dest src count []))
      (or_left (same_host pid to) (count == 0) near)
      ∙ ap (λ (o : Option Process). o >>= λ q. k.procs pid >>= λ p. Some (answered (with_memory k pid p
      (with_bytes p.memory dest (bytes_in (range_of src count) q.memory))) pid c answers.Ok)) there
      ∙ ap (λ (o : Option Process). o >>= λ p. Some (answered (with_memory k pid p
      (with_bytes p.memory dest (bytes_in (range_of src count) q.memory))) pid c answers.Ok)) here

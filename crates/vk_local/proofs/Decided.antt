-- What the tables refuse, the kernel refuses, in the view that they stand for.
use Rattle.std.proofs.Common.{◌≡◌, ℕ, Bool, true, false, cond, ◌&&◌, not, nat_lt, List, [], ◌∷◌, Option, Some, None, refl, sym, ap, ◌∙◌}
use Rattle.std.specs.Option.{is_none, option_map}
use Rattle.std.proofs.lemmas.Bool.{both_ways, eq-eqb, eqb-true}
use Rattle.std.proofs.lemmas.Option.{none-some}
use Rattle.vk_types.specs.Types.{Call, Direction, Message, Pid, Refusal, Times, Waiting}
use Rattle.vk_base.specs.declared.activity.Activity.TheVariants as activities
use Rattle.vk_base.specs.declared.activity.Waiting.TheVariants as waitings
use Rattle.vk_base.specs.declared.answer.Refusal.TheVariants as refusals
use Rattle.vk_base.specs.declared.call.Call.TheVariants as calls
use Rattle.vk_base.specs.declared.kernel.Direction.TheVariants as directions
use Rattle.vk_base.specs.Activities.{as_receive, call_of, state_of}
use Rattle.vk_base.specs.Calls.{first_that_holds, is_granted, is_own, tests_of}
unfoldable use Rattle.vk_base.specs.Calls.{call_refusal}
use Rattle.vk_base.specs.Kernel.{Kernel, held, held_exchange, holds_of, is_live, is_ready}
use Rattle.vk_base.specs.Messages.{grants_read, grants_write, segment_of}
use Rattle.vk_base.specs.Pids.{same_host}
use Rattle.vk_base.specs.Ranges.{range_of, lies_within}
use Rattle.vk_procs.specs.declared.seat.Seat.{Seat}
use Rattle.vk_procs.specs.Seats.{is_live_in, process_of, seat_in}
use Rattle.vk_rules.specs.Readings.{Reading}
use Rattle.vk_stands.specs.Fit.{AreFit}
use Rattle.vk_stands.specs.Held.{Holding, local_holding}
use Rattle.vk_stands.specs.Stands.{Stands}
use Rattle.vk_stands.specs.Tables.{Tables}
use Rattle.vk_stands.proofs.Found.{seat_found}
use Rattle.vk_stands.proofs.Held.{IsHolding, held_here, message_held, none_held}
use Rattle.vk_local.specs.declared.access.Access.{Access}
use Rattle.vk_local.specs.declared.access.Segment.{Segment}
use Rattle.vk_local.specs.Access.{access_refusal, grants, has_range, may_use, not_awaiting, own_range}
use Rattle.vk_local.specs.Calls.{forward_refusal, move_access, move_call, receive_refusal, reply_access, send_refusal}

-- A process that may call: it is in its seat, alive and ready.
pub record MayCall (seats : List Seat) (pid : Pid) (s : Seat) : Type 0 where
  pub found : seat_in seats pid ≡ Some s
  pub alive : s.alive ≡ true
  pub ready : s.doing ≡ activities.Ready

abbrev tested : Bool → Refusal → Option Refusal → Option Refusal
tested b why rest = cond b (Some why) rest

pub ready_refusal : (k : Kernel) (seats : List Seat) (pid : Pid) (s : Seat) (call : Call) → MayCall seats pid s →
    call_refusal k pid (process_of s) call ≡ first_that_holds (tests_of k pid (process_of s) call)
unfolding call_refusal
ready_refusal k seats pid s call may =
    let rest : Option Refusal = first_that_holds (tests_of k pid (process_of s) call) in
    ap (λ b. tested (not b) refusals.Dead (tested (not (is_ready (state_of s.doing))) refusals.Busy rest)) may.alive
    ∙ ap (λ d. tested (not (is_ready (state_of d))) refusals.Busy rest) may.ready

-- the range lies in the caller's memory
own_is : (seats : List Seat) (pid : Pid) (s : Seat) (start count : ℕ) → seat_in seats pid ≡ Some s →
    own_range seats pid start count ≡ is_own (process_of s) start count
own_is seats pid s start count found = ap (holds_of (has_range start count)) found

pub live_is : (o : Option Seat) → is_live (option_map process_of o) ≡ is_live_in o
live_is None = refl
live_is (Some s) = refl

abbrev four : (long none lets granted own : Bool) → Option Refusal
four long none lets granted own = first_that_holds (
    (long, refusals.TooLong)
    ∷ (none, refusals.NotAwaiting)
    ∷ (not lets, refusals.NoAccess)
    ∷ (not (granted && own), refusals.BadRange)
    ∷ [])

module _ (times : Times) (host : ℕ) (t : Tables) (r : Reading) (h : Stands times host t r) (fit : AreFit host t) (pid : Pid)
    (own : pid.host ≡ host) (s : Seat) (may : MayCall t.seats pid s) where
  abbrev k : Kernel
  k = r.view

  holding : (to : Pid) → to.host ≡ host → IsHolding k pid to (local_holding t.seats pid to)
  holding to near = held_here times host t r h fit pid own to near

  decided : (call : Call) (o : Option Refusal) → o ≡ first_that_holds (tests_of k pid (process_of s) call) →
      o ≡ call_refusal k pid (process_of s) call
  decided call o is = is ∙ sym (ready_refusal k t.seats pid s call may)

  pub reply_decided : (to : Pid) (m : Message) → to.host ≡ host →
      not_awaiting t.seats pid to ≡ call_refusal k pid (process_of s) (calls.Reply m to)
  reply_decided to m near = decided (calls.Reply m to) (not_awaiting t.seats pid to)
      (ap (λ b. first_that_holds ((b, refusals.NotAwaiting) ∷ [])) (sym (none_held k pid to (local_holding t.seats pid to)
      (holding to near))))

  access_is : (to : Pid) (a : Access) (test : Message → Bool) → to.host ≡ host → ((g : Holding) → may_use a g ≡ test g.message) →
      access_refusal t.seats pid to a
      ≡ four (nat_lt a.limit a.count) (is_none (local_holding t.seats pid to)) (holds_of (λ (g : Holding). test g.message)
      (local_holding t.seats pid to))
      (holds_of (grants a) (local_holding t.seats pid to)) (own_range t.seats pid a.own a.count)
  access_is to a test near same = ap (λ b. four (nat_lt a.limit a.count) (is_none (local_holding t.seats pid to)) b
      (holds_of (grants a) (local_holding t.seats pid to)) (own_range t.seats pid a.own a.count))
      (tests (local_holding t.seats pid to))
    where
      tests : (o : Option Holding) → holds_of (may_use a) o ≡ holds_of (λ (g : Holding). test g.message) o
      tests None = refl
      tests (Some g) = same g

  kernel_is : (to : Pid) (a : Access) (test : Message → Bool) → to.host ≡ host →
      four (nat_lt a.limit a.count) (is_none (local_holding t.seats pid to)) (holds_of (λ (g : Holding). test g.message)
      (local_holding t.seats pid to))
      (holds_of (grants a) (local_holding t.seats pid to)) (own_range t.seats pid a.own a.count)
      ≡ four (nat_lt a.limit a.count) (is_none (held k pid to)) (holds_of (λ e. test e.message) (held_exchange k pid to))
      (is_granted (held_exchange k pid to) a.granted a.count) (is_own (process_of s) a.own a.count)
  kernel_is to a test near =
      let o : Option Holding = local_holding t.seats pid to in
      let held_as : IsHolding k pid to o = holding to near in
      let none = none_held k pid to o held_as in
      let lets = message_held k pid to test o held_as in
      let granted = message_held k pid to (λ m. lies_within (range_of a.granted a.count) (segment_of m)) o held_as in
      let mine = own_is t.seats pid s a.own a.count may.found in
      λ i. four (nat_lt a.limit a.count) (sym none i) (sym lets i) (sym granted i) (mine i)

  pub segment_decided : (to : Pid) (m : Message) (g : Segment) → to.host ≡ host →
      access_refusal t.seats pid to (reply_access g)
      ≡ call_refusal k pid (process_of s) (calls.ReplySegment m to g.dest g.src g.count)
  segment_decided to m g near = decided (calls.ReplySegment m to g.dest g.src g.count) (access_refusal t.seats pid to (reply_access g))
      (access_is to (reply_access g) grants_write near (λ x. refl) ∙ kernel_is to (reply_access g) grants_write near)

  move_tests : (way : Direction) (to : Pid) (g : Segment) → to.host ≡ host →
      access_refusal t.seats pid to (move_access way g) ≡ first_that_holds (tests_of k pid (process_of s) (move_call way to g))
  move_tests directions.To to g near =
      access_is to (move_access directions.To g) grants_write near (λ x. refl)
      ∙ kernel_is to (move_access directions.To g) grants_write near
  move_tests directions.From to g near =
      access_is to (move_access directions.From g) grants_read near (λ x. refl)
      ∙ kernel_is to (move_access directions.From g) grants_read near

  pub move_decided : (way : Direction) (to : Pid) (g : Segment) → to.host ≡ host →
      access_refusal t.seats pid to (move_access way g) ≡ call_refusal k pid (process_of s) (move_call way to g)
  move_decided way to g near =
      decided (move_call way to g) (access_refusal t.seats pid to (move_access way g)) (move_tests way to g near)

  pub send_decided : (target : Pid) (m : Message) → same_host pid target ≡ true → target.host ≡ host →
      send_refusal t.seats pid target m ≡ call_refusal k pid (process_of s) (calls.Send target m)
  send_decided target m near here = decided (calls.Send target m) (send_refusal t.seats pid target m)
      (let mine = own_is t.seats pid s (segment_of m).start (segment_of m).len may.found in
      let live = sym (live_is (seat_in t.seats target)) ∙ ap is_live (sym (h.procs target here)) in
      λ i. first_that_holds ((not (mine i), refusals.BadSegment) ∷ (sym near i && not (live i), refusals.NoProcess) ∷ []))

  -- a process of another station is none of the tables
  pub near_live : (to : Pid) (b : Bool) → same_host pid to ≡ b → (b && is_live (k.procs to)) ≡ is_live_in (seat_in t.seats to)
  near_live to true near =
      ap is_live (h.procs to (sym (eqb-true pid.host to.host near) ∙ own)) ∙ live_is (seat_in t.seats to)
  near_live to false far = sym (ap is_live_in (foreign (seat_in t.seats to) refl))
    where
      foreign : (o : Option Seat) → seat_in t.seats to ≡ o → o ≡ None
      foreign None none = refl
      foreign (Some x) some =
          let place = seat_found t.seats to x some in
          absurd (both_ways (same_host pid to) far
          (eq-eqb pid.host to.host (own ∙ sym (fit.seats place.at x place.here).own ∙ ap (λ (p : Pid). p.host) place.named)))

  pub forward_decided : (from : Pid) (m : Message) (to : Pid) → from.host ≡ host →
      forward_refusal t.seats pid from to ≡ call_refusal k pid (process_of s) (calls.Forward m from to)
  forward_decided from m to there = decided (calls.Forward m from to) (forward_refusal t.seats pid from to)
      (let none = none_held k pid from (local_holding t.seats pid from) (holding from there) in
      let live = near_live to (same_host pid to) refl in
      λ i. first_that_holds ((sym none i, refusals.NotAwaiting) ∷ (not (sym live i), refusals.NoProcess) ∷ []))

  pub receive_decided : (w : Waiting) → as_receive w ≡ Some w →
      receive_refusal t.seats pid w ≡ call_refusal k pid (process_of s) (call_of w)
  receive_decided waitings.Receive is = decided calls.Receive None refl
  receive_decided (waitings.ReceiveSegment start count) is = decided (calls.ReceiveSegment start count)
      (receive_refusal t.seats pid (waitings.ReceiveSegment start count))
      (ap (λ b. first_that_holds ((not b, refusals.BadRange) ∷ [])) (own_is t.seats pid s start count may.found))
  receive_decided w is = absurd (none-some w is)

-- What the tables decide of a move that a process calls for, the kernel decides in the view that they stand for.
use Rattle.std.proofs.Common.{◌≡◌, ℕ, Bool, true, false, cond, ◌&&◌, ◌==◌, not, nat_lt, [], ◌∷◌, length, Option, Some, None, refl, sym, ◌∙◌}
use Rattle.std.specs.Option.{is_none, option_map}
use Rattle.std.proofs.lemmas.Option.{none-some}
use Rattle.vk_types.specs.Types.{Call, Direction, Exchange, Message, Pid, Process, Refusal, Times}
use Rattle.vk_base.specs.declared.answer.Refusal.TheVariants as refusals
use Rattle.vk_base.specs.declared.kernel.Direction.TheVariants as directions
use Rattle.vk_base.specs.declared.limits.TheConstants.{MOVE_BYTES}
use Rattle.vk_base.specs.Activities.{call_of}
use Rattle.vk_base.specs.Calls.{call_refusal, first_that_holds, is_granted, is_own, tests_of}
use Rattle.vk_base.specs.Kernel.{◌>>=◌, Kernel, held, held_exchange, holds_of}
use Rattle.vk_base.specs.Messages.{segment_of}
use Rattle.vk_base.specs.Ranges.{range_of, lies_in, lies_within}
use Rattle.vk_local.proofs.Decided.{MayCall, ready_refusal}
use Rattle.vk_pool.specs.declared.alien.Alien.{Alien}
use Rattle.vk_pool.specs.Aliens.{alien_from}
use Rattle.vk_procs.specs.declared.seat.Seat.{Seat}
use Rattle.vk_procs.specs.Seats.{process_of}
use Rattle.vk_rules.specs.Readings.{Reading}
use Rattle.vk_stands.specs.Fit.{AreFit}
use Rattle.vk_stands.specs.Held.{Holding, alien_holding, remote_holding}
use Rattle.vk_stands.specs.Stands.{Stands}
use Rattle.vk_stands.specs.Tables.{Tables}
use Rattle.vk_stands.proofs.Held.{IsHolding, held_there, none_held}
use Rattle.vk_stands.proofs.Held as holdings
use Rattle.vk_move.specs.declared.begun.Verdict.{Verdict}
use Rattle.vk_move.specs.declared.begun.Verdict.TheVariants as verdicts
use Rattle.vk_move.specs.Begun.{grants_access, message_held, own_of, size_of, theirs_of, verdict_by, verdict_in, waiting_in}

abbrev pub call_in : Direction → Pid → (dest src count : ℕ) → Call
call_in way partner dest src count = call_of (waiting_in way partner dest src count)

abbrev pub refusal_in : Verdict → Option Refusal
refusal_in (verdicts.Refused why) = Some why
refusal_in verdicts.Made = None
refusal_in verdicts.Begins = None

abbrev four : (long none lets granted own : Bool) → Option Refusal
four long none lets granted own = first_that_holds (
    (long, refusals.TooLong)
    ∷ (none, refusals.NotAwaiting)
    ∷ (not lets, refusals.NoAccess)
    ∷ (not (granted && own), refusals.BadRange)
    ∷ [])

-- By the tables.
none_by : (long own : Bool) →
    refusal_in (cond long (verdicts.Refused refusals.TooLong) (verdicts.Refused refusals.NotAwaiting)) ≡ four long true false false own
none_by true own = refl
none_by false own = refl

some_by : (long lets granted own empty : Bool) →
    refusal_in (cond long (verdicts.Refused refusals.TooLong) (cond (not lets) (verdicts.Refused refusals.NoAccess)
    (cond (not (granted && own)) (verdicts.Refused refusals.BadRange) (cond empty verdicts.Made verdicts.Begins))))
    ≡ four long false lets granted own
some_by true lets granted own empty = refl
some_by false false granted own empty = refl
some_by false true false own empty = refl
some_by false true true false empty = refl
some_by false true true true true = refl
some_by false true true true false = refl

abbrev message_in : Option Holding → Option Message
message_in o = option_map (λ (g : Holding). g.message) o

verdict_is : (way : Direction) (size theirs own count : ℕ) (o : Option Holding) →
    refusal_in (verdict_by way size theirs own count (message_in o))
    ≡ four (nat_lt MOVE_BYTES count) (is_none o) (holds_of (λ (g : Holding). grants_access way g.message) o)
    (holds_of (λ (g : Holding). lies_within (range_of theirs count) (segment_of g.message)) o) (lies_in (range_of own count) size)
verdict_is way size theirs own count None = none_by (nat_lt MOVE_BYTES count) (lies_in (range_of own count) size)
verdict_is way size theirs own count (Some g) = some_by (nat_lt MOVE_BYTES count) (grants_access way g.message)
    (lies_within (range_of theirs count) (segment_of g.message)) (lies_in (range_of own count) size) (count == 0)

-- By the kernel.
tests_are : (way : Direction) (k : Kernel) (pid : Pid) (p : Process) (partner : Pid) (dest src count : ℕ) →
    first_that_holds (tests_of k pid p (call_in way partner dest src count))
    ≡ four (nat_lt MOVE_BYTES count) (is_none (held k pid partner))
    (holds_of (λ (e : Exchange). grants_access way e.message) (held_exchange k pid partner))
    (is_granted (held_exchange k pid partner) (theirs_of way dest src) count) (is_own p (own_of way dest src) count)
tests_are directions.To k pid p partner dest src count = refl
tests_are directions.From k pid p partner dest src count = refl

held_message : (pid : Pid) (o : Option Alien) → message_held pid o ≡ message_in (o >>= alien_holding pid)
held_message pid None = refl
held_message pid (Some a) = refl

-- a message that is held, where the call is not refused
some_held : (long none lets granted own : Bool) → four long none lets granted own ≡ None → none ≡ false
some_held true none lets granted own is = absurd (none-some refusals.TooLong (sym is))
some_held false true lets granted own is = absurd (none-some refusals.NotAwaiting (sym is))
some_held false false lets granted own is = refl

module _ (times : Times) (host : ℕ) (t : Tables) (r : Reading) (h : Stands times host t r) (fit : AreFit host t) (pid : Pid)
    (own : pid.host ≡ host) (s : Seat) (may : MayCall t.seats pid s) (partner : Pid) (far : partner.host ≡ host → ⊥) (way : Direction)
    (dest src count : ℕ) where
  abbrev k : Kernel
  k = r.view

  abbrev o : Option Holding
  o = remote_holding t.slots pid partner

  holding : IsHolding k pid partner o
  holding = held_there times host t r h fit pid own partner far

  by_tables : refusal_in (verdict_in t.seats t.slots pid partner way dest src count)
      ≡ four (nat_lt MOVE_BYTES count) (is_none o) (holds_of (λ (g : Holding). grants_access way g.message) o)
      (holds_of (λ (g : Holding). lies_within (range_of (theirs_of way dest src) count) (segment_of g.message)) o)
      (is_own (process_of s) (own_of way dest src) count)
  by_tables =
      (λ i. refusal_in (verdict_by way (size_of (may.found i)) (theirs_of way dest src) (own_of way dest src) count
      (held_message pid (alien_from t.slots partner) i)))
      ∙ verdict_is way (length s.memory) (theirs_of way dest src) (own_of way dest src) count o

  pub verdict_decided : refusal_in (verdict_in t.seats t.slots pid partner way dest src count)
      ≡ call_refusal k pid (process_of s) (call_in way partner dest src count)
  verdict_decided =
      let none = none_held k pid partner o holding in
      let lets = holdings.message_held k pid partner (grants_access way) o holding in
      let granted = holdings.message_held k pid partner
      (λ m. lies_within (range_of (theirs_of way dest src) count) (segment_of m)) o holding in
      by_tables
      ∙ (λ i. four (nat_lt MOVE_BYTES count) (sym none i) (sym lets i) (sym granted i) (is_own (process_of s) (own_of way dest src) count))
      ∙ sym (tests_are way k pid (process_of s) partner dest src count)
      ∙ sym (ready_refusal k t.seats pid s (call_in way partner dest src count) may)

  pub holds_some : refusal_in (verdict_in t.seats t.slots pid partner way dest src count) ≡ None → is_none o ≡ false
  holds_some free = some_held (nat_lt MOVE_BYTES count) (is_none o) (holds_of (λ (g : Holding). grants_access way g.message) o)
      (holds_of (λ (g : Holding). lies_within (range_of (theirs_of way dest src) count) (segment_of g.message)) o)
      (is_own (process_of s) (own_of way dest src) count) (sym by_tables ∙ free)

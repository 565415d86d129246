-- Internal: no public contract rests on this file. Access to a segment of a sender that is held.
use Rattle.std.specs.Prelude.{◌≡◌, Bool, true, false, ◌&&◌, not, is_none, nat_lt, List, [], ◌∷◌, Option, Some, None, Result, Ok, Err}
use Rattle.vk_types.specs.Types.{Exchange, Pid, Process, Refusal}
use Rattle.vk_base.specs.declared.answer.Refusal.TheVariants as refusals
use Rattle.vk_base.specs.Calls.{first_that_holds, may_write, may_read, is_granted, is_own}
use Rattle.vk_base.specs.Kernel.{Kernel, held, held_exchange}
use Rattle.v_machine.specs.declared.calls.access.SegmentAccess.{SegmentAccess}
use Rattle.v_machine.specs.declared.calls.held.Holding.{Holding}
use Rattle.v_machine.specs.declared.tables.Store.{Store}
use Rattle.v_machine.specs.Kept.{IsAt, kernel_in}

abbrev pub is_allowed_to : Bool → Option Exchange → Bool
is_allowed_to true e = may_write e
is_allowed_to false e = may_read e

-- the refusals of an access, in order, each with its test
abbrev pub access_tests : Kernel → Pid → Process → SegmentAccess → List (Bool × Refusal)
access_tests k pid p a =
    (nat_lt a.limit a.own.len, refusals.TooLong)
    ∷ (is_none (held k pid a.partner), refusals.NotAwaiting)
    ∷ (not (is_allowed_to a.write (held_exchange k pid a.partner)), refusals.NoAccess)
    ∷ (not (is_granted (held_exchange k pid a.partner) a.granted.start a.granted.len && is_own p a.own.start a.own.len), refusals.BadRange)
    ∷ []

-- the Send that is held, or the first refusal
abbrev pub Accesses : Store → Pid → SegmentAccess → Result Holding Refusal → Type 0
Accesses s pid a (Ok h) = (p : Process) → (kernel_in s).procs pid ≡ Some p →
    (first_that_holds (access_tests (kernel_in s) pid p a) ≡ None) × (held (kernel_in s) pid a.partner ≡ Some h.number) ×
    IsAt s a.partner h.at
Accesses s pid a (Err why) = (p : Process) → (kernel_in s).procs pid ≡ Some p →
    first_that_holds (access_tests (kernel_in s) pid p a) ≡ Some why

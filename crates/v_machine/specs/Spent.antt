-- What no step reads any more, and what a kernel is without it: bytes of remote moves, and exchanges.
use Rattle.std.specs.Prelude.{ℕ, ◌+◌, ◌==◌, nat_lt, Bool, true, false, ◌&&◌, ◌||◌, List, [], ◌∷◌, Option, Some, None, option_map, if◌then◌else◌}
use Rattle.vk_types.specs.Types.{Exchange, Move, Process}
use Rattle.vk_base.specs.Kernel.{◌>>=◌, Kernel, holds_of}
use Rattle.v_laws.specs.Sound.{is_settled}

-- A move is spent once a later one of its exchange was opened, or all its bytes were written. `opened` is the number of the
-- move that was opened last, and `done` is how many of its bytes were written.
abbrev pub is_spent : (opened done number : ℕ) → Move → Bool
is_spent opened done number m = nat_lt number opened || (number == opened && done == m.count)

-- the move of this number, without its bytes where it is spent
abbrev pub emptied : (opened done number : ℕ) → Move → Move
emptied opened done number m = record m { bytes = if is_spent opened done number m then [] else m.bytes }

-- these moves, the first of which has this number
abbrev pub all_emptied : (opened done number : ℕ) → List Move → List Move
all_emptied opened done number [] = []
all_emptied opened done number (m ∷ ms) = emptied opened done number m ∷ all_emptied opened done (number + 1) ms

-- an exchange without the bytes of its spent moves
abbrev pub lean : Exchange → Exchange
lean e = record e { moves = all_emptied e.opened e.done 1 e.moves }

-- a kernel without those of all its exchanges
unfoldable pub emptied_kernel : Kernel → Kernel
emptied_kernel k = record k { exchanges = λ n. option_map lean (k.exchanges n) }

abbrev pub has_none : List Move → Bool
has_none [] = true
has_none (m ∷ ms) = false

-- An exchange has ended once it was replied to or dropped, where no remote move was begun in it.
abbrev pub has_ended : Exchange → Bool
has_ended e = is_settled e.stage && has_none e.moves

-- the process has begun a later Send than that of this number
abbrev pub is_past : ℕ → Option Process → Bool
is_past number p = holds_of (λ (p : Process). nat_lt number p.sends) p

-- The exchange of this number is over once it has ended and its sender has begun a later Send. Nothing is left of it then.
abbrev pub unless_over : Option Process → ℕ → Exchange → Option Exchange
unless_over sender number e = if is_past number sender && has_ended e then None else Some e

-- a kernel without the exchanges that are over
unfoldable pub current_kernel : Kernel → Kernel
current_kernel k = record k { exchanges = λ n. k.exchanges n >>= unless_over (k.procs n.sender) n.number }

-- a kernel without all of that
abbrev pub lean_kernel : Kernel → Kernel
lean_kernel k = emptied_kernel (current_kernel k)

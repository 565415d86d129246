-- The ranges of which a kernel keeps a note lie in the memories.
use Rattle.std.proofs.Common.{◌≡◌, ℕ, zero, suc, ◌+◌, ◌≤◌, true, List, length, Some, sym, ap, subst, ◌∙◌}
use Rattle.std.proofs.lemmas.Bool.{leb-true}
use Rattle.std.proofs.lemmas.List.Elements.{All-get_or}
use Rattle.std.proofs.lemmas.Option.{none-some, slice_get_within, get_or_from_slice_get}
use Rattle.vk_types.specs.Types.{Direction, Exchange, Message, Move, Name, Pid, Process}
use Rattle.vk_base.specs.declared.call.Call.TheVariants as calls
use Rattle.vk_base.specs.declared.kernel.Direction.TheVariants as directions
use Rattle.vk_base.specs.declared.kernel.Stage.TheVariants as stages
use Rattle.vk_base.specs.declared.kernel.State.TheVariants as states
use Rattle.vk_base.specs.Kernel.{Kernel, name_of, move_of}
use Rattle.vk_base.specs.Ranges.{range_of, lies_in}
use Rattle.v_laws.specs.Sizes.{IsSized, IsExchangeFit, IsMoveFit, range_asked, reply_fits, start_there, start_here}
use Rattle.v_machine.specs.Moves.{into_of}

lies : (size : Pid → ℕ) (k : Kernel) (pid : Pid) (p : Process) (start count : ℕ) → IsSized size k → k.procs pid ≡ Some p →
    lies_in (range_of start count) (size pid) ≡ true → start + count ≤ length p.memory
lies size k pid p start count sized there fits =
    leb-true (start + count) (length p.memory) (ap (lies_in (range_of start count)) (sized.memory pid p there) ∙ fits)

pub asked_room : (size : Pid → ℕ) (k : Kernel) (pid : Pid) (p : Process) (start count : ℕ) → IsSized size k → k.procs pid ≡ Some p →
    p.state ≡ states.Blocked (calls.ReceiveSegment start count) → start + count ≤ length p.memory
asked_room size k pid p start count sized there is =
    lies size k pid p start count sized there (sized.room pid p (range_of start count) there (ap range_asked is))

pub reply_room : (size : Pid → ℕ) (k : Kernel) (pid : Pid) (p : Process) (number : ℕ) (e : Exchange) (m : Message) (dest : ℕ)
    (bytes : List ℕ) → IsSized size k → k.procs pid ≡ Some p → k.exchanges (name_of pid number) ≡ Some e →
    e.stage ≡ stages.Replied m dest bytes → dest + length bytes ≤ length p.memory
reply_room size k pid p number e m dest bytes sized there at is =
    lies size k pid p dest (length bytes) sized there
    (ap (λ s. reply_fits s (size pid)) (sym is) ∙ (sized.exchanges (name_of pid number) e at).reply)

move_fit : (size : Pid → ℕ) (n : Name) (e : Exchange) (number : ℕ) (m : Move) → IsExchangeFit size n e → move_of e number ≡ Some m →
    IsMoveFit size n m
move_fit size n e zero m fit is = absurd (none-some m is)
move_fit size n e (suc number) m fit is = subst (IsMoveFit size n) (get_or_from_slice_get e.moves number m m is)
    (All-get_or (IsMoveFit size n) e.moves number m (slice_get_within e.moves number m is) fit.moves)

-- what a move from the sender reads
pub read_room : (size : Pid → ℕ) (k : Kernel) (n : Name) (p : Process) (e : Exchange) (number : ℕ) (m : Move) → IsSized size k →
    k.procs n.sender ≡ Some p → k.exchanges n ≡ Some e → move_of e number ≡ Some m → m.direction ≡ directions.From →
    m.src + m.count ≤ length p.memory
read_room size k n p e number m sized there at is from =
    lies size k n.sender p m.src m.count sized there
    (ap (λ d. lies_in (range_of (start_there d m.dest m.src) m.count) (size n.sender)) (sym from)
    ∙ (move_fit size n e number m (sized.exchanges n e at) is).there)

written_by : (size : Pid → ℕ) (sender mover : Pid) (dest src count : ℕ) (d : Direction) →
    lies_in (range_of (start_there d dest src) count) (size sender) ≡ true →
    lies_in (range_of (start_here d dest src) count) (size mover) ≡ true →
    lies_in (range_of dest count) (size (into_of sender d mover)) ≡ true
written_by size sender mover dest src count directions.To there here = there
written_by size sender mover dest src count directions.From there here = here

-- what a move writes
pub written_room : (size : Pid → ℕ) (k : Kernel) (n : Name) (p : Process) (e : Exchange) (number : ℕ) (m : Move) → IsSized size k →
    k.procs (into_of n.sender m.direction m.mover) ≡ Some p → k.exchanges n ≡ Some e → move_of e number ≡ Some m →
    m.dest + m.count ≤ length p.memory
written_room size k n p e number m sized there at is =
    let fit = move_fit size n e number m (sized.exchanges n e at) is in
    lies size k (into_of n.sender m.direction m.mover) p m.dest m.count sized there
    (written_by size n.sender m.mover m.dest m.src m.count m.direction fit.there fit.here)

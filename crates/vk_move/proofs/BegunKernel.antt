-- What the kernel does with a move that is not refused, whose partner is of another station: one of no bytes changes nothing, any other
-- is begun.
use Rattle.std.proofs.Common.{◌≡◌, ℕ, Bool, true, false, ◌||◌, ◌==◌, List, [], drop, take, refl, sym, ap, ◌∙◌, Option, Some, None}
use Rattle.std.proofs.lemmas.Bool.{cond-false, cond-true, eqb-true, or_right}
use Rattle.vk_types.specs.Types.{Call, Direction, Exchange, Move, Pid, Process}
use Rattle.vk_base.specs.declared.answer.Answer.TheVariants as answers
use Rattle.vk_base.specs.declared.kernel.Direction.TheVariants as directions
use Rattle.vk_base.specs.declared.step.Step.TheVariants as steps
use Rattle.vk_base.proofs.OptionLemmas.{bind_is}
use Rattle.vk_base.specs.Calls.{accepted, answered, begin_move, call_refusal, called, is_at_once, move_begun, new_move, unseen}
unfoldable use Rattle.vk_base.specs.Calls.{copied_at_once}
use Rattle.vk_base.specs.Kernel.{◌>>=◌, Kernel, held_up_to, name_of, put_process, with_memory}
unfoldable use Rattle.vk_base.specs.Kernel.{held}
use Rattle.vk_base.specs.Pids.{same_host, same_pid}
use Rattle.vk_base.specs.Ranges.{bytes_in, range_of, with_bytes}
use Rattle.vk_base.specs.Steps.{effect}
use Rattle.v_laws.proofs.SoundMoves.{with_no_bytes}
use Rattle.v_laws.proofs.Tables.{put_process_at, put_process_other, same_pid_is}
use Rattle.vk_move.proofs.Verdicts.{call_in}

-- the bytes that a move notes where it begins
abbrev pub noted_for : Direction → ℕ → ℕ → List ℕ → List ℕ
noted_for directions.To src count memory = bytes_in (range_of src count) memory
noted_for directions.From src count memory = []

abbrev pub move_in : Direction → Pid → (dest src count : ℕ) → List ℕ → Move
move_in way pid dest src count memory = new_move pid way dest src count (noted_for way src count memory)

-- a memory into which nothing is written
no_bytes : (src count : ℕ) (other : List ℕ) → (count == 0) ≡ true → bytes_in (range_of src count) other ≡ []
no_bytes src count other none = ap (λ n. take n (drop src other)) (eqb-true count 0 none)

same_memory : (memory : List ℕ) (dest src count : ℕ) (other : List ℕ) → (count == 0) ≡ true →
    with_bytes memory dest (bytes_in (range_of src count) other) ≡ memory
same_memory memory dest src count other none = ap (with_bytes memory dest) (no_bytes src count other none) ∙ with_no_bytes memory dest

-- a kernel of which one process has the memory that it had
same_by : (k : Kernel) (into : Pid) (q : Process) (memory : List ℕ) → k.procs into ≡ Some q → memory ≡ q.memory → (x : Pid) (b : Bool) →
    same_pid x into ≡ b → put_process k.procs into (record q { memory = memory }) x ≡ k.procs x
same_by k into q memory there same x true near =
    put_process_at k.procs into (record q { memory = memory }) x near
    ∙ (λ i. Some (record q { memory = same i })) ∙ sym there ∙ ap k.procs (sym (same_pid_is x into near))
same_by k into q memory there same x false other = put_process_other k.procs into (record q { memory = memory }) x other

same_kernel : (k : Kernel) (into : Pid) (q : Process) (memory : List ℕ) → k.procs into ≡ Some q → memory ≡ q.memory →
    with_memory k into q memory ≡ k
same_kernel k into q memory there same = λ i. record k { procs = λ x. same_by k into q memory there same x (same_pid x into) refl i }

-- a process that is held is known
pub known_held : (k : Kernel) (holder sender : Pid) (number : ℕ) → held k holder sender ≡ Some number →
    (q : Process) × (k.procs sender ≡ Some q)
unfolding held
known_held k holder sender number is =
    let x = bind_is (k.procs sender) (λ (p : Process). held_up_to k.exchanges holder sender p.sends) number is in (x.0, x.1)

module _ (k : Kernel) (pid : Pid) (p : Process) (here : k.procs pid ≡ Some p) (partner : Pid) (way : Direction) (dest src count : ℕ)
    (free : call_refusal k pid p (call_in way partner dest src count) ≡ None) where
  abbrev call : Call
  call = call_in way partner dest src count

  accepts : effect k (steps.Call pid call) ≡ accepted k pid p call
  accepts = ap (λ (o : Option Process). o >>= λ p. called k pid p call (call_refusal k pid p call)) here ∙ ap (called k pid p call) free

  -- of no bytes
  module _ (none : (count == 0) ≡ true) (q : Process) (there : k.procs partner ≡ Some q) where
    at_once : is_at_once pid partner count ≡ true
    at_once = or_right (same_host pid partner) (count == 0) none

    made_by : (w : Direction) → accepted k pid p (call_in w partner dest src count)
        ≡ Some (answered k pid (call_in w partner dest src count) answers.Ok)
    unfolding copied_at_once
    made_by directions.To =
        let c : Call = call_in directions.To partner dest src count in
        cond-true (is_at_once pid partner count) (copied_at_once k pid c partner dest (bytes_in (range_of src count) p.memory))
        (begin_move k pid p c partner (move_in directions.To pid dest src count p.memory)) at_once
        ∙ ap (λ (o : Option Process). o >>= λ q. Some (answered (with_memory k partner q
        (with_bytes q.memory dest (bytes_in (range_of src count) p.memory))) pid c answers.Ok)) there
        ∙ ap (λ l. Some (answered l pid c answers.Ok)) (same_kernel k partner q
        (with_bytes q.memory dest (bytes_in (range_of src count) p.memory)) there (same_memory q.memory dest src count p.memory none))
    made_by directions.From =
        let c : Call = call_in directions.From partner dest src count in
        cond-true (is_at_once pid partner count)
        (k.procs partner >>= λ q. copied_at_once k pid c pid dest (bytes_in (range_of src count) q.memory))
        (begin_move k pid p c partner (move_in directions.From pid dest src count p.memory)) at_once
        ∙ ap (λ (o : Option Process). o >>= λ q. k.procs pid >>= λ p. Some (answered (with_memory k pid p
        (with_bytes p.memory dest (bytes_in (range_of src count) q.memory))) pid c answers.Ok)) there
        ∙ ap (λ (o : Option Process). o >>= λ p. Some (answered (with_memory k pid p
        (with_bytes p.memory dest (bytes_in (range_of src count) q.memory))) pid c answers.Ok)) here
        ∙ ap (λ l. Some (answered l pid c answers.Ok)) (same_kernel k pid p
        (with_bytes p.memory dest (bytes_in (range_of src count) q.memory)) here (same_memory p.memory dest src count q.memory none))

    pub made_at_once : effect k (steps.Call pid call) ≡ Some (answered k pid call answers.Ok)
    made_at_once = accepts ∙ made_by way

  -- of some, with a partner of another station that is held
  module _ (some : (count == 0) ≡ false) (away : same_host pid partner ≡ false) (number : ℕ) (e : Exchange)
      (holds : held k pid partner ≡ Some number) (is : k.exchanges (name_of partner number) ≡ Some e) where
    later : is_at_once pid partner count ≡ false
    later = λ i. away i || some i

    begun_by : (w : Direction) → accepted k pid p (call_in w partner dest src count)
        ≡ begin_move k pid p (call_in w partner dest src count) partner (move_in w pid dest src count p.memory)
    begun_by directions.To =
        let c : Call = call_in directions.To partner dest src count in
        cond-false (is_at_once pid partner count) (copied_at_once k pid c partner dest (bytes_in (range_of src count) p.memory))
        (begin_move k pid p c partner (move_in directions.To pid dest src count p.memory)) later
    begun_by directions.From =
        let c : Call = call_in directions.From partner dest src count in
        cond-false (is_at_once pid partner count)
        (k.procs partner >>= λ q. copied_at_once k pid c pid dest (bytes_in (range_of src count) q.memory))
        (begin_move k pid p c partner (move_in directions.From pid dest src count p.memory)) later

    pub begins_there : effect k (steps.Call pid call)
        ≡ Some (unseen (move_begun k pid p call (name_of partner number) e (move_in way pid dest src count p.memory)))
    begins_there =
        let m : Move = move_in way pid dest src count p.memory in
        accepts ∙ begun_by way
        ∙ ap (λ (o : Option ℕ). o >>= λ n. k.exchanges (name_of partner n) >>= λ e. Some
        (unseen (move_begun k pid p call (name_of partner n)
        e m))) holds
        ∙ ap (λ (o : Option Exchange). o >>= λ e. Some (unseen (move_begun k pid p call (name_of partner number) e m))) is

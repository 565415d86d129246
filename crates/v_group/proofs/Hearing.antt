-- What a process loads behind a receive stood in the segment of the sender that it received from, when that called for its Send.
use Rattle.std.proofs.Common.{◌≡◌, ℕ, ◌+◌, ◌<◌, ◌≤◌, Bool, true, false, min, List, [], ◌∷◌, ◌++◌, length, take, Option, Some, None, is_some, refl, sym, ap, ◌∙◌, inl, inr, arith}
use Rattle.std.proofs.lemmas.Bool.{cases_lt, cond-true, cond-false, le-leb, leb-true}
use Rattle.std.proofs.lemmas.Option.{same_Some}
use Rattle.std.proofs.Math.Nat.{min-eq_left, min-eq_right, min-le_left}
use Rattle.vk_types.specs.Types.{Answer, Call, Exchange, Message, Name, Pid, Process, ProcessSpec, Step}
use Rattle.vk_base.specs.declared.answer.Answer.TheVariants as answers
use Rattle.vk_base.specs.declared.call.Call.TheVariants as calls
use Rattle.vk_base.specs.declared.kernel.State.TheVariants as states
use Rattle.vk_base.specs.declared.limits.TheConstants.{MESSAGE_BYTES, SEGMENT_BYTES}
use Rattle.vk_base.specs.declared.step.Step.TheVariants as steps
use Rattle.vk_base.specs.Calls.{first_part}
use Rattle.vk_base.specs.Kernel.{Kernel, receiving}
use Rattle.vk_base.specs.Messages.{grants_read, segment_of}
use Rattle.vk_base.specs.Pids.{same_host}
use Rattle.vk_base.specs.Ranges.{range_of, lies_in, bytes_in, with_bytes}
use Rattle.vk_base.specs.Steps.{effect, received, with_part}
use Rattle.v_laws.specs.Places.{before, process_at, taken_at, taken_by}
use Rattle.v_laws.proofs.MoveLists.{all_bytes}
use Rattle.v_laws.proofs.PlaceLemmas.{at_place, before_sound, turn}
use Rattle.v_laws.proofs.Queues.{taken_was_queued}
use Rattle.v_laws.proofs.StepLemmas.{taking_is}
use Rattle.v_laws.proofs.Tables.{same_pid_is}
use Rattle.vk_base.specs.Steps.{Taking}
use Rattle.vk_base.proofs.ListLemmas.{take_all}
use Rattle.std.specs.Prelude.{option_map}
use Rattle.v_pages.specs.Followed.{FollowsTask, answers_before}
use Rattle.v_pages.proofs.Lists.{read_back}
use Rattle.v_pages.proofs.Sent.{IsMade, is_there, made_by}
use Rattle.v_group.proofs.Stepping.{IsOwnTake, IsPlainTask, in_call, own_take}
use Rattle.v_group.proofs.Taking.{done_in, taken_since}
use Rattle.v_group.proofs.Timeline.{IsStepOf, collected_at, since}

-- A process that received, and is ready since.
pub record IsHeard (specs : List ProcessSpec) (ss : List Step) (r : Pid) (i : ℕ) (p : Process) (from : Pid) (asks : Message)
    (count start room : ℕ) : Type 0 where
  pub place : ℕ
  pub earlier : place < i
  pub was : Process
  pub now : Process
  pub step : IsStepOf specs ss r place was now
  pub is : step.step ≡ steps.Take r
  pub taken : IsOwnTake step.kernel r step.did was now
  pub sender : taken.take.name.sender ≡ from
  pub shown : taken.take.exchange.shown ≡ asks
  pub size : min room (length taken.take.exchange.part) ≡ count
  pub memory : p.memory ≡ with_bytes was.memory start (take room taken.take.exchange.part)
  pub still : (z : ℕ) → place < z → z ≤ i → (q : Process) × (process_at specs ss z r ≡ Some q) × (receiving q.state ≡ None)
  pub front : answers_before specs ss r i ≡ answers_before specs ss r place ++ answers.ReceivedSegment from asks count ∷ []

done_call : (c d : Call) (a b : Answer) → states.Done c a ≡ states.Done d b → c ≡ d
done_call c d a b e = cc

done_answer : (c d : Call) (a b : Answer) → states.Done c a ≡ states.Done d b → a ≡ b
done_answer c d a b e = cc

heard_sender : (s t : Pid) (m n : Message) (a b : ℕ) → answers.ReceivedSegment s m a ≡ answers.ReceivedSegment t n b → s ≡ t
heard_sender s t m n a b e = cc

heard_message : (s t : Pid) (m n : Message) (a b : ℕ) → answers.ReceivedSegment s m a ≡ answers.ReceivedSegment t n b → m ≡ n
heard_message s t m n a b e = cc

heard_count : (s t : Pid) (m n : Message) (a b : ℕ) → answers.ReceivedSegment s m a ≡ answers.ReceivedSegment t n b → a ≡ b
heard_count s t m n a b e = cc

pub heard_from : (task : List Answer → Option Call) (specs : List ProcessSpec) (ss : List Step) (r : Pid) → IsPlainTask task →
    FollowsTask task specs ss r → (i : ℕ) (k : Kernel) (p : Process) (g : List Answer) (from : Pid) (asks : Message) (count start room : ℕ) →
    before specs ss i ≡ Some k → k.procs r ≡ Some p → p.state ≡ states.Ready →
    answers_before specs ss r i ≡ g ++ answers.ReceivedSegment from asks count ∷ [] →
    task g ≡ Some (calls.ReceiveSegment start room) → IsHeard specs ss r i p from asks count start room
heard_from task specs ss r plain follows i k p g from asks count start room at there ready split next =
    let a : Answer = answers.ReceivedSegment from asks count in
    let receive : Call = calls.ReceiveSegment start room in
    let s = since task specs ss r plain follows g a i k p at there (ap in_call ready) split in
    let c = collected_at task specs ss r plain follows i p g a refl s in
    let called : c.call ≡ receive = same_Some c.call receive (sym c.told ∙ next) in
    let state : s.was.state ≡ states.Done receive a = c.state ∙ ap (λ z. states.Done z a) called in
    let t = taken_since task specs ss r plain follows s.place s.step.kernel s.was start room s.step.at s.step.there (ap done_in state) in
    let o = own_take t.step.kernel r t.step.did t.was s.was t.step.there t.step.left (ap (effect t.step.kernel) (sym t.is) ∙ t.step.does) in
    let x = o.take.exchange in
    let both = ap (λ (z : Process). z.state) o.after ∙ state in
    let call : o.take.call ≡ receive = done_call o.take.call receive (received o.take.call o.take.name.sender x) a both in
    let got : answers.ReceivedSegment o.take.name.sender x.shown (min room (length x.part)) ≡ a =
    ap (λ z. received z o.take.name.sender x) (sym call)
    ∙ done_answer o.take.call receive (received o.take.call o.take.name.sender x) a both in
    let first = s.earlier in
    let second = t.earlier in
    record {
      place = t.place;
      earlier = omega arith;
      was = t.was;
      now = s.was;
      step = t.step;
      is = t.is;
      taken = o;
      sender = heard_sender o.take.name.sender from x.shown asks (min room (length x.part)) count got;
      shown = heard_message o.take.name.sender from x.shown asks (min room (length x.part)) count got;
      size = heard_count o.take.name.sender from x.shown asks (min room (length x.part)) count got;
      memory = c.memory ∙ ap (λ (z : Process). z.memory) (sym o.after) ∙ ap (λ z. with_part z x t.was.memory) call;
      still = λ z more less. elim (cases_lt s.place z) [
        | inl above ↦ (p, s.still z above less, ap receiving ready)
        | inr below ↦ (s.was, t.still z more (omega arith), ap receiving state)
      ];
      front = split ∙ ap (λ xs. xs ++ a ∷ []) (sym (t.front ∙ s.front));
    }

-- What is loaded behind it, where it is as much as a message.
pub record IsSentBy (specs : List ProcessSpec) (ss : List Step) (r : Pid) (i : ℕ) (from : Pid) (got : List ℕ)
    (n : Name) (x : Exchange) : Type 0 where
  pub made : IsMade specs ss i n x
  pub sender : n.sender ≡ from
  pub near : same_host x.target r ≡ true
  pub reads : grants_read x.message ≡ true
  pub size : (segment_of x.message).len ≡ MESSAGE_BYTES
  pub bytes : got ≡ bytes_in (segment_of x.message) made.caller.memory

no_more : (room n count : ℕ) → count < room → min room n ≡ count → n ≡ count
no_more room n count few e = elim (cases_lt n room) [
  | inl less ↦ let le : n ≤ room = omega arith in sym (min-eq_right le) ∙ e
  | inr more ↦ let same : room ≡ count = sym (min-eq_left more) ∙ e in absurd (omega arith)
]

read_part : (memory part : List ℕ) (room : ℕ) → length part ≤ room →
    bytes_in (range_of 0 (length part)) (with_bytes memory 0 (take room part)) ≡ part
read_part memory part room few =
    ap (λ xs. bytes_in (range_of 0 (length part)) (with_bytes memory 0 xs)) (take_all part room few)
    ∙ read_back memory 0 part (omega arith)

part_reads : (m : Message) (memory : List ℕ) (b : Bool) → grants_read m ≡ b → length (first_part m memory) ≡ MESSAGE_BYTES → b ≡ true
part_reads m memory true is size = refl
part_reads m memory false is size =
    let none : length (first_part m memory) ≡ 0 =
    ap length (cond-false (grants_read m) (bytes_in (range_of (segment_of m).start (min (segment_of m).len SEGMENT_BYTES)) memory) [] is) in
    absurd (omega arith)

pub reads_of : (m : Message) (memory : List ℕ) → length (first_part m memory) ≡ MESSAGE_BYTES → grants_read m ≡ true
reads_of m memory size = part_reads m memory (grants_read m) refl size

whole_part : (m : Message) (memory : List ℕ) → length (first_part m memory) ≡ MESSAGE_BYTES →
    lies_in (segment_of m) (length memory) ≡ true →
    ((segment_of m).len ≡ MESSAGE_BYTES) × (first_part m memory ≡ bytes_in (segment_of m) memory)
whole_part m memory size room =
    let r = segment_of m in
    let part : first_part m memory ≡ bytes_in (range_of r.start (min r.len SEGMENT_BYTES)) memory =
    cond-true (grants_read m) (bytes_in (range_of r.start (min r.len SEGMENT_BYTES)) memory) [] (reads_of m memory size) in
    let ends = leb-true (r.start + r.len) (length memory) room in
    let most = min-le_left r.len SEGMENT_BYTES in
    let count : min r.len SEGMENT_BYTES ≡ MESSAGE_BYTES =
    sym (all_bytes r.start (min r.len SEGMENT_BYTES) memory (le-leb (r.start + min r.len SEGMENT_BYTES) (length memory) (omega arith)))
    ∙ ap length (sym part) ∙ size in
    let len : r.len ≡ MESSAGE_BYTES = short r.len count in
    (len, part ∙ ap (λ n. bytes_in (range_of r.start n) memory) (count ∙ sym len))
  where
    short : (n : ℕ) → min n SEGMENT_BYTES ≡ MESSAGE_BYTES → n ≡ MESSAGE_BYTES
    short n e = elim (cases_lt n SEGMENT_BYTES) [
      | inl less ↦ let le : n ≤ SEGMENT_BYTES = omega arith in sym (min-eq_left le) ∙ e
      | inr more ↦ let same : SEGMENT_BYTES ≡ MESSAGE_BYTES = sym (min-eq_right more) ∙ e in absurd (omega arith)
    ]

pub taken_there : (specs : List ProcessSpec) (ss : List Step) (r : Pid) (i : ℕ) (p : Process) (from : Pid) (asks : Message)
    (count start room : ℕ) (h : IsHeard specs ss r i p from asks count start room) →
    h.step.kernel.exchanges h.taken.take.name ≡ Some h.taken.take.exchange
taken_there specs ss r i p from asks count start room h = (taking_is h.step.kernel r h.taken.take h.taken.takes).exchange

pub name_taken : (specs : List ProcessSpec) (ss : List Step) (r : Pid) (i : ℕ) (p : Process) (from : Pid) (asks : Message)
    (count start room : ℕ) (h : IsHeard specs ss r i p from asks count start room) → taken_at specs ss h.place ≡ Some h.taken.take.name
name_taken specs ss r i p from asks count start room h =
    at_place taken_by specs ss h.place h.step.kernel (steps.Take r) h.step.at (h.step.is ∙ ap (λ (z : Step). Some z) h.is)
    ∙ ap (option_map (λ (t : Taking). t.name)) h.taken.takes

pub sent_by : (specs : List ProcessSpec) (ss : List Step) (r : Pid) (i : ℕ) (p : Process) (from : Pid) (asks : Message)
    (h : IsHeard specs ss r i p from asks MESSAGE_BYTES 0 SEGMENT_BYTES) →
    IsSentBy specs ss r h.place from (bytes_in (range_of 0 MESSAGE_BYTES) p.memory) h.taken.take.name h.taken.take.exchange
sent_by specs ss r i p from asks h =
    let n = h.taken.take.name in
    let x = h.taken.take.exchange in
    let k = h.step.kernel in
    let there = taken_there specs ss r i p from asks MESSAGE_BYTES 0 SEGMENT_BYTES h in
    let m = made_by specs ss h.place n k x h.step.at there (turn specs ss (is_there n) refl h.place k h.step.at (ap is_some there)) in
    let sound = before_sound specs ss h.place k h.step.at in
    let here = same_pid_is x.at r (taken_was_queued k r h.taken.take h.taken.takes).0 in
    let size : length x.part ≡ MESSAGE_BYTES = no_more SEGMENT_BYTES (length x.part) MESSAGE_BYTES (omega arith) h.size in
    let own : length (first_part x.message m.caller.memory) ≡ MESSAGE_BYTES = ap length (sym m.part) ∙ size in
    let whole = whole_part x.message m.caller.memory own m.room in
    record {
      made = m;
      sender = h.sender;
      near = ap (same_host x.target) (sym here) ∙ sound.near n x there;
      reads = reads_of x.message m.caller.memory own;
      size = whole.0;
      bytes = ap (bytes_in (range_of 0 MESSAGE_BYTES)) h.memory
          ∙ ap (λ c. bytes_in (range_of 0 c) (with_bytes h.was.memory 0 (take SEGMENT_BYTES x.part))) (sym size)
          ∙ read_part h.was.memory x.part SEGMENT_BYTES (omega arith) ∙ m.part ∙ whole.1;
    }

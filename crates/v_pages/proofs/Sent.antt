-- A lawful write has the bytes of its sender as they were at the Send.
use Rattle.std.proofs.Common.{◌≡◌, ℕ, suc, ◌+◌, ◌<◌, Bool, true, ◌&&◌, min, not, List, [], ◌∷◌, length, take, slice_get, Option, Some, is_some, refl, sym, ap, subst, ◌∙◌, inl, inr, arith}
use Rattle.std.proofs.lemmas.Bool.{both_ways, cond-true, not-false}
use Rattle.std.proofs.lemmas.List.{append-nil}
use Rattle.std.proofs.lemmas.Option.{same_Some}
use Rattle.std.proofs.Math.Seq.{take-append_seam}
use Rattle.vk_types.specs.Types.{Exchange, Message, Name, Pid, Process, ProcessSpec, Step}
use Rattle.vk_base.specs.declared.answer.Refusal.TheVariants as refusals
use Rattle.vk_base.specs.declared.call.Call.TheVariants as calls
use Rattle.vk_base.specs.declared.limits.TheConstants.{SEGMENT_BYTES}
use Rattle.vk_base.specs.declared.step.Step.TheVariants as steps
use Rattle.vk_base.specs.Calls.{first_part, unseen}
use Rattle.vk_base.specs.Kernel.{◌>>=◌, Kernel, is_live}
use Rattle.vk_base.specs.Messages.{grants_read, segment_of}
use Rattle.vk_base.specs.Pids.{same_host}
use Rattle.vk_base.specs.Ranges.{range_of, lies_in, bytes_in, with_bytes}
use Rattle.vk_base.specs.Steps.{taken, with_part}
use Rattle.vk_event.specs.declared.task.TheConstants.{PAGE_BYTES}
use Rattle.vk_pages.specs.Servers.{server_call}
use Rattle.v_laws.specs.Places.{before, process_at}
use Rattle.v_laws.proofs.Later.{IsLater, IsNew, exchange_before}
use Rattle.v_laws.proofs.MoveLists.{all_bytes}
use Rattle.v_laws.proofs.OnceLemmas.{go_on}
use Rattle.v_laws.proofs.Options.{some_there}
use Rattle.v_laws.proofs.PlaceLemmas.{IsTurn, before_after, before_sound, turn}
use Rattle.v_laws.proofs.Queues.{taken_was_queued}
use Rattle.v_laws.proofs.SoundLemmas.{step_is}
use Rattle.v_laws.proofs.StepLemmas.{passes_first, taking_is}
use Rattle.v_laws.proofs.Tables.{same_pid_is}
use Rattle.v_pages.specs.Followed.{FollowsTask, answers_before, calls_before}
use Rattle.v_pages.specs.PageMap.{is_lawful_write}
use Rattle.v_pages.specs.Requests.{Request, request_at, requests_before}
use Rattle.v_pages.specs.Written.{IsSentBefore}
use Rattle.v_pages.proofs.Collected.{left_at}
use Rattle.v_pages.proofs.Lists.{read_back}
use Rattle.v_pages.proofs.Places.{server_before}
use Rattle.v_pages.proofs.Staying.{as_sent, keeps_each, never_hands}
use Rattle.v_pages.proofs.Taken.{request_is}
use Rattle.v_pages.proofs.Turns.{after_take, waiting_when}

-- An exchange was made by a Send.
pub record IsMade (specs : List ProcessSpec) (ss : List Step) (i : ℕ) (n : Name) (e : Exchange) : Type 0 where
  pub place : ℕ
  pub earlier : place < i
  pub caller : Process
  pub at : process_at specs ss place n.sender ≡ Some caller
  pub is : slice_get ss place ≡ Some (steps.Call n.sender (calls.Send e.target e.message))
  pub number : n.number ≡ caller.sends + 1
  pub alive : caller.alive ≡ true
  pub room : lies_in (segment_of e.message) (length caller.memory) ≡ true
  pub part : e.part ≡ first_part e.message caller.memory

abbrev pub is_there : Name → Kernel → Bool
is_there n k = is_some (k.exchanges n)

made_new : (specs : List ProcessSpec) (ss : List Step) (i : ℕ) (n : Name) (t : IsTurn specs ss (is_there n) i) (y e : Exchange) →
    IsNew t.kernel t.step n y → IsLater y e → IsMade specs ss i n e
made_new specs ss i n t y e new later =
    let target : e.target ≡ new.target = later.target ∙ ap (λ (x : Exchange). x.target) new.is in
    let message : e.message ≡ new.message = later.message ∙ ap (λ (x : Exchange). x.message) new.is in
    let fits = passes_first (not (lies_in (segment_of new.message) (length new.process.memory))) refusals.BadSegment
    ((same_host n.sender new.target && not (is_live (t.kernel.procs new.target)), refusals.NoProcess) ∷ []) new.fit.rest in
    record {
      place = t.place;
      earlier = t.earlier;
      caller = new.process;
      at = ap (λ (o : Option Kernel). o >>= λ k. k.procs n.sender) t.at ∙ new.at;
      is = t.is ∙ ap (λ (z : Step). Some z) new.send ∙ (λ j. Some (steps.Call n.sender (calls.Send (sym target j) (sym message j))));
      number = new.number;
      alive = new.fit.alive;
      room = ap (λ m. lies_in (segment_of m) (length new.process.memory)) message
          ∙ not-false (lies_in (segment_of new.message) (length new.process.memory)) fits.0;
      part = later.part ∙ ap (λ (x : Exchange). x.part) new.is ∙ ap (λ m. first_part m new.process.memory) (sym message);
    }

pub made_by : (specs : List ProcessSpec) (ss : List Step) (i : ℕ) (n : Name) (k : Kernel) (e : Exchange) → before specs ss i ≡ Some k →
    k.exchanges n ≡ Some e → IsTurn specs ss (is_there n) i → IsMade specs ss i n e
made_by specs ss i n k e at there t =
    let earlier = t.earlier in
    let sound = before_sound specs ss t.place t.kernel t.at in
    let y = some_there (t.did.after.exchanges n) t.now in
    let on = go_on specs ss (suc t.place) i t.did.after k (omega arith)
    (before_after specs ss t.place t.kernel t.step t.did t.at t.is t.does) at n y.0 y.1 in
    elim (exchange_before t.step t.kernel t.did.after n y.0 sound (step_is t.kernel t.step t.did sound t.does) y.1) [
      | inl x ↦ absurd (both_ways (is_there n t.kernel) t.was (ap is_some x.1))
      | inr new ↦ made_new specs ss i n t y.0 e new (subst (IsLater y.0) (same_Some on.0 e (sym on.1 ∙ there)) on.2)
    ]

pub made_at : (specs : List ProcessSpec) (ss : List Step) (i : ℕ) (n : Name) (k : Kernel) (e : Exchange) → before specs ss i ≡ Some k →
    k.exchanges n ≡ Some e → IsMade specs ss i n e
made_at specs ss i n k e at there = made_by specs ss i n k e at there (turn specs ss (is_there n) refl i k at (ap is_some there))

-- The part of a Send that lets be read as many bytes as a page has is all of its segment.
whole_part : (m : Message) (memory : List ℕ) → grants_read m ≡ true → (segment_of m).len ≡ PAGE_BYTES →
    first_part m memory ≡ bytes_in (segment_of m) memory
whole_part m memory reads size =
    cond-true (grants_read m) (bytes_in (range_of (segment_of m).start (min (segment_of m).len SEGMENT_BYTES)) memory) [] reads
    ∙ ap (λ n. bytes_in (range_of (segment_of m).start (min n SEGMENT_BYTES)) memory) size
    ∙ ap (λ n. bytes_in (range_of (segment_of m).start n) memory) (sym size)

part_size : (m : Message) (memory : List ℕ) → (segment_of m).len ≡ PAGE_BYTES → lies_in (segment_of m) (length memory) ≡ true →
    length (bytes_in (segment_of m) memory) ≡ PAGE_BYTES
part_size m memory size room =
    ap (λ n. length (bytes_in (range_of (segment_of m).start n) memory)) size
    ∙ all_bytes (segment_of m).start PAGE_BYTES memory
    (ap (λ n. lies_in (range_of (segment_of m).start n) (length memory)) (sym size) ∙ room)

-- it is what stands from address 0 on after the Take
read_whole : (memory part : List ℕ) → length part ≡ PAGE_BYTES →
    bytes_in (range_of 0 PAGE_BYTES) (with_bytes memory 0 (take PAGE_BYTES part)) ≡ part
read_whole memory part size =
    (λ j. bytes_in (range_of 0 (sym size j)) (with_bytes memory 0 (take (sym size j) part)))
    ∙ ap (λ xs. bytes_in (range_of 0 (length part)) (with_bytes memory 0 xs)) all
    ∙ read_back memory 0 part (omega arith)
  where
    all : take (length part) part ≡ part
    all = ap (take (length part)) (sym (append-nil part)) ∙ take-append_seam part []

pub writes_sent : (specs : List ProcessSpec) (ss : List Step) (r : Pid) (pages requests i : ℕ) (q : Request) →
    FollowsTask (server_call pages requests) specs ss r → request_at specs ss r i ≡ Some q → is_lawful_write pages q.message ≡ true →
    IsSentBefore specs ss i r q
writes_sent specs ss r pages requests i q follows takes lawful =
    let a = request_is specs ss r i q takes in
    let t = a.take in
    let is = taking_is a.kernel r t a.takes in
    let there : a.kernel.exchanges q.name ≡ Some t.exchange = ap a.kernel.exchanges a.name ∙ is.exchange in
    let m = made_at specs ss i q.name a.kernel t.exchange a.at there in
    let sound = before_sound specs ss i a.kernel a.at in
    let here = same_pid_is t.exchange.at r (taken_was_queued a.kernel r t a.takes).0 in
    let server = server_before pages requests specs ss r follows i a.kernel t.process a.at is.process in
    let w = waiting_when pages server.kept (requests_before specs ss r i) t.process server.stage (length (calls_before ss r i))
    (length (answers_before specs ss r i)) t.process.state t.call server.doing is.call in
    let left = sym (left_at specs ss i a.kernel (steps.Take r) (unseen (taken a.kernel r t)) r a.at a.is
    (ap (λ o. o >>= λ x. Some (unseen (taken a.kernel r x))) a.takes)) ∙ a.left in
    let memory = ap (λ (z : Process). z.memory) (after_take a.kernel r t a.after left) in
    record {
      place = m.place;
      earlier = m.earlier;
      target = t.exchange.target;
      near = ap (same_host t.exchange.target) (sym here) ∙ sound.near q.name t.exchange there;
      message = t.exchange.message;
      is = m.is;
      caller = m.caller;
      at = m.at;
      number = m.number;
      own = λ to.
          let never = never_hands ss r (keeps_each pages requests specs ss r follows) in
          sym (as_sent specs ss r never i a.kernel a.at q.name t.exchange there to).shown ∙ sym a.message;
      bytes = λ reads size.
          let part : t.exchange.part ≡ bytes_in (segment_of t.exchange.message) m.caller.memory =
          m.part ∙ whole_part t.exchange.message m.caller.memory reads size in
          let all = ap length part ∙ part_size t.exchange.message m.caller.memory size m.room in
          a.bytes ∙ ap (bytes_in (range_of 0 PAGE_BYTES)) (sym memory)
          ∙ ap (λ c. bytes_in (range_of 0 PAGE_BYTES) (with_part c t.exchange t.process.memory)) w.call
          ∙ read_whole t.process.memory t.exchange.part all ∙ part;
    }

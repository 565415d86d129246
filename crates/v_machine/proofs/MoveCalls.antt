-- What MoveTo and MoveFrom do where they are not refused.
use Rattle.std.proofs.Common.{◌≡◌, ℕ, ◌+◌, ◌<◌, ◌≤◌, true, false, nat_le, [], length, Option, Some, None, is_some, Result, Ok, Err, refl, sym, ap, subst, ◌∙◌, arith, if◌then◌else◌}
use Rattle.std.proofs.lemmas.Bool.{and_parts, leb-true, cond-true, cond-false}
use Rattle.vk_types.specs.Types.{Call, Exchange, Move, Observation, Pid, Process, Range, Refusal}
use Rattle.vk_base.specs.declared.answer.Answer.TheVariants as answers
use Rattle.vk_base.specs.declared.call.Call.TheVariants as calls
use Rattle.vk_base.specs.declared.kernel.Direction.TheVariants as directions
use Rattle.vk_base.specs.Calls.{Effect, called, first_that_holds, tests_of, unseen, answered, is_at_once, copied_at_once, new_move, move_begun, begin_move, move_to, move_from}
use Rattle.vk_base.specs.Kernel.{◌>>=◌, Kernel, held, name_of, with_memory}
use Rattle.vk_base.specs.Messages.{segment_of}
use Rattle.vk_base.specs.Ranges.{range_of, lies_in, lies_within, bytes_in, with_bytes}
use Rattle.v_laws.specs.Sizes.{IsSized}
use Rattle.v_machine.specs.declared.tables.Store.{Store}
use Rattle.v_machine.specs.declared.refusal.ApplyRefusal.{ApplyRefusal}
use Rattle.v_machine.specs.declared.refusal.ApplyRefusal.TheVariants as refused
use Rattle.v_machine.specs.declared.calls.response.Response.{Response}
use Rattle.v_machine.specs.declared.calls.response.Response.TheVariants as responses
use Rattle.v_machine.specs.Apply.{is_begun}
use Rattle.v_machine.specs.Kept.{IsIndexed, kernel_in}
use Rattle.v_machine.specs.Moves.{BeginsOrNot}
use Rattle.v_machine.specs.Rules.{Answers, Stays, judged, seen_result}
use Rattle.v_machine.proofs.StepLemmas.{found}
use Rattle.v_machine.proofs.Stores.{stays}

-- a range within a segment lies where the segment does
pub within : (r outer : Range) (size : ℕ) → lies_within r outer ≡ true → lies_in outer size ≡ true → r.start + r.len ≤ size
within r outer size inside fits =
    let parts = and_parts (nat_le outer.start r.start) (nat_le (r.start + r.len) (outer.start + outer.len)) inside in
    let low = leb-true (r.start + r.len) (outer.start + outer.len) parts.1 in
    let high = leb-true (outer.start + outer.len) size fits in
    omega arith

module _ (k : Kernel) (pid : Pid) (p : Process) (c : Call) (partner : Pid) (dest src count : ℕ) where
  pub to_now : (q : Process) → is_at_once pid partner count ≡ true → k.procs partner ≡ Some q →
      move_to k pid p c partner dest src count ≡ Some
      (answered (with_memory k partner q (with_bytes q.memory dest (bytes_in (range_of src count) p.memory))) pid c answers.Ok)
  unfolding copied_at_once
  to_now q once there = cond-true (is_at_once pid partner count)
      (copied_at_once k pid c partner dest (bytes_in (range_of src count) p.memory)) _ once ∙ found (k.procs partner) q _ _ there refl

  pub from_now : (q : Process) → is_at_once pid partner count ≡ true → k.procs partner ≡ Some q → k.procs pid ≡ Some p →
      move_from k pid p c partner dest src count ≡ Some
      (answered (with_memory k pid p (with_bytes p.memory dest (bytes_in (range_of src count) q.memory))) pid c answers.Ok)
  unfolding copied_at_once
  from_now q once there here =
      cond-true (is_at_once pid partner count)
      (k.procs partner >>= λ q. copied_at_once k pid c pid dest (bytes_in (range_of src count) q.memory)) _ once
      ∙ found (k.procs partner) q _ _ there (found (k.procs pid) p _ _ here refl)

  begin_is : (number : ℕ) (e : Exchange) (m : Move) → held k pid partner ≡ Some number → k.exchanges (name_of partner number) ≡ Some e →
      begin_move k pid p c partner m ≡ Some (unseen (move_begun k pid p c (name_of partner number) e m))
  begin_is number e m holds at = found (held k pid partner) number _ _ holds (found (k.exchanges (name_of partner number)) e _ _ at refl)

  pub to_begun : (number : ℕ) (e : Exchange) → is_at_once pid partner count ≡ false → held k pid partner ≡ Some number →
      k.exchanges (name_of partner number) ≡ Some e →
      move_to k pid p c partner dest src count ≡ Some
      (unseen (move_begun k pid p c (name_of partner number) e
      (new_move pid directions.To dest src count (bytes_in (range_of src count) p.memory))))
  to_begun number e away holds at = cond-false (is_at_once pid partner count) _
      (begin_move k pid p c partner (new_move pid directions.To dest src count (bytes_in (range_of src count) p.memory))) away
      ∙ begin_is number e _ holds at

  pub from_begun : (number : ℕ) (e : Exchange) → is_at_once pid partner count ≡ false → held k pid partner ≡ Some number →
      k.exchanges (name_of partner number) ≡ Some e →
      move_from k pid p c partner dest src count ≡ Some
      (unseen (move_begun k pid p c (name_of partner number) e (new_move pid directions.From dest src count [])))
  from_begun number e away holds at = cond-false (is_at_once pid partner count) _
      (begin_move k pid p c partner (new_move pid directions.From dest src count [])) away ∙ begin_is number e _ holds at

-- What is answered, by what is noted.
pub none_noted : (o : Option Effect) (k : Kernel) (x : Observation) (count : ℕ) → o ≡ Some (record { after = k; seen = Some x }) →
    (if is_begun o then count else 0) ≡ 0
none_noted o k x count is = ap (λ o. if is_begun o then count else 0) is

pub all_noted : (o : Option Effect) (k : Kernel) (count : ℕ) → o ≡ Some (unseen k) → (if is_begun o then count else 0) ≡ count
all_noted o k count is = ap (λ o. if is_begun o then count else 0) is

zero_low : (noted room : ℕ) → noted ≡ 0 → noted ≤ room
zero_low noted room none = omega arith

pub sees : (o : Option Effect) (noted room : ℕ) (x : Observation) (s t : Store) → o ≡ Some (record { after = kernel_in t; seen = Some x }) →
    noted ≡ 0 → IsIndexed t → Answers o noted room s t (Ok (Some x))
sees o noted room x s t is none indexed = (record { effect = is; indexed = indexed }, zero_low noted room none)

pub wants : (o : Option Effect) (noted room : ℕ) (e : Effect) (s t : Store) → o ≡ Some e → noted ≡ 0 → Stays s t →
    Answers o noted room s t (Err refused.NoMemory)
wants o noted room e s t is none stays = (ap is_some is, zero_low noted room none, stays)

pub begins : (o : Option Effect) (noted count room : ℕ) (pid : Pid) (p : Process) (c : Call) (partner : Pid) (number : ℕ) (e : Exchange)
    (m : Move) (s t : Store) (r : Result Response ApplyRefusal) → (kernel_in s).procs pid ≡ Some p →
    (kernel_in s).exchanges (name_of partner number) ≡ Some e →
    o ≡ Some (unseen (move_begun (kernel_in s) pid p c (name_of partner number) e m)) → noted ≡ count →
    BeginsOrNot pid c partner number count room m s t r → Answers o noted room s t (seen_result pid c r)
begins o noted count room pid p c partner number e m s t (Ok v) there at is same b =
    let after = b.2 p e there at in
    let low = b.1 in
    subst (λ v. Answers o noted room s t (seen_result pid c (Ok v))) (sym b.0)
    (record { effect = is ∙ ap (λ k. Some (unseen k)) (sym after.0); indexed = after.1 }, subst (λ n. n ≤ room) (sym same) low)
begins o noted count room pid p c partner number e m s t (Err refused.NotAllowed) there at is same b = absurd b
begins o noted count room pid p c partner number e m s t (Err refused.Limit) there at is same b =
    (ap is_some is, subst (λ n. room < n) (sym same) b.0, b.1)
begins o noted count room pid p c partner number e m s t (Err refused.NoMemory) there at is same b =
    (ap is_some is, subst (λ n. n ≤ room) (sym same) b.0, b.1)

-- what a MoveTo notes
abbrev noted_to : Store → Pid → Process → Pid → ℕ → ℕ → ℕ → ℕ
noted_to s pid p partner dest src count = if is_begun (judged (kernel_in s) pid p (calls.MoveTo partner dest src count)) then count else 0

module _ (s : Store) (pid : Pid) (p : Process) (partner : Pid) (dest src count room : ℕ) where
  pub to_refused : (why : Refusal) → first_that_holds (tests_of (kernel_in s) pid p (calls.MoveTo partner dest src count)) ≡ Some why →
      IsIndexed s →
      Answers (judged (kernel_in s) pid p (calls.MoveTo partner dest src count)) (noted_to s pid p partner dest src count) room s s
      (seen_result pid (calls.MoveTo partner dest src count) (Ok (responses.Refused why)))
  to_refused why tests indexed =
      let call = calls.MoveTo partner dest src count in
      let o = judged (kernel_in s) pid p call in
      let x : Observation = record { pid = pid; call = call; answer = answers.Refused why } in
      let is : o ≡ Some (record { after = kernel_in s; seen = Some x }) = ap (called (kernel_in s) pid p call) tests in
      sees o (if is_begun o then count else 0) room x s s is (none_noted o (kernel_in s) x count is) indexed

  to_is : (q : Process) → first_that_holds (tests_of (kernel_in s) pid p (calls.MoveTo partner dest src count)) ≡ None →
      is_at_once pid partner count ≡ true → (kernel_in s).procs partner ≡ Some q →
      judged (kernel_in s) pid p (calls.MoveTo partner dest src count) ≡ Some
      (answered (with_memory (kernel_in s) partner q (with_bytes q.memory dest (bytes_in (range_of src count) p.memory))) pid
      (calls.MoveTo partner dest src count) answers.Ok)
  to_is q tests once there = ap (called (kernel_in s) pid p (calls.MoveTo partner dest src count)) tests
      ∙ to_now (kernel_in s) pid p (calls.MoveTo partner dest src count) partner dest src count q once there

  pub to_wants : (q : Process) (t : Store) → first_that_holds (tests_of (kernel_in s) pid p (calls.MoveTo partner dest src count)) ≡ None →
      is_at_once pid partner count ≡ true → (kernel_in s).procs partner ≡ Some q → Stays s t →
      Answers (judged (kernel_in s) pid p (calls.MoveTo partner dest src count)) (noted_to s pid p partner dest src count) room s t
      (Err refused.NoMemory)
  to_wants q t tests once there stays =
      let call = calls.MoveTo partner dest src count in
      let o = judged (kernel_in s) pid p call in
      let after = with_memory (kernel_in s) partner q (with_bytes q.memory dest (bytes_in (range_of src count) p.memory)) in
      let is = to_is q tests once there in
      wants o (if is_begun o then count else 0) room (answered after pid call answers.Ok) s t is
      (none_noted o after (record { pid = pid; call = call; answer = answers.Ok }) count is) stays

  pub to_copied : (q : Process) (t : Store) → first_that_holds (tests_of (kernel_in s) pid p (calls.MoveTo partner dest src count)) ≡ None →
      is_at_once pid partner count ≡ true → (kernel_in s).procs partner ≡ Some q →
      kernel_in t ≡ with_memory (kernel_in s) partner q (with_bytes q.memory dest (bytes_in (range_of src count) p.memory)) → IsIndexed t →
      Answers (judged (kernel_in s) pid p (calls.MoveTo partner dest src count)) (noted_to s pid p partner dest src count) room s t
      (seen_result pid (calls.MoveTo partner dest src count) (Ok responses.Ok))
  to_copied q t tests once there copied indexed =
      let call = calls.MoveTo partner dest src count in
      let o = judged (kernel_in s) pid p call in
      let x : Observation = record { pid = pid; call = call; answer = answers.Ok } in
      let is : o ≡ Some (record { after = kernel_in t; seen = Some x }) = to_is q tests once there
      ∙ ap (λ z. Some (answered z pid call answers.Ok)) (sym copied) in
      sees o (if is_begun o then count else 0) room x s t is (none_noted o (kernel_in t) x count is) indexed

  pub to_begins : (number : ℕ) (e : Exchange) (t : Store) (r : Result Response ApplyRefusal) → (kernel_in s).procs pid ≡ Some p →
      first_that_holds (tests_of (kernel_in s) pid p (calls.MoveTo partner dest src count)) ≡ None → is_at_once pid partner count ≡ false →
      held (kernel_in s) pid partner ≡ Some number → (kernel_in s).exchanges (name_of partner number) ≡ Some e →
      BeginsOrNot pid (calls.MoveTo partner dest src count) partner number count room
      (new_move pid directions.To dest src count (bytes_in (range_of src count) p.memory)) s t r →
      Answers (judged (kernel_in s) pid p (calls.MoveTo partner dest src count)) (noted_to s pid p partner dest src count) room s t
      (seen_result pid (calls.MoveTo partner dest src count) r)
  to_begins number e t r here tests away holds at begun =
      let call = calls.MoveTo partner dest src count in
      let o = judged (kernel_in s) pid p call in
      let m = new_move pid directions.To dest src count (bytes_in (range_of src count) p.memory) in
      let is : o ≡ Some (unseen (move_begun (kernel_in s) pid p call (name_of partner number) e m)) =
      ap (called (kernel_in s) pid p call) tests ∙ to_begun (kernel_in s) pid p call partner dest src count number e away holds at in
      begins o (if is_begun o then count else 0) count room pid p call partner number e m s t r here at is
      (all_noted o (move_begun (kernel_in s) pid p call (name_of partner number) e m) count is) begun

module _ (s : Store) (pid : Pid) (p : Process) (partner : Pid) (dest src count : ℕ) (here : (kernel_in s).procs pid ≡ Some p) where
  from_is : (q : Process) → first_that_holds (tests_of (kernel_in s) pid p (calls.MoveFrom partner dest src count)) ≡ None →
      is_at_once pid partner count ≡ true → (kernel_in s).procs partner ≡ Some q →
      judged (kernel_in s) pid p (calls.MoveFrom partner dest src count) ≡ Some
      (answered (with_memory (kernel_in s) pid p (with_bytes p.memory dest (bytes_in (range_of src count) q.memory))) pid
      (calls.MoveFrom partner dest src count) answers.Ok)
  from_is q tests once there = ap (called (kernel_in s) pid p (calls.MoveFrom partner dest src count)) tests
      ∙ from_now (kernel_in s) pid p (calls.MoveFrom partner dest src count) partner dest src count q once there here

  pub from_wants : (q : Process) (t : Store) → first_that_holds
      (tests_of (kernel_in s) pid p (calls.MoveFrom partner dest src count)) ≡ None → is_at_once pid partner count ≡ true →
      (kernel_in s).procs partner ≡ Some q → Stays s t →
      Answers (judged (kernel_in s) pid p (calls.MoveFrom partner dest src count)) 0 0 s t (Err refused.NoMemory)
  from_wants q t tests once there stays =
      wants (judged (kernel_in s) pid p (calls.MoveFrom partner dest src count)) 0 0 _ s t (from_is q tests once there) refl stays

  pub from_copied : (q : Process) (t : Store) → first_that_holds
      (tests_of (kernel_in s) pid p (calls.MoveFrom partner dest src count)) ≡ None → is_at_once pid partner count ≡ true →
      (kernel_in s).procs partner ≡ Some q →
      kernel_in t ≡ with_memory (kernel_in s) pid p (with_bytes p.memory dest (bytes_in (range_of src count) q.memory)) → IsIndexed t →
      Answers (judged (kernel_in s) pid p (calls.MoveFrom partner dest src count)) 0 0 s t
      (seen_result pid (calls.MoveFrom partner dest src count) (Ok responses.Ok))
  from_copied q t tests once there copied indexed =
      let call = calls.MoveFrom partner dest src count in
      sees (judged (kernel_in s) pid p call) 0 0 (record { pid = pid; call = call; answer = answers.Ok }) s t
      (from_is q tests once there ∙ ap (λ z. Some (answered z pid call answers.Ok)) (sym copied)) refl indexed

  pub from_begins : (number : ℕ) (e : Exchange) (t : Store) (r : Result Response ApplyRefusal) →
      first_that_holds (tests_of (kernel_in s) pid p (calls.MoveFrom partner dest src count)) ≡ None →
      is_at_once pid partner count ≡ false → held (kernel_in s) pid partner ≡ Some number →
      (kernel_in s).exchanges (name_of partner number) ≡ Some e →
      BeginsOrNot pid (calls.MoveFrom partner dest src count) partner number 0 0 (new_move pid directions.From dest src count []) s t r →
      Answers (judged (kernel_in s) pid p (calls.MoveFrom partner dest src count)) 0 0 s t
      (seen_result pid (calls.MoveFrom partner dest src count) r)
  from_begins number e t r tests away holds at begun =
      let call = calls.MoveFrom partner dest src count in
      begins (judged (kernel_in s) pid p call) 0 0 0 pid p call partner number e (new_move pid directions.From dest src count []) s t r here
      at
      (ap (called (kernel_in s) pid p call) tests ∙ from_begun (kernel_in s) pid p call partner dest src count number e away holds at) refl
      begun

-- a range that is granted lies in the memory of the sender
pub granted_lies : (size : Pid → ℕ) (k : Kernel) (partner : Pid) (number : ℕ) (e : Exchange) (q : Process) (r : Range) → IsSized size k →
    k.exchanges (name_of partner number) ≡ Some e → k.procs partner ≡ Some q → lies_within r (segment_of e.message) ≡ true →
    r.start + r.len ≤ length q.memory
granted_lies size k partner number e q r sized at there lies =
    subst (λ n. r.start + r.len ≤ n) (sym (sized.memory partner q there))
    (within r (segment_of e.message) (size partner) lies (sized.exchanges (name_of partner number) e at).segment)

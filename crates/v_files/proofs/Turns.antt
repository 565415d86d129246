-- A file server after any step.
use Rattle.std.proofs.Common.{◌≡◌, ℕ, suc, ◌+◌, ◌≤◌, true, false, is_none, min, List, [], ◌∷◌, ◌++◌, length, Option, Some, None, option_to_list, refl, sym, ap, subst, ◌∙◌, inl, inr, arith}
use Rattle.std.proofs.lemmas.Bool.{both_ways, cases_Bool, cond-true}
use Rattle.std.proofs.lemmas.List.{append-nil}
use Rattle.std.proofs.lemmas.Option.{same_Some, none-some}
use Rattle.vk_types.specs.Types.{Answer, Call, Ending, MoveName, Pid, Process, ProcessSpec, Refusal, State, Step}
use Rattle.vk_base.specs.declared.answer.Answer.TheVariants as answers
use Rattle.vk_base.specs.declared.answer.Ending.TheVariants as endings
use Rattle.vk_base.specs.declared.answer.Refusal.TheVariants as refusals
use Rattle.vk_base.specs.declared.call.Call.TheVariants as calls
use Rattle.vk_base.specs.declared.kernel.State.TheVariants as states
use Rattle.vk_base.specs.declared.step.Step.TheVariants as steps
use Rattle.vk_base.specs.Calls.{Effect, unseen}
use Rattle.vk_base.specs.Kernel.{◌>>=◌, Kernel, as_receive, ended, finished_call, is_moving, is_ready, receiving, sending, waiting_on, with_state}
use Rattle.vk_base.specs.Pids.{same_pid}
use Rattle.vk_base.specs.Ranges.{range_of, bytes_in}
use Rattle.vk_base.specs.Steps.{Taking, effect, ending, finishing, move_ending, only_if, received}
use Rattle.vk_base.proofs.OptionLemmas.{bind_is}
use Rattle.vk_base.proofs.PidLemmas.{same_pid_self}
use Rattle.vk_event.specs.declared.task.TheConstants.{PAGE_BYTES}
use Rattle.vk_files.specs.Servers.{Server, moved, received as received_turn}
use Rattle.vk_files.specs.Tasks.{file_call, server_after}
use Rattle.vk_files.specs.Volumes.{files_of}
use Rattle.vk_files.specs.declared.disk.Telling.{Telling}
use Rattle.vk_files.specs.declared.entry.Entry.{Entry}
use Rattle.vk_files.specs.declared.entry.File.{File}
use Rattle.vk_files.specs.declared.limits.TheConstants.{BLOCK_BYTES, FILE_BYTES}
use Rattle.vk_files.specs.declared.serving.FileServing.{FileServing}
use Rattle.vk_files.specs.declared.serving.FileServing.TheVariants as stages
use Rattle.v_laws.specs.Places.{before}
use Rattle.v_laws.specs.Sizes.{size_in}
use Rattle.v_laws.specs.Sound.{IsSound}
use Rattle.v_laws.proofs.MovePlaces.{before_sized, before_written}
use Rattle.v_laws.proofs.PlaceLemmas.{before_sound}
use Rattle.v_laws.proofs.StepLemmas.{ending_is, finishing_is, only_if_is, taking_is}
use Rattle.v_laws.proofs.Tables.{put_process_here}
use Rattle.v_pages.specs.Followed.{call_by}
use Rattle.v_pages.specs.Requests.{Request}
use Rattle.v_pages.proofs.Calling.{one_given, outcome_of, told}
use Rattle.v_pages.proofs.Own.{OwnStep, other_call, other_take, other_told, own_step, which_step}
use Rattle.v_pages.proofs.Places.{KeepsStanding, StandsNext}
use Rattle.v_pages.proofs.Taken.{reached_before}
use Rattle.v_pages.proofs.Touched.{Touched, is_waiting, touched}
use Rattle.v_pages.proofs.Turns.{MayCall, collect_by, left_alone, request_by, take_by}
use Rattle.v_files.specs.Volumes.{IsVolume, file_bytes}
use Rattle.v_files.proofs.Asked.{answers_otherwise, asked, not_zero}
use Rattle.v_files.proofs.Calling.{IsKernelKnown, answered_with, at_stage, call_on}
use Rattle.v_files.proofs.Disks.{file_on, server_fit}
use Rattle.v_files.proofs.Moved.{IsMild, IsMoved, move_ended, moved_step, moving_step}
use Rattle.v_files.proofs.Standing.{After, Doing, HasAnswer, IsServerInMove, IsOverMove, ServerAt, Standing, Waits}

pub known_at : (specs : List ProcessSpec) (ss : List Step) (i : ℕ) (k : Kernel) → before specs ss i ≡ Some k → IsKernelKnown specs k
known_at specs ss i k at = record {
  sound = before_sound specs ss i k at;
  written = before_written specs ss i k at;
  sized = before_sized specs ss i k at;
  reached = reached_before specs ss i k at;
}

-- A server over a disk that can be served, in a process with room.
pub record IsRoomy (specs : List ProcessSpec) (blocks : List (List ℕ)) (r : Pid) : Type 0 where
  pub room : FILE_BYTES ≤ size_in specs r
  pub volume : IsVolume blocks

next_as : (blocks : List (List ℕ)) (requests : ℕ) (telling : List Answer → Telling) (r : Pid) (made : ℕ) (given : List Answer)
    (all : List Request) (c d : Option Call) (a b : Option Answer) (q w : Option Request) (k : Kernel) (y : Process) → c ≡ d → a ≡ b →
    q ≡ w → StandsNext (ServerAt blocks requests telling r) made given all d b w k y →
    StandsNext (ServerAt blocks requests telling r) made given all c a q k y
next_as blocks requests telling r made given all c d a b q w k y cd ab qw next =
    subst (λ z. StandsNext (ServerAt blocks requests telling r) made given all z a q k y) (sym cd)
    (subst (λ z. StandsNext (ServerAt blocks requests telling r) made given all d z q k y) (sym ab)
    (subst (λ z. StandsNext (ServerAt blocks requests telling r) made given all d b z k y) (sym qw) next))

-- Its own call.
pub ready_when : (count : ℕ) (files : List Entry) (r : Pid) (s : Server) (made given : ℕ) (all : List Request) (k : Kernel) (p : Process)
    (t : State) → Doing count files r s made given all k p t → given ≡ made → t ≡ states.Ready
ready_when count files r s made given all k p states.Ready doing same = refl
ready_when count files r s made given all k p (states.Blocked c) doing same = let more = doing.0 in absurd (omega arith)
ready_when count files r s made given all k p (states.Done c a) doing same = let more = doing.0 in absurd (omega arith)

call_next : (specs : List ProcessSpec) (blocks : List (List ℕ)) (requests : ℕ) (telling : List Answer → Telling) (r : Pid) (made : ℕ)
    (given : List Answer) (all : List Request) (k : Kernel) (c : Call) (e : Effect) (p y : Process) → IsKernelKnown specs k →
    IsRoomy specs blocks r → ServerAt blocks requests telling r made given all k p → length given ≡ made →
    file_call blocks requests telling given ≡ Some c → k.procs r ≡ Some p → e.after.procs r ≡ Some y →
    effect k (steps.Call r c) ≡ Some e → StandsNext (ServerAt blocks requests telling r) made given all (Some c) (told r e) None e.after y
call_next specs blocks requests telling r made given all k c e p y known roomy at count next there later does =
    let s = server_after blocks requests telling given in
    let ready = ready_when (length blocks) (files_of blocks) r s made (length given) all k p p.state at count in
    let standing = (subst (Doing (length blocks) (files_of blocks) r s made (length given) all k p) ready at).1 in
    let more : suc made ≡ made + 1 = omega arith in
    subst (λ n. ServerAt blocks requests telling r n (given ++ option_to_list (told r e)) (all ++ []) e.after y) more
    (subst (λ qs. ServerAt blocks requests telling r (suc made) (given ++ option_to_list (told r e)) qs e.after y) (sym (append-nil all))
    (call_on specs blocks requests telling r made given all s.replies s.blocks s.stage k c e p y
    (record {
      server = refl;
      count = sym count;
      known = known;
      room = subst (λ n. FILE_BYTES ≤ n) (sym (known.sized.memory r p there)) roomy.room;
      fit = server_fit blocks requests telling given roomy.volume;
      call = record { at = there; ready = ready; later = later };
    })
    does standing next (outcome_of k r p c e there does)))

-- It takes a request.
record IsWaiting (stage : FileServing) (c : Call) : Type 0 where
  call : c ≡ calls.ReceiveSegment 0 BLOCK_BYTES
  receives : stage ≡ stages.Receive

waits_at : (count : ℕ) (files : List Entry) (r : Pid) (blocks : List (List ℕ)) (all : List Request) (k : Kernel) (p : Process) (d c : Call)
    (stage : FileServing) → Waits count files r blocks all k p d stage → as_receive d ≡ Some c → IsWaiting stage c
waits_at count files r blocks all k p d c stages.Receive w is =
    record { call = sym (same_Some (calls.ReceiveSegment 0 BLOCK_BYTES) c (ap as_receive (sym w) ∙ is)); receives = refl }
waits_at count files r blocks all k p d c (stages.Load from f page) w is = absurd w
waits_at count files r blocks all k p d c (stages.Store from f page dest bytes) w is = absurd w
waits_at count files r blocks all k p d c (stages.ReplyPage from f page dest) w is = absurd w
waits_at count files r blocks all k p d c (stages.Gather from f at dest bytes) w is = absurd w
waits_at count files r blocks all k p d c (stages.Move from f dest) w is = absurd (none-some c (ap as_receive (sym w.call) ∙ is))
waits_at count files r blocks all k p d c (stages.Reply from code file number) w is = absurd w
waits_at count files r blocks all k p d c stages.Exit w is = absurd w
waits_at count files r blocks all k p d c stages.Ended w is = absurd w

record IsWaitingNow (made given : ℕ) (stage : FileServing) (c : Call) : Type 0 where
  more : made ≡ given + 1
  is : IsWaiting stage c

waiting_when : (count : ℕ) (files : List Entry) (r : Pid) (s : Server) (made given : ℕ) (all : List Request) (k : Kernel) (p : Process)
    (t : State) (c : Call) → Doing count files r s made given all k p t → receiving t ≡ Some c → IsWaitingNow made given s.stage c
waiting_when count files r s made given all k p states.Ready c doing is = absurd (none-some c is)
waiting_when count files r s made given all k p (states.Blocked d) c doing is =
    record { more = doing.0; is = waits_at count files r s.blocks all k p d c s.stage doing.1 is }
waiting_when count files r s made given all k p (states.Done d a) c doing is = absurd (none-some c is)

take_next : (blocks : List (List ℕ)) (requests : ℕ) (telling : List Answer → Telling) (r : Pid) (made : ℕ) (given : List Answer)
    (all : List Request) (k : Kernel) (e : Effect) (p y : Process) → ServerAt blocks requests telling r made given all k p →
    k.procs r ≡ Some p → e.after.procs r ≡ Some y → effect k (steps.Take r) ≡ Some e →
    StandsNext (ServerAt blocks requests telling r) made given all None (told r e) (request_by r k (steps.Take r) e) e.after y
take_next blocks requests telling r made given all k e p y at there later does =
    let s = server_after blocks requests telling given in
    let count = length blocks in
    let files = files_of blocks in
    let b = take_by k r e p y there later does in
    let t = b.take in
    let q : Request =
    record { name = t.name; message = t.exchange.shown; bytes = bytes_in (range_of 0 PAGE_BYTES) y.memory } in
    let w = waiting_when count files r s made (length given) all k p p.state t.call at
    (ap (λ (z : Process). receiving z.state) (sym b.own) ∙ (taking_is k r t b.takes).call) in
    let a = received t.call t.name.sender t.exchange in
    let more = w.more in
    next_as blocks requests telling r made given all None None (told r e) None (request_by r k (steps.Take r) e) (Some q) e.after y refl
    b.sees_none b.asks
    (subst (λ gs. ServerAt blocks requests telling r (made + 0) gs (all ++ q ∷ []) e.after y) (sym (append-nil given))
    (subst (Doing count files r s (made + 0) (length given) (all ++ q ∷ []) e.after y)
    (ap (λ (z : Process). z.state) b.now) (
      omega arith,
      subst (HasAnswer count files r s.blocks (all ++ q ∷ []) e.after a) (sym w.is.receives)
          (record {
            earlier = all;
            request = q;
            last = refl;
            count = min BLOCK_BYTES (length t.exchange.part);
            answer = ap (λ c. received c t.name.sender t.exchange) w.is.call;
          }),
    )))

-- It collects an answer.
record IsCollected (count : ℕ) (files : List Entry) (r : Pid) (s : Server) (made given : ℕ) (all : List Request) (k : Kernel)
    (a : Answer) : Type 0 where
  more : made ≡ given + 1
  is : HasAnswer count files r s.blocks all k a s.stage

collected_when : (count : ℕ) (files : List Entry) (r : Pid) (s : Server) (made given : ℕ) (all : List Request) (k : Kernel) (p : Process)
    (t : State) (d : Call × Answer) → Doing count files r s made given all k p t → finished_call t ≡ Some d →
    IsCollected count files r s made given all k d.1
collected_when count files r s made given all k p states.Ready d doing is = absurd (none-some d is)
collected_when count files r s made given all k p (states.Blocked c) d doing is = absurd (none-some d is)
collected_when count files r s made given all k p (states.Done c a) d doing is = record {
  more = doing.0;
  is = subst (λ a. HasAnswer count files r s.blocks all k a s.stage) (ap (λ (z : Call × Answer). z.1) (same_Some (c, a) d is)) doing.1;
}

done_not_ready : (t : State) (d : Call × Answer) → finished_call t ≡ Some d → is_ready t ≡ true → ⊥
done_not_ready states.Ready d is ready = none-some d is
done_not_ready (states.Blocked c) d is ready = none-some d is
done_not_ready (states.Done c a) d is ready = both_ways false refl ready

still_alive : (k : Kernel) (r : Pid) (p : Process) (d : Call × Answer) → IsSound k → k.procs r ≡ Some p → finished_call p.state ≡ Some d →
    p.alive ≡ true
still_alive k r p d sound at is = elim (cases_Bool p.alive) [
  | inl t ↦ t
  | inr f ↦ absurd (done_not_ready p.state d is (sound.resting r p at f))
]

-- after the move
over_move : (count : ℕ) (files : List Entry) (r : Pid) (t : Telling) (blocks : List (List ℕ)) (all : List Request) (k l : Kernel)
    (y : Process) (from : Pid) (f : File) (dest : ℕ) (a : Answer) → IsOverMove count files r blocks all k a from f dest →
    (IsMoved k r from dest (file_bytes blocks f) → IsMoved l r from dest (file_bytes blocks f)) →
    After count files r t blocks all l y (moved from f a)
over_move count files r t blocks all k l y from f dest answers.Ok o on = record {
  serving = o.load.serving;
  loaded = λ load done. record {
    file = f;
    asked = o.load.asked;
    number_is = refl;
    long_is = refl;
    size = o.size;
    moved = subst (λ n. IsMoved l r from n (file_bytes blocks f)) (sym o.load.place) (on (o.moved refl));
  };
}
over_move count files r t blocks all k l y from f dest a o on =
    answers_otherwise files blocks all l r from 4 0 0 o.load.serving (not_zero 3)

collect_mild : (r : Pid) → IsMild r (steps.Collect r)
collect_mild r = record { takes = λ e. not_take e; hands = λ m from to e. not_call (calls.Forward m from to) e; moves = λ c e. absurd (not_call c e) }
  where
    not_take : steps.Collect r ≡ steps.Take r → ⊥
    not_take e = cc

    not_call : (c : Call) → steps.Collect r ≡ steps.Call r c → ⊥
    not_call c e = cc

collected_on : (specs : List ProcessSpec) (blocks : List (List ℕ)) (requests : ℕ) (telling : List Answer → Telling) (r : Pid) (made : ℕ)
    (given : List Answer) (all : List Request) (replies : ℕ) (kept : List (List ℕ)) (stage : FileServing) (k : Kernel) (e : Effect)
    (y : Process) (a : Answer) → IsSound k → IsVolume blocks → server_after blocks requests telling given ≡ at_stage kept replies stage →
    made ≡ length (given ++ a ∷ []) → effect k (steps.Collect r) ≡ Some e → y.alive ≡ true → told r e ≡ Some a →
    y.state ≡ states.Ready → HasAnswer (length blocks) (files_of blocks) r kept all k a stage →
    ServerAt blocks requests telling r made (given ++ option_to_list (told r e)) all e.after y
collected_on specs blocks requests telling r made given all replies kept stages.Receive k e y a sound volume server count does alive seen
    ready h =
    answered_with blocks requests telling r made given all replies kept stages.Receive a (told r e) e.after y server count seen ready
    (subst (λ z. After (length blocks) (files_of blocks) r (telling (given ++ a ∷ [])) kept all e.after y
    (received_turn (files_of blocks) z)) (sym h.answer)
    (asked (length blocks) (files_of blocks) r (telling (given ++ a ∷ [])) kept all e.after y h.earlier h.request h.last alive
    (λ number f is. file_on blocks number f volume is)))
collected_on specs blocks requests telling r made given all replies kept (stages.Move from f dest) k e y a sound volume server count does
    alive seen ready h =
    answered_with blocks requests telling r made given all replies kept (stages.Move from f dest) a (told r e) e.after y server count seen
    ready
    (over_move (length blocks) (files_of blocks) r (telling (given ++ a ∷ [])) kept all k e.after y from f dest a h
    (moved_step k (steps.Collect r) e r from dest (file_bytes kept f) sound does (collect_mild r)))
collected_on specs blocks requests telling r made given all replies kept (stages.Load from f page) k e y a sound volume server count does
    alive seen ready h = absurd h
collected_on specs blocks requests telling r made given all replies kept (stages.Store from f page dest bytes) k e y a sound volume server
    count does alive seen ready h = absurd h
collected_on specs blocks requests telling r made given all replies kept (stages.ReplyPage from f page dest) k e y a sound volume server
    count does alive seen ready h = absurd h
collected_on specs blocks requests telling r made given all replies kept (stages.Gather from f at dest bytes) k e y a sound volume server
    count does alive seen ready h = absurd h
collected_on specs blocks requests telling r made given all replies kept (stages.Reply from code file number) k e y a sound volume server
    count does alive seen ready h = absurd h
collected_on specs blocks requests telling r made given all replies kept stages.Exit k e y a sound volume server count does alive seen
    ready h = absurd h
collected_on specs blocks requests telling r made given all replies kept stages.Ended k e y a sound volume server count does alive seen
    ready h = absurd h

collect_next : (specs : List ProcessSpec) (blocks : List (List ℕ)) (requests : ℕ) (telling : List Answer → Telling) (r : Pid) (made : ℕ)
    (given : List Answer) (all : List Request) (k : Kernel) (e : Effect) (p y : Process) → IsSound k → IsVolume blocks →
    ServerAt blocks requests telling r made given all k p → k.procs r ≡ Some p → e.after.procs r ≡ Some y →
    effect k (steps.Collect r) ≡ Some e →
    StandsNext (ServerAt blocks requests telling r) made given all None (told r e) None e.after y
collect_next specs blocks requests telling r made given all k e p y sound volume at there later does =
    let s = server_after blocks requests telling given in
    let b = collect_by k r e p y there later does in
    let got = collected_when (length blocks) (files_of blocks) r s made (length given) all k p p.state (b.call, b.answer) at b.done in
    let more = got.more in
    let size = one_given given b.answer in
    let none : made ≡ made + 0 = omega arith in
    subst (λ n. ServerAt blocks requests telling r n (given ++ option_to_list (told r e)) (all ++ []) e.after y) none
    (subst (λ qs. ServerAt blocks requests telling r made (given ++ option_to_list (told r e)) qs e.after y) (sym (append-nil all))
    (collected_on specs blocks requests telling r made given all s.replies s.blocks s.stage k e y b.answer sound volume refl (omega arith)
    does (ap (λ (z : Process). z.alive) (sym b.after) ∙ still_alive k r p (b.call, b.answer) sound there b.done) b.sees
    (ap (λ (z : Process). z.state) (sym b.after)) got.is))

-- Steps of others.
other_mild : (r : Pid) (s : Step) → own_step r s ≡ false → IsMild r s
other_mild r s other = record {
  takes = λ e. not_own (steps.Take r) (same_pid_self r) e;
  hands = λ m from to e. not_own (steps.Call r (calls.Forward m from to)) (same_pid_self r) e;
  moves = λ c e. absurd (not_own (steps.Call r c) (same_pid_self r) e);
}
  where
    not_own : (t : Step) → own_step r t ≡ true → s ≡ t → ⊥
    not_own t own same = both_ways (own_step r s) other (ap (own_step r) same ∙ own)

standing_step : (count : ℕ) (files : List Entry) (r : Pid) (blocks : List (List ℕ)) (all : List Request) (k : Kernel) (s : Step) (e : Effect)
    (p : Process) (stage : FileServing) → IsSound k → effect k s ≡ Some e → IsMild r s → Standing count files r blocks all k p stage →
    Standing count files r blocks all e.after p stage
standing_step count files r blocks all k s e p stages.Receive sound does mild st = st
standing_step count files r blocks all k s e p (stages.Load from f page) sound does mild st = st
standing_step count files r blocks all k s e p (stages.Store from f page dest bytes) sound does mild st = st
standing_step count files r blocks all k s e p (stages.ReplyPage from f page dest) sound does mild st = st
standing_step count files r blocks all k s e p (stages.Gather from f at dest bytes) sound does mild st = st
standing_step count files r blocks all k s e p (stages.Move from f dest) sound does mild st = st
standing_step count files r blocks all k s e p (stages.Reply from code number long) sound does mild st = record {
  serving = st.serving;
  loaded = λ load done.
      let h = st.loaded load done in
      record {
        file = h.file;
        asked = h.asked;
        number_is = h.number_is;
        long_is = h.long_is;
        size = h.size;
        moved = moved_step k s e r from _ (file_bytes blocks h.file) sound does mild h.moved;
      };
}
standing_step count files r blocks all k s e p stages.Exit sound does mild st = st
standing_step count files r blocks all k s e p stages.Ended sound does mild st = st

answer_step : (count : ℕ) (files : List Entry) (r : Pid) (blocks : List (List ℕ)) (all : List Request) (k : Kernel) (s : Step) (e : Effect)
    (a : Answer) (stage : FileServing) → IsSound k → effect k s ≡ Some e → IsMild r s → HasAnswer count files r blocks all k a stage →
    HasAnswer count files r blocks all e.after a stage
answer_step count files r blocks all k s e a stages.Receive sound does mild h = h
answer_step count files r blocks all k s e a (stages.Load from f page) sound does mild h = h
answer_step count files r blocks all k s e a (stages.Store from f page dest bytes) sound does mild h = h
answer_step count files r blocks all k s e a (stages.ReplyPage from f page dest) sound does mild h = h
answer_step count files r blocks all k s e a (stages.Gather from f at dest bytes) sound does mild h = h
answer_step count files r blocks all k s e a (stages.Move from f dest) sound does mild h = record {
  load = h.load;
  size = h.size;
  moved = λ ok. moved_step k s e r from dest (file_bytes blocks f) sound does mild (h.moved ok);
}
answer_step count files r blocks all k s e a (stages.Reply from code file number) sound does mild h = h
answer_step count files r blocks all k s e a stages.Exit sound does mild h = h
answer_step count files r blocks all k s e a stages.Ended sound does mild h = h

-- A move that is over.
refused_not_ok : (why : Refusal) → answers.Refused why ≡ answers.Ok → ⊥
refused_not_ok why e = cc

ok_alone : (k : Kernel) (m : MoveName) (why : Ending) (a : Answer) → move_ending k m why ≡ Some a → a ≡ answers.Ok → why ≡ endings.Ok
ok_alone k m endings.Ok a g ok = refl
ok_alone k m endings.Gone a g ok = absurd (refused_not_ok refusals.Gone
    (same_Some (answers.Refused refusals.Gone) a (only_if_is (is_none (waiting_on k m.exchange))
    (Some (answers.Refused refusals.Gone)) a g).1 ∙ ok))
ok_alone k m endings.TimedOut a g ok =
    absurd (refused_not_ok refusals.TimedOut (same_Some (answers.Refused refusals.TimedOut) a g ∙ ok))
ok_alone k m endings.NoProcess a g ok = absurd (none-some a g)

ending_ok : (k : Kernel) (r : Pid) (why : Ending) (x : Process × Answer) → ending k r why ≡ Some x → x.1 ≡ answers.Ok → why ≡ endings.Ok
unfolding ending
ending_ok k r why x g ok =
    let p = bind_is (k.procs r) _ x g in
    let m = bind_is (only_if (is_moving p.0.state) p.0.moving) _ x p.2 in
    let a = bind_is (move_ending k m.0 why) _ x m.2 in
    ok_alone k m.0 why a.0 a.1 (ap (λ (z : Process × Answer). z.1) (same_Some (p.0, a.0) x a.2) ∙ ok)

end_mild : (r : Pid) (why : Ending) → IsMild r (steps.End r why)
end_mild r why = record { takes = λ e. not_take e; hands = λ m from to e. not_call (calls.Forward m from to) e; moves = λ c e. absurd (not_call c e) }
  where
    not_take : steps.End r why ≡ steps.Take r → ⊥
    not_take e = cc

    not_call : (c : Call) → steps.End r why ≡ steps.Call r c → ⊥
    not_call c e = cc

move_over : (specs : List ProcessSpec) (count : ℕ) (files : List Entry) (r : Pid) (s : Server) (made given : ℕ) (all : List Request)
    (k : Kernel) (e : Effect) (p y : Process) (c : Call) (from : Pid) (f : File) (dest : ℕ) (why : Ending) → IsKernelKnown specs k →
    k.procs r ≡ Some p → e.after.procs r ≡ Some y → effect k (steps.End r why) ≡ Some e → p.state ≡ states.Blocked c →
    s.stage ≡ stages.Move from f dest → made ≡ given + 1 → IsServerInMove count files r s.blocks all k p c from f dest →
    Doing count files r s made given all e.after y y.state
move_over specs count files r s made given all k e p y c from f dest why known there later does blocked stage more m =
    let x = bind_is (ending k r why) _ e does in
    let is = ending_is k r why x.0 x.1 in
    let own : x.0.0 ≡ p = same_Some x.0.0 p (sym is.process ∙ there) in
    let new : Process = record x.0.0 { state = ended x.0.0.state x.0.1 } in
    let same = same_Some (unseen (with_state k r x.0.0 (ended x.0.0.state x.0.1))) e x.2 in
    let left : new ≡ y = same_Some new y (sym (put_process_here k.procs r new) ∙ ap (λ (z : Effect). z.after.procs r) same ∙ later) in
    let state : states.Done c x.0.1 ≡ y.state =
    ap (λ t. ended t x.0.1) (sym (ap (λ (z : Process). z.state) own ∙ blocked)) ∙ ap (λ (z : Process). z.state) left in
    let moves : is_moving p.state ≡ true = ap (λ (z : Process). is_moving z.state) (sym own) ∙ is.moves in
    subst (Doing count files r s made given all e.after y) state (
      more,
      subst (HasAnswer count files r s.blocks all e.after x.0.1) (sym stage)
          (record {
            load = m.load;
            size = m.size;
            moved = λ ok.
                let all_right = ending_ok k r why x.0 x.1 ok in
                moved_step k (steps.End r why) e r from dest (file_bytes s.blocks f) known.sound does (end_mild r why)
                (move_ended k r from p dest (file_bytes s.blocks f) x.0 known.written there moves m.moving
                (ap (λ w. ending k r w) (sym all_right) ∙ x.1));
          }),
    )

-- While it is in the move.
in_move_on : (specs : List ProcessSpec) (count : ℕ) (files : List Entry) (r : Pid) (s : Server) (made given : ℕ) (all : List Request)
    (k : Kernel) (t : Step) (e : Effect) (p y : Process) (c : Call) (from : Pid) (f : File) (dest : ℕ) → IsKernelKnown specs k →
    k.procs r ≡ Some p → e.after.procs r ≡ Some y → effect k t ≡ Some e → own_step r t ≡ false → p.state ≡ states.Blocked c →
    s.stage ≡ stages.Move from f dest → made ≡ given + 1 → IsServerInMove count files r s.blocks all k p c from f dest → Touched k t r p y →
    Doing count files r s made given all e.after y y.state
in_move_on specs count files r s made given all k t e p y c from f dest known there later does other blocked stage more m touch =
    by_touch touch
  where
    busy : is_waiting p.state ≡ true
    busy = ap is_waiting (blocked ∙ ap (λ d. states.Blocked d) m.call)

    moves : is_moving p.state ≡ true
    moves = ap is_moving (blocked ∙ ap (λ d. states.Blocked d) m.call)

    goes_on : y.state ≡ p.state → y.moving ≡ p.moving → Doing count files r s made given all e.after y y.state
    goes_on state moving = subst (Doing count files r s made given all e.after y) (sym (state ∙ blocked)) (
      more,
      subst (Waits count files r s.blocks all e.after y c) (sym stage)
          (record {
            call = m.call;
            load = m.load;
            size = m.size;
            moving = moving_step k t e r from p y dest (file_bytes s.blocks f) known.sound does (other_mild r t other).takes moving m.moving;
          }),
    )

    by_touch : Touched k t r p y → Doing count files r s made given all e.after y y.state
    by_touch (Touched.rests same) = goes_on (ap (λ (z : Process). z.state) same) (ap (λ (z : Process). z.moving) same)
    by_touch (Touched.makes d step idle none) = absurd (both_ways (is_waiting p.state) idle busy)
    by_touch (Touched.takes step idle none) = absurd (both_ways (is_waiting p.state) idle busy)
    by_touch (Touched.collects step idle none) = absurd (both_ways (is_waiting p.state) idle busy)
    by_touch (Touched.finishes step over) =
        let g = bind_is (finishing k r) _ e (ap (effect k) (sym step) ∙ does) in
        let is = finishing_is k r g.0 g.1 in
        absurd (none-some (g.0.target, g.0.message)
        (sym (ap (λ (z : Process). sending z.state) (same_Some g.0.process p (sym is.process ∙ there))
        ∙ ap sending (blocked ∙ ap (λ d. states.Blocked d) m.call)) ∙ is.send))
    by_touch (Touched.waits w none kept on stays) = elim (stays moves) [
      | inl same ↦ goes_on same.0 same.1
      | inr ends ↦ move_over specs count files r s made given all k e p y c from f dest ends.0 known there later
          (ap (effect k) (sym ends.1) ∙ does) blocked stage more m
    ]

waits_on : (specs : List ProcessSpec) (count : ℕ) (files : List Entry) (r : Pid) (s : Server) (made given : ℕ) (all : List Request)
    (k : Kernel) (t : Step) (e : Effect) (p y : Process) (c : Call) (stage : FileServing) → IsKernelKnown specs k → k.procs r ≡ Some p →
    e.after.procs r ≡ Some y → effect k t ≡ Some e → own_step r t ≡ false → p.state ≡ states.Blocked c → s.stage ≡ stage →
    made ≡ given + 1 → Waits count files r s.blocks all k p c stage → Touched k t r p y →
    Doing count files r s made given all e.after y y.state
waits_on specs count files r s made given all k t e p y c stages.Receive known there later does other blocked stage more w touch =
    let idle : is_waiting p.state ≡ false = ap is_waiting (blocked ∙ ap (λ d. states.Blocked d) w) in
    let same = left_alone k r t e p y other idle there does touch in
    subst (λ (z : Process). Doing count files r s made given all e.after z z.state) same
    (subst (Doing count files r s made given all e.after p) (sym blocked)
    (more, subst (Waits count files r s.blocks all e.after p c) (sym stage) w))
waits_on specs count files r s made given all k t e p y c (stages.Move from f dest) known there later does other blocked stage more w
    touch =
    in_move_on specs count files r s made given all k t e p y c from f dest known there later does other blocked stage more w touch
waits_on specs count files r s made given all k t e p y c (stages.Load from f page) known there later does other blocked stage more w
    touch = absurd w
waits_on specs count files r s made given all k t e p y c (stages.Store from f page dest bytes) known there later does other blocked stage
    more w touch = absurd w
waits_on specs count files r s made given all k t e p y c (stages.ReplyPage from f page dest) known there later does other blocked stage
    more w touch = absurd w
waits_on specs count files r s made given all k t e p y c (stages.Gather from f at dest bytes) known there later does other blocked stage
    more w touch = absurd w
waits_on specs count files r s made given all k t e p y c (stages.Reply from code file number) known there later does other blocked stage
    more w touch = absurd w
waits_on specs count files r s made given all k t e p y c stages.Exit known there later does other blocked stage more w touch = absurd w
waits_on specs count files r s made given all k t e p y c stages.Ended known there later does other blocked stage more w touch = absurd w

others_on : (specs : List ProcessSpec) (count : ℕ) (files : List Entry) (r : Pid) (s : Server) (made given : ℕ) (all : List Request)
    (k : Kernel) (t : Step) (e : Effect) (p y : Process) (state : State) → IsKernelKnown specs k → k.procs r ≡ Some p →
    e.after.procs r ≡ Some y → effect k t ≡ Some e → own_step r t ≡ false → p.state ≡ state →
    Doing count files r s made given all k p state → Touched k t r p y → Doing count files r s made given all e.after y y.state
others_on specs count files r s made given all k t e p y states.Ready known there later does other is doing touch =
    let same = left_alone k r t e p y other (ap is_waiting is) there does touch in
    subst (λ (z : Process). Doing count files r s made given all e.after z z.state) same
    (subst (Doing count files r s made given all e.after p) (sym is)
    (doing.0, standing_step count files r s.blocks all k t e p s.stage known.sound does (other_mild r t other) doing.1))
others_on specs count files r s made given all k t e p y (states.Blocked c) known there later does other is doing touch =
    waits_on specs count files r s made given all k t e p y c s.stage known there later does other is refl doing.0 doing.1 touch
others_on specs count files r s made given all k t e p y (states.Done c a) known there later does other is doing touch =
    let same = left_alone k r t e p y other (ap is_waiting is) there does touch in
    subst (λ (z : Process). Doing count files r s made given all e.after z z.state) same
    (subst (Doing count files r s made given all e.after p) (sym is)
    (doing.0, answer_step count files r s.blocks all k t e a s.stage known.sound does (other_mild r t other) doing.1))

others_next : (specs : List ProcessSpec) (blocks : List (List ℕ)) (requests : ℕ) (telling : List Answer → Telling) (r : Pid) (made : ℕ)
    (given : List Answer) (all : List Request) (k : Kernel) (t : Step) (e : Effect) (p y : Process) → IsKernelKnown specs k →
    own_step r t ≡ false → ServerAt blocks requests telling r made given all k p → k.procs r ≡ Some p → e.after.procs r ≡ Some y →
    effect k t ≡ Some e → StandsNext (ServerAt blocks requests telling r) made given all None None None e.after y
others_next specs blocks requests telling r made given all k t e p y known other at there later does =
    let none : made ≡ made + 0 = omega arith in
    subst (λ n. ServerAt blocks requests telling r n (given ++ []) (all ++ []) e.after y) none
    (subst (λ gs. ServerAt blocks requests telling r made gs (all ++ []) e.after y) (sym (append-nil given))
    (subst (λ qs. ServerAt blocks requests telling r made given qs e.after y) (sym (append-nil all))
    (others_on specs (length blocks) (files_of blocks) r (server_after blocks requests telling given) made (length given) all k t e p y
    p.state known there later does other refl at (touched k t e known.sound does r p y there later))))

-- After any step.
next_step : (specs : List ProcessSpec) (blocks : List (List ℕ)) (requests : ℕ) (telling : List Answer → Telling) (r : Pid) (made : ℕ)
    (given : List Answer) (all : List Request) (k : Kernel) (s : Step) (e : Effect) (p y : Process) → OwnStep r s → IsKernelKnown specs k →
    IsRoomy specs blocks r → ServerAt blocks requests telling r made given all k p → k.procs r ≡ Some p → e.after.procs r ≡ Some y →
    effect k s ≡ Some e → MayCall (file_call blocks requests telling) made given (call_by r s) →
    StandsNext (ServerAt blocks requests telling r) made given all (call_by r s) (told r e) (request_by r k s e) e.after y
next_step specs blocks requests telling r made given all k s e p y (OwnStep.makes c step) known roomy at there later does may =
    let calls : call_by r s ≡ Some c = ap (call_by r) step ∙ cond-true (same_pid r r) (Some c) None (same_pid_self r) in
    let called = may c calls in
    next_as blocks requests telling r made given all (call_by r s) (Some c) (told r e) (told r e) (request_by r k s e) None e.after y calls
    refl (ap (λ z. request_by r k z e) step)
    (call_next specs blocks requests telling r made given all k c e p y known roomy at called.0 called.1 there later
    (ap (effect k) (sym step) ∙ does))
next_step specs blocks requests telling r made given all k s e p y (OwnStep.takes step) known roomy at there later does may =
    next_as blocks requests telling r made given all (call_by r s) None (told r e) (told r e) (request_by r k s e)
    (request_by r k (steps.Take r) e) e.after y (ap (call_by r) step) refl (ap (λ z. request_by r k z e) step)
    (take_next blocks requests telling r made given all k e p y at there later (ap (effect k) (sym step) ∙ does))
next_step specs blocks requests telling r made given all k s e p y (OwnStep.collects step) known roomy at there later does may =
    next_as blocks requests telling r made given all (call_by r s) None (told r e) (told r e) (request_by r k s e) None e.after y
    (ap (call_by r) step) refl (ap (λ z. request_by r k z e) step)
    (collect_next specs blocks requests telling r made given all k e p y known.sound roomy.volume at there later
    (ap (effect k) (sym step) ∙ does))
next_step specs blocks requests telling r made given all k s e p y (OwnStep.others other) known roomy at there later does may =
    next_as blocks requests telling r made given all (call_by r s) None (told r e) None (request_by r k s e) None e.after y
    (other_call r s other) (other_told r k s e other does)
    (ap (λ o. o >>= λ (t : Taking). e.after.procs r >>= λ (p : Process).
    Some (record {
      name = t.name;
      message = t.exchange.shown;
      bytes = bytes_in (range_of 0 PAGE_BYTES) p.memory;
    })) (other_take r k s other))
    (others_next specs blocks requests telling r made given all k s e p y known other at there later does)

pub server_keeps : (blocks : List (List ℕ)) (requests : ℕ) (telling : List Answer → Telling) (specs : List ProcessSpec) (ss : List Step)
    (r : Pid) → IsRoomy specs blocks r →
    KeepsStanding (ServerAt blocks requests telling r) (file_call blocks requests telling) specs ss r
server_keeps blocks requests telling specs ss r roomy i made given all k s e p y at is does there later so_far may =
    next_step specs blocks requests telling r made given all k s e p y (which_step r s) (known_at specs ss i k at) roomy so_far there later
    does may

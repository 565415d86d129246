-- What a file server replies to a load.
use Rattle.std.proofs.Common.{◌≡◌, ℕ, ◌*◌, ◌<◌, ◌==◌, Bool, true, false, List, [], length, slice_get, Some, None, refl, sym, ap, subst, ◌∙◌}
use Rattle.std.proofs.lemmas.Bool.{both_ways, cond-true}
use Rattle.std.proofs.lemmas.Option.{same_Some, none-some}
use Rattle.vk_types.specs.Types.{Answer, Call, Message, Pid, Process, ProcessSpec, Step}
use Rattle.vk_base.specs.declared.call.Call.TheVariants as calls
use Rattle.vk_base.specs.declared.kernel.State.TheVariants as states
use Rattle.vk_base.specs.declared.step.Step.TheVariants as steps
use Rattle.vk_base.specs.Kernel.{◌>>=◌, Kernel, held, initial_kernel, is_move, name_of}
use Rattle.vk_base.specs.Pids.{same_pid}
use Rattle.vk_base.specs.Ranges.{range_of, bytes_in}
use Rattle.vk_base.proofs.OptionLemmas.{bind_is}
use Rattle.vk_base.proofs.PidLemmas.{same_pid_self}
use Rattle.vk_files.specs.Messages.{code_of, reply_of}
use Rattle.vk_files.specs.Servers.{stage_call}
use Rattle.vk_files.specs.Tasks.{file_call, server_after}
use Rattle.vk_files.specs.Volumes.{files_of}
use Rattle.vk_files.specs.declared.disk.Telling.{Telling}
use Rattle.vk_files.specs.declared.entry.Entry.{Entry}
use Rattle.vk_files.specs.declared.limits.TheConstants.{BLOCK_BYTES}
use Rattle.vk_files.specs.declared.serving.FileServing.{FileServing}
use Rattle.vk_files.specs.declared.serving.FileServing.TheVariants as stages
use Rattle.v_laws.specs.Places.{IsReplyAt, before, given_by, is_forward, taken_at}
use Rattle.v_pages.specs.Followed.{FollowsTask, answers_before, call_at, call_by, calls_before}
use Rattle.v_pages.specs.Requests.{Request, request_at, requests_before}
use Rattle.v_pages.proofs.Places.{stands_before}
use Rattle.v_pages.proofs.Staying.{NeverHands}
use Rattle.v_pages.proofs.Taken.{last_taken}
use Rattle.vk_files.proofs.Choices.{either}
use Rattle.v_files.specs.Volumes.{disk_before}
use Rattle.v_files.proofs.Moved.{IsMild}
use Rattle.v_files.proofs.Standing.{Doing, HasLoaded, IsAnswering, IsOther, IsServing, ServerAt, Standing}
use Rattle.v_files.proofs.Turns.{IsRoomy, ready_when, server_keeps}

-- A file server hands nothing on.
forwards_none : (stage : FileServing) (m : Message) (from to : Pid) → stage_call stage ≡ Some (calls.Forward m from to) → ⊥
forwards_none stages.Receive m from to h = cc
forwards_none (stages.Load q f page) m from to h = cc
forwards_none (stages.Store q f page dest bytes) m from to h = cc
forwards_none (stages.ReplyPage q f page dest) m from to h = cc
forwards_none (stages.Gather q f at dest bytes) m from to h = cc
forwards_none (stages.Move q f dest) m from to h = cc
forwards_none (stages.Reply q code file number) m from to h = cc
forwards_none stages.Exit m from to h = cc
forwards_none stages.Ended m from to h = cc

pub server_hands : (blocks : List (List ℕ)) (requests : ℕ) (telling : List Answer → Telling) (specs : List ProcessSpec) (ss : List Step)
    (r : Pid) → FollowsTask (file_call blocks requests telling) specs ss r → NeverHands ss r
server_hands blocks requests telling specs ss r follows i s is m from to step =
    let c : Call = calls.Forward m from to in
    let call : call_at ss r i ≡ Some c = ap (λ o. o >>= call_by r) is ∙ ap (call_by r) step
    ∙ cond-true (same_pid r r) (Some c) None (same_pid_self r) in
    forwards_none (server_after blocks requests telling (answers_before specs ss r i)).stage m from to (follows i c call).told

-- How it stands before each place.
pub server_before : (blocks : List (List ℕ)) (requests : ℕ) (telling : List Answer → Telling) (specs : List ProcessSpec) (ss : List Step)
    (r : Pid) → IsRoomy specs blocks r → FollowsTask (file_call blocks requests telling) specs ss r → (i : ℕ) (k : Kernel) (p : Process) →
    before specs ss i ≡ Some k → k.procs r ≡ Some p →
    ServerAt blocks requests telling r (length (calls_before ss r i)) (answers_before specs ss r i) (requests_before specs ss r i) k p
server_before blocks requests telling specs ss r roomy follows =
    stands_before (ServerAt blocks requests telling r) (file_call blocks requests telling) specs ss r follows first
    (server_keeps blocks requests telling specs ss r roomy)
  where
    first : (p : Process) → p.state ≡ states.Ready →
        ServerAt blocks requests telling r 0 [] [] (initial_kernel specs) p
    first p ready =
        subst (Doing (length blocks) (files_of blocks) r (server_after blocks requests telling []) 0 0 []
        (initial_kernel specs) p) (sym ready) (
          refl,
          either (Standing (length blocks) (files_of blocks) r blocks [] (initial_kernel specs) p)
              (0 == requests) stages.Exit stages.Receive (λ _. tt) (λ _. tt),
        )

-- A reply to the request that was taken last.
pub record IsGiftOf (files : List Entry) (blocks : List (List ℕ)) (k : Kernel) (r s : Pid) (m reply : Message) (bytes : List ℕ) :
    Type 0 where
  pub number : ℕ
  pub long : ℕ
  pub told : reply ≡ reply_of 0 number long
  pub has : HasLoaded files blocks k r s number long m
  pub none : bytes ≡ []

record Gives (files : List Entry) (blocks : List (List ℕ)) (all : List Request) (k : Kernel) (r s : Pid) (reply : Message)
    (bytes : List ℕ) : Type 0 where
  serving : IsServing all s
  loaded : (code_of serving.request.message == 6) ≡ true → code_of reply ≡ 0 →
      IsGiftOf files blocks k r s serving.request.message reply bytes

abbrev Given : Type 0
Given = Pid × Message × ℕ × List ℕ

gives_nothing : {A : Type 0} (p : Process) (c d : Call) (x : Given) → Some c ≡ Some d → given_by p c ≡ None → given_by p d ≡ Some x → A
gives_nothing p c d x same none gives = absurd (none-some x (sym none ∙ ap (given_by p) (same_Some c d same) ∙ gives))

gives_on : (count : ℕ) (files : List Entry) (r : Pid) (blocks : List (List ℕ)) (all : List Request) (k : Kernel) (p : Process)
    (stage : FileServing) (s : Pid) (reply : Message) (dest : ℕ) (bytes : List ℕ) (c : Call) → Standing count files r blocks all k p stage →
    stage_call stage ≡ Some c → given_by p c ≡ Some (s, reply, dest, bytes) → Gives files blocks all k r s reply bytes
gives_on count files r blocks all k p stages.Receive s reply dest bytes c standing next gives =
    gives_nothing p (calls.ReceiveSegment 0 BLOCK_BYTES) c (s, reply, dest, bytes) next refl gives
gives_on count files r blocks all k p (stages.Load from f page) s reply dest bytes c standing next gives =
    gives_nothing p (calls.Load 0 BLOCK_BYTES) c (s, reply, dest, bytes) next refl gives
gives_on count files r blocks all k p (stages.Store from f page at page_bytes) s reply dest bytes c standing next gives =
    gives_nothing p (calls.Store 0 page_bytes) c (s, reply, dest, bytes) next refl gives
gives_on count files r blocks all k p (stages.ReplyPage from f page at) s reply dest bytes c standing next gives =
    let d : Call = calls.ReplySegment (reply_of 0 f.number page) from at 0 BLOCK_BYTES in
    let same : Path Given (from, reply_of 0 f.number page, at, bytes_in (range_of 0 BLOCK_BYTES) p.memory) (s, reply, dest, bytes) =
    same_Some _ _ (ap (given_by p) (same_Some d c next) ∙ gives) in
    let o = subst (IsOther all) (ap (λ (z : Given). z.0) same) standing in
    record { serving = o.serving; loaded = λ load done. absurd (both_ways (code_of o.serving.request.message == 6) o.other load) }
gives_on count files r blocks all k p (stages.Gather from f at to part) s reply dest bytes c standing next gives =
    gives_nothing p (calls.Store (BLOCK_BYTES * at) part) c (s, reply, dest, bytes) next refl gives
gives_on count files r blocks all k p (stages.Move from f to) s reply dest bytes c standing next gives =
    gives_nothing p (calls.MoveTo from to 0 f.length) c (s, reply, dest, bytes) next refl gives
gives_on count files r blocks all k p (stages.Reply from code number long) s reply dest bytes c standing next gives =
    let d : Call = calls.Reply (reply_of code number long) from in
    let same : Path Given (from, reply_of code number long, 0, []) (s, reply, dest, bytes) =
    same_Some _ _ (ap (given_by p) (same_Some d c next) ∙ gives) in
    let told : reply_of code number long ≡ reply = ap (λ (z : Given). z.1) same in
    let a = subst (λ z. IsAnswering files blocks all k r z code number long) (ap (λ (z : Given). z.0) same) standing in
    record {
      serving = a.serving;
      loaded = λ load done.
          let zero : code ≡ 0 = ap code_of told ∙ done in
          record {
            number = number;
            long = long;
            told = sym told ∙ ap (λ n. reply_of n number long) zero;
            has = a.loaded load zero;
            none = sym (ap (λ (z : Given). z.3) same);
          };
    }
gives_on count files r blocks all k p stages.Exit s reply dest bytes c standing next gives =
    gives_nothing p calls.Exit c (s, reply, dest, bytes) next refl gives
gives_on count files r blocks all k p stages.Ended s reply dest bytes c standing next gives = absurd (none-some c next)

-- a reply is a mild call
abbrev moves_by : Step → Bool
moves_by (steps.Call pid c) = is_move c
moves_by s = false

call_mild : (r : Pid) (c : Call) → is_move c ≡ false → is_forward (steps.Call r c) ≡ false → IsMild r (steps.Call r c)
call_mild r c still keeps = record {
  takes = λ e. not_take e;
  hands = λ m from to e. both_ways (is_forward (steps.Call r c)) keeps (ap is_forward e);
  moves = λ d e. ap moves_by (sym e) ∙ still;
}
  where
    not_take : steps.Call r c ≡ steps.Take r → ⊥
    not_take e = cc

given_mild : (r : Pid) (p : Process) (c : Call) (x : Given) → given_by p c ≡ Some x → IsMild r (steps.Call r c)
given_mild r p (calls.Reply m to) x g = call_mild r (calls.Reply m to) refl refl
given_mild r p (calls.ReplySegment m to dest src count) x g = call_mild r (calls.ReplySegment m to dest src count) refl refl
given_mild r p c x g = absurd (none-some x g)

-- At the place of the reply.
pub record IsGivenTo (specs : List ProcessSpec) (ss : List Step) (r : Pid) (blocks : List (List ℕ)) (requests : ℕ)
    (telling : List Answer → Telling) (i j : ℕ) (s : Pid) (number : ℕ) (reply : Message) (bytes : List ℕ) : Type 0 where
  pub kernel : Kernel
  pub at : before specs ss j ≡ Some kernel
  pub caller : Process
  pub there : kernel.procs r ≡ Some caller
  pub holds : held kernel r s ≡ Some number
  pub call : Call
  pub is : slice_get ss j ≡ Some (steps.Call r call)
  pub mild : IsMild r (steps.Call r call)
  pub request : Request
  pub takes : request_at specs ss r i ≡ Some request
  pub name : request.name ≡ name_of s number
  pub none : (l : ℕ) → i < l → l < j → request_at specs ss r l ≡ None
  pub loaded : (code_of request.message == 6) ≡ true → code_of reply ≡ 0 →
      IsGiftOf (files_of blocks) (disk_before blocks requests telling specs ss r j) kernel r s request.message reply bytes

pub given_to : (blocks : List (List ℕ)) (requests : ℕ) (telling : List Answer → Telling) (specs : List ProcessSpec) (ss : List Step)
    (r s : Pid) (i j number : ℕ) (reply : Message) (dest : ℕ) (bytes : List ℕ) → IsRoomy specs blocks r →
    FollowsTask (file_call blocks requests telling) specs ss r → IsReplyAt specs ss j s r number reply dest bytes →
    taken_at specs ss i ≡ Some (name_of s number) → slice_get ss i ≡ Some (steps.Take r) → i < j →
    IsGivenTo specs ss r blocks requests telling i j s number reply bytes
given_to blocks requests telling specs ss r s i j number reply dest bytes roomy follows rep takes is less =
    let k = bind_is (before specs ss j) _ rep.caller rep.then in
    let holds : held k.0 r s ≡ Some number = ap (λ o. o >>= λ k. held k r s) (sym k.1) ∙ rep.holds in
    let call : call_at ss r j ≡ Some rep.call = ap (λ o. o >>= call_by r) rep.is
    ∙ cond-true (same_pid r r) (Some rep.call) None (same_pid_self r) in
    let next = follows j rep.call call in
    let at = server_before blocks requests telling specs ss r roomy follows j k.0 rep.caller k.1 k.2 in
    let count = length blocks in
    let files = files_of blocks in
    let given = answers_before specs ss r j in
    let made = length (calls_before ss r j) in
    let v = server_after blocks requests telling given in
    let all = requests_before specs ss r j in
    let ready = ready_when count files r v made (length given) all k.0 rep.caller rep.caller.state at next.answered in
    let standing = (subst (Doing count files r v made (length given) all k.0 rep.caller) ready at).1 in
    let g = gives_on count files r v.blocks all k.0 rep.caller v.stage s reply dest bytes rep.call standing next.told rep.gives in
    let l = last_taken specs ss r s i j number k.0 g.serving.earlier g.serving.request
    (server_hands blocks requests telling specs ss r follows) takes is less k.1 holds g.serving.last g.serving.sender in
    record {
      kernel = k.0;
      at = k.1;
      caller = rep.caller;
      there = k.2;
      holds = holds;
      call = rep.call;
      is = rep.is;
      mild = given_mild r rep.caller rep.call (s, reply, dest, bytes) rep.gives;
      request = g.serving.request;
      takes = l.is;
      name = l.name;
      none = l.none;
      loaded = g.loaded;
    }

-- A sender that collects a file server's reply of code 0 to a load has the file.
use Rattle.std.proofs.Common.{◌≡◌, ℕ, zero, suc, ◌+◌, ◌-◌, ◌<◌, ◌≤◌, ◌==◌, true, List, [], ◌∷◌, ◌++◌, length, slice_get, Option, Some, None, refl, sym, ap, subst, ◌∙◌, inl, inr, arith}
use Rattle.std.proofs.lemmas.Bool.{and_from, both_ways, cases_eq, eq-eqb}
use Rattle.std.proofs.lemmas.Option.{same_Some}
use Rattle.vk_types.specs.Types.{Answer, Exchange, Message, Pid, Process, ProcessSpec, State, Step}
use Rattle.vk_base.specs.declared.answer.Answer.TheVariants as answers
use Rattle.vk_base.specs.declared.call.Call.TheVariants as calls
use Rattle.vk_base.specs.declared.kernel.State.TheVariants as states
use Rattle.vk_base.specs.declared.step.Step.TheVariants as steps
use Rattle.vk_base.specs.Kernel.{◌>>=◌, Kernel, initial_kernel, is_taken, name_of, sending}
use Rattle.vk_base.specs.Messages.{segment_of}
use Rattle.vk_base.specs.Pids.{same_pid}
use Rattle.vk_base.specs.Ranges.{range_of, bytes_in, with_bytes}
use Rattle.vk_base.specs.Steps.{Run, effect, run}
use Rattle.vk_files.specs.Messages.{code_of, reply_of}
use Rattle.vk_files.specs.Servers.{Server, turn_at}
use Rattle.vk_files.specs.Tasks.{file_call, server_after}
use Rattle.vk_files.specs.Volumes.{files_of}
use Rattle.vk_files.specs.declared.disk.Telling.{Telling}
use Rattle.vk_files.specs.declared.entry.Entry.{Entry}
use Rattle.vk_files.specs.declared.entry.File.{File}
use Rattle.vk_files.specs.declared.serving.FileServing.TheVariants as stages
use Rattle.v_laws.specs.Places.{IsReplyAt, before, seen_at, taken_at}
use Rattle.v_laws.specs.Reached.{saw}
use Rattle.v_laws.proofs.Held.{holding_is}
use Rattle.v_laws.proofs.Later.{rank, taken_rank}
use Rattle.v_laws.proofs.MoveWritten.{waits_in}
use Rattle.v_laws.proofs.OnceLemmas.{never_back}
use Rattle.v_laws.proofs.PlaceLemmas.{along, before_after, before_next, before_sound, step_at}
use Rattle.v_laws.proofs.SoundMoves.{with_no_bytes}
use Rattle.v_pages.specs.Followed.{FollowsTask, answer_at, answers_before, calls_before, up_to}
use Rattle.v_pages.specs.Requests.{Request, request_at, requests_before}
use Rattle.v_pages.specs.Served.{RepliesToLast}
use Rattle.v_pages.proofs.Collected.{was_there}
use Rattle.v_pages.proofs.Lists.{end_same, up_to_none, up_to_some}
use Rattle.v_pages.proofs.Replied.{kept_reply}
use Rattle.v_pages.proofs.Ended.{Collects, IsEnded, was_ended}
use Rattle.v_pages.proofs.Senders.{asked_by, only_once, was_ended_by}
use Rattle.v_pages.proofs.Taken.{one_take, request_is, request_taken}
use Rattle.v_files.specs.Loaded.{HasFile, IsFileServer, IsFileLoaded, IsLoadedAlone}
use Rattle.v_files.specs.Volumes.{disk_before, file_bytes}
use Rattle.v_files.proofs.Disks.{blocks_still, server_more, turn_writes}
use Rattle.v_files.proofs.Given.{IsGivenTo, given_to, server_before, server_hands}
use Rattle.v_files.proofs.Moved.{HasBytes, IsMoved, bytes_step}
use Rattle.v_files.proofs.Standing.{Doing, HasAnswer, IsOther, Standing, Waits}
use Rattle.v_files.proofs.Turns.{IsRoomy}

-- From the Take to the reply no block of the disk changes.
load_in : (count : ℕ) (files : List Entry) (r : Pid) (v : Server) (made given : ℕ) (all : List Request) (k : Kernel) (p : Process)
    (t : State) (from : Pid) (f : File) (page : ℕ) → v.stage ≡ stages.Load from f page → Doing count files r v made given all k p t →
    IsOther all from
load_in count files r v made given all k p states.Ready from f page is doing =
    subst (Standing count files r v.blocks all k p) is doing.1
load_in count files r v made given all k p (states.Blocked c) from f page is doing =
    absurd (subst (Waits count files r v.blocks all k p c) is doing.1)
load_in count files r v made given all k p (states.Done c a) from f page is doing =
    absurd (subst (HasAnswer count files r v.blocks all k a) is doing.1)

answered_still : (blocks : List (List ℕ)) (requests : ℕ) (telling : List Answer → Telling) (given : List Answer) (a : Answer) →
    ((from : Pid) (f : File) (page : ℕ) → (server_after blocks requests telling given).stage ≡ stages.Load from f page → ⊥) →
    (server_after blocks requests telling (given ++ a ∷ [])).blocks ≡ (server_after blocks requests telling given).blocks
answered_still blocks requests telling given a none =
    let v = server_after blocks requests telling given in
    let t = telling (given ++ a ∷ []) in
    let turn = turn_at (files_of blocks) requests v.replies v.stage a in
    ap (λ (s : Server). s.blocks) (server_more blocks requests telling given a)
    ∙ blocks_still turn t v.blocks
    (turn_writes (λ bytes. ⊥) (files_of blocks) requests v.replies v.stage a (λ from f page bytes is size. none from f page is))

-- what there is at places at which nothing comes
up_to_still : {A : Type 0} (at : ℕ → Option A) (i j : ℕ) → i ≤ j → ((l : ℕ) → i ≤ l → l < j → at l ≡ None) → up_to at j ≡ up_to at i
up_to_still at i zero up none = let same : zero ≡ i = omega arith in ap (up_to at) same
up_to_still at i (suc j) up none = elim (cases_eq i (suc j)) [
  | inl same ↦ ap (up_to at) (sym same)
  | inr apart ↦
      up_to_none at j (none j (omega (arith, apart)) (omega arith))
      ∙ up_to_still at i j (omega (arith, apart)) (λ l low high. none l low (omega arith))
]

-- a process that is there at a place was there before
record WasThere (specs : List ProcessSpec) (ss : List Step) (r : Pid) (i : ℕ) : Type 0 where
  kernel : Kernel
  at : before specs ss i ≡ Some kernel
  process : Process
  is : kernel.procs r ≡ Some process

there_before : (specs : List ProcessSpec) (ss : List Step) (r : Pid) (i j : ℕ) (k : Kernel) (p : Process) → i ≤ j →
    before specs ss j ≡ Some k → k.procs r ≡ Some p → WasThere specs ss r i
there_before specs ss r i zero k p up at is = let same : zero ≡ i = omega arith in
    subst (WasThere specs ss r) same (record { kernel = k; at = at; process = p; is = is })
there_before specs ss r i (suc j) k p up at is = elim (cases_eq i (suc j)) [
  | inl same ↦ subst (WasThere specs ss r) (sym same) (record { kernel = k; at = at; process = p; is = is })
  | inr apart ↦
      let n = before_next specs ss j k at in
      elim n.how [
        | inl h ↦
            let x = was_there n.kernel h.0 h.1 r p (before_sound specs ss j n.kernel n.at) h.3 (ap (λ (z : Kernel). z.procs r) h.4 ∙ is) in
            there_before specs ss r i j n.kernel x.0 (omega (arith, apart)) n.at x.1
        | inr h ↦ there_before specs ss r i j n.kernel p (omega (arith, apart)) n.at (ap (λ (z : Kernel). z.procs r) h.1 ∙ is)
      ]
]

-- at one place
disk_step : (blocks : List (List ℕ)) (requests : ℕ) (telling : List Answer → Telling) (specs : List ProcessSpec) (ss : List Step)
    (r s : Pid) (i j l number : ℕ) (reply : Message) (bytes : List ℕ) → IsRoomy specs blocks r →
    FollowsTask (file_call blocks requests telling) specs ss r → (g : IsGivenTo specs ss r blocks requests telling i j s number reply bytes) →
    (code_of g.request.message == 6) ≡ true → i < l → l < j →
    disk_before blocks requests telling specs ss r (suc l) ≡ disk_before blocks requests telling specs ss r l
disk_step blocks requests telling specs ss r s i j l number reply bytes roomy follows g load low high =
    by_answer (answer_at specs ss r l) refl
  where
    given : List Answer
    given = answers_before specs ss r l

    all : requests_before specs ss r l ≡ requests_before specs ss r i ++ g.request ∷ []
    all = up_to_still (request_at specs ss r) (suc i) l (omega (arith, low)) (λ a from to. g.none a (omega arith) (omega (arith, high)))
        ∙ up_to_some (request_at specs ss r) i g.request g.takes

    no_load : (from : Pid) (f : File) (page : ℕ) → (server_after blocks requests telling given).stage ≡ stages.Load from f page → ⊥
    no_load from f page is =
        let w = there_before specs ss r l j g.kernel g.caller (omega (arith, high)) g.at g.there in
        let at = server_before blocks requests telling specs ss r roomy follows l w.kernel w.process w.at w.is in
        let o = load_in (length blocks) (files_of blocks) r (server_after blocks requests telling given)
        (length (calls_before ss r l)) (length given) (requests_before specs ss r l) w.kernel w.process w.process.state from f page is at in
        let same : o.serving.request ≡ g.request =
        end_same o.serving.earlier (requests_before specs ss r i) o.serving.request g.request (sym o.serving.last ∙ all) in
        both_ways (code_of g.request.message == 6)
        (ap (λ (q : Request). code_of q.message == 6) (sym same) ∙ o.other) load

    by_answer : (o : Option Answer) → answer_at specs ss r l ≡ o →
        disk_before blocks requests telling specs ss r (suc l) ≡ disk_before blocks requests telling specs ss r l
    by_answer None is = ap (λ gs. (server_after blocks requests telling gs).blocks) (up_to_none (answer_at specs ss r) l is)
    by_answer (Some a) is =
        ap (λ gs. (server_after blocks requests telling gs).blocks) (up_to_some (answer_at specs ss r) l a is)
        ∙ answered_still blocks requests telling given a no_load

disk_still : (blocks : List (List ℕ)) (requests : ℕ) (telling : List Answer → Telling) (specs : List ProcessSpec) (ss : List Step)
    (r s : Pid) (i j number : ℕ) (reply : Message) (bytes : List ℕ) → IsRoomy specs blocks r →
    FollowsTask (file_call blocks requests telling) specs ss r → (g : IsGivenTo specs ss r blocks requests telling i j s number reply bytes) →
    (code_of g.request.message == 6) ≡ true → (d l : ℕ) → i < l → l + d ≡ j →
    disk_before blocks requests telling specs ss r l ≡ disk_before blocks requests telling specs ss r j
disk_still blocks requests telling specs ss r s i j number reply bytes roomy follows g load zero l low all =
    let same : l ≡ j = omega arith in ap (disk_before blocks requests telling specs ss r) same
disk_still blocks requests telling specs ss r s i j number reply bytes roomy follows g load (suc d) l low all =
    sym (disk_step blocks requests telling specs ss r s i j l number reply bytes roomy follows g load low (omega arith))
    ∙ disk_still blocks requests telling specs ss r s i j number reply bytes roomy follows g load d (suc l) (omega arith) (omega arith)

-- What was moved to the sender stands there until it collects.
-- no process holds a message to which it has replied
untaken : (specs : List ProcessSpec) (ss : List Step) (j l : ℕ) (s r : Pid) (number : ℕ) (reply : Message) (dest : ℕ) (bytes : List ℕ)
    (k : Kernel) (x : Exchange) → IsReplyAt specs ss j s r number reply dest bytes → suc j ≤ l → before specs ss l ≡ Some k →
    k.exchanges (name_of s number) ≡ Some x → is_taken x.stage ≡ true → ⊥
untaken specs ss j l s r number reply dest bytes k x rep low at is taken =
    let t = kept_reply specs ss j s r number reply dest bytes rep in
    let up = never_back specs ss (suc j) l t.after k (name_of s number) t.exchange x low t.at at t.is is in
    let high : rank t.exchange.stage ≡ 2 = ap rank t.stage in
    let one = taken_rank x.stage taken in
    omega arith

stays_there : (specs : List ProcessSpec) (ss : List Step) (whole : Run) (blocks : List (List ℕ)) (requests : ℕ)
    (telling : List Answer → Telling) (i j l : ℕ) (s r : Pid) (number : ℕ) (reply : Message) (at dest : ℕ) (bytes given : List ℕ)
    (k : Kernel) → run (initial_kernel specs) ss ≡ Some whole → IsReplyAt specs ss j s r number reply at given →
    (g : IsGivenTo specs ss r blocks requests telling i j s number reply given) → (h : HasBytes g.kernel (name_of s number) dest bytes) →
    h.exchange.at ≡ r → j < l → before specs ss l ≡ Some k → HasBytes k (name_of s number) dest bytes
stays_there specs ss whole blocks requests telling i j l s r number reply at dest bytes given k runs rep g h mine less there =
    let n = name_of s number in
    let x = step_at specs ss whole j (steps.Call r g.call) runs g.is in
    let does : effect g.kernel (steps.Call r g.call) ≡ Some x.did =
    ap (λ z. effect z (steps.Call r g.call)) (same_Some g.kernel x.kernel (sym g.at ∙ x.at)) ∙ x.does in
    let first = bytes_step g.kernel (steps.Call r g.call) x.did n dest bytes (before_sound specs ss j g.kernel g.at) does h
    (λ y c is taken step. g.mild.moves c (step ∙ ap (λ q. steps.Call q c)
    (ap (λ (z : Exchange). z.at) (same_Some y h.exchange (sym is ∙ h.is)) ∙ mine))) in
    along specs ss (λ a m. HasBytes m n dest bytes) (suc j) x.did.after
    (before_after specs ss j g.kernel (steps.Call r g.call) x.did g.at g.is does) first
    (λ a m t e low at_m is sound goes so_far. bytes_step m t e n dest bytes sound goes so_far
    (λ y c is_y taken step. absurd (untaken specs ss j a s r number reply at given m y rep low at_m is_y taken)))
    (λ a m low none so_far. so_far) l (omega arith) k there

moved_there : (specs : List ProcessSpec) (ss : List Step) (whole : Run) (blocks : List (List ℕ)) (requests : ℕ)
    (telling : List Answer → Telling) (i j l : ℕ) (s r : Pid) (number : ℕ) (reply : Message) (at dest : ℕ) (bytes given : List ℕ)
    (k : Kernel) (p : Process) (x : Pid × Message) → run (initial_kernel specs) ss ≡ Some whole →
    IsReplyAt specs ss j s r number reply at given →
    (g : IsGivenTo specs ss r blocks requests telling i j s number reply given) → j < l → before specs ss l ≡ Some k →
    k.procs s ≡ Some p → sending p.state ≡ Some x → p.sends ≡ number → IsMoved g.kernel r s dest bytes →
    bytes_in (range_of dest (length bytes)) p.memory ≡ bytes
moved_there specs ss whole blocks requests telling i j l s r number reply at dest bytes given k p x runs rep g less there is sends last
    (IsMoved.nothing none) =
    ap (λ (xs : List ℕ). bytes_in (range_of dest (length xs)) p.memory) none ∙ sym none
moved_there specs ss whole blocks requests telling i j l s r number reply at dest bytes given k p x runs rep g less there is sends last
    (IsMoved.something m only h mine) =
    let held = holding_is g.kernel r s number g.holds in
    let same : number ≡ m = only number held.exchange held.is
    (and_from (same_pid held.exchange.at r) (is_taken held.exchange.stage) held.at held.taken) in
    let with_number : (h : HasBytes g.kernel (name_of s number) dest bytes) × (h.exchange.at ≡ r) =
    subst (λ a. (h : HasBytes g.kernel (name_of s a) dest bytes) × (h.exchange.at ≡ r)) (sym same) (h, mine) in
    (stays_there specs ss whole blocks requests telling i j l s r number reply at dest bytes given k runs rep g with_number.0 with_number.1
    less there).there p (waits_in k (name_of s number) p x is sends last)

-- So a sender has the file.
has_file : (specs : List ProcessSpec) (ss : List Step) (whole : Run) (blocks : List (List ℕ)) (requests : ℕ)
    (telling : List Answer → Telling) (i j : ℕ) (s target r : Pid) (message reply : Message) → run (initial_kernel specs) ss ≡ Some whole →
    IsFileServer specs ss r blocks requests telling → (c : Collects specs ss i s (calls.Send target message) (answers.Replied reply)) →
    (e : IsEnded specs ss i j s target r message reply c.sender) →
    (g : IsGivenTo specs ss r blocks requests telling e.take_place j s e.waiter.sends reply e.bytes) →
    code_of g.request.message ≡ 6 → code_of reply ≡ 0 →
    HasFile specs ss r blocks requests telling e.take_place j g.request.message reply c.sender.memory
has_file specs ss whole blocks requests telling i j s target r message reply runs fs c e g load code =
    let loads = eq-eqb (code_of g.request.message) 6 load in
    let gift = g.loaded loads code in
    let h = gift.has in
    let start = (segment_of g.request.message).start in
    let memory : c.sender.memory ≡ e.waiter.memory =
    e.memory ∙ ap (with_bytes e.waiter.memory e.dest) gift.none ∙ with_no_bytes e.waiter.memory e.dest in
    let bytes = file_bytes (disk_before blocks requests telling specs ss r j) h.file in
    let first = e.before_reply in
    record {
      file = h.file;
      asked = h.asked;
      told = gift.told ∙ (λ a. reply_of 0 (h.number_is a) (h.long_is a));
      fetched = λ l low high. disk_still blocks requests telling specs ss r s e.take_place j e.waiter.sends reply e.bytes
          (record { room = fs.room; volume = fs.volume }) fs.follows g loads (j - l) l low (omega arith);
      bytes = (λ a. bytes_in (range_of start (sym h.size a)) (memory a))
          ∙ moved_there specs ss whole blocks requests telling e.take_place j e.place s r e.waiter.sends reply e.dest start bytes e.bytes
          e.kernel e.waiter (target, message) runs e.replies g e.before_finish e.at e.is (ap sending e.state) refl h.moved;
    }

loaded_by : (specs : List ProcessSpec) (ss : List Step) (whole : Run) (blocks : List (List ℕ)) (requests : ℕ)
    (telling : List Answer → Telling) (i j : ℕ) (s target r : Pid) (message reply : Message) → run (initial_kernel specs) ss ≡ Some whole →
    IsFileServer specs ss r blocks requests telling → (c : Collects specs ss i s (calls.Send target message) (answers.Replied reply)) →
    (e : IsEnded specs ss i j s target r message reply c.sender) →
    IsGivenTo specs ss r blocks requests telling e.take_place j s e.waiter.sends reply e.bytes →
    IsFileLoaded specs ss i j s r blocks requests telling reply
loaded_by specs ss whole blocks requests telling i j s target r message reply runs fs c e g =
    let first = e.before_finish in
    let second = e.earlier in
    record {
      sender = c.sender;
      now = ap (λ (o : Option Kernel). o >>= λ k. k.procs s) c.at ∙ c.is;
      place = e.take_place;
      request = g.request;
      takes = g.takes;
      name = g.name ∙ ap (name_of s) (sym e.sends);
      once = λ l q. one_take specs ss e.take_place l r g.request q (server_hands blocks requests telling specs ss r fs.follows) g.takes;
      behind = e.before_reply;
      collected = omega arith;
      file = has_file specs ss whole blocks requests telling i j s target r message reply runs fs c e g;
    }

given_at : (specs : List ProcessSpec) (ss : List Step) (blocks : List (List ℕ)) (requests : ℕ) (telling : List Answer → Telling) (i j : ℕ)
    (s target r : Pid) (message reply : Message) (p : Process) → IsFileServer specs ss r blocks requests telling →
    (e : IsEnded specs ss i j s target r message reply p) →
    IsGivenTo specs ss r blocks requests telling e.take_place j s e.waiter.sends reply e.bytes
given_at specs ss blocks requests telling i j s target r message reply p fs e =
    given_to blocks requests telling specs ss r s e.take_place j e.waiter.sends reply e.dest e.bytes
    (record { room = fs.room; volume = fs.volume }) fs.follows e.replies e.takes e.receives e.before_reply

pub loads_whole : (specs : List ProcessSpec) (ss : List Step) (whole : Run) (r : Pid) (blocks : List (List ℕ)) (requests : ℕ)
    (telling : List Answer → Telling) (i j : ℕ) (s target : Pid) (message reply : Message) → run (initial_kernel specs) ss ≡ Some whole →
    IsFileServer specs ss r blocks requests telling → slice_get ss i ≡ Some (steps.Collect s) →
    seen_at specs ss i ≡ saw s (calls.Send target message) (answers.Replied reply) → RepliesToLast specs ss i j s r →
    IsFileLoaded specs ss i j s r blocks requests telling reply
loads_whole specs ss whole r blocks requests telling i j s target message reply runs fs is sees h =
    let w = was_ended specs ss whole r i j s target message reply runs is sees h in
    loaded_by specs ss whole blocks requests telling i j s target r message reply runs fs w.collects w.ended
    (given_at specs ss blocks requests telling i j s target r message reply w.collects.sender fs w.ended)

-- Where it sent to r itself.
pub senders_loaded : (specs : List ProcessSpec) (ss : List Step) (whole : Run) (r : Pid) (blocks : List (List ℕ)) (requests : ℕ)
    (telling : List Answer → Telling) (i : ℕ) (s : Pid) (message reply : Message) → run (initial_kernel specs) ss ≡ Some whole →
    IsFileServer specs ss r blocks requests telling → slice_get ss i ≡ Some (steps.Collect s) →
    seen_at specs ss i ≡ saw s (calls.Send r message) (answers.Replied reply) →
    IsLoadedAlone specs ss i s r blocks requests telling message reply
unfolding loaded_by
senders_loaded specs ss whole r blocks requests telling i s message reply runs fs is sees =
    let never = server_hands blocks requests telling specs ss r fs.follows in
    let b = was_ended_by specs ss whole r i s message reply runs never is sees in
    let c = b.was.collects in
    let e = b.was.ended in
    let g = given_at specs ss blocks requests telling i b.place s r r message reply c.sender fs e in
    let a = request_is specs ss r e.take_place g.request g.takes in
    let first = e.before_reply in
    let second = e.before_finish in
    let taken : taken_at specs ss e.take_place ≡ Some (name_of s e.waiter.sends) =
    request_taken specs ss r e.take_place g.request a ∙ ap (λ n. Some n) g.name in
    record {
      reply_place = b.place;
      loaded = loaded_by specs ss whole blocks requests telling i b.place s r r message reply runs fs c e g;
      asked = asked_by specs ss e.take_place e.place s r e.kernel e.waiter message g.request never g.takes g.name (omega arith) e.at e.is
          e.state;
      alone = λ l at. only_once specs ss e.take_place l e.place s r e.kernel e.waiter message never taken a.is (omega arith) e.at e.is
          e.state (at ∙ ap (λ n. Some n) g.name);
    }

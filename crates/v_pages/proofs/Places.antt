-- A page server at each place of a run.
use Rattle.std.proofs.Common.{◌≡◌, ℕ, zero, suc, ◌+◌, ◌==◌, List, [], ◌++◌, length, slice_get, Option, Some, None, option_to_list, refl, sym, ap, subst, ◌∙◌, inl, inr}
use Rattle.std.proofs.lemmas.List.{length-append}
use Rattle.std.specs.Prelude.{find}
use Rattle.vk_types.specs.Types.{Answer, Call, Pid, Process, ProcessSpec, Step}
use Rattle.vk_base.specs.declared.kernel.State.TheVariants as states
use Rattle.vk_base.specs.declared.step.Step.TheVariants as steps
use Rattle.vk_base.specs.Calls.{Effect}
use Rattle.vk_base.specs.Kernel.{◌>>=◌, Kernel, initial_kernel}
use Rattle.vk_base.specs.Pids.{same_pid}
use Rattle.vk_base.specs.Ranges.{range_of, bytes_in}
use Rattle.vk_base.specs.Settings.{is_process}
use Rattle.vk_base.specs.Steps.{effect}
use Rattle.vk_base.proofs.PidLemmas.{same_pid_self}
use Rattle.vk_event.specs.declared.task.TheConstants.{PAGE_BYTES}
use Rattle.vk_pages.specs.Pages.{zero_pages}
use Rattle.vk_pages.specs.Servers.{between, server_call}
use Rattle.vk_pages.specs.declared.serving.PageServing.TheVariants as stages
use Rattle.v_laws.specs.Places.{before, process_after}
use Rattle.v_laws.proofs.PlaceLemmas.{ComesOfStep, at_place, before_first, before_next, before_sound}
use Rattle.v_laws.proofs.SoundLemmas.{initial_ready}
use Rattle.std.proofs.lemmas.Bool.{cond-true, cond_both}
use Rattle.std.proofs.lemmas.List.{length-replicate}
use Rattle.v_pages.specs.Followed.{FollowsTask, answer_at, answer_in, answers_before, call_at, call_by, calls_before, up_to}
use Rattle.v_pages.specs.Requests.{Request, request_at, requests_before, taking_by}
use Rattle.v_pages.proofs.Calling.{told}
use Rattle.v_pages.proofs.Collected.{left_at, was_there}
use Rattle.v_pages.proofs.Lists.{up_to_none}
use Rattle.v_pages.proofs.Standing.{Doing, ServerAt, Standing, keeps_zero}
use Rattle.v_pages.proofs.Turns.{MayCall, request_by, server_next}

-- What a place gives is what its step gives.
pub call_here : (ss : List Step) (r : Pid) (i : ℕ) (c : Call) → slice_get ss i ≡ Some (steps.Call r c) → call_at ss r i ≡ Some c
call_here ss r i c is = ap (λ o. o >>= call_by r) is ∙ cond-true (same_pid r r) (Some c) None (same_pid_self r)

pub answer_here : (specs : List ProcessSpec) (ss : List Step) (r : Pid) (i : ℕ) (k : Kernel) (s : Step) (e : Effect) →
    before specs ss i ≡ Some k →
    slice_get ss i ≡ Some s → effect k s ≡ Some e → answer_at specs ss r i ≡ told r e
answer_here specs ss r i k s e at is does =
    ap (λ (o : Option Effect). (o >>= λ (e : Effect). e.seen) >>= answer_in r) (at_place effect specs ss i k s at is ∙ does)

pub request_here : (specs : List ProcessSpec) (ss : List Step) (r : Pid) (i : ℕ) (k : Kernel) (s : Step) (e : Effect) →
    before specs ss i ≡ Some k →
    slice_get ss i ≡ Some s → effect k s ≡ Some e → request_at specs ss r i ≡ request_by r k s e
request_here specs ss r i k s e at is does =
    at_place (λ k s. taking_by r k s >>= λ t. process_after specs ss i r >>= λ p.
    Some (record { name = t.name; message = t.exchange.shown; bytes = bytes_in (range_of 0 PAGE_BYTES) p.memory })) specs ss i k s at is
    ∙ ap (λ (o : Option Process). taking_by r k s >>= λ t. o >>= λ p.
    Some (record { name = t.name; message = t.exchange.shown; bytes = bytes_in (range_of 0 PAGE_BYTES) p.memory }))
    (left_at specs ss i k s e r at is does)

-- How a process stands before a place, by how many calls it made before, the answers that it got, and the requests that it took.
abbrev pub Stands : (ℕ → List Answer → List Request → Kernel → Process → Type 0) → List ProcessSpec → List Step → Pid → ℕ → Kernel →
    Process → Type 0
Stands P specs ss r i k p = P (length (calls_before ss r i)) (answers_before specs ss r i) (requests_before specs ss r i) k p

-- and after a step by which it makes this call, gets this answer, and takes this request
abbrev pub StandsNext : (ℕ → List Answer → List Request → Kernel → Process → Type 0) → ℕ → List Answer → List Request → Option Call →
    Option Answer → Option Request → Kernel → Process → Type 0
StandsNext P made given all c a q k y =
    P (made + length (option_to_list c)) (given ++ option_to_list a) (all ++ option_to_list q) k y

-- each step keeps it, where a call is the next one of the process's task
abbrev pub KeepsStanding : (ℕ → List Answer → List Request → Kernel → Process → Type 0) → (List Answer → Option Call) →
    List ProcessSpec → List Step → Pid → Type 0
KeepsStanding P task specs ss r = (i made : ℕ) (given : List Answer) (all : List Request) (k : Kernel) (s : Step) (e : Effect)
    (p y : Process) → before specs ss i ≡ Some k → slice_get ss i ≡ Some s → effect k s ≡ Some e → k.procs r ≡ Some p →
    e.after.procs r ≡ Some y → P made given all k p → MayCall task made given (call_by r s) →
    StandsNext P made given all (call_by r s) (told r e) (request_by r k s e) e.after y

-- One step more.
joined : (P : ℕ → List Answer → List Request → Kernel → Process → Type 0) (specs : List ProcessSpec) (ss : List Step) (r : Pid) (i : ℕ)
    (c : Option Call) (a : Option Answer) (q : Option Request) (k : Kernel) (y : Process) → call_at ss r i ≡ c →
    answer_at specs ss r i ≡ a → request_at specs ss r i ≡ q →
    StandsNext P (length (calls_before ss r i)) (answers_before specs ss r i) (requests_before specs ss r i) c a q k y →
    Stands P specs ss r (suc i) k y
unfolding up_to
joined P specs ss r i c a q k y is_c is_a is_q next =
    subst (λ n. P n (answers_before specs ss r (suc i)) (requests_before specs ss r (suc i)) k y)
    (sym (length-append (calls_before ss r i) (option_to_list (call_at ss r i))))
    (subst (λ z. P (length (calls_before ss r i) + length (option_to_list z)) (answers_before specs ss r (suc i))
    (requests_before specs ss r (suc i)) k y) (sym is_c)
    (subst (λ z. P (length (calls_before ss r i) + length (option_to_list c))
    (answers_before specs ss r i ++ option_to_list z) (requests_before specs ss r (suc i)) k y) (sym is_a)
    (subst (λ z. P (length (calls_before ss r i) + length (option_to_list c))
    (answers_before specs ss r i ++ option_to_list a) (requests_before specs ss r i ++ option_to_list z) k y) (sym is_q) next)))

-- nothing stands there
none_there : (P : ℕ → List Answer → List Request → Kernel → Process → Type 0) (specs : List ProcessSpec) (ss : List Step) (r : Pid) (i : ℕ)
    (k : Kernel) (p : Process) → before specs ss i ≡ Some k → slice_get ss i ≡ None → Stands P specs ss r i k p →
    Stands P specs ss r (suc i) k p
none_there P specs ss r i k p at none is =
    subst (λ cs. P (length cs) (answers_before specs ss r (suc i)) (requests_before specs ss r (suc i)) k p)
    (sym (up_to_none (call_at ss r) i (ap (λ o. o >>= call_by r) none)))
    (subst (λ gs. P (length (calls_before ss r i)) gs (requests_before specs ss r (suc i)) k p)
    (sym (up_to_none (answer_at specs ss r) i
    (ap (λ o. ((o >>= λ k. slice_get ss i >>= λ s. effect k s) >>= λ (e : Effect). e.seen) >>= answer_in r) at
    ∙ ap (λ o. ((o >>= λ s. effect k s) >>= λ (e : Effect). e.seen) >>= answer_in r) none)))
    (subst (λ qs. P (length (calls_before ss r i)) (answers_before specs ss r i) qs k p)
    (sym (up_to_none (request_at specs ss r) i (no_request at))) is))
  where
    no_request : before specs ss i ≡ Some k → request_at specs ss r i ≡ None
    no_request at =
        ap (λ o. o >>= λ k. slice_get ss i >>= λ s. taking_by r k s >>= λ t. process_after specs ss i r >>= λ p.
        Some (record { name = t.name; message = t.exchange.shown; bytes = bytes_in (range_of 0 PAGE_BYTES) p.memory })) at
        ∙ ap (λ o. o >>= λ s. taking_by r k s >>= λ t. process_after specs ss i r >>= λ p.
        Some (record { name = t.name; message = t.exchange.shown; bytes = bytes_in (range_of 0 PAGE_BYTES) p.memory })) none

step_there : (P : ℕ → List Answer → List Request → Kernel → Process → Type 0) (task : List Answer → Option Call)
    (specs : List ProcessSpec) (ss : List Step) (r : Pid) (i : ℕ) (k : Kernel) (s : Step) (e : Effect) (p y : Process) →
    FollowsTask task specs ss r → KeepsStanding P task specs ss r → before specs ss i ≡ Some k → slice_get ss i ≡ Some s →
    effect k s ≡ Some e → k.procs r ≡ Some p → e.after.procs r ≡ Some y → Stands P specs ss r i k p → Stands P specs ss r (suc i) e.after y
step_there P task specs ss r i k s e p y follows keeps at is does there later so_far =
    let call = ap (λ o. o >>= call_by r) is in
    joined P specs ss r i (call_by r s) (told r e) (request_by r k s e) e.after y call (answer_here specs ss r i k s e at is does)
    (request_here specs ss r i k s e at is does)
    (keeps i (length (calls_before ss r i)) (answers_before specs ss r i) (requests_before specs ss r i) k s e p y at is does there later
    so_far (λ c makes. let n = follows i c (call ∙ makes) in (n.answered, n.told)))

by_next : (P : ℕ → List Answer → List Request → Kernel → Process → Type 0) (task : List Answer → Option Call) (specs : List ProcessSpec)
    (ss : List Step) (r : Pid) (i : ℕ) (l : Kernel) (y : Process) → FollowsTask task specs ss r → KeepsStanding P task specs ss r →
    ComesOfStep specs ss i l → l.procs r ≡ Some y →
    ((k : Kernel) (p : Process) → before specs ss i ≡ Some k → k.procs r ≡ Some p → Stands P specs ss r i k p) →
    Stands P specs ss r (suc i) l y
by_next P task specs ss r i l y follows keeps n there so_far = elim n.how [
  | inl h ↦
      let later : h.1.after.procs r ≡ Some y = ap (λ (z : Kernel). z.procs r) h.4 ∙ there in
      let x = was_there n.kernel h.0 h.1 r y (before_sound specs ss i n.kernel n.at) h.3 later in
      subst (λ z. Stands P specs ss r (suc i) z y) h.4
      (step_there P task specs ss r i n.kernel h.0 h.1 x.0 y follows keeps n.at h.2 h.3 x.1 later (so_far n.kernel x.0 n.at x.1))
  | inr h ↦
      let was = ap (λ (z : Kernel). z.procs r) h.1 ∙ there in
      subst (λ z. Stands P specs ss r (suc i) z y) h.1
      (none_there P specs ss r i n.kernel y n.at h.0 (so_far n.kernel y n.at was))
]

-- how it stands at first, and over each step, it stands at each place
pub stands_before : (P : ℕ → List Answer → List Request → Kernel → Process → Type 0) (task : List Answer → Option Call)
    (specs : List ProcessSpec) (ss : List Step) (r : Pid) → FollowsTask task specs ss r →
    ((p : Process) → p.state ≡ states.Ready → P 0 [] [] (initial_kernel specs) p) → KeepsStanding P task specs ss r → (i : ℕ) (k : Kernel)
    (p : Process) → before specs ss i ≡ Some k → k.procs r ≡ Some p → Stands P specs ss r i k p
unfolding up_to
stands_before P task specs ss r follows first keeps zero k p at there =
    let same = before_first specs ss k at in
    subst (λ z. P 0 [] [] z p) same
    (first p (initial_ready (find (is_process r) specs) p (ap (λ (z : Kernel). z.procs r) same ∙ there)))
stands_before P task specs ss r follows first keeps (suc i) k p at there =
    by_next P task specs ss r i k p follows keeps (before_next specs ss i k at) there
    (λ m q at_m there_m. stands_before P task specs ss r follows first keeps i m q at_m there_m)

-- A page server.
abbrev pub ServerBefore : ℕ → ℕ → List ProcessSpec → List Step → Pid → ℕ → Process → Type 0
ServerBefore pages requests specs ss r i p =
    ServerAt pages requests (length (calls_before ss r i)) (answers_before specs ss r i) (requests_before specs ss r i) p

server_first : (pages requests : ℕ) (p : Process) → p.state ≡ states.Ready → ServerAt pages requests 0 [] [] p
server_first pages requests p ready = record {
  kept = zero_pages pages;
  replies = 0;
  stage = between requests 0;
  is = record { state = refl; size = length-replicate pages _ };
  doing = subst (Doing pages (zero_pages pages) [] p (between requests 0) 0 0) (sym ready) (
    refl,
    cond_both (0 == requests) stages.Exit stages.Receive (Standing pages (zero_pages pages) [] p) (λ t. tt) (λ f. keeps_zero pages),
  );
}

pub server_before : (pages requests : ℕ) (specs : List ProcessSpec) (ss : List Step) (r : Pid) →
    FollowsTask (server_call pages requests) specs ss r → (i : ℕ) (k : Kernel) (p : Process) → before specs ss i ≡ Some k →
    k.procs r ≡ Some p → ServerBefore pages requests specs ss r i p
server_before pages requests specs ss r follows =
    stands_before (λ made given all k p. ServerAt pages requests made given all p) (server_call pages requests) specs ss r follows
    (λ p ready. server_first pages requests p ready)
    (λ i made given all k s e p y at is does there later so_far may.
    server_next pages requests made given all k r s e p y (before_sound specs ss i k at) so_far there later does may)

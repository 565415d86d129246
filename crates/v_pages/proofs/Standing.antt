-- How a page server stands: what it keeps, and the request that it serves.
use Rattle.std.proofs.Common.{◌≡◌, ℕ, ◌+◌, ◌<◌, ◌≤◌, true, false, ◌==◌, ◌&&◌, List, [], ◌∷◌, ◌++◌, length, slice_get, Some, refl, sym, ap, subst, ◌∙◌, inl, inr}
use Rattle.std.proofs.lemmas.Bool.{and_from, and_left, and_parts, cases_eq, cond-true, cond-false, eqb-true, eq-eqb, false_from_ne_true}
use Rattle.std.proofs.lemmas.List.{length-replicate, length-set}
use Rattle.vk_types.specs.Types.{Answer, Call, Pid, Process, State}
use Rattle.vk_base.specs.declared.answer.Answer.TheVariants as answers
use Rattle.vk_base.specs.declared.call.Call.TheVariants as calls
use Rattle.vk_base.specs.declared.kernel.State.TheVariants as states
use Rattle.vk_base.specs.Messages.{segment_of}
use Rattle.vk_base.specs.Ranges.{range_of, bytes_in}
use Rattle.vk_event.specs.declared.task.TheConstants.{PAGE_BYTES}
use Rattle.vk_pages.specs.Messages.{page_of}
use Rattle.vk_pages.specs.Pages.{with_page, zero_page, zero_pages}
use Rattle.vk_pages.specs.Servers.{IsServerAfter, taken}
use Rattle.vk_pages.specs.declared.serving.PageServing.{PageServing}
use Rattle.vk_pages.specs.declared.serving.PageServing.TheVariants as stages
use Rattle.v_pages.specs.PageMap.{PageMap, after_request, after_requests, code_for, is_lawful_read, is_lawful_write, map_after}
use Rattle.v_pages.specs.Requests.{Request}
use Rattle.v_pages.proofs.Lists.{set_here, set_other, get_replicate}

-- What it keeps is the map.
pub record Keeps (pages : ℕ) (kept : List (List ℕ)) (map : PageMap) : Type 0 where
  pub size : length kept ≡ pages
  pub each : (page : ℕ) → page < pages → slice_get kept page ≡ Some (map page)
  pub whole : (page : ℕ) → page < pages → length (map page) ≡ PAGE_BYTES

-- the last request that it took is of this process, and for this page
pub record IsServing (taken : List Request) (p : Process) (from : Pid) (page : ℕ) : Type 0 where
  pub earlier : List Request
  pub request : Request
  pub last : taken ≡ earlier ++ request ∷ []
  pub sender : request.name.sender ≡ from
  pub asked : page_of request.message ≡ page
  pub alive : p.alive ≡ true
  pub room : PAGE_BYTES ≤ length p.memory

pub record IsLoading (pages : ℕ) (kept : List (List ℕ)) (taken : List Request) (p : Process) (from : Pid) (page : ℕ) : Type 0 where
  pub serving : IsServing taken p from page
  pub lawful : is_lawful_write pages serving.request.message ≡ true
  pub keeps : Keeps pages kept (map_after pages serving.earlier)
  pub bytes : bytes_in (range_of 0 PAGE_BYTES) p.memory ≡ serving.request.bytes

pub record IsStoring (pages : ℕ) (kept : List (List ℕ)) (taken : List Request) (p : Process) (from : Pid) (page dest : ℕ) : Type 0 where
  pub serving : IsServing taken p from page
  pub lawful : is_lawful_read pages serving.request.message ≡ true
  pub place : (segment_of serving.request.message).start ≡ dest
  pub before : Keeps pages kept (map_after pages serving.earlier)
  pub keeps : Keeps pages kept (map_after pages taken)

pub record IsGiving (pages : ℕ) (kept : List (List ℕ)) (taken : List Request) (p : Process) (from : Pid) (page dest : ℕ) : Type 0 where
  pub storing : IsStoring pages kept taken p from page dest
  pub bytes : bytes_in (range_of 0 PAGE_BYTES) p.memory ≡ map_after pages storing.serving.earlier page

pub record IsReplying (pages : ℕ) (kept : List (List ℕ)) (taken : List Request) (p : Process) (from : Pid) (page code : ℕ) : Type 0 where
  pub serving : IsServing taken p from page
  pub no_read : is_lawful_read pages serving.request.message ≡ false
  pub told : code_for pages serving.request.message ≡ code
  pub keeps : Keeps pages kept (map_after pages taken)

-- before its next call
abbrev pub Standing : ℕ → List (List ℕ) → List Request → Process → PageServing → Type 0
Standing pages kept taken p stages.Receive = Keeps pages kept (map_after pages taken)
Standing pages kept taken p (stages.Load from page) = IsLoading pages kept taken p from page
Standing pages kept taken p (stages.Store from page dest) = IsStoring pages kept taken p from page dest
Standing pages kept taken p (stages.ReplyPage from page dest) = IsGiving pages kept taken p from page dest
Standing pages kept taken p (stages.Reply from page code) = IsReplying pages kept taken p from page code
Standing pages kept taken p stages.Exit = Unit {0}
Standing pages kept taken p stages.Ended = Unit {0}

-- while it waits for a request, and when it has one to collect
pub record IsReceiving (pages : ℕ) (kept : List (List ℕ)) (taken : List Request) (p : Process) (stage : PageServing) (c : Call) : Type 0 where
  pub call : c ≡ calls.ReceiveSegment 0 PAGE_BYTES
  pub receives : stage ≡ stages.Receive
  pub keeps : Keeps pages kept (map_after pages taken)
  pub alive : p.alive ≡ true
  pub room : PAGE_BYTES ≤ length p.memory

pub record HasReceived (pages : ℕ) (kept : List (List ℕ)) (taken : List Request) (p : Process) (stage : PageServing) (a : Answer) : Type 0 where
  pub receives : stage ≡ stages.Receive
  pub earlier : List Request
  pub request : Request
  pub last : taken ≡ earlier ++ request ∷ []
  pub count : ℕ
  pub answer : a ≡ answers.ReceivedSegment request.name.sender request.message count
  pub keeps : Keeps pages kept (map_after pages earlier)
  pub bytes : bytes_in (range_of 0 PAGE_BYTES) p.memory ≡ request.bytes
  pub alive : p.alive ≡ true
  pub room : PAGE_BYTES ≤ length p.memory

-- in each state of its process, where it has made so many calls and got so many answers
abbrev pub Doing : ℕ → List (List ℕ) → List Request → Process → PageServing → (made given : ℕ) → State → Type 0
Doing pages kept taken p stage made given states.Ready = (made ≡ given) × Standing pages kept taken p stage
Doing pages kept taken p stage made given (states.Blocked c) = (made ≡ given + 1) × IsReceiving pages kept taken p stage c
Doing pages kept taken p stage made given (states.Done c a) = (made ≡ given + 1) × HasReceived pages kept taken p stage a

pub record ServerAt (pages requests made : ℕ) (given : List Answer) (taken : List Request) (p : Process) : Type 0 where
  pub kept : List (List ℕ)
  pub replies : ℕ
  pub stage : PageServing
  pub is : IsServerAfter kept pages requests replies stage given
  pub doing : Doing pages kept taken p stage made (length given) p.state

-- The map.
pub one_more : (pages : ℕ) (map : PageMap) (qs : List Request) (q : Request) →
    after_requests pages map (qs ++ q ∷ []) ≡ after_request pages (after_requests pages map qs) q
one_more pages map [] q = refl
one_more pages map (x ∷ qs) q = one_more pages (after_request pages map x) qs q

-- a request that is no lawful write leaves the map
left_alone : (pages : ℕ) (map : PageMap) (q : Request) (page : ℕ) → is_lawful_write pages q.message ≡ false →
    after_request pages map q page ≡ map page
left_alone pages map q page no_write = cond-false (is_lawful_write pages q.message && page == page_of q.message) q.bytes (map page)
    (and_left (is_lawful_write pages q.message) (page == page_of q.message) no_write)

keeps_by : (pages : ℕ) (kept : List (List ℕ)) (m n : PageMap) → ((page : ℕ) → page < pages → n page ≡ m page) → Keeps pages kept m →
    Keeps pages kept n
keeps_by pages kept m n same keeps = record {
  size = keeps.size;
  each = λ page less. keeps.each page less ∙ ap (λ bytes. Some bytes) (sym (same page less));
  whole = λ page less. ap length (same page less) ∙ keeps.whole page less;
}

pub keeps_unwritten : (pages : ℕ) (kept : List (List ℕ)) (taken earlier : List Request) (q : Request) → taken ≡ earlier ++ q ∷ [] →
    is_lawful_write pages q.message ≡ false → Keeps pages kept (map_after pages earlier) → Keeps pages kept (map_after pages taken)
keeps_unwritten pages kept taken earlier q last no_write keeps =
    keeps_by pages kept (map_after pages earlier) (map_after pages taken)
    (λ page less. ap (λ qs. map_after pages qs page) last ∙ ap (λ (m : PageMap). m page) (one_more pages (λ page. zero_page) earlier q)
    ∙ left_alone pages (map_after pages earlier) q page no_write)
    keeps

-- a lawful write sets its page
pub keeps_written : (pages : ℕ) (kept : List (List ℕ)) (taken earlier : List Request) (q : Request) → taken ≡ earlier ++ q ∷ [] →
    is_lawful_write pages q.message ≡ true → length q.bytes ≡ PAGE_BYTES → Keeps pages kept (map_after pages earlier) →
    Keeps pages (with_page kept (page_of q.message) q.bytes) (map_after pages taken)
keeps_written pages kept taken earlier q last write size keeps = record {
  size = length-set kept (page_of q.message) q.bytes ∙ keeps.size;
  each = λ page less. elim (cases_eq page (page_of q.message)) [
    | inl same ↦
        ap (slice_get (with_page kept (page_of q.message) q.bytes)) same
        ∙ set_here kept (page_of q.message) q.bytes (subst (λ n. n < length kept) same (subst (λ n. page < n) (sym keeps.size) less))
        ∙ ap (λ bytes. Some bytes) (sym (now page ∙ here page same))
    | inr other ↦
        set_other kept (page_of q.message) page q.bytes other
        ∙ keeps.each page less ∙ ap (λ bytes. Some bytes) (sym (now page ∙ elsewhere page other))
  ];
  whole = λ page less. elim (cases_eq page (page_of q.message)) [
    | inl same ↦ ap length (now page ∙ here page same) ∙ size
    | inr other ↦ ap length (now page ∙ elsewhere page other) ∙ keeps.whole page less
  ];
}
  where
    now : (page : ℕ) → map_after pages taken page ≡ after_request pages (map_after pages earlier) q page
    now page = ap (λ qs. map_after pages qs page) last ∙ ap (λ (m : PageMap). m page) (one_more pages (λ page. zero_page) earlier q)

    here : (page : ℕ) → page ≡ page_of q.message → after_request pages (map_after pages earlier) q page ≡ q.bytes
    here page same = cond-true (is_lawful_write pages q.message && page == page_of q.message) q.bytes (map_after pages earlier page)
        (and_from (is_lawful_write pages q.message) (page == page_of q.message) write (eq-eqb page (page_of q.message) same))

    elsewhere : (page : ℕ) → (page ≡ page_of q.message → ⊥) →
        after_request pages (map_after pages earlier) q page ≡ map_after pages earlier page
    elsewhere page other = cond-false (is_lawful_write pages q.message && page == page_of q.message) q.bytes (map_after pages earlier page)
        (false_from_ne_true (is_lawful_write pages q.message && page == page_of q.message)
        (λ t. other (eqb-true page (page_of q.message) (and_parts (is_lawful_write pages q.message) (page == page_of q.message) t).1)))

-- at first
pub keeps_zero : (pages : ℕ) → Keeps pages (zero_pages pages) (map_after pages [])
keeps_zero pages = record {
  size = length-replicate pages zero_page;
  each = λ page less. get_replicate pages page zero_page less;
  whole = λ page less. length-replicate {A = ℕ} PAGE_BYTES 0;
}

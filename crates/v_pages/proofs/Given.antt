-- What a page server replies is what its requests say.
use Rattle.std.proofs.Common.{◌≡◌, ℕ, ◌+◌, ◌<◌, true, false, List, [], ◌∷◌, ◌++◌, length, slice_get, Option, Some, None, option_map, refl, sym, ap, subst, ◌∙◌, arith}
use Rattle.std.proofs.lemmas.Bool.{both_ways, le-leb}
use Rattle.std.proofs.lemmas.Option.{same_Some, none-some}
use Rattle.vk_types.specs.Types.{Call, Message, Pid, Process, ProcessSpec, Step}
use Rattle.vk_base.specs.declared.call.Call.TheVariants as calls
use Rattle.vk_base.specs.declared.step.Step.TheVariants as steps
use Rattle.vk_base.specs.Kernel.{◌>>=◌, held, name_of}
use Rattle.vk_base.specs.Messages.{segment_of}
use Rattle.vk_base.specs.Ranges.{range_of, bytes_in}
use Rattle.vk_base.proofs.OptionLemmas.{bind_is}
use Rattle.vk_event.specs.declared.task.TheConstants.{PAGE_BYTES}
use Rattle.vk_pages.specs.Messages.{page_of, reply_of}
use Rattle.vk_pages.specs.Servers.{server_call, stage_call}
use Rattle.vk_pages.specs.declared.serving.PageServing.{PageServing}
use Rattle.vk_pages.specs.declared.serving.PageServing.TheVariants as stages
use Rattle.vk_pages.proofs.Answering.{called_after}
use Rattle.v_laws.specs.Places.{IsReplyAt, before, given_by, taken_at}
use Rattle.v_laws.proofs.MoveLists.{all_bytes}
use Rattle.v_pages.specs.Followed.{FollowsTask, answers_before, calls_before}
use Rattle.v_pages.specs.PageMap.{is_lawful_read, map_after, reply_for}
use Rattle.v_pages.specs.Requests.{Request, request_at, requests_before}
use Rattle.v_pages.proofs.Asked.{read_done}
use Rattle.v_pages.proofs.Places.{server_before, call_here}
use Rattle.v_pages.proofs.Standing.{Doing, Standing}
use Rattle.v_pages.proofs.Staying.{keeps_each, never_hands}
use Rattle.v_pages.proofs.Taken.{last_taken}
use Rattle.v_pages.proofs.Turns.{ready_when}

-- where the bytes of a page are put, and which they are, where one is read
pub record IsPageAt (m : Message) (dest : ℕ) (bytes page : List ℕ) : Type 0 where
  pub place : dest ≡ (segment_of m).start
  pub size : length bytes ≡ PAGE_BYTES
  pub is : bytes ≡ page

-- a reply to the request that was taken last
pub record Gives (pages : ℕ) (all : List Request) (s : Pid) (reply : Message) (dest : ℕ) (bytes : List ℕ) : Type 0 where
  pub earlier : List Request
  pub request : Request
  pub last : all ≡ earlier ++ request ∷ []
  pub sender : request.name.sender ≡ s
  pub replied : reply ≡ reply_for pages request.message
  pub page : is_lawful_read pages request.message ≡ true →
      IsPageAt request.message dest bytes (map_after pages earlier (page_of request.message))
  pub none : is_lawful_read pages request.message ≡ false → bytes ≡ []

abbrev Given : Type 0
Given = Pid × Message × ℕ × List ℕ

gives_nothing : (pages : ℕ) (all : List Request) (s : Pid) (reply : Message) (dest : ℕ) (bytes : List ℕ) (p : Process) (c d : Call) →
    c ≡ d → given_by p c ≡ None → given_by p d ≡ Some (s, reply, dest, bytes) → Gives pages all s reply dest bytes
gives_nothing pages all s reply dest bytes p c d same none gives =
    absurd (none-some (s, reply, dest, bytes) (sym none ∙ ap (given_by p) same ∙ gives))

stored_nothing : (pages : ℕ) (all : List Request) (s : Pid) (reply : Message) (dest : ℕ) (bytes : List ℕ) (p : Process)
    (o : Option (List ℕ)) (d : Call) → option_map (λ bytes. calls.Store 0 bytes) o ≡ Some d →
    given_by p d ≡ Some (s, reply, dest, bytes) → Gives pages all s reply dest bytes
stored_nothing pages all s reply dest bytes p None d next gives = absurd (none-some d next)
stored_nothing pages all s reply dest bytes p (Some b) d next gives =
    gives_nothing pages all s reply dest bytes p (calls.Store 0 b) d (same_Some (calls.Store 0 b) d next) refl gives

gives_on : (pages : ℕ) (kept : List (List ℕ)) (stage : PageServing) (all : List Request) (s : Pid) (reply : Message) (dest : ℕ)
    (bytes : List ℕ) (p : Process) (c : Call) → Standing pages kept all p stage → stage_call kept stage ≡ Some c →
    given_by p c ≡ Some (s, reply, dest, bytes) → Gives pages all s reply dest bytes
gives_on pages kept stages.Receive all s reply dest bytes p c standing next gives =
    gives_nothing pages all s reply dest bytes p (calls.ReceiveSegment 0 PAGE_BYTES) c
    (same_Some (calls.ReceiveSegment 0 PAGE_BYTES) c next) refl gives
gives_on pages kept (stages.Load from page) all s reply dest bytes p c standing next gives =
    gives_nothing pages all s reply dest bytes p (calls.Load 0 PAGE_BYTES) c (same_Some (calls.Load 0 PAGE_BYTES) c next) refl gives
gives_on pages kept (stages.Store from page at) all s reply dest bytes p c standing next gives =
    stored_nothing pages all s reply dest bytes p (slice_get kept page) c next gives
gives_on pages kept (stages.ReplyPage from page at) all s reply dest bytes p c standing next gives =
    let d : Call = calls.ReplySegment (reply_of 0 page) from at 0 PAGE_BYTES in
    let own = bytes_in (range_of 0 PAGE_BYTES) p.memory in
    let same : Path Given (from, reply_of 0 page, at, own) (s, reply, dest, bytes) =
    same_Some _ _ (ap (given_by p) (same_Some d c next) ∙ gives) in
    let storing = standing.storing in
    let serving = storing.serving in
    let m = serving.request.message in
    let room = serving.room in
    let told = read_done pages m storing.lawful in
    record {
      earlier = serving.earlier;
      request = serving.request;
      last = serving.last;
      sender = serving.sender ∙ ap (λ (z : Given). z.0) same;
      replied = sym (ap (λ (z : Given). z.1) same) ∙ (λ i. reply_of (sym told i) (sym serving.asked i));
      page = λ lawful. record {
        place = sym (ap (λ (z : Given). z.2) same) ∙ sym storing.place;
        size = ap (λ (z : Given). length z.3) (sym same)
            ∙ all_bytes 0 PAGE_BYTES p.memory (le-leb (0 + PAGE_BYTES) (length p.memory) (omega arith));
        is = sym (ap (λ (z : Given). z.3) same) ∙ standing.bytes ∙ ap (map_after pages serving.earlier) (sym serving.asked);
      };
      none = λ unlawful. absurd (both_ways (is_lawful_read pages m) unlawful storing.lawful);
    }
gives_on pages kept (stages.Reply from page code) all s reply dest bytes p c standing next gives =
    let d : Call = calls.Reply (reply_of code page) from in
    let same : Path Given (from, reply_of code page, 0, []) (s, reply, dest, bytes) =
    same_Some _ _ (ap (given_by p) (same_Some d c next) ∙ gives) in
    let serving = standing.serving in
    record {
      earlier = serving.earlier;
      request = serving.request;
      last = serving.last;
      sender = serving.sender ∙ ap (λ (z : Given). z.0) same;
      replied = sym (ap (λ (z : Given). z.1) same) ∙ (λ i. reply_of (sym standing.told i) (sym serving.asked i));
      page = λ lawful. absurd (both_ways (is_lawful_read pages serving.request.message) standing.no_read lawful);
      none = λ unlawful. sym (ap (λ (z : Given). z.3) same);
    }
gives_on pages kept stages.Exit all s reply dest bytes p c standing next gives =
    gives_nothing pages all s reply dest bytes p calls.Exit c (same_Some calls.Exit c next) refl gives
gives_on pages kept stages.Ended all s reply dest bytes p c standing next gives = absurd (none-some c next)

-- At the place of the reply.
pub record IsGivenTo (specs : List ProcessSpec) (ss : List Step) (r : Pid) (pages i : ℕ) (s : Pid) (number : ℕ) (reply : Message)
    (dest : ℕ) (bytes : List ℕ) : Type 0 where
  pub request : Request
  pub takes : request_at specs ss r i ≡ Some request
  pub name : request.name ≡ name_of s number
  pub replied : reply ≡ reply_for pages request.message
  pub page : is_lawful_read pages request.message ≡ true →
      IsPageAt request.message dest bytes (map_after pages (requests_before specs ss r i) (page_of request.message))
  pub none : is_lawful_read pages request.message ≡ false → bytes ≡ []

pub given_to : (pages requests : ℕ) (specs : List ProcessSpec) (ss : List Step) (r s : Pid) (i j number : ℕ) (reply : Message) (dest : ℕ)
    (bytes : List ℕ) → FollowsTask (server_call pages requests) specs ss r → IsReplyAt specs ss j s r number reply dest bytes →
    taken_at specs ss i ≡ Some (name_of s number) → slice_get ss i ≡ Some (steps.Take r) → i < j →
    IsGivenTo specs ss r pages i s number reply dest bytes
given_to pages requests specs ss r s i j number reply dest bytes follows rep takes is less =
    let k = bind_is (before specs ss j) _ rep.caller rep.then in
    let holds : held k.0 r s ≡ Some number = ap (λ o. o >>= λ k. held k r s) (sym k.1) ∙ rep.holds in
    let next = follows j rep.call (call_here ss r j rep.call rep.is) in
    let at = server_before pages requests specs ss r follows j k.0 rep.caller k.1 k.2 in
    let made = length (calls_before ss r j) in
    let given = answers_before specs ss r j in
    let all = requests_before specs ss r j in
    let ready = ready_when pages at.kept all rep.caller at.stage made (length given) rep.caller.state at.doing next.answered in
    let standing = (subst (Doing pages at.kept all rep.caller at.stage made (length given)) ready at.doing).1 in
    let g = gives_on pages at.kept at.stage all s reply dest bytes rep.caller rep.call standing
    (called_after at.kept pages requests at.replies at.stage given at.is ∙ next.told) rep.gives in
    let never = never_hands ss r (keeps_each pages requests specs ss r follows) in
    let l = last_taken specs ss r s i j number k.0 g.earlier g.request never takes is less k.1 holds g.last g.sender in
    record {
      request = g.request;
      takes = l.is;
      name = l.name;
      replied = g.replied;
      page = λ lawful. subst (λ qs. IsPageAt g.request.message dest bytes (map_after pages qs (page_of g.request.message))) (sym l.front)
          (g.page lawful);
      none = g.none;
    }

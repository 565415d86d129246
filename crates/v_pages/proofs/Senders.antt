-- A sender that collects a page server's reply is served.
use Rattle.std.proofs.Common.{◌≡◌, ℕ, ◌<◌, ◌≤◌, Bool, true, false, List, [], slice_get, length, Option, Some, refl, sym, ap, subst, ◌∙◌, inl, inr, arith}
use Rattle.std.proofs.lemmas.Bool.{cases_lt, cases_order, cond-true, cond-false}
use Rattle.std.proofs.lemmas.Option.{same_Some}
use Rattle.vk_types.specs.Types.{Exchange, Message, Pid, Process, ProcessSpec, Step}
use Rattle.vk_base.specs.declared.answer.Answer.TheVariants as answers
use Rattle.vk_base.specs.declared.call.Call.TheVariants as calls
use Rattle.vk_base.specs.declared.kernel.State.TheVariants as states
use Rattle.vk_base.specs.declared.step.Step.TheVariants as steps
use Rattle.vk_base.specs.Kernel.{◌>>=◌, Kernel, held, initial_kernel, name_of, sending}
use Rattle.vk_base.specs.Messages.{segment_of}
use Rattle.vk_base.specs.Ranges.{range_of, bytes_in, with_bytes}
use Rattle.vk_base.specs.Steps.{Run, run}
use Rattle.vk_base.proofs.OptionLemmas.{bind_is}
use Rattle.vk_event.specs.declared.task.TheConstants.{PAGE_BYTES}
use Rattle.vk_pages.specs.Messages.{page_of}
use Rattle.vk_pages.specs.Servers.{server_call}
use Rattle.v_laws.specs.Places.{IsReplyAt, before, process_at, seen_at, taken_at}
use Rattle.v_laws.specs.Reached.{saw}
use Rattle.v_laws.proofs.Held.{holding_is}
use Rattle.v_laws.proofs.OnceLemmas.{go_on, taken_at_is, taken_over}
use Rattle.v_laws.proofs.PlaceLemmas.{before_sound}
use Rattle.v_laws.proofs.Queues.{taken_was_queued}
use Rattle.v_laws.proofs.ReplyLemmas.{own_reply}
use Rattle.v_laws.proofs.SoundMoves.{with_no_bytes}
use Rattle.v_laws.proofs.StepLemmas.{taking_is}
use Rattle.v_laws.proofs.Tables.{same_pid_is}
use Rattle.v_pages.specs.Followed.{FollowsTask}
use Rattle.v_pages.specs.PageMap.{PageMap, is_lawful_read, map_after, memory_after}
use Rattle.v_pages.specs.Requests.{Request, request_at, requests_before}
use Rattle.v_pages.specs.Served.{IsServed, IsServedAlone, RepliesToLast}
use Rattle.v_pages.proofs.Collected.{finished_before}
use Rattle.v_pages.proofs.Given.{IsPageAt, given_to}
use Rattle.v_pages.proofs.Lists.{read_back}
use Rattle.v_pages.proofs.Replied.{reply_room}
use Rattle.v_pages.proofs.Staying.{NeverHands, as_sent, keeps_each, never_hands}
use Rattle.v_pages.proofs.Taken.{not_again, one_take, request_is, request_taken}
use Rattle.v_pages.proofs.Touched.{has_reply}
use Rattle.v_pages.proofs.Waiting.{IsCalled, called_before}
use Rattle.v_pages.proofs.Ended.{Collects, IsEnded, WasEnded, collects_at, ended_by, waited_in, was_ended}

-- Where r replied.
page_back : (m : Message) (dest : ℕ) (bytes page memory : List ℕ) → IsPageAt m dest bytes page → dest ≤ length memory →
    bytes_in (range_of (segment_of m).start PAGE_BYTES) (with_bytes memory dest bytes) ≡ page
page_back m dest bytes page memory at room =
    (λ j. bytes_in (range_of (sym at.place j) (sym at.size j)) (with_bytes memory dest bytes))
    ∙ read_back memory dest bytes room ∙ at.is

served_by : (pages requests : ℕ) (specs : List ProcessSpec) (ss : List Step) (i j : ℕ) (s target r : Pid) (message reply : Message) →
    FollowsTask (server_call pages requests) specs ss r →
    (c : Collects specs ss i s (calls.Send target message) (answers.Replied reply)) →
    IsEnded specs ss i j s target r message reply c.sender → IsServed specs ss i j s r pages reply
served_by pages requests specs ss i j s target r message reply follows c e =
    let g = given_to pages requests specs ss r s e.take_place j e.waiter.sends reply e.dest e.bytes follows e.replies e.takes
    e.receives e.before_reply in
    let m = g.request.message in
    let second = e.before_finish in
    let third = e.earlier in
    let room = reply_room specs ss j e.place s r e.waiter.sends reply e.dest e.bytes e.kernel e.waiter e.replies e.at e.is in
    record {
      sender = c.sender;
      now = ap (λ (o : Option Kernel). o >>= λ k. k.procs s) c.at ∙ c.is;
      place = e.take_place;
      request = g.request;
      takes = g.takes;
      name = g.name ∙ ap (name_of s) (sym e.sends);
      once = λ l q.
          let never = never_hands ss r (keeps_each pages requests specs ss r follows) in
          one_take specs ss e.take_place l r g.request q never g.takes;
      behind = e.before_reply;
      dest = e.dest;
      bytes = e.bytes;
      replies = subst (λ n. IsReplyAt specs ss j s r n reply e.dest e.bytes) (sym e.sends) e.replies;
      replied = g.replied;
      none = g.none;
      collected = omega arith;
      page = λ lawful. ap (bytes_in (range_of (segment_of m).start PAGE_BYTES)) e.memory
          ∙ page_back m e.dest e.bytes (map_after pages (requests_before specs ss r e.take_place) (page_of m)) e.waiter.memory
          (g.page lawful) (omega arith);
    }

pub requests_served : (specs : List ProcessSpec) (ss : List Step) (whole : Run) (r : Pid) (pages requests i j : ℕ) (s target : Pid)
    (message reply : Message) → run (initial_kernel specs) ss ≡ Some whole → FollowsTask (server_call pages requests) specs ss r →
    slice_get ss i ≡ Some (steps.Collect s) → seen_at specs ss i ≡ saw s (calls.Send target message) (answers.Replied reply) →
    RepliesToLast specs ss i j s r → IsServed specs ss i j s r pages reply
requests_served specs ss whole r pages requests i j s target message reply g follows is sees h =
    let w = was_ended specs ss whole r i j s target message reply g is sees h in
    served_by pages requests specs ss i j s target r message reply follows w.collects w.ended

-- A Send in which its sender waits for r was to r all the while.
pub sent_to : (specs : List ProcessSpec) (ss : List Step) (i j : ℕ) (s r : Pid) (k l : Kernel) (p : Process) (message : Message)
    (x : Exchange) → i ≤ j → before specs ss i ≡ Some k → before specs ss j ≡ Some l → l.procs s ≡ Some p →
    p.state ≡ states.Blocked (calls.Send r message) →
    k.exchanges (name_of s p.sends) ≡ Some x → (x.target ≡ r) × (x.message ≡ message)
sent_to specs ss i j s r k l p message x up at_i at_j is state there =
    let y = go_on specs ss i j k l up at_i at_j (name_of s p.sends) x there in
    let sent = (before_sound specs ss j l at_j).sent s p r message is (ap sending state) in
    let same : y.0 ≡ sent.exchange = same_Some y.0 sent.exchange (sym y.1 ∙ sent.is) in (
      sym y.2.target ∙ ap (λ (e : Exchange). e.target) same ∙ sent.target,
      sym y.2.message ∙ ap (λ (e : Exchange). e.message) same ∙ sent.message,
    )

-- who replies to it is r
pub replier : (specs : List ProcessSpec) (ss : List Step) (i j : ℕ) (s r holder : Pid) (number : ℕ) (l : Kernel)
    (p : Process) (message : Message) → NeverHands ss r → i < j →
    (before specs ss i >>= λ k. held k holder s) ≡ Some number → before specs ss j ≡ Some l → l.procs s ≡ Some p → p.sends ≡ number →
    p.state ≡ states.Blocked (calls.Send r message) → holder ≡ r
replier specs ss i j s r holder number l p message never less holds at is last state =
    let k = bind_is (before specs ss i) _ number holds in
    let h = holding_is k.0 holder s number k.2 in
    let to = sent_to specs ss i j s r k.0 l p message h.exchange (omega arith) k.1 at is state
    (ap (λ n. k.0.exchanges (name_of s n)) last ∙ h.is) in
    let own = as_sent specs ss r never i k.0 k.1 (name_of s number) h.exchange h.is to.0 in
    sym (same_pid_is h.exchange.at holder h.at) ∙ own.at

-- it is taken at no other place
pub only_once : (specs : List ProcessSpec) (ss : List Step) (i j l : ℕ) (s r : Pid) (k : Kernel) (p : Process)
    (message : Message) → NeverHands ss r → taken_at specs ss i ≡ Some (name_of s p.sends) →
    slice_get ss i ≡ Some (steps.Take r) → i < l → before specs ss l ≡ Some k → k.procs s ≡ Some p →
    p.state ≡ states.Blocked (calls.Send r message) → taken_at specs ss j ≡ Some (name_of s p.sends) → j ≡ i
only_once specs ss i j l s r k p message never takes receives less at is state again = elim (cases_order j i) [
  | inl same ↦ same
  | inr apart ↦ elim apart [
    | inl below ↦
        let n = name_of s p.sends in
        let a = taken_at_is specs ss j n again in
        let there = (taken_over specs ss j n a).queued in
        let to = sent_to specs ss j l s r a.kernel k p message a.take.exchange (omega arith) a.at at is state there in
        let own = as_sent specs ss r never j a.kernel a.at n a.take.exchange there to.0 in
        let who : a.receiver ≡ r =
        sym (same_pid_is a.take.exchange.at a.receiver (taken_was_queued a.kernel a.receiver a.take a.takes).0) ∙ own.at in
        absurd (not_again specs ss j i r n never again (a.is ∙ ap (λ q. Some (steps.Take q)) who) takes below)
    | inr above ↦ absurd (not_again specs ss i j r (name_of s p.sends) never takes receives again above)
  ]
]

-- the message that r is shown is the one that was sent
pub asked_by : (specs : List ProcessSpec) (ss : List Step) (i j : ℕ) (s r : Pid) (k : Kernel) (p : Process)
    (message : Message) (q : Request) → NeverHands ss r → request_at specs ss r i ≡ Some q →
    q.name ≡ name_of s p.sends → i < j → before specs ss j ≡ Some k → k.procs s ≡ Some p →
    p.state ≡ states.Blocked (calls.Send r message) → q.message ≡ message
asked_by specs ss i j s r k p message q never takes name less at is state =
    let a = request_is specs ss r i q takes in
    let n = name_of s p.sends in
    let taking = taking_is a.kernel r a.take a.takes in
    let there : a.kernel.exchanges n ≡ Some a.take.exchange = ap a.kernel.exchanges (sym name ∙ a.name) ∙ taking.exchange in
    let to = sent_to specs ss i j s r a.kernel k p message a.take.exchange (omega arith) a.at at is state there in
    let own = as_sent specs ss r never i a.kernel a.at n a.take.exchange there to.0 in
    a.message ∙ own.shown ∙ to.1

-- What more is so where s sent to r itself.
memory_back : (pages : ℕ) (map : PageMap) (m : Message) (dest : ℕ) (bytes memory : List ℕ) (b : Bool) → is_lawful_read pages m ≡ b →
    (is_lawful_read pages m ≡ true → IsPageAt m dest bytes (map (page_of m))) → (is_lawful_read pages m ≡ false → bytes ≡ []) →
    with_bytes memory dest bytes ≡ memory_after pages map m memory
memory_back pages map m dest bytes memory true is page none =
    (λ j. with_bytes memory ((page is).place j) ((page is).is j))
    ∙ sym (cond-true (is_lawful_read pages m) (with_bytes memory (segment_of m).start (map (page_of m))) memory is)
memory_back pages map m dest bytes memory false is page none =
    ap (with_bytes memory dest) (none is) ∙ with_no_bytes memory dest
    ∙ sym (cond-false (is_lawful_read pages m) (with_bytes memory (segment_of m).start (map (page_of m))) memory is)

sends_same : (k : Kernel) (s : Pid) (p q : Process) → k.procs s ≡ Some p → k.procs s ≡ Some q → p.sends ≡ q.sends
sends_same k s p q a b = ap (λ (z : Process). z.sends) (same_Some p q (sym a ∙ b))

-- the Send is called for before it is taken
called_first : (specs : List ProcessSpec) (ss : List Step) (i j : ℕ) (s r : Pid) (m : Message) (p : Process) (q : Request) →
    request_at specs ss r i ≡ Some q → q.name ≡ name_of s p.sends → (c : IsCalled specs ss j s r m p) → c.place < i
called_first specs ss i j s r m p q takes name c = elim (cases_lt c.place i) [
  | inl less ↦ less
  | inr more ↦
      let a = request_is specs ss r i q takes in
      let n = name_of s p.sends in
      let there : a.kernel.exchanges n ≡ Some a.take.exchange = ap a.kernel.exchanges (sym name ∙ a.name)
      ∙ (taking_is a.kernel r a.take a.takes).exchange in
      let x = go_on specs ss i c.place a.kernel c.kernel (omega arith) a.at c.at n a.take.exchange there in
      let b = (before_sound specs ss c.place c.kernel c.at).begun n x.0 x.1 in
      let high = b.last in
      let same = sends_same c.kernel s b.process c.caller b.is c.there in
      let sends = c.sends in
      absurd (omega arith)
]

served_alone : (pages requests : ℕ) (specs : List ProcessSpec) (ss : List Step) (i j : ℕ) (s r : Pid) (message reply : Message)
    (p : Process) → FollowsTask (server_call pages requests) specs ss r → process_at specs ss i s ≡ Some p →
    IsEnded specs ss i j s r r message reply p → IsServed specs ss i j s r pages reply → IsServedAlone specs ss i s r pages message reply
served_alone pages requests specs ss i j s r message reply p follows now e v =
    let keeps = keeps_each pages requests specs ss r follows in
    let sender : v.sender ≡ p = same_Some v.sender p (sym v.now ∙ now) in
    let sends : v.sender.sends ≡ e.waiter.sends = ap (λ (z : Process). z.sends) sender ∙ e.sends in
    let name : v.request.name ≡ name_of s e.waiter.sends = v.name ∙ ap (name_of s) sends in
    let a = request_is specs ss r v.place v.request v.takes in
    let taken : taken_at specs ss v.place ≡ Some (name_of s e.waiter.sends) =
    request_taken specs ss r v.place v.request a ∙ ap (λ n. Some n) name in
    let first = v.behind in
    let second = e.before_finish in
    let g = given_to pages requests specs ss r s v.place j e.waiter.sends reply e.dest e.bytes follows e.replies taken a.is first in
    let never = never_hands ss r keeps in
    let asked = asked_by specs ss v.place e.place s r e.kernel e.waiter message g.request never g.takes g.name
    (omega arith) e.at e.is e.state in
    let call = called_before specs ss s r message keeps e.place e.kernel e.waiter e.at e.is (ap sending e.state) in
    let map = map_after pages (requests_before specs ss r v.place) in
    record {
      reply_place = j;
      served = v;
      asked = ap (λ (q : Request). q.message) (same_Some v.request g.request (sym v.takes ∙ g.takes)) ∙ asked;
      alone = λ l at. only_once specs ss v.place l e.place s r e.kernel e.waiter message never taken a.is
          (omega arith) e.at e.is e.state (at ∙ ap (λ n. Some n) name);
      sent = call.place;
      called = call.is;
      first = called_first specs ss v.place e.place s r message e.waiter v.request v.takes name call;
      caller = call.caller;
      then = ap (λ (o : Option Kernel). o >>= λ k. k.procs s) call.at ∙ call.there;
      last = sends ∙ call.sends;
      memory = ap (λ (z : Process). z.memory) sender ∙ e.memory
          ∙ memory_back pages map message e.dest e.bytes e.waiter.memory (is_lawful_read pages message) refl
          (subst (λ m. is_lawful_read pages m ≡ true → IsPageAt m e.dest e.bytes (map (page_of m))) asked g.page)
          (subst (λ m. is_lawful_read pages m ≡ false → e.bytes ≡ []) asked g.none)
          ∙ ap (memory_after pages map message) call.memory;
    }

-- where it sent to r itself, r replied
pub record WasEndedBy (specs : List ProcessSpec) (ss : List Step) (i : ℕ) (s r : Pid) (message reply : Message) : Type 0 where
  pub place : ℕ
  pub was : WasEnded specs ss i place s r r message reply

pub was_ended_by : (specs : List ProcessSpec) (ss : List Step) (whole : Run) (r : Pid) (i : ℕ) (s : Pid) (message reply : Message) →
    run (initial_kernel specs) ss ≡ Some whole → NeverHands ss r → slice_get ss i ≡ Some (steps.Collect s) →
    seen_at specs ss i ≡ saw s (calls.Send r message) (answers.Replied reply) → WasEndedBy specs ss i s r message reply
was_ended_by specs ss whole r i s message reply g never is sees =
    let c = collects_at specs ss whole i s (calls.Send r message) (answers.Replied reply) g is sees in
    let f = finished_before specs ss s i c.kernel c.sender c.at c.is (ap has_reply c.state) in
    let o = own_reply specs ss whole f.place s g f.is in
    let k = bind_is (before specs ss f.place) _ o.finish.process o.finish.before in
    let who = replier specs ss o.reply_place f.place s r o.holder o.number k.0 o.finish.process message never
    o.before_finish o.replies.holds k.1 k.2 o.finish.last (waited_in specs ss i s r message reply c.sender f o c.state) in
    record {
      place = o.reply_place;
      was = record { collects = c; ended = ended_by specs ss i s r r message reply c.sender f o who c.state };
    }

pub senders_served : (specs : List ProcessSpec) (ss : List Step) (whole : Run) (r : Pid) (pages requests i : ℕ) (s : Pid)
    (message reply : Message) → run (initial_kernel specs) ss ≡ Some whole → FollowsTask (server_call pages requests) specs ss r →
    slice_get ss i ≡ Some (steps.Collect s) → seen_at specs ss i ≡ saw s (calls.Send r message) (answers.Replied reply) →
    IsServedAlone specs ss i s r pages message reply
senders_served specs ss whole r pages requests i s message reply g follows is sees =
    let never = never_hands ss r (keeps_each pages requests specs ss r follows) in
    let b = was_ended_by specs ss whole r i s message reply g never is sees in
    let c = b.was.collects in
    served_alone pages requests specs ss i b.place s r message reply c.sender follows
    (ap (λ (o : Option Kernel). o >>= λ k. k.procs s) c.at ∙ c.is) b.was.ended
    (served_by pages requests specs ss i b.place s r r message reply follows c b.was.ended)

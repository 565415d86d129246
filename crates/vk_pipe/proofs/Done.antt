-- Whom a reply without bytes and of code 0 tells what.
use Rattle.std.proofs.Common.{◌≡◌, ℕ, ◌==◌, ◌⊎◌, true, false, List, [], ◌∷◌, ◌++◌, length, Option, Some, inl, inr, refl, ap, sym, ◌∙◌, append-nil, append_assoc}
use Rattle.std.proofs.lemmas.Option.{same_Some}
use Rattle.vk_types.specs.Types.{Answer, Call, Message, Pid}
use Rattle.vk_base.specs.declared.answer.Answer.TheVariants as answers
use Rattle.vk_base.specs.declared.call.Call.TheVariants as calls
use Rattle.vk_pipe.specs.declared.news.News.{News}
use Rattle.vk_pipe.specs.declared.news.News.TheVariants as brings
use Rattle.vk_pipe.specs.declared.serving.PipeServing.{PipeServing}
use Rattle.vk_pipe.specs.declared.serving.PipeServing.TheVariants as stages
use Rattle.vk_pipe.specs.declared.waiting.Read.{Read}
use Rattle.vk_pipe.specs.declared.waiting.Write.{Write}
use Rattle.vk_pipe.proofs.Hearing.{one_more_answer}
use Rattle.vk_pipe.proofs.Replies.{is_reply, not_replied}
use Rattle.vk_pipe.proofs.Rules.{either_way, judged_goes, settled_goes}
use Rattle.vk_pipe.specs.Kept.{TellsClose, TellsWrite, reply_to_write}
use Rattle.vk_pipe.specs.Pipes.{Calls, Pipe, Rule, Server, after_news, answered, answered_all, by_rule, delivered, empty_pipe, judged, loaded, new_server, news_of, pipe_call, received, rule_for, server_after, settled, stage_call, with_news}
use Rattle.vk_pipe.specs.Requests.{code_of, is_close, read_of, reply_of}
use Rattle.vk_pipe.specs.Told.{along, put_by, rule_at, writes_put}

abbrev pub call_of : Server → Option Call
call_of s = stage_call s.pipe s.stage

-- Of one answer.

-- the rule put this write in, whose reply it is
pub record PutsFor (rule : Rule) (reply : Call) : Type 0 where
  pub write : Write
  pub put : put_by rule ≡ write ∷ []
  pub is : reply ≡ reply_to_write write

-- the message closes the pipe, and this is the reply to its sender
pub record ClosesFor (from : Pid) (asked : Message) (reply : Call) : Type 0 where
  pub closes : is_close asked ≡ true
  pub is : reply ≡ calls.Reply (reply_of 0 0) from

abbrev IsDoneBy : Message → Pid → Pipe → Rule → Type 0
IsDoneBy m to p rule = call_of (by_rule p rule) ≡ Some (calls.Reply m to) → code_of m ≡ 0 → PutsFor rule (calls.Reply m to)

other_call : {A : Type 0} (c : Option Call) (m : Message) (to : Pid) → is_reply 0 c ≡ false → c ≡ Some (calls.Reply m to)
    → code_of m ≡ 0 → A
other_call c m to other is coded = absurd (not_replied c m to 0 other is coded)

settled_done : (m : Message) (to : Pid) (p : Pipe) → IsDoneBy m to p (settled p)
settled_done m to p =
    settled_goes (IsDoneBy m to p) p (other_call (call_of (by_rule p (Calls stages.Exit))) m to refl)
    (λ rest. other_call (call_of (by_rule p (Calls stages.Receive))) m to refl)
    (λ w first room is coded. record {
      write = w;
      put = refl;
      is = sym (same_Some (reply_to_write w) (calls.Reply m to) is);
    })
    (λ r first some is coded. other_call _ m to refl is coded)
    (λ r first over is coded. other_call _ m to refl is coded)

abbrev IsDoneFor : Message → Pid → Pid → Message → Pipe → News → Type 0
IsDoneFor m to from asked p n = call_of (after_news p n) ≡ Some (calls.Reply m to) → code_of m ≡ 0
    → PutsFor (rule_for (with_news p n) n) (calls.Reply m to) ⊎ ClosesFor from asked (calls.Reply m to)

judged_done : (m : Message) (to : Pid) (p : Pipe) (from : Pid) (asked : Message) (count : ℕ)
    → IsDoneFor m to from asked p (judged p from asked count)
judged_done m to p from asked count =
    judged_goes (IsDoneFor m to from asked p) p from asked count (other_call _ m to refl)
    (λ closes is coded. inr (record { closes = closes; is = sym (same_Some (calls.Reply (reply_of 0 0) from) (calls.Reply m to) is) }))
    (other_call _ m to refl) (λ full. other_call _ m to refl) (λ few. other_call _ m to refl)
    (λ few is coded. inl (settled_done m to (with_news p (brings.ReadWaits (read_of from asked))) is coded))

-- the answer brought a close, whose reply it is
pub record BringsClose (a : Answer) (reply : Call) : Type 0 where
  pub from : Pid
  pub asked : Message
  pub count : ℕ
  pub was : a ≡ answers.ReceivedSegment from asked count
  pub closes : is_close asked ≡ true
  pub is : reply ≡ calls.Reply (reply_of 0 0) from

abbrev IsDoneStep : Message → Pid → Pipe → News → Answer → Type 0
IsDoneStep m to p n a = call_of (after_news p n) ≡ Some (calls.Reply m to) → code_of m ≡ 0
    → PutsFor (rule_for (with_news p n) n) (calls.Reply m to) ⊎ BringsClose a (calls.Reply m to)

closes_by : (rule : Rule) (from : Pid) (asked : Message) (count : ℕ) (reply : Call)
    → PutsFor rule reply ⊎ ClosesFor from asked reply
    → PutsFor rule reply ⊎ BringsClose (answers.ReceivedSegment from asked count) reply
closes_by rule from asked count reply (inl put) = inl put
closes_by rule from asked count reply (inr c) =
    inr (record { from = from; asked = asked; count = count; was = refl; closes = c.closes; is = c.is })

received_done : (m : Message) (to : Pid) (p : Pipe) (a : Answer) → IsDoneStep m to p (received p a) a
received_done m to p (answers.ReceivedSegment from asked count) is coded =
    closes_by (rule_for (with_news p (judged p from asked count)) (judged p from asked count)) from asked count (calls.Reply m to)
    (judged_done m to p from asked count is coded)
received_done m to p a is coded = other_call _ m to refl is coded

loaded_done : (m : Message) (to : Pid) (p : Pipe) (from : Pid) (count : ℕ) (a : Answer)
    → IsDoneStep m to p (loaded from count a) a
loaded_done m to p from count (answers.Loaded bytes) =
    either_way (λ (n : News). IsDoneStep m to p n (answers.Loaded bytes)) (length bytes == count) _ _
    (λ e is coded. inl (settled_done m to (with_news p (brings.WriteWaits (record { from = from; bytes = bytes }))) is coded))
    (λ e. other_call _ m to refl)
loaded_done m to p from count a = other_call _ m to refl

delivered_done : (m : Message) (to : Pid) (p : Pipe) (r : Read) (a : Answer) → IsDoneStep m to p (delivered r a) a
delivered_done m to p r answers.Ok is coded = inl (settled_done m to (with_news p (brings.Delivered r)) is coded)
delivered_done m to p r a is coded = inl (settled_done m to (with_news p brings.Replied) is coded)

step_done : (m : Message) (to : Pid) (p : Pipe) (stage : PipeServing) (a : Answer) → IsDoneStep m to p (news_of p stage a) a
step_done m to p stages.Receive a is coded = received_done m to p a is coded
step_done m to p (stages.Load from count) a is coded = loaded_done m to p from count a is coded
step_done m to p (stages.Store r) a is coded = other_call _ m to refl is coded
step_done m to p (stages.ReplyBytes r) a is coded = delivered_done m to p r a is coded
step_done m to p (stages.Reply who verdict) a is coded = inl (settled_done m to (with_news p brings.Replied) is coded)
step_done m to p stages.Exit a is coded = other_call _ m to refl is coded
step_done m to p stages.Ended a is coded = other_call _ m to refl is coded

-- Of all answers.

fresh_call : (requests : ℕ) → is_reply 0 (call_of (new_server requests)) ≡ false
fresh_call requests =
    either_way (λ (rule : Rule). is_reply 0 (call_of (by_rule (empty_pipe requests) rule)) ≡ false) (requests == 0)
    (Calls stages.Exit) (Calls stages.Receive) (λ e. refl) (λ e. refl)

along_more : {X : Type 0} (tells : Server → Answer → List X) (s : Server) (given : List Answer) (a : Answer)
    → along tells s (given ++ a ∷ []) ≡ along tells s given ++ tells (answered_all s given) a
along_more tells s [] a = append-nil (tells s a)
along_more {X} tells s (b ∷ rest) a =
    ap (λ (l : List X). tells s b ++ l) (along_more tells (answered s b) rest a)
    ∙ sym (append_assoc (tells s b) (along tells (answered s b) rest) (tells (answered_all (answered s b) rest) a))

-- there is a last answer, where there is one
pub record HasLast (given : List Answer) : Type 0 where
  pub front : List Answer
  pub last : Answer
  pub is : given ≡ front ++ last ∷ []

last_with : (a : Answer) (rest : List Answer) → (rest ≡ []) ⊎ HasLast rest → HasLast (a ∷ rest)
last_with a rest (inl none_more) = record { front = []; last = a; is = ap (λ (l : List Answer). a ∷ l) none_more }
last_with a rest (inr more) =
    record { front = a ∷ more.front; last = more.last; is = ap (λ (l : List Answer). a ∷ l) more.is }

last_of : (given : List Answer) → (given ≡ []) ⊎ HasLast given
last_of [] = inl refl
last_of (a ∷ rest) = inr (last_with a rest (last_of rest))

told_by_last : (requests : ℕ) (given : List Answer) (m : Message) (to : Pid) (l : HasLast given)
    → PutsFor (rule_at (server_after requests l.front) l.last) (calls.Reply m to) ⊎ BringsClose l.last (calls.Reply m to)
    → TellsWrite requests given (calls.Reply m to) ⊎ TellsClose given (calls.Reply m to)
told_by_last requests given m to l (inl put) =
    inl (record {
      earlier = writes_put requests l.front;
      write = put.write;
      put =
          ap (writes_put requests) l.is
          ∙ along_more (λ s a. put_by (rule_at s a)) (new_server requests) l.front l.last
          ∙ ap (λ (ws : List Write). writes_put requests l.front ++ ws) put.put;
      is = put.is;
    })
told_by_last requests given m to l (inr c) =
    inr (record {
      earlier = l.front;
      from = c.from;
      asked = c.asked;
      count = c.count;
      taken = l.is ∙ ap (λ (a : Answer). l.front ++ a ∷ []) c.was;
      closes = c.closes;
      is = c.is;
    })

done_by : (requests : ℕ) (given : List Answer) (m : Message) (to : Pid) → (given ≡ []) ⊎ HasLast given
    → pipe_call requests given ≡ Some (calls.Reply m to) → code_of m ≡ 0
    → TellsWrite requests given (calls.Reply m to) ⊎ TellsClose given (calls.Reply m to)
done_by requests given m to (inl none_given) is coded =
    other_call (call_of (new_server requests)) m to (fresh_call requests)
    (sym (ap (λ (l : List Answer). call_of (server_after requests l)) none_given) ∙ is) coded
done_by requests given m to (inr l) is coded =
    let s : Server = server_after requests l.front in
    let same : server_after requests given ≡ answered s l.last
    = ap (λ (g : List Answer). server_after requests g) l.is ∙ one_more_answer (new_server requests) l.front l.last in
    told_by_last requests given m to l
    (step_done m to s.pipe s.stage l.last (sym (ap (λ (t : Server). call_of t) same) ∙ is) coded)

pub done_after : (requests : ℕ) (given : List Answer) (m : Message) (to : Pid)
    → pipe_call requests given ≡ Some (calls.Reply m to) → code_of m ≡ 0
    → TellsWrite requests given (calls.Reply m to) ⊎ TellsClose given (calls.Reply m to)
done_after requests given m to is coded = done_by requests given m to (last_of given) is coded

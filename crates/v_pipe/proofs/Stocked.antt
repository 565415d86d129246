-- A pipe server serves a read only from a pipe that has bytes, which are there until its reply is answered.
use Rattle.std.proofs.Common.{ℕ, ◌<◌, ◌==◌, List, [], ◌∷◌, length}
use Rattle.vk_types.specs.Types.{Answer, Pid}
use Rattle.vk_base.specs.declared.answer.Answer.TheVariants as answers
use Rattle.vk_pipe.specs.declared.news.News.{News}
use Rattle.vk_pipe.specs.declared.news.News.TheVariants as brings
use Rattle.vk_pipe.specs.declared.serving.PipeServing.{PipeServing}
use Rattle.vk_pipe.specs.declared.serving.PipeServing.TheVariants as stages
use Rattle.vk_pipe.specs.declared.waiting.Read.{Read}
use Rattle.vk_pipe.specs.Pipes.{Pipe, Rule, Server, answered, answered_all, by_rule, delivered, empty_pipe, loaded, new_server, news_of, received, rule_for, server_after, settled, with_news}
use Rattle.vk_pipe.specs.Requests.{read_of}
use Rattle.vk_pipe.proofs.Rules.{either_way, judged_goes, settled_goes}

-- what a read is served from has a byte
abbrev pub IsPipeStocked : Pipe → PipeServing → Type 0
IsPipeStocked p (stages.Store r) = 0 < length p.bytes
IsPipeStocked p (stages.ReplyBytes r) = 0 < length p.bytes
IsPipeStocked p stage = Unit {0}

abbrev IsStockedBy : Pipe → Rule → Type 0
IsStockedBy p rule = IsPipeStocked (by_rule p rule).pipe (by_rule p rule).stage

abbrev IsStockedWith : Pipe → News → Type 0
IsStockedWith p n = IsStockedBy (with_news p n) (rule_for (with_news p n) n)

settled_stocked : (p : Pipe) → IsStockedBy p (settled p)
settled_stocked p =
    settled_goes (IsStockedBy p) p tt (λ rest. tt) (λ w first room. tt) (λ r first some. some) (λ r first over. tt)

-- News.
received_stocked : (p : Pipe) (a : Answer) → IsStockedWith p (received p a)
received_stocked p (answers.ReceivedSegment from m count) =
    judged_goes (IsStockedWith p) p from m count tt (λ e. tt) tt (λ full. tt) (λ few. tt)
    (λ few. settled_stocked (with_news p (brings.ReadWaits (read_of from m))))
received_stocked p a = tt

loaded_stocked : (p : Pipe) (from : Pid) (count : ℕ) (a : Answer) → IsStockedWith p (loaded from count a)
loaded_stocked p from count (answers.Loaded bytes) =
    either_way (IsStockedWith p) (length bytes == count) _ _
    (λ e. settled_stocked (with_news p (brings.WriteWaits (record { from = from; bytes = bytes })))) (λ e. tt)
loaded_stocked p from count a = tt

delivered_stocked : (p : Pipe) (r : Read) (a : Answer) → IsStockedWith p (delivered r a)
delivered_stocked p r answers.Ok = settled_stocked (with_news p (brings.Delivered r))
delivered_stocked p r a = settled_stocked (with_news p brings.Replied)

news_stocked : (p : Pipe) (stage : PipeServing) (a : Answer) → IsPipeStocked p stage → IsStockedWith p (news_of p stage a)
news_stocked p stages.Receive a some = received_stocked p a
news_stocked p (stages.Load from count) a some = loaded_stocked p from count a
news_stocked p (stages.Store r) a some = some
news_stocked p (stages.ReplyBytes r) a some = delivered_stocked p r a
news_stocked p (stages.Reply to verdict) a some = settled_stocked (with_news p brings.Replied)
news_stocked p stages.Exit a some = tt
news_stocked p stages.Ended a some = tt

-- All answers.
all_stocked : (s : Server) (given : List Answer) → IsPipeStocked s.pipe s.stage →
    IsPipeStocked (answered_all s given).pipe (answered_all s given).stage
all_stocked s [] some = some
all_stocked s (a ∷ rest) some = all_stocked (answered s a) rest (news_stocked s.pipe s.stage a some)

pub stocked_after : (requests : ℕ) (given : List Answer) →
    IsPipeStocked (server_after requests given).pipe (server_after requests given).stage
stocked_after requests given = all_stocked (new_server requests) given (settled_stocked (empty_pipe requests))

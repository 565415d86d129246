-- That no more than sixteen requests wait, and no more bytes than there is room for.
use Rattle.std.proofs.Common.{◌≡◌, ℕ, ◌+◌, ◌-◌, ◌≤◌, ◌==◌, List, [], ◌∷◌, ◌++◌, drop, length, arith, lit≤, length-append, length-drop}
use Rattle.vk_types.specs.Types.{Answer, Message, Pid}
use Rattle.vk_base.specs.declared.answer.Answer.TheVariants as answers
use Rattle.vk_pipe.specs.declared.limits.TheConstants.{PIPE_BYTES, WAITING_REQUESTS}
use Rattle.vk_pipe.specs.declared.news.News.{News}
use Rattle.vk_pipe.specs.declared.news.News.TheVariants as brings
use Rattle.vk_pipe.specs.declared.serving.PipeServing.{PipeServing}
use Rattle.vk_pipe.specs.declared.serving.PipeServing.TheVariants as stages
use Rattle.vk_pipe.specs.declared.waiting.Read.{Read}
use Rattle.vk_pipe.specs.declared.waiting.Write.{Write}
use Rattle.vk_pipe.proofs.Rules.{either_way, judged_goes, settled_goes}
use Rattle.vk_pipe.specs.Pipes.{Pipe, Rule, Server, answered, answered_all, by_rule, delivered, empty_pipe, judged, loaded, new_server, news_of, piece_len, received, rule_for, server_after, settled, waiting, with_news}
use Rattle.vk_pipe.specs.Requests.{read_of}

-- a write whose bytes are being loaded has its place
abbrev pub places : PipeServing → ℕ
places (stages.Load from count) = 1
places stage = 0

abbrev pub places_in : News → ℕ
places_in (brings.Due stage) = places stage
places_in n = 0

pub record IsRoomy (p : Pipe) (stage : PipeServing) : Type 0 where
  pub few : waiting p + places stage ≤ WAITING_REQUESTS
  pub small : length p.bytes ≤ PIPE_BYTES

-- News leave room.

abbrev pub LeavesRoom : Pipe → News → Type 0
LeavesRoom p n = waiting (with_news p n) + places_in n ≤ WAITING_REQUESTS

judged_room : (p : Pipe) (from : Pid) (m : Message) (count : ℕ) → waiting p ≤ 16 → LeavesRoom p (judged p from m count)
judged_room p from m count few =
    judged_goes (LeavesRoom p) p from m count (omega (arith, few)) (λ e. omega (arith, few)) (omega (arith, few))
    (λ full. omega (arith, few)) (λ more. omega (arith, few, more))
    (λ more. let r : Read = read_of from m in
    let longer : length (p.reads ++ r ∷ []) ≡ length p.reads + 1 = length-append p.reads (r ∷ []) in
    omega (arith, few, more, longer))

received_room : (p : Pipe) (a : Answer) → waiting p ≤ 16 → LeavesRoom p (received p a)
received_room p (answers.ReceivedSegment from message count) few = judged_room p from message count few
received_room p a few = omega (arith, few)

loaded_room : (p : Pipe) (from : Pid) (count : ℕ) (a : Answer) → waiting p + 1 ≤ 16 → LeavesRoom p (loaded from count a)
loaded_room p from count (answers.Loaded bytes) few =
    either_way (LeavesRoom p) (length bytes == count) _ _
    (λ e. let w : Write = record { from = from; bytes = bytes } in
    let longer : length (p.writes ++ w ∷ []) ≡ length p.writes + 1 = length-append p.writes (w ∷ []) in
    omega (arith, few, longer))
    (λ e. omega (arith, few))
loaded_room p from count a few = omega (arith, few)

delivered_room : (p : Pipe) (r : Read) (a : Answer) → waiting p ≤ 16 → LeavesRoom p (delivered r a)
delivered_room p r answers.Ok few = omega (arith, few)
delivered_room p r a few = omega (arith, few)

pub news_room : (p : Pipe) (stage : PipeServing) (a : Answer) → waiting p + places stage ≤ 16 → LeavesRoom p (news_of p stage a)
news_room p stages.Receive a few = received_room p a (omega (arith, few))
news_room p (stages.Load from count) a few = loaded_room p from count a few
news_room p (stages.Store r) a few = few
news_room p (stages.ReplyBytes r) a few = delivered_room p r a (omega (arith, few))
news_room p (stages.Reply to verdict) a few = few
news_room p stages.Exit a few = few
news_room p stages.Ended a few = few

news_small : (p : Pipe) (n : News) → length p.bytes ≤ PIPE_BYTES → length (with_news p n).bytes ≤ PIPE_BYTES
news_small p (brings.Delivered r) small =
    let e : length (drop (piece_len p r) p.bytes) ≡ length p.bytes - piece_len p r = length-drop (piece_len p r) p.bytes in
    omega (arith, e, small)
news_small p n small = small

-- Rules do.

shorter : {A : Type 0} (xs : List A) → length (drop 1 xs) ≤ length xs
shorter xs = let e : length (drop 1 xs) ≡ length xs - 1 = length-drop 1 xs in omega (arith, e)

abbrev IsRoomyBy : Pipe → Rule → Type 0
IsRoomyBy p rule = IsRoomy (by_rule p rule).pipe (by_rule p rule).stage

settled_room : (p : Pipe) → waiting p ≤ 16 → length p.bytes ≤ PIPE_BYTES → IsRoomyBy p (settled p)
settled_room p few small =
    settled_goes (IsRoomyBy p) p (record { few = omega (arith, few); small = small })
    (λ rest. record { few = omega (arith, few); small = small })
    (λ w first room. let e : length (p.bytes ++ w.bytes) ≡ length p.bytes + length w.bytes = length-append p.bytes w.bytes in
    record { few = omega (arith, few, shorter p.writes); small = omega (arith, e, room) })
    (λ r first some. record { few = omega (arith, few, shorter p.reads); small = small })
    (λ r first over. record { few = omega (arith, few, shorter p.reads); small = small })

rule_room : (p : Pipe) (n : News) → waiting p + places_in n ≤ 16 → length p.bytes ≤ PIPE_BYTES → IsRoomyBy p (rule_for p n)
rule_room p (brings.Due stage) few small = record { few = few; small = small }
rule_room p (brings.Close from) few small = record { few = few; small = small }
rule_room p n few small = settled_room p (omega (arith, few)) small

-- Answers do.

answer_room : (p : Pipe) (stage : PipeServing) (a : Answer) → IsRoomy p stage
    → IsRoomyBy (with_news p (news_of p stage a)) (rule_for (with_news p (news_of p stage a)) (news_of p stage a))
answer_room p stage a room =
    let n : News = news_of p stage a in
    rule_room (with_news p n) n (news_room p stage a room.few) (news_small p n room.small)

room_all : (s : Server) (given : List Answer) → IsRoomy s.pipe s.stage
    → IsRoomy (answered_all s given).pipe (answered_all s given).stage
room_all s [] room = room
room_all s (a ∷ rest) room = room_all (answered s a) rest (answer_room s.pipe s.stage a room)

pub room_after : (requests : ℕ) (given : List Answer)
    → IsRoomy (server_after requests given).pipe (server_after requests given).stage
room_after requests given =
    room_all (new_server requests) given (settled_room (empty_pipe requests) (lit≤ tt) (lit≤ tt))

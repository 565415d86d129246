-- That a pipe keeps its bytes.
use Rattle.std.proofs.Common.{◌≡◌, ℕ, ◌==◌, true, List, [], ◌∷◌, ◌++◌, map, refl, ap, arith, sym, ◌∙◌, append-nil}
use Rattle.std.specs.List.{flat_map}
use Rattle.std.proofs.lemmas.Bool.{false≢true}
use Rattle.std.proofs.lemmas.Option.{none-some}
use Rattle.vk_types.specs.Types.{Answer, Call}
use Rattle.vk_base.specs.declared.limits.TheConstants.{SEGMENT_BYTES}
use Rattle.vk_pipe.specs.declared.limits.TheConstants.{WAITING_REQUESTS}
use Rattle.vk_pipe.specs.declared.serving.PipeServing.{PipeServing}
use Rattle.vk_pipe.specs.declared.serving.PipeServing.TheVariants as stages
use Rattle.vk_pipe.specs.declared.serving.Verdict.TheVariants as verdicts
use Rattle.vk_pipe.specs.declared.waiting.Read.{Read}
use Rattle.vk_pipe.specs.declared.waiting.Write.{Write}
use Rattle.vk_pipe.proofs.Along.{flat_along, kept_along, map_along}
use Rattle.vk_pipe.proofs.Done.{done_after}
use Rattle.vk_pipe.proofs.Replies.{is_receive, is_reply, received, replied}
use Rattle.vk_pipe.proofs.Room.{IsRoomy, room_after}
use Rattle.vk_pipe.proofs.Rules.{either_way}
use Rattle.vk_pipe.proofs.Steps.{IsRightStage, IsPipeStep, step}
use Rattle.vk_pipe.specs.Kept.{IsAtEnd, NothingSettles, KeepsItsBytes, pipe_after, reply_to_write}
use Rattle.vk_pipe.specs.Pipes.{Calls, Pipe, Rule, Server, answered, answered_all, by_rule, empty_pipe, new_server, server_after, stage_call, waiting}
use Rattle.vk_pipe.specs.Told.{Piece, bytes_had, bytes_put, news_at, piece_in, put_by, read_due, read_in, read_replies, read_reply, reads_served, reads_taken, rule_at, served_by, write_in, writes_put, writes_taken, written_call, written_calls}

-- Before the first answer.

pub record IsFresh (s : Server) : Type 0 where
  pub writes : s.pipe.writes ≡ []
  pub reads : s.pipe.reads ≡ []
  pub bytes : s.pipe.bytes ≡ []
  pub written : written_call s.stage ≡ []
  pub served : read_due s.stage ≡ []
  pub right : IsRightStage s.pipe s.stage

fresh : (requests : ℕ) → IsFresh (new_server requests)
fresh requests =
    either_way (λ (rule : Rule). IsFresh (by_rule (empty_pipe requests) rule)) (requests == 0) (Calls stages.Exit) (Calls stages.Receive)
    (λ e. record { writes = refl; reads = refl; bytes = refl; written = refl; served = refl; right = tt })
    (λ e. record {
      writes = refl;
      reads = refl;
      bytes = refl;
      written = refl;
      served = refl;
      right = record {
        no_room = λ w h. absurd (none-some w h);
        no_bytes = λ r h. refl;
        no_end = λ r h over. none-some r h;
      };
    })

-- Behind all answers.

step_of : (s : Server) (a : Answer) → IsPipeStep s a
step_of s a = step s.pipe s.stage a

right_all : (s : Server) (given : List Answer) → IsRightStage s.pipe s.stage
    → IsRightStage (answered_all s given).pipe (answered_all s given).stage
right_all s [] right = right
right_all s (a ∷ rest) right = right_all (answered s a) rest (step_of s a).right

right_after : (requests : ℕ) (given : List Answer)
    → IsRightStage (server_after requests given).pipe (server_after requests given).stage
right_after requests given = right_all (new_server requests) given (fresh requests).right

writes_are : (requests : ℕ) (given : List Answer)
    → writes_taken requests given ≡ writes_put requests given ++ (pipe_after requests given).writes
writes_are requests given =
    kept_along (λ (s : Server). s.pipe.writes) (λ s a. write_in (news_at s a)) (λ s a. put_by (rule_at s a))
    (λ s a. (step_of s a).writes) (new_server requests) given (fresh requests).writes

reads_are : (requests : ℕ) (given : List Answer)
    → reads_taken requests given ≡ reads_served requests given ++ (pipe_after requests given).reads
reads_are requests given =
    kept_along (λ (s : Server). s.pipe.reads) (λ s a. read_in (news_at s a)) (λ s a. served_by (rule_at s a))
    (λ s a. (step_of s a).reads) (new_server requests) given (fresh requests).reads

bytes_are : (requests : ℕ) (given : List Answer)
    → bytes_put requests given ≡ bytes_had requests given ++ (pipe_after requests given).bytes
bytes_are requests given =
    flat_along (λ (w : Write). w.bytes) (λ s a. put_by (rule_at s a)) (new_server requests) given
    ∙ kept_along (λ (s : Server). s.pipe.bytes) (λ s a. flat_map (λ (w : Write). w.bytes) (put_by (rule_at s a)))
    (λ s a. flat_map (λ (x : Piece). x.bytes) (piece_in s.pipe (news_at s a)))
    (λ s a. (step_of s a).bytes) (new_server requests) given (fresh requests).bytes
    ∙ ap (λ (l : List ℕ). l ++ (pipe_after requests given).bytes)
    (sym (flat_along (λ (x : Piece). x.bytes) (λ s a. piece_in s.pipe (news_at s a)) (new_server requests) given))

all_had : (requests : ℕ) (given : List Answer) → IsAtEnd (pipe_after requests given)
    → bytes_put requests given ≡ bytes_had requests given
all_had requests given over =
    bytes_are requests given ∙ ap (λ (l : List ℕ). bytes_had requests given ++ l) over.no_bytes
    ∙ append-nil (bytes_had requests given)

written_are : (requests : ℕ) (given : List Answer) → written_calls requests given ≡ map reply_to_write (writes_put requests given)
written_are requests given =
    sym (map_along reply_to_write (λ s a. put_by (rule_at s a)) (new_server requests) given
    ∙ kept_along (λ (s : Server). written_call s.stage) (λ s a. map reply_to_write (put_by (rule_at s a)))
    (λ s a. written_call s.stage)
    (λ s a. ap (λ (l : List Call). written_call s.stage ++ l) (step_of s a).written)
    (new_server requests) given (fresh requests).written)

replies_are : (requests : ℕ) (given : List Answer)
    → read_replies requests given ≡ map (λ (r : Read). r.from) (reads_served requests given)
replies_are requests given =
    sym (map_along (λ (r : Read). r.from) (λ s a. served_by (rule_at s a)) (new_server requests) given
    ∙ kept_along (λ (s : Server). read_due s.stage) (λ s a. map (λ (r : Read). r.from) (served_by (rule_at s a)))
    (λ s a. read_reply s.stage) (λ s a. (step_of s a).served) (new_server requests) given (fresh requests).served)

-- What its call tells of the pipe.

end_is : (p : Pipe) (stage : PipeServing) → IsRightStage p stage → is_reply 6 (stage_call p stage) ≡ true → IsAtEnd p
end_is p (stages.Reply to verdicts.End) right h = right
end_is p stage right h = absurd (false≢true h)

full_is : (p : Pipe) (stage : PipeServing) → IsRightStage p stage → is_reply 5 (stage_call p stage) ≡ true → waiting p ≡ WAITING_REQUESTS
full_is p (stages.Reply to verdicts.Full) right h = right
full_is p stage right h = absurd (false≢true h)

rest_is : (p : Pipe) (stage : PipeServing) → IsRightStage p stage → is_receive (stage_call p stage) ≡ true → NothingSettles p
rest_is p stages.Receive right h = right
rest_is p stage right h = absurd (false≢true h)

pub keeps : (requests : ℕ) (given : List Answer) → KeepsItsBytes requests given
keeps requests given =
    let s : Server = server_after requests given in
    let right : IsRightStage s.pipe s.stage = right_after requests given in
    let room : IsRoomy s.pipe s.stage = room_after requests given in
    record {
      kept = bytes_are requests given;
      writes = writes_are requests given;
      reads = reads_are requests given;
      written = written_are requests given;
      served = replies_are requests given;
      done = done_after requests given;
      ended = λ m to is code.
          let over : IsAtEnd s.pipe = end_is s.pipe s.stage right (replied (stage_call s.pipe s.stage) m to 6 is code) in
          (over, all_had requests given over);
      full = λ m to is code. full_is s.pipe s.stage right (replied (stage_call s.pipe s.stage) m to 5 is code);
      rests = λ is. rest_is s.pipe s.stage right (received (stage_call s.pipe s.stage) 0 SEGMENT_BYTES is);
      within = record { bytes = room.small; requests = omega (arith, room.few) };
    }

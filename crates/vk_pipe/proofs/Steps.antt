-- What one answer changes: each write and read that is taken, put in or served, each byte and each reply.
use Rattle.std.proofs.Common.{◌≡◌, ℕ, ◌==◌, List, [], ◌∷◌, ◌++◌, drop, length, map, slice_get, Some, refl, ap, sym, ◌∙◌, append-nil, append_assoc}
use Rattle.std.specs.List.{flat_map}
use Rattle.std.proofs.lemmas.List.{take-append-drop}
use Rattle.std.proofs.lemmas.Option.{none-some, same_Some}
use Rattle.vk_types.specs.Types.{Answer, Message, Pid}
use Rattle.vk_base.specs.declared.answer.Answer.TheVariants as answers
use Rattle.vk_pipe.specs.declared.limits.TheConstants.{WAITING_REQUESTS}
use Rattle.vk_pipe.specs.declared.news.News.{News}
use Rattle.vk_pipe.specs.declared.news.News.TheVariants as brings
use Rattle.vk_pipe.specs.declared.serving.PipeServing.{PipeServing}
use Rattle.vk_pipe.specs.declared.serving.PipeServing.TheVariants as stages
use Rattle.vk_pipe.specs.declared.serving.Verdict.TheVariants as verdicts
use Rattle.vk_pipe.specs.declared.waiting.Read.{Read}
use Rattle.vk_pipe.specs.declared.waiting.Write.{Write}
use Rattle.vk_pipe.proofs.Rules.{either_way, judged_goes, settled_goes}
use Rattle.vk_pipe.specs.Kept.{IsAtEnd, NothingSettles, reply_to_write}
use Rattle.vk_pipe.specs.Pipes.{Calls, Ends, Pipe, Puts, Rule, Serves, Server, answered, at, by_rule, delivered, judged, loaded, news_of, piece_len, piece_of, received, rule_for, settled, waiting, with_news}
use Rattle.vk_pipe.specs.Told.{Piece, news_at, piece_in, put_by, read_due, read_in, read_reply, rule_at, served_by, write_in, written_call}

-- what is right of a pipe where this is called
abbrev pub IsRightStage : Pipe → PipeServing → Type 0
IsRightStage p stages.Receive = NothingSettles p
IsRightStage p (stages.Reply to verdicts.Full) = waiting p ≡ WAITING_REQUESTS
IsRightStage p (stages.Reply to verdicts.End) = IsAtEnd p
IsRightStage p stage = Unit {0}

-- a call that is right, and tells no write and no read of its bytes
pub record Quiet (p : Pipe) (stage : PipeServing) : Type 0 where
  pub no_write : written_call stage ≡ []
  pub no_read : read_due stage ≡ []
  pub right : IsRightStage p stage

-- what a rule does
pub record Settles (p : Pipe) (rule : Rule) : Type 0 where
  pub writes : p.writes ≡ put_by rule ++ (by_rule p rule).pipe.writes
  pub reads : p.reads ≡ served_by rule ++ (by_rule p rule).pipe.reads
  pub bytes : p.bytes ++ flat_map (λ (w : Write). w.bytes) (put_by rule) ≡ (by_rule p rule).pipe.bytes
  pub written : map reply_to_write (put_by rule) ≡ written_call (by_rule p rule).stage
  pub served : map (λ (r : Read). r.from) (served_by rule) ≡ read_due (by_rule p rule).stage
  pub right : IsRightStage (by_rule p rule).pipe (by_rule p rule).stage

called : (p : Pipe) (stage : PipeServing) → Quiet p stage → Settles p (Calls stage)
called p stage q =
    record {
      writes = refl;
      reads = refl;
      bytes = append-nil p.bytes;
      written = sym q.no_write;
      served = sym q.no_read;
      right = q.right;
    }

first_is : {A : Type 0} (xs : List A) (x : A) → slice_get xs 0 ≡ Some x → xs ≡ (x ∷ []) ++ drop 1 xs
first_is [] x h = absurd (none-some x h)
first_is {A} (y ∷ ys) x h = ap (λ (z : A). z ∷ ys) (same_Some y x h)

puts : (p : Pipe) (w : Write) → slice_get p.writes 0 ≡ Some w → Settles p (Puts w)
puts p w first =
    record {
      writes = first_is p.writes w first;
      reads = refl;
      bytes = ap (λ (l : List ℕ). p.bytes ++ l) (append-nil w.bytes);
      written = refl;
      served = refl;
      right = tt;
    }

serves : (p : Pipe) (r : Read) → slice_get p.reads 0 ≡ Some r → Settles p (Serves r)
serves p r first =
    record {
      writes = refl;
      reads = first_is p.reads r first;
      bytes = append-nil p.bytes;
      written = refl;
      served = refl;
      right = tt;
    }

ends : (p : Pipe) (r : Read) → slice_get p.reads 0 ≡ Some r → IsAtEnd p → Settles p (Ends r)
ends p r first over =
    record {
      writes = refl;
      reads = first_is p.reads r first;
      bytes = append-nil p.bytes;
      written = refl;
      served = refl;
      right = record { closed = over.closed; no_bytes = over.no_bytes; no_writes = over.no_writes };
    }

settles : (p : Pipe) → Settles p (settled p)
settles p =
    settled_goes (Settles p) p (called p stages.Exit (record { no_write = refl; no_read = refl; right = tt }))
    (λ rest. called p stages.Receive (record { no_write = refl; no_read = refl; right = rest }))
    (λ w first room. puts p w first) (λ r first some. serves p r first) (ends p)

-- a call that news make due is quiet
abbrev pub IsQuietNews : Pipe → News → Type 0
IsQuietNews p (brings.Due stage) = Quiet p stage
IsQuietNews p n = Unit {0}

judged_is : (p : Pipe) (from : Pid) (m : Message) (count : ℕ) → IsQuietNews p (judged p from m count)
judged_is p from m count =
    judged_goes (IsQuietNews p) p from m count (record { no_write = refl; no_read = refl; right = tt }) (λ e. tt)
    (record { no_write = refl; no_read = refl; right = tt }) (λ full. record { no_write = refl; no_read = refl; right = full })
    (λ few. record { no_write = refl; no_read = refl; right = tt }) (λ few. tt)

received_is : (p : Pipe) (a : Answer) → IsQuietNews p (received p a)
received_is p (answers.ReceivedSegment from message count) = judged_is p from message count
received_is p a = record { no_write = refl; no_read = refl; right = tt }

loaded_is : (p : Pipe) (from : Pid) (count : ℕ) (a : Answer) → IsQuietNews p (loaded from count a)
loaded_is p from count (answers.Loaded bytes) =
    either_way (IsQuietNews p) (length bytes == count) _ _ (λ e. tt) (λ e. record { no_write = refl; no_read = refl; right = tt })
loaded_is p from count a = record { no_write = refl; no_read = refl; right = tt }

delivered_is : (p : Pipe) (r : Read) (a : Answer) → IsQuietNews p (delivered r a)
delivered_is p r answers.Ok = tt
delivered_is p r a = tt

news_settle : (p : Pipe) (n : News) → IsQuietNews p n → Settles (with_news p n) (rule_for (with_news p n) n)
news_settle p (brings.Due stage) q = called p stage q
news_settle p (brings.Close from) q =
    called (with_news p (brings.Close from)) (stages.Reply from verdicts.Closed)
    (record { no_write = refl; no_read = refl; right = tt })
news_settle p n q = settles (with_news p n)

news_writes : (p : Pipe) (n : News) → p.writes ++ write_in n ≡ (with_news p n).writes
news_writes p (brings.WriteWaits w) = refl
news_writes p n = append-nil p.writes

news_reads : (p : Pipe) (n : News) → p.reads ++ read_in n ≡ (with_news p n).reads
news_reads p (brings.ReadWaits r) = refl
news_reads p n = append-nil p.reads

news_bytes : (p : Pipe) (n : News) → p.bytes ≡ flat_map (λ (x : Piece). x.bytes) (piece_in p n) ++ (with_news p n).bytes
news_bytes p (brings.Delivered r) =
    sym (ap (λ (l : List ℕ). l ++ drop (piece_len p r) p.bytes) (append-nil (piece_of p r)) ∙ take-append-drop (piece_len p r) p.bytes)
news_bytes p n = refl

-- what one answer does
pub record IsPipeStep (s : Server) (a : Answer) : Type 0 where
  pub writes : s.pipe.writes ++ write_in (news_at s a) ≡ put_by (rule_at s a) ++ (answered s a).pipe.writes
  pub reads : s.pipe.reads ++ read_in (news_at s a) ≡ served_by (rule_at s a) ++ (answered s a).pipe.reads
  pub bytes : s.pipe.bytes ++ flat_map (λ (w : Write). w.bytes) (put_by (rule_at s a))
      ≡ flat_map (λ (x : Piece). x.bytes) (piece_in s.pipe (news_at s a)) ++ (answered s a).pipe.bytes
  pub written : map reply_to_write (put_by (rule_at s a)) ≡ written_call (answered s a).stage
  pub served : read_due s.stage ++ map (λ (r : Read). r.from) (served_by (rule_at s a))
      ≡ read_reply s.stage ++ read_due (answered s a).stage
  pub right : IsRightStage (answered s a).pipe (answered s a).stage

step_by : (p : Pipe) (stage : PipeServing) (a : Answer) → read_due stage ≡ read_reply stage → IsQuietNews p (news_of p stage a)
    → IsPipeStep (at p stage) a
step_by p stage a same quiet =
    let n : News = news_of p stage a in
    let q : Pipe = with_news p n in
    let rule : Rule = rule_for q n in
    let does : Settles q rule = news_settle p n quiet in
    let had : List ℕ = flat_map (λ (x : Piece). x.bytes) (piece_in p n) in
    let new : List ℕ = flat_map (λ (w : Write). w.bytes) (put_by rule) in
    record {
      writes = news_writes p n ∙ does.writes;
      reads = news_reads p n ∙ does.reads;
      bytes =
          ap (λ (l : List ℕ). l ++ new) (news_bytes p n)
          ∙ append_assoc had q.bytes new
          ∙ ap (λ (l : List ℕ). had ++ l) does.bytes;
      written = does.written;
      served =
          ap (λ (l : List Pid). l ++ map (λ (r : Read). r.from) (served_by rule)) same
          ∙ ap (λ (l : List Pid). read_reply stage ++ l) does.served;
      right = does.right;
    }

pub step : (p : Pipe) (stage : PipeServing) (a : Answer) → IsPipeStep (at p stage) a
step p stages.Receive a = step_by p stages.Receive a refl (received_is p a)
step p (stages.Load from count) a = step_by p (stages.Load from count) a refl (loaded_is p from count a)
step p (stages.Store r) a =
    record {
      writes = append-nil p.writes;
      reads = append-nil p.reads;
      bytes = append-nil p.bytes;
      written = refl;
      served = refl;
      right = tt;
    }
step p (stages.ReplyBytes r) a = step_by p (stages.ReplyBytes r) a refl (delivered_is p r a)
step p (stages.Reply to verdict) a = step_by p (stages.Reply to verdict) a refl tt
step p stages.Exit a = step_by p stages.Exit a refl (record { no_write = refl; no_read = refl; right = tt })
step p stages.Ended a = step_by p stages.Ended a refl (record { no_write = refl; no_read = refl; right = tt })

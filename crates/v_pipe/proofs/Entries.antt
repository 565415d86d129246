-- What a pipe server keeps of one request, from the answer by which it is taken to its reply, where nothing else of its sender waits.
use Rattle.std.proofs.Common.{◌≡◌, ℕ, ◌==◌, ◌&&◌, ◌||◌, not, Bool, true, false, List, [], ◌∷◌, ◌++◌, drop, filter, length, slice_get, Some, refl, sym, ap, subst, ◌∙◌, inl, inr, append-nil}
use Rattle.std.proofs.lemmas.Bool.{both_ways, cases_Bool, cond-true, cond-false}
use Rattle.std.proofs.lemmas.List.Elements.{filter-append}
use Rattle.std.proofs.lemmas.Option.{none-some, same_Some}
use Rattle.vk_types.specs.Types.{Answer, Message, Pid}
use Rattle.vk_base.specs.declared.answer.Answer.TheVariants as answers
use Rattle.vk_base.specs.Pids.{same_pid}
use Rattle.vk_base.proofs.ListLemmas.{cons_not_nil}
use Rattle.vk_base.proofs.PidLemmas.{same_pid_self}
use Rattle.vk_pipe.specs.declared.limits.TheConstants.{WAITING_REQUESTS}
use Rattle.vk_pipe.specs.declared.news.News.{News}
use Rattle.vk_pipe.specs.declared.news.News.TheVariants as brings
use Rattle.vk_pipe.specs.declared.serving.PipeServing.{PipeServing}
use Rattle.vk_pipe.specs.declared.serving.PipeServing.TheVariants as stages
use Rattle.vk_pipe.specs.declared.serving.Verdict.TheVariants as verdicts
use Rattle.vk_pipe.specs.declared.waiting.Read.{Read}
use Rattle.vk_pipe.specs.declared.waiting.Write.{Write}
use Rattle.vk_pipe.specs.Pipes.{after_news, Ends, Pipe, Puts, Rule, Serves, by_rule, delivered, judged, loaded, news_of, received, rule_for, settled, waiting, with_news}
use Rattle.vk_pipe.specs.Requests.{is_close, is_read, is_request, is_write, read_of}
use Rattle.vk_pipe.specs.Told.{put_by}
use Rattle.vk_pipe.proofs.Rules.{either_way, judged_goes, settled_goes}
use Rattle.v_laws.proofs.FilterLemmas.{same_head, same_tail}
use Rattle.v_laws.proofs.Tables.{same_pid_is}
use Rattle.v_pipe.specs.Waits.{NoneWaits, reads_of, writes_of}

abbrev pub write_by : Pid → List ℕ → Write
write_by s b = record { from = s; bytes = b }

-- of s nothing waits, or a write of these bytes, or the read that this message asks for
pub data Waits (s : Pid) (m : Message) (b : List ℕ) (ws : List Write) (rs : List Read) : Type 0 where
  nothing : writes_of s ws ≡ [] → reads_of s rs ≡ [] → Waits s m b ws rs
  write : is_write m ≡ true → writes_of s ws ≡ write_by s b ∷ [] → reads_of s rs ≡ [] → Waits s m b ws rs
  read : is_read m ≡ true → writes_of s ws ≡ [] → reads_of s rs ≡ read_of s m ∷ [] → Waits s m b ws rs

-- whether a call is made for s
abbrev pub about : Pid → PipeServing → Bool
about s (stages.Load from count) = same_pid from s
about s (stages.Store r) = same_pid r.from s
about s (stages.ReplyBytes r) = same_pid r.from s
about s (stages.Reply to verdict) = same_pid to s
about s stage = false

-- the write of s went into the pipe last
pub record PutLast (s : Pid) (b : List ℕ) (put : List Write) : Type 0 where
  pub earlier : List Write
  pub is : put ≡ earlier ++ write_by s b ∷ []

-- the read is the one that the message asks for
pub record IsAsked (s : Pid) (m : Message) (r : Read) : Type 0 where
  pub reads : is_read m ≡ true
  pub is : r ≡ read_of s m

-- its write is the one that was put in, and has so many bytes
pub record IsPut (s : Pid) (m : Message) (b : List ℕ) (put : List Write) (count : ℕ) : Type 0 where
  pub writes : is_write m ≡ true
  pub last : PutLast s b put
  pub size : count ≡ length b

-- what such a call has to do with the message, behind these writes that were put into the pipe
abbrev pub Suits : Pid → Message → List ℕ → List Write → PipeServing → Type 0
Suits s m b put (stages.Load from count) = is_write m ≡ true
Suits s m b put (stages.Store r) = IsAsked s m r
Suits s m b put (stages.ReplyBytes r) = IsAsked s m r
Suits s m b put (stages.Reply to (verdicts.Written count)) = IsPut s m b put count
Suits s m b put (stages.Reply to verdicts.Closed) = is_close m ≡ true
Suits s m b put stage = Unit {0}

-- the server keeps of s this request and no other
pub data Has (s : Pid) (m : Message) (b : List ℕ) (put : List Write) (p : Pipe) (stage : PipeServing) : Type 0 where
  elsewhere : about s stage ≡ false → Waits s m b p.writes p.reads → Has s m b put p stage
  serves : about s stage ≡ true → writes_of s p.writes ≡ [] → reads_of s p.reads ≡ [] → Suits s m b put stage → Has s m b put p stage

-- Lists.
first_is : {A : Type 0} (xs : List A) (x : A) → slice_get xs 0 ≡ Some x → xs ≡ x ∷ drop 1 xs
first_is [] x h = absurd (none-some x h)
first_is {A} (y ∷ ys) x h = ap (λ (z : A). z ∷ ys) (same_Some y x h)

-- what is kept of a list whose first is kept, or is not
with_first : {A : Type 0} (f : A → Bool) (xs : List A) (x : A) → slice_get xs 0 ≡ Some x → f x ≡ true →
    filter f xs ≡ x ∷ filter f (drop 1 xs)
with_first f xs x first t = ap (filter f) (first_is xs x first) ∙ cond-true (f x) (x ∷ filter f (drop 1 xs)) (filter f (drop 1 xs)) t

without_first : {A : Type 0} (f : A → Bool) (xs : List A) (x : A) → slice_get xs 0 ≡ Some x → f x ≡ false →
    filter f xs ≡ filter f (drop 1 xs)
without_first f xs x first n = ap (filter f) (first_is xs x first) ∙ cond-false (f x) (x ∷ filter f (drop 1 xs)) (filter f (drop 1 xs)) n

-- one more at the end, which is kept or is not
with_last : {A : Type 0} (f : A → Bool) (xs : List A) (x : A) → f x ≡ true → filter f (xs ++ x ∷ []) ≡ filter f xs ++ x ∷ []
with_last {A} f xs x t = filter-append f xs (x ∷ []) ∙ ap (λ (l : List A). filter f xs ++ l) (cond-true (f x) (x ∷ []) [] t)

without_last : {A : Type 0} (f : A → Bool) (xs : List A) (x : A) → f x ≡ false → filter f (xs ++ x ∷ []) ≡ filter f xs
without_last {A} f xs x n =
    filter-append f xs (x ∷ []) ∙ ap (λ (l : List A). filter f xs ++ l) (cond-false (f x) (x ∷ []) [] n) ∙ append-nil (filter f xs)

-- What waits, where the lists keep the same of s.
waits_same : (s : Pid) (m : Message) (b : List ℕ) (ws vs : List Write) (rs qs : List Read) → writes_of s vs ≡ writes_of s ws →
    reads_of s qs ≡ reads_of s rs → Waits s m b ws rs → Waits s m b vs qs
waits_same s m b ws vs rs qs writes reads (Waits.nothing a c) = Waits.nothing (writes ∙ a) (reads ∙ c)
waits_same s m b ws vs rs qs writes reads (Waits.write is a c) = Waits.write is (writes ∙ a) (reads ∙ c)
waits_same s m b ws vs rs qs writes reads (Waits.read is a c) = Waits.read is (writes ∙ a) (reads ∙ c)

-- Settling.
abbrev pub HasBy : Pid → Message → List ℕ → List Write → Pipe → Rule → Type 0
HasBy s m b put p rule = Has s m b (put ++ put_by rule) (by_rule p rule).pipe (by_rule p rule).stage

-- the first write is the one of s
put_own : (s : Pid) (m : Message) (b : List ℕ) (put : List Write) (p : Pipe) (w : Write) → slice_get p.writes 0 ≡ Some w →
    same_pid w.from s ≡ true → Waits s m b p.writes p.reads → HasBy s m b put p (Puts w)
put_own s m b put p w first own (Waits.nothing a c) =
    absurd (cons_not_nil w (writes_of s (drop 1 p.writes)) (sym (with_first (λ (w : Write). same_pid w.from s) p.writes w first own) ∙ a))
put_own s m b put p w first own (Waits.read is a c) =
    absurd (cons_not_nil w (writes_of s (drop 1 p.writes)) (sym (with_first (λ (w : Write). same_pid w.from s) p.writes w first own) ∙ a))
put_own s m b put p w first own (Waits.write is a c) =
    let e = sym (with_first (λ (w : Write). same_pid w.from s) p.writes w first own) ∙ a in
    let same : w ≡ write_by s b = same_head w (write_by s b) (writes_of s (drop 1 p.writes)) [] e in
    Has.serves own (same_tail w (write_by s b) (writes_of s (drop 1 p.writes)) [] e) c
    (record {
      writes = is;
      last = record { earlier = put; is = ap (λ (x : Write). put ++ x ∷ []) same };
      size = ap (λ (x : Write). length x.bytes) same;
    })

put_on : (s : Pid) (m : Message) (b : List ℕ) (put : List Write) (p : Pipe) (w : Write) → slice_get p.writes 0 ≡ Some w →
    Waits s m b p.writes p.reads → HasBy s m b put p (Puts w)
put_on s m b put p w first waits = elim (cases_Bool (same_pid w.from s)) [
  | inl own ↦ put_own s m b put p w first own waits
  | inr other ↦ Has.elsewhere other (waits_same s m b p.writes (drop 1 p.writes) p.reads p.reads
      (sym (without_first (λ (w : Write). same_pid w.from s) p.writes w first other)) refl waits)
]

-- the first read is the one of s
pub record IsFirst (s : Pid) (m : Message) (p : Pipe) (r : Read) : Type 0 where
  asked : IsAsked s m r
  writes : writes_of s p.writes ≡ []
  rest : reads_of s (drop 1 p.reads) ≡ []

first_own : (s : Pid) (m : Message) (b : List ℕ) (p : Pipe) (r : Read) → slice_get p.reads 0 ≡ Some r → same_pid r.from s ≡ true →
    Waits s m b p.writes p.reads → IsFirst s m p r
first_own s m b p r first own (Waits.nothing a c) =
    absurd (cons_not_nil r (reads_of s (drop 1 p.reads)) (sym (with_first (λ (x : Read). same_pid x.from s) p.reads r first own) ∙ c))
first_own s m b p r first own (Waits.write is a c) =
    absurd (cons_not_nil r (reads_of s (drop 1 p.reads)) (sym (with_first (λ (x : Read). same_pid x.from s) p.reads r first own) ∙ c))
first_own s m b p r first own (Waits.read is a c) =
    let e = sym (with_first (λ (x : Read). same_pid x.from s) p.reads r first own) ∙ c in
    record {
      asked = record { reads = is; is = same_head r (read_of s m) (reads_of s (drop 1 p.reads)) [] e };
      writes = a;
      rest = same_tail r (read_of s m) (reads_of s (drop 1 p.reads)) [] e;
    }

others_read : (s : Pid) (m : Message) (b : List ℕ) (p : Pipe) (r : Read) → slice_get p.reads 0 ≡ Some r → same_pid r.from s ≡ false →
    Waits s m b p.writes p.reads → Waits s m b p.writes (drop 1 p.reads)
others_read s m b p r first other waits = waits_same s m b p.writes p.writes p.reads (drop 1 p.reads) refl
    (sym (without_first (λ (x : Read). same_pid x.from s) p.reads r first other)) waits

serve_on : (s : Pid) (m : Message) (b : List ℕ) (put : List Write) (p : Pipe) (r : Read) → slice_get p.reads 0 ≡ Some r →
    Waits s m b p.writes p.reads → HasBy s m b put p (Serves r)
serve_on s m b put p r first waits = elim (cases_Bool (same_pid r.from s)) [
  | inl own ↦ let f = first_own s m b p r first own waits in Has.serves own f.writes f.rest f.asked
  | inr other ↦ Has.elsewhere other (others_read s m b p r first other waits)
]

end_on : (s : Pid) (m : Message) (b : List ℕ) (put : List Write) (p : Pipe) (r : Read) → slice_get p.reads 0 ≡ Some r →
    Waits s m b p.writes p.reads → HasBy s m b put p (Ends r)
end_on s m b put p r first waits = elim (cases_Bool (same_pid r.from s)) [
  | inl own ↦ let f = first_own s m b p r first own waits in Has.serves own f.writes f.rest tt
  | inr other ↦ Has.elsewhere other (others_read s m b p r first other waits)
]

settled_has : (s : Pid) (m : Message) (b : List ℕ) (put : List Write) (p : Pipe) → Waits s m b p.writes p.reads →
    HasBy s m b put p (settled p)
settled_has s m b put p waits =
    settled_goes (HasBy s m b put p) p (Has.elsewhere refl waits) (λ rest. Has.elsewhere refl waits)
    (λ w first room. put_on s m b put p w first waits) (λ r first some. serve_on s m b put p r first waits)
    (λ r first over. end_on s m b put p r first waits)

-- News.
abbrev pub HasNews : Pid → Message → List ℕ → List Write → Pipe → News → Type 0
HasNews s m b put p n = HasBy s m b put (with_news p n) (rule_for (with_news p n) n)

-- a call that is due puts nothing in
due_has : (s : Pid) (m : Message) (b : List ℕ) (put : List Write) (p : Pipe) (stage : PipeServing) → Has s m b put p stage →
    Has s m b (put ++ []) p stage
due_has s m b put p stage has = subst (λ (ws : List Write). Has s m b ws p stage) (sym (append-nil put)) has

-- who asks for something, neither to write nor to close, asks to read
asks_read : (w r c : Bool) → not (w || r || c) ≡ false → c ≡ false → w ≡ false → r ≡ true
asks_read true r c f g h = absurd (both_ways true h refl)
asks_read false true c f g h = refl
asks_read false false true f g h = absurd (both_ways true g refl)
asks_read false false false f g h = absurd (both_ways true f refl)

-- the request is taken, where nothing of its sender waits
pub own_judged : (s : Pid) (m : Message) (b : List ℕ) (put : List Write) (p : Pipe) (count : ℕ) → NoneWaits s p →
    HasNews s m b put p (judged p s m count)
own_judged s m b put p count none =
    either_way (HasNews s m b put p) (not (is_request m)) _ _ (λ e. due (stages.Reply s verdicts.Bad) refl tt) (λ asks.
    either_way (HasNews s m b put p) (is_close m) _ _ (λ e. closes e) (λ open_still.
    either_way (HasNews s m b put p) (is_write m && p.closed) _ _ (λ e. due (stages.Reply s verdicts.Shut) refl tt) (λ e.
    either_way (HasNews s m b put p) (waiting p == WAITING_REQUESTS) _ _ (λ e. due (stages.Reply s verdicts.Full) refl tt) (λ e.
    either_way (HasNews s m b put p) (is_write m) _ _ (λ writes. due (stages.Load s count) refl writes)
    (λ no_write. reads (asks_read (is_write m) (is_read m) (is_close m) asks open_still no_write))))))
  where
    due : (stage : PipeServing) → about s stage ≡ same_pid s s → Suits s m b put stage → HasNews s m b put p (brings.Due stage)
    due stage mine suits =
        due_has s m b put p stage (Has.serves (mine ∙ same_pid_self s) none.writes none.reads suits)

    closes : is_close m ≡ true → HasNews s m b put p (brings.Close s)
    closes e =
        due_has s m b put (record p { closed = true }) (stages.Reply s verdicts.Closed)
        (Has.serves (same_pid_self s) none.writes none.reads e)

    reads : is_read m ≡ true → HasNews s m b put p (brings.ReadWaits (read_of s m))
    reads e =
        settled_has s m b put (with_news p (brings.ReadWaits (read_of s m)))
        (Waits.read e none.writes (with_last (λ (x : Read). same_pid x.from s) p.reads (read_of s m) (same_pid_self s)
        ∙ ap (λ (l : List Read). l ++ read_of s m ∷ []) none.reads))

-- a request of another process is taken
other_judged : (s : Pid) (m : Message) (b : List ℕ) (put : List Write) (p : Pipe) (from : Pid) (asked : Message) (count : ℕ) →
    same_pid from s ≡ false → Waits s m b p.writes p.reads → HasNews s m b put p (judged p from asked count)
other_judged s m b put p from asked count other waits =
    either_way (HasNews s m b put p) (not (is_request asked)) _ _ (λ e. due (stages.Reply from verdicts.Bad) other) (λ e.
    either_way (HasNews s m b put p) (is_close asked) _ _ (λ e. closes) (λ e.
    either_way (HasNews s m b put p) (is_write asked && p.closed) _ _ (λ e. due (stages.Reply from verdicts.Shut) other) (λ e.
    either_way (HasNews s m b put p) (waiting p == WAITING_REQUESTS) _ _ (λ e. due (stages.Reply from verdicts.Full) other) (λ e.
    either_way (HasNews s m b put p) (is_write asked) _ _ (λ e. due (stages.Load from count) other) (λ e. reads)))))
  where
    due : (stage : PipeServing) → about s stage ≡ false → HasNews s m b put p (brings.Due stage)
    due stage not = due_has s m b put p stage (Has.elsewhere not waits)

    closes : HasNews s m b put p (brings.Close from)
    closes = due_has s m b put (record p { closed = true }) (stages.Reply from verdicts.Closed) (Has.elsewhere other waits)

    reads : HasNews s m b put p (brings.ReadWaits (read_of from asked))
    reads =
        settled_has s m b put (with_news p (brings.ReadWaits (read_of from asked)))
        (waits_same s m b p.writes p.writes p.reads (p.reads ++ read_of from asked ∷ []) refl
        (without_last (λ (x : Read). same_pid x.from s) p.reads (read_of from asked) other) waits)

-- One answer.

-- it brings a request of s
abbrev pub brings_of : Pid → Answer → Bool
brings_of s (answers.ReceivedSegment from asked count) = same_pid from s
brings_of s a = false

-- it is none that brings another request of s, and what it loads for s are these bytes
abbrev pub NotAgain : Pid → List ℕ → PipeServing → Answer → Type 0
NotAgain s b stages.Receive a = brings_of s a ≡ false
NotAgain s b (stages.Load from count) a = same_pid from s ≡ true → (x : List ℕ) → a ≡ answers.Loaded x → x ≡ b
NotAgain s b stage a = Unit {0}

-- what waits, whatever call is made
pub waits_of : (s : Pid) (m : Message) (b : List ℕ) (put : List Write) (p : Pipe) (stage : PipeServing) → Has s m b put p stage →
    Waits s m b p.writes p.reads
waits_of s m b put p stage (Has.elsewhere not waits) = waits
waits_of s m b put p stage (Has.serves mine a c suits) = Waits.nothing a c

ended_has : (s : Pid) (m : Message) (b : List ℕ) (put : List Write) (p : Pipe) → Waits s m b p.writes p.reads →
    HasNews s m b put p (brings.Due stages.Ended)
ended_has s m b put p waits = due_has s m b put p stages.Ended (Has.elsewhere refl waits)

received_has : (s : Pid) (m : Message) (b : List ℕ) (put : List Write) (p : Pipe) (a : Answer) → Waits s m b p.writes p.reads →
    brings_of s a ≡ false → HasNews s m b put p (received p a)
received_has s m b put p (answers.ReceivedSegment from asked count) waits other = other_judged s m b put p from asked count other waits
received_has s m b put p a waits other = ended_has s m b put p waits

-- the bytes of a write are there, which waits from then on
write_waits : (s : Pid) (m : Message) (b : List ℕ) (put : List Write) (p : Pipe) (from : Pid) (count : ℕ) (x : List ℕ) →
    Has s m b put p (stages.Load from count) → (same_pid from s ≡ true → x ≡ b) →
    Waits s m b (p.writes ++ write_by from x ∷ []) p.reads
write_waits s m b put p from count x (Has.elsewhere other waits) same =
    waits_same s m b p.writes (p.writes ++ write_by from x ∷ []) p.reads p.reads
    (without_last (λ (w : Write). same_pid w.from s) p.writes (write_by from x) other) refl waits
write_waits s m b put p from count x (Has.serves mine a c suits) same =
    Waits.write suits
    (with_last (λ (w : Write). same_pid w.from s) p.writes (write_by from x) mine
    ∙ ap (λ (l : List Write). l ++ write_by from x ∷ []) a
    ∙ (λ i. write_by (same_pid_is from s mine i) (same mine i) ∷ []))
    c

loaded_has : (s : Pid) (m : Message) (b : List ℕ) (put : List Write) (p : Pipe) (from : Pid) (count : ℕ) (a : Answer) →
    Has s m b put p (stages.Load from count) → NotAgain s b (stages.Load from count) a → HasNews s m b put p (loaded from count a)
loaded_has s m b put p from count (answers.Loaded x) has same =
    either_way (HasNews s m b put p) (length x == count) _ _
    (λ e. settled_has s m b put (with_news p (brings.WriteWaits (write_by from x)))
    (write_waits s m b put p from count x has (λ mine. same mine x refl)))
    (λ e. ended_has s m b put p (waits_of s m b put p (stages.Load from count) has))
loaded_has s m b put p from count a has same = ended_has s m b put p (waits_of s m b put p (stages.Load from count) has)

delivered_has : (s : Pid) (m : Message) (b : List ℕ) (put : List Write) (p : Pipe) (r : Read) (a : Answer) →
    Waits s m b p.writes p.reads → HasNews s m b put p (delivered r a)
delivered_has s m b put p r answers.Ok waits = settled_has s m b put (with_news p (brings.Delivered r)) waits
delivered_has s m b put p r a waits = settled_has s m b put (with_news p brings.Replied) waits

stored_has : (s : Pid) (m : Message) (b : List ℕ) (put : List Write) (p : Pipe) (r : Read) → Has s m b put p (stages.Store r) →
    Has s m b put p (stages.ReplyBytes r)
stored_has s m b put p r (Has.elsewhere other waits) = Has.elsewhere other waits
stored_has s m b put p r (Has.serves mine a c asked) = Has.serves mine a c asked

pub has_next : (s : Pid) (m : Message) (b : List ℕ) (put : List Write) (p : Pipe) (stage : PipeServing) (a : Answer) →
    Has s m b put p stage → NotAgain s b stage a → HasNews s m b put p (news_of p stage a)
has_next s m b put p stages.Receive a has again = received_has s m b put p a (waits_of s m b put p stages.Receive has) again
has_next s m b put p (stages.Load from count) a has again = loaded_has s m b put p from count a has again
has_next s m b put p (stages.Store r) a has again =
    due_has s m b put p (stages.ReplyBytes r) (stored_has s m b put p r has)
has_next s m b put p (stages.ReplyBytes r) a has again =
    delivered_has s m b put p r a (waits_of s m b put p (stages.ReplyBytes r) has)
has_next s m b put p (stages.Reply to verdict) a has again =
    settled_has s m b put (with_news p brings.Replied) (waits_of s m b put p (stages.Reply to verdict) has)
has_next s m b put p stages.Exit a has again = ended_has s m b put p (waits_of s m b put p stages.Exit has)
has_next s m b put p stages.Ended a has again = ended_has s m b put p (waits_of s m b put p stages.Ended has)

-- what a call for s has to do with its message
pub suits_own : (s : Pid) (m : Message) (b : List ℕ) (put : List Write) (p : Pipe) (stage : PipeServing) → Has s m b put p stage →
    about s stage ≡ true → Suits s m b put stage
suits_own s m b put p stage (Has.elsewhere other waits) mine = absurd (both_ways (about s stage) other mine)
suits_own s m b put p stage (Has.serves own a c suits) mine = suits

-- whether it loads the bytes of a write of s
abbrev pub loads_of : Pid → PipeServing → Bool
loads_of s (stages.Load from count) = same_pid from s
loads_of s stage = false

abbrev pub LoadsNone : Pid → Pipe → News → Type 0
LoadsNone s p n = loads_of s (after_news p n).stage ≡ false

settled_loads : (s : Pid) (p : Pipe) → loads_of s (by_rule p (settled p)).stage ≡ false
settled_loads s p =
    settled_goes (λ (rule : Rule). loads_of s (by_rule p rule).stage ≡ false) p refl (λ rest. refl) (λ w first room. refl)
    (λ r first some. refl) (λ r first over. refl)

received_loads : (s : Pid) (p : Pipe) (a : Answer) → brings_of s a ≡ false → LoadsNone s p (received p a)
received_loads s p (answers.ReceivedSegment from asked count) other =
    judged_goes (LoadsNone s p) p from asked count refl (λ e. refl) refl (λ full. refl) (λ few. other)
    (λ few. settled_loads s (with_news p (brings.ReadWaits (read_of from asked))))
received_loads s p a other = refl

loaded_loads : (s : Pid) (p : Pipe) (from : Pid) (count : ℕ) (a : Answer) → LoadsNone s p (loaded from count a)
loaded_loads s p from count (answers.Loaded x) =
    either_way (LoadsNone s p) (length x == count) _ _
    (λ e. settled_loads s (with_news p (brings.WriteWaits (write_by from x)))) (λ e. refl)
loaded_loads s p from count a = refl

delivered_loads : (s : Pid) (p : Pipe) (r : Read) (a : Answer) → LoadsNone s p (delivered r a)
delivered_loads s p r answers.Ok = settled_loads s (with_news p (brings.Delivered r))
delivered_loads s p r a = settled_loads s (with_news p brings.Replied)

pub loads_next : (s : Pid) (b : List ℕ) (p : Pipe) (stage : PipeServing) (a : Answer) → NotAgain s b stage a →
    LoadsNone s p (news_of p stage a)
loads_next s b p stages.Receive a again = received_loads s p a again
loads_next s b p (stages.Load from count) a again = loaded_loads s p from count a
loads_next s b p (stages.Store r) a again = refl
loads_next s b p (stages.ReplyBytes r) a again = delivered_loads s p r a
loads_next s b p (stages.Reply to verdict) a again = settled_loads s (with_news p brings.Replied)
loads_next s b p stages.Exit a again = refl
loads_next s b p stages.Ended a again = refl

-- what it loads of a request that was just taken has this many bytes
abbrev pub LoadsOnly : ℕ → PipeServing → Type 0
LoadsOnly count (stages.Load from n) = n ≡ count
LoadsOnly count stage = Unit {0}

pub judged_loads : (p : Pipe) (from : Pid) (m : Message) (count : ℕ) → LoadsOnly count (after_news p (judged p from m count)).stage
judged_loads p from m count =
    judged_goes (λ (n : News). LoadsOnly count (after_news p n).stage) p from m count tt (λ e. tt) tt (λ full. tt) (λ few. refl)
    (λ few. let q = with_news p (brings.ReadWaits (read_of from m)) in
    settled_goes (λ (rule : Rule). LoadsOnly count (by_rule q rule).stage) q tt (λ rest. tt) (λ w first room. tt) (λ r first some. tt)
    (λ r first over. tt))

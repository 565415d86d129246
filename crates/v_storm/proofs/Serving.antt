-- The page server in a storm: what it calls is such that code can hold it, and it never ends.
use Rattle.std.proofs.Common.{◌≡◌, ℕ, zero, suc, ◌+◌, ◌^◌, ◌<◌, ◌≤◌, ◌==◌, ◌&&◌, ◌||◌, false, cond, not, nat_lt, nat_le, List, [], ◌∷◌, ◌++◌, length, replicate, slice_get, Option, Some, None, refl, sym, ap, subst, ◌∙◌, arith, option_map}
use Rattle.std.proofs.lemmas.Bool.{cond-true, cond_both, eq-eqb, ltb-true, not-false, both_ways, ne_eqb}
use Rattle.std.proofs.lemmas.List.{length-set}
use Rattle.std.proofs.lemmas.Option.{same_Some}
use Rattle.vk_types.specs.Types.{Answer, Call, Message, Pid}
use Rattle.vk_base.specs.declared.answer.Answer.TheVariants as answers
use Rattle.vk_base.specs.declared.call.Call.TheVariants as calls
use Rattle.vk_base.specs.Messages.{IsMessage, grants_of}
use Rattle.vk_text.specs.Laws.{IsReadable}
use Rattle.vk_rules.specs.Each.{Each}
use Rattle.vk_rules.proofs.Lists.{each_at}
use Rattle.v_lawful.proofs.Bytes.{zero_bytes}
use Rattle.v_lawful.proofs.Lists.{each_set}
use Rattle.vk_pages.specs.declared.serving.PageServing.{PageServing}
use Rattle.vk_pages.specs.declared.serving.PageServing.TheVariants as stages
use Rattle.vk_pages.specs.Messages.{code_of, page_of, reply_of}
use Rattle.vk_pages.specs.Pages.{zero_page}
use Rattle.vk_pages.specs.Servers.{Server, answered, answered_all, answered_at, loaded, new_server, one_more, page_in, received, replied, stage_call, taken}
use Rattle.vk_wire.specs.Fields.{IsBytes}
use Rattle.v_storm.proofs.Views.{IsOurs, IsPlain, IsReceived}
use Rattle.v_storm.proofs.Called.{IsAnswerTo, LiesInMemory}
use Rattle.v_storm.proofs.Messages.{reply_message, start_small, word_small}
use Rattle.v_storm.proofs.Ours.{our_pid}

-- what it does next is no end
abbrev pub IsGoodStage : PageServing → Type 0
IsGoodStage stages.Receive = Unit {0}
IsGoodStage (stages.Load from page) = IsOurs from × (page < 2 ^ 32)
IsGoodStage (stages.Store from page dest) = IsOurs from × (page < 16) × (dest < 2 ^ 32)
IsGoodStage (stages.ReplyPage from page dest) = IsOurs from × (page < 2 ^ 32) × (dest < 2 ^ 32)
IsGoodStage (stages.Reply from page code) = IsOurs from × (page < 2 ^ 32) × (code < 256)
IsGoodStage stages.Exit = ⊥
IsGoodStage stages.Ended = ⊥

abbrev pub IsPage : List ℕ → Type 0
IsPage bytes = (length bytes ≡ 512) × IsBytes bytes

-- it serves, and has made no more replies than so many
pub record IsServing (most : ℕ) (s : Server) : Type 0 where
  pub count : length s.pages ≡ 16
  pub pages : Each IsPage s.pages
  pub replies : s.replies ≤ most
  pub stage : IsGoodStage s.stage

-- more requests than a storm has events
abbrev pub requests : ℕ
requests = 4294967295

each_zero : (n : ℕ) → Each IsPage (replicate n zero_page)
each_zero zero = tt
each_zero (suc n) = ((refl, zero_bytes 512), each_zero n)

pub serving_first : IsServing 0 (new_server 16 requests)
serving_first = record { count = refl; pages = each_zero 16; replies = omega arith; stage = tt }

-- What it is asked for.
module _ (from : Pid) (m : Message) (ours : IsOurs from) (message : IsMessage m) where
  refuses : (code : ℕ) → code < 256 → IsGoodStage (stages.Reply from (page_of m) code)
  refuses code low = (ours, word_small m 4 message, low)

  pub taken_good : (pages : ℕ) → pages ≡ 16 → IsGoodStage (taken pages from m)
  taken_good pages all =
      cond_both (not (code_of m == 1 || code_of m == 2)) (stages.Reply from (page_of m) 2) _ IsGoodStage (λ t. refuses 2 (omega arith))
      (λ f. cond_both (not (nat_lt (page_of m) pages)) (stages.Reply from (page_of m) 1) _ IsGoodStage (λ t. refuses 1 (omega arith))
      (λ g. let below = ltb-true (page_of m) pages (not-false (nat_lt (page_of m) pages) g) in
      cond_both (code_of m == 1)
      (cond ((grants_of m).write && nat_le 512 (grants_of m).range.len) (stages.Store from (page_of m) (grants_of m).range.start)
      (stages.Reply from (page_of m) 2))
      (cond ((grants_of m).read && (grants_of m).range.len == 512) (stages.Load from (page_of m)) (stages.Reply from (page_of m) 2))
      IsGoodStage
      (λ t. cond_both ((grants_of m).write && nat_le 512 (grants_of m).range.len)
      (stages.Store from (page_of m) (grants_of m).range.start) (stages.Reply from (page_of m) 2) IsGoodStage
      (λ u. (ours, omega (arith, below, all), start_small m message)) (λ u. refuses 2 (omega arith)))
      (λ t. cond_both ((grants_of m).read && (grants_of m).range.len == 512) (stages.Load from (page_of m))
      (stages.Reply from (page_of m) 2) IsGoodStage (λ u. (ours, word_small m 4 message)) (λ u. refuses 2 (omega arith)))))

received_good : (pages : ℕ) (a : Answer) → pages ≡ 16 → IsReceived a → IsGoodStage (received pages a)
received_good pages (answers.ReceivedSegment from m count) all is = taken_good from m is.0 is.1 pages all
received_good pages a all is = absurd is

-- One answer more.
abbrev IsAnswerAt : PageServing → Answer → Type 0
IsAnswerAt stages.Receive a = IsReceived a
IsAnswerAt (stages.Load from page) a = (bytes : List ℕ) × (a ≡ answers.Loaded bytes) × (length bytes ≡ 512) × IsBytes bytes
IsAnswerAt stage a = Unit {0}

replied_on : (most : ℕ) (s : Server) → most + 1 < requests → length s.pages ≡ 16 → Each IsPage s.pages → s.replies ≤ most →
    IsServing (most + 1) (replied requests s)
replied_on most s few count pages replies =
    let n : ℕ = one_more requests s.replies in
    let least : n ≤ most + 1 = omega (arith, replies) in
    let apart : (n == requests) ≡ false = ne_eqb n requests (λ e. omega (arith, e, least, few)) in
    record {
      count = count;
      pages = pages;
      replies = least;
      stage = cond_both (n == requests) stages.Exit stages.Receive IsGoodStage
          (λ t. absurd (both_ways (n == requests) apart t)) (λ f. tt);
    }

loaded_on : (most : ℕ) (s : Server) (from : Pid) (page : ℕ) (a : Answer) (bytes : List ℕ) → length s.pages ≡ 16 → Each IsPage s.pages →
    s.replies ≤ most → IsOurs from → page < 2 ^ 32 → a ≡ answers.Loaded bytes → length bytes ≡ 512 → IsBytes bytes →
    IsServing (most + 1) (loaded s from page (page_in a))
loaded_on most s from page a bytes count pages replies ours small is long are =
    let found : page_in a ≡ Some bytes =
    ap page_in is ∙ cond-true (length bytes == 512) (Some bytes) None (eq-eqb (length bytes) 512 long) in
    subst (λ o. IsServing (most + 1) (loaded s from page o)) (sym found) (record {
      count = length-set s.pages page bytes ∙ count;
      pages = each_set IsPage s.pages page bytes pages (long, are);
      replies = omega (arith, replies);
      stage = (ours, small, omega arith);
    })

serving_at : (stage : PageServing) (most : ℕ) (s : Server) (a : Answer) → most + 1 < requests → length s.pages ≡ 16 → Each IsPage s.pages →
    s.replies ≤ most → IsGoodStage stage → IsAnswerAt stage a → IsServing (most + 1) (answered_at stage requests s a)
serving_at stages.Receive most s a few count pages replies good is =
    record { count = count; pages = pages; replies = omega (arith, replies); stage = received_good (length s.pages) a count is }
serving_at (stages.Load from page) most s a few count pages replies good is =
    loaded_on most s from page a is.0 count pages replies good.0 good.1 is.1 is.2 is.3
serving_at (stages.Store from page dest) most s a few count pages replies good is =
    let below = good.1 in
    record { count = count; pages = pages; replies = omega (arith, replies); stage = (good.0, omega (arith, below), good.2) }
serving_at (stages.ReplyPage from page dest) most s a few count pages replies good is = replied_on most s few count pages replies
serving_at (stages.Reply from page code) most s a few count pages replies good is = replied_on most s few count pages replies
serving_at stages.Exit most s a few count pages replies good is = absurd good
serving_at stages.Ended most s a few count pages replies good is = absurd good

-- What it calls.
pub record IsGoodCall (o : Option Call) : Type 0 where
  pub call : Call
  pub is : o ≡ Some call
  pub plain : IsPlain call
  pub within : LiesInMemory call
  pub readable : IsReadable call

stored_call : (o : Option (List ℕ)) → (bytes : List ℕ) → o ≡ Some bytes → IsPage bytes →
    IsGoodCall (option_map (λ bytes. calls.Store 0 bytes) o)
stored_call o bytes is page = record {
  call = calls.Store 0 bytes;
  is = ap (λ p. option_map (λ b. calls.Store 0 b) p) is;
  plain = tt;
  within = tt;
  readable = let long = page.0 in (omega arith, (omega (arith, long), page.1));
}

there : (pages : List (List ℕ)) (page : ℕ) → page < length pages → (bytes : List ℕ) × (slice_get pages page ≡ Some bytes)
there [] page low = absurd (omega arith)
there (x ∷ xs) zero low = (x, refl)
there (x ∷ xs) (suc page) low = there xs page (omega arith)

call_at : (stage : PageServing) (pages : List (List ℕ)) → length pages ≡ 16 → Each IsPage pages → IsGoodStage stage →
    IsGoodCall (stage_call pages stage)
call_at stages.Receive pages count all good = record {
  call = calls.ReceiveSegment 0 512;
  is = refl;
  plain = tt;
  within = omega arith;
  readable = (omega arith, omega arith);
}
call_at (stages.Load from page) pages count all good = record {
  call = calls.Load 0 512;
  is = refl;
  plain = tt;
  within = (omega arith, omega arith);
  readable = (omega arith, omega arith);
}
call_at (stages.Store from page dest) pages count all good =
    let below = good.1 in
    let b = there pages page (omega (arith, below, count)) in
    stored_call (slice_get pages page) b.0 b.1 (each_at IsPage pages page b.0 all b.1)
call_at (stages.ReplyPage from page dest) pages count all good = record {
  call = calls.ReplySegment (reply_of 0 page) from dest 0 512;
  is = refl;
  plain = tt;
  within = tt;
  readable = (reply_message 0 page (omega arith), our_pid from good.0, good.2, omega arith, omega arith);
}
call_at (stages.Reply from page code) pages count all good = record {
  call = calls.Reply (reply_of code page) from;
  is = refl;
  plain = tt;
  within = tt;
  readable = (reply_message code page good.2, our_pid from good.0);
}
call_at stages.Exit pages count all good = absurd good
call_at stages.Ended pages count all good = absurd good

pub serving_calls : (most : ℕ) (s : Server) → IsServing most s → IsGoodCall (stage_call s.pages s.stage)
serving_calls most s is = call_at s.stage s.pages is.count is.pages is.stage

-- an answer to that call
answers_at : (stage : PageServing) (pages : List (List ℕ)) (c : Call) (a : Answer) → stage_call pages stage ≡ Some c → IsAnswerTo c a →
    IsAnswerAt stage a
answers_at stages.Receive pages c a is told = subst (λ z. IsAnswerTo z a) (sym (same_Some (calls.ReceiveSegment 0 512) c is)) told
answers_at (stages.Load from page) pages c a is told = subst (λ z. IsAnswerTo z a) (sym (same_Some (calls.Load 0 512) c is)) told
answers_at stage pages c a is told = tt

pub serving_more : (most : ℕ) (s : Server) (c : Call) (a : Answer) → most + 1 < requests → IsServing most s →
    stage_call s.pages s.stage ≡ Some c → IsAnswerTo c a → IsServing (most + 1) (answered requests s a)
serving_more most s c a few is called told =
    serving_at s.stage most s a few is.count is.pages is.replies is.stage (answers_at s.stage s.pages c a called told)

-- after all answers, one more
pub answered_more : (s : Server) (given : List Answer) (a : Answer) →
    answered_all requests s (given ++ a ∷ []) ≡ answered requests (answered_all requests s given) a
answered_more s [] a = refl
answered_more s (x ∷ xs) a = answered_more (answered requests s x) xs a

-- The server's code after one answer more.
use Rattle.std.proofs.Common.{◌≡◌, ℕ, ◌+◌, ◌≤◌, List, [], ◌∷◌, ◌++◌, refl, ap, arith, subst, sym, ◌∙◌}
use Rattle.vk_types.specs.Types.{Answer}
use Rattle.vk_pipe.specs.declared.limits.TheConstants.{WAITING_REQUESTS}
use Rattle.vk_pipe.specs.declared.news.News.{News}
use Rattle.vk_pipe.proofs.Room.{IsRoomy, news_room, places_in, room_after}
use Rattle.vk_pipe.specs.Pipes.{Server, after_news, answered, answered_all, new_server, news_of, server_after, waiting, with_news}

pub one_more_answer : (s : Server) (given : List Answer) (a : Answer)
    → answered_all s (given ++ a ∷ []) ≡ answered (answered_all s given) a
one_more_answer s [] a = refl
one_more_answer s (b ∷ rest) a = one_more_answer (answered s b) rest a

-- sixteen requests at most wait behind the news
fits : (requests : ℕ) (given : List Answer) (old : Server) (a : Answer) → server_after requests given ≡ old
    → waiting (with_news old.pipe (news_of old.pipe old.stage a)) ≤ WAITING_REQUESTS
fits requests given old a is =
    let room : IsRoomy old.pipe old.stage = subst (λ (s : Server). IsRoomy s.pipe s.stage) is (room_after requests given) in
    let few : waiting (with_news old.pipe (news_of old.pipe old.stage a)) + places_in (news_of old.pipe old.stage a) ≤ 16
    = news_room old.pipe old.stage a room.few in
    omega (arith, few)

-- as the code writes it
pub after_last : (requests left : ℕ) (old new : Server) (n : News) (a : Answer) (told given : List Answer)
    → left ≡ requests → told ≡ a ∷ [] → n ≡ news_of old.pipe old.stage a
    → (waiting (with_news old.pipe n) ≤ WAITING_REQUESTS → new ≡ after_news old.pipe n)
    → server_after requests given ≡ old → server_after left (given ++ told) ≡ new
after_last requests left old new n a told given same one brought follows is =
    let goes : (waiting (with_news old.pipe (news_of old.pipe old.stage a)) ≤ WAITING_REQUESTS → new ≡ answered old a)
    = subst (λ (m : News). waiting (with_news old.pipe m) ≤ WAITING_REQUESTS → new ≡ after_news old.pipe m) brought follows in
    ap (λ (r : ℕ). server_after r (given ++ told)) same
    ∙ ap (λ (l : List Answer). server_after requests (given ++ l)) one
    ∙ one_more_answer (new_server requests) given a
    ∙ ap (λ (s : Server). answered s a) is
    ∙ sym (goes (fits requests given old a is))

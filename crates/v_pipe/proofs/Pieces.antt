-- The bytes that a reply gives are the next piece of what a pipe server hands out.
use Rattle.std.proofs.Common.{◌≡◌, ℕ, suc, ◌+◌, ◌<◌, ◌≤◌, List, [], ◌∷◌, ◌++◌, length, take, refl, sym, ap, ◌∙◌, append-nil, append_assoc, arith}
use Rattle.std.specs.List.{flat_map}
use Rattle.std.proofs.lemmas.List.{length-append}
use Rattle.std.proofs.lemmas.List.Concat.{flat_map-append}
use Rattle.std.proofs.Math.Seq.{drop-append_seam, take-append_seam}
use Rattle.vk_types.specs.Types.{Answer, Message, Pid, ProcessSpec, Step}
use Rattle.vk_base.specs.declared.answer.Answer.TheVariants as answers
use Rattle.vk_base.specs.Ranges.{range_of, bytes_in}
use Rattle.v_pages.specs.Followed.{answer_at, answers_before}
use Rattle.v_pages.proofs.Lists.{up_to_later}
use Rattle.vk_pipe.specs.declared.serving.PipeServing.{PipeServing}
use Rattle.vk_pipe.specs.Kept.{pipe_after}
use Rattle.vk_pipe.specs.Pipes.{Pipe, Server, answered, answered_all, new_server, piece_of, server_after}
use Rattle.vk_pipe.specs.Told.{Piece, along, bytes_had, news_at, piece_in, pieces}
use Rattle.vk_pipe.proofs.Keeping.{keeps}
use Rattle.v_pipe.specs.Read.{IsPiece, had_before, put_before}
use Rattle.v_pipe.proofs.Given.{Reply, RepliesHere}

-- What more answers tell.
pub along_append : {X : Type 0} (tells : Server → Answer → List X) (s : Server) (given more : List Answer) →
    along tells s (given ++ more) ≡ along tells s given ++ along tells (answered_all s given) more
along_append tells s [] more = refl
along_append {X} tells s (a ∷ given) more =
    ap (λ (l : List X). tells s a ++ l) (along_append tells (answered s a) given more)
    ∙ sym (append_assoc (tells s a) (along tells (answered s a) given) (along tells (answered_all (answered s a) given) more))

abbrev handed : Server → Answer → List Piece
handed s a = piece_in s.pipe (news_at s a)

abbrev bytes_of : List Piece → List ℕ
bytes_of xs = flat_map (λ (x : Piece). x.bytes) xs

had_more : (requests : ℕ) (given more : List Answer) →
    bytes_had requests (given ++ more) ≡ bytes_had requests given ++ bytes_of (along handed (server_after requests given) more)
had_more requests given more =
    ap bytes_of (along_append handed (new_server requests) given more)
    ∙ flat_map-append (λ (x : Piece). x.bytes) (pieces requests given) (along handed (server_after requests given) more)

had_one : (requests : ℕ) (given : List Answer) (a : Answer) →
    bytes_had requests (given ++ a ∷ []) ≡ bytes_had requests given ++ bytes_of (handed (server_after requests given) a)
had_one requests given a =
    had_more requests given (a ∷ [])
    ∙ ap (λ (l : List Piece). bytes_had requests given ++ bytes_of l) (append-nil (handed (server_after requests given) a))

-- by a reply that is answered ok
handed_by : (q : Pipe) (stage : PipeServing) (s : Pid) (reply : Message) (dest : ℕ) (bytes : List ℕ) → Reply q stage s reply dest bytes →
    bytes_of (handed (record { pipe = q; stage = stage }) answers.Ok) ≡ bytes
handed_by q stage s reply dest bytes (Reply.of_read x is from told place same) =
    ap (λ (t : PipeServing). bytes_of (handed (record { pipe = q; stage = t }) answers.Ok)) is ∙ append-nil (piece_of q x) ∙ sym same
handed_by q stage s reply dest bytes (Reply.without verdict is told none) =
    ap (λ (t : PipeServing). bytes_of (handed (record { pipe = q; stage = t }) answers.Ok)) is ∙ sym none

-- Between what stands before it and behind it.
between : (xs ys zs : List ℕ) → bytes_in (range_of (length xs) (length ys)) ((xs ++ ys) ++ zs) ≡ ys
between xs ys zs =
    ap (bytes_in (range_of (length xs) (length ys))) (append_assoc xs ys zs)
    ∙ ap (take (length ys)) (drop-append_seam xs (ys ++ zs)) ∙ take-append_seam ys zs

later_had : (requests : ℕ) (specs : List ProcessSpec) (ss : List Step) (r : Pid) (i j : ℕ) → i ≤ j →
    (more : List ℕ) × (had_before requests specs ss r j ≡ had_before requests specs ss r i ++ more)
later_had requests specs ss r i j up =
    let rest = up_to_later (answer_at specs ss r) i j up in (
      bytes_of (along handed (server_after requests (answers_before specs ss r i)) rest.0),
      ap (bytes_had requests) rest.1 ∙ had_more requests (answers_before specs ss r i) rest.0,
    )

is_piece : (requests : ℕ) (specs : List ProcessSpec) (ss : List Step) (j : ℕ) (r : Pid) (bytes : List ℕ) →
    had_before requests specs ss r (suc j) ≡ had_before requests specs ss r j ++ bytes → IsPiece requests specs ss j r bytes
is_piece requests specs ss j r bytes next = record { next = next; order = order; put = put }
  where
    had : List ℕ
    had = had_before requests specs ss r j

    whole : (l : ℕ) → j < l → (more : List ℕ) × (had_before requests specs ss r l ≡ (had ++ bytes) ++ more)
    whole l less =
        let more = later_had requests specs ss r (suc j) l (omega (arith, less)) in
        (more.0, more.1 ∙ ap (λ (xs : List ℕ). xs ++ more.0) next)

    order : (l : ℕ) → j < l → length had + length bytes ≤ length (had_before requests specs ss r l)
    order l less =
        let w = whole l less in
        let a = length-append had bytes in
        let b = length-append (had ++ bytes) w.0 in
        let c = ap length w.1 in
        omega (arith, a, b, c)

    put : (l : ℕ) → j < l → bytes_in (range_of (length had) (length bytes)) (put_before requests specs ss r l) ≡ bytes
    put l less =
        let w = whole l less in
        let given = answers_before specs ss r l in
        let held = (pipe_after requests given).bytes in
        ap (bytes_in (range_of (length had) (length bytes)))
        ((keeps requests given).kept ∙ ap (λ (xs : List ℕ). xs ++ held) w.1 ∙ append_assoc (had ++ bytes) w.0 held)
        ∙ between had bytes (w.0 ++ held)

pub piece_here : (requests : ℕ) (specs : List ProcessSpec) (ss : List Step) (j : ℕ) (s r : Pid) (reply : Message) (dest : ℕ)
    (bytes : List ℕ) → RepliesHere requests specs ss j s r reply dest bytes → IsPiece requests specs ss j r bytes
piece_here requests specs ss j s r reply dest bytes here =
    let given = answers_before specs ss r j in
    let t = server_after requests given in
    is_piece requests specs ss j r bytes
    (ap (bytes_had requests) here.answered ∙ had_one requests given answers.Ok
    ∙ ap (λ (l : List ℕ). bytes_had requests given ++ l) (handed_by t.pipe t.stage s reply dest bytes here.reply_is))

-- Lines of tasks and the last two lines: how they are spelled, and that they are read again.
use Rattle.std.proofs.Common.{◌≡◌, ℕ, ◌<◌, ◌≤◌, ◌^◌, List, [], ◌∷◌, decimal, codes, bytes_eq, true, cond, Option, Some, None, refl, ap, sym, ◌∙◌, subst, arith}
use Rattle.std.specs.List.{AllByRecursion}
use Rattle.std.proofs.lemmas.Option.{cond_some}
use Rattle.vk_types.specs.Types.{Pid}
use Rattle.vk_base.specs.Pids.{IsPid}
use Rattle.vk_base.proofs.OptionLemmas.{bind_is}
use Rattle.vk_text.specs.Calls.{call_of}
use Rattle.vk_text.specs.Laws.{IsCount}
use Rattle.vk_text.specs.Spelling.{pid_text}
use Rattle.vk_text.specs.Words.{number_of, count_of, positive_of, pid_of}
use Rattle.vk_text.proofs.CallWords.{call_spelled, call_read}
use Rattle.vk_text.proofs.Firsts.{first_spelled, first_holds, ended_is}
use Rattle.vk_text.proofs.PlainWords.{IsPlain, letters, number_plain, count_plain, pid_plain, call_plain}
use Rattle.vk_text.proofs.Ranges.{count_fits, pid_fits, call_fits}
use Rattle.vk_text.proofs.Spelled.{either_word, number_spelled, number_read, count_spelled, count_read, positive_spelled, positive_read, pid_spelled, pid_read}
use Rattle.vk_schedule.specs.declared.plan.LinkPlan.{LinkPlan}
use Rattle.vk_event.specs.declared.task.Given.{Given}
use Rattle.vk_event.specs.declared.task.Given.TheVariants as givens
use Rattle.vk_event.specs.declared.task.TaskKind.{TaskKind}
use Rattle.vk_event.specs.declared.task.TaskKind.TheVariants as kinds
use Rattle.vk_event.specs.declared.task_line.TaskLine.{TaskLine}
use Rattle.vk_event.specs.Endings.{plan_fields_of, plan_of, round_count_of, rounds_of}
use Rattle.vk_event.specs.ScenarioLaws.{IsFileCount, IsPageCount, IsPlan, IsReadableGiven, IsReadableLine, given_words, task_words, plan_words, rounds_words}
use Rattle.vk_event.specs.Pairs.{are_pairs}
use Rattle.vk_event.specs.Ports.{port_of, port_words}
use Rattle.vk_event.specs.declared.port.StationPort.{StationPort}
use Rattle.vk_event.specs.Tasks.{do_of, server_of, client_of, file_server_of, loader_of, pipe_server_of, pairs_of, if_group, group_of, group_helper_of, kind_of, program_of, task_line_of}
use Rattle.vk_event.proofs.PairWords.{pairs_are, pairs_plain, pairs_read}

-- what is read of a line is in its ranges, and its words are the line's
abbrev IsLineOf : TaskLine → List (List ℕ) → Type 0
IsLineOf t ws = IsReadableLine t × (ws ≡ task_words t)

do_is : (ws : List (List ℕ)) (t : TaskLine) → do_of ws ≡ Some t → IsLineOf t (codes "do" ∷ ws)
unfolding do_of
do_is ws t h =
    let pid = first_spelled pid_of pid_text pid_spelled _ t ws h in
    let fits = first_holds pid_of IsPid pid_fits _ t ws h in
    let call = bind_is (call_of pid.1) _ t pid.3 in
    let more = bind_is (call_of fits.1) _ t fits.3 in
    let end = (cond_some true _ t call.2).1 in
    let last = (cond_some true _ t more.2).1 in (
      subst IsReadableLine last (fits.2, call_fits fits.1 more.0 more.1),
      ap (λ l. codes "do" ∷ l) (pid.2 ∙ ap (λ l. pid_text pid.0 ∷ l) (call_spelled pid.1 call.0 call.1)) ∙ ap task_words end,
    )

pages_fit : (n : ℕ) (word : List ℕ) → positive_of 4096 word ≡ Some n → IsPageCount n
pages_fit n word h = let read = positive_spelled 4096 n word (omega arith) h in (read.1, read.2)

pages_spelled : (n : ℕ) (word : List ℕ) → positive_of 4096 word ≡ Some n → word ≡ decimal n
pages_spelled n word h = (positive_spelled 4096 n word (omega arith) h).0

abbrev IsProgramOf : TaskKind → List (List ℕ) → Type 0
IsProgramOf kind ws = (pid : Pid) → IsReadableGiven (givens.Program kind) × (codes "program" ∷ pid_text pid ∷ ws
    ≡ given_words pid (givens.Program kind))

server_is : (ws : List (List ℕ)) (k : TaskKind) → server_of ws ≡ Some k → IsProgramOf k (codes "pageserver" ∷ ws)
unfolding server_of
server_is ws k h pid =
    let pages = first_spelled (positive_of 4096) decimal pages_spelled _ k ws h in
    let many = first_holds (positive_of 4096) IsPageCount pages_fit _ k ws h in
    let requests = first_spelled count_of decimal count_spelled _ k pages.1 pages.3 in
    let few = first_holds count_of IsCount count_fits _ k many.1 many.3 in
    let end = ended_is requests.1 _ k requests.3 in
    let last = ended_is few.1 _ k few.3 in (
      subst (λ k. IsReadableGiven (givens.Program k)) last.1 (many.2, few.2),
      ap (λ l. codes "program" ∷ pid_text pid ∷ codes "pageserver" ∷ l)
          (pages.2 ∙ ap (λ l. decimal pages.0 ∷ l) (requests.2 ∙ ap (λ l. decimal requests.0 ∷ l) end.0))
          ∙ ap (λ k. given_words pid (givens.Program k)) end.1,
    )

client_is : (ws : List (List ℕ)) (k : TaskKind) → client_of ws ≡ Some k → IsProgramOf k (codes "pageclient" ∷ ws)
unfolding client_of
client_is ws k h pid =
    let server = first_spelled pid_of pid_text pid_spelled _ k ws h in
    let known = first_holds pid_of IsPid pid_fits _ k ws h in
    let pages = first_spelled (positive_of 4096) decimal pages_spelled _ k server.1 server.3 in
    let many = first_holds (positive_of 4096) IsPageCount pages_fit _ k known.1 known.3 in
    let rounds = first_spelled count_of decimal count_spelled _ k pages.1 pages.3 in
    let few = first_holds count_of IsCount count_fits _ k many.1 many.3 in
    let end = ended_is rounds.1 _ k rounds.3 in
    let last = ended_is few.1 _ k few.3 in (
      subst (λ k. IsReadableGiven (givens.Program k)) last.1 (known.2, many.2, few.2),
      ap (λ l. codes "program" ∷ pid_text pid ∷ codes "pageclient" ∷ l)
          (server.2 ∙ ap (λ l. pid_text server.0 ∷ l)
          (pages.2 ∙ ap (λ l. decimal pages.0 ∷ l) (rounds.2 ∙ ap (λ l. decimal rounds.0 ∷ l) end.0)))
          ∙ ap (λ k. given_words pid (givens.Program k)) end.1,
    )

files_fit : (n : ℕ) (word : List ℕ) → positive_of 16 word ≡ Some n → IsFileCount n
files_fit n word h = let read = positive_spelled 16 n word (omega arith) h in (read.1, read.2)

files_spelled : (n : ℕ) (word : List ℕ) → positive_of 16 word ≡ Some n → word ≡ decimal n
files_spelled n word h = (positive_spelled 16 n word (omega arith) h).0

file_fits : (n : ℕ) (word : List ℕ) → number_of 15 word ≡ Some n → n < 16
file_fits n word h = let most = (number_spelled 15 n word (omega arith) h).1 in omega (arith, most)

file_spelled : (n : ℕ) (word : List ℕ) → number_of 15 word ≡ Some n → word ≡ decimal n
file_spelled n word h = (number_spelled 15 n word (omega arith) h).0

file_server_is : (ws : List (List ℕ)) (k : TaskKind) → file_server_of ws ≡ Some k → IsProgramOf k (codes "fileserver" ∷ ws)
unfolding file_server_of
file_server_is ws k h pid =
    let files = first_spelled (positive_of 16) decimal files_spelled _ k ws h in
    let many = first_holds (positive_of 16) IsFileCount files_fit _ k ws h in
    let requests = first_spelled count_of decimal count_spelled _ k files.1 files.3 in
    let few = first_holds count_of IsCount count_fits _ k many.1 many.3 in
    let end = ended_is requests.1 _ k requests.3 in
    let last = ended_is few.1 _ k few.3 in (
      subst (λ k. IsReadableGiven (givens.Program k)) last.1 (many.2, few.2),
      ap (λ l. codes "program" ∷ pid_text pid ∷ codes "fileserver" ∷ l)
          (files.2 ∙ ap (λ l. decimal files.0 ∷ l) (requests.2 ∙ ap (λ l. decimal requests.0 ∷ l) end.0))
          ∙ ap (λ k. given_words pid (givens.Program k)) end.1,
    )

loader_is : (ws : List (List ℕ)) (k : TaskKind) → loader_of ws ≡ Some k → IsProgramOf k (codes "loader" ∷ ws)
unfolding loader_of
loader_is ws k h pid =
    let server = first_spelled pid_of pid_text pid_spelled _ k ws h in
    let known = first_holds pid_of IsPid pid_fits _ k ws h in
    let file = first_spelled (number_of 15) decimal file_spelled _ k server.1 server.3 in
    let few = first_holds (number_of 15) (λ n. n < 16) file_fits _ k known.1 known.3 in
    let end = ended_is file.1 _ k file.3 in
    let last = ended_is few.1 _ k few.3 in (
      subst (λ k. IsReadableGiven (givens.Program k)) last.1 (known.2, few.2),
      ap (λ l. codes "program" ∷ pid_text pid ∷ codes "loader" ∷ l)
          (server.2 ∙ ap (λ l. pid_text server.0 ∷ l) (file.2 ∙ ap (λ l. decimal file.0 ∷ l) end.0))
          ∙ ap (λ k. given_words pid (givens.Program k)) end.1,
    )

pipe_server_is : (ws : List (List ℕ)) (k : TaskKind) → pipe_server_of ws ≡ Some k → IsProgramOf k (codes "pipeserver" ∷ ws)
unfolding pipe_server_of
pipe_server_is ws k h pid =
    let requests = first_spelled count_of decimal count_spelled _ k ws h in
    let few = first_holds count_of IsCount count_fits _ k ws h in
    let end = ended_is requests.1 _ k requests.3 in
    let last = ended_is few.1 _ k few.3 in (
      subst (λ k. IsReadableGiven (givens.Program k)) last.1 few.2,
      ap (λ l. codes "program" ∷ pid_text pid ∷ codes "pipeserver" ∷ l) (requests.2 ∙ ap (λ l. decimal requests.0 ∷ l) end.0)
          ∙ ap (λ k. given_words pid (givens.Program k)) end.1,
    )

group_is : (ws : List (List ℕ)) (k : TaskKind) → group_of ws ≡ Some k → IsProgramOf k (codes "group" ∷ ws)
unfolding group_of
group_is ws k h pid =
    let requests = first_spelled count_of decimal count_spelled _ k ws h in
    let few = first_holds count_of IsCount count_fits _ k ws h in
    let pairs = bind_is (pairs_of requests.1) (if_group requests.0) k requests.3 in
    let same = bind_is (pairs_of few.1) (if_group few.0) k few.3 in
    let all = pairs_are requests.1 pairs.0 pairs.1 in
    let fit = pairs_are few.1 same.0 same.1 in
    let end = cond_some (are_pairs pairs.0) (kinds.Group requests.0 pairs.0) k pairs.2 in
    let last = cond_some (are_pairs same.0) (kinds.Group few.0 same.0) k same.2 in (
      subst (λ k. IsReadableGiven (givens.Program k)) last.1 (few.2, (fit.0, last.0)),
      ap (λ l. codes "program" ∷ pid_text pid ∷ codes "group" ∷ l) (requests.2 ∙ ap (λ l. decimal requests.0 ∷ l) all.1)
          ∙ ap (λ k. given_words pid (givens.Program k)) end.1,
    )

group_helper_is : (ws : List (List ℕ)) (k : TaskKind) → group_helper_of ws ≡ Some k → IsProgramOf k (codes "grouphelper" ∷ ws)
unfolding group_helper_of
group_helper_is ws k h pid =
    let coordinator = first_spelled pid_of pid_text pid_spelled _ k ws h in
    let known = first_holds pid_of IsPid pid_fits _ k ws h in
    let member = first_spelled pid_of pid_text pid_spelled _ k coordinator.1 coordinator.3 in
    let fits = first_holds pid_of IsPid pid_fits _ k known.1 known.3 in
    let end = ended_is member.1 _ k member.3 in
    let last = ended_is fits.1 _ k fits.3 in (
      subst (λ k. IsReadableGiven (givens.Program k)) last.1 (known.2, fits.2),
      ap (λ l. codes "program" ∷ pid_text pid ∷ codes "grouphelper" ∷ l)
          (coordinator.2 ∙ ap (λ l. pid_text coordinator.0 ∷ l) (member.2 ∙ ap (λ l. pid_text member.0 ∷ l) end.0))
          ∙ ap (λ k. given_words pid (givens.Program k)) end.1,
    )

kind_named : (w word : List ℕ) (ws : List (List ℕ)) (k : TaskKind) (x y : Option TaskKind) → (x ≡ Some k → IsProgramOf k (word ∷ ws))
    → (y ≡ Some k → IsProgramOf k (w ∷ ws)) → cond (bytes_eq w word) x y ≡ Some k → IsProgramOf k (w ∷ ws)
kind_named w word ws k x y is other h =
    either_word (IsProgramOf k (w ∷ ws)) w word x y (Some k) (λ f g. subst (λ v. IsProgramOf k (v ∷ ws)) (sym f) (is g)) other h

kind_is : (ws : List (List ℕ)) (k : TaskKind) → kind_of ws ≡ Some k → IsProgramOf k ws
unfolding kind_of
kind_is [] k h = cc
kind_is (w ∷ ws) k h =
    kind_named w (codes "pageserver") ws k _ _ (server_is ws k) (kind_named w (codes "pageclient") ws k _ _ (client_is ws k)
    (kind_named w (codes "fileserver") ws k _ _ (file_server_is ws k) (kind_named w (codes "loader") ws k _ _ (loader_is ws k)
    (kind_named w (codes "pipeserver") ws k _ _ (pipe_server_is ws k) (kind_named w (codes "group") ws k _ _ (group_is ws k)
    (kind_named w (codes "grouphelper") ws k _ _ (group_helper_is ws k) (λ none. cc))))))) h

program_is : (ws : List (List ℕ)) (t : TaskLine) → program_of ws ≡ Some t → IsLineOf t (codes "program" ∷ ws)
unfolding program_of
program_is ws t h =
    let pid = first_spelled pid_of pid_text pid_spelled _ t ws h in
    let fits = first_holds pid_of IsPid pid_fits _ t ws h in
    let kind = bind_is (kind_of pid.1) _ t pid.3 in
    let more = bind_is (kind_of fits.1) _ t fits.3 in
    let end = (cond_some true _ t kind.2).1 in
    let last = (cond_some true _ t more.2).1 in (
      subst IsReadableLine last (fits.2, (kind_is fits.1 more.0 more.1 fits.0).0),
      ap (λ l. codes "program" ∷ l) pid.2 ∙ (kind_is pid.1 kind.0 kind.1 pid.0).1 ∙ ap task_words end,
    )

named : (w word : List ℕ) (ws : List (List ℕ)) (t : TaskLine) (x y : Option TaskLine) → (x ≡ Some t → IsLineOf t (word ∷ ws))
    → (y ≡ Some t → IsLineOf t (w ∷ ws)) → cond (bytes_eq w word) x y ≡ Some t → IsLineOf t (w ∷ ws)
named w word ws t x y is other h =
    either_word (IsLineOf t (w ∷ ws)) w word x y (Some t) (λ f g. subst (λ v. IsLineOf t (v ∷ ws)) (sym f) (is g)) other h

-- words that read as a line of a task are its words, and each field is in its range
pub task_line_is : (ws : List (List ℕ)) (t : TaskLine) → task_line_of ws ≡ Some t → IsReadableLine t × (ws ≡ task_words t)
unfolding task_line_of
task_line_is [] t h = cc
task_line_is (w ∷ ws) t h =
    named w (codes "do") ws t _ _ (do_is ws t) (named w (codes "program") ws t _ _ (program_is ws t) (λ none. cc)) h

-- the words of a line read as it

given_read : (pid : Pid) (given : Given) → IsPid pid → IsReadableGiven given
    → task_line_of (given_words pid given) ≡ Some (record { pid = pid; given = given })
unfolding task_line_of do_of program_of kind_of server_of client_of file_server_of loader_of pipe_server_of group_of group_helper_of
given_read pid (givens.Call call) p h = rw (pid_read pid p, call_read call h) refl
given_read pid (givens.Program (kinds.Script calls)) p h = absurd h
given_read pid (givens.Program (kinds.PageServer pages requests)) p h =
    rw (pid_read pid p, positive_read 4096 pages (omega arith) h.0.0 h.0.1, count_read requests h.1) refl
given_read pid (givens.Program (kinds.PageClient server pages rounds)) p h =
    rw (pid_read pid p, pid_read server h.0, positive_read 4096 pages (omega arith) h.1.0 h.1.1, count_read rounds h.2) refl
given_read pid (givens.Program (kinds.FileServer files requests)) p h =
    rw (pid_read pid p, positive_read 16 files (omega arith) h.0.0 h.0.1, count_read requests h.1) refl
given_read pid (givens.Program (kinds.Loader server file)) p h =
    let few = h.1 in rw (pid_read pid p, pid_read server h.0, number_read 15 file (omega arith) (omega (arith, few))) refl
given_read pid (givens.Program (kinds.PipeServer requests)) p h = rw (pid_read pid p, count_read requests h) refl
given_read pid (givens.Program (kinds.Group requests pairs)) p h =
    rw (pid_read pid p, count_read requests h.0, pairs_read pairs h.1.0, h.1.1) refl
given_read pid (givens.Program (kinds.GroupHelper coordinator member)) p h =
    rw (pid_read pid p, pid_read coordinator h.0, pid_read member h.1) refl

pub task_line_read : (t : TaskLine) → IsReadableLine t → task_line_of (task_words t) ≡ Some t
task_line_read t h = given_read t.pid t.given h.0 h.1

page_plain : (n : ℕ) → IsPageCount n → IsPlain (decimal n)
page_plain n h = let most = h.1 in number_plain n (omega (arith, most))

file_count_plain : (n : ℕ) → IsFileCount n → IsPlain (decimal n)
file_count_plain n h = let most = h.1 in number_plain n (omega (arith, most))

file_plain : (n : ℕ) → n < 16 → IsPlain (decimal n)
file_plain n h = number_plain n (omega (arith, h))

given_plain : (pid : Pid) (given : Given) → IsPid pid → IsReadableGiven given → AllByRecursion IsPlain (given_words pid given)
given_plain pid (givens.Call call) p h = (letters (codes "do") refl, (pid_plain pid p, call_plain call h))
given_plain pid (givens.Program (kinds.Script calls)) p h = absurd h
given_plain pid (givens.Program (kinds.PageServer pages requests)) p h = (
  letters (codes "program") refl,
  (pid_plain pid p, (letters (codes "pageserver") refl, (page_plain pages h.0, (count_plain requests h.1, tt)))),
)
given_plain pid (givens.Program (kinds.PageClient server pages rounds)) p h = (
  letters (codes "program") refl,
  (
    pid_plain pid p,
    (letters (codes "pageclient") refl, (pid_plain server h.0, (page_plain pages h.1, (count_plain rounds h.2, tt)))),
  ),
)
given_plain pid (givens.Program (kinds.FileServer files requests)) p h = (
  letters (codes "program") refl,
  (pid_plain pid p, (letters (codes "fileserver") refl, (file_count_plain files h.0, (count_plain requests h.1, tt)))),
)
given_plain pid (givens.Program (kinds.Loader server file)) p h = (
  letters (codes "program") refl,
  (pid_plain pid p, (letters (codes "loader") refl, (pid_plain server h.0, (file_plain file h.1, tt)))),
)
given_plain pid (givens.Program (kinds.PipeServer requests)) p h = (
  letters (codes "program") refl,
  (pid_plain pid p, (letters (codes "pipeserver") refl, (count_plain requests h, tt))),
)
given_plain pid (givens.Program (kinds.Group requests pairs)) p h = (
  letters (codes "program") refl,
  (pid_plain pid p, (letters (codes "group") refl, (count_plain requests h.0, pairs_plain pairs h.1.0))),
)
given_plain pid (givens.Program (kinds.GroupHelper coordinator member)) p h = (
  letters (codes "program") refl,
  (pid_plain pid p, (letters (codes "grouphelper") refl, (pid_plain coordinator h.0, (pid_plain member h.1, tt)))),
)

pub task_line_plain : (t : TaskLine) → IsReadableLine t → AllByRecursion IsPlain (task_words t)
task_line_plain t h = given_plain t.pid t.given h.0 h.1

-- the last two lines

byte_spelled : (n : ℕ) (word : List ℕ) → number_of 255 word ≡ Some n → word ≡ decimal n
byte_spelled n word h = (number_spelled 255 n word (omega arith) h).0

byte_fits : (n : ℕ) (word : List ℕ) → number_of 255 word ≡ Some n → n < 256
byte_fits n word h = let most = (number_spelled 255 n word (omega arith) h).1 in omega (arith, most)

seed_spelled : (n : ℕ) (word : List ℕ) → number_of 18446744073709551615 word ≡ Some n → word ≡ decimal n
seed_spelled n word h = (number_spelled 18446744073709551615 n word (omega arith) h).0

seed_fits : (n : ℕ) (word : List ℕ) → number_of 18446744073709551615 word ≡ Some n → n < 2 ^ 64
seed_fits n word h = let most = (number_spelled 18446744073709551615 n word (omega arith) h).1 in omega (arith, most)

fields_spelled : (ws : List (List ℕ)) (p : LinkPlan) → plan_fields_of ws ≡ Some p → codes "link" ∷ ws ≡ plan_words p
unfolding plan_fields_of
fields_spelled ws p h =
    let lose = first_spelled (number_of 255) decimal byte_spelled _ p ws h in
    let double = first_spelled (number_of 255) decimal byte_spelled _ p lose.1 lose.3 in
    let hold = first_spelled (number_of 255) decimal byte_spelled _ p double.1 double.3 in
    let seed = first_spelled (number_of 18446744073709551615) decimal seed_spelled _ p hold.1 hold.3 in
    let end = ended_is seed.1 _ p seed.3 in
    ap (λ l. codes "link" ∷ l) (lose.2 ∙ ap (λ l. decimal lose.0 ∷ l) (double.2 ∙ ap (λ l. decimal double.0 ∷ l)
    (hold.2 ∙ ap (λ l. decimal hold.0 ∷ l) (seed.2 ∙ ap (λ l. decimal seed.0 ∷ l) end.0)))) ∙ ap plan_words end.1

fields_fit : (ws : List (List ℕ)) (p : LinkPlan) → plan_fields_of ws ≡ Some p → IsPlan p
unfolding plan_fields_of
fields_fit ws p h =
    let lose = first_holds (number_of 255) (λ n. n < 256) byte_fits _ p ws h in
    let double = first_holds (number_of 255) (λ n. n < 256) byte_fits _ p lose.1 lose.3 in
    let hold = first_holds (number_of 255) (λ n. n < 256) byte_fits _ p double.1 double.3 in
    let seed = first_holds (number_of 18446744073709551615) (λ n. n < 2 ^ 64) seed_fits _ p hold.1 hold.3 in
    subst IsPlan (ended_is seed.1 _ p seed.3).1 (lose.2, double.2, hold.2, seed.2)

pub plan_is : (ws : List (List ℕ)) (p : LinkPlan) → plan_of ws ≡ Some p → IsPlan p × (ws ≡ plan_words p)
unfolding plan_of
plan_is [] p h = cc
plan_is (w ∷ ws) p h =
    either_word (IsPlan p × (w ∷ ws ≡ plan_words p)) w (codes "link") _ _ (Some p)
    (λ f g. (fields_fit ws p g, ap (λ v. v ∷ ws) f ∙ fields_spelled ws p g)) (λ none. cc) h

count_is : (most : ℕ) (ws : List (List ℕ)) (n : ℕ) → most < 2 ^ 64 → round_count_of most ws ≡ Some n
    → (n ≤ most) × (codes "ticks" ∷ ws ≡ rounds_words n)
unfolding round_count_of
count_is most ws n m h =
    let rounds = first_spelled (number_of most) decimal (λ k w f. (number_spelled most k w m f).0) _ n ws h in
    let few = first_holds (number_of most) (λ k. k ≤ most) (λ k w f. (number_spelled most k w m f).1) _ n ws h in
    let end = ended_is rounds.1 _ n rounds.3 in (
      subst (λ k. k ≤ most) (ended_is few.1 _ n few.3).1 few.2,
      ap (λ l. codes "ticks" ∷ l) (rounds.2 ∙ ap (λ l. decimal rounds.0 ∷ l) end.0) ∙ ap rounds_words end.1,
    )

pub rounds_is : (most : ℕ) (ws : List (List ℕ)) (n : ℕ) → most < 2 ^ 64 → rounds_of most ws ≡ Some n → (n ≤ most) × (ws ≡ rounds_words n)
unfolding rounds_of
rounds_is most [] n m h = cc
rounds_is most (w ∷ ws) n m h =
    either_word ((n ≤ most) × (w ∷ ws ≡ rounds_words n)) w (codes "ticks") _ _ (Some n)
    (λ f g. let is = count_is most ws n m g in (is.0, ap (λ v. v ∷ ws) f ∙ is.1)) (λ none. cc) h

pub plan_read : (p : LinkPlan) → IsPlan p → plan_of (plan_words p) ≡ Some p
unfolding plan_of plan_fields_of
plan_read p h =
    let lose = h.0 in
    let double = h.1 in
    let hold = h.2 in
    let seed = h.3 in
    rw (
      number_read 255 p.lose (omega arith) (omega (arith, lose)),
      number_read 255 p.double (omega arith) (omega (arith, double)),
      number_read 255 p.hold (omega arith) (omega (arith, hold)),
      number_read 18446744073709551615 p.seed (omega arith) (omega (arith, seed)),
    ) refl

pub rounds_read : (most n : ℕ) → most < 2 ^ 64 → n ≤ most → rounds_of most (rounds_words n) ≡ Some n
unfolding rounds_of round_count_of
rounds_read most n m h = rw (number_read most n m h) refl

pub plan_plain : (p : LinkPlan) → IsPlan p → AllByRecursion IsPlain (plan_words p)
plan_plain p h =
    let lose = h.0 in
    let double = h.1 in
    let hold = h.2 in (
      letters (codes "link") refl,
      (
        number_plain p.lose (omega (arith, lose)),
        (number_plain p.double (omega (arith, double)), (number_plain p.hold (omega (arith, hold)), (number_plain p.seed h.3, tt))),
      ),
    )

pub rounds_plain : (n : ℕ) → n < 2 ^ 64 → AllByRecursion IsPlain (rounds_words n)
rounds_plain n h = (letters (codes "ticks") refl, (number_plain n h, tt))

-- neither reads as a line of a task, nor a line of a task as these

pub plan_no_task : (p : LinkPlan) → task_line_of (plan_words p) ≡ None
unfolding task_line_of
plan_no_task p = refl

pub port_no_task : (p : StationPort) → task_line_of (port_words p) ≡ None
unfolding task_line_of
port_no_task p = refl

pub plan_no_port : (p : LinkPlan) → port_of (plan_words p) ≡ None
unfolding port_of
plan_no_port p = refl

-- Traces that are read piece by piece, where each piece but the last ends with a line.
use Rattle.std.proofs.Common.{◌≡◌, ℕ, ◌+◌, ◌<◌, ◌≤◌, Bool, true, false, cond, List, [], ◌∷◌, ◌++◌, length, codes, drop, bytes_eq, Option, Some, None, Ok, Err, refl, sym, ap, ◌∙◌, subst, arith, append_assoc, length-append}
use Rattle.std.specs.Option.{option_map_or}
use Rattle.vk_types.specs.Types.{ProcessSpec, Step}
use Rattle.vk_base.specs.Settings.{Settings}
use Rattle.vk_text.specs.Heads.{head_of, processes_from, settings_of}
use Rattle.vk_text.specs.Lines.{lines_of, words_from}
use Rattle.vk_text.proofs.Appended.{and_more, piece_append, processes_more}
use Rattle.vk_text.proofs.HeadReading.{Parts}
use Rattle.v_trace.specs.Remaining.{Remaining, whole, behind, acting, left_by, steps_left, IsReadTo}
use Rattle.v_trace.specs.Steps.{step_of}
use Rattle.v_trace.specs.Traces.{behind_head, trace_of, with_lines}
use Rattle.v_trace.specs.declared.trace.TraceRefusal.TheVariants as refusals
use Rattle.v_trace.proofs.RemainingSteps.{behind_both, config_left, few_lines, few_steps, from_left}

-- what is left of lines with others behind them

good_by : (c : Settings) (given : ℕ) (o : Option Step) (rest on : Remaining) (ms : List (List ℕ))
    → (rest.bad ≡ None → on ≡ behind rest.steps (steps_left c (given + 1 + length rest.steps) ms))
    → (left_by c given o rest).bad ≡ None
    → left_by c given o on ≡ behind (left_by c given o rest).steps (steps_left c (given + length (left_by c given o rest).steps) ms)
good_by c given None rest on ms after good = cc
good_by c given (Some s) rest on ms after good =
    let same : given + 1 + length rest.steps ≡ given + length (s ∷ rest.steps) = omega arith in
    ap (behind (s ∷ [])) (after good)
    ∙ ap (λ n. behind (s ∷ rest.steps) (steps_left c n ms)) same

-- where no line of the first is bad, the steps of the others follow
pub left_good : (c : Settings) (given : ℕ) (ls ms : List (List ℕ)) → let r = steps_left c given ls in
    r.bad ≡ None → steps_left c given (ls ++ ms) ≡ behind r.steps (steps_left c (given + length r.steps) ms)
unfolding steps_left
left_good c given [] ms good =
    let same : given ≡ given + 0 = omega arith in
    ap (λ n. steps_left c n ms) same
left_good c given (l ∷ ls) ms good =
    good_by c given (acting c.specs (step_of (words_from l 0))) (steps_left c (given + 1) ls) (steps_left c (given + 1) (ls ++ ms)) ms
    (left_good c (given + 1) ls ms) good

bad_by : (c : Settings) (given : ℕ) (o : Option Step) (rest on : Remaining) (line : ℕ)
    → (rest.bad ≡ Some line → on ≡ rest) → (left_by c given o rest).bad ≡ Some line → left_by c given o on ≡ left_by c given o rest
bad_by c given None rest on line after bad = refl
bad_by c given (Some s) rest on line after bad = ap (behind (s ∷ [])) (after bad)

-- where one of the first is bad, the others do not matter
pub left_bad : (c : Settings) (given : ℕ) (ls ms : List (List ℕ)) (line : ℕ) → (steps_left c given ls).bad ≡ Some line
    → steps_left c given (ls ++ ms) ≡ steps_left c given ls
unfolding steps_left
left_bad c given [] ms line bad = cc
left_bad c given (l ∷ ls) ms line bad =
    bad_by c given (acting c.specs (step_of (words_from l 0))) (steps_left c (given + 1) ls) (steps_left c (given + 1) (ls ++ ms)) line
    (left_bad c (given + 1) ls ms line) bad

-- a head that ends within lines is the same where others stand behind them

titled : (all : Parts) (ms : List (List ℕ)) (on : Parts) (b : Bool) (specs : List ProcessSpec) (left : List (List ℕ))
    → (0 < length all.1 → on ≡ and_more all ms) → 0 < length left → cond b (Some all) None ≡ Some (specs, left)
    → cond b (Some on) None ≡ Some (specs, left ++ ms)
titled all ms on true specs left after some h =
    let same : all ≡ (specs, left) = cc in
    let behind_all : 0 < length all.1 = subst (λ (p : Parts). 0 < length p.1) (sym same) some in
    ap Some (after behind_all ∙ ap (λ (p : Parts). and_more p ms) same)
titled all ms on false specs left after some h = cc

pub head_append : (title : List ℕ) (ls ms : List (List ℕ)) (specs : List ProcessSpec) (left : List (List ℕ))
    → 0 < length left → head_of title ls ≡ Some (specs, left) → head_of title (ls ++ ms) ≡ Some (specs, left ++ ms)
unfolding head_of
head_append title [] ms specs left some h = cc
head_append title (l ∷ ls) ms specs left some h =
    titled (processes_from [] ls) ms (processes_from [] (ls ++ ms)) (bytes_eq l title) specs left (processes_more [] ls ms) some h

-- a text begins with this piece

trace_behind : (text : List ℕ) (c : Settings) (left : List (List ℕ)) → head_of (codes "vkernel trace 1") (lines_of text) ≡ Some (c.specs, left)
    → c ≡ settings_of c.specs → trace_of text ≡ whole (steps_left c 0 left)
unfolding behind_head
trace_behind text c left head config =
    ap behind_head head ∙ ap (λ (x : Settings). with_lines (record { config = x; steps = [] }) left) (sym config)
    ∙ from_left (record { config = c; steps = [] }) left

after_head : (piece front more : List ℕ) (c : Settings) (at : ℕ) → piece ≡ front ++ 10 ∷ [] → 0 < length (lines_of (drop at piece))
    → head_of (codes "vkernel trace 1") (lines_of piece) ≡ Some (c.specs, lines_of (drop at piece)) → c ≡ settings_of c.specs
    → trace_of (piece ++ more) ≡ whole (steps_left c 0 (lines_of (drop at piece) ++ lines_of more))
after_head piece front more c at ends some head config =
    let tail = lines_of (drop at piece) in
    let ms = lines_of more in
    let title : List ℕ = codes "vkernel trace 1" in
    let joined : head_of title (lines_of (piece ++ more)) ≡ Some (c.specs, tail ++ ms) =
    ap (head_of title) (piece_append piece front more ends) ∙ head_append title (lines_of piece) ms c.specs tail some head in
    trace_behind (piece ++ more) c (tail ++ ms) joined config

pub begins : (piece front : List ℕ) (c : Settings) (at : ℕ) → let left = steps_left c 0 (lines_of (drop at piece)) in
    piece ≡ front ++ 10 ∷ [] → 0 < length (lines_of (drop at piece))
    → head_of (codes "vkernel trace 1") (lines_of piece) ≡ Some (c.specs, lines_of (drop at piece)) → c ≡ settings_of c.specs
    → left.bad ≡ None → IsReadTo piece c left.steps
begins piece front c at ends some head config good more =
    let tail = lines_of (drop at piece) in
    let ms = lines_of more in
    after_head piece front more c at ends some head config
    ∙ ap whole (left_good c 0 tail ms good)
    ∙ ap (λ n. whole (behind (steps_left c 0 tail).steps (steps_left c n ms))) (omega arith)

-- a piece more

after_piece : (text piece front more : List ℕ) (c : Settings) (ss : List Step) → IsReadTo text c ss → piece ≡ front ++ 10 ∷ []
    → trace_of (text ++ piece ++ more) ≡ whole (behind ss (steps_left c (length ss) (lines_of piece ++ lines_of more)))
after_piece text piece front more c ss read ends =
    ap trace_of (append_assoc text piece more) ∙ read (piece ++ more)
    ∙ ap (λ (ls : List (List ℕ)). whole (behind ss (steps_left c (length ss) ls))) (piece_append piece front more ends)

pub goes_on : (text piece front : List ℕ) (c : Settings) (ss : List Step) → let left = steps_left c (length ss) (lines_of piece) in
    IsReadTo text c ss → piece ≡ front ++ 10 ∷ [] → left.bad ≡ None → IsReadTo (text ++ piece) c (ss ++ left.steps)
goes_on text piece front c ss read ends good more =
    let left = steps_left c (length ss) (lines_of piece) in
    let ms = lines_of more in
    after_piece text piece front more c ss read ends
    ∙ ap (λ (r : Remaining). whole (behind ss r)) (left_good c (length ss) (lines_of piece) ms good)
    ∙ ap whole (sym (behind_both ss left.steps (steps_left c (length ss + length left.steps) ms)))
    ∙ ap (λ n. whole (behind (ss ++ left.steps) (steps_left c n ms))) (sym (length-append ss left.steps))

all_good : (ss : List Step) (r : Remaining) (c : Settings) → r.config ≡ c → r.bad ≡ None
    → whole (behind ss r) ≡ Ok (record { config = c; steps = ss ++ r.steps })
all_good ss r c config good =
    ap (λ (o : Option ℕ). option_map_or (λ line. Err (refusals.BadInput line)) o (Ok (record { config = r.config; steps = ss ++ r.steps }))) good
    ∙ ap (λ (d : Settings). Ok (record { config = d; steps = ss ++ r.steps })) config

-- the last piece, whose last line may lack its line feed
pub reads_all : (text piece : List ℕ) (c : Settings) (ss : List Step) → let left = steps_left c (length ss) (lines_of piece) in
    IsReadTo text c ss → left.bad ≡ None → trace_of (text ++ piece) ≡ Ok (record { config = c; steps = ss ++ left.steps })
reads_all text piece c ss read good =
    read piece ∙ all_good ss (steps_left c (length ss) (lines_of piece)) c (config_left c (length ss) (lines_of piece)) good

one_bad : (ss : List Step) (r : Remaining) (line : ℕ) → r.bad ≡ Some line → whole (behind ss r) ≡ Err (refusals.BadInput line)
one_bad ss r line bad =
    ap (λ (o : Option ℕ). option_map_or (λ line. Err (refusals.BadInput line)) o (Ok (record { config = r.config; steps = ss ++ r.steps }))) bad

-- a bad line in the last piece
pub is_bad : (text piece : List ℕ) (c : Settings) (ss : List Step) (line : ℕ) → IsReadTo text c ss
    → (steps_left c (length ss) (lines_of piece)).bad ≡ Some line → trace_of (text ++ piece) ≡ Err (refusals.BadInput line)
is_bad text piece c ss line read bad = read piece ∙ one_bad ss (steps_left c (length ss) (lines_of piece)) line bad

-- a bad line in another one, whatever follows
pub stays_bad : (text piece front more : List ℕ) (c : Settings) (ss : List Step) (line : ℕ) → IsReadTo text c ss
    → piece ≡ front ++ 10 ∷ [] → (steps_left c (length ss) (lines_of piece)).bad ≡ Some line
    → trace_of (text ++ piece ++ more) ≡ Err (refusals.BadInput line)
stays_bad text piece front more c ss line read ends bad =
    after_piece text piece front more c ss read ends
    ∙ ap (λ (r : Remaining). whole (behind ss r)) (left_bad c (length ss) (lines_of piece) (lines_of more) line bad)
    ∙ one_bad ss (steps_left c (length ss) (lines_of piece)) line bad

-- each step has a byte of its own
pub steps_few : (c : Settings) (given : ℕ) (text : List ℕ) → length (steps_left c given (lines_of text)).steps ≤ length text
steps_few c given text = omega (arith, few_steps c given (lines_of text), few_lines text)

-- Lines that are read one after another.
use Rattle.std.proofs.Common.{◌≡◌, ℕ, ◌+◌, Bool, true, false, cond, ◌&&◌, List, [], ◌∷◌, ◌++◌, length, Option, Some, None, Result, Ok, Err, OnOk, codes, is_none, option_map, refl, sym, ap, subst, ◌∙◌, arith, length-append, append_assoc, append-nil}
use Rattle.std.specs.Prelude.{option_to_list}
use Rattle.std.specs.Option.{option_map_or}
use Rattle.vk_types.specs.Types.{Observation, ProcessSpec, Step}
use Rattle.vk_base.specs.Calls.{Effect}
use Rattle.vk_base.specs.Kernel.{Kernel, initial_kernel}
use Rattle.vk_base.specs.Settings.{Settings}
use Rattle.vk_base.specs.Steps.{effect}
use Rattle.vk_text.specs.Lines.{words_from}
use Rattle.v_machine.specs.Apply.{notes}
use Rattle.v_machine.specs.Follows.{StandsFor, Takes}
use Rattle.v_machine.specs.Tables.{Tables}
use Rattle.v_trace.specs.Remaining.{IsNextStep, Remaining, acting, left_by, steps_left}
use Rattle.v_trace.specs.Steps.{step_of}
use Rattle.v_trace.specs.Traces.{has_actor}
use Rattle.v_trace.specs.declared.trace.TraceRefusal.TheVariants as refusals
use Rattle.v_obstacle.specs.Sights.{Agrees, Sight, answers_of, may_see, steps_of, told_in, with_answer, with_line, with_lines, with_step, with_told}
use Rattle.vk_explain.specs.declared.reading.Last.TheVariants as lasts
use Rattle.vk_explain.specs.Observed.{asked_lines, observed_by, observed_from, seen_lines}
use Rattle.vk_explain.specs.declared.words.Asked.{Asked}
use Rattle.vk_explain.specs.declared.words.Asked.TheVariants as asks
use Rattle.vk_text.specs.Heads.{head_text}
use Rattle.vk_explain.specs.declared.reading.Reading.{Reading}
use Rattle.vk_explain.specs.declared.fault.Fault.{Fault}
use Rattle.vk_explain.specs.declared.fault.Fault.TheVariants as faults
use Rattle.vk_explain.specs.Reading.{AreRead, Goes, HasRead, IsFault, IsLast, IsOverIn, IsReadOn, IsSeenLast, IsSeenTo, IsWrongIn, last_of, noted_from, told_of, untold}
use Rattle.vk_explain.specs.Told.{fault_text}

-- one step more is allowed
pub seen_more : (k l : Kernel) (ws : List Sight) (w : Sight) (e : Effect) → IsSeenTo k ws l → effect l w.step ≡ Some e → Agrees w.saw e.seen
    → IsSeenTo k (ws ++ w ∷ []) e.after
seen_more k l [] w e come does agrees = (e, subst (λ (x : Kernel). effect x w.step ≡ Some e) (sym come) does, agrees, refl)
seen_more k l (v ∷ vs) w e (d, allowed, a, rest) does agrees = (d, allowed, a, seen_more d.after l vs w e rest does agrees)

-- and notes what it notes
pub noted_more : (k l : Kernel) (ws : List Sight) (w : Sight) (e : Effect) → IsSeenTo k ws l → effect l w.step ≡ Some e
    → noted_from k (ws ++ w ∷ []) ≡ noted_from k ws + notes l w.step
noted_more k l [] w e come does =
    let here : effect k w.step ≡ Some e = subst (λ (x : Kernel). effect x w.step ≡ Some e) (sym come) does in
    let given : noted_from k (w ∷ []) ≡ notes k w.step + 0 =
    ap (λ (o : Option Effect). option_map_or (λ d. notes k w.step + 0) o 0) here in
    let same : notes k w.step ≡ notes l w.step = ap (λ (x : Kernel). notes x w.step) come in
    omega (arith, given, same)
noted_more k l (v ∷ vs) w e (d, allowed, a, rest) does =
    let long : noted_from k (v ∷ vs ++ w ∷ []) ≡ notes k v.step + noted_from d.after (vs ++ w ∷ []) =
    ap (λ (o : Option Effect). option_map_or (λ d. notes k v.step + noted_from d.after (vs ++ w ∷ [])) o 0) allowed in
    let short : noted_from k (v ∷ vs) ≡ notes k v.step + noted_from d.after vs =
    ap (λ (o : Option Effect). option_map_or (λ d. notes k v.step + noted_from d.after vs) o 0) allowed in
    omega (arith, long, short, noted_more d.after l vs w e rest does)

-- and its lines stand behind those before
pub lines_more : (k l : Kernel) (ws : List Sight) (w : Sight) (e : Effect) → IsSeenTo k ws l → effect l w.step ≡ Some e
    → observed_from k (steps_of (ws ++ w ∷ [])) ≡ observed_from k (steps_of ws) ++ seen_lines w.step e.seen
lines_more k l [] w e come does =
    let here : effect k w.step ≡ Some e = subst (λ (x : Kernel). effect x w.step ≡ Some e) (sym come) does in
    ap (λ (o : Option Effect). option_map_or (λ d. seen_lines w.step d.seen ++ []) o []) here ∙ append-nil (seen_lines w.step e.seen)
lines_more k l (v ∷ vs) w e (d, allowed, a, rest) does =
    ap (λ (o : Option Effect). option_map_or (λ d. seen_lines v.step d.seen ++ observed_from d.after (steps_of (vs ++ w ∷ []))) o [])
    allowed
    ∙ ap (λ t. seen_lines v.step d.seen ++ t) (lines_more d.after l vs w e rest does)
    ∙ sym (append_assoc (seen_lines v.step d.seen) (observed_from d.after (steps_of vs)) (seen_lines w.step e.seen))
    ∙ ap (λ (o : Option Effect). option_map_or (λ d. seen_lines v.step d.seen ++ observed_from d.after (steps_of vs)) o []
    ++ seen_lines w.step e.seen) (sym allowed)

pub observed_more : (asked : Asked) (specs : List ProcessSpec) (l : Kernel) (ws : List Sight) (w : Sight) (e : Effect)
    → IsSeenTo (initial_kernel specs) ws l → effect l w.step ≡ Some e
    → observed_by asked specs (steps_of (ws ++ w ∷ [])) ≡ observed_by asked specs (steps_of ws) ++ asked_lines asked w.step e.seen
observed_more asks.Verdict specs l ws w e come does = refl
observed_more asks.Answers specs l ws w e come does =
    ap (λ t. head_text (codes "vkernel observed 1") specs ++ t) (lines_more (initial_kernel specs) l ws w e come does)
    ∙ sym (append_assoc (head_text (codes "vkernel observed 1") specs) (observed_from (initial_kernel specs) (steps_of ws))
    (seen_lines w.step e.seen))

-- an answer that is told changes no step
pub same_steps : (ws : List Sight) (s : Step) (a : List ℕ) → steps_of (ws ++ untold s ∷ []) ≡ steps_of (ws ++ told_of s a ∷ [])
same_steps [] s a = refl
same_steps (v ∷ vs) s a = ap (λ (ss : List Step). v.step ∷ ss) (same_steps vs s a)

-- an answer is told of the last step
mapped_if : {A B : Type 0} (f : A → B) (b : Bool) (x : A) → option_map f (cond b (Some x) None) ≡ cond b (Some (f x)) None
mapped_if f true x = refl
mapped_if f false x = refl

pub answer_last : (a : List ℕ) (vs : List Sight) (w : Sight) → with_answer a (vs ++ w ∷ [])
    ≡ cond (may_see w.step && is_none w.saw) (Some (vs ++ record w { saw = Some a } ∷ [])) None
answer_last a [] w = refl
answer_last a (v ∷ []) w = mapped_if (λ (more : List Sight). v ∷ more) (may_see w.step && is_none w.saw) (record w { saw = Some a } ∷ [])
answer_last a (v ∷ u ∷ us) w =
    ap (option_map (λ (more : List Sight). v ∷ more)) (answer_last a (u ∷ us) w)
    ∙ mapped_if (λ (more : List Sight). v ∷ more) (may_see w.step && is_none w.saw) (u ∷ us ++ record w { saw = Some a } ∷ [])

-- how many answers are told
pub count_more : (ws : List Sight) (w : Sight) → length (answers_of (ws ++ w ∷ [])) ≡ length (answers_of ws) + length (option_to_list w.saw)
count_more [] w = omega (arith, length-append (option_to_list w.saw) [])
count_more (v ∷ vs) w =
    omega (
      arith,
      count_more vs w,
      length-append (option_to_list v.saw) (answers_of (vs ++ w ∷ [])),
      length-append (option_to_list v.saw) (answers_of vs),
    )

-- a step of the line
acting_if : (b : Bool) (ws : List Sight) (s : Step) → cond b (Some (ws ++ untold s ∷ [])) None
    ≡ option_map (λ (s : Step). ws ++ untold s ∷ []) (cond b (Some s) None)
acting_if true ws s = refl
acting_if false ws s = refl

pub step_acting : (specs : List ProcessSpec) (ws : List Sight) (o : Option Step)
    → with_step specs ws o ≡ option_map (λ (s : Step). ws ++ untold s ∷ []) (acting specs o)
step_acting specs ws None = refl
step_acting specs ws (Some s) = acting_if (has_actor specs s) ws s

pub line_step : (tells : Bool) (specs : List ProcessSpec) (ws : List Sight) (line : List ℕ) (o : Option Step) → told_in tells line ≡ None
    → acting specs (step_of (words_from line 0)) ≡ o → with_line tells specs ws line ≡ option_map (λ (s : Step). ws ++ untold s ∷ []) o
line_step tells specs ws line o none is =
    ap (with_told specs ws line) none ∙ step_acting specs ws (step_of (words_from line 0)) ∙ ap (option_map (λ (s : Step). ws ++ untold s ∷ [])) is

pub line_told : (tells : Bool) (specs : List ProcessSpec) (ws : List Sight) (line a : List ℕ) → told_in tells line ≡ Some a
    → with_line tells specs ws line ≡ with_answer a ws
line_told tells specs ws line a is = ap (with_told specs ws line) is

-- The step that a reader of one line gives.
none_first : (s : Step) (ss : List Step) (a b : Option Step) → [] ≡ s ∷ ss → a ≡ b
none_first s ss a b e = cc

same_first : (s t : Step) (ss ts : List Step) → s ∷ ss ≡ t ∷ ts → Some s ≡ Some t
same_first s t ss ts e = cc

first_by : (c : Settings) (a : Option Step) (rest new : Remaining) (o : Option Step) → IsNextStep (left_by c 0 a rest) new o → a ≡ o
first_by c None rest new None next = refl
first_by c None rest new (Some s) next = none_first s new.steps None (Some s) (ap (λ (r : Remaining). r.steps) next)
first_by c (Some s) rest new None next = none_first s rest.steps (Some s) None (sym next.0)
first_by c (Some s) rest new (Some t) next = same_first s t rest.steps new.steps (ap (λ (r : Remaining). r.steps) next)

pub first_step : (c : Settings) (l : List ℕ) (ls : List (List ℕ)) (new : Remaining) (o : Option Step)
    → IsNextStep (steps_left c 0 (l ∷ ls)) new o → acting c.specs (step_of (words_from l 0)) ≡ o
unfolding steps_left
first_step c l ls new o next = first_by c (acting c.specs (step_of (words_from l 0))) (steps_left c 1 ls) new o next

pub next_config : (old new : Remaining) (o : Option Step) → IsNextStep old new o → new.config ≡ old.config
next_config old new None next = ap (λ (r : Remaining). r.config) next.1
next_config old new (Some s) next = sym (ap (λ (r : Remaining). r.config) next)

-- Behind a step.
last_is : (specs : List ProcessSpec) (ws : List Sight) (k : Kernel) (s : Step) (after : Kernel) (seen : Option Observation) (b : Bool)
    → IsSeenTo (initial_kernel specs) ws k → effect k s ≡ Some (record { after = after; seen = seen }) → may_see s ≡ b
    → IsLast specs (ws ++ untold s ∷ []) after (cond b (lasts.Seen seen) lasts.Over)
last_is specs ws k s after seen true come does may =
    record { before = ws; step = s; kernel = k; are = refl; may = may; come = come; does = does }
last_is specs ws k s after seen false come does may =
    λ a. answer_last a ws (untold s) ∙ ap (λ b. cond (b && true) (Some (ws ++ told_of s a ∷ [])) None) may

pub stepped : (specs : List ProcessSpec) (ws : List Sight) (old new : Reading) (s : Step) (seen : Option Observation)
    → HasRead specs ws old → ((k : Kernel) → StandsFor old.machine k → Takes k s old.machine new.machine seen)
    → new.config ≡ old.config → new.answers ≡ old.answers → new.steps ≡ old.steps + 1 → new.last ≡ last_of s seen
    → new.observed.items ≡ old.observed.items ++ asked_lines old.asked s seen → new.asked ≡ old.asked
    → HasRead specs (ws ++ untold s ∷ []) new
stepped specs ws old new s seen had takes config answers steps last observed asked =
    let t = takes had.kernel had.stands in
    record {
      config = ap (λ (c : Settings). c.specs) config ∙ had.config;
      kernel = t.after;
      come = seen_more (initial_kernel specs) had.kernel ws (untold s) (record { after = t.after; seen = seen }) had.come t.is tt;
      stands = t.stands;
      last = subst (IsLast specs (ws ++ untold s ∷ []) t.after) (sym last)
          (last_is specs ws had.kernel s t.after seen (may_see s) had.come t.is refl);
      steps = omega (arith, steps, had.steps, length-append ws (untold s ∷ []));
      answers = omega (arith, answers, had.answers, count_more ws (untold s));
      noted = t.noted ∙ ap (λ n. n + notes had.kernel s) had.noted
          ∙ sym (noted_more (initial_kernel specs) had.kernel ws (untold s) (record { after = t.after; seen = seen }) had.come t.is);
      observed = observed ∙ ap (λ t. t ++ asked_lines old.asked s seen) had.observed
          ∙ sym (observed_more old.asked specs had.kernel ws (untold s) (record { after = t.after; seen = seen }) had.come t.is)
          ∙ ap (λ (a : Asked). observed_by a specs (steps_of (ws ++ untold s ∷ []))) (sym asked);
    }

-- Behind an answer.
pub answered_line : (specs : List ProcessSpec) (ws : List Sight) (a : List ℕ) (after : Kernel) (seen : Option Observation)
    (is : IsSeenLast specs ws after seen) → with_answer a ws ≡ Some (is.before ++ told_of is.step a ∷ [])
answered_line specs ws a after seen is =
    ap (with_answer a) is.are ∙ answer_last a is.before (untold is.step)
    ∙ ap (λ b. cond (b && true) (Some (is.before ++ told_of is.step a ∷ [])) None) is.may

over : (vs : List Sight) (s : Step) (a b : List ℕ) (may : Bool) → may_see s ≡ may → with_answer b (vs ++ told_of s a ∷ []) ≡ None
over vs s a b true may =
    answer_last b vs (told_of s a) ∙ ap (λ t. cond (t && false) (Some (vs ++ told_of s b ∷ [])) None) may
over vs s a b false may =
    answer_last b vs (told_of s a) ∙ ap (λ t. cond (t && false) (Some (vs ++ told_of s b ∷ [])) None) may

pub answered : (specs : List ProcessSpec) (ws : List Sight) (old new : Reading) (a : List ℕ) (seen : Option Observation)
    → (had : HasRead specs ws old) → (is : IsSeenLast specs ws had.kernel seen) → Agrees (Some a) seen
    → new.config ≡ old.config → new.machine ≡ old.machine → new.steps ≡ old.steps → new.answers ≡ old.answers + 1 → new.last ≡ lasts.Over
    → new.observed ≡ old.observed → new.asked ≡ old.asked → HasRead specs (is.before ++ told_of is.step a ∷ []) new
answered specs ws old new a seen had is agrees config machine steps answers last observed asked = record {
  config = ap (λ (c : Settings). c.specs) config ∙ had.config;
  kernel = had.kernel;
  come = seen_more (initial_kernel specs) is.kernel is.before (told_of is.step a) (record { after = had.kernel; seen = seen }) is.come is.does agrees;
  stands = subst (λ (t : Tables). StandsFor t had.kernel) (sym machine) had.stands;
  last = subst (IsLast specs (is.before ++ told_of is.step a ∷ []) had.kernel) (sym last)
      (λ b. over is.before is.step a b (may_see is.step) refl);
  steps = omega (
    arith,
    steps,
    had.steps,
    ap (λ (l : List Sight). length l) is.are,
    length-append is.before (untold is.step ∷ []),
    length-append is.before (told_of is.step a ∷ []),
  );
  answers = omega (
    arith,
    answers,
    had.answers,
    ap (λ (l : List Sight). length (answers_of l)) is.are,
    count_more is.before (untold is.step),
    count_more is.before (told_of is.step a),
  );
  noted = ap (λ (t : Tables). t.noted) machine ∙ had.noted ∙ ap (noted_from (initial_kernel specs)) is.are
      ∙ noted_more (initial_kernel specs) is.kernel is.before (untold is.step) (record { after = had.kernel; seen = seen }) is.come is.does
      ∙ sym (noted_more (initial_kernel specs) is.kernel is.before (told_of is.step a) (record { after = had.kernel; seen = seen }) is.come
      is.does);
  observed = ap (λ t. t.items) observed ∙ had.observed ∙ ap (λ (xs : List Sight). observed_by old.asked specs (steps_of xs)) is.are
      ∙ ap (observed_by old.asked specs) (same_steps is.before is.step a)
      ∙ ap (λ (x : Asked). observed_by x specs (steps_of (is.before ++ told_of is.step a ∷ []))) (sym asked);
}

-- Lines more.
pub on_none : (tells : Bool) (specs : List ProcessSpec) (ws : List Sight) (n : ℕ) → IsReadOn tells specs ws n [] ws n
on_none tells specs ws n ms = refl

pub on_line : (tells : Bool) (specs : List ProcessSpec) (ws us vs : List Sight) (n m : ℕ) (ls : List (List ℕ)) (l : List ℕ)
    → IsReadOn tells specs ws n ls us m → with_line tells specs us l ≡ Some vs → IsReadOn tells specs ws n (ls ++ l ∷ []) vs (m + 1)
unfolding with_lines
on_line tells specs ws us vs n m ls l read is ms =
    ap (with_lines tells specs ws n) (append_assoc ls (l ∷ []) ms) ∙ read (l ∷ ms)
    ∙ ap (λ (o : Option (List Sight)). option_map_or (λ more. with_lines tells specs more (m + 1) ms) o (Err (refusals.BadInput m))) is

-- the next line has any number
pub numbered : (tells : Bool) (specs : List ProcessSpec) (ws : List Sight) (line : List ℕ) (n : ℕ) (r : Reading) → Goes tells specs ws line r
    → Goes tells specs ws line (record r { line = n })
numbered tells specs ws line n r goes =
    let had = goes.read in
    record {
      sights = goes.sights;
      reads = goes.reads;
      read = record {
        config = had.config;
        kernel = had.kernel;
        come = had.come;
        stands = had.stands;
        last = had.last;
        steps = had.steps;
        answers = had.answers;
        noted = had.noted;
        observed = had.observed;
      };
    }

-- all lines before this place were read
pub record Comes (specs : List ProcessSpec) (ws : List Sight) (old new : Reading) (all left : List (List ℕ)) : Type 0 where
  pub before : List (List ℕ)
  pub are : all ≡ before ++ left
  pub sights : List Sight
  pub on : IsReadOn old.tells specs ws old.line before sights new.line
  pub read : HasRead specs sights new
  pub same : new.tells ≡ old.tells
  pub asked : new.asked ≡ old.asked

pub comes_first : (specs : List ProcessSpec) (ws : List Sight) (old : Reading) (all : List (List ℕ)) → HasRead specs ws old
    → Comes specs ws old old all all
comes_first specs ws old all had =
    record { before = []; are = refl; sights = ws; on = on_none old.tells specs ws old.line; read = had; same = refl; asked = refl }

pub comes_more : (specs : List ProcessSpec) (ws : List Sight) (first old new : Reading) (all ls left : List (List ℕ)) (l : List ℕ)
    → (come : Comes specs ws first old all ls) → ls ≡ l ∷ left → Goes old.tells specs come.sights l new → new.tells ≡ old.tells
    → new.asked ≡ old.asked → new.line ≡ old.line + 1 → Comes specs ws first new all left
comes_more specs ws first old new all ls left l come is goes tells asked line = record {
  before = come.before ++ l ∷ [];
  are = come.are ∙ ap (λ (xs : List (List ℕ)). come.before ++ xs) is ∙ sym (append_assoc come.before (l ∷ []) left);
  sights = goes.sights;
  on = subst (λ n. IsReadOn first.tells specs ws first.line (come.before ++ l ∷ []) goes.sights n) (sym line)
      (on_line first.tells specs ws come.sights goes.sights first.line old.line come.before l come.on
      (subst (λ b. with_line b specs come.sights l ≡ Some goes.sights) come.same goes.reads));
  read = goes.read;
  same = tells ∙ come.same;
  asked = asked ∙ come.asked;
}

pub comes_over : (specs : List ProcessSpec) (ws : List Sight) (first old : Reading) (all left : List (List ℕ))
    → Comes specs ws first old all left → left ≡ [] → AreRead specs ws all first old
comes_over specs ws first old all left come none =
    let are : all ≡ come.before = come.are ∙ ap (λ (xs : List (List ℕ)). come.before ++ xs) none ∙ append-nil come.before in
    record {
      sights = come.sights;
      on = subst (λ xs. IsReadOn first.tells specs ws first.line xs come.sights old.line) (sym are) come.on;
      read = come.read;
      same = come.same;
      asked = come.asked;
    }

pub comes_wrong : (specs : List ProcessSpec) (ws : List Sight) (first old : Reading) (all ls left : List (List ℕ)) (l told : List ℕ) (f : Fault)
    → (come : Comes specs ws first old all ls) → ls ≡ l ∷ left → IsFault old.tells specs come.sights old.line l f
    → fault_text f l ≡ Some told → IsWrongIn first.tells specs ws first.line all told
comes_wrong specs ws first old all ls left l told f come is wrong says = record {
  before = come.before;
  line = l;
  behind = left;
  are = come.are ∙ ap (λ (xs : List (List ℕ)). come.before ++ xs) is;
  sights = come.sights;
  at = old.line;
  read = come.on;
  fault = f;
  is = subst (λ b. IsFault b specs come.sights old.line l f) come.same wrong;
  told = says;
}

pub comes_over_in : (specs : List ProcessSpec) (ws : List Sight) (first old : Reading) (all ls left : List (List ℕ)) (l : List ℕ)
    → (come : Comes specs ws first old all ls) → ls ≡ l ∷ left → IsFault old.tells specs come.sights old.line l faults.Limit
    → IsOverIn first.tells specs ws first.line all
comes_over_in specs ws first old all ls left l come is over = record {
  before = come.before;
  line = l;
  behind = left;
  are = come.are ∙ ap (λ (xs : List (List ℕ)). come.before ++ xs) is;
  sights = come.sights;
  at = old.line;
  read = come.on;
  is = subst (λ b. IsFault b specs come.sights old.line l faults.Limit) come.same over;
}

pub on_ok : {T E : Type 0} (r : Result T E) (P Q : Type 0) → (P → Q) → OnOk r P → OnOk r Q
on_ok (Ok x) P Q follows holds = follows holds
on_ok (Err e) P Q follows holds = tt

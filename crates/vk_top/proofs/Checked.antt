-- Traces whose text is read piece by piece: how far their checking has come.
use Rattle.std.proofs.Common.{◌≡◌, ℕ, ◌+◌, ◌<◌, List, [], ◌∷◌, ◌++◌, length, codes, drop, Option, None, Some, IfSome, Result, Ok, Err, IfOk, IfErr, refl, ap, subst, sym, ◌∙◌, arith, length-append, length-drop}
use Rattle.std.specs.Result.{result_ok}
use Rattle.std.proofs.lemmas.Result.{IfErr-weaker, IfOk-weaker}
use Rattle.vk_types.specs.Types.{ProcessSpec, Step}
use Rattle.vk_base.specs.Kernel.{Kernel, initial_kernel}
use Rattle.vk_base.specs.Settings.{Settings}
use Rattle.vk_base.specs.declared.no_memory.NoMemory.{NoMemory}
use Rattle.vk_text.specs.Heads.{head_of, settings_of}
use Rattle.vk_text.specs.Lines.{lines_of}
use Rattle.v_machine.specs.Follows.{StandsFor}
use Rattle.v_machine.specs.Tables.{Tables, kernel_of}
use Rattle.v_machine.proofs.Standing.{stands_initial}
use Rattle.v_trace.specs.Remaining.{IsReadTo, Remaining, steps_left}
use Rattle.v_trace.specs.Traces.{trace_of}
use Rattle.v_trace.proofs.Pieces.{begins, goes_on, is_bad, reads_all, stays_bad, steps_few}
use Rattle.vk_text.proofs.Appended.{some_line}
use Rattle.v_trace.proofs.RemainingSteps.{config_left}
use Rattle.vk_top.proofs.Verdicts.{decided_behind, found_behind, found_verdict}
use Rattle.vk_top.specs.Check.{IsVerdictOf, verdict_from, without_steps}
use Rattle.vk_top.specs.Checking.{AreFound, HasChecked, HasCheckedAll, IsBadBehind, IsCheckedBehind, IsFound, IsFoundFirst}
use Rattle.vk_top.specs.declared.check.Found.{Found}
use Rattle.vk_top.specs.declared.check.TraceVerdict.{TraceVerdict}
use Rattle.vk_top.specs.declared.check.TraceVerdict.TheVariants as verdicts
use Rattle.vk_top.specs.declared.checking.Checking.{Checking}

-- what was found of all steps of a trace is the verdict on it
pub verdict_first : (specs : List ProcessSpec) (noted : ℕ) (steps : List Step) (machine : Tables) (r : Result TraceVerdict NoMemory)
    → noted ≡ 0 → IfOk r (IsFound (initial_kernel specs) 0 noted steps machine)
    → IfOk r (λ v. v ≡ verdict_from (initial_kernel specs) 0 0 steps)
verdict_first specs noted steps machine (Ok v) none found =
    found_verdict (initial_kernel specs) 0 noted steps machine v found
    ∙ ap (λ n. verdict_from (initial_kernel specs) 0 n steps) none
verdict_first specs noted steps machine (Err e) none found = tt

-- more steps behind those that were read

module _ (specs : List ProcessSpec) (steps more : List Step) (old : Tables) (before : Found) (found : AreFound specs steps old before) where
  allowed_by : (new : Tables) (n : ℕ) (r : Result TraceVerdict NoMemory) → IsFoundFirst specs steps old (verdicts.Run n)
      → ((k : Kernel) → StandsFor old k → IfOk r (IsFound k before.read old.noted more new)) → IfOk r (IsFoundFirst specs (steps ++ more) new)
  allowed_by new n (Ok v) far applied =
      let same : n ≡ before.read = omega (arith, far.0, found.count) in
      let next = subst (λ m. IsFound far.1.kernel m old.noted more new v) (sym same) (applied far.1.kernel far.1.stands) in
      found_behind (initial_kernel specs) 0 0 n steps more old new v far.1 far.0 next
  allowed_by new n (Err e) far applied = tt

  -- where all were allowed the machine goes on
  pub allowed_on : (new : Tables) (n : ℕ) (r : Result TraceVerdict NoMemory) → before.verdict ≡ Ok (verdicts.Run n)
      → ((k : Kernel) → StandsFor old k → IfOk r (IsFound k before.read old.noted more new)) → IfOk r (IsFoundFirst specs (steps ++ more) new)
  allowed_on new n r is applied =
      allowed_by new n r (subst (λ (v : Result TraceVerdict NoMemory). IfOk v (IsFoundFirst specs steps old)) is found.verdict) applied

  -- a step that decided decides
  pub refused_on : (step : ℕ) → before.verdict ≡ Ok (verdicts.Refused step) → IfOk before.verdict (IsFoundFirst specs (steps ++ more) old)
  refused_on step is =
      let decided = subst (λ (v : Result TraceVerdict NoMemory). IfOk v (IsFoundFirst specs steps old)) is found.verdict in
      subst (λ (v : Result TraceVerdict NoMemory). IfOk v (IsFoundFirst specs (steps ++ more) old)) (sym is)
      (decided_behind (initial_kernel specs) 0 0 steps more (verdicts.Refused step) decided)

  pub too_much_on : before.verdict ≡ Ok verdicts.TooMuch → IfOk before.verdict (IsFoundFirst specs (steps ++ more) old)
  too_much_on is =
      let decided = subst (λ (v : Result TraceVerdict NoMemory). IfOk v (IsFoundFirst specs steps old)) is found.verdict in
      subst (λ (v : Result TraceVerdict NoMemory). IfOk v (IsFoundFirst specs (steps ++ more) old)) (sym is)
      (decided_behind (initial_kernel specs) 0 0 steps more verdicts.TooMuch decided)

-- how many were read, where the reader is read to its end
pub all_counted : (before : ℕ) (first last : Remaining) (part whole : ℕ) (steps : List Step) → before ≡ length steps
    → part + length last.steps ≡ before + length first.steps → whole ≡ part + length last.steps → whole ≡ length (steps ++ first.steps)
all_counted before first last part whole steps count parts all = omega (arith, count, parts, all, length-append steps first.steps)

-- no line is bad of what the reader had left at first
pub not_bad : (first part last : Remaining) → without_steps part ≡ without_steps first → last ≡ without_steps part → last.bad ≡ None
    → first.bad ≡ None
not_bad first part last parts ends good =
    sym (ap (λ (r : Remaining). r.bad) parts) ∙ sym (ap (λ (r : Remaining). r.bad) ends) ∙ good

-- the first piece

none_found : (specs : List ProcessSpec) (machine : Tables) → kernel_of machine ≡ initial_kernel specs → machine.noted ≡ 0
    → AreFound specs [] machine (record { read = 0; verdict = Ok (verdicts.Run 0) })
none_found specs machine kernel noted = record {
  count = refl;
  verdict = (
    refl,
    record {
      kernel = initial_kernel specs;
      stands = stands_initial machine specs kernel;
      verdict = λ later. ap (λ n. verdict_from (initial_kernel specs) 0 n later) (sym noted);
    },
  );
}

pub begun : (piece front rest : List ℕ) (c : Settings) (at : ℕ) (machine : Tables) (s : Checking) (left : Remaining)
    → left ≡ steps_left c 0 (lines_of rest) → rest ≡ drop at piece → at < length piece
    → head_of (codes "vkernel trace 1") (lines_of piece) ≡ Some (c.specs, lines_of (drop at piece)) → c ≡ settings_of c.specs
    → kernel_of machine ≡ initial_kernel c.specs → machine.noted ≡ 0
    → IsCheckedBehind left machine (record { read = 0; verdict = Ok (verdicts.Run 0) }) s
    → piece ≡ front ++ 10 ∷ [] → HasChecked piece s
begun piece front rest c at machine s left reads stands before head uniform kernel noted checked ends =
    let lines = lines_of (drop at piece) in
    let all = steps_left c 0 lines in
    let is : left ≡ all = reads ∙ ap (λ t. steps_left c 0 (lines_of t)) stands in
    let same : s.config ≡ c = checked.config ∙ ap (λ (r : Remaining). r.config) is ∙ config_left c 0 lines in
    let good : all.bad ≡ None = sym (ap (λ (r : Remaining). r.bad) is) ∙ checked.good in
    let found : AreFound c.specs all.steps s.machine s.found =
    subst (λ (r : Remaining). AreFound c.specs r.steps s.machine s.found) is
    (checked.found c.specs [] (none_found c.specs machine kernel noted)) in
    record {
      steps = all.steps;
      read = subst (λ (d : Settings). IsReadTo piece d all.steps) (sym same)
          (begins piece front c at ends (some_line piece at before) head uniform good);
      few = omega (arith, found.count, steps_few c 0 (drop at piece), length-drop at piece);
      found = subst (λ (d : Settings). AreFound d.specs all.steps s.machine s.found) (sym same) found;
    }

pub some_begun : (r : Result Checking ℕ) (o : Option Checking) (P : Checking → Type 0) → o ≡ result_ok r → IfOk r P → IfSome o P
some_begun (Ok s) o P is all = subst (λ (x : Option Checking). IfSome x P) (sym is) all
some_begun (Err line) o P is all = subst (λ (x : Option Checking). IfSome x P) (sym is) tt

-- a piece more

module _ (text piece : List ℕ) (old : Checking) (left : Remaining) (had : HasChecked text old)
    (is : left ≡ steps_left old.config old.found.read (lines_of piece)) where
  abbrev left_behind : Remaining
  left_behind = steps_left old.config (length had.steps) (lines_of piece)

  same_left : left ≡ left_behind
  same_left = is ∙ ap (λ n. steps_left old.config n (lines_of piece)) had.found.count

  bad_behind : (line : ℕ) → left.bad ≡ Some line → IsBadBehind text piece line
  bad_behind line bad =
      let there : left_behind.bad ≡ Some line = sym (ap (λ (r : Remaining). r.bad) same_left) ∙ bad in
      record {
        all = is_bad text piece old.config had.steps line had.read there;
        more = λ front later ends. stays_bad text piece front later old.config had.steps line had.read ends there;
      }

  module _ (s : Checking) (checked : IsCheckedBehind left old.machine old.found s) where
    same_config : s.config ≡ old.config
    same_config =
        checked.config ∙ ap (λ (r : Remaining). r.config) same_left ∙ config_left old.config (length had.steps) (lines_of piece)

    all_good : left_behind.bad ≡ None
    all_good = sym (ap (λ (r : Remaining). r.bad) same_left) ∙ checked.good

    all_found : AreFound s.config.specs (had.steps ++ left_behind.steps) s.machine s.found
    all_found =
        let found = checked.found old.config.specs had.steps had.found in
        let same = subst (λ (r : Remaining). AreFound old.config.specs (had.steps ++ r.steps) s.machine s.found) same_left found in
        subst (λ (d : Settings). AreFound d.specs (had.steps ++ left_behind.steps) s.machine s.found) (sym same_config) same

    gone_on : (front : List ℕ) → piece ≡ front ++ 10 ∷ [] → HasChecked (text ++ piece) s
    gone_on front ends = record {
      steps = had.steps ++ left_behind.steps;
      read = subst (λ (d : Settings). IsReadTo (text ++ piece) d (had.steps ++ left_behind.steps)) (sym same_config)
          (goes_on text piece front old.config had.steps had.read ends all_good);
      few = omega (
        arith,
        all_found.count,
        had.found.count,
        had.few,
        length-append had.steps left_behind.steps,
        length-append text piece,
        steps_few old.config (length had.steps) piece,
      );
      found = all_found;
    }

    gone_over : HasCheckedAll (text ++ piece) s
    gone_over = record {
      steps = had.steps ++ left_behind.steps;
      spells = subst (λ (d : Settings). trace_of (text ++ piece) ≡ Ok (record { config = d; steps = had.steps ++ left_behind.steps }))
          (sym same_config) (reads_all text piece old.config had.steps had.read all_good);
      found = all_found;
    }

module _ (piece : List ℕ) (old : Checking) (left : Remaining) (r : Result Checking ℕ)
    (is : left ≡ steps_left old.config old.found.read (lines_of piece)) where
  pub more_checked : IfOk r (IsCheckedBehind left old.machine old.found)
      → IfOk r (λ s. (text front : List ℕ) → HasChecked text old → piece ≡ front ++ 10 ∷ [] → HasChecked (text ++ piece) s)
  more_checked = IfOk-weaker r _ _ (λ s checked text front had ends. gone_on text piece old left had is s checked front ends)

  pub all_checked : IfOk r (IsCheckedBehind left old.machine old.found)
      → IfOk r (λ s. (text : List ℕ) → HasChecked text old → HasCheckedAll (text ++ piece) s)
  all_checked = IfOk-weaker r _ _ (λ s checked text had. gone_over text piece old left had is s checked)

  pub bad_found : IfErr r (λ line. left.bad ≡ Some line)
      → IfErr r (λ line. (text : List ℕ) → HasChecked text old → IsBadBehind text piece line)
  bad_found = IfErr-weaker r _ _ (λ line bad text had. bad_behind text piece old left had is line bad)

-- the verdict, where all steps were read

finished_by : (text : List ℕ) (s : Checking) (r : Result TraceVerdict NoMemory) → HasCheckedAll text s → s.found.verdict ≡ r
    → IfOk r (IsVerdictOf text)
finished_by text s (Ok v) all is =
    let found = subst (λ (r : Result TraceVerdict NoMemory). IfOk r (IsFoundFirst s.config.specs all.steps s.machine)) is all.found.verdict in
    record {
      trace = record { config = s.config; steps = all.steps };
      spells = all.spells;
      verdict = found_verdict (initial_kernel s.config.specs) 0 0 all.steps s.machine v found;
    }
finished_by text s (Err e) all is = tt

pub finished : (text : List ℕ) (s : Checking) → HasCheckedAll text s → IfOk s.found.verdict (IsVerdictOf text)
finished text s all = finished_by text s s.found.verdict all refl

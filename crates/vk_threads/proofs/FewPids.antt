-- Processes of a configuration that differ are no more than it has.
use Rattle.std.proofs.Common.{◌≡◌, ◌≤◌, suc, ◌==◌, ◌||◌, eqb-true, eq-eqb, Bool, true, false, cond, List, [], ◌∷◌, length, map, refl, sym, ap, ◌∙◌, arith}
use Rattle.std.proofs.lemmas.Bool.{and_from, and_parts}
use Rattle.vk_types.specs.Types.{Pid, ProcessSpec}
use Rattle.vk_base.specs.Pids.{same_pid}
use Rattle.vk_base.specs.Settings.{has_process, is_process}
use Rattle.vk_rules.specs.Each.{Each}
use Rattle.std.proofs.lemmas.List.{length-map}
use Rattle.vk_program.specs.declared.assigned.Assigned.{Assigned}
use Rattle.vk_threads.specs.Assigned.{AreDifferent, pid_of}

-- two pids of one process are the same
same_both : (a p q : Pid) → same_pid a p ≡ true → same_pid a q ≡ true → same_pid q p ≡ true
same_both a p q one two =
    let x = and_parts (a.host == p.host) (a.local == p.local) one in
    let y = and_parts (a.host == q.host) (a.local == q.local) two in
    and_from (q.host == p.host) (q.local == p.local) (eq-eqb q.host p.host (sym (eqb-true a.host q.host y.0) ∙ eqb-true a.host p.host x.0))
    (eq-eqb q.local p.local (sym (eqb-true a.local q.local y.1) ∙ eqb-true a.local p.local x.1))

-- the processes without this one
without : Pid → List ProcessSpec → List ProcessSpec
without p [] = []
without p (s ∷ ss) = cond (is_process p s) ss (s ∷ without p ss)

one_less : (p : Pid) (specs : List ProcessSpec) → has_process specs p ≡ true → length specs ≡ suc (length (without p specs))
unfolding without
one_less p [] has = absurd (cc has)
one_less p (s ∷ ss) has = by (is_process p s) (one_less p ss) has
  where
    by : (b : Bool) → (has_process ss p ≡ true → length ss ≡ suc (length (without p ss))) → (b || has_process ss p) ≡ true
        → suc (length ss) ≡ suc (length (cond b ss (s ∷ without p ss)))
    by true rest has = refl
    by false rest has = ap suc (rest has)

still : (p q : Pid) (specs : List ProcessSpec) → same_pid q p ≡ false → has_process specs q ≡ true → has_process (without p specs) q ≡ true
unfolding without
still p q [] apart has = has
still p q (s ∷ ss) apart has = by (is_process p s) (is_process q s) refl refl (still p q ss apart) has
  where
    by : (a b : Bool) → is_process p s ≡ a → is_process q s ≡ b → (has_process ss q ≡ true → has_process (without p ss) q ≡ true)
        → (b || has_process ss q) ≡ true → has_process (cond a ss (s ∷ without p ss)) q ≡ true
    by true true one two rest has = let same = same_both s.pid p q one two in absurd (cc (same, apart))
    by true false one two rest has = has
    by false true one two rest has = ap (λ b. b || has_process (without p ss) q) two
    by false false one two rest has = ap (λ b. b || has_process (without p ss) q) two ∙ rest has

all_still : (p : Pid) (specs : List ProcessSpec) (ps : List Pid) → Each (λ (q : Pid). same_pid q p ≡ false) ps
    → Each (λ (q : Pid). has_process specs q ≡ true) ps → Each (λ (q : Pid). has_process (without p specs) q ≡ true) ps
all_still p specs [] apart has = tt
all_still p specs (q ∷ ps) apart has = (still p q specs apart.0 has.0, all_still p specs ps apart.1 has.1)

pub few_pids : (ps : List Pid) (specs : List ProcessSpec) → AreDifferent ps → Each (λ (q : Pid). has_process specs q ≡ true) ps → length ps ≤ length specs
few_pids [] specs different has = omega arith
few_pids (p ∷ ps) specs different has =
    let rest = few_pids ps (without p specs) different.1 (all_still p specs ps different.0 has.1) in
    let less = one_less p specs has.0 in
    omega arith

each_pid : {G : Type 0} (specs : List ProcessSpec) (programs : List (Assigned G)) → Each (λ (a : Assigned G). has_process specs a.pid ≡ true) programs
    → Each (λ (q : Pid). has_process specs q ≡ true) (map pid_of programs)
each_pid specs [] has = tt
each_pid specs (a ∷ others) has = (has.0, each_pid specs others has.1)

pub few_programs : {G : Type 0} (specs : List ProcessSpec) (programs : List (Assigned G)) → Each (λ (a : Assigned G). has_process specs a.pid ≡ true) programs
    → AreDifferent (map pid_of programs) → length programs ≤ length specs
few_programs specs programs has different =
    let few = few_pids (map pid_of programs) specs different (each_pid specs programs has) in let same = length-map programs pid_of in omega arith

-- The step of a line, by the word that it begins with and the space behind that.
use Rattle.std.proofs.Common.{◌≡◌, ℕ, true, false, List, [], ◌∷◌, codes, nat_eq, None, refl, arith, ap, ◌∙◌}
use Rattle.std.specs.List.{starts_with}
use Rattle.vk_base.specs.declared.step.Step.TheVariants as steps
use Rattle.vk_text.proofs.Leading.{led_by, not_led, words_are}
use Rattle.vk_text.specs.Lines.{words_from}
use Rattle.v_trace.specs.Steps.{arrive_of, call_step_of, copy_of, end_of, fail_of, found_of, hear_of, open_of, pid_step_of, step_of}

pub called : (line : List ℕ) → starts_with nat_eq line (codes "call ") ≡ true
    → step_of (words_from line 0) ≡ call_step_of (words_from line 5)
called line h = ap step_of (led_by line (codes "call") h (λ rest. refl))

pub collects : (line : List ℕ) → starts_with nat_eq line (codes "collect ") ≡ true
    → step_of (words_from line 0) ≡ pid_step_of steps.Collect (words_from line 8)
collects line h = ap step_of (led_by line (codes "collect") h (λ rest. refl))

pub takes : (line : List ℕ) → starts_with nat_eq line (codes "take ") ≡ true
    → step_of (words_from line 0) ≡ pid_step_of steps.Take (words_from line 5)
takes line h = ap step_of (led_by line (codes "take") h (λ rest. refl))

pub finishes : (line : List ℕ) → starts_with nat_eq line (codes "finish ") ≡ true
    → step_of (words_from line 0) ≡ pid_step_of steps.Finish (words_from line 7)
finishes line h = ap step_of (led_by line (codes "finish") h (λ rest. refl))

pub copies : (line : List ℕ) → starts_with nat_eq line (codes "copy ") ≡ true
    → step_of (words_from line 0) ≡ copy_of (words_from line 5)
copies line h = ap step_of (led_by line (codes "copy") h (λ rest. refl))

pub arrives : (line : List ℕ) → starts_with nat_eq line (codes "arrive ") ≡ true
    → step_of (words_from line 0) ≡ arrive_of (words_from line 7)
arrives line h = ap step_of (led_by line (codes "arrive") h (λ rest. refl))

pub ends : (line : List ℕ) → starts_with nat_eq line (codes "end ") ≡ true
    → step_of (words_from line 0) ≡ end_of (words_from line 4)
ends line h = ap step_of (led_by line (codes "end") h (λ rest. refl))

pub opens : (line : List ℕ) → starts_with nat_eq line (codes "open ") ≡ true
    → step_of (words_from line 0) ≡ open_of (words_from line 5)
opens line h = ap step_of (led_by line (codes "open") h (λ rest. refl))

pub fails : (line : List ℕ) → starts_with nat_eq line (codes "fail ") ≡ true
    → step_of (words_from line 0) ≡ fail_of (words_from line 5)
fails line h = ap step_of (led_by line (codes "fail") h (λ rest. refl))

pub hears : (line : List ℕ) → starts_with nat_eq line (codes "hear ") ≡ true
    → step_of (words_from line 0) ≡ hear_of (words_from line 5)
hears line h = ap step_of (led_by line (codes "hear") h (λ rest. refl))

pub finds : (line : List ℕ) → starts_with nat_eq line (codes "found ") ≡ true
    → step_of (words_from line 0) ≡ found_of (words_from line 6)
finds line h = ap step_of (led_by line (codes "found") h (λ rest. refl))

pub loses : (line : List ℕ) → starts_with nat_eq line (codes "lost ") ≡ true
    → step_of (words_from line 0) ≡ pid_step_of steps.Lost (words_from line 5)
loses line h = ap step_of (led_by line (codes "lost") h (λ rest. refl))

-- no step has one of its words alone
pub no_step : (line : List ℕ)
    → starts_with nat_eq line (codes "call ") ≡ false
    → starts_with nat_eq line (codes "collect ") ≡ false
    → starts_with nat_eq line (codes "take ") ≡ false
    → starts_with nat_eq line (codes "finish ") ≡ false
    → starts_with nat_eq line (codes "copy ") ≡ false
    → starts_with nat_eq line (codes "arrive ") ≡ false
    → starts_with nat_eq line (codes "end ") ≡ false
    → starts_with nat_eq line (codes "open ") ≡ false
    → starts_with nat_eq line (codes "fail ") ≡ false
    → starts_with nat_eq line (codes "hear ") ≡ false
    → starts_with nat_eq line (codes "found ") ≡ false
    → starts_with nat_eq line (codes "lost ") ≡ false
    → step_of (words_from line 0) ≡ None
unfolding words_from call_step_of pid_step_of arrive_of fail_of open_of copy_of end_of hear_of found_of
no_step [] a b c d e f g h i j k l = refl
no_step (x ∷ xs) a b c d e f g h i j k l =
    let line : List ℕ = x ∷ xs in
    ap step_of (words_are line (omega arith))
    ∙ not_led line (codes "call") call_step_of _ a refl
    (not_led line (codes "arrive") arrive_of _ f refl
    (not_led line (codes "take") (pid_step_of steps.Take) _ c refl
    (not_led line (codes "finish") (pid_step_of steps.Finish) _ d refl
    (not_led line (codes "fail") fail_of _ i refl
    (not_led line (codes "open") open_of _ h refl
    (not_led line (codes "copy") copy_of _ e refl
    (not_led line (codes "end") end_of _ g refl
    (not_led line (codes "hear") hear_of _ j refl
    (not_led line (codes "found") found_of _ k refl
    (not_led line (codes "lost") (pid_step_of steps.Lost) _ l refl
    (not_led line (codes "collect") (pid_step_of steps.Collect) _ b refl refl)))))))))))

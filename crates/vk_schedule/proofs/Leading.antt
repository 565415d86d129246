-- The event of a line, by the word that it begins with and the space behind that.
use Rattle.std.proofs.Common.{◌≡◌, ℕ, true, false, List, [], ◌∷◌, codes, nat_eq, None, refl, arith, ap, ◌∙◌}
use Rattle.std.specs.List.{starts_with}
use Rattle.vk_text.proofs.Leading.{led_by, not_led, words_are}
use Rattle.vk_text.specs.Lines.{words_from}
use Rattle.vk_schedule.specs.Schedule.{call_event_of, collect_event_of, deliver_event_of, event_of, tick_event_of}

pub called : (line : List ℕ) → starts_with nat_eq line (codes "call ") ≡ true → event_of (words_from line 0) ≡ call_event_of (words_from line 5)
unfolding event_of
called line h = ap event_of (led_by line (codes "call") h (λ rest. refl))

pub collects : (line : List ℕ) → starts_with nat_eq line (codes "collect ") ≡ true →
    event_of (words_from line 0) ≡ collect_event_of (words_from line 8)
unfolding event_of
collects line h = ap event_of (led_by line (codes "collect") h (λ rest. refl))

pub ticks : (line : List ℕ) → starts_with nat_eq line (codes "tick ") ≡ true → event_of (words_from line 0) ≡ tick_event_of (words_from line 5)
unfolding event_of
ticks line h = ap event_of (led_by line (codes "tick") h (λ rest. refl))

pub delivers : (line : List ℕ) → starts_with nat_eq line (codes "deliver ") ≡ true →
    event_of (words_from line 0) ≡ deliver_event_of (words_from line 8)
unfolding event_of
delivers line h = ap event_of (led_by line (codes "deliver") h (λ rest. refl))

-- no event has one of its words alone
pub no_event : (line : List ℕ) → starts_with nat_eq line (codes "call ") ≡ false → starts_with nat_eq line (codes "collect ") ≡ false →
    starts_with nat_eq line (codes "tick ") ≡ false → starts_with nat_eq line (codes "deliver ") ≡ false → event_of (words_from line 0) ≡ None
unfolding event_of words_from call_event_of collect_event_of tick_event_of deliver_event_of
no_event [] h i j k = refl
no_event (x ∷ xs) h i j k =
    let line : List ℕ = x ∷ xs in
    ap event_of (words_are line (omega arith))
    ∙ not_led line (codes "call") call_event_of _ h refl (not_led line (codes "collect") collect_event_of _ i refl
    (not_led line (codes "tick") tick_event_of _ j refl (not_led line (codes "deliver") deliver_event_of _ k refl refl)))

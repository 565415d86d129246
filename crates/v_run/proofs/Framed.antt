-- The works of a process that was answered as often as it called were ended by frames, where no tick ended one.
use Rattle.std.proofs.Common.{◌≡◌, ℕ, ◌==◌, eqb-true, true, List, [], ◌∷◌, length, map, refl, sym, subst}
use Rattle.std.proofs.lemmas.Bool.{and_parts}
use Rattle.vk_types.specs.Types.{Pid, StationEvent}
use Rattle.vk_base.specs.declared.event.StationEvent.TheVariants as events
use Rattle.vk_base.specs.Settings.{Settings, has_process}
use Rattle.vk_host.specs.Values.{input_of}
use Rattle.vk_port.specs.Stations.{StationHistory, entries_at, entries_from, event_of, is_own}
use Rattle.vk_rules.specs.Each.{Each}
use Rattle.vk_rules.specs.Entries.{Entry, Input}
use Rattle.vk_rules.specs.Right.{entries_of}
use Rattle.v_whole.specs.EveryFrame.{AreOwnInputs, IsOwnInput}
use Rattle.v_ended.specs.Answered.{AnsweredWorksEndByFrames, ComeInTime, answers_of, calls_of}
use Rattle.v_ended.specs.Ends.{EachWorkIsEndedByFrame, NoTickEnds}
use Rattle.v_run.specs.Passages.{fresh_station}

-- the inputs of these events behind others, of which the newest comes first
abbrev pub inputs_behind : List Input → List StationEvent → List Input
inputs_behind is [] = is
inputs_behind is (e ∷ es) = inputs_behind (input_of e ∷ is) es

pub behind_are : (c : Settings) (h : ℕ) (is : List Input) (es : List StationEvent)
    → entries_from c h (entries_of c h is) es ≡ entries_of c h (inputs_behind is es)
behind_are c h is [] = refl
behind_are c h is (e ∷ es) = behind_are c h (input_of e ∷ is) es

own_input : (o : StationHistory) (e : StationEvent) → is_own o e ≡ true → IsOwnInput o.host (input_of e)
own_input o (events.Call pid call) own =
    eqb-true pid.host o.host (and_parts (has_process o.config.specs pid) (pid.host == o.host) own).1
own_input o (events.Collect pid) own = eqb-true pid.host o.host (and_parts (has_process o.config.specs pid) (pid.host == o.host) own).1
own_input o events.Tick own = tt
own_input o (events.Deliver frame) own = tt

pub own_behind : (o : StationHistory) (is : List Input) (xs : List (ℕ × StationEvent)) → AreOwnInputs o.host is
    → Each (λ (x : ℕ × StationEvent). is_own o x.1 ≡ true) xs → AreOwnInputs o.host (inputs_behind is (map event_of xs))
own_behind o is [] own all = own
own_behind o is (x ∷ xs) own all = own_behind o (input_of x.1 ∷ is) xs (own_input o x.1 all.0, own) all.1

pub framed : AnsweredWorksEndByFrames → (c : Settings) (h : ℕ) (r : Pid) (history : List (ℕ × StationEvent))
    → Each (λ (x : ℕ × StationEvent). is_own (fresh_station c h) x.1 ≡ true) history → NoTickEnds (entries_at (fresh_station c h) history)
    → ComeInTime c h (entries_at (fresh_station c h) history)
    → length (answers_of r (entries_at (fresh_station c h) history)) ≡ length (calls_of r (entries_at (fresh_station c h) history))
    → EachWorkIsEndedByFrame c h r (entries_at (fresh_station c h) history)
framed law c h r history own none time same =
    let is = inputs_behind [] (map event_of history) in
    let are : entries_at (fresh_station c h) history ≡ entries_of c h is = behind_are c h [] (map event_of history) in
    subst (λ (es : List Entry). NoTickEnds es → ComeInTime c h es → length (answers_of r es) ≡ length (calls_of r es)
    → EachWorkIsEndedByFrame c h r es) (sym are)
    (law c h is r (own_behind (fresh_station c h) [] history tt own)) none time same

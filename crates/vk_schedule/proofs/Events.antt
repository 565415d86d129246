-- Events as words.
use Rattle.std.proofs.Common.{◌≡◌, ℕ, true, List, [], ◌∷◌, ◌++◌, decimal, codes, bytes_eq, Option, Some, cond, ap, sym, ◌∙◌, arith, append_assoc}
use Rattle.std.proofs.lemmas.Option.{cond_some}
use Rattle.vk_types.specs.Types.{Call, Pid}
use Rattle.vk_base.proofs.OptionLemmas.{bind_is}
use Rattle.vk_text.specs.Calls.{call_of}
use Rattle.vk_text.specs.Spelling.{pid_text, call_text}
use Rattle.vk_text.specs.Words.{positive_of, station_of, pid_of}
use Rattle.vk_text.proofs.CallWords.{call_spelled, spaced_call}
use Rattle.vk_text.proofs.Firsts.{first_spelled, ended_is}
use Rattle.vk_text.proofs.Spelled.{either_word, positive_spelled, station_spelled, pid_spelled}
use Rattle.vk_schedule.specs.Schedule.{call_event_of, collect_event_of, tick_event_of, deliver_event_of, event_of}
use Rattle.vk_schedule.specs.Spelling.{event_words, event_text}
use Rattle.vk_schedule.specs.declared.event.Event.{Event}
use Rattle.vk_schedule.specs.declared.event.Event.TheVariants as events

call_event_spelled : (ws : List (List ℕ)) (e : Event) → call_event_of ws ≡ Some e → codes "call" ∷ ws ≡ event_words e
unfolding call_event_of
call_event_spelled ws e h =
    let pid = first_spelled pid_of pid_text pid_spelled _ e ws h in
    let call = bind_is (call_of pid.1) _ e pid.3 in
    let end = (cond_some true (events.Call pid.0 call.0) e call.2).1 in
    ap (λ l. codes "call" ∷ l) (pid.2 ∙ ap (λ l. pid_text pid.0 ∷ l) (call_spelled pid.1 call.0 call.1)) ∙ ap event_words end

collect_spelled : (ws : List (List ℕ)) (e : Event) → collect_event_of ws ≡ Some e → codes "collect" ∷ ws ≡ event_words e
unfolding collect_event_of
collect_spelled ws e h =
    let pid = first_spelled pid_of pid_text pid_spelled _ e ws h in
    let end = ended_is pid.1 (events.Collect pid.0) e pid.3 in
    ap (λ l. codes "collect" ∷ l) (pid.2 ∙ ap (λ l. pid_text pid.0 ∷ l) end.0) ∙ ap event_words end.1

tick_spelled : (ws : List (List ℕ)) (e : Event) → tick_event_of ws ≡ Some e → codes "tick" ∷ ws ≡ event_words e
unfolding tick_event_of
tick_spelled ws e h =
    let host = first_spelled station_of decimal (λ n w f. (station_spelled n w f).0) _ e ws h in
    let end = ended_is host.1 (events.Tick host.0) e host.3 in
    ap (λ l. codes "tick" ∷ l) (host.2 ∙ ap (λ l. decimal host.0 ∷ l) end.0) ∙ ap event_words end.1

deliver_spelled : (ws : List (List ℕ)) (e : Event) → deliver_event_of ws ≡ Some e → codes "deliver" ∷ ws ≡ event_words e
unfolding deliver_event_of
deliver_spelled ws e h =
    let to = first_spelled station_of decimal (λ n w f. (station_spelled n w f).0) _ e ws h in
    let from = first_spelled station_of decimal (λ n w f. (station_spelled n w f).0) _ e to.1 to.3 in
    let event = first_spelled (positive_of 9223372036854775807) decimal
    (λ n w f. (positive_spelled 9223372036854775807 n w (omega arith) f).0) _ e from.1 from.3 in
    let output = first_spelled (positive_of 65535) decimal (λ n w f. (positive_spelled 65535 n w (omega arith) f).0) _ e event.1 event.3 in
    let end = ended_is output.1 (events.Deliver to.0 from.0 event.0 output.0) e output.3 in
    ap (λ l. codes "deliver" ∷ l) (to.2 ∙ ap (λ l. decimal to.0 ∷ l)
    (from.2 ∙ ap (λ l. decimal from.0 ∷ l) (event.2 ∙ ap (λ l. decimal event.0 ∷ l)
    (output.2 ∙ ap (λ l. decimal output.0 ∷ l) end.0)))) ∙ ap event_words end.1

-- the first word is this one, or the event is another
named : (w word : List ℕ) (ws : List (List ℕ)) (e : Event) (x y : Option Event) → (x ≡ Some e → word ∷ ws ≡ event_words e)
    → (y ≡ Some e → w ∷ ws ≡ event_words e) → cond (bytes_eq w word) x y ≡ Some e → w ∷ ws ≡ event_words e
named w word ws e x y is other h = either_word (w ∷ ws ≡ event_words e) w word x y (Some e) (λ f g. ap (λ l. l ∷ ws) f ∙ is g) other h

-- words that read as an event are that event's words
pub event_spelled : (ws : List (List ℕ)) (e : Event) → event_of ws ≡ Some e → ws ≡ event_words e
unfolding event_of
event_spelled [] e h = cc
event_spelled (w ∷ ws) e h =
    named w (codes "call") ws e _ _ (call_event_spelled ws e)
    (named w (codes "collect") ws e _ _ (collect_spelled ws e)
    (named w (codes "tick") ws e _ _ (tick_spelled ws e)
    (named w (codes "deliver") ws e _ _ (deliver_spelled ws e) (λ none. cc)))) h

-- the text of the event of a call
pub call_event_text : (front : List ℕ) (pid : Pid) (call : Call)
    → ((front ++ codes "call") ++ 32 ∷ pid_text pid) ++ 32 ∷ call_text call ≡ front ++ event_text (events.Call pid call)
call_event_text front pid call =
    let text : List ℕ = codes "call" ++ 32 ∷ pid_text pid in
    ap (λ l. l ++ 32 ∷ call_text call) (append_assoc front (codes "call") (32 ∷ pid_text pid))
    ∙ append_assoc front text (32 ∷ call_text call) ∙ ap (λ l. front ++ l) (sym (spaced_call text call))

-- the same behind a draft, where the space is written first
pub call_behind : (front draft : List ℕ) (pid : Pid) (call : Call)
    → front ++ (((draft ++ codes "call") ++ 32 ∷ pid_text pid) ++ 32 ∷ []) ++ call_text call ≡ (front ++ draft) ++ event_text (events.Call pid call)
call_behind front draft pid call =
    let begun : List ℕ = (draft ++ codes "call") ++ 32 ∷ pid_text pid in
    append_assoc front (begun ++ 32 ∷ []) (call_text call)
    ∙ ap (λ l. front ++ l) (append_assoc begun (32 ∷ []) (call_text call) ∙ call_event_text draft pid call)
    ∙ sym (append_assoc front draft (event_text (events.Call pid call)))

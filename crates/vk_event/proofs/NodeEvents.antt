-- Events of one station as words.
use Rattle.std.proofs.Common.{◌≡◌, ℕ, List, ◌∷◌, ◌++◌, map, codes, ap, sym, ◌∙◌, append_assoc}
use Rattle.std.specs.List.{flat_map}
use Rattle.std.proofs.lemmas.List.Concat.{flat_map-append}
use Rattle.std.proofs.lemmas.List.Folds.{flat_map-map}
use Rattle.vk_types.specs.Types.{Call, Pid, StationEvent}
use Rattle.vk_base.specs.declared.event.StationEvent.TheVariants as events
use Rattle.vk_base.specs.Settings.{Settings}
use Rattle.vk_text.specs.Heads.{line_text}
use Rattle.vk_text.specs.Openings.{timed_lines}
use Rattle.vk_text.specs.Spelling.{call_text, pid_text}
use Rattle.vk_schedule.proofs.Events.{call_event_text}
use Rattle.vk_event.specs.NodeLaws.{node_text, own_text, station_text}
use Rattle.vk_event.specs.Nodes.{node_title}

-- the text of the event of a call
pub own_call_text : (front : List ℕ) (pid : Pid) (call : Call) →
    ((front ++ codes "call") ++ 32 ∷ pid_text pid) ++ 32 ∷ call_text call ≡ front ++ own_text (events.Call pid call)
own_call_text front pid call = call_event_text front pid call

-- the text of one station by its parts
pub text_parts : (c : Settings) (host : ℕ) (es : List StationEvent) →
    (flat_map line_text (timed_lines node_title c) ++ line_text (station_text host)) ++ flat_map (λ e. line_text (own_text e)) es
    ≡ node_text c host es
text_parts c host es =
    let opening : List ℕ = flat_map line_text (timed_lines node_title c) in
    let station : List ℕ = line_text (station_text host) in
    append_assoc opening station (flat_map (λ e. line_text (own_text e)) es)
    ∙ ap (λ l. opening ++ (station ++ l)) (sym (flat_map-map line_text own_text es))
    ∙ sym (flat_map-append line_text (timed_lines node_title c) (station_text host ∷ map own_text es))

use Rattle.std.proofs.Common.{List, ℕ, ◌++◌, ap, ◌∙◌}
use Rattle.std.specs.Prelude.{flat_map}
use Rattle.vk_text.specs.Heads.{line_text}
use Rattle.vk_text.specs.Openings.{timed_lines}
use Rattle.vk_event.specs.NodeLaws.{own_text, station_text}
use Rattle.vk_event.specs.Nodes.{node_title, nodes_of}
use Rattle.vk_event.proofs.NodeBack.{written_back}
use Rattle.vk_event.proofs.NodeEvents.{text_parts}
use Rattle.vk_event.proofs.node_writing.write_node.Goals as goal

pub returns-clause-text : goal.returns-clause-text
returns-clause-text c =
    let opening : List ℕ = flat_map line_text (timed_lines node_title c.args.config.now) in
    c.in_ok-write_events.ensures
    ∙ ap (λ (l : List ℕ). l ++ flat_map (λ e. line_text (own_text e)) c.args.events.now)
    (c.in_ok-write_station.ensures ∙ ap (λ (l : List ℕ). l ++ line_text (station_text c.args.host))
    (c.in_ok-write_opening.ensures ∙ ap (λ (l : List ℕ). l ++ opening) c.new-text.ensures.items))
    ∙ text_parts c.args.config.now c.args.host c.args.events.now

pub returns-clause-read : goal.returns-clause-read
returns-clause-read c = ap nodes_of (returns-clause-text c) ∙ written_back c.args.config.now c.args.host c.args.events.now c.requires

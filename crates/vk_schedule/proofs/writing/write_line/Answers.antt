use Rattle.std.proofs.Common.{List, ℕ, [], ◌∷◌, ◌++◌, ap, sym, ◌∙◌, append_assoc}
use Rattle.vk_text.specs.Texts.{shown}
use Rattle.vk_schedule.specs.Spelling.{event_text}
use Rattle.vk_schedule.proofs.writing.write_line.Goals as goal

pub returns : goal.returns
returns c =
    let words : List ℕ = event_text c.args.event.now in
    ap (λ (l : List ℕ). c.write_event.new.text.bytes.items ++ l) c.byte.ensures
    ∙ sym (append_assoc c.write_event.new.text.bytes.items c.write_event.new.text.draft (10 ∷ []))
    ∙ ap (λ (l : List ℕ). l ++ 10 ∷ []) (c.in_ok-write_event.ensures.ok ∙ ap (λ (l : List ℕ). l ++ words) c.in_ok-make_room.ensures.same)
    ∙ append_assoc (shown c.args.text.now) words (10 ∷ [])

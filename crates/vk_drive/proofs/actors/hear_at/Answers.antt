use Rattle.std.proofs.Common.{[], ◌∷◌, ◌++◌, ap, sym, subst, ◌∙◌}
use Rattle.std.proofs.lemmas.Option.{same_Some}
use Rattle.vk_host.specs.Responses.{answer_of}
use Rattle.vk_host.specs.Values.{StationValue}
use Rattle.vk_drive.specs.Driving.{IsActor}
use Rattle.vk_drive.proofs.Places.{hear_at}
use Rattle.vk_drive.proofs.actors.hear_at.Goals as goal

pub returns : goal.returns
returns c hs h a s are found answered own others =
    let response = c.args.course.now.response in
    let station = c.station-station.result.now in
    let same = same_Some station s (sym c.station-station.ensures ∙ found) in
    let given = ap (λ (t : StationValue). answer_of t response) same ∙ answered in
    hear_at c.args.actors.now.items hs are c.args.place c.index_mut.result.now c.hear.new.self c.requires.within
    c.index_mut.ensures.value h a
    (λ t heard is. subst (λ x. IsActor c.hear.new.self t (heard ++ x ∷ [])) given (c.hear.ensures t heard is)) own others

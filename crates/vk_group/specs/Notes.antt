-- The replies that were reported and not handed over.
use Rattle.std.specs.Prelude.{Bool, true, false, ◌++◌, List, [], ◌∷◌}
use Rattle.vk_group.specs.declared.notes.Note.{Note}

-- with one more, where the member replied
abbrev pub noted : Bool → Note → List Note → List Note
noted true n notes = notes ++ n ∷ []
noted false n notes = notes

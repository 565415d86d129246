-- The trace of a history.
use Rattle.std.proofs.Common.{◌≡◌, ℕ, ◌+◌, List, [], ◌∷◌, ◌++◌, codes, Option, Some, None, refl, ap, sym, ◌∙◌, append-nil}
use Rattle.std.specs.List.{flat_map}
use Rattle.std.proofs.lemmas.List.Concat.{flat_map-append}
use Rattle.vk_types.specs.Types.{EventAnswer}
use Rattle.vk_text.specs.Heads.{head_text}
use Rattle.vk_report.specs.declared.entry.Form.TheVariants as forms
use Rattle.vk_report.specs.declared.frame.Emitted.{Emitted}
use Rattle.vk_report.specs.Histories.{Told, frames_from, lines_by, told_lines, steps_by, told_steps, TracesAreOfTheirSteps}
use Rattle.vk_report.specs.Report.{step_line, step_lines}

pub no_frames : (host own before : ℕ) (frames : List Emitted) → frames_from forms.Trace host own before frames ≡ []
no_frames host own before [] = refl
no_frames host own before (f ∷ fs) = no_frames host own (before + 1) fs

by_answer : (t : Told) (answer : Option EventAnswer) → lines_by forms.Trace t answer ≡ step_lines [] (steps_by t answer)
by_answer t None = refl
by_answer t (Some answer) =
    ap (λ l. step_lines [] t.steps ++ l) (no_frames t.place.host t.place.own 0 t.frames) ∙ append-nil (step_lines [] t.steps)

all_steps : (told : List Told) → flat_map (told_lines forms.Trace) told ≡ step_lines [] (flat_map told_steps told)
all_steps [] = refl
all_steps (t ∷ ts) =
    ap (λ l. l ++ flat_map (told_lines forms.Trace) ts) (by_answer t t.answer)
    ∙ ap (λ l. step_lines [] (told_steps t) ++ l) (all_steps ts)
    ∙ sym (flat_map-append (step_line []) (told_steps t) (flat_map told_steps ts))

pub of_their_steps : TracesAreOfTheirSteps
of_their_steps specs told counts =
    append-nil (head_text (codes "vkernel trace 1") specs ++ flat_map (told_lines forms.Trace) told)
    ∙ ap (λ l. head_text (codes "vkernel trace 1") specs ++ l) (all_steps told)

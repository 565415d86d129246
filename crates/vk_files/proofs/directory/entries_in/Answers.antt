use Rattle.std.proofs.Common.{List, [], ◌∷◌, ◌++◌, ap, sym, ◌∙◌}
use Rattle.vk_files.proofs.Directories.{entries_more, no_entries}
use Rattle.vk_files.specs.Volumes.{entries_in}
use Rattle.vk_files.specs.declared.entry.Entry.{Entry}
use Rattle.vk_files.proofs.directory.entries_in.Goals as goal

pub loop-place-init : goal.loop-place-init
loop-place-init c = c.empty-entries.ensures ∙ sym (no_entries c.args.block.now)

pub loop-place-preserved : goal.loop-place-preserved
loop-place-preserved c =
    c.in_ok-push.ensures.ok ∙ ap (λ (l : List Entry). l ++ c.entry_from.result ∷ []) c.loop-place.invariant
    ∙ ap (λ (e : Entry). entries_in c.args.block.now c.loop-place.place ++ e ∷ []) c.entry_from.ensures
    ∙ entries_more c.args.block.now c.loop-place.place

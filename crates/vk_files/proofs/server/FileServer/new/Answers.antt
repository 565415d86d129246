use Rattle.std.proofs.Common.{◌∙◌}
use Rattle.vk_files.proofs.Directories.{few_entries}
use Rattle.vk_files.proofs.server.FileServer.new.Goals as goal

pub first_bad-requires : goal.first_bad-requires
first_bad-requires g c = few_entries _ _ (c.as_slice.ensures ∙ c.in-Ok.ensures)

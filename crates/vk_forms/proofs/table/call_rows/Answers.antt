use Rattle.std.proofs.Common.{refl}
use Rattle.vk_text.specs.Lines.{lines_of}
use Rattle.vk_forms.proofs.table.call_rows.Goals as goal

pub returns : goal.returns
unfolding lines_of
returns c = refl

use Rattle.vk_page.proofs.Kept.{all_kept}
use Rattle.vk_page.proofs.law.plain_texts_are_kept.Goals as goal

pub returns : goal.returns
returns c = all_kept

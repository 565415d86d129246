use Rattle.std.proofs.Common.{◌≡◌, replicate}
use Rattle.vk_pages.specs.Pages.{zero_page}
use Rattle.vk_pages.proofs.store.MemoryPages.new.Given as goal

abbrev pub invariant-loop-page : goal.invariant-loop-page
invariant-loop-page l = l.made.items ≡ replicate l._page zero_page

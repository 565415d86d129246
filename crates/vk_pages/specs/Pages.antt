-- The page store: a map from page numbers to 512 bytes, as the list of its pages.
use Rattle.std.specs.Prelude.{ℕ, List, replicate, slice_set}
use Rattle.vk_event.specs.declared.task.TheConstants.{PAGE_BYTES}

-- a page of zeros
abbrev pub zero_page : List ℕ
zero_page = replicate PAGE_BYTES 0

-- so many pages of zeros
abbrev pub zero_pages : ℕ → List (List ℕ)
zero_pages count = replicate count zero_page

-- the pages with these bytes as this one; a page that is not there changes nothing
abbrev pub with_page : List (List ℕ) → ℕ → List ℕ → List (List ℕ)
with_page pages page bytes = slice_set pages page bytes

-- The map from page numbers to bytes that the requests of a server of so many pages make, and the reply of a request.
use Rattle.std.specs.Prelude.{ℕ, Bool, ◌==◌, ◌&&◌, ◌||◌, not, nat_lt, nat_le, List, [], ◌∷◌, if◌then◌else◌}
use Rattle.vk_types.specs.Types.{Message}
use Rattle.vk_base.specs.Messages.{grants_read, grants_write, segment_of}
use Rattle.vk_base.specs.Ranges.{with_bytes}
use Rattle.vk_event.specs.declared.task.TheConstants.{PAGE_BYTES}
use Rattle.vk_pages.specs.Messages.{code_of, page_of, reply_of}
use Rattle.vk_pages.specs.Pages.{zero_page}
use Rattle.v_pages.specs.Requests.{Request}

-- the bytes of each page
abbrev pub PageMap : Type 0
PageMap = ℕ → List ℕ

-- a read of a page that there is, which lets the server write as many bytes as a page has
abbrev pub is_lawful_read : ℕ → Message → Bool
is_lawful_read pages m = code_of m == 1 && nat_lt (page_of m) pages && grants_write m && nat_le PAGE_BYTES (segment_of m).len

-- a write of a page that there is, which lets the server read exactly as many bytes as a page has
abbrev pub is_lawful_write : ℕ → Message → Bool
is_lawful_write pages m = code_of m == 2 && nat_lt (page_of m) pages && grants_read m && (segment_of m).len == PAGE_BYTES

-- a lawful write sets its page, and every other request changes nothing
abbrev pub after_request : ℕ → PageMap → Request → PageMap
after_request pages map q = λ page. if is_lawful_write pages q.message && page == page_of q.message then q.bytes else map page

-- the map after these requests, in order
abbrev pub after_requests : ℕ → PageMap → List Request → PageMap
after_requests pages map [] = map
after_requests pages map (q ∷ qs) = after_requests pages (after_request pages map q) qs

-- which is zero before the first
abbrev pub map_after : ℕ → List Request → PageMap
map_after pages qs = after_requests pages (λ page. zero_page) qs

-- the code of the reply: 2 where the message asks for nothing, 1 where there is no such page, 0 where it is done, and else 2
abbrev pub code_for : ℕ → Message → ℕ
code_for pages m =
    if not (code_of m == 1 || code_of m == 2) then 2
    else if not (nat_lt (page_of m) pages) then 1
    else if is_lawful_read pages m || is_lawful_write pages m then 0
    else 2

-- the message of the reply
abbrev pub reply_for : ℕ → Message → Message
reply_for pages m = reply_of (code_for pages m) (page_of m)

-- the memory of the sender after the reply: the bytes of the page are written to the front of its segment, where one is read, and
-- else it is as before
abbrev pub memory_after : ℕ → PageMap → Message → List ℕ → List ℕ
memory_after pages map m memory = if is_lawful_read pages m then with_bytes memory (segment_of m).start (map (page_of m)) else memory

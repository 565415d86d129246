-- What a file server is made over, the bytes of a file there, and the blocks of its disk in the course of a run.
use Rattle.std.specs.Prelude.{ℕ, zero, suc, ◌≡◌, ◌+◌, ◌<◌, List, [], ◌++◌, length, take, None}
use Rattle.vk_types.specs.Types.{Answer, Pid, ProcessSpec, Step}
use Rattle.vk_files.specs.Disks.{block_at}
use Rattle.vk_files.specs.Tasks.{server_after}
use Rattle.vk_files.specs.Volumes.{files_of, first_bad}
use Rattle.vk_files.specs.declared.disk.Telling.{Telling}
use Rattle.vk_files.specs.declared.entry.File.{File}
use Rattle.vk_files.specs.declared.limits.TheConstants.{BLOCK_BYTES}
use Rattle.v_pages.specs.Followed.{answers_before}

-- a disk that can be served: its blocks are whole, and each entry of its directory is free or lawful
pub record IsVolume (blocks : List (List ℕ)) : Type 0 where
  pub whole : (n : ℕ) → n < length blocks → length (block_at blocks n) ≡ BLOCK_BYTES
  pub lawful : first_bad (length blocks) (files_of blocks) ≡ None

-- so many blocks from this one on, one behind the other
unfoldable pub blocks_from : List (List ℕ) → ℕ → ℕ → List ℕ
blocks_from blocks start zero = []
blocks_from blocks start (suc n) = blocks_from blocks start n ++ block_at blocks (start + n)

-- the bytes of a file: of its blocks, as many as it is long
abbrev pub file_bytes : List (List ℕ) → File → List ℕ
file_bytes blocks f = take f.length (blocks_from blocks f.start f.blocks)

-- The blocks of the disk of the server r before a place of a run, where the disk had these blocks when the server was made, and tells
-- this behind each list of answers. Each block that the server fetches by an answer is one of these.
abbrev pub disk_before : List (List ℕ) → ℕ → (List Answer → Telling) → List ProcessSpec → List Step → Pid → ℕ → List (List ℕ)
disk_before blocks requests telling specs ss r i = (server_after blocks requests telling (answers_before specs ss r i)).blocks

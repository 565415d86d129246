-- The definitions, tried: a client that loads a file of two blocks, of which the last byte is the first one of the second block.
use Rattle.std.proofs.Common.{◌≡◌, ℕ, List, [], ◌∷◌, ◌++◌, Some, None, replicate, refl, lit<}
use Rattle.std.specs.Prelude.{option_map}
use Rattle.vk_types.specs.Types.{Answer, Pid, Process, ProcessSpec, Step}
use Rattle.vk_base.specs.declared.call.Call.TheVariants as calls
use Rattle.vk_base.specs.declared.step.Step.TheVariants as steps
use Rattle.vk_base.specs.Calls.{call_refusal, copied_at_once, sent}
use Rattle.vk_base.specs.Kernel.{put_process, put_exchange, queue_of, held, held_up_to}
use Rattle.vk_base.specs.Ranges.{range_of, bytes_in}
use Rattle.vk_base.specs.Steps.{run, taking, taken, finishing, collecting}
use Rattle.vk_files.specs.Messages.{load_of, reply_of}
use Rattle.vk_files.specs.Tasks.{file_call}
use Rattle.vk_files.specs.Volumes.{entries_in, file_at, files_of, first_bad}
use Rattle.vk_files.specs.declared.disk.Telling.{Telling}
use Rattle.vk_files.specs.declared.disk.Telling.TheVariants.{Done}
use Rattle.v_laws.specs.Places.{process_at}
use Rattle.v_pages.specs.Followed.{answers_before, up_to}
use Rattle.v_files.specs.Volumes.{blocks_from, disk_before, file_bytes}

-- the first entry of the directory is the file: a name, its start at block 1, two blocks, 513 bytes
unfoldable blocks : List (List ℕ)
blocks =
    (102 ∷ replicate 19 0 ++ 0 ∷ 0 ∷ 0 ∷ 1 ∷ 0 ∷ 0 ∷ 0 ∷ 2 ∷ 0 ∷ 0 ∷ 2 ∷ 1 ∷ [] ++ replicate 480 0)
    ∷ replicate 512 7 ∷ replicate 512 8 ∷ []

unfoldable telling : List Answer → Telling
telling given = Done

is_lawful : first_bad 3 (files_of blocks) ≡ None
unfolding blocks entries_in
is_lawful = refl

file_is : file_at (files_of blocks) 0 ≡ Some (record { number = 0; start = 1; blocks = 2; length = 513 })
unfolding blocks entries_in
file_is = refl

bytes_are : file_bytes blocks (record { number = 0; start = 1; blocks = 2; length = 513 }) ≡ replicate 512 7 ++ 8 ∷ []
unfolding blocks blocks_from
bytes_are = refl

-- A server and a client of one station.
unfoldable server : Pid
server = record { host = 1; local = 1; some_host = lit< tt; one_host = lit< tt; some_local = lit< tt }

unfoldable client : Pid
client = record { host = 1; local = 2; some_host = lit< tt; one_host = lit< tt; some_local = lit< tt }

unfoldable processes : List ProcessSpec
processes = record { pid = server; size = 1024 } ∷ record { pid = client; size = 1024 } ∷ []

unfoldable loading : List Step
loading =
    steps.Call server (calls.ReceiveSegment 0 512)
    ∷ steps.Call client (calls.Send server (load_of 0 16 513))
    ∷ steps.Take server
    ∷ steps.Collect server
    ∷ steps.Call server (calls.Store 0 (replicate 512 7))
    ∷ steps.Call server (calls.Store 512 (replicate 512 8))
    ∷ steps.Call server (calls.MoveTo client 16 0 513)
    ∷ steps.Call server (calls.Reply (reply_of 0 0 513) client)
    ∷ steps.Finish client
    ∷ steps.Collect client
    ∷ []

-- the server's calls are those of its task
first_block : file_call blocks 1 telling (answers_before processes loading server 4) ≡ Some (calls.Store 0 (replicate 512 7))
unfolding up_to run processes server client blocks telling loading entries_in put_process put_exchange queue_of held held_up_to call_refusal
    sent taking taken finishing collecting copied_at_once
first_block = refl

then_moved : file_call blocks 1 telling (answers_before processes loading server 6) ≡ Some (calls.MoveTo client 16 0 513)
unfolding up_to run processes server client blocks telling loading entries_in put_process put_exchange queue_of held held_up_to call_refusal
    sent taking taken finishing collecting copied_at_once
then_moved = refl

then_replied : file_call blocks 1 telling (answers_before processes loading server 7) ≡ Some (calls.Reply (reply_of 0 0 513) client)
unfolding up_to run processes server client blocks telling loading entries_in put_process put_exchange queue_of held held_up_to call_refusal
    sent taking taken finishing collecting copied_at_once
then_replied = refl

-- and the client has the file when it collects, as it stands on the disk at the reply
has_it : option_map (λ (p : Process). bytes_in (range_of 16 513) p.memory) (process_at processes loading 9 client) ≡
    Some (file_bytes (disk_before blocks 1 telling processes loading server 7) (record { number = 0; start = 1; blocks = 2; length = 513 }))
unfolding up_to run processes server client blocks telling loading entries_in blocks_from put_process put_exchange queue_of held held_up_to
    call_refusal sent taking taken finishing collecting copied_at_once
has_it = refl

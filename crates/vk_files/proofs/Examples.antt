-- The definitions, tried: directories, a page that is read ahead of a disk that fails, and a file that is loaded.
use Rattle.std.proofs.Common.{◌≡◌, ℕ, zero, suc, List, [], ◌∷◌, ◌++◌, Option, Some, None, replicate, refl, lit<}
use Rattle.std.specs.Int.{w32, to_be_bytes}
use Rattle.vk_types.specs.Types.{Answer, Call, Message, Pid}
use Rattle.vk_base.specs.declared.answer.Answer.TheVariants as answers
use Rattle.vk_base.specs.declared.answer.Refusal.TheVariants as refusals
use Rattle.vk_base.specs.declared.call.Call.TheVariants as calls
use Rattle.vk_files.specs.Loaders.{loader_name}
use Rattle.vk_files.specs.Messages.{load_of, open_of, page_request, reply_of}
use Rattle.vk_files.specs.Tasks.{file_call, telling_of}
use Rattle.vk_files.specs.Volumes.{entries_in, files_of, first_bad}
use Rattle.vk_files.specs.declared.disk.Telling.{Telling}
use Rattle.vk_files.specs.declared.disk.Telling.TheVariants.{Done, Lost, Landed}
use Rattle.vk_files.specs.declared.entry.Entry.{Entry}

-- an entry of one letter, and one of zeros
unfoldable lettered : ℕ → ℕ → ℕ → ℕ → Entry
lettered letter start blocks length = record { name = letter ∷ replicate 19 0; start = start; blocks = blocks; length = length }

unfoldable free : Entry
free = lettered 0 0 0 0

-- two files, one of them empty, with a free entry in between
fine : first_bad 8 (lettered 97 1 2 1000 ∷ free ∷ lettered 98 3 5 2560 ∷ lettered 99 900 0 0 ∷ []) ≡ None
unfolding lettered free
fine = refl

-- an entry that meets an earlier one, with its place
meeting : first_bad 8 (lettered 97 1 2 1000 ∷ free ∷ lettered 98 2 1 512 ∷ lettered 0 1 0 0 ∷ []) ≡ Some 2
unfolding lettered free
meeting = refl

-- one with an earlier one's name, one in block 0, one that ends behind the disk, one with a block too many, one that is too long
same_name : first_bad 8 (lettered 97 1 2 1000 ∷ lettered 97 3 1 1 ∷ []) ≡ Some 1
unfolding lettered
same_name = refl

in_the_directory : first_bad 8 (lettered 97 0 1 1 ∷ []) ≡ Some 0
unfolding lettered
in_the_directory = refl

behind_the_disk : first_bad 8 (lettered 97 7 2 1000 ∷ []) ≡ Some 0
unfolding lettered
behind_the_disk = refl

a_block_too_many : first_bad 8 (lettered 97 1 2 512 ∷ []) ≡ Some 0
unfolding lettered
a_block_too_many = refl

too_long : first_bad 900 (lettered 97 1 129 65537 ∷ []) ≡ Some 0
unfolding lettered
too_long = refl

-- no name, and one with a zero in between
nameless : first_bad 8 (lettered 0 1 1 1 ∷ []) ≡ Some 0
unfolding lettered
nameless = refl

broken_name : first_bad 8 (record { name = 97 ∷ 0 ∷ 98 ∷ replicate 17 0; start = 1; blocks = 1; length = 1 } ∷ []) ≡ Some 0
broken_name = refl

-- A disk of three blocks with one file, a, of two of them.
unfoldable directory : List ℕ
directory = 97 ∷ replicate 19 0 ++ to_be_bytes w32 1 ++ to_be_bytes w32 2 ++ to_be_bytes w32 1000 ++ replicate 480 0

unfoldable disk : List (List ℕ)
disk = directory ∷ replicate 512 5 ∷ replicate 512 6 ∷ []

read_back : files_of disk ≡ lettered 97 1 2 1000 ∷ replicate 15 free
unfolding directory disk entries_in lettered free
read_back = refl

unfoldable client : Pid
client = record { host = 2; local = 1; some_host = lit< tt; one_host = lit< tt; some_local = lit< tt }

unfoldable asked : Message → Answer
asked m = answers.ReceivedSegment client m 0

-- what a server of so many requests calls after these answers, where its disk tells this
unfoldable calls_after : List Telling → List Answer → Option Call
calls_after plan given = file_call disk 9 (telling_of disk 9 (Some plan)) given

-- The third and the fourth call of the disk fail: the first reads the directory, the second page 0, the third page 1 ahead, unseen.
unfoldable plan : List Telling
plan = Done ∷ Done ∷ Lost ∷ Lost ∷ []

unfoldable read : ℕ → Answer
read page = asked (page_request 2 4 0 page 7 512)

page_0 : calls_after plan (read 0 ∷ []) ≡ Some (calls.Store 0 (replicate 512 5))
unfolding asked calls_after client directory disk entries_in plan read
page_0 = refl

reply_0 : calls_after plan (read 0 ∷ answers.Ok ∷ []) ≡ Some (calls.ReplySegment (reply_of 0 0 0) client 7 0 512)
unfolding asked calls_after client directory disk entries_in plan read
reply_0 = refl

unseen : calls_after plan (read 0 ∷ answers.Ok ∷ answers.Ok ∷ []) ≡ Some (calls.ReceiveSegment 0 512)
unfolding asked calls_after client directory disk entries_in plan read
unseen = refl

-- so page 1 is the fourth, and fails
failed : calls_after plan (read 0 ∷ answers.Ok ∷ answers.Ok ∷ read 1 ∷ []) ≡ Some (calls.Reply (reply_of 3 0 0) client)
unfolding asked calls_after client directory disk entries_in plan read
failed = refl

-- and the next time it is there
page_1 : calls_after plan (read 0 ∷ answers.Ok ∷ answers.Ok ∷ read 1 ∷ answers.Ok ∷ read 1 ∷ []) ≡ Some (calls.Store 0 (replicate 512 6))
unfolding asked calls_after client directory disk entries_in plan read
page_1 = refl

-- where the third call is done, page 1 wants no fourth
from_ahead : calls_after (Done ∷ Done ∷ Done ∷ Lost ∷ []) (read 0 ∷ answers.Ok ∷ answers.Ok ∷ read 1 ∷ [])
    ≡ Some (calls.Store 0 (replicate 512 6))
unfolding asked calls_after client directory disk entries_in read
from_ahead = refl

-- a write of page 1, here the fourth call, which fails and is made all the same: what was read ahead counts no more
unfoldable write : List Answer
write = asked (page_request 1 5 0 1 7 512) ∷ answers.Loaded (replicate 512 9) ∷ []

stale : calls_after (Done ∷ Done ∷ Done ∷ Landed ∷ []) (read 0 ∷ answers.Ok ∷ answers.Ok ∷ write ++ answers.Ok ∷ read 1 ∷ [])
    ≡ Some (calls.Store 0 (replicate 512 9))
unfolding asked calls_after client directory disk entries_in read write
stale = refl

-- The file is opened and loaded: its two blocks, the move, and the reply.
opened : calls_after [] (asked (open_of (97 ∷ replicate 19 0)) ∷ []) ≡ Some (calls.Reply (reply_of 0 0 1000) client)
unfolding asked calls_after client directory disk entries_in
opened = refl

unfoldable load : List Answer
load = asked (load_of 0 7 1000) ∷ []

first_part : calls_after [] load ≡ Some (calls.Store 0 (replicate 512 5))
unfolding asked calls_after client directory disk entries_in load
first_part = refl

second_part : calls_after [] (load ++ answers.Ok ∷ []) ≡ Some (calls.Store 512 (replicate 512 6))
unfolding asked calls_after client directory disk entries_in load
second_part = refl

move : calls_after [] (load ++ replicate 2 answers.Ok) ≡ Some (calls.MoveTo client 7 0 1000)
unfolding asked calls_after client directory disk entries_in load
move = refl

loaded : calls_after [] (load ++ replicate 3 answers.Ok) ≡ Some (calls.Reply (reply_of 0 0 1000) client)
unfolding asked calls_after client directory disk entries_in load
loaded = refl

gone : calls_after [] (load ++ replicate 2 answers.Ok ++ answers.Refused refusals.Gone ∷ []) ≡ Some (calls.Reply (reply_of 4 0 0) client)
unfolding asked calls_after client directory disk entries_in load
gone = refl

-- a segment that is too short, a page and a file that are not there
short : calls_after [] (asked (load_of 0 7 999) ∷ []) ≡ Some (calls.Reply (reply_of 2 0 0) client)
unfolding asked calls_after client directory disk entries_in
short = refl

no_such_page : calls_after [] (asked (page_request 2 4 0 2 7 512) ∷ []) ≡ Some (calls.Reply (reply_of 1 0 0) client)
unfolding asked calls_after client directory disk entries_in
no_such_page = refl

no_such_file : calls_after [] (asked (load_of 1 7 1000) ∷ []) ≡ Some (calls.Reply (reply_of 1 0 0) client)
unfolding asked calls_after client directory disk entries_in
no_such_file = refl

-- A loader's names, and what it is told of a file of 65,536 bytes.
first_name : loader_name 0 ≡ 102 ∷ 48 ∷ replicate 18 0
first_name = refl

last_name : loader_name 15 ≡ 102 ∷ 49 ∷ 53 ∷ replicate 17 0
last_name = refl

whole : (reply_of 0 0 65536).0 ≡ replicate 9 0 ++ 1 ∷ replicate 22 0
whole = refl

-- A file of 65,536 bytes behind its directory, block k all of k: its last two blocks are stored, and all of it is moved.
unfoldable numbered : ℕ → List (List ℕ)
numbered zero = []
numbered (suc k) = numbered k ++ replicate 512 k ∷ []

unfoldable image : List (List ℕ)
image = (102 ∷ 48 ∷ replicate 18 0 ++ to_be_bytes w32 1 ++ to_be_bytes w32 128 ++ to_be_bytes w32 65536 ++ replicate 480 0) ∷ numbered 128

unfoldable calls_of_image : List Answer → Option Call
calls_of_image given = file_call image 2 (telling_of image 2 None) (asked (load_of 0 0 65536) ∷ given)

last_but_one : calls_of_image (replicate 126 answers.Ok) ≡ Some (calls.Store 64512 (replicate 512 126))
unfolding asked calls_of_image client entries_in image numbered
last_but_one = refl

last : calls_of_image (replicate 127 answers.Ok) ≡ Some (calls.Store 65024 (replicate 512 127))
unfolding asked calls_of_image client entries_in image numbered
last = refl

all_of_it : calls_of_image (replicate 128 answers.Ok) ≡ Some (calls.MoveTo client 0 0 65536)
unfolding asked calls_of_image client entries_in image numbered
all_of_it = refl

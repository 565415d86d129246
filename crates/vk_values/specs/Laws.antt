-- What the clients of the server can rely on.
use Rattle.std.specs.Prelude.{◌≡◌, ℕ, Bool, true, not, ◌==◌, ◌&&◌, List, [], ◌∷◌, ◌++◌}
use Rattle.std.specs.List.{list_all}
use Rattle.vk_types.specs.Types.{Message}
use Rattle.vk_values.specs.declared.limits.TheConstants.{DONE, GET, PUT, UNKNOWN}
use Rattle.vk_values.specs.Requests.{code_of, kept, key_of, message_of, replied_to, value_in}
use Rattle.vk_values.specs.Tables.{has_room}

-- a request that puts something under this key
abbrev pub puts_under : ℕ → Message → Bool
puts_under key m = code_of m == PUT && key_of m == key

-- none of these does
abbrev pub leave : ℕ → List Message → Bool
leave key requests = list_all (λ m. not (puts_under key m)) requests

-- a put for which there is room gives its value to each get of its key, up to the next put of that key
abbrev pub GetsGiveWhatWasPutLast : Type 0
GetsGiveWhatWasPutLast = (before behind : List Message) (put get : Message) →
    code_of put ≡ PUT → has_room (kept [] before) (key_of put) ≡ true → leave (key_of put) behind ≡ true →
    code_of get ≡ GET → key_of get ≡ key_of put →
    replied_to (kept [] (before ++ put ∷ behind)) get ≡ message_of DONE (key_of put) (value_in put)

-- a get of a key under which nothing was put is refused
abbrev pub UnknownKeysAreRefused : Type 0
UnknownKeysAreRefused = (requests : List Message) (get : Message) → leave (key_of get) requests ≡ true →
    code_of get ≡ GET → replied_to (kept [] requests) get ≡ message_of UNKNOWN (key_of get) 0

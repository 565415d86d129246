-- Which words spell stations.
use Rattle.std.proofs.Common.{◌≡◌, ℕ, nat_lt, if◌then◌else◌, List, Some, None, refl}
use Rattle.vk_base.specs.Options.{◌>>=◌}
use Rattle.vk_text.specs.Words.{number_of, positive_of, station_of}

-- a station is a number that is not 0
pub positive_station : (word : List ℕ) → station_of word ≡ (number_of 65534 word >>= λ n. if nat_lt 0 n then Some n else None)
unfolding positive_of
positive_station word = refl

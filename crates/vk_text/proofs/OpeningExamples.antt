-- Openings, tried: bad times are in line 2; a pool of another station, out of its range or out of order is left to the body.
use Rattle.std.proofs.Common.{◌≡◌, ℕ, List, [], ◌∷◌, codes, length, Ok, Err, Result, refl}
use Rattle.vk_base.specs.Settings.{Settings}
use Rattle.vk_text.specs.Heads.{process_of, processes_from, with_line}
use Rattle.vk_text.specs.Lines.{words_from}
use Rattle.vk_text.specs.Openings.{first_pool, opening_of, pool_fields_of, pool_line_of, pools_from, times_fields_of, times_of}
use Rattle.vk_text.specs.Words.{number_of, positive_of}

abbrev plain : List ℕ
plain = codes "vkernel 1"

abbrev timed : List ℕ
timed = codes "vkernel 2"

abbrev Found : Type 0
Found = Result (Settings × List (List ℕ)) ℕ

-- the pools, or the number of the bad line; and how many lines are left
abbrev seen : Found → Result (List ℕ × ℕ) ℕ
seen (Ok found) = Ok (found.0.pools, length found.1)
seen (Err n) = Err n

abbrev opened : List (List ℕ) → Result (List ℕ × ℕ) ℕ
opened lines = seen (opening_of plain timed lines)

no_text : opened [] ≡ Err 1
unfolding opening_of
no_text = refl

no_times : opened (timed ∷ []) ≡ Err 2
unfolding opening_of
no_times = refl

no_tries : opened (timed ∷ codes "times 0 4 8" ∷ []) ≡ Err 2
unfolding opening_of times_of times_fields_of positive_of number_of words_from
no_tries = refl

too_many_tries : opened (timed ∷ codes "times 17 4 8" ∷ []) ≡ Err 2
unfolding opening_of times_of times_fields_of positive_of number_of words_from
too_many_tries = refl

too_rare : opened (timed ∷ codes "times 5 65 8" ∷ []) ≡ Err 2
unfolding opening_of times_of times_fields_of positive_of number_of words_from
too_rare = refl

too_long : opened (timed ∷ codes "times 5 4 1025" ∷ []) ≡ Err 2
unfolding opening_of times_of times_fields_of positive_of number_of words_from
too_long = refl

the_most : opened (timed ∷ codes "times 16 64 1024" ∷ []) ≡ Ok ([], 0)
unfolding opening_of times_of times_fields_of positive_of number_of words_from processes_from pools_from
the_most = refl

-- the pools of stations 1 and 3, and how many lines are left
abbrev pools : List (List ℕ) → List ℕ × ℕ
pools lines = let found = pools_from (1 ∷ 3 ∷ []) lines in (found.0, length found.1)

usual : pools ([]) ≡ (16 ∷ 16 ∷ [], 0)
unfolding pools_from first_pool pool_line_of pool_fields_of positive_of number_of words_from
usual = refl

second_alone : pools (codes "pool 3 1" ∷ []) ≡ (16 ∷ 1 ∷ [], 0)
unfolding pools_from first_pool pool_line_of pool_fields_of positive_of number_of words_from
second_alone = refl

both : pools (codes "pool 1 16" ∷ codes "pool 3 64" ∷ codes "tick 1" ∷ []) ≡ (16 ∷ 64 ∷ [], 1)
unfolding pools_from first_pool pool_line_of pool_fields_of positive_of number_of words_from
both = refl

falling : pools (codes "pool 3 2" ∷ codes "pool 1 2" ∷ []) ≡ (16 ∷ 2 ∷ [], 1)
unfolding pools_from first_pool pool_line_of pool_fields_of positive_of number_of words_from
falling = refl

twice : pools (codes "pool 1 2" ∷ codes "pool 1 2" ∷ []) ≡ (2 ∷ 16 ∷ [], 1)
unfolding pools_from first_pool pool_line_of pool_fields_of positive_of number_of words_from
twice = refl

too_large : pools (codes "pool 1 65" ∷ []) ≡ (16 ∷ 16 ∷ [], 1)
unfolding pools_from first_pool pool_line_of pool_fields_of positive_of number_of words_from
too_large = refl

none_at_all : pools (codes "pool 1 0" ∷ []) ≡ (16 ∷ 16 ∷ [], 1)
unfolding pools_from first_pool pool_line_of pool_fields_of positive_of number_of words_from
none_at_all = refl

no_station : pools (codes "pool 9 4" ∷ []) ≡ (16 ∷ 16 ∷ [], 1)
unfolding pools_from first_pool pool_line_of pool_fields_of positive_of number_of words_from
no_station = refl

-- format 1 has no times
in_format_1 : opened (plain ∷ codes "times 5 4 8" ∷ []) ≡ Ok ([], 1)
unfolding opening_of processes_from with_line process_of words_from
in_format_1 = refl

-- Lines, heads and openings of a text that is read piece by piece: what stands behind a line feed begins a line, and what stands behind the
-- lines that a head or an opening leaves does not matter to it, where it leaves one.
use Rattle.std.proofs.Common.{◌≡◌, ℕ, ◌<◌, ◌==◌, Bool, true, false, cond, List, [], ◌∷◌, ◌++◌, length, drop, bytes_eq, Option, Some, None, option_map, Result, Ok, Err, refl, sym, ap, ◌∙◌, arith}
use Rattle.std.specs.List.{onto_first}
use Rattle.std.specs.Option.{option_map_or}
use Rattle.std.proofs.lemmas.List.{length-append, length-drop}
use Rattle.vk_types.specs.Types.{ProcessSpec, Times}
use Rattle.vk_base.specs.Settings.{Settings, stations_of}
use Rattle.vk_base.specs.Options.{◌>>=◌}
use Rattle.vk_text.specs.Heads.{processes_from, settings_of, usual_pool, with_line}
use Rattle.vk_text.specs.Lines.{lines_of, words_from}
use Rattle.vk_text.specs.Openings.{behind_pool, first_pool, if_of, opening_of, plain_opening, pool_line_of, pools_from, timed_opening, times_of, with_pools}

-- Lines.

onto_more : (b : ℕ) (ls ms : List (List ℕ)) → 0 < length ls → onto_first b (ls ++ ms) ≡ onto_first b ls ++ ms
onto_more b [] ms some = absurd (omega arith)
onto_more b (l ∷ ls) ms some = refl

by_feed : (feed : Bool) (b : ℕ) (ls ms : List (List ℕ)) → 0 < length ls
    → cond feed ([] ∷ (ls ++ ms)) (onto_first b (ls ++ ms)) ≡ cond feed ([] ∷ ls) (onto_first b ls) ++ ms
by_feed true b ls ms some = refl
by_feed false b ls ms some = onto_more b ls ms some

onto_some : (b : ℕ) (ls : List (List ℕ)) → 0 < length (onto_first b ls)
onto_some b [] = omega arith
onto_some b (l ∷ ls) = omega arith

some_by_feed : (feed : Bool) (b : ℕ) (ls : List (List ℕ)) → 0 < length (cond feed ([] ∷ ls) (onto_first b ls))
some_by_feed true b ls = omega arith
some_by_feed false b ls = onto_some b ls

-- a text that is not empty has a line
text_has_line : (text : List ℕ) → 0 < length text → 0 < length (lines_of text)
unfolding lines_of
text_has_line [] some = absurd (omega arith)
text_has_line (b ∷ bs) some = some_by_feed (b == 10) b (lines_of bs)

pub some_line : (piece : List ℕ) (at : ℕ) → at < length piece → 0 < length (lines_of (drop at piece))
some_line piece at there = text_has_line (drop at piece) (omega (arith, length-drop at piece, there))

-- what stands behind a line feed begins a line
pub lines_append : (front more : List ℕ) → lines_of ((front ++ 10 ∷ []) ++ more) ≡ lines_of (front ++ 10 ∷ []) ++ lines_of more
unfolding lines_of
lines_append [] more = refl
lines_append (b ∷ bs) more =
    let some = text_has_line (bs ++ 10 ∷ []) (omega (arith, length-append bs (10 ∷ []))) in
    ap (λ (ls : List (List ℕ)). cond (b == 10) ([] ∷ ls) (onto_first b ls)) (lines_append bs more)
    ∙ by_feed (b == 10) b (lines_of (bs ++ 10 ∷ [])) (lines_of more) some

pub piece_append : (piece front more : List ℕ) → piece ≡ front ++ 10 ∷ [] → lines_of (piece ++ more) ≡ lines_of piece ++ lines_of more
piece_append piece front more ends =
    ap (λ (p : List ℕ). lines_of (p ++ more)) ends ∙ lines_append front more ∙ ap (λ (p : List ℕ). lines_of p ++ lines_of more) (sym ends)

-- Openings. What stands behind the lines that an opening leaves does not matter to it, where it leaves one.

abbrev pub and_more : {A : Type 0} → A × List (List ℕ) → List (List ℕ) → A × List (List ℕ)
and_more found ms = (found.0, found.1 ++ ms)

by_process : (o : Option (List ProcessSpec)) (specs : List ProcessSpec) (l : List ℕ) (ls ms : List (List ℕ))
    → ((more : List ProcessSpec) → 0 < length (processes_from more ls).1 → processes_from more (ls ++ ms) ≡ and_more (processes_from more ls) ms)
    → 0 < length (option_map_or (λ more. processes_from more ls) o (specs, l ∷ ls)).1
    → option_map_or (λ more. processes_from more (ls ++ ms)) o (specs, l ∷ (ls ++ ms))
    ≡ and_more (option_map_or (λ more. processes_from more ls) o (specs, l ∷ ls)) ms
by_process None specs l ls ms after some = refl
by_process (Some more) specs l ls ms after some = after more some

pub processes_more : (specs : List ProcessSpec) (ls ms : List (List ℕ)) → 0 < length (processes_from specs ls).1
    → processes_from specs (ls ++ ms) ≡ and_more (processes_from specs ls) ms
unfolding processes_from
processes_more specs [] ms some = absurd (omega arith)
processes_more specs (l ∷ ls) ms some =
    by_process (with_line specs l) specs l ls ms (λ more left. processes_more more ls ms left) some

-- no pool is told where no line is
none_behind_none : (hosts : List ℕ) → (pools_from hosts []).1 ≡ []
unfolding pools_from first_pool
none_behind_none [] = refl
none_behind_none (h ∷ hs) = none_behind_none hs

some_before : (hosts : List ℕ) (ls : List (List ℕ)) → 0 < length (pools_from hosts ls).1 → 0 < length ls
some_before hosts [] some = absurd (omega (arith, some, ap length (none_behind_none hosts)))
some_before hosts (l ∷ ls) some = omega arith

first_by : (q : Option ℕ) (ls ms : List (List ℕ))
    → (q >>= λ pool. Some (pool, ls ++ ms)) ≡ option_map (λ (told : ℕ × List (List ℕ)). and_more told ms) (q >>= λ pool. Some (pool, ls))
first_by None ls ms = refl
first_by (Some pool) ls ms = refl

first_of : (o : Option (ℕ × ℕ)) (host : ℕ) (ls ms : List (List ℕ))
    → (o >>= λ told. if_of host told >>= λ pool. Some (pool, ls ++ ms))
    ≡ option_map (λ (told : ℕ × List (List ℕ)). and_more told ms) (o >>= λ told. if_of host told >>= λ pool. Some (pool, ls))
first_of None host ls ms = refl
first_of (Some told) host ls ms = first_by (if_of host told) ls ms

first_more : (host : ℕ) (ls ms : List (List ℕ)) → 0 < length ls
    → first_pool host (ls ++ ms) ≡ option_map (λ (told : ℕ × List (List ℕ)). and_more told ms) (first_pool host ls)
unfolding first_pool
first_more host [] ms some = absurd (omega arith)
first_more host (l ∷ ls) ms some = first_of (pool_line_of (words_from l 0)) host ls ms

-- the pools of these stations behind that of another, which the first line may tell
abbrev pools_by : List ℕ → Option (ℕ × List (List ℕ)) → List (List ℕ) → List ℕ × List (List ℕ)
pools_by hs first ls = option_map_or (λ told. behind_pool told.0 (pools_from hs told.1)) first (behind_pool usual_pool (pools_from hs ls))

by_pool : (o : Option (ℕ × List (List ℕ))) (hs : List ℕ) (ls ms : List (List ℕ))
    → ((left : List (List ℕ)) → 0 < length (pools_from hs left).1 → pools_from hs (left ++ ms) ≡ and_more (pools_from hs left) ms)
    → 0 < length (pools_by hs o ls).1
    → pools_by hs (option_map (λ (told : ℕ × List (List ℕ)). and_more told ms) o) (ls ++ ms) ≡ and_more (pools_by hs o ls) ms
by_pool None hs ls ms after some = ap (behind_pool usual_pool) (after ls some)
by_pool (Some told) hs ls ms after some = ap (behind_pool told.0) (after told.1 some)

pools_more : (hosts : List ℕ) (ls ms : List (List ℕ)) → 0 < length (pools_from hosts ls).1
    → pools_from hosts (ls ++ ms) ≡ and_more (pools_from hosts ls) ms
unfolding pools_from
pools_more [] ls ms some = refl
pools_more (h ∷ hs) ls ms some =
    ap (λ o. pools_by hs o (ls ++ ms)) (first_more h ls ms (some_before (h ∷ hs) ls some))
    ∙ by_pool (first_pool h ls) hs ls ms (λ left more. pools_more hs left ms more) some

with_pools_more : (t : Times) (found : List ProcessSpec × List (List ℕ)) (ms : List (List ℕ)) → 0 < length (with_pools t found).1
    → with_pools t (and_more found ms) ≡ and_more (with_pools t found) ms
with_pools_more t found ms some =
    ap (λ (pools : List ℕ × List (List ℕ)). let c : Settings = record { times = t; pools = pools.0; specs = found.0 } in (c, pools.1))
    (pools_more (stations_of found.0) found.1 ms some)

-- an opening that leaves a line
abbrev pub Leaves : Result (Settings × List (List ℕ)) ℕ → Type 0
Leaves (Ok found) = 0 < length found.1
Leaves (Err n) = ⊥

abbrev pub found_more : Result (Settings × List (List ℕ)) ℕ → List (List ℕ) → Result (Settings × List (List ℕ)) ℕ
found_more (Ok found) ms = Ok (and_more found ms)
found_more (Err n) ms = Err n

plain_more : (ls ms : List (List ℕ)) → Leaves (Ok (plain_opening ls)) → Ok (plain_opening (ls ++ ms)) ≡ found_more (Ok (plain_opening ls)) ms
plain_more ls ms some =
    ap (λ (found : List ProcessSpec × List (List ℕ)).
    let r : Result (Settings × List (List ℕ)) ℕ = Ok (settings_of found.0, found.1) in r) (processes_more [] ls ms some)

by_times : (o : Option Times) (ls ms : List (List ℕ))
    → Leaves (option_map_or (λ t. Ok (with_pools t (processes_from [] ls))) o (Err 2))
    → option_map_or (λ t. Ok (with_pools t (processes_from [] (ls ++ ms)))) o (Err 2)
    ≡ found_more (option_map_or (λ t. Ok (with_pools t (processes_from [] ls))) o (Err 2)) ms
by_times None ls ms some = absurd some
by_times (Some t) ls ms some =
    let found : List ProcessSpec × List (List ℕ) = processes_from [] ls in
    ap (λ (f : List ProcessSpec × List (List ℕ)). let r : Result (Settings × List (List ℕ)) ℕ = Ok (with_pools t f) in r)
    (processes_more [] ls ms (some_before (stations_of found.0) found.1 some))
    ∙ ap (λ (f : Settings × List (List ℕ)). let r : Result (Settings × List (List ℕ)) ℕ = Ok f in r) (with_pools_more t found ms some)

timed_more : (ls ms : List (List ℕ)) → Leaves (timed_opening ls) → timed_opening (ls ++ ms) ≡ found_more (timed_opening ls) ms
timed_more [] ms some = absurd some
timed_more (l ∷ ls) ms some = by_times (times_of (words_from l 0)) ls ms some

by_title : (plain timed : Bool) (ls ms : List (List ℕ))
    → Leaves (cond plain (Ok (plain_opening ls)) (cond timed (timed_opening ls) (Err 1)))
    → cond plain (Ok (plain_opening (ls ++ ms))) (cond timed (timed_opening (ls ++ ms)) (Err 1))
    ≡ found_more (cond plain (Ok (plain_opening ls)) (cond timed (timed_opening ls) (Err 1))) ms
by_title true timed ls ms some = plain_more ls ms some
by_title false true ls ms some = timed_more ls ms some
by_title false false ls ms some = absurd some

pub opening_more : (plain timed : List ℕ) (ls ms : List (List ℕ)) → Leaves (opening_of plain timed ls)
    → opening_of plain timed (ls ++ ms) ≡ found_more (opening_of plain timed ls) ms
unfolding opening_of
opening_more plain timed [] ms some = absurd some
opening_more plain timed (l ∷ ls) ms some = by_title (bytes_eq l plain) (bytes_eq l timed) ls ms some

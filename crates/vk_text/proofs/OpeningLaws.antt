-- Openings: what is written is read again, and what is read is what is written.
use Rattle.std.proofs.Common.{◌≡◌, ℕ, ◌==◌, ◌&&◌, inl, inr, Bool, true, false, cond, List, [], ◌∷◌, ◌++◌, map, bytes_eq, Option, Some, None, Result, Ok, Err, refl, ap, sym, subst, ◌∙◌, append_assoc}
use Rattle.std.specs.List.{AllByRecursion, list_all}
use Rattle.std.specs.Option.{option_map_or}
use Rattle.std.proofs.lemmas.Bool.{and_parts, eqb-true}
use Rattle.std.proofs.lemmas.Slice.Eq.{bytes_eq-Decides}
use Rattle.vk_types.specs.Types.{Times}
use Rattle.vk_base.specs.Settings.{AreLawful, Settings, pool_of, stations_of}
use Rattle.vk_base.proofs.Pools.{uniform_lawful}
use Rattle.vk_text.specs.Heads.{HasNoFeed, process_text, processes_from, settings_of, usual_pool, usual_times, BeginsWithNoProcess}
use Rattle.vk_text.specs.Lines.{words_from}
use Rattle.vk_text.specs.Openings.{BeginsNoHead, IsOpening, IsTellable, OpeningsAreSpelled, OpeningsAreWritten, OpeningsHaveNoFeed, OpeningsReadBack, TellPools, is_usual, opening_of, plain_opening, pools_from, same_times, timed_lines, timed_opening, times_of, times_text, with_pools}
use Rattle.vk_text.proofs.HeadRanges.{processes_fit}
use Rattle.vk_text.proofs.HeadReading.{Parts}
use Rattle.vk_text.proofs.HeadTexts.{processes_back, processes_no_feed, processes_spelled}
use Rattle.vk_text.proofs.OpeningPools.{all_usual, pools_lawful, pools_begin, pools_no_feed, pools_read, pools_told, pools_within, pools_written, stations_apart, stations_numbers}
use Rattle.vk_text.proofs.OpeningWords.{times_line, times_no_feed, times_read}
use Rattle.vk_text.proofs.Spelled.{either_word}

abbrev Opened : Type 0
Opened = Settings × List (List ℕ)

-- What is read.

-- an opening of this configuration, and the lines behind it
record IsSplit (plain timed : List ℕ) (lines : List (List ℕ)) (found : Opened) : Type 0 where
  told : IsTellable found.0
  front : List (List ℕ)
  is : IsOpening plain timed found.0 front
  whole : lines ≡ front ++ found.1

plain_split : (plain timed : List ℕ) (ls : List (List ℕ)) → IsSplit plain timed (plain ∷ ls) (plain_opening ls)
plain_split plain timed ls =
    let found = processes_from [] ls in
    let fits = processes_fit ls in record {
      told = record { lawful = uniform_lawful usual_times usual_pool found.0 fits.1; pids = fits.0 };
      front = plain ∷ map process_text found.0;
      is = inl (refl, refl);
      whole = ap (λ l. plain ∷ l) (processes_spelled [] ls found refl);
    }

pooled_split : (plain timed : List ℕ) (line : List ℕ) (ls : List (List ℕ)) (t : Times) → times_of (words_from line 0) ≡ Some t →
    IsSplit plain timed (timed ∷ line ∷ ls) (with_pools t (processes_from [] ls))
pooled_split plain timed line ls t is =
    let found = processes_from [] ls in
    let fits = processes_fit ls in
    let pools = pools_told (stations_of found.0) found.1 in
    let times = times_line line t is in record {
      told = record {
        lawful = record {
          times = times.1;
          one_each = pools.long;
          pools = pools_lawful _ pools.fits;
          processes = fits.1;
        };
        pids = fits.0;
      };
      front = timed ∷ times_text t ∷ (map process_text found.0 ++ pools.told);
      is = inr (pools.told, pools.tell, refl);
      whole = ap (λ l. timed ∷ l ∷ ls) times.0
          ∙ ap (λ l. timed ∷ times_text t ∷ l)
          (processes_spelled [] ls found refl ∙ ap (λ l. map process_text found.0 ++ l) pools.whole
          ∙ sym (append_assoc (map process_text found.0) pools.told (pools_from (stations_of found.0) found.1).1));
    }

same_ok : (a b : Opened) → ◌≡◌ {A = Result Opened ℕ} (Ok a) (Ok b) → a ≡ b
same_ok a b h = cc

timed_by : (plain timed line : List ℕ) (ls : List (List ℕ)) (o : Option Times) (found : Opened) → times_of (words_from line 0) ≡ o →
    ◌≡◌ {A = Result Opened ℕ} (option_map_or (λ t. Ok (with_pools t (processes_from [] ls))) o (Err 2)) (Ok found) →
    IsSplit plain timed (timed ∷ line ∷ ls) found
timed_by plain timed line ls None found is h = cc
timed_by plain timed line ls (Some t) found is h =
    subst (IsSplit plain timed (timed ∷ line ∷ ls)) (same_ok _ found h) (pooled_split plain timed line ls t is)

timed_split : (plain timed : List ℕ) (ls : List (List ℕ)) (found : Opened) → timed_opening ls ≡ Ok found →
    IsSplit plain timed (timed ∷ ls) found
timed_split plain timed [] found h = cc
timed_split plain timed (l ∷ ls) found h = timed_by plain timed l ls (times_of (words_from l 0)) found refl h

split : (plain timed : List ℕ) (lines : List (List ℕ)) (found : Opened) → opening_of plain timed lines ≡ Ok found →
    IsSplit plain timed lines found
unfolding opening_of
split plain timed [] found h = cc
split plain timed (l ∷ ls) found h =
    either_word (IsSplit plain timed (l ∷ ls) found) l plain _ _ (Ok found)
    (λ e f. subst (λ t. IsSplit plain timed (t ∷ ls) found) (sym e)
    (subst (IsSplit plain timed (plain ∷ ls)) (same_ok _ found f) (plain_split plain timed ls)))
    (either_word (IsSplit plain timed (l ∷ ls) found) l timed _ _ (Ok found)
    (λ e f. subst (λ t. IsSplit plain timed (t ∷ ls) found) (sym e) (timed_split plain timed ls found f)) (λ none. cc))
    h

pub openings_spelled : OpeningsAreSpelled
openings_spelled plain timed lines body c h =
    let all = split plain timed lines (c, body) h in
    (all.told, (all.front, all.is, all.whole))

-- What is written.

own_title : (title : List ℕ) → bytes_eq title title ≡ true
own_title title = (bytes_eq-Decides title title).1 refl

pub both_plain : (a b : List (List ℕ)) → AllByRecursion HasNoFeed a → AllByRecursion HasNoFeed b → AllByRecursion HasNoFeed (a ++ b)
both_plain [] b h k = k
both_plain (l ∷ ls) b h k = (h.0, both_plain ls b h.1 k)

begins_no_process : (body : List (List ℕ)) → BeginsNoHead body → BeginsWithNoProcess body
begins_no_process [] none = tt
begins_no_process (l ∷ ls) none = none.0

plain_back : (plain timed : List ℕ) (c : Settings) (body : List (List ℕ)) → IsTellable c → c ≡ settings_of c.specs → BeginsNoHead body →
    opening_of plain timed (plain ∷ (map process_text c.specs ++ body)) ≡ Ok (c, body)
unfolding opening_of
plain_back plain timed c body told usual none =
    let lines : List (List ℕ) = map process_text c.specs ++ body in
    let back = processes_back [] c.specs body told.pids told.lawful.processes (begins_no_process body none) in
    ap (λ b. cond b (Ok (plain_opening lines)) (cond (bytes_eq plain timed) (timed_opening lines) (Err 1))) (own_title plain)
    ∙ ap (λ (found : Parts). Ok (settings_of found.0, found.1)) back
    ∙ ap (λ (d : Settings). Ok (d, body)) (sym usual)

timed_back : (plain timed : List ℕ) (c : Settings) (pools body : List (List ℕ)) → bytes_eq timed plain ≡ false → IsTellable c →
    TellPools (stations_of c.specs) c.pools pools → BeginsNoHead body →
    opening_of plain timed (timed ∷ times_text c.times ∷ (map process_text c.specs ++ (pools ++ body))) ≡ Ok (c, body)
unfolding opening_of
timed_back plain timed c pools body other told tell none =
    let numbers = stations_numbers c.specs in
    let fits = pools_within c.pools told.lawful.pools in
    let behind = pools_begin (stations_of c.specs) c.pools pools body numbers fits tell none in
    let lines : List (List ℕ) = map process_text c.specs ++ (pools ++ body) in
    let back = processes_back [] c.specs (pools ++ body) told.pids told.lawful.processes behind in
    let read = pools_read (stations_of c.specs) c.pools pools body (stations_apart c.specs) numbers fits tell none in
    ap (λ b. cond b (Ok (plain_opening (times_text c.times ∷ lines)))
    (cond (bytes_eq timed timed) (timed_opening (times_text c.times ∷ lines)) (Err 1))) other
    ∙ ap (λ b. cond b (timed_opening (times_text c.times ∷ lines)) (Err 1)) (own_title timed)
    ∙ ap (λ o. option_map_or (λ t. Ok (with_pools t (processes_from [] lines))) o (Err 2)) (times_read c.times told.lawful.times)
    ∙ ap (λ (found : Parts). Ok (with_pools c.times found)) back
    ∙ ap (λ (found : List ℕ × List (List ℕ)). Ok (record { times = c.times; pools = found.0; specs = c.specs }, found.1)) read

back_by : (plain timed : List ℕ) (c : Settings) (ls body : List (List ℕ)) → bytes_eq timed plain ≡ false → IsTellable c →
    IsOpening plain timed c ls → BeginsNoHead body → opening_of plain timed (ls ++ body) ≡ Ok (c, body)
back_by plain timed c ls body other told (inl is) none =
    ap (λ l. opening_of plain timed (l ++ body)) is.1 ∙ plain_back plain timed c body told is.0 none
back_by plain timed c ls body other told (inr is) none =
    ap (λ l. opening_of plain timed (l ++ body)) is.2
    ∙ ap (λ l. opening_of plain timed (timed ∷ times_text c.times ∷ l)) (append_assoc (map process_text c.specs) is.0 body)
    ∙ timed_back plain timed c is.0 body other told is.1 none

pub openings_back : OpeningsReadBack
openings_back = back_by

no_feed_by : (plain timed : List ℕ) (c : Settings) (ls : List (List ℕ)) → HasNoFeed plain → HasNoFeed timed → IsTellable c →
    IsOpening plain timed c ls → AllByRecursion HasNoFeed ls
no_feed_by plain timed c ls first second told (inl is) =
    subst (AllByRecursion HasNoFeed) (sym is.1) (first, processes_no_feed c.specs told.pids told.lawful.processes)
no_feed_by plain timed c ls first second told (inr is) =
    let pools = pools_no_feed (stations_of c.specs) c.pools is.0 (stations_numbers c.specs) (pools_within c.pools told.lawful.pools) is.1 in
    subst (AllByRecursion HasNoFeed) (sym is.2) (
      second,
      (
        times_no_feed c.times told.lawful.times,
        both_plain (map process_text c.specs) is.0 (processes_no_feed c.specs told.pids told.lawful.processes) pools,
      ),
    )

pub openings_no_feed : OpeningsHaveNoFeed
openings_no_feed = no_feed_by

-- The usual settings.

usual_times_by : (t : Times) → same_times t usual_times ≡ true → t ≡ usual_times
usual_times_by t h =
    let a = and_parts (t.tries == 5 && t.interval == 4) (t.life == 8) h in
    let b = and_parts (t.tries == 5) (t.interval == 4) a.0 in
    rw (← eqb-true t.tries 5 b.0, ← eqb-true t.interval 4 b.1, ← eqb-true t.life 8 a.1) refl

usual : (c : Settings) → AreLawful c → is_usual c ≡ true → c ≡ settings_of c.specs
usual c lawful h =
    let parts = and_parts (same_times c.times usual_times) (list_all (λ h. pool_of c h == usual_pool) (stations_of c.specs)) h in
    let pools = all_usual (stations_of c.specs) c.pools (stations_apart c.specs) lawful.one_each parts.1 in
    ap (λ (t : Times). record { times = t; pools = c.pools; specs = c.specs }) (usual_times_by c.times parts.0)
    ∙ ap (λ (ks : List ℕ). record { times = usual_times; pools = ks; specs = c.specs }) pools

written_by : (plain timed : List ℕ) (c : Settings) (b : Bool) → is_usual c ≡ b → AreLawful c →
    IsOpening plain timed c (cond b (plain ∷ map process_text c.specs) (timed_lines timed c))
written_by plain timed c true is lawful = inl (usual c lawful is, refl)
written_by plain timed c false is lawful =
    inr (_, pools_written (stations_of c.specs) c.pools (stations_apart c.specs) lawful.one_each, refl)

pub openings_written : OpeningsAreWritten
openings_written plain timed c lawful = written_by plain timed c (is_usual c) refl lawful

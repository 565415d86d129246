-- The lines of times and of pools, as words and as texts.
use Rattle.std.proofs.Common.{◌≡◌, ℕ, ◌<◌, ◌≤◌, ◌&&◌, ◌==◌, nat_le, true, false, List, [], ◌∷◌, decimal, codes, Some, None, refl, ap, sym, ◌∙◌, arith, subst}
use Rattle.std.specs.List.{AllByRecursion}
use Rattle.std.proofs.lemmas.Bool.{and_from, and_parts, eq-eqb, eqb-true, le-leb, leb-true}
use Rattle.std.proofs.lemmas.Option.{cond_some}
use Rattle.vk_types.specs.Types.{Times}
use Rattle.vk_base.specs.Settings.{pool_is_lawful, times_are_lawful}
use Rattle.vk_base.proofs.OptionLemmas.{bind_is}
use Rattle.vk_text.specs.Heads.{HasNoFeed, process_of}
use Rattle.vk_text.specs.Lines.{words_from}
use Rattle.vk_text.specs.Openings.{first_pool, if_of, pool_fields_of, pool_line_of, pool_text, pool_words, times_fields_of, times_of, times_text, times_words}
use Rattle.vk_text.specs.Spelling.{joined}
use Rattle.vk_text.specs.Words.{number_of, positive_of, station_of}
use Rattle.vk_text.proofs.Firsts.{ended_is, first_holds, first_spelled}
use Rattle.vk_text.proofs.PlainWords.{IsPlain, joined_no_feed, letters, no_feeds, no_spaces, number_plain}
use Rattle.vk_text.proofs.ReadBack.{joined_words, line_joined}
use Rattle.vk_text.proofs.Spelled.{either_word, number_read, number_spelled, positive_read, positive_spelled, station_read, station_spelled}

-- Times.

lawful_by : (tries interval life : ℕ) → 0 < tries → tries ≤ 16 → 0 < interval → interval ≤ 64 → life ≤ 1024 →
    times_are_lawful (record { tries = tries; interval = interval; life = life }) ≡ true
lawful_by tries interval life a b c d e =
    rw (
      le-leb 1 tries (omega arith),
      le-leb tries 16 (omega arith),
      le-leb 1 interval (omega arith),
      le-leb interval 64 (omega arith),
      le-leb life 1024 (omega arith),
    ) refl

fields_spelled : (ws : List (List ℕ)) (t : Times) → times_fields_of ws ≡ Some t →
    (codes "times" ∷ ws ≡ times_words t) × (times_are_lawful t ≡ true)
unfolding times_fields_of
fields_spelled ws t h =
    let tries = first_spelled (positive_of 16) decimal (λ n w f. (positive_spelled 16 n w (omega arith) f).0) _ t ws h in
    let tries_fit = first_holds (positive_of 16) (λ n. (0 < n) × (n ≤ 16)) (λ n w f. let is = positive_spelled 16 n w (omega arith) f in (is.1, is.2)) _ t ws h in
    let interval = first_spelled (positive_of 64) decimal (λ n w f. (positive_spelled 64 n w (omega arith) f).0) _ t tries.1 tries.3 in
    let interval_fit =
    first_holds (positive_of 64) (λ n. (0 < n) × (n ≤ 64)) (λ n w f. let is = positive_spelled 64 n w (omega arith) f in (is.1, is.2)) _ t tries_fit.1
    tries_fit.3 in
    let life = first_spelled (number_of 1024) decimal (λ n w f. (number_spelled 1024 n w (omega arith) f).0) _ t interval.1 interval.3 in
    let life_fit =
    first_holds (number_of 1024) (λ n. n ≤ 1024) (λ n w f. (number_spelled 1024 n w (omega arith) f).1) _ t interval_fit.1 interval_fit.3 in
    let end = ended_is life.1 (record { tries = tries.0; interval = interval.0; life = life.0 }) t life.3 in
    let end_fit = ended_is life_fit.1 (record { tries = tries_fit.0; interval = interval_fit.0; life = life_fit.0 }) t life_fit.3 in (
      ap (λ l. codes "times" ∷ l)
          (tries.2 ∙ ap (λ l. decimal tries.0 ∷ l) (interval.2 ∙ ap (λ l. decimal interval.0 ∷ l) (life.2 ∙ ap (λ l. decimal life.0 ∷ l) end.0)))
          ∙ ap times_words end.1,
      sym (ap times_are_lawful end_fit.1)
          ∙ lawful_by tries_fit.0 interval_fit.0 life_fit.0 tries_fit.2.0 tries_fit.2.1 interval_fit.2.0 interval_fit.2.1 life_fit.2,
    )

times_spelled : (ws : List (List ℕ)) (t : Times) → times_of ws ≡ Some t → (ws ≡ times_words t) × (times_are_lawful t ≡ true)
unfolding times_of
times_spelled [] t h = cc
times_spelled (w ∷ ws) t h =
    either_word ((w ∷ ws ≡ times_words t) × (times_are_lawful t ≡ true)) w (codes "times") _ _ (Some t)
    (λ e f. let is = fields_spelled ws t f in (ap (λ l. l ∷ ws) e ∙ is.0, is.1)) (λ none. cc) h

-- the line of times is their text, and they are lawful
pub times_line : (line : List ℕ) (t : Times) → times_of (words_from line 0) ≡ Some t → (line ≡ times_text t) × (times_are_lawful t ≡ true)
times_line line t h =
    let is = times_spelled (words_from line 0) t h in
    (sym (line_joined line) ∙ ap joined is.0, is.1)

-- each of lawful times is in its range
record AreWithin (t : Times) : Type 0 where
  some_tries : 0 < t.tries
  tries : t.tries ≤ 16
  some_interval : 0 < t.interval
  interval : t.interval ≤ 64
  life : t.life ≤ 1024

within : (t : Times) → times_are_lawful t ≡ true → AreWithin t
within t h =
    let a = and_parts (nat_le 1 t.tries && nat_le t.tries 16 && nat_le 1 t.interval && nat_le t.interval 64) (nat_le t.life 1024) h in
    let b = and_parts (nat_le 1 t.tries && nat_le t.tries 16 && nat_le 1 t.interval) (nat_le t.interval 64) a.0 in
    let c = and_parts (nat_le 1 t.tries && nat_le t.tries 16) (nat_le 1 t.interval) b.0 in
    let d = and_parts (nat_le 1 t.tries) (nat_le t.tries 16) c.0 in
    let tries = leb-true 1 t.tries d.0 in
    let interval = leb-true 1 t.interval c.1 in record {
      some_tries = omega arith;
      tries = leb-true t.tries 16 d.1;
      some_interval = omega arith;
      interval = leb-true t.interval 64 b.1;
      life = leb-true t.life 1024 a.1;
    }

times_plain : (t : Times) → times_are_lawful t ≡ true → AllByRecursion IsPlain (times_words t)
times_plain t h =
    let in_range = within t h in
    let tries = in_range.tries in
    let interval = in_range.interval in
    let life = in_range.life in (
      letters (codes "times") refl,
      (
        number_plain t.tries (omega arith),
        (number_plain t.interval (omega arith), (number_plain t.life (omega arith), tt)),
      ),
    )

fields_read : (t : Times) → times_are_lawful t ≡ true → times_of (times_words t) ≡ Some t
unfolding times_of times_fields_of
fields_read t h =
    let in_range = within t h in
    rw (
      positive_read 16 t.tries (omega arith) in_range.some_tries in_range.tries,
      positive_read 64 t.interval (omega arith) in_range.some_interval in_range.interval,
      number_read 1024 t.life (omega arith) in_range.life,
    ) refl

pub times_read : (t : Times) → times_are_lawful t ≡ true → times_of (words_from (times_text t) 0) ≡ Some t
times_read t h =
    ap times_of (joined_words (times_words t) (omega arith) (no_spaces (times_words t) (times_plain t h))) ∙ fields_read t h

pub times_no_feed : (t : Times) → times_are_lawful t ≡ true → HasNoFeed (times_text t)
times_no_feed t h = joined_no_feed (times_words t) (no_feeds (times_words t) (times_plain t h))

-- Pools.

abbrev pub IsStation : ℕ → Type 0
IsStation host = (0 < host) × (host < 65535)

abbrev pub IsPool : ℕ → Type 0
IsPool pool = (0 < pool) × (pool ≤ 64)

pub pool_within : (pool : ℕ) → pool_is_lawful pool ≡ true → IsPool pool
pool_within pool h =
    let parts = and_parts (nat_le 1 pool) (nat_le pool 64) h in
    let low = leb-true 1 pool parts.0 in
    (omega arith, leb-true pool 64 parts.1)

pub pool_lawful : (pool : ℕ) → IsPool pool → pool_is_lawful pool ≡ true
pool_lawful pool h =
    let some = h.0 in
    and_from (nat_le 1 pool) (nat_le pool 64) (le-leb 1 pool (omega arith)) (le-leb pool 64 h.1)

abbrev AreOfPool : List (List ℕ) → ℕ × ℕ → Type 0
AreOfPool ws p = (codes "pool" ∷ ws ≡ pool_words p.0 p.1) × IsPool p.1

pool_fields_spelled : (ws : List (List ℕ)) (p : ℕ × ℕ) → pool_fields_of ws ≡ Some p → AreOfPool ws p
unfolding pool_fields_of
pool_fields_spelled ws p h =
    let host = first_spelled station_of decimal (λ n w f. (station_spelled n w f).0) _ p ws h in
    let pool = first_spelled (positive_of 64) decimal (λ n w f. (positive_spelled 64 n w (omega arith) f).0) _ p host.1 host.3 in
    let fits = first_holds (positive_of 64) IsPool (λ n w f. let is = positive_spelled 64 n w (omega arith) f in (is.1, is.2)) _ p host.1 host.3 in
    let end = ended_is pool.1 (host.0, pool.0) p pool.3 in
    let end_fits = ended_is fits.1 (host.0, fits.0) p fits.3 in (
      ap (λ l. codes "pool" ∷ l) (host.2 ∙ ap (λ l. decimal host.0 ∷ l) (pool.2 ∙ ap (λ l. decimal pool.0 ∷ l) end.0))
          ∙ ap (λ (q : ℕ × ℕ). pool_words q.0 q.1) end.1,
      subst (λ (q : ℕ × ℕ). IsPool q.1) end_fits.1 fits.2,
    )

pool_spelled : (ws : List (List ℕ)) (p : ℕ × ℕ) → pool_line_of ws ≡ Some p → (ws ≡ pool_words p.0 p.1) × IsPool p.1
unfolding pool_line_of
pool_spelled [] p h = cc
pool_spelled (w ∷ ws) p h =
    either_word ((w ∷ ws ≡ pool_words p.0 p.1) × IsPool p.1) w (codes "pool") _ _ (Some p)
    (λ e f. let is = pool_fields_spelled ws p f in (ap (λ l. l ∷ ws) e ∙ is.0, is.1)) (λ none. cc) h

-- the first line tells a pool of the station: it is that pool's text
pub first_is : (host : ℕ) (lines : List (List ℕ)) (told : ℕ × List (List ℕ)) → first_pool host lines ≡ Some told →
    (lines ≡ pool_text host told.0 ∷ told.1) × IsPool told.0
unfolding first_pool
first_is host [] told h = cc
first_is host (l ∷ ls) told h =
    let line = bind_is (pool_line_of (words_from l 0)) _ told h in
    let of = bind_is (if_of host line.0) _ told line.2 in
    let own = cond_some (line.0.0 == host) line.0.1 of.0 of.1 in
    let all = (cond_some true (of.0, ls) told of.2).1 in
    let is = pool_spelled (words_from l 0) line.0 line.1 in
    let text : l ≡ pool_text host of.0 =
    sym (line_joined l) ∙ ap joined is.0 ∙ ap (λ h. pool_text h line.0.1) (eqb-true line.0.0 host own.0) ∙ ap (pool_text host) own.1 in (
      ap (λ t. t ∷ ls) text ∙ ap (λ (t : ℕ × List (List ℕ)). pool_text host t.0 ∷ t.1) all,
      subst (λ (t : ℕ × List (List ℕ)). IsPool t.0) all (subst IsPool own.1 is.1),
    )

pool_plain : (host pool : ℕ) → IsStation host → IsPool pool → AllByRecursion IsPlain (pool_words host pool)
pool_plain host pool h k =
    let high = h.1 in
    let few = k.1 in
    (letters (codes "pool") refl, (number_plain host (omega arith), (number_plain pool (omega arith), tt)))

pool_fields_read : (host pool : ℕ) → IsStation host → IsPool pool → pool_line_of (pool_words host pool) ≡ Some (host, pool)
unfolding pool_line_of pool_fields_of
pool_fields_read host pool h k = rw (station_read host h.0 h.1, positive_read 64 pool (omega arith) k.0 k.1) refl

pool_read : (host pool : ℕ) → IsStation host → IsPool pool → pool_line_of (words_from (pool_text host pool) 0) ≡ Some (host, pool)
pool_read host pool h k =
    ap pool_line_of (joined_words (pool_words host pool) (omega arith) (no_spaces (pool_words host pool) (pool_plain host pool h k)))
    ∙ pool_fields_read host pool h k

-- it tells of no process
pub pool_no_process : (host pool : ℕ) → IsStation host → IsPool pool → process_of (words_from (pool_text host pool) 0) ≡ None
unfolding process_of
pool_no_process host pool h k =
    ap process_of (joined_words (pool_words host pool) (omega arith) (no_spaces (pool_words host pool) (pool_plain host pool h k)))

pub pool_no_feed : (host pool : ℕ) → IsStation host → IsPool pool → HasNoFeed (pool_text host pool)
pool_no_feed host pool h k = joined_no_feed (pool_words host pool) (no_feeds (pool_words host pool) (pool_plain host pool h k))

-- the line of a pool is read, at its station and at no other
pub own_first : (host pool : ℕ) (rest : List (List ℕ)) → IsStation host → IsPool pool →
    first_pool host (pool_text host pool ∷ rest) ≡ Some (pool, rest)
unfolding first_pool
own_first host pool rest h k = rw (pool_read host pool h k, eq-eqb host host refl) refl

pub other_first : (host of pool : ℕ) (rest : List (List ℕ)) → IsStation of → IsPool pool → (of == host) ≡ false →
    first_pool host (pool_text of pool ∷ rest) ≡ None
unfolding first_pool
other_first host of pool rest h k other = rw (pool_read of pool h k, other) refl

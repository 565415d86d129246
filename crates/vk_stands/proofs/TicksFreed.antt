-- A tick frees the aliens that are over: nothing in the view rests on them.
use Rattle.std.proofs.Common.{◌≡◌, ◌≤◌, ◌+◌, ◌-◌, ℕ, zero, suc, max, nat_lt, Bool, true, false, cond, ◌&&◌, List, [], ◌∷◌, filter, length, map, get_or, refl, ap, sym, ◌∙◌, subst, Option, Some, None, inl, inr, arith, ltb}
use Rattle.std.specs.List.{position_or_len, slice_get}
use Rattle.std.specs.Option.{option_map}
use Rattle.std.proofs.lemmas.Bool.{cond-true, lt-ltb}
use Rattle.std.proofs.lemmas.List.{length-map}
use Rattle.std.proofs.lemmas.List.Quantifiers.{position-Some}
use Rattle.std.proofs.lemmas.List.Sums.{position_or_len_is}
use Rattle.std.proofs.lemmas.Option.{none-some, same_Some}
use Rattle.vk_types.specs.Types.{Exchange, Name, Pid, Stage, Times}
use Rattle.vk_base.specs.declared.kernel.Stage.TheVariants as stages
use Rattle.vk_base.specs.declared.limits.TheConstants.{POOL, STATION_PROCESSES}
use Rattle.vk_base.specs.Kernel.{◌>>=◌, Kernel, holds_of, is_at_target, is_queued, is_queued_at}
unfoldable use Rattle.vk_base.specs.Kernel.{queue_of}
use Rattle.vk_base.specs.Pids.{same_pid}
use Rattle.vk_base.proofs.OptionLemmas.{mapped_is}
use Rattle.std.proofs.lemmas.Bool.{and_parts}
use Rattle.vk_pool.specs.declared.alien.Alien.{Alien}
use Rattle.vk_pool.specs.declared.alien.AlienStage.{AlienStage}
use Rattle.vk_pool.specs.declared.alien.AlienStage.TheVariants as alien_stages
use Rattle.vk_pool.specs.Aliens.{alien_at, alien_from, closed_in, is_alien_from, is_over, kept, span}
use Rattle.vk_queue.specs.Lists.{queue_at}
use Rattle.vk_rules.specs.Aliens.{alien_after, arrival_in, closes, stamp_in, with_new_alien}
unfoldable use Rattle.vk_rules.specs.Aliens.{slots_after}
use Rattle.vk_rules.specs.Entries.{Entry, is_tick}
use Rattle.vk_stands.specs.Fit.{AreFit}
use Rattle.vk_stands.specs.Stands.{IsHome, IsAlienKept}
use Rattle.vk_stands.specs.Tables.{Tables, alien_name, read_alien, seat_name, slot_name, stage_by, stage_of}
use Rattle.vk_stands.proofs.After.{told_alien, told_nothing}
use Rattle.vk_stands.proofs.Aliens.{AreAliensApart, of_at, read}
use Rattle.vk_stands.proofs.Found.{alien_found}
use Rattle.vk_stands.proofs.Parts.{AreQueues}
use Rattle.vk_stands.proofs.Views.{StandsView}

module _ (times : Times) (now : ℕ) where
  abbrev g : Option Alien → Option Alien
  g = kept times now

  was_by : (x a : Alien) (b : Bool) → cond b None (Some x) ≡ Some a → x ≡ a
  was_by x a true is = absurd (none-some a is)
  was_by x a false is = same_Some x a is

  pub kept_was : (x : Option Alien) (a : Alien) → g x ≡ Some a → x ≡ Some a
  kept_was None a is = absurd (none-some a is)
  kept_was (Some x) a is = ap Some (was_by x a (is_over times now x) is)

  pub at_kept : (slots : List (Option Alien)) (i : ℕ) → alien_at (map g slots) i ≡ g (alien_at slots i)
  at_kept [] i = refl
  at_kept (x ∷ xs) zero = refl
  at_kept (x ∷ xs) (suc i) = at_kept xs i

  fails_by : (s : Pid) (x : Alien) (b : Bool) → same_pid x.sender s ≡ false → is_alien_from s (cond b None (Some x)) ≡ false
  fails_by s x true other = refl
  fails_by s x false other = other

  kept_fails : (s : Pid) (x : Option Alien) → is_alien_from s x ≡ false → is_alien_from s (g x) ≡ false
  kept_fails s None other = refl
  kept_fails s (Some x) other = fails_by s x (is_over times now x) other

  pub apart_kept : (slots : List (Option Alien)) → AreAliensApart slots → AreAliensApart (map g slots)
  apart_kept slots apart i a at =
      let was : alien_at slots i ≡ Some a = kept_was (alien_at slots i) a (sym (at_kept slots i) ∙ at) in
      let facts = position-Some (is_alien_from a.sender) slots i None (apart i a was) in
      let long : length (map g slots) ≡ length slots = length-map slots g in
      let first : position_or_len (is_alien_from a.sender) (map g slots) ≡ i =
      position_or_len_is (is_alien_from a.sender) (map g slots) i None (omega (arith, long, facts.0))
      (λ k l. ap (is_alien_from a.sender) (at_kept slots k) ∙ kept_fails a.sender (get_or slots k None) (facts.2 k l))
      (λ l. ap (is_alien_from a.sender) (at ∙ sym was) ∙ facts.1) in
      ap (λ n. cond (ltb n (length (map g slots))) (Some n) None) first
      ∙ cond-true (ltb i (length (map g slots))) (Some i) None (lt-ltb i (length (map g slots)) (omega (arith, long, facts.0)))

  abbrev pub freed : Tables → Tables
  freed t = record t { slots = map g t.slots }

  pub fit_freed : (host : ℕ) (t : Tables) → AreFit host t → AreFit host (freed t)
  fit_freed host t fit = record {
    few = fit.few;
    lists = fit.lists;
    pool = subst (λ n. n ≤ POOL) (sym (length-map t.slots g)) fit.pool;
    places = fit.places;
    seats = fit.seats;
    apart = apart_kept t.slots fit.apart;
    aliens = λ i a at. fit.aliens i a (kept_was (alien_at t.slots i) a (sym (at_kept t.slots i) ∙ at));
  }

  -- an alien whose Send is at its target is not closed
  is_open : (newest : ℕ) (s : AlienStage) (bytes : List ℕ) → is_at_target (stage_by s bytes) ≡ true →
      holds_of (λ closed. nat_lt (max closed newest + span times) now) (closed_in s) ≡ false
  is_open newest alien_stages.Queued bytes near = refl
  is_open newest alien_stages.Taken bytes near = refl
  is_open newest (alien_stages.Replied m dest closed) bytes near = cc
  is_open newest (alien_stages.Refused closed) bytes near = cc

  queued_near : (s : Stage) → is_queued s ≡ true → is_at_target s ≡ true
  queued_near stages.Queued t = refl
  queued_near stages.Posted t = cc
  queued_near stages.Taken t = cc
  queued_near (stages.Replied m dest bytes) t = cc
  queued_near stages.Dropped t = cc

  module _ (host : ℕ) (t : Tables) (fit : AreFit host t) (k : Kernel) (h : StandsView host t k) where
    pub freed_was : (sender : Pid) (a : Alien) → alien_from (freed t).slots sender ≡ Some a → alien_from t.slots sender ≡ Some a
    freed_was sender a is =
        let at = alien_found (freed t).slots sender a is in
        ap (alien_from t.slots) (sym at.from)
        ∙ of_at t.slots at.at a fit.apart (kept_was (alien_at t.slots at.at) a (sym (at_kept t.slots at.at) ∙ at.here))

    still_at : (i : ℕ) (a : Alien) (n : Name) (e : Exchange) → alien_at t.slots i ≡ Some a → alien_name a ≡ n → k.exchanges n ≡ Some e →
        is_at_target e.stage ≡ true → alien_at (freed t).slots i ≡ Some a
    still_at i a n e at name there near =
        let kept : IsAlienKept k a = h.kept a.sender a (of_at t.slots i a fit.apart at) in
        let same : kept.exchange ≡ e = same_Some kept.exchange e (sym kept.is ∙ ap k.exchanges name ∙ there) in
        let near : is_at_target (stage_of a) ≡ true =
        ap is_at_target (sym kept.stage) ∙ ap (λ (x : Exchange). is_at_target x.stage) same ∙ near in
        at_kept t.slots i ∙ ap g at ∙ ap (λ b. cond b None (Some a)) (is_open a.newest a.stage a.bytes near)

    home_by : (n : Name) (e : Exchange) → k.exchanges n ≡ Some e → is_at_target e.stage ≡ true → IsHome host t n e →
        IsHome host (freed t) n e
    home_by n e there near (inl m) = inl m
    home_by n e there near (inr m) =
        let at = alien_found t.slots n.sender m.0 m.1 in
        let name : alien_name m.0 ≡ n = λ i. record { sender = at.from i; number = m.2 i } in
        inr (
          m.0,
          ap (alien_from (freed t).slots) (sym at.from)
              ∙ of_at (freed t).slots at.at m.0 (apart_kept t.slots fit.apart) (still_at at.at m.0 n e at.here name there near),
          m.2,
        )

    pub view_freed : StandsView host (freed t) k
    view_freed = record {
      procs = h.procs;
      elsewhere = h.elsewhere;
      kept = λ sender a at. h.kept sender a (freed_was sender a at);
      waiting = h.waiting;
      home = λ n e at here near. home_by n e at near (h.home n e at here near);
    }

    -- What waits in a queue has its slot.
    slot_by : (slot : ℕ) (n : Name) (e : Exchange) (b : Bool) → k.exchanges n ≡ Some e → is_at_target e.stage ≡ true →
        cond b (option_map seat_name (slice_get t.seats slot)) (option_map alien_name (alien_at t.slots
        (slot - STATION_PROCESSES))) ≡ Some n →
        cond b (option_map seat_name (slice_get t.seats slot)) (option_map alien_name (alien_at (freed t).slots
        (slot - STATION_PROCESSES))) ≡ Some n
    slot_by slot n e true there near is = is
    slot_by slot n e false there near is =
        let a = mapped_is alien_name (alien_at t.slots (slot - STATION_PROCESSES)) n is in
        ap (option_map alien_name) (still_at (slot - STATION_PROCESSES) a.0 n e a.1 a.2 there near) ∙ ap Some a.2

    slot_at : (pid : Pid) (slot : ℕ) (n : Name) (o : Option Exchange) → k.exchanges n ≡ o → holds_of (is_queued_at pid) o ≡ true →
        slot_name t.seats t.slots slot ≡ Some n → slot_name t.seats (freed t).slots slot ≡ Some n
    slot_at pid slot n None none queued is = cc
    slot_at pid slot n (Some e) there queued is =
        slot_by slot n e (nat_lt slot STATION_PROCESSES) there
        (queued_near e.stage (and_parts (same_pid e.at pid) (is_queued e.stage) queued).1) is

    module _ (pid : Pid) where
      abbrev test : Name → Bool
      test n = holds_of (is_queued_at pid) (k.exchanges n)

      first_by : (n : Name) (ns : List Name) (slots : List ℕ) (b : Bool) → test n ≡ b →
          ((rest : List ℕ) → map Some (filter test ns) ≡ map (slot_name t.seats t.slots) rest →
          map Some (filter test ns) ≡ map (slot_name t.seats (freed t).slots) rest) →
          map Some (cond b (n ∷ filter test ns) (filter test ns)) ≡ map (slot_name t.seats t.slots) slots →
          map Some (cond b (n ∷ filter test ns) (filter test ns)) ≡ map (slot_name t.seats (freed t).slots) slots
      first_by n ns slots false is again same = again slots same
      first_by n ns [] true is again same = cc
      first_by n ns (slot ∷ slots) true is again same =
          let head : Some n ≡ slot_name t.seats t.slots slot = cc in
          let tail : map Some (filter test ns) ≡ map (slot_name t.seats t.slots) slots = cc in
          ap (λ x. x ∷ map Some (filter test ns)) (sym (slot_at pid slot n (k.exchanges n) refl is (sym head)))
          ∙ ap (λ xs. slot_name t.seats (freed t).slots slot ∷ xs) (again slots tail)

      names_by : (ns : List Name) (slots : List ℕ) → map Some (filter test ns) ≡ map (slot_name t.seats t.slots) slots →
          map Some (filter test ns) ≡ map (slot_name t.seats (freed t).slots) slots
      names_by [] [] same = refl
      names_by [] (slot ∷ slots) same = cc
      names_by (n ∷ ns) slots same = first_by n ns slots (test n) refl (names_by ns) same

    pub queues_freed : AreQueues t k → AreQueues (freed t) k
    unfolding queue_of
    queues_freed queues pid at place = names_by pid k.arrived (queue_at t.lists at) (queues pid at place)

-- The slots of the reading are those of the tables, where nothing comes, is closed or arrives.
module _ (times : Times) (e : Entry) (ticks : is_tick e.input ≡ true) (unclosed : (name : Name) → closes e name ≡ false)
    (unheard : (name : Name) → stamp_in e name ≡ 0) where
  slot_read : (slot : Option Alien) → (read slot >>= alien_after times e) ≡ read (kept times e.tick slot)
  slot_read None = refl
  slot_read (Some a) =
      ap (λ b. cond (b && is_over times e.tick a) None (Some (told_alien e (read_alien a)))) ticks
      ∙ ap (λ x. cond (is_over times e.tick a) None (Some x)) (told_nothing e (read_alien a) (unheard (alien_name a)) (unclosed
      (alien_name a)))
      ∙ by_test (is_over times e.tick a)
    where
      by_test : (b : Bool) → cond b None (Some (read_alien a)) ≡ read (cond b None (Some a))
      by_test true = refl
      by_test false = refl

  all_read : (slots : List (Option Alien)) → map (λ slot. slot >>= alien_after times e) (map read slots) ≡ map read (map
      (kept times e.tick) slots)
  all_read [] = refl
  all_read (slot ∷ slots) =
      ap (λ x. x ∷ map (λ slot. slot >>= alien_after times e) (map read slots)) (slot_read slot)
      ∙ ap (λ xs. read (kept times e.tick slot) ∷ xs) (all_read slots)

  pub slots_freed : (slots : List (Option Alien)) → arrival_in e ≡ None →
      slots_after times e (map read slots) ≡ map read (map (kept times e.tick) slots)
  unfolding slots_after
  slots_freed slots none =
      ap (with_new_alien e (map (λ slot. slot >>= alien_after times e) (map read slots))) none ∙ all_read slots

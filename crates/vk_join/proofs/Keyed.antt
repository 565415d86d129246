-- Keys of logs: each stands for the turn of its event, with the number that is counted from the events alone.
use Rattle.std.proofs.Common.{◌≡◌, ℕ, ◌+◌, ◌≤◌, List, [], ◌∷◌, ◌++◌, length, map, take, Option, Some, refl, sym, ap, subst, ◌∙◌}
use Rattle.std.specs.Option.{option_map_or}
use Rattle.std.specs.Prelude.{slice_get, unwrap_or}
use Rattle.std.proofs.lemmas.List.{map_push}
use Rattle.vk_types.specs.Types.{StationEvent}
use Rattle.vk_base.specs.declared.event.StationEvent.TheVariants as events
use Rattle.vk_base.specs.Options.{◌>>=◌}
use Rattle.vk_base.specs.Settings.{Settings}
use Rattle.vk_rules.specs.Entries.{Called, Collected, Delivered, Entry, Input, Ticked}
use Rattle.vk_rules.specs.Laws.{last_number}
use Rattle.vk_rules.specs.Readings.{Reading, reading}
use Rattle.vk_rules.specs.Right.{entry_of, number_after}
unfoldable use Rattle.vk_rules.specs.Right.{right_entry}
use Rattle.vk_rules.proofs.Rising.{number_is}
use Rattle.vk_host.specs.Values.{input_of}
use Rattle.vk_cluster.proofs.Loops.{take_get}
use Rattle.vk_schedule.specs.declared.log.StationLog.{StationLog}
use Rattle.vk_join.specs.declared.replay.Key.{Key}
use Rattle.vk_join.specs.Keys.{AreKeys, number_behind}
use Rattle.vk_join.specs.Logs.{entries_for}
use Rattle.vk_join.specs.Merges.{Turn, event_of, events_of}
use Rattle.vk_join.specs.Replays.{event_for, front_of, host_for, turn_for, turns_of}
use Rattle.vk_join.proofs.Fronts.{entries_more, front_whole, turns_own, turns_start}

-- a key at a place of a log stands for the event there
pub turn_is : (all : List StationLog) (n at number : ℕ) (l : StationLog) (e : StationEvent) → slice_get all n ≡ Some l →
    slice_get l.events at ≡ Some e →
    turn_for all (record { number = number; log = n; at = at }) ≡ record { host = l.host; number = number; event = e }
turn_is all n at number l e found there =
    let host : host_for all (record { number = number; log = n; at = at }) ≡ l.host =
    ap (λ (o : Option StationLog). option_map_or (λ (m : StationLog). m.host) o 0) found in
    let event : event_for all (record { number = number; log = n; at = at }) ≡ e =
    ap (λ (o : Option StationLog). unwrap_or (o >>= λ (m : StationLog). slice_get m.events at) events.Tick) found
    ∙ ap (λ o. unwrap_or o events.Tick) there in
    λ k. record { host = host k; number = number; event = event k }

-- The number of an entry is counted from that of the entry before it.
after_is : (r : Reading) (i : Input) → number_after r i ≡ number_behind r.number i
after_is r (Called pid call) = refl
after_is r (Collected pid) = refl
after_is r Ticked = refl
after_is r (Delivered o) = refl

pub entry_number : (c : Settings) (host : ℕ) (es : List Entry) (i : Input) → (entry_of c host es i).number ≡ number_behind (last_number es) i
unfolding right_entry
entry_number c host es i = after_is (reading c host es) i ∙ ap (λ n. number_behind n i) (number_is c host es)

-- The keys stand for the turns of the logs before this one and of its first events, of whose entries the last has this number.
pub record AreCounted (all : List StationLog) (log : ℕ) (l : StationLog) (at number : ℕ) (keys : List Key) : Type 0 where
  pub are : AreKeys all (front_of (take log all) l at) keys
  pub last : (c : Settings) → last_number (entries_for c l.host (take at l.events)) ≡ number

pub counted_start : (all : List StationLog) (log : ℕ) (l : StationLog) (keys : List Key) → AreKeys all (take log all) keys →
    AreCounted all log l 0 0 keys
counted_start all log l keys before = record {
  are = λ c. before c ∙ sym (turns_start c (take log all) l);
  last = λ c. refl;
}

module _ (all : List StationLog) (log : ℕ) (l : StationLog) (at number : ℕ) (keys : List Key) (e : StationEvent)
    (found : slice_get all log ≡ Some l) (there : slice_get l.events at ≡ Some e) (before : AreCounted all log l at number keys)
    (next : ℕ) (is : next ≡ number_behind number (input_of e)) where
  abbrev key : Key
  key = record { number = next; log = log; at = at }

  numbered : (c : Settings) → (entry_of c l.host (entries_for c l.host (take at l.events)) (input_of e)).number ≡ next
  numbered c =
      entry_number c l.host (entries_for c l.host (take at l.events)) (input_of e)
      ∙ ap (λ n. number_behind n (input_of e)) (before.last c)
      ∙ sym is

  last_next : (c : Settings) → last_number (entries_for c l.host (take (at + 1) l.events)) ≡ next
  last_next c =
      ap (λ es. last_number (entries_for c l.host es)) (take_get l.events at e there)
      ∙ ap last_number (entries_more c l.host [] (take at l.events) e)
      ∙ numbered c

  keys_next : (c : Settings) → map (turn_for all) (keys ++ key ∷ []) ≡ turns_of c (front_of (take log all) l (at + 1))
  keys_next c =
      map_push (turn_for all) keys key
      ∙ ap (λ ts. ts ++ turn_for all key ∷ []) (before.are c)
      ∙ ap (λ (t : Turn). turns_of c (front_of (take log all) l at) ++ t ∷ [])
      (turn_is all log at next l e found there ∙ ap (λ m. record { host = l.host; number = m; event = e }) (sym (numbered c)))
      ∙ sym (turns_own c (take log all) l at e there)

  pub counted_next : AreCounted all log l (at + 1) next (keys ++ key ∷ [])
  counted_next = record { are = keys_next; last = last_next }

pub counted_whole : (all : List StationLog) (log : ℕ) (l : StationLog) (at number : ℕ) (keys : List Key) → slice_get all log ≡ Some l →
    length l.events ≤ at → AreCounted all log l at number keys → AreKeys all (take (log + 1) all) keys
counted_whole all log l at number keys found whole counted =
    subst (λ ls. AreKeys all ls keys) (front_whole (take log all) l at whole ∙ sym (take_get all log l found)) counted.are

-- the events that the keys stand for, with one key more
pub events_next : (logs : List StationLog) (ks : List Key) (n : ℕ) (k : Key) → slice_get ks n ≡ Some k →
    events_of (map (turn_for logs) (take (n + 1) ks))
    ≡ events_of (map (turn_for logs) (take n ks)) ++ event_of (host_for logs k) (event_for logs k) ∷ []
events_next logs ks n k found =
    ap (λ l. events_of (map (turn_for logs) l)) (take_get ks n k found)
    ∙ ap events_of (map_push (turn_for logs) (take n ks) k)
    ∙ map_push (λ (t : Turn). event_of t.host t.event) (map (turn_for logs) (take n ks)) (turn_for logs k)

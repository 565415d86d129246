-- What a reading says after an entry, field by field.
use Rattle.std.proofs.Common.{◌≡◌, ℕ, suc, ◌+◌, max, nat_lt, Bool, true, false, ◌&&◌, ◌||◌, not, List, [], ◌∷◌, map, slice_index_or, refl, ap, ◌∙◌, arith, Option, Some, None, if◌then◌else◌}
use Rattle.std.specs.List.{list_any}
use Rattle.std.specs.Option.{option_map, option_or}
use Rattle.vk_types.specs.Types.{Name, Pid, Times}
use Rattle.vk_base.specs.Kernel.{◌>>=◌, Kernel}
use Rattle.vk_base.specs.Packets.{Packet}
use Rattle.vk_base.specs.Settings.{Settings}
use Rattle.vk_base.specs.Steps.{only_if}
use Rattle.vk_base.proofs.BoolLemmas.{plus_zero}
use Rattle.vk_rules.specs.Aliens.{Alien, alien_after, arrival_in, closes, is_closing, stamp_in, with_new_alien}
unfoldable use Rattle.vk_rules.specs.Aliens.{slots_after}
use Rattle.vk_rules.specs.Entries.{Entry, Input, is_tick, taken_packet}
use Rattle.vk_rules.specs.Frames.{Frame, frames_of}
use Rattle.vk_rules.specs.Readings.{Reading}
unfoldable use Rattle.vk_rules.specs.Readings.{reading_after}
use Rattle.vk_rules.specs.Right.{answer_to, outcome_of}
unfoldable use Rattle.vk_rules.specs.Right.{right_entry}
use Rattle.vk_rules.specs.Rounds.{Outcome}
use Rattle.vk_rules.specs.View.{after_steps}
use Rattle.vk_rules.specs.Works.{Work, acknowledged_by, answers, begins, copied_in, has_round, is_of_round, restarts}
unfoldable use Rattle.vk_rules.specs.Works.{work_after}
use Rattle.vk_stands.specs.Rules.{packets_in}

-- Frames, as far as their packets go.
pub any_packet : (test : Packet → Bool) (host now number event output : ℕ) (ps : List Packet) →
    list_any (λ (f : Frame). test f.packet) (frames_of host now number event output ps) ≡ list_any test ps
any_packet test host now number event output [] = refl
any_packet test host now number event output (p ∷ ps) = ap (λ b. test p || b) (any_packet test host now number event (output + 1) ps)

pub all_packets : (host now number event output : ℕ) (ps : List Packet) →
    map (λ (f : Frame). f.packet) (frames_of host now number event output ps) ≡ ps
all_packets host now number event output [] = refl
all_packets host now number event output (p ∷ ps) = ap (λ qs. p ∷ qs) (all_packets host now number event (output + 1) ps)

-- The right entry for an event, and the reading after it.
module _ (c : Settings) (host : ℕ) (r : Reading) (i : Input) where
  abbrev pub entry_for : Entry
  entry_for = right_entry c host r i

  abbrev pub outcome_for : Outcome
  outcome_for = outcome_of c host r i (answer_to c host r i)

  abbrev pub reading_for : Reading
  reading_for = reading_after c.times r entry_for

  pub packets_are : packets_in entry_for ≡ outcome_for.packets
  unfolding right_entry
  packets_are = all_packets host _ _ (r.events + 1) 1 outcome_for.packets

  pub closes_is : (name : Name) → closes entry_for name ≡ list_any (is_closing name) outcome_for.packets
  unfolding right_entry
  closes_is name = any_packet (is_closing name) host _ _ (r.events + 1) 1 outcome_for.packets

  pub has_round_is : (pid : Pid) → has_round pid entry_for ≡ list_any (is_of_round pid) outcome_for.packets
  unfolding right_entry
  has_round_is pid = any_packet (is_of_round pid) host _ _ (r.events + 1) 1 outcome_for.packets

  pub view_is : reading_for.view ≡ after_steps r.view (taken_packet entry_for) entry_for.steps
  unfolding reading_after
  view_is = refl

  pub events_are : reading_for.events ≡ r.events + 1
  unfolding reading_after
  events_are = refl

-- Slots. No tick: an alien hears copies of its Send, and is closed by what is told its sender.
abbrev pub told_alien : Entry → Alien → Alien
told_alien e a = record a {
  newest = max a.newest (stamp_in e a.name);
  closed = option_or a.closed (only_if (closes e a.name) (Some e.tick));
}

told_by : (t : Times) (e : Entry) (slot : Option Alien) → is_tick e.input ≡ false →
    (slot >>= alien_after t e) ≡ option_map (told_alien e) slot
told_by t e None no_tick = refl
told_by t e (Some a) no_tick = rw no_tick refl

all_told : (t : Times) (e : Entry) (slots : List (Option Alien)) → is_tick e.input ≡ false →
    map (λ slot. slot >>= alien_after t e) slots ≡ map (option_map (told_alien e)) slots
all_told t e [] no_tick = refl
all_told t e (slot ∷ slots) no_tick =
    ap (λ x. x ∷ map (λ slot. slot >>= alien_after t e) slots) (told_by t e slot no_tick)
    ∙ ap (λ xs. option_map (told_alien e) slot ∷ xs) (all_told t e slots no_tick)

pub slots_told : (t : Times) (e : Entry) (slots : List (Option Alien)) → is_tick e.input ≡ false →
    slots_after t e slots ≡ with_new_alien e (map (option_map (told_alien e)) slots) (arrival_in e)
unfolding slots_after
slots_told t e slots no_tick = ap (λ xs. with_new_alien e xs (arrival_in e)) (all_told t e slots no_tick)

-- an alien of whose Send no copy comes, and whose sender is told nothing that closes it
pub max_zero : (n : ℕ) → max n 0 ≡ n
max_zero n = omega arith

pub same_closed : (o : Option ℕ) → option_or o None ≡ o
same_closed None = refl
same_closed (Some n) = refl

pub told_nothing : (e : Entry) (a : Alien) → stamp_in e a.name ≡ 0 → closes e a.name ≡ false → told_alien e a ≡ a
told_nothing e a unheard unclosed = λ i. record a {
  newest = (ap (max a.newest) unheard ∙ max_zero a.newest) i;
  closed = (ap (λ b. option_or a.closed (only_if b (Some e.tick))) unclosed ∙ same_closed a.closed) i;
}

told_nothing_at : (e : Entry) (slot : Option Alien) → ((a : Alien) → slot ≡ Some a → told_alien e a ≡ a) →
    option_map (told_alien e) slot ≡ slot
told_nothing_at e None still = refl
told_nothing_at e (Some a) still = ap Some (still a refl)

pub told_nobody : (e : Entry) (slots : List (Option Alien)) →
    ((i : ℕ) (a : Alien) → slice_index_or slots i None ≡ Some a → told_alien e a ≡ a) → map (option_map (told_alien e)) slots ≡ slots
told_nobody e [] still = refl
told_nobody e (slot ∷ slots) still =
    ap (λ x. x ∷ map (option_map (told_alien e)) slots) (told_nothing_at e slot (still 0))
    ∙ ap (λ xs. slot ∷ xs) (told_nobody e slots (λ i a is. still (suc i) a is))

-- nothing comes, nothing is closed, and nothing arrives
pub slots_still : (t : Times) (e : Entry) (slots : List (Option Alien)) → is_tick e.input ≡ false → arrival_in e ≡ None →
    ((i : ℕ) (a : Alien) → slice_index_or slots i None ≡ Some a → told_alien e a ≡ a) → slots_after t e slots ≡ slots
slots_still t e slots no_tick none still =
    slots_told t e slots no_tick ∙ ap (with_new_alien e (map (option_map (told_alien e)) slots)) none ∙ told_nobody e slots still

-- Works, by what the entry does: the process begins its call, a packet answers the work, a round goes out, and for a packet that
-- came; with the bytes that the partner has acknowledged then, and how many were copied.
abbrev pub work_by : (tick : ℕ) (begun answered sent restarted : Bool) (acknowledged copied : ℕ) → Work → Work
work_by tick begun answered sent restarted acknowledged copied w = record {
  since = if (begun || answered || restarted) || sent then tick else w.since;
  rounds = (if begun || answered || restarted then 0 else w.rounds) + (if sent then 1 else 0);
  acknowledged = if begun then 0 else if restarted then acknowledged else w.acknowledged;
  received = if begun then 0 else w.received + copied;
  fresh = not sent && (nat_lt 0 copied || w.fresh);
}

-- What an entry does to the work of a process.
pub record IsEntryDone (k : Kernel) (pid : Pid) (e : Entry) (w : Work) (begun answered sent restarted : Bool) (copied : ℕ) : Type 0 where
  pub begun_is : begins pid e ≡ begun
  pub answered_is : answers k pid e w ≡ answered
  pub sent_is : has_round pid e ≡ sent
  pub restarted_is : restarts pid e ≡ restarted
  pub copied_is : copied_in pid e ≡ copied

pub work_is : (k : Kernel) (pid : Pid) (e : Entry) (w : Work) {begun answered sent restarted : Bool} {copied : ℕ} →
    IsEntryDone k pid e w begun answered sent restarted copied →
    work_after k pid e w ≡ work_by e.tick begun answered sent restarted (acknowledged_by (taken_packet e)) copied w
unfolding work_after
work_is k pid e w d = λ i.
    work_by e.tick (d.begun_is i) (d.answered_is i) (d.sent_is i) (d.restarted_is i) (acknowledged_by (taken_packet e)) (d.copied_is i) w

-- nothing of it: the work is as it was
pub work_still : (k : Kernel) (pid : Pid) (e : Entry) (w : Work) → IsEntryDone k pid e w false false false false 0 → work_after k pid e w ≡ w
work_still k pid e w d = work_is k pid e w d ∙ (λ i. record w { rounds = plus_zero w.rounds i; received = plus_zero w.received i })

-- it is begun: its first round has gone out
pub work_begun : (k : Kernel) (pid : Pid) (e : Entry) (w : Work) (answered restarted : Bool) →
    IsEntryDone k pid e w true answered true restarted 0 →
    work_after k pid e w ≡ record { since = e.tick; rounds = 1; acknowledged = 0; received = 0; fresh = false }
work_begun k pid e w answered restarted d = work_is k pid e w d

-- its round goes out again at a tick
pub work_sent_again : (k : Kernel) (pid : Pid) (e : Entry) (w : Work) → IsEntryDone k pid e w false false true false 0 →
    work_after k pid e w ≡ record w { since = e.tick; rounds = w.rounds + 1; fresh = false }
work_sent_again k pid e w d = work_is k pid e w d ∙ (λ i. record w {
  since = e.tick;
  rounds = w.rounds + 1;
  received = plus_zero w.received i;
  fresh = false;
})

-- The relation after an exit.
use Rattle.std.proofs.Common.{◌≡◌, ℕ, suc, max, Bool, true, false, List, [], ◌∷◌, map, flat_map, Option, Some, None, refl, sym, ap, subst, ◌∙◌, if◌then◌else◌}
use Rattle.std.specs.List.{list_any, position}
use Rattle.std.specs.Option.{option_map, option_or}
use Rattle.std.proofs.lemmas.Bool.{and_parts}
use Rattle.vk_types.specs.Types.{Pid}
use Rattle.vk_base.specs.declared.activity.Activity.TheVariants as activities
use Rattle.vk_base.specs.declared.answer.Answer.TheVariants as answers
use Rattle.vk_base.specs.declared.call.Call.TheVariants as calls
use Rattle.vk_base.specs.declared.event.EventAnswer.TheVariants as events_answered
use Rattle.vk_base.specs.declared.step.Step.TheVariants as steps
use Rattle.vk_base.specs.Calls.{answered, exited}
use Rattle.vk_base.specs.Kernel.{Kernel, is_at_target}
use Rattle.vk_base.specs.Pids.{same_pid}
use Rattle.vk_base.specs.Settings.{Settings}
use Rattle.vk_base.specs.Steps.{after_effect, effect, next, only_if}
use Rattle.vk_pool.specs.declared.alien.Alien.{Alien}
use Rattle.vk_pool.specs.declared.alien.AlienStage.{AlienStage}
use Rattle.vk_pool.specs.declared.alien.AlienStage.TheVariants as alien_stages
use Rattle.vk_pool.specs.Aliens.{alien_at, closed_in, refused}
use Rattle.vk_procs.specs.declared.seat.Seat.{Seat}
use Rattle.vk_procs.specs.Seats.{is_seat, process_of, seat_in}
use Rattle.vk_rules.specs.Aliens.{closes, is_closing, with_new_alien}
use Rattle.vk_rules.specs.CallOutcomes.{effect_answer, exit_packets, is_ok, packets_of}
use Rattle.vk_rules.specs.Entries.{Called, Entry, is_begun}
use Rattle.vk_rules.specs.Readings.{Reading}
unfoldable use Rattle.vk_rules.specs.Readings.{reading_after}
use Rattle.vk_rules.specs.Right.{answer_to}
unfoldable use Rattle.vk_rules.specs.Right.{right_entry}
unfoldable use Rattle.vk_rules.specs.CallOutcomes.{call_outcome}
use Rattle.vk_rules.specs.Rounds.{list_if}
use Rattle.vk_stands.specs.Fit.{AreFit}
use Rattle.vk_stands.specs.Rules.{packets_in}
use Rattle.vk_stands.specs.Stands.{Stands}
use Rattle.vk_stands.specs.Tables.{Tables, alien_name, read_alien, stage_by, stage_of}
use Rattle.vk_stands.proofs.After.{entry_for, events_are, max_zero, packets_are, reading_for, same_closed, slots_told, told_alien}
use Rattle.vk_stands.proofs.AfterEntries.{answered_works, called_closes, called_steps, called_view, no_frame, nothing_arrives, unheard}
use Rattle.vk_stands.proofs.ExitEntry.{closed_is, exit_tells, told_for}
use Rattle.vk_stands.proofs.Exited.{is_left, turned_away}
use Rattle.vk_stands.proofs.ExitPart.{after_exit, exit_carries, part_exited}
use Rattle.vk_stands.proofs.Parts.{Carries, Part, carries_more, part_of, stands_part}

-- an alien whose message waits or was taken is not closed
open_by : (stage : AlienStage) (bytes : List ℕ) → is_at_target (stage_by stage bytes) ≡ true → closed_in stage ≡ None
open_by alien_stages.Queued bytes t = refl
open_by alien_stages.Taken bytes t = refl
open_by (alien_stages.Replied m dest closed) bytes t = absurd (cc)
open_by (alien_stages.Refused closed) bytes t = absurd (cc)

-- what the entry says of an alien then
closed_by : (now : ℕ) (pid : Pid) (a : Alien) (b : Bool) → is_left pid a ≡ b →
    record (read_alien a) { newest = max a.newest 0; closed = option_or (closed_in a.stage) (only_if b (Some now)) }
    ≡ read_alien (if b then refused now a else a)
closed_by now pid a true left = λ i. record (read_alien a) {
  newest = max_zero a.newest i;
  closed = ap (λ o. option_or o (Some now)) (open_by a.stage a.bytes
      (and_parts (same_pid a.at pid) (is_at_target (stage_of a)) left).1) i;
}
closed_by now pid a false other = λ i. record (read_alien a) { newest = max_zero a.newest i; closed = same_closed (closed_in a.stage) i }

module _ (c : Settings) (host : ℕ) (t : Tables) (r : Reading) (fit : AreFit host t) (h : Stands c.times host t r) (pid : Pid)
    (own : pid.host ≡ host)
    (s : Seat) (found : seat_in t.seats pid ≡ Some s) (ready : s.doing ≡ activities.Ready) (at : ℕ) (place : position (is_seat pid) t.seats
    ≡ Some at)
    (does : effect r.view (steps.Call pid calls.Exit) ≡ Some (answered (exited r.view pid (process_of s)) pid calls.Exit answers.Ok)) where
  abbrev l : Kernel
  l = exited r.view pid (process_of s)

  abbrev part : Part host t r.view
  part = part_of c.times host t r fit h

  abbrev e : Entry
  e = entry_for c host r (Called pid calls.Exit)

  abbrev pub exit_reading : Reading
  exit_reading = reading_for c host r (Called pid calls.Exit)

  abbrev pub exited_tables : Tables
  exited_tables = after_exit host t r.view part pid own s found ready r.now at place

  kernel_is : next r.view (steps.Call pid calls.Exit) ≡ l
  kernel_is = ap (after_effect r.view) does

  answer_is : answer_to c host r (Called pid calls.Exit) ≡ events_answered.Answered answers.Ok
  answer_is = ap effect_answer does

  packets_told : packets_of r.view (next r.view (steps.Call pid calls.Exit)) r.slots pid calls.Exit
      (answer_to c host r (Called pid calls.Exit))
      ≡ flat_map (told_for pid) t.slots
  packets_told =
      ap (λ a. list_if (is_ok a) (exit_packets r.view (next r.view (steps.Call pid calls.Exit)) r.slots pid)) answer_is
      ∙ ap (λ k. exit_packets r.view k r.slots pid) kernel_is
      ∙ ap (λ slots. exit_packets r.view l slots pid) h.slots
      ∙ exit_tells host t r.view part pid own s found ready r.now

  -- The entry: one step, and a Negative for each that is left.
  pub exit_steps : e.steps ≡ steps.Call pid calls.Exit ∷ []
  exit_steps = called_steps c host r pid calls.Exit

  pub exit_packets_are : packets_in e ≡ flat_map (told_for pid) t.slots
  unfolding call_outcome
  exit_packets_are = packets_are c host r (Called pid calls.Exit) ∙ packets_told

  pub exit_answer : answer_to c host r (Called pid calls.Exit) ≡ events_answered.Answered answers.Ok
  exit_answer = answer_is

  closes_left : (i : ℕ) (a : Alien) → alien_at t.slots i ≡ Some a → closes e (alien_name a) ≡ is_left pid a
  closes_left i a here =
      called_closes c host r pid calls.Exit (alien_name a) ∙ ap (list_any (is_closing (alien_name a))) packets_told
      ∙ closed_is host t r.view part pid own s found ready r.now i a here

  told_one : (i : ℕ) (a : Alien) → alien_at t.slots i ≡ Some a → told_alien e (read_alien a) ≡ read_alien (turned_away pid r.now a)
  unfolding right_entry
  told_one i a here =
      (λ j. record (read_alien a) {
        newest = max a.newest (unheard e (alien_name a) (no_frame c host r pid calls.Exit) j);
        closed = option_or (closed_in a.stage) (only_if (closes_left i a here j) (Some r.now));
      })
      ∙ closed_by r.now pid a (is_left pid a) refl

  told_at : (i : ℕ) (o : Option Alien) → alien_at t.slots i ≡ o →
      option_map (told_alien e) (option_map read_alien o) ≡ option_map read_alien (option_map (turned_away pid r.now) o)
  told_at i None here = refl
  told_at i (Some a) here = ap Some (told_one i a here)

  told_all : (slots : List (Option Alien)) →
      ((i : ℕ) → option_map (told_alien e) (option_map read_alien (alien_at slots i))
      ≡ option_map read_alien (option_map (turned_away pid r.now) (alien_at slots i))) →
      map (option_map (told_alien e)) (map (option_map read_alien) slots)
      ≡ map (option_map read_alien) (map (option_map (turned_away pid r.now)) slots)
  told_all [] same = refl
  told_all (slot ∷ slots) same =
      ap (λ x. x ∷ map (option_map (told_alien e)) (map (option_map read_alien) slots)) (same 0)
      ∙ ap (λ xs. option_map read_alien (option_map (turned_away pid r.now) slot) ∷ xs) (told_all slots (λ i. same (suc i)))

  slots_then : exit_reading.slots ≡ map (option_map read_alien) exited_tables.slots
  unfolding reading_after right_entry
  slots_then =
      slots_told c.times e r.slots refl
      ∙ ap (with_new_alien e (map (option_map (told_alien e)) r.slots)) (nothing_arrives c host r pid calls.Exit)
      ∙ ap (map (option_map (told_alien e))) h.slots
      ∙ told_all t.slots (λ i. told_at i (alien_at t.slots i) refl)

  exit_part : Part host exited_tables exit_reading.view
  exit_part = subst (Part host exited_tables) (sym (called_view c host r pid calls.Exit ∙ kernel_is))
      (part_exited host t r.view part pid own s found ready r.now at place does)

  carries_one : Carries 1 t exited_tables
  carries_one = carries_more (exit_carries host t r.view part pid own s found ready r.now at place)

  pub exit_stands : Stands c.times host exited_tables exit_reading
  exit_stands = stands_part c.times host t exited_tables r exit_reading h exit_part carries_one (record {
    slots = slots_then;
    events = events_are c host r (Called pid calls.Exit);
    works = λ q x w there blocked work. answered_works c host r pid calls.Exit (ap is_begun answer_is) q;
  })

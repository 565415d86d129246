-- The reading after the entry of a call or of a collect, which takes no frame.
use Rattle.std.proofs.Common.{◌≡◌, ℕ, Bool, true, false, cond, ◌&&◌, List, [], ◌∷◌, fold, refl, ap, ◌∙◌, Option, None}
use Rattle.std.specs.List.{list_any, filter_map, sum_by}
use Rattle.std.specs.Option.{option_map, option_map_or}
use Rattle.std.proofs.lemmas.Bool.{and_right}
use Rattle.vk_types.specs.Types.{Call, EventAnswer, Name, Pid}
use Rattle.vk_base.specs.declared.event.EventAnswer.TheVariants as events_answered
use Rattle.vk_base.specs.declared.step.Step.TheVariants as steps
use Rattle.vk_base.specs.Kernel.{Kernel, holds_of}
use Rattle.vk_base.specs.Packets.{Packet}
use Rattle.vk_base.specs.Pids.{same_pid}
use Rattle.vk_base.specs.Settings.{Settings}
use Rattle.vk_base.specs.Steps.{first_of, is_allowed, next}
use Rattle.vk_base.proofs.PidLemmas.{same_pid_self}
use Rattle.vk_rules.specs.Aliens.{as_arrival, arrival_in, closes, copy_stamp, is_closing, stamp_in}
use Rattle.vk_rules.specs.CallOutcomes.{packets_of, is_ok, steps_behind}
unfoldable use Rattle.vk_rules.specs.CallOutcomes.{call_outcome, collect_outcome}
use Rattle.vk_rules.specs.Entries.{Called, Collected, Entry, is_begun, is_frame_taken, taken_frame, taken_packet}
use Rattle.vk_rules.specs.Frames.{Frame}
use Rattle.vk_rules.specs.Readings.{Reading}
unfoldable use Rattle.vk_rules.specs.Readings.{reading_after}
use Rattle.vk_rules.specs.Right.{answer_to}
unfoldable use Rattle.vk_rules.specs.Right.{right_entry}
use Rattle.vk_rules.specs.Rounds.{list_if}
use Rattle.vk_rules.specs.View.{after_steps}
use Rattle.vk_rules.specs.Works.{Work, answers, begins, copied_in, count_in, has_round, is_answer, is_of_round, is_packet_to}
use Rattle.vk_stands.proofs.After.{closes_is, entry_for, has_round_is, reading_for, slots_still, told_nothing, work_begun, work_still}
use Rattle.vk_stands.proofs.AfterCalls.{begun_closes_none, none_arrive, quiet_packets, rounds_of_others, rounds_unbegun}

-- An entry that takes no frame has no packet: it answers no work and copies nothing to a process, and no alien hears a copy.
pub no_packet : (e : Entry) → taken_frame e ≡ None → taken_packet e ≡ None
no_packet e none = ap (option_map (λ (f : Frame). f.packet)) none

pub answers_none : (k : Kernel) (pid : Pid) (e : Entry) (w : Work) → taken_frame e ≡ None → answers k pid e w ≡ false
answers_none k pid e w none = ap (holds_of (λ packet. holds_of (is_answer pid w packet) (k.procs pid))) (no_packet e none)

pub copies_none : (pid : Pid) (e : Entry) → taken_frame e ≡ None → copied_in pid e ≡ 0
copies_none pid e none = ap (λ o. cond (holds_of (is_packet_to pid) o) (sum_by count_in e.steps) 0) (no_packet e none)

pub unheard : (e : Entry) (name : Name) → taken_frame e ≡ None → stamp_in e name ≡ 0
unheard e name none = ap (λ o. option_map_or (copy_stamp name) o 0) none

pub view_then : (r : Reading) (e : Entry) → taken_frame e ≡ None → after_steps r.view (taken_packet e) e.steps ≡ fold next r.view e.steps
view_then r e none = ap (λ o. after_steps r.view o e.steps) (no_packet e none)

same_none : (b : Bool) → (let none : Option Frame = None in cond b none none ≡ none)
same_none true = refl
same_none false = refl

-- Calls.
module _ (c : Settings) (host : ℕ) (r : Reading) (pid : Pid) (call : Call) where
  abbrev called : Entry
  called = entry_for c host r (Called pid call)

  abbrev answer : EventAnswer
  answer = answer_to c host r (Called pid call)

  abbrev kernel : Kernel
  kernel = next r.view (steps.Call pid call)

  abbrev packets : List Packet
  packets = packets_of r.view kernel r.slots pid call answer

  abbrev after : Reading
  after = reading_for c host r (Called pid call)

  pub no_frame : taken_frame called ≡ None
  unfolding right_entry
  no_frame = same_none (is_frame_taken answer)

  pub called_steps : called.steps ≡ steps.Call pid call ∷ steps_behind kernel pid call answer
  unfolding right_entry call_outcome
  called_steps = refl

  pub called_view : after.view ≡ fold next kernel (steps_behind kernel pid call answer)
  unfolding reading_after right_entry call_outcome
  called_view = view_then r called no_frame

  pub called_rounds : (q : Pid) → has_round q called ≡ list_any (is_of_round q) packets
  unfolding call_outcome
  called_rounds q = has_round_is c host r (Called pid call) q

  pub called_closes : (name : Name) → closes called name ≡ list_any (is_closing name) packets
  unfolding call_outcome
  called_closes name = closes_is c host r (Called pid call) name

  pub nothing_arrives : arrival_in called ≡ None
  unfolding right_entry call_outcome
  nothing_arrives = ap first_of (none_arrive kernel pid call answer)

  -- where nothing is closed, the slots are as they were
  pub called_slots : ((name : Name) → list_any (is_closing name) packets ≡ false) → after.slots ≡ r.slots
  unfolding reading_after right_entry
  called_slots closed = slots_still c.times called r.slots refl nothing_arrives
      (λ i a is. told_nothing called a (unheard called a.name no_frame) (called_closes a.name ∙ closed a.name))

  pub begun_slots : answer ≡ events_answered.Begun → after.slots ≡ r.slots
  begun_slots begun = called_slots (λ name. ap (λ a. list_any (is_closing name) (packets_of r.view kernel r.slots pid call a)) begun
      ∙ begun_closes_none name r.view kernel r.slots pid call)

  pub refused_slots : is_begun answer ≡ false → is_ok answer ≡ false → after.slots ≡ r.slots
  refused_slots unbegun bad =
      called_slots (λ name. ap (list_any (is_closing name)) (quiet_packets r.view kernel r.slots pid call answer unbegun bad))

  -- the work of another process, and of every process where the call is answered at once
  still : (q : Pid) → begins q called ≡ false → has_round q called ≡ false → after.work q ≡ r.work q
  unfolding reading_after right_entry
  still q unbegun unsent = work_still r.view q called (r.work q) (record {
    begun_is = unbegun;
    answered_is = answers_none r.view q called (r.work q) no_frame;
    sent_is = unsent;
    restarted_is = refl;
    copied_is = copies_none q called no_frame;
  })

  pub called_others : (q : Pid) → same_pid pid q ≡ false → after.work q ≡ r.work q
  unfolding right_entry
  called_others q other = still q (ap (λ b. b && is_begun answer) other)
      (called_rounds q ∙ rounds_of_others q r.view kernel r.slots pid call answer other)

  pub answered_works : is_begun answer ≡ false → (q : Pid) → after.work q ≡ r.work q
  unfolding right_entry
  answered_works unbegun q = still q (and_right (same_pid pid q) (is_begun answer) unbegun)
      (called_rounds q ∙ rounds_unbegun q r.view kernel r.slots pid call answer unbegun)

  -- a work that is begun, with its first round
  pub begun_work : is_begun answer ≡ true → list_any (is_of_round pid) packets ≡ true →
      after.work pid ≡ record { since = r.now; rounds = 1; acknowledged = 0; received = 0; fresh = false }
  unfolding reading_after right_entry
  begun_work begun sent = work_begun r.view pid called (r.work pid) (answers r.view pid called (r.work pid)) false (record {
    begun_is = ap (λ b. b && is_begun answer) (same_pid_self pid) ∙ begun;
    answered_is = refl;
    sent_is = called_rounds pid ∙ sent;
    restarted_is = refl;
    copied_is = copies_none pid called no_frame;
  })

-- Collects.
module _ (c : Settings) (host : ℕ) (r : Reading) (pid : Pid) where
  abbrev collected : Entry
  collected = entry_for c host r (Collected pid)

  no_frame_then : taken_frame collected ≡ None
  unfolding right_entry
  no_frame_then = same_none (is_frame_taken (answer_to c host r (Collected pid)))

  pub collected_view : (reading_for c host r (Collected pid)).view ≡
      fold next r.view (list_if (is_allowed r.view (steps.Collect pid)) (steps.Collect pid ∷ []))
  unfolding reading_after right_entry collect_outcome
  collected_view = view_then r collected no_frame_then

  nothing_comes : (b : Bool) → filter_map as_arrival (list_if b (steps.Collect pid ∷ [])) ≡ []
  nothing_comes true = refl
  nothing_comes false = refl

  pub collected_slots : (reading_for c host r (Collected pid)).slots ≡ r.slots
  unfolding reading_after right_entry collect_outcome
  collected_slots = slots_still c.times collected r.slots refl (ap first_of (nothing_comes (is_allowed r.view (steps.Collect pid))))
      (λ i a is. told_nothing collected a (unheard collected a.name no_frame_then) refl)

  pub collected_works : (q : Pid) → (reading_for c host r (Collected pid)).work q ≡ r.work q
  unfolding reading_after right_entry collect_outcome
  collected_works q = work_still r.view q collected (r.work q) (record {
    begun_is = refl;
    answered_is = answers_none r.view q collected (r.work q) no_frame_then;
    sent_is = refl;
    restarted_is = refl;
    copied_is = copies_none q collected no_frame_then;
  })

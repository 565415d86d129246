-- The reading after the entry of a frame that came.
use Rattle.std.proofs.Common.{◌≡◌, ℕ, false, cond, map, slice_index_or, refl, ap, ◌∙◌, Some, None}
use Rattle.std.specs.List.{list_any, filter_map, sum_by}
use Rattle.std.specs.Option.{option_map, option_map_or}
use Rattle.vk_types.specs.Types.{Name, Pid}
use Rattle.vk_base.specs.declared.event.EventAnswer.TheVariants as events_answered
use Rattle.vk_base.specs.Kernel.{holds_of}
use Rattle.vk_base.specs.Packets.{Packet}
use Rattle.vk_base.specs.Settings.{Settings}
use Rattle.vk_base.specs.Steps.{first_of}
use Rattle.vk_frame.specs.declared.header.Header.{Header}
use Rattle.vk_rules.specs.Aliens.{Alien, as_arrival, arrival_in, closes, copy_stamp, is_closing, is_copy, stamp_in, with_new_alien}
use Rattle.vk_rules.specs.Entries.{Delivered, Entry, taken_frame, taken_in, taken_packet}
use Rattle.vk_rules.specs.Frames.{Frame, Framed}
use Rattle.vk_rules.specs.PacketOutcomes.{packet_outcome}
use Rattle.vk_rules.specs.Readings.{Reading}
unfoldable use Rattle.vk_rules.specs.Readings.{reading_after}
use Rattle.vk_rules.specs.Right.{answer_to}
unfoldable use Rattle.vk_rules.specs.Right.{right_entry}
use Rattle.vk_rules.specs.Rounds.{Outcome, nothing}
use Rattle.vk_rules.specs.View.{after_steps}
use Rattle.vk_rules.specs.Works.{Work, acknowledged_by, answers, copied_in, count_in, has_round, is_answer, is_of_round, is_packet_to}
use Rattle.vk_stands.proofs.After.{IsEntryDone, closes_is, entry_for, has_round_is, outcome_for, reading_for, slots_still, slots_told, told_alien, told_nothing, work_by, work_is, work_still}

module _ (c : Settings) (host : ℕ) (r : Reading) (h : Header) (p : Packet) (taken : answer_to c host r (Delivered (Framed h p))
    ≡ events_answered.Taken) where
  abbrev came : Entry
  came = entry_for c host r (Delivered (Framed h p))

  abbrev outcome : Outcome
  outcome = packet_outcome host r p

  abbrev after : Reading
  after = reading_for c host r (Delivered (Framed h p))

  frame_is : taken_frame came ≡ Some (record { header = h; packet = p })
  unfolding right_entry
  frame_is = ap (taken_in (Delivered (Framed h p))) taken

  packet_is : taken_packet came ≡ Some p
  packet_is = ap (option_map (λ (f : Frame). f.packet)) frame_is

  pub came_outcome : outcome_for c host r (Delivered (Framed h p)) ≡ outcome
  came_outcome = ap (λ a. option_map_or (λ (f : Frame). packet_outcome host r f.packet) (taken_in (Delivered (Framed h p)) a) nothing) taken

  pub came_steps : came.steps ≡ outcome.steps
  unfolding right_entry
  came_steps = ap (λ (o : Outcome). o.steps) came_outcome

  pub came_view : after.view ≡ after_steps r.view (Some p) outcome.steps
  unfolding reading_after
  came_view = ap (λ o. after_steps r.view o came.steps) packet_is ∙ ap (after_steps r.view (Some p)) came_steps

  pub came_stamp : (name : Name) → stamp_in came name ≡ copy_stamp name (record { header = h; packet = p })
  came_stamp name = ap (λ o. option_map_or (λ f. copy_stamp name f) o 0) frame_is

  pub came_closes : (name : Name) → closes came name ≡ list_any (is_closing name) outcome.packets
  came_closes name = closes_is c host r (Delivered (Framed h p)) name
      ∙ ap (λ (o : Outcome). list_any (is_closing name) o.packets) came_outcome

  pub came_rounds : (q : Pid) → has_round q came ≡ list_any (is_of_round q) outcome.packets
  came_rounds q = has_round_is c host r (Delivered (Framed h p)) q ∙ ap (λ (o : Outcome). list_any (is_of_round q) o.packets) came_outcome

  pub came_arrival : arrival_in came ≡ first_of (filter_map as_arrival outcome.steps)
  came_arrival = ap (λ ss. first_of (filter_map as_arrival ss)) came_steps

  pub came_copied : (q : Pid) → copied_in q came ≡ cond (is_packet_to q p) (sum_by count_in outcome.steps) 0
  came_copied q =
      ap (λ o. cond (holds_of (is_packet_to q) o) (sum_by count_in came.steps) 0) packet_is
      ∙ ap (λ ss. cond (is_packet_to q p) (sum_by count_in ss) 0) came_steps

  pub came_answers : (q : Pid) (w : Work) → answers r.view q came w ≡ holds_of (is_answer q w p) (r.view.procs q)
  came_answers q w = ap (holds_of (λ packet. holds_of (is_answer q w packet) (r.view.procs q))) packet_is

  -- Slots: as they are told, and with a new alien; or as they were.
  pub came_slots : after.slots ≡ with_new_alien came (map (option_map (told_alien came)) r.slots) (arrival_in came)
  unfolding reading_after right_entry
  came_slots = slots_told c.times came r.slots refl

  pub came_slots_still : first_of (filter_map as_arrival outcome.steps) ≡ None →
      ((i : ℕ) (a : Alien) → slice_index_or r.slots i None ≡ Some a →
      (is_copy a.name p ≡ false) × (list_any (is_closing a.name) outcome.packets ≡ false)) → after.slots ≡ r.slots
  unfolding reading_after right_entry
  came_slots_still none still = slots_still c.times came r.slots refl (came_arrival ∙ none)
      (λ i a is. let f = still i a is in
      told_nothing came a (came_stamp a.name ∙ ap (λ b. cond b h.stamp 0) f.0) (came_closes a.name ∙ f.1))

  -- What the packet does to the work of a process, by its outcome.
  pub came_does : (q : Pid) → IsEntryDone r.view q came (r.work q) false (holds_of (is_answer q (r.work q) p) (r.view.procs q))
      (list_any (is_of_round q) outcome.packets) (list_any (is_of_round q) outcome.packets)
      (cond (is_packet_to q p) (sum_by count_in outcome.steps) 0)
  unfolding right_entry
  came_does q = record {
    begun_is = refl;
    answered_is = came_answers q (r.work q);
    sent_is = came_rounds q;
    restarted_is = came_rounds q;
    copied_is = came_copied q;
  }

  -- no answer, no round and no bytes for it: the work is as it was
  pub came_work_still : (q : Pid) → holds_of (is_answer q (r.work q) p) (r.view.procs q) ≡ false →
      list_any (is_of_round q) outcome.packets ≡ false → cond (is_packet_to q p) (sum_by count_in outcome.steps) 0 ≡ 0 →
      after.work q ≡ r.work q
  unfolding reading_after right_entry
  came_work_still q unanswered unsent uncopied = work_still r.view q came (r.work q) (record {
    begun_is = refl;
    answered_is = came_answers q (r.work q) ∙ unanswered;
    sent_is = came_rounds q ∙ unsent;
    restarted_is = came_rounds q ∙ unsent;
    copied_is = came_copied q ∙ uncopied;
  })

  -- the work as it is then
  pub came_work : (q : Pid) → after.work q ≡ work_by r.now false (holds_of (is_answer q (r.work q) p) (r.view.procs q))
      (list_any (is_of_round q) outcome.packets) (list_any (is_of_round q) outcome.packets) (acknowledged_by (Some p))
      (cond (is_packet_to q p) (sum_by count_in outcome.steps) 0) (r.work q)
  unfolding reading_after right_entry
  came_work q =
      work_is r.view q came (r.work q) (came_does q)
      ∙ ap (λ o. work_by r.now false (holds_of (is_answer q (r.work q) p) (r.view.procs q)) (list_any (is_of_round q) outcome.packets)
      (list_any (is_of_round q) outcome.packets) (acknowledged_by o) (cond (is_packet_to q p) (sum_by count_in outcome.steps) 0) (r.work q))
      packet_is

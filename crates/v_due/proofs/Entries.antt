-- What an entry does, by what it takes: its packet, and the steps of that.
use Rattle.std.proofs.Common.{◌≡◌, ℕ, ◌+◌, false, ◌==◌, [], Option, Some, None, refl, sym, ap, ◌∙◌}
use Rattle.std.proofs.lemmas.Option.{same_Some, none-some}
use Rattle.vk_types.specs.Types.{Pid}
use Rattle.vk_base.specs.Packets.{Packet}
use Rattle.vk_base.specs.Pids.{same_pid}
use Rattle.vk_base.specs.Settings.{Settings}
use Rattle.vk_rules.specs.Entries.{Input, Called, Collected, Ticked, Delivered, is_delivery, taken_in, taken_packet}
use Rattle.vk_rules.specs.Frames.{Frame, Unsealed, frames_of, sender_of}
use Rattle.vk_rules.specs.PacketOutcomes.{packet_outcome}
use Rattle.vk_rules.specs.Readings.{Reading}
use Rattle.vk_rules.specs.Right.{answer_to, number_after, right_entry, tick_after}
use Rattle.vk_rules.specs.Rounds.{Outcome}
use Rattle.vk_rules.proofs.Taken.{outcome_by, packet_taken}
use Rattle.vk_rules.proofs.OwnEvents.{none_taken}
use Rattle.v_ages.proofs.Taken.{ComesOfFrame, Nothing, TakesFrame, from_is, takes}

-- The packet that an entry takes is of a process of another station, and the entry has its steps.
pub record Brings (c : Settings) (host : ℕ) (rd : Reading) (i : Input) (p : Packet) : Type 0 where
  pub away : ((sender_of p).host == host) ≡ false
  pub other : (s : Pid) → s.host ≡ host → same_pid s (sender_of p) ≡ false
  pub steps : (right_entry c host rd i).steps ≡ (packet_outcome host rd p).steps
  pub frames : (right_entry c host rd i).frames
      ≡ frames_of host (tick_after rd i) (number_after rd i) (rd.events + 1) 1 (packet_outcome host rd p).packets

none_in : (c : Settings) (host : ℕ) (rd : Reading) (i : Input) (p : Packet) → is_delivery i ≡ false →
    taken_packet (right_entry c host rd i) ≡ Some p → Brings c host rd i p
unfolding right_entry
none_in c host rd i p d e = absurd (none-some p (sym (ap packet_taken (none_taken i (answer_to c host rd i) d)) ∙ e))

delivery_brings : (c : Settings) (host : ℕ) (rd : Reading) (u : Unsealed) (p : Packet) → ComesOfFrame host rd.now c.times.life u →
    packet_taken (taken_in (Delivered u) (answer_to c host rd (Delivered u))) ≡ Some p → Brings c host rd (Delivered u) p
unfolding right_entry
delivery_brings c host rd u p (Nothing none) e = absurd (none-some p (sym (ap packet_taken none) ∙ e))
delivery_brings c host rd u p (TakesFrame h q is taken for young between) e =
    let same : q ≡ p = same_Some q p (sym (ap packet_taken taken) ∙ e) in
    let from = from_is host h q for between in
    record {
      away = ap (λ z. (sender_of z).host == host) (sym same) ∙ from.away;
      other = λ s here. ap (λ z. same_pid s (sender_of z)) (sym same) ∙ from.other s here;
      steps = ap (λ o. (outcome_by host rd o).steps) taken ∙ ap (λ z. (packet_outcome host rd z).steps) same;
      frames = ap (λ (o : Outcome). frames_of host rd.now (number_after rd (Delivered u)) (rd.events + 1) 1 o.packets)
          (ap (outcome_by host rd) taken ∙ ap (packet_outcome host rd) same);
    }

pub brings : (c : Settings) (host : ℕ) (rd : Reading) (i : Input) (p : Packet) → taken_packet (right_entry c host rd i) ≡ Some p →
    Brings c host rd i p
unfolding right_entry
brings c host rd (Called pid call) p e = none_in c host rd (Called pid call) p refl e
brings c host rd (Collected pid) p e = none_in c host rd (Collected pid) p refl e
brings c host rd Ticked p e = none_in c host rd Ticked p refl e
brings c host rd (Delivered u) p e = delivery_brings c host rd u p (takes host rd.now c.times.life u) e

-- where a delivery takes none it has no steps
abbrev pub IsDelivery : Input → Type 0
IsDelivery (Delivered u) = Unit {0}
IsDelivery i = ⊥

pub untaken : (c : Settings) (host : ℕ) (rd : Reading) (i : Input) → taken_packet (right_entry c host rd i) ≡ None → IsDelivery i →
    (right_entry c host rd i).steps ≡ []
unfolding right_entry
untaken c host rd (Called pid call) e d = absurd d
untaken c host rd (Collected pid) e d = absurd d
untaken c host rd Ticked e d = absurd d
untaken c host rd (Delivered u) e d = by_none (taken_in (Delivered u) (answer_to c host rd (Delivered u))) e
  where
    by_none : (o : Option Frame) → packet_taken o ≡ None → (outcome_by host rd o).steps ≡ []
    by_none None e = refl
    by_none (Some f) e = absurd (none-some f.packet (sym e))

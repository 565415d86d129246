-- A frame that is taken is for this station and from another, and its packet is one that can be spelled.
use Rattle.std.proofs.Common.{◌≡◌, ℕ, ◌<◌, Bool, true, false, cond, ◌&&◌, ◌||◌, ◌==◌, not, refl, sym, ap, ◌∙◌, Some, arith}
use Rattle.std.proofs.lemmas.Bool.{and_parts, both_ways, eq-eqb, eqb-true, not-true}
use Rattle.std.specs.Option.{option_map_or}
use Rattle.vk_types.specs.Types.{Pid}
use Rattle.vk_base.specs.declared.event.EventAnswer.TheVariants as events_answered
use Rattle.vk_base.specs.Packets.{Packet}
use Rattle.vk_base.specs.Settings.{Settings}
use Rattle.vk_frame.specs.declared.header.Header.{Header}
use Rattle.vk_frame.specs.Rules.{is_young}
use Rattle.vk_packet.specs.Rules.{is_lawful}
use Rattle.vk_rules.specs.Entries.{Delivered}
use Rattle.vk_rules.specs.Frames.{Framed, destination_of, every_station, is_between, is_for, receiver_of, sender_of, source_of}
use Rattle.vk_rules.specs.Readings.{Reading}
use Rattle.vk_rules.specs.Right.{answer_to}

pub record IsFor (host : ℕ) (p : Packet) : Type 0 where
  pub own : (to : Pid) → receiver_of p ≡ Some to → to.host ≡ host
  pub away : (sender_of p).host ≡ host → ⊥
  pub lawful : is_lawful p ≡ true

taken_by : (f y b l : Bool) → (cond (not f) events_answered.Bad
    (cond (not y) events_answered.Old (cond (b && l) events_answered.Taken events_answered.Bad))) ≡ events_answered.Taken →
    (f ≡ true) × (b ≡ true) × (l ≡ true)
taken_by true true true true is = (refl, refl, refl)
taken_by true true true false is = cc
taken_by true true false l is = cc
taken_by true false b l is = cc
taken_by false y b l is = cc

either_is : (a b : Bool) → (a || b) ≡ true → (a ≡ false → b ≡ true)
either_is a b t f = sym (ap (λ x. x || b) f) ∙ t

here_by : (destination host n : ℕ) (a : Bool) → (destination == host) ≡ a → (a ≡ false → (destination == every_station) ≡ true) →
    n ≡ destination → n < 65535 → n ≡ host
here_by destination host n true is every same low = same ∙ eqb-true destination host is
here_by destination host n false is every same low = let all : destination ≡ 65535 =
    eqb-true destination every_station (every refl) in absurd (omega arith)

module _ (c : Settings) (host : ℕ) (r : Reading) (h : Header) (p : Packet)
    (taken : answer_to c host r (Delivered (Framed h p)) ≡ events_answered.Taken) where
  parts : (is_for host h ≡ true) × (is_between h p ≡ true) × (is_lawful p ≡ true)
  parts = taken_by (is_for host h) (is_young h r.now c.times.life) (is_between h p) (is_lawful p) taken

  for : ((h.destination == host || h.destination == every_station) ≡ true) × (not (h.source == host) ≡ true)
  for = and_parts (h.destination == host || h.destination == every_station) (not (h.source == host)) parts.0

  between : ((source_of p == h.source) ≡ true) × ((destination_of p == h.destination) ≡ true)
  between = and_parts (source_of p == h.source) (destination_of p == h.destination) parts.1

  pub received : IsFor host p
  received = record {
    own = λ to is.
        let there : to.host ≡ h.destination = sym (ap (λ o. option_map_or (λ (pid : Pid). pid.host) o every_station) is)
        ∙ eqb-true (destination_of p) h.destination between.1 in
        here_by h.destination host to.host (h.destination == host) refl
        (either_is (h.destination == host) (h.destination == every_station) for.0) there to.one_host;
    away = λ same.
        both_ways (h.source == host) (not-true (h.source == host) for.1)
        (eq-eqb h.source host (sym (eqb-true (source_of p) h.source between.0) ∙ same));
    lawful = parts.2;
  }

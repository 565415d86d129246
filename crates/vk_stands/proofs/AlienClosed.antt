-- The entry of a call that closes an alien: its sender is told the reply, and the relation after it.
use Rattle.std.proofs.Common.{◌≡◌, ◌≤◌, ℕ, zero, suc, max, Bool, true, false, ◌&&◌, ◌==◌, List, [], ◌∷◌, ◌++◌, length, map, set, Option, Some, None, refl, sym, ap, subst, ◌∙◌, arith}
use Rattle.std.specs.List.{fold, list_any, position}
use Rattle.std.specs.Option.{option_map, option_or}
use Rattle.std.proofs.lemmas.Bool.{false_from_ne_true}
use Rattle.std.proofs.lemmas.Option.{none-some, same_Some}
use Rattle.vk_types.specs.Types.{Call, Exchange, Message, Pid, Step}
use Rattle.vk_base.specs.declared.answer.Answer.TheVariants as answers
use Rattle.vk_base.specs.declared.event.EventAnswer.TheVariants as events_answered
use Rattle.vk_base.specs.declared.kernel.Stage.TheVariants as stages
use Rattle.vk_base.specs.declared.limits.TheConstants.{SEGMENT_BYTES}
use Rattle.vk_base.specs.declared.step.Step.TheVariants as steps
use Rattle.vk_base.specs.Calls.{answered}
use Rattle.vk_base.specs.Kernel.{Kernel, is_taken, same_name, with_stage}
use Rattle.vk_base.specs.Packets.{Packet, Reply}
use Rattle.vk_base.specs.Pids.{same_pid}
use Rattle.vk_base.specs.Settings.{Settings}
use Rattle.vk_base.specs.Steps.{after_effect, effect, next, only_if}
use Rattle.vk_base.proofs.BoolLemmas.{or_false}
use Rattle.v_laws.proofs.Tables.{same_name_self, same_pid_is}
use Rattle.vk_packet.specs.Posts.{Posts}
use Rattle.vk_pool.specs.declared.alien.Alien.{Alien}
use Rattle.vk_pool.specs.declared.alien.AlienStage.{AlienStage}
use Rattle.vk_pool.specs.declared.alien.AlienStage.TheVariants as alien_stages
use Rattle.vk_pool.specs.Aliens.{alien_at, closed_in, is_alien_from, replied}
use Rattle.vk_rules.specs.Aliens as readings
use Rattle.vk_rules.specs.Aliens.{closes, is_closing, with_new_alien}
use Rattle.vk_rules.specs.CallOutcomes.{effect_answer, packets_of, steps_behind}
unfoldable use Rattle.vk_rules.specs.CallOutcomes.{call_outcome}
use Rattle.vk_rules.specs.Entries.{Called, Entry, is_begun}
use Rattle.vk_rules.specs.Readings.{Reading}
unfoldable use Rattle.vk_rules.specs.Readings.{reading_after}
use Rattle.vk_rules.specs.Right.{answer_to}
unfoldable use Rattle.vk_rules.specs.Right.{right_entry}
use Rattle.vk_stands.specs.Fit.{AreFit}
use Rattle.vk_stands.specs.Rules.{Makes, posted}
use Rattle.vk_stands.specs.Stands.{Stands}
use Rattle.vk_stands.specs.Tables.{Tables, alien_name, read_alien, stage_by, stage_of}
use Rattle.vk_stands.proofs.After.{entry_for, events_are, max_zero, packets_are, reading_for, same_closed, slots_told, told_alien}
use Rattle.vk_stands.proofs.AfterEntries.{answered_works, called_closes, called_steps, called_view, no_frame, nothing_arrives, unheard}
use Rattle.vk_stands.proofs.AlienReply.{closed_carries, closed_part, kept_alien}
use Rattle.vk_stands.proofs.OneAlien.{slotted}
use Rattle.vk_stands.proofs.Parts.{Part, carries_more, part_of, stands_part}

-- an alien whose message was taken is not closed
pub open_by : (stage : AlienStage) (bytes : List ℕ) → is_taken (stage_by stage bytes) ≡ true → closed_in stage ≡ None
open_by alien_stages.Queued bytes t = refl
open_by alien_stages.Taken bytes t = refl
open_by (alien_stages.Replied m dest closed) bytes t = absurd (cc)
open_by (alien_stages.Refused closed) bytes t = absurd (cc)

-- Slots of which one is told something, and the others nothing.
module _ (told : readings.Alien → readings.Alien) where
  none_told : (slots : List (Option Alien)) →
      ((j : ℕ) (b : Alien) → alien_at slots j ≡ Some b → told (read_alien b) ≡ read_alien b) →
      map (option_map told) (map (option_map read_alien) slots) ≡ map (option_map read_alien) slots
  none_told [] still = refl
  none_told (None ∷ slots) still = ap (λ xs. None ∷ xs) (none_told slots (λ j b at. still (suc j) b at))
  none_told (Some a ∷ slots) still =
      ap (λ x. Some x ∷ map (option_map told) (map (option_map read_alien) slots)) (still 0 a refl)
      ∙ ap (λ xs. Some (read_alien a) ∷ xs) (none_told slots (λ j b at. still (suc j) b at))

  one_told : (slots : List (Option Alien)) (i : ℕ) (a new : Alien) → alien_at slots i ≡ Some a → told (read_alien a) ≡ read_alien new →
      ((j : ℕ) (b : Alien) → alien_at slots j ≡ Some b → (j ≡ i → ⊥) → told (read_alien b) ≡ read_alien b) →
      map (option_map told) (map (option_map read_alien) slots) ≡ map (option_map read_alien) (set slots i (Some new))
  one_told [] i a new at here still = absurd (none-some a at)
  one_told (slot ∷ slots) zero a new at here still =
      ap (λ o. option_map told (option_map read_alien o) ∷ map (option_map told) (map (option_map read_alien) slots)) at
      ∙ ap (λ x. Some x ∷ map (option_map told) (map (option_map read_alien) slots)) here
      ∙ ap (λ xs. Some (read_alien new) ∷ xs) (none_told slots (λ j b there. still (suc j) b there (λ e. omega (arith, e))))
  one_told (slot ∷ slots) (suc i) a new at here still =
      ap (λ x. x ∷ map (option_map told) (map (option_map read_alien) slots)) (head slot refl)
      ∙ ap (λ xs. option_map read_alien slot ∷ xs) (one_told slots i a new at here
      (λ j b there apart. still (suc j) b there (λ e. apart (omega (arith, e)))))
    where
      head : (o : Option Alien) → slot ≡ o → option_map told (option_map read_alien o) ≡ option_map read_alien o
      head None is = refl
      head (Some b) is = ap Some (still 0 b is (λ e. omega (arith, e)))

module _ (c : Settings) (host : ℕ) (t : Tables) (r : Reading) (h : Stands c.times host t r) (fit : AreFit host t) (i : ℕ) (a : Alien)
    (here : alien_at t.slots i ≡ Some a) (taken : is_taken (stage_of a) ≡ true) (m : Message) (dest : ℕ) (bytes : List ℕ)
    (few : length bytes ≤ SEGMENT_BYTES) (pid : Pid) (call : Call) where
  abbrev part : Part host t r.view
  part = part_of c.times host t r fit h

  abbrev x : Exchange
  x = (kept_alien host t r.view part i a here taken m dest bytes r.now).exchange

  abbrev l : Kernel
  l = with_stage r.view (alien_name a) x (stages.Replied m dest bytes)

  abbrev f : Alien → Alien
  f = replied m dest bytes r.now

  abbrev u : Tables
  u = slotted t i f

  abbrev reply : Packet
  reply = Reply a.target a.sender a.number m dest bytes

  abbrev e : Entry
  e = entry_for c host r (Called pid call)

  module _ (does : effect r.view (steps.Call pid call) ≡ Some (answered l pid call answers.Ok))
      (behind : (k : Kernel) → steps_behind k pid call (events_answered.Answered answers.Ok) ≡ [])
      (tells : packets_of r.view l r.slots pid call (events_answered.Answered answers.Ok) ≡ reply ∷ []) where
    kernel_is : next r.view (steps.Call pid call) ≡ l
    kernel_is = ap (after_effect r.view) does

    pub closing_answer : answer_to c host r (Called pid call) ≡ events_answered.Answered answers.Ok
    closing_answer = ap effect_answer does

    behind_is : steps_behind (next r.view (steps.Call pid call)) pid call (answer_to c host r (Called pid call)) ≡ []
    behind_is = ap (steps_behind (next r.view (steps.Call pid call)) pid call) closing_answer ∙ behind (next r.view (steps.Call pid call))

    packets_told : packets_of r.view (next r.view (steps.Call pid call)) r.slots pid call (answer_to c host r (Called pid call))
        ≡ reply ∷ []
    packets_told = (λ j. packets_of r.view (kernel_is j) r.slots pid call (closing_answer j)) ∙ tells

    closes_is : (b : Alien) → closes e (alien_name b) ≡ same_name (alien_name a) (alien_name b)
    closes_is b = called_closes c host r pid call (alien_name b) ∙ ap (list_any (is_closing (alien_name b))) packets_told
        ∙ or_false (same_name (alien_name a) (alien_name b))

    told_as : (b : Alien) (closing : Bool) → same_name (alien_name a) (alien_name b) ≡ closing →
        told_alien e (read_alien b) ≡ record (read_alien b) { closed = option_or (closed_in b.stage) (only_if closing (Some r.now)) }
    unfolding right_entry
    told_as b closing is = λ j. record (read_alien b) {
      newest = (ap (max b.newest) (unheard e (alien_name b) (no_frame c host r pid call)) ∙ max_zero b.newest) j;
      closed = option_or (closed_in b.stage) (only_if ((closes_is b ∙ is) j) (Some r.now));
    }

    told_here : told_alien e (read_alien a) ≡ read_alien (f a)
    told_here = told_as a true (same_name_self (alien_name a))
        ∙ ap (λ o. record (read_alien a) { closed = option_or o (Some r.now) }) (open_by a.stage a.bytes taken)

    -- aliens have a sender each
    apart : (j : ℕ) (b : Alien) → alien_at t.slots j ≡ Some b → (j ≡ i → ⊥) → same_pid a.sender b.sender ≡ false
    apart j b there other = false_from_ne_true (same_pid a.sender b.sender) (λ same.
        let place : Some j ≡ Some i = sym (fit.apart j b there) ∙ ap (λ p. position (is_alien_from p) t.slots)
        (sym (same_pid_is a.sender b.sender same)) ∙ fit.apart i a here in
        other (same_Some j i place))

    told_other : (j : ℕ) (b : Alien) → alien_at t.slots j ≡ Some b → (j ≡ i → ⊥) → told_alien e (read_alien b) ≡ read_alien b
    told_other j b there other =
        told_as b false (ap (λ q. q && a.number == b.number) (apart j b there other))
        ∙ ap (λ o. record (read_alien b) { closed = o }) (same_closed (closed_in b.stage))

    slots_then : (reading_for c host r (Called pid call)).slots ≡ map (option_map read_alien) u.slots
    unfolding reading_after right_entry
    slots_then =
        slots_told c.times e r.slots refl
        ∙ ap (with_new_alien e (map (option_map (told_alien e)) r.slots)) (nothing_arrives c host r pid call)
        ∙ ap (map (option_map (told_alien e))) h.slots
        ∙ one_told (told_alien e) t.slots i a (f a) here told_here told_other
        ∙ ap (λ o. map (option_map read_alien) (set t.slots i (option_map f o))) (sym here)

    closed_stands : Stands c.times host u (reading_for c host r (Called pid call))
    closed_stands = stands_part c.times host t u r (reading_for c host r (Called pid call)) h
        (subst (Part host u) (sym (called_view c host r pid call ∙ (λ j. fold next (kernel_is j) (behind_is j))))
        (closed_part host t r.view part i a here taken m dest bytes r.now few))
        (carries_more (closed_carries host t r.view part i a here taken m dest bytes r.now)) (record {
          slots = slots_then;
          events = events_are c host r (Called pid call);
          works = λ q s w there blocked work. answered_works c host r pid call (ap is_begun closing_answer) q;
        })

    pub closing_makes : (before : List Step) (out : Posts) → Makes c host r (right_entry c host r (Called pid call))
        (record { tables = t; steps = before; out = out })
        (record { tables = u; steps = before ++ (steps.Call pid call ∷ []); out = posted out (reply ∷ []) })
    unfolding call_outcome
    closing_makes before out = record {
      steps = ap (λ ss. before ++ ss) (sym (called_steps c host r pid call ∙ ap (λ ss. steps.Call pid call ∷ ss) behind_is));
      packets = ap (posted out) (sym (packets_are c host r (Called pid call) ∙ packets_told));
      stands = closed_stands;
    }

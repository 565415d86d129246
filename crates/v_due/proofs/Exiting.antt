-- The law of exits that tell senders of other stations.
use Rattle.std.proofs.Common.{◌≡◌, ℕ, zero, suc, ◌+◌, true, false, not, List, [], ◌∷◌, ◌++◌, flat_map, map, option_map, Option, Some, refl, sym, ap, subst, ◌∙◌, append_assoc}
use Rattle.std.proofs.lemmas.Bool.{and_from, cond-true}
use Rattle.std.proofs.lemmas.Option.{none-some}
use Rattle.std.specs.Option.{option_map_or}
use Rattle.vk_types.specs.Types.{Exchange, Process}
use Rattle.vk_base.specs.declared.call.Call.TheVariants as calls
use Rattle.vk_base.specs.declared.kernel.Stage.TheVariants as stages
use Rattle.vk_base.specs.declared.step.Step.TheVariants as steps
use Rattle.vk_base.specs.Calls.{call_step, dropped_at, exited, is_message_at, released}
use Rattle.vk_base.specs.Kernel.{Kernel, holds_of, is_at_target, is_live}
use Rattle.vk_base.specs.Packets.{Packet, Negative}
use Rattle.vk_base.specs.Pids.{same_pid}
use Rattle.vk_base.specs.Settings.{Settings}
use Rattle.vk_base.specs.Steps.{next}
use Rattle.vk_base.proofs.PidLemmas.{same_pid_self}
use Rattle.vk_rules.specs.Aliens.{Alien}
use Rattle.vk_rules.specs.CallOutcomes.{call_outcome, exit_packets, is_ok, negative_for}
use Rattle.vk_rules.specs.Entries.{Called}
use Rattle.vk_rules.specs.Frames.{Frame, frames_of}
use Rattle.vk_rules.specs.Readings.{Reading}
use Rattle.vk_rules.specs.Right.{answer_to, right_entry}
use Rattle.vk_rules.specs.Rounds.{list_if, told_of, told_sender}
use Rattle.v_ages.proofs.Slots.{at}
use Rattle.v_due.specs.Failures.{reading_behind}
use Rattle.v_due.specs.Holders.{ExitsTellSenders, IsAmongSent}
use Rattle.v_due.proofs.Nearby.{exit_is}

-- what is sent is what the frames have
sent_packets : (host stamp number event output : ℕ) (ps : List Packet) →
    map (λ (f : Frame). f.packet) (frames_of host stamp number event output ps) ≡ ps
sent_packets host stamp number event output [] = refl
sent_packets host stamp number event output (p ∷ ps) = ap (λ xs. p ∷ xs) (sent_packets host stamp number event (output + 1) ps)

-- one slot's packets among those of all
record IsAmong (ps : List Packet) (p : Packet) : Type 0 where
  before : List Packet
  after : List Packet
  is : ps ≡ before ++ p ∷ after

one_slot : (f : Option Alien → List Packet) (slots : List (Option Alien)) (i : ℕ) (a : Alien) (p : Packet) → at slots i ≡ Some a →
    f (Some a) ≡ p ∷ [] → IsAmong (flat_map f slots) p
one_slot f [] i a p there is = absurd (none-some a there)
one_slot f (x ∷ xs) zero a p there is =
    record { before = []; after = flat_map f xs; is = ap (λ ys. ys ++ flat_map f xs) (ap f there ∙ is) }
one_slot f (x ∷ xs) (suc i) a p there is =
    let rest = one_slot f xs i a p there is in
    record {
      before = f x ++ rest.before;
      after = rest.after;
      is = ap (λ ys. f x ++ ys) rest.is ∙ sym (append_assoc (f x) rest.before (p ∷ rest.after));
    }

-- Behind the exit its sender is told by a Negative.
exit_tells : (k : Kernel) (p : Process) (a : Alien) (e : Exchange) → k.exchanges a.name ≡ Some e → is_at_target e.stage ≡ true →
    told_sender (exited k e.at p) a.name ≡ Negative e.target a.name.sender a.name.number ∷ []
unfolding told_sender exited
exit_tells k p a e sent waits =
    let l = exited k e.at p in
    let mine : is_message_at e.at e ≡ true = and_from (same_pid e.at e.at) (is_at_target e.stage) (same_pid_self e.at) waits in
    let dropped : option_map (dropped_at e.at) (k.exchanges a.name) ≡ Some (record e { stage = stages.Dropped }) =
    ap (option_map (dropped_at e.at)) sent ∙ ap Some (cond-true (is_message_at e.at e) (record e { stage = stages.Dropped }) e mine) in
    let dead : is_live (l.procs e.at) ≡ false =
    ap is_live (cond-true (same_pid e.at e.at) (Some (record p { alive = false })) (option_map (released k e.at e.at) (k.procs e.at))
    (same_pid_self e.at)) in
    ap (λ o. option_map_or (told_of l a.name) o []) dropped
    ∙ ap (λ b. list_if (not b) (Negative e.target a.name.sender a.name.number ∷ [])) dead

exit_sends : (c : Settings) (host : ℕ) (rd : Reading) (slot : ℕ) (a : Alien) (e : Exchange) → at rd.slots slot ≡ Some a →
    rd.view.exchanges a.name ≡ Some e → is_at_target e.stage ≡ true → is_ok (answer_to c host rd (Called e.at calls.Exit)) ≡ true →
    IsAmongSent (right_entry c host rd (Called e.at calls.Exit)) (Negative e.target a.name.sender a.name.number)
unfolding right_entry call_outcome
exit_sends c host rd slot a e there sent waits ok =
    let k = rd.view in
    let answer = answer_to c host rd (Called e.at calls.Exit) in
    let exit = exit_is k e.at (call_step k e.at calls.Exit) refl ok in
    let l = next k (steps.Call e.at calls.Exit) in
    let p : Packet = Negative e.target a.name.sender a.name.number in
    let mine : holds_of (is_message_at e.at) (k.exchanges a.name) ≡ true =
    ap (holds_of (is_message_at e.at)) sent ∙ and_from (same_pid e.at e.at) (is_at_target e.stage) (same_pid_self e.at) waits in
    let told : told_sender l a.name ≡ p ∷ [] = ap (λ m. told_sender m a.name) exit.3 ∙ exit_tells k exit.0 a e sent waits in
    let one : negative_for k l e.at a ≡ p ∷ [] = cond-true (holds_of (is_message_at e.at) (k.exchanges a.name)) (told_sender l a.name) [] mine
    ∙ told in
    let among = one_slot (λ x. option_map_or (negative_for k l e.at) x []) rd.slots slot a p there one in
    record {
      before = among.before;
      after = among.after;
      is = sent_packets host _ _ _ 1 (list_if (is_ok answer) (exit_packets k l rd.slots e.at))
          ∙ cond-true (is_ok answer) (exit_packets k l rd.slots e.at) [] ok ∙ among.is;
    }

pub exits_tell_senders : ExitsTellSenders
unfolding right_entry
exits_tell_senders c host is i slot h =
    let rd = reading_behind c host is in
    let ok = ap (λ z. is_ok (right_entry c host rd z).answer) (sym h.exits) ∙ h.answered in
    subst (λ z. IsAmongSent (right_entry c host rd z) (Negative h.exchange.target h.alien.name.sender h.alien.name.number)) (sym h.exits)
    (exit_sends c host rd slot h.alien h.exchange h.there h.sent h.waits ok)

-- The laws of packets that change nothing.
use Rattle.std.proofs.Common.{◌≡◌, ℕ, ◌+◌, true, false, List, [], Option, Some, None, is_some, refl, sym, ap, ◌∙◌, arith}
use Rattle.std.proofs.lemmas.Bool.{both_ways}
use Rattle.vk_types.specs.Types.{Name, Pid, Step}
use Rattle.vk_base.specs.declared.step.Step.TheVariants as steps
use Rattle.vk_base.specs.declared.answer.Ending.TheVariants as endings
use Rattle.vk_base.specs.Kernel.{Kernel, holds_of, name_of}
use Rattle.vk_base.specs.Packets.{Packet, Send, Reply, Pending, Negative}
use Rattle.vk_base.specs.Pids.{same_pid}
use Rattle.vk_base.specs.Settings.{Settings}
use Rattle.vk_base.proofs.PidLemmas.{same_pid_self}
use Rattle.vk_rules.specs.Aliens.{Alien, alien_of, is_alien_of}
use Rattle.vk_rules.specs.Entries.{Input}
use Rattle.vk_rules.specs.Frames.{frames_of}
use Rattle.vk_rules.specs.PacketOutcomes.{FarSender, far_sender, packet_outcome, send_outcome, takes_reply}
use Rattle.vk_rules.specs.Readings.{Reading, reading, reading_after}
use Rattle.vk_rules.specs.Right.{number_after, tick_after}
use Rattle.vk_rules.specs.Rounds.{Outcome, nothing, step_where}
use Rattle.vk_rules.specs.View.{after_steps}
use Rattle.vk_rules.specs.Works.{awaits}
use Rattle.v_ages.proofs.Slots.{at, alien_there, no_alien}
use Rattle.v_ages.proofs.Tame.{Dead, Full, Ignored, IsNew, Known, Lets, SendsTo, sends_to}
use Rattle.v_whole.specs.EveryFrame.{EveryFrameHolds}
use Rattle.v_due.specs.Failures.{reading_behind}
use Rattle.v_due.specs.Negatives.{IsTakenNext}
use Rattle.v_due.specs.Turns.{next_entry}
use Rattle.v_due.specs.Unseen.{ChangesNothing, CopiesChangeNothing, LateNegativesPassBy, LateRepliesPassBy, PassesBy, PendingsPassBy}
use Rattle.v_due.proofs.Entries.{brings}
use Rattle.v_due.proofs.Negated.{awaited_by}

-- An entry that takes a packet and has no step.
unchanged : (c : Settings) (host : ℕ) (is : List Input) (i : Input) (p : Packet) → IsTakenNext c host is i p →
    (next_entry c host is i).steps ≡ [] → ChangesNothing c host is i
unfolding reading reading_after
unchanged c host is i p taken none =
    let k = (reading_behind c host is).view in
    let e = next_entry c host is i in
    ap (λ (q : Option Packet). after_steps k q e.steps) taken ∙ ap (λ ss. after_steps k (Some p) ss) none

steps_are : (c : Settings) (host : ℕ) (is : List Input) (i : Input) (p : Packet) (ss : List Step) → IsTakenNext c host is i p →
    (packet_outcome host (reading_behind c host is) p).steps ≡ ss → (next_entry c host is i).steps ≡ ss
steps_are c host is i p ss taken same = (brings c host (reading_behind c host is) i p taken).steps ∙ same

passes_by : (c : Settings) (host : ℕ) (is : List Input) (i : Input) (p : Packet) → IsTakenNext c host is i p →
    packet_outcome host (reading_behind c host is) p ≡ nothing → PassesBy c host is i
passes_by c host is i p taken none =
    let rd = reading_behind c host is in
    let b = brings c host rd i p taken in
    record {
      view = unchanged c host is i p taken (b.steps ∙ ap (λ (o : Outcome). o.steps) none);
      silent = b.frames ∙ ap (λ (o : Outcome). frames_of host (tick_after rd i) (number_after rd i) (rd.events + 1) 1 o.packets) none;
    }

pub pendings_pass_by : PendingsPassBy
unfolding packet_outcome
pendings_pass_by c host is i from to number taken = passes_by c host is i (Pending from to number) taken refl

-- Who does not wait is no sender for a reply.
none_waits : (k : Kernel) (to from : Pid) (number : ℕ) → holds_of (λ p. awaits to p from number) (k.procs to) ≡ false →
    far_sender k (name_of to number) from ≡ None
none_waits k to from number late = by_sender (far_sender k (name_of to number) from) refl
  where
    by_sender : (o : Option FarSender) → far_sender k (name_of to number) from ≡ o → o ≡ None
    by_sender None is = refl
    by_sender (Some w) is = absurd (both_ways (holds_of (λ p. awaits to p from number) (k.procs to)) late
        (awaited_by k to from number (ap (λ o. is_some o) is)))

pub late_replies_pass_by : LateRepliesPassBy
unfolding packet_outcome
late_replies_pass_by c host is i from to number message dest bytes taken late =
    passes_by c host is i (Reply from to number message dest bytes) taken
    (ap (λ (o : Option FarSender). step_where (holds_of (takes_reply dest bytes) o) (steps.Finish to))
    (none_waits (reading_behind c host is).view to from number late))

pub late_negatives_pass_by : LateNegativesPassBy
unfolding packet_outcome
late_negatives_pass_by c host is i from to number taken late =
    passes_by c host is i (Negative from to number) taken
    (ap (λ (o : Option FarSender). step_where (is_some o) (steps.Fail to endings.NoProcess))
    (none_waits (reading_behind c host is).view to from number late))

-- A Send that is known.
known_silent : (rd : Reading) (p : Packet) (name : Name) (to : Pid) → (IsNew rd name → ⊥) → SendsTo rd p name to →
    (send_outcome rd p name to).steps ≡ []
known_silent rd p name to old (Ignored is) = ap (λ (o : Outcome). o.steps) is
known_silent rd p name to old (Known a there same is) = ap (λ (o : Outcome). o.steps) is
known_silent rd p name to old (Dead new is) = absurd (old new)
known_silent rd p name to old (Full full is) = ap (λ (o : Outcome). o.steps) is
known_silent rd p name to old (Lets new room is) = absurd (old new)

-- the alien of the slot is the one that is found
found_alien : (slots : List (Option Alien)) (from : Pid) (slot : ℕ) (a : Alien) (o : Option Alien) → at slots slot ≡ Some a →
    a.name.sender ≡ from → ((i j : ℕ) → is_alien_of from (at slots i) ≡ true → is_alien_of from (at slots j) ≡ true → i ≡ j) →
    alien_of slots from ≡ o → o ≡ Some a
found_alien slots from slot a None there sender once is =
    let own = ap (is_alien_of from) there ∙ ap (λ q. same_pid q from) sender ∙ same_pid_self from in
    absurd (both_ways (is_alien_of from (at slots slot)) (no_alien slots from slot is) own)
found_alien slots from slot a (Some b) there sender once is =
    let own = ap (is_alien_of from) there ∙ ap (λ q. same_pid q from) sender ∙ same_pid_self from in
    let x = alien_there slots from b is in
    let place = once x.place slot (ap (is_alien_of from) x.is ∙ x.of) own in
    sym x.is ∙ ap (at slots) place ∙ there

pub copies_change_nothing : EveryFrameHolds → CopiesChangeNothing
unfolding packet_outcome
copies_change_nothing every c host is i from to number message part own taken known =
    let rd = reading_behind c host is in
    let p : Packet = Send from to number message part in
    let name = name_of from number in
    let found = found_alien rd.slots from known.slot known.alien (alien_of rd.slots from) known.there known.sender
    ((every c host is own).aliens.once from) refl in
    let old : IsNew rd name → ⊥ = λ new. let less = new known.alien found in let reached = known.reached in omega arith in
    unchanged c host is i p taken (steps_are c host is i p [] taken (known_silent rd p name to old (sends_to rd p name to)))

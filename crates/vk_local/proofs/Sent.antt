-- A Send within the station is its right entry.
use Rattle.std.proofs.Common.{◌≡◌, ◌<◌, ℕ, ◌+◌, ◌^◌, Bool, true, false, not, List, [], ◌∷◌, ◌++◌, Option, Some, None, refl, sym, ap, subst, ◌∙◌, arith}
use Rattle.std.specs.List.{position}
use Rattle.std.specs.Option.{option_map, option_map_or}
use Rattle.std.proofs.lemmas.Bool.{eqb-true}
use Rattle.std.proofs.lemmas.Option.{none-some}
use Rattle.vk_types.specs.Types.{Call, Message, Pid, Process, Refusal, Step}
use Rattle.vk_base.specs.declared.answer.Refusal.TheVariants as refusals
use Rattle.vk_base.specs.declared.call.Call.TheVariants as calls
use Rattle.vk_base.specs.declared.event.EventAnswer.TheVariants as events_answered
use Rattle.vk_base.specs.declared.kernel.State.TheVariants as states
use Rattle.vk_base.specs.declared.step.Step.TheVariants as steps
use Rattle.vk_base.specs.Calls.{call_refusal, called, first_that_holds, unseen}
unfoldable use Rattle.vk_base.specs.Calls.{sent}
use Rattle.vk_base.specs.Kernel.{◌>>=◌, Kernel, holds_of}
use Rattle.vk_base.specs.Messages.{segment_of}
use Rattle.vk_base.specs.Pids.{same_host}
use Rattle.vk_base.specs.Settings.{Settings}
use Rattle.vk_base.specs.Steps.{effect}
use Rattle.v_laws.proofs.Options.{some_that_holds}
use Rattle.v_laws.proofs.Tables.{put_process_here}
use Rattle.vk_packet.specs.Posts.{Posts}
use Rattle.vk_procs.specs.declared.seat.Seat.{Seat}
use Rattle.vk_procs.specs.Seats.{begun_send, is_seat, process_of, seat_in}
use Rattle.vk_rules.specs.CallOutcomes.{packets_of, take_where}
use Rattle.vk_rules.specs.Readings.{Reading}
use Rattle.vk_rules.specs.Rounds.{list_if, round_of, send_packets}
unfoldable use Rattle.vk_rules.specs.Rounds.{round}
use Rattle.vk_rules.specs.Works.{no_work}
use Rattle.vk_stands.specs.Fit.{AreFit}
use Rattle.vk_stands.specs.Stands.{Stands}
use Rattle.vk_stands.specs.Tables.{Tables}
use Rattle.vk_stands.proofs.Parts.{Carries, Part, carries_then, part_of}
use Rattle.vk_stands.proofs.Quiet.{refused_answer}
use Rattle.vk_stands.proofs.Seats.{placed, position-changed}
use Rattle.vk_stands.proofs.Sent.{CanSend}
use Rattle.vk_stands.proofs.SentQueues.{part_sent, sent_carries, sent_tables}
use Rattle.vk_stands.proofs.Waits.{only, seats_changed}
use Rattle.vk_local.specs.Access.{has_range, own_range}
use Rattle.vk_local.specs.Calls as locals
use Rattle.vk_local.specs.Takes.{served}
use Rattle.vk_local.specs.Calls.{after_send, begun, begun_by, queued_by, send_refusal, send_steps, sent_seats, steps_of, unless}
use Rattle.vk_local.proofs.Decided.{MayCall, send_decided}
use Rattle.vk_local.proofs.Rules.{IsCallPlayed, begun_played, refused_makes}
use Rattle.vk_local.proofs.Taken.{IsServed, is_served}

-- What is known where it is not refused.
free_of : (lies live : Bool) → first_that_holds ((not lies, refusals.BadSegment) ∷ (not live, refusals.NoProcess) ∷ []) ≡ None →
    (lies ≡ true) × (live ≡ true)
free_of true true is = (refl, refl)
free_of true false is = absurd (none-some refusals.NoProcess (sym is))
free_of false live is = absurd (none-some refusals.BadSegment (sym is))

module _ (c : Settings) (host : ℕ) (t : Tables) (r : Reading) (h : Stands c.times host t r) (fit : AreFit host t) (pid : Pid)
    (own : pid.host ≡ host) (s : Seat) (may : MayCall t.seats pid s) (few : s.note.sends < 2 ^ 48) (target : Pid)
    (near : same_host pid target ≡ true) (m : Message) (before : List Step) (out : Posts) where
  there : target.host ≡ host
  there = sym (eqb-true pid.host target.host near) ∙ own

  here : r.view.procs pid ≡ Some (process_of s)
  here = h.procs pid own ∙ ap (option_map process_of) may.found

  abbrev call : Call
  call = calls.Send target m

  abbrev l : Kernel
  l = sent r.view pid (process_of s) target m

  part : Part host t r.view
  part = part_of c.times host t r fit h

  module _ (free : send_refusal t.seats pid target m ≡ None) where
    facts : (own_range t.seats pid (segment_of m).start (segment_of m).len ≡ true) × (holds_of (λ (x : Seat). x.alive)
        (seat_in t.seats target) ≡ true)
    facts = free_of (own_range t.seats pid (segment_of m).start (segment_of m).len) (holds_of (λ (x : Seat). x.alive)
        (seat_in t.seats target)) free

    can : CanSend s m
    can = record {
      ready = may.ready;
      lies = sym (ap (holds_of (has_range (segment_of m).start (segment_of m).len)) may.found) ∙ facts.0;
      more = omega (arith, few);
    }

    receiver : (x : Seat) × (seat_in t.seats target ≡ Some x) × (x.alive ≡ true)
    receiver = some_that_holds (λ (x : Seat). x.alive) (seat_in t.seats target) facts.1

    at : (i : ℕ) × (position (is_seat target) t.seats ≡ Some i)
    at = placed target t.seats receiver.0 receiver.1

    slot : (i : ℕ) × (position (is_seat pid) t.seats ≡ Some i)
    slot = placed pid t.seats s may.found

    does : effect r.view (steps.Call pid call) ≡ Some (unseen l)
    does = ap (λ (o : Option Process). o >>= λ p. called r.view pid p call (call_refusal r.view pid p call)) here
        ∙ ap (called r.view pid (process_of s) call) (sym (send_decided c.times host t r h fit pid own s may target m near there) ∙ free)

    abbrev u : Tables
    u = sent_tables host t r.view part pid own s may.found target m can near at.0 slot.0 at.1 slot.1

    tables_are : locals.sent t pid target m ≡ u
    tables_are = ap (λ lists. record t { seats = sent_seats t.seats pid target m; lists = lists })
        (λ i. queued_by t.lists
        ((position-changed (is_seat pid) (begun_send target m) (is_seat target) (λ x. refl) t.seats ∙ at.1) i)
        ((position-changed (is_seat pid) (begun_send target m) (is_seat pid) (λ x. refl) t.seats ∙ slot.1) i))

    sent_part : Part host u l
    sent_part = part_sent host t r.view part pid own s may.found target m can near at.0 slot.0 at.1 slot.1 does

    found_then : seat_in u.seats target ≡ Some (only pid (begun_send target m) receiver.0)
    found_then = seats_changed pid (begun_send target m) (λ x. refl) t.seats target
        ∙ ap (option_map (only pid (begun_send target m))) receiver.1

    then_served : (v : Tables) → v ≡ u → IsServed host v l target (served v target) (steps_of v target)
    then_served v is = subst (λ x. IsServed host x l target (served x target) (steps_of x target)) (sym is)
        (is_served host u l sent_part target there (only pid (begun_send target m) receiver.0) found_then)

    taken : IsServed host (locals.sent t pid target m) l target (begun t pid target m) (steps_of (locals.sent t pid target m) target)
    taken = then_served (locals.sent t pid target m) tables_are

    abbrev after : Process
    after = record (process_of s) { state = states.Blocked call; sends = s.note.sends + 1 }

    sender_is : l.procs pid ≡ Some after
    unfolding sent
    sender_is = put_process_here r.view.procs pid after

    none : packets_of r.view l r.slots pid call events_answered.Begun ≡ []
    unfolding round
    none = ap (λ o. option_map_or (round_of l no_work pid) o []) sender_is
        ∙ ap (λ b. list_if (not b) (send_packets l pid after target m)) near

    accepted_played : IsCallPlayed c host r pid call t before out None (begun t pid target m)
        (before ++ (steps.Call pid call ∷ steps_of (locals.sent t pid target m) target))
    accepted_played = begun_played c host t r h pid call before out s may l (steps_of (locals.sent t pid target m) target)
        (begun t pid target m) does
        (ap (λ b. list_if b (take_where l target)) near ∙ taken.listed) none taken.part
        (carries_then 1 0 t (locals.sent t pid target m) (begun t pid target m)
        (subst (Carries 1 t) (sym tables_are)
        (sent_carries host t r.view part pid own s may.found target m can near at.0 slot.0 at.1 slot.1)) taken.carries)
        taken.read

  by_refusal : (o : Option Refusal) → send_refusal t.seats pid target m ≡ o → IsCallPlayed c host r pid call t before out (begun_by o)
      (unless o (begun t pid target m) t)
      (before ++ (steps.Call pid call ∷ unless o (steps_of (locals.sent t pid target m) target) []))
  by_refusal None free = accepted_played free
  by_refusal (Some why) refused = record {
    answer = sym (refused_answer c host r pid call (process_of s) why here
        (sym (send_decided c.times host t r h fit pid own s may target m near there) ∙ refused));
    makes = refused_makes c host t r h pid call before out (process_of s) why here
        (sym (send_decided c.times host t r h fit pid own s may target m near there) ∙ refused);
    fits = fit;
  }

  pub send_is : IsCallPlayed c host r pid call t before out (begun_by (send_refusal t.seats pid target m)) (after_send t pid target m)
      (before ++ send_steps t pid target m)
  send_is = by_refusal (send_refusal t.seats pid target m) refl

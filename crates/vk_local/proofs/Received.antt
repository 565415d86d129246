-- A receive is its right entry.
use Rattle.std.proofs.Common.{◌≡◌, ℕ, Bool, true, false, not, List, [], ◌∷◌, ◌++◌, length, Option, Some, None, refl, sym, ap, subst, ◌∙◌}
use Rattle.std.specs.Option.{option_map, option_map_or}
use Rattle.std.proofs.lemmas.Option.{none-some}
use Rattle.vk_types.specs.Types.{Message, Pid, Process, Refusal, Scope, Step, Waiting}
use Rattle.vk_base.specs.declared.activity.Activity.TheVariants as activities
use Rattle.vk_base.specs.declared.activity.Waiting.TheVariants as waitings
use Rattle.vk_base.specs.declared.answer.Refusal.TheVariants as refusals
use Rattle.vk_base.specs.declared.event.EventAnswer.TheVariants as events_answered
use Rattle.vk_base.specs.declared.kernel.State.TheVariants as states
use Rattle.vk_base.specs.declared.step.Step.TheVariants as steps
use Rattle.vk_base.specs.Activities.{as_receive, call_of}
use Rattle.vk_base.specs.Calls.{accepted, call_refusal, called, first_that_holds, unseen}
use Rattle.vk_base.specs.Kernel.{◌>>=◌, Kernel, blocked_in, holds_of, with_state}
use Rattle.vk_base.specs.Settings.{Settings}
use Rattle.vk_base.specs.Steps.{after_effect, effect}
use Rattle.v_laws.specs.Sound.{IsSoundAt}
use Rattle.v_laws.proofs.Tables.{put_process_here}
use Rattle.vk_packet.specs.Posts.{Posts}
use Rattle.vk_rules.specs.Aliens.{Alien}
use Rattle.vk_procs.specs.declared.seat.Seat.{Seat}
use Rattle.vk_procs.specs.Seats.{doing_now, process_of, seat_in}
use Rattle.vk_rules.specs.CallOutcomes.{packets_of, steps_behind, take_where}
use Rattle.vk_rules.specs.Readings.{Reading}
use Rattle.vk_rules.specs.Rounds.{round_of, round_of_call}
unfoldable use Rattle.vk_rules.specs.Rounds.{round}
use Rattle.vk_rules.specs.Works.{no_work}
use Rattle.vk_stands.specs.Fit.{AreFit, may_go_on, may_wait}
use Rattle.vk_stands.specs.Stands.{IsWaiting, Stands}
use Rattle.vk_stands.specs.Tables.{Tables, is_work}
use Rattle.vk_stands.proofs.Doing.{MayBegin, begun_carries, begun_part}
use Rattle.vk_stands.proofs.OneSeat.{seated}
use Rattle.vk_stands.proofs.Parts.{Part, carries_then, part_of}
use Rattle.vk_stands.proofs.Seats.{find-changed}
use Rattle.vk_stands.proofs.Whole.{sound_next}
use Rattle.vk_local.specs.Access.{has_range, own_range}
use Rattle.vk_local.specs.Calls.{after_receive, awaited, begun_by, receive_refusal, receive_steps, steps_of, unless}
use Rattle.vk_local.proofs.Decided.{MayCall, receive_decided}
use Rattle.vk_local.proofs.Rules.{IsCallPlayed, begun_played, more_carried, refused_makes}
use Rattle.vk_local.proofs.Taken.{IsServed, is_served}
use Rattle.vk_stands.proofs.Quiet.{refused_answer}

-- What a receive is, and no other call.
pub record IsReceive (k : Kernel) (pid : Pid) (s : Seat) (w : Waiting) : Type 0 where
  pub waiting : IsWaiting k (doing_now (activities.Blocked w) s) w
  pub goes : may_go_on s.note w ≡ true
  pub no_send : (target : Pid) (m : Message) → w ≡ waitings.Send target m → ⊥
  pub no_lookup : (logical : ℕ) (scope : Scope) → w ≡ waitings.GetPid logical scope → ⊥
  pub no_work : is_work pid w ≡ false
  pub begins : (p : Process) → accepted k pid p (call_of w) ≡ Some (unseen (with_state k pid p (states.Blocked (call_of w))))
  pub takes : (l : Kernel) → steps_behind l pid (call_of w) events_answered.Begun ≡ take_where l pid
  pub quiet : (b l : Kernel) (slots : List (Option Alien)) (p : Process) → l.procs pid ≡ Some p → p.state ≡ states.Blocked (call_of w) →
      packets_of b l slots pid (call_of w) events_answered.Begun ≡ []

plain : (k : Kernel) (pid : Pid) (s : Seat) → IsReceive k pid s waitings.Receive
unfolding round
plain k pid s = record {
  waiting = tt;
  goes = refl;
  no_send = λ target m is. absurd (cc);
  no_lookup = λ logical scope is. absurd (cc);
  no_work = refl;
  begins = λ p. refl;
  takes = λ l. refl;
  quiet = λ b l slots p at state. ap (λ o. option_map_or (round_of l no_work pid) o []) at
      ∙ ap (λ st. option_map_or (round_of_call l no_work pid p) (blocked_in st) []) state;
}

with_segment : (k : Kernel) (pid : Pid) (s : Seat) (start count : ℕ) → IsReceive k pid s (waitings.ReceiveSegment start count)
unfolding round
with_segment k pid s start count = record {
  waiting = tt;
  goes = refl;
  no_send = λ target m is. absurd (cc);
  no_lookup = λ logical scope is. absurd (cc);
  no_work = refl;
  begins = λ p. refl;
  takes = λ l. refl;
  quiet = λ b l slots p at state. ap (λ o. option_map_or (round_of l no_work pid) o []) at
      ∙ ap (λ st. option_map_or (round_of_call l no_work pid p) (blocked_in st) []) state;
}

receive_of_kind : (k : Kernel) (pid : Pid) (s : Seat) (w : Waiting) → as_receive w ≡ Some w → IsReceive k pid s w
receive_of_kind k pid s waitings.Receive is = plain k pid s
receive_of_kind k pid s (waitings.ReceiveSegment start count) is = with_segment k pid s start count
receive_of_kind k pid s w is = absurd (none-some w is)

pub range_is : (b : Bool) → first_that_holds ((not b, refusals.BadRange) ∷ []) ≡ None → b ≡ true
range_is true is = refl
range_is false is = absurd (none-some refusals.BadRange (sym is))

-- where it is not refused, its range lies in the memory
fits_of : (seats : List Seat) (pid : Pid) (s : Seat) (w : Waiting) → seat_in seats pid ≡ Some s → as_receive w ≡ Some w →
    receive_refusal seats pid w ≡ None → may_wait s.pid (length s.memory) w ≡ true
fits_of seats pid s waitings.Receive found is free = refl
fits_of seats pid s (waitings.ReceiveSegment start count) found is free =
    sym (ap (holds_of (has_range start count)) found) ∙ range_is (own_range seats pid start count) free
fits_of seats pid s w found is free = absurd (none-some w is)

module _ (c : Settings) (host : ℕ) (t : Tables) (r : Reading) (h : Stands c.times host t r) (fit : AreFit host t) (pid : Pid)
    (own : pid.host ≡ host) (s : Seat) (may : MayCall t.seats pid s) (w : Waiting) (is : as_receive w ≡ Some w) (before : List Step)
    (out : Posts) where
  here : r.view.procs pid ≡ Some (process_of s)
  here = h.procs pid own ∙ ap (option_map process_of) may.found

  kind : IsReceive r.view pid s w
  kind = receive_of_kind r.view pid s w is

  abbrev u : Tables
  u = seated t pid (doing_now (activities.Blocked w))

  abbrev l : Kernel
  l = with_state r.view pid (process_of s) (states.Blocked (call_of w))

  module _ (free : receive_refusal t.seats pid w ≡ None) where
    does : effect r.view (steps.Call pid (call_of w)) ≡ Some (unseen l)
    does = ap (λ (o : Option Process). o >>= λ p. called r.view pid p (call_of w) (call_refusal r.view pid p (call_of w))) here
        ∙ ap (called r.view pid (process_of s) (call_of w))
        (sym (receive_decided c.times host t r h fit pid own s may w is) ∙ free)
        ∙ kind.begins (process_of s)

    part : Part host t r.view
    part = part_of c.times host t r fit h

    begins : MayBegin host r.view s w
    begins = record {
      ready = may.ready;
      waiting = kind.waiting;
      fits = fits_of t.seats pid s w may.found is free;
      goes = kind.goes;
      no_send = kind.no_send;
      no_lookup = kind.no_lookup;
    }

    waiting_part : Part host u l
    waiting_part = begun_part host t r.view part pid own s may.found w begins
        (subst (IsSoundAt (λ g. false)) (ap (after_effect r.view) does) (sound_next r.view (steps.Call pid (call_of w)) h.sound))

    found_then : seat_in u.seats pid ≡ Some (doing_now (activities.Blocked w) s)
    found_then = find-changed pid (doing_now (activities.Blocked w)) (λ z. refl) t.seats
        ∙ ap (option_map (doing_now (activities.Blocked w))) may.found

    taken : IsServed host u l pid (awaited t pid w) (steps_of u pid)
    taken = is_served host u l waiting_part pid own (doing_now (activities.Blocked w) s) found_then

    accepted_played : IsCallPlayed c host r pid (call_of w) t before out None (awaited t pid w) (before ++ (steps.Call pid
        (call_of w) ∷ steps_of u pid))
    accepted_played = begun_played c host t r h pid (call_of w) before out s may l (steps_of u pid) (awaited t pid w) does
        (kind.takes l ∙ taken.listed)
        (kind.quiet r.view l r.slots (record (process_of s) { state = states.Blocked (call_of w) })
        (put_process_here r.view.procs pid (record (process_of s) { state = states.Blocked (call_of w) })) refl)
        taken.part
        (more_carried t (awaited t pid w)
        (carries_then 0 0 t u (awaited t pid w)
        (begun_carries host t r.view part pid own s may.found w begins kind.no_work) taken.carries))
        taken.read

  by_refusal : (o : Option Refusal) → receive_refusal t.seats pid w ≡ o → IsCallPlayed c host r pid (call_of w) t before out (begun_by o)
      (unless o (awaited t pid w) t) (before ++ (steps.Call pid (call_of w) ∷ unless o (steps_of u pid) []))
  by_refusal None free = accepted_played free
  by_refusal (Some why) refused = record {
    answer = sym (refused_answer c host r pid (call_of w) (process_of s) why here
        (sym (receive_decided c.times host t r h fit pid own s may w is) ∙ refused));
    makes = refused_makes c host t r h pid (call_of w) before out (process_of s) why here
        (sym (receive_decided c.times host t r h fit pid own s may w is) ∙ refused);
    fits = fit;
  }

  pub receive_is : IsCallPlayed c host r pid (call_of w) t before out (begun_by (receive_refusal t.seats pid w)) (after_receive t pid w)
      (before ++ receive_steps t pid w)
  receive_is = by_refusal (receive_refusal t.seats pid w) refl

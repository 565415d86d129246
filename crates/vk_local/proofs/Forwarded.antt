-- A Forward of a process of the station is its right entry.
use Rattle.std.proofs.Common.{◌≡◌, ℕ, Bool, true, false, not, List, [], ◌∷◌, ◌++◌, Option, Some, None, refl, sym, ap, subst, ◌∙◌}
use Rattle.std.specs.List.{position}
use Rattle.std.specs.Option.{is_none, option_map}
use Rattle.std.proofs.lemmas.Bool.{eqb-true}
use Rattle.std.proofs.lemmas.Option.{none-some}
use Rattle.vk_types.specs.Types.{Call, Exchange, Message, Pid, Process, Refusal, Step}
use Rattle.vk_base.specs.declared.activity.Outcome.TheVariants as outcomes
use Rattle.vk_base.specs.declared.answer.Answer.TheVariants as answers
use Rattle.vk_base.specs.declared.answer.Refusal.TheVariants as refusals
use Rattle.vk_base.specs.declared.call.Call.TheVariants as calls
use Rattle.vk_base.specs.declared.step.Step.TheVariants as steps
use Rattle.vk_base.specs.Calls.{answered, call_refusal, called, first_that_holds, forward, forwarded}
use Rattle.vk_base.specs.Kernel.{◌>>=◌, Kernel, name_of}
use Rattle.vk_base.specs.Pids.{same_host}
use Rattle.vk_base.specs.Settings.{Settings}
use Rattle.vk_base.specs.Steps.{effect}
use Rattle.v_laws.proofs.Options.{some_that_holds}
use Rattle.vk_packet.specs.Posts.{Posts}
use Rattle.vk_procs.specs.declared.seat.Seat.{Seat}
use Rattle.vk_procs.specs.Seats.{handed_on, is_live_in, is_seat, process_of, seat_in}
use Rattle.vk_rules.specs.CallOutcomes.{effect_answer}
use Rattle.vk_rules.specs.Readings.{Reading}
use Rattle.vk_stands.specs.Fit.{AreFit}
use Rattle.vk_stands.specs.Held.{local_holding}
use Rattle.vk_stands.specs.Stands.{Stands}
use Rattle.vk_stands.specs.Tables.{Tables, seat_name}
use Rattle.vk_stands.proofs.Found.{seat_found}
use Rattle.vk_stands.proofs.LocalForward.{handed_carries, handed_tables, part_handed}
use Rattle.vk_stands.proofs.Parts.{Carries, Part, carries_then, part_of}
use Rattle.vk_stands.proofs.Quiet.{refused_answer}
use Rattle.vk_stands.proofs.Seats.{placed, position-changed}
use Rattle.vk_stands.proofs.Waits.{only, seats_changed}
use Rattle.vk_local.specs.Calls as locals
use Rattle.vk_local.specs.Calls.{after_forward, done_by, forward_refusal, forward_steps, forwarded_seats, handed_over, queued_by, steps_of, unless}
use Rattle.vk_local.specs.Takes.{served}
use Rattle.vk_local.proofs.Decided.{MayCall, forward_decided}
use Rattle.vk_local.proofs.ReplyRules.{IsReplied, replied_is}
use Rattle.vk_local.proofs.Rules.{IsCallPlayed, ok_makes, refused_makes}
use Rattle.vk_local.proofs.Taken.{IsServed, is_served}

-- What is known where it is not refused.
free_of : (none live : Bool) → first_that_holds ((none, refusals.NotAwaiting) ∷ (not live, refusals.NoProcess) ∷ []) ≡ None →
    (none ≡ false) × (live ≡ true)
free_of false true is = (refl, refl)
free_of false false is = absurd (none-some refusals.NoProcess (sym is))
free_of true live is = absurd (none-some refusals.NotAwaiting (sym is))

module _ (c : Settings) (host : ℕ) (t : Tables) (r : Reading) (h : Stands c.times host t r) (fit : AreFit host t) (pid : Pid)
    (own : pid.host ≡ host) (s : Seat) (may : MayCall t.seats pid s) (from : Pid) (near : same_host pid from ≡ true) (m : Message)
    (to : Pid) (before : List Step) (out : Posts) where
  there : from.host ≡ host
  there = sym (eqb-true pid.host from.host near) ∙ own

  here : r.view.procs pid ≡ Some (process_of s)
  here = h.procs pid own ∙ ap (option_map process_of) may.found

  abbrev call : Call
  call = calls.Forward m from to

  part : Part host t r.view
  part = part_of c.times host t r fit h

  module _ (free : forward_refusal t.seats pid from to ≡ None) where
    facts : (is_none (local_holding t.seats pid from) ≡ false) × (is_live_in (seat_in t.seats to) ≡ true)
    facts = free_of (is_none (local_holding t.seats pid from)) (is_live_in (seat_in t.seats to)) free

    x : IsReplied r.view t.seats pid from
    x = replied_is c host t r h fit pid own s may from near facts.0

    receiver : (y : Seat) × (seat_in t.seats to ≡ Some y) × (y.alive ≡ true)
    receiver = some_that_holds (λ (y : Seat). y.alive) (seat_in t.seats to) facts.1

    to_here : to.host ≡ host
    to_here = let p = seat_found t.seats to receiver.0 receiver.1 in
        ap (λ (q : Pid). q.host) (sym p.named) ∙ (fit.seats p.at receiver.0 p.here).own

    place : (i : ℕ) × (position (is_seat to) t.seats ≡ Some i)
    place = placed to t.seats receiver.0 receiver.1

    slot : (i : ℕ) × (position (is_seat from) t.seats ≡ Some i)
    slot = placed from t.seats x.seat x.found

    name_is : name_of from x.seat.note.sends ≡ seat_name x.seat
    name_is = ap (λ p. name_of p x.seat.note.sends) (sym (seat_found t.seats from x.seat x.found).named)

    at : r.view.exchanges (seat_name x.seat) ≡ Some x.exchange
    at = ap r.view.exchanges (sym name_is) ∙ x.is

    abbrev l : Kernel
    l = forwarded r.view (seat_name x.seat) x.exchange m to

    asks : effect r.view (steps.Call pid call) ≡ forward r.view pid call m from to
    asks = ap (λ (o : Option Process). o >>= λ p. called r.view pid p call (call_refusal r.view pid p call)) here
        ∙ ap (called r.view pid (process_of s) call) (sym (forward_decided c.times host t r h fit pid own s may from m to there) ∙ free)

    does : effect r.view (steps.Call pid call) ≡ Some (answered l pid call answers.Ok)
    does = asks
        ∙ ap (λ (o : Option ℕ). o >>= λ n. r.view.exchanges (name_of from n) >>= λ e.
        Some (answered (forwarded r.view (name_of from n) e m to) pid call answers.Ok)) x.held_is
        ∙ ap (λ (o : Option Exchange). o >>= λ e.
        Some (answered (forwarded r.view (name_of from x.seat.note.sends) e m to) pid call answers.Ok)) x.is
        ∙ ap (λ n. Some (answered (forwarded r.view n x.exchange m to) pid call answers.Ok)) name_is

    abbrev u : Tables
    u = handed_tables host t r.view part from there x.seat x.found x.target x.message x.waits x.near x.exchange at x.taken m to
        slot.0 place.0 slot.1 place.1

    tables_are : locals.forwarded t from m to ≡ u
    tables_are = ap (λ lists. record t { seats = forwarded_seats t.seats from m to; lists = lists })
        (λ i. queued_by t.lists
        ((position-changed (is_seat from) (handed_on m to) (is_seat to) (λ y. refl) t.seats ∙ place.1) i)
        ((position-changed (is_seat from) (handed_on m to) (is_seat from) (λ y. refl) t.seats ∙ slot.1) i))

    handed_part : Part host u l
    handed_part = part_handed host t r.view part from there x.seat x.found x.target x.message x.waits x.near x.exchange at x.taken m to
        slot.0 place.0 slot.1 place.1 pid does

    found_then : seat_in u.seats to ≡ Some (only from (handed_on m to) receiver.0)
    found_then = seats_changed from (handed_on m to) (λ y. refl) t.seats to
        ∙ ap (option_map (only from (handed_on m to))) receiver.1

    then_served : (v : Tables) → v ≡ u → IsServed host v l to (served v to) (steps_of v to)
    then_served v is = subst (λ y. IsServed host y l to (served y to) (steps_of y to)) (sym is)
        (is_served host u l handed_part to to_here (only from (handed_on m to) receiver.0) found_then)

    taken : IsServed host (locals.forwarded t from m to) l to (handed_over t from m to) (steps_of (locals.forwarded t from m to) to)
    taken = then_served (locals.forwarded t from m to) tables_are

    accepted : IsCallPlayed c host r pid call t before out (Some outcomes.Ok) (handed_over t from m to)
        (before ++ (steps.Call pid call ∷ steps_of (locals.forwarded t from m to) to))
    accepted = record {
      answer = sym (ap effect_answer does);
      makes = ok_makes c host t r h pid call before out l _ (steps_of (locals.forwarded t from m to) to) (handed_over t from m to) does
          taken.listed refl refl taken.part
          (carries_then 0 0 t (locals.forwarded t from m to) (handed_over t from m to)
          (subst (Carries 0 t) (sym tables_are)
          (handed_carries host t r.view part from there x.seat x.found x.target x.message x.waits x.near x.exchange at x.taken m to
          slot.0 place.0 slot.1 place.1)) taken.carries)
          taken.read;
      fits = taken.part.fit;
    }

  by_refusal : (o : Option Refusal) → forward_refusal t.seats pid from to ≡ o → IsCallPlayed c host r pid call t before out (done_by o)
      (unless o (handed_over t from m to) t)
      (before ++ (steps.Call pid call ∷ unless o (steps_of (locals.forwarded t from m to) to) []))
  by_refusal None free = accepted free
  by_refusal (Some why) refused =
      let decided = sym (forward_decided c.times host t r h fit pid own s may from m to there) ∙ refused in
      record {
        answer = sym (refused_answer c host r pid call (process_of s) why here decided);
        makes = refused_makes c host t r h pid call before out (process_of s) why here decided;
        fits = fit;
      }

  pub forward_is : IsCallPlayed c host r pid call t before out (done_by (forward_refusal t.seats pid from to)) (after_forward t pid from m to)
      (before ++ forward_steps t pid from m to)
  forward_is = by_refusal (forward_refusal t.seats pid from to) refl

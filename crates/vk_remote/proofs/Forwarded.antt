-- A Forward of a process of another station is its right entry.
use Rattle.std.proofs.Common.{◌≡◌, ℕ, ◌+◌, ◌-◌, nat_lt, Bool, true, false, cond, not, List, [], ◌∷◌, ◌++◌, map, Option, Some, None, refl, sym, ap, subst, ◌∙◌, arith}
use Rattle.std.specs.List.{position, slice_get}
use Rattle.std.specs.Option.{option_map}
use Rattle.std.proofs.lemmas.Bool.{cond-false}
use Rattle.std.proofs.lemmas.Option.{none-some}
use Rattle.vk_types.specs.Types.{Call, Exchange, Message, Pid, Refusal, Registration, Step}
use Rattle.vk_base.specs.declared.activity.Outcome.TheVariants as outcomes
use Rattle.vk_base.specs.declared.answer.Answer.TheVariants as answers
use Rattle.vk_base.specs.declared.answer.Refusal.TheVariants as refusals
use Rattle.vk_base.specs.declared.call.Call.TheVariants as calls
use Rattle.vk_base.specs.declared.limits.TheConstants.{STATION_PROCESSES}
use Rattle.vk_base.specs.declared.step.Step.TheVariants as steps
use Rattle.vk_base.specs.Calls.{answered, forwarded}
use Rattle.vk_base.specs.Kernel.{◌>>=◌, Kernel, name_of}
use Rattle.vk_base.specs.Pids.{same_host}
use Rattle.vk_base.specs.Settings.{Settings}
use Rattle.vk_base.specs.Steps.{effect}
use Rattle.v_laws.proofs.Options.{some_that_holds}
use Rattle.vk_packet.specs.Posts.{Posts}
use Rattle.vk_pool.specs.declared.alien.Alien.{Alien}
use Rattle.vk_pool.specs.Aliens.{alien_at, is_alien_from}
use Rattle.vk_procs.specs.declared.seat.Seat.{Seat}
use Rattle.vk_procs.specs.Seats.{is_live_in, is_seat, process_of, seat_in}
use Rattle.vk_rules.specs.CallOutcomes.{effect_answer}
use Rattle.vk_rules.specs.Readings.{Reading}
use Rattle.vk_stands.specs.Fit.{AreFit}
use Rattle.vk_stands.specs.Stands.{IsAlienKept, Stands}
use Rattle.vk_stands.specs.Tables.{Tables, alien_name, read_alien, seat_name, slot_name}
use Rattle.vk_stands.proofs.AlienForward.{handed_carries, handed_read, handed_tables, kept_alien, part_handed}
use Rattle.vk_stands.proofs.Found.{seat_found}
use Rattle.vk_stands.proofs.Parts.{Carries, Part, carries_then, part_of}
use Rattle.vk_stands.proofs.Quiet.{refused_answer}
use Rattle.vk_stands.proofs.Seats.{placed}
use Rattle.vk_local.specs.Calls.{done_by, steps_of, unless}
use Rattle.vk_local.specs.Rules.{named}
use Rattle.vk_local.specs.Takes.{served}
use Rattle.vk_local.proofs.Decided.{MayCall}
use Rattle.vk_local.proofs.Rules.{IsCallPlayed, ok_makes, refused_makes}
use Rattle.vk_local.proofs.Taken.{IsServed, is_served}
use Rattle.vk_remote.specs.Forwards as forwards
use Rattle.vk_remote.specs.Forwards.{after_forward, forward_refusal, forward_steps, handed_over, moved_on}
use Rattle.vk_remote.specs.Played.{lined_up}
use Rattle.vk_remote.specs.Replies.{is_holding}
use Rattle.vk_remote.proofs.FarCalls.{effect_is}
use Rattle.vk_remote.proofs.FarHeld.{IsHeldThere, forward_decided, held_number, held_there_is}

-- whatever names the station has
pub named_over : (t : Tables) (names : List Registration) (from : Pid) (m : Message) (to : Pid) (P : Tables → List Step → Type 0)
    (pid : Pid) → P (after_forward (named names t) pid from m to) (forward_steps (named names t) pid from m to) →
    P (named names (after_forward t pid from m to)) (forward_steps t pid from m to)
named_over t names from m to P pid h =
    by_refusal (forward_refusal t.seats t.slots pid from to) (position (is_alien_from from) t.slots) h
  where
    by_refusal : (why : Option Refusal) (o : Option ℕ) →
        P (unless why (served (moved_on (named names t) m to o) to) (named names t))
        (steps.Call pid (calls.Forward m from to) ∷ unless why (steps_of (moved_on (named names t) m to o) to) []) →
        P (named names (unless why (served (moved_on t m to o) to) t))
        (steps.Call pid (calls.Forward m from to) ∷ unless why (steps_of (moved_on t m to o) to) [])
    by_refusal (Some why) o h = h
    by_refusal None None h = h
    by_refusal None (Some slot) h = h

-- What is known where it is not refused.
free_of : (holds live : Bool) → (cond (not holds) (Some refusals.NotAwaiting) (cond (not live) (Some refusals.NoProcess) None)) ≡ None →
    (holds ≡ true) × (live ≡ true)
free_of true true is = (refl, refl)
free_of true false is = absurd (none-some refusals.NoProcess (sym is))
free_of false live is = absurd (none-some refusals.NotAwaiting (sym is))

not_low : (n : ℕ) → nat_lt (STATION_PROCESSES + n) STATION_PROCESSES ≡ false
not_low n = grind (arith)

back : (n : ℕ) → STATION_PROCESSES + n - STATION_PROCESSES ≡ n
back n = omega arith

module _ (c : Settings) (host : ℕ) (t : Tables) (r : Reading) (h : Stands c.times host t r) (fit : AreFit host t) (pid : Pid)
    (own : pid.host ≡ host) (s : Seat) (may : MayCall t.seats pid s) (from : Pid) (far : same_host pid from ≡ false) (m : Message)
    (to : Pid) (before : List Step) (out : Posts) where
  here : r.view.procs pid ≡ Some (process_of s)
  here = h.procs pid own ∙ ap (option_map process_of) may.found

  abbrev call : Call
  call = calls.Forward m from to

  part : Part host t r.view
  part = part_of c.times host t r fit h

  module _ (free : forward_refusal t.seats t.slots pid from to ≡ None) where
    facts : (is_holding t.slots pid from ≡ true) × (is_live_in (seat_in t.seats to) ≡ true)
    facts = free_of (is_holding t.slots pid from) (is_live_in (seat_in t.seats to)) free

    x : IsHeldThere t.slots pid from
    x = held_there_is t.slots pid from facts.0

    abbrev a : Alien
    a = x.alien

    abbrev i : ℕ
    i = x.place.at

    abbrev slot : ℕ
    slot = STATION_PROCESSES + i

    receiver : (y : Seat) × (seat_in t.seats to ≡ Some y) × (y.alive ≡ true)
    receiver = some_that_holds (λ (y : Seat). y.alive) (seat_in t.seats to) facts.1

    to_here : to.host ≡ host
    to_here = let p = seat_found t.seats to receiver.0 receiver.1 in
        ap (λ (q : Pid). q.host) (sym p.named) ∙ (fit.seats p.at receiver.0 p.here).own

    place : (j : ℕ) × (position (is_seat to) t.seats ≡ Some j)
    place = placed to t.seats receiver.0 receiver.1

    slot_is : slot_name t.seats t.slots slot ≡ Some (alien_name a)
    slot_is =
        cond-false (nat_lt slot STATION_PROCESSES) (option_map seat_name (slice_get t.seats slot))
        (option_map alien_name (alien_at t.slots (slot - STATION_PROCESSES))) (not_low i)
        ∙ ap (λ n. option_map alien_name (alien_at t.slots n)) (back i) ∙ ap (option_map alien_name) x.place.here

    abbrev kept : IsAlienKept r.view a
    kept = kept_alien host t r.view part i a x.place.here x.taken m to s slot place.0 slot_is place.1

    abbrev l : Kernel
    l = forwarded r.view (alien_name a) kept.exchange m to

    does : effect r.view (steps.Call pid call) ≡ Some (answered l pid call answers.Ok)
    does = effect_is c host t r h pid own s may call None
        (sym free ∙ forward_decided c host t r h fit pid own s may from far m to)
        ∙ ap (λ (o : Option ℕ). o >>= λ n. r.view.exchanges (name_of from n) >>= λ z.
        Some (answered (forwarded r.view (name_of from n) z m to) pid call answers.Ok))
        (held_number c host t r h fit pid own s may from far x)
        ∙ ap (λ n. r.view.exchanges n >>= λ z. Some (answered (forwarded r.view n z m to) pid call answers.Ok))
        (ap (λ p. name_of p a.number) (sym x.place.sender))
        ∙ ap (λ (o : Option Exchange). o >>= λ z. Some (answered (forwarded r.view (alien_name a) z m to) pid call answers.Ok)) kept.is

    abbrev u : Tables
    u = handed_tables host t r.view part i a x.place.here x.taken m to s slot place.0 slot_is place.1

    tables_are : forwards.forwarded t from m to ≡ u
    tables_are =
        ap (moved_on t m to) x.place.place
        ∙ ap (λ o. record t { lists = lined_up t.lists o slot; slots = (moved_on t m to (Some i)).slots }) place.1

    handed_part : Part host u l
    handed_part = part_handed host t r.view part i a x.place.here x.taken m to s slot place.0 slot_is place.1 pid from does

    then_served : (v : Tables) → v ≡ u → IsServed host v l to (served v to) (steps_of v to)
    then_served v is = subst (λ y. IsServed host y l to (served y to) (steps_of y to)) (sym is)
        (is_served host u l handed_part to to_here receiver.0 receiver.1)

    taken : IsServed host (forwards.forwarded t from m to) l to (handed_over t from m to)
        (steps_of (forwards.forwarded t from m to) to)
    taken = then_served (forwards.forwarded t from m to) tables_are

    accepted : IsCallPlayed c host r pid call t before out (Some outcomes.Ok) (handed_over t from m to)
        (before ++ (steps.Call pid call ∷ steps_of (forwards.forwarded t from m to) to))
    accepted = record {
      answer = sym (ap effect_answer does);
      makes = ok_makes c host t r h pid call before out l _ (steps_of (forwards.forwarded t from m to) to) (handed_over t from m to)
          does taken.listed refl refl taken.part
          (carries_then 0 0 t (forwards.forwarded t from m to) (handed_over t from m to)
          (subst (Carries 0 t) (sym tables_are)
          (handed_carries host t r.view part i a x.place.here x.taken m to s slot place.0 slot_is place.1)) taken.carries)
          (taken.read ∙ ap (λ (v : Tables). map (option_map read_alien) v.slots) tables_are
          ∙ handed_read host t r.view part i a x.place.here x.taken m to s slot place.0 slot_is place.1);
      fits = taken.part.fit;
    }

  by_refusal : (o : Option Refusal) → forward_refusal t.seats t.slots pid from to ≡ o →
      IsCallPlayed c host r pid call t before out (done_by o)
      (unless o (handed_over t from m to) t)
      (before ++ (steps.Call pid call ∷ unless o (steps_of (forwards.forwarded t from m to) to) []))
  by_refusal None free = accepted free
  by_refusal (Some why) refused =
      let decided = sym (forward_decided c host t r h fit pid own s may from far m to) ∙ refused in
      record {
        answer = sym (refused_answer c host r pid call (process_of s) why here decided);
        makes = refused_makes c host t r h pid call before out (process_of s) why here decided;
        fits = fit;
      }

  pub forward_is : IsCallPlayed c host r pid call t before out (done_by (forward_refusal t.seats t.slots pid from to))
      (after_forward t pid from m to) (before ++ forward_steps t pid from m to)
  forward_is = by_refusal (forward_refusal t.seats t.slots pid from to) refl

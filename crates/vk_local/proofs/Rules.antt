-- What makes a call a rule: it is refused, or answered ok without a packet.
use Rattle.std.proofs.Common.{◌≡◌, ◌≤◌, ℕ, ◌+◌, true, List, [], ◌∷◌, ◌++◌, map, Option, Some, None, refl, sym, ap, subst, ◌∙◌, arith}
use Rattle.std.specs.List.{fold, list_any}
use Rattle.std.specs.Option.{option_map}
use Rattle.std.proofs.lemmas.Bool.{and_parts}
use Rattle.std.proofs.lemmas.List.{append-nil}
use Rattle.std.proofs.lemmas.Option.{same_Some}
use Rattle.vk_types.specs.Types.{Activity, Call, EventAnswer, Outcome, Pid, Process, Refusal, Registration, Step, Times}
use Rattle.vk_base.specs.declared.activity.Activity.TheVariants as activities
use Rattle.vk_base.specs.declared.activity.Outcome.TheVariants as outcomes
use Rattle.vk_base.specs.declared.answer.Answer.TheVariants as answers
use Rattle.vk_base.specs.declared.event.EventAnswer.TheVariants as events_answered
use Rattle.vk_base.specs.declared.step.Step.TheVariants as steps
use Rattle.vk_base.specs.Activities.{state_of}
use Rattle.vk_base.specs.Calls.{answered, call_refusal, unseen}
use Rattle.vk_base.specs.Kernel.{Kernel, is_ready}
use Rattle.vk_base.specs.Settings.{Settings}
use Rattle.vk_base.specs.Steps.{after_effect, effect, next}
use Rattle.v_laws.proofs.Options.{some_that_holds}
use Rattle.vk_packet.specs.Posts.{Posts}
use Rattle.vk_pool.specs.declared.alien.Alien.{Alien}
use Rattle.vk_procs.specs.declared.seat.Seat.{Seat}
use Rattle.vk_procs.specs.Seats.{seat_in}
use Rattle.vk_rules.specs.Aliens.{is_closing}
use Rattle.vk_rules.specs.CallOutcomes.{effect_answer, packets_of, steps_behind}
unfoldable use Rattle.vk_rules.specs.CallOutcomes.{call_outcome}
use Rattle.vk_rules.specs.Entries.{Called, is_begun}
use Rattle.vk_rules.specs.Readings.{Reading}
use Rattle.vk_rules.specs.Right.{answer_to, right_entry}
use Rattle.vk_stands.specs.Fit.{AreFit}
use Rattle.vk_stands.specs.Rules.{Makes, given_by, posted}
use Rattle.vk_stands.specs.Stands.{Stands}
use Rattle.vk_stands.specs.Tables.{Tables, read_alien}
use Rattle.vk_stands.proofs.After.{events_are, packets_are, reading_for}
use Rattle.vk_stands.proofs.AfterEntries.{answered_works, called_slots, called_steps, called_view}
use Rattle.vk_stands.proofs.CallStands.{call_stands}
use Rattle.vk_stands.proofs.Parts.{Carries, Part, stands_part}
use Rattle.vk_stands.proofs.Quiet.{call_refused, refused_answer}
use Rattle.vk_local.specs.Calls.{tables_of, unless}
use Rattle.vk_local.specs.Done.{LeavesSeats, LeavesTables}
use Rattle.vk_local.specs.Rules.{IsSeatsRule, IsTablesRule, is_idle, may_call, named}
use Rattle.vk_local.proofs.Decided.{MayCall}

ready_is : (d : Activity) → is_ready (state_of d) ≡ true → d ≡ activities.Ready
ready_is activities.Ready t = refl
ready_is (activities.Blocked w) t = cc
ready_is (activities.Done w o) t = cc

pub may_be : (seats : List Seat) (pid : Pid) → may_call seats pid ≡ true → (s : Seat) × MayCall seats pid s
may_be seats pid t =
    let found = some_that_holds is_idle (seat_in seats pid) t in
    let parts = and_parts found.0.alive (is_ready (state_of found.0.doing)) found.2 in
    (found.0, record { found = found.1; alive = parts.0; ready = ready_is found.0.doing parts.1 })

pub posted_none : (out : Posts) → posted out [] ≡ out
posted_none out = ap (λ posts. record out { posts = posts }) (append-nil out.posts)

pub more_carried : (t u : Tables) → Carries 0 t u → Carries 1 t u
more_carried t u carries = record {
  seats = λ q y at. let x = carries.seats q y at in record {
    old = x.old;
    was = x.was;
    sends = more y.note.sends x.old.note.sends x.sends;
    lookups = more y.note.lookups x.old.note.lookups x.lookups;
    work = x.work;
  };
  aliens = carries.aliens;
}
  where
    more : (a b : ℕ) → a ≤ b + 0 → a ≤ b + 1
    more a b low = omega arith

module _ (c : Settings) (host : ℕ) (t : Tables) (r : Reading) (h : Stands c.times host t r) (pid : Pid) (call : Call) (before : List Step)
    (out : Posts) where
  -- refused
  module _ (p : Process) (why : Refusal) (at : r.view.procs pid ≡ Some p) (is : call_refusal r.view pid p call ≡ Some why) where
    pub refused_makes : Makes c host r (right_entry c host r (Called pid call)) (record { tables = t; steps = before; out = out })
        (record { tables = t; steps = before ++ steps.Call pid call ∷ []; out = out })
    refused_makes =
        let q = call_refused c host t r pid call p why h at is in
        record {
          steps = ap (λ ss. before ++ ss) (sym q.steps);
          packets = sym (ap (posted out) q.packets ∙ posted_none out);
          stands = q.stands;
        }

  -- answered ok, with these steps behind it
  module _ (l after : Kernel) (behind : List Step) (u : Tables) (does : effect r.view (steps.Call pid call) ≡ Some
      (answered l pid call answers.Ok))
      (steps_are : steps_behind l pid call (events_answered.Answered answers.Ok) ≡ behind)
      (none : packets_of r.view l r.slots pid call (events_answered.Answered answers.Ok) ≡ []) (leads : fold next l behind ≡ after)
      (part : Part host u after) (carries : Carries 0 t u) (read : map (option_map read_alien) u.slots ≡ map (option_map read_alien) t.slots)
    where
      abbrev k : Kernel
      k = next r.view (steps.Call pid call)

      abbrev a : EventAnswer
      a = answer_to c host r (Called pid call)

      answer_is : a ≡ events_answered.Answered answers.Ok
      answer_is = ap effect_answer does

      kernel_is : k ≡ l
      kernel_is = ap (after_effect r.view) does

      behind_is : steps_behind k pid call a ≡ behind
      behind_is = (λ i. steps_behind (kernel_is i) pid call (answer_is i)) ∙ steps_are

      packets_none : packets_of r.view k r.slots pid call a ≡ []
      packets_none = (λ i. packets_of r.view (kernel_is i) r.slots pid call (answer_is i)) ∙ none

      ok_stands : Stands c.times host u (reading_for c host r (Called pid call))
      ok_stands = stands_part c.times host t u r (reading_for c host r (Called pid call)) h
          (subst (Part host u) (sym (called_view c host r pid call ∙ (λ i. fold next (kernel_is i) (behind_is i)) ∙ leads)) part)
          (more_carried t u carries)
          (record {
            slots = called_slots c host r pid call (λ name. ap (list_any (is_closing name)) packets_none) ∙ h.slots
                ∙ sym read;
            events = events_are c host r (Called pid call);
            works = λ q y w at blocked is. answered_works c host r pid call (ap is_begun answer_is) q;
          })

      pub ok_makes : Makes c host r (right_entry c host r (Called pid call)) (record { tables = t; steps = before; out = out })
          (record { tables = u; steps = before ++ (steps.Call pid call ∷ behind); out = out })
      unfolding call_outcome
      ok_makes = record {
        steps = ap (λ ss. before ++ ss) (sym (called_steps c host r pid call ∙ ap (λ ss. steps.Call pid call ∷ ss) behind_is));
        packets = sym (ap (posted out) (packets_are c host r (Called pid call) ∙ packets_none) ∙ posted_none out);
        stands = ok_stands;
      }

-- A call of this answer, after which the processes are these and the steps those.
pub record IsRuleDone (c : Settings) (host : ℕ) (r : Reading) (pid : Pid) (call : Call) (t : Tables) (before : List Step) (out : Posts)
    (o : Option Outcome) (seats : List Seat) (after : List Step) : Type 0 where
  pub answer : given_by o ≡ answer_to c host r (Called pid call)
  pub makes : Makes c host r (right_entry c host r (Called pid call)) (record { tables = t; steps = before; out = out })
      (record { tables = record t { seats = seats }; steps = after; out = out })
  pub fits : AreFit host (record t { seats = seats })

-- the same of what the code leaves
done_as : (c : Settings) (host : ℕ) (r : Reading) (pid : Pid) (call : Call) (t : Tables) (before : List Step) (out : Posts)
    (due : Option Outcome) (left : List Seat) (made : List Step) (p : Option Outcome) (new : List Seat) (after : List Step) →
    IsRuleDone c host r pid call t before out due left (before ++ made) → LeavesSeats due left made p new before after →
    IsRuleDone c host r pid call t before out p new after
done_as c host r pid call t before out due left made p new after h is =
    subst (λ x. IsRuleDone c host r pid call t before out x new after) (sym is.outcome)
    (subst (λ x. IsRuleDone c host r pid call t before out due x after) (sym is.seats)
    (subst (λ x. IsRuleDone c host r pid call t before out due left x) (sym is.steps) h))

pub refused_done : (c : Settings) (host : ℕ) (t : Tables) (r : Reading) (h : Stands c.times host t r) (fit : AreFit host t) (pid : Pid)
    (call : Call) (before : List Step) (out : Posts) (p : Process) (why : Refusal) → r.view.procs pid ≡ Some p →
    Some why ≡ call_refusal r.view pid p call →
    IsRuleDone c host r pid call t before out (Some (outcomes.Refused why)) t.seats (before ++ steps.Call pid call ∷ [])
refused_done c host t r h fit pid call before out p why at is = record {
  answer = sym (refused_answer c host r pid call p why at (sym is));
  makes = refused_makes c host t r h pid call before out p why at (sym is);
  fits = fit;
}

pub at_times : (host : ℕ) (t : Tables) (r : Reading) (a b : Times) → a ≡ b → Stands b host t r → Stands a host t r
at_times host t r a b is h = subst (λ x. Stands x host t r) (sym is) h

-- what is done for all tables of these processes is a rule
pub seats_rule : (pid : Pid) (call : Call) (due : List Seat → Option Outcome) (left : List Seat → List Seat)
    (made : List Seat → List Step) (p : Option Outcome) (seats new : List Seat) (before after : List Step) →
    may_call seats pid ≡ true → LeavesSeats (due seats) (left seats) (made seats) p new before after →
    ((c : Settings) (t : Tables) (r : Reading) (s : Seat) (out : Posts) → Stands c.times pid.host t r → AreFit pid.host t →
    MayCall t.seats pid s → IsRuleDone c pid.host r pid call t before out (due t.seats) (left t.seats) (before ++ made t.seats)) →
    IsSeatsRule pid call p seats new before after
seats_rule pid call due left made p seats new before after may is f = λ times now t out same fit. (
  λ c r times_is now_is h.
      let x = done c t r out same fit (at_times pid.host t r c.times times times_is h) in
      (x.answer, x.makes),
  λ c r h. (done c t r out same fit h).fits,
)
  where
    done : (c : Settings) (t : Tables) (r : Reading) (out : Posts) → t.seats ≡ seats → AreFit pid.host t → Stands c.times pid.host t r →
        IsRuleDone c pid.host r pid call t before out p new after
    done c t r out same fit h =
        let s = may_be t.seats pid (ap (λ xs. may_call xs pid) same ∙ may) in
        done_as c pid.host r pid call t before out (due t.seats) (left t.seats) (made t.seats) p new after (f c t r s.0 out h fit s.1)
        (subst (λ xs. LeavesSeats (due xs) (left xs) (made xs) p new before after) (sym same) is)

-- A call of this answer, after which the tables are these and the steps those.
pub record IsCallPlayed (c : Settings) (host : ℕ) (r : Reading) (pid : Pid) (call : Call) (t : Tables) (before : List Step) (out : Posts)
    (o : Option Outcome) (u : Tables) (after : List Step) : Type 0 where
  pub answer : given_by o ≡ answer_to c host r (Called pid call)
  pub makes : Makes c host r (right_entry c host r (Called pid call)) (record { tables = t; steps = before; out = out })
      (record { tables = u; steps = after; out = out })
  pub fits : AreFit host u

-- A call that is begun, whose caller was ready, with these steps behind it and no packet.
module _ (c : Settings) (host : ℕ) (t : Tables) (r : Reading) (h : Stands c.times host t r) (pid : Pid) (call : Call) (before : List Step)
    (out : Posts) (s : Seat) (may : MayCall t.seats pid s) (l : Kernel) (behind : List Step) (u : Tables)
    (does : effect r.view (steps.Call pid call) ≡ Some (unseen l))
    (steps_are : steps_behind l pid call events_answered.Begun ≡ behind)
    (none : packets_of r.view l r.slots pid call events_answered.Begun ≡ []) (part : Part host u (fold next l behind))
    (carries : Carries 1 t u) (read : map (option_map read_alien) u.slots ≡ map (option_map read_alien) t.slots) where
  begun_is : answer_to c host r (Called pid call) ≡ events_answered.Begun
  begun_is = ap effect_answer does

  kernel_then : next r.view (steps.Call pid call) ≡ l
  kernel_then = ap (after_effect r.view) does

  listed : steps_behind (next r.view (steps.Call pid call)) pid call (answer_to c host r (Called pid call)) ≡ behind
  listed = (λ i. steps_behind (kernel_then i) pid call (begun_is i)) ∙ steps_are

  no_packets : packets_of r.view (next r.view (steps.Call pid call)) r.slots pid call (answer_to c host r (Called pid call)) ≡ []
  no_packets = (λ i. packets_of r.view (kernel_then i) r.slots pid call (begun_is i)) ∙ none

  pub begun_played : IsCallPlayed c host r pid call t before out None u (before ++ (steps.Call pid call ∷ behind))
  unfolding call_outcome
  begun_played = record {
    answer = sym begun_is;
    makes = record {
      steps = ap (λ ss. before ++ ss) (sym (called_steps c host r pid call ∙ ap (λ ss. steps.Call pid call ∷ ss) listed));
      packets = sym (ap (posted out) (packets_are c host r (Called pid call) ∙ no_packets) ∙ posted_none out);
      stands = call_stands c host t u r h carries read pid call
          (subst (Part host u) (sym (λ i. fold next (kernel_then i) (listed i))) part)
          (λ name. ap (list_any (is_closing name)) no_packets)
          (λ y w begun at blocked work.
          let x = carries.seats pid y at in
          let was = (x.work w blocked work).0 in
          let one : s ≡ x.old = same_Some s x.old (sym may.found ∙ x.was) in
          let both : activities.Ready ≡ activities.Blocked w = sym may.ready ∙ ap (λ (z : Seat). z.doing) one ∙ was in
          absurd (cc));
    };
    fits = part.fit;
  }

played_as : (c : Settings) (host : ℕ) (r : Reading) (pid : Pid) (call : Call) (t : Tables) (before : List Step) (out : Posts)
    (o p : Option Outcome) (u new : Tables) (ss after : List Step) → IsCallPlayed c host r pid call t before out o u ss →
    p ≡ o → new ≡ u → after ≡ ss → IsCallPlayed c host r pid call t before out p new after
played_as c host r pid call t before out o p u new ss after h outcome is listed =
    subst (λ x. IsCallPlayed c host r pid call t before out x new after) (sym outcome)
    (subst (λ x. IsCallPlayed c host r pid call t before out o x after) (sym is)
    (subst (λ x. IsCallPlayed c host r pid call t before out o u x) (sym listed) h))

-- what is done whatever names there are is a rule
pub tables_rule : (pid : Pid) (call : Call) (due : Option Outcome) (left : Tables) (made : List Step) (p : Option Outcome) (t : Tables)
    (seats : List Seat) (lists : List (List ℕ)) (slots : List (Option Alien)) (before after : List Step) → may_call t.seats pid ≡ true →
    LeavesTables due left made p (tables_of seats lists slots) before after →
    ((c : Settings) (r : Reading) (s : Seat) (names : List Registration) (out : Posts) → Stands c.times pid.host (named names t) r →
    AreFit pid.host (named names t) → MayCall t.seats pid s →
    IsCallPlayed c pid.host r pid call (named names t) before out due (named names left) (before ++ made)) →
    IsTablesRule pid call p t (tables_of seats lists slots) before after
tables_rule pid call due left made p t seats lists slots before after may is f = λ times now names out fit. (
  λ c r times_is now_is h.
      let x = done c r names out fit (at_times pid.host (named names t) r c.times times times_is h) in
      (x.answer, x.makes),
  λ c r h. (done c r names out fit h).fits,
)
  where
    tables_are : (names : List Registration) → named names (tables_of seats lists slots) ≡ named names left
    tables_are names = λ i. record { seats = is.seats i; lists = is.lists i; slots = is.slots i; names = names }

    done : (c : Settings) (r : Reading) (names : List Registration) (out : Posts) → AreFit pid.host (named names t) →
        Stands c.times pid.host (named names t) r →
        IsCallPlayed c pid.host r pid call (named names t) before out p (named names (tables_of seats lists slots)) after
    done c r names out fit h =
        let s = may_be t.seats pid may in
        played_as c pid.host r pid call (named names t) before out due p (named names left) (named names (tables_of seats lists slots))
        (before ++ made) after (f c r s.0 names out h fit s.1) is.outcome (tables_are names) is.steps

pub named_unless : (names : List Registration) (o : Option Refusal) (x y : Tables) →
    named names (unless o x y) ≡ unless o (named names x) (named names y)
named_unless names None x y = refl
named_unless names (Some why) x y = refl

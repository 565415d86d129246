-- The step that is a call, from what becomes of the call.
use Rattle.std.proofs.Common.{◌≡◌, ℕ, Bool, true, false, not, List, [], ◌∷◌, Option, Some, None, is_none, Result, Ok, Err, arith, refl, sym, ap, subst, ◌∙◌, if◌then◌else◌}
use Rattle.std.proofs.lemmas.Option.{none-some}
use Rattle.vk_types.specs.Types.{Call, Observation, Pid, Process, Refusal}
use Rattle.vk_base.specs.declared.answer.Answer.TheVariants as answers
use Rattle.vk_base.specs.declared.answer.Refusal.TheVariants as refusals
use Rattle.vk_base.specs.declared.call.Call.TheVariants as calls
use Rattle.vk_base.specs.Calls.{Effect, answered, call_refusal, call_step, called, first_that_holds, tests_of}
use Rattle.vk_base.specs.Kernel.{is_ready}
use Rattle.v_machine.specs.declared.tables.Store.{Store}
use Rattle.v_machine.specs.declared.refusal.ApplyRefusal.{ApplyRefusal}
use Rattle.v_machine.specs.declared.refusal.ApplyRefusal.TheVariants as refused
use Rattle.v_machine.specs.declared.calls.response.Response.{Response}
use Rattle.v_machine.specs.declared.calls.response.Response.TheVariants as responses
use Rattle.v_machine.specs.Apply.{noted_by_call}
use Rattle.v_machine.specs.Kept.{IsIndexed, kernel_in}
use Rattle.v_machine.specs.Rules.{Accepts, Answers, Goes, judged, seen_by, seen_result}
use Rattle.v_machine.proofs.StepLemmas.{found}

pub none_if : {A : Type 0} (o : Option A) → ((x : A) → o ≡ Some x → ⊥) → o ≡ None
none_if None never = refl
none_if (Some x) never = absurd (never x refl)

-- the tests of the caller
abbrev pub caller : Process → Option Refusal
caller p = first_that_holds ((not p.alive, refusals.Dead) ∷ (not (is_ready p.state), refusals.Busy) ∷ [])

passes : (a b : Bool) (ts : List (Bool × Refusal)) → first_that_holds ((not a, refusals.Dead) ∷ (not b, refusals.Busy) ∷ []) ≡ None →
    (b ≡ true) × (first_that_holds ((not a, refusals.Dead) ∷ (not b, refusals.Busy) ∷ ts) ≡ first_that_holds ts)
passes true true ts none = (refl, refl)
passes true false ts none = absurd (none-some refusals.Busy (sym none))
passes false b ts none = absurd (none-some refusals.Dead (sym none))

refuses : (a b : Bool) (ts : List (Bool × Refusal)) (why : Refusal) →
    first_that_holds ((not a, refusals.Dead) ∷ (not b, refusals.Busy) ∷ []) ≡ Some why →
    first_that_holds ((not a, refusals.Dead) ∷ (not b, refusals.Busy) ∷ ts) ≡ Some why
refuses true true ts why some = absurd (none-some why some)
refuses true false ts why some = some
refuses false b ts why some = some

nothing_seen : (c : Call) (e : Effect) (seen : Observation) → e.seen ≡ Some seen → noted_by_call c (Some e) ≡ 0
nothing_seen (calls.Send target m) e seen is = refl
nothing_seen calls.Receive e seen is = refl
nothing_seen (calls.ReceiveSegment start count) e seen is = refl
nothing_seen (calls.Reply m to) e seen is = refl
nothing_seen (calls.ReplySegment m to dest src count) e seen is = refl
nothing_seen (calls.Forward m from to) e seen is = refl
nothing_seen (calls.MoveTo partner dest src count) e seen is = ap (λ o. if is_none o then count else 0) is
nothing_seen (calls.MoveFrom partner dest src count) e seen is = refl
nothing_seen (calls.SetPid logical q scope) e seen is = refl
nothing_seen (calls.GetPid logical scope) e seen is = refl
nothing_seen (calls.Load start count) e seen is = refl
nothing_seen (calls.Store start bytes) e seen is = refl
nothing_seen calls.Exit e seen is = refl

-- what notes nothing has room
notes_none : (o : Option Effect) (room : ℕ) (s : Store) (seen : Result (Option Observation) ApplyRefusal) → Answers o 0 0 s s seen →
    Answers o 0 room s s seen
notes_none o room s (Ok seen) answers = (answers.0, omega arith)
notes_none o room s (Err refused.NotAllowed) answers = answers
notes_none o room s (Err refused.Limit) answers = let none = answers.1 in absurd (omega arith)
notes_none o room s (Err refused.NoMemory) answers = (answers.0, omega arith, answers.2)

module _ (s : Store) (pid : Pid) (p : Process) (c : Call) (there : (kernel_in s).procs pid ≡ Some p) where
  pub call_is : caller p ≡ None → call_step (kernel_in s) pid c ≡ judged (kernel_in s) pid p c
  unfolding call_refusal
  call_is none = found ((kernel_in s).procs pid) p _ _ there
      (ap (called (kernel_in s) pid p c) (passes p.alive (is_ready p.state) (tests_of (kernel_in s) pid p c) none).1)

  pub call_refused : (why : Refusal) → caller p ≡ Some why →
      call_step (kernel_in s) pid c ≡ Some (answered (kernel_in s) pid c (answers.Refused why))
  unfolding call_refusal
  call_refused why some = found ((kernel_in s).procs pid) p _ _ there
      (ap (called (kernel_in s) pid p c) (refuses p.alive (is_ready p.state) (tests_of (kernel_in s) pid p c) why some))

  pub refused_notes : (why : Refusal) → caller p ≡ Some why → noted_by_call c (call_step (kernel_in s) pid c) ≡ 0
  refused_notes why some = ap (noted_by_call c) (call_refused why some)
      ∙ nothing_seen c (answered (kernel_in s) pid c (answers.Refused why)) (record { pid = pid; call = c; answer = answers.Refused why })
      refl

  pub refused_goes : (why : Refusal) (seen : Option Observation) → IsIndexed s → caller p ≡ Some why →
      seen ≡ seen_by pid c (responses.Refused why) → Goes (call_step (kernel_in s) pid c) seen s
  refused_goes why seen indexed some is = record {
    effect = call_refused why some ∙ ap (λ o. Some (record { after = kernel_in s; seen = o })) (sym is);
    indexed = indexed;
  }

  pub accepted_goes : (t : Store) (room : ℕ) (r : Result Response ApplyRefusal) (seen : Result (Option Observation) ApplyRefusal) →
      caller p ≡ None → Accepts pid c room s t r → seen ≡ seen_result pid c r →
      Answers (call_step (kernel_in s) pid c) (noted_by_call c (call_step (kernel_in s) pid c)) room s t seen
  accepted_goes t room r seen none accepts is =
      let ready = (passes p.alive (is_ready p.state) [] none).0 in
      subst (Answers (call_step (kernel_in s) pid c) (noted_by_call c (call_step (kernel_in s) pid c)) room s t) (sym is)
      (subst (λ o. Answers o (noted_by_call c o) room s t (seen_result pid c r)) (sym (call_is none)) (accepts p there ready))

  pub load_notes : (start count : ℕ) → c ≡ calls.Load start count → noted_by_call c (call_step (kernel_in s) pid c) ≡ 0
  load_notes start count is = ap (λ z. noted_by_call z (call_step (kernel_in s) pid c)) is

  pub load_answers : (start count room : ℕ) (seen : Result (Option Observation) ApplyRefusal) → c ≡ calls.Load start count →
      caller p ≡ None → Answers (judged (kernel_in s) pid p (calls.Load start count)) 0 0 s s seen →
      Answers (call_step (kernel_in s) pid c) (noted_by_call c (call_step (kernel_in s) pid c)) room s s seen
  load_answers start count room seen is none answers =
      subst (λ n. Answers (call_step (kernel_in s) pid c) n room s s seen) (sym (load_notes start count is))
      (subst (λ o. Answers o 0 room s s seen) (sym (call_is none ∙ ap (judged (kernel_in s) pid p) is))
      (notes_none (judged (kernel_in s) pid p (calls.Load start count)) room s seen answers))

  pub accepted_notes : (t : Store) (room noted : ℕ) (v : Response) (seen : Option Observation) → seen ≡ seen_by pid c v →
      Answers (call_step (kernel_in s) pid c) (noted_by_call c (call_step (kernel_in s) pid c)) room s t (Ok seen) →
      ((q : Pid) (e : Effect) → e.seen ≡ seen_by q c v → noted ≡ noted_by_call c (Some e)) →
      noted ≡ noted_by_call c (call_step (kernel_in s) pid c)
  accepted_notes t room noted v seen is answers notes = notes pid (record { after = kernel_in t; seen = seen }) is
      ∙ ap (noted_by_call c) (sym answers.0.effect)

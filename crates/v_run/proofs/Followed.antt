-- In the history of a run each process follows its task, as the laws of page servers ask: what a station's entries tell of a process is
-- what the schedule tells.
use Rattle.std.proofs.Common.{◌≡◌, ◌≢◌, ℕ, zero, suc, ◌+◌, ◌==◌, eqb-true, eq-eqb, Bool, true, false, Option, Some, None, List, [], ◌∷◌, ◌++◌, length, take, cond, option_to_list, refl, sym, ap, ◌∙◌, subst, append_assoc, append-nil, inl, inr}
use Rattle.std.specs.List.{cons_option, filter_map, list_all}
use Rattle.std.specs.Prelude.{slice_get}
use Rattle.std.proofs.lemmas.Bool.{cases_Bool}
use Rattle.std.proofs.lemmas.Option.{none-some, same_Some}
use Rattle.std.proofs.lemmas.List.Elements.{filter_map-append}
use Rattle.vk_join.proofs.Joins.{told_entry}
use Rattle.v_ages.proofs.Numbers.{cons_none}
use Rattle.vk_types.specs.Types.{Answer, Call, EventAnswer, Observation, Pid}
use Rattle.vk_base.specs.Kernel.{◌>>=◌}
use Rattle.vk_base.specs.Pids.{same_pid}
use Rattle.vk_base.specs.Settings.{Settings, has_station}
use Rattle.vk_base.specs.Steps.{only_if}
use Rattle.vk_base.proofs.OptionLemmas.{bind_is}
use Rattle.vk_cluster.proofs.Logs.{history_more, logs_next, with_other}
use Rattle.vk_cluster.specs.Standing.{logs_of}
use Rattle.vk_schedule.specs.declared.event.Event.{Event}
use Rattle.vk_schedule.specs.declared.event.Event.TheVariants as scheduled
use Rattle.vk_schedule.specs.Lawful.{has_actors}
use Rattle.vk_rules.specs.CallOutcomes.{given}
use Rattle.vk_rules.specs.Each.{Each}
use Rattle.vk_rules.specs.Entries.{Called, Collected, Entry, Input}
use Rattle.vk_rules.specs.Frames.{Frame}
use Rattle.vk_rules.specs.Histories.{At, Happened, Logs, Missing, delivered, handed_over, history_of, logs_after, no_entries}
unfoldable use Rattle.vk_rules.specs.Histories.{happened, history, logs_from, with_entry}
use Rattle.vk_rules.specs.Observed.{begun_after, handed_out, is_not_yet, no_call, seen_of}
unfoldable use Rattle.vk_rules.specs.Observed.{observed}
use Rattle.vk_rules.specs.Right.{entry_of}
unfoldable use Rattle.vk_rules.specs.Right.{right_entry}
use Rattle.vk_rules.proofs.OwnEvents.{own_log}
use Rattle.v_ended.specs.Answered.{answers_of, called_by, calls_of, told_to}
use Rattle.v_laws.proofs.Tables.{same_pid_is}
use Rattle.v_pages.specs.Followed.{IsNextCall, answer_in}
use Rattle.v_pages.specs.Scheduled.{FollowsIn, answers_in, call_of, calls_in}
use Rattle.v_run.specs.Outcomes.{Assignment, FollowsTask, IsNextOf}
use Rattle.v_run.specs.Laws.{RunsFollowTasks}
use Rattle.v_whole.proofs.Distinct.{lawful_distinct}
use Rattle.v_whole.specs.Schedules.{AreDistinct}
use Rattle.v_laws.proofs.StepLemmas.{only_if_is}
use Rattle.v_ended.specs.Answered.{ComeInTime}
use Rattle.v_run.proofs.Answered.{last_behind, of_actors, sees_at, sees_more}
use Rattle.v_run.proofs.Room.{grows, logs_cut}

-- Lists that are mapped in part.

mapped_one : {A B : Type 0} (f : A → Option B) (x : A) → filter_map f (x ∷ []) ≡ option_to_list (f x)
mapped_one f x = cons_none (f x)

-- what is seen of a collect that hands out an answer
abbrev not_early : Answer → Option Answer
not_early x = cond (is_not_yet x) None (Some x)

abbrev seen_as : Pid → Option Call → Answer → Option Observation
seen_as pid last x = last >>= λ call. Some (record { pid = pid; call = call; answer = x })

call_pid : (pid : Pid) (call : Call) (o : Option Answer) (x : Observation)
    → (o >>= λ a. Some (record { pid = pid; call = call; answer = a })) ≡ Some x → x.pid ≡ pid
call_pid pid call None x is = absurd (cc is)
call_pid pid call (Some a) x is = ap (λ (y : Observation). y.pid) (sym (same_Some _ x is))

collect_pid : (pid : Pid) (last : Option Call) (o : Option Answer) (x : Observation) → (o >>= seen_as pid last) ≡ Some x → x.pid ≡ pid
collect_pid pid last None x is = absurd (cc is)
collect_pid pid None (Some a) x is = absurd (cc is)
collect_pid pid (Some call) (Some a) x is = ap (λ (y : Observation). y.pid) (sym (same_Some _ x is))

sees_none : (last : Pid → Option Call) (hs : List Happened) (host : ℕ) → observed last (hs ++ Missing host ∷ []) ≡ observed last hs
unfolding observed
sees_none last [] host = refl
sees_none last (Missing at ∷ hs) host = sees_none last hs host
sees_none last (At at event e ∷ hs) host =
    ap (λ l. option_to_list (seen_of last e.input e.answer) ++ l) (sees_none (begun_after last e.input e.answer) hs host)

module _ (r : Pid) where
  -- a process of another station
  elsewhere : (pid : Pid) → r.host ≢ pid.host → same_pid pid r ≡ false
  elsewhere pid apart = elim (cases_Bool (same_pid pid r)) [
    | inl t ↦ absurd (apart (ap (λ (p : Pid). p.host) (sym (same_pid_is pid r t))))
    | inr f ↦ f
  ]

  -- What the newest entry tells of it.
  module _ {A : Type 0} (of : List Entry → List A) (by : Entry → List A) (more : (x : Entry) (es : List Entry)
      → of (x ∷ es) ≡ of es ++ by x)
    where
      told_more : (logs : Logs) (host : ℕ) (x : Entry) (l : List A) → (r.host ≡ host → by x ≡ l) → (r.host ≢ host → l ≡ [])
          → of (with_entry logs host x r.host) ≡ of (logs r.host) ++ l
      told_more logs host x l here there = elim (cases_Bool (r.host == host)) [
        | inl t ↦
            let same : r.host ≡ host = eqb-true r.host host t in
            ap of (ap (with_entry logs host x) same ∙ own_log logs host x)
            ∙ (more x (logs host) ∙ ((λ i. of (logs (sym same i)) ++ here same i)))
        | inr f ↦
            let apart : r.host ≢ host = λ same. cc (f, eq-eqb r.host host same) in
            ap of (with_other logs host x r.host apart) ∙ (sym (append-nil (of (logs r.host)))
            ∙ ap (λ m. of (logs r.host) ++ m) (sym (there apart)))
      ]

  call_list : (b : Bool) (call : Call) → option_to_list (only_if b (Some call)) ≡ cond b (call ∷ []) []
  call_list true call = refl
  call_list false call = refl

  calls_delivered : (c : Settings) (logs : Logs) (to : ℕ) (o : Option Frame)
      → calls_of r (logs_after logs (delivered c logs to o) r.host) ≡ calls_of r (logs r.host) ++ []
  unfolding right_entry
  calls_delivered c logs to None = sym (append-nil (calls_of r (logs r.host)))
  calls_delivered c logs to (Some f) =
      told_more (calls_of r) (λ x. called_by r x.input) (λ x es. refl) logs to _ [] (λ same. refl) (λ apart. refl)

  -- its calls
  calls_after : (c : Settings) (logs : Logs) (e : Event)
      → calls_of r (logs_after logs (happened c logs e) r.host) ≡ calls_of r (logs r.host) ++ option_to_list (call_of r e)
  unfolding happened right_entry
  calls_after c logs (scheduled.Call pid call) =
      told_more (calls_of r) (λ x. called_by r x.input) (λ x es. refl) logs pid.host _ (option_to_list (only_if (same_pid pid r) (Some
      call)))
      (λ same. sym (call_list (same_pid pid r) call))
      (λ apart. call_list (same_pid pid r) call ∙ ap (λ (b : Bool). cond b (call ∷ []) []) (elsewhere pid apart))
  calls_after c logs (scheduled.Collect pid) =
      told_more (calls_of r) (λ x. called_by r x.input) (λ x es. refl) logs pid.host _ [] (λ same. refl) (λ apart. refl)
  calls_after c logs (scheduled.Tick host) =
      told_more (calls_of r) (λ x. called_by r x.input) (λ x es. refl) logs host _ [] (λ same. refl) (λ apart. refl)
  calls_after c logs (scheduled.Deliver to from event output) = calls_delivered c logs to (handed_over logs to from event output)

  -- its answers
  abbrev seen_answers : (Pid → Option Call) → Input → EventAnswer → List Answer
  seen_answers last i a = filter_map (answer_in r) (option_to_list (seen_of last i a))

  nobody : (pid : Pid) (o : Option Observation) → same_pid pid r ≡ false → ((x : Observation) → o ≡ Some x → x.pid ≡ pid)
      → filter_map (answer_in r) (option_to_list o) ≡ []
  nobody pid None other of = refl
  nobody pid (Some x) other of =
      mapped_one (answer_in r) x
      ∙ ap (λ (b : Bool). option_to_list (only_if b (Some x.answer))) (ap (λ p. same_pid p r) (of x refl) ∙ other)

  told_call : (pid : Pid) (call : Call) (o : Option Answer) → cond (same_pid pid r) (option_to_list o) []
      ≡ filter_map (answer_in r) (option_to_list (o >>= λ x. Some (record { pid = pid; call = call; answer = x })))
  told_call pid call None = by (same_pid pid r)
    where
      by : (b : Bool) → cond {A = List Answer} b [] [] ≡ []
      by true = refl
      by false = refl
  told_call pid call (Some x) = by (same_pid pid r)
    where
      by : (b : Bool) → cond b (x ∷ []) [] ≡ cons_option (only_if b (Some x)) []
      by true = refl
      by false = refl

  told_collect : (pid : Pid) (a : EventAnswer) (last : Option Call) (o : Option Answer) → given a ≡ o
      → length (option_to_list ((o >>= not_early) >>= seen_as pid last)) ≡ 1
      → cond (same_pid pid r) (option_to_list o) [] ≡ filter_map (answer_in r) (option_to_list ((o >>= not_early) >>= seen_as pid last))
  told_collect pid a last None is one = absurd (cc one)
  told_collect pid a last (Some x) is one = by (is_not_yet x) last one
    where
      by : (b : Bool) (l : Option Call) → length (option_to_list (cond b None (Some x) >>= seen_as pid l)) ≡ 1
          → cond (same_pid pid r) (x ∷ []) [] ≡ filter_map (answer_in r) (option_to_list (cond b None (Some x) >>= seen_as pid l))
      by true l one = absurd (cc one)
      by false None one = absurd (cc one)
      by false (Some call) one = told_call pid call (Some x)

  module _ (c : Settings) where
    -- what is seen of a happening
    abbrev seen_at : (Pid → Option Call) → Happened → List Answer
    seen_at last (At host event e) = seen_answers last e.input e.answer
    seen_at last (Missing host) = []

    in_more : (last : Pid → Option Call) (hs : List Happened) (x : Happened)
        → filter_map (answer_in r) (observed last (hs ++ x ∷ []))
        ≡ filter_map (answer_in r) (observed last hs) ++ seen_at (last_behind last hs) x
    in_more last hs (At host event e) =
        ap (filter_map (answer_in r)) (sees_more last hs host event e)
        ∙ filter_map-append (answer_in r) (observed last hs) (option_to_list (seen_of (last_behind last hs) e.input e.answer))
    in_more last hs (Missing host) =
        ap (filter_map (answer_in r)) (sees_none last hs host) ∙ sym (append-nil (filter_map (answer_in r) (observed last hs)))

    answers_delivered : (last : Pid → Option Call) (logs : Logs) (to : ℕ) (o : Option Frame)
        → answers_of r (logs_after logs (delivered c logs to o) r.host) ≡ answers_of r (logs r.host) ++ seen_at last (delivered c logs to o)
    unfolding right_entry
    answers_delivered last logs to None = sym (append-nil (answers_of r (logs r.host)))
    answers_delivered last logs to (Some f) =
        told_more (answers_of r) (λ x. told_to r x.input x.answer) (λ x es. refl) logs to _ [] (λ same. refl) (λ apart. refl)

    -- where a collect is seen
    abbrev IsSeen : (Pid → Option Call) → Logs → Event → Type 0
    IsSeen last logs (scheduled.Collect pid) =
        length (option_to_list (seen_of last (Collected pid) (entry_of c pid.host (logs pid.host) (Collected pid)).answer)) ≡ 1
    IsSeen last logs e = Unit {0}

    answers_after : (last : Pid → Option Call) (logs : Logs) (e : Event) → IsSeen last logs e
        → answers_of r (logs_after logs (happened c logs e) r.host) ≡ answers_of r (logs r.host) ++ seen_at last (happened c logs e)
    unfolding happened right_entry
    answers_after last logs (scheduled.Call pid call) seen =
        let a = (entry_of c pid.host (logs pid.host) (Called pid call)).answer in
        told_more (answers_of r) (λ x. told_to r x.input x.answer) (λ x es. refl) logs pid.host _ (seen_answers last (Called pid call) a)
        (λ same. told_call pid call (given a))
        (λ apart. nobody pid (seen_of last (Called pid call) a) (elsewhere pid apart) (call_pid pid call (given a)))
    answers_after last logs (scheduled.Collect pid) seen =
        let a = (entry_of c pid.host (logs pid.host) (Collected pid)).answer in
        told_more (answers_of r) (λ x. told_to r x.input x.answer) (λ x es. refl) logs pid.host _ (seen_answers last (Collected pid) a)
        (λ same. told_collect pid a (last pid) (given a) refl seen)
        (λ apart. nobody pid (seen_of last (Collected pid) a) (elsewhere pid apart) (collect_pid pid (last pid) (handed_out a)))
    answers_after last logs (scheduled.Tick host) seen =
        told_more (answers_of r) (λ x. told_to r x.input x.answer) (λ x es. refl) logs host _ [] (λ same. refl) (λ apart. refl)
    answers_after last logs (scheduled.Deliver to from event output) seen =
        answers_delivered last logs to (handed_over logs to from event output)

    -- what holds of no events, and of one more, holds of each front
    front : (P : List Event → Type 0) (es : List Event) → ((xs : List Event) (e : Event) (ys : List Event) → es ≡ xs ++ e ∷ ys → P xs
        → P (xs ++ e ∷ []))
        → (before mid ys : List Event) → es ≡ before ++ (mid ++ ys) → P before → P (before ++ mid)
    front P es more before [] ys is p = subst P (sym (append-nil before)) p
    front P es more before (e ∷ mid) ys is p =
        subst P (append_assoc before (e ∷ []) mid)
        (front P es more (before ++ e ∷ []) mid ys (is ∙ sym (append_assoc before (e ∷ []) (mid ++ ys))) (more before e (mid ++ ys) is p))

    module _ (es : List Event) (seen : (xs : List Event) (e : Event) (ys : List Event) → es ≡ xs ++ e ∷ ys
        → IsSeen (last_behind no_call (history_of c xs)) (logs_of c xs) e) where
      calls_are : (xs ys : List Event) → es ≡ xs ++ ys → calls_of r (logs_of c xs r.host) ≡ calls_in r xs
      unfolding logs_from
      calls_are xs ys is =
          front (λ zs. calls_of r (logs_of c zs r.host) ≡ calls_in r zs) es (λ zs e rest at same.
          ap (λ (l : Logs). calls_of r (l r.host)) (logs_next c zs e)
          ∙ (calls_after c (logs_of c zs) e
          ∙ (ap (λ l. l ++ option_to_list (call_of r e)) same
          ∙ (ap (λ l. calls_in r zs ++ l) (sym (mapped_one (call_of r) e))
          ∙ sym (filter_map-append (call_of r) zs (e ∷ [])))))) [] xs ys is refl

      answers_are : (xs ys : List Event) → es ≡ xs ++ ys → answers_of r (logs_of c xs r.host) ≡ answers_in c r xs
      unfolding logs_from history observed
      answers_are xs ys is =
          front (λ zs. answers_of r (logs_of c zs r.host) ≡ answers_in c r zs) es (λ zs e rest at same.
          let last = last_behind no_call (history_of c zs) in
          ap (λ (l : Logs). answers_of r (l r.host)) (logs_next c zs e)
          ∙ (answers_after last (logs_of c zs) e (seen zs e rest at)
          ∙ (ap (λ l. l ++ seen_at last (happened c (logs_of c zs) e)) same
          ∙ (sym (in_more no_call (history_of c zs) (happened c (logs_of c zs) e))
          ∙ ap (λ hs. filter_map (answer_in r) (observed no_call hs)) (sym (history_more c zs no_entries e)))))) [] xs ys is refl

      follows_at : (task : List Answer → Option Call) (later : List Entry) (x : Entry) (ls : List Entry)
          → FollowsTask task r (later ++ x ∷ ls)
          → IsNextOf task r ls x.input
      follows_at task [] x ls follows = follows.0
      follows_at task (y ∷ later) x ls follows = follows_at task later x ls follows.1

      next_call : (task : List Answer → Option Call) (xs : List Event) (pid : Pid) (call : Call) (ys : List Event)
          → es ≡ xs ++ scheduled.Call pid call ∷ ys → same_pid pid r ≡ true → FollowsTask task r (logs_of c es r.host)
          → IsNextCall task (calls_in r xs) (answers_in c r xs) call
      unfolding logs_from happened
      next_call task xs pid call ys is same follows =
          let h = pid.host in
          let home : h ≡ r.host = ap (λ (p : Pid). p.host) (same_pid_is pid r same) in
          let x = entry_of c h (logs_of c xs h) (Called pid call) in
          let rest = grows c (logs_after (logs_of c xs) (At h (length (logs_of c xs h) + 1) x)) ys h in
          let all : logs_of c es h ≡ rest.0 ++ x ∷ logs_of c xs h =
          (λ i. ((ap (logs_of c) is ∙ logs_cut c no_entries xs (scheduled.Call pid call ∷ ys)) i) h)
          ∙ (rest.1 ∙ ap (λ l. rest.0 ++ l) (own_log (logs_of c xs) h x)) in
          let at : FollowsTask task r (rest.0 ++ x ∷ logs_of c xs h) =
          subst (FollowsTask task r) all (subst (λ q. FollowsTask task r (logs_of c es q)) (sym home) follows) in
          let next : IsNextOf task r (logs_of c xs h) (Called pid call) =
          subst (IsNextOf task r (logs_of c xs h)) (told_entry c h (logs_of c xs h) (Called pid call))
          (follows_at task rest.0 x (logs_of c xs h) at) in
          subst (λ (p : List Call × List Answer). IsNextCall task p.0 p.1 call)
          (λ i. (
            (ap (λ q. calls_of r (logs_of c xs q)) home ∙ calls_are xs (scheduled.Call pid call ∷ ys) is) i,
            (ap (λ q. answers_of r (logs_of c xs q)) home ∙ answers_are xs (scheduled.Call pid call ∷ ys) is) i,
          )) (next same)

event_at : (es : List Event) (i : ℕ) (e : Event) → slice_get es i ≡ Some e → (ys : List Event) × (es ≡ take i es ++ e ∷ ys)
event_at [] i e is = absurd (none-some e is)
event_at (x ∷ xs) zero e is = (xs, ap (λ y. y ∷ xs) (same_Some x e is))
event_at (x ∷ xs) (suc i) e is = let it = event_at xs i e is in (it.0, ap (λ l. x ∷ l) it.1)

made_by : (r : Pid) (e : Event) (call : Call) → call_of r e ≡ Some call
    → (pid : Pid) × (e ≡ scheduled.Call pid call) × (same_pid pid r ≡ true)
made_by r (scheduled.Call pid c) call is =
    let parts = only_if_is (same_pid pid r) (Some c) call is in (pid, ap (scheduled.Call pid) (same_Some c call parts.1), parts.0)
made_by r (scheduled.Collect pid) call is = absurd (none-some call is)
made_by r (scheduled.Tick host) call is = absurd (none-some call is)
made_by r (scheduled.Deliver to from event output) call is = absurd (none-some call is)

seen_in : (r : Pid) (c : Settings) (es : List Event) (distinct : AreDistinct c.specs) (actors : list_all (has_actors c.specs) es ≡ true)
    (collected : (h : ℕ) → has_station c.specs h ≡ true → ComeInTime c h (logs_of c es h)) (xs : List Event) (e : Event) (ys : List Event)
    → es ≡ xs ++ e ∷ ys → IsSeen r c (last_behind no_call (history_of c xs)) (logs_of c xs) e
seen_in r c es distinct actors collected xs (scheduled.Call pid call) ys is = tt
seen_in r c es distinct actors collected xs (scheduled.Collect pid) ys is = sees_at c es distinct actors collected xs pid ys is
seen_in r c es distinct actors collected xs (scheduled.Tick host) ys is = tt
seen_in r c es distinct actors collected xs (scheduled.Deliver to from event output) ys is = tt

pub runs_follow_tasks : RunsFollowTasks
runs_follow_tasks c plan rounds tasks end s lawful run = record {
  schedule = record { distinct = distinct; callers = of_actors c.specs s.events run.actors };
  follows = each tasks run.outcome.follows;
}
  where
    distinct : AreDistinct c.specs
    distinct = lawful_distinct c.specs lawful.processes

    one : (a : Assignment) → FollowsTask a.task a.pid (logs_of c s.events a.pid.host) → FollowsIn a.task c s.events a.pid
    one a follows i call is =
        let e = bind_is (slice_get s.events i) (call_of a.pid) call is in
        let cut = event_at s.events i e.0 e.1 in
        let made = made_by a.pid e.0 call e.2 in
        next_call a.pid c s.events (seen_in a.pid c s.events distinct run.actors run.outcome.collected) a.task (take i s.events) made.0
        call cut.0
        (cut.1 ∙ ap (λ x. take i s.events ++ x ∷ cut.0) made.1) made.2 follows

    each : (xs : List Assignment) → Each (λ (a : Assignment). FollowsTask a.task a.pid (logs_of c s.events a.pid.host)) xs
        → Each (λ (a : Assignment). FollowsIn a.task c s.events a.pid) xs
    each [] all = tt
    each (a ∷ xs) all = (one a all.0, each xs all.1)

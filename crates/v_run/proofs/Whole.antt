-- What jobs come to: the parts put together.
use Rattle.std.proofs.Common.{◌≡◌, ℕ, ◌+◌, ◌*◌, ◌<◌, true, false, Option, Some, None, List, [], ◌∷◌, ◌++◌, length, refl, sym, ap, ◌∙◌, subst, arith, ◌⊎◌, inl, inr, nat_le}
use Rattle.vk_types.specs.Types.{Answer, Call, Pid, StationEvent}
use Rattle.turn_cell.specs.declared.replay.Room.TheVariants as rooms
use Rattle.vk_base.specs.Pids.{same_pid}
use Rattle.vk_base.specs.Settings.{Settings, has_station}
use Rattle.vk_base.proofs.PidLemmas.{same_pid_self}
use Rattle.v_laws.proofs.Tables.{same_pid_is}
use Rattle.vk_hub.specs.declared.event.HubEvent.{HubEvent}
use Rattle.vk_hub.specs.Hubs.{HubLog, traffic_of}
use Rattle.vk_port.specs.Stations.{is_own}
use Rattle.vk_rules.specs.Each.{Each}
use Rattle.vk_rules.specs.Entries.{Entry}
use Rattle.vk_rules.proofs.Lists.{each_append}
use Rattle.v_run.specs.Closed.{AreClosed}
use Rattle.v_run.specs.declared.run_end.RunEnd.{RunEnd}
use Rattle.v_run.specs.Laws.{IsStill, MayEndAs}
use Rattle.v_run.specs.Jobs.{EndsRole, GoesOn, IsJobEnd, JobEnd, MetFull, OneOf, runs_pid}
use Rattle.v_ended.specs.Answered.{AnsweredWorksEndByFrames, ComeInTime, answers_of, calls_of}
use Rattle.v_ended.specs.Ends.{EachWorkIsEndedByFrame, NoTickEnds}
use Rattle.v_run.specs.Outcomes.{AreBusy, Assignment, FollowsTask, HasUsedUp, IsOutcome, IsWaiting, StandsStill}
use Rattle.v_run.specs.Passages.{IsAtEnd, IsRole, Passage, Pumps, Role, Runs, Ticks, answers_by, calls_by, fresh_station, host_of, number_of}
use Rattle.v_run.specs.Runs.{AreApart, AreJobs, IsApart, logs_in, passages_of, task_in, tasks_of}
use Rattle.v_run.proofs.Sound.{AreSound}
use Rattle.v_run.proofs.Totals.{added}
use Rattle.v_run.proofs.Sums.{IsDone, all_done, placed_whole}
use Rattle.v_run.proofs.Ended.{Among, HasEnded, all_ended, each_of, finishes, is_program, of_each, one_left}
use Rattle.v_run.proofs.Still.{none_collects}
use Rattle.v_run.proofs.Clock as clock
use Rattle.v_run.proofs.Playing.{Stands, whole}
use Rattle.v_run.proofs.Alone as alone
use Rattle.v_run.proofs.Patience.{built_at, no_tick_ends, now_is}
use Rattle.v_run.proofs.Framed.{framed}
use Rattle.v_run.proofs.Ready.{in_time}
use Rattle.v_run.proofs.Reasons.{reason}
use Rattle.v_run.proofs.Unique.{seldom}

-- what holds of the passages of each job holds of all
pub from_jobs : (P : Passage → Type 0) (js : List JobEnd) → Each (λ (j : JobEnd). Each P j.passages) js → Each P (passages_of js)
from_jobs P [] each = tt
from_jobs P (j ∷ js) each = each_append P j.passages (passages_of js) each.0 (from_jobs P js each.1)

pub among_right : {A : Type 0} (x : A) (xs ys : List A) → Among x ys → Among x (xs ++ ys)
among_right x [] ys among = among
among_right x (z ∷ xs) ys among = inr (among_right x xs ys among)

pub among_left : {A : Type 0} (x : A) (xs ys : List A) → Among x xs → Among x (xs ++ ys)
among_left x [] ys among = absurd among
among_left x (z ∷ xs) ys (inl is) = inl is
among_left x (z ∷ xs) ys (inr among) = inr (among_left x xs ys among)

pub one_among : {A : Type 0} (P : A → Type 0) (xs : List A) → OneOf P xs → (x : A) × Among x xs × P x
one_among P [] one = absurd one
one_among P (x ∷ xs) (inl p) = (x, inl refl, p)
one_among P (x ∷ xs) (inr rest) = let it = one_among P xs rest in (it.0, inr it.1, it.2)

pub among_jobs : (g : Passage) (j : JobEnd) (js : List JobEnd) → Among j js → Among g j.passages → Among g (passages_of js)
among_jobs g j [] among here = absurd among
among_jobs g j (i ∷ js) (inl is) here =
    among_left g i.passages (passages_of js) (subst (λ (x : JobEnd). Among g x.passages) (sym is) here)
among_jobs g j (i ∷ js) (inr among) here = among_right g i.passages (passages_of js) (among_jobs g j js among here)

-- counts of programs
one_task : (role : Role) → length (task_in role) ≡ is_program role
one_task (Runs r task) = refl
one_task Pumps = refl
one_task Ticks = refl

length_append : {A : Type 0} (xs ys : List A) → length (xs ++ ys) ≡ length xs + length ys
length_append [] ys = omega arith
length_append (x ∷ xs) ys = let rest = length_append xs ys in omega arith

pub programs_are : (gs : List Passage) → length (tasks_of gs) ≡ added (λ (g : Passage). is_program g.role) gs
programs_are [] = refl
programs_are (g ∷ gs) =
    let one = one_task g.role in let rest = programs_are gs in let sum = length_append (task_in g.role) (tasks_of gs) in omega arith

-- what holds of each passage that runs a process holds of each task
pub from_tasks : (P : Assignment → Type 0) (gs : List Passage) → Each (λ (g : Passage). Each P (task_in g.role)) gs → Each P (tasks_of gs)
from_tasks P [] each = tt
from_tasks P (g ∷ gs) each = each_append P (task_in g.role) (tasks_of gs) each.0 (from_tasks P gs each.1)

-- what holds of one passage's task holds of one of all
one_before : {A : Type 0} (P : A → Type 0) (xs ys : List A) → OneOf P xs → OneOf P (xs ++ ys)
one_before P [] ys one = absurd one
one_before P (x ∷ xs) ys (inl p) = inl p
one_before P (x ∷ xs) ys (inr one) = inr (one_before P xs ys one)

one_behind : {A : Type 0} (P : A → Type 0) (xs ys : List A) → OneOf P ys → OneOf P (xs ++ ys)
one_behind P [] ys one = one
one_behind P (x ∷ xs) ys one = inr (one_behind P xs ys one)

one_task_of : (P : Assignment → Type 0) (gs : List Passage) (g : Passage) → Among g gs → OneOf P (task_in g.role) → OneOf P (tasks_of gs)
one_task_of P [] g among one = absurd among
one_task_of P (x ∷ gs) g (inl is) one =
    one_before P (task_in x.role) (tasks_of gs) (subst (λ (y : Passage). OneOf P (task_in y.role)) (sym is) one)
one_task_of P (x ∷ gs) g (inr among) one = one_behind P (task_in x.role) (tasks_of gs) (one_task_of P gs g among one)

-- no process is run twice
no_runs : (r : Pid) (g : Passage) (n : ℕ) → runs_pid r g.role ≡ false → runs_pid r g.role ≡ true → number_of g ≡ n
no_runs r g n none some = absurd (cc (none, some))

run_by : (r : Pid) (task : List Answer → Option Call) (gs : List Passage) → AreApart gs → (g : Passage) → Among g gs → g.role ≡ Runs r task
    → same_pid r r ≡ true → Each (λ (x : Passage). host_of x ≡ host_of g → runs_pid r x.role ≡ true → number_of x ≡ number_of g) gs
run_by r task [] apart g among is self = absurd among
run_by r task (x ∷ gs) apart g (inl same) is self =
    let role : x.role ≡ Runs r task = ap (λ (y : Passage). y.role) same ∙ is in
    let rest : Each (λ (y : Passage). runs_pid r y.role ≡ false) gs = subst (λ (y : Role). IsApart y gs) role apart.0 in (
      (λ host runs. ap number_of same),
      each_of _ gs (λ y among. λ host runs. no_runs r y (number_of g) (of_each _ gs y rest among) runs),
    )
run_by r task (x ∷ gs) apart g (inr among) is self = (
  (λ host runs. absurd (twice x.role apart.0 runs)),
  run_by r task gs apart.1 g among is self,
)
  where
    same_of : (q : Pid) → same_pid q r ≡ true → q ≡ r
    same_of q is = same_pid_is q r is

    twice : (role : Role) → IsApart role gs → runs_pid r role ≡ true → ⊥
    twice (Runs q other) apart runs =
        let none : runs_pid q g.role ≡ false = of_each (λ (y : Passage). runs_pid q y.role ≡ false) gs g apart among in
        let here : runs_pid q g.role ≡ same_pid r q = ap (runs_pid q) is in
        let back : same_pid r q ≡ true = subst (λ (p : Pid). same_pid r p ≡ true) (sym (same_of q runs)) self in
        cc (none, here, back)
    twice Pumps apart runs = cc runs
    twice Ticks apart runs = cc runs

module _ (c : Settings) (o : HubLog) (rounds : ℕ) (histories : ℕ → List (ℕ × StationEvent)) (heard : List (ℕ × HubEvent)) (js : List JobEnd)
    (k : AreClosed c o histories heard (passages_of js)) (jobs : AreJobs c o rounds js) (sound : AreSound c (logs_in c histories))
    (own : (h : ℕ) → has_station c.specs h ≡ true → Each (λ (x : ℕ × StationEvent). is_own (fresh_station c h) x.1 ≡ true) (histories h))
    (works_end : AnsweredWorksEndByFrames) where
  abbrev gs : List Passage
  gs = passages_of js

  abbrev logs : ℕ → List Entry
  logs = logs_in c histories

  -- one process
  stands_one : (g : Passage) → Among g gs → (r : Pid) (task : List Answer → Option Call) → g.role ≡ Runs r task
      → Stands task r (same_pid_self r) (fresh_station c (host_of g)) (histories (host_of g)) (calls_by g.actions)
      (answers_by (fresh_station c (host_of g)) g.actions)
  stands_one g among r task is =
      let d = of_each (IsDone c o histories heard) gs g (all_done c o histories heard gs k) among in
      let role : IsRole (Runs r task) (fresh_station c (host_of g)) g.actions =
      subst (λ (x : Role). IsRole x (fresh_station c (host_of g)) g.actions) is d.0.role in
      whole task r (same_pid_self r) (fresh_station c (host_of g)) (number_of g) g.actions (histories (host_of g)) role.1
      (placed_whole c o histories heard g d)
      (alone.alone r c o histories heard gs k (number_of g) (host_of g) (of_each _ gs g k.stations among)
      (run_by r task gs jobs.apart g among is (same_pid_self r)) task (same_pid_self r))

  home : (g : Passage) → Among g gs → (r : Pid) (task : List Answer → Option Call) → g.role ≡ Runs r task → r.host ≡ host_of g
  home g among r task is =
      let d = of_each (IsDone c o histories heard) gs g (all_done c o histories heard gs k) among in
      (subst (λ (x : Role). IsRole x (fresh_station c (host_of g)) g.actions) is d.0.role).0

  abbrev Follows : Assignment → Type 0
  Follows a = FollowsTask a.task a.pid (logs a.pid.host)

  abbrev Ends : Assignment → Type 0
  Ends a = IsAtEnd a.task (calls_of a.pid (logs a.pid.host)) (answers_of a.pid (logs a.pid.host))

  follows_by : (g : Passage) → Among g gs → (role : Role) → g.role ≡ role → Each Follows (task_in role)
  follows_by g among (Runs r task) is =
      (subst (λ h. FollowsTask task r (logs h)) (sym (home g among r task is)) (stands_one g among r task is).follows, tt)
  follows_by g among Pumps is = tt
  follows_by g among Ticks is = tt

  ends_by : (g : Passage) → Among g gs → HasEnded c g g.role → (role : Role) → g.role ≡ role → Each Ends (task_in role)
  ends_by g among ended (Runs r task) is =
      let at : IsAtEnd task (calls_by g.actions) (answers_by (fresh_station c (host_of g)) g.actions) = subst (HasEnded c g) is ended in
      let stands = stands_one g among r task is in
      let here : IsAtEnd task (calls_of r (logs (host_of g))) (answers_of r (logs (host_of g))) =
      subst (λ (x : List Call × List Answer). IsAtEnd task x.0 x.1) (λ i. (sym stands.calls i, sym stands.answers i)) at in
      (subst (λ h. IsAtEnd task (calls_of r (logs h)) (answers_of r (logs h))) (sym (home g among r task is)) here, tt)
  ends_by g among ended Pumps is = tt
  ends_by g among ended Ticks is = tt

  roles : Each (λ (g : Passage). EndsRole c g g.role) gs
  roles = from_jobs _ js (each_of _ js (λ j among. (of_each (IsJobEnd c) js j jobs.ends among).roles))

  ended : nat_le o.programs (traffic_of o heard).finished ≡ true → Each (λ (g : Passage). HasEnded c g g.role) gs
  ended enough = all_ended c o histories heard gs k (jobs.programs ∙ programs_are gs) roles enough

  -- where none met a Room
  goes : Each (λ (j : JobEnd). j.met ≡ None) js → Each (λ (g : Passage). GoesOn c g g.role) gs
  goes none = from_jobs _ js (each_of _ js (λ j among. (of_each (IsJobEnd c) js j jobs.ends among).goes_on (of_each _ js j none among)))

  -- the calls and answers of a passage are those of its process
  abbrev OfPassage : (List Call → List Answer → Type 0) → Pid → Type 0
  OfPassage P r = P (calls_of r (logs r.host)) (answers_of r (logs r.host))

  of_passage : (P : List Call → List Answer → Type 0) (g : Passage) → Among g gs → (r : Pid) (task : List Answer → Option Call)
      → g.role ≡ Runs r task → P (calls_by g.actions) (answers_by (fresh_station c (host_of g)) g.actions) → OfPassage P r
  of_passage P g among r task is here =
      let stands = stands_one g among r task is in
      let at : P (calls_of r (logs (host_of g))) (answers_of r (logs (host_of g))) =
      subst (λ (x : List Call × List Answer). P x.0 x.1) (λ i. (sym stands.calls i, sym stands.answers i)) here in
      subst (λ h. P (calls_of r (logs h)) (answers_of r (logs h))) (sym (home g among r task is)) at

  abbrev Stops : Assignment → Type 0
  Stops a = OfPassage (λ calls answers. IsAtEnd a.task calls answers ⊎ IsWaiting calls answers) a.pid

  abbrev Waits : Assignment → Type 0
  Waits a = OfPassage IsWaiting a.pid

  stops_by : (g : Passage) → Among g gs → EndsRole c g g.role → GoesOn c g g.role → (role : Role) → g.role ≡ role → Each Stops (task_in role)
  stops_by g among ends goes (Runs r task) is = (
    of_passage (λ calls answers. IsAtEnd task calls answers ⊎ IsWaiting calls answers) g among r task is
        (either (subst (EndsRole c g) is ends) (subst (GoesOn c g) is goes)),
    tt,
  )
    where
      either : EndsRole c g (Runs r task) → GoesOn c g (Runs r task)
          → IsAtEnd task (calls_by g.actions) (answers_by (fresh_station c (host_of g)) g.actions)
          ⊎ IsWaiting (calls_by g.actions) (answers_by (fresh_station c (host_of g)) g.actions)
      either ends (inl finished) = inl (ends finished)
      either ends (inr waits) = inr waits.1
  stops_by g among ends goes Pumps is = tt
  stops_by g among ends goes Ticks is = tt

  waits_by : (g : Passage) → Among g gs → is_program g.role ≡ 1 → added finishes g.last ≡ 0 → GoesOn c g g.role → (role : Role)
      → g.role ≡ role → OneOf Waits (task_in role)
  waits_by g among program none goes (Runs r task) is =
      inl (of_passage IsWaiting g among r task is (later (subst (GoesOn c g) is goes)))
    where
      later : GoesOn c g (Runs r task) → IsWaiting (calls_by g.actions) (answers_by (fresh_station c (host_of g)) g.actions)
      later (inl finished) = let one : added finishes g.last ≡ 1 = ap (added finishes) finished in absurd (omega arith)
      later (inr waits) = waits.1
  waits_by g among program none goes Pumps is = let no : is_program g.role ≡ 0 = ap is_program is in absurd (omega arith)
  waits_by g among program none goes Ticks is = let no : is_program g.role ≡ 0 = ap is_program is in absurd (omega arith)

  one_waits : Each (λ (j : JobEnd). j.met ≡ None) js → nat_le o.programs (traffic_of o heard).finished ≡ false → OneOf Waits (tasks_of gs)
  one_waits none wanting =
      let it = one_left c o histories heard gs k (jobs.programs ∙ programs_are gs) roles wanting in
      one_task_of Waits gs it.0 it.1 (waits_by it.0 it.1 it.2 it.3 (of_each _ gs it.0 (goes none) it.1) it.0.role refl)

  still_at : (h : ℕ) → IsStill c.specs rounds (fresh_station c h) (histories h) → StandsStill c h rounds (logs h)
  still_at h still = record {
    ticks = sym (now_is c h (logs h) (built_at c h (histories h))) ∙ still.ticked;
    none_done = none_collects (fresh_station c h) (histories h) still.none_ready;
  }

  in_time_at : (h : ℕ) → has_station c.specs h ≡ true → ComeInTime c h (logs h)
  in_time_at h there = in_time c o histories heard gs k h there

  early_at : rounds < c.times.tries * c.times.interval → (h : ℕ) → has_station c.specs h ≡ true → NoTickEnds (logs h)
  early_at short h there =
      let few = clock.few c o histories heard gs k jobs.done rounds jobs.time h there (jobs.clocks h there) in
      no_tick_ends c h (logs h) (built_at c h (histories h)) (omega arith)

  abbrev Framed : Assignment → Type 0
  Framed a = EachWorkIsEndedByFrame c a.pid.host a.pid (logs a.pid.host)

  frames_by : rounds < c.times.tries * c.times.interval → (g : Passage) → Among g gs → HasEnded c g g.role → (role : Role) → g.role ≡ role
      → Each Framed (task_in role)
  frames_by short g among is_ended (Runs r task) is =
      let there = of_each _ gs g k.stations among in
      let stands = stands_one g among r task is in
      let at : IsAtEnd task (calls_by g.actions) (answers_by (fresh_station c (host_of g)) g.actions) = subst (HasEnded c g) is is_ended in
      let same : length (answers_of r (logs (host_of g))) ≡ length (calls_of r (logs (host_of g))) =
      ap length stands.answers ∙ (at.answered ∙ ap length (sym stands.calls)) in (
        subst (λ h. EachWorkIsEndedByFrame c h r (logs h)) (sym (home g among r task is))
            (framed works_end c (host_of g) r (histories (host_of g)) (own (host_of g) there) (early_at short (host_of g) there)
            (in_time_at (host_of g) there) same),
        tt,
      )
  frames_by short g among is_ended Pumps is = tt
  frames_by short g among is_ended Ticks is = tt

  none_runs : (r : Pid) → Each (λ (a : Assignment). same_pid a.pid r ≡ false) (tasks_of gs)
      → Each (λ (g : Passage). runs_pid r g.role ≡ false) gs
  none_runs r none = by gs none
    where
      by_role : (role : Role) → (rest : List Assignment) → Each (λ (a : Assignment). same_pid a.pid r ≡ false) (task_in role ++ rest)
          → (runs_pid r role ≡ false) × Each (λ (a : Assignment). same_pid a.pid r ≡ false) rest
      by_role (Runs q task) rest none = (none.0, none.1)
      by_role Pumps rest none = (refl, none)
      by_role Ticks rest none = (refl, none)

      by : (xs : List Passage) → Each (λ (a : Assignment). same_pid a.pid r ≡ false) (tasks_of xs)
          → Each (λ (g : Passage). runs_pid r g.role ≡ false) xs
      by [] none = tt
      by (x ∷ xs) none = let parts = by_role x.role (tasks_of xs) none in (parts.0, by xs parts.1)

  reasons : OneOf (λ (j : JobEnd). j.met ≡ Some rooms.Full) js → HasUsedUp c logs ⊎ AreBusy c logs
  reasons one =
      let job = one_among (λ (j : JobEnd). j.met ≡ Some rooms.Full) js one in
      let end = of_each (IsJobEnd c) js job.0 jobs.ends job.1 in
      let met = one_among (MetFull c) job.0.passages (end.full job.2) in
      reason c o histories heard gs k sound.rise sound.opens sound.low js refl jobs.ends jobs.few met.0 (among_jobs met.0 job.0 js job.1
      met.1) met.2

  abbrev MayBe : RunEnd → Type 0
  MayBe end = MayEndAs c o rounds histories heard js end

  pub come_to : (end : RunEnd) → MayBe end → IsOutcome c o.plan rounds (tasks_of gs) end logs
  come_to end may = record {
    collected = in_time_at;
    seldom = λ h from event output there. seldom from event output h c o histories heard gs k sound.rise sound.opens there;
    few_ticks = λ h there. clock.few c o histories heard gs k jobs.done rounds jobs.time h there (jobs.clocks h there);
    even = λ g h one two.
        let high = clock.at_most c o histories heard gs k jobs.done rounds jobs.time g one (jobs.clocks g one) in
        let low = clock.at_least c o histories heard gs k jobs.done rounds jobs.time h two (jobs.clocks h two) in
        omega arith;
    follows = from_tasks Follows gs (each_of _ gs (λ g among. follows_by g among g.role refl));
    ended = λ is.
        from_tasks Ends gs
        (each_of _ gs (λ g among. ends_by g among (of_each _ gs g (ended (subst MayBe is may).1) among) g.role refl));
    waits = λ is.
        from_tasks Stops gs
        (each_of _ gs (λ g among.
        stops_by g among (of_each _ gs g roles among) (of_each _ gs g (goes (subst MayBe is may).0) among) g.role refl));
    one_waits = λ is. one_waits (subst MayBe is may).0 (subst MayBe is may).1;
    still = λ is h there. still_at h ((subst MayBe is may).2 h there);
    idle = λ r not_it there. alone.idle r c o histories heard gs k r.host there (none_runs r not_it);
    limited = λ is. reasons (subst MayBe is may);
    early = early_at;
    by_frames = λ is short.
        from_tasks Framed gs
        (each_of _ gs (λ g among. frames_by short g among (of_each _ gs g (ended (subst MayBe is may).1) among) g.role refl));
  }

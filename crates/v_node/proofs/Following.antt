-- Each program's process follows its task in the closed history of the node, and no other process calls or collects.
use Rattle.std.proofs.Common.{◌≡◌, ℕ, ◌+◌, ◌≤◌, Bool, true, false, Option, None, List, [], ◌∷◌, ◌++◌, cond, length, refl, sym, ap, ◌∙◌, subst, arith, inl, inr}
use Rattle.std.proofs.lemmas.Bool.{cases_Bool}
use Rattle.vk_types.specs.Types.{Answer, Call, Pid, StationEvent}
use Rattle.v_laws.proofs.Tables.{same_pid_is}
use Rattle.vk_base.specs.declared.event.StationEvent.TheVariants as events
use Rattle.vk_base.specs.Pids.{same_pid}
use Rattle.vk_base.specs.Settings.{Settings}
use Rattle.vk_base.proofs.PidLemmas.{same_pid_self}
use Rattle.vk_host.specs.Values.{input_of}
use Rattle.vk_hub.specs.declared.event.HubEvent.{HubEvent}
use Rattle.vk_hub.specs.Hubs.{HubLog}
use Rattle.vk_port.specs.Ports.{Action, Enters, Delivers, Drops, Hears}
use Rattle.vk_port.specs.Stations.{StationHistory, entries_at, entry_at}
use Rattle.vk_rules.specs.Each.{Each}
use Rattle.vk_rules.specs.Entries.{Entry}
use Rattle.vk_rules.proofs.Lists.{each_front, each_behind, each_both}
use Rattle.v_ended.specs.Answered.{answers_of, calls_of}
use Rattle.v_run.specs.Jobs.{EndsRole, JobEnd, runs_pid}
use Rattle.v_run.specs.Outcomes.{Assignment, DoesNothing, FollowsTask, is_doing_of}
use Rattle.v_run.specs.Passages.{IsAtEnd, IsRole, Passage, Pumps, Role, Runs, Ticks, answers_by, calls_by, fresh_station, host_of, number_of}
use Rattle.v_run.specs.Runs.{AreApart, IsApart, passages_of, task_in, tasks_of}
use Rattle.v_run.proofs.Alone.{doing, doings, role_none}
use Rattle.v_run.proofs.Ended.{Among, each_of, of_each}
use Rattle.v_run.proofs.Entries.{by_entries, input_is, total_same}
use Rattle.v_run.proofs.Playing.{NotOthers, Stands, whole}
use Rattle.v_run.proofs.Sums.{added_same_each, placed_whole}
use Rattle.v_run.proofs.Totals.{added, added_append, added_none, places, total, weight}
use Rattle.v_run.proofs.Whole.{among_left, from_jobs, from_tasks}
use Rattle.v_node.specs.Closed.{IsNodeClosed}
use Rattle.v_node.specs.Jobs.{AreNodeJobs, FinishesOrWaits, IsProgramEnd, NodeEnd, passages_in}
use Rattle.v_node.specs.Links.{IsDelivery, OnlyBrings}
use Rattle.v_node.specs.Outcomes.{IsDoneOrWaits}
use Rattle.v_node.proofs.Sums.{DHere, IsLightElsewhere, all_here, at_station, light_elsewhere}

not_doing : (b : Bool) → cond {A = ℕ} b 1 0 ≡ 0 → b ≡ false
not_doing true none = absurd (cc none)
not_doing false none = refl

module _ (r : Pid) where
  delivery_none : (e : StationEvent) → IsDelivery e → doing r e ≡ 0
  delivery_none (events.Call pid c) is = absurd is
  delivery_none (events.Collect pid) is = absurd is
  delivery_none events.Tick is = absurd is
  delivery_none (events.Deliver f) is = refl

  pub brings_none : (acts : List Action) → OnlyBrings acts → doings r acts ≡ 0
  brings_none [] only = refl
  brings_none (Enters before e posted ∷ acts) only =
      let rest = brings_none acts only.1 in let one = delivery_none e only.0 in omega arith
  brings_none (Delivers heard frame before posted ∷ acts) only = absurd only
  brings_none (Drops heard frame ∷ acts) only = absurd only
  brings_none (Hears heard ∷ acts) only = absurd only

  module _ (c : Settings) where
    abbrev KeepsRole : Passage → Type 0
    KeepsRole g = IsRole g.role (fresh_station c (host_of g)) g.actions

    abbrev IsOfOther : Passage → Type 0
    IsOfOther g = runs_pid r g.role ≡ false

    -- where none runs it
    none_does : (xs : List Passage) → Each KeepsRole xs → Each IsOfOther xs → added (λ (g : Passage). doings r g.actions) xs ≡ 0
    none_does xs keeps others =
        added_same_each (λ (g : Passage). KeepsRole g × IsOfOther g) (λ (g : Passage). doings r g.actions) (λ (g : Passage). 0) xs
        (λ g both. role_none r g.role (fresh_station c (host_of g)) g.actions both.0 both.1) (each_both KeepsRole IsOfOther xs keeps others)
        ∙ added_none (λ (g : Passage). 0) xs (λ g. refl)

    -- where one does
    apart_by : (task : List Answer → Option Call) (xs : List Passage) (g : Passage) → Among g xs → g.role ≡ Runs r task → (role : Role)
        → IsApart role xs → runs_pid r role ≡ false
    apart_by task xs g among is (Runs q t) apart = elim (cases_Bool (same_pid q r)) [
      | inl same ↦
          let none : same_pid r q ≡ false =
          ap (runs_pid q) (sym is) ∙ of_each (λ (x : Passage). runs_pid q x.role ≡ false) xs g apart among in
          let here : same_pid r q ≡ true = subst (λ p. same_pid r p ≡ true) (sym (same_pid_is q r same)) (same_pid_self r) in
          absurd (cc (none, here))
      | inr other ↦ other
    ]
    apart_by task xs g among is Pumps apart = refl
    apart_by task xs g among is Ticks apart = refl

    one_does : (task : List Answer → Option Call) (xs : List Passage) → AreApart xs → Each KeepsRole xs → (g : Passage) → Among g xs
        → g.role ≡ Runs r task → added (λ (x : Passage). doings r x.actions) xs ≡ doings r g.actions
    one_does task [] apart keeps g among is = absurd among
    one_does task (x ∷ xs) apart keeps g (inl same) is =
        let role : x.role ≡ Runs r task = ap (λ (y : Passage). y.role) same ∙ is in
        let others : Each (λ (y : Passage). runs_pid r y.role ≡ false) xs = subst (λ (y : Role). IsApart y xs) role apart.0 in
        let none = none_does xs keeps.1 others in
        let one = ap (λ (y : Passage). doings r y.actions) same in
        omega arith
    one_does task (x ∷ xs) apart keeps g (inr among) is =
        let none = role_none r x.role (fresh_station c (host_of x)) x.actions keeps.0 (apart_by task xs g among is x.role apart.0) in
        let rest = one_does task xs apart.1 keeps.1 g among is in
        omega arith

  -- of entries
  pub does_nothing : (es : List Entry) → added (λ (e : Entry). cond (is_doing_of r e.input) 1 0) es ≡ 0 → DoesNothing r es
  does_nothing [] none = tt
  does_nothing (e ∷ es) none = (not_doing (is_doing_of r e.input) (omega arith), does_nothing es (omega arith))

  not_others : (task : List Answer → Option Call) (o : StationHistory) (m : ℕ) (xs : List (ℕ × StationEvent))
      → Each (IsLightElsewhere (doing r) m) xs → NotOthers task r (same_pid_self r) o m xs
  not_others task o m [] light = tt
  not_others task o m (x ∷ xs) light =
      ((λ other. not_doing (is_doing_of r (input_of x.1)) (light.0 other)), not_others task o m xs light.1)

module _ (c : Settings) (host : ℕ) (o : HubLog) (rounds : ℕ) (history : List (ℕ × StationEvent)) (heard : List (ℕ × HubEvent)) (n : NodeEnd)
    (k : IsNodeClosed c host o history heard n) (jobs : AreNodeJobs c host o rounds n) where
  abbrev ps : List Passage
  ps = passages_of n.programs

  abbrev O : StationHistory
  O = fresh_station c host

  abbrev es : List Entry
  es = entries_at O history

  abbrev H : Passage → Type 0
  H = DHere c host o history heard n k

  here : Each H (passages_in n)
  here = all_here c host o history heard n k

  keeps_all : (r : Pid) → Each (KeepsRole r c) (passages_in n)
  keeps_all r = each_of _ (passages_in n) (λ g among. (of_each H (passages_in n) g here among).0.0.role)

  -- the clock's passage is the last
  clock_none : (r : Pid) → doings r n.clock.passage.actions ≡ 0
  clock_none r =
      let g = n.clock.passage in
      let keeps = (each_behind (KeepsRole r c) ps (g ∷ []) (keeps_all r)).0 in
      role_none r g.role (fresh_station c (host_of g)) g.actions keeps (ap (runs_pid r) jobs.clock.role)

  all_doings : (r : Pid) → total (λ before e. doing r e) [] history ≡ added (λ (g : Passage). doings r g.actions) ps
  all_doings r =
      let all = at_station c host o history heard n k (λ before e. doing r e) in
      let split = added_append (λ (g : Passage). doings r g.actions) ps (n.clock.passage ∷ []) in
      let clock = clock_none r in
      let link = brings_none r n.link.actions k.link.brings in
      omega arith

  -- a program's process
  stands : (g : Passage) → Among g ps → (r : Pid) (task : List Answer → Option Call) → g.role ≡ Runs r task
      → Stands task r (same_pid_self r) O history (calls_by g.actions) (answers_by O g.actions)
  stands g among r task is =
      let d = of_each H (passages_in n) g here (among_left g ps (n.clock.passage ∷ []) among) in
      let m = number_of g in
      let placed = placed_whole c o (λ h. history) heard g d.0 in
      let one = one_does r c task ps jobs.apart (each_front (KeepsRole r c) ps (n.clock.passage ∷ []) (keeps_all r)) g among is in
      let own : weight (λ before e. doing r e) (places m [] history) ≡ doings r g.actions = ap (weight (λ before e. doing r e)) placed in
      let sum = all_doings r in
      let all : total (λ before e. doing r e) [] history ≤ weight (λ before e. doing r e) (places m [] history) = omega arith in
      let role : IsRole (Runs r task) O g.actions =
      subst (λ h. IsRole (Runs r task) (fresh_station c h) g.actions) d.1
      (subst (λ (x : Role). IsRole x (fresh_station c (host_of g)) g.actions) is d.0.0.role) in
      whole task r (same_pid_self r) O m g.actions history role.1 placed
      (not_others r task O m history (light_elsewhere (doing r) m [] history all))

  abbrev pub Follows : Assignment → Type 0
  Follows a = FollowsTask a.task a.pid es

  follows_by : (g : Passage) → Among g ps → (role : Role) → g.role ≡ role → Each Follows (task_in role)
  follows_by g among (Runs r task) is = ((stands g among r task is).follows, tt)
  follows_by g among Pumps is = tt
  follows_by g among Ticks is = tt

  pub follows : Each Follows (tasks_of ps)
  follows = from_tasks Follows ps (each_of _ ps (λ g among. follows_by g among g.role refl))

  -- where no job met a Room
  abbrev pub Ends : Assignment → Type 0
  Ends a = IsDoneOrWaits a.task (calls_of a.pid es) (answers_of a.pid es)

  ends_by : (g : Passage) → Among g ps → host_of g ≡ host → EndsRole c g g.role → FinishesOrWaits c g → (role : Role) → g.role ≡ role
      → Each Ends (task_in role)
  ends_by g among at role ends (Runs r task) is = (subst P (λ i. (sym told.calls i, sym told.answers i)) (by ends), tt)
    where
      told : Stands task r (same_pid_self r) O history (calls_by g.actions) (answers_by O g.actions)
      told = stands g among r task is

      P : List Call × List Answer → Type 0
      P x = IsDoneOrWaits task x.0 x.1

      by : FinishesOrWaits c g → IsDoneOrWaits task (calls_by g.actions) (answers_by O g.actions)
      by (inl last) =
          inl (subst (λ h. IsAtEnd task (calls_by g.actions) (answers_by (fresh_station c h) g.actions)) at
          ((subst (EndsRole c g) is role) last))
      by (inr waits) = inr (subst (λ h. length (calls_by g.actions) ≡ length (answers_by (fresh_station c h) g.actions) + 1) at waits)
  ends_by g among at role ends Pumps is = tt
  ends_by g among at role ends Ticks is = tt

  pub ended : Each (λ (j : JobEnd). j.met ≡ None) n.programs → Each Ends (tasks_of ps)
  ended none =
      let roles : Each (λ (g : Passage). EndsRole c g g.role) ps =
      from_jobs _ n.programs (each_of _ n.programs (λ j among. (of_each (IsProgramEnd c) n.programs j jobs.programs among).job.roles)) in
      let waits : Each (FinishesOrWaits c) ps =
      from_jobs _ n.programs (each_of _ n.programs (λ j among.
      (of_each (IsProgramEnd c) n.programs j jobs.programs among).waits (of_each _ n.programs j none among))) in
      from_tasks Ends ps (each_of _ ps (λ g among.
      ends_by g among (of_each H (passages_in n) g here (among_left g ps (n.clock.passage ∷ []) among)).1 (of_each _ ps g roles among)
      (of_each _ ps g waits among) g.role refl))

  -- a process that no job runs
  no_task : (r : Pid) (role : Role) (rest : List Assignment) → Each (λ (a : Assignment). same_pid a.pid r ≡ false) (task_in role ++ rest)
      → (runs_pid r role ≡ false) × Each (λ (a : Assignment). same_pid a.pid r ≡ false) rest
  no_task r (Runs q task) rest none = (none.0, none.1)
  no_task r Pumps rest none = (refl, none)
  no_task r Ticks rest none = (refl, none)

  no_tasks : (r : Pid) (xs : List Passage) → Each (λ (a : Assignment). same_pid a.pid r ≡ false) (tasks_of xs) → Each (IsOfOther r c) xs
  no_tasks r [] none = tt
  no_tasks r (x ∷ xs) none = let parts = no_task r x.role (tasks_of xs) none in (parts.0, no_tasks r xs parts.1)

  pub idle : (r : Pid) → Each (λ (a : Assignment). same_pid a.pid r ≡ false) (tasks_of ps) → DoesNothing r es
  idle r none =
      let sum = all_doings r in
      let zero = none_does r c ps (each_front (KeepsRole r c) ps (n.clock.passage ∷ []) (keeps_all r)) (no_tasks r ps none) in
      does_nothing r es
      (sym (by_entries c host history (λ (e : Entry). cond (is_doing_of r e.input) 1 0))
      ∙ (total_same (λ before e. cond (is_doing_of r (entry_at O before e).input) 1 0) (λ before e. doing r e) [] history
      (λ before e. ap (λ i. cond (is_doing_of r i) 1 0) (input_is O before e))
      ∙ (sum ∙ zero)))

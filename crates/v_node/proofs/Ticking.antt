-- The station of a node ticks just as often as its clock did.
use Rattle.std.proofs.Common.{◌≡◌, ℕ, List, [], ◌∷◌, refl, ◌∙◌, subst, arith}
use Rattle.vk_types.specs.Types.{StationEvent}
use Rattle.vk_base.specs.declared.event.StationEvent.TheVariants as events
use Rattle.vk_base.specs.Settings.{Settings}
use Rattle.vk_hub.specs.declared.event.HubEvent.{HubEvent}
use Rattle.vk_hub.specs.Hubs.{HubLog}
use Rattle.vk_port.specs.Ports.{Action, Enters, Delivers, Drops, Hears}
use Rattle.vk_port.specs.Stations.{StationHistory, entries_at}
use Rattle.vk_rules.specs.Each.{Each}
use Rattle.vk_rules.proofs.Lists.{each_front, each_behind, each_both}
use Rattle.v_run.specs.Outcomes.{ticks_in}
use Rattle.v_run.specs.Passages.{IsRole, Passage, Pumps, Role, Runs, Ticks, fresh_station, host_of, tick_count}
use Rattle.v_run.specs.Runs.{passages_of}
use Rattle.v_run.proofs.Clock.{only_ticks, plays_no_tick, ticks_by}
use Rattle.v_run.proofs.Ended.{each_of, of_each}
use Rattle.v_run.proofs.Entries.{tick_of, ticks_are}
use Rattle.v_run.proofs.Sums.{added_same_each}
use Rattle.v_run.proofs.Totals.{added, added_append, added_none}
use Rattle.v_run.proofs.Whole.{from_jobs}
use Rattle.v_node.specs.Closed.{IsNodeClosed}
use Rattle.v_node.specs.Jobs.{AreNodeJobs, IsProgramEnd, NodeEnd, RunsProcess, passages_in}
use Rattle.v_node.specs.Links.{IsDelivery, OnlyBrings}
use Rattle.v_node.proofs.Sums.{D, all_done, at_station}

no_tick : (e : StationEvent) → IsDelivery e → tick_of e ≡ 0
no_tick (events.Call pid c) is = absurd is
no_tick (events.Collect pid) is = absurd is
no_tick events.Tick is = absurd is
no_tick (events.Deliver f) is = refl

brings_no_tick : (acts : List Action) → OnlyBrings acts → ticks_by acts ≡ 0
brings_no_tick [] only = refl
brings_no_tick (Enters before e posted ∷ acts) only =
    let rest = brings_no_tick acts only.1 in let one = no_tick e only.0 in omega arith
brings_no_tick (Delivers heard frame before posted ∷ acts) only = absurd only
brings_no_tick (Drops heard frame ∷ acts) only = absurd only
brings_no_tick (Hears heard ∷ acts) only = absurd only

program_no_tick : (role : Role) (o : StationHistory) (acts : List Action) → IsRole role o acts → RunsProcess role → ticks_by acts ≡ 0
program_no_tick (Runs r task) o acts is runs = plays_no_tick task r o [] [] acts is.1
program_no_tick Pumps o acts is runs = absurd runs
program_no_tick Ticks o acts is runs = absurd runs

module _ (c : Settings) (host : ℕ) (o : HubLog) (rounds : ℕ) (history : List (ℕ × StationEvent)) (heard : List (ℕ × HubEvent)) (n : NodeEnd)
    (k : IsNodeClosed c host o history heard n) (jobs : AreNodeJobs c host o rounds n) where
  abbrev ps : List Passage
  ps = passages_of n.programs

  abbrev DN : Passage → Type 0
  DN = D c host o history heard n k

  done : Each DN (passages_in n)
  done = all_done c host o history heard n k

  pub are_runs : Each (λ (g : Passage). RunsProcess g.role) ps
  are_runs = from_jobs _ n.programs (each_of _ n.programs (λ j among. (of_each (IsProgramEnd c) n.programs j jobs.programs among).runs))

  programs_tick_not : added (λ (g : Passage). ticks_by g.actions) ps ≡ 0
  programs_tick_not =
      added_same_each (λ (g : Passage). DN g × RunsProcess g.role) (λ (g : Passage). ticks_by g.actions) (λ (g : Passage). 0) ps
      (λ g d. program_no_tick g.role (fresh_station c (host_of g)) g.actions d.0.0.role d.1)
      (each_both DN (λ (g : Passage). RunsProcess g.role) ps (each_front DN ps (n.clock.passage ∷ []) done) are_runs)
      ∙ added_none (λ (g : Passage). 0) ps (λ g. refl)

  clock_ticks : ticks_by n.clock.passage.actions ≡ tick_count n.clock.passage.actions
  clock_ticks =
      let g = n.clock.passage in
      let d = (each_behind DN ps (g ∷ []) done).0 in
      only_ticks g.actions (subst (λ (x : Role). IsRole x (fresh_station c (host_of g)) g.actions) jobs.clock.role d.0.role)

  pub ticks : ticks_in (entries_at (fresh_station c host) history) ≡ tick_count n.clock.passage.actions
  ticks =
      let are = ticks_are c host history in
      let all = at_station c host o history heard n k (λ before e. tick_of e) in
      let split = added_append (λ (g : Passage). ticks_by g.actions) ps (n.clock.passage ∷ []) in
      let programs = programs_tick_not in
      let clock = clock_ticks in
      let link = brings_no_tick n.link.actions k.link.brings in
      omega arith

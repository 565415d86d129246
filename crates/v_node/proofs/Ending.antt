-- Where no job met a Room and no receive failed, the clock does not hear that the hub has ended: nothing but its own halt ends it.
use Rattle.std.proofs.Common.{◌≡◌, ◌≢◌, ℕ, ◌≤◌, ◌==◌, nat_le, true, false, List, [], ◌∷◌, ◌++◌, length, map, take, refl, sym, ap, ◌∙◌, subst, arith, inl, inr}
use Rattle.std.proofs.lemmas.Bool.{leb-true}
use Rattle.std.proofs.lemmas.List.{length-append}
use Rattle.std.specs.List.{list_any}
use mathlib.Core.List.{IsPrefix}
use Rattle.vk_types.specs.Types.{StationEvent}
use Rattle.turn_cell.specs.History.{events_of}
use Rattle.vk_base.specs.declared.event.StationEvent.TheVariants as events
use Rattle.vk_base.specs.Settings.{Settings}
use Rattle.vk_base.proofs.BoolLemmas.{or_rest}
use Rattle.vk_hub.specs.declared.event.HubEvent.{HubEvent}
use Rattle.vk_hub.specs.declared.event.HubEvent.TheVariants as hub_events
use Rattle.vk_hub.specs.Hubs.{HubLog, Traffic, first_traffic, is_stopped, traffic_of}
use Rattle.vk_hub.specs.Links.{Frame}
use Rattle.vk_port.specs.Ports.{Action, Enters, Delivers, Drops, Hears, IsLog, Berth, Stand, entered_at, fetched_at, posts}
use Rattle.vk_port.specs.Stations.{StationHistory, frames_at}
use Rattle.vk_rules.specs.Each.{Each}
use Rattle.vk_rules.proofs.Lists.{each_front, each_behind, each_both}
use Rattle.v_run.specs.Jobs.{EndsRole, HaltsNot, JobEnd}
use Rattle.v_run.specs.Passages.{HasHeard, IsLast, Passage, Pumps, Role, Runs, Ticks, fresh_station, hub_number_of, nowhere}
use Rattle.v_run.specs.Runs.{passages_of}
use Rattle.v_run.proofs.Dealt.{all_once}
use Rattle.v_run.proofs.Ended.{each_of, finish_few, finished_after, finishes, halted_after, halts, is_program, no_halt_last, no_sends, of_each, program_one, stopped_by, summed, summed_is, summed_prefix}
use Rattle.v_run.proofs.Heard.{log_is_later, prefix_front, prefix_over, weight_of_events}
use Rattle.v_run.proofs.Totals.{added, added_append, added_map, by_seats, events_append, places, weight}
use Rattle.v_run.proofs.Whole.{from_jobs}
use Rattle.v_node.specs.Closed.{IsNodeClosed, numbers_at_hub}
use Rattle.v_node.specs.Jobs.{AreNodeJobs, HaltsAtMost, IsProgramEnd, NodeEnd, NoneMet, RunsProcess, passages_in}
use Rattle.v_node.specs.Links.{Errand}
use Rattle.v_node.proofs.Carried.{fetches_of}
use Rattle.v_node.proofs.Sums.{DHere, all_here, carrier_sent, events_at_hub, link_sent, same_host, sent_by}

posts_no_halt : (fs : List Frame) → added halts (map hub_events.Post fs) ≡ 0
posts_no_halt [] = refl
posts_no_halt (f ∷ fs) = let rest = posts_no_halt fs in omega arith

-- where a port heard that the hub had ended, it had, and the port's seat had entered no halt
pub heard_at : (p : Berth) (acts : List Action) (s t : Stand) → IsLog p s acts t → HasHeard acts → added halts s.sent ≡ 0
    → (before : List (ℕ × HubEvent)) × IsPrefix before t.heard × (is_stopped p.hub.programs (traffic_of p.hub before) ≡ true)
    × (added halts (events_of p.hub_number before) ≡ 0)
heard_at p [] s t log has none = absurd has
heard_at p (Enters before e posted ∷ acts) s t log has none =
    heard_at p acts (entered_at p s before e posted) t log.1 has
    (let sum = added_append halts s.sent (posts p.station before e posted) in
    let more = posts_no_halt (take posted (frames_at p.station before e)) in
    omega arith)
heard_at p (Delivers heard frame before posted ∷ acts) s t log has none =
    let e = events.Deliver frame in
    let one = added_append halts s.sent (hub_events.Fetch p.host ∷ []) in
    let sum = added_append halts (s.sent ++ hub_events.Fetch p.host ∷ []) (posts p.station before e posted) in
    let more = posts_no_halt (take posted (frames_at p.station before e)) in
    heard_at p acts (entered_at p (fetched_at p s heard) before e posted) t log.1 has (omega arith)
heard_at p (Drops heard frame ∷ acts) s t log has none =
    let one = added_append halts s.sent (hub_events.Fetch p.host ∷ []) in
    heard_at p acts (fetched_at p s heard) t log.1 has (omega arith)
heard_at p (Hears heard ∷ acts) s t log has none =
    let later = log_is_later p acts (fetched_at p s heard) t log.1 in
    let traffic = traffic_of p.hub heard in (
      heard,
      prefix_front heard ((p.hub_number, hub_events.Fetch p.host) ∷ []) t.heard later.1,
      stopped_by p.hub.programs p.host traffic (is_stopped p.hub.programs traffic) refl log.0.answered,
      ap (added halts) log.0.mine ∙ none,
    )

nothing_front : {A : Type 0} (xs ys : List A) → xs ++ ys ≡ [] → xs ≡ []
nothing_front [] ys is = refl
nothing_front (x ∷ xs) ys is = absurd (cc is)

no_halt_at_most : (last : List HubEvent) → last ≡ [] → added halts last ≡ 0
no_halt_at_most last is = ap (added halts) is

no_finish : (last : List HubEvent) → HaltsAtMost last → added finishes last ≡ 0
no_finish last (inl is) = ap (added finishes) is
no_finish last (inr is) = ap (added finishes) is

fetches_no_halt : (es : List Errand) → added halts (fetches_of es) ≡ 0
fetches_no_halt [] = refl
fetches_no_halt (e ∷ es) = let rest = fetches_no_halt es in omega arith

fetches_no_finish : (es : List Errand) → added finishes (fetches_of es) ≡ 0
fetches_no_finish [] = refl
fetches_no_finish (e ∷ es) = let rest = fetches_no_finish es in omega arith

clock_no_finish : (last : List HubEvent) → IsLast last → last ≢ hub_events.Finished ∷ [] → added finishes last ≡ 0
clock_no_finish last (inl is) other = ap (added finishes) is
clock_no_finish last (inr (inl is)) other = absurd (other is)
clock_no_finish last (inr (inr is)) other = ap (added finishes) is

-- a program's passage, where its job met no Room
halts_not : (g : Passage) (role : Role) → RunsProcess role → HaltsNot g role → g.last ≢ hub_events.Halt ∷ []
halts_not g (Runs r task) runs not = not
halts_not g Pumps runs not = absurd runs
halts_not g Ticks runs not = absurd runs

added_zero : {A : Type 0} (P : A → Type 0) (f : A → ℕ) (xs : List A) → ((x : A) → P x → f x ≡ 0) → Each P xs → added f xs ≡ 0
added_zero P f [] none each = refl
added_zero P f (x ∷ xs) none each = let one = none x each.0 in let rest = added_zero P f xs none each.1 in omega arith

added_few : {A : Type 0} (P : A → Type 0) (f : A → ℕ) (xs : List A) → ((x : A) → P x → f x ≤ 1) → Each P xs → added f xs ≤ length xs
added_few P f [] few each = omega arith
added_few P f (x ∷ xs) few each = let one = few x each.0 in let rest = added_few P f xs few each.1 in omega arith

-- one passage for each program's job
pub so_many : (c : Settings) (js : List JobEnd) → Each (IsProgramEnd c) js → length (passages_of js) ≡ length js
so_many c [] ends = refl
so_many c (j ∷ js) ends =
    let rest = so_many c js ends.1 in
    let one = ends.0.one in
    let sum = length-append j.passages (passages_of js) in
    omega arith

module _ (c : Settings) (host : ℕ) (o : HubLog) (rounds : ℕ) (history : List (ℕ × StationEvent)) (heard : List (ℕ × HubEvent)) (n : NodeEnd)
    (k : IsNodeClosed c host o history heard n) (jobs : AreNodeJobs c host o rounds n) where
  abbrev ps : List Passage
  ps = passages_of n.programs

  abbrev O : StationHistory
  O = fresh_station c host

  abbrev H : Passage → Type 0
  H = DHere c host o history heard n k

  here : Each H (passages_in n)
  here = all_here c host o history heard n k

  programs_here : Each H ps
  programs_here = each_front H ps (n.clock.passage ∷ []) here

  clock_here : H n.clock.passage
  clock_here = (each_behind H ps (n.clock.passage ∷ []) here).0

  -- at most as many have finished as there are programs
  all_finished : summed finishes heard ≤ length n.programs
  all_finished =
      let u = finishes in
      let f : Passage → ℕ = sent_by c host o history heard n k u in
      let all = summed_is u [] heard in
      let hub = events_at_hub c host o history heard n k u in
      let split = added_append f ps (n.clock.passage ∷ []) in
      let roles : Each (λ (g : Passage). EndsRole c g g.role) ps =
      from_jobs _ n.programs (each_of _ n.programs (λ j among. (of_each (IsProgramEnd c) n.programs j jobs.programs among).job.roles)) in
      let few : added f ps ≤ length ps =
      added_few (λ (g : Passage). H g × EndsRole c g g.role) f ps
      (λ g d.
      let sent = no_sends u (λ x. refl) (λ h. refl) O host g.actions in
      let last = finish_few c g g.role d.1 d.0.0.0.last in
      let one = program_one g.role in
      omega arith) (each_both H (λ (g : Passage). EndsRole c g g.role) ps programs_here roles) in
      let count = so_many c n.programs jobs.programs in
      let clock_sent = no_sends u (λ x. refl) (λ h. refl) O host n.clock.passage.actions in
      let clock_last = clock_no_finish n.clock.passage.last clock_here.0.0.last jobs.clock.last in
      let link_sends = no_sends u (λ x. refl) (λ h. refl) O host n.link.actions in
      let link_last = no_finish n.link.last jobs.link.last in
      let fetches = fetches_no_finish n.link.errands in
      let rest = no_finish n.link.rest jobs.link.rest in
      omega arith

  module _ (none : NoneMet n) (fine : n.link.failed ≡ false) (before : List (ℕ × HubEvent)) (pre : IsPrefix before heard)
      (clock_none : added halts (events_of n.clock.passage.berth.hub_number before) ≡ 0) where
    -- of one number
    abbrev halted_by : ℕ → ℕ
    halted_by j = added halts (events_of j before)

    halted_most : (j : ℕ) → halted_by j ≤ weight (λ b e. halts e) (places j [] heard)
    halted_most j =
        let whole : events_of j heard ≡ events_of j before ++ events_of j pre.0 =
        ap (events_of j) (sym pre.1) ∙ events_append j before pre.0 in
        let all = weight_of_events halts j heard ∙ (ap (added halts) whole ∙ added_append halts (events_of j before) (events_of j pre.0)) in
        omega arith

    program_none : Each (λ (g : Passage). halted_by (hub_number_of g) ≡ 0) ps
    program_none =
        let unhalted : Each (λ (g : Passage). g.last ≢ hub_events.Halt ∷ []) ps =
        from_jobs _ n.programs (each_of _ n.programs (λ j among.
        let end = of_each (IsProgramEnd c) n.programs j jobs.programs among in
        each_of _ j.passages (λ g within.
        halts_not g g.role (of_each _ j.passages g end.runs within)
        (of_each _ j.passages g (end.job.halts (of_each _ n.programs j none.0 among)) within)))) in
        each_of _ ps (λ g among.
        let d = of_each H ps g programs_here among in
        let most = halted_most (hub_number_of g) in
        let is = same_host c host o history heard n k halts g d in
        let sent = no_sends halts (λ x. refl) (λ h. refl) O host g.actions in
        let last = no_halt_last g.last d.0.0.last (of_each _ ps g unhalted among) in
        omega arith)

    no_halts : summed halts before ≡ 0
    no_halts =
        let all = summed_is halts [] before in
        let known : (j : ℕ) → list_any (λ i. i == j) (numbers_at_hub n) ≡ false → events_of j before ≡ [] =
        λ j apart. nothing_front (events_of j before) (events_of j pre.0)
        (sym (events_append j before pre.0) ∙ (ap (events_of j) pre.1 ∙ k.hub_known j apart)) in
        let f : ℕ → ℕ = λ j. weight (λ b e. halts e) (places j [] before) in
        let seats = by_seats (λ b e. halts e) (numbers_at_hub n) [] before (all_once (numbers_at_hub n) before k.hub_numbers known) in
        let split = added_append f (map hub_number_of (passages_in n)) (n.link.berth.hub_number ∷ n.link.carrier ∷ []) in
        let ports = added_map f hub_number_of (passages_in n) in
        let parts = added_append (λ (g : Passage). f (hub_number_of g)) ps (n.clock.passage ∷ []) in
        let programs : added (λ (g : Passage). f (hub_number_of g)) ps ≡ 0 =
        added_zero (λ (g : Passage). halted_by (hub_number_of g) ≡ 0) (λ (g : Passage). f (hub_number_of g)) ps
        (λ g zero. weight_of_events halts (hub_number_of g) before ∙ zero) program_none in
        let clock = weight_of_events halts (hub_number_of n.clock.passage) before in
        let link_is = weight_of_events halts n.link.berth.hub_number before in
        let link_most = halted_most n.link.berth.hub_number in
        let link_all = link_sent c host o history heard n k halts in
        let link_sends = no_sends halts (λ x. refl) (λ h. refl) O host n.link.actions in
        let lasts = jobs.link.halts none.2 fine in
        let link_last = no_halt_at_most n.link.last lasts.0 in
        let carrier_is = weight_of_events halts n.link.carrier before in
        let carrier_most = halted_most n.link.carrier in
        let carrier_all = carrier_sent c host o history heard n k halts in
        let fetches = fetches_no_halt n.link.errands in
        let rest = no_halt_at_most n.link.rest lasts.1 in
        omega arith

    not_stopped : is_stopped o.programs (traffic_of o before) ≡ true → ⊥
    not_stopped stop =
        let t : Traffic = traffic_of o before in
        let going : t.halted ≡ false = halted_after o.plan o.programs (first_traffic o.plan o.stations) before no_halts in
        let all : nat_le o.programs t.finished ≡ true = or_rest t.halted (nat_le o.programs t.finished) stop going in
        let count : o.programs ≤ t.finished = leb-true o.programs t.finished all in
        let so_many = finished_after o.plan o.programs (first_traffic o.plan o.stations) before in
        let few = summed_prefix finishes before heard pre in
        let most = all_finished in
        let more = jobs.one_more in
        absurd (omega arith)

  pub goes_on : NoneMet n → n.link.failed ≡ false → HasHeard n.clock.passage.actions → ⊥
  goes_on none fine has =
      let g = n.clock.passage in
      let d = clock_here in
      let at = heard_at g.berth g.actions nowhere g.left d.0.0.log has refl in
      let pre : IsPrefix at.0 heard = prefix_over at.0 g.left.heard heard at.1 d.0.1.heard in
      let stop : is_stopped o.programs (traffic_of o at.0) ≡ true =
      subst (λ (h : HubLog). is_stopped h.programs (traffic_of h at.0) ≡ true) d.0.0.hub at.2 in
      not_stopped none fine at.0 pre at.3 stop

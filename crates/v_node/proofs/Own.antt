-- No frame is posted for the station itself, so none that is fetched for it is given: the programs' jobs and the clock deliver nothing.
use Rattle.std.proofs.Common.{◌≡◌, ◌≢◌, ℕ, ◌+◌, ◌*◌, ◌≤◌, ◌==◌, ◌&&◌, ◌||◌, not, eqb-true, eq-eqb, Bool, true, false, List, [], ◌∷◌, length, map, cond, refl, sym, ap, ◌∙◌, subst, arith, inl, inr}
use Rattle.vk_types.specs.Types.{StationEvent}
use Rattle.vk_base.specs.Settings.{Settings}
use Rattle.vk_frame.specs.declared.header.Header.{Header}
use Rattle.vk_host.specs.Sealed.{sealed}
use Rattle.vk_hub.specs.declared.event.HubEvent.{HubEvent}
use Rattle.vk_hub.specs.Counting.{all_posts, copies, gets, posts}
use Rattle.vk_hub.specs.Hubs.{HubLog, traffic_of}
use Rattle.vk_hub.specs.Links.{Frame, header_of, is_addressed}
use Rattle.vk_hub.proofs.Counts.{counted}
use Rattle.vk_port.specs.Stations.{StationHistory, entries_at, frames_at}
use Rattle.vk_rules.specs.Each.{Each}
use Rattle.vk_rules.specs.Entries.{Entry}
use Rattle.vk_rules.specs.Frames as rules
use Rattle.vk_rules.specs.Laws.{AllRise, HaveHeaders}
use Rattle.v_run.specs.Passages.{EntersOwn, HasDropped, IsLast, Passage, fresh_station, host_of, hub_number_of, nowhere}
use Rattle.v_run.proofs.Counts.{delivered_was_fetched, delivers, gets_are, gets_of_fetches, posts_are, sends_few}
use Rattle.v_run.proofs.Ended.{Among, of_each}
use Rattle.v_run.proofs.Entries.{by_entries}
use Rattle.v_run.proofs.Logs.{entered_places, fetched_places}
use Rattle.v_run.proofs.Reasons.{at_least, dropped_weight}
use Rattle.v_run.proofs.Roles.{own_role}
use Rattle.v_run.proofs.Sound.{AreOpen, IsOpen}
use Rattle.v_run.proofs.Sums.{added_most_each, fetched_whole}
use Rattle.v_run.proofs.Totals.{added, places, total, weight, added_map}
use Rattle.v_node.specs.Closed.{IsNodeClosed}
use Rattle.v_node.specs.Jobs.{HaltsAtMost, IsLinkEnd, NodeEnd}
use Rattle.v_node.specs.Laws.{IsForOthers}
use Rattle.v_node.specs.Links.{Errand}
use Rattle.v_node.proofs.Carried.{fetches_of}
use Rattle.v_node.proofs.Sums.{DHere, all_here, at_hub, at_station, events_at_hub, gs, sent_by}

-- every frame is meant
abbrev pub any : Frame → Bool
any f = true

not_addressed_by : (a b d : Bool) → a ≡ false → d ≡ true → (a || (b && not d)) ≡ false
not_addressed_by true b d one two = absurd (cc one)
not_addressed_by false true true one two = refl
not_addressed_by false true false one two = absurd (cc two)
not_addressed_by false false d one two = refl

not_same : (a b : ℕ) → a ≢ b → (t : Bool) → (a == b) ≡ t → t ≡ false
not_same a b other true is = absurd (other (eqb-true a b is))
not_same a b other false is = refl

none_if : (b : Bool) → b ≡ false → cond {A = ℕ} b 1 0 ≡ 0
none_if true is = absurd (cc is)
none_if false is = refl

-- 1 for a frame for this station, of those that are meant
abbrev pub meant_by : (Frame → Bool) → ℕ → Frame → ℕ
meant_by test host f = cond (test f && is_addressed (header_of f) host) 1 0

abbrev pub meant : ℕ → Frame → ℕ
meant host f = meant_by any host f

frames_none : (host stamp number event output : ℕ) (fs : List rules.Frame) → HaveHeaders host stamp number event output fs
    → Each IsOpen fs → Each (IsForOthers host) fs → added (λ f. meant host (sealed f)) fs ≡ 0
frames_none host stamp number event output [] have opens others = refl
frames_none host stamp number event output (f ∷ fs) have opens others =
    let source : f.header.source ≡ host = ap (λ (h : Header). h.source) have.0 in
    let there : f.header.destination ≡ rules.destination_of f.packet = ap (λ (h : Header). h.destination) have.0 in
    let away : (f.header.destination == host) ≡ false =
    not_same f.header.destination host (λ is. others.0 (sym there ∙ is)) (f.header.destination == host) refl in
    let none : is_addressed (header_of (sealed f)) host ≡ false =
    ap (λ h. is_addressed h host) opens.0
    ∙ not_addressed_by (f.header.destination == host) (f.header.destination == 65535) (f.header.source == host) away
    (eq-eqb f.header.source host source) in
    let one : meant host (sealed f) ≡ 0 = none_if (is_addressed (header_of (sealed f)) host) none in
    let rest = frames_none host stamp number event (output + 1) fs have.1 opens.1 others.1 in
    omega arith

entries_none : (host : ℕ) (es : List Entry) → AllRise host es → AreOpen es → Each (λ (e : Entry). Each (IsForOthers host) e.frames) es
    → added (λ (e : Entry). added (meant host) (map sealed e.frames)) es ≡ 0
entries_none host [] rise opens others = refl
entries_none host (e ∷ es) rise opens others =
    let same = added_map (meant host) sealed e.frames in
    let one = frames_none host e.tick e.number (length es + 1) 1 e.frames rise.0.frames opens.0 others.0 in
    let rest = entries_none host es rise.1 opens.1 others.1 in
    omega arith

module _ (test : Frame → Bool) (host : ℕ) where
  no_posts_fetched : (es : List Errand) → added (posts test host) (fetches_of es) ≡ 0
  no_posts_fetched [] = refl
  no_posts_fetched (e ∷ es) = let rest = no_posts_fetched es in omega arith

  no_posts_last : (last : List HubEvent) → IsLast last → added (posts test host) last ≡ 0
  no_posts_last last (inl is) = ap (added (posts test host)) is
  no_posts_last last (inr (inl is)) = ap (added (posts test host)) is
  no_posts_last last (inr (inr is)) = ap (added (posts test host)) is

  no_posts_halt : (last : List HubEvent) → HaltsAtMost last → added (posts test host) last ≡ 0
  no_posts_halt last (inl is) = ap (added (posts test host)) is
  no_posts_halt last (inr is) = ap (added (posts test host)) is

module _ (c : Settings) (host : ℕ) (o : HubLog) (history : List (ℕ × StationEvent)) (heard : List (ℕ × HubEvent)) (n : NodeEnd)
    (k : IsNodeClosed c host o history heard n) (link : IsLinkEnd c host n.link)
    (rise : AllRise host (entries_at (fresh_station c host) history)) (opens : AreOpen (entries_at (fresh_station c host) history))
    (others : Each (λ (e : Entry). Each (IsForOthers host) e.frames) (entries_at (fresh_station c host) history)) where
  abbrev O : StationHistory
  O = fresh_station c host

  abbrev G : List Passage
  G = gs c host o history heard n k

  abbrev H : Passage → Type 0
  H = DHere c host o history heard n k

  here : Each H G
  here = all_here c host o history heard n k

  -- what is posted for a station it made
  module _ (test : Frame → Bool) (q : ℕ) where
    abbrev pub made : List (ℕ × StationEvent) → StationEvent → ℕ
    made before e = added (meant_by test q) (frames_at O before e)

    posted_by : (g : Passage) → H g → sent_by c host o history heard n k (posts test q) g ≤ weight made (entered_places g.actions)
    posted_by g d =
        let few = sends_few (posts test q) (meant_by test q) (λ f. refl) O host g.actions in
        let none = no_posts_last test q g.last d.0.0.last in
        omega arith

    pub posts_most : all_posts test q heard ≤ total made [] history
    posts_most =
        let all = posts_are test q [] heard in
        let hub = events_at_hub c host o history heard n k (posts test q) in
        let ports = added_most_each H (sent_by c host o history heard n k (posts test q)) (λ (g : Passage). weight made (entered_places
        g.actions)) G posted_by here in
        let own = sends_few (posts test q) (meant_by test q) (λ f. refl) O host n.link.actions in
        let last = no_posts_halt test q n.link.last link.last in
        let fetches = no_posts_fetched test q n.link.errands in
        let rest = no_posts_halt test q n.link.rest link.rest in
        let station = at_station c host o history heard n k made in
        omega arith

  no_posts : all_posts any host heard ≡ 0
  no_posts =
      let few = posts_most any host in
      let entries : total (made any host) [] history ≡ added (λ (e : Entry). added (meant host) (map sealed e.frames)) (entries_at O history) =
      by_entries c host history (λ (e : Entry). added (meant host) (map sealed e.frames)) in
      let none = entries_none host (entries_at O history) rise opens others in
      omega arith

  -- so nothing that is fetched for it is given
  abbrev got : List (ℕ × HubEvent) → HubEvent → ℕ
  got before e = gets any host o.programs (traffic_of o before) e

  pub no_gets : total got [] heard ≡ 0
  no_gets =
      let are = gets_are o any host [] heard in
      let law = counted o heard any host in
      let none : copies o.plan * all_posts any host heard ≡ copies o.plan * 0 = ap (λ m. copies o.plan * m) no_posts in
      omega arith

  own : (g : Passage) → H g → EntersOwn g.actions
  own g d = own_role g.role (fresh_station c (host_of g)) g.actions d.0.0.role

  got_by : (g : Passage) → H g
      → weight got (places (hub_number_of g) [] heard) ≡ weight got (fetched_places host g.actions)
  got_by g d =
      fetched_whole c o (λ h. history) heard got (gets_of_fetches o any host) g d.0
      ∙ ap (λ h. weight got (fetched_places h g.actions)) d.1

  took_by : (g : Passage) → H g
      → weight (λ before e. delivers any e) (entered_places g.actions) ≤ weight got (places (hub_number_of g) [] heard)
  took_by g d =
      let it = delivered_was_fetched any g.berth g.actions nowhere g.left d.0.0.log (own g d) in
      let P : ℕ × HubLog → Type 0 = λ x.
      weight (λ before e. delivers any e) (entered_places g.actions)
      ≤ weight (λ before e. gets any x.0 x.1.programs (traffic_of x.1 before) e) (fetched_places x.0 g.actions) in
      let few : weight (λ before e. delivers any e) (entered_places g.actions) ≤ weight got (fetched_places host g.actions) =
      subst P (λ i. (d.1 i, d.0.0.hub i)) it in
      let same = got_by g d in
      omega arith

  pub no_deliveries : added (λ (g : Passage). weight (λ before e. delivers any e) (entered_places g.actions)) G ≡ 0
  no_deliveries =
      let most = added_most_each H (λ (g : Passage). weight (λ before e. delivers any e) (entered_places g.actions))
      (λ (g : Passage). weight got (places (hub_number_of g) [] heard)) G took_by here in
      let hub = at_hub c host o history heard n k got in
      let none = no_gets in
      omega arith

  -- and no passage was given a frame that the station refused
  pub no_drops : (g : Passage) → Among g G → (f : Frame) → HasDropped f g.actions → ⊥
  no_drops g among f has =
      let d = of_each H G g here among in
      let it = dropped_weight any f refl g.berth g.actions nowhere g.left d.0.0.log has in
      let P : ℕ × HubLog → Type 0 = λ x.
      1 ≤ weight (λ before e. gets any x.0 x.1.programs (traffic_of x.1 before) e) (fetched_places x.0 g.actions) in
      let one : 1 ≤ weight got (fetched_places host g.actions) = subst P (λ i. (d.1 i, d.0.0.hub i)) it in
      let same = got_by g d in
      let all = at_least (λ (x : Passage). weight got (places (hub_number_of x) [] heard)) G g among in
      let hub = at_hub c host o history heard n k got in
      let none = no_gets in
      omega arith

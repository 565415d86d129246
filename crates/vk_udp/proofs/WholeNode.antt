-- ALL JOBS OF A NODE HAVE ENDED: what has come back is that of a node.
use Rattle.std.proofs.Common.{◌≡◌, ◌≤◌, ◌+◌, ℕ, suc, eq-eqb, Bool, true, false, cond, Option, Some, None, List, [], ◌∷◌, ◌++◌, append-nil, length, map, refl, sym, ap, ◌∙◌, subst, arith}
use Rattle.std.specs.Prelude.{option_map}
use Rattle.std.proofs.lemmas.List.{length-append, length-map}
use Rattle.vk_types.specs.Types.{Answer, Call}
use Rattle.turn_cell.specs.Seats.{Cell, IsSeatOf, Sitting}
use Rattle.vk_base.specs.Settings.{Settings}
use Rattle.vk_base.proofs.ListLemmas.{map_append}
use Rattle.vk_event.specs.declared.port.StationPort.{StationPort}
use Rattle.vk_hub.specs.declared.event.HubEvent.{HubEvent}
use Rattle.vk_hub.specs.Hubs.{HubLog}
use Rattle.vk_hub.specs.Links.{Frame}
use Rattle.vk_io.specs.Causes.{Rose}
use Rattle.vk_port.specs.Ports.{Berth, IsLog, PortValue, Stand, berth_of}
use Rattle.vk_port.specs.Stations.{StationHistory}
use Rattle.vk_program.specs.declared.assigned.Assigned.{Assigned}
use Rattle.vk_rules.specs.Each.{Each}
use Rattle.vk_rules.proofs.Lists.{each_append}
use Rattle.v_node.specs.Closed.{IsLinkWay}
use Rattle.v_node.specs.Jobs.{ClockEnd, FinishesOrWaits, IsClockEnd, IsLinkEnd, IsProgramEnd, LinkEnd, RunsProcess}
use Rattle.v_node.specs.Jobs.{NodeEnd as AllEnds}
use Rattle.v_node.specs.Links.{AreErrands, HubStand, nothing_heard}
use Rattle.v_node.specs.Seats.{IsLinkThrough, hub_stand_of}
use Rattle.v_run.specs.Jobs.{JobEnd}
use Rattle.v_run.specs.Passages.{IsPassage, Passage, Runs, fresh_station, host_of, nowhere}
use Rattle.v_run.specs.Runs.{passages_of}
use Rattle.vk_threads.specs.Assigned.{AreDifferent, pid_of, program_task}
use Rattle.vk_threads.specs.declared.end.End.{End}
use Rattle.vk_threads.specs.declared.end.Seats.{Seats}
use Rattle.vk_threads.specs.declared.opening.Site.{Site}
use Rattle.vk_threads.specs.Dealt.{runs_by}
use Rattle.vk_threads.specs.Ended.{AllLeft, AreEndsOf, AreLeft, cell_at}
use Rattle.vk_threads.specs.Ends.{AreThrough, EndsProcess, IsOf, role_of}
use Rattle.vk_threads.specs.Ends.{FinishesOrWaits as FinishesOrWaitsAt}
use Rattle.vk_threads.proofs.Dealt.{AreApartRoles, IsOwn, all_left, apart_roles, duties_apart, duty_role, duty_tasks, left_by, passages_by, passage_by, tasks_by, tasks_by_roles}
use Rattle.vk_udp.specs.Asked.{HasCarried}
use Rattle.vk_udp.specs.Carried.{IsStationPort}
use Rattle.vk_udp.specs.Dealt.{IsNodePort}
use Rattle.vk_udp.specs.Docked.{duty_of}
use Rattle.vk_udp.specs.Ended.{AreNodeEnds, HasFetched, HasNodeEnds, HasRunNodeJobs, clock_job, link_job, link_passage}
use Rattle.vk_udp.specs.Gathered.{own_end, site_of}
use Rattle.vk_udp.specs.Jobs.{EndsCarrier, EndsClock}
use Rattle.vk_udp.specs.Values.{CarrierDuty, ClockDuty}
use Rattle.vk_udp.specs.Wires.{Datagram}
use Rattle.vk_udp.specs.declared.work.Carried.{Carried}
use Rattle.vk_udp.specs.declared.work.NodeEnd.{NodeEnd}
use Rattle.vk_udp.specs.declared.work.NodeEnd.TheVariants as ends
use Rattle.vk_udp.proofs.Closed.{each_with}

module _ (c : Settings) (host : ℕ) (cell : Cell StationHistory) (hub : Cell HubLog) (origin : cell.origin ≡ fresh_station c host) where
  abbrev sites : List Site
  sites = site_of host cell ∷ []

  -- A port of the node is one of its one site.
  own_port : (ticks : Bool) (p : PortValue) → IsNodePort cell hub host ticks p → IsOwn sites hub p
  own_port ticks p is = record {
    at = refl;
    cell = ap (λ b. cond b (Some cell) None) (eq-eqb host p.host (sym is.at)) ∙ ap Some (sym is.at_cell);
    at_hub = is.at_hub;
    seat = subst (λ (x : Cell StationHistory). IsSeatOf x p.seat) (sym is.at_cell) is.seat;
    hub_seat = is.hub_seat;
    new = is.new;
    ticks = refl;
  }

  of_port : (ticks : Bool) (p : PortValue) → IsNodePort cell hub host ticks p → IsOf c p
  of_port ticks p is = ap (λ (x : Cell StationHistory). x.origin) is.at_cell ∙ (origin ∙ ap (fresh_station c) (sym is.at))

  -- A PROGRAM'S JOB
  module _ {G : Type 0} (task : G → List Answer → Option Call) where
    -- it came to this job's end, with one passage in the program's role
    pub record HasEnd (a : Assigned G) (e : End) : Type 0 where
      pub job : JobEnd
      pub left : AllLeft sites hub e.seats.items job.passages
      pub met : e.met ≡ job.met
      pub passages : Each (IsPassage c hub.origin) job.passages
      pub here : Each (λ (g : Passage). host_of g ≡ host) job.passages
      pub program : IsProgramEnd c job
      pub roles : map role_of job.passages ≡ Runs a.pid (task a.program) ∷ []

    one_passage : (p : PortValue) (ss : List Seats) (gs : List Passage) → AreThrough (p ∷ []) ss gs → length gs ≡ 1
    one_passage p [] gs t = absurd t
    one_passage p (s ∷ ss) [] t = absurd t
    one_passage p (s ∷ []) (g ∷ []) t = refl
    one_passage p (s ∷ []) (g ∷ f ∷ gs) t = absurd t.1
    one_passage p (s ∷ r ∷ ss) (g ∷ gs) t = absurd t.1

    passages_here : (p : PortValue) (ss : List Seats) (gs : List Passage) → p.host ≡ host → AreThrough (p ∷ []) ss gs
        → Each (λ (g : Passage). host_of g ≡ host) gs
    passages_here p [] gs at t = absurd t
    passages_here p (s ∷ ss) [] at t = absurd t
    passages_here p (s ∷ []) (g ∷ []) at t = (ap (λ (b : Berth). b.host) t.0.berth ∙ at, tt)
    passages_here p (s ∷ []) (g ∷ f ∷ gs) at t = absurd t.1
    passages_here p (s ∷ r ∷ ss) (g ∷ gs) at t = absurd t.1

    each_runs : (a : Assigned G) (gs : List Passage) → map role_of gs ≡ Runs a.pid (task a.program) ∷ []
        → Each (λ (g : Passage). RunsProcess g.role) gs
    each_runs a [] is = absurd (cc is)
    each_runs a (g ∷ []) is = let same : g.role ≡ Runs a.pid (task a.program) = cc is in (subst RunsProcess (sym same) tt, tt)
    each_runs a (g ∷ f ∷ gs) is = absurd (cc is)

    all_wait : (o : StationHistory) (gs : List Passage) → o ≡ fresh_station c host → Each (λ (g : Passage). host_of g ≡ host) gs
        → Each (FinishesOrWaitsAt o) gs → Each (FinishesOrWaits c) gs
    all_wait o [] is here each = tt
    all_wait o (g ∷ gs) is here each = (
      subst (λ (h : ℕ). FinishesOrWaitsAt (fresh_station c h) g) (sym here.0) (subst (λ (x : StationHistory). FinishesOrWaitsAt x g) is each.0),
      all_wait o gs is here.1 each.1,
    )

    program_end : (a : Assigned G) (p : PortValue) (e : End) → IsNodePort cell hub host false p
        → EndsProcess p a.pid (task a.program) e.seats.items e.met → HasEnd a e
    program_end a p e port ended =
        let m = ended.may in
        let own = own_port false p port in
        let of = of_port false p port in
        let here = passages_here p e.seats.items m.passages port.at m.through in
        record {
          job = record { passages = m.passages; met = e.met };
          left = all_left sites hub (p ∷ []) e.seats.items m.passages (own, tt) m.through;
          met = refl;
          passages = passages_by sites hub c (p ∷ []) e.seats.items m.passages (own, tt) (of, tt) m.through;
          here = here;
          program = record {
            job = m.job c (of, tt);
            one = one_passage p e.seats.items m.passages m.through;
            runs = each_runs a m.passages m.each;
            waits = λ none. all_wait p.station.origin m.passages (of ∙ ap (fresh_station c) port.at) here (ended.waits none);
          };
          roles = m.each;
        }

  -- THE CLOCK'S JOB
  pub record HasClockEnd (rounds : ℕ) (e : End) : Type 0 where
    pub clock : ClockEnd
    pub left : AllLeft sites hub e.seats.items (clock.passage ∷ [])
    pub met : e.met ≡ clock.met
    pub passage : IsPassage c hub.origin clock.passage
    pub here : host_of clock.passage ≡ host
    pub is : IsClockEnd c rounds clock

  clock_end : (d : ClockDuty) (rounds : ℕ) (e : End) → IsNodePort cell hub host true d.port → d.rounds ≡ rounds
      → EndsClock d.port d.rounds e.seats.items e.met → HasClockEnd rounds e
  clock_end d rounds e port so_many ended =
      let own = own_port true d.port port in
      let of = of_port true d.port port in
      record {
        clock = ended.end;
        left = subst (λ ss. AllLeft sites hub ss (ended.end.passage ∷ [])) (sym ended.seats)
            (left_by sites hub d.port ended.seat ended.end.passage own ended.through, tt);
        met = sym ended.met;
        passage = passage_by sites hub c d.port ended.seat ended.end.passage own of ended.through;
        here = ap (λ (b : Berth). b.host) ended.through.berth ∙ port.at;
        is = subst (λ k. IsClockEnd c k ended.end) so_many (ended.job c of);
      }

  -- THE LINK'S JOB
  module _ {L : Type 0} (handed : L → Option (List Frame)) (given : L → Option (List Datagram)) (faults : L → ℕ) where
    pub record HasLinkEnd (ports : List StationPort) (start : L) (x : Carried L) : Type 0 where
      pub link : LinkEnd
      pub left : AllLeft sites hub x.end.seats.items (link_passage link ∷ [])
      pub met : x.end.met ≡ link.met
      pub way : IsLinkWay c host hub.origin link
      pub is : IsLinkEnd c host link
      pub fetched : HasFetched hub link x.hub_seat
      pub told : handed x.link ≡ option_map (λ all. all ++ link.handed) (handed start)
      pub carried : HasCarried link.carrier hub.origin nothing_heard ports link.reached link.errands (given start) (given x.link)
      pub failed : link.failed ≡ true → Rose (faults start) (faults x.link)

    -- its port's seats are left as those of a passage
    link_left : (p : PortValue) (before d : Sitting HubLog HubEvent) (s : Seats) (l : LinkEnd) → IsOwn sites hub p → s.host ≡ p.host
        → IsLinkThrough p before s.seat s.hub_seat d l
        → (own : Cell StationHistory) × (cell_at sites (host_of (link_passage l)) ≡ Some own) × AreLeft own hub s (link_passage l)
    link_left p before d s l is at t = (
      p.station,
      ap (λ (b : Berth). cell_at sites b.host) t.berth ∙ is.cell,
      record {
        host = at ∙ sym (ap (λ (b : Berth). b.host) t.berth);
        seat = (t.seat.0 ∙ is.seat.0, t.seat.1 ∙ is.seat.1);
        number = t.seat.2 ∙ sym (ap (λ (b : Berth). b.number) t.berth);
        seen = t.seen;
        mine = t.mine;
        hub_seat = (t.hub_seat.0 ∙ is.hub_seat.0, t.hub_seat.1 ∙ is.hub_seat.1);
        hub_number = t.hub_seat.2 ∙ sym (ap (λ (b : Berth). b.hub_number) t.berth);
        heard = t.heard;
        sent = t.sent;
      },
    )

    link_way : (p : PortValue) (before a b : Sitting HubLog HubEvent) (s : Seats) (l : LinkEnd) → IsNodePort cell hub host false p
        → hub_stand_of before ≡ nothing_heard → IsLinkThrough p before s.seat b a l → IsLinkWay c host hub.origin l
    link_way p before a b s l port new t = record {
      at = ap (λ (x : Berth). x.host) t.berth ∙ port.at;
      station = ap (λ (x : Berth). x.station) t.berth ∙ (of_port false p port ∙ ap (fresh_station c) port.at);
      log = subst (λ (x : Berth). IsLog x nowhere l.actions l.left) (sym t.berth)
          (subst (λ (st : Stand). IsLog (berth_of p) st l.actions l.left) port.new t.log);
      brings = t.brings;
      errands = subst (λ (k : ℕ). AreErrands k hub.origin nothing_heard l.errands l.reached) (sym t.carrier)
          (subst (λ (st : HubStand). AreErrands before.number hub.origin st l.errands l.reached) new
          (subst (λ (x : Cell HubLog). AreErrands before.number x.origin (hub_stand_of before) l.errands l.reached) port.at_hub t.errands));
    }

    link_fetched : (p : PortValue) (before d a : Sitting HubLog HubEvent) (s : Seats) (l : LinkEnd) → IsSeatOf hub before
        → IsLinkThrough p before s.seat a d l → HasFetched hub l d
    link_fetched p before d a s l of t = record {
      of = (t.back.0 ∙ of.0, t.back.1 ∙ of.1);
      number = t.back.2 ∙ sym t.carrier;
      reached = t.reached;
      carried = t.carried;
    }

    -- and what it carried are frames of this hub, for these ports
    link_carried : (d : CarrierDuty) (fetches : Sitting HubLog HubEvent) (ports : List StationPort) (start : L) (x : Carried L) (l : LinkEnd)
        → IsNodePort cell hub host false d.port → d.carrier ≡ fetches → d.ports ≡ ports → d.sent ≡ given start → hub_stand_of fetches ≡ nothing_heard
        → l.carrier ≡ d.carrier.number
        → HasCarried d.carrier.number d.port.hub.origin (hub_stand_of d.carrier) d.ports l.reached l.errands d.sent (given x.link)
        → HasCarried l.carrier hub.origin nothing_heard ports l.reached l.errands (given start) (given x.link)
    link_carried d fetches ports start x l port seat to over new number it =
        subst (λ (k : ℕ). HasCarried k hub.origin nothing_heard ports l.reached l.errands (given start) (given x.link)) (sym number)
        (subst (λ (h : Cell HubLog). HasCarried d.carrier.number h.origin nothing_heard ports l.reached l.errands (given start) (given x.link)) port.at_hub
        (subst (λ (s : HubStand). HasCarried d.carrier.number d.port.hub.origin s ports l.reached l.errands (given start) (given x.link))
        (ap hub_stand_of seat ∙ new)
        (subst (λ (ps : List StationPort). HasCarried d.carrier.number d.port.hub.origin (hub_stand_of d.carrier) ps l.reached l.errands (given start) (given
        x.link)) to
        (subst (λ (told : Option (List Datagram)). HasCarried d.carrier.number d.port.hub.origin (hub_stand_of d.carrier) d.ports l.reached l.errands told
        (given x.link)) over
        it))))

    link_end : (d : CarrierDuty) (fetches : Sitting HubLog HubEvent) (ports : List StationPort) (start : L) (x : Carried L)
        → IsNodePort cell hub host false d.port → d.carrier ≡ fetches → d.ports ≡ ports → d.handed ≡ handed start → d.sent ≡ given start
        → d.faults ≡ faults start → IsSeatOf hub fetches → hub_stand_of fetches ≡ nothing_heard → Each (IsStationPort c) ports
        → EndsCarrier handed given faults d x → HasLinkEnd ports start x
    link_end d fetches ports start x port seat to over_handed over_sent over_faults of new stations ended =
        let t = ended.through in
        let own = own_port false d.port port in
        let seat_of : IsSeatOf hub d.carrier = subst (λ (s : Sitting HubLog HubEvent). IsSeatOf hub s) (sym seat) of in
        let stand : hub_stand_of d.carrier ≡ nothing_heard = ap hub_stand_of seat ∙ new in
        record {
          link = ended.end;
          left = subst (λ ss. AllLeft sites hub ss (link_passage ended.end ∷ [])) (sym ended.seats)
              (link_left d.port d.carrier x.hub_seat ended.seat ended.end own ended.host t, tt);
          met = sym ended.met;
          way = link_way d.port d.carrier x.hub_seat ended.seat.hub_seat ended.seat ended.end port stand t;
          is = subst (λ (h : ℕ). IsLinkEnd c h ended.end) port.at
              (ended.job c (of_port false d.port port) (subst (Each (IsStationPort c)) (sym to) stations));
          fetched = link_fetched d.port d.carrier x.hub_seat ended.seat.hub_seat ended.seat ended.end seat_of t;
          told = ended.told ∙ ap (option_map (λ all. all ++ ended.end.handed)) over_handed;
          carried = link_carried d fetches ports start x ended.end port seat to over_sent new t.carrier ended.carried;
          failed = λ is. subst (λ (n : ℕ). Rose n (faults x.link)) over_faults (ended.failed is);
        }

    -- ALL JOBS, with their ends
    module _ {G : Type 0} (task : G → List Answer → Option Call) where
      -- what the programs' jobs, the clock and the link came to
      pub record HasParts (programs : List (Assigned G)) (rounds : ℕ) (ports : List StationPort) (start : L) (all : List (NodeEnd L)) : Type 0 where
        pub js : List JobEnd
        pub own : End
        pub clock : HasClockEnd rounds own
        pub front : List (NodeEnd L)
        pub last : Carried L
        pub link : HasLinkEnd ports start last
        pub are : all ≡ front ++ ends.Carried last ∷ []
        pub each_end : AreEndsOf sites hub (map own_end front ++ last.end ∷ []) (js ++ clock_job clock.clock ∷ link_job link.link ∷ [])
        pub passages : Each (IsPassage c hub.origin) (passages_of js)
        pub here : Each (λ (g : Passage). host_of g ≡ host) (passages_of js)
        pub each_program : Each (IsProgramEnd c) js
        pub roles : map role_of (passages_of js) ≡ map duty_role (map (runs_by task) programs)
        pub count : length js ≡ length programs

      more_parts : (a : Assigned G) (others : List (Assigned G)) (rounds : ℕ) (ports : List StationPort) (start : L) (e : End) (es : List (NodeEnd L)) → HasEnd task a e
          → HasParts others rounds ports start es → HasParts (a ∷ others) rounds ports start (ends.Own e ∷ es)
      more_parts a others rounds ports start e es it rest = record {
        js = it.job ∷ rest.js;
        own = rest.own;
        clock = rest.clock;
        front = ends.Own e ∷ rest.front;
        last = rest.last;
        link = rest.link;
        are = ap (λ l. ends.Own e ∷ l) rest.are;
        each_end = ((it.left, it.met), rest.each_end);
        passages = each_append (IsPassage c hub.origin) it.job.passages (passages_of rest.js) it.passages rest.passages;
        here = each_append (λ (g : Passage). host_of g ≡ host) it.job.passages (passages_of rest.js) it.here rest.here;
        each_program = (it.program, rest.each_program);
        roles = map_append role_of it.job.passages (passages_of rest.js) ∙ ap (λ l. l ++ map role_of (passages_of rest.js)) it.roles
            ∙ ap (λ l. Runs a.pid (task a.program) ∷ l) rest.roles;
        count = ap suc rest.count;
      }

      -- the ends of all jobs, with what is known of the clock's and of that of what carried frames
      module _ (k : ClockDuty) (d : CarrierDuty) (rounds : ℕ) (ports : List StationPort) (start : L)
          (of_clock : (e : End) → EndsClock k.port k.rounds e.seats.items e.met → HasClockEnd rounds e)
          (of_link : (x : Carried L) → EndsCarrier handed given faults d x → HasLinkEnd ports start x) where
        last_parts : (es : List (NodeEnd L)) → AreNodeEnds task handed given faults cell hub host k d [] es → HasParts [] rounds ports start es
        last_parts [] m = absurd m
        last_parts (ends.Carried x ∷ es) m = absurd m
        last_parts (ends.Own e ∷ []) m = absurd m
        last_parts (ends.Own e ∷ ends.Own f ∷ es) m = absurd m
        last_parts (ends.Own e ∷ ends.Carried x ∷ f ∷ es) m = absurd m
        last_parts (ends.Own e ∷ ends.Carried x ∷ []) m =
            let clock = of_clock e m.0 in
            let link = of_link x m.1 in
            record {
              js = [];
              own = e;
              clock = clock;
              front = ends.Own e ∷ [];
              last = x;
              link = link;
              are = refl;
              each_end = ((clock.left, clock.met), ((link.left, link.met), tt));
              passages = tt;
              here = tt;
              each_program = tt;
              roles = refl;
              count = refl;
            }

        all_parts : (programs : List (Assigned G)) (es : List (NodeEnd L)) → AreNodeEnds task handed given faults cell hub host k d programs es
            → HasParts programs rounds ports start es
        all_parts [] es m = last_parts es m
        all_parts (a ∷ others) [] m = absurd m
        all_parts (a ∷ others) (ends.Carried x ∷ es) m = absurd m
        all_parts (a ∷ others) (ends.Own e ∷ es) m =
            more_parts a others rounds ports start e es (program_end task a m.0.port e m.0.at m.0.ended) (all_parts others es m.1)

      -- THE WHOLE
      pub have_ended : (programs : List (Assigned G)) (rounds : ℕ) (ports : List StationPort) (fetches : Sitting HubLog HubEvent) (start : L)
          (es : List (NodeEnd L)) (halt : Sitting HubLog HubEvent) → cell.seats ≡ length programs + 2 → hub.seats ≡ length programs + 4
          → hub.origin.programs ≡ length programs + 1 → length programs ≤ 512 → AreDifferent (map pid_of programs) → IsSeatOf hub fetches
          → hub_stand_of fetches ≡ nothing_heard → Each (IsStationPort c) ports
          → HasRunNodeJobs task handed given faults cell hub host programs rounds ports fetches start es halt
          → HasNodeEnds handed given faults c host cell hub rounds ports (map (program_task task) programs) start es halt
      have_ended programs rounds ports fetches start es halt seats hub_seats one_more few different of new stations run =
          let d = run.ran in
          let it = all_parts d.clock (duty_of handed given faults run.port fetches ports start) rounds ports start
          (λ e ended. clock_end d.clock rounds e d.clock_port d.so_many ended)
          (λ x ended. link_end (duty_of handed given faults run.port fetches ports start) fetches ports start x run.at refl refl refl refl refl of new stations
          ended) programs es d.each_end in
          let gs = passages_of it.js in
          let k = it.clock.clock in
          let n : AllEnds = record { programs = it.js; clock = k; link = it.link.link } in
          let roles = it.roles ∙ ap (map duty_role) (sym (append-nil (map (runs_by task) programs)))
          ∙ sym (append-nil (map duty_role (map (runs_by task) programs ++ []))) in
          let so_many : length gs ≡ length programs =
          sym (length-map gs role_of) ∙ ap length it.roles ∙ length-map (map (runs_by task) programs) duty_role ∙ length-map programs (runs_by task) in
          let and_clock : length (gs ++ k.passage ∷ []) ≡ length gs + 1 = length-append gs (k.passage ∷ []) in
          let count = it.count in
          record {
            n = n;
            front = it.front;
            last = it.last;
            are = it.are;
            ended = record {
              each_end = it.each_end;
              fetched = it.link.fetched;
              passages = each_with (IsPassage c hub.origin) gs k.passage it.passages it.clock.passage;
              here = each_with (λ (g : Passage). host_of g ≡ host) gs k.passage it.here it.clock.here;
              way = it.link.way;
              are_jobs = record {
                programs = it.each_program;
                clock = it.clock.is;
                link = it.link.is;
                apart = apart_roles gs (subst AreApartRoles (sym roles) (duties_apart task programs [] [] different));
                few = omega (arith, count, few);
                one_more = omega (arith, count, one_more);
              };
              are_tasks = tasks_by_roles gs ∙ ap tasks_by roles ∙ duty_tasks task programs [] [];
              seats = omega (arith, so_many, and_clock, seats);
              hub_seats = omega (arith, so_many, and_clock, hub_seats);
              halt_seat = d.seat;
              unhalted = d.unhalted;
            };
            told = it.link.told;
            carried = it.link.carried;
            failed = it.link.failed;
          }

-- All jobs of a run, from what each of them came to.
use Rattle.std.proofs.Common.{◌≡◌, ℕ, suc, ◌+◌, ◌==◌, Bool, true, false, cond, Option, Some, List, [], ◌∷◌, ◌++◌, append-nil, length, map, refl, sym, ap, ◌∙◌, subst, arith}
use Rattle.vk_types.specs.Types.{Answer, Call, Pid}
use Rattle.turn_cell.specs.Seats.{Cell}
use Rattle.vk_base.specs.Pids.{same_pid}
use Rattle.vk_base.specs.Settings.{Settings}
use Rattle.vk_base.proofs.ListLemmas.{map_append}
use Rattle.vk_hub.specs.Hubs.{HubLog}
use Rattle.vk_io.specs.Crews.{AllEnd}
use Rattle.vk_port.specs.Ports.{Berth, IsLog, PortValue, Stand, berth_of}
use Rattle.vk_port.specs.Stations.{StationHistory}
use Rattle.vk_rules.specs.Each.{Each}
use Rattle.vk_rules.proofs.Lists.{each_append}
use Rattle.v_run.specs.Closed.{numbers_at}
use Rattle.v_run.specs.Jobs.{IsJobEnd, JobEnd, KeepsTime, clocks_at, is_clock, runs_pid}
use Rattle.v_run.specs.Outcomes.{Assignment}
use Rattle.v_run.specs.Passages.{IsPassage, IsRole, Passage, Pumps, Role, Runs, Ticks, fresh_station, host_of, nowhere, number_of}
use Rattle.v_run.specs.Runs.{AreApart, IsApart, passages_of, task_in, tasks_of}
use Rattle.vk_threads.specs.declared.end.End.{End}
use Rattle.vk_threads.specs.declared.end.Seats.{Seats}
use Rattle.vk_threads.specs.declared.opening.Site.{Site}
use Rattle.vk_program.specs.declared.assigned.Assigned.{Assigned}
use Rattle.vk_threads.specs.declared.work.RunJob.{RunJob}
use Rattle.vk_threads.specs.declared.work.RunJob.TheVariants as works
use Rattle.vk_threads.specs.Assigned.{AreDifferent, pid_of, program_task}
use Rattle.vk_threads.specs.Dealt.{AreJobsAt, ArePorts, IsPort, pumps_at, runs_by}
use Rattle.vk_threads.specs.Dealt.{host_of as program_host}
use Rattle.vk_threads.specs.Duties.{ClockDuty}
use Rattle.vk_threads.specs.Ended.{AllLeft, AreEndsOf, AreLeft, cell_at}
use Rattle.vk_threads.specs.Ends.{AreThrough, IsOf, IsThrough, port_host, role_of, ticking}
use Rattle.vk_threads.specs.Jobs.{ends_as, ports_of}
use Rattle.vk_threads.specs.Opened.{count_of}

-- what is known of roles alone
abbrev pub tasks_by : List Role → List Assignment
tasks_by [] = []
tasks_by (r ∷ rs) = task_in r ++ tasks_by rs

pub tasks_by_roles : (gs : List Passage) → tasks_of gs ≡ tasks_by (map role_of gs)
tasks_by_roles [] = refl
tasks_by_roles (g ∷ gs) = ap (λ l. task_in g.role ++ l) (tasks_by_roles gs)

abbrev pub IsApartOf : Role → List Role → Type 0
IsApartOf (Runs r task) rs = Each (λ (q : Role). runs_pid r q ≡ false) rs
IsApartOf Pumps rs = Unit {0}
IsApartOf Ticks rs = Unit {0}

abbrev pub AreApartRoles : List Role → Type 0
AreApartRoles [] = Unit {0}
AreApartRoles (r ∷ rs) = IsApartOf r rs × AreApartRoles rs

pub each_role : (p : Pid) (gs : List Passage) → Each (λ (q : Role). runs_pid p q ≡ false) (map role_of gs) → Each (λ (g : Passage). runs_pid p g.role ≡ false) gs
each_role p [] each = tt
each_role p (g ∷ gs) each = (each.0, each_role p gs each.1)

pub apart_role : (r : Role) (gs : List Passage) → IsApartOf r (map role_of gs) → IsApart r gs
apart_role (Runs p task) gs is = each_role p gs is
apart_role Pumps gs is = tt
apart_role Ticks gs is = tt

pub apart_roles : (gs : List Passage) → AreApartRoles (map role_of gs) → AreApart gs
apart_roles [] are = tt
apart_roles (g ∷ gs) are = (apart_role g.role gs are.0, apart_roles gs are.1)

abbrev pub clocks_by : ℕ → List ℕ → List Role → ℕ
clocks_by h [] rs = 0
clocks_by h (x ∷ hs) [] = 0
clocks_by h (x ∷ hs) (r ∷ rs) = cond (x == h) (is_clock r) 0 + clocks_by h hs rs

pub clocks_by_roles : (h : ℕ) (gs : List Passage) → clocks_at h gs ≡ clocks_by h (map host_of gs) (map role_of gs)
clocks_by_roles h [] = refl
clocks_by_roles h (g ∷ gs) = ap (λ n. cond (host_of g == h) (is_clock g.role) 0 + n) (clocks_by_roles h gs)

pub numbers_count : (h : ℕ) (gs : List Passage) → length (numbers_at h gs) ≡ count_of h (map host_of gs)
numbers_count h [] = refl
numbers_count h (g ∷ gs) = one (host_of g == h) (numbers_count h gs)
  where
    one : (b : Bool) → length (numbers_at h gs) ≡ count_of h (map host_of gs)
        → length (cond b (number_of g ∷ numbers_at h gs) (numbers_at h gs)) ≡ cond b 1 0 + count_of h (map host_of gs)
    one true rest = omega arith
    one false rest = omega arith

-- a role that is no clock's keeps time in any case
pub keeps : (n rounds : ℕ) (g : Passage) (r : Role) → is_clock r ≡ 0 → KeepsTime n rounds g r
keeps n rounds g (Runs p task) none = tt
keeps n rounds g Pumps none = tt
keeps n rounds g Ticks none = absurd (omega arith)

pub each_keeps : (n rounds : ℕ) (gs : List Passage) → Each (λ (r : Role). is_clock r ≡ 0) (map role_of gs) → Each (λ (g : Passage). KeepsTime n rounds g g.role) gs
each_keeps n rounds [] none = tt
each_keeps n rounds (g ∷ gs) none = (keeps n rounds g g.role none.0, each_keeps n rounds gs none.1)

-- DUTIES: programs, then stations
abbrev pub duty_host : ℕ × Role → ℕ
duty_host d = d.0

abbrev pub duty_role : ℕ × Role → Role
duty_role d = d.1

abbrev pub IsNoClock : ℕ × Role → Type 0
IsNoClock d = is_clock d.1 ≡ 0

pub clocks_of_none : (h : ℕ) (ds : List (ℕ × Role)) (hs : List ℕ) (rs : List Role) → Each IsNoClock ds
    → clocks_by h (map duty_host ds ++ hs) (map duty_role ds ++ rs) ≡ clocks_by h hs rs
clocks_of_none h [] hs rs none = refl
clocks_of_none h (d ∷ ds) hs rs none =
    ap (λ n. cond (d.0 == h) n 0 + clocks_by h (map duty_host ds ++ hs) (map duty_role ds ++ rs)) none.0
    ∙ no_more (d.0 == h) (clocks_by h (map duty_host ds ++ hs) (map duty_role ds ++ rs)) ∙ clocks_of_none h ds hs rs none.1
  where
    no_more : (b : Bool) (n : ℕ) → cond b 0 0 + n ≡ n
    no_more true n = omega arith
    no_more false n = omega arith

module _ {G : Type 0} (task : G → List Answer → Option Call) where
  abbrev pub duties : List (Assigned G) → List ℕ → List (ℕ × Role)
  duties programs stations = map (runs_by task) programs ++ map pumps_at stations

  pub no_pump_clocks : (stations : List ℕ) → Each IsNoClock (map pumps_at stations)
  no_pump_clocks [] = tt
  no_pump_clocks (h ∷ hs) = (refl, no_pump_clocks hs)

  pub no_clocks : (programs : List (Assigned G)) (stations : List ℕ) → Each IsNoClock (duties programs stations)
  no_clocks [] stations = no_pump_clocks stations
  no_clocks (a ∷ others) stations = (refl, no_clocks others stations)

  pub pump_hosts : (stations : List ℕ) → map duty_host (map pumps_at stations) ≡ stations
  pump_hosts [] = refl
  pump_hosts (h ∷ hs) = ap (λ l. h ∷ l) (pump_hosts hs)

  pub duty_hosts : (programs : List (Assigned G)) (stations : List ℕ) → map duty_host (duties programs stations) ≡ map program_host programs ++ stations
  duty_hosts [] stations = pump_hosts stations
  duty_hosts (a ∷ others) stations = ap (λ l. a.pid.host ∷ l) (duty_hosts others stations)

  pub duty_count : (programs : List (Assigned G)) (stations : List ℕ) → length (duties programs stations) ≡ length programs + length stations
  duty_count [] [] = refl
  duty_count [] (h ∷ hs) = let rest = duty_count [] hs in omega arith
  duty_count (a ∷ others) stations = let rest = duty_count others stations in omega arith

  pub no_ticking_tasks : (ports : List PortValue) → tasks_by (ticking ports) ≡ []
  no_ticking_tasks [] = refl
  no_ticking_tasks (p ∷ ps) = no_ticking_tasks ps

  pub no_pump_tasks : (stations : List ℕ) (ports : List PortValue) → tasks_by (map duty_role (map pumps_at stations) ++ ticking ports) ≡ []
  no_pump_tasks [] ports = no_ticking_tasks ports
  no_pump_tasks (h ∷ hs) ports = no_pump_tasks hs ports

  pub duty_tasks : (programs : List (Assigned G)) (stations : List ℕ) (ports : List PortValue)
      → tasks_by (map duty_role (duties programs stations) ++ ticking ports) ≡ map (program_task task) programs
  duty_tasks [] stations ports = no_pump_tasks stations ports
  duty_tasks (a ∷ others) stations ports = ap (λ l. program_task task a ∷ l) (duty_tasks others stations ports)

  pub ticking_runs_none : (p : Pid) (ports : List PortValue) → Each (λ (q : Role). runs_pid p q ≡ false) (ticking ports)
  ticking_runs_none p [] = tt
  ticking_runs_none p (q ∷ ps) = (refl, ticking_runs_none p ps)

  pub pumps_run_none : (p : Pid) (stations : List ℕ) (ports : List PortValue)
      → Each (λ (q : Role). runs_pid p q ≡ false) (map duty_role (map pumps_at stations) ++ ticking ports)
  pumps_run_none p [] ports = ticking_runs_none p ports
  pumps_run_none p (h ∷ hs) ports = (refl, pumps_run_none p hs ports)

  pub runs_none : (p : Pid) (programs : List (Assigned G)) (stations : List ℕ) (ports : List PortValue)
      → Each (λ (q : Pid). same_pid q p ≡ false) (map pid_of programs)
      → Each (λ (q : Role). runs_pid p q ≡ false) (map duty_role (duties programs stations) ++ ticking ports)
  runs_none p [] stations ports each = pumps_run_none p stations ports
  runs_none p (a ∷ others) stations ports each = (each.0, runs_none p others stations ports each.1)

  pub ticking_apart : (ports : List PortValue) → AreApartRoles (ticking ports)
  ticking_apart [] = tt
  ticking_apart (p ∷ ps) = (tt, ticking_apart ps)

  pub pumps_apart : (stations : List ℕ) (ports : List PortValue) → AreApartRoles (map duty_role (map pumps_at stations) ++ ticking ports)
  pumps_apart [] ports = ticking_apart ports
  pumps_apart (h ∷ hs) ports = (tt, pumps_apart hs ports)

  pub duties_apart : (programs : List (Assigned G)) (stations : List ℕ) (ports : List PortValue) → AreDifferent (map pid_of programs)
      → AreApartRoles (map duty_role (duties programs stations) ++ ticking ports)
  duties_apart [] stations ports different = pumps_apart stations ports
  duties_apart (a ∷ others) stations ports different = (runs_none a.pid others stations ports different.0, duties_apart others stations ports different.1)

-- THE CLOCK's ports
module _ (sites : List Site) (hub : Cell HubLog) where
  abbrev pub IsOwn : PortValue → Type 0
  IsOwn p = IsPort sites hub p.ticks p.host p

  pub own : (ticks : Bool) (h : ℕ) (p : PortValue) → IsPort sites hub ticks h p → IsOwn p
  own ticks h p is = subst (λ b. IsPort sites hub b p.host p) (sym is.ticks) (subst (λ n. IsPort sites hub ticks n p) (sym is.at) is)

  pub own_ports : (hs : List ℕ) (ps : List PortValue) → ArePorts sites hub true hs ps → Each IsOwn ps
  own_ports [] [] are = tt
  own_ports [] (p ∷ ps) are = absurd are
  own_ports (h ∷ hs) [] are = absurd are
  own_ports (h ∷ hs) (p ∷ ps) are = (own true h p are.0, own_ports hs ps are.1)

  pub clock_hosts : (hs : List ℕ) (ps : List PortValue) → ArePorts sites hub true hs ps → map port_host ps ≡ hs
  clock_hosts [] [] are = refl
  clock_hosts [] (p ∷ ps) are = absurd are
  clock_hosts (h ∷ hs) [] are = absurd are
  clock_hosts (h ∷ hs) (p ∷ ps) are = ap (λ n. n ∷ map port_host ps) are.0.at ∙ ap (λ l. h ∷ l) (clock_hosts hs ps are.1)

  pub clock_count : (h : ℕ) (hs : List ℕ) (ps : List PortValue) → ArePorts sites hub true hs ps → clocks_by h hs (ticking ps) ≡ count_of h hs
  clock_count h [] [] are = refl
  clock_count h [] (p ∷ ps) are = absurd are
  clock_count h (x ∷ hs) [] are = absurd are
  clock_count h (x ∷ hs) (p ∷ ps) are = ap (λ n. cond (x == h) 1 0 + n) (clock_count h hs ps are.1)

  -- one passage through one port
  pub left_by : (p : PortValue) (s : Seats) (g : Passage) → IsOwn p → IsThrough p s g
      → (cell : Cell StationHistory) × (cell_at sites (host_of g) ≡ Some cell) × AreLeft cell hub s g
  left_by p s g is t = (
    p.station,
    ap (λ (b : Berth). cell_at sites b.host) t.berth ∙ is.cell,
    record {
      host = t.host ∙ sym (ap (λ (b : Berth). b.host) t.berth);
      seat = (t.seat.0 ∙ is.seat.0, t.seat.1 ∙ is.seat.1);
      number = t.seat.2 ∙ sym (ap (λ (b : Berth). b.number) t.berth);
      seen = t.seen;
      mine = t.mine;
      hub_seat = (t.hub_seat.0 ∙ is.hub_seat.0, t.hub_seat.1 ∙ is.hub_seat.1);
      hub_number = t.hub_seat.2 ∙ sym (ap (λ (b : Berth). b.hub_number) t.berth);
      heard = t.heard;
      sent = t.sent;
    },
  )

  pub all_left : (ps : List PortValue) (ss : List Seats) (gs : List Passage) → Each IsOwn ps → AreThrough ps ss gs → AllLeft sites hub ss gs
  all_left [] [] [] own t = tt
  all_left [] [] (g ∷ gs) own t = absurd t
  all_left [] (s ∷ ss) gs own t = absurd t
  all_left (p ∷ ps) [] gs own t = absurd t
  all_left (p ∷ ps) (s ∷ ss) [] own t = absurd t
  all_left (p ∷ ps) (s ∷ ss) (g ∷ gs) own t = (left_by p s g own.0 t.0, all_left ps ss gs own.1 t.1)

  pub passage_by : (c : Settings) (p : PortValue) (s : Seats) (g : Passage) → IsOwn p → IsOf c p → IsThrough p s g → IsPassage c hub.origin g
  passage_by c p s g is of t =
      let host : g.berth.host ≡ p.host = ap (λ (b : Berth). b.host) t.berth in
      let fresh : p.station.origin ≡ fresh_station c g.berth.host = of ∙ ap (fresh_station c) (sym host) in
      record {
        station = ap (λ (b : Berth). b.station) t.berth ∙ fresh;
        hub = ap (λ (b : Berth). b.hub) t.berth ∙ ap (λ (x : Cell HubLog). x.origin) is.at_hub;
        log = subst (λ (b : Berth). IsLog b nowhere g.actions g.left) (sym t.berth) (subst (λ (st : Stand). IsLog (berth_of p) st g.actions g.left) is.new t.log);
        role = subst (λ (o : StationHistory). IsRole g.role o g.actions) fresh t.role;
        last = t.last;
      }

  pub passages_by : (c : Settings) (ps : List PortValue) (ss : List Seats) (gs : List Passage) → Each IsOwn ps → Each (IsOf c) ps → AreThrough ps ss gs
      → Each (IsPassage c hub.origin) gs
  passages_by c [] [] [] own of t = tt
  passages_by c [] [] (g ∷ gs) own of t = absurd t
  passages_by c [] (s ∷ ss) gs own of t = absurd t
  passages_by c (p ∷ ps) [] gs own of t = absurd t
  passages_by c (p ∷ ps) (s ∷ ss) [] own of t = absurd t
  passages_by c (p ∷ ps) (s ∷ ss) (g ∷ gs) own of t = (passage_by c p s g own.0 of.0 t.0, passages_by c ps ss gs own.1 of.1 t.1)

  pub hosts_by : (ps : List PortValue) (ss : List Seats) (gs : List Passage) → AreThrough ps ss gs → map host_of gs ≡ map port_host ps
  hosts_by [] [] [] t = refl
  hosts_by [] [] (g ∷ gs) t = absurd t
  hosts_by [] (s ∷ ss) gs t = absurd t
  hosts_by (p ∷ ps) [] gs t = absurd t
  hosts_by (p ∷ ps) (s ∷ ss) [] t = absurd t
  hosts_by (p ∷ ps) (s ∷ ss) (g ∷ gs) t =
      ap (λ (b : Berth). b.host ∷ map host_of gs) t.0.berth ∙ ap (λ l. p.host ∷ l) (hosts_by ps ss gs t.1)

  -- ALL JOBS, with their ends
  module _ {G P : Type 0} (task : G → List Answer → Option Call) where
    abbrev pub EndEach : List (RunJob G P) → List End → Type 0
    EndEach [] [] = Unit {0}
    EndEach (w ∷ ws) (e ∷ es) = ends_as task w e × EndEach ws es
    EndEach ws es = ⊥

    pub end_each : (ws : List (RunJob G P)) (es : List End) → AllEnd (ends_as task) ws es → EndEach ws es
    end_each [] [] all = tt
    end_each [] (e ∷ es) all = let n : suc (length es) ≡ 0 = all.0 in absurd (omega arith)
    end_each (w ∷ ws) [] all = let n : 0 ≡ suc (length ws) = all.0 in absurd (omega arith)
    end_each (w ∷ ws) (e ∷ es) all =
        let n : suc (length es) ≡ suc (length ws) = all.0 in
        (all.1 0 w e refl refl, end_each ws es (omega arith, λ k j x at_job at_end. all.1 (suc k) j x at_job at_end))

    pub ends_of : (ws : List (RunJob G P)) (es : List End) → EndEach ws es → List JobEnd
    ends_of [] [] m = []
    ends_of [] (e ∷ es) m = []
    ends_of (w ∷ ws) [] m = []
    ends_of (w ∷ ws) (e ∷ es) m = record { passages = m.0.passages; met = e.met } ∷ ends_of ws es m.1

    abbrev pub AreOwn : List (RunJob G P) → Type 0
    AreOwn ws = Each (λ (w : RunJob G P). Each IsOwn (ports_of w)) ws

    abbrev pub AreOf : Settings → List (RunJob G P) → Type 0
    AreOf c ws = Each (λ (w : RunJob G P). Each (IsOf c) (ports_of w)) ws

    pub are_ends : (ws : List (RunJob G P)) (es : List End) (m : EndEach ws es) → AreOwn ws → AreEndsOf sites hub es (ends_of ws es m)
    unfolding ends_of
    are_ends [] [] m own = tt
    are_ends [] (e ∷ es) m own = absurd m
    are_ends (w ∷ ws) [] m own = absurd m
    are_ends (w ∷ ws) (e ∷ es) m own = ((all_left (ports_of w) e.seats.items m.0.passages own.0 m.0.through, refl), are_ends ws es m.1 own.1)

    pub are_passages : (c : Settings) (ws : List (RunJob G P)) (es : List End) (m : EndEach ws es) → AreOwn ws → AreOf c ws
        → Each (IsPassage c hub.origin) (passages_of (ends_of ws es m))
    unfolding ends_of
    are_passages c [] [] m own of = tt
    are_passages c [] (e ∷ es) m own of = absurd m
    are_passages c (w ∷ ws) [] m own of = absurd m
    are_passages c (w ∷ ws) (e ∷ es) m own of =
        each_append (IsPassage c hub.origin) m.0.passages (passages_of (ends_of ws es m.1))
        (passages_by c (ports_of w) e.seats.items m.0.passages own.0 of.0 m.0.through) (are_passages c ws es m.1 own.1 of.1)

    pub are_job_ends : (c : Settings) (ws : List (RunJob G P)) (es : List End) (m : EndEach ws es) → AreOf c ws → Each (IsJobEnd c) (ends_of ws es m)
    unfolding ends_of
    are_job_ends c [] [] m of = tt
    are_job_ends c [] (e ∷ es) m of = absurd m
    are_job_ends c (w ∷ ws) [] m of = absurd m
    are_job_ends c (w ∷ ws) (e ∷ es) m of = (m.0.job c of.0, are_job_ends c ws es m.1 of.1)

    pub end_count : (ws : List (RunJob G P)) (es : List End) (m : EndEach ws es) → length (ends_of ws es m) ≡ length ws
    unfolding ends_of
    end_count [] [] m = refl
    end_count [] (e ∷ es) m = absurd m
    end_count (w ∷ ws) [] m = absurd m
    end_count (w ∷ ws) (e ∷ es) m = ap suc (end_count ws es m.1)

    -- their roles and stations
    module _ (clock : ClockDuty) where
      abbrev pub and_clock : List (RunJob G P) → List (RunJob G P)
      and_clock ws = ws ++ works.Clock clock ∷ []

      pub all_roles : (ds : List (ℕ × Role)) (ws : List (RunJob G P)) (es : List End) (m : EndEach (and_clock ws) es) → AreJobsAt task sites hub ds ws
          → map role_of (passages_of (ends_of (and_clock ws) es m)) ≡ map duty_role ds ++ ticking clock.ports
      unfolding ends_of
      all_roles [] [] [] m are = absurd m
      all_roles [] [] (e ∷ []) m are = ap (map role_of) (append-nil m.0.passages) ∙ m.0.each
      all_roles [] [] (e ∷ f ∷ es) m are = absurd m.1
      all_roles [] (w ∷ ws) es m are = absurd are
      all_roles (d ∷ ds) [] es m are = absurd are
      all_roles (d ∷ ds) (w ∷ ws) [] m are = absurd m
      all_roles (d ∷ ds) (w ∷ ws) (e ∷ es) m are =
          map_append role_of m.0.passages (passages_of (ends_of (and_clock ws) es m.1))
          ∙ ap (λ l. l ++ map role_of (passages_of (ends_of (and_clock ws) es m.1))) (m.0.each ∙ are.0.roles)
          ∙ ap (λ l. d.1 ∷ l) (all_roles ds ws es m.1 are.1)

      pub all_hosts : (ds : List (ℕ × Role)) (ws : List (RunJob G P)) (es : List End) (m : EndEach (and_clock ws) es) → AreJobsAt task sites hub ds ws
          → map host_of (passages_of (ends_of (and_clock ws) es m)) ≡ map duty_host ds ++ map port_host clock.ports
      unfolding ends_of
      all_hosts [] [] [] m are = absurd m
      all_hosts [] [] (e ∷ []) m are = ap (map host_of) (append-nil m.0.passages) ∙ hosts_by clock.ports e.seats.items m.0.passages m.0.through
      all_hosts [] [] (e ∷ f ∷ es) m are = absurd m.1
      all_hosts [] (w ∷ ws) es m are = absurd are
      all_hosts (d ∷ ds) [] es m are = absurd are
      all_hosts (d ∷ ds) (w ∷ ws) [] m are = absurd m
      all_hosts (d ∷ ds) (w ∷ ws) (e ∷ es) m are =
          map_append host_of m.0.passages (passages_of (ends_of (and_clock ws) es m.1))
          ∙ ap (λ l. l ++ map host_of (passages_of (ends_of (and_clock ws) es m.1)))
          (hosts_by (ports_of w) e.seats.items m.0.passages m.0.through ∙ ap (map port_host) are.0.ports ∙ ap (λ n. n ∷ []) are.0.is.at)
          ∙ ap (λ l. d.0 ∷ l) (all_hosts ds ws es m.1 are.1)

      pub clock_done : (ws : List (RunJob G P)) (es : List End) → EndEach (and_clock ws) es → ℕ
      clock_done [] [] m = 0
      clock_done [] (e ∷ es) m = m.0.done
      clock_done (w ∷ ws) [] m = 0
      clock_done (w ∷ ws) (e ∷ es) m = clock_done ws es m.1

      pub all_time : (rounds : ℕ) (ds : List (ℕ × Role)) (ws : List (RunJob G P)) (es : List End) (m : EndEach (and_clock ws) es) → AreJobsAt task sites hub ds ws
          → clock.rounds ≡ rounds → Each IsNoClock ds
          → Each (λ (g : Passage). KeepsTime (clock_done ws es m) rounds g g.role) (passages_of (ends_of (and_clock ws) es m))
      unfolding ends_of clock_done
      all_time rounds [] [] [] m are same none = absurd m
      all_time rounds [] [] (e ∷ []) m are same none =
          subst (λ n. Each (λ (g : Passage). KeepsTime m.0.done n g g.role) (m.0.passages ++ [])) same
          (each_append (λ (g : Passage). KeepsTime m.0.done clock.rounds g g.role) m.0.passages [] m.0.time tt)
      all_time rounds [] [] (e ∷ f ∷ es) m are same none = absurd m.1
      all_time rounds [] (w ∷ ws) es m are same none = absurd are
      all_time rounds (d ∷ ds) [] es m are same none = absurd are
      all_time rounds (d ∷ ds) (w ∷ ws) [] m are same none = absurd m
      all_time rounds (d ∷ ds) (w ∷ ws) (e ∷ es) m are same none =
          each_append (λ (g : Passage). KeepsTime (clock_done ws es m.1) rounds g g.role) m.0.passages (passages_of (ends_of (and_clock ws) es m.1))
          (each_keeps (clock_done ws es m.1) rounds m.0.passages
          (subst (Each (λ (r : Role). is_clock r ≡ 0)) (sym (m.0.each ∙ are.0.roles)) (none.0, tt)))
          (all_time rounds ds ws es m.1 are.1 same none.1)

      pub all_own : (ds : List (ℕ × Role)) (ws : List (RunJob G P)) → AreJobsAt task sites hub ds ws → Each IsOwn clock.ports → AreOwn (and_clock ws)
      all_own [] [] are own_clock = (own_clock, tt)
      all_own [] (w ∷ ws) are own_clock = absurd are
      all_own (d ∷ ds) [] are own_clock = absurd are
      all_own (d ∷ ds) (w ∷ ws) are own_clock =
          (subst (Each IsOwn) (sym are.0.ports) (own false d.0 are.0.port are.0.is, tt), all_own ds ws are.1 own_clock)

      pub job_count : (ds : List (ℕ × Role)) (ws : List (RunJob G P)) → AreJobsAt task sites hub ds ws → length ws ≡ length ds
      job_count [] [] are = refl
      job_count [] (w ∷ ws) are = absurd are
      job_count (d ∷ ds) [] are = absurd are
      job_count (d ∷ ds) (w ∷ ws) are = ap suc (job_count ds ws are.1)

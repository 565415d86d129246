-- ALL JOBS HAVE ENDED: what has come back is that of a run.
use Rattle.std.proofs.Common.{◌≡◌, ◌≤◌, ◌<◌, ℕ, suc, ◌+◌, ◌==◌, ◌||◌, eqb-true, eq-eqb, Bool, true, false, cond, Option, Some, List, [], ◌∷◌, ◌++◌, append_assoc, length, map, refl, sym, ap, ◌∙◌, subst, arith}
use Rattle.std.specs.List.{list_any}
use Rattle.std.proofs.lemmas.List.{length-append, length-map}
use Rattle.std.proofs.lemmas.Bool.{or_parts, ne_eqb}
use Rattle.vk_types.specs.Types.{Answer, Call, Pid, ProcessSpec}
use Rattle.turn_cell.specs.Seats.{Cell, Sitting}
use Rattle.std.specs.Prelude.{IfOk, slice_get, Result, Ok, Err}
use Rattle.std.proofs.lemmas.Bool.{and_from, and_parts}
use Rattle.std.proofs.lemmas.Option.{same_Some}
use Rattle.turn_cell.specs.Seats.{fresh}
use Rattle.vk_base.specs.Settings.{Settings, has_process, has_station, is_process, stations_of}
use Rattle.vk_port.specs.Stations.{is_process_of}
use Rattle.vk_threads.proofs.Dealing.{count_append}
use Rattle.vk_base.proofs.SettingsLemmas.{among_stations}
use Rattle.vk_base.proofs.BoolLemmas.{or_true}
use Rattle.vk_cluster.proofs.Stations.{Apart, stations_apart}
use Rattle.vk_hub.specs.declared.event.HubEvent.{HubEvent}
use Rattle.vk_hub.specs.Hubs.{HubLog}
use Rattle.vk_io.specs.Crews.{AllEnd}
use Rattle.vk_port.specs.Stations.{StationHistory}
use Rattle.vk_rules.specs.Each.{Each}
use Rattle.vk_rules.proofs.Lists.{each_weaker, each_front, each_behind}
use Rattle.v_run.specs.Outcomes.{Assignment}
use Rattle.v_run.specs.Ran.{IsRun}
use Rattle.vk_schedule.specs.declared.plan.LinkPlan.{LinkPlan}
use Rattle.vk_threads.specs.declared.record.RunRecord.{RunRecord}
use Rattle.v_run.specs.Passages.{host_of}
use Rattle.v_run.specs.Runs.{passages_of, tasks_of}
use Rattle.vk_threads.specs.declared.end.End.{End}
use Rattle.vk_threads.specs.declared.opening.Site.{Site}
use Rattle.vk_threads.specs.declared.opening.Spare.{Spare}
use Rattle.vk_program.specs.declared.assigned.Assigned.{Assigned}
use Rattle.vk_threads.specs.declared.work.RunJob.{RunJob}
use Rattle.vk_threads.specs.declared.work.RunJob.TheVariants as works
use Rattle.vk_threads.specs.Assigned.{AreDifferent, pid_of, program_task}
use Rattle.vk_threads.specs.Dealt.{AreDealt, HasRunJobs, IsNewAt, IsOwnAt, IsStocked, hosts_for}
use Rattle.vk_threads.specs.Dealt.{host_of as program_host}
use Rattle.vk_threads.specs.Ended.{AreSites, HaveEnded}
use Rattle.vk_threads.specs.Ends.{IsOf, port_host, role_of, ticking}
use Rattle.vk_threads.specs.Jobs.{ends_as, ports_of}
use Rattle.vk_threads.specs.Opened.{AreOpened, count_of}
use Rattle.vk_threads.proofs.Dealt as parts
use Rattle.vk_threads.proofs.Opened.{opened_cell, opened_cells, opened_counts, opened_hosts, opened_spares}

-- a station stands once among those that differ
count_none : (h : ℕ) (hs : List ℕ) → list_any (λ x. x == h) hs ≡ false → count_of h hs ≡ 0
count_none h [] none = refl
count_none h (x ∷ xs) none =
    let both = or_parts (x == h) (list_any (λ y. y == h) xs) none in
    ap (λ b. cond b 1 0 + count_of h xs) both.0 ∙ (let rest = count_none h xs both.1 in omega arith)

pub count_once : (h : ℕ) (hs : List ℕ) → Apart hs → list_any (λ x. x == h) hs ≡ true → count_of h hs ≡ 1
count_once h [] apart there = absurd (cc there)
count_once h (x ∷ xs) apart there = by (count_once h xs apart.1) (x == h) refl there
  where
    by : (list_any (λ y. y == h) xs ≡ true → count_of h xs ≡ 1) → (b : Bool) → (x == h) ≡ b → (b || list_any (λ y. y == h) xs) ≡ true → cond b 1 0 + count_of h xs ≡ 1
    by rest true same there = let none = count_none h xs (subst (λ (n : ℕ). list_any (λ y. y == n) xs ≡ false) (eqb-true x h same) apart.0) in omega arith
    by rest false same there = let once = rest there in omega arith

pub apart_stations : (c : Settings) (hs : List ℕ) → hs ≡ stations_of c.specs → Apart hs
apart_stations c hs is = subst Apart (sym is) (stations_apart c.specs)

pub are_sites : {G : Type 0} (c : Settings) (sites : List Site) (programs : List (Assigned G)) (stations : List ℕ) (spares : List Spare)
    → stations ≡ stations_of c.specs → AreOpened c (hosts_for programs stations) stations sites spares → AreSites c sites
are_sites c sites programs stations spares is opened = record {
  hosts = opened_hosts c (hosts_for programs stations) stations sites spares opened ∙ is;
  cells = opened_cells c (hosts_for programs stations) stations sites spares opened;
}

module _ {G P : Type 0} (task : G → List Answer → Option Call) (c : Settings) (sites : List Site) (hub : Cell HubLog) (programs : List (Assigned G))
    (stations : List ℕ) (rounds : ℕ) (ends : List End) (halt : Sitting HubLog HubEvent) (spares : List Spare) where
  pub have_ended : stations ≡ stations_of c.specs → AreOpened c (hosts_for programs stations) stations sites spares
      → hub.origin.programs ≡ length programs → hub.seats ≡ length (hosts_for programs stations) + 1 → length programs ≤ 512 → length stations ≤ 16
      → AreDifferent (map pid_of programs) → HasRunJobs G P task sites hub programs stations rounds ends halt
      → HaveEnded c sites hub rounds (map (program_task task) programs) ends halt
  have_ended is opened count seats few_programs few_stations different ran =
      let hosts = hosts_for programs stations in
      let d = ran.dealt in
      let ws : List (RunJob G P) = d.first ++ works.Clock d.clock ∷ [] in
      let ds = parts.duties task programs stations in
      let m = parts.end_each sites hub task ws ends (subst (λ l. AllEnd (ends_as task) l ends) d.all ran.each_end) in
      let js = parts.ends_of sites hub task ws ends m in
      let gs = passages_of js in
      let roles : map role_of gs ≡ map parts.duty_role ds ++ ticking d.clock.ports = parts.all_roles sites hub task d.clock ds d.first ends m d.each in
      let places : map host_of gs ≡ hosts =
      parts.all_hosts sites hub task d.clock ds d.first ends m d.each
      ∙ ap (λ l. l ++ map port_host d.clock.ports) (parts.duty_hosts task programs stations)
      ∙ ap (λ l. (map program_host programs ++ stations) ++ l) (parts.clock_hosts sites hub stations d.clock.ports d.ports) in
      let own = parts.all_own sites hub task d.clock ds d.first d.each (parts.own_ports sites hub stations d.clock.ports d.ports) in
      let of : Each (λ (w : RunJob G P). Each (IsOf c) (ports_of w)) ws =
      each_weaker (λ (w : RunJob G P). Each (parts.IsOwn sites hub) (ports_of w)) (λ (w : RunJob G P). Each (IsOf c) (ports_of w)) ws own
      (λ w each. each_weaker (parts.IsOwn sites hub) (IsOf c) (ports_of w) each
      (λ p mine. (opened_cell c hosts stations sites spares p.host p.station opened mine.cell).origin)) in
      let tasks : tasks_of gs ≡ map (program_task task) programs =
      parts.tasks_by_roles gs ∙ ap parts.tasks_by roles ∙ parts.duty_tasks task programs stations d.clock.ports in
      let so_many : length js ≡ length programs + length stations + 1 =
      parts.end_count sites hub task ws ends m ∙ length-append d.first (works.Clock d.clock ∷ [])
      ∙ ap (λ n. n + 1) (parts.job_count sites hub task d.clock ds d.first d.each ∙ parts.duty_count task programs stations) in
      record {
        jobs = js;
        each_end = parts.are_ends sites hub task ws ends m own;
        passages = parts.are_passages sites hub task c ws ends m own of;
        are_jobs = record {
          ends = parts.are_job_ends sites hub task c ws ends m of;
          few = omega (arith, so_many);
          programs = count ∙ sym (ap length tasks ∙ length-map programs (program_task task));
          done = parts.clock_done sites hub task d.clock d.first ends m;
          time = parts.all_time sites hub task d.clock rounds ds d.first ends m d.each d.so_many (parts.no_clocks task programs stations);
          clocks = λ h there.
              parts.clocks_by_roles h gs ∙ ap (λ l. parts.clocks_by h l (map role_of gs)) (parts.all_hosts sites hub task d.clock ds d.first ends m d.each)
              ∙ ap (parts.clocks_by h (map parts.duty_host ds ++ map port_host d.clock.ports)) roles
              ∙ parts.clocks_of_none h ds (map port_host d.clock.ports) (ticking d.clock.ports) (parts.no_clocks task programs stations)
              ∙ ap (λ l. parts.clocks_by h l (ticking d.clock.ports)) (parts.clock_hosts sites hub stations d.clock.ports d.ports)
              ∙ parts.clock_count sites hub h stations d.clock.ports d.ports
              ∙ count_once h stations (apart_stations c stations is) (ap (list_any (λ x. x == h)) is ∙ among_stations c.specs h ∙ there);
          apart = parts.apart_roles gs (subst parts.AreApartRoles (sym roles) (parts.duties_apart task programs stations d.clock.ports different));
        };
        are_tasks = tasks;
        seats = λ h cell found. parts.numbers_count h gs ∙ ap (count_of h) places ∙ sym (opened_cell c hosts stations sites spares h cell opened found).seats;
        hub_seats = ap (λ n. n + 1) (sym (length-map gs host_of) ∙ ap length places) ∙ sym seats;
        halt_seat = ran.seat;
        unhalted = ran.unhalted;
      }

among_own : (h : ℕ) (hs : List ℕ) (front : List ℕ) → list_any (λ x. x == h) (front ++ h ∷ hs) ≡ true
among_own h hs [] = ap (λ b. b || list_any (λ x. x == h) hs) (eq-eqb h h refl)
among_own h hs (g ∷ gs) = ap (λ b. (g == h) || b) (among_own h hs gs) ∙ or_true (g == h)

each_among : (front hs : List ℕ) → Each (λ (h : ℕ). list_any (λ x. x == h) (front ++ hs) ≡ true) hs
each_among front [] = tt
each_among front (h ∷ hs) = (
  among_own h hs front,
  subst (λ l. Each (λ (n : ℕ). list_any (λ x. x == n) l ≡ true) hs) (append_assoc front (h ∷ []) hs) (each_among (front ++ h ∷ []) hs),
)

pub each_station : (c : Settings) (hs : List ℕ) → hs ≡ stations_of c.specs → Each (λ (h : ℕ). has_station c.specs h ≡ true) hs
each_station c hs is =
    each_weaker (λ (h : ℕ). list_any (λ x. x == h) hs ≡ true) (λ (h : ℕ). has_station c.specs h ≡ true) hs (each_among [] hs)
    (λ h there. sym (ap (list_any (λ x. x == h)) is ∙ among_stations c.specs h) ∙ there)

some_count : (h : ℕ) (hs : List ℕ) → list_any (λ x. x == h) hs ≡ true → 1 ≤ count_of h hs
some_count h [] there = absurd (cc there)
some_count h (x ∷ xs) there = by (some_count h xs) (x == h) there
  where
    by : (list_any (λ y. y == h) xs ≡ true → 1 ≤ count_of h xs) → (b : Bool) → (b || list_any (λ y. y == h) xs) ≡ true → 1 ≤ cond b 1 0 + count_of h xs
    by rest true there = omega arith
    by rest false there = let some = rest there in omega arith

pub each_some : {G : Type 0} (programs : List (Assigned G)) (hs : List ℕ) → Each (λ (h : ℕ). 1 ≤ count_of h (hosts_for programs hs)) hs
each_some programs hs =
    each_weaker (λ (h : ℕ). list_any (λ x. x == h) hs ≡ true) (λ (h : ℕ). 1 ≤ count_of h (hosts_for programs hs)) hs (each_among [] hs)
    (λ h there. let some = some_count h hs there in let all = count_append h (map program_host programs ++ hs) hs in omega arith)

-- a process of the configuration is one of its station
pub process_station : (specs : List ProcessSpec) (p : Pid) → has_process specs p ≡ true → has_station specs p.host ≡ true
process_station [] p has = absurd (cc has)
process_station (s ∷ ss) p has = by (process_station ss p) (is_process p s) refl has
  where
    by : (has_process ss p ≡ true → has_station ss p.host ≡ true) → (b : Bool) → is_process p s ≡ b → (b || has_process ss p) ≡ true
        → ((s.pid.host == p.host) || has_station ss p.host) ≡ true
    by rest true is has = ap (λ b. b || has_station ss p.host) (and_parts (s.pid.host == p.host) (s.pid.local == p.local) is).0
    by rest false is has = ap (λ b. (s.pid.host == p.host) || b) (rest has) ∙ or_true (s.pid.host == p.host)

-- the processes of the programs are those of their stations' cells
pub own_programs : {G : Type 0} (c : Settings) (sites : List Site) (programs : List (Assigned G)) (all : List (Assigned G)) (stations : List ℕ)
    (spares : List Spare) → AreOpened c (hosts_for all stations) stations sites spares
    → Each (λ (a : Assigned G). has_process c.specs a.pid ≡ true) programs → Each (IsOwnAt sites) programs
own_programs c sites [] all stations spares opened has = tt
own_programs c sites (a ∷ others) all stations spares opened has = (
  λ cell found. let is = (opened_cell c (hosts_for all stations) stations sites spares a.pid.host cell opened found).origin in
      subst (λ (o : StationHistory). is_process_of o a.pid ≡ true) (sym is)
      (and_from (has_process c.specs a.pid) (a.pid.host == a.pid.host) has.0 (eq-eqb a.pid.host a.pid.host refl)),
  own_programs c sites others all stations spares opened has.1,
)

count_absent : {G : Type 0} (c : Settings) (h : ℕ) (programs : List (Assigned G)) → Each (λ (a : Assigned G). has_process c.specs a.pid ≡ true) programs
    → has_station c.specs h ≡ false → count_of h (map program_host programs) ≡ 0
count_absent c h [] has none = refl
count_absent c h (a ∷ others) has none =
    let rest = count_absent c h others has.1 none in
    let differs : (a.pid.host == h) ≡ false = ne_eqb a.pid.host h (λ same. let there = ap (has_station c.specs) (sym same) ∙ process_station c.specs a.pid has.0 in cc (there, none)) in
    ap (λ b. cond b 1 0 + count_of h (map program_host others)) differs ∙ (let zero_more = rest in omega arith)

-- THE STOCK of a run
pub stocked : {G : Type 0} (c : Settings) (sites : List Site) (hub : Cell HubLog) (programs : List (Assigned G)) (stations : List ℕ) (spares : List Spare)
    (seats : List (Sitting HubLog HubEvent)) → stations ≡ stations_of c.specs → AreOpened c (hosts_for programs stations) stations sites spares
    → Each (λ (a : Assigned G). has_process c.specs a.pid ≡ true) programs → Each (IsNewAt hub) seats → length seats ≡ length (hosts_for programs stations)
    → IsStocked sites hub spares seats (hosts_for programs stations)
stocked c sites hub programs stations spares seats is opened has at_hub all = record {
  each = opened_spares c (hosts_for programs stations) stations sites spares (apart_stations c stations is) opened;
  counts = λ h. opened_counts c (hosts_for programs stations) h stations sites spares (apart_stations c stations is) opened
      ∙ by h (list_any (λ x. x == h) stations) refl;
  at_hub = at_hub;
  all = all;
}
  where
    by : (h : ℕ) (b : Bool) → list_any (λ x. x == h) stations ≡ b → cond b (count_of h (hosts_for programs stations)) 0 ≡ count_of h (hosts_for programs stations)
    by h true there = refl
    by h false none =
        let absent = count_absent c h programs has (sym (ap (list_any (λ x. x == h)) is ∙ among_stations c.specs h) ∙ none) in
        let here = count_none h stations none in
        let one = count_append h (map program_host programs ++ stations) stations in
        let two = count_append h (map program_host programs) stations in
        omega arith

-- seats of the hub, but for the last
new_seats : (hub : Cell HubLog) (seats : List (Sitting HubLog HubEvent)) (from : ℕ)
    → ((k : ℕ) → k < length seats → slice_get seats k ≡ Some (fresh hub (from + k))) → Each (IsNewAt hub) seats
new_seats hub [] from each = tt
new_seats hub (s ∷ ss) from each = (
  (from + 0, same_Some s (fresh hub (from + 0)) (each 0 (omega arith))),
  new_seats hub ss (suc from) (λ k low. let next : from + suc k ≡ suc from + k = omega arith in
      subst (λ (n : ℕ). slice_get ss k ≡ Some (fresh hub n)) next (each (suc k) (omega arith))),
)

pub hub_seats_new : (hub : Cell HubLog) (count : ℕ) (seats left : List (Sitting HubLog HubEvent)) (last : Sitting HubLog HubEvent) → length seats ≡ count
    → ((k : ℕ) → k < count → slice_get seats k ≡ Some (fresh hub k)) → seats ≡ left ++ last ∷ [] → Each (IsNewAt hub) left × IsNewAt hub last
hub_seats_new hub count seats left last all each is =
    let new = new_seats hub seats 0 (λ k low. let same : k ≡ 0 + k = omega arith in
    subst (λ (n : ℕ). slice_get seats k ≡ Some (fresh hub n)) same (each k (omega (arith, all)))) in
    let parted = subst (Each (IsNewAt hub)) is new in
    (each_front (IsNewAt hub) left (last ∷ []) parted, (each_behind (IsNewAt hub) left (last ∷ []) parted).0)

-- how many jobs there are
pub dealt_count : {G P : Type 0} (task : G → List Answer → Option Call) (sites : List Site) (hub : Cell HubLog) (programs : List (Assigned G))
    (stations : List ℕ) (rounds : ℕ) (jobs : List (RunJob G P)) → AreDealt task sites hub programs stations rounds jobs
    → length jobs ≡ length programs + length stations + 1
dealt_count task sites hub programs stations rounds jobs d =
    ap length d.all ∙ length-append d.first (works.Clock d.clock ∷ [])
    ∙ ap (λ n. n + 1) (parts.job_count sites hub task d.clock (parts.duties task programs stations) d.first d.each ∙ parts.duty_count task programs stations)

pub opened_as : (c : Settings) (hosts all stations shown : List ℕ) (sites : List Site) (spares : List Spare) → all ≡ hosts → shown ≡ stations
    → AreOpened c all shown sites spares → AreOpened c hosts stations sites spares
opened_as c hosts all stations shown sites spares one two opened =
    subst (λ l. AreOpened c l stations sites spares) one (subst (λ l. AreOpened c all l sites spares) two opened)

pub hosts_as : {G : Type 0} (programs shown : List (Assigned G)) (stations seen : List ℕ) → shown ≡ programs → seen ≡ stations
    → hosts_for shown seen ≡ hosts_for programs stations
hosts_as programs shown stations seen one two = ap (λ l. hosts_for l seen) one ∙ ap (hosts_for programs) two

pub stations_as : (c : Settings) (stations shown : List ℕ) → stations ≡ stations_of c.specs → shown ≡ stations
    → Each (λ (h : ℕ). has_station c.specs h ≡ true) shown
stations_as c stations shown is same = each_station c shown (same ∙ is)

pub some_as : {G : Type 0} (programs : List (Assigned G)) (stations shown hosts : List ℕ) → hosts ≡ hosts_for programs stations → shown ≡ stations
    → Each (λ (h : ℕ). 1 ≤ count_of h hosts) shown
some_as programs stations shown hosts one two =
    subst (λ l. Each (λ (h : ℕ). 1 ≤ count_of h l) shown) (sym one)
    (subst (λ l. Each (λ (h : ℕ). 1 ≤ count_of h (hosts_for programs stations)) l) (sym two) (each_some programs stations))

-- so much memory for seats as there are hosts, and one
pub hub_counts : (left : List (Sitting HubLog HubEvent)) (seats : List (Sitting HubLog HubEvent)) (last : Sitting HubLog HubEvent) (n : ℕ)
    → length seats ≡ n + 1 → seats ≡ left ++ last ∷ [] → length left ≡ n
hub_counts left seats last n all is = let both : length seats ≡ length left + 1 = ap length is ∙ length-append left (last ∷ []) in omega arith

module _ {G P : Type 0} (task : G → List Answer → Option Call) (c : Settings) where
  pub have_ended_as : (sites dealt : List Site) (hub : Cell HubLog) (programs : List (Assigned G)) (stations : List ℕ) (rounds : ℕ) (ends : List End)
      (halt : Sitting HubLog HubEvent) (spares : List Spare)
      → stations ≡ stations_of c.specs → AreOpened c (hosts_for programs stations) stations sites spares
      → hub.origin.programs ≡ length programs → hub.seats ≡ length (hosts_for programs stations) + 1 → length programs ≤ 512 → length stations ≤ 16
      → AreDifferent (map pid_of programs) → dealt ≡ sites → HasRunJobs G P task dealt hub programs stations rounds ends halt
      → HaveEnded c sites hub rounds (map (program_task task) programs) ends halt
  have_ended_as sites dealt hub programs stations rounds ends halt spares is opened count seats few_programs few_stations different same ran =
      have_ended task c sites hub programs stations rounds ends halt spares is opened count seats few_programs few_stations different
      (subst (λ l. HasRunJobs G P task l hub programs stations rounds ends halt) same ran)

-- the record of a run that has ended so
pub ran_as : {E : Type 0} (r : Result RunRecord E) (c : Settings) (sites : List Site) (hub : Cell HubLog) (plan : LinkPlan) (rounds : ℕ)
    (tasks : List Assignment) (ends : List End) (halt : Sitting HubLog HubEvent) → hub.origin.plan ≡ plan → HaveEnded c sites hub rounds tasks ends halt
    → IfOk r (λ x. (ts : List Assignment) → HaveEnded c sites hub rounds ts ends halt → IsRun c hub.origin.plan rounds ts x.end x.schedule)
    → IfOk r (λ x. IsRun c plan rounds tasks x.end x.schedule)
ran_as (Ok x) c sites hub plan rounds tasks ends halt same ended ran =
    subst (λ p. IsRun c p rounds tasks x.end x.schedule) same (ran tasks ended)
ran_as (Err e) c sites hub plan rounds tasks ends halt same ended ran = tt

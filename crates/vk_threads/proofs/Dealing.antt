-- Seats that are dealt: counts of stations, and what is left.
use Rattle.std.proofs.Common.{◌≡◌, ◌≤◌, ◌<◌, ℕ, zero, suc, ◌+◌, ◌==◌, eqb-true, Bool, true, false, cond, Option, Some, List, [], ◌∷◌, ◌++◌, append_assoc, length, map, take, drop, get_or, refl, sym, ap, ◌∙◌, subst, arith}
use Rattle.std.specs.Prelude.{slice_get}
use Rattle.std.proofs.lemmas.List.{length-append}
use Rattle.std.proofs.lemmas.Option.{none-some, same_Some, slice_get-get_or}
use Rattle.vk_base.proofs.ListLemmas.{map_append}
use Rattle.vk_types.specs.Types.{Answer, Call, Pid, StationEvent}
use Rattle.turn_cell.specs.Seats.{Cell, IsSeatOf, Sitting, fresh}
use Rattle.vk_hub.specs.declared.event.HubEvent.{HubEvent}
use Rattle.vk_hub.specs.Hubs.{HubLog}
use Rattle.vk_port.specs.Ports.{PortValue, stand_of}
use Rattle.vk_port.specs.Stations.{StationHistory}
use Rattle.vk_rules.specs.Each.{Each}
use Rattle.vk_rules.proofs.Lists.{each_append, each_front, each_behind}
use Rattle.v_run.specs.Passages.{Role, Runs}
use Rattle.vk_threads.specs.declared.opening.Site.{Site}
use Rattle.vk_threads.specs.declared.opening.Spare.{Spare}
use Rattle.vk_threads.specs.declared.work.RunJob.{RunJob}
use Rattle.vk_program.specs.declared.assigned.Assigned.{Assigned}
use Rattle.vk_threads.specs.declared.work.RunJob.TheVariants as works
use Rattle.vk_event.specs.declared.task.Task.{Task}
use Rattle.vk_pages.specs.Any.{IsAfter, call_by}
use Rattle.vk_pages.specs.Programs.{task_call}
use Rattle.vk_pages.specs.declared.any.AnyProgram.{AnyProgram}
use Rattle.vk_threads.specs.Assigned.{ArePrograms, assignment_of, assignments_of, pid_of, program_task}
use Rattle.vk_threads.specs.Clocks.{may_tick}
use Rattle.vk_threads.specs.Dealt.{AreDealt, AreJobsAt, ArePorts, IsJobAt, IsNewAt, IsPort, IsSpare, IsStocked, IsTaken, pumps_at, runs_by, spare_host}
use Rattle.vk_threads.specs.Duties.{ClockDuty, ProcessDuty}
use Rattle.vk_threads.specs.Ends.{IsAt, port_host}
use Rattle.vk_threads.specs.Ended.{cell_at}
use Rattle.vk_threads.specs.Opened.{count_of, spare_at}

pub count_append : (h : ℕ) (xs ys : List ℕ) → count_of h (xs ++ ys) ≡ count_of h xs + count_of h ys
count_append h [] ys = omega arith
count_append h (x ∷ xs) ys = let rest = count_append h xs ys in omega arith

-- elements in their order
pub take_get : {A : Type 0} (xs : List A) (i : ℕ) (x : A) → slice_get xs i ≡ Some x → take (suc i) xs ≡ take i xs ++ x ∷ []
take_get [] i x found = absurd (none-some x found)
take_get (y ∷ ys) zero x found = ap (λ z. z ∷ []) (same_Some y x found)
take_get (y ∷ ys) (suc i) x found = ap (λ l. y ∷ l) (take_get ys i x found)

pub drop_get : {A : Type 0} (xs : List A) (i : ℕ) (x : A) → slice_get xs i ≡ Some x → drop i xs ≡ x ∷ drop (suc i) xs
drop_get [] i x found = absurd (none-some x found)
drop_get (y ∷ ys) zero x found = ap (λ z. z ∷ ys) (same_Some y x found)
drop_get (y ∷ ys) (suc i) x found = drop_get ys i x found

count_out : (h : ℕ) (s : Spare) (front behind : List Spare)
    → count_of h (map spare_host (front ++ s ∷ behind)) ≡ cond (s.host == h) 1 0 + count_of h (map spare_host (front ++ behind))
count_out h s [] behind = refl
count_out h s (x ∷ xs) behind = let rest = count_out h s xs behind in omega arith

same_rest : (n a b : ℕ) → n + a ≡ n + b → a ≡ b
same_rest n a b e = omega arith

pub taken_on : {A : Type 0} (xs : List A) (i : ℕ) (d : A) → i < length xs → take (i + 1) xs ≡ take i xs ++ get_or xs i d ∷ []
taken_on xs i d low = let one : i + 1 ≡ suc i = omega arith in ap (λ n. take n xs) one ∙ take_get xs i (get_or xs i d) (slice_get-get_or xs i d low)

pub dropped_on : {A : Type 0} (xs : List A) (i : ℕ) (d : A) → i < length xs → drop i xs ≡ get_or xs i d ∷ drop (i + 1) xs
dropped_on xs i d low = let one : suc i ≡ i + 1 = omega arith in
    drop_get xs i (get_or xs i d) (slice_get-get_or xs i d low) ∙ ap (λ n. get_or xs i d ∷ drop n xs) one

no_count : (n h : ℕ) → (n ≡ h → ⊥) → (b : Bool) → (n == h) ≡ b → ◌≡◌ {A = ℕ} (cond b 1 0) 0
no_count n h differs true is = absurd (differs (eqb-true n h is))
no_count n h differs false is = refl

pub none_more : (spares : List Spare) (i host : ℕ) (d : Spare) → i < length spares → count_of host (map spare_host (take i spares)) ≡ 0
    → ((get_or spares i d).host ≡ host → ⊥) → count_of host (map spare_host (take (i + 1) spares)) ≡ 0
none_more spares i host d low none differs =
    let x = get_or spares i d in
    let one : count_of host (x.host ∷ []) ≡ 0 = let zero_one = no_count x.host host differs (x.host == host) refl in omega arith in
    ap (λ l. count_of host (map spare_host l)) (taken_on spares i d low) ∙ ap (count_of host) (map_append spare_host (take i spares) (x ∷ []))
    ∙ count_append host (map spare_host (take i spares)) (x.host ∷ []) ∙ (let both = none in omega arith)

pub count_more : (hosts : List ℕ) (i host count new : ℕ) (b : Bool) → i < length hosts → count ≡ count_of host (take i hosts)
    → (get_or hosts i 0 == host) ≡ b → new ≡ count + cond b 1 0 → new ≡ count_of host (take (i + 1) hosts)
count_more hosts i host count new b low is same grown =
    let x = get_or hosts i 0 in
    let one : count_of host (x ∷ []) ≡ cond b 1 0 + 0 = ap (λ t. cond t 1 0 + 0) same in
    let all : count_of host (take (i + 1) hosts) ≡ count_of host (take i hosts) + count_of host (x ∷ []) =
    ap (count_of host) (taken_on hosts i 0 low) ∙ count_append host (take i hosts) (x ∷ []) in
    omega arith

split_at : {A : Type 0} (xs : List A) (i : ℕ) (x : A) → slice_get xs i ≡ Some x → xs ≡ take i xs ++ x ∷ drop (suc i) xs
split_at [] i x found = absurd (none-some x found)
split_at (y ∷ ys) zero x found = ap (λ z. z ∷ ys) (same_Some y x found)
split_at (y ∷ ys) (suc i) x found = ap (λ l. y ∷ l) (split_at ys i x found)

pub taken_out : (old new shown : List Spare) (i host : ℕ) (s : Spare) → shown ≡ old → i < length shown
    → ((x : Spare) → slice_get shown i ≡ Some x → x.host ≡ host) → s ≡ get_or old i s → new ≡ take i old ++ drop (suc i) old → IsTaken host old s.seat new
taken_out old new shown i host s same low at is left =
    let found : slice_get old i ≡ Some s = slice_get-get_or old i s (subst (λ l. i < length l) same low) ∙ ap Some (sym is) in
    let here : s.host ≡ host = at s (ap (λ l. slice_get l i) same ∙ found) in
    (take i old, drop (suc i) old, split_at old i s found ∙ ap (λ n. take i old ++ spare_at n s.seat ∷ drop (suc i) old) here, left)

-- THE STOCK, once a seat of the station and one of the hub were taken out
module _ (sites : List Site) (hub : Cell HubLog) where
  pub taken_stock : (host : ℕ) (rest : List ℕ) (old new : List Spare) (seat : Sitting StationHistory StationEvent)
      (before after : List (Sitting HubLog HubEvent)) (hub_seat : Sitting HubLog HubEvent) → IsTaken host old seat new → before ≡ after ++ hub_seat ∷ []
      → IsStocked sites hub old before (host ∷ rest) → IsStocked sites hub new after rest
  taken_stock host rest old new seat before after hub_seat taken is stock =
      let front = taken.0 in let behind = taken.1 in
      let all = subst (Each (IsSpare sites)) taken.2 stock.each in
      let at_hub = subst (Each (IsNewAt hub)) is stock.at_hub in
      let others = each_behind (IsSpare sites) front (spare_at host seat ∷ behind) all in
      record {
        each = subst (Each (IsSpare sites)) (sym taken.3) (each_append (IsSpare sites) front behind (each_front (IsSpare sites) front (spare_at host seat ∷ behind) all) others.1);
        counts = λ h. same_rest (cond (host == h) 1 0) (count_of h (map spare_host new)) (count_of h rest)
            (ap (λ l. cond (host == h) 1 0 + count_of h (map spare_host l)) taken.3 ∙ sym (count_out h (spare_at host seat) front behind)
            ∙ ap (λ l. count_of h (map spare_host l)) (sym taken.2) ∙ stock.counts h);
        at_hub = each_front (IsNewAt hub) after (hub_seat ∷ []) at_hub;
        all = let n : length before ≡ length after + 1 = ap length is ∙ length-append after (hub_seat ∷ []) in
            let m : length before ≡ suc (length rest) = stock.all in omega arith;
      }

  pub taken_spare : (host : ℕ) (rest : List ℕ) (old new : List Spare) (seat : Sitting StationHistory StationEvent) (before : List (Sitting HubLog HubEvent))
      → IsTaken host old seat new → IsStocked sites hub old before rest → IsSpare sites (spare_at host seat)
  taken_spare host rest old new seat before taken stock =
      (each_behind (IsSpare sites) taken.0 (spare_at host seat ∷ taken.1) (subst (Each (IsSpare sites)) taken.2 stock.each)).0

  pub taken_hub_seat : (rest : List ℕ) (old : List Spare) (before after : List (Sitting HubLog HubEvent)) (hub_seat : Sitting HubLog HubEvent)
      → before ≡ after ++ hub_seat ∷ [] → IsStocked sites hub old before rest → IsNewAt hub hub_seat
  taken_hub_seat rest old before after hub_seat is stock =
      (each_behind (IsNewAt hub) after (hub_seat ∷ []) (subst (Each (IsNewAt hub)) is stock.at_hub)).0

  -- a port that was made of such seats
  pub port_made : (host : ℕ) (ticks : Bool) (seat : Sitting StationHistory StationEvent) (hub_seat : Sitting HubLog HubEvent) (cell : Cell StationHistory)
      (p : PortValue) → IsSpare sites (spare_at host seat) → IsNewAt hub hub_seat → cell_at sites host ≡ Some cell
      → p ≡ record { host = host; station = cell; hub = hub; seat = seat; hub_seat = hub_seat; ticks = ticks } → IsPort sites hub ticks host p
  port_made host ticks seat hub_seat cell p spare new found is =
      let same : seat ≡ fresh cell spare.number = spare.seat ∙ ap (λ x. fresh x spare.number) (same_Some spare.cell cell (sym spare.there ∙ found)) in
      subst (IsPort sites hub ticks host) (sym is) (record {
        at = refl;
        cell = found;
        at_hub = refl;
        seat = (ap (λ (s : Sitting StationHistory StationEvent). s.table) same, ap (λ (s : Sitting StationHistory StationEvent). s.origin) same);
        hub_seat = (ap (λ (s : Sitting HubLog HubEvent). s.table) new.1, ap (λ (s : Sitting HubLog HubEvent). s.origin) new.1);
        new = ap (λ (s : Sitting StationHistory StationEvent). stand_of (record { host = host; station = cell; hub = hub; seat = s; hub_seat = hub_seat; ticks = ticks })) same
            ∙ ap (λ (s : Sitting HubLog HubEvent). stand_of (record { host = host; station = cell; hub = hub; seat = fresh cell spare.number; hub_seat = s; ticks = ticks })) new.1;
        ticks = refl;
      })

  pub port_push : (ticks : Bool) (hs : List ℕ) (ps : List PortValue) (h : ℕ) (p : PortValue) → ArePorts sites hub ticks hs ps → IsPort sites hub ticks h p
      → ArePorts sites hub ticks (hs ++ h ∷ []) (ps ++ p ∷ [])
  port_push ticks [] [] h p are is = (is, tt)
  port_push ticks [] (q ∷ ps) h p are is = absurd are
  port_push ticks (g ∷ hs) [] h p are is = absurd are
  port_push ticks (g ∷ hs) (q ∷ ps) h p are is = (are.0, port_push ticks hs ps h p are.1 is)

  module _ {G P : Type 0} (task : G → List Answer → Option Call) where
    pub job_push : (ds : List (ℕ × Role)) (ws : List (RunJob G P)) (d : ℕ × Role) (w : RunJob G P) → AreJobsAt task sites hub ds ws
        → IsJobAt task sites hub d w → AreJobsAt task sites hub (ds ++ d ∷ []) (ws ++ w ∷ [])
    job_push [] [] d w are is = (is, tt)
    job_push [] (v ∷ ws) d w are is = absurd are
    job_push (e ∷ ds) [] d w are is = absurd are
    job_push (e ∷ ds) (v ∷ ws) d w are is = (are.0, job_push ds ws d w are.1 is)

-- the stations of programs, and each station twice
pub hosts_all : (hosts programs stations one two : List ℕ) → hosts ≡ programs → one ≡ hosts ++ stations → two ≡ one ++ stations
    → two ≡ programs ++ stations ++ stations
hosts_all hosts programs stations one two same once twice = twice ∙ ap (λ l. l ++ stations) (once ∙ ap (λ l. l ++ stations) same)

pub drop_whole : {A : Type 0} (xs : List A) (i : ℕ) → length xs ≤ i → drop i xs ≡ []
drop_whole [] zero all = refl
drop_whole [] (suc i) all = refl
drop_whole (x ∷ xs) zero all = absurd (omega arith)
drop_whole (x ∷ xs) (suc i) all = drop_whole xs i (omega arith)

-- the cell and the hub of seats that were just made
module _ (sites : List Site) (hub : Cell HubLog) where
  pub spare_cell : (host : ℕ) (seat : Sitting StationHistory StationEvent) (cell : Cell StationHistory) → IsSpare sites (spare_at host seat)
      → cell_at sites host ≡ Some cell → (cell.origin.host ≡ host) × IsSeatOf cell seat
  spare_cell host seat cell spare found =
      let is : spare.cell ≡ cell = same_Some spare.cell cell (sym spare.there ∙ found) in
      let same : seat ≡ fresh cell spare.number = spare.seat ∙ ap (λ x. fresh x spare.number) is in (
        ap (λ (x : Cell StationHistory). x.origin.host) (sym is) ∙ spare.of,
        (ap (λ (s : Sitting StationHistory StationEvent). s.table) same, ap (λ (s : Sitting StationHistory StationEvent). s.origin) same),
      )

  pub new_seat : (seat : Sitting HubLog HubEvent) → IsNewAt hub seat → IsSeatOf hub seat
  new_seat seat new = (ap (λ (s : Sitting HubLog HubEvent). s.table) new.1, ap (λ (s : Sitting HubLog HubEvent). s.origin) new.1)

  pub ports_at_hub : (ticks : Bool) (hs : List ℕ) (ps : List PortValue) → ArePorts sites hub ticks hs ps → Each (IsAt hub) ps
  ports_at_hub ticks [] [] are = tt
  ports_at_hub ticks [] (p ∷ ps) are = absurd are
  ports_at_hub ticks (h ∷ hs) [] are = absurd are
  ports_at_hub ticks (h ∷ hs) (p ∷ ps) are = (are.0.at_hub, ports_at_hub ticks hs ps are.1)

  pub ports_may : (hs : List ℕ) (ps : List PortValue) → ArePorts sites hub true hs ps → Each may_tick ps
  ports_may [] [] are = tt
  ports_may [] (p ∷ ps) are = absurd are
  ports_may (h ∷ hs) [] are = absurd are
  ports_may (h ∷ hs) (p ∷ ps) are = (are.0.ticks, ports_may hs ps are.1)

  pub ports_hosts : (hs : List ℕ) (ps : List PortValue) → ArePorts sites hub true hs ps → map port_host ps ≡ hs
  ports_hosts [] [] are = refl
  ports_hosts [] (p ∷ ps) are = absurd are
  ports_hosts (h ∷ hs) [] are = absurd are
  ports_hosts (h ∷ hs) (p ∷ ps) are = ap (λ n. n ∷ map port_host ps) are.0.at ∙ ap (λ l. h ∷ l) (ports_hosts hs ps are.1)

pub due_by : (sites sites2 : List Site) (hub hub2 : Cell HubLog) (spares : List Spare) (seats : List (Sitting HubLog HubEvent)) (hosts shown rest : List ℕ)
    → sites2 ≡ sites → hub2 ≡ hub → shown ≡ hosts → IsStocked sites hub spares seats (hosts ++ rest) → IsStocked sites2 hub2 spares seats (shown ++ rest)
due_by sites sites2 hub hub2 spares seats hosts shown rest one two same stock =
    subst (λ l. IsStocked l hub2 spares seats (shown ++ rest)) (sym one) (subst (λ h. IsStocked sites h spares seats (shown ++ rest)) (sym two)
    (subst (λ l. IsStocked sites hub spares seats (l ++ rest)) (sym same) stock))

pub ports_by : (sites sites2 : List Site) (hub hub2 : Cell HubLog) (ps : List PortValue) (hosts shown : List ℕ)
    → sites2 ≡ sites → hub2 ≡ hub → shown ≡ hosts → ArePorts sites2 hub2 true shown ps → ArePorts sites hub true hosts ps
ports_by sites sites2 hub hub2 ps hosts shown one two same are =
    subst (λ l. ArePorts l hub true hosts ps) one (subst (λ h. ArePorts sites2 h true hosts ps) two (subst (λ l. ArePorts sites2 hub2 true l ps) same are))

module _ {G P : Type 0} (task : G → List Answer → Option Call) where
  pub jobs_by : (sites sites2 : List Site) (hub hub2 : Cell HubLog) (ds : List (ℕ × Role)) (ws : List (RunJob G P)) → sites2 ≡ sites → hub2 ≡ hub
      → AreJobsAt task sites hub ds ws → AreJobsAt task sites2 hub2 ds ws
  jobs_by sites sites2 hub hub2 ds ws one two are =
      subst (λ l. AreJobsAt task l hub2 ds ws) (sym one) (subst (λ h. AreJobsAt task sites h ds ws) (sym two) are)

  pub jobs_dealt : (sites : List Site) (hub : Cell HubLog) (programs : List (Assigned G)) (stations shown : List ℕ) (rounds : ℕ) (first jobs : List (RunJob G P))
      (ports : List PortValue) (clock : ClockDuty) → jobs ≡ first ++ works.Clock clock ∷ [] → shown ≡ stations
      → AreJobsAt task sites hub (map (runs_by task) programs ++ map pumps_at shown) first → ArePorts sites hub true stations ports
      → clock ≡ record { ports = ports; rounds = rounds } → AreDealt task sites hub programs stations rounds jobs
  jobs_dealt sites hub programs stations shown rounds first jobs ports clock all same each are is = record {
    first = first;
    clock = clock;
    all = all;
    each = subst (λ l. AreJobsAt task sites hub (map (runs_by task) programs ++ map pumps_at l) first) same each;
    ports = subst (ArePorts sites hub true stations) (sym (ap (λ (d : ClockDuty). d.ports) is)) are;
    so_many = ap (λ (d : ClockDuty). d.rounds) is;
  }

-- one port more, and one station's seats less
pub ports_more : (sites sites2 : List Site) (hub hub2 : Cell HubLog) (hosts : List ℕ) (i : ℕ) (ports new : List PortValue) (p : PortValue)
    → sites2 ≡ sites → hub2 ≡ hub → i < length hosts → new ≡ ports ++ p ∷ [] → ArePorts sites hub true (take i hosts) ports
    → IsPort sites2 hub2 true (get_or hosts i 0) p → ArePorts sites hub true (take (i + 1) hosts) new
ports_more sites sites2 hub hub2 hosts i ports new p one two low is are port =
    subst (λ l. ArePorts sites hub true l new) (sym (taken_on hosts i 0 low))
    (subst (ArePorts sites hub true (take i hosts ++ get_or hosts i 0 ∷ [])) (sym is)
    (port_push sites hub true (take i hosts) ports (get_or hosts i 0) p are
    (subst (λ l. IsPort l hub true (get_or hosts i 0) p) one (subst (λ h. IsPort sites2 h true (get_or hosts i 0) p) two port))))

pub stock_more : (sites sites2 : List Site) (hub hub2 : Cell HubLog) (old new : List Spare) (before after : List (Sitting HubLog HubEvent))
    (hosts rest : List ℕ) (i : ℕ) → sites2 ≡ sites → hub2 ≡ hub → i < length hosts → IsStocked sites hub old before (drop i hosts ++ rest)
    → ((r : List ℕ) → IsStocked sites2 hub2 old before (get_or hosts i 0 ∷ r) → IsStocked sites2 hub2 new after r)
    → IsStocked sites hub new after (drop (i + 1) hosts ++ rest)
stock_more sites sites2 hub hub2 old new before after hosts rest i one two low stock goes =
    let more = drop (i + 1) hosts ++ rest in
    let first = subst (λ l. IsStocked sites hub old before (l ++ rest)) (dropped_on hosts i 0 low) stock in
    let there = subst (λ l. IsStocked l hub2 old before (get_or hosts i 0 ∷ more)) (sym one)
    (subst (λ h. IsStocked sites h old before (get_or hosts i 0 ∷ more)) (sym two) first) in
    subst (λ l. IsStocked l hub new after more) one (subst (λ h. IsStocked sites2 h new after more) two (goes more there))

pub port_as : (sites sites2 : List Site) (hub hub2 : Cell HubLog) (h : ℕ) (p : PortValue) → sites2 ≡ sites → hub2 ≡ hub
    → IsPort sites2 hub2 false h p → IsPort sites hub false h p
port_as sites sites2 hub hub2 h p one two port = subst (λ l. IsPort l hub false h p) one (subst (λ x. IsPort sites2 x false h p) two port)

-- the next of these stations, where there are seats for them in turn
pub stock_next : (sites sites2 : List Site) (hub hub2 : Cell HubLog) (old new : List Spare) (before after : List (Sitting HubLog HubEvent))
    (h : ℕ) (more all : List ℕ) → sites2 ≡ sites → hub2 ≡ hub → all ≡ h ∷ more → IsStocked sites hub old before all
    → ((r : List ℕ) → IsStocked sites2 hub2 old before (h ∷ r) → IsStocked sites2 hub2 new after r) → IsStocked sites hub new after more
stock_next sites sites2 hub hub2 old new before after h more all one two is stock goes =
    let first = subst (IsStocked sites hub old before) is stock in
    let there = subst (λ l. IsStocked l hub2 old before (h ∷ more)) (sym one) (subst (λ x. IsStocked sites x old before (h ∷ more)) (sym two) first) in
    subst (λ l. IsStocked l hub new after more) one (subst (λ x. IsStocked sites2 x new after more) two (goes more there))

-- one job more
module _ {G P : Type 0} (task : G → List Answer → Option Call) (sites sites2 : List Site) (hub hub2 : Cell HubLog) (ds : List (ℕ × Role))
    (jobs new : List (RunJob G P)) (port : PortValue) (one : sites2 ≡ sites) (two : hub2 ≡ hub) where
  pub program_job : (yielded : List (Assigned G)) (a : Assigned G) (duty : ProcessDuty G) → duty ≡ record { port = port; pid = a.pid; program = a.program }
      → new ≡ jobs ++ works.Process duty ∷ [] → IsPort sites2 hub2 false a.pid.host port
      → AreJobsAt task sites hub (ds ++ map (runs_by task) yielded) jobs → AreJobsAt task sites hub (ds ++ map (runs_by task) (yielded ++ a ∷ [])) new
  program_job yielded a duty is grown here are =
      let job : IsJobAt {G = G} {P = P} task sites hub (runs_by task a) (works.Process duty) = record {
        port = port;
        ports = ap (λ (d : ProcessDuty G). d.port ∷ []) is;
        roles = ap (λ (d : ProcessDuty G). Runs d.pid (task d.program) ∷ []) is;
        is = port_as sites sites2 hub hub2 a.pid.host port one two here;
      } in
      let same : (ds ++ map (runs_by task) yielded) ++ runs_by task a ∷ [] ≡ ds ++ map (runs_by task) (yielded ++ a ∷ []) =
      append_assoc ds (map (runs_by task) yielded) (runs_by task a ∷ []) ∙ ap (λ l. ds ++ l) (sym (map_append (runs_by task) yielded (a ∷ []))) in
      subst (λ l. AreJobsAt task sites hub l new) same
      (subst (AreJobsAt task sites hub ((ds ++ map (runs_by task) yielded) ++ runs_by task a ∷ [])) (sym grown)
      (job_push sites hub task (ds ++ map (runs_by task) yielded) jobs (runs_by task a) (works.Process duty) are job))

  pub pump_job : (stations : List ℕ) (i : ℕ) (w : PortValue) → i < length stations → w ≡ port → new ≡ jobs ++ works.Pump w ∷ []
      → IsPort sites2 hub2 false (get_or stations i 0) port → AreJobsAt task sites hub (ds ++ map pumps_at (take i stations)) jobs
      → AreJobsAt task sites hub (ds ++ map pumps_at (take (i + 1) stations)) new
  pump_job stations i w low is grown here are =
      let h = get_or stations i 0 in
      let job : IsJobAt {G = G} {P = P} task sites hub (pumps_at h) (works.Pump w) = record {
        port = port;
        ports = ap (λ q. q ∷ []) is;
        roles = refl;
        is = port_as sites sites2 hub hub2 h port one two here;
      } in
      let same : (ds ++ map pumps_at (take i stations)) ++ pumps_at h ∷ [] ≡ ds ++ map pumps_at (take (i + 1) stations) =
      append_assoc ds (map pumps_at (take i stations)) (pumps_at h ∷ [])
      ∙ ap (λ l. ds ++ l) (sym (map_append pumps_at (take i stations) (h ∷ [])) ∙ ap (map pumps_at) (sym (taken_on stations i 0 low))) in
      subst (λ l. AreJobsAt task sites hub l new) same
      (subst (AreJobsAt task sites hub ((ds ++ map pumps_at (take i stations)) ++ pumps_at h ∷ [])) (sym grown)
      (job_push sites hub task (ds ++ map pumps_at (take i stations)) jobs (pumps_at h) (works.Pump w) are job))

abbrev pub task_pid : Task → Pid
task_pid t = t.pid

-- one program more
pub program_push : (ts : List Task) (others : List (Assigned AnyProgram)) (t : Task) (a : Assigned AnyProgram) → ArePrograms ts others
    → (a.pid ≡ t.pid) → (call_by a.program ≡ task_call t) → IsAfter a.program [] → ArePrograms (ts ++ t ∷ []) (others ++ a ∷ [])
program_push [] [] t a are pid task after = (pid, task, after, tt)
program_push [] (b ∷ others) t a are pid task after = absurd are
program_push (u ∷ ts) [] t a are pid task after = absurd are
program_push (u ∷ ts) (b ∷ others) t a are pid task after = (are.0, are.1, are.2, program_push ts others t a are.3 pid task after)

pub programs_on : (ts : List Task) (i : ℕ) (t : Task) (a : Assigned AnyProgram) (others grown : List (Assigned AnyProgram)) → i < length ts → t ≡ get_or ts i t
    → ArePrograms (take i ts) others → (a.pid ≡ t.pid) → (call_by a.program ≡ task_call t) → IsAfter a.program [] → grown ≡ others ++ a ∷ []
    → ArePrograms (take (i + 1) ts) grown
programs_on ts i t a others grown low here are pid task after is =
    let one : suc i ≡ i + 1 = omega arith in
    let found : slice_get ts i ≡ Some t = slice_get-get_or ts i t low ∙ ap Some (sym here) in
    subst (ArePrograms (take (i + 1) ts)) (sym is)
    (subst (λ n. ArePrograms (take n ts) (others ++ a ∷ [])) one
    (subst (λ l. ArePrograms l (others ++ a ∷ [])) (sym (take_get ts i t found)) (program_push (take i ts) others t a are pid task after)))

pub programs_pids : (ts : List Task) (others : List (Assigned AnyProgram)) → ArePrograms ts others → map pid_of others ≡ map task_pid ts
programs_pids [] [] are = refl
programs_pids [] (b ∷ others) are = absurd are
programs_pids (u ∷ ts) [] are = absurd are
programs_pids (u ∷ ts) (b ∷ others) are = ap (λ p. p ∷ map pid_of others) are.0 ∙ ap (λ l. u.pid ∷ l) (programs_pids ts others are.3)

pub programs_tasks : (ts : List Task) (others : List (Assigned AnyProgram)) → ArePrograms ts others → map (program_task call_by) others ≡ assignments_of ts
programs_tasks [] [] are = refl
programs_tasks [] (b ∷ others) are = absurd are
programs_tasks (u ∷ ts) [] are = absurd are
programs_tasks (u ∷ ts) (b ∷ others) are =
    ap (λ (p : Pid). (record { pid = p; task = call_by b.program }) ∷ map (program_task call_by) others) are.0
    ∙ ap (λ (f : List Answer → Option Call). (record { pid = u.pid; task = f }) ∷ map (program_task call_by) others) are.1
    ∙ ap (λ l. assignment_of u ∷ l) (programs_tasks ts others are.3)

pub programs_fresh : (ts : List Task) (others : List (Assigned AnyProgram)) → ArePrograms ts others → Each (λ (a : Assigned AnyProgram). IsAfter a.program []) others
programs_fresh [] [] are = tt
programs_fresh [] (b ∷ others) are = absurd are
programs_fresh (u ∷ ts) [] are = absurd are
programs_fresh (u ∷ ts) (b ∷ others) are = (are.2, programs_fresh ts others are.3)

pub programs_count : (ts : List Task) (others : List (Assigned AnyProgram)) → ArePrograms ts others → length others ≡ length ts
programs_count [] [] are = refl
programs_count [] (b ∷ others) are = absurd are
programs_count (u ∷ ts) [] are = absurd are
programs_count (u ∷ ts) (b ∷ others) are = ap suc (programs_count ts others are.3)

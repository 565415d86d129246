-- The logs of closed histories: their entries are those of the histories, they are as a join asks, and they keep to its limits.
use Rattle.std.proofs.Common.{◌≡◌, ℕ, ◌*◌, ◌/◌, ◌<◌, ◌≤◌, ◌==◌, ◌&&◌, eqb-true, eq-eqb, Bool, true, false, List, [], ◌∷◌, length, map, refl, sym, ap, ◌∙◌, subst, arith}
use Rattle.std.specs.Prelude.{sum_by}
use Rattle.std.proofs.Math.Nat.{mul-div-le}
use Rattle.std.proofs.lemmas.Bool.{and_parts, cond-true, cond-false}
use Rattle.std.proofs.lemmas.List.{length-map}
use Rattle.std.proofs.lemmas.List.Sums.{sum_by-cons}
use native.Mathlib.Nat.{add-mul, one-mul}
use Rattle.vk_types.specs.Types.{Pid, StationEvent}
use Rattle.vk_base.specs.declared.event.StationEvent.TheVariants as events
use Rattle.vk_base.specs.declared.limits.TheConstants.{EVENTS}
use Rattle.vk_base.specs.Settings.{AreLawful, Settings, has_process, has_station, stations_of}
use Rattle.vk_cluster.specs.declared.frames.TheConstants.{MOST_BYTES}
use Rattle.vk_host.specs.Values.{input_of}
use Rattle.vk_schedule.specs.declared.log.StationLog.{StationLog}
use Rattle.vk_join.specs.Logs.{AreLogs, HostsRise, IsOfStation, byte_count, bytes_in, entries_behind, entries_for, event_count, events_at}
use Rattle.vk_join.specs.Logs as joined
use Rattle.vk_port.specs.Stations.{StationHistory, emitted_bytes, entries_at, entries_from, event_of, is_own, most_entries, share_of_bytes}
use Rattle.vk_port.specs.declared.station.TheConstants.{EMITTED_BYTES}
use Rattle.vk_rules.specs.Each.{Each}
use Rattle.vk_rules.specs.Entries.{Entry}
use Rattle.vk_rules.specs.Right.{entry_of}
use Rattle.vk_rules.proofs.Lists.{each_with}
use Rattle.v_run.specs.Laws.{AreLogsOf, LogsMayBeJoined, closed_station, host_in}
use Rattle.v_run.specs.Passages.{fresh_station}
use Rattle.v_run.proofs.Seldom.{each_station}
use Rattle.v_run.proofs.Stations.{Ascend, hosts_rise, stations_rise}

-- A log holds the events that its host has in the logs.
same_events : (l : StationLog) (ls : List StationLog) → l.events ≡ events_at (l ∷ ls) l.host
same_events l ls = sym (cond-true (l.host == l.host) l.events (events_at ls l.host) (eq-eqb l.host l.host refl))

apart_by : (h k : ℕ) → h < k → (b : Bool) → (h == k) ≡ b → b ≡ false
apart_by h k low true is = let same = eqb-true h k is in absurd (omega arith)
apart_by h k low false is = refl

behind_first : (l : StationLog) (ls ms : List StationLog) → Each (λ (m : StationLog). l.host < m.host) ms
    → Each (λ (m : StationLog). m.events ≡ events_at ls m.host) ms → Each (λ (m : StationLog). m.events ≡ events_at (l ∷ ls) m.host) ms
behind_first l ls [] low each = tt
behind_first l ls (m ∷ ms) low each = (
  each.0 ∙ sym (cond-false (l.host == m.host) l.events (events_at ls m.host) (apart_by l.host m.host low.0 (l.host == m.host) refl)),
  behind_first l ls ms low.1 each.1,
)

pub own_events : (ls : List StationLog) → HostsRise ls → Each (λ (l : StationLog). l.events ≡ events_at ls l.host) ls
own_events [] rise = tt
own_events (l ∷ ls) rise = (same_events l ls, behind_first l ls ls rise.0 (own_events ls rise.1))

-- what holds of the hosts
of_hosts : (P : ℕ → Type 0) (ls : List StationLog) → Each P (map host_in ls) → Each (λ (l : StationLog). P l.host) ls
of_hosts P [] each = tt
of_hosts P (l ∷ ls) each = (each.0, of_hosts P ls each.1)

-- The same entries.
pub behind_is : (c : Settings) (h : ℕ) (es : List Entry) (xs : List StationEvent)
    → entries_behind c h es (map input_of xs) ≡ entries_from c h es xs
behind_is c h es [] = refl
behind_is c h es (x ∷ xs) = behind_is c h (entry_of c h es (input_of x) ∷ es) xs

of_station_by : (o : StationHistory) (pid : Pid) → (has_process o.config.specs pid && (pid.host == o.host)) ≡ true
    → (pid.host ≡ o.host) × (has_process o.config.specs pid ≡ true)
of_station_by o pid own =
    let parts = and_parts (has_process o.config.specs pid) (pid.host == o.host) own in (eqb-true pid.host o.host parts.1, parts.0)

of_station : (o : StationHistory) (e : StationEvent) → is_own o e ≡ true → IsOfStation o.config.specs o.host e
of_station o (events.Call pid call) own = of_station_by o pid own
of_station o (events.Collect pid) own = of_station_by o pid own
of_station o events.Tick own = tt
of_station o (events.Deliver frame) own = tt

pub all_of_station : (o : StationHistory) (xs : List (ℕ × StationEvent)) → Each (λ (x : ℕ × StationEvent). is_own o x.1 ≡ true) xs
    → Each (IsOfStation o.config.specs o.host) (map event_of xs)
all_of_station o [] own = tt
all_of_station o (x ∷ xs) own = (of_station o x.1 own.0, all_of_station o xs own.1)

module _ (c : Settings) (histories : ℕ → List (ℕ × StationEvent)) (logs : List StationLog) (are : AreLogsOf c histories logs) where
  pub entries_are : (h : ℕ) → joined.entries_at c logs h ≡ entries_at (fresh_station c h) (histories h)
  entries_are h = ap (entries_for c h) (are.events h) ∙ behind_is c h [] (map event_of (histories h))

  -- of each log
  pub of_stations : (P : ℕ → Type 0) → ((h : ℕ) → has_station c.specs h ≡ true → P h) → Each (λ (l : StationLog). P l.host) logs
  of_stations P all = of_hosts P logs (subst (Each P) (sym are.hosts) (each_station P c all))

  module _ (lawful : AreLawful c) where
    rise : HostsRise logs
    rise = hosts_rise logs (subst Ascend (sym are.hosts) (stations_rise c lawful))

    pub may_be_joined : AreLogs c logs
    may_be_joined = record {
      rise = rise;
      stations = of_stations (λ h. has_station c.specs h ≡ true) (λ h there. there);
      own = each_with (λ (l : StationLog). Each (IsOfStation c.specs l.host) (events_at logs l.host))
          (λ (l : StationLog). l.events ≡ events_at logs l.host) (λ (l : StationLog). Each (IsOfStation c.specs l.host) l.events) logs
          (λ l all same. subst (Each (IsOfStation c.specs l.host)) (sym same) all)
          (of_stations (λ h. Each (IsOfStation c.specs h) (events_at logs h))
          (λ h there. subst (Each (IsOfStation c.specs h)) (sym (are.events h))
          (all_of_station (closed_station c h (histories h)) (histories h) (are.lawful h there).own)))
          (own_events logs rise);
    }

    -- Limits: each station has its share, and all shares together are no more than there may be.
    shares : (f : StationLog → ℕ) (most : ℕ) (ls : List StationLog) → Each (λ (l : StationLog). f l ≤ most) ls
        → sum_by f ls ≤ length ls * most
    shares f most [] each = omega arith
    shares f most (l ∷ ls) each =
        let one = each.0 in
        let rest = shares f most ls each.1 in
        omega (arith, sum_by-cons f l ls, add-mul 1 (length ls) most, one-mul most)

    all_shares : (f : StationLog → ℕ) (all : ℕ) → Each (λ (l : StationLog). f l ≤ all / length (stations_of c.specs)) logs
        → sum_by f logs ≤ all
    all_shares f all each =
        let count : length logs ≡ length (stations_of c.specs) = sym (length-map logs host_in) ∙ ap length are.hosts in
        let few = shares f (all / length (stations_of c.specs)) logs each in
        let most = mul-div-le all (length (stations_of c.specs)) in
        let same : length logs * (all / length (stations_of c.specs))
        ≡ length (stations_of c.specs) * (all / length (stations_of c.specs)) =
        ap (λ n. n * (all / length (stations_of c.specs))) count in
        omega arith

    pub few_events : event_count logs ≤ EVENTS
    few_events =
        all_shares (λ (l : StationLog). length l.events) EVENTS
        (each_with (λ (l : StationLog). length (events_at logs l.host) ≤ most_entries c) (λ (l : StationLog). l.events ≡ events_at logs l.host)
        (λ (l : StationLog). length l.events ≤ most_entries c) logs
        (λ l few same. subst (λ (es : List StationEvent). length es ≤ most_entries c) (sym same) few)
        (of_stations (λ h. length (events_at logs h) ≤ most_entries c)
        (λ h there.
        let size : length (events_at logs h) ≡ length (histories h) = ap length (are.events h) ∙ length-map (histories h) event_of in
        let few = (are.lawful h there).entries in
        subst (λ n. n ≤ most_entries c) (sym size) few))
        (own_events logs rise))

    pub few_bytes : byte_count c logs ≤ MOST_BYTES
    few_bytes =
        all_shares (λ (l : StationLog). bytes_in (entries_for c l.host l.events)) EMITTED_BYTES
        (each_with (λ (l : StationLog). bytes_in (entries_for c l.host (events_at logs l.host)) ≤ share_of_bytes c)
        (λ (l : StationLog). l.events ≡ events_at logs l.host)
        (λ (l : StationLog). bytes_in (entries_for c l.host l.events) ≤ share_of_bytes c) logs
        (λ l few same. subst (λ (es : List StationEvent). bytes_in (entries_for c l.host es) ≤ share_of_bytes c) (sym same) few)
        (of_stations (λ h. bytes_in (entries_for c h (events_at logs h)) ≤ share_of_bytes c)
        (λ h there.
        let few : emitted_bytes (entries_at (closed_station c h (histories h)) (histories h)) ≤ share_of_bytes c =
        (are.lawful h there).bytes in
        subst (λ (es : List Entry). bytes_in es ≤ share_of_bytes c) (sym (entries_are h)) few))
        (own_events logs rise))

pub logs_may_be_joined : LogsMayBeJoined
logs_may_be_joined c histories logs lawful are = may_be_joined c histories logs are lawful

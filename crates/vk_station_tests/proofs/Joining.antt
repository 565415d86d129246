-- Logs that are such as can be joined, and the schedule that they are joined to.
use Rattle.std.proofs.Common.{◌≡◌, ℕ, ◌+◌, ◌<◌, ◌≤◌, List, [], ◌∷◌, ◌++◌, get_or, length, take, sym, ap, subst, ◌∙◌, arith}
use Rattle.std.proofs.lemmas.List.{take_all, take_more}
use Rattle.vk_types.specs.Types.{ProcessSpec}
use Rattle.vk_base.specs.Settings.{Settings}
use Rattle.vk_schedule.specs.declared.log.StationLog.{StationLog}
use Rattle.vk_join.specs.Logs.{AreLogs, HostsRise}
use Rattle.vk_rules.specs.Each.{Each}
use Rattle.vk_rules.proofs.Lists.{each_append, each_weaker}
use Rattle.vk_station_tests.specs.Logs.{IsLogOf}

-- One more of a list.

rise_behind : (ls : List StationLog) (l : StationLog) → HostsRise ls → Each (λ (m : StationLog). m.host < l.host) ls → HostsRise (ls ++ l ∷ [])
rise_behind [] l rise below = (tt, tt)
rise_behind (m ∷ ms) l rise below =
    (each_append (λ (x : StationLog). m.host < x.host) ms (l ∷ []) rise.0 (below.0, tt), rise_behind ms l rise.1 below.1)

-- These logs are such as can be joined, and none has a greater number than this.
pub record AreLogsTo (specs : List ProcessSpec) (ls : List StationLog) (last : ℕ) : Type 0 where
  pub rise : HostsRise ls
  pub below : Each (λ (l : StationLog). l.host ≤ last) ls
  pub each : Each (IsLogOf specs) ls

pub log_more : (specs : List ProcessSpec) (ls : List StationLog) (n last : ℕ) (l : StationLog) → n < length ls → l ≡ get_or ls n l →
    last < l.host → IsLogOf specs l → AreLogsTo specs (take n ls) last → AreLogsTo specs (take (n + 1) ls) l.host
log_more specs ls n last l low is above one are =
    let next : take (n + 1) ls ≡ take n ls ++ l ∷ [] = take_more ls n l low ∙ ap (λ y. take n ls ++ y ∷ []) (sym is) in
    subst (λ xs. AreLogsTo specs xs l.host) (sym next) (record {
      rise = rise_behind (take n ls) l are.rise
          (each_weaker (λ (m : StationLog). m.host ≤ last) (λ (m : StationLog). m.host < l.host) (take n ls) are.below (λ m b. omega arith));
      below = each_append (λ (m : StationLog). m.host ≤ l.host) (take n ls) (l ∷ [])
          (each_weaker (λ (m : StationLog). m.host ≤ last) (λ (m : StationLog). m.host ≤ l.host) (take n ls) are.below (λ m b. omega arith))
          (omega arith, tt);
      each = each_append (IsLogOf specs) (take n ls) (l ∷ []) are.each (one, tt);
    })

pub logs_are : (c : Settings) (ls : List StationLog) (n last : ℕ) → length ls ≤ n → AreLogsTo c.specs (take n ls) last → AreLogs c ls
logs_are c ls n last all are =
    let whole : AreLogsTo c.specs ls last = subst (λ xs. AreLogsTo c.specs xs last) (take_all n ls all) are in
    record {
      rise = whole.rise;
      stations = each_weaker (IsLogOf c.specs) _ ls whole.each (λ l is. is.station);
      own = each_weaker (IsLogOf c.specs) _ ls whole.each (λ l is. is.own);
    }

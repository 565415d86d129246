-- A cluster before the first event.
use Rattle.std.proofs.Common.{◌≡◌, ℕ, zero, suc, List, [], ◌∷◌, length, map, replicate, refl, sym, ap, subst, ◌∙◌, lit≤}
use Rattle.vk_types.specs.Types.{ProcessSpec}
use Rattle.vk_base.specs.Pids.{IsPid}
use Rattle.vk_base.specs.Settings.{AreLawful, Settings, stations_of}
use Rattle.vk_rules.specs.Each.{Each}
use Rattle.vk_rules.specs.Histories.{no_entries}
unfoldable use Rattle.vk_rules.specs.Histories.{history, logs_from}
use Rattle.v_lawful.proofs.Entries.{none_sent}
use Rattle.vk_host.specs.Values.{StationValue}
use Rattle.vk_cluster.specs.Found.{sealed_events}
use Rattle.vk_cluster.specs.Piles.{IsSpanWithin, Pile, spanned}
use Rattle.vk_cluster.specs.Standing.{AreAt, AreHosts, StandsFor}

none_within : (n : ℕ) → Each (Each (IsSpanWithin 0)) (replicate n [])
none_within zero = tt
none_within (suc n) = (tt, none_within n)

none_shown : (frames : List (List ℕ)) (hosts : List ℕ) →
    map (map (spanned frames)) (replicate (length hosts) []) ≡ map (λ host. sealed_events []) hosts
none_shown frames [] = refl
none_shown frames (h ∷ hs) = ap (λ l. [] ∷ l) (none_shown frames hs)

no_frames : ℕ → Pile
no_frames n = record { bytes = []; frames = []; events = replicate n [] }

first_at : (c : Settings) (hosts : List StationValue) → AreHosts c hosts (stations_of c.specs) →
    AreAt c no_entries hosts (no_frames (length (stations_of c.specs)))
unfolding no_frames
first_at c hosts are = record {
  order = are.order;
  at = are.at;
  newest = λ place s is. tt;
  kept = none_within (length (stations_of c.specs));
  emitted = none_shown [] (stations_of c.specs);
  sent = λ host. tt;
  fitting = λ host. (none_sent c host).fitting;
}

pub begins : (c copy : Settings) (hosts : List StationValue) (pile : Pile) (n : ℕ) → copy ≡ c →
    AreLawful c →
    Each (λ (s : ProcessSpec). IsPid s.pid) c.specs → AreHosts c hosts (stations_of c.specs) → n ≡ length (stations_of c.specs) →
    pile ≡ record { bytes = []; frames = []; events = replicate n [] } →
    StandsFor c [] (record { config = copy; hosts = hosts; pile = pile; events = 0 })
unfolding no_frames history logs_from
begins c copy hosts pile n same lawful pids are count is =
    let pile_is : no_frames (length (stations_of c.specs)) ≡ pile = sym (is ∙ ap no_frames count) in
    record {
      config = same;
      lawful = lawful;
      pids = pids;
      stands = subst (AreAt c no_entries hosts) pile_is (first_at c hosts are);
      bytes = ap (λ (p : Pile). length p.bytes) is;
      events = refl;
      few = lit≤ tt;
      processes = tt;
    }

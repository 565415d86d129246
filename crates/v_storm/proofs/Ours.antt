-- The four processes.
use Rattle.std.proofs.Common.{◌≡◌, true, false, List, [], ◌∷◌, refl, subst, inl, inr, arith}
use Rattle.std.proofs.lemmas.Bool.{both_ways, or_cases}
use Rattle.vk_types.specs.Types.{Pid, ProcessSpec}
use Rattle.vk_base.specs.Pids.{IsPid}
use Rattle.vk_base.specs.Settings.{has_process, has_station, is_process}
use Rattle.v_laws.proofs.Tables.{same_pid_is}
use Rattle.vk_drive.specs.Tasks.{specs}
use Rattle.vk_rules.specs.Each.{Each}
use Rattle.v_storm.proofs.Views.{IsOurs}

-- what holds of each process of a list
found_in : (P : Pid → Type 0) (ss : List ProcessSpec) (pid : Pid) → Each (λ (s : ProcessSpec). P s.pid) ss → has_process ss pid ≡ true →
    P pid
found_in P [] pid each t = absurd (both_ways false refl t)
found_in P (s ∷ ss) pid each t = elim (or_cases (is_process pid s) (has_process ss pid) t) [
  | inl here ↦ subst P (same_pid_is s.pid pid here) each.0
  | inr rest ↦ found_in P ss pid each.1 rest
]

pub ours_are : (P : Pid → Type 0) (pid : Pid) → Each (λ (s : ProcessSpec). P s.pid) specs → IsOurs pid → P pid
ours_are P pid each ours = found_in P specs pid each ours

pub our_station : (pid : Pid) → IsOurs pid → has_station specs pid.host ≡ true
our_station pid ours = ours_are (λ q. has_station specs q.host ≡ true) pid (refl, (refl, (refl, (refl, tt)))) ours

pub our_pid : (pid : Pid) → IsOurs pid → IsPid pid
our_pid pid ours = ours_are IsPid pid (omega arith, (omega arith, (omega arith, (omega arith, tt)))) ours

-- The kernel after a change of one process.
use Rattle.std.proofs.Common.{◌≡◌, ℕ, zero, suc, ◌+◌, ◌<◌, ◌≤◌, List, [], ◌∷◌, ◌++◌, arith, add-one, length-append, length, get_or, set, refl, ap, sym, ◌∙◌, Some, option_map}
use Rattle.std.proofs.lemmas.Option.{same_Some, slice_get-get_or}
use Rattle.vk_types.specs.Types.{Exchange, Lookup, Name, Pid, Process, Registration}
use Rattle.vk_base.specs.Kernel.{name_of, put_process, put_exchange}
use Rattle.v_machine.specs.declared.tables.proc.Proc.{Proc}
use Rattle.v_machine.specs.Lists.{change_numbered}
use Rattle.v_machine.specs.Places.{place_in, list_at, count_at, numbered}
use Rattle.v_machine.specs.Tables.{process_of, procs_by, exchanges_by, kernel_by}
use Rattle.v_machine.proofs.PlaceLemmas.{at_place_is, some_at}
use Rattle.v_machine.proofs.TableLemmas.{procs_is, procs-put, procs-even, exchanges_is, exchanges-put, count_is, count-set_same, count-set_other, count-set_even, length-even, length-change, numbered-push, numbered-push_other, numbered-change, numbered-change_other}

module _ (pids : List Pid) (procs : List Proc) (sends : List (List Exchange)) (asked : List (List Lookup)) where
  -- what stands at the place of a process is that process
  pub proc_there : (pid : Pid) (at : ℕ) (x : Proc) → place_in pids pid ≡ Some at → at < length procs → x ≡ get_or procs at x →
      procs_by pids procs sends asked pid ≡ Some (process_of x (count_at sends at) (count_at asked at))
  proc_there pid at x is low there =
      procs_is pids procs sends sends asked asked pid at x is (slice_get-get_or procs at x low ∙ ap Some (sym there))

  pub proc_is : (pid : Pid) (at : ℕ) (x : Proc) (p : Process) → place_in pids pid ≡ Some at → at < length procs → x ≡ get_or procs at x →
      procs_by pids procs sends asked pid ≡ Some p → process_of x (count_at sends at) (count_at asked at) ≡ p
  proc_is pid at x p is low there at_pid =
      same_Some (process_of x (count_at sends at) (count_at asked at)) p (sym (proc_there pid at x is low there) ∙ at_pid)

  pub memory_is : (pid : Pid) (at : ℕ) (x : Proc) (p : Process) → place_in pids pid ≡ Some at → at < length procs → x ≡ get_or procs at x →
      procs_by pids procs sends asked pid ≡ Some p → length x.memory ≡ length p.memory
  memory_is pid at x p is low there at_pid = ap (λ (q : Process). length q.memory) (proc_is pid at x p is low there at_pid)

  -- the process at this place is changed as F says
  pub kernel-process : (names : List Registration) (arrived : List Name) (F : Process → Process) (pid : Pid) (at : ℕ) (x x' : Proc)
      (p : Process) → place_in pids pid ≡ Some at → at < length procs → x ≡ get_or procs at x →
      procs_by pids procs sends asked pid ≡ Some p →
      process_of x' (count_at sends at) (count_at asked at) ≡ F (process_of x (count_at sends at) (count_at asked at)) →
      kernel_by pids (set procs at x') sends asked names arrived ≡ record (kernel_by pids procs sends asked names arrived)
      { procs = put_process (procs_by pids procs sends asked) pid (F p) }
  kernel-process names arrived F pid at x x' p is low there at_pid changed =
      ap (λ ps. record (kernel_by pids procs sends asked names arrived) { procs = ps })
      (procs-put pids procs sends sends asked asked x' pid at is low (λ to apart. refl) (λ to apart. refl))
      ∙ ap (λ q. record (kernel_by pids procs sends asked names arrived) { procs = put_process (procs_by pids procs sends asked) pid q })
      (changed ∙ ap F (proc_is pid at x p is low there at_pid))

module _ (pids : List Pid) (procs : List Proc) (sends : List (List Exchange)) (asked : List (List Lookup)) where
  pub sent_there : (pid : Pid) (at : ℕ) (s : List Exchange) (number : ℕ) → place_in pids pid ≡ Some at → at < length sends →
      s ≡ get_or sends at s → exchanges_by pids sends (name_of pid number) ≡ (numbered s number)
  sent_there pid at s number is low there =
      exchanges_is pids sends (name_of pid number) s (at_place_is pids sends pid at s is (slice_get-get_or sends at s low ∙ ap Some (sym there)))

  -- the exchange of this name is changed as G says
  pub exchanges-change : (f : Exchange → Exchange) (pid : Pid) (at number : ℕ) (s s' : List Exchange) (e : Exchange) →
      place_in pids pid ≡ Some at → at < length sends → s ≡ get_or sends at s →
      exchanges_by pids sends (name_of pid number) ≡ Some e → s' ≡ change_numbered number f s →
      exchanges_by pids (set sends at s') ≡ put_exchange (exchanges_by pids sends) (name_of pid number) (f e)
  exchanges-change f pid at number s s' e is low there at_name changed =
      let there_before : numbered s number ≡ Some e = sym (sent_there pid at s number is low there) ∙ at_name in
      let new : numbered s' number ≡ Some (f e) = ap (λ l. numbered l number) changed ∙ numbered-change f number s
      ∙ ap (option_map f) there_before in
      exchanges-put pids sends s s' pid at number (f e) is (slice_get-get_or sends at s low ∙ ap Some (sym there)) new
      (λ m apart. ap (λ l. numbered l m) changed ∙ numbered-change_other f number m s apart)

  pub counts-change : (f : Exchange → Exchange) (at number : ℕ) (s s' : List Exchange) → at < length sends → s ≡ get_or sends at s →
      s' ≡ change_numbered number f s → (to : ℕ) → count_at (set sends at s') to ≡ count_at sends to
  counts-change f at number s s' low there changed =
      count-set_even sends at s s' (slice_get-get_or sends at s low ∙ ap Some (sym there)) (ap length changed ∙ length-change f number s)

  pub sends_even : (f : Exchange → Exchange) (at number : ℕ) (s s' : List Exchange) → at < length sends → s ≡ get_or sends at s →
      s' ≡ change_numbered number f s → (pid : Pid) → length (list_at pids sends pid) ≤ length (list_at pids (set sends at s') pid)
  sends_even f at number s s' low there changed pid = let same =
      length-even pids (set sends at s') sends pid (counts-change f at number s s' low there changed) in omega arith

  pub kernel-exchange : (names : List Registration) (arrived : List Name) (f : Exchange → Exchange) (pid : Pid) (at number : ℕ)
      (s s' : List Exchange) (e : Exchange) → place_in pids pid ≡ Some at → at < length sends → s ≡ get_or sends at s →
      exchanges_by pids sends (name_of pid number) ≡ Some e → s' ≡ change_numbered number f s →
      kernel_by pids procs (set sends at s') asked names arrived ≡ record (kernel_by pids procs sends asked names arrived)
      { exchanges = put_exchange (exchanges_by pids sends) (name_of pid number) (f e) }
  kernel-exchange names arrived f pid at number s s' e is low there at_name changed =
      let exchanges = exchanges-change f pid at number s s' e is low there at_name changed in
      let processes =
      procs-even pids procs sends (set sends at s') asked asked (counts-change f at number s s' low there changed) (λ to. refl) in
      λ i. record (kernel_by pids procs sends asked names arrived) { procs = processes i; exchanges = exchanges i }

pub set_self : {X : Type 0} (xs : List X) (at : ℕ) (x : X) → x ≡ get_or xs at x → set xs at x ≡ xs
set_self [] at x is = refl
set_self (y ∷ xs) zero x is = ap (λ z. z ∷ xs) is
set_self (y ∷ xs) (suc at) x is = ap (λ ys. y ∷ ys) (set_self xs at x is)

-- one more Send of a process
module _ (pids : List Pid) (procs : List Proc) (sends : List (List Exchange)) (asked : List (List Lookup)) (pid : Pid) (at : ℕ)
    (p : Process) (x : Exchange) (s s' : List Exchange) (is : place_in pids pid ≡ Some at) (low_procs : at < length procs)
    (low : at < length sends) (there : s ≡ get_or sends at s) (pushed : s' ≡ s ++ x ∷ [])
    (at_pid : procs_by pids procs sends asked pid ≡ Some p) where
  pub count_pushed : p.sends + 1 ≡ length s + 1
  count_pushed =
      let y = some_at procs at low_procs in
      let same = same_Some (process_of y.0 (count_at sends at) (count_at asked at)) p
      (sym (procs_is pids procs sends sends asked asked pid at y.0 is y.1) ∙ at_pid) in
      ap (λ n. n + 1) (ap (λ (q : Process). q.sends) (sym same) ∙ count_is sends at s (slice_get-get_or sends at s low ∙ ap Some (sym there)))

  pub exchanges-pushed : exchanges_by pids (set sends at s') ≡ put_exchange (exchanges_by pids sends) (name_of pid (p.sends + 1)) x
  exchanges-pushed =
      let number : p.sends + 1 ≡ suc (length s) = count_pushed ∙ add-one (length s) in
      exchanges-put pids sends s s' pid at (suc (length s)) x is (slice_get-get_or sends at s low ∙ ap Some (sym there))
      (ap (λ l. numbered l (suc (length s))) pushed ∙ numbered-push s x)
      (λ m apart. ap (λ l. numbered l m) pushed ∙ numbered-push_other s x m apart)
      ∙ ap (λ n. put_exchange (exchanges_by pids sends) (name_of pid n) x) (sym number)

  procs-pushed : procs_by pids procs (set sends at s') asked ≡ put_process (procs_by pids procs sends asked) pid
      (record p { sends = p.sends + 1 })
  procs-pushed =
      let y = some_at procs at low_procs in
      let same = same_Some (process_of y.0 (count_at sends at) (count_at asked at)) p
      (sym (procs_is pids procs sends sends asked asked pid at y.0 is y.1) ∙ at_pid) in
      let self : set procs at y.0 ≡ procs =
      set_self procs at y.0 (same_Some y.0 (get_or procs at y.0) (sym y.1 ∙ slice_get-get_or procs at y.0 low_procs)) in
      let count : count_at (set sends at s') at ≡ p.sends + 1 = count-set_same sends at s' low ∙ ap length pushed ∙ length-append s (x ∷ [])
      ∙ sym count_pushed in
      ap (λ ps. procs_by pids ps (set sends at s') asked) (sym self)
      ∙ procs-put pids procs sends (set sends at s') asked asked y.0 pid at is low_procs (λ to apart. count-set_other sends at s' to apart)
      (λ to apart. refl)
      ∙ ap (λ n. put_process (procs_by pids procs sends asked) pid (process_of y.0 n (count_at asked at))) count
      ∙ ap (λ (q : Process). put_process (procs_by pids procs sends asked) pid (record q { sends = p.sends + 1 })) same

  pub kernel-pushed : (names : List Registration) (arrived later : List Name) →
      kernel_by pids procs (set sends at s') asked names later ≡ record (kernel_by pids procs sends asked names arrived) {
        procs = put_process (procs_by pids procs sends asked) pid (record p { sends = p.sends + 1 });
        exchanges = put_exchange (exchanges_by pids sends) (name_of pid (p.sends + 1)) x;
        arrived = later;
      }
  kernel-pushed names arrived later =
      λ i. record (kernel_by pids procs sends asked names later) { procs = procs-pushed i; exchanges = exchanges-pushed i }

-- The lookups of processes.
use Rattle.std.proofs.Common.{◌≡◌, ℕ, suc, ◌+◌, ◌<◌, true, false, not, ◌==◌, ◌&&◌, List, [], ◌∷◌, ◌++◌, length, length-append, add-one, get_or, set, Some, None, option_map, refl, sym, ap, ◌∙◌, inl, inr, ◌⊎◌}
use Rattle.std.proofs.lemmas.Bool.{cases_Bool, both_ways, and_parts, and_from, eq-eqb, eqb-true, cond-true, cond-false}
use Rattle.std.proofs.lemmas.List.{set-get_or}
use Rattle.std.proofs.lemmas.Option.{slice_get-get_or}
use Rattle.std.specs.List.{slice_get, list_any}
use Rattle.vk_types.specs.Types.{Call, Exchange, Lookup, Name, Pid, Process, Registration}
use Rattle.vk_base.specs.declared.answer.Answer.TheVariants as answers
use Rattle.vk_base.specs.declared.answer.Refusal.TheVariants as refusals
use Rattle.vk_base.specs.declared.kernel.State.TheVariants as states
use Rattle.vk_base.specs.Calls.{lookup_begun, unseen}
use Rattle.vk_base.specs.Kernel.{◌>>=◌, Kernel, put_process, put_lookup, is_told, is_asking, ended, with_state}
use Rattle.vk_base.specs.Pids.{same_pid, same_host}
use Rattle.vk_base.specs.Steps.{only_if, hearing, hear_step, asking, finding, found_step, lost_step}
use Rattle.v_laws.proofs.Tables.{same_pid_is}
use Rattle.v_machine.specs.declared.tables.proc.Proc.{Proc}
use Rattle.v_machine.specs.declared.tables.Store.{Store}
use Rattle.v_machine.specs.Kept.{IsIndexed}
use Rattle.v_machine.specs.Lists.{change_numbered}
use Rattle.v_machine.specs.Names.{tells_of}
use Rattle.v_machine.specs.Places.{place_in, at_place, count_at, numbered}
use Rattle.v_machine.specs.Rules.{Stays}
use Rattle.v_machine.specs.Tables.{names_by, process_of, procs_by, lookups_by, kernel_by, with_candidate}
use Rattle.v_machine.proofs.Indexes.{indexed_same}
use Rattle.v_machine.proofs.KernelLemmas.{proc_is}
use Rattle.v_machine.proofs.Naming.{told_is}
use Rattle.v_machine.proofs.PlaceLemmas.{at_place_same, at_place_other, at_place_is}
use Rattle.v_machine.proofs.StepLemmas.{found}
use Rattle.v_machine.proofs.TableLemmas.{procs-put, procs-even, count_is, count-set_same, count-set_other, count-set_even, length-change, numbered-push, numbered-push_other, numbered-change, numbered-change_other}

module _ (pids : List Pid) (asked : List (List Lookup)) where
  pub lookups_is : (asker : Pid) (number : ℕ) (a : List Lookup) → at_place pids asked asker ≡ Some a →
      lookups_by pids asked asker number ≡ numbered a number
  unfolding lookups_by
  lookups_is asker number a is = ap (λ o. o >>= λ a. numbered a number) is

  pub lookups_nowhere : (asker : Pid) (number : ℕ) → at_place pids asked asker ≡ None → lookups_by pids asked asker number ≡ None
  unfolding lookups_by
  lookups_nowhere asker number is = ap (λ o. o >>= λ a. numbered a number) is

pub lookups_same : (pids : List Pid) (later asked : List (List Lookup)) (asker : Pid) (number : ℕ) →
    at_place pids later asker ≡ at_place pids asked asker → lookups_by pids later asker number ≡ lookups_by pids asked asker number
unfolding lookups_by
lookups_same pids later asked asker number e = ap (λ o. o >>= λ a. numbered a number) e

-- the lookups of one process are changed at one number
pub lookups-put : (pids : List Pid) (asked : List (List Lookup)) (a a' : List Lookup) (pid : Pid) (at number : ℕ) (x : Lookup) →
    place_in pids pid ≡ Some at → at < length asked → a ≡ get_or asked at a → numbered a' number ≡ Some x →
    ((m : ℕ) → (m ≡ number → ⊥) → numbered a' m ≡ numbered a m) →
    lookups_by pids (set asked at a') ≡ put_lookup (lookups_by pids asked) pid number x
unfolding put_lookup
lookups-put pids asked a a' pid at number x is low there new others = λ i q n.
    (elim (cases_Bool (same_pid q pid && n == number)) as (λ _. lookups_by pids (set asked at a') q n ≡ put_lookup (lookups_by pids asked)
    pid number x q n) [
      | inl t ↦
          let parts = and_parts (same_pid q pid) (n == number) t in
          ap (λ z. lookups_by pids (set asked at a') z n) (same_pid_is q pid parts.0)
          ∙ lookups_is pids (set asked at a') pid n a' (at_place_same pids asked pid at a' is low)
          ∙ ap (numbered a') (eqb-true n number parts.1)
          ∙ new
          ∙ sym (cond-true (same_pid q pid && n == number) (Some x) (lookups_by pids asked q n) t)
      | inr f ↦ not_this q n f (cases_Bool (same_pid q pid))
          ∙ sym (cond-false (same_pid q pid && n == number) (Some x) (lookups_by pids asked q n) f)
    ]) i
  where
    not_this : (q : Pid) (n : ℕ) → (same_pid q pid && n == number) ≡ false → (same_pid q pid ≡ true) ⊎ (same_pid q pid ≡ false) →
        lookups_by pids (set asked at a') q n ≡ lookups_by pids asked q n
    not_this q n f (inl t) =
        let same = same_pid_is q pid t in
        let apart : n ≡ number →
        ⊥ = λ e. both_ways (same_pid q pid && n == number) f (and_from (same_pid q pid) (n == number) t (eq-eqb n number e)) in
        lookups_is pids (set asked at a') q n a' (ap (at_place pids (set asked at a')) same ∙ at_place_same pids asked pid at a' is low)
        ∙ others n apart
        ∙ sym (lookups_is pids asked q n a (ap (at_place pids asked) same
        ∙ at_place_is pids asked pid at a is (slice_get-get_or asked at a low ∙ ap Some (sym there))))
    not_this q n f (inr g) = lookups_same pids (set asked at a') asked q n (at_place_other pids asked pid q at a' is g)

-- one more lookup of a process, which does something else from now on
pub kernel-asked : (pids : List Pid) (procs : List Proc) (sends : List (List Exchange)) (asked : List (List Lookup))
    (names : List Registration) (arrived : List Name) (pid : Pid) (at logical : ℕ) (c : Call) (p : Process) (x x' : Proc)
    (a a' : List Lookup) →
    place_in pids pid ≡ Some at → at < length procs → at < length asked → x ≡ get_or procs at x → a ≡ get_or asked at a →
    procs_by pids procs sends asked pid ≡ Some p → a' ≡ a ++ record { logical = logical; candidates = [] } ∷ [] →
    ((sends lookups : ℕ) → process_of x' sends lookups ≡ record (process_of x sends lookups) { state = states.Blocked c }) →
    kernel_by pids (set procs at x') sends (set asked at a') names arrived ≡ lookup_begun (kernel_by pids procs sends asked names arrived)
    pid p c logical
unfolding lookup_begun
kernel-asked pids procs sends asked names arrived pid at logical c p x x' a a' is low low_asked there there_asked at_pid pushed blocked =
    let new : Lookup = record { logical = logical; candidates = [] } in
    let at_asked = slice_get-get_or asked at a low_asked ∙ ap Some (sym there_asked) in
    let is_p = proc_is pids procs sends asked pid at x p is low there at_pid in
    let count : count_at asked at ≡ length a = count_is asked at a at_asked in
    let begun : p.lookups + 1 ≡ suc (length a) = ap (λ (q : Process). q.lookups + 1) (sym is_p) ∙ ap (λ n. n + 1) count
    ∙ add-one (length a) in
    let later : count_at (set asked at a') at ≡ p.lookups + 1 = count-set_same asked at a' low_asked ∙ ap length pushed
    ∙ length-append a (new ∷ []) ∙ add-one (length a) ∙ sym begun in
    let processes = procs-put pids procs sends sends asked (set asked at a') x' pid at is low (λ to apart. refl)
    (λ to apart. count-set_other asked at a' to apart)
    ∙ ap (put_process (procs_by pids procs sends asked) pid) (blocked (count_at sends at) (count_at (set asked at a') at)
    ∙ (λ i. record (is_p i) { state = states.Blocked c; lookups = later i })) in
    let lookups = lookups-put pids asked a a' pid at (suc (length a)) new is low_asked there_asked
    (ap (λ l. numbered l (suc (length a))) pushed ∙ numbered-push a new)
    (λ m apart. ap (λ l. numbered l m) pushed ∙ numbered-push_other a new m apart)
    ∙ ap (λ n. put_lookup (lookups_by pids asked) pid n new) (sym begun) in
    λ i. record (kernel_by pids procs sends asked names arrived) { procs = processes i; lookups = lookups i }

-- what stands at a number of the lookups of a place
module _ (pids : List Pid) (procs : List Proc) (sends : List (List Exchange)) (asked : List (List Lookup)) (pid : Pid) (at number : ℕ)
    (a : List Lookup) (is : place_in pids pid ≡ Some at) (low : at < length asked) (there : a ≡ get_or asked at a) where
  at_asked : slice_get asked at ≡ Some a
  at_asked = slice_get-get_or asked at a low ∙ ap Some (sym there)

  pub lookup_there : lookups_by pids asked pid number ≡ numbered a number
  lookup_there = lookups_is pids asked pid number a (at_place_is pids asked pid at a is at_asked)

  -- one lookup is changed
  pub kernel-lookup : (names : List Registration) (arrived : List Name) (f : Lookup → Lookup) (a' : List Lookup) (l : Lookup) →
      lookups_by pids asked pid number ≡ Some l → a' ≡ change_numbered number f a →
      kernel_by pids procs sends (set asked at a') names arrived ≡ record (kernel_by pids procs sends asked names arrived)
      { lookups = put_lookup (lookups_by pids asked) pid number (f l) }
  kernel-lookup names arrived f a' l found changed =
      let lookups = lookups-put pids asked a a' pid at number (f l) is low there
      (ap (λ l. numbered l number) changed ∙ numbered-change f number a ∙ ap (option_map f) (sym lookup_there ∙ found))
      (λ m apart. ap (λ l. numbered l m) changed ∙ numbered-change_other f number m a apart) in
      let processes = procs-even pids procs sends sends asked (set asked at a') (λ to. refl)
      (count-set_even asked at a a' at_asked (ap length changed ∙ length-change f number a)) in
      λ i. record (kernel_by pids procs sends asked names arrived) { procs = processes i; lookups = lookups i }

-- Hear, Found and Lost, from what was found.
pub hear_allowed : (k after : Kernel) (asker : Pid) (number : ℕ) (pid : Pid) (l : Lookup) → k.lookups asker number ≡ Some l →
    (not (same_host asker pid) && is_told (k.names pid.host) l.logical pid) ≡ true →
    after ≡ record k { lookups = put_lookup k.lookups asker number (with_candidate pid l) } →
    hear_step k asker number pid ≡ Some (unseen after)
unfolding hearing
hear_allowed k after asker number pid l there told is =
    let o : hearing k asker number pid ≡ Some l = found (k.lookups asker number) l _ _ there (λ i. only_if (told i) (Some l)) in
    found (hearing k asker number pid) l _ _ o (ap (λ z. Some (unseen z)) (sym is))

pub hear_not : (k : Kernel) (asker : Pid) (number : ℕ) (pid : Pid) (l : Lookup) → k.lookups asker number ≡ Some l →
    (not (same_host asker pid) && is_told (k.names pid.host) l.logical pid) ≡ false → hear_step k asker number pid ≡ None
unfolding hearing
hear_not k asker number pid l there not_told =
    let o : hearing k asker number pid ≡ None = found (k.lookups asker number) l _ _ there (λ i. only_if (not_told i) (Some l)) in
    ap (λ o. o >>= λ l. Some (unseen (record k { lookups = put_lookup k.lookups asker number (with_candidate pid l) }))) o

pub hear_nowhere : (k : Kernel) (asker : Pid) (number : ℕ) (pid : Pid) → k.lookups asker number ≡ None → hear_step k asker number pid ≡ None
unfolding hearing
hear_nowhere k asker number pid none =
    ap (λ o. (o >>= λ l. only_if (not (same_host asker pid) && is_told (k.names pid.host) l.logical pid) (Some l)) >>= λ l. Some
    (unseen (record k { lookups = put_lookup k.lookups asker number (with_candidate pid l) }))) none

pub found_allowed : (k after : Kernel) (asker pid : Pid) (p : Process) (l : Lookup) → k.procs asker ≡ Some p → is_asking p.state ≡ true →
    k.lookups asker p.lookups ≡ Some l → list_any (same_pid pid) l.candidates ≡ true →
    after ≡ with_state k asker p (ended p.state (answers.Found pid)) → found_step k asker pid ≡ Some (unseen after)
unfolding finding
found_allowed k after asker pid p l there asks at among is =
    let o : finding k asker pid ≡ Some p =
    found (asking k asker) p _ _ (found (k.procs asker) p _ _ there (ap (λ b. only_if b (Some p)) asks))
    (found (k.lookups asker p.lookups) l _ _ at (ap (λ b. only_if b (Some p)) among)) in
    found (finding k asker pid) p _ _ o (ap (λ z. Some (unseen z)) (sym is))

pub lost_allowed : (k after : Kernel) (asker : Pid) (p : Process) → k.procs asker ≡ Some p → is_asking p.state ≡ true →
    after ≡ with_state k asker p (ended p.state (answers.Refused refusals.NotFound)) → lost_step k asker ≡ Some (unseen after)
lost_allowed k after asker p there asks is =
    found (asking k asker) p _ _ (found (k.procs asker) p _ _ there (ap (λ b. only_if b (Some p)) asks))
    (ap (λ z. Some (unseen z)) (sym is))

-- the station of a process hears the asker, from the names of all stations
pub hears_is : (names seen : List Registration) (asker : Pid) (logical : ℕ) (pid : Pid) → seen ≡ names →
    (not (same_host asker pid) && list_any (tells_of logical pid) seen) ≡ (not (same_host asker pid)
    && is_told (names_by names pid.host) logical pid)
hears_is names seen asker logical pid is =
    ap (λ b. not (same_host asker pid) && b) (ap (list_any (tells_of logical pid)) is ∙ sym (told_is names logical pid))

-- lookups that are put back as they were
pub asked_stay : (s t : Store) (at : ℕ) (a a' : List Lookup) → a ≡ get_or s.asked.items at a → a' ≡ a → t.places ≡ s.places →
    t.procs.items ≡ s.procs.items → t.sends.items ≡ s.sends.items → t.asked.items ≡ set s.asked.items at a' →
    t.names.items ≡ s.names.items → t.arrived ≡ s.arrived → t.queues.items ≡ s.queues.items → t.latest.items ≡ s.latest.items →
    IsIndexed s → Stays s t
asked_stay s t at a a' there same places procs sends asked names arrived queues latest old =
    let put : t.asked.items ≡ s.asked.items = asked ∙ ap (set s.asked.items at) (same ∙ there) ∙ set-get_or s.asked.items at a in
    record {
      tables = λ noted i.
          record { pids = places i; procs = procs i; sends = sends i; asked = put i; names = names i; arrived = arrived i; noted = noted };
      indexed = indexed_same s t places (ap length procs) sends (ap length put) arrived queues latest old;
    }

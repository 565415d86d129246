-- The initial kernel.
use Rattle.std.proofs.Common.{◌≡◌, ℕ, zero, suc, ◌+◌, ◌≤◌, true, false, cond, not, nat_lt, List, [], ◌∷◌, length, map, Option, Some, None, option_map, unwrap_or, filter, refl, sym, ap, subst, ◌∙◌, arith, inl, inr}
use Rattle.std.proofs.lemmas.Bool.{cases_Bool, both_ways, ltb-true, ltb-false, cond-true, cond-false}
use Rattle.std.proofs.lemmas.List.{length-map}
use Rattle.std.proofs.lemmas.List.Folds.{find_at}
use Rattle.std.proofs.lemmas.Option.{none-some, slice_get-map}
use Rattle.std.specs.List.{slice_get, find, list_any, position_or_len}
use Rattle.vk_types.specs.Types.{Exchange, Lookup, Name, Pid, ProcessSpec}
use Rattle.vk_base.specs.Kernel.{◌>>=◌, initial_process, initial_kernel, same_name}
use Rattle.vk_base.specs.Pids.{same_pid}
use Rattle.vk_base.specs.Settings.{is_process}
use Rattle.v_machine.specs.declared.tables.latest.Latest.{Latest}
use Rattle.v_machine.specs.declared.tables.Store.{Store}
use Rattle.v_machine.specs.Kept.{IsIndexed, kernel_in}
use Rattle.v_machine.specs.Latest.{latest_in}
use Rattle.v_machine.specs.Initial.{IsInitial, initial_proc, nothing}
use Rattle.v_machine.specs.Places.{pid_of, place_in, at_place, list_at, count_at, numbered}
use Rattle.v_machine.specs.Tables.{kernel_by, process_of, procs_by, exchanges_by, lookups_by, names_by}
use Rattle.v_machine.proofs.PlaceLemmas.{some_at}
use Rattle.v_machine.proofs.TableLemmas.{get_low}

place-map : (specs : List ProcessSpec) (pid : Pid) →
    position_or_len (λ q. same_pid q pid) (map pid_of specs) ≡ position_or_len (is_process pid) specs
place-map [] pid = refl
place-map (s ∷ ss) pid = ap (λ n. cond (not (same_pid s.pid pid)) (1 + n) 0) (place-map ss pid)

none_at : {X : Type 0} (o : Option ProcessSpec) → unwrap_or (option_map (nothing {X = X}) o) [] ≡ []
none_at None = refl
none_at (Some s) = refl

none_begun : (X : Type 0) (specs : List ProcessSpec) (at : ℕ) → count_at (map (nothing {X = X}) specs) at ≡ 0
none_begun X specs at = ap (λ o. length (unwrap_or o [])) (slice_get-map (nothing {X = X}) specs at)
    ∙ ap length (none_at {X = X} (slice_get specs at))

beyond_none : {X : Type 0} (xs : List X) (at : ℕ) (o : Option X) → slice_get xs at ≡ o → length xs ≤ at → slice_get xs at ≡ None
beyond_none xs at None is far = is
beyond_none xs at (Some x) is far = let low = get_low xs at x is in absurd (omega arith)

module _ (specs : List ProcessSpec) where
  place_of : Pid → ℕ
  place_of pid = position_or_len (is_process pid) specs

  place_is : (pid : Pid) → place_in (map pid_of specs) pid ≡ cond (nat_lt (place_of pid) (length specs)) (Some (place_of pid)) None
  unfolding place_in place_of
  place_is pid = λ i. cond (nat_lt (place-map specs pid i) (length-map specs pid_of i)) (Some (place-map specs pid i)) None

  proc_at : (pid : Pid) (s : ProcessSpec) → nat_lt (place_of pid) (length specs) ≡ true → slice_get specs (place_of pid) ≡ Some s →
      procs_by (map pid_of specs) (map initial_proc specs) (map nothing specs) (map nothing specs) pid ≡ Some (initial_process s)
  unfolding procs_by
  proc_at pid s low there =
      ap (λ o. o >>= λ at. slice_get (map initial_proc specs) at >>= λ p.
      Some (process_of p (count_at (map (nothing {X = Exchange}) specs) at) (count_at (map (nothing {X = Lookup}) specs) at)))
      (place_is pid ∙ cond-true (nat_lt (place_of pid) (length specs)) (Some (place_of pid)) None low)
      ∙ ap (λ o. o >>= λ p. Some (process_of p (count_at (map (nothing {X = Exchange}) specs) (place_of pid))
      (count_at (map (nothing {X = Lookup}) specs) (place_of pid))))
      (slice_get-map initial_proc specs (place_of pid) ∙ ap (option_map initial_proc) there)
      ∙ (λ i. Some (process_of (initial_proc s) (none_begun Exchange specs (place_of pid) i) (none_begun Lookup specs (place_of pid) i)))

  procs_open : (pid : Pid) → procs_by (map pid_of specs) (map initial_proc specs) (map nothing specs) (map nothing specs) pid ≡ option_map
      initial_process (find (is_process pid) specs)
  unfolding procs_by place_of
  procs_open pid = elim (cases_Bool (nat_lt (place_of pid) (length specs))) [
    | inl t ↦
        let s = some_at specs (place_of pid) (ltb-true (place_of pid) (length specs) t) in
        proc_at pid s.0 t s.1 ∙ sym (ap (option_map initial_process) (find_at (is_process pid) specs ∙ s.1))
    | inr f ↦
        ap (λ o. o >>= λ at. slice_get (map initial_proc specs) at >>= λ p.
        Some (process_of p (count_at (map (nothing {X = Exchange}) specs) at) (count_at (map (nothing {X = Lookup}) specs) at)))
        (place_is pid ∙ cond-false (nat_lt (place_of pid) (length specs)) (Some (place_of pid)) None f)
        ∙ sym (ap (option_map initial_process) (find_at (is_process pid) specs
        ∙ beyond_none specs (place_of pid) (slice_get specs (place_of pid)) refl (ltb-false (place_of pid) (length specs) f)))
  ]

  none_here : {X : Type 0} (o : Option ℕ) (number : ℕ) → (o >>= slice_get (map (nothing {X = X}) specs) >>= λ xs. numbered xs number) ≡ None
  none_here None number = refl
  none_here {X} (Some at) number = ap (λ o. o >>= λ xs. numbered xs number) (slice_get-map (nothing {X = X}) specs at)
      ∙ no_such (slice_get specs at) number
    where
      no_such : (o : Option ProcessSpec) (number : ℕ) → (option_map (nothing {X = X}) o >>= λ xs. numbered xs number) ≡ None
      no_such None number = refl
      no_such (Some s) zero = refl
      no_such (Some s) (suc n) = refl

  lookups_open : (asker : Pid) (number : ℕ) → lookups_by (map pid_of specs) (map nothing specs) asker number ≡ None
  unfolding lookups_by at_place
  lookups_open asker number = none_here {X = Lookup} (place_in (map pid_of specs) asker) number

  pub exchanges_open : (n : Name) → exchanges_by (map pid_of specs) (map nothing specs) n ≡ None
  unfolding exchanges_by at_place
  exchanges_open n = none_here {X = Exchange} (place_in (map pid_of specs) n.sender) n.number

  pub kernel_open : kernel_by (map pid_of specs) (map initial_proc specs) (map nothing specs) (map nothing specs) [] [] ≡ initial_kernel
      specs
  unfolding names_by
  kernel_open = λ i. record {
    procs = λ pid. procs_open pid i;
    exchanges = λ n. exchanges_open n i;
    arrived = [];
    names = λ host. [];
    lookups = λ asker number. lookups_open asker number i;
  }

  pub list_open : {X : Type 0} (o : Option ℕ) → unwrap_or (o >>= slice_get (map (nothing {X = X}) specs)) [] ≡ []
  list_open None = refl
  list_open {X} (Some at) = ap (λ o. unwrap_or o []) (slice_get-map (nothing {X = X}) specs at) ∙ none_at {X = X} (slice_get specs at)

-- the store stands for it
pub kernel_at_first : (s : Store) (specs : List ProcessSpec) → s.places ≡ map pid_of specs → IsInitial specs s →
    kernel_in s ≡ initial_kernel specs
kernel_at_first s specs places filled =
    (λ i. kernel_by (places i) (filled.procs i) (filled.sends i) (filled.asked i) (filled.names i) (filled.arrived i))
    ∙ kernel_open specs

empty_low : (ls : List Latest) (host n : ℕ) → ls ≡ [] → latest_in ls host ≤ n
unfolding latest_in
empty_low ls host n none = subst (λ (l : List Latest). latest_in l host ≤ n) (sym none) (omega arith)

pub indexed_at_first : (s : Store) (specs : List ProcessSpec) → s.places ≡ map pid_of specs → IsInitial specs s → IsIndexed s
unfolding at_place
indexed_at_first s specs places filled =
    let count : length specs ≡ length s.places = sym (ap length places ∙ length-map specs pid_of) in
    record {
      procs = ap length filled.procs ∙ length-map specs initial_proc ∙ count;
      sends = ap length filled.sends ∙ length-map specs nothing ∙ count;
      asked = ap length filled.asked ∙ length-map specs nothing ∙ count;
      queues = ap length filled.queues ∙ length-map specs nothing ∙ count;
      latest = ap length filled.latest ∙ length-map specs nothing ∙ count;
      waiting = λ r there.
          let names : list_at s.places s.queues.items r ≡ [] =
          ap (λ xss. unwrap_or (place_in s.places r >>= slice_get xss) []) filled.queues ∙ list_open specs (place_in s.places r) in
          record {
            queue = ap (filter _) (names ∙ sym filled.arrived);
            came = λ n t. absurd (both_ways false refl (subst (λ ns. list_any (same_name n) ns ≡ true) names t));
          };
      low = λ sender host. empty_low (list_at s.places s.latest.items sender) host _
          (ap (λ xss. unwrap_or (place_in s.places sender >>= slice_get xss) []) filled.latest
          ∙ list_open specs (place_in s.places sender));
      open_last = λ n e is. absurd (none-some e (sym ((λ i. exchanges_by (places i) (filled.sends i) n) ∙ exchanges_open specs n) ∙ is));
    }

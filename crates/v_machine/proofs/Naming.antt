-- Names in one list, and the names of each station.
use Rattle.std.proofs.Common.{◌≡◌, ℕ, Bool, true, false, cond, not, ◌==◌, ◌&&◌, ◌||◌, List, [], ◌∷◌, ◌++◌, length, nat_le, filter, Some, option_map, refl, sym, ap, ◌∙◌, inl, inr}
use Rattle.std.proofs.lemmas.Bool.{cases_Bool, both_ways, and_parts, eq-eqb, eqb-true, cond-true, cond-false, false_from_ne_true}
use Rattle.std.proofs.lemmas.List.{append-nil}
use Rattle.std.proofs.lemmas.List.Elements.{filter-append, filter_agree}
use Rattle.std.specs.List.{find, list_any}
use Rattle.vk_types.specs.Types.{Pid, Process, Registration}
use Rattle.vk_base.specs.declared.answer.Answer.TheVariants as answers
use Rattle.vk_base.specs.declared.answer.Refusal.TheVariants as refusals
use Rattle.vk_base.specs.declared.call.Call.TheVariants as calls
use Rattle.vk_base.specs.Calls.{answered, called, first_that_holds, registered, with_name}
use Rattle.vk_base.specs.Kernel.{Kernel, is_live, others, put_names, is_found_here, is_found_there, is_told, found_here}
use Rattle.vk_base.specs.Pids.{same_pid, same_host}
use Rattle.v_machine.specs.Names.{is_other, is_older, with_registered, answers_here, tells_of}
use Rattle.v_machine.specs.Rules.{judged}
use Rattle.v_machine.specs.Tables.{is_of, names_by}
use Rattle.v_machine.proofs.Indexes.{filter_narrower}

-- Searches of a list that another test filtered.
module _ {X : Type 0} (f g : X → Bool) where
  again_at : (x : X) (xs : List X) (b c : Bool) → f x ≡ b → g x ≡ c → filter g (filter f xs) ≡ filter (λ x. f x && g x) xs →
      filter g (cond b (x ∷ filter f xs) (filter f xs)) ≡ cond (b && c) (x ∷ filter (λ x. f x && g x) xs) (filter (λ x. f x && g x) xs)
  again_at x xs true true ef eg again = cond-true (g x) (x ∷ filter g (filter f xs)) (filter g (filter f xs)) eg ∙ ap (λ ys. x ∷ ys) again
  again_at x xs true false ef eg again = cond-false (g x) (x ∷ filter g (filter f xs)) (filter g (filter f xs)) eg ∙ again
  again_at x xs false c ef eg again = again

  pub filter_again : (xs : List X) → filter g (filter f xs) ≡ filter (λ x. f x && g x) xs
  filter_again [] = refl
  filter_again (x ∷ xs) = again_at x xs (f x) (g x) refl refl (filter_again xs)

  find_at : (x : X) (xs : List X) (b c : Bool) → f x ≡ b → g x ≡ c → find g (filter f xs) ≡ find (λ x. f x && g x) xs →
      find g (cond b (x ∷ filter f xs) (filter f xs)) ≡ cond (b && c) (Some x) (find (λ x. f x && g x) xs)
  find_at x xs true true ef eg again = cond-true (g x) (Some x) (find g (filter f xs)) eg
  find_at x xs true false ef eg again = cond-false (g x) (Some x) (find g (filter f xs)) eg ∙ again
  find_at x xs false c ef eg again = again

  pub find_among : (xs : List X) → find g (filter f xs) ≡ find (λ x. f x && g x) xs
  find_among [] = refl
  find_among (x ∷ xs) = find_at x xs (f x) (g x) refl refl (find_among xs)

-- the names of a station are those of its host
pub others_are : (names : List Registration) (host logical : ℕ) →
    others (names_by names host) logical ≡ filter (is_other host logical) names
unfolding names_by
others_are names host logical = filter_again (is_of host) (λ r. not (r.logical == logical)) names

pub found_here_is : (names : List Registration) (host logical : ℕ) →
    found_here (names_by names host) logical ≡ option_map (λ (r : Registration). r.pid) (find (answers_here host logical) names)
unfolding names_by
found_here_is names host logical =
    ap (option_map (λ (r : Registration). r.pid)) (find_among (is_of host) (λ r. r.logical == logical && is_found_here r.scope) names)

-- a process that is registered
not_older : (a b : Bool) → (not (a && b) && a) ≡ (a && not b)
not_older true true = refl
not_older true false = refl
not_older false b = refl

module _ (names : List Registration) (r : Registration) where
  keeps : Registration → Bool
  keeps x = not (is_older r.pid.host r.logical x)

  at_host : filter (is_of r.pid.host) (with_registered names r) ≡ with_name (names_by names r.pid.host) r
  unfolding names_by keeps
  at_host =
      filter-append (is_of r.pid.host) (filter keeps names) (r ∷ [])
      ∙ ap (λ xs. filter (is_of r.pid.host) (filter keeps names) ++ xs)
      (cond-true (r.pid.host == r.pid.host) (r ∷ []) [] (eq-eqb r.pid.host r.pid.host refl))
      ∙ ap (λ xs. xs ++ r ∷ []) (
      filter_again keeps (is_of r.pid.host) names
      ∙ filter_agree (λ x. keeps x && is_of r.pid.host x) (is_other r.pid.host r.logical)
      (λ x. not_older (is_of r.pid.host x) (x.logical == r.logical)) names
      ∙ sym (others_are names r.pid.host r.logical))

  at_another : (host : ℕ) → (host == r.pid.host) ≡ false → filter (is_of host) (with_registered names r) ≡ names_by names host
  unfolding names_by keeps
  at_another host other =
      filter-append (is_of host) (filter keeps names) (r ∷ [])
      ∙ ap (λ xs. filter (is_of host) (filter keeps names) ++ xs)
      (cond-false (r.pid.host == host) (r ∷ []) [] (false_from_ne_true (r.pid.host == host)
      (λ t. both_ways (host == r.pid.host) other (eq-eqb host r.pid.host (sym (eqb-true r.pid.host host t))))))
      ∙ append-nil (filter (is_of host) (filter keeps names))
      ∙ filter_narrower keeps (is_of host) (λ x t.
      let same : x.pid.host ≡ host = eqb-true x.pid.host host t in
      ap (λ b. not (b && x.logical == r.logical)) (ap (λ h. h == r.pid.host) same ∙ other)) names

  pub names-registered : names_by (with_registered names r) ≡ put_names (names_by names) r.pid.host
      (with_name (names_by names r.pid.host) r)
  unfolding names_by put_names
  names-registered = λ i host. (elim (cases_Bool (host == r.pid.host)) as (λ _. names_by (with_registered names r) host ≡ put_names
      (names_by names) r.pid.host (with_name (names_by names r.pid.host) r) host) [
        | inl t ↦
            ap (λ h. filter (is_of h) (with_registered names r)) (eqb-true host r.pid.host t) ∙ at_host
            ∙ sym (cond-true (host == r.pid.host) (with_name (names_by names r.pid.host) r) (names_by names host) t)
        | inr f ↦ at_another host f
            ∙ sym (cond-false (host == r.pid.host) (with_name (names_by names r.pid.host) r) (names_by names host) f)
      ]) i

-- SetPid
pub set_pid_allowed : (k after : Kernel) (pid : Pid) (p : Process) (r : Registration) → same_host pid r.pid ≡ true →
    is_live (k.procs r.pid) ≡ true → nat_le 64 (length (others (k.names pid.host) r.logical)) ≡ false →
    after ≡ registered k pid r.logical r.pid r.scope →
    judged k pid p (calls.SetPid r.logical r.pid r.scope) ≡ Some (answered after pid (calls.SetPid r.logical r.pid r.scope) answers.Ok)
set_pid_allowed k after pid p r here live few is =
    (λ i. called k pid p (calls.SetPid r.logical r.pid r.scope)
    (first_that_holds ((not (here i && live i), refusals.NoProcess) ∷ (few i, refusals.NamesFull) ∷ [])))
    ∙ ap (λ z. Some (answered z pid (calls.SetPid r.logical r.pid r.scope) answers.Ok)) (sym is)

pub set_pid_full : (k : Kernel) (pid : Pid) (p : Process) (r : Registration) → same_host pid r.pid ≡ true → is_live (k.procs r.pid) ≡ true →
    nat_le 64 (length (others (k.names pid.host) r.logical)) ≡ true →
    judged k pid p (calls.SetPid r.logical r.pid r.scope) ≡ Some
    (answered k pid (calls.SetPid r.logical r.pid r.scope) (answers.Refused refusals.NamesFull))
set_pid_full k pid p r here live full = λ i. called k pid p (calls.SetPid r.logical r.pid r.scope)
    (first_that_holds ((not (here i && live i), refusals.NoProcess) ∷ (full i, refusals.NamesFull) ∷ []))

-- what only the names of the host pass
module _ {X : Type 0} (f g : X → Bool) (implies : (x : X) → g x ≡ true → f x ≡ true) where
  any_at : (x : X) (xs : List X) (b c : Bool) → f x ≡ b → g x ≡ c → list_any g (filter f xs) ≡ list_any g xs →
      list_any g (cond b (x ∷ filter f xs) (filter f xs)) ≡ (c || list_any g xs)
  any_at x xs true c ef eg again = λ i. eg i || again i
  any_at x xs false true ef eg again = absurd (both_ways (f x) ef (implies x eg))
  any_at x xs false false ef eg again = again

  pub any_among : (xs : List X) → list_any g (filter f xs) ≡ list_any g xs
  any_among [] = refl
  any_among (x ∷ xs) = any_at x xs (f x) (g x) refl refl (any_among xs)

pub told_is : (names : List Registration) (logical : ℕ) (pid : Pid) →
    is_told (names_by names pid.host) logical pid ≡ list_any (tells_of logical pid) names
unfolding names_by
told_is names logical pid = any_among (is_of pid.host) (tells_of logical pid)
    (λ r t. (and_parts (r.pid.host == pid.host) (r.pid.local == pid.local)
    (and_parts (r.logical == logical && is_found_there r.scope) (same_pid r.pid pid) t).1).0) names

-- What there is at places, as lists of what comes of steps and of what is seen.
use Rattle.std.proofs.Common.{◌≡◌, ℕ, zero, suc, List, [], ◌∷◌, ◌++◌, take, slice_get, Option, Some, None, option_map, option_to_list, refl, sym, ap, ◌∙◌}
use Rattle.std.specs.List.{cons_option, filter_map}
use Rattle.std.proofs.lemmas.List.{append_assoc, append-nil}
use Rattle.std.proofs.lemmas.List.Elements.{filter_map-append}
use Rattle.std.proofs.lemmas.Option.{same_Some}
use Rattle.vk_types.specs.Types.{Pid, ProcessSpec, Step}
use Rattle.vk_base.specs.Calls.{Effect}
use Rattle.vk_base.specs.Kernel.{◌>>=◌, Kernel, initial_kernel}
use Rattle.vk_base.specs.Steps.{Run, effect, run}
use Rattle.vk_base.proofs.OptionLemmas.{bind_is}
use Rattle.v_laws.specs.Places.{before}
use Rattle.v_laws.proofs.PlaceLemmas.{OneMore, one_more}
use Rattle.v_laws.proofs.RunLemmas.{run-append, run_nothing}
use Rattle.v_pages.specs.Followed.{answer_at, answer_in, answers_before, up_to}
use Rattle.v_pages.proofs.Lists.{up_to_none}
use Rattle.v_pages.proofs.Places.{answer_here}

-- What is first, and what is at the later places.
up_to_front : {A : Type 0} (at : ℕ → Option A) (i : ℕ) → up_to at (suc i) ≡ option_to_list (at 0) ++ up_to (λ j. at (suc j)) i
unfolding up_to
up_to_front at zero = sym (append-nil (option_to_list (at 0)))
up_to_front at (suc i) = ap (λ xs. xs ++ option_to_list (at (suc i))) (up_to_front at i)
    ∙ append_assoc (option_to_list (at 0)) (up_to (λ j. at (suc j)) i) (option_to_list (at (suc i)))

up_to_nothing : {A : Type 0} (i : ℕ) → up_to {A = A} (λ j. None) i ≡ []
unfolding up_to
up_to_nothing zero = refl
up_to_nothing {A} (suc i) = append-nil (up_to {A = A} (λ j. None) i) ∙ up_to_nothing i

with_option : {B : Type 0} (o : Option B) (ys : List B) → cons_option o ys ≡ option_to_list o ++ ys
with_option None ys = refl
with_option (Some y) ys = refl

pub one_mapped : {A B : Type 0} (f : A → Option B) (x : A) (xs : List A) → filter_map f (x ∷ xs) ≡ option_to_list (f x) ++ filter_map f xs
one_mapped f x xs = with_option (f x) (filter_map f xs)

-- what a function gives of the first elements
pub up_to_mapped : {A B : Type 0} (f : A → Option B) (xs : List A) (i : ℕ) →
    up_to (λ j. slice_get xs j >>= f) i ≡ filter_map f (take i xs)
unfolding up_to
up_to_mapped f xs zero = refl
up_to_mapped {A} {B} f [] (suc i) = up_to_nothing {A = B} (suc i)
up_to_mapped f (x ∷ xs) (suc i) = up_to_front (λ j. slice_get (x ∷ xs) j >>= f) i
    ∙ ap (λ ys. option_to_list (f x) ++ ys) (up_to_mapped f xs i)
    ∙ sym (one_mapped f x (take i xs))

-- What is seen of one step more.
record SeenMore (k : Kernel) (ts : List Step) (s : Step) (w : Run) : Type 0 where
  earlier : Run
  is : run k ts ≡ Some earlier
  did : Effect
  does : effect earlier.after s ≡ Some did
  seen : w.seen ≡ earlier.seen ++ option_to_list did.seen

seen_more : (k : Kernel) (ts : List Step) (s : Step) (w : Run) → run k (ts ++ s ∷ []) ≡ Some w → SeenMore k ts s w
unfolding run
seen_more k ts s w g =
    let a = bind_is (run k ts) _ w (sym (run-append k ts (s ∷ [])) ∙ g) in
    let b = bind_is (run a.0.after (s ∷ [])) _ w a.2 in
    let e = bind_is (effect a.0.after s) _ b.0 b.1 in
    record {
      earlier = a.0;
      is = a.1;
      did = e.0;
      does = e.1;
      seen = sym (ap (λ (r : Run). r.seen) (same_Some _ w b.2))
          ∙ ap (λ xs. a.0.seen ++ xs) (sym (ap (λ (r : Run). r.seen) (same_Some _ b.0 e.2)) ∙ append-nil (option_to_list e.0.seen));
    }

mapped_option : {A B : Type 0} (f : A → Option B) (o : Option A) → filter_map f (option_to_list o) ≡ option_to_list (o >>= f)
mapped_option f None = refl
mapped_option f (Some x) = one_mapped f x [] ∙ append-nil (option_to_list (f x))

pub answer_none : (specs : List ProcessSpec) (ss : List Step) (r : Pid) (i : ℕ) → slice_get ss i ≡ None → answer_at specs ss r i ≡ None
answer_none specs ss r i none = by_kernel (before specs ss i)
  where
    by_kernel : (o : Option Kernel) → (((o >>= λ k. slice_get ss i >>= λ s. effect k s) >>= λ (e : Effect). e.seen) >>= answer_in r) ≡ None
    by_kernel None = refl
    by_kernel (Some k) = ap (λ o. ((o >>= λ s. effect k s) >>= λ (e : Effect). e.seen) >>= answer_in r) none

seen_by : (specs : List ProcessSpec) (ss : List Step) (r : Pid) (i : ℕ) (w : Run) →
    run (initial_kernel specs) (take (suc i) ss) ≡ Some w → OneMore ss i →
    ((x : Run) → run (initial_kernel specs) (take i ss) ≡ Some x → answers_before specs ss r i ≡ filter_map (answer_in r) x.seen) →
    answers_before specs ss r (suc i) ≡ filter_map (answer_in r) w.seen
unfolding up_to
seen_by specs ss r i w g (OneMore.past none same) so_far =
    up_to_none (answer_at specs ss r) i (answer_none specs ss r i none) ∙ so_far w (ap (run (initial_kernel specs)) (sym same) ∙ g)
seen_by specs ss r i w g (OneMore.step s is more) so_far =
    let m = seen_more (initial_kernel specs) (take i ss) s w (ap (run (initial_kernel specs)) (sym more) ∙ g) in
    let at : before specs ss i ≡ Some m.earlier.after = ap (option_map (λ (x : Run). x.after)) m.is in
    ap (λ o. up_to (answer_at specs ss r) i ++ option_to_list o) (answer_here specs ss r i m.earlier.after s m.did at is m.does)
    ∙ (λ j. so_far m.earlier m.is j ++ sym (mapped_option (answer_in r) m.did.seen) j)
    ∙ sym (filter_map-append (answer_in r) m.earlier.seen (option_to_list m.did.seen))
    ∙ ap (filter_map (answer_in r)) (sym m.seen)

-- the answers at the places before one are those that are seen of the steps before it
pub answers_seen : (specs : List ProcessSpec) (ss : List Step) (r : Pid) (i : ℕ) (w : Run) →
    run (initial_kernel specs) (take i ss) ≡ Some w → answers_before specs ss r i ≡ filter_map (answer_in r) w.seen
unfolding up_to
answers_seen specs ss r zero w g =
    ap (filter_map (answer_in r)) (ap (λ (x : Run). x.seen) (same_Some _ w (sym (run_nothing (initial_kernel specs)) ∙ g)))
answers_seen specs ss r (suc i) w g = seen_by specs ss r i w g (one_more ss i) (answers_seen specs ss r i)

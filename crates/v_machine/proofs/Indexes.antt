-- The indexes of a store after a change.
use Rattle.std.proofs.Common.{◌≡◌, ℕ, ◌<◌, ◌≤◌, Bool, true, false, cond, List, [], ◌∷◌, length, get_or, set, length-set, filter, Option, Some, None, IsSome, is_some, unwrap_or, ◌⊎◌, refl, sym, ap, subst, ◌∙◌, inl, inr, arith}
use Rattle.std.proofs.lemmas.Bool.{cases_Bool, both_ways, and_parts, and_from, cond-true, cond-false}
use Rattle.std.proofs.lemmas.Option.{same_Some, none-some, slice_get-get_or}
use Rattle.std.specs.List.{list_any, slice_get}
use Rattle.vk_types.specs.Types.{Exchange, Name, Pid, Stage}
use Rattle.vk_base.specs.Kernel.{same_name, holds_of, queue_of, is_queued_at, is_queued, put_exchange}
use Rattle.vk_base.specs.Pids.{same_pid}
use Rattle.vk_base.specs.Steps.{first_of}
use Rattle.v_laws.proofs.Tables.{same_pid_is, same_name_is, put_exchange_at, put_exchange_other}
use Rattle.v_machine.specs.declared.tables.Store.{Store}
use Rattle.v_machine.specs.Kept.{IsIndexed, IsAt, IsWaiting, IsNoNearer, queued_at, latest_by, kernel_in}
use Rattle.v_machine.specs.Places.{place_in, list_at}
use Rattle.v_machine.specs.Tables.{exchanges_by}
use Rattle.v_machine.proofs.PlaceLemmas.{at_place_same, at_place_other, at_place_is}

-- Filters by a test and by a narrower one.
narrower_at : {X : Type 0} (f g : X → Bool) (x : X) (xs : List X) (b c : Bool) → g x ≡ b → f x ≡ c → (g x ≡ true → f x ≡ true) →
    filter g (filter f xs) ≡ filter g xs → filter g (cond c (x ∷ filter f xs) (filter f xs)) ≡ cond b (x ∷ filter g xs) (filter g xs)
narrower_at f g x xs true true eg ef implies again = cond-true (g x) (x ∷ filter g (filter f xs)) (filter g (filter f xs)) eg
    ∙ ap (λ ys. x ∷ ys) again
narrower_at f g x xs true false eg ef implies again = absurd (both_ways (f x) ef (implies eg))
narrower_at f g x xs false true eg ef implies again = cond-false (g x) (x ∷ filter g (filter f xs)) (filter g (filter f xs)) eg ∙ again
narrower_at f g x xs false false eg ef implies again = again

pub filter_narrower : {X : Type 0} (f g : X → Bool) → ((x : X) → g x ≡ true → f x ≡ true) → (xs : List X) →
    filter g (filter f xs) ≡ filter g xs
filter_narrower f g implies [] = refl
filter_narrower f g implies (x ∷ xs) = narrower_at f g x xs (g x) (f x) refl refl (implies x) (filter_narrower f g implies xs)

-- what two lists have alike by a test they have alike by a narrower one
pub alike_narrower : {X : Type 0} (f g : X → Bool) → ((x : X) → g x ≡ true → f x ≡ true) → (xs ys : List X) → filter f xs ≡ filter f ys →
    filter g xs ≡ filter g ys
alike_narrower f g implies xs ys alike = sym (filter_narrower f g implies xs) ∙ ap (filter g) alike ∙ filter_narrower f g implies ys

-- the exchanges later, each of which was there before, for the same target and at the same process, and is no nearer to it
abbrev pub AreNoNearer : (Name → Option Exchange) → (Name → Option Exchange) → Type 0
AreNoNearer before after = (n : Name) (y : Exchange) → after n ≡ Some y →
    (x : Exchange) × (before n ≡ Some x) × (y.target ≡ x.target) × IsNoNearer x.stage y.stage × (y.at ≡ x.at)

queued_before : (before after : Name → Option Exchange) (r : Pid) → AreNoNearer before after → (n : Name) (o : Option Exchange) →
    after n ≡ o → holds_of (is_queued_at r) o ≡ true → queued_at before r n ≡ true
queued_before before after r less n None is t = absurd (both_ways false refl t)
queued_before before after r less n (Some y) is t =
    let old = less n y is in
    let parts = and_parts (same_pid y.at r) (is_queued y.stage) t in
    ap (holds_of (is_queued_at r)) old.1
    ∙ and_from (same_pid old.0.at r) (is_queued old.0.stage) (subst (λ z. same_pid z r ≡ true) old.4 parts.0) (old.3.queued parts.1)

pub indexed_later : (s t : Store) → t.places ≡ s.places → length t.procs.items ≡ length s.procs.items →
    length t.sends.items ≡ length s.sends.items → length t.asked.items ≡ length s.asked.items →
    t.arrived ≡ s.arrived → t.queues.items ≡ s.queues.items → t.latest.items ≡ s.latest.items →
    ((pid : Pid) → length (list_at s.places s.sends.items pid) ≤ length (list_at t.places t.sends.items pid)) →
    AreNoNearer (exchanges_by s.places s.sends.items) (exchanges_by t.places t.sends.items) → IsIndexed s → IsIndexed t
indexed_later s t places procs sends asked arrived queues latest more less old =
    record {
      procs = procs ∙ old.procs ∙ sym (ap length places);
      sends = sends ∙ old.sends ∙ sym (ap length places);
      asked = asked ∙ old.asked ∙ sym (ap length places);
      queues = ap length queues ∙ old.queues ∙ sym (ap length places);
      latest = ap length latest ∙ old.latest ∙ sym (ap length places);
      waiting = λ r there.
          let was = old.waiting r (subst (λ ps. IsSome (place_in ps r)) places there) in
          let names : list_at t.places t.queues.items r ≡ list_at s.places s.queues.items r = λ i. list_at (places i) (queues i) r in
          let after : Name → Option Exchange = exchanges_by t.places t.sends.items in
          let before : Name → Option Exchange = exchanges_by s.places s.sends.items in
          record {
            queue = ap (filter (queued_at after r)) names
                ∙ alike_narrower (queued_at before r) (queued_at after r) (λ n. queued_before before after r less n (after n) refl)
                (list_at s.places s.queues.items r) s.arrived was.queue
                ∙ ap (filter (queued_at after r)) (sym arrived);
            came = λ n among. subst (λ ns. list_any (same_name n) ns ≡ true) (sym arrived)
                (was.came n (subst (λ ns. list_any (same_name n) ns ≡ true) names among));
          };
      low = λ sender host.
          let number : latest_by t.places t.latest.items sender host ≡ latest_by s.places s.latest.items sender host =
          λ i. latest_by (places i) (latest i) sender host in
          let was = old.low sender host in
          let grown = more sender in
          omega arith;
      open_last = λ n y is.
          let x = less n y is in
          let was = old.open_last n x.0 x.1 in
          let number : latest_by t.places t.latest.items n.sender y.target.host ≡ latest_by s.places s.latest.items n.sender
          x.0.target.host = λ i. latest_by (places i) (latest i) n.sender (x.2 i).host in
          record {
            live = λ t. was.live (x.3.live t) ∙ sym number;
            posted = λ t. let low = was.posted (x.3.posted t) in omega arith;
          };
    }

-- where nothing of the exchanges changes
pub same_stage : (s : Stage) → IsNoNearer s s
same_stage s = record { queued = λ t. t; live = λ t. t; posted = λ t. t }

-- one exchange is put that is for the same target, at the same process, and no nearer
pub put_no_nearer : (before after : Name → Option Exchange) (name : Name) (x y : Exchange) → before name ≡ Some x →
    after ≡ put_exchange before name y → y.target ≡ x.target → y.at ≡ x.at → IsNoNearer x.stage y.stage → AreNoNearer before after
put_no_nearer before after name x y at is target place less n z there = elim (cases_Bool (same_name n name)) [
  | inl t ↦
      let same : y ≡ z = same_Some y z (sym (put_exchange_at before name y n t) ∙ ap (λ f. f n) (sym is) ∙ there) in (
        x,
        ap before (same_name_is n name t) ∙ at,
        ap (λ (e : Exchange). e.target) (sym same) ∙ target,
        subst (λ (e : Exchange). IsNoNearer x.stage e.stage) same less,
        ap (λ (e : Exchange). e.at) (sym same) ∙ place,
      )
  | inr f ↦ (z, sym (put_exchange_other before name y n f) ∙ ap (λ g. g n) (sym is) ∙ there, refl, same_stage z.stage, refl)
]

-- what a list of lists has for processes after one list is put
pub list_at-set_same : {X : Type 0} (pids : List Pid) (xss : List (List X)) (pid : Pid) (at : ℕ) (xs : List X) →
    place_in pids pid ≡ Some at → at < length xss → list_at pids (set xss at xs) pid ≡ xs
list_at-set_same pids xss pid at xs is low = ap (λ o. unwrap_or o []) (at_place_same pids xss pid at xs is low)

pub list_at-set_other : {X : Type 0} (pids : List Pid) (xss : List (List X)) (pid q : Pid) (at : ℕ) (xs : List X) →
    place_in pids pid ≡ Some at → same_pid q pid ≡ false → list_at pids (set xss at xs) q ≡ list_at pids xss q
list_at-set_other pids xss pid q at xs is apart = ap (λ o. unwrap_or o []) (at_place_other pids xss pid q at xs is apart)

pub list_at_is : {X : Type 0} (pids : List Pid) (xss : List (List X)) (pid : Pid) (at : ℕ) (xs : List X) → place_in pids pid ≡ Some at →
    at < length xss → xs ≡ get_or xss at xs → list_at pids xss pid ≡ xs
list_at_is pids xss pid at xs is low there =
    ap (λ o. unwrap_or o []) (at_place_is pids xss pid at xs is (slice_get-get_or xss at xs low ∙ ap Some (sym there)))

pub waiting_same : (ex ex' : Name → Option Exchange) (arrived arrived' : List Name) (r : Pid) (names names' : List Name) → ex' ≡ ex →
    arrived' ≡ arrived → names' ≡ names → IsWaiting ex arrived r names → IsWaiting ex' arrived' r names'
waiting_same ex ex' arrived arrived' r names names' e a n was =
    subst (λ f. IsWaiting f arrived' r names') (sym e)
    (subst (λ ns. IsWaiting ex ns r names') (sym a) (subst (λ ns. IsWaiting ex arrived r ns) (sym n) was))

-- names that are no longer queued are taken out of a queue
pub indexed_cleaned : (s t : Store) (pid : Pid) (at : ℕ) (names left : List Name) → IsAt s pid at → names ≡ get_or s.queues.items at names →
    t.places ≡ s.places → length t.procs.items ≡ length s.procs.items → t.sends.items ≡ s.sends.items →
    length t.asked.items ≡ length s.asked.items →
    t.arrived ≡ s.arrived → t.queues.items ≡ set s.queues.items at left → t.latest.items ≡ s.latest.items →
    filter (queued_at (exchanges_by s.places s.sends.items) pid) left ≡ filter (queued_at (exchanges_by s.places s.sends.items) pid) names →
    ((n : Name) → list_any (same_name n) left ≡ true → list_any (same_name n) names ≡ true) → IsIndexed s → IsIndexed t
indexed_cleaned s t pid at names left here is places procs sends asked arrived queues latest alike among old =
    let exchanges : exchanges_by t.places t.sends.items ≡ exchanges_by s.places s.sends.items = λ i. exchanges_by (places i) (sends i) in
    record {
      procs = procs ∙ old.procs ∙ sym (ap length places);
      sends = ap length sends ∙ old.sends ∙ sym (ap length places);
      asked = asked ∙ old.asked ∙ sym (ap length places);
      queues = ap length queues ∙ length-set s.queues.items at left ∙ old.queues ∙ sym (ap length places);
      latest = ap length latest ∙ old.latest ∙ sym (ap length places);
      waiting = λ r there.
          waiting_same _ _ _ _ r _ _ exchanges arrived (λ i. list_at (places i) (queues i) r)
          (waits r (subst (λ ps. IsSome (place_in ps r)) places there) (cases_Bool (same_pid r pid)));
      low = λ sender host.
          let number : latest_by t.places t.latest.items sender host ≡ latest_by s.places s.latest.items sender host =
          λ i. latest_by (places i) (latest i) sender host in
          let was = old.low sender host in
          let grown = ap (λ (ss : List Exchange). length ss) (λ i. list_at (places i) (sends i) sender) in
          omega arith;
      open_last = λ n y there.
          let was = old.open_last n y (sym (ap (λ f. f n) exchanges) ∙ there) in
          let number : latest_by t.places t.latest.items n.sender y.target.host ≡ latest_by s.places s.latest.items n.sender y.target.host =
          λ i. latest_by (places i) (latest i) n.sender y.target.host in
          record {
            live = λ u. was.live u ∙ sym number;
            posted = λ u. let low = was.posted u in omega arith;
          };
    }
  where
    waits : (r : Pid) → IsSome (place_in s.places r) → (same_pid r pid ≡ true) ⊎ (same_pid r pid ≡ false) →
        IsWaiting (exchanges_by s.places s.sends.items) s.arrived r (list_at s.places (set s.queues.items at left) r)
    waits r there (inl u) =
        let same = same_pid_is r pid u in
        let was = old.waiting pid (subst (λ q. IsSome (place_in s.places q)) same there) in
        let now = list_at-set_same s.places s.queues.items pid at left here.place here.queues in
        let before = list_at_is s.places s.queues.items pid at names here.place here.queues is in
        subst (λ q. IsWaiting (exchanges_by s.places s.sends.items) s.arrived q (list_at s.places (set s.queues.items at left) q))
        (sym same)
        (subst (IsWaiting (exchanges_by s.places s.sends.items) s.arrived pid) (sym now) (record {
          queue = alike ∙ ap (filter (queued_at (exchanges_by s.places s.sends.items) pid)) (sym before) ∙ was.queue;
          came = λ n u. was.came n (subst (λ ns. list_any (same_name n) ns ≡ true) (sym before) (among n u));
        }))
    waits r there (inr f) = subst (IsWaiting (exchanges_by s.places s.sends.items) s.arrived r)
        (sym (list_at-set_other s.places s.queues.items pid r at left here.place f)) (old.waiting r there)

-- the first of what passes, where the first passes
pub first_if : (f : Name → Bool) (xs : List Name) (n : Name) → Some n ≡ slice_get xs 0 → f n ≡ true → first_of (filter f xs) ≡ Some n
first_if f [] n is t = absurd (none-some n (sym is))
first_if f (x ∷ xs) n is t =
    let same = same_Some n x is in
    ap first_of (cond-true (f x) (x ∷ filter f xs) (filter f xs) (subst (λ z. f z ≡ true) same t)) ∙ ap Some (sym same)

pub first_none : (f : Name → Bool) (xs : List Name) → None ≡ slice_get xs 0 → first_of (filter f xs) ≡ None
first_none f [] is = refl
first_none f (x ∷ xs) is = absurd (none-some x is)

-- the first of a queue, from the names that are kept for it
pub queue_first : (s : Store) (pid : Pid) (at : ℕ) (names : List Name) (found : Option Name) → IsIndexed s → IsAt s pid at →
    names ≡ get_or s.queues.items at names → found ≡ first_of (filter (queued_at (exchanges_by s.places s.sends.items) pid) names) →
    found ≡ first_of (queue_of (kernel_in s) pid)
unfolding queue_of
queue_first s pid at names found indexed here is first =
    first
    ∙ ap (λ ns. first_of (filter (queued_at (exchanges_by s.places s.sends.items) pid) ns))
    (sym (list_at_is s.places s.queues.items pid at names here.place here.queues is))
    ∙ ap first_of (indexed.waiting pid (ap is_some here.place)).queue

-- where the Sends and the indexes stay
pub indexed_same : (s t : Store) → t.places ≡ s.places → length t.procs.items ≡ length s.procs.items → t.sends.items ≡ s.sends.items →
    length t.asked.items ≡ length s.asked.items →
    t.arrived ≡ s.arrived → t.queues.items ≡ s.queues.items → t.latest.items ≡ s.latest.items → IsIndexed s → IsIndexed t
indexed_same s t places procs sends asked arrived queues latest old =
    indexed_later s t places procs (ap length sends) asked arrived queues latest
    (λ pid. let same = ap (λ (ss : List Exchange). length ss) (λ i. list_at (places i) (sends i) pid) in omega arith)
    (λ n y there. (y, (λ i. exchanges_by (sym places i) (sym sends i) n) ∙ there, refl, same_stage y.stage, refl)) old

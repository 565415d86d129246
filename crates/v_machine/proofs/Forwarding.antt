-- Forwards: what the machine's lists are after one.
use Rattle.std.proofs.Common.{◌≡◌, ℕ, ◌<◌, ◌≤◌, ◌==◌, true, false, List, [], ◌∷◌, ◌++◌, length, get_or, set, length-set, Some, Option, refl, sym, ap, subst, ◌∙◌, inl, inr, arith, if◌then◌else◌}
use Rattle.std.proofs.lemmas.Bool.{cases_Bool, both_ways, and_from, and_right, or_right, eq-eqb, eqb-true, cond-true, cond-false}
use Rattle.std.proofs.lemmas.Option.{same_Some, slice_get-get_or}
use Rattle.std.specs.List.{list_any}
use Rattle.vk_types.specs.Types.{Exchange, Message, Name, Pid, Stage}
use Rattle.vk_base.specs.declared.kernel.Stage.TheVariants as stages
use Rattle.vk_base.specs.Kernel.{Kernel, name_of, held, same_name, without, holds_of, is_taken, is_queued, is_queued_at, is_at_target, is_posted, put_exchange}
use Rattle.vk_base.specs.Pids.{same_pid}
use Rattle.v_laws.proofs.Held.{holding_is}
use Rattle.v_laws.proofs.Tables.{same_pid_is, put_exchange_at, put_exchange_other, same_name_self}
use Rattle.v_laws.proofs.Without.{without_gone, without_from, without_left}
use Rattle.v_machine.specs.declared.tables.latest.Latest.{Latest}
use Rattle.v_machine.specs.declared.tables.Store.{Store}
use Rattle.v_machine.specs.Kept.{IsKept, IsIndexed, IsAt, kernel_in, latest_by, queued_at}
use Rattle.v_machine.specs.Latest.{latest_in}
use Rattle.v_machine.specs.Lists.{change_numbered}
use Rattle.v_machine.specs.Rules.{IsTaken, Stays}
use Rattle.v_machine.specs.Sends.{handed_on}
use Rattle.v_machine.specs.Tables.{kernel_of, exchanges_by}
use Rattle.v_machine.proofs.Arrivals.{Others, indexed_arrived}
use Rattle.v_machine.proofs.Indexes.{indexed_cleaned, list_at_is, same_stage}
use Rattle.v_machine.proofs.KernelLemmas.{exchanges-change, set_self, sent_there}
use Rattle.v_machine.proofs.PlaceLemmas.{get-set_same, some_at}
use Rattle.v_machine.proofs.TableLemmas.{length-change, numbered_low}

-- a name that is not queued is taken out of a queue
pub way_stays : (s t : Store) (pid : Pid) (to : ℕ) (name : Name) (names : List Name) → IsAt s pid to →
    names ≡ get_or s.queues.items to names → t.places ≡ s.places → t.procs.items ≡ s.procs.items → t.sends.items ≡ s.sends.items →
    t.asked.items ≡ s.asked.items → t.names.items ≡ s.names.items → t.arrived ≡ s.arrived →
    t.queues.items ≡ set s.queues.items to (without name names) → t.latest.items ≡ s.latest.items →
    queued_at (exchanges_by s.places s.sends.items) pid name ≡ false → IsIndexed s → Stays s t
way_stays s t pid to name names here is places procs sends asked registered arrived queues latest idle old = record {
  tables = λ noted i. record {
    pids = places i;
    procs = procs i;
    sends = sends i;
    asked = asked i;
    names = registered i;
    arrived = arrived i;
    noted = noted;
  };
  indexed = indexed_cleaned s t pid to names (without name names) here is places (ap length procs) sends (ap length asked) arrived queues
      latest (without_left (queued_at (exchanges_by s.places s.sends.items) pid) name names idle) (λ n t. without_from n name names t) old;
}

pub way_absent : (queues : List (List Name)) (to : ℕ) (name : Name) (names ns : List Name) → to < length queues →
    ns ≡ get_or (set queues to (without name names)) to ns → list_any (same_name name) ns ≡ false
way_absent queues to name names ns low is =
    let left = without name names in
    let one = same_Some ns left (ap Some is
    ∙ sym (slice_get-get_or (set queues to left) to ns (subst (λ n. to < n) (sym (length-set queues to left)) low))
    ∙ get-set_same queues to left low) in
    ap (list_any (same_name name)) one ∙ without_gone name names

taken_not_queued : (s : Stage) → is_taken s ≡ true → is_queued s ≡ false
taken_not_queued stages.Queued t = absurd (both_ways false refl t)
taken_not_queued s t = refl

-- what is held is queued nowhere
pub held_idle : (exchanges : Name → Option Exchange) (r : Pid) (name : Name) (e : Exchange) → exchanges name ≡ Some e →
    is_taken e.stage ≡ true → queued_at exchanges r name ≡ false
held_idle exchanges r name e is taken =
    ap (holds_of (is_queued_at r)) is ∙ and_right (same_pid e.at r) (is_queued e.stage) (taken_not_queued e.stage taken)

-- where way was made for the name of a Send that is held
pub way_made : (s t : Store) (pid from to : Pid) (there number : ℕ) → IsKept s → held (kernel_in s) pid from ≡ Some number →
    IsAt s to there → ((q : Pid) → IsIndexed s → IsAt s q there → queued_at (kernel_in s).exchanges q (name_of from number) ≡ false →
    Stays s t) → Stays s t
way_made s t pid from to there number kept holds here made =
    let x = holding_is (kernel_in s) pid from number holds in
    made to kept.indexed here (held_idle (kernel_in s).exchanges to (name_of from number) x.exchange x.is x.taken)

pub taken_there : (s t : Store) (pid from : Pid) (number : ℕ) → held (kernel_in s) pid from ≡ Some number → Stays s t →
    IsTaken (kernel_in t) (name_of from number)
taken_there s t pid from number holds stays =
    let x = holding_is (kernel_in s) pid from number holds in
    record {
      exchange = x.exchange;
      is = ap (λ (k : Kernel). k.exchanges (name_of from number)) (ap kernel_of (stays.tables 0)) ∙ x.is;
      taken = x.taken;
    }

-- the message of a Send that is held comes to another queue
module _ (s : Store) (at to : ℕ) (name : Name) (pid : Pid) (e : Exchange) (m : Message) (kept : IsKept s) (here : IsAt s name.sender at)
    (there : IsAt s pid to) (is : (kernel_in s).exchanges name ≡ Some e) (taken : is_taken e.stage ≡ true) where
  after : Name → Option Exchange
  after = put_exchange (exchanges_by s.places s.sends.items) name (handed_on m pid e)

  -- it is the latest of its sender to its target's host
  latest_is : name.number ≡ latest_by s.places s.latest.items name.sender e.target.host
  latest_is = (kept.indexed.open_last name e is).live (or_right (is_queued e.stage) (is_taken e.stage) taken)

  others : Others (exchanges_by s.places s.sends.items) after name
  unfolding after
  others n y f there =
      let was = sym (put_exchange_other (exchanges_by s.places s.sends.items) name (handed_on m pid e) n f) ∙ there in
      (y, was, refl, same_stage y.stage, refl)

  rest : (n : Name) (y : Exchange) → same_name n name ≡ false → after n ≡ Some y → same_pid n.sender name.sender ≡ true →
      (y.target.host == e.target.host) ≡ true → (is_at_target y.stage ≡ true → ⊥) × (is_posted y.stage ≡ true → name.number ≤ n.number)
  unfolding after
  rest n y f there mine host =
      let was = kept.indexed.open_last n y
      (sym (put_exchange_other (exchanges_by s.places s.sends.items) name (handed_on m pid e) n f) ∙ there) in
      let one : latest_by s.places s.latest.items n.sender y.target.host ≡ name.number =
      (λ i. latest_by s.places s.latest.items (same_pid_is n.sender name.sender mine i) (eqb-true y.target.host e.target.host host i))
      ∙ sym latest_is in (
        λ u. both_ways (same_name n name) f (and_from (same_pid n.sender name.sender) (n.number == name.number) mine
            (eq-eqb n.number name.number (was.live u ∙ one))),
        λ u. subst (λ n0. n0 ≤ n.number) one (was.posted u),
      )

  pub indexed_forwarded : (t : Store) (s0 s' : List Exchange) (names : List Name) → t.places ≡ s.places →
      length t.procs.items ≡ length s.procs.items → length t.asked.items ≡ length s.asked.items →
      s0 ≡ get_or s.sends.items at s0 → t.sends.items ≡ set s.sends.items at s' → s' ≡ change_numbered name.number (handed_on m pid) s0 →
      t.arrived ≡ without name s.arrived ++ name ∷ [] → list_any (same_name name) names ≡ false →
      names ≡ get_or s.queues.items to names → t.queues.items ≡ set s.queues.items to (names ++ name ∷ []) →
      t.latest.items ≡ s.latest.items → IsIndexed t
  unfolding after
  indexed_forwarded t s0 s' names places procs asked stands sends changed arrived absent waits queues latest =
      let x = some_at s.latest.items at here.latest in
      let l = x.0 in
      let mine : l ≡ get_or s.latest.items at l =
      same_Some l (get_or s.latest.items at l) (sym x.1 ∙ slice_get-get_or s.latest.items at l here.latest) in
      let number : latest_in l e.target.host ≡ name.number =
      ap (λ ls. latest_in ls e.target.host) (sym (list_at_is s.places s.latest.items name.sender at l here.place here.latest mine))
      ∙ sym latest_is in
      let sent = sym (sent_there s.places s.procs.items s.sends.items s.asked.items name.sender at s0 name.number here.place here.sends
      stands) ∙ is in
      let even = ap length changed ∙ length-change (handed_on m pid) name.number s0 in
      let low = (numbered_low s0 name.number e sent).1 in
      let begun = ap length (list_at_is s.places s.sends.items name.sender at s0 here.place here.sends stands) in
      indexed_arrived s t name.sender at to name.number (handed_on m pid e) after here there kept.indexed
      (put_exchange_at (exchanges_by s.places s.sends.items) name (handed_on m pid e) name (same_name_self name)) refl others rest s' names
      l l places procs asked sends (omega (arith, even, low)) (omega (arith, even, begun))
      (exchanges-change s.places s.procs.items s.sends.items s.asked.items (handed_on m pid) name.sender at name.number s0 s' e here.place
      here.sends stands is changed) arrived absent waits queues mine (latest ∙ sym (set_self s.latest.items at l mine))
      (λ h. by_host l number h)
    where
      by_host : (l : List Latest) → latest_in l e.target.host ≡ name.number → (h : ℕ) →
          latest_in l h ≡ (if h == e.target.host then name.number else latest_in l h)
      by_host l number h = elim (cases_Bool (h == e.target.host)) [
        | inl t ↦ ap (latest_in l) (eqb-true h e.target.host t) ∙ number
            ∙ sym (cond-true (h == e.target.host) name.number (latest_in l h) t)
        | inr f ↦ sym (cond-false (h == e.target.host) name.number (latest_in l h) f)
      ]

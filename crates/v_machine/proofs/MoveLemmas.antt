-- Changes of moves.
use Rattle.std.proofs.Common.{◌≡◌, ℕ, ◌<◌, List, length, get_or, set, length-set, refl, sym, ap, subst, ◌∙◌}
use Rattle.std.proofs.lemmas.List.{set-get_or}
use Rattle.std.specs.Vec.{with_item}
use Rattle.vk_types.specs.Types.{Exchange}
use Rattle.v_machine.specs.declared.tables.Store.{Store}
use Rattle.v_machine.specs.Kept.{IsIndexed, IsNoNearer, tables_in}
use Rattle.v_machine.specs.Lists.{change_numbered}
use Rattle.v_machine.specs.Moves.{Puts}
use Rattle.v_machine.specs.Rules.{Stays}
use Rattle.v_machine.proofs.Indexes.{indexed_later, indexed_same, put_no_nearer, same_stage}
use Rattle.v_machine.proofs.KernelLemmas.{kernel-exchange, exchanges-change, sends_even}

-- a Send that is changed, but for its target, its place and its stage
pub puts : (s : Store) (f : Exchange → Exchange) (at number : ℕ) (x x' : List Exchange) → ((e : Exchange) → (f e).target ≡ e.target) →
    ((e : Exchange) → (f e).at ≡ e.at) →
    ((e : Exchange) → (f e).stage ≡ e.stage) →
    at < length s.sends.items → x ≡ get_or s.sends.items at x → x' ≡ change_numbered number f x →
    Puts f at number s (record s { sends = with_item s.sends at x' })
puts s f at number x x' target held stage low there changed = λ pid e place at_name. (
  kernel-exchange s.places s.procs.items s.sends.items s.asked.items s.names.items s.arrived f pid at number x x' e place low there
      at_name changed,
  λ old. indexed_later s _ refl refl (length-set s.sends.items at x') refl refl refl refl
      (sends_even s.places s.procs.items s.sends.items s.asked.items f at number x x' low there changed)
      (put_no_nearer _ _ _ e (f e) at_name (exchanges-change s.places s.procs.items s.sends.items s.asked.items f pid at number x x' e place
      low there at_name changed) (target e) (held e) (subst (IsNoNearer e.stage) (sym (stage e)) (same_stage e.stage))) old,
)

-- the Sends of a place that stay as they were
pub stays_itself : (s : Store) (at : ℕ) (x x' : List Exchange) → x ≡ get_or s.sends.items at x → x' ≡ x → IsIndexed s →
    Stays s (record s { sends = with_item s.sends at x' })
stays_itself s at x x' there same indexed =
    let items : set s.sends.items at x' ≡ s.sends.items = ap (set s.sends.items at) (same ∙ there) ∙ set-get_or s.sends.items at x in
    record {
      tables = λ noted. ap (λ xs. record (tables_in s noted) { sends = xs }) items;
      indexed = indexed_same s _ refl refl items refl refl refl refl indexed;
    }

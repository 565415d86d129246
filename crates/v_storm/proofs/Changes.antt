-- Changes of a view that leave it plain.
use Rattle.std.proofs.Common.{◌≡◌, ℕ, true, ◌==◌, List, Option, Some, option_map, sym, ap, subst, ◌∙◌, inl, inr}
use Rattle.std.proofs.lemmas.Bool.{cases_Bool}
use Rattle.std.proofs.lemmas.Option.{same_Some}
use Rattle.vk_types.specs.Types.{Exchange, Name, Pid, Process, Stage}
use Rattle.vk_base.specs.Kernel.{Kernel, same_name, put_process, put_exchange}
use Rattle.vk_base.specs.Pids.{same_pid}
use Rattle.vk_base.proofs.OptionLemmas.{mapped_is}
use Rattle.v_laws.proofs.Tables.{same_pid_is, same_name_is, put_process_at, put_process_other, put_exchange_at, put_exchange_other}
use Rattle.v_storm.proofs.Views.{IsPlainExchange, IsPlainState, IsPlainView}

-- exchanges
abbrev pub ArePlain : (Name → Option Exchange) → Type 0
ArePlain xs = (n : Name) (e : Exchange) → xs n ≡ Some e → IsPlainExchange n e

pub plain_put : (xs : Name → Option Exchange) (name : Name) (y : Exchange) → ArePlain xs → IsPlainExchange name y →
    ArePlain (put_exchange xs name y)
plain_put xs name y plain here n e is = elim (cases_Bool (same_name n name)) [
  | inl t ↦
      subst (λ z. IsPlainExchange z e) (sym (same_name_is n name t))
      (subst (IsPlainExchange name) (same_Some y e (sym (put_exchange_at xs name y n t) ∙ is)) here)
  | inr f ↦ plain n e (sym (put_exchange_other xs name y n f) ∙ is)
]

pub plain_map : (xs : Name → Option Exchange) (f : Name → Exchange → Exchange) → ArePlain xs →
    ((n : Name) (e : Exchange) → IsPlainExchange n e → IsPlainExchange n (f n e)) → ArePlain (λ n. option_map (f n) (xs n))
plain_map xs f plain each n e is =
    let x = mapped_is (f n) (xs n) e is in subst (IsPlainExchange n) x.2 (each n x.0 (plain n x.0 x.1))

pub plain_stage : (n : Name) (e : Exchange) (s : Stage) → IsPlainExchange n e → IsPlainExchange n (record e { stage = s })
plain_stage n e s is = record { sender = is.sender; target = is.target; shown = is.shown; none = is.none }

-- one process does something else, and exchanges change
pub plain_on : (host : ℕ) (k : Kernel) (pid : Pid) (p after : Process) (xs : Name → Option Exchange) (arrived : List Name) →
    IsPlainView host k → k.procs pid ≡ Some p → after.alive ≡ p.alive → IsPlainState after.state → ArePlain xs →
    IsPlainView host (record k { procs = put_process k.procs pid after; exchanges = xs; arrived = arrived })
plain_on host k pid p after xs arrived v at same state plain = record {
  states = λ q x is. elim (cases_Bool (same_pid q pid)) [
    | inl t ↦ subst (λ (z : Process). IsPlainState z.state) (same_Some after x (sym (put_process_at k.procs pid after q t) ∙ is)) state
    | inr f ↦ v.states q x (sym (put_process_other k.procs pid after q f) ∙ is)
  ];
  alive = λ q x own is. elim (cases_Bool (same_pid q pid)) [
    | inl t ↦
        subst (λ (z : Process). z.alive ≡ true) (same_Some after x (sym (put_process_at k.procs pid after q t) ∙ is))
        (same ∙ v.alive pid p (sym (ap (λ (z : Pid). z.host == host) (same_pid_is q pid t)) ∙ own) at)
    | inr f ↦ v.alive q x own (sym (put_process_other k.procs pid after q f) ∙ is)
  ];
  exchanges = plain;
  lookups = v.lookups;
}

-- exchanges alone change
pub plain_exchanges : (host : ℕ) (k : Kernel) (xs : Name → Option Exchange) (arrived : List Name) → IsPlainView host k → ArePlain xs →
    IsPlainView host (record k { exchanges = xs; arrived = arrived })
plain_exchanges host k xs arrived v plain = record { states = v.states; alive = v.alive; exchanges = plain; lookups = v.lookups }

-- Sends that have not ended.
use Rattle.std.proofs.Common.{◌≡◌, ℕ, ◌<◌, false, get_or, length, List, Some, sym, ap, ◌∙◌}
use Rattle.vk_types.specs.Types.{Exchange, Pid}
use Rattle.vk_base.specs.Kernel.{holds_of, held, name_of}
use Rattle.v_laws.proofs.Held.{holding_is}
use Rattle.v_machine.specs.declared.tables.Store.{Store}
use Rattle.v_machine.specs.Kept.{IsAt, kernel_in}
use Rattle.v_machine.specs.Places.{numbered, place_in}
use Rattle.v_machine.specs.Rules.{IsLive, IsTaken}
use Rattle.v_machine.specs.Spent.{has_ended}
use Rattle.v_machine.proofs.Current.{taken_open}
use Rattle.v_machine.proofs.KernelLemmas.{sent_there}

-- one that is held
pub live_held : (s : Store) (pid to : Pid) (number at : ℕ) → held (kernel_in s) pid to ≡ Some number → place_in s.places to ≡ Some at →
    IsLive s at number
live_held s pid to number at holds place =
    let x = holding_is (kernel_in s) pid to number holds in
    (to, place, ap (holds_of has_ended) x.is ∙ taken_open x.exchange x.taken)

-- in its list
pub live_there : (s : Store) (at number : ℕ) (xs : List Exchange) → at < length s.sends.items → xs ≡ get_or s.sends.items at xs →
    IsLive s at number → holds_of has_ended (numbered xs number) ≡ false
live_there s at number xs low is live =
    ap (holds_of has_ended) (sym (sent_there s.places s.procs.items s.sends.items s.asked.items live.0 at xs number live.1 low is)) ∙ live.2

pub live_taken : (s : Store) (sender : Pid) (at number : ℕ) (xs : List Exchange) → IsAt s sender at → xs ≡ get_or s.sends.items at xs →
    IsTaken (kernel_in s) (name_of sender number) → holds_of has_ended (numbered xs number) ≡ false
live_taken s sender at number xs here is held = live_there s at number xs here.sends is
    (sender, here.place, ap (holds_of has_ended) held.is ∙ taken_open held.exchange held.taken)

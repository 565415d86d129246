-- What plain packets bring leaves a plain view plain.
use Rattle.std.proofs.Common.{◌≡◌, ℕ, true, false, ◌==◌, List, [], ◌∷◌, fold, Option, Some, None, option_map, refl, sym, ap, subst, ◌∙◌, inl, inr}
use Rattle.std.proofs.lemmas.Bool.{both_ways, cases_Bool}
use Rattle.std.proofs.lemmas.Option.{same_Some}
use Rattle.vk_types.specs.Types.{Exchange, Message, Name, Pid, Process, Step}
use Rattle.vk_base.specs.declared.kernel.Stage.TheVariants as stages
use Rattle.vk_base.specs.Brought.{answered_by, brought, found_dead, posted, sender_heard, settled}
unfoldable use Rattle.vk_base.specs.Changes.{change_exchange, change_process}
use Rattle.vk_base.specs.Kernel.{Kernel, name_of, same_name}
use Rattle.vk_base.specs.Packets.{Packet, Send, Reply, Pending, Negative}
use Rattle.vk_base.specs.Pids.{same_pid}
use Rattle.vk_base.specs.Steps.{next}
use Rattle.vk_base.proofs.OptionLemmas.{mapped_is}
use Rattle.v_laws.proofs.Options.{of_either}
use Rattle.v_laws.proofs.StepLemmas.{IsNoCall}
use Rattle.v_laws.proofs.Tables.{same_pid_is, put_process_at, put_process_other}
use Rattle.vk_rules.specs.Each.{Each}
use Rattle.vk_rules.specs.Frames.{source_of}
use Rattle.vk_rules.specs.View.{after_steps}
use Rattle.v_storm.proofs.Views.{IsPlainExchange, IsPlainPacket, IsPlainState, IsPlainView}
use Rattle.v_storm.proofs.Changes.{ArePlain, plain_put, plain_stage}
use Rattle.v_storm.proofs.Steps.{steps_plain}

-- a process of another station changes, and its state stays plain
heard_state : (number : ℕ) (o : Option Process) → ((p : Process) → o ≡ Some p → IsPlainState p.state) →
    IsPlainState (sender_heard number o).state
heard_state number None plain = tt
heard_state number (Some p) plain = plain p refl

not_own : (host : ℕ) (from q : Pid) → (from.host == host) ≡ false → (q.host == host) ≡ true → q ≡ from → ⊥
not_own host from q far own same = both_ways (from.host == host) far (ap (λ (z : Pid). z.host == host) (sym same) ∙ own)

sent_brought : (host : ℕ) (k : Kernel) (from to : Pid) (number : ℕ) (m : Message) (part : List ℕ) → (from.host == host) ≡ false →
    IsPlainPacket (Send from to number m part) → IsPlainView host k → IsPlainView host (brought k (Send from to number m part))
sent_brought host k from to number m part far plain v = record {
  states = λ q x is. elim (cases_Bool (same_pid q from)) [
    | inl t ↦
        subst (λ (z : Process). IsPlainState z.state)
        (same_Some (sender_heard number (k.procs from)) x (sym (put_process_at k.procs from (sender_heard number (k.procs from)) q t) ∙ is))
        (heard_state number (k.procs from) (v.states from))
    | inr f ↦ v.states q x (sym (put_process_other k.procs from (sender_heard number (k.procs from)) q f) ∙ is)
  ];
  alive = λ q x own is. elim (cases_Bool (same_pid q from)) [
    | inl t ↦ absurd (not_own host from q far own (same_pid_is q from t))
    | inr f ↦ v.alive q x own (sym (put_process_other k.procs from (sender_heard number (k.procs from)) q f) ∙ is)
  ];
  exchanges = plain_put k.exchanges (name_of from number) (posted to m part) v.exchanges
      (record { sender = plain.0; target = plain.1; shown = plain.2; none = refl });
  lookups = v.lookups;
}

changed_plain : (xs : Name → Option Exchange) (name : Name) (f : Exchange → Exchange) → ArePlain xs →
    ((n : Name) (e : Exchange) → IsPlainExchange n e → IsPlainExchange n (f e)) → ArePlain (change_exchange xs name f)
unfolding change_exchange
changed_plain xs name f plain each n e is =
    of_either (IsPlainExchange n) (same_name n name) (option_map f (xs n)) (xs n) e
    (λ t h. let x = mapped_is f (xs n) e h in subst (IsPlainExchange n) x.2 (each n x.0 (plain n x.0 x.1)))
    (λ t h. plain n e h) is

dead_brought : (host : ℕ) (k : Kernel) (from : Pid) → (from.host == host) ≡ false → IsPlainView host k →
    IsPlainView host (record k { procs = change_process k.procs from found_dead })
unfolding change_process
dead_brought host k from far v = record {
  states = λ q x is. of_either (λ (z : Process). IsPlainState z.state) (same_pid q from) (option_map found_dead (k.procs q)) (k.procs q) x
      (λ t h. let p = mapped_is found_dead (k.procs q) x h in
      subst (λ (z : Process). IsPlainState z.state) p.2 (v.states q p.0 p.1))
      (λ t h. v.states q x h) is;
  alive = λ q x own is. of_either (λ (z : Process). z.alive ≡ true) (same_pid q from) (option_map found_dead (k.procs q)) (k.procs q) x
      (λ t h. absurd (not_own host from q far own (same_pid_is q from t)))
      (λ t h. v.alive q x own h) is;
  exchanges = v.exchanges;
  lookups = v.lookups;
}

pub brought_plain : (host : ℕ) (k : Kernel) (p : Packet) → (source_of p == host) ≡ false → IsPlainPacket p → IsPlainView host k →
    IsPlainView host (brought k p)
brought_plain host k (Send from to number m part) far plain v = sent_brought host k from to number m part far plain v
brought_plain host k (Reply from to number m dest bytes) far plain v = record {
  states = v.states;
  alive = v.alive;
  exchanges = changed_plain k.exchanges (name_of to number) (answered_by m dest bytes) v.exchanges
      (λ n e is. plain_stage n e (stages.Replied m dest bytes) is);
  lookups = v.lookups;
}
brought_plain host k (Pending from to number) far plain v = v
brought_plain host k (Negative from to number) far plain v = dead_brought host k from far v
brought_plain host k p far plain v = absurd plain

settled_plain : (host : ℕ) (before k : Kernel) (p : Packet) → IsPlainPacket p → IsPlainView host k → IsPlainView host (settled before p k)
settled_plain host before k (Send from to number m part) plain v = v
settled_plain host before k (Reply from to number m dest bytes) plain v = v
settled_plain host before k (Pending from to number) plain v = v
settled_plain host before k (Negative from to number) plain v = v
settled_plain host before k p plain v = absurd plain

pub after_plain : (host : ℕ) (k : Kernel) (p : Packet) (ss : List Step) → (source_of p == host) ≡ false → IsPlainPacket p →
    Each IsNoCall ss → IsPlainView host k → IsPlainView host (after_steps k (Some p) ss)
after_plain host k p [] far plain quiet v = v
after_plain host k p (y ∷ ys) far plain quiet v =
    settled_plain host k (fold next (brought k p) (y ∷ ys)) p plain
    (steps_plain host (brought k p) (y ∷ ys) quiet (brought_plain host k p far plain v))

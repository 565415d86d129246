-- What a Send of another station brings into the view of a station leaves the view sound.
use Rattle.std.proofs.Common.{◌≡◌, ℕ, ◌<◌, ◌≤◌, max, Bool, true, false, cond, not, ◌==◌, ◌&&◌, ◌||◌, List, [], ◌∷◌, refl, ap, sym, ◌∙◌, subst, Option, Some, None, is_some, inl, inr, arith}
use Rattle.std.specs.List.{list_any}
use Rattle.std.proofs.lemmas.Bool.{cases_Bool, and_parts, both_ways, eqb-true, false_from_ne_true, eq-eqb, not-true}
use Rattle.std.proofs.lemmas.Option.{same_Some, none-some}
use Rattle.vk_types.specs.Types.{Exchange, Message, Name, Pid, Process}
use Rattle.vk_base.specs.declared.kernel.State.TheVariants as states
use Rattle.vk_base.specs.Brought.{brought, posted, sender_heard}
use Rattle.vk_base.specs.Kernel.{Kernel, is_at_target, is_live, is_posted, is_ready, name_of, same_name, sending, without}
use Rattle.vk_base.specs.Packets.{Send}
use Rattle.vk_base.specs.Pids.{same_host, same_pid}
use Rattle.vk_base.proofs.PidLemmas.{same_pid_self}
use Rattle.v_laws.specs.Sound.{IsAwaited, IsBegun, IsSent, IsSoundAt, IsUnderWay, has_arrived}
use Rattle.v_laws.proofs.Changes.{IsOrderly}
use Rattle.v_laws.proofs.FilterLemmas.{distinct_filter, none_kept}
use Rattle.v_laws.proofs.SoundChanges.{orderly_where}
use Rattle.v_laws.proofs.Tables.{put_exchange_at, put_exchange_other, put_process_at, put_process_other, same_name_is, same_name_laws, same_pid_is}

-- processes of different hosts are not the same
pub apart_hosts : (p q : Pid) → (p.host ≡ q.host → ⊥) → same_pid p q ≡ false
apart_hosts p q ne = false_from_ne_true (same_pid p q) (λ same. ne (ap (λ (x : Pid). x.host) (same_pid_is p q same)))

-- A name that is let out leaves all others.
any_by : (n name x : Name) (rest kept : Bool) (b : Bool) → same_name x name ≡ b → same_name n name ≡ false → kept ≡ rest →
    cond (not b) (same_name n x || kept) kept ≡ (same_name n x || rest)
any_by n name x rest kept true same other is =
    is ∙ sym (ap (λ y. same_name n y || rest) (same_name_is x name same) ∙ ap (λ b. b || rest) other)
any_by n name x rest kept false apart other is = ap (λ b. same_name n x || b) is

any_cond : (test : Name → Bool) (b : Bool) (x : Name) (xs : List Name) →
    list_any test (cond b (x ∷ xs) xs) ≡ cond b (test x || list_any test xs) (list_any test xs)
any_cond test true x xs = refl
any_cond test false x xs = refl

pub any_without : (n name : Name) (ns : List Name) → same_name n name ≡ false →
    list_any (same_name n) (without name ns) ≡ list_any (same_name n) ns
any_without n name [] other = refl
any_without n name (x ∷ ns) other =
    any_cond (same_name n) (not (same_name x name)) x (without name ns)
    ∙ any_by n name x (list_any (same_name n) ns) (list_any (same_name n) (without name ns)) (same_name x name) refl other
    (any_without n name ns other)

pub none_without : (n name : Name) (ns : List Name) → same_name n name ≡ true → list_any (same_name n) (without name ns) ≡ false
none_without n name ns same = none_kept (same_name n) (λ x. not (same_name x name)) ns
    (λ x kept. ap (λ y. same_name y x) (same_name_is n name same) ∙ same_name_laws.symm name x ∙ not-true (same_name x name) kept)

-- The sender, of which the Send was heard.
module _ (number : ℕ) where
  heard_number : (o : Option Process) → number ≤ (sender_heard number o).sends
  heard_number None = omega arith
  heard_number (Some p) = omega arith

  heard_more : (o : Option Process) (p : Process) → o ≡ Some p → p.sends ≤ (sender_heard number o).sends
  heard_more None p is = absurd (none-some p is)
  heard_more (Some q) p is = subst (λ x. x.sends ≤ max q.sends number) (same_Some q p is) (omega arith)

  heard_ready : (o : Option Process) → ((p : Process) → o ≡ Some p → p.state ≡ states.Ready) → (sender_heard number o).state ≡ states.Ready
  heard_ready None ready = refl
  heard_ready (Some p) ready = ready p refl

  heard_live : (o : Option Process) → (sender_heard number o).alive ≡ is_live o
  heard_live None = refl
  heard_live (Some p) = refl

module _ (host : ℕ) (k : Kernel) (sound : IsSoundAt (λ g. false) k)
    (elsewhere : (pid : Pid) (p : Process) → (pid.host ≡ host → ⊥) → k.procs pid ≡ Some p → p.state ≡ states.Ready)
    (from to : Pid) (number : ℕ) (m : Message) (part : List ℕ) (foreign : from.host ≡ host → ⊥) (own : to.host ≡ host)
    (some : 0 < number) where
  abbrev name : Name
  name = name_of from number

  abbrev l : Kernel
  l = brought k (Send from to number m part)

  abbrev heard : Process
  heard = sender_heard number (k.procs from)

  abbrev x : Exchange
  x = posted to m part

  at_from : (q : Pid) → same_pid q from ≡ true → l.procs q ≡ Some heard
  at_from q same = put_process_at k.procs from heard q same

  pub at_others : (q : Pid) → same_pid q from ≡ false → l.procs q ≡ k.procs q
  at_others q other = put_process_other k.procs from heard q other

  is_heard : (q : Pid) (p : Process) → same_pid q from ≡ true → l.procs q ≡ Some p → heard ≡ p
  is_heard q p same is = same_Some heard p (sym (at_from q same) ∙ is)

  ready : heard.state ≡ states.Ready
  ready = heard_ready number (k.procs from) (λ p is. elsewhere from p foreign is)

  at_name : (n : Name) (e : Exchange) → same_name n name ≡ true → l.exchanges n ≡ Some e → x ≡ e
  at_name n e same is = same_Some x e (sym (put_exchange_at k.exchanges name x n same) ∙ is)

  pub other_names : (n : Name) → same_name n name ≡ false → l.exchanges n ≡ k.exchanges n
  other_names n other = put_exchange_other k.exchanges name x n other

  was : (n : Name) (e : Exchange) → same_name n name ≡ false → l.exchanges n ≡ Some e → k.exchanges n ≡ Some e
  was n e other is = sym (other_names n other) ∙ is

  not_near : (n : Name) (e : Exchange) → same_name n name ≡ true → l.exchanges n ≡ Some e → is_at_target e.stage ≡ true → ⊥
  not_near n e same is near =
      both_ways (is_at_target e.stage) (ap (λ (z : Exchange). is_at_target z.stage) (sym (at_name n e same is))) near

  sender_same : (n : Name) → same_name n name ≡ true → same_pid n.sender from ≡ true
  sender_same n same = (and_parts (same_pid n.sender from) (n.number == number) same).0

  begun_here : IsBegun l name
  begun_here = record {
    process = heard;
    is = at_from from (same_pid_self from);
    first = some;
    last = heard_number number (k.procs from);
  }

  begun_still : (n : Name) → IsBegun k n → IsBegun l n
  begun_still n b = elim (cases_Bool (same_pid n.sender from)) [
    | inl same ↦
        let more : b.process.sends ≤ heard.sends = heard_more number (k.procs from) b.process
        (ap k.procs (sym (same_pid_is n.sender from same)) ∙ b.is) in
        let low : n.number ≤ b.process.sends = b.last in
        record { process = heard; is = at_from n.sender same; first = b.first; last = omega (arith, more, low) }
    | inr other ↦ record { process = b.process; is = at_others n.sender other ∙ b.is; first = b.first; last = b.last }
  ]

  begun : (n : Name) (e : Exchange) → l.exchanges n ≡ Some e → IsBegun l n
  begun n e is = elim (cases_Bool (same_name n name)) [
    | inl same ↦ subst (IsBegun l) (sym (same_name_is n name same)) begun_here
    | inr other ↦ begun_still n (sound.begun n e (was n e other is))
  ]

  awaited_still : (n : Name) (e : Exchange) → IsAwaited k n e → IsAwaited l n e
  awaited_still n e w = elim (cases_Bool (same_pid n.sender from)) [
    | inl same ↦
        let away : n.sender.host ≡ host → ⊥ = λ here. foreign (sym (ap (λ (p : Pid). p.host) (same_pid_is n.sender from same)) ∙ here) in
        let both = sym (elsewhere n.sender w.process away w.is) ∙ w.blocked in
        absurd (cc)
    | inr other ↦ record {
      process = w.process;
      is = at_others n.sender other ∙ w.is;
      alive = w.alive;
      blocked = w.blocked;
      last = w.last;
    }
  ]

  awaited : (n : Name) (e : Exchange) → l.exchanges n ≡ Some e → same_host n.sender e.target ≡ true → is_at_target e.stage ≡ true →
      IsAwaited l n e
  awaited n e is local near = elim (cases_Bool (same_name n name)) [
    | inl same ↦ absurd (not_near n e same is near)
    | inr other ↦ awaited_still n e (sound.awaited n e (was n e other is) local near)
  ]

  known : (n : Name) → has_arrived l n ≡ true → is_some (l.exchanges n) ≡ true
  known n there = elim (cases_Bool (same_name n name)) [
    | inl same ↦ ap is_some (put_exchange_at k.exchanges name x n same)
    | inr other ↦ ap is_some (other_names n other) ∙ sound.known n (sym (any_without n name k.arrived other) ∙ there)
  ]

  hosts_apart : same_host from to ≡ false
  hosts_apart = false_from_ne_true (same_host from to) (λ same. foreign (eqb-true from.host to.host same ∙ own))

  under_way : (n : Name) (e : Exchange) → l.exchanges n ≡ Some e → is_posted e.stage ≡ true → IsUnderWay l n e
  under_way n e is away = elim (cases_Bool (same_name n name)) [
    | inl same ↦ record {
      remote = ap (λ p. same_host p e.target) (same_pid_is n.sender from (sender_same n same))
          ∙ ap (λ (z : Exchange). same_host from z.target) (sym (at_name n e same is)) ∙ hosts_apart;
      away = none_without n name k.arrived same;
      at = ap (λ (z : Exchange). z.at) (sym (at_name n e same is)) ∙ ap (λ (z : Exchange). z.target) (at_name n e same is);
      shown = ap (λ (z : Exchange). z.shown) (sym (at_name n e same is)) ∙ ap (λ (z : Exchange). z.message) (at_name n e same is);
    }
    | inr other ↦
        let u = sound.posted n e (was n e other is) away in
        record { remote = u.remote; away = any_without n name k.arrived other ∙ u.away; at = u.at; shown = u.shown }
  ]

  near : (n : Name) (e : Exchange) → l.exchanges n ≡ Some e → same_host e.target e.at ≡ true
  near n e is = elim (cases_Bool (same_name n name)) [
    | inl same ↦ ap (λ (z : Exchange). same_host z.target z.at) (sym (at_name n e same is)) ∙ eq-eqb to.host to.host refl
    | inr other ↦ sound.near n e (was n e other is)
  ]

  came : (n : Name) (e : Exchange) → l.exchanges n ≡ Some e → is_at_target e.stage ≡ true → has_arrived l n ≡ true
  came n e is near = elim (cases_Bool (same_name n name)) [
    | inl same ↦ absurd (not_near n e same is near)
    | inr other ↦ any_without n name k.arrived other ∙ sound.came n e (was n e other is) near
  ]

  resting : (pid : Pid) (p : Process) → l.procs pid ≡ Some p → p.alive ≡ false → is_ready p.state ≡ true
  resting pid p is dead = elim (cases_Bool (same_pid pid from)) [
    | inl same ↦ ap (λ (q : Process). is_ready q.state) (sym (is_heard pid p same is)) ∙ ap is_ready ready
    | inr other ↦ sound.resting pid p (sym (at_others pid other) ∙ is) dead
  ]

  sent : (pid : Pid) (p : Process) (target : Pid) (msg : Message) → l.procs pid ≡ Some p → sending p.state ≡ Some (target, msg) →
      IsSent l pid p target msg
  sent pid p target msg is sends = elim (cases_Bool (same_pid pid from)) [
    | inl same ↦ absurd (none-some (target, msg)
        (sym (ap (λ (q : Process). sending q.state) (sym (is_heard pid p same is)) ∙ ap sending ready) ∙ sends))
    | inr other ↦
        let s = sound.sent pid p target msg (sym (at_others pid other) ∙ is) sends in
        record {
          exchange = s.exchange;
          is = other_names (name_of pid p.sends) (ap (λ b. b && p.sends == number) other) ∙ s.is;
          target = s.target;
          message = s.message;
        }
  ]

  pub live_still : (q : Pid) → is_live (l.procs q) ≡ is_live (k.procs q)
  live_still q = elim (cases_Bool (same_pid q from)) [
    | inl same ↦
        ap is_live (at_from q same) ∙ heard_live number (k.procs from)
        ∙ sym (ap (λ p. is_live (k.procs p)) (same_pid_is q from same))
    | inr other ↦ ap is_live (at_others q other)
  ]

  orderly : (h : ℕ) → IsOrderly l h
  orderly h = orderly_where k l h sound refl live_still

  pub sound_brought : IsSoundAt (λ g. false) l
  sound_brought = record {
    begun = begun;
    awaited = awaited;
    near = near;
    known = known;
    once = distinct_filter same_name (λ n. not (same_name n name)) k.arrived sound.once;
    posted = under_way;
    came = came;
    settled = λ sender a b e f at_e at_f less near seen gone. cc;
    resting = resting;
    sent = sent;
    registered = λ h. (orderly h).registered;
    distinct = λ h. (orderly h).distinct;
  }

  -- no process of another station waits
  pub elsewhere_still : (pid : Pid) (p : Process) → (pid.host ≡ host → ⊥) → l.procs pid ≡ Some p → p.state ≡ states.Ready
  elsewhere_still pid p away is = elim (cases_Bool (same_pid pid from)) [
    | inl same ↦ ap (λ (q : Process). q.state) (sym (is_heard pid p same is)) ∙ ready
    | inr other ↦ elsewhere pid p away (sym (at_others pid other) ∙ is)
  ]

  -- its sender has made the Send
  pub sender_is : l.procs from ≡ Some heard
  sender_is = at_from from (same_pid_self from)

  pub sends_high : number ≤ heard.sends
  sends_high = heard_number number (k.procs from)

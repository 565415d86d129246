-- Whom a process holds, by the tables and in the view.
use Rattle.std.proofs.Common.{◌≡◌, ℕ, zero, suc, ◌^◌, nat_lt, ◌<◌, ◌≤◌, Bool, true, false, cond, ◌&&◌, Option, Some, None, refl, sym, ap, subst, ◌∙◌, inl, inr, arith}
use Rattle.std.specs.Option.{option_map, is_none}
use Rattle.std.proofs.lemmas.Bool.{both_ways, and_parts, and_from, cond-true, false_from_ne_true, eq-eqb, eqb-true, ltb-true}
use Rattle.std.proofs.lemmas.Option.{same_Some, none-some}
use Rattle.vk_types.specs.Types.{Activity, Exchange, Message, Name, Pid, Process, Times}
use Rattle.vk_base.specs.declared.activity.Activity.TheVariants as activities
use Rattle.vk_base.specs.declared.activity.Waiting.TheVariants as waitings
use Rattle.vk_base.specs.declared.kernel.Stage.TheVariants as stages
use Rattle.vk_base.specs.Activities.{state_of}
use Rattle.vk_base.specs.Counts.{sends_of}
use Rattle.vk_base.specs.Kernel.{◌>>=◌, Kernel, holds_of, name_of, is_held_by, is_taken, held, held_exchange, held_up_to, sending}
use Rattle.vk_base.specs.Pids.{same_host, same_pid}
use Rattle.vk_base.proofs.PidLemmas.{same_pid_self}
use Rattle.v_laws.proofs.Held.{holds_at, held_none}
use Rattle.v_laws.proofs.Options.{some_that_holds}
use Rattle.v_laws.proofs.Tables.{same_pid_is}
use Rattle.v_laws.proofs.Changes.{taken_is_at_target}
use Rattle.vk_pool.specs.declared.alien.Alien.{Alien}
use Rattle.vk_pool.specs.Aliens.{alien_from}
use Rattle.vk_procs.specs.declared.seat.Seat.{Seat}
use Rattle.vk_procs.specs.Seats.{process_of, seat_in}
use Rattle.vk_rules.specs.Readings.{Reading}
use Rattle.vk_stands.specs.Fit.{AreFit}
use Rattle.vk_stands.specs.Held.{Holding, holding_by, seat_holding, local_holding, is_held, alien_holding, remote_holding}
use Rattle.vk_stands.specs.Stands.{Stands, IsHome, IsAlienKept, IsSending}
use Rattle.vk_stands.specs.Tables.{Spot, Tables, seat_name, stage_of}
use Rattle.vk_stands.proofs.Found.{alien_found, seat_found}

-- What the view has where the tables tell this.
pub record IsHeldAs (k : Kernel) (holder sender : Pid) (h : Holding) : Type 0 where
  pub held : held k holder sender ≡ Some h.number
  pub exchange : Exchange
  pub is : k.exchanges (name_of sender h.number) ≡ Some exchange
  pub at : exchange.at ≡ holder
  pub message : exchange.message ≡ h.message
  pub taken : is_taken exchange.stage ≡ true

pub record IsNotHeld (k : Kernel) (holder sender : Pid) : Type 0 where
  pub held : held k holder sender ≡ None

abbrev pub IsHolding : Kernel → Pid → Pid → Option Holding → Type 0
IsHolding k holder sender None = IsNotHeld k holder sender
IsHolding k holder sender (Some h) = IsHeldAs k holder sender h

-- Where only one number can be held.
module _ (exchanges : Name → Option Exchange) (r sender : Pid) (n : ℕ) (low : 0 < n) (there : holds_at exchanges r sender n ≡ true)
    (one : (m : ℕ) → holds_at exchanges r sender m ≡ true → m ≡ n) where
  smaller : (b : ℕ) → holds_at exchanges r sender (suc b) ≡ false → n ≤ suc b → n ≤ b
  smaller b f high =
      let apart : n ≡ suc b → ⊥ = λ e. both_ways (holds_at exchanges r sender (suc b)) f (ap (holds_at exchanges r sender)
      (sym e) ∙ there) in
      omega (arith, apart)

  by_last : (b : ℕ) (t : Bool) → holds_at exchanges r sender (suc b) ≡ t → n ≤ suc b →
      (n ≤ b → held_up_to exchanges r sender b ≡ Some n) → cond t (Some (suc b)) (held_up_to exchanges r sender b) ≡ Some n
  by_last b true is high again = ap Some (one (suc b) is)
  by_last b false is high again = again (smaller b is high)

  pub held_only : (bound : ℕ) → n ≤ bound → held_up_to exchanges r sender bound ≡ Some n
  unfolding held_up_to
  held_only zero high = absurd (omega arith)
  held_only (suc b) high =
      ap (λ t. cond t (Some (suc b)) (held_up_to exchanges r sender b)) refl
      ∙ by_last b (holds_at exchanges r sender (suc b)) refl high (held_only b)

-- A process that is in a Send.
pub sending_is : (d : Activity) (m : Pid × Message) → sending (state_of d) ≡ Some m → d ≡ activities.Blocked (waitings.Send m.0 m.1)
sending_is activities.Ready m is = absurd (none-some m is)
sending_is (activities.Blocked (waitings.Send target message)) m is =
    ap (λ (x : Pid × Message). activities.Blocked (waitings.Send x.0 x.1)) (same_Some (target, message) m is)
sending_is (activities.Blocked waitings.Receive) m is = absurd (none-some m is)
sending_is (activities.Blocked (waitings.ReceiveSegment start count)) m is = absurd (none-some m is)
sending_is (activities.Blocked (waitings.MoveTo partner dest src count)) m is = absurd (none-some m is)
sending_is (activities.Blocked (waitings.MoveFrom partner dest src count)) m is = absurd (none-some m is)
sending_is (activities.Blocked (waitings.GetPid logical scope)) m is = absurd (none-some m is)
sending_is (activities.Done w o) m is = absurd (none-some m is)

-- What a seat tells where it is held.
pub record IsHeldSeat (holder : Pid) (s : Seat) (h : Holding) : Type 0 where
  pub target : Pid
  pub waits : s.doing ≡ activities.Blocked (waitings.Send target h.message)
  pub at : s.at ≡ holder
  pub taken : s.note.taken ≡ true
  pub number : h.number ≡ s.note.sends

abbrev held_now : Seat → Message → Holding
held_now s m = record { number = s.note.sends; message = m }

seat_by : (holder : Pid) (s : Seat) (m : Pid × Message) (h : Holding) (b : Bool) → sending (state_of s.doing) ≡ Some m →
    (s.note.taken && same_pid s.at holder) ≡ b → cond b (Some (held_now s m.1)) None ≡ Some h → IsHeldSeat holder s h
seat_by holder s m h true sends t is =
    let parts = and_parts s.note.taken (same_pid s.at holder) t in
    let same : held_now s m.1 ≡ h = same_Some (held_now s m.1) h is in
    record {
      target = m.0;
      waits = sending_is s.doing m sends ∙ ap (λ (x : Holding). activities.Blocked (waitings.Send m.0 x.message)) same;
      at = same_pid_is s.at holder parts.1;
      taken = parts.0;
      number = ap (λ (x : Holding). x.number) (sym same);
    }
seat_by holder s m h false sends f is = absurd (none-some h is)

seat_on : (holder : Pid) (s : Seat) (h : Holding) (o : Option (Pid × Message)) → sending (state_of s.doing) ≡ o →
    holding_by holder s o ≡ Some h → IsHeldSeat holder s h
seat_on holder s h None sends is = absurd (none-some h is)
seat_on holder s h (Some m) sends is = seat_by holder s m h (s.note.taken && same_pid s.at holder) sends refl is

pub held_seat : (holder : Pid) (s : Seat) (h : Holding) → seat_holding holder s ≡ Some h → IsHeldSeat holder s h
held_seat holder s h is = seat_on holder s h (sending (state_of s.doing)) refl is

pub seat_held : (holder : Pid) (s : Seat) (h : Holding) → IsHeldSeat holder s h → seat_holding holder s ≡ Some h
seat_held holder s h is =
    ap (λ d. holding_by holder s (sending (state_of d))) is.waits
    ∙ cond-true (s.note.taken && same_pid s.at holder) (Some (held_now s h.message)) None
    (and_from s.note.taken (same_pid s.at holder) is.taken (ap (λ p. same_pid p holder) is.at ∙ same_pid_self holder))
    ∙ ap (λ n. Some (record { number = n; message = h.message })) (sym is.number)

-- What an alien tells where it is held.
pub record IsHeldAlien (holder : Pid) (a : Alien) (h : Holding) : Type 0 where
  pub taken : is_taken (stage_of a) ≡ true
  pub at : a.at ≡ holder
  pub number : h.number ≡ a.number
  pub message : h.message ≡ a.message

alien_by : (holder : Pid) (a : Alien) (h : Holding) (b : Bool) → is_held holder a ≡ b →
    cond b (Some (record { number = a.number; message = a.message })) None ≡ Some h → IsHeldAlien holder a h
alien_by holder a h true t is =
    let parts = and_parts (is_taken (stage_of a)) (same_pid a.at holder) t in
    let same = same_Some (record { number = a.number; message = a.message }) h is in
    record {
      taken = parts.0;
      at = same_pid_is a.at holder parts.1;
      number = ap (λ (x : Holding). x.number) (sym same);
      message = ap (λ (x : Holding). x.message) (sym same);
    }
alien_by holder a h false f is = absurd (none-some h is)

pub held_alien : (holder : Pid) (a : Alien) (h : Holding) → alien_holding holder a ≡ Some h → IsHeldAlien holder a h
held_alien holder a h is = alien_by holder a h (is_held holder a) refl is

-- An exchange that is held.
record IsHeldExchange (exchanges : Name → Option Exchange) (holder sender : Pid) (number : ℕ) : Type 0 where
  exchange : Exchange
  is : exchanges (name_of sender number) ≡ Some exchange
  at : exchange.at ≡ holder
  taken : is_taken exchange.stage ≡ true

exchange_held : (exchanges : Name → Option Exchange) (holder sender : Pid) (number : ℕ) → holds_at exchanges holder sender number ≡ true →
    IsHeldExchange exchanges holder sender number
exchange_held exchanges holder sender number t =
    let e = some_that_holds (is_held_by holder) (exchanges (name_of sender number)) t in
    let parts = and_parts (same_pid e.0.at holder) (is_taken e.0.stage) e.2 in
    record { exchange = e.0; is = e.1; at = same_pid_is e.0.at holder parts.0; taken = parts.1 }

holds_here : (exchanges : Name → Option Exchange) (holder sender : Pid) (number : ℕ) → IsHeldExchange exchanges holder sender number →
    holds_at exchanges holder sender number ≡ true
holds_here exchanges holder sender number h =
    ap (holds_of (is_held_by holder)) h.is
    ∙ and_from (same_pid h.exchange.at holder) (is_taken h.exchange.stage)
    (ap (λ p. same_pid p holder) h.at ∙ same_pid_self holder) h.taken

held_nowhere : (k : Kernel) (holder sender : Pid) (o : Option Process) → k.procs sender ≡ o →
    ((m : ℕ) → holds_at k.exchanges holder sender m ≡ false) → held k holder sender ≡ None
unfolding held
held_nowhere k holder sender None none never = ap (λ (o : Option Process). o >>= λ p. held_up_to k.exchanges holder sender p.sends) none
held_nowhere k holder sender (Some p) some never =
    ap (λ (o : Option Process). o >>= λ p. held_up_to k.exchanges holder sender p.sends) some
    ∙ held_none k.exchanges holder sender p.sends (λ m low high. never m)

held_as : (k : Kernel) (holder sender : Pid) (p : Process) (h : Holding) → k.procs sender ≡ Some p → 0 < h.number → h.number ≤ p.sends →
    (e : IsHeldExchange k.exchanges holder sender h.number) → e.exchange.message ≡ h.message →
    ((m : ℕ) → holds_at k.exchanges holder sender m ≡ true → m ≡ h.number) → IsHeldAs k holder sender h
unfolding held
held_as k holder sender p h there low high e message one = record {
  held = ap (λ (o : Option Process). o >>= λ p. held_up_to k.exchanges holder sender p.sends) there
      ∙ held_only k.exchanges holder sender h.number low (holds_here k.exchanges holder sender h.number e) one p.sends high;
  exchange = e.exchange;
  is = e.is;
  at = e.at;
  message = message;
  taken = e.taken;
}

seat_stage : (taken : Bool) → is_taken (cond taken stages.Taken stages.Queued) ≡ taken
seat_stage true = refl
seat_stage false = refl

module _ (times : Times) (host : ℕ) (t : Tables) (r : Reading) (h : Stands times host t r) (fit : AreFit host t) (holder : Pid)
    (own : holder.host ≡ host) where
  abbrev exchanges : Name → Option Exchange
  exchanges = r.view.exchanges

  -- its target is of the station too
  target_here : (sender : Pid) (number : ℕ) (e : IsHeldExchange exchanges holder sender number) → e.exchange.target.host ≡ host
  target_here sender number e =
      eqb-true e.exchange.target.host e.exchange.at.host (h.sound.near (name_of sender number) e.exchange e.is)
      ∙ ap (λ (p : Pid). p.host) e.at ∙ own

  home_of : (sender : Pid) (number : ℕ) (e : IsHeldExchange exchanges holder sender number) →
      IsHome host t (name_of sender number) e.exchange
  home_of sender number e = h.home (name_of sender number) e.exchange e.is (target_here sender number e)
      (taken_is_at_target e.exchange.stage e.taken)

  -- the exchange of a process that waits in a Send
  sent_in : (sender : Pid) (s : Seat) (target : Pid) (m : Message) → seat_in t.seats sender ≡ Some s →
      s.doing ≡ activities.Blocked (waitings.Send target m) → IsSending r.view s target m
  sent_in sender s target m found waits = h.waiting sender s (waitings.Send target m) found waits

  -- a local exchange that is held is of a process that tells so
  by_home : (sender : Pid) (number : ℕ) (e : IsHeldExchange exchanges holder sender number) → sender.host ≡ host → (s : Seat) →
      seat_in t.seats sender ≡ Some s → IsHome host t (name_of sender number) e.exchange → (m : Message) ×
      (seat_holding holder s ≡ Some (record { number = number; message = m }))
  by_home sender number e here s found (inl y) =
      let same : s ≡ y.1.0 = same_Some s y.1.0 (sym found ∙ y.1.1) in
      let waits : s.doing ≡ activities.Blocked (waitings.Send e.exchange.target e.exchange.message) =
      ap (λ (z : Seat). z.doing) same ∙ y.1.2.waits in
      let last : s.note.sends ≡ number = ap (λ (z : Seat). z.note.sends) same ∙ y.1.2.last in
      let sent : IsSending r.view s e.exchange.target e.exchange.message = sent_in sender s e.exchange.target e.exchange.message found waits in
      let pid : s.pid ≡ sender = (seat_found t.seats sender s found).named in
      let one : sent.exchange ≡ e.exchange = same_Some sent.exchange e.exchange
      (sym sent.is ∙ ap (λ p. exchanges (name_of p s.note.sends)) pid ∙ ap (λ n. exchanges (name_of sender n)) last ∙ e.is) in
      let near : same_host s.pid e.exchange.target ≡ true =
      eq-eqb s.pid.host e.exchange.target.host (ap (λ (p : Pid). p.host) pid ∙ here ∙ sym (target_here sender number e)) in
      let taken : s.note.taken ≡ true = sym (seat_stage s.note.taken) ∙ ap is_taken (sym (sent.stage_is near))
      ∙ ap (λ (x : Exchange). is_taken x.stage) one ∙ e.taken in (
        e.exchange.message,
        seat_held holder s (record { number = number; message = e.exchange.message }) (record {
          target = e.exchange.target;
          waits = waits;
          at = ap (λ (p : Spot). p.at) (sym sent.spot_is) ∙ ap (λ (x : Exchange). x.at) one ∙ e.at;
          taken = taken;
          number = sym last;
        }),
      )
  by_home sender number e here s found (inr a) =
      let at = alien_found t.slots sender a.0 a.1 in
      absurd ((fit.aliens at.at a.0 at.here).foreign (ap (λ (p : Pid). p.host) at.from ∙ here))

  held_local : (sender : Pid) (s : Seat) (number : ℕ) → sender.host ≡ host → seat_in t.seats sender ≡ Some s →
      holds_at exchanges holder sender number ≡ true → (m : Message) ×
      (seat_holding holder s ≡ Some (record { number = number; message = m }))
  held_local sender s number here found held =
      let e = exchange_held exchanges holder sender number held in
      by_home sender number e here s found (home_of sender number e)

  seat_exchange : (sender : Pid) (s : Seat) (g : Holding) → sender.host ≡ host → seat_in t.seats sender ≡ Some s →
      IsHeldSeat holder s g → (e : IsHeldExchange exchanges holder sender g.number) × (e.exchange.message ≡ g.message)
  seat_exchange sender s g here found held =
      let sent : IsSending r.view s held.target g.message = sent_in sender s held.target g.message found held.waits in
      let pid : s.pid ≡ sender = (seat_found t.seats sender s found).named in
      let at : sent.exchange.at ≡ holder = ap (λ (p : Spot). p.at) sent.spot_is ∙ held.at in
      let near : same_host s.pid held.target ≡ true =
      eq-eqb s.pid.host held.target.host (ap (λ (p : Pid). p.host) pid ∙ here ∙ sym own ∙ ap (λ (p : Pid). p.host) (sym at)
      ∙ sym (eqb-true sent.exchange.target.host sent.exchange.at.host (h.sound.near (seat_name s) sent.exchange sent.is))
      ∙ ap (λ (p : Pid). p.host) sent.target_is) in (
        record {
          exchange = sent.exchange;
          is = ap (λ n. exchanges (name_of sender n)) held.number ∙ ap (λ p. exchanges (name_of p s.note.sends)) (sym pid) ∙ sent.is;
          at = at;
          taken = ap is_taken (sent.stage_is near) ∙ seat_stage s.note.taken ∙ held.taken;
        },
        sent.message_is,
      )

  begun : (sender : Pid) (s : Seat) (g : Holding) → seat_in t.seats sender ≡ Some s → IsHeldSeat holder s g → 0 < s.note.sends
  begun sender s g found held =
      let at = seat_found t.seats sender s found in
      (fit.seats at.at s at.here).begun held.target g.message held.waits

  local_seat : (sender : Pid) (s : Seat) (o : Option Holding) → sender.host ≡ host → seat_in t.seats sender ≡ Some s →
      seat_holding holder s ≡ o → IsHolding r.view holder sender o
  local_seat sender s None here found is = record {
    held = held_nowhere r.view holder sender (r.view.procs sender) refl (λ m. false_from_ne_true (holds_at exchanges holder sender m)
        (λ t1. let g = held_local sender s m here found t1 in none-some (record { number = m; message = g.0 }) (sym is ∙ g.1)));
  }
  local_seat sender s (Some g) here found is =
      let held = held_seat holder s g is in
      let e = seat_exchange sender s g here found held in
      held_as r.view holder sender (process_of s) g (h.procs sender here ∙ ap (option_map process_of) found)
      (subst (λ n. 0 < n) (sym held.number) (begun sender s g found held))
      (subst (λ n. n ≤ s.note.sends) (sym held.number) (omega arith))
      e.0 e.1
      (λ m t1. let x = held_local sender s m here found t1 in
      ap (λ (z : Holding). z.number) (same_Some (record { number = m; message = x.0 }) g (sym x.1 ∙ is)))

  local_by : (sender : Pid) (o : Option Seat) → sender.host ≡ host → seat_in t.seats sender ≡ o →
      IsHolding r.view holder sender (o >>= seat_holding holder)
  unfolding held
  local_by sender None here none = record {
    held = ap (λ (o : Option Process). o >>= λ p. held_up_to exchanges holder sender p.sends)
        (h.procs sender here ∙ ap (option_map process_of) none);
  }
  local_by sender (Some s) here found = local_seat sender s (seat_holding holder s) here found refl

  -- A sender of the station is held as its seat tells.
  pub held_here : (sender : Pid) → sender.host ≡ host → IsHolding r.view holder sender (local_holding t.seats holder sender)
  held_here sender here = local_by sender (seat_in t.seats sender) here refl

  -- An exchange of another station's process that is held is an alien's.
  alien_home : (sender : Pid) (number : ℕ) (e : IsHeldExchange exchanges holder sender number) → (sender.host ≡ host → ⊥) →
      IsHome host t (name_of sender number) e.exchange → (a : Alien) × (alien_from t.slots sender ≡ Some a) ×
      (alien_holding holder a ≡ Some (record { number = number; message = a.message }))
  alien_home sender number e away (inl y) = absurd (away y.0)
  alien_home sender number e away (inr a) =
      let kept : IsAlienKept r.view a.0 = h.kept sender a.0 a.1 in
      let from : a.0.sender ≡ sender = (alien_found t.slots sender a.0 a.1).from in
      let one : kept.exchange ≡ e.exchange = same_Some kept.exchange e.exchange
      (sym kept.is ∙ ap (λ p. exchanges (name_of p a.0.number)) from ∙ ap (λ n. exchanges (name_of sender n)) a.2 ∙ e.is) in
      let taken : is_taken (stage_of a.0) ≡ true = ap is_taken (sym kept.stage) ∙ ap (λ (x : Exchange). is_taken x.stage) one ∙ e.taken in
      let at : same_pid a.0.at holder ≡ true = ap (λ p. same_pid p holder) (ap (λ (p : Spot). p.at) (sym kept.spot)
      ∙ ap (λ (x : Exchange). x.at) one ∙ e.at)
      ∙ same_pid_self holder in (
        a.0,
        a.1,
        cond-true (is_held holder a.0) (Some (record { number = a.0.number; message = a.0.message })) None
            (and_from (is_taken (stage_of a.0)) (same_pid a.0.at holder) taken at)
            ∙ ap (λ n. Some (record { number = n; message = a.0.message })) a.2,
      )

  held_remote : (sender : Pid) (number : ℕ) → (sender.host ≡ host → ⊥) → holds_at exchanges holder sender number ≡ true →
      (a : Alien) × (alien_from t.slots sender ≡ Some a) ×
      (alien_holding holder a ≡ Some (record { number = number; message = a.message }))
  held_remote sender number away held =
      let e = exchange_held exchanges holder sender number held in
      alien_home sender number e away (home_of sender number e)

  alien_exchange : (sender : Pid) (a : Alien) (g : Holding) → alien_from t.slots sender ≡ Some a →
      IsHeldAlien holder a g → (e : IsHeldExchange exchanges holder sender g.number) × (e.exchange.message ≡ g.message)
  alien_exchange sender a g found held =
      let kept : IsAlienKept r.view a = h.kept sender a found in
      let from : a.sender ≡ sender = (alien_found t.slots sender a found).from in (
        record {
          exchange = kept.exchange;
          is = ap (λ n. exchanges (name_of sender n)) held.number ∙ ap (λ p. exchanges (name_of p a.number)) (sym from) ∙ kept.is;
          at = ap (λ (p : Spot). p.at) kept.spot ∙ held.at;
          taken = ap is_taken kept.stage ∙ held.taken;
        },
        kept.message ∙ sym held.message,
      )

  numbered : (sender : Pid) (a : Alien) → alien_from t.slots sender ≡ Some a → 0 < a.number
  numbered sender a found =
      let at = alien_found t.slots sender a found in
      ltb-true 0 a.number (and_parts (nat_lt 0 a.number) (nat_lt a.number (2 ^ 63)) (fit.aliens at.at a at.here).number).0

  made_by : (sender : Pid) (n : ℕ) (o : Option Process) → r.view.procs sender ≡ o → 0 < n → n ≤ sends_of o →
      (p : Process) × (r.view.procs sender ≡ Some p) × (n ≤ p.sends)
  made_by sender n None is low high = absurd (omega arith)
  made_by sender n (Some p) is low high = (p, is, high)

  made : (sender : Pid) (a : Alien) → alien_from t.slots sender ≡ Some a →
      (p : Process) × (r.view.procs sender ≡ Some p) × (a.number ≤ p.sends)
  made sender a found =
      let kept : IsAlienKept r.view a = h.kept sender a found in
      let from : a.sender ≡ sender = (alien_found t.slots sender a found).from in
      made_by sender a.number (r.view.procs sender) refl (numbered sender a found)
      (subst (λ p. a.number ≤ sends_of (r.view.procs p)) from kept.made)

  -- all that is held of the sender is this alien
  one_alien : (sender : Pid) (a : Alien) (m : ℕ) → (sender.host ≡ host → ⊥) → alien_from t.slots sender ≡ Some a →
      holds_at exchanges holder sender m ≡ true → alien_holding holder a ≡ Some (record { number = m; message = a.message })
  one_alien sender a m away found held =
      let x = held_remote sender m away held in
      subst (λ b. alien_holding holder b ≡ Some (record { number = m; message = b.message })) (same_Some x.0 a (sym x.1 ∙ found)) x.2

  remote_alien : (sender : Pid) (a : Alien) (o : Option Holding) → (sender.host ≡ host → ⊥) → alien_from t.slots sender ≡ Some a →
      alien_holding holder a ≡ o → IsHolding r.view holder sender o
  remote_alien sender a None away found is = record {
    held = held_nowhere r.view holder sender (r.view.procs sender) refl (λ m. false_from_ne_true (holds_at exchanges holder sender m)
        (λ t1. none-some (record { number = m; message = a.message }) (sym is ∙ one_alien sender a m away found t1)));
  }
  remote_alien sender a (Some g) away found is =
      let held = held_alien holder a g is in
      let e = alien_exchange sender a g found held in
      let p = made sender a found in
      held_as r.view holder sender p.0 g p.1
      (subst (λ n. 0 < n) (sym held.number) (numbered sender a found))
      (subst (λ n. n ≤ p.0.sends) (sym held.number) p.2)
      e.0 e.1
      (λ m t1. ap (λ (z : Holding). z.number)
      (same_Some (record { number = m; message = a.message }) g (sym (one_alien sender a m away found t1) ∙ is)))

  remote_by : (sender : Pid) (o : Option Alien) → (sender.host ≡ host → ⊥) → alien_from t.slots sender ≡ o →
      IsHolding r.view holder sender (o >>= alien_holding holder)
  remote_by sender None away none = record {
    held = held_nowhere r.view holder sender (r.view.procs sender) refl (λ m. false_from_ne_true (holds_at exchanges holder sender m)
        (λ t1. let x = held_remote sender m away t1 in none-some x.0 (sym none ∙ x.1)));
  }
  remote_by sender (Some a) away found = remote_alien sender a (alien_holding holder a) away found refl

  -- A sender of another station is held as its alien tells.
  pub held_there : (sender : Pid) → (sender.host ≡ host → ⊥) → IsHolding r.view holder sender (remote_holding t.slots holder sender)
  held_there sender away = remote_by sender (alien_from t.slots sender) away refl

-- What the kernel's refusals ask of it.
pub none_held : (k : Kernel) (holder sender : Pid) (o : Option Holding) → IsHolding k holder sender o →
    is_none (held k holder sender) ≡ is_none o
none_held k holder sender None h = ap is_none h.held
none_held k holder sender (Some g) h = ap is_none h.held

pub number_held : (k : Kernel) (holder sender : Pid) (o : Option Holding) → IsHolding k holder sender o →
    held k holder sender ≡ option_map (λ (g : Holding). g.number) o
number_held k holder sender None h = h.held
number_held k holder sender (Some g) h = h.held

pub message_held : (k : Kernel) (holder sender : Pid) (test : Message → Bool) (o : Option Holding) → IsHolding k holder sender o →
    holds_of (λ (e : Exchange). test e.message) (held_exchange k holder sender) ≡ holds_of (λ (g : Holding). test g.message) o
message_held k holder sender test None h =
    ap (λ (o : Option ℕ). holds_of (λ (e : Exchange). test e.message) (o >>= λ n. k.exchanges (name_of sender n))) h.held
message_held k holder sender test (Some g) h =
    ap (λ (o : Option ℕ). holds_of (λ (e : Exchange). test e.message) (o >>= λ n. k.exchanges (name_of sender n))) h.held
    ∙ ap (holds_of (λ (e : Exchange). test e.message)) h.is
    ∙ ap test h.message

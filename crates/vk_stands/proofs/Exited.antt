-- A process exits: its messages are dropped, and who waits for its reply is done or refused.
use Rattle.std.proofs.Common.{◌≡◌, ℕ, ◌&&◌, Bool, true, false, Option, Some, None, is_some, refl, sym, ap, subst, ◌∙◌, inl, inr, if◌then◌else◌}
use Rattle.std.specs.Option.{option_map}
use Rattle.std.proofs.lemmas.Bool.{and_from, and_parts, and_right, cond-true, cond-false, eq-eqb, eqb-true}
use Rattle.std.proofs.lemmas.Option.{same_Some}
use Rattle.vk_types.specs.Types.{Activity, Exchange, Message, Name, Outcome, Pid}
use Rattle.vk_base.specs.declared.activity.Activity.TheVariants as activities
use Rattle.vk_base.specs.declared.activity.Outcome.TheVariants as outcomes
use Rattle.vk_base.specs.declared.activity.Waiting.TheVariants as waitings
use Rattle.vk_base.specs.declared.answer.Refusal.TheVariants as refusals
use Rattle.vk_base.specs.declared.kernel.Stage.TheVariants as stages
use Rattle.vk_base.specs.Activities.{answer_of, done_with, state_of}
use Rattle.vk_base.specs.Calls.{dropped_at, is_bereft, is_message_at, released}
unfoldable use Rattle.vk_base.specs.Calls.{exited}
use Rattle.vk_base.specs.Kernel.{Kernel, ended, holds_of, is_at_target, name_of, sending}
use Rattle.vk_base.specs.Pids.{same_host, same_pid}
use Rattle.vk_base.proofs.OptionLemmas.{mapped_is}
use Rattle.vk_base.proofs.PidLemmas.{same_pid_self}
use Rattle.v_laws.proofs.Tables.{same_pid_is}
use Rattle.vk_pool.specs.declared.alien.Alien.{Alien}
use Rattle.vk_pool.specs.Aliens.{refused}
use Rattle.vk_procs.specs.declared.seat.Seat.{Seat}
use Rattle.vk_procs.specs.Seats.{bereft, finished, killed, process_of, seat_in, waits_at}
use Rattle.vk_stands.specs.Stands.{IsHome, IsSender, IsSending}
use Rattle.vk_stands.specs.Tables.{Spot, Tables, alien_spot, seat_name, seat_spot, spot_of, stage_of}
use Rattle.vk_stands.proofs.Found.{alien_found, seat_found}
use Rattle.vk_stands.proofs.Held.{sending_is}
use Rattle.vk_stands.proofs.Parts.{Part}
use Rattle.vk_stands.proofs.Views.{Goes, IsSameAlien, goes_self, same_alien}
use Rattle.vk_stands.proofs.Waits.{IsSameSeat, only, same_seat, stage_of_local}

-- What an exit makes of a process of the station, and of an alien.
abbrev pub gone : Outcome
gone = outcomes.Refused refusals.NoProcess

abbrev pub left_behind : Pid → Seat → Seat
left_behind pid s = only pid killed (bereft pid s)

abbrev pub is_left : Pid → Alien → Bool
is_left pid a = same_pid a.at pid && is_at_target (stage_of a)

abbrev pub turned_away : Pid → ℕ → Alien → Alien
turned_away pid now a = if is_left pid a then refused now a else a

-- each is the same but for what becomes of it
bereft_by : (b : Bool) (s : Seat) → seat_name (if b then finished gone s else s) ≡ seat_name s
bereft_by true s = refl
bereft_by false s = refl

pub bereft_name : (pid : Pid) (s : Seat) → seat_name (bereft pid s) ≡ seat_name s
bereft_name pid s = bereft_by (waits_at pid s) s

pub killed_same : (b : Bool) (s : Seat) → IsSameSeat s (if b then killed s else s)
killed_same true s = record { pid = refl; part = refl; sends = refl; lookups = refl; moving = refl; opened = refl; done = refl }
killed_same false s = same_seat s

pub killed_doing : (b : Bool) (s : Seat) → (if b then killed s else s).doing ≡ s.doing
killed_doing true s = refl
killed_doing false s = refl

pub killed_taken : (b : Bool) (s : Seat) → (if b then killed s else s).note.taken ≡ s.note.taken
killed_taken true s = refl
killed_taken false s = refl

pub killed_spot : (b : Bool) (s : Seat) → seat_spot (if b then killed s else s) ≡ seat_spot s
killed_spot true s = refl
killed_spot false s = refl

same_by : (b : Bool) (now : ℕ) (a : Alien) → IsSameAlien a (if b then refused now a else a)
same_by true now a = record { sender = refl; number = refl; target = refl; message = refl; part = refl; moves = refl }
same_by false now a = same_alien a

pub turned_same : (pid : Pid) (now : ℕ) (a : Alien) → IsSameAlien a (turned_away pid now a)
turned_same pid now a = same_by (is_left pid a) now a

spot_by : (b : Bool) (now : ℕ) (a : Alien) → alien_spot (if b then refused now a else a) ≡ alien_spot a
spot_by true now a = refl
spot_by false now a = refl

pub turned_spot : (pid : Pid) (now : ℕ) (a : Alien) → alien_spot (turned_away pid now a) ≡ alien_spot a
turned_spot pid now a = spot_by (is_left pid a) now a

pub dropped_spot : (b : Bool) (e : Exchange) → spot_of (if b then record e { stage = stages.Dropped } else e) ≡ spot_of e
dropped_spot true e = refl
dropped_spot false e = refl

pub dropped_by : (b : Bool) (e : Exchange) → Goes e (if b then record e { stage = stages.Dropped } else e)
dropped_by true e = record { target = refl; message = refl; part = refl; moves = refl; opened = refl; done = refl; near = λ t. absurd (cc) }
dropped_by false e = goes_self e

ended_is : (d : Activity) (o : Outcome) → ended (state_of d) (answer_of o) ≡ state_of (done_with d o)
ended_is activities.Ready o = refl
ended_is (activities.Blocked w) o = refl
ended_is (activities.Done w p) o = refl

-- one that waits in a Send whose message is at this process
sends_by : (d : Activity) (o : Option (Pid × Message)) → sending (state_of d) ≡ o → is_some o ≡ true →
    (m : Pid × Message) × (d ≡ activities.Blocked (waitings.Send m.0 m.1))
sends_by d None is t = cc
sends_by d (Some m) is t = (m, sending_is d m is)

pub waits_at_is : (pid : Pid) (s : Seat) → waits_at pid s ≡ true →
    (m : Pid × Message) × (s.doing ≡ activities.Blocked (waitings.Send m.0 m.1)) × (same_pid s.at pid ≡ true)
waits_at_is pid s t =
    let parts = and_parts (same_pid s.at pid) (is_some (sending (state_of s.doing))) t in
    let m = sends_by s.doing (sending (state_of s.doing)) refl parts.1 in
    (m.0, m.1, parts.0)

at_target_local : (taken : Bool) → is_at_target (stage_of_local taken) ≡ true
at_target_local true = refl
at_target_local false = refl

module _ (host : ℕ) (t : Tables) (k : Kernel) (part : Part host t k) (pid : Pid) (own : pid.host ≡ host) (s : Seat)
    (found : seat_in t.seats pid ≡ Some s) (ready : s.doing ≡ activities.Ready) (now : ℕ) where
  abbrev l : Kernel
  l = exited k pid (process_of s)

  pub proc_here : (q : Pid) → same_pid q pid ≡ true → l.procs q ≡ Some (process_of (killed s))
  unfolding exited
  proc_here q same = cond-true (same_pid q pid) (Some (process_of (killed s))) (option_map (released k pid q) (k.procs q)) same

  pub proc_other : (q : Pid) → same_pid q pid ≡ false → l.procs q ≡ option_map (released k pid q) (k.procs q)
  unfolding exited
  proc_other q other = cond-false (same_pid q pid) (Some (process_of (killed s))) (option_map (released k pid q) (k.procs q)) other

  pub exchange_is : (n : Name) → l.exchanges n ≡ option_map (dropped_at pid) (k.exchanges n)
  unfolding exited
  exchange_is n = refl

  pub forth : (n : Name) (e : Exchange) → k.exchanges n ≡ Some e → (y : Exchange) × (l.exchanges n ≡ Some y) × Goes e y
  forth n e at = (dropped_at pid e, exchange_is n ∙ ap (option_map (dropped_at pid)) at, dropped_by (is_message_at pid e) e)

  pub back : (n : Name) (y : Exchange) → l.exchanges n ≡ Some y → (e : Exchange) × (k.exchanges n ≡ Some e) × (dropped_at pid e ≡ y)
  back n y at = mapped_is (dropped_at pid) (k.exchanges n) y (sym (exchange_is n) ∙ at)

  -- the message of a process that waits in its Send is where its seat tells
  pub at_seat : (n : Name) (e : Exchange) (x : Seat) → k.exchanges n ≡ Some e → seat_in t.seats n.sender ≡ Some x → IsSender n e x →
      e.at ≡ x.at
  at_seat n e x at there sender =
      let v : IsSending k x e.target e.message = part.view.waiting n.sender x (waitings.Send e.target e.message) there sender.waits in
      let named : x.pid ≡ n.sender = (seat_found t.seats n.sender x there).named in
      let same : e ≡ v.exchange =
      same_Some e v.exchange (sym at ∙ ap k.exchanges (λ i. name_of (sym named i) (sym sender.last i)) ∙ v.is) in
      ap (λ (z : Exchange). z.at) same ∙ ap (λ (z : Spot). z.at) v.spot_is

  -- a message of a process of the station that waits at this one, or was taken by it: its sender waits for the reply
  pub sender_waits : (n : Name) (e : Exchange) (x : Seat) → k.exchanges n ≡ Some e → is_message_at pid e ≡ true →
      seat_in t.seats n.sender ≡ Some x → waits_at pid x ≡ true
  sender_waits n e x at message there =
      by_home (part.view.home n e at (eqb-true e.target.host e.at.host (part.sound.near n e at)
      ∙ ap (λ (p : Pid). p.host) (same_pid_is e.at pid parts.0) ∙ own) parts.1)
    where
      parts : (same_pid e.at pid ≡ true) × (is_at_target e.stage ≡ true)
      parts = and_parts (same_pid e.at pid) (is_at_target e.stage) message

      by_home : IsHome host t n e → waits_at pid x ≡ true
      by_home (inl m) =
          let one : m.1.0 ≡ x = same_Some m.1.0 x (sym m.1.1 ∙ there) in
          let sender : IsSender n e x = subst (IsSender n e) one m.1.2 in
          and_from (same_pid x.at pid) (is_some (sending (state_of x.doing)))
          (ap (λ p. same_pid p pid) (sym (at_seat n e x at there sender)) ∙ parts.0)
          (ap (λ d. is_some (sending (state_of d))) sender.waits)
      by_home (inr a) =
          let place = alien_found t.slots n.sender a.0 a.1 in
          let seat = seat_found t.seats n.sender x there in
          absurd ((part.fit.aliens place.at a.0 place.here).foreign
          (ap (λ (p : Pid). p.host) place.from ∙ ap (λ (p : Pid). p.host) (sym seat.named) ∙ (part.fit.seats seat.at x seat.here).own))

  -- who is bereft, by the kernel and by the tables
  pub bereft_is : (q : Pid) (x : Seat) → seat_in t.seats q ≡ Some x → q.host ≡ host →
      is_bereft k pid q (process_of x) ≡ waits_at pid x
  bereft_is q x at here =
      ap (λ b. b && is_some (sending (state_of x.doing)) && holds_of (is_message_at pid) (k.exchanges (name_of q x.note.sends)))
      (eq-eqb q.host pid.host (here ∙ sym own))
      ∙ by_sending (sending (state_of x.doing)) refl
    where
      named : x.pid ≡ q
      named = (seat_found t.seats q x at).named

      by_at : (m : Pid × Message) (v : IsSending k x m.0 m.1) (b : Bool) → same_pid x.at pid ≡ b →
          holds_of (is_message_at pid) (k.exchanges (name_of q x.note.sends)) ≡ (b && true)
      by_at m v true same =
          let there : v.exchange.at ≡ pid = ap (λ (z : Spot). z.at) v.spot_is ∙ same_pid_is x.at pid same in
          let local : same_host x.pid m.0 ≡ true = eq-eqb x.pid.host m.0.host
          (ap (λ (p : Pid). p.host) named ∙ here ∙ sym own ∙ ap (λ (p : Pid). p.host) (sym there)
          ∙ sym (eqb-true v.exchange.target.host v.exchange.at.host (part.sound.near (seat_name x) v.exchange v.is))
          ∙ ap (λ (p : Pid). p.host) v.target_is) in
          ap (λ p. holds_of (is_message_at pid) (k.exchanges (name_of p x.note.sends))) (sym named)
          ∙ ap (holds_of (is_message_at pid)) v.is
          ∙ and_from (same_pid v.exchange.at pid) (is_at_target v.exchange.stage) (ap (λ p. same_pid p pid) there ∙ same_pid_self pid)
          (ap is_at_target (v.stage_is local) ∙ at_target_local x.note.taken)
      by_at m v false other =
          ap (λ p. holds_of (is_message_at pid) (k.exchanges (name_of p x.note.sends))) (sym named)
          ∙ ap (holds_of (is_message_at pid)) v.is
          ∙ ap (λ b. b && is_at_target v.exchange.stage) (ap (λ (z : Spot). same_pid z.at pid) v.spot_is ∙ other)

      by_sending : (o : Option (Pid × Message)) → sending (state_of x.doing) ≡ o →
          (is_some o && holds_of (is_message_at pid) (k.exchanges (name_of q x.note.sends))) ≡ (same_pid x.at pid && is_some o)
      by_sending None none = sym (and_right (same_pid x.at pid) false refl)
      by_sending (Some m) some =
          by_at m (part.view.waiting q x (waitings.Send m.0 m.1) at (sending_is x.doing m some)) (same_pid x.at pid) refl

  released_by : (x : Seat) (b : Bool) → (if b then record (process_of x) {
    state =
        ended (state_of x.doing) (answer_of gone);
  } else process_of x)
      ≡ process_of (if b then finished gone x else x)
  released_by x true = λ i. record (process_of x) { state = ended_is x.doing gone i }
  released_by x false = refl

  pub released_is : (q : Pid) (x : Seat) → seat_in t.seats q ≡ Some x → q.host ≡ host →
      released k pid q (process_of x) ≡ process_of (bereft pid x)
  released_is q x at here =
      ap (λ b. if b then record (process_of x) { state = ended (state_of x.doing) (answer_of gone) } else process_of x)
      (bereft_is q x at here)
      ∙ released_by x (waits_at pid x)

-- The process of which a mover names the Send, by the tables and by the rules.
use Rattle.std.proofs.Common.{◌≡◌, ℕ, ◌==◌, ◌&&◌, Bool, true, false, cond, not, refl, sym, ap, ◌∙◌, Option, Some, None, leb}
use Rattle.std.specs.Option.{option_map}
use Rattle.std.proofs.lemmas.Bool.{and_parts, eqb-true}
use Rattle.vk_types.specs.Types.{Activity, Exchange, Message, Name, Pid, Process, Times}
use Rattle.vk_base.specs.declared.activity.Activity.TheVariants as activities
use Rattle.vk_base.specs.declared.activity.Waiting.TheVariants as waitings
use Rattle.vk_base.specs.Activities.{state_of}
use Rattle.vk_base.specs.Kernel.{◌>>=◌, blocked_in, holds_of, name_of, sending}
use Rattle.vk_base.specs.Pids.{same_host}
use Rattle.vk_base.specs.Steps.{only_if}
use Rattle.vk_procs.specs.declared.seat.Seat.{Seat}
use Rattle.vk_procs.specs.Seats.{process_of, seat_in}
use Rattle.vk_rules.specs.PacketOutcomes.{FarSender, has_made}
unfoldable use Rattle.vk_rules.specs.PacketOutcomes.{far_partner}
use Rattle.vk_rules.specs.Readings.{Reading}
use Rattle.vk_rules.specs.Works.{awaits_near, is_send_near}
use Rattle.vk_stands.specs.Stands.{IsSending, Stands}
use Rattle.vk_stands.specs.Tables.{Tables}
use Rattle.vk_stands.proofs.Found.{seat_found}
use Rattle.vk_move.specs.declared.sender.Sender.{Sender}
use Rattle.vk_move.specs.declared.sender.Sender.TheVariants as senders
use Rattle.vk_move.specs.Sender.{made_by, sender_by, sender_doing}

-- A process that waits in its Send to a process of the mover's station, and its exchange.
pub record IsWaiter (t : Tables) (r : Reading) (from to : Pid) (number : ℕ) (m : Message) (opened done : ℕ) : Type 0 where
  pub seat : Seat
  pub found : seat_in t.seats to ≡ Some seat
  pub target : Pid
  pub state : seat.doing ≡ activities.Blocked (waitings.Send target m)
  pub near : same_host target from ≡ true
  pub last : (seat.note.sends == number) ≡ true
  pub opened_is : seat.note.opened ≡ opened
  pub done_is : seat.note.done ≡ done
  pub exchange : Exchange
  pub is : r.view.exchanges (name_of to number) ≡ Some exchange
  pub open_is : exchange.opened ≡ opened
  pub so_far : exchange.done ≡ done
  pub far : far_partner r.view (name_of to number) from ≡ Some (record { process = process_of seat; message = m; exchange = exchange })

abbrev pub Decided : Tables → Reading → Pid → Pid → ℕ → Sender → Type 0
Decided t r from to number senders.Unknown =
    (far_partner r.view (name_of to number) from ≡ None) × (has_made r.view (name_of to number) ≡ false)
Decided t r from to number senders.Gone =
    (far_partner r.view (name_of to number) from ≡ None) × (has_made r.view (name_of to number) ≡ true)
Decided t r from to number (senders.Waits m opened done) = IsWaiter t r from to number m opened done

module _ (times : Times) (host : ℕ) (t : Tables) (r : Reading) (h : Stands times host t r) (from to : Pid) (own : to.host ≡ host)
    (number : ℕ) where
  abbrev name : Name
  name = name_of to number

  nobody : seat_in t.seats to ≡ None → Decided t r from to number senders.Unknown
  unfolding far_partner
  nobody none =
      let here : r.view.procs to ≡ None = h.procs to own ∙ ap (option_map process_of) none in
      let next : Process → Option FarSender =
      λ p. only_if (awaits_near to p from number) (sending p.state) >>= λ send. r.view.exchanges name
      >>= λ e. Some (record { process = p; message = send.1; exchange = e }) in
      (ap (λ o. o >>= next) here, ap (holds_of (λ (p : Process). leb number p.sends)) here)

  module _ (s : Seat) (found : seat_in t.seats to ≡ Some s) where
    here : r.view.procs to ≡ Some (process_of s)
    here = h.procs to own ∙ ap (option_map process_of) found

    far_by : (b : Bool) → awaits_near to (process_of s) from number ≡ b →
        far_partner r.view name from
        ≡ (only_if b (sending (state_of s.doing)) >>= λ send. r.view.exchanges name
        >>= λ e. Some (record { process = process_of s; message = send.1; exchange = e }))
    unfolding far_partner
    far_by b is =
        let rest : Process → Option (Pid × Message) → Option FarSender =
        λ p o. o >>= λ send. r.view.exchanges name >>= λ e. Some (record { process = p; message = send.1; exchange = e }) in
        ap (λ o. o >>= λ p. rest p (only_if (awaits_near to p from number) (sending p.state))) here
        ∙ ap (λ b. rest (process_of s) (only_if b (sending (state_of s.doing)))) is

    made_is : has_made r.view name ≡ leb number s.note.sends
    made_is = ap (holds_of (λ (p : Process). leb number p.sends)) here

    by_made : (b : Bool) → leb number s.note.sends ≡ b → far_partner r.view name from ≡ None →
        Decided t r from to number (cond b senders.Gone senders.Unknown)
    by_made true is none = (none, made_is ∙ is)
    by_made false is none = (none, made_is ∙ is)

    -- it does not wait in it
    over : awaits_near to (process_of s) from number ≡ false → Decided t r from to number (made_by number s.note)
    over is = by_made (leb number s.note.sends) refl (far_by false is)

    awaits_by : (d : Activity) → s.doing ≡ d →
        awaits_near to (process_of s) from number ≡ (holds_of (is_send_near to from) (blocked_in (state_of d)) && s.note.sends == number)
    awaits_by d is = ap (λ x. holds_of (is_send_near to from) (blocked_in (state_of x)) && s.note.sends == number) is

    by_send : (target : Pid) (m : Message) (b : Bool) → s.doing ≡ activities.Blocked (waitings.Send target m) →
        (same_host target from && not (same_host to from) && s.note.sends == number) ≡ b →
        Decided t r from to number (cond b (senders.Waits m s.note.opened s.note.done) (made_by number s.note))
    by_send target m true is test =
        let a = and_parts (same_host target from && not (same_host to from)) (s.note.sends == number) test in
        let v : IsSending r.view s target m = h.waiting to s (waitings.Send target m) found is in
        let at : r.view.exchanges name ≡ Some v.exchange =
        sym (ap r.view.exchanges (λ i. name_of ((seat_found t.seats to s found).named i) (eqb-true s.note.sends number a.1 i))) ∙ v.is in
        let next : Exchange → Option FarSender = λ e. Some (record { process = process_of s; message = m; exchange = e }) in
        record {
          seat = s;
          found = found;
          target = target;
          state = is;
          near = (and_parts (same_host target from) (not (same_host to from)) a.0).0;
          last = a.1;
          opened_is = refl;
          done_is = refl;
          exchange = v.exchange;
          is = at;
          open_is = v.opened;
          so_far = v.done;
          far = far_by true (awaits_by (activities.Blocked (waitings.Send target m)) is ∙ test)
              ∙ ap (λ d. sending (state_of d) >>= λ send. r.view.exchanges name
              >>= λ e. Some (record { process = process_of s; message = send.1; exchange = e })) is
              ∙ ap (λ o. o >>= next) at;
        }
    by_send target m false is test = over (awaits_by (activities.Blocked (waitings.Send target m)) is ∙ test)

    by_doing : (d : Activity) → s.doing ≡ d → Decided t r from to number (sender_doing to from number s.note d)
    by_doing activities.Ready is = over (awaits_by activities.Ready is)
    by_doing (activities.Done w o) is = over (awaits_by (activities.Done w o) is)
    by_doing (activities.Blocked (waitings.Send target m)) is = by_send target m _ is refl
    by_doing (activities.Blocked waitings.Receive) is = over (awaits_by (activities.Blocked waitings.Receive) is)
    by_doing (activities.Blocked (waitings.ReceiveSegment start count)) is =
        over (awaits_by (activities.Blocked (waitings.ReceiveSegment start count)) is)
    by_doing (activities.Blocked (waitings.MoveTo partner dest src count)) is =
        over (awaits_by (activities.Blocked (waitings.MoveTo partner dest src count)) is)
    by_doing (activities.Blocked (waitings.MoveFrom partner dest src count)) is =
        over (awaits_by (activities.Blocked (waitings.MoveFrom partner dest src count)) is)
    by_doing (activities.Blocked (waitings.GetPid logical scope)) is = over (awaits_by (activities.Blocked
        (waitings.GetPid logical scope)) is)

  by_seat : (o : Option Seat) → seat_in t.seats to ≡ o → Decided t r from to number (sender_by to from number o)
  by_seat None none = nobody none
  by_seat (Some s) found = by_doing s found s.doing refl

  pub decided : Decided t r from to number (sender_by to from number (seat_in t.seats to))
  decided = by_seat (seat_in t.seats to) refl

-- What a process waits in, over a change of the kernel; and the processes of which one has changed.
use Rattle.std.proofs.Common.{◌≡◌, ℕ, zero, suc, Bool, true, false, not, ◌&&◌, nat_lt, List, length, Option, Some, None, refl, sym, ap, subst, ◌∙◌, inl, inr, if◌then◌else◌}
use Rattle.std.specs.List.{slice_get}
use Rattle.std.specs.Option.{option_map}
use Rattle.std.proofs.lemmas.Bool.{and_parts, both_ways, cases_Bool, cond-true, cond-false, eq-eqb}
use Rattle.vk_types.specs.Types.{Direction, Exchange, Message, Name, Pid, Stage, Waiting}
use Rattle.vk_base.specs.declared.activity.Waiting.TheVariants as waitings
use Rattle.vk_base.specs.declared.kernel.Direction.TheVariants as directions
use Rattle.vk_base.specs.declared.kernel.Stage.TheVariants as stages
use Rattle.vk_base.specs.Firsts.{change_first}
use Rattle.vk_base.specs.Kernel.{Kernel, move_of, name_of}
use Rattle.vk_base.specs.Pids.{same_host, same_pid}
use Rattle.vk_base.proofs.PidLemmas.{same_pid_self}
use Rattle.v_laws.proofs.Tables.{same_pid_is}
use Rattle.vk_procs.specs.declared.seat.Seat.{Seat}
use Rattle.vk_procs.specs.Seats.{is_seat, seat_in}
use Rattle.vk_stands.specs.Fit.{is_remote_move, may_wait}
use Rattle.vk_stands.specs.Stands.{IsAsking, IsMoving, IsSending, IsWaiting}
use Rattle.vk_stands.specs.Tables.{seat_name, seat_spot, spot_of}
use Rattle.vk_stands.proofs.Found.{seat_found}
use Rattle.vk_stands.proofs.Seats.{find-changed, find-unchanged}
use Rattle.vk_stands.proofs.Views.{Goes}

-- The change of one process of this name.
abbrev pub only : Pid → (Seat → Seat) → Seat → Seat
only pid f s = if same_pid s.pid pid then f s else s

pub only_here : (pid : Pid) (f : Seat → Seat) (s : Seat) → s.pid ≡ pid → only pid f s ≡ f s
only_here pid f s is = cond-true (same_pid s.pid pid) (f s) s (ap (λ p. same_pid p pid) is ∙ same_pid_self pid)

pub only_other : (pid : Pid) (f : Seat → Seat) (s : Seat) → same_pid s.pid pid ≡ false → only pid f s ≡ s
only_other pid f s other = cond-false (same_pid s.pid pid) (f s) s other

only_in : (pid : Pid) (f : Seat → Seat) (seats : List Seat) (o : Option Seat) → seat_in seats pid ≡ o →
    option_map f o ≡ option_map (only pid f) o
only_in pid f seats None none = refl
only_in pid f seats (Some s) some = ap Some (sym (only_here pid f s (seat_found seats pid s some).named))

only_not_in : (pid q : Pid) (f : Seat → Seat) (seats : List Seat) (o : Option Seat) → same_pid q pid ≡ false → seat_in seats q ≡ o →
    o ≡ option_map (only pid f) o
only_not_in pid q f seats None other none = refl
only_not_in pid q f seats (Some s) other some =
    ap Some (sym (only_other pid f s (ap (λ p. same_pid p pid) (seat_found seats q s some).named ∙ other)))

pub seats_changed : (pid : Pid) (f : Seat → Seat) → ((s : Seat) → (f s).pid ≡ s.pid) → (seats : List Seat) (q : Pid) →
    seat_in (change_first (is_seat pid) f seats) q ≡ option_map (only pid f) (seat_in seats q)
seats_changed pid f keeps seats q = elim (cases_Bool (same_pid q pid)) [
  | inl t ↦
      let same : q ≡ pid = same_pid_is q pid t in
      subst (λ p. seat_in (change_first (is_seat pid) f seats) p ≡ option_map (only pid f) (seat_in seats p)) (sym same)
      (find-changed pid f keeps seats ∙ only_in pid f seats (seat_in seats pid) refl)
  | inr other ↦ find-unchanged pid f keeps q seats other ∙ only_not_in pid q f seats (seat_in seats q) other refl
]

-- What a process waits in stands in the new kernel too.
pub record IsSameSeat (s y : Seat) : Type 0 where
  pub pid : y.pid ≡ s.pid
  pub part : y.part.bytes ≡ s.part.bytes
  pub sends : y.note.sends ≡ s.note.sends
  pub lookups : y.note.lookups ≡ s.note.lookups
  pub moving : y.note.moving ≡ s.note.moving
  pub opened : y.note.opened ≡ s.note.opened
  pub done : y.note.done ≡ s.note.done

pub same_seat : (s : Seat) → IsSameSeat s s
same_seat s = record { pid = refl; part = refl; sends = refl; lookups = refl; moving = refl; opened = refl; done = refl }

abbrev pub stage_of_local : Bool → Stage
stage_of_local taken = if taken then stages.Taken else stages.Queued

abbrev pub local_stage : Seat → Stage
local_stage s = stage_of_local s.note.taken

pub move_same : (e y : Exchange) (number : ℕ) → y.moves ≡ e.moves → move_of y number ≡ move_of e number
move_same e y zero same = refl
move_same e y (suc number) same = ap (λ ms. slice_get ms number) same

module _ (k l : Kernel) (forth : (n : Name) (e : Exchange) → k.exchanges n ≡ Some e → (y : Exchange) × (l.exchanges n ≡ Some y) × Goes e y)
    (lookups : (asker : Pid) (number : ℕ) → l.lookups asker number ≡ k.lookups asker number) (s y : Seat) (same : IsSameSeat s y)
    (stage : (target : Pid) (e x : Exchange) → k.exchanges (seat_name s) ≡ Some e → l.exchanges (seat_name s) ≡ Some x →
    same_host s.pid target ≡ true → e.stage ≡ local_stage s → x.stage ≡ local_stage y)
    (spot : (e x : Exchange) → k.exchanges (seat_name s) ≡ Some e → l.exchanges (seat_name s) ≡ Some x → spot_of e ≡ seat_spot s →
    spot_of x ≡ seat_spot y) where
  sent_kept : (target : Pid) (m : Message) → IsSending k s target m → IsSending l y target m
  sent_kept target m v =
      let x = forth (seat_name s) v.exchange v.is in
      record {
        exchange = x.0;
        is = ap l.exchanges (λ i. name_of (same.pid i) (same.sends i)) ∙ x.1;
        target_is = x.2.target ∙ v.target_is;
        message_is = x.2.message ∙ v.message_is;
        part_is = x.2.part ∙ v.part_is ∙ sym same.part;
        spot_is = spot v.exchange x.0 v.is x.1 v.spot_is;
        stage_is = λ local.
            let near : same_host s.pid target ≡ true = ap (λ p. same_host p target) (sym same.pid) ∙ local in
            stage target v.exchange x.0 v.is x.1 near (v.stage_is near);
        opened = x.2.opened ∙ v.opened ∙ sym same.opened;
        done = x.2.done ∙ v.done ∙ sym same.done;
      }

  moving_kept : (partner : Pid) (direction : Direction) (dest count : ℕ) → IsMoving k s partner direction dest count →
      IsMoving l y partner direction dest count
  moving_kept partner direction dest count v =
      let x = forth v.name.exchange v.exchange v.is in
      record {
        name = v.name;
        noted = same.moving ∙ v.noted;
        partner_is = v.partner_is;
        exchange = x.0;
        is = x.1;
        own = λ m at mine. v.own m (sym (move_same v.exchange x.0 v.name.number x.2.moves) ∙ at) (mine ∙ same.pid);
      }

  asking_kept : (logical : ℕ) → IsAsking k s logical → IsAsking l y logical
  asking_kept logical v = record {
    lookup = v.lookup;
    is = (λ i. l.lookups (same.pid i) (same.lookups i)) ∙ lookups s.pid s.note.lookups ∙ v.is;
    logical_is = v.logical_is;
  }

  pub waiting_kept : (w : Waiting) → IsWaiting k s w → IsWaiting l y w
  waiting_kept (waitings.Send target m) v = sent_kept target m v
  waiting_kept (waitings.MoveTo partner dest src count) v = moving_kept partner directions.To dest count v
  waiting_kept (waitings.MoveFrom partner dest src count) v = moving_kept partner directions.From dest count v
  waiting_kept (waitings.GetPid logical scope) v = asking_kept logical v
  waiting_kept waitings.Receive v = tt
  waiting_kept (waitings.ReceiveSegment start count) v = tt

-- What a process waits in is as it was, where its own Send is, its lookup, and the Sends of other stations.
far_partner : (pid partner : Pid) (count : ℕ) (b : Bool) → (is_remote_move pid partner count && b) ≡ true →
    partner.host ≡ pid.host → ⊥
far_partner pid partner count b may here =
    let remote = and_parts (is_remote_move pid partner count) b may in
    let some = and_parts (not (same_host pid partner) && nat_lt 0 count) _ remote.0 in
    let apart = and_parts (not (same_host pid partner)) _ some.0 in
    both_ways (not (same_host pid partner)) (ap not (eq-eqb pid.host partner.host (sym here))) apart.0

module _ (k l : Kernel) (s : Seat) (send : l.exchanges (seat_name s) ≡ k.exchanges (seat_name s))
    (asks : (logical : ℕ) → IsAsking k s logical → IsAsking l s logical)
    (far : (n : Name) → (n.sender.host ≡ s.pid.host → ⊥) → l.exchanges n ≡ k.exchanges n) where
  moving_same : (partner : Pid) (direction : Direction) (dest count : ℕ) → (partner.host ≡ s.pid.host → ⊥) →
      IsMoving k s partner direction dest count → IsMoving l s partner direction dest count
  moving_same partner direction dest count away v = record {
    name = v.name;
    noted = v.noted;
    partner_is = v.partner_is;
    exchange = v.exchange;
    is = far v.name.exchange (λ here. away (sym (ap (λ (p : Pid). p.host) v.partner_is) ∙ here)) ∙ v.is;
    own = v.own;
  }

  pub waiting_same : (w : Waiting) → may_wait s.pid (length s.memory) w ≡ true → IsWaiting k s w → IsWaiting l s w
  waiting_same (waitings.Send target m) may v = record {
    exchange = v.exchange;
    is = send ∙ v.is;
    target_is = v.target_is;
    message_is = v.message_is;
    part_is = v.part_is;
    spot_is = v.spot_is;
    stage_is = v.stage_is;
    opened = v.opened;
    done = v.done;
  }
  waiting_same (waitings.MoveTo partner dest src count) may v =
      moving_same partner directions.To dest count (far_partner s.pid partner count _ may) v
  waiting_same (waitings.MoveFrom partner dest src count) may v =
      moving_same partner directions.From dest count (far_partner s.pid partner count _ may) v
  waiting_same (waitings.GetPid logical scope) may v = asks logical v
  waiting_same waitings.Receive may v = tt
  waiting_same (waitings.ReceiveSegment start count) may v = tt

-- A Send is begun: its exchange is new, its sender waits in it.
use Rattle.std.proofs.Common.{◌≡◌, ◌≤◌, ◌<◌, ℕ, ◌+◌, ◌==◌, ◌&&◌, min, Bool, true, false, cond, List, [], length, Some, refl, sym, ap, subst, ◌∙◌, arith}
use Rattle.std.proofs.lemmas.Bool.{cond-true, leb-true}
use Rattle.std.proofs.lemmas.Grind.{common_steps}
use Rattle.std.proofs.lemmas.Option.{same_Some}
use Rattle.vk_types.specs.Types.{Exchange, Message, Name, Pid, Process, Waiting}
use Rattle.vk_base.specs.declared.activity.Activity.TheVariants as activities
use Rattle.vk_base.specs.declared.activity.Waiting.TheVariants as waitings
use Rattle.vk_base.specs.declared.call.Call.TheVariants as calls
use Rattle.vk_base.specs.declared.kernel.Stage.TheVariants as stages
use Rattle.vk_base.specs.declared.kernel.State.TheVariants as states
use Rattle.vk_base.specs.declared.limits.TheConstants.{SEGMENT_BYTES}
use Rattle.vk_base.specs.Calls.{first_part, sent_exchange}
unfoldable use Rattle.vk_base.specs.Calls.{sent}
use Rattle.vk_base.specs.Kernel.{Kernel, is_at_target, name_of, put_process, same_name}
use Rattle.vk_base.specs.Messages.{grants_read, segment_of}
use Rattle.vk_base.specs.Pids.{same_host, same_pid}
use Rattle.vk_base.specs.Ranges.{bytes_in, lies_in, range_of}
use Rattle.v_laws.proofs.Tables.{put_exchange_at, put_exchange_other, same_name_is, same_name_self}
use Rattle.vk_packet.specs.Rules.{part_len}
use Rattle.vk_procs.specs.declared.seat.Seat.{Seat}
use Rattle.vk_procs.specs.Seats.{begun_send, next, process_of, seat_in}
use Rattle.vk_stands.specs.Fit.{AreFit, IsFitSeat, may_go_on, may_wait}
use Rattle.vk_stands.specs.Stands.{IsSender, IsWaiting}
use Rattle.vk_stands.specs.Tables.{Tables}
use Rattle.vk_stands.proofs.Fits.{fit_seated}
use Rattle.vk_stands.proofs.Found.{seat_found}
use Rattle.vk_stands.proofs.OneSeat.{ChangesSeat, ready_sender, seated, seated_here, view_changed}
use Rattle.vk_stands.proofs.Parts.{Part}
use Rattle.vk_stands.proofs.Views.{StandsView, view_listed}

-- The part of a segment that lies in the memory is as long as it has to be.
part_by : (m : Message) (memory : List ℕ) (b : Bool) → (segment_of m).start + (segment_of m).len ≤ length memory →
    length (cond b (bytes_in (range_of (segment_of m).start (min (segment_of m).len SEGMENT_BYTES)) memory) [])
    ≡ cond b (min (segment_of m).len SEGMENT_BYTES) 0
part_by m memory true lies = grind (arith, common_steps)
part_by m memory false lies = refl

pub part_length : (m : Message) (memory : List ℕ) → lies_in (segment_of m) (length memory) ≡ true →
    length (first_part m memory) ≡ part_len m
part_length m memory lies =
    part_by m memory (grants_read m) (leb-true ((segment_of m).start + (segment_of m).len) (length memory) lies)

pub part_low : (b : Bool) (n : ℕ) → cond b (min n SEGMENT_BYTES) 0 ≤ SEGMENT_BYTES
part_low true n = omega arith
part_low false n = omega arith

-- What has to be known of the process that sends.
pub record CanSend (s : Seat) (m : Message) : Type 0 where
  pub ready : s.doing ≡ activities.Ready
  pub lies : lies_in (segment_of m) (length s.memory) ≡ true
  pub more : next s.note.sends ≡ s.note.sends + 1

pub same_send : (target : Pid) (m : Message) (w : Waiting) → activities.Blocked (waitings.Send target m) ≡ activities.Blocked w →
    waitings.Send target m ≡ w
same_send target m w is = cc

pub ready_waits : (s : Seat) (w : Waiting) → s.doing ≡ activities.Ready → s.doing ≡ activities.Blocked w → ⊥
ready_waits s w ready waits = let both : activities.Ready ≡ activities.Blocked w = sym ready ∙ waits in absurd (cc)

module _ (host : ℕ) (t : Tables) (k : Kernel) (part : Part host t k) (pid : Pid) (own : pid.host ≡ host) (s : Seat)
    (found : seat_in t.seats pid ≡ Some s) (target : Pid) (m : Message) (g : CanSend s m) where
  abbrev f : Seat → Seat
  f = begun_send target m

  abbrev p : Process
  p = process_of s

  abbrev after : Process
  after = record p { state = states.Blocked (calls.Send target m); sends = p.sends + 1 }

  abbrev name : Name
  name = name_of pid (s.note.sends + 1)

  abbrev x : Exchange
  x = sent_exchange pid p target m

  abbrev l : Kernel
  l = sent k pid p target m

  named : s.pid ≡ pid
  named = (seat_found t.seats pid s found).named

  is_process : process_of (f s) ≡ after
  is_process = λ i. record after { sends = g.more i }

  pub fits_sent : IsFitSeat host s → IsFitSeat host (f s)
  fits_sent fit = record {
    own = fit.own;
    waits = λ w is. subst (λ v. may_wait s.pid (length s.memory) v ≡ true) (same_send target m w is) g.lies;
    moves = λ w is. subst (λ v. may_go_on (f s).note v ≡ true) (same_send target m w is) refl;
    done = omega arith;
    part = λ to n is. part_length m s.memory g.lies ∙ ap (λ w. part_len_in w) (same_send target m (waitings.Send to n) is);
    few = subst (λ n. n ≤ SEGMENT_BYTES) (sym (part_length m s.memory g.lies)) (part_low (grants_read m) (segment_of m).len);
    away = λ to n is far. ap send_target (same_send target m (waitings.Send to n) is);
    begun = λ to n is. subst (λ n. 0 < n) (sym g.more) (omega arith);
    asked = λ logical scope is. absurd (cc);
  }
    where
      part_len_in : Waiting → ℕ
      part_len_in (waitings.Send to n) = part_len n
      part_len_in w = 0

      send_target : Waiting → Pid
      send_target (waitings.Send to n) = to
      send_target w = target

  pub begun_fit : AreFit host (seated t pid f)
  begun_fit = fit_seated host t part.fit pid f (λ x. refl)
      (λ x is. subst (λ z. IsFitSeat host z → IsFitSeat host (f z)) (same_Some s x (sym found ∙ is)) fits_sent)

  pub seat_here : seat_in (seated t pid f).seats pid ≡ Some (f s)
  seat_here = seated_here t pid f (λ z. refl) s found

  sent_here : IsWaiting l (f s) (waitings.Send target m)
  unfolding sent
  sent_here = record {
    exchange = x;
    is = (λ i. l.exchanges (name_of (named i) (g.more i))) ∙ put_exchange_at k.exchanges name x name (same_name_self name);
    target_is = refl;
    message_is = refl;
    part_is = refl;
    spot_is = refl;
    stage_is = λ local. cond-true (same_host pid target) stages.Queued stages.Posted (ap (λ a. same_host a target) (sym named) ∙ local);
    opened = refl;
    done = refl;
  }

  home_by : (n : Name) (y : Exchange) (b : Bool) → same_name n name ≡ b → same_pid n.sender pid ≡ true → l.exchanges n ≡ Some y →
      y.target.host ≡ host → is_at_target y.stage ≡ true → IsSender n y (f s)
  unfolding sent
  home_by n y true same own_name at there near =
      let one : x ≡ y = same_Some x y (sym (put_exchange_at k.exchanges name x n same) ∙ at) in
      record {
        waits = λ i. activities.Blocked (waitings.Send (one i).target (one i).message);
        last = g.more ∙ ap (λ (a : Name). a.number) (sym (same_name_is n name same));
      }
  home_by n y false other own_name at there near = absurd (ready_sender host t k part.fit part.view pid own s found g.ready n y own_name
      (sym (put_exchange_other k.exchanges name x n other) ∙ at) there near)

  changes : ChangesSeat k l pid s (f s)
  unfolding sent
  changes = record {
    procs = λ q. ap (λ a. put_process k.procs pid a q) (sym is_process);
    sends = λ n other. put_exchange_other k.exchanges name x n (ap (λ b. b && n.number == s.note.sends + 1) other);
    lookups = λ asker number other. refl;
    dead = λ dead. dead;
    waits = λ w is. subst (IsWaiting l (f s)) (same_send target m w is) sent_here;
    home = λ n y mine at there near. home_by n y (same_name n name) refl mine at (there ∙ own) near;
  }

  -- whatever has become of the lists
  pub view_sent : (lists : List (List ℕ)) → StandsView host (record (seated t pid f) { lists = lists }) l
  view_sent lists = view_listed lists (view_changed host t k l part.fit part.view pid own s found f (λ z. refl) changes)

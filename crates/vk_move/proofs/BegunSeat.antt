-- A process that was ready waits in something that is no Send: the tables stand for it.
use Rattle.std.proofs.Common.{◌≡◌, ℕ, false, refl, sym, ap, subst, ◌∙◌, Some}
use Rattle.std.proofs.lemmas.Option.{same_Some}
use Rattle.vk_types.specs.Types.{Name, Pid, Waiting}
use Rattle.vk_base.specs.declared.activity.Activity.TheVariants as activities
use Rattle.vk_base.specs.Kernel.{Kernel, queue_of}
use Rattle.v_laws.specs.Sound.{IsSoundAt}
use Rattle.vk_procs.specs.declared.seat.Seat.{Seat}
use Rattle.vk_procs.specs.Seats.{process_of, seat_in}
use Rattle.vk_stands.specs.Fit.{IsFitSeat}
use Rattle.vk_stands.specs.Stands.{IsWaiting}
use Rattle.vk_stands.specs.Tables.{Tables, seat_name}
use Rattle.vk_stands.proofs.Fits.{fit_seated, queues_seated}
use Rattle.vk_stands.proofs.OneSeat.{ChangesSeat, ready_sender, seated, view_changed}
use Rattle.vk_stands.proofs.Parts.{Part}
use Rattle.vk_stands.proofs.Process.{with_process}

-- what has to be known of the process s, which becomes y
pub record BeginsToWait (host : ℕ) (l : Kernel) (s y : Seat) : Type 0 where
  pub ready : s.doing ≡ activities.Ready
  pub alive : y.alive ≡ s.alive
  pub waits : (w : Waiting) → y.doing ≡ activities.Blocked w → IsWaiting l y w
  pub fits : IsFitSeat host s → IsFitSeat host y

module _ (host : ℕ) (t : Tables) (k : Kernel) (part : Part host t k) (pid : Pid) (own : pid.host ≡ host) (s : Seat)
    (found : seat_in t.seats pid ≡ Some s) (f : Seat → Seat) (keeps : (x : Seat) → seat_name (f x) ≡ seat_name x)
    (g : BeginsToWait host (with_process k pid (process_of (f s))) s (f s)) where
  abbrev l : Kernel
  l = with_process k pid (process_of (f s))

  keeps_pid : (x : Seat) → (f x).pid ≡ x.pid
  keeps_pid x = ap (λ (n : Name). n.sender) (keeps x)

  changes : ChangesSeat k l pid s (f s)
  changes = record {
    procs = λ q. refl;
    sends = λ n other. refl;
    lookups = λ asker number other. refl;
    dead = λ dead. g.alive ∙ dead;
    waits = g.waits;
    home = λ n e mine at there near.
        absurd (ready_sender host t k part.fit part.view pid own s found g.ready n e mine at (there ∙ own) near);
  }

  pub part_waits : IsSoundAt (λ g. false) l → Part host (seated t pid f) l
  unfolding queue_of
  part_waits sound = record {
    fit = fit_seated host t part.fit pid f keeps_pid
        (λ x at. subst (λ z. IsFitSeat host z → IsFitSeat host (f z)) (same_Some s x (sym found ∙ at)) g.fits);
    view = view_changed host t k l part.fit part.view pid own s found f keeps_pid changes;
    sound = sound;
    names = part.names;
    unknown = part.unknown;
    queues = queues_seated t pid f keeps k l (λ q at place. refl) part.queues;
  }

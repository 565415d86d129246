-- One process of the station does something else, or its memory is another one, and no Send changes.
use Rattle.std.proofs.Common.{◌≡◌, ◌⊎◌, ℕ, Bool, true, false, Some, refl, sym, ap, subst, ◌∙◌, inl, inr}
use Rattle.std.specs.Option.{option_map}
use Rattle.std.proofs.lemmas.Option.{same_Some}
use Rattle.vk_types.specs.Types.{Exchange, Name, Pid, Process, Waiting}
use Rattle.vk_base.specs.declared.activity.Activity.TheVariants as activities
use Rattle.vk_base.specs.declared.activity.Waiting.TheVariants as waitings
use Rattle.vk_base.specs.Kernel.{Kernel, is_at_target, put_process, queue_of}
use Rattle.vk_base.specs.Pids.{same_host, same_pid}
use Rattle.v_laws.specs.Sound.{IsSoundAt}
use Rattle.v_laws.proofs.Tables.{put_process_at, put_process_other, same_pid_is}
use Rattle.vk_procs.specs.declared.seat.Seat.{Seat}
use Rattle.vk_procs.specs.Seats.{process_of, seat_in}
use Rattle.vk_stands.specs.Fit.{IsFitSeat}
use Rattle.vk_stands.specs.Stands.{IsWaiting}
use Rattle.vk_stands.specs.Tables.{Tables, seat_name, seat_spot, spot_of}
use Rattle.vk_stands.proofs.Fits.{fit_seated, queues_seated}
use Rattle.vk_stands.proofs.OneSeat.{ChangesOne, seated, view_seated}
use Rattle.vk_stands.proofs.Parts.{Part}
use Rattle.vk_stands.proofs.Views.{goes_self}
use Rattle.vk_stands.proofs.Waits.{IsSameSeat, stage_of_local}

-- a kernel with this process there
abbrev pub with_process : Kernel → Pid → Process → Kernel
with_process k pid p = record k { procs = put_process k.procs pid p }

-- What has to be known of the process s, which becomes y.
pub record Becomes (host : ℕ) (k : Kernel) (s y : Seat) : Type 0 where
  pub same : IsSameSeat s y
  pub taken : y.note.taken ≡ s.note.taken
  pub spot : seat_spot y ≡ seat_spot s
  pub alive : y.alive ≡ s.alive
  -- what it waits in it waited in before, or it is a receive
  pub waits : (w : Waiting) → y.doing ≡ activities.Blocked w → (s.doing ≡ activities.Blocked w) ⊎ IsWaiting k y w
  -- it still waits in a local Send that is at its target
  pub sends : (e : Exchange) → k.exchanges (seat_name s) ≡ Some e → same_host s.pid e.target ≡ true → is_at_target e.stage ≡ true →
      s.doing ≡ activities.Blocked (waitings.Send e.target e.message) → y.doing ≡ s.doing
  pub fits : IsFitSeat host s → IsFitSeat host y

module _ (host : ℕ) (t : Tables) (k : Kernel) (part : Part host t k) (pid : Pid) (own : pid.host ≡ host) (s : Seat)
    (found : seat_in t.seats pid ≡ Some s) (f : Seat → Seat) (keeps : (x : Seat) →
    seat_name (f x) ≡ seat_name x) (g : Becomes host k s (f s)) where
  keeps_pid : (x : Seat) → (f x).pid ≡ x.pid
  keeps_pid x = ap (λ (n : Name). n.sender) (keeps x)

  abbrev l : Kernel
  l = with_process k pid (process_of (f s))

  waiting_in : (w : Waiting) → IsWaiting k (f s) w → IsWaiting l (f s) w
  waiting_in (waitings.Send target m) v = record {
    exchange = v.exchange;
    is = v.is;
    target_is = v.target_is;
    message_is = v.message_is;
    part_is = v.part_is;
    spot_is = v.spot_is;
    stage_is = v.stage_is;
    opened = v.opened;
    done = v.done;
  }
  waiting_in (waitings.MoveTo partner dest src count) v = record {
    name = v.name;
    noted = v.noted;
    partner_is = v.partner_is;
    exchange = v.exchange;
    is = v.is;
    own = v.own;
  }
  waiting_in (waitings.MoveFrom partner dest src count) v = record {
    name = v.name;
    noted = v.noted;
    partner_is = v.partner_is;
    exchange = v.exchange;
    is = v.is;
    own = v.own;
  }
  waiting_in (waitings.GetPid logical scope) v = record { lookup = v.lookup; is = v.is; logical_is = v.logical_is }
  waiting_in waitings.Receive v = tt
  waiting_in (waitings.ReceiveSegment start count) v = tt

  waits_now : (w : Waiting) → (s.doing ≡ activities.Blocked w) ⊎ IsWaiting k (f s) w →
      (s.doing ≡ activities.Blocked w) ⊎ IsWaiting l (f s) w
  waits_now w (inl before) = inl before
  waits_now w (inr is) = inr (waiting_in w is)

  changes : ChangesOne k l pid s (f s)
  changes = record {
    procs = λ q. refl;
    others = λ n other. refl;
    forth = λ n e at. (e, at, goes_self e);
    back = λ n e at. (e, at, goes_self e);
    lookups = λ asker number. refl;
    same = g.same;
    stage = λ target e x at there local doing stage.
        ap (λ (a : Exchange). a.stage) (same_Some x e (sym there ∙ at)) ∙ stage ∙ ap stage_of_local (sym g.taken);
    spot = λ e x at there spot. ap spot_of (same_Some x e (sym there ∙ at)) ∙ spot ∙ sym g.spot;
    dead = λ dead. g.alive ∙ dead;
    waits = λ w is. waits_now w (g.waits w is);
    sends = g.sends;
  }

  pub part_process : IsSoundAt (λ g. false) l → Part host (seated t pid f) l
  unfolding queue_of
  part_process sound = record {
    fit = fit_seated host t part.fit pid f keeps_pid
        (λ x at. subst (λ z. IsFitSeat host z → IsFitSeat host (f z)) (same_Some s x (sym found ∙ at)) g.fits);
    view = view_seated host t k l part.fit part.view pid own s found f keeps_pid changes;
    sound = sound;
    names = part.names;
    unknown = part.unknown;
    queues = queues_seated t pid f keeps k l (λ q at place. refl) part.queues;
  }

  -- what the kernel has of it is the same
  process_by : (q : Pid) (b : Bool) → same_pid q pid ≡ b → process_of (f s) ≡ process_of s → l.procs q ≡ k.procs q
  process_by q true same is =
      put_process_at k.procs pid (process_of (f s)) q same ∙ ap Some is
      ∙ sym (ap k.procs (same_pid_is q pid same) ∙ part.view.procs pid own ∙ ap (option_map process_of) found)
  process_by q false other is = put_process_other k.procs pid (process_of (f s)) q other

  same_kernel : process_of (f s) ≡ process_of s → l ≡ k
  same_kernel is = λ i. record k { procs = λ q. process_by q (same_pid q pid) refl is i }

  pub part_noted : process_of (f s) ≡ process_of s → Part host (seated t pid f) k
  part_noted is = subst (Part host (seated t pid f)) (same_kernel is)
      (part_process (subst (IsSoundAt (λ g. false)) (sym (same_kernel is)) part.sound))

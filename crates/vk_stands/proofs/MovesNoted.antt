-- What a process that waits in a move notes of its work changes, and the view does not.
use Rattle.std.proofs.Common.{◌≡◌, ℕ, ◌+◌, Bool, true, false, refl, sym, ap, ◌∙◌, subst, Some, inl}
use Rattle.std.specs.Option.{option_map}
use Rattle.std.proofs.lemmas.Option.{same_Some}
use Rattle.vk_types.specs.Types.{Exchange, Pid, Times, Waiting}
use Rattle.vk_base.specs.declared.activity.Activity.TheVariants as activities
use Rattle.vk_base.specs.Kernel.{Kernel, queue_of}
use Rattle.vk_base.specs.Pids.{same_pid}
use Rattle.v_laws.specs.Sound.{IsSoundAt}
use Rattle.vk_procs.specs.declared.seat.Seat.{Seat}
use Rattle.vk_procs.specs.Seats.{process_of, seat_in}
use Rattle.vk_rules.specs.Readings.{Reading}
use Rattle.vk_stands.specs.Fit.{AreFit}
use Rattle.vk_stands.specs.Stands.{HasOwnNames, IsWorking, Stands}
use Rattle.vk_stands.specs.Tables.{Tables, is_work, spot_of}
use Rattle.vk_stands.proofs.Fits.{queues_seated}
use Rattle.vk_stands.proofs.MoverSeated.{rises, stands_worked_on}
use Rattle.vk_stands.proofs.OneSeat.{ChangesOne, same_put, seated, seated_here, seated_other, view_seated}
use Rattle.vk_stands.proofs.Parts.{same_more}
use Rattle.vk_stands.proofs.Views.{StandsView, goes_self, view_in}

-- the numbers of its work
abbrev pub worked : (tries deadline offset : ℕ) (fresh : Bool) → Seat → Seat
worked tries deadline offset fresh s =
    record s { note = record s.note { work = record { tries = tries; deadline = deadline }; offset = offset; fresh = fresh } }

module _ (times : Times) (host : ℕ) (t : Tables) (r : Reading) (h : Stands times host t r) (fit : AreFit host t) (pid : Pid)
    (own : pid.host ≡ host)
    (s : Seat) (found : seat_in t.seats pid ≡ Some s) (tries deadline offset : ℕ) (fresh : Bool) where
  abbrev f : Seat → Seat
  f = worked tries deadline offset fresh

  change : ChangesOne r.view r.view pid s (f s)
  change = record {
    procs = λ q. same_put r.view.procs pid (process_of s) q (h.procs pid own ∙ ap (option_map process_of) found);
    others = λ n other. refl;
    forth = λ n e at. (e, at, goes_self e);
    back = λ n e at. (e, at, goes_self e);
    lookups = λ asker n. refl;
    same = record { pid = refl; part = refl; sends = refl; lookups = refl; moving = refl; opened = refl; done = refl };
    stage = λ target e x at there local doing stage. ap (λ (z : Exchange). z.stage) (same_Some x e (sym there ∙ at)) ∙ stage;
    spot = λ e x at there spot. ap spot_of (same_Some x e (sym there ∙ at)) ∙ spot;
    dead = λ d. d;
    waits = λ w is. inl is;
    sends = λ e at here near is. refl;
  }

  view : StandsView host (seated t pid f) r.view
  view = view_seated host t r.view r.view fit (view_in times host t r h) pid own s found f (λ x. refl) change

  module _ (q : Reading) (view_same : q.view ≡ r.view) (slots_same : q.slots ≡ r.slots) (events : q.events ≡ r.events + 1)
      (work_other : (p : Pid) → same_pid p pid ≡ false → q.work p ≡ r.work p)
      (work_here : (w : Waiting) → s.doing ≡ activities.Blocked w → is_work pid w ≡ true → IsWorking times (f s) (q.work pid) w) where
    pub stands_worked : Stands times host (seated t pid f) q
    stands_worked = stands_worked_on times host t (seated t pid f) r q h pid s (f s) (record {
      was = found;
      is = seated_here t pid f (λ x. refl) s found;
      others = seated_other t pid f (λ x. refl);
      sends = same_more 1 s.note.sends;
      lookups = same_more 1 s.note.lookups;
      slots = slots_same ∙ h.slots;
      moved = λ sender x at. rises x.moves r.events (h.moved sender x at);
      events = events;
      rest = work_other;
      works = work_here;
    }) (subst (StandsView host (seated t pid f)) (sym view_same) view) (subst (IsSoundAt (λ g. false)) (sym view_same) h.sound)
        (ap (λ (k : Kernel). k.names host) view_same ∙ h.names) (subst (HasOwnNames host) (sym view_same) h.unknown)
        (queues_seated t pid f (λ x. refl) r.view q.view (λ p at place. ap (λ k. queue_of k p) view_same) h.queues)

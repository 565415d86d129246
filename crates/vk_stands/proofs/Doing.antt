-- Changes of one process: a receive is begun, an answer is collected, bytes are written.
use Rattle.std.proofs.Common.{◌≡◌, ℕ, ◌+◌, true, false, List, length, Some, refl, sym, ap, subst, ◌∙◌, inl, inr}
use Rattle.std.proofs.lemmas.Bool.{leb-true}
use Rattle.vk_types.specs.Types.{Activity, Message, Pid, Scope, Waiting}
use Rattle.vk_base.specs.declared.activity.Activity.TheVariants as activities
use Rattle.vk_base.specs.declared.activity.Waiting.TheVariants as waitings
use Rattle.vk_base.specs.declared.kernel.State.TheVariants as states
use Rattle.vk_base.specs.Activities.{call_of, state_of}
use Rattle.vk_base.specs.Kernel.{Kernel, with_memory, with_state}
use Rattle.vk_base.specs.Ranges.{lies_in, range_of, with_bytes}
use Rattle.v_laws.specs.Sound.{IsSoundAt}
use Rattle.v_laws.proofs.Sizes.{length-with_bytes}
use Rattle.vk_procs.specs.declared.seat.Seat.{Seat}
use Rattle.vk_procs.specs.Seats.{doing_now, process_of, seat_in}
use Rattle.vk_stands.specs.Fit.{IsFitSeat, may_go_on, may_wait}
use Rattle.vk_stands.specs.Stands.{IsWaiting}
use Rattle.vk_stands.specs.Tables.{Tables, is_work}
use Rattle.vk_stands.proofs.FitSeats.{fit_idle, fit_memory}
use Rattle.vk_stands.proofs.OneSeat.{seated}
use Rattle.vk_stands.proofs.Parts.{Carries, Part, carries_seated, same_more}
use Rattle.vk_stands.proofs.Process.{part_process}

-- An activity that waits in nothing, as one that is ready or done.
abbrev pub Idles : Activity → Type 0
Idles activities.Ready = Unit {0}
Idles (activities.Blocked w) = ⊥
Idles (activities.Done w o) = Unit {0}

idle_not : (d : Activity) (w : Waiting) → Idles d → d ≡ activities.Blocked w → ⊥
idle_not d w idles is = subst Idles is idles

-- what a process does now, where it is ready
pub record MayBegin (host : ℕ) (k : Kernel) (s : Seat) (w : Waiting) : Type 0 where
  pub ready : s.doing ≡ activities.Ready
  pub waiting : IsWaiting k (doing_now (activities.Blocked w) s) w
  pub fits : may_wait s.pid (length s.memory) w ≡ true
  pub goes : may_go_on s.note w ≡ true
  pub no_send : (target : Pid) (m : Message) → w ≡ waitings.Send target m → ⊥
  pub no_lookup : (logical : ℕ) (scope : Scope) → w ≡ waitings.GetPid logical scope → ⊥

same_waiting : (v w : Waiting) → activities.Blocked v ≡ activities.Blocked w → v ≡ w
same_waiting v w is = cc

module _ (host : ℕ) (t : Tables) (k : Kernel) (part : Part host t k) (pid : Pid) (own : pid.host ≡ host) (s : Seat)
    (found : seat_in t.seats pid ≡ Some s) where
  -- the process waits in a call that raises no number, which no other station concerns
  module _ (w : Waiting) (g : MayBegin host k s w) where
    fits_begun : IsFitSeat host s → IsFitSeat host (doing_now (activities.Blocked w) s)
    fits_begun fit = record {
      own = fit.own;
      waits = λ v is. subst (λ x. may_wait s.pid (length s.memory) x ≡ true) (same_waiting w v is) g.fits;
      moves = λ v is. subst (λ x. may_go_on s.note x ≡ true) (same_waiting w v is) g.goes;
      done = fit.done;
      part = λ target m is. absurd (g.no_send target m (same_waiting w (waitings.Send target m) is));
      few = fit.few;
      away = λ target m is far. absurd (g.no_send target m (same_waiting w (waitings.Send target m) is));
      begun = λ target m is. absurd (g.no_send target m (same_waiting w (waitings.Send target m) is));
      asked = λ logical scope is. absurd (g.no_lookup logical scope (same_waiting w (waitings.GetPid logical scope) is));
    }

    pub begun_part : IsSoundAt (λ g. false) (with_state k pid (process_of s) (states.Blocked (call_of w))) →
        Part host (seated t pid (doing_now (activities.Blocked w))) (with_state k pid (process_of s) (states.Blocked (call_of w)))
    begun_part = part_process host t k part pid own s found (doing_now (activities.Blocked w)) (λ x. refl) (record {
      same = record { pid = refl; part = refl; sends = refl; lookups = refl; moving = refl; opened = refl; done = refl };
      taken = refl;
      spot = refl;
      alive = refl;
      waits = λ v is. inr (subst (λ x. IsWaiting k (doing_now (activities.Blocked w) s) x) (same_waiting w v is) g.waiting);
      sends = λ e at here near is. absurd (idle_not s.doing (waitings.Send e.target e.message) (subst Idles (sym g.ready) tt) is);
      fits = fits_begun;
    })

    pub begun_carries : is_work pid w ≡ false → Carries 0 t (seated t pid (doing_now (activities.Blocked w)))
    begun_carries no_work = carries_seated 0 t pid s found (doing_now (activities.Blocked w)) (λ x. refl) (same_more 0 s.note.sends)
        (same_more 0 s.note.lookups)
        (λ v is work. let both : false ≡ true = sym no_work ∙ ap (is_work pid) (same_waiting w v is) ∙ work in absurd (cc))

  -- it is over what it did: ready, or done
  module _ (d : Activity) (idles : Idles d) (over : (target : Pid) (m : Message) → s.doing ≡ activities.Blocked (waitings.Send target m) →
      ⊥) where
    pub idle_part : IsSoundAt (λ g. false) (with_state k pid (process_of s) (state_of d)) →
        Part host (seated t pid (doing_now d)) (with_state k pid (process_of s) (state_of d))
    idle_part = part_process host t k part pid own s found (doing_now d) (λ x. refl) (record {
      same = record { pid = refl; part = refl; sends = refl; lookups = refl; moving = refl; opened = refl; done = refl };
      taken = refl;
      spot = refl;
      alive = refl;
      waits = λ v is. absurd (idle_not d v idles is);
      sends = λ e at here near is. absurd (over e.target e.message is);
      fits = fit_idle host s (doing_now d s) refl refl refl (λ w is. idle_not d w idles is);
    })

    pub idle_carries : Carries 0 t (seated t pid (doing_now d))
    idle_carries = carries_seated 0 t pid s found (doing_now d) (λ x. refl) (same_more 0 s.note.sends) (same_more 0 s.note.lookups)
        (λ v is work. absurd (idle_not d v idles is))

  -- its memory has other bytes
  module _ (memory : List ℕ) (long : length memory ≡ length s.memory) where
    abbrev pub remembering : Seat → Seat
    remembering x = record x { memory = memory }

    pub memory_part : IsSoundAt (λ g. false) (with_memory k pid (process_of s) memory) →
        Part host (seated t pid remembering) (with_memory k pid (process_of s) memory)
    memory_part = part_process host t k part pid own s found remembering (λ x. refl) (record {
      same = record { pid = refl; part = refl; sends = refl; lookups = refl; moving = refl; opened = refl; done = refl };
      taken = refl;
      spot = refl;
      alive = refl;
      waits = λ v is. inl is;
      sends = λ e at here near is. refl;
      fits = fit_memory host s memory long;
    })

    pub memory_carries : Carries 0 t (seated t pid remembering)
    memory_carries = carries_seated 0 t pid s found remembering (λ x. refl) (same_more 0 s.note.sends) (same_more 0 s.note.lookups)
        (λ v is work. (is, record { work = refl; offset = refl; fresh = refl }))

pub overwritten_length : (at : ℕ) (bytes memory : List ℕ) → lies_in (range_of at (length bytes)) (length memory) ≡ true →
    length (with_bytes memory at bytes) ≡ length memory
overwritten_length at bytes memory lies = length-with_bytes memory at bytes (leb-true (at + length bytes) (length memory) lies)

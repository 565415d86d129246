-- The whole relation from the part that speaks of view and tables alone, with queues, works and counts.
use Rattle.std.proofs.Common.{◌≡◌, ◌≤◌, ℕ, ◌+◌, Bool, true, false, List, [], ◌∷◌, fold, map, Option, Some, None, refl, sym, ap, subst, ◌∙◌, arith}
use Rattle.std.specs.List.{position}
use Rattle.std.specs.Option.{option_map}
use Rattle.vk_types.specs.Types.{Pid, Step, Times, Waiting}
use Rattle.vk_base.specs.declared.activity.Activity.TheVariants as activities
use Rattle.vk_base.specs.declared.activity.Waiting.TheVariants as waitings
use Rattle.vk_base.specs.Calls.{Effect}
use Rattle.vk_base.specs.Kernel.{Kernel, queue_of}
use Rattle.vk_base.specs.Steps.{after_effect, effect, next}
use Rattle.v_laws.specs.Sound.{IsSoundAt}
use Rattle.v_laws.proofs.SoundLemmas.{sound_step}
use Rattle.vk_pool.specs.declared.alien.Alien.{Alien}
use Rattle.vk_pool.specs.Aliens.{alien_from}
use Rattle.vk_procs.specs.declared.seat.Seat.{Seat}
use Rattle.vk_procs.specs.Seats.{is_seat, seat_in}
use Rattle.vk_rules.specs.Readings.{Reading}
use Rattle.vk_rules.specs.Works.{Work}
use Rattle.vk_stands.specs.Stands.{HasOwnNames, IsFar, IsWorking, Stands}
use Rattle.vk_stands.specs.Tables.{Tables, is_work, names_at, read_alien}
use Rattle.vk_stands.proofs.Views.{StandsView, view_in}

-- Steps keep a kernel sound, refused ones too.
by_effect : {sees : ℕ → Bool} (k : Kernel) (s : Step) (o : Option Effect) → effect k s ≡ o → IsSoundAt sees k →
    IsSoundAt sees (after_effect k o)
by_effect k s None none sound = sound
by_effect k s (Some e) some sound = sound_step k s e sound some

pub sound_next : {sees : ℕ → Bool} (k : Kernel) (s : Step) → IsSoundAt sees k → IsSoundAt sees (next k s)
sound_next k s sound = by_effect k s (effect k s) refl sound

pub sound_after : {sees : ℕ → Bool} (k : Kernel) (ss : List Step) → IsSoundAt sees k → IsSoundAt sees (fold next k ss)
sound_after k [] sound = sound
sound_after k (s ∷ ss) sound = sound_after (next k s) ss (sound_next k s sound)

-- A work that goes on: its process waits in it as before, with the same counter, deadline and place.
far_kept : (s old : Seat) (v : Work) (w : Waiting) → s.note.offset ≡ old.note.offset → s.note.fresh ≡ old.note.fresh → IsFar old v w →
    IsFar s v w
far_kept s old v (waitings.MoveTo partner dest src count) offset fresh far = offset ∙ far
far_kept s old v (waitings.MoveFrom partner dest src count) offset fresh far = (offset ∙ far.0, fresh ∙ far.1)
far_kept s old v (waitings.Send target m) offset fresh far = tt
far_kept s old v waitings.Receive offset fresh far = tt
far_kept s old v (waitings.ReceiveSegment start count) offset fresh far = tt
far_kept s old v (waitings.GetPid logical scope) offset fresh far = tt

pub record IsSameWork (s old : Seat) : Type 0 where
  pub work : s.note.work ≡ old.note.work
  pub offset : s.note.offset ≡ old.note.offset
  pub fresh : s.note.fresh ≡ old.note.fresh

pub same_work : (s : Seat) → IsSameWork s s
same_work s = record { work = refl; offset = refl; fresh = refl }

pub working_kept : (times : Times) (s old : Seat) (v v' : Work) (w : Waiting) → IsSameWork s old → v' ≡ v → IsWorking times old v w →
    IsWorking times s v' w
working_kept times s old v v' w same is k = subst (λ x. IsWorking times s x w) (sym is) (record {
  tries = (λ i. (same.work i).tries) ∙ k.tries;
  deadline = (λ i. (same.work i).deadline) ∙ k.deadline;
  far = far_kept s old v w same.offset same.fresh k.far;
})

-- Where a process of the station is found in the new tables it was there before, and has counted at most one more of each.
pub record IsLater (t : Tables) (pid : Pid) (s : Seat) : Type 0 where
  pub old : Seat
  pub was : seat_in t.seats pid ≡ Some old
  pub sends : s.note.sends ≤ old.note.sends + 1
  pub lookups : s.note.lookups ≤ old.note.lookups + 1

-- What of the relation is neither about the part nor about works.
pub record Beside (host : ℕ) (t u : Tables) (r q : Reading) : Type 0 where
  pub sound : IsSoundAt (λ g. false) q.view
  pub names : q.view.names host ≡ u.names
  pub unknown : HasOwnNames host q.view
  pub slots : q.slots ≡ map (option_map read_alien) u.slots
  pub queues : (pid : Pid) (at : ℕ) → position (is_seat pid) u.seats ≡ Some at → map Some (queue_of q.view pid) ≡ names_at u at
  pub events : q.events ≡ r.events + 1
  pub seats : (pid : Pid) (s : Seat) → seat_in u.seats pid ≡ Some s → IsLater t pid s
  pub aliens : (sender : Pid) (a : Alien) → alien_from u.slots sender ≡ Some a → a.moves ≤ q.events

one_more : (n old events now : ℕ) → n ≤ old + 1 → old ≤ events → now ≡ events + 1 → n ≤ now
one_more n old events now a b c = omega arith

pub stands_then : (times : Times) (host : ℕ) (t u : Tables) (r q : Reading) → Stands times host t r → StandsView host u q.view →
    Beside host t u r q →
    ((pid : Pid) (s : Seat) (w : Waiting) → seat_in u.seats pid ≡ Some s → s.doing ≡ activities.Blocked w → is_work pid w ≡ true →
    IsWorking times s (q.work pid) w) → Stands times host u q
stands_then times host t u r q h view beside works = record {
  procs = view.procs;
  sound = beside.sound;
  elsewhere = view.elsewhere;
  names = beside.names;
  unknown = beside.unknown;
  slots = beside.slots;
  kept = view.kept;
  waiting = view.waiting;
  works = works;
  home = view.home;
  queues = beside.queues;
  counted = λ pid s at. let l = beside.seats pid s at in let c = h.counted pid l.old l.was in record {
    sends = one_more s.note.sends l.old.note.sends r.events q.events l.sends c.sends beside.events;
    lookups = one_more s.note.lookups l.old.note.lookups r.events q.events l.lookups c.lookups beside.events;
  };
  moved = beside.aliens;
}

-- Nothing changes but the counts.
rises : (n events now : ℕ) → n ≤ events → now ≡ events + 1 → n ≤ now
rises n events now a b = omega arith

pub stands_same : (times : Times) (host : ℕ) (t : Tables) (r q : Reading) → Stands times host t r → q.view ≡ r.view → q.slots ≡ r.slots →
    q.events ≡ r.events + 1 → ((pid : Pid) → q.work pid ≡ r.work pid) → Stands times host t q
stands_same times host t r q h view slots events work =
    stands_then times host t t r q h (subst (StandsView host t) (sym view) (view_in times host t r h)) (record {
      sound = subst (IsSoundAt (λ g. false)) (sym view) h.sound;
      names = ap (λ (k : Kernel). k.names host) view ∙ h.names;
      unknown = subst (HasOwnNames host) (sym view) h.unknown;
      slots = slots ∙ h.slots;
      queues = λ pid at place. ap (λ k. map Some (queue_of k pid)) view ∙ h.queues pid at place;
      events = events;
      seats = λ pid s at. record { old = s; was = at; sends = omega arith; lookups = omega arith };
      aliens = λ sender a at. rises a.moves r.events q.events (h.moved sender a at) events;
    })
    (λ pid s w at blocked is. working_kept times s s (r.work pid) (q.work pid) w (same_work s) (work pid) (h.works pid s w at blocked is))

-- A tick of all processes of a station: what becomes of each, and the view then.
use Rattle.std.proofs.Common.{◌≡◌, ◌⊎◌, ℕ, suc, Bool, true, false, cond, List, [], ◌∷◌, fold, map, refl, ap, sym, ◌∙◌, Option, Some, None, inl, inr, arith}
use Rattle.std.specs.List.{find, position, slice_get}
use Rattle.std.specs.Option.{option_map, option_or}
use Rattle.std.proofs.lemmas.Bool.{false_from_ne_true}
use Rattle.std.proofs.lemmas.List.Concat.{flat_map-cons}
use Rattle.std.proofs.lemmas.List.Sums.{fold-append}
use Rattle.std.proofs.lemmas.Option.{same_Some}
use Rattle.vk_types.specs.Types.{Activity, Pid, Process, Times, Waiting}
use Rattle.vk_base.specs.declared.activity.Activity.TheVariants as activities
use Rattle.vk_base.specs.Kernel.{Kernel, put_process}
use Rattle.vk_base.specs.Activities.{done_with}
use Rattle.vk_base.specs.Pids.{same_pid}
use Rattle.vk_base.specs.Steps.{next}
use Rattle.v_laws.proofs.Tables.{same_pid_is, same_pid_laws, put_process_at, put_process_other}
use Rattle.vk_procs.specs.declared.seat.Seat.{Seat}
use Rattle.vk_procs.specs.Seats.{is_seat, process_of, seat_in}
use Rattle.vk_stands.specs.Fit.{AreFit}
use Rattle.vk_stands.specs.Stands.{IsWaiting}
use Rattle.vk_stands.specs.Tables.{Tables, is_work, seat_spot}
use Rattle.vk_stands.specs.Ticks.{at_rest, tick_steps, ticked_seat, ticking, ticking_by, ticking_in, unanswered}
use Rattle.vk_stands.proofs.Lists.{find-mapped}
use Rattle.vk_stands.proofs.TicksView.{next_ticked, peopled}
use Rattle.vk_timer.specs.declared.work.Due.{Due}
use Rattle.vk_timer.specs.declared.work.Due.TheVariants as dues
use Rattle.vk_timer.specs.Works.{due_at}

-- What a process does after a tick: what it did, or it is done with its work.
pub record IsWorkOver (s y : Seat) : Type 0 where
  pub waiting : Waiting
  pub was : s.doing ≡ activities.Blocked waiting
  pub work : is_work s.pid waiting ≡ true
  pub now : y.doing ≡ activities.Done waiting (unanswered waiting)

pub record IsSeatTicked (s y : Seat) : Type 0 where
  pub pid : y.pid ≡ s.pid
  pub alive : y.alive ≡ s.alive
  pub memory : y.memory ≡ s.memory
  pub part : y.part.bytes ≡ s.part.bytes
  pub spot : seat_spot y ≡ seat_spot s
  pub sends : y.note.sends ≡ s.note.sends
  pub lookups : y.note.lookups ≡ s.note.lookups
  pub moving : y.note.moving ≡ s.note.moving
  pub taken : y.note.taken ≡ s.note.taken
  pub offset : y.note.offset ≡ s.note.offset
  pub opened : y.note.opened ≡ s.note.opened
  pub done : y.note.done ≡ s.note.done
  pub doing : (y.doing ≡ s.doing) ⊎ IsWorkOver s y
  -- in no work it is as it was
  pub near : ((w : Waiting) → s.doing ≡ activities.Blocked w → is_work s.pid w ≡ false) → y ≡ s

at_rest_ticked : (s : Seat) → IsSeatTicked s s
at_rest_ticked s = record {
  pid = refl;
  alive = refl;
  memory = refl;
  part = refl;
  spot = refl;
  sends = refl;
  lookups = refl;
  moving = refl;
  taken = refl;
  offset = refl;
  opened = refl;
  done = refl;
  doing = inl refl;
  near = λ none. refl;
}

not_near : (s : Seat) (w : Waiting) → s.doing ≡ activities.Blocked w → is_work s.pid w ≡ true →
    ((v : Waiting) → s.doing ≡ activities.Blocked v → is_work s.pid v ≡ false) → ⊥
not_near s w is far none = let both : true ≡ false = sym far ∙ none w is in cc

by_due : (times : Times) (now : ℕ) (s : Seat) (w : Waiting) → s.doing ≡ activities.Blocked w → is_work s.pid w ≡ true → (d : Due) →
    IsSeatTicked s (ticking_by times now s w d).seat
by_due times now s w is far dues.NotDue = at_rest_ticked s
by_due times now s w is far dues.Resend = record {
  pid = refl;
  alive = refl;
  memory = refl;
  part = refl;
  spot = refl;
  sends = refl;
  lookups = refl;
  moving = refl;
  taken = refl;
  offset = refl;
  opened = refl;
  done = refl;
  doing = inl refl;
  near = λ none. absurd (not_near s w is far none);
}
by_due times now s w is far dues.GiveUp = record {
  pid = refl;
  alive = refl;
  memory = refl;
  part = refl;
  spot = refl;
  sends = refl;
  lookups = refl;
  moving = refl;
  taken = refl;
  offset = refl;
  opened = refl;
  done = refl;
  doing = inr (record { waiting = w; was = is; work = far; now = ap (λ d. done_with d (unanswered w)) is });
  near = λ none. absurd (not_near s w is far none);
}

by_work : (times : Times) (now : ℕ) (s : Seat) (w : Waiting) → s.doing ≡ activities.Blocked w → (b : Bool) → is_work s.pid w ≡ b →
    IsSeatTicked s (cond b (ticking_by times now s w (due_at times now s.note.work)) (at_rest s)).seat
by_work times now s w is true far = by_due times now s w is far (due_at times now s.note.work)
by_work times now s w is false near = at_rest_ticked s

by_doing : (times : Times) (now : ℕ) (s : Seat) (d : Activity) → s.doing ≡ d → IsSeatTicked s (ticking_in times now s d).seat
by_doing times now s activities.Ready is = at_rest_ticked s
by_doing times now s (activities.Done w o) is = at_rest_ticked s
by_doing times now s (activities.Blocked w) is = by_work times now s w is (is_work s.pid w) refl

pub seat_ticked : (times : Times) (now : ℕ) (s : Seat) → IsSeatTicked s (ticked_seat times now s)
seat_ticked times now s = by_doing times now s s.doing refl

-- No two processes have one name.
abbrev pub AreSeatsApart : List Seat → Type 0
AreSeatsApart seats = (i j : ℕ) (x y : Seat) → slice_get seats i ≡ Some x → slice_get seats j ≡ Some y → same_pid x.pid y.pid ≡ true → i ≡ j

pub fit_apart : (host : ℕ) (t : Tables) → AreFit host t → AreSeatsApart t.seats
fit_apart host t fit i j x y at there same =
    same_Some i j (sym (fit.places i x at) ∙ ap (λ p. position (is_seat p) t.seats) (same_pid_is x.pid y.pid same) ∙ fit.places j y there)

-- none is found where none passes
pub finds_none : {X Y : Type 0} (p : Y → Bool) (f : X → Y) (xs : List X) →
    ((i : ℕ) (x : X) → slice_get xs i ≡ Some x → p (f x) ≡ false) → find p (map f xs) ≡ None
finds_none p f [] none = refl
finds_none p f (x ∷ xs) none =
    ap (λ b. cond b (Some (f x)) (find p (map f xs))) (none 0 x refl) ∙ finds_none p f xs (λ i y at. none (suc i) y at)

module _ (times : Times) (now : ℕ) where
  abbrev f : Seat → Seat
  f = ticked_seat times now

  pub ticked_seats : (seats : List Seat) (pid : Pid) → seat_in (map f seats) pid ≡ option_map f (seat_in seats pid)
  ticked_seats seats pid = find-mapped (is_seat pid) (is_seat pid) f (λ s. ap (λ p. same_pid p pid) (seat_ticked times now s).pid) seats

  -- the processes of the view then
  abbrev pub ticked_procs : List Seat → (Pid → Option Process) → Pid → Option Process
  ticked_procs seats procs q = option_or (option_map process_of (seat_in (map f seats) q)) (procs q)

  module _ (procs : Pid → Option Process) (x : Seat) (xs : List Seat) (apart : AreSeatsApart (x ∷ xs)) where
    other_of : (i : ℕ) (y : Seat) → slice_get xs i ≡ Some y → same_pid y.pid x.pid ≡ false
    other_of i y at = false_from_ne_true (same_pid y.pid x.pid) (λ same. let n : suc i ≡ 0 = apart
        (suc i) 0 y x at refl same in omega (arith, n))

    named_now : (q : Pid) → is_seat q (f x) ≡ same_pid q x.pid
    named_now q = ap (λ p. same_pid p q) (seat_ticked times now x).pid ∙ same_pid_laws.symm x.pid q

    put_by : (q : Pid) (b : Bool) → same_pid q x.pid ≡ b →
        ticked_procs xs (put_process procs x.pid (process_of (f x))) q ≡ ticked_procs (x ∷ xs) procs q
    put_by q true same =
        ap (λ o. option_or (option_map process_of o) (put_process procs x.pid (process_of (f x)) q))
        (finds_none (is_seat q) f xs (λ i y at.
        ap (λ p. same_pid p q) (seat_ticked times now y).pid ∙ ap (same_pid y.pid) (same_pid_is q x.pid same) ∙ other_of i y at))
        ∙ put_process_at procs x.pid (process_of (f x)) q same
        ∙ sym (ap (λ b. option_or (option_map process_of (cond b (Some (f x)) (seat_in (map f xs) q))) (procs q)) (named_now q ∙ same))
    put_by q false other =
        ap (λ o. option_or (option_map process_of (seat_in (map f xs) q)) o) (put_process_other procs x.pid (process_of (f x)) q other)
        ∙ sym (ap (λ b. option_or (option_map process_of (cond b (Some (f x)) (seat_in (map f xs) q))) (procs q)) (named_now q ∙ other))

    put_first : ticked_procs xs (put_process procs x.pid (process_of (f x))) ≡ ticked_procs (x ∷ xs) procs
    put_first = λ i. λ q. put_by q (same_pid q x.pid) refl i

  module _ (k : Kernel) where
    pub next_all : (seats : List Seat) (procs : Pid → Option Process) → AreSeatsApart seats →
        ((i : ℕ) (s : Seat) → slice_get seats i ≡ Some s → procs s.pid ≡ Some (process_of s)) →
        ((i : ℕ) (s : Seat) → slice_get seats i ≡ Some s → (w : Waiting) → s.doing ≡ activities.Blocked w → IsWaiting k s w) →
        fold next (peopled k procs) (tick_steps times now seats) ≡ peopled k (ticked_procs seats procs)
    next_all [] procs apart here waits = refl
    next_all (x ∷ xs) procs apart here waits =
        ap (fold next (peopled k procs)) (flat_map-cons (λ s. (ticking times now s).steps) x xs)
        ∙ fold-append next (peopled k procs) (ticking times now x).steps (tick_steps times now xs)
        ∙ ap (λ l. fold next l (tick_steps times now xs)) (next_ticked k procs x (here 0 x refl) times now (waits 0 x refl))
        ∙ next_all xs (put_process procs x.pid (process_of (f x)))
        (λ i j a b at there same. let n : suc i ≡ suc j = apart (suc i) (suc j) a b at there same in omega (arith, n))
        (λ i y at. put_process_other procs x.pid (process_of (f x)) y.pid (other_of procs x xs apart i y at) ∙ here (suc i) y at)
        (λ i y at. waits (suc i) y at)
        ∙ ap (peopled k) (put_first procs x xs apart)

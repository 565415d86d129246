-- Changes of processes of which none gets another deadline.
use Rattle.std.proofs.Common.{◌≡◌, ℕ, zero, suc, Bool, true, false, cond, List, [], ◌∷◌, get_or, map, set, Option, Some, None, refl, ap, ◌∙◌}
use Rattle.vk_types.specs.Types.{Message, Pid, Waiting}
use Rattle.vk_base.specs.declared.activity.Outcome.TheVariants as outcomes
use Rattle.vk_base.specs.declared.answer.Refusal.TheVariants as refusals
use Rattle.vk_base.specs.Activities.{receive_in}
use Rattle.vk_base.specs.Firsts.{change_first}
use Rattle.vk_procs.specs.declared.seat.Passed.{Passed}
use Rattle.vk_procs.specs.declared.seat.Passed.TheVariants as gifts
use Rattle.vk_procs.specs.declared.seat.Seat.{Seat}
use Rattle.vk_procs.specs.Kept.{deadline_at}
use Rattle.vk_procs.specs.Seats.{bereft, finished, got, is_seat, passed_by, reached, reached_by, waits_at}

abbrev pub IsSteady : Seat → Seat → Type 0
IsSteady old new = new.note.work.deadline ≡ old.note.work.deadline

abbrev pub AreSteady : List Seat → List Seat → Type 0
AreSteady old new = (k : ℕ) → deadline_at new k ≡ deadline_at old k

-- one process
reached_steady : (o : Option Waiting) (from : Pid) (m : Message) (part : List ℕ) (s : Seat) → IsSteady s (reached_by o from m part s)
reached_steady None from m part s = refl
reached_steady (Some w) from m part s = refl

pub steady_reached : (from : Pid) (m : Message) (part : List ℕ) (s : Seat) → IsSteady s (reached from m part s)
steady_reached from m part s = reached_steady (receive_in s.doing) from m part s

steady_got : (what : Passed) (giver s : Seat) → IsSteady s (got what giver s)
steady_got (gifts.Message m) giver s = steady_reached giver.pid m giver.part.bytes s
steady_got (gifts.Bytes src count dest) giver s = refl

bereft_by : (s : Seat) (b : Bool) → IsSteady s (cond b (finished (outcomes.Refused refusals.NoProcess) s) s)
bereft_by s true = refl
bereft_by s false = refl

pub steady_bereft : (target : Pid) (s : Seat) → IsSteady s (bereft target s)
steady_bereft target s = bereft_by s (waits_at target s)

-- all of a station, where one changes as the code of a method writes it
pub steady_set : (seats : List Seat) (i : ℕ) (d v : Seat) → d ≡ get_or seats i d → IsSteady d v → AreSteady seats (set seats i v)
steady_set [] i d v is steady k = refl
steady_set (x ∷ xs) zero d v is steady zero = ap Some (steady ∙ ap (λ (s : Seat). s.note.work.deadline) is)
steady_set (x ∷ xs) zero d v is steady (suc k) = refl
steady_set (x ∷ xs) (suc i) d v is steady zero = refl
steady_set (x ∷ xs) (suc i) d v is steady (suc k) = steady_set xs i d v is steady k

module _ (f : Seat → Seat) (steady : (s : Seat) → IsSteady s (f s)) where
  pub steady_mapped : (seats : List Seat) → AreSteady seats (map f seats)
  steady_mapped [] k = refl
  steady_mapped (x ∷ xs) zero = ap Some (steady x)
  steady_mapped (x ∷ xs) (suc k) = steady_mapped xs k

  first_by : (x : Seat) (xs ys : List Seat) (b : Bool) → AreSteady xs ys → AreSteady (x ∷ xs) (cond b (f x ∷ xs) (x ∷ ys))
  first_by x xs ys true rest zero = ap Some (steady x)
  first_by x xs ys true rest (suc k) = refl
  first_by x xs ys false rest zero = refl
  first_by x xs ys false rest (suc k) = rest k

  steady_changed : (p : Seat → Bool) (seats : List Seat) → AreSteady seats (change_first p f seats)
  steady_changed p [] k = refl
  steady_changed p (x ∷ xs) k = first_by x xs (change_first p f xs) (p x) (steady_changed p xs) k

pub steady_given : (giver : Option Seat) (pid : Pid) (what : Passed) (seats : List Seat) → AreSteady seats (passed_by giver pid what seats)
steady_given None pid what seats k = refl
steady_given (Some giver) pid what seats k = steady_changed (got what giver) (steady_got what giver) (is_seat pid) seats k

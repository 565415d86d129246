-- What the steps of remote moves do, from what was found.
use Rattle.std.proofs.Common.{◌≡◌, ℕ, zero, suc, ◌+◌, ◌-◌, ◌<◌, ◌≤◌, true, false, ◌==◌, ◌&&◌, nat_lt, nat_le, List, [], ◌∷◌, set, Option, Some, None, is_none, is_some, Ok, Err, refl, sym, ap, subst, ◌∙◌, arith}
use Rattle.std.specs.List.{slice_get}
use Rattle.std.specs.Option.{IfSome}
use Rattle.std.proofs.lemmas.Bool.{both_ways, and_parts, eqb-true, leb-true}
use Rattle.std.proofs.lemmas.Option.{same_Some, none-some}
use Rattle.vk_types.specs.Types.{Answer, Direction, Ending, Exchange, Move, MoveName, Name, Pid, Process}
use Rattle.vk_base.specs.declared.kernel.Direction.TheVariants as directions
use Rattle.vk_base.specs.Calls.{unseen}
use Rattle.vk_base.specs.Kernel.{Kernel, waiting_on, with_state, ended, is_moving, move_of}
use Rattle.vk_base.specs.Steps.{only_if, ending, end_step, move_ending, opening_move, move_opened, open_step, noted_bytes, copying, copied, copy_step, is_next, is_in_move, written_process}
use Rattle.v_laws.proofs.StepLemmas.{only_if_is}
use Rattle.v_machine.specs.declared.tables.Store.{Store}
use Rattle.v_machine.specs.declared.tables.remote.Moving.{Moving}
use Rattle.v_machine.specs.declared.refusal.ApplyRefusal.{ApplyRefusal}
use Rattle.v_machine.specs.declared.refusal.ApplyRefusal.TheVariants as refused
use Rattle.v_machine.specs.Apply.{noted_at_opening}
use Rattle.v_machine.specs.Kept.{IsIndexed, IsAt, kernel_in}
use Rattle.v_machine.specs.Lists.{change_at}
use Rattle.v_machine.specs.Moves.{IsWritten, Notes, noted_for, with_exchange, into_of}
use Rattle.v_machine.specs.Rules.{Answers, Goes}
use Rattle.v_machine.specs.Sends.{with_noted, noted_in, where_moves, moving_of, with_moves, with_opened, with_written}
use Rattle.v_machine.proofs.StepLemmas.{found}
use Rattle.v_machine.proofs.Stores.{process_at, stays}

-- End.
pub waits : (s : Store) (name : Name) (r : Option ℕ) → IfSome r (λ at. IsAt s name.sender at) →
    ((p : Process) → (kernel_in s).procs name.sender ≡ Some p → IfSome r (λ at. waiting_on (kernel_in s) name ≡ Some p)) →
    is_none r ≡ false → is_none (waiting_on (kernel_in s) name) ≡ false
waits s name None here there some = absurd (both_ways false refl (sym some))
waits s name (Some at) here there some = let p = process_at s name.sender at here in ap is_none (there p.0 p.1)

pub end_allowed : (k after : Kernel) (pid : Pid) (p : Process) (m : MoveName) (why : Ending) (a : Answer) → k.procs pid ≡ Some p →
    is_moving p.state ≡ true → p.moving ≡ Some m → move_ending k m why ≡ Some a → after ≡ with_state k pid p (ended p.state a) →
    end_step k pid why ≡ Some (unseen after)
unfolding ending
end_allowed k after pid p m why a there moves named ends is =
    let o : ending k pid why ≡ Some (p, a) = found (k.procs pid) p _ _ there
    (found (only_if (is_moving p.state) p.moving) m _ _ (ap (λ b. only_if b p.moving) moves ∙ named)
    (found (move_ending k m why) a _ _ ends refl)) in
    found (ending k pid why) _ _ _ o (ap (λ z. Some (unseen z)) (sym is))

-- Copy.
pub next_is : (e : Exchange) (number : ℕ) (m : Move) (offset count : ℕ) → is_next e number m offset count ≡ true →
    (e.done ≡ offset) × (offset + count ≤ m.count)
next_is e number m offset count next =
    let last = and_parts (e.opened == number && e.done == offset && nat_le 1 count) (nat_le (offset + count) m.count) next in
    let some = and_parts (e.opened == number && e.done == offset) (nat_le 1 count) last.0 in
    let first = and_parts (e.opened == number) (e.done == offset) some.0 in
    (eqb-true e.done offset first.1, leb-true (offset + count) m.count last.1)

pub written_to : (s : Store) (name : Name) (moving : ℕ) (m : Move) (r : Option ℕ) → m.direction ≡ directions.To →
    IfSome r (λ at. IsAt s name.sender at) → ((p : Process) → (kernel_in s).procs name.sender ≡ Some p →
    IfSome r (λ at. waiting_on (kernel_in s) name ≡ Some p)) → IfSome r (λ at. IsWritten s name moving m at)
written_to s name moving m None is here there = tt
written_to s name moving m (Some at) is here there =
    let p = process_at s name.sender at here in
    let who : into_of name.sender m.direction m.mover ≡ name.sender = ap (λ d. into_of name.sender d m.mover) is in
    record {
      process = p.0;
      is = ap (written_process (kernel_in s) name moving m.mover) is ∙ found (waiting_on (kernel_in s) name) p.0 _ _ (there p.0 p.1) refl
          ∙ sym (ap (λ q. Some (q, p.0)) who);
      here = subst (λ q. IsAt s q at) (sym who) here;
      there = ap (kernel_in s).procs who ∙ p.1;
    }

pub written_from : (s : Store) (name : Name) (moving : ℕ) (m : Move) (r : Option ℕ) → m.direction ≡ directions.From →
    IfSome r (λ at. IsAt s m.mover at) → ((p : Process) → (kernel_in s).procs m.mover ≡ Some p →
    IfSome r (λ at. is_in_move name moving p ≡ true)) → IfSome r (λ at. IsWritten s name moving m at)
written_from s name moving m None is here there = tt
written_from s name moving m (Some at) is here there =
    let p = process_at s m.mover at here in
    let who : into_of name.sender m.direction m.mover ≡ m.mover = ap (λ d. into_of name.sender d m.mover) is in
    record {
      process = p.0;
      is = ap (written_process (kernel_in s) name moving m.mover) is
          ∙ found ((kernel_in s).procs m.mover) p.0 _ _ p.1 (ap (λ b. only_if b (Some (m.mover, p.0))) (there p.0 p.1))
          ∙ sym (ap (λ q. Some (q, p.0)) who);
      here = subst (λ q. IsAt s q at) (sym who) here;
      there = ap (kernel_in s).procs who ∙ p.1;
    }

pub copy_allowed : (k after : Kernel) (name : Name) (number offset count : ℕ) (e : Exchange) (m : Move) (pid : Pid) (p : Process) →
    k.exchanges name ≡ Some e → move_of e number ≡ Some m → is_next e number m offset count ≡ true →
    written_process k name number m.mover m.direction ≡ Some (pid, p) →
    after ≡ copied k name offset count (record { exchange = e; move = m; pid = pid; process = p }) →
    copy_step k name number offset count ≡ Some (unseen after)
unfolding copying
copy_allowed k after name number offset count e m pid p at opened next there is =
    let o : copying k name number offset count ≡ Some (record { exchange = e; move = m; pid = pid; process = p }) =
    found (k.exchanges name) e _ _ at (found (move_of e number) m _ _ opened
    (found (only_if (is_next e number m offset count) (written_process k name number m.mover m.direction)) (pid, p) _ _
    (ap (λ b. only_if b (written_process k name number m.mover m.direction)) next ∙ there) refl)) in
    found (copying k name number offset count) _ _ _ o (ap (λ z. Some (unseen z)) (sym is))

-- OpenMove.
set_there : {X : Type 0} (xs : List X) (at : ℕ) (x : X) → slice_get xs at ≡ Some x → set xs at x ≡ xs
set_there [] at x is = refl
set_there (y ∷ xs) zero x is = ap (λ z. z ∷ xs) (sym (same_Some y x is))
set_there (y ∷ xs) (suc at) x is = ap (λ ys. y ∷ ys) (set_there xs at x is)

change_at_there : {X : Type 0} (f : X → X) (xs : List X) (at : ℕ) (x : X) → slice_get xs at ≡ Some x → change_at at f xs ≡ set xs at (f x)
change_at_there f [] at x is = refl
change_at_there f (y ∷ xs) zero x is = ap (λ z. f z ∷ xs) (same_Some y x is)
change_at_there f (y ∷ xs) (suc at) x is = ap (λ ys. y ∷ ys) (change_at_there f xs at x is)

-- where a move is there, what is said of one holds
where_there : (e : Exchange) (number : ℕ) (m : Move) → move_of e number ≡ Some m → (f : Moving → Moving) →
    with_moves (λ g. where_moves g.moves (f g) g) e ≡ with_moves f e
where_there e zero m is f = absurd (none-some m is)
where_there e (suc number) m is f = ap (λ g. with_moves (λ _. g) e) (where_some e.moves number is)
  where
    where_some : (ms : List Move) (at : ℕ) → slice_get ms at ≡ Some m →
        where_moves ms (f (moving_of e)) (moving_of e) ≡ f (moving_of e)
    where_some [] at is = absurd (none-some m is)
    where_some (y ∷ ys) at is = refl

pub opened_is : (number : ℕ) (noted : Option (List ℕ)) (e : Exchange) (m : Move) → move_of e number ≡ Some m →
    with_opened number noted e ≡ record e { moves = noted_in number noted e.moves; opened = number; done = 0 }
opened_is number noted e m is = where_there e number m is
    (λ g. record { moves = noted_in number noted g.moves; opened = number; done = 0 })

pub written_is : (number done : ℕ) (e : Exchange) (m : Move) → move_of e number ≡ Some m → with_written done e ≡ record e { done = done }
written_is number done e m is = where_there e number m is (λ g. record g { done = done })

noted_is : (number : ℕ) (p : Process) (e : Exchange) (m : Move) (room : ℕ) (noted : Option (List ℕ)) → move_of e number ≡ Some m →
    Notes p m room (Ok noted) → noted_in number noted e.moves ≡ set e.moves (number - 1) (record m { bytes = noted_bytes m.direction p m })
noted_is zero p e m room noted is notes = absurd (none-some m is)
noted_is (suc n) p e m room None is notes =
    let same : suc n - 1 ≡ n = omega arith in
    let kept : set e.moves (suc n - 1) (record m { bytes = noted_bytes m.direction p m }) ≡ e.moves = ap
    (λ i. set e.moves i (record m { bytes = noted_bytes m.direction p m })) same
    ∙ ap (λ d. set e.moves n (record m { bytes = noted_bytes d p m })) notes ∙ set_there e.moves n m is in
    sym kept
noted_is (suc n) p e m room (Some bytes) is notes =
    let same : n ≡ suc n - 1 = omega arith in
    let taken : bytes ≡ noted_bytes m.direction p m = notes.2 ∙ sym (ap (λ d. noted_bytes d p m) notes.0) in
    change_at_there (with_noted bytes) e.moves n m is ∙ ap (λ b. set e.moves n (record m { bytes = b })) taken
    ∙ ap (λ i. set e.moves i (record m { bytes = noted_bytes m.direction p m })) same

module _ (s : Store) (name : Name) (moving room : ℕ) (p : Process) (e : Exchange) (m : Move)
    (waiting : waiting_on (kernel_in s) name ≡ Some p) (at : (kernel_in s).exchanges name ≡ Some e)
    (later : only_if (nat_lt e.opened moving) (move_of e moving) ≡ Some m) where
  open_is : open_step (kernel_in s) name moving ≡ Some
      (unseen (move_opened (kernel_in s) name moving (record { sender = p; exchange = e; move = m })))
  unfolding opening_move
  open_is =
      let o : opening_move (kernel_in s) name moving ≡ Some (record { sender = p; exchange = e; move = m }) = found
      (waiting_on (kernel_in s) name) p _ _ waiting
      (found ((kernel_in s).exchanges name) e _ _ at (found (only_if (nat_lt e.opened moving) (move_of e moving)) m _ _ later refl)) in
      found (opening_move (kernel_in s) name moving) _ _ _ o refl

  there : move_of e moving ≡ Some m
  there = (only_if_is (nat_lt e.opened moving) (move_of e moving) m later).1

  noted_is_of : noted_for s name moving ≡ noted_at_opening (Some m)
  noted_is_of = ap noted_at_opening (found ((kernel_in s).exchanges name) e _ _ at there)

  amount : (d : Direction) → m.direction ≡ d → noted_at_opening (Some m) ≡ noted_at_opening (Some (record m { direction = d }))
  amount d is = ap (λ d. noted_at_opening (Some (record m { direction = d }))) is

  has_room : (noted : Option (List ℕ)) → Notes p m room (Ok noted) → noted_at_opening (Some m) ≤ room
  has_room None notes = subst (λ n. n ≤ room) (sym (amount directions.To notes)) (let none : 0 ≤ room = omega arith in none)
  has_room (Some bytes) notes = subst (λ n. n ≤ room) (sym (amount directions.From notes.0)) notes.1

  pub opens : (t : Store) (noted : Option (List ℕ)) → Notes p m room (Ok noted) →
      kernel_in t ≡ with_exchange (kernel_in s) name (with_opened moving noted e) → IsIndexed t →
      Goes (open_step (kernel_in s) name moving) None t × (noted_for s name moving ≤ room)
  unfolding move_opened
  opens t noted notes is indexed =
      let moves = noted_is moving p e m room noted there notes in (
        record {
          effect = open_is ∙ ap (λ k. Some (unseen k))
              (sym (is ∙ ap (with_exchange (kernel_in s) name) (opened_is moving noted e m there)
              ∙ ap (λ ms. with_exchange (kernel_in s) name (record e { moves = ms; opened = moving; done = 0 })) moves));
          indexed = indexed;
        },
        subst (λ n. n ≤ room) (sym noted_is_of) (has_room noted notes),
      )

  pub opens_not : (why : ApplyRefusal) → Notes p m room (Err why) → IsIndexed s →
      Answers (open_step (kernel_in s) name moving) (noted_for s name moving) room s s (Err why)
  opens_not refused.NotAllowed notes indexed = absurd notes
  opens_not refused.Limit notes indexed = (ap is_some open_is, subst (λ n. room < n) (sym noted_is_of) notes, stays s indexed)
  opens_not refused.NoMemory notes indexed = (ap is_some open_is, subst (λ n. n ≤ room) (sym noted_is_of) notes, stays s indexed)

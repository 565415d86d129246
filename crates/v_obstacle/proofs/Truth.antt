-- What is told of a step that is not allowed is so.
use Rattle.std.proofs.Common.{◌≡◌, ℕ, Bool, true, false, ◌==◌, not, nat_le, nat_lt, ◌+◌, List, [], ◌∷◌, Option, Some, None, is_some, is_none, refl, ap, subst, Ok, Err, length}
use Rattle.std.proofs.lemmas.Bool.{not-false}
use Rattle.std.proofs.lemmas.Option.{none-some, same_Some}
use Rattle.std.specs.List.{list_any}
use Rattle.vk_types.specs.Types.{Direction, Ending, Exchange, Lookup, Move, MoveName, Name, Pid, Process, Step}
use Rattle.vk_base.specs.declared.answer.Ending.TheVariants as endings
use Rattle.vk_base.specs.declared.kernel.Direction.TheVariants as directions
use Rattle.vk_base.specs.declared.step.Step.TheVariants as steps
use Rattle.vk_base.specs.Kernel.{Kernel, name_of, is_live, is_moving, is_asking, is_posted, is_told, receiving, sending, finished_call, reply_of, queue_of, move_of, waiting_on, holds_of}
use Rattle.vk_base.specs.Pids.{same_pid, same_host}
use Rattle.vk_base.specs.Steps.{first_of, same_move}
use Rattle.v_obstacle.specs.declared.obstacle.Obstacle.{Obstacle}
use Rattle.v_obstacle.specs.declared.obstacle.Wanted.{Wanted}
use Rattle.v_obstacle.specs.declared.obstacle.Wanted.TheVariants as wanted
use Rattle.v_obstacle.specs.declared.obstacle.Obstacle.TheVariants as obstacles
use Rattle.v_obstacle.specs.Obstacles.{Finds, IsSo, does, standing_of, ◌or_tell◌, where_all, told, unsent, unasked, otherwise, move_at, sender_at, asker_at, arrive_check, take_check, finish_check, failure_check, fail_check, open_check, written_at, copy_check, ending_check, end_check, hear_check, found_check, collect_check, obstacle}
use Rattle.v_obstacle.specs.Obstacles.{◌>>=◌ as ◌>>>◌}

record AllSo {A : Type 0} (k : Kernel) (r : Finds A) : Type 0 where
  so : (why : Obstacle) → told r ≡ Some why → IsSo k why

found_so_far : {A : Type 0} (k : Kernel) (x : A) → AllSo k (Ok x)
found_so_far k x = record { so = λ why e. absurd (none-some why e) }

in_the_way : {A : Type 0} (k : Kernel) (why : Obstacle) → IsSo k why → AllSo {A = A} k (Err why)
in_the_way k why is = record { so = λ w e. subst (IsSo k) (same_Some why w e) is }

last : {A : Type 0} (k : Kernel) (o : Option A) (why : Obstacle) → (o ≡ None → IsSo k why) → AllSo k (o or_tell why)
last k None why e = in_the_way k why (e refl)
last k (Some x) why e = found_so_far k x

behind : {A B : Type 0} (k : Kernel) (o : Option A) (why : Obstacle) (f : A → Finds B) → (o ≡ None → IsSo k why) →
    ((x : A) → o ≡ Some x → AllSo k (f x)) → AllSo k ((o or_tell why) >>> f)
behind k None why f e all = in_the_way k why (e refl)
behind k (Some x) why f e all = all x refl

behind_one : {A B C : Type 0} (k : Kernel) (o : Option A) (why : Obstacle) (f : A → Finds B) (h : B → Finds C) → (o ≡ None → IsSo k why) →
    ((x : A) → o ≡ Some x → AllSo k (f x >>> h)) → AllSo k (((o or_tell why) >>> f) >>> h)
behind_one k None why f h e all = in_the_way k why (e refl)
behind_one k (Some x) why f h e all = all x refl

afterwards : {A B : Type 0} (k : Kernel) (r : Finds A) (f : A → Finds B) → AllSo k r → ((x : A) → AllSo k (f x)) → AllSo k (r >>> f)
afterwards k (Ok x) f e all = all x
afterwards k (Err why) f e all = in_the_way k why (e.so why refl)

-- a test, and the others behind it
test : {A : Type 0} (k : Kernel) (b : Bool) (w : Obstacle) (ts : List (Bool × Obstacle)) (x : A) → (b ≡ false → IsSo k w) →
    AllSo k (where_all ts x) → AllSo k (where_all ((b, w) ∷ ts) x)
test k true w ts x e rest = rest
test k false w ts x e rest = in_the_way k w (e refl)

one : {A : Type 0} (k : Kernel) (b : Bool) (w : Obstacle) (x : A) → (b ≡ false → IsSo k w) → AllSo k (where_all ((b, w) ∷ []) x)
one k b w x e = test k b w [] x e (found_so_far k x)

test_before : {A B : Type 0} (k : Kernel) (b : Bool) (w : Obstacle) (ts : List (Bool × Obstacle)) (x : A) (h : A → Finds B) →
    (b ≡ false → IsSo k w) → AllSo k (where_all ts x >>> h) → AllSo k (where_all ((b, w) ∷ ts) x >>> h)
test_before k true w ts x h e rest = rest
test_before k false w ts x h e rest = in_the_way k w (e refl)

two : {A : Type 0} (k : Kernel) (a b : Bool) (v w : Obstacle) (x : A) → (a ≡ false → IsSo k v) → (b ≡ false → IsSo k w) →
    AllSo k (where_all ((a, v) ∷ (b, w) ∷ []) x)
two k a b v w x d e = test k a v ((b, w) ∷ []) x d (one k b w x e)

one_before : {A B : Type 0} (k : Kernel) (b : Bool) (w : Obstacle) (x : A) (h : A → Finds B) → (b ≡ false → IsSo k w) →
    AllSo k (h x) → AllSo k (where_all ((b, w) ∷ []) x >>> h)
one_before k b w x h e rest = test_before k b w [] x h e rest

four_before : {A B : Type 0} (k : Kernel) (a b c d : Bool) (u v w y : Obstacle) (x : A) (h : A → Finds B) → (a ≡ false → IsSo k u) →
    (b ≡ false → IsSo k v) → (c ≡ false → IsSo k w) → (d ≡ false → IsSo k y) → AllSo k (h x) →
    AllSo k (where_all ((a, u) ∷ (b, v) ∷ (c, w) ∷ (d, y) ∷ []) x >>> h)
four_before k a b c d u v w y x h e f g i rest =
    test_before k a u ((b, v) ∷ (c, w) ∷ (d, y) ∷ []) x h e
    (test_before k b v ((c, w) ∷ (d, y) ∷ []) x h f (test_before k c w ((d, y) ∷ []) x h g (test_before k d y [] x h i rest)))

-- Single obstacles.
otherwise_so : (k : Kernel) (what : Wanted) (pid : Pid) (p : Process) → k.procs pid ≡ Some p → does what p.state ≡ false →
    IsSo k (otherwise what pid p)
otherwise_so k what pid p is e = (p, is, (refl, refl, e))

other_send_so : (k : Kernel) (n : Name) (p : Process) → k.procs n.sender ≡ Some p → (p.sends == n.number) ≡ false →
    IsSo k (obstacles.OtherSend n p.sends)
other_send_so k n p is e = (p, is, (refl, e))

posted_so : (k : Kernel) (n : Name) (x : Exchange) → k.exchanges n ≡ Some x → is_posted x.stage ≡ false →
    IsSo k (obstacles.NotPosted n x.at (standing_of x.stage))
posted_so k n x at e = (x, at, (refl, refl, e))

target_so : (k : Kernel) (n : Name) (x : Exchange) → k.exchanges n ≡ Some x → is_live (k.procs x.target) ≡ false →
    IsSo k (obstacles.DeadTarget n x.target)
target_so k n x at e = (x, at, (refl, e))

replied_so : (k : Kernel) (n : Name) (x : Exchange) → k.exchanges n ≡ Some x → reply_of x.stage ≡ None →
    IsSo k (obstacles.NotReplied n x.at (standing_of x.stage))
replied_so k n x at e = (x, at, (refl, refl, e))

alive_so : (k : Kernel) (n : Name) (x : Exchange) → k.exchanges n ≡ Some x → not (is_live (k.procs x.at)) ≡ false →
    IsSo k (obstacles.Alive n x.at)
alive_so k n x at e = (x, at, (refl, not-false (is_live (k.procs x.at)) e))

opened_so : (k : Kernel) (n : Name) (number : ℕ) (x : Exchange) → k.exchanges n ≡ Some x → nat_lt x.opened number ≡ false →
    IsSo k (obstacles.OpenedBefore n number x.opened)
opened_so k n number x at e = (x, at, (refl, e))

not_open_so : (k : Kernel) (n : Name) (number : ℕ) (x : Exchange) → k.exchanges n ≡ Some x → (x.opened == number) ≡ false →
    IsSo k (obstacles.NotOpen n number x.opened)
not_open_so k n number x at e = (x, at, (refl, e))

no_move_so : (k : Kernel) (n : Name) (number : ℕ) (x : Exchange) → k.exchanges n ≡ Some x → move_of x number ≡ None →
    IsSo k (obstacles.NoMove n number (length x.moves))
no_move_so k n number x at e = (x, at, (refl, e))

offset_so : (k : Kernel) (n : Name) (offset : ℕ) (x : Exchange) → k.exchanges n ≡ Some x → (x.done == offset) ≡ false →
    IsSo k (obstacles.OtherOffset n offset x.done)
offset_so k n offset x at e = (x, at, (refl, e))

too_many_so : (k : Kernel) (n : Name) (number offset count : ℕ) (x : Exchange) (m : Move) → k.exchanges n ≡ Some x →
    move_of x number ≡ Some m → nat_le (offset + count) m.count ≡ false → IsSo k (obstacles.TooManyBytes n number offset count m.count)
too_many_so k n number offset count x m at is e = (x, at, (m, is, (refl, e)))

incomplete_so : (k : Kernel) (n : Name) (number : ℕ) (x : Exchange) (m : Move) → k.exchanges n ≡ Some x →
    move_of x number ≡ Some m → (x.done == m.count) ≡ false → IsSo k (obstacles.Incomplete n number x.done m.count)
incomplete_so k n number x m at is e = (x, at, (m, is, (refl, refl, e)))

other_move_so : (k : Kernel) (pid : Pid) (p : Process) → k.procs pid ≡ Some p → IsSo k (obstacles.OtherMove pid p.moving)
other_move_so k pid p is = (p, is, refl)

no_move_begun_so : (k : Kernel) (pid : Pid) (p : Process) → k.procs pid ≡ Some p → p.moving ≡ None → IsSo k (obstacles.OtherMove pid None)
no_move_begun_so k pid p is e = (p, is, e)

heard_so : (k : Kernel) (asker : Pid) (number : ℕ) (pid : Pid) (l : Lookup) → k.lookups asker number ≡ Some l →
    list_any (same_pid pid) l.candidates ≡ false → IsSo k (obstacles.NotHeard asker number pid)
heard_so k asker number pid l is e = (l, is, e)

unsent_so : (k : Kernel) (n : Name) → k.exchanges n ≡ None → IsSo k (unsent n (k.procs n.sender))
unsent_so k n none = by_process (k.procs n.sender) refl
  where
    by_process : (o : Option Process) → k.procs n.sender ≡ o → IsSo k (unsent n o)
    by_process None is = is
    by_process (Some p) is = (none, (p, is, refl))

unasked_so : (k : Kernel) (asker : Pid) (number : ℕ) → k.lookups asker number ≡ None → IsSo k (unasked asker number (k.procs asker))
unasked_so k asker number none = by_process (k.procs asker) refl
  where
    by_process : (o : Option Process) → k.procs asker ≡ o → IsSo k (unasked asker number o)
    by_process None is = is
    by_process (Some p) is = (none, (p, is, refl))

-- Each step.
sender_so : (k : Kernel) (n : Name) → AllSo k (sender_at k n)
sender_so k n =
    behind k (k.procs n.sender) _ _ (λ e. e) (λ p is.
    behind k (sending p.state) _ _ (λ e. otherwise_so k wanted.Sending n.sender p is (ap is_some e)) (λ s blocked.
    one k (p.sends == n.number) _ p (other_send_so k n p is)))

asker_so : (k : Kernel) (r : Pid) → AllSo k (asker_at k r)
asker_so k r = behind k (k.procs r) _ _ (λ e. e) (λ p is. one k (is_asking p.state) _ p (otherwise_so k wanted.Asking r p is))

arrive_so : (k : Kernel) (n : Name) → AllSo k (arrive_check k n)
arrive_so k n =
    behind k (k.exchanges n) _ _ (unsent_so k n) (λ x is.
    two k (is_posted x.stage) (is_live (k.procs x.target)) (obstacles.NotPosted n x.at (standing_of x.stage)) (obstacles.DeadTarget n x.target) x
    (posted_so k n x is) (target_so k n x is))

take_so : (k : Kernel) (r : Pid) → AllSo k (take_check k r)
take_so k r =
    behind k (k.procs r) _ _ (λ e. e) (λ p is.
    behind k (receiving p.state) _ _ (λ e. otherwise_so k wanted.Receiving r p is (ap is_some e)) (λ c blocked.
    last k (first_of (queue_of k r)) _ (λ e. e)))

finish_so : (k : Kernel) (s : Pid) → AllSo k (finish_check k s)
finish_so k s =
    behind k (k.procs s) _ _ (λ e. e) (λ p is.
    behind k (sending p.state) _ _ (λ e. otherwise_so k wanted.Sending s p is (ap is_some e)) (λ c blocked.
    behind k (k.exchanges (name_of s p.sends)) _ _ (unsent_so k (name_of s p.sends)) (λ x at.
    behind k (reply_of x.stage) _ _ (replied_so k (name_of s p.sends) x at) (λ reply replied. found_so_far k x))))

failure_so : (k : Kernel) (n : Name) (x : Exchange) (why : Ending) → k.exchanges n ≡ Some x → AllSo k (failure_check k n x why)
failure_so k n x endings.TimedOut at = found_so_far k x
failure_so k n x endings.NoProcess at = one k (not (is_live (k.procs x.at))) _ x (alive_so k n x at)
failure_so k n x endings.Ok at = in_the_way k (obstacles.NoSuchEnding endings.Ok) tt
failure_so k n x endings.Gone at = in_the_way k (obstacles.NoSuchEnding endings.Gone) tt

fail_so : (k : Kernel) (s : Pid) (why : Ending) → AllSo k (fail_check k s why)
fail_so k s why =
    behind k (k.procs s) _ _ (λ e. e) (λ p is.
    behind k (sending p.state) _ _ (λ e. otherwise_so k wanted.Sending s p is (ap is_some e)) (λ c blocked.
    behind k (k.exchanges (name_of s p.sends)) _ _ (unsent_so k (name_of s p.sends)) (λ x at.
    one_before k (not (same_host s x.target)) (obstacles.OneStation s x.target) x (λ far. failure_check k (name_of s p.sends) x why) (not-false (same_host s x.target))
    (failure_so k (name_of s p.sends) x why at))))

open_so : (k : Kernel) (n : Name) (number : ℕ) → AllSo k (open_check k n number)
open_so k n number =
    afterwards k (sender_at k n) _ (sender_so k n) (λ p.
    behind k (k.exchanges n) _ _ (unsent_so k n) (λ x at.
    one_before k (nat_lt x.opened number) (obstacles.OpenedBefore n number x.opened) x (λ later. move_at n x number) (opened_so k n number x at)
    (last k (move_of x number) _ (no_move_so k n number x at))))

written_so : (k : Kernel) (n : Name) (number : ℕ) (mover : Pid) (d : Direction) → AllSo k (written_at k n number mover d)
written_so k n number mover directions.To = sender_so k n
written_so k n number mover directions.From =
    behind_one k (k.procs mover) _ _ _ (λ e. e) (λ p is.
    one_before k (is_moving p.state) (otherwise wanted.Moving mover p) p
    (λ p. where_all ((holds_of (λ m. same_move m n number) p.moving, obstacles.OtherMove mover p.moving) ∷ []) p)
    (otherwise_so k wanted.Moving mover p is)
    (one k (holds_of (λ m. same_move m n number) p.moving) _ p (λ e. other_move_so k mover p is)))

copy_so : (k : Kernel) (n : Name) (number offset count : ℕ) → AllSo k (copy_check k n number offset count)
copy_so k n number offset count =
    behind k (k.exchanges n) _ _ (unsent_so k n) (λ x at. behind k (move_of x number) _ _ (no_move_so k n number x at) (λ m is.
    four_before k (x.opened == number) (x.done == offset) (nat_le 1 count) (nat_le (offset + count) m.count)
    (obstacles.NotOpen n number x.opened) (obstacles.OtherOffset n offset x.done) obstacles.NoBytes
    (obstacles.TooManyBytes n number offset count m.count) x (λ next. written_at k n number m.mover m.direction)
    (not_open_so k n number x at) (offset_so k n offset x at) (λ e. tt) (too_many_so k n number offset count x m at is)
    (written_so k n number m.mover m.direction)))

ending_so : (k : Kernel) (m : MoveName) (why : Ending) → AllSo k (ending_check k m why)
ending_so k m endings.Ok =
    behind k (k.exchanges m.exchange) _ _ (unsent_so k m.exchange) (λ x at.
    one_before k (x.opened == m.number) (obstacles.NotOpen m.exchange m.number x.opened) x
    (λ now. move_at m.exchange x m.number >>> λ y. where_all ((x.done == y.count, obstacles.Incomplete m.exchange m.number x.done y.count) ∷ []) m)
    (not_open_so k m.exchange m.number x at)
    (behind k (move_of x m.number) _ _ (no_move_so k m.exchange m.number x at) (λ y is.
    one k (x.done == y.count) _ m (incomplete_so k m.exchange m.number x y at is))))
ending_so k m endings.Gone = one k (is_none (waiting_on k m.exchange)) _ m (λ e. e)
ending_so k m endings.TimedOut = found_so_far k m
ending_so k m endings.NoProcess = in_the_way k (obstacles.NoSuchEnding endings.NoProcess) tt

end_so : (k : Kernel) (r : Pid) (why : Ending) → AllSo k (end_check k r why)
end_so k r why =
    behind_one k (k.procs r) _ _ _ (λ e. e) (λ p is.
    one_before k (is_moving p.state) (otherwise wanted.Moving r p) p
    (λ p. (p.moving or_tell obstacles.OtherMove r None) >>> λ m. ending_check k m why) (otherwise_so k wanted.Moving r p is)
    (behind k p.moving _ _ (no_move_begun_so k r p is) (λ m begun. ending_so k m why)))

hear_so : (k : Kernel) (asker : Pid) (number : ℕ) (pid : Pid) → AllSo k (hear_check k asker number pid)
hear_so k asker number pid =
    behind k (k.lookups asker number) _ _ (unasked_so k asker number) (λ l is.
    two k (not (same_host asker pid)) (is_told (k.names pid.host) l.logical pid) (obstacles.OneStation asker pid)
    (obstacles.NotTold l.logical pid) l (not-false (same_host asker pid)) (λ e. e))

found_so : (k : Kernel) (asker pid : Pid) → AllSo k (found_check k asker pid)
found_so k asker pid =
    afterwards k (asker_at k asker) _ (asker_so k asker) (λ p.
    behind k (k.lookups asker p.lookups) _ _ (unasked_so k asker p.lookups) (λ l is.
    one k (list_any (same_pid pid) l.candidates) _ p (heard_so k asker p.lookups pid l is)))

collect_so : (k : Kernel) (pid : Pid) → AllSo k (collect_check k pid)
collect_so k pid =
    behind k (k.procs pid) _ _ (λ e. e) (λ p is.
    behind k (finished_call p.state) _ _ (λ e. otherwise_so k wanted.Done pid p is (ap is_some e)) (λ done over. found_so_far k p))

pub so : (k : Kernel) (s : Step) (why : Obstacle) → obstacle k s ≡ Some why → IsSo k why
so k (steps.Call pid c) why e = (last k (k.procs pid) _ (λ e. e)).so why e
so k (steps.Arrive sender number) why e = (arrive_so k (name_of sender number)).so why e
so k (steps.Take r) why e = (take_so k r).so why e
so k (steps.Finish s) why e = (finish_so k s).so why e
so k (steps.Fail s ending) why e = (fail_so k s ending).so why e
so k (steps.OpenMove sender number moving) why e = (open_so k (name_of sender number) moving).so why e
so k (steps.Copy sender number moving offset count) why e = (copy_so k (name_of sender number) moving offset count).so why e
so k (steps.End r ending) why e = (end_so k r ending).so why e
so k (steps.Hear asker number pid) why e = (hear_so k asker number pid).so why e
so k (steps.Found asker pid) why e = (found_so k asker pid).so why e
so k (steps.Lost asker) why e = (asker_so k asker).so why e
so k (steps.Collect pid) why e = (collect_so k pid).so why e

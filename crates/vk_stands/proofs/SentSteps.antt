-- The steps of a mover's packets in the view of its partner's station: a move is opened, and its next bytes are written.
use Rattle.std.proofs.Common.{◌≡◌, ◌≤◌, ℕ, zero, suc, ◌+◌, ◌-◌, ◌==◌, Bool, true, false, cond, List, length, take, refl, ap, ◌∙◌, Option, Some, None, ltb, arith}
use Rattle.std.specs.List.{slice_get, slice_set}
use Rattle.std.proofs.lemmas.Bool.{and_from, eq-eqb, le-leb}
use Rattle.std.proofs.lemmas.List.{take_all}
use Rattle.vk_types.specs.Types.{Exchange, Message, Move, Name, Pid, Process}
use Rattle.vk_base.specs.declared.step.Step.TheVariants as steps
use Rattle.vk_base.specs.Brought.{bytes_from, move_to_sender}
use Rattle.vk_base.specs.Calls.{unseen}
use Rattle.vk_base.specs.Kernel.{◌>>=◌, Kernel, move_of, name_of, same_name, sending, with_memory}
unfoldable use Rattle.vk_base.specs.Kernel.{put_exchange, waiting_on}
use Rattle.vk_base.specs.Ranges.{bytes_in, range_of, with_bytes}
use Rattle.vk_base.specs.Steps.{Opening, after_effect, is_next, next, noted_bytes, only_if, written_process}
unfoldable use Rattle.vk_base.specs.Steps.{copied, copying, move_opened, opening_move}
use Rattle.vk_base.proofs.ListLemmas.{drop_front}
use Rattle.v_laws.proofs.Tables.{put_exchange_here}
use Rattle.v_laws.proofs.MoveLists.{set_here}
use Rattle.vk_stands.proofs.SentMoves.{with_send}

-- Changes of one exchange.

twice_by : (b : Bool) (x y : Exchange) (o : Option Exchange) → cond b (Some y) (cond b (Some x) o) ≡ cond b (Some y) o
twice_by true x y o = refl
twice_by false x y o = refl

pub put_twice : (exchanges : Name → Option Exchange) (name : Name) (x y : Exchange) →
    put_exchange (put_exchange exchanges name x) name y ≡ put_exchange exchanges name y
unfolding put_exchange
put_twice exchanges name x y = λ i. λ n. twice_by (same_name n name) x y (exchanges n) i

pub moved_there : (e : Exchange) (moving opened done : ℕ) (m x : Move) → move_of e moving ≡ Some m →
    move_of (record e { moves = slice_set e.moves (moving - 1) x; opened = opened; done = done }) moving ≡ Some x
moved_there e zero opened done m x is = cc
moved_there e (suc i) opened done m x is =
    let same : suc i - 1 ≡ i = omega arith in ap (λ n. slice_get (slice_set e.moves n x) i) same ∙ set_here e.moves i m x is

pub front_bytes : (offset : ℕ) (bytes : List ℕ) → bytes_in (range_of offset (length bytes)) (bytes_from offset bytes) ≡ bytes
front_bytes offset bytes = ap (take (length bytes)) (drop_front offset bytes) ∙ take_all (length bytes) bytes (omega arith)

module _ (k : Kernel) (to : Pid) (number moving : ℕ) (p : Process) (here : k.procs to ≡ Some p) (x : Pid × Message)
    (waits : sending p.state ≡ Some x) (last : (p.sends == number) ≡ true) where
  abbrev name : Name
  name = name_of to number

  waiting : waiting_on k name ≡ Some p
  unfolding waiting_on
  waiting =
      ap (λ o. o >>= λ q. sending q.state >>= λ s. cond (q.sends == number) (Some q) None) here
      ∙ ap (λ o. o >>= λ s. cond (p.sends == number) (Some p) None) waits
      ∙ ap (λ b. cond b (Some p) None) last

  -- the exchange of a move that is opened
  abbrev pub opened : Exchange → Move → Exchange
  opened e m = record e {
    moves = slice_set e.moves (moving - 1) (record m { bytes = noted_bytes m.direction p m });
    opened = moving;
    done = 0;
  }

  opening : (e : Exchange) (m : Move) → ltb e.opened moving ≡ true → move_of e moving ≡ Some m →
      opening_move (with_send k name e) name moving ≡ Some (record { sender = p; exchange = e; move = m })
  unfolding opening_move waiting_on
  opening e m later at =
      let next : Process → Exchange → Option Opening =
      λ q z. only_if (ltb z.opened moving) (move_of z moving) >>= λ n. Some (record { sender = q; exchange = z; move = n }) in
      ap (λ o. o >>= λ q. (with_send k name e).exchanges name >>= λ z. next q z) waiting
      ∙ ap (λ o. o >>= λ z. next p z) (put_exchange_here k.exchanges name e)
      ∙ ap (λ b. only_if b (move_of e moving) >>= λ n. Some (record { sender = p; exchange = e; move = n })) later
      ∙ ap (λ o. o >>= λ n. Some (record { sender = p; exchange = e; move = n })) at

  pub opens : (e : Exchange) (m : Move) → ltb e.opened moving ≡ true → move_of e moving ≡ Some m →
      next (with_send k name e) (steps.OpenMove to number moving) ≡ with_send k name (opened e m)
  unfolding move_opened
  opens e m later at =
      ap (λ o. after_effect (with_send k name e) (o >>= λ o. Some (unseen (move_opened (with_send k name e) name moving o))))
      (opening e m later at)
      ∙ (λ i. record k { exchanges = put_twice k.exchanges name e (opened e m) i })

  -- the next bytes of the open move to the sender
  module _ (mover : Pid) (dest total offset : ℕ) (bytes : List ℕ) (any : 1 ≤ length bytes) (fits : offset + length bytes ≤ total)
      (e : Exchange) (open_one : e.opened ≡ moving) (next_one : e.done ≡ offset)
      (at : move_of e moving ≡ Some (move_to_sender mover dest total offset bytes)) where
    abbrev m : Move
    m = move_to_sender mover dest total offset bytes

    abbrev l : Kernel
    l = with_send k name e

    abbrev y : Exchange
    y = record e { done = e.done + length bytes }

    next_is : is_next e moving m offset (length bytes) ≡ true
    next_is = and_from _ _ (and_from _ _ (and_from _ _ (eq-eqb e.opened moving open_one) (eq-eqb e.done offset next_one))
        (le-leb 1 (length bytes) any)) (le-leb (offset + length bytes) total fits)

    copying_is : copying l name moving offset (length bytes) ≡ Some (record { exchange = e; move = m; pid = to; process = p })
    unfolding copying waiting_on
    copying_is =
        let pair : Process → Option (Pid × Process) = λ q. Some (to, q) in
        ap (λ o. o >>= λ z. move_of z moving >>= λ m. only_if (is_next z moving m offset (length bytes))
        (written_process l name moving m.mover m.direction)
        >>= λ w. Some (record { exchange = z; move = m; pid = w.0; process = w.1 })) (put_exchange_here k.exchanges name e)
        ∙ ap (λ o. o >>= λ m. only_if (is_next e moving m offset (length bytes)) (written_process l name moving m.mover m.direction)
        >>= λ w. Some (record { exchange = e; move = m; pid = w.0; process = w.1 })) at
        ∙ ap (λ b. only_if b (written_process l name moving m.mover m.direction)
        >>= λ w. Some (record { exchange = e; move = m; pid = w.0; process = w.1 })) next_is
        ∙ ap (λ o. (o >>= pair) >>= λ w. Some (record { exchange = e; move = m; pid = w.0; process = w.1 })) waiting

    pub copies : next l (steps.Copy to number moving offset (length bytes))
        ≡ with_send (with_memory k to p (with_bytes p.memory (dest + offset) bytes)) name y
    unfolding copied
    copies =
        ap (λ o. after_effect l (o >>= λ o. Some (unseen (copied l name offset (length bytes) o)))) copying_is
        ∙ (λ i. record (with_memory k to p (with_bytes p.memory (dest + offset) (front_bytes offset bytes i))) {
          exchanges = put_twice k.exchanges name e y i;
        })

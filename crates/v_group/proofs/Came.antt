-- To whom a message has come that was sent: what takes it from there is a Forward.
use Rattle.std.proofs.Common.{◌≡◌, ℕ, suc, ◌+◌, ◌<◌, ◌≤◌, List, slice_get, Some, None, refl, sym, ap, subst, ◌∙◌, inl, inr, arith}
use Rattle.std.proofs.lemmas.Option.{same_Some, none-some}
use Rattle.vk_types.specs.Types.{Exchange, Name, Pid, Process, ProcessSpec, Step}
use Rattle.vk_base.specs.declared.call.Call.TheVariants as calls
use Rattle.vk_base.specs.declared.kernel.Stage.TheVariants as kinds
use Rattle.vk_base.specs.declared.kernel.State.TheVariants as states
use Rattle.vk_base.specs.declared.step.Step.TheVariants as steps
use Rattle.vk_base.specs.Calls.{Effect}
use Rattle.vk_base.specs.Kernel.{Kernel, name_of}
use Rattle.vk_base.specs.Steps.{effect}
use Rattle.vk_base.proofs.OptionLemmas.{bind_is}
use Rattle.v_laws.specs.Places.{HasOwnReply, before, brought_by}
use Rattle.v_laws.specs.Sound.{IsSound}
use Rattle.v_laws.proofs.Later.{Becomes, exchange_before}
use Rattle.v_laws.proofs.OnceLemmas.{IsTakenAt, forward_brings, taken_at_is, taken_over}
use Rattle.v_laws.proofs.PlaceLemmas.{along, at_place, before_sound}
use Rattle.v_laws.proofs.Queues.{fresh, taken_was_queued}
use Rattle.v_laws.proofs.SoundLemmas.{step_is}
use Rattle.v_laws.proofs.Tables.{same_pid_is}
use Rattle.v_pages.proofs.Senders.{sent_to}
use Rattle.v_group.specs.Grouped.{HasComeTo}
use Rattle.v_pages.proofs.Taken.{take_same}

module _ (specs : List ProcessSpec) (ss : List Step) (n : Name) (send : ℕ) (target : Pid) where
  abbrev Come : ℕ → Pid → Type 0
  Come a q = HasComeTo specs ss n send target a q

  come_later : (a : ℕ) (q : Pid) → Come a q → Come (suc a) q
  come_later a q (HasComeTo.sent _ low) = HasComeTo.sent (suc a) (omega arith)
  come_later a q (HasComeTo.handed _ place from _ less first on) = HasComeTo.handed (suc a) place from q (omega arith) first on

  -- the message of this Send is where it has come
  abbrev IsWhereCome : ℕ → Exchange → Type 0
  IsWhereCome a x = x.target ≡ target → (send < a) × Come a x.at

  still : (a : ℕ) (x y : Exchange) → y.target ≡ x.target → y.at ≡ x.at → IsWhereCome a x → IsWhereCome (suc a) y
  still a x y same at was is =
      let first = was (sym same ∙ is) in
      let low = first.0 in
      (omega arith, subst (Come (suc a)) (sym at) (come_later a x.at first.1))

  come_on : (a : ℕ) (k : Kernel) (s : Step) (x y : Exchange) → before specs ss a ≡ Some k → slice_get ss a ≡ Some s → Becomes k s n x y →
      IsWhereCome a x → IsWhereCome (suc a) y
  come_on a k s x y at is (Becomes.goes on) was = still a x y on.target on.at was
  come_on a k s x y at is (Becomes.arrives step away after) was =
      subst (IsWhereCome (suc a)) (sym after) (still a x (record x { stage = kinds.Queued }) refl refl was)
  come_on a k s x y at is (Becomes.overtaken number step less live after) was =
      subst (IsWhereCome (suc a)) (sym after) (still a x (record x { stage = kinds.Dropped }) refl refl was)
  come_on a k s x y at is (Becomes.forwards p m to step there fit f after) was = λ sent.
      let first = was (sym (ap (λ (z : Exchange). z.target) after) ∙ sent) in
      let low = first.0 in (
        omega arith,
        subst (Come (suc a)) (sym (ap (λ (z : Exchange). z.at) after)) (HasComeTo.handed (suc a) a x.at to (omega arith) first.1 (record {
          shown = m;
          is = is ∙ ap (λ (z : Step). Some z) step;
          brings = at_place brought_by specs ss a k s at is ∙ forward_brings k s n x p m to step there fit f.holds;
        })),
      )

  abbrev AllWhereCome : ℕ → Kernel → Type 0
  AllWhereCome a k = (x : Exchange) → k.exchanges n ≡ Some x → IsWhereCome a x

  come_step : (a : ℕ) (k : Kernel) (s : Step) (e : Effect) → send ≤ a → before specs ss a ≡ Some k → slice_get ss a ≡ Some s → IsSound k →
      effect k s ≡ Some e → AllWhereCome a k → AllWhereCome (suc a) e.after
  come_step a k s e low at is sound does was y there = elim (exchange_before s k e.after n y sound (step_is k s e sound does) there) [
    | inl x ↦ come_on a k s x.0 y at is x.2 (was x.0 x.1)
    | inr new ↦ λ sent.
        let place : y.at ≡ target =
        ap (λ (z : Exchange). z.at) new.is ∙ sym (ap (λ (z : Exchange). z.target) new.is) ∙ sent in
        (omega arith, subst (Come (suc a)) (sym place) (HasComeTo.sent (suc a) (omega arith)))
  ]

  -- where it was not there when its Send was called for
  pub where_come : (k l : Kernel) (a : ℕ) → before specs ss send ≡ Some k → k.exchanges n ≡ None → send ≤ a → before specs ss a ≡ Some l →
      AllWhereCome a l
  where_come k l a at none up there = along specs ss AllWhereCome send k at (λ x is. absurd (none-some x (sym none ∙ is)))
      (λ b m s e low at_b is sound does so_far. come_step b m s e low at_b is sound does so_far)
      (λ b m low past so_far x is. still b x x refl refl (so_far x is))
      a up l there

-- So who replied to a Send is who was sent to, or one to whom its message came by Forwards.
pub replier_come : (specs : List ProcessSpec) (ss : List Step) (finish : ℕ) (h member : Pid) (own : HasOwnReply specs ss finish h)
    (send : ℕ) (k : Kernel) (caller : Process) → own.target ≡ member → before specs ss send ≡ Some k → k.procs h ≡ Some caller →
    own.number ≡ caller.sends + 1 → send < own.take_place →
    HasComeTo specs ss (name_of h own.number) send member own.take_place own.holder
replier_come specs ss finish h member own send k caller target at there number low =
    subst (HasComeTo specs ss n send member own.take_place) holder
    (where_come specs ss n send member k t.kernel own.take_place at new (omega arith) t.at x queued to).1
  where
    n : Name
    n = name_of h own.number

    t : IsTakenAt specs ss own.take_place n
    t = taken_at_is specs ss own.take_place n own.takes

    x : Exchange
    x = t.take.exchange

    queued : t.kernel.exchanges n ≡ Some x
    queued = (taken_over specs ss own.take_place n t).queued

    holder : x.at ≡ own.holder
    holder = same_pid_is x.at t.receiver (taken_was_queued t.kernel t.receiver t.take t.takes).0
        ∙ take_same t.receiver own.holder (same_Some (steps.Take t.receiver) (steps.Take own.holder) (sym t.is ∙ own.receives))

    new : k.exchanges n ≡ None
    new = fresh k h caller own.number (before_sound specs ss send k at) there (omega (arith, number))

    end : (l : Kernel) × (before specs ss finish ≡ Some l) × (l.procs h ≡ Some own.finish.process)
    end = bind_is (before specs ss finish) (λ l. l.procs h) own.finish.process own.finish.before

    to : x.target ≡ member
    to = (sent_to specs ss own.take_place finish h member t.kernel end.0 own.finish.process own.finish.message x
        (let first = own.before_reply in let second = own.before_finish in omega arith) t.at end.1 end.2
        (own.finish.waits ∙ ap (λ q. states.Blocked (calls.Send q own.finish.message)) target)
        (ap (λ z. t.kernel.exchanges (name_of h z)) own.finish.last ∙ queued)).0

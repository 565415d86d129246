-- A deed that an account shows was done at a place, and the coordinator begins no group Send since.
use Rattle.std.proofs.Common.{◌≡◌, ◌⊎◌, ℕ, zero, suc, ◌<◌, false, List, [], ◌∷◌, ◌++◌, Option, Some, None, refl, sym, ap, subst, ◌∙◌, inl, inr, arith}
use Rattle.std.proofs.lemmas.Bool.{cases_lt, cases_order}
use Rattle.std.proofs.lemmas.Option.{same_Some, none-some}
use Rattle.vk_types.specs.Types.{Answer, Call, Pid, ProcessSpec, Step}
use Rattle.vk_base.specs.Kernel.{◌>>=◌}
use Rattle.vk_group.specs.declared.group.Group.{Group}
use Rattle.vk_group.specs.declared.stage.OpenSend.{OpenSend}
use Rattle.vk_event.specs.declared.pair.HelperPair.{HelperPair}
use Rattle.vk_group.specs.Accounts.{Account, Began, Deed, account_after, account_from, accounted, deed_of, nothing_for}
use Rattle.vk_group.specs.Groups.{answered, answered_all, coordinator_call, group_after, new_group}
use Rattle.v_pages.specs.Followed.{FollowsTask, answer_at, answer_in, answers_before, up_to}
use Rattle.v_pages.proofs.Lists.{up_to_none, up_to_some}
use Rattle.v_group.specs.Grouped.{IsDoneAt, IsSameSend}
use Rattle.v_group.proofs.Answered.{own_answer, saw_own}
use Rattle.v_group.proofs.Coordinating.{coordinator_plain}
use Rattle.v_group.proofs.Stepping.{is_slow}

one_account_more : (g : Group) (h : Account) (given : List Answer) (a : Answer) →
    account_from g h (given ++ a ∷ []) ≡ accounted (account_from g h given) (deed_of (answered_all g given) a)
one_account_more g h [] a = refl
one_account_more g h (b ∷ rest) a = one_account_more (answered g b) (accounted h (deed_of g b)) rest a

pub record IsDoneSince (specs : List ProcessSpec) (ss : List Step) (r : Pid) (pairs : List HelperPair) (replies i : ℕ) (d : Deed) :
    Type 0 where
  pub place : ℕ
  pub earlier : place < i
  pub done : IsDoneAt specs ss r pairs replies place d
  pub same : IsSameSend specs ss r pairs replies place i

answered_there : (specs : List ProcessSpec) (ss : List Step) (r : Pid) (pairs : List HelperPair) (replies i : ℕ) (d : Deed)
    (done : IsDoneAt specs ss r pairs replies i d) → answer_at specs ss r i ≡ Some done.answer
answered_there specs ss r pairs replies i d done = ap (λ o. o >>= answer_in r) done.seen ∙ saw_own r done.call done.answer

-- What an account shows is there of before, where no group Send begins, or by this deed.
abbrev pub IsShownBy : (Account → Type 0) → Deed → Type 0
IsShownBy P d = (h : Account) (o : Option Deed) → P (accounted h o) → (P h × ((asked : OpenSend) → o ≡ Some (Began asked) → ⊥)) ⊎ (o ≡ Some d)

module _ (specs : List ProcessSpec) (ss : List Step) (r : Pid) (pairs : List HelperPair) (replies : ℕ)
    (follows : FollowsTask (coordinator_call pairs replies) specs ss r) where
  abbrev Given : ℕ → List Answer
  Given i = answers_before specs ss r i

  abbrev AccountAt : ℕ → Account
  AccountAt i = account_after pairs replies (Given i)

  -- where it is answered it is done, where the call is one that is answered at once
  pub deed_done : (i : ℕ) (a : Answer) (d : Deed) (c : Call) → answer_at specs ss r i ≡ Some a →
      deed_of (group_after pairs replies (Given i)) a ≡ Some d → coordinator_call pairs replies (Given i) ≡ Some c → is_slow c ≡ false →
      IsDoneAt specs ss r pairs replies i d
  deed_done i a d c is deed next quick =
      let own = own_answer (coordinator_call pairs replies) specs ss r (coordinator_plain pairs replies) follows i a c is next quick in
      record { call = own.call; answer = a; is = own.is; seen = own.seen; deed = deed }

  done_later : (i : ℕ) (d : Deed) → ((asked : OpenSend) → IsDoneAt specs ss r pairs replies i (Began asked) → ⊥) →
      IsDoneSince specs ss r pairs replies i d → IsDoneSince specs ss r pairs replies (suc i) d
  done_later i d none h = record {
    place = h.place;
    earlier = let less = h.earlier in omega arith;
    done = h.done;
    same = λ l asked more less b. elim (cases_lt l i) [
      | inl below ↦ h.same l asked more below b
      | inr there ↦
          let one : l ≡ i = omega arith in
          none asked (subst (λ z. IsDoneAt specs ss r pairs replies z (Began asked)) one b)
    ];
  }

  module _ (P : Account → Type 0) (d : Deed) (shown : IsShownBy P d)
      (there : (i : ℕ) (a : Answer) → answer_at specs ss r i ≡ Some a → deed_of (group_after pairs replies (Given i)) a ≡ Some d →
      IsDoneAt specs ss r pairs replies i d) where
    done_next : (i : ℕ) (o : Option Answer) → answer_at specs ss r i ≡ o → P (AccountAt (suc i)) →
        (P (AccountAt i) → IsDoneSince specs ss r pairs replies i d) → IsDoneSince specs ss r pairs replies (suc i) d
    done_next i None is e again =
        done_later i d (λ asked b. none-some b.answer (sym is ∙ answered_there specs ss r pairs replies i (Began asked) b))
        (again (subst (λ given. P (account_after pairs replies given)) (up_to_none (answer_at specs ss r) i is) e))
    done_next i (Some a) is e again =
        let h = AccountAt i in
        let o = deed_of (group_after pairs replies (Given i)) a in
        let more : AccountAt (suc i) ≡ accounted h o =
        ap (account_after pairs replies) (up_to_some (answer_at specs ss r) i a is)
        ∙ one_account_more (new_group pairs replies) (nothing_for None) (Given i) a in
        elim (shown h o (subst P more e)) [
          | inl old ↦
              done_later i d
              (λ asked b. old.1 asked (ap (deed_of (group_after pairs replies (Given i)))
              (same_Some a b.answer (sym is ∙ answered_there specs ss r pairs replies i (Began asked) b)) ∙ b.deed))
              (again old.0)
          | inr new ↦ record {
            place = i;
            earlier = omega arith;
            done = there i a is new;
            same = λ k asked above less b. absurd (omega arith);
          }
        ]

    -- what stands in no account at first
    pub done_since : (P (nothing_for None) → ⊥) → (i : ℕ) → P (AccountAt i) → IsDoneSince specs ss r pairs replies i d
    unfolding up_to
    done_since first zero e = absurd (first e)
    done_since first (suc i) e = done_next i (answer_at specs ss r i) refl e (λ old. done_since first i old)

-- Where a deed was done that begins none, and none began up to there, none began at all.
pub done_joined : (specs : List ProcessSpec) (ss : List Step) (r : Pid) (pairs : List HelperPair) (replies i j : ℕ) (d : Deed)
    (h : IsDoneSince specs ss r pairs replies j d) → IsSameSend specs ss r pairs replies i h.place →
    ((asked : OpenSend) → d ≡ Began asked → ⊥) → IsSameSend specs ss r pairs replies i j
done_joined specs ss r pairs replies i j d h before other l asked more less b = elim (cases_order l h.place) [
  | inl same ↦
      let there : IsDoneAt specs ss r pairs replies h.place (Began asked) =
      subst (λ z. IsDoneAt specs ss r pairs replies z (Began asked)) same b in
      let one : h.done.answer ≡ there.answer = same_Some h.done.answer there.answer
      (sym (answered_there specs ss r pairs replies h.place d h.done)
      ∙ answered_there specs ss r pairs replies h.place (Began asked) there) in
      other asked (same_Some d (Began asked) (sym h.done.deed
      ∙ ap (deed_of (group_after pairs replies (answers_before specs ss r h.place))) one ∙ there.deed))
  | inr apart ↦ elim apart [
    | inl below ↦ before l asked more below b
    | inr above ↦ h.same l asked above less b
  ]
]

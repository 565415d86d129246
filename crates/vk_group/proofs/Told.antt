-- What a coordinator keeps to.
use Rattle.std.proofs.Common.{◌≡◌, ℕ, zero, suc, ◌<◌, ◌≤◌, true, false, eqb, List, [], ◌∷◌, ◌++◌, length, map, Option, Some, None, refl, ap, sym, subst, ◌∙◌, arith, append-nil, length-append, lit<, inl, inr, ◌⊎◌}
use Rattle.std.specs.Prelude.{slice_index}
use Rattle.std.specs.List.{IsDistinct, list_all, list_any}
use Rattle.std.proofs.lemmas.Bool.{and_cases, and_parts, false≢true, or_cases, or_parts}
use Rattle.std.proofs.lemmas.List.{length-map, map-append}
use Rattle.std.proofs.lemmas.Map.Steps.{length-le_from_distinct_below}
use Rattle.std.proofs.lemmas.Option.{none-some, same_Some}
use Rattle.vk_types.specs.Types.{Answer, Call, Pid}
use Rattle.vk_base.specs.declared.call.Call.TheVariants as calls
use Rattle.vk_base.proofs.ListLemmas.{front_distinct}
use Rattle.vk_group.specs.declared.code.Code.{Code}
use Rattle.vk_group.specs.declared.code.Code.TheVariants as codes
use Rattle.vk_group.specs.declared.member.Member.{Member}
use Rattle.vk_group.specs.declared.member.Progress.TheVariants as works
use Rattle.vk_group.specs.declared.member.Progress.{Progress}
use Rattle.vk_group.specs.declared.notes.Note.{Note}
use Rattle.vk_event.specs.declared.pair.HelperPair.{HelperPair}
use Rattle.vk_event.specs.declared.pair.TheConstants.{GROUP_MEMBERS}
use Rattle.vk_group.specs.declared.stage.Stage.{Stage}
use Rattle.vk_group.specs.declared.stage.Stage.TheVariants as stages
use Rattle.vk_group.specs.Accounts.{Account, account_after, note_member}
use Rattle.vk_group.specs.Codes.{number_of}
use Rattle.vk_group.specs.Groups.{HasRoomForNote, HasRoomAt, group_after, new_group, stage_call}
use Rattle.vk_group.specs.Laws.{AllReported, BusyIsTrue, JobsAreGivenOnce, NobodyIsTrue, NoMoreIsTrue, RepliesAreHandedOverOnce, is_among}
use Rattle.vk_group.specs.Members.{has_replied, has_reported, pair_of}
use Rattle.vk_group.specs.Messages.{reply_of}
use Rattle.vk_group.proofs.Amounts.{among_self, more_among, push_distinct}
use Rattle.vk_group.proofs.Books.{Books, kept}
use Rattle.vk_group.proofs.Constant.{constant_all, pairs_new}
use Rattle.vk_group.proofs.Staged.{IsStaged, IsCodeRight}
use Rattle.vk_group.proofs.Works.{was_done, was_given, was_replied, work_at}

-- handed over, given and reported

pub handed_over_once : RepliesAreHandedOverOnce
handed_over_once pairs requests given =
    let h = account_after pairs requests given in
    let g = group_after pairs requests given in
    let b = (kept pairs requests given).books in
    record {
      different =
          front_distinct (map note_member h.handed_over) (map note_member g.notes)
          (subst (IsDistinct eqb) (map-append note_member h.handed_over g.notes) b.replies_apart);
      later = g.notes;
      reported = b.whole;
    }

given_if_done : (o : Option Progress) → was_done o ≡ true → was_given o ≡ true
given_if_done None e = absurd (false≢true e)
given_if_done (Some works.Open) e = absurd (false≢true e)
given_if_done (Some works.Given) e = refl
given_if_done (Some works.Replied) e = refl
given_if_done (Some works.Failed) e = refl

pub given_once : JobsAreGivenOnce
given_once pairs requests given =
    let g = group_after pairs requests given in
    let b = (kept pairs requests given).books in
    record {
      different = b.jobs_apart;
      once = b.reports_apart;
      given = λ n is. b.jobs_are n ∙ given_if_done (work_at g.members n) (sym (b.reports_are n) ∙ is);
    }

-- what the tests of all members say of each

done_at : (ms : List Member) (n : ℕ) → list_all has_reported ms ≡ true → n < length ms → was_done (work_at ms n) ≡ true
done_at [] n all low = absurd (omega (arith, low))
done_at (m ∷ ms) zero all low = (and_parts (has_reported m) (list_all has_reported ms) all).0
done_at (m ∷ ms) (suc n) all low =
    let below : n < length ms = omega (arith, low) in
    done_at ms n (and_parts (has_reported m) (list_all has_reported ms) all).1 below

unreported_by : (m : Member) (ms : List Member) → (has_reported m ≡ false) ⊎ (list_all has_reported ms ≡ false) →
    (list_all has_reported ms ≡ false → (n : ℕ) × (n < length ms) × (was_done (work_at ms n) ≡ false)) →
    (n : ℕ) × (n < length (m ∷ ms)) × (was_done (work_at (m ∷ ms) n) ≡ false)
unreported_by m ms (inl e) later = (zero, omega arith, e)
unreported_by m ms (inr e) later =
    let found = later e in
    (suc found.0, omega (arith, found.1), found.2)

unreported : (ms : List Member) → list_all has_reported ms ≡ false → (n : ℕ) × (n < length ms) × (was_done (work_at ms n) ≡ false)
unreported [] e = absurd (false≢true (sym e))
unreported (m ∷ ms) e = unreported_by m ms (and_cases (has_reported m) (list_all has_reported ms) e) (unreported ms)

unreplied : (ms : List Member) (n : ℕ) → list_any has_replied ms ≡ false → was_replied (work_at ms n) ≡ false
unreplied [] n e = refl
unreplied (m ∷ ms) zero e = (or_parts (has_replied m) (list_any has_replied ms) e).0
unreplied (m ∷ ms) (suc n) e = unreplied ms n (or_parts (has_replied m) (list_any has_replied ms) e).1

replied_by : (m : Member) (ms : List Member) → (has_replied m ≡ true) ⊎ (list_any has_replied ms ≡ true) →
    (list_any has_replied ms ≡ true → (n : ℕ) × (was_replied (work_at ms n) ≡ true)) → (n : ℕ) × (was_replied (work_at (m ∷ ms) n) ≡ true)
replied_by m ms (inl e) later = (zero, e)
replied_by m ms (inr e) later = let found = later e in (suc found.0, found.1)

replied_one : (ms : List Member) → list_any has_replied ms ≡ true → (n : ℕ) × (was_replied (work_at ms n) ≡ true)
replied_one [] e = absurd (false≢true e)
replied_one (m ∷ ms) e = replied_by m ms (or_cases (has_replied m) (list_any has_replied ms) e) (replied_one ms)

-- replies of no member are none
no_replies : (ns : List Note) → ((n : ℕ) → is_among (map note_member ns) n ≡ false) → ns ≡ []
no_replies [] free = refl
no_replies (n ∷ ns) free = absurd (false≢true (sym (free n.member) ∙ among_self (map note_member ns) n.member))

-- which code a call tells

code_in : Option Call → ℕ
code_in (Some (calls.Reply m to)) = slice_index m.0 1
code_in _ = 100

told_in : Stage → Option Code
told_in (stages.Refuse to code counts) = Some code
told_in (stages.Thank helper) = Some codes.Done
told_in (stages.EndWait client code) = Some code
told_in (stages.Tell number helper) = Some codes.End
told_in _ = None

module _ (c : Code) (only : (d : Code) → number_of d ≡ number_of c → d ≡ c) (small : number_of c < 100) where
  told_by : (s : Stage) → code_in (stage_call s) ≡ number_of c → told_in s ≡ Some c
  unfolding code_in told_in
  told_by stages.Receive e = absurd (omega (arith, e, small))
  told_by (stages.LoadSend client dest) e = absurd (omega (arith, e, small))
  told_by (stages.LoadResult number helper replied) e = absurd (omega (arith, e, small))
  told_by (stages.Refuse to code counts) e = ap Some (only code e)
  told_by (stages.Thank helper) e = ap Some (only codes.Done e)
  told_by (stages.StoreJob j) e = absurd (omega (arith, e, small))
  told_by (stages.GiveJob j) e = absurd (omega (arith, e, small))
  told_by (stages.StoreReply w n) e = absurd (omega (arith, e, small))
  told_by (stages.HandOver w n) e = absurd (omega (arith, e, small))
  told_by (stages.EndWait client code) e = ap Some (only code e)
  told_by (stages.Tell number helper) e = ap Some (only codes.End e)
  told_by stages.Exit e = absurd (omega (arith, e, small))
  told_by stages.Ended e = absurd (omega (arith, e, small))

is_told : (ms : List Member) (notes : List Note) (s : Stage) (c : Code) → told_in s ≡ Some c → IsStaged ms notes s → IsCodeRight ms notes c
unfolding told_in
is_told ms notes stages.Receive c e is = absurd (none-some c e)
is_told ms notes (stages.LoadSend client dest) c e is = absurd (none-some c e)
is_told ms notes (stages.LoadResult number helper replied) c e is = absurd (none-some c e)
is_told ms notes (stages.Refuse to code counts) c e is = subst (IsCodeRight ms notes) (same_Some code c e) is
is_told ms notes (stages.Thank helper) c e is = subst (IsCodeRight ms notes) (same_Some codes.Done c e) tt
is_told ms notes (stages.StoreJob j) c e is = absurd (none-some c e)
is_told ms notes (stages.GiveJob j) c e is = absurd (none-some c e)
is_told ms notes (stages.StoreReply w n) c e is = absurd (none-some c e)
is_told ms notes (stages.HandOver w n) c e is = absurd (none-some c e)
is_told ms notes (stages.EndWait client code) c e is = subst (IsCodeRight ms notes) (same_Some code c e) is
is_told ms notes (stages.Tell number helper) c e is = subst (IsCodeRight ms notes) (same_Some codes.End c e) tt
is_told ms notes stages.Exit c e is = absurd (none-some c e)
is_told ms notes stages.Ended c e is = absurd (none-some c e)

only_busy : (d : Code) → number_of d ≡ 5 → d ≡ codes.Busy
only_busy codes.Done e = absurd (omega (arith, e))
only_busy codes.End e = absurd (omega (arith, e))
only_busy codes.Bad e = absurd (omega (arith, e))
only_busy codes.Busy e = refl
only_busy codes.Nobody e = absurd (omega (arith, e))
only_busy codes.NoMore e = absurd (omega (arith, e))

only_nobody : (d : Code) → number_of d ≡ 8 → d ≡ codes.Nobody
only_nobody codes.Done e = absurd (omega (arith, e))
only_nobody codes.End e = absurd (omega (arith, e))
only_nobody codes.Bad e = absurd (omega (arith, e))
only_nobody codes.Busy e = absurd (omega (arith, e))
only_nobody codes.Nobody e = refl
only_nobody codes.NoMore e = absurd (omega (arith, e))

only_no_more : (d : Code) → number_of d ≡ 9 → d ≡ codes.NoMore
only_no_more codes.Done e = absurd (omega (arith, e))
only_no_more codes.End e = absurd (omega (arith, e))
only_no_more codes.Bad e = absurd (omega (arith, e))
only_no_more codes.Busy e = absurd (omega (arith, e))
only_no_more codes.Nobody e = absurd (omega (arith, e))
only_no_more codes.NoMore e = refl

-- what is known where a coordinator tells a code
told : (c : Code) → ((d : Code) → number_of d ≡ number_of c → d ≡ c) → number_of c < 100 → (pairs : List HelperPair) (requests : ℕ)
    (given : List Answer) (to : Pid) → stage_call (group_after pairs requests given).stage ≡ Some (calls.Reply (reply_of c 0) to) →
    IsCodeRight (group_after pairs requests given).members (group_after pairs requests given).notes c
unfolding code_in
told c only small pairs requests given to is =
    let g = group_after pairs requests given in
    is_told g.members g.notes g.stage c (told_by c only small g.stage (ap code_in is)) (kept pairs requests given).staged

-- there are as many members as pairs
pub count_after : (pairs : List HelperPair) (requests : ℕ) (given : List Answer) →
    length (group_after pairs requests given).members ≡ length pairs
count_after pairs requests given =
    let g = group_after pairs requests given in
    sym (length-map g.members pair_of)
    ∙ ap length (constant_all (new_group pairs requests) given ∙ pairs_new pairs)

all_reported : (pairs : List HelperPair) (requests : ℕ) (given : List Answer) →
    list_all has_reported (group_after pairs requests given).members ≡ true →
    AllReported (length pairs) (account_after pairs requests given)
all_reported pairs requests given all n low =
    let g = group_after pairs requests given in
    let within : n < length g.members = subst (λ k. n < k) (sym (count_after pairs requests given)) low in
    (kept pairs requests given).books.reports_are n ∙ done_at g.members n all within

pub nobody_is_true : NobodyIsTrue
nobody_is_true pairs requests given to is =
    let g = group_after pairs requests given in
    let h = account_after pairs requests given in
    let b = (kept pairs requests given).books in
    let facts = told codes.Nobody only_nobody (lit< tt) pairs requests given to is in (
      all_reported pairs requests given facts.0,
      sym b.whole ∙ no_replies (h.handed_over ++ g.notes) (λ n. b.replies_are n ∙ unreplied g.members n facts.1),
    )

pub no_more_is_true : NoMoreIsTrue
no_more_is_true pairs requests given to is =
    let g = group_after pairs requests given in
    let h = account_after pairs requests given in
    let b = (kept pairs requests given).books in
    let facts = told codes.NoMore only_no_more (lit< tt) pairs requests given to is in
    let one = replied_one g.members facts.2 in
    let nothing_left : h.handed_over ++ g.notes ≡ h.handed_over =
    ap (λ ns. h.handed_over ++ ns) facts.1 ∙ append-nil h.handed_over in (
      all_reported pairs requests given facts.0,
      sym nothing_left ∙ b.whole,
      λ none. false≢true (ap (λ ns. is_among (map note_member ns) one.0) (sym (nothing_left ∙ none)) ∙ b.replies_are one.0 ∙ one.1),
    )

pub busy_is_true : BusyIsTrue
busy_is_true pairs requests given to is =
    let g = group_after pairs requests given in
    let found = unreported g.members (told codes.Busy only_busy (lit< tt) pairs requests given to is) in (
      found.0,
      subst (λ k. found.0 < k) (count_after pairs requests given) found.1,
      (kept pairs requests given).books.reports_are found.0 ∙ found.2,
    )

-- There is room for one reply more where one is loaded.

within : (ms : List Member) (n : ℕ) → was_given (work_at ms n) ≡ true → n < length ms
within [] n e = absurd (false≢true e)
within (m ∷ ms) zero e = omega arith
within (m ∷ ms) (suc n) e = let below : n < length ms = within ms n e in omega (arith, below)

given_if_replied : (o : Option Progress) → was_replied o ≡ true → was_given o ≡ true
given_if_replied None e = absurd (false≢true e)
given_if_replied (Some works.Open) e = absurd (false≢true e)
given_if_replied (Some works.Given) e = refl
given_if_replied (Some works.Replied) e = refl
given_if_replied (Some works.Failed) e = refl

room_for : (ms : List Member) (ns : List ℕ) (n : ℕ) → IsDistinct eqb ns → ((i : ℕ) → is_among ns i ≡ was_replied (work_at ms i)) →
    work_at ms n ≡ Some works.Given → length ns < length ms
room_for ms ns n apart are is =
    let more = push_distinct ns n apart (are n ∙ ap was_replied is) in
    let low : (q : ℕ) → is_among (ns ++ n ∷ []) q ≡ true → q < length ms =
    λ q e. within ms q (more_among (λ k. was_given (work_at ms k) ≡ true) ns n q
    (λ k among. given_if_replied (work_at ms k) (sym (are k) ∙ among)) (ap was_given is) e) in
    let most = length-le_from_distinct_below (ns ++ n ∷ []) (length ms) more low in
    omega (arith, most, length-append ns (n ∷ []))

room_at : (s : Stage) (ms : List Member) (notes : List Note) (h : Account) → length ms ≤ GROUP_MEMBERS → Books ms notes h →
    IsStaged ms notes s → HasRoomAt s (length notes)
room_at (stages.LoadResult number helper replied) ms notes h few b is =
    let most = room_for ms (map note_member (h.handed_over ++ notes)) number b.replies_apart b.replies_are is in
    omega (arith, few, most, length-map (h.handed_over ++ notes) note_member, length-append h.handed_over notes)
room_at _ ms notes h few b is = tt

pub room_after : (pairs : List HelperPair) (requests : ℕ) (given : List Answer) → length pairs ≤ GROUP_MEMBERS →
    HasRoomForNote (group_after pairs requests given)
room_after pairs requests given few =
    let g = group_after pairs requests given in
    let k = kept pairs requests given in
    room_at g.stage g.members g.notes (account_after pairs requests given)
    (subst (λ n. n ≤ GROUP_MEMBERS) (sym (count_after pairs requests given)) few) k.books k.staged

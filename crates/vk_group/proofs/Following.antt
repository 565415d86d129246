-- A coordinator and a helper after one answer more.
use Rattle.std.proofs.Common.{◌≡◌, ℕ, ◌≤◌, Bool, true, ◌==◌, ◌&&◌, not, nat_le, List, [], ◌∷◌, ◌++◌, length, refl, ap, sym, subst, ◌∙◌}
use Rattle.std.proofs.lemmas.Bool.{and_parts, leb-true}
use Rattle.std.proofs.lemmas.List.{length-map}
use Rattle.vk_types.specs.Types.{Answer}
use Rattle.vk_group.specs.declared.group.Group.{Group}
use Rattle.vk_group.specs.declared.helping.Helping.{Helping}
use Rattle.vk_group.specs.declared.helping.Helping.TheVariants as helpings
use Rattle.vk_group.specs.declared.member.Member.{Member}
use Rattle.vk_event.specs.declared.pair.HelperPair.{HelperPair}
use Rattle.vk_event.specs.declared.pair.TheConstants.{GROUP_MEMBERS}
use Rattle.vk_group.specs.Coordinators.{IsCoordinatorAfter}
use Rattle.vk_group.specs.Groups.{HasRoomForNote, answered, group_after, new_group}
use Rattle.vk_group.specs.Helpers.{IsHelperAfter, helped, helped_all}
use Rattle.vk_group.specs.Members.{pair_of, pairs_of}
use Rattle.vk_event.specs.Pairs.{are_different, are_pairs}
use Rattle.vk_group.proofs.Answering.{one_answer_more}
use Rattle.vk_group.proofs.Constant.{pairs_new}
use Rattle.vk_group.proofs.Told.{room_after}

same_count : (ms ns : List Member) → pairs_of ms ≡ pairs_of ns → length ms ≡ length ns
same_count ms ns same = sym (length-map ms pair_of) ∙ ap length same ∙ length-map ns pair_of

-- there is room for its next answer
room : (requests : ℕ) (g : Group) (given : List Answer) → IsCoordinatorAfter requests g given → HasRoomForNote g
room requests g given is =
    subst HasRoomForNote is.state
    (room_after (pairs_of g.members) requests given (subst (λ n. n ≤ GROUP_MEMBERS) (sym (length-map g.members pair_of)) is.few))

-- as the code writes it
pub after_last : (requests left : ℕ) (g new : Group) (a : Answer) (told given : List Answer) → left ≡ requests → told ≡ a ∷ [] →
    pairs_of new.members ≡ pairs_of g.members → (HasRoomForNote g → new ≡ answered g a) → IsCoordinatorAfter requests g given →
    IsCoordinatorAfter left new (given ++ told)
after_last requests left g new a told given kept one same step is =
    rw (kept, one) (record {
      state =
          ap (λ ps. group_after ps requests (given ++ a ∷ [])) same ∙ one_answer_more (new_group (pairs_of g.members) requests) given a
          ∙ ap (λ (s : Group). answered s a) is.state ∙ sym (step (room requests g given is));
      few = subst (λ n. n ≤ GROUP_MEMBERS) (sym (same_count new.members g.members same)) is.few;
    })

-- before its first answer
pub after_new : (pairs : List HelperPair) (requests : ℕ) (g : Group) → g ≡ new_group pairs requests → length pairs ≤ GROUP_MEMBERS →
    IsCoordinatorAfter requests g []
after_new pairs requests g new few =
    let same : pairs_of g.members ≡ pairs = ap (λ (s : Group). pairs_of s.members) new ∙ pairs_new pairs in
    record {
      state = ap (λ ps. new_group ps requests) same ∙ sym new;
      few = subst (λ n. n ≤ GROUP_MEMBERS) (sym (ap length same) ∙ length-map g.members pair_of) few;
    }

-- a helper

pub helped_more : (stage : Helping) (given : List Answer) (a : Answer) →
    helped_all stage (given ++ a ∷ []) ≡ helped (helped_all stage given) a
helped_more stage [] a = refl
helped_more stage (b ∷ rest) a = helped_more (helped stage b) rest a

pub helper_after : (stage next : Helping) (a : Answer) (told given : List Answer) → told ≡ a ∷ [] → next ≡ helped stage a →
    IsHelperAfter stage given → IsHelperAfter next (given ++ told)
helper_after stage next a told given one step is =
    rw one (helped_more helpings.Ready given a ∙ ap (λ s. helped s a) is ∙ sym step)

-- the pairs of a group are few
pub few_pairs : (pairs : List HelperPair) (told : Bool) → told ≡ are_pairs pairs → told ≡ true → length pairs ≤ GROUP_MEMBERS
few_pairs pairs told is yes_they_are =
    let parts = and_parts (not (length pairs == 0) && nat_le (length pairs) GROUP_MEMBERS) (are_different pairs) (sym is ∙ yes_they_are) in
    leb-true (length pairs) GROUP_MEMBERS (and_parts (not (length pairs == 0)) (nat_le (length pairs) GROUP_MEMBERS) parts.0).1

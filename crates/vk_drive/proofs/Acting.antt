-- A process, its next event, and what it hears.
use Rattle.std.proofs.Common.{◌≡◌, Bool, true, false, List, [], ◌∷◌, ◌++◌, Some, None, refl, sym, ap, subst, ◌∙◌}
use Rattle.std.specs.Prelude.{option_to_list}
use Rattle.std.proofs.lemmas.Bool.{cond-true, cond-false}
use Rattle.std.proofs.lemmas.Grind.{flat_map-append}
use Rattle.std.proofs.lemmas.List.{append-nil}
use Rattle.vk_types.specs.Types.{Answer, EventAnswer}
use Rattle.vk_base.specs.declared.event.EventAnswer.TheVariants as given
use Rattle.vk_cluster.specs.declared.report.ClusterAnswer.{ClusterAnswer}
use Rattle.vk_cluster.specs.declared.report.ClusterAnswer.TheVariants as answers
use Rattle.vk_event.specs.declared.task.Task.{Task}
use Rattle.vk_pages.specs.Any.{IsAfter, call_by}
use Rattle.vk_program.specs.Tasks.{told_by}
use Rattle.vk_rules.specs.Observed.{handed_out, is_not_yet}
use Rattle.vk_drive.specs.declared.actor.Actor.{Actor}
use Rattle.vk_drive.specs.Driving.{IsActor, tells_too_early}
use Rattle.vk_drive.specs.Told.{is_waiting, told, waits_after, waits_from}

pub told_more : (heard : List EventAnswer) (a : EventAnswer) → told (heard ++ a ∷ []) ≡ told heard ++ option_to_list (handed_out a)
told_more heard a =
    flat_map-append (λ x. option_to_list (handed_out x)) heard (a ∷ [])
    ∙ ap (λ l. told heard ++ l) (append-nil (option_to_list (handed_out a)))

pub waits_more : (waits : Bool) (heard : List EventAnswer) (a : EventAnswer) →
    waits_from waits (heard ++ a ∷ []) ≡ waits_after (waits_from waits heard) a
waits_more waits [] a = refl
waits_more waits (x ∷ xs) a = waits_more (waits_after waits x) xs a

module _ (t : Task) (heard : List EventAnswer) where
  -- an answer that tells it nothing, and that changes not whether it waits
  pub hears_nothing : (a : Actor) (x : EventAnswer) → IsActor a t heard → handed_out x ≡ None →
      waits_after (is_waiting heard) x ≡ is_waiting heard → IsActor a t (heard ++ x ∷ [])
  hears_nothing a x is nothing same = record {
    pid = is.pid;
    task = is.task;
    given = is.given;
    after = is.after;
    all = is.all ∙ sym (told_more heard x ∙ ap (λ o. told heard ++ option_to_list o) nothing ∙ append-nil (told heard));
    waits = is.waits ∙ sym (waits_more false heard x ∙ same);
    none = is.none;
  }

  -- a call began
  pub hears_begun : (old new : Actor) (x : EventAnswer) → IsActor old t heard → old.told ≡ None → x ≡ given.Begun →
      new ≡ record old { waits = true } → IsActor new t (heard ++ x ∷ [])
  hears_begun old new x is none begun same = record {
    pid = ap (λ (a : Actor). a.pid) same ∙ is.pid;
    task = ap (λ (a : Actor). call_by a.program) same ∙ is.task;
    given = is.given;
    after = subst (λ (a : Actor). IsAfter a.program is.given) (sym same) is.after;
    all =
        ap (λ (a : Actor). is.given ++ told_by a.told) same ∙ is.all
        ∙ sym (ap (λ y. told (heard ++ y ∷ [])) begun ∙ told_more heard given.Begun ∙ append-nil (told heard));
    waits =
        ap (λ (a : Actor). a.waits) same
        ∙ sym (ap (λ y. waits_from false (heard ++ y ∷ [])) begun ∙ waits_more false heard given.Begun);
    none = λ w. ap (λ (a : Actor). a.told) same ∙ none;
  }

  -- an answer to no call and no collect
  pub hears_silent : (a : Actor) (x y : EventAnswer) → IsActor a t heard → x ≡ y → handed_out y ≡ None →
      waits_after (is_waiting heard) y ≡ is_waiting heard → IsActor a t (heard ++ x ∷ [])
  hears_silent a x y is same nothing waits =
      hears_nothing a x is (ap handed_out same ∙ nothing) (ap (waits_after (is_waiting heard)) same ∙ waits)

  handed : (x : Answer) → is_not_yet x ≡ false → handed_out (given.Answered x) ≡ Some x
  handed x is = cond-false (is_not_yet x) None (Some x) is

  -- it is told this
  pub hears_answer : (old new : Actor) (x : Answer) → IsActor old t heard → old.told ≡ None → is_not_yet x ≡ false →
      new ≡ record old { told = Some x; waits = false } → IsActor new t (heard ++ given.Answered x ∷ [])
  hears_answer old new x is none late same = subst (λ a. IsActor a t (heard ++ given.Answered x ∷ [])) (sym same) (record {
    pid = is.pid;
    task = is.task;
    given = is.given;
    after = is.after;
    all =
        ap (λ l. l ++ x ∷ [])
        (sym (append-nil is.given) ∙ ap (λ o. is.given ++ told_by o) (sym none) ∙ is.all)
        ∙ sym (told_more heard (given.Answered x) ∙ ap (λ o. told heard ++ option_to_list o) (handed x late));
    waits = sym (waits_more false heard (given.Answered x) ∙ cond-false (is_not_yet x) (is_waiting heard) false late);
    none = λ w. absurd (cc);
  })

  -- its collect came too early
  pub hears_early : (a : Actor) (x : EventAnswer) → IsActor a t heard → tells_too_early x ≡ true → IsActor a t (heard ++ x ∷ [])
  hears_early a (given.Answered x) is early =
      hears_nothing a (given.Answered x) is (cond-true (is_not_yet x) None (Some x) early)
      (cond-true (is_not_yet x) (is_waiting heard) false early)
  hears_early a given.Begun is early = absurd (cc)
  hears_early a (given.Ticked now) is early = absurd (cc)
  hears_early a given.Taken is early = absurd (cc)
  hears_early a given.Old is early = absurd (cc)
  hears_early a given.Bad is early = absurd (cc)

-- what is told is one answer
pub one_answer : (x y : EventAnswer) (told_is : ClusterAnswer) → told_is ≡ answers.Event x → told_is ≡ answers.Event y → x ≡ y
one_answer x y told_is first second = let same : answers.Event x ≡ answers.Event y = sym first ∙ second in cc

-- What a coordinator's codes say is true where it makes the call.
use Rattle.std.proofs.Common.{◌≡◌, ℕ, List, slice_get, Some, Option, refl, ap, ◌∙◌}
use Rattle.vk_types.specs.Types.{Answer, Call, Pid, ProcessSpec, Step}
use Rattle.vk_base.specs.declared.step.Step.TheVariants as steps
use Rattle.vk_base.specs.Kernel.{◌>>=◌}
use Rattle.vk_group.specs.Groups.{coordinator_call}
use Rattle.vk_group.proofs.Told.{busy_is_true, handed_over_once, no_more_is_true, nobody_is_true}
use Rattle.v_pages.specs.Followed.{FollowsTask, answers_before, call_by}
use Rattle.v_group.specs.Codes.{CodesAreTrue}
use Rattle.v_group.proofs.Stepping.{own_call}

told_there : (task : List Answer → Option Call) (specs : List ProcessSpec) (ss : List Step) (r : Pid) (i : ℕ) (c : Call) →
    FollowsTask task specs ss r → slice_get ss i ≡ Some (steps.Call r c) → task (answers_before specs ss r i) ≡ Some c
told_there task specs ss r i c follows is =
    (follows i c (ap (λ o. o >>= call_by r) is ∙ own_call r (steps.Call r c) c refl)).told

pub codes_true : CodesAreTrue
codes_true specs ss r pairs replies follows = record {
  nobody = λ i to is. nobody_is_true pairs replies (answers_before specs ss r i) to
      (told_there (coordinator_call pairs replies) specs ss r i _ follows is);
  no_more = λ i to is. no_more_is_true pairs replies (answers_before specs ss r i) to
      (told_there (coordinator_call pairs replies) specs ss r i _ follows is);
  busy = λ i to is. busy_is_true pairs replies (answers_before specs ss r i) to
      (told_there (coordinator_call pairs replies) specs ss r i _ follows is);
  once = λ i. handed_over_once pairs replies (answers_before specs ss r i);
}

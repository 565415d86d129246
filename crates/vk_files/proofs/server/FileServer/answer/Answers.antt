use Rattle.std.proofs.Common.{subst, ◌∙◌}
use Rattle.vk_files.proofs.Directories.{few_entries}
use Rattle.vk_files.proofs.Stepping.{serving_fine, step_made, still_serving}
use Rattle.vk_files.specs.Disks.{block_at}
use Rattle.vk_files.specs.Tasks.{FileState, IsServerStep}
use Rattle.vk_files.proofs.server.FileServer.answer.Goals as goal

pub turn-turn-requires-clause-files : goal.turn-turn-requires-clause-files
turn-turn-requires-clause-files g c =
    few_entries _ (block_at (g.D.Disk.state c.self.inside.first.value).blocks 0) (c.as_slice.ensures ∙ c.self.invariant.files)

pub act-self-inside-requires-clause-reach : goal.act-self-inside-requires-clause-reach
act-self-inside-requires-clause-reach g c =
    (serving_fine (g.D.Disk.state c.self.inside.first.value) c.self.inside.files c.as_slice.result.now c.self.inside.requests
    c.self.inside.replies c.self.inside.stage c.self.inside.reading c.args.answer.now c.turn-turn.result c.self.invariant
    c.as_slice.ensures c.turn-turn.ensures).reach

pub invariant_of-self : goal.invariant_of-self
invariant_of-self g c =
    let first = g.D.Disk.state c.self.inside.first.value in
    let fine = serving_fine first c.self.inside.files c.as_slice.result.now c.self.inside.requests c.self.inside.replies c.self.inside.stage
    c.self.inside.reading c.args.answer.now c.turn-turn.result c.self.invariant c.as_slice.ensures c.turn-turn.ensures in
    still_serving first c.self.inside.files c.self.inside.stage c.act-self-inside.result c.self.inside.reading
    c.act-self-inside.new.reading c.turn-turn.result c.self.invariant fine c.act-self-inside.ensures

pub returns : goal.returns
returns g c =
    let first = g.D.Disk.state c.self.inside.first.value in
    let new : FileState = record {
      first = first;
      requests = c.self.inside.requests;
      replies = c.replies_after-self-inside.result;
      stage = c.act-self-inside.result;
      reading = c.act-self-inside.new.reading;
    } in
    subst (λ (s : FileState). IsServerStep c.args.answer.now s new) c.self.view_is
    (step_made first c.self.inside.files c.as_slice.result.now c.self.inside.requests c.self.inside.replies
    c.replies_after-self-inside.result c.self.inside.stage c.act-self-inside.result c.self.inside.reading c.act-self-inside.new.reading
    c.args.answer.now c.turn-turn.result c.self.invariant c.as_slice.ensures c.turn-turn.ensures c.replies_after-self-inside.ensures
    c.act-self-inside.ensures)

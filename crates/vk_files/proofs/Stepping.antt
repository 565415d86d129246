-- One step of a file server, by its parts.
use Rattle.std.proofs.Common.{◌≡◌, ℕ, List, length, Option, Some, None, refl, ap, sym, subst, ◌∙◌, length-set, ◌++◌}
use Rattle.std.proofs.lemmas.Option.{same_Some}
use Rattle.vk_types.specs.Types.{Answer, Call, Pid}
use Rattle.vk_base.specs.declared.call.Call.TheVariants as calls
use Rattle.vk_io.specs.Causes.{Rose}
use Rattle.vk_program.specs.Tasks.{told_by}
use Rattle.vk_files.proofs.Answering.{after_none, after_step, called_after}
use Rattle.vk_files.proofs.Placing.{IsFine, after_placed, failure_asked, failure_called, failure_rose, files_there, turn_fine}
use Rattle.vk_files.specs.Ahead.{DiskAhead, Works}
use Rattle.vk_files.specs.Disks.{DiskState}
use Rattle.vk_files.specs.Messages.{reply_of}
use Rattle.vk_files.specs.Opened.{IsServing}
use Rattle.vk_files.specs.Placed.{AreOnDisk, IsPlaced}
use Rattle.vk_files.specs.Servers.{DiskWork, Rests, Fetches, Writes, FetchesAhead, blocks_after, is_failure, replies_after, stage_after, stage_call, turn_at, work_of}
use Rattle.vk_files.specs.Tasks.{FileState, IsActed, IsAfter, IsServerStep, IsStepBy, asked_of_disk, file_task}
use Rattle.vk_files.specs.Volumes.{files_of}
use Rattle.vk_files.specs.declared.disk.Telling.{Telling}
use Rattle.vk_files.specs.declared.disk.Telling.TheVariants.{Done, Lost, Landed}
use Rattle.vk_files.specs.declared.entry.Entry.{Entry}
use Rattle.vk_files.specs.declared.serving.FileServing.{FileServing}
use Rattle.vk_files.specs.declared.serving.Turn.{Turn}

-- the turn of a server asks for what lies on its disk
pub serving_fine : (first : DiskState) (files seen : List Entry) (requests replies : ℕ) (stage : FileServing) (reading : DiskAhead) (a : Answer)
    (turn : Turn) → IsServing first files stage reading → seen ≡ files → turn ≡ turn_at seen requests replies stage a
    → IsFine (length reading.disk.blocks) turn
serving_fine first files seen requests replies stage reading a turn is same made =
    let count = length first.blocks in
    let on : AreOnDisk count seen = subst (AreOnDisk count) (sym (same ∙ is.files)) (files_there count (files_of first.blocks) is.lawful) in
    let fine = turn_fine count seen requests replies stage a on is.stage in
    subst (λ (n : ℕ). IsFine n turn) (sym is.size) (subst (IsFine count) (sym made) fine)

-- no call of a disk changes how many blocks there are
same_count : (w : DiskWork) (t : Telling) (blocks : List (List ℕ)) → length (blocks_after w t blocks) ≡ length blocks
same_count Rests t blocks = refl
same_count (Fetches block) t blocks = refl
same_count (FetchesAhead block) t blocks = refl
same_count (Writes block bytes) Done blocks = length-set blocks block bytes
same_count (Writes block bytes) Lost blocks = refl
same_count (Writes block bytes) Landed blocks = length-set blocks block bytes

-- what a server keeps to, after a turn
pub still_serving : (first : DiskState) (files : List Entry) (stage next : FileServing) (reading now : DiskAhead) (turn : Turn)
    → IsServing first files stage reading → IsFine (length reading.disk.blocks) turn → IsActed turn reading now next
    → IsServing first files next now
still_serving first files stage next reading now turn is fine acted =
    let count = length reading.disk.blocks in
    record {
      few = is.few;
      files = is.files;
      lawful = is.lawful;
      size = ap (λ (l : List (List ℕ)). length l) acted.works.blocks ∙ same_count (work_of turn) acted.told reading.disk.blocks ∙ is.size;
      stage = subst (λ (n : ℕ). IsPlaced n next) is.size
          (subst (IsPlaced count) (sym acted.next) (after_placed count turn acted.told reading.disk.blocks fine.reach));
    }

-- what a server does with an answer is its step
pub step_made : (first : DiskState) (files seen : List Entry) (requests replies more : ℕ) (stage next : FileServing) (reading now : DiskAhead)
    (a : Answer) (turn : Turn) → IsServing first files stage reading → seen ≡ files → turn ≡ turn_at seen requests replies stage a
    → more ≡ replies_after requests stage replies → IsActed turn reading now next
    → IsServerStep a (record { first = first; requests = requests; replies = replies; stage = stage; reading = reading })
    (record { first = first; requests = requests; replies = more; stage = next; reading = now })
step_made first files seen requests replies more stage next reading now a turn is same made counted acted =
    let blocks = reading.disk.blocks in
    let turn_is : turn ≡ turn_at (files_of first.blocks) requests replies stage a =
    made ∙ ap (λ (l : List Entry). turn_at l requests replies stage a) (same ∙ is.files) in
    let works = subst (λ (u : Turn). Works (work_of u) acted.told reading now) turn_is acted.works in
    let fine = serving_fine first files seen requests replies stage reading a turn is same made in
    record {
      told = acted.told;
      works = works;
      server = λ i. record {
        blocks = works.blocks i;
        replies = counted i;
        stage = (acted.next ∙ ap (λ (u : Turn). stage_after u acted.told blocks) turn_is) i;
      };
      failed = λ failed. failure_rose turn acted.told blocks reading.ahead reading.disk now.disk fine.calm acted.works.called
          (ap is_failure (sym acted.next) ∙ failed);
      none_ahead = λ failed block asked. failure_asked turn acted.told blocks fine.calm (ap is_failure (sym acted.next) ∙ failed) block
          (ap work_of turn_is ∙ asked);
      first = refl;
      requests = refl;
    }

-- what a call of `next` promises, by its step

pub same_task : (last : Option Answer) (old new : FileState) → IsStepBy last old new
    → file_task new.first new.requests ≡ file_task old.first old.requests
same_task None old new step = ap (λ (s : FileState). file_task s.first s.requests) step
same_task (Some a) old new step = λ i. file_task (step.first i) (step.requests i)

pub after_told : (last : Option Answer) (old new : FileState) → IsStepBy last old new → (given : List Answer) → IsAfter old given
    → IsAfter new (given ++ told_by last)
after_told None old new step given is = after_none old new given step is
after_told (Some a) old new step given is = after_step old new given a step is

pub called_by_task : (last : Option Answer) (old new : FileState) → IsStepBy last old new → (given : List Answer) → IsAfter old given
    → stage_call new.stage ≡ file_task old.first old.requests (given ++ told_by last)
called_by_task last old new step given is =
    called_after new (given ++ told_by last) (after_told last old new step given is)
    ∙ ap (λ (task : List Answer → Option Call). task (given ++ told_by last)) (same_task last old new step)

pub failed_only : (last : Option Answer) (old new : FileState) → IsStepBy last old new → (a : Answer) (from : Pid) → last ≡ Some a
    → stage_call new.stage ≡ Some (calls.Reply (reply_of 3 0 0) from) → Rose old.reading.disk.faults new.reading.disk.faults
failed_only None old new step a from is called = absurd (cc)
failed_only (Some b) old new step a from is called = step.failed (failure_called new.stage from called)

pub failed_by_asking : (last : Option Answer) (old new : FileState) → IsStepBy last old new → (a : Answer) (from : Pid) (block : ℕ)
    → last ≡ Some a → stage_call new.stage ≡ Some (calls.Reply (reply_of 3 0 0) from) → asked_of_disk old a ≡ FetchesAhead block → ⊥
failed_by_asking None old new step a from block is called asked = cc
failed_by_asking (Some b) old new step a from block is called asked =
    step.none_ahead (failure_called new.stage from called) block (ap (asked_of_disk old) (same_Some b a is) ∙ asked)

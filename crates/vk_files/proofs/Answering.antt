-- A file server after one answer more.
use Rattle.std.proofs.Common.{◌≡◌, ℕ, ◌+◌, Bool, true, false, cond, List, [], ◌∷◌, ◌++◌, drop, Option, Some, refl, ap, sym, subst, ◌∙◌, append_assoc, append-nil, add-zero, get_or-drop, drop-drop}
use Rattle.vk_types.specs.Types.{Answer}
use Rattle.vk_files.specs.Ahead.{IsCalledIf, DiskAhead, Works, ahead_after, calls_disk}
use Rattle.vk_files.specs.Disks.{DiskState, IsForetold, told_at}
use Rattle.vk_files.specs.Servers.{Server, answered, new_server, stage_call, turn_at, work_of}
use Rattle.vk_files.specs.Tasks.{Course, FileState, IsAfter, IsServerStep, answered_all, course_of, file_task, new_course, server_of, stepped, stepped_all, telling_of}
use Rattle.vk_files.specs.Volumes.{files_of}
use Rattle.vk_files.specs.declared.disk.Telling.{Telling}
use Rattle.vk_files.specs.declared.disk.Telling.TheVariants.{Done}
use Rattle.vk_files.specs.declared.entry.Entry.{Entry}
use Rattle.vk_files.specs.declared.serving.FileServing.{FileServing}

-- one answer more
stepped_more : (files : List Entry) (requests : ℕ) (coming : List Telling) (c : Course) (given : List Answer) (a : Answer)
    → stepped_all files requests coming c (given ++ a ∷ []) ≡ stepped files requests coming (stepped_all files requests coming c given) a
stepped_more files requests coming c [] a = refl
stepped_more files requests coming c (b ∷ rest) a = stepped_more files requests coming (stepped files requests coming c b) rest a

-- The server of a course is the one that its disk's tellings make.
same_behind : (files : List Entry) (requests : ℕ) (coming : List Telling) (c : Course) (behind given : List Answer)
    → answered_all files requests (λ (g : List Answer). (stepped_all files requests coming c g).told)
    (stepped_all files requests coming c behind).server behind given
    ≡ (stepped_all files requests coming c (behind ++ given)).server
same_behind files requests coming c behind [] =
    ap (λ (g : List Answer). (stepped_all files requests coming c g).server) (sym (append-nil behind))
same_behind files requests coming c behind (a ∷ rest) =
    let all = stepped_all files requests coming c in
    let telling = λ (g : List Answer). (all g).told in
    let more = stepped_more files requests coming c behind a in
    let next : answered files requests (all behind).server (telling (behind ++ a ∷ [])) a ≡ (all (behind ++ a ∷ [])).server =
    ap (λ (d : Course). answered files requests (all behind).server d.told a) more ∙ ap (λ (d : Course). d.server) (sym more) in
    ap (λ (s : Server). answered_all files requests telling s (behind ++ a ∷ []) rest) next
    ∙ same_behind files requests coming c (behind ++ a ∷ []) rest
    ∙ ap (λ (g : List Answer). (all g).server) (append_assoc behind (a ∷ []) rest)

-- what a server is to call, of which it is foretold what its disk will tell
pub called_after : (s : FileState) (given : List Answer) → IsAfter s given → stage_call s.stage ≡ file_task s.first s.requests given
called_after s given is =
    ap (λ (v : Server). stage_call v.stage) (sym is.server)
    ∙ ap (λ (v : Server). stage_call v.stage)
    (sym (same_behind (files_of s.first.blocks) s.requests is.coming (new_course s.first.blocks s.requests) [] given))
    ∙ ap (λ (o : Option (List Telling)). stage_call (answered_all (files_of s.first.blocks) s.requests
    (telling_of s.first.blocks s.requests o) (new_server s.first.blocks s.requests) [] given).stage) (sym is.foretold)

-- What the disk told is what was foretold, and so is what is left of it.
record IsAsForetold (called : Bool) (coming : List Telling) (made : ℕ) (t : Telling) (new : Option (List Telling)) : Type 0 where
  told : t ≡ cond called (told_at coming made) Done
  left : new ≡ Some (drop (cond called (made + 1) made) coming)

as_foretold : (called : Bool) (coming : List Telling) (made : ℕ) (t : Telling) (old new : DiskState)
    → old.coming ≡ Some (drop made coming) → IsCalledIf called t old new → IsAsForetold called coming made t new.coming
as_foretold true coming made t old new left is =
    let parts = subst (λ (o : Option (List Telling)). IsForetold t o new.coming) left is.foretold in
    record {
      told = parts.0 ∙ get_or-drop made coming 0 Done ∙ rw (add-zero) refl;
      left = parts.1 ∙ ap (λ (l : List Telling). Some l) (drop-drop 1 made coming);
    }
as_foretold false coming made t old new left is =
    record { told = is.0; left = ap (λ (d : DiskState). d.coming) is.1 ∙ left }

-- one step, by the parts of both states
step_parts : (first : DiskState) (requests : ℕ) (given : List Answer) (a : Answer) (t : Telling) (replies more : ℕ) (stage next : FileServing)
    (reading now : DiskAhead)
    → IsAfter (record { first = first; requests = requests; replies = replies; stage = stage; reading = reading }) given
    → Works (work_of (turn_at (files_of first.blocks) requests replies stage a)) t reading now
    → server_of (record { first = first; requests = requests; replies = more; stage = next; reading = now })
    ≡ answered (files_of first.blocks) requests
    (server_of (record { first = first; requests = requests; replies = replies; stage = stage; reading = reading })) t a
    → IsAfter (record { first = first; requests = requests; replies = more; stage = next; reading = now }) (given ++ a ∷ [])
step_parts first requests given a t replies more stage next reading now is works step =
    let files = files_of first.blocks in
    let old : FileState = record { first = first; requests = requests; replies = replies; stage = stage; reading = reading } in
    let c = course_of first.blocks requests is.coming given in
    let seen : Course = record { server = server_of old; ahead = reading.ahead; made = c.made; told = c.told } in
    let same : c ≡ seen = λ i. record { server = is.server i; ahead = is.ahead i; made = c.made; told = c.told } in
    let more_is : course_of first.blocks requests is.coming (given ++ a ∷ []) ≡ stepped files requests is.coming seen a =
    stepped_more files requests is.coming (new_course first.blocks requests) given a
    ∙ ap (λ (d : Course). stepped files requests is.coming d a) same in
    let w = work_of (turn_at files requests replies stage a) in
    let foretold = as_foretold (calls_disk reading.ahead w) is.coming c.made t reading.disk now.disk is.left works.called in
    record {
      coming = is.coming;
      foretold = is.foretold;
      left = foretold.left ∙ ap (λ (d : Course). Some (drop d.made is.coming)) (sym more_is);
      server = ap (λ (d : Course). d.server) more_is
          ∙ ap (λ (u : Telling). answered files requests (server_of old) u a) (sym foretold.told) ∙ sym step;
      ahead = ap (λ (d : Course). d.ahead) more_is
          ∙ ap (λ (u : Telling). ahead_after reading.ahead w u) (sym foretold.told) ∙ sym works.ahead;
    }

-- the same, with the disk and the requests of the new state, which are the old ones
pub after_step : (old new : FileState) (given : List Answer) (a : Answer) → IsServerStep a old new → IsAfter old given
    → IsAfter new (given ++ a ∷ [])
after_step old new given a step is =
    let made = step_parts old.first old.requests given a step.told old.replies new.replies old.stage new.stage old.reading new.reading is
    step.works step.server in
    subst (λ (s : FileState). IsAfter s (given ++ a ∷ [])) (λ i. record {
      first = sym step.first i;
      requests = sym step.requests i;
      replies = new.replies;
      stage = new.stage;
      reading = new.reading;
    }) made

pub after_none : (old new : FileState) (given : List Answer) → new ≡ old → IsAfter old given → IsAfter new (given ++ [])
after_none old new given same is =
    subst (λ (g : List Answer). IsAfter new g) (sym (append-nil given)) (subst (λ (s : FileState). IsAfter s given) (sym same) is)

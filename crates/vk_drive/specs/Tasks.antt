-- The processes of a storm, and what each of them does.
use Rattle.std.specs.Prelude.{ℕ, ◌≡◌, true, nat_lt, List, [], ◌∷◌, map, slice_index_or, refl}
use Rattle.vk_base.specs.declared.limits.TheConstants.{EVERY_STATION}
use borrow.Author.Tests.{ltb-true}
use Rattle.vk_types.specs.Types.{Pid, ProcessSpec}
use Rattle.vk_base.specs.Settings.{Settings}
use Rattle.vk_event.specs.declared.task.Task.{Task}
use Rattle.vk_event.specs.declared.task.TaskKind.TheVariants as kinds
use Rattle.vk_text.specs.Heads.{settings_of}

-- the first process of a host
abbrev pub first_process_of : (host : ℕ) → nat_lt 0 host ≡ true → nat_lt host EVERY_STATION ≡ true → Pid
first_process_of host some one = record {
  host = host;
  local = 1;
  some_host = ltb-true 0 host some;
  one_host = ltb-true host EVERY_STATION one;
  some_local = ltb-true 0 1 refl;
}

-- 1.1 serves 16 pages; it ends after more requests than any storm has
abbrev pub server : Task
server = record { pid = first_process_of 1 refl refl; kind = kinds.PageServer 16 4294967295 }

-- 2.1, 3.1 and 4.1 are its clients, for more rounds than any storm has
abbrev pub client : Pid → Task
client pid = record { pid = pid; kind = kinds.PageClient server.pid 16 4294967295 }

abbrev pub tasks : List Task
tasks = server ∷ client (first_process_of 2 refl refl) ∷ client (first_process_of 3 refl refl) ∷ client (first_process_of 4 refl refl) ∷ []

-- the task at this place, counted from 0, of the four
abbrev pub task_at : ℕ → Task
task_at place = slice_index_or tasks place server

-- each process has 1,024 bytes; times and pool are those of a schedule's text
abbrev pub specs : List ProcessSpec
specs = map (λ (t : Task). record { pid = t.pid; size = 1024 }) tasks

abbrev pub settings : Settings
settings = settings_of specs

-- What waits of one process at a pipe.
use Rattle.std.specs.Prelude.{◌≡◌, List, [], filter}
use Rattle.vk_types.specs.Types.{Pid}
use Rattle.vk_base.specs.Pids.{same_pid}
use Rattle.vk_pipe.specs.declared.waiting.Read.{Read}
use Rattle.vk_pipe.specs.declared.waiting.Write.{Write}
use Rattle.vk_pipe.specs.Pipes.{Pipe}

-- its writes, and its reads
abbrev pub writes_of : Pid → List Write → List Write
writes_of s ws = filter (λ (w : Write). same_pid w.from s) ws

abbrev pub reads_of : Pid → List Read → List Read
reads_of s rs = filter (λ (x : Read). same_pid x.from s) rs

-- nothing of it waits
pub record NoneWaits (s : Pid) (p : Pipe) : Type 0 where
  pub writes : writes_of s p.writes ≡ []
  pub reads : reads_of s p.reads ≡ []

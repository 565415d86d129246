-- How the code's server stands for the pipe.
use Rattle.std.specs.Prelude.{◌≡◌, List}
use Rattle.vk_types.specs.Types.{Answer}
use Rattle.vk_pipe.specs.declared.server.PipeServer.{PipeServer}
use Rattle.vk_pipe.specs.Pipes.{Pipe, Server, at, server_after}

abbrev pub pipe_of : PipeServer → Pipe
pipe_of s = record { bytes = s.bytes; writes = s.writes; reads = s.reads; closed = s.closed; left = s.left }

abbrev pub server_of : PipeServer → Server
server_of s = at (pipe_of s) s.stage

-- it stands as its task has it behind these answers
abbrev pub IsPipeAfter : PipeServer → List Answer → Type 0
IsPipeAfter s given = server_after s.requests given ≡ server_of s

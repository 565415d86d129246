-- The number and the text of each status, and which one is answered for what.
use Rattle.std.specs.Prelude.{ℕ, List, [], ◌++◌, codes, decimal}
use Rattle.v_trace.specs.declared.trace.TraceRefusal.{TraceRefusal}
use Rattle.v_trace.specs.declared.trace.TraceRefusal.TheVariants as traces
use Rattle.vk_io.specs.declared.whole.ReadRefusal.{ReadRefusal}
use Rattle.vk_io.specs.declared.whole.ReadRefusal.TheVariants as reads
use Rattle.vk_schedule.specs.declared.schedule.TextRefusal.{TextRefusal}
use Rattle.vk_schedule.specs.declared.schedule.TextRefusal.TheVariants as texts
use Rattle.vk_threads.specs.declared.record.RunRefusal.{RunRefusal}
use Rattle.vk_threads.specs.declared.record.RunRefusal.TheVariants as runs
use Rattle.vk_udp.specs.declared.record.NodeRefusal.{NodeRefusal}
use Rattle.vk_udp.specs.declared.record.NodeRefusal.TheVariants as nodes
use Rattle.vk_top.specs.declared.status.Status.{Status}
use Rattle.vk_top.specs.declared.status.Status.TheVariants as status

abbrev pub number_of : Status → ℕ
number_of status.Done = 0
number_of (status.NotARun step) = 1
number_of status.Usage = 2
number_of (status.BadInput line) = 3
number_of status.ReadFault = 4
number_of status.WriteFault = 5
number_of status.NoMemory = 6
number_of status.CrewFault = 7
number_of status.Limit = 8
number_of status.LinkFault = 9
number_of (status.Stray host event) = 10
number_of status.Waiting = 11

abbrev pub text_of : Status → List ℕ
text_of status.Done = []
text_of (status.NotARun step) = codes "vkernel: step " ++ decimal step ++ codes " is not allowed"
text_of status.Usage = codes "vkernel: usage: vkernel replay [--trace] | check | run | storm N | node H | join"
text_of (status.BadInput line) = codes "vkernel: line " ++ decimal line ++ codes " is not valid"
text_of status.ReadFault = codes "vkernel: reading failed"
text_of status.WriteFault = codes "vkernel: writing failed"
text_of status.NoMemory = codes "vkernel: out of memory"
text_of status.CrewFault = codes "vkernel: the crew failed"
text_of status.Limit = codes "vkernel: limit reached"
text_of status.LinkFault = codes "vkernel: the link failed"
text_of (status.Stray host event) = codes "vkernel: station " ++ decimal host ++ codes " took a stray frame at event " ++ decimal event
text_of status.Waiting = codes "vkernel: processes wait and nothing is on its way"

-- the answer to an input that is not read whole
abbrev pub unread : ReadRefusal → Status
unread reads.Failed = status.ReadFault
unread reads.TooLong = status.Limit
unread reads.NoMemory = status.NoMemory

-- the answer to a text that is not read; only code can want memory
abbrev pub refused : TextRefusal → Status
refused (texts.BadInput line) = status.BadInput line
refused texts.Limit = status.Limit
refused texts.NoMemory = status.NoMemory

-- and to a trace that is not
abbrev pub refused_trace : TraceRefusal → Status
refused_trace (traces.BadInput line) = status.BadInput line
refused_trace traces.NoMemory = status.NoMemory

-- the answer where a run came to no end
abbrev pub refused_run : RunRefusal → Status
refused_run runs.CrewFault = status.CrewFault
refused_run runs.NoMemory = status.NoMemory

-- and where that of a node did
abbrev pub refused_node : NodeRefusal → Status
refused_node nodes.LinkFault = status.LinkFault
refused_node nodes.CrewFault = status.CrewFault
refused_node nodes.NoMemory = status.NoMemory

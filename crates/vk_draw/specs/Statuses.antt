-- The number and the text of each status, and which one is answered for what.
use Rattle.std.specs.Prelude.{ℕ, List, [], ◌++◌, codes, decimal}
use Rattle.vk_cluster.specs.declared.report.ClusterRefusal.{ClusterRefusal}
use Rattle.vk_cluster.specs.declared.report.ClusterRefusal.TheVariants as clusters
use Rattle.vk_io.specs.declared.whole.ReadRefusal.{ReadRefusal}
use Rattle.vk_io.specs.declared.whole.ReadRefusal.TheVariants as reads
use Rattle.vk_schedule.specs.declared.schedule.TextRefusal.{TextRefusal}
use Rattle.vk_schedule.specs.declared.schedule.TextRefusal.TheVariants as schedules
use Rattle.vk_draw.specs.declared.status.Status.{Status}
use Rattle.vk_draw.specs.declared.status.Status.TheVariants as status
use Rattle.vk_draw.specs.declared.words.Drawing.{Drawing}
use Rattle.vk_draw.specs.declared.words.Drawing.TheVariants as asked

abbrev pub number_of : Status → ℕ
number_of status.Done = 0
number_of status.Usage = 2
number_of (status.BadInput line) = 3
number_of status.ReadFault = 4
number_of status.WriteFault = 5
number_of status.NoMemory = 6
number_of status.Limit = 8
number_of status.TooManyEvents = 9
number_of status.TooMuchText = 10
number_of status.NotPlain = 11

abbrev pub text_of : Status → List ℕ
text_of status.Done = []
text_of status.Usage = codes "vkdraw: usage: vkdraw [--page]"
text_of (status.BadInput line) = codes "vkdraw: line " ++ decimal line ++ codes " is not valid"
text_of status.ReadFault = codes "vkdraw: reading failed"
text_of status.WriteFault = codes "vkdraw: writing failed"
text_of status.NoMemory = codes "vkdraw: out of memory"
text_of status.Limit = codes "vkdraw: limit reached"
text_of status.TooManyEvents = codes "vkdraw: more than 500 events; vkdraw --page makes a page of them"
text_of status.TooMuchText = codes "vkdraw: more than 67108864 bytes of text"
text_of status.NotPlain = codes "vkdraw: a text cannot stand in a page"

-- the answer to an input that is not read whole
abbrev pub unread : ReadRefusal → Status
unread reads.Failed = status.ReadFault
unread reads.TooLong = status.Limit
unread reads.NoMemory = status.NoMemory

-- the answer to too many events in a text
abbrev pub many_for : Drawing → Status
many_for asked.Picture = status.TooManyEvents
many_for asked.Page = status.Limit

-- the answer to a text that is not read; only code can want memory
abbrev pub refused : Drawing → TextRefusal → Status
refused a (schedules.BadInput line) = status.BadInput line
refused a schedules.Limit = many_for a
refused a schedules.NoMemory = status.NoMemory

-- the answer where an event is refused
abbrev pub refused_event : ClusterRefusal → Status
refused_event clusters.Limit = status.Limit
refused_event clusters.NoMemory = status.NoMemory

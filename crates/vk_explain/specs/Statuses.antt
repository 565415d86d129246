-- The number and the text of each status.
use Rattle.std.specs.Prelude.{ℕ, List, [], codes}
use Rattle.vk_explain.specs.declared.status.Status.{Status}
use Rattle.vk_explain.specs.declared.status.Status.TheVariants as status

abbrev pub number_of : Status → ℕ
number_of status.Right = 0
number_of status.Wrong = 1
number_of status.Usage = 2
number_of status.ReadFault = 4
number_of status.WriteFault = 5
number_of status.NoMemory = 6
number_of status.Limit = 8

abbrev pub text_of : Status → List ℕ
text_of status.Right = []
text_of status.Wrong = []
text_of status.Usage = codes "vkexplain: usage: vkexplain [--answers | --help | --version]"
text_of status.ReadFault = codes "vkexplain: reading failed"
text_of status.WriteFault = codes "vkexplain: writing failed"
text_of status.NoMemory = codes "vkexplain: out of memory"
text_of status.Limit = codes "vkexplain: limit reached"

-- Which call it is: a reply with this code, or a receive.
use Rattle.std.proofs.Common.{◌≡◌, ℕ, ◌==◌, Bool, true, false, Option, Some, ap, ◌∙◌}
use Rattle.std.proofs.lemmas.Bool.{both_ways, eq-eqb}
use Rattle.vk_types.specs.Types.{Call, Message, Pid}
use Rattle.vk_base.specs.declared.call.Call.TheVariants as calls
use Rattle.vk_pipe.specs.Requests.{code_of}

abbrev pub is_reply : ℕ → Option Call → Bool
is_reply code (Some (calls.Reply m to)) = code_of m == code
is_reply code c = false

abbrev pub is_receive : Option Call → Bool
is_receive (Some (calls.ReceiveSegment start count)) = true
is_receive c = false

pub replied : (c : Option Call) (m : Message) (to : Pid) (code : ℕ) → c ≡ Some (calls.Reply m to) → code_of m ≡ code
    → is_reply code c ≡ true
replied c m to code is coded = ap (is_reply code) is ∙ eq-eqb (code_of m) code coded

pub not_replied : (c : Option Call) (m : Message) (to : Pid) (code : ℕ) → is_reply code c ≡ false → c ≡ Some (calls.Reply m to)
    → code_of m ≡ code → ⊥
not_replied c m to code other is coded = both_ways (is_reply code c) other (replied c m to code is coded)

pub received : (c : Option Call) (start count : ℕ) → c ≡ Some (calls.ReceiveSegment start count) → is_receive c ≡ true
received c start count is = ap is_receive is

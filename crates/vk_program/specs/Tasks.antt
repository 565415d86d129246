-- Tasks: what is called next after the answers so far.
use Rattle.std.specs.Prelude.{◌≡◌, min, List, [], ◌∷◌, length, slice_get, Option, Some, None}
use Rattle.vk_types.specs.Types.{Answer, Call}
use Rattle.vk_program.specs.declared.script.Script.{Script}

-- the answers that come with a request for the next call
abbrev pub told_by : Option Answer → List Answer
told_by None = []
told_by (Some a) = a ∷ []

-- a script makes its calls one after the other, whatever the answers are
abbrev pub script_call : List Call → List Answer → Option Call
script_call calls answers = slice_get calls (length answers)

-- so many of the script's calls were answered, or all
abbrev pub IsScriptAfter : Script → List Answer → Type 0
IsScriptAfter s answers = s.at ≡ min (length answers) (length s.calls)

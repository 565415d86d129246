-- What the program's words ask for. They are read by clap, whose own definitions say what one command makes of its words: `fault_of` lists
-- the kinds of error with which it refuses them, `matches_of` has what it found of each argument.
use Rattle.std.specs.Prelude.{Bool, true, false, List, codes, bytes_eq, Option, Some, None, if◌then◌else◌}
use Rattle.std.specs.Option.{option_map_or}
use Rattle.clap.specs.Faults.{fault_of}
use Rattle.clap.specs.Simple.{App, Shape, matches_of, new_app, new_rule, on_top, with_rule}
use Rattle.clap.specs.Walk.{Row, Rule, Text, first_of, is_empty}
use Rattle.clap.specs.declared.builder.action.ArgAction.TheVariants.{SetTrue}
use Rattle.vk_draw.specs.declared.words.Drawing.{Drawing}
use Rattle.vk_draw.specs.declared.words.Drawing.TheVariants as asked

-- the flag `--page`
abbrev pub page : Rule
page = record (new_rule (codes "page")) { long = Some (codes "page"); action = Some SetTrue }

-- the program's own name is not among the words, and clap adds no flag for help or the version
abbrev pub with_settings : Shape → Shape
with_settings s = record s { no_binary_name = true; disable_help_flag = true; disable_version_flag = true }

-- the command as clap is told of it
abbrev pub the_app : App
the_app = with_rule (on_top with_settings (new_app (codes "vkdraw"))) page

-- the value of a flag is `true` where it was given, else `false`
abbrev pub is_set : Option Text → Bool
is_set value = option_map_or (λ t. bytes_eq t (codes "true")) value false

-- what is asked for by what clap found
abbrev pub asked_by : List Row → Drawing
asked_by rows = if is_set (first_of (codes "page") rows) then asked.Page else asked.Picture

-- what the words ask for: nothing exactly where clap refuses them
abbrev pub asked_of : List Text → Option Drawing
asked_of words = if is_empty (fault_of the_app words) then Some (asked_by (matches_of the_app words)) else None

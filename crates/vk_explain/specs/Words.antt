-- What the program's words ask for. They are read by clap, whose own definitions say what one command makes of its words: `fault_of` lists
-- the kinds of error with which it refuses them, `matches_of` has what it found of each argument.
use Rattle.std.specs.Prelude.{Bool, true, false, List, codes, bytes_eq, Option, Some, None, if◌then◌else◌}
use Rattle.std.specs.Option.{option_map_or}
use Rattle.clap.specs.Faults.{fault_of}
use Rattle.clap.specs.Simple.{App, Shape, matches_of, new_app, new_rule, on_top, with_rule}
use Rattle.clap.specs.Walk.{Row, Rule, Text, first_of, is_empty}
use Rattle.clap.specs.declared.builder.action.ArgAction.TheVariants.{SetTrue}
use Rattle.vk_explain.specs.declared.words.Asked.TheVariants as asks
use Rattle.vk_explain.specs.declared.words.Invocation.{Invocation}
use Rattle.vk_explain.specs.declared.words.Invocation.TheVariants as jobs
use Rattle.vk_explain.specs.declared.words.Page.TheVariants as pages

-- the flags
abbrev pub answers : Rule
answers = record (new_rule (codes "answers")) { long = Some (codes "answers"); action = Some SetTrue }

abbrev pub help : Rule
help = record (new_rule (codes "help")) { long = Some (codes "help"); action = Some SetTrue }

abbrev pub version : Rule
version = record (new_rule (codes "version")) { long = Some (codes "version"); action = Some SetTrue }

-- the program's own name is not among the words, and clap adds no flag for help or the version
abbrev pub with_settings : Shape → Shape
with_settings s = record s { no_binary_name = true; disable_help_flag = true; disable_version_flag = true }

-- the command as clap is told of it
abbrev pub the_app : App
the_app = with_rule (with_rule (with_rule (on_top with_settings (new_app (codes "vkexplain"))) answers) help) version

-- the value of a flag is `true` where it was given, else `false`
abbrev pub is_set : Option Text → Bool
is_set value = option_map_or (λ t. bytes_eq t (codes "true")) value false

-- the table: what these flags ask for, of which at most one is given
abbrev pub asked_for : (answers help version : Bool) → Option Invocation
asked_for false false false = Some (jobs.Explain asks.Verdict)
asked_for true false false = Some (jobs.Explain asks.Answers)
asked_for false true false = Some (jobs.Tell pages.Help)
asked_for false false true = Some (jobs.Tell pages.Version)
asked_for a h v = None

-- what is asked for by what clap found
abbrev pub asked_by : List Row → Option Invocation
asked_by rows =
    asked_for (is_set (first_of (codes "answers") rows)) (is_set (first_of (codes "help") rows)) (is_set (first_of (codes "version") rows))

-- what the words ask for: nothing exactly where clap refuses them, or they are no row of the table
abbrev pub asked_of : List Text → Option Invocation
asked_of words = if is_empty (fault_of the_app words) then asked_by (matches_of the_app words) else None

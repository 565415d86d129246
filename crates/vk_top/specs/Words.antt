-- What the program's words ask for. They are read by clap, whose own definitions say what one command makes of its words:
-- `fault_of` lists the kinds of error with which it refuses them, of which memory is none, and is empty where it takes them;
-- `matches_of` has what it found of each argument, and `first_of` is the first value of an argument there.
use Rattle.std.specs.Prelude.{◌≤◌, Bool, true, false, ◌&&◌, not, List, codes, bytes_eq, Option, Some, None, option_map, IfSome, if◌then◌else◌}
use Rattle.std.specs.Option.{option_map_or}
use Rattle.clap.specs.Faults.{fault_of}
use Rattle.clap.specs.Simple.{App, Shape, matches_of, new_app, new_rule, on_top, with_rule}
use Rattle.clap.specs.Walk.{Row, Rule, Text, first_of, is_empty}
use Rattle.clap.specs.declared.builder.action.ArgAction.TheVariants.{SetTrue}
use Rattle.vk_base.specs.declared.limits.TheConstants.{EVENTS}
use Rattle.vk_text.specs.Words.{number_of, station_of}
use Rattle.vk_top.specs.declared.words.TextCommand.TheVariants as asked
use Rattle.vk_top.specs.declared.words.Invocation.{Invocation}
use Rattle.vk_top.specs.declared.words.Invocation.TheVariants as jobs
use Rattle.vk_report.specs.declared.entry.Form.TheVariants as forms

-- the flag `--trace`, and the words that are no flag: a command, which has to be there, and a number
abbrev pub trace : Rule
trace = record (new_rule (codes "trace")) { long = Some (codes "trace"); action = Some SetTrue }

abbrev pub command : Rule
command = record (new_rule (codes "command")) { required = true }

abbrev pub number : Rule
number = new_rule (codes "number")

-- the program's own name is not among the words, and clap adds no flag for help or the version
abbrev pub with_settings : Shape → Shape
with_settings s = record s { no_binary_name = true; disable_help_flag = true; disable_version_flag = true }

-- the command as clap is told of it
abbrev pub the_app : App
the_app = with_rule (with_rule (with_rule (on_top with_settings (new_app (codes "vkernel"))) trace) command) number

-- a storm, where the word spells a number from 0 to 100,000
abbrev pub storm_of : Text → Option Invocation
storm_of word = option_map jobs.Storm (number_of EVENTS word)

-- a node, where the word spells a station, from 1 to 65,534
abbrev pub node_of : Text → Option Invocation
node_of word = option_map jobs.Node (station_of word)

-- the table: what a command asks for, with or without `--trace`; a storm and a node, and nothing else, go with a number
abbrev pub job_for : Option Text → Bool → Option Text → Option Invocation
job_for (Some word) has_trace None =
    if bytes_eq word (codes "replay") then Some (jobs.OfText (asked.Replay (if has_trace then forms.Trace else forms.Report)))
    else if bytes_eq word (codes "check") && not has_trace then Some (jobs.OfText asked.Check)
    else if bytes_eq word (codes "join") && not has_trace then Some (jobs.OfText asked.Join)
    else if bytes_eq word (codes "run") && not has_trace then Some jobs.Run
    else None
job_for (Some word) has_trace (Some n) =
    if bytes_eq word (codes "storm") && not has_trace then storm_of n
    else if bytes_eq word (codes "node") && not has_trace then node_of n
    else None
job_for None has_trace n = None

-- the value of a flag is `true` where it was given, else `false`
abbrev pub is_set : Option Text → Bool
is_set value = option_map_or (λ t. bytes_eq t (codes "true")) value false

-- what is asked for by what clap found
abbrev pub job_by : List Row → Option Invocation
job_by rows = job_for (first_of (codes "command") rows) (is_set (first_of (codes "trace") rows)) (first_of (codes "number") rows)

-- what the words ask for: nothing exactly where clap refuses them, or they are no row of the table
abbrev pub job_of : List Text → Option Invocation
job_of words = if is_empty (fault_of the_app words) then job_by (matches_of the_app words) else None

-- a storm has at most 100,000 events
abbrev pub IsFew : Invocation → Type 0
IsFew (jobs.OfText a) = Unit {0}
IsFew jobs.Run = Unit {0}
IsFew (jobs.Node host) = Unit {0}
IsFew (jobs.Storm n) = n ≤ EVENTS

abbrev pub AreFewIn : Option Invocation → Type 0
AreFewIn o = IfSome o IsFew

-- what the words ask for is done in threads
abbrev pub is_threaded : Option Invocation → Bool
is_threaded None = false
is_threaded (Some (jobs.OfText a)) = false
is_threaded (Some jobs.Run) = true
is_threaded (Some (jobs.Node host)) = true
is_threaded (Some (jobs.Storm n)) = false

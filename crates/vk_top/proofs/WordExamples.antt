-- The definition of what words ask for, tried.
use Rattle.std.proofs.Common.{◌≡◌, true, [], ◌∷◌, Some, None, codes, refl}
use Rattle.clap.proofs.OnLiterals.{clap_on_literals}
use Rattle.clap.specs.Faults.{is_simple_and_free}
use Rattle.vk_top.specs.declared.words.TextCommand.TheVariants as asked
use Rattle.vk_top.specs.declared.words.Invocation.TheVariants as jobs
use Rattle.vk_report.specs.declared.entry.Form.TheVariants as forms
use Rattle.vk_text.specs.Words.{number_of, positive_of}
use Rattle.vk_top.specs.Words.{the_app, job_of}

-- the command is one of those of which clap's definitions speak
simple : is_simple_and_free the_app ≡ true
unfolding clap_on_literals
simple = refl

replay : job_of (codes "replay" ∷ []) ≡ Some (jobs.OfText (asked.Replay forms.Report))
unfolding clap_on_literals
replay = refl

check : job_of (codes "check" ∷ []) ≡ Some (jobs.OfText asked.Check)
unfolding clap_on_literals
check = refl

trace-after : job_of (codes "replay" ∷ codes "--trace" ∷ []) ≡ Some (jobs.OfText (asked.Replay forms.Trace))
unfolding clap_on_literals
trace-after = refl

trace-before : job_of (codes "--trace" ∷ codes "replay" ∷ []) ≡ Some (jobs.OfText (asked.Replay forms.Trace))
unfolding clap_on_literals
trace-before = refl

trace-then_ended : job_of (codes "--trace" ∷ codes "--" ∷ codes "replay" ∷ []) ≡ Some (jobs.OfText (asked.Replay forms.Trace))
unfolding clap_on_literals
trace-then_ended = refl

ended_before : job_of (codes "--" ∷ codes "replay" ∷ []) ≡ Some (jobs.OfText (asked.Replay forms.Report))
unfolding clap_on_literals
ended_before = refl

ended_after : job_of (codes "replay" ∷ codes "--" ∷ []) ≡ Some (jobs.OfText (asked.Replay forms.Report))
unfolding clap_on_literals
ended_after = refl

ended-then_trace : job_of (codes "replay" ∷ codes "--" ∷ codes "--trace" ∷ []) ≡ None
unfolding clap_on_literals
ended-then_trace = refl

nothing : job_of [] ≡ None
unfolding clap_on_literals
nothing = refl

trace-alone : job_of (codes "--trace" ∷ []) ≡ None
unfolding clap_on_literals
trace-alone = refl

ended-alone : job_of (codes "--" ∷ []) ≡ None
unfolding clap_on_literals
ended-alone = refl

ended-twice : job_of (codes "replay" ∷ codes "--" ∷ codes "--" ∷ []) ≡ None
unfolding clap_on_literals
ended-twice = refl

trace-twice : job_of (codes "replay" ∷ codes "--trace" ∷ codes "--trace" ∷ []) ≡ None
unfolding clap_on_literals
trace-twice = refl

trace-in_part : job_of (codes "--tra" ∷ codes "replay" ∷ []) ≡ None
unfolding clap_on_literals
trace-in_part = refl

trace-valued : job_of (codes "--trace=1" ∷ codes "replay" ∷ []) ≡ None
unfolding clap_on_literals
trace-valued = refl

replay-number : job_of (codes "replay" ∷ codes "5" ∷ []) ≡ None
unfolding clap_on_literals
replay-number = refl

replay-three : job_of (codes "replay" ∷ codes "5" ∷ codes "6" ∷ []) ≡ None
unfolding clap_on_literals
replay-three = refl

check-trace : job_of (codes "check" ∷ codes "--trace" ∷ []) ≡ None
unfolding clap_on_literals
check-trace = refl

check-trace_before : job_of (codes "--trace" ∷ codes "check" ∷ []) ≡ None
unfolding clap_on_literals
check-trace_before = refl

check-number : job_of (codes "check" ∷ codes "1" ∷ []) ≡ None
unfolding clap_on_literals
check-number = refl

hyphen : job_of (codes "-" ∷ []) ≡ None
unfolding clap_on_literals
hyphen = refl

replay-hyphen : job_of (codes "replay" ∷ codes "-" ∷ []) ≡ None
unfolding clap_on_literals
replay-hyphen = refl

short : job_of (codes "-t" ∷ codes "replay" ∷ []) ≡ None
unfolding clap_on_literals
short = refl

negative : job_of (codes "storm" ∷ codes "-1" ∷ []) ≡ None
unfolding clap_on_literals
negative = refl

help-flag : job_of (codes "--help" ∷ []) ≡ None
unfolding clap_on_literals
help-flag = refl

help-short : job_of (codes "-h" ∷ []) ≡ None
unfolding clap_on_literals
help-short = refl

help-word : job_of (codes "help" ∷ []) ≡ None
unfolding clap_on_literals
help-word = refl

version-flag : job_of (codes "--version" ∷ []) ≡ None
unfolding clap_on_literals
version-flag = refl

version-short : job_of (codes "-V" ∷ []) ≡ None
unfolding clap_on_literals
version-short = refl

run : job_of (codes "run" ∷ []) ≡ Some jobs.Run
unfolding clap_on_literals
run = refl

run-ended_before : job_of (codes "--" ∷ codes "run" ∷ []) ≡ Some jobs.Run
unfolding clap_on_literals
run-ended_before = refl

run-ended_after : job_of (codes "run" ∷ codes "--" ∷ []) ≡ Some jobs.Run
unfolding clap_on_literals
run-ended_after = refl

run-trace : job_of (codes "run" ∷ codes "--trace" ∷ []) ≡ None
unfolding clap_on_literals
run-trace = refl

run-number : job_of (codes "run" ∷ codes "5" ∷ []) ≡ None
unfolding clap_on_literals
run-number = refl

run-twice : job_of (codes "run" ∷ codes "run" ∷ []) ≡ None
unfolding clap_on_literals
run-twice = refl

join : job_of (codes "join" ∷ []) ≡ Some (jobs.OfText asked.Join)
unfolding clap_on_literals
join = refl

join-trace : job_of (codes "join" ∷ codes "--trace" ∷ []) ≡ None
unfolding clap_on_literals
join-trace = refl

join-number : job_of (codes "join" ∷ codes "1" ∷ []) ≡ None
unfolding clap_on_literals
join-number = refl

storm : job_of (codes "storm" ∷ []) ≡ None
unfolding clap_on_literals
storm = refl

storm-number : job_of (codes "storm" ∷ codes "1" ∷ []) ≡ Some (jobs.Storm 1)
unfolding clap_on_literals number_of
storm-number = refl

storm-most : job_of (codes "storm" ∷ codes "100000" ∷ []) ≡ Some (jobs.Storm 100000)
unfolding clap_on_literals number_of
storm-most = refl

storm-too_many : job_of (codes "storm" ∷ codes "100001" ∷ []) ≡ None
unfolding clap_on_literals number_of
storm-too_many = refl

storm-leading_zero : job_of (codes "storm" ∷ codes "01" ∷ []) ≡ None
unfolding clap_on_literals number_of
storm-leading_zero = refl

storm-trace : job_of (codes "storm" ∷ codes "1" ∷ codes "--trace" ∷ []) ≡ None
unfolding clap_on_literals number_of
storm-trace = refl

storm-three : job_of (codes "storm" ∷ codes "1" ∷ codes "2" ∷ []) ≡ None
unfolding clap_on_literals
storm-three = refl

empty : job_of (codes "" ∷ []) ≡ None
unfolding clap_on_literals
empty = refl

replay-empty : job_of (codes "replay" ∷ codes "" ∷ []) ≡ None
unfolding clap_on_literals
replay-empty = refl

capital : job_of (codes "Replay" ∷ []) ≡ None
unfolding clap_on_literals
capital = refl

replay-space : job_of (codes "replay " ∷ []) ≡ None
unfolding clap_on_literals
replay-space = refl

node : job_of (codes "node" ∷ []) ≡ None
unfolding clap_on_literals
node = refl

node-first : job_of (codes "node" ∷ codes "1" ∷ []) ≡ Some (jobs.Node 1)
unfolding clap_on_literals number_of positive_of
node-first = refl

node-last : job_of (codes "node" ∷ codes "65534" ∷ []) ≡ Some (jobs.Node 65534)
unfolding clap_on_literals number_of positive_of
node-last = refl

node-of_all : job_of (codes "node" ∷ codes "65535" ∷ []) ≡ None
unfolding clap_on_literals number_of positive_of
node-of_all = refl

node-zero : job_of (codes "node" ∷ codes "0" ∷ []) ≡ None
unfolding clap_on_literals number_of positive_of
node-zero = refl

node-leading_zero : job_of (codes "node" ∷ codes "01" ∷ []) ≡ None
unfolding clap_on_literals number_of positive_of
node-leading_zero = refl

node-trace : job_of (codes "node" ∷ codes "1" ∷ codes "--trace" ∷ []) ≡ None
unfolding clap_on_literals number_of positive_of
node-trace = refl

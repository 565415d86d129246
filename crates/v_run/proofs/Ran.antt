-- Closed runs are joined, and what they are joined to is a run.
use Rattle.std.proofs.Common.{◌≡◌, ℕ, ◌-◌, ◌≤◌, true, List, length, sym, ◌∙◌, subst, arith}
use Rattle.vk_types.specs.Types.{StationEvent}
use Rattle.vk_base.specs.declared.limits.TheConstants.{EVENTS}
use Rattle.vk_base.specs.Settings.{Settings, has_station}
use Rattle.vk_cluster.specs.Standing.{logs_of}
use Rattle.vk_schedule.specs.declared.schedule.Schedule.{Schedule}
use Rattle.vk_frame.specs.Law.{FramesAreSpelledOnce}
use Rattle.vk_join.proofs.Given.{IsSound, sound_at}
use Rattle.vk_schedule.specs.declared.log.StationLog.{StationLog}
use Rattle.vk_join.specs.Joined.{IsJoined}
use Rattle.vk_join.specs.Laws.{AreGiven, BytesAreOfStations, OutputsAreJoined}
use Rattle.vk_join.specs.Logs.{bytes_in, event_count}
use Rattle.vk_join.specs.Logs as joined
use Rattle.vk_packet.specs.Laws.{NothingElseIsRead}
use Rattle.vk_port.specs.declared.station.TheConstants.{EVENT_BYTES}
use Rattle.vk_port.specs.Stations.{is_own, share_of_bytes}
use Rattle.vk_rules.specs.Each.{Each}
use Rattle.vk_rules.specs.Entries.{Entry}
use Rattle.vk_rules.specs.Laws.{AllRise, FramesUnsealAgain, last_number}
use Rattle.v_ended.specs.Answered.{AnsweredWorksEndByFrames}
use Rattle.v_run.specs.Laws.{AreLogsOf, ClosedRunsAreJoined, JoinedRunsAreRuns, closed_station}
use Rattle.v_run.specs.Outcomes.{IsOutcome}
use Rattle.v_run.specs.Passages.{fresh_station}
use Rattle.v_run.specs.Runs.{logs_in, passages_of, tasks_of}
use Rattle.v_whole.proofs.Distinct.{lawful_distinct}
use Rattle.v_run.proofs.Answered.{all_answered}
use Rattle.v_run.proofs.Few.{all_low, schedule_few}
use Rattle.v_run.proofs.Logged.{entries_are, few_events}
use Rattle.v_run.proofs.Outputs.{are_joined, are_open}
use Rattle.v_run.proofs.Room.{HadBytes, had_bytes, low}
use Rattle.v_run.proofs.Sound.{AreOpen, AreSound}
use Rattle.v_run.proofs.Whole.{come_to}

module _ (frames : FramesAreSpelledOnce) (packets : NothingElseIsRead) (c : Settings) (histories : ℕ → List (ℕ × StationEvent))
    (logs : List StationLog) (are : AreLogsOf c histories logs) (given : AreGiven c logs) where
  abbrev count_is : event_count logs ≤ EVENTS
  count_is = few_events c histories logs are given.lawful

  sound : (q : ℕ) → IsSound q (joined.entries_at c logs q)
  sound q = sound_at frames packets c logs q given (let few = count_is in omega arith)

  -- the entries of a schedule that they are joined to
  module _ (unseal : FramesUnsealAgain) (s : Schedule) (j : IsJoined c logs s) where
    same_at : (h : ℕ) → logs_of c s.events h ≡ logs_in c histories h
    same_at h = j.entries h ∙ entries_are c histories logs are h

    same : logs_of c s.events ≡ logs_in c histories
    same = λ i h. same_at h i

    rise_at : (h : ℕ) → AllRise h (logs_in c histories h)
    rise_at h = subst (AllRise h) (entries_are c histories logs are h) (sound h).rise

    few_at : length s.events ≤ EVENTS
    few_at = let few = count_is in let count = j.count in omega arith

    low_number : (h : ℕ) → last_number (logs_in c histories h) ≤ length s.events
    low_number h = subst (λ (es : List Entry). last_number es ≤ length s.events) (same_at h) (schedule_few c s.events h).last

    all_sound : AreSound c (logs_in c histories)
    all_sound = record {
      rise = λ h there. rise_at h;
      opens = λ h there. subst AreOpen (entries_are c histories logs are h) (are_open unseal (joined.entries_at c logs h) (sound h).lawful);
      low = λ h there. all_low h (logs_in c histories h) (length s.events) (rise_at h) (low_number h) (let few = few_at in omega arith);
    }

    own : (h : ℕ) → has_station c.specs h ≡ true → Each (λ (x : ℕ × StationEvent). is_own (fresh_station c h) x.1 ≡ true) (histories h)
    own h there = (are.lawful h there).own

    few_bytes_at : (h : ℕ) → has_station c.specs h ≡ true → bytes_in (logs_of c s.events h) ≤ share_of_bytes c
    few_bytes_at h there = subst (λ (es : List Entry). bytes_in es ≤ share_of_bytes c) (sym (same_at h)) (are.lawful h there).bytes

    had_at : (h : ℕ) → has_station c.specs h ≡ true → HadBytes (share_of_bytes c - EVENT_BYTES) (logs_of c s.events h)
    had_at h there =
        subst (HadBytes (share_of_bytes c - EVENT_BYTES)) (sym (same_at h))
        (had_bytes (closed_station c h (histories h)) (histories h) (are.lawful h there).had_room)

pub closed_runs_are_joined : FramesUnsealAgain → FramesAreSpelledOnce → NothingElseIsRead → OutputsAreJoined → ClosedRunsAreJoined
closed_runs_are_joined unseal frames packets outputs c o histories heard js logs k are given =
    are_joined unseal c o histories heard (passages_of js) k logs are (sound frames packets c histories logs are given) outputs given

pub joined_runs_are_runs : FramesUnsealAgain → FramesAreSpelledOnce → NothingElseIsRead → BytesAreOfStations → AnsweredWorksEndByFrames →
    JoinedRunsAreRuns
joined_runs_are_runs unseal frames packets bytes works c o rounds histories heard js logs s end k jobs are given j may =
    let outcome : IsOutcome c o.plan rounds (tasks_of (passages_of js)) end (logs_of c s.events) =
    subst (IsOutcome c o.plan rounds (tasks_of (passages_of js)) end) (sym (same frames packets c histories logs are given
    unseal s j))
    (come_to c o rounds histories heard js k jobs (all_sound frames packets c histories logs are given unseal s j)
    (own frames packets c histories logs are given unseal s j) works end may) in
    record {
      config = j.config;
      there = j.there;
      rising = j.rising;
      answered = all_answered c s.events (lawful_distinct c.specs given.lawful.processes) j.actors outcome.collected;
      run = j.run;
      outcome = outcome;
      few = few_at frames packets c histories logs are given unseal s j;
      low =
          low bytes c given.lawful s.events j.actors j.there (few_bytes_at frames packets c histories logs are given unseal s j)
          (had_at frames packets c histories logs are given unseal s j);
      actors = j.actors;
      ranges = j.ranges;
    }

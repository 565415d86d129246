-- The events of a schedule, played one after another.
use Rattle.std.proofs.Common.{◌≡◌, ℕ, ◌+◌, ◌*◌, ◌<◌, ◌≤◌, Bool, true, false, nat_le, nat_lt, ◌||◌, List, [], ◌++◌, get_or, length, take, refl, sym, ap, subst, ◌∙◌, arith}
use Rattle.std.proofs.lemmas.Bool.{leb-true, or_parts}
use Rattle.std.proofs.lemmas.List.{append-nil, length-take-le}
use Rattle.vk_base.specs.declared.limits.TheConstants.{EVENTS, STEPS, TICK_PACKETS}
use Rattle.vk_cluster.specs.declared.emitted.TheConstants.{LAST_BYTES}
use Rattle.vk_cluster.specs.Standing.{StandsFor, emitted_bytes, logs_of}
use Rattle.vk_cluster.specs.Values.{ClusterValue, is_full}
use Rattle.vk_schedule.specs.declared.event.Event.{Event}
use Rattle.vk_schedule.specs.declared.schedule.Schedule.{Schedule}
use Rattle.vk_report.specs.declared.entry.Counts.{Counts}
use Rattle.vk_report.specs.declared.entry.Form.{Form}
use Rattle.vk_report.specs.Histories.{told_lines}
use Rattle.vk_report.specs.Report.{end_lines, opening_lines}
use Rattle.vk_rules.specs.Histories.{happened}
unfoldable use Rattle.vk_rules.specs.Histories.{history}
use Rattle.vk_rules.proofs.OneHistory.{histories_have_all}
use Rattle.vk_top.proofs.Fronts.{counts_next, cut_is, cut_text, front_next, none_taken, taken_more, takes_all, takes_next, takes_no_more, whole_is, whole_text}
use Rattle.vk_top.specs.Playing.{AreFew, HasPlayed, IsHad, counts_after}
use Rattle.vk_top.specs.Report.{counts_of, history_before, is_cut, taken_of, told_of, written_text}

-- before the first event
pub played_none : (form : Form) (s : Schedule) (k : ClusterValue) (text : List ℕ) → StandsFor s.config [] k →
    text ≡ opening_lines form s.config.specs → HasPlayed form s 0 k (record { events = 0; steps = 0; frames = 0 }) text
unfolding history
played_none form s k text stands opening = record {
  stands = stands;
  lines = opening ∙ sym (append-nil (opening_lines form s.config.specs));
  counted = refl;
  steps = omega arith;
  frames = omega arith;
  taken = none_taken s;
}

-- the test of a cluster that stands for the first so many
room_by : (a b : Bool) → (a || b) ≡ false → b ≡ false
room_by a b is = (or_parts a b is).1

pub full_by : (a b : Bool) → ¬ (a ≡ true) → (a || b) ≡ true → b ≡ true
full_by true b not is = absurd (not refl)
full_by false b not is = is

module _ (form : Form) (s : Schedule) (n : ℕ) (k : ClusterValue) (counts : Counts) (text : List ℕ)
    (played : HasPlayed form s n k counts text) where
  bytes_are : nat_lt LAST_BYTES (length k.pile.bytes) ≡ nat_lt LAST_BYTES (emitted_bytes (history_before n s))
  bytes_are = ap (nat_lt LAST_BYTES) played.stands.bytes

  module _ (e : Event) (low : n < length s.events) (is : e ≡ get_or s.events n e) where
    so_many : length (take n s.events) ≡ n
    so_many = length-take-le n s.events (omega (arith, low))

    pub so_many_counted : counts.events ≡ n
    so_many_counted =
        ap (λ (c : Counts). c.events) played.counted ∙ histories_have_all s.config (take n s.events) ∙ so_many

    pub few : length s.events ≤ EVENTS → AreFew counts
    few most = record {
      events = omega (arith, so_many_counted, low, most);
      steps = let same : STEPS * n ≡ STEPS * counts.events = ap (λ m. STEPS * m) (sym so_many_counted) in omega (arith, same, played.steps);
      frames =
          let same : TICK_PACKETS * n ≡ TICK_PACKETS * counts.events = ap (λ m. TICK_PACKETS * m) (sym so_many_counted) in
          omega (arith, same, played.frames);
    }

    -- one more
    pub played_more : (now : ClusterValue) (after : Counts) (longer : List ℕ) → is_full k ≡ false →
        IsHad form s.config (take n s.events) e counts after text longer now → HasPlayed form s (n + 1) now after longer
    played_more now after longer room had =
        let h = happened s.config (logs_of s.config (take n s.events)) e in
        let counted : after ≡ counts_after counts h = had.told.counts in
        record {
          stands = subst (λ es. StandsFor s.config es now) (sym (taken_more s n e low is)) had.stands;
          lines =
              had.told.lines
              ∙ ap (λ m. text ++ told_lines form (told_of (m + 1) h)) so_many_counted
              ∙ ap (λ t. t ++ told_lines form (told_of (n + 1) h)) played.lines
              ∙ sym (front_next form s n e low is);
          counted = counted ∙ ap (λ c. counts_after c h) played.counted ∙ sym (counts_next s n e low is);
          steps = let more : after.steps ≡ (counts_after counts h).steps = ap (λ (c : Counts). c.steps) counted in
              omega (arith, more, had.told.steps, played.steps);
          frames = let more : after.frames ≡ (counts_after counts h).frames = ap (λ (c : Counts). c.frames) counted in
              omega (arith, more, had.told.frames, played.frames);
          taken =
              takes_next s n e low is
              (sym bytes_are ∙ room_by (nat_le EVENTS k.events) (nat_lt LAST_BYTES (length k.pile.bytes)) room) played.taken;
        }

    -- or it is refused
    refused_at : length s.events ≤ EVENTS → is_full k ≡ true → taken_of s ≡ n
    refused_at most full =
        let some : ¬ (nat_le EVENTS k.events ≡ true) =
        λ all. let reached : EVENTS ≤ k.events = leb-true EVENTS k.events all in
        omega (arith, reached, played.stands.events, so_many, low, most) in
        takes_no_more s n e low is
        (sym bytes_are ∙ full_by (nat_le EVENTS k.events) (nat_lt LAST_BYTES (length k.pile.bytes)) some full) played.taken

    pub refused_cut : length s.events ≤ EVENTS → is_full k ≡ true → true ≡ is_cut s
    refused_cut most full = sym (cut_is s n low (refused_at most full))

    pub refused_text : length s.events ≤ EVENTS → is_full k ≡ true → text ≡ written_text form s
    refused_text most full = played.lines ∙ cut_text form s n low (refused_at most full)

  -- all of them
  pub ended_whole : length s.events ≤ n → false ≡ is_cut s
  ended_whole all = sym (whole_is s n all (takes_all s n all played.taken))

  pub ended_text : length s.events ≤ n → text ++ end_lines form counts ≡ written_text form s
  ended_text all =
      ap (λ c. text ++ end_lines form c) played.counted
      ∙ ap (λ t. t ++ end_lines form (counts_of (history_before n s))) played.lines
      ∙ whole_text form s n all (takes_all s n all played.taken)

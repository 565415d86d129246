-- A schedule that is played piece by piece.
use Rattle.std.proofs.Common.{◌≡◌, ℕ, zero, suc, ◌+◌, ◌-◌, ◌<◌, ◌≤◌, true, false, List, [], ◌∷◌, ◌++◌, drop, length, take, Some, Ok, Err, refl, sym, ap, subst, ◌∙◌, arith, append_assoc, None}
use Rattle.std.proofs.lemmas.List.{append-nil, length-append, length-drop, length-take-le, take_all}
use Rattle.vk_base.specs.declared.limits.TheConstants.{EVENTS}
use Rattle.vk_base.specs.Settings.{Settings}
use Rattle.vk_cluster.specs.Standing.{StandsFor}
use Rattle.vk_cluster.specs.Values.{ClusterValue, is_full}
use Rattle.vk_schedule.specs.declared.event.Event.{Event}
use Rattle.vk_schedule.specs.declared.schedule.Front.{Front}
use Rattle.vk_schedule.specs.declared.schedule.Schedule.{Schedule}
use Rattle.vk_schedule.specs.Lawful.{has_actors}
use Rattle.vk_schedule.specs.declared.schedule.TextRefusal.{TextRefusal}
use Rattle.vk_schedule.specs.declared.schedule.TextRefusal.TheVariants as refusals
use Rattle.vk_schedule.specs.Remaining.{HasFewLines, IsReadTo, behind, front_left}
use Rattle.vk_schedule.specs.Schedule.{front_of, opened, schedule_of, whole}
use Rattle.vk_schedule.proofs.RemainingEvents.{config_left}
use Rattle.vk_report.specs.declared.entry.Counts.{Counts}
use Rattle.vk_report.specs.declared.entry.Form.{Form}
use Rattle.vk_report.specs.Report.{end_lines, opening_lines}
use Rattle.vk_rules.proofs.OneHistory.{histories_have_all}
use Rattle.vk_text.specs.declared.text.Text.{Text}
use Rattle.vk_text.specs.Lines.{lines_of}
use Rattle.vk_text.specs.Openings.{line_number}
use Rattle.vk_text.specs.Texts.{shown}
use Rattle.vk_top.proofs.Lefts.{actors_stand, few_so_far, under_way_more, way_cut, way_text}
use Rattle.vk_top.proofs.Told.{replay_bad}
use Rattle.vk_top.proofs.Plays.{ended_text, ended_whole, played_none}
use Rattle.vk_schedule.proofs.Pieces.{begins, events_few, goes_on, is_refused, reads_all, stays_refused}
use Rattle.vk_text.proofs.Appended.{some_line}
use Rattle.vk_top.specs.declared.playing.Played.{Played}
use Rattle.vk_top.specs.declared.playing.Playing.{Playing}
use Rattle.vk_top.specs.declared.playing.Way.{Way}
use Rattle.vk_top.specs.declared.playing.Way.TheVariants as ways
use Rattle.vk_top.specs.declared.replay.Written.{Written}
use Rattle.vk_top.specs.Pieces.{ArePlayed, GoesWay, HasCome, HasPlayedAll, IsPiecePlayed, IsWay, followed, schedule_with}
use Rattle.vk_top.specs.Playing.{AreFew, HasPlayed, IsHad, IsUnderWay, IsWrittenOf}
use Rattle.vk_top.specs.Report.{is_cut, written_text}
use Rattle.vk_top.specs.Work.{KeepsLines}
use Rattle.vk_top.specs.declared.words.TextCommand.TheVariants as asked

-- Lists.

take_within : (n : ℕ) (es : List Event) → length (take n es) ≤ length es
take_within zero [] = omega arith
take_within zero (e ∷ es) = omega arith
take_within (suc n) [] = omega arith
take_within (suc n) (e ∷ es) = let rest = take_within n es in omega (arith, rest)

drop_front : (es xs : List Event) → drop (length es) (es ++ xs) ≡ xs
drop_front [] xs = refl
drop_front (e ∷ es) xs = drop_front es xs

-- How many events were had is counted.

so_many : (form : Form) (s : Schedule) (n : ℕ) (k : ClusterValue) (counts : Counts) (text : List ℕ) → HasPlayed form s n k counts text →
    counts.events ≡ length (take n s.events)
so_many form s n k counts text played =
    ap (λ (c : Counts). c.events) played.counted ∙ histories_have_all s.config (take n s.events)

counted : (form : Form) (s : Schedule) (n : ℕ) (k : ClusterValue) (counts : Counts) (text : List ℕ) → HasPlayed form s n k counts text →
    n ≤ length s.events → counts.events ≡ n
counted form s n k counts text played low = so_many form s n k counts text played ∙ length-take-le n s.events low

-- the front whose events are these, those of the front, and those behind them
abbrev pub all_of : Front → List Event → List Event → Front
all_of r es later = record r { schedule = record r.schedule { events = (es ++ r.schedule.events) ++ later } }

-- Before the first event of a piece.

begun : (form : Form) (r : Front) (es later : List Event) (k : ClusterValue) (counts : Counts) (text : List ℕ)
    → HasPlayed form (schedule_with r.schedule.config (es ++ (r.schedule.events ++ later))) (length es) k counts text
    → IsUnderWay form (all_of r es later) (followed r later) k counts text
begun form r es later k counts text played =
    let xs : List Event = r.schedule.events in
    let c : Settings = r.schedule.config in
    let many : counts.events ≡ length es =
    counted form (schedule_with c (es ++ (xs ++ later))) (length es) k counts text played (omega (arith, length-append es (xs ++ later))) in
    let all : HasPlayed form (schedule_with c ((es ++ xs) ++ later)) (length es) k counts text =
    subst (λ (l : List Event). HasPlayed form (schedule_with c l) (length es) k counts text) (sym (append_assoc es xs later)) played in
    record {
      played = subst (λ m. HasPlayed form (schedule_with c ((es ++ xs) ++ later)) m k counts text) (sym many) all;
      rest =
          sym (drop_front es (xs ++ later))
          ∙ ap (λ (l : List Event). drop (length es) l) (sym (append_assoc es xs later))
          ∙ ap (λ m. drop m ((es ++ xs) ++ later)) (sym many);
      same = refl;
    }

module _ (form : Form) (r : Front) (es later : List Event) (fits : length ((es ++ r.schedule.events) ++ later) ≤ EVENTS) where
  pub under_way : (p : Played) → GoesWay form ways.On r.schedule.config es p
      → IsUnderWay form (all_of r es later) (followed r later) p.cluster p.counts (shown p.text)
  under_way p goes =
      begun form r es later p.cluster p.counts (shown p.text)
      (goes (r.schedule.events ++ later) (omega (arith, fits, ap length (append_assoc es r.schedule.events later))))

  module _ (old : Front) (k : ClusterValue) (counts : Counts) (text : List ℕ)
      (so_far : IsUnderWay form (all_of r es later) (followed old later) k counts text) where
    -- the next is an event of this
    module _ (new : Front) (e : Event) (next : old ≡ behind (e ∷ []) new) where
      then_left : followed old later ≡ behind (e ∷ []) (followed new later)
      then_left = ap (λ (f : Front). followed f later) next

      pub few_now : AreFew counts
      few_now =
          few_so_far form (all_of r es later) (followed old later) k counts text so_far (followed new later) e then_left fits

      pub stand_actors : has_actors old.schedule.config.specs e ≡ true → has_actors k.config.specs e ≡ true
      stand_actors acts =
          actors_stand form (all_of r es later) (followed old later) k counts text so_far (followed new later) e then_left acts

      pub one_more : (now : ClusterValue) (after : Counts) (longer : List ℕ) → is_full k ≡ false
          → IsHad form r.schedule.config (take counts.events ((es ++ r.schedule.events) ++ later)) e counts after text longer now
          → IsUnderWay form (all_of r es later) (followed new later) now after longer
      one_more now after longer room had =
          under_way_more form (all_of r es later) (followed old later) k counts text so_far (followed new later) e then_left
          now after longer room had

      pub is_cut_here : is_full k ≡ true → (is_cut (schedule_with r.schedule.config ((es ++ r.schedule.events) ++ later)) ≡ true)
          × (text ≡ written_text form (schedule_with r.schedule.config ((es ++ r.schedule.events) ++ later)))
      is_cut_here full = (
        sym (way_cut form (all_of r es later) (followed old later) k counts text so_far (followed new later) e then_left fits full),
        way_text form (all_of r es later) (followed old later) k counts text so_far (followed new later) e then_left fits full,
      )

    -- no event is left
    pub all_had : old.schedule.events ≡ []
        → HasPlayed form (schedule_with r.schedule.config ((es ++ r.schedule.events) ++ later)) (length (es ++ r.schedule.events)) k counts text
    all_had none =
        let front : List Event = es ++ r.schedule.events in
        let s : Schedule = schedule_with r.schedule.config (front ++ later) in
        let within : counts.events ≤ length (front ++ later) =
        omega (arith, so_many form s counts.events k counts text so_far.played, take_within counts.events (front ++ later)) in
        let left : length later ≡ length (front ++ later) - counts.events =
        ap (λ (l : List Event). length (l ++ later)) (sym none) ∙ ap length so_far.rest ∙ length-drop counts.events (front ++ later) in
        let many : counts.events ≡ length front = omega (arith, within, left, length-append front later) in
        subst (λ m. HasPlayed form s m k counts text) many so_far.played

-- the first events of all are few
pub few_with : (form : Form) (way : Way) (r : Front) (es : List Event) (p : Played) → ArePlayed form way r.schedule.config es p
    → p.read + length r.schedule.events ≤ EVENTS → length ((es ++ r.schedule.events) ++ []) ≤ EVENTS
few_with form way r es p played few =
    omega (arith, few, played.count, length-append es r.schedule.events, ap length (append-nil (es ++ r.schedule.events)))

-- where an event was refused, or memory was wanting, nothing changes

pub cut_still : (form : Form) (c : Settings) (es xs : List Event) (p : Played) → GoesWay form ways.Cut c es p
    → GoesWay form ways.Cut c (es ++ xs) p
cut_still form c es xs p goes later fits =
    subst (λ (l : List Event). (is_cut (schedule_with c l) ≡ true) × (shown p.text ≡ written_text form (schedule_with c l)))
    (sym (append_assoc es xs later)) (goes (xs ++ later) (omega (arith, fits, ap length (append_assoc es xs later))))

-- before the first event of all
pub none_played : (form : Form) (c : Settings) (k : ClusterValue) (text : Text) → StandsFor c [] k → shown text ≡ opening_lines form c.specs
    → ArePlayed form ways.On c [] (record { cluster = k; text = text; counts = record { events = 0; steps = 0; frames = 0 }; read = 0 })
none_played form c k text stands opening = record {
  count = refl;
  goes = λ later fits. played_none form (schedule_with c later) k (shown text) stands opening;
}

-- Behind a piece.

-- what is left of lines that were not read
pub left_few : (left : Front) (c : Settings) (given line : ℕ) (lines : List (List ℕ)) → left ≡ front_left c given line lines
    → given ≤ EVENTS → given + length left.schedule.events ≤ EVENTS
left_few left c given line lines is few =
    omega (arith, events_few c given line lines few, ap (λ (f : Front). length f.schedule.events) is)

pub left_config : (left : Front) (c : Settings) (given line : ℕ) (lines : List (List ℕ)) → left ≡ front_left c given line lines
    → c ≡ left.schedule.config
left_config left c given line lines is = sym (ap (λ (f : Front). f.schedule.config) is ∙ config_left c given line lines)

pub left_played : (form : Form) (way : Way) (left : Front) (c : Settings) (es : List Event) (given line : ℕ) (lines : List (List ℕ)) (p : Played)
    → left ≡ front_left c given line lines → ArePlayed form way c es p → ArePlayed form way left.schedule.config es p
left_played form way left c es given line lines p is played =
    subst (λ (d : Settings). ArePlayed form way d es p) (left_config left c given line lines is) played

module _ (form : Form) (text : List ℕ) (way : Way) (c : Settings) (es : List Event) (line : ℕ) (lines : List (List ℕ)) (before : Played)
    (p : Playing) (few : HasFewLines (length es) line) (were : ArePlayed form way c es before)
    (piece : IsPiecePlayed form (front_left c (length es) line lines) way line before p) where
  now_played : ArePlayed form p.way p.config (es ++ (front_left c (length es) line lines).schedule.events) p.played
  now_played =
      let r : Front = front_left c (length es) line lines in
      subst (λ (d : Settings). ArePlayed form p.way d (es ++ r.schedule.events) p.played) (sym piece.config)
      (piece.played es (left_played form way r c es (length es) line lines before refl were))

  same_config : c ≡ p.config
  same_config = sym (piece.config ∙ config_left c (length es) line lines)

  few_now_read : length (es ++ (front_left c (length es) line lines).schedule.events) ≤ EVENTS
  few_now_read =
      omega (arith, events_few c (length es) line lines few.events, length-append es (front_left c (length es) line lines).schedule.events)

  -- more may stand behind it
  pub piece_come : (let r = front_left c (length es) line lines in
      IsReadTo text c (es ++ r.schedule.events) (line + length r.schedule.events) → HasCome form text p)
  piece_come reads =
      let r : Front = front_left c (length es) line lines in
      let all : List Event = es ++ r.schedule.events in
      record {
        events = all;
        reads = subst (λ n. IsReadTo text p.config all n) (sym piece.line)
            (subst (λ (d : Settings). IsReadTo text d all (line + length r.schedule.events)) same_config reads);
        few = record {
          events = omega (arith, few_now_read, now_played.count);
          lines = omega (arith, few.lines, now_played.count, length-append es r.schedule.events, piece.line);
        };
        played = now_played;
      }

  -- or it is the last
  pub piece_ends : (let r = front_left c (length es) line lines in
      schedule_of text ≡ Ok (schedule_with c (es ++ r.schedule.events)) → HasPlayedAll form text p)
  piece_ends spells =
      let all : List Event = es ++ (front_left c (length es) line lines).schedule.events in
      record {
        events = all;
        spells = subst (λ (d : Settings). schedule_of text ≡ Ok (schedule_with d all)) same_config spells;
        few = few_now_read;
        played = now_played;
      }

-- what stands behind the opening of the first piece
pub behind_opening : (left : Front) (piece : List ℕ) (c : Settings) (at line : ℕ)
    → left ≡ front_left c 0 line (lines_of (take (length piece - at) (drop at piece))) → left ≡ front_left c 0 line (lines_of (drop at piece))
behind_opening left piece c at line is =
    is
    ∙ ap (λ (l : List ℕ). front_left c 0 line (lines_of l))
    (take_all (length piece - at) (drop at piece) (omega (arith, length-drop at piece)))

-- the first piece
pub first_come : (form : Form) (piece : List ℕ) (c : Settings) (at line : ℕ) (left : Front) (before : Played) (p : Playing) → at < length piece
    → opened (lines_of piece) ≡ Ok (c, lines_of (drop at piece)) → line ≡ line_number (lines_of piece) (lines_of (drop at piece))
    → HasFewLines 0 line → left ≡ front_left c 0 line (lines_of (drop at piece)) → ArePlayed form ways.On c [] before
    → IsPiecePlayed form left ways.On line before p → (front : List ℕ) → piece ≡ front ++ 10 ∷ [] → HasCome form piece p
first_come form piece c at line left before p low is number few left_is none played front ends =
    let now : IsPiecePlayed form (front_left c 0 line (lines_of (drop at piece))) ways.On line before p =
    subst (λ (f : Front). IsPiecePlayed form f ways.On line before p) left_is played in
    piece_come form piece ways.On c [] line (lines_of (drop at piece)) before p few none now
    (begins piece front c at line ends (some_line piece at low) is number now.fine)

-- a piece behind a text that was read
module _ (form : Form) (piece : List ℕ) (was : Playing) (left : Front)
    (left_is : left ≡ front_left was.config was.played.read was.line (lines_of piece)) where
  given_is : (text : List ℕ) (come : HasCome form text was) → left ≡ front_left was.config (length come.events) was.line (lines_of piece)
  given_is text come = left_is ∙ ap (λ g. front_left was.config g was.line (lines_of piece)) come.played.count

  few_given : (text : List ℕ) (come : HasCome form text was) → HasFewLines (length come.events) was.line
  few_given text come = subst (λ g. HasFewLines g was.line) come.played.count come.few

  module _ (p : Playing) (played : IsPiecePlayed form left was.way was.line was.played p) (text : List ℕ) (come : HasCome form text was) where
    now_piece : IsPiecePlayed form (front_left was.config (length come.events) was.line (lines_of piece)) was.way was.line was.played p
    now_piece = subst (λ (f : Front). IsPiecePlayed form f was.way was.line was.played p) (given_is text come) played

    pub next_come : (front : List ℕ) → piece ≡ front ++ 10 ∷ [] → HasCome form (text ++ piece) p
    next_come front ends =
        piece_come form (text ++ piece) was.way was.config come.events was.line (lines_of piece) was.played p (few_given text come)
        come.played now_piece (goes_on text piece front was.config come.events was.line come.reads ends now_piece.fine)

    pub last_come : HasPlayedAll form (text ++ piece) p
    last_come =
        piece_ends form (text ++ piece) was.way was.config come.events was.line (lines_of piece) was.played p (few_given text come)
        come.played now_piece (reads_all text piece was.config come.events was.line come.reads now_piece.fine)

  pub piece_refused : (e : TextRefusal) → left.refused ≡ Some e → (text : List ℕ) → HasCome form text was
      → (schedule_of (text ++ piece) ≡ Err e)
      × ((front more : List ℕ) → piece ≡ front ++ 10 ∷ [] → schedule_of ((text ++ piece) ++ more) ≡ Err e)
  piece_refused e refused text come =
      let why = ap (λ (f : Front). f.refused) (sym (given_is text come)) ∙ refused in (
        is_refused text piece was.config come.events was.line e come.reads why,
        λ front more ends. ap schedule_of (append_assoc text piece more)
            ∙ stays_refused text piece front was.config come.events was.line e more come.reads ends why,
      )

-- The end.

module _ (form : Form) (text : List ℕ) (p : Playing) (w : Written) (all : HasPlayedAll form text p) where
  ends_so : IsWay form p.way (schedule_with p.config all.events) (length all.events) p.played.cluster p.played.counts p.played.text
  ends_so =
      subst (λ (l : List Event). IsWay form p.way (schedule_with p.config l) (length all.events) p.played.cluster p.played.counts p.played.text)
      (append-nil all.events) (all.played.goes [] (omega (arith, all.few, ap length (append-nil all.events))))

  ends_way : (way : Way) → p.way ≡ way
      → IsWay form way (schedule_with p.config all.events) (length all.events) p.played.cluster p.played.counts p.played.text
  ends_way way is =
      subst (λ v. IsWay form v (schedule_with p.config all.events) (length all.events) p.played.cluster p.played.counts p.played.text) is ends_so

  pub written_whole : p.way ≡ ways.On → w.text.items ≡ shown p.played.text ++ end_lines form p.played.counts → w.is_cut ≡ false
      → IsWrittenOf form text w
  written_whole is lines cut =
      let s : Schedule = schedule_with p.config all.events in
      let n : ℕ = length all.events in
      let played : HasPlayed form s n p.played.cluster p.played.counts (shown p.played.text) = ends_way ways.On is in
      record {
        schedule = s;
        spells = all.spells;
        lines = lines ∙ ended_text form s n p.played.cluster p.played.counts (shown p.played.text) played (omega arith);
        cut = cut ∙ ended_whole form s n p.played.cluster p.played.counts (shown p.played.text) played (omega arith);
      }

  pub written_front : p.way ≡ ways.Cut → w.text.items ≡ shown p.played.text → w.is_cut ≡ true → IsWrittenOf form text w
  written_front is lines cut =
      let so = ends_way ways.Cut is in
      record { schedule = schedule_with p.config all.events; spells = all.spells; lines = lines ∙ so.1; cut = cut ∙ sym so.0 }

-- A whole text.

module _ (text : List ℕ) (left : Front) (is : left ≡ front_of text) where
  pub whole_fine : left.refused ≡ None → schedule_of text ≡ Ok left.schedule
  whole_fine fine = ap (λ (f : Front). whole f.schedule f.refused) (sym is) ∙ ap (whole left.schedule) fine

  -- no line of it is bad
  pub keeps_lines : (form : Form) → left.refused ≡ None → KeepsLines (asked.Replay form) text
  keeps_lines form fine line bad =
      let spells : schedule_of text ≡ Err (refusals.BadInput line) = replay_bad (schedule_of text) line bad in
      let clash : Ok left.schedule ≡ Err (refusals.BadInput line) = sym (whole_fine fine) ∙ spells in
      absurd (grind (arith, clash))

  pub whole_played : (form : Form) (before : Played) (p : Playing) → length left.schedule.events ≤ EVENTS
      → ArePlayed form ways.On left.schedule.config [] before → IsPiecePlayed form left ways.On 1 before p → HasPlayedAll form text p
  whole_played form before p few none piece = record {
    events = left.schedule.events;
    spells = whole_fine piece.fine ∙ ap (λ (c : Settings). Ok (schedule_with c left.schedule.events)) (sym piece.config);
    few = few;
    played = subst (λ (d : Settings). ArePlayed form p.way d left.schedule.events p.played) (sym piece.config) (piece.played [] none);
  }

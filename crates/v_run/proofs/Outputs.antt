-- What stations deliver was emitted for them, so the logs of closed histories are joined.
use Rattle.std.proofs.Common.{◌≡◌, ℕ, zero, suc, ◌+◌, ◌-◌, ◌*◌, ◌^◌, ◌<◌, ◌≤◌, ◌==◌, ◌&&◌, nat_eq, eq-eqb, Bool, true, false, Option, Some, None, List, [], ◌∷◌, ◌++◌, length, map, cond, refl, sym, ap, ◌∙◌, subst, arith, mul-zero, inl, inr}
use Rattle.std.specs.Cmp.Lexicographic.{pointwise}
use Rattle.std.specs.Option.{option_map}
use Rattle.std.specs.Prelude.{slice_get}
use Rattle.vk_base.specs.declared.limits.TheConstants.{LAST_NUMBER}
use Rattle.std.proofs.lemmas.Bool.{and_parts, or_parts}
use Rattle.std.proofs.lemmas.Bool.Decides.{Decides-eqb}
use Rattle.std.proofs.lemmas.Slice.Eq.{slice_eq-Decides}
use Rattle.vk_types.specs.Types.{StationEvent}
use Rattle.vk_base.specs.declared.event.StationEvent.TheVariants as events
use Rattle.vk_base.specs.Packets.{Packet}
use Rattle.vk_base.specs.Settings.{Settings, has_station, stations_of}
use Rattle.vk_cluster.proofs.Handed.{opens_again, behind}
use Rattle.vk_cluster.proofs.Arms.{each_emitted}
use Rattle.vk_cluster.specs.Found as found
use Rattle.vk_frame.specs.declared.header.Header.{Header}
use Rattle.vk_frame.specs.Reading.{frame_of}
use Rattle.vk_host.specs.Sealed.{sealed}
use Rattle.vk_hub.specs.Counting.{copies}
use Rattle.vk_hub.specs.declared.event.HubEvent.{HubEvent}
use Rattle.vk_hub.specs.Hubs.{HubLog}
use Rattle.vk_hub.specs.Links as links
use Rattle.vk_hub.specs.Links.{header_of}
use Rattle.vk_join.proofs.Given.{IsSound}
use Rattle.vk_schedule.specs.declared.log.StationLog.{StationLog}
use Rattle.vk_join.specs.Laws.{AreGiven, BringsOutput, IsOutput, OutputsAreJoined}
use Rattle.vk_join.specs.Logs.{events_at}
use Rattle.vk_join.specs.Logs as joined
use Rattle.vk_join.specs.Stray.{join_refusal}
use Rattle.vk_packet.specs.Reading.{packet_of}
use Rattle.vk_port.specs.Stations.{brings_last_number, entries_at, event_of, frames_at, is_used_up}
use Rattle.vk_rules.proofs.Lists.{each_append, each_at, each_with}
use Rattle.vk_rules.specs.Each.{Each}
use Rattle.vk_rules.specs.Entries.{Entry}
use Rattle.vk_rules.specs.Frames.{Frame, Framed, number_in, unsealed_by, unsealed_of}
use Rattle.vk_rules.specs.Histories.{emitted}
use Rattle.vk_rules.specs.Laws.{AllRise, FramesUnsealAgain, HaveHeaders}
use Rattle.v_lawful.specs.Sending.{IsLawfulEntry, IsLawfulFrame}
use Rattle.v_run.specs.Closed.{AreClosed}
use Rattle.v_run.specs.Laws.{AreLogsOf, closed_station}
use Rattle.v_run.specs.Passages.{Passage, fresh_station}
use Rattle.v_run.proofs.Counts.{delivers}
use Rattle.v_run.proofs.Ended.{Among, each_of}
use Rattle.v_run.proofs.Entries.{by_entries}
use Rattle.v_run.proofs.Logged.{entries_are, few_bytes, few_events, of_stations, own_events}
use Rattle.v_run.proofs.Seldom.{taken_was_made}
use Rattle.v_run.proofs.Sound.{AreOpen, IsOpen}
use Rattle.v_run.proofs.Totals.{added, added_append, total, added_map}

-- Frames open with their headers.

header_by : (o : Option (Header × List ℕ)) (h : Header) (p : Packet) → unsealed_by o ≡ Framed h p
    → option_map (λ (x : Header × List ℕ). x.0) o ≡ Some h
header_by None h p is = cc
header_by (Some x) h p is = ap Some (behind x.0 (packet_of x.1) h p is)

opens : FramesUnsealAgain → (f : Frame) → IsLawfulFrame f → IsOpen f
opens unseal f lawful = header_by (frame_of (sealed f)) f.header f.packet (opens_again unseal f lawful)

all_open : FramesUnsealAgain → (fs : List Frame) → Each IsLawfulFrame fs → Each IsOpen fs
all_open unseal [] lawful = tt
all_open unseal (f ∷ fs) lawful = (opens unseal f lawful.0, all_open unseal fs lawful.1)

pub are_open : FramesUnsealAgain → (es : List Entry) → Each IsLawfulEntry es → AreOpen es
are_open unseal [] lawful = tt
are_open unseal (e ∷ es) lawful = (all_open unseal e.frames lawful.0.frames, are_open unseal es lawful.1)

-- Their numbers are at most the last.
abbrev IsBounded : Frame → Type 0
IsBounded f = f.header.number ≤ LAST_NUMBER

bounded_frames : (host stamp number event output : ℕ) (fs : List Frame) → number ≤ LAST_NUMBER
    → HaveHeaders host stamp number event output fs
    → Each IsBounded fs
bounded_frames host stamp number event output [] low have = tt
bounded_frames host stamp number event output (f ∷ fs) low have =
    let is : f.header.number ≡ number = ap (λ (h : Header). h.number) have.0 in
    (omega arith, bounded_frames host stamp number event (output + 1) fs low have.1)

bounded : (host : ℕ) (es : List Entry) → AllRise host es → Each IsBounded (emitted es)
bounded host [] rises = tt
bounded host (e ∷ es) rises =
    let low = rises.0.bound in
    each_append IsBounded e.frames (emitted es)
    (bounded_frames host e.tick e.number (length es + 1) 1 e.frames (omega arith) rises.0.frames) (bounded host es rises.1)

-- The bytes of a frame.
abbrev is_frame : List ℕ → List ℕ → Bool
is_frame bytes f = pointwise nat_eq f bytes

itself : (bytes : List ℕ) → is_frame bytes bytes ≡ true
itself bytes = (slice_eq-Decides Decides-eqb bytes bytes _ refl).1 refl

same_bytes : (bytes f : List ℕ) → is_frame bytes f ≡ true → f ≡ bytes
same_bytes bytes f is = (slice_eq-Decides Decides-eqb f bytes _ refl).0 is

-- What a sum is made of.
some_by : {A : Type 0} (f : A → ℕ) (x : A) (xs : List A) (n : ℕ) → f x ≡ n → 1 ≤ f x + added f xs
    → (1 ≤ added f xs → (y : A) × Among y xs × (1 ≤ f y)) → (y : A) × Among y (x ∷ xs) × (1 ≤ f y)
some_by f x xs zero is some more = let rest = more (omega arith) in (rest.0, inr rest.1, rest.2)
some_by f x xs (suc n) is some more = (x, inl refl, omega arith)

some_added : {A : Type 0} (f : A → ℕ) (xs : List A) → 1 ≤ added f xs → (x : A) × Among x xs × (1 ≤ f x)
some_added f [] some = absurd (omega arith)
some_added f (x ∷ xs) some = some_by f x xs (f x) refl some (some_added f xs)

some_placed : (f : Frame → ℕ) (xs : List Frame) → 1 ≤ added f xs → (place : ℕ) × (x : Frame) × (slice_get xs place ≡ Some x) × (1 ≤ f x)
some_placed f [] some = absurd (omega arith)
some_placed f (x ∷ xs) some = by (f x) refl (λ low. some_placed f xs low)
  where
    by : (n : ℕ) → f x ≡ n → (1 ≤ added f xs → (place : ℕ) × (y : Frame) × (slice_get xs place ≡ Some y) × (1 ≤ f y))
        → (place : ℕ) × (y : Frame) × (slice_get (x ∷ xs) place ≡ Some y) × (1 ≤ f y)
    by zero is more = let rest = more (omega arith) in (suc rest.0, rest.1, rest.2, rest.3)
    by (suc n) is more = (zero, x, refl, omega arith)

added_emitted : (f : Frame → ℕ) (es : List Entry) → added (λ (e : Entry). added f e.frames) es ≡ added f (emitted es)
added_emitted f [] = refl
added_emitted f (e ∷ es) =
    let rest = added_emitted f es in
    let sum = added_append f e.frames (emitted es) in
    omega arith

weighs : (w : StationEvent → ℕ) (acc xs : List (ℕ × StationEvent)) (x : ℕ × StationEvent) → Among x xs
    → w x.1 ≤ total (λ before e. w e) acc xs
weighs w acc [] x among = absurd among
weighs w acc (y ∷ ys) x (inl is) = let one = ap (λ (z : ℕ × StationEvent). w z.1) is in omega arith
weighs w acc (y ∷ ys) x (inr among) = let rest = weighs w (acc ++ y ∷ []) ys x among in omega arith

split_at : {A : Type 0} (x : A) (xs : List A) → Among x xs → (before : List A) × (rest : List A) × (xs ≡ before ++ x ∷ rest)
split_at x [] among = absurd among
split_at x (y ∷ ys) (inl is) = ([], ys, ap (λ z. z ∷ ys) is)
split_at x (y ∷ ys) (inr among) = let it = split_at x ys among in (y ∷ it.0, it.1, ap (λ l. y ∷ l) it.2)

is_true : (b : Bool) → 1 ≤ cond {A = ℕ} b 1 0 → b ≡ true
is_true true some = refl
is_true false some = absurd (omega arith)

times_none : (n m : ℕ) → m ≡ 0 → n * m ≡ 0
times_none n m none = ap (λ k. n * k) none ∙ mul-zero n

-- A frame whose bytes these are.
addressed_by : FramesUnsealAgain → (f : Frame) → IsLawfulFrame f → (h : ℕ) → links.is_addressed (header_of (sealed f)) h ≡ true
    → found.is_addressed h f.header ≡ true
addressed_by unseal f lawful h is = ap (λ (x : Option Header). links.is_addressed x h) (sym (opens unseal f lawful)) ∙ is

below_last : (n : ℕ) → n ≤ LAST_NUMBER → (n == LAST_NUMBER) ≡ false → n < 2 ^ 63 - 1
below_last n most other =
    let apart : (n ≡ LAST_NUMBER) → ⊥ = λ is. absurd (cc (other, eq-eqb n LAST_NUMBER is)) in
    omega (arith, apart)

early_by : FramesUnsealAgain → (f : Frame) → IsLawfulFrame f → (bytes : List ℕ) → sealed f ≡ bytes → f.header.number ≤ LAST_NUMBER
    → brings_last_number (events.Deliver bytes) ≡ false → f.header.number < 2 ^ 63 - 1
early_by unseal f lawful bytes is most below =
    let number : number_in (unsealed_of bytes) ≡ f.header.number =
    ap (λ b. number_in (unsealed_of b)) (sym is) ∙ ap number_in (opens_again unseal f lawful) in
    below_last f.header.number most (ap (λ n. n == LAST_NUMBER) (sym number) ∙ below)

module _ (unseal : FramesUnsealAgain) (c : Settings) (o : HubLog) (histories : ℕ → List (ℕ × StationEvent)) (heard : List (ℕ × HubEvent))
    (gs : List Passage) (k : AreClosed c o histories heard gs) (logs : List StationLog) (are : AreLogsOf c histories logs)
    (sound : (q : ℕ) → IsSound q (joined.entries_at c logs q)) where
  module _ (h : ℕ) (there : has_station c.specs h ≡ true) (bytes : List ℕ) where
    abbrev meant : List ℕ → ℕ
    meant f = cond (is_frame bytes f && links.is_addressed (header_of f) h) 1 0

    abbrev made : ℕ → ℕ
    made q = total (λ before e. added meant (frames_at (fresh_station c q) before e)) [] (histories q)

    -- some station emitted the frame
    some_made : (x : ℕ × StationEvent) → Among x (histories h) → x.1 ≡ events.Deliver bytes → 1 ≤ added made (stations_of c.specs)
    some_made x among is =
        let one : ◌≡◌ {A = ℕ} (delivers (is_frame bytes) x.1) 1 =
        ap (delivers (is_frame bytes)) is ∙ ap (λ (b : Bool). cond {A = ℕ} b 1 0) (itself bytes) in
        let all = weighs (delivers (is_frame bytes)) [] (histories h) x among in
        let few = taken_was_made c o histories heard gs k (is_frame bytes) h there in
        by (added made (stations_of c.specs)) refl few (omega arith)
      where
        by : (n : ℕ) → added made (stations_of c.specs) ≡ n
            → total (λ before e. delivers (is_frame bytes) e) [] (histories h) ≤ copies o.plan * added made (stations_of c.specs)
            → 1 ≤ total (λ before e. delivers (is_frame bytes) e) [] (histories h) → 1 ≤ added made (stations_of c.specs)
        by zero is few some = let none = times_none (copies o.plan) (added made (stations_of c.specs)) is in absurd (omega arith)
        by (suc n) is few some = omega arith

    -- and it is this output
    pub is_output : (x : ℕ × StationEvent) → Among x (histories h) → x.1 ≡ events.Deliver bytes
        → brings_last_number (events.Deliver bytes) ≡ false
        → IsOutput (joined.entries_at c logs) h bytes
    is_output x among is below =
        let at = some_added made (stations_of c.specs) (some_made x among is) in
        let q = at.0 in
        let es : List Entry = joined.entries_at c logs q in
        let same : entries_at (fresh_station c q) (histories q) ≡ es = sym (entries_are c histories logs are q) in
        let g : Frame → ℕ = λ f. meant (sealed f) in
        let sum : made q ≡ added (λ (e : Entry). added meant (map sealed e.frames)) (entries_at (fresh_station c q) (histories q)) =
        by_entries c q (histories q) (λ (e : Entry). added meant (map sealed e.frames)) in
        let whole : made q ≡ added g (emitted es) =
        sum ∙ (ap (added (λ (e : Entry). added meant (map sealed e.frames))) same
        ∙ (added_by (λ (e : Entry). added meant (map sealed e.frames)) (λ (e : Entry). added g e.frames) es
        (λ e. added_map meant sealed e.frames)
        ∙ added_emitted g es)) in
        let some = at.2 in
        let it = some_placed g (emitted es) (omega arith) in
        let f = it.1 in
        let lawful : IsLawfulFrame f = each_at IsLawfulFrame (emitted es) it.0 f (each_emitted es (sound q).lawful) it.2 in
        let most : IsBounded f = each_at IsBounded (emitted es) it.0 f (bounded q es (sound q).rise) it.2 in
        let tests = and_parts (is_frame bytes (sealed f)) (links.is_addressed (header_of (sealed f)) h)
        (is_true (is_frame bytes (sealed f) && links.is_addressed (header_of (sealed f)) h) it.3) in
        let bytes_are : sealed f ≡ bytes = same_bytes bytes (sealed f) tests.0 in
        record {
          frame = f;
          source = q;
          place = it.0;
          emitted_there = it.2;
          same = bytes_are;
          addressed = addressed_by unseal f lawful h tests.1;
          early = early_by unseal f lawful bytes bytes_are most below;
        }
      where
        added_by : (f g : Entry → ℕ) (es : List Entry) → ((e : Entry) → f e ≡ g e) → added f es ≡ added g es
        added_by f g [] each = refl
        added_by f g (e ∷ es) each = let one = each e in let rest = added_by f g es each in omega arith

  -- each event brings such
  brings : (h : ℕ) → has_station c.specs h ≡ true → (x : ℕ × StationEvent) → Among x (histories h) → (e : StationEvent) → x.1 ≡ e
      → BringsOutput (joined.entries_at c logs) h e
  brings h there x among (events.Call pid call) is = tt
  brings h there x among (events.Collect pid) is = tt
  brings h there x among events.Tick is = tt
  brings h there x among (events.Deliver frame) is =
      let at = split_at x (histories h) among in
      let room = (are.lawful h there).had_room at.0 at.1 x at.2 in
      let low : brings_last_number x.1 ≡ false =
      (or_parts (is_used_up (closed_station c h (histories h)) at.0) (brings_last_number x.1) room).1 in
      is_output h there frame x among is (ap brings_last_number (sym is) ∙ low)

  all_bring : (h : ℕ) → has_station c.specs h ≡ true → Each (BringsOutput (joined.entries_at c logs) h) (events_at logs h)
  all_bring h there =
      subst (Each (BringsOutput (joined.entries_at c logs) h)) (sym (are.events h))
      (events_of (histories h)
      (each_of (λ (x : ℕ
      × StationEvent). BringsOutput (joined.entries_at c logs) h x.1) (histories h) (λ x among. brings h there x among x.1 refl)))
    where
      events_of : (xs : List (ℕ × StationEvent)) → Each (λ (x : ℕ × StationEvent). BringsOutput (joined.entries_at c logs) h x.1) xs
          → Each (BringsOutput (joined.entries_at c logs) h) (map event_of xs)
      events_of [] each = tt
      events_of (x ∷ xs) each = (each.0, events_of xs each.1)

  pub are_joined : OutputsAreJoined → AreGiven c logs → join_refusal c logs ≡ None
  are_joined law given =
      law c logs given (few_events c histories logs are given.lawful) (few_bytes c histories logs are given.lawful)
      (each_with (λ (l : StationLog). Each (BringsOutput (joined.entries_at c logs) l.host) (events_at logs l.host))
      (λ (l : StationLog). l.events ≡ events_at logs l.host)
      (λ (l : StationLog). Each (BringsOutput (joined.entries_at c logs) l.host) l.events) logs
      (λ l all same. subst (Each (BringsOutput (joined.entries_at c logs) l.host)) (sym same) all)
      (of_stations c histories logs are (λ h. Each (BringsOutput (joined.entries_at c logs) h) (events_at logs h)) all_bring)
      (own_events logs given.asked.rise))

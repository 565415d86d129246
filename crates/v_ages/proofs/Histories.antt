-- The invariant holds in every history.
use Rattle.std.proofs.Common.{◌≡◌, ℕ, zero, suc, ◌+◌, ◌<◌, Bool, true, false, cond, ◌==◌, List, [], ◌∷◌, find, length, replicate, Option, Some, None, option_map, refl, sym, ap, ◌∙◌, subst, inl, inr, ◌⊎◌, arith, le_refl}
use Rattle.std.proofs.lemmas.Bool.{cases_Bool, eqb-true, both_ways, eq-eqb, cond-false}
use Rattle.std.proofs.lemmas.Option.{none-some, same_Some}
use Rattle.std.specs.List.{filter_map, cons_option}
use Rattle.std.specs.Option.{option_map_or}
use Rattle.vk_types.specs.Types.{Message, Name, Pid, Process, ProcessSpec, Step}
use Rattle.vk_base.specs.declared.step.Step.TheVariants as steps
use Rattle.vk_base.specs.Kernel.{name_of, ◌>>=◌, initial_process, blocked_in}
use Rattle.vk_base.specs.Packets.{Send}
use Rattle.vk_base.specs.Pids.{same_pid}
use Rattle.vk_base.specs.Settings.{Settings, is_process, pool_of}
use Rattle.vk_base.specs.Steps.{only_if, first_of}
use Rattle.vk_base.proofs.PidLemmas.{same_pid_self}
use Rattle.v_laws.proofs.Tables.{same_pid_is}
use Rattle.vk_frame.specs.declared.header.Header.{Header}
use Rattle.vk_schedule.specs.declared.event.Event.{Event}
use Rattle.vk_schedule.specs.declared.event.Event.TheVariants as events
use Rattle.vk_rules.specs.Aliens.{as_arrival, Alien, is_alien_of, alien_of, arrival_in, slots_after}
use Rattle.vk_rules.specs.Entries.{Entry, Input, Called, Collected, Ticked, Delivered, taken_packet}
use Rattle.vk_rules.specs.Frames.{Frame, Framed}
use Rattle.vk_rules.specs.Histories.{Logs, no_entries, with_entry, is_output, emitted, handed_over, Happened, At, Missing, delivered, happened, logs_after, history, logs_from}
use Rattle.vk_rules.specs.Readings.{reading, reading_after, first_reading}
use Rattle.vk_rules.specs.Right.{right_entry, entry_of, tick_after, number_after, answer_to, outcome_of}
use Rattle.vk_rules.specs.Each.{Each}
use Rattle.vk_rules.proofs.Lists.{each_weaker, each_append, each_find}
use Rattle.vk_rules.proofs.OwnEvents.{own_log}
use Rattle.v_ages.specs.Apart.{AliensAreApart}
use Rattle.v_ages.specs.Arrivals as arrivals
use Rattle.v_ages.specs.Arrivals.{Rising}
use Rattle.v_ages.proofs.Numbers.{number_in, arrival_at, numbers, arrivals_are, IsOne, one_entry, One, NoneComes, OneComes}
use Rattle.v_ages.proofs.Aged.{AgedAt, CameBelow, calling, remote_target}
use Rattle.v_ages.proofs.Ages.{Ages}
use Rattle.v_ages.proofs.FarEntry.{far_entry, taken_copy}
use Rattle.v_ages.proofs.FarStep.{far_step, copy_above, arrives_above}
use Rattle.v_ages.proofs.HomeEntry.{home_entry}
use Rattle.v_ages.proofs.HomeStep.{home_step}
use Rattle.v_ages.proofs.Keen.{IsKeen, IsOwn, keen_step, keeps_entry, Came, New, Old, came_from}
use Rattle.v_ages.proofs.Lists.{each_source}
use Rattle.v_ages.proofs.Slots.{at, alien_there}
use Rattle.v_ages.proofs.Taken.{In, each_in}
use Rattle.v_ages.proofs.Tame.{NotArrive}

-- The arrivals of one sender in a station's entries.
abbrev pub BelowIn : Pid → ℕ → Entry → Type 0
BelowIn s n d = (m : Name) → arrival_in d ≡ Some m → same_pid m.sender s ≡ true → m.number < n

abbrev pub AgedIn : Settings → Pid → ℕ → List Entry → List Entry → Type 0
AgedIn c s q mine theirs = AgedAt c.times s q (reading c s.host mine) (reading c q theirs) (emitted mine) (emitted theirs) theirs

-- the name arrived in one of these entries
abbrev pub Arrived : Name → List Entry → Type 0
Arrived name [] = ⊥
Arrived name (e ∷ es) = (arrival_in e ≡ Some name) ⊎ Arrived name es

abbrev pub AreArrived : List (Option Alien) → List Entry → Type 0
AreArrived slots es = (i : ℕ) (a : Alien) → at slots i ≡ Some a → Arrived a.name es

pub record IsAged (c : Settings) (logs : Logs) : Type 0 where
  pub keen : (host : ℕ) → IsKeen host (reading c host (logs host))
  pub sources : (host : ℕ) → Each (λ (f : Frame). f.header.source ≡ host) (emitted (logs host))
  pub aged : (s : Pid) (q : ℕ) → (s.host == q) ≡ false → AgedIn c s q (logs s.host) (logs q)
  pub kept : (host : ℕ) → AreArrived (reading c host (logs host)).slots (logs host)
  pub ones : (host : ℕ) → Each (λ (d : Entry). One d.steps) (logs host)

-- what is delivered was sent by the station that it names
abbrev pub WasSent : Logs → Input → Type 0
WasSent logs i = (h : Header) (p : Rattle.vk_base.specs.Packets.Packet) → i ≡ Delivered (Framed h p) →
    In (record { header = h; packet = p }) (emitted (logs h.source))

other_log : (logs : Logs) (host h : ℕ) (e : Entry) → (h == host) ≡ false → with_entry logs host e h ≡ logs h
unfolding with_entry
other_log logs host h e n = cond-false (h == host) _ _ n

-- One station's own facts.
keen_more : (c : Settings) (host : ℕ) (es : List Entry) (i : Input) → IsOwn host i → IsKeen host (reading c host es) →
    IsKeen host (reading c host (entry_of c host es i ∷ es))
unfolding reading
keen_more c host es i own k = keen_step c.times host (reading c host es) (entry_of c host es i) k
    (keeps_entry c host (reading c host es) i own k)

sources_more : (c : Settings) (host : ℕ) (es : List Entry) (i : Input) → Each (λ (f : Frame). f.header.source ≡ host) (emitted es) →
    Each (λ (f : Frame). f.header.source ≡ host) (emitted (entry_of c host es i ∷ es))
unfolding right_entry
sources_more c host es i k = each_append (λ (f : Frame). f.header.source ≡ host) (entry_of c host es i).frames (emitted es)
    (each_source host (tick_after (reading c host es) i) (number_after (reading c host es) i) ((reading c host es).events + 1) 1
    (outcome_of c host (reading c host es) i (answer_to c host (reading c host es) i)).packets) k

kept_by : (c : Settings) (host : ℕ) (es : List Entry) (e : Entry) (i : ℕ) (b : Alien) (o : Option Name) → arrival_in e ≡ o →
    AreArrived (reading c host es).slots es → Came c.times e (at (reading c host es).slots i) o b → Arrived b.name (e ∷ es)
kept_by c host es e i b o g k (New name h n z) = inl (g ∙ h ∙ ap (λ x. Some x) (sym n))
kept_by c host es e i b o g k (Old old) = inr (subst (λ x. Arrived x es) (sym (ap (λ (x : Alien). x.name) old.is)) (k i old.alien old.was))

kept_more : (c : Settings) (host : ℕ) (es : List Entry) (e : Entry) → AreArrived (reading c host es).slots es →
    AreArrived (reading c host (e ∷ es)).slots (e ∷ es)
unfolding reading reading_after slots_after
kept_more c host es e k i b h =
    kept_by c host es e i b (arrival_in e) refl k (came_from c.times e (reading c host es).slots (arrival_in e) i b h)

-- A pair of stations.
home_more : (c : Settings) (s : Pid) (q : ℕ) (logs : Logs) (i : Input) → WasSent logs i → AgedIn c s q (logs s.host) (logs q) →
    AgedIn c s q (entry_of c s.host (logs s.host) i ∷ logs s.host) (logs q)
unfolding reading
home_more c s q logs i sent k = home_step c.times s q (reading c s.host (logs s.host)) (reading c q (logs q)) (emitted (logs s.host))
    (emitted (logs q)) (logs q) (entry_of c s.host (logs s.host) i) k
    (home_entry c s q (reading c s.host (logs s.host)) (emitted (logs q)) i
    (λ h p e at_q. subst (λ n. In (record { header = h; packet = p }) (emitted (logs n))) at_q (sent h p e)))

far_more : (c : Settings) (s : Pid) (q : ℕ) (logs : Logs) (i : Input) → WasSent logs i → IsKeen q (reading c q (logs q)) →
    AgedIn c s q (logs s.host) (logs q) → AgedIn c s q (logs s.host) (entry_of c q (logs q) i ∷ logs q)
unfolding reading
far_more c s q logs i sent keen k = far_step c.times s q (reading c s.host (logs s.host)) (reading c q (logs q)) (emitted (logs s.host))
    (emitted (logs q)) (logs q) (entry_of c q (logs q) i) k
    (far_entry c s q (reading c q (logs q)) (emitted (logs s.host)) i keen
    (λ h p e at_s. subst (λ n. In (record { header = h; packet = p }) (emitted (logs n))) at_s (sent h p e)))

abbrev after : Settings → Logs → ℕ → Input → Logs
after c logs host i = with_entry logs host (entry_of c host (logs host) i)

-- a fact of each station's entries
each_host : (P : ℕ → List Entry → Type 0) (c : Settings) (logs : Logs) (host : ℕ) (i : Input) →
    (P host (logs host) → P host (entry_of c host (logs host) i ∷ logs host)) → (h : ℕ) → P h (logs h) → P h (after c logs host i h)
each_host P c logs host i step h k = elim (cases_Bool (h == host)) [
  | inl e ↦ let same = eqb-true h host e in
      subst (λ n. P n (after c logs host i n)) (sym same) (subst (P host) (sym (own_log logs host (entry_of c host (logs host) i)))
      (step (subst (λ n. P n (logs n)) same k)))
  | inr n ↦ subst (P h) (sym (other_log logs host h (entry_of c host (logs host) i) n)) k
]

aged_more : (c : Settings) (logs : Logs) (host : ℕ) (i : Input) → WasSent logs i → ((h : ℕ) → IsKeen h (reading c h (logs h))) →
    (s : Pid) (q : ℕ) → (s.host == q) ≡ false → AgedIn c s q (logs s.host) (logs q) →
    AgedIn c s q (after c logs host i s.host) (after c logs host i q)
aged_more c logs host i sent keen s q apart k = elim (cases_Bool (s.host == host)) [
  | inl e ↦
      let same = eqb-true s.host host e in
      let away : (q == s.host) ≡ false =
      elim (cases_Bool (q == s.host)) [
        | inl f ↦ absurd (both_ways _ apart (eq-eqb s.host q (sym (eqb-true q s.host f))))
        | inr f ↦
            f
      ] in
      subst (λ h. AgedIn c s q (after c logs h i s.host) (after c logs h i q)) same
      (subst (λ l. AgedIn c s q l (after c logs s.host i q)) (sym (own_log logs s.host (entry_of c s.host (logs s.host) i)))
      (subst (AgedIn c s q (entry_of c s.host (logs s.host) i ∷ logs s.host))
      (sym (other_log logs s.host q (entry_of c s.host (logs s.host) i) away))
      (home_more c s q logs i sent k)))
  | inr n ↦ elim (cases_Bool (q == host)) [
    | inl e ↦
        let same = eqb-true q host e in
        subst (λ h. AgedIn c s q (after c logs h i s.host) (after c logs h i q)) same
        (subst (λ l. AgedIn c s q l (after c logs q i q)) (sym (other_log logs q s.host (entry_of c q (logs q) i) apart))
        (subst (AgedIn c s q (logs s.host)) (sym (own_log logs q (entry_of c q (logs q) i)))
        (far_more c s q logs i sent (keen q) k)))
    | inr m ↦
        subst (λ l. AgedIn c s q l (after c logs host i q)) (sym (other_log logs host s.host (entry_of c host (logs host) i) n))
        (subst (AgedIn c s q (logs s.host)) (sym (other_log logs host q (entry_of c host (logs host) i) m)) k)
  ]
]

pub aged_entry : (c : Settings) (logs : Logs) (host : ℕ) (i : Input) → IsOwn host i → WasSent logs i → IsAged c logs →
    IsAged c (after c logs host i)
aged_entry c logs host i own sent k = record {
  keen = λ h. each_host (λ h es. IsKeen h (reading c h es)) c logs host i (keen_more c host (logs host) i own) h (k.keen h);
  sources = λ h. each_host (λ h es. Each (λ (f : Frame). f.header.source ≡ h) (emitted es)) c logs host i
      (sources_more c host (logs host) i) h (k.sources h);
  aged = λ s q apart. aged_more c logs host i sent k.keen s q apart (k.aged s q apart);
  kept = λ h. each_host (λ h es. AreArrived (reading c h es).slots es) c logs host i
      (kept_more c host (logs host) (entry_of c host (logs host) i)) h (k.kept h);
  ones = λ h. each_host (λ h es. Each (λ (d : Entry). One d.steps) es) c logs host i
      (λ ones. (one_entry c host (reading c host (logs host)) i, ones)) h (k.ones h);
}

-- The start.
start : Ages
start = record { tick = 0; sends = 0; begun = λ n. 0; now = 0; heard = 0; is_closed = true; closed = 0; newest = 0 }

pub at_replicate : (n i : ℕ) → at (replicate n None) i ≡ None
at_replicate zero i = refl
at_replicate (suc n) zero = refl
at_replicate (suc n) (suc i) = at_replicate n i

first_sends : (o : Option ProcessSpec) → option_map_or (λ (p : Process). p.sends) (option_map initial_process o) 0 ≡ 0
first_sends None = refl
first_sends (Some s) = refl

first_calls : (s : Pid) (o : Option ProcessSpec) → (option_map initial_process o >>= λ p. blocked_in p.state >>= remote_target s) ≡ None
first_calls s None = refl
first_calls s (Some x) = refl

start_calls : (c : Settings) (s : Pid) → calling (first_reading c s.host).view s ≡ None
unfolding calling
start_calls c s = first_calls s (find (is_process s) c.specs)

start_aged : (c : Settings) (s : Pid) (q : ℕ) → AgedIn c s q [] []
unfolding reading start
start_aged c s q = record {
  w = start;
  tick = refl;
  now = refl;
  copies = tt;
  pendings = tt;
  sends = first_sends (find (is_process s) c.specs);
  work = λ target h at_q. absurd (none-some _ (sym (start_calls c s) ∙ h));
  heard = le_refl 0;
  slots = record {
    each = λ i a h of. absurd (none-some _ (sym (at_replicate (pool_of c q) i) ∙ h));
    once = λ i j h g. absurd (both_ways _ (ap (is_alien_of s) (at_replicate (pool_of c q) i)) h);
    freed = λ none some. absurd (omega arith);
  };
  came = tt;
}

pub aged_start : (c : Settings) → IsAged c no_entries
unfolding reading
aged_start c = record {
  keen = λ host. record {
    shut = λ i a k h closed. absurd (none-some _ (sym (at_replicate (pool_of c host) i) ∙ h));
    once = λ s i j h g. absurd (both_ways _ (ap (is_alien_of s) (at_replicate (pool_of c host) i)) h);
    remote = λ i a h. absurd (none-some _ (sym (at_replicate (pool_of c host) i) ∙ h));
  };
  sources = λ host. tt;
  aged = λ s q apart. start_aged c s q;
  kept = λ host i a h. absurd (none-some _ (sym (at_replicate (pool_of c host) i) ∙ h));
  ones = λ host. tt;
}

-- Events.
found_in : {A : Type 0} (test : A → Bool) (b : Bool) (x y : A) (xs : List A) → cond b (Some x) (find test xs) ≡ Some y →
    (find test xs ≡ Some y → In y xs) → (x ≡ y) ⊎ In y xs
found_in test true x y xs h k = inl (same_Some x y h)
found_in test false x y xs h k = inr (k h)

in_find : {A : Type 0} (test : A → Bool) (xs : List A) (y : A) → find test xs ≡ Some y → In y xs
in_find test [] y h = none-some _ h
in_find test (x ∷ xs) y h = found_in test (test x) x y xs h (in_find test xs y)

-- what an event does: nothing, or an entry of a station, of what was sent
pub data Does (c : Settings) (logs : Logs) (h : Happened) : Type 0 where
  Entered : (host event : ℕ) (i : Input) → h ≡ At host event (entry_of c host (logs host) i) → IsOwn host i → WasSent logs i → Does c logs h
  Nought : (host : ℕ) → h ≡ Missing host → Does c logs h

sent_frame : (logs : Logs) (to from event output : ℕ) (f : Frame) →
    ((host : ℕ) → Each (λ (f : Frame). f.header.source ≡ host) (emitted (logs host))) → handed_over logs to from event output ≡ Some f →
    WasSent logs (Delivered (Framed f.header f.packet))
sent_frame logs to from event output f sources found h p e =
    let source : f.header.source ≡ from = each_find (λ (f : Frame). f.header.source ≡ from) (is_output to event output)
    (emitted (logs from)) f found (sources from) in
    let here : In f (emitted (logs f.header.source)) =
    subst (λ n. In f (emitted (logs n))) (sym source) (in_find (is_output to event output) (emitted (logs from)) f found) in
    let same : Framed f.header f.packet ≡ Framed h p = cc in
    let head : f.header ≡ h = cc in
    let pack : f.packet ≡ p = cc in
    subst (λ (x : Header). In (record { header = x; packet = p }) (emitted (logs x.source))) head
    (subst (λ (x : Rattle.vk_base.specs.Packets.Packet). In (record { header = f.header; packet = x }) (emitted (logs f.header.source)))
    pack here)

does_delivered : (c : Settings) (logs : Logs) (to from event output : ℕ) (o : Option Frame) →
    ((host : ℕ) → Each (λ (f : Frame). f.header.source ≡ host) (emitted (logs host))) → handed_over logs to from event output ≡ o →
    Does c logs (delivered c logs to o)
does_delivered c logs to from event output None sources h = Nought to refl
does_delivered c logs to from event output (Some f) sources h =
    Entered to (length (logs to) + 1) (Delivered (Framed f.header f.packet)) refl tt (sent_frame logs to from event output f sources h)

pub does : (c : Settings) (logs : Logs) (e : Event) → IsAged c logs → Does c logs (happened c logs e)
unfolding happened
does c logs (events.Call pid call) k = Entered pid.host (length (logs pid.host) + 1) (Called pid call) refl refl (λ h p e. cc)
does c logs (events.Collect pid) k = Entered pid.host (length (logs pid.host) + 1) (Collected pid) refl tt (λ h p e. cc)
does c logs (events.Tick host) k = Entered host (length (logs host) + 1) Ticked refl tt (λ h p e. cc)
does c logs (events.Deliver to from event output) k =
    does_delivered c logs to from event output (handed_over logs to from event output) k.sources refl

aged_does : (c : Settings) (logs : Logs) (h : Happened) → IsAged c logs → Does c logs h → IsAged c (logs_after logs h)
aged_does c logs h k (Entered host event i e own sent) =
    subst (λ h. IsAged c (logs_after logs h)) (sym e) (aged_entry c logs host i own sent k)
aged_does c logs h k (Nought host e) = subst (λ h. IsAged c (logs_after logs h)) (sym e) k

pub aged_event : (c : Settings) (logs : Logs) (e : Event) → IsAged c logs → IsAged c (logs_after logs (happened c logs e))
aged_event c logs e k = aged_does c logs (happened c logs e) k (does c logs e k)

pub aged_from : (c : Settings) (es : List Event) (logs : Logs) → IsAged c logs → IsAged c (logs_from c logs es)
unfolding logs_from
aged_from c [] logs k = k
aged_from c (e ∷ es) logs k = aged_from c es (logs_after logs (happened c logs e)) (aged_event c logs e k)

-- What arrives is above all that arrived before.
pub above_all : (c : Settings) (logs : Logs) (q : ℕ) (i : Input) (name : Name) → IsOwn q i → WasSent logs i → IsAged c logs →
    arrival_in (entry_of c q (logs q) i) ≡ Some name → Each (BelowIn name.sender name.number) (logs q)
above_all c logs q i name own sent k h =
    let s = name.sender in
    let r = reading c q (logs q) in
    let keeps = keeps_entry c q r i own (k.keen q) in
    let a = k.aged s q (keeps.remote name h) in
    let f = far_entry c s q r (emitted (logs s.host)) i (k.keen q)
    (λ h p e at_s. subst (λ n. In (record { header = h; packet = p }) (emitted (logs n))) at_s (sent h p e)) in
    let x = f.arrival name h (same_pid_self s) in
    let lt = arrives_above c.times s q (reading c s.host (logs s.host)) r (emitted (logs s.host)) (emitted (logs q)) (logs q)
    (entry_of c q (logs q) i) name a x in
    each_weaker (CameBelow a.w s) (BelowIn s name.number) (logs q) a.came (λ d below m g of. let y = below m g of in omega arith)

abbrev AllBelow : Pid → ℕ → List Entry → Type 0
AllBelow s n es = Each (BelowIn s n) es

-- the number that an event lets arrive
arrival_is : (s : Pid) (q host event : ℕ) (e : Entry) (n : ℕ) → arrival_at q s (At host event e) ≡ Some n →
    (host ≡ q) × (number_in s e ≡ Some n)
arrival_is s q host event e n h = go (host == q) refl h where
  go : (b : Bool) → (host == q) ≡ b → cond b (number_in s e) None ≡ Some n → (host ≡ q) × (number_in s e ≡ Some n)
  go true f g = (eqb-true host q f, g)
  go false f g = absurd (none-some _ g)

number_is : (s : Pid) (o : Option Name) (n : ℕ) → (o >>= λ name. only_if (same_pid name.sender s) (Some name.number)) ≡ Some n →
    (name : Name) × (o ≡ Some name) × (name.sender ≡ s) × (name.number ≡ n)
number_is s None n h = absurd (none-some _ h)
number_is s (Some name) n h = go (same_pid name.sender s) refl h where
  go : (b : Bool) → same_pid name.sender s ≡ b → cond b (Some name.number) None ≡ Some n →
      (x : Name) × (Some name ≡ Some x) × (x.sender ≡ s) × (x.number ≡ n)
  go true f g = (name, refl, same_pid_is name.sender s f, same_Some _ n g)
  go false f g = absurd (none-some _ g)

arrival_above : (c : Settings) (logs : Logs) (h : Happened) (q : ℕ) (s : Pid) (n : ℕ) → IsAged c logs → Does c logs h →
    arrival_at q s h ≡ Some n → AllBelow s n (logs q)
arrival_above c logs h q s n k (Nought host e) g = absurd (none-some _ (ap (arrival_at q s) (sym e) ∙ g))
arrival_above c logs h q s n k (Entered host event i e own sent) g =
    let x = arrival_is s q host event (entry_of c host (logs host) i) n (ap (arrival_at q s) (sym e) ∙ g) in
    let y = number_is s (arrival_in (entry_of c host (logs host) i)) n x.1 in
    subst (λ z. AllBelow s n (logs z)) x.0 (subst (λ z. AllBelow z n (logs host)) y.2
    (subst (λ z. AllBelow y.0.sender z (logs host)) y.3 (above_all c logs host i y.0 own sent k y.1)))

-- A number that arrived before.
abbrev pub HasNumber : Pid → ℕ → List Entry → Type 0
HasNumber s m [] = ⊥
HasNumber s m (e ∷ es) = (number_in s e ≡ Some m) ⊎ HasNumber s m es

below_has : (s : Pid) (m n : ℕ) (es : List Entry) → HasNumber s m es → AllBelow s n es → m < n
below_has s m n [] h a = absurd h
below_has s m n (e ∷ es) (inl h) a = let y = number_is s (arrival_in e) m h in let z =
    a.0 y.0 y.1 (ap (λ (x : Pid). same_pid x s) y.2 ∙ same_pid_self s) in let num = y.3 in omega arith
below_has s m n (e ∷ es) (inr h) a = below_has s m n es h a.1

has_more : (c : Settings) (logs : Logs) (h : Happened) (q : ℕ) (s : Pid) (m : ℕ) → Does c logs h → HasNumber s m (logs q) →
    HasNumber s m (logs_after logs h q)
has_more c logs h q s m (Nought host e) k = subst (λ h. HasNumber s m (logs_after logs h q)) (sym e) k
has_more c logs h q s m (Entered host event i e own sent) k = subst (λ h. HasNumber s m (logs_after logs h q)) (sym e)
    (each_host (λ h es. HasNumber s m (logs h) → HasNumber s m es) c logs host i (λ f g. inr (f g)) q (λ g. g) k)

has_new : (c : Settings) (logs : Logs) (h : Happened) (q : ℕ) (s : Pid) (n : ℕ) → Does c logs h → arrival_at q s h ≡ Some n →
    HasNumber s n (logs_after logs h q)
has_new c logs h q s n (Nought host e) g = absurd (none-some _ (ap (arrival_at q s) (sym e) ∙ g))
has_new c logs h q s n (Entered host event i e own sent) g =
    let x = arrival_is s q host event (entry_of c host (logs host) i) n (ap (arrival_at q s) (sym e) ∙ g) in
    subst (λ h. HasNumber s n (logs_after logs h q)) (sym e)
    (subst (λ z. HasNumber s n (with_entry logs host (entry_of c host (logs host) i) z)) x.0
    (subst (HasNumber s n) (sym (own_log logs host (entry_of c host (logs host) i))) (inl x.1)))

cons_above : (P : ℕ → Type 0) (o : Option ℕ) (ns : List ℕ) → ((n : ℕ) → o ≡ Some n → P n) → Each P ns → Each P (cons_option o ns)
cons_above P None ns h k = k
cons_above P (Some n) ns h k = (h n refl, k)

pub later_above : (c : Settings) (es : List Event) (logs : Logs) (q : ℕ) (s : Pid) (m : ℕ) → IsAged c logs → HasNumber s m (logs q) →
    Each (λ n. m < n) (numbers q s (history c logs es))
unfolding history
later_above c [] logs q s m k has = tt
later_above c (e ∷ es) logs q s m k has =
    let h = happened c logs e in
    let d = does c logs e k in
    cons_above (λ n. m < n) (arrival_at q s h) (numbers q s (history c (logs_after logs h) es))
    (λ n g. below_has s m n (logs q) has (arrival_above c logs h q s n k d g))
    (later_above c es (logs_after logs h) q s m (aged_event c logs e k) (has_more c logs h q s m d has))

rising_cons : (o : Option ℕ) (ns : List ℕ) → ((n : ℕ) → o ≡ Some n → Each (λ m. n < m) ns) → Rising ns → Rising (cons_option o ns)
rising_cons None ns h k = k
rising_cons (Some n) ns h k = (h n refl, k)

rising : (c : Settings) (es : List Event) (logs : Logs) (q : ℕ) (s : Pid) → IsAged c logs → Rising (numbers q s (history c logs es))
unfolding history
rising c [] logs q s k = tt
rising c (e ∷ es) logs q s k =
    let h = happened c logs e in
    let d = does c logs e k in
    let l = aged_event c logs e k in
    rising_cons (arrival_at q s h) (numbers q s (history c (logs_after logs h) es))
    (λ n g. later_above c es (logs_after logs h) q s n l (has_new c logs h q s n d g))
    (rising c es (logs_after logs h) q s l)

-- the same by steps
same_numbers : (c : Settings) (es : List Event) (logs : Logs) (q : ℕ) (s : Pid) → IsAged c logs →
    arrivals.arrivals q s (history c logs es) ≡ numbers q s (history c logs es)
unfolding history
same_numbers c [] logs q s k = refl
same_numbers c (e ∷ es) logs q s k =
    let h = happened c logs e in
    arrivals_are q s h (history c (logs_after logs h) es) (one_by c logs h (does c logs e k))
    (same_numbers c es (logs_after logs h) q s (aged_event c logs e k)) where
      one_by : (c : Settings) (logs : Logs) (h : Happened) → Does c logs h → IsOne h
      one_by c logs h (Nought host e) = subst IsOne (sym e) tt
      one_by c logs h (Entered host event i e own sent) = subst IsOne (sym e) (one_entry c host (reading c host (logs host)) i)

pub arrivals_rise : arrivals.ArrivalsRise
arrivals_rise c es q s = subst Rising (sym (same_numbers c es no_entries q s (aged_start c))) (rising c es no_entries q s (aged_start c))

has_arrived : (s : Pid) (name : Name) (es : List Entry) → same_pid name.sender s ≡ true → Arrived name es → HasNumber s name.number es
has_arrived s name [] of h = absurd h
has_arrived s name (e ∷ es) of (inl h) =
    inl (ap (λ (o : Option Name). o >>= λ name. only_if (same_pid name.sender s) (Some name.number)) h
    ∙ ap (λ b. only_if b (Some name.number)) of)
has_arrived s name (e ∷ es) of (inr h) = inr (has_arrived s name es of h)

pub freed_stay_old : arrivals.FreedStayOld
freed_stay_old c es later q s a found =
    let logs = logs_from c no_entries es in
    let k = aged_from c es no_entries (aged_start c) in
    let there = alien_there (reading c q (logs q)).slots s a found in
    subst (Each (λ n. a.name.number < n)) (sym (same_numbers c later logs q s k))
    (later_above c later logs q s a.name.number k (has_arrived s a.name (logs q) there.of (k.kept q there.place a there.is)))

-- An Arrive in the steps of an entry is what the entry lets arrive.
no_arrive : (s : Pid) (n : ℕ) (ss : List Step) → Each NotArrive ss → In (steps.Arrive s n) ss → ⊥
no_arrive s n [] h g = g
no_arrive s n (st ∷ ss) h (inl e) = none-some _ (sym h.0 ∙ ap as_arrival e)
no_arrive s n (st ∷ ss) h (inr g) = no_arrive s n ss h.1 g

arrive_by : (s : Pid) (n : ℕ) (ss : List Step) → One ss → In (steps.Arrive s n) ss →
    first_of (filter_map as_arrival ss) ≡ Some (name_of s n)
arrive_by s n ss (NoneComes h) g = absurd (no_arrive s n ss h g)
arrive_by s n ss (OneComes name rest e h) g = first_by s n ss name rest e h (subst (In (steps.Arrive s n)) e g) where
  first_by : (s : Pid) (n : ℕ) (ss : List Step) (name : Name) (rest : List Step) → ss ≡ steps.Arrive name.sender name.number ∷ rest →
      Each NotArrive rest → In (steps.Arrive s n) (steps.Arrive name.sender name.number ∷ rest) →
      first_of (filter_map as_arrival ss) ≡ Some (name_of s n)
  first_by s n ss name rest e h (inl f) = ap (λ ss. first_of (filter_map as_arrival ss)) e ∙ ap as_arrival f
  first_by s n ss name rest e h (inr g) = absurd (no_arrive s n rest h g)

-- where a station lets a Send arrive, its number is above all of its sender that arrived there before
pub new_above : (c : Settings) (logs : Logs) (q : ℕ) (i : Input) → IsOwn q i → WasSent logs i → IsAged c logs → (s : Pid) (n : ℕ) →
    In (steps.Arrive s n) (entry_of c q (logs q) i).steps
    → (d : Entry) → In d (logs q) → (m : ℕ) → In (steps.Arrive s m) d.steps → m < n
new_above c logs q i own sent k s n arrives d old m arrived =
    let comes = arrive_by s n (entry_of c q (logs q) i).steps (one_entry c q (reading c q (logs q)) i) arrives in
    let below = each_in (BelowIn s n) (logs q) d old (above_all c logs q i (name_of s n) own sent k comes) in
    below (name_of s m) (arrive_by s m d.steps (each_in (λ (d : Entry). One d.steps) (logs q) d old (k.ones q)) arrived) (same_pid_self s)

event_above : (c : Settings) (logs : Logs) (h : Happened) (q k : ℕ) (e : Entry) → IsAged c logs → Does c logs h → h ≡ At q k e →
    (s : Pid) (n : ℕ) → In (steps.Arrive s n) e.steps → (d : Entry) → In d (logs q) → (m : ℕ) → In (steps.Arrive s m) d.steps → m < n
event_above c logs h q k e aged (Nought host g) f s n arrives d old m arrived = absurd (let x : Missing host ≡ At q k e = sym g ∙ f in cc)
event_above c logs h q k e aged (Entered host event i g own sent) f s n arrives d old m arrived =
    let x : At host event (entry_of c host (logs host) i) ≡ At q k e = sym g ∙ f in
    let at : host ≡ q = cc in
    let is : entry_of c host (logs host) i ≡ e = cc in
    new_above c logs host i own sent aged s n (subst (λ (e : Entry). In (steps.Arrive s n) e.steps) (sym is) arrives) d
    (subst (λ q. In d (logs q)) (sym at) old) m arrived

pub arrivals_are_new : arrivals.ArrivalsAreNew
arrivals_are_new c es event q k e h = event_above c (logs_from c no_entries es) (happened c (logs_from c no_entries es) event) q k e
    (aged_from c es no_entries (aged_start c)) (does c (logs_from c no_entries es) event (aged_from c es no_entries (aged_start c))) h

-- A copy of a Send that is taken, and is above the alien.
taken_above : (c : Settings) (logs : Logs) (q : ℕ) (i : Input) → WasSent logs i → IsAged c logs → (s to : Pid) (n : ℕ)
    (message : Message) (part : List ℕ) → taken_packet (entry_of c q (logs q) i) ≡ Some (Send s to n message part)
    → ((a : Alien) → alien_of (reading c q (logs q)).slots s ≡ Some a → a.name.number < n) → (d : Entry) → In d (logs q) → (m : ℕ) →
    In (steps.Arrive s m) d.steps → m < n
taken_above c logs q i sent k s to n message part taken beyond d old m arrived =
    let r = reading c q (logs q) in
    let x = taken_copy c s to q n message part r (emitted (logs s.host)) i
    (λ h p e at_s. subst (λ n. In (record { header = h; packet = p }) (emitted (logs n))) at_s (sent h p e)) taken in
    let a = k.aged s q x.1 in
    let lt = copy_above c.times s q (reading c s.host (logs s.host)) r (emitted (logs s.host)) (emitted (logs q)) (logs q)
    (entry_of c q (logs q) i) n a x.0 beyond (alien_of r.slots s) refl in
    let below = each_in (CameBelow a.w s) (logs q) d old a.came in
    let last = below (name_of s m) (arrive_by s m d.steps (each_in (λ (d : Entry). One d.steps) (logs q) d old (k.ones q)) arrived)
    (same_pid_self s) in
    omega arith

taken_new : (c : Settings) (logs : Logs) (h : Happened) (q k : ℕ) (e : Entry) → IsAged c logs → Does c logs h → h ≡ At q k e →
    (s to : Pid) (n : ℕ) (message : Message) (part : List ℕ) → taken_packet e ≡ Some (Send s to n message part)
    → ((a : Alien) → alien_of (reading c q (logs q)).slots s ≡ Some a → a.name.number < n) → (d : Entry) → In d (logs q) → (m : ℕ) →
    In (steps.Arrive s m) d.steps → m < n
taken_new c logs h q k e aged (Nought host g) f s to n message part taken beyond d old m arrived =
    absurd (let x : Missing host ≡ At q k e = sym g ∙ f in cc)
taken_new c logs h q k e aged (Entered host event i g own sent) f s to n message part taken beyond d old m arrived =
    let x : At host event (entry_of c host (logs host) i) ≡ At q k e = sym g ∙ f in
    let at : host ≡ q = cc in
    let is : entry_of c host (logs host) i ≡ e = cc in
    taken_above c logs host i sent aged s to n message part (ap taken_packet is ∙ taken)
    (λ a found. beyond a (sym (ap (λ q. alien_of (reading c q (logs q)).slots s) at) ∙ found)) d
    (subst (λ q. In d (logs q)) (sym at) old) m arrived

pub taken_are_new : arrivals.TakenAreNew
taken_are_new c es event q k e h = taken_new c (logs_from c no_entries es) (happened c (logs_from c no_entries es) event) q k e
    (aged_from c es no_entries (aged_start c)) (does c (logs_from c no_entries es) event (aged_from c es no_entries (aged_start c))) h

pub aliens_are_apart : AliensAreApart
aliens_are_apart c es host =
    let keen = (aged_from c es no_entries (aged_start c)).keen host in
    record {
      once = keen.once;
      remote = keen.remote;
      shut = λ i a tick x at closed there. keen.shut i a tick at closed x there;
    }

-- The frames of a history are found by what their headers say.
use Rattle.std.proofs.Common.{◌≡◌, ℕ, zero, suc, ◌+◌, ◌-◌, ◌<◌, ◌==◌, ◌&&◌, not, true, false, cond, List, [], ◌∷◌, ◌++◌, length, map, Option, Some, None, option_map, refl, sym, ap, ◌∙◌, length-append, arith, inl, inr}
use Rattle.std.specs.Prelude.{slice_get}
use Rattle.std.proofs.lemmas.Bool.{both_ways, cases_eq, eq-eqb, ne_eqb, or_from, or_left}
use Rattle.std.proofs.lemmas.Grind.{flat_map-append}
use Rattle.std.proofs.lemmas.List.{append-nil, map-append}
use Rattle.std.proofs.lemmas.Option.{none-some, slice_get-map}
use Rattle.vk_base.specs.Options.{◌>>=◌}
use Rattle.vk_base.specs.Packets.{Packet}
use Rattle.vk_base.specs.Settings.{has_station, stations_of}
use Rattle.vk_cluster.specs.Found.{bytes_for, events_in, if_for, is_addressed, opens_for, sealed_events}
use Rattle.vk_cluster.specs.Piles.{frames_by_event, from_one}
use Rattle.vk_cluster.specs.Standing.{StandsFor, logs_of}
use Rattle.vk_cluster.specs.Values.{ClusterValue}
use Rattle.vk_cluster.proofs.Found.{one_last}
use Rattle.vk_cluster.proofs.Handed.{behind, opens_again}
use Rattle.vk_cluster.proofs.Logs.{with_other}
use Rattle.vk_cluster.proofs.Pieces.{from_one-map}
use Rattle.vk_schedule.specs.declared.event.Event.{Event}
use Rattle.vk_frame.specs.declared.header.Header.{Header}
use Rattle.vk_frame.specs.Reading.{frame_of}
use Rattle.vk_host.specs.Sealed.{sealed}
use Rattle.vk_rules.specs.Each.{Each}
use Rattle.vk_rules.specs.Entries.{Entry}
use Rattle.vk_rules.specs.Frames.{Frame, Framed, every_station, unsealed_by}
use Rattle.vk_rules.specs.Histories.{At, Happened, Logs, Missing, with_entry}
use Rattle.vk_rules.specs.Laws.{FramesUnsealAgain, HaveHeaders}
use Rattle.vk_rules.proofs.Lists.{each_append, each_at, each_weaker}
use Rattle.vk_rules.proofs.OwnEvents.{own_log}
use Rattle.v_lawful.specs.Sending.{IsLawfulFrame}
use Rattle.vk_drive.specs.Driving.{IsEmitted, all_frames, emitted_at, frames_in}
use Rattle.vk_drive.specs.Tasks.{settings, specs}
use Rattle.vk_drive.specs.Told.{all_emitted, emitted_in, headers}
use Rattle.vk_drive.proofs.Kept.{header_at}

-- Their headers are those that were emitted.

header_in : (h : Happened) → emitted_in h ≡ headers (frames_in h)
header_in (At host event e) = refl
header_in (Missing host) = refl

pub headers_are : (hs : List Happened) → all_emitted hs ≡ headers (all_frames hs)
headers_are [] = refl
headers_are (h ∷ hs) =
    (λ i. header_in h i ++ headers_are hs i) ∙ sym (map-append (λ (f : Frame). f.header) (frames_in h) (all_frames hs))

pub frames_more : (hs : List Happened) (h : Happened) → all_frames (hs ++ h ∷ []) ≡ all_frames hs ++ frames_in h
frames_more hs h = flat_map-append frames_in hs (h ∷ []) ∙ ap (λ l. all_frames hs ++ l) (append-nil (frames_in h))

-- What is in a list stays where it is when the list grows.

get_kept : {A : Type 0} (xs ys : List A) (n : ℕ) (x : A) → slice_get xs n ≡ Some x → slice_get (xs ++ ys) n ≡ Some x
get_kept [] ys n x found = absurd (none-some x found)
get_kept (z ∷ xs) ys zero x found = found
get_kept (z ∷ xs) ys (suc n) x found = get_kept xs ys n x found

one_kept : {A : Type 0} (xs ys : List A) (n : ℕ) (x : A) → from_one xs n ≡ Some x → from_one (xs ++ ys) n ≡ Some x
one_kept xs ys zero x found = absurd (none-some x found)
one_kept xs ys (suc n) x found = get_kept xs ys n x found

event_kept : (events more : List (List Frame)) (event output : ℕ) (f : Frame) (o : Option (List Frame)) → from_one events event ≡ o →
    (o >>= λ fs. from_one fs output) ≡ Some f → (from_one (events ++ more) event >>= λ fs. from_one fs output) ≡ Some f
event_kept events more event output f None is found = absurd (none-some f found)
event_kept events more event output f (Some fs) is found =
    ap (λ p. p >>= λ gs. from_one gs output) (one_kept events more event fs is) ∙ found

events_count : (es : List Entry) → length (events_in es) ≡ length es
events_count [] = refl
events_count (e ∷ es) = let before = events_count es in omega (arith, before, length-append (events_in es) (e.frames ∷ []))

each_placed : {A : Type 0} (P : A → Type 0) (xs : List A) → ((n : ℕ) (x : A) → slice_get xs n ≡ Some x → P x) → Each P xs
each_placed P [] h = tt
each_placed P (x ∷ xs) h = (h zero x refl, each_placed P xs (λ n y found. h (suc n) y found))

-- A station has an entry more.
module _ (logs : Logs) (host : ℕ) (e : Entry) where
  abbrev pub after : Logs
  after = with_entry logs host e

  emitted_before : (f : Frame) → IsEmitted logs f → IsEmitted after f
  emitted_before f is =
      let event = f.header.event in
      let output = f.header.output in
      let find : List Entry → Option Frame = λ l. from_one (events_in l) event >>= λ fs. from_one fs output in
      record {
        at = elim (cases_eq f.header.source host) [
          | inl same ↦
              ap find (ap after same ∙ own_log logs host e)
              ∙ event_kept (events_in (logs host)) (e.frames ∷ []) event output f (from_one (events_in (logs host)) event) refl
              (ap (λ q. find (logs q)) (sym same) ∙ is.at)
          | inr other ↦ ap find (with_other logs host e f.header.source other) ∙ is.at
        ];
        lawful = is.lawful;
      }

  emitted_now : (stamp number : ℕ) → HaveHeaders host stamp number (length (logs host) + 1) 1 e.frames → Each IsLawfulFrame e.frames →
      (at : ℕ) (f : Frame) → slice_get e.frames at ≡ Some f → IsEmitted after f
  emitted_now stamp number have lawful at f found =
      let event : ℕ = length (logs host) + 1 in
      let one : suc at ≡ 1 + at = omega arith in
      let last : event ≡ length (events_in (logs host)) + 1 = let count = events_count (logs host) in omega (arith, count) in
      record {
        at =
            ap (emitted_at after) (header_at host stamp number event 1 (suc at) e.frames at f have found one)
            ∙ ap (λ l. from_one (events_in l) event >>= λ fs. from_one fs (suc at)) (own_log logs host e)
            ∙ ap (λ o. o >>= λ fs. from_one fs (suc at)) (one_last (events_in (logs host)) e.frames event last)
            ∙ found;
        lawful = each_at IsLawfulFrame e.frames at f lawful found;
      }

  pub emitted_all : (stamp number : ℕ) (fs : List Frame) → HaveHeaders host stamp number (length (logs host) + 1) 1 e.frames →
      Each IsLawfulFrame e.frames → Each (IsEmitted logs) fs → Each (IsEmitted after) (fs ++ e.frames)
  emitted_all stamp number fs have lawful before =
      each_append (IsEmitted after) fs e.frames (each_weaker (IsEmitted logs) (IsEmitted after) fs before emitted_before)
      (each_placed (IsEmitted after) e.frames (emitted_now stamp number have lawful))

-- The bytes of such a frame are those that its delivery finds.

far_station : (h : ℕ) → 4 < h → has_station specs h ≡ false
far_station h far =
    or_from (1 == h) _ (ne_eqb 1 h (λ same. omega (arith, far, same)))
    (or_from (2 == h) _ (ne_eqb 2 h (λ same. omega (arith, far, same)))
    (or_from (3 == h) _ (ne_eqb 3 h (λ same. omega (arith, far, same)))
    (or_from (4 == h) false (ne_eqb 4 h (λ same. omega (arith, far, same))) refl)))

pub station_place : (host : ℕ) → has_station specs host ≡ true → slice_get (stations_of specs) (host - 1) ≡ Some host
station_place zero has = cc
station_place (suc zero) has = refl
station_place (suc (suc zero)) has = refl
station_place (suc (suc (suc zero))) has = refl
station_place (suc (suc (suc (suc zero)))) has = refl
station_place (suc (suc (suc (suc (suc n))))) has =
    let far : 4 < suc (suc (suc (suc (suc n)))) = omega arith in
    absurd (both_ways (has_station specs (suc (suc (suc (suc (suc n)))))) (far_station (suc (suc (suc (suc (suc n))))) far) has)

opened : (to : ℕ) (o : Option (Header × List ℕ)) (h : Header) (p : Packet) → unsealed_by o ≡ Framed h p → opens_for to o ≡ is_addressed to h
opened to None h p is = cc
opened to (Some x) h p is = ap (is_addressed to) (behind x.0 _ h p is)

addressed : (h : Header) → is_addressed h.destination h ≡ true
addressed h = or_left (h.destination == h.destination) (h.destination == every_station && not (h.source == h.destination))
    (eq-eqb h.destination h.destination refl)

sealed_at : (output : ℕ) (f : Frame) (o : Option (List Frame)) → (o >>= λ fs. from_one fs output) ≡ Some f →
    (option_map (map sealed) o >>= λ fs. from_one fs output) ≡ Some (sealed f)
sealed_at output f None found = absurd (none-some f found)
sealed_at output f (Some fs) found = from_one-map sealed fs output ∙ ap (option_map sealed) found

pub found_again : FramesUnsealAgain → (es : List Event) (k : ClusterValue) (f : Frame) → StandsFor settings es k →
    IsEmitted (logs_of settings es) f →
    has_station specs f.header.source ≡ true →
    bytes_for f.header.destination (frames_by_event k.pile) (f.header.source - 1) f.header.event f.header.output ≡ Some (sealed f)
found_again unseal es k f st is station =
    let h : Header = f.header in
    let events = events_in (logs_of settings es h.source) in
    let stored : ℕ → List (List (List ℕ)) = λ q. sealed_events (logs_of settings es q) in
    let at : slice_get (frames_by_event k.pile) (h.source - 1) ≡ Some (sealed_events (logs_of settings es h.source)) =
    ap (λ l. slice_get l (h.source - 1)) st.stands.emitted ∙ slice_get-map stored (stations_of specs) (h.source - 1)
    ∙ ap (λ (o : Option ℕ). option_map stored o) (station_place h.source station) in
    ap (λ (o : Option (List (List (List ℕ)))). (o >>= λ s. from_one s h.event >>= λ fs. from_one fs h.output) >>= if_for h.destination) at
    ∙ ap (λ (o : Option (List (List ℕ))). (o >>= λ fs. from_one fs h.output) >>= if_for h.destination)
    (from_one-map (map sealed) events h.event)
    ∙ ap (λ o. o >>= if_for h.destination) (sealed_at h.output f (from_one events h.event) is.at)
    ∙ ap (λ b. cond b (Some (sealed f)) None)
    (opened h.destination (frame_of (sealed f)) h f.packet (opens_again unseal f is.lawful) ∙ addressed h)

-- The events of entries, as bytes are appended behind those that they name.
use Rattle.std.proofs.Common.{◌≡◌, ℕ, ◌+◌, ◌-◌, ◌≤◌, List, [], ◌∷◌, ◌++◌, length, map, take, drop, refl, ap, ◌∙◌, arith}
use Rattle.std.specs.List.{All, slice_index_or}
use Rattle.std.proofs.lemmas.List.{length-drop, take-append-le, drop-append-le, drop_at, take_all, map_push}
use Rattle.std.proofs.lemmas.List.Elements.{All-head, All-tail, All-push, All-same}
use Rattle.vk_types.specs.Types.{StationEvent}
use Rattle.vk_base.specs.declared.event.StationEvent.TheVariants as events
use Rattle.vk_brief.specs.Brief.{call_with}
use Rattle.vk_log.specs.declared.entry.Entry.{Entry}
use Rattle.vk_log.specs.declared.entry.Entry.TheVariants as entries
use Rattle.vk_log.specs.declared.entry.Part.{Part}
use Rattle.vk_log.specs.Logs.{IsWithin, event_in, part_in}

-- Bytes behind change no part that is within.
part_more : (bytes more : List ℕ) (p : Part) → p.from + p.count ≤ length bytes → part_in (bytes ++ more) p ≡ part_in bytes p
part_more bytes more p within =
    let start : p.from ≤ length bytes = omega arith in
    let rest : p.from + p.count - p.from ≤ length (drop p.from bytes) = omega (arith, length-drop p.from bytes) in
    ap (take (p.from + p.count - p.from)) (drop-append-le p.from bytes more start)
    ∙ take-append-le (p.from + p.count - p.from) (drop p.from bytes) more rest

-- They change no event of an entry that is within.
event_more : (bytes more : List ℕ) (e : Entry) → IsWithin (length bytes) e → event_in (bytes ++ more) e ≡ event_in bytes e
event_more bytes more (entries.Call pid part call) within = ap (λ b. events.Call pid (call_with b call)) (part_more bytes more part within.0)
event_more bytes more (entries.Collect pid) within = refl
event_more bytes more entries.Tick within = refl
event_more bytes more (entries.Deliver part) within = ap (λ b. events.Deliver b) (part_more bytes more part within.0)

-- They change no event of a list of entries that are within.
events_more : (bytes more : List ℕ) (es : List Entry) → All (IsWithin (length bytes)) es →
    map (event_in (bytes ++ more)) es ≡ map (event_in bytes) es
events_more bytes more [] within = refl
events_more bytes more (e ∷ es) within =
    ap (λ x. x ∷ map (event_in (bytes ++ more)) es) (event_more bytes more e (All-head (IsWithin (length bytes)) e es within))
    ∙ ap (λ l. event_in bytes e ∷ l) (events_more bytes more es (All-tail (IsWithin (length bytes)) e es within))

-- What was appended is the part behind all others.
pub part_new : (bytes more : List ℕ) (p : Part) → p.from ≡ length bytes → p.count ≡ length more → part_in (bytes ++ more) p ≡ more
part_new bytes more p start size =
    let all : length more ≤ p.from + p.count - p.from = omega arith in
    ap (take (p.from + p.count - p.from)) (drop_at bytes more p.from (omega arith)) ∙ take_all (p.from + p.count - p.from) more all

-- One entry more, whose bytes were appended, is one event more.
pub pushed : (bytes more : List ℕ) (es : List Entry) (e : Entry) (event : StationEvent) → All (IsWithin (length bytes)) es →
    event_in (bytes ++ more) e ≡ event →
    map (event_in (bytes ++ more)) (es ++ e ∷ []) ≡ map (event_in bytes) es ++ event ∷ []
pushed bytes more es e event within is =
    map_push (event_in (bytes ++ more)) es e
    ∙ ap (λ l. l ++ event_in (bytes ++ more) e ∷ []) (events_more bytes more es within)
    ∙ ap (λ x. map (event_in bytes) es ++ x ∷ []) is

-- An entry within these bytes is within more.
within_more : (n m : ℕ) (e : Entry) → n ≤ m → IsWithin n e → IsWithin m e
within_more n m (entries.Call pid part call) more within = (omega arith, within.1)
within_more n m (entries.Collect pid) more within = tt
within_more n m entries.Tick more within = tt
within_more n m (entries.Deliver part) more within = (omega arith, within.1)

-- One entry more that is within, and all are.
pub pushed_within : (n m : ℕ) (es after : List Entry) (e : Entry) → after ≡ es ++ e ∷ [] → n ≤ m → All (IsWithin n) es → IsWithin m e →
    All (IsWithin m) after
pushed_within n m es after e is more within new =
    let all : All (IsWithin m) es = λ k d low. within_more n m (slice_index_or es k d) more (within k d low) in
    All-same (IsWithin m) after (es ++ e ∷ []) is (All-push (IsWithin m) es e all new)

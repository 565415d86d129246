-- Sums over a station's history are sums over its entries.
use Rattle.std.proofs.Common.{◌≡◌, ℕ, ◌+◌, Bool, true, Option, Some, None, List, [], ◌∷◌, ◌++◌, length, cond, refl, sym, ap, ◌∙◌, arith, append_assoc, append-nil}
use Rattle.std.specs.Option.{option_map}
use Rattle.vk_types.specs.Types.{StationEvent}
use Rattle.vk_base.specs.declared.event.StationEvent.TheVariants as events
use Rattle.vk_base.specs.Kernel.{holds_of}
use Rattle.vk_base.specs.Packets.{Packet}
use Rattle.vk_base.specs.Settings.{Settings}
use Rattle.vk_frame.specs.declared.header.Header.{Header}
use Rattle.vk_frame.specs.Reading.{frame_of}
use Rattle.vk_packet.specs.Reading.{packet_of}
use Rattle.vk_host.specs.Values.{input_of}
use Rattle.vk_hub.specs.Links.{Frame, header_of}
use Rattle.vk_port.specs.Stations.{StationHistory, entries_at, entry_at}
use Rattle.vk_port.proofs.Histories.{entries_more}
use Rattle.vk_rules.specs.Entries.{Entry, is_delivery, is_tick}
use Rattle.vk_rules.specs.Frames.{unsealed_behind, unsealed_by}
unfoldable use Rattle.vk_rules.specs.Right.{right_entry}
use Rattle.v_run.specs.Outcomes.{brings, deliveries_in, frames_in, has_numbers, opens_with, ticks_in, times_taken}
use Rattle.v_run.specs.Passages.{fresh_station}
use Rattle.v_run.proofs.Totals.{added, total}
use Rattle.v_run.proofs.Counts.{delivers}

pub input_is : (o : StationHistory) (before : List (ℕ × StationEvent)) (e : StationEvent) → (entry_at o before e).input ≡ input_of e
unfolding right_entry
input_is o before e = refl

pub sums_are : (f : Entry → ℕ) (o : StationHistory) (acc xs : List (ℕ × StationEvent))
    → total (λ before e. f (entry_at o before e)) acc xs + added f (entries_at o acc) ≡ added f (entries_at o (acc ++ xs))
sums_are f o acc [] = plus (added f (entries_at o acc)) ∙ ap (λ l. added f (entries_at o l)) (sym (append-nil acc))
  where
    plus : (n : ℕ) → 0 + n ≡ n
    plus n = omega arith
sums_are f o acc (x ∷ xs) =
    let more = acc ++ x ∷ [] in
    let rest = sums_are f o more xs in
    let one : added f (entries_at o more) ≡ f (entry_at o acc x.1) + added f (entries_at o acc) = ap (added f) (entries_more o acc x) in
    let whole : added f (entries_at o (more ++ xs)) ≡ added f (entries_at o (acc ++ (x ∷ xs))) =
    ap (λ l. added f (entries_at o l)) (append_assoc acc (x ∷ []) xs) in
    let sum : (f (entry_at o acc x.1) + total (λ before e. f (entry_at o before e)) more xs) + added f (entries_at o acc)
    ≡ added f (entries_at o (more ++ xs)) = omega arith in
    sum ∙ whole

-- Ticks, deliveries and frames, of a history and of its entries.
abbrev pub tick_of : StationEvent → ℕ
tick_of events.Tick = 1
tick_of e = 0

tick_is : (e : StationEvent) → tick_of e ≡ cond (is_tick (input_of e)) 1 0
tick_is (events.Call pid call) = refl
tick_is (events.Collect pid) = refl
tick_is events.Tick = refl
tick_is (events.Deliver f) = refl

delivery_is : (e : StationEvent) → delivers (λ f. true) e ≡ cond (is_delivery (input_of e)) 1 0
delivery_is (events.Call pid call) = refl
delivery_is (events.Collect pid) = refl
delivery_is events.Tick = refl
delivery_is (events.Deliver f) = refl

abbrev pub is_named : (from event output : ℕ) → Frame → Bool
is_named from event output f = holds_of (has_numbers from event output) (header_of f)

behind_is : (from event output : ℕ) (h : Header) (p : Option Packet)
    → has_numbers from event output h ≡ opens_with from event output (unsealed_behind h p)
behind_is from event output h None = refl
behind_is from event output h (Some p) = refl

opened_is : (from event output : ℕ) (o : Option (Header × List ℕ))
    → holds_of (has_numbers from event output) (option_map (λ (h : Header × List ℕ). h.0) o) ≡ opens_with from event output (unsealed_by o)
opened_is from event output None = refl
opened_is from event output (Some f) = behind_is from event output f.0 (packet_of f.1)

named_is : (from event output : ℕ) (e : StationEvent) → delivers (is_named from event output) e
    ≡ cond (brings from event output (input_of e)) 1 0
named_is from event output (events.Call pid call) = refl
named_is from event output (events.Collect pid) = refl
named_is from event output events.Tick = refl
named_is from event output (events.Deliver f) = ap (λ (b : Bool). cond {A = ℕ} b 1 0) (opened_is from event output (frame_of f))

pub total_same : {E : Type 0} (w v : List (ℕ × E) → E → ℕ) (acc xs : List (ℕ × E))
    → ((before : List (ℕ × E)) (e : E) → w before e ≡ v before e)
    → total w acc xs ≡ total v acc xs
total_same w v acc [] same = refl
total_same w v acc (x ∷ xs) same =
    let one = same acc x.1 in let rest = total_same w v (acc ++ x ∷ []) xs same in omega arith

ticks_sum : (es : List Entry) → ticks_in es ≡ added (λ e. cond (is_tick e.input) 1 0) es
ticks_sum [] = refl
ticks_sum (e ∷ es) = ap (λ n. cond (is_tick e.input) 1 0 + n) (ticks_sum es)

deliveries_sum : (es : List Entry) → deliveries_in es ≡ added (λ e. cond (is_delivery e.input) 1 0) es
deliveries_sum [] = refl
deliveries_sum (e ∷ es) = ap (λ n. cond (is_delivery e.input) 1 0 + n) (deliveries_sum es)

times_sum : (from event output : ℕ) (es : List Entry) → times_taken from event output es
    ≡ added (λ e. cond (brings from event output e.input) 1 0) es
times_sum from event output [] = refl
times_sum from event output (e ∷ es) = ap (λ n. cond (brings from event output e.input) 1 0 + n) (times_sum from event output es)

pub frames_sum : (es : List Entry) → frames_in es ≡ added (λ e. length e.frames) es
frames_sum [] = refl
frames_sum (e ∷ es) = ap (λ n. length e.frames + n) (frames_sum es)

module _ (c : Settings) (h : ℕ) (history : List (ℕ × StationEvent)) where
  abbrev O : StationHistory
  O = fresh_station c h

  -- a sum over entries
  pub by_entries : (f : Entry → ℕ) → total (λ before e. f (entry_at O before e)) [] history ≡ added f (entries_at O history)
  by_entries f = plus (total (λ before e. f (entry_at O before e)) [] history) ∙ sums_are f O [] history
    where
      plus : (n : ℕ) → n ≡ n + 0
      plus n = omega arith

  pub ticks_are : total (λ before e. tick_of e) [] history ≡ ticks_in (entries_at O history)
  ticks_are =
      total_same (λ before e. tick_of e) (λ before e. cond (is_tick (entry_at O before e).input) 1 0) [] history
      (λ before e. tick_is e ∙ ap (λ i. cond (is_tick i) 1 0) (sym (input_is O before e)))
      ∙ (by_entries (λ e. cond (is_tick e.input) 1 0) ∙ sym (ticks_sum (entries_at O history)))

  pub deliveries_are : total (λ before e. delivers (λ f. true) e) [] history ≡ deliveries_in (entries_at O history)
  deliveries_are =
      total_same (λ before e. delivers (λ f. true) e) (λ before e. cond (is_delivery (entry_at O before e).input) 1 0) [] history
      (λ before e. delivery_is e ∙ ap (λ i. cond (is_delivery i) 1 0) (sym (input_is O before e)))
      ∙ (by_entries (λ e. cond (is_delivery e.input) 1 0) ∙ sym (deliveries_sum (entries_at O history)))

  pub times_are : (from event output : ℕ) → total (λ before e. delivers (is_named from event output) e) [] history
      ≡ times_taken from event output (entries_at O history)
  times_are from event output =
      total_same (λ before e. delivers (is_named from event output) e) (λ before e. cond (brings from event output (entry_at O before
      e).input) 1 0)
      [] history
      (λ before e. named_is from event output e ∙ ap (λ i. cond (brings from event output i) 1 0) (sym (input_is O before e)))
      ∙ (by_entries (λ e. cond (brings from event output e.input) 1 0) ∙ sym (times_sum from event output (entries_at O history)))

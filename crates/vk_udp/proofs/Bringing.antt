-- What a link handed out, and what the port delivered of it.
use Rattle.std.proofs.Common.{◌≡◌, ◌==◌, ◌&&◌, ◌||◌, not, ℕ, inl, inr, Bool, true, false, Option, Some, None, List, [], ◌∷◌, ◌++◌, filter, length, refl, sym, ap, ◌∙◌, subst, append_assoc, append-nil}
use Rattle.std.specs.Prelude.{Err, Ok, Result, cond, option_map}
use Rattle.vk_base.specs.declared.limits.TheConstants.{LAST_NUMBER}
use Rattle.std.proofs.lemmas.List.Elements.{filter-append}
use mathlib.Core.List.{IsPrefix}
use Rattle.vk_types.specs.Types.{EventAnswer, StationEvent}
use Rattle.turn_cell.specs.declared.replay.Room.{Room}
use Rattle.turn_cell.specs.declared.replay.Room.TheVariants as rooms
use Rattle.vk_base.specs.declared.event.StationEvent.TheVariants as events
use Rattle.vk_base.specs.Kernel.{holds_of}
use Rattle.vk_frame.specs.Reading.{frame_of}
use Rattle.vk_frame.specs.declared.header.Header.{Header}
use Rattle.vk_hub.specs.declared.event.HubEvent.TheVariants as hub_events
use Rattle.vk_hub.specs.Links.{Frame}
use Rattle.vk_port.specs.Ports.{Action, AtHub, AtStation, Delivers, Drops, Enters, HasMade, Hears, IsCutEvent, IsMet, IsRefused, Met, PortValue}
use Rattle.vk_packet.specs.Reading.{packet_of}
use Rattle.vk_rules.specs.Frames.{every_station, number_in, unsealed_by}
use Rattle.vk_port.specs.Stations.{StationHistory, brings_last_number, frames_at, is_used_up}
use Rattle.vk_port.proofs.Logs.{does_more, does_nothing}
use Rattle.vk_port.proofs.Opening.{number_behind}
use Rattle.v_node.specs.Links.{IsDelivery, OnlyBrings, brought_by, frame_in, is_kept, is_welcome}
use Rattle.vk_threads.proofs.Playing.{met_own}
use Rattle.vk_threads.specs.Works.{FindsFull}
use Rattle.vk_udp.specs.Carried.{HasBrought, IsBrought, IsPortFull, room_in}
use Rattle.vk_udp.specs.declared.carrier.Heard.{Heard}
use Rattle.vk_udp.specs.declared.carrier.Heard.TheVariants as heard

brought_append : (xs ys : List Action) → brought_by (xs ++ ys) ≡ brought_by xs ++ brought_by ys
brought_append [] ys = refl
brought_append (Enters before e posted ∷ xs) ys =
    ap (λ l. frame_in e ++ l) (brought_append xs ys) ∙ sym (append_assoc (frame_in e) (brought_by xs) (brought_by ys))
brought_append (Delivers heard frame before posted ∷ xs) ys = brought_append xs ys
brought_append (Drops heard frame ∷ xs) ys = brought_append xs ys
brought_append (Hears heard ∷ xs) ys = brought_append xs ys

only_brings : (xs ys : List Action) → OnlyBrings xs → OnlyBrings ys → OnlyBrings (xs ++ ys)
only_brings [] ys one two = two
only_brings (Enters before e posted ∷ xs) ys one two = (one.0, only_brings xs ys one.1 two)
only_brings (Delivers heard frame before posted ∷ xs) ys one two = absurd one
only_brings (Drops heard frame ∷ xs) ys one two = absurd one
only_brings (Hears heard ∷ xs) ys one two = absurd one

told_append : (told : Option (List Frame)) (xs ys : List Frame)
    → option_map (λ all. all ++ ys) (option_map (λ all. all ++ xs) told) ≡ option_map (λ all. all ++ (xs ++ ys)) told
told_append None xs ys = refl
told_append (Some all) xs ys = ap Some (append_assoc all xs ys)

told_nothing : (told : Option (List Frame)) → told ≡ option_map (λ all. all ++ []) told
told_nothing None = refl
told_nothing (Some all) = ap Some (sym (append-nil all))

whole_front : {A : Type 0} (xs : List A) → IsPrefix xs xs
whole_front xs = ([], append-nil xs)

prefix_behind : {A : Type 0} (front xs ys : List A) → IsPrefix xs ys → IsPrefix (front ++ xs) (front ++ ys)
prefix_behind front xs ys p = (p.0, append_assoc front xs p.0 ∙ ap (λ l. front ++ l) p.1)

module _ (host : ℕ) where
  abbrev keep : List Frame → List Frame
  keep = filter (is_kept host)

  pub brought_none : (p : PortValue) (l m : Option (List Frame)) → m ≡ l → HasBrought host p p l m None
  brought_none p l m told = record {
    acts = [];
    got = [];
    does = does_nothing p;
    brings = tt;
    brought = whole_front [];
    whole = λ none. refl;
    told = told ∙ told_nothing l;
  }

  -- one stretch behind another, in which no Room was met
  pub brought_more : (p q r : PortValue) (k l m : Option (List Frame)) (met : Option Room) → HasBrought host p q k l None → HasBrought host q r l m met
      → HasBrought host p r k m met
  brought_more p q r k l m met one two =
      let acts = brought_append one.acts two.acts ∙ ap (λ x. x ++ brought_by two.acts) (one.whole refl) in
      let got : keep (one.got ++ two.got) ≡ keep one.got ++ keep two.got = filter-append (is_kept host) one.got two.got in record {
        acts = one.acts ++ two.acts;
        got = one.got ++ two.got;
        does = does_more p q r one.acts two.acts one.does two.does;
        brings = only_brings one.acts two.acts one.brings two.brings;
        brought = subst (λ x. IsPrefix x (keep (one.got ++ two.got))) (sym acts)
            (subst (IsPrefix (keep one.got ++ brought_by two.acts)) (sym got) (prefix_behind (keep one.got) (brought_by two.acts) (keep two.got) two.brought));
        whole = λ none. acts ∙ (ap (λ x. keep one.got ++ x) (two.whole none) ∙ sym got);
        told = two.told ∙ (ap (λ t. option_map (λ all. all ++ two.got) t) one.told ∙ told_append k one.got two.got);
      }

  kept_one : (frame : Frame) → is_kept host frame ≡ true → keep (frame ∷ []) ≡ frame ∷ []
  kept_one frame is = ap (λ b. cond b (frame ∷ []) []) is

  dropped_one : (frame : Frame) → is_kept host frame ≡ false → keep (frame ∷ []) ≡ []
  dropped_one frame is = ap (λ b. cond b (frame ∷ []) []) is

  -- a datagram that is no frame for this station
  pub brought_dropped : (p : PortValue) (l m : Option (List Frame)) (frame : Frame) → is_kept host frame ≡ false
      → m ≡ option_map (λ all. all ++ frame ∷ []) l → HasBrought host p p l m None
  brought_dropped p l m frame is told = record {
    acts = [];
    got = frame ∷ [];
    does = does_nothing p;
    brings = tt;
    brought = subst (IsPrefix []) (sym (dropped_one frame is)) (whole_front []);
    whole = λ none. sym (dropped_one frame is);
    told = told;
  }

  -- one that was delivered
  pub brought_one : (p q : PortValue) (l m : Option (List Frame)) (frame : Frame) (a : EventAnswer) → is_kept host frame ≡ true
      → m ≡ option_map (λ all. all ++ frame ∷ []) l → HasMade p q [] (events.Deliver frame) a → HasBrought host p q l m None
  brought_one p q l m frame a is told made = record {
    acts = Enters made.before (events.Deliver frame) (length (frames_at p.station.origin made.before (events.Deliver frame))) ∷ [];
    got = frame ∷ [];
    does = made.does;
    brings = (tt, tt);
    brought = subst (IsPrefix (frame ∷ [])) (sym (kept_one frame is)) (whole_front (frame ∷ []));
    whole = λ none. sym (kept_one frame is);
    told = told;
  }

  cut_brings : (o : StationHistory) (frame : Frame) (last : List Action) (m : Met) → IsCutEvent o (events.Deliver frame) last m
      → OnlyBrings last × IsPrefix (brought_by last) (frame ∷ [])
  cut_brings o frame [] m cut = (tt, (frame ∷ [], refl))
  cut_brings o frame (Enters before x posted ∷ []) (AtHub (hub_events.Post f)) cut =
      let P : StationEvent → Type 0 = λ y. (IsDelivery y × Unit {0}) × IsPrefix (frame_in y ++ []) (frame ∷ []) in
      subst P (sym cut.0) ((tt, tt), whole_front (frame ∷ []))
  cut_brings o frame (Enters before x posted ∷ []) (AtHub (hub_events.Fetch h)) cut = absurd cut
  cut_brings o frame (Enters before x posted ∷ []) (AtHub hub_events.Finished) cut = absurd cut
  cut_brings o frame (Enters before x posted ∷ []) (AtHub hub_events.Halt) cut = absurd cut
  cut_brings o frame (Enters before x posted ∷ []) (AtStation y) cut = absurd cut
  cut_brings o frame (Enters before x posted ∷ (y ∷ ys)) m cut = absurd cut
  cut_brings o frame (Delivers heard f before posted ∷ xs) m cut = absurd cut
  cut_brings o frame (Drops heard f ∷ xs) m cut = absurd cut
  cut_brings o frame (Hears heard ∷ xs) m cut = absurd cut

  -- one whose delivery met a Room
  pub brought_cut : (p q : PortValue) (l m : Option (List Frame)) (frame : Frame) (why : Room) → is_kept host frame ≡ true
      → m ≡ option_map (λ all. all ++ frame ∷ []) l → IsRefused p q why [] (IsCutEvent p.station.origin (events.Deliver frame))
      → HasBrought host p q l m (Some why)
  brought_cut p q l m frame why is told it =
      let cut = cut_brings p.station.origin frame it.last it.met it.cut in record {
        acts = it.last;
        got = frame ∷ [];
        does = it.does;
        brings = cut.0;
        brought = subst (IsPrefix (brought_by it.last)) (sym (kept_one frame is)) cut.1;
        whole = λ none. absurd (cc none);
        told = told;
      }

-- a frame that is kept does not bear the last number
and_right : (a b : Bool) → (a && not b) ≡ true → b ≡ false
and_right true true is = absurd (cc is)
and_right true false is = refl
and_right false b is = absurd (cc is)

opened_number : (host : ℕ) (o : Option (Header × List ℕ))
    → holds_of (is_welcome host) (option_map (λ (h : Header × List ℕ). h.0) o) ≡ true → (number_in (unsealed_by o) == LAST_NUMBER) ≡ false
opened_number host None is = absurd (cc is)
opened_number host (Some f) is =
    ap (λ n. n == LAST_NUMBER) (number_behind f.0 (packet_of f.1))
    ∙ and_right (f.0.destination == host || f.0.destination == every_station) (f.0.number == LAST_NUMBER) is

pub kept_number : (host : ℕ) (frame : Frame) → is_kept host frame ≡ true → brings_last_number (events.Deliver frame) ≡ false
kept_number host frame is = opened_number host (frame_of frame) is

port_full : (p q : PortValue) → q.station.origin ≡ p.station.origin → FindsFull q [] → IsPortFull p q
port_full p q o (inl used) = inl (subst (λ x. is_used_up x q.seat.seen ≡ true) o used)
port_full p q o (inr (inl dropped)) = absurd dropped.1
port_full p q o (inr (inr full)) = inr full

pub the_room : (w : Room) → Some w ≡ Some rooms.Full → w ≡ rooms.Full
the_room w e = cc e

pub full_delivery : (host : ℕ) (p q : PortValue) (frame : Frame) (why : Room) → is_kept host frame ≡ true
    → IsRefused p q why [] (IsCutEvent p.station.origin (events.Deliver frame)) → Some why ≡ Some rooms.Full → IsPortFull p q
full_delivery host p q frame why is it full =
    port_full p q (ap (λ x. x.origin) it.does.same.station)
    (met_own q [] p.station.origin (events.Deliver frame) (kept_number host frame is) it.last it.met it.cut
    (subst (λ (w : Room). IsMet q w it.met) (the_room why full) it.is_met))

-- one datagram that was handed out
pub heard_one : (host : ℕ) (p q : PortValue) (l m : Option (List Frame)) (frame : Frame) (result : Result Heard Room)
    → IsBrought host p q frame result → m ≡ option_map (λ all. all ++ frame ∷ []) l
    → HasBrought host p q l m (room_in result)
heard_one host p q l m frame (Ok heard.Datagram) (inl (dropped, same)) told =
    subst (λ x. HasBrought host p x l m None) (sym same) (brought_dropped host p l m frame dropped told)
heard_one host p q l m frame (Ok heard.Datagram) (inr (kept, a, made)) told = brought_one host p q l m frame a kept told made
heard_one host p q l m frame (Ok heard.Nothing) is told = absurd is
heard_one host p q l m frame (Ok heard.Failed) is told = absurd is
heard_one host p q l m frame (Err why) is told = brought_cut host p q l m frame why is.0 told is.1

pub heard_full : (host : ℕ) (p q : PortValue) (frame : Frame) (result : Result Heard Room) → IsBrought host p q frame result
    → room_in result ≡ Some rooms.Full → IsPortFull p q
heard_full host p q frame (Ok x) is full = absurd (cc full)
heard_full host p q frame (Err why) is full = full_delivery host p q frame why is.0 is.1 full

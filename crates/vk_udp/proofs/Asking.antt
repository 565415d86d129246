-- The asks of one seat of the hub, one behind the other, and what is sent for them.
use Rattle.std.proofs.Common.{◌≡◌, ℕ, zero, suc, ◌+◌, Option, Some, None, List, [], ◌∷◌, ◌++◌, map, refl, sym, ap, ◌∙◌, subst, append_assoc, append-nil, arith}
use mathlib.Core.List.{IsPrefix}
use Rattle.vk_event.specs.declared.port.StationPort.{StationPort}
use Rattle.vk_hub.specs.declared.event.Fetched.{Fetched}
use Rattle.vk_hub.specs.declared.event.Fetched.TheVariants as fetched
use Rattle.vk_hub.specs.declared.event.HubEvent.{HubEvent}
use Rattle.vk_hub.specs.declared.event.HubEvent.TheVariants as hub_events
use Rattle.vk_hub.specs.Hubs.{HubLog}
use Rattle.vk_port.proofs.Fronts.{prefix_over}
use Rattle.vk_rules.specs.Each.{Each}
use Rattle.vk_rules.proofs.Lists.{each_append, each_front}
use Rattle.v_node.specs.Links.{AreErrands, Errand, HubStand, stop_count}
use Rattle.vk_udp.specs.Asked.{AreAsks, Ask, IsAsk, after_ask, entered, errands_in, own_behind, rounds_of, seen_behind, sending, sent_for}
use Rattle.vk_udp.specs.Wires.{IsMore}

-- WHAT IS TOLD
pub more_none : {A : Type 0} (told : Option (List A)) → IsMore told told []
more_none None = tt
more_none (Some all) = sym (append-nil all)

pub more_more : {A : Type 0} (a b c : Option (List A)) (xs ys : List A) → IsMore a b xs → IsMore b c ys → IsMore a c (xs ++ ys)
more_more None None None xs ys one two = tt
more_more (Some a) None None xs ys one two = tt
more_more (Some a) (Some b) None xs ys one two = tt
more_more None (Some b) c xs ys one two = absurd one
more_more None None (Some c) xs ys one two = absurd two
more_more (Some a) None (Some c) xs ys one two = absurd two
more_more (Some a) (Some b) (Some c) xs ys one two = two ∙ (ap (λ l. l ++ ys) one ∙ append_assoc a xs ys)

-- ASKS ONE BEHIND THE OTHER
module _ (n : ℕ) (o : HubLog) where
  asks_later : (s t : HubStand) (asks : List Ask) (u : HubStand) → IsPrefix s.heard t.heard → t.sent ≡ s.sent → AreAsks n o t asks u
      → AreAsks n o s asks u
  asks_later s t [] u later sent are = (prefix_over s.heard t.heard u.heard later are.0, are.1 ∙ sent)
  asks_later s t (a ∷ asks) u later sent are = (
    record {
      later = prefix_over s.heard t.heard a.before later are.0.later;
      mine = are.0.mine ∙ sent;
      answered = are.0.answered;
      posted = are.0.posted;
    },
    subst (λ own. AreAsks n o (record { heard = seen_behind n a.there.host a.before a.answer; sent = own_behind own a.there.host a.answer }) asks u)
        sent are.1,
  )

  pub asks_append : (s : HubStand) (xs : List Ask) (t : HubStand) (ys : List Ask) (u : HubStand) → AreAsks n o s xs t → AreAsks n o t ys u
      → AreAsks n o s (xs ++ ys) u
  asks_append s [] t ys u one two = asks_later s t ys u one.0 one.1 two
  asks_append s (a ∷ xs) t ys u one two = (one.0, asks_append (after_ask n s a) xs t ys u one.1 two)

  -- those that were entered are errands
  errands_later : (s t : HubStand) (es : List Errand) (u : HubStand) → IsPrefix s.heard t.heard → t.sent ≡ s.sent → AreErrands n o t es u
      → AreErrands n o s es u
  errands_later s t [] u later sent are = (prefix_over s.heard t.heard u.heard later are.0, are.1 ∙ sent)
  errands_later s t (e ∷ es) u later sent are = (
    record {
      later = prefix_over s.heard t.heard e.before later are.0.later;
      mine = are.0.mine ∙ sent;
      answered = are.0.answered;
      some = are.0.some;
    },
    subst (λ l. AreErrands n o (record { heard = e.before ++ (n, hub_events.Fetch e.host) ∷ []; sent = l ++ hub_events.Fetch e.host ∷ [] }) es u) sent
        are.1,
  )

  errand_first : (s : HubStand) (p : StationPort) (before : List (ℕ × HubEvent)) (f : Fetched) (es : List Errand) (u : HubStand)
      → IsAsk n o s (record { there = p; before = before; answer = f })
      → AreErrands n o (after_ask n s (record { there = p; before = before; answer = f })) es u
      → AreErrands n o s (entered p before f ++ es) u
  errand_first s p before fetched.Nothing es u is rest =
      errands_later s (record { heard = before; sent = s.sent }) es u is.later refl rest
  errand_first s p before (fetched.Frame frame) es u is rest =
      (record { later = is.later; mine = is.mine; answered = is.answered; some = λ e. absurd (cc e) }, rest)
  errand_first s p before fetched.Stopped es u is rest =
      (record { later = is.later; mine = is.mine; answered = is.answered; some = λ e. absurd (cc e) }, rest)

  pub asks_are_errands : (s : HubStand) (asks : List Ask) (u : HubStand) → AreAsks n o s asks u → AreErrands n o s (errands_in asks) u
  asks_are_errands s [] u are = are
  asks_are_errands s (a ∷ asks) u are =
      errand_first s a.there a.before a.answer (errands_in asks) u are.0 (asks_are_errands (after_ask n s a) asks u are.1)

-- WHAT THEY CAME TO
pub there_append : (xs ys : List Ask) → map (λ (a : Ask). a.there) (xs ++ ys) ≡ map (λ (a : Ask). a.there) xs ++ map (λ (a : Ask). a.there) ys
there_append [] ys = refl
there_append (a ∷ xs) ys = ap (λ l. a.there ∷ l) (there_append xs ys)

pub sent_append : (xs ys : List Ask) → sent_for (xs ++ ys) ≡ sent_for xs ++ sent_for ys
sent_append [] ys = refl
sent_append (a ∷ xs) ys =
    ap (λ l. sending a.there a.answer ++ l) (sent_append xs ys) ∙ sym (append_assoc (sending a.there a.answer) (sent_for xs) (sent_for ys))

stops_append : (xs ys : List Errand) → stop_count (xs ++ ys) ≡ stop_count xs + stop_count ys
stops_append [] ys = omega arith
stops_append (e ∷ es) ys = let rest = stops_append es ys in omega arith

pub asks_stops : (xs ys : List Ask) → stop_count (errands_in (xs ++ ys)) ≡ stop_count (errands_in xs) + stop_count (errands_in ys)
asks_stops [] ys = omega arith
asks_stops (a ∷ xs) ys =
    let first = stops_append (entered a.there a.before a.answer) (errands_in (xs ++ ys)) in
    let both = stops_append (entered a.there a.before a.answer) (errands_in xs) in
    let rest = asks_stops xs ys in
    omega arith

-- they are for the stations of these ports
of_first : (P : ℕ → Type 0) (p : StationPort) (before : List (ℕ × HubEvent)) (f : Fetched) (es : List Errand) → P p.host
    → Each (λ (e : Errand). P e.host) es → Each (λ (e : Errand). P e.host) (entered p before f ++ es)
of_first P p before fetched.Nothing es one rest = rest
of_first P p before (fetched.Frame frame) es one rest = (one, rest)
of_first P p before fetched.Stopped es one rest = (one, rest)

pub asks_of : (P : ℕ → Type 0) (asks : List Ask) → Each (λ (p : StationPort). P p.host) (map (λ (a : Ask). a.there) asks)
    → Each (λ (e : Errand). P e.host) (errands_in asks)
asks_of P [] each = tt
asks_of P (a ∷ asks) each = of_first P a.there a.before a.answer (errands_in asks) each.0 (asks_of P asks each.1)

-- whole rounds, and a front of one
each_rounds : (P : StationPort → Type 0) (n : ℕ) (ports : List StationPort) → Each P ports → Each P (rounds_of n ports)
each_rounds P zero ports each = tt
each_rounds P (suc n) ports each = each_append P (rounds_of n ports) ports (each_rounds P n ports each) each

pub each_around : (P : StationPort → Type 0) (n : ℕ) (ports last : List StationPort) → IsPrefix last ports → Each P ports
    → Each P (rounds_of n ports ++ last)
each_around P n ports last front each =
    each_append P (rounds_of n ports) last (each_rounds P n ports each) (each_front P last front.0 (subst (Each P) (sym front.1) each))

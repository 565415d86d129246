-- The entry of an exit: whom it tells, and the relation after it.
use Rattle.std.proofs.Common.{◌≡◌, ℕ, zero, suc, ◌&&◌, ◌||◌, not, Bool, true, false, List, [], ◌∷◌, ◌++◌, map, Option, Some, None, refl, sym, ap, ◌∙◌, inl, inr, if◌then◌else◌}
use Rattle.std.specs.List.{flat_map, list_any, position}
use Rattle.std.specs.Option.{option_map, option_map_or}
use Rattle.std.proofs.lemmas.Bool.{and_parts, both_ways, cases_Bool, cond-true, false_from_ne_true}
use Rattle.std.proofs.lemmas.Option.{same_Some}
use Rattle.vk_types.specs.Types.{Name, Pid}
use Rattle.vk_base.specs.declared.activity.Activity.TheVariants as activities
use Rattle.vk_base.specs.declared.kernel.Stage.TheVariants as stages
use Rattle.vk_base.specs.Calls.{dropped_at, exited, is_message_at}
use Rattle.vk_base.specs.Kernel.{Kernel, holds_of, is_at_target, is_live, same_name}
use Rattle.vk_base.specs.Packets.{Packet, Negative}
use Rattle.vk_base.specs.Pids.{same_pid}
use Rattle.vk_base.proofs.PidLemmas.{same_pid_self}
use Rattle.v_laws.proofs.Tables.{same_name_is, same_name_self, same_pid_is}
use Rattle.vk_pool.specs.declared.alien.Alien.{Alien}
use Rattle.vk_pool.specs.Aliens.{alien_at, is_alien_from}
use Rattle.vk_procs.specs.declared.seat.Seat.{Seat}
use Rattle.vk_procs.specs.Seats.{process_of, seat_in}
use Rattle.vk_rules.specs.Aliens.{is_closing}
use Rattle.vk_rules.specs.CallOutcomes.{exit_packets, negative_for}
unfoldable use Rattle.vk_rules.specs.Rounds.{told_sender}
use Rattle.vk_rules.specs.Rounds.{list_if, told_of}
use Rattle.vk_stands.specs.Stands.{IsAlienKept}
use Rattle.vk_stands.specs.Tables.{Spot, Tables, alien_name, read_alien}
use Rattle.vk_stands.proofs.Aliens.{of_at}
use Rattle.vk_stands.proofs.Exited.{exchange_is, is_left, proc_here}
use Rattle.vk_stands.proofs.Parts.{Part}

-- Whom an exit tells.
abbrev pub told_for : Pid → Option Alien → List Packet
told_for pid None = []
told_for pid (Some a) = if is_left pid a then Negative a.target a.sender a.number ∷ [] else []

module _ (host : ℕ) (t : Tables) (k : Kernel) (part : Part host t k) (pid : Pid) (own : pid.host ≡ host) (s : Seat)
    (found : seat_in t.seats pid ≡ Some s) (ready : s.doing ≡ activities.Ready) (now : ℕ) where
  abbrev l : Kernel
  l = exited k pid (process_of s)

  kept : (i : ℕ) (a : Alien) → alien_at t.slots i ≡ Some a → IsAlienKept k a
  kept i a at = part.view.kept a.sender a (of_at t.slots i a part.fit.apart at)

  left_as : (i : ℕ) (a : Alien) (at : alien_at t.slots i ≡ Some a) → is_message_at pid (kept i a at).exchange ≡ is_left pid a
  left_as i a at =
      let v = kept i a at in
      (λ j. same_pid (v.spot j).at pid && is_at_target (v.stage j))

  told_by : (i : ℕ) (a : Alien) (at : alien_at t.slots i ≡ Some a) (b : Bool) → is_left pid a ≡ b →
      list_if b (told_sender l (alien_name a)) ≡ (if b then Negative a.target a.sender a.number ∷ [] else [])
  unfolding told_sender
  told_by i a at true left =
      let v = kept i a at in
      let dropped : dropped_at pid v.exchange ≡ record v.exchange { stage = stages.Dropped } =
      cond-true (is_message_at pid v.exchange) (record v.exchange { stage = stages.Dropped }) v.exchange (left_as i a at ∙ left) in
      let here : v.exchange.at ≡ pid = ap (λ (z : Spot). z.at) v.spot ∙ same_pid_is a.at pid (and_parts (same_pid a.at pid) _ left).0 in
      ap (λ o. option_map_or (told_of l (alien_name a)) o [])
      (exchange_is host t k part pid own s found ready now (alien_name a) ∙ ap (option_map (dropped_at pid)) v.is ∙ ap Some dropped)
      ∙ (λ j. list_if (not (is_live (l.procs (here j)))) (Negative (v.target j) a.sender a.number ∷ []))
      ∙ ap (λ o. list_if (not (is_live o)) (Negative a.target a.sender a.number ∷ []))
      (proc_here host t k part pid own s found ready now pid (same_pid_self pid))
  told_by i a at false other = refl

  told_at : (i : ℕ) (o : Option Alien) → alien_at t.slots i ≡ o →
      option_map_or (negative_for k l pid) (option_map read_alien o) [] ≡ told_for pid o
  told_at i None at = refl
  told_at i (Some a) at =
      ap (λ b. list_if b (told_sender l (alien_name a))) (ap (holds_of (is_message_at pid)) (kept i a at).is ∙ left_as i a at)
      ∙ told_by i a at (is_left pid a) refl

  flat_by : (slots : List (Option Alien)) →
      ((i : ℕ) → option_map_or (negative_for k l pid) (option_map read_alien (alien_at slots i)) [] ≡ told_for pid (alien_at slots i)) →
      exit_packets k l (map (option_map read_alien) slots) pid ≡ flat_map (told_for pid) slots
  flat_by [] same = refl
  flat_by (slot ∷ slots) same =
      ap (λ ps. ps ++ exit_packets k l (map (option_map read_alien) slots) pid) (same 0)
      ∙ ap (λ ps. told_for pid slot ++ ps) (flat_by slots (λ i. same (suc i)))

  -- the packets of the entry, by the tables
  pub exit_tells : exit_packets k l (map (option_map read_alien) t.slots) pid ≡ flat_map (told_for pid) t.slots
  exit_tells = flat_by t.slots (λ i. told_at i (alien_at t.slots i) refl)

  -- They close just the aliens that are left.
  any_appended : (test : Packet → Bool) (ps qs : List Packet) → list_any test (ps ++ qs) ≡ (list_any test ps || list_any test qs)
  any_appended test [] qs = refl
  any_appended test (p ∷ ps) qs = ap (λ b. test p || b) (any_appended test ps qs) ∙ either (test p)
    where
      either : (b : Bool) → (b || (list_any test ps || list_any test qs)) ≡ ((b || list_any test ps) || list_any test qs)
      either true = refl
      either false = refl

  none_closed : (name : Name) (slots : List (Option Alien)) →
      ((i : ℕ) → list_any (is_closing name) (told_for pid (alien_at slots i)) ≡ false) →
      list_any (is_closing name) (flat_map (told_for pid) slots) ≡ false
  none_closed name [] none = refl
  none_closed name (slot ∷ slots) none =
      any_appended (is_closing name) (told_for pid slot) (flat_map (told_for pid) slots)
      ∙ ap (λ b. b || list_any (is_closing name) (flat_map (told_for pid) slots)) (none 0)
      ∙ none_closed name slots (λ i. none (suc i))

  or_true : (b : Bool) → (b || true) ≡ true
  or_true true = refl
  or_true false = refl

  one_closed : (name : Name) (slots : List (Option Alien)) (i : ℕ) → list_any (is_closing name) (told_for pid (alien_at slots i)) ≡ true →
      list_any (is_closing name) (flat_map (told_for pid) slots) ≡ true
  one_closed name [] i is = is
  one_closed name (slot ∷ slots) zero is =
      any_appended (is_closing name) (told_for pid slot) (flat_map (told_for pid) slots)
      ∙ ap (λ b. b || list_any (is_closing name) (flat_map (told_for pid) slots)) is
  one_closed name (slot ∷ slots) (suc i) is =
      any_appended (is_closing name) (told_for pid slot) (flat_map (told_for pid) slots)
      ∙ ap (λ b. list_any (is_closing name) (told_for pid slot) || b) (one_closed name slots i is)
      ∙ or_true (list_any (is_closing name) (told_for pid slot))

  closing_by : (name : Name) (o : Option Alien) → list_any (is_closing name) (told_for pid o) ≡ true →
      (b : Alien) × (o ≡ Some b) × (alien_name b ≡ name) × (is_left pid b ≡ true)
  closing_by name None is = absurd (cc)
  closing_by name (Some b) is = by_left (is_left pid b) refl is
    where
      by_left : (c : Bool) → is_left pid b ≡ c → list_any (is_closing name) (if c then Negative b.target b.sender b.number ∷ [] else []) ≡ true →
          (x : Alien) × (Some b ≡ Some x) × (alien_name x ≡ name) × (is_left pid x ≡ true)
      by_left true left closes = (b, refl, same_name_is (alien_name b) name (alone (same_name (alien_name b) name) closes), left)
        where
          alone : (c : Bool) → (c || false) ≡ true → c ≡ true
          alone true e = refl
          alone false e = e
      by_left false left closes = absurd (cc)

  pub closed_is : (i : ℕ) (a : Alien) → alien_at t.slots i ≡ Some a →
      list_any (is_closing (alien_name a)) (flat_map (told_for pid) t.slots) ≡ is_left pid a
  closed_is i a at = elim (cases_Bool (is_left pid a)) [
    | inl left ↦
        one_closed (alien_name a) t.slots i (ap (λ o. list_any (is_closing (alien_name a)) (told_for pid o)) at
        ∙ ap (λ b. list_any (is_closing (alien_name a)) (if b then Negative a.target a.sender a.number ∷ [] else [])) left
        ∙ ap (λ b. b || false) (same_name_self (alien_name a)))
        ∙ sym left
    | inr other ↦
        none_closed (alien_name a) t.slots (λ j. false_from_ne_true
        (list_any (is_closing (alien_name a)) (told_for pid (alien_at t.slots j))) (λ closes.
        let b = closing_by (alien_name a) (alien_at t.slots j) closes in
        let sender : b.0.sender ≡ a.sender = ap (λ (n : Name). n.sender) b.2 in
        let place : j ≡ i = same_Some j i (sym (part.fit.apart j b.0 b.1) ∙ ap (λ p. position (is_alien_from p) t.slots) sender
        ∙ part.fit.apart i a at) in
        let one : b.0 ≡ a = same_Some b.0 a (sym b.1 ∙ ap (alien_at t.slots) place ∙ at) in
        both_ways (is_left pid a) other (ap (is_left pid) (sym one) ∙ b.3)))
        ∙ sym other
  ]

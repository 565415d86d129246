-- Which frame a draw chooses.
use Rattle.std.proofs.Common.{◌≡◌, ℕ, zero, suc, ◌-◌, ◌%◌, ◌<◌, ◌==◌, min, Bool, true, false, cond, List, [], ◌∷◌, length, Some, refl, sym, ap, ◌∙◌, arith, inl, inr}
use Rattle.std.specs.Prelude.{option_map, slice_get}
use Rattle.std.proofs.lemmas.Bool.{cases_Bool, cond-false, cond-true, eq-eqb, eqb-true}
use Rattle.std.proofs.lemmas.List.{length-map}
use Rattle.std.proofs.lemmas.Option.{same_Some, slice_get-map}
use Rattle.vk_schedule.specs.declared.event.Event.{Event}
use Rattle.vk_schedule.specs.declared.event.Event.TheVariants as events
use Rattle.vk_schedule.specs.Lawful.{has_actors}
use Rattle.vk_frame.specs.declared.header.Header.{Header}
use Rattle.vk_generator.specs.Numbers.{drawn, next}
use Rattle.vk_rules.specs.Frames.{Frame}
use Rattle.vk_drive.specs.declared.recent.RecentFrame.{RecentFrame}
use Rattle.vk_drive.specs.declared.recent.RecentFrames.{RecentFrames}
use Rattle.vk_drive.specs.Driving.{ComesFrom, KeepsRecent, is_delivery, kept_of}
use Rattle.vk_drive.specs.Storms.{before_last, chosen, delivery_choice, delivery_event, delivery_of}
use Rattle.vk_drive.specs.Tasks.{specs}
use Rattle.vk_drive.specs.Told.{headers}

-- there is an element below the length
there_is : {A : Type 0} (xs : List A) (n : ℕ) → n < length xs → (x : A) × (slice_get xs n ≡ Some x)
there_is [] n low = absurd (omega arith)
there_is (x ∷ xs) zero low = (x, refl)
there_is (x ∷ xs) (suc n) low = there_is xs n (omega arith)

-- a chosen delivery is the frame's
delivered : (h : Header) → is_delivery (delivery_of h) ≡ true → delivery_of h ≡ events.Deliver h.destination h.source h.event h.output
delivered h = either (has_actors specs (events.Deliver h.destination h.source h.event h.output))
  where
    either : (b : Bool) → is_delivery (cond b (events.Deliver h.destination h.source h.event h.output) (events.Tick 1)) ≡ true →
        cond b (events.Deliver h.destination h.source h.event h.output) (events.Tick 1)
        ≡ events.Deliver h.destination h.source h.event h.output
    either true is = refl
    either false is = absurd (cc)

module _ (fs : List Frame) (recent : RecentFrames) (keeps : KeepsRecent fs recent) (len : ℕ) (same : len ≡ min 32 recent.count) where
  long : length (headers fs) ≡ recent.count
  long = length-map fs (λ (f : Frame). f.header) ∙ sym keeps.count

  -- where there is none
  pub none_chosen : (x : ℕ) → len ≡ 0 → chosen x (events.Tick 1) ≡ delivery_choice x (headers fs)
  none_chosen x none =
      sym (cond-true (length (headers fs) == 0) (chosen x (events.Tick 1)) _
      (eq-eqb (length (headers fs)) 0 (omega (arith, long, same, none))))

  module _ (some : ¬ (len ≡ 0)) (draw place : ℕ) (is : place ≡ (recent.count - 1 - draw % len) % 32) where
    number : ℕ
    number = recent.count - 1 - draw % len

    one : (f : Frame) × (slice_get fs number ≡ Some f)
    unfolding number
    one =
        let low : draw % len < len = omega arith in
        let count = keeps.count in
        there_is fs (recent.count - 1 - draw % len) (omega (arith, low, count, same))

    here : slice_get recent.frames.items place ≡ Some (kept_of one.0)
    unfolding number
    here =
        let low : draw % len < len = omega arith in
        let count = keeps.count in
        ap (slice_get recent.frames.items) is ∙ keeps.each number one.0 one.1 (omega (arith, low, count, same))

    module _ (kept : RecentFrame) (there : slice_get recent.frames.items place ≡ Some kept) (e : Event)
        (event : e ≡ delivery_of kept.header) where
      header_is : kept.header ≡ one.0.header
      header_is = ap (λ (r : RecentFrame). r.header) (same_Some kept (kept_of one.0) (sym there ∙ here))

      pub chosen_is : (x : ℕ) → draw ≡ drawn (next x) → chosen (next x) e ≡ delivery_choice x (headers fs)
      unfolding number
      chosen_is x drawn_is =
          let hs = headers fs in
          let found : slice_get hs number ≡ Some one.0.header =
          slice_get-map (λ (f : Frame). f.header) fs number ∙ ap (option_map (λ (f : Frame). f.header)) one.1 in
          let back : drawn (next x) % min 32 (length hs) ≡ draw % len =
          (λ i. sym drawn_is i % (ap (min 32) long ∙ sym same) i) in
          let last : before_last hs (drawn (next x) % min 32 (length hs)) ≡ Some one.0.header =
          (λ i. slice_get hs (long i - 1 - back i)) ∙ found in
          let not_none : (length hs == 0) ≡ false = not_zero (length hs) (λ none. some (omega (arith, long, same, none))) in
          ap (chosen (next x)) (event ∙ ap delivery_of header_is)
          ∙ ap (λ o. chosen (next x) (delivery_event o)) (sym last)
          ∙ sym (cond-false (length hs == 0) (chosen x (events.Tick 1)) _ not_none)
        where
          not_zero : (n : ℕ) → ¬ (n ≡ 0) → (n == 0) ≡ false
          not_zero n more = elim (cases_Bool (n == 0)) [ inl t ↦ absurd (more (eqb-true n 0 t)) | inr f ↦ f ]

      pub comes : ComesFrom fs recent e place
      comes delivery = record {
        number = number;
        frame = one.0;
        found = one.1;
        here = here;
        event =
            event ∙ ap delivery_of header_is
            ∙ delivered one.0.header (ap is_delivery (sym (event ∙ ap delivery_of header_is)) ∙ delivery);
      }

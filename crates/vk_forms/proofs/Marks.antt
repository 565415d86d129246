-- Marks are exact.
use Rattle.std.proofs.Common.{◌≡◌, ℕ, ◌≤◌, nat_lt, ◌⊎◌, true, false, inl, inr, List, [], ◌∷◌, length, refl, sym, ap, ◌∙◌, arith, cond}
use Rattle.std.proofs.lemmas.Bool.{cases_Bool, ltb-true}
use Rattle.vk_types.specs.Types.{ProcessSpec}
use Rattle.vk_forms.specs.Follow.{Stop, farthest, fewer, stop, stop_of, unread}
use Rattle.vk_forms.specs.Forms.{Form}
use Rattle.vk_forms.specs.Laws.{EachForm, IsStop, MarksAreExact, SomeForm, StopsAreFirst}
use Rattle.vk_forms.specs.Slots.{fits}

-- one word more in front
one_more : (specs : List ProcessSpec) (s : List ℕ) (ss : List (List ℕ)) (w : List ℕ) (ws : List (List ℕ)) (x y : Stop)
    → fits specs s w ≡ true → IsStop specs ss ws x → y ≡ x → IsStop specs (s ∷ ss) (w ∷ ws) y
one_more specs s ss w ws x y fitting h e = rw e (record {
  passed = s ∷ h.passed;
  read = w ∷ h.read;
  next = h.next;
  form = ap (λ l. s ∷ l) h.form;
  words = ap (λ l. w ∷ l) h.words;
  fit = (fitting, h.fit);
  slot = h.slot;
  ends = h.ends;
})

here : (specs : List ProcessSpec) (s : List ℕ) (ss : List (List ℕ)) (w : List ℕ) (ws : List (List ℕ)) (y : Stop)
    → fits specs s w ≡ false → y ≡ record { slot = s; left = w ∷ ws } → IsStop specs (s ∷ ss) (w ∷ ws) y
here specs s ss w ws y other e = rw e (record {
  passed = [];
  read = [];
  next = s ∷ ss;
  form = refl;
  words = refl;
  fit = tt;
  slot = refl;
  ends = other;
})

pub stops_first : StopsAreFirst
unfolding stop
stops_first specs [] ws = record { passed = []; read = []; next = []; form = refl; words = refl; fit = tt; slot = refl; ends = tt }
stops_first specs (s ∷ ss) [] = record { passed = []; read = []; next = s ∷ ss; form = refl; words = refl; fit = tt; slot = refl; ends = tt }
stops_first specs (s ∷ ss) (w ∷ ws) = elim (cases_Bool (fits specs s w)) [
  | inl fitting ↦ one_more specs s ss w ws (stop specs ss ws) _ fitting (stops_first specs ss ws)
      (ap (λ b. cond b (stop specs ss ws) (record { slot = s; left = w ∷ ws })) fitting)
  | inr not_fit ↦ here specs s ss w ws _ not_fit (ap (λ b. cond b (stop specs ss ws) (record { slot = s; left = w ∷ ws })) not_fit)
]

fewer_first : (vs ws : List (List ℕ)) → length (fewer vs ws) ≤ length vs
fewer_first vs ws = elim (cases_Bool (nat_lt (length ws) (length vs))) [
  | inl less ↦ rw less (let h = ltb-true (length ws) (length vs) less in omega arith)
  | inr more ↦ rw more (omega arith)
]

fewer_second : (vs ws : List (List ℕ)) → length (fewer vs ws) ≤ length ws
fewer_second vs ws = elim (cases_Bool (nat_lt (length ws) (length vs))) [
  | inl less ↦ rw less (omega arith)
  | inr more ↦ rw more (grind arith)
]

either : (vs ws : List (List ℕ)) → (fewer vs ws ≡ vs) ⊎ (fewer vs ws ≡ ws)
either vs ws = elim (cases_Bool (nat_lt (length ws) (length vs))) [
  | inl less ↦ inr (rw less refl)
  | inr more ↦ inl (rw more refl)
]

not_farther : (specs : List ProcessSpec) (ws best : List (List ℕ)) (fs : List Form) → length (farthest specs ws best fs) ≤ length best
unfolding farthest
not_farther specs ws best [] = omega arith
not_farther specs ws best (f ∷ fs) =
    let more = not_farther specs ws (fewer best (stop_of specs f ws).left) fs in
    let first = fewer_first best (stop_of specs f ws).left in
    omega arith

each_reads : (specs : List ProcessSpec) (ws best : List (List ℕ)) (fs : List Form) (rest : List (List ℕ))
    → length rest ≤ length (farthest specs ws best fs) → EachForm (λ f. length rest ≤ length (stop_of specs f ws).left) fs
unfolding farthest
each_reads specs ws best [] rest h = tt
each_reads specs ws best (f ∷ fs) rest h =
    let more = not_farther specs ws (fewer best (stop_of specs f ws).left) fs in
    let second = fewer_second best (stop_of specs f ws).left in
    (omega arith, each_reads specs ws (fewer best (stop_of specs f ws).left) fs rest h)

some_reads : (specs : List ProcessSpec) (ws best : List (List ℕ)) (fs : List Form)
    → (farthest specs ws best fs ≡ best) ⊎ SomeForm (λ f. (stop_of specs f ws).left ≡ farthest specs ws best fs) fs
unfolding farthest
some_reads specs ws best [] = inl refl
some_reads specs ws best (f ∷ fs) = elim (some_reads specs ws (fewer best (stop_of specs f ws).left) fs) [
  | inr later ↦ inr (inr later)
  | inl same ↦ elim (either best (stop_of specs f ws).left) [
    | inl first ↦ inl (same ∙ first)
    | inr this ↦ inr (inl (sym (same ∙ this)))
  ]
]

pub marks : MarksAreExact
marks specs forms ws = (each_reads specs ws ws forms (unread specs forms ws) (omega arith), some_reads specs ws ws forms)

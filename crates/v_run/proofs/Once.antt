-- Each station of a configuration stands once in the list of its stations.
use Rattle.std.proofs.Common.{◌≡◌, ℕ, ◌≤◌, ◌==◌, ◌||◌, eqb-true, eq-eqb, Bool, true, false, List, [], ◌∷◌, cond, refl, sym, ap, ◌∙◌, subst, arith}
use Rattle.std.specs.List.{list_any}
use Rattle.std.proofs.lemmas.Bool.{or_parts}
use Rattle.vk_types.specs.Types.{ProcessSpec}
use Rattle.vk_base.specs.Settings.{has_station, stations_of}
use Rattle.vk_base.proofs.SettingsLemmas.{among_stations}
use Rattle.vk_cluster.proofs.Stations.{Apart, stations_apart}
use Rattle.v_run.proofs.Totals.{IsOnce, added}

-- how often it stands there, each time with this weight
abbrev times : ℕ → ℕ → List ℕ → ℕ
times h m hs = added (λ k. cond (h == k) m 0) hs

-- a test that does not hold the other way round
pub other_way : (h k : ℕ) → (k == h) ≡ false → (b : Bool) → (h == k) ≡ b → b ≡ false
other_way h k other true is = absurd (cc (other, eq-eqb k h (sym (eqb-true h k is))))
other_way h k other false is = refl

absent : (h m : ℕ) (hs : List ℕ) → list_any (λ k. k == h) hs ≡ false → times h m hs ≡ 0
absent h m [] none = refl
absent h m (k ∷ hs) none =
    let parts : ((k == h) ≡ false) × (list_any (λ k. k == h) hs ≡ false) = or_parts (k == h) (list_any (λ k. k == h) hs) none in
    let rest = absent h m hs parts.1 in
    let here : ◌≡◌ {A = ℕ} (cond (h == k) m 0) 0 = ap (λ (b : Bool). cond {A = ℕ} b m 0) (other_way h k parts.0 (h == k) refl) in
    omega arith

there_by : (h k m : ℕ) (hs : List ℕ) → list_any (λ x. x == k) hs ≡ false → (list_any (λ x. x == h) hs ≡ true → times h m hs ≡ m)
    → (b : Bool) → (k == h) ≡ b → (b || list_any (λ x. x == h) hs) ≡ true → times h m (k ∷ hs) ≡ m
there_by h k m hs new rest true is any =
    let same : k ≡ h = eqb-true k h is in
    let none : times h m hs ≡ 0 = absent h m hs (subst (λ (x : ℕ). list_any (λ y. y == x) hs ≡ false) same new) in
    let here : ◌≡◌ {A = ℕ} (cond (h == k) m 0) m = ap (λ (b : Bool). cond {A = ℕ} b m 0) (eq-eqb h k (sym same)) in
    omega arith
there_by h k m hs new rest false is any =
    let more = rest any in
    let here : ◌≡◌ {A = ℕ} (cond (h == k) m 0) 0 = ap (λ (b : Bool). cond {A = ℕ} b m 0) (other_way h k is (h == k) refl) in
    omega arith

pub there : (h m : ℕ) (hs : List ℕ) → Apart hs → list_any (λ k. k == h) hs ≡ true → times h m hs ≡ m
there h m [] apart any = absurd (cc any)
there h m (k ∷ hs) apart any = there_by h k m hs apart.0 (there h m hs apart.1) (k == h) refl any

pub stands_once : (specs : List ProcessSpec) (h : ℕ) → has_station specs h ≡ true → IsOnce (stations_of specs) h
stands_once specs h is m = there h m (stations_of specs) (stations_apart specs) (among_stations specs h ∙ is)

at_most_by : (h m : ℕ) (hs : List ℕ) → Apart hs → (b : Bool) → list_any (λ k. k == h) hs ≡ b → times h m hs ≤ m
at_most_by h m hs apart true is = let one = there h m hs apart is in omega arith
at_most_by h m hs apart false is = let none = absent h m hs is in omega arith

-- no host stands there twice
pub stands_at_most_once : (specs : List ProcessSpec) (h m : ℕ) → added (λ k. cond (h == k) m 0) (stations_of specs) ≤ m
stands_at_most_once specs h m = at_most_by h m (stations_of specs) (stations_apart specs) (list_any (λ k. k == h) (stations_of specs)) refl

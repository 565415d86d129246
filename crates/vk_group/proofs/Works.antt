-- How far each member is, after a change of one of them.
use Rattle.std.proofs.Common.{◌≡◌, ◌≢◌, ℕ, zero, suc, Bool, true, false, List, [], ◌∷◌, Option, Some, None, refl, ap, ◌∙◌}
use Rattle.std.specs.Prelude.{option_map, slice_get}
use Rattle.vk_group.specs.declared.member.Member.{Member}
use Rattle.vk_group.specs.declared.member.Progress.TheVariants as works
use Rattle.vk_group.specs.declared.member.Progress.{Progress}
use Rattle.vk_group.specs.Members.{change, changed, given, is_done, is_replied, made_ready, pairs_of, reported, restarted, told, work_of}

abbrev pub work_in : Member → Progress
work_in m = m.work

abbrev pub work_at : List Member → ℕ → Option Progress
work_at ms number = option_map work_in (slice_get ms number)

-- what has come of a job
abbrev pub was_given : Option Progress → Bool
was_given (Some works.Given) = true
was_given (Some works.Replied) = true
was_given (Some works.Failed) = true
was_given _ = false

abbrev pub was_done : Option Progress → Bool
was_done None = false
was_done (Some w) = is_done w

abbrev pub was_replied : Option Progress → Bool
was_replied None = false
was_replied (Some w) = is_replied w

-- One member is changed

in_front : (f : Member → Member) (m : Member) (ms : List Member) (n : ℕ) (o : Option Member) →
    slice_get (changed (m ∷ ms) (suc n) f o) zero ≡ Some m
in_front f m ms n None = refl
in_front f m ms n (Some x) = refl

behind : (f : Member → Member) (m : Member) (ms : List Member) (n i : ℕ) (o : Option Member) →
    slice_get (changed (m ∷ ms) (suc n) f o) (suc i) ≡ slice_get (changed ms n f o) i
behind f m ms n i None = refl
behind f m ms n i (Some x) = refl

pub changed_here : (f : Member → Member) (ms : List Member) (n : ℕ) → slice_get (change n f ms) n ≡ option_map f (slice_get ms n)
changed_here f [] n = refl
changed_here f (m ∷ ms) zero = refl
changed_here f (m ∷ ms) (suc n) = behind f m ms n n (slice_get ms n) ∙ changed_here f ms n

pub unchanged : (f : Member → Member) (ms : List Member) (n i : ℕ) → i ≢ n → slice_get (change n f ms) i ≡ slice_get ms i
unchanged f [] n i apart = refl
unchanged f (m ∷ ms) zero zero apart = absurd (apart refl)
unchanged f (m ∷ ms) zero (suc i) apart = refl
unchanged f (m ∷ ms) (suc n) zero apart = in_front f m ms n (slice_get ms n)
unchanged f (m ∷ ms) (suc n) (suc i) apart =
    behind f m ms n i (slice_get ms n) ∙ unchanged f ms n i (λ same. apart (ap suc same))

-- the pairs are those of before
pairs_by : (f : Member → Member) → ((m : Member) → (f m).pair ≡ m.pair) → (m : Member) (ms : List Member) (n : ℕ) (o : Option Member) →
    pairs_of (changed (m ∷ ms) (suc n) f o) ≡ m.pair ∷ pairs_of (changed ms n f o)
pairs_by f keeps m ms n None = refl
pairs_by f keeps m ms n (Some x) = refl

pub pairs_changed : (f : Member → Member) → ((m : Member) → (f m).pair ≡ m.pair) → (ms : List Member) (n : ℕ) →
    pairs_of (change n f ms) ≡ pairs_of ms
pairs_changed f keeps [] n = refl
pairs_changed f keeps (m ∷ ms) zero = ap (λ p. p ∷ pairs_of ms) (keeps m)
pairs_changed f keeps (m ∷ ms) (suc n) =
    pairs_by f keeps m ms n (slice_get ms n) ∙ ap (λ ps. m.pair ∷ ps) (pairs_changed f keeps ms n)

pub pairs_restarted : (ms : List Member) → pairs_of (restarted ms) ≡ pairs_of ms
pairs_restarted [] = refl
pairs_restarted (m ∷ ms) = ap (λ ps. m.pair ∷ ps) (pairs_restarted ms)

-- how far others are, and this one

pub work_elsewhere : (f : Member → Member) (ms : List Member) (n i : ℕ) → i ≢ n → work_at (change n f ms) i ≡ work_at ms i
work_elsewhere f ms n i apart = ap (option_map work_in) (unchanged f ms n i apart)

work_by : (f : Member → Member) (k : Progress → Progress) → ((m : Member) → (f m).work ≡ k m.work) → (o : Option Member) →
    option_map work_in (option_map f o) ≡ option_map k (option_map work_in o)
work_by f k is None = refl
work_by f k is (Some m) = ap Some (is m)

pub work_here : (f : Member → Member) (k : Progress → Progress) → ((m : Member) → (f m).work ≡ k m.work) → (ms : List Member) (n : ℕ) →
    work_at (change n f ms) n ≡ option_map k (work_at ms n)
work_here f k is ms n = ap (option_map work_in) (changed_here f ms n) ∙ work_by f k is (slice_get ms n)

-- a change that is none of the work
same_by : (f : Member → Member) → ((m : Member) → (f m).work ≡ m.work) → (ms : List Member) (n i : ℕ) →
    work_at (change n f ms) i ≡ work_at ms i
same_by f is [] n i = refl
same_by f is (m ∷ ms) zero zero = ap Some (is m)
same_by f is (m ∷ ms) zero (suc i) = refl
same_by f is (m ∷ ms) (suc n) zero = ap (option_map work_in) (in_front f m ms n (slice_get ms n))
same_by f is (m ∷ ms) (suc n) (suc i) = ap (option_map work_in) (behind f m ms n i (slice_get ms n)) ∙ same_by f is ms n i

pub work_made_ready : (ms : List Member) (n dest i : ℕ) → work_at (made_ready n dest ms) i ≡ work_at ms i
work_made_ready ms n dest i = same_by (λ m. record m { ready = Some dest }) (λ m. refl) ms n i

pub work_told : (ms : List Member) (n i : ℕ) → work_at (told n ms) i ≡ work_at ms i
work_told ms n i = same_by (λ m. record m { ready = None; told = true }) (λ m. refl) ms n i

-- a job is given
pub work_given : (ms : List Member) (n : ℕ) → work_at ms n ≡ Some works.Open → work_at (given n ms) n ≡ Some works.Given
work_given ms n is =
    work_here (λ m. record m { ready = None; work = works.Given }) (λ w. works.Given) (λ m. refl) ms n
    ∙ ap (option_map (λ w. works.Given)) is

pub others_given : (ms : List Member) (n i : ℕ) → i ≢ n → work_at (given n ms) i ≡ work_at ms i
others_given ms n i apart = work_elsewhere (λ m. record m { ready = None; work = works.Given }) ms n i apart

-- a helper reports
pub work_reported : (ms : List Member) (n : ℕ) (replied : Bool) → work_at ms n ≡ Some works.Given →
    work_at (reported n replied ms) n ≡ Some (work_of replied)
work_reported ms n replied is =
    work_here (λ m. record m { work = work_of replied }) (λ w. work_of replied) (λ m. refl) ms n
    ∙ ap (option_map (λ w. work_of replied)) is

pub others_reported : (ms : List Member) (n i : ℕ) (replied : Bool) → i ≢ n → work_at (reported n replied ms) i ≡ work_at ms i
others_reported ms n i replied apart = work_elsewhere (λ m. record m { work = work_of replied }) ms n i apart

-- a new group Send begins: nothing has come of it

pub none_given : (ms : List Member) (i : ℕ) → was_given (work_at (restarted ms) i) ≡ false
none_given [] i = refl
none_given (m ∷ ms) zero = refl
none_given (m ∷ ms) (suc i) = none_given ms i

pub none_done : (ms : List Member) (i : ℕ) → was_done (work_at (restarted ms) i) ≡ false
none_done [] i = refl
none_done (m ∷ ms) zero = refl
none_done (m ∷ ms) (suc i) = none_done ms i

pub none_replied : (ms : List Member) (i : ℕ) → was_replied (work_at (restarted ms) i) ≡ false
none_replied [] i = refl
none_replied (m ∷ ms) zero = refl
none_replied (m ∷ ms) (suc i) = none_replied ms i

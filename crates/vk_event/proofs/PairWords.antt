-- Pairs of helpers and members as words: how they are spelled, that they are read again, and one after another.
use Rattle.std.proofs.Common.{◌≡◌, ℕ, ◌<◌, true, false, List, [], ◌∷◌, ◌++◌, length, Option, Some, None, refl, ap, sym, ◌∙◌, subst, arith, append_assoc, append-nil}
use Rattle.std.specs.List.{AllByRecursion, flat_map}
use Rattle.std.specs.Option.{option_map}
use Rattle.std.proofs.lemmas.Option.{cond_some}
use Rattle.vk_types.specs.Types.{Pid}
use Rattle.vk_base.specs.Options.{◌>>=◌}
use Rattle.vk_base.proofs.OptionLemmas.{bind_is}
use Rattle.vk_text.specs.Lines.{is_end}
use Rattle.vk_text.specs.Spelling.{pid_text}
use Rattle.vk_text.specs.Words.{pid_of}
use Rattle.vk_text.proofs.PlainWords.{IsPlain, pid_plain}
use Rattle.vk_text.proofs.Ranges.{pid_fits}
use Rattle.vk_text.proofs.Spelled.{pid_spelled, pid_read}
use Rattle.vk_event.specs.ScenarioLaws.{IsReadablePair, pair_words}
use Rattle.vk_event.specs.Tasks.{pair_of, pairs_of}
use Rattle.vk_event.specs.declared.pair.HelperPair.{HelperPair}

pair : Pid → Pid → HelperPair
pair helper member = record { helper = helper; member = member }

abbrev with_pair : HelperPair → Option (List HelperPair) → Option (List HelperPair)
with_pair p o = o >>= λ more. Some (p ∷ more)

-- one pair more, as code reads them

abbrev pub behind : List HelperPair → Option (List HelperPair) → Option (List HelperPair)
behind done o = option_map (λ more. done ++ more) o

-- what one pair and the words behind it make of the words
pub record Splits (ws : List (List ℕ)) (p : HelperPair) (rest : List (List ℕ)) : Type 0 where
  pub all : pairs_of ws ≡ with_pair p (pairs_of rest)
  pub fewer : length rest < length ws

abbrev Read : Type 0
Read = HelperPair × List (List ℕ)

read_by : (h m : List ℕ) (ws : List (List ℕ)) (x y : Pid) → pid_of h ≡ Some x → pid_of m ≡ Some y
    → pair_of (h ∷ m ∷ ws) ≡ Some (pair x y, ws)
unfolding pair_of pair
read_by h m ws x y f g = rw (f, g) refl

all_by : (h m : List ℕ) (ws : List (List ℕ)) (x y : Pid) → pid_of h ≡ Some x → pid_of m ≡ Some y
    → pairs_of (h ∷ m ∷ ws) ≡ with_pair (pair x y) (pairs_of ws)
unfolding pairs_of pair
all_by h m ws x y f g = rw (f, g) refl

same_read : (a b : Read) → Some a ≡ Some b → a ≡ b
same_read a b h = cc

two_words : (h m : List ℕ) (ws : List (List ℕ)) (a b : Option Pid) (p : HelperPair) (rest : List (List ℕ)) → pid_of h ≡ a → pid_of m ≡ b
    → pair_of (h ∷ m ∷ ws) ≡ Some (p, rest) → Splits (h ∷ m ∷ ws) p rest
unfolding pair_of
two_words h m ws None b p rest f g is = let none : pair_of (h ∷ m ∷ ws) ≡ None = rw f refl in cc
two_words h m ws (Some x) None p rest f g is = let none : pair_of (h ∷ m ∷ ws) ≡ None = rw (f, g) refl in cc
two_words h m ws (Some x) (Some y) p rest f g is =
    let same = same_read (pair x y, ws) (p, rest) (sym (read_by h m ws x y f g) ∙ is) in
    let words : ws ≡ rest = ap (λ (r : Read). r.1) same in
    record {
      all = all_by h m ws x y f g ∙ ap (λ (r : Read). with_pair r.0 (pairs_of r.1)) same;
      fewer = omega (arith, ap (λ (l : List (List ℕ)). length l) words);
    }

lone : (w : List ℕ) (o : Option Pid) → pid_of w ≡ o → pair_of (w ∷ []) ≡ None
unfolding pair_of
lone w None f = rw f refl
lone w (Some x) f = rw f refl

pub splits : (ws : List (List ℕ)) (p : HelperPair) (rest : List (List ℕ)) → pair_of ws ≡ Some (p, rest) → Splits ws p rest
unfolding pair_of
splits [] p rest h = cc
splits (w ∷ []) p rest h = let none = lone w (pid_of w) refl in cc
splits (w ∷ v ∷ ws) p rest h = two_words w v ws (pid_of w) (pid_of v) p rest refl refl h

no_words : (h m : List ℕ) (ws : List (List ℕ)) (a b : Option Pid) → pid_of h ≡ a → pid_of m ≡ b
    → pair_of (h ∷ m ∷ ws) ≡ None → pairs_of (h ∷ m ∷ ws) ≡ None
unfolding pairs_of
no_words h m ws None b f g is = rw f refl
no_words h m ws (Some x) None f g is = rw (f, g) refl
no_words h m ws (Some x) (Some y) f g is = let read = read_by h m ws x y f g in cc

pub no_pair : (ws : List (List ℕ)) → is_end ws ≡ false → pair_of ws ≡ None → pairs_of ws ≡ None
unfolding pairs_of
no_pair [] some h = cc
no_pair (w ∷ []) some h = refl
no_pair (w ∷ v ∷ ws) some h = no_words w v ws (pid_of w) (pid_of v) refl refl h

behind_one : (done : List HelperPair) (p : HelperPair) (o : Option (List HelperPair))
    → behind done (with_pair p o) ≡ behind (done ++ p ∷ []) o
behind_one done p None = refl
behind_one done p (Some more) = ap Some (sym (append_assoc done (p ∷ []) more))

pub pair_more : (all : Option (List HelperPair)) (done more : List HelperPair) (p : HelperPair) (ws rest : List (List ℕ))
    → all ≡ behind done (pairs_of ws) → pair_of ws ≡ Some (p, rest) → more ≡ done ++ p ∷ [] → all ≡ behind more (pairs_of rest)
pair_more all done more p ws rest so here is =
    so ∙ ap (behind done) (splits ws p rest here).all ∙ behind_one done p (pairs_of rest)
    ∙ ap (λ (ps : List HelperPair). behind ps (pairs_of rest)) (sym is)

pub pair_less : (p : HelperPair) (ws rest : List (List ℕ)) → pair_of ws ≡ Some (p, rest) → length rest < length ws
pair_less p ws rest h = (splits ws p rest h).fewer

pub pairs_bad : (all : Option (List HelperPair)) (done : List HelperPair) (ws : List (List ℕ)) → all ≡ behind done (pairs_of ws)
    → is_end ws ≡ false → pair_of ws ≡ None → all ≡ None
pairs_bad all done ws so some h = so ∙ ap (behind done) (no_pair ws some h)

at_end : (ws : List (List ℕ)) → is_end ws ≡ true → ws ≡ []
at_end [] h = refl
at_end (w ∷ ws) h = cc

pub pairs_end : (all : Option (List HelperPair)) (done : List HelperPair) (ws : List (List ℕ)) → all ≡ behind done (pairs_of ws)
    → is_end ws ≡ true → all ≡ Some done
unfolding pairs_of
pairs_end all done ws so h =
    so ∙ ap (λ (ls : List (List ℕ)). behind done (pairs_of ls)) (at_end ws h) ∙ ap Some (append-nil done)

-- how they are spelled, and that they are read again

pairs_by : (h m : List ℕ) (ws : List (List ℕ)) (ps : List HelperPair) (a b : Option Pid) → pid_of h ≡ a → pid_of m ≡ b
    → ((more : List HelperPair) → pairs_of ws ≡ Some more → AllByRecursion IsReadablePair more × (ws ≡ flat_map pair_words more))
    → pairs_of (h ∷ m ∷ ws) ≡ Some ps → AllByRecursion IsReadablePair ps × (h ∷ m ∷ ws ≡ flat_map pair_words ps)
unfolding pairs_of pair
pairs_by h m ws ps None b f g after is = let none : pairs_of (h ∷ m ∷ ws) ≡ None = rw f refl in cc
pairs_by h m ws ps (Some x) None f g after is = let none : pairs_of (h ∷ m ∷ ws) ≡ None = rw (f, g) refl in cc
pairs_by h m ws ps (Some x) (Some y) f g after is =
    let front : List HelperPair → Option (List HelperPair) = λ more. Some (pair x y ∷ more) in
    let step = bind_is (pairs_of ws) front ps (sym (all_by h m ws x y f g) ∙ is) in
    let rest = after step.0 step.1 in
    let same : pair x y ∷ step.0 ≡ ps = (cond_some true (pair x y ∷ step.0) ps step.2).1 in (
      subst (AllByRecursion IsReadablePair) same ((pid_fits x h f, pid_fits y m g), rest.0),
      ap (λ l. l ∷ m ∷ ws) (pid_spelled x h f) ∙ ap (λ l. pid_text x ∷ l ∷ ws) (pid_spelled y m g)
          ∙ ap (λ l. pid_text x ∷ pid_text y ∷ l) rest.1 ∙ ap (λ (qs : List HelperPair). flat_map pair_words qs) same,
    )

pub pairs_are : (ws : List (List ℕ)) (ps : List HelperPair) → pairs_of ws ≡ Some ps
    → AllByRecursion IsReadablePair ps × (ws ≡ flat_map pair_words ps)
unfolding pairs_of
pairs_are [] ps h =
    let none : [] ≡ ps = (cond_some true [] ps h).1 in
    (subst (AllByRecursion IsReadablePair) none tt, ap (λ (qs : List HelperPair). flat_map pair_words qs) none)
pairs_are (w ∷ []) ps h = cc
pairs_are (w ∷ v ∷ ws) ps h = pairs_by w v ws ps (pid_of w) (pid_of v) refl refl (λ more e. pairs_are ws more e) h

pub pairs_read : (ps : List HelperPair) → AllByRecursion IsReadablePair ps → pairs_of (flat_map pair_words ps) ≡ Some ps
unfolding pairs_of
pairs_read [] h = refl
pairs_read (p ∷ ps) h = rw (pid_read p.helper h.0.0, pid_read p.member h.0.1, pairs_read ps h.1) refl

pub pairs_plain : (ps : List HelperPair) → AllByRecursion IsReadablePair ps → AllByRecursion IsPlain (flat_map pair_words ps)
pairs_plain [] h = tt
pairs_plain (p ∷ ps) h = (pid_plain p.helper h.0.0, (pid_plain p.member h.0.1, pairs_plain ps h.1))

-- What is said of a text that was read.
use Rattle.std.proofs.Common.{inr, subst, ◌≡◌, ℕ, ◌+◌, Ok, Bool, true, false, List, [], length, codes, Option, None, sym, ap, ◌∙◌, append-nil, ◌∷◌}
use Rattle.vk_types.specs.Types.{ProcessSpec}
use Rattle.vk_base.specs.Kernel.{Kernel, initial_kernel}
use Rattle.vk_text.specs.Heads.{head_of}
use Rattle.vk_text.specs.Lines.{lines_of}
use Rattle.v_obstacle.specs.Sights.{IsSeen, Sight, behind_head, behind_heads, sights_of, steps_of, with_lines, with_specs}
use Rattle.vk_explain.specs.declared.reading.Reading.{Reading}
use Rattle.vk_explain.specs.declared.fault.Stop.{Stop}
use Rattle.vk_explain.specs.declared.fault.Stop.TheVariants as stops
use Rattle.vk_explain.specs.Explained.{IsObserved, IsOver, IsRight, IsTitled, IsWrong}
use Rattle.vk_explain.specs.declared.words.Asked.{Asked}
use Rattle.vk_explain.specs.Observed.{observed_by}
use Rattle.vk_explain.specs.Reading.{AreRead, IsOverIn, IsWrongIn, IsSeenTo, Stops}

-- all of these steps are seen so
all_seen : (k l : Kernel) (ws : List Sight) → IsSeenTo k ws l → IsSeen k ws
all_seen k l [] come = tt
all_seen k l (w ∷ ws) (e, allowed, agrees, rest) = (e, allowed, agrees, all_seen e.after l ws rest)

abbrev Heads : Type 0
Heads = Option (List ProcessSpec × List (List ℕ))

sights_behind : (text : List ℕ) (tells : Bool) (specs : List ProcessSpec) (left : List (List ℕ))
    → IsTitled (lines_of text) tells specs left → sights_of text ≡ behind_head tells specs left
sights_behind text false specs left is =
    ap (λ (o : Heads). behind_heads o (head_of (codes "vkernel observed 1") (lines_of text))) is
sights_behind text true specs left (none, is) =
    ap (λ (o : Heads). behind_heads o (head_of (codes "vkernel observed 1") (lines_of text))) none
    ∙ ap (λ (o : Heads). behind_heads None o) is

-- these lines behind the head are those of the steps that were read
read_behind : (text : List ℕ) (specs : List ProcessSpec) (left : List (List ℕ)) (old new : Reading)
    → IsTitled (lines_of text) old.tells specs left → old.line ≡ length specs + 2 → (read : AreRead specs [] left old new)
    → sights_of text ≡ Ok (specs, read.sights)
unfolding with_lines
read_behind text specs left old new titled line read =
    sights_behind text old.tells specs left titled
    ∙ ap (with_specs specs) (
    ap (λ n. with_lines old.tells specs [] n left) (sym line) ∙ ap (with_lines old.tells specs [] old.line) (sym (append-nil left))
    ∙ read.on []
    )

pub is_right : (text : List ℕ) (specs : List ProcessSpec) (left : List (List ℕ)) (old new : Reading)
    → IsTitled (lines_of text) old.tells specs left → old.line ≡ length specs + 2 → AreRead specs [] left old new
    → IsRight text new.steps new.answers
is_right text specs left old new titled line read = record {
  specs = specs;
  sights = read.sights;
  reads = read_behind text specs left old new titled line read;
  seen = all_seen (initial_kernel specs) read.read.kernel read.sights read.read.come;
  steps_are = read.read.steps;
  answers_are = read.read.answers;
}

pub is_observed : (asked : Asked) (text : List ℕ) (specs : List ProcessSpec) (left : List (List ℕ)) (old new : Reading)
    → IsTitled (lines_of text) old.tells specs left → old.line ≡ length specs + 2 → AreRead specs [] left old new → old.asked ≡ asked
    → IsObserved asked text new.observed.items
is_observed asked text specs left old new titled line read is = record {
  specs = specs;
  sights = read.sights;
  reads = read_behind text specs left old new titled line read;
  seen = all_seen (initial_kernel specs) read.read.kernel read.sights read.read.come;
  is = read.read.observed ∙ ap (λ (a : Asked). observed_by a specs (steps_of read.sights)) (read.asked ∙ is);
}

-- what holds of what is told
pub stops_weaker : (P Q : List ℕ → Type 0) (A B : Type 0) (s : Stop) → ((told : List ℕ) → P told → Q told) → (A → B) → Stops P A s → Stops Q B s
stops_weaker P Q A B (stops.Wrong text) follows over holds = follows text.items holds
stops_weaker P Q A B stops.Limit follows over holds = over holds
stops_weaker P Q A B stops.NoMemory follows over holds = tt

-- what is wrong in the lines behind the head is wrong in the text
pub stops_behind : (text : List ℕ) (specs : List ProcessSpec) (left : List (List ℕ)) (old : Reading) (s : Stop)
    → IsTitled (lines_of text) old.tells specs left → old.line ≡ length specs + 2
    → Stops (IsWrongIn old.tells specs [] old.line left) (IsOverIn old.tells specs [] old.line left) s
    → Stops (IsWrong text) (IsOver text) s
stops_behind text specs left old s titled line holds =
    let reads = sights_behind text old.tells specs left titled in
    stops_weaker (IsWrongIn old.tells specs [] old.line left) (IsWrong text) (IsOverIn old.tells specs [] old.line left) (IsOver text) s
    (λ told wrong. inr (record {
      tells = old.tells;
      specs = specs;
      lines = left;
      reads = reads;
      wrong = subst (λ n. IsWrongIn old.tells specs [] n left told) line wrong;
    }))
    (λ over. record {
      tells = old.tells;
      specs = specs;
      lines = left;
      reads = reads;
      over = subst (λ n. IsOverIn old.tells specs [] n left) line over;
    })
    holds

-- What settling and judging come to: what holds of each rule, or news, that they may choose holds of the one that they choose.
use Rattle.std.proofs.Common.{◌≡◌, ℕ, ◌+◌, ◌<◌, ◌≤◌, ◌==◌, ◌&&◌, Bool, true, false, not, nat_le, List, [], ◌∷◌, length, slice_get, Option, Some, None, refl, arith, sym, ◌∙◌, subst, if◌then◌else◌}
use Rattle.std.proofs.lemmas.Bool.{and_parts, eqb-false, eqb-true, leb-false, leb-true, not-false}
use Rattle.std.proofs.lemmas.Option.{none-some, same_Some}
use Rattle.vk_types.specs.Types.{Message, Pid}
use Rattle.vk_pipe.specs.declared.limits.TheConstants.{PIPE_BYTES, WAITING_REQUESTS}
use Rattle.vk_pipe.specs.declared.news.News.{News}
use Rattle.vk_pipe.specs.declared.news.News.TheVariants as brings
use Rattle.vk_pipe.specs.declared.serving.PipeServing.TheVariants as stages
use Rattle.vk_pipe.specs.declared.serving.Verdict.TheVariants as verdicts
use Rattle.vk_pipe.specs.declared.waiting.Read.{Read}
use Rattle.vk_pipe.specs.declared.waiting.Write.{Write}
use Rattle.vk_pipe.specs.Kept.{IsAtEnd, NothingSettles}
use Rattle.vk_pipe.specs.Pipes.{Calls, Ends, Pipe, Puts, Rule, Serves, fitting, is_empty, judged, read_rule, settled, waiting, write_rule}
use Rattle.vk_pipe.specs.Requests.{is_close, is_request, is_write, read_of}

-- a choice has what both have, each where the test goes its way
pub either_way : {A : Type 0} (P : A → Type 0) (b : Bool) (x y : A) → (b ≡ true → P x) → (b ≡ false → P y) → P (if b then x else y)
either_way P true x y f g = f refl
either_way P false x y f g = g refl

nothing_in : {A : Type 0} (xs : List A) → (length xs == 0) ≡ true → xs ≡ []
nothing_in [] h = refl
nothing_in (x ∷ xs) h = let none_there : length (x ∷ xs) ≡ 0 = eqb-true (length (x ∷ xs)) 0 h in absurd (omega (arith, none_there))

not_something : {A : Type 0} (xs : List A) → not (length xs == 0) ≡ false → xs ≡ []
not_something xs h = nothing_in xs (not-false (length xs == 0) h)

something_in : {A : Type 0} (xs : List A) → not (length xs == 0) ≡ true → 0 < length xs
something_in [] h = absurd (cc)
something_in (x ∷ xs) h = omega arith

at_end : (p : Pipe) → p.bytes ≡ [] → (p.closed && length p.writes == 0) ≡ true → IsAtEnd p
at_end p empty both =
    let parts = and_parts p.closed (length p.writes == 0) both in
    record { closed = parts.0; no_bytes = empty; no_writes = nothing_in p.writes parts.1 }

not_both : {A : Type 0} (b : Bool) (xs : List A) → (b && length xs == 0) ≡ false → b ≡ true → xs ≡ [] → ⊥
not_both true [] f t n = cc f
not_both true (x ∷ xs) f t n = cc n
not_both false xs f t n = cc t

-- the first write that waits does not fit
abbrev pub HasNoRoom : Pipe → Type 0
HasNoRoom p = (w : Write) → slice_get p.writes 0 ≡ Some w → PIPE_BYTES < length p.bytes + length w.bytes

read_rule_goes : (P : Rule → Type 0) (p : Pipe) → HasNoRoom p
    → (NothingSettles p → P (Calls stages.Receive))
    → ((r : Read) → slice_get p.reads 0 ≡ Some r → 0 < length p.bytes → P (Serves r))
    → ((r : Read) → slice_get p.reads 0 ≡ Some r → IsAtEnd p → P (Ends r))
    → (o : Option Read) → slice_get p.reads 0 ≡ o → P (read_rule p o)
read_rule_goes P p room rests serves ends None e =
    rests (record {
      no_room = room;
      no_bytes = λ r h. absurd (none-some r (sym e ∙ h));
      no_end = λ r h over. none-some r (sym e ∙ h);
    })
read_rule_goes P p room rests serves ends (Some r) e =
    either_way P (not (is_empty p)) (Serves r) (if p.closed && length p.writes == 0 then Ends r else Calls stages.Receive)
    (λ some. serves r e (something_in p.bytes some))
    (λ empty. either_way P (p.closed && length p.writes == 0) (Ends r) (Calls stages.Receive)
    (λ both. ends r e (at_end p (not_something p.bytes empty) both))
    (λ neither. rests (record {
      no_room = room;
      no_bytes = λ q h. not_something p.bytes empty;
      no_end = λ q h over. not_both p.closed p.writes neither over.closed over.no_writes;
    })))

write_rule_goes : (P : Rule → Type 0) (p : Pipe)
    → (NothingSettles p → P (Calls stages.Receive))
    → ((w : Write) → slice_get p.writes 0 ≡ Some w → length p.bytes + length w.bytes ≤ PIPE_BYTES → P (Puts w))
    → ((r : Read) → slice_get p.reads 0 ≡ Some r → 0 < length p.bytes → P (Serves r))
    → ((r : Read) → slice_get p.reads 0 ≡ Some r → IsAtEnd p → P (Ends r))
    → (o : Option Write) → slice_get p.writes 0 ≡ o → P (write_rule p (fitting (length p.bytes) o))
write_rule_goes P p rests puts serves ends None e =
    read_rule_goes P p (λ w h. absurd (none-some w (sym e ∙ h))) rests serves ends (slice_get p.reads 0) refl
write_rule_goes P p rests puts serves ends (Some w) e =
    either_way (λ (o : Option Write). P (write_rule p o)) (nat_le (length p.bytes + length w.bytes) PIPE_BYTES) (Some w) None
    (λ t. puts w e (leb-true (length p.bytes + length w.bytes) PIPE_BYTES t))
    (λ f. read_rule_goes P p
    (λ v h. subst (λ (u : Write). PIPE_BYTES < length p.bytes + length u.bytes) (same_Some w v (sym e ∙ h))
    (leb-false (length p.bytes + length w.bytes) PIPE_BYTES f))
    rests serves ends (slice_get p.reads 0) refl)

pub settled_goes : (P : Rule → Type 0) (p : Pipe)
    → P (Calls stages.Exit)
    → (NothingSettles p → P (Calls stages.Receive))
    → ((w : Write) → slice_get p.writes 0 ≡ Some w → length p.bytes + length w.bytes ≤ PIPE_BYTES → P (Puts w))
    → ((r : Read) → slice_get p.reads 0 ≡ Some r → 0 < length p.bytes → P (Serves r))
    → ((r : Read) → slice_get p.reads 0 ≡ Some r → IsAtEnd p → P (Ends r))
    → P (settled p)
settled_goes P p exits rests puts serves ends =
    either_way P (p.left == 0) (Calls stages.Exit) (write_rule p (fitting (length p.bytes) (slice_get p.writes 0))) (λ e. exits)
    (λ e. write_rule_goes P p rests puts serves ends (slice_get p.writes 0) refl)

pub judged_goes : (P : News → Type 0) (p : Pipe) (from : Pid) (m : Message) (count : ℕ)
    → P (brings.Due (stages.Reply from verdicts.Bad))
    → (is_close m ≡ true → P (brings.Close from))
    → P (brings.Due (stages.Reply from verdicts.Shut))
    → (waiting p ≡ WAITING_REQUESTS → P (brings.Due (stages.Reply from verdicts.Full)))
    → ((waiting p ≡ WAITING_REQUESTS → ⊥) → P (brings.Due (stages.Load from count)))
    → ((waiting p ≡ WAITING_REQUESTS → ⊥) → P (brings.ReadWaits (read_of from m)))
    → P (judged p from m count)
judged_goes P p from m count bad closes shut full loads reads =
    either_way P (not (is_request m)) _ _ (λ e. bad) (λ e.
    either_way P (is_close m) _ _ closes (λ e.
    either_way P (is_write m && p.closed) _ _ (λ e. shut) (λ e.
    either_way P (waiting p == WAITING_REQUESTS) _ _ (λ t. full (eqb-true (waiting p) WAITING_REQUESTS t)) (λ f.
    either_way P (is_write m) _ _ (λ e. loads (eqb-false (waiting p) WAITING_REQUESTS f))
    (λ e. reads (eqb-false (waiting p) WAITING_REQUESTS f))))))

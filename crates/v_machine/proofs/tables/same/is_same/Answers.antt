use Rattle.std.proofs.Common.{◌≡◌, ℕ, ◌+◌, ◌*◌, ◌<◌, Bool, true, false, ◌==◌, ◌&&◌, refl, sym, ◌∙◌, arith}
use Rattle.std.proofs.lemmas.Bool.{and_from, and_parts, eq-eqb, eqb-true}
use Rattle.v_machine.proofs.tables.same.is_same.Goals as goal

-- tests that follow from each other are one
alike : (a b : Bool) → (a ≡ true → b ≡ true) → (b ≡ true → a ≡ true) → a ≡ b
alike true b f g = sym (f refl)
alike false true f g = g refl
alike false false f g = refl

-- two numbers in one are those of another pair only where both are
in_one : (h k l m : ℕ) → h < 65535 → k < 65535 → (l * 65536 + h == m * 65536 + k) ≡ ((h == k) && (l == m))
in_one h k l m low few =
    alike (l * 65536 + h == m * 65536 + k) ((h == k) && (l == m))
    (λ e.
    let same = eqb-true (l * 65536 + h) (m * 65536 + k) e in
    let locals : l ≡ m = omega (arith, same, low, few) in
    let hosts : h ≡ k = omega (arith, same, locals) in
    and_from (h == k) (l == m) (eq-eqb h k hosts) (eq-eqb l m locals))
    (λ e.
    let both = and_parts (h == k) (l == m) e in
    let hosts = eqb-true h k both.0 in
    let locals = eqb-true l m both.1 in
    eq-eqb (l * 65536 + h) (m * 65536 + k) (omega (arith, hosts, locals)))

pub returns : goal.returns
returns c = (λ i. c.both.ensures i == c.both-2.ensures i) ∙ in_one c.args.a.host c.args.b.host c.args.a.local c.args.b.local c.args.a.one_host c.args.b.one_host

-- The tests of an access, against what the code finds.
use Rattle.std.proofs.Common.{◌≡◌, ℕ, Bool, true, false, ◌&&◌, not, nat_lt, [], ◌∷◌, length, Some, None, refl, sym, ap, ◌∙◌, if◌then◌else◌}
use Rattle.std.proofs.lemmas.Bool.{and_parts, not-false}
use Rattle.std.proofs.lemmas.Option.{none-some}
use Rattle.vk_types.specs.Types.{Exchange, Grants, Pid, Process, Refusal}
use Rattle.vk_base.specs.declared.answer.Refusal.TheVariants as refusals
use Rattle.vk_base.specs.Calls.{first_that_holds, is_granted, is_own}
use Rattle.vk_base.specs.Kernel.{Kernel, held, held_exchange, name_of}
use Rattle.vk_base.specs.Messages.{grants_of, segment_of}
use Rattle.vk_base.specs.Ranges.{range_of, lies_in, lies_within}
use Rattle.v_machine.specs.declared.calls.access.SegmentAccess.{SegmentAccess}
use Rattle.v_machine.specs.Access.{is_allowed_to, access_tests}
use Rattle.v_machine.proofs.StepLemmas.{found, tests_held}

allowed_is : (write : Bool) (e : Exchange) (g : Grants) → g ≡ grants_of e.message →
    is_allowed_to write (Some e) ≡ (if write then g.write else g.read)
allowed_is true e g is = ap (λ (x : Grants). x.write) (sym is)
allowed_is false e g is = ap (λ (x : Grants). x.read) (sym is)

pub tests_found : (k : Kernel) (pid : Pid) (p : Process) (a : SegmentAccess) (number : ℕ) (e : Exchange) (g : Grants) (may own : Bool) →
    nat_lt a.limit a.own.len ≡ false → held k pid a.partner ≡ Some number → k.exchanges (name_of a.partner number) ≡ Some e →
    g ≡ grants_of e.message →
    may ≡ (if a.write then g.write else g.read) → own ≡ is_own p a.own.start a.own.len →
    first_that_holds (access_tests k pid p a) ≡ first_that_holds
    ((not may, refusals.NoAccess) ∷ (not (lies_within a.granted g.range && own), refusals.BadRange) ∷ [])
tests_found k pid p a number e g may own short holds at is may_is own_is =
    let allowed : is_allowed_to a.write (Some e) ≡ may = allowed_is a.write e g is ∙ sym may_is in
    tests_held k pid a.partner a.limit a.own.len number e (is_allowed_to a.write)
    (λ x. is_granted x a.granted.start a.granted.len && is_own p a.own.start a.own.len) short holds at
    ∙ (λ i. first_that_holds ((not (allowed i), refusals.NoAccess)
    ∷ (not (lies_within (range_of a.granted.start a.granted.len) (sym is i).range && sym own_is i), refusals.BadRange) ∷ []))

-- what holds where no test does
not_any : (a b c d : Bool) (w x y z : Refusal) → first_that_holds ((a, w) ∷ (b, x) ∷ (c, y) ∷ (d, z) ∷ []) ≡ None → d ≡ false
not_any true b c d w x y z e = absurd (none-some w (sym e))
not_any false true c d w x y z e = absurd (none-some x (sym e))
not_any false false true d w x y z e = absurd (none-some y (sym e))
not_any false false false true w x y z e = absurd (none-some z (sym e))
not_any false false false false w x y z e = refl

pub ranges_lie : (k : Kernel) (pid : Pid) (p : Process) (a : SegmentAccess) (number : ℕ) (e : Exchange) → held k pid a.partner ≡ Some number →
    k.exchanges (name_of a.partner number) ≡ Some e → first_that_holds (access_tests k pid p a) ≡ None →
    (lies_within a.granted (segment_of e.message) ≡ true) × (lies_in a.own (length p.memory) ≡ true)
ranges_lie k pid p a number e holds at none =
    let exchange : held_exchange k pid a.partner ≡ Some e = found (held k pid a.partner) number _ _ holds at in
    let last = not_any _ _ _ _ refusals.TooLong refusals.NotAwaiting refusals.NoAccess refusals.BadRange none in
    let fits : (is_granted (Some e) a.granted.start a.granted.len && is_own p a.own.start a.own.len) ≡ true =
    not-false _ (ap (λ o. not (is_granted o a.granted.start a.granted.len && is_own p a.own.start a.own.len)) (sym exchange) ∙ last) in
    and_parts (lies_within a.granted (segment_of e.message)) (lies_in a.own (length p.memory)) fits

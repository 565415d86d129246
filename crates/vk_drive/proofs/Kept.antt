-- The last frames, each in its place; and a frame more.
use Rattle.std.proofs.Common.{◌≡◌, ◌≢◌, ℕ, zero, suc, ◌+◌, ◌%◌, ◌<◌, List, [], ◌∷◌, ◌++◌, length, map, set, Some, refl, sym, ap, subst, ◌∙◌, length-append, arith, inl, inr}
use Rattle.std.specs.Prelude.{slice_get}
use Rattle.std.proofs.lemmas.Bool.{cases_eq}
use Rattle.std.proofs.lemmas.List.{length-set}
use Rattle.std.proofs.lemmas.Option.{none-some, same_Some, slice_get-get_or, slice_get_within}
use Rattle.vk_frame.specs.declared.header.Header.{Header}
use Rattle.vk_cluster.proofs.Found.{pushed_last, pushed_other}
use Rattle.vk_cluster.proofs.Logs.{get_set_other, get_set_same}
use Rattle.vk_host.specs.Sealed.{header_for, sealed}
use Rattle.vk_rules.specs.Frames.{Frame}
use Rattle.vk_rules.specs.Laws.{HaveHeaders}
use Rattle.vk_drive.specs.declared.recent.RecentFrame.{RecentFrame}
use Rattle.vk_drive.specs.declared.recent.RecentFrames.{RecentFrames}
use Rattle.vk_drive.specs.Driving.{KeepsRecent, kept_of}
use Rattle.vk_drive.specs.Told.{headers}

-- the header of a frame is that of its place
pub header_at : (host stamp number event first output : ℕ) (fs : List Frame) (at : ℕ) (f : Frame) →
    HaveHeaders host stamp number event first fs → slice_get fs at ≡ Some f → output ≡ first + at →
    f.header ≡ header_for host stamp number event output f.header.destination
header_at host stamp number event first output [] at f have found is = absurd (none-some f found)
header_at host stamp number event first output (g ∷ gs) zero f have found is =
    let same : g ≡ f = same_Some g f found in
    let one : first ≡ output = omega (arith, is) in
    subst (λ (x : Frame). x.header ≡ header_for host stamp number event output x.header.destination) same
    (have.0
    ∙ (λ i. header_for host stamp number event (one i) (sym (ap (λ (h : Header). h.destination) have.0) i)))
header_at host stamp number event first output (g ∷ gs) (suc at) f have found is =
    header_at host stamp number event (first + 1) output gs at f have.1 found (omega (arith, is))

-- one more, in its place
pub one_kept : (old new : RecentFrames) (fs : List Frame) (f : Frame) → KeepsRecent fs old →
    new.frames.items ≡ set old.frames.items (old.count % 32) (kept_of f) → new.count ≡ old.count + 1 → KeepsRecent (fs ++ f ∷ []) new
one_kept old new fs f before items count =
    let here : ℕ = old.count % 32 in
    let kept : List RecentFrame = old.frames.items in
    let were = before.count in
    let places = before.places in
    let long = length-append fs (f ∷ []) in
    let low : here < length kept = omega (arith, places) in
    let there = slice_get-get_or kept here (kept_of f) low in
    let now : (q : ℕ) (x : RecentFrame) → slice_get (set kept here (kept_of f)) q ≡ Some x → slice_get new.frames.items q ≡ Some x =
    λ q x is. ap (λ l. slice_get l q) items ∙ is in
    record {
      places = ap length items ∙ length-set kept here (kept_of f) ∙ places;
      count = omega (arith, count, were, long);
      each = λ n g found few. elim (cases_eq n (length fs)) [
        | inl last ↦
            let same : f ≡ g = same_Some f g (sym (pushed_last fs f) ∙ ap (slice_get (fs ++ f ∷ [])) (sym last) ∙ found) in
            let at : n % 32 ≡ here = ap (λ k. k % 32) (last ∙ sym were) in
            now (n % 32) (kept_of g)
            (ap (slice_get (set kept here (kept_of f))) at ∙ get_set_same kept here (kept_of f) _ there ∙ ap (λ x. Some (kept_of x)) same)
        | inr other ↦
            let earlier : slice_get fs n ≡ Some g = sym (pushed_other fs f n other) ∙ found in
            let within = slice_get_within fs n g earlier in
            let apart : (n % 32) ≢ here = λ same. omega (arith, same, were, within, few, long) in
            now (n % 32) (kept_of g)
            (get_set_other kept here (n % 32) (kept_of f) apart ∙ before.each n g earlier (omega (arith, few, long)))
      ];
    }

-- the frame of which header and bytes are told
pub record IsTold (fs : List Frame) (at : ℕ) (r : RecentFrame) : Type 0 where
  pub frame : Frame
  pub found : slice_get fs at ≡ Some frame
  pub is : r ≡ kept_of frame

pub told_at : (fs : List Frame) (at : ℕ) (h : Header) (bytes : List ℕ) → slice_get (headers fs) at ≡ Some h →
    slice_get (map sealed fs) at ≡ Some bytes → IsTold fs at (record { header = h; bytes = bytes })
told_at [] at h bytes header found = absurd (none-some h header)
told_at (f ∷ fs) zero h bytes header found =
    let one = same_Some f.header h header in
    let other = same_Some (sealed f) bytes found in
    record { frame = f; found = refl; is = (λ i. record { header = sym one i; bytes = sym other i }) }
told_at (f ∷ fs) (suc at) h bytes header found =
    let rest = told_at fs at h bytes header found in
    record { frame = rest.frame; found = rest.found; is = rest.is }

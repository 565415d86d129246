-- Slots that are gone through in order, and a list that is emptied.
use Rattle.std.proofs.Common.{◌≡◌, ℕ, zero, suc, ◌+◌, ◌<◌, ◌≤◌, Bool, true, false, cond, List, [], ◌∷◌, ◌++◌, drop, take, length, map, get_or, set, refl, sym, ap, subst, ◌∙◌, arith, append_assoc, Option, Some, None}
use Rattle.std.specs.List.{slice_get}
use Rattle.std.specs.Option.{option_map}
use Rattle.std.proofs.lemmas.Grind.{common_steps}
use Rattle.std.proofs.lemmas.List.{append-nil, get_or-set_same, length-append, length-set, length-map, map-append, take_all}
use Rattle.std.proofs.lemmas.Option.{none-some}
use Rattle.vk_types.specs.Types.{Pid}
use Rattle.vk_base.specs.Packets.{Packet}
use Rattle.vk_packet.specs.Posts.{Posts}
use Rattle.vk_pool.specs.declared.alien.Alien.{Alien}
use Rattle.vk_pool.specs.Aliens.{alien_at, refused}
use Rattle.vk_queue.specs.Lists.{Lists, queue_at, with_list}
use Rattle.vk_stands.specs.Rules.{post_of, posted}
use Rattle.vk_local.specs.declared.exits.Left.{Left}
use Rattle.vk_local.specs.Exits.{after_left, is_left, left_of, left_slots, negatives, sent_by, slots_left, told_left, told_slot}

set_same : {X : Type 0} (xs : List X) (n : ℕ) (d : X) → set xs n (get_or xs n d) ≡ xs
set_same [] n d = refl
set_same (x ∷ xs) zero d = refl
set_same (x ∷ xs) (suc n) d = ap (λ ys. x ∷ ys) (set_same xs n d)

-- A front of the list is changed, and then one element more.
module _ {X : Type 0} (f : X → X) (d : X) where
  at_next : (xs : List X) (n : ℕ) → get_or (map f (take n xs) ++ drop n xs) n d ≡ get_or xs n d
  at_next [] zero = refl
  at_next [] (suc n) = refl
  at_next (x ∷ xs) zero = refl
  at_next (x ∷ xs) (suc n) = at_next xs n

  pub one_more : (xs : List X) (n : ℕ) → set (map f (take n xs) ++ drop n xs) n (f (get_or xs n d)) ≡ map f (take (suc n) xs) ++ drop
      (suc n) xs
  one_more [] zero = refl
  one_more [] (suc n) = refl
  one_more (x ∷ xs) zero = refl
  one_more (x ∷ xs) (suc n) = ap (λ ys. f x ∷ ys) (one_more xs n)

told_next : (pid : Pid) (xs : List (Option Alien)) (n : ℕ) →
    negatives pid (take n xs) ++ told_slot pid (get_or xs n None) ≡ negatives pid (take (suc n) xs)
told_next pid [] zero = refl
told_next pid [] (suc n) = refl
told_next pid (x ∷ xs) zero = sym (append-nil (told_slot pid x))
told_next pid (x ∷ xs) (suc n) =
    append_assoc (told_slot pid x) (negatives pid (take n xs)) (told_slot pid (get_or xs n None))
    ∙ ap (λ ps. told_slot pid x ++ ps) (told_next pid xs n)

pub posted_twice : (o : Posts) (ps qs : List Packet) → posted (posted o ps) qs ≡ posted o (ps ++ qs)
posted_twice o ps qs = ap (λ posts. record o { posts = posts })
    (append_assoc o.posts (map post_of ps) (map post_of qs) ∙ ap (λ xs. o.posts ++ xs) (sym (map-append post_of ps qs)))

told_few : (o : Option Left) → length (told_left o) ≤ 1
told_few None = omega arith
told_few (Some x) = omega arith

-- The slots before this one were left by the process that exits.
pub record IsLeftTo (pid : Pid) (now n : ℕ) (old slots : List (Option Alien)) (before after : Posts) : Type 0 where
  pub kept : slots ≡ left_slots pid now (take n old) ++ drop n old
  pub packets : after ≡ posted before (negatives pid (take n old))
  pub few : length after.posts ≤ length before.posts + n

-- one slot more
changed_by : (slots : List (Option Alien)) (pid : Pid) (n now : ℕ) (a : Alien) (b : Bool) → is_left pid a ≡ b →
    alien_at slots n ≡ Some a →
    slots_left slots n now (cond b (Some (sent_by a)) None) ≡ set slots n (Some (cond b (refused now a) a))
changed_by slots pid n now a true is at = ap (λ o. set slots n (option_map (refused now) o)) at
changed_by slots pid n now a false is at = sym (ap (set slots n) (sym at) ∙ set_same slots n None)

changed_on : (slots : List (Option Alien)) (pid : Pid) (n now : ℕ) (o : Option Alien) → alien_at slots n ≡ o →
    slots_left slots n now (left_of pid o) ≡ set slots n (option_map (after_left pid now) o)
changed_on slots pid n now None at = sym (ap (set slots n) (sym at) ∙ set_same slots n None)
changed_on slots pid n now (Some a) at = changed_by slots pid n now a (is_left pid a) refl at

told_length : (o : Posts) (ps : List Packet) (m n : ℕ) → length ps ≤ m → length o.posts ≤ n → length (posted o ps).posts ≤ n + m
told_length o ps m n few before =
    let len : length (o.posts ++ map post_of ps) ≡ length o.posts + length (map post_of ps) = length-append o.posts (map post_of ps) in
    let same : length (map post_of ps) ≡ length ps = length-map ps post_of in
    omega (arith, len, same)

pub left_first : (pid : Pid) (now : ℕ) (old : List (Option Alien)) (o : Posts) → IsLeftTo pid now 0 old old o o
left_first pid now old o = record {
  kept = refl;
  packets = ap (λ posts. record o { posts = posts }) (sym (append-nil o.posts));
  few = omega arith;
}

pub left_more : (pid : Pid) (now n : ℕ) (old slots new : List (Option Alien)) (o before after : Posts) →
    IsLeftTo pid now n old slots o before → new ≡ slots_left slots n now (left_of pid (alien_at slots n)) →
    after ≡ posted before (told_left (left_of pid (alien_at slots n))) → IsLeftTo pid now (n + 1) old new o after
left_more pid now n old slots new o before after h is told =
    let here : alien_at slots n ≡ alien_at old n =
    ap (λ xs. get_or xs n None) h.kept ∙ at_next (option_map (after_left pid now)) None old n in
    let next : suc n ≡ n + 1 = omega arith in
    record {
      kept = is ∙ changed_on slots pid n now (alien_at slots n) refl
          ∙ ap (λ x. set slots n (option_map (after_left pid now) x)) here
          ∙ ap (λ xs. set xs n (option_map (after_left pid now) (alien_at old n))) h.kept
          ∙ one_more (option_map (after_left pid now)) None old n
          ∙ ap (λ k. left_slots pid now (take k old) ++ drop k old) next;
      packets = told ∙ ap (λ x. posted before (told_slot pid x)) here
          ∙ ap (λ p. posted p (told_slot pid (alien_at old n))) h.packets
          ∙ posted_twice o (negatives pid (take n old)) (told_slot pid (alien_at old n))
          ∙ ap (posted o) (told_next pid old n) ∙ ap (λ k. posted o (negatives pid (take k old))) next;
      few = subst (λ (p : Posts). length p.posts ≤ length o.posts + (n + 1)) (sym told)
          (let few : length (posted before (told_left (left_of pid (alien_at slots n)))).posts ≤ length o.posts + n + 1 =
          told_length before (told_left (left_of pid (alien_at slots n))) 1 (length o.posts + n)
          (told_few (left_of pid (alien_at slots n))) h.few in
          omega (arith, few));
    }

pub left_all : (pid : Pid) (now n : ℕ) (old slots : List (Option Alien)) (o after : Posts) → length old ≤ n →
    IsLeftTo pid now n old slots o after →
    (slots ≡ left_slots pid now old) × (after ≡ posted o (negatives pid old))
left_all pid now n old slots o after few h =
    let all : take n old ≡ old = take_all n old few in
    let none : drop n old ≡ [] = none_behind n old few in (
      h.kept ∙ ap (λ xs. left_slots pid now (take n old) ++ xs) none ∙ append-nil (left_slots pid now (take n old))
          ∙ ap (left_slots pid now) all,
      h.packets ∙ ap (λ xs. posted o (negatives pid xs)) all,
    )
  where
    none_behind : (n : ℕ) (xs : List (Option Alien)) → length xs ≤ n → drop n xs ≡ []
    none_behind n xs few = grind (arith, common_steps)

-- the slot that is left next is as it was
pub next_slot : (pid : Pid) (now n : ℕ) (old slots : List (Option Alien)) (o after : Posts) → IsLeftTo pid now n old slots o after →
    alien_at old n ≡ alien_at slots n
next_slot pid now n old slots o after h = sym (ap (λ xs. get_or xs n None) h.kept ∙ at_next (option_map (after_left pid now)) None old n)

-- The list is a rest of what it was, and the others are as they were.
pub record IsEmptying (list : ℕ) (old now : Lists) : Type 0 where
  pub low : list < length now.lists
  pub same : now ≡ with_list old list (queue_at now.lists list)

pub emptying_first : (list : ℕ) (l : Lists) → list < length l.lists → IsEmptying list l l
emptying_first list l low = record { low = low; same = ap (λ ls. record l { lists = ls }) (sym (set_same l.lists list [])) }

set_twice : {X : Type 0} (xs : List X) (n : ℕ) (x y : X) → set (set xs n x) n y ≡ set xs n y
set_twice [] n x y = refl
set_twice (z ∷ zs) zero x y = refl
set_twice (z ∷ zs) (suc n) x y = ap (λ ys. z ∷ ys) (set_twice zs n x y)

pub emptying_more : (list : ℕ) (old now new : Lists) (queue : List ℕ) → IsEmptying list old now → new ≡ with_list now list queue →
    IsEmptying list old new × (queue_at new.lists list ≡ queue)
emptying_more list old now new queue h is =
    let put : queue_at new.lists list ≡ queue = ap (λ (l : Lists). queue_at l.lists list) is
    ∙ get_or-set_same now.lists list queue [] h.low in
    let long : length (set now.lists list queue) ≡ length now.lists = length-set now.lists list queue in (
      record {
        low = subst (λ (l : Lists). list < length l.lists) (sym is) (omega (arith, long, h.low));
        same = is
            ∙ ap (λ (l : Lists). with_list l list queue) h.same
            ∙ ap (λ ls. record old { lists = ls }) (set_twice old.lists list (queue_at now.lists list) queue)
            ∙ ap (with_list old list) (sym put);
      },
      put,
    )

pub emptied_at : (list : ℕ) (old now : Lists) → IsEmptying list old now →
    None ≡ slice_get (queue_at now.lists list) 0 → now ≡ with_list old list []
emptied_at list old now h none = h.same ∙ ap (with_list old list) (none_first (queue_at now.lists list) none)
  where
    none_first : (queue : List ℕ) → None ≡ slice_get queue 0 → queue ≡ []
    none_first [] none = refl
    none_first (x ∷ xs) none = absurd (none-some x none)

pub shorter : (queue : List ℕ) (slot : ℕ) → Some slot ≡ slice_get queue 0 → length (drop 1 queue) < length queue
shorter [] slot is = absurd (none-some slot (sym is))
shorter (x ∷ xs) slot is = omega arith

-- What all answers tell, from what each of them does.
use Rattle.std.proofs.Common.{◌≡◌, List, [], ◌∷◌, ◌++◌, map, refl, ap, sym, ◌∙◌, append-nil, append_assoc}
use Rattle.std.specs.List.{flat_map}
use Rattle.std.proofs.lemmas.List.{map-append}
use Rattle.std.proofs.lemmas.List.Concat.{flat_map-append}
use Rattle.vk_types.specs.Types.{Answer}
use Rattle.vk_pipe.specs.Pipes.{Server, answered, answered_all}
use Rattle.vk_pipe.specs.Told.{along}

-- Where each answer adds to what is held, and takes from its front, what was added is what was taken, and then what is held
held_along : {X : Type 0} (held : Server → List X) (more less : Server → Answer → List X)
    → ((s : Server) (a : Answer) → held s ++ more s a ≡ less s a ++ held (answered s a))
    → (s : Server) (given : List Answer) → held s ++ along more s given ≡ along less s given ++ held (answered_all s given)
held_along held more less each s [] = append-nil (held s)
held_along {X} held more less each s (a ∷ rest) =
    sym (append_assoc (held s) (more s a) (along more (answered s a) rest))
    ∙ ap (λ (l : List X). l ++ along more (answered s a) rest) (each s a)
    ∙ append_assoc (less s a) (held (answered s a)) (along more (answered s a) rest)
    ∙ ap (λ (l : List X). less s a ++ l) (held_along held more less each (answered s a) rest)
    ∙ sym (append_assoc (less s a) (along less (answered s a) rest) (held (answered_all (answered s a) rest)))

-- of a server that holds nothing at first
pub kept_along : {X : Type 0} (held : Server → List X) (more less : Server → Answer → List X)
    → ((s : Server) (a : Answer) → held s ++ more s a ≡ less s a ++ held (answered s a))
    → (s : Server) (given : List Answer) → held s ≡ [] → along more s given ≡ along less s given ++ held (answered_all s given)
kept_along {X} held more less each s given none_held =
    sym (ap (λ (l : List X). l ++ along more s given) none_held) ∙ held_along held more less each s given

pub map_along : {X Y : Type 0} (f : X → Y) (tells : Server → Answer → List X) (s : Server) (given : List Answer)
    → map f (along tells s given) ≡ along (λ t a. map f (tells t a)) s given
map_along f tells s [] = refl
map_along {X} {Y} f tells s (a ∷ rest) =
    map-append f (tells s a) (along tells (answered s a) rest)
    ∙ ap (λ (l : List Y). map f (tells s a) ++ l) (map_along f tells (answered s a) rest)

pub flat_along : {X Y : Type 0} (f : X → List Y) (tells : Server → Answer → List X) (s : Server) (given : List Answer)
    → flat_map f (along tells s given) ≡ along (λ t a. flat_map f (tells t a)) s given
flat_along f tells s [] = refl
flat_along {X} {Y} f tells s (a ∷ rest) =
    flat_map-append f (tells s a) (along tells (answered s a) rest)
    ∙ ap (λ (l : List Y). flat_map f (tells s a) ++ l) (flat_along f tells (answered s a) rest)

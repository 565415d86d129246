-- What contracts see of an outbox.
use Rattle.std.specs.Prelude.{ℕ, List, [], ◌∷◌, ◌++◌}

pub record Posts : Type 0 where
  -- so many packets can be in it
  pub room : ℕ
  -- what stands in front of each place for a packet, used or not: so many bytes as a frame's header has
  pub fronts : List (List ℕ)
  -- the packets that are, in order: for which station, and the bytes
  pub posts : List (ℕ × List ℕ)

-- each packet behind its front
abbrev pub behind : List (List ℕ) → List (ℕ × List ℕ) → List (List ℕ)
behind (f ∷ fs) (p ∷ ps) = (f ++ p.1) ∷ behind fs ps
behind fs ps = []

abbrev pub framed : Posts → List (List ℕ)
framed o = behind o.fronts o.posts

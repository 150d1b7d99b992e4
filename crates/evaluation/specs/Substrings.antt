-- One text in another.
use Rattle.std.specs.Prelude.{◌≡◌, ℕ, Bool, true, false, ◌&&◌, ◌||◌, List, [], ◌∷◌, ◌++◌, ◌==◌}

-- a text begins with a part
abbrev pub begins : List ℕ → List ℕ → Bool
begins [] text = true
begins (p ∷ part) [] = false
begins (p ∷ part) (b ∷ text) = p == b && begins part text

-- THE TEST whether a part stands in a text
abbrev pub contained : List ℕ → List ℕ → Bool
contained part [] = begins part []
contained part (b ∷ text) = begins part (b ∷ text) || contained part text

-- the part stands in the text: something before it, and something behind it
pub record Within (part text : List ℕ) : Type 0 where
  pub before : List ℕ
  pub behind : List ℕ
  pub is : text ≡ before ++ (part ++ behind)

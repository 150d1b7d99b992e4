-- Whether some element of a list passes.
use Rattle.std.proofs.Common.{◌≡◌, Bool, ◌||◌, List, [], ◌∷◌, map, sym, refl, ap, ◌∙◌}
use Rattle.std.specs.List.{list_any}
use Rattle.diagrams.specs.Views.{seen}
use Rattle.ranges.specs.declared.edges.Edge.{Edge}

mapped : {A B : Type 0} (f : A → B) (p : B → Bool) (xs : List A) → list_any p (map f xs) ≡ list_any (λ x. p (f x)) xs
mapped f p [] = refl
mapped f p (x ∷ xs) = ap (λ b. p (f x) || b) (mapped f p xs)

-- edges as an id shows them
pub any_seen : {T : Type 0} (id : _) (p : Edge T → Bool) (es : List (Edge T)) (r : Bool) → r ≡ list_any (λ e. p (seen id e)) es → r ≡ list_any p (map (seen id) es)
any_seen id p es r e = e ∙ sym (mapped (seen id) p es)

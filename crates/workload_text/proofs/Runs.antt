-- Lines that may follow one after another.
use Rattle.std.proofs.Common.{◌≡◌, List, [], ◌∷◌, ◌++◌, refl, sym, ap, subst, ◌∙◌}
use Rattle.workload_text.specs.Text.{Line}
use Rattle.workload_text.specs.Following.{Place, MayFollow, MayAllFollow, place_after, place_after_all}

pub place_after-append : (place : Place) (xs ys : List Line) → place_after_all place (xs ++ ys) ≡ place_after_all (place_after_all place xs) ys
place_after-append place [] ys = refl
place_after-append place (x ∷ xs) ys = place_after-append (place_after place x) xs ys

pub follow-append : (place : Place) (xs ys : List Line) → MayAllFollow place xs → MayAllFollow (place_after_all place xs) ys → MayAllFollow place (xs ++ ys)
follow-append place [] ys hx hy = hy
follow-append place (x ∷ xs) ys hx hy = (hx.0, follow-append (place_after place x) xs ys hx.1 hy)

pub follow_first : (place : Place) (xs ys : List Line) → MayAllFollow place (xs ++ ys) → MayAllFollow place xs
follow_first place [] ys h = tt
follow_first place (x ∷ xs) ys h = (h.0, follow_first (place_after place x) xs ys h.1)

pub follow_later : (place : Place) (xs ys : List Line) → MayAllFollow place (xs ++ ys) → MayAllFollow (place_after_all place xs) ys
follow_later place [] ys h = h
follow_later place (x ∷ xs) ys h = follow_later (place_after place x) xs ys h.1

-- one line more
pub follow-push : (place next : Place) (xs : List Line) (y : Line) → MayAllFollow place xs → place_after_all place xs ≡ next → MayFollow next y → MayAllFollow place (xs ++ y ∷ [])
follow-push place next xs y hx at hy = follow-append place xs (y ∷ []) hx (subst (λ (p : Place). MayAllFollow p (y ∷ [])) (sym at) (hy, tt))

pub place-push : (place next : Place) (xs : List Line) (y : Line) → place_after_all place xs ≡ next → place_after_all place (xs ++ y ∷ []) ≡ place_after next y
place-push place next xs y at = place_after-append place xs (y ∷ []) ∙ ap (λ (p : Place). place_after p y) at

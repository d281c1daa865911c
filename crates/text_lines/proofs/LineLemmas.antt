-- Lines: where one ends, and what a text of lines begins with.
use Rattle.std.proofs.Common.{◌≡◌, ◌≢◌, ℕ, List, [], ◌∷◌, ◌++◌, refl, sym, ap, ◌∙◌, append_assoc, Option, Some, None, Bor, MatchOption, IfSome, IfNone}
use Rattle.std.specs.List.{AllByRecursion}
use Rattle.std.proofs.lemmas.List.{append_cancel_left}
use Rattle.text_lines.specs.Lines.{line, lines_text, HasNoFeed}

-- bytes without a line feed begin with no line
pub no_line : (bytes text rest : List ℕ) → HasNoFeed bytes → bytes ≢ line text ++ rest
no_line [] [] rest h e = cc
no_line [] (t ∷ text) rest h e = cc
no_line (b ∷ bytes) [] rest h e = h.0 cc
no_line (b ∷ bytes) (t ∷ text) rest h e = no_line bytes text rest h.1 cc

-- the first line and what is behind it are determined
pub same_line : (x y r s : List ℕ) → HasNoFeed x → HasNoFeed y → line x ++ r ≡ line y ++ s → (x ≡ y) × (r ≡ s)
same_line [] [] r s hx hy e = (refl, cc)
same_line [] (b ∷ y) r s hx hy e = absurd (hy.0 cc)
same_line (a ∷ x) [] r s hx hy e = absurd (hx.0 cc)
same_line (a ∷ x) (b ∷ y) r s hx hy e =
    let t : line x ++ r ≡ line y ++ s = cc in
    let both = same_line x y r s hx.1 hy.1 t in
    let heads : a ≡ b = cc in
    let tails : x ≡ y = both.0 in
    (cc, both.1)

pub no_empty_line : (x r : List ℕ) → line x ++ r ≢ []
no_empty_line [] r e = cc
no_empty_line (a ∷ x) r e = cc

-- lines at the front of a text of lines are the first of its lines, and what is behind them is the text of the others
pub first_lines : (seen : List (List ℕ)) (rest : List ℕ) (all : List (List ℕ)) → AllByRecursion HasNoFeed seen → AllByRecursion HasNoFeed all → lines_text seen ++ rest ≡ lines_text all
    → (more : List (List ℕ)) × (all ≡ seen ++ more) × (rest ≡ lines_text more)
first_lines [] rest all hs ha e = (all, refl, e)
first_lines (x ∷ seen) rest [] hs ha e = absurd (no_empty_line x (lines_text seen ++ rest) (sym (append_assoc (line x) (lines_text seen) rest) ∙ e))
first_lines (x ∷ seen) rest (y ∷ all) hs ha e =
    let split = same_line x y (lines_text seen ++ rest) (lines_text all) hs.0 ha.0 (sym (append_assoc (line x) (lines_text seen) rest) ∙ e) in
    let others = first_lines seen rest all hs.1 ha.1 split.1 in
    let heads : x ≡ y = split.0 in
    let tails : all ≡ seen ++ others.0 = others.1 in
    (others.0, cc, others.2)

-- a text at the front, and then a line feed or none
pub no_text_no_line : (bytes text : List ℕ) → ((rest : List ℕ) → bytes ≢ text ++ rest) → (rest : List ℕ) → bytes ≢ line text ++ rest
no_text_no_line bytes text none rest e = none (10 ∷ rest) (e ∙ append_assoc text (10 ∷ []) rest)

pub then_feed : (bytes text rest : List ℕ) (o : Option (Bor (List ℕ))) → bytes ≡ text ++ rest → MatchOption o ((r : List ℕ) → rest ≢ 10 ∷ r) (λ r. rest ≡ 10 ∷ r.now)
    → IfSome o (λ r. bytes ≡ line text ++ r.now) × IfNone o ((r : List ℕ) → bytes ≢ line text ++ r)
then_feed bytes text rest None e m = (tt, λ r f. m r (append_cancel_left text rest (10 ∷ r) (sym e ∙ f ∙ append_assoc text (10 ∷ []) r)))
then_feed bytes text rest (Some x) e m = (e ∙ ap (λ (w : List ℕ). text ++ w) m ∙ sym (append_assoc text (10 ∷ []) x.now), tt)

-- ---- three lines, one after another

behind_three : (x y z r : List ℕ) → lines_text (x ∷ y ∷ z ∷ []) ++ r ≡ line x ++ (line y ++ (line z ++ r))
behind_three x y z r = simp append_assoc

pub three_found : (x y z bytes r s : List ℕ) (o : Option (Bor (List ℕ))) → bytes ≡ line x ++ r → r ≡ line y ++ s → IfSome o (λ t. s ≡ line z ++ t.now) → IfSome o (λ t. bytes ≡ lines_text (x ∷ y ∷ z ∷ []) ++ t.now)
three_found x y z bytes r s None e f g = tt
three_found x y z bytes r s (Some t) e f g =
    e ∙ ap (λ (w : List ℕ). line x ++ w) (f ∙ ap (λ (w : List ℕ). line y ++ w) g) ∙ sym (behind_three x y z t.now)

pub three_none : (x y z bytes r s : List ℕ) (o : Option (Bor (List ℕ))) → bytes ≡ line x ++ r → r ≡ line y ++ s → IfNone o ((t : List ℕ) → s ≢ line z ++ t) → IfNone o ((t : List ℕ) → bytes ≢ lines_text (x ∷ y ∷ z ∷ []) ++ t)
three_none x y z bytes r s (Some t) e f g = tt
three_none x y z bytes r s None e f g = λ t h.
    let second : r ≡ line y ++ (line z ++ t) = append_cancel_left (line x) r (line y ++ (line z ++ t)) (sym e ∙ h ∙ behind_three x y z t) in
    g t (append_cancel_left (line y) s (line z ++ t) (sym f ∙ second))

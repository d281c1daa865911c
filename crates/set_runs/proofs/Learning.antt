-- Callers that learn from one another, one after another.
use Rattle.std.proofs.Common.{◌≡◌, ℕ, zero, suc, ◌+◌, ◌≤◌, ◌<◌, List, ◌∷◌, length, length-append, get_or, set, All, refl, sym, ap, ◌∙◌, subst, arith, ⊎_elim}
use Rattle.std.proofs.lemmas.Bool.Decides.{eqb_tells}
use Rattle.std.proofs.lemmas.List.{get_or_default}
use Rattle.std.proofs.lemmas.List.Elements.{All-get_or}
use Rattle.record_memory.specs.declared.books.View.{View}
use Rattle.record_rule.specs.World.{StartsWith}
use Rattle.record_rule.proofs.Rebuilt.{starts_itself, starts_then}
use Rattle.set_api.specs.Answers.{Meets}
use Rattle.set_runs.specs.declared.players.Player.{Player}
use Rattle.set_runs.specs.Playing.{AtEach, IsSamePlayer, Stays, Learns, HasMet}
use Rattle.set_runs.proofs.Places.{each_set, at_each_set}

-- what begins a list is no longer
pub starts_shorter : {A : Type 0} (whole start : List A) → StartsWith whole start → length start ≤ length whole
starts_shorter whole start h = omega (arith, ap length h.1, length-append start h.0)

module _ {T C : Type 0} (has : T → C → Type 0) (set' : T) (view : C → View) where
  pub same_player : (p : Player C) → has set' p.caller → IsSamePlayer has set' p p
  same_player p h = record { has_it = h; same_number = refl; same_replies = refl }

  pub stays : (p : Player C) → has set' p.caller → Stays has set' view p p
  stays p h = record { same = same_player p h; same_view = refl }

  pub learns : (p : Player C) → has set' p.caller → Learns has set' view p p
  learns p h = record { same = same_player p h; own = starts_itself (view p.caller).front; rest = refl }

  -- with another caller of the same view it is still the same player
  pub stays_then : (p q : Player C) (c : C) → Stays has set' view p q → has set' c → view c ≡ view q.caller → Stays has set' view p (record q { caller = c })
  stays_then p q c s h e = record { same = record { has_it = h; same_number = s.same.same_number; same_replies = s.same.same_replies }; same_view = e ∙ s.same_view }

  pub learns_then : (p q : Player C) (c : C) → Learns has set' view p q → has set' c → StartsWith (view c).front (view q.caller).front → view c ≡ record (view q.caller) { front = (view c).front } → Learns has set' view p (record q { caller = c })
  learns_then p q c s h own rest = record {
    same = record { has_it = h; same_number = s.same.same_number; same_replies = s.same.same_replies };
    own = starts_then (view p.caller).front (view q.caller).front (view c).front s.own own;
    rest = rest ∙ ap (λ (v : View). record v { front = (view c).front }) s.rest;
  }

  abbrev pub front_length : Player C → ℕ
  front_length p = length (view p.caller).front

  -- so many of the others told the first one
  pub record Gathering (first : Player C) (xs : List (Player C)) (n : ℕ) (f : Player C) (ys : List (Player C)) : Type 0 where
    pub first_learns : Learns has set' view first f
    pub others_stay : AtEach (λ i. Stays has set' view) xs ys
    pub met : (i : ℕ) (d : Player C) → i < n → i < length xs → front_length (get_or xs i d) ≤ front_length f

  pub gathering_none : (first : Player C) (xs : List (Player C)) → has set' first.caller → All (λ p. has set' p.caller) xs → Gathering first xs 0 first xs
  gathering_none first xs h hs = record {
    first_learns = learns first h;
    others_stay = record { same_length = refl; each = λ i d there. stays (get_or xs i d) (All-get_or (λ (p : Player C). has set' p.caller) xs i d there hs) };
    met = λ i d none there. absurd (omega (arith, none));
  }

  pub gathering_more : (first : Player C) (xs : List (Player C)) (n : ℕ) (f : Player C) (ys : List (Player C)) (e : Player C) (c t : C) → Gathering first xs n f ys → n < length xs
      → has set' c → view c ≡ view (get_or ys n e).caller → has set' t → Meets (view (get_or ys n e).caller) (view f.caller) (view t) → Gathering first xs (n + 1) (record f { caller = t }) (set ys n (record (get_or ys n e) { caller = c }))
  gathering_more first xs n f ys e c t g within hc same ht m =
      let q : Player C = get_or ys n e in
      let read : (d : Player C) → get_or ys n d ≡ q = λ d. get_or_default ys n d e (subst (λ l. n < l) (sym g.others_stay.same_length) within) in
      let q_stays : (d : Player C) → Stays has set' view (get_or xs n d) q = λ d. subst (λ y. Stays has set' view (get_or xs n d) y) (read d) (g.others_stay.each n d within) in
      record {
        first_learns = learns_then first f t g.first_learns ht m.own m.rest;
        others_stay = at_each_set (λ i. Stays has set' view) xs ys n (record q { caller = c }) g.others_stay within (λ d. stays_then (get_or xs n d) q c (q_stays d) hc same);
        met = λ i d before there.
            ⊎_elim (λ same_place. subst (λ k. front_length (get_or xs k d) ≤ length (view t).front) (sym same_place.1) (omega (arith, ap (λ (v : View). length v.front) (q_stays d).same_view, starts_shorter (view t).front (view q.caller).front m.met)))
            (λ other. omega (arith, g.met i d (omega (arith, before, other.1)) there, starts_shorter (view t).front (view f.caller).front m.own)) (eqb_tells i n);
      }

  -- the first one told so many of the others
  pub record Spreading (first : Player C) (xs : List (Player C)) (n : ℕ) (f : Player C) (ys : List (Player C)) : Type 0 where
    pub first_stays : Stays has set' view first f
    pub others_learn : AtEach (λ i. Learns has set' view) xs ys
    pub met : (i : ℕ) (d : Player C) → i < n → i < length xs → front_length first ≤ front_length (get_or ys i d)

  pub spreading_none : (first : Player C) (xs : List (Player C)) → has set' first.caller → All (λ p. has set' p.caller) xs → Spreading first xs 0 first xs
  spreading_none first xs h hs = record {
    first_stays = stays first h;
    others_learn = record { same_length = refl; each = λ i d there. learns (get_or xs i d) (All-get_or (λ (p : Player C). has set' p.caller) xs i d there hs) };
    met = λ i d none there. absurd (omega (arith, none));
  }

  pub spreading_more : (first : Player C) (xs : List (Player C)) (n : ℕ) (f : Player C) (ys : List (Player C)) (e : Player C) (c t : C) → Spreading first xs n f ys → n < length xs
      → has set' t → view t ≡ view f.caller → has set' c → Meets (view f.caller) (view (get_or ys n e).caller) (view c) → Spreading first xs (n + 1) (record f { caller = t }) (set ys n (record (get_or ys n e) { caller = c }))
  spreading_more first xs n f ys e c t g within ht same hc m =
      let q : Player C = get_or ys n e in
      let inside : n < length ys = subst (λ l. n < l) (sym g.others_learn.same_length) within in
      let read : (d : Player C) → get_or ys n d ≡ q = λ d. get_or_default ys n d e inside in
      record {
        first_stays = stays_then first f t g.first_stays ht same;
        others_learn = at_each_set (λ i. Learns has set' view) xs ys n (record q { caller = c }) g.others_learn within (λ d. learns_then (get_or xs n d) q c (subst (λ y. Learns has set' view (get_or xs n d) y) (read d) (g.others_learn.each n d within)) hc m.own m.rest);
        met = λ i d before there.
            each_set (λ k y. k < n + 1 → front_length first ≤ front_length y) ys n (record q { caller = c }) d inside (λ now. omega (arith, starts_shorter (view c).front (view f.caller).front m.met, ap (λ (v : View). length v.front) g.first_stays.same_view))
            (λ k within_ys other now. g.met k d (omega (arith, now, other)) (subst (λ l. k < l) g.others_learn.same_length within_ys)) i (subst (λ l. i < l) (sym g.others_learn.same_length) there) before;
      }

  -- Where the first one heard all of the others, and then told them, all have met
  pub all_met : (first f h : Player C) (xs ys zs : List (Player C)) → Learns has set' view first f → Stays has set' view f h → AtEach (λ i. Stays has set' view) xs ys → AtEach (λ i. Learns has set' view) ys zs
      → All (λ p. front_length p ≤ front_length f) ys → All (λ p. front_length f ≤ front_length p) zs → AtEach (λ i. HasMet has set' view (front_length f)) (first ∷ xs) (h ∷ zs)
  all_met first f h xs ys zs learned kept others told before behind = record {
    same_length = ap suc (told.same_length ∙ others.same_length);
    each = met;
  } where
    stayed : (p q r : Player C) → Stays has set' view p q → Learns has set' view q r → Learns has set' view p r
    stayed p q r s l = record {
      same = record { has_it = l.same.has_it; same_number = l.same.same_number ∙ s.same.same_number; same_replies = l.same.same_replies ∙ s.same.same_replies };
      own = subst (λ (v : View). StartsWith (view r.caller).front v.front) s.same_view l.own;
      rest = l.rest ∙ ap (λ (v : View). record v { front = (view r.caller).front }) s.same_view;
    }

    met : (i : ℕ) (d : Player C) → i < length (first ∷ xs) → HasMet has set' view (front_length f) (get_or (first ∷ xs) i d) (get_or (h ∷ zs) i d)
    met zero d there = record {
      same = record { has_it = kept.same.has_it; same_number = kept.same.same_number ∙ learned.same.same_number; same_replies = kept.same.same_replies ∙ learned.same.same_replies };
      met = record {
        before = starts_shorter (view f.caller).front (view first.caller).front learned.own;
        behind = omega (arith, ap (λ (v : View). length v.front) kept.same_view);
        own = subst (λ (v : View). StartsWith v.front (view first.caller).front) (sym kept.same_view) learned.own;
        rest = kept.same_view ∙ learned.rest ∙ ap (λ (v : View). record (view first.caller) { front = v.front }) (sym kept.same_view);
      };
    }
    met (suc i) d there =
        let within : i < length xs = omega (arith, there) in
        let in_ys : i < length ys = subst (λ l. i < l) (sym others.same_length) within in
        let in_zs : i < length zs = subst (λ l. i < l) (sym told.same_length) in_ys in
        let l = stayed (get_or xs i d) (get_or ys i d) (get_or zs i d) (others.each i d within) (told.each i d in_ys) in
        record {
          same = l.same;
          met = record {
            before = omega (arith, ap (λ (v : View). length v.front) (others.each i d within).same_view, All-get_or (λ (p : Player C). front_length p ≤ front_length f) ys i d in_ys before);
            behind = All-get_or (λ (p : Player C). front_length f ≤ front_length p) zs i d in_zs behind;
            own = l.own;
            rest = l.rest;
          };
        }

  -- who knew of no update has met nobody
  pub met_nobody : (p : Player C) → has set' p.caller → front_length p ≤ 0 → HasMet has set' view 0 p p
  met_nobody p h none = record { same = same_player p h; met = record { before = none; behind = omega arith; own = starts_itself (view p.caller).front; rest = refl } }

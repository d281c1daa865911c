-- One more answered call: a step decided it, or it is placed as a read.
use Rattle.std.proofs.Common.{◌≡◌, ℕ, ◌+◌, ◌-◌, ◌<◌, ◌≤◌, inl, inr, List, [], ◌∷◌, ◌++◌, length, length-append, take, set, Bool, true, false, sym, refl, ap, ◌∙◌, subst, arith, ⊎_elim, Option, Some, None}
use Rattle.std.proofs.lemmas.List.{append-nil, take-append-le}
use Rattle.std.proofs.Math.Seq.{take-length}
use mathlib.Core.Logic.{dite}
use native.Mathlib.Decide.{ℕ_discrete}
use mathlib.Core.Option.{some}
use lib.ListN.{get_elem?}
use Rattle.atomic_table.proofs.Lists.{at_set, set_here, set_else, set_again, at_longer, at_last}
use Rattle.set_model.specs.declared.calls.Call.{Call}
use Rattle.set_model.specs.declared.calls.Call.TheVariants.{Insert, Remove, Search}
use Rattle.set_model.specs.declared.calls.Update.{Update}
use Rattle.set_model.specs.Histories.{call_of}
use Rattle.record_memory.specs.declared.books.View.{View}
use Rattle.record_memory.specs.declared.books.Answered.{Answered}
use Rattle.record_memory.specs.declared.books.Offer.{Offer}
use Rattle.set_model.specs.declared.names.SetName.{SetName}
use Rattle.record_rule.specs.Machines.{legal_for, replies_for}
use Rattle.record_rule.specs.Facts.{At, ShapeFacts, IsLegalUpdate}
use Rattle.record_rule.specs.Laws.{with_update}
use Rattle.record_rule.specs.Histories.{before, after, IsPlaced, IsExplained, IsAnswered, HistoryFits}
use Rattle.record_rule.specs.World.{StartsWith}
use Rattle.record_rule.specs.Links.{Decides, entry_for, front_for, own_update}
use Rattle.record_rule.proofs.Lists.{below_at, one_at}
use Rattle.record_rule.proofs.Rebuilt.{starts_itself, starts_more}
use Rattle.record_rule.proofs.Seats.{at_end}

module _ (s : ShapeFacts) (name : SetName) where
  -- what explained a call still does
  explained_longer : (d : Bool) (updates : List Update) (u : Update) (c n : ℕ) (a : Answered) → IsExplained s name d updates c n a → IsExplained s name d (updates ++ u ∷ []) c n a
  explained_longer true updates u c n a e = record { update = e.update; at = at_longer updates (u ∷ []) a.position e.update e.at; caller = e.caller; number = e.number; call = e.call; yes = e.yes }
  explained_longer false updates u c n a e = let l = length-append updates (u ∷ []) in let w = e.within in record {
    within = omega arith;
    answered = subst (λ (h : List Update). replies_for name h a.call a.reply) (sym (take-append-le a.position updates (u ∷ []) e.within)) e.answered;
  }

  module _ (updates : List Update) (books : List (List Answered)) (offers : List (Option Offer)) (h : HistoryFits s name updates books offers) (c : ℕ) (book : List Answered) (at : get_elem? books c ≡ some book) where
    -- one more entry of the caller's, behind all that it has
    ordered_after : (a : Answered) → ((n : ℕ) (b : Answered) → get_elem? book n ≡ some b → after b ≤ before a)
        → (d : ℕ) (other : List Answered) → get_elem? (set books c (book ++ a ∷ [])) d ≡ some other → (n m : ℕ) (p q : Answered) → get_elem? other n ≡ some p → get_elem? other m ≡ some q → n < m → after p ≤ before q
    ordered_after a last d other e n m p q ep eq lt = ⊎_elim
        (λ t. let ep' : get_elem? (book ++ a ∷ []) n ≡ some p = ap (λ (l : List Answered). get_elem? l n) t.1 ∙ ep in
        let eq' : get_elem? (book ++ a ∷ []) m ≡ some q = ap (λ (l : List Answered). get_elem? l m) t.1 ∙ eq in
        ⊎_elim (λ y. ⊎_elim (λ x. h.ordered c book at n m p q x y lt) (λ x. let b = below_at book m q y in let z = x.0 in absurd (omega arith)) (at_end book a p n ep'))
        (λ y. ⊎_elim (λ x. subst (λ (z : Answered). after p ≤ before z) y.1 (last n p x)) (λ x. let z = x.0 in let w = y.0 in absurd (omega arith)) (at_end book a p n ep'))
        (at_end book a q m eq'))
        (λ t. h.ordered d other t.1 n m p q ep eq lt) (at_set books c d (book ++ a ∷ []) other e)

    -- each entry is explained, the new one too
    explained_after : (updates' : List Update) → ((d n : ℕ) (b : Answered) → IsExplained s name b.decided updates d n b → IsExplained s name b.decided updates' d n b) → (a : Answered) → IsExplained s name a.decided updates' c (length book) a
        → (d : ℕ) (other : List Answered) → get_elem? (set books c (book ++ a ∷ [])) d ≡ some other → (n : ℕ) (p : Answered) → get_elem? other n ≡ some p → IsExplained s name p.decided updates' d n p
    explained_after updates' grows a new d other e n p ep = ⊎_elim
        (λ t. let ep' : get_elem? (book ++ a ∷ []) n ≡ some p = ap (λ (l : List Answered). get_elem? l n) t.1 ∙ ep in
        subst (λ (z : ℕ). IsExplained s name p.decided updates' z n p) (sym t.0)
        (⊎_elim (λ x. grows c n p (h.explained c book at n p x)) (λ x. subst (λ (z : Answered). IsExplained s name z.decided updates' c n z) x.1 (subst (λ (z : ℕ). IsExplained s name a.decided updates' c z a) (sym x.0) new)) (at_end book a p n ep')))
        (λ t. grows d n p (h.explained d other t.1 n p ep)) (at_set books c d (book ++ a ∷ []) other e)

    -- an update that was answered still is
    answered_by : (a : Answered) (i : ℕ) (u : Update) (updates' : List Update) → IsAnswered s name updates books i u → IsAnswered s name updates' (set books c (book ++ a ∷ [])) i u
    answered_by a i u updates' t = dite (ℕ_discrete u.caller c)
        (λ e. let same : book ≡ t.book = one_at books c book t.book at (ap (get_elem? books) (sym e) ∙ t.at) in record {
          book = book ++ a ∷ [];
          at = ap (get_elem? (set books c (book ++ a ∷ []))) e ∙ set_here books c (book ++ a ∷ []) (below_at books c book at);
          entry = t.entry;
          there = at_longer book (a ∷ []) (u.number - 1) t.entry (ap (λ (l : List Answered). get_elem? l (u.number - 1)) same ∙ t.there);
          some_number = t.some_number;
          decided = t.decided;
          position = t.position;
        })
        (λ ne. record {
          book = t.book;
          at = set_else books c u.caller (book ++ a ∷ []) ne ∙ t.at;
          entry = t.entry;
          there = t.there;
          some_number = t.some_number;
          decided = t.decided;
          position = t.position;
        })

    -- A read is placed behind all that its caller had answered, where nobody else may decide its caller's call
    pub reads : At offers c None → (a : Answered) → a.decided ≡ false → IsPlaced s name updates a → ((n : ℕ) (b : Answered) → get_elem? book n ≡ some b → after b ≤ a.position) → HistoryFits s name updates (set books c (book ++ a ∷ [])) offers
    reads free a dec placed last = record {
      lawful = h.lawful;
      explained = explained_after updates (λ d n b e. e) a (subst (λ (z : Bool). IsExplained s name z updates c (length book) a) (sym dec) placed);
      ordered = ordered_after a last;
      answered = λ i u e. ⊎_elim (λ y. inl (answered_by a i u updates y)) inr (h.answered i u e);
      once = h.once;
      offered = λ d l o e f. ⊎_elim (λ x. let z : None ≡ Some o = one_at offers c None (Some o) free (ap (get_elem? offers) (sym x.0) ∙ f) in let no : ⊥ = cc in absurd no) (λ x. h.offered d l o x.1 f) (at_set books c d (book ++ a ∷ []) l e);
    }

    -- an update of the caller's next call isn't in the list, where the caller lets nobody decide it
    not_yet : At offers c None → (j : ℕ) (w : Update) → At updates j w → w.caller ≡ c → w.number ≡ length book + 1 → ⊥
    not_yet free j w e caller number = ⊎_elim
        (λ t. let same : book ≡ t.book = one_at books c book t.book at (ap (get_elem? books) (sym caller) ∙ t.at) in
        let b = below_at book (w.number - 1) t.entry (ap (λ (l : List Answered). get_elem? l (w.number - 1)) same ∙ t.there) in omega arith)
        (λ t. let z : Some t.offer ≡ None = one_at offers c (Some t.offer) None (ap (get_elem? offers) (sym caller) ∙ t.at) free in cc) (h.answered j w e)

    -- a step decides the caller's call
    pub decides : At offers c None → (u : Update) (a : Answered) → u.caller ≡ c → u.number ≡ length book + 1 → call_of u ≡ a.call → a.reply ≡ true → a.decided ≡ true → a.position ≡ length updates → legal_for name updates u
        → ((n : ℕ) (b : Answered) → get_elem? book n ≡ some b → after b ≤ length updates)
        → HistoryFits s name (updates ++ u ∷ []) (set books c (book ++ a ∷ [])) offers
    decides free u a caller number call answer dec pos ok front = record {
      lawful = λ i w e. ⊎_elim (λ x. let b = below_at updates i w x in subst (λ (l : List Update). legal_for name l w) (sym (take-append-le i updates (u ∷ []) (omega arith))) (h.lawful i w x))
          (λ x. subst (λ (z : ℕ). legal_for name (take z (updates ++ u ∷ [])) w) (sym x.0) (subst (λ (l : List Update). legal_for name l w) (sym (take-append-le (length updates) updates (u ∷ []) (omega arith) ∙ take-length updates)) (subst (legal_for name updates) x.1 ok))) (at_end updates u w i e);
      explained = explained_after (updates ++ u ∷ []) (λ d n b e. explained_longer b.decided updates u d n b e) a
          (subst (λ (z : Bool). IsExplained s name z (updates ++ u ∷ []) c (length book) a) (sym dec) record { update = u; at = at_last updates u a.position (sym pos); caller = caller; number = number; call = call; yes = answer });
      ordered = ordered_after a (λ n b e. subst (λ (z : ℕ). after b ≤ z) (sym pos) (front n b e));
      answered = λ i w e. ⊎_elim (λ x. ⊎_elim (λ y. inl (answered_by a i w (updates ++ u ∷ []) y)) inr (h.answered i w x))
          (λ x. inl (subst (IsAnswered s name (updates ++ u ∷ []) (set books c (book ++ a ∷ [])) i) x.1 record {
            book = book ++ a ∷ [];
            at = ap (get_elem? (set books c (book ++ a ∷ []))) caller ∙ set_here books c (book ++ a ∷ []) (below_at books c book at);
            entry = a;
            there = at_last book a (u.number - 1) (omega arith);
            some_number = omega arith;
            decided = dec;
            position = pos ∙ sym x.0;
          })) (at_end updates u w i e);
      once = λ i j w z e f same num. ⊎_elim
          (λ x. ⊎_elim (λ y. h.once i j w z x y same num) (λ y. absurd (not_yet free i w x (same ∙ sym (ap (λ (q : Update). q.caller) y.1) ∙ caller) (num ∙ sym (ap (λ (q : Update). q.number) y.1) ∙ number))) (at_end updates u z j f))
          (λ x. ⊎_elim (λ y. absurd (not_yet free j z y (sym same ∙ sym (ap (λ (q : Update). q.caller) x.1) ∙ caller) (sym num ∙ sym (ap (λ (q : Update). q.number) x.1) ∙ number))) (λ y. x.0 ∙ sym y.0) (at_end updates u z j f)) (at_end updates u w i e);
      offered = λ d l o e f. ⊎_elim (λ x. let z : None ≡ Some o = one_at offers c None (Some o) free (ap (get_elem? offers) (sym x.0) ∙ f) in let no : ⊥ = cc in absurd no)
          (λ x. let q = h.offered d l o x.1 f in let n = length-append updates (u ∷ []) in record { helped = q.helped; number = q.number; since = let z = q.since in omega arith; behind = q.behind }) (at_set books c d (book ++ a ∷ []) l e);
    }

-- the history, and what the pass has seen of it, once its step may have decided a call of its caller's
pub record Grows (s : ShapeFacts) (name : SetName) (updates : List Update) (books : List (List Answered)) (offers : List (Option Offer)) (v : View) (call : Option Call) (u : Option Update) : Type 0 where
  pub more : StartsWith (with_update updates u) updates
  pub history : HistoryFits s name (with_update updates u) (set books v.own.caller (v.own.answered ++ entry_for (length updates) call)) offers
  pub front : StartsWith (with_update updates u) (front_for v.front (with_update updates u) call)
  pub longer : length v.front ≤ length (front_for v.front (with_update updates u) call)
  pub behind : (n : ℕ) (a : Answered) → At (v.own.answered ++ entry_for (length updates) call) n a → after a ≤ length (front_for v.front (with_update updates u) call)

module _ (s : ShapeFacts) (name : SetName) (updates : List Update) (books : List (List Answered)) (offers : List (Option Offer)) (v : View) (h : HistoryFits s name updates books offers) (at : At books v.own.caller v.own.answered)
    (offer : At offers v.own.caller v.own.offer) (front : StartsWith updates v.front) (seen : (n : ℕ) (a : Answered) → At v.own.answered n a → after a ≤ length v.front) where
  -- what the pass has seen is no more than there is
  front_within : length v.front ≤ length updates
  front_within = let e = ap length front.1 in let l = length-append v.front front.0 in omega arith

  -- nobody else may decide its call
  pub free_by : (o : Option Offer) → v.own.offer ≡ o → (s.helped → v.own.offer ≡ None) → At offers v.own.caller None
  free_by None e may = offer ∙ ap some e
  free_by (Some o) e may = offer ∙ ap some (may (h.offered v.own.caller v.own.answered o at (offer ∙ ap some e)).helped)

  -- it decided this one
  grows_by : (s.helped → v.own.offer ≡ None) → (call : Call) (u : Update) → u.caller ≡ v.own.caller → u.number ≡ length v.own.answered + 1 → call_of u ≡ call → legal_for name updates u → Grows s name updates books offers v (Some call) (Some u)
  grows_by may call u caller number same ok = let l : length (updates ++ u ∷ []) ≡ length updates + 1 = length-append updates (u ∷ []) in record {
    more = starts_more updates (u ∷ []);
    history = decides s name updates books offers h v.own.caller v.own.answered at (free_by v.own.offer refl may) u (record { call = call; reply = true; decided = true; position = length updates }) caller number same refl refl refl ok
        (λ n b e. let x = seen n b e in let y = front_within in omega arith);
    front = starts_itself (updates ++ u ∷ []);
    longer = let y = front_within in omega arith;
    behind = λ n a e. ⊎_elim (λ x. let z = seen n a x in let y = front_within in omega arith)
        (λ x. subst (λ (z : Answered). after z ≤ length (updates ++ u ∷ [])) x.1 (omega arith)) (at_end v.own.answered (record { call = call; reply = true; decided = true; position = length updates }) a n e);
  }

  -- or none
  pub grows : (call : Option Call) → Decides s v call → IsLegalUpdate name updates (own_update v call) → Grows s name updates books offers v call (own_update v call)
  grows None dec ok = record {
    more = starts_itself updates;
    history = subst (λ (l : List (List Answered)). HistoryFits s name updates l offers) (sym (ap (set books v.own.caller) (append-nil v.own.answered) ∙ set_again books v.own.caller v.own.answered at)) h;
    front = front;
    longer = omega arith;
    behind = λ n a e. seen n a (ap (λ l. get_elem? l n) (sym (append-nil v.own.answered)) ∙ e);
  }
  grows (Some (Insert k)) dec ok = grows_by dec (Insert k) (record { caller = v.own.caller; number = length v.own.answered + 1; key = k; added = true }) refl refl refl ok
  grows (Some (Remove k)) dec ok = grows_by dec (Remove k) (record { caller = v.own.caller; number = length v.own.answered + 1; key = k; added = false }) refl refl refl ok
  grows (Some (Search k)) dec ok = absurd dec

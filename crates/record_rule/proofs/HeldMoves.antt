-- What a caller holds, after a move of the table or of the caller.
use Rattle.std.proofs.Common.{◌≡◌, ◌≢◌, ℕ, ◌+◌, ◌-◌, ◌<◌, ◌≤◌, ◌++◌, ◌∷◌, [], List, length, length-append, set, length-set, true, false, sym, refl, ap, ◌∙◌, subst, arith, ◌⊎◌, inl, inr, ⊎_elim, Option, Some, get_or-set_other}
use native.Mathlib.Decide.{ℕ_discrete}
use lib.ListN.{get_elem?}
use Rattle.atomic_table.proofs.Lists.{at_set, set_here, set_else}
use Rattle.record_memory.specs.declared.books.Guard.{Guard}
use Rattle.record_memory.specs.declared.books.Note.{Note}
use Rattle.row_words.specs.Refs.{RefParts, LinkParts, refer}
use Rattle.row_words.specs.Packing.{packed_link}
use Rattle.record_rule.specs.Inputs.{ShapeCell, hidden, root, linked, out, Start, start_of}
use Rattle.record_rule.specs.Facts.{At, with_link, at_held, ShapeFacts, FitsNote, FitsNear, is_linked, is_out}
use Rattle.record_rule.specs.Held.{HoldFits, while_linked, while_out, WaitFits, HeldFits}
use Rattle.record_rule.proofs.Waiting.{waits_reached, waits_linked, waits_out, waits_set}
use Rattle.record_rule.specs.Laws.{LeadsTo, recelled, HoldsOnly, IsNewGeneration}
use Rattle.record_rule.proofs.Lists.{below_at, one_at}

-- the generation, body and marked position of a record that can be reached, in the cell of a root
abbrev pub body_of : ShapeCell → ShapeCell
body_of hidden = hidden
body_of (root generation body m) = root generation body m
body_of (linked generation body m) = root generation body m
body_of (out generation body m n) = root generation body m

-- the cell is of a record that can be reached, and has these
abbrev pub HasBody : ShapeCell → ℕ → List ℕ → ℕ → Type 0
HasBody cell generation body m = body_of cell ≡ root generation body m

-- a cell that was given another body has that
pub has_recelled : (cell : ShapeCell) (generation m m' : ℕ) (body body' : List ℕ) → HasBody cell generation body m → HasBody (recelled cell body' m') generation body' m'
has_recelled hidden generation m m' body body' h = let none : ⊥ = cc in absurd none
has_recelled (root e b k) generation m m' body body' h = let same : e ≡ generation = cc in ap (λ (z : ℕ). root z body' m') same
has_recelled (linked e b k) generation m m' body body' h = let same : e ≡ generation = cc in ap (λ (z : ℕ). root z body' m') same
has_recelled (out e b k n) generation m m' body body' h = let same : e ≡ generation = cc in ap (λ (z : ℕ). root z body' m') same

-- the record is there: linked, or taken out at this number or later
pub record IsThereFrom (cells : List ShapeCell) (taken_out : List RefParts) (start : ℕ) (r : RefParts) : Type 0 where
  pub body : List ℕ
  pub marked : ℕ
  pub some_index : 0 < r.index
  pub at : At cells (r.index - 1) (linked r.generation body marked) ⊎ ((n : ℕ) × (start ≤ n) × At cells (r.index - 1) (out r.generation body marked n))
  -- so none is linked anew at its generation
  pub was_linked : LeadsTo cells r ⊎ ((k : ℕ) × (start ≤ k) × At taken_out k r)

module _ (s : ShapeFacts) where
  -- the record that a caller holds, with what it knows of it
  pub record IsNode (cells : List ShapeCell) (start : ℕ) (r : RefParts) (note : Note) : Type 0 where
    pub index : ℕ
    pub generation : ℕ
    pub marked : ℕ
    pub body : List ℕ
    pub cell : ShapeCell
    pub at : At cells index cell
    pub fits : FitsNear s cells (at_held r note) index generation body marked
    pub reference : r ≡ refer (index + 1) generation
    -- it was taken out behind the guard's start, where it was
    pub behind : (k e m : ℕ) (b : List ℕ) → cell ≡ out e b m k → start ≤ k
    pub has_body : HasBody cell generation body marked

  -- the record that a link led to, of which this note is made
  pub record IsSeen (cells : List ShapeCell) (taken_out : List RefParts) (start : ℕ) (note : Note) (u : RefParts) : Type 0 where
    pub is : IsThereFrom cells taken_out start u
    pub fits : FitsNote s note is.body
    pub key_word : ℕ
    pub keyed : At note.words 1 (Some key_word)

  module _ (cells : List ShapeCell) (i start : ℕ) (cell new : ShapeCell) (at : At cells i cell) where
    -- a hold of the record fits its new cell
    abbrev FitsAnew : ℕ → Note → Type 0
    FitsAnew generation note = HoldFits s (set cells i new) start (refer (i + 1) generation) note

    module _ (when_linked : (generation m : ℕ) (body : List ℕ) (note : Note) → cell ≡ linked generation body m → FitsNote s note body → FitsAnew generation note)
        (when_out : (generation m k : ℕ) (body : List ℕ) (note : Note) → cell ≡ out generation body m k → start ≤ k → FitsNote s note body → FitsAnew generation note) where
      -- a hold of a linked record, this one or another
      linked_set : (j generation m : ℕ) (body : List ℕ) (note : Note) → At cells j (linked generation body m) → FitsNote s note body → Dec (j ≡ i) → HoldFits s (set cells i new) start (refer (j + 1) generation) note
      linked_set j generation m body note there fits (yes e) = subst (λ (k : ℕ). HoldFits s (set cells i new) start (refer (k + 1) generation) note) (sym e)
          (when_linked generation m body note (one_at cells i cell (linked generation body m) at (subst (λ (k : ℕ). At cells k (linked generation body m)) e there)) fits)
      linked_set j generation m body note there fits (no ne) = while_linked j generation m body note (set_else cells i j new ne ∙ there) fits

      -- a hold of one that was taken out
      out_set : (j generation m n : ℕ) (body : List ℕ) (note : Note) → At cells j (out generation body m n) → start ≤ n → FitsNote s note body → Dec (j ≡ i) → HoldFits s (set cells i new) start (refer (j + 1) generation) note
      out_set j generation m n body note there late fits (yes e) = subst (λ (k : ℕ). HoldFits s (set cells i new) start (refer (k + 1) generation) note) (sym e)
          (when_out generation m n body note (one_at cells i cell (out generation body m n) at (subst (λ (k : ℕ). At cells k (out generation body m n)) e there)) late fits)
      out_set j generation m n body note there late fits (no ne) = while_out j generation m n body note (set_else cells i j new ne ∙ there) late fits

      -- what is held fits, after the cell of one record was set
      hold_set : (r : RefParts) (note : Note) → HoldFits s cells start r note → HoldFits s (set cells i new) start r note
      hold_set _ _ (while_linked j generation m body note there fits) = linked_set j generation m body note there fits (ℕ_discrete j i)
      hold_set _ _ (while_out j generation m n body note there late fits) = out_set j generation m n body note there late fits (ℕ_discrete j i)

  module _ (f generation : ℕ) (body : List ℕ) (l : LinkParts) (is_link : 3 ≤ f) (unsettled : s.settled f body ≡ false) (settled : (g : ℕ) → s.settled g body ≡ true → s.settled g (with_link body f generation l) ≡ true) where
    -- the body of a record after a link of it was left
    abbrev body' : List ℕ
    body' = with_link body f generation l

    -- a settled word is another one
    other_word : (g : ℕ) → s.settled (g + 3) body ≡ true → g + 3 - 3 ≢ f - 3
    other_word g is e = let same : g + 3 ≡ f = omega arith in let no_fact : true ≡ false = sym is ∙ ap (λ (k : ℕ). s.settled k body) same ∙ unsettled in cc

    -- so the noted words stay
    note_stays : (note : Note) → FitsNote s note body → FitsNote s note body'
    note_stays note fits g n there = let x = fits g n there in (get_or-set_other body (f - 3) (g + 3 - 3) (packed_link generation l) 0 (other_word g x.1) ∙ x.0, settled (g + 3) x.1)

    module _ (cells : List ShapeCell) (i start m m' : ℕ) where
      -- what is held fits, with the link in this cell
      abbrev Relinked : ShapeCell → Type 0
      Relinked cell = (r : RefParts) (note : Note) → HoldFits s cells start r note → HoldFits s (set cells i (recelled cell body' m')) start r note

      -- whatever the cell is
      hold_relinked : (cell : ShapeCell) (e : ℕ) → HasBody cell e body m → At cells i cell → Relinked cell
      hold_relinked hidden e has at = let none : ⊥ = cc in absurd none
      hold_relinked (root x b y) e has at = hold_set cells i start (root x b y) (root x body' m') at (λ _ _ _ _ q _. let none : ⊥ = cc in absurd none) (λ _ _ _ _ _ q _ _. let none : ⊥ = cc in absurd none)
      hold_relinked (linked x b y) e has at = hold_set cells i start (linked x b y) (linked x body' m') at
          (λ d k c note q fits. let same : x ≡ d = cc in let word : body ≡ c = cc in
          subst (λ (z : ℕ). HoldFits s (set cells i (linked x body' m')) start (refer (i + 1) z) note) same
          (while_linked i x m' body' note (set_here cells i (linked x body' m') (below_at cells i (linked x b y) at)) (note_stays note (subst (FitsNote s note) (sym word) fits))))
          (λ _ _ _ _ _ q _ _. let none : ⊥ = cc in absurd none)
      hold_relinked (out x b y n) e has at = hold_set cells i start (out x b y n) (out x body' m' n) at (λ _ _ _ _ q _. let none : ⊥ = cc in absurd none)
          (λ d k a c note q late fits. let same : x ≡ d = cc in let word : body ≡ c = cc in let number : n ≡ a = cc in
          subst (λ (z : ℕ). HoldFits s (set cells i (out x body' m' n)) start (refer (i + 1) z) note) same
          (while_out i x m' n body' note (set_here cells i (out x body' m' n) (below_at cells i (out x b y n) at)) (omega arith) (note_stays note (subst (FitsNote s note) (sym word) fits))))

      -- so does what waits
      wait_relinked : (taken_out : List RefParts) (cell : ShapeCell) (e : ℕ) → HasBody cell e body m → At cells i cell → (r : RefParts) (note : Note) → WaitFits s cells taken_out start r note → WaitFits s (set cells i (recelled cell body' m')) taken_out start r note
      wait_relinked taken_out hidden e has at r note = let none : ⊥ = cc in absurd none
      wait_relinked taken_out (root x b y) e has at r note = waits_set s cells taken_out start i (root x b y) (root x body' m') at r note (λ c k q. let none : ⊥ = cc in absurd none)
          (λ c seen. absurd (⊎_elim (λ q. let none : ⊥ = cc in none) (λ q. let z = q.1 in let none : ⊥ = cc in none) seen.1))
      wait_relinked taken_out (linked x b y) e has at r note = let word : body ≡ b = cc in waits_set s cells taken_out start i (linked x b y) (linked x body' m') at r note
          (λ c k q. let same : x ≡ r.generation = cc in (body', m', ap (λ (z : ℕ). linked z body' m') same))
          (λ c seen. ⊎_elim
          (λ q. let same : x ≡ r.generation = cc in let is : body' ≡ c = cc in (b, (y, inl (ap (λ (z : ℕ). linked z b y) same)), λ fits. subst (FitsNote s note) is (note_stays note (subst (FitsNote s note) (sym word) fits))))
          (λ q. let z = q.1 in let none : ⊥ = cc in absurd none) seen.1)
      wait_relinked taken_out (out x b y n) e has at r note = let word : body ≡ b = cc in waits_set s cells taken_out start i (out x b y n) (out x body' m' n) at r note (λ c k q. let none : ⊥ = cc in absurd none)
          (λ c seen. ⊎_elim
          (λ q. let none : ⊥ = cc in absurd none)
          (λ q. let z = q.1 in let same : x ≡ r.generation = cc in let is : body' ≡ c = cc in (b, (y, inr (n, ap (λ (k : ℕ). out k b y n) same)), λ fits. subst (FitsNote s note) is (note_stays note (subst (FitsNote s note) (sym word) fits)))) seen.1)

  -- a guard that starts now, or started before, didn't start in the future
  reached_start : (old new taken_out : ℕ) → old ≤ taken_out → (new ≡ old) ⊎ (new ≡ taken_out) → new ≤ taken_out
  reached_start old new taken_out le h = ⊎_elim (λ e. omega arith) (λ e. omega arith) h

  -- what a link led to is held
  hold_seen : (cells : List ShapeCell) (taken_out : List RefParts) (start : ℕ) (note : Note) (u : RefParts) → IsSeen cells taken_out start note u → HoldFits s cells start u note
  hold_seen cells taken_out start note u x = let i : ℕ = u.index - 1 in let pos : 0 < u.index = x.is.some_index in let e : i + 1 ≡ u.index = omega arith in subst (λ (k : ℕ). HoldFits s cells start (refer k u.generation) note) e
      (⊎_elim (λ y. while_linked i u.generation x.is.marked x.is.body note y x.fits) (λ y. while_out i u.generation x.is.marked y.0 x.is.body note y.2 y.1 x.fits) x.is.at)

  -- or waits
  wait_seen : (cells : List ShapeCell) (taken_out : List RefParts) (start : ℕ) (note : Note) (u : RefParts) → IsSeen cells taken_out start note u → note.kept ≡ [] → WaitFits s cells taken_out start u note
  wait_seen cells taken_out start note u x bare = waits_reached s cells taken_out start u note x.is.body x.is.some_index x.is.was_linked (x.is.marked, ⊎_elim inl (λ y. inr (y.0, y.2)) x.is.at) x.fits (x.key_word, x.keyed) bare

  -- a hold that fits is of a record that is linked or was taken out
  node_of : (cells : List ShapeCell) (start : ℕ) (r : RefParts) (note : Note) → HoldFits s cells start r note → IsNode cells start r note
  node_of cells start _ _ (while_linked i generation marked body note at fits) = record {
    index = i;
    generation = generation;
    marked = marked;
    body = body;
    cell = linked generation body marked;
    at = at;
    fits = is_linked i generation marked body note at fits;
    reference = refl;
    behind = λ k e m b q. let none : ⊥ = cc in absurd none;
    has_body = refl;
  }
  node_of cells start _ _ (while_out i generation marked n body note at late fits) = record {
    index = i;
    generation = generation;
    marked = marked;
    body = body;
    cell = out generation body marked n;
    at = at;
    fits = is_out i generation marked n body note at fits;
    reference = refl;
    behind = λ k e m b q. let same : n ≡ k = cc in omega arith;
    has_body = refl;
  }

  module _ (places : ℕ) where
    -- the cells changed, or the count of records taken out grew, and each hold fits
    held_over : (cells cells' : List ShapeCell) (taken_out taken_out' : List RefParts) (g : Guard) (notes : List Note) → HeldFits s places cells taken_out g notes → length taken_out ≤ length taken_out'
        → ((r : RefParts) (note : Note) → HoldFits s cells g.start_taken_out r note → HoldFits s cells' g.start_taken_out r note)
        → ((r : RefParts) (note : Note) → WaitFits s cells taken_out g.start_taken_out r note → WaitFits s cells' taken_out' g.start_taken_out r note) → HeldFits s places cells' taken_out' g notes
    held_over cells cells' taken_out taken_out' g notes h le each wait = record {
      many = h.many;
      noted = h.noted;
      start = let a = h.start in omega arith;
      holds = λ p r note hold there. each r note (h.holds p r note hold there);
      keyed = h.keyed;
      waits = λ p r note e there. let w = h.waits p r note e there in (w.0, wait r note w.1);
    }

    -- a record that nobody could reach was linked
    pub held_hidden_linked : (cells : List ShapeCell) (taken_out : List RefParts) (g : Guard) (notes : List Note) (own : RefParts) (m : ℕ) (body : List ℕ) → HeldFits s places cells taken_out g notes → At cells (own.index - 1) hidden → 0 < own.index → IsNewGeneration s taken_out own
        → HeldFits s places (set cells (own.index - 1) (linked own.generation body m)) taken_out g notes
    held_hidden_linked cells taken_out g notes own m body h at some_own name = let i : ℕ = own.index - 1 in let generation : ℕ = own.generation in held_over cells (set cells i (linked generation body m)) taken_out taken_out g notes h (omega arith)
        (hold_set cells i g.start_taken_out hidden (linked generation body m) at (λ e k b n q fits. let none : ⊥ = cc in absurd none) (λ e k c b n q late fits. let none : ⊥ = cc in absurd none))
        (λ r note w. waits_linked s cells taken_out g.start_taken_out r own note body m at some_own name w)

    -- a linked record was taken out
    pub held_out : (cells : List ShapeCell) (taken_out : List RefParts) (g : Guard) (notes : List Note) (i generation m : ℕ) (body : List ℕ) → HeldFits s places cells taken_out g notes → At cells i (linked generation body m)
        → HeldFits s places (set cells i (out generation body m (length taken_out))) (taken_out ++ refer (i + 1) generation ∷ []) g notes
    held_out cells taken_out g notes i generation m body h at = let new : ShapeCell = out generation body m (length taken_out) in let cells' : List ShapeCell = set cells i new in let more = length-append taken_out (refer (i + 1) generation ∷ []) in
        held_over cells cells' taken_out (taken_out ++ refer (i + 1) generation ∷ []) g notes h (omega arith)
        (hold_set cells i g.start_taken_out (linked generation body m) new at
        (λ e k b n q fits. let same : generation ≡ e = cc in let word : body ≡ b = cc in
        subst (λ (z : ℕ). HoldFits s cells' g.start_taken_out (refer (i + 1) z) n) same
        (while_out i generation m (length taken_out) body n (set_here cells i new (below_at cells i (linked generation body m) at)) h.start (subst (FitsNote s n) (sym word) fits)))
        (λ e k c b n q late fits. let none : ⊥ = cc in absurd none))
        (λ r note w. waits_out s cells taken_out g.start_taken_out r note i generation m body at h.start w)

    -- a link of one record was left, and each settled word of it stayed
    pub held_relinked : (cells : List ShapeCell) (taken_out : List RefParts) (g : Guard) (notes : List Note) (i e m m' f generation : ℕ) (cell : ShapeCell) (body : List ℕ) (l : LinkParts) → HeldFits s places cells taken_out g notes → At cells i cell → HasBody cell e body m
        → 3 ≤ f → s.settled f body ≡ false → ((k : ℕ) → s.settled k body ≡ true → s.settled k (with_link body f generation l) ≡ true) → HeldFits s places (set cells i (recelled cell (with_link body f generation l) m')) taken_out g notes
    held_relinked cells taken_out g notes i e m m' f generation cell body l h at has is_link unsettled settled = held_over cells (set cells i (recelled cell (with_link body f generation l) m')) taken_out taken_out g notes h (omega arith)
        (hold_relinked f generation body l is_link unsettled settled cells i g.start_taken_out m m' cell e has at)
        (wait_relinked f generation body l is_link unsettled settled cells i g.start_taken_out m m' taken_out cell e has at)

    module _ (cells : List ShapeCell) (taken_out : List RefParts) (g g' : Guard) (notes : List Note) (p : ℕ) (t : Option RefParts) (note : Note) (h : HeldFits s places cells taken_out g notes) (only : HoldsOnly g' g p t)
        (here : (r : RefParts) → At g'.holds p (Some r) → t ≡ Some r) (seen : (u : RefParts) → t ≡ Some u → IsSeen cells taken_out g'.start_taken_out note u) where
      -- the new hold
      seen_at : (q : ℕ) (r : RefParts) → At g'.holds q (Some r) → q ≡ p → IsSeen cells taken_out g'.start_taken_out note r
      seen_at q r hold e = seen r (here r (subst (λ (k : ℕ). At g'.holds k (Some r)) e hold))

      -- any other hold was there before
      was_held : (q : ℕ) (r : RefParts) → At g'.holds q (Some r) → q ≢ p → At g.holds q (Some r) × (start_of g ≡ start_of g')
      was_held q r hold ne = ⊎_elim (λ a. a) (λ a. absurd (ne a.0)) (only q r hold)

      -- the caller followed a link, and made a note of the record that it came to
      pub held_reached : length g'.holds ≡ length g.holds → (g'.start_taken_out ≡ g.start_taken_out) ⊎ (g'.start_taken_out ≡ length taken_out) → note.kept ≡ []
          → ((q : ℕ) (r : RefParts) → g'.pending ≡ Some (q, r) → (q ≡ p) × (t ≡ Some r) × ((u : RefParts) → ¬ At g'.holds p (Some u))) → HeldFits s places cells taken_out g' (set notes p note)
      held_reached many start bare pends = record {
        many = many ∙ h.many;
        noted = length-set notes p note ∙ h.noted;
        start = reached_start g.start_taken_out g'.start_taken_out (length taken_out) h.start start;
        holds = λ q r n hold there. ⊎_elim (λ a. subst (HoldFits s cells g'.start_taken_out r) a.1 (hold_seen cells taken_out g'.start_taken_out note r (seen_at q r hold a.0)))
            (λ a. let was = was_held q r hold a.0 in subst (λ (k : ℕ). HoldFits s cells k r n) (ap (λ (z : Start). z.taken_out) was.1) (h.holds q r n was.0 a.1)) (at_set notes p q note n there);
        keyed = λ q r n hold there. ⊎_elim (λ a. let x = seen_at q r hold a.0 in (x.key_word, ap (λ (z : Note). get_elem? z.words 1) (sym a.1) ∙ x.keyed))
            (λ a. h.keyed q r n (was_held q r hold a.0).0 a.1) (at_set notes p q note n there);
        waits = λ q r n e there. let x = pends q r e in (
          subst (λ (k : ℕ). (u : RefParts) → ¬ At g'.holds k (Some u)) (sym x.0) x.2,
          ⊎_elim (λ a. subst (WaitFits s cells taken_out g'.start_taken_out r) a.1 (wait_seen cells taken_out g'.start_taken_out note r (seen r x.1) bare)) (λ a. absurd (a.0 x.0)) (at_set notes p q note n there),
        );
      }

    -- what a caller holds is a record that a step can be on
    pub fits_node : (cells : List ShapeCell) (taken_out : List RefParts) (g : Guard) (notes : List Note) (p : ℕ) (r : RefParts) (note : Note) → HeldFits s places cells taken_out g notes → At g.holds p (Some r) → At notes p note → IsNode cells g.start_taken_out r note
    fits_node cells taken_out g notes p r note h hold there = node_of cells g.start_taken_out r note (h.holds p r note hold there)

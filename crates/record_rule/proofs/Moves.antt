-- The moves that a set sees: a link is exchanged, and a record is linked, taken out or retired.
use Rattle.std.proofs.Common.{◌≡◌, ◌≢◌, ℕ, ◌+◌, ◌-◌, ◌<◌, ◌≤◌, ◌↔◌, List, [], map, length, get_or, drop, set, length-set, cond, eqb, sum_by, sym, refl, ap, ◌∙◌, subst, arith, Option, Some, None, get_or-set_same}
use Rattle.std.proofs.lemmas.List.{map-set, set-set, take-set-le, drop-set-lt}
use mathlib.Core.Option.{some}
use lib.ListN.{get_elem?}
use Rattle.atomic_table.proofs.Lists.{set_here, at_map}
use Rattle.record_memory.specs.declared.steps.Word.TheVariants.{Field}
use Rattle.record_memory.specs.declared.books.Setup.{Setup}
use Rattle.record_memory.specs.declared.books.Book.{Book}
use Rattle.record_memory.specs.declared.books.Share.{Share}
use Rattle.record_memory.specs.declared.books.Standing.{Standing}
use Rattle.record_memory.specs.declared.books.Standing.TheVariants.{Handing, Own, Spare, TakenOut, Limbo, Free}
use Rattle.record_memory.specs.declared.books.Place.{Place}
use Rattle.record_memory.specs.declared.books.Place.TheVariants.{Undrawn, Shelved, Root, Linked, Of}
use Rattle.record_memory.specs.Memory.{Memory, put, row_at}
use Rattle.record_memory.proofs.Stores.{drop-set_from}
use Rattle.row_words.specs.Packing.{own_in, number_in, IsPackedLink}
use Rattle.record_rule.specs.Records.{Record, IsLinkField, IsSound, share_at, share, carried, IsLinkIn}
use Rattle.record_rule.specs.Inputs.{ShapeCell, hidden, root, linked, out, shape_at, shape_cell, SchemeCell, unpublished, reachable, unretired, limbo, birth, scheme_at, scheme_cell, TakenCell, untaken, was_taken, taken_at, taken_cell}
use Rattle.record_rule.specs.Laws.{recelled}
use Rattle.record_rule.specs.Shelves.{PoolCell, off, pool_at, pool_cell, ShelvesFit}
use Rattle.record_rule.specs.World.{IsLeft, BookFits, overshoot, Places}
use Rattle.record_rule.proofs.Lists.{below_at, get_at, each_set, got_set, map_set_same}
use Rattle.record_rule.proofs.Owned.{share_of, seen_by, unseen_by}
use Rattle.record_rule.proofs.Quiet.{same_overshoot, past_before, books_after}
use Rattle.record_rule.proofs.Fields.{left_same, with_word, Stores, owner_places, number_stays}

-- a set may exchange a link of the record: it is a root or linked, or was taken out and isn't free again
abbrev pub IsSeenOrRoot : Place → Type 0
IsSeenOrRoot Root = Unit {0}
IsSeenOrRoot Linked = Unit {0}
IsSeenOrRoot (Of c TakenOut) = Unit {0}
IsSeenOrRoot (Of c Limbo) = Unit {0}
IsSeenOrRoot p = ⊥

-- the record may move: it was handed out, is no root and isn't free
abbrev pub IsMovable : Place → Type 0
IsMovable (Shelved k) = ⊥
IsMovable Undrawn = ⊥
IsMovable Root = ⊥
IsMovable (Of c (Handing n)) = ⊥
IsMovable (Of c Free) = ⊥
IsMovable p = Unit {0}

-- the record after a store of one of its links, with another marked position
abbrev pub relinked_record : ℕ → ℕ → ℕ → Record → Record
relinked_record f value marked r = record r { row = set r.row f value; marked = marked }

-- the record after a move, with the numbers that say how it came there
abbrev pub moved_record : Place → ℕ → ℕ → ℕ → Record → Record
moved_record p n e marked r = record r { place = p; taken_number = n; retired = e; marked = marked }

-- the record after it was linked
abbrev pub published_record : Record → Record
published_record r = record r { place = Linked; marked = 0 }

-- after caller c took it out, as number n
abbrev pub taken_record : ℕ → ℕ → Record → Record
taken_record c n r = record r { place = Of c TakenOut; taken_number = n }

-- after caller c retired it at epoch e, with a stamp
abbrev pub retired_record : ℕ → ℕ → ℕ → Record → Record
retired_record c e value r = record r { place = Of c Limbo; retired = e; row = set r.row 2 value }

-- but for a record that is being handed out, all eight words carry its generation
pub whole : (p : Place) (generation f : ℕ) → ((c n : ℕ) → p ≢ Of c (Handing n)) → carried p generation f ≡ generation
whole (Of c (Handing n)) generation f h = absurd (h c n refl)
whole p generation f h = refl

-- no caller sees the step, since a caller knows the first three words alone of a record that a set sees
share_seen : (d : ℕ) (p : Place) (f value marked : ℕ) (r : Record) → 3 ≤ f → IsSeenOrRoot p → share_at d p (relinked_record f value marked r) ≡ share_at d p r
share_seen d Root f value marked r le h = refl
share_seen d Linked f value marked r le h = refl
share_seen d (Of c TakenOut) f value marked r le h = ap (λ (l : List ℕ). cond (eqb c d) (Some (record { standing = TakenOut; generation = r.generation; taken_number = r.taken_number; words = l })) None) (take-set-le 3 r.row f value le)
share_seen d (Of c Limbo) f value marked r le h = ap (λ (l : List ℕ). cond (eqb c d) (Some (record { standing = Limbo; generation = r.generation; taken_number = r.taken_number; words = l })) None) (take-set-le 3 r.row f value le)
share_seen d p f value marked r le h = absurd h

-- no shelf sees a record that a set sees, nor one that may move
pool_seen : (p : Place) (f value marked : ℕ) (r : Record) → IsSeenOrRoot p → pool_at p (relinked_record f value marked r) ≡ pool_at p r
pool_seen (Shelved k) f value marked r h = absurd h
pool_seen p f value marked r h = refl

pool_moved : (p : Place) (r : Record) → IsMovable p → pool_at p r ≡ off
pool_moved (Shelved k) r h = absurd h
pool_moved p r h = refl

module _ (setup : Setup) where
  -- after one record changed that stays drawn, or stays undrawn
  pub places_after : (records : List Record) (books books' : List Book) (m : Memory) (rows : List (List ℕ)) (k : ℕ) (r r' : Record) → Places setup records books m → get_elem? records k ≡ some r
      → (r'.place ≡ Undrawn) ↔ (r.place ≡ Undrawn) → map (λ (x : Record). x.row) (set records k r') ≡ rows → IsSound setup k r' → pool_cell r' ≡ pool_cell r → length books' ≡ length books → sum_by overshoot books' ≡ sum_by overshoot books
      → ((c : ℕ) (b : Book) → get_elem? books' c ≡ some b → BookFits setup (record m { rows = rows }) (set records k r') c b)
      → Places setup (set records k r') books' record m { rows = rows }
  places_after records books books' m rows k r r' p there drawn are sound unseen many weight fit = let m' : Memory = record m { rows = rows } in record {
    many = length-set records k r' ∙ p.many;
    rows = are;
    sound = each_set (IsSound setup) records k r' p.sound sound;
    left = each_set (λ i x. IsLeft setup m' i → x.place ≡ Undrawn) records k r' (λ i x e l. p.left i x e (left_same setup.allocator setup m' m i refl refl l)) (λ l. drawn.1 (p.left k r there (left_same setup.allocator setup m' m k refl refl l)));
    undrawn = each_set (λ i x. x.place ≡ Undrawn → IsLeft setup m' i) records k r' (λ i x e u. left_same setup.allocator setup m m' i refl refl (p.undrawn i x e u)) (λ u. left_same setup.allocator setup m m' k refl refl (p.undrawn k r there (drawn.0 u)));
    drawn = subst (λ (z : ℕ). m.drawn ≤ setup.records + z) (sym weight) p.drawn;
    untouched = p.untouched;
    shelves = subst (λ (l : List PoolCell). ShelvesFit l m.shelves) (sym (map_set_same pool_cell records k r r' there unseen)) p.shelves;
    callers = many ∙ p.callers;
    books_fit = fit;
  }

  -- the record is sound after the store
  relinked_sound : (i f value marked : ℕ) (r : Record) → 3 ≤ f → f < 8 → IsSeenOrRoot r.place → own_in value ≡ r.generation → (IsLinkField f → IsPackedLink value) → IsSound setup i r → IsSound setup i (relinked_record f value marked r)
  relinked_sound i f value marked r low high seen own packed s = let all : (g : ℕ) → carried r.place r.generation g ≡ r.generation = λ g. whole r.place r.generation g (λ c n e. subst IsSeenOrRoot e seen) in record {
    eight = length-set r.row f value ∙ s.eight;
    generations = λ g h. got_set (λ (n : ℕ). own_in n ≡ carried r.place r.generation g) r.row f g value 0 (let l = s.eight in omega arith) (λ e. own ∙ sym (all g)) (λ ne. s.generations g h);
    links = λ g is. got_set (IsLinkIn g) r.row f g value 0 (let l = s.eight in omega arith) (λ e. (packed (subst IsLinkField e is), λ one. absurd (omega arith))) (λ ne. s.links g is);
    within = s.within;
    roots = s.roots;
    no_root = s.no_root;
    root_generation = s.root_generation;
    unborn = s.unborn;
    blank = λ e. absurd (subst IsSeenOrRoot e seen);
    born = s.born;
    unfinished = s.unfinished;
    callers = s.callers;
    renewable = s.renewable;
    shelved = s.shelved;
  }

  -- after a store of a link of record i
  pub relinked_places : (records : List Record) (books : List Book) (m : Memory) (i f value marked : ℕ) (r : Record) → Places setup records books m → get_elem? records (i - 1) ≡ some r
      → 3 ≤ f → f < 8 → IsSeenOrRoot r.place → own_in value ≡ r.generation → (IsLinkField f → IsPackedLink value)
      → Places setup (set records (i - 1) (relinked_record f value marked r)) books (put m (Field i f) value)
  relinked_places records books m i f value marked r p there low high seen own packed = let k : ℕ = i - 1 in let new : Record = relinked_record f value marked r in
      let row : row_at m.rows i ≡ r.row = ap (λ (rs : List (List ℕ)). get_or rs k []) (sym p.rows) ∙ get_at (map (λ (x : Record). x.row) records) k r.row [] (at_map (λ (x : Record). x.row) records k r there) in
      places_after records books books m (put m (Field i f) value).rows k r new p there (λ e. e, λ e. e)
      (map-set (λ (x : Record). x.row) records k new ∙ (λ z. set (p.rows z) k (set (sym row z) f value)))
      (relinked_sound k f value marked r low high seen own packed (p.sound k r there)) (pool_seen r.place f value marked r seen) refl refl
      (λ d b e. let fit = p.books_fit d b e in record { number = fit.number; mine = fit.mine ∙ sym (map_set_same (share d) records k r new there (share_seen d r.place f value marked r low seen)); past = fit.past })

  -- a record that moves is as sound where it comes to
  moved_sound : (i : ℕ) (p : Place) (n e marked : ℕ) (r : Record) → IsMovable r.place → IsMovable p → ((c : ℕ) (s : Standing) → p ≡ Of c s → c < setup.callers) → IsSound setup i r → IsSound setup i (moved_record p n e marked r)
  moved_sound i p n e marked r from to callers s = record {
    eight = s.eight;
    generations = λ f h. s.generations f h ∙ whole r.place r.generation f (λ c k q. subst IsMovable q from) ∙ sym (whole p r.generation f (λ c k q. subst IsMovable q to));
    links = s.links;
    within = s.within;
    roots = λ h. absurd (subst IsMovable (s.roots h) from);
    no_root = λ q. absurd (subst IsMovable q to);
    root_generation = λ q. absurd (subst IsMovable q to);
    unborn = λ q. absurd (subst IsMovable q to);
    blank = λ q. absurd (subst IsMovable q to);
    born = λ _. s.born (λ q. subst IsMovable q from);
    unfinished = λ c k q. absurd (subst IsMovable q to);
    callers = callers;
    renewable = λ c q. absurd (subst IsMovable q to);
    shelved = λ k q. absurd (subst IsMovable q to);
  }

  -- after a move of the record at k that no word shows, and that no other caller sees
  pub moved_places : (records : List Record) (books : List Book) (m : Memory) (c k : ℕ) (p : Place) (n e marked : ℕ) (b own : Book) (r : Record) → Places setup records books m → get_elem? books c ≡ some b → get_elem? records k ≡ some r
      → IsMovable r.place → IsMovable p → ((d : ℕ) (s : Standing) → p ≡ Of d s → d < setup.callers)
      → own.caller ≡ b.caller → own.mine ≡ set b.mine k (share c (moved_record p n e marked r)) → overshoot own ≡ overshoot b → ((d : ℕ) → d ≢ c → share d (moved_record p n e marked r) ≡ share d r)
      → Places setup (set records k (moved_record p n e marked r)) (set books c own) m
  moved_places records books m c k p n e marked b own r u at there from to callers caller mine weight others = let new : Record = moved_record p n e marked r in let book = u.books_fit c b at in
      places_after records books (set books c own) m m.rows k r new u there (λ q. absurd (subst IsMovable q to), λ q. absurd (subst IsMovable q from))
      (map_set_same (λ (x : Record). x.row) records k r new there refl ∙ u.rows) (moved_sound k p n e marked r from to callers (u.sound k r there)) (pool_moved p (moved_record p n e marked r) to ∙ sym (pool_moved r.place r from)) (length-set books c own) (same_overshoot books c b own at weight)
      (books_after setup m m records (set records k new) books c own (λ h. h) (λ d ne. map_set_same (share d) records k r new there (others d ne))
      record {
        number = caller ∙ book.number;
        mine = mine ∙ ap (λ xs. set xs k (share c new)) book.mine ∙ sym (map-set (share c) records k new);
        past = λ h. book.past (past_before b.drawing own.drawing weight h);
      } u.books_fit)

  -- a caller's book has a place
  caller_below : (records : List Record) (books : List Book) (m : Memory) (c : ℕ) (b : Book) → Places setup records books m → get_elem? books c ≡ some b → c < setup.callers
  caller_below records books m c b u at = let h = below_at books c b at in let e = u.callers in omega arith

  -- after caller c has linked the record, which was its own
  pub published_places : (records : List Record) (books : List Book) (m : Memory) (c k : ℕ) (b own : Book) (r : Record) → Places setup records books m → get_elem? books c ≡ some b → get_elem? records k ≡ some r
      → r.place ≡ Of c Own → own.caller ≡ b.caller → own.mine ≡ set b.mine k None → overshoot own ≡ overshoot b
      → Places setup (set records k (published_record r)) (set books c own) m
  published_places records books m c k b own r u at there is caller mine weight = moved_places records books m c k Linked r.taken_number r.retired 0 b own r u at there (subst IsMovable (sym is) tt) tt (λ d s q. let none : ⊥ = cc in absurd none)
      caller mine weight (λ d ne. sym (unseen_by c d Own r is ne))

  -- after caller c has taken the record out, which was linked
  pub taken_places : (records : List Record) (books : List Book) (m : Memory) (c k n : ℕ) (b own : Book) (r : Record) → Places setup records books m → get_elem? books c ≡ some b → get_elem? records k ≡ some r
      → r.place ≡ Linked → own.caller ≡ b.caller → own.mine ≡ set b.mine k (Some (share_of TakenOut (taken_record c n r))) → overshoot own ≡ overshoot b
      → Places setup (set records k (taken_record c n r)) (set books c own) m
  taken_places records books m c k n b own r u at there is caller mine weight = let new : Record = taken_record c n r in
      moved_places records books m c k (Of c TakenOut) n r.retired r.marked b own r u at there (subst IsMovable (sym is) tt) tt (λ d s q. let z : c ≡ d = cc in let h = caller_below records books m c b u at in omega arith)
      caller (mine ∙ ap (set b.mine k) (sym (seen_by c TakenOut new refl))) weight (λ d ne. unseen_by c d TakenOut new refl ne ∙ sym (ap (λ (p : Place). share_at d p r) is))

  -- the stamp carries the generation
  stores_stamp : (r : Record) (value : ℕ) → own_in value ≡ r.generation → Stores setup TakenOut TakenOut r 2 value
  stores_stamp r value own = record {
    below = omega arith;
    own = λ g h e. own;
    others = λ g h ne. refl;
    link = λ e. absurd (omega arith);
    unfinished = λ n e. let none : ⊥ = cc in absurd none;
    freed = λ e. let none : ⊥ = cc in absurd none;
  }

  -- after caller c has retired record i, which it had taken out: it stores the stamp, and then the record moves
  pub retired_places : (records : List Record) (books : List Book) (m : Memory) (c i e value : ℕ) (b own : Book) (r : Record) → Places setup records books m → get_elem? books c ≡ some b → get_elem? records (i - 1) ≡ some r
      → r.place ≡ Of c TakenOut → own_in value ≡ r.generation → own.caller ≡ b.caller → own.mine ≡ set b.mine (i - 1) (Some (share_of Limbo (retired_record c e value r))) → overshoot own ≡ overshoot b
      → Places setup (set records (i - 1) (retired_record c e value r)) (set books c own) (put m (Field i 2) value)
  retired_places records books m c i e value b own r u at there is stamp caller mine weight = let k : ℕ = i - 1 in let new : Record = retired_record c e value r in let stamped : Record = with_word c TakenOut r 2 value in
      let known : Option Share = Some (share_of TakenOut stamped) in let before : Book = record b { mine = set b.mine k known } in
      subst (λ (z : List Record × List Book). Places setup z.0 z.1 (put m (Field i 2) value)) (λ j. (set-set records k stamped new j, set-set books c before own j))
      (moved_places (set records k stamped) (set books c before) (put m (Field i 2) value) c k (Of c Limbo) r.taken_number e r.marked before own stamped
      (owner_places setup records books m c i 2 value TakenOut TakenOut b before r u at there is (stores_stamp r value stamp) refl refl refl)
      (set_here books c before (below_at books c b at)) (set_here records k stamped (below_at records k r there)) tt tt (λ d s q. let z : c ≡ d = cc in let h = caller_below records books m c b u at in omega arith)
      caller (mine ∙ sym (set-set b.mine k known (Some (share_of Limbo new))) ∙ ap (set before.mine k) (sym (seen_by c Limbo new refl))) weight
      (λ d ne. unseen_by c d Limbo new refl ne ∙ sym (unseen_by c d TakenOut stamped refl ne)))

-- how the facts see a record
pub record HasCells (r : Record) (shape : ShapeCell) (scheme : SchemeCell) (taken : TakenCell) : Type 0 where
  pub shape_is : shape_cell r ≡ shape
  pub scheme_is : scheme_cell r ≡ scheme
  pub taken_is : taken_cell r ≡ taken

-- by where it is
cells_at : (p : Place) (r : Record) → r.place ≡ p → HasCells r (shape_at p r) (scheme_at p r) (taken_at p r)
cells_at p r is = record { shape_is = ap (λ (q : Place). shape_at q r) is; scheme_is = ap (λ (q : Place). scheme_at q r) is; taken_is = ap (λ (q : Place). taken_at q r) is }

-- the set's facts see the store and the marked position
shape_relinked : (p : Place) (f value marked : ℕ) (r : Record) → 3 ≤ f → shape_at p (relinked_record f value marked r) ≡ recelled (shape_at p r) (set (drop 3 r.row) (f - 3) value) marked
shape_relinked Root f value marked r le = ap (λ (body : List ℕ). root r.generation body marked) (drop-set_from 3 f value r.row le)
shape_relinked Linked f value marked r le = ap (λ (body : List ℕ). linked r.generation body marked) (drop-set_from 3 f value r.row le)
shape_relinked (Of c TakenOut) f value marked r le = ap (λ (body : List ℕ). out r.generation body marked r.taken_number) (drop-set_from 3 f value r.row le)
shape_relinked (Of c Limbo) f value marked r le = ap (λ (body : List ℕ). out r.generation body marked r.taken_number) (drop-set_from 3 f value r.row le)
shape_relinked p f value marked r le = refl

-- the reclaimer's facts see nothing, as they read words 0 and 2
scheme_relinked : (p : Place) (f value marked : ℕ) (r : Record) → 3 ≤ f → scheme_at p (relinked_record f value marked r) ≡ scheme_at p r
scheme_relinked Linked f value marked r le = ap (reachable r.generation) (number_stays r 0 f value (λ e. omega arith))
scheme_relinked (Of c Own) f value marked r le = ap (unpublished c r.generation) (number_stays r 0 f value (λ e. omega arith))
scheme_relinked (Of c Spare) f value marked r le = ap (unpublished c r.generation) (number_stays r 0 f value (λ e. omega arith))
scheme_relinked (Of c TakenOut) f value marked r le = ap (λ (b : ℕ). unretired c r.generation b r.taken_number) (number_stays r 0 f value (λ e. omega arith))
scheme_relinked (Of c Limbo) f value marked r le = λ k. limbo c r.generation (number_stays r 0 f value (λ e. omega arith) k) r.taken_number (number_stays r 2 f value (λ e. omega arith) k) r.retired
scheme_relinked p f value marked r le = refl

-- nor does the list of those taken out
taken_relinked : (p : Place) (f value marked : ℕ) (r : Record) → taken_at p (relinked_record f value marked r) ≡ taken_at p r
taken_relinked (Of c (Handing n)) f value marked r = refl
taken_relinked p f value marked r = refl

-- how the facts see the record after the store
pub relinked_cells : (f value marked : ℕ) (r : Record) → 3 ≤ f → HasCells (relinked_record f value marked r) (recelled (shape_cell r) (set (drop 3 r.row) (f - 3) value) marked) (scheme_cell r) (taken_cell r)
relinked_cells f value marked r le = record { shape_is = shape_relinked r.place f value marked r le; scheme_is = scheme_relinked r.place f value marked r le; taken_is = taken_relinked r.place f value marked r }

-- how they see the record before and after each other move
pub published_cells : (c : ℕ) (r : Record) → r.place ≡ Of c Own
    → HasCells r hidden (unpublished c r.generation (birth r)) (untaken r.generation) × HasCells (published_record r) (linked r.generation (drop 3 r.row) 0) (reachable r.generation (birth r)) (taken_cell r)
published_cells c r is = let was = cells_at (Of c Own) r is in (was, record { shape_is = refl; scheme_is = refl; taken_is = sym was.taken_is })

-- when it is taken out
pub taken_cells : (c n : ℕ) (r : Record) → r.place ≡ Linked
    → HasCells r (linked r.generation (drop 3 r.row) r.marked) (reachable r.generation (birth r)) (untaken r.generation) × HasCells (taken_record c n r) (out r.generation (drop 3 r.row) r.marked n) (unretired c r.generation (birth r) n) (was_taken r.generation n)
taken_cells c n r is = (cells_at Linked r is, record { shape_is = refl; scheme_is = refl; taken_is = refl })

-- and when it is retired
pub retired_cells : (c e value : ℕ) (r : Record) → length r.row ≡ 8 → r.place ≡ Of c TakenOut
    → HasCells r (out r.generation (drop 3 r.row) r.marked r.taken_number) (unretired c r.generation (birth r) r.taken_number) (was_taken r.generation r.taken_number)
    × HasCells (retired_record c e value r) (shape_cell r) (limbo c r.generation (birth r) r.taken_number (number_in value) e) (taken_cell r)
retired_cells c e value r eight is = let was = cells_at (Of c TakenOut) r is in (
  was,
  record {
    shape_is = ap (λ (body : List ℕ). out r.generation body r.marked r.taken_number) (drop-set-lt 3 r.row 2 value (omega arith)) ∙ sym was.shape_is;
    scheme_is = λ k. limbo c r.generation (number_stays r 0 2 value (λ q. omega arith) k) r.taken_number (ap number_in (get_or-set_same r.row 2 value 0 (omega arith)) k) e;
    taken_is = sym was.taken_is;
  },
)

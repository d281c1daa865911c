-- The owner's steps on the words of a record that it has.
use Rattle.std.proofs.Common.{◌≡◌, ◌≢◌, ℕ, ◌+◌, ◌-◌, ◌<◌, ◌≤◌, List, [], map, get_or, take, set, length-set, Bool, true, false, cond, eqb, ltb, sym, refl, ap, ◌∙◌, subst, arith, ◌⊎◌, ⊎_elim, Some, get_or-set_other}
use Rattle.std.proofs.lemmas.List.{map-set, drop-set-lt}
use Rattle.std.proofs.lemmas.Bool.{eqb-true, eqb-false, lt-ltb, le-ltb, ne_eqb}
use mathlib.Core.Logic.{dite}
use native.Mathlib.Decide.{dec_le, ℕ_discrete}
use mathlib.Core.Option.{some}
use lib.ListN.{get_elem?}
use Rattle.atomic_table.proofs.Lists.{at_set, at_map}
use Rattle.set_model.specs.declared.names.AllocatorName.{AllocatorName}
use Rattle.set_model.specs.declared.names.AllocatorName.TheVariants.{Bump, Once}
use Rattle.record_memory.specs.declared.steps.Word.TheVariants.{Field}
use Rattle.record_memory.specs.declared.books.Setup.{Setup}
use Rattle.record_memory.specs.declared.books.Book.{Book}
use Rattle.record_memory.specs.declared.books.Standing.{Standing}
use Rattle.record_memory.specs.declared.books.Standing.TheVariants.{Handing, Own, Spare, TakenOut, Limbo, Free, Spent}
use Rattle.record_memory.specs.declared.books.Place.{Place}
use Rattle.record_memory.specs.declared.books.Place.TheVariants.{Undrawn, Root, Of}
use Rattle.record_memory.specs.Memory.{Memory, put, row_at}
use Rattle.record_memory.proofs.Stores.{take-set}
use Rattle.row_words.specs.Packing.{own_in, number_in}
use Rattle.record_rule.specs.Inputs.{hidden, out, shape_had, unpublished, unretired, limbo, scheme_had, untaken, taken_had}
use Rattle.record_rule.specs.Records.{Record, IsLinkField, IsSound, known, share, carried, carried_by, IsLinkIn}
use Rattle.record_rule.specs.Shelves.{PoolCell, pool_at, pool_cell, ShelvesFit}
use Rattle.record_rule.specs.World.{IsLeftBy, IsLeft, overshoot, Places}
use Rattle.record_rule.specs.Kinds.{MayStoreAs, EndsHanding, standing_after}
use Rattle.record_rule.proofs.Lists.{get_at, each_set, got_set, map_set_same}
use Rattle.record_rule.proofs.Owned.{share_of, seen_by, unseen_by}
use Rattle.record_rule.proofs.Quiet.{same_overshoot, books_after, past_before}

-- the count of records drawn, and the cursors, say what they said
pub left_same : (a : AllocatorName) (setup : Setup) (m m' : Memory) (i : ℕ) → m'.drawn ≡ m.drawn → m'.cursors ≡ m.cursors → IsLeftBy a setup m i → IsLeftBy a setup m' i
left_same Bump setup m m' i d c h = omega arith
left_same Once setup m m' i d c h = subst (λ (xs : List ℕ). IsLeftBy Once setup record m { cursors = xs } i) (sym c) h

-- where the records are depends neither on the epoch nor on what is announced
pub places_beside : (setup : Setup) (records : List Record) (books : List Book) (m : Memory) (epoch : ℕ) (announced : List ℕ) → Places setup records books m
    → Places setup records books record m { epoch = epoch; announced = announced }
places_beside setup records books m epoch announced p = let m' : Memory = record m { epoch = epoch; announced = announced } in record {
  many = p.many;
  rows = p.rows;
  sound = p.sound;
  left = λ i r e l. p.left i r e (left_same setup.allocator setup m' m i refl refl l);
  undrawn = λ i r e q. left_same setup.allocator setup m m' i refl refl (p.undrawn i r e q);
  drawn = p.drawn;
  untouched = p.untouched;
  shelves = p.shelves;
  callers = p.callers;
  books_fit = λ c b e. let f = p.books_fit c b e in record { number = f.number; mine = f.mine; past = f.past };
}

-- the record after its owner has stored a word of it
abbrev pub with_word : ℕ → Standing → Record → ℕ → ℕ → Record
with_word c s r f value = record r { place = Of c s; row = set r.row f value }

module _ (setup : Setup) where
  -- what has to be so of a stored word, and of the standing afterwards
  pub record Stores (s t : Standing) (r : Record) (f value : ℕ) : Type 0 where
    pub below : f < 8
    pub own : (g : ℕ) → g < 8 → g ≡ f → own_in value ≡ carried_by t r.generation g
    pub others : (g : ℕ) → g < 8 → g ≢ f → carried_by t r.generation g ≡ carried_by s r.generation g
    pub link : IsLinkField f → IsLinkIn f value
    pub unfinished : (n : ℕ) → t ≡ Handing n → n < 8
    pub freed : t ≡ Free → s ≡ Free

  -- so the record is sound afterwards
  sound_after : (i c : ℕ) (s t : Standing) (r : Record) (f value : ℕ) → r.place ≡ Of c s → IsSound setup i r → Stores s t r f value → IsSound setup i (with_word c t r f value)
  sound_after i c s t r f value at sound st = record {
    eight = length-set r.row f value ∙ sound.eight;
    generations = λ g h. got_set (λ (n : ℕ). own_in n ≡ carried_by t r.generation g) r.row f g value 0 (let l = sound.eight in let k = st.below in omega arith) (λ e. st.own g h e) (λ ne. sound.generations g h ∙ ap (λ (p : Place). carried p r.generation g) at ∙ sym (st.others g h ne));
    links = λ g is. got_set (IsLinkIn g) r.row f g value 0 (let l = sound.eight in let k = st.below in omega arith) (λ e. subst (λ (z : ℕ). IsLinkIn z value) (sym e) (st.link (subst IsLinkField e is))) (λ ne. sound.links g is);
    within = sound.within;
    roots = λ h. let none : ⊥ = (let e : Of c s ≡ Root = sym at ∙ sound.roots h in cc) in absurd none;
    no_root = λ e. let none : ⊥ = cc in absurd none;
    root_generation = λ e. let none : ⊥ = cc in absurd none;
    unborn = λ e. let none : ⊥ = cc in absurd none;
    blank = λ e. let none : ⊥ = cc in absurd none;
    born = λ _. sound.born (λ e. let none : ⊥ = (let k : Of c s ≡ Undrawn = sym at ∙ e in cc) in none);
    unfinished = λ d n e. st.unfinished n (let z : t ≡ Handing n = cc in z);
    callers = λ d w e. sound.callers d s (at ∙ (let z : c ≡ d = cc in ap (λ (k : ℕ). Of k s) z));
    shelved = λ k e. let none : ⊥ = cc in absurd none;
    renewable = λ d e. let is_free : t ≡ Free = cc in sound.renewable c (at ∙ ap (Of c) (st.freed is_free));
  }

  -- after the owner's store of word f of record i, which lies at p
  pub owner_places : (records : List Record) (books : List Book) (m : Memory) (c i f value : ℕ) (s t : Standing) (b own : Book) (r : Record) → Places setup records books m → get_elem? books c ≡ some b
      → get_elem? records (i - 1) ≡ some r → r.place ≡ Of c s → Stores s t r f value → own.caller ≡ b.caller → own.mine ≡ set b.mine (i - 1) (Some (share_of t (with_word c t r f value))) → overshoot own ≡ overshoot b
      → Places setup (set records (i - 1) (with_word c t r f value)) (set books c own) (put m (Field i f) value)
  owner_places records books m c i f value s t b own r p at there is st caller mine weight =
      let new : Record = with_word c t r f value in let k : ℕ = i - 1 in let book = p.books_fit c b at in let m' : Memory = put m (Field i f) value in
      let row : row_at m.rows i ≡ r.row = ap (λ (rs : List (List ℕ)). get_or rs k []) (sym p.rows) ∙ get_at (map (λ (x : Record). x.row) records) k r.row [] (at_map (λ (x : Record). x.row) records k r there) in record {
        many = length-set records k new ∙ p.many;
        rows = map-set (λ (x : Record). x.row) records k new ∙ (λ z. set (p.rows z) k (set (sym row z) f value));
        sound = each_set (IsSound setup) records k new p.sound (sound_after k c s t r f value is (p.sound k r there) st);
        left = λ j x e l. ⊎_elim (λ q. let none : ⊥ = (let u : r.place ≡ Undrawn = p.left k r there (subst (IsLeft setup m) q.0 (left_same setup.allocator setup m' m j refl refl l)) in let o : Of c s ≡ Undrawn = sym is ∙ u in cc) in absurd none)
            (λ q. p.left j x q.1 (left_same setup.allocator setup m' m j refl refl l)) (at_set records k j new x e);
        undrawn = λ j x e u. left_same setup.allocator setup m m' j refl refl (⊎_elim (λ q. let none : ⊥ = (let o : Of c t ≡ Undrawn = ap (λ (y : Record). y.place) q.1 ∙ u in cc) in absurd none) (λ q. p.undrawn j x q.1 u) (at_set records k j new x e));
        drawn = subst (λ (z : ℕ). m.drawn ≤ setup.records + z) (sym (same_overshoot books c b own at weight)) p.drawn;
        untouched = p.untouched;
        shelves = subst (λ (l : List PoolCell). ShelvesFit l m.shelves) (sym (map_set_same pool_cell records k r new there (sym (ap (λ (q : Place). pool_at q r) is)))) p.shelves;
        callers = length-set books c own ∙ p.callers;
        books_fit = books_after setup m m' records (set records k new) books c own (λ h. h)
            (λ d ne. map_set_same (share d) records k r new there (unseen_by c d t new refl ne ∙ sym (unseen_by c d s r is ne)))
            record {
              number = caller ∙ book.number;
              mine = mine ∙ ap (λ xs. set xs k (Some (share_of t new))) book.mine ∙ ap (λ h. set (map (share c) records) k h) (sym (seen_by c t new refl)) ∙ sym (map-set (share c) records k new);
              past = λ h. book.past (past_before b.drawing own.drawing weight h);
            } p.books_fit;
      }

-- below a number it is the first of the two
cond_below : (g n a b : ℕ) → g < n → cond (ltb g n) a b ≡ a
cond_below g n a b h = ap (λ (t : Bool). cond t a b) (lt-ltb g n h)

-- from it on, the second
cond_above : (g n a b : ℕ) → n ≤ g → cond (ltb g n) a b ≡ b
cond_above g n a b h = ap (λ (t : Bool). cond t a b) (le-ltb g n h)

module _ (setup : Setup) (r : Record) (f value : ℕ) (below : f < 8) (own : own_in value ≡ r.generation) (link : IsLinkField f → IsLinkIn f value) where
  -- a step that leaves the standing, where all eight words carry the generation
  stores_whole : (s : Standing) → ((g : ℕ) → carried_by s r.generation g ≡ r.generation) → ((n : ℕ) → s ≡ Handing n → ⊥) → Stores setup s s r f value
  stores_whole s whole none = record {
    below = below;
    own = λ g h e. own ∙ sym (whole g);
    others = λ g h ne. refl;
    link = link;
    unfinished = λ n e. absurd (none n e);
    freed = λ e. e;
  }

  -- a store of a handing out
  stores_handing : (n : ℕ) (t : Bool) → eqb n 7 ≡ t → f ≡ n → Stores setup (Handing n) (cond t Own (Handing (n + 1))) r f value
  stores_handing n true is e = let seven = eqb-true n 7 is in record {
    below = below;
    own = λ g h _. own;
    others = λ g h ne. sym (cond_below g n r.generation (r.generation - 1) (omega arith));
    link = link;
    unfinished = λ k q. let none : ⊥ = cc in absurd none;
    freed = λ q. let none : ⊥ = cc in absurd none;
  }
  stores_handing n false is e = let not_seven = eqb-false n 7 is in record {
    below = below;
    own = λ g h q. own ∙ sym (cond_below g (n + 1) r.generation (r.generation - 1) (omega arith));
    others = λ g h ne. dite (dec_le n g) (λ le. cond_above g (n + 1) r.generation (r.generation - 1) (omega arith) ∙ sym (cond_above g n r.generation (r.generation - 1) le))
        (λ lt. cond_below g (n + 1) r.generation (r.generation - 1) (omega arith) ∙ sym (cond_below g n r.generation (r.generation - 1) (omega arith)));
    link = link;
    unfinished = λ k q. let z : n + 1 ≡ k = cc in omega arith;
    freed = λ q. let none : ⊥ = cc in absurd none;
  }

  -- each store that an owner may make
  pub stores_as : (s : Standing) → MayStoreAs s f → Stores setup s (standing_after s) r f value
  stores_as (Handing n) h = stores_handing n (eqb n 7) refl h
  stores_as Own h = stores_whole Own (λ g. refl) (λ n e. cc)
  stores_as Spare h = stores_whole Spare (λ g. refl) (λ n e. cc)
  stores_as TakenOut h = stores_whole TakenOut (λ g. refl) (λ n e. cc)
  stores_as Limbo h = stores_whole Limbo (λ g. refl) (λ n e. cc)
  stores_as Free h = stores_whole Free (λ g. refl) (λ n e. cc)
  stores_as Spent h = stores_whole Spent (λ g. refl) (λ n e. cc)

-- what the caller knows of the record afterwards
known_whole : (f value : ℕ) (row : List ℕ) → f < 3 → take 3 (set row f value) ≡ set (take 3 row) f value
known_whole f value row h = take-set 3 f value row h

-- of a record that is handed out, the whole row
known_handing : (n : ℕ) (t : Bool) (f value : ℕ) (row : List ℕ) → known (cond t Own (Handing (n + 1))) (set row f value) ≡ set row f value
known_handing n true f value row = refl
known_handing n false f value row = refl

-- of each record that it has
pub known_after : (s : Standing) (f value : ℕ) (row : List ℕ) → MayStoreAs s f → known (standing_after s) (set row f value) ≡ set (known s row) f value
known_after (Handing n) f value row h = known_handing n (eqb n 7) f value row
known_after Own f value row h = refl
known_after Spare f value row h = refl
known_after s f value row h = known_whole f value row (omega arith)

-- the set's facts do not see the step
hidden_handing : (n : ℕ) (t : Bool) (r : Record) → shape_had (cond t Own (Handing (n + 1))) r ≡ hidden
hidden_handing n true r = refl
hidden_handing n false r = refl

-- wherever the record is
pub shape_unmoved : (c : ℕ) (s : Standing) (r : Record) (f value : ℕ) → MayStoreAs s f → shape_had (standing_after s) (with_word c (standing_after s) r f value) ≡ shape_had s r
shape_unmoved c (Handing n) r f value h = hidden_handing n (eqb n 7) (with_word c (cond (eqb n 7) Own (Handing (n + 1))) r f value)
shape_unmoved c TakenOut r f value h = ap (λ (b : List ℕ). out r.generation b r.marked r.taken_number) (drop-set-lt 3 r.row f value (omega arith))
shape_unmoved c Limbo r f value h = ap (λ (b : List ℕ). out r.generation b r.marked r.taken_number) (drop-set-lt 3 r.row f value (omega arith))
shape_unmoved c s r f value h = refl

-- nor does the list of those taken out
untaken_handing : (n : ℕ) (t : Bool) (r : Record) → taken_had (cond t Own (Handing (n + 1))) r ≡ untaken r.generation
untaken_handing n true r = refl
untaken_handing n false r = refl

-- wherever the record is
pub taken_unmoved : (c : ℕ) (s : Standing) (r : Record) (f value : ℕ) → MayStoreAs s f → taken_had (standing_after s) (with_word c (standing_after s) r f value) ≡ taken_had s r
taken_unmoved c (Handing n) r f value h = untaken_handing n (eqb n 7) (with_word c (cond (eqb n 7) Own (Handing (n + 1))) r f value)
taken_unmoved c s r f value h = refl

-- nor do the reclaimer's facts, but for the step that ends a handing out
pub ends : (s : Standing) → Dec (EndsHanding s)
ends (Handing n) = ℕ_discrete n 7
ends s = no (λ e. e)

-- each other word stays
pub number_stays : (r : Record) (g f value : ℕ) → g ≢ f → number_in (get_or (set r.row f value) g 0) ≡ number_in (get_or r.row g 0)
number_stays r g f value ne = ap number_in (get_or-set_other r.row f g value 0 ne)

-- it isn't word 0
own_field : (f : ℕ) → (f ≡ 1) ⊎ ((3 ≤ f) × (f < 8)) → 0 ≢ f
own_field f h e = ⊎_elim (λ q. omega arith) (λ q. omega arith) h

-- where no handing out ends
pub scheme_unmoved : (c : ℕ) (s : Standing) (r : Record) (f value : ℕ) → MayStoreAs s f → ¬ EndsHanding s → scheme_had c (standing_after s) (with_word c (standing_after s) r f value) ≡ scheme_had c s r
scheme_unmoved c (Handing n) r f value h more = ap (λ (t : Bool). scheme_had c (cond t Own (Handing (n + 1))) (with_word c (cond t Own (Handing (n + 1))) r f value)) (ne_eqb n 7 more)
scheme_unmoved c Own r f value h more = ap (unpublished c r.generation) (number_stays r 0 f value (own_field f h))
scheme_unmoved c Spare r f value h more = ap (unpublished c r.generation) (number_stays r 0 f value (λ e. omega arith))
scheme_unmoved c TakenOut r f value h more = ap (λ (b : ℕ). unretired c r.generation b r.taken_number) (number_stays r 0 f value (λ e. omega arith))
scheme_unmoved c Limbo r f value h more = λ k. limbo c r.generation (number_stays r 0 f value (λ e. omega arith) k) r.taken_number (number_stays r 2 f value (λ e. omega arith) k) r.retired
scheme_unmoved c Free r f value h more = refl
scheme_unmoved c Spent r f value h more = refl

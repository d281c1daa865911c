-- The swap of a shelf for 0: what stood there comes to the caller.
use Rattle.std.proofs.Common.{◌≡◌, ◌≢◌, ℕ, ◌+◌, ◌-◌, ◌/◌, ◌%◌, ◌^◌, ◌<◌, List, [], ◌∷◌, length, length-set, map, take, get_or, set, Bool, true, false, cond, eqb, Option, Some, None, sym, refl, ap, ◌∙◌, subst, arith, get_or-take, inl, inr}
use Rattle.std.specs.List.{count_by}
use Rattle.std.proofs.lemmas.Bool.{eqb-true}
use Rattle.std.proofs.lemmas.List.{length-take-le}
use native.Mathlib.Decide.{ℕ_discrete}
use mathlib.Core.Option.{some}
use lib.ListN.{get_elem?}
use Rattle.atomic_table.specs.Table.{State}
use Rattle.record_memory.specs.declared.steps.Word.TheVariants.{Shelf}
use Rattle.record_memory.specs.declared.steps.StepKind.TheVariants.{Swap}
use Rattle.record_memory.specs.declared.steps.Step.{Step}
use Rattle.record_memory.specs.declared.books.Setup.{Setup}
use Rattle.record_memory.specs.declared.books.View.{View}
use Rattle.record_memory.specs.declared.books.Book.{Book}
use Rattle.record_memory.specs.declared.books.Standing.TheVariants.{Free}
use Rattle.record_memory.specs.declared.books.Place.TheVariants.{Undrawn, Root, Shelved}
use Rattle.record_memory.specs.Memory.{Memory, memory, put}
use Rattle.record_memory.proofs.Stores.{stores, loads}
use Rattle.row_words.specs.Refs.{RefParts, IsRef}
use Rattle.row_words.specs.Packing.{packed_ref, ref_in, link_in}
use Rattle.record_rule.specs.Records.{IsSetup, Record, share}
use Rattle.record_rule.specs.Inputs.{guard_of, notes_of, roots_of, locks_of, answered_of, offer_of, Outline}
use Rattle.record_rule.specs.Facts.{At, ShapeFacts, CoverFacts}
use Rattle.record_rule.specs.Counts.{CountsFit, drawn_by, reused_by, retired_by, freed_by}
use Rattle.record_rule.specs.Kinds.{share_in, idle, advanced, made_step, is_idle, Lawful}
use Rattle.record_rule.specs.ChainRows.{row_in, row_of_share}
use Rattle.record_rule.specs.Links.{with_step}
use Rattle.record_rule.specs.Shelves.{PoolCell, on, pool_cell, ChainOn, HasChain, ShelfFits}
use Rattle.record_rule.specs.Shelving.{shelf_step, IsSparable, LeadsIn, TookChain, ToldTake}
use Rattle.record_rule.specs.World.{Places, Parts, Rule}
use Rattle.record_rule.proofs.Lists.{below_at, map_set_same}
use Rattle.record_rule.proofs.Owned.{share_of}
use Rattle.record_rule.proofs.Quiet.{calm_after}
use Rattle.record_rule.proofs.Counts.{sum_set}
use Rattle.record_rule.proofs.Rebuilt.{no_field, counters, elsewhere, rebuilt}
use Rattle.record_rule.proofs.Retirements.{retires_none}
use Rattle.record_rule.proofs.ShelfRetirements.{off_shows}
use Rattle.record_rule.proofs.Steps.{before, book, kept_calm}
use Rattle.record_rule.proofs.TakesFree.{read_with}
use Rattle.record_rule.proofs.ShelfCells.{chain_each, full_shelf}
use Rattle.record_rule.proofs.OffShelf.{off_records, off_shapes, off_schemes, off_takings, sum_drawn, sum_lives, sum_retired, sum_freed}
use Rattle.record_rule.proofs.OnShelf.{IsShelved, all_at, off_places, at_chain, on_unknown, off_known, off_other, off_more}

-- what a number was packed from
pub ref_packs : (n : ℕ) → packed_ref (ref_in n) ≡ n
unfolding packed_ref ref_in
ref_packs n = by (eqb n 0) refl
  where
    by : (b : Bool) → eqb n 0 ≡ b → packed_ref (cond b None (Some (record { index = n % 2 ^ 20; generation = n / 2 ^ 20 }))) ≡ n
    by true e = let z = eqb-true n 0 e in omega arith
    by false e = omega arith

-- how many records are idle
pub idle_is : (b : Book) → idle b ≡ count_by is_idle b.mine
unfolding idle
idle_is b = refl

-- a chain that isn't empty has a first record
pub first_of : (cells : List PoolCell) (k : ℕ) (head : Option RefParts) (refs : List RefParts) → ChainOn cells k head refs → length refs ≡ 32 → (r : RefParts) × (head ≡ Some r) × At refs 0 r
first_of cells k head [] c many = absurd (omega arith)
first_of cells k head (r ∷ rs) c many = (r, c.0, refl)

-- The callers' moves of records are as many with the records elsewhere
pub counts_beside : (first : ℕ) (c k d : ℕ) (records : List Record) (books : List Book) (b own : Book) → At books d b → own.moves ≡ b.moves → CountsFit first records books → CountsFit first (off_records c k records) (set books d own)
counts_beside first c k d records books b own at same h = record {
  drawn = let e = sum_set drawn_by books d b own at in let f : own.moves.drawn ≡ b.moves.drawn = ap (λ m. m.drawn) same in let g = h.drawn in let x = sum_drawn c k records in omega arith;
  reused = let e = sum_set reused_by books d b own at in let f : own.moves.reused ≡ b.moves.reused = ap (λ m. m.reused) same in let g = h.reused in let x = sum_lives c k first records in omega arith;
  retired = let e = sum_set retired_by books d b own at in let f : own.moves.retired ≡ b.moves.retired = ap (λ m. m.retired) same in let g = h.retired in let x = sum_retired c k first records in omega arith;
  freed = let e = sum_set freed_by books d b own at in let f : own.moves.freed ≡ b.moves.freed = ap (λ m. m.freed) same in let g = h.freed in let x = sum_freed c k first records in omega arith;
}

-- and as many the other way
pub counts_given : (first : ℕ) (c k d : ℕ) (records : List Record) (books : List Book) (b own : Book) → At books d b → own.moves ≡ b.moves → CountsFit first (off_records c k records) books → CountsFit first records (set books d own)
counts_given first c k d records books b own at same h = record {
  drawn = let e = sum_set drawn_by books d b own at in let f : own.moves.drawn ≡ b.moves.drawn = ap (λ m. m.drawn) same in let g = h.drawn in let x = sum_drawn c k records in omega arith;
  reused = let e = sum_set reused_by books d b own at in let f : own.moves.reused ≡ b.moves.reused = ap (λ m. m.reused) same in let g = h.reused in let x = sum_lives c k first records in omega arith;
  retired = let e = sum_set retired_by books d b own at in let f : own.moves.retired ≡ b.moves.retired = ap (λ m. m.retired) same in let g = h.retired in let x = sum_retired c k first records in omega arith;
  freed = let e = sum_set freed_by books d b own at in let f : own.moves.freed ≡ b.moves.freed = ap (λ m. m.freed) same in let g = h.freed in let x = sum_freed c k first records in omega arith;
}

module _ (shape : ShapeFacts) (cover : CoverFacts) (setup : Setup) (ok : IsSetup setup) (s : State (Unit {0}) View) (u : Rule shape cover setup s) (id : ℕ) (v : View) (at : get_elem? s.views id ≡ some v) (present : v.present ≡ true) (same : v.setup ≡ setup)
    (k : ℕ) (below : k < 16) where
  abbrev m : Memory
  m = memory setup.callers setup.records s.words

  abbrev c : ℕ
  c = v.own.caller

  abbrev n : ℕ
  n = get_or s.words (4 + k) 0

  -- what the word of the shelf says
  pub shelf_fits : ShelfFits (map pool_cell u.records) k n
  shelf_fits = subst (ShelfFits (map pool_cell u.records) k) (sym (loads setup.callers setup.records s.words (Shelf k) below)) (u.places.shelves.each k below)

  -- no root is on a shelf
  pub first_root : (r : Record) → At u.records 0 r → r.place ≢ Shelved k
  first_root r there is = let two : Shelved k ≡ Root = sym is ∙ (u.places.sound 0 r there).roots ok.roots in let none : ⊥ = cc in none

  pub mine_is : v.own.mine ≡ map (share c) u.records
  mine_is = (u.places.books_fit c v.own (book shape cover setup s u id v at present)).mine

  -- the step, the caller's book and what its pass knows afterwards
  abbrev t : Step
  t = shelf_step v Swap k n 0

  abbrev after : List Record
  after = off_records c k u.records

  abbrev own : Book
  own = record (with_step v.own v.setup.records t) { mine = map (share c) after }

  abbrev w : View
  w = record v { own = own }

  module _ (chain : HasChain (map pool_cell u.records) k (ref_in n)) where
    -- a record of the chain, which becomes the caller's
    pub record Gained (r : RefParts) (next : Option RefParts) : Type 0 where
      pub node : Record
      pub there : At u.records (r.index - 1) node
      pub on_shelf : IsShelved k r.generation next node
      pub had : share_in v r.index ≡ None
      pub has : share_in w r.index ≡ Some (share_of Free node)

    gained : (r : RefParts) (next : Option RefParts) → At (map pool_cell u.records) (r.index - 1) (on k r.generation next) → Gained r next
    gained r next here = let x = at_chain c k u.records (ref_in n) chain first_root (r.index - 1) r.generation next here in record {
      node = x.0;
      there = x.1;
      on_shelf = x.2;
      had = ap (λ l. get_or l (r.index - 1) None) mine_is ∙ on_unknown c k u.records (ref_in n) chain first_root (r.index - 1) x.0 x.1 x.2.place;
      has = off_known c k u.records (ref_in n) chain first_root (r.index - 1) x.0 x.1 x.2.place;
    }

    three_words : (node : Record) → length node.row ≡ 8 → length (take 3 node.row) ≡ 3
    three_words node eight = length-take-le 3 node.row (omega arith)

    sparable : (r : RefParts) (next : Option RefParts) → 0 < r.index → Gained r next → IsSparable w r
    sparable r next some_index g = let sound = u.places.sound (r.index - 1) g.node g.there in let low = below_at u.records (r.index - 1) g.node g.there in
        let records : v.setup.records ≡ setup.records = ap (λ (z : Setup). z.records) same in let generation = g.on_shelf.generation_is in let eight = three_words g.node sound.eight in record {
          owns = record {
            is_ref = record {
              index = (some_index, let f = ok.records in let q = u.places.many in omega arith);
              generation = (let f = ok.some_first in let b = sound.born (λ e. let two : Shelved k ≡ Undrawn = sym g.on_shelf.place ∙ e in let none : ⊥ = cc in none) in omega arith, let f = sound.within in omega arith);
            };
            within = let q = u.places.many in omega arith;
            share = share_of Free g.node;
            known = g.has;
            chained = tt;
            generation = generation;
            long = omega arith;
          };
          free = refl;
          three = eight;
        }

    -- its chain word is known, too
    next_known : (r : RefParts) (next : Option RefParts) → 0 < r.index → Gained r next → (row_in w r).next ≡ next
    next_known r next some_index g = ap (λ h. (row_of_share h).next) (read_with w r.index some_index ∙ g.has)
        ∙ ap (λ (z : ℕ). (link_in z).target) (get_or-take 3 g.node.row 1 0 (omega arith)) ∙ g.on_shelf.next_is

    leads_in : (head : Option RefParts) (refs : List RefParts) → ChainOn (map pool_cell u.records) k head refs → LeadsIn w head refs
    leads_in head [] l = l
    leads_in head (r ∷ rs) l = (l.0, subst (λ (z : Option RefParts). LeadsIn w z rs) (sym (next_known r l.2 l.1 (gained r l.2 l.3))) (leads_in l.2 rs l.4))

    -- this is what the caller knows then
    took : (r : RefParts) → ref_in n ≡ Some r → At chain.refs 0 r → (head : RefParts) × IsRef head × (n ≡ packed_ref (Some head)) × TookChain v k head w
    took r is first = let named : n ≡ packed_ref (Some r) = sym (ref_packs n) ∙ ap packed_ref is in (
      r,
      (each_sparable 0 r first).owns.is_ref,
      named,
      record {
        refs = chain.refs;
        chain = record {
          leads = subst (λ (z : Option RefParts). LeadsIn w z chain.refs) is (leads_in (ref_in n) chain.refs chain.leads);
          many = chain.many;
          distinct = chain.distinct;
          free = all_at (IsSparable w) chain.refs each_sparable;
        };
        had = all_at (λ (q : RefParts). share_in v q.index ≡ None) chain.refs (λ j q a. let e = chain_each k (map pool_cell u.records) (ref_in n) chain.refs chain.leads j q a in (gained q e.1 e.2).had);
        others = λ i apart. off_other c k u.records (ref_in n) chain first_root i apart ∙ ap (λ l. get_or l (i - 1) None) (sym mine_is);
        more = idle_more;
        mine = map (share c) after;
        view = ap (λ (z : ℕ). advanced v (shelf_step v Swap k z 0) (map (share c) after)) named;
      },
    )
      where
        each_sparable : (j : ℕ) (q : RefParts) → At chain.refs j q → IsSparable w q
        each_sparable j q a = let e = chain_each k (map pool_cell u.records) (ref_in n) chain.refs chain.leads j q a in sparable q e.1 e.0 (gained q e.1 e.2)

        idle_more : idle w.own ≡ idle v.own + 32
        idle_more = idle_is w.own ∙ off_more c k u.records (ref_in n) chain first_root ∙ ap (λ l. count_by is_idle l + 32) (sym mine_is) ∙ ap (λ (z : ℕ). z + 32) (sym (idle_is v.own))

    -- and the rule stays
    kept : Rule shape cover setup record { words = set s.words (4 + k) 0; homes = s.homes; views = set s.views id w }
    kept = let words' : List ℕ = set s.words (4 + k) 0 in let m' : Memory = memory setup.callers setup.records words' in let was : Outline = before shape cover setup s u in let mine = book shape cover setup s u id v at present in
        let put_is : m' ≡ put m (Shelf k) 0 = stores setup.callers setup.records s.words (Shelf k) 0 u.wide below in
        rebuilt shape cover setup s u id v at present words' (length-set s.words (4 + k) 0 ∙ u.wide) after own t (no_field setup c t refl (inr (inl refl)) (λ i f e. cc)) refl refl refl refl refl (elsewhere t (ap counters put_is) refl (λ e. cc))
        (retires_none setup.first u.records after t refl (off_shows c k setup.first u.records))
        (subst (Places setup after (set u.books c own)) (sym put_is) (off_places setup c k below u.records u.books m v.own own u.places mine refl refl (calm_after v.own.drawing v.setup.records t tt)))
        (subst (Parts shape cover setup) (λ z. record {
          shapes = sym (off_shapes c k u.records) z;
          schemes = sym (off_schemes c k u.records) z;
          takings = sym (off_takings c k u.records) z;
          taken_out = was.taken_out;
          updates = was.updates;
          epoch = ap (λ (x : Memory). x.epoch) (sym put_is) z;
          announced = ap (λ (x : Memory). x.announced) (sym put_is) z;
          guards = sym (map_set_same guard_of u.books c v.own own mine refl) z;
          notes = sym (map_set_same notes_of u.books c v.own own mine refl) z;
          roots = sym (map_set_same roots_of u.books c v.own own mine refl) z;
          offers = sym (map_set_same offer_of u.books c v.own own mine refl) z;
          locks = sym (map_set_same locks_of u.books c v.own own mine refl) z;
          answered = sym (map_set_same answered_of u.books c v.own own mine refl) z;
        }) u.parts)
        (counts_beside setup.first c k c u.records u.books v.own own mine refl u.counts)

module _ (shape : ShapeFacts) (cover : CoverFacts) (setup : Setup) (ok : IsSetup setup) where
  -- A caller may take what stands on a shelf, and leaves it empty
  pub takes_chain : (id k : ℕ) (v : View) → k < 16 → v.present ≡ true → v.setup ≡ setup → Lawful (Rule shape cover setup) id v (4 + k) (λ n. 0) (ToldTake v k)
  takes_chain id k v below present same s u at = by (ℕ_discrete (get_or s.words (4 + k) 0) 0)
    where
      by : Dec (get_or s.words (4 + k) 0 ≡ 0) → (w : View) × Rule shape cover setup record { words = set s.words (4 + k) 0; homes = s.homes; views = set s.views id w } × ToldTake v k (get_or s.words (4 + k) 0) w
      by (yes e) = let n : ℕ = get_or s.words (4 + k) 0 in let t : Step = shelf_step v Swap k n 0 in (
        made_step v t,
        subst (λ (z : ℕ). Rule shape cover setup record { words = set s.words (4 + k) z; homes = s.homes; views = set s.views id (made_step v t) }) e
            (kept_calm shape cover setup s u id v at present (4 + k) t (no_field setup v.own.caller t refl (inr (inl refl)) (λ i f q. cc)) (λ q. let none : ⊥ = cc in absurd none) tt),
        inl (e, ap (λ (z : ℕ). made_step v (shelf_step v Swap k z 0)) e),
      )
      by (no ne) = let n : ℕ = get_or s.words (4 + k) 0 in let chain = full_shelf (map pool_cell u.records) k n (shelf_fits shape cover setup ok s u id v at present same k below) ne in let first = first_of (map pool_cell u.records) k (ref_in n) chain.refs chain.leads chain.many in (
        w shape cover setup ok s u id v at present same k below,
        kept shape cover setup ok s u id v at present same k below chain,
        inr (took shape cover setup ok s u id v at present same k below chain first.0 first.1 first.2),
      )

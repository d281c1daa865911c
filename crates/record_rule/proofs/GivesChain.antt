-- The exchange of a shelf from 0 to the first reference of a chain: the chain goes from the caller to the shelf.
use Rattle.std.proofs.Common.{◌≡◌, ◌≢◌, ℕ, suc, ◌+◌, ◌-◌, ◌<◌, List, [], ◌∷◌, length, length-set, map, get_or, set, All, Bool, true, false, cond, eqb, Option, Some, None, sym, refl, ap, ◌∙◌, subst, arith, get_or-take, inr}
use Rattle.std.specs.List.{count_by}
use Rattle.std.proofs.lemmas.Bool.{eqb-true, eqb-false}
use mathlib.Core.Option.{some}
use lib.ListN.{get_elem?}
use Rattle.atomic_table.specs.Table.{State}
use Rattle.atomic_table.proofs.Lists.{at_map}
use Rattle.record_memory.specs.declared.steps.Word.TheVariants.{Shelf}
use Rattle.record_memory.specs.declared.steps.StepKind.TheVariants.{Exchange}
use Rattle.record_memory.specs.declared.steps.Step.{Step}
use Rattle.record_memory.specs.declared.books.Setup.{Setup}
use Rattle.record_memory.specs.declared.books.View.{View}
use Rattle.record_memory.specs.declared.books.Book.{Book}
use Rattle.record_memory.specs.declared.books.Share.{Share}
use Rattle.record_memory.specs.declared.books.Standing.{Standing}
use Rattle.record_memory.specs.declared.books.Standing.TheVariants.{Free}
use Rattle.record_memory.specs.declared.books.Place.{Place}
use Rattle.record_memory.specs.declared.books.Place.TheVariants.{Root, Shelved, Of}
use Rattle.record_memory.specs.Memory.{Memory, memory, put}
use Rattle.record_memory.proofs.Stores.{stores}
use Rattle.row_words.specs.Refs.{RefParts, IsRef}
use Rattle.row_words.specs.Packing.{packed_ref, ref_in, link_in}
use Rattle.row_words.proofs.Packed.{ref_in-packed_ref}
use Rattle.record_rule.specs.Records.{IsSetup, Record, share}
use Rattle.record_rule.specs.Inputs.{shape_cell, scheme_cell, taken_cell, guard_of, notes_of, roots_of, locks_of, answered_of, offer_of, Outline}
use Rattle.record_rule.specs.Facts.{At, ShapeFacts, CoverFacts}
use Rattle.record_rule.specs.Counts.{CountsFit}
use Rattle.record_rule.specs.Kinds.{share_in, made_step, is_idle, Lawful}
use Rattle.record_rule.specs.ChainRows.{row_in, row_of_share}
use Rattle.record_rule.specs.Links.{with_step}
use Rattle.record_rule.specs.Shelves.{on, pool_at, pool_cell, ChainOn, IsNamed, HasChain, IsBare}
use Rattle.record_rule.specs.Shelving.{shelf_step, IsSparable, LeadsIn, HasFreeChain, GaveChain, ToldGive}
use Rattle.record_rule.specs.World.{Places, Parts, Rule}
use Rattle.record_rule.proofs.Lists.{one_at, map_set_same}
use Rattle.record_rule.proofs.Owned.{share_of}
use Rattle.record_rule.proofs.Quiet.{calm_after}
use Rattle.record_rule.proofs.Rebuilt.{no_field, counters, elsewhere, rebuilt}
use Rattle.record_rule.proofs.Retirements.{ShowsSame, retires_none}
use Rattle.record_rule.proofs.ShelfRetirements.{on_shows}
use Rattle.record_rule.proofs.Steps.{before, book, kept_calm}
use Rattle.record_rule.proofs.Owners.{record_of}
use Rattle.record_rule.proofs.TakesFree.{read_with}
use Rattle.record_rule.proofs.ShelfCells.{bare_shelf}
use Rattle.record_rule.proofs.OffShelf.{off_records, off_shapes, off_schemes, off_takings}
use Rattle.record_rule.proofs.OnShelf.{all_at, at_all, on_places, on_unknown, off_other, off_more}
use Rattle.record_rule.proofs.PutShelf.{put_records, all_back, put_named, put_only}
use Rattle.record_rule.proofs.TakesChain.{idle_is, shelf_fits, mine_is, counts_given}

module _ (shape : ShapeFacts) (cover : CoverFacts) (setup : Setup) (ok : IsSetup setup) (s : State (Unit {0}) View) (u : Rule shape cover setup s) (id : ℕ) (v : View) (at : get_elem? s.views id ≡ some v) (present : v.present ≡ true) (same : v.setup ≡ setup)
    (k : ℕ) (below : k < 16) (head : RefParts) (refs : List RefParts) (has : HasFreeChain v head refs) (empty : get_or s.words (4 + k) 0 ≡ 0) where
  abbrev m : Memory
  m = memory setup.callers setup.records s.words

  abbrev c : ℕ
  c = v.own.caller

  abbrev value : ℕ
  value = packed_ref (Some head)

  -- a record of the chain is free of the caller, at its generation, with the words that it knows
  record Given (r : RefParts) : Type 0 where
    some_index : 0 < r.index
    node : Record
    there : At u.records (r.index - 1) node
    free : node.place ≡ Of c Free
    generation : node.generation ≡ r.generation
    next : (row_in v r).next ≡ (link_in (get_or node.row 1 0)).target

  given : (n : ℕ) (r : RefParts) → At refs n r → Given r
  given n r named = let x = at_all (IsSparable v) refs has.free n r named in let y = record_of shape cover setup s u id v at present r.index x.owns.share x.owns.known in
      let whole : x.owns.share ≡ share_of Free y.0 = y.3 ∙ ap (λ (q : Standing). share_of q y.0) x.free in record {
        some_index = x.owns.is_ref.index.0;
        node = y.0;
        there = y.1;
        free = y.2 ∙ ap (Of c) x.free;
        generation = sym (ap (λ (h : Share). h.generation) whole) ∙ x.owns.generation;
        next = ap (λ h. (row_of_share h).next) (read_with v r.index x.owns.is_ref.index.0 ∙ x.owns.known ∙ ap (λ (h : Share). Some h) whole) ∙ ap (λ (z : ℕ). (link_in z).target) (get_or-take 3 y.0.row 1 0 (omega arith));
      }

  named_free : (j : ℕ) (r : Record) → At u.records j r → IsNamed (0 + j) refs → r.place ≡ Of c Free
  named_free j r there x = let g = given x.0 x.1 x.2 in let i : j ≡ x.1.index - 1 = (let e = x.3 in omega arith) in
      ap (λ (q : Record). q.place) (one_at u.records (x.1.index - 1) r g.node (subst (λ (z : ℕ). At u.records z r) i there) g.there) ∙ g.free

  -- no record is on the shelf
  bare : IsBare (map pool_cell u.records) k
  bare = bare_shelf (map pool_cell u.records) k _ (shelf_fits shape cover setup ok s u id v at present same k below) empty

  none_on : (j : ℕ) (r : Record) → At u.records j r → r.place ≢ Shelved k
  none_on j r there is = bare j r.generation (link_in (get_or r.row 1 0)).target (at_map pool_cell u.records j r there ∙ ap some (ap (λ (p : Place). pool_at p r) is))

  -- the records afterwards, which came off the shelf are those before
  abbrev after : List Record
  after = put_records k refs 0 u.records

  back : off_records c k after ≡ u.records
  back = all_back c k refs 0 u.records named_free none_on

  -- no root is on the shelf
  first_root : (r : Record) → At after 0 r → r.place ≢ Shelved k
  first_root r there is = let x = put_only c k refs u.records none_on 0 r.generation (link_in (get_or r.row 1 0)).target (at_map pool_cell after 0 r there ∙ ap some (ap (λ (p : Place). pool_at p r) is)) in
      let g = given x.0 x.1 x.2 in let i : x.1.index - 1 ≡ 0 = (let e = x.3 in omega arith) in let root = (u.places.sound 0 g.node (subst (λ (z : ℕ). At u.records z g.node) i g.there)).roots ok.roots in
      let two : Of c Free ≡ Root = sym g.free ∙ root in let none : ⊥ = cc in none

  -- the chain on the shelf
  chain_on : (start : ℕ) (first : Option RefParts) (rest : List RefParts) → ((n : ℕ) (r : RefParts) → At rest n r → At refs (start + n) r) → LeadsIn v first rest → ChainOn (map pool_cell after) k first rest
  chain_on start first [] part l = l
  chain_on start first (r ∷ rs) part l = let named = part 0 r refl in let g = given (start + 0) r named in (
    l.0,
    g.some_index,
    (row_in v r).next,
    at_map pool_cell after (r.index - 1) (record g.node { place = Shelved k }) (put_named c k refs u.records (start + 0) r g.node named g.some_index g.there) ∙ ap some (λ z. on k (g.generation z) (sym g.next z)),
    chain_on (start + 1) (row_in v r).next rs (λ n q at. let e : start + suc n ≡ start + 1 + n = omega arith in subst (λ (j : ℕ). At refs j q) e (part (suc n) q at)) l.1,
  )

  is_head : ref_in value ≡ Some head
  is_head = ref_in-packed_ref (Some head) head_is
    where
      first : (rs : List RefParts) → LeadsIn v (Some head) rs → length rs ≡ 32 → All (IsSparable v) rs → IsRef head
      first [] l many all = absurd (omega arith)
      first (r ∷ rs) l many all = let e : head ≡ r = cc in subst IsRef (sym e) (all 0 r (omega arith)).owns.is_ref

      head_is : IsRef head
      head_is = first refs has.leads has.many has.free

  pub chain : HasChain (map pool_cell after) k (ref_in value)
  chain = record {
    refs = refs;
    leads = chain_on 0 (ref_in value) refs (λ n r at. let e : n ≡ 0 + n = omega arith in subst (λ (j : ℕ). At refs j r) e at) (subst (λ (z : Option RefParts). LeadsIn v z refs) (sym is_head) has.leads);
    many = has.many;
    distinct = has.distinct;
    all = put_only c k refs u.records none_on;
  }

  -- the step, the caller's book and what its pass knows afterwards
  abbrev t : Step
  t = shelf_step v Exchange k 0 value

  abbrev own : Book
  own = record (with_step v.own v.setup.records t) { mine = map (share c) after }

  abbrev w : View
  w = record v { own = own }

  mine_was : v.own.mine ≡ map (share c) (off_records c k after)
  mine_was = mine_is shape cover setup ok s u id v at present same k below ∙ ap (map (share c)) (sym back)

  -- this is what the caller knows then
  pub gave : GaveChain v k head refs w
  unfolding chain
  gave = record {
    gone = all_at (λ (r : RefParts). share_in w r.index ≡ None) refs (λ n r named. let g = given n r named in
        on_unknown c k after (ref_in value) chain first_root (r.index - 1) (record g.node { place = Shelved k }) (put_named c k refs u.records n r g.node named g.some_index g.there) refl);
    others = λ i apart. sym (off_other c k after (ref_in value) chain first_root i apart) ∙ ap (λ l. get_or l (i - 1) None) (sym mine_was);
    less = ap (λ (z : ℕ). z + 32) (idle_is w.own) ∙ sym (off_more c k after (ref_in value) chain first_root) ∙ ap (count_by is_idle) (sym mine_was) ∙ sym (idle_is v.own);
    mine = map (share c) after;
    view = refl;
  }

  -- and the rule stays
  pub kept : Rule shape cover setup record { words = set s.words (4 + k) value; homes = s.homes; views = set s.views id w }
  kept = let words' : List ℕ = set s.words (4 + k) value in let m' : Memory = memory setup.callers setup.records words' in let was : Outline = before shape cover setup s u in let mine = book shape cover setup s u id v at present in
      let put_is : m' ≡ put m (Shelf k) value = stores setup.callers setup.records s.words (Shelf k) value u.wide below in
      rebuilt shape cover setup s u id v at present words' (length-set s.words (4 + k) value ∙ u.wide) after own t (no_field setup c t refl (inr (inr refl)) (λ i f e. cc)) refl refl refl refl refl (elsewhere t (ap counters put_is) refl (λ e. cc))
      (retires_none setup.first u.records after t refl (subst (λ (l : List Record). ShowsSame setup.first l after) back (on_shows c k setup.first after)))
      (subst (Places setup after (set u.books c own)) (sym put_is) (on_places setup c k below after u.books m value v.own own (subst (λ (l : List Record). Places setup l u.books m) (sym back) u.places) mine chain refl refl (calm_after v.own.drawing v.setup.records t tt)))
      (subst (Parts shape cover setup) (λ z. record {
        shapes = (ap (map shape_cell) (sym back) ∙ off_shapes c k after) z;
        schemes = (ap (map scheme_cell) (sym back) ∙ off_schemes c k after) z;
        takings = (ap (map taken_cell) (sym back) ∙ off_takings c k after) z;
        taken_out = was.taken_out;
        updates = was.updates;
        epoch = ap (λ (x : Memory). x.epoch) (sym put_is) z;
        announced = ap (λ (x : Memory). x.announced) (sym put_is) z;
        guards = sym (map_set_same guard_of u.books c v.own own mine refl) z;
        notes = sym (map_set_same notes_of u.books c v.own own mine refl) z;
        roots = sym (map_set_same roots_of u.books c v.own own mine refl) z;
        offers = sym (map_set_same offer_of u.books c v.own own mine refl) z;
        locks = sym (map_set_same locks_of u.books c v.own own mine refl) z;
        answered = sym (map_set_same answered_of u.books c v.own own mine refl) z;
      }) u.parts)
      (counts_given setup.first c k c after u.books v.own own mine refl (subst (λ (l : List Record). CountsFit setup.first l u.books) (sym back) u.counts))

module _ (shape : ShapeFacts) (cover : CoverFacts) (setup : Setup) (ok : IsSetup setup) where
  -- A caller may put a chain of its own on an empty shelf
  pub gives_chain : (id k : ℕ) (v : View) (head : RefParts) (refs : List RefParts) → k < 16 → v.present ≡ true → v.setup ≡ setup → HasFreeChain v head refs
      → Lawful (Rule shape cover setup) id v (4 + k) (λ n. cond (eqb n 0) (packed_ref (Some head)) n) (ToldGive v k head refs)
  gives_chain id k v head refs below present same has s u at = by (eqb (get_or s.words (4 + k) 0) 0) refl
    where
      by : (b : Bool) → eqb (get_or s.words (4 + k) 0) 0 ≡ b
          → (w : View) × Rule shape cover setup record { words = set s.words (4 + k) (cond b (packed_ref (Some head)) (get_or s.words (4 + k) 0)); homes = s.homes; views = set s.views id w } × ToldGive v k head refs (get_or s.words (4 + k) 0) w
      by true e = let empty : get_or s.words (4 + k) 0 ≡ 0 = eqb-true (get_or s.words (4 + k) 0) 0 e in (
        w shape cover setup ok s u id v at present same k below head refs has empty,
        kept shape cover setup ok s u id v at present same k below head refs has empty,
        record { gave = λ _. gave shape cover setup ok s u id v at present same k below head refs has empty; refused = λ ne. absurd (ne empty) },
      )
      by false e = let n : ℕ = get_or s.words (4 + k) 0 in let t : Step = shelf_step v Exchange k n n in (
        made_step v t,
        kept_calm shape cover setup s u id v at present (4 + k) t (no_field setup v.own.caller t refl (inr (inr refl)) (λ i f q. cc)) (λ q. let none : ⊥ = cc in absurd none) tt,
        record { gave = λ is. absurd (eqb-false n 0 e is); refused = λ _. refl },
      )

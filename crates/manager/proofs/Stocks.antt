-- How many records a caller has spare, and how many it drew and became its own.
use Rattle.std.proofs.Common.{◌≡◌, Bool, None, ap, sym, ◌∙◌}
use Rattle.std.specs.List.{count_by}
use Rattle.record_memory.specs.declared.books.Moves.{Moves}
use Rattle.record_memory.specs.declared.books.View.{View}
use Rattle.record_memory.specs.declared.books.Standing.TheVariants.{Free, Spare}
use Rattle.row_words.specs.declared.links.Chain.{Chain}
use Rattle.record_rule.specs.Standings.{is_free, is_spare}
use Rattle.record_table.specs.declared.passes.Pass.{Pass}
use Rattle.record_table.specs.Handles.{view}
use Rattle.reclaim_api.specs.Frames.{is_as, had, LeavesRecords}
use Rattle.reclaim_api.proofs.Kept.{Stays}
use Rattle.record_pieces.specs.Spares.{KeepsSpares}
use Rattle.record_pieces.specs.Events.{KeepsStock}
use Rattle.manager.specs.Callers.{HasChains}
use Rattle.manager.proofs.Empty.{none_in}
use Rattle.manager.proofs.ChainCounts.{free_is, spare_is}
use Rattle.manager.proofs.Stay.{mine_stays}

-- a record that stays spare in the view is spare in the book
pub stays_kept : (v w : View) → Stays Spare v w → KeepsSpares v.own w.own
stays_kept v w stays r h = record { share = h.share; known = stays r.index h.share h.known h.spare; spare = h.spare; generation = h.generation }

-- after a call that leaves each record
pub stock_left : (v w : View) → LeavesRecords v w → KeepsStock v.own w.own
stock_left v w rest = record {
  spare = ap (λ m. count_by (is_as is_spare) m) rest.mine;
  kept = stays_kept v w (mine_stays Spare v w rest.mine);
  drawn = ap (λ (m : Moves). m.drawn) rest.moves;
  reused = ap (λ (m : Moves). m.reused) rest.moves;
  births = ap (λ (m : Moves). m.births) rest.moves;
}

module _ {S R L : Type 0} (is_local : L → Bool → View → View → Type 0) where
  module _ (p : Pass S R) (l : L) (free spare : Chain) (h : HasChains is_local p l free spare) where
    -- the spare chain has just the spare records
    pub spares_in : spare.count ≡ had is_spare (view p).own
    spares_in = spare_is (view p) free spare h.frees h.spares h.all

    -- a chain that has no first record shows that there is none
    pub no_spare : spare.head ≡ None → had is_spare (view p).own ≡ 0
    no_spare none = sym spares_in ∙ none_in Spare (view p) spare h.spares none

    pub no_free : free.head ≡ None → had is_free (view p).own ≡ 0
    no_free none = sym (free_is (view p) free spare h.frees h.spares h.all) ∙ none_in Free (view p) free h.frees none

  -- a spare chain of the same length shows that as many are spare
  pub spares_kept : (p q : Pass S R) (l m : L) (free spare free' spare' : Chain) → HasChains is_local p l free spare → HasChains is_local q m free' spare' → spare'.count ≡ spare.count → had is_spare (view q).own ≡ had is_spare (view p).own
  spares_kept p q l m free spare free' spare' h k same = sym (spares_in q m free' spare' k) ∙ same ∙ spares_in p l free spare h

-- What a load of the epoch leaves of the free chain, and what it allows of a record that was taken out.
use Rattle.std.proofs.Common.{◌≡◌, ℕ, [], sym, refl, subst}
use Rattle.record_memory.specs.declared.books.View.{View}
use Rattle.record_memory.specs.declared.books.Share.{Share}
use Rattle.record_memory.specs.declared.books.Standing.TheVariants.{Free}
use Rattle.row_words.specs.Refs.{RefParts}
use Rattle.row_words.specs.declared.links.Chain.{Chain}
use Rattle.record_rule.specs.Links.{HasTaken}
use Rattle.ibr_facts.specs.Keeping.{ibr}
use Rattle.reclaim_api.specs.Chained.{IsChainOf}
use Rattle.reclaim_api.proofs.Kept.{chain_stays}
use Rattle.reclaim_ibr.specs.Steps.{epoch_read, HasRead}

-- the free chain is what it was
pub read_free : (v w : View) (e : ℕ) → HasRead v e w → (free : Chain) → IsChainOf Free v free → IsChainOf Free w free
read_free v w e read free h = subst (λ (x : View). IsChainOf Free x free) (sym read.view) (record { list = (chain_stays Free v (epoch_read v e read.taken_out) refl (λ j x known is. known) free h).list })

-- a record that was taken out may be retired with it as its stamp
pub read_stamps : (v w : View) (e : ℕ) (r : RefParts) (h : Share) → HasRead v e w → v.own.guard.loaded ≡ [] → HasTaken v r h → HasTaken w r h × ibr.stamps w.own.guard h.taken_number e
read_stamps v w e r h read calm t = subst (λ (x : View). HasTaken x r h × ibr.stamps x.own.guard h.taken_number e) (sym read.view)
    (record { within = t.within; known = t.known; standing = t.standing; generation = t.generation; three = t.three }, (refl, read.behind r.index h t.known t.standing, calm))
